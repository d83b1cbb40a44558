-- The refusal of an action of an initiator is by the rows of its terms, where these are tied to what it has.
use Rattle.std.proofs.Common.{◌≡◌, ◌∙◌, refl, sym, ap, subst, ℕ, ◌&&◌, ◌||◌, not, is_none, is_some, Bool, true, false, cond, List, Option, Some, None}
use Rattle.sbp_initiator.proofs.FirstRow.{refusal_law}
use Rattle.sbp_initiator.specs.Acting.{act_step, facts_with}
use Rattle.sbp_initiator.specs.Refusals.{refusal, rows_of}
use Rattle.sbp_initiator.specs.Refusals as own_rows
use Rattle.sbp_initiator.specs.Refusing.{finds_label}
use Rattle.sbp_initiator.specs.States.{operation_in}
use Rattle.sbp_initiator.specs.declared.state.InitiatorState.{InitiatorState}
use Rattle.sbp_journal.specs.Outgoings.{OutboxState}
use Rattle.sbp_journal.specs.Rows.{Refusals, refusal_of}
use Rattle.sbp_journal.specs.Run.{Moment}
use Rattle.sbp_journal.specs.Wire.{terms}
use Rattle.sbp_journal.specs.declared.event.Action.{Action}
use Rattle.sbp_journal.specs.declared.event.Action.TheVariants as actions
use Rattle.sbp_journal.specs.declared.operation.Operation.{Operation}
use Rattle.sbp_laws.specs.Actions.{cuts_list, is_list_step, is_pointing, is_right_state, needs_rom, prepares, refusal_at, refusals, rings, running_operation}
use Rattle.sbp_laws.specs.Hosts.{Host, host_at, is_stuck}
use Rattle.sbp_session.specs.Seats.{points}
use Rattle.sbp_world.specs.Hosts.Acting.{HasRows}
use Rattle.sbp_world.specs.Hosts.Core.{Core, host_core, operation_by, own_core, session_in}
use Rattle.sbp_world.specs.Hosts.Fits.{AreRows}
use Rattle.sbp_world.specs.Hosts.Worlds.{IsHost}
use Rattle.sbp_world.proofs.Hosts.Acts.{NoRow}
use Rattle.sbp_world.proofs.Hosts.Deciding.{rows_same}
use Rattle.sbp_world.proofs.Hosts.Hosted.{cuts_same, worked, working, stuck_row, right_row, some_running}
use Rattle.sbp_world.proofs.Hosts.Telling.{action_law}
use Rattle.sbp_world.proofs.Lists.ManageActs.{same_operation}
use Rattle.sbp_world.proofs.Hosts.PointerRuns.{stuck_first}

-- ---- the two tables

needs_same : (action : Action) → needs_rom action ≡ own_rows.needs_rom action
needs_same actions.Rom = refl
needs_same _ = refl

steps_same : (action : Action) → is_list_step action ≡ own_rows.is_list_step action
steps_same actions.Rom = refl
steps_same _ = refl

cares_same : (action : Action) → (prepares action || rings action) ≡ (own_rows.prepares action || own_rows.rings action)
cares_same actions.Rom = refl
cares_same _ = refl

some_is : (operation : Option Operation) → not (is_none operation) ≡ is_some operation
some_is None = refl
some_is (Some operation) = refl

-- ---- what the terms are tied to
pub record Tied (past : List Moment) (i : ℕ) (s : InitiatorState) : Type 0 where
  pub host : IsHost past i s
  pub core : host_core (host_at past i) ≡ own_core s
  pub points : is_stuck (host_at past i).session ≡ false → is_pointing (terms past) (host_at past i).pointer ≡ points s.seat
  pub dead : (host_at past i).marked_dead ≡ s.marks.is_dead

same_where : (b x y : Bool) → (b ≡ true → x ≡ y) → (b && x) ≡ (b && y)
same_where true x y f = f refl
same_where false x y f = refl

under : (b : Bool) (n : ℕ) (x y : Option ℕ) → (b ≡ false → x ≡ y) → cond b (Some n) x ≡ cond b (Some n) y
under true n x y f = refl
under false n x y f = f refl

-- a last row that holds is asked for where no other does
last_row : (q : Refusals) (b : Bool) → (NoRow q → b ≡ q.no_label) → refusal_of (record q { no_label = b }) ≡ refusal_of q
last_row q b f =
    under q.stuck 1 _ _ (λ a. under q.wrong_state 2 _ _ (λ c. under q.no_rom 3 _ _ (λ d. under q.waiting 4 _ _ (λ e. under q.mid_link 5 _ _ (λ g.
    under q.not_linking 6 _ _ (λ h. under q.dead_seen 7 _ _ (λ k. under q.no_orb 8 _ _ (λ l. under q.no_slot 9 _ _ (λ m.
    ap (λ x. cond x (Some 10) None)
    (f (record { stuck = a; wrong_state = c; no_rom = d; waiting = e; mid_link = g; not_linking = h; dead_seen = k; no_orb = l; no_slot = m }))
    )))))))))

refused_same : (r q : Refusals) → r.stuck ≡ q.stuck → r.wrong_state ≡ q.wrong_state → r.no_rom ≡ q.no_rom → (r.stuck ≡ false → r.waiting ≡ q.waiting) → HasRows r q → r.dead_seen ≡ q.dead_seen → (NoRow q → r.no_label ≡ q.no_label)
    → refusal_of r ≡ refusal_of q
refused_same r q a b c d h e l = by r.stuck refl
  where
    by : (x : Bool) → r.stuck ≡ x → refusal_of r ≡ refusal_of q
    by true f = stuck_first r.stuck q.stuck a f _ _
    by false f =
        let z = record q { no_label = r.no_label } in
        rows_same r z a b (d f) (record { mid_link = h.mid_link; not_linking = h.not_linking; no_orb = h.no_orb; no_slot = h.no_slot }) (record { no_rom = c; dead_seen = e }) refl
        ∙ last_row q r.no_label l

module _ (past : List Moment) (i : ℕ) (s : InitiatorState) (tied : Tied past i s) (action : Action) where
  abbrev host : Host
  host = host_at past i

  session_is : host.session ≡ session_in s.seat
  session_is = ap (λ (c : Core). c.session) tied.core

  under_way : running_operation host.operation ≡ operation_in s.operation
  under_way = working host.operation ∙ ap (λ (c : Core). operation_by c.work) tied.core ∙ sym (worked s.operation)

  module _ (has_label : Bool) where
    abbrev pub told : Refusals
    told = refusals past i action host

    abbrev pub has : Refusals
    has = rows_of action (facts_with has_label s action)

    waits_same : host.session ≡ session_in s.seat → is_stuck host.session ≡ false → told.waiting ≡ has.waiting
    waits_same e f =
        let begins = own_rows.operation_of action in
        let pointing = is_pointing (terms past) host.pointer in
        let step = is_list_step action in
        let running = running_operation host.operation in
        ap (λ o. (not (is_none o) && not (is_none host.operation)) || (cuts_list o && pointing) || (step && cuts_list running)) (same_operation action)
        ∙ ap (λ b. (b && not (is_none host.operation)) || (cuts_list begins && pointing) || (step && cuts_list running)) (some_is begins)
        ∙ ap (λ b. (is_some begins && b) || (cuts_list begins && pointing) || (step && cuts_list running)) (some_running host.operation ∙ ap (λ o. is_some o) under_way)
        ∙ ap (λ b. (is_some begins && is_some (operation_in s.operation)) || (b && pointing) || (step && cuts_list running)) (cuts_same begins)
        ∙ ap (λ b. (is_some begins && is_some (operation_in s.operation)) || (own_rows.ends_list begins && b) || (step && cuts_list running)) (tied.points f)
        ∙ ap (λ b. (is_some begins && is_some (operation_in s.operation)) || (own_rows.ends_list begins && points s.seat) || (b && cuts_list running)) (steps_same action)
        ∙ ap (λ b. (is_some begins && is_some (operation_in s.operation)) || (own_rows.ends_list begins && points s.seat) || (own_rows.is_list_step action && b))
        (cuts_same running ∙ ap (λ o. own_rows.ends_list o) under_way)

    lists_same : HasRows told has
    lists_same =
        let h = tied.host in
        subst (λ j. HasRows (refusals past j action host) has) h.number (action_law.rows past s action host has_label (subst (λ j. AreRows past j s.lists.slots) (sym h.number) h.rows))

    dead_same : told.dead_seen ≡ has.dead_seen
    dead_same = ap (λ b. b && host.marked_dead) (cares_same action) ∙ ap (λ b. (own_rows.prepares action || own_rows.rings action) && b) tied.dead

    -- where the rows of the ROM and of a label are those that it has
    module _ (l : NoRow has → told.no_label ≡ has.no_label) (rom : own_rows.needs_rom action ≡ true → is_none host.management ≡ not (is_some s.management)) where
      told_as : refusal_of told ≡ refusal_of has
      told_as =
          refused_same told has (ap is_stuck session_is ∙ stuck_row s.seat) (ap (λ x. not (is_right_state action x)) session_is ∙ ap not (right_row action s.seat))
          (ap (λ b. b && is_none host.management) (needs_same action) ∙ same_where (own_rows.needs_rom action) _ _ rom)
          (waits_same session_is) lists_same dead_same l

  -- so an action is refused as the rows say
  module _ (o : OutboxState) (l : NoRow (has (finds_label action s)) → (told (finds_label action s)).no_label ≡ (has (finds_label action s)).no_label) (rom : own_rows.needs_rom action ≡ true → is_none host.management ≡ not (is_some s.management)) where
    pub refuses_as : refusal_at past i action ≡ (act_step action o s).0
    unfolding refusal
    refuses_as = told_as (finds_label action s) l rom ∙ sym (refusal_law.first action o s)
