-- Over a turn of a run behind which an agent is not in RESET the place is the same initiator's, and the address of an ORB that the agent waits for more of names the same one: so an abort that stands before the turn stands behind it.
use Rattle.std.proofs.Common.{◌≡◌, ◌∙◌, refl, sym, ap, subst, ◌<◌, ℕ, not, Bool, true, false, List, ◌∷◌, length, Option, Some, None}
use Rattle.std.proofs.lemmas.Option.{same_Some}
use Rattle.bus_memory.specs.Windows.{slot_of}
use Rattle.command_agent.specs.Machine.{Machine, awaits_run, state_in}
use Rattle.command_agent.specs.Steps.{is_reset}
use Rattle.rbc_disk.specs.Disk.{Disk}
use Rattle.rbc_disk.specs.Runs.{Told}
use Rattle.sbp_bus.specs.Packets.{end_note}
use Rattle.sbp_bus.specs.Places.{holder_at}
use Rattle.sbp_journal.specs.Run.{Moment, asked, said}
use Rattle.sbp_journal.specs.declared.event.Action.{Action}
use Rattle.sbp_journal.specs.declared.event.Event.{Event}
use Rattle.sbp_journal.specs.declared.event.Event.TheVariants as events
use Rattle.sbp_laws.specs.Lawful.{injectors}
use Rattle.sbp_laws.specs.Lists.{cmd_of, named, named_in, orb, prepared_in}
use Rattle.sbp_laws.specs.Terms.{ends}
use Rattle.sbp_laws.specs.Turns.{event_of}
use Rattle.sbp_target.specs.Nodes.{NodeState, desk_at}
use Rattle.sbp_world.specs.Lines.{acted, happens}
use Rattle.sbp_world.specs.Lists.FewLogins.{IsTameOrFew}
use Rattle.sbp_world.specs.Lists.Needs.{IsCalm, initiator_in, machine_at}
use Rattle.sbp_world.specs.Settling.{MayNext, delivered_next, settled_from}
use Rattle.sbp_world.specs.Wire.Lines.{IsLine}
use Rattle.sbp_world.specs.Worlds.{Scene, WorldState, initiator_at, without_notes}
use Rattle.sbp_world.proofs.Agents.Management.Holding.{Holding}
use Rattle.sbp_world.proofs.Agents.Management.Still.{hist}
use Rattle.sbp_world.proofs.Hosts.Carries.{IsNoAct}
use Rattle.sbp_world.proofs.Hosts.StepLaws.{step_law}
use Rattle.sbp_world.proofs.Lists.Adds.{Stays}
use Rattle.sbp_world.proofs.Lists.Courses.{Goes, by_delivery, by_end, by_line, by_start}
use Rattle.sbp_world.proofs.Lists.Judging.{Grown, goes_next, grown}
use Rattle.sbp_world.proofs.Lists.Lines.{acts}
use Rattle.sbp_world.proofs.Lists.LiveRuns.{goes_size}
use Rattle.sbp_world.proofs.Lists.PlaceOwners.{turn_owns}
use Rattle.sbp_world.proofs.Lists.Sites.{who_up}
use Rattle.sbp_world.proofs.Lists.StillTurns.{Ground, none_acts, none_prepared, site_at}
use Rattle.sbp_world.proofs.Lists.Turned.{IsOne}
use Rattle.turn_laws.proofs.AbortNamed.{o, present_named}
use Rattle.turn_laws.proofs.AbortSince.{IsKnown, known_later}

-- a name is what was prepared in a slot
pub name_by : (past now : List Moment) (i : ℕ) (slot : Option ℕ) → ((at : ℕ) → prepared_in now i at ≡ prepared_in past i at) → named_in now i slot ≡ named_in past i slot
name_by past now i None e = refl
name_by past now i (Some at) e = e at

end_prepared : (done : Bool) (i slot : ℕ) (past : List Moment) → prepared_in (said (end_note done) ∷ past) i slot ≡ prepared_in past i slot
end_prepared true i slot past = refl
end_prepared false i slot past = refl

module _ (units ready : ℕ) (has : 0 < units) (start : List Disk) where
  -- at a place, the agent of an initiator that injected none waits for more of the ORB at an address
  pub record WaitsFor (past : List Moment) (w : WorldState) (p address : ℕ) : Type 0 where
    pub waits : awaits_run (machine_at w p).phase ≡ true
    pub present : (machine_at w p).present ≡ address
    pub calm : IsCalm past (initiator_in w p)

  -- which is to be known of a line in which an initiator acts
  pub data IsActing (past : List Moment) (s : Scene) (later : List Moment) (t : Scene) : Type 0 where
    acting : (line i : ℕ) (action : Action) (told : List (Option Told)) → IsLine (events.Act i action) (length s.world.initiators) → later ≡ asked line (events.Act i action) ∷ hist past s.world → t ≡ happens line (events.Act i action) told s
        → IsActing past s later t

  abbrev Turns : (past : List Moment) (s : Scene) (later : List Moment) (t : Scene) → Type 0
  Turns past s later t =
      (lines more : ℕ) → Holding units ready start past lines s.world → Holding units ready start later more t.world → Ground start (hist past s.world) s.world → Ground start (hist later t.world) t.world → IsTameOrFew (hist past s.world) → IsTameOrFew (hist later t.world) → (p address : ℕ) → p < 8 → (IsActing past s later t → WaitsFor (hist past s.world) s.world p address × IsCalm (hist later t.world) (initiator_in t.world p)) → initiator_in t.world p ≡ initiator_in s.world p → initiator_in s.world p < length t.world.initiators → named (hist later t.world) (initiator_in s.world p) address ≡ named (hist past s.world) (initiator_in s.world p) address

  acting_line : (past : List Moment) (s : Scene) (line i : ℕ) (action : Action) (told : List (Option Told)) → IsLine (events.Act i action) (length s.world.initiators)
      → Turns past s (asked line (events.Act i action) ∷ hist past s.world) (happens line (events.Act i action) told s)
  unfolding happens
  acting_line past s line i action told fit lines more h h_now q q_now beside beside_now p address b both owner inside =
      let event = events.Act i action in
      let so = both (acting line i action told fit refl refl) in
      let x = so.0 in
      let now = asked line event ∷ hist past s.world in
      let w = without_notes s.world in
      let t = happens line event told s in
      let site = site_at start past s.world q in
      let a : Stays (injectors (hist past s.world)) now w (acted line i action w) = acts (injectors (hist past s.world)) now line i action w (q.number i fit.0) (step_law.asked line event (hist past s.world) i (initiator_at s.world i).lists.slots (site.rows i fit.0)) (tt, q.law) in
      let same : machine_at t.world p ≡ machine_at s.world p = ap (λ (n : NodeState). (desk_at n p).agent) a.target in
      let y : WaitsFor (hist now t.world) t.world p address = record { waits = ap (λ (m : Machine). awaits_run m.phase) same ∙ x.waits; present = ap (λ (m : Machine). m.present) same ∙ x.present; calm = so.1 } in
      let old = present_named units ready has start s.world h site (q.lists beside) q.along p b x.waits x.calm in
      let new = present_named units ready has start t.world h_now (site_at start now t.world q_now) (q_now.lists beside_now) q_now.along p b y.waits y.calm in
      let was = o units ready has start s.world h site (q.lists beside) q.along p b x.waits x.calm in
      let is = o units ready has start t.world h_now (site_at start now t.world q_now) (q_now.lists beside_now) q_now.along p b y.waits y.calm in
      let list : is.n ≡ was.n = same_Some is.n was.n (sym is.list ∙ (ap (λ ps. (holder_at ps p).list) a.places ∙ was.list)) in
      let j = initiator_in s.world p in
      ap (λ k. named (hist now t.world) k address) (sym owner)
      ∙ (ap (named (hist now t.world) (initiator_in t.world p)) (sym y.present)
      ∙ (new
      ∙ (ap (λ k. Some (orb is.n (ends (hist now t.world) k is.n))) owner
      ∙ (ap (λ n. Some (orb n (ends (hist now t.world) j n))) list
      ∙ (ap (λ k. Some (orb was.n k)) (a.adds.ends_are j was.n)
      ∙ (sym old ∙ ap (named (hist past s.world) j) x.present))))))

  quiet : (past : List Moment) (s : Scene) (later : List Moment) (t : Scene) → cmd_of (event_of later) ≡ None → ((i slot : ℕ) → prepared_in later i slot ≡ prepared_in (hist past s.world) i slot) → Turns past s later t
  quiet past s later t none same lines more h h_now q q_now beside beside_now p address b both owner inside =
      let i = initiator_in s.world p in
      name_by (hist past s.world) (hist later t.world) i (slot_of address) (λ slot. none_prepared i slot t.world.fresh later none (q_now.lined i inside) ∙ same i slot)

  delivery : (past : List Moment) (s : Scene) (one : Option Told) → MayNext one s → ((i : ℕ) → IsNoAct i (event_of past)) → Turns past s past (delivered_next one s)
  delivery past s one may no_act lines more h h_now q q_now beside beside_now p address b both owner inside =
      let t = delivered_next one s in
      let i = initiator_in s.world p in
      let none = none_acts (event_of past) no_act in
      let size : length t.world.initiators ≡ length s.world.initiators = goes_size past s past t (by_delivery past s one may no_act) in
      name_by (hist past s.world) (hist past t.world) i (slot_of address)
      (λ slot. none_prepared i slot t.world.fresh past none (q_now.lined i inside) ∙ sym (none_prepared i slot s.world.fresh past none (q.lined i (subst (λ n. i < n) size inside))))

  quiet_line : (past : List Moment) (s : Scene) (line : ℕ) (event : Event) (told : List (Option Told)) → cmd_of (Some event) ≡ None → Turns past s (asked line event ∷ hist past s.world) (happens line event told s)
  quiet_line past s line event told none = quiet past s (asked line event ∷ hist past s.world) (happens line event told s) none (λ i slot. refl)

  line_turn : (past : List Moment) (s : Scene) (line : ℕ) (event : Event) (told : List (Option Told)) → IsOne event → IsLine event (length s.world.initiators) → Turns past s (asked line event ∷ hist past s.world) (happens line event told s)
  line_turn past s line (events.Act i action) told one fit = acting_line past s line i action told fit
  line_turn past s line (events.Step count) told one fit = absurd one
  line_turn past s line events.Settle told one fit = absurd one
  line_turn past s line event told one fit = quiet_line past s line event told refl

  by_turn : (past : List Moment) (s : Scene) (later : List Moment) (t : Scene) → Goes past s later t → Turns past s later t
  by_turn _ _ _ _ (by_line past s line event told one fit may) = line_turn past s line event told one fit
  by_turn _ _ _ _ (by_start past s line most) = λ lines more h h_now q q_now beside beside_now p address b both owner inside. refl
  by_turn _ _ _ _ (by_delivery past s one may no_act) = delivery past s one may no_act
  by_turn _ _ _ _ (by_end past s done) = λ lines more h h_now q q_now beside beside_now p address b both owner inside.
      name_by (hist past s.world) (hist past (settled_from done s).world) (initiator_in s.world p) (slot_of address) (λ slot. end_prepared done (initiator_in s.world p) slot (hist past s.world))

  -- so an abort that stands before the turn stands behind it, of the same initiator and by the same name
  module _ (past : List Moment) (s : Scene) (later : List Moment) (t : Scene) (g : Goes past s later t) {lines more : ℕ} (h : Holding units ready start past lines s.world) (h_now : Holding units ready start later more t.world) (q : Ground start (hist past s.world) s.world) (q_now : Ground start (hist later t.world) t.world) (beside : IsTameOrFew (hist past s.world)) (beside_now : IsTameOrFew (hist later t.world)) where
    abbrev before : List Moment
    before = hist past s.world

    abbrev behind : List Moment
    behind = hist later t.world

    pub goes_on : Grown before behind
    goes_on = grown before behind (goes_next past s later t g)

    module _ (p address : ℕ) (b : p < 8) (up : is_reset (state_in (machine_at t.world p).phase) ≡ false) where
      pub owner : initiator_in t.world p ≡ initiator_in s.world p
      owner = turn_owns units ready has start s h (site_at start past s.world q).held later t g p b (ap not up)

      pub inside : initiator_in s.world p < length t.world.initiators
      inside = subst (λ i. i < length t.world.initiators) owner (who_up units ready has start t.world h_now (site_at start later t.world q_now) p b up).inside

      module _ (both : IsActing past s later t → WaitsFor before s.world p address × IsCalm behind (initiator_in t.world p)) where
        pub name_stays : named behind (initiator_in s.world p) address ≡ named before (initiator_in s.world p) address
        name_stays = by_turn past s later t g lines more h h_now q q_now beside beside_now p address b both owner inside

        pub known_kept : IsKnown start p address before (initiator_in s.world p) → IsKnown start p address behind (initiator_in t.world p)
        known_kept known =
            let i = initiator_in s.world p in
            subst (λ j. IsKnown start p address behind j) (sym owner)
            (subst (λ ms. IsKnown start p address ms i) goes_on.is
            (known_later start p address goes_on.new before i known (ap (λ ms. named ms i address) goes_on.is ∙ name_stays)))
