-- At a place of a run the terms of an initiator that its actions are judged by are tied to what it has.
use Rattle.std.proofs.Common.{arith, ◌≡◌, ◌∙◌, refl, sym, ap, subst, ℕ, suc, ◌+◌, ◌<◌, is_none, is_some, not, unwrap_or, true, List, Option, Some, None, length}
use Rattle.std.proofs.lemmas.Bool.Decides.{nat_tests}
use Rattle.bus_transactions.specs.Fitting.{FitsRequest}
use Rattle.bus_transactions.specs.Reached.{IsAwaited}
use Rattle.bus_transactions.proofs.Reaches.{goes_on}
use Rattle.orb_list.specs.declared.list.PresentList.{PresentList}
use Rattle.rbc_disk.specs.Disk.{Disk}
use Rattle.sbp_initiator.proofs.Histories.Effects.{HasMarks}
use Rattle.sbp_initiator.specs.Acting.{act_step, asked_for, demand_of, facts_with}
use Rattle.sbp_initiator.specs.Refusals.{rows_of}
use Rattle.sbp_initiator.specs.Refusing.{finds_label}
use Rattle.sbp_initiator.specs.States.{is_list, wanted_body}
use Rattle.sbp_initiator.specs.declared.purpose.Demand.{Demand}
use Rattle.sbp_initiator.specs.declared.state.InitiatorState.{InitiatorState}
use Rattle.sbp_journal.specs.Outgoings.{OutboxState}
use Rattle.sbp_journal.specs.Rows.{Refusals}
use Rattle.sbp_journal.specs.Run.{Moment}
use Rattle.sbp_journal.specs.Transactions.{Kind, Transaction}
use Rattle.sbp_journal.specs.Wire.{Terms, terms, waits}
use Rattle.sbp_journal.specs.declared.event.Action.{Action}
use Rattle.sbp_laws.specs.Actions.{action_body, refusal_at, refusals}
use Rattle.sbp_laws.specs.Hosts.{host_at, is_stuck}
use Rattle.sbp_laws.specs.Lists.{slot_at}
use Rattle.sbp_laws.specs.Operations.{management_offset}
use Rattle.sbp_laws.specs.Packets.{label_for, request_bytes}
use Rattle.sbp_laws.specs.Packets as packets
use Rattle.sbp_world.specs.Hosts.Core.{Core}
use Rattle.sbp_world.specs.Hosts.PointerRuns.{PointsByWrites}
use Rattle.sbp_world.specs.Worlds.{Scene, WorldState, initiator_at}
use Rattle.sbp_world.proofs.Agents.Management.Holding.{past_terms}
use Rattle.sbp_world.proofs.Agents.Management.Still.{hist}
use Rattle.sbp_world.proofs.FitInitiator.Acts.{IfDemand, demand_fits}
use Rattle.sbp_world.proofs.Hosts.Acts.{NoRow}
use Rattle.sbp_world.proofs.Hosts.Hosted.{marks_of}
use Rattle.sbp_world.proofs.Hosts.Labels.{found_by, own_label, some_label}
use Rattle.sbp_world.proofs.Hosts.PointerRuns.{by_writes, stuck_same}
use Rattle.sbp_world.proofs.Hosts.Pointing.{pointing_of}
use Rattle.sbp_world.proofs.Hosts.Shows.{shown_now}
use Rattle.sbp_world.proofs.Pointers.Guarded.{Guarded}
use Rattle.sbp_world.proofs.Wire.Holding.{TargetOf}
use Rattle.sbp_world.proofs.Wire.Starts.{laws_of}
use Rattle.turn_laws.proofs.ActBodies.{bodies, body_in, label_row}
use Rattle.turn_laws.proofs.ActRows.{Tied, refuses_as}
use Rattle.turn_laws.proofs.HostMarks.{Marks}
use Rattle.turn_laws.proofs.HostRoms.{Rom as HostRom}
use Rattle.turn_laws.proofs.RomEnds.{known_at}
use Rattle.turn_laws.proofs.RomKnown.{KnownOf}
use Rattle.turn_laws.proofs.RomSmall.{IsSmallDistance}
use Rattle.turn_laws.proofs.Places.{Place}
use Rattle.turn_laws.proofs.ReadsUnderWay.{AreTimely}

module _ (units ready : ℕ) (start : List Disk) (past : List Moment) (s : Scene) (here : Place units ready start past s) (i : ℕ) (inside : i < length s.world.initiators) where
  abbrev w : WorldState
  w = s.world

  abbrev old : InitiatorState
  old = initiator_at w i

  abbrev ms : List Moment
  ms = hist past w

  guarded : Guarded (here.reads i inside).ready ms i old
  guarded = (here.reads i inside).paired.guarded

  marks : HasMarks old.lists.slots.present old.marks.pointing
  marks = let c = here.calls i inside in marks_of c.ready i old c.called

  own_list : (list : PresentList) → is_list (Some list) list.tail.list ≡ true
  own_list list = grind (arith, nat_tests)

  first : (list : PresentList) → old.lists.slots.present ≡ Some list → old.marks.first ≡ slot_at ms i list.tail.list 0
  first list e = guarded.pend.first list.tail.list (ap (λ p. is_list p list.tail.list) e ∙ own_list list)

  awaited : (u : Transaction) (kind : Kind) (serial : ℕ) → (terms ms).held u ≡ waits kind serial → IsAwaited (terms ms) u kind serial
  awaited u kind serial held =
      let stands = here.holds.sound.stands in
      subst (λ (t : Terms). IsAwaited t u kind serial) (past_terms w stands)
      (goes_on.awaited stands.wire u kind serial stands.reached (ap (λ (t : Terms). t.held u) (past_terms w stands) ∙ held))

  writes : PointsByWrites ms i old
  writes =
      let stands = here.holds.sound.stands in
      let laws = laws_of past w stands in
      by_writes ms i old (guarded.pointed.points (record { serials = laws.serials; sent = laws.sent })) guarded.aimed.aims (shown_now w stands here.holds.sound.nodes i inside)
      (pointing_of guarded.pointed.cored) awaited (ap (λ (c : Core). is_stuck c.session) (here.cores i inside) ∙ stuck_same old.seat)

  all_fit : (action : Action) → IfDemand (demand_of action old)
  all_fit action =
      let h = here.holds.sound.nodes.own.holds i inside in
      let count = here.holds.sound.nodes.own.counts i inside in
      let small = h.fits.running_fits in
      let short = here.short in
      demand_fits (TargetOf w.generations.seen i) old.counts.acts (old.counts.acts + 1) old h.fits (omega (arith, count, small, short)) action

  pub fits : (action : Action) (demand : Demand) → demand_of action old ≡ Some demand → FitsRequest (wanted_body demand.wanted)
  fits action demand e = subst IfDemand e (all_fit action)

  -- a request of its own finds a label as the terms say
  pub finds : (action : Action) (demand : Demand) → demand_of action old ≡ Some demand → is_some (asked_for demand old).0 ≡ packets.finds_label (terms ms) (suc i) 0 (wanted_body demand.wanted)
  finds action demand e =
      let body = wanted_body demand.wanted in
      let t = terms ms in
      sym (some_label (asked_for demand old).0) ∙ ap (λ (o : Option ℕ). is_some o) (own_label w here.holds.sound i inside body (fits action demand e) demand.purpose)
      ∙ sym (found_by t (suc i) 0 body (label_for t (suc i) 0 (request_bytes t (suc i) 0 body)) refl)

  abbrev Rom : Type 0
  Rom = is_none (host_at ms i).management ≡ not (is_some old.management)

  abbrev Offset : Type 0
  Offset = management_offset (host_at ms i).management ≡ unwrap_or old.management 0

  dead : AreTimely ms → (host_at ms i).marked_dead ≡ old.marks.is_dead
  dead timely = (let laws = laws_of past w here.holds.sound.stands in ap (λ (m : Marks). m.dead) ((here.reads i inside).paired.marked (record { serials = laws.serials; sent = laws.sent }) timely))

  tied : AreTimely ms → Tied ms i old
  tied timely = record { host = here.hosts i inside; core = here.cores i inside; points = writes.points_while; dead = dead timely }

  module _ (k : KnownOf ms i old) where
    management_is : known_at (host_at ms i).management ≡ old.management
    management_is = ap (λ (r : HostRom). r.management) k.is

    rom : Rom
    rom = by (host_at ms i).management ∙ ap (λ m. not (is_some m)) management_is
      where
        by : (m : Option ℕ) → is_none m ≡ not (is_some (known_at m))
        by None = refl
        by (Some distance) = refl

    offset : Offset
    offset = by (host_at ms i).management k.small ∙ ap (λ m. unwrap_or m 0) management_is
      where
        by : (m : Option ℕ) → IsSmallDistance m → management_offset m ≡ unwrap_or (known_at m) 0
        by None h = refl
        by (Some distance) h = omega (arith, h)

    module _ (action : Action) (o : OutboxState) where
      abbrev pub told : Refusals
      told = refusals ms i action (host_at ms i)

      abbrev pub has : Refusals
      has = rows_of action (facts_with (finds_label action old) old action)

      labelled : NoRow has → told.no_label ≡ has.no_label
      labelled = label_row ms i old (here.hosts i inside) (here.cores i inside) (here.holding i inside) marks first action (finds_label action old) (λ f. offset) (finds action)

      pub refused_by_rows : AreTimely ms → refusal_at ms i action ≡ (act_step action o old).0
      refused_by_rows timely = refuses_as ms i old (tied timely) action o labelled (λ f. rom)

    -- and where no row holds it asks for what the terms say
    pub asked_bodies : (action : Action) → NoRow (rows_of action (facts_with (finds_label action old) old action)) → action_body action ms i (host_at ms i) ≡ body_in (demand_of action old)
    asked_bodies action none = bodies ms i old (here.hosts i inside) (here.cores i inside) (here.holding i inside) marks first action (finds_label action old) (λ f. offset) none
