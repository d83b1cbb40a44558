-- A generation that is seen, and the core of the initiator's host.
use Rattle.sbp_world.proofs.Words.Std.{◌≡◌, refl, sym, ◌∙◌, ap, ℕ, suc, ◌==◌, nat_lt, not, Bool, true, false, cond, List, [], ◌∷◌, Option, Some, None}
use Rattle.sbp_world.proofs.Words.Wire.{Layer, seeing_step, Moment, said, terms, OutboxState, empty_outbox, Operation}
use Rattle.sbp_world.proofs.Words.Initiator.{Seat, goes, reset, Purpose, Running, InitiatorState, PresentList, drop_lists, with_slots, drop_for, drop_step, is_unwritten, drop_list_step, dropped_as, all_end, freed_step, interrupted, reset_step, reset_told, resets_told, see_step, seen_as, states_end}
use Rattle.sbp_world.proofs.Words.Laws.{Session, host_at, session_reset}
use Rattle.sbp_world.proofs.Words.World.{Core, host_core, own_core, session_in}
use Rattle.sbp_journal.specs.declared.note.Note.TheVariants as notes
use Rattle.sbp_journal.specs.declared.operation.Operation.TheVariants as operations
use Rattle.sbp_journal.specs.declared.operation.OpWord.TheVariants as words
use Rattle.sbp_session.specs.declared.seat.Origin.TheVariants as origins
use Rattle.sbp_session.specs.declared.seat.Seat.TheVariants as seats
use Rattle.sbp_initiator.proofs.Histories.Effects.{HasMarks}
use Rattle.sbp_world.proofs.Hosts.Cores.{apart_core, ended_in, op_told, reset_in, seen_told}
use Rattle.sbp_world.proofs.Hosts.Knowing.{Known, closed_in, drop_known, still_known, tell}

reset_session : (seat : Seat) → session_reset (session_in seat) ≡ session_in (goes reset seat)
unfolding goes
reset_session (seats.Out out) = refl
reset_session (seats.Entering entering) = refl
reset_session (seats.Live live) = refl
reset_session (seats.Held response) = refl
reset_session (seats.Returning response) = refl
reset_session (seats.Leaving response) = refl
reset_session (seats.Stuck (origins.Out out)) = refl
reset_session (seats.Stuck (origins.Entering entering)) = refl
reset_session (seats.Stuck (origins.Live live)) = refl
reset_session (seats.Stuck (origins.Held response)) = refl
reset_session (seats.Stuck (origins.Returning response)) = refl
reset_session (seats.Stuck (origins.Leaving response)) = refl

-- where no operation is under way, the end of one changes nothing
none_ends : (operation : Operation) (session : Session) (c : Core) → ended_in operation words.Reset (closed_in session c) ≡ closed_in session c
none_ends operations.Rom session c = refl
none_ends operations.Login session c = refl
none_ends operations.Query session c = refl
none_ends operations.Reconnect session c = refl
none_ends operations.Logout session c = refl
none_ends operations.Abort session c = refl
none_ends operations.AbortSet session c = refl
none_ends operations.UnitReset session c = refl
none_ends operations.TargetReset session c = refl
none_ends operations.AgentReset session c = refl
none_ends operations.State session c = refl
none_ends operations.Enable session c = refl

module _ (past : List Moment) (target : ℕ) (s : InitiatorState) where
  abbrev idle : InitiatorState
  idle = interrupted s target

  reset_known : (operation : Operation) (o : OutboxState) → Known past (o, idle) → Known past (reset_told s.number operation o, idle)
  reset_known operation o k =
      tell past (notes.Op s.number operation words.Reset) o idle idle (ended_in operation words.Reset) refl (none_ends operation (session_in (goes reset s.seat)) (own_core s))
      (λ ms. op_told operation words.Reset ms s.number) (λ ms j f. apart_core (notes.Op s.number operation words.Reset) ms j (ap not f)) (λ ms. refl) tt k

  states_known : (acts : List ℕ) (o : OutboxState) → Known past (o, idle) → Known past (states_end s.number acts o, idle)
  states_known [] o k = k
  states_known (act ∷ acts) o k = states_known acts (reset_told s.number operations.State o) (reset_known operations.State o k)

  pick_known : (b : Bool) (o p : OutboxState) → Known past (o, idle) → Known past (p, idle) → Known past (cond b o p, idle)
  pick_known true o p h k = h
  pick_known false o p h k = k

  all_known : (running : Running) (acts : List ℕ) (o : OutboxState) → Known past (o, idle) → Known past (all_end s.number running acts o, idle)
  all_known running [] o k = reset_known running.operation o k
  all_known running (act ∷ acts) o k =
      pick_known (nat_lt running.act act) (states_end s.number (act ∷ acts) (reset_told s.number running.operation o)) (all_end s.number running acts (reset_told s.number operations.State o))
      (states_known (act ∷ acts) (reset_told s.number running.operation o) (reset_known running.operation o k))
      (all_known running acts (reset_told s.number operations.State o) (reset_known operations.State o k))

  resets_known : (operation : Option Running) (acts : List ℕ) (o : OutboxState) → Known past (o, idle) → Known past (resets_told s.number operation acts o, idle)
  resets_known None acts o k = states_known acts o k
  resets_known (Some running) acts o k = all_known running acts o k

  -- no ORB_POINTER counts as written where the list was dropped
  unwritten_as : (present : Option PresentList) (o : OutboxState) → HasMarks present s.marks.pointing → is_unwritten (dropped_as ((drop_for present s.lists.slots).0, with_slots s.lists (drop_for present s.lists.slots).1) o idle).1.marks.pointing ≡ true
  unwritten_as None o h = h
  unwritten_as (Some list) o h = refl

  unwritten : (o : OutboxState) → HasMarks s.lists.slots.present s.marks.pointing → is_unwritten (drop_list_step o idle).1.marks.pointing ≡ true
  unfolding drop_lists drop_step
  unwritten o h = unwritten_as s.lists.slots.present o h

  pub all_reset : HasMarks s.lists.slots.present s.marks.pointing → Known past (empty_outbox, idle) → Known past (reset_step target empty_outbox s)
  all_reset h k =
      let o = resets_told s.number s.operation s.states empty_outbox in
      let d = drop_list_step o idle in
      still_known past d.0 d.0 d.1 (freed_step d).1 refl refl (ap (λ (b : Bool). record (own_core d.1) { wrote_pointer = not b }) (sym (unwritten o h))) (drop_known past o idle (resets_known s.operation s.states empty_outbox k))

-- what the note of a sight says
module _ (past : List Moment) (generation : ℕ) where
  sight_by : (target : ℕ) (s : InitiatorState) (r : Bool × Layer Purpose) → r.0 ≡ not (generation == (terms past).generation (suc s.number)) → HasMarks s.lists.slots.present s.marks.pointing → Known past (empty_outbox, s) → Known (said (notes.Seen (suc s.number) generation) ∷ past) (seen_as r target empty_outbox s)
  sight_by target s (true, layer) e h k =
      let u = record s { layer = layer } in
      let now = said (notes.Seen (suc s.number) generation) ∷ past in
      all_reset now target u h (record {
        own = seen_told generation past s.number ∙ ap (λ b. reset_in b (host_core (host_at past s.number))) (sym e) ∙ ap (reset_in true) k.own ∙ ap (λ x. closed_in x (own_core s)) (reset_session s.seat);
        others = λ j f. refl;
        line = refl;
        wire = refl;
        sits = tt;
      })
  sight_by target s (false, layer) e h k = record {
    own = seen_told generation past s.number ∙ ap (λ b. reset_in b (host_core (host_at past s.number))) (sym e) ∙ k.own;
    others = λ j f. refl;
    line = refl;
    wire = refl;
    sits = k.sits;
  }

  pub sees_known : (id target : ℕ) (s : InitiatorState) → (seeing_step s.layer generation id).0 ≡ not (generation == (terms past).generation (suc s.number)) → HasMarks s.lists.slots.present s.marks.pointing → Known past (empty_outbox, s) → Known (said (notes.Seen (suc s.number) generation) ∷ past) (see_step generation id target empty_outbox s)
  unfolding see_step
  sees_known id target s e h k = sight_by target s (seeing_step s.layer generation id) e h k
