-- In each turn of every run an end as illegal has the code of what came to be checked: as the ends of each turn are those that its step brings, or the loss of its request,
-- which ends none as illegal.
use Rattle.std.proofs.Common.{sym, subst, ℕ, suc, Bool, true, false, List, [], ◌∷◌, ◌++◌, Option, Some, None, Result, Ok, Err}
use Rattle.label_table.specs.Bodies.{Body}
use Rattle.orb_layout.specs.declared.ask.Ask.{Ask}
use Rattle.orb_layout.specs.declared.ask.FailCause.{FailCause}
use Rattle.orb_layout.specs.declared.status.StatusKind.{StatusKind}
use Rattle.orb_layout.specs.declared.status.StatusKind.TheVariants as kinds
use Rattle.orb_layout.specs.Pointers.{pointer_at}
use Rattle.orb_layout.specs.Replies.{Answer}
use Rattle.rbc_disk.specs.Disk.{Disk}
use Rattle.rbc_disk.specs.Runs.{Told}
use Rattle.rbc_disk.specs.Units.{PlainDisk}
use Rattle.command_agent.specs.Machine.{Machine}
use Rattle.command_agent.specs.Steps.{asks, doorbell_step, point_step, reply_step}
use Rattle.command_agent.specs.declared.phase.Phase.{Phase}
use Rattle.command_agent.specs.declared.phase.Phase.TheVariants as phases
use Rattle.command_agent.specs.declared.step.AgentStep.{AgentStep}
use Rattle.command_agent.specs.declared.step.PointRefusal.{PointRefusal}
use Rattle.command_agent.specs.declared.step.Which.{Which}
use Rattle.command_agent.specs.declared.step.Which.TheVariants.{Ahead, Main}
use Rattle.sbp_journal.specs.Addresses.{agent_reset, agent_state, doorbell, orb_pointer, unsolicited_enable}
use Rattle.sbp_journal.specs.declared.note.Note.{Note}
use Rattle.sbp_journal.specs.declared.note.Note.TheVariants as notes
use Rattle.sbp_laws.specs.Agents.{AgentTurn, Event, agent_event, agent_notes_for, agent_turn, body_of, by_doorbell, by_pointer, dead_note, ended_note, fifo_in, finds_first, list_taken, nothing, replies, target_before, told_among, untold_among, wire_after, wire_before, writes}
use Rattle.sbp_laws.specs.Deaths.{IllegalsHaveCodes, ends_by, illegal_in, meaning_by, meaning_of}
use Rattle.sbp_laws.specs.Lists.{Orb, named}
use Rattle.sbp_laws.specs.NoteKinds.{is_end_note, of_kind}
use Rattle.sbp_laws.specs.Packets.{finds_label}
use Rattle.sbp_laws.specs.Targets.{Target, agent_at, initiator_at, login_at, plain_for}
use Rattle.sbp_laws.specs.Turns.{Turn}
use Rattle.turn_laws.specs.Codes.{CodesLaw, EndsWithCodes}
use Rattle.turn_laws.specs.Ends.{EndsWhereDue}
use Rattle.turn_laws.proofs.CodeSteps.{Coded, ahead_coded, main_coded}
use Rattle.turn_laws.proofs.EachTurns.{brought_law}
use Rattle.turn_laws.proofs.EndTries.{Brought, brought, brought_notes, brought_unsent, fails_in, found_by, notes_tried}
use Rattle.turn_laws.proofs.Ends.{ends_law}
use Rattle.turn_laws.proofs.IdleAheads.{idle_ahead}

module _ (found : Option ℕ) where
  abbrev Codes : List Note → Type 0
  Codes rest = IllegalsHaveCodes found rest

  -- ---- notes of deaths and ends
  dead_codes : (i : ℕ) (list : Option ℕ) (dead : Option FailCause) (more : List Note) → Codes more → Codes (dead_note i list dead ++ more)
  dead_codes i list None more h = h
  dead_codes i list (Some cause) more h = h

  last_codes : (i : ℕ) (list : Option ℕ) (dead : Option FailCause) → Codes (dead_note i list dead)
  last_codes i list None = tt
  last_codes i list (Some cause) = tt

  ended_codes : (i : ℕ) (one : Option Orb) (ended : Option StatusKind) (more : List Note) → Coded found ended → Codes more → Codes (ended_note i one ended ++ more)
  ended_codes i one None more c h = h
  ended_codes i one (Some (kinds.Illegal meaning)) more c h = (c, h)
  ended_codes i one (Some kind) more c h = h

  brought_codes : (i : ℕ) (list : Option ℕ) (one : Option Orb) (b : Brought) → Coded found b.ended → Codes (brought_notes i list one b)
  brought_codes i list one b c =
      let behind = dead_note i list b.dead_behind in
      dead_codes i list b.dead (ended_note i one b.ended ++ behind) (ended_codes i one b.ended behind c (last_codes i list b.dead_behind))

  -- those that stand in a turn are among its ends
  kept_codes : (rest : List Note) → Codes (of_kind is_end_note rest) → Codes rest
  kept_codes [] h = tt
  kept_codes (notes.Ended i list number (kinds.Illegal meaning) ∷ rest) h = (h.0, kept_codes rest h.1)
  kept_codes (notes.Ended i list number kind ∷ rest) h = kept_codes rest h
  kept_codes (notes.Dead i list cause ∷ rest) h = kept_codes rest h
  kept_codes (note ∷ rest) h = kept_codes rest h

  -- ---- what a step brings
  fails_coded : (phase : Phase) → Coded found (fails_in phase)
  fails_coded phases.Fetching = tt
  fails_coded phases.ReadingTable = tt
  fails_coded (phases.ReadingData wanted) = tt
  fails_coded phases.Answering = tt
  fails_coded phase = tt

  unsent_coded : (step : AgentStep) (phase : Phase) (ended : Option StatusKind) → Coded found ended → Coded found (brought_unsent step phase ended).ended
  unsent_coded step phase (Some kind) c = c
  unsent_coded step phase None c = fails_coded phase

  step_coded : (b : Bool) (step : AgentStep) (phase : Phase) → Coded found step.ended → Coded found (brought b step phase).ended
  step_coded true step phase c = c
  step_coded false step phase c = unsent_coded step phase step.ended c

  module _ (start : List Disk) (T : Target) (t : Turn) where
    agent_codes : (a : AgentTurn) → Coded found a.step.ended → Codes (agent_notes_for start T t a)
    agent_codes a c =
        let i = initiator_at T (wire_before t) a.place in
        let list = list_taken start (t.start ∷ t.past) a.place in
        let one = named t.past i a.machine.present in
        let fifo = fifo_in (login_at T a.place) in
        let body : Option Body = body_of a.step.ask a.machine a.step.ended fifo in
        let found_so = found_by (finds_first T t a) body in
        subst Codes (sym (notes_tried (finds_first T t a) (finds_label (wire_after t) 0 (suc i)) fifo i list one a.step a.machine body))
        (brought_codes i list one (brought found_so a.step a.machine.phase) (step_coded found_so a.step a.machine.phase c))

    pointer_codes : (q : ℕ) (r : Result Ask PointRefusal × Machine) → Codes (ends_by start T t (by_pointer q (agent_at T q) r))
    pointer_codes q (Err refusal, n) = tt
    pointer_codes q (Ok ask, n) = agent_codes (record { place = q; untold = (agent_at T q).untold; which = Main; step = asks ask; machine = n }) tt

    ring_codes : (q : ℕ) (r : Ask × Machine) → Codes (ends_by start T t (by_doorbell q (agent_at T q) r))
    ring_codes q (ask, n) = agent_codes (record { place = q; untold = (agent_at T q).untold; which = Main; step = asks ask; machine = n }) tt

-- ---- at each event
module _ (start : List Disk) (t : Turn) where
  abbrev T : Target
  T = target_before start t

  reply_coded : (q : ℕ) (which : Which) (answer : Answer) (plain : PlainDisk) (told : Option Told)
      → Coded (meaning_of T (record { place = q; which = which; answer = answer }) which) (reply_step (agent_at T q).machine q plain told which answer).0.ended
  reply_coded q Main answer plain told = main_coded (agent_at T q).machine answer q plain told (idle_ahead start t.past q)
  reply_coded q Ahead answer plain told = ahead_coded None (agent_at T q).machine q plain told answer

  event_codes : (e : Event) → IllegalsHaveCodes (meaning_by T e) (ends_by start T t (agent_turn e T (wire_before t) t.rest))
  event_codes nothing = tt
  event_codes (replies reply) =
      let i = initiator_at T (wire_before t) reply.place in
      let m = (agent_at T reply.place).machine in
      let plain = plain_for T reply in
      let told = told_among i t.rest plain in
      let s = reply_step m reply.place plain told reply.which reply.answer in
      agent_codes (meaning_by T (replies reply)) start T t
      (record { place = reply.place; untold = untold_among i t.rest plain (agent_at T reply.place).untold; which = reply.which; step = s.0; machine = s.1 })
      (reply_coded reply.place reply.which reply.answer plain told)
  event_codes (writes agent_state q given) = tt
  event_codes (writes agent_reset q given) = tt
  event_codes (writes unsolicited_enable q given) = tt
  event_codes (writes orb_pointer q given) = pointer_codes None start T t q (point_step (agent_at T q).machine (pointer_at given.payload 0))
  event_codes (writes doorbell q given) = ring_codes None start T t q (doorbell_step (agent_at T q).machine)

codes_told : (start : List Disk) (t : Turn) → EndsWhereDue start t → EndsWithCodes start t
codes_told start t ends =
    let found = illegal_in start t in kept_codes found t.rest (subst (IllegalsHaveCodes found) (sym ends) (event_codes start t (agent_event start t)))

pub codes_law : CodesLaw
codes_law = brought_law EndsWhereDue EndsWithCodes codes_told ends_law
