-- A turn is determined: by what stood before it, by what it begins with, and by what is told.
use Rattle.std.proofs.Common.{◌≡◌, ◌∙◌, ℕ, zero, suc, ◌+◌, Bool, false, List, ◌∷◌, ◌++◌, Option, Some, None, refl, sym, ap, ap₂, subst}
use Rattle.rbc_disk.specs.Disk.{Disk}
use Rattle.sbp_journal.specs.Run.{Moment, asked, said}
use Rattle.sbp_journal.specs.Transactions.{Sending}
use Rattle.sbp_journal.specs.Wire.{terms}
use Rattle.sbp_journal.specs.declared.event.Event.TheVariants as events
use Rattle.sbp_journal.specs.declared.note.Note.{Note}
use Rattle.sbp_journal.specs.declared.note.Note.TheVariants as notes
use Rattle.sbp_laws.specs.ActionLaw.{InOrder, Ordered}
use Rattle.sbp_laws.specs.Agents.{agent_event, agent_turn, target_before, wire_after, wire_before}
use Rattle.sbp_laws.specs.CarriedLaw.{EndsAsRead, RunsWhereDue}
use Rattle.sbp_laws.specs.CauseLaw.{HasCauses}
use Rattle.sbp_laws.specs.Deaths.{ends_by, ends_due}
use Rattle.sbp_laws.specs.Deliveries.{is_run_note, is_taken_note, once_told}
use Rattle.sbp_laws.specs.JudgementLaw.{Judges, ignored_rest, verdict_of, verdict_on}
use Rattle.sbp_laws.specs.Lawful.{nobody}
use Rattle.sbp_laws.specs.LoginLaw.{HasLogins}
use Rattle.sbp_laws.specs.Management.{manager_requests}
use Rattle.sbp_laws.specs.MediaLaw.{HasPushes, load_in, logins_for, push_notes, push_requests}
use Rattle.sbp_laws.specs.NoteKinds.{of_kind, is_operation_note}
use Rattle.sbp_laws.specs.Packets.{receiver_in, sender_in}
use Rattle.sbp_laws.specs.SentAnswers.{AnswersLaw, answer_due}
use Rattle.sbp_laws.specs.SentRequests.{RequestsLaw, agent_requests, asks, asks_at, asks_by, asks_nothing, before_requests, behind_answer, expiring, target_requests}
use Rattle.sbp_laws.specs.StatusLaw.{TakesEach, takings_in}
use Rattle.sbp_laws.specs.Turns.{EachMoment, Turn, turn, effects_of, sends_of}
use Rattle.lawful_journal.specs.Telling.{LabelsAsTold, Telling, TurnAsTold, run_count}
use Rattle.lawful_journal.proofs.Ends.{same_agent_requests, same_ends}
use Rattle.lawful_journal.proofs.Histories.{moments_before, put, put_append}
use Rattle.lawful_journal.proofs.NotesByKind.{SameKinds, before_takings, effects_ordered, ordered_effects, rest_ordered, same_before, same_effects}
use Rattle.lawful_journal.proofs.Packets.{begins_with, packets_are, packets_of}
use Rattle.lawful_journal.proofs.Runs.{same_agent_turn, same_load, same_run_notes}
use Rattle.lawful_journal.proofs.Takings.{HoldsAt, all_others, same_takings}

-- what the laws say of a turn, as far as it counts here
pub record Holds (telling : Telling) (disks : List Disk) (t : Turn) : Type 0 where
  pub runs : RunsWhereDue nobody disks t
  pub runs_end : EndsAsRead disks t
  pub takes : TakesEach nobody t
  pub causes : HasCauses disks t
  pub judges : Judges disks t
  pub logins : HasLogins disks t
  pub answers : AnswersLaw disks t
  pub requests : RequestsLaw disks t
  pub media : HasPushes disks t
  pub ordered : Ordered t
  pub told : TurnAsTold telling disks t

-- what the row of a packet says does not hang on the rest of the turn
pub same_verdict : (disks : List Disk) (past : List Moment) (start begin : Moment) (rest other : List Note) (serial : ℕ)
    → verdict_of disks (turn past start rest) serial ≡ verdict_of disks (turn past begin other) serial
same_verdict disks past start begin rest other serial = by_sending ((terms past).sent serial)
  where
    by_sending : (sending : Option Sending) → verdict_on disks (turn past start rest) serial sending ≡ verdict_on disks (turn past begin other) serial sending
    by_sending None = refl
    by_sending (Some sending) = refl

module _ (telling : Telling) (disks : List Disk) (past : List Moment) (start : Moment) (rest other : List Note) (h : Holds telling disks (turn past start rest)) (k : Holds telling disks (turn past start other)) where
  same_runs : of_kind is_run_note rest ≡ of_kind is_run_note other
  same_runs = same_run_notes (telling.outcomes (run_count past)) disks past start rest other
      (record { due = h.runs; ends = h.runs_end; as_told = h.told.outcomes }) (record { due = k.runs; ends = k.runs_end; as_told = k.told.outcomes })

  same_turn_of_agent : agent_turn (agent_event disks (turn past start rest)) (target_before disks (turn past start rest)) (wire_before (turn past start rest)) rest
      ≡ agent_turn (agent_event disks (turn past start rest)) (target_before disks (turn past start rest)) (wire_before (turn past start rest)) other
  same_turn_of_agent = same_agent_turn rest other same_runs (target_before disks (turn past start rest)) (wire_before (turn past start rest)) (agent_event disks (turn past start rest))

  also_told : LabelsAsTold (telling.chunks ((wire_after (turn past start rest)).count + 1)) (target_before disks (turn past start rest)) (turn past start other)
      (agent_turn (agent_event disks (turn past start rest)) (target_before disks (turn past start rest)) (wire_before (turn past start rest)) rest)
  also_told = subst (λ a. LabelsAsTold (telling.chunks ((wire_after (turn past start rest)).count + 1)) (target_before disks (turn past start rest)) (turn past start other) a) (sym same_turn_of_agent) k.told.labels

  same_ends_due : ends_due disks (turn past start rest) ≡ ends_due disks (turn past start other)
  same_ends_due =
      same_ends disks (telling.chunks ((wire_after (turn past start rest)).count + 1)) (target_before disks (turn past start rest)) past start rest other
      (agent_turn (agent_event disks (turn past start rest)) (target_before disks (turn past start rest)) (wire_before (turn past start rest)) rest) h.told.labels also_told
      ∙ ap (ends_by disks (target_before disks (turn past start rest)) (turn past start other)) same_turn_of_agent

  same_loads : load_in (target_before disks (turn past start rest)) (wire_before (turn past start rest)) rest ≡ load_in (target_before disks (turn past start rest)) (wire_before (turn past start rest)) other
  same_loads = same_load rest other same_runs (target_before disks (turn past start rest)) (wire_before (turn past start rest))

  pub same_kinds : SameKinds rest other
  same_kinds = record {
    cuts = h.causes.cuts ∙ sym k.causes.cuts;
    cleared = h.causes.cleared ∙ sym k.causes.cleared;
    logins = h.logins.logins ∙ sym k.logins.logins;
    decisions = h.logins.decisions ∙ sym k.logins.decisions;
    failures = h.causes.failures ∙ sym k.causes.failures;
    runs = same_runs;
    ends = h.causes.ends ∙ same_ends_due ∙ sym k.causes.ends;
    pushes = h.media.pushes
        ∙ ap (λ load. push_notes (target_before disks (turn past start rest)) (wire_after (turn past start rest)) (logins_for (target_before disks (turn past start rest)) load)) same_loads ∙ sym k.media.pushes;
    told = h.media.told ∙ sym k.media.told;
    operations = h.causes.operations ∙ sym k.causes.operations;
  }

  pub same_takings_in : takings_in rest ≡ takings_in other
  same_takings_in = sym (all_others (takings_in rest)) ∙ h.takes ∙ sym k.takes ∙ all_others (takings_in other)

  -- ---- the packets
  same_target_requests : target_requests disks (turn past start rest) ≡ target_requests disks (turn past start other)
  same_target_requests = ap₂ (λ x y. x ++ (manager_requests (target_before disks (turn past start rest)) (turn past start rest) ++ y))
      (same_agent_requests (telling.chunks ((wire_after (turn past start rest)).count + 1)) (target_before disks (turn past start rest)) past start rest other
      (agent_turn (agent_event disks (turn past start rest)) (target_before disks (turn past start rest)) (wire_before (turn past start rest)) rest) h.told.labels also_told
      ∙ ap (agent_requests (target_before disks (turn past start rest)) (turn past start other)) same_turn_of_agent)
      (ap (λ load. push_requests (target_before disks (turn past start rest)) (wire_after (turn past start rest)) (logins_for (target_before disks (turn past start rest)) load)) same_loads)

  same_asks : (moment : Moment) → asks_by disks (turn past start rest) moment ≡ asks_by disks (turn past start other) moment
  same_asks (said (notes.Got serial)) = by_receiver (receiver_in ((terms past).sent serial))
    where
      by_receiver : (receiver : Option ℕ) → asks_at disks (turn past start rest) serial receiver ≡ asks_at disks (turn past start other) serial receiver
      by_receiver None = refl
      by_receiver (Some zero) = ap (asks 0) same_target_requests
      by_receiver (Some (suc i)) = refl
  same_asks (said (notes.TimedOut serial)) = by_sender (sender_in ((terms past).sent serial))
    where
      by_sender : (sender : Option ℕ) → expiring disks (turn past start rest) sender ≡ expiring disks (turn past start other) sender
      by_sender None = refl
      by_sender (Some zero) = ap (asks 0) same_target_requests
      by_sender (Some (suc i)) = refl
  same_asks (asked line (events.Act i action)) = refl
  same_asks (asked line event) = refl
  same_asks (said note) = refl

  same_due : answer_due disks (turn past start rest) start ≡ answer_due disks (turn past start other) start
  same_due = refl

  pub same_sends : asks_nothing start ≡ false → effects_of rest ≡ effects_of other → sends_of rest ≡ sends_of other
  same_sends some same =
      begins_with (answer_due disks (turn past start rest) start) (sends_of rest) h.answers
      ∙ ap₂ (λ x y. x ++ y) same_due same_behind
      ∙ sym (begins_with (answer_due disks (turn past start other) start) (sends_of other) k.answers)
    where
      same_before_requests : before_requests disks (turn past start rest) ≡ before_requests disks (turn past start other)
      same_before_requests = ap₂ (λ x y. once_told (start ∷ past) (x ++ y)) same same_due

      same_behind : behind_answer disks (turn past start rest) ≡ behind_answer disks (turn past start other)
      same_behind =
          packets_are telling (before_requests disks (turn past start rest)) (asks_by disks (turn past start rest) start).node (behind_answer disks (turn past start rest)) (asks_by disks (turn past start rest) start).requests (h.requests some) h.told.chunks
          ∙ ap₂ (λ before want. packets_of telling before want.node want.requests) same_before_requests (same_asks start)
          ∙ sym (packets_are telling (before_requests disks (turn past start other)) (asks_by disks (turn past start other) start).node (behind_answer disks (turn past start other)) (asks_by disks (turn past start other) start).requests (k.requests some) k.told.chunks)

-- ---- a turn that a note begins
module _ (At : Moment → List Moment → Type 0) where
  up_to_takings : (past : List Moment) (rest before takings operations sends : List Note) → rest ≡ ((before ++ takings) ++ operations) ++ sends → EachMoment At (put past rest) → EachMoment At (put (put past before) takings)
  up_to_takings past rest before takings operations sends is each =
      subst (EachMoment At) (put_append past before takings)
      (moments_before At operations (put past (before ++ takings)) (subst (EachMoment At) (put_append past (before ++ takings) operations)
      (moments_before At sends (put past ((before ++ takings) ++ operations)) (subst (EachMoment At) (put_append past ((before ++ takings) ++ operations) sends)
      (subst (λ l. EachMoment At (put past l)) is each)))))

module _ (wild : ℕ → Bool) (telling : Telling) (disks : List Disk) (past : List Moment) (start : Moment) (rest other : List Note) (h : Holds telling disks (turn past start rest)) (k : Holds telling disks (turn past start other)) where
  same_ordered : asks_nothing start ≡ false → InOrder (turn past start rest) → InOrder (turn past start other)
      → EachMoment (HoldsAt wild telling disks) (put (start ∷ past) rest) → EachMoment (HoldsAt wild telling disks) (put (start ∷ past) other) → rest ≡ other
  same_ordered some ordered also each more =
      rest_ordered (turn past start rest) ordered ∙ ap₂ (λ x y. x ++ y) effects (same_sends telling disks past start rest other h k some told_effects) ∙ sym (rest_ordered (turn past start other) also)
    where
      kinds : SameKinds rest other
      kinds = same_kinds telling disks past start rest other h k

      takings : of_kind is_taken_note rest ≡ of_kind is_taken_note other
      takings = same_takings wild telling disks (put (start ∷ past) (before_takings rest)) rest other (same_takings_in telling disks past start rest other h k)
          (up_to_takings (HoldsAt wild telling disks) (start ∷ past) rest (before_takings rest) (of_kind is_taken_note rest) (of_kind is_operation_note rest) (sends_of rest) (rest_ordered (turn past start rest) ordered) each)
          (subst (λ l. EachMoment (HoldsAt wild telling disks) (put (put (start ∷ past) l) (of_kind is_taken_note other))) (sym (same_before rest other kinds))
          (up_to_takings (HoldsAt wild telling disks) (start ∷ past) other (before_takings other) (of_kind is_taken_note other) (of_kind is_operation_note other) (sends_of other) (rest_ordered (turn past start other) also) more))

      effects : ordered_effects rest ≡ ordered_effects other
      effects = same_effects rest other kinds takings

      told_effects : effects_of rest ≡ effects_of other
      told_effects = effects_ordered (turn past start rest) ordered ∙ effects ∙ sym (effects_ordered (turn past start other) also)

-- what the laws say of a turn that a note begins, and of the moments in it
abbrev pub IsTurn : (ℕ → Bool) → Telling → List Disk → List Moment → Note → List Note → Type 0
IsTurn wild telling disks past note rest = Holds telling disks (turn past (said note) rest) × EachMoment (HoldsAt wild telling disks) (put (said note ∷ past) rest)

-- The rest of a turn that a note begins.
pub same_rest : (wild : ℕ → Bool) (telling : Telling) (disks : List Disk) (past : List Moment) (note : Note) (rest other : List Note)
    → IsTurn wild telling disks past note rest → IsTurn wild telling disks past note other → rest ≡ other
same_rest wild telling disks past (notes.Ignored serial cause) rest other h k =
    h.0.judges.1
    ∙ ap (λ v. ignored_rest (terms past) ((terms past).sent serial) v.rcode)
    (same_verdict disks past (said (notes.Ignored serial cause)) (said (notes.Ignored serial cause)) rest other serial)
    ∙ sym k.0.judges.1
same_rest wild telling disks past note rest other h k = same_ordered wild telling disks past (said note) rest other h.0 k.0 refl h.0.ordered k.0.ordered h.1 k.1
