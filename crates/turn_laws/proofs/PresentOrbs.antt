-- The present ORB of an agent stands at one address from its step in a turn to the end of the turn, whatever is told of it then: no note but of a login gives a place another agent.
use Rattle.std.proofs.Common.{◌≡◌, ◌∙◌, ◌⊎◌, inl, inr, refl, sym, ap, subst, ℕ, ◌*◌, ◌==◌, is_some, Bool, true, false, cond, List, [], ◌∷◌, ◌++◌, map, reverse, Option, Some, None}
use Rattle.command_agent.specs.declared.step.AgentStep.{AgentStep}
use Rattle.command_agent.specs.declared.step.Move.{Move}
use Rattle.command_agent.specs.declared.step.Move.TheVariants as moves
use Rattle.command_agent.specs.declared.step.Which.{Which}
use Rattle.command_agent.specs.declared.step.Which.TheVariants.{Ahead, Main}
use Rattle.command_agent.specs.declared.phase.Phase.TheVariants as phases
use Rattle.command_agent.specs.Checks.{reads_table, verdict}
use Rattle.command_agent.specs.Machine.{Machine, is_ahead, new_machine, plan_of}
use Rattle.command_agent.specs.Steps.{advanced, ahead_lost as forgets, ahead_of, answer_step, asks, check_step, checked, end_step, judge_step, judged, lost_step, passed_step, quiet, ran_as, reply_step, reset_step, run_step, served, told_or, unread_buffer}
use Rattle.orb_layout.specs.declared.ask.Ask.TheVariants.{Nothing, Read}
use Rattle.orb_layout.specs.declared.ask.FailCause.{FailCause}
use Rattle.orb_layout.specs.declared.ask.FailCause.TheVariants as causes
use Rattle.orb_layout.specs.declared.pointer.OrbPointer.{OrbPointer}
use Rattle.orb_layout.specs.declared.pointer.OrbPointer.TheVariants.{At, Null}
use Rattle.orb_layout.specs.declared.status.StatusKind.{StatusKind}
use Rattle.orb_layout.specs.declared.status.StatusKind.TheVariants as kinds
use Rattle.orb_layout.specs.Replies.{Answer}
use Rattle.rbc_disk.specs.declared.command.Need.{Need}
use Rattle.rbc_disk.specs.declared.command.Need.TheVariants as needs
use Rattle.rbc_disk.specs.declared.command.Outcome.{Outcome}
use Rattle.rbc_disk.specs.declared.command.Outcome.TheVariants as outcomes
use Rattle.rbc_disk.specs.Disk.{Disk}
use Rattle.rbc_disk.specs.Runs.{Told, need_of}
use Rattle.rbc_disk.specs.Units.{PlainDisk}
use Rattle.sbp_journal.specs.Run.{Moment, said}
use Rattle.sbp_journal.specs.Transactions.{Part, part_of}
use Rattle.sbp_journal.specs.Wire.{Terms}
use Rattle.sbp_journal.specs.declared.event.Event.{Event}
use Rattle.sbp_journal.specs.declared.event.Event.TheVariants as events
use Rattle.sbp_journal.specs.declared.note.Note.{Note}
use Rattle.sbp_journal.specs.declared.note.Note.TheVariants as notes
use Rattle.sbp_journal.specs.declared.operation.FunctionWord.TheVariants as functions
use Rattle.sbp_laws.specs.Deliveries.{once_told}
use Rattle.sbp_laws.specs.LoginLaw.{is_decision_note}
use Rattle.sbp_laws.specs.NoteKinds.{of_kind}
use Rattle.sbp_laws.specs.Packets.{access_in_bytes}
use Rattle.sbp_laws.specs.SentWrites.{end_in}
use Rattle.sbp_laws.specs.Targets.{Agent, Reply, Target, agent_at, agent_over, is_nothing, is_own_run, is_write_access, key_by, known_at, main_lost, moved, sends_of, sent_as, taken_on, target_at, target_by, wants}
use Rattle.sbp_laws.specs.Turns.{event_of}
use Rattle.sbp_laws.proofs.Going.{going_rests, run_rests, taken_rests}
use Rattle.sbp_world.proofs.Common.{said_split, same_number, untrue}
use Rattle.sbp_world.proofs.Lists.AgentFolds.{AreKept, AreSo, Every, Pends, is_for}
use Rattle.sbp_world.proofs.Lists.MainAnswers.{sends_as}
use Rattle.sbp_world.proofs.Lists.StatusLosses.{lost_present}
use Rattle.sbp_world.proofs.Wire.Lowest.{reversed}
use Rattle.sbp_world.proofs.Lists.AgentNotes.{IfApart, note_kept}
use Rattle.turn_laws.proofs.Handed.{AllInner, IsInner}

-- ---- which ORB is present behind a reply does not depend on what a run told
abbrev present : AgentStep × Machine → ℕ
present s = s.1.present

either : (b : Bool) (x y : AgentStep × Machine) (n : ℕ) → present x ≡ n → present y ≡ n → present (cond b x y) ≡ n
either true x y n e f = e
either false x y n e f = f

ran_present : (m : Machine) (outcome : Outcome) → present (ran_as m outcome) ≡ m.present
ran_present m (outcomes.Check sense) = refl
ran_present m (outcomes.Good len) = either (len == 0) (end_step m kinds.Good None) (answer_step m) m.present refl refl

run_present : (m : Machine) (told : Told) → present (run_step m told) ≡ m.present
run_present m told = ran_present (record m { answer = told.answer; written = 0 }) told.outcome

judged_present : (m : Machine) (told : Told) (need : Need) → present (judged m told need) ≡ m.present
judged_present m told needs.RunNow = run_present m told
judged_present m told (needs.Payload len) = refl

judge_present : (m : Machine) (place : ℕ) (plain : PlainDisk) (told : Told) → present (judge_step m place plain told) ≡ m.present
judge_present m place plain told = judged_present m told (need_of m.orb.cdb (plan_of m) plain place)

passed_present : (m : Machine) (place : ℕ) (plain : PlainDisk) (told : Told) → present (passed_step m place plain told) ≡ m.present
passed_present m place plain told =
    let n = record m { segments = unread_buffer m.orb } in
    either (reads_table m.orb) (asks (Read m.orb.descriptor (8 * m.orb.data_size)), record m { phase = phases.ReadingTable }) (judge_step n place plain told) m.present refl
    (judge_present n place plain told)

checked_present : (m : Machine) (place : ℕ) (plain : PlainDisk) (told : Told) (found : Option StatusKind) → present (checked m place plain told found) ≡ m.present
checked_present m place plain told (Some kind) = refl
checked_present m place plain told None = passed_present m place plain told

ahead_present : (dead : Option FailCause) (next : OrbPointer) (s : AgentStep × Machine) → present (ahead_of dead next s) ≡ present s
ahead_present None (At next) s = refl
ahead_present None Null s = refl
ahead_present (Some cause) next s = refl

pub served_present : (place : ℕ) (plain : PlainDisk) (told : Told) (r : Move × Machine) → present (served place plain told r.0 r.1) ≡ r.1.present
served_present place plain told (moves.Send step, m) = refl
served_present place plain told (moves.Check, m) = let s = check_step m place plain told in ahead_present s.0.dead s.1.orb.next s ∙ checked_present m place plain told (verdict m.orb m.aborted)
served_present place plain told (moves.Judge, m) = judge_present m place plain told
served_present place plain told (moves.Run, m) = run_present m told

pub reply_present : (m : Machine) (place : ℕ) (plain other : PlainDisk) (told so : Option Told) (which : Which) (answer : Answer)
    → present (reply_step m place plain told which answer) ≡ present (reply_step m place other so which answer)
unfolding reply_step
reply_present m place plain other told so Main answer =
    let r = advanced m.phase m answer in served_present place plain (told_or told) r ∙ sym (served_present place other (told_or so) r)
reply_present m place plain other told so Ahead answer = refl

-- ---- what is done with an agent leaves its ORB
reset_present : (m : Machine) → (reset_step m).present ≡ m.present
unfolding reset_step
reset_present m = refl

sends_present : (is_write : Bool) (serial : ℕ) (a : Agent) → (sends_of is_write serial a).machine.present ≡ a.machine.present
sends_present is_write serial a = by (wants a.asks is_write) (wants a.asks_ahead is_write)
  where
    by : (x y : Bool) → (cond x (record a { main = Some serial; asks = Nothing }) (cond y (record a { ahead = Some serial; asks_ahead = Nothing }) a)).machine.present ≡ a.machine.present
    by true y = refl
    by false true = refl
    by false false = refl

loses_present : (a : Agent) → (main_lost a).machine.present ≡ a.machine.present
loses_present a = by (is_nothing a.asks)
  where
    by : (b : Bool) → (cond b a (moved (lost_step a.machine Main causes.Label) a)).machine.present ≡ a.machine.present
    by true = refl
    by false = lost_present a.machine causes.Label

forgets_present : (b : Bool) (m : Machine) (cause : FailCause) → present (cond b (forgets m cause) (quiet, m)) ≡ m.present
forgets_present true m cause = refl
forgets_present false m cause = refl

ahead_lost_present : (m : Machine) (cause : FailCause) → present (lost_step m Ahead cause) ≡ m.present
unfolding lost_step
ahead_lost_present m cause = forgets_present (is_ahead m.ahead) m cause

over_present : (a : Agent) → (agent_over a).machine.present ≡ a.machine.present
over_present a = by (is_nothing (main_lost a).asks_ahead) ∙ loses_present a
  where
    by : (b : Bool)
        → (cond b (main_lost a) (record (main_lost a) { machine = (lost_step (main_lost a).machine Ahead causes.Label).1; asks_ahead = Nothing })).machine.present ≡ (main_lost a).machine.present
    by true = refl
    by false = ahead_lost_present (main_lost a).machine causes.Label

new_present : (q : ℕ) (plain : PlainDisk) (told : Option Told) (which : Which) (answer : Answer) → present (reply_step new_machine q plain told which answer) ≡ new_machine.present
unfolding reply_step
new_present q plain told Main answer = refl
new_present q plain told Ahead answer = refl

-- ---- a note that begins no turn, and gives no login
abbrev IsCalm : Note → Type 0
IsCalm (notes.Managed i functions.Login subject status login) = ⊥
IsCalm note = IsInner note

abbrev pub AllCalm : List Note → Type 0
AllCalm [] = Unit {0}
AllCalm (note ∷ rest) = IsCalm note × AllCalm rest

pub calm_notes : (rest : List Note) → AllInner rest → of_kind is_decision_note rest ≡ [] → AllCalm rest
calm_notes [] c e = tt
calm_notes (notes.Managed i word subject status login ∷ rest) c e = absurd (let no : notes.Managed i word subject status login ∷ of_kind is_decision_note rest ≡ [] = e in cc)
calm_notes (note ∷ rest) c e = (c.0, calm_notes rest c.1 e)

-- no reply waits behind it
pub dead_rests : (i : ℕ) (list : Option ℕ) (cause : FailCause) (past : List Moment) (wire : Terms) (t : Target) → (target_by (notes.Dead i list cause) past wire t).reply ≡ None
dead_rests i list causes.Label past wire t = taken_rests None t.reply t refl
dead_rests i list cause past wire t = going_rests _ t

key_rests : (event : Option Event) (unit : ℕ) (t : Target) → (key_by event unit t).reply ≡ t.reply
key_rests (Some (events.Key other key)) unit t = refl
key_rests None unit t = refl
key_rests (Some event) unit t = refl

pub sent_rests : (b : Bool) (part : Part) (is_write : Bool) (serial : ℕ) (t : Target) → t.reply ≡ None → (cond b (sent_as part is_write serial t) t).reply ≡ None
sent_rests true part is_write serial t e = sends_as part is_write serial t ∙ e
sent_rests false part is_write serial t e = e

pub note_rests : (note : Note) (past : List Moment) (wire : Terms) (t : Target) → IsCalm note → t.reply ≡ None → (target_by note past wire t).reply ≡ None
note_rests (notes.Begin initiators ready) past wire t c e = e
note_rests (notes.Got serial) past wire t c e = absurd c
note_rests (notes.Ignored serial cause) past wire t c e = absurd c
note_rests (notes.TimedOut serial) past wire t c e = absurd c
note_rests (notes.Seen node generation) past wire t c e = absurd c
note_rests notes.Tick past wire t c e = absurd c
note_rests (notes.Ran i n k unit cdb bytes check) past wire t c e = run_rests (is_own_run t.reply i wire t) (notes.Ran i n k unit cdb bytes check) t
note_rests (notes.Sent serial generation from to bytes) past wire t c e =
    sent_rests (from == 0) (part_of bytes) (is_write_access (access_in_bytes bytes)) serial (taken_on None t.reply t) (taken_rests None t.reply t refl)
note_rests (notes.Dead i list cause) past wire t c e = dead_rests i list cause past wire t
note_rests (notes.ManageFailed i cause) past wire t c e = e
note_rests (notes.Managed i functions.Login subject status login) past wire t c e = absurd c
note_rests (notes.Held id) past wire t c e = e
note_rests (notes.Expired id) past wire t c e = e
note_rests (notes.Back id) past wire t c e = e
note_rests (notes.Left id) past wire t c e = e
note_rests (notes.Cleared unit) past wire t c e = e
note_rests (notes.Key unit) past wire t c e = key_rests (event_of past) unit t ∙ e
note_rests (notes.Unsolicited i) past wire t c e = e
note_rests note past wire t c e = going_rests note t

-- ---- the history goes on by notes
pub told_one : (note : Note) (rest : List Note) (past : List Moment) → once_told past (note ∷ rest) ≡ once_told (said note ∷ past) rest
told_one note rest past = ap (λ ns. map said ns ++ past) (reversed note rest) ∙ said_split (reverse rest) (note ∷ []) past

module _ (start : List Disk) where
  ends_wait : (note : Note) (rest : List Note) (past : List Moment) → IsCalm note → ((target_at start past).reply ≡ None) ⊎ (is_some (end_in (note ∷ rest)) ≡ true)
      → ((target_at start (said note ∷ past)).reply ≡ None) ⊎ (is_some (end_in rest) ≡ true)
  ends_wait (notes.Ended i list number kind) rest past c x = inl (going_rests (notes.Ended i list number kind) (target_at start past))
  ends_wait note rest past c (inl e) = inl (note_rests note past (known_at start past).wire (target_at start past) c e)
  ends_wait note rest past c (inr e) = inr e

  -- where an end is told no reply waits
  pub none_waits : (rest : List Note) (past : List Moment) → AllCalm rest → ((target_at start past).reply ≡ None) ⊎ (is_some (end_in rest) ≡ true)
      → (target_at start (once_told past rest)).reply ≡ None
  none_waits [] past c (inl e) = e
  none_waits [] past c (inr e) = untrue e
  none_waits (note ∷ rest) past c x = ap (λ ms. (target_at start ms).reply) (told_one note rest past) ∙ none_waits rest (said note ∷ past) c.1 (ends_wait note rest past c.0 x)

module _ (place at : ℕ) where
  -- the agent of this place has the ORB there
  abbrev Stands : ℕ → Agent → Type 0
  Stands q a = q ≡ place → a.machine.present ≡ at

  are_kept : AreKept Stands Every
  are_kept = record {
    lasting = record {
      untells = λ q a b h e. h e;
      sends = λ q a is_write serial may h e. sends_present is_write serial a ∙ h e;
      loses = λ q a h e. loses_present a ∙ h e;
      ends = λ q a h e. over_present a ∙ h e;
      stays = λ q which answer plain told b h e. sym (new_present q plain told which answer) ∙ h e;
    };
    cuts = λ q a h e. reset_present a.machine ∙ h e;
  }

  none_apart : (note : Note) (past : List Moment) (start : List Disk) → IsCalm note → IfApart Stands are_kept note past (known_at start past).wire (target_at start past)
  none_apart (notes.Got serial) past start c = absurd c
  none_apart (notes.TimedOut serial) past start c = absurd c
  none_apart (notes.Managed i functions.Login subject status login) past start c = absurd c
  none_apart note past start c = tt

  on_notes : (start : List Disk) (rest : List Note) (past : List Moment) → AllCalm rest → AreSo Stands (target_at start past) → AreSo Stands (target_at start (once_told past rest))
  on_notes start [] past c h = h
  on_notes start (note ∷ rest) past c h =
      subst (λ ms. AreSo Stands (target_at start ms)) (sym (told_one note rest past))
      (on_notes start rest (said note ∷ past) c.1 (note_kept Stands are_kept note past (known_at start past).wire (target_at start past) h (none_apart note past start c.0)))

-- ---- so the ORB stands, from the reply on to the end of the turn
module _ (start : List Disk) (past : List Moment) (first : Moment) (rest : List Note) (reply : Reply) (T : Target) (is : target_at start (first ∷ past) ≡ record T { reply = Some reply }) (calm : AllCalm rest) (ends : is_some (end_in rest) ≡ true) (plain : PlainDisk) (told : Option Told) where
  abbrev there : ℕ
  there = (reply_step (agent_at T reply.place).machine reply.place plain told reply.which reply.answer).1.present

  abbrev now : List Moment
  now = once_told (first ∷ past) rest

  waits : AreSo (Stands reply.place there) (record T { reply = Some reply })
  waits = record {
    agents = λ q e f. untrue (sym (subst (λ p. (reply.place == p) ≡ false) f e) ∙ same_number reply.place);
    pending = λ other e.
        let same : reply ≡ other = (let both : Some reply ≡ Some other = e in cc) in
        subst (λ (r : Reply). Pends (Stands reply.place there) (agent_at T r.place) r) same
        (λ other_plain so b f. reply_present (agent_at T reply.place).machine reply.place other_plain plain so told reply.which reply.answer);
  }

  pub stands_there : (agent_at (target_at start now) reply.place).machine.present ≡ there
  stands_there =
      let h = on_notes reply.place there start rest (first ∷ past) calm (subst (AreSo (Stands reply.place there)) (sym is) waits) in
      h.agents reply.place (ap (λ r. is_for r reply.place) (none_waits start rest (first ∷ past) calm (inr ends))) refl
