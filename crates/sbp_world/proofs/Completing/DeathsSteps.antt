-- What a step of an agent does but end in death: a command runs, or is judged, an ORB that passed its checks goes on, and a read ahead is sent behind it. And at a reply to its read ahead it does not die.
use Rattle.sbp_world.proofs.Words.Std.{◌≡◌, ◌∙◌, refl, ℕ, ◌*◌, ◌==◌, Bool, true, false, cond, List, Option, Some, None, Result, Ok, Err}
use Rattle.sbp_world.proofs.Words.Target.{AgentStep, Ahead, Machine, Move, Need, PlainDisk, Told, ahead_of, ahead_read, ahead_step, asks, check_step, checked, death_by, end_step, is_ahead, judge_step, judged, need_of, passed_step, plan_of, quiet, ran_as, reads_table, reply_step, run_step, served, unread_buffer, verdict}
use Rattle.sbp_world.proofs.Words.Initiator.{Answer, FailCause, OrbPointer, StatusKind, payload_of}
use Rattle.orb_layout.specs.declared.ask.Ask.TheVariants.{Read}
use Rattle.orb_layout.specs.declared.pointer.OrbPointer.TheVariants as pointers
use Rattle.orb_layout.specs.declared.status.StatusKind.TheVariants as kinds
use Rattle.command_agent.specs.declared.phase.Phase.TheVariants as phases
use Rattle.command_agent.specs.declared.step.Move.TheVariants as moves
use Rattle.command_agent.specs.Steps.{answer_step}
use Rattle.rbc_disk.specs.declared.command.Need.TheVariants as needs
use Rattle.rbc_disk.specs.declared.command.Outcome.{Outcome}
use Rattle.rbc_disk.specs.declared.command.Outcome.TheVariants as outcomes

pub either : (b : Bool) (x y : AgentStep × Machine) → x.0.dead ≡ None → y.0.dead ≡ None → (cond b x y).0.dead ≡ None
either true x y e f = e
either false x y e f = f

ran_lives : (m : Machine) (outcome : Outcome) → (ran_as m outcome).0.dead ≡ None
ran_lives m (outcomes.Check sense) = refl
ran_lives m (outcomes.Good len) = either (len == 0) (end_step m kinds.Good None) (answer_step m) refl refl

pub run_lives : (m : Machine) (told : Told) → (run_step m told).0.dead ≡ None
run_lives m told = ran_lives (record m { answer = told.answer; written = 0 }) told.outcome

judged_lives : (m : Machine) (told : Told) (need : Need) → (judged m told need).0.dead ≡ None
judged_lives m told needs.RunNow = run_lives m told
judged_lives m told (needs.Payload len) = refl

pub judge_lives : (m : Machine) (place : ℕ) (plain : PlainDisk) (told : Told) → (judge_step m place plain told).0.dead ≡ None
judge_lives m place plain told = judged_lives m told (need_of m.orb.cdb (plan_of m) plain place)

pub passed_lives : (m : Machine) (place : ℕ) (plain : PlainDisk) (told : Told) → (passed_step m place plain told).0.dead ≡ None
passed_lives m place plain told =
    either (reads_table m.orb) (asks (Read m.orb.descriptor (8 * m.orb.data_size)), record m { phase = phases.ReadingTable }) (judge_step (record m { segments = unread_buffer m.orb }) place plain told) refl (judge_lives (record m { segments = unread_buffer m.orb }) place plain told)

pub ahead_keeps : (dead : Option FailCause) (next : OrbPointer) (s : AgentStep × Machine) → (ahead_of dead next s).0.dead ≡ s.0.dead
ahead_keeps None (pointers.At next) s = refl
ahead_keeps None pointers.Null s = refl
ahead_keeps (Some cause) next s = refl

-- ---- a reply to the read ahead
read_lives : (m : Machine) (bytes : Result (List ℕ) FailCause) → (ahead_read m bytes).0.dead ≡ None
read_lives m (Ok bytes) = refl
read_lives m (Err cause) = refl

pub ahead_lives : (m : Machine) (place : ℕ) (plain : PlainDisk) (told : Option Told) (answer : Answer) → (reply_step m place plain told Ahead answer).0.dead ≡ None
unfolding reply_step
ahead_lives m place plain told answer = either (is_ahead m.ahead) (ahead_step m answer) (quiet, m) (read_lives m (payload_of answer 32)) refl

-- ---- a move
-- an ORB that is not illegal
abbrev pub IsSpared : Option StatusKind → Type 0
IsSpared (Some (kinds.Illegal meaning)) = ⊥
IsSpared kind = Unit {0}

spared_lives : (kind : StatusKind) → IsSpared (Some kind) → death_by kind ≡ None
spared_lives (kinds.Illegal meaning) s = absurd s
spared_lives kind s = refl

-- what is to be done ends in no death
abbrev pub Lives : Move × Machine → Type 0
Lives (moves.Send step, n) = step.dead ≡ None
Lives (moves.Check, n) = (aborted : Bool) → IsSpared (verdict n.orb aborted)
Lives (moves.Judge, n) = Unit {0}
Lives (moves.Run, n) = Unit {0}

checked_lives : (n : Machine) (place : ℕ) (plain : PlainDisk) (told : Told) (found : Option StatusKind) → IsSpared found → (checked n place plain told found).0.dead ≡ None
checked_lives n place plain told (Some kind) s = spared_lives kind s
checked_lives n place plain told None s = passed_lives n place plain told

check_lives : (n : Machine) (place : ℕ) (plain : PlainDisk) (told : Told) → IsSpared (verdict n.orb n.aborted) → (let s = check_step n place plain told in (ahead_of s.0.dead s.1.orb.next s).0.dead ≡ None)
check_lives n place plain told spared =
    let s = check_step n place plain told in ahead_keeps s.0.dead s.1.orb.next s ∙ checked_lives n place plain told (verdict n.orb n.aborted) spared

pub served_lives : (place : ℕ) (plain : PlainDisk) (told : Told) (r : Move × Machine) → Lives r → (served place plain told r.0 r.1).0.dead ≡ None
served_lives place plain told (moves.Send step, n) h = h
served_lives place plain told (moves.Check, n) h = check_lives n place plain told (h n.aborted)
served_lives place plain told (moves.Judge, n) h = judge_lives n place plain told
served_lives place plain told (moves.Run, n) h = run_lives n told
