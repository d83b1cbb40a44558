-- Which runs are due in a turn, by the run terms: none where it begins with no packet that the target gets, and none of an agent that answers no transaction. And how
-- a history goes on by turns that tell the runs which are due.
use Rattle.sbp_world.proofs.Words.Std.{◌≡◌, ◌∙◌, refl, sym, ap, ℕ, Bool, true, false, cond, List, [], ◌∷◌, ◌++◌, map, Option, Some, None, Result, Ok, Err}
use Rattle.sbp_world.proofs.Words.Wire.{Access, Register, Start, agent_reset, agent_state, doorbell, management_agent, no_start, orb_pointer, register, rom_start, start_at, start_serves, unsolicited_enable, LineEvent, Moment, asked, said, terms, Note}
use Rattle.sbp_world.proofs.Words.Target.{Phase, PointRefusal, Which, Ahead, Main, Machine, is_ahead, advanced, ahead_step, doorbell_step, point_step, quiet, reply_step, served, told_or, Outcome, Disk, Told, PlainDisk}
use Rattle.sbp_world.proofs.Words.Initiator.{Ask, pointer_at, Expired}
use Rattle.sbp_world.proofs.Words.Laws.{Event, agent_turn, by_doorbell, by_pointer, nothing, reply_to, target_before, told_among, wire_before, write_in, write_of, writes, run_by, run_of, runs_due, runs_in, sender_in, Purpose, Target, agent_at, for_agent, for_manager, for_nobody, initiator_at, is_serial, plain_for, purpose_of, unit_of, EachTurn, EachTurnBefore, Turn, turn}
use Rattle.std.specs.Prelude.{◌&&◌}
use Rattle.command_agent.specs.declared.phase.Phase.TheVariants as phases
use Rattle.sbp_journal.specs.declared.note.Note.TheVariants as notes
use Rattle.sbp_world.proofs.Lists.Runless.{AllPlain}

-- ---- notes of no run
pub plain_runs : (rest : List Note) → AllPlain rest → runs_in rest ≡ []
plain_runs [] h = refl
plain_runs (notes.Ran i n k unit cdb bytes check ∷ rest) h = absurd h.0
plain_runs (note ∷ rest) h = plain_runs rest h.1

pub plain_told : (i : ℕ) (rest : List Note) (plain : PlainDisk) → AllPlain rest → told_among i rest plain ≡ None
plain_told i [] plain h = refl
plain_told i (notes.Ran j n k unit cdb bytes check ∷ rest) plain h = absurd h.0
plain_told i (note ∷ rest) plain h = plain_told i rest plain h.1

-- ---- a transaction that timed out runs no command
expired_main : (place : ℕ) (plain : PlainDisk) (told : Told) (phase : Phase) (m : Machine) → (served place plain told (advanced phase m Expired).0 (advanced phase m Expired).1).0.ran ≡ None
expired_main place plain told phases.Reset m = refl
expired_main place plain told phases.Fetching m = refl
expired_main place plain told phases.ReadingTable m = refl
expired_main place plain told (phases.ReadingData wanted) m = refl
expired_main place plain told phases.Answering m = refl
expired_main place plain told phases.WritingStatus m = refl
expired_main place plain told phases.ReadingNext m = refl
expired_main place plain told phases.WritingLastStatus m = refl
expired_main place plain told phases.Suspended m = refl
expired_main place plain told phases.Dead m = refl

expired_ahead : (b : Bool) (m : Machine) → (cond b (ahead_step m Expired) (quiet, m)).0.ran ≡ None
expired_ahead true m = refl
expired_ahead false m = refl

expired_none : (m : Machine) (place : ℕ) (plain : PlainDisk) (told : Option Told) (which : Which) → (reply_step m place plain told which Expired).0.ran ≡ None
unfolding reply_step
expired_none m place plain told Main = expired_main place plain (told_or told) m.phase m
expired_none m place plain told Ahead = expired_ahead (is_ahead m.ahead) m

-- ---- what is due
pub none_of : (past : List Moment) (i unit : ℕ) (machine : Machine) (x : Option Outcome) → x ≡ None → run_of past i unit machine x ≡ []
none_of past i unit machine x e = ap (run_of past i unit machine) e

module _ (T : Target) (t : Turn) where
  abbrev pub DueBy : Event → Type 0
  DueBy event = run_by T t (agent_turn event T (wire_before t) t.rest) ≡ []

  due_if : (b : Bool) (e : Event) → DueBy e → DueBy (cond b e nothing)
  due_if true e d = d
  due_if false e d = refl

  pointer_due : (place : ℕ) (r : Result Ask PointRefusal × Machine) → run_by T t (by_pointer place (agent_at T place) r) ≡ []
  pointer_due place (Err refusal, machine) = refl
  pointer_due place (Ok ask, machine) = refl

  doorbell_due : (place : ℕ) (r : Ask × Machine) → run_by T t (by_doorbell place (agent_at T place) r) ≡ []
  doorbell_due place (ask, machine) = refl

  register_due : (name : Register) (place : ℕ) (access : Access) → DueBy (writes name place access)
  register_due agent_state place access = refl
  register_due agent_reset place access = refl
  register_due orb_pointer place access = pointer_due place (point_step (agent_at T place).machine (pointer_at access.payload 0))
  register_due doorbell place access = doorbell_due place (doorbell_step (agent_at T place).machine)
  register_due unsolicited_enable place access = refl

  start_due : (s : Start) (access : Access) → DueBy (write_of s access)
  start_due (register place name) access = due_if (access.is_write && start_serves (register place name) access) (writes name place access) (register_due name place access)
  start_due management_agent access = refl
  start_due rom_start access = refl
  start_due no_start access = refl

  -- a request that is got
  pub write_due : (x : Option Access) → DueBy (write_in x)
  write_due None = refl
  write_due (Some access) = start_due (start_at access.offset) access

  -- a transaction that timed out
  expired_due : (p : Purpose) → AllPlain t.rest → DueBy (reply_to p Expired)
  expired_due (for_agent place which) h =
      let plain = plain_for T (record { place = place; which = which; answer = Expired }) in
      let told = told_among (initiator_at T (wire_before t) place) t.rest plain in
      let r = reply_step (agent_at T place).machine place plain told which Expired in
      none_of t.past (initiator_at T (wire_before t) place) (unit_of T place) r.1 r.0.ran (expired_none (agent_at T place).machine place plain told which)
  expired_due for_manager h = refl
  expired_due for_nobody h = refl

  pub late_due : (b : Bool) (p : Purpose) → AllPlain t.rest → DueBy (cond b (reply_to p Expired) nothing)
  late_due b p h = due_if b (reply_to p Expired) (expired_due p h)

-- ---- turns that begin with no packet that is got
abbrev pub IsOther : Moment → Type 0
IsOther (said (notes.Got serial)) = ⊥
IsOther moment = Unit {0}

pub other_due : (start : List Disk) (past : List Moment) (m : Moment) (rest : List Note) → IsOther m → AllPlain rest → runs_due start (turn past m rest) ≡ []
other_due start past (asked line event) rest o h = refl
other_due start past (said (notes.Got serial)) rest o h = absurd o
other_due start past (said (notes.TimedOut serial)) rest o h =
    let t = turn past (said (notes.TimedOut serial)) rest in
    let T = target_before start t in
    late_due T t (is_serial (sender_in ((terms past).sent serial)) 0) (purpose_of T serial) h
other_due start past (said note) rest o h = refl

-- the runs that a turn tells are those that are due
abbrev pub TellsDue : List Disk → Turn → Type 0
TellsDue start t = runs_in t.rest ≡ runs_due start t

module _ (start : List Disk) where
  abbrev Law : Turn → Type 0
  Law t = TellsDue start t

  abbrev pub Before : List Moment → List Note → Type 0
  Before past rest = EachTurnBefore Law past rest

  pub plain_turn : (past : List Moment) (m : Moment) (rest : List Note) → IsOther m → AllPlain rest → Law (turn past m rest)
  plain_turn past m rest o h = plain_runs rest h ∙ sym (other_due start past m rest o h)

  -- notes of no run stand in front
  pub front_turns : (front : List Note) (P : List Moment) → AllPlain front → ((rest : List Note) → AllPlain rest → Before P rest) → (rest : List Note) → AllPlain rest → Before (map said front ++ P) rest
  front_turns [] P h f rest p = f rest p
  front_turns (notes.Ran i n k unit cdb bytes check ∷ front) P h f rest p = absurd h.0
  front_turns (notes.Got serial ∷ front) P h f rest p = absurd h.0
  front_turns (notes.Ignored serial cause ∷ front) P h f rest p = absurd h.0
  front_turns (notes.TimedOut serial ∷ front) P h f rest p = (plain_turn (map said front ++ P) (said (notes.TimedOut serial)) rest tt p, front_turns front P h.1 f [] tt)
  front_turns (notes.Seen node generation ∷ front) P h f rest p = (plain_turn (map said front ++ P) (said (notes.Seen node generation)) rest tt p, front_turns front P h.1 f [] tt)
  front_turns (notes.Tick ∷ front) P h f rest p = (plain_turn (map said front ++ P) (said notes.Tick) rest tt p, front_turns front P h.1 f [] tt)
  front_turns (notes.Settled ∷ front) P h f rest p = (plain_turn (map said front ++ P) (said notes.Settled) rest tt p, front_turns front P h.1 f [] tt)
  front_turns (notes.Stopped ∷ front) P h f rest p = (plain_turn (map said front ++ P) (said notes.Stopped) rest tt p, front_turns front P h.1 f [] tt)
  front_turns (note ∷ front) P h f rest p = front_turns front P h.1 f (note ∷ rest) (h.0, p)

  -- a line begins, and a packet is ignored
  pub line_turns : (line : ℕ) (event : LineEvent) (past : List Moment) → EachTurn Law past → (rest : List Note) → AllPlain rest → Before (asked line event ∷ past) rest
  line_turns line event past l rest p = (plain_turn past (asked line event) rest tt p, l)
