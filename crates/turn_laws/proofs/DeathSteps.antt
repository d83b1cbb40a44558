-- Why an agent dies at a reply to its main transaction: by the answer, where it is one to what the agent asked for, or by an ORB or a page table that is illegal.
use Rattle.std.proofs.Common.{◌≡◌, ◌∙◌, refl, sym, ap, subst, ℕ, ◌*◌, ◌+◌, ◌^◌, ◌==◌, ◌&&◌, ◌||◌, not, nat_lt, is_some, Bool, true, false, cond, List, ◌++◌, length, Option, Some, None, Result, Ok, Err}
use Rattle.std.proofs.lemmas.Bool.{or_left, or_right}
use Rattle.orb_layout.specs.declared.ask.Ask.{Ask}
use Rattle.orb_layout.specs.declared.ask.Ask.TheVariants.{Nothing, Read, Write}
use Rattle.orb_layout.specs.declared.ask.FailCause.{FailCause}
use Rattle.orb_layout.specs.declared.ask.FailCause.TheVariants as causes
use Rattle.orb_layout.specs.declared.command.CommandOrb.{CommandOrb}
use Rattle.orb_layout.specs.declared.pointer.OrbPointer.{OrbPointer}
use Rattle.orb_layout.specs.declared.pointer.OrbPointer.TheVariants as pointers
use Rattle.orb_layout.specs.declared.status.StatusKind.{StatusKind}
use Rattle.orb_layout.specs.declared.status.StatusKind.TheVariants as kinds
use Rattle.orb_layout.specs.CommandOrbs.{command_orb}
use Rattle.orb_layout.specs.Pointers.{pointer_at}
use Rattle.orb_layout.specs.Replies.{Answer, Done, Expired, NoLabel, Payload, Refused, payload_of, write_failure}
use Rattle.page_table.specs.declared.fault.PageFault.{PageFault}
use Rattle.page_table.specs.Elements.{elements_of, first_fault}
use Rattle.rbc_disk.specs.Runs.{Told}
use Rattle.rbc_disk.specs.Units.{PlainDisk}
use Rattle.command_agent.specs.Checks.{death_by, refusal, verdict}
use Rattle.command_agent.specs.Machine.{Machine, chunk_of}
use Rattle.command_agent.specs.Steps.{advanced, ahead_of, answer_chunk, answer_step, check_step, checked, chunk_written, data_grown, data_read, data_step, elements_read, end_step, follow_step, judge_step, next_read, orb_read, passed_step, quiet, reply_step, reread_step, run_step, sent, served, status_written, table_read, told_or, turn_step, wait_step}
use Rattle.command_agent.specs.declared.phase.Phase.{Phase}
use Rattle.command_agent.specs.declared.phase.Phase.TheVariants as phases
use Rattle.command_agent.specs.declared.phase.ReadAhead.{ReadAhead}
use Rattle.command_agent.specs.declared.phase.ReadAhead.TheVariants as aheads
use Rattle.command_agent.specs.declared.step.AgentStep.{AgentStep}
use Rattle.command_agent.specs.declared.step.Move.{Move}
use Rattle.command_agent.specs.declared.step.Move.TheVariants as moves
use Rattle.command_agent.specs.declared.step.Which.TheVariants.{Main}
use Rattle.agent_laws.specs.Along.Requests.{main_ask}
use Rattle.sbp_journal.specs.Addresses.{Access}
use Rattle.sbp_laws.specs.Deaths.{illegal_meaning, is_expired, is_other_length, is_refused, meaning_at, table_meaning}
use Rattle.sbp_world.proofs.Lists.OrbSteps.{has_read}
use Rattle.turn_laws.proofs.FailingRows.{MayAnswer}
use Rattle.sbp_world.proofs.Common.{none_is}
use Rattle.sbp_world.proofs.Completing.DeathsSteps.{ahead_keeps, either, judge_lives, passed_lives, run_lives}
use Rattle.sbp_world.proofs.Lists.DataSteps.{done_of}

-- ---- an illegal ORB
abbrev meaning_in : Option StatusKind → Option ℕ
meaning_in (Some (kinds.Illegal meaning)) = Some meaning
meaning_in kind = None

-- by the fields that are looked at, in their order
abbrev kinds_by : (b c d e f : Bool) → Option StatusKind
kinds_by b c d e f =
    cond b (Some (kinds.Illegal 0x02)) (cond c (Some (kinds.Illegal 0xff)) (cond d (Some (kinds.Illegal 0x03)) (cond e (Some (kinds.Illegal 0xff)) (cond f (Some (kinds.Illegal 0xff)) None))))

abbrev meanings_by : (b c d e f : Bool) → Option ℕ
meanings_by b c d e f = cond b (Some 0x02) (cond c (Some 0xff) (cond d (Some 0x03) (cond e (Some 0xff) (cond f (Some 0xff) None))))

by_fields : (b c d e f : Bool) → meaning_in (kinds_by b c d e f) ≡ meanings_by b c d e f
by_fields true c d e f = refl
by_fields false true d e f = refl
by_fields false false true e f = refl
by_fields false false false true f = refl
by_fields false false false false true = refl
by_fields false false false false false = refl

abbrev kind_by : (three zero aborted : Bool) → Option StatusKind → Option StatusKind
kind_by three zero aborted x = cond three (Some kinds.Dummy) (cond (not zero) (Some (kinds.Illegal 0x01)) (cond aborted (Some kinds.Aborted) x))

by_format : (three zero aborted : Bool) (x : Option StatusKind) (y : Option ℕ) (meaning : ℕ) → meaning_in x ≡ y → meaning_in (kind_by three zero aborted x) ≡ Some meaning → cond (not zero) (cond three None (Some 0x01)) y ≡ Some meaning
by_format true zero aborted x y meaning f e = none_is meaning e
by_format false false aborted x y meaning f e = e
by_format false true true x y meaning f e = none_is meaning e
by_format false true false x y meaning f e = sym f ∙ e

abbrev fields_meaning : CommandOrb → Option ℕ
fields_meaning orb =
    meanings_by (nat_lt 2 orb.speed) (nat_lt (7 + orb.speed) orb.max_payload) (orb.has_table && not (orb.page_size == 0)) (orb.has_table && nat_lt 64 orb.data_size)
    (not orb.has_table && nat_lt (2 ^ 48) (orb.descriptor + orb.data_size))

refused_as : (orb : CommandOrb) → meaning_in (refusal orb) ≡ fields_meaning orb
unfolding refusal
refused_as orb =
    by_fields (nat_lt 2 orb.speed) (nat_lt (7 + orb.speed) orb.max_payload) (orb.has_table && not (orb.page_size == 0)) (orb.has_table && nat_lt 64 orb.data_size)
    (not orb.has_table && nat_lt (2 ^ 48) (orb.descriptor + orb.data_size))

pub illegal_is : (orb : CommandOrb) (aborted : Bool) (meaning : ℕ) → verdict orb aborted ≡ Some (kinds.Illegal meaning) → illegal_meaning orb ≡ Some meaning
unfolding verdict
illegal_is orb aborted meaning e = by_format (orb.format == 3) (orb.format == 0) aborted (refusal orb) (fields_meaning orb) meaning (refused_as orb) (ap meaning_in e)

-- ---- the bytes of a read
pub read_bytes : (answer : Answer) (size : ℕ) (bytes : List ℕ) → payload_of answer size ≡ Ok bytes → (answer ≡ Payload bytes) × ((length bytes == size) ≡ true)
read_bytes (Payload other) size bytes e = by (length other == size) refl e
  where
    by : (b : Bool) → (length other == size) ≡ b → cond b (Ok other) (Err causes.Grammar) ≡ Ok bytes → (Payload other ≡ Payload bytes) × ((length bytes == size) ≡ true)
    by true f g = let same : other ≡ bytes = cc in (ap Payload same, ap (λ (x : List ℕ). length x == size) (sym same) ∙ f)
    by false f g = absurd (let no : Err causes.Grammar ≡ Ok bytes = g in cc)
read_bytes Done size bytes e = absurd (let no : Err causes.Grammar ≡ Ok bytes = e in cc)
read_bytes (Refused rcode) size bytes e = absurd (let no : Err causes.Refused ≡ Ok bytes = e in cc)
read_bytes Expired size bytes e = absurd (let no : Err causes.Timeout ≡ Ok bytes = e in cc)
read_bytes NoLabel size bytes e = absurd (let no : Err causes.Label ≡ Ok bytes = e in cc)

pub kept_idle : {A : Type 0} (ahead : ReadAhead) (orb : CommandOrb) → ahead ≡ aheads.Idle → ahead ≡ aheads.Kept orb → A
kept_idle ahead orb e f = absurd (let no : aheads.Idle ≡ aheads.Kept orb = sym e ∙ f in cc)

-- an answer to what was asked for
abbrev pub FairFor : Ask → Answer → Option Access → Type 0
FairFor Nothing answer access = Unit {0}
FairFor (Read offset size) answer access = MayAnswer (Some size) answer access
FairFor (Write offset size) answer access = MayAnswer None answer access

module _ (m : Machine) (answer : Answer) (access : Option Access) where
  -- the row of a cause, at a reply to the main transaction
  abbrev pub Row : Phase → FailCause → Type 0
  Row phase causes.Timeout = is_expired (Some answer) ≡ true
  Row phase causes.Refused = is_refused (Some answer) ≡ true
  Row phase causes.Grammar = (is_other_length (Some answer) access || is_some (meaning_at m phase answer)) ≡ true
  Row phase causes.Label = ⊥

  abbrev pub Has : Phase → Option FailCause → Type 0
  Has phase None = Unit {0}
  Has phase (Some cause) = Row phase cause

  lives : (phase : Phase) (dead : Option FailCause) → dead ≡ None → Has phase dead
  lives phase dead e = subst (Has phase) (sym e) tt

  -- ---- by the answer
  other_length : (phase : Phase) (size : ℕ) (bytes : List ℕ) → answer ≡ Payload bytes → is_other_length (Some (Payload bytes)) access ≡ not (length bytes == size) → (length bytes == size) ≡ false → Row phase causes.Grammar
  other_length phase size bytes e fair f = or_left (is_other_length (Some answer) access) (is_some (meaning_at m phase answer)) (ap (λ a. is_other_length (Some a) access) e ∙ (fair ∙ ap not f))

  by_size : (phase : Phase) (size : ℕ) (bytes : List ℕ) (cause : FailCause) → answer ≡ Payload bytes → is_other_length (Some (Payload bytes)) access ≡ not (length bytes == size) → (b : Bool) → (length bytes == size) ≡ b → cond b (Ok bytes) (Err causes.Grammar) ≡ Err cause → Row phase cause
  by_size phase size bytes cause e fair true f g = absurd (let no : Ok bytes ≡ Err cause = g in cc)
  by_size phase size bytes cause e fair false f g = let same : causes.Grammar ≡ cause = cc in subst (Row phase) same (other_length phase size bytes e fair f)

  read_by : (phase : Phase) (size : ℕ) (a : Answer) → answer ≡ a → MayAnswer (Some size) a access → (cause : FailCause) → payload_of a size ≡ Err cause → Row phase cause
  read_by phase size (Payload bytes) e fair cause f = by_size phase size bytes cause e fair (length bytes == size) refl f
  read_by phase size Done e fair cause f = absurd fair
  read_by phase size (Refused rcode) e fair cause f = let same : causes.Refused ≡ cause = cc in subst (Row phase) same (ap (λ a. is_refused (Some a)) e)
  read_by phase size Expired e fair cause f = let same : causes.Timeout ≡ cause = cc in subst (Row phase) same (ap (λ a. is_expired (Some a)) e)
  read_by phase size NoLabel e fair cause f = absurd fair

  write_by : (phase : Phase) (a : Answer) → answer ≡ a → MayAnswer None a access → (cause : FailCause) → write_failure a ≡ Some cause → Row phase cause
  write_by phase (Payload bytes) e fair cause f = absurd fair
  write_by phase Done e fair cause f = absurd (let no : None ≡ Some cause = f in cc)
  write_by phase (Refused rcode) e fair cause f = let same : causes.Refused ≡ cause = cc in subst (Row phase) same (ap (λ a. is_refused (Some a)) e)
  write_by phase Expired e fair cause f = let same : causes.Timeout ≡ cause = cc in subst (Row phase) same (ap (λ a. is_expired (Some a)) e)
  write_by phase NoLabel e fair cause f = absurd fair

  -- ---- by what is illegal
  illegal_row : (phase : Phase) (x : Option ℕ) (meaning : ℕ) → meaning_at m phase answer ≡ x → x ≡ Some meaning → Row phase causes.Grammar
  illegal_row phase x meaning e f = or_right (is_other_length (Some answer) access) (is_some (meaning_at m phase answer)) (ap (λ (y : Option ℕ). is_some y) (e ∙ f))

  -- ---- a move
  abbrev Checks : Phase → CommandOrb → Bool → Type 0
  Checks phase orb aborted = (kind : StatusKind) → verdict orb aborted ≡ Some kind → Has phase (death_by kind)

  abbrev Moves : Phase → Move × Machine → Type 0
  Moves phase (moves.Send step, n) = Has phase step.dead
  Moves phase (moves.Check, n) = Checks phase n.orb n.aborted
  Moves phase (moves.Judge, n) = Unit {0}
  Moves phase (moves.Run, n) = Unit {0}

  checks_by : (phase : Phase) (orb : CommandOrb) (aborted : Bool) → ((meaning : ℕ) → illegal_meaning orb ≡ Some meaning → Row phase causes.Grammar) → Checks phase orb aborted
  checks_by phase orb aborted h (kinds.Illegal meaning) e = h meaning (illegal_is orb aborted meaning e)
  checks_by phase orb aborted h kind e = tt

  checked_has : (phase : Phase) (n : Machine) (place : ℕ) (plain : PlainDisk) (told : Told) → Checks phase n.orb n.aborted → (found : Option StatusKind) → verdict n.orb n.aborted ≡ found → Has phase (checked n place plain told found).0.dead
  checked_has phase n place plain told h (Some kind) e = h kind e
  checked_has phase n place plain told h None e = lives phase (passed_step n place plain told).0.dead (passed_lives n place plain told)

  check_has : (phase : Phase) (n : Machine) (place : ℕ) (plain : PlainDisk) (told : Told) → Checks phase n.orb n.aborted → (let s = check_step n place plain told in Has phase (ahead_of s.0.dead s.1.orb.next s).0.dead)
  check_has phase n place plain told h =
      let s = check_step n place plain told in
      subst (Has phase) (sym (ahead_keeps s.0.dead s.1.orb.next s)) (checked_has phase n place plain told h (verdict n.orb n.aborted) refl)

  served_has : (phase : Phase) (place : ℕ) (plain : PlainDisk) (told : Told) (r : Move × Machine) → Moves phase r → Has phase (served place plain told r.0 r.1).0.dead
  served_has phase place plain told (moves.Send step, n) h = h
  served_has phase place plain told (moves.Check, n) h = check_has phase n place plain told h
  served_has phase place plain told (moves.Judge, n) h = lives phase (judge_step n place plain told).0.dead (judge_lives n place plain told)
  served_has phase place plain told (moves.Run, n) h = lives phase (run_step n told).0.dead (run_lives n told)

  pick : (phase : Phase) (b : Bool) (x y : Move × Machine) → Moves phase x → Moves phase y → Moves phase (cond b x y)
  pick phase true x y h i = h
  pick phase false x y h i = i

  sends : (phase : Phase) (s : AgentStep × Machine) → s.0.dead ≡ None → Moves phase (sent s)
  sends phase s e = lives phase s.0.dead e

  -- ---- the reply to the main transaction, by phase
  orb_moves : (r : Result (List ℕ) FailCause) → payload_of answer 32 ≡ r → MayAnswer (Some 32) answer access → Moves phases.Fetching (orb_read m r)
  orb_moves (Err cause) e fair = read_by phases.Fetching 32 answer refl fair cause e
  orb_moves (Ok bytes) e fair =
      let b = read_bytes answer 32 bytes e in
      let orb = command_orb bytes in
      let found : meaning_at m phases.Fetching answer ≡ illegal_meaning orb = ap (meaning_at m phases.Fetching) b.0 ∙ ap (λ x. cond x (illegal_meaning orb) None) b.1 in
      checks_by phases.Fetching orb m.aborted (λ meaning f. illegal_row phases.Fetching (illegal_meaning orb) meaning found f)

  fault_moves : (bytes : List ℕ) (fault : Option PageFault) → answer ≡ Payload bytes → first_fault 0 (elements_of bytes) ≡ fault → Moves phases.ReadingTable (elements_read m bytes fault)
  fault_moves bytes None e f = tt
  fault_moves bytes (Some fault) e f = illegal_row phases.ReadingTable (Some 0xff) 0xff (ap (meaning_at m phases.ReadingTable) e ∙ ap table_meaning f) refl

  table_moves : (r : Result (List ℕ) FailCause) → payload_of answer (8 * m.orb.data_size) ≡ r → MayAnswer (Some (8 * m.orb.data_size)) answer access → Moves phases.ReadingTable (table_read m r)
  table_moves (Err cause) e fair = read_by phases.ReadingTable (8 * m.orb.data_size) answer refl fair cause e
  table_moves (Ok bytes) e fair =
      let b = read_bytes answer (8 * m.orb.data_size) bytes e in
      let fault = first_fault 0 (elements_of bytes) in
      pick phases.ReadingTable m.aborted (sent (end_step m kinds.Aborted None)) (elements_read m bytes fault) tt (fault_moves bytes fault b.0 refl)

  data_moves : (wanted : ℕ) (r : Result (List ℕ) FailCause) → (let size = (chunk_of m (length m.payload) wanted).length in payload_of answer size ≡ r → MayAnswer (Some size) answer access → Moves (phases.ReadingData wanted) (data_read m wanted r))
  data_moves wanted (Err cause) e fair = read_by (phases.ReadingData wanted) (chunk_of m (length m.payload) wanted).length answer refl fair cause e
  data_moves wanted (Ok bytes) e fair =
      let n = record m { payload = m.payload ++ bytes } in
      let phase = phases.ReadingData wanted in
      pick phase m.aborted (sent (end_step m kinds.Aborted None)) (data_grown n wanted) tt (pick phase (length n.payload == wanted) (moves.Run, n) (sent (data_step n wanted)) tt tt)

  chunk_moves : (failure : Option FailCause) → write_failure answer ≡ failure → MayAnswer None answer access → Moves phases.Answering (chunk_written m failure)
  chunk_moves (Some cause) e fair = write_by phases.Answering answer refl fair cause e
  chunk_moves None e fair =
      let n = record m { written = m.written + answer_chunk m } in
      sends phases.Answering (cond (n.written == length n.answer) (end_step n kinds.Good None) (answer_step n)) (either (n.written == length n.answer) (end_step n kinds.Good None) (answer_step n) refl refl)

  wait_lives : (n : Machine) → (wait_step n).0.dead ≡ None
  wait_lives n = either n.doorbell (reread_step n) (quiet, record n { phase = phases.Suspended }) refl refl

  turn_moves : (phase : Phase) (n : Machine) (next : ℕ) (ahead : ReadAhead) → ((orb : CommandOrb) → ahead ≡ aheads.Kept orb → Checks phase orb false) → Moves phase (turn_step n next ahead)
  turn_moves phase n next aheads.Idle h = tt
  turn_moves phase n next (aheads.UnderWay rung) h = tt
  turn_moves phase n next (aheads.Kept orb) h = h orb refl

  follow_moves : (phase : Phase) (n : Machine) (next : OrbPointer) → ((orb : CommandOrb) → n.ahead ≡ aheads.Kept orb → Checks phase orb false) → Moves phase (follow_step n next)
  follow_moves phase n (pointers.At next) h = turn_moves phase n next n.ahead h
  follow_moves phase n pointers.Null h = sends phase (wait_step n) (wait_lives n)

  status_moves : (failure : Option FailCause) → write_failure answer ≡ failure → MayAnswer None answer access → Moves phases.WritingStatus (status_written m failure)
  status_moves (Some cause) e fair = write_by phases.WritingStatus answer refl fair cause e
  status_moves None e fair =
      follow_moves phases.WritingStatus m m.orb.next
      (λ orb f. checks_by phases.WritingStatus orb false (λ meaning g. illegal_row phases.WritingStatus (illegal_meaning orb) meaning (ap (meaning_at m phases.WritingStatus) (done_of answer e) ∙ ap (λ (x : ReadAhead). meaning_at (record m { ahead = x }) phases.WritingStatus Done) f) g))

  next_moves : (r : Result (List ℕ) FailCause) → payload_of answer 8 ≡ r → MayAnswer (Some 8) answer access → m.ahead ≡ aheads.Idle → Moves phases.ReadingNext (next_read m r)
  next_moves (Err cause) e fair idle = read_by phases.ReadingNext 8 answer refl fair cause e
  next_moves (Ok bytes) e fair idle =
      let next = pointer_at bytes 0 in follow_moves phases.ReadingNext (record m { orb = record m.orb { next = next } }) next (λ orb f. kept_idle m.ahead orb idle f)

  advanced_moves : (phase : Phase) → FairFor (main_ask phase m) answer access → (has_read phase ≡ false → m.ahead ≡ aheads.Idle) → Moves phase (advanced phase m answer)
  advanced_moves phases.Reset fair idle = tt
  advanced_moves phases.Fetching fair idle = orb_moves (payload_of answer 32) refl fair
  advanced_moves phases.ReadingTable fair idle = table_moves (payload_of answer (8 * m.orb.data_size)) refl fair
  advanced_moves (phases.ReadingData wanted) fair idle = data_moves wanted (payload_of answer (chunk_of m (length m.payload) wanted).length) refl fair
  advanced_moves phases.Answering fair idle = chunk_moves (write_failure answer) refl fair
  advanced_moves phases.WritingStatus fair idle = status_moves (write_failure answer) refl fair
  advanced_moves phases.ReadingNext fair idle = next_moves (payload_of answer 8) refl fair (idle refl)
  advanced_moves phases.WritingLastStatus fair idle = tt
  advanced_moves phases.Suspended fair idle = tt
  advanced_moves phases.Dead fair idle = tt

  -- so it dies by a row
  pub main_dies : (place : ℕ) (plain : PlainDisk) (told : Option Told) → FairFor (main_ask m.phase m) answer access → (has_read m.phase ≡ false → m.ahead ≡ aheads.Idle) → Has m.phase (reply_step m place plain told Main answer).0.dead
  unfolding reply_step
  main_dies place plain told fair idle = let r = advanced m.phase m answer in served_has m.phase place plain (told_or told) r (advanced_moves m.phase fair idle)
