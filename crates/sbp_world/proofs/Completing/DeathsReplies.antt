-- An agent along a list does not die at a reply to its main transaction that is complete, where the commands of the list are legal: the ORB that was read is that of its command, and its page table is the buffer of it.
use Rattle.sbp_world.proofs.Words.Std.{AllByRecursion, arith, ◌≡◌, ◌∙◌, refl, sym, ap, subst, inl, inr, ◌⊎◌, ℕ, ◌+◌, ◌*◌, ◌^◌, ◌<◌, ◌≤◌, ◌==◌, ◌&&◌, not, nat_lt, Bool, true, false, cond, List, [], ◌∷◌, ◌++◌, length, Option, Some, None, Result, Ok, Err, nat_tests, true≢false, false≢true}
use Rattle.sbp_world.proofs.Words.Wire.{Cmd}
use Rattle.sbp_world.proofs.Words.Target.{Along, Brings, Knows, KnowsAhead, Machine, Main, MainBrings, Move, Phase, PlainDisk, Progress, ReadAhead, ReadsAhead, Told, advanced, chunk_of, chunk_written, data_grown, data_read, data_step, elements_read, end_step, follow_step, next_read, orb_read, quiet, refusal, reply_step, reread_step, sent, table_read, told_or, turn_step, verdict, wait_step}
use Rattle.sbp_world.proofs.Words.Initiator.{Answer, CommandOrb, FailCause, OrbPointer, PageFault, Segment, StatusKind, behind, command_orb, data_size, elements_of, first_fault, has_table, payload_of, pointer_at, start, write_failure}
use Rattle.sbp_world.proofs.Words.Laws.{laid_out, placed}
use Rattle.sbp_world.proofs.Words.World.{IsBufferOf, IsOrbOf, orb_for}
use Rattle.std.specs.Prelude.{sum}
use Rattle.bus_memory.specs.declared.window.Window.TheVariants as windows
use Rattle.command_agent.specs.declared.phase.Phase.TheVariants as phases
use Rattle.command_agent.specs.declared.phase.ReadAhead.TheVariants as aheads
use Rattle.command_agent.specs.Steps.{answer_step, status_written}
use Rattle.command_agent.specs.declared.step.Move.TheVariants as moves
use Rattle.orb_layout.specs.declared.pointer.OrbPointer.TheVariants.{At, Null}
use Rattle.orb_layout.specs.declared.status.StatusKind.TheVariants as kinds
use Rattle.sbp_world.specs.Completing.Deaths.{AreSound, IsGiven, IsSound, RepliesLive}
use Rattle.sbp_world.specs.Lists.Lists.{orbs_by}
use Rattle.sbp_world.proofs.Completing.DeathsSteps.{IsSpared, Lives, ahead_lives, either, served_lives}
use Rattle.sbp_world.proofs.Hosts.BytePlaces.{FillsSegments, total}

-- ---- its ORB
clear : {A : Type 0} (b : Bool) (x y : Option A) → b ≡ false → y ≡ None → cond b x y ≡ None
clear true x y e f = absurd (true≢false e)
clear false x y e f = f

-- none of the fields of an ORB is illegal
all_clear : (b c d e f : Bool) → b ≡ false → c ≡ false → d ≡ false → e ≡ false → f ≡ false
    → cond b (Some (kinds.Illegal 0x02)) (cond c (Some (kinds.Illegal 0xff)) (cond d (Some (kinds.Illegal 0x03)) (cond e (Some (kinds.Illegal 0xff)) (cond f (Some (kinds.Illegal 0xff)) None)))) ≡ None
all_clear b c d e f v w x y z =
    clear b _ _ v (clear c _ _ w (clear d _ _ x (clear e _ _ y (clear f _ _ z refl))))

both_false : (a : Bool) → (a && false) ≡ false
both_false true = refl
both_false false = refl

few_elements : (segments : List ℕ) (len : ℕ) → length segments ≤ 64 → (has_table segments && nat_lt 64 (data_size len segments)) ≡ false
few_elements [] len few = refl
few_elements (count ∷ rest) len few = let z : nat_lt 64 (length (count ∷ rest)) ≡ false = grind (arith, nat_tests, few) in z

-- where it has no page table, its buffer ends within the address space
ends_inside : (segments : List ℕ) (len base : ℕ) → len ≤ 16384 → base ≤ 2 ^ 40 → (not (has_table segments) && nat_lt (2 ^ 48) (cond (nat_lt 0 (data_size len segments)) base 0 + data_size len segments)) ≡ false
ends_inside (count ∷ rest) len base short low = refl
ends_inside [] len base short low = by (nat_lt 0 len)
  where
    by : (b : Bool) → nat_lt (2 ^ 48) (cond b base 0 + len) ≡ false
    by true = let z : base + len ≤ 2 ^ 48 = omega (arith, short, low) in grind (arith, nat_tests, z)
    by false = let z : 0 + len ≤ 2 ^ 48 = omega (arith, short) in grind (arith, nat_tests, z)

data_low : (slot : ℕ) (cmd : Cmd) (node : ℕ) (next : OrbPointer) (format : ℕ) → slot < 32 → cmd.length ≤ 16384 → (not (has_table cmd.segments) && nat_lt (2 ^ 48) ((orb_for cmd node slot next format).descriptor + (orb_for cmd node slot next format).data_size)) ≡ false
data_low slot cmd node next format small short = by cmd.segments
  where
    by : (segments : List ℕ) → (let orb = orb_for (record cmd { segments = segments }) node slot next format in (not (has_table segments) && nat_lt (2 ^ 48) (orb.descriptor + orb.data_size)) ≡ false)
    by [] = ends_inside [] cmd.length (start (windows.Buffer slot)) short (omega (arith, small))
    by (count ∷ rest) = refl

module _ (slot : ℕ) (cmd : Cmd) (sound : IsSound slot cmd) where
  none_refused : (node : ℕ) (next : OrbPointer) (format : ℕ) → refusal (orb_for cmd node slot next format) ≡ None
  unfolding refusal
  none_refused node next format =
      let limit = sound.legal.limit in
      let slow : nat_lt 2 2 ≡ false = grind (arith, nat_tests) in
      let paid : nat_lt (7 + 2) cmd.max_payload ≡ false = grind (arith, nat_tests, limit) in
      all_clear (nat_lt 2 2) (nat_lt (7 + 2) cmd.max_payload) (has_table cmd.segments && false) (has_table cmd.segments && nat_lt 64 (data_size cmd.length cmd.segments))
      (not (has_table cmd.segments) && nat_lt (2 ^ 48) ((orb_for cmd node slot next format).descriptor + (orb_for cmd node slot next format).data_size))
      slow paid (both_false (has_table cmd.segments)) (few_elements cmd.segments cmd.length sound.few) (data_low slot cmd node next format sound.small sound.short)

  -- ---- its page table
  none_placed : (k at : ℕ) (counts : List ℕ) → AllByRecursion (λ count. 0 < count) counts → sum counts ≤ 16384 → at + sum counts + 20 * length counts ≤ 2 ^ 40 → first_fault k (placed at counts) ≡ None
  none_placed k at [] some s b = refl
  none_placed k at (count ∷ rest) some s b =
      let positive = some.0 in
      let low : at + count ≤ 2 ^ 48 = omega (arith, b, total count rest) in
      clear (count == 0) _ _ (grind (arith, nat_tests, positive))
      (clear (nat_lt (2 ^ 48) (at + count)) _ _ (grind (arith, nat_tests, low))
      (none_placed (k + 1) (behind at count) rest some.1 (omega (arith, s, total count rest)) (omega (arith, b, total count rest))))

  fills : FillsSegments cmd cmd.segments
  fills = record { whole = sound.whole; short = sound.short; few = sound.few }

  none_laid : (segments : List ℕ) → AllByRecursion (λ count. 0 < count) segments → FillsSegments cmd segments → first_fault 0 (laid_out slot cmd segments) ≡ None
  none_laid [] some fills = by (cmd.length == 0) refl
    where
      by : (b : Bool) → (cmd.length == 0) ≡ b → first_fault 0 (cond b [] (record { base = start (windows.Buffer slot); length = cmd.length } ∷ [])) ≡ None
      by true e = refl
      by false e =
          let small = sound.small in
          let short = fills.short in
          let low : start (windows.Buffer slot) + cmd.length ≤ 2 ^ 48 = omega (arith, small, short) in
          clear (cmd.length == 0) _ _ e (clear (nat_lt (2 ^ 48) (start (windows.Buffer slot) + cmd.length)) _ _ (grind (arith, nat_tests, low)) refl)
  none_laid (count ∷ rest) some fills =
      let whole = fills.whole (omega arith) in
      let short = fills.short in
      let few = fills.few in
      let small = sound.small in
      none_placed 0 (start (windows.Buffer slot)) (count ∷ rest) some (omega (arith, whole, short)) (omega (arith, whole, short, few, small))

  pub none_faulty : first_fault 0 (laid_out slot cmd cmd.segments) ≡ None
  none_faulty = none_laid cmd.segments sound.legal.some fills

-- an ORB of a proper format
by_format : (three zero aborted : Bool) (x : Option StatusKind) → (zero ≡ true) ⊎ (three ≡ true) → x ≡ None → IsSpared (cond three (Some kinds.Dummy) (cond (not zero) (Some (kinds.Illegal 0x01)) (cond aborted (Some kinds.Aborted) x)))
by_format true zero aborted x h e = tt
by_format false true true x h e = tt
by_format false true false x h e = subst IsSpared (sym e) tt
by_format false false aborted x (inl z) e = absurd (false≢true z)
by_format false false aborted x (inr z) e = absurd (false≢true z)

format_test : (format : ℕ) → (format ≡ 0) ⊎ (format ≡ 3) → ((format == 0) ≡ true) ⊎ ((format == 3) ≡ true)
format_test format (inl e) = inl (grind (arith, nat_tests, e))
format_test format (inr e) = inr (grind (arith, nat_tests, e))

orb_spared : (found : Option Cmd) (slot : ℕ) (read : CommandOrb) → IsOrbOf found slot read → AreSound found slot → (aborted : Bool) → IsSpared (verdict read aborted)
unfolding verdict
orb_spared found slot read o sound aborted =
    by_format (read.format == 3) (read.format == 0) aborted (refusal read) (format_test read.format o.format)
    (ap refusal o.orb ∙ none_refused slot o.cmd (sound o.cmd o.command) o.node read.next read.format)

table_fault : (found : Option Cmd) (slot : ℕ) (segments : List Segment) → IsBufferOf found slot segments → AreSound found slot → first_fault 0 segments ≡ None
table_fault None slot segments b sound = absurd b
table_fault (Some cmd) slot segments b sound = ap (first_fault 0) b ∙ none_faulty slot cmd (sound cmd refl)

-- ---- a reply
pick : (b : Bool) (x y : Move × Machine) → Lives x → Lives y → Lives (cond b x y)
pick true x y h i = h
pick false x y h i = i

module _ (linked : ℕ) (slot : ℕ → ℕ) (command : ℕ → Option Cmd) (p : Progress) (sound : p.ended < linked → AreSound (command p.ended) (slot p.ended)) where
  -- the ORB
  orb_lives : (m : Machine) (r : Result (List ℕ) FailCause) → ((cause : FailCause) → r ≡ Err cause → ⊥) → ((bytes : List ℕ) → r ≡ Ok bytes → (aborted : Bool) → IsSpared (verdict (command_orb bytes) aborted)) → Lives (orb_read m r)
  orb_lives m (Err cause) whole spared = absurd (whole cause refl)
  orb_lives m (Ok bytes) whole spared = spared bytes refl

  -- its page table
  judged_lives : (m : Machine) (bytes : List ℕ) (fault : Option PageFault) → fault ≡ None → Lives (elements_read m bytes fault)
  judged_lives m bytes (Some fault) e = cc e
  judged_lives m bytes None e = tt

  table_lives : (m : Machine) (r : Result (List ℕ) FailCause) → ((cause : FailCause) → r ≡ Err cause → ⊥) → ((bytes : List ℕ) → r ≡ Ok bytes → first_fault 0 (elements_of bytes) ≡ None) → Lives (table_read m r)
  table_lives m (Err cause) whole clean = absurd (whole cause refl)
  table_lives m (Ok bytes) whole clean =
      let fault = first_fault 0 (elements_of bytes) in pick m.aborted (sent (end_step m kinds.Aborted None)) (elements_read m bytes fault) refl (judged_lives m bytes fault (clean bytes refl))

  -- its data
  grown_lives : (m : Machine) (wanted : ℕ) → Lives (data_grown m wanted)
  grown_lives m wanted = pick (length m.payload == wanted) (moves.Run, m) (sent (data_step m wanted)) tt refl

  data_lives : (m : Machine) (wanted : ℕ) (r : Result (List ℕ) FailCause) → ((cause : FailCause) → r ≡ Err cause → ⊥) → Lives (data_read m wanted r)
  data_lives m wanted (Err cause) whole = absurd (whole cause refl)
  data_lives m wanted (Ok bytes) whole =
      let now = record m { payload = m.payload ++ bytes } in pick m.aborted (sent (end_step m kinds.Aborted None)) (data_grown now wanted) refl (grown_lives now wanted)

  -- its answer
  chunk_lives : (m : Machine) (failure : Option FailCause) → failure ≡ None → Lives (chunk_written m failure)
  chunk_lives m (Some cause) e = cc e
  chunk_lives m None e = let now = record m { written = m.written + (chunk_of m m.written (length m.answer)).length } in either (now.written == length now.answer) (end_step now kinds.Good None) (answer_step now) refl refl

  -- its turn, where it was read ahead
  turn_lives : (m : Machine) (next : ℕ) (ahead : ReadAhead) → ReadsAhead (orbs_by linked slot command) p.ended m.orb.next ahead → Lives (turn_step m next ahead)
  turn_lives m next aheads.Idle reads = refl
  turn_lives m next (aheads.UnderWay rung) reads = refl
  turn_lives m next (aheads.Kept orb) reads = orb_spared (command p.ended) (slot p.ended) orb reads.1.own (sound reads.0.linked)

  wait_lives : (m : Machine) → (wait_step m).0.dead ≡ None
  wait_lives m = either m.doorbell (reread_step m) (quiet, record m { phase = phases.Suspended }) refl refl

  follow_lives : (m : Machine) (next : OrbPointer) → ReadsAhead (orbs_by linked slot command) p.ended m.orb.next m.ahead → Lives (follow_step m next)
  follow_lives m (At next) reads = turn_lives m next m.ahead reads
  follow_lives m Null reads = wait_lives m

  status_lives : (m : Machine) (failure : Option FailCause) → failure ≡ None → ReadsAhead (orbs_by linked slot command) p.ended m.orb.next m.ahead → Lives (status_written m failure)
  status_lives m (Some cause) e reads = cc e
  status_lives m None e reads = follow_lives m m.orb.next reads

  next_lives : (m : Machine) (r : Result (List ℕ) FailCause) → ((cause : FailCause) → r ≡ Err cause → ⊥) → m.ahead ≡ aheads.Idle → Lives (next_read m r)
  next_lives m (Err cause) whole idle = absurd (whole cause refl)
  next_lives m (Ok bytes) whole idle =
      let now = record m { orb = record m.orb { next = pointer_at bytes 0 } } in
      follow_lives now (pointer_at bytes 0) (subst (λ (a : ReadAhead). ReadsAhead (orbs_by linked slot command) p.ended (pointer_at bytes 0) a) (sym idle) tt)

  advanced_lives : (phase : Phase) (m : Machine) (answer : Answer) → Knows (orbs_by linked slot command) p phase m → KnowsAhead (orbs_by linked slot command) p phase m.orb.next m.ahead → MainBrings (orbs_by linked slot command) p.ended phase m answer → IsGiven phase m answer → Lives (advanced phase m answer)
  advanced_lives phases.Fetching m answer knows ahead brings given =
      orb_lives m (payload_of answer 32) given (λ bytes e. orb_spared (command p.ended) (slot p.ended) (command_orb bytes) (brings bytes e).own (sound knows.turn.linked))
  advanced_lives phases.ReadingTable m answer knows ahead brings given =
      table_lives m (payload_of answer (8 * m.orb.data_size)) given (λ bytes e. table_fault (command p.ended) (slot p.ended) (elements_of bytes) (brings bytes e) (sound knows.awaits.turn.linked))
  advanced_lives (phases.ReadingData wanted) m answer knows ahead brings given = data_lives m wanted (payload_of answer (chunk_of m (length m.payload) wanted).length) given
  advanced_lives phases.Answering m answer knows ahead brings given = chunk_lives m (write_failure answer) given
  advanced_lives phases.WritingStatus m answer knows ahead brings given = status_lives m (write_failure answer) given ahead
  advanced_lives phases.ReadingNext m answer knows ahead brings given = next_lives m (payload_of answer 8) given ahead
  advanced_lives phases.WritingLastStatus m answer knows ahead brings given = refl
  advanced_lives phases.Reset m answer knows ahead brings given = refl
  advanced_lives phases.Suspended m answer knows ahead brings given = refl
  advanced_lives phases.Dead m answer knows ahead brings given = refl

  main_lives : (m : Machine) (place : ℕ) (plain : PlainDisk) (told : Option Told) (answer : Answer) → Along (orbs_by linked slot command) p m → Brings (orbs_by linked slot command) p.ended m Main answer → IsGiven m.phase m answer → (reply_step m place plain told Main answer).0.dead ≡ None
  unfolding reply_step
  main_lives m place plain told answer along brings given =
      served_lives place plain (told_or told) (advanced m.phase m answer) (advanced_lives m.phase m answer along.main along.ahead brings given)

pub replies_live : RepliesLive
replies_live = record {
  main = λ linked slot command p m place plain told answer sound along brings given. main_lives linked slot command p sound m place plain told answer along brings given;
  ahead = λ m place plain told answer. ahead_lives m place plain told answer;
}
