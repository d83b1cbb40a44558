-- The ORB of a command has as many page tables and chunks as the command, at most; and so has its buffer. So a reply brings no more to an agent that is along a list.
use Rattle.sbp_world.proofs.Words.Std.{arith, ◌≡◌, ◌∙◌, refl, sym, ap, subst, ℕ, suc, ◌+◌, ◌*◌, ◌-◌, ◌/◌, ◌^◌, ◌≤◌, ◌==◌, ◌&&◌, not, Bool, true, false, cond, List, [], ◌∷◌, ◌++◌, length, Option, Some, None, Result, Ok, Err, nat_tests, true≢false}
use Rattle.sbp_world.proofs.Words.Wire.{Cmd}
use Rattle.sbp_world.proofs.Words.Target.{Along, Brings, Knows, KnowsAhead, MainBrings, Machine, Main, Move, Phase, Progress, ReadAhead, ReadsAhead, limit_of}
use Rattle.sbp_world.proofs.Words.Initiator.{Answer, FailCause, OrbPointer, Segment, start, single, behind, data_size, has_table}
use Rattle.sbp_world.proofs.Words.Laws.{laid_out, placed, pieces_of}
use Rattle.sbp_world.proofs.Words.World.{IsBufferOf, IsOrbOf, has_list, orb_for}
use Rattle.sbp_world.specs.Lists.Lists.{orbs_by}
use Rattle.orb_layout.specs.declared.command.CommandOrb.{CommandOrb}
use Rattle.orb_layout.specs.declared.pointer.OrbPointer.TheVariants.{At, Null}
use Rattle.orb_layout.specs.declared.status.StatusKind.TheVariants as kinds
use Rattle.orb_layout.specs.CommandOrbs.{command_orb}
use Rattle.orb_layout.specs.Pointers.{pointer_at}
use Rattle.orb_layout.specs.Replies.{payload_of, write_failure}
use Rattle.page_table.specs.declared.fault.PageFault.{PageFault}
use Rattle.page_table.specs.Elements.{elements_of, first_fault}
use Rattle.bus_memory.specs.declared.window.Window.TheVariants as windows
use Rattle.command_agent.specs.declared.phase.Phase.TheVariants as phases
use Rattle.command_agent.specs.declared.phase.ReadAhead.TheVariants as aheads
use Rattle.command_agent.specs.Counting.{pieces_from}
use Rattle.command_agent.specs.Machine.{chunk_of}
use Rattle.command_agent.specs.declared.step.Move.TheVariants as moves
use Rattle.command_agent.specs.Steps.{advanced, chunk_written, data_grown, data_read, data_step, elements_read, end_step, follow_step, next_read, orb_read, sent, status_written, table_read, turn_step, wait_step}
use Rattle.command_agent.specs.Making.{BringsBy, HasAtMost}
use Rattle.command_agent.specs.Making as counted
use Rattle.command_agent.proofs.Making.Chunks.{chunks_are_counted}
use Rattle.sbp_world.specs.Counting.Rooms.{chunks_of, elements_of as tables_of}

-- ---- the pieces of a buffer do not depend on where it stands
single_pieces : (at other len limit : ℕ) → pieces_from (single at len) limit 0 ≡ pieces_from (single other len) limit 0
single_pieces at other len limit = by (len == 0)
  where
    by : (b : Bool) → pieces_from (cond b [] (record { base = at; length = len } ∷ [])) limit 0 ≡ pieces_from (cond b [] (record { base = other; length = len } ∷ [])) limit 0
    by true = refl
    by false = refl

placed_pieces : (counts : List ℕ) (at other limit done : ℕ) → pieces_from (placed at counts) limit done ≡ pieces_from (placed other counts) limit done
placed_pieces [] at other limit done = refl
placed_pieces (count ∷ counts) at other limit done =
    ap (λ (n : ℕ). (count - done + limit - 1) / limit + n) (placed_pieces counts (behind at count) (behind other count) limit (done - count))

laid_pieces : (slot other : ℕ) (cmd : Cmd) (segments : List ℕ) (limit : ℕ) → pieces_from (laid_out slot cmd segments) limit 0 ≡ pieces_from (laid_out other cmd segments) limit 0
laid_pieces slot other cmd [] limit = single_pieces (start (windows.Buffer slot)) (start (windows.Buffer other)) cmd.length limit
laid_pieces slot other cmd (count ∷ counts) limit = placed_pieces (count ∷ counts) (start (windows.Buffer slot)) (start (windows.Buffer other)) limit 0

buffer_chunks : (slot : ℕ) (cmd : Cmd) → pieces_from (laid_out slot cmd cmd.segments) (2 ^ (cmd.max_payload + 2)) 0 ≡ length (pieces_of 0 cmd)
buffer_chunks slot cmd = laid_pieces slot 0 cmd cmd.segments (2 ^ (cmd.max_payload + 2)) ∙ sym (chunks_are_counted (2 ^ (cmd.max_payload + 2)) (laid_out 0 cmd cmd.segments))

-- ---- an ORB
-- whether a page table is read, by the segments of a command
abbrev reads_by : ℕ → List ℕ → Bool
reads_by len segments = has_table segments && not (data_size len segments == 0)

some_by : (len : ℕ) (segments : List ℕ) → reads_by len segments ≡ true → 1 ≤ length segments
some_by len [] e = absurd (let no : false ≡ true = e in cc)
some_by len (count ∷ counts) e = omega arith

table_reads : (counts : List ℕ) → not (suc (length counts) == 0) ≡ false → ⊥
table_reads counts e = by (suc (length counts) == 0) refl e
  where
    by : (b : Bool) → (suc (length counts) == 0) ≡ b → not b ≡ false → ⊥
    by true f g = (let none : suc (length counts) ≡ 0 = grind (arith, nat_tests) in omega (arith, none))
    by false f g = true≢false g

few_by : (slot : ℕ) (cmd : Cmd) (at limit : ℕ) (segments : List ℕ) → reads_by cmd.length segments ≡ false → pieces_from (single at (cond (has_table segments) 0 (data_size cmd.length segments))) limit 0 ≤ pieces_from (laid_out slot cmd segments) limit 0
few_by slot cmd at limit [] e = let same = single_pieces at (start (windows.Buffer slot)) cmd.length limit in omega (arith, same)
few_by slot cmd at limit (count ∷ counts) e = absurd (table_reads counts e)

pub orb_has : (cmd : Cmd) (node slot : ℕ) (next : OrbPointer) (format : ℕ) → HasAtMost (length cmd.segments) (length (pieces_of 0 cmd)) (orb_for cmd node slot next format)
orb_has cmd node slot next format = record {
  some = λ e. some_by cmd.length cmd.segments e;
  few = λ e.
      let orb = orb_for cmd node slot next format in
      let less = few_by slot cmd orb.descriptor (2 ^ (cmd.max_payload + 2)) cmd.segments e in
      let same = buffer_chunks slot cmd in
      omega (arith, less, same);
}

pub read_has : (found : Option Cmd) (slot : ℕ) (read : CommandOrb) → IsOrbOf found slot read → HasAtMost (tables_of found) (chunks_of found) read
read_has found slot read o =
    subst (HasAtMost (tables_of found) (chunks_of found)) (sym o.orb)
    (subst (λ (f : Option Cmd). HasAtMost (tables_of f) (chunks_of f) (orb_for o.cmd o.node slot read.next read.format)) (sym o.command) (orb_has o.cmd o.node slot read.next read.format))

-- and its buffer, by the limit of that ORB
pub buffer_by : (found : Option Cmd) (slot : ℕ) (orb : CommandOrb) (segments : List Segment) → IsOrbOf found slot orb → IsBufferOf found slot segments → pieces_from segments (limit_of orb) 0 ≤ chunks_of found
buffer_by None slot orb segments o buffer = absurd buffer
buffer_by (Some cmd) slot orb segments o buffer =
    let same : cmd ≡ o.cmd = (let e = o.command in cc) in
    let limit : limit_of orb ≡ 2 ^ (cmd.max_payload + 2) = ap limit_of o.orb ∙ ap (λ (c : Cmd). 2 ^ (c.max_payload + 2)) (sym same) in
    let whole : pieces_from segments (limit_of orb) 0 ≡ length (pieces_of 0 cmd) = ap (λ (s : List Segment). pieces_from s (limit_of orb) 0) buffer ∙ (ap (λ (n : ℕ). pieces_from (laid_out slot cmd cmd.segments) n 0) limit ∙ buffer_chunks slot cmd) in
    omega (arith, whole)

-- ---- what a reply brings
module _ (linked : ℕ) (slot : ℕ → ℕ) (command : ℕ → Option Cmd) (p : Progress) where
  abbrev tables : ℕ
  tables = tables_of (command p.ended)

  abbrev pieces : ℕ
  pieces = chunks_of (command p.ended)

  -- the ORB
  orb_few : (m : Machine) (r : Result (List ℕ) FailCause) → ((bytes : List ℕ) → r ≡ Ok bytes → IsOrbOf (command p.ended) (slot p.ended) (command_orb bytes)) → BringsBy tables pieces (orb_read m r).0 (orb_read m r).1
  orb_few m (Err cause) brings = tt
  orb_few m (Ok bytes) brings = read_has (command p.ended) (slot p.ended) (command_orb bytes) (brings bytes refl)

  -- its page table
  judged_few : (m : Machine) (bytes : List ℕ) (fault : Option PageFault) → pieces_from (elements_of bytes) (limit_of m.orb) 0 ≤ pieces → BringsBy tables pieces (elements_read m bytes fault).0 (elements_read m bytes fault).1
  judged_few m bytes (Some fault) few = tt
  judged_few m bytes None few = few

  table_few : (m : Machine) (r : Result (List ℕ) FailCause) → ((bytes : List ℕ) → r ≡ Ok bytes → pieces_from (elements_of bytes) (limit_of m.orb) 0 ≤ pieces) → BringsBy tables pieces (table_read m r).0 (table_read m r).1
  table_few m (Err cause) few = tt
  table_few m (Ok bytes) few = by m.aborted
    where
      other : Move × Machine
      other = elements_read m bytes (first_fault 0 (elements_of bytes))

      by : (b : Bool) → BringsBy tables pieces (cond b (sent (end_step m kinds.Aborted None)) other).0 (cond b (sent (end_step m kinds.Aborted None)) other).1
      by true = tt
      by false = judged_few m bytes (first_fault 0 (elements_of bytes)) (few bytes refl)

  -- its data
  grown_few : (m : Machine) (wanted : ℕ) → BringsBy tables pieces (data_grown m wanted).0 (data_grown m wanted).1
  grown_few m wanted = by (length m.payload == wanted)
    where
      by : (b : Bool) → BringsBy tables pieces (cond b (moves.Run, m) (sent (data_step m wanted))).0 (cond b (moves.Run, m) (sent (data_step m wanted))).1
      by true = tt
      by false = tt

  data_few : (m : Machine) (wanted : ℕ) (r : Result (List ℕ) FailCause) → BringsBy tables pieces (data_read m wanted r).0 (data_read m wanted r).1
  data_few m wanted (Err cause) = tt
  data_few m wanted (Ok bytes) = by m.aborted
    where
      other : Move × Machine
      other = data_grown (record m { payload = m.payload ++ bytes }) wanted

      by : (b : Bool) → BringsBy tables pieces (cond b (sent (end_step m kinds.Aborted None)) other).0 (cond b (sent (end_step m kinds.Aborted None)) other).1
      by true = tt
      by false = grown_few (record m { payload = m.payload ++ bytes }) wanted

  -- its turn, where it was read ahead
  turn_few : (m : Machine) (next : ℕ) (ahead : ReadAhead) → ReadsAhead (orbs_by linked slot command) p.ended m.orb.next ahead → BringsBy tables pieces (turn_step m next ahead).0 (turn_step m next ahead).1
  turn_few m next aheads.Idle reads = tt
  turn_few m next (aheads.UnderWay rung) reads = tt
  turn_few m next (aheads.Kept orb) reads = read_has (command p.ended) (slot p.ended) orb reads.1.own

  wait_few : (m : Machine) → BringsBy tables pieces (sent (wait_step m)).0 (sent (wait_step m)).1
  wait_few m = tt

  follow_few : (m : Machine) (next : OrbPointer) → ReadsAhead (orbs_by linked slot command) p.ended m.orb.next m.ahead → BringsBy tables pieces (follow_step m next).0 (follow_step m next).1
  follow_few m (At next) reads = turn_few m next m.ahead reads
  follow_few m Null reads = wait_few m

  status_few : (m : Machine) (failure : Option FailCause) → ReadsAhead (orbs_by linked slot command) p.ended m.orb.next m.ahead → BringsBy tables pieces (status_written m failure).0 (status_written m failure).1
  status_few m (Some cause) reads = tt
  status_few m None reads = follow_few m m.orb.next reads

  next_few : (m : Machine) (r : Result (List ℕ) FailCause) → m.ahead ≡ aheads.Idle → BringsBy tables pieces (next_read m r).0 (next_read m r).1
  next_few m (Err cause) idle = tt
  next_few m (Ok bytes) idle =
      let now = record m { orb = record m.orb { next = pointer_at bytes 0 } } in
      follow_few now (pointer_at bytes 0) (subst (λ (a : ReadAhead). ReadsAhead (orbs_by linked slot command) p.ended (pointer_at bytes 0) a) (sym idle) tt)

  written_few : (m : Machine) (failure : Option FailCause) → BringsBy tables pieces (chunk_written m failure).0 (chunk_written m failure).1
  written_few m (Some cause) = tt
  written_few m None = tt

  advanced_few : (phase : Phase) (m : Machine) (answer : Answer) → Knows (orbs_by linked slot command) p phase m → KnowsAhead (orbs_by linked slot command) p phase m.orb.next m.ahead → MainBrings (orbs_by linked slot command) p.ended phase m answer → BringsBy tables pieces (advanced phase m answer).0 (advanced phase m answer).1
  advanced_few phases.Fetching m answer knows ahead brings = orb_few m (payload_of answer 32) (λ bytes e. (brings bytes e).own)
  advanced_few phases.ReadingTable m answer knows ahead brings =
      table_few m (payload_of answer (8 * m.orb.data_size)) (λ bytes e. buffer_by (command p.ended) (slot p.ended) m.orb (elements_of bytes) knows.awaits.good.own (brings bytes e))
  advanced_few (phases.ReadingData wanted) m answer knows ahead brings = data_few m wanted (payload_of answer (chunk_of m (length m.payload) wanted).length)
  advanced_few phases.Answering m answer knows ahead brings = written_few m (write_failure answer)
  advanced_few phases.WritingStatus m answer knows ahead brings = status_few m (write_failure answer) ahead
  advanced_few phases.ReadingNext m answer knows ahead brings = next_few m (payload_of answer 8) ahead
  advanced_few phases.WritingLastStatus m answer knows ahead brings = tt
  advanced_few phases.Reset m answer knows ahead brings = tt
  advanced_few phases.Suspended m answer knows ahead brings = tt
  advanced_few phases.Dead m answer knows ahead brings = tt

  -- of an agent along a list
  pub brings_few : (m : Machine) (answer : Answer) → Along (orbs_by linked slot command) p m → Brings (orbs_by linked slot command) p.ended m Main answer → counted.Brings tables pieces m answer
  brings_few m answer along brings = advanced_few m.phase m answer along.main along.ahead brings

-- an agent without a list is brought nothing
pub none_few : (tables pieces : ℕ) (phase : Phase) (m : Machine) (answer : Answer) → has_list phase ≡ false → BringsBy tables pieces (advanced phase m answer).0 (advanced phase m answer).1
none_few tables pieces phases.Reset m answer e = tt
none_few tables pieces phases.Dead m answer e = tt
none_few tables pieces phases.WritingLastStatus m answer e = tt
none_few tables pieces phases.Fetching m answer e = absurd (let no : true ≡ false = e in cc)
none_few tables pieces phases.ReadingTable m answer e = absurd (let no : true ≡ false = e in cc)
none_few tables pieces (phases.ReadingData wanted) m answer e = absurd (let no : true ≡ false = e in cc)
none_few tables pieces phases.Answering m answer e = absurd (let no : true ≡ false = e in cc)
none_few tables pieces phases.WritingStatus m answer e = absurd (let no : true ≡ false = e in cc)
none_few tables pieces phases.ReadingNext m answer e = absurd (let no : true ≡ false = e in cc)
none_few tables pieces phases.Suspended m answer e = absurd (let no : true ≡ false = e in cc)
