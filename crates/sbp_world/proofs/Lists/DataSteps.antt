-- A reply to an agent along a list of an initiator that injected no packets: what it asks to write, but for a status block, is the next chunk of the answer of its present
-- ORB, in the buffer that is laid out for the command of this ORB.
use Rattle.sbp_world.proofs.Words.Std.{arith, ◌≡◌, ◌∙◌, refl, sym, ap, subst, ◌<◌, ℕ, Bool, List, length, take, drop, Option, Some, None, true, false, cond, ◌+◌, ◌-◌, ◌^◌, Result, Ok, Err, IfSome, ◌∷◌, [], suc, nat_eq, nat_lt, ◌==◌, ◌&&◌, ◌≤◌, nat_tests, pow_pos}
use Rattle.sbp_world.proofs.Words.Wire.{LabelParts, Packet, header_in, judging_step, of_response, Sent, Moment, said, list_in, orb_in, Access, Cmd}
use Rattle.sbp_world.proofs.Words.Target.{Login, Disk, Told, MayEnd, answer_length_of, check_in, failure_of, answered_length, Phase, AgentStep, Which, Machine, chunk_of, cut_to, is_ahead, has_present, plan_of, limit_of, Knows, Progress, Answers, HasTold, main_ask, ahead_beside, main_beside, progress_by, IsRun, Keeps, chunk_by, end_by, heard_by, main_heard, run_by, IsEnd, status_by, which_in, desk_at, answer_in, is_good, to_write, OrbList, advanced, ahead_read, ahead_step, answer_chunk, chunk_written, quiet, reply_step, served, src_of, told_or, end_step, Ahead, Main, PlainDisk, Outcome, plain_in, orb_of, MayRun, MayTell, check_of}
use Rattle.sbp_world.proofs.Words.Initiator.{FailCause, Answer, Done, Expired, NoLabel, Payload, Refused, payload_of, write_failure, chunk, chunk_from, addresses, buffer_addresses, bytes_of, start_of, window_at, StatusKind, Chunk, Segment, CommandOrb}
use Rattle.sbp_world.proofs.Words.Laws.{command_at, slot_at, orb, prepared_in, linked, ends, request_at, ran_status, runs, status_of, laid_out}
use Rattle.sbp_world.proofs.Words.World.{holder, ticket_at, WorldState, IsPieceOf, IsAnswered, orbs, IsBufferOf, IsOrbOf, IsFor, machine_at, IsNamed, IsOpenAt, initiator_in, has_list, answers, Follows, FillsBuffer}
use Rattle.orb_layout.specs.declared.ask.Ask.TheVariants as asks
use Rattle.command_agent.specs.declared.phase.Phase.TheVariants as phases
use Rattle.sbp_target.specs.declared.purpose.Purpose.TheVariants as purposes
use Rattle.sbp_world.proofs.Agents.Management.Still.{hist}
use Rattle.sbp_world.proofs.Lists.DataPieces.{chunk_is, same_piece}
use Rattle.sbp_world.proofs.Lists.Deliveries.{waits_has}
use Rattle.sbp_world.proofs.Lists.RunFits.{WasAsked}
use Rattle.sbp_world.proofs.Lists.RunOutcomes.{AreAsked}
use Rattle.sbp_world.proofs.Lists.StatusAnswers.{answering_next, goes, heard, keeps, main_wrote, opened, reply, small, step_ended, run_ended}
use Rattle.sbp_world.proofs.Lists.StatusDue.{Ours}
use Rattle.sbp_world.proofs.Lists.Turns.{Ready, heard_ended, heard_outcome}
use Rattle.orb_layout.specs.declared.ask.FailCause.TheVariants as causes
use Rattle.orb_layout.specs.declared.status.StatusKind.TheVariants as kinds
use Rattle.command_agent.specs.Steps.{answer_step}
use Rattle.sbp_world.proofs.Lists.DataHears.{AreHeard, IsHeard}
use Rattle.sbp_world.proofs.Lists.Passing.{GoesOn, HasRun}
use Rattle.sbp_world.proofs.Lists.UnrunLaws.{unrun_law}
use Rattle.std.specs.Prelude.{min}
use Rattle.bus_memory.specs.declared.window.Window.TheVariants as windows
use Rattle.page_table.proofs.Places.{chunk_in_place}
use Rattle.sbp_journal.specs.declared.note.Note.TheVariants as notes
use Rattle.sbp_world.proofs.Lists.Slots.{IsFilled, data_window}
use Rattle.sbp_world.proofs.Lists.StatusLosses.{present_is}
use Rattle.sbp_world.proofs.Lists.StatusSteps.{EndsSo, replied_leaves, none_wrote, read_wrote}
use Rattle.rbc_disk.specs.declared.command.Outcome.TheVariants as outcomes
use Rattle.sbp_world.proofs.Hosts.OrbTables.{whole_bytes}
use Rattle.sbp_world.proofs.Lists.AnswerChecks.{check_length, ended_none}
use Rattle.sbp_world.proofs.Lists.AnswerWays.{IsWay}
use Rattle.sbp_world.proofs.Lists.Full.{IsFull, IsPart}
use Rattle.sbp_world.proofs.Lists.DataRan.{goes_on as more_goes, reply_begins}
use Rattle.sbp_world.proofs.Lists.FifoReplies.{same_at}
use Rattle.sbp_world.proofs.Lists.EndReads.{none_if}
use Rattle.sbp_world.proofs.Agents.Sized.{chunk_few}

same_size : (a b offset size : ℕ) → asks.Write a b ≡ asks.Write offset size → b ≡ size
same_size a b offset size e = cc

-- an ORB that is named stands in its slot, and its command fills the buffer
pub record IsStored (ms : List Moment) (i n k : ℕ) : Type 0 where
  pub there : prepared_in ms i (slot_at ms i n k) ≡ Some (orb n k)
  pub small : slot_at ms i n k < 32
  pub filled : (cmd : Cmd) → command_at ms i n k ≡ Some cmd → IsFilled (slot_at ms i n k) cmd

abbrev pub ArePrepared : List Moment → WorldState → Type 0
ArePrepared ms w = (place n k : ℕ) → initiator_in w place < length w.initiators → IsNamed ms w place n k → IsStored ms (initiator_in w place) n k

-- a chunk of the buffer is in its window
min_some : (a b : ℕ) → 0 < a → 0 < b → 0 < min a b
min_some a b x y = grind (arith, nat_tests)

pick_chunk : (b : Bool) (x y : Option Chunk) → (b ≡ true → IfSome x (λ c. 0 < c.length)) → (b ≡ false → IfSome y (λ c. 0 < c.length)) → IfSome (cond b x y) (λ c. 0 < c.length)
pick_chunk true x y f g = f refl
pick_chunk false x y f g = g refl

some_chunk : (limit : ℕ) → 0 < limit → (segments : List Segment) (done : ℕ) → IfSome (chunk_from segments done limit) (λ c. 0 < c.length)
some_chunk limit l [] done = tt
some_chunk limit l (segment ∷ rest) done =
    pick_chunk (nat_lt done segment.length) _ _
    (λ e. let inside : done < segment.length = grind (arith, nat_tests) in min_some limit (segment.length - done) l (omega (arith, inside)))
    (λ e. some_chunk limit l rest (done - segment.length))

pick_long : (left : ℕ) (b : Bool) (x y : Option Chunk) → (b ≡ true → 0 < (cut_to left x).length) → (b ≡ false → 0 < (cut_to left y).length) → 0 < (cut_to left (cond b x y)).length
pick_long left true x y f g = f refl
pick_long left false x y f g = g refl

pub chunk_long : (left limit : ℕ) → 0 < left → 0 < limit → (segments : List Segment) (done : ℕ) → done < bytes_of segments → 0 < (cut_to left (chunk_from segments done limit)).length
chunk_long left limit l k [] done b = absurd (omega (arith, b))
chunk_long left limit l k (segment ∷ rest) done b =
    pick_long left (nat_lt done segment.length) _ _
    (λ e. let inside : done < segment.length = grind (arith, nat_tests) in min_some left (min limit (segment.length - done)) l (min_some limit (segment.length - done) k (omega (arith, inside))))
    (λ e. let outside : segment.length ≤ done = grind (arith, nat_tests) in chunk_long left limit l k rest (done - segment.length) (omega (arith, outside, b)))

-- the next chunk of an answer of which not all is written has bytes
pub part_chunk : (m : Machine) → IsPart m.written (length m.answer) (bytes_of m.segments) → 0 < answer_chunk m
part_chunk m p =
    let more = p.more in
    let fills = p.fills in
    chunk_long (length m.answer - m.written) (limit_of m.orb) (omega (arith, more)) (pow_pos (m.orb.max_payload + 2)) m.segments m.written (omega (arith, more, fills))

module _ (slot : ℕ) (small : slot < 32) (cmd : Cmd) (f : IsFilled slot cmd) (left done limit offset size : ℕ) (l : 0 < limit) (some : 0 < offset) where
  abbrev laid : List Segment
  laid = laid_out slot cmd cmd.segments

  window_by : (found : Option Chunk) → chunk_from laid done limit ≡ found → chunk offset size ≡ cut_to left found → window_at offset ≡ Some (windows.Buffer slot)
  window_by None e is = absurd (let z : offset ≡ 0 = ap (λ (c : Chunk). c.offset) is in omega (arith, z, some))
  window_by (Some c) e is =
      let at : Access = record { is_lock = false; is_write = true; is_block = true; offset = c.offset; count = c.length; payload = [] } in
      let long : 0 < c.length = subst (λ x. IfSome x (λ y. 0 < y.length)) e (some_chunk limit l laid done) in
      let place : Follows at slot cmd done = subst (λ x. IfSome x (λ piece. addresses piece.offset piece.length ≡ take piece.length (drop done (buffer_addresses laid)))) e (chunk_in_place laid done limit) in
      ap window_at (ap (λ (y : Chunk). y.offset) is) ∙ data_window slot small cmd f at done long place

  pub chunk_window : chunk offset size ≡ cut_to left (chunk_from laid done limit) → window_at offset ≡ Some (windows.Buffer slot)
  chunk_window is = window_by (chunk_from laid done limit) refl is

-- as a turn begins with a packet that is got
pub record IsFirstNow (ms : List Moment) (w : WorldState) (place n k : ℕ) (one : AgentStep × Machine) : Type 0 where
  pub outcome : Outcome
  pub ran : one.0.ran ≡ Some outcome
  pub none : runs ms (initiator_in w place) n k ≡ 0
  pub start : one.1.written ≡ 0
  pub list : list_in (ticket_at w place (orb_of one.1)) ≡ Some n
  pub number : orb_in (ticket_at w place (orb_of one.1)) ≡ Some k

pub data IsTurnNow (ms : List Moment) (w : WorldState) (place n k : ℕ) (one : AgentStep × Machine) (got : ℕ) : Type 0 where
  now_first : IsFirstNow ms w place n k one → IsTurnNow ms w place n k one got
  now_follows : 0 < runs ms (initiator_in w place) n k → IsAnswered ms (initiator_in w place) n k one.1 got → IsTurnNow ms w place n k one got

-- an ORB ends, but as failed
pub data IsEndNow (ms : List Moment) (i n k got : ℕ) : Type 0 where
  ends_fresh : runs ms i n k ≡ 0 → IsEndNow ms i n k got
  ends_behind : (m : Machine) → m.written ≡ length m.answer → IsAnswered ms i n k m got → IsEndNow ms i n k got

-- what ran with a status ran
ran_some : (ms : List Moment) (i n k : ℕ) (x : StatusKind) → ran_status ms i n k ≡ Some x → 0 < runs ms i n k
ran_some [] i n k x e = absurd (let z : None ≡ Some x = e in cc)
ran_some (said (notes.Ran j (Some m) (Some l) unit cdb bytes check) ∷ ms) i n k x e = pick (nat_eq i j) (nat_eq n m) (nat_eq k l) (ran_some ms i n k x) e
  where
    pick : (a b c : Bool) → (ran_status ms i n k ≡ Some x → 0 < runs ms i n k) → cond a (cond b (cond c (Some (status_of check)) (ran_status ms i n k)) (ran_status ms i n k)) (ran_status ms i n k) ≡ Some x → 0 < cond a (cond b (cond c (suc (runs ms j m l)) (runs ms i n k)) (runs ms i n k)) (runs ms i n k)
    pick true true true f g = omega arith
    pick true true false f g = f g
    pick true false c f g = f g
    pick false b c f g = f g
ran_some (_ ∷ ms) i n k x e = ran_some ms i n k x e

pub has_run : (ms : List Moment) (i n k : ℕ) (o : Option Outcome) → is_good o ≡ true → HasRun o (runs ms i n k) (ran_status ms i n k) → 0 < runs ms i n k
has_run ms i n k None g h = absurd (let z : false ≡ true = g in cc)
has_run ms i n k (Some outcome) g h = ran_some ms i n k _ h

-- a write to an address but 0 is one of an answer
is_answering : (phase : Phase) (m : Machine) (offset size : ℕ) → main_ask phase m ≡ asks.Write offset size → 0 < offset → phase ≡ phases.Answering
is_answering phases.Answering m offset size e some = refl
is_answering phases.WritingStatus m offset size e some = absurd (let z = same_at 0 (length m.outgoing) offset size e in omega (arith, z, some))
is_answering phases.WritingLastStatus m offset size e some = absurd (let z = same_at 0 (length m.outgoing) offset size e in omega (arith, z, some))
is_answering phases.Fetching m offset size e some = absurd (read_wrote _ _ offset size e)
is_answering phases.ReadingTable m offset size e some = absurd (read_wrote _ _ offset size e)
is_answering (phases.ReadingData wanted) m offset size e some = absurd (read_wrote _ _ offset size e)
is_answering phases.ReadingNext m offset size e some = absurd (read_wrote _ _ offset size e)
is_answering phases.Suspended m offset size e some = absurd (none_wrote offset size e)
is_answering phases.Reset m offset size e some = absurd (none_wrote offset size e)
is_answering phases.Dead m offset size e some = absurd (none_wrote offset size e)

-- an agent whose present ORB ran good writes its answer
unrun : (o : Option Outcome) → o ≡ None → is_good o ≡ true → ⊥
unrun o e g = let z : false ≡ true = sym (ap is_good e) ∙ g in cc

good_answers : (l : OrbList) (p : Progress) (phase : Phase) (m : Machine) → Knows l p phase m → has_list phase ≡ true → is_good p.outcome ≡ true → phase ≡ phases.Answering
good_answers l p phases.Answering m k h g = refl
good_answers l p phases.Fetching m k h g = absurd (unrun p.outcome k.unrun g)
good_answers l p phases.ReadingTable m k h g = absurd (unrun p.outcome k.awaits.unrun g)
good_answers l p (phases.ReadingData wanted) m k h g = absurd (unrun p.outcome k.awaits.unrun g)
good_answers l p phases.WritingStatus m k h g = absurd (unrun p.outcome k.over.unrun g)
good_answers l p phases.WritingLastStatus m k h g = absurd (unrun p.outcome k.over.unrun g)
good_answers l p phases.ReadingNext m k h g = absurd (unrun p.outcome k.over.unrun g)
good_answers l p phases.Suspended m k h g = absurd (unrun p.outcome k.over.unrun g)
good_answers l p phases.Reset m k h g = absurd (let z : false ≡ true = h in cc)
good_answers l p phases.Dead m k h g = absurd (let z : false ≡ true = h in cc)

-- its write failed, or the read ahead was answered: it asks for no write of an answer
module _ (m : Machine) (place : ℕ) (plain : PlainDisk) (told : Option Told) (answer : Answer) where
  pub failed_ends : m.phase ≡ phases.Answering → (cause : FailCause) → write_failure answer ≡ Some cause → (reply_step m place plain told Main answer).0.ended ≡ Some kinds.Failed
  unfolding reply_step
  failed_ends e cause f =
      subst (λ ph. (served place plain (told_or told) (advanced ph m answer).0 (advanced ph m answer).1).0.ended ≡ Some kinds.Failed) (sym e)
      (subst (λ x. (served place plain (told_or told) (chunk_written m x).0 (chunk_written m x).1).0.ended ≡ Some kinds.Failed) (sym f) refl)

  ahead_asks : (r : Result (List ℕ) FailCause) → (ahead_read m r).0.ask ≡ asks.Nothing
  ahead_asks (Ok bytes) = refl
  ahead_asks (Err cause) = refl

  if_asks : (b : Bool) (x y : AgentStep × Machine) → x.0.ask ≡ asks.Nothing → y.0.ask ≡ asks.Nothing → (cond b x y).0.ask ≡ asks.Nothing
  if_asks true x y h k = h
  if_asks false x y h k = k

  -- the write of the last chunk was answered
  whole_by : (status : StatusKind) (n : Machine) (x : Bool) → (n.written == length n.answer) ≡ x → (cond x (end_step n kinds.Good None) (answer_step n)).0.ended ≡ Some status → n.written ≡ length n.answer
  whole_by status n true e f = let z : n.written ≡ length n.answer = grind (arith, nat_tests) in z
  whole_by status n false e f = absurd (let z : None ≡ Some status = f in cc)

  pub ends_whole : m.phase ≡ phases.Answering → write_failure answer ≡ None → (status : StatusKind) → (reply_step m place plain told Main answer).0.ended ≡ Some status → m.written + answer_chunk m ≡ length m.answer
  unfolding reply_step
  ends_whole e f status g =
      let n : Machine = record m { written = m.written + answer_chunk m } in
      whole_by status n (n.written == length n.answer) refl
      (subst (λ x. (served place plain (told_or told) (chunk_written m x).0 (chunk_written m x).1).0.ended ≡ Some status) f
      (subst (λ ph. (served place plain (told_or told) (advanced ph m answer).0 (advanced ph m answer).1).0.ended ≡ Some status) e g))

  ahead_ends : (r : Result (List ℕ) FailCause) → (ahead_read m r).0.ended ≡ None
  ahead_ends (Ok bytes) = refl
  ahead_ends (Err cause) = refl

  pub ahead_endless : (reply_step m place plain told Ahead answer).0.ended ≡ None
  unfolding reply_step
  ahead_endless = none_if (is_ahead m.ahead) (ahead_step m answer) (quiet, m) (ahead_ends (payload_of answer 32)) refl

  pub ahead_nothing : (reply_step m place plain told Ahead answer).0.ask ≡ asks.Nothing
  unfolding reply_step
  ahead_nothing = if_asks (is_ahead m.ahead) (ahead_step m answer) (quiet, m) (ahead_asks (payload_of answer 32)) refl

pub answers_is : (phase : Phase) → answers phase ≡ true → phase ≡ phases.Answering
answers_is phases.Answering e = refl
answers_is phases.Fetching e = absurd (let z : false ≡ true = e in cc)
answers_is phases.ReadingTable e = absurd (let z : false ≡ true = e in cc)
answers_is (phases.ReadingData wanted) e = absurd (let z : false ≡ true = e in cc)
answers_is phases.WritingStatus e = absurd (let z : false ≡ true = e in cc)
answers_is phases.WritingLastStatus e = absurd (let z : false ≡ true = e in cc)
answers_is phases.ReadingNext e = absurd (let z : false ≡ true = e in cc)
answers_is phases.Suspended e = absurd (let z : false ≡ true = e in cc)
answers_is phases.Reset e = absurd (let z : false ≡ true = e in cc)
answers_is phases.Dead e = absurd (let z : false ≡ true = e in cc)

unrun_in : (l : OrbList) (p : Progress) (phase : Phase) (m : Machine) → Knows l p phase m → has_list phase ≡ true → answers phase ≡ false → p.outcome ≡ None
unrun_in l p phases.Answering m k h a = absurd (let z : true ≡ false = a in cc)
unrun_in l p phases.Fetching m k h a = k.unrun
unrun_in l p phases.ReadingTable m k h a = k.awaits.unrun
unrun_in l p (phases.ReadingData wanted) m k h a = k.awaits.unrun
unrun_in l p phases.WritingStatus m k h a = k.over.unrun
unrun_in l p phases.WritingLastStatus m k h a = k.over.unrun
unrun_in l p phases.ReadingNext m k h a = k.over.unrun
unrun_in l p phases.Suspended m k h a = k.over.unrun
unrun_in l p phases.Reset m k h a = absurd (let z : false ≡ true = h in cc)
unrun_in l p phases.Dead m k h a = absurd (let z : false ≡ true = h in cc)

-- the answer that was told is that from then on
chunk_answer : (failure : Option FailCause) (size : ℕ) (p : Progress) → (chunk_by failure size p).answer ≡ p.answer
chunk_answer None size p = refl
chunk_answer (Some cause) size p = refl

status_answer : (failure : Option FailCause) (p : Progress) → (status_by failure p).answer ≡ p.answer
status_answer None p = refl
status_answer (Some cause) p = refl

main_answer : (phase : Phase) (m : Machine) (answer : Answer) (p : Progress) → (main_heard phase m answer p).answer ≡ p.answer
main_answer phases.Answering m answer p = chunk_answer (write_failure answer) (answer_chunk m) p
main_answer phases.WritingStatus m answer p = status_answer (write_failure answer) p
main_answer phases.WritingLastStatus m answer p = status_answer (write_failure answer) p
main_answer _ m answer p = refl

heard_answer : (which : Which) (m : Machine) (answer : Answer) (p : Progress) → (heard_by which m answer p).answer ≡ p.answer
heard_answer Main m answer p = main_answer m.phase m answer p
heard_answer Ahead m answer p = refl

good_check : (outcome : Outcome) → is_good (Some outcome) ≡ true → check_in outcome ≡ None
good_check (outcomes.Good len) g = refl
good_check (outcomes.Check sense) g = absurd (let z : false ≡ true = g in cc)

pub done_of : (a : Answer) → write_failure a ≡ None → a ≡ Done
done_of Done e = refl
done_of (Payload bytes) e = absurd (let z : Some causes.Grammar ≡ None = e in cc)
done_of (Refused rcode) e = absurd (let z : Some causes.Refused ≡ None = e in cc)
done_of Expired e = absurd (let z : Some causes.Timeout ≡ None = e in cc)
done_of NoLabel e = absurd (let z : Some causes.Label ≡ None = e in cc)

module _ (past : List Moment) (i n : ℕ) (small_slots : (k : ℕ) → slot_at past i n k < 32) where
  not_zero : (len offset size : ℕ) → asks.Write 0 len ≡ asks.Write offset size → 0 < offset → ⊥
  not_zero len offset size e some = let z = same_at 0 len offset size e in omega (arith, z, some)

  piece_by : (p : Progress) (phase : Phase) (m : Machine) → Knows (orbs past i n) p phase m → (phase ≡ phases.Answering → WasAsked (command_at past i n p.ended) (request_at past i n p.ended) (slot_at past i n p.ended)) → (phase ≡ phases.Answering → IsStored past i n p.ended) → (offset size : ℕ) → main_ask phase m ≡ asks.Write offset size → 0 < offset → IsPieceOf past i n p.ended m offset size
  piece_by p phases.Answering m k l there offset size e some =
      let a = l refl in
      let c = chunk_of m m.written (length m.answer) in
      let at : c.offset ≡ offset = same_at c.offset c.length offset size e in
      let long : c.length ≡ size = same_size c.offset c.length offset size e in
      record {
        below = k.told.turn.linked;
        has = (there refl).there;
        cmd = a.cmd;
        command = a.command_is;
        small = small_slots p.ended;
        within = k.told.within;
        piece = same_piece offset size c (sym at) (sym long) ∙ chunk_is past i n p m k a;
        bytes = k.bytes ∙ ap (λ j. take j (drop m.written m.answer)) long;
      }
  piece_by p phases.WritingStatus m k l there offset size e some = absurd (not_zero (length m.outgoing) offset size e some)
  piece_by p phases.WritingLastStatus m k l there offset size e some = absurd (not_zero (length m.outgoing) offset size e some)
  piece_by p phases.Fetching m k l there offset size e some = absurd (read_wrote _ _ offset size e)
  piece_by p phases.ReadingTable m k l there offset size e some = absurd (read_wrote _ _ offset size e)
  piece_by p (phases.ReadingData wanted) m k l there offset size e some = absurd (read_wrote _ _ offset size e)
  piece_by p phases.ReadingNext m k l there offset size e some = absurd (read_wrote _ _ offset size e)
  piece_by p phases.Suspended m k l there offset size e some = absurd (none_wrote offset size e)
  piece_by p phases.Reset m k l there offset size e some = absurd (none_wrote offset size e)
  piece_by p phases.Dead m k l there offset size e some = absurd (none_wrote offset size e)

-- a good end
pub data IsGoodNow (ms : List Moment) (i n k got : ℕ) : Type 0 where
  good_fresh : runs ms i n k ≡ 0 → (cmd : Cmd) → command_at ms i n k ≡ Some cmd → (cmd.to_initiator ≡ true → cmd.length ≡ 0) → IsGoodNow ms i n k got
  good_behind : (m : Machine) → m.written ≡ length m.answer → (a : IsAnswered ms i n k m got) → a.cmd.to_initiator ≡ true → IsGoodNow ms i n k got

-- ---- a reply to an agent
module _ (wild : ℕ → Bool) (past : List Moment) (w : WorldState) (r : Ready wild past w) (asked : AreAsked wild (hist past w) w) (sent : Sent) (is_for : IsFor w sent) (run : Option Told) (disks : List Disk) (p : Packet) (label : LabelParts) (place : ℕ) (f : (judging_step w.target.layer sent.generation sent.bytes).0 ≡ of_response p label (Some (purposes.Agent place))) (b : place < 8) (login : Login) (which : Which) (e : which_in (desk_at w.target place) (header_in p).source label ≡ Some which) (own : Ours wild past w r place) where
  abbrev ms : List Moment
  ms = hist past w

  abbrev i : ℕ
  i = (holder w place).initiator

  abbrev step : AgentStep × Machine
  step = reply wild past w r asked sent is_for run disks p label place f b login which e

  pub reply_piece : ArePrepared ms w → step.0.ended ≡ None → (offset size : ℕ) → step.0.ask ≡ asks.Write offset size → 0 < offset → (let o = opened wild past w r asked sent is_for run disks p label place f b login which e own in IsPieceOf ms i o.n (ends ms i o.n) step.1 offset size)
  reply_piece prepared none offset size wrote some =
      let o = opened wild past w r asked sent is_for run disks p label place f b login which e own in
      let g = goes wild past w r asked sent is_for run disks p label place f b login which e own in
      let k = keeps wild past w r asked sent is_for run disks p label place f b login which e own in
      let h = heard wild past w r asked sent is_for run disks p label place f b login which e own in
      let now = progress_by step h in
      let same : now.ended ≡ ends ms i o.n = step_ended step h none ∙ (heard_ended which (machine_at w place) (answer_in p) g.progress ∙ g.is) in
      subst (λ j. IsPieceOf ms i o.n j step.1 offset size) same
      (piece_by ms i o.n (small wild past w r asked sent is_for run disks p label place f b login which e own) now step.1.phase step.1 k.along.main
      (λ a. asked place b (waits_has wild past w r place b (header_in p).source label which e) own o.n o.list now.ended (omega (arith, same)) (answering_next ms i o.n now step.1.phase step.1 k.along.main a))
      (λ a. prepared place o.n now.ended o.inside (o.named now.ended (omega (arith, same)) (answering_next ms i o.n now step.1.phase step.1 k.along.main a)))
      offset size (k.main_is ∙ main_wrote step.0.promoted step.0.ask _ _ offset size wrote) some)

  -- it goes to the slot of this ORB
  pub reply_slot : ArePrepared ms w → step.0.ended ≡ None → (offset size : ℕ) → step.0.ask ≡ asks.Write offset size → 0 < offset → (slot : ℕ) → window_at offset ≡ Some (windows.Buffer slot) → (let o = opened wild past w r asked sent is_for run disks p label place f b login which e own in slot_at ms i o.n (ends ms i o.n) ≡ slot)
  reply_slot prepared none offset size wrote some slot goes =
      let o = opened wild past w r asked sent is_for run disks p label place f b login which e own in
      let x = reply_piece prepared none offset size wrote some in
      let stored = prepared place o.n (ends ms i o.n) o.inside (o.named (ends ms i o.n) (omega arith) x.below) in
      let there = chunk_window (slot_at ms i o.n (ends ms i o.n)) x.small x.cmd (stored.filled x.cmd x.command) _ step.1.written (2 ^ (x.cmd.max_payload + 2)) offset size (pow_pos (x.cmd.max_payload + 2)) some x.piece in
      let both : Some (windows.Buffer (slot_at ms i o.n (ends ms i o.n))) ≡ Some (windows.Buffer slot) = sym there ∙ goes in cc

  -- ---- in turn
  abbrev O : IsOpenAt ms w place
  O = opened wild past w r asked sent is_for run disks p label place f b login which e own

  abbrev G : GoesOn ms i O.n (machine_at w place)
  G = goes wild past w r asked sent is_for run disks p label place f b login which e own

  abbrev before_now : Progress
  before_now = heard wild past w r asked sent is_for run disks p label place f b login which e own

  abbrev now_then : Progress
  now_then = progress_by step before_now

  abbrev M : Machine
  M = machine_at w place

  none_then : step.0.ended ≡ None → now_then ≡ run_by step.0.ran step.1.answer before_now
  none_then none = ap (λ x. end_by x (src_of step.1.orb.next) (run_by step.0.ran step.1.answer before_now)) none

  is_open : has_list M.phase ≡ true
  is_open = waits_has wild past w r place b (header_in p).source label which e

  -- its command ran in this turn
  pub ran_now : (outcome : Outcome) → step.0.ran ≡ Some outcome → runs ms i O.n (ends ms i O.n) ≡ 0
  ran_now outcome ran =
      let k = keeps wild past w r asked sent is_for run disks p label place f b login which e own in
      let once = (subst (λ x. IfSome x (λ o. IsRun (orbs ms i O.n) before_now place (plain_in w.target.units disks login.unit) step.1.present step.1.orb step.1.segments step.1.payload)) ran k.runs).once in
      let none : G.progress.outcome ≡ None = sym (heard_outcome which M (answer_in p) G.progress) ∙ once in
      let had : runs ms i O.n G.progress.ended ≡ 0 = subst (λ o. HasRun o (runs ms i O.n G.progress.ended) (ran_status ms i O.n G.progress.ended)) none (G.ran unrun_law) in
      ap (λ j. runs ms i O.n j) (sym G.is) ∙ had

  -- the buffer of its present ORB
  buffer_there : (answering : M.phase ≡ phases.Answering) (x : IsHeard ms w is_for.serial place (answer_in p)) → x.chunk.list ≡ O.n → bytes_of M.segments ≡ bytes_of (laid_out (slot_at ms i x.chunk.list x.chunk.number) x.chunk.cmd x.chunk.cmd.segments)
  buffer_there answering x same =
      let c = x.chunk in
      let had = (subst (λ ph. Knows (orbs ms i O.n) G.progress ph M) answering G.along.main).told in
      let number : G.progress.ended ≡ c.number = G.is ∙ (ap (λ l. ends ms i l) (sym same) ∙ sym c.number_is) in
      let at_number : IsBufferOf (command_at ms i O.n c.number) (slot_at ms i O.n c.number) M.segments = subst (λ j. IsBufferOf (command_at ms i O.n j) (slot_at ms i O.n j) M.segments) number had.buffer in
      let at_list : IsBufferOf (command_at ms i c.list c.number) (slot_at ms i c.list c.number) M.segments = subst (λ l. IsBufferOf (command_at ms i l c.number) (slot_at ms i l c.number) M.segments) (sym same) at_number in
      ap bytes_of (subst (λ o. IsBufferOf o (slot_at ms i c.list c.number) M.segments) c.command at_list)

  -- it goes on behind the chunk that was written
  module _ (answering : M.phase ≡ phases.Answering) (done : write_failure (answer_in p) ≡ None) (main : which ≡ Main) where
    abbrev was : Answers (orbs ms i O.n) G.progress M.present M.orb M.segments M.answer M.written M.outgoing
    was = subst (λ ph. Knows (orbs ms i O.n) G.progress ph M) answering G.along.main

    by_main : before_now ≡ main_heard M.phase M (answer_in p) G.progress
    by_main = ap (λ (x : Which). heard_by x M (answer_in p) G.progress) main

    as_answered : before_now ≡ record G.progress { carried = G.progress.carried + answer_chunk M }
    as_answered =
        by_main ∙ (ap (λ ph. main_heard ph M (answer_in p) G.progress) answering ∙ ap (λ x. chunk_by x (answer_chunk M) G.progress) done)

    goes_behind : IsFull M → IsHeard ms w is_for.serial place (answer_in p) → now_then ≡ before_now → (there : HasTold (orbs ms i O.n) now_then step.1.present step.1.orb step.1.segments step.1.answer step.1.written) → IsAnswered ms i O.n (ends ms i O.n) step.1 is_for.serial
    goes_behind full x same there =
        let c = x.chunk in
        let long : 0 < length c.access.payload = subst (λ n. 0 < n) (sym (x.size c.access c.is)) (part_chunk M (full (ap answers answering))) in
        let written : step.1.written ≡ M.written + answer_chunk M =
        there.done ∙ (ap (λ (y : Progress). y.carried) (same ∙ as_answered) ∙ ap (λ j. j + answer_chunk M) (sym was.told.done)) in
        let answers_kept : step.1.answer ≡ M.answer = there.told ∙ (ap (λ (y : Progress). y.answer) (same ∙ as_answered) ∙ sym was.told.told) in
        let list_same : c.list ≡ O.n = (let z : Some c.list ≡ Some O.n = sym c.list_is ∙ O.list in cc) in
        let built : IsAnswered ms i c.list c.number step.1 is_for.serial = record {
          serial = x.request;
          closed = x.closed;
          done = x.told ∙ done_of (answer_in p) done;
          from = c.from;
          to = c.to;
          under_way = c.under_way;
          access = c.access;
          is = c.is;
          writes = c.writes;
          some = long;
          cmd = c.cmd;
          command = c.command;
          done_before = M.written;
          piece = subst (λ xs. chunk c.access.offset (length c.access.payload) ≡ cut_to (length xs - M.written) (chunk_from (laid_out (slot_at ms i c.list c.number) c.cmd c.cmd.segments) M.written (2 ^ (c.cmd.max_payload + 2)))) (sym answers_kept) c.piece;
          behind = written ∙ ap (λ j. M.written + j) (sym (x.size c.access c.is));
          whole = ap length answers_kept ∙ ((full (ap answers answering)).fills ∙ buffer_there answering x list_same);
          stands = c.stands long;
        } in
        subst (λ l. IsAnswered ms i l (ends ms i l) step.1 is_for.serial) list_same (subst (λ k. IsAnswered ms i c.list k step.1 is_for.serial) c.number_is built)

  -- it was named so
  named_now : step.1.phase ≡ phases.Answering → (below : ends ms i O.n < linked ms i O.n) → step.1.present ≡ start_of (windows.Orb (slot_at ms i O.n (ends ms i O.n))) → (list_in (ticket_at w place (orb_of step.1)) ≡ Some O.n) × (orb_in (ticket_at w place (orb_of step.1)) ≡ Some (ends ms i O.n))
  named_now answering below at =
      let named = O.named (ends ms i O.n) (omega arith) below in
      let is : orb_of step.1 ≡ start_of (windows.Orb (slot_at ms i O.n (ends ms i O.n))) = present_is step.1 (ap has_present answering) ∙ at in
      (ap (λ x. list_in (ticket_at w place x)) is ∙ named.list, ap (λ x. orb_in (ticket_at w place x)) is ∙ named.number)

  pub reply_turn : IsFull M → AreHeard wild ms w → step.0.ended ≡ None → (offset size : ℕ) → step.0.ask ≡ asks.Write offset size → 0 < offset → IsTurnNow ms w place O.n (ends ms i O.n) step is_for.serial
  reply_turn full heard_so none offset size wrote some = by_run step.0.ran refl
    where
      k : Keeps (orbs ms i O.n) before_now place (plain_in w.target.units disks login.unit) (main_beside which M) (ahead_beside which M) step
      k = keeps wild past w r asked sent is_for run disks p label place f b login which e own

      answering_then : step.1.phase ≡ phases.Answering
      answering_then = is_answering step.1.phase step.1 offset size (k.main_is ∙ main_wrote step.0.promoted step.0.ask _ _ offset size wrote) some

      there : HasTold (orbs ms i O.n) now_then step.1.present step.1.orb step.1.segments step.1.answer step.1.written
      there = (subst (λ ph. Knows (orbs ms i O.n) now_then ph step.1) answering_then k.along.main).told

      number_then : now_then.ended ≡ ends ms i O.n
      number_then = step_ended step before_now none ∙ (heard_ended which M (answer_in p) G.progress ∙ G.is)

      named : (list_in (ticket_at w place (orb_of step.1)) ≡ Some O.n) × (orb_in (ticket_at w place (orb_of step.1)) ≡ Some (ends ms i O.n))
      named =
          named_now answering_then (subst (λ j. j < linked ms i O.n) number_then there.turn.linked)
          (there.turn.place ∙ ap (λ j. start_of (windows.Orb (slot_at ms i O.n j))) number_then)

      good_before : now_then ≡ before_now → is_good G.progress.outcome ≡ true
      good_before same = ap is_good (sym (ap (λ (y : Progress). y.outcome) same ∙ heard_outcome which M (answer_in p) G.progress)) ∙ there.ran

      by_failure : (ran_before : 0 < runs ms i O.n (ends ms i O.n)) (same : now_then ≡ before_now) (answering : M.phase ≡ phases.Answering) (main : which ≡ Main) (x : Option FailCause) → write_failure (answer_in p) ≡ x → IsTurnNow ms w place O.n (ends ms i O.n) step is_for.serial
      by_failure ran_before same answering main None g =
          now_follows ran_before (goes_behind answering g main full
          (heard_so is_for.serial sent is_for.found is_for.to p label place f (subst (λ y. which_in (desk_at w.target place) (header_in p).source label ≡ Some y) main e) b own answering) same there)
      by_failure ran_before same answering main (Some cause) g =
          let ends_so : step.0.ended ≡ Some kinds.Failed = ap (λ (y : Which). (reply_step M place (plain_in w.target.units disks login.unit) run y (answer_in p)).0.ended) main ∙ failed_ends M place (plain_in w.target.units disks login.unit) run (answer_in p) answering cause g in
          absurd (let z : None ≡ Some kinds.Failed = sym none ∙ ends_so in cc)

      by_which : (ran_before : 0 < runs ms i O.n (ends ms i O.n)) (same : now_then ≡ before_now) (answering : M.phase ≡ phases.Answering) (y : Which) → which ≡ y → IsTurnNow ms w place O.n (ends ms i O.n) step is_for.serial
      by_which ran_before same answering Main g = by_failure ran_before same answering g (write_failure (answer_in p)) refl
      by_which ran_before same answering Ahead g =
          let nothing : step.0.ask ≡ asks.Nothing = ap (λ (y : Which). (reply_step M place (plain_in w.target.units disks login.unit) run y (answer_in p)).0.ask) g ∙ ahead_nothing M place (plain_in w.target.units disks login.unit) run (answer_in p) in
          absurd (none_wrote offset size (sym nothing ∙ wrote))

      by_run : (o : Option Outcome) → step.0.ran ≡ o → IsTurnNow ms w place O.n (ends ms i O.n) step is_for.serial
      by_run (Some outcome) ran =
          let is : now_then ≡ run_by (Some outcome) step.1.answer before_now = none_then none ∙ ap (λ o. run_by o step.1.answer before_now) ran in
          now_first (record {
            outcome = outcome;
            ran = ran;
            none = ran_now outcome ran;
            start = there.done ∙ ap (λ (y : Progress). y.carried) is;
            list = named.0;
            number = named.1;
          })
      by_run None ran =
          let same : now_then ≡ before_now = none_then none ∙ ap (λ o. run_by o step.1.answer before_now) ran in
          let good = good_before same in
          let ran_before : 0 < runs ms i O.n (ends ms i O.n) = subst (λ j. 0 < runs ms i O.n j) G.is (has_run ms i O.n G.progress.ended G.progress.outcome good (G.ran unrun_law)) in
          by_which ran_before same (good_answers (orbs ms i O.n) G.progress M.phase M G.along.main is_open good) which refl

  -- what it writes to a buffer is of an answer
  pub answers_now : step.0.ended ≡ None → (offset size : ℕ) → step.0.ask ≡ asks.Write offset size → 0 < offset → answers step.1.phase ≡ true
  answers_now none offset size wrote some =
      let k : Keeps (orbs ms i O.n) before_now place (plain_in w.target.units disks login.unit) (main_beside which M) (ahead_beside which M) step = keeps wild past w r asked sent is_for run disks p label place f b login which e own in
      ap answers (is_answering step.1.phase step.1 offset size (k.main_is ∙ main_wrote step.0.promoted step.0.ask _ _ offset size wrote) some)

  -- ---- an end
  module _ (status : StatusKind) (ended : step.0.ended ≡ Some status) where
    end_keeps : Keeps (orbs ms i O.n) before_now place (plain_in w.target.units disks login.unit) (main_beside which M) (ahead_beside which M) step
    end_keeps = keeps wild past w r asked sent is_for run disks p label place f b login which e own

    end_so : IsEnd (orbs ms i O.n) (run_by step.0.ran step.1.answer before_now) status step.1.present step.1.orb step.1.outgoing step.0.ask
    end_so = subst (λ x. IfSome x (λ kind. IsEnd (orbs ms i O.n) (run_by step.0.ran step.1.answer before_now) kind step.1.present step.1.orb step.1.outgoing step.0.ask)) ended end_keeps.ends

    end_number : (run_by step.0.ran step.1.answer before_now).ended ≡ ends ms i O.n
    end_number = run_ended step.0.ran step.1.answer before_now ∙ (heard_ended which M (answer_in p) G.progress ∙ G.is)

    pub end_named : (list_in (ticket_at w place (orb_of step.1)) ≡ Some O.n) × (orb_in (ticket_at w place (orb_of step.1)) ≡ Some (ends ms i O.n))
    end_named =
        let so = subst (λ x. IfSome x (λ kind. EndsSo kind step.1)) ended (replied_leaves M place (plain_in w.target.units disks login.unit) run which (answer_in p)).ends in
        let named = O.named (ends ms i O.n) (omega arith) (subst (λ j. j < linked ms i O.n) end_number end_so.turn.linked) in
        let is : orb_of step.1 ≡ start_of (windows.Orb (slot_at ms i O.n (ends ms i O.n))) =
        present_is step.1 so.present ∙ (end_so.turn.place ∙ ap (λ j. start_of (windows.Orb (slot_at ms i O.n j))) end_number) in
        (ap (λ x. list_in (ticket_at w place x)) is ∙ named.list, ap (λ x. orb_in (ticket_at w place x)) is ∙ named.number)

    end_answered : IsFull M → M.phase ≡ phases.Answering → (x : IsHeard ms w is_for.serial place (answer_in p)) → write_failure (answer_in p) ≡ None → IsAnswered ms i O.n (ends ms i O.n) (record M { written = M.written + answer_chunk M }) is_for.serial
    end_answered full answering x done =
        let c = x.chunk in
        let long : 0 < length c.access.payload = subst (λ n. 0 < n) (sym (x.size c.access c.is)) (part_chunk M (full (ap answers answering))) in
        let list_same : c.list ≡ O.n = (let z : Some c.list ≡ Some O.n = sym c.list_is ∙ O.list in cc) in
        let built : IsAnswered ms i c.list c.number (record M { written = M.written + answer_chunk M }) is_for.serial = record {
          serial = x.request;
          closed = x.closed;
          done = x.told ∙ done_of (answer_in p) done;
          from = c.from;
          to = c.to;
          under_way = c.under_way;
          access = c.access;
          is = c.is;
          writes = c.writes;
          some = long;
          cmd = c.cmd;
          command = c.command;
          done_before = M.written;
          piece = c.piece;
          behind = ap (λ j. M.written + j) (sym (x.size c.access c.is));
          whole = (full (ap answers answering)).fills ∙ buffer_there answering x list_same;
          stands = c.stands long;
        } in
        subst (λ l. IsAnswered ms i l (ends ms i l) (record M { written = M.written + answer_chunk M }) is_for.serial) list_same
        (subst (λ k. IsAnswered ms i c.list k (record M { written = M.written + answer_chunk M }) is_for.serial) c.number_is built)

    pub reply_ends : IsFull M → AreHeard wild ms w → (status ≡ kinds.Failed → ⊥) → IsEndNow ms i O.n (ends ms i O.n) is_for.serial
    reply_ends full heard_so proper = by_run step.0.ran refl
      where
        by_failure : (answering : M.phase ≡ phases.Answering) (main : which ≡ Main) (x : Option FailCause) → write_failure (answer_in p) ≡ x → IsEndNow ms i O.n (ends ms i O.n) is_for.serial
        by_failure answering main None g =
            ends_behind (record M { written = M.written + answer_chunk M })
            (ends_whole M place (plain_in w.target.units disks login.unit) run (answer_in p) answering g status
            (ap (λ (y : Which). (reply_step M place (plain_in w.target.units disks login.unit) run y (answer_in p)).0.ended) (sym main) ∙ ended))
            (end_answered full answering (heard_so is_for.serial sent is_for.found is_for.to p label place f (subst (λ y. which_in (desk_at w.target place) (header_in p).source label ≡ Some y) main e) b own answering) g)
        by_failure answering main (Some cause) g =
            let ends_so : step.0.ended ≡ Some kinds.Failed = ap (λ (y : Which). (reply_step M place (plain_in w.target.units disks login.unit) run y (answer_in p)).0.ended) main ∙ failed_ends M place (plain_in w.target.units disks login.unit) run (answer_in p) answering cause g in
            absurd (proper (let z : Some status ≡ Some kinds.Failed = sym ended ∙ ends_so in cc))

        by_which : (answering : M.phase ≡ phases.Answering) (y : Which) → which ≡ y → IsEndNow ms i O.n (ends ms i O.n) is_for.serial
        by_which answering Main g = by_failure answering g (write_failure (answer_in p)) refl
        by_which answering Ahead g =
            let none : step.0.ended ≡ None = ap (λ (y : Which). (reply_step M place (plain_in w.target.units disks login.unit) run y (answer_in p)).0.ended) g ∙ ahead_endless M place (plain_in w.target.units disks login.unit) run (answer_in p) in
            absurd (let z : None ≡ Some status = sym none ∙ ended in cc)

        by_phase : (y : Bool) → answers M.phase ≡ y → IsEndNow ms i O.n (ends ms i O.n) is_for.serial
        by_phase true g = by_which (answers_is M.phase g) which refl
        by_phase false g =
            let none = unrun_in (orbs ms i O.n) G.progress M.phase M G.along.main is_open g in
            let had : runs ms i O.n G.progress.ended ≡ 0 = subst (λ o. HasRun o (runs ms i O.n G.progress.ended) (ran_status ms i O.n G.progress.ended)) none (G.ran unrun_law) in
            ends_fresh (ap (λ j. runs ms i O.n j) (sym G.is) ∙ had)

        by_run : (o : Option Outcome) → step.0.ran ≡ o → IsEndNow ms i O.n (ends ms i O.n) is_for.serial
        by_run (Some outcome) ran = ends_fresh (ran_now outcome ran)
        by_run None ran = by_phase (answers M.phase) refl

  -- ---- an answer with bytes has as many as the buffer of its ORB
  module _ (may : MayTell step.0.ran step.1 place (plain_in w.target.units disks login.unit)) (prepared : ArePrepared ms w) (fills : (j n k : ℕ) (cmd : Cmd) → command_at ms j n k ≡ Some cmd → FillsBuffer cmd) (full : IsFull M) (e_then : answers step.1.phase ≡ true) where
    whole_keeps : Keeps (orbs ms i O.n) before_now place (plain_in w.target.units disks login.unit) (main_beside which M) (ahead_beside which M) step
    whole_keeps = keeps wild past w r asked sent is_for run disks p label place f b login which e own

    told_then : HasTold (orbs ms i O.n) now_then step.1.present step.1.orb step.1.segments step.1.answer step.1.written
    told_then = (subst (λ ph. Knows (orbs ms i O.n) now_then ph step.1) (answers_is step.1.phase e_then) whole_keeps.along.main).told

    still : step.0.ended ≡ None
    still = by step.0.ended refl
      where
        by : (x : Option StatusKind) → step.0.ended ≡ x → x ≡ None
        by None g = refl
        by (Some kind) g =
            let none : now_then.outcome ≡ None = ap (λ x. (end_by x (src_of step.1.orb.next) (run_by step.0.ran step.1.answer before_now)).outcome) g in
            absurd (unrun now_then.outcome none told_then.ran)

    number_now : now_then.ended ≡ ends ms i O.n
    number_now = step_ended step before_now still ∙ (heard_ended which M (answer_in p) G.progress ∙ G.is)

    below_now : ends ms i O.n < linked ms i O.n
    below_now = subst (λ j. j < linked ms i O.n) number_now told_then.turn.linked

    abbrev slot_now : ℕ
    slot_now = slot_at ms i O.n (ends ms i O.n)

    its : WasAsked (command_at ms i O.n (ends ms i O.n)) (request_at ms i O.n (ends ms i O.n)) (slot_at ms i O.n (ends ms i O.n))
    its = asked place b is_open own O.n O.list (ends ms i O.n) (omega arith) below_now

    filled : FillsBuffer its.cmd
    filled = fills i O.n (ends ms i O.n) its.cmd its.command_is

    laid_bytes : (segments : List Segment) (j : ℕ) → j ≡ ends ms i O.n → IsBufferOf (command_at ms i O.n j) (slot_at ms i O.n j) segments → bytes_of segments ≡ its.cmd.length
    laid_bytes segments j same buffer =
        let there = subst (λ x. IsBufferOf (command_at ms i O.n x) (slot_at ms i O.n x) segments) same buffer in
        let is : segments ≡ laid_out slot_now its.cmd its.cmd.segments = subst (λ o. IsBufferOf o slot_now segments) its.command_is there in
        ap bytes_of is ∙ whole_bytes slot_now its.cmd filled.segments

    bytes_now : bytes_of step.1.segments ≡ its.cmd.length
    bytes_now = laid_bytes step.1.segments now_then.ended number_now told_then.buffer

    whole_ran : (outcome : Outcome) → step.0.ran ≡ Some outcome → IsPart step.1.written (length step.1.answer) (bytes_of step.1.segments)
    whole_ran outcome ran = record { more = more_now; fills = by its.cmd.to_initiator refl }
      where
        run_may : MayRun step.1 place outcome (plain_in w.target.units disks login.unit)
        run_may = subst (λ x. MayTell x step.1 place (plain_in w.target.units disks login.unit)) ran may

        good : is_good (Some outcome) ≡ true
        good =
            let is : now_then ≡ run_by (Some outcome) step.1.answer before_now = none_then still ∙ ap (λ o. run_by o step.1.answer before_now) ran in
            ap is_good (sym (ap (λ (y : Progress). y.outcome) is)) ∙ told_then.ran

        same_cmd : told_then.good.own.cmd ≡ its.cmd
        same_cmd =
            let c : command_at ms i O.n (ends ms i O.n) ≡ Some told_then.good.own.cmd = ap (λ j. command_at ms i O.n j) (sym number_now) ∙ told_then.good.own.command in
            let both : Some told_then.good.own.cmd ≡ Some its.cmd = sym c ∙ its.command_is in cc

        cdb_is : step.1.orb.cdb ≡ its.cmd.cdb
        cdb_is = ap (λ (x : CommandOrb). x.cdb) told_then.good.own.orb ∙ ap (λ (c : Cmd). c.cdb) same_cmd

        len : length step.1.answer ≡ answer_length_of (plain_in w.target.units disks login.unit).medium.is_bay step.1.orb.cdb
        len = run_may.size ∙ run_may.len (good_check outcome good)

        some : 0 < length step.1.answer
        some =
            let begins : 0 < answered_length outcome = subst (λ x. IfSome x (λ o. 0 < answered_length o)) ran (reply_begins M place (plain_in w.target.units disks login.unit) run (answer_in p) which e_then) in
            subst (λ n. 0 < n) (sym run_may.size) begins

        more_now : step.1.written < length step.1.answer
        more_now =
            let is : now_then ≡ run_by (Some outcome) step.1.answer before_now = none_then still ∙ ap (λ o. run_by o step.1.answer before_now) ran in
            let zero_there : step.1.written ≡ 0 = told_then.done ∙ ap (λ (y : Progress). y.carried) is in
            omega (arith, zero_there, some)

        by : (t : Bool) → its.cmd.to_initiator ≡ t → length step.1.answer ≡ bytes_of step.1.segments
        by true to = len ∙ (ap (λ xs. answer_length_of (plain_in w.target.units disks login.unit).medium.is_bay xs) cdb_is ∙ (filled.answered (plain_in w.target.units disks login.unit).medium.is_bay to ∙ sym bytes_now))
        by false to =
            let way : step.1.orb.to_initiator ≡ false = ap (λ (x : CommandOrb). x.to_initiator) told_then.good.own.orb ∙ (ap (λ (c : Cmd). c.to_initiator && nat_lt 0 c.length) same_cmd ∙ ap (λ y. y && nat_lt 0 its.cmd.length) to) in
            let none = ended_none _ _ (subst (λ y. MayEnd (check_of step.1.orb.cdb (plan_of step.1) (plain_in w.target.units disks login.unit) place) (failure_of (plain_in w.target.units disks login.unit).medium.is_bay step.1.orb.cdb) y) (good_check outcome good) run_may.ended) in
            let zero_there = check_length step.1.orb.cdb (plan_of step.1) (plain_in w.target.units disks login.unit) place way none in
            absurd (let z = len ∙ zero_there in omega (arith, z, some))

    -- it is behind what was written
    more_on : now_then ≡ before_now → (answering : M.phase ≡ phases.Answering) → step.1.answer ≡ M.answer → (y : Which) → which ≡ y → step.1.written < length step.1.answer
    more_on same answering kept Ahead g =
        let had = (subst (λ ph. Knows (orbs ms i O.n) G.progress ph M) answering G.along.main).told in
        let carried : before_now.carried ≡ G.progress.carried = ap (λ (x : Which). (heard_by x M (answer_in p) G.progress).carried) g in
        let written : step.1.written ≡ M.written = told_then.done ∙ (ap (λ (x : Progress). x.carried) same ∙ (carried ∙ sym had.done)) in
        let more = (full (ap answers answering)).more in
        subst (λ n. n < length step.1.answer) (sym written) (subst (λ xs. M.written < length xs) (sym kept) more)
    more_on same answering kept Main g = by_failure (write_failure (answer_in p)) refl
      where
        by_failure : (x : Option FailCause) → write_failure (answer_in p) ≡ x → step.1.written < length step.1.answer
        by_failure (Some cause) f_is =
            let ends_so : step.0.ended ≡ Some kinds.Failed = ap (λ (y : Which). (reply_step M place (plain_in w.target.units disks login.unit) run y (answer_in p)).0.ended) g ∙ failed_ends M place (plain_in w.target.units disks login.unit) run (answer_in p) answering cause f_is in
            absurd (let z : None ≡ Some kinds.Failed = sym still ∙ ends_so in cc)
        by_failure None f_is =
            let had = (subst (λ ph. Knows (orbs ms i O.n) G.progress ph M) answering G.along.main).told in
            let written : step.1.written ≡ M.written + answer_chunk M =
            told_then.done ∙ (ap (λ (x : Progress). x.carried) (same ∙ as_answered answering f_is g) ∙ ap (λ j. j + answer_chunk M) (sym had.done)) in
            let unlike = more_goes M place (plain_in w.target.units disks login.unit) run (answer_in p) answering f_is (ap (λ (y : Which). answers (reply_step M place (plain_in w.target.units disks login.unit) run y (answer_in p)).1.phase) (sym g) ∙ e_then) in
            let within : answer_chunk M ≤ length M.answer - M.written = chunk_few (length M.answer - M.written) (chunk_from M.segments M.written (limit_of M.orb)) in
            let before = (full (ap answers answering)).more in
            let other : M.written + answer_chunk M ≡ length M.answer → ⊥ = λ z. (let t : (M.written + answer_chunk M == length M.answer) ≡ true = grind (arith, nat_tests) in let c : false ≡ true = sym unlike ∙ t in cc) in
            let there : M.written + answer_chunk M < length M.answer = below_by (M.written + answer_chunk M) (length M.answer) (omega (arith, within, before)) other in
            subst (λ n. n < length step.1.answer) (sym written) (subst (λ xs. M.written + answer_chunk M < length xs) (sym kept) there)
          where
            below_by : (a c : ℕ) → a ≤ c → (a ≡ c → ⊥) → a < c
            below_by a c l f = grind arith

    whole_on : step.0.ran ≡ None → IsPart step.1.written (length step.1.answer) (bytes_of step.1.segments)
    whole_on ran =
        let same : now_then ≡ before_now = none_then still ∙ ap (λ o. run_by o step.1.answer before_now) ran in
        let good : is_good G.progress.outcome ≡ true = ap is_good (sym (ap (λ (y : Progress). y.outcome) same ∙ heard_outcome which M (answer_in p) G.progress)) ∙ told_then.ran in
        let answering = good_answers (orbs ms i O.n) G.progress M.phase M G.along.main is_open good in
        let had = (subst (λ ph. Knows (orbs ms i O.n) G.progress ph M) answering G.along.main).told in
        let answers_same : step.1.answer ≡ M.answer = told_then.told ∙ (ap (λ (y : Progress). y.answer) same ∙ (heard_answer which M (answer_in p) G.progress ∙ sym had.told)) in
        let before : length M.answer ≡ bytes_of M.segments = (full (ap answers answering)).fills in
        record {
          more = more_on same answering answers_same which refl;
          fills = ap length answers_same ∙ (before ∙ (laid_bytes M.segments G.progress.ended G.is had.buffer ∙ sym bytes_now));
        }

    by_ran : (x : Option Outcome) → step.0.ran ≡ x → IsPart step.1.written (length step.1.answer) (bytes_of step.1.segments)
    by_ran None ran = whole_on ran
    by_ran (Some outcome) ran = whole_ran outcome ran

    pub reply_whole : IsPart step.1.written (length step.1.answer) (bytes_of step.1.segments)
    reply_whole = by_ran step.0.ran refl

    -- where no command ran, it wrote this answer before; and what ran was good
    pub answer_kept : step.0.ran ≡ None → (answers M.phase ≡ true) × (step.1.answer ≡ M.answer)
    answer_kept ran =
        let same : now_then ≡ before_now = none_then still ∙ ap (λ o. run_by o step.1.answer before_now) ran in
        let good : is_good G.progress.outcome ≡ true = ap is_good (sym (ap (λ (y : Progress). y.outcome) same ∙ heard_outcome which M (answer_in p) G.progress)) ∙ told_then.ran in
        let answering = good_answers (orbs ms i O.n) G.progress M.phase M G.along.main is_open good in
        let had = (subst (λ ph. Knows (orbs ms i O.n) G.progress ph M) answering G.along.main).told in
        (ap answers answering, told_then.told ∙ (ap (λ (y : Progress). y.answer) same ∙ (heard_answer which M (answer_in p) G.progress ∙ sym had.told)))

    pub ran_well : (outcome : Outcome) → step.0.ran ≡ Some outcome → check_in outcome ≡ None
    ran_well outcome ran =
        let is : now_then ≡ run_by (Some outcome) step.1.answer before_now = none_then still ∙ ap (λ o. run_by o step.1.answer before_now) ran in
        good_check outcome (ap is_good (sym (ap (λ (y : Progress). y.outcome) is)) ∙ told_then.ran)

    -- its data go to the initiator
    same_own : (now : Progress) → now.ended ≡ ends ms i O.n → (orb : CommandOrb) (o : IsOrbOf (command_at ms i O.n now.ended) (slot_at ms i O.n now.ended) orb) → orb.to_initiator ≡ (its.cmd.to_initiator && nat_lt 0 its.cmd.length)
    same_own now number orb o =
        let c : command_at ms i O.n (ends ms i O.n) ≡ Some o.cmd = ap (λ j. command_at ms i O.n j) (sym number) ∙ o.command in
        let same : o.cmd ≡ its.cmd = (let both : Some o.cmd ≡ Some its.cmd = sym c ∙ its.command_is in cc) in
        ap (λ (x : CommandOrb). x.to_initiator) o.orb ∙ ap (λ (c : Cmd). c.to_initiator && nat_lt 0 c.length) same

    way_ran : (outcome : Outcome) → step.0.ran ≡ Some outcome → (t : Bool) → step.1.orb.to_initiator ≡ t → step.1.orb.to_initiator ≡ true
    way_ran outcome ran true to = to
    way_ran outcome ran false to =
        let run_may : MayRun step.1 place outcome (plain_in w.target.units disks login.unit) = subst (λ x. MayTell x step.1 place (plain_in w.target.units disks login.unit)) ran may in
        let is : now_then ≡ run_by (Some outcome) step.1.answer before_now = none_then still ∙ ap (λ o. run_by o step.1.answer before_now) ran in
        let good : is_good (Some outcome) ≡ true = ap is_good (sym (ap (λ (y : Progress). y.outcome) is)) ∙ told_then.ran in
        let len : length step.1.answer ≡ answer_length_of (plain_in w.target.units disks login.unit).medium.is_bay step.1.orb.cdb = run_may.size ∙ run_may.len (good_check outcome good) in
        let begins : 0 < answered_length outcome = subst (λ x. IfSome x (λ o. 0 < answered_length o)) ran (reply_begins M place (plain_in w.target.units disks login.unit) run (answer_in p) which e_then) in
        let some : 0 < length step.1.answer = subst (λ n. 0 < n) (sym run_may.size) begins in
        let none = ended_none _ _ (subst (λ y. MayEnd (check_of step.1.orb.cdb (plan_of step.1) (plain_in w.target.units disks login.unit) place) (failure_of (plain_in w.target.units disks login.unit).medium.is_bay step.1.orb.cdb) y) (good_check outcome good) run_may.ended) in
        let zero_there = check_length step.1.orb.cdb (plan_of step.1) (plain_in w.target.units disks login.unit) place to none in
        absurd (let z = len ∙ zero_there in omega (arith, z, some))

    way_on : step.0.ran ≡ None → (answers M.phase ≡ true → M.orb.to_initiator ≡ true) → step.1.orb.to_initiator ≡ true
    way_on ran way =
        let same : now_then ≡ before_now = none_then still ∙ ap (λ o. run_by o step.1.answer before_now) ran in
        let good : is_good G.progress.outcome ≡ true = ap is_good (sym (ap (λ (y : Progress). y.outcome) same ∙ heard_outcome which M (answer_in p) G.progress)) ∙ told_then.ran in
        let answering = good_answers (orbs ms i O.n) G.progress M.phase M G.along.main is_open good in
        let had = (subst (λ ph. Knows (orbs ms i O.n) G.progress ph M) answering G.along.main).told in
        same_own now_then number_now step.1.orb told_then.good.own ∙ (sym (same_own G.progress G.is M.orb had.good.own) ∙ way (ap answers answering))

    way_by : (x : Option Outcome) → step.0.ran ≡ x → (answers M.phase ≡ true → M.orb.to_initiator ≡ true) → step.1.orb.to_initiator ≡ true
    way_by None ran way = way_on ran way
    way_by (Some outcome) ran way = way_ran outcome ran step.1.orb.to_initiator refl

    pub reply_way : (answers M.phase ≡ true → M.orb.to_initiator ≡ true) → step.1.orb.to_initiator ≡ true
    reply_way way = way_by step.0.ran refl way

  -- ---- a good end in the turn in which the command runs: the answer is empty, and so is the buffer, where its data go to the initiator
  module _ (ended : step.0.ended ≡ Some kinds.Good) (may : MayTell step.0.ran step.1 place (plain_in w.target.units disks login.unit)) (fills : (cmd : Cmd) → command_at ms i O.n (ends ms i O.n) ≡ Some cmd → FillsBuffer cmd) where
    module _ (outcome : Outcome) (ran : step.0.ran ≡ Some outcome) (cmd : Cmd) (command : command_at ms i O.n (ends ms i O.n) ≡ Some cmd) (filled : FillsBuffer cmd) where
      good_end : IsEnd (orbs ms i O.n) (run_by (Some outcome) step.1.answer before_now) kinds.Good step.1.present step.1.orb step.1.outgoing step.0.ask
      good_end = subst (λ o. IsEnd (orbs ms i O.n) (run_by o step.1.answer before_now) kinds.Good step.1.present step.1.orb step.1.outgoing step.0.ask) ran (end_so kinds.Good ended)

      may_run : MayRun step.1 place outcome (plain_in w.target.units disks login.unit)
      may_run = subst (λ x. MayTell x step.1 place (plain_in w.target.units disks login.unit)) ran may

      empty_by : (o : Outcome) → is_good (Some o) ≡ true → length step.1.answer ≡ answered_length o → 0 ≡ length (to_write (Some o) step.1.answer) → length step.1.answer ≡ 0
      empty_by (outcomes.Check sense) g size whole = absurd (let z : false ≡ true = g in cc)
      empty_by (outcomes.Good len) g size whole = by (len == 0) refl whole
        where
          by : (t : Bool) → (len == 0) ≡ t → 0 ≡ length (cond t [] step.1.answer) → length step.1.answer ≡ 0
          by true z none = size ∙ (let none_there : len ≡ 0 = grind (arith, nat_tests) in none_there)
          by false z none = sym none

      number_is : before_now.ended ≡ ends ms i O.n
      number_is = heard_ended which M (answer_in p) G.progress ∙ G.is

      cdb_there : step.1.orb.cdb ≡ cmd.cdb
      cdb_there =
          let own_orb = good_end.read.0 in
          let c : command_at ms i O.n (ends ms i O.n) ≡ Some own_orb.cmd = ap (λ j. command_at ms i O.n j) (sym number_is) ∙ own_orb.command in
          let same : own_orb.cmd ≡ cmd = (let both : Some own_orb.cmd ≡ Some cmd = sym c ∙ command in cc) in
          ap (λ (x : CommandOrb). x.cdb) own_orb.orb ∙ ap (λ (c : Cmd). c.cdb) same

      pub good_empty : cmd.to_initiator ≡ true → cmd.length ≡ 0
      good_empty to =
          let bay = (plain_in w.target.units disks login.unit).medium.is_bay in
          let len : length step.1.answer ≡ answer_length_of bay step.1.orb.cdb = may_run.size ∙ may_run.len (good_check outcome good_end.by) in
          sym (filled.answered bay to) ∙ (ap (λ xs. answer_length_of bay xs) (sym cdb_there) ∙ (sym len ∙ empty_by outcome good_end.by may_run.size good_end.whole))

    -- it had run before, or runs now
    good_before : step.0.ran ≡ None → is_good G.progress.outcome ≡ true
    good_before none =
        let x = subst (λ o. IsEnd (orbs ms i O.n) (run_by o step.1.answer before_now) kinds.Good step.1.present step.1.orb step.1.outgoing step.0.ask) none (end_so kinds.Good ended) in
        ap is_good (sym (heard_outcome which M (answer_in p) G.progress)) ∙ x.by

    -- where an agent writes an answer, its command is of data that go to the initiator
    inward_of : M.phase ≡ phases.Answering → M.orb.to_initiator ≡ true → (cmd : Cmd) → command_at ms i O.n (ends ms i O.n) ≡ Some cmd → cmd.to_initiator ≡ true
    inward_of answering way cmd command =
        let own_orb = (subst (λ ph. Knows (orbs ms i O.n) G.progress ph M) answering G.along.main).told.good.own in
        let c : command_at ms i O.n (ends ms i O.n) ≡ Some own_orb.cmd = ap (λ j. command_at ms i O.n j) (sym G.is) ∙ own_orb.command in
        let same : own_orb.cmd ≡ cmd = (let both : Some own_orb.cmd ≡ Some cmd = sym c ∙ command in cc) in
        both_first cmd.to_initiator (nat_lt 0 cmd.length)
        (sym (ap (λ (x : CommandOrb). x.to_initiator) own_orb.orb ∙ ap (λ (c : Cmd). c.to_initiator && nat_lt 0 c.length) same) ∙ way)
      where
        both_first : (a b : Bool) → (a && b) ≡ true → a ≡ true
        both_first true b z = refl
        both_first false b z = z

    good_on : step.0.ran ≡ None → IsWay M → IsEndNow ms i O.n (ends ms i O.n) is_for.serial → IsGoodNow ms i O.n (ends ms i O.n) is_for.serial
    good_on none way (ends_fresh never) =
        let ran_before : 0 < runs ms i O.n (ends ms i O.n) = subst (λ j. 0 < runs ms i O.n j) G.is (has_run ms i O.n G.progress.ended G.progress.outcome (good_before none) (G.ran unrun_law)) in
        absurd (omega (arith, never, ran_before))
    good_on none way (ends_behind m whole a) =
        let answering = good_answers (orbs ms i O.n) G.progress M.phase M G.along.main is_open (good_before none) in
        good_behind m whole a (inward_of answering (way (ap answers answering)) a.cmd a.command)

    good_by : (x : Option Outcome) → step.0.ran ≡ x → IsWay M → IsEndNow ms i O.n (ends ms i O.n) is_for.serial → IsGoodNow ms i O.n (ends ms i O.n) is_for.serial
    good_by None ran way now = good_on ran way now
    good_by (Some outcome) ran way now =
        let x = subst (λ o. IsEnd (orbs ms i O.n) (run_by o step.1.answer before_now) kinds.Good step.1.present step.1.orb step.1.outgoing step.0.ask) ran (end_so kinds.Good ended) in
        let one = x.read.0 in
        let number : before_now.ended ≡ ends ms i O.n = heard_ended which M (answer_in p) G.progress ∙ G.is in
        let command : command_at ms i O.n (ends ms i O.n) ≡ Some one.cmd = ap (λ j. command_at ms i O.n j) (sym number) ∙ one.command in
        good_fresh (ran_now outcome ran) one.cmd command (λ to. good_empty outcome ran one.cmd command (fills one.cmd command) to)

    pub reply_good : IsFull M → IsWay M → AreHeard wild ms w → IsGoodNow ms i O.n (ends ms i O.n) is_for.serial
    reply_good full way heard_so = good_by step.0.ran refl way (reply_ends kinds.Good ended full heard_so (λ z. let differ : kinds.Good ≡ kinds.Failed = z in cc))
