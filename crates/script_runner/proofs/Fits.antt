-- The event of a line that has no fault is one that a world takes.
use Rattle.std.proofs.Common.{◌≡◌, ◌∙◌, refl, sym, ap, subst, ℕ, zero, suc, ◌+◌, ◌*◌, ◌/◌, ◌^◌, ◌%◌, ◌<◌, ◌≤◌, ◌==◌, ◌&&◌, ◌||◌, nat_lt, nat_le, Bool, true, false, not, cond, List, [], ◌∷◌, map, sum, length, replicate, bytes_eq, codes, Option, Some, None, Result, Ok, Err, append-nil, arith}
use Rattle.std.specs.Prelude.{IfOk}
use Rattle.std.specs.List.{list_all, flat_map, find}
use Rattle.std.proofs.lemmas.List.{length-map}
use Rattle.std.proofs.lemmas.Bool.{ltb-true, ltb-false, leb-true, eqb-true}
use Rattle.sbp_journal.specs.declared.event.Cmd.{Cmd}
use Rattle.sbp_journal.specs.declared.event.Action.{Action}
use Rattle.sbp_journal.specs.declared.event.Action.TheVariants as actions
use Rattle.sbp_journal.specs.declared.event.Event.{Event}
use Rattle.sbp_journal.specs.declared.event.Event.TheVariants as events
use Rattle.script_words.specs.declared.fault.LineFault.{LineFault}
use Rattle.script_words.specs.declared.fault.LineFault.TheVariants as faults
use Rattle.script_words.specs.declared.verb.Verb.{Verb}
use Rattle.script_words.specs.declared.verb.Verb.TheVariants as verbs
use Rattle.script_words.specs.declared.verb.Form.{Form}
use Rattle.script_words.specs.declared.verb.Form.TheVariants.{Ten, Twelve}
use Rattle.script_words.specs.declared.fixed.FixedWord.TheVariants.{Seg, Pay}
use Rattle.script_words.specs.Words.{◌>>=◌, number, is_between, value, numbers, hex_bytes}
use Rattle.script_words.specs.Payload.{bytes_of, pieces, segments_of, summing, lengths, has_count, is_whole, piece_bytes}
use Rattle.script_words.specs.Verbs.{verb_of}
use Rattle.script_words.specs.Commands.{addressed_block, behind, bringing, cmd_of, command, max_payload, plain_block, reading_blocks, segments, verifying_blocks, with_end, writing_blocks}
use Rattle.script_text.specs.declared.row.Row.{Row}
use Rattle.script_text.specs.declared.row.Row.TheVariants as rows
use Rattle.script_text.specs.declared.row.Act.{Act}
use Rattle.script_text.specs.declared.row.Act.TheVariants as acts
use Rattle.script_text.specs.declared.row.OrbAct.{OrbAct}
use Rattle.script_text.specs.declared.row.OrbAct.TheVariants as orb_acts
use Rattle.script_text.specs.declared.row.Placing.{Placing}
use Rattle.script_text.specs.declared.row.Placing.TheVariants as placings
use Rattle.script_text.specs.declared.row.Fate.{Fate}
use Rattle.script_text.specs.declared.row.Fate.TheVariants as fates
use Rattle.script_text.specs.declared.column.Column.TheVariants.{Number}
use Rattle.script_text.specs.Rows.{has_shape, take_all, takes}
use Rattle.script_text.specs.Line.{action_of, all_differ, arguments, event_of, fated, has_fault, is_begin, is_exclusive, is_out_of_place, is_silent, names_none, event_names_none, on_row, order, orb_action, password, placed, reading, reset, row, row_event, told, event_at, maybe_event}
use Rattle.sbp_initiator.specs.Commands.{IsCommand}
use Rattle.sbp_initiator.specs.Acting.{IsAction}
use Rattle.sbp_world.specs.Lines.{IsEvent}
use Rattle.sbp_world.specs.Wire.Lines.{FillsAction, FillsBuffer, IsLine}
use Rattle.script_runner.specs.Runner.{HasBytes, IsBeginning}
use Rattle.script_runner.proofs.Brings.{IsAnswered, allows, blocks_in, ejects, inquires, loads, prevents, reads_ten, reads_twelve, starts, stops, synchronizes, tells_capacity, tests_ready, verifies, writes_ten, writes_twelve}
use Rattle.rbc_disk.specs.Runs.{answer_length_of, data_length_of}
use Rattle.script_runner.proofs.OwnIds.{AreAtMost, HasOwn, ids_apart, is_line}

-- ---- words

pub then_fits : {A B : Type 0} (P : B → Type 0) (r : Result A LineFault) (f : A → Result B LineFault) → ((a : A) → r ≡ Ok a → IfOk (f a) P) → IfOk (r >>= f) P
then_fits P (Ok a) f k = k a refl
then_fits P (Err fault) f k = tt

pub chosen_is : {A : Type 0} (t : Bool) (a b : A) (fault : LineFault) → cond t (Ok a) (Err fault) ≡ Ok b → (t ≡ true) × (a ≡ b)
chosen_is true a b fault e = (refl, cc e)
chosen_is false a b fault e = absurd (cc e)

pub both : (a b : Bool) → (a && b) ≡ true → (a ≡ true) × (b ≡ true)
both true b e = (refl, e)
both false b e = absurd (cc e)

-- a number that was read is in its range
pub within : (low high k : ℕ) (word : List ℕ) → number low high word ≡ Ok k → (low ≤ k) × (k ≤ high)
within low high k word e =
    let c = chosen_is (is_between low high word) (value word) k faults.Range e in
    let b = both (nat_le low (value word)) (nat_le (value word) high) c.0 in
    (subst (λ n. low ≤ n) c.1 (leb-true low (value word) b.0), subst (λ n. n ≤ high) c.1 (leb-true (value word) high b.1))

-- ---- commands

-- a command whose buffer is in one piece
record IsPlain (cmd : Cmd) : Type 0 where
  block : length cmd.cdb ≡ 12
  short : cmd.length ≤ 16384
  payload : length cmd.payload ≤ cmd.length
  fills : cmd.to_initiator ≡ false → length cmd.payload ≡ cmd.length
  brought : (is_bay : Bool) → cmd.to_initiator ≡ false → data_length_of is_bay cmd.cdb ≡ cmd.length
  answered : (is_bay : Bool) → cmd.to_initiator ≡ true → answer_length_of is_bay cmd.cdb ≡ cmd.length

addressed_length : (form : Form) (opcode lba count : ℕ) → length (addressed_block form opcode lba count) ≡ 12
addressed_length Ten opcode lba count = refl
addressed_length Twelve opcode lba count = refl

plain_bringing : (cdb : List ℕ) (len : ℕ) → length cdb ≡ 12 → len ≤ 16384 → IsAnswered cdb len → IsPlain (bringing cdb len)
plain_bringing cdb len e few a = record {
  block = e;
  short = few;
  payload = omega arith;
  fills = λ t. let none = ltb-false 0 len t in omega arith;
  brought = λ is_bay t. let none = ltb-false 0 len t in let f = a.none is_bay in omega (arith, none, f);
  answered = λ is_bay t. a.answer is_bay;
}

plain_reading : (form : Form) (opcode : ℕ) (ws : List (List ℕ)) → ((lba count : ℕ) → count ≤ 32 → IsAnswered (addressed_block form opcode lba count) (512 * count)) → IfOk (reading_blocks form opcode ws) IsPlain
plain_reading form opcode [] a = tt
plain_reading form opcode (lba ∷ []) a = tt
plain_reading form opcode (lba ∷ count ∷ tail) a =
    then_fits IsPlain (number 0 4294967295 lba) _ (λ l e. then_fits IsPlain (number 0 32 count) _ (λ n k.
    let few = (within 0 32 n count k).1 in
    plain_bringing (addressed_block form opcode l n) (512 * n) (addressed_length form opcode l n) (omega arith) (a l n few)))

plain_verifying : (ws : List (List ℕ)) → IfOk (verifying_blocks ws) IsPlain
plain_verifying [] = tt
plain_verifying (lba ∷ []) = tt
plain_verifying (lba ∷ count ∷ tail) =
    then_fits IsPlain (number 0 4294967295 lba) _ (λ l e. then_fits IsPlain (number 0 32 count) _ (λ n k. plain_bringing (addressed_block Ten 0x2F l n) 0 (addressed_length Ten 0x2F l n) (omega arith) (verifies l n)))

-- the bytes of a write are whole blocks, one to 32 of them
pub record AreBlocks (bytes : List ℕ) : Type 0 where
  pub whole : length bytes % 512 ≡ 0
  pub some : 512 ≤ length bytes
  pub few : length bytes ≤ 16384

pub are_blocks : (ps : List (List ℕ)) (bytes : List ℕ) → bytes_of ps ≡ Ok bytes → AreBlocks bytes
are_blocks ps bytes e =
    let all = flat_map piece_bytes ps in
    let c = chosen_is (list_all has_count ps && is_whole (length all)) all bytes faults.Range e in
    let whole = (both (list_all has_count ps) (is_whole (length all)) c.0).1 in
    let parts = both (length all % 512 == 0 && nat_le 512 (length all)) (nat_le (length all) 16384) whole in
    let blocks = both (length all % 512 == 0) (nat_le 512 (length all)) parts.0 in
    subst AreBlocks c.1 (record { whole = eqb-true (length all % 512) 0 blocks.0; some = leb-true 512 (length all) blocks.1; few = leb-true (length all) 16384 parts.1 })

plain_writing : (form : Form) (opcode : ℕ) (ws : List (List ℕ)) → ((is_bay : Bool) (lba count : ℕ) → count ≤ 32 → data_length_of is_bay (addressed_block form opcode lba count) ≡ 512 * count) → IfOk (writing_blocks form opcode ws) IsPlain
plain_writing form opcode [] d = tt
plain_writing form opcode (lba ∷ []) d = tt
plain_writing form opcode (lba ∷ content ∷ tail) d =
    then_fits IsPlain (number 0 4294967295 lba) _ (λ l e. then_fits IsPlain (bytes_of (pieces content)) _ (λ bytes k.
    let b = are_blocks (pieces content) bytes k in
    let few = b.few in
    record {
      block = addressed_length form opcode l _;
      short = b.few;
      payload = omega arith;
      fills = λ t. refl;
      brought = λ is_bay t. d is_bay l (length bytes / 512) (omega arith) ∙ blocks_in (length bytes) b.whole;
      answered = λ is_bay t. absurd (cc t);
    }))

plain_block_fits : (opcode fourth len : ℕ) → len ≤ 16384 → IsAnswered (plain_block opcode fourth) len → IsPlain (bringing (plain_block opcode fourth) len)
plain_block_fits opcode fourth len few a = plain_bringing (plain_block opcode fourth) len refl few a

plain_command : (verb : Verb) (ws : List (List ℕ)) → IfOk (command verb ws) IsPlain
plain_command verbs.Ready ws = plain_block_fits 0x00 0 0 (omega arith) tests_ready
plain_command verbs.Inquiry ws = plain_block_fits 0x12 36 36 (omega arith) inquires
plain_command verbs.Start ws = plain_block_fits 0x1B 1 0 (omega arith) starts
plain_command verbs.Stop ws = plain_block_fits 0x1B 0 0 (omega arith) stops
plain_command verbs.Eject ws = plain_block_fits 0x1B 2 0 (omega arith) ejects
plain_command verbs.Load ws = plain_block_fits 0x1B 3 0 (omega arith) loads
plain_command verbs.Prevent ws = plain_block_fits 0x1E 1 0 (omega arith) prevents
plain_command verbs.Allow ws = plain_block_fits 0x1E 0 0 (omega arith) allows
plain_command verbs.Capacity ws = plain_block_fits 0x25 0 8 (omega arith) tells_capacity
plain_command verbs.Sync ws = plain_block_fits 0x35 0 0 (omega arith) synchronizes
plain_command verbs.Read ws = plain_reading Ten 0x28 ws reads_ten
plain_command verbs.Read12 ws = plain_reading Twelve 0xA8 ws reads_twelve
plain_command verbs.Verify ws = plain_verifying ws
plain_command verbs.Write ws = plain_writing Ten 0x2A ws writes_ten
plain_command verbs.Write12 ws = plain_writing Twelve 0xAA ws writes_twelve

-- segments that are given: 64 at most, and together they are the buffer
record AreSegments (total : ℕ) (segs : List ℕ) : Type 0 where
  few : length segs ≤ 64
  whole : sum segs ≤ total
  sums : 0 < length segs → sum segs ≡ total

summing_fits : (total : ℕ) (lens : List ℕ) → length lens ≤ 64 → IfOk (summing total lens) (AreSegments total)
summing_fits total lens few =
    elim (sum lens == total) as (λ t. (sum lens == total) ≡ t → IfOk (cond t (Ok lens) (Err faults.Range)) (AreSegments total)) [
      | true ↦ λ e. let same : sum lens ≡ total = eqb-true (sum lens) total e in record { few = few; whole = omega arith; sums = λ t. same }
      | false ↦ λ e. tt
    ] refl

numbers_length : (low high : ℕ) (ws : List (List ℕ)) (lens : List ℕ) → numbers low high ws ≡ Ok lens → length lens ≡ length ws
numbers_length low high ws lens e =
    let c = chosen_is (list_all (is_between low high) ws) (map value ws) lens faults.Range e in
    sym (ap length c.1) ∙ length-map ws value

segments_fit : (total : ℕ) (word : List ℕ) → IfOk (segments_of total word) (AreSegments total)
segments_fit total word =
    elim (nat_le (length (lengths word)) 64) as (λ t. nat_le (length (lengths word)) 64 ≡ t → IfOk (cond t (numbers 1 16384 (lengths word) >>= summing total) (Err faults.Range)) (AreSegments total)) [
      | true ↦ λ e. then_fits (AreSegments total) (numbers 1 16384 (lengths word)) (summing total) (λ lens k.
          let n = numbers_length 1 16384 (lengths word) lens k in
          let m = leb-true (length (lengths word)) 64 e in
          summing_fits total lens (omega arith))
      | false ↦ λ e. tt
    ] refl

maybe_segments : (total : ℕ) (word : Option (List ℕ)) → IfOk (segments total word) (AreSegments total)
maybe_segments total None = record { few = omega arith; whole = omega arith; sums = λ t. absurd (omega arith) }
maybe_segments total (Some word) = segments_fit total word

pub max_payload_fits : (word : Option (List ℕ)) (most : ℕ) → max_payload word ≡ Ok most → most ≤ 9
max_payload_fits None most e = let same : 9 ≡ most = cc e in omega arith
max_payload_fits (Some word) most e = (within 0 9 most word e).1

command_is : (cmd : Cmd) (segs : List ℕ) (most : ℕ) → IsPlain cmd → AreSegments cmd.length segs → most ≤ 9 → IsCommand (record cmd { segments = segs; max_payload = most })
command_is cmd segs most p s few = λ node login. record {
  cdb = p.block;
  short = p.short;
  payload = p.payload;
  segments = s.few;
  whole = s.whole;
  max_payload = omega arith;
}

-- it is a command that fills its buffer
abbrev FitsBuffer : Cmd → Type 0
FitsBuffer cmd = IsCommand cmd × FillsBuffer cmd

end_fits : (ws : List (List ℕ)) (cmd : Cmd) → IsPlain cmd → IfOk (with_end ws cmd) FitsBuffer
end_fits ws cmd p =
    then_segments (segments cmd.length (behind Seg ws)) (maybe_segments cmd.length (behind Seg ws))
  where
    then_segments : (r : Result (List ℕ) LineFault) → IfOk r (AreSegments cmd.length) → IfOk (r >>= λ segs. max_payload (behind Pay ws) >>= λ most. Ok (record cmd { segments = segs; max_payload = most })) FitsBuffer
    then_segments (Ok segs) s =
        then_fits FitsBuffer (max_payload (behind Pay ws)) _ (λ most k. (command_is cmd segs most p s (max_payload_fits (behind Pay ws) most k), record { payload = p.fills; segments = s.sums; brought = p.brought; answered = p.answered }))
    then_segments (Err fault) s = tt

cmd_fits : (verb : Option Verb) (ws : List (List ℕ)) → IfOk (cmd_of verb ws) FitsBuffer
cmd_fits None ws = tt
cmd_fits (Some verb) ws = then_command (command verb ws) (plain_command verb ws)
  where
    then_command : (r : Result Cmd LineFault) → IfOk r IsPlain → IfOk (r >>= with_end ws) FitsBuffer
    then_command (Ok cmd) p = end_fits ws cmd p
    then_command (Err fault) p = tt

-- ---- the IDs of a reset

numbers_small : (low high : ℕ) (ws : List (List ℕ)) (ids : List ℕ) → numbers low high ws ≡ Ok ids → AreAtMost high ids
numbers_small low high ws ids e =
    let c = chosen_is (list_all (is_between low high) ws) (map value ws) ids faults.Range e in
    subst (AreAtMost high) c.1 (each ws c.0)
  where
    each : (words : List (List ℕ)) → list_all (is_between low high) words ≡ true → AreAtMost high (map value words)
    each [] all i there = absurd (omega arith)
    each (word ∷ words) all zero there =
        let first = (both (is_between low high word) (list_all (is_between low high) words) all).0 in
        leb-true (value word) high (both (nat_le low (value word)) (nat_le (value word) high) first).1
    each (word ∷ words) all (suc i) there = each words (both (is_between low high word) (list_all (is_between low high) words) all).1 i (omega arith)

-- ---- events

-- an event that names an initiator there is; the IDs of a reset are physical ones, and a command fills its buffer
abbrev Fits : ℕ → Event → Type 0
Fits n event = names_none n event ≡ false → IsEvent event n × HasOwn event

turned : (b : Bool) → not b ≡ false → b ≡ true
turned true e = refl
turned false e = absurd (cc e)

named : (i n : ℕ) → not (nat_lt i n) ≡ false → i < n
named i n e = ltb-true i n (turned (nat_lt i n) e)

abbrev FitsAction : Action → Type 0
FitsAction action = IsAction action × FillsAction action

action_fits : (act : Act) → FitsAction (action_of act)
action_fits acts.Rom = (tt, tt)
action_fits acts.Reconnect = (tt, tt)
action_fits acts.Logout = (tt, tt)
action_fits acts.AbortSet = (tt, tt)
action_fits acts.UnitReset = (tt, tt)
action_fits acts.TargetReset = (tt, tt)
action_fits acts.AgentReset = (tt, tt)
action_fits acts.State = (tt, tt)
action_fits acts.Enable = (tt, tt)
action_fits acts.Low = (tt, tt)
action_fits acts.Link = (tt, tt)
action_fits acts.Ring = (tt, tt)

orb_fits : (act : OrbAct) (orb : ℕ) → FitsAction (orb_action act orb)
orb_fits orb_acts.Abort orb = (tt, tt)
orb_fits orb_acts.Dummy orb = (tt, tt)

placed_fits : (placing : Placing) (cmd : Cmd) → FitsBuffer cmd → FitsAction (placed placing cmd)
placed_fits placings.Put cmd h = h
placed_fits placings.Append cmd h = h

fate_fits : (fate : Fate) (serial n : ℕ) → Fits n (fated fate serial)
fate_fits fates.Deliver serial n = λ e. (tt, tt)
fate_fits fates.Repeat serial n = λ e. (tt, tt)
fate_fits fates.Lose serial n = λ e. (tt, tt)
fate_fits fates.Timeout serial n = λ e. (tt, tt)

act_fits : (n i : ℕ) (action : Action) → FitsAction action → Fits n (events.Act i action)
act_fits n i action h = λ e. ((named i n e, h.0), h.1)

row_act : (n : ℕ) (act : Act) (ws : List (List ℕ)) → IfOk (event_of (rows.Act act) ws) (Fits n)
row_act n act [] = tt
row_act n act (i ∷ []) = then_fits (Fits n) (number 0 3 i) _ (λ k e. act_fits n k (action_of act) (action_fits act))
row_act n act (i ∷ j ∷ ws) = tt

row_login : (n : ℕ) (ws : List (List ℕ)) → IfOk (event_of rows.Login ws) (Fits n)
row_login n [] = tt
row_login n (i ∷ []) = tt
row_login n (i ∷ u ∷ []) = tt
row_login n (i ∷ u ∷ r ∷ options) =
    then_fits (Fits n) (number 0 3 i) _ (λ a e. then_fits (Fits n) (number 0 3 u) _ (λ b f. then_fits (Fits n) (number 0 15 r) _ (λ c g.
    let few = (within 0 15 c r g).1 in let below : c < 2 ^ 4 = omega arith in let unit = (within 0 3 b u f).1 in let named : b < 4 = omega (arith, unit) in act_fits n a (actions.Login b c (is_exclusive options) (password options)) (below, named))))

row_query : (n : ℕ) (ws : List (List ℕ)) → IfOk (event_of rows.Query ws) (Fits n)
row_query n [] = tt
row_query n (i ∷ []) = tt
row_query n (i ∷ u ∷ []) = then_fits (Fits n) (number 0 3 i) _ (λ a e. then_fits (Fits n) (number 0 3 u) _ (λ b f. let unit = (within 0 3 b u f).1 in let named : b < 4 = omega (arith, unit) in act_fits n a (actions.Query b) (tt, named)))
row_query n (i ∷ u ∷ w ∷ ws) = tt

row_orb : (n : ℕ) (act : OrbAct) (ws : List (List ℕ)) → IfOk (event_of (rows.OnOrb act) ws) (Fits n)
row_orb n act [] = tt
row_orb n act (i ∷ []) = tt
row_orb n act (i ∷ k ∷ []) = then_fits (Fits n) (number 0 3 i) _ (λ a e. then_fits (Fits n) (number 0 65535 k) _ (λ b f. act_fits n a _ (orb_fits act b)))
row_orb n act (i ∷ k ∷ w ∷ ws) = tt

row_command : (n : ℕ) (placing : Placing) (ws : List (List ℕ)) → IfOk (event_of (rows.Command placing) ws) (Fits n)
row_command n placing [] = tt
row_command n placing (i ∷ []) = tt
row_command n placing (i ∷ verb ∷ ws) = then_fits (Fits n) (number 0 3 i) _ (λ a e. then_cmd a (cmd_of (verb_of verb) ws) (cmd_fits (verb_of verb) ws))
  where
    then_cmd : (a : ℕ) (r : Result Cmd LineFault) → IfOk r FitsBuffer → IfOk (r >>= λ cmd. Ok (events.Act a (placed placing cmd))) (Fits n)
    then_cmd a (Ok cmd) h = act_fits n a _ (placed_fits placing cmd h)
    then_cmd a (Err fault) h = tt

numbers_in : (n : ℕ) (ws : List (List ℕ)) → take_all (replicate n Number) ws ≡ true → length ws ≡ n
numbers_in zero [] e = refl
numbers_in zero (w ∷ ws) e = absurd (cc e)
numbers_in (suc n) [] e = absurd (cc e)
numbers_in (suc n) (w ∷ ws) e = ap suc (numbers_in n ws (both (takes Number w) (take_all (replicate n Number) ws) e).1)

or_none : (a : Bool) → (a || false) ≡ true → a ≡ true
or_none true e = refl
or_none false e = e

reset_length : (n : ℕ) (ws : List (List ℕ)) → has_shape rows.Reset n ws ≡ true → length ws ≡ n + 1
reset_length n ws e =
    let all : take_all (replicate (suc n) Number) ws ≡ true = subst (λ cs. take_all cs ws ≡ true) (append-nil (replicate (suc n) Number)) (or_none _ e) in
    let count = numbers_in (suc n) ws all in omega arith

row_reset : (n : ℕ) (ws : List (List ℕ)) → has_shape rows.Reset n ws ≡ true → IfOk (event_of rows.Reset ws) (Fits n)
row_reset n ws h = then_fits (Fits n) (numbers 0 62 ws) reset (λ ids e. differ ids (all_differ ids) refl (numbers_length 0 62 ws ids e ∙ reset_length n ws h) (numbers_small 0 62 ws ids e))
  where
    differ : (ids : List ℕ) (t : Bool) → t ≡ all_differ ids → length ids ≡ n + 1 → AreAtMost 62 ids → IfOk (cond t (Ok (events.Reset ids)) (Err faults.Range)) (Fits n)
    differ ids true e count small = λ names. (count, record { small = small; apart = ids_apart ids (sym e) })
    differ ids false e count small = tt

see_fits : (n node : ℕ) → Fits n (events.See node)
see_fits n node = λ e. (ltb-false n node e, tt)

row_see : (n : ℕ) (ws : List (List ℕ)) → IfOk (event_of rows.See ws) (Fits n)
row_see n [] = tt
row_see n (node ∷ []) =
    elim (bytes_eq node (codes "t")) as (λ t. IfOk (cond t (Ok (events.See 0)) (number 0 3 node >>= λ i. Ok (events.See (i + 1)))) (Fits n)) [
      | true ↦ see_fits n 0
      | false ↦ then_fits (Fits n) (number 0 3 node) _ (λ i e. see_fits n (i + 1))
    ]
row_see n (node ∷ w ∷ ws) = tt

row_key : (n : ℕ) (ws : List (List ℕ)) → IfOk (event_of rows.Key ws) (Fits n)
row_key n [] = tt
row_key n (u ∷ []) = tt
row_key n (u ∷ key ∷ []) = then_fits (Fits n) (number 0 3 u) _ (λ k e. λ names. (tt, tt))
row_key n (u ∷ key ∷ w ∷ ws) = tt

row_fate : (n : ℕ) (fate : Fate) (ws : List (List ℕ)) → IfOk (event_of (rows.Fate fate) ws) (Fits n)
row_fate n fate [] = tt
row_fate n fate (s ∷ []) = then_fits (Fits n) (number 1 4294967295 s) _ (λ k e. fate_fits fate k n)
row_fate n fate (s ∷ w ∷ ws) = tt

row_step : (n : ℕ) (ws : List (List ℕ)) → IfOk (event_of rows.Step ws) (Fits n)
row_step n [] = tt
row_step n (k ∷ []) = then_fits (Fits n) (number 1 10000 k) _ (λ c e. λ names. (tt, tt))
row_step n (k ∷ w ∷ ws) = tt

row_settle : (n : ℕ) (ws : List (List ℕ)) → IfOk (event_of rows.Settle ws) (Fits n)
row_settle n [] = λ names. (tt, tt)
row_settle n (w ∷ ws) = tt

row_tick : (n : ℕ) (ws : List (List ℕ)) → IfOk (event_of rows.Tick ws) (Fits n)
row_tick n [] = λ names. (tt, tt)
row_tick n (w ∷ ws) = tt

row_inject : (n : ℕ) (ws : List (List ℕ)) → IfOk (event_of rows.Inject ws) (Fits n)
row_inject n [] = tt
row_inject n (i ∷ []) = tt
row_inject n (i ∷ word ∷ []) = then_fits (Fits n) (number 0 3 i) _ (λ k e. sized k (nat_le 8 (length word) && nat_le (length word) 4128))
  where
    sized : (k : ℕ) (t : Bool) → IfOk (cond t (Ok (events.Inject k (hex_bytes word))) (Err faults.Range)) (Fits n)
    sized k true = λ names. (named k n names, tt)
    sized k false = tt
row_inject n (i ∷ word ∷ w ∷ ws) = tt

row_fits : (r : Row) (n : ℕ) (ws : List (List ℕ)) → is_begin r ≡ false → has_shape r n ws ≡ true → IfOk (event_of r ws) (Fits n)
row_fits rows.Begin n ws b h = absurd (cc b)
row_fits (rows.Act act) n ws b h = row_act n act ws
row_fits rows.Login n ws b h = row_login n ws
row_fits rows.Query n ws b h = row_query n ws
row_fits (rows.OnOrb act) n ws b h = row_orb n act ws
row_fits (rows.Command placing) n ws b h = row_command n placing ws
row_fits rows.Reset n ws b h = row_reset n ws h
row_fits rows.See n ws b h = row_see n ws
row_fits rows.Key n ws b h = row_key n ws
row_fits (rows.Fate fate) n ws b h = row_fate n fate ws
row_fits rows.Step n ws b h = row_step n ws
row_fits rows.Settle n ws b h = row_settle n ws
row_fits rows.Tick n ws b h = row_tick n ws
row_fits rows.Inject n ws b h = row_inject n ws

row_begins : (r : Row) (ws : List (List ℕ)) → is_begin r ≡ true → IfOk (event_of r ws) IsBeginning
row_begins rows.Begin [] b = tt
row_begins rows.Begin (i ∷ []) b = tt
row_begins rows.Begin (i ∷ mode ∷ []) b = then_fits IsBeginning (number 1 4 i) _ (λ k e. within 1 4 k i e)
row_begins rows.Begin (i ∷ mode ∷ w ∷ ws) b = tt
row_begins (rows.Act act) ws b = absurd (cc b)
row_begins rows.Login ws b = absurd (cc b)
row_begins rows.Query ws b = absurd (cc b)
row_begins (rows.OnOrb act) ws b = absurd (cc b)
row_begins (rows.Command placing) ws b = absurd (cc b)
row_begins rows.Reset ws b = absurd (cc b)
row_begins rows.See ws b = absurd (cc b)
row_begins rows.Key ws b = absurd (cc b)
row_begins (rows.Fate fate) ws b = absurd (cc b)
row_begins rows.Step ws b = absurd (cc b)
row_begins rows.Settle ws b = absurd (cc b)
row_begins rows.Tick ws b = absurd (cc b)
row_begins rows.Inject ws b = absurd (cc b)

-- ---- lines

-- the row of a line that says an event, and that the line has none of the faults of its row
pub record Speaks (line : List ℕ) (n : ℕ) (event : Event) : Type 0 where
  pub r : Row
  pub place : is_out_of_place n r ≡ false
  pub shape : has_shape r n (arguments line) ≡ true
  pub names : names_none n event ≡ false
  pub is : event_of r (arguments line) ≡ Ok event

find_none : {A : Type 0} (p : A → Bool) (x : A) (xs : List A) → find p (x ∷ xs) ≡ None → (p x ≡ false) × (find p xs ≡ None)
find_none p x xs e = elim (p x) as (λ b. p x ≡ b → cond b (Some x) (find p xs) ≡ None → (p x ≡ false) × (find p xs ≡ None)) [
  | true ↦ λ t f. absurd (cc f)
  | false ↦ λ t f. (t, f)
] refl e

told_none : (fault : Option LineFault) (line : List ℕ) (event : Event) → told fault line ≡ Ok (Some event) → (fault ≡ None) × (event_at line ≡ Some event)
told_none None line event e = (refl, cc e)
told_none (Some fault) line event e = absurd (cc e)

event_is : (x : Result Event LineFault) (event : Event) → maybe_event x ≡ Some event → x ≡ Ok event
event_is (Ok y) event e = let same : y ≡ event = cc e in ap Ok same
event_is (Err fault) event e = absurd (cc e)

speaks_of : (line : List ℕ) (n : ℕ) (event : Event) (o : Option Row) → row_event o (arguments line) ≡ Some event → on_row o (is_out_of_place n) ≡ false
    → on_row o (λ r. not (has_shape r n (arguments line))) ≡ false → on_row o (λ r. event_names_none n (event_of r (arguments line))) ≡ false → Speaks line n event
speaks_of line n event None e p s m = absurd (cc e)
speaks_of line n event (Some r) e p s m =
    let is = event_is (event_of r (arguments line)) event e in
    record { r = r; place = p; shape = turned (has_shape r n (arguments line)) s; names = subst (λ x. event_names_none n x ≡ false) is m; is = is }

loud : (b : Bool) (event : Event) (x : Option Event) → cond b None x ≡ Some event → (b ≡ false) × (x ≡ Some event)
loud true event x e = absurd (cc e)
loud false event x e = (refl, e)

loud_test : (b t : Bool) → b ≡ false → (not b && t) ≡ false → t ≡ false
loud_test true t b e = absurd (cc b)
loud_test false t b e = e

pub says_so : (line : List ℕ) (n : ℕ) (event : Event) → reading line n ≡ Ok (Some event) → Speaks line n event
says_so line n event e =
    let t = told_none (find (has_fault line n) order) line event e in
    let l = loud (is_silent line) event (row_event (row line) (arguments line)) t.1 in
    let long = find_none (has_fault line n) faults.TooLong (faults.Byte ∷ faults.Unknown ∷ faults.Place ∷ faults.Shape ∷ faults.Range ∷ faults.NoInitiator ∷ []) t.0 in
    let byte = find_none (has_fault line n) faults.Byte (faults.Unknown ∷ faults.Place ∷ faults.Shape ∷ faults.Range ∷ faults.NoInitiator ∷ []) long.1 in
    let unknown = find_none (has_fault line n) faults.Unknown (faults.Place ∷ faults.Shape ∷ faults.Range ∷ faults.NoInitiator ∷ []) byte.1 in
    let place = find_none (has_fault line n) faults.Place (faults.Shape ∷ faults.Range ∷ faults.NoInitiator ∷ []) unknown.1 in
    let shape = find_none (has_fault line n) faults.Shape (faults.Range ∷ faults.NoInitiator ∷ []) place.1 in
    let range = find_none (has_fault line n) faults.Range (faults.NoInitiator ∷ []) shape.1 in
    let none = find_none (has_fault line n) faults.NoInitiator ([]) range.1 in
    speaks_of line n event (row line) l.1 (loud_test (is_silent line) _ l.0 place.0) (loud_test (is_silent line) _ l.0 shape.0) (loud_test (is_silent line) _ l.0 none.0)

goes_on : (n : ℕ) (r : Row) → 0 < n → is_out_of_place n r ≡ false → is_begin r ≡ false
goes_on n r some e = by_test (n == 0) refl e
  where
    by_test : (b : Bool) → (n == 0) ≡ b → cond b (not (is_begin r)) (is_begin r) ≡ false → is_begin r ≡ false
    by_test true t f = let none : n ≡ 0 = eqb-true n 0 t in absurd (omega arith)
    by_test false t f = f

fits_whole : (line : List ℕ) (n : ℕ) (event : Event) → 0 < n → reading line n ≡ Ok (Some event) → IsEvent event n × HasOwn event
fits_whole line n event some e =
    let s = says_so line n event e in
    subst (λ x. IfOk x (Fits n)) s.is (row_fits s.r n (arguments line) (goes_on n s.r some s.place) s.shape) s.names

-- a line of a run that has begun
pub line_fits : (line : List ℕ) (n : ℕ) (event : Event) → 0 < n → reading line n ≡ Ok (Some event) → IsEvent event n
line_fits line n event some e = (fits_whole line n event some e).0

-- its event is a line of the wire, where its bytes are bytes
pub line_is : (line : List ℕ) (n : ℕ) (event : Event) → 0 < n → reading line n ≡ Ok (Some event) → HasBytes event → IsLine event n
line_is line n event some e bytes =
    let f = fits_whole line n event some e in
    is_line event n f.0 f.1 bytes

-- a line that begins one
pub line_begins : (line : List ℕ) (event : Event) → reading line 0 ≡ Ok (Some event) → IsBeginning event
line_begins line event e =
    let s = says_so line 0 event e in
    subst (λ x. IfOk x IsBeginning) s.is (row_begins s.r (arguments line) (turned (is_begin s.r) s.place))
