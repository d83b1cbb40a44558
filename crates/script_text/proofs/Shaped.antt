-- Words of a row's shape are those that its event reads: what is left to find in them is a number out of its range, or a rule
-- on sums or lengths that is broken.
use Rattle.std.proofs.Common.{◌≡◌, ◌==◌, ◌&&◌, ◌||◌, ◌+◌, ℕ, suc, nat_le, Bool, true, false, cond, List, [], ◌∷◌, ◌++◌, map, sum, length, bytes_eq, codes, is_some, Option, Some, None, Result, Ok, Err, refl, sym, ap, ◌∙◌, arith}
use Rattle.std.specs.List.{list_all, flat_map}
use Rattle.sbp_journal.specs.declared.event.Cmd.{Cmd}
use Rattle.sbp_journal.specs.declared.event.Event.TheVariants as events
use Rattle.script_words.specs.declared.fault.LineFault.{LineFault}
use Rattle.script_words.specs.declared.fault.LineFault.TheVariants as faults
use Rattle.script_text.specs.declared.row.Row.{Row}
use Rattle.script_text.specs.declared.row.Row.TheVariants as rows
use Rattle.script_text.specs.declared.row.Placing.{Placing}
use Rattle.script_words.specs.declared.verb.Verb.{Verb}
use Rattle.script_words.specs.declared.verb.Verb.TheVariants as verbs
use Rattle.script_words.specs.declared.verb.Form.{Form}
use Rattle.script_words.specs.declared.verb.Form.TheVariants.{Ten, Twelve}
use Rattle.script_text.specs.declared.column.Column.{Column}
use Rattle.script_text.specs.declared.column.Column.TheVariants.{Number, Node, Mode, Key, Packet, VerbWord, Data}
use Rattle.script_words.specs.declared.fixed.FixedWord.TheVariants.{Seg, Pay}
use Rattle.script_words.specs.Words.{◌>>=◌, number, is_between, value, numbers, hex_bytes}
use Rattle.script_words.specs.Payload.{bytes_of, pieces, segments_of, summing, lengths, has_count, is_whole, piece_bytes}
use Rattle.script_words.specs.Verbs.{verb_of}
use Rattle.script_text.specs.Rows.{take_all, takes, are_shaped, has_shape, verb_columns, command_ends, login_ends}
use Rattle.script_words.specs.Commands.{command, reading_blocks, verifying_blocks, writing_blocks, with_end, segments, max_payload, behind, cmd_of}
use Rattle.script_text.specs.Line.{OnlyRange, event_of, reset, seen, injected, all_differ}
use Rattle.script_text.proofs.Shapes.{any_and}

-- the parts of a test
left : (a b : Bool) → (a && b) ≡ true → a ≡ true
left true b h = refl
left false b h = cc h

right : (a b : Bool) → (a && b) ≡ true → b ≡ true
right true b h = h
right false b h = cc h

chosen : {A : Type 0} (t : Bool) (a : A) → OnlyRange (cond t (Ok a) (Err faults.Range))
chosen true a = tt
chosen false a = refl

pub then_range : {A B : Type 0} (r : Result A LineFault) (f : A → Result B LineFault) → OnlyRange r → ((a : A) → OnlyRange (f a)) → OnlyRange (r >>= f)
then_range (Ok a) f h k = k a
then_range (Err fault) f h k = h

a_number : (low high : ℕ) (word : List ℕ) → OnlyRange (number low high word)
a_number low high word = chosen (is_between low high word) (value word)

-- words that the columns take and then some end, one by one
shaped_more : (tails : List (List Column)) (column : Column) (cs : List Column) (word : List ℕ) (ws : List (List ℕ)) → are_shaped tails (column ∷ cs) (word ∷ ws) ≡ true → are_shaped tails cs ws ≡ true
shaped_more tails column cs word ws h =
    right (takes column word) (are_shaped tails cs ws) (sym (any_and (takes column word) (λ tail. take_all (cs ++ tail) ws) tails) ∙ h)

shaped_first : (tails : List (List Column)) (column : Column) (cs : List Column) (word : List ℕ) (ws : List (List ℕ)) → are_shaped tails (column ∷ cs) (word ∷ ws) ≡ true → takes column word ≡ true
shaped_first tails column cs word ws h =
    left (takes column word) (are_shaped tails cs ws) (sym (any_and (takes column word) (λ tail. take_all (cs ++ tail) ws) tails) ∙ h)

-- ---- words in the number of their columns

or_none : (a : Bool) → (a || false) ≡ true → a ≡ true
or_none true h = refl
or_none false h = h

same_length : (cs : List Column) (ws : List (List ℕ)) → take_all cs ws ≡ true → length ws ≡ length cs
same_length [] [] h = refl
same_length [] (word ∷ ws) h = cc h
same_length (column ∷ cs) [] h = cc h
same_length (column ∷ cs) (word ∷ ws) h = ap suc (same_length cs ws (right (takes column word) (take_all cs ws) h))

at_none : (P : List (List ℕ) → Type 0) (ws : List (List ℕ)) → length ws ≡ 0 → P [] → P ws
at_none P [] h p = p
at_none P (a ∷ ws) h p = absurd (omega arith)

at_one : (P : List (List ℕ) → Type 0) (ws : List (List ℕ)) → length ws ≡ 1 → ((a : List ℕ) → P (a ∷ [])) → P ws
at_one P [] h p = absurd (omega arith)
at_one P (a ∷ []) h p = p a
at_one P (a ∷ b ∷ ws) h p = absurd (omega arith)

at_two : (P : List (List ℕ) → Type 0) (ws : List (List ℕ)) → length ws ≡ 2 → ((a b : List ℕ) → P (a ∷ b ∷ [])) → P ws
at_two P [] h p = absurd (omega arith)
at_two P (a ∷ []) h p = absurd (omega arith)
at_two P (a ∷ b ∷ []) h p = p a b
at_two P (a ∷ b ∷ c ∷ ws) h p = absurd (omega arith)

-- ---- commands

reading_range : (form : Form) (opcode : ℕ) (ws : List (List ℕ)) → are_shaped command_ends (Number ∷ Number ∷ []) ws ≡ true → OnlyRange (reading_blocks form opcode ws)
reading_range form opcode [] h = cc h
reading_range form opcode (lba ∷ []) h = cc (shaped_more command_ends Number (Number ∷ []) lba [] h)
reading_range form opcode (lba ∷ count ∷ tail) h = then_range (number 0 4294967295 lba) _ (a_number 0 4294967295 lba) (λ l. then_range (number 0 32 count) _ (a_number 0 32 count) (λ n. tt))

verifying_range : (ws : List (List ℕ)) → are_shaped command_ends (Number ∷ Number ∷ []) ws ≡ true → OnlyRange (verifying_blocks ws)
verifying_range [] h = cc h
verifying_range (lba ∷ []) h = cc (shaped_more command_ends Number (Number ∷ []) lba [] h)
verifying_range (lba ∷ count ∷ tail) h = then_range (number 0 4294967295 lba) _ (a_number 0 4294967295 lba) (λ l. then_range (number 0 32 count) _ (a_number 0 32 count) (λ n. tt))

bytes_range : (ps : List (List ℕ)) → OnlyRange (bytes_of ps)
bytes_range ps = chosen (list_all has_count ps && is_whole (length (flat_map piece_bytes ps))) (flat_map piece_bytes ps)

writing_range : (form : Form) (opcode : ℕ) (ws : List (List ℕ)) → are_shaped command_ends (Number ∷ Data ∷ []) ws ≡ true → OnlyRange (writing_blocks form opcode ws)
writing_range form opcode [] h = cc h
writing_range form opcode (lba ∷ []) h = cc (shaped_more command_ends Number (Data ∷ []) lba [] h)
writing_range form opcode (lba ∷ content ∷ tail) h = then_range (number 0 4294967295 lba) _ (a_number 0 4294967295 lba) (λ l. then_range (bytes_of (pieces content)) _ (bytes_range (pieces content)) (λ bytes. tt))

command_range : (verb : Verb) (ws : List (List ℕ)) → are_shaped command_ends (verb_columns (Some verb)) ws ≡ true → OnlyRange (command verb ws)
command_range verbs.Ready ws h = tt
command_range verbs.Inquiry ws h = tt
command_range verbs.Start ws h = tt
command_range verbs.Stop ws h = tt
command_range verbs.Eject ws h = tt
command_range verbs.Load ws h = tt
command_range verbs.Prevent ws h = tt
command_range verbs.Allow ws h = tt
command_range verbs.Capacity ws h = tt
command_range verbs.Sync ws h = tt
command_range verbs.Read ws h = reading_range Ten 0x28 ws h
command_range verbs.Read12 ws h = reading_range Twelve 0xA8 ws h
command_range verbs.Verify ws h = verifying_range ws h
command_range verbs.Write ws h = writing_range Ten 0x2A ws h
command_range verbs.Write12 ws h = writing_range Twelve 0xAA ws h

segments_of-range : (total : ℕ) (word : List ℕ) → OnlyRange (segments_of total word)
segments_of-range total word =
    elim (nat_le (length (lengths word)) 64) as (λ t. OnlyRange (cond t (numbers 1 16384 (lengths word) >>= summing total) (Err faults.Range))) [
      | true ↦ then_range (numbers 1 16384 (lengths word)) (summing total) (chosen (list_all (is_between 1 16384) (lengths word)) (map value (lengths word))) (λ lens. chosen (sum lens == total) lens)
      | false ↦ refl
    ]

segments-range : (total : ℕ) (word : Option (List ℕ)) → OnlyRange (segments total word)
segments-range total None = tt
segments-range total (Some word) = segments_of-range total word

max_payload-range : (word : Option (List ℕ)) → OnlyRange (max_payload word)
max_payload-range None = tt
max_payload-range (Some word) = a_number 0 9 word

with_end-range : (ws : List (List ℕ)) (cmd : Cmd) → OnlyRange (with_end ws cmd)
with_end-range ws cmd =
    then_range (segments cmd.length (behind Seg ws)) _ (segments-range cmd.length (behind Seg ws)) (λ segs. then_range (max_payload (behind Pay ws)) _ (max_payload-range (behind Pay ws)) (λ most. tt))

cmd_of-range : (verb : Option Verb) (ws : List (List ℕ)) → is_some verb ≡ true → are_shaped command_ends (verb_columns verb) ws ≡ true → OnlyRange (cmd_of verb ws)
cmd_of-range None ws some h = cc some
cmd_of-range (Some verb) ws some h = then_range (command verb ws) (with_end ws) (command_range verb ws h) (λ cmd. with_end-range ws cmd)

command_event : (placing : Placing) (initiators : ℕ) (ws : List (List ℕ)) → has_shape (rows.Command placing) initiators ws ≡ true → OnlyRange (event_of (rows.Command placing) ws)
command_event placing initiators [] h = cc h
command_event placing initiators (i ∷ []) h = cc (shaped_more command_ends Number (VerbWord ∷ verb_columns (verb_of [])) i [] h)
command_event placing initiators (i ∷ verb ∷ ws) h =
    let more = shaped_more command_ends Number (VerbWord ∷ verb_columns (verb_of verb)) i (verb ∷ ws) h in
    then_range (number 0 3 i) _ (a_number 0 3 i) (λ n.
    then_range (cmd_of (verb_of verb) ws) _
    (cmd_of-range (verb_of verb) ws (shaped_first command_ends VerbWord (verb_columns (verb_of verb)) verb ws more) (shaped_more command_ends VerbWord (verb_columns (verb_of verb)) verb ws more))
    (λ cmd. tt))

-- ---- the other rows

login_event : (initiators : ℕ) (ws : List (List ℕ)) → has_shape rows.Login initiators ws ≡ true → OnlyRange (event_of rows.Login ws)
login_event initiators [] h = cc h
login_event initiators (i ∷ []) h = cc (shaped_more login_ends Number (Number ∷ Number ∷ []) i [] h)
login_event initiators (i ∷ u ∷ []) h = cc (shaped_more login_ends Number (Number ∷ []) u [] (shaped_more login_ends Number (Number ∷ Number ∷ []) i (u ∷ []) h))
login_event initiators (i ∷ u ∷ r ∷ options) h = then_range (number 0 3 i) _ (a_number 0 3 i) (λ a. then_range (number 0 3 u) _ (a_number 0 3 u) (λ b. then_range (number 0 15 r) _ (a_number 0 15 r) (λ c. tt)))

seen_range : (node : List ℕ) → OnlyRange (seen node)
seen_range node =
    elim (bytes_eq node (codes "t")) as (λ t. OnlyRange (cond t (Ok (events.See 0)) (number 0 3 node >>= λ i. Ok (events.See (i + 1))))) [
      | true ↦ tt
      | false ↦ then_range (number 0 3 node) _ (a_number 0 3 node) (λ i. tt)
    ]

injected_range : (initiator : ℕ) (word : List ℕ) → OnlyRange (injected initiator word)
injected_range initiator word = chosen (nat_le 8 (length word) && nat_le (length word) 4128) (events.Inject initiator (hex_bytes word))

pub shaped : (r : Row) (initiators : ℕ) (ws : List (List ℕ)) → has_shape r initiators ws ≡ true → OnlyRange (event_of r ws)
shaped rows.Begin initiators ws h =
    at_two (λ v. OnlyRange (event_of rows.Begin v)) ws (same_length (Number ∷ Mode ∷ []) ws (or_none _ h)) (λ n mode. then_range (number 1 4 n) _ (a_number 1 4 n) (λ m. tt))
shaped (rows.Act act) initiators ws h =
    at_one (λ v. OnlyRange (event_of (rows.Act act) v)) ws (same_length (Number ∷ []) ws (or_none _ h)) (λ i. then_range (number 0 3 i) _ (a_number 0 3 i) (λ m. tt))
shaped rows.Login initiators ws h = login_event initiators ws h
shaped rows.Query initiators ws h =
    at_two (λ v. OnlyRange (event_of rows.Query v)) ws (same_length (Number ∷ Number ∷ []) ws (or_none _ h)) (λ i u. then_range (number 0 3 i) _ (a_number 0 3 i) (λ a. then_range (number 0 3 u) _ (a_number 0 3 u) (λ b. tt)))
shaped (rows.OnOrb act) initiators ws h =
    at_two (λ v. OnlyRange (event_of (rows.OnOrb act) v)) ws (same_length (Number ∷ Number ∷ []) ws (or_none _ h)) (λ i k. then_range (number 0 3 i) _ (a_number 0 3 i) (λ a. then_range (number 0 65535 k) _ (a_number 0 65535 k) (λ b. tt)))
shaped (rows.Command placing) initiators ws h = command_event placing initiators ws h
shaped rows.Reset initiators ws h =
    then_range (numbers 0 62 ws) reset (chosen (list_all (is_between 0 62) ws) (map value ws)) (λ ids. chosen (all_differ ids) (events.Reset ids))
shaped rows.See initiators ws h = at_one (λ v. OnlyRange (event_of rows.See v)) ws (same_length (Node ∷ []) ws (or_none _ h)) seen_range
shaped rows.Key initiators ws h =
    at_two (λ v. OnlyRange (event_of rows.Key v)) ws (same_length (Number ∷ Key ∷ []) ws (or_none _ h)) (λ u key. then_range (number 0 3 u) _ (a_number 0 3 u) (λ a. tt))
shaped (rows.Fate fate) initiators ws h =
    at_one (λ v. OnlyRange (event_of (rows.Fate fate) v)) ws (same_length (Number ∷ []) ws (or_none _ h)) (λ s. then_range (number 1 4294967295 s) _ (a_number 1 4294967295 s) (λ a. tt))
shaped rows.Step initiators ws h =
    at_one (λ v. OnlyRange (event_of rows.Step v)) ws (same_length (Number ∷ []) ws (or_none _ h)) (λ k. then_range (number 1 10000 k) _ (a_number 1 10000 k) (λ a. tt))
shaped rows.Settle initiators ws h = at_none (λ v. OnlyRange (event_of rows.Settle v)) ws (same_length [] ws (or_none _ h)) tt
shaped rows.Tick initiators ws h = at_none (λ v. OnlyRange (event_of rows.Tick v)) ws (same_length [] ws (or_none _ h)) tt
shaped rows.Inject initiators ws h =
    at_two (λ v. OnlyRange (event_of rows.Inject v)) ws (same_length (Number ∷ Packet ∷ []) ws (or_none _ h)) (λ i packet. then_range (number 0 3 i) _ (a_number 0 3 i) (λ a. injected_range a packet))
