-- The last line that writes a block, and the last ORB that does.
use Rattle.std.proofs.Common.{◌≡◌, ◌∙◌, refl, sym, ap, subst, ℕ, zero, suc, ◌==◌, ◌&&◌, Bool, true, false, cond, nat_eq, List, [], ◌∷◌, ◌++◌, map, reverse, Option, Some, None, arith}
use Rattle.std.specs.List.{AllByRecursion, count_by}
use Rattle.std.proofs.lemmas.Bool.Decides.{nat_tests}
use Rattle.std.proofs.lemmas.List.{reverse-reverse}
use Rattle.rbc_disk.specs.Disk.{Disk}
use Rattle.script_text.specs.Draws.{block_read, block_write}
use Rattle.sbp_journal.proofs.Each.{all_append}
use Rattle.sbp_journal.specs.Run.{Entry, Moment, asked, history, said}
use Rattle.sbp_journal.specs.declared.event.Cmd.{Cmd}
use Rattle.sbp_journal.specs.declared.event.Event.{Event}
use Rattle.sbp_journal.specs.declared.event.Event.TheVariants as events
use Rattle.sbp_journal.specs.declared.event.Action.TheVariants as actions
use Rattle.sbp_journal.specs.declared.note.Note.{Note}
use Rattle.sbp_journal.specs.declared.note.Note.TheVariants as notes
use Rattle.sbp_laws.specs.ActionLaw.{ActsOr, Brings, BringsEach}
use Rattle.sbp_laws.specs.Actions.{append_notes, buffer_of, link_notes, new_list, new_number, refusal_at}
use Rattle.sbp_laws.specs.Budget.{settle_deliveries}
use Rattle.sbp_laws.specs.Deliveries.{AreLowest, EndsSettle, is_effect}
use Rattle.sbp_laws.specs.Terms.{Request, appends, data_of, request_at}
use Rattle.sbp_laws.specs.Turns.{EachMoment, effects_of, sends_of}
use Rattle.drill_laws.specs.DrillBlocks.{last_of_its, last_write, or_written, writes_to}
use Rattle.drill_laws.specs.DrillCalm.{IsCalmAt}
use Rattle.drill_laws.specs.DrillLines.{AreDrillLines, IsDrillLine, is_refused}
use Rattle.drill_laws.specs.DrillSettles.{events_said}
use Rattle.drill_laws.specs.DrillTakings.{told_in}
use Rattle.drill_laws.specs.DrillWrites.{LinesWriteBlocks, last_line, line_written}
use Rattle.drill_laws.proofs.DrillBlocks.{last_same}
use Rattle.drill_laws.proofs.DrillCalm.{drills_are_calm}
use Rattle.drill_laws.proofs.DrillCounts.{counted-reverse, told_is, told_latest}
use Rattle.drill_laws.proofs.DrillHeld.{names_read, names_write, write_data}
use Rattle.drill_laws.proofs.DrillLists.{all_first, behind_calm, new_first}
use Rattle.drill_laws.proofs.DrillRung.{behind, behind-append, behind_latest}
use Rattle.drill_laws.proofs.DrillScripts.{said_with}

-- ---- notes that append nothing
abbrev is_other : Note → Bool
is_other (notes.Append i n k cdb buffer) = false
is_other _ = true

abbrev AreOther : List Note → Type 0
AreOther told = AllByRecursion (λ note. is_other note ≡ true) told

record IsSame (past later : List Moment) : Type 0 where
  appended : appends later ≡ appends past
  asks : request_at later ≡ request_at past

one_other : (note : Note) (past : List Moment) → is_other note ≡ true → IsSame past (said note ∷ past)
one_other (notes.Append i n k cdb buffer) past e = absurd (cc e)
one_other _ past e = record { appended = refl; asks = refl }

same_then : (a b c : List Moment) → IsSame a b → IsSame b c → IsSame a c
same_then a b c h k = record { appended = k.appended ∙ h.appended; asks = k.asks ∙ h.asks }

all_other : (past : List Moment) (told : List Note) → AreOther told → IsSame past (behind past told)
all_other past [] b = record { appended = refl; asks = refl }
all_other past (note ∷ told) b = same_then past (said note ∷ past) (behind (said note ∷ past) told) (one_other note past b.0) (all_other (said note ∷ past) told b.1)

sends_other : (told : List Note) → AreOther (sends_of told)
sends_other [] = tt
sends_other (notes.Sent serial generation from to bytes ∷ rest) = (refl, sends_other rest)
sends_other (_ ∷ rest) = sends_other rest

links_other : (i n k : ℕ) → AreOther (link_notes i n k ++ notes.Rung i n k ∷ [])
links_other i n zero = (refl, tt)
links_other i n (suc k) = (refl, (refl, (refl, tt)))

effect_other : (note : Note) → is_effect note ≡ true → is_other note ≡ true
effect_other (notes.Append i n k cdb buffer) e = absurd (cc e)
effect_other _ e = refl

lowest_other : (past : List Moment) (told : List Note) → AreLowest past told → AreOther told
lowest_other past [] h = tt
lowest_other past (notes.Got serial ∷ rest) h = (refl, lowest_other _ rest h.1)
lowest_other past (notes.Ignored serial cause ∷ rest) h = (refl, lowest_other _ rest h.1)
lowest_other past (note ∷ rest) h = (effect_other note h.0, lowest_other _ rest h.1)

same_last : (past later : List Moment) (i block : ℕ) → IsSame past later → last_of_its later i block ≡ last_of_its past i block
same_last past later i block s = ap (λ (f : ℕ → ℕ → ℕ → Option Request). last_write (f i 0) block (appends later i 0)) s.asks ∙ ap (λ (f : ℕ → ℕ → ℕ). last_write (request_at past i 0) block (f i 0)) s.appended

-- ---- an append
append_last : (past : List Moment) (i n k : ℕ) (cmd : Cmd) → n ≡ 0 → k ≡ appends past i n → (j block : ℕ) → last_of_its (said (notes.Append i n k cmd.cdb (buffer_of cmd)) ∷ past) j block ≡ cond ((j == i) && writes_to block cmd.cdb) (Some (data_of (buffer_of cmd))) (last_of_its past j block)
append_last past i n k cmd list next j block = by (nat_eq j i) refl (nat_eq 0 n) refl
  where
    asks : Request
    asks = record { cdb = cmd.cdb; buffer = buffer_of cmd }

    -- the new one is behind the others
    own : k ≡ appends past i 0 → last_write (λ l. cond (nat_eq l k) (Some asks) (request_at past i 0 l)) block (suc (appends past i 0)) ≡ cond (writes_to block cmd.cdb) (Some (data_of (buffer_of cmd))) (last_of_its past i block)
    own e =
        let here : cond (nat_eq (appends past i 0) k) (Some asks) (request_at past i 0 (appends past i 0)) ≡ Some asks = ap (λ b. cond b (Some asks) (request_at past i 0 (appends past i 0))) (let same : nat_eq (appends past i 0) k ≡ true = grind (arith, nat_tests, e) in same) in
        ap (λ o. or_written block o (last_write (λ l. cond (nat_eq l k) (Some asks) (request_at past i 0 l)) block (appends past i 0))) here
        ∙ ap (or_written block (Some asks)) (last_same (λ l. cond (nat_eq l k) (Some asks) (request_at past i 0 l)) (request_at past i 0) block (appends past i 0)
        (λ l below. ap (λ b. cond b (Some asks) (request_at past i 0 l)) (let apart : nat_eq l k ≡ false = grind (arith, nat_tests, e, below) in apart)))

    by : (b : Bool) → nat_eq j i ≡ b → (c : Bool) → nat_eq 0 n ≡ c → last_write (λ l. cond b (cond c (cond (nat_eq l k) (Some asks) (request_at past j 0 l)) (request_at past j 0 l)) (request_at past j 0 l)) block (cond b (cond c (suc (appends past i n)) (appends past j 0)) (appends past j 0)) ≡ cond (b && writes_to block cmd.cdb) (Some (data_of (buffer_of cmd))) (last_of_its past j block)
    by true e true f =
        let at : j ≡ i = grind (arith, nat_tests) in
        subst (λ x. last_write (λ l. cond (nat_eq l k) (Some asks) (request_at past x 0 l)) block (suc (appends past i n)) ≡ cond (writes_to block cmd.cdb) (Some (data_of (buffer_of cmd))) (last_of_its past x block)) (sym at)
        (ap (λ m. last_write (λ l. cond (nat_eq l k) (Some asks) (request_at past i 0 l)) block (suc (appends past i m))) list ∙ own (next ∙ ap (appends past i) list))
    by true e false f = absurd (grind (arith, nat_tests))
    by false e c f = refl

-- ---- the lines
line_last : (disks : List Disk) (past : List Moment) (line : ℕ) (event : Event) (told : List Note) → IsDrillLine event → Brings disks past line event told → count_by is_refused told ≡ 0 → ((i : ℕ) → new_list past i ≡ 0) → (j block : ℕ) → last_of_its (behind (asked line event ∷ past) told) j block ≡ line_written j block event (last_of_its past j block)
line_last disks past line (events.Act i (actions.Append cmd)) told is h none new j block = by (refusal_at past i (actions.Append cmd)) h
  where
    event : Event
    event = events.Act i (actions.Append cmd)

    by : (refusal : Option ℕ) → ActsOr refusal past line i (actions.Append cmd) told → last_of_its (behind (asked line event ∷ past) told) j block ≡ line_written j block event (last_of_its past j block)
    by (Some number) e = absurd (let one : count_by is_refused (notes.Refused line number ∷ []) ≡ 0 = ap (count_by is_refused) (sym e) ∙ none in cc one)
    by None acts =
        let there : List Moment = asked line event ∷ past in
        let n = new_list past i in
        let k = new_number past i in
        let first : List Moment = said (notes.Append i n k cmd.cdb (buffer_of cmd)) ∷ there in
        let split : behind there told ≡ behind (behind there (append_notes i n k cmd)) (sends_of told)
        = ap (behind there) acts.first ∙ behind-append there (effects_of told) (sends_of told) ∙ ap (λ ns. behind (behind there ns) (sends_of told)) acts.effects in
        ap (λ ms. last_of_its ms j block) split
        ∙ same_last first _ j block (same_then first (behind there (append_notes i n k cmd)) _ (all_other first (link_notes i n k ++ notes.Rung i n k ∷ []) (links_other i n k)) (all_other _ (sends_of told) (sends_other told)))
        ∙ append_last there i n k cmd (new i) refl j block
line_last disks past line events.Settle told is h none new j block =
    let other = subst AreOther (sym h.is) (all_append (λ note. is_other note ≡ true) h.before (h.last ∷ []) (lowest_other _ h.before h.delivers.lowest) (last_other (asked line events.Settle ∷ past) (settle_deliveries (asked line events.Settle ∷ past)) h.before h.last h.ends, tt)) in
    same_last (asked line events.Settle ∷ past) _ j block (all_other (asked line events.Settle ∷ past) told other)
  where
    last_other : (earlier : List Moment) (most : ℕ) (ns : List Note) (note : Note) → EndsSettle earlier most ns note → is_other note ≡ true
    last_other earlier most ns notes.Settled h = refl
    last_other earlier most ns notes.Stopped h = refl
    last_other earlier most ns _ h = absurd h
line_last disks past line _ told is h none new j block = absurd is

last_line-append : (i block : ℕ) (before : Option (List ℕ)) (xs : List Event) (event : Event) → last_line i block before (xs ++ event ∷ []) ≡ line_written i block event (last_line i block before xs)
last_line-append i block before [] event = refl
last_line-append i block before (x ∷ xs) event = last_line-append i block (line_written i block x before) xs event

all_lines : (disks : List Disk) (entries : List Entry) → BringsEach disks entries → AreDrillLines entries → EachMoment IsCalmAt (history entries) → told_in is_refused (history entries) ≡ 0 → (i block : ℕ) → last_of_its (history entries) i block ≡ last_line i block None (events_said entries)
all_lines disks [] h are calm none i block = absurd are
all_lines disks (entry ∷ []) h are calm none i block =
    let told : reverse entry.notes ≡ notes.Begin 2 true ∷ [] = subst (λ e. Brings disks [] entry.line e (reverse entry.notes)) are h.0 in
    let is : entry.notes ≡ notes.Begin 2 true ∷ [] = sym (reverse-reverse entry.notes) ∙ ap reverse told in
    ap (λ ns. last_of_its (map said ns ++ asked entry.line entry.event ∷ []) i block) is ∙ sym (ap (λ e. line_written i block e None) are)
all_lines disks (entry ∷ next ∷ before) h are calm none i block =
    let past : List Moment = history (next ∷ before) in
    let there : List Moment = asked entry.line entry.event ∷ past in
    let calm_before = (behind_calm entry.notes there calm).1 in
    let split = told_latest is_refused entry.notes there in
    let back = counted-reverse is_refused entry.notes in
    let none_here : count_by is_refused (reverse entry.notes) ≡ 0 = omega (arith, none, split, back) in
    let none_before : told_in is_refused past ≡ 0 = omega (arith, none, split) in
    let new = new_first past (all_first disks (next ∷ before) h.1 are.1 calm_before) calm_before in
    ap (λ ms. last_of_its ms i block) (sym (behind_latest there entry.notes))
    ∙ line_last disks past entry.line entry.event (reverse entry.notes) are.0 h.0 none_here new i block
    ∙ ap (line_written i block entry.event) (all_lines disks (next ∷ before) h.1 are.1 calm_before none_before i block)
    ∙ sym (ap (last_line i block None) (said_with entry (next ∷ before)) ∙ last_line-append i block None (events_said (next ∷ before)) entry.event)

pub lines_write_blocks : LinesWriteBlocks
lines_write_blocks = record {
  lines = λ disks entries lawful none i block. all_lines disks entries lawful.run.brings lawful.run.lines (drills_are_calm disks entries lawful).calm (told_is is_refused entries ∙ none) i block;
  whole = record {
    block = λ lba byte block few. names_write (block_write lba byte) lba byte block few refl;
    brought = write_data;
    none_read = λ lba block few. names_read (block_read lba) lba block few refl;
  };
}
