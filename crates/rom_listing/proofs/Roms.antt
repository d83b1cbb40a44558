-- The quadlets of lines grow by a line.
use Rattle.std.proofs.Common.{◌≡◌, ◌∙◌, refl, sym, ap, ℕ, suc, ◌+◌, ◌≤◌, nat_lt, Bool, true, false, if◌then◌else◌, List, [], ◌∷◌, ◌++◌, length, Result, Ok, Err, add-zero, arith}
use Rattle.std.specs.Prelude.{OnErr}
use Rattle.std.proofs.lemmas.Bool.{le-ltb}
use Rattle.rbc_disk.specs.Held.{Held}
use Rattle.line_session.specs.Lines.{too_many, too_long}
use Rattle.line_session.specs.Meaning.{Serves}
use Rattle.line_session.specs.declared.serve.LineError.{LineError}
use Rattle.line_session.specs.declared.serve.LineError.TheVariants.{Fault, NoMemory}
use Rattle.line_text.specs.Digits.{spelled}
use Rattle.rom_listing.specs.RomListing.{onto_rom, rom_from, with_line, with_spelled}
use Rattle.rom_listing.specs.Meaning.{GatheredSo, RefusedSo, rom_meaning, Gathers}

onto-behind : (n : ℕ) (read : Result (List ℕ) ℕ) (rest : List ℕ → Result (List ℕ) (ℕ × ℕ)) (quads : List ℕ) → onto_rom n read rest ≡ Ok quads → (before : List ℕ) × (read ≡ Ok before) × (rest before ≡ Ok quads)
onto-behind n (Ok before) rest quads h = (before, refl, h)
onto-behind n (Err fault) rest quads h = cc h

-- behind lines without a fault the reading goes on
pub rom_from-append : (n : ℕ) (ls ms : List (List ℕ)) (first quads : List ℕ) → rom_from n ls first ≡ Ok quads → rom_from n (ls ++ ms) first ≡ rom_from (n + length ls) ms quads
rom_from-append n [] ms first quads h =
    let same : first ≡ quads = cc in
    ap (λ m. rom_from m ms first) (sym (add-zero n)) ∙ ap (rom_from (n + 0) ms) same
rom_from-append n (line ∷ ls) ms first quads h =
    let step = onto-behind n (with_line n first line) (rom_from (suc n) ls) quads h in
    let moved : suc n + length ls ≡ n + suc (length ls) = omega arith in
    ap (λ read. onto_rom n read (rom_from (suc n) (ls ++ ms))) step.1
    ∙ rom_from-append (suc n) ls ms step.0 quads step.2
    ∙ ap (λ m. rom_from m ms quads) moved

within_cases : (many long : Bool) (read : Result (List ℕ) ℕ) → many ≡ false → long ≡ false → (if many then Err too_many else if long then Err too_long else read) ≡ read
within_cases true long read m l = cc m
within_cases false true read m l = cc l
within_cases false false read m l = refl

-- a line within the limits is read by its digits alone
within : (n : ℕ) (quads line : List ℕ) → n ≤ 65536 → length line ≤ 8192 → with_line n quads line ≡ with_spelled quads (spelled line)
within n quads line few short = within_cases (nat_lt 65536 n) (nat_lt 8192 (length line)) (with_spelled quads (spelled line)) (le-ltb 65536 n few) (le-ltb 8192 (length line) short)

-- one more line
gathered_more : (served : List (List ℕ)) (line quads after : List ℕ) → rom_from 1 served [] ≡ Ok quads → with_line (1 + length served) quads line ≡ Ok after → rom_from 1 (served ++ line ∷ []) [] ≡ Ok after
gathered_more served line quads after h read = rom_from-append 1 served (line ∷ []) [] quads h ∙ ap (λ r. onto_rom (1 + length served) r (rom_from (suc (1 + length served)) [])) read

same_quads : (quads other : List ℕ) (read : Result (List ℕ) (ℕ × ℕ)) → read ≡ Ok quads → read ≡ Ok other → quads ≡ other
same_quads quads other read a b = cc

-- a line is served as its quadlets are gathered
pub gathers : (result : Result (Unit {0}) LineError) (number : ℕ) (line out old new : List ℕ) (start media : Held) (served : List (List ℕ)) (front : List ℕ)
    → number ≤ 65536 → length line ≤ 8192 → Gathers result (with_spelled old (spelled line)) new → OnErr result (new ≡ old) → number ≡ 1 + length served → GatheredSo start served (front ++ out) old media
    → Serves rom_meaning (RefusedSo served line) result start served line (front ++ out) new media media
gathers (Ok done) number line out old new start media served front few short t kept e h =
    record { read = gathered_more served line old new h.read (within (1 + length served) old line (omega arith) short ∙ t); silent = h.silent; kept = h.kept }
gathers (Err (Fault fault)) number line out old new start media served front few short t kept e h =
    (λ quads read. ap (λ q. with_line (1 + length served) q line) (same_quads quads old _ read h.read) ∙ within (1 + length served) old line (omega arith) short ∙ t, (old, h))
gathers (Err NoMemory) number line out old new start media served front few short t kept e h = refl
