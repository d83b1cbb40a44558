-- The words of the command line, and what is written where they are no row that is served.
use Rattle.std.proofs.Common.{◌≡◌, ◌∙◌, refl, sym, ap, ℕ, ◌<◌, ◌≤◌, Bool, true, List, [], ◌∷◌, length, get_or, map, Option, Err, arith}
use Rattle.std.proofs.lemmas.Slice.Eq.{bytes_eq-Decides}
use Rattle.std.specs.Str.{bytes_eq}
use Rattle.rbc_disk.specs.Disk.{Disk}
use Rattle.line_session.specs.Outside.{outside}
use Rattle.line_session.specs.Session.{WritesFront}
use Rattle.line_session.specs.declared.status.Status.{Status}
use Rattle.line_session.specs.declared.status.Status.TheVariants as statuses
use Rattle.sbp_command.specs.Headline.{UsageEnds, usage, status_of}

-- the usage line was written in part
pub usage_fails : {A : Type 0} (status : Status) (left : Option (List ℕ)) (reads : ℕ) (mid new : Option (List ℕ)) (some more : ℕ) (disks : List Disk) (faults : List ℕ)
    → WritesFront {A = A} mid new some more (Err status) usage → UsageEnds (status_of status) (outside left reads mid some disks faults) (outside left reads new more disks faults)
usage_fails statuses.WriteFault left reads mid new some more disks faults w = (w.ends, (record { left = refl; reads = refl; media = refl }, (w.len, w.written)))
usage_fails statuses.NoMemory left reads mid new some more disks faults w = (record { reads = refl; writes = w.ends }, (record { left = refl; reads = refl; media = refl }, (w.len, w.written)))
usage_fails statuses.Done left reads mid new some more disks faults w = absurd w.ends
usage_fails statuses.Script left reads mid new some more disks faults w = absurd w.ends
usage_fails statuses.ReadFault left reads mid new some more disks faults w = absurd w.ends

-- one word
pub one_word : {A : Type 0} (f : A → List ℕ) (xs : List A) (x : A) → 1 ≤ length xs → length xs < 2 → x ≡ get_or xs 0 x → map f xs ≡ f x ∷ []
one_word f [] x some few e = absurd (omega arith)
one_word f (y ∷ []) x some few e = ap (λ z. f z ∷ []) (sym e)
one_word f (y ∷ z ∷ xs) x some few e = absurd (omega arith)

pub is_word : {A : Type 0} (f : A → List ℕ) (xs : List A) (x : A) (word read : List ℕ) (b : Bool) → 1 ≤ length xs → length xs < 2 → x ≡ get_or xs 0 x → read ≡ f x → b ≡ bytes_eq read word
    → (b ≡ true → map f xs ≡ word ∷ []) × (map f xs ≡ word ∷ [] → b ≡ true)
is_word f xs x word read b some few i r e =
    let one : map f xs ≡ f x ∷ [] = one_word f xs x some few i in
    let tests = bytes_eq-Decides read word in
    (λ t. one ∙ ap (λ w. w ∷ []) (sym r ∙ tests.0 (sym e ∙ t)), λ m. let same : f x ≡ word = cc in e ∙ tests.1 (r ∙ same))
