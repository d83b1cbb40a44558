-- The runs of some bytes are maximal, and no others are.
use Rattle.std.proofs.Common.{◌≡◌, ℕ, zero, suc, ◌+◌, ◌<◌, ◌==◌, Bool, true, false, cond, List, [], ◌∷◌, ◌++◌, replicate, refl, sym, ap, ◌∙◌, subst, arith}
use Rattle.std.specs.List.{flat_map}
use Rattle.std.proofs.lemmas.Bool.{eqb-true, eq-eqb}
use Rattle.std.proofs.lemmas.Bool.Decides.{nat_tests}
use Rattle.line_text.specs.Canonical.{Run, onto_runs, runs_of, run_bytes, BeginsOtherwise, AreMaximal, AreRunsOf}

-- a byte that differs from the first run begins a run of its own; one that does not lengthens it
onto_runs-apart : (byte : ℕ) (runs : List Run) → BeginsOtherwise byte runs → onto_runs byte runs ≡ record { byte = byte; count = 1 } ∷ runs
onto_runs-apart byte [] h = refl
onto_runs-apart byte (run ∷ runs) h = let e : (byte == run.byte) ≡ false = grind (arith, nat_tests) in rw e refl

onto_runs-longer : (byte count : ℕ) (runs : List Run) → onto_runs byte (record { byte = byte; count = count } ∷ runs) ≡ record { byte = byte; count = count + 1 } ∷ runs
onto_runs-longer byte count runs = rw (eq-eqb byte byte refl) refl

-- equal bytes before bytes that begin otherwise are one run
runs_of-equal : (byte count : ℕ) (bytes : List ℕ) (runs : List Run) → runs_of bytes ≡ runs → BeginsOtherwise byte runs → runs_of (replicate (suc count) byte ++ bytes) ≡ record { byte = byte; count = suc count } ∷ runs
runs_of-equal byte zero bytes runs e h = ap (onto_runs byte) e ∙ onto_runs-apart byte runs h
runs_of-equal byte (suc count) bytes runs e h =
    let more : suc count + 1 ≡ suc (suc count) = omega arith in
    ap (onto_runs byte) (runs_of-equal byte count bytes runs e h) ∙ onto_runs-longer byte (suc count) runs
    ∙ ap (λ n. record { byte = byte; count = n } ∷ runs) more

first_equal : (run : Run) (bytes : List ℕ) (runs : List Run) → 0 < run.count → runs_of bytes ≡ runs → BeginsOtherwise run.byte runs → runs_of (run_bytes run ++ bytes) ≡ run ∷ runs
first_equal run bytes runs some e h = by_count run.count refl
  where
    by_count : (n : ℕ) → run.count ≡ n → runs_of (run_bytes run ++ bytes) ≡ run ∷ runs
    by_count zero c = absurd (omega arith)
    by_count (suc n) c = rw c (runs_of-equal run.byte n bytes runs e h)

-- maximal runs are those of the bytes that they join to
only_runs : (runs : List Run) → AreMaximal runs → runs_of (flat_map run_bytes runs) ≡ runs
only_runs [] h = refl
only_runs (run ∷ runs) h = first_equal run (flat_map run_bytes runs) runs h.0 (only_runs runs h.2) h.1

-- the runs of some bytes join to them
onto_runs-join : (byte : ℕ) (runs : List Run) → flat_map run_bytes (onto_runs byte runs) ≡ byte ∷ flat_map run_bytes runs
onto_runs-join byte [] = refl
onto_runs-join byte (run ∷ runs) = by_test (byte == run.byte) refl
  where
    by_test : (b : Bool) → (byte == run.byte) ≡ b → flat_map run_bytes (cond b (record { byte = byte; count = run.count + 1 } ∷ runs) (record { byte = byte; count = 1 } ∷ run ∷ runs)) ≡ byte ∷ (run_bytes run ++ flat_map run_bytes runs)
    by_test true e =
        let more : run.count + 1 ≡ suc run.count = omega arith in
        let same : byte ≡ run.byte = eqb-true byte run.byte e in
        ap (λ n. replicate n byte ++ flat_map run_bytes runs) more ∙ ap (λ b. byte ∷ (replicate run.count b ++ flat_map run_bytes runs)) same
    by_test false e = refl

runs_of-join : (bytes : List ℕ) → flat_map run_bytes (runs_of bytes) ≡ bytes
runs_of-join [] = refl
runs_of-join (byte ∷ bytes) = onto_runs-join byte (runs_of bytes) ∙ ap (λ bs. byte ∷ bs) (runs_of-join bytes)

-- and are maximal
onto_runs-maximal : (byte : ℕ) (runs : List Run) → AreMaximal runs → AreMaximal (onto_runs byte runs)
onto_runs-maximal byte [] h = (omega arith, tt, tt)
onto_runs-maximal byte (run ∷ runs) h = by_test (byte == run.byte) refl
  where
    by_test : (b : Bool) → (byte == run.byte) ≡ b → AreMaximal (cond b (record { byte = byte; count = run.count + 1 } ∷ runs) (record { byte = byte; count = 1 } ∷ run ∷ runs))
    by_test true e = (omega arith, subst (λ b. BeginsOtherwise b runs) (sym (eqb-true byte run.byte e)) h.1, h.2)
    by_test false e = (omega arith, (grind (arith, nat_tests)), h)

runs_of-maximal : (bytes : List ℕ) → AreMaximal (runs_of bytes)
runs_of-maximal [] = tt
runs_of-maximal (byte ∷ bytes) = onto_runs-maximal byte (runs_of bytes) (runs_of-maximal bytes)

pub are_runs : (bytes : List ℕ) → AreRunsOf bytes (runs_of bytes)
are_runs bytes = record { join = runs_of-join bytes; maximal = runs_of-maximal bytes }

pub no_other_runs : (bytes : List ℕ) (runs : List Run) → AreRunsOf bytes runs → runs ≡ runs_of bytes
no_other_runs bytes runs h = sym (only_runs runs h.maximal) ∙ ap runs_of h.join
