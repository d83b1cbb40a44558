-- The IDs of a reset are physical ones, and no two are the same; so an event whose bytes are below 256, and whose command fills its buffer, is a
-- line of the wire.
use Rattle.std.proofs.Common.{◌≡◌, ◌∙◌, refl, sym, ap, ℕ, zero, suc, ◌+◌, ◌<◌, ◌≤◌, ◌==◌, ◌&&◌, ◌||◌, Bool, true, false, not, List, [], ◌∷◌, length, slice_index_or, arith}
use Rattle.std.specs.List.{list_any}
use Rattle.std.proofs.lemmas.Bool.{eqb-false}
use Rattle.sbp_journal.specs.declared.event.Event.{Event}
use Rattle.sbp_journal.specs.declared.event.Event.TheVariants as events
use Rattle.script_text.specs.Line.{all_differ}
use Rattle.sbp_world.specs.Lines.{IsEvent}
use Rattle.sbp_world.specs.Wire.Lines.{FillsAction, IsLine}
use Rattle.script_runner.specs.Runner.{HasBytes}

-- each number is this one at most
abbrev pub AreAtMost : ℕ → List ℕ → Type 0
AreAtMost most ids = (i : ℕ) → i < length ids → slice_index_or ids i 0 ≤ most

-- no two are the same
abbrev pub AreApart : List ℕ → Type 0
AreApart ids = (i j : ℕ) → i < length ids → j < length ids → slice_index_or ids i 0 ≡ slice_index_or ids j 0 → i ≡ j

pub record ArePhysical (ids : List ℕ) : Type 0 where
  pub small : AreAtMost 62 ids
  pub apart : AreApart ids

-- the IDs of an event, if it is a reset, and the command, if it has one
abbrev pub HasOwn : Event → Type 0
HasOwn (events.Act initiator action) = FillsAction action
HasOwn (events.Reset ids) = ArePhysical ids
HasOwn _ = Unit {0}

neither : (a b : Bool) → (a || b) ≡ false → (a ≡ false) × (b ≡ false)
neither true b e = absurd (cc e)
neither false b e = (refl, e)

both_hold : (a b : Bool) → (not a && b) ≡ true → (a ≡ false) × (b ≡ true)
both_hold true b e = absurd (cc e)
both_hold false b e = (refl, e)

none_same : (n : ℕ) (ns : List ℕ) → list_any (λ other. other == n) ns ≡ false → (j : ℕ) → j < length ns → slice_index_or ns j 0 ≡ n → ⊥
none_same n [] e j there same = absurd (omega arith)
none_same n (m ∷ ns) e zero there same = eqb-false m n (neither (m == n) (list_any (λ other. other == n) ns) e).0 same
none_same n (m ∷ ns) e (suc j) there same = none_same n ns (neither (m == n) (list_any (λ other. other == n) ns) e).1 j (omega arith) same

pub ids_apart : (ids : List ℕ) → all_differ ids ≡ true → AreApart ids
ids_apart [] e i j here there same = absurd (omega arith)
ids_apart (n ∷ ns) e zero zero here there same = refl
ids_apart (n ∷ ns) e zero (suc j) here there same =
    absurd (none_same n ns (both_hold (list_any (λ other. other == n) ns) (all_differ ns) e).0 j (omega arith) (sym same))
ids_apart (n ∷ ns) e (suc i) zero here there same =
    absurd (none_same n ns (both_hold (list_any (λ other. other == n) ns) (all_differ ns) e).0 i (omega arith) same)
ids_apart (n ∷ ns) e (suc i) (suc j) here there same =
    ap suc (ids_apart ns (both_hold (list_any (λ other. other == n) ns) (all_differ ns) e).1 i j (omega arith) (omega arith) same)

-- ---- a line of the wire

pub is_line : (event : Event) (n : ℕ) → IsEvent event n → HasOwn event → HasBytes event → IsLine event n
is_line (events.Begin initiators ready) n h own bytes = absurd h
is_line (events.Act initiator action) n h own bytes = (h.0, bytes, h.1, own)
is_line (events.Reset ids) n h own bytes = record { count = h ∙ (let e : n + 1 ≡ suc n = omega arith in e); small = own.small; apart = own.apart }
is_line (events.See node) n h own bytes = h
is_line (events.Deliver serial) n h own bytes = tt
is_line (events.Repeat serial) n h own bytes = tt
is_line (events.Lose serial) n h own bytes = tt
is_line (events.Timeout serial) n h own bytes = tt
is_line (events.Step count) n h own bytes = tt
is_line events.Settle n h own bytes = tt
is_line events.Tick n h own bytes = tt
is_line (events.Inject initiator bytes) n h own small = (h, small)
is_line (events.Key unit key) n h own bytes = tt
