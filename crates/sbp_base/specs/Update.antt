-- A function with another value at one argument: how a term of a run changes.
use Rattle.std.specs.Prelude.{ℕ, nat_eq, cond}

abbrev pub upd : {A : Type 0} → (ℕ → A) → ℕ → A → ℕ → A
upd f at value = λ i. cond (nat_eq i at) value (f i)

-- at two arguments, and at three
abbrev pub upd2 : {A : Type 0} → (ℕ → ℕ → A) → ℕ → ℕ → A → ℕ → ℕ → A
upd2 f at next value = λ i j. cond (nat_eq i at) (cond (nat_eq j next) value (f i j)) (f i j)

abbrev pub upd3 : {A : Type 0} → (ℕ → ℕ → ℕ → A) → ℕ → ℕ → ℕ → A → ℕ → ℕ → ℕ → A
upd3 f at next last value = λ i j k. cond (nat_eq i at) (cond (nat_eq j next) (cond (nat_eq k last) value (f i j k)) (f i j k)) (f i j k)
