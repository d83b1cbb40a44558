-- How many task places work an ORB.
use Rattle.std.proofs.Common.{◌≡◌, refl, ap, sym, ◌∙◌, ℕ, zero, suc, ◌<◌, ◌≤◌, Bool, true, false, cond, List, [], ◌∷◌, length, slice_set, arith}
use Rattle.std.specs.Prelude.{◌&&◌}
use Rattle.command_agent.specs.Machine.{Machine}
use Rattle.unordered_agent.specs.Machine.{agent_at, is_free, are_free, has_free}
use Rattle.unordered_agent.proofs.Places.{free_found}

abbrev pub busy_by : Bool → ℕ → ℕ
busy_by free n = cond free n (suc n)

abbrev pub busy : List Machine → ℕ
busy [] = 0
busy (task ∷ tasks) = busy_by (is_free task) (busy tasks)

more_by : (free : Bool) (n m : ℕ) → n ≡ suc m → busy_by free n ≡ suc (busy_by free m)
more_by true n m e = e
more_by false n m e = ap (λ (k : ℕ). suc k) e

-- an ORB takes a place
pub busy_taken : (tasks : List Machine) (place : ℕ) (task : Machine) → place < length tasks → is_free (agent_at tasks place) ≡ true → is_free task ≡ false → busy (slice_set tasks place task) ≡ suc (busy tasks)
busy_taken [] place task low e f = absurd (omega arith)
busy_taken (first ∷ tasks) zero task low e f = ap (λ (b : Bool). busy_by b (busy tasks)) f ∙ sym (ap (λ (b : Bool). suc (busy_by b (busy tasks))) e)
busy_taken (first ∷ tasks) (suc place) task low e f = more_by (is_free first) (busy (slice_set tasks place task)) (busy tasks) (busy_taken tasks place task (omega arith) e f)

-- one goes on
pub busy_same : (tasks : List Machine) (place : ℕ) (task : Machine) → is_free task ≡ is_free (agent_at tasks place) → busy (slice_set tasks place task) ≡ busy tasks
busy_same [] place task e = refl
busy_same (first ∷ tasks) zero task e = ap (λ (b : Bool). busy_by b (busy tasks)) e
busy_same (first ∷ tasks) (suc place) task e = ap (λ (n : ℕ). busy_by (is_free first) n) (busy_same tasks place task e)

-- a place is left
pub busy_left : (tasks : List Machine) (place : ℕ) (task : Machine) → place < length tasks → is_free (agent_at tasks place) ≡ false → is_free task ≡ true → suc (busy (slice_set tasks place task)) ≡ busy tasks
busy_left [] place task low e f = absurd (omega arith)
busy_left (first ∷ tasks) zero task low e f = ap (λ (b : Bool). suc (busy_by b (busy tasks))) f ∙ sym (ap (λ (b : Bool). busy_by b (busy tasks)) e)
busy_left (first ∷ tasks) (suc place) task low e f =
    sym (more_by (is_free first) (busy tasks) (busy (slice_set tasks place task)) (sym (busy_left tasks place task (omega arith) e f)))

few_by : (free : Bool) (n m : ℕ) → n ≤ m → busy_by free n ≤ suc m
few_by true n m h = omega arith
few_by false n m h = omega arith

pub busy_few : (tasks : List Machine) → busy tasks ≤ length tasks
busy_few [] = omega arith
busy_few (task ∷ tasks) = few_by (is_free task) (busy tasks) (length tasks) (busy_few tasks)

both_true : (b c : Bool) → (b && c) ≡ true → (b ≡ true) × (c ≡ true)
both_true true c e = (refl, e)
both_true false c e = cc e

pub busy_none : (tasks : List Machine) → are_free tasks ≡ true → busy tasks ≡ 0
busy_none [] e = refl
busy_none (task ∷ tasks) e =
    let all : (is_free task ≡ true) × (are_free tasks ≡ true) = both_true (is_free task) (are_free tasks) e in
    ap (λ (b : Bool). busy_by b (busy tasks)) all.0 ∙ busy_none tasks all.1

full_by : (tasks : List Machine) → ((place : ℕ) → place < length tasks → is_free (agent_at tasks place) ≡ false) → busy tasks ≡ length tasks
full_by [] h = refl
full_by (task ∷ tasks) h =
    ap (λ (b : Bool). busy_by b (busy tasks)) (h 0 (omega arith))
    ∙ ap (λ (n : ℕ). suc n) (full_by tasks (λ place low. h (suc place) (omega arith)))

taken : (tasks : List Machine) (place : ℕ) (free : Bool) → is_free (agent_at tasks place) ≡ free → place < length tasks → has_free tasks ≡ false → free ≡ false
taken tasks place true e low none = let found : has_free tasks ≡ true = free_found tasks place low e in cc
taken tasks place false e low none = refl

-- without a free place each one is taken
pub busy_full : (tasks : List Machine) → has_free tasks ≡ false → busy tasks ≡ length tasks
busy_full tasks none = full_by tasks (λ place low. taken tasks place (is_free (agent_at tasks place)) refl low none)
