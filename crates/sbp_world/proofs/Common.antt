-- What many proofs of this crate cite of truth values, numbers, options and lists, and of nothing else.
use Rattle.sbp_world.proofs.Words.Std.{arith, ◌≡◌, refl, sym, ap, ℕ, suc, ◌<◌, ◌≤◌, nat_eq, nat_lt, ◌==◌, ◌&&◌, Bool, true, false, cond, List, [], ◌∷◌, ◌++◌, map, length, Option, Some, None, false≢true, nat_tests, none-some}
pub use Rattle.sbp_target.proofs.Requests.Telling.{or_left, or_right}
use Rattle.sbp_world.proofs.Words.Wire.{Moment, said, Note}
use Rattle.sbp_world.proofs.Words.Laws.{is_serial}
use Rattle.sbp_world.proofs.Words.World.{DeliversMore, more_deliveries}

-- ---- what is not
pub untrue : {A : Type 0} → false ≡ true → A
untrue e = absurd (false≢true e)

pub none_is : {A B : Type 0} (x : B) → None ≡ Some x → A
none_is x e = absurd (none-some x e)

pub some_none : {A B : Type 0} (x : B) → Some x ≡ None → A
some_none x e = absurd (none-some x (sym e))

-- ---- truth values
pub and_first : (a b : Bool) → (a && b) ≡ true → a ≡ true
and_first true b e = refl
and_first false b e = e

pub and_second : (a b : Bool) → (a && b) ≡ true → b ≡ true
and_second true b e = e
and_second false b e = untrue e

pub all_three : (a b c : Bool) → a ≡ true → b ≡ true → c ≡ true → (a && b && c) ≡ true
all_three true true c e f g = g
all_three true false c e f g = untrue f
all_three false b c e f g = untrue e

pub not_true : (b : Bool) → (b ≡ true → ⊥) → b ≡ false
not_true true never = absurd (never refl)
not_true false never = refl

pub cond_on : {A : Type 0} (b : Bool) (x y : A) → b ≡ true → cond b x y ≡ x
cond_on true x y e = refl
cond_on false x y e = untrue e

pub cond_off : {A : Type 0} (b : Bool) (x y : A) → b ≡ false → cond b x y ≡ y
cond_off true x y e = untrue (sym e)
cond_off false x y e = refl

-- ---- numbers
pub itself : (n : ℕ) → nat_eq n n ≡ true
itself n = grind (arith, nat_tests)

pub same_number : (n : ℕ) → (n == n) ≡ true
same_number n = grind (arith, nat_tests)

pub equal : (a b : ℕ) → (a == b) ≡ true → a ≡ b
equal a b e = grind (arith, nat_tests)

pub equal_numbers : (a b : ℕ) → nat_eq a b ≡ true → a ≡ b
equal_numbers a b e = grind (arith, nat_tests)

pub turned : (a b : ℕ) → nat_eq a b ≡ false → nat_eq b a ≡ false
turned a b e = grind (arith, nat_tests)

pub above : (m n most : ℕ) → n < most → most ≤ m → nat_eq m n ≡ false
above m n most l h = grind (arith, nat_tests)

pub is_inside : (m n : ℕ) → m < n → nat_lt m n ≡ true
is_inside m n l = grind arith

pub least : (n m : ℕ) → m ≡ n → n ≤ m
least n m e = omega arith

-- the nodes of initiators
pub same_node : (i j : ℕ) → Some (suc i) ≡ Some (suc j) → i ≡ j
same_node i j e = cc

pub serial_is : (found : Option ℕ) (serial : ℕ) → is_serial found serial ≡ true → found ≡ Some serial
serial_is None serial e = untrue e
serial_is (Some other) serial e = ap (λ n. Some n) (equal other serial e)

-- ---- lists
pub no_bytes : (bytes : List ℕ) → length bytes ≡ 0 → bytes ≡ []
no_bytes [] e = refl
no_bytes (x ∷ bytes) e = absurd (omega (arith, e))

pub moments_split : (a b c : List Moment) → a ++ (b ++ c) ≡ (a ++ b) ++ c
moments_split [] b c = refl
moments_split (m ∷ a) b c = ap (λ ms. m ∷ ms) (moments_split a b c)

pub moments_joined : (a b c : List Moment) → (a ++ b) ++ c ≡ a ++ (b ++ c)
moments_joined a b c = sym (moments_split a b c)

pub moment_joined : (a : List Moment) (m : Moment) (b : List Moment) → (a ++ m ∷ []) ++ b ≡ a ++ m ∷ b
moment_joined [] m b = refl
moment_joined (x ∷ a) m b = ap (λ ms. x ∷ ms) (moment_joined a m b)

pub notes_joined : (a b c : List Note) → (a ++ b) ++ c ≡ a ++ (b ++ c)
notes_joined [] b c = refl
notes_joined (n ∷ a) b c = ap (λ ns. n ∷ ns) (notes_joined a b c)

pub said_split : (a b : List Note) (past : List Moment) → map said (a ++ b) ++ past ≡ map said a ++ (map said b ++ past)
said_split [] b past = refl
said_split (n ∷ a) b past = ap (λ ms. said n ∷ ms) (said_split a b past)

pub said_joined : (a b : List Note) (past : List Moment) → map said a ++ (map said b ++ past) ≡ map said (a ++ b) ++ past
said_joined a b past = sym (said_split a b past)

-- ---- lines that deliver
pub delivers : (most : Option ℕ) → DeliversMore (more_deliveries most)
delivers (Some count) = tt
delivers None = tt
