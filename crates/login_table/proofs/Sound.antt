-- What holds between the logins of a table, and is kept by taking one out, changing one and putting one in.
use Rattle.std.specs.Prelude.{◌≡◌, ◌≢◌, ℕ, ◌<◌, nat_eq, Bool, true, false, List, length, replicate, Option, Some, None, refl}
use Rattle.std.proofs.Common.{arith, set, ap, sym, ◌∙◌, subst}
use Rattle.std.proofs.Math.ListN.{length-set}
use Rattle.std.proofs.lemmas.Grind.{common_steps}
use Rattle.std.proofs.lemmas.List.{get_or-set_same, get_or-set_other}
use Rattle.login_table.specs.declared.login.Login.{Login}
use Rattle.login_table.specs.Table.{place_at, is_live}
use Rattle.login_table.specs.Sound.{Apart, IsNumbered, IsSound, SecondsWithin}
use Rattle.login_table.proofs.Searching.{within}

pub apart_sym : (a b : Login) → Apart a b → Apart b a
apart_sym a b p = record {
  euis = λ u e. p.euis (sym u) (sym e);
  nodes = λ u l m e. p.nodes (sym u) m l (sym e);
  first = λ u. p.second (sym u);
  second = λ u. p.first (sym u);
  ids = λ e. p.ids (sym e);
}

none_at : (i : ℕ) → place_at (replicate 8 None) i ≡ None
none_at i = grind (arith, common_steps)

pub new_sound : IsSound (replicate 8 None)
new_sound = record {
  size = refl;
  apart = λ i j a b d e f. absurd (let n = none_at i in let no : None ≡ Some a = sym n ∙ e in cc);
  numbered = λ i a e. absurd (let n = none_at i in let no : None ≡ Some a = sym n ∙ e in cc);
  seconds = λ i a e. absurd (let n = none_at i in let no : None ≡ Some a = sym n ∙ e in cc);
}

-- the login of a place is that of before, or the one put in
set_cases : (places : List (Option Login)) (k i : ℕ) (x : Option Login) (a : Login) → place_at (set places k x) i ≡ Some a → i ≢ k → place_at places i ≡ Some a
set_cases places k i x a e d = sym (get_or-set_other places k i x None d) ∙ e

set_here : (places : List (Option Login)) (k i : ℕ) (x : Option Login) (a : Login) → k < length places → place_at (set places k x) i ≡ Some a → i ≡ k → x ≡ Some a
set_here places k i x a h e s = sym (get_or-set_same places k x None h) ∙ ap (place_at (set places k x)) (sym s) ∙ e

-- two numbers are the same or not
pub data Same (i k : ℕ) : Type 0 where
  same : i ≡ k → Same i k
  other : i ≢ k → Same i k

same_by : (i k : ℕ) (b : Bool) → nat_eq i k ≡ b → Same i k
same_by i k true e = same (grind arith)
same_by i k false e = other (λ s. grind arith)

pub is_same : (i k : ℕ) → Same i k
is_same i k = same_by i k _ refl

without_from : (places : List (Option Login)) (k i : ℕ) (a : Login) → Same i k → place_at (set places k None) i ≡ Some a → place_at places i ≡ Some a
without_from places k i a (other d) e = set_cases places k i None a e d
without_from places k i a (same s) e =
    let g = length-set places k None in
    let w = within (set places k None) i a e in
    let n : None ≡ Some a = set_here places k i None a (grind arith) e s in
    absurd (let m : None ≡ Some a = n in cc)

-- A login that stands after one was taken out stood before.
pub stood : (places : List (Option Login)) (k i : ℕ) (a : Login) → place_at (set places k None) i ≡ Some a → place_at places i ≡ Some a
stood places k i a e = without_from places k i a (is_same i k) e

-- and its place is another one
pub stood_elsewhere : (places : List (Option Login)) (k i : ℕ) (a : Login) → place_at (set places k None) i ≡ Some a → i ≢ k
stood_elsewhere places k i a e s =
    let g = length-set places k None in
    let w = within (set places k None) i a e in
    let n : None ≡ Some a = set_here places k i None a (grind arith) e s in
    let m : None ≡ Some a = n in cc

pub taken_out : (places : List (Option Login)) (k : ℕ) → IsSound places → IsSound (set places k None)
taken_out places k s = record {
  size = length-set places k None ∙ s.size;
  apart = λ i j a b d e f. s.apart i j a b d (stood places k i a e) (stood places k j b f);
  numbered = λ i a e. s.numbered i a (stood places k i a e);
  seconds = λ i a e. s.seconds i a (stood places k i a e);
}

-- the login that is put in is apart from each other one
pub record Fits (places : List (Option Login)) (k : ℕ) (x : Login) : Type 0 where
  pub below : k < length places
  pub numbered : IsNumbered k x
  pub seconds : SecondsWithin x.remaining x.hold
  pub apart : (j : ℕ) (b : Login) → j ≢ k → place_at places j ≡ Some b → Apart x b

put_numbered : (places : List (Option Login)) (k : ℕ) (x : Login) → IsSound places → Fits places k x → (i : ℕ) (a : Login) → Same i k → place_at (set places k (Some x)) i ≡ Some a → IsNumbered i a
put_numbered places k x s f i a (other d) e = s.numbered i a (set_cases places k i (Some x) a e d)
put_numbered places k x s f i a (same m) e =
    let own : Some x ≡ Some a = set_here places k i (Some x) a f.below e m in
    let is : x ≡ a = cc in
    let n = f.numbered in
    record { own = ap (λ (l : Login). l.place) (sym is) ∙ n.own ∙ sym m; below = grind arith; least = grind arith; most = grind arith }

put_seconds : (places : List (Option Login)) (k : ℕ) (x : Login) → IsSound places → Fits places k x → (i : ℕ) (a : Login) → Same i k → place_at (set places k (Some x)) i ≡ Some a → SecondsWithin a.remaining a.hold
put_seconds places k x s f i a (other d) e = s.seconds i a (set_cases places k i (Some x) a e d)
put_seconds places k x s f i a (same m) e =
    let own : Some x ≡ Some a = set_here places k i (Some x) a f.below e m in
    let is : x ≡ a = cc in
    subst (λ (l : Login). SecondsWithin l.remaining l.hold) is f.seconds

put_apart : (places : List (Option Login)) (k : ℕ) (x : Login) → IsSound places → Fits places k x → (i j : ℕ) (a b : Login) → i ≢ j → Same i k → Same j k → place_at (set places k (Some x)) i ≡ Some a → place_at (set places k (Some x)) j ≡ Some b → Apart a b
put_apart places k x s f i j a b d (other p) (other q) e g = s.apart i j a b d (set_cases places k i (Some x) a e p) (set_cases places k j (Some x) b g q)
put_apart places k x s f i j a b d (same p) (other q) e g =
    let own : Some x ≡ Some a = set_here places k i (Some x) a f.below e p in
    let is : x ≡ a = cc in
    subst (λ (l : Login). Apart l b) is (f.apart j b q (set_cases places k j (Some x) b g q))
put_apart places k x s f i j a b d (other p) (same q) e g =
    let own : Some x ≡ Some b = set_here places k j (Some x) b f.below g q in
    let is : x ≡ b = cc in
    apart_sym b a (subst (λ (l : Login). Apart l a) is (f.apart i a p (set_cases places k i (Some x) a e p)))
put_apart places k x s f i j a b d (same p) (same q) e g = absurd (d (p ∙ sym q))

pub put_in : (places : List (Option Login)) (k : ℕ) (x : Login) → IsSound places → Fits places k x → IsSound (set places k (Some x))
put_in places k x s f = record {
  size = length-set places k (Some x) ∙ s.size;
  apart = λ i j a b d e g. put_apart places k x s f i j a b d (is_same i k) (is_same j k) e g;
  numbered = λ i a e. put_numbered places k x s f i a (is_same i k) e;
  seconds = λ i a e. put_seconds places k x s f i a (is_same i k) e;
}

-- the login of before, of which only the seconds changed
pub record Came (before now : Login) : Type 0 where
  pub place : now.place ≡ before.place
  pub login : now.login ≡ before.login
  pub unit : now.unit ≡ before.unit
  pub node : now.node ≡ before.node
  pub eui : now.eui ≡ before.eui
  pub exclusive : now.exclusive ≡ before.exclusive
  pub live : is_live now ≡ true → is_live before ≡ true
  pub seconds : SecondsWithin before.remaining before.hold → SecondsWithin now.remaining now.hold

pub record CameFrom (place : Option Login) (now : Login) : Type 0 where
  pub before : Login
  pub stood : place ≡ Some before
  pub came : Came before now

came_apart : (a b x y : Login) → Came x a → Came y b → Apart x y → Apart a b
came_apart a b x y p q s = record {
  euis = λ u e. s.euis (sym p.unit ∙ u ∙ q.unit) (sym p.eui ∙ e ∙ q.eui);
  nodes = λ u l m e. s.nodes (sym p.unit ∙ u ∙ q.unit) (p.live l) (q.live m) (sym p.node ∙ e ∙ q.node);
  first = λ u. p.exclusive ∙ s.first (sym p.unit ∙ u ∙ q.unit);
  second = λ u. q.exclusive ∙ s.second (sym p.unit ∙ u ∙ q.unit);
  ids = λ e. s.ids (sym p.login ∙ e ∙ q.login);
}

came_numbered : (i : ℕ) (a x : Login) → Came x a → IsNumbered i x → IsNumbered i a
came_numbered i a x p n = record { own = p.place ∙ n.own; below = n.below; least = grind arith; most = grind arith }

-- Where each login that stands came from one in its place, what holds is kept.
pub all_came : (places now : List (Option Login)) → length now ≡ length places → ((i : ℕ) (a : Login) → place_at now i ≡ Some a → CameFrom (place_at places i) a) → IsSound places → IsSound now
all_came places now z f s = record {
  size = z ∙ s.size;
  apart = λ i j a b d e g. came_apart a b (f i a e).before (f j b g).before (f i a e).came (f j b g).came (s.apart i j (f i a e).before (f j b g).before d (f i a e).stood (f j b g).stood);
  numbered = λ i a e. came_numbered i a (f i a e).before (f i a e).came (s.numbered i (f i a e).before (f i a e).stood);
  seconds = λ i a e. (f i a e).came.seconds (s.seconds i (f i a e).before (f i a e).stood);
}
