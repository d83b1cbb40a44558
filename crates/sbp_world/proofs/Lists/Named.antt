-- What is told of an ORB that an agent has: the note of a run and of an end, as the law of lists has it.
use Rattle.sbp_world.proofs.Words.Std.{◌≡◌, ◌∙◌, refl, sym, ap, subst, ℕ, suc, nat_eq, Bool, true, false, cond, List, ◌∷◌, length, take, Option, Some, None, arith, nat_tests, none-some}
use Rattle.sbp_world.proofs.Words.Wire.{Cmd, Moment, said}
use Rattle.sbp_world.proofs.Words.Target.{Sense, PlainDisk, Progress, IsRun}
use Rattle.sbp_world.proofs.Words.Initiator.{StatusKind, CommandOrb, Segment}
use Rattle.sbp_world.proofs.Words.Laws.{command_at, IsNextEnd, ends}
use Rattle.sbp_world.proofs.Words.World.{IsDataIn, orbs, IsNextRun}
use Rattle.sbp_journal.specs.declared.note.Note.TheVariants as notes
use Rattle.sbp_world.specs.Lists.Lists.{IsDataOf}
use Rattle.sbp_world.proofs.Lists.Passing.{PassAt, EndsNext, RunsNext}
use Rattle.sbp_world.proofs.Common.{itself}

-- ---- the number of ends, behind a note of one

module _ (ms : List Moment) (i n : ℕ) (status : StatusKind) where
  ended_here : (k : ℕ) → ends (said (notes.Ended i (Some n) (Some k) status) ∷ ms) i n ≡ suc (ends ms i n)
  ended_here k =
      ap (λ b. cond b (cond (nat_eq n n) (suc (ends ms i n)) (ends ms i n)) (ends ms i n)) (itself i)
      ∙ ap (λ b. cond b (suc (ends ms i n)) (ends ms i n)) (itself n)

  pub ended_more : (x y : Option ℕ) (k : ℕ) → x ≡ Some n → y ≡ Some k → ends (said (notes.Ended i x y status) ∷ ms) i n ≡ suc (ends ms i n)
  ended_more x y k e f =
      subst (λ z. ends (said (notes.Ended i z y status) ∷ ms) i n ≡ suc (ends ms i n)) (sym e)
      (subst (λ z. ends (said (notes.Ended i (Some n) z status) ∷ ms) i n ≡ suc (ends ms i n)) (sym f) (ended_here k))

  pub ended_other : (x y : Option ℕ) (j m : ℕ) → (j ≡ i → ⊥) → ends (said (notes.Ended i x y status) ∷ ms) j m ≡ ends ms j m
  ended_other None y j m f = refl
  ended_other (Some x) None j m f = refl
  ended_other (Some x) (Some y) j m f = by (nat_eq j i) refl
    where
      by : (b : Bool) → nat_eq j i ≡ b → cond b (cond (nat_eq m x) (suc (ends ms i x)) (ends ms j m)) (ends ms j m) ≡ ends ms j m
      by true e = absurd (f (let same : j ≡ i = grind (arith, nat_tests) in same))
      by false e = refl

-- ---- the order law at a run and at an end

module _ (wild : ℕ → Bool) (ms : List Moment) (i n k : ℕ) where
  -- the ORB has this name, and it is the next one that may run or end
  pub record IsTurn (x y : Option ℕ) : Type 0 where
    pub list : x ≡ Some n
    pub number : y ≡ Some k
    pub next : IsNextEnd ms i n k

  unnamed : (x y : Option ℕ) → (IsTurn x y → ⊥) → (wild i ≡ false → IsTurn x y) → wild i ≡ true
  unnamed x y f t = by (wild i) refl
    where
      by : (b : Bool) → wild i ≡ b → b ≡ true
      by true e = refl
      by false e = absurd (f (t e))

  some_same : (x y : ℕ) → Some x ≡ Some y → y ≡ x
  some_same x y e = cc

  pub order_ran : (x y : Option ℕ) (unit : ℕ) (cdb bytes : List ℕ) (check : Option Sense) → (wild i ≡ false → IsTurn x y) → (wild i ≡ false → RunsNext ms i n k cdb bytes) → PassAt wild (said (notes.Ran i x y unit cdb bytes check)) ms
  order_ran None y unit cdb bytes check t r = unnamed None y (λ u. none-some n u.list) t
  order_ran (Some x) None unit cdb bytes check t r = unnamed (Some x) None (λ u. none-some k u.number) t
  order_ran (Some x) (Some y) unit cdb bytes check t r = λ own.
      subst (λ z. RunsNext ms i z y cdb bytes) (some_same x n (t own).list) (subst (λ z. RunsNext ms i n z cdb bytes) (some_same y k (t own).number) (r own))

  pub order_ended : (x y : Option ℕ) (status : StatusKind) → (wild i ≡ false → IsTurn x y) → (wild i ≡ false → EndsNext ms i n k status) → PassAt wild (said (notes.Ended i x y status)) ms
  order_ended None y status t r = unnamed None y (λ u. none-some n u.list) t
  order_ended (Some x) None status t r = unnamed (Some x) None (λ u. none-some k u.number) t
  order_ended (Some x) (Some y) status t r = λ own.
      subst (λ z. EndsNext ms i z y status) (some_same x n (t own).list) (subst (λ z. EndsNext ms i n z status) (some_same y k (t own).number) (r own))

-- ---- what is told of an ORB by what was read of it
-- its command and its data
data_of : (found : Option Cmd) (cmd : Cmd) (bytes : List ℕ) → found ≡ Some cmd → IsDataOf found bytes → bytes ≡ take (length bytes) cmd.payload
data_of found cmd bytes e d = first_of (subst (λ f. IsDataOf f bytes) e d)
  where
    first_of : IsDataIn cmd bytes → bytes ≡ take (length bytes) cmd.payload
    first_of x = x.first

module _ (ms : List Moment) (i n : ℕ) where
  pub as_read : (p : Progress) (place at : ℕ) (plain : PlainDisk) (orb : CommandOrb) (segments : List Segment) (payload : List ℕ) → IsRun (orbs ms i n) p place plain at orb segments payload → IsNextEnd ms i n p.ended → IsNextRun ms i n p.ended orb.cdb payload
  as_read p place at plain orb segments payload r t =
      let o = r.good.own in
      record {
        turn = t;
        cmd = o.cmd;
        command = o.command;
        cdb_is = ap (λ (x : CommandOrb). x.cdb) o.orb;
        carried = data_of (command_at ms i n p.ended) o.cmd payload o.command r.part;
        whole = r.whole;
      }
