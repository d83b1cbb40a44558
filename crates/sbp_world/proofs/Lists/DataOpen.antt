-- In a turn in which the target tells of no end of an ORB but as failed, the first ORB of a list that had not ended as the turn began has not ended but as failed.
use Rattle.sbp_world.proofs.Words.Std.{arith, ◌≡◌, ◌∙◌, refl, sym, ap, subst, ◌<◌, ◌≤◌, ℕ, suc, nat_eq, Bool, true, false, cond, List, [], ◌∷◌, Option, Some, None, nat_tests, false≢true, none-some}
use Rattle.sbp_world.proofs.Words.Wire.{list_in, orb_in, Side, Moment, said}
use Rattle.sbp_world.proofs.Words.Initiator.{StatusKind}
use Rattle.sbp_world.proofs.Words.Laws.{ended_status, ends}
use Rattle.sbp_world.proofs.Words.World.{AreOthers, holder, ticket_at, told, told_all, WorldState}
use Rattle.orb_layout.specs.declared.status.StatusKind.TheVariants as kinds
use Rattle.sbp_journal.specs.declared.note.Note.TheVariants as notes
use Rattle.sbp_journal.specs.declared.side.Side.TheVariants as sides
use Rattle.sbp_world.proofs.Agents.Management.Still.{hist}
use Rattle.sbp_world.proofs.Lists.EndTells.{AreMild}
use Rattle.sbp_world.proofs.Lists.OrbSteps.{ends_read}
use Rattle.sbp_world.proofs.Lists.Passing.{PassLaw}
use Rattle.sbp_world.proofs.Lists.StatusMoments.{ends_grow}

-- ---- an ORB that ended is below the ends
module _ (wild : ℕ → Bool) (i : ℕ) (own : wild i ≡ false) where
  pub ended_less : (ms : List Moment) → PassLaw wild ms → (n k : ℕ) (status : StatusKind) → ended_status ms i n k ≡ Some status → k < ends ms i n
  ended_less [] law n k status e = absurd (none-some status e)
  ended_less (said (notes.Ended j (Some m) (Some l) st) ∷ ms) law n k status e = by (λ x. ended_less ms law.1 n k status x) (nat_eq i j) (nat_eq n m) (nat_eq k l) refl refl refl e
    where
      grown : ends ms i n ≤ ends (said (notes.Ended j (Some m) (Some l) st) ∷ ms) i n
      grown = ends_grow (said (notes.Ended j (Some m) (Some l) st) ∷ []) ms i n

      by : (ended_status ms i n k ≡ Some status → k < ends ms i n) → (a b c : Bool) → nat_eq i j ≡ a → nat_eq n m ≡ b → nat_eq k l ≡ c → cond a (cond b (cond c (Some st) (ended_status ms i n k)) (ended_status ms i n k)) (ended_status ms i n k) ≡ Some status → k < cond (nat_eq i j) (cond (nat_eq n m) (suc (ends ms j m)) (ends ms i n)) (ends ms i n)
      by old true true true f g h x =
          let same_i : j ≡ i = grind (arith, nat_tests) in
          let same_n : m ≡ n = grind (arith, nat_tests) in
          let same_k : k ≡ l = grind (arith, nat_tests) in
          let number : l ≡ ends ms j m = (law.0 (ap wild same_i ∙ own)).turn.number in
          subst (λ y. k < cond y (cond (nat_eq n m) (suc (ends ms j m)) (ends ms i n)) (ends ms i n)) (sym f)
          (subst (λ y. k < cond y (suc (ends ms j m)) (ends ms i n)) (sym g) (omega (arith, number, same_k)))
      by old true true false f g h x = let a = old x in let b = grown in omega (arith, a, b)
      by old true false c f g h x = let a = old x in let b = grown in omega (arith, a, b)
      by old false b c f g h x = let a = old x in let d = grown in omega (arith, a, d)
  ended_less (said (notes.Ended j (Some m) None st) ∷ ms) law n k status e = ended_less ms law.1 n k status e
  ended_less (said (notes.Ended j None l st) ∷ ms) law n k status e = ended_less ms law.1 n k status e
  ended_less (_ ∷ ms) law n k status e = ended_less ms law.1 n k status e

  -- so the first one that has not ended has no status
  pub none_ended : (ms : List Moment) → PassLaw wild ms → (n : ℕ) (status : StatusKind) → ended_status ms i n (ends ms i n) ≡ Some status → status ≡ kinds.Failed
  none_ended ms law n status e = let z = ended_less ms law n (ends ms i n) status e in absurd (omega (arith, z))

-- ---- what is told
failed_of : (status : StatusKind) → ends_read (Some status) ≡ false → status ≡ kinds.Failed
failed_of kinds.Failed e = refl
failed_of kinds.Dummy e = absurd (false≢true (sym e))
failed_of kinds.Good e = absurd (false≢true (sym e))
failed_of (kinds.Check sense) e = absurd (false≢true (sym e))
failed_of kinds.Aborted e = absurd (false≢true (sym e))
failed_of (kinds.Illegal meaning) e = absurd (false≢true (sym e))
failed_of (kinds.Management meaning) e = absurd (false≢true (sym e))

module _ (past : List Moment) (i n k : ℕ) where
  abbrev pub IsOpen : List Moment → Type 0
  IsOpen ms = (status : StatusKind) → ended_status ms i n k ≡ Some status → status ≡ kinds.Failed

  end_open : (ms : List Moment) (j : ℕ) (x y : Option ℕ) (st : StatusKind) → st ≡ kinds.Failed → IsOpen ms → IsOpen (said (notes.Ended j x y st) ∷ ms)
  end_open ms j None y st f o = o
  end_open ms j (Some m) None st f o = o
  end_open ms j (Some m) (Some l) st f o = λ status. by status (nat_eq i j) (nat_eq n m) (nat_eq k l)
    where
      same : (a b : StatusKind) → Some a ≡ Some b → a ≡ b
      same a b e = cc

      by : (status : StatusKind) (a b c : Bool) → cond a (cond b (cond c (Some st) (ended_status ms i n k)) (ended_status ms i n k)) (ended_status ms i n k) ≡ Some status → status ≡ kinds.Failed
      by status true true true e = sym (same st status e) ∙ f
      by status true true false e = o status e
      by status true false c e = o status e
      by status false b c e = o status e

  one_open : (side : Side) (w : WorldState) → AreOthers (side ∷ []) → AreMild (side ∷ []) → IsOpen (hist past w) → IsOpen (hist past (told 0 side w))
  unfolding told
  one_open (sides.Own note) w f m o = absurd f.0
  one_open (sides.Opened place orb) w f m o = o
  one_open (sides.Ran place orb cdb payload outcome) w f m o = o
  one_open (sides.Ended place orb status) w f m o = end_open (hist past w) (holder w place).initiator (list_in (ticket_at w place orb)) (orb_in (ticket_at w place orb)) status (failed_of status m.0) o
  one_open (sides.Dead place cause) w f m o = o
  one_open (sides.Cut place cause) w f m o = o
  one_open (sides.Managed node function subject status login) w f m o = o
  one_open (sides.ManageFailed node cause) w f m o = o
  one_open (sides.Held login) w f m o = o
  one_open (sides.Expired login) w f m o = o
  one_open (sides.Back login) w f m o = o
  one_open (sides.Left login) w f m o = o
  one_open (sides.Cleared unit) w f m o = o
  one_open (sides.Unsolicited place) w f m o = o
  one_open (sides.Unsent place) w f m o = o

  pub told_open : (told_sides : List Side) (w : WorldState) → AreOthers told_sides → AreMild told_sides → IsOpen (hist past w) → IsOpen (hist past (told_all 0 told_sides w))
  unfolding told_all
  told_open [] w f m o = o
  told_open (side ∷ later) w f m o = told_open later (told 0 side w) f.1 m.1 (one_open side w (f.0, tt) (m.0, tt) o)
