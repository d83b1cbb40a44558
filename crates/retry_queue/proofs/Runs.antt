-- The ORBs of an initiator that injected no packets, by the laws of lists: which were appended, ran and ended.
use Rattle.std.proofs.Common.{arith, ◌≡◌, ◌∙◌, refl, sym, ap, subst, ℕ, zero, suc, ◌<◌, ◌≤◌, nat_eq, Bool, true, false, cond, List, [], ◌∷◌, Option, Some, None}
use Rattle.std.specs.Prelude.{IsSomeAnd}
use Rattle.std.proofs.lemmas.Bool.Decides.{nat_tests}
use Rattle.orb_layout.specs.declared.status.StatusKind.{StatusKind}
use Rattle.orb_layout.specs.declared.status.StatusKind.TheVariants as kinds
use Rattle.rbc_command.specs.declared.sense.Sense.{Sense}
use Rattle.rbc_disk.specs.Disk.{Disk}
use Rattle.sbp_journal.specs.Run.{Moment, said}
use Rattle.sbp_journal.specs.declared.note.Note.TheVariants as notes
use Rattle.sbp_laws.specs.ExecutionLaw.{ExecutionLaw, MayEndWith}
use Rattle.sbp_laws.specs.OrderLaw.{OrderLaw}
use Rattle.sbp_laws.specs.StatusLaw.{TakenAt}
use Rattle.sbp_laws.specs.Terms.{Request, appends, ended_status, ends, ran_status, request_at, runs}
use Rattle.sbp_laws.specs.Turns.{EachMoment}
use Rattle.sbp_world.specs.Lists.TakenTurns.{takes_in}
use Rattle.retry_queue.specs.Taking.{PlainAt, ran_good}
use Rattle.retry_queue.proofs.Cases.{by_one, by_two, other}

-- ---- what is known

-- an ORB that ran good: not behind the one that is to end next, not for the first time again, and appended
pub record HasRun (count ended times k : ℕ) : Type 0 where
  pub turn : k ≤ ended
  pub once : times ≡ 0 → ⊥
  pub appended : k < count

-- Of each list how many ORBs were appended (A) and ended (E), and how many statuses were taken (T); of each ORB what it asks for (Q), how it
-- ended (S) and ran (R), whether it ran good (G) and how often it ran (N).
pub record Orbs (A E T : ℕ → ℕ) (Q : ℕ → ℕ → Option Request) (S R : ℕ → ℕ → Option StatusKind) (G : ℕ → ℕ → Bool) (N : ℕ → ℕ → ℕ) : Type 0 where
  pub requested : (n k : ℕ) (request : Request) → Q n k ≡ Some request → k < A n
  pub ended : (n k : ℕ) (status : StatusKind) → S n k ≡ Some status → k < E n
  pub served : (n : ℕ) → T n ≤ E n
  pub ran : (n k : ℕ) → G n k ≡ true → HasRun (A n) (E n) (N n k) k
  pub runs_good : (n k : ℕ) → R n k ≡ Some kinds.Good → G n k ≡ true
  pub ends_good : (n k : ℕ) → S n k ≡ Some kinds.Good → G n k ≡ true

abbrev pub OrbsAt : List Moment → Type 0
OrbsAt past = Orbs (appends past 0) (ends past 0) (takes_in past 0) (request_at past 0) (ended_status past 0) (ran_status past 0) (ran_good past 0) (runs past 0)

no_orbs : OrbsAt []
no_orbs = record {
  requested = λ n k r e. absurd (cc e);
  ended = λ n k s e. absurd (cc e);
  served = λ n. omega arith;
  ran = λ n k e. absurd (cc e);
  runs_good = λ n k e. absurd (cc e);
  ends_good = λ n k e. absurd (cc e);
}

module _ (A E T : ℕ → ℕ) (Q : ℕ → ℕ → Option Request) (S R : ℕ → ℕ → Option StatusKind) (G : ℕ → ℕ → Bool) (N : ℕ → ℕ → ℕ) (h : Orbs A E T Q S R G N) (n k : ℕ) where
  -- ---- an ORB is appended
  abbrev more : (ℕ → ℕ) → ℕ → ℕ
  more f m = cond (nat_eq m n) (suc (f n)) (f m)

  abbrev with_at : {X : Type 0} → X → (ℕ → ℕ → X) → ℕ → ℕ → X
  with_at x f m l = cond (nat_eq m n) (cond (nat_eq l k) x (f m l)) (f m l)

  no_less : (f : ℕ → ℕ) (m : ℕ) → f m ≤ more f m
  no_less f m = by_one (λ b. f m ≤ cond b (suc (f n)) (f m)) m n (λ e. let same : f m ≡ f n = ap f e in omega (arith, same)) (λ e. omega arith)

  appends_one : (request : Request) → k ≡ A n → Orbs (more A) E T (with_at (Some request) Q) S R G N
  appends_one request turn = record {
    requested = λ m l r. by_two (λ b c. cond b (cond c (Some request) (Q m l)) (Q m l) ≡ Some r → l < cond b (suc (A n)) (A m)) m n l k
        (λ e f g. omega (arith, turn, f)) (λ e g. let less = h.requested m l r g in let same : A m ≡ A n = ap A e in omega (arith, less, same)) (λ c g. h.requested m l r g);
    ended = h.ended;
    served = h.served;
    ran = λ m l e. let r = h.ran m l e in record { turn = r.turn; once = r.once; appended = (let few = r.appended in let less = no_less A m in omega (arith, few, less)) };
    runs_good = h.runs_good;
    ends_good = h.ends_good;
  }

  -- ---- an ORB ends
  ends_one : (status : StatusKind) → k ≡ E n → MayEndWith status (R n k) → Orbs A (more E) T Q (with_at (Some status) S) R G N
  ends_one status turn may = record {
    requested = h.requested;
    ended = λ m l s. by_two (λ b c. cond b (cond c (Some status) (S m l)) (S m l) ≡ Some s → l < cond b (suc (E n)) (E m)) m n l k
        (λ e f g. omega (arith, turn, f)) (λ e g. let less = h.ended m l s g in let same : E m ≡ E n = ap E e in omega (arith, less, same)) (λ c g. h.ended m l s g);
    served = λ m. let few = h.served m in let less = no_less E m in omega (arith, few, less);
    ran = λ m l e. let r = h.ran m l e in record { turn = (let few = r.turn in let less = no_less E m in omega (arith, few, less)); once = r.once; appended = r.appended };
    runs_good = h.runs_good;
    ends_good = λ m l. by_two (λ b c. cond b (cond c (Some status) (S m l)) (S m l) ≡ Some kinds.Good → G m l ≡ true) m n l k
        (λ e f g. ap (λ x. G x l) e ∙ ap (G n) f ∙ h.runs_good n k (good status may (cc g))) (λ e g. h.ends_good m l g) (λ c g. h.ends_good m l g);
  }
    where
      good : (s : StatusKind) → MayEndWith s (R n k) → s ≡ kinds.Good → R n k ≡ Some kinds.Good
      good kinds.Good m e = m
      good (kinds.Check sense) m e = absurd (cc e)
      good (kinds.Illegal meaning) m e = absurd (cc e)
      good kinds.Failed m e = absurd (cc e)
      good kinds.Dummy m e = absurd (cc e)
      good kinds.Aborted m e = absurd (cc e)
      good (kinds.Management meaning) m e = absurd (cc e)

  -- ---- a status is taken
  takes_one : k ≡ T n → k < E n → Orbs A E (more T) Q S R G N
  takes_one turn less = record {
    requested = h.requested;
    ended = h.ended;
    served = λ m. by_one (λ b. cond b (suc (T n)) (T m) ≤ E m) m n (λ e. let same : E m ≡ E n = ap E e in omega (arith, same, turn, less)) (λ e. h.served m);
    ran = h.ran;
    runs_good = h.runs_good;
    ends_good = h.ends_good;
  }

  -- ---- an ORB runs
  once_more : (m l : ℕ) → (N m l ≡ 0 → ⊥) → with_at (suc (N n k)) N m l ≡ 0 → ⊥
  once_more m l some = by_two (λ b c. cond b (cond c (suc (N n k)) (N m l)) (N m l) ≡ 0 → ⊥) m n l k (λ e f z. let no : suc (N n k) ≡ 0 = z in omega (arith, no)) (λ e. some) (λ c. some)

  at_once : (m l : ℕ) → m ≡ n → l ≡ k → with_at (suc (N n k)) N m l ≡ 0 → ⊥
  at_once m l e f = by_two (λ b c. (b ≡ false → ⊥) → (c ≡ false → ⊥) → cond b (cond c (suc (N n k)) (N m l)) (N m l) ≡ 0 → ⊥) m n l k
      (λ e f x y z. let no : suc (N n k) ≡ 0 = z in omega (arith, no)) (λ e x y z. y refl) (λ c x y z. x refl)
      (λ g. grind (arith, nat_tests)) (λ g. grind (arith, nat_tests))

  runs_one : k ≡ E n → k < A n → Orbs A E T Q S (with_at (Some kinds.Good) R) (with_at true G) (with_at (suc (N n k)) N)
  runs_one turn few = record {
    requested = h.requested;
    ended = h.ended;
    served = h.served;
    ran = λ m l. by_two (λ b c. cond b (cond c true (G m l)) (G m l) ≡ true → HasRun (A m) (E m) (with_at (suc (N n k)) N m l) l) m n l k
        (λ e f g. record { turn = (let same : E m ≡ E n = ap E e in omega (arith, same, f, turn)); once = at_once m l e f; appended = (let same : A m ≡ A n = ap A e in omega (arith, same, f, few)) })
        (λ e g. again m l g) (λ c g. again m l g);
    runs_good = λ m l. by_two (λ b c. cond b (cond c (Some kinds.Good) (R m l)) (R m l) ≡ Some kinds.Good → cond b (cond c true (G m l)) (G m l) ≡ true) m n l k
        (λ e f g. refl) (λ e g. h.runs_good m l g) (λ c g. h.runs_good m l g);
    ends_good = λ m l e. by_two (λ b c. cond b (cond c true (G m l)) (G m l) ≡ true) m n l k (λ f g. refl) (λ f. h.ends_good m l e) (λ c. h.ends_good m l e);
  }
    where
      again : (m l : ℕ) → G m l ≡ true → HasRun (A m) (E m) (with_at (suc (N n k)) N m l) l
      again m l g = let r = h.ran m l g in record { turn = r.turn; once = once_more m l r.once; appended = r.appended }

  fails_one : (sense : Sense) → Orbs A E T Q S (with_at (Some (kinds.Check sense)) R) G (with_at (suc (N n k)) N)
  fails_one sense = record {
    requested = h.requested;
    ended = h.ended;
    served = h.served;
    ran = λ m l g. let r = h.ran m l g in record { turn = r.turn; once = once_more m l r.once; appended = r.appended };
    runs_good = λ m l. by_two (λ b c. cond b (cond c (Some (kinds.Check sense)) (R m l)) (R m l) ≡ Some kinds.Good → G m l ≡ true) m n l k
        (λ e f g. absurd (cc g)) (λ e g. h.runs_good m l g) (λ c g. h.runs_good m l g);
    ends_good = h.ends_good;
  }

-- ---- in every history
pub requested_one : {X : Type 0} (o : Option X) (P : X → Type 0) → IsSomeAnd o P → (Y : Type 0) → ((x : X) → o ≡ Some x → Y) → Y
requested_one None P h Y f = absurd h
requested_one (Some x) P h Y f = f x refl

-- what another initiator's note may change, where its number is not 0
abbrev more_if : Bool → ℕ → ℕ → (ℕ → ℕ) → ℕ → ℕ
more_if b n x f m = cond b (cond (nat_eq m n) x (f m)) (f m)

abbrev set_if : {X : Type 0} → Bool → ℕ → ℕ → X → (ℕ → ℕ → X) → ℕ → ℕ → X
set_if b n k x f m l = cond b (cond (nat_eq m n) (cond (nat_eq l k) x (f m l)) (f m l)) (f m l)

module _ (wild : ℕ → Bool) (start : List Disk) (tame : (i : ℕ) → wild i ≡ false) where
  pub orbs : (past : List Moment) → OrderLaw wild past → ExecutionLaw wild start past → EachMoment (TakenAt wild) past → EachMoment PlainAt past → OrbsAt past
  orbs [] order execution status plain = no_orbs
  orbs (said (notes.Append zero n k cdb buffer) ∷ past) order execution status plain =
      appends_one _ _ _ _ _ _ _ _ (orbs past order.1 execution.1 status.1 plain.1) n k (record { cdb = cdb; buffer = buffer }) order.0.number
  orbs (said (notes.Append (suc i) n k cdb buffer) ∷ past) order execution status plain =
      subst (λ b. Orbs (more_if b n (suc (appends past (suc i) n)) (appends past 0)) (ends past 0) (takes_in past 0) (set_if b n k (Some (record { cdb = cdb; buffer = buffer })) (request_at past 0)) (ended_status past 0) (ran_status past 0) (ran_good past 0) (runs past 0))
      (sym (other i)) (orbs past order.1 execution.1 status.1 plain.1)
  orbs (said (notes.Ended (suc i) (Some n) (Some k) ended) ∷ past) order execution status plain =
      subst (λ b. Orbs (appends past 0) (more_if b n (suc (ends past (suc i) n)) (ends past 0)) (takes_in past 0) (request_at past 0) (set_if b n k (Some ended) (ended_status past 0)) (ran_status past 0) (ran_good past 0) (runs past 0))
      (sym (other i)) (orbs past order.1 execution.1 status.1 plain.1)
  orbs (said (notes.Ran zero (Some n) (Some k) unit cdb bytes None) ∷ past) order execution status plain =
      let before = orbs past order.1 execution.1 status.1 plain.1 in
      let law = execution.0 (tame 0) in
      runs_one _ _ _ _ _ _ _ _ before n k law.0.order (requested_one (request_at past 0 n k) _ law.1 (k < appends past 0 n) (before.requested n k))
  orbs (said (notes.Ran zero (Some n) (Some k) unit cdb bytes (Some sense)) ∷ past) order execution status plain =
      fails_one _ _ _ _ _ _ _ _ (orbs past order.1 execution.1 status.1 plain.1) n k sense
  orbs (said (notes.Ran (suc i) (Some n) (Some k) unit cdb bytes None) ∷ past) order execution status plain =
      subst (λ b. Orbs (appends past 0) (ends past 0) (takes_in past 0) (request_at past 0) (ended_status past 0) (set_if b n k (Some kinds.Good) (ran_status past 0)) (set_if b n k true (ran_good past 0)) (set_if b n k (suc (runs past (suc i) n k)) (runs past 0)))
      (sym (other i)) (orbs past order.1 execution.1 status.1 plain.1)
  orbs (said (notes.Ran (suc i) (Some n) (Some k) unit cdb bytes (Some sense)) ∷ past) order execution status plain =
      subst (λ b. Orbs (appends past 0) (ends past 0) (takes_in past 0) (request_at past 0) (ended_status past 0) (set_if b n k (Some (kinds.Check sense)) (ran_status past 0)) (ran_good past 0) (set_if b n k (suc (runs past (suc i) n k)) (runs past 0)))
      (sym (other i)) (orbs past order.1 execution.1 status.1 plain.1)
  orbs (said (notes.Ended zero (Some n) (Some k) ended) ∷ past) order execution status plain =
      ends_one _ _ _ _ _ _ _ _ (orbs past order.1 execution.1 status.1 plain.1) n k ended (order.0 (tame 0)).number (execution.0 (tame 0))
  orbs (said (notes.Taken zero n k taken answer) ∷ past) order execution status plain =
      let before = orbs past order.1 execution.1 status.1 plain.1 in
      takes_one _ _ _ _ _ _ _ _ before n k plain.0.turn.number (before.ended n k taken (status.0 (tame 0)).ended)
  orbs (said (notes.Taken (suc i) n k taken answer) ∷ past) order execution status plain =
      subst (λ b. Orbs (appends past 0) (ends past 0) (more_if b n (suc (takes_in past (suc i) n)) (takes_in past 0)) (request_at past 0) (ended_status past 0) (ran_status past 0) (ran_good past 0) (runs past 0))
      (sym (other i)) (orbs past order.1 execution.1 status.1 plain.1)
  orbs (_ ∷ past) order execution status plain = orbs past order.1 execution.1 status.1 plain.1
