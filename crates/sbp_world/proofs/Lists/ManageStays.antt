-- Where a moment starts no operation of an initiator, and tells nothing new of one, what is in hand of its management stays.
use Rattle.sbp_world.proofs.Words.Std.{arith, ◌≡◌, ◌∙◌, ◌⊎◌, inl, inr, refl, sym, ap, ℕ, suc, ◌<◌, nat_eq, Bool, true, false, List, Option, Some, nat_tests}
use Rattle.sbp_world.proofs.Words.Wire.{Moment, Sending, Transaction, Owed, Terms, terms}
use Rattle.sbp_world.proofs.Words.Target.{Operation, Disk}
use Rattle.sbp_world.proofs.Words.Laws.{access_in, packet_in, is_nothing, target_at}
use Rattle.sbp_world.proofs.Words.World.{managed_for, IsAccepted, IsAsking, IsAtAgent, IsBeginning, IsBusy, IsFree, IsHandling, IsOwnWrite, IsRest, IsServed, IsTaking, IsTelling}
use Rattle.mgmt_agent.specs.declared.operation.Phase.TheVariants as phases
use Rattle.sbp_world.proofs.Lists.ManageOffices.{Replies, Settles, none_left, office_at, rested, stays}
use Rattle.sbp_world.proofs.Lists.ManageTerms.{Rests, none_is}

-- an operation whose status block went out, and was the last thing asked for
abbrev pub IsOver : List Disk → List Moment → Operation → Type 0
IsOver start past op = (op.phase ≡ phases.Status) × (is_nothing (target_at start past).manager_asks ≡ true)

-- it was there before, and where it was over it is so still
pub record Had (start : List Disk) (past now : List Moment) (i place : ℕ) (op : Operation) : Type 0 where
  pub was : Operation
  pub before : IsHandling start past i place was
  pub goes : IsOver start past was → IsOver start now op

pub record Calms (start : List Disk) (past now : List Moment) (i : ℕ) : Type 0 where
  pub asking : (serial place : ℕ) → IsAsking now i serial place → IsAsking past i serial place
  pub telling : (serial place : ℕ) → IsTelling start now i serial place → IsTelling start past i serial place
  pub handling : (place : ℕ) (op : Operation) → IsHandling start now i place op → Had start past now i place op
  pub accepted : (write : ℕ) → IsOwnWrite past i write → 0 < (terms past).news write → IsAccepted start past write → IsAccepted start now write
  pub own : (write : ℕ) → IsOwnWrite past i write → IsOwnWrite now i write
  pub zero_news : (write : ℕ) → (terms now).news write ≡ 0 → (terms past).news write ≡ 0

-- a number is zero or not
pub zero_or : {A : Type 0} (n : ℕ) → (n ≡ 0 → A) → (0 < n → A) → A
zero_or {A} n none more = by (nat_eq n 0) refl
  where
    by : (b : Bool) → nat_eq n 0 ≡ b → A
    by true e = none (grind (arith, nat_tests))
    by false e = more (grind (arith, nat_tests))

module _ {start : List Disk} {past now : List Moment} {i : ℕ} (c : Calms start past now i) where
  pub calm_rest : IsRest start past i → IsRest start now i
  calm_rest r = record {
    silent = λ serial place t. r.silent serial place (c.telling serial place t);
    over = λ place op h. (let had = c.handling place op h in had.goes (r.over place had.was had.before));
  }

  pub calm_free : IsFree start past i → IsFree start now i
  calm_free f = record { none = λ serial place a. f.none serial place (c.asking serial place a); rest = calm_rest f.rest }

  pub calm_served : (place write : ℕ) → IsOwnWrite past i write → 0 < (terms past).news write → IsServed start past i place write → IsServed start now i place write
  calm_served place write own more s = record {
    accepted = c.accepted write own more s.accepted;
    handles = λ at op h. s.handles at (c.handling at op h).was (c.handling at op h).before;
    tells = λ serial at t. s.tells serial at (c.telling serial at t);
    status = λ serial at t other op h. (let had = c.handling other op h in had.goes (s.status serial at (c.telling serial at t) other had.was had.before));
    one = λ serial other place at t u. s.one serial other place at (c.telling serial place t) (c.telling other at u);
  }

  pub calm_busy : (place write : ℕ) → IsBusy start past i place write → IsBusy start now i place write
  calm_busy place write b = record {
    own = c.own write b.own;
    only = λ serial at a. b.only serial at (c.asking serial at a);
    waiting = λ e. calm_rest (b.waiting (c.zero_news write e));
    judged = λ l. zero_or ((terms past).news write) (λ e. inl (calm_rest (b.waiting e))) (λ m. by m (b.judged m));
  }
    where
      by : 0 < (terms past).news write → IsRest start past i ⊎ IsServed start past i place write → IsRest start now i ⊎ IsServed start now i place write
      by m (inl r) = inl (calm_rest r)
      by m (inr s) = inr (calm_served place write b.own m s)

-- ---- a note by which nothing is sent and no generation seen

module _ (start : List Disk) (past now : List Moment) (i serial : ℕ) (r : Rests serial (terms past) (terms now)) (for_same : (s : ℕ) → managed_for start now s ≡ managed_for start past s) where
  abbrev t : Terms
  t = terms past

  abbrev u : Terms
  u = terms now

  sent_back : (s : ℕ) (q : Sending) → u.sent s ≡ Some q → t.sent s ≡ Some q
  sent_back s q e = sym (ap (λ (f : ℕ → Option Sending). f s) r.sent) ∙ e

  generation_is : (node : ℕ) → u.generation node ≡ t.generation node
  generation_is node = ap (λ (f : ℕ → ℕ). f node) r.generation

  none_yet : (s : ℕ) → u.news s ≡ 0 → t.news s ≡ 0
  none_yet s e = let x = r.news s in omega (arith, x, e)

  pub rests_asking : (s place : ℕ) → IsAsking now i s place → IsAsking past i s place
  rests_asking s place a = record {
    packet = a.packet;
    sent = sent_back s a.packet a.sent;
    from_is = a.from_is;
    honest = a.honest;
    current = a.current ∙ generation_is (suc i);
    access = a.access;
    spelled = a.spelled;
    writes = a.writes;
    block = a.block;
    small = a.small;
    names = a.names;
    unjudged = none_yet s a.unjudged;
  }

  pub rests_telling : (s place : ℕ) → IsTelling start now i s place → IsTelling start past i s place
  rests_telling s place a = record {
    packet = a.packet;
    sent = sent_back s a.packet a.sent;
    current = a.current ∙ generation_is (suc i);
    op = a.op;
    is_for = sym (for_same s) ∙ a.is_for;
    status = a.status;
    source = a.source ∙ ap (λ (f : ℕ → ℕ → ℕ). f a.packet.generation (suc i)) r.ids;
    small = a.small;
    orb = a.orb;
    unjudged = none_yet s a.unjudged;
  }

  id_same : u.ids (u.generation 0) (suc i) ≡ t.ids (t.generation 0) (suc i)
  id_same = ap (λ (f : ℕ → ℕ → ℕ). f (u.generation 0) (suc i)) r.ids ∙ ap (λ g. t.ids g (suc i)) (generation_is 0)

  pub same_handling : (place : ℕ) (op was : Operation) → (target_at start past).manager.operation ≡ Some was → was.source ≡ op.source → was.orb ≡ op.orb → IsHandling start now i place op → IsHandling start past i place was
  same_handling place op was e f g h = record {
    same = sym (generation_is 0) ∙ h.same ∙ generation_is (suc i);
    is = e;
    source = f ∙ h.source ∙ id_same;
    small = h.small;
    orb = g ∙ h.orb;
  }

  pub rests_handling : Settles (office_at start past) (office_at start now) → (place : ℕ) (op : Operation) → IsHandling start now i place op → Had start past now i place op
  rests_handling (stays e f) place op h = record {
    was = op;
    before = same_handling place op op (ap (λ m. m.operation) (sym e) ∙ h.is) refl refl h;
    goes = λ o. (o.0, ap (λ a. is_nothing a) f ∙ o.1);
  }
  rests_handling (rested e f) place op h = record {
    was = op;
    before = same_handling place op op (ap (λ m. m.operation) (sym e) ∙ h.is) refl refl h;
    goes = λ o. (o.0, ap (λ a. is_nothing a) f);
  }
  rests_handling (none_left e f) place op h = none_is op (sym e ∙ h.is)

  pub replies_handling : Replies (office_at start past) (office_at start now) → (place : ℕ) (op : Operation) → IsHandling start now i place op → Had start past now i place op
  replies_handling k place op h =
      let g = k.goes op h.is in
      record { was = g.was; before = same_handling place op g.was g.is g.source g.orb h; goes = λ o. absurd (g.not_over o.0) }

  pub rests_own : (write : ℕ) → IsOwnWrite past i write → IsOwnWrite now i write
  rests_own write o = record {
    packet = o.packet;
    sent = ap (λ (f : ℕ → Option Sending). f write) r.sent ∙ o.sent;
    from_is = o.from_is;
    to_is = o.to_is;
    honest = o.honest;
    current = o.current ∙ sym (generation_is (suc i));
    label = o.label;
    part = o.part;
  }

  at_agent : (write : ℕ) → IsAtAgent past write → IsAtAgent now write
  at_agent write a = record { access = a.access; asks = ap (λ (f : ℕ → Option Sending). access_in (packet_in (f write))) r.sent ∙ a.asks; at = a.at; serves = a.serves }

  -- where a write is taken now exactly where it was, or was not before
  pub rests_accepted : (write : ℕ) → (((owed : Owed) → IsTaking now write owed → ⊥) → (owed : Owed) → IsTaking past write owed → ⊥) → ((owed : Owed) → IsTaking now write owed → IsBeginning start now) → IsAccepted start past write → IsAccepted start now write
  rests_accepted write back begins a = record {
    at = at_agent write a.at;
    given = λ packet v e f g n h.
        a.given packet v (sent_back write packet e) f (sym (ap (λ (x : Transaction → ℕ). x v) r.current) ∙ g) (back n) (sym (ap (λ (x : Transaction → ℕ). x v) r.given) ∙ h);
    taking = begins;
  }

  pub rests_calm : ((place : ℕ) (op : Operation) → IsHandling start now i place op → Had start past now i place op) → ((write : ℕ) → IsOwnWrite past i write → 0 < t.news write → IsAccepted start past write → IsAccepted start now write) → Calms start past now i
  rests_calm handling accepted = record {
    asking = rests_asking;
    telling = rests_telling;
    handling = handling;
    accepted = accepted;
    own = rests_own;
    zero_news = none_yet;
  }
