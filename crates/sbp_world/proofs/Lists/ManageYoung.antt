-- An initiator that sees a later generation has nothing in hand of its management then: what the target has and tells is of generations that it saw.
use Rattle.sbp_world.proofs.Words.Std.{arith, ◌≡◌, ◌∙◌, ◌⊎◌, inl, inr, refl, sym, ap, subst, ℕ, zero, suc, ◌≤◌, ◌<◌, ◌&&◌, not, nat_eq, Bool, true, false, cond, List, [], ◌∷◌, Option, Some, None, nat_tests}
use Rattle.sbp_world.proofs.Words.Wire.{SerialsCount, Moment, asked, said, Sending, Terms, terms, Event, Note}
use Rattle.sbp_world.proofs.Words.Target.{Operation, Disk}
use Rattle.sbp_world.proofs.Words.Laws.{is_nothing, is_serial, target_at}
use Rattle.sbp_world.proofs.Words.World.{is_its_packet, managed_for, operation_if, IsFree}
use Rattle.bus_transactions.proofs.Facts.{Facts}
use Rattle.sbp_journal.specs.declared.note.Note.TheVariants as notes
use Rattle.sbp_world.proofs.Lists.ManageKnown.{OfWire, before_it, current_of}
use Rattle.sbp_world.proofs.Lists.ManageOffices.{GotAs, Lingers, Replies, Settles, got_as, got_other, got_replies, got_settles, got_starts, ignored_settles, key_lingers, line_settles, none_left, note_lingers, office_at, rested, sees_none, sent_office, settles_of, sight_settles, stays, tick_settles, timed_by}
use Rattle.sbp_world.proofs.Lists.ManageSends.{opened_terms, sent_is, sent_other, sent_terms}
use Rattle.sbp_world.proofs.Lists.ManageSent.{for_below, for_one}
use Rattle.sbp_world.proofs.Lists.ManageTerms.{Rests, got_rests, ignored_rests, none_is, rests_on, same_some, timed_rests}
use Rattle.sbp_world.proofs.Lists.Rises.{Rises}
use Rattle.sbp_world.proofs.Common.{untrue}

pub record Young (start : List Disk) (past : List Moment) (i : ℕ) : Type 0 where
  pub op : (op : Operation) → (target_at start past).manager.operation ≡ Some op → op.source ≡ (terms past).ids ((terms past).generation 0) (suc i) → (terms past).generation 0 ≤ (terms past).generation (suc i)
  pub told : (s : ℕ) (q : Sending) (op : Operation) → (terms past).sent s ≡ Some q → managed_for start past s ≡ Some op → op.source ≡ (terms past).ids q.generation (suc i) → q.generation ≤ (terms past).generation (suc i)

-- ---- an operation was there, of the same node

record Was (start : List Disk) (past : List Moment) (op : Operation) : Type 0 where
  was : Operation
  is : (target_at start past).manager.operation ≡ Some was
  source : was.source ≡ op.source

settles_was : (start : List Disk) (past now : List Moment) → Settles (office_at start past) (office_at start now) → (op : Operation) → (target_at start now).manager.operation ≡ Some op → Was start past op
settles_was start past now (stays e f) op g = record { was = op; is = ap (λ m. m.operation) (sym e) ∙ g; source = refl }
settles_was start past now (rested e f) op g = record { was = op; is = ap (λ m. m.operation) (sym e) ∙ g; source = refl }
settles_was start past now (none_left e f) op g = none_is op (sym e ∙ g)

replies_was : (start : List Disk) (past now : List Moment) → Replies (office_at start past) (office_at start now) → (op : Operation) → (target_at start now).manager.operation ≡ Some op → Was start past op
replies_was start past now k op g = let w = k.goes op g in record { was = w.was; is = w.is; source = w.source }

-- ---- a note by which nothing is sent and no generation seen

module _ (start : List Disk) (past now : List Moment) (i serial : ℕ) (r : Rests serial (terms past) (terms now)) (for_same : (s : ℕ) → managed_for start now s ≡ managed_for start past s) where
  id_is : (g : ℕ) → (terms now).ids g (suc i) ≡ (terms past).ids g (suc i)
  id_is g = ap (λ (f : ℕ → ℕ → ℕ). f g (suc i)) r.ids

  generation_is : (node : ℕ) → (terms now).generation node ≡ (terms past).generation node
  generation_is node = ap (λ (f : ℕ → ℕ). f node) r.generation

  rests_told : Young start past i → (s : ℕ) (q : Sending) (op : Operation) → (terms now).sent s ≡ Some q → managed_for start now s ≡ Some op → op.source ≡ (terms now).ids q.generation (suc i) → q.generation ≤ (terms now).generation (suc i)
  rests_told y s q op e f g =
      let l = y.told s q op (ap (λ (k : ℕ → Option Sending). k s) (sym r.sent) ∙ e) (sym (for_same s) ∙ f) (g ∙ id_is q.generation) in
      let x = generation_is (suc i) in
      omega (arith, l, x)

  rests_young : ((op : Operation) → (target_at start now).manager.operation ≡ Some op → Was start past op) → Young start past i → Young start now i
  rests_young back y = record {
    op = λ op e f.
        let w = back op e in
        let l = y.op w.was w.is (w.source ∙ f ∙ id_is ((terms now).generation 0) ∙ ap (λ g. (terms past).ids g (suc i)) (generation_is 0)) in
        let a = generation_is 0 in
        let b = generation_is (suc i) in
        omega (arith, l, a, b);
    told = rests_told y;
  }

quiet_young : (start : List Disk) (past : List Moment) (i : ℕ) (note : Note) → Rests 0 (terms past) (terms (said note ∷ past)) → ((s : ℕ) → managed_for start (said note ∷ past) s ≡ managed_for start past s) → Lingers (office_at start past) (office_at start (said note ∷ past)) → Young start past i → Young start (said note ∷ past) i
quiet_young start past i note r same l y = rests_young start past (said note ∷ past) i 0 r same (settles_was start past (said note ∷ past) (settles_of l)) y

-- ---- a packet is got

module _ (start : List Disk) (past : List Moment) (i serial : ℕ) (q : Sending) (sent : (terms past).sent serial ≡ Some q) (facts : Facts (terms past)) (current : q.generation ≡ (terms past).generation q.to) (y : Young start past i) where
  abbrev got_now : List Moment
  got_now = said (notes.Got serial) ∷ past

  abbrev t : Terms
  t = terms past

  r : Rests serial t (terms got_now)
  r = got_rests serial past

  got_op : nat_eq q.to 0 ≡ true → GotAs start past serial q → Young start got_now i
  got_op to (got_settles k) = rests_young start past got_now i serial r (λ s. refl) (settles_was start past got_now k) y
  got_op to (got_replies k) = rests_young start past got_now i serial r (λ s. refl) (replies_was start past got_now k) y
  got_op to (got_starts s) = record {
    op = λ op e f.
        let same = same_some _ op (sym s.now ∙ e) in
        let ids : (terms got_now).ids ((terms got_now).generation 0) (suc i) ≡ t.ids (t.generation 0) (suc i) = ap (λ (x : ℕ → ℕ → ℕ). x ((terms got_now).generation 0) (suc i)) r.ids ∙ ap (λ (x : ℕ → ℕ). t.ids (x 0) (suc i)) r.generation in
        let from_is : q.from ≡ suc i = facts.apart (t.generation 0) q.from (suc i) (ap (λ (x : Operation). x.source) same ∙ f ∙ ids) in
        let l = (facts.honest serial q sent).past in
        let z : q.to ≡ 0 = grind (arith, nat_tests) in
        let c = current ∙ ap t.generation z in
        let a = ap t.generation from_is in
        let b = ap (λ (x : ℕ → ℕ). x 0) r.generation in
        let d = ap (λ (x : ℕ → ℕ). x (suc i)) r.generation in
        omega (arith, l, c, a, b, d);
    told = rests_told start past got_now i serial r (λ s. refl) y;
  }

  got_young : Young start got_now i
  got_young = by (nat_eq q.to 0) refl
    where
      by : (b : Bool) → nat_eq q.to 0 ≡ b → Young start got_now i
      by true e = got_op e (got_as start past serial q sent)
      by false e = rests_young start past got_now i serial r (λ s. refl) (settles_was start past got_now (got_other start past serial q sent e)) y

-- ---- a packet is sent

module _ (start : List Disk) (past : List Moment) (i serial generation from to : ℕ) (bytes : List ℕ) (count : SerialsCount (said (notes.Sent serial generation from to bytes) ∷ past)) (now_is : generation ≡ (terms past).generation from) (y : Young start past i) where
  abbrev sent_now : List Moment
  sent_now = said (notes.Sent serial generation from to bytes) ∷ past

  abbrev q : Sending
  q = record { generation = generation; from = from; to = to; bytes = bytes; injected = (terms past).injected serial }

  -- an operation that asked for something
  its_by : (a b c : Bool) (operation : Option Operation) (op : Operation) → operation_if (not a && (b && c)) operation ≡ Some op → operation ≡ Some op
  its_by true b c operation op e = none_is op e
  its_by false true true operation op e = e
  its_by false true false operation op e = none_is op e
  its_by false false c operation op e = none_is op e

  its : (node : ℕ) → from ≡ node → (op : Operation) → managed_for start sent_now serial ≡ Some op → (from ≡ 0) × ((target_at start past).manager.operation ≡ Some op)
  its (suc j) e op g =
      let h : managed_for start past serial ≡ Some op = subst (λ n. managed_for start (said (notes.Sent serial generation n to bytes) ∷ past) serial ≡ Some op) e g in
      let l = for_below start past serial op count.1 h in
      let n = count.0 in
      absurd (omega (arith, l, n))
  its zero e op g = (e, by (nat_eq serial serial) (let x : nat_eq serial serial ≡ true = grind (arith, nat_tests) in x) (subst (λ n. managed_for start (said (notes.Sent serial generation n to bytes) ∷ past) serial ≡ Some op) e g))
    where
      there : List Moment
      there = said (notes.Sent serial generation zero to bytes) ∷ past

      by : (b : Bool) → b ≡ true → cond b (operation_if (is_its_packet (target_at start past) (target_at start there) serial) (target_at start past).manager.operation) (managed_for start past serial) ≡ Some op → (target_at start past).manager.operation ≡ Some op
      by true x z = its_by (is_nothing (target_at start past).manager_asks) (is_nothing (target_at start there).manager_asks) (is_serial (target_at start there).manages serial) (target_at start past).manager.operation op z
      by false x z = untrue x

  told_sent : (s : ℕ) (p : Sending) (op : Operation) → (terms sent_now).sent s ≡ Some p → managed_for start sent_now s ≡ Some op → op.source ≡ (terms sent_now).ids p.generation (suc i) → p.generation ≤ (terms sent_now).generation (suc i)
  told_sent s p op e f g = by (nat_eq s serial) refl
    where
      old : (managed_for start past s ≡ Some op) ⊎ (s ≡ serial) → nat_eq s serial ≡ false → managed_for start past s ≡ Some op
      old (inl x) d = x
      old (inr x) d = let z : nat_eq s serial ≡ true = grind (arith, nat_tests) in untrue (sym d ∙ z)

      by : (b : Bool) → nat_eq s serial ≡ b → p.generation ≤ (terms sent_now).generation (suc i)
      by true d =
          let is : s ≡ serial = grind (arith, nat_tests) in
          let k = its from refl op (subst (λ n. managed_for start sent_now n ≡ Some op) is f) in
          let same : q ≡ p = sent_is serial q p (terms past).sent (sym (ap (λ (x : ℕ → Option Sending). x serial) (sent_terms serial q (terms past)).sent) ∙ subst (λ n. (terms sent_now).sent n ≡ Some p) is e) in
          let pg : p.generation ≡ (terms past).generation 0 = ap (λ (x : Sending). x.generation) (sym same) ∙ now_is ∙ ap (terms past).generation k.0 in
          let ids : (terms sent_now).ids p.generation (suc i) ≡ (terms past).ids ((terms past).generation 0) (suc i) = ap (λ (x : ℕ → ℕ → ℕ). x p.generation (suc i)) (sent_terms serial q (terms past)).ids ∙ ap (λ n. (terms past).ids n (suc i)) pg in
          let l = y.op op k.1 (g ∙ ids) in
          let a = ap (λ (x : ℕ → ℕ). x (suc i)) (sent_terms serial q (terms past)).generation in
          omega (arith, l, pg, a)
      by false d =
          let l = y.told s p op (sym (sent_other serial s q (terms past).sent d) ∙ sym (ap (λ (x : ℕ → Option Sending). x s) (sent_terms serial q (terms past)).sent) ∙ e) (old (for_one start serial generation from to bytes past s op f) d) (g ∙ ap (λ (x : ℕ → ℕ → ℕ). x p.generation (suc i)) (sent_terms serial q (terms past)).ids) in
          let a = ap (λ (x : ℕ → ℕ). x (suc i)) (sent_terms serial q (terms past)).generation in
          omega (arith, l, a)

  sent_young : Young start sent_now i
  sent_young = record {
    op = λ op e f.
        let S = sent_terms serial q (terms past) in
        let o = sent_office start serial generation from to bytes past in
        let g = ap (λ (x : ℕ → ℕ). x 0) S.generation in
        let l = y.op op (ap (λ m. m.operation) (sym o.manager_is) ∙ e) (f ∙ ap (λ (x : ℕ → ℕ → ℕ). x ((terms sent_now).generation 0) (suc i)) S.ids ∙ ap (λ n. (terms past).ids n (suc i)) g) in
        let a = ap (λ (x : ℕ → ℕ). x (suc i)) S.generation in
        omega (arith, l, g, a);
    told = told_sent;
  }

-- ---- a line begins

line_young : (start : List Disk) (line : ℕ) (event : Event) (past : List Moment) (i : ℕ) → Facts (terms past) → Young start past i → Young start (asked line event ∷ past) i
line_young start line event past i f y =
    let o = opened_terms event (terms past) in
    let now = asked line event ∷ past in
    let g = ap (λ (x : ℕ → ℕ). x 0) o.generation in
    let a = ap (λ (x : ℕ → ℕ). x (suc i)) o.generation in
    record {
      op = λ op e h.
          let w = settles_was start past now (line_settles start line event past) op e in
          let l = y.op w.was w.is (w.source ∙ h ∙ ap (λ n. (terms now).ids n (suc i)) g ∙ o.ids ((terms past).generation 0) (suc i) (f.aged 0)) in
          omega (arith, l, g, a);
      told = λ s q op e h k.
          let there : (terms past).sent s ≡ Some q = ap (λ (x : ℕ → Option Sending). x s) (sym o.sent) ∙ e in
          let b = (f.honest s q there).past in
          let c = f.aged q.from in
          let l = y.told s q op there h (k ∙ o.ids q.generation (suc i) (omega (arith, b, c))) in
          omega (arith, l, a);
    }

-- ---- a generation is seen

module _ (start : List Disk) (node generation : ℕ) (past : List Moment) (i : ℕ) (rises : (terms past).generation node ≤ generation) (y : Young start past i) where
  abbrev seen_now : List Moment
  seen_now = said (notes.Seen node generation) ∷ past

  own_later : (terms past).generation (suc i) ≤ (terms seen_now).generation (suc i)
  own_later = by (nat_eq (suc i) node) refl
    where
      by : (b : Bool) → nat_eq (suc i) node ≡ b → (terms past).generation (suc i) ≤ cond b generation ((terms past).generation (suc i))
      by true e = let is : node ≡ suc i = grind (arith, nat_tests) in let x = ap (terms past).generation is in let r = rises in omega (arith, x, r)
      by false e = omega arith

  seen_op : (op : Operation) → (target_at start seen_now).manager.operation ≡ Some op → op.source ≡ (terms seen_now).ids ((terms seen_now).generation 0) (suc i) → (terms seen_now).generation 0 ≤ (terms seen_now).generation (suc i)
  seen_op op e f = by (nat_eq 0 node) (nat_eq generation ((terms past).generation 0)) refl refl
    where
      kept : (terms seen_now).generation 0 ≡ (terms past).generation 0 → (terms seen_now).generation 0 ≤ (terms seen_now).generation (suc i)
      kept g =
          let w = settles_was start past seen_now (sight_settles start node generation past) op e in
          let l = y.op w.was w.is (w.source ∙ f ∙ ap (λ n. (terms past).ids n (suc i)) g) in
          let m = own_later in
          omega (arith, l, m, g)

      by : (b c : Bool) → nat_eq 0 node ≡ b → nat_eq generation ((terms past).generation 0) ≡ c → (terms seen_now).generation 0 ≤ (terms seen_now).generation (suc i)
      by false c g h = kept (ap (λ b. cond b generation ((terms past).generation 0)) g)
      by true true g h = kept (ap (λ b. cond b generation ((terms past).generation 0)) g ∙ (let x : generation ≡ (terms past).generation 0 = grind (arith, nat_tests) in x))
      by true false g h =
          let is : 0 ≡ node = grind (arith, nat_tests) in
          none_is op (sym (subst (λ n. (target_at start (said (notes.Seen n generation) ∷ past)).manager.operation ≡ None) is (sees_none start generation past h)) ∙ e)

  seen_young : Young start seen_now i
  seen_young = record {
    op = seen_op;
    told = λ s q op e f g. (let l = y.told s q op e f g in let m = own_later in omega (arith, l, m));
  }

-- ---- all

begun_was : (start : List Disk) (initiators : ℕ) (ready : Bool) (past : List Moment) (op : Operation) → (target_at start (said (notes.Begin initiators ready) ∷ past)).manager.operation ≡ Some op → Was start past op
begun_was start initiators ready past op e = record { was = op; is = e; source = refl }

pub young : (start : List Disk) (past : List Moment) (i : ℕ) → OfWire past → Rises past → Young start past i
young start [] i w r = record { op = λ op e f. none_is op e; told = λ s q op e f g. none_is q e }
young start (asked line event ∷ past) i w r = line_young start line event past i w.moments.0 (young start past i (before_it (asked line event) past w) r.1)
young start (said (notes.Sent serial generation from to bytes) ∷ past) i w r =
    sent_young start past i serial generation from to bytes w.serials w.moments.0.now (young start past i (before_it (said (notes.Sent serial generation from to bytes)) past w) r.1)
young start (said (notes.Got serial) ∷ past) i w r =
    let g = w.moments.0 in
    got_young start past i serial g.packet g.sent g.facts (current_of past g.packet (w.judged.0 g.packet g.sent)) (young start past i (before_it (said (notes.Got serial)) past w) r.1)
young start (said (notes.Ignored serial cause) ∷ past) i w r =
    let now = said (notes.Ignored serial cause) ∷ past in
    rests_young start past now i serial (ignored_rests serial cause past) (λ s. refl) (settles_was start past now (ignored_settles start serial cause past)) (young start past i (before_it (said (notes.Ignored serial cause)) past w) r.1)
young start (said (notes.TimedOut serial) ∷ past) i w r =
    let l = w.moments.0 in
    let now = said (notes.TimedOut serial) ∷ past in
    rests_young start past now i serial (timed_rests serial past) (λ s. refl)
    (timed_by start serial past l.packet l.sent ((op : Operation) → (target_at start now).manager.operation ≡ Some op → Was start past op) (settles_was start past now) (replies_was start past now))
    (young start past i (before_it (said (notes.TimedOut serial)) past w) r.1)
young start (said (notes.Seen node generation) ∷ past) i w r = seen_young start node generation past i r.0 (young start past i (before_it (said (notes.Seen node generation)) past w) r.1)
young start (said notes.Tick ∷ past) i w r =
    let now = said notes.Tick ∷ past in
    rests_young start past now i 0 (rests_on 0 (terms past) (terms now) refl refl refl refl refl refl) (λ s. refl) (settles_was start past now (tick_settles start past)) (young start past i (before_it (said notes.Tick) past w) r.1)
young start (said (notes.Key unit) ∷ past) i w r =
    quiet_young start past i (notes.Key unit) (rests_on 0 _ _ refl refl refl refl refl refl) (λ s. refl) (key_lingers start unit past) (young start past i (before_it (said (notes.Key unit)) past w) r.1)
young start (said (notes.Begin initiators ready) ∷ past) i w r =
    rests_young start past (said (notes.Begin initiators ready) ∷ past) i 0 (rests_on 0 _ _ refl refl refl refl refl refl) (λ s. refl) (λ op e. begun_was start initiators ready past op e) (young start past i (before_it (said (notes.Begin initiators ready)) past w) r.1)
young start (said note ∷ past) i w r =
    quiet_young start past i note (rests_on 0 _ _ refl refl refl refl refl refl) (λ s. refl) (note_lingers start note past tt) (young start past i (before_it (said note) past w) r.1)

-- ---- behind a later generation

pub seen_free : (start : List Disk) (generation : ℕ) (past : List Moment) (i : ℕ) → Facts (terms past) → Young start past i → (terms past).generation (suc i) ≤ generation → nat_eq generation ((terms past).generation (suc i)) ≡ false → IsFree start (said (notes.Seen (suc i) generation) ∷ past) i
seen_free start generation past i f y rises new =
    let now = said (notes.Seen (suc i) generation) ∷ past in
    let own : (terms now).generation (suc i) ≡ generation = ap (λ b. cond b generation ((terms past).generation (suc i))) (let x : nat_eq (suc i) (suc i) ≡ true = grind (arith, nat_tests) in x) in
    let target : (terms now).generation 0 ≡ (terms past).generation 0 = ap (λ b. cond b generation ((terms past).generation 0)) (let x : nat_eq 0 (suc i) ≡ false = grind (arith, nat_tests) in x) in
    let later : (terms past).generation (suc i) < generation = later_than ((terms past).generation (suc i)) generation rises new in
    record {
      none = λ s place a.
          let l = (f.honest s a.packet a.sent).past in
          let x = ap (terms past).generation a.from_is in
          let c = a.current in
          absurd (omega (arith, l, x, c, own, later));
      rest = record {
        silent = λ s place a.
            let l = y.told s a.packet a.op a.sent a.is_for a.source in
            let c = a.current in
            absurd (omega (arith, l, c, own, later));
        over = λ place op h.
            let w = settles_was start past now (sight_settles start (suc i) generation past) op h.is in
            let l = y.op w.was w.is (w.source ∙ h.source ∙ ap (λ n. (terms past).ids n (suc i)) target) in
            let c = h.same in
            absurd (omega (arith, l, c, own, target, later));
      };
    }
  where
    later_than : (a b : ℕ) → a ≤ b → nat_eq b a ≡ false → a < b
    later_than a b l e = grind (arith, nat_tests)
