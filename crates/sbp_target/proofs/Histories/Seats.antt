-- Which transactions are an agent's, and which the management operation's, as transactions begin, end, and are given up.
use Rattle.std.proofs.Common.{arith, ◌≡◌, ◌≢◌, refl, sym, ap, ◌∙◌, subst, ℕ, ◌||◌, Bool, true, false, Option, Some, None}
use Rattle.std.proofs.lemmas.Bool.Decides.{nat_tests}
use Rattle.async_packet.specs.Labels.{LabelParts}
use Rattle.label_table.specs.declared.reply.ReplyKind.{ReplyKind}
use Rattle.label_table.specs.History.{Life, not_begun, under_way, is_same}
use Rattle.sbp_target.specs.declared.purpose.Purpose.{Purpose}
use Rattle.sbp_target.specs.declared.purpose.Purpose.TheVariants as purposes
use Rattle.sbp_target.specs.declared.purpose.Sent.{Sent}
use Rattle.sbp_target.specs.Sending.{is_sent_as}
use Rattle.sbp_target.specs.Agents.{sent_to}
use Rattle.sbp_target.specs.Desks.{is_that}
use Rattle.sbp_target.proofs.Requests.Telling.{or_left, or_right}

-- what became of each transaction
abbrev pub Lives : Type 0
Lives = ℕ → LabelParts → Life Purpose

-- a transaction is under way for this
pub record IsFor (lives : Lives) (purpose : Purpose) (sent : Sent) : Type 0 where
  pub kind : ReplyKind
  pub life : lives sent.peer sent.label ≡ under_way kind (Some purpose)

-- Of an agent: its main transaction and its read ahead are under way for it, to one node, and nothing else is; the two differ.
pub record Seat (place : ℕ) (main ahead : Option Sent) (to : Option ℕ) (lives : Lives) : Type 0 where
  pub main_for : (sent : Sent) → main ≡ Some sent → IsFor lives (purposes.Agent place) sent × (to ≡ Some sent.peer)
  pub ahead_for : (sent : Sent) → ahead ≡ Some sent → IsFor lives (purposes.Agent place) sent × (to ≡ Some sent.peer)
  pub own : (peer : ℕ) (label : LabelParts) (kind : ReplyKind) → lives peer label ≡ under_way kind (Some (purposes.Agent place)) → (is_that main peer label || is_that ahead peer label) ≡ true
  pub apart : (a b : Sent) → main ≡ Some a → ahead ≡ Some b → is_sent_as a b.peer b.label ≡ false

-- the same transaction, by its parts
pub record Same (p : ℕ) (l : LabelParts) (q : ℕ) (m : LabelParts) : Type 0 where
  pub peer : p ≡ q
  pub label : l ≡ m

label_by : (a b c d e f : ℕ) → a ≡ d → b ≡ e → c ≡ f → record { number = a; generation = b; serial = c } ≡ (let l : LabelParts = record { number = d; generation = e; serial = f } in l)
label_by a b c d e f x y z = cc

pub same_is : (p : ℕ) (l : LabelParts) (q : ℕ) (m : LabelParts) → is_same p l q m ≡ true → Same p l q m
unfolding is_same
same_is p l q m e = record { peer = grind (arith, nat_tests); label = label_by l.number l.generation l.serial m.number m.generation m.serial (grind (arith, nat_tests)) (grind (arith, nat_tests)) (grind (arith, nat_tests)) }

pub same_self : (p : ℕ) (l : LabelParts) → is_same p l p l ≡ true
unfolding is_same
same_self p l = grind (arith, nat_tests)

pub sent_is : (a : Sent) (peer : ℕ) (label : LabelParts) → is_sent_as a peer label ≡ is_same a.peer a.label peer label
unfolding is_same
sent_is a peer label = grind (arith, nat_tests)

pub sent_self : (a : Sent) → is_sent_as a a.peer a.label ≡ true
sent_self a = sent_is a a.peer a.label ∙ same_self a.peer a.label

pub sent_same : (a b : Sent) → is_sent_as a b.peer b.label ≡ true → a ≡ b
sent_same a b e =
    let s = same_is a.peer a.label b.peer b.label (sym (sent_is a b.peer b.label) ∙ e) in
    ap (λ (p : ℕ). sent_to p a.label) s.peer ∙ ap (λ (l : LabelParts). sent_to b.peer l) s.label

-- ---- what a note makes of another transaction's life, and of its own

-- the lives agree but for one transaction
pub record OffOne (peer : ℕ) (label : LabelParts) (old new : Lives) : Type 0 where
  pub off : (p : ℕ) (l : LabelParts) → is_same peer label p l ≡ false → new p l ≡ old p l

-- it is not for this purpose
abbrev pub IsNot : Purpose → Life Purpose → Type 0
IsNot purpose life = (kind : ReplyKind) → life ≢ under_way kind (Some purpose)

-- one is the same as a second and as a third, or it is not
abbrev pub Split : Bool → Type 1
Split b = (C : Type 0) → (b ≡ true → C) → (b ≡ false → C) → C

pub split : (b : Bool) → Split b
split true C p q = p refl
split false C p q = q refl

same_life : (lives : Lives) (p : ℕ) (l : LabelParts) (q : ℕ) (m : LabelParts) → is_same p l q m ≡ true → lives p l ≡ lives q m
same_life lives p l q m e = let s = same_is p l q m e in let a = s.peer in let b = s.label in ap (λ (x : ℕ). lives x l) a ∙ ap (λ (x : LabelParts). lives q x) b

-- whether transaction x is another one than that which changed
other : (lives : Lives) (peer : ℕ) (label : LabelParts) (p : ℕ) (l : LabelParts) (kind : ReplyKind) (purpose : Purpose) → lives p l ≡ under_way kind (Some purpose) → IsNot purpose (lives peer label) → is_same peer label p l ≡ false
other lives peer label p l kind purpose e n =
    split (is_same peer label p l) (is_same peer label p l ≡ false) (λ s. absurd (n kind (same_life lives peer label p l s ∙ e))) (λ f. f)

still : (old new : Lives) (purpose : Purpose) (peer : ℕ) (label : LabelParts) (sent : Sent) → OffOne peer label old new → IsFor old purpose sent → is_same peer label sent.peer sent.label ≡ false → IsFor new purpose sent
still old new purpose peer label sent o f e = record { kind = f.kind; life = o.off sent.peer sent.label e ∙ f.life }

pub was : (old new : Lives) (purpose : Purpose) (peer : ℕ) (label : LabelParts) (p : ℕ) (l : LabelParts) (kind : ReplyKind) → OffOne peer label old new → IsNot purpose (new peer label) → new p l ≡ under_way kind (Some purpose) → (is_same peer label p l ≡ false) × (old p l ≡ under_way kind (Some purpose))
was old new purpose peer label p l kind o n e =
    let f = other new peer label p l kind purpose e n in (f, sym (o.off p l f) ∙ e)

module _ (place : ℕ) (to : Option ℕ) (old new : Lives) (peer : ℕ) (label : LabelParts) (o : OffOne peer label old new) where
  -- another's transaction
  pub seat_kept : (main ahead : Option Sent) → Seat place main ahead to old → IsNot (purposes.Agent place) (old peer label) → IsNot (purposes.Agent place) (new peer label) → Seat place main ahead to new
  seat_kept main ahead s n m = record {
    main_for = λ sent e. let f = s.main_for sent e in (still old new (purposes.Agent place) peer label sent o f.0 (other old peer label sent.peer sent.label f.0.kind (purposes.Agent place) f.0.life n), f.1);
    ahead_for = λ sent e. let f = s.ahead_for sent e in (still old new (purposes.Agent place) peer label sent o f.0 (other old peer label sent.peer sent.label f.0.kind (purposes.Agent place) f.0.life n), f.1);
    own = λ p l kind e. s.own p l kind (was old new (purposes.Agent place) peer label p l kind o m e).1;
    apart = s.apart;
  }

pub behind_that : (a b : Bool) → (a || b) ≡ true → a ≡ false → b ≡ true
behind_that true b e f = cc
behind_that false b e f = e

before_that : (a b : Bool) → (a || b) ≡ true → b ≡ false → (a || false) ≡ true
before_that true b e f = refl
before_that false b e f = cc

same_turned : (p : ℕ) (l : LabelParts) (q : ℕ) (m : LabelParts) → is_same p l q m ≡ is_same q m p l
unfolding is_same
same_turned p l q m = grind (arith, nat_tests)

module _ (place : ℕ) (to : Option ℕ) (old new : Lives) (x : Sent) (o : OffOne x.peer x.label old new) where
  abbrev Mine : Purpose
  Mine = purposes.Agent place

  -- the main transaction ends, or is given up
  pub main_ends : (ahead : Option Sent) → Seat place (Some x) ahead to old → IsNot Mine (new x.peer x.label) → Seat place None ahead to new
  main_ends ahead s n = record {
    main_for = λ sent e. cc;
    ahead_for = λ sent e.
        let f = s.ahead_for sent e in
        (still old new Mine x.peer x.label sent o f.0 (sym (sent_is x sent.peer sent.label) ∙ s.apart x sent refl e), f.1);
    own = λ p l kind e.
        let w = was old new Mine x.peer x.label p l kind o n e in
        behind_that (is_sent_as x p l) (is_that ahead p l) (s.own p l kind w.1) (sent_is x p l ∙ w.0);
    apart = λ a b e f. cc;
  }

  -- the read ahead ends, or is given up
  pub ahead_ends : (main : Option Sent) → Seat place main (Some x) to old → IsNot Mine (new x.peer x.label) → Seat place main None to new
  ahead_ends main s n = record {
    main_for = λ sent e.
        let f = s.main_for sent e in
        (still old new Mine x.peer x.label sent o f.0 (same_turned x.peer x.label sent.peer sent.label ∙ sym (sent_is sent x.peer x.label) ∙ s.apart sent x e refl), f.1);
    ahead_for = λ sent e. cc;
    own = λ p l kind e.
        let w = was old new Mine x.peer x.label p l kind o n e in
        before_that (is_that main p l) (is_sent_as x p l) (s.own p l kind w.1) (sent_is x p l ∙ w.0);
    apart = λ a b e f. cc;
  }

  is_begun : (sent : Sent) → IsFor old Mine sent → old x.peer x.label ≡ not_begun → is_same x.peer x.label sent.peer sent.label ≡ false
  is_begun sent f fresh = other old x.peer x.label sent.peer sent.label f.kind Mine f.life (λ kind e. not_under (sym fresh ∙ e))
    where
      not_under : {kind : ReplyKind} → not_begun ≡ under_way kind (Some Mine) → ⊥
      not_under e = cc

  sent_x : (sent : Sent) → Some x ≡ Some sent → x ≡ sent
  sent_x sent e = cc

  begun_own : (a : Bool) (p : ℕ) (l : LabelParts) (kind : ReplyKind) → ((k : ReplyKind) → old p l ≡ under_way k (Some Mine) → a ≡ true) → new p l ≡ under_way kind (Some Mine) → (is_sent_as x p l || a) ≡ true
  begun_own a p l kind h e =
      split (is_same x.peer x.label p l) ((is_sent_as x p l || a) ≡ true)
      (λ s. or_left (is_sent_as x p l) a (sent_is x p l ∙ s))
      (λ f. or_right (is_sent_as x p l) a (h kind (sym (o.off p l f) ∙ e)))

  pub main_begins : (ahead : Option Sent) (kind : ReplyKind) → Seat place None ahead to old → old x.peer x.label ≡ not_begun → new x.peer x.label ≡ under_way kind (Some Mine) → to ≡ Some x.peer → Seat place (Some x) ahead to new
  main_begins ahead kind s fresh now t = record {
    main_for = λ sent e. subst (λ (y : Sent). IsFor new Mine y × (to ≡ Some y.peer)) (sent_x sent e) (record { kind = kind; life = now }, t);
    ahead_for = λ sent e. let f = s.ahead_for sent e in (still old new Mine x.peer x.label sent o f.0 (is_begun sent f.0 fresh), f.1);
    own = λ p l k e. begun_own (is_that ahead p l) p l k (λ j w. s.own p l j w) e;
    apart = λ a b e f.
        let h = s.ahead_for b f in
        subst (λ (y : Sent). is_sent_as y b.peer b.label ≡ false) (sent_x a e) (sent_is x b.peer b.label ∙ is_begun b h.0 fresh);
  }

  turned_own : (a b : Bool) → (b || a) ≡ true → (a || b) ≡ true
  turned_own true b e = refl
  turned_own false true e = refl
  turned_own false false e = e

  no_more : (a : Bool) → (a || false) ≡ true → a ≡ true
  no_more true e = refl
  no_more false e = e

  pub ahead_begins : (main : Option Sent) (kind : ReplyKind) → Seat place main None to old → old x.peer x.label ≡ not_begun → new x.peer x.label ≡ under_way kind (Some Mine) → to ≡ Some x.peer → Seat place main (Some x) to new
  ahead_begins main kind s fresh now t = record {
    main_for = λ sent e. let f = s.main_for sent e in (still old new Mine x.peer x.label sent o f.0 (is_begun sent f.0 fresh), f.1);
    ahead_for = λ sent e. subst (λ (y : Sent). IsFor new Mine y × (to ≡ Some y.peer)) (sent_x sent e) (record { kind = kind; life = now }, t);
    own = λ p l k e. turned_own (is_that main p l) (is_sent_as x p l) (begun_own (is_that main p l) p l k (λ j w. no_more (is_that main p l) (s.own p l j w)) e);
    apart = λ a b e f.
        let h = s.main_for a e in
        subst (λ (y : Sent). is_sent_as a y.peer y.label ≡ false) (sent_x b f) (sent_is a x.peer x.label ∙ same_turned a.peer a.label x.peer x.label ∙ is_begun a h.0 fresh);
  }

module _ (place : ℕ) (lives : Lives) where
  -- the read ahead becomes the main transaction
  pub seat_promoted : (to : Option ℕ) (ahead : Option Sent) → Seat place None ahead to lives → Seat place ahead None to lives
  seat_promoted to ahead s = record {
    main_for = s.ahead_for;
    ahead_for = λ sent e. cc;
    own = λ p l k e. first_that (is_that ahead p l) (s.own p l k e);
    apart = λ a b e f. cc;
  }
    where
      first_that : (a : Bool) → a ≡ true → (a || false) ≡ true
      first_that true e = refl
      first_that false e = e

  -- one without a transaction may have any login
  pub seat_moved : (to other_to : Option ℕ) → Seat place None None to lives → Seat place None None other_to lives
  seat_moved to other_to s = record { main_for = λ sent e. cc; ahead_for = λ sent e. cc; own = s.own; apart = s.apart }

  pub seat_empty : (to : Option ℕ) → ((p : ℕ) (l : LabelParts) → IsNot (purposes.Agent place) (lives p l)) → Seat place None None to lives
  seat_empty to h = record { main_for = λ sent e. cc; ahead_for = λ sent e. cc; own = λ p l k e. absurd (h p l k e); apart = λ a b e f. cc }

-- ---- the management operation: its request, where one is under way
pub record Hand (request : Option Sent) (lives : Lives) : Type 0 where
  pub is_for : (sent : Sent) → request ≡ Some sent → IsFor lives purposes.Management sent
  pub own : (peer : ℕ) (label : LabelParts) (kind : ReplyKind) → lives peer label ≡ under_way kind (Some purposes.Management) → is_that request peer label ≡ true

pub hand_kept : (old new : Lives) (peer : ℕ) (label : LabelParts) (request : Option Sent) → OffOne peer label old new → Hand request old → IsNot purposes.Management (old peer label) → IsNot purposes.Management (new peer label) → Hand request new
hand_kept old new peer label request o h n m = record {
  is_for = λ sent e. let f = h.is_for sent e in still old new purposes.Management peer label sent o f (other old peer label sent.peer sent.label f.kind purposes.Management f.life n);
  own = λ p l kind e. h.own p l kind (was old new purposes.Management peer label p l kind o m e).1;
}

pub hand_ends : (old new : Lives) (x : Sent) → OffOne x.peer x.label old new → Hand (Some x) old → IsNot purposes.Management (new x.peer x.label) → Hand None new
hand_ends old new x o h n = record {
  is_for = λ sent e. cc;
  own = λ p l kind e.
      let w = was old new purposes.Management x.peer x.label p l kind o n e in
      absurd (both (is_sent_as x p l) (h.own p l kind w.1) (sent_is x p l ∙ w.0));
}
  where
    both : (b : Bool) → b ≡ true → b ≡ false → ⊥
    both true e f = cc
    both false e f = cc

pub hand_begins : (old new : Lives) (x : Sent) (kind : ReplyKind) → OffOne x.peer x.label old new → Hand None old → new x.peer x.label ≡ under_way kind (Some purposes.Management) → Hand (Some x) new
hand_begins old new x kind o h now = record {
  is_for = λ sent e. subst (λ (y : Sent). IsFor new purposes.Management y) (one sent e) (record { kind = kind; life = now });
  own = λ p l k e.
      split (is_same x.peer x.label p l) (is_sent_as x p l ≡ true)
      (λ s. sent_is x p l ∙ s)
      (λ f. absurd (nothing (h.own p l k (sym (o.off p l f) ∙ e))));
}
  where
    one : (sent : Sent) → Some x ≡ Some sent → x ≡ sent
    one sent e = cc

    nothing : false ≡ true → ⊥
    nothing e = cc

pub hand_empty : (lives : Lives) → ((p : ℕ) (l : LabelParts) → IsNot purposes.Management (lives p l)) → Hand None lives
hand_empty lives h = record { is_for = λ sent e. cc; own = λ p l k e. absurd (h p l k e) }
