-- In every run each transaction that is under way in an initiator's layer is with its target.
use Rattle.sbp_world.proofs.Words.Std.{◌≡◌, refl, sym, ◌∙◌, ap, subst, ℕ, ◌+◌, nat_lt, Bool, true, false, cond, List, [], ◌∷◌, Option, Some, None}
use Rattle.sbp_world.proofs.Words.Wire.{LabelParts, ReplyKind, and_before, forgotten, life, not_begun, under_way, Layer, expiring_step, judging_step, seeing_step, seen_in_generation, OutboxState, empty_outbox, Moment}
use Rattle.sbp_world.proofs.Words.Initiator.{Purpose, InitiatorState, act_step, dropped_as, new_state, expire_step, receive_step, interrupted, resets_told, see_step, seen_as, wanted_body, ListState, drop_lists, acts, lets_expire, receives, sees}
use Rattle.label_table.specs.History as wire
use Rattle.sbp_initiator.specs.declared.purpose.Purpose.TheVariants as purposes
use Rattle.sbp_initiator.proofs.Histories.Over.{sound}
use Rattle.sbp_world.proofs.Hosts.ActLeft.{act_left}
use Rattle.sbp_world.proofs.Hosts.Calling.{IsOwn, own_first, own_on}
use Rattle.sbp_world.proofs.Hosts.Carries.{Carries, Nothing}
use Rattle.sbp_world.proofs.Hosts.Layered.{LayerLeft, expire_left, read, receive_left, same}
use Rattle.sbp_world.proofs.Hosts.Lives.{At, AskedAt, Called, ask_at, asked_now, at_life, expire_at, judge_at, was_asked}
use Rattle.sbp_world.proofs.Hosts.Pointed.{expired_called, judged_called, stale_is}
use Rattle.sbp_world.proofs.Hosts.Pointing.{at_same}
use Rattle.sbp_world.proofs.Pointers.Finds.{none_ended}

-- each one is with this peer
abbrev pub Aims : Layer Purpose → ℕ → Type 0
Aims layer target = (peer number : ℕ) (purpose : Option Purpose) → At layer peer number purpose → peer ≡ target

pub record IsAimed (ready : Bool) (i : ℕ) (s : InitiatorState) : Type 0 where
  pub own : IsOwn ready i s
  pub aims : Aims s.layer s.target

pub own_called : (ready : Bool) (i : ℕ) (s : InitiatorState) → IsOwn ready i s → Called s.layer
own_called ready i s h =
    let k = (sound i ready h.called.calls).wires in
    record { node = 0xffc1 + i; calls = k.calls; is = k.layer_is ∙ ap (λ (x : InitiatorState). x.layer) h.called.is }

-- behind a delivery and a time-out
left_aims : (l : Layer Purpose) (target : ℕ) (now : Layer Purpose) → Called l → LayerLeft l target now → Aims l target → Aims now target
left_aims l target now c (same g p) h = λ peer m q a. h peer m q (at_same now l peer m q (sym p) a)
left_aims l target now c (read body act asked step) h = λ peer m q a. by_asked peer m q (ask_at l target body (purposes.Rom act) asked now peer m q c step a)
  where
    by_asked : (peer m : ℕ) (q : Option Purpose) → AskedAt l target asked (purposes.Rom act) peer m q → peer ≡ target
    by_asked peer m q (asked_now p n e) = p
    by_asked peer m q (was_asked a) = h peer m q a

seen_none : (layer : Layer Purpose) (generation id : ℕ) → Called layer → nat_lt layer.generation generation ≡ true → (peer number : ℕ) (purpose : Option Purpose) → At (seen_in_generation layer generation id) peer number purpose → ⊥
unfolding seeing_step
seen_none layer generation id c later peer number purpose a =
    let call = wire.sees generation id in
    let old = wire.after c.node c.calls in
    let now = wire.after c.node (call ∷ c.calls) in
    let old_later : nat_lt old.generation generation ≡ true = ap (λ (l : Layer Purpose). nat_lt l.generation generation) c.is ∙ later in
    let is : now ≡ seen_in_generation layer generation id =
    ap (λ (b : Bool). (cond {A = Bool × Layer Purpose} b (true, seen_in_generation old generation id) (false, old)).1) old_later ∙ ap (λ (l : Layer Purpose). seen_in_generation l generation id) c.is in
    let b : At now peer number purpose = subst (λ (l : Layer Purpose). At l peer number purpose) (sym is) a in
    let name : LabelParts = record { number = number; generation = now.generation; serial = b.serial } in
    let w = at_life c.node (call ∷ c.calls) peer number purpose b in
    none_ended (life peer name (wire.history c.node c.calls)) b.kind purpose
    (subst (λ (d : Bool). life peer name (and_before (cond d (Some forgotten) None) (wire.history c.node c.calls)) ≡ under_way b.kind purpose) old_later w)

drop_layer : (r : Option ℕ × ListState) (o : OutboxState) (s : InitiatorState) → ((dropped_as r o s).1.layer ≡ s.layer) × ((dropped_as r o s).1.target ≡ s.target)
drop_layer (None, lists) o s = (refl, refl)
drop_layer (Some n, lists) o s = (refl, refl)

seen_aims : (b : Bool) (generation id target : ℕ) (s : InitiatorState) → nat_lt s.layer.generation generation ≡ b → Called s.layer → Aims s.layer s.target → Aims (seen_as (cond b (true, seen_in_generation s.layer generation id) (false, s.layer)) target empty_outbox s).1.layer (seen_as (cond b (true, seen_in_generation s.layer generation id) (false, s.layer)) target empty_outbox s).1.target
seen_aims true generation id target s e c h = λ peer m q a.
    let new = seen_in_generation s.layer generation id in
    let u = interrupted (record s { layer = new }) target in
    let d = drop_layer (drop_lists u.lists) (resets_told s.number s.operation s.states empty_outbox) u in
    absurd (seen_none s.layer generation id c e peer m q (subst (λ (l : Layer Purpose). At l peer m q) d.0 a))
seen_aims false generation id target s e c h = h

see_aims : (generation id target : ℕ) (s : InitiatorState) → Called s.layer → Aims s.layer s.target → Aims (see_step generation id target empty_outbox s).1.layer (see_step generation id target empty_outbox s).1.target
unfolding see_step seeing_step
see_aims generation id target s c h = seen_aims (nat_lt s.layer.generation generation) generation id target s refl c h

abbrev pub Aimeds : Bool → List Moment → ℕ → InitiatorState → Type 0
Aimeds ready past i s = IsAimed ready i s

module _ (ready : Bool) where
  hears_aimed : (generation : ℕ) (bytes : List ℕ) (i : ℕ) (s : InitiatorState) → IsAimed ready i s → IsAimed ready i (receive_step generation bytes empty_outbox s).1.1
  hears_aimed generation bytes i s h =
      let left = receive_left generation bytes s in
      let c = own_called ready i s h.own in
      let l = (judging_step s.layer generation bytes).1 in
      record {
        own = own_on ready i s (receives generation bytes) tt h.own;
        aims = λ peer m q a. left_aims l s.target (receive_step generation bytes empty_outbox s).1.1.layer (judged_called ready s.layer generation bytes c) left.layer (λ p n x b. h.aims p n x (judge_at s.layer generation bytes p n x c b)) peer m q a ∙ sym left.target_is;
      }

  expires_aimed : (label : LabelParts) (i : ℕ) (s : InitiatorState) → IsAimed ready i s → IsAimed ready i (expire_step label empty_outbox s).1.1
  expires_aimed label i s h =
      let left = expire_left label s in
      let c = own_called ready i s h.own in
      let l = (expiring_step s.layer s.target label).1 in
      record {
        own = own_on ready i s (lets_expire label) tt h.own;
        aims = λ peer m q a. left_aims l s.target (expire_step label empty_outbox s).1.1.layer (expired_called ready s.layer s.target label c) left.layer (λ p n x b. h.aims p n x (expire_at s.layer s.target label p n x c b)) peer m q a ∙ sym left.target_is;
      }

  pub aimed_carried : Carries Nothing (Aimeds ready)
  aimed_carried = record {
    known = λ line event past i s h. tt;
    number = λ past i s h. h.own.number;
    asked = λ line event past i s h. h;
    apart = λ note past i s e w h. h;
    sent = λ serial generation from to bytes past i s n h. h;
    hears = λ serial generation bytes past i s heard shown after h. record { own = hears_aimed generation bytes i s h; others = λ j x e g. g };
    expires = λ serial label past i s after h. record { own = expires_aimed label i s h; others = λ j x e g. g };
    stale = λ label past i s e h. subst (λ (x : InitiatorState). IsAimed ready i x) (sym (stale_is ready label s e)) h;
    sees = λ generation id target past i s e h. record { own = record { own = own_on ready i s (sees generation id target) tt h.own; aims = see_aims generation id target s (own_called ready i s h.own) h.aims }; others = λ j x f g. g };
    acts = λ action past i s e fit d shown known h.
        let t = (act_step action empty_outbox s).1 in
        let left = act_left action s d in
        let own = own_on ready i s (acts action) fit.0 h.own in
        record {
          others = λ j x f g. g;
          quiet = λ none. record { own = own; aims = λ peer m q a. h.aims peer m q (subst (λ (l : Layer Purpose). At l peer m q) (left.quiet none) a) ∙ sym left.target_is };
          asking = λ packet one serial generation f q. record {
            own = own;
            aims = λ peer m p a.
                let x = left.asking packet one in
                asked_aims s.layer s.target h.aims peer m p (ask_at s.layer s.target (wanted_body x.demand.wanted) x.demand.purpose x.asked t.1.layer peer m p (own_called ready i s h.own) x.step a) ∙ sym left.target_is;
          };
        };
  }
    where
      asked_aims : {asked : _} {for : Purpose} (layer : Layer Purpose) (target : ℕ) → Aims layer target → (peer m : ℕ) (q : Option Purpose) → AskedAt layer target asked for peer m q → peer ≡ target
      asked_aims layer target h peer m q (asked_now p n e) = p
      asked_aims layer target h peer m q (was_asked a) = h peer m q a

-- a new initiator has none under way
pub first_aimed : (i : ℕ) (ready : Bool) → IsAimed ready i (new_state i ready)
unfolding new_state
first_aimed i ready = record {
  own = own_first ready i;
  aims = λ peer m q a. absurd (not_yet a.kind q (at_life (0xffc1 + i) [] peer m q a));
}
  where
    not_yet : (kind : ReplyKind) (purpose : Option Purpose) → not_begun ≡ under_way kind purpose → ⊥
    not_yet kind purpose e = cc
