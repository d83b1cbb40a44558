-- Whether an ORB_POINTER write is under way, over every list of calls.
use Rattle.std.proofs.Common.{◌≡◌, refl, sym, ap, subst, ◌∙◌, ℕ, ◌+◌, Bool, true, false, List, Option, Some}
use Rattle.async_packet.specs.Labels.{LabelParts}
use Rattle.label_table.specs.declared.reply.ReplyKind.{ReplyKind}
use Rattle.label_table.specs.declared.place.LabelState.TheVariants as states
use Rattle.label_table.specs.Layer.{Layer}
use Rattle.label_table.specs.Peers.{purpose_for, state_for}
use Rattle.label_table.specs.History.{Life, under_way}
use Rattle.label_table.specs.History as wire
use Rattle.label_table.proofs.Calls.{after_kept}
use Rattle.sbp_session.specs.declared.seat.Seat.{Seat}
use Rattle.sbp_session.specs.declared.seat.Seat.TheVariants as seats
use Rattle.sbp_session.specs.Seats.{is_stuck_seat, points}
use Rattle.sbp_initiator.specs.declared.purpose.Purpose.{Purpose}
use Rattle.sbp_initiator.specs.declared.purpose.Purpose.TheVariants as purposes
use Rattle.sbp_initiator.specs.declared.state.InitiatorState.{InitiatorState}
use Rattle.sbp_initiator.specs.Histories.Laws.{Call, after}
use Rattle.sbp_initiator.specs.Histories.Pointing.{Pointed, PointingLaw, UnderWay}
use Rattle.sbp_initiator.proofs.Histories.Busy.{Alone, Busy, idle, points_to, resets_for, busy_of, is_busy}
use Rattle.sbp_initiator.proofs.Histories.Lives.{same_of}
use Rattle.sbp_initiator.proofs.Histories.Over.{counted_now, pointed_now, sound}
use Rattle.sbp_initiator.proofs.Histories.Purposes.{IsOf, all_began, life_of}
use Rattle.sbp_initiator.proofs.Histories.Runs.{FitsNow}
use Rattle.sbp_initiator.proofs.Histories.Sits.{busy_now, sits}
use Rattle.sbp_initiator.proofs.Histories.Stands.{is_points}

untrue : {A : Type 0} → false ≡ true → A
untrue e = absurd (differ e)
  where
    differ : false ≡ true → ⊥
    differ e = cc

-- ---- what the layer has under way, and what was told of it

-- the name of a transaction that is under way
abbrev name_of : {purpose : Purpose} (layer : Layer Purpose) → UnderWay layer purpose → LabelParts
name_of layer u = record { number = u.number; generation = layer.generation; serial = u.serial }

at_life : (node : ℕ) (calls : List (wire.Call Purpose)) (layer : Layer Purpose) (purpose : Purpose) → wire.after node calls ≡ layer → (u : UnderWay layer purpose) → wire.life u.peer (name_of layer u) (wire.history node calls) ≡ under_way u.kind (Some purpose)
at_life node calls layer purpose e u =
    let k = after_kept node calls in
    let a : state_for (wire.after node calls).peers u.peer u.number ≡ states.UnderWay u.kind u.serial = ap (λ (l : Layer Purpose). state_for l.peers u.peer u.number) e ∙ u.state in
    k.agree.waits u.peer (name_of layer u) u.kind (ap (λ (l : Layer Purpose). l.generation) (sym e)) a
    ∙ ap (λ (q : Option Purpose). under_way u.kind q) (ap (λ (l : Layer Purpose). purpose_for l.peers u.peer u.number) e ∙ u.is_for)

at_layer : (node : ℕ) (calls : List (wire.Call Purpose)) (layer : Layer Purpose) (purpose : Purpose) (peer : ℕ) (label : LabelParts) (kind : ReplyKind) → wire.after node calls ≡ layer → wire.life peer label (wire.history node calls) ≡ under_way kind (Some purpose) → UnderWay layer purpose
at_layer node calls layer purpose peer label kind e w =
    let k = after_kept node calls in
    record {
      peer = peer;
      number = label.number;
      serial = label.serial;
      kind = kind;
      state = ap (λ (l : Layer Purpose). state_for l.peers peer label.number) (sym e) ∙ k.agree.stands peer label kind (Some purpose) w;
      is_for = ap (λ (l : Layer Purpose). purpose_for l.peers peer label.number) (sym e) ∙ k.agree.is_for peer label kind (Some purpose) w;
    }

-- ---- the session

points_free : (seat : Seat) → points seat ≡ true → is_stuck_seat seat ≡ false
points_free (seats.Out out) e = untrue e
points_free (seats.Entering entering) e = untrue e
points_free (seats.Live live) e = refl
points_free (seats.Held response) e = untrue e
points_free (seats.Returning response) e = untrue e
points_free (seats.Leaving response) e = untrue e
points_free (seats.Stuck origin) e = untrue e

-- which purpose is busy with a list
list_is : (a n : ℕ) → points_to a ≡ points_to n → a ≡ n
list_is a n e = cc

idle_points : {A : Type 0} (n : ℕ) → idle ≡ points_to n → A
idle_points n e = untrue (ap is_busy e)

pointer_of : (purpose : Purpose) (n : ℕ) → busy_of purpose ≡ points_to n → purpose ≡ purposes.Pointer n
pointer_of (purposes.Pointer list) n e = ap purposes.Pointer (list_is list n e)
pointer_of purposes.Doorbell n e = idle_points n e
pointer_of (purposes.AgentReset act) n e = untrue (ap is_points e)
pointer_of (purposes.Enable act) n e = idle_points n e
pointer_of (purposes.Rom act) n e = idle_points n e
pointer_of (purposes.Management act) n e = idle_points n e
pointer_of (purposes.State act list) n e = idle_points n e

-- ---- the law

module _ {node : ℕ} {busy : Busy} {layer : Layer Purpose} (w : Alone node busy layer) where
  busy_is : (purpose : Purpose) → UnderWay layer purpose → is_busy (busy_of purpose) ≡ true → busy ≡ busy_of purpose
  busy_is purpose u e = w.one.has u.peer (name_of layer u) u.kind purpose (at_life node w.calls layer purpose w.layer_is u) e

  points_now : (a : Pointed layer) → busy ≡ points_to a.list
  points_now a = busy_is (purposes.Pointer a.list) a.write refl

  one_write : (a b : Pointed layer) → (a.list ≡ b.list) × ((a.write.peer ≡ b.write.peer) × (a.write.number ≡ b.write.number))
  one_write a b =
      let s = same_of a.write.peer (name_of layer a.write) b.write.peer (name_of layer b.write) (w.one.sole a.write.peer (name_of layer a.write) a.write.kind (purposes.Pointer a.list) b.write.peer (name_of layer b.write) b.write.kind (purposes.Pointer b.list) (at_life node w.calls layer (purposes.Pointer a.list) w.layer_is a.write) (at_life node w.calls layer (purposes.Pointer b.list) w.layer_is b.write) refl refl) in
      (list_is a.list b.list (sym (points_now a) ∙ points_now b), (s.peer, s.number))

  written_as : (b : Busy) → busy ≡ b → is_points b ≡ true → Pointed layer
  written_as idle e f = untrue f
  written_as (resets_for act) e f = untrue f
  written_as (points_to n) e f =
      let s = w.one.is (ap is_busy e) in
      record {
        list = n;
        write = subst (λ (q : Purpose). UnderWay layer q) (pointer_of s.purpose n (s.same ∙ e)) (at_layer node w.calls layer s.purpose s.peer s.label s.kind w.layer_is s.lives);
      }

module _ (number : ℕ) (ready : Bool) (calls : List Call) where
  abbrev s : InitiatorState
  s = (after number ready calls).1

  -- a read under way that counts for the present list
  read_counts : (act list : ℕ) → UnderWay s.layer (purposes.State act (Some list)) → counted_now number ready calls act ≡ Some list
  read_counts act list u =
      let w = (sound number ready calls).wires in
      let P : Purpose → Type 0 = FitsNow s.operation s.counts.acts (counted_now number ready calls) (pointed_now number ready calls) in
      let purpose = purposes.State act (Some list) in
      let name = name_of s.layer u in
      let f : P purpose = subst (λ (x : Life Purpose). IsOf P x) (at_life (0xffc1 + number) w.calls s.layer purpose w.layer_is u) (life_of P u.peer name (wire.history (0xffc1 + number) w.calls) (all_began P (0xffc1 + number) w.calls w.asks)) in
      sym f.counts

pub pointing_law : PointingLaw
pointing_law number ready calls h =
    let x = sits number ready calls in
    let state = (after number ready calls).1 in
    record {
      writes = λ e.
          written_as x.alone (busy_now number ready calls) refl (sym (x.stand.session (points_free state.seat e)) ∙ e);
      counts = λ f a. x.stand.session f ∙ ap is_points (points_now x.alone a);
      one = one_write x.alone;
      present = λ a. x.stand.list a.list (points_now x.alone a);
      written = λ a. x.stand.written a.list (points_now x.alone a);
      beside = λ a. x.stand.beside a.list (points_now x.alone a);
      resets = λ act u. x.stand.resets act (busy_is x.alone (purposes.AgentReset act) u refl);
      reads = λ act list u e. x.stand.answered act list (read_counts number ready calls act list u) e;
    }
