-- The ORB_POINTER write that an initiator's host names, and the one under way in its layer.
use Rattle.sbp_world.proofs.Words.Std.{◌≡◌, refl, sym, ◌∙◌, ap, subst, ℕ, suc, ◌+◌, ◌≤◌, is_some, not, Bool, true, false, List, Option, Some, None, Result, Ok, Err}
use Rattle.sbp_world.proofs.Words.Wire.{awaits, shape, IsOwn, transaction, Asked, LabelState, ReplyKind, Body, Layer, asked_at, asking_in, asking_step, peer_at, peer_place, unlabelled, PeerPlace, ask_place, purpose_for, state_for, NoLabel, LabelParts, Moment, Kind, Sending, Transaction, begun_by, is_same, part_of, Held, Terms, kind_in, sends, terms, waits}
use Rattle.sbp_world.proofs.Words.Initiator.{Pointing, Purpose, InitiatorState, is_unwritten, PointingAfter}
use Rattle.sbp_world.proofs.Words.World.{Core}
use Rattle.bus_transactions.specs.Sent as sent
use Rattle.bus_transactions.proofs.Facts.{asked_is, begun_asked}
use Rattle.bus_transactions.proofs.PacketParts.{same_is}
use Rattle.label_table.specs.declared.place.LabelState.TheVariants as states
use Rattle.sbp_initiator.specs.declared.purpose.Pointing.TheVariants as pointings
use Rattle.sbp_initiator.specs.declared.purpose.Purpose.TheVariants as purposes
use Rattle.sbp_initiator.proofs.Histories.Over.{sound}
use Rattle.sbp_initiator.proofs.Histories.Pointing.{pointing_law}
use Rattle.sbp_world.proofs.Hosts.Held.{sent_apart, sent_begun}
use Rattle.sbp_world.proofs.Hosts.Hosted.{Cored}
use Rattle.sbp_world.proofs.Hosts.Lives.{At, Called}
use Rattle.sbp_world.proofs.Hosts.PointerNotes.{pointer}
use Rattle.sbp_world.proofs.Common.{untrue, and_first}

-- ---- what is carried on

-- the transaction under a label waits for the answer to the write that is named
pub record WaitsFor (past : List Moment) (i generation number : ℕ) : Type 0 where
  pub kind : Kind
  pub serial : ℕ
  pub pointer_is : pointer past i ≡ Some serial
  pub held : (terms past).held (transaction generation (suc i) 0 number) ≡ waits kind serial

-- a write of ORB_POINTER
pub record IsPointer (purpose : Option Purpose) : Type 0 where
  pub list : ℕ
  pub is : purpose ≡ Some (purposes.Pointer list)

-- the request with a serial: the initiator sent it to its target
pub record HasSent (past : List Moment) (i serial : ℕ) : Type 0 where
  pub packet : Sending
  pub sent : (terms past).sent serial ≡ Some packet
  pub from : packet.from ≡ suc i
  pub to : packet.to ≡ 0
  pub honest : packet.injected ≡ false

-- Of a write of ORB_POINTER under way the request is the one that is named; what waits for the one that is named is such a write; and no packet
-- that is named or waited for is yet to be sent.
pub record Points (past : List Moment) (i target : ℕ) (layer : Layer Purpose) : Type 0 where
  pub waits_for : (number list : ℕ) → At layer target number (Some (purposes.Pointer list)) → WaitsFor past i layer.generation number
  pub named : (number : ℕ) (kind : Kind) (serial : ℕ) → (terms past).held (transaction layer.generation (suc i) 0 number) ≡ waits kind serial → pointer past i ≡ Some serial → IsPointer (purpose_for layer.peers target number)
  pub below : (serial : ℕ) → pointer past i ≡ Some serial → serial ≤ (terms past).count
  pub asks : (serial : ℕ) → pointer past i ≡ Some serial → HasSent past i serial
  pub older : (generation number : ℕ) (kind : Kind) (serial : ℕ) → (terms past).held (transaction generation (suc i) 0 number) ≡ waits kind serial → serial ≤ (terms past).count

-- ---- what an initiator of a run is

module _ {ready : Bool} {past : List Moment} {i : ℕ} {s : InitiatorState} (h : Cored ready past i s) where
  pub pointing_of : PointingAfter s
  pointing_of = let c = h.own.called in subst PointingAfter c.is (pointing_law i ready c.calls c.fit)

  pub called_of : Called s.layer
  called_of =
      let c = h.own.called in
      let k = (sound i ready c.calls).wires in
      record { node = 0xffc1 + i; calls = k.calls; is = k.layer_is ∙ ap (λ (x : InitiatorState). x.layer) c.is }

  -- it counts as written exactly where the host names it
  pub wrote_is : is_some (pointer past i) ≡ not (is_unwritten s.marks.pointing)
  wrote_is = ap (λ (c : Core). c.wrote_pointer) h.core

  module _ (number list : ℕ) (a : At s.layer s.target number (Some (purposes.Pointer list))) where
    pub written_at : s.marks.pointing ≡ pointings.Written
    written_at = pointing_of.written (record { list = list; write = record { peer = s.target; number = number; serial = a.serial; kind = a.kind; state = a.state; is_for = a.is_for } })

    pub wrote_at : is_some (pointer past i) ≡ true
    wrote_at = wrote_is ∙ ap (λ (p : Pointing). not (is_unwritten p)) written_at

-- ---- what is named

-- what was named, and is still where something is
pub keeps_is : (old new : Option ℕ) (serial : ℕ) → ((s : ℕ) → new ≡ Some s → old ≡ Some s) → is_some new ≡ true → old ≡ Some serial → new ≡ Some serial
keeps_is old None serial f e g = untrue e
keeps_is old (Some s) serial f e g = sym (f s refl) ∙ g

pub none_of : (old new : Option ℕ) → ((s : ℕ) → new ≡ Some s → old ≡ Some s) → is_some old ≡ false → new ≡ None
none_of old None f e = refl
none_of old (Some s) f e = untrue (sym e ∙ ap is_some (f s refl))

-- ---- labels

-- a label whose shape waits is under way
pub record UnderWayNow (state : LabelState) : Type 0 where
  pub kind : ReplyKind
  pub serial : ℕ
  pub is : state ≡ states.UnderWay kind serial

pub under_way_now : (state : LabelState) (kind : ReplyKind) → shape state ≡ awaits kind → UnderWayNow state
under_way_now states.Free kind e = cc
under_way_now (states.UnderWay kd serial) kind e = record { kind = kd; serial = serial; is = refl }
under_way_now states.Resting kind e = cc

-- the same labels in another layer
pub at_same : (old new : Layer Purpose) (target number : ℕ) (purpose : Option Purpose) → new.peers ≡ old.peers → At old target number purpose → At new target number purpose
at_same old new target number purpose e a = record {
  kind = a.kind;
  serial = a.serial;
  state = ap (λ (peers : List (PeerPlace Purpose)). state_for peers target number) e ∙ a.state;
  is_for = ap (λ (peers : List (PeerPlace Purpose)). purpose_for peers target number) e ∙ a.is_for;
}

-- a request leaves a layer in its generation
asked_stays : (k : ℕ) (layer : Layer Purpose) (r : Result LabelParts NoLabel × (PeerPlace Purpose × List ℕ)) → (asked_at k layer r).1.generation ≡ layer.generation
asked_stays k layer (Ok label, (place, bytes)) = refl
asked_stays k layer (Err none, (place, bytes)) = refl

asking_stays : (found : Option ℕ) (layer : Layer Purpose) (peer : ℕ) (bytes : List ℕ) (purpose : Purpose) → (asking_in found layer peer bytes purpose).1.generation ≡ layer.generation
asking_stays None layer peer bytes purpose = refl
asking_stays (Some k) layer peer bytes purpose = asked_stays k layer (ask_place (peer_at layer k) peer bytes purpose)

ask_generation : (layer : Layer Purpose) (peer : ℕ) (body : Body) (purpose : Purpose) → (asking_step layer peer body purpose).1.generation ≡ layer.generation
unfolding asking_step
ask_generation layer peer body purpose = asking_stays (peer_place peer layer) layer peer (unlabelled layer peer body) purpose

pub asked_generation : (layer : Layer Purpose) (peer : ℕ) (body : Body) (purpose : Purpose) (asked : Asked) (new : Layer Purpose) → asking_step layer peer body purpose ≡ (Some asked, new) → new.generation ≡ layer.generation
asked_generation layer peer body purpose asked new e = sym (ap (λ (r : Option Asked × Layer Purpose). r.1.generation) e) ∙ ask_generation layer peer body purpose

-- ---- a packet of the initiator begins a transaction that was free

is_waiting : {A : Type 0} (held : Held) (kind : Kind) (serial : ℕ) → held ≡ waits kind serial → sent.is_free held ≡ true → A
is_waiting held kind serial e f = untrue (sym (ap sent.is_free e) ∙ f)

module _ (t : Terms) (serial : ℕ) (packet : Sending) (own : packet.injected ≡ false → IsOwn t packet.generation packet.from packet.to packet.bytes) where
  pub was_free : (u : Transaction) → begun_by packet ≡ Some u → sent.is_free (t.held u) ≡ true
  was_free u e =
      let b = begun_asked packet u e in
      let a = asked_is packet u b.1 in
      let o = own b.0 in
      let takes = (o.lowest a.label a.kind a.part).takes in
      let same : u ≡ transaction (t.generation packet.from) packet.from packet.to a.label = a.is ∙ ap (λ g. transaction g packet.from packet.to a.label) o.now in
      ap (λ x. sent.is_free (t.held x)) same ∙ and_first _ _ takes

  waits_by : (v u : Transaction) (kind : Kind) (s : ℕ) → begun_by packet ≡ Some u → t.held v ≡ waits kind s → (b : Bool) → is_same v u ≡ b → b ≡ false
  waits_by v u kind s e w true f = is_waiting (t.held u) kind s (ap t.held (sym (same_is v u f)) ∙ w) (was_free u e)
  waits_by v u kind s e w false f = refl

  -- what waits does so still
  pub sent_waits : (v : Transaction) (kind : Kind) (s : ℕ) → t.held v ≡ waits kind s → (sends serial packet t).held v ≡ waits kind s
  sent_waits v kind s w = sent_apart serial packet t v (λ u e. let d = waits_by v u kind s e w (is_same v u) refl in d) ∙ w

  -- what waits then for another packet did so before
  pub waits_before : (v : Transaction) (kind : Kind) (s : ℕ) → (sends serial packet t).held v ≡ waits kind s → (s ≡ serial → ⊥) → t.held v ≡ waits kind s
  waits_before v kind s w other = by_begun (begun_by packet) refl
    where
      serial_is : (a b : Kind) (m n : ℕ) → waits a m ≡ waits b n → n ≡ m
      serial_is a b m n e = cc

      by_same : (u : Transaction) → begun_by packet ≡ Some u → (b : Bool) → is_same v u ≡ b → t.held v ≡ waits kind s
      by_same u e true f =
          absurd (other (serial_is (kind_in (part_of packet.bytes)) kind serial s (sym (sent_begun serial packet t v (e ∙ ap Some (sym (same_is v u f)))) ∙ w)))
      by_same u e false f = sym (sent_apart serial packet t v (λ x g. let same : u ≡ x = (let y = sym e ∙ g in cc) in ap (is_same v) (sym same) ∙ f)) ∙ w

      by_begun : (found : Option Transaction) → begun_by packet ≡ found → t.held v ≡ waits kind s
      by_begun None e = sym (sent_apart serial packet t v (λ u f. none_some u (sym e ∙ f))) ∙ w
        where
          none_some : {A : Type 0} (u : Transaction) → None ≡ Some u → A
          none_some u e = absurd (differ e)
            where
              differ : None ≡ Some u → ⊥
              differ e = cc
      by_begun (Some u) e = by_same u e (is_same v u) refl
