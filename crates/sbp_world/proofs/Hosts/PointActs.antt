-- The ORB_POINTER write that an initiator's host names, as the initiator does an action.
use Rattle.sbp_world.proofs.Words.Std.{arith, ◌≡◌, refl, sym, ◌∙◌, ap, ℕ, suc, ◌+◌, ◌≤◌, ◌==◌, is_some, not, Bool, true, false, cond, List, [], ◌∷◌, Option, Some, None, nat_tests}
use Rattle.sbp_world.proofs.Words.Wire.{kind_as, shape_of, transaction, purpose_for, state_for, Moment, said, Kind, Sending, Transaction, begun_by, between, is_same, part_of, Terms, kind_in, terms, waits, Action, Outgoing}
use Rattle.sbp_world.proofs.Words.Initiator.{PresentList, list_number, Demand, Pointing, Purpose, InitiatorState, demand_of, ring_demand, Turn, rings, is_unwritten, wanted_body}
use Rattle.sbp_world.proofs.Words.Laws.{event_of}
use Rattle.sbp_world.proofs.Words.World.{behind}
use Rattle.bus_transactions.proofs.Facts.{asked_begun, request_asked}
use Rattle.bus_transactions.proofs.PacketParts.{same_is}
use Rattle.sbp_initiator.specs.declared.purpose.Purpose.TheVariants as purposes
use Rattle.sbp_journal.specs.declared.event.Action.TheVariants as actions
use Rattle.sbp_journal.specs.declared.event.Event.TheVariants as events
use Rattle.sbp_journal.specs.declared.note.Note.TheVariants as notes
use Rattle.sbp_initiator.proofs.Histories.Effects.{HasMarks}
use Rattle.sbp_world.proofs.Hosts.ActLeft.{ActLeft, HasAsked}
use Rattle.sbp_world.proofs.Hosts.Asked.{IsRequest, number_in}
use Rattle.sbp_world.proofs.Hosts.Held.{sent_apart, sent_begun, sent_count, sent_new, sent_old}
use Rattle.sbp_world.proofs.Hosts.Hosted.{Cored, marks_of}
use Rattle.sbp_world.proofs.Hosts.Lives.{At, AskedAt, ask_at, ask_begins, ask_keeps, asked_now, was_asked}
use Rattle.sbp_world.proofs.Hosts.PointerNotes.{Fit, Told, asked_pointer, pointer, pointer_after, tame_told}
use Rattle.sbp_world.proofs.Hosts.Pointing.{HasSent, IsPointer, Points, WaitsFor, asked_generation, called_of, keeps_is, none_of, sent_waits, under_way_now, waits_before, wrote_is, written_at}
use Rattle.sbp_world.proofs.Hosts.Shown.{IsShown}
use Rattle.sbp_world.proofs.Common.{untrue}
use Rattle.sbp_world.proofs.Pointers.Ages.{serial_is}

no_some : {A : Type 0} {B : Type 0} {x : B} → None ≡ Some x → A
no_some e = absurd (differ e)
  where
    differ : {B : Type 0} {x : B} → None ≡ Some x → ⊥
    differ e = cc

-- ---- what an action asks for

-- a ring that is the first of its list
pub record IsFirst (action : Action) (s : InitiatorState) : Type 0 where
  pub rings_it : rings action ≡ true
  pub unwritten : is_unwritten s.marks.pointing ≡ true

demand_is : {d e : Demand} → Some d ≡ Some e → d ≡ e
demand_is e = cc

abbrev is_pointer : Purpose → Bool
is_pointer (purposes.Pointer list) = true
is_pointer _ = false

-- a demand that is none of a pointer
not_pointer : {A : Type 0} (d demand : Demand) (list : ℕ) → Some d ≡ Some demand → is_pointer d.purpose ≡ false → demand.purpose ≡ purposes.Pointer list → A
not_pointer d demand list e f g = untrue (sym f ∙ ap (λ (x : Demand). is_pointer x.purpose) (demand_is e) ∙ ap is_pointer g)

rings_first : (action : Action) (s : InitiatorState) (demand : Demand) (list : ℕ) → rings action ≡ true → (b : Bool) → is_unwritten s.marks.pointing ≡ b → Some (ring_demand s) ≡ Some demand → demand.purpose ≡ purposes.Pointer list → IsFirst action s
rings_first action s demand list r true u e g = record { rings_it = r; unwritten = u }
rings_first action s demand list r false u e g =
    not_pointer (ring_demand s) demand list e (purpose_if (is_unwritten s.marks.pointing) _ _ u refl) g
  where
    purpose_if : (b : Bool) (x y : Demand) → b ≡ false → is_pointer y.purpose ≡ false → is_pointer (cond b x y).purpose ≡ false
    purpose_if true x y e f = untrue (sym e)
    purpose_if false x y e f = f

first_of : (action : Action) (s : InitiatorState) (demand : Demand) (list : ℕ) → demand_of action s ≡ Some demand → demand.purpose ≡ purposes.Pointer list → IsFirst action s
first_of (actions.Append cmd) s demand list e g = rings_first (actions.Append cmd) s demand list refl (is_unwritten s.marks.pointing) refl e g
first_of actions.Ring s demand list e g = rings_first actions.Ring s demand list refl (is_unwritten s.marks.pointing) refl e g
first_of (actions.Put cmd) s demand list e g = no_some e
first_of actions.Low s demand list e g = no_some e
first_of actions.Link s demand list e g = no_some e
first_of (actions.Dummy orb) s demand list e g = no_some e
first_of actions.Rom s demand list e g = not_pointer _ demand list e refl g
first_of actions.AgentReset s demand list e g = not_pointer _ demand list e refl g
first_of actions.State s demand list e g = not_pointer _ demand list e refl g
first_of actions.Enable s demand list e g = not_pointer _ demand list e refl g
first_of (actions.Login unit reconnect exclusive password) s demand list e g = not_pointer _ demand list e refl g
first_of (actions.Query unit) s demand list e g = not_pointer _ demand list e refl g
first_of actions.Reconnect s demand list e g = not_pointer _ demand list e refl g
first_of actions.Logout s demand list e g = not_pointer _ demand list e refl g
first_of (actions.Abort orb) s demand list e g = not_pointer _ demand list e refl g
first_of actions.AbortSet s demand list e g = not_pointer _ demand list e refl g
first_of actions.UnitReset s demand list e g = not_pointer _ demand list e refl g
first_of actions.TargetReset s demand list e g = not_pointer _ demand list e refl g

-- and what it asks for
purpose_true : (b : Bool) (x y : Demand) → b ≡ true → (cond b x y).purpose ≡ x.purpose
purpose_true true x y e = refl
purpose_true false x y e = untrue e

ring_asks : (s : InitiatorState) (demand : Demand) → is_unwritten s.marks.pointing ≡ true → Some (ring_demand s) ≡ Some demand → IsPointer (Some demand.purpose)
ring_asks s demand u e = record {
  list = list_number s.lists.slots.present s.lists.slots.lists;
  is = ap Some (ap (λ (d : Demand). d.purpose) (sym (demand_is e)) ∙ purpose_true (is_unwritten s.marks.pointing) _ _ u);
}

first_asks : (action : Action) (s : InitiatorState) (demand : Demand) → IsFirst action s → demand_of action s ≡ Some demand → IsPointer (Some demand.purpose)
first_asks (actions.Append cmd) s demand f e = ring_asks s demand f.unwritten e
first_asks actions.Ring s demand f e = ring_asks s demand f.unwritten e
first_asks (actions.Put cmd) s demand f e = untrue f.rings_it
first_asks actions.Low s demand f e = untrue f.rings_it
first_asks actions.Link s demand f e = untrue f.rings_it
first_asks (actions.Dummy orb) s demand f e = untrue f.rings_it
first_asks actions.Rom s demand f e = untrue f.rings_it
first_asks actions.AgentReset s demand f e = untrue f.rings_it
first_asks actions.State s demand f e = untrue f.rings_it
first_asks actions.Enable s demand f e = untrue f.rings_it
first_asks (actions.Login unit reconnect exclusive password) s demand f e = untrue f.rings_it
first_asks (actions.Query unit) s demand f e = untrue f.rings_it
first_asks actions.Reconnect s demand f e = untrue f.rings_it
first_asks actions.Logout s demand f e = untrue f.rings_it
first_asks (actions.Abort orb) s demand f e = untrue f.rings_it
first_asks actions.AbortSet s demand f e = untrue f.rings_it
first_asks actions.UnitReset s demand f e = untrue f.rings_it
first_asks actions.TargetReset s demand f e = untrue f.rings_it

-- ---- what is named behind its request

pub data Names (rung : Bool) (serial : ℕ) (old : Option ℕ) (s : ℕ) : Type 0 where
  as_before : old ≡ Some s → Names rung serial old s
  as_now : rung ≡ true → old ≡ None → s ≡ serial → Names rung serial old s

names : (rung : Bool) (serial : ℕ) (old : Option ℕ) (s : ℕ) → pointer_after rung serial old ≡ Some s → Names rung serial old s
names true serial None s e = as_now refl refl (let f : serial ≡ s = cc in sym f)
names true serial (Some first) s e = as_before e
names false serial old s e = as_before e

pub named_on : (rung : Bool) (serial : ℕ) (old : Option ℕ) (s : ℕ) → old ≡ Some s → pointer_after rung serial old ≡ Some s
named_on true serial None s e = no_some e
named_on true serial (Some first) s e = e
named_on false serial old s e = e

now_named : (rung : Bool) (serial : ℕ) (old : Option ℕ) → rung ≡ true → old ≡ None → pointer_after rung serial old ≡ Some serial
now_named true serial None r e = refl
now_named true serial (Some first) r e = no_some (sym e)
now_named false serial old r e = untrue r

-- a list whose ORB_POINTER is written is present
pub has_list : (present : Option PresentList) (pointing : Pointing) → HasMarks present pointing → is_unwritten pointing ≡ false → is_some present ≡ true
has_list None pointing h e = untrue (sym e ∙ h)
has_list (Some list) pointing h e = refl

same_number : (s serial : ℕ) → s ≡ serial → (s == serial) ≡ false → ⊥
same_number s serial x e = let f : (s == serial) ≡ true = grind arith in untrue (sym e ∙ f)

-- ---- an action that asks for something

module _ (ready : Bool) (action : Action) (past : List Moment) (i : ℕ) (s : InitiatorState) (t : Turn) (under : event_of past ≡ Some (events.Act i action)) (shown : IsShown past i s.target s.layer) (cored : Cored ready past i s) (k : Points past i s.target s.layer) (left : ActLeft action s t) (packet : Outgoing) (one : t.0.packets ≡ packet ∷ []) (serial generation : ℕ) (injected : (terms past).injected serial ≡ false) (q : IsRequest (number_in packet.label) packet.bytes) (fit : Fit (said (notes.Sent serial generation (suc i) 0 packet.bytes) ∷ behind t.0.sides past)) where
  abbrev ms : List Moment
  ms = behind t.0.sides past

  abbrev now : List Moment
  now = said (notes.Sent serial generation (suc i) 0 packet.bytes) ∷ ms

  abbrev told : Told past t.0.sides i
  told = tame_told t.0.sides past i left.told

  abbrev T : Terms
  T = terms ms

  abbrev sending : Sending
  sending = record { generation = generation; from = suc i; to = 0; bytes = packet.bytes; injected = T.injected serial }

  x : HasAsked action s packet t.1.layer
  x = left.asking packet one

  number_is : number_in packet.label ≡ x.asked.label.number
  number_is = ap number_in x.label

  honest : T.injected serial ≡ false
  honest = ap (λ (y : Terms). y.injected serial) told.wire ∙ injected

  fresh : serial ≡ (terms past).count + 1
  fresh = fit.serials.0 ∙ ap (λ (y : Terms). y.count + 1) told.wire

  not_fresh : (n : ℕ) → n ≤ (terms past).count → n ≡ serial → ⊥
  not_fresh n l e = let f = fresh in omega arith

  generation_is : generation ≡ s.layer.generation
  generation_is = (fit.sent.0 honest).now ∙ ap (λ (y : Terms). y.generation (suc i)) told.wire ∙ sym shown.generation

  stays : t.1.layer.generation ≡ s.layer.generation
  stays = asked_generation s.layer s.target (wanted_body x.demand.wanted) x.demand.purpose x.asked t.1.layer x.step

  -- the transaction that the request begins
  abbrev own : ℕ → Transaction
  own m = transaction s.layer.generation (suc i) 0 m

  begins : begun_by sending ≡ Some (own x.asked.label.number)
  begins =
      asked_begun sending (between sending sending.from sending.to (number_in packet.label)) honest (request_asked sending (number_in packet.label) q.kind q.part)
      ∙ ap (λ g. Some (transaction g (suc i) 0 (number_in packet.label))) generation_is
      ∙ ap (λ m. Some (own m)) number_is

  held_own : (m : ℕ) → m ≡ x.asked.label.number → (terms now).held (own m) ≡ waits (kind_in (part_of packet.bytes)) serial
  held_own m e = sent_begun serial sending T (own m) (begins ∙ ap (λ n. Some (own n)) (sym e))

  same_label : (m n : ℕ) → is_same (own m) (own n) ≡ true → m ≡ n
  same_label m n e = ap (λ (v : Transaction). v.label) (same_is (own m) (own n) e)

  label_same : (m n : ℕ) → (m == n) ≡ false → (b : Bool) → is_same (own m) (own n) ≡ b → b ≡ false
  label_same m n e true f = absurd (same_number m n (same_label m n f) e)
  label_same m n e false f = refl

  held_other : (m : ℕ) → (m == x.asked.label.number) ≡ false → (terms now).held (own m) ≡ (terms past).held (own m)
  held_other m e =
      sent_apart serial sending T (own m) (λ u f. let same : own x.asked.label.number ≡ u = (let y = sym begins ∙ f in cc) in ap (is_same (own m)) (sym same) ∙ label_same m x.asked.label.number e (is_same (own m) (own x.asked.label.number)) refl)
      ∙ ap (λ (y : Terms). y.held (own m)) told.wire

  abbrev generation_now : (m : ℕ) → Transaction
  generation_now m = transaction t.1.layer.generation (suc i) 0 m

  now_own : (m : ℕ) → (terms now).held (generation_now m) ≡ (terms now).held (own m)
  now_own m = ap (λ g. (terms now).held (transaction g (suc i) 0 m)) stays

  -- what is named behind it
  pointer_now : pointer now i ≡ pointer_after (rings action) serial (pointer ms i)
  pointer_now = asked_pointer action serial generation 0 packet.bytes ms i (told.line ∙ under) q honest

  -- where ORB_POINTER was written, a ring leaves what is named
  still_named : rings action ≡ true → is_unwritten s.marks.pointing ≡ false → pointer ms i ≡ pointer past i
  still_named r u = left.names r (has_list s.lists.slots.present s.marks.pointing (marks_of ready i s cored.own.called) u) past i

  module _ (wrote : (number list : ℕ) → At t.1.layer s.target number (Some (purposes.Pointer list)) → is_some (pointer now i) ≡ true) where
    -- it is the write of the request
    waits_now : (m : ℕ) → m ≡ x.asked.label.number → IsFirst action s → WaitsFor now i t.1.layer.generation m
    waits_now m e f =
        let none : pointer ms i ≡ None = none_of (pointer past i) (pointer ms i) told.fades (wrote_is cored ∙ ap not f.unwritten) in
        record {
          kind = kind_in (part_of packet.bytes);
          serial = serial;
          pointer_is = pointer_now ∙ now_named (rings action) serial (pointer ms i) f.rings_it none;
          held = now_own m ∙ held_own m e;
        }

    -- or one of before
    kept_by : (m list : ℕ) → At s.layer s.target m (Some (purposes.Pointer list)) → (w : WaitsFor past i s.layer.generation m) → is_some (pointer now i) ≡ true → (b : Bool) → rings action ≡ b → pointer now i ≡ Some w.serial
    kept_by m list a w some true r =
        pointer_now ∙ named_on (rings action) serial (pointer ms i) w.serial (still_named r (ap is_unwritten (written_at cored m list a)) ∙ w.pointer_is)
    kept_by m list a w some false r =
        let is : pointer now i ≡ pointer ms i = pointer_now ∙ ap (λ b. pointer_after b serial (pointer ms i)) r in
        keeps_is (pointer past i) (pointer now i) w.serial (λ n e. told.fades n (sym is ∙ e)) some w.pointer_is

    waits_before_it : (m list : ℕ) → At t.1.layer s.target m (Some (purposes.Pointer list)) → At s.layer s.target m (Some (purposes.Pointer list)) → WaitsFor now i t.1.layer.generation m
    waits_before_it m list a b =
        let w = k.waits_for m list b in
        record {
          kind = w.kind;
          serial = w.serial;
          pointer_is = kept_by m list b w (wrote m list a) (rings action) refl;
          held = now_own m ∙ sent_waits T serial sending fit.sent.0 (own m) w.kind w.serial (ap (λ (y : Terms). y.held (own m)) told.wire ∙ w.held);
        }

    waits_by : (m list : ℕ) → At t.1.layer s.target m (Some (purposes.Pointer list)) → AskedAt s.layer s.target x.asked x.demand.purpose s.target m (Some (purposes.Pointer list)) → WaitsFor now i t.1.layer.generation m
    waits_by m list a (asked_now p n e) = waits_now m n (first_of action s x.demand list x.is (let f : purposes.Pointer list ≡ x.demand.purpose = cc in sym f))
    waits_by m list a (was_asked b) = waits_before_it m list a b

    -- a label that waits for the request
    first_if : (b : Bool) → is_unwritten s.marks.pointing ≡ b → rings action ≡ true → pointer ms i ≡ None → IsFirst action s
    first_if true u r e = record { rings_it = r; unwritten = u }
    first_if false u r e = untrue (sym (ap is_some (sym (still_named r u) ∙ e)) ∙ wrote_is cored ∙ ap not u)

    own_named : (m : ℕ) → m ≡ x.asked.label.number → Names (rings action) serial (pointer ms i) serial → IsPointer (purpose_for t.1.layer.peers s.target m)
    own_named m e (as_before f) = absurd (not_fresh serial (k.below serial (told.fades serial f)) refl)
    own_named m e (as_now r f g) =
        let first = first_asks action s x.demand (first_if (is_unwritten s.marks.pointing) refl r f) x.is in
        let a = ask_begins s.layer s.target (wanted_body x.demand.wanted) x.demand.purpose x.asked t.1.layer (called_of cored) x.step in
        record { list = first.list; is = ap (λ n. purpose_for t.1.layer.peers s.target n) e ∙ a.is_for ∙ first.is }

    -- and one that waited before
    old_named : (m : ℕ) (kind : Kind) (n : ℕ) → (terms past).held (own m) ≡ waits kind n → Names (rings action) serial (pointer ms i) n → IsPointer (purpose_for t.1.layer.peers s.target m)
    old_named m kind n h (as_now r f g) = absurd (not_fresh n (k.older s.layer.generation m kind n h) g)
    old_named m kind n h (as_before f) =
        let y = k.named m kind n h (told.fades n f) in
        let u = under_way_now (state_for s.layer.peers s.target m) (kind_as kind) (shown.states m ∙ ap shape_of h) in
        let a : At s.layer s.target m (Some (purposes.Pointer y.list)) = record { kind = u.kind; serial = u.serial; state = u.is; is_for = y.is } in
        record { list = y.list; is = (ask_keeps s.layer s.target (wanted_body x.demand.wanted) x.demand.purpose x.asked t.1.layer (called_of cored) x.step s.target m (Some (purposes.Pointer y.list)) a).is_for }

    named_by : (m : ℕ) (kind : Kind) (n : ℕ) → (terms now).held (own m) ≡ waits kind n → pointer now i ≡ Some n → (b : Bool) → (m == x.asked.label.number) ≡ b → IsPointer (purpose_for t.1.layer.peers s.target m)
    named_by m kind n h p true e =
        let same : m ≡ x.asked.label.number = grind arith in
        let is : n ≡ serial = serial_is (kind_in (part_of packet.bytes)) kind serial n (sym (held_own m same) ∙ h) in
        own_named m same (names (rings action) serial (pointer ms i) serial (sym pointer_now ∙ p ∙ ap Some is))
    named_by m kind n h p false e =
        old_named m kind n (sym (held_other m e) ∙ h) (names (rings action) serial (pointer ms i) n (sym pointer_now ∙ p))

    below_by : (n : ℕ) → Names (rings action) serial (pointer ms i) n → n ≤ (terms now).count
    below_by n (as_before f) =
        let b = k.below n (told.fades n f) in
        let c = sent_count serial sending T in
        let d = ap (λ (y : Terms). y.count) told.wire in omega arith
    below_by n (as_now r f g) =
        let b = fresh in
        let c = sent_count serial sending T in
        let d = ap (λ (y : Terms). y.count) told.wire in omega arith

    not_it : (n : ℕ) → n ≤ (terms past).count → (n == serial) ≡ false
    not_it n l = let f = fresh in grind (arith, nat_tests)

    asks_by : (n : ℕ) → Names (rings action) serial (pointer ms i) n → HasSent now i n
    asks_by n (as_before f) =
        let p = told.fades n f in
        let h = k.asks n p in
        record { packet = h.packet; sent = sent_old serial n sending T (not_it n (k.below n p)) ∙ ap (λ (y : Terms). y.sent n) told.wire ∙ h.sent; from = h.from; to = h.to; honest = h.honest }
    asks_by n (as_now r f g) =
        record { packet = sending; sent = ap (terms now).sent g ∙ sent_new serial sending T; from = refl; to = refl; honest = honest }

    older_by : (g m : ℕ) (kind : Kind) (n : ℕ) → (terms now).held (transaction g (suc i) 0 m) ≡ waits kind n → (b : Bool) → (n == serial) ≡ b → n ≤ (terms now).count
    older_by g m kind n h true e =
        let same : n ≡ serial = grind arith in
        let b = fresh in
        let c = sent_count serial sending T in
        let d = ap (λ (y : Terms). y.count) told.wire in omega arith
    older_by g m kind n h false e =
        let v = transaction g (suc i) 0 m in
        let before = waits_before T serial sending fit.sent.0 v kind n h (λ y. same_number n serial y e) in
        let b = k.older g m kind n (sym (ap (λ (y : Terms). y.held v) told.wire) ∙ before) in
        let c = sent_count serial sending T in
        let d = ap (λ (y : Terms). y.count) told.wire in omega arith

    pub asking_points : Points now i s.target t.1.layer
    asking_points = record {
      waits_for = λ m list a. waits_by m list a (ask_at s.layer s.target (wanted_body x.demand.wanted) x.demand.purpose x.asked t.1.layer s.target m (Some (purposes.Pointer list)) (called_of cored) x.step a);
      named = λ m kind n h p. named_by m kind n (sym (now_own m) ∙ h) p (m == x.asked.label.number) refl;
      below = λ n p. below_by n (names (rings action) serial (pointer ms i) n (sym pointer_now ∙ p));
      asks = λ n p. asks_by n (names (rings action) serial (pointer ms i) n (sym pointer_now ∙ p));
      older = λ g m kind n h. older_by g m kind n h (n == serial) refl;
    }
