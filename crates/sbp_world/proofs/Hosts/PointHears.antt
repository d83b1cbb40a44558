-- The ORB_POINTER write that an initiator's host names, as others tell and do something, and as the initiator hears a packet, lets a transaction
-- time out, and sees a generation.
use Rattle.sbp_world.proofs.Words.Std.{arith, ◌≡◌, refl, sym, ◌∙◌, ap, ℕ, suc, ◌+◌, ◌≤◌, ◌==◌, is_some, Bool, true, false, List, ◌∷◌, Option, Some, nat_tests}
use Rattle.sbp_world.proofs.Words.Wire.{awaits, kind_as, shape, shape_of, transaction, ReplyKind, Layer, purpose_for, state_for, Moment, said, Kind, Sending, Transaction, Terms, terms, waits, Note}
use Rattle.sbp_world.proofs.Words.Initiator.{Purpose, Turn}
use Rattle.sbp_world.proofs.Words.Laws.{event_of}
use Rattle.sbp_world.proofs.Words.World.{behind}
use Rattle.sbp_initiator.specs.declared.purpose.Purpose.TheVariants as purposes
use Rattle.sbp_journal.specs.declared.note.Note.TheVariants as notes
use Rattle.sbp_world.proofs.Hosts.Carries.{IsNoAct}
use Rattle.sbp_world.proofs.Hosts.Held.{sent_count, sent_old}
use Rattle.sbp_world.proofs.Hosts.Layered.{LayerLeft, Left, read, same}
use Rattle.sbp_world.proofs.Hosts.Lives.{At, AskedAt, Called, ask_at, ask_keeps, asked_now, was_asked}
use Rattle.sbp_world.proofs.Hosts.PointerNotes.{Fit, Told, pointer, sent_fades, tame_told}
use Rattle.sbp_world.proofs.Hosts.Pointing.{HasSent, Points, asked_generation, at_same, keeps_is, sent_waits, under_way_now, waits_before}
use Rattle.sbp_world.proofs.Hosts.Shown.{IsShown}

-- ---- what leaves the labels

-- a packet that was sent
sent_still : (past now : List Moment) (i serial : ℕ) → (terms now).sent serial ≡ (terms past).sent serial → HasSent past i serial → HasSent now i serial
sent_still past now i serial e h = record { packet = h.packet; sent = e ∙ h.sent; from = h.from; to = h.to; honest = h.honest }

module _ (past now : List Moment) (i target : ℕ) (layer : Layer Purpose) (fades : (serial : ℕ) → pointer now i ≡ Some serial → pointer past i ≡ Some serial) (held : (g m : ℕ) → (terms now).held (transaction g (suc i) 0 m) ≡ (terms past).held (transaction g (suc i) 0 m)) (count : (terms past).count ≤ (terms now).count) (sent : (serial : ℕ) → serial ≤ (terms past).count → (terms now).sent serial ≡ (terms past).sent serial) where
  pub still_points : ((number list : ℕ) → At layer target number (Some (purposes.Pointer list)) → is_some (pointer now i) ≡ true) → Points past i target layer → Points now i target layer
  still_points wrote k = record {
    waits_for = λ m list a.
        let w = k.waits_for m list a in
        record { kind = w.kind; serial = w.serial; pointer_is = keeps_is (pointer past i) (pointer now i) w.serial fades (wrote m list a) w.pointer_is; held = held layer.generation m ∙ w.held };
    named = λ m kind serial h p. k.named m kind serial (sym (held layer.generation m) ∙ h) (fades serial p);
    below = λ serial p. let b = k.below serial (fades serial p) in omega arith;
    asks = λ serial p. let q = fades serial p in sent_still past now i serial (sent serial (k.below serial q)) (k.asks serial q);
    older = λ g m kind serial h. let b = k.older g m kind serial (sym (held g m) ∙ h) in omega arith;
  }

-- ---- a packet leaves in a line that is no action of the initiator

module _ (serial generation from to : ℕ) (bytes : List ℕ) (past : List Moment) (i target : ℕ) (layer : Layer Purpose) (n : IsNoAct i (event_of past)) (fit : Fit (said (notes.Sent serial generation from to bytes) ∷ past)) where
  abbrev now : List Moment
  now = said (notes.Sent serial generation from to bytes) ∷ past

  abbrev t : Terms
  t = terms past

  abbrev packet : Sending
  packet = record { generation = generation; from = from; to = to; bytes = bytes; injected = t.injected serial }

  fresh : (s : ℕ) → s ≤ t.count → s ≡ serial → ⊥
  fresh s l e = let c : serial ≡ t.count + 1 = fit.serials.0 in omega arith

  not_it : (s : ℕ) → s ≤ t.count → (s == serial) ≡ false
  not_it s l = let c : serial ≡ t.count + 1 = fit.serials.0 in grind (arith, nat_tests)

  pub sent_points : ((number list : ℕ) → At layer target number (Some (purposes.Pointer list)) → is_some (pointer now i) ≡ true) → Points past i target layer → Points now i target layer
  sent_points wrote k =
      let fades = sent_fades serial generation from to bytes past i n in
      let more = sent_count serial packet t in
      record {
        waits_for = λ m list a.
            let w = k.waits_for m list a in
            record {
              kind = w.kind;
              serial = w.serial;
              pointer_is = keeps_is (pointer past i) (pointer now i) w.serial fades (wrote m list a) w.pointer_is;
              held = sent_waits t serial packet fit.sent.0 (transaction layer.generation (suc i) 0 m) w.kind w.serial w.held;
            };
        named = λ m kind s h p.
            let p0 = fades s p in
            k.named m kind s (waits_before t serial packet fit.sent.0 (transaction layer.generation (suc i) 0 m) kind s h (fresh s (k.below s p0))) p0;
        below = λ s p. let b = k.below s (fades s p) in omega arith;
        asks = λ s p. let q = fades s p in sent_still past now i s (sent_old serial s packet t (not_it s (k.below s q))) (k.asks s q);
        older = λ g m kind s h. older_by k g m kind s h (s == serial) refl;
      }
    where
      older_by : Points past i target layer → (g m : ℕ) (kind : Kind) (s : ℕ) → (terms now).held (transaction g (suc i) 0 m) ≡ waits kind s → (b : Bool) → (s == serial) ≡ b → s ≤ (terms now).count
      older_by k g m kind s h true e =
          let c : serial ≡ t.count + 1 = fit.serials.0 in
          let more = sent_count serial packet t in
          let same : s ≡ serial = grind arith in omega arith
      older_by k g m kind s h false e =
          let more = sent_count serial packet t in
          let b = k.older g m kind s (waits_before t serial packet fit.sent.0 (transaction g (suc i) 0 m) kind s h (λ x. differ s serial x e)) in omega arith
        where
          differ : (s serial : ℕ) → s ≡ serial → (s == serial) ≡ false → ⊥
          differ s serial x e = let f : (s == serial) ≡ true = grind arith in untrue (sym e ∙ f)
            where
              untrue : false ≡ true → ⊥
              untrue e = cc

-- ---- a packet is heard, or a transaction times out

none_rom : {A : Type 0} (list act : ℕ) → Some (purposes.Pointer list) ≡ Some (purposes.Rom act) → A
none_rom list act e = absurd (differ e)
  where
    differ : Some (purposes.Pointer list) ≡ Some (purposes.Rom act) → ⊥
    differ e = cc

-- what a note leaves that ends a transaction of the initiator: a label that waits then did so before
pub record Ends (past : List Moment) (note : Note) (i : ℕ) : Type 0 where
  pub fades : (serial : ℕ) → pointer (said note ∷ past) i ≡ Some serial → pointer past i ≡ Some serial
  pub held : (v : Transaction) (kind : ReplyKind) → shape_of ((terms (said note ∷ past)).held v) ≡ awaits kind → (terms (said note ∷ past)).held v ≡ (terms past).held v
  pub count : (terms past).count ≤ (terms (said note ∷ past)).count
  pub sent : (serial : ℕ) → (terms (said note ∷ past)).sent serial ≡ (terms past).sent serial

module _ (past : List Moment) (note : Note) (i target : ℕ) (old l : Layer Purpose) (e : Ends past note i) (k : Points past i target old) (c : Called l) (generation_is : l.generation ≡ old.generation) (back : (number : ℕ) (purpose : Option Purpose) → At l target number purpose → At old target number purpose) (shown : IsShown (said note ∷ past) i target l) where
  abbrev ended : List Moment
  ended = said note ∷ past

  -- a label that is under way there
  here : (m : ℕ) (kind : ReplyKind) → shape (state_for l.peers target m) ≡ awaits kind → (terms ended).held (transaction old.generation (suc i) 0 m) ≡ (terms past).held (transaction old.generation (suc i) 0 m)
  here m kind w =
      e.held (transaction old.generation (suc i) 0 m) kind (ap (λ g. shape_of ((terms ended).held (transaction g (suc i) 0 m))) (sym generation_is) ∙ sym (shown.states m) ∙ w)

  module _ (t : Turn) (left : Left l target t) where
    abbrev later : List Moment
    later = behind t.0.sides ended

    said_now : Told ended t.0.sides i
    said_now = tame_told t.0.sides ended i left.told

    -- of a write of ORB_POINTER that is under way then
    from_left : (new : Layer Purpose) → LayerLeft l target new → (m list : ℕ) → At new target m (Some (purposes.Pointer list)) → At l target m (Some (purposes.Pointer list))
    from_left new (same g p) m list a = at_same new l target m (Some (purposes.Pointer list)) (sym p) a
    from_left new (read body act asked step) m list a = by_asked (ask_at l target body (purposes.Rom act) asked new target m (Some (purposes.Pointer list)) c step a)
      where
        by_asked : AskedAt l target asked (purposes.Rom act) target m (Some (purposes.Pointer list)) → At l target m (Some (purposes.Pointer list))
        by_asked (asked_now p n f) = none_rom list act f
        by_asked (was_asked b) = b

    to_left : (new : Layer Purpose) → LayerLeft l target new → (m : ℕ) (purpose : Option Purpose) → At l target m purpose → At new target m purpose
    to_left new (same g p) m purpose a = at_same l new target m purpose p a
    to_left new (read body act asked step) m purpose a = ask_keeps l target body (purposes.Rom act) asked new c step target m purpose a

    stays : (new : Layer Purpose) → LayerLeft l target new → new.generation ≡ old.generation
    stays new (same g p) = g ∙ generation_is
    stays new (read body act asked step) = asked_generation l target body (purposes.Rom act) asked new step ∙ generation_is

    pub ended_points : ((number list : ℕ) → At t.1.layer target number (Some (purposes.Pointer list)) → is_some (pointer later i) ≡ true) → Points later i target t.1.layer
    ended_points wrote =
        let fades : (s : ℕ) → pointer later i ≡ Some s → pointer past i ≡ Some s = λ s p. e.fades s (said_now.fades s p) in
        let g = stays t.1.layer left.layer in
        record {
          waits_for = λ m list a.
              let b = from_left t.1.layer left.layer m list a in
              let w = k.waits_for m list (back m (Some (purposes.Pointer list)) b) in
              let v = transaction old.generation (suc i) 0 m in
              record {
                kind = w.kind;
                serial = w.serial;
                pointer_is = keeps_is (pointer past i) (pointer later i) w.serial fades (wrote m list a) w.pointer_is;
                held = ap (λ x. (terms later).held (transaction x (suc i) 0 m)) g ∙ ap (λ (x : Terms). x.held v) said_now.wire ∙ here m b.kind (ap shape b.state) ∙ w.held;
              };
          named = λ m kind s h p.
              let v = transaction old.generation (suc i) 0 m in
              let h1 : (terms ended).held v ≡ waits kind s = sym (ap (λ x. (terms later).held (transaction x (suc i) 0 m)) g ∙ ap (λ (x : Terms). x.held v) said_now.wire) ∙ h in
              let h0 = sym (e.held v (kind_as kind) (ap shape_of h1)) ∙ h1 in
              let x = k.named m kind s h0 (fades s p) in
              let waiting : shape (state_for l.peers target m) ≡ awaits (kind_as kind) = shown.states m ∙ ap (λ x. shape_of ((terms ended).held (transaction x (suc i) 0 m))) generation_is ∙ ap shape_of h1 in
              let u = under_way_now (state_for l.peers target m) (kind_as kind) waiting in
              let a : At l target m (purpose_for l.peers target m) = record { kind = u.kind; serial = u.serial; state = u.is; is_for = refl } in
              let b = back m (purpose_for l.peers target m) a in
              let purpose : purpose_for l.peers target m ≡ Some (purposes.Pointer x.list) = sym b.is_for ∙ x.is in
              record { list = x.list; is = (to_left t.1.layer left.layer m (purpose_for l.peers target m) a).is_for ∙ purpose };
          below = λ s p. let b = k.below s (fades s p) in let c = e.count in let d = ap (λ (x : Terms). x.count) said_now.wire in omega arith;
          asks = λ s p. let q = fades s p in sent_still past later i s (ap (λ (x : Terms). x.sent s) said_now.wire ∙ e.sent s) (k.asks s q);
          older = λ x m kind s h.
              let v = transaction x (suc i) 0 m in
              let h1 : (terms ended).held v ≡ waits kind s = sym (ap (λ (y : Terms). y.held v) said_now.wire) ∙ h in
              let b = k.older x m kind s (sym (e.held v (kind_as kind) (ap shape_of h1)) ∙ h1) in
              let c = e.count in
              let d = ap (λ (y : Terms). y.count) said_now.wire in omega arith;
        }

-- ---- none is written for the present list

pub none_points : (past : List Moment) (i target : ℕ) (layer : Layer Purpose) → ((number list : ℕ) → At layer target number (Some (purposes.Pointer list)) → ⊥) → is_some (pointer past i) ≡ false → ((generation number : ℕ) (kind : Kind) (serial : ℕ) → (terms past).held (transaction generation (suc i) 0 number) ≡ waits kind serial → serial ≤ (terms past).count) → Points past i target layer
none_points past i target layer none e older = record {
  waits_for = λ m list a. absurd (none m list a);
  named = λ m kind s h p. absurd (untrue (sym e ∙ ap is_some p));
  below = λ s p. absurd (untrue (sym e ∙ ap is_some p));
  asks = λ s p. absurd (untrue (sym e ∙ ap is_some p));
  older = older;
}
  where
    untrue : false ≡ true → ⊥
    untrue e = cc
