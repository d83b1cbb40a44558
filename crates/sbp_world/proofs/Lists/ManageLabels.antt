-- A write of MANAGEMENT_AGENT that is under way at an initiator: the bus knows it under its label, and where its operation is the one under way it is that one's write.
use Rattle.sbp_world.proofs.Words.Std.{arith, ◌≡◌, refl, sym, ◌∙◌, ap, subst, ℕ, suc, ◌+◌, ◌≤◌, ◌==◌, nat_lt, not, Bool, true, false, List, [], ◌∷◌, Option, Some}
use Rattle.sbp_world.proofs.Words.Wire.{awaits, shape, shape_of, transaction, not_begun, under_way, ReplyKind, Layer, seeing_step, state_for, empty_outbox, Moment, asked, said, Kind, Sending, Transaction, begun_by, between, part_of, Held, Terms, kind_in, terms, waits, Action, Event, Note, Outgoing, Side}
use Rattle.sbp_world.proofs.Words.Initiator.{Purpose, InitiatorState, Turn, new_state, see_step, wanted_body}
use Rattle.sbp_world.proofs.Words.World.{behind}
use Rattle.bus_transactions.proofs.Facts.{asked_begun, request_asked}
use Rattle.sbp_journal.specs.declared.note.Note.TheVariants as notes
use Rattle.sbp_initiator.specs.declared.purpose.Purpose.TheVariants as purposes
use Rattle.sbp_world.proofs.Hosts.ActLeft.{ActLeft, HasAsked}
use Rattle.sbp_world.proofs.Hosts.Aimed.{IsAimed}
use Rattle.sbp_world.proofs.Hosts.Asked.{IsRequest, number_in}
use Rattle.sbp_world.proofs.Hosts.Held.{sent_begun, sent_count}
use Rattle.sbp_world.proofs.Hosts.Layered.{AreTame, LayerLeft, read, same}
use Rattle.sbp_world.proofs.Hosts.Lives.{At, AskedAt, Called, ask_at, asked_now, at_life, was_asked}
use Rattle.sbp_world.proofs.Hosts.PointerNotes.{Fit, Told, opens, tame_told}
use Rattle.sbp_world.proofs.Hosts.Pointing.{asked_generation, at_same, sent_waits}
use Rattle.sbp_world.proofs.Hosts.Shown.{IsShown}
use Rattle.sbp_world.proofs.Pointers.WaitActs.{none_seen, see_old}

-- ---- a later generation

pub record AskedFor (past : List Moment) (i generation number act : ℕ) (Own : (act serial : ℕ) → Type 0) : Type 0 where
  pub kind : Kind
  pub serial : ℕ
  pub held : (terms past).held (transaction generation (suc i) 0 number) ≡ waits kind serial
  pub own : Own act serial
  pub below : serial ≤ (terms past).count

pub record Asks (past : List Moment) (i target : ℕ) (layer : Layer Purpose) (Own : (act serial : ℕ) → Type 0) : Type 0 where
  pub waits_for : (number act : ℕ) → At layer target number (Some (purposes.Management act)) → AskedFor past i layer.generation number act Own

-- the same of another
pub asks_to : {past : List Moment} {i target : ℕ} {layer : Layer Purpose} (Own Other : (act serial : ℕ) → Type 0) → ((act serial : ℕ) → Own act serial → Other act serial) → Asks past i target layer Own → Asks past i target layer Other
asks_to Own Other f k = record {
  waits_for = λ m act a.
      let w = k.waits_for m act a in record { kind = w.kind; serial = w.serial; held = w.held; own = f act w.serial w.own; below = w.below };
}

module _ (Own : (act serial : ℕ) → Type 0) where
  module _ (past now : List Moment) (i target : ℕ) (layer : Layer Purpose) (held : (g m : ℕ) → (terms now).held (transaction g (suc i) 0 m) ≡ (terms past).held (transaction g (suc i) 0 m)) (count : (terms past).count ≤ (terms now).count) where
    pub still_asks : Asks past i target layer Own → Asks now i target layer Own
    still_asks k = record {
      waits_for = λ m act a.
          let w = k.waits_for m act a in
          record { kind = w.kind; serial = w.serial; held = held layer.generation m ∙ w.held; own = w.own; below = (let b = w.below in omega (arith, b, count)) };
    }

  pub sent_asks : (serial generation from to : ℕ) (bytes : List ℕ) (past : List Moment) (i target : ℕ) (layer : Layer Purpose) → Fit (said (notes.Sent serial generation from to bytes) ∷ past) → Asks past i target layer Own → Asks (said (notes.Sent serial generation from to bytes) ∷ past) i target layer Own
  sent_asks serial generation from to bytes past i target layer fit k = record {
    waits_for = λ m act a.
        let t = terms past in
        let packet : Sending = record { generation = generation; from = from; to = to; bytes = bytes; injected = t.injected serial } in
        let w = k.waits_for m act a in
        record {
          kind = w.kind;
          serial = w.serial;
          held = sent_waits t serial packet fit.sent.0 (transaction layer.generation (suc i) 0 m) w.kind w.serial w.held;
          own = w.own;
          below = (let b = w.below in let d = sent_count serial packet t in omega (arith, b, d));
        };
  }

  -- a label that waits behind a note did so before
  module _ (past : List Moment) (note : Note) (i target : ℕ) (old l : Layer Purpose) (e : (v : Transaction) (kind : ReplyKind) → shape_of ((terms (said note ∷ past)).held v) ≡ awaits kind → (terms (said note ∷ past)).held v ≡ (terms past).held v) (count : (terms past).count ≤ (terms (said note ∷ past)).count) (k : Asks past i target old Own) (c : Called l) (generation_is : l.generation ≡ old.generation) (back : (number : ℕ) (purpose : Option Purpose) → At l target number purpose → At old target number purpose) (shown : IsShown (said note ∷ past) i target l) (told : List Side) (tame : AreTame told) where
    abbrev ended : List Moment
    ended = said note ∷ past

    abbrev later : List Moment
    later = behind told ended

    here : (m : ℕ) (kind : ReplyKind) → shape (state_for l.peers target m) ≡ awaits kind → (terms ended).held (transaction old.generation (suc i) 0 m) ≡ (terms past).held (transaction old.generation (suc i) 0 m)
    here m kind w =
        e (transaction old.generation (suc i) 0 m) kind (ap (λ g. shape_of ((terms ended).held (transaction g (suc i) 0 m))) (sym generation_is) ∙ sym (shown.states m) ∙ w)

    none_rom : {A : Type 0} (act quad : ℕ) → Some (purposes.Management act) ≡ Some (purposes.Rom quad) → A
    none_rom act quad f = absurd (let no : Some (purposes.Management act) ≡ Some (purposes.Rom quad) = f in cc)

    from_left : (new : Layer Purpose) → LayerLeft l target new → (m act : ℕ) → At new target m (Some (purposes.Management act)) → At l target m (Some (purposes.Management act))
    from_left new (same g p) m act a = at_same new l target m (Some (purposes.Management act)) (sym p) a
    from_left new (read body quad got step) m act a = by_asked (ask_at l target body (purposes.Rom quad) got new target m (Some (purposes.Management act)) c step a)
      where
        by_asked : AskedAt l target got (purposes.Rom quad) target m (Some (purposes.Management act)) → At l target m (Some (purposes.Management act))
        by_asked (asked_now p n f) = none_rom act quad f
        by_asked (was_asked b) = b

    stays : (new : Layer Purpose) → LayerLeft l target new → new.generation ≡ old.generation
    stays new (same g p) = g ∙ generation_is
    stays new (read body quad got step) = asked_generation l target body (purposes.Rom quad) got new step ∙ generation_is

    pub ended_asks : (new : Layer Purpose) → LayerLeft l target new → Asks later i target new Own
    ended_asks new left =
        let wire = (tame_told told ended i tame).wire in
        let g = stays new left in
        record {
          waits_for = λ m act a.
              let b = from_left new left m act a in
              let w = k.waits_for m act (back m (Some (purposes.Management act)) b) in
              let v = transaction old.generation (suc i) 0 m in
              record {
                kind = w.kind;
                serial = w.serial;
                held = ap (λ x. (terms later).held (transaction x (suc i) 0 m)) g ∙ ap (λ (x : Terms). x.held v) wire ∙ here m b.kind (ap shape b.state) ∙ w.held;
                own = w.own;
                below = (let x = w.below in let y = ap (λ (z : Terms). z.count) wire in omega (arith, x, y, count));
              };
        }

  -- what is told that is no packet, and a line that begins
  pub told_asks : (told : List Side) (past : List Moment) (i target : ℕ) (layer : Layer Purpose) → AreTame told → Asks past i target layer Own → Asks (behind told past) i target layer Own
  told_asks told past i target layer tame k =
      let x = tame_told told past i tame in
      still_asks past (behind told past) i target layer (λ g m. ap (λ (t : Terms). t.held (transaction g (suc i) 0 m)) x.wire) (let z = ap (λ (t : Terms). t.count) x.wire in omega (arith, z)) k

  pub line_asks : (line : ℕ) (event : Event) (past : List Moment) (i target : ℕ) (layer : Layer Purpose) → Asks past i target layer Own → Asks (asked line event ∷ past) i target layer Own
  line_asks line event past i target layer k =
      let o = opens event (terms past) in
      still_asks past (asked line event ∷ past) i target layer (λ g m. ap (λ (x : Transaction → Held). x (transaction g (suc i) 0 m)) o.held) (let z = o.count in omega (arith, z)) k

  -- a later generation leaves none
  pub seen_asks : (ready : Bool) (generation id target : ℕ) (past : List Moment) (i : ℕ) (s : InitiatorState) → (seeing_step s.layer generation id).0 ≡ not (generation == (terms past).generation (suc i)) → IsAimed ready i s → Asks past i s.target s.layer Own → (let t = see_step generation id target empty_outbox s in Asks (behind t.0.sides (said (notes.Seen (suc i) generation) ∷ past)) i t.1.target t.1.layer Own)
  seen_asks ready generation id target past i s flag h k = by (nat_lt s.layer.generation generation) refl
    where
      by : (b : Bool) → nat_lt s.layer.generation generation ≡ b → (let t = see_step generation id target empty_outbox s in Asks (behind t.0.sides (said (notes.Seen (suc i) generation) ∷ past)) i t.1.target t.1.layer Own)
      by true e = record { waits_for = λ m act a. absurd (none_seen ready generation id target past i s flag h e (see_step generation id target empty_outbox s).1.target m (Some (purposes.Management act)) a) }
      by false e =
          subst (λ (t : Turn). Asks (behind t.0.sides (said (notes.Seen (suc i) generation) ∷ past)) i t.1.target t.1.layer Own) (sym (see_old generation id target s e))
          (still_asks past (said (notes.Seen (suc i) generation) ∷ past) i s.target s.layer (λ g m. refl) (let l : (terms past).count ≤ (terms past).count = omega arith in l) k)

  -- nothing is under way at first
  pub first_asks : (past : List Moment) (i : ℕ) (ready : Bool) → Asks past i (new_state i ready).target (new_state i ready).layer Own
  unfolding new_state
  first_asks past i ready = record { waits_for = λ m act a. absurd (not_yet (at_life (0xffc1 + i) [] (new_state i ready).target m (Some (purposes.Management act)) a)) }
    where
      not_yet : {kind : ReplyKind} {purpose : Option Purpose} → not_begun ≡ under_way kind purpose → ⊥
      not_yet e = cc

-- ---- the request of an action

module _ (Own Other : (act serial : ℕ) → Type 0) (action : Action) (past : List Moment) (i : ℕ) (s : InitiatorState) (t : Turn) (shown : IsShown past i s.target s.layer) (called : Called s.layer) (k : Asks past i s.target s.layer Own) (left : ActLeft action s t) (packet : Outgoing) (one : t.0.packets ≡ packet ∷ []) (serial generation : ℕ) (injected : (terms past).injected serial ≡ false) (q : IsRequest (number_in packet.label) packet.bytes) (fit : Fit (said (notes.Sent serial generation (suc i) 0 packet.bytes) ∷ behind t.0.sides past)) where
  abbrev ms : List Moment
  ms = behind t.0.sides past

  abbrev now : List Moment
  now = said (notes.Sent serial generation (suc i) 0 packet.bytes) ∷ ms

  abbrev told : Told past t.0.sides i
  told = tame_told t.0.sides past i left.told

  abbrev T : Terms
  T = terms ms

  abbrev sending : Sending
  sending = record { generation = generation; from = suc i; to = 0; bytes = packet.bytes; injected = T.injected serial }

  abbrev pub x : HasAsked action s packet t.1.layer
  x = left.asking packet one

  honest : T.injected serial ≡ false
  honest = ap (λ (y : Terms). y.injected serial) told.wire ∙ injected

  generation_is : generation ≡ s.layer.generation
  generation_is = (fit.sent.0 honest).now ∙ ap (λ (y : Terms). y.generation (suc i)) told.wire ∙ sym shown.generation

  stays_in : t.1.layer.generation ≡ s.layer.generation
  stays_in = asked_generation s.layer s.target (wanted_body x.demand.wanted) x.demand.purpose x.asked t.1.layer x.step

  -- the transaction that the request begins
  abbrev own_at : ℕ → Transaction
  own_at m = transaction s.layer.generation (suc i) 0 m

  begins : begun_by sending ≡ Some (own_at x.asked.label.number)
  begins =
      asked_begun sending (between sending sending.from sending.to (number_in packet.label)) honest (request_asked sending (number_in packet.label) q.kind q.part)
      ∙ ap (λ g. Some (transaction g (suc i) 0 (number_in packet.label))) generation_is
      ∙ ap (λ m. Some (own_at m)) (ap number_in x.label)

  now_own : (m : ℕ) → (terms now).held (transaction t.1.layer.generation (suc i) 0 m) ≡ (terms now).held (own_at m)
  now_own m = ap (λ g. (terms now).held (transaction g (suc i) 0 m)) stays_in

  count_is : T.count ≡ (terms past).count
  count_is = ap (λ (y : Terms). y.count) told.wire

  module _ (old : (act serial : ℕ) → Own act serial → Other act serial) (new : (act : ℕ) → x.demand.purpose ≡ purposes.Management act → Other act serial) where
    waits_by : (m act : ℕ) → AskedAt s.layer s.target x.asked x.demand.purpose s.target m (Some (purposes.Management act)) → AskedFor now i t.1.layer.generation m act Other
    waits_by m act (asked_now peer n e) = record {
      kind = kind_in (part_of packet.bytes);
      serial = serial;
      held = now_own m ∙ sent_begun serial sending T (own_at m) (begins ∙ ap (λ z. Some (own_at z)) (sym n));
      own = new act (let f : purposes.Management act ≡ x.demand.purpose = cc in sym f);
      below = (let f = fit.serials.0 in let d = sent_count serial sending T in omega (arith, f, d));
    }
    waits_by m act (was_asked b) =
        let w = k.waits_for m act b in
        record {
          kind = w.kind;
          serial = w.serial;
          held = now_own m ∙ sent_waits T serial sending fit.sent.0 (own_at m) w.kind w.serial (ap (λ (y : Terms). y.held (own_at m)) told.wire ∙ w.held);
          own = old act w.serial w.own;
          below = (let l = w.below in let e = count_is in let d = sent_count serial sending T in omega (arith, l, e, d));
        }

    pub asking_asks : Asks now i s.target t.1.layer Other
    asking_asks = record {
      waits_for = λ m act a. waits_by m act (ask_at s.layer s.target (wanted_body x.demand.wanted) x.demand.purpose x.asked t.1.layer s.target m (Some (purposes.Management act)) called x.step a);
    }
