-- The notes of a kind among those that a call hands out: of a kind that no packet is of, those that it told; and none where an initiator tells no such note.
use Rattle.std.proofs.Common.{◌≡◌, ◌∙◌, refl, ap, ℕ, ◌+◌, Bool, false, cond, List, [], ◌∷◌, ◌++◌, Option, Some, None}
use Rattle.std.proofs.lemmas.List.Elements.{filter-append}
use Rattle.sbp_bus.specs.Generations.{node_of, topology_at}
use Rattle.sbp_journal.specs.Outgoings.{OutboxState}
use Rattle.sbp_journal.specs.declared.note.Note.{Note}
use Rattle.sbp_journal.specs.declared.note.Note.TheVariants as notes
use Rattle.sbp_journal.specs.declared.outbox.Outgoing.{Outgoing}
use Rattle.sbp_journal.specs.declared.side.Side.{Side}
use Rattle.sbp_journal.specs.declared.side.Side.TheVariants as sides
use Rattle.sbp_laws.specs.NoteKinds.{of_kind}
use Rattle.sbp_world.specs.Sending.{sent}
use Rattle.sbp_world.specs.Telling.{told, told_all}
use Rattle.sbp_world.specs.Worlds.{WorldState}
use Rattle.sbp_world.proofs.Formed.{AreOwn, IsNoRun}
use Rattle.turn_laws.proofs.Handed.{handed, notes_sent, notes_told, packet_note}

-- nothing behind a list
pub none_behind : {A : Type 0} (xs : List A) → xs ++ [] ≡ xs
none_behind [] = refl
none_behind (x ∷ xs) = ap (λ ys. x ∷ ys) (none_behind xs)

pub join_same : {A : Type 0} (a b c : List A) → a ++ (b ++ c) ≡ (a ++ b) ++ c
join_same [] b c = refl
join_same (x ∷ a) b c = ap (λ xs. x ∷ xs) (join_same a b c)

-- a kind that no packet is of
pub record IsToldKind (kind : Note → Bool) : Type 0 where
  pub no_packet : (serial generation from to : ℕ) (bytes : List ℕ) → kind (notes.Sent serial generation from to bytes) ≡ false

module _ (kind : Note → Bool) (k : IsToldKind kind) where
  one_packet : (to : Option ℕ) (from : ℕ) (packet : Outgoing) (w : WorldState) → of_kind kind (packet_note to from packet w) ≡ []
  one_packet None from packet w = refl
  one_packet (Some to) from packet w =
      let serial = w.store.last + 1 in
      let generation = (topology_at w.generations from).generation in ap (λ b. cond b (notes.Sent serial generation from to packet.bytes ∷ []) []) (k.no_packet serial generation from to packet.bytes)

  no_packets : (from : ℕ) (packets : List Outgoing) (w : WorldState) → of_kind kind (notes_sent from packets w) ≡ []
  no_packets from [] w = refl
  no_packets from (packet ∷ later) w =
      let to = node_of w.generations from packet.to in
      filter-append kind (packet_note to from packet w) (notes_sent from later (sent from packet w))
      ∙ ap (λ ns. ns ++ of_kind kind (notes_sent from later (sent from packet w))) (one_packet to from packet w) ∙ no_packets from later (sent from packet w)

  -- among all that is handed out
  pub kind_handed : (node weight : ℕ) (outbox : OutboxState) (w : WorldState) → of_kind kind (handed node weight outbox w) ≡ of_kind kind (notes_told weight outbox.sides w)
  kind_handed node weight outbox w =
      let told_notes = notes_told weight outbox.sides w in
      let v = told_all weight outbox.sides w in
      filter-append kind told_notes (notes_sent node outbox.packets v) ∙ ap (λ ns. of_kind kind told_notes ++ ns) (no_packets node outbox.packets v) ∙ none_behind (of_kind kind told_notes)

  -- of an initiator that tells none
  module _ (no_own : (note : Note) → IsNoRun note → kind note ≡ false) where
    own_told : (weight : ℕ) (later : List Side) (w : WorldState) → AreOwn later → of_kind kind (notes_told weight later w) ≡ []
    own_told weight [] w h = refl
    own_told weight (sides.Own note ∷ later) w h =
        ap (λ b. cond b (note ∷ of_kind kind (notes_told weight later (told weight (sides.Own note) w))) (of_kind kind (notes_told weight later (told weight (sides.Own note) w)))) (no_own note h.0.1)
        ∙ own_told weight later (told weight (sides.Own note) w) h.1
    own_told weight (side ∷ later) w h = absurd h.0

    pub own_handed : (node weight : ℕ) (outbox : OutboxState) (w : WorldState) → AreOwn outbox.sides → of_kind kind (handed node weight outbox w) ≡ []
    own_handed node weight outbox w h = kind_handed node weight outbox w ∙ own_told weight outbox.sides w h
