-- The writes of the target to an initiator in the turn of one of its agents are those of what follows its step: a response writes nothing, and an unsolicited status goes to another initiator.
use Rattle.std.proofs.Common.{◌≡◌, ◌∙◌, refl, sym, ap, ℕ, ◌==◌, Bool, true, false, cond, List, [], ◌∷◌, ◌++◌, append_assoc, append-nil, Option, Some, None}
use Rattle.login_table.specs.declared.login.Login.{Login}
use Rattle.login_table.specs.Sound.{IsSound}
use Rattle.login_table.specs.Table.{is_live, place_at}
use Rattle.sbp_bus.specs.Generations.{GenerationsState, node_of, topology_at}
use Rattle.sbp_journal.specs.Addresses.{Access}
use Rattle.sbp_journal.specs.Outgoings.{OutboxState}
use Rattle.sbp_journal.specs.declared.note.Note.{Note}
use Rattle.sbp_journal.specs.declared.outbox.Outgoing.{Outgoing}
use Rattle.sbp_journal.specs.declared.side.Side.{Side}
use Rattle.sbp_journal.specs.declared.side.Side.TheVariants as sides
use Rattle.sbp_laws.specs.OnceLaw.{is_write_in}
use Rattle.sbp_laws.specs.Packets.{access_in_bytes}
use Rattle.sbp_laws.specs.SentWrites.{NodeWrite, node_write, writes_to}
use Rattle.sbp_world.specs.Hosts.Handing.{AreOthers, IsOther}
use Rattle.sbp_world.specs.Sending.{sent, sent_all}
use Rattle.sbp_world.specs.Telling.{told, told_all}
use Rattle.sbp_world.specs.Worlds.{WorldState}
use Rattle.sbp_world.proofs.Common.{equal, same_number}
use Rattle.sbp_world.proofs.Lists.StatusOffice.{sides_generations}
use Rattle.sbp_world.proofs.Lists.StatusPackets.{AllRead}
use Rattle.sbp_world.proofs.Lists.StatusReads.{IsRead}
use Rattle.sbp_world.proofs.Wire.Alike.{all_alike}
use Rattle.sbp_world.proofs.Wire.Bus.{node_has}
use Rattle.turn_laws.proofs.FollowSends.{AllTo}
use Rattle.turn_laws.proofs.Handed.{handed, note_of, notes_sent, notes_told, packet_note}
use Rattle.turn_laws.proofs.PushSends.{ArePushes, IsPush, Pushes}

-- of packets that all go to one node
abbrev pub all_writes : (node : ℕ) → List Outgoing → List NodeWrite
all_writes node [] = []
all_writes node (packet ∷ later) = node_write node (access_in_bytes packet.bytes) ++ all_writes node later

pub both_writes : (node : ℕ) (a b : List Outgoing) → all_writes node (a ++ b) ≡ all_writes node a ++ all_writes node b
both_writes node [] b = refl
both_writes node (packet ∷ a) b =
    let own = node_write node (access_in_bytes packet.bytes) in ap (λ ws. own ++ ws) (both_writes node a b) ∙ sym (append_assoc own (all_writes node a) (all_writes node b))

-- one that reads writes nothing
access_reads : (node : ℕ) (access : Option Access) → is_write_in access ≡ false → node_write node access ≡ []
access_reads node None e = refl
access_reads node (Some access) e = ap (λ b. cond b (record { to = node; offset = access.offset; payload = access.payload } ∷ []) []) e

pub reads_write : (node : ℕ) (packets : List Outgoing) → AllRead packets → all_writes node packets ≡ []
reads_write node [] h = refl
reads_write node (packet ∷ later) h = ap (λ ws. ws ++ all_writes node later) (access_reads node (access_in_bytes packet.bytes) h.0) ∙ reads_write node later h.1

pub sent_generations : (packet : Outgoing) (w : WorldState) → (sent 0 packet w).generations ≡ w.generations
unfolding sent_all
sent_generations packet w = (all_alike 0 (packet ∷ []) w).generations

module _ (node : ℕ) where
  -- ---- among the notes of a call
  one_told : (side : Side) (w : WorldState) (rest : List Note) → IsOther side → writes_to node (note_of side w ++ rest) ≡ writes_to node rest
  one_told (sides.Own note) w rest o = absurd o
  one_told side w rest o = refl

  told_writes : (later : List Side) (w : WorldState) (rest : List Note) → AreOthers later → writes_to node (notes_told 0 later w ++ rest) ≡ writes_to node rest
  told_writes [] w rest o = refl
  told_writes (side ∷ later) w rest o =
      let v = told 0 side w in
      ap (writes_to node) (append_assoc (note_of side w) (notes_told 0 later v) rest) ∙ (one_told side w (notes_told 0 later v ++ rest) o.0 ∙ told_writes later v rest o.1)

  abbrev pub write_by : Option ℕ → List ℕ → List NodeWrite
  write_by None bytes = []
  write_by (Some to) bytes = cond (to == node) (node_write to (access_in_bytes bytes)) []

  abbrev pub packet_writes : GenerationsState → List Outgoing → List NodeWrite
  packet_writes g [] = []
  packet_writes g (packet ∷ later) = write_by (node_of g 0 packet.to) packet.bytes ++ packet_writes g later

  one_sent : (to : Option ℕ) (packet : Outgoing) (w : WorldState) (rest : List Note) → writes_to node (packet_note to 0 packet w ++ rest) ≡ write_by to packet.bytes ++ writes_to node rest
  one_sent None packet w rest = refl
  one_sent (Some to) packet w rest = refl

  sent_writes : (packets : List Outgoing) (w : WorldState) → writes_to node (notes_sent 0 packets w) ≡ packet_writes w.generations packets
  sent_writes [] w = refl
  sent_writes (packet ∷ later) w =
      let v = sent 0 packet w in
      let to = node_of w.generations 0 packet.to in
      one_sent to packet w (notes_sent 0 later v)
      ∙ (ap (λ ws. write_by to packet.bytes ++ ws) (sent_writes later v) ∙ ap (λ g. write_by to packet.bytes ++ packet_writes g later) (sent_generations packet w))

  pub handed_writes : (outbox : OutboxState) (w : WorldState) → AreOthers outbox.sides → writes_to node (handed 0 0 outbox w) ≡ packet_writes w.generations outbox.packets
  handed_writes outbox w o =
      let v = told_all 0 outbox.sides w in
      told_writes outbox.sides w (notes_sent 0 outbox.packets v) o ∙ (sent_writes outbox.packets v ∙ ap (λ g. packet_writes g outbox.packets) (sides_generations 0 outbox.sides w))

  -- ---- of packets that go there, that read, and that go elsewhere
  module _ (g : GenerationsState) where
    both_sent : (a b : List Outgoing) → packet_writes g (a ++ b) ≡ packet_writes g a ++ packet_writes g b
    both_sent [] b = refl
    both_sent (packet ∷ a) b =
        let own = write_by (node_of g 0 packet.to) packet.bytes in ap (λ ws. own ++ ws) (both_sent a b) ∙ sym (append_assoc own (packet_writes g a) (packet_writes g b))

    -- to one peer
    pub to_peer : (peer : ℕ) → node_of g 0 peer ≡ Some node → (packets : List Outgoing) → AllTo peer packets → packet_writes g packets ≡ all_writes node packets
    to_peer peer there [] h = refl
    to_peer peer there (packet ∷ later) h =
        ap (λ ws. ws ++ packet_writes g later)
        (ap (λ to. write_by to packet.bytes) (ap (λ id. node_of g 0 id) h.0 ∙ there) ∙ ap (λ b. cond b (node_write node (access_in_bytes packet.bytes)) []) (same_number node))
        ∙ ap (λ ws. node_write node (access_in_bytes packet.bytes) ++ ws) (to_peer peer there later h.1)

    if_none : (b : Bool) (ws : List NodeWrite) → ws ≡ [] → cond b ws [] ≡ []
    if_none true ws e = e
    if_none false ws e = refl

    read_by : (to : Option ℕ) (bytes : List ℕ) → IsRead bytes → write_by to bytes ≡ []
    read_by None bytes r = refl
    read_by (Some to) bytes r = if_none (to == node) (node_write to (access_in_bytes bytes)) (access_reads to (access_in_bytes bytes) r)

    no_writes : (packets : List Outgoing) → AllRead packets → packet_writes g packets ≡ []
    no_writes [] h = refl
    no_writes (packet ∷ later) h = ap (λ ws. ws ++ packet_writes g later) (read_by (node_of g 0 packet.to) packet.bytes h.0) ∙ no_writes later h.1

    -- to another login of the unit
    module _ (places : List (Option Login)) (sound : IsSound places) (place : ℕ) (login : Login) (there : place_at places place ≡ Some login) (live : is_live login ≡ true) (here : node_of g 0 login.node ≡ Some node) where
      other_node : (packet : Outgoing) → IsPush places login.unit place packet → node_of g 0 packet.to ≡ Some node → ⊥
      other_node packet p e =
          let own = node_has (topology_at g 0) login.node node here in
          let its = node_has (topology_at g 0) packet.to node e in
          let apart = sound.apart place p.place login p.other (λ same. p.away (sym same)) there p.there in
          apart.nodes (sym p.unit_is) live p.live (sym own.id_is ∙ (its.id_is ∙ p.to_is))

      away_by : (to : Option ℕ) (bytes : List ℕ) → (to ≡ Some node → ⊥) → write_by to bytes ≡ []
      away_by None bytes f = refl
      away_by (Some to) bytes f = by (to == node) refl
        where
          by : (b : Bool) → (to == node) ≡ b → cond b (node_write to (access_in_bytes bytes)) [] ≡ []
          by true e = absurd (f (ap Some (equal to node e)))
          by false e = refl

      pushes_away : (packets : List Outgoing) → ArePushes places login.unit place packets → packet_writes g packets ≡ []
      pushes_away [] h = refl
      pushes_away (packet ∷ later) h =
          ap (λ ws. ws ++ packet_writes g later) (away_by (node_of g 0 packet.to) packet.bytes (other_node packet h.0)) ∙ pushes_away later h.1

      pub turn_writes : (outbox : OutboxState) (w : WorldState) (first own : List Outgoing) → w.generations ≡ g → AreOthers outbox.sides → AllRead first → AllTo login.node own
          → Pushes places login.unit place (first ++ own) outbox.packets → writes_to node (handed 0 0 outbox w) ≡ all_writes node own
      turn_writes outbox w first own same others reads to p =
          handed_writes outbox w others
          ∙ (ap (λ h. packet_writes h outbox.packets) same
          ∙ (ap (packet_writes g) p.is
          ∙ (both_sent (first ++ own) p.more
          ∙ (ap (λ ws. packet_writes g (first ++ own) ++ ws) (pushes_away p.more p.pushes)
          ∙ (append-nil (packet_writes g (first ++ own))
          ∙ (both_sent first own ∙ (ap (λ ws. ws ++ packet_writes g own) (no_writes first reads) ∙ to_peer login.node here own to)))))))
