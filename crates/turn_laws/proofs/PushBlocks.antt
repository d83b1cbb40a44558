-- Each unsolicited status of the terms is a write of the block, and goes to the FIFO of a login of whom injected nothing: what a history makes of this, moment by moment, and what is handed out.
use Rattle.std.proofs.Common.{◌≡◌, ◌∙◌, refl, sym, ap, subst, inl, inr, ◌⊎◌, ℕ, suc, ◌<◌, List, [], ◌∷◌, ◌++◌, map, reverse, Option, Some, Result, Ok, Err}
use Rattle.async_packet.specs.Packet.{Packet, lock, lock_response, read_block, read_block_response, read_quadlet, read_quadlet_response, write_block, write_quadlet, write_response}
use Rattle.async_packet.specs.Reading.{reading}
use Rattle.async_packet.specs.declared.fault.PacketFault.{PacketFault}
use Rattle.media_bay.specs.Unsolicited.{block}
use Rattle.rbc_disk.specs.Disk.{Disk}
use Rattle.rbc_disk.specs.Held.{Held as Media}
use Rattle.sbp_journal.specs.Addresses.{Access, access_of}
use Rattle.sbp_journal.specs.Outgoings.{OutboxState}
use Rattle.sbp_journal.specs.Run.{Moment, asked, said}
use Rattle.sbp_journal.specs.Transactions.{Kind, Sending, no_packet, part_by, part_in, part_of, request, response}
use Rattle.sbp_journal.specs.Wire.{noted, terms}
use Rattle.sbp_journal.specs.declared.event.Event.{Event}
use Rattle.sbp_journal.specs.declared.note.Note.{Note}
use Rattle.sbp_laws.specs.Packets.{access_in, access_in_bytes, spelled_by}
use Rattle.sbp_world.specs.Handing.{handed_out}
use Rattle.sbp_world.specs.Lists.FewLogins.{IsCalmBeside}
use Rattle.sbp_world.specs.Lists.OwnLogins.{IsLoginFifo}
use Rattle.sbp_world.specs.Worlds.{WorldState}
use Rattle.sbp_world.proofs.Agents.Management.Still.{hist}
use Rattle.sbp_world.proofs.Hosts.Remaining.{opened_same}
use Rattle.sbp_world.proofs.Lists.Beside.{beside_before}
use Rattle.turn_laws.proofs.BehindTurns.{behind_is}
use Rattle.turn_laws.proofs.Handed.{handed, handed_fresh, onto}
use Rattle.turn_laws.proofs.LaterNotes.{ArePlain, note_sent}
use Rattle.turn_laws.proofs.LaterTerms.{Clean, Later, New, Pushes}
use Rattle.turn_laws.proofs.PendingTurns.{line_pushes, note_pushes, small, turn_later}
use Rattle.turn_laws.proofs.Places.{Place}
use Rattle.turn_laws.proofs.PushSerials.{Has}
use Rattle.turn_laws.proofs.SerialsStay.{IsNoSent}

-- a packet has the block for its payload, and to an initiator that injected nothing it goes to the FIFO of a login
pub record IsBlock (past : List Moment) (so : Option Sending) : Type 0 where
  pub packet : Sending
  pub is : so ≡ Some packet
  pub access : Access
  pub asks : access_in_bytes packet.bytes ≡ Some access
  pub payload : access.payload ≡ block
  pub fifo : (i : ℕ) → IsCalmBeside past i → packet.to ≡ suc i → IsLoginFifo access.offset

abbrev pub AreBlocks : List Disk → List Moment → Type 0
AreBlocks start ms = (r : ℕ) → Has (Pushes start ms) r → IsBlock ms ((terms ms).sent r)

-- whoever injected nothing until now injected nothing before
abbrev pub StaysCalm : List Moment → List Moment → Type 0
StaysCalm past now = (i : ℕ) → IsCalmBeside now i → IsCalmBeside past i

pub calm_by : (later past : List Moment) → StaysCalm past (later ++ past)
calm_by later past i c = beside_before later past i c

pub moved_block : (past now : List Moment) → StaysCalm past now → (a b : Option Sending) → b ≡ a → IsBlock past a → IsBlock now b
moved_block past now calm a b e h = record {
  packet = h.packet;
  is = e ∙ h.is;
  access = h.access;
  asks = h.asks;
  payload = h.payload;
  fifo = λ i c to. h.fifo i (calm i c) to;
}

-- ---- a request asks for something
pub record HasAccess (o : Option Access) : Type 0 where
  pub access : Access
  pub is : o ≡ Some access

no_request : {A : Type 0} {label other : ℕ} {kind that : Kind} → response label kind ≡ request other that → A
no_request {A} {label} {other} {kind} {that} e = absurd (let no : response label kind ≡ request other that = e in cc)

here : (a : Access) → HasAccess (Some a)
here a = record { access = a; is = refl }

asks_by : (p : Packet) (label : ℕ) (kind : Kind) → part_in p ≡ request label kind → HasAccess (access_of p)
asks_by (write_quadlet header offset value) label kind e = here _
asks_by (write_block header offset payload) label kind e = here _
asks_by (read_quadlet header offset) label kind e = here _
asks_by (read_block header offset size) label kind e = here _
asks_by (lock header offset extended payload) label kind e = here _
asks_by (write_response header rcode) label kind e = no_request e
asks_by (read_quadlet_response header rcode value) label kind e = no_request e
asks_by (read_block_response header rcode payload) label kind e = no_request e
asks_by (lock_response header rcode extended payload) label kind e = no_request e

pub request_access : (bytes : List ℕ) (label : ℕ) (kind : Kind) → part_of bytes ≡ request label kind → HasAccess (access_in_bytes bytes)
unfolding part_of
request_access bytes label kind e = by (reading bytes) e
  where
    by : (r : Result Packet PacketFault) → part_by r ≡ request label kind → HasAccess (access_in (spelled_by r))
    by (Ok p) f = asks_by p label kind f
    by (Err fault) f = absurd (let no : no_packet ≡ request label kind = f in cc)

-- ---- a moment that sends nothing
module _ (start : List Disk) (ms : List Moment) (b : AreBlocks start ms) where
  pub note_blocks : (note : Note) → IsNoSent note → AreBlocks start (said note ∷ ms)
  note_blocks note i r h =
      moved_block ms (said note ∷ ms) (calm_by (said note ∷ []) ms) ((terms ms).sent r) ((noted note (terms ms)).sent r) (ap (λ f. f r) (note_sent note (terms ms) i))
      (b r (subst (λ xs. Has xs r) (note_pushes start note ms i) h))

  pub line_blocks : (line : ℕ) (event : Event) → AreBlocks start (asked line event ∷ ms)
  line_blocks line event r h =
      moved_block ms (asked line event ∷ ms) (calm_by (asked line event ∷ []) ms) ((terms ms).sent r) ((terms (asked line event ∷ ms)).sent r) (ap (λ f. f r) (opened_same event (terms ms)).sent)
      (b r (subst (λ xs. Has xs r) (line_pushes start line event ms) h))

-- ---- behind what is handed out they are so where those that are new are
module _ (units ready : ℕ) (has : 0 < units) (start : List Disk) (past : List Moment) (old : List Note) (from weight : ℕ) (outbox : OutboxState) (v : WorldState) (media : Media) (fresh_is : v.fresh ≡ old) (there : Place units ready start past (record { world = handed_out from weight outbox v; media = media })) (Q : ℕ → List ℕ → Type 0) (plain : ArePlain Q from (handed from weight outbox v)) (clean : Clean (terms (map said old ++ past))) where
  abbrev base : List Moment
  base = map said old ++ past

  abbrev now : List Moment
  now = hist past (handed_out from weight outbox v)

  later : Later start from Q base now
  later = turn_later units ready has start past old from weight outbox v media fresh_is there Q plain clean

  pub calm_now : StaysCalm base now
  calm_now i c =
      let rest = handed from weight outbox v in
      beside_before (map said (reverse rest)) base i
      (subst (λ ms. IsCalmBeside ms i) (ap (λ ns. map said ns ++ past) (handed_fresh from weight outbox v ∙ ap (onto rest) fresh_is) ∙ sym (behind_is rest old past)) c)

  pub handed_blocks : AreBlocks start base → ((r : ℕ) → Has (Pushes start now) r → from ≡ 0 → New Q (terms base) (terms now) r → IsBlock now ((terms now).sent r)) → AreBlocks start now
  handed_blocks b new r h = by (later.more r h)
    where
      by : Has (Pushes start base) r ⊎ ((from ≡ 0) × New Q (terms base) (terms now) r) → IsBlock now ((terms now).sent r)
      by (inl k) =
          moved_block base now calm_now ((terms base).sent r) ((terms now).sent r)
          (later.sent r (small units ready has start past old from weight outbox v media fresh_is there Q plain clean r k)) (b r k)
      by (inr x) = new r h x.0 x.1
