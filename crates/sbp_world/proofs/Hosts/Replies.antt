-- A block read that an initiator gets in a delivery is answered from its memory.
use Rattle.sbp_world.proofs.Words.Std.{arith, ◌≡◌, refl, sym, ◌∙◌, ap, subst, ℕ, suc, ◌<◌, ◌≤◌, ◌^◌, List, [], ◌∷◌, ◌++◌, map, length, replicate, Option, Some, Result, Ok, Err, Bool, length-replicate, length-take}
use Rattle.sbp_world.proofs.Words.Wire.{reading, Access, access_of, empty_outbox, Moment, said, of_request, terms}
use Rattle.sbp_world.proofs.Words.Target.{Told}
use Rattle.sbp_world.proofs.Words.Initiator.{judged, read_at, read_step, Memory, Rcode, Spot, Answer, Payload, InitiatorState, receive_step}
use Rattle.sbp_world.proofs.Words.Laws.{answer_in, id_of, spelled_by, host_reply}
use Rattle.sbp_world.proofs.Words.World.{delivered, Scene, initiator_at, AllSend, history, HoldsOrbs, IsReadBy, IsReadOf, payload_of}
use Rattle.bus_memory.specs.declared.access.Access.TheVariants.{Read}
use Rattle.sbp_journal.specs.declared.note.Note.TheVariants as notes
use Rattle.sbp_laws.specs.CarriedBytes.{bytes_in}
use Rattle.sbp_laws.specs.Served.{Reply}
use Rattle.sbp_world.proofs.Wire.Holding.{Sound}
use Rattle.sbp_world.specs.Hosts.Carrying.{IsServed}
use Rattle.sbp_world.proofs.FitInitiator.Memory.{read_long}
use Rattle.sbp_world.proofs.Hosts.Answering.{answer, asks_block}
use Rattle.sbp_world.proofs.Hosts.AnsweringBlocks.{block_answered}
use Rattle.sbp_world.proofs.Hosts.AnsweringSends as sends
use Rattle.sbp_world.proofs.Hosts.AnsweringSends.{Gets}
use Rattle.sbp_world.proofs.Hosts.ReadsHeld.{is_served}
use Rattle.sbp_world.proofs.Hosts.Replied.{IsReplied}
use Rattle.sbp_world.proofs.Hosts.ResponseBytes.{IsBlockRead, asked_most, completes, tells_given}
use Rattle.sbp_world.proofs.Hosts.ResponseTells.{rcode_small, read_code}

pub same_access : (one other : Access) → Some one ≡ Some other → one ≡ other
same_access one other e = cc

-- no more is read than there is room for
pub read_short : (m : Memory) (out : List ℕ) (found : Result Spot Rcode) → length (read_at m out found).1 ≤ length out
read_short m out (Ok spot) = simp length-take (omega arith)
read_short m out (Err rcode) = omega arith

module _ {past : List Moment} {lines : ℕ} (s : Scene) (sound : Sound past lines s.world) (i : ℕ) (inside : i < length s.world.initiators) (known : IsReadBy (history s.world past) i (initiator_at s.world i)) (orbs : HoldsOrbs (history s.world past) i (initiator_at s.world i)) (all : AllSend (history s.world past) i (initiator_at s.world i).lists.memory) (serial : ℕ) (again : Bool) (told : Option Told) (g : Gets s.world i serial) (block : IsBlockRead g.packet g.access.offset g.access.count) where
  abbrev H : List Moment
  H = history s.world past

  abbrev old : InitiatorState
  old = initiator_at s.world i

  abbrev out : List ℕ
  out = replicate g.access.count 0

  -- what its memory gives
  abbrev reply : Reply
  reply = record { rcode = (read_step old.lists.memory g.access.offset out).0; given = (read_step old.lists.memory g.access.offset out).1 }

  packets_are : (receive_step g.sent.generation g.sent.bytes empty_outbox old).1.0.packets ≡ answer old.layer.node g.packet reply.rcode reply.given ∷ []
  packets_are =
      block_answered old block.header g.access.offset g.access.count g.sent.bytes g.sent.generation (g.request ∙ ap (λ p. of_request p) block.is) g.got
      ∙ ap (λ p. answer old.layer.node p reply.rcode reply.given ∷ []) (sym block.is)

  -- the access is that of a block read
  access_is : asks_block g.access.offset g.access.count ≡ g.access
  access_is = same_access (asks_block g.access.offset g.access.count) g.access (sym (ap access_of block.is) ∙ g.asks_for)

  is_read : IsReadOf g.access out
  is_read = record {
    lock = ap (λ (a : Access). a.is_lock) (sym access_is);
    write = ap (λ (a : Access). a.is_write) (sym access_is);
    size = length-replicate g.access.count 0;
  }

  same_code : (host_reply H i g.access).rcode ≡ reply.rcode
  same_code = read_code H i g.access is_read.write ∙ sym (known.read_rcode g.access out is_read)

  few : reply.rcode < 2 ^ 4
  few = subst (λ n. n < 2 ^ 4) same_code (rcode_small H i g.access)

  abbrev own : ℕ
  own = id_of (terms H) (suc i)

  read : reading g.sent.bytes ≡ Ok g.packet
  read = (sends.request s sound i inside serial again told g reply packets_are).read

  short : length reply.given ≤ 2048
  short =
      let most = asked_most g.sent.bytes g.packet read g.access.offset g.access.count block in
      let room = read_short old.lists.memory out (judged old.lists.memory Read g.access.offset (length out)) in
      let size = is_read.size in
      omega arith

  abbrev leaving : List ℕ
  leaving = sends.leaving s sound i inside serial again told g reply packets_are

  tells_all : reply.rcode ≡ 0 → answer_in (spelled_by (reading leaving)) ≡ Payload reply.given
  tells_all zero =
      tells_given g.sent.bytes g.packet read (sends.are_bytes s sound i inside serial again told g reply packets_are) own (sends.small s sound i inside serial again told g reply packets_are) g.access.offset g.access.count block reply.given short reply.rcode zero

  tells_payload : (host_reply H i g.access).rcode ≡ 0 → answer_in (spelled_by (reading leaving)) ≡ Payload (payload_of leaving)
  tells_payload complete =
      let e = tells_all (sym same_code ∙ complete) in
      e ∙ ap (λ x. Payload x) (sym (ap bytes_in e))

  sized_payload : (host_reply H i g.access).rcode ≡ 0 → length (payload_of leaving) ≡ g.access.count
  sized_payload complete =
      ap (λ (a : Answer). length (bytes_in a)) (tells_all (sym same_code ∙ complete)) ∙ (read_long old.lists.memory g.access.offset out ∙ length-replicate g.access.count 0)

  served : (payload : List ℕ) → answer_in (spelled_by (reading leaving)) ≡ Payload payload → IsServed H i g.access payload
  served payload e =
      let zero : reply.rcode ≡ 0 = completes g.sent.bytes g.packet read (sends.are_bytes s sound i inside serial again told g reply packets_are) own (sends.small s sound i inside serial again told g reply packets_are) g.access.offset g.access.count block reply.rcode reply.given payload few e in
      let same : reply.given ≡ payload = ap bytes_in (sym (tells_all zero) ∙ e) in
      subst (IsServed H i g.access) same (is_served H i old known orbs all g.access out is_read zero)

  pub is_replied : IsReplied H i serial g.access (history (delivered serial again told s).world past)
  is_replied = record {
    effects = sends.effects s sound i inside serial again told g reply packets_are;
    plain = sends.plain_effects s sound i inside serial again told g reply packets_are;
    orbs = sends.same_orbs s sound i inside serial again told g reply packets_are;
    to = g.sent.from;
    bytes = leaving;
    is = sends.shows s sound i inside serial again told g reply packets_are;
    served = served;
    tells = tells_payload;
    sized = sized_payload;
    reads =
        sends.is_read_with s sound i inside serial again told g reply packets_are
        (λ before payload. (before ≡ map said (sends.effects s sound i inside serial again told g reply packets_are) ++ said (notes.Got serial) ∷ H) × (payload ≡ payload_of leaving)) (refl, refl);
  }
