-- The response to a read of a slot carries what was prepared there.
use Rattle.sbp_world.proofs.Words.Std.{◌≡◌, refl, sym, ◌∙◌, ap, subst, ℕ, ◌<◌, List, ◌∷◌, ◌++◌, map, take, drop, Some, same_Some}
use Rattle.sbp_world.proofs.Words.Wire.{Access, access_of, Moment, said, Packet}
use Rattle.sbp_world.proofs.Words.Initiator.{pointer_at, table_bytes, addresses, buffer_addresses}
use Rattle.sbp_world.proofs.Words.Laws.{IsRead, laid_out, Orb, prepared_in, host_reply}
use Rattle.sbp_world.proofs.Words.World.{Follows, next_of, AreReads, CarriesOrb, IsReadWith, payload_of}
use Rattle.sbp_journal.specs.declared.note.Note.TheVariants as notes
use Rattle.sbp_world.specs.Hosts.Carrying.{IsServed}
use Rattle.sbp_world.proofs.Hosts.ReadsHeld.{carried_so, next_so}
use Rattle.sbp_world.proofs.Hosts.Replied.{IsReplied}
use Rattle.sbp_world.proofs.Hosts.ResponseBytes.{IsBlockRead, block_read}

-- a read carries what follows from what it carries
with_carries : (past : List Moment) (i serial : ℕ) (now : List Moment) (Known Wanted : List Moment → List ℕ → Type 0) → ((before : List Moment) (payload : List ℕ) → Known before payload → Wanted before payload) → IsReadWith past i serial Known now → IsReadWith past i serial Wanted now
with_carries past i serial now Known Wanted f r = record {
  effects = r.effects;
  none_sent = r.none_sent;
  to = r.to;
  to_sender = r.to_sender;
  bytes = r.bytes;
  is = r.is;
  answers = r.answers;
  payload = r.payload;
  before = r.before;
  carries = f (map said r.effects ++ said (notes.Got serial) ∷ past) (payload_of r.bytes) r.carries;
}

module _ (past : List Moment) (i serial : ℕ) (packet : Packet) (access : Access) (asks : access_of packet ≡ Some access) (now : List Moment) (replies : IsBlockRead packet access.offset access.count → IsReplied past i serial access now) (slot : ℕ) (found : Orb) (b : slot < 32) (prepared : prepared_in past i slot ≡ Some found) (complete : (host_reply past i access).rcode ≡ 0) where
  module _ {address count : ℕ} (reads : IsRead access address count) where
    reply : IsReplied past i serial access now
    reply = replies (block_read past i packet access access.offset access.count asks (record { read = reads.read; block = reads.block; from = refl; size = refl }) complete)

    abbrev payload : List ℕ
    payload = payload_of reply.bytes

    abbrev before : List Moment
    before = map said reply.effects ++ said (notes.Got serial) ∷ past

    served : IsServed past i access payload
    served = reply.served payload (reply.tells complete)

    with_reply : (Carried : List Moment → List ℕ → Type 0) → Carried before payload → IsReadWith past i serial Carried now
    with_reply Carried c =
        with_carries past i serial now (λ ms bytes. (ms ≡ before) × (bytes ≡ payload)) Carried
        (λ ms bytes e. subst (λ xs. Carried xs bytes) (sym e.0) (subst (Carried before) (sym e.1) c)) reply.reads

  same_orb : (one : Orb) → prepared_in past i slot ≡ Some one → one ≡ found
  same_orb one e = same_Some one found (sym e ∙ prepared)

  pub are_reads : AreReads past i serial slot found access now
  are_reads = record {
    orb = λ reads.
        let h = (served reads).orb slot b reads in
        with_reply reads (λ ms bytes. CarriesOrb ms i slot found bytes)
        (carried_so (before reads) past i slot found (payload reads) (reply reads).orbs (subst (λ one. CarriesOrb past i slot one (payload reads)) (same_orb h.one h.prepared) h.carries));
    pointer = λ reads.
        let h = (served reads).pointer slot b reads in
        with_reply reads (λ ms bytes. pointer_at bytes 0 ≡ next_of ms i found.list found.number)
        (h.next ∙ (ap (λ (one : Orb). next_of past i one.list one.number) (same_orb h.one h.prepared) ∙ sym (next_so (before reads) past i found (reply reads).orbs)));
    table = λ cmd command reads. with_reply reads (λ ms bytes. bytes ≡ table_bytes slot 0 cmd.segments) ((served reads).table slot found cmd b prepared command reads).is;
    chunk = λ cmd command to_target at offset count follow reads.
        let same : Follows access slot cmd at = ap (λ o. addresses o access.count) reads.from ∙ (ap (addresses offset) reads.size ∙ (follow ∙ ap (λ n. take n (drop at (buffer_addresses (laid_out slot cmd cmd.segments)))) (sym reads.size))) in
        with_reply reads (λ ms bytes. bytes ≡ take count (drop at cmd.payload))
        ((served reads).of_data slot found cmd at b prepared command to_target same ∙ ap (λ n. take n (drop at cmd.payload)) reads.size);
  }
