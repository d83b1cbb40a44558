-- What answers a write of the target brings no bytes.
use Rattle.sbp_world.proofs.Words.Std.{◌≡◌, ◌∙◌, refl, sym, ap, ◌==◌, ℕ, Bool, true, false, cond, List, [], Some, None, Result, Ok, Err}
use Rattle.sbp_world.proofs.Words.Wire.{PacketFault, Packet, lock, lock_response, read_block, read_block_response, read_quadlet, read_quadlet_response, write_block, write_quadlet, write_response, reading, IsAwaited, Access, Moment, Kind, Sending, Transaction, between, is_same_kind, part_by, part_in, part_of, reading_block, reading_quadlet, request, response, writing, Held, Terms, terms, waits}
use Rattle.sbp_world.proofs.Words.Initiator.{Done, Refused}
use Rattle.sbp_world.proofs.Words.Laws.{payload_at, access_at, access_in, answer_in, answer_of, answered_at, closed_by, packet_in, spelled_by}
use Rattle.sbp_world.proofs.Words.World.{WorldState, Stands}
use Rattle.bus_transactions.proofs.Reaches.{goes_on}
use Rattle.sbp_laws.specs.CarriedBytes.{bytes_in}
use Rattle.sbp_world.proofs.Agents.Management.Holding.{past_terms}
use Rattle.sbp_world.proofs.Agents.Management.Still.{hist}
use Rattle.sbp_world.proofs.Lists.BegunBy.{IsHeld, held_by}
use Rattle.sbp_world.proofs.Lists.FedOnce.{IsReply, reply_by}
use Rattle.sbp_world.proofs.Lists.ManageGot.{IsWriting, writing_in}
use Rattle.sbp_world.proofs.Lists.ManageTerms.{none_is}
use Rattle.sbp_world.proofs.Wire.OnceHere.{same_writing}

abbrev none : List ℕ
none = []

-- ---- a response to a write
done_empty : (b : Bool) (rcode : ℕ) → bytes_in (cond b Done (Refused rcode)) ≡ none
done_empty true rcode = refl
done_empty false rcode = refl

empty : (p : Packet) (label : ℕ) → part_in p ≡ response label writing → bytes_in (answer_of p) ≡ none
empty (write_response header rcode) label e = done_empty (rcode == 0) rcode
empty (read_quadlet_response header rcode value) label e = absurd (let no : response header.label reading_quadlet ≡ response label writing = e in cc)
empty (read_block_response header rcode payload) label e = absurd (let no : response header.label reading_block ≡ response label writing = e in cc)
empty (lock_response header rcode extended payload) label e = refl
empty (write_quadlet header offset value) label e = refl
empty (write_block header offset payload) label e = refl
empty (read_quadlet header offset) label e = refl
empty (read_block header offset count) label e = refl
empty (lock header offset extended payload) label e = refl

empty_by : (r : Result Packet PacketFault) (label : ℕ) → part_by r ≡ response label writing → bytes_in (answer_in (spelled_by r)) ≡ none
empty_by (Ok p) label e = empty p label e
empty_by (Err fault) label e = refl

empty_bytes : (bytes : List ℕ) (label : ℕ) → part_of bytes ≡ response label writing → bytes_in (answer_in (spelled_by (reading bytes))) ≡ none
unfolding part_of
empty_bytes bytes label e = empty_by (reading bytes) label e

-- ---- kinds

pub request_kind : (l m : ℕ) (kind other : Kind) → request l kind ≡ request m other → kind ≡ other
request_kind l m kind other e = cc

closes_kind : (kind other : Kind) (s own : ℕ) → closed_by (waits kind s) other ≡ Some own → is_same_kind kind other ≡ true
closes_kind kind other s own e = by (is_same_kind kind other) refl e
  where
    by : (b : Bool) → is_same_kind kind other ≡ b → cond b (Some s) None ≡ Some own → b ≡ true
    by true f g = refl
    by false f g = none_is own g

-- ---- at a place
module _ {past : List Moment} (w : WorldState) (stands : Stands past w) (serial own : ℕ) where
  abbrev t : Terms
  t = terms (hist past w)

  module _ (closed : answered_at t serial ≡ Some own) (access : Access) (is : access_at t own ≡ Some access) (writes : access.is_write ≡ true) where
    reply : IsReply t serial own
    reply = reply_by t serial own (t.sent serial) refl closed

    abbrev q : Sending
    q = reply.packet

    abbrev u : Transaction
    u = between q q.to q.from reply.label

    held : IsHeld (t.held u) own
    held = held_by (t.held u) reply.kind own reply.closes

    awaited : IsAwaited (terms stands.wire.past) u held.kind own
    awaited = goes_on.awaited stands.wire u held.kind own stands.reached (ap (λ (y : Terms). y.held u) (past_terms w stands) ∙ held.is)

    asking_sent : t.sent own ≡ Some awaited.packet
    asking_sent = ap (λ (y : Terms). y.sent own) (sym (past_terms w stands)) ∙ awaited.sent

    write : IsWriting awaited.packet.bytes
    write = writing_in awaited.packet.bytes access (ap (λ so. access_in (packet_in so)) (sym asking_sent) ∙ is) writes

    kind_is : held.kind ≡ writing
    kind_is = request_kind u.label write.label held.kind writing (sym awaited.part ∙ write.part)

    reply_kind : reply.kind ≡ writing
    reply_kind = same_writing held.kind reply.kind kind_is (closes_kind held.kind reply.kind own own (ap (λ (x : Held). closed_by x reply.kind) (sym held.is) ∙ reply.closes))

    pub no_bytes : payload_at t serial ≡ none
    no_bytes =
        ap (λ so. bytes_in (answer_in (packet_in so))) reply.sent
        ∙ empty_bytes q.bytes reply.label (reply.part ∙ ap (λ k. response reply.label k) reply_kind)
