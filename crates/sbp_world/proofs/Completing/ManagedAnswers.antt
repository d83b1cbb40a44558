-- What an initiator answers where it gets a request: the response has rcode 0, where what it asks for is answered complete.
use Rattle.sbp_world.proofs.Words.Std.{◌≡◌, ◌∙◌, refl, sym, ap, subst, ℕ, suc, ◌==◌, true, false, List, Some}
use Rattle.sbp_world.proofs.Words.Wire.{Access, Moment, Packet, Sending, lock, lock_response, rcode_of, read_block, read_block_response, read_quadlet, read_quadlet_response, reading, terms, write_block, write_quadlet, write_response}
use Rattle.sbp_world.proofs.Words.Initiator.{Payload}
use Rattle.sbp_world.proofs.Words.Laws.{access_at, access_in, answer_in, answer_of, host_reply, packet_in, receiver_in, spelled_by}
use Rattle.async_packet.specs.Spells as spelled_packets
use Rattle.bus_transactions.proofs.FitJudged.{spelled}
use Rattle.sbp_world.proofs.Completing.AnswersGots.{block_read}
use Rattle.sbp_world.proofs.Completing.ManagedCodes.{got_rcode}
use Rattle.sbp_world.proofs.Completing.ManagedGots as answered
use Rattle.sbp_world.proofs.Completing.ManagedReplies.{AnswersZero}
use Rattle.sbp_world.proofs.Hosts.Carrying.{Stood, reply_packet}
use Rattle.sbp_world.proofs.Hosts.Deliveries.{GotsIn, find_got}
use Rattle.sbp_world.proofs.Hosts.GotServed.{Goes, IsAsked, IsGot}
use Rattle.sbp_world.proofs.Hosts.Owing.{IsAsking, IsTelling, asking, telling, done_or, zero_by}
use Rattle.sbp_world.proofs.Hosts.Replied.{IsReplied}

-- ---- one that tells bytes has rcode 0
complete_by : (bytes : List ℕ) (p : Packet) (told : List ℕ) → spelled_packets.Spells bytes p → answer_of p ≡ Payload told → rcode_of bytes ≡ 0
complete_by bytes (read_quadlet_response header rcode value) told s e = sym s.1 ∙ zero_by (rcode == 0) rcode _ told refl e
complete_by bytes (read_block_response header rcode payload) told s e = sym s.1 ∙ zero_by (rcode == 0) rcode payload told refl e
complete_by bytes (write_response header rcode) told s e = absurd (done_or (rcode == 0) rcode told e)
complete_by bytes (write_quadlet header offset value) told s e = cc
complete_by bytes (write_block header offset payload) told s e = cc
complete_by bytes (read_quadlet header offset) told s e = cc
complete_by bytes (read_block header offset count) told s e = cc
complete_by bytes (lock header offset extended payload) told s e = cc
complete_by bytes (lock_response header rcode extended payload) told s e = cc

module _ (all : List Moment) (i : ℕ) (st : Stood all i) (ask : ℕ) (q : Sending) (sent : (terms all).sent ask ≡ Some q) (to : q.to ≡ suc i) (access : Access) (asks : access_at (terms all) ask ≡ Some access) (complete : (past : List Moment) → (host_reply past i access).rcode ≡ 0) where
  spells : IsAsking q access
  spells = asking q access (ap (λ x. access_in (packet_in x)) (sym sent) ∙ asks)

  asked_so : (past : List Moment) → (terms past).sent ask ≡ Some q → IsAsked past i ask spells.spells access
  asked_so past was = record {
    to_it = ap receiver_in was ∙ ap Some to;
    spelled = ap packet_in was ∙ ap spelled_by spells.read;
    asks = spells.asks;
  }

  -- a read of a block
  pub block_zero : access.is_write ≡ false → access.is_block ≡ true → access.is_lock ≡ false → AnswersZero all ask q
  block_zero reads is_block no_lock reply g packet e =
      let goes : Goes IsReplied all g.past i ask spells.spells access = (find_got (IsGot IsReplied all) g.later g.past ask (subst (GotsIn (IsGot IsReplied all)) (sym g.is) st.gots)).goes i spells.spells access (asked_so g.past g.was) in
      let answer : IsReplied g.past i ask access goes.now = goes.replies (block_read spells.spells access spells.asks reads is_block no_lock) in
      let there = reply_packet all g.past goes.now goes.rest i ask access st.wire.laws.serials goes.is answer reply g.next in
      let own : packet_in (Some packet) ≡ spelled_by (reading answer.bytes) = ap packet_in (sym e) ∙ there in
      let tell : IsTelling packet _ = telling packet _ (ap answer_in own ∙ answer.tells (complete g.past)) in
      complete_by packet.bytes tell.spells _ (spelled packet.bytes tell.spells tell.read) tell.tells

  -- any request, where a read of it is of a window whose bytes are said
  pub any_zero : GotsIn (answered.IsGot all) all → ((past : List Moment) → answered.IsSaidFor past i access) → AnswersZero all ask q
  any_zero gots is_said reply g packet e =
      let goes : answered.Goes all g.past i ask spells.spells access = (find_got (answered.IsGot all) g.later g.past ask (subst (GotsIn (answered.IsGot all)) (sym g.is) gots)).goes i spells.spells access (asked_so g.past g.was) in
      got_rcode g.past i ask spells.spells access (asked_so g.past g.was) goes.now (goes.replies (is_said g.past)) all goes.rest st.wire.laws.serials goes.is reply g.next packet e ∙ complete g.past
