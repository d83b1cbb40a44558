-- The response to a write of an agent has rcode 0, where it is under way.
use Rattle.sbp_world.proofs.Words.Std.{arith, ◌≡◌, ◌∙◌, refl, sym, ap, subst, ◌<◌, ◌+◌, ℕ, suc, true, false, List, Some, None, same_Some}
use Rattle.sbp_world.proofs.Words.Wire.{Access, AreAnswered, Moment, Packet, Sending, SerialsCount, Spells, Transaction, begun_by, between, is_write, lock, lock_response, part_in, part_of, rcode_of, read_block, read_block_response, read_quadlet, read_quadlet_response, response, terms, write_block, write_quadlet, write_response, writing}
use Rattle.sbp_world.proofs.Words.Target.{Disk, answer_in}
use Rattle.sbp_world.proofs.Words.Initiator.{write_failure}
use Rattle.sbp_world.proofs.Words.Laws.{access_in, agent_at, injectors, over, packet_in, target_at}
use Rattle.sbp_world.proofs.Words.World.{IsOwedThere, NoneInjected, Remains}
use Rattle.bus_transactions.proofs.Facts.{IsReply, asked_begun, request_asked}
use Rattle.bus_transactions.proofs.PacketParts.{asking_read, part_read}
use Rattle.sbp_world.proofs.Completing.WritesFirst.{Heard, first_complete}
use Rattle.sbp_world.proofs.Completing.WritesGiven.{each_zero}
use Rattle.sbp_world.proofs.Completing.WritesJudged.{AllJudged}
use Rattle.sbp_world.proofs.Hosts.Owing.{IsAsking, asking}
use Rattle.sbp_world.proofs.Hosts.Remaining.{remains}
use Rattle.sbp_world.proofs.Hosts.SentMoments.{WasSent, answers_now, count_now, now, sent_moment, serials_from}
use Rattle.sbp_world.proofs.Hosts.Standing.{answered_from, stands_there}
use Rattle.sbp_world.proofs.Lists.ManageGot.{IsWriting, writing_in}
use Rattle.sbp_world.proofs.Lists.WriteAnswers.{request_kind}

-- such a response is no failure
pub none_failed : (p : Packet) (label : ℕ) (bytes : List ℕ) → part_in p ≡ response label writing → Spells bytes p → rcode_of bytes ≡ 0 → write_failure (answer_in p) ≡ None
none_failed (write_response header rcode) label bytes e s z = subst (λ n. write_failure (answer_in (write_response header n)) ≡ None) (sym (s.1 ∙ z)) refl
none_failed (read_quadlet_response header rcode value) label bytes e s z = cc
none_failed (read_block_response header rcode payload) label bytes e s z = cc
none_failed (lock_response header rcode extended payload) label bytes e s z = cc
none_failed (write_quadlet header offset value) label bytes e s z = cc
none_failed (write_block header offset payload) label bytes e s z = cc
none_failed (read_quadlet header offset) label bytes e s z = cc
none_failed (read_block header offset count) label bytes e s z = cc
none_failed (lock header offset extended payload) label bytes e s z = cc

module _ (start : List Disk) (all : List Moment) (k : Heard start all) (known : AllJudged all) (place r i : ℕ) (small : place < 8) (main : (agent_at (over (target_at start all)) place).main ≡ Some r) (own : injectors all i ≡ false) (fair : (terms all).injects 0 ≡ false) (q : Sending) (sent_all : (terms all).sent r ≡ Some q) (from : q.from ≡ 0) (to : q.to ≡ suc i) (access : Access) (asks : access_in (packet_in (Some q)) ≡ Some access) (writes : access.is_write ≡ true) (unforged : q.injected ≡ false) (none : NoneInjected all i) (serial : ℕ) (answers : (terms all).answers serial ≡ Some r) where
  spelling : IsAsking q access
  spelling = asking q access asks

  write : IsWriting q.bytes
  write = writing_in q.bytes access asks writes

  abbrev u : Transaction
  u = between q q.from q.to write.label

  begun : begun_by q ≡ Some u
  begun = asked_begun q u unforged (request_asked q write.label writing write.part)

  is_written : is_write q.bytes ≡ true
  is_written = (asking_read q.bytes spelling.spells write.label writing spelling.read (sym (part_read q.bytes spelling.spells spelling.read) ∙ write.part)).writes

  -- the response, where it was sent
  replied : IsReply ((terms all).sent serial) ((terms all).sent r)
  replied = k.facts.replied serial r answers

  abbrev reply : Sending
  reply = replied.reply

  same_q : replied.asking ≡ q
  same_q = same_Some replied.asking q (sym replied.asking_is ∙ sent_all)

  honest : reply.injected ≡ false
  honest = none own serial reply replied.reply_is (replied.from_is ∙ (ap (λ (y : Sending). y.to) same_q ∙ to))

  moment : WasSent all serial reply
  moment = sent_moment all serial reply replied.reply_is

  abbrev here : List Moment
  here = now moment.before serial reply.generation reply.from reply.to reply.bytes

  counts_here : SerialsCount here
  counts_here = serials_from moment.later here (subst SerialsCount (sym moment.is) k.serials)

  answered_here : AreAnswered here
  answered_here = answered_from moment.later here (subst AreAnswered (sym moment.is) k.answered)

  there : IsOwedThere moment.before
  there = stands_there moment.before serial reply.generation reply.from reply.to reply.bytes answered_here (moment.injected ∙ honest) replied.label replied.kind replied.reply_part

  owed_is : there.owed.serial ≡ r
  owed_is =
      let kept : Remains here all = subst (Remains here) moment.is (remains moment.later here (subst SerialsCount (sym moment.is) k.serials)) in
      let next : serial ≡ (terms moment.before).count + 1 = counts_here.0 in
      let counted : (terms here).count ≡ (terms moment.before).count + 1 = count_now moment.before serial reply.generation reply.from reply.to reply.bytes in
      let first = answers_now moment.before serial reply.generation reply.from reply.to reply.bytes there.owed there.owes in
      same_Some there.owed.serial r (sym first ∙ (sym (kept.answers serial (omega (arith, next, counted))) ∙ answers))

  answered_zero : rcode_of reply.bytes ≡ 0
  answered_zero =
      each_zero all r q u k.serials sent_all begun is_written
      (λ front s generation source target bytes past o is owes e n. first_complete start all k place r i small main own q sent_all from to access asks writes front s generation source target bytes past o is owes e n)
      k.answered k.judged known (ap (terms all).injects from ∙ fair) (ap (terms all).injects to ∙ own)
      moment.later serial reply.generation reply.from reply.to reply.bytes moment.before moment.is there.owed there.owes owed_is

  -- its part
  answered_part : part_of reply.bytes ≡ response replied.label writing
  answered_part =
      replied.reply_part
      ∙ ap (λ x. response replied.label x) (request_kind replied.label write.label replied.kind writing (sym replied.asking_part ∙ (ap (λ (y : Sending). part_of y.bytes) same_q ∙ write.part)))

  pub answered_is : (p : Packet) (packet : Sending) → (terms all).sent serial ≡ Some packet → part_of packet.bytes ≡ part_in p → Spells packet.bytes p → write_failure (answer_in p) ≡ None
  answered_is p packet e part spells =
      let same : reply ≡ packet = same_Some reply packet (sym replied.reply_is ∙ e) in
      none_failed p replied.label packet.bytes (sym part ∙ (ap (λ (y : Sending). part_of y.bytes) (sym same) ∙ answered_part)) spells (ap (λ (y : Sending). rcode_of y.bytes) (sym same) ∙ answered_zero)
