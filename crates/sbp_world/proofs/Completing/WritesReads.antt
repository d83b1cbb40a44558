-- The response to a read of an agent brings as many bytes as were asked for, where it is under way: the initiator got the read, and answered it complete.
use Rattle.sbp_world.proofs.Words.Std.{◌≡◌, ◌∙◌, refl, sym, ap, subst, ◌<◌, ℕ, suc, true, false, List, Some, false≢true, same_Some}
use Rattle.sbp_world.proofs.Words.Wire.{Access, AreJudged, Cause, Moment, Sending, part_in, request, terms}
use Rattle.sbp_world.proofs.Words.Target.{Disk}
use Rattle.sbp_world.proofs.Words.Laws.{access_in, agent_at, answer_in, injectors, over, packet_at, packet_in, receiver_in, spelled_by, target_at}
use Rattle.sbp_world.proofs.Words.World.{NoneInjected, payload_of}
use Rattle.bus_transactions.proofs.Facts.{IsReply}
use Rattle.bus_transactions.proofs.PacketParts.{asking_read, part_read}
use Rattle.sbp_journal.specs.declared.cause.Cause.TheVariants as causes
use Rattle.sbp_world.specs.Completing.Answers.{BringsAll}
use Rattle.sbp_world.proofs.Completing.AnswersGots.{block_read}
use Rattle.sbp_world.proofs.Completing.WritesFirst.{Heard, got_complete}
use Rattle.sbp_world.proofs.Hosts.Carrying.{Stood, reply_packet}
use Rattle.sbp_world.proofs.Hosts.Deliveries.{GotsIn, find_got}
use Rattle.sbp_world.proofs.Hosts.GotServed.{Goes, IsGot}
use Rattle.sbp_world.proofs.Hosts.Owing as owing
use Rattle.sbp_world.proofs.Hosts.Owing.{GotBehind, IsAnswer, IsAsking, asking, behind_got, cause_none, ignored_there, judged_there, owed, read_kind, repeats_write, reply_of, stated, was_sent}
use Rattle.sbp_world.proofs.Hosts.Replied.{IsReplied}
use Rattle.sbp_world.proofs.Hosts.ResponseBytes.{IsBlockRead}
use Rattle.sbp_world.proofs.Hosts.SlotIgnored.{AllWrites, is_refusal, refuses_there}

module _ (start : List Disk) (all : List Moment) (k : Heard start all) (place r i : ℕ) (small : place < 8) (main : (agent_at (over (target_at start all)) place).main ≡ Some r) (own : injectors all i ≡ false) (q : Sending) (sent_all : (terms all).sent r ≡ Some q) (from : q.from ≡ 0) (to : q.to ≡ suc i) (access : Access) (asks : access_in (packet_in (Some q)) ≡ Some access) (reads : access.is_write ≡ false) (block : access.is_block ≡ true) (lock : access.is_lock ≡ false) (unforged : q.injected ≡ false) (st : Stood all i) (none : NoneInjected all i) (serial : ℕ) (answers : (terms all).answers serial ≡ Some r) where
  replied : IsReply ((terms all).sent serial) ((terms all).sent r)
  replied = st.wire.facts.replied serial r answers

  same_q : replied.asking ≡ q
  same_q = same_Some replied.asking q (sym replied.asking_is ∙ sent_all)

  abbrev a : IsAnswer all i serial r
  a = record {
    own = λ packet e.
        none own serial packet e
        (ap (λ (y : Sending). y.from) (same_Some packet replied.reply (sym e ∙ replied.reply_is)) ∙ (replied.from_is ∙ (ap (λ (y : Sending). y.to) same_q ∙ to)));
    answers = answers;
    of_initiator = ap receiver_in sent_all ∙ ap Some to;
  }

  abbrev rp : IsReply ((terms all).sent serial) ((terms all).sent r)
  rp = reply_of all i st.wire serial r a

  rp_q : rp.asking ≡ q
  rp_q = same_Some rp.asking q (sym rp.asking_is ∙ sent_all)

  spelling : IsAsking rp.asking access
  spelling = asking rp.asking access (ap (λ (y : Sending). access_in (packet_in (Some y))) rp_q ∙ asks)

  is_block : IsBlockRead spelling.spells access.offset access.count
  is_block = block_read spelling.spells access spelling.asks reads block lock

  spelling_part : part_in spelling.spells ≡ request rp.label rp.kind
  spelling_part = sym (part_read rp.asking.bytes spelling.spells spelling.read) ∙ rp.asking_part

  -- it was got
  refusal : (cause : Cause) → (owed all i st.wire serial r a).cause ≡ Some cause → is_refusal cause ≡ true → ⊥
  refusal cause e refuses =
      let o = owed all i st.wire serial r a in
      let refused = refuses_there (owing.later all i st.wire serial r a) (owing.past all i st.wire serial r a) i o.serial cause (subst (λ ms. AllWrites ms i) (sym (ignored_there all i st.wire serial r a cause e)) st.writes) in
      let writes = refused.1 refuses rp.asking (was_sent all i st.wire serial r a) (ap (λ (y : Sending). y.to) rp_q ∙ to) (ap (λ (y : Sending). y.from) rp_q ∙ from) (ap (λ (y : Sending). y.injected) rp_q ∙ unforged) spelling.spells spelling.read access spelling.asks in
      false≢true (sym reads ∙ writes.write)

  not_ignored : (cause : Cause) → (owed all i st.wire serial r a).cause ≡ Some cause → ⊥
  not_ignored causes.Generation e = false≢true (stated all i st.wire serial r a causes.Generation e)
  not_ignored causes.Label e = false≢true (stated all i st.wire serial r a causes.Label e)
  not_ignored causes.Grammar e = refusal causes.Grammar e refl
  not_ignored causes.Source e = refusal causes.Source e refl
  not_ignored causes.Login e = refusal causes.Login e refl
  not_ignored causes.Slot e = refusal causes.Slot e refl
  not_ignored causes.Again e =
      let o = owed all i st.wire serial r a in
      let j = judged_there (owing.later all i st.wire serial r a) (owing.past all i st.wire serial r a) o.serial causes.Again (subst AreJudged (sym (ignored_there all i st.wire serial r a causes.Again e)) st.wire.laws.judged) rp.asking (was_sent all i st.wire serial r a) in
      let w = repeats_write (terms (owing.past all i st.wire serial r a)) rp.asking rp.label rp.kind rp.asking_part j in
      let x = asking_read rp.asking.bytes spelling.spells rp.label rp.kind spelling.read spelling_part in
      false≢true (sym (read_kind spelling.spells access.offset access.count rp.label rp.kind is_block spelling_part) ∙ (sym x.writes ∙ w))

  abbrev g : GotBehind all serial r rp.asking
  g = behind_got all i st.wire serial r a (cause_none (owed all i st.wire serial r a).cause not_ignored)

  -- and answered
  goes : Goes IsReplied all g.past i r spelling.spells access
  goes = (find_got (IsGot IsReplied all) g.later g.past r (subst (GotsIn (IsGot IsReplied all)) (sym g.is) st.gots)).goes i spelling.spells access (record {
    to_it = ap receiver_in g.was ∙ ap Some (ap (λ (y : Sending). y.to) rp_q ∙ to);
    spelled = ap packet_in g.was ∙ ap spelled_by spelling.read;
    asks = spelling.asks;
  })

  answer : IsReplied g.past i r access goes.now
  answer = goes.replies is_block

  pub brings : BringsAll access (answer_in (packet_at (terms all) serial))
  brings =
      let complete = got_complete start all k place r i small main own q sent_all from to access asks g.later g.past g.is (g.was ∙ ap (λ y. Some y) rp_q) in
      record {
        bytes = payload_of answer.bytes;
        is = ap answer_in (reply_packet all g.past goes.now goes.rest i r access st.wire.laws.serials goes.is answer serial g.next) ∙ answer.tells complete;
        size = answer.sized complete;
      }
