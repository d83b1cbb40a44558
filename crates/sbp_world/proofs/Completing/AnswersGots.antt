-- The response to a read that an agent waits for brings as many bytes as were asked for: the initiator got the read, which the agent waited for then, and answered it complete.
use Rattle.sbp_world.proofs.Words.Std.{arith, ◌≡◌, ◌∙◌, refl, sym, ap, subst, inl, inr, ◌<◌, ◌≤◌, ◌==◌, ℕ, suc, Bool, true, false, List, [], ◌∷◌, ◌++◌, Option, Some, None, nat_tests, false≢true, true≢false, same_Some}
use Rattle.sbp_world.proofs.Words.Wire.{AreJudged, Packet, SerialsCount, lock, lock_response, read_block, read_block_response, read_quadlet, read_quadlet_response, write_block, write_quadlet, write_response, Access, access_of, part_in, request, Moment, said, Sending, Terms, terms, Cause}
use Rattle.sbp_world.proofs.Words.Target.{Disk, Which, Ahead, Main}
use Rattle.sbp_world.proofs.Words.Initiator.{Ask}
use Rattle.sbp_world.proofs.Words.Laws.{EachMoment, Target, access_at, access_in, agent_at, answer_in, host_reply, answered_at, answered_in, is_serial, over, packet_at, packet_in, receiver_in, sender_in, is_under_way, spelled_by, target_at}
use Rattle.sbp_world.proofs.Words.World.{AnswersAt, AskedAsGot, AreAskedAt, HasAsked, IsAccessFor, IsCalm, NoneInjected, Remains, payload_of, serial_of}
use Rattle.bus_transactions.proofs.Facts.{IsReply}
use Rattle.bus_transactions.proofs.PacketParts.{asking_read, part_read}
use Rattle.orb_layout.specs.declared.ask.Ask.TheVariants as asks
use Rattle.sbp_journal.specs.declared.cause.Cause.TheVariants as causes
use Rattle.sbp_journal.specs.declared.note.Note.TheVariants as notes
use Rattle.sbp_world.specs.Completing.Answers.{BringsAll, ClosesRead, CompleteAsGot, IsComplete}
use Rattle.sbp_world.proofs.Agents.Asides.{over_none}
use Rattle.sbp_world.proofs.Agents.CrewOthers.{got_out}
use Rattle.sbp_world.proofs.Common.{moment_joined, none_is}
use Rattle.sbp_world.proofs.Hosts.Carrying.{Stood, reply_packet}
use Rattle.sbp_world.proofs.Hosts.Deliveries.{GotsIn, find_got}
use Rattle.sbp_world.proofs.Hosts.GotServed.{Goes, IsGot}
use Rattle.sbp_world.proofs.Hosts.Owing as owing
use Rattle.sbp_world.proofs.Hosts.Owing.{GotBehind, IsAnswer, IsAsking, asking, behind_got, cause_none, ignored_there, judged_there, owed, read_kind, repeats_write, reply_of, stated, was_sent}
use Rattle.sbp_world.proofs.Hosts.Remaining.{remains}
use Rattle.sbp_world.proofs.Hosts.Replied.{IsReplied}
use Rattle.sbp_world.proofs.Hosts.ResponseBytes.{IsBlockRead}
use Rattle.sbp_world.proofs.Hosts.SentMoments.{sent_below, serials_from}
use Rattle.sbp_world.proofs.Hosts.SlotIgnored.{AllWrites, is_refusal, refuses_there}
use Rattle.sbp_world.proofs.Lists.AgentFolds.{AreSo}
use Rattle.sbp_world.proofs.Lists.BufferGets.{judged_from}
use Rattle.sbp_world.proofs.Lists.Calm.{injects_before}
use Rattle.sbp_world.proofs.Lists.DataWaits.{under_way_now}
use Rattle.sbp_world.proofs.Lists.Fair.{Told}
use Rattle.sbp_world.proofs.Lists.StatusKnown.{got_by}
use Rattle.sbp_world.proofs.Lists.StatusLogins.{each_there}
use Rattle.sbp_world.proofs.Lists.YoungAgents.{HasSuch, IsYoung, Such, Young, young_ended, young_on}
use Rattle.sbp_world.proofs.Lists.Bringing.{block_of}

-- ---- a history that is split at two moments
data IsSplit (m n : Moment) (x y : List Moment) : Type 0 where
  at_once : x ≡ y → IsSplit m n x y
  before_it : (back : List Moment) → back ++ m ∷ x ≡ y → IsSplit m n x y
  behind_it : (back : List Moment) → back ++ n ∷ y ≡ x → IsSplit m n x y

split : (a b : List Moment) (m n : Moment) (x y : List Moment) → a ++ m ∷ x ≡ b ++ n ∷ y → IsSplit m n x y
split [] [] m n x y e = at_once cc
split (k ∷ a) [] m n x y e = before_it a cc
split [] (k ∷ b) m n x y e = behind_it b (let f : x ≡ b ++ n ∷ y = cc in sym f)
split (k ∷ a) (l ∷ b) m n x y e = split a b m n x y (let f : a ++ m ∷ x ≡ b ++ n ∷ y = cc in f)

-- ---- a request for a block
pub block_read : (p : Packet) (access : Access) → access_of p ≡ Some access → access.is_write ≡ false → access.is_block ≡ true → access.is_lock ≡ false → IsBlockRead p access.offset access.count
block_read (read_block header offset size) access e w b l =
    let a = same_Some (record { is_lock = false; is_write = false; is_block = true; offset = offset; count = size; payload = [] }) access e in
    record { header = header; is = ap (λ (x : Access). read_block header x.offset x.count) a }
block_read (read_quadlet header offset) access e w b l = absurd (false≢true (ap (λ (x : Access). x.is_block) (same_Some _ access e) ∙ b))
block_read (write_quadlet header offset value) access e w b l = absurd (true≢false (ap (λ (x : Access). x.is_write) (same_Some _ access e) ∙ w))
block_read (write_block header offset payload) access e w b l = absurd (true≢false (ap (λ (x : Access). x.is_write) (same_Some _ access e) ∙ w))
block_read (lock header offset extended payload) access e w b l = absurd (true≢false (ap (λ (x : Access). x.is_lock) (same_Some _ access e) ∙ l))
block_read (write_response header rcode) access e w b l = none_is access e
block_read (read_quadlet_response header rcode value) access e w b l = none_is access e
block_read (read_block_response header rcode payload) access e w b l = none_is access e
block_read (lock_response header rcode extended payload) access e w b l = none_is access e

-- what an agent waits for
pub record IsSentFor (t : Terms) (serial : ℕ) : Type 0 where
  pub from : sender_in (t.sent serial) ≡ Some 0
  pub under_way : is_under_way t serial ≡ true
  pub access : Access
  pub is : access_at t serial ≡ Some access
  pub block : access.is_block ≡ true
  pub lock : access.is_lock ≡ false

lock_in : (ask : Ask) (is_status : Bool) (fifo : ℕ) (access : Access) → IsAccessFor ask is_status fifo access → access.is_lock ≡ false
lock_in (asks.Read offset size) s fifo access a = ap (λ (x : Access). x.is_lock) a
lock_in (asks.Write offset size) s fifo access a = ap (λ (x : Access). x.is_lock) a.0
lock_in asks.Nothing s fifo access a = absurd a

asked_for : (t : Terms) (i fifo serial : ℕ) (ask : Ask) (is_status : Bool) → HasAsked t i fifo serial ask is_status → IsSentFor t serial
asked_for t i fifo serial ask is_status r = record {
  from = r.from;
  under_way = r.under_way;
  access = r.access;
  is = r.is;
  block = block_of ask is_status fifo r.access r.asks;
  lock = lock_in ask is_status fifo r.access r.asks;
}

pub sent_for : (start : List Disk) (past : List Moment) (place : ℕ) → place < 8 → (which : Which) (serial : ℕ) → AreAskedAt start past → serial_of which (agent_at (over (target_at start past)) place) ≡ Some serial → IsSentFor (terms past) serial
sent_for start past place b Main serial a e = asked_for _ _ _ _ _ _ ((a.all place b).main serial e)
sent_for start past place b Ahead serial a e = asked_for _ _ _ _ _ _ ((a.all place b).ahead serial e)

pub record IsPacket (so : Option Sending) : Type 0 where
  pub packet : Sending
  pub is : so ≡ Some packet

pub packet_from : (so : Option Sending) (from : ℕ) → sender_in so ≡ Some from → IsPacket so
packet_from None from e = none_is from e
packet_from (Some packet) from e = record { packet = packet; is = refl }

packet_answers : (t : Terms) (so : Option Sending) (own : ℕ) → answered_in t so ≡ Some own → IsPacket so
packet_answers t None own e = none_is own e
packet_answers t (Some packet) own e = record { packet = packet; is = refl }

fair_before : (front past : List Moment) → (terms (front ++ past)).injects 0 ≡ false → (terms past).injects 0 ≡ false
fair_before [] past e = e
fair_before (m ∷ front) past e = fair_before front past (injects_before m (front ++ past) 0 e)

-- ---- an agent waits for a request since it was sent
module _ (start : List Disk) (place request : ℕ) (earlier : List Moment) (elsewhere : is_serial (receiver_in ((terms earlier).sent request)) 0 ≡ false) where
  abbrev Waited : ℕ → Type 0
  Waited serial = (which : Which) × (serial_of which (agent_at (over (target_at start earlier)) place) ≡ Some serial)

  abbrev count : ℕ
  count = (terms earlier).count

  now_young : IsYoung count Waited start (said (notes.Got request) ∷ earlier) place
  now_young =
      subst (AreSo (Such (Young count Waited) place)) (sym (got_out start earlier request elsewhere))
      (record {
        agents = λ q e at. ((λ s f. inr (Main, subst (λ p. (agent_at (over (target_at start earlier)) p).main ≡ Some s) at f)), (λ s f. inr (Ahead, subst (λ p. (agent_at (over (target_at start earlier)) p).ahead ≡ Some s) at f)));
        pending = λ reply e. none_is reply (sym (over_none (target_at start earlier)) ∙ e);
      })

  young_is : (s : ℕ) → s ≤ count → Young count Waited s → Waited s
  young_is s low (inl late) = absurd (omega (arith, low, late))
  young_is s low (inr own) = own

  by_which : (which : Which) (now : Target) → HasSuch (Young count Waited) (agent_at now place) → (s : ℕ) → s ≤ count → serial_of which (agent_at now place) ≡ Some s → Waited s
  by_which Main now h s low e = young_is s low (h.0 s e)
  by_which Ahead now h s low e = young_is s low (h.1 s e)

  pub waited_then : (back : List Moment) → SerialsCount (back ++ said (notes.Got request) ∷ earlier) → (which : Which) (s : ℕ) → s ≤ count → serial_of which (agent_at (over (target_at start (back ++ said (notes.Got request) ∷ earlier))) place) ≡ Some s → Waited s
  waited_then back counts which s low e =
      let now = said (notes.Got request) ∷ earlier in
      by_which which (over (target_at start (back ++ now))) (young_ended count Waited start place (back ++ now) (young_on count Waited start place back now counts (remains (said (notes.Got request) ∷ []) earlier (serials_from back now counts)).count now_young)) s low e

-- ---- a response to a block read of the target
-- what it closes
pub record ClosesBlock (t : Terms) (serial i request : ℕ) (access : Access) : Type 0 where
  pub closed : answered_at t serial ≡ Some request
  pub from : sender_in (t.sent request) ≡ Some 0
  pub to : receiver_in (t.sent request) ≡ Some (suc i)
  pub asks : access_at t request ≡ Some access
  pub reads : access.is_write ≡ false
  pub block : access.is_block ≡ true
  pub lock : access.is_lock ≡ false

module _ (all : List Moment) (i : ℕ) (st : Stood all i) (told : Told all) (none : NoneInjected all i) (calm : IsCalm all i) where
  pub each_in : (P : Moment → List Moment → Type 0) (front : List Moment) (m : Moment) (back : List Moment) → front ++ m ∷ back ≡ all → EachMoment P all → P m back
  each_in P front m back is h = each_there P front m back (subst (EachMoment P) (sym is) h)

  module _ (front now : List Moment) (serial : ℕ) (is : front ++ said (notes.Got serial) ∷ now ≡ all) (request_serial : ℕ) (access : Access) (x : ClosesBlock (terms now) serial i request_serial access) where
    abbrev asking_serial : ℕ
    asking_serial = request_serial

    behind : (front ++ said (notes.Got serial) ∷ []) ++ now ≡ all
    behind = moment_joined front (said (notes.Got serial)) now ∙ is

    serials_behind : SerialsCount ((front ++ said (notes.Got serial) ∷ []) ++ now)
    serials_behind = subst SerialsCount (sym behind) st.wire.laws.serials

    pub serials_now : SerialsCount now
    serials_now = serials_from (front ++ said (notes.Got serial) ∷ []) now serials_behind

    remain : Remains now all
    remain = subst (Remains now) behind (remains (front ++ said (notes.Got serial) ∷ []) now serials_behind)

    fair : (terms now).injects 0 ≡ false
    fair = fair_before (front ++ said (notes.Got serial) ∷ []) now (subst (λ ms. (terms ms).injects 0 ≡ false) (sym behind) told.fair)

    request_packet : IsPacket ((terms now).sent asking_serial)
    request_packet = packet_from ((terms now).sent asking_serial) 0 x.from

    reply_there : IsPacket ((terms now).sent serial)
    reply_there = packet_answers (terms now) ((terms now).sent serial) asking_serial x.closed

    abbrev q : Sending
    q = request_packet.packet

    from_target : q.from ≡ 0
    from_target = same_Some q.from 0 (sym (ap sender_in request_packet.is) ∙ x.from)

    to_it : q.to ≡ suc i
    to_it = same_Some q.to (suc i) (sym (ap receiver_in request_packet.is) ∙ x.to)

    calm_now : (terms now).injects (suc i) ≡ false
    calm_now = calm_before' (front ++ said (notes.Got serial) ∷ []) (subst (λ ms. IsCalm ms i) (sym behind) calm)
      where
        calm_before' : (more : List Moment) → IsCalm (more ++ now) i → (terms now).injects (suc i) ≡ false
        calm_before' [] e = e
        calm_before' (m ∷ more) e = calm_before' more (injects_before m (more ++ now) (suc i) e)

    answers_now : (terms now).answers serial ≡ Some asking_serial
    answers_now =
        each_in AnswersAt front (said (notes.Got serial)) now is told.answers asking_serial x.closed q request_packet.is
        (ap (terms now).injects from_target ∙ fair) (ap (terms now).injects to_it ∙ calm_now)

    below_now : serial ≤ (terms now).count
    below_now = sent_below now serial reply_there.packet serials_now reply_there.is

    answers_all : (terms all).answers serial ≡ Some asking_serial
    answers_all = remain.answers serial below_now ∙ answers_now

    sent_all : (terms all).sent asking_serial ≡ Some q
    sent_all = remain.sent asking_serial (sent_below now asking_serial q serials_now request_packet.is) ∙ request_packet.is

    replied : IsReply ((terms all).sent serial) ((terms all).sent asking_serial)
    replied = st.wire.facts.replied serial asking_serial answers_all

    same_q : replied.asking ≡ q
    same_q = same_Some replied.asking q (sym replied.asking_is ∙ sent_all)

    abbrev r : IsAnswer all i serial asking_serial
    r = record {
      own = λ packet e.
          none calm serial packet e
          (ap (λ (y : Sending). y.from) (same_Some packet replied.reply (sym e ∙ replied.reply_is)) ∙ (replied.from_is ∙ (ap (λ (y : Sending). y.to) same_q ∙ to_it)));
      answers = answers_all;
      of_initiator = ap receiver_in sent_all ∙ ap Some to_it;
    }

    abbrev rp : IsReply ((terms all).sent serial) ((terms all).sent asking_serial)
    rp = reply_of all i st.wire serial asking_serial r

    rp_q : rp.asking ≡ q
    rp_q = same_Some rp.asking q (sym rp.asking_is ∙ sent_all)

    unforged : (b : Bool) → q.injected ≡ b → b ≡ false
    unforged true e = absurd (true≢false (sym ((st.wire.facts.honest asking_serial q sent_all).bold e) ∙ (ap (terms all).injects from_target ∙ told.fair)))
    unforged false e = refl

    spelling : IsAsking rp.asking access
    spelling = asking rp.asking access (sym (ap (λ o. access_in (packet_in o)) (sym sent_all ∙ rp.asking_is)) ∙ (sym (ap (λ o. access_in (packet_in o)) request_packet.is) ∙ x.asks))

    block : IsBlockRead spelling.spells access.offset access.count
    block = block_read spelling.spells access spelling.asks x.reads x.block x.lock

    spelling_part : part_in spelling.spells ≡ request rp.label rp.kind
    spelling_part = sym (part_read rp.asking.bytes spelling.spells spelling.read) ∙ rp.asking_part

    -- ---- it was got
    refusal : (cause : Cause) → (owed all i st.wire serial asking_serial r).cause ≡ Some cause → is_refusal cause ≡ true → ⊥
    refusal cause e refuses =
        let o = owed all i st.wire serial asking_serial r in
        let refused = refuses_there (owing.later all i st.wire serial asking_serial r) (owing.past all i st.wire serial asking_serial r) i o.serial cause (subst (λ ms. AllWrites ms i) (sym (ignored_there all i st.wire serial asking_serial r cause e)) st.writes) in
        let writes = refused.1 refuses rp.asking (was_sent all i st.wire serial asking_serial r) (ap (λ (y : Sending). y.to) rp_q ∙ to_it) (ap (λ (y : Sending). y.from) rp_q ∙ from_target) (ap (λ (y : Sending). y.injected) rp_q ∙ unforged q.injected refl) spelling.spells spelling.read access spelling.asks in
        true≢false (sym writes.write ∙ x.reads)

    not_ignored : (cause : Cause) → (owed all i st.wire serial asking_serial r).cause ≡ Some cause → ⊥
    not_ignored causes.Generation e = false≢true (stated all i st.wire serial asking_serial r causes.Generation e)
    not_ignored causes.Label e = false≢true (stated all i st.wire serial asking_serial r causes.Label e)
    not_ignored causes.Grammar e = refusal causes.Grammar e refl
    not_ignored causes.Source e = refusal causes.Source e refl
    not_ignored causes.Login e = refusal causes.Login e refl
    not_ignored causes.Slot e = refusal causes.Slot e refl
    not_ignored causes.Again e =
        let o = owed all i st.wire serial asking_serial r in
        let j = judged_there (owing.later all i st.wire serial asking_serial r) (owing.past all i st.wire serial asking_serial r) o.serial causes.Again (subst AreJudged (sym (ignored_there all i st.wire serial asking_serial r causes.Again e)) st.wire.laws.judged) rp.asking (was_sent all i st.wire serial asking_serial r) in
        let w = repeats_write (terms (owing.past all i st.wire serial asking_serial r)) rp.asking rp.label rp.kind rp.asking_part j in
        let k = asking_read rp.asking.bytes spelling.spells rp.label rp.kind spelling.read spelling_part in
        false≢true (sym (read_kind spelling.spells access.offset access.count rp.label rp.kind block spelling_part) ∙ (sym k.writes ∙ w))

    abbrev g : GotBehind all serial asking_serial rp.asking
    g = behind_got all i st.wire serial asking_serial r (cause_none (owed all i st.wire serial asking_serial r).cause not_ignored)

    abbrev earlier : List Moment
    earlier = g.past

    got_behind : (g.later ++ said (notes.Got asking_serial) ∷ []) ++ earlier ≡ all
    got_behind = moment_joined g.later (said (notes.Got asking_serial)) earlier ∙ g.is

    -- before the response is got
    earlier_counts : SerialsCount earlier
    earlier_counts = serials_from (g.later ++ said (notes.Got asking_serial) ∷ []) earlier (subst SerialsCount (sym got_behind) st.wire.laws.serials)

    record IsFront : Type 0 where
      back : List Moment
      back_is : back ++ said (notes.Got asking_serial) ∷ earlier ≡ now

    front_by : IsSplit (said (notes.Got asking_serial)) (said (notes.Got serial)) earlier now → IsFront
    front_by (at_once e) = let next = g.next in let low = below_now in absurd (let same : (terms earlier).count ≡ (terms now).count = ap (λ ms. (terms ms).count) e in omega (arith, next, low, same))
    front_by (before_it back e) = record { back = back; back_is = e }
    front_by (behind_it back e) =
        let next = g.next in
        let low = below_now in
        let joined : (back ++ said (notes.Got serial) ∷ []) ++ now ≡ earlier = moment_joined back (said (notes.Got serial)) now ∙ e in
        let more = (subst (Remains now) joined (remains (back ++ said (notes.Got serial) ∷ []) now (subst SerialsCount (sym joined) earlier_counts))).count in
        absurd (omega (arith, next, low, more))

    at_front : IsFront
    at_front = front_by (split g.later front (said (notes.Got asking_serial)) (said (notes.Got serial)) earlier now (g.is ∙ sym is))

    -- the target asked, and the initiator got it
    sender_then : (terms earlier).generation rp.asking.from ≡ (terms earlier).generation 0
    sender_then = ap (terms earlier).generation (ap (λ (y : Sending). y.from) rp_q ∙ from_target)

    got_then : rp.asking.generation ≡ (terms earlier).generation (suc i)
    got_then =
        got_by asking_serial earlier rp.asking (judged_from g.later (said (notes.Got asking_serial) ∷ earlier) (subst AreJudged (sym g.is) st.wire.laws.judged)) g.was
        ∙ ap (terms earlier).generation (ap (λ (y : Sending). y.to) rp_q ∙ to_it)

    pub record IsAskedBefore : Type 0 where
      pub later : List Moment
      pub past : List Moment
      pub all_is : later ++ said (notes.Got asking_serial) ∷ past ≡ all
      pub below : asking_serial ≤ (terms past).count
      pub back : List Moment
      pub back_is : back ++ said (notes.Got asking_serial) ∷ past ≡ now
      pub to : receiver_in ((terms past).sent asking_serial) ≡ Some (suc i)
      pub asks : access_at (terms past) asking_serial ≡ Some access
      -- a request that is under way is of the generation of the target
      pub level : is_under_way (terms past) asking_serial ≡ true → (terms past).generation 0 ≡ (terms past).generation (suc i)

    pub asked_before : IsAskedBefore
    asked_before = record {
      later = g.later;
      past = earlier;
      all_is = g.is;
      below = g.below;
      back = at_front.back;
      back_is = at_front.back_is;
      to = ap receiver_in g.was ∙ ap Some (ap (λ (y : Sending). y.to) rp_q ∙ to_it);
      asks = ap (λ o. access_in (packet_in o)) (g.was ∙ ap Some rp_q ∙ sym request_packet.is) ∙ x.asks;
      level = λ under. sym sender_then ∙ (sym (under_way_now (terms earlier) asking_serial rp.asking g.was under) ∙ got_then);
    }

    -- ---- and answered it

    goes : Goes IsReplied all earlier i asking_serial spelling.spells access
    goes = (find_got (IsGot IsReplied all) g.later earlier asking_serial (subst (GotsIn (IsGot IsReplied all)) (sym g.is) st.gots)).goes i spelling.spells access (record {
      to_it = ap receiver_in g.was ∙ ap Some (ap (λ (y : Sending). y.to) rp_q ∙ to_it);
      spelled = ap packet_in g.was ∙ ap spelled_by spelling.read;
      asks = spelling.asks;
    })

    answer : IsReplied earlier i asking_serial access goes.now
    answer = goes.replies block

    pub brings_whole : (host_reply asked_before.past i access).rcode ≡ 0 → BringsAll access (answer_in (packet_at (terms now) serial))
    unfolding asked_before
    brings_whole complete = record {
      bytes = payload_of answer.bytes;
      is =
          ap (λ o. answer_in (packet_in o)) (sym (remain.sent serial below_now))
          ∙ (ap answer_in (reply_packet all earlier goes.now goes.rest i asking_serial access st.wire.laws.serials goes.is answer serial g.next) ∙ answer.tells complete);
      size = answer.sized complete;
    }

-- ---- a response to a read that an agent waits for
module _ (start : List Disk) (all : List Moment) (i : ℕ) (st : Stood all i) (told : Told all) (none : NoneInjected all i) (calm : IsCalm all i) (wild : ℕ → Bool) (own : wild i ≡ false) (asked_so : EachMoment (AskedAsGot start) all) (complete : EachMoment (CompleteAsGot wild start) all) where
  module _ (front now : List Moment) (serial : ℕ) (is : front ++ said (notes.Got serial) ∷ now ≡ all) (access : Access) (x : ClosesRead start now serial i access) where
    for_it : IsSentFor (terms now) x.request
    for_it = sent_for start now x.place x.small x.which x.request (each_in all i st told none calm (AskedAsGot start) front (said (notes.Got serial)) now is asked_so) x.waits

    closes : ClosesBlock (terms now) serial i x.request access
    closes =
        let same : for_it.access ≡ access = same_Some for_it.access access (sym for_it.is ∙ x.asks) in
        record {
          closed = x.closed;
          from = for_it.from;
          to = x.to;
          asks = x.asks;
          reads = x.reads;
          block = subst (λ (y : Access). y.is_block ≡ true) same for_it.block;
          lock = subst (λ (y : Access). y.is_lock ≡ false) same for_it.lock;
        }

    abbrev before : IsAskedBefore all i st told none calm front now serial is x.request access closes
    before = asked_before all i st told none calm front now serial is x.request access closes

    elsewhere : is_serial (receiver_in ((terms before.past).sent x.request)) 0 ≡ false
    elsewhere = ap (λ o. is_serial o 0) before.to ∙ (let z : (suc i == 0) ≡ false = grind (arith, nat_tests) in z)

    waited : Waited start x.place x.request before.past elsewhere x.request
    waited =
        waited_then start x.place x.request before.past elsewhere before.back (subst SerialsCount (sym before.back_is) (serials_now all i st told none calm front now serial is x.request access closes)) x.which x.request before.below
        (subst (λ ms. serial_of x.which (agent_at (over (target_at start ms)) x.place) ≡ Some x.request) (sym before.back_is) x.waits)

    under_then : IsSentFor (terms before.past) x.request
    under_then = sent_for start before.past x.place x.small waited.0 x.request (each_in all i st told none calm (AskedAsGot start) before.later (said (notes.Got x.request)) before.past before.all_is asked_so) waited.1

    complete_then : IsComplete before.past i access
    complete_then =
        each_in all i st told none calm (CompleteAsGot wild start) before.later (said (notes.Got x.request)) before.past before.all_is complete x.place i access own (record {
          small = x.small;
          which = waited.0;
          waits = waited.1;
          to = before.to;
          level = before.level under_then.under_way;
          asks = before.asks;
        })

    pub brings_all : BringsAll access (answer_in (packet_at (terms now) serial))
    brings_all = brings_whole all i st told none calm front now serial is x.request access closes complete_then.rcode
