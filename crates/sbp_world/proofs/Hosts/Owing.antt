-- A response that tells bytes in answer to a block read stands behind the note that the read was got.
use Rattle.sbp_world.proofs.Words.Std.{arith, ◌≡◌, refl, sym, ◌∙◌, ap, subst, ℕ, suc, ◌+◌, ◌≤◌, ◌==◌, Bool, true, false, cond, List, [], ◌∷◌, ◌++◌, map, Option, Some, None, Result, Ok, Err, append_assoc, nat_tests, false≢true, same_Some}
use Rattle.sbp_world.proofs.Words.Wire.{rcode_of, Packet, lock, read_block, read_block_response, read_quadlet, read_quadlet_response, lock_response, write_block, write_quadlet, write_response, reading, Spells, PacketFault, AreAnswered, IsOwed, IsSentFor, SerialsCount, AreJudged, is_repeated, may_ignore_by, is_stated, row_of, is_write, Access, access_of, Moment, asked, said, Kind, Sending, between, is_same_kind, part_in, part_of, reading_block, request, response, writing, Owed, Terms, terms, Cause, Note}
use Rattle.sbp_world.proofs.Words.Initiator.{Done, Payload, Refused}
use Rattle.sbp_world.proofs.Words.Laws.{access_in, answer_in, answer_of, packet_in, receiver_in, spelled_by}
use Rattle.sbp_world.proofs.Words.World.{IsResponse, Remains, IsOwedThere, note_of}
use Rattle.bus_transactions.specs.Judging.{facts_of}
use Rattle.bus_transactions.proofs.Facts.{IsReply}
use Rattle.bus_transactions.proofs.FitJudged.{spelled}
use Rattle.bus_transactions.proofs.PacketParts.{asking_read, part_read}
use Rattle.sbp_journal.specs.declared.cause.Cause.TheVariants as causes
use Rattle.sbp_journal.specs.declared.note.Note.TheVariants as notes
use Rattle.sbp_world.proofs.Hosts.Between.{OfWire}
use Rattle.sbp_world.proofs.Hosts.Finished.{next_serial}
use Rattle.sbp_world.proofs.Hosts.MemoryRcodes.{and_true}
use Rattle.sbp_world.proofs.Hosts.Remaining.{gets_same, ignores_that_same, remains}
use Rattle.sbp_world.proofs.Hosts.ResponseBytes.{IsBlockRead, block_read_of, tells_read}
use Rattle.sbp_world.proofs.Hosts.ResponseTerms.{plain_all}
use Rattle.sbp_world.proofs.Hosts.SentMoments.{WasSent, answers_now, count_now, now, sent_below, sent_moment, serials_from}
use Rattle.sbp_world.proofs.Hosts.SlotIgnored.{AllWrites, writes_there}
use Rattle.sbp_world.proofs.Hosts.Standing.{answered_from, stands_there}

-- ---- a packet that tells bytes, and one that asks for something

pub record IsTelling (packet : Sending) (bytes : List ℕ) : Type 0 where
  pub spells : Packet
  pub read : reading packet.bytes ≡ Ok spells
  pub tells : answer_of spells ≡ Payload bytes

tells_by : (packet : Sending) (bytes : List ℕ) (r : Result Packet PacketFault) → reading packet.bytes ≡ r → answer_in (spelled_by r) ≡ Payload bytes → IsTelling packet bytes
tells_by packet bytes (Ok p) e f = record { spells = p; read = e; tells = f }
tells_by packet bytes (Err fault) e f = absurd (differ f)
  where
    differ : Done ≡ Payload bytes → ⊥
    differ e = cc

pub telling : (packet : Sending) (bytes : List ℕ) → answer_in (packet_in (Some packet)) ≡ Payload bytes → IsTelling packet bytes
telling packet bytes e = tells_by packet bytes (reading packet.bytes) refl e

pub record IsAsking (packet : Sending) (access : Access) : Type 0 where
  pub spells : Packet
  pub read : reading packet.bytes ≡ Ok spells
  pub asks : access_of spells ≡ Some access

asks_by : (packet : Sending) (access : Access) (r : Result Packet PacketFault) → reading packet.bytes ≡ r → access_in (spelled_by r) ≡ Some access → IsAsking packet access
asks_by packet access (Ok p) e f = record { spells = p; read = e; asks = f }
asks_by packet access (Err fault) e f = absurd (differ f)
  where
    differ : None ≡ Some access → ⊥
    differ e = cc

pub asking : (packet : Sending) (access : Access) → access_in (packet_in (Some packet)) ≡ Some access → IsAsking packet access
asking packet access e = asks_by packet access (reading packet.bytes) refl e

-- ---- its rcode

pub done_or : (b : Bool) (rcode : ℕ) (bytes : List ℕ) → cond b Done (Refused rcode) ≡ Payload bytes → ⊥
done_or true rcode bytes e = cc
done_or false rcode bytes e = cc

pub zero_by : (b : Bool) (rcode : ℕ) (given bytes : List ℕ) → (rcode == 0) ≡ b → cond b (Payload given) (Refused rcode) ≡ Payload bytes → rcode ≡ 0
zero_by true rcode given bytes e f = grind (arith, nat_tests)
zero_by false rcode given bytes e f = cc

-- one that tells bytes is complete
complete_by : (bytes : List ℕ) (p : Packet) (told : List ℕ) → Spells bytes p → answer_of p ≡ Payload told → rcode_of bytes ≡ 0
complete_by bytes (read_quadlet_response header rcode value) told s e = sym s.1 ∙ zero_by (rcode == 0) rcode _ told refl e
complete_by bytes (read_block_response header rcode payload) told s e = sym s.1 ∙ zero_by (rcode == 0) rcode payload told refl e
complete_by bytes (write_response header rcode) told s e = absurd (done_or (rcode == 0) rcode told e)
complete_by bytes (write_quadlet header offset value) told s e = cc
complete_by bytes (write_block header offset payload) told s e = cc
complete_by bytes (read_quadlet header offset) told s e = cc
complete_by bytes (read_block header offset count) told s e = cc
complete_by bytes (lock header offset extended payload) told s e = cc
complete_by bytes (lock_response header rcode extended payload) told s e = cc

-- ---- a request that comes again

pub row_again : (c n r a e : Bool) → may_ignore_by (row_of (record { is_current = c; is_for_node = n; is_response = r; is_awaited = a; is_repeated = e })) causes.Again ≡ true → e ≡ true
row_again false n r a e f = cc
row_again true false r a e f = cc
row_again true true true false e f = cc
row_again true true true true e f = cc
row_again true true false a false f = cc
row_again true true false a true f = refl

pub judged_there : (later past : List Moment) (s : ℕ) (cause : Cause) → AreJudged (later ++ said (notes.Ignored s cause) ∷ past) → (packet : Sending) → (terms past).sent s ≡ Some packet → may_ignore_by (row_of (facts_of (terms past) packet)) cause ≡ true
judged_there [] past s cause h = h.0
judged_there (said (notes.Got other) ∷ later) past s cause h = judged_there later past s cause h.1
judged_there (said (notes.Ignored other reason) ∷ later) past s cause h = judged_there later past s cause h.1
judged_there (said note ∷ later) past s cause h = judged_there later past s cause h
judged_there (asked line event ∷ later) past s cause h = judged_there later past s cause h

pub repeats_write : (t : Terms) (packet : Sending) (label : ℕ) (kind : Kind) → part_of packet.bytes ≡ request label kind → may_ignore_by (row_of (facts_of t packet)) causes.Again ≡ true → is_write packet.bytes ≡ true
repeats_write t packet label kind part e =
    let f = facts_of t packet in
    let again : f.is_repeated ≡ true = row_again f.is_current f.is_for_node f.is_response f.is_awaited f.is_repeated e in
    and_true (is_write packet.bytes) _ (sym (ap (λ p. is_repeated t p packet) part) ∙ again)

-- ---- a response to a block read

-- the history in which the read was got, and the response right behind it
pub record GotBehind (all : List Moment) (reply ask : ℕ) (asks : Sending) : Type 0 where
  pub later : List Moment
  pub past : List Moment
  pub is : later ++ said (notes.Got ask) ∷ past ≡ all
  pub was : (terms past).sent ask ≡ Some asks
  pub below : ask ≤ (terms past).count
  pub next : reply ≡ (terms past).count + 1

pub read_kind : (p : Packet) (address count label : ℕ) (kind : Kind) → IsBlockRead p address count → part_in p ≡ request label kind → is_same_kind kind writing ≡ false
read_kind p address count label kind b e = by_kind (sym (ap part_in b.is) ∙ e)
  where
    by_kind : request b.header.label reading_block ≡ request label kind → is_same_kind kind writing ≡ false
    by_kind f = let is : reading_block ≡ kind = cc in sym (ap (λ k. is_same_kind k writing) is)

-- An initiator answers a packet with one that was not injected.
pub record IsAnswer (all : List Moment) (i reply ask : ℕ) : Type 0 where
  pub own : (packet : Sending) → (terms all).sent reply ≡ Some packet → packet.injected ≡ false
  pub answers : (terms all).answers reply ≡ Some ask
  pub of_initiator : receiver_in ((terms all).sent ask) ≡ Some (suc i)

module _ (all : List Moment) (i : ℕ) (wire : OfWire all) (reply ask : ℕ) (r : IsAnswer all i reply ask) where
  pub reply_of : IsReply ((terms all).sent reply) ((terms all).sent ask)
  reply_of = wire.facts.replied reply ask r.answers

  abbrev pub answering : Sending
  answering = reply_of.reply

  -- ---- where the response stands

  pub sent : WasSent all reply answering
  sent = sent_moment all reply answering reply_of.reply_is

  abbrev here : List Moment
  here = now sent.before reply answering.generation answering.from answering.to answering.bytes

  serials_here : SerialsCount here
  serials_here = serials_from sent.later here (subst SerialsCount (sym sent.is) wire.laws.serials)

  answered : AreAnswered here
  answered = answered_from sent.later here (subst AreAnswered (sym sent.is) wire.laws.answered)

  pub there : IsOwedThere sent.before
  there = stands_there sent.before reply answering.generation answering.from answering.to answering.bytes answered (sent.injected ∙ r.own answering reply_of.reply_is) reply_of.label reply_of.kind reply_of.reply_part

  abbrev pub owed : Owed
  owed = there.owed

  owed_is : owed.serial ≡ ask
  owed_is =
      let remain : Remains here all = subst (Remains here) sent.is (remains sent.later here (subst SerialsCount (sym sent.is) wire.laws.serials)) in
      let serial : reply ≡ (terms sent.before).count + 1 = serials_here.0 in
      let counted : (terms here).count ≡ (terms sent.before).count + 1 = count_now sent.before reply answering.generation answering.from answering.to answering.bytes in
      let first = answers_now sent.before reply answering.generation answering.from answering.to answering.bytes owed there.owes in
      same_Some owed.serial ask (sym first ∙ (sym (remain.answers reply (omega arith)) ∙ r.answers))

  pub owing : IsOwed (terms sent.before) owed (record { generation = answering.generation; from = answering.from; to = answering.to; bytes = answering.bytes; injected = (terms sent.before).injected reply })
  owing = subst (λ o. IsSentFor o (terms sent.before) (record { generation = answering.generation; from = answering.from; to = answering.to; bytes = answering.bytes; injected = (terms sent.before).injected reply })) there.owes answered.0

  -- ---- the request, as it was judged

  abbrev pub past : List Moment
  past = there.stands.past

  abbrev effects : List Note
  effects = there.stands.effects

  abbrev note : Note
  note = note_of owed.serial owed.cause

  abbrev pub later : List Moment
  later = sent.later ++ said (notes.Sent reply answering.generation answering.from answering.to answering.bytes) ∷ map said effects

  position : later ++ said note ∷ past ≡ all
  position =
      append_assoc sent.later (said (notes.Sent reply answering.generation answering.from answering.to answering.bytes) ∷ map said effects) (said note ∷ past)
      ∙ (ap (λ ms. sent.later ++ said (notes.Sent reply answering.generation answering.from answering.to answering.bytes) ∷ ms) (sym there.stands.is) ∙ sent.is)

  behind : (later ++ said note ∷ []) ++ past ≡ all
  behind = append_assoc later (said note ∷ []) past ∙ position

  serials_all : SerialsCount ((later ++ said note ∷ []) ++ past)
  serials_all = subst SerialsCount (sym behind) wire.laws.serials

  remain_past : Remains past all
  remain_past = subst (Remains past) behind (remains (later ++ said note ∷ []) past serials_all)

  judged_sent : (c : Option Cause) → (terms (said (note_of owed.serial c) ∷ past)).sent ≡ (terms past).sent
  judged_sent None = (gets_same ((terms past).sent owed.serial) owed.serial (terms past)).sent
  judged_sent (Some cause) = (ignores_that_same ((terms past).sent owed.serial) cause owed.serial (terms past)).sent

  sent_before : (terms sent.before).sent ≡ (terms past).sent
  sent_before = ap (λ (t : Terms). t.sent) (ap terms there.stands.is ∙ plain_all effects (said note ∷ past) there.stands.plain) ∙ judged_sent owed.cause

  was_owed : (terms past).sent owed.serial ≡ Some owing.asking
  was_owed = ap (λ f. f owed.serial) (sym sent_before) ∙ owing.sent

  below_past : owed.serial ≤ (terms past).count
  below_past = sent_below past owed.serial owing.asking (serials_from (later ++ said note ∷ []) past serials_all) was_owed

  pub was_sent : (terms past).sent owed.serial ≡ Some reply_of.asking
  was_sent = sym (remain_past.sent owed.serial below_past) ∙ (ap (λ n. (terms all).sent n) owed_is ∙ reply_of.asking_is)

  -- ---- how it was judged

  abbrev pub given : ℕ
  given = (terms sent.before).given (between owing.asking owing.asking.from owing.asking.to owing.responds.label)

  pub stated : (cause : Cause) → owed.cause ≡ Some cause → is_stated (Some cause) given (rcode_of answering.bytes) ≡ true
  stated cause e = sym (ap (λ c. is_stated c given (rcode_of answering.bytes)) e) ∙ owing.stated

  pub ignored_there : (cause : Cause) → owed.cause ≡ Some cause → later ++ said (notes.Ignored owed.serial cause) ∷ past ≡ all
  ignored_there cause e = ap (λ c. later ++ said (note_of owed.serial c) ∷ past) (sym e) ∙ position

  -- it was got, where it was not ignored
  module _ (none : owed.cause ≡ None) where
    got_note : note ≡ notes.Got ask
    got_note = ap (λ c. note_of owed.serial c) none ∙ ap (λ n. notes.Got n) owed_is

    pub behind_got : GotBehind all reply ask reply_of.asking
    behind_got = record {
      later = later;
      past = past;
      is = ap (λ x. later ++ said x ∷ past) (sym got_note) ∙ position;
      was = subst (λ n. (terms past).sent n ≡ Some reply_of.asking) owed_is was_sent;
      below = subst (λ n. n ≤ (terms past).count) owed_is below_past;
      next = next_serial past ask effects there.stands.plain reply answering.generation answering.from answering.to answering.bytes
          (subst (λ ms. SerialsCount (said (notes.Sent reply answering.generation answering.from answering.to answering.bytes) ∷ ms)) (there.stands.is ∙ ap (λ x. map said effects ++ said x ∷ past) got_note) serials_here);
    }

pub cause_none : (c : Option Cause) → ((cause : Cause) → c ≡ Some cause → ⊥) → c ≡ None
cause_none None h = refl
cause_none (Some cause) h = absurd (h cause refl)

module _ (all : List Moment) (i : ℕ) (wire : OfWire all) (writes : AllWrites all i) (reply ask : ℕ) (access : Access) (bytes : List ℕ) (r : IsResponse all i reply ask access bytes) where
  abbrev as_answer : IsAnswer all i reply ask
  as_answer = record { own = r.own; answers = r.answers; of_initiator = r.of_initiator }

  abbrev pub replied : IsReply ((terms all).sent reply) ((terms all).sent ask)
  replied = reply_of all i wire reply ask as_answer

  abbrev q : Sending
  q = replied.reply

  tell : IsTelling q bytes
  tell = telling q bytes (sym (ap (λ o. answer_in (packet_in o)) replied.reply_is) ∙ r.tells)

  pub asks : IsAsking replied.asking access
  asks = asking replied.asking access (sym (ap (λ o. access_in (packet_in o)) replied.asking_is) ∙ r.asks)

  asks_part : part_in asks.spells ≡ request replied.label replied.kind
  asks_part = sym (part_read replied.asking.bytes asks.spells asks.read) ∙ replied.asking_part

  tells_part : part_in tell.spells ≡ response replied.label replied.kind
  tells_part = sym (part_read q.bytes tell.spells tell.read) ∙ replied.reply_part

  pub block : IsBlockRead asks.spells access.offset access.count
  block = block_read_of asks.spells access replied.label replied.kind asks.asks r.reads r.block asks_part (tells_read tell.spells replied.label replied.kind bytes tell.tells tells_part)

  pub to_it : replied.asking.to ≡ suc i
  to_it = same_Some replied.asking.to (suc i) (sym (ap receiver_in replied.asking_is) ∙ r.of_initiator)

  -- ---- it was got

  abbrev was : Owed
  was = owed all i wire reply ask as_answer

  abbrev before : List Moment
  before = past all i wire reply ask as_answer

  abbrev behind_it : List Moment
  behind_it = later all i wire reply ask as_answer

  abbrev gave : ℕ
  gave = given all i wire reply ask as_answer

  stated_zero : (cause : Cause) → was.cause ≡ Some cause → is_stated (Some cause) gave 0 ≡ true
  stated_zero cause e =
      sym (ap (λ n. is_stated (Some cause) gave n) (complete_by q.bytes tell.spells bytes (spelled q.bytes tell.spells tell.read) tell.tells)) ∙ stated all i wire reply ask as_answer cause e

  there_ignored : (cause : Cause) → was.cause ≡ Some cause → behind_it ++ said (notes.Ignored was.serial cause) ∷ before ≡ all
  there_ignored cause e = ignored_there all i wire reply ask as_answer cause e

  not_ignored : (cause : Cause) → was.cause ≡ Some cause → ⊥
  not_ignored causes.Generation e = false≢true (stated_zero causes.Generation e)
  not_ignored causes.Label e = false≢true (stated_zero causes.Label e)
  not_ignored causes.Grammar e = false≢true (stated_zero causes.Grammar e)
  not_ignored causes.Source e = false≢true (stated_zero causes.Source e)
  not_ignored causes.Login e = false≢true (stated_zero causes.Login e)
  not_ignored causes.Slot e =
      let w = writes_there behind_it before i was.serial (subst (λ ms. AllWrites ms i) (sym (there_ignored causes.Slot e)) writes) in
      false≢true (sym r.reads ∙ w replied.asking (was_sent all i wire reply ask as_answer) to_it asks.spells asks.read access asks.asks)
  not_ignored causes.Again e =
      let j = judged_there behind_it before was.serial causes.Again (subst AreJudged (sym (there_ignored causes.Again e)) wire.laws.judged) replied.asking (was_sent all i wire reply ask as_answer) in
      let w = repeats_write (terms before) replied.asking replied.label replied.kind replied.asking_part j in
      let k = asking_read replied.asking.bytes asks.spells replied.label replied.kind asks.read asks_part in
      false≢true (sym (read_kind asks.spells access.offset access.count replied.label replied.kind block asks_part) ∙ (sym k.writes ∙ w))

  pub got_behind : GotBehind all reply ask replied.asking
  got_behind = behind_got all i wire reply ask as_answer (cause_none was.cause not_ignored)
