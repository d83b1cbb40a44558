-- Where an initiator got a write, the history goes on with the response to it: complete, where the run terms have it so.
use Rattle.sbp_world.proofs.Words.Std.{arith, ◌≡◌, ◌∙◌, refl, sym, ap, subst, ◌<◌, ◌+◌, ◌*◌, ◌/◌, ◌%◌, ◌^◌, ℕ, suc, Bool, true, cond, List, [], ◌∷◌, ◌++◌, map, Option, Some, Ok, append_assoc, big_bytes, big_from-bytes, false≢true, same_Some}
use Rattle.sbp_world.proofs.Words.Wire.{Access, Event, Header, Moment, Note, Packet, Sending, Terms, access_of, as_sending, asked, canon, lock, lock_response, part_of, rcode_of, read_block, read_block_response, read_quadlet, read_quadlet_response, reading, response_to, said, terms, three, write_block, write_quadlet, write_response}
use Rattle.sbp_world.proofs.Words.Target.{Told}
use Rattle.sbp_world.proofs.Words.Laws.{access_in, answer_packet, answers_to, host_reply, id_of, is_answered, packet_in, receiver_in, reply_in, reply_packet, spelled_by, turn}
use Rattle.sbp_world.proofs.Words.World.{GetsRequest, IsDelivered, IsDelivering, IsRun, MayAll, Run, Scene, after, begun, beginning, delivered, front_of, history_of, initiator_at}
use Rattle.bus_transactions.proofs.PacketParts.{part_read}
use Rattle.sbp_journal.specs.declared.event.Event.TheVariants as events
use Rattle.sbp_journal.specs.declared.note.Note.TheVariants as notes
use Rattle.sbp_laws.specs.Served.{Reply}
use Rattle.sbp_world.specs.Hosts.Answering.{IsAnswered}
use Rattle.sbp_world.specs.Hosts.Deliveries.{WasGot}
use Rattle.sbp_world.proofs.Common.{none_is, said_joined as said_append}
use Rattle.sbp_world.proofs.Hosts.AnsweringLines.{answering_law}
use Rattle.sbp_world.proofs.Hosts.AnsweringTold.{asks_part}
use Rattle.sbp_world.proofs.Hosts.Between.{between, stands_there, there}
use Rattle.sbp_world.proofs.Hosts.Deliveries.{GotsAre, GotsIn, Here, all_gots, map_in, run_gots, said_gots}
use Rattle.sbp_world.proofs.Hosts.GotRequests.{request_got}
use Rattle.sbp_world.proofs.Hosts.GotServed.{IsAsked, spelled_ok}
use Rattle.sbp_world.proofs.Hosts.Knows.{was_sent}

-- ---- the rcode of a response to a write
three_zero : (a node : ℕ) → rcode_of (three a (node * 2 ^ 16 + 0 * 2 ^ 12) 0) ≡ 0
unfolding rcode_of three
three_zero a node =
    let second : (node * 2 ^ 16 + 0 * 2 ^ 12) % 256 ^ 4 / 2 ^ 12 % 2 ^ 4 ≡ 0 = omega arith in
    ap (λ n. n / 2 ^ 12 % 2 ^ 4) (big_from-bytes 4 (node * 2 ^ 16 + 0 * 2 ^ 12) (big_bytes 4 0)) ∙ second

first_part : Header → ℕ
first_part header = header.source * 2 ^ 16 + header.label * 2 ^ 10 + 1 * 2 ^ 8 + 2 * 2 ^ 4 + 0

written_zero : (node : ℕ) (p : Packet) (given : List ℕ) (access : Access) → access_of p ≡ Some access → access.is_write ≡ true → rcode_of (canon (response_to node p 0 given)) ≡ 0
unfolding first_part
written_zero node (write_quadlet header offset value) given access e w = three_zero (first_part header) node
written_zero node (write_block header offset payload) given access e w = three_zero (first_part header) node
written_zero node (read_quadlet header offset) given access e w = absurd (false≢true (ap (λ (x : Access). x.is_write) (same_Some _ access e) ∙ w))
written_zero node (read_block header offset count) given access e w = absurd (false≢true (ap (λ (x : Access). x.is_write) (same_Some _ access e) ∙ w))
written_zero node (lock header offset extended payload) given access e w = absurd (false≢true (ap (λ (x : Access). x.is_write) (same_Some _ access e) ∙ w))
written_zero node (write_response header rcode) given access e w = none_is access e
written_zero node (read_quadlet_response header rcode value) given access e w = none_is access e
written_zero node (read_block_response header rcode payload) given access e w = none_is access e
written_zero node (lock_response header rcode extended payload) given access e w = none_is access e

-- ---- behind a write that was got
-- what the initiator told, and the response
pub record IsWritten (past : List Moment) (i serial : ℕ) (access : Access) (now : List Moment) : Type 0 where
  pub effects : List Note
  pub to : ℕ
  pub bytes : List ℕ
  pub is : now ≡ said (notes.Sent ((terms past).count + 1) ((terms past).generation (suc i)) (suc i) to bytes) ∷ (map said effects ++ said (notes.Got serial) ∷ past)
  pub complete : (host_reply past i access).rcode ≡ 0 → rcode_of bytes ≡ 0

same_one : (x y : Note) → x ∷ [] ≡ y ∷ [] → x ≡ y
same_one x y e = cc

module _ (past : List Moment) (i serial : ℕ) (q : Sending) (p : Packet) (access : Access) (was : (terms past).sent serial ≡ Some q) (read : reading q.bytes ≡ Ok p) (to : q.to ≡ suc i) (asks : access_of p ≡ Some access) (writes : access.is_write ≡ true) where
  abbrev t : Terms
  t = terms past

  abbrev own : Reply
  own = host_reply past i access

  abbrev bytes_out : List ℕ
  bytes_out = canon (response_to (id_of t (suc i)) p own.rcode own.given)

  abbrev response : Note
  response = notes.Sent (t.count + 1) (t.generation (suc i)) (suc i) q.from bytes_out

  due : answers_to [] (turn past (said (notes.Got serial)) []) (t.sent serial) ≡ response ∷ []
  due =
      let T = turn past (said (notes.Got serial)) [] in
      let answered : is_answered (part_of q.bytes) ≡ true = ap is_answered (part_read q.bytes p read) ∙ asks_part p access asks in
      let spelled : packet_in (Some q) ≡ Some p = ap spelled_by read in
      ap (answers_to [] T) was
      ∙ (ap (λ b. cond b (reply_packet t q (reply_in [] T q.to (access_in (packet_in (Some q))))) []) answered
      ∙ (ap (λ k. reply_packet t q (reply_in [] T q.to (access_in k))) spelled
      ∙ (ap (λ a. reply_packet t q (reply_in [] T q.to a)) asks
      ∙ (ap (λ n. reply_packet t q (reply_in [] T n (Some access))) to
      ∙ (ap (answer_packet t q own.rcode own.given) spelled
      ∙ ap (λ n. notes.Sent (t.count + 1) (t.generation n) n q.from (canon (response_to (id_of t n) p own.rcode own.given)) ∷ []) to)))))

  zero : own.rcode ≡ 0 → rcode_of bytes_out ≡ 0
  zero e = ap (λ rcode. rcode_of (canon (response_to (id_of t (suc i)) p rcode own.given))) e ∙ written_zero (id_of t (suc i)) p own.given access asks writes

  is_written : (now : List Moment) → IsAnswered past serial now → IsWritten past i serial access now
  is_written now a = record {
    effects = a.effects;
    to = q.from;
    bytes = bytes_out;
    is = a.is ∙ ap (λ note. said note ∷ (map said a.effects ++ said (notes.Got serial) ∷ past)) (same_one a.response response (sym (a.due [] []) ∙ due));
    complete = zero;
  }

-- ---- in a history
-- the history goes on so, and is all in the end
pub record GoesOn (all past : List Moment) (i serial : ℕ) (access : Access) : Type 0 where
  pub now : List Moment
  pub rest : List Moment
  pub is : rest ++ now ≡ all
  pub written : IsWritten past i serial access now

abbrev pub IsGotWrite : List Moment → ℕ → List Moment → Type 0
IsGotWrite all serial past = (i : ℕ) (packet : Packet) (access : Access) → IsAsked past i serial packet access → access.is_write ≡ true → GoesOn all past i serial access

more_got : (more all : List Moment) (serial : ℕ) (past : List Moment) → IsGotWrite all serial past → IsGotWrite (more ++ all) serial past
more_got more all serial past g = λ i packet access a w.
    let k = g i packet access a w in record { now = k.now; rest = more ++ k.rest; is = append_assoc more k.rest k.now ∙ ap (λ ms. more ++ ms) k.is; written = k.written }

-- in a delivery
module _ (line : ℕ) (front : Run) (q : IsRun front) (next : ℕ) (event : Event) (told : List (Option Told)) (delivers : IsDelivering event told) (may : MayAll told (begun (after (beginning front) front.entries))) (again : Bool) (one : Option Told) (serial : ℕ) (got : WasGot serial (there line front q next told)) (inside : (i : ℕ) → got.sent.to ≡ suc i → i < front.initiators) (was : (terms (between line front q next event told)).sent serial ≡ Some (as_sending got.sent)) where
  abbrev Past : List Moment
  Past = between line front q next event told

  abbrev Now : List Moment
  Now = map said (delivered serial again one (there line front q next told)).world.fresh ++ asked next event ∷ history_of line front

  served : (i : ℕ) (packet : Packet) (access : Access) → IsAsked Past i serial packet access → access.is_write ≡ true → IsWritten Past i serial access Now
  served i packet access a w =
      let s = there line front q next told in
      let to = same_Some got.sent.to (suc i) (ap receiver_in (sym was) ∙ a.to_it) in
      let read = spelled_ok (reading got.sent.bytes) packet (ap packet_in (sym was) ∙ a.spelled) in
      let gets : GetsRequest Past s.world i serial = record {
        sent = got.sent;
        found = got.found;
        to_it = to;
        packet = packet;
        request = request_got (initiator_at s.world i) got.sent.generation got.sent.bytes packet access a.asks read (got.got i to);
        access = access;
        asks_for = a.asks;
        got = got.got i to;
        is_said = λ reads. absurd (false≢true (sym reads ∙ w));
      } in
      is_written Past i serial (as_sending got.sent) packet access was read to a.asks w Now (answering_law.answers line front q next event told delivers may i (inside i to) serial again one gets)

was_got : (line : ℕ) (run : Run) (serial : ℕ) (past : List Moment) → IsDelivered line run serial past → IsGotWrite (history_of line run) serial past
was_got line run serial past d =
    let front = front_of run d.earlier in
    let next = d.entry.line in
    let event = d.entry.event in
    let now = map said (delivered serial d.again d.one (there line front d.front next d.told)).world.fresh ++ asked next event ∷ history_of line front in
    λ i packet access a w. record {
      now = now;
      rest = d.rest;
      is = d.behind;
      written = subst (λ ms. IsWritten ms i serial access now) (sym d.is)
          (served line front d.front next event d.told d.delivers d.may d.again d.one serial d.was_got d.inside
          (subst (λ ms. (terms ms).sent serial ≡ Some (as_sending d.was_got.sent)) d.is d.was) i packet access
          (subst (λ ms. IsAsked ms i serial packet access) d.is a) w);
    }

pub writes_of : (line : ℕ) (run : Run) → IsRun run → GotsIn (IsGotWrite (history_of line run)) (history_of line run)
writes_of line run q = map_in (IsDelivered line run) (IsGotWrite (history_of line run)) (history_of line run) (λ serial before d. was_got line run serial before d) (run_gots line run run.entries q)

-- ---- behind some deliveries of the next line
module _ (line : ℕ) (run : Run) (q : IsRun run) (next : ℕ) where
  abbrev start : Scene
  start = after (beginning run) run.entries

  gots_here : (event : Event) (told : List (Option Told)) → IsDelivering event told → MayAll told (begun start) → GotsAre (Here event (begun start) (there line run q next told).world.fresh) (there line run q next told).world.fresh
  gots_here (events.Step count) told d m = all_gots (events.Step count) (begun start) refl (λ xs. tt) told m
  gots_here events.Settle told d m = all_gots events.Settle (begun start) refl (λ xs. tt) told m
  gots_here (events.Deliver n) told d m = subst (λ xs. GotsAre (Here (events.Deliver n) (begun start) (there line run q next xs).world.fresh) (there line run q next xs).world.fresh) (sym d) tt
  gots_here (events.Repeat n) told d m = subst (λ xs. GotsAre (Here (events.Repeat n) (begun start) (there line run q next xs).world.fresh) (there line run q next xs).world.fresh) (sym d) tt
  gots_here (events.Begin initiators ready) told d m = absurd d
  gots_here (events.Act j action) told d m = absurd d
  gots_here (events.Reset physical) told d m = absurd d
  gots_here (events.See node) told d m = absurd d
  gots_here (events.Lose n) told d m = absurd d
  gots_here (events.Timeout n) told d m = absurd d
  gots_here events.Tick told d m = absurd d
  gots_here (events.Inject initiator bytes) told d m = absurd d
  gots_here (events.Key unit key) told d m = absurd d

  module _ (event : Event) (told : List (Option Told)) where
    abbrev all : List Moment
    all = between line run q next event told

    abbrev tail : List Moment
    tail = asked next event ∷ history_of line run

    abbrev fresh : List Note
    fresh = (there line run q next told).world.fresh

    here_got : (serial : ℕ) (before : List Note) → Here event (begun start) fresh serial before → IsGotWrite all serial (map said before ++ tail)
    here_got serial before h =
        let b = stands_there line run q next event h.told h.delivers h.may in
        let new = (delivered serial h.again h.one (there line run q next h.told)).world.fresh in
        let was : (terms (between line run q next event h.told)).sent serial ≡ Some (as_sending h.was_got.sent) = subst (λ ms. (terms ms).sent serial ≡ Some (as_sending h.was_got.sent)) b.is (was_sent (there line run q next h.told).world b.sound.stands serial h.was_got.sent h.was_got.found) in
        subst (λ ns. IsGotWrite all serial (map said ns ++ tail)) (sym h.is)
        (λ i packet access a w. record {
          now = map said new ++ tail;
          rest = map said h.later;
          is = said_append h.later new tail ∙ ap (λ ns. map said ns ++ tail) (sym h.behind);
          written = served line run q next event h.told h.delivers h.may h.again h.one serial h.was_got (λ i is. subst (λ n. i < n) b.size (h.was_got.inside i is)) was i packet access a w;
        })

    -- of the lines before
    old_got : (serial : ℕ) (past : List Moment) → IsGotWrite (history_of line run) serial past → IsGotWrite all serial past
    old_got serial past g =
        subst (λ ms. IsGotWrite ms serial past) (append_assoc (map said fresh) (asked next event ∷ []) (history_of line run))
        (more_got (map said fresh ++ asked next event ∷ []) (history_of line run) serial past g)

    pub writes_between : IsDelivering event told → MayAll told (begun start) → GotsIn (IsGotWrite all) all
    writes_between d m =
        said_gots (Here event (begun start) fresh) (IsGotWrite all) fresh tail here_got (gots_here event told d m)
        (map_in (IsGotWrite (history_of line run)) (IsGotWrite all) (history_of line run) old_got (writes_of line run q))
