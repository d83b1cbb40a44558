-- In every run the target sends no write of a quadlet, and no initiator gets one that it answers complete; and each request that it gets, but for a read of
-- its ROM, is the target's.
use Rattle.sbp_world.proofs.Words.Std.{arith, ◌≡◌, refl, sym, ◌∙◌, ap, subst, ℕ, suc, ◌<◌, ◌==◌, ◌&&◌, ◌||◌, not, Bool, true, false, cond, List, [], ◌∷◌, ◌++◌, map, Option, Some, Result, Ok, Err, nat_tests, AllByRecursion, not-false}
use Rattle.sbp_world.proofs.Words.Wire.{PacketFault, Packet, header_in, lock, lock_response, read_block, read_block_response, read_quadlet, read_quadlet_response, write_block, write_quadlet, write_response, reading, judged_note, Access, access_of, empty_outbox, Moment, asked, said, Sending, Terms, terms, Judged, Note, Side}
use Rattle.sbp_world.proofs.Words.Target.{Told}
use Rattle.sbp_world.proofs.Words.Initiator.{reads_rom, InitiatorState, act_step, Turn, new_state, address_error, addressed, expire_step, ignored_step, is_foreign, receive_step, received, see_step, acts, lets_expire, receives, sees}
use Rattle.sbp_world.proofs.Words.Laws.{packet_at, packet_in, spelled_by}
use Rattle.sbp_world.proofs.Words.World.{history_of, Run, after, beginning, MayAll, after_all, begun, is_got_by, took_quadlet, writes_quadlet, behind, AllOfTarget, IsOfTarget, IsRun, more_deliveries}
use Rattle.sbp_journal.specs.declared.cause.Cause.TheVariants as causes
use Rattle.sbp_journal.specs.declared.cause.Judged.TheVariants as judgements
use Rattle.sbp_journal.specs.declared.event.Event.TheVariants as events
use Rattle.sbp_journal.specs.declared.note.Note.TheVariants as notes
use Rattle.sbp_journal.specs.declared.side.Side.TheVariants as sides
use Rattle.sbp_world.specs.Hosts.Calls.{by_side}
use Rattle.sbp_world.proofs.Hosts.ActLeft.{act_left}
use Rattle.sbp_world.proofs.Hosts.Answering.{request_of}
use Rattle.sbp_world.proofs.Hosts.ByteTerms.{got_away}
use Rattle.sbp_world.proofs.Hosts.Calling.{IsOwn, own_first, own_on}
use Rattle.sbp_world.proofs.Hosts.Carried.{sent_between_runs, sent_of_runs}
use Rattle.sbp_world.proofs.Hosts.Carries.{CarriesSent, Does, Nothing, Tells}
use Rattle.sbp_world.proofs.Hosts.GotRequests.{request_got}
use Rattle.sbp_world.proofs.Hosts.Layered.{AreTame, IsTame, expire_left, is_tame, receive_left}
use Rattle.sbp_world.proofs.Hosts.Mild.{IsMild, spells_mild}
use Rattle.sbp_world.proofs.Hosts.PointSees.{see_left}
use Rattle.sbp_world.proofs.Hosts.SentMoments.{sent_moment}
use Rattle.sbp_world.proofs.Hosts.Shown.{IsElsewhere, IsHeard, IsShown}
use Rattle.sbp_world.proofs.Common.{untrue}
use Rattle.sbp_world.proofs.Hosts.AnsweringBlocks.{not_got}

-- ---- what the target sent

abbrev pub IsMildNote : Moment → Type 0
IsMildNote (said (notes.Sent serial generation from to bytes)) = from ≡ 0 → IsMild bytes
IsMildNote _ = Unit {0}

abbrev pub AllMild : List Moment → Type 0
AllMild past = AllByRecursion IsMildNote past

mild_at : (later : List Moment) (m : Moment) (before : List Moment) → AllMild (later ++ m ∷ before) → IsMildNote m
mild_at [] m before h = h.0
mild_at (other ∷ later) m before h = mild_at later m before h.1

pub sent_mild : (past : List Moment) (serial : ℕ) (packet : Sending) → AllMild past → (terms past).sent serial ≡ Some packet → packet.from ≡ 0 → IsMild packet.bytes
sent_mild past serial packet h e f =
    let w = sent_moment past serial packet e in
    mild_at w.later (said (notes.Sent serial packet.generation packet.from packet.to packet.bytes)) w.before (subst AllMild (sym w.is) h) f

-- ---- what is carried

pub record Fair (past : List Moment) (i : ℕ) : Type 0 where
  pub sent : AllMild past
  pub none : took_quadlet past i ≡ false
  pub sources : AllOfTarget past i

-- what an initiator tells says nothing of packets
tame_note : (note : Note) (past : List Moment) (i : ℕ) → is_tame note ≡ true → Fair past i → Fair (said note ∷ past) i
tame_note (notes.Sent serial generation from to bytes) past i e h = untrue e
tame_note (notes.Got serial) past i e h = untrue e
tame_note note past i e h = record { sent = (tt, h.sent); none = h.none; sources = h.sources }

tame_side : (side : Side) (past : List Moment) (i : ℕ) → IsTame side → Fair past i → Fair (by_side side past) i
tame_side (sides.Own note) past i e h = tame_note note past i e h
tame_side side past i e h = absurd e

tame_told : (told : List Side) (past : List Moment) (i : ℕ) → AreTame told → Fair past i → Fair (behind told past) i
tame_told [] past i e h = h
tame_told (side ∷ told) past i e h = tame_told told (by_side side past) i e.1 (tame_side side past i e.0 h)

took_no : (got quadlet took : Bool) → quadlet ≡ false → took ≡ false → (got && quadlet) || took ≡ false
took_no true true took e f = untrue (sym e)
took_no true false took e f = f
took_no false quadlet took e f = f

took_away : (got quadlet took : Bool) → got ≡ false → took ≡ false → (got && quadlet) || took ≡ false
took_away true quadlet took e f = untrue (sym e)
took_away false quadlet took e f = f

from_own : {A : Type 0} (from : ℕ) → (from == 0) ≡ false → from ≡ 0 → A
from_own from e f = untrue (sym e ∙ ap (λ n. n == 0) f)

not_away : {A : Type 0} (to i : ℕ) → to ≡ suc i → (to == suc i) ≡ false → A
not_away to i e f = absurd (grind (arith, nat_tests))

fair_apart : (note : Note) (past : List Moment) (i : ℕ) → IsElsewhere past i note → Fair past i → Fair (said note ∷ past) i
fair_apart (notes.Sent serial generation from to bytes) past i e h = record { sent = (λ f. from_own from e f, h.sent); none = h.none; sources = h.sources }
fair_apart (notes.Got serial) past i e h = record {
  sent = (tt, h.sent);
  none = took_away (is_got_by past i serial) (writes_quadlet (packet_at (terms past) serial)) (took_quadlet past i) (got_away i serial past e) h.none;
  sources = (λ packet p access f to read asks rom. not_away packet.to i to (e packet f), h.sources);
}
fair_apart note past i e h = record { sent = (tt, h.sent); none = h.none; sources = h.sources }

-- ---- a packet that is heard

module _ (serial generation : ℕ) (bytes : List ℕ) (past : List Moment) (i : ℕ) (s : InitiatorState) (heard : IsHeard past i serial generation bytes) (shown : IsShown past i s.target s.layer) (h : Fair past i) where
  abbrev judged : Judged
  judged = (receive_step generation bytes empty_outbox s).0

  abbrev t : Terms
  t = terms past

  -- a request that is got, and reads no ROM, comes from the target
  module _ (p : Packet) (access : Access) (asks : access_of p ≡ Some access) (rom : reads_rom p ≡ false) (read : reading bytes ≡ Ok p) (got : judged ≡ judgements.Got) where
    own_source : (b : Bool) → is_foreign p s ≡ b → (cond b (ignored_step causes.Source address_error p bytes (empty_outbox, s)) (addressed p bytes empty_outbox s)).0 ≡ judgements.Got → (header_in p).source ≡ s.target
    own_source true e g = absurd (not_got causes.Source g)
    own_source false e g =
        let f : ((header_in p).source == s.target) ≡ true = not-false ((header_in p).source == s.target) (sym (ap (λ b. not b && not ((header_in p).source == s.target)) rom) ∙ e) in grind (arith, nat_tests)

    from_target : heard.packet.from ≡ 0
    unfolding receive_step
    from_target =
        let f = request_of s.layer generation bytes p (request_got s generation bytes p access asks read got) in
        let source : (header_in p).source ≡ s.target = own_source (is_foreign p s) refl (sym (ap (λ x. (received x bytes empty_outbox s).0) f.same) ∙ got) in
        let named : (header_in p).source ≡ t.ids heard.packet.generation heard.packet.from = heard.source p (ap reading heard.bytes_are ∙ read) in
        let same : heard.packet.generation ≡ s.layer.generation = heard.generation_is ∙ f.current in
        heard.apart s.layer.generation heard.packet.from 0
        (ap (λ g. t.ids g heard.packet.from) (sym same) ∙ (sym named ∙ (source ∙ sym shown.named)))

  by_packet : (p : Packet) → reading bytes ≡ Ok p → judged ≡ judgements.Got → writes_quadlet (spelled_by (reading bytes)) ≡ false
  by_packet (write_quadlet header offset value) e got =
      spells_mild bytes (subst IsMild heard.bytes_are (sent_mild past serial heard.packet h.sent heard.sent (from_target (write_quadlet header offset value) _ refl refl e got)))
  by_packet (write_block header offset payload) e got = ap (λ x. writes_quadlet (spelled_by x)) e
  by_packet (write_response header rcode) e got = ap (λ x. writes_quadlet (spelled_by x)) e
  by_packet (read_quadlet header offset) e got = ap (λ x. writes_quadlet (spelled_by x)) e
  by_packet (read_block header offset size) e got = ap (λ x. writes_quadlet (spelled_by x)) e
  by_packet (read_quadlet_response header rcode value) e got = ap (λ x. writes_quadlet (spelled_by x)) e
  by_packet (read_block_response header rcode payload) e got = ap (λ x. writes_quadlet (spelled_by x)) e
  by_packet (lock header offset extended payload) e got = ap (λ x. writes_quadlet (spelled_by x)) e
  by_packet (lock_response header rcode extended payload) e got = ap (λ x. writes_quadlet (spelled_by x)) e

  by_read : (read : Result Packet PacketFault) → reading bytes ≡ read → judged ≡ judgements.Got → writes_quadlet (spelled_by (reading bytes)) ≡ false
  by_read (Ok p) e got = by_packet p e got
  by_read (Err fault) e got = ap (λ x. writes_quadlet (spelled_by x)) e

  no_quadlet : judged ≡ judgements.Got → writes_quadlet (packet_at t serial) ≡ false
  no_quadlet got = ap writes_quadlet (ap packet_in heard.sent ∙ ap (λ xs. spelled_by (reading xs)) heard.bytes_are) ∙ by_read (reading bytes) refl got

  same_packet : (packet : Sending) → t.sent serial ≡ Some packet → heard.packet ≡ packet
  same_packet packet e = let f = sym heard.sent ∙ e in cc

  of_target : judged ≡ judgements.Got → IsOfTarget past i serial
  of_target got packet p access e to read asks rom =
      let same = same_packet packet e in
      sym (ap (λ (x : Sending). x.from) same)
      ∙ from_target p access asks rom (ap reading (sym heard.bytes_are) ∙ (ap (λ (x : Sending). reading x.bytes) same ∙ read)) got

  by_judged : (j : Judged) → judged ≡ j → Fair (said (judged_note serial j) ∷ past) i
  by_judged judgements.Got e = record {
    sent = (tt, h.sent);
    none = took_no (is_got_by past i serial) (writes_quadlet (packet_at t serial)) (took_quadlet past i) (no_quadlet e) h.none;
    sources = (of_target e, h.sources);
  }
  by_judged (judgements.Ignored cause) e = record { sent = (tt, h.sent); none = h.none; sources = h.sources }

  heard_fair : Fair (said (judged_note serial judged) ∷ past) i
  heard_fair = by_judged judged refl

-- ---- a run

pub record Carried (ready : Bool) (past : List Moment) (i : ℕ) (s : InitiatorState) : Type 0 where
  pub own : IsOwn ready i s
  pub fair : Fair past i

module _ (ready : Bool) where
  tells_on : (past : List Moment) (i : ℕ) (t : Turn) → IsOwn ready i t.1 → AreTame t.0.sides → Fair past i → Tells (Carried ready) past i t
  tells_on past i t own tame h = record {
    own = record { own = own; fair = tame_told t.0.sides past i tame h };
    others = λ j x e k. record { own = k.own; fair = tame_told t.0.sides past j tame k.fair };
  }

  does_on : (past : List Moment) (i : ℕ) (t : Turn) → IsOwn ready i t.1 → AreTame t.0.sides → Fair past i → Does (Carried ready) past i t
  does_on past i t own tame h = record {
    others = λ j x e k. record { own = k.own; fair = tame_told t.0.sides past j tame k.fair };
    quiet = λ none. record { own = own; fair = tame_told t.0.sides past i tame h };
    asking = λ packet one serial generation f q.
        let k = tame_told t.0.sides past i tame h in
        record { own = own; fair = record { sent = (λ e. from_own (suc i) (let z : (suc i == 0) ≡ false = grind (arith, nat_tests) in z) e, k.sent); none = k.none; sources = k.sources } };
  }

  pub fair_carried : CarriesSent Nothing (Carried ready)
  fair_carried = record {
    known = λ line event past i s h. tt;
    number = λ past i s h. h.own.number;
    asked = λ line event past i s h. record { own = h.own; fair = record { sent = (tt, h.fair.sent); none = h.fair.none; sources = h.fair.sources } };
    apart = λ note past i s e away h. record { own = h.own; fair = fair_apart note past i away h.fair };
    sent = λ serial generation from to bytes past i s n h. record { own = h.own; fair = record { sent = (n.1, h.fair.sent); none = h.fair.none; sources = h.fair.sources } };
    hears = λ serial generation bytes past i s heard shown after h.
        tells_on (said (judged_note serial (receive_step generation bytes empty_outbox s).0) ∷ past) i (receive_step generation bytes empty_outbox s).1 (own_on ready i s (receives generation bytes) tt h.own)
        (receive_left generation bytes s).told (heard_fair serial generation bytes past i s heard shown h.fair);
    expires = λ serial label past i s shown h.
        tells_on (said (notes.TimedOut serial) ∷ past) i (expire_step label empty_outbox s).1 (own_on ready i s (lets_expire label) tt h.own)
        (expire_left label s).told (record { sent = (tt, h.fair.sent); none = h.fair.none; sources = h.fair.sources });
    stale = λ label past i s e h. record { own = own_on ready i s (lets_expire label) tt h.own; fair = h.fair };
    sees = λ generation id target past i s e h.
        tells_on (said (notes.Seen (suc i) generation) ∷ past) i (see_step generation id target empty_outbox s) (own_on ready i s (sees generation id target) tt h.own)
        (see_left generation id target s).told (record { sent = (tt, h.fair.sent); none = h.fair.none; sources = h.fair.sources });
    acts = λ action past i s line fit d shown known h.
        does_on past i (act_step action empty_outbox s).1 (own_on ready i s (acts action) fit.0 h.own) (act_left action s d).told h.fair;
  }

pub first_fair : (line i initiators : ℕ) (ready : Bool) → Carried ready (said (notes.Begin initiators ready) ∷ asked line (events.Begin initiators ready) ∷ []) i (new_state i ready)
first_fair line i initiators ready = record { own = own_first ready i; fair = record { sent = (tt, (tt, tt)); none = refl; sources = tt } }

pub fair_of_runs : (line : ℕ) (run : Run) → IsRun run → (i : ℕ) → i < run.initiators → Fair (history_of line run) i
fair_of_runs line run q i b =
    (sent_of_runs (Carried run.ready) (fair_carried run.ready) line run (λ entries few short all fit j c. tt) (λ j c. first_fair line j run.initiators run.ready) q i b).fair

pub fair_between : (line : ℕ) (run : Run) → IsRun run → (next : ℕ) (most : Option ℕ) (told : List (Option Told)) → MayAll told (begun (after (beginning run) run.entries)) → (i : ℕ) → i < run.initiators → Fair (map said (after_all told (begun (after (beginning run) run.entries))).world.fresh ++ asked next (more_deliveries most) ∷ history_of line run) i
fair_between line run q next most told m i b =
    (sent_between_runs (Carried run.ready) (fair_carried run.ready) line run (λ entries few short all fit j c. tt) (λ j c. first_fair line j run.initiators run.ready) q next most told m i b).fair
