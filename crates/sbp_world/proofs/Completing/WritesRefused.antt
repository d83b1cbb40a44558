-- In every run an initiator refuses a request of the target only where this writes to a FIFO of a login that is closed, or no status block.
use Rattle.sbp_world.proofs.Words.Std.{arith, ◌≡◌, ◌∙◌, refl, sym, ap, subst, ◌<◌, ◌==◌, ◌&&◌, ◌||◌, not, ℕ, suc, Bool, true, false, List, [], ◌∷◌, ◌++◌, Option, Some, Ok, nat_tests, false≢true}
use Rattle.sbp_world.proofs.Words.Wire.{Access, Cause, Event, Judged, Moment, Note, Packet, Row, RequestFacts, Sending, Side, access_of, asked, by_again, by_generation, by_grammar, by_label, by_request, by_response, empty_outbox, facts_of, facts_in, first_or, header_in, ignored_as, judged_note, reading, row_of, said, serving, telling, terms}
use Rattle.sbp_world.proofs.Words.Target.{Told}
use Rattle.sbp_world.proofs.Words.Initiator.{InitiatorState, Seat, Turn, act_step, expire_step, facts_at, fifo_for, is_out_seat, is_step, judging_by, new_state, note_by, note_of, receive_step, see_step, status_in}
use Rattle.sbp_world.proofs.Words.Laws.{host_at, is_effect}
use Rattle.sbp_world.proofs.Words.World.{IsDelivering, IsRun, MayAll, Run, after, begun, behind, beginning, history_of}
use Rattle.initiator_base.specs.Fifos.{fifo_at}
use Rattle.sbp_initiator.specs.Histories.Judging.{is_closed, is_read}
use Rattle.sbp_initiator.proofs.Histories.Judging.{judging_law}
use Rattle.sbp_journal.specs.declared.cause.Cause.TheVariants as causes
use Rattle.sbp_journal.specs.declared.cause.Judged.TheVariants as judgements
use Rattle.sbp_journal.specs.declared.event.Event.TheVariants as events
use Rattle.sbp_journal.specs.declared.note.Note.TheVariants as notes
use Rattle.sbp_journal.specs.declared.side.Side.TheVariants as sides
use Rattle.sbp_laws.specs.JudgementLaw.{is_out}
use Rattle.sbp_session.specs.declared.seat.Seat.TheVariants as seats
use Rattle.sbp_world.specs.Completing.Writes.{is_refused}
use Rattle.sbp_world.specs.Hosts.Calls.{by_side}
use Rattle.sbp_world.specs.Hosts.Core.{Core, session_in}
use Rattle.sbp_world.proofs.Common.{and_second}
use Rattle.sbp_world.proofs.Hosts.Between.{between, carried_there}
use Rattle.sbp_world.proofs.Hosts.Carried.{of_runs}
use Rattle.sbp_world.proofs.Hosts.Carries.{Carries, Does, Nothing, Tells, by_more}
use Rattle.sbp_world.proofs.Hosts.Hosted.{Cored, cored_carried, first_cored}
use Rattle.sbp_world.proofs.Hosts.Shown.{IsElsewhere, IsHeard, IsShown}
use Rattle.sbp_world.proofs.Hosts.SlotIgnored.{not_there, some_bytes, grammar_row, current_row, goes_to}
use Rattle.sbp_world.proofs.Wire.Effects.{AreEffectSides, IsEffectSide}
use Rattle.sbp_world.proofs.Wire.OwnActs.{AreStepSides, IsStepSide, acts}
use Rattle.sbp_world.proofs.Wire.OwnTells as own

-- ---- what is refused
-- the FIFO at the offset is that of a login, and closed; or the bytes are no status block
pub data IsBarred (past : List Moment) (i : ℕ) (access : Access) : Type 0 where
  at_closed : is_closed (fifo_at (host_at past i).logins (is_out (host_at past i).session) access.offset) ≡ true → IsBarred past i access
  of_none : is_read (status_in access.payload) ≡ false → IsBarred past i access

data BarredBy (s : InitiatorState) (access : Access) : Type 0 where
  by_closed : is_closed (fifo_for access s) ≡ true → BarredBy s access
  by_none : is_read (status_in access.payload) ≡ false → BarredBy s access

out_same : (seat : Seat) → is_out (session_in seat) ≡ is_out_seat seat
out_same (seats.Out out) = refl
out_same (seats.Entering entering) = refl
out_same (seats.Live live) = refl
out_same (seats.Held response) = refl
out_same (seats.Returning response) = refl
out_same (seats.Leaving response) = refl
out_same (seats.Stuck origin) = refl

barred_by : (ready : Bool) (past : List Moment) (i : ℕ) (s : InitiatorState) → Cored ready past i s → (access : Access) → BarredBy s access → IsBarred past i access
barred_by ready past i s c access (by_none e) = of_none e
barred_by ready past i s c access (by_closed e) =
    let logins : (host_at past i).logins ≡ s.counts.logins = ap (λ (x : Core). x.logins) c.core in
    let out : is_out (host_at past i).session ≡ is_out_seat s.seat = ap (λ (x : Core). is_out x.session) c.core ∙ out_same s.seat in
    at_closed (ap (λ n. is_closed (fifo_at n (is_out (host_at past i).session) access.offset)) logins ∙ (ap (λ b. is_closed (fifo_at s.counts.logins b access.offset)) out ∙ e))

-- ---- by the rows of a request
data Refused (a b d : Bool) : Type 0 where
  of_source : a ≡ true → Refused a b d
  of_closed : b ≡ true → Refused a b d
  of_read : d ≡ true → Refused a b d

refused_row : (a b c d e : Bool) (cause : Cause) → is_refused cause ≡ true → note_of (first_or serving ((a, ignored_as causes.Source 7) ∷ (b, ignored_as causes.Login 7) ∷ (c, telling) ∷ (d, ignored_as causes.Grammar 5) ∷ (e, ignored_as causes.Slot 0) ∷ [])) ≡ judgements.Ignored cause → Refused a b d
refused_row true b c d e cause r f = of_source refl
refused_row false true c d e cause r f = of_closed refl
refused_row false false true d e cause r f = absurd (let no : judgements.Got ≡ judgements.Ignored cause = f in cc)
refused_row false false false true e cause r f = of_read refl
refused_row false false false false true cause r f = absurd (false≢true (ap is_refused (let same : causes.Slot ≡ cause = cc in same) ∙ r))
refused_row false false false false false cause r f = absurd (let no : judgements.Got ≡ judgements.Ignored cause = f in cc)

closed_part : (writes closed : Bool) → false || (writes && closed) ≡ true → closed ≡ true
closed_part writes closed e = and_second writes closed e

unread : (read : Bool) → not read ≡ true → read ≡ false
unread true e = absurd (false≢true e)
unread false e = refl

access_barred : (access : Access) (source : ℕ) (s : InitiatorState) (cause : Cause) → is_refused cause ≡ true → source ≡ s.target → note_of (judging_by (Some access) source s) ≡ judgements.Ignored cause → BarredBy s access
access_barred access source s cause r of_it e = by (refused_row (f.to_initiator && not f.reads_rom && not f.of_target) (f.of_other_login || f.to_closed_fifo) (f.is_status && f.is_unsolicited) (f.is_status && not f.is_read) (f.is_status && not f.is_awaited) cause r e)
  where
    f : RequestFacts
    f = facts_at (fifo_for access s) access source s

    by : Refused (f.to_initiator && not f.reads_rom && not f.of_target) (f.of_other_login || f.to_closed_fifo) (f.is_status && not f.is_read) → BarredBy s access
    by (of_source g) = absurd (no_source f.reads_rom f.of_target (let same : f.of_target ≡ true = grind (arith, nat_tests, of_it) in same) g)
      where
        no_source : (rom target : Bool) → target ≡ true → true && not rom && not target ≡ true → ⊥
        no_source true target h g = false≢true g
        no_source false true h g = false≢true g
        no_source false false h g = false≢true h
    by (of_closed g) = by_closed (closed_part (not access.is_lock && access.is_write) (is_closed (fifo_for access s)) g)
    by (of_read g) = by_none (unread (is_read (status_in access.payload)) (and_second f.is_status (not f.is_read) g))

module _ (generation : ℕ) (bytes : List ℕ) (s : InitiatorState) (p : Packet) (read : reading bytes ≡ Ok p) (access : Access) (asks : access_of p ≡ Some access) (source : generation ≡ s.layer.generation → (header_in p).source ≡ s.target) (goes : generation ≡ s.layer.generation → (header_in p).destination ≡ s.layer.node) where
  of_row : (row : Row) → row_of (facts_of s.layer generation bytes) ≡ row → (cause : Cause) → is_refused cause ≡ true → note_by row (reading bytes) s ≡ judgements.Ignored cause → BarredBy s access
  of_row by_generation e cause r n = absurd (false≢true (ap is_refused (let same : causes.Generation ≡ cause = cc in same) ∙ r))
  of_row by_label e cause r n = absurd (false≢true (ap is_refused (let same : causes.Label ≡ cause = cc in same) ∙ r))
  of_row by_again e cause r n = absurd (false≢true (ap is_refused (let same : causes.Again ≡ cause = cc in same) ∙ r))
  of_row by_response e cause r n = absurd (let no : judgements.Got ≡ judgements.Ignored cause = n in cc)
  of_row by_grammar e cause r n =
      let f = facts_in s.layer generation bytes (Ok p) in
      let row = grammar_row f.is_current f.is_for_node f.is_response f.is_awaited f.is_repeated (sym (ap (λ x. row_of (facts_in s.layer generation bytes x)) read) ∙ e) in
      let current : generation ≡ s.layer.generation = (let c : (generation == s.layer.generation) ≡ true = row.0 in grind (arith, nat_tests)) in
      let there = goes current in
      absurd (false≢true (sym row.1 ∙ (let z : ((header_in p).destination == s.layer.node) ≡ true = grind (arith, nat_tests, there) in z)))
  of_row by_request e cause r n =
      let f = facts_in s.layer generation bytes (Ok p) in
      let current : generation ≡ s.layer.generation = (let c : (generation == s.layer.generation) ≡ true = current_row f.is_current f.is_for_node f.is_response f.is_awaited f.is_repeated (sym (ap (λ x. row_of (facts_in s.layer generation bytes x)) read) ∙ e) in grind (arith, nat_tests)) in
      access_barred access (header_in p).source s cause r (source current)
      (ap (λ o. note_of (judging_by o (header_in p).source s)) (sym asks) ∙ (sym (ap (λ x. note_by by_request x s) read) ∙ n))

  refused_barred : (cause : Cause) → is_refused cause ≡ true → (receive_step generation bytes empty_outbox s).0 ≡ judgements.Ignored cause → BarredBy s access
  refused_barred cause r e = of_row (row_of (facts_of s.layer generation bytes)) refl cause r (sym (judging_law.noted generation bytes empty_outbox s) ∙ e)

-- ---- a history
abbrev pub Bars : List Moment → (i serial : ℕ) → Cause → Type 0
Bars past i serial cause = is_refused cause ≡ true → (packet : Sending) → (terms past).sent serial ≡ Some packet → packet.to ≡ suc i → packet.from ≡ 0 → packet.injected ≡ false → (p : Packet) → reading packet.bytes ≡ Ok p → (access : Access) → access_of p ≡ Some access → IsBarred past i access

abbrev pub AllBarred : List Moment → ℕ → Type 0
AllBarred [] i = Unit {0}
AllBarred (said (notes.Ignored serial cause) ∷ past) i = Bars past i serial cause × AllBarred past i
AllBarred (_ ∷ past) i = AllBarred past i

pub barred_there : (later past : List Moment) (i serial : ℕ) (cause : Cause) → AllBarred (later ++ said (notes.Ignored serial cause) ∷ past) i → Bars past i serial cause
barred_there [] past i serial cause h = h.0
barred_there (said (notes.Ignored other reason) ∷ later) past i serial cause h = barred_there later past i serial cause h.1
barred_there (said note ∷ later) past i serial cause h = barred_there later past i serial cause h
barred_there (asked line event ∷ later) past i serial cause h = barred_there later past i serial cause h

-- ---- one more note
quiet_bars : (note : Note) (past : List Moment) (i : ℕ) → ((serial : ℕ) (cause : Cause) → note ≡ notes.Ignored serial cause → ⊥) → AllBarred past i → AllBarred (said note ∷ past) i
quiet_bars (notes.Ignored serial cause) past i e h = absurd (e serial cause refl)
quiet_bars note past i e h = h

effect_not : (note : Note) → is_effect note ≡ true → (serial : ℕ) (cause : Cause) → note ≡ notes.Ignored serial cause → ⊥
effect_not note e serial cause is = false≢true (subst (λ n. is_effect n ≡ true) is e)

step_not : (note : Note) → is_step note ≡ true → (serial : ℕ) (cause : Cause) → note ≡ notes.Ignored serial cause → ⊥
step_not note e serial cause is = false≢true (subst (λ n. is_step n ≡ true) is e)

apart_bars : (note : Note) (past : List Moment) (i : ℕ) → IsElsewhere past i note → AllBarred past i → AllBarred (said note ∷ past) i
apart_bars (notes.Ignored serial cause) past i away h = ((λ refusal packet was to. absurd (not_there packet.to i (away packet was) to)), h)
apart_bars note past i away h = h

one_effect : (side : Side) (past : List Moment) (i : ℕ) → IsEffectSide side → AllBarred past i → AllBarred (by_side side past) i
one_effect (sides.Own note) past i e h = quiet_bars note past i (effect_not note e) h
one_effect side past i e h = h

effects_bar : (told : List Side) (past : List Moment) (i : ℕ) → AreEffectSides told → AllBarred past i → AllBarred (behind told past) i
effects_bar [] past i e h = h
effects_bar (side ∷ told) past i e h = effects_bar told (by_side side past) i e.1 (one_effect side past i e.0 h)

one_step : (side : Side) (past : List Moment) (i : ℕ) → IsStepSide side → AllBarred past i → AllBarred (by_side side past) i
one_step (sides.Own note) past i e h = quiet_bars note past i (step_not note e) h
one_step side past i e h = h

steps_bar : (told : List Side) (past : List Moment) (i : ℕ) → AreStepSides told → AllBarred past i → AllBarred (behind told past) i
steps_bar [] past i e h = h
steps_bar (side ∷ told) past i e h = steps_bar told (by_side side past) i e.1 (one_step side past i e.0 h)

heard_bars : (ready : Bool) (serial generation : ℕ) (bytes : List ℕ) (past : List Moment) (i : ℕ) (s : InitiatorState) → Cored ready past i s → IsHeard past i serial generation bytes → IsShown past i s.target s.layer → AllBarred past i → AllBarred (said (judged_note serial (receive_step generation bytes empty_outbox s).0) ∷ past) i
heard_bars ready serial generation bytes past i s c heard shown h = by_judged (receive_step generation bytes empty_outbox s).0 refl
  where
    same_bytes : (packet : Sending) → (terms past).sent serial ≡ Some packet → bytes ≡ packet.bytes
    same_bytes packet was = sym heard.bytes_are ∙ sym (some_bytes ((terms past).sent serial) packet heard.packet was heard.sent)

    bars : (cause : Cause) → (receive_step generation bytes empty_outbox s).0 ≡ judgements.Ignored cause → Bars past i serial cause
    bars cause e refuses packet was to from unforged p read access asks =
        let one : heard.packet ≡ packet = (let both = sym heard.sent ∙ was in cc) in
        let spelled : reading heard.packet.bytes ≡ Ok p = ap (λ (q : Sending). reading q.bytes) one ∙ read in
        let sender : heard.packet.from ≡ 0 = ap (λ (q : Sending). q.from) one ∙ from in
        barred_by ready past i s c access
        (refused_barred generation bytes s p (ap reading (same_bytes packet was) ∙ read) access asks
        (λ current.
        let now : heard.packet.generation ≡ s.layer.generation = heard.generation_is ∙ current in
        heard.source p spelled ∙ (ap (λ g. (terms past).ids g heard.packet.from) now ∙ (ap ((terms past).ids s.layer.generation) sender ∙ shown.named)))
        (λ current.
        let now : heard.packet.generation ≡ s.layer.generation = heard.generation_is ∙ current in
        goes_to heard.packet.bytes p ((terms past).ids heard.packet.generation heard.packet.to) spelled (heard.goes (ap (λ (q : Sending). q.injected) one ∙ unforged))
        ∙ (ap (λ g. (terms past).ids g heard.packet.to) now ∙ (ap ((terms past).ids s.layer.generation) heard.to_is ∙ shown.own)))
        cause refuses e)

    by_judged : (judged : Judged) → (receive_step generation bytes empty_outbox s).0 ≡ judged → AllBarred (said (judged_note serial judged) ∷ past) i
    by_judged judgements.Got e = h
    by_judged (judgements.Ignored cause) e = (bars cause e, h)

-- ---- what the lines of a run carry on
record Barred (ready : Bool) (past : List Moment) (i : ℕ) (s : InitiatorState) : Type 0 where
  cored : Cored ready past i s
  bars : AllBarred past i

module _ (ready : Bool) where
  tells_on : (past : List Moment) (i : ℕ) (t : Turn) → AreEffectSides t.0.sides → Tells (Cored ready) past i t → AllBarred past i → Tells (Barred ready) past i t
  tells_on past i t e cored h = record {
    own = record { cored = cored.own; bars = effects_bar t.0.sides past i e h };
    others = λ j x f k. record { cored = cored.others j x f k.cored; bars = effects_bar t.0.sides past j e k.bars };
  }

  does_on : (past : List Moment) (i : ℕ) (t : Turn) → AreStepSides t.0.sides → Does (Cored ready) past i t → AllBarred past i → Does (Barred ready) past i t
  does_on past i t e d h = record {
    others = λ j x f k. record { cored = d.others j x f k.cored; bars = steps_bar t.0.sides past j e k.bars };
    quiet = λ silent. record { cored = d.quiet silent; bars = steps_bar t.0.sides past i e h };
    asking = λ packet one serial generation f q. record { cored = d.asking packet one serial generation f q; bars = steps_bar t.0.sides past i e h };
  }

  barred_carried : Carries Nothing (Barred ready)
  barred_carried =
      let c = cored_carried ready in
      record {
        known = λ line event past i s r. tt;
        number = λ past i s h. c.number past i s h.cored;
        asked = λ line event past i s h. record { cored = c.asked line event past i s h.cored; bars = h.bars };
        apart = λ note past i s e away h. record { cored = c.apart note past i s e away h.cored; bars = apart_bars note past i away h.bars };
        sent = λ serial generation from to bytes past i s n h. record { cored = c.sent serial generation from to bytes past i s n h.cored; bars = h.bars };
        hears = λ serial generation bytes past i s heard shown after h.
            tells_on (said (judged_note serial (receive_step generation bytes empty_outbox s).0) ∷ past) i (receive_step generation bytes empty_outbox s).1 (own.receives generation bytes empty_outbox s tt)
            (c.hears serial generation bytes past i s heard shown after h.cored) (heard_bars ready serial generation bytes past i s h.cored heard shown h.bars);
        expires = λ serial label past i s shown h.
            tells_on (said (notes.TimedOut serial) ∷ past) i (expire_step label empty_outbox s).1 (own.expires label empty_outbox s tt) (c.expires serial label past i s shown h.cored) h.bars;
        stale = λ label past i s e h. record { cored = c.stale label past i s e h.cored; bars = h.bars };
        sees = λ generation id target past i s e h.
            tells_on (said (notes.Seen (suc i) generation) ∷ past) i (see_step generation id target empty_outbox s) (own.sees generation id target empty_outbox s tt)
            (c.sees generation id target past i s e h.cored) h.bars;
        acts = λ action past i s line fit d shown known h.
            does_on past i (act_step action empty_outbox s).1 (acts action empty_outbox s tt) (c.acts action past i s line fit d shown tt h.cored) h.bars;
      }

first_barred : (line i initiators : ℕ) (ready : Bool) → i < initiators → Barred ready (said (notes.Begin initiators ready) ∷ asked line (events.Begin initiators ready) ∷ []) i (new_state i ready)
first_barred line i initiators ready b = record { cored = first_cored line i initiators ready b; bars = tt }

pub bars_of : (line : ℕ) (run : Run) → IsRun run → (i : ℕ) → i < run.initiators → AllBarred (history_of line run) i
bars_of line run q i b =
    (of_runs (Barred run.ready) (barred_carried run.ready) line run (λ entries few short all fit j c. tt) (λ j c. first_barred line j run.initiators run.ready c) q i b).bars

pub bars_between : (line : ℕ) (run : Run) (q : IsRun run) (next : ℕ) (event : Event) (told : List (Option Told)) → IsDelivering event told → MayAll told (begun (after (beginning run) run.entries)) → (i : ℕ) → i < run.initiators → AllBarred (between line run q next event told) i
bars_between line run q next event told d m i b =
    (carried_there line run q next (Barred run.ready) (by_more (barred_carried run.ready)) (λ entries few short all fit j c. tt) (λ j c. first_barred line j run.initiators run.ready c) i b event told d m).bars
