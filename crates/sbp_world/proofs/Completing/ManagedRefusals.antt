-- In every run an initiator refuses no status block of the target that can be read, but for one to a FIFO that is closed: that of a login number which is not its latest one, or of a session that is out.
use Rattle.sbp_world.proofs.Words.Std.{arith, ◌≡◌, refl, sym, ◌∙◌, ap, subst, ℕ, suc, ◌<◌, ◌==◌, ◌&&◌, ◌||◌, not, Bool, true, false, List, [], ◌∷◌, Option, Some, None, Ok, nat_tests, false≢true}
use Rattle.sbp_world.proofs.Words.Wire.{Packet, header_in, reading, Row, by_again, by_generation, by_grammar, by_label, by_request, by_response, row_of, facts_of, Access, access_of, empty_outbox, first_or, ignored_as, serving, telling, Moment, asked, said, Sending, terms, Cause, Judged, Note, Side, judged_note}
use Rattle.sbp_world.proofs.Words.Initiator.{InitiatorState, Turn, act_step, expire_step, facts_at, fifo_at, fifo_for, is_out_seat, is_step, judging_by, new_state, note_by, note_of, receive_step, see_step, status_in}
use Rattle.sbp_world.proofs.Words.Laws.{is_effect}
use Rattle.sbp_world.proofs.Words.World.{Core, after, beginning, behind}
use Rattle.initiator_base.specs.declared.fifos.Fifo.{Fifo}
use Rattle.initiator_base.specs.declared.fifos.Fifo.TheVariants as fifos
use Rattle.label_table.specs.Layer.{facts_in}
use Rattle.sbp_initiator.specs.Histories.Judging.{is_closed, is_read}
use Rattle.sbp_journal.specs.Rows.{RequestFacts}
use Rattle.sbp_journal.specs.declared.cause.Cause.TheVariants as causes
use Rattle.sbp_journal.specs.declared.cause.Judged.TheVariants as judgements
use Rattle.sbp_journal.specs.declared.event.Event.TheVariants as events
use Rattle.sbp_journal.specs.declared.note.Note.TheVariants as notes
use Rattle.sbp_journal.specs.declared.side.Side.TheVariants as sides
use Rattle.sbp_initiator.proofs.Histories.Judging.{judging_law}
use Rattle.sbp_world.specs.Completing.ManagedRefusals.{AllHard, HardSo, RefusalsLaw, is_hard}
use Rattle.sbp_world.specs.Hosts.Calls.{by_side}
use Rattle.sbp_world.proofs.Common.{untrue}
use Rattle.sbp_world.proofs.Hosts.Carried.{between_runs, of_runs}
use Rattle.sbp_world.proofs.Hosts.Carries.{Carries, Does, Nothing, Tells}
use Rattle.sbp_world.proofs.Hosts.Hosted.{Cored, cored_carried, first_cored}
use Rattle.sbp_world.proofs.Hosts.Runs.{count_after, count_between}
use Rattle.sbp_world.proofs.Hosts.Shown.{IsElsewhere, IsHeard, IsShown}
use Rattle.sbp_world.proofs.Hosts.SlotIgnored.{not_there, some_bytes, grammar_row, current_row, goes_to}
use Rattle.sbp_world.proofs.Wire.Effects.{AreEffectSides, IsEffectSide}
use Rattle.sbp_world.proofs.Wire.OwnActs.{AreStepSides, IsStepSide, acts}
use Rattle.sbp_world.proofs.Wire.OwnTells as own

-- ---- by the rows of a request
data Refused (a b d e : Bool) (cause : Cause) : Type 0 where
  of_source : a ≡ true → Refused a b d e cause
  of_closed : b ≡ true → Refused a b d e cause
  of_read : d ≡ true → Refused a b d e cause
  of_awaited : cause ≡ causes.Slot → Refused a b d e cause

refused_row : (a b c d e : Bool) (cause : Cause) → note_of (first_or serving ((a, ignored_as causes.Source 7) ∷ (b, ignored_as causes.Login 7) ∷ (c, telling) ∷ (d, ignored_as causes.Grammar 5) ∷ (e, ignored_as causes.Slot 0) ∷ [])) ≡ judgements.Ignored cause → Refused a b d e cause
refused_row true b c d e cause f = of_source refl
refused_row false true c d e cause f = of_closed refl
refused_row false false true d e cause f = absurd (let no : judgements.Got ≡ judgements.Ignored cause = f in cc)
refused_row false false false true e cause f = of_read refl
refused_row false false false false true cause f = of_awaited (let same : causes.Slot ≡ cause = cc in sym same)
refused_row false false false false false cause f = absurd (let no : judgements.Got ≡ judgements.Ignored cause = f in cc)

second : (a b : Bool) → a && b ≡ true → b ≡ true
second true b e = e
second false b e = untrue e

closed_is : (found : Option Fifo) → is_closed found ≡ true → found ≡ Some fifos.Closed
closed_is (Some fifos.Closed) e = refl
closed_is (Some fifos.Login) e = untrue e
closed_is (Some fifos.Place) e = untrue e
closed_is None e = untrue e

access_shut : (access : Access) (source : ℕ) (s : InitiatorState) (cause : Cause) → source ≡ s.target → is_hard cause ≡ true → is_read (status_in access.payload) ≡ true → note_of (judging_by (Some access) source s) ≡ judgements.Ignored cause → fifo_for access s ≡ Some fifos.Closed
access_shut access source s cause of_it hard read e = by (refused_row (f.to_initiator && not f.reads_rom && not f.of_target) (f.of_other_login || f.to_closed_fifo) (f.is_status && f.is_unsolicited) (f.is_status && not f.is_read) (f.is_status && not f.is_awaited) cause e)
  where
    found : Option Fifo
    found = fifo_for access s

    f : RequestFacts
    f = facts_at found access source s

    by : Refused (f.to_initiator && not f.reads_rom && not f.of_target) (f.of_other_login || f.to_closed_fifo) (f.is_status && not f.is_read) (f.is_status && not f.is_awaited) cause → found ≡ Some fifos.Closed
    by (of_source g) = absurd (no_source f.reads_rom f.of_target (let same : f.of_target ≡ true = grind (arith, nat_tests, of_it) in same) g)
      where
        no_source : (rom target : Bool) → target ≡ true → true && not rom && not target ≡ true → ⊥
        no_source true target h g = false≢true g
        no_source false true h g = false≢true g
        no_source false false h g = false≢true h
    by (of_closed g) = closed_is found (second (not access.is_lock && access.is_write) (is_closed found) g)
    by (of_read g) = let n : not f.is_read ≡ true = second f.is_status (not f.is_read) g in untrue (sym (ap not read) ∙ n)
    by (of_awaited g) = untrue (sym (ap is_hard g) ∙ hard)

module _ (generation : ℕ) (bytes : List ℕ) (s : InitiatorState) (p : Packet) (read : reading bytes ≡ Ok p) (access : Access) (asks : access_of p ≡ Some access) (source : generation ≡ s.layer.generation → (header_in p).source ≡ s.target) (goes : generation ≡ s.layer.generation → (header_in p).destination ≡ s.layer.node) where
  of_row : (row : Row) → row_of (facts_of s.layer generation bytes) ≡ row → (cause : Cause) → is_hard cause ≡ true → is_read (status_in access.payload) ≡ true → note_by row (reading bytes) s ≡ judgements.Ignored cause → fifo_for access s ≡ Some fifos.Closed
  of_row by_generation e cause r readable n = absurd (false≢true (ap is_hard (let same : causes.Generation ≡ cause = cc in same) ∙ r))
  of_row by_label e cause r readable n = absurd (false≢true (ap is_hard (let same : causes.Label ≡ cause = cc in same) ∙ r))
  of_row by_again e cause r readable n = absurd (false≢true (ap is_hard (let same : causes.Again ≡ cause = cc in same) ∙ r))
  of_row by_response e cause r readable n = absurd (let no : judgements.Got ≡ judgements.Ignored cause = n in cc)
  of_row by_grammar e cause r readable n =
      let f = facts_in s.layer generation bytes (Ok p) in
      let row = grammar_row f.is_current f.is_for_node f.is_response f.is_awaited f.is_repeated (sym (ap (λ x. row_of (facts_in s.layer generation bytes x)) read) ∙ e) in
      let current : generation ≡ s.layer.generation = (let c : (generation == s.layer.generation) ≡ true = row.0 in grind (arith, nat_tests)) in
      let there = goes current in
      absurd (false≢true (sym row.1 ∙ (let z : ((header_in p).destination == s.layer.node) ≡ true = grind (arith, nat_tests, there) in z)))
  of_row by_request e cause r readable n =
      let f = facts_in s.layer generation bytes (Ok p) in
      let current : generation ≡ s.layer.generation = (let c : (generation == s.layer.generation) ≡ true = current_row f.is_current f.is_for_node f.is_response f.is_awaited f.is_repeated (sym (ap (λ x. row_of (facts_in s.layer generation bytes x)) read) ∙ e) in grind (arith, nat_tests)) in
      access_shut access (header_in p).source s cause (source current) r readable
      (ap (λ o. note_of (judging_by o (header_in p).source s)) (sym asks) ∙ (sym (ap (λ x. note_by by_request x s) read) ∙ n))

  refused_shut : (cause : Cause) → is_hard cause ≡ true → is_read (status_in access.payload) ≡ true → (receive_step generation bytes empty_outbox s).0 ≡ judgements.Ignored cause → fifo_for access s ≡ Some fifos.Closed
  refused_shut cause r readable e = of_row (row_of (facts_of s.layer generation bytes)) refl cause r readable (sym (judging_law.noted generation bytes empty_outbox s) ∙ e)

-- ---- one more note
abbrev is_ignored : Note → Bool
is_ignored (notes.Ignored serial cause) = true
is_ignored _ = false

quiet_on : (note : Note) (past : List Moment) (i : ℕ) → is_ignored note ≡ false → AllHard past i → AllHard (said note ∷ past) i
quiet_on (notes.Ignored serial cause) past i e h = untrue (sym e)
quiet_on note past i e h = (tt, h)

effect_quiet : (note : Note) → is_effect note ≡ true → is_ignored note ≡ false
effect_quiet (notes.Ignored serial cause) e = untrue e
effect_quiet note e = refl

step_quiet : (note : Note) → is_step note ≡ true → is_ignored note ≡ false
step_quiet (notes.Ignored serial cause) e = untrue e
step_quiet note e = refl

away_on : (note : Note) (past : List Moment) (i : ℕ) → IsElsewhere past i note → AllHard past i → AllHard (said note ∷ past) i
away_on (notes.Ignored serial cause) past i away h = (λ hard packet was to. absurd (not_there packet.to i (away packet was) to), h)
away_on note past i away h = (tt, h)

one_effect : (side : Side) (past : List Moment) (i : ℕ) → IsEffectSide side → AllHard past i → AllHard (by_side side past) i
one_effect (sides.Own note) past i e h = quiet_on note past i (effect_quiet note e) h
one_effect side past i e h = h

effects_on : (told : List Side) (past : List Moment) (i : ℕ) → AreEffectSides told → AllHard past i → AllHard (behind told past) i
effects_on [] past i e h = h
effects_on (side ∷ told) past i e h = effects_on told (by_side side past) i e.1 (one_effect side past i e.0 h)

one_step : (side : Side) (past : List Moment) (i : ℕ) → IsStepSide side → AllHard past i → AllHard (by_side side past) i
one_step (sides.Own note) past i e h = quiet_on note past i (step_quiet note e) h
one_step side past i e h = h

steps_on : (told : List Side) (past : List Moment) (i : ℕ) → AreStepSides told → AllHard past i → AllHard (behind told past) i
steps_on [] past i e h = h
steps_on (side ∷ told) past i e h = steps_on told (by_side side past) i e.1 (one_step side past i e.0 h)

-- ---- a packet that is heard
module _ {ready : Bool} (serial generation : ℕ) (bytes : List ℕ) (past : List Moment) (i : ℕ) (s : InitiatorState) (heard : IsHeard past i serial generation bytes) (shown : IsShown past i s.target s.layer) (cored : Cored ready past i s) (h : AllHard past i) where
  hard_now : (cause : Cause) → (receive_step generation bytes empty_outbox s).0 ≡ judgements.Ignored cause → HardSo i (said (notes.Ignored serial cause)) past
  hard_now cause e hard packet was to from unforged p read access asks readable =
      let one : heard.packet ≡ packet = (let both = sym heard.sent ∙ was in cc) in
      let spelled : reading heard.packet.bytes ≡ Ok p = ap (λ (q : Sending). reading q.bytes) one ∙ read in
      let sender : heard.packet.from ≡ 0 = ap (λ (q : Sending). q.from) one ∙ from in
      let same : bytes ≡ packet.bytes = sym heard.bytes_are ∙ sym (some_bytes ((terms past).sent serial) packet heard.packet was heard.sent) in
      let shut = refused_shut generation bytes s p (ap reading same ∙ read) access asks
      (λ current.
      let now : heard.packet.generation ≡ s.layer.generation = heard.generation_is ∙ current in
      heard.source p spelled ∙ (ap (λ g. (terms past).ids g heard.packet.from) now ∙ (ap ((terms past).ids s.layer.generation) sender ∙ shown.named)))
      (λ current.
      let now : heard.packet.generation ≡ s.layer.generation = heard.generation_is ∙ current in
      goes_to heard.packet.bytes p ((terms past).ids heard.packet.generation heard.packet.to) spelled (heard.goes (ap (λ (q : Sending). q.injected) one ∙ unforged))
      ∙ (ap (λ g. (terms past).ids g heard.packet.to) now ∙ (ap ((terms past).ids s.layer.generation) heard.to_is ∙ shown.own)))
      cause hard readable e in
      record {
        seat = s.seat;
        session = sym (ap (λ (x : Core). x.session) cored.core);
        closed = ap (λ n. fifo_at n (is_out_seat s.seat) access.offset) (ap (λ (x : Core). x.logins) cored.core) ∙ shut;
      }

  heard_on : AllHard (said (judged_note serial (receive_step generation bytes empty_outbox s).0) ∷ past) i
  heard_on = by_judged (receive_step generation bytes empty_outbox s).0 refl
    where
      by_judged : (judged : Judged) → (receive_step generation bytes empty_outbox s).0 ≡ judged → AllHard (said (judged_note serial judged) ∷ past) i
      by_judged judgements.Got e = (tt, h)
      by_judged (judgements.Ignored cause) e = (hard_now cause e, h)

-- ---- in every run
record Refusing (ready : Bool) (past : List Moment) (i : ℕ) (s : InitiatorState) : Type 0 where
  cored : Cored ready past i s
  all : AllHard past i

tells_on : (ready : Bool) (past : List Moment) (i : ℕ) (t : Turn) → AreEffectSides t.0.sides → Tells (Cored ready) past i t → AllHard past i → Tells (Refusing ready) past i t
tells_on ready past i t e k h = record {
  own = record { cored = k.own; all = effects_on t.0.sides past i e h };
  others = λ j x f m. record { cored = k.others j x f m.cored; all = effects_on t.0.sides past j e m.all };
}

does_on : (ready : Bool) (past : List Moment) (i : ℕ) (t : Turn) → AreStepSides t.0.sides → Does (Cored ready) past i t → AllHard past i → Does (Refusing ready) past i t
does_on ready past i t e d h = record {
  others = λ j x f m. record { cored = d.others j x f m.cored; all = steps_on t.0.sides past j e m.all };
  quiet = λ silent. record { cored = d.quiet silent; all = steps_on t.0.sides past i e h };
  asking = λ packet one serial generation f q. record { cored = d.asking packet one serial generation f q; all = (tt, steps_on t.0.sides past i e h) };
}

refusing_carried : (ready : Bool) → Carries Nothing (Refusing ready)
refusing_carried ready =
    let k = cored_carried ready in
    record {
      known = k.known;
      number = λ past i s h. h.cored.own.number;
      asked = λ line event past i s h. record { cored = k.asked line event past i s h.cored; all = (tt, h.all) };
      apart = λ note past i s e away h. record { cored = k.apart note past i s e away h.cored; all = away_on note past i away h.all };
      sent = λ serial generation from to bytes past i s n h. record { cored = k.sent serial generation from to bytes past i s n h.cored; all = (tt, h.all) };
      hears = λ serial generation bytes past i s heard shown after h.
          tells_on ready (said (judged_note serial (receive_step generation bytes empty_outbox s).0) ∷ past) i (receive_step generation bytes empty_outbox s).1 (own.receives generation bytes empty_outbox s tt)
          (k.hears serial generation bytes past i s heard shown after h.cored) (heard_on serial generation bytes past i s heard shown h.cored h.all);
      expires = λ serial label past i s shown h.
          tells_on ready (said (notes.TimedOut serial) ∷ past) i (expire_step label empty_outbox s).1 (own.expires label empty_outbox s tt) (k.expires serial label past i s shown h.cored) (tt, h.all);
      stale = λ label past i s e h. record { cored = k.stale label past i s e h.cored; all = h.all };
      sees = λ generation id target past i s e h.
          tells_on ready (said (notes.Seen (suc i) generation) ∷ past) i (see_step generation id target empty_outbox s) (own.sees generation id target empty_outbox s tt) (k.sees generation id target past i s e h.cored) (tt, h.all);
      acts = λ action past i s line fit d shown known h.
          does_on ready past i (act_step action empty_outbox s).1 (acts action empty_outbox s tt) (k.acts action past i s line fit d shown known h.cored) h.all;
    }

first_refusing : (line i initiators : ℕ) (ready : Bool) → i < initiators → Refusing ready (said (notes.Begin initiators ready) ∷ asked line (events.Begin initiators ready) ∷ []) i (new_state i ready)
first_refusing line i initiators ready b = record { cored = first_cored line i initiators ready b; all = (tt, (tt, tt)) }

pub refusals_law : RefusalsLaw
refusals_law = record {
  after_lines = λ line run r has small size i b.
      (of_runs (Refusing run.ready) (refusing_carried run.ready) line run (λ entries few short all fit j c. tt) (λ j c. first_refusing line j run.initiators run.ready c) r i (subst (λ n. i < n) (count_after run run.entries) b)).all;
  between = λ line run r has small size next most told m i b.
      (between_runs (Refusing run.ready) (refusing_carried run.ready) line run (λ entries few short all fit j c. tt) (λ j c. first_refusing line j run.initiators run.ready c) r next most told m i
      (subst (λ n. i < n) (count_between told (after (beginning run) run.entries) ∙ count_after run run.entries) b)).all;
}
