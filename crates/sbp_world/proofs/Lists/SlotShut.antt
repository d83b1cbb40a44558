-- In every run what an initiator ignores for its slot is written to an open FIFO, which stands behind all its response buffers and data buffers.
use Rattle.sbp_world.proofs.Words.Std.{arith, ◌≡◌, refl, sym, ◌∙◌, ap, ℕ, suc, ◌<◌, ◌≤◌, ◌==◌, ◌&&◌, ◌||◌, not, Bool, true, false, cond, List, [], ◌∷◌, ◌++◌, Option, Some, None, Result, Ok, Err, nat_tests}
use Rattle.sbp_world.proofs.Words.Wire.{Packet, header_in, reading, PacketFault, Row, by_again, by_generation, by_grammar, by_label, by_request, by_response, row_of, facts_of, Access, access_of, empty_outbox, Moment, asked, said, Sending, terms, Judged, Event, Note, Side, judged_note}
use Rattle.sbp_world.proofs.Words.Target.{Told}
use Rattle.sbp_world.proofs.Words.Initiator.{fifo_at, is_login_fifo, is_open_login, place_fifo, InitiatorState, act_step, Turn, new_state, expire_step, receive_step, see_step, is_step, is_out_seat, facts_at, fifo_for, is_open, judging_by, note_by, note_of}
use Rattle.sbp_world.proofs.Words.Laws.{is_effect}
use Rattle.sbp_world.proofs.Words.World.{history_of, Run, after, beginning, MayAll, begun, IsDelivering, behind, IsRun}
use Rattle.initiator_base.specs.declared.fifos.Fifo.TheVariants as fifos
use Rattle.sbp_journal.specs.declared.cause.Cause.TheVariants as causes
use Rattle.sbp_journal.specs.declared.cause.Judged.TheVariants as judgements
use Rattle.sbp_journal.specs.declared.event.Event.TheVariants as events
use Rattle.sbp_journal.specs.declared.note.Note.TheVariants as notes
use Rattle.sbp_journal.specs.declared.side.Side.TheVariants as sides
use Rattle.sbp_world.proofs.Wire.Effects.{AreEffectSides, IsEffectSide}
use Rattle.sbp_world.proofs.Wire.OwnActs.{AreStepSides, IsStepSide, acts}
use Rattle.sbp_world.proofs.Wire.OwnTells as own
use Rattle.sbp_initiator.proofs.Histories.Judging.{judging_law}
use Rattle.sbp_world.specs.Hosts.Calls.{by_side}
use Rattle.sbp_world.proofs.Hosts.Between.{between, carried_there}
use Rattle.sbp_world.proofs.Hosts.Carried.{of_runs}
use Rattle.sbp_world.proofs.Hosts.Carries.{Carries, Does, Tells, by_more}
use Rattle.sbp_world.proofs.Hosts.MemoryRcodes.{and_true}
use Rattle.sbp_world.proofs.Hosts.OrbRuns.{Orbs, Rowed, first_orbs, orbs_carried, rows_known}
use Rattle.sbp_world.proofs.Hosts.Shown.{IsElsewhere, IsHeard}
use Rattle.sbp_world.proofs.Hosts.SlotIgnored.{last_row, not_there, some_bytes}

-- ---- an open FIFO stands behind the buffers
open_by : (a b c : Bool) (offset : ℕ) → (a ≡ true → 0x12002000 ≤ offset) → (b ≡ true → 0x12002000 ≤ offset) → is_open (cond a (Some fifos.Place) (cond b (Some fifos.Login) (cond c (Some fifos.Closed) None))) ≡ true → 0x12002000 ≤ offset
open_by true b c offset f g e = f refl
open_by false true c offset f g e = g refl
open_by false false true offset f g e = absurd (let no : false ≡ true = e in cc)
open_by false false false offset f g e = absurd (let no : false ≡ true = e in cc)

open_high : (logins : ℕ) (is_out : Bool) (offset : ℕ) → is_open (fifo_at logins is_out offset) ≡ true → 0x12002000 ≤ offset
unfolding fifo_at
open_high logins is_out offset e =
    open_by (offset == place_fifo 0 || offset == place_fifo 1) (is_open_login logins is_out offset) (is_login_fifo offset) offset
    (λ a. grind (arith, nat_tests)) (λ b. grind (arith, nat_tests)) e

abbrev IsApart : Access → Type 0
IsApart access = 0x12002000 ≤ access.offset

status_opens : (lock write block wide : Bool) → (not lock && write) && block && wide ≡ true → wide ≡ true
status_opens false true true true e = refl
status_opens true write block wide e = absurd (let no : false ≡ true = e in cc)
status_opens false false block wide e = absurd (let no : false ≡ true = e in cc)
status_opens false true false wide e = absurd (let no : false ≡ true = e in cc)
status_opens false true true false e = absurd (let no : false ≡ true = e in cc)

access_apart : (access : Access) (source : ℕ) (s : InitiatorState) → note_of (judging_by (Some access) source s) ≡ judgements.Ignored causes.Slot → IsApart access
access_apart access source s e =
    let f = facts_at (fifo_for access s) access source s in
    let last : (f.is_status && not f.is_awaited) ≡ true = last_row (f.to_initiator && not f.reads_rom && not f.of_target) (f.of_other_login || f.to_closed_fifo) (f.is_status && f.is_unsolicited) (f.is_status && not f.is_read) (f.is_status && not f.is_awaited) e in
    let opens = status_opens access.is_lock access.is_write access.is_block (is_open (fifo_for access s)) (and_true f.is_status (not f.is_awaited) last) in
    open_high s.counts.logins (is_out_seat s.seat) access.offset opens

abbrev IfRequest : Result Packet PacketFault → Type 0
IfRequest read = (p : Packet) → read ≡ Ok p → (access : Access) → access_of p ≡ Some access → IsApart access

by_row : (row : Row) (read : Result Packet PacketFault) (s : InitiatorState) → note_by row read s ≡ judgements.Ignored causes.Slot → IfRequest read
by_row by_generation read s e p is access asks = cc
by_row by_grammar read s e p is access asks = cc
by_row by_label read s e p is access asks = cc
by_row by_response read s e p is access asks = cc
by_row by_again read s e p is access asks = cc
by_row by_request (Err fault) s e p is access asks = cc
by_row by_request (Ok q) s e p is access asks =
    let same : q ≡ p = cc in
    let found : access_of q ≡ Some access = ap access_of same ∙ asks in
    access_apart access (header_in q).source s (ap (λ o. note_of (judging_by o (header_in q).source s)) (sym found) ∙ e)

slot_apart : (generation : ℕ) (bytes : List ℕ) (s : InitiatorState) → (receive_step generation bytes empty_outbox s).0 ≡ judgements.Ignored causes.Slot → IfRequest (reading bytes)
slot_apart generation bytes s e =
    by_row (row_of (facts_of s.layer generation bytes)) (reading bytes) s (sym (judging_law.noted generation bytes empty_outbox s) ∙ e)

-- ---- a history

-- the packet of a serial goes behind the buffers of the initiator
abbrev pub IsApartTo : List Moment → (i serial : ℕ) → Type 0
IsApartTo past i serial = (packet : Sending) → (terms past).sent serial ≡ Some packet → packet.to ≡ suc i → IfRequest (reading packet.bytes)

-- each one that was ignored for its slot
abbrev pub AllApart : List Moment → ℕ → Type 0
AllApart [] i = Unit {0}
AllApart (said (notes.Ignored serial cause) ∷ past) i = (cause ≡ causes.Slot → IsApartTo past i serial) × AllApart past i
AllApart (_ ∷ past) i = AllApart past i

pub apart_there : (later past : List Moment) (i serial : ℕ) → AllApart (later ++ said (notes.Ignored serial causes.Slot) ∷ past) i → IsApartTo past i serial
apart_there [] past i serial h = h.0 refl
apart_there (said (notes.Ignored other cause) ∷ later) past i serial h = apart_there later past i serial h.1
apart_there (said note ∷ later) past i serial h = apart_there later past i serial h
apart_there (asked line event ∷ later) past i serial h = apart_there later past i serial h

-- ---- one more note

abbrev is_ignored : Note → Bool
is_ignored (notes.Ignored serial cause) = true
is_ignored _ = false

quiet_apart : (note : Note) (past : List Moment) (i : ℕ) → is_ignored note ≡ false → AllApart past i → AllApart (said note ∷ past) i
quiet_apart (notes.Ignored serial cause) past i e h = absurd (let no : true ≡ false = e in cc)
quiet_apart note past i e h = h

effect_quiet : (note : Note) → is_effect note ≡ true → is_ignored note ≡ false
effect_quiet (notes.Ignored serial cause) e = absurd (let no : false ≡ true = e in cc)
effect_quiet note e = refl

step_quiet : (note : Note) → is_step note ≡ true → is_ignored note ≡ false
step_quiet (notes.Ignored serial cause) e = absurd (let no : false ≡ true = e in cc)
step_quiet note e = refl

-- a note of another one
away_apart : (note : Note) (past : List Moment) (i : ℕ) → IsElsewhere past i note → AllApart past i → AllApart (said note ∷ past) i
away_apart (notes.Ignored serial cause) past i away h = (λ slot packet was to. absurd (not_there packet.to i (away packet was) to), h)
away_apart note past i away h = h

-- what is told in a call
one_effect : (side : Side) (past : List Moment) (i : ℕ) → IsEffectSide side → AllApart past i → AllApart (by_side side past) i
one_effect (sides.Own note) past i e h = quiet_apart note past i (effect_quiet note e) h
one_effect side past i e h = h

effects_apart : (told : List Side) (past : List Moment) (i : ℕ) → AreEffectSides told → AllApart past i → AllApart (behind told past) i
effects_apart [] past i e h = h
effects_apart (side ∷ told) past i e h = effects_apart told (by_side side past) i e.1 (one_effect side past i e.0 h)

one_step : (side : Side) (past : List Moment) (i : ℕ) → IsStepSide side → AllApart past i → AllApart (by_side side past) i
one_step (sides.Own note) past i e h = quiet_apart note past i (step_quiet note e) h
one_step side past i e h = h

steps_apart : (told : List Side) (past : List Moment) (i : ℕ) → AreStepSides told → AllApart past i → AllApart (behind told past) i
steps_apart [] past i e h = h
steps_apart (side ∷ told) past i e h = steps_apart told (by_side side past) i e.1 (one_step side past i e.0 h)

-- ---- a packet that is heard

heard_apart : (serial generation : ℕ) (bytes : List ℕ) (past : List Moment) (i : ℕ) (s : InitiatorState) → IsHeard past i serial generation bytes → AllApart past i → AllApart (said (judged_note serial (receive_step generation bytes empty_outbox s).0) ∷ past) i
heard_apart serial generation bytes past i s heard h = by_judged (receive_step generation bytes empty_outbox s).0 refl
  where
    by_judged : (judged : Judged) → (receive_step generation bytes empty_outbox s).0 ≡ judged → AllApart (said (judged_note serial judged) ∷ past) i
    by_judged judgements.Got e = h
    by_judged (judgements.Ignored cause) e = (
      λ slot packet was to p read access asks.
          slot_apart generation bytes s (e ∙ ap (λ c. judgements.Ignored c) slot) p
          (ap reading (sym heard.bytes_are ∙ sym (some_bytes ((terms past).sent serial) packet heard.packet was heard.sent)) ∙ read) access asks,
      h,
    )

-- ---- in every run
record Shut (ready : Bool) (past : List Moment) (i : ℕ) (s : InitiatorState) : Type 0 where
  orbs : Orbs ready past i s
  apart : AllApart past i

module _ (ready : Bool) where
  tells_on : (past : List Moment) (i : ℕ) (t : Turn) → AreEffectSides t.0.sides → Tells (Orbs ready) past i t → AllApart past i → Tells (Shut ready) past i t
  tells_on past i t e orbs h = record {
    own = record { orbs = orbs.own; apart = effects_apart t.0.sides past i e h };
    others = λ j x f k. record { orbs = orbs.others j x f k.orbs; apart = effects_apart t.0.sides past j e k.apart };
  }

  does_on : (past : List Moment) (i : ℕ) (t : Turn) → AreStepSides t.0.sides → Does (Orbs ready) past i t → AllApart past i → Does (Shut ready) past i t
  does_on past i t e d h = record {
    others = λ j x f k. record { orbs = d.others j x f k.orbs; apart = steps_apart t.0.sides past j e k.apart };
    quiet = λ silent. record { orbs = d.quiet silent; apart = steps_apart t.0.sides past i e h };
    asking = λ packet one serial generation f q. record { orbs = d.asking packet one serial generation f q; apart = steps_apart t.0.sides past i e h };
  }

  shut_carried : Carries Rowed (Shut ready)
  shut_carried =
      let c = orbs_carried ready in
      record {
        known = λ line event past i s r. c.known line event past i s r;
        number = λ past i s h. h.orbs.number;
        asked = λ line event past i s h. record { orbs = c.asked line event past i s h.orbs; apart = h.apart };
        apart = λ note past i s e away h. record { orbs = c.apart note past i s e away h.orbs; apart = away_apart note past i away h.apart };
        sent = λ serial generation from to bytes past i s n h. record { orbs = c.sent serial generation from to bytes past i s n h.orbs; apart = h.apart };
        hears = λ serial generation bytes past i s heard shown after h.
            tells_on (said (judged_note serial (receive_step generation bytes empty_outbox s).0) ∷ past) i (receive_step generation bytes empty_outbox s).1 (own.receives generation bytes empty_outbox s tt)
            (c.hears serial generation bytes past i s heard shown after h.orbs) (heard_apart serial generation bytes past i s heard h.apart);
        expires = λ serial label past i s shown h.
            tells_on (said (notes.TimedOut serial) ∷ past) i (expire_step label empty_outbox s).1 (own.expires label empty_outbox s tt) (c.expires serial label past i s shown h.orbs) h.apart;
        stale = λ label past i s e h. record { orbs = c.stale label past i s e h.orbs; apart = h.apart };
        sees = λ generation id target past i s e h.
            tells_on (said (notes.Seen (suc i) generation) ∷ past) i (see_step generation id target empty_outbox s) (own.sees generation id target empty_outbox s tt) (c.sees generation id target past i s e h.orbs) h.apart;
        acts = λ action past i s line fit d shown known h.
            does_on past i (act_step action empty_outbox s).1 (acts action empty_outbox s tt) (c.acts action past i s line fit d shown known h.orbs) h.apart;
      }

first_shut : (line i initiators : ℕ) (ready : Bool) → Shut ready (said (notes.Begin initiators ready) ∷ asked line (events.Begin initiators ready) ∷ []) i (new_state i ready)
first_shut line i initiators ready = record { orbs = first_orbs line i initiators ready; apart = tt }

pub apart_of : (line : ℕ) (run : Run) → IsRun run → (i : ℕ) → i < run.initiators → AllApart (history_of line run) i
apart_of line run q i b =
    (of_runs (Shut run.ready) (shut_carried run.ready) line run (rows_known line run) (λ j c. first_shut line j run.initiators run.ready) q i b).apart

pub apart_between : (line : ℕ) (run : Run) (q : IsRun run) (next : ℕ) (event : Event) (told : List (Option Told)) → IsDelivering event told → MayAll told (begun (after (beginning run) run.entries)) → (i : ℕ) → i < run.initiators → AllApart (between line run q next event told) i
apart_between line run q next event told d m i b =
    (carried_there line run q next (Shut run.ready) (by_more (shut_carried run.ready)) (rows_known line run) (λ j c. first_shut line j run.initiators run.ready) i b event told d m).apart
