-- In every run a status that an initiator ignored for its slot names a slot whose ORB, the one that was prepared last there, does not wait.
use Rattle.sbp_world.proofs.Words.Std.{◌≡◌, refl, sym, ◌∙◌, ap, subst, ℕ, suc, ◌<◌, ◌&&◌, ◌||◌, not, is_some, Bool, true, false, List, [], ◌∷◌, ◌++◌, map, Option, Some, None, Result, Ok, Err, not-true, none-some, same_Some}
use Rattle.sbp_world.proofs.Words.Wire.{Packet, header_in, reading, PacketFault, Row, by_again, by_generation, by_grammar, by_label, by_request, by_response, row_of, facts_of, Access, access_of, empty_outbox, Moment, asked, said, terms, Judged, Note, Side, judged_note}
use Rattle.sbp_world.proofs.Words.Target.{Told}
use Rattle.sbp_world.proofs.Words.Initiator.{PresentList, SlotTable, slot_in, slot_of, waiting, TicketParts, InitiatorState, act_step, Turn, new_state, expire_step, receive_step, see_step, is_step, facts_at, fifo_for, is_awaited, is_awaited_by, judging_by, names_place, note_by, note_of, offset_at, StatusBlock, StatusKind, is_management, is_managed_orb, read_block, status_in, waits_there}
use Rattle.sbp_world.proofs.Words.Laws.{Orb, is_effect, prepared_in, slot_at, taken_at, waits_in, appends, EachMoment}
use Rattle.sbp_world.proofs.Words.World.{history_of, Run, after, after_all, beginning, MayAll, begun, behind, AreRows, IfLast, IfList, LastFits, Waits, name_in, present_in, terms_at, IsHost, IsRun, more_deliveries}
use Rattle.std.specs.Prelude.{nat_le, length}
use Rattle.bus_memory.proofs.Found.{slot_of_law}
use Rattle.orb_layout.specs.declared.status.StatusKind.TheVariants as kinds
use Rattle.orb_list.proofs.Tied.{waits_last}
use Rattle.sbp_journal.specs.declared.cause.Cause.TheVariants as causes
use Rattle.sbp_journal.specs.declared.cause.Judged.TheVariants as judgements
use Rattle.sbp_journal.specs.declared.event.Event.TheVariants as events
use Rattle.sbp_journal.specs.declared.note.Note.TheVariants as notes
use Rattle.sbp_journal.specs.declared.side.Side.TheVariants as sides
use Rattle.sbp_initiator.proofs.Histories.Judging.{judging_law}
use Rattle.sbp_world.specs.Hosts.Calls.{by_side}
use Rattle.sbp_world.specs.Lists.TakenTurns.{IgnoredLaw, IgnoredSo}
use Rattle.sbp_world.proofs.Wire.Effects.{AreEffectSides, IsEffectSide}
use Rattle.sbp_world.proofs.Wire.OwnActs.{AreStepSides, IsStepSide, acts}
use Rattle.sbp_world.proofs.Wire.OwnTells as own
use Rattle.sbp_world.proofs.Hosts.Carried.{between_runs, of_runs}
use Rattle.sbp_world.proofs.Hosts.Carries.{Carries, Does, Tells}
use Rattle.sbp_world.proofs.Hosts.OrbRuns.{Rowed, rows_known}
use Rattle.sbp_world.proofs.Hosts.Runs.{count_after, count_between, first_host}
use Rattle.sbp_world.proofs.Hosts.Shown.{IsElsewhere, IsHeard}
use Rattle.sbp_world.proofs.Hosts.SlotIgnored.{last_row, not_there, some_bytes}
use Rattle.sbp_world.proofs.Hosts.Statuses.Acted.{host_carried}
use Rattle.sbp_world.proofs.Hosts.Statuses.Blocks.{command_is, is_read_by, place_slot}
use Rattle.sbp_world.proofs.Lists.StatusKnown.{spelled, waits_so}
use Rattle.sbp_world.proofs.Common.{and_second, untrue}

-- ---- a slot in which no ORB waits

waits_none : (found : Option TicketParts) (t : TicketParts) → is_some found ≡ false → found ≡ Some t → ⊥
waits_none found t e f = let some : is_some found ≡ true = ap is_some f in untrue (sym e ∙ some)

module _ (past : List Moment) (i : ℕ) (s : SlotTable) (rows : AreRows past i s) where
  -- an ORB that waits by the terms waits in its slot
  in_list : (n k : ℕ) (present : Option PresentList) → s.present ≡ present → present_in s.present ≡ Some n → k < appends past i n → taken_at past i n k ≡ None → IfList (terms_at past i) s.slots s.lists present → Waits s.slots n k
  in_list n k None e is below none fits = absurd (none-some n (sym (ap present_in e) ∙ is))
  in_list n k (Some list) e is below none fits =
      let same : n ≡ list.tail.list = sym (same_Some list.tail.list n (sym (ap present_in e) ∙ is)) in
      subst (λ a. Waits s.slots a k) (sym same) (fits.waits k (subst (λ a. k < appends past i a) same below) (subst (λ a. taken_at past i a k ≡ None) same none))

  module _ (slot : ℕ) (small : slot < 32) (shut : is_some (waiting (slot_in s.slots slot)) ≡ false) (one : Orb) (prepared : prepared_in past i slot ≡ Some one) where
    abbrev n : ℕ
    n = one.list

    abbrev k : ℕ
    k = one.number

    -- the ORB that was prepared last there has this slot
    placed_by : (last : Option TicketParts) → (slot_in s.slots slot).last ≡ last → name_in last ≡ Some one → IfLast s.lists (appends past i) (slot_at past i) slot last → slot_at past i n k ≡ slot
    placed_by None e f fits = absurd (none-some one f)
    placed_by (Some t) e f fits = ap (λ (x : Orb). slot_at past i x.list x.number) (sym (same_Some _ one f)) ∙ fits.at

    placed : slot_at past i n k ≡ slot
    placed =
        placed_by (slot_in s.slots slot).last refl (sym (rows.fits.prepared slot small) ∙ prepared) (rows.fits.last slot small)

    waits_not : waits_in past i n k ≡ true → ⊥
    waits_not e =
        let so = waits_so past i n k e in
        let w : Waits s.slots n k = in_list n k s.present refl (sym rows.fits.present ∙ so.present) so.appended so.none rows.fits.list in
        let last = waits_last (slot_in s.slots w.ticket.slot) w.ticket w.waits in
        let fits : LastFits s.lists (appends past i) (slot_at past i) w.ticket.slot w.ticket = subst (IfLast s.lists (appends past i) (slot_at past i) w.ticket.slot) last (rows.fits.last w.ticket.slot w.small) in
        let there : slot_at past i n k ≡ w.ticket.slot = ap (λ a. slot_at past i a k) (sym w.of_list) ∙ ap (λ a. slot_at past i w.ticket.list a) (sym w.numbered) ∙ fits.at in
        let same : w.ticket.slot ≡ slot = sym there ∙ placed in
        waits_none (waiting (slot_in s.slots slot)) w.ticket shut (ap (λ a. waiting (slot_in s.slots a)) (sym same) ∙ w.waits)

    pub none_waits : waits_in past i n k ≡ false
    none_waits = by (waits_in past i n k) refl
      where
        by : (b : Bool) → waits_in past i n k ≡ b → b ≡ false
        by true e = absurd (waits_not e)
        by false e = refl

-- ---- what is ignored for its slot
-- a block with the address of a slot names no place of management
command_read : (payload : List ℕ) (block : StatusBlock) (slot : ℕ) → read_block false payload ≡ Ok block → slot_of block.orb ≡ Some slot → status_in payload ≡ Ok block
command_read payload block slot r at = by (names_place payload) refl
  where
    by : (named : Bool) → names_place payload ≡ named → read_block named payload ≡ Ok block
    by true e =
        let none : slot_of block.orb ≡ None = ap slot_of (is_read_by false payload block r).orb ∙ place_slot (offset_at payload 0) (and_second (nat_le 8 (length payload)) (is_managed_orb (offset_at payload 0)) e) in
        absurd (none-some slot (sym none ∙ at))
    by false e = r

by_kind : (kind : StatusKind) (at : ℕ) (s : InitiatorState) → is_management kind ≡ false → is_awaited_by kind at s ≡ false → waits_there s.lists.slots.slots (slot_of at) ≡ false
by_kind (kinds.Management meaning) at s m e = untrue (sym m)
by_kind kind at s m e = e

status_shut : (access : Access) (source : ℕ) (s : InitiatorState) → note_of (judging_by (Some access) source s) ≡ judgements.Ignored causes.Slot → (block : StatusBlock) (slot : ℕ) → read_block false access.payload ≡ Ok block → slot_of block.orb ≡ Some slot → is_some (waiting (slot_in s.lists.slots.slots slot)) ≡ false
status_shut access source s e block slot r at =
    let f = facts_at (fifo_for access s) access source s in
    let last : (f.is_status && not f.is_awaited) ≡ true = last_row (f.to_initiator && not f.reads_rom && not f.of_target) (f.of_other_login || f.to_closed_fifo) (f.is_status && f.is_unsolicited) (f.is_status && not f.is_read) (f.is_status && not f.is_awaited) e in
    let none : is_awaited (status_in access.payload) s ≡ false = not-true f.is_awaited (and_second f.is_status (not f.is_awaited) last) in
    let here : is_awaited_by block.kind block.orb s ≡ false = sym (ap (λ x. is_awaited x s) (command_read access.payload block slot r at)) ∙ none in
    sym (ap (λ x. waits_there s.lists.slots.slots x) at) ∙ by_kind block.kind block.orb s (command_is access.payload block r) here

abbrev Shuts : InitiatorState → Access → Type 0
Shuts s access = (block : StatusBlock) (slot : ℕ) → read_block false access.payload ≡ Ok block → slot_of block.orb ≡ Some slot → is_some (waiting (slot_in s.lists.slots.slots slot)) ≡ false

abbrev IfRequest : InitiatorState → Result Packet PacketFault → Type 0
IfRequest s read = (p : Packet) → read ≡ Ok p → (access : Access) → access_of p ≡ Some access → Shuts s access

by_row : (row : Row) (read : Result Packet PacketFault) (s : InitiatorState) → note_by row read s ≡ judgements.Ignored causes.Slot → IfRequest s read
by_row by_generation read s e p is access asks = cc
by_row by_grammar read s e p is access asks = cc
by_row by_label read s e p is access asks = cc
by_row by_response read s e p is access asks = cc
by_row by_again read s e p is access asks = cc
by_row by_request (Err fault) s e p is access asks = cc
by_row by_request (Ok q) s e p is access asks =
    let same : q ≡ p = cc in
    let found : access_of q ≡ Some access = ap access_of same ∙ asks in
    status_shut access (header_in q).source s (ap (λ o. note_of (judging_by o (header_in q).source s)) (sym found) ∙ e)

slot_shut : (generation : ℕ) (bytes : List ℕ) (s : InitiatorState) → (receive_step generation bytes empty_outbox s).0 ≡ judgements.Ignored causes.Slot → IfRequest s (reading bytes)
slot_shut generation bytes s e =
    by_row (row_of (facts_of s.layer generation bytes)) (reading bytes) s (sym (judging_law.noted generation bytes empty_outbox s) ∙ e)

-- ---- one more note

abbrev AllIgnored : List Moment → ℕ → Type 0
AllIgnored past i = EachMoment (IgnoredSo i) past

abbrev is_ignored : Note → Bool
is_ignored (notes.Ignored serial cause) = true
is_ignored _ = false

quiet_on : (note : Note) (past : List Moment) (i : ℕ) → is_ignored note ≡ false → AllIgnored past i → AllIgnored (said note ∷ past) i
quiet_on (notes.Ignored serial cause) past i e h = untrue (sym e)
quiet_on note past i e h = (tt, h)

effect_quiet : (note : Note) → is_effect note ≡ true → is_ignored note ≡ false
effect_quiet (notes.Ignored serial cause) e = untrue e
effect_quiet note e = refl

step_quiet : (note : Note) → is_step note ≡ true → is_ignored note ≡ false
step_quiet (notes.Ignored serial cause) e = untrue e
step_quiet note e = refl

-- a note of another one
away_on : (note : Note) (past : List Moment) (i : ℕ) → IsElsewhere past i note → AllIgnored past i → AllIgnored (said note ∷ past) i
away_on (notes.Ignored serial causes.Slot) past i away h = (λ packet was to slot block x one prepared. absurd (not_there packet.to i (away packet was) to), h)
away_on (notes.Ignored serial cause) past i away h = (tt, h)
away_on note past i away h = (tt, h)

-- what is told in a call
one_effect : (side : Side) (past : List Moment) (i : ℕ) → IsEffectSide side → AllIgnored past i → AllIgnored (by_side side past) i
one_effect (sides.Own note) past i e h = quiet_on note past i (effect_quiet note e) h
one_effect side past i e h = h

effects_on : (told : List Side) (past : List Moment) (i : ℕ) → AreEffectSides told → AllIgnored past i → AllIgnored (behind told past) i
effects_on [] past i e h = h
effects_on (side ∷ told) past i e h = effects_on told (by_side side past) i e.1 (one_effect side past i e.0 h)

one_step : (side : Side) (past : List Moment) (i : ℕ) → IsStepSide side → AllIgnored past i → AllIgnored (by_side side past) i
one_step (sides.Own note) past i e h = quiet_on note past i (step_quiet note e) h
one_step side past i e h = h

steps_on : (told : List Side) (past : List Moment) (i : ℕ) → AreStepSides told → AllIgnored past i → AllIgnored (behind told past) i
steps_on [] past i e h = h
steps_on (side ∷ told) past i e h = steps_on told (by_side side past) i e.1 (one_step side past i e.0 h)

-- ---- a packet that is heard

module _ (serial generation : ℕ) (bytes : List ℕ) (past : List Moment) (i : ℕ) (s : InitiatorState) (heard : IsHeard past i serial generation bytes) (host : IsHost past i s) (h : AllIgnored past i) where
  shut_now : (receive_step generation bytes empty_outbox s).0 ≡ judgements.Ignored causes.Slot → IgnoredSo i (said (notes.Ignored serial causes.Slot)) past
  shut_now e packet was to slot block x one prepared =
      let same : packet.bytes ≡ bytes = sym (some_bytes ((terms past).sent serial) heard.packet packet heard.sent was) ∙ heard.bytes_are in
      let p = spelled (reading packet.bytes) x.access x.is in
      let shut = slot_shut generation bytes s e p.packet (ap reading (sym same) ∙ p.is) x.access p.asks block slot x.reads x.slot_is in
      none_waits past i s.lists.slots host.rows slot (slot_of_law.begins block.orb slot x.slot_is).0 shut one prepared

  heard_on : AllIgnored (said (judged_note serial (receive_step generation bytes empty_outbox s).0) ∷ past) i
  heard_on = by_judged (receive_step generation bytes empty_outbox s).0 refl
    where
      by_judged : (judged : Judged) → (receive_step generation bytes empty_outbox s).0 ≡ judged → AllIgnored (said (judged_note serial judged) ∷ past) i
      by_judged judgements.Got e = (tt, h)
      by_judged (judgements.Ignored causes.Slot) e = (shut_now e, h)
      by_judged (judgements.Ignored cause) e = (tt, h)

-- ---- in every run
record Ignoring (past : List Moment) (i : ℕ) (s : InitiatorState) : Type 0 where
  host : IsHost past i s
  all : AllIgnored past i

tells_on : (past : List Moment) (i : ℕ) (t : Turn) → AreEffectSides t.0.sides → Tells IsHost past i t → AllIgnored past i → Tells Ignoring past i t
tells_on past i t e k h = record {
  own = record { host = k.own; all = effects_on t.0.sides past i e h };
  others = λ j x f m. record { host = k.others j x f m.host; all = effects_on t.0.sides past j e m.all };
}

does_on : (past : List Moment) (i : ℕ) (t : Turn) → AreStepSides t.0.sides → Does IsHost past i t → AllIgnored past i → Does Ignoring past i t
does_on past i t e d h = record {
  others = λ j x f m. record { host = d.others j x f m.host; all = steps_on t.0.sides past j e m.all };
  quiet = λ silent. record { host = d.quiet silent; all = steps_on t.0.sides past i e h };
  asking = λ packet one serial generation f q. record { host = d.asking packet one serial generation f q; all = (tt, steps_on t.0.sides past i e h) };
}

ignoring_carried : Carries Rowed Ignoring
ignoring_carried =
    let k = host_carried in
    record {
      known = k.known;
      number = λ past i s h. h.host.number;
      asked = λ line event past i s h. record { host = k.asked line event past i s h.host; all = (tt, h.all) };
      apart = λ note past i s e away h. record { host = k.apart note past i s e away h.host; all = away_on note past i away h.all };
      sent = λ serial generation from to bytes past i s n h. record { host = k.sent serial generation from to bytes past i s n h.host; all = (tt, h.all) };
      hears = λ serial generation bytes past i s heard shown after h.
          tells_on (said (judged_note serial (receive_step generation bytes empty_outbox s).0) ∷ past) i (receive_step generation bytes empty_outbox s).1 (own.receives generation bytes empty_outbox s tt)
          (k.hears serial generation bytes past i s heard shown after h.host) (heard_on serial generation bytes past i s heard h.host h.all);
      expires = λ serial label past i s shown h.
          tells_on (said (notes.TimedOut serial) ∷ past) i (expire_step label empty_outbox s).1 (own.expires label empty_outbox s tt) (k.expires serial label past i s shown h.host) (tt, h.all);
      stale = λ label past i s e h. record { host = k.stale label past i s e h.host; all = h.all };
      sees = λ generation id target past i s e h.
          tells_on (said (notes.Seen (suc i) generation) ∷ past) i (see_step generation id target empty_outbox s) (own.sees generation id target empty_outbox s tt) (k.sees generation id target past i s e h.host) (tt, h.all);
      acts = λ action past i s line fit d shown known h.
          does_on past i (act_step action empty_outbox s).1 (acts action empty_outbox s tt) (k.acts action past i s line fit d shown known h.host) h.all;
    }

first_ignoring : (line i initiators : ℕ) (ready : Bool) → Ignoring (said (notes.Begin initiators ready) ∷ asked line (events.Begin initiators ready) ∷ []) i (new_state i ready)
first_ignoring line i initiators ready = record { host = first_host line i initiators ready; all = (tt, (tt, tt)) }

ignored_of : (line : ℕ) (run : Run) → IsRun run → (i : ℕ) → i < run.initiators → AllIgnored (history_of line run) i
ignored_of line run q i b = (of_runs Ignoring ignoring_carried line run (rows_known line run) (λ j c. first_ignoring line j run.initiators run.ready) q i b).all

ignored_between : (line : ℕ) (run : Run) → IsRun run → (next : ℕ) (most : Option ℕ) (told : List (Option Told)) → MayAll told (begun (after (beginning run) run.entries)) → (i : ℕ) → i < run.initiators → AllIgnored (map said (after_all told (begun (after (beginning run) run.entries))).world.fresh ++ asked next (more_deliveries most) ∷ history_of line run) i
ignored_between line run q next most told m i b = (between_runs Ignoring ignoring_carried line run (rows_known line run) (λ j c. first_ignoring line j run.initiators run.ready) q next most told m i b).all

pub ignored_law : IgnoredLaw
ignored_law = record {
  after_lines = λ line run r has small size i b. ignored_of line run r i (subst (λ n. i < n) (count_after run run.entries) b);
  between = λ line run r has small size next most told m i b.
      ignored_between line run r next most told m i (subst (λ n. i < n) (count_between told (after (beginning run) run.entries) ∙ count_after run run.entries) b);
}
