-- What a queue hands to its world, and what it is made of.
use Rattle.std.proofs.Common.{◌≡◌, ◌∙◌, sym, ap, subst, refl, ℕ, zero, suc, ◌<◌, ◌≤◌, ◌^◌, ◌/◌, Bool, true, false, List, [], ◌∷◌, ◌++◌, length, map, Option, Some, None, arith}
use Rattle.std.specs.List.{AllByRecursion, slice_get}
use Rattle.std.specs.Option.{option_map}
use Rattle.std.proofs.lemmas.Option.{slice_get-map}
use Rattle.byteorder.specs.Endian.{big_bytes}
use Rattle.byteorder.specs.Numbers.{big_number-reads_back}
use Rattle.sbp_initiator.specs.Acting.{IsAction}
use Rattle.sbp_initiator.specs.Commands.{IsCommand}
use Rattle.sbp_journal.specs.declared.event.Action.{Action}
use Rattle.sbp_journal.specs.declared.event.Action.TheVariants as actions
use Rattle.sbp_journal.specs.declared.event.Event.{Event}
use Rattle.sbp_journal.specs.declared.event.Event.TheVariants as events
use Rattle.sbp_laws.specs.Hosts.{Session, out, entering, live, held, returning, leaving, stuck}
use Rattle.sbp_world.specs.Lines.{Happens, IsEvent}
use Rattle.sbp_world.specs.FitInitiator.{BytesAction, BytesCommand}
use Rattle.sbp_world.specs.Making.{new_world}
use Rattle.sbp_world.specs.Wire.Lines.{FillsAction, FillsBuffer, IsLine}
use Rattle.sbp_world.specs.Worlds.{Scene}
use Rattle.sbp_world.proofs.Wire.Sizes.{Sizes, happens_keeps, new_sizes}
use Rattle.retry_queue.specs.Journals.{IsSubmission}
use Rattle.retry_queue.specs.Kept.{Kept}
use Rattle.retry_queue.specs.declared.pump.Row.{Row}
use Rattle.retry_queue.specs.declared.pump.Row.TheVariants as rows
use Rattle.retry_queue.specs.Pump.{append_of, row}
use Rattle.retry_queue.specs.Queues.{IsIdle, IsWrite, Pumps, PumpsBy, QueueScene, RunsLine, action_in, append_event, own, pumped, submission_in}
use Rattle.retry_queue.specs.Steps.{Submission, command_for, count_of}
use Rattle.retry_queue.proofs.Cases.{some_is}
use Rattle.retry_queue.proofs.WriteBlocks.{whole_blocks, writes_ten}

-- ---- how many initiators there are

pub still_one : (line : ℕ) (event : Event) (old new : Scene) → Happens line event old new → length old.world.initiators ≡ 1 → length new.world.initiators ≡ 1
still_one line event old new h one =
    ap (λ s. length s.world.initiators) h.is ∙ ap (λ (z : Sizes). z.0) (happens_keeps line event h.told old) ∙ one

pub first_one : (units : ℕ) → length (new_world 1 true units).initiators ≡ 1
first_one units = ap (λ (z : Sizes). z.0) (new_sizes 1 true units)

pub first_units : (units : ℕ) → length (new_world 1 true units).target.units ≡ units
first_units units = ap (λ (z : Sizes). z.1) (new_sizes 1 true units)

-- ---- what a pump hands to its world is an event of one initiator

is_command : (write : Submission) → length write.bytes ≤ 16384 → IsCommand (command_for write)
is_command write few node login = record {
  cdb = refl;
  short = few;
  payload = omega arith;
  segments = omega arith;
  whole = omega arith;
  max_payload = omega arith;
}

-- the event of a script's line is one that a world takes
pub line_event : (event : Event) (n : ℕ) → n ≡ 1 → IsLine event 1 → IsEvent event n
line_event event n one h = subst (IsEvent event) (sym one) (of_one event h)
  where
    of_one : (event : Event) → IsLine event 1 → IsEvent event 1
    of_one (events.Begin initiators ready) h = h
    of_one (events.Act initiator action) h = (h.0, h.2)
    of_one (events.Reset physical) h = h.count
    of_one (events.See node) h = h
    of_one (events.Deliver serial) h = tt
    of_one (events.Repeat serial) h = tt
    of_one (events.Lose serial) h = tt
    of_one (events.Timeout serial) h = tt
    of_one (events.Step count) h = tt
    of_one events.Settle h = tt
    of_one events.Tick h = tt
    of_one (events.Inject initiator bytes) h = h.0
    of_one (events.Key unit key) h = tt

-- what an action of a line has: its bytes, its lengths, and that it fills its buffer
record IsOfLine (action : Action) : Type 0 where
  bytes : BytesAction action
  lengths : IsAction action
  fills : FillsAction action

own_line : (action : Action) → IsOfLine action → IsLine (own action) 1
own_line action h = (omega arith, h.bytes, h.lengths, h.fills)

fills : (write : Submission) → IsSubmission write.lba write.bytes → FillsBuffer (command_for write)
fills write h = record {
  payload = λ e. refl;
  segments = λ none. absurd (omega arith);
  brought = λ is_bay e. writes_ten is_bay write.lba (length write.bytes / 512) (let few = h.few in omega (arith, few)) ∙ whole_blocks (length write.bytes) h.whole;
  answered = λ is_bay e. absurd (cc e);
}

pub write_line : (event : Event) → IsWrite event → IsLine event 1
write_line event h =
    subst (λ e. IsLine e 1) (sym h.is) (own_line (actions.Append (command_for (submission_in event))) (record {
      bytes = h.bytes;
      lengths = is_command (submission_in event) h.sized.few;
      fills = fills (submission_in event) h.sized;
    }))

row_action : (busy : Bool) (session : Session) (dead : Bool) (action : Action) → Some action ≡ row busy session dead None → IsOfLine action
row_action true session dead action e = absurd (cc e)
row_action false out dead action e = subst IsOfLine (sym (some_is action _ e)) (record { bytes = tt; lengths = omega arith; fills = omega arith })
row_action false entering dead action e = absurd (cc e)
row_action false live true action e = subst IsOfLine (sym (some_is action _ e)) (record { bytes = tt; lengths = tt; fills = tt })
row_action false live false action e = absurd (cc e)
row_action false held dead action e = subst IsOfLine (sym (some_is action _ e)) (record { bytes = tt; lengths = tt; fills = tt })
row_action false returning dead action e = absurd (cc e)
row_action false leaving dead action e = absurd (cc e)
row_action false (stuck had_login) dead action e = absurd (cc e)

pub act_line : (kept : Kept) (action : Action) → Some action ≡ row kept.is_busy kept.session kept.is_dead None → IsLine (own action) 1
act_line kept action e = own_line action (row_action kept.is_busy kept.session kept.is_dead action e)

-- ---- the writes

pub append-in : (write : Submission) → write.lba < 2 ^ 32 → submission_in (append_event write) ≡ write
append-in write small =
    let fits : write.lba < 256 ^ 4 = omega (arith, small) in
    ap (λ lba. record { lba = lba; bytes = write.bytes }) (big_number-reads_back 4 write.lba (0 ∷ (big_bytes 2 (count_of write) ++ (0 ∷ 0 ∷ 0 ∷ []))) fits)

pub is_write : (write : Submission) → IsSubmission write.lba write.bytes → BytesCommand (command_for write) → IsWrite (append_event write)
is_write write h bytes =
    let back = append-in write h.address in
    record { is = ap append_event (sym back); sized = subst (λ (w : Submission). IsSubmission w.lba w.bytes) (sym back) h; bytes = subst (λ w. BytesCommand (command_for w)) (sym back) bytes }

pub write_of_place : (events : List Event) (place : ℕ) (event : Event) → AllByRecursion IsWrite events → slice_get events place ≡ Some event → IsWrite event
write_of_place [] place event h e = absurd (cc e)
write_of_place (first ∷ rest) zero event h e = subst IsWrite (some_is first event e) h.0
write_of_place (first ∷ rest) (suc place) event h e = write_of_place rest place event h.1 e

-- ---- what a pump does, by its row

-- a row is the first of the pump's table
abbrev pub FirstRow : Row → Kept → Type 0
FirstRow r kept = (write : Option Submission) → action_in r write ≡ row kept.is_busy kept.session kept.is_dead write

by_row : (kept : Kept) (writes : List Submission) (r s : Row) → FirstRow r kept → r ≡ s → pumped kept writes ≡ option_map own (action_in s (slice_get writes kept.next))
by_row kept writes r s first e =
    ap (option_map own) (sym (first (slice_get writes kept.next)) ∙ ap (λ t. action_in t (slice_get writes kept.next)) e)

pub pumps_idle : (line : ℕ) (old new : QueueScene) (r : Row) → FirstRow r old.queue.kept → r ≡ rows.Idle → IsIdle old new → Pumps line old new
pumps_idle line old new r first e h =
    subst (λ event. PumpsBy event line old new) (sym (by_row old.queue.kept old.queue.submissions r rows.Idle first e)) h

pub pumps_act : (line : ℕ) (old new : QueueScene) (r : Row) (action : Action) → FirstRow r old.queue.kept → r ≡ rows.Act action → RunsLine line (own action) old new → Pumps line old new
pumps_act line old new r action first e h =
    subst (λ event. PumpsBy event line old new) (sym (by_row old.queue.kept old.queue.submissions r (rows.Act action) first e)) h

-- the next write, if there is one
next_in : (kept : Kept) (writes : List Submission) (r : Row) (next : Option Submission) → FirstRow r kept → r ≡ rows.Append → slice_get writes kept.next ≡ next → pumped kept writes ≡ option_map own (append_of next)
next_in kept writes r next first e same =
    by_row kept writes r rows.Append first e ∙ ap (λ write. option_map own (append_of write)) same

pub pumps_append : (line : ℕ) (old new : QueueScene) (r : Row) (events : List Event) (event : Event) → FirstRow r old.queue.kept → r ≡ rows.Append → old.queue.submissions ≡ map submission_in events → slice_get events old.queue.kept.next ≡ Some event → IsWrite event → RunsLine line event old new → Pumps line old new
pumps_append line old new r events event first e writes at h ran =
    let next = ap (λ ws. slice_get ws old.queue.kept.next) writes ∙ slice_get-map submission_in events old.queue.kept.next ∙ ap (option_map submission_in) at in
    subst (λ due. PumpsBy due line old new) (sym (next_in old.queue.kept old.queue.submissions r (Some (submission_in event)) first e next ∙ ap Some (sym h.is))) ran

pub pumps_none : (line : ℕ) (old new : QueueScene) (r : Row) (events : List Event) → FirstRow r old.queue.kept → r ≡ rows.Append → old.queue.submissions ≡ map submission_in events → slice_get events old.queue.kept.next ≡ None → IsIdle old new → Pumps line old new
pumps_none line old new r events first e writes at h =
    let next = ap (λ ws. slice_get ws old.queue.kept.next) writes ∙ slice_get-map submission_in events old.queue.kept.next ∙ ap (option_map submission_in) at in
    subst (λ due. PumpsBy due line old new) (sym (next_in old.queue.kept old.queue.submissions r None first e next)) h
