-- A line that is an action has the notes of its turn alone: so what is said of the turns of actions holds of the lines of a run's journal, each line brings its notes, and the action law holds of the journal.
use Rattle.std.proofs.Common.{arith, ◌≡◌, ◌∙◌, refl, sym, ap, subst, ℕ, ◌+◌, ◌^◌, ◌<◌, ◌≤◌, List, [], ◌∷◌, ◌++◌, length, map, reverse, Option, Some, None}
use Rattle.rbc_disk.specs.Disk.{Disk}
use Rattle.rbc_disk.specs.Runs.{Told}
use Rattle.sbp_initiator.specs.Acting.{act_step}
use Rattle.sbp_initiator.specs.Effects.{Turn as Called}
use Rattle.sbp_journal.specs.Outgoings.{empty_outbox}
use Rattle.sbp_journal.specs.Run.{Entry as JournalEntry, Moment, asked, history, said}
use Rattle.sbp_journal.specs.declared.event.Action.{Action}
use Rattle.sbp_journal.specs.declared.event.Event.{Event}
use Rattle.sbp_journal.specs.declared.event.Event.TheVariants as events
use Rattle.sbp_journal.specs.declared.note.Note.{Note}
use Rattle.sbp_laws.specs.ActionLaw.{Brings, BringsEach, Ordered}
use Rattle.sbp_laws.specs.LineLaw.{BringsLine, LineLaw}
use Rattle.sbp_laws.specs.Turns.{EachTurn, turn}
use Rattle.sbp_world.specs.Histories.{moments_behind}
use Rattle.sbp_world.specs.Hosts.Runs.{IsRun}
use Rattle.sbp_world.specs.Lines.{acted, acted_by, happens, weight_in}
use Rattle.sbp_world.specs.Runs.{AreEntries, Entry, Run, after, beginning}
use Rattle.sbp_world.specs.Wire.Journal.{journal_entries}
use Rattle.sbp_world.specs.Wire.Lines.{AreLines, IsLine}
use Rattle.sbp_world.specs.Worlds.{Scene, initiator_at, with_initiator, without_notes}
use Rattle.sbp_world.proofs.Agents.Management.Runs.{HoldsAfter, holds_after}
use Rattle.sbp_world.proofs.Agents.Management.Still.{hist}
use Rattle.sbp_world.proofs.Lists.JoinLaws.{lines_same, moments_same}
use Rattle.sbp_world.proofs.Wire.Entries.{bus_law}
use Rattle.sbp_world.proofs.Wire.Lowest.{reversed}
use Rattle.turn_laws.specs.ActEntries.{ActionRunLaw}
use Rattle.turn_laws.specs.Actions.{ActsByRows}
use Rattle.turn_laws.proofs.Actions.{does_so, refuses_so}
use Rattle.turn_laws.proofs.Handed.{handed, handed_fresh, onto}
use Rattle.turn_laws.proofs.KindNotes.{join_same}
use Rattle.turn_laws.proofs.KnownRuns.{Known, known_after}
use Rattle.turn_laws.proofs.OrderRuns.{ordered_law}
use Rattle.turn_laws.proofs.Places.{Place, ended_place}
use Rattle.turn_laws.proofs.ReadsUnderWay.{AreTimely}
use Rattle.turn_laws.proofs.Timely.{timely_law}

-- notes that were put one behind the other, in the order of time
in_time : (rest old : List Note) → reverse (onto rest old) ≡ reverse old ++ rest
in_time [] old = sym (behind_none (reverse old))
  where
    behind_none : (xs : List Note) → xs ++ [] ≡ xs
    behind_none [] = refl
    behind_none (x ∷ xs) = ap (λ ys. x ∷ ys) (behind_none xs)
in_time (note ∷ rest) old = in_time rest (note ∷ old) ∙ ap (λ ns. ns ++ rest) (reversed note old) ∙ sym (join_same (reverse old) (note ∷ []) rest)

module _ (units ready : ℕ) (start : List Disk) (past : List Moment) (s : Scene) (here : Place units ready start past s) (k : Known start (hist past s.world) s) (timely : AreTimely (hist past s.world)) (line : ℕ) where
  abbrev ms : List Moment
  ms = hist past s.world

  module _ (i : ℕ) (action : Action) (inside : i < length s.world.initiators) where
    acts_by : (x : Option ℕ × Called) → act_step action empty_outbox (initiator_at s.world i) ≡ x → ActsByRows (turn ms (asked line (events.Act i action)) (reverse (acted_by x line i action (without_notes s.world)).fresh))
    acts_by (Some number, (outbox, state)) e = refuses_so units ready start past s here k timely i inside action line number (ap (λ (z : Option ℕ × Called). z.0) e)
    acts_by (None, (outbox, state)) e =
        let v = with_initiator i state (without_notes s.world) in
        subst (λ ns. ActsByRows (turn ms (asked line (events.Act i action)) ns))
        (sym (ap reverse (handed_fresh (i + 1) (weight_in action) outbox v) ∙ in_time (handed (i + 1) (weight_in action) outbox v) []))
        (does_so units ready start past s here k timely i inside action line (weight_in action) outbox state v e)

    acts : ActsByRows (turn ms (asked line (events.Act i action)) (reverse (acted line i action (without_notes s.world)).fresh))
    unfolding acted
    acts = acts_by (act_step action empty_outbox (initiator_at s.world i)) refl

  line_acts : (event : Event) (told : List (Option Told)) → IsLine event (length s.world.initiators) → ActsByRows (turn ms (asked line event) (reverse (happens line event told s).world.fresh))
  unfolding happens
  line_acts (events.Act i action) told q = acts i action q.0
  line_acts _ told q = tt

-- the history of a journal
tied : (line : ℕ) (run : Run) (entries : List Entry) → history (journal_entries line run entries) ≡ moments_behind line run entries
tied line run [] = refl
tied line run (e ∷ before) = ap (λ ms. map said e.notes ++ asked e.line e.event ∷ ms) (tied line run before)

abbrev ActsEach : List JournalEntry → Type 0
ActsEach [] = Unit {0}
ActsEach (entry ∷ before) = ActsByRows (turn (history before) (asked entry.line entry.event) (reverse entry.notes)) × ActsEach before

module _ (line : ℕ) (run : Run) (few : run.initiators ≤ 4) (has : 0 < run.units) (small : run.units ≤ 4) (size : length run.start.disks ≡ run.units) where
  all_act : (entries : List Entry) → length entries + 2 < 2 ^ 32 → AreEntries (beginning run) entries → AreLines run entries → ActsEach (journal_entries line run entries)
  all_act [] short every fit = (tt, tt)
  all_act (e ∷ earlier) short every fit =
      let short_then : length earlier + 2 < 2 ^ 32 = omega (arith, short) in
      let s = after (beginning run) earlier in
      let b : HoldsAfter line run earlier s.world = holds_after line run earlier few has small size short_then every.1 fit.1 in
      let here = ended_place line run few has small size earlier short_then every.1 fit.1 b.past b.holds b.is in
      let k = subst (λ ms. Known run.start.disks ms s) (sym b.is) (known_after line run few has small size earlier short_then every.1 fit.1) in
      let front : Run = record run { entries = earlier } in
      let is_run : IsRun front = record { few = few; short = short_then; entries = every.1; lines = lines_same run earlier earlier fit.1 } in
      let timely = subst AreTimely (moments_same line run earlier earlier ∙ sym b.is) (timely_law.after_lines line front is_run has small size) in
      let acts = line_acts run.units _ run.start.disks b.past s here k timely e.line e.event e.told fit.0 in
      let before : hist b.past s.world ≡ history (journal_entries line run earlier) = b.is ∙ sym (tied line run earlier) in (
        subst (λ ns. ActsByRows (turn (history (journal_entries line run earlier)) (asked e.line e.event) (reverse ns))) (sym every.0.notes_are)
            (subst (λ ms. ActsByRows (turn ms (asked e.line e.event) (reverse (happens e.line e.event e.told s).world.fresh))) before acts),
        all_act earlier short_then every.1 fit.1,
      )

-- so with the lines of the bus
brings_one : (disks : List Disk) (past : List Moment) (line : ℕ) (event : Event) (told : List Note) → ActsByRows (turn past (asked line event) told) → BringsLine disks past line event told → Brings disks past line event told
brings_one disks past line (events.Act i action) told a b = a
brings_one disks past line event told a b = b

brings_each : (disks : List Disk) (entries : List JournalEntry) → ActsEach entries → LineLaw disks entries → BringsEach disks entries
brings_each disks [] a b = tt
brings_each disks (entry ∷ before) a b = (brings_one disks (history before) entry.line entry.event (reverse entry.notes) a.0 b.0, brings_each disks before a.1 b.1)

pub action_run_law : ActionRunLaw
action_run_law line run r has small size = record {
  brings = brings_each run.start.disks (journal_entries line run run.entries) (all_act line run r.few has small size run.entries r.short r.entries r.lines) (bus_law.lawful line run r.few (sym size) r.short r.entries r.lines).lines;
  ordered = subst (EachTurn Ordered) (sym (bus_law.tie line run)) (ordered_law.after_lines line run r has small size);
}
