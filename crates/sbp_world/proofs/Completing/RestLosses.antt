-- Where a run is lossless, by the budget, its wire lost nothing since the latest reset: they count the same losses, since a run begins once, with its first line.
use Rattle.sbp_world.proofs.Words.Std.{◌≡◌, ◌∙◌, sym, ap, ℕ, nat_eq, false, List, [], ◌∷◌, ◌++◌, map, length, Option}
use Rattle.sbp_world.proofs.Words.Wire.{Event, Moment, Note, Terms, asked, history, said, terms}
use Rattle.sbp_world.proofs.Words.Target.{Told}
use Rattle.sbp_world.proofs.Words.Laws.{EachMoment, LineLaw}
use Rattle.sbp_world.proofs.Words.World.{AreEntries, AreLines, Entry, IsRun, MayAll, Run, after, after_all, beginning, begun, history_of, moments_behind}
use Rattle.bus_transactions.specs.Carried.{AreKeptBy, AreKeptNow, IsOfOther}
use Rattle.sbp_journal.specs.declared.cause.Cause.TheVariants as causes
use Rattle.sbp_journal.specs.declared.note.Note.TheVariants as notes
use Rattle.sbp_laws.specs.Budget.{HaveNoLoss, is_of_generation, since_reset}
use Rattle.sbp_world.specs.Wire.Journal.{journal_entries}
use Rattle.sbp_world.proofs.Common.{itself, untrue}
use Rattle.sbp_world.proofs.Counting.StartCounted.{none_at, none_between}
use Rattle.sbp_world.proofs.Wire.Begun.{NoneBegins, is_begin}
use Rattle.sbp_world.proofs.Wire.Entries.{bus_law}

-- ---- a run begins once
-- nothing was said
abbrev pub NothingSaid : List Moment → Type 0
NothingSaid [] = Unit {0}
NothingSaid (asked line event ∷ past) = NothingSaid past
NothingSaid (said note ∷ past) = ⊥

-- before a run begins
abbrev pub BeginsFirst : Moment → List Moment → Type 0
BeginsFirst (said (notes.Begin initiators ready)) past = NothingSaid past
BeginsFirst moment past = Unit {0}

one_first : (note : Note) (past : List Moment) → is_begin note ≡ false → BeginsFirst (said note) past
one_first (notes.Begin initiators ready) past e = untrue (sym e)
one_first note past e = tt

told_first : (ns : List Note) (past : List Moment) → NoneBegins ns → EachMoment BeginsFirst past → EachMoment BeginsFirst (map said ns ++ past)
told_first [] past none first = first
told_first (note ∷ ns) past none first = (one_first note (map said ns ++ past) none.0, told_first ns past none.1 first)

lines_first : (line : ℕ) (run : Run) (entries : List Entry) → AreEntries (beginning run) entries → AreLines run entries → LineLaw run.start.disks (journal_entries line run entries) → EachMoment BeginsFirst (moments_behind line run entries)
lines_first line run [] all fit laws = (tt, (tt, tt))
lines_first line run (e ∷ before) all fit laws =
    let none = none_at e.line e.event e.told (after (beginning run) before) run.start.disks (history (journal_entries line run before)) e.notes fit.0 all.0.notes_are laws.0 in
    told_first e.notes (asked e.line e.event ∷ moments_behind line run before) none (tt, lines_first line run before all.1 fit.1 laws.1)

module _ (line : ℕ) (run : Run) (r : IsRun run) (size : length run.start.disks ≡ run.units) where
  pub first_after : EachMoment BeginsFirst (history_of line run)
  first_after = lines_first line run run.entries r.entries r.lines (bus_law.lawful line run r.few (sym size) r.short r.entries r.lines).lines

  pub first_between : (next : ℕ) (event : Event) (told : List (Option Told)) (m : MayAll told (begun (after (beginning run) run.entries))) → EachMoment BeginsFirst (map said (after_all told (begun (after (beginning run) run.entries))).world.fresh ++ asked next event ∷ history_of line run)
  first_between next event told m =
      told_first (after_all told (begun (after (beginning run) run.entries))).world.fresh (asked next event ∷ history_of line run) (none_between line run r size next event told m) (tt, first_after)

-- ---- the losses of both
other_generation : (t : Terms) (serial : ℕ) → is_of_generation (t.sent serial) t.bus ≡ false → IsOfOther t serial
other_generation t serial e packet sent same =
    untrue (sym (ap (λ o. is_of_generation o t.bus) (sym sent) ∙ e) ∙ ap (λ g. nat_eq g t.bus) same ∙ itself t.bus)

none_said : (Other : ℕ → List Moment → Type 0) (past : List Moment) → NothingSaid past → AreKeptBy Other past
none_said Other [] none = tt
none_said Other (asked line event ∷ past) none = none_said Other past none
none_said Other (said note ∷ past) none = absurd none

kept_by : (t : Terms) (past : List Moment) → EachMoment BeginsFirst past → HaveNoLoss t (since_reset past) → AreKeptBy (λ s before. IsOfOther t s) past
kept_by t [] first none = tt
kept_by t (said (notes.Reset generation) ∷ past) first none = tt
kept_by t (said (notes.Begin initiators ready) ∷ past) first none = none_said (λ s before. IsOfOther t s) past first.0
kept_by t (said (notes.Lost s) ∷ past) first none = none
kept_by t (said (notes.TimedOut s) ∷ past) first none = none
kept_by t (said (notes.Injected s) ∷ past) first none = none
kept_by t (said (notes.Ignored s causes.Generation) ∷ past) first none = (other_generation t s none.0, kept_by t past first.1 none.1)
kept_by t (moment ∷ past) first none = kept_by t past first.1 none

pub are_kept : (past : List Moment) → EachMoment BeginsFirst past → HaveNoLoss (terms past) (since_reset past) → AreKeptNow past
are_kept past first none = kept_by (terms past) past first none
