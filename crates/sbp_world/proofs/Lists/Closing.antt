-- From place to place of a run in which no initiator injected packets, or few logins were given: where each place has what it needs as lists were open as they should be before, they are so at
-- every place; and where they are so in every such run, they were so before each place of it.
use Rattle.sbp_world.proofs.Words.Std.{arith, ◌≡◌, sym, subst, ℕ, ◌+◌, ◌^◌, ◌<◌, ◌≤◌, List, [], ◌∷◌, ◌++◌, map, length, Option, Some, None}
use Rattle.sbp_world.proofs.Words.Wire.{Event, Moment, asked, said, Sending, terms, end_note}
use Rattle.sbp_world.proofs.Words.Target.{Told}
use Rattle.sbp_world.proofs.Words.World.{history_of, moments_behind, MayHappen, happens, AreEntries, Entry, Run, after, beginning, MayAll, after_all, delivered_next, is_settled, AreLines, Scene, WorldState, begun, DeliversMore, IsRun, more_deliveries, PointersAt, PointersLaw, BegunLaw, ClosingLaw, OpenListsLaw, AreEnded, AreLast, LastLaw, OpenAfter, OpenBefore, OpenBehind, OpenBetween, OpenIn, OpenLists, OpenWhile, AreListed, IsTameOrFew}
use Rattle.sbp_journal.specs.declared.event.Event.TheVariants as events
use Rattle.sbp_journal.specs.declared.note.Note.TheVariants as notes
use Rattle.sbp_world.proofs.Hosts.Runs.{count_after, count_between}
use Rattle.sbp_world.proofs.Lists.Closes.{Closes, ClosesLaw, closes_law}
use Rattle.sbp_world.proofs.Lists.EndedLists.{ended_lists_law, none_ended}
use Rattle.sbp_world.proofs.Lists.OpenLasting.{lasts}
use Rattle.sbp_world.proofs.Lists.OpenWires.{wire_after, wire_between}
use Rattle.sbp_world.proofs.Lists.Runs.{as_front, next_extends, said_more}
use Rattle.sbp_world.proofs.Lists.Beside.{tame_or_few_before}
use Rattle.sbp_world.proofs.Lists.RunSites.{more_by}
use Rattle.sbp_world.proofs.Common.{delivers}
use Rattle.sbp_world.proofs.Lists.JoinLaws.{moments_same, lines_same}

-- ---- at a place
module _ (past : List Moment) (w : WorldState) (c : Closes past w) where
  -- a list whose write waits has no end
  are_last : ((i : ℕ) → i < length w.initiators → PointersAt past i) → ((later earlier : List Moment) (serial : ℕ) (sent : Sending) → later ++ said (notes.Got serial) ∷ earlier ≡ past → (terms earlier).sent serial ≡ Some sent → (terms past).sent serial ≡ Some sent) → AreEnded past → AreLast past w
  are_last pointers lasting ended i inside calm = (
    c.last i inside calm,
    record {
      first = c.first i inside calm;
      waiting = λ serial n sent e f g h. record { none = none_ended past i (c.last i inside calm).named (pointers i inside) lasting n (λ b. ended i n calm b) serial f h };
    },
  )

  open_lists : AreListed past w → OpenLists past w
  open_lists l = record { listed = l.listed; one = l.one; points = l.points; behind = c.behind }

-- what gives that lists are as they should be at a place, where they were so before and no initiator injected packets, or few logins were given
record Gives : Type 0 where
  ends : (line : ℕ) (run : Run) → IsRun run → 0 < run.units → run.units ≤ 4 → length run.start.disks ≡ run.units → OpenBefore line run run.entries → IsTameOrFew (history_of line run) → OpenAfter line run run.entries
  meets : (line : ℕ) (run : Run) → IsRun run → 0 < run.units → run.units ≤ 4 → length run.start.disks ≡ run.units → (next : ℕ) (most : Option ℕ) (told : List (Option Told)) → MayAll told (begun (after (beginning run) run.entries)) → OpenBetween line run next (more_deliveries most) told → (let s = after_all told (begun (after (beginning run) run.entries)) in let past = asked next (more_deliveries most) ∷ history_of line run in IsTameOrFew (map said s.world.fresh ++ past) → OpenBehind past told (begun (after (beginning run) run.entries)))

-- ---- no initiator injected packets, or few logins were given, before, where it is so
module _ (now : List Moment) where
  abbrev BesideAt : Scene → Type 0
  BesideAt s = IsTameOrFew (map said s.world.fresh ++ now)

  beside_first : (s : Scene) → BesideAt s → IsTameOrFew now
  beside_first s beside = tame_or_few_before (map said s.world.fresh) now beside

  beside_less : (one : Option Told) (s : Scene) → BesideAt (delivered_next one s) → BesideAt s
  beside_less one s beside =
      let e = next_extends one s in
      tame_or_few_before (map said e.more) (map said s.world.fresh ++ now) (subst IsTameOrFew (said_more s.world.fresh (delivered_next one s).world.fresh now e) beside)

-- ---- over a run
module _ (gives : Gives) (line : ℕ) (run : Run) (few : run.initiators ≤ 4) (has : 0 < run.units) (small : run.units ≤ 4) (size : length run.start.disks ≡ run.units) where
  abbrev front : List Entry → Run
  front entries = record run { entries = entries }

  module _ (entries : List Entry) (short : length entries + 2 < 2 ^ 32) (all : AreEntries (beginning run) entries) (fit : AreLines run entries) (so_far : OpenBefore line run entries) where
    abbrev here : Scene
    here = after (beginning run) entries

    is_run : IsRun (front entries)
    is_run = record { few = few; short = short; entries = all; lines = lines_same run entries entries fit }

    same : history_of line (front entries) ≡ moments_behind line run entries
    same = moments_same line run entries entries

    open_after : IsTameOrFew (moments_behind line run entries) → OpenAfter line run entries
    open_after beside =
        subst (λ ms. OpenLists ms here.world) same (gives.ends line (front entries) is_run has small size (as_front line run entries entries so_far) (subst IsTameOrFew (sym same) beside))

    -- between deliveries of a line that follows
    module _ (next : ℕ) (most : Option ℕ) where
      abbrev now : List Moment
      now = asked next (more_deliveries most) ∷ moments_behind line run entries

      open_there : (told : List (Option Told)) → MayAll told (begun here) → BesideAt now (after_all told (begun here)) → OpenWhile now told (begun here) → OpenBehind now told (begun here)
      open_there told m beside before =
          let w = (after_all told (begun here)).world in
          subst (λ ms. OpenLists (map said w.fresh ++ asked next (more_deliveries most) ∷ ms) w) same
          (gives.meets line (front entries) is_run has small size next most told m
          (record {
            before = as_front line run entries entries so_far;
            begins =
                subst (λ ms. OpenLists ms here.world) (sym same)
                (open_after (tame_or_few_before (asked next (more_deliveries most) ∷ []) (moments_behind line run entries) (beside_first now (after_all told (begun here)) beside)));
            goes = subst (λ ms. OpenWhile (asked next (more_deliveries most) ∷ ms) told (begun here)) (sym same) before;
          })
          (subst (λ ms. IsTameOrFew (map said w.fresh ++ asked next (more_deliveries most) ∷ ms)) (sym same) beside))

      open_while : (told : List (Option Told)) → MayAll told (begun here) → BesideAt now (after_all told (begun here)) → OpenWhile now told (begun here)
      open_while [] m beside = tt
      open_while (one ∷ told) m beside =
          let less = beside_less now one (after_all told (begun here)) beside in let before = open_while told m.1 less in (open_there told m.1 less before, before)

      open_behind : (told : List (Option Told)) → MayAll told (begun here) → BesideAt now (after_all told (begun here)) → OpenBehind now told (begun here)
      open_behind told m beside = open_there told m beside (open_while told m beside)

    -- in a line that follows
    open_in : (next : ℕ) (event : Event) (told : List (Option Told)) → MayHappen event told here → BesideAt (asked next event ∷ moments_behind line run entries) (happens next event told here) → OpenIn event (asked next event ∷ moments_behind line run entries) told (begun here)
    unfolding MayHappen happens
    open_in next (events.Begin initiators is_ready) told m beside = tt
    open_in next (events.Act initiator action) told m beside = tt
    open_in next (events.Reset physical) told m beside = tt
    open_in next (events.See node) told m beside = tt
    open_in next (events.Deliver serial) told m beside = tt
    open_in next (events.Repeat serial) told m beside = tt
    open_in next (events.Lose serial) told m beside = tt
    open_in next (events.Timeout serial) told m beside = tt
    open_in next (events.Step count) told m beside = open_while next (Some count) told m.may beside
    open_in next events.Settle told m beside =
        let s = after_all told (begun here) in
        let now = asked next events.Settle ∷ moments_behind line run entries in
        let before = tame_or_few_before (said (end_note (is_settled s.world)) ∷ []) (map said s.world.fresh ++ now) beside in
        (open_behind next None told m.may before, open_while next None told m.may before)
    open_in next events.Tick told m beside = tt
    open_in next (events.Inject initiator bytes) told m beside = tt
    open_in next (events.Key unit key) told m beside = tt

  open_before : (entries : List Entry) → length entries + 2 < 2 ^ 32 → AreEntries (beginning run) entries → AreLines run entries → IsTameOrFew (moments_behind line run entries) → OpenBefore line run entries
  open_before [] short all fit beside = tt
  open_before (e ∷ before) short all fit beside =
      let few_lines : length before + 2 < 2 ^ 32 = omega arith in
      let now = asked e.line e.event ∷ moments_behind line run before in
      let s = happens e.line e.event e.told (after (beginning run) before) in
      let there : BesideAt now s = subst (λ ns. IsTameOrFew (map said ns ++ now)) all.0.notes_are beside in
      let behind = tame_or_few_before (asked e.line e.event ∷ []) (moments_behind line run before) (beside_first now s there) in
      let so_far = open_before before few_lines all.1 fit.1 behind in (
        record { begins = open_after before few_lines all.1 fit.1 so_far behind; goes = open_in before few_lines all.1 fit.1 so_far e.line e.event e.told all.0.may there },
        so_far,
      )

-- ---- so it is in every run in which no initiator injected packets, or few logins were given
module _ (gives : Gives) (line : ℕ) (run : Run) (r : IsRun run) (has : 0 < run.units) (small : run.units ≤ 4) (size : length run.start.disks ≡ run.units) where
  all_before : IsTameOrFew (history_of line run) → OpenBefore line run run.entries
  all_before beside = open_before gives line run r.few has small size run.entries r.short r.entries r.lines beside

  all_after : IsTameOrFew (history_of line run) → OpenAfter line run run.entries
  all_after beside = open_after gives line run r.few has small size run.entries r.short r.entries r.lines (all_before beside) beside

  module _ (next : ℕ) (event : Event) (d : DeliversMore event) (told : List (Option Told)) (m : MayAll told (begun (after (beginning run) run.entries))) (beside : BesideAt (asked next event ∷ history_of line run) (after_all told (begun (after (beginning run) run.entries)))) where
    beside_lines : IsTameOrFew (history_of line run)
    beside_lines =
        tame_or_few_before (asked next event ∷ []) (history_of line run) (beside_first (asked next event ∷ history_of line run) (after_all told (begun (after (beginning run) run.entries))) beside)

    all_behind : OpenBehind (asked next event ∷ history_of line run) told (begun (after (beginning run) run.entries))
    all_behind =
        more_by
        (λ x. BesideAt (asked next x ∷ history_of line run) (after_all told (begun (after (beginning run) run.entries))) → OpenBehind (asked next x ∷ history_of line run) told (begun (after (beginning run) run.entries)))
        (λ o t. open_behind gives line run r.few has small size run.entries r.short r.entries r.lines (all_before beside_lines) next o told m t) event d beside

    all_while : OpenWhile (asked next event ∷ history_of line run) told (begun (after (beginning run) run.entries))
    all_while =
        more_by
        (λ x. BesideAt (asked next x ∷ history_of line run) (after_all told (begun (after (beginning run) run.entries))) → OpenWhile (asked next x ∷ history_of line run) told (begun (after (beginning run) run.entries)))
        (λ o t. open_while gives line run r.few has small size run.entries r.short r.entries r.lines (all_before beside_lines) next o told m t) event d beside

-- by what each place needs
by_places : LastLaw → PointersLaw → ClosesLaw → Gives
by_places last pointers closes = record {
  ends = λ line run r has small size so_far beside.
      let past = history_of line run in
      let w = (after (beginning run) run.entries).world in
      let c = closes.after_lines line run r has small size so_far beside in
      open_lists past w c (last.after_lines line run r has small size (are_last past w c
      (λ i b. pointers.after_lines line run r i (subst (λ n. i < n) (count_after run run.entries) b))
      (lasts past (wire_after line run r has small size).serials)
      (ended_lists_law.after_lines line run r has small size so_far)));
  meets = λ line run r has small size next most told m so_far beside.
      let s = after (beginning run) run.entries in
      let w = (after_all told (begun s)).world in
      let past = map said w.fresh ++ asked next (more_deliveries most) ∷ history_of line run in
      let c = closes.between line run r has small size next most told m so_far beside in
      open_lists past w c (last.between line run r has small size next most told m (are_last past w c
      (λ i b. pointers.between line run r next most told m i (subst (λ n. i < n) (count_after run run.entries) (subst (λ n. i < n) (count_between told s) b)))
      (lasts past (wire_between line run r has small size next (more_deliveries most) (delivers most) told m).serials)
      (ended_lists_law.between line run r has small size next (more_deliveries most) (delivers most) told m so_far)));
}

-- where they are so anyhow
by_all : OpenListsLaw → Gives
by_all lists = record {
  ends = λ line run r has small size so_far beside. lists.after_lines line run r has small size beside;
  meets = λ line run r has small size next most told m so_far beside. lists.between line run r has small size next (more_deliveries most) (delivers most) told m beside;
}

pub closing_law : LastLaw → PointersLaw → BegunLaw → ClosingLaw
closing_law last pointers begun_law = record {
  closes = λ places. record {
    after_lines = λ line run r has small size beside. all_after (by_places last pointers (closes_law pointers begun_law places)) line run r has small size beside;
    between = λ line run r has small size next event d told m beside. all_behind (by_places last pointers (closes_law pointers begun_law places)) line run r has small size next event d told m beside;
  };
  before = λ lists line run r has small size beside. all_before (by_all lists) line run r has small size beside;
  between = λ lists line run r has small size next event d told m beside.
      let past = beside_lines (by_all lists) line run r has small size next event d told m beside in
      record {
        before = all_before (by_all lists) line run r has small size past;
        begins = all_after (by_all lists) line run r has small size past;
        goes = all_while (by_all lists) line run r has small size next event d told m beside;
      };
}
