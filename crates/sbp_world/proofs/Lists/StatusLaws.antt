-- The status law of runs: each status is taken as its ORB ended, of the packet that the end sent.
use Rattle.sbp_world.proofs.Words.Std.{◌≡◌, ◌∙◌, sym, ap, subst, ◌⊎◌, inl, inr, ◌<◌, ◌≤◌, ℕ, Bool, true, false, List, [], ◌∷◌, ◌++◌, map, length, Option, Some, None, IsSomeAnd, false≢true}
use Rattle.sbp_world.proofs.Words.Wire.{Access, Moment, asked, said, terms}
use Rattle.sbp_world.proofs.Words.Target.{Disk}
use Rattle.sbp_world.proofs.Words.Initiator.{start_of, StatusKind}
use Rattle.sbp_world.proofs.Words.Laws.{ExecutionLaw, Host, host_at, injectors, last_got, slot_at, access_at, IsTaken, SpellsStatus, StatusLaw, TakenAt, fifo_of, EachMoment}
use Rattle.sbp_world.proofs.Words.World.{history_of, Run, after, beginning, after_all, begun, IsRun, more_deliveries, IsTakenBy, Spells, TakenOf, is_place_fifo, Under, WhereTameOrFew, OpenBefore, IsTameOrFew, AllStatuses, IsTakenSo, TakenSo, AllTakenOf, AtLogin, IsTakenOf, SpellsStatusTo, StatusOfLaw, StatusOfRunLaw, TakenOfAt, TakenOfOne}
use Rattle.bus_memory.specs.declared.window.Window.TheVariants as windows
use Rattle.sbp_journal.specs.declared.note.Note.TheVariants as notes
use Rattle.sbp_world.proofs.Hosts.Runs.{count_after, count_between}
use Rattle.sbp_world.proofs.Hosts.Statuses.Finished.{finished_law}
use Rattle.sbp_world.proofs.Hosts.Statuses.Ranges.{InsideIn, run_inside}
use Rattle.sbp_world.proofs.Hosts.Statuses.Runs.{taking_law}
use Rattle.sbp_world.proofs.Lists.Executes.{execution_run_law}
use Rattle.sbp_world.proofs.Lists.StatusChecks.{ended_told}
use Rattle.sbp_world.proofs.Common.{itself, delivers}

-- ---- of one initiator
spells_to : (found : Option Access) (host : Host) (address : ℕ) (status : StatusKind) → IsSomeAnd found (λ access. Spells access host address status) → IsSomeAnd found (λ access. SpellsStatusTo access host address status)
spells_to None host address status s = absurd s
spells_to (Some access) host address status s = record { is_write = s.is_write; goes = s.goes; src = s.src; spells = s.spells }

module _ (wild : ℕ → Bool) (start : List Disk) (i : ℕ) (own : wild i ≡ false) where
  taken_of : (past : List Moment) (n k : ℕ) (status : StatusKind) → IsTakenSo past i n k status → IsTakenBy past i n k status → ExecutionLaw wild start past → IsTakenOf past i n k status
  taken_of past n k status s t law =
      let e = s.ended in
      record {
        once = t.once;
        ended = e.is ∙ ap (λ x. Some x) (e.same (ended_told wild start i own past law n k e.status e.is));
        sent = s.sent;
        written = spells_to (access_at (terms past) (last_got past)) (host_at past i) (start_of (windows.Orb (slot_at past i n k))) status t.written;
      }

  each_taken : (past : List Moment) → EachMoment (TakenSo i) past → EachMoment (TakenOf i) past → ExecutionLaw wild start past → EachMoment (TakenOfOne i) past
  each_taken [] s t law = tt
  each_taken (said (notes.Taken j n k status answer) ∷ past) s t law = (λ same. taken_of past n k status (s.0 same) (t.0 same) law.1, each_taken past s.1 t.1 law.1)
  each_taken (said note ∷ past) s t law = (tt, each_taken past s.1 t.1 law.1)
  each_taken (asked line event ∷ past) s t law = (tt, each_taken past s.1 t.1 law.1)

-- ---- of all that injected no packets
module _ (wild : ℕ → Bool) (most : ℕ) where
  all_taken : (past : List Moment) → InsideIn most past → ((i : ℕ) → i < most → wild i ≡ false → EachMoment (TakenOfOne i) past) → EachMoment (TakenOfAt wild) past
  all_taken [] h f = tt
  all_taken (said (notes.Taken i n k status answer) ∷ past) h f = (λ own. (f i h.0 own).0 (itself i), all_taken past h.1 (λ j b own. (f j b own).1))
  all_taken (said note ∷ past) h f = (tt, all_taken past h (λ j b own. (f j b own).1))
  all_taken (asked line event ∷ past) h f = (tt, all_taken past h (λ j b own. (f j b own).1))

-- to the FIFO of a login
to_login : (found : Option Access) (host : Host) (address : ℕ) (status : StatusKind) → IsSomeAnd found (λ access. SpellsStatusTo access host address status) → IsSomeAnd found (λ access. is_place_fifo access.offset ≡ false) → IsSomeAnd found (λ access. SpellsStatus access (fifo_of host) address status)
to_login None host address status s f = absurd s
to_login (Some access) host address status s f = record { is_write = s.is_write; goes = by s.goes; src = s.src; spells = s.spells }
  where
    by : (access.offset ≡ fifo_of host) ⊎ (is_place_fifo access.offset ≡ true) → access.offset ≡ fifo_of host
    by (inl g) = g
    by (inr g) = absurd (false≢true (sym f ∙ g))

at_login : (past : List Moment) (i n k : ℕ) (status : StatusKind) → IsTakenOf past i n k status → IsSomeAnd (access_at (terms past) (last_got past)) (λ access. is_place_fifo access.offset ≡ false) → IsTaken past i n k status
at_login past i n k status t f = record {
  once = t.once;
  ended = t.ended;
  sent = t.sent;
  written = to_login (access_at (terms past) (last_got past)) (host_at past i) (start_of (windows.Orb (slot_at past i n k))) status t.written f;
}

all_logins : (wild : ℕ → Bool) (past : List Moment) → EachMoment (TakenOfAt wild) past → EachMoment (AtLogin wild) past → EachMoment (TakenAt wild) past
all_logins wild [] t f = tt
all_logins wild (said (notes.Taken i n k status answer) ∷ past) t f = (λ own. at_login past i n k status (t.0 own) (f.0 own), all_logins wild past t.1 f.1)
all_logins wild (said note ∷ past) t f = (tt, all_logins wild past t.1 f.1)
all_logins wild (asked line event ∷ past) t f = (tt, all_logins wild past t.1 f.1)

-- ---- of runs

module _ (statuses : Under (WhereTameOrFew AllStatuses)) where
  places : Under (WhereTameOrFew AllTakenOf)
  places = record {
    after_lines = λ line run r has small size so_far beside i b calm.
        let past = history_of line run in
        let inside : i < run.initiators = subst (λ n. i < n) (count_after run run.entries) b in
        each_taken (injectors past) run.start.disks i calm past (statuses.after_lines line run r has small size so_far beside i b calm).taken (taking_law.takings line run r i inside).taken (execution_run_law.after_lines line run r has small size so_far);
    between = λ line run r has small size next most told m so_far beside i b calm.
        let s = after (beginning run) run.entries in
        let now = map said (after_all told (begun s)).world.fresh ++ asked next (more_deliveries most) ∷ history_of line run in
        let inside : i < run.initiators = subst (λ n. i < n) (count_between told s ∙ count_after run run.entries) b in
        each_taken (injectors now) run.start.disks i calm now (statuses.between line run r has small size next most told m so_far beside i b calm).taken (taking_law.between line run r next most told m i inside).taken
        (execution_run_law.between line run r has small size next (more_deliveries most) (delivers most) told m so_far);
  }

  module _ (line : ℕ) (run : Run) (r : IsRun run) (has : 0 < run.units) (small : run.units ≤ 4) (size : length run.start.disks ≡ run.units) (so_far : OpenBefore line run run.entries) (beside : IsTameOrFew (history_of line run)) where
    abbrev past : List Moment
    past = history_of line run

    taken_here : EachMoment (TakenOfAt (injectors past)) past
    taken_here =
        all_taken (injectors past) run.initiators past (run_inside line run r)
        (λ i b own. places.after_lines line run r has small size so_far beside i (subst (λ n. i < n) (sym (count_after run run.entries)) b) own)

    law_here : StatusOfLaw (injectors past) past
    law_here = record { taken = taken_here; each = finished_law.each line run r (injectors past) }

    at_logins_here : EachMoment (AtLogin (injectors past)) past → StatusLaw (injectors past) past
    at_logins_here f = record { taken = all_logins (injectors past) past taken_here f; each = finished_law.each line run r (injectors past) }

  pub status_of_run_law : StatusOfRunLaw
  status_of_run_law = record {
    places = places;
    after_lines = λ line run r has small size so_far beside. law_here line run r has small size so_far beside;
    at_logins = λ line run r has small size so_far beside f. at_logins_here line run r has small size so_far beside f;
  }
