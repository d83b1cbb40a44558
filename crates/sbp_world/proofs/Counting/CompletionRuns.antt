-- Over every run in which nobody injected packets the deliveries are bounded, and a `settle` settles.
use Rattle.sbp_world.proofs.Words.Std.{arith, ◌≡◌, ◌∙◌, refl, sym, ap, subst, inl, ℕ, ◌+◌, ◌^◌, ◌<◌, ◌≤◌, Bool, List, [], ◌∷◌, ◌++◌, map, length}
use Rattle.sbp_world.proofs.Words.Wire.{Moment, asked, said}
use Rattle.sbp_world.proofs.Words.Initiator.{InitiatorState}
use Rattle.sbp_world.proofs.Words.World.{Always, AreEntries, AreLines, Entry, IsCalm, IsRun, Run, Under, after, after_all, beginning, begun, history_of, initiator_at, moments_behind, more_deliveries, new_world, ready_logins}
use Rattle.sbp_initiator.proofs.Quadlets.{quadlet_law}
use Rattle.sbp_journal.specs.Run.{history}
use Rattle.sbp_journal.specs.declared.event.Event.TheVariants as events
use Rattle.sbp_laws.specs.Completion.{BoundedDeliveries, IsDelivering}
use Rattle.sbp_target.proofs.Requests.Received.{deliveries_are_counted}
use Rattle.sbp_target.proofs.SoundAgents.Calls.{agents_stay_sound}
use Rattle.sbp_world.specs.Counting.Bounded.{CompletionLaw}
use Rattle.sbp_world.specs.Counting.Left.{left}
use Rattle.sbp_world.specs.Lists.OwnLogins.{IsTame}
use Rattle.sbp_world.specs.Making.{notes_begin}
use Rattle.sbp_world.specs.Wire.Journal.{journal_entries, journal_run}
use Rattle.sbp_world.proofs.Agents.Holders.{seats_after}
use Rattle.sbp_world.proofs.Agents.Management.Lines.{opens}
use Rattle.sbp_world.proofs.Agents.Management.Runs.{holds_after, no_repeats, not_reset}
use Rattle.sbp_world.proofs.Agents.Management.Still.{hist}
use Rattle.sbp_world.proofs.Agents.Seating.{all_seats, opened}
use Rattle.sbp_world.proofs.Counting.Bounded.{Bound, bounded}
use Rattle.sbp_world.proofs.Counting.BringsRuns.{runs_bring_few}
use Rattle.sbp_world.proofs.Counting.Counted.{IsCounted, Knows, counted_walks}
use Rattle.sbp_world.proofs.Counting.Places.{places_law}
use Rattle.sbp_world.proofs.Counting.Settling.{AllBounded, settle_settles}
use Rattle.sbp_world.proofs.Counting.StartRuns.{at_start_law, flights_law}
use Rattle.sbp_world.proofs.Hosts.OrbRuns.{Orbs, orbs_between, orbs_of_runs}
use Rattle.sbp_world.proofs.Hosts.Runs.{are_told, count_after, count_between}
use Rattle.sbp_world.proofs.Lists.Calm.{asked_calm, calm_before}
use Rattle.sbp_world.proofs.Lists.Clauses.{open_lists_law}
use Rattle.sbp_world.proofs.Lists.Courses.{more_than_one}
use Rattle.sbp_world.proofs.Lists.JoinLaws.{lines_same, moments_same}
use Rattle.sbp_world.proofs.Lists.ListsProved.{closing}
use Rattle.sbp_world.proofs.Lists.Walks.{walked_after}
use Rattle.sbp_world.proofs.Wire.Entries.{bus_law}

-- ---- what is known of each place
quads_of : (ready : Bool) (past : List Moment) (i : ℕ) (s : InitiatorState) → Orbs ready past i s → length s.quads ≤ 256
quads_of ready past i s o = subst (λ (x : InitiatorState). length x.quads ≤ 256) o.is (quadlet_law.few i ready o.calls)

known_law : Always Knows
known_law = record {
  after_lines = λ line run r has small size. record {
    known = λ tame. record {
      place = places_law.after_lines line run r has small size tame;
      few = (runs_bring_few open_lists_law).after_lines line run r has small size (inl tame);
      quads = λ i b. quads_of run.ready (history_of line run) i (initiator_at (after (beginning run) run.entries).world i) (orbs_of_runs line run r i (subst (λ n. i < n) (count_after run run.entries) b));
      leaves = (seats_after line run run.entries r.few has small size r.short r.entries r.lines).leaves;
    };
    start = at_start_law.after_lines line run r has small size;
  };
  between = λ line run r has small size next most told m.
      let here = after (beginning run) run.entries in
      let w = (after_all told (begun here)).world in
      let now = map said w.fresh ++ asked next (more_deliveries most) ∷ history_of line run in
      let d = more_than_one most in
      let h = holds_after line run run.entries r.few has small size r.short r.entries r.lines in
      let logins = ready_logins run.initiators run.ready in
      let begins = opens run.units logins has run.start.disks next (more_deliveries most) here.world (not_reset (more_deliveries most) d) h.holds in
      let seats = all_seats run.units logins has run.start.disks told (are_told told here m) (begun here) begins (opened run.units logins has run.start.disks here.world (seats_after line run run.entries r.few has small size r.short r.entries r.lines)) (no_repeats (more_deliveries most) (hist h.past here.world) next d) in
      let inside : (i : ℕ) → i < length w.initiators → i < run.initiators = λ i b. subst (λ n. i < n) (count_between told here ∙ count_after run run.entries) b in
      record {
        known = λ tame. record {
          place = places_law.between line run r has small size next most told m tame;
          few = (runs_bring_few open_lists_law).between line run r has small size next most told m (inl tame);
          quads = λ i b. quads_of run.ready now i (initiator_at w i) (orbs_between line run r next most told m i (inside i b));
          leaves = seats.leaves;
        };
        start = at_start_law.between line run r has small size next most told m;
      };
}

-- ---- as a run begins
first_bound : (line initiators : ℕ) (ready : Bool) (n : ℕ) → Bound (said (notes_begin initiators ready) ∷ asked line (events.Begin initiators ready) ∷ []) n
first_bound line initiators ready n [] earlier at event e d all lossless = absurd (let no : asked at event ∷ earlier ≡ said (notes_begin initiators ready) ∷ asked line (events.Begin initiators ready) ∷ [] = e in cc)
first_bound line initiators ready n (one ∷ []) earlier at event e d all lossless =
    absurd (subst IsDelivering (let same : event ≡ events.Begin initiators ready = (let z : one ∷ asked at event ∷ earlier ≡ said (notes_begin initiators ready) ∷ asked line (events.Begin initiators ready) ∷ [] = e in cc) in same) d)
first_bound line initiators ready n (one ∷ two ∷ later) earlier at event e d all lossless =
    absurd (none later (let z : later ++ asked at event ∷ earlier ≡ [] = (let y : one ∷ two ∷ (later ++ asked at event ∷ earlier) ≡ said (notes_begin initiators ready) ∷ asked line (events.Begin initiators ready) ∷ [] = e in cc) in z))
  where
    none : (later : List Moment) → later ++ asked at event ∷ earlier ≡ [] → ⊥
    none [] z = cc
    none (m ∷ later) z = cc

first_counted : (wild : ℕ → Bool) (line : ℕ) (run : Run) → IsCounted (moments_behind line run []) (beginning run).world
unfolding new_world
first_counted wild line run = record {
  agents = agents_stay_sound.new run.units (ready_logins run.initiators run.ready);
  bounds = λ tame some. first_bound line run.initiators run.ready _;
}

-- ---- every run
nothing_under : Under (λ past w. Unit {0})
nothing_under = record { after_lines = λ line run r has small size o. tt; between = λ line run r has small size next most told m o. tt }

module _ (line : ℕ) (run : Run) (r : IsRun run) (some : 0 < run.initiators) (has : 0 < run.units) (small : run.units ≤ 4) (size : length run.start.disks ≡ run.units) (tame : IsTame (history_of line run)) where
  counted : IsCounted (history_of line run) (after (beginning run) run.entries).world
  counted =
      walked_after Knows (λ past w. Unit {0}) (λ wild. IsCounted) known_law nothing_under (λ wild units ready more start. counted_walks deliveries_are_counted agents_stay_sound wild units ready more start) first_counted line run r has small size
      (closing.before open_lists_law line run r has small size (inl tame))

  pub bounded_run : BoundedDeliveries (history_of line run)
  bounded_run =
      let w = (after (beginning run) run.entries).world in
      bounded (history_of line run) (left (history_of line run) w) (flights_law.after_lines line run r has small size) (counted.bounds tame (subst (λ n. 0 < n) (sym (count_after run run.entries)) some))

-- ---- so it is of the fronts of a run
pub entries_same : (line : ℕ) (run : Run) (entries all : List Entry) → history (journal_entries line run entries) ≡ history (journal_entries line (record run { entries = all }) entries)
entries_same line run [] all = refl
entries_same line run (e ∷ before) all = ap (λ ms. map said e.notes ++ asked e.line e.event ∷ ms) (entries_same line run before all)

module _ (line : ℕ) (run : Run) (few : run.initiators ≤ 4) (some : 0 < run.initiators) (has : 0 < run.units) (small : run.units ≤ 4) (size : length run.start.disks ≡ run.units) where
  abbrev front : List Entry → Run
  front entries = record run { entries = entries }

  history_is : (entries : List Entry) → history (journal_entries line run entries) ≡ history_of line (front entries)
  history_is entries = entries_same line run entries entries ∙ bus_law.tie line (front entries)

  bounded_front : (entries : List Entry) → length entries + 2 < 2 ^ 32 → AreEntries (beginning run) entries → AreLines run entries → IsTame (moments_behind line run entries) → BoundedDeliveries (history (journal_entries line run entries))
  bounded_front entries short every fit tame =
      subst BoundedDeliveries (sym (history_is entries))
      (bounded_run line (front entries) (record { few = few; short = short; entries = every; lines = lines_same run entries entries fit }) some has small size
      (λ i. subst (λ ms. IsCalm ms i) (sym (moments_same line run entries entries)) (tame i)))

  all_bounded : (entries : List Entry) → length entries + 2 < 2 ^ 32 → AreEntries (beginning run) entries → AreLines run entries → IsTame (moments_behind line run entries) → AllBounded (journal_entries line run entries)
  all_bounded [] short every fit tame = (bounded_front [] short every fit tame, tt)
  all_bounded (e ∷ before) short every fit tame = (
    bounded_front (e ∷ before) short every fit tame,
    all_bounded before (omega arith) every.1 fit.1 (λ i. asked_calm e.line e.event (moments_behind line run before) i (calm_before (map said e.notes) (asked e.line e.event ∷ moments_behind line run before) i (tame i))),
  )

pub completion_law : CompletionLaw
completion_law line run r some has small size tame = record {
  bounded = subst BoundedDeliveries (sym (bus_law.tie line run)) (bounded_run line run r some has small size tame);
  settles =
      settle_settles run.start.disks (journal_run line run).entries (bus_law.lawful line run r.few (sym size) r.short r.entries r.lines).lines
      (all_bounded line run r.few some has small size run.entries r.short r.entries r.lines tame);
}
