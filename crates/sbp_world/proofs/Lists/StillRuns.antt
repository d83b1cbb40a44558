-- At each place of a run in which no initiator injected packets, or few logins were given, each agent that has a list open of an initiator that injected none has ORBs that responses
-- brought, which are the ones prepared last in their slots.
use Rattle.sbp_world.proofs.Words.Std.{◌≡◌, ◌∙◌, refl, sym, ap, subst, ◌<◌, ◌≤◌, ◌+◌, ℕ, zero, suc, Bool, true, false, List, ◌∷◌, ◌++◌, map, length, Option, slice_index_or}
use Rattle.sbp_world.proofs.Words.Wire.{Moment, asked, said}
use Rattle.sbp_world.proofs.Words.Target.{Disk, Told, Desk, new_desk}
use Rattle.sbp_world.proofs.Words.World.{has_list, history_of, new_world, ready_logins, Run, after, beginning, MayAll, after_all, Scene, WorldState, begun, IsRun, more_deliveries, OpenListsLaw, IsCalm, OpenBefore, OpenBetween, is_open_at, OpensLaw, IsTameOrFew}
use Rattle.std.specs.Prelude.{replicate}
use Rattle.sbp_world.proofs.Agents.Management.Still.{hist}
use Rattle.sbp_world.proofs.Hosts.Runs.{count_after, count_between, run_law}
use Rattle.sbp_world.proofs.Lists.Courses.{EveryPlace, Keeps, at_between, at_lines, more_than_one}
use Rattle.sbp_world.proofs.Lists.LedRuns.{led_as_got}
use Rattle.sbp_world.proofs.Lists.LinedAppends.{lined_appends, lined_between}
use Rattle.sbp_world.proofs.Lists.LiveRuns.{goes_tame_or_few}
use Rattle.sbp_world.proofs.Lists.OpenProved.{opens_law, nobody_needs}
use Rattle.sbp_world.proofs.Lists.OrbWaits.{asked_everywhere, brought_everywhere}
use Rattle.sbp_world.proofs.Lists.RunLaws.{along_law, order_run_law}
use Rattle.sbp_world.proofs.Lists.RunSites.{site_after, site_between}
use Rattle.sbp_world.proofs.Lists.Runs.{KeptAfter, holds_at, kept_after}
use Rattle.sbp_world.proofs.Lists.StillReads.{AreStill}
use Rattle.sbp_world.proofs.Lists.StillTurns.{Ground, turn_still}
use Rattle.sbp_world.proofs.Common.{untrue}

abbrev wilds : ℕ → Bool
wilds = λ i. true

abbrev opened : (i : ℕ) → true ≡ false → OpensLaw
opened i own = opens_law

module _ (open_lists : OpenListsLaw) (line : ℕ) (run : Run) (r : IsRun run) (has : 0 < run.units) (small : run.units ≤ 4) (size : length run.start.disks ≡ run.units) where
  abbrev last : Scene
  last = after (beginning run) run.entries

  kept : KeptAfter wilds opened line run r.few has small size run.entries last.world
  kept = kept_after wilds opened line run r.few has small size run.entries r.short r.entries r.lines (λ i f. nobody_needs (OpenBefore line run run.entries) f) (λ i f. nobody_needs (IsCalm (history_of line run) i) f)

  inside : (i : ℕ) → i < length last.world.initiators → i < run.initiators
  inside i b = subst (λ n. i < n) (count_after run run.entries) b

  ground_after : OpenBefore line run run.entries → Ground run.start.disks (history_of line run) last.world
  ground_after so_far = record {
    past = kept.past;
    is = kept.is;
    site = site_after line run r has small size kept.past (length run.entries) kept.holds (sym kept.is);
    law = order_run_law.after_lines line run r has small size so_far;
    number = λ i b. (run_law.rows line run r i (inside i b)).number;
    lined = λ i b. lined_appends line run r i (inside i b);
    asked_so = asked_everywhere.after_lines line run r has small size so_far;
    led_so = (led_as_got open_lists).after_lines line run r has small size so_far;
    lists = λ beside. open_lists.after_lines line run r has small size beside;
    along = along_law.after_lines line run r has small size so_far;
    brought = brought_everywhere.after_lines line run r has small size so_far;
  }

  module _ (next : ℕ) (most : Option ℕ) (told : List (Option Told)) (m : MayAll told (begun last)) (so_far : OpenBetween line run next (more_deliveries most) told) where
    abbrev end : WorldState
    end = (after_all told (begun last)).world

    abbrev ms : List Moment
    ms = map said end.fresh ++ asked next (more_deliveries most) ∷ history_of line run

    inside_end : (i : ℕ) → i < length end.initiators → i < run.initiators
    inside_end i b = inside i (subst (λ n. i < n) (count_between told last) b)

    is : hist (asked next (more_deliveries most) ∷ hist kept.past last.world) end ≡ ms
    is = ap (λ x. map said end.fresh ++ asked next (more_deliveries most) ∷ x) kept.is

    ground_between : Ground run.start.disks ms end
    ground_between =
        let d = more_than_one most in
        let event = more_deliveries most in
        let k = kept in
        let holds = holds_at wilds opened line run r.few has small size run.entries r.short r.entries r.lines k.past (length run.entries) k.holds k.is next event d told m in
        record {
          past = asked next event ∷ hist k.past last.world;
          is = is;
          site = site_between line run r has small size next event d told m (asked next event ∷ hist k.past last.world) (length run.entries + 1) holds (sym is);
          law = order_run_law.between line run r has small size next event d told m so_far;
          number = λ i b. (run_law.between line run r next most told m i (inside_end i b)).number;
          lined = λ i b. lined_between line run r next most told m i (inside_end i b);
          asked_so = asked_everywhere.between line run r has small size next most told m so_far;
          led_so = (led_as_got open_lists).between line run r has small size next most told m so_far;
          lists = λ beside. open_lists.between line run r has small size next event d told m beside;
          along = along_law.between line run r has small size next event d told m so_far;
          brought = brought_everywhere.between line run r has small size next most told m so_far;
        }

pub ground_everywhere : OpenListsLaw → EveryPlace Ground
ground_everywhere lists = record {
  after_lines = λ line run r has small size so_far. ground_after lists line run r has small size so_far;
  between = λ line run r has small size next most told m so_far. ground_between lists line run r has small size next most told m so_far;
}

abbrev pub StillSo : List Disk → List Moment → WorldState → Type 0
StillSo start past w = IsTameOrFew past → AreStill start past w

all_still : (units ready : ℕ) → 0 < units → (start : List Disk) → Keeps units ready start (Ground start) (StillSo start)
all_still units ready has start past s later t lines more g h h_now q q_now still beside =
    turn_still units ready has start past s later t g lines more h h_now q q_now beside (still (goes_tame_or_few past s later t g beside))

-- in a new world no agent has a list
desks_new : (n p : ℕ) → slice_index_or (replicate n new_desk) p new_desk ≡ new_desk
desks_new zero p = refl
desks_new (suc n) zero = refl
desks_new (suc n) (suc p) = desks_new n p

pub first_closed : (run : Run) (place : ℕ) → is_open_at (beginning run).world place ≡ false
unfolding new_world
first_closed run place = ap (λ (d : Desk). has_list d.agent.phase) (desks_new 8 place)

first_still : (start : List Disk) (run : Run) (ms : List Moment) → StillSo start ms (beginning run).world
first_still start run ms beside place small open_there calm = untrue (sym (first_closed run place) ∙ open_there)

pub still_everywhere : OpenListsLaw → EveryPlace StillSo
still_everywhere lists = record {
  after_lines = λ line run r has small size so_far.
      at_lines Ground (StillSo run.start.disks) (ground_everywhere lists) line run r.few has small size (all_still run.units (ready_logins run.initiators run.ready) has run.start.disks) (first_still run.start.disks run _) r so_far;
  between = λ line run r has small size next most told m so_far.
      at_between Ground (StillSo run.start.disks) (ground_everywhere lists) line run r.few has small size (all_still run.units (ready_logins run.initiators run.ready) has run.start.disks) (first_still run.start.disks run _) r next most told m so_far;
}
