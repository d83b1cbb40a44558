-- After each line of a run the terms of its history are the states of the two ends of its world.
use Rattle.sbp_world.proofs.Words.Std.{◌≡◌, refl, sym, subst, ◌<◌, ◌≤◌, ℕ, true, List, [], length}
use Rattle.sbp_world.proofs.Words.Wire.{Moment}
use Rattle.sbp_world.proofs.Words.Target.{Disk}
use Rattle.sbp_world.proofs.Words.World.{history_of, IsRun, IsTameOrFew, IsCalm, IsOpenAt, initiator_in, is_open_at, AreApart, ready_logins, Run, after, beginning, AreClosed, AreInitiators, AreOpenLists, AreStates, IsTarget, Scene, WorldState, AreTaken}
use Rattle.sbp_world.proofs.Agents.AskedRuns.{asked_run_law}
use Rattle.sbp_world.proofs.Agents.CrewRuns.{agents_run_law, serials_law}
use Rattle.sbp_world.proofs.Agents.Enabling.{enabled_law}
use Rattle.sbp_world.proofs.Agents.Holders.{holders_law}
use Rattle.sbp_world.proofs.Agents.Management.Holding.{Holding}
use Rattle.sbp_world.proofs.Agents.Management.Runs.{HoldsAfter, holds_after, terms_law}
use Rattle.sbp_world.proofs.Agents.Management.Still.{hist}
use Rattle.sbp_world.proofs.Agents.Registering.{enabled_terms_law}
use Rattle.sbp_world.proofs.Agents.Units.{units_law}
use Rattle.sbp_world.proofs.Hosts.Hosted.{host_law}
use Rattle.sbp_world.proofs.Hosts.Runs.{count_after, run_law}
use Rattle.sbp_world.proofs.Lists.Clauses.{one_up, open_lists_law}
use Rattle.sbp_world.proofs.Lists.OpenSends.{latest_is, none_open, open_is}
use Rattle.sbp_world.proofs.Lists.OpenProved.{taken_lists_law}
use Rattle.sbp_world.proofs.Lists.RunSites.{site_after}
use Rattle.sbp_world.proofs.Lists.Sites.{Site}

-- ---- at a place of a run, by the history of its world
module _ (units ready : ℕ) (has : 0 < units) (start : List Disk) (past : List Moment) (w : WorldState) {lines : ℕ} (h : Holding units ready start past lines w) (site : Site start past w) where
  all_closed : AreClosed start (hist past w) w
  all_closed i none = none_open units ready has start past w h site (hist past w) [] tt refl i none

  module _ (taken : AreTaken start (hist past w) w) (apart : AreApart (hist past w) w) (listed : (place : ℕ) → place < 8 → is_open_at w place ≡ true → IsCalm (hist past w) (initiator_in w place) → IsOpenAt (hist past w) w place) where
    open_at : AreOpenLists start (hist past w) w
    open_at place b open_there calm =
        let at = listed place b open_there calm in
        record {
          n = at.n;
          held = at.list;
          opened = open_is units ready has start past w h site (hist past w) [] tt refl taken apart place b open_there calm at;
          latest = latest_is units ready has start past w h site (hist past w) [] tt refl taken apart place b open_there calm at;
        }

-- ---- after each line
module _ (line : ℕ) (run : Run) (r : IsRun run) (has : 0 < run.units) (small : run.units ≤ 4) (size : length run.start.disks ≡ run.units) where
  abbrev s : Scene
  s = after (beginning run) run.entries

  abbrev past : List Moment
  past = history_of line run

  abbrev start : List Disk
  start = run.start.disks

  abbrev logins : ℕ
  logins = ready_logins run.initiators run.ready

  inside : (i : ℕ) → i < length s.world.initiators → i < run.initiators
  inside i b = subst (λ n. i < n) (count_after run run.entries) b

  holds : HoldsAfter line run run.entries s.world
  holds = holds_after line run run.entries r.few has small size r.short r.entries r.lines

  site : Site start holds.past s.world
  site = site_after line run r has small size holds.past (length run.entries) holds.holds (sym holds.is)

  initiators : AreInitiators past s.world
  initiators = record {
    hosts = λ i b. run_law.rows line run r i (inside i b);
    sessions = λ i b. host_law.core line run r i (inside i b);
  }

  target : IsTarget start past s
  target = record {
    agents = agents_run_law line run r.few has small size r.short r.entries r.lines;
    asked = asked_run_law line run r.few has small size r.short r.entries r.lines;
    purposes = serials_law line run r.few has small size r.short r.entries r.lines;
    places = holders_law line run r.few has small size r.short r.entries r.lines;
    management = terms_law line run r.few has small size r.short r.entries r.lines;
    enabled = enabled_terms_law line run r.few has small size r.short r.entries r.lines;
    live = enabled_law run r.few has small size r.short r.entries r.lines;
    units = units_law line run r.few has small size r.short r.entries r.lines;
  }

  closed : AreClosed start past s.world
  closed = subst (λ ms. AreClosed start ms s.world) holds.is (all_closed run.units logins has start holds.past s.world holds.holds site)

  pub are_states : AreStates start past s
  are_states = record { initiators = initiators; target = target; closed = closed }

  module _ (tame : IsTameOrFew past) where
    pub are_open_lists : AreOpenLists start past s.world
    are_open_lists =
        subst (λ ms. AreOpenLists start ms s.world) holds.is
        (open_at run.units logins has start holds.past s.world holds.holds site
        (subst (λ ms. AreTaken start ms s.world) (sym holds.is) (taken_lists_law.after_lines line run r has small size))
        (subst (λ ms. AreApart ms s.world) (sym holds.is) (one_up.after_lines line run r has small size tame))
        (subst (λ ms. (place : ℕ) → place < 8 → is_open_at s.world place ≡ true → IsCalm ms (initiator_in s.world place) → IsOpenAt ms s.world place) (sym holds.is) (open_lists_law.after_lines line run r has small size tame).listed))
