-- In every run: while a login is under way, each live login of its initiator's node has the FIFO of this login.
use Rattle.sbp_world.proofs.Words.Std.{◌≡◌, ◌∙◌, sym, subst, inl, ℕ, ◌^◌, ◌<◌, ◌&&◌, nat_lt, Bool, true, false, cond, List, [], length, Some}
use Rattle.sbp_world.proofs.Words.Wire.{Moment}
use Rattle.sbp_world.proofs.Words.Target.{Disk}
use Rattle.sbp_world.proofs.Words.Laws.{Underway, host_at, new_host, ready_host}
use Rattle.sbp_world.proofs.Words.World.{IsCalmBeside, Run, WorldState, after, beginning, moments_behind, more_deliveries, new_world, ready_logins}
use Rattle.sbp_world.specs.Completing.Latest.{AreEnteredLatest, EnteredLatestLaw}
use Rattle.sbp_world.proofs.Agents.Management.Holding.{Holding}
use Rattle.sbp_world.proofs.Agents.Management.Still.{hist}
use Rattle.sbp_world.proofs.Common.{none_is}
use Rattle.sbp_world.proofs.Completing.AnswersRuns.{by_places}
use Rattle.sbp_world.proofs.Completing.LatestLive.{HasItsFifo, turn_fifo}
use Rattle.sbp_world.proofs.Completing.LatestUnder.{names_latest}
use Rattle.sbp_world.proofs.Completing.PresentBased.{Kit, kit_everywhere}
use Rattle.sbp_world.proofs.Hosts.Runs.{count_after, count_between}
use Rattle.sbp_world.proofs.Lists.Clauses.{open_lists_law}
use Rattle.sbp_world.proofs.Lists.Courses.{EveryPlace, Keeps, at_between, at_lines, more_than_one}
use Rattle.sbp_world.proofs.Lists.Judging.{counts_at}
use Rattle.sbp_world.proofs.Lists.KeptTurns.{id_is, own_is, zero_is}
use Rattle.sbp_world.proofs.Lists.ListsProved.{closing}
use Rattle.sbp_world.proofs.Lists.LiveRuns.{goes_beside, goes_size}
use Rattle.sbp_world.proofs.Lists.OwnCounts.{logins_after, logins_between}

-- ---- over the turns
abbrev pub HaveTheirFifos : List Moment → WorldState → Type 0
HaveTheirFifos past w = (i : ℕ) → i < length w.initiators → IsCalmBeside past i → HasItsFifo past w i

all_fifos : (units ready : ℕ) → 0 < units → (start : List Disk) → Keeps units ready start (Kit start) HaveTheirFifos
all_fifos units ready has start past s later t lines more g h h_now q q_now had i within beside =
    let inside : i < length s.world.initiators = subst (λ n. i < n) (goes_size past s later t g) within in
    turn_fifo units ready start past s later t has g h h_now q q_now i inside beside (had i inside (goes_beside past s later t g i beside))

none_first : (b : Bool) (i : ℕ) (underway : Underway) → (cond b (ready_host i) new_host).operation ≡ Some underway → ⊥
none_first true i underway e = none_is underway e
none_first false i underway e = none_is underway e

first_fifos : (line : ℕ) (run : Run) → HaveTheirFifos (moments_behind line run []) (beginning run).world
unfolding new_world
first_fifos line run i inside beside level underway under logs_in place login there live of = absurd (none_first (run.ready && nat_lt i run.initiators) i underway under)

-- ---- at each place
pub record Known (start : List Disk) (past : List Moment) (w : WorldState) : Type 0 where
  pub kit : Kit start past w
  pub fifos : HaveTheirFifos past w
  pub few : (i : ℕ) → i < length w.initiators → (host_at past i).logins < 2 ^ 32

pub known_everywhere : EveryPlace Known
known_everywhere = record {
  after_lines = λ line run r has small size so_far. record {
    kit = kit_everywhere.after_lines line run r has small size so_far;
    fifos = at_lines Kit HaveTheirFifos kit_everywhere line run r.few has small size (all_fifos run.units (ready_logins run.initiators run.ready) has run.start.disks) (first_fifos line run) r so_far;
    few = λ i l. logins_after line run r i (subst (λ n. i < n) (count_after run run.entries) l);
  };
  between = λ line run r has small size next most told m so_far. record {
    kit = kit_everywhere.between line run r has small size next most told m so_far;
    fifos = at_between Kit HaveTheirFifos kit_everywhere line run r.few has small size (all_fifos run.units (ready_logins run.initiators run.ready) has run.start.disks) (first_fifos line run) r next most told m so_far;
    few = λ i l. logins_between line run r i (subst (λ n. i < n) (count_between told (after (beginning run) run.entries) ∙ count_after run run.entries) l) next told m most;
  };
}

module _ (units ready : ℕ) (has : 0 < units) (start : List Disk) {past : List Moment} {lines : ℕ} (w : WorldState) (h : Holding units ready start past lines w) (k : Known start (hist past w) w) where
  are_latest : AreEnteredLatest start (hist past w) w
  are_latest tame i inside level underway under logs_in place login there live of =
      let together = sym (zero_is units ready has start w h i inside) ∙ (level ∙ own_is units ready has start w h i inside) in
      let latest = names_latest i (hist past w) (counts_at w h.sound.stands) (k.kit.with_held.more.given.laws.lasts i inside) (k.few i inside) underway under logs_in in
      record { some = latest.some; goes = k.fifos i inside (tame i, inl tame) together underway under logs_in place login there live (of ∙ id_is units ready has start w h i inside) ∙ latest.fifo }

latest_everywhere : EveryPlace AreEnteredLatest
latest_everywhere = by_places Known AreEnteredLatest (λ units ready has start past lines w h k. are_latest units ready has start w h k) known_everywhere

pub entered_latest_law : EnteredLatestLaw
entered_latest_law = record {
  after_lines = λ line run r has small size tame. latest_everywhere.after_lines line run r has small size (closing.before open_lists_law line run r has small size (inl tame)) tame;
  between = λ line run r has small size next most told m tame.
      latest_everywhere.between line run r has small size next most told m (closing.between open_lists_law line run r has small size next (more_deliveries most) (more_than_one most) told m (inl tame)) tame;
}
