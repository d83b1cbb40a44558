-- At each place of a run an initiator ignored for its slot no packet to one of its response buffers.
use Rattle.sbp_world.proofs.Words.Std.{◌∙◌, subst, ℕ, ◌<◌, List, length}
use Rattle.sbp_world.proofs.Words.Wire.{Moment}
use Rattle.sbp_world.proofs.Words.Target.{Disk}
use Rattle.sbp_world.proofs.Words.World.{after, beginning, WorldState, more_deliveries}
use Rattle.sbp_world.proofs.Hosts.Runs.{count_after, count_between}
use Rattle.sbp_world.proofs.Lists.Courses.{EveryPlace}
use Rattle.sbp_world.proofs.Lists.SlotShut.{AllApart, apart_between, apart_of}
use Rattle.sbp_world.proofs.Lists.UnderwayRuns.{delivering}

abbrev pub AreApartAt : List Disk → List Moment → WorldState → Type 0
AreApartAt start past w = (i : ℕ) → i < length w.initiators → AllApart past i

pub apart_everywhere : EveryPlace AreApartAt
apart_everywhere = record {
  after_lines = λ line run r has small size so_far.
      λ i l. apart_of line run r i (subst (λ n. i < n) (count_after run run.entries) l);
  between = λ line run r has small size next most told m so_far.
      λ i l. apart_between line run r next (more_deliveries most) told (delivering told most) m i (subst (λ n. i < n) (count_between told (after (beginning run) run.entries) ∙ count_after run run.entries) l);
}
