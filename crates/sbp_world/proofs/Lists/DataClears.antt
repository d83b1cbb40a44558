-- The management asks to write into no buffer of an initiator that injected no packets, at each place of every run.
use Rattle.sbp_world.proofs.Words.Std.{ℕ, ◌<◌, List, [], length}
use Rattle.sbp_world.proofs.Words.Wire.{Moment}
use Rattle.sbp_world.proofs.Words.Target.{Disk, answer_in}
use Rattle.sbp_world.proofs.Words.Laws.{EachMoment}
use Rattle.sbp_world.proofs.Words.World.{moments_behind, new_world, ready_logins, Run, beginning, WorldState, IsCalm, BasedAt, AreShort}
use Rattle.sbp_world.proofs.Agents.Management.Holding.{Holding}
use Rattle.sbp_world.proofs.Agents.Management.Still.{hist}
use Rattle.sbp_world.proofs.Lists.Courses.{EveryPlace, Keeps, at_between, at_lines}
use Rattle.sbp_world.proofs.Lists.BufferClears.{Ground, few_of, ground_everywhere, no_operation, node_is, own_of}
use Rattle.sbp_world.proofs.Lists.DataDry.{reply_dry}
use Rattle.sbp_world.proofs.Lists.DataPlaces.{IsOfficeDry}
use Rattle.sbp_world.proofs.Lists.OwnOps.{brings_good}
use Rattle.sbp_world.proofs.Lists.OpenedReplied.{pays_as as payload_is}

module _ (units ready : ℕ) (more_units : 0 < units) (start : List Disk) {past : List Moment} {lines : ℕ} (w : WorldState) (h : Holding units ready start past lines w) (g : Ground start (hist past w) w) (i : ℕ) (inside : i < length w.initiators) (calm : IsCalm (hist past w) i) (shorts : AreShort (hist past w)) (based : EachMoment (BasedAt i) (hist past w)) where
  office_dry : IsOfficeDry w i
  office_dry sent is_for p label e op is n =
      let own = own_of units ready more_units start w h g i inside calm shorts based op is n in
      reply_dry w.target.manager w.target.logins w.target.keys (answer_in p) op is own.good
      (λ phase bytes pays.
      brings_good units ready more_units start w h i inside (few_of units ready more_units start w h g i inside calm shorts based) calm (g.known.wrote.none i inside) g.known.counts g.known.are (g.known.places i inside) shorts (g.known.logins i inside) is_for.serial sent is_for.found is_for.to p label e op is
      (node_is units ready more_units start w h g i inside calm shorts based op n) own phase bytes (payload_is (answer_in p) 32 bytes pays))

abbrev pub DryAt : List Moment → WorldState → Type 0
DryAt past w = (i : ℕ) → i < length w.initiators → IsCalm past i → AreShort past → EachMoment (BasedAt i) past → IsOfficeDry w i

all_dry : (units ready : ℕ) → 0 < units → (start : List Disk) → Keeps units ready start (Ground start) DryAt
all_dry units ready has start past s later t lines more g h h_now q q_now before i inside calm shorts based = office_dry units ready has start t.world h_now q_now i inside calm shorts based

first_dry : (line : ℕ) (run : Run) → DryAt (moments_behind line run []) (beginning run).world
unfolding new_world
first_dry line run i inside calm shorts based sent is_for p label e op is n = no_operation op is

pub dry_everywhere : EveryPlace (λ start past w. DryAt past w)
dry_everywhere = record {
  after_lines = λ line run r has small size so_far.
      at_lines Ground DryAt ground_everywhere line run r.few has small size (all_dry run.units (ready_logins run.initiators run.ready) has run.start.disks) (first_dry line run) r so_far;
  between = λ line run r has small size next most told m so_far.
      at_between Ground DryAt ground_everywhere line run r.few has small size (all_dry run.units (ready_logins run.initiators run.ready) has run.start.disks) (first_dry line run) r next most told m so_far;
}
