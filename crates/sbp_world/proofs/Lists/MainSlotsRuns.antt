-- In every run in which no initiator injected packets, or few logins were given, and before which lists were open as they should be: the main transaction of an agent that goes into the page table or the
-- buffer of a slot of an initiator that injected none is for the first ORB of its list that has not ended, which has the slot.
use Rattle.sbp_world.proofs.Words.Std.{◌≡◌, sym, ap, subst, ◌<◌, ◌≤◌, ℕ, Bool, true, false, List, ◌∷◌, ◌++◌, map, length, Option}
use Rattle.sbp_world.proofs.Words.Wire.{Moment, asked, said}
use Rattle.sbp_world.proofs.Words.Target.{Told}
use Rattle.sbp_world.proofs.Words.World.{history_of, ready_logins, Run, after, beginning, MayAll, after_all, Scene, WorldState, begun, IsRun, more_deliveries, Always, AreUntaken, OpenListsLaw, Under, WhereTameOrFew, AreForOrbs, MainSlotsLaw, IsTameOrFew, IsCalm, OpenBefore, OpensLaw}
use Rattle.sbp_world.proofs.Agents.Management.Still.{hist}
use Rattle.sbp_world.proofs.Lists.Courses.{EveryPlace, more_than_one}
use Rattle.sbp_world.proofs.Lists.LiveGiven.{ShortLaw}
use Rattle.sbp_world.proofs.Lists.LiveShort.{here_beside, placed_beside}
use Rattle.sbp_world.proofs.Lists.MainSlots.{Kit, are_for_orbs}
use Rattle.sbp_world.proofs.Lists.OpenedKnown as opened_known
use Rattle.sbp_world.proofs.Lists.OpenProved.{opens_law, nobody_needs}
use Rattle.sbp_world.proofs.Lists.Runs.{KeptAfter, holds_at, kept_after}
use Rattle.sbp_world.proofs.Lists.StatusPlaces as places
use Rattle.sbp_world.proofs.Lists.StatusPlaces.{AllPlacedFor}
use Rattle.sbp_world.proofs.Lists.StatusProved.{Ground as Known, ground_law}
use Rattle.sbp_world.proofs.Lists.StatusRested.{AllHere, all_here}
use Rattle.sbp_world.proofs.Lists.StillRuns.{ground_everywhere}

abbrev wilds : ℕ → Bool
wilds = λ i. true

abbrev opened : (i : ℕ) → true ≡ false → OpensLaw
opened i own = opens_law

-- ---- at each place of a run, by what is known of it
module _ (line : ℕ) (run : Run) (r : IsRun run) (has : 0 < run.units) (small : run.units ≤ 4) (size : length run.start.disks ≡ run.units) where
  abbrev last : Scene
  last = after (beginning run) run.entries

  abbrev logins : ℕ
  logins = ready_logins run.initiators run.ready

  kept : KeptAfter wilds opened line run r.few has small size run.entries last.world
  kept = kept_after wilds opened line run r.few has small size run.entries r.short r.entries r.lines (λ i f. nobody_needs (OpenBefore line run run.entries) f) (λ i f. nobody_needs (IsCalm (history_of line run) i) f)

  slots_after : Kit run.start.disks (history_of line run) last.world → IsTameOrFew (history_of line run) → AreForOrbs run.start.disks (history_of line run) last.world
  slots_after kit beside =
      let k = kept in
      let back = sym k.is in
      subst (λ ms. AreForOrbs run.start.disks ms last.world) k.is
      (are_for_orbs run.units logins has run.start.disks last.world k.holds (subst (λ ms. Kit run.start.disks ms last.world) back kit) (subst IsTameOrFew back beside))

  module _ (next : ℕ) (most : Option ℕ) (told : List (Option Told)) (m : MayAll told (begun last)) where
    abbrev end : WorldState
    end = (after_all told (begun last)).world

    abbrev ms : List Moment
    ms = map said end.fresh ++ asked next (more_deliveries most) ∷ history_of line run

    slots_between : Kit run.start.disks ms end → IsTameOrFew ms → AreForOrbs run.start.disks ms end
    slots_between kit beside =
        let k = kept in
        let d = more_than_one most in
        let holds = holds_at wilds opened line run r.few has small size run.entries r.short r.entries r.lines k.past (length run.entries) k.holds k.is next (more_deliveries most) d told m in
        let is : hist (asked next (more_deliveries most) ∷ hist k.past last.world) end ≡ ms = ap (λ x. map said end.fresh ++ asked next (more_deliveries most) ∷ x) k.is in
        let back = sym is in
        subst (λ x. AreForOrbs run.start.disks x end) is
        (are_for_orbs run.units logins has run.start.disks end holds (subst (λ x. Kit run.start.disks x end) back kit) (subst IsTameOrFew back beside))

-- ---- what is known of each place
module _ (short : ShortLaw) (lists : OpenListsLaw) where
  known : Always Known
  known = ground_law opened_known.laws.pointers opened_known.laws.begun

  placed : Under (WhereTameOrFew AllPlacedFor)
  placed = placed_beside short

  here : Under (WhereTameOrFew AllHere)
  here = all_here (here_beside short) (places.names opened_known.laws.pointers opened_known.laws.begun (here_beside short) (placed_beside short))

  untaken : Under (WhereTameOrFew AreUntaken)
  untaken = places.untaken_law opened_known.laws.pointers opened_known.laws.begun (here_beside short) (placed_beside short)

  pub kit_everywhere : EveryPlace Kit
  kit_everywhere =
      let grounds = ground_everywhere lists in
      let knows = known in
      let places_are = placed in
      let heres = here in
      let none = untaken in
      record {
        after_lines = λ line run r has small size so_far. record {
          ground = grounds.after_lines line run r has small size so_far;
          known = knows.after_lines line run r has small size;
          placed = places_are.after_lines line run r has small size so_far;
          here = heres.after_lines line run r has small size so_far;
          untaken = none.after_lines line run r has small size so_far;
        };
        between = λ line run r has small size next most told m so_far. record {
          ground = grounds.between line run r has small size next most told m so_far;
          known = knows.between line run r has small size next most told m;
          placed = places_are.between line run r has small size next most told m so_far;
          here = heres.between line run r has small size next most told m so_far;
          untaken = none.between line run r has small size next most told m so_far;
        };
      }

-- ---- so it is of every such run
pub main_slots_law : ShortLaw → OpenListsLaw → MainSlotsLaw
main_slots_law short lists =
    let kits = kit_everywhere short lists in
    record {
      after_lines = λ line run r has small size so_far beside. slots_after line run r has small size (kits.after_lines line run r has small size so_far) beside;
      between = λ line run r has small size next most told m so_far beside. slots_between line run r has small size next most told m (kits.between line run r has small size next most told m so_far) beside;
    }
