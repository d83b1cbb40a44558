-- In every run in which no initiator injected packets, or few logins were given, and in which lists were open as they should be before, the agents read of an initiator that injected none the page tables and the
-- data of the ORB at the head of its own list alone.
use Rattle.sbp_world.proofs.Words.Std.{◌≡◌, sym, ap, subst, ◌<◌, ◌≤◌, ◌+◌, ℕ, Bool, true, false, List, ◌∷◌, ◌++◌, map, length, Option}
use Rattle.sbp_world.proofs.Words.Wire.{Moment, asked, said}
use Rattle.sbp_world.proofs.Words.Target.{Told}
use Rattle.sbp_world.proofs.Words.World.{history_of, ready_logins, Run, after, beginning, MayAll, after_all, Scene, WorldState, begun, IsRun, more_deliveries, AreAlong, OpenListsLaw, IsCalm, OpenBefore, OpenLists, OpensLaw, AreOwnGots, AreOwnReads, OwnGotsLaw, OwnReadsLaw}
use Rattle.sbp_world.proofs.Agents.Management.Still.{hist}
use Rattle.sbp_world.proofs.Lists.Courses.{more_than_one}
use Rattle.sbp_world.proofs.Lists.FedGots.{are_own_gots}
use Rattle.sbp_world.proofs.Lists.FedOwners.{are_own_reads}
use Rattle.sbp_world.proofs.Lists.OpenProved.{opens_law, nobody_needs}
use Rattle.sbp_world.proofs.Lists.RunLaws.{along_law}
use Rattle.sbp_world.proofs.Lists.RunSites.{site_after, site_between}
use Rattle.sbp_world.proofs.Lists.Runs.{KeptAfter, holds_at, kept_after}

abbrev wilds : ℕ → Bool
wilds = λ i. true

abbrev opened : (i : ℕ) → true ≡ false → OpensLaw
opened i own = opens_law

module _ (line : ℕ) (run : Run) (r : IsRun run) (has : 0 < run.units) (small : run.units ≤ 4) (size : length run.start.disks ≡ run.units) where
  abbrev last : Scene
  last = after (beginning run) run.entries

  kept : KeptAfter wilds opened line run r.few has small size run.entries last.world
  kept = kept_after wilds opened line run r.few has small size run.entries r.short r.entries r.lines (λ i f. nobody_needs (OpenBefore line run run.entries) f) (λ i f. nobody_needs (IsCalm (history_of line run) i) f)

  abbrev logins : ℕ
  logins = ready_logins run.initiators run.ready

  own_after : OpenLists (history_of line run) last.world → AreAlong (history_of line run) last.world → AreOwnReads run.start.disks (history_of line run) last.world
  own_after open_lists along =
      let k = kept in
      let back = sym k.is in
      subst (λ ms. AreOwnReads run.start.disks ms last.world) k.is
      (are_own_reads run.units logins has run.start.disks last.world k.holds (site_after line run r has small size k.past (length run.entries) k.holds back)
      (subst (λ ms. OpenLists ms last.world) back open_lists) (subst (λ ms. AreAlong ms last.world) back along))

  gots_after : OpenLists (history_of line run) last.world → AreAlong (history_of line run) last.world → AreOwnGots run.start.disks (history_of line run) last.world
  gots_after open_lists along =
      let k = kept in
      let back = sym k.is in
      subst (λ ms. AreOwnGots run.start.disks ms last.world) k.is
      (are_own_gots run.units logins has run.start.disks last.world k.holds (site_after line run r has small size k.past (length run.entries) k.holds back)
      (subst (λ ms. OpenLists ms last.world) back open_lists) (subst (λ ms. AreAlong ms last.world) back along))

  module _ (next : ℕ) (most : Option ℕ) (told : List (Option Told)) (m : MayAll told (begun last)) where
    abbrev end : WorldState
    end = (after_all told (begun last)).world

    abbrev ms : List Moment
    ms = map said end.fresh ++ asked next (more_deliveries most) ∷ history_of line run

    own_between : OpenLists ms end → AreAlong ms end → AreOwnReads run.start.disks ms end
    own_between open_lists along =
        let k = kept in
        let d = more_than_one most in
        let holds = holds_at wilds opened line run r.few has small size run.entries r.short r.entries r.lines k.past (length run.entries) k.holds k.is next (more_deliveries most) d told m in
        let is : hist (asked next (more_deliveries most) ∷ hist k.past last.world) end ≡ ms = ap (λ x. map said end.fresh ++ asked next (more_deliveries most) ∷ x) k.is in
        let back = sym is in
        subst (λ x. AreOwnReads run.start.disks x end) is
        (are_own_reads run.units logins has run.start.disks end holds (site_between line run r has small size next (more_deliveries most) d told m (asked next (more_deliveries most) ∷ hist k.past last.world) (length run.entries + 1) holds back)
        (subst (λ x. OpenLists x end) back open_lists) (subst (λ x. AreAlong x end) back along))

    gots_between : OpenLists ms end → AreAlong ms end → AreOwnGots run.start.disks ms end
    gots_between open_lists along =
        let k = kept in
        let d = more_than_one most in
        let holds = holds_at wilds opened line run r.few has small size run.entries r.short r.entries r.lines k.past (length run.entries) k.holds k.is next (more_deliveries most) d told m in
        let is : hist (asked next (more_deliveries most) ∷ hist k.past last.world) end ≡ ms = ap (λ x. map said end.fresh ++ asked next (more_deliveries most) ∷ x) k.is in
        let back = sym is in
        subst (λ x. AreOwnGots run.start.disks x end) is
        (are_own_gots run.units logins has run.start.disks end holds (site_between line run r has small size next (more_deliveries most) d told m (asked next (more_deliveries most) ∷ hist k.past last.world) (length run.entries + 1) holds back)
        (subst (λ x. OpenLists x end) back open_lists) (subst (λ x. AreAlong x end) back along))

pub own_reads_law : OpenListsLaw → OwnReadsLaw
own_reads_law lists = record {
  after_lines = λ line run r has small size so_far beside.
      own_after line run r has small size (lists.after_lines line run r has small size beside) (along_law.after_lines line run r has small size so_far);
  between = λ line run r has small size next most told m so_far beside.
      own_between line run r has small size next most told m (lists.between line run r has small size next (more_deliveries most) (more_than_one most) told m beside)
      (along_law.between line run r has small size next (more_deliveries most) (more_than_one most) told m so_far);
}

pub own_gots_law : OpenListsLaw → OwnGotsLaw
own_gots_law lists = record {
  after_lines = λ line run r has small size so_far beside.
      gots_after line run r has small size (lists.after_lines line run r has small size beside) (along_law.after_lines line run r has small size so_far);
  between = λ line run r has small size next most told m so_far beside.
      gots_between line run r has small size next most told m (lists.between line run r has small size next (more_deliveries most) (more_than_one most) told m beside)
      (along_law.between line run r has small size next (more_deliveries most) (more_than_one most) told m so_far);
}
