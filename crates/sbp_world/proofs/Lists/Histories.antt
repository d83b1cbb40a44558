-- What is kept of the history of a run in which lists were open as they should be before, after each line and behind each delivery of a line that may follow:
-- the law of lists, and that the agents are along them.
use Rattle.sbp_world.proofs.Words.Std.{◌≡◌, sym, ap, subst, ℕ, ◌<◌, ◌≤◌, Bool, false, List, ◌∷◌, ◌++◌, map, length, Option}
use Rattle.sbp_world.proofs.Words.Wire.{Event, Moment, asked, said}
use Rattle.sbp_world.proofs.Words.Target.{Told}
use Rattle.sbp_world.proofs.Words.World.{history_of, Run, after, beginning, MayAll, after_all, holder, Scene, WorldState, begun, DeliversMore, IsRun, IsCalm, OpenBefore, OpenBetween, machine_at, OpensLaw}
use Rattle.sbp_world.proofs.Agents.Management.Still.{hist}
use Rattle.sbp_world.proofs.Lists.Calm.{asked_calm, calm_before}
use Rattle.sbp_world.proofs.Lists.Kept.{Kept}
use Rattle.sbp_world.proofs.Lists.Runs.{EarlyAfter, KeptAfter, early_after, kept_after, kept_told, lists_here}
use Rattle.sbp_world.proofs.Lists.Told.{AgentOn}
use Rattle.sbp_world.proofs.Lists.OpenProved.{opens_law}
use Rattle.sbp_world.proofs.Lists.Passing.{PassLaw}

pub record Known (wild : ℕ → Bool) (ms : List Moment) (w : WorldState) : Type 0 where
  pub law : PassLaw wild ms
  pub agents : (p : ℕ) → p < 8 → AgentOn wild ms (holder w p) (machine_at w p)

at_of : (wild : ℕ → Bool) (ms past : List Moment) (w : WorldState) → hist past w ≡ ms → Kept wild past (machine_at w) w → Known wild ms w
at_of wild ms past w is k = record {
  law = subst (λ x. PassLaw wild x) is k.passes;
  agents = λ p b. subst (λ x. AgentOn wild x (holder w p) (machine_at w p)) is (k.on p b);
}

abbrev opened : (wild : ℕ → Bool) → (i : ℕ) → wild i ≡ false → OpensLaw
opened wild i own = opens_law

module _ (wild : ℕ → Bool) (line : ℕ) (run : Run) (r : IsRun run) (has : 0 < run.units) (small : run.units ≤ 4) (size : length run.start.disks ≡ run.units) where
  abbrev last : Scene
  last = after (beginning run) run.entries

  module _ (so_far : (i : ℕ) → wild i ≡ false → OpenBefore line run run.entries) (calm : (i : ℕ) → wild i ≡ false → IsCalm (history_of line run) i) where
    lines : KeptAfter wild (opened wild) line run r.few has small size run.entries last.world
    lines = kept_after wild (opened wild) line run r.few has small size run.entries r.short r.entries r.lines so_far calm

    pub after_lines : Known wild (history_of line run) last.world
    after_lines = at_of wild (history_of line run) lines.past last.world lines.is lines.kept

  module _ (next : ℕ) (event : Event) (d : DeliversMore event) (told : List (Option Told)) (m : MayAll told (begun last)) (so_far : (i : ℕ) → wild i ≡ false → OpenBetween line run next event told) where
    abbrev end : WorldState
    end = (after_all told (begun last)).world

    abbrev ms : List Moment
    ms = map said end.fresh ++ asked next event ∷ history_of line run

    module _ (calm : (i : ℕ) → wild i ≡ false → IsCalm ms i) where
      first_calm : (i : ℕ) → wild i ≡ false → IsCalm (history_of line run) i
      first_calm i own = asked_calm next event (history_of line run) i (calm_before (map said end.fresh) (asked next event ∷ history_of line run) i (calm i own))

      abbrev first : EarlyAfter wild (opened wild) line run r.few has small size run.entries last.world
      first = early_after wild (opened wild) line run r.few has small size run.entries r.short r.entries r.lines (λ i own. (so_far i own).before) (λ i own. (so_far i own).begins) first_calm

      abbrev before : KeptAfter wild (opened wild) line run r.few has small size run.entries last.world
      before = first.so_far

      ends_is : hist (asked next event ∷ hist before.past last.world) end ≡ ms
      ends_is = ap (λ x. map said end.fresh ++ asked next event ∷ x) before.is

      kept_between : Kept wild (asked next event ∷ hist before.past last.world) (machine_at end) end
      kept_between =
          (kept_told wild (opened wild) line run r.few has small size run.entries r.short r.entries r.lines before.past (length run.entries) before.holds before.is next event d (λ i own. (so_far i own).before)
          (lists_here wild (opened wild) line run r.few has small size run.entries r.short r.entries r.lines before.past (length run.entries) before.holds before.is (λ i own. (so_far i own).begins))
          (λ i own. subst (λ x. IsCalm x i) (sym before.is) (first_calm i own))
          before.kept first.early told m (λ i own. (so_far i own).goes)
          (λ i own. subst (λ x. IsCalm x i) (sym ends_is) (calm i own))).kept_there

      pub between : Known wild ms end
      between = at_of wild ms (asked next event ∷ hist before.past last.world) end ends_is kept_between
