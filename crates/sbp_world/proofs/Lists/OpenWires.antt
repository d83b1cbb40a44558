-- The history of every run, after its lines and behind each delivery of a line that may follow, is one of the wire.
use Rattle.sbp_world.proofs.Words.Std.{◌≡◌, subst, ℕ, ◌<◌, ◌≤◌, List, ◌∷◌, ◌++◌, map, length, Option}
use Rattle.sbp_world.proofs.Words.Wire.{Event, asked, said}
use Rattle.sbp_world.proofs.Words.Target.{Told}
use Rattle.sbp_world.proofs.Words.World.{history_of, Run, after, beginning, MayAll, after_all, Scene, WorldState, begun, IsOfWire, DeliversMore, IsRun}
use Rattle.sbp_world.proofs.Wire.Starts.{laws_of}
use Rattle.sbp_world.proofs.Agents.Management.Still.{hist}
use Rattle.sbp_world.proofs.Lists.OpenProved.{After, facts_at, were_after}

module _ (line : ℕ) (run : Run) (r : IsRun run) (has : 0 < run.units) (small : run.units ≤ 4) (size : length run.start.disks ≡ run.units) where
  abbrev last : Scene
  last = after (beginning run) run.entries

  abbrev known : After line run r.few has small size run.entries last.world
  known = were_after line run r.few has small size run.entries r.short r.entries r.lines

  pub wire_after : IsOfWire (history_of line run)
  wire_after = let k = known in subst IsOfWire k.is (laws_of k.past last.world k.holds.sound.stands)

  module _ (next : ℕ) (event : Event) (d : DeliversMore event) (told : List (Option Told)) (m : MayAll told (begun last)) where
    abbrev end : WorldState
    end = (after_all told (begun last)).world

    pub wire_between : IsOfWire (map said end.fresh ++ asked next event ∷ history_of line run)
    wire_between =
        let k = known in
        let f = facts_at line run r.few has small size run.entries r.short r.entries r.lines k.past (length run.entries) k.holds k.is next event d told m in
        subst (λ ms. IsOfWire (map said end.fresh ++ asked next event ∷ ms)) k.is (laws_of (asked next event ∷ hist k.past last.world) end f.holds.sound.stands)
