-- A world goes on with a run.
use Rattle.sbp_world.proofs.Words.Std.{◌∙◌, ap, subst}
use Rattle.sbp_world.proofs.Words.Wire.{Event}
use Rattle.sbp_world.proofs.Words.Target.{Told}
use Rattle.sbp_world.proofs.Words.World.{MayHappen, happens, BeginsLaw, GoesOnLaw, Run, SettlesLaw, StandsFor, entry, with_entry, AreUpTo, budget, settled, Scene, begun}
use Rattle.std.specs.Prelude.{◌≡◌, ℕ, List, Option, refl}
use Rattle.sbp_journal.specs.declared.event.Event.TheVariants as events

pub begins : BeginsLaw
begins initiators ready units start = record { state = refl; lines = tt }

stands_by : (run : Run) (line : ℕ) (event : Event) (told : List (Option Told)) (old new : Scene) → StandsFor run old → new ≡ happens line event told old → MayHappen event told old → StandsFor (with_entry run (entry line event told new.world.fresh)) new
stands_by run line event told old new s e m = record {
  state = e ∙ ap (happens line event told) s.state;
  lines = (
    record {
      may = subst (λ x. MayHappen event told x) s.state m;
      notes_are = ap (λ x. x.world.fresh) (e ∙ ap (happens line event told) s.state);
    },
    s.lines,
  );
}

pub goes_on : GoesOnLaw
goes_on run line event old new s h = stands_by run line event h.told old new s h.is h.may

settled_is : (line : ℕ) (told : List (Option Told)) (old new : Scene) → new ≡ settled told (begun old) → new ≡ happens line events.Settle told old
unfolding happens
settled_is line told old new e = e

settled_may : (told : List (Option Told)) (old : Scene) → AreUpTo (budget (begun old).world) told (begun old) → MayHappen events.Settle told old
unfolding MayHappen
settled_may told old m = m

pub settles : SettlesLaw
settles run line done old new s h =
    stands_by run line events.Settle h.told old new s (settled_is line h.told old new h.is) (settled_may h.told old h.may)
