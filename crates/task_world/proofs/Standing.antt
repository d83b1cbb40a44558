-- A task world goes on with a run.
use Rattle.std.proofs.Common.{◌≡◌, ◌∙◌, refl, ap, subst}
use Rattle.task_world.specs.Lines.{MayHappen, task_happens}
use Rattle.task_world.specs.Runs.{BeginsLaw, GoesOnLaw}
use Rattle.task_world.specs.Worlds.{TaskScene}

pub begins : BeginsLaw
begins start = record { is = record { one = refl; ready = refl; unit = refl; lines = tt }; state = refl }

pub goes_on : GoesOnLaw
goes_on run line event old new s here h =
    let next : new ≡ task_happens line event h.told _ = h.is ∙ ap (task_happens line event h.told) s.state in
    record {
      is = record {
        one = s.is.one;
        ready = s.is.ready;
        unit = s.is.unit;
        lines = (
          record {
            event = here;
            may = subst (λ (x : TaskScene). MayHappen event h.told x) s.state h.may;
            notes_are = ap (λ (x : TaskScene). x.scene.world.fresh) next;
          },
          s.is.lines,
        );
      };
      state = next;
    }
