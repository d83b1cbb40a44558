-- What a line of `tasks` says is what may happen: the beginning before a run has begun, and one of its lines then.
use Rattle.std.proofs.Common.{◌≡◌, ◌∙◌, ap, ℕ, ◌≤◌, ◌==◌, true, List, Option, Some, None, Ok, arith}
use Rattle.std.proofs.lemmas.Bool.{eqb-true}
use Rattle.sbp_journal.specs.declared.event.Event.{Event}
use Rattle.sbp_journal.specs.declared.event.Event.TheVariants as events
use Rattle.script_text.specs.Line.{reading}
use Rattle.sbp_world.specs.Lines.{IsEvent}
use Rattle.script_runner.specs.Runner.{HasBytes, IsBeginning}
use Rattle.script_runner.proofs.Fits.{both, line_begins, line_fits, line_is}
use Rattle.task_world.specs.Lines.{is_task_line}
use Rattle.task_world.specs.Worlds.{TaskWorldState}
use Rattle.sbp_command.specs.TaskLines.{is_here}
use Rattle.sbp_command.specs.TaskRunner.{MayHappenIn, beginning_event, initiators_in}

begins_one : (event : Event) → IsBeginning event → is_here event ≡ true → event ≡ beginning_event
begins_one (events.Begin initiators ready) h e =
    let is = both (initiators == 1) ready e in
    ap (λ n. events.Begin n ready) (eqb-true initiators 1 is.0) ∙ ap (λ r. events.Begin 1 r) is.1
begins_one (events.Act initiator action) h e = absurd h
begins_one (events.Inject initiator bytes) h e = absurd h
begins_one (events.Key unit key) h e = absurd h
begins_one (events.Reset physical) h e = absurd h
begins_one (events.See node) h e = absurd h
begins_one (events.Deliver serial) h e = absurd h
begins_one (events.Repeat serial) h e = absurd h
begins_one (events.Lose serial) h e = absurd h
begins_one (events.Timeout serial) h e = absurd h
begins_one (events.Step count) h e = absurd h
begins_one events.Settle h e = absurd h
begins_one events.Tick h e = absurd h

-- an event that goes on a run is here as a line of `tasks` is
goes_here : (event : Event) → IsEvent event 1 → is_here event ≡ true → is_task_line event ≡ true
goes_here (events.Begin initiators ready) h e = absurd h
goes_here (events.Act initiator action) h e = e
goes_here (events.Inject initiator bytes) h e = e
goes_here (events.Key unit key) h e = e
goes_here (events.Reset physical) h e = e
goes_here (events.See node) h e = e
goes_here (events.Deliver serial) h e = e
goes_here (events.Repeat serial) h e = e
goes_here (events.Lose serial) h e = e
goes_here (events.Timeout serial) h e = e
goes_here (events.Step count) h e = e
goes_here events.Settle h e = e
goes_here events.Tick h e = e

pub may_happen : (o : Option TaskWorldState) (line : List ℕ) (event : Event) → reading line (initiators_in o) ≡ Ok (Some event) → HasBytes event → is_here event ≡ true → MayHappenIn o event
may_happen None line event e bytes here = begins_one event (line_begins line event e) here
may_happen (Some world) line event e bytes here =
    let fits = line_fits line 1 event (omega arith) e in
    (record { here = goes_here event fits here; fits = fits }, line_is line 1 event (omega arith) e bytes)

pub initiators_few : (o : Option TaskWorldState) → initiators_in o ≤ 4
initiators_few None = omega arith
initiators_few (Some world) = omega arith
