-- The commands that a queue appends are legal, and so is the history of its world.
use Rattle.std.proofs.Common.{subst, ℕ, Bool, true, false, List, [], ◌∷◌, Option, Some, None, arith}
use Rattle.std.specs.Prelude.{IfSome}
use Rattle.sbp_journal.specs.Run.{asked, said}
use Rattle.sbp_journal.specs.declared.event.Event.{Event}
use Rattle.sbp_journal.specs.declared.event.Event.TheVariants as events
use Rattle.sbp_laws.specs.Hosts.{Session, out, live, held, entering, returning, leaving, stuck}
use Rattle.sbp_world.specs.Completing.Deaths.{AreLegal}
use Rattle.retry_queue.specs.Journals.{MadeAt}
use Rattle.retry_queue.specs.Pump.{row}
use Rattle.retry_queue.specs.Steps.{EachStep, Step, Submission, idled, of_world, submitted, told, world}
use Rattle.script_runner.specs.Legal.{IsLegalEvent}

-- what a pump makes an initiator do
row_legal : (i : ℕ) (busy : Bool) (session : Session) (dead : Bool) (write : Option Submission) → IfSome (row busy session dead write) (λ action. IsLegalEvent (events.Act i action))
row_legal i true session dead write = tt
row_legal i false out dead write = λ line past. tt
row_legal i false held dead write = λ line past. tt
row_legal i false live true write = λ line past. tt
row_legal i false live false None = tt
row_legal i false live false (Some write) = λ line past. record { limit = omega arith; some = tt }
row_legal i false entering dead write = tt
row_legal i false returning dead write = tt
row_legal i false leaving dead write = tt
row_legal i false (stuck had_login) dead write = tt

asked_legal : (line : ℕ) (event : Event) (past : List Step) → MadeAt (of_world (asked line event)) past → IsLegalEvent event
asked_legal line (events.Act i action) past made = subst (λ found. IfSome found (λ action. IsLegalEvent (events.Act i action))) made.due (row_legal i _ _ _ _)
asked_legal line _ past made = λ line past. tt

pub made_legal : (past : List Step) → EachStep MadeAt past → AreLegal (world past)
made_legal [] made = tt
made_legal (of_world (asked line event) ∷ past) made = (asked_legal line event past made.0 line (world past), made_legal past made.1)
made_legal (of_world (said note) ∷ past) made = (tt, made_legal past made.1)
made_legal (submitted lba bytes ∷ past) made = made_legal past made.1
made_legal (idled ∷ past) made = made_legal past made.1
made_legal (told number status ∷ past) made = made_legal past made.1
