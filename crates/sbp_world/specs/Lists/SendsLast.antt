-- In each turn of every run, whatever anyone injected, the effects stand before the packets that are sent in it: a sentence of the action law.
use Rattle.std.specs.Prelude.{◌≡◌, ℕ, List, ◌∷◌, ◌++◌, map, Option}
use Rattle.rbc_disk.specs.Runs.{Told}
use Rattle.sbp_journal.specs.Run.{asked, said}
use Rattle.sbp_laws.specs.Turns.{EachTurn, Turn, effects_of, sends_of}
use Rattle.sbp_world.specs.Histories.{history_of}
use Rattle.sbp_world.specs.Runs.{Run, after, beginning}
use Rattle.sbp_world.specs.Settling.{MayAll, after_all}
use Rattle.sbp_world.specs.Worlds.{begun}
use Rattle.sbp_world.specs.Hosts.Runs.{IsRun, more_deliveries}

abbrev pub SendsLast : Turn → Type 0
SendsLast t = t.rest ≡ effects_of t.rest ++ sends_of t.rest

-- After every line of every run, and behind each delivery of a line that delivers one packet after the other.
pub record SendsLastLaw : Type 0 where
  pub after_lines : (line : ℕ) (run : Run) → IsRun run → EachTurn SendsLast (history_of line run)
  pub between : (line : ℕ) (run : Run) → IsRun run → (next : ℕ) (most : Option ℕ) (told : List (Option Told)) → MayAll told (begun (after (beginning run) run.entries)) → EachTurn SendsLast (map said (after_all told (begun (after (beginning run) run.entries))).world.fresh ++ asked next (more_deliveries most) ∷ history_of line run)
