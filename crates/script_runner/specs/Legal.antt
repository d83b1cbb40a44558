-- The commands of a script, and those of a drill, are legal (NCITS 325-1998, normal command block ORBs and page tables): where a line says nothing of `pay` the max_payload of its command is 9,
-- and what it says is 0 to 9; where it says nothing of `seg` the buffer has no segments, and each that it says has bytes.
use Rattle.std.specs.Prelude.{ℕ, List}
use Rattle.std.specs.List.{AllByRecursion}
use Rattle.sbp_journal.specs.Run.{Moment, asked}
use Rattle.sbp_journal.specs.declared.event.Event.{Event}
use Rattle.sbp_world.specs.Completing.Deaths.{IsLegalAt}
use Rattle.script_text.specs.Drill.{generated}
use Rattle.script_text.specs.Script.{script_from}
use Rattle.script_runner.specs.Events.{numbered_from}

-- the command of an event, if it has one, is legal, whatever line asks for it
abbrev pub IsLegalEvent : Event → Type 0
IsLegalEvent event = (line : ℕ) (past : List Moment) → IsLegalAt (asked line event) past

-- so are those of numbered lines
abbrev pub AreLegalLines : List (ℕ × Event) → Type 0
AreLegalLines happened = AllByRecursion (λ line. IsLegalEvent line.1) happened

-- The lines of every script and of every drill are so.
pub record LegalScriptsLaw : Type 0 where
  pub scripts : (number initiators : ℕ) (lines : List (List ℕ)) → AreLegalLines (script_from number initiators lines).events
  pub drills : (number seed count : ℕ) → AreLegalLines (numbered_from number (generated seed count))
