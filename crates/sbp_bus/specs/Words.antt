-- The words of notes for numbers of ORBs.
use Rattle.std.specs.Prelude.{ℕ, ◌==◌, if◌then◌else◌, Option, Some, None}
use Rattle.rbc_command.specs.declared.sense.Sense.{Sense}
use Rattle.rbc_disk.specs.declared.command.Outcome.{Outcome}
use Rattle.rbc_disk.specs.Runs.{check_in}
use Rattle.sbp_journal.specs.declared.operation.FunctionWord.{FunctionWord}
use Rattle.sbp_journal.specs.declared.operation.FunctionWord.TheVariants as functions

-- the word of the number of a management function (NCITS 325-1998, management ORB)
abbrev pub function_word : ℕ → FunctionWord
function_word number =
    if number == 0x0 then functions.Login
    else if number == 0x1 then functions.Query
    else if number == 0x3 then functions.Reconnect
    else if number == 0x7 then functions.Logout
    else if number == 0xb then functions.Abort
    else if number == 0xc then functions.AbortSet
    else if number == 0xe then functions.UnitReset
    else if number == 0xf then functions.TargetReset
    else functions.Other

-- the ID that a decision gives: a login's at status 00
abbrev pub login_if : FunctionWord → ℕ → ℕ → Option ℕ
login_if functions.Login status login = if status == 0 then Some login else None
login_if word status login = None

-- the check of an outcome
abbrev pub check_of : Outcome → Option Sense
check_of outcome = check_in outcome
