-- The lines of a script and of a drill have legal commands.
use Rattle.std.proofs.Common.{◌≡◌, refl, ℕ, zero, suc, ◌+◌, ◌==◌, nat_lt, Bool, true, false, cond, List, [], ◌∷◌, Option, Some, None, Result, Ok, Err, arith}
use Rattle.std.specs.Prelude.{IfOk, IfSome}
use Rattle.std.specs.List.{AllByRecursion}
use Rattle.sbp_journal.specs.declared.event.Event.{Event}
use Rattle.sbp_journal.proofs.Each.{all_append}
use Rattle.script_words.specs.declared.fault.LineFault.{LineFault}
use Rattle.script_text.specs.Draws.{appending, block_read, block_write, drawn, next, turn, turn_of}
use Rattle.script_text.specs.Drill.{generated, is_due, settle, turns}
use Rattle.script_text.specs.Line.{reading}
use Rattle.script_text.specs.Script.{Script, initiators_after, line_says, numbered, onto_script, script_from, too_many}
use Rattle.sbp_world.specs.Completing.Deaths.{IsLegal}
use Rattle.script_runner.specs.Events.{numbered_from}
use Rattle.script_runner.specs.Legal.{AreLegalLines, IsLegalEvent, LegalScriptsLaw}
use Rattle.script_runner.proofs.Legal.{line_legal}

-- ---- a script

-- what a line says, if it says anything
abbrev SaysLegal : Result (Option Event) ℕ → Type 0
SaysLegal read = IfOk read (λ event. IfSome event IsLegalEvent)

numbered_legal : (line : List ℕ) (i : ℕ) (read : Result (Option Event) LineFault) → reading line i ≡ read → SaysLegal (numbered read)
numbered_legal line i (Ok None) e = tt
numbered_legal line i (Ok (Some event)) e = line_legal line i event e
numbered_legal line i (Err fault) e = tt

says_legal : (n : ℕ) (line : List ℕ) (i : ℕ) → SaysLegal (line_says n line i)
says_legal n line i = by (nat_lt 65536 n)
  where
    by : (many : Bool) → SaysLegal (cond many (Err too_many) (numbered (reading line i)))
    by true = tt
    by false = numbered_legal line i (reading line i) refl

onto_legal : (n : ℕ) (read : Result (Option Event) ℕ) (rest : Script) → SaysLegal read → AreLegalLines rest.events → AreLegalLines (onto_script n read rest).events
onto_legal n (Ok None) rest said legal = legal
onto_legal n (Ok (Some event)) rest said legal = (said, legal)
onto_legal n (Err fault) rest said legal = tt

script_legal : (n i : ℕ) (lines : List (List ℕ)) → AreLegalLines (script_from n i lines).events
script_legal n i [] = tt
script_legal n i (line ∷ lines) =
    let read = line_says n line i in
    onto_legal n read (script_from (suc n) (initiators_after i read) lines) (says_legal n line i) (script_legal (suc n) (initiators_after i read) lines)

-- ---- a drill

write_legal : (lba byte : ℕ) → IsLegal (block_write lba byte)
unfolding block_write
write_legal lba byte = record { limit = omega arith; some = tt }

read_legal : (lba : ℕ) → IsLegal (block_read lba)
unfolding block_read
read_legal lba = record { limit = omega arith; some = tt }

turn_of_legal : (x1 x2 x3 : ℕ) → IsLegalEvent (turn_of x1 x2 x3).event
turn_of_legal x1 x2 x3 =
    elim (drawn x2 2 == 0) as (λ t. IsLegalEvent (cond t (appending (drawn x1 2) (block_write (drawn x3 64) (drawn (next x3) 256)) (next x3)) (appending (drawn x1 2) (block_read (drawn x3 64)) x3)).event) [
      | true ↦ λ line past. write_legal (drawn x3 64) (drawn (next x3) 256)
      | false ↦ λ line past. read_legal (drawn x3 64)
    ]

turn_legal : (x : ℕ) → IsLegalEvent (turn x).event
unfolding turn
turn_legal x = turn_of_legal (next x) (next (next x)) (next (next (next x)))

settle_legal : (due : Bool) → AllByRecursion IsLegalEvent (settle due)
settle_legal true = ((λ line past. tt), tt)
settle_legal false = tt

turns_legal : (count line x : ℕ) → AllByRecursion IsLegalEvent (turns count line x)
unfolding turns
turns_legal zero line x = tt
turns_legal (suc left) line x =
    (turn_legal x, all_append IsLegalEvent (settle (is_due line left)) (turns left (line + 1) (turn x).state) (settle_legal (is_due line left)) (turns_legal left (line + 1) (turn x).state))

numbered_lines : (n : ℕ) (events : List Event) → AllByRecursion IsLegalEvent events → AreLegalLines (numbered_from n events)
numbered_lines n [] legal = tt
numbered_lines n (event ∷ events) legal = (legal.0, numbered_lines (n + 1) events legal.1)

drill_legal : (n seed count : ℕ) → AreLegalLines (numbered_from n (generated seed count))
drill_legal n seed count = numbered_lines n (generated seed count) ((λ line past. tt), turns_legal count 1 seed)

pub legal_scripts_law : LegalScriptsLaw
legal_scripts_law = record { scripts = script_legal; drills = drill_legal }
