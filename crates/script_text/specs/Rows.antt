-- The rows of the script: the first word of each, and what its further words look like.
use Rattle.std.specs.Prelude.{ℕ, suc, ◌&&◌, ◌||◌, Bool, true, false, List, [], ◌∷◌, ◌++◌, replicate, codes, bytes_eq, Option, Some, is_some}
use Rattle.std.specs.List.{list_any}
use Rattle.script_text.specs.declared.row.Row.{Row}
use Rattle.script_text.specs.declared.row.Row.TheVariants as rows
use Rattle.script_text.specs.declared.row.Act.TheVariants as acts
use Rattle.script_text.specs.declared.row.OrbAct.TheVariants as orb_acts
use Rattle.script_text.specs.declared.row.Placing.TheVariants as placings
use Rattle.script_text.specs.declared.row.Fate.TheVariants as fates
use Rattle.script_words.specs.declared.verb.Verb.{Verb}
use Rattle.script_words.specs.declared.verb.Verb.TheVariants as verbs
use Rattle.script_text.specs.declared.column.Column.{Column}
use Rattle.script_text.specs.declared.column.Column.TheVariants.{Number, Node, Mode, Fixed, Key, Packet, VerbWord, Data, Lengths}
use Rattle.script_words.specs.declared.fixed.FixedWord.TheVariants.{Excl, Pass, Seg, Pay}
use Rattle.script_words.specs.Verbs.{look, verb_of, fixed_word}
use Rattle.script_words.specs.Words.{word_at, is_numeral, is_hex, is_key}
use Rattle.script_words.specs.Payload.{is_data, are_lengths}

-- the first words of lines on the run and the bus
unfoldable pub bus_rows : List (List ℕ × Row)
bus_rows =
    (codes "begin", rows.Begin)
    ∷ (codes "reset", rows.Reset)
    ∷ (codes "see", rows.See)
    ∷ (codes "key", rows.Key)
    ∷ (codes "step", rows.Step)
    ∷ (codes "settle", rows.Settle)
    ∷ (codes "tick", rows.Tick)
    ∷ (codes "inject", rows.Inject)
    ∷ []

-- of lines on one packet
unfoldable pub packet_rows : List (List ℕ × Row)
packet_rows =
    (codes "deliver", rows.Fate fates.Deliver)
    ∷ (codes "repeat", rows.Fate fates.Repeat)
    ∷ (codes "lose", rows.Fate fates.Lose)
    ∷ (codes "timeout", rows.Fate fates.Timeout)
    ∷ []

-- of operations that an initiator does without further words
unfoldable pub act_rows : List (List ℕ × Row)
act_rows =
    (codes "rom", rows.Act acts.Rom)
    ∷ (codes "reconnect", rows.Act acts.Reconnect)
    ∷ (codes "logout", rows.Act acts.Logout)
    ∷ (codes "abortset", rows.Act acts.AbortSet)
    ∷ (codes "lureset", rows.Act acts.UnitReset)
    ∷ (codes "treset", rows.Act acts.TargetReset)
    ∷ (codes "agentreset", rows.Act acts.AgentReset)
    ∷ (codes "state", rows.Act acts.State)
    ∷ (codes "enable", rows.Act acts.Enable)
    ∷ []

-- of what else an initiator does
unfoldable pub list_rows : List (List ℕ × Row)
list_rows =
    (codes "append", rows.Command placings.Append)
    ∷ (codes "login", rows.Login)
    ∷ (codes "query", rows.Query)
    ∷ (codes "abort", rows.OnOrb orb_acts.Abort)
    ∷ (codes "dummy", rows.OnOrb orb_acts.Dummy)
    ∷ (codes "put", rows.Command placings.Put)
    ∷ (codes "low", rows.Act acts.Low)
    ∷ (codes "link", rows.Act acts.Link)
    ∷ (codes "ring", rows.Act acts.Ring)
    ∷ []

abbrev pub row_of : List ℕ → Option Row
row_of word = look (list_rows ++ bus_rows ++ packet_rows ++ act_rows) word

-- LBA is 0 to 4294967295, COUNT is 0 to 32
abbrev pub verb_columns : Option Verb → List Column
verb_columns (Some verbs.Read) = Number ∷ Number ∷ []
verb_columns (Some verbs.Read12) = Number ∷ Number ∷ []
verb_columns (Some verbs.Verify) = Number ∷ Number ∷ []
verb_columns (Some verbs.Write) = Number ∷ Data ∷ []
verb_columns (Some verbs.Write12) = Number ∷ Data ∷ []
verb_columns _ = []

-- the words of a row behind its first one; a bus of `initiators` has one node more than these
abbrev pub columns : Row → ℕ → List (List ℕ) → List Column
columns rows.Begin initiators ws = Number ∷ Mode ∷ []
columns (rows.Act act) initiators ws = Number ∷ []
columns rows.Login initiators ws = Number ∷ Number ∷ Number ∷ []
columns rows.Query initiators ws = Number ∷ Number ∷ []
columns (rows.OnOrb act) initiators ws = Number ∷ Number ∷ []
columns (rows.Command placing) initiators ws = Number ∷ VerbWord ∷ verb_columns (verb_of (word_at ws 1))
columns rows.Reset initiators ws = replicate (suc initiators) Number
columns rows.See initiators ws = Node ∷ []
columns rows.Key initiators ws = Number ∷ Key ∷ []
columns (rows.Fate fate) initiators ws = Number ∷ []
columns rows.Step initiators ws = Number ∷ []
columns rows.Settle initiators ws = []
columns rows.Tick initiators ws = []
columns rows.Inject initiators ws = Number ∷ Packet ∷ []

-- the words that may follow those: ` excl` and ` pass HEX` behind a login, ` seg L,L,L` and ` pay P` behind a command
abbrev pub login_ends : List (List Column)
login_ends = [] ∷ (Fixed Excl ∷ []) ∷ (Fixed Pass ∷ Key ∷ []) ∷ (Fixed Excl ∷ Fixed Pass ∷ Key ∷ []) ∷ []

abbrev pub command_ends : List (List Column)
command_ends = [] ∷ (Fixed Seg ∷ Lengths ∷ []) ∷ (Fixed Pay ∷ Number ∷ []) ∷ (Fixed Seg ∷ Lengths ∷ Fixed Pay ∷ Number ∷ []) ∷ []

abbrev pub ends : Row → List (List Column)
ends rows.Login = login_ends
ends (rows.Command placing) = command_ends
ends _ = [] ∷ []

-- what each column takes
abbrev pub takes : Column → List ℕ → Bool
takes Number word = is_numeral word
takes Node word = bytes_eq word (codes "t") || is_numeral word
takes Mode word = bytes_eq word (codes "ready") || bytes_eq word (codes "cold")
takes (Fixed fixed) word = bytes_eq word (fixed_word fixed)
takes Key word = is_key word
takes Packet word = is_hex word
takes VerbWord word = is_some (verb_of word)
takes Data word = is_data word
takes Lengths word = are_lengths word

-- each column takes its word, and there are as many of both
abbrev pub take_all : List Column → List (List ℕ) → Bool
take_all [] [] = true
take_all [] (word ∷ ws) = false
take_all (column ∷ cs) [] = false
take_all (column ∷ cs) (word ∷ ws) = takes column word && take_all cs ws

-- words that are those of the columns and then those of one of the ends
abbrev pub are_shaped : List (List Column) → List Column → List (List ℕ) → Bool
are_shaped tails cs ws = list_any (λ tail. take_all (cs ++ tail) ws) tails

abbrev pub has_shape : Row → ℕ → List (List ℕ) → Bool
has_shape row initiators ws = are_shaped (ends row) (columns row initiators ws) ws
