-- What a line of a script says: its event, or the first of its faults.
use Rattle.std.specs.Prelude.{◌≡◌, ℕ, ◌+◌, ◌==◌, ◌&&◌, ◌||◌, nat_lt, nat_le, Bool, true, false, not, if◌then◌else◌, List, [], ◌∷◌, drop, length, replicate, slice_index, codes, bytes_eq, Option, Some, None, Result, Ok, Err}
use Rattle.std.specs.List.{list_all, list_any, find}
use Rattle.sbp_journal.specs.declared.event.Cmd.{Cmd}
use Rattle.sbp_journal.specs.declared.event.Action.{Action}
use Rattle.sbp_journal.specs.declared.event.Action.TheVariants as actions
use Rattle.sbp_journal.specs.declared.event.Event.{Event}
use Rattle.sbp_journal.specs.declared.event.Event.TheVariants as events
use Rattle.script_words.specs.declared.fault.LineFault.{LineFault}
use Rattle.script_words.specs.declared.fault.LineFault.TheVariants as faults
use Rattle.script_text.specs.declared.row.Row.{Row}
use Rattle.script_text.specs.declared.row.Row.TheVariants as rows
use Rattle.script_text.specs.declared.row.Act.{Act}
use Rattle.script_text.specs.declared.row.Act.TheVariants as acts
use Rattle.script_text.specs.declared.row.OrbAct.{OrbAct}
use Rattle.script_text.specs.declared.row.OrbAct.TheVariants as orb_acts
use Rattle.script_text.specs.declared.row.Placing.{Placing}
use Rattle.script_text.specs.declared.row.Placing.TheVariants as placings
use Rattle.script_text.specs.declared.row.Fate.{Fate}
use Rattle.script_text.specs.declared.row.Fate.TheVariants as fates
use Rattle.script_words.specs.declared.fixed.FixedWord.TheVariants.{Pass}
use Rattle.script_text.specs.declared.column.Column.TheVariants.{Number, Data}
use Rattle.script_words.specs.declared.verb.Form.TheVariants.{Ten}
use Rattle.script_words.specs.Words.{◌>>=◌, words, word_at, number, numbers, hex_bytes, sized_bytes}
use Rattle.script_text.specs.Rows.{row_of, has_shape, take_all}
use Rattle.script_words.specs.Verbs.{verb_of}
use Rattle.script_words.specs.Commands.{cmd_of, behind, writing_blocks}

-- ---- the event of a row

abbrev pub action_of : Act → Action
action_of acts.Rom = actions.Rom
action_of acts.Reconnect = actions.Reconnect
action_of acts.Logout = actions.Logout
action_of acts.AbortSet = actions.AbortSet
action_of acts.UnitReset = actions.UnitReset
action_of acts.TargetReset = actions.TargetReset
action_of acts.AgentReset = actions.AgentReset
action_of acts.State = actions.State
action_of acts.Enable = actions.Enable
action_of acts.Low = actions.Low
action_of acts.Link = actions.Link
action_of acts.Ring = actions.Ring

abbrev pub orb_action : OrbAct → ℕ → Action
orb_action orb_acts.Abort orb = actions.Abort orb
orb_action orb_acts.Dummy orb = actions.Dummy orb

abbrev pub placed : Placing → Cmd → Action
placed placings.Put cmd = actions.Put cmd
placed placings.Append cmd = actions.Append cmd

abbrev pub fated : Fate → ℕ → Event
fated fates.Deliver serial = events.Deliver serial
fated fates.Repeat serial = events.Repeat serial
fated fates.Lose serial = events.Lose serial
fated fates.Timeout serial = events.Timeout serial

-- a login is exclusive where `excl` follows, and has the bytes behind `pass` as its password, else 8 zero bytes
abbrev pub is_exclusive : List (List ℕ) → Bool
is_exclusive options = bytes_eq (word_at options 0) (codes "excl")

abbrev pub password_of : Option (List ℕ) → List ℕ
password_of None = replicate 8 0
password_of (Some word) = sized_bytes 8 word

abbrev pub password : List (List ℕ) → List ℕ
password options = password_of (behind Pass options)

abbrev pub all_differ : List ℕ → Bool
all_differ [] = true
all_differ (n ∷ ns) = not (list_any (λ other. other == n) ns) && all_differ ns

-- the physical IDs of a reset
abbrev pub reset : List ℕ → Result Event LineFault
reset ids = if all_differ ids then Ok (events.Reset ids) else Err faults.Range

-- the node of `see`: 0 for the target, and i + 1 for initiator i
abbrev pub seen : List ℕ → Result Event LineFault
seen node = if bytes_eq node (codes "t") then Ok (events.See 0) else number 0 3 node >>= λ initiator. Ok (events.See (initiator + 1))

-- 4 to 2,064 bytes of a packet
abbrev pub injected : ℕ → List ℕ → Result Event LineFault
injected initiator word =
    if nat_le 8 (length word) && nat_le (length word) 4128 then Ok (events.Inject initiator (hex_bytes word)) else Err faults.Range

-- The event of a row and the words behind its first one, where each number is in its range and the rules on sums and lengths
-- hold. Words of another shape than the row's have none.
abbrev pub event_of : Row → List (List ℕ) → Result Event LineFault
event_of rows.Begin (initiators ∷ mode ∷ []) = number 1 4 initiators >>= λ n. Ok (events.Begin n (bytes_eq mode (codes "ready")))
event_of (rows.Act act) (initiator ∷ []) = number 0 3 initiator >>= λ i. Ok (events.Act i (action_of act))
event_of rows.Login (initiator ∷ unit ∷ reconnect ∷ options) =
    number 0 3 initiator >>= λ i. number 0 3 unit >>= λ u. number 0 15 reconnect >>= λ r. Ok (events.Act i (actions.Login u r (is_exclusive options) (password options)))
event_of rows.Query (initiator ∷ unit ∷ []) = number 0 3 initiator >>= λ i. number 0 3 unit >>= λ u. Ok (events.Act i (actions.Query u))
event_of (rows.OnOrb act) (initiator ∷ orb ∷ []) =
    number 0 3 initiator >>= λ i. number 0 65535 orb >>= λ k. Ok (events.Act i (orb_action act k))
event_of (rows.Command placing) (initiator ∷ verb ∷ ws) =
    number 0 3 initiator >>= λ i. cmd_of (verb_of verb) ws >>= λ cmd. Ok (events.Act i (placed placing cmd))
event_of rows.Reset ids = numbers 0 62 ids >>= reset
event_of rows.See (node ∷ []) = seen node
event_of rows.Key (unit ∷ key ∷ []) = number 0 3 unit >>= λ u. Ok (events.Key u (sized_bytes 8 key))
event_of (rows.Fate fate) (serial ∷ []) = number 1 4294967295 serial >>= λ s. Ok (fated fate s)
event_of rows.Step (count ∷ []) = number 1 10000 count >>= λ k. Ok (events.Step k)
event_of rows.Settle [] = Ok events.Settle
event_of rows.Tick [] = Ok events.Tick
event_of rows.Inject (initiator ∷ packet ∷ []) = number 0 3 initiator >>= λ i. injected i packet
event_of _ _ = Err faults.Shape

-- an event, or no fault but that of a number out of its range or a rule on sums or lengths that is broken
abbrev pub OnlyRange : {A : Type 0} → Result A LineFault → Type 0
OnlyRange (Ok a) = Unit {0}
OnlyRange (Err fault) = fault ≡ faults.Range

-- ---- the faults of a line

-- a comment, or a line of spaces and tabs
abbrev pub is_comment : List ℕ → Bool
is_comment line = nat_lt 0 (length line) && (slice_index line 0 == 35)

abbrev pub is_silent : List ℕ → Bool
is_silent line = is_comment line || list_all (λ byte. (byte == 32) || (byte == 9)) line

abbrev pub is_printable : ℕ → Bool
is_printable byte = nat_le 0x20 byte && nat_le byte 0x7E

abbrev pub row : List ℕ → Option Row
row line = row_of (word_at (words line) 0)

abbrev pub arguments : List ℕ → List (List ℕ)
arguments line = drop 1 (words line)

-- something holds of the row of a line, if it has one
abbrev pub on_row : Option Row → (Row → Bool) → Bool
on_row None test = false
on_row (Some r) test = test r

abbrev pub is_begin : Row → Bool
is_begin rows.Begin = true
is_begin _ = false

-- before the run has begun a line begins it, and none does so later
abbrev pub is_out_of_place : ℕ → Row → Bool
is_out_of_place initiators r = if initiators == 0 then not (is_begin r) else is_begin r

abbrev pub has_no_event : Result Event LineFault → Bool
has_no_event (Ok event) = false
has_no_event (Err fault) = true

-- an event names an initiator that is not below `initiators`
abbrev pub names_none : ℕ → Event → Bool
names_none initiators (events.Act initiator action) = not (nat_lt initiator initiators)
names_none initiators (events.See node) = nat_lt initiators node
names_none initiators (events.Inject initiator bytes) = not (nat_lt initiator initiators)
names_none initiators _ = false

abbrev pub event_names_none : ℕ → Result Event LineFault → Bool
event_names_none initiators (Ok event) = names_none initiators event
event_names_none initiators (Err fault) = false

-- Each fault by itself, of a line without its end, on a bus of so many initiators (0 before it began).
abbrev pub has_fault : List ℕ → ℕ → LineFault → Bool
has_fault line initiators faults.TooLong = nat_lt 8192 (length line)
has_fault line initiators faults.Byte = not (is_silent line) && not (list_all is_printable line)
has_fault line initiators faults.Unknown = not (is_silent line) && not (on_row (row line) (λ r. true))
has_fault line initiators faults.Place = not (is_silent line) && on_row (row line) (is_out_of_place initiators)
has_fault line initiators faults.Shape = not (is_silent line) && on_row (row line) (λ r. not (has_shape r initiators (arguments line)))
has_fault line initiators faults.Range = not (is_silent line) && on_row (row line) (λ r. has_no_event (event_of r (arguments line)))
has_fault line initiators faults.NoInitiator =
    not (is_silent line) && on_row (row line) (λ r. event_names_none initiators (event_of r (arguments line)))
has_fault line initiators faults.NoMemory = false

-- the order in which the faults of a line are looked for
abbrev pub order : List LineFault
order = faults.TooLong ∷ faults.Byte ∷ faults.Unknown ∷ faults.Place ∷ faults.Shape ∷ faults.Range ∷ faults.NoInitiator ∷ []

abbrev pub maybe_event : Result Event LineFault → Option Event
maybe_event (Ok event) = Some event
maybe_event (Err fault) = None

abbrev pub row_event : Option Row → List (List ℕ) → Option Event
row_event None ws = None
row_event (Some r) ws = maybe_event (event_of r ws)

-- the event of a line that is neither blank nor a comment
abbrev pub event_at : List ℕ → Option Event
event_at line = if is_silent line then None else row_event (row line) (arguments line)

abbrev pub told : Option LineFault → List ℕ → Result (Option Event) LineFault
told (Some fault) line = Err fault
told None line = Ok (event_at line)

-- what a line says: the first fault in the order, or else its event, if it has one
abbrev pub reading : List ℕ → ℕ → Result (Option Event) LineFault
reading line initiators = told (find (has_fault line initiators) order) line

-- ---- the two words of a write

abbrev pub write_words : List ℕ → Result Cmd LineFault
write_words line =
    if take_all (Number ∷ Data ∷ []) (words line) then writing_blocks Ten 0x2A (words line) else Err faults.Shape
