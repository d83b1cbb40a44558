-- Lists of the calls of one unit, the latest first, over whatever medium each one has.
use Rattle.std.specs.Prelude.{◌≡◌, ℕ, ◌<◌, ◌==◌, ◌&&◌, ◌||◌, not, Bool, false, List, [], ◌∷◌, Option, Some, None, is_none}
use Rattle.rbc_command.specs.Commands.{operation_in}
use Rattle.rbc_command.specs.declared.sense.Sense.{Sense}
use Rattle.rbc_disk.specs.Disk.{Disk}
use Rattle.rbc_disk.specs.Units.{UnitState, plain_disk, new_unit, has_place, cleared, changed_for}
use Rattle.rbc_disk.specs.Requests.{is_inquiry}
use Rattle.rbc_disk.specs.Checks.{check_of}
use Rattle.rbc_disk.specs.Runs.{need_of, Feeds, MayEnd, failure_of, unit_after, has_attention}
use Rattle.rbc_disk.specs.declared.command.BufferPlan.{BufferPlan}

-- a command block of a login's place ran over a medium that held this, and ended, with a check or with none; a unit reset, or a changed medium, with the places of the logins that it names
pub data Call : Type 0 where
  Ran : (cdb : List ℕ) (buffer : BufferPlan) (place : ℕ) (payload : List ℕ) (medium : Disk) (ended : Option Sense) → Call
  Cleared : (logins : ℕ) → Call
  Changed : (logins : ℕ) → Call

abbrev pub after_call : Call → UnitState → UnitState
after_call (Ran cdb buffer place payload medium ended) unit = unit_after cdb ended place medium.is_bay unit
after_call (Cleared logins) unit = cleared unit logins
after_call (Changed logins) unit = changed_for unit logins

-- a new unit after the calls
abbrev pub after_calls : List Call → UnitState
after_calls [] = new_unit
after_calls (call ∷ calls) = after_call call (after_calls calls)

-- each command was run with its data, and ended as it may, over the unit and the medium before it
abbrev pub MayHappen : Call → UnitState → Type 0
MayHappen (Ran cdb buffer place payload medium ended) unit = (place < 8) × MayEnd (check_of cdb buffer (plain_disk unit medium) place) (failure_of medium.is_bay cdb) ended × Feeds (need_of cdb buffer (plain_disk unit medium) place) payload
MayHappen (Cleared logins) unit = Unit {0}
MayHappen (Changed logins) unit = Unit {0}

abbrev pub Happened : List Call → Type 0
Happened [] = Unit {0}
Happened (call ∷ calls) = Happened calls × MayHappen call (after_calls calls)

-- a command ended with the unit attention of this code
abbrev pub tells : ℕ → Option Sense → Bool
tells code None = false
tells code (Some check) = has_attention code check

-- a reset named the place, and no command of the place was told of it since
abbrev pub owes_reset : ℕ → List Call → Bool
owes_reset place [] = false
owes_reset place (Cleared logins ∷ calls) = owes_reset place calls || has_place logins place
owes_reset place (Changed logins ∷ calls) = owes_reset place calls
owes_reset place (Ran cdb buffer asked payload medium ended ∷ calls) = owes_reset place calls && not (asked == place && tells 0x29 ended)

-- a changed medium named the place, and no command of the place was told of it since
abbrev pub owes_change : ℕ → List Call → Bool
owes_change place [] = false
owes_change place (Cleared logins ∷ calls) = owes_change place calls
owes_change place (Changed logins ∷ calls) = owes_change place calls || has_place logins place
owes_change place (Ran cdb buffer asked payload medium ended ∷ calls) = owes_change place calls && not (asked == place && tells 0x28 ended)

-- the commands that are told of marks: those of the table but INQUIRY
abbrev pub minds_marks : List ℕ → Bool
minds_marks cdb = not (is_none (operation_in cdb)) && not (is_inquiry (operation_in cdb))

-- A place is marked exactly where it is owed to be told.
pub record MarksOwed (calls : List Call) (place : ℕ) : Type 0 where
  pub reset : has_place (after_calls calls).reset place ≡ owes_reset place calls
  pub changed : has_place (after_calls calls).changed place ≡ owes_change place calls

abbrev pub MarkLaw : Type 0
MarkLaw = (calls : List Call) (place : ℕ) → place < 8 → Happened calls → MarksOwed calls place

-- A command that minds marks is told of a reset exactly where its place is owed that, and of a changed medium exactly where its place is owed that and no reset; another command is told of neither.
pub record ToldAsOwed (calls : List Call) (cdb : List ℕ) (place : ℕ) (ended : Option Sense) : Type 0 where
  pub reset : tells 0x29 ended ≡ (owes_reset place calls && minds_marks cdb)
  pub changed : tells 0x28 ended ≡ (owes_change place calls && (not (owes_reset place calls) && minds_marks cdb))

abbrev pub AttentionLaw : Type 0
AttentionLaw = (calls : List Call) (cdb : List ℕ) (buffer : BufferPlan) (place : ℕ) (payload : List ℕ) (medium : Disk) (ended : Option Sense) →
    Happened (Ran cdb buffer place payload medium ended ∷ calls) → ToldAsOwed calls cdb place ended
