-- The disk fold: what a unit is and what its medium holds, as a fold over the notes (RBC). A unit begins started, not prevented and without
-- marks, over what its medium holds at the start. A run leaves what the plain disk says: a good WRITE its blocks, a good START STOP UNIT the
-- unit started or not and the tray changed, a good PREVENT ALLOW its word, and a unit attention that was told its mark cleared. A good load
-- into an empty tray marks as changed the places of all other logins of the unit, live and held. `cleared` marks as reset the places of the
-- unit's logins, starts it and lets its medium go. No other note changes anything.
use Rattle.std.specs.Prelude.{ℕ, suc, ◌+◌, ◌^◌, ◌==◌, ◌&&◌, not, Bool, true, false, if◌then◌else◌, List, [], ◌∷◌, map, slice_index_or, Option, Some, None, Result, Ok, Err}
use Rattle.std.specs.List.{filter}
use Rattle.sbp_base.specs.Update.{upd}
use Rattle.rbc_command.specs.declared.sense.Sense.{Sense}
use Rattle.rbc_disk.specs.declared.request.Request.{Request}
use Rattle.rbc_disk.specs.Disk.{Disk, disk_at, loads}
use Rattle.rbc_disk.specs.Units.{PlainDisk, plain_disk, new_unit, cleared, changed_for}
use Rattle.rbc_disk.specs.Requests.{request_of, is_load}
use Rattle.rbc_disk.specs.Runs.{after_run, is_failure}
use Rattle.login_table.specs.declared.login.Login.{Login}
use Rattle.login_table.specs.Table.{units_places}
use Rattle.sbp_journal.specs.Run.{Moment, said}
use Rattle.sbp_journal.specs.declared.note.Note.TheVariants as notes

-- the units at the start
abbrev pub first_units : List Disk → List PlainDisk
first_units start = map (plain_disk new_unit) start

abbrev pub unit_at : List PlainDisk → ℕ → PlainDisk
unit_at units unit = slice_index_or units unit (plain_disk new_unit (disk_at [] 0))

-- places of the table of logins, as a set
abbrev pub places_of : List ℕ → ℕ
places_of [] = 0
places_of (place ∷ places) = 2 ^ place + places_of places

abbrev pub all_but : ℕ → List ℕ → List ℕ
all_but place places = filter (λ other. not (other == place)) places

-- a run was a load that moved a disc
abbrev pub asks_load : Result Request Sense → Bool
asks_load (Ok request) = is_load request
asks_load (Err refused) = false

abbrev pub is_good : Option Sense → Bool
is_good None = true
is_good (Some check) = false

abbrev pub moves_disc : List ℕ → Option Sense → PlainDisk → Bool
moves_disc cdb check plain = is_good check && asks_load (request_of plain.medium.is_bay cdb) && loads plain.medium

-- what a run of the login in a place leaves, beside the logins of its unit
abbrev pub marked : Bool → ℕ → PlainDisk → PlainDisk
marked false others plain = plain
marked true others plain = record plain { unit = changed_for plain.unit others }

abbrev pub left_by_run : (cdb bytes : List ℕ) → Option Sense → (place unit : ℕ) → List (Option Login) → PlainDisk → PlainDisk
left_by_run cdb bytes check place unit places plain =
    marked (moves_disc cdb check plain) (places_of (all_but place (units_places unit places))) (after_run cdb bytes check place plain)

-- what a unit reset leaves
abbrev pub left_by_reset : (unit : ℕ) → List (Option Login) → PlainDisk → PlainDisk
left_by_reset unit places plain = record plain { unit = cleared plain.unit (places_of (units_places unit places)) }

-- how many runs on a unit ended with a medium call that failed
abbrev pub failed_runs : List Moment → ℕ → ℕ
failed_runs [] = λ u. 0
failed_runs (said (notes.Ran i n k unit cdb bytes check) ∷ past) = upd (failed_runs past) unit (if is_failure check then suc (failed_runs past unit) else failed_runs past unit)
failed_runs (_ ∷ past) = failed_runs past
