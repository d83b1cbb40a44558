-- A run that brings a disc into the tray has no answer.
use Rattle.sbp_world.proofs.Words.Std.{arith, ◌≡◌, ◌∙◌, refl, sym, ap, ℕ, ◌&&◌, nat_lt, not, Bool, true, false, cond, List, length, Option, Some, None, Result, Ok, Err, slice_set, nat_tests, common_steps}
use Rattle.sbp_world.proofs.Words.Target.{Sense, Disk, disk_at, answer_length, request_of, answer_length_by, answered_length, check_in, left_by, medium_after_good, medium_ended, PlainDisk, Outcome, Request, Machine, MayTell, came}
use Rattle.rbc_command.specs.declared.command.Command.TheVariants as commands
use Rattle.rbc_disk.specs.declared.command.Outcome.TheVariants as outcomes
use Rattle.rbc_disk.specs.declared.request.Request.TheVariants as requests

pub came_not : (d : Disk) → came d d ≡ true → ⊥
came_not d e = by d.is_present e
  where
    by : (b : Bool) → (not b && b) ≡ true → ⊥
    by true e = let no : false ≡ true = e in cc
    by false e = let no : false ≡ true = e in cc

absent : (b : Bool) → (not b && false) ≡ true → ⊥
absent true e = let no : false ≡ true = e in cc
absent false e = let no : false ≡ true = e in cc

inside : (disks : List Disk) (unit : ℕ) (y : Disk) (b : Bool) → nat_lt unit (length disks) ≡ b → came (disk_at disks unit) (disk_at (slice_set disks unit y) unit) ≡ true → came (disk_at disks unit) y ≡ true
inside disks unit y true l e =
    let same : disk_at (slice_set disks unit y) unit ≡ y = grind (arith, nat_tests, common_steps) in ap (came (disk_at disks unit)) (sym same) ∙ e
inside disks unit y false l e =
    let same : disk_at (slice_set disks unit y) unit ≡ disk_at disks unit = grind (arith, nat_tests, common_steps) in
    absurd (came_not (disk_at disks unit) (ap (came (disk_at disks unit)) (sym same) ∙ e))

pub came_there : (disks : List Disk) (unit : ℕ) (y : Disk) → came (disk_at disks unit) (disk_at (slice_set disks unit y) unit) ≡ true → came (disk_at disks unit) y ≡ true
came_there disks unit y e = inside disks unit y (nat_lt unit (length disks)) refl e

eject_not : (b : Bool) (d w : Disk) → w.is_present ≡ false → came d (cond b w d) ≡ true → ⊥
eject_not true d w s e = absent d.is_present (ap (λ (p : Bool). not d.is_present && p) (sym s) ∙ e)
eject_not false d w s e = came_not d e

good_loads : (request : Request) (payload : List ℕ) (d : Disk) → came d (medium_after_good request payload d) ≡ true → answer_length request ≡ 0
good_loads requests.Load payload d e = refl
good_loads requests.Eject payload d e = absurd (eject_not (d.is_bay && d.is_present) d _ refl e)
good_loads (requests.Plain commands.TestReady) payload d e = refl
good_loads (requests.Plain (commands.Inquiry allocation)) payload d e = absurd (came_not d e)
good_loads (requests.Plain (commands.StartStop start)) payload d e = refl
good_loads (requests.Plain (commands.Prevent on)) payload d e = refl
good_loads (requests.Plain commands.Capacity) payload d e = absurd (came_not d e)
good_loads (requests.Plain (commands.Read lba count)) payload d e = absurd (came_not d e)
good_loads (requests.Plain (commands.Write lba count)) payload d e = refl
good_loads (requests.Plain (commands.Verify lba count)) payload d e = refl
good_loads (requests.Plain commands.Sync) payload d e = refl

ended_loads : (r : Result Request Sense) (payload : List ℕ) (o : Outcome) (d : Disk) → came d (medium_ended r payload (check_in o) d) ≡ true → (check_in o ≡ None → answered_length o ≡ answer_length_by r) → answered_length o ≡ 0
ended_loads r payload (outcomes.Check sense) d e h = refl
ended_loads (Ok request) payload (outcomes.Good len) d e h = h refl ∙ good_loads request payload d e
ended_loads (Err refused) payload (outcomes.Good len) d e h = h refl

pub ran_loads : (ran : Option Outcome) (m : Machine) (place : ℕ) (plain : PlainDisk) → MayTell ran m place plain → came plain.medium (left_by ran m.orb.cdb m.payload place plain).medium ≡ true → (A : Type 0) → ((o : Outcome) → ran ≡ Some o → answered_length o ≡ 0 → A) → A
ran_loads None m place plain may e A f = absurd (came_not plain.medium e)
ran_loads (Some o) m place plain may e A f = f o refl (ended_loads (request_of plain.medium.is_bay m.orb.cdb) m.payload o plain.medium e may.len)
