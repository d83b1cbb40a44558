-- Deliveries of the lowest packets in flight, one after the other.
use Rattle.std.specs.Prelude.{◌≡◌, ℕ, ◌<◌, ◌≤◌, Bool, false, List, [], ◌∷◌, length, Option, Some, None}
use Rattle.rbc_disk.specs.Runs.{Told}
use Rattle.sbp_world.specs.Settling.{budget, is_settled, lowest, settled_by}
use Rattle.task_world.specs.Delivering.{MayReceive, delivered}
use Rattle.task_world.specs.Worlds.{TaskScene, in_scene}

-- the lowest packet in flight is delivered, where there is one
abbrev pub delivered_at : Option ℕ → Option Told → TaskScene → TaskScene
delivered_at None told s = s
delivered_at (Some serial) told s = delivered serial false told s

unfoldable pub delivered_next : Option Told → TaskScene → TaskScene
delivered_next told s = delivered_at (lowest s.scene.world) told s

-- there is one, and a command that runs may have told this
abbrev pub MayAt : Option ℕ → Option Told → TaskScene → Type 0
MayAt None told s = ⊥
MayAt (Some serial) told s = MayReceive told serial s

unfoldable pub MayNext : Option Told → TaskScene → Type 0
MayNext told s = MayAt (lowest s.scene.world) told s

-- the deliveries, what each told, the latest one first
abbrev pub after_all : List (Option Told) → TaskScene → TaskScene
after_all [] s = s
after_all (told ∷ before) s = delivered_next told (after_all before s)

abbrev pub MayAll : List (Option Told) → TaskScene → Type 0
MayAll [] s = Unit {0}
MayAll (told ∷ before) s = MayNext told (after_all before s) × MayAll before s

-- Until none is in flight, but so many at most.
pub record AreUpTo (most : ℕ) (told : List (Option Told)) (s : TaskScene) : Type 0 where
  pub few : length told ≤ most
  pub all : length told < most → lowest (after_all told s).scene.world ≡ None
  pub may : MayAll told s

pub record DeliversUpTo (most : ℕ) (old new : TaskScene) : Type 0 where
  pub told : List (Option Told)
  pub is : new ≡ after_all told old
  pub may : AreUpTo most told old

-- so many packets were delivered
pub record DeliversAll (many : ℕ) (old new : TaskScene) : Type 0 where
  pub told : List (Option Told)
  pub count : length told ≡ many
  pub is : new ≡ after_all told old
  pub may : MayAll told old

-- ---- settle: the budget and the note at its end are those of every world

abbrev pub settled : List (Option Told) → TaskScene → TaskScene
settled told s = in_scene settled_by (after_all told s)

pub record Settles (old new : TaskScene) : Type 0 where
  pub told : List (Option Told)
  pub is : new ≡ settled told old
  pub may : AreUpTo (budget old.scene.world) told old
