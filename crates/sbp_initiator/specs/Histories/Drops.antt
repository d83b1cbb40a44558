-- When a list is dropped (NCITS 325-1998, lists of ORBs and task management). A call tells `drop`, once, of the present list, exactly
-- where there is one and one of these comes: its AGENT_RESET is answered complete; its logout, abort of all, unit reset or target reset
-- is done with status 00; a read of AGENT_STATE that counts for this list gives 0; or a generation is seen. A read counts for the list
-- that was the present one as it was sent, where the ORB_POINTER of this list had been answered then.
use Rattle.std.specs.Prelude.{◌≡◌, ℕ, ◌==◌, ◌&&◌, Bool, true, false, Option, Some, None}
use Rattle.orb_list.specs.declared.list.PresentList.{PresentList}
use Rattle.sbp_initiator.specs.declared.purpose.Purpose.{Purpose}
use Rattle.sbp_initiator.specs.declared.purpose.Purpose.TheVariants as purposes
use Rattle.sbp_initiator.specs.declared.purpose.Ending.{Ending}
use Rattle.sbp_initiator.specs.declared.purpose.Ending.TheVariants as endings
use Rattle.sbp_initiator.specs.States.{counts_for}

-- the number of the present list
abbrev pub present_list : Option PresentList → Option ℕ
present_list None = None
present_list (Some list) = Some list.tail.list

-- the list that is dropped, where one is
abbrev pub drop_if : Bool → Option PresentList → Option ℕ
drop_if true present = present_list present
drop_if false present = None

-- a list that is dropped is no longer the present one, and none is
abbrev pub IfGone : Option ℕ → Option PresentList → Type 0
IfGone None present = Unit {0}
IfGone (Some list) present = present ≡ None

-- a read of AGENT_STATE gives 0 and counts for the present list
abbrev pub state_drops : Option ℕ → Ending → Option PresentList → Bool
state_drops list (endings.Complete value) present = counts_for present list && value == 0
state_drops list _ present = false

-- the end of a transaction drops the present list
abbrev pub ends_the_list : Purpose → Ending → Option PresentList → Bool
ends_the_list (purposes.AgentReset act) (endings.Complete value) present = true
ends_the_list (purposes.State act list) ending present = state_drops list ending present
ends_the_list _ _ present = false
