-- One management operation of an initiator that injected no packets is in hand at a time, in every run before whose place lists were open as they should be: each status block of
-- the management that it gets in an open FIFO is one that the target tells, for the target writes such a block to its FIFOs for its operation alone.
use Rattle.sbp_world.proofs.Words.World.{ManagingLaw}
use Rattle.sbp_world.proofs.Lists.FifoProved.{fifo_writes_law}
use Rattle.sbp_world.proofs.Lists.ManageLaws.{hands_law}
use Rattle.sbp_world.proofs.Lists.ManageLines.{rest_law}
use Rattle.sbp_world.proofs.Lists.ManageOpen.{GotLaw, open_law}
use Rattle.sbp_world.proofs.Lists.ManageRuns.{HandsLaw, managing_by}
use Rattle.sbp_world.proofs.Lists.ManageTelling.{PlaceGotLaw, got_law, place_got_law}

-- each status block of the management that an initiator gets in an open FIFO is one that the target tells
pub rest_got_law : GotLaw
rest_got_law = got_law fifo_writes_law

-- so is each one that waits for it
pub rest_places_law : PlaceGotLaw
rest_places_law = place_got_law fifo_writes_law

-- one operation is in hand at a time
pub one_in_hand_law : HandsLaw
one_in_hand_law = hands_law (rest_law (open_law rest_got_law))

pub one_managed_law : ManagingLaw
one_managed_law = managing_by one_in_hand_law
