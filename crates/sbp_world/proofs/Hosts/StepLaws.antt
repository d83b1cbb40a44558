-- The law of the steps of the slots.
use Rattle.sbp_world.proofs.Words.World.{StepLaw}
use Rattle.sbp_world.proofs.Hosts.Appends.{append_rows}
use Rattle.sbp_world.proofs.Hosts.Beside.{begins, beside_rests, sent_rests, pin_told}
use Rattle.sbp_world.proofs.Hosts.Told.{low_told, high_told, taken_told, dropped_told, unpins}

pub step_law : StepLaw
step_law = record {
  begins = begins;
  asked = λ line event past i s r. r;
  beside = λ past i s note r e. beside_rests past i s r note e;
  append = append_rows;
  low = low_told;
  high = high_told;
  taken = taken_told;
  dropped = dropped_told;
  sent = sent_rests;
  pinned = pin_told;
  unpinned = unpins;
}
