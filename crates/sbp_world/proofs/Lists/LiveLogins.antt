-- The logins of the initiators' nodes, the logouts, and the responses of logins, in every run in which no initiator injected packets, or few logins were given, and before which lists were open as
-- they should be.
use Rattle.sbp_world.proofs.Words.Std.{ℕ, ◌<◌, length}
use Rattle.sbp_world.proofs.Words.World.{Under, WhereTameOrFew, IsCalmBeside, LiveLaw, NoneRefused}
use Rattle.sbp_world.proofs.Lists.BufferClears.{buffers_held}
use Rattle.sbp_world.proofs.Lists.Courses.{EveryPlace}
use Rattle.sbp_world.proofs.Lists.LiveGiven.{LawsAt, ShortLaw, laws_of}
use Rattle.sbp_world.proofs.Lists.LiveJoined.{AreStoredAt}
use Rattle.sbp_world.proofs.Lists.LiveProved.{live, logins_done, none_refused}
use Rattle.sbp_world.proofs.Lists.Beside.{AreDone}
use Rattle.sbp_world.proofs.Lists.ManageProved.{one_in_hand_law}
use Rattle.sbp_world.proofs.Lists.StoredRuns.{stored_everywhere}

module _ (short : ShortLaw) where
  pub laws : EveryPlace LawsAt
  laws = laws_of one_in_hand_law short

  pub stored : EveryPlace AreStoredAt
  stored = stored_everywhere laws (buffers_held short)

  pub logins_live : LiveLaw
  logins_live = live laws (buffers_held short) stored

  pub logouts_end : Under (WhereTameOrFew NoneRefused)
  logouts_end = none_refused laws (buffers_held short) stored

  pub logins_known : EveryPlace (λ start past w. (i : ℕ) → i < length w.initiators → IsCalmBeside past i → AreDone start (length w.initiators) past i)
  logins_known = logins_done laws (buffers_held short) stored
