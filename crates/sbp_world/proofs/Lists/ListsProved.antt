-- Lists are open as they should be at each place of every run in which no initiator injected packets, or few logins were given, where a list that is open is the present one, and operations of the
-- target and logins are of places and have FIFOs of logins.
use Rattle.sbp_world.proofs.Words.Std.{◌≡◌, ◌<◌, ◌≤◌, ℕ, length}
use Rattle.sbp_world.proofs.Words.World.{history_of, Run, IsRun, AreHere, ClosingLaw, OpenListsLaw, PlacesLaw, Under, WhereTameOrFew, LastLaw, OpenBefore, IsTameOrFew, AllSentSo, AllStatuses}
use Rattle.sbp_world.proofs.Lists.Closing.{closing_law}
use Rattle.sbp_world.proofs.Lists.Lasts.{last_law}
use Rattle.sbp_world.proofs.Lists.OpenLasting.{listed_law}
use Rattle.sbp_world.proofs.Lists.OpenedKnown.{laws}
use Rattle.sbp_world.proofs.Lists.StatusPlaces.{AllPlacedFor}
use Rattle.sbp_world.proofs.Lists.StatusPlaces as places

last : LastLaw
last = last_law (listed_law laws.pointers laws.moments laws.caught laws.caught_between) laws.pointers laws.moments laws.joined

pub closing : ClosingLaw
closing = closing_law last laws.pointers laws.begun

module _ (here : Under (WhereTameOrFew AreHere)) (placed : Under (WhereTameOrFew AllPlacedFor)) where
  pub lists_places : PlacesLaw
  lists_places = record {
    here = here;
    untaken = places.untaken_law laws.pointers laws.begun here placed;
    behind = places.behind_law laws.pointers laws.begun here placed laws.joined;
  }

  pub open_lists : OpenListsLaw
  open_lists = closing.closes lists_places

  pub open_before : (line : ℕ) (run : Run) → IsRun run → 0 < run.units → run.units ≤ 4 → length run.start.disks ≡ run.units → IsTameOrFew (history_of line run) → OpenBefore line run run.entries
  open_before line run r has small size beside = closing.before open_lists line run r has small size beside

  -- and the statuses of ORBs are sent and taken as they should be
  pub sent_so : Under (WhereTameOrFew AllSentSo)
  sent_so = places.sent_law laws.pointers laws.begun here placed

  pub statuses : Under (WhereTameOrFew AllStatuses)
  statuses = places.statuses laws.pointers laws.begun here placed
