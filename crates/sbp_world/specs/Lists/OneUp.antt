-- No two agents of the target are out of RESET of one initiator that injected no packets, be they DEAD, in every run in which none did, or few logins were given (NCITS 325-1998,
-- ORB_POINTER, AGENT_RESET and AGENT_STATE): an initiator has one list at a time, which one write of ORB_POINTER opens at one place.
use Rattle.std.specs.Prelude.{◌≡◌, ◌<◌, ℕ, List}
use Rattle.sbp_journal.specs.Run.{Moment}
use Rattle.sbp_world.specs.Lists.Needs.{IsCalm}
use Rattle.sbp_world.specs.Worlds.{WorldState}
use Rattle.sbp_world.specs.Lists.Closes.{Always, WhereTameOrFew}
use Rattle.sbp_world.specs.Lists.Opened.{IsUp}

abbrev pub AreApart : List Moment → WorldState → Type 0
AreApart past w = (i place other : ℕ) → IsCalm past i → place < 8 → other < 8 → IsUp w i place → IsUp w i other → other ≡ place

-- After every line of every run, and behind each delivery of a line that delivers one packet after the other.
abbrev pub OneUpLaw : Type 0
OneUpLaw = Always (WhereTameOrFew AreApart)
