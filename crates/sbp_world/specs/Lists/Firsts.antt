-- Which ORB a write of ORB_POINTER names, in every run (NCITS 325-1998, ORB_POINTER): each packet of an initiator that injected none by which an agent is
-- pointed to an ORB is the write for a list of that initiator, with the address of the first ORB of it.
use Rattle.sbp_world.specs.Lists.Closes.{Always, AreFirsts}

-- After every line of every run of a machine with a unit, at most four, and a medium for each; and behind each delivery of a line that delivers one packet
-- after the other.
abbrev pub FirstLaw : Type 0
FirstLaw = Always AreFirsts
