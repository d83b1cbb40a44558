-- By which response an agent of the target has an ORB (NCITS 325-1998, command block agents and command block ORB): the target got it, whole, and it answered the
-- agent's read of the 32 bytes where the ORB stands, of the initiator that had the login then; its bytes spell the ORB.
use Rattle.std.specs.Prelude.{◌≡◌, ℕ, true, false, List, ◌∷◌, ◌++◌, Some, Ok}
use Rattle.orb_layout.specs.declared.ask.Ask.TheVariants.{Read}
use Rattle.orb_layout.specs.declared.command.CommandOrb.{CommandOrb}
use Rattle.orb_layout.specs.CommandOrbs.{command_orb}
use Rattle.orb_layout.specs.Replies.{payload_of}
use Rattle.command_agent.specs.declared.step.Which.{Which}
use Rattle.rbc_disk.specs.Disk.{Disk}
use Rattle.sbp_journal.specs.Run.{Moment, said}
use Rattle.sbp_journal.specs.Transactions.{Sending}
use Rattle.sbp_journal.specs.Wire.{terms}
use Rattle.sbp_journal.specs.declared.note.Note.TheVariants as notes
use Rattle.sbp_laws.specs.Agents.{fifo_in}
use Rattle.sbp_laws.specs.Packets.{answer_in, answered_at, packet_at, receiver_in}
use Rattle.sbp_laws.specs.Targets.{agent_at, initiator_at, is_serial, login_at, over, target_at}
use Rattle.sbp_world.specs.Agents.AskedRuns.{AreAskedAt, HasAsked, serial_of}
use Rattle.sbp_world.specs.Lists.SentReads.{AreSentBehind}

pub record IsBrought (start : List Disk) (past : List Moment) (place address : ℕ) (orb : CommandOrb) : Type 0 where
  pub response : ℕ
  pub request : ℕ
  -- as it was got
  pub later : List Moment
  pub earlier : List Moment
  pub is : later ++ said (notes.Got response) ∷ earlier ≡ past
  pub by_target : is_serial (receiver_in ((terms earlier).sent response)) 0 ≡ true
  pub closed : answered_at (terms earlier) response ≡ Some request
  pub bytes : List ℕ
  pub brings : payload_of (answer_in (packet_at (terms earlier) response)) 32 ≡ Ok bytes
  pub spells : command_orb bytes ≡ orb
  -- the read that it answered
  pub which : Which
  pub waited : serial_of which (agent_at (over (target_at start earlier)) place) ≡ Some request
  pub asked : (let target = over (target_at start earlier) in HasAsked (terms earlier) (initiator_at target (terms earlier) place) (fifo_in (login_at target place)) request (Read address 32) false)

-- as a packet is got, the agents wait for what they asked for
abbrev pub AskedAsGot : List Disk → Moment → List Moment → Type 0
AskedAsGot start (said (notes.Got serial)) past = AreAskedAt start past
AskedAsGot start moment past = Unit {0}

-- and what they wait for, to read in a slot, was sent behind the append of the ORB there
abbrev pub SentAsGot : List Disk → Moment → List Moment → Type 0
SentAsGot start (said (notes.Got serial)) past = AreSentBehind start past
SentAsGot start moment past = Unit {0}

-- A response is got: it answers the request that its label waits for, of nodes that injected no packets.
abbrev pub AnswersAt : Moment → List Moment → Type 0
AnswersAt (said (notes.Got serial)) past =
    (request : ℕ) → answered_at (terms past) serial ≡ Some request → (asking : Sending) → (terms past).sent request ≡ Some asking → (terms past).injects asking.from ≡ false → (terms past).injects asking.to ≡ false → (terms past).answers serial ≡ Some request
AnswersAt moment past = Unit {0}
