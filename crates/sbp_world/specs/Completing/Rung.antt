-- An agent whose DOORBELL was written goes on with its list (NCITS 325-1998, DOORBELL register): it is not SUSPENDED later, unless a response to a read of an ORB or of a next pointer, which it sent since, brought a null pointer.
-- So it is in every run in which no initiator injected packets, or few logins were given.
use Rattle.std.specs.Prelude.{◌≡◌, ◌<◌, ℕ, true, List, ◌∷◌, ◌++◌, Some, None, Ok}
use Rattle.command_agent.specs.declared.phase.Phase.TheVariants as phases
use Rattle.command_agent.specs.Machine.{is_ahead}
use Rattle.orb_layout.specs.declared.pointer.OrbPointer.TheVariants.{Null}
use Rattle.orb_layout.specs.CommandOrbs.{command_orb}
use Rattle.orb_layout.specs.Pointers.{pointer_at}
use Rattle.orb_layout.specs.Replies.{Answer, payload_of}
use Rattle.rbc_disk.specs.Disk.{Disk}
use Rattle.sbp_journal.specs.Addresses.{Access, doorbell, register, start_at, start_serves}
use Rattle.sbp_journal.specs.Run.{Moment, said}
use Rattle.sbp_journal.specs.Wire.{Terms, terms}
use Rattle.sbp_journal.specs.declared.note.Note.TheVariants as notes
use Rattle.sbp_laws.specs.Packets.{access_at, answer_in, answered_at, packet_at, receiver_in}
use Rattle.sbp_laws.specs.Targets.{Agent, agent_at, is_serial, over, target_at}
use Rattle.sbp_world.specs.Completing.Labels.{AlwaysFrom}
use Rattle.sbp_world.specs.Lists.FewLogins.{IsTameOrFew}
use Rattle.sbp_world.specs.Lists.Needs.{machine_at}
use Rattle.sbp_world.specs.Worlds.{WorldState}

-- The target gets a write of the DOORBELL of a place.
pub record IsRung (wire : Terms) (serial place : ℕ) : Type 0 where
  pub by_target : is_serial (receiver_in (wire.sent serial)) 0 ≡ true
  pub asks : answered_at wire serial ≡ None
  pub access : Access
  pub is : access_at wire serial ≡ Some access
  pub names : start_at access.offset ≡ register place doorbell
  pub serves : start_serves (register place doorbell) access ≡ true

-- What answers a read of an ORB, of a next pointer, or of an ORB ahead, brings a null pointer.
pub data BringsNull (a : Agent) (request : ℕ) (answer : Answer) : Type 0 where
  in_orb : (bytes : List ℕ) → a.main ≡ Some request → a.machine.phase ≡ phases.Fetching → payload_of answer 32 ≡ Ok bytes → (command_orb bytes).next ≡ Null → BringsNull a request answer
  in_pointer : (bytes : List ℕ) → a.main ≡ Some request → a.machine.phase ≡ phases.ReadingNext → payload_of answer 8 ≡ Ok bytes → pointer_at bytes 0 ≡ Null → BringsNull a request answer
  in_orb_ahead : (bytes : List ℕ) → a.ahead ≡ Some request → is_ahead a.machine.ahead ≡ true → payload_of answer 32 ≡ Ok bytes → (command_orb bytes).next ≡ Null → BringsNull a request answer

-- Behind a history, the target got such a response to the agent of a place, to a read that was sent since then.
pub record BroughtNull (start : List Disk) (past later : List Moment) (place : ℕ) : Type 0 where
  pub behind : List Moment
  pub serial : ℕ
  pub before : List Moment
  pub is : behind ++ said (notes.Got serial) ∷ before ≡ later
  pub by_target : is_serial (receiver_in ((terms (before ++ past)).sent serial)) 0 ≡ true
  pub request : ℕ
  pub closed : answered_at (terms (before ++ past)) serial ≡ Some request
  pub since : (terms past).count < request
  pub brings : BringsNull (agent_at (over (target_at start (before ++ past))) place) request (answer_in (packet_at (terms (before ++ past)) serial))

-- not by the terms, and not at the node
abbrev pub IsNotSuspended : List Disk → List Moment → WorldState → (place : ℕ) → Type 0
IsNotSuspended start now w place = ((agent_at (over (target_at start now)) place).machine.phase ≡ phases.Suspended → ⊥) × ((machine_at w place).phase ≡ phases.Suspended → ⊥)

abbrev pub AllGoOn : List Disk → List Moment → WorldState → Type 0
AllGoOn start now w =
    (later past : List Moment) (serial place : ℕ) → place < 8 → later ++ said (notes.Got serial) ∷ past ≡ now → IsRung (terms past) serial place → (BroughtNull start (said (notes.Got serial) ∷ past) later place → ⊥)
    → IsNotSuspended start now w place

abbrev pub RungLaw : Type 0
RungLaw = AlwaysFrom (λ start past w. IsTameOrFew past → AllGoOn start past w)
