-- Which ORB an agent of the target reads, by its name (NCITS 325-1998, command block agents and linked lists of ORBs), as it waits for the read: the one that its initiator
-- prepared last in the slot at the address, an ORB of its latest list.
use Rattle.std.specs.Prelude.{◌≡◌, ◌<◌, ◌≤◌, ℕ, suc, true, List, ◌∷◌, Some, IsSomeAnd}
use Rattle.bus_memory.specs.declared.window.Window.TheVariants as windows
use Rattle.bus_memory.specs.Windows.{start as start_of}
use Rattle.command_agent.specs.declared.phase.Phase.TheVariants as phases
use Rattle.command_agent.specs.Machine.{aligned, is_ahead}
use Rattle.orb_layout.specs.declared.command.CommandOrb.{CommandOrb}
use Rattle.orb_layout.specs.declared.pointer.OrbPointer.TheVariants.{At}
use Rattle.orb_layout.specs.declared.status.StatusKind.{StatusKind}
use Rattle.rbc_disk.specs.Disk.{Disk}
use Rattle.sbp_journal.specs.Run.{Moment, said}
use Rattle.sbp_journal.specs.Wire.{terms}
use Rattle.sbp_journal.specs.declared.note.Note.TheVariants as notes
use Rattle.sbp_laws.specs.CarriedBytes.{address_of}
use Rattle.sbp_laws.specs.CarriedLaw.{IsAsAppended, MatchesStatus}
use Rattle.sbp_laws.specs.Lists.{linked, orb as named_orb, prepared_in, slot_at}
use Rattle.sbp_laws.specs.Packets.{receiver_in}
use Rattle.sbp_laws.specs.Targets.{agent_at, over, target_at}
use Rattle.sbp_laws.specs.Terms.{ends, lists, request_at}
use Rattle.sbp_world.specs.Worlds.{WorldState}
use Rattle.sbp_world.specs.Lists.Needs.{IsCalm, initiator_in}
use Rattle.sbp_world.specs.Lists.OrbReads.{IsBrought}

-- an address is that of the slot in which an ORB of the latest list stands, which is linked and has not ended
pub record IsLedTo (past : List Moment) (i address : ℕ) : Type 0 where
  pub n : ℕ
  pub k : ℕ
  pub slot : ℕ
  pub small : slot < 32
  pub stands : address ≡ start_of (windows.Orb slot)
  pub there : prepared_in past i slot ≡ Some (named_orb n k)
  pub latest : suc n ≡ lists past i
  pub at : address ≡ address_of past i n k
  pub after : ends past i n ≤ k
  pub before : k < linked past i n

-- each agent that reads its present ORB, and each that reads one ahead, of the initiator to which the read was sent, where this injected no packets
pub record AreLed (start : List Disk) (past : List Moment) : Type 0 where
  pub main : (place : ℕ) → place < 8 → (serial i : ℕ) → receiver_in ((terms past).sent serial) ≡ Some (suc i) → IsCalm past i → (let a = agent_at (over (target_at start past)) place in a.main ≡ Some serial → a.machine.phase ≡ phases.Fetching → IsLedTo past i a.machine.present)
  pub ahead : (place : ℕ) → place < 8 → (serial i offset : ℕ) → receiver_in ((terms past).sent serial) ≡ Some (suc i) → IsCalm past i → (let a = agent_at (over (target_at start past)) place in a.ahead ≡ Some serial → is_ahead a.machine.ahead ≡ true → a.machine.orb.next ≡ At offset → IsLedTo past i (aligned offset))

-- as a packet is got
abbrev pub LedAsGot : List Disk → Moment → List Moment → Type 0
LedAsGot start (said (notes.Got serial)) past = AreLed start past
LedAsGot start moment past = Unit {0}

-- a response brought an ORB, to the read that was sent to an initiator; where this had injected no packets, of the ORB that it had in the slot then
pub record IsBroughtFrom (start : List Disk) (past : List Moment) (place address : ℕ) (orb : CommandOrb) : Type 0 where
  pub brought : IsBrought start past place address orb
  pub i : ℕ
  pub to : receiver_in ((terms brought.earlier).sent brought.request) ≡ Some (suc i)
  pub led : IsCalm brought.earlier i → IsLedTo brought.earlier i address

-- and it is of that ORB
pub record IsNamedBrought (start : List Disk) (past : List Moment) (place address : ℕ) (orb : CommandOrb) : Type 0 where
  pub brought : IsBrought start past place address orb
  pub i : ℕ
  pub to : receiver_in ((terms brought.earlier).sent brought.request) ≡ Some (suc i)
  pub led : IsLedTo brought.earlier i address

-- a response brought it from its initiator as the last of these packets
pub record IsJustBrought (start : List Disk) (past : List Moment) (serial place address : ℕ) (orb : CommandOrb) : Type 0 where
  pub from : IsBroughtFrom start (said (notes.Got serial) ∷ past) place address orb
  pub now : from.brought.earlier ≡ past

-- ---- while an agent has an ORB that has not ended
-- it was brought of the initiator that has the place, and is the one that was prepared last in its slot still
pub record IsStillBrought (start : List Disk) (past : List Moment) (w : WorldState) (place address : ℕ) (orb : CommandOrb) : Type 0 where
  pub named : IsNamedBrought start past place address orb
  pub initiator : named.i ≡ initiator_in w place
  pub there : prepared_in past named.i named.led.slot ≡ Some (named_orb named.led.n named.led.k)

-- ---- the ORB of an end, and of a run
-- by this name, but of a status failed: its format is 3 exactly where the status is dummy, and where it is not, it is that of the append
pub record EndIsNamed (start : List Disk) (past : List Moment) (i n k : ℕ) (status : StatusKind) : Type 0 where
  pub place : ℕ
  pub small : place < 8
  pub orb : CommandOrb
  pub named : IsNamedBrought start past place (address_of past i n k) orb
  pub initiator : named.i ≡ i
  pub list : named.led.n ≡ n
  pub number : named.led.k ≡ k
  pub matches : IsSomeAnd (request_at past i n k) (λ request. MatchesStatus status orb request)

-- no dummy, and that of the append; and it is the one that was prepared last in its slot still
pub record RunIsNamed (start : List Disk) (past : List Moment) (i n k : ℕ) : Type 0 where
  pub place : ℕ
  pub small : place < 8
  pub orb : CommandOrb
  pub named : IsNamedBrought start past place (address_of past i n k) orb
  pub initiator : named.i ≡ i
  pub list : named.led.n ≡ n
  pub number : named.led.k ≡ k
  pub there : prepared_in past i (slot_at past i n k) ≡ Some (named_orb n k)
  pub not_dummy : orb.format ≡ 3 → ⊥
  pub as_appended : IsSomeAnd (request_at past i n k) (λ request. IsAsAppended orb request)
