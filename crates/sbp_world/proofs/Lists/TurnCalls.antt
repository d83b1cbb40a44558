-- What a turn of a run is to the target: it leaves the target, and no packet of it is sent; a unit gets a key; or it is one call of the target, behind the first note of the turn, and what the call hands out.
use Rattle.sbp_world.proofs.Words.Std.{◌≡◌, ◌⊎◌, ℕ, Bool, false, true, List, ◌∷◌, Option, Some}
use Rattle.sbp_world.proofs.Words.Wire.{LabelParts, Packet, Layer, judging_step, of_response, Sent, found_sent, Moment, asked, said, Sending, terms, Event, Note}
use Rattle.sbp_world.proofs.Words.Target.{Call, alone, receives, sees, with_key, Disk, Purpose, Told}
use Rattle.sbp_world.proofs.Words.World.{handed_out, WorldState, AreOthers}
use Rattle.sbp_journal.specs.declared.note.Note.TheVariants as notes
use Rattle.sbp_target.proofs.Histories.Calling.{Good}
use Rattle.sbp_world.proofs.Agents.Management.Still.{hist}
use Rattle.sbp_world.proofs.Lists.Adds.{Stays}
use Rattle.sbp_world.proofs.Lists.BusyDeliveries.{Called}
use Rattle.sbp_world.proofs.Lists.Full.{IsFull, full_closed}
use Rattle.sbp_world.proofs.Lists.Turns.{First}

-- what was sent by the target had been sent before
abbrev pub NoneSent : List Moment → WorldState → WorldState → Type 0
NoneSent past w v = (serial : ℕ) (sending : Sending) → (terms (hist past v)).sent serial ≡ Some sending → sending.from ≡ 0 → (terms (hist past w)).sent serial ≡ Some sending

-- the call sees a generation
abbrev pub is_sight : Call → Bool
is_sight (sees generation id) = true
is_sight _ = false

-- a packet of the store comes to the target: where it is a response, it is got
pub record Comes (w : WorldState) (first : Note) (generation : ℕ) (bytes : List ℕ) : Type 0 where
  pub serial : ℕ
  pub sent : Sent
  pub found : found_sent serial w.store.kept ≡ Some sent
  pub to : sent.to ≡ 0
  pub generation_is : sent.generation ≡ generation
  pub bytes_is : sent.bytes ≡ bytes
  pub got : (packet : Packet) (label : LabelParts) (purpose : Option Purpose) → (judging_step w.target.layer generation bytes).0 ≡ of_response packet label purpose → first ≡ notes.Got serial

-- one call of the target, in a world behind the first note
pub record IsCalled (past : List Moment) (w v : WorldState) : Type 0 where
  pub good : Good w.target
  pub call : Call
  pub u : WorldState
  pub first : Note
  pub starts : First first
  pub fresh : hist past u ≡ said first ∷ hist past w
  pub places : u.places ≡ w.places
  -- the target knows the nodes as before, where it sees no generation
  pub bus : is_sight call ≡ false → u.generations ≡ w.generations
  pub target : u.target ≡ (alone call w.target).node
  pub layer : Layer Purpose
  pub called : Called w good ⊥ (λ p m. IsFull m) full_closed layer (alone call w.target)
  pub others : AreOthers (alone call w.target).outbox.sides
  pub comes : (run : Option Told) (disks : List Disk) (generation : ℕ) (bytes : List ℕ) → call ≡ receives run disks generation bytes → Comes w first generation bytes
  pub is : v ≡ handed_out 0 0 (alone call w.target).outbox u

pub data TurnCalls (wild : ℕ → Bool) (past : List Moment) (w v : WorldState) : Type 0 where
  leaves : Stays wild past w v → NoneSent past w v → TurnCalls wild past w v
  keyed : (unit : ℕ) (key : List ℕ) → v.target ≡ with_key unit key w.target → v.places ≡ w.places → hist past v ≡ said (notes.Key unit) ∷ hist past w → TurnCalls wild past w v
  calls : IsCalled past w v → TurnCalls wild past w v

-- a turn from a place on: behind the line that is asked for, where it begins one
pub record TurnFrom (wild : ℕ → Bool) (past : List Moment) (before : WorldState) (later : List Moment) (v : WorldState) : Type 0 where
  pub w : WorldState
  pub target : w.target ≡ before.target
  pub places : w.places ≡ before.places
  pub bus : w.generations ≡ before.generations
  pub store : w.store ≡ before.store
  pub begins : (hist later w ≡ hist past before) ⊎ ((line : ℕ) × ((event : Event) × (hist later w ≡ asked line event ∷ hist past before)))
  pub turn : TurnCalls wild later w v
