-- What is to be known of an ORB_POINTER write that the target takes: its list was open at an agent from then on.
use Rattle.sbp_world.proofs.Words.Wire.{Packet, judging_step, of_request, Sent, found_sent, list_in, Moment, said}
use Rattle.sbp_world.proofs.Words.Target.{point_step, is_barred, orb_of, demand_of}
use Rattle.sbp_world.proofs.Words.Initiator.{Ask, OrbPointer}
use Rattle.sbp_world.proofs.Words.World.{ticket_at, WorldState, WasHad, initiator_in, machine_at}
use Rattle.std.specs.Prelude.{◌≡◌, ℕ, Bool, false, List, ◌∷◌, length, Some, Ok}
use Rattle.sbp_journal.specs.declared.note.Note.TheVariants as notes
use Rattle.target_base.specs.declared.address.Access.TheVariants as accesses
use Rattle.target_base.specs.declared.address.Demand.TheVariants as demands
use Rattle.sbp_world.proofs.Agents.Management.Still.{hist}

-- by a packet
abbrev pub Takes : (ℕ → Bool) → List Moment → WorldState → (serial : ℕ) → Sent → Type 0
Takes wild past w serial sent =
    (packet : Packet) → (judging_step w.target.layer sent.generation sent.bytes).0 ≡ of_request packet → is_barred w.target packet ≡ false → (place : ℕ) (pointer : OrbPointer) (ask : Ask) → demand_of (length w.target.rom) packet ≡ demands.Agent place (accesses.Point pointer) → (point_step (machine_at w place) pointer).0 ≡ Ok ask → wild (initiator_in w place) ≡ false → (n : ℕ) → list_in (ticket_at w place (orb_of (point_step (machine_at w place) pointer).1)) ≡ Some n → WasHad (said (notes.Got serial) ∷ hist past w) (initiator_in w place) n

abbrev pub AllTake : (ℕ → Bool) → List Moment → WorldState → Type 0
AllTake wild past w = (serial : ℕ) (sent : Sent) → found_sent serial w.store.kept ≡ Some sent → sent.to ≡ 0 → Takes wild past w serial sent
