-- What the target reads of an initiator's memory (NCITS 325-1998, ORBs in the memory of the initiator). After every list of calls: a
-- slot holds the ORB that was prepared last in it by these calls, with the links and the dummy format that they wrote since, and the page
-- table that was prepared; a read of the ORB gives its first bytes; the bytes of a buffer stay until these calls give the slot out again
-- or a write of the target is served there; a place of management holds the ORB of the latest operation that used it, with the fields of
-- its action, and zeros before any; and the ROM is this node's ROM.
use Rattle.std.specs.Prelude.{◌≡◌, ◌<◌, ◌==◌, ℕ, Bool, if◌then◌else◌, List, [], ◌∷◌, ◌++◌, length, replicate, take, Option, Some, None}
use Rattle.bus_memory.specs.declared.window.Window.TheVariants as windows
use Rattle.bus_memory.specs.Access.{read_step}
use Rattle.bus_memory.specs.Memory.{place_at, rom_bytes, slot_at}
use Rattle.bus_memory.specs.Windows.{start}
use Rattle.orb_layout.specs.declared.management.ManagementOrb.{ManagementOrb}
use Rattle.orb_layout.specs.ManagementOrbs.{management_bytes}
use Rattle.orb_list.specs.Buffers.{NoneTouches}
use Rattle.orb_list.specs.Kept.{IfHoldsOrb, kept_in}
use Rattle.orb_list.specs.Runs as slot_runs
use Rattle.sbp_journal.specs.declared.event.Action.{Action}
use Rattle.sbp_initiator.specs.declared.state.InitiatorState.{InitiatorState}
use Rattle.sbp_initiator.specs.Acting.{act_step}
use Rattle.sbp_initiator.specs.Effects.{Turn}
use Rattle.sbp_initiator.specs.Initiators.{own_rom}
use Rattle.sbp_initiator.specs.Histories.Laws.{Call, acts, AreCalls, after}
use Rattle.sbp_initiator.specs.Refusals.{operation_of}
use Rattle.sbp_initiator.specs.States.{place_of}
use Rattle.sbp_initiator.specs.Histories.Slots.{orb_in, slot_calls_after, slot_calls_since}

-- ---- the places of management

abbrev pub with_orb : Option ManagementOrb → ℕ → (ℕ → List ℕ) → ℕ → List ℕ
with_orb None place held m = held m
with_orb (Some orb) place held m = if place == m then management_bytes orb else held m

-- what the places hold after an action: a refused one leaves them
abbrev pub held_if : Option ℕ → Action → InitiatorState → (ℕ → List ℕ) → ℕ → List ℕ
held_if (Some number) action s held m = held m
held_if None action s held m = with_orb (orb_in (operation_of action) action s) (place_of s.counts.managed) held m

abbrev pub held_by : Call → Turn → (ℕ → List ℕ) → ℕ → List ℕ
held_by (acts action) turn held m = held_if (act_step action turn.0 turn.1).0 action turn.1 held m
held_by _ turn held m = held m

-- what each place holds after a list of calls, the latest of them first
abbrev pub held_after : ℕ → Bool → List Call → ℕ → List ℕ
held_after number ready [] m = replicate 32 0
held_after number ready (call ∷ calls) m = held_by call (after number ready calls) (held_after number ready calls) m

-- ---- the law

-- by what the calls of the slots did, the latest first, and by what the places hold
pub record ReadsAfter (number : ℕ) (calls : List slot_runs.Call) (held : ℕ → List ℕ) (turn : Turn) : Type 0 where
  pub orb : (k : ℕ) → k < 32 → IfHoldsOrb (kept_in (slot_runs.run calls (own_rom number)).notes k) (slot_at turn.1.lists.memory k)
  pub read : (k : ℕ) (out : List ℕ) → k < 32 → (read_step turn.1.lists.memory (start (windows.Orb k)) out).0 ≡ 0 → (read_step turn.1.lists.memory (start (windows.Orb k)) out).1 ≡ take (length out) (slot_at turn.1.lists.memory k).orb
  pub place : (m : ℕ) → (place_at turn.1.lists.memory m).orb ≡ held m
  pub rom : turn.1.lists.memory.rom ≡ rom_bytes (own_rom number)

-- the bytes of a slot's buffer
abbrev pub buffer_in : ℕ → Turn → List ℕ
buffer_in k turn = (slot_at turn.1.lists.memory k).buffer

-- Over every list of calls; and behind each of them over every list of later ones.
pub record ReadsLaw : Type 0 where
  pub reads : (number : ℕ) (ready : Bool) (calls : List Call) → AreCalls calls → ReadsAfter number (slot_calls_after number ready calls) (held_after number ready calls) (after number ready calls)
  pub buffer : (number : ℕ) (ready : Bool) (later earlier : List Call) (k : ℕ) → AreCalls (later ++ earlier) → NoneTouches (slot_calls_since number ready later earlier) (slot_calls_after number ready earlier) (own_rom number) k → buffer_in k (after number ready (later ++ earlier)) ≡ buffer_in k (after number ready earlier)
