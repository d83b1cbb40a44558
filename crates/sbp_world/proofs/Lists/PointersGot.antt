-- Over the turn of a packet that the target gets an agent of the terms keeps its pointer, or took one in it.
use Rattle.sbp_world.proofs.Words.Std.{◌≡◌, refl, ℕ, zero, suc, Bool, true, false, cond, List, [], ◌∷◌, Option, Some, None, Ok, Err, slice_set}
use Rattle.sbp_world.proofs.Words.Wire.{Access, Register, Start, agent_reset, agent_state, doorbell, management_agent, no_start, orb_pointer, register, rom_start, start_at, start_serves, unsolicited_enable}
use Rattle.sbp_world.proofs.Words.Initiator.{offset_at}
use Rattle.sbp_world.proofs.Words.Laws.{Agent, Target, agent_at, cut_agent, points, register_got, request_got, rings, start_got, started_by}
use Rattle.sbp_world.proofs.Words.World.{agent_in}
use Rattle.mgmt_agent.specs.Machine as manager
use Rattle.sbp_world.proofs.Lists.AgentGoes.{set_goes, starts_by, stay}
use Rattle.sbp_world.proofs.Lists.PointersHeld.{AllHold, Holds, are_going, cuts}
use Rattle.sbp_world.proofs.Lists.PointersTaken.{Taken, held_taken, points_taken, rings_held, self_taken}

-- ---- the agents of all places
abbrev pub AllTaken : (before now : List Agent) → Type 0
AllTaken before now = (p : ℕ) → Taken (agent_in before p) (agent_in now p)

set_taken : (agents : List Agent) (k : ℕ) (x : Agent) → Taken (agent_in agents k) x → AllTaken agents (slice_set agents k x)
set_taken [] k x h p = self_taken (agent_in [] p)
set_taken (a ∷ agents) zero x h zero = h
set_taken (a ∷ agents) zero x h (suc p) = self_taken (agent_in agents p)
set_taken (a ∷ agents) (suc k) x h zero = self_taken a
set_taken (a ∷ agents) (suc k) x h (suc p) = set_taken agents k x h p

pub hold_taken : (a b : List Agent) → AllHold a b → AllTaken a b
hold_taken a b f = λ p. held_taken (agent_in a p) (agent_in b p) (f p)

-- ---- a request
-- the agents of a target that has no reply to take on, as it had none before
pub record Quiet (t x : Target) : Type 0 where
  pub agents : AllTaken t.agents x.agents
  pub reply : x.reply ≡ t.reply

held_quiet : (t x : Target) → AllHold t.agents x.agents → x.reply ≡ t.reply → Quiet t x
held_quiet t x h r = record { agents = hold_taken t.agents x.agents h; reply = r }

registers : (name : Register) (place : ℕ) (access : Access) (t : Target) → Quiet t (register_got name place access t)
registers agent_reset place access t = held_quiet t (register_got agent_reset place access t) (set_goes Holds are_going t.agents place (cut_agent (agent_at t place)) (cuts (agent_at t place))) refl
registers orb_pointer place access t = by access.is_write
  where
    by : (b : Bool) → Quiet t (cond b (record t { agents = slice_set t.agents place (points access (agent_at t place)) }) t)
    by true = record { agents = set_taken t.agents place (points access (agent_at t place)) (points_taken access (agent_at t place)); reply = refl }
    by false = held_quiet t t (stay Holds are_going t.agents) refl
registers doorbell place access t = held_quiet t (register_got doorbell place access t) (set_goes Holds are_going t.agents place (rings (agent_at t place)) (rings_held (agent_at t place))) refl
registers unsolicited_enable place access t = held_quiet t (register_got unsolicited_enable place access t) (stay Holds are_going t.agents) refl
registers agent_state place access t = held_quiet t t (stay Holds are_going t.agents) refl

started_reply : (r : _) (t : Target) → (started_by r t).reply ≡ t.reply
started_reply (Err busy, machine) t = refl
started_reply (Ok ask, machine) t = refl

starts_got : (start : Start) (source : ℕ) (access : Access) (t : Target) → Quiet t (start_got start source access t)
starts_got (register place name) source access t = registers name place access t
starts_got management_agent source access t =
    let r = manager.start_step t.manager source (offset_at access.payload 0) in held_quiet t (started_by r t) (starts_by Holds are_going r t) (started_reply r t)
starts_got rom_start source access t = held_quiet t t (stay Holds are_going t.agents) refl
starts_got no_start source access t = held_quiet t t (stay Holds are_going t.agents) refl

pub requests_got : (access : Option Access) (source : ℕ) (t : Target) → Quiet t (request_got access source t)
requests_got None source t = held_quiet t t (stay Holds are_going t.agents) refl
requests_got (Some access) source t = by (start_serves (start_at access.offset) access)
  where
    by : (b : Bool) → Quiet t (cond b (start_got (start_at access.offset) source access t) t)
    by true = starts_got (start_at access.offset) source access t
    by false = held_quiet t t (stay Holds are_going t.agents) refl
