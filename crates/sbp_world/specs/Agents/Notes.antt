-- What the notes of a history make of the agents of its terms: a note behind the first of a turn, a request that the target sends, a reply that waits for
-- the next note, and the end of a turn; a reply to the management operation, a reset that is seen, and the registers of an agent, which begin one. No reply
-- waits between turns; and the terms of a new target are a new node's.
use Rattle.std.specs.Prelude.{◌≡◌, ℕ, ◌<◌, Bool, true, List, [], length, map, position, Some, None}
use Rattle.orb_layout.specs.declared.ask.FailCause.TheVariants as causes
use Rattle.orb_layout.specs.Pointers.{pointer_at}
use Rattle.orb_layout.specs.Replies.{Answer}
use Rattle.rbc_disk.specs.Disk.{Disk}
use Rattle.sbp_journal.specs.Addresses.{Access, agent_reset, doorbell, orb_pointer}
use Rattle.sbp_journal.specs.Run.{Moment}
use Rattle.sbp_journal.specs.Transactions.{Kind, part_of, request}
use Rattle.sbp_journal.specs.Wire.{Terms}
use Rattle.sbp_journal.specs.declared.note.Note.{Note}
use Rattle.sbp_journal.specs.declared.note.Note.TheVariants as notes
use Rattle.sbp_laws.specs.Packets.{access_in_bytes}
use Rattle.sbp_laws.specs.Targets.{Agent, Reply, Target, going_on, is_write_access, main_lost, managed_by, manager_step, new_target, over, plain_for, register_got, reset_seen, target_by, told_by, untold_by, wants_it}
use Rattle.target_base.specs.declared.address.Access.TheVariants as accesses
use Rattle.sbp_target.specs.Receiving.{new_node}
use Rattle.sbp_world.specs.Agents.Management.Offices.{Office, office_of}
use Rattle.sbp_world.specs.Agents.Calls.{AreOf, accessed, changed, managed, seen}
use Rattle.sbp_world.specs.Agents.Crews.{answered, crew_over, hired, sent_among}

-- neither one that begins a turn, nor a packet, nor a key
abbrev pub IsBehind : Note → Type 0
IsBehind (notes.Begin initiators ready) = ⊥
IsBehind (notes.Sent serial generation from to bytes) = ⊥
IsBehind (notes.Got serial) = ⊥
IsBehind (notes.Ignored serial cause) = ⊥
IsBehind (notes.TimedOut serial) = ⊥
IsBehind (notes.Seen node generation) = ⊥
IsBehind notes.Tick = ⊥
IsBehind (notes.Key unit) = ⊥
IsBehind _ = Unit {0}

abbrev pub by_note : Note → Office → List Agent → List Agent
by_note (notes.Dead i list causes.Label) o agents = map main_lost agents
by_note (notes.Managed i word subject status login) o agents = hired word login o agents
by_note note o agents = agents

pub record NotesLaw : Type 0 where
  pub begins : (start : List Disk) (units ready : ℕ) → AreOf [] (new_target start).agents (new_node units ready)
  pub behind : (note : Note) (past : List Moment) (wire : Terms) (t : Target) → t.reply ≡ None → IsBehind note → ((target_by note past wire t).agents ≡ by_note note (office_of t) t.agents) × ((target_by note past wire t).reply ≡ None)
  pub sent : (serial generation to : ℕ) (bytes : List ℕ) (label : ℕ) (kind : Kind) (past : List Moment) (wire : Terms) (t : Target) → t.reply ≡ None → part_of bytes ≡ request label kind → (let writes = is_write_access (access_in_bytes bytes) in (target_by (notes.Sent serial generation 0 to bytes) past wire t).agents ≡ sent_among (position (wants_it writes) t.agents) writes serial t.agents)
  pub replies : (note : Note) (t : Target) (reply : Reply) → t.reply ≡ Some reply → length t.agents ≡ 8 → reply.place < 8 → (let plain = plain_for t reply in (going_on note t).agents ≡ changed reply.place (λ a. answered (told_by note plain) (untold_by note plain a.untold) reply.place plain reply.which reply.answer a) t.agents)
  pub ends : (t : Target) → t.reply ≡ None → (over t).agents ≡ crew_over t.agents
  pub manages : (answer : Answer) (t : Target) → (managed_by (manager_step t answer) answer t).agents ≡ managed answer (office_of t) t.agents
  pub resets : (later : Bool) (t : Target) → (reset_seen later t).agents ≡ seen later t.agents
  pub cuts : (place : ℕ) (access : Access) (t : Target) → (register_got agent_reset place access t).agents ≡ accessed accesses.Reset place t.agents
  pub points : (place : ℕ) (access : Access) (t : Target) → access.is_write ≡ true → (register_got orb_pointer place access t).agents ≡ accessed (accesses.Point (pointer_at access.payload 0)) place t.agents
  pub rings : (place : ℕ) (access : Access) (t : Target) → (register_got doorbell place access t).agents ≡ accessed accesses.Ring place t.agents
