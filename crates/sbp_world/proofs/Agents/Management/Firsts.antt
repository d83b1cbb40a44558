-- What the first note of a turn makes of the management's terms.
use Rattle.sbp_world.proofs.Words.Std.{◌≡◌, ◌∙◌, refl, sym, ap, subst, ℕ, ◌+◌, not, nat_eq, Bool, true, false, cond, List, [], ◌∷◌, Some, Result, Ok, Err, arith, nat_tests}
use Rattle.sbp_world.proofs.Words.Wire.{Access, Register, Start, agent_reset, agent_state, doorbell, management_agent, no_start, orb_pointer, register, rom_start, start_at, start_serves, unsolicited_enable, Moment, asked, said, Sending, Terms, passed, terms, Cause, Event}
use Rattle.sbp_world.proofs.Words.Target.{Ahead, Main, Busy, Disk}
use Rattle.sbp_world.proofs.Words.Initiator.{Ask, Answer, Expired, offset_at}
use Rattle.sbp_world.proofs.Words.Laws.{answered_at, receiver_in, sender_in, Agent, Purpose, Target, for_agent, for_manager, got_by, is_serial, known_at, manager_step, over, purpose_among, register_got, replied, replied_to, request_got, reset_seen, start_got, started_by, target_at, target_by}
use Rattle.sbp_world.proofs.Words.World.{Office, at_rest, cleared, office_of, office_replied, started, ticked}
use Rattle.mgmt_agent.specs.Machine as manager
use Rattle.sbp_journal.specs.declared.note.Note.TheVariants as notes
use Rattle.sbp_world.specs.Agents.Management.Offices as offices
use Rattle.sbp_world.proofs.Agents.Management.Idle.{IsIdle, managed_idle, managed_office}
use Rattle.sbp_world.proofs.Agents.Management.Offices.{over_keeps}

-- the wire of the terms is that of the history
pub wire_is : (start : List Disk) (ms : List Moment) → (known_at start ms).wire ≡ terms ms
wire_is start [] = refl
wire_is start (asked line event ∷ past) = ap (λ t. passed (asked line event) t) (wire_is start past)
wire_is start (said note ∷ past) = ap (λ t. passed (said note) t) (wire_is start past)

-- ---- a reply, by what its request was for

among_keeps : (agents : List Agent) (place serial : ℕ) (answer : Answer) (t : Target) → office_of (replied_to (purpose_among place agents serial) answer t) ≡ office_of t
among_keeps [] place serial answer t = refl
among_keeps (a ∷ agents) place serial answer t = by_tests (is_serial a.main serial) (is_serial a.ahead serial) (purpose_among (place + 1) agents serial) (among_keeps agents (place + 1) serial answer t)
  where
    by_tests : (main ahead : Bool) (rest : Purpose) → office_of (replied_to rest answer t) ≡ office_of t → office_of (replied_to (cond main (for_agent place Main) (cond ahead (for_agent place Ahead) rest)) answer t) ≡ office_of t
    by_tests true ahead rest h = refl
    by_tests false true rest h = refl
    by_tests false false rest h = h

pub other_reply : (serial : ℕ) (answer : Answer) (t : Target) → is_serial t.manages serial ≡ false → office_of (replied serial answer t) ≡ office_of t
other_reply serial answer t e =
    ap (λ b. office_of (replied_to (cond b for_manager (purpose_among 0 t.agents serial)) answer t)) e ∙ among_keeps t.agents 0 serial answer t

pub own_reply : (serial : ℕ) (answer : Answer) (t : Target) → is_serial t.manages serial ≡ true → office_of (replied serial answer t) ≡ office_replied answer (office_of t)
own_reply serial answer t e =
    ap (λ b. office_of (replied_to (cond b for_manager (purpose_among 0 t.agents serial)) answer t)) e ∙ managed_office (manager_step t answer) answer t

pub own_idle : (serial : ℕ) (answer : Answer) (t : Target) → is_serial t.manages serial ≡ true → IsIdle t → IsIdle (replied serial answer t)
own_idle serial answer t e h =
    subst (λ b. IsIdle (replied_to (cond b for_manager (purpose_among 0 t.agents serial)) answer t)) (sym e) (managed_idle (manager_step t answer) answer t h)

-- ---- a request

register_keeps : (name : Register) (place : ℕ) (access : Access) (t : Target) → office_of (register_got name place access t) ≡ office_of t
register_keeps agent_state place access t = refl
register_keeps agent_reset place access t = refl
register_keeps orb_pointer place access t = by_write access.is_write refl
  where
    by_write : (b : Bool) → access.is_write ≡ b → office_of (register_got orb_pointer place access t) ≡ office_of t
    by_write true e = rw e refl
    by_write false e = rw e refl
register_keeps doorbell place access t = refl
register_keeps unsolicited_enable place access t = refl

starts_office : (r : Result Ask Busy × manager.Machine) (t : Target) → office_of (started_by r t) ≡ offices.started_by r (office_of t)
starts_office (Err busy, machine) t = refl
starts_office (Ok ask, machine) t = refl

starts_idle : (r : Result Ask Busy × manager.Machine) (t : Target) → IsIdle t → IsIdle (started_by r t)
starts_idle (Err busy, machine) t h = h
starts_idle (Ok ask, machine) t h = record { agents = h.agents; reply = h.reply }

-- what a start that serves a request does
abbrev pub start_office : Start → (source : ℕ) → Access → Office → Office
start_office management_agent source access o = started source (offset_at access.payload 0) o
start_office start source access o = o

start_keeps : (start : Start) (source : ℕ) (access : Access) (t : Target) → office_of (start_got start source access t) ≡ start_office start source access (office_of t)
start_keeps management_agent source access t = starts_office (manager.start_step t.manager source (offset_at access.payload 0)) t
start_keeps (register place name) source access t = register_keeps name place access t
start_keeps rom_start source access t = refl
start_keeps no_start source access t = refl

abbrev pub served_office : Bool → Start → (source : ℕ) → Access → Office → Office
served_office true start source access o = start_office start source access o
served_office false start source access o = o

served_keeps : (b : Bool) (start : Start) (source : ℕ) (access : Access) (t : Target) → office_of (cond b (start_got start source access t) t) ≡ served_office b start source access (office_of t)
served_keeps true start source access t = start_keeps start source access t
served_keeps false start source access t = refl

pub request_keeps : (access : Access) (source : ℕ) (t : Target) → office_of (request_got (Some access) source t) ≡ served_office (start_serves (start_at access.offset) access) (start_at access.offset) source access (office_of t)
request_keeps access source t = served_keeps (start_serves (start_at access.offset) access) (start_at access.offset) source access t

pub manage_idle : (access : Access) (source : ℕ) (t : Target) → start_at access.offset ≡ management_agent → IsIdle t → IsIdle (request_got (Some access) source t)
manage_idle access source t e h = by_test (start_serves (start_at access.offset) access) refl
  where
    by_test : (b : Bool) → start_serves (start_at access.offset) access ≡ b → IsIdle (cond b (start_got (start_at access.offset) source access t) t)
    by_test true f = subst (λ s. IsIdle (start_got s source access t)) (sym e) (starts_idle (manager.start_step t.manager source (offset_at access.payload 0)) t h)
    by_test false f = h

-- ---- the notes

module _ (start : List Disk) (ms : List Moment) where
  abbrev T : Target
  T = target_at start ms

  -- a packet that is the target's
  pub got_here : (serial : ℕ) (q : Sending) → (terms ms).sent serial ≡ Some q → q.to ≡ 0 → target_at start (said (notes.Got serial) ∷ ms) ≡ got_by (answered_at (terms ms) serial) (terms ms) serial (over T)
  got_here serial q e to =
      ap (λ w. target_by (notes.Got serial) ms w T) (wire_is start ms)
      ∙ ap (λ b. cond b (got_by (answered_at (terms ms) serial) (terms ms) serial (over T)) (over T)) (ap (λ so. is_serial (receiver_in so) 0) e ∙ (let z : nat_eq q.to 0 ≡ true = grind (arith, nat_tests) in z))

  pub got_there : (serial : ℕ) (q : Sending) → (terms ms).sent serial ≡ Some q → nat_eq q.to 0 ≡ false → target_at start (said (notes.Got serial) ∷ ms) ≡ over T
  got_there serial q e to =
      ap (λ w. target_by (notes.Got serial) ms w T) (wire_is start ms)
      ∙ ap (λ b. cond b (got_by (answered_at (terms ms) serial) (terms ms) serial (over T)) (over T)) (ap (λ so. is_serial (receiver_in so) 0) e ∙ to)

  pub lapsed_here : (serial : ℕ) (q : Sending) → (terms ms).sent serial ≡ Some q → q.from ≡ 0 → target_at start (said (notes.TimedOut serial) ∷ ms) ≡ replied serial Expired (over T)
  lapsed_here serial q e from =
      ap (λ w. target_by (notes.TimedOut serial) ms w T) (wire_is start ms)
      ∙ ap (λ b. cond b (replied serial Expired (over T)) (over T)) (ap (λ so. is_serial (sender_in so) 0) e ∙ (let z : nat_eq q.from 0 ≡ true = grind (arith, nat_tests) in z))

  pub lapsed_there : (serial : ℕ) (q : Sending) → (terms ms).sent serial ≡ Some q → nat_eq q.from 0 ≡ false → target_at start (said (notes.TimedOut serial) ∷ ms) ≡ over T
  lapsed_there serial q e from =
      ap (λ w. target_by (notes.TimedOut serial) ms w T) (wire_is start ms)
      ∙ ap (λ b. cond b (replied serial Expired (over T)) (over T)) (ap (λ so. is_serial (sender_in so) 0) e ∙ from)

  -- offices
  pub rests : (t : Target) → t ≡ over T → office_of t ≡ at_rest (office_of T)
  rests t e = ap office_of e ∙ over_keeps T

  pub opened_office : (line : ℕ) (event : Event) → office_of (target_at start (asked line event ∷ ms)) ≡ at_rest (office_of T)
  opened_office line event = over_keeps T

  pub ignored_office : (serial : ℕ) (cause : Cause) → office_of (target_at start (said (notes.Ignored serial cause) ∷ ms)) ≡ at_rest (office_of T)
  ignored_office serial cause = over_keeps T

  pub tick_office : office_of (target_at start (said notes.Tick ∷ ms)) ≡ ticked (at_rest (office_of T))
  tick_office = ap ticked (over_keeps T)

  reset_office : (b : Bool) (t : Target) → office_of (reset_seen b t) ≡ cond b (cleared (office_of t)) (office_of t)
  reset_office true t = refl
  reset_office false t = refl

  pub sight_office : (generation : ℕ) → office_of (target_at start (said (notes.Seen 0 generation) ∷ ms)) ≡ cond (not (nat_eq generation ((terms ms).generation 0))) (cleared (at_rest (office_of T))) (at_rest (office_of T))
  sight_office generation =
      ap (λ (w : Terms). office_of (target_by (notes.Seen 0 generation) ms w T)) (wire_is start ms)
      ∙ reset_office (not (nat_eq generation ((terms ms).generation 0))) (over T)
      ∙ ap (λ o. cond (not (nat_eq generation ((terms ms).generation 0))) (cleared o) o) (over_keeps T)

  other_sees : (node generation : ℕ) (b : Bool) → nat_eq node 0 ≡ b → b ≡ false → office_of (target_at start (said (notes.Seen node generation) ∷ ms)) ≡ at_rest (office_of T)
  other_sees node generation true e f = absurd (let no : true ≡ false = f in cc)
  other_sees node generation false e f =
      ap (λ b. office_of (cond b (reset_seen (not (nat_eq generation ((known_at start ms).wire.generation 0))) (over T)) (over T))) e ∙ over_keeps T

  pub other_sight : (node generation : ℕ) → nat_eq node 0 ≡ false → office_of (target_at start (said (notes.Seen node generation) ∷ ms)) ≡ at_rest (office_of T)
  other_sight node generation e = other_sees node generation (nat_eq node 0) refl e
