-- At each moment of a history, before which the agents of the terms of the target waited for what they asked for as packets were got, each agent has an ORB that a response brought.
use Rattle.sbp_world.proofs.Words.Std.{◌≡◌, ◌∙◌, refl, sym, ap, subst, ◌<◌, ℕ, Bool, true, false, List, [], ◌∷◌, Some, Ok}
use Rattle.sbp_world.proofs.Words.Wire.{Moment, asked, said, Terms, terms, Note}
use Rattle.sbp_world.proofs.Words.Target.{ahead_ask, main_ask, ReadAhead, Which, Ahead, Main, Machine, aligned, is_ahead, writes_status, Disk}
use Rattle.sbp_world.proofs.Words.Initiator.{Ask, Read, CommandOrb, OrbPointer, At, command_orb, payload_of}
use Rattle.sbp_world.proofs.Words.Laws.{fifo_in, answer_in, answered_at, packet_at, receiver_in, Agent, Target, agent_at, initiator_at, is_serial, known_at, login_at, over, target_at, EachMoment}
use Rattle.sbp_world.proofs.Words.World.{AreAskedAt, HasAsked, serial_of, AskedAsGot, IsBrought}
use Rattle.sbp_world.proofs.Lists.FedFolds.{so}
use Rattle.sbp_world.proofs.Agents.Management.Firsts.{wire_is}
use Rattle.command_agent.specs.declared.phase.Phase.TheVariants as phases
use Rattle.command_agent.specs.declared.phase.ReadAhead.TheVariants as aheads
use Rattle.sbp_journal.specs.declared.note.Note.TheVariants as notes
use Rattle.sbp_world.proofs.Lists.ManageTerms.{none_is}
use Rattle.sbp_world.proofs.Lists.AgentFolds.{new_there}
use Rattle.sbp_world.proofs.Lists.OrbFolds.{AreReading, Brings, Has, over_reads}
use Rattle.sbp_world.proofs.Lists.OrbNotes.{GotBrings, IfGot, note_reads}
use Rattle.sbp_world.proofs.Lists.OrbSteps.{ReadAheadOf, Reads, new_reads}
use Rattle.sbp_world.proofs.Common.{untrue}

-- ---- what was brought is so later
module _ (R S : ℕ → CommandOrb → Type 0) (f : (address : ℕ) (orb : CommandOrb) → R address orb → S address orb) where
  pub ahead_more : (next : OrbPointer) (ahead : ReadAhead) → ReadAheadOf R next ahead → ReadAheadOf S next ahead
  ahead_more next aheads.Idle h = tt
  ahead_more next (aheads.UnderWay rung) h = record { offset = h.offset; is = h.is }
  ahead_more next (aheads.Kept orb) h = record { offset = h.offset; is = h.is; read = f (aligned h.offset) orb h.read }

  pub reads_more : (m : Machine) → Reads R m → Reads S m
  reads_more m h = record { main = λ e. f m.present m.orb (h.main e); ahead = ahead_more m.orb.next m.ahead h.ahead; idle = h.idle }

module _ (R S : ℕ → ℕ → CommandOrb → Type 0) (f : (place address : ℕ) (orb : CommandOrb) → R place address orb → S place address orb) where
  pub are_more : (t : Target) → AreReading R t → AreReading S t
  are_more t h = record {
    agents = λ q e. reads_more (R q) (S q) (f q) (agent_at t q).machine (h.agents q e);
    pending = λ reply e plain told is_told. reads_more (R reply.place) (S reply.place) (f reply.place) _ (h.pending reply e plain told is_told);
  }

unfoldable pub brought_more : (start : List Disk) (m : Moment) (past : List Moment) (place address : ℕ) (orb : CommandOrb) → IsBrought start past place address orb → IsBrought start (m ∷ past) place address orb
brought_more start m past place address orb b = record {
  response = b.response;
  request = b.request;
  later = m ∷ b.later;
  earlier = b.earlier;
  is = ap (λ ms. m ∷ ms) b.is;
  by_target = b.by_target;
  closed = b.closed;
  bytes = b.bytes;
  brings = b.brings;
  spells = b.spells;
  which = b.which;
  waited = b.waited;
  asked = b.asked;
}

-- ---- a response is got
pub under_way : (ahead : ReadAhead) (next : OrbPointer) (offset : ℕ) → is_ahead ahead ≡ true → next ≡ At offset → ahead_ask ahead next ≡ Read (aligned offset) 32
under_way aheads.Idle next offset a e = untrue a
under_way (aheads.UnderWay rung) next offset a e = ap (λ (p : OrbPointer). ahead_ask (aheads.UnderWay rung) p) e
under_way (aheads.Kept orb) next offset a e = untrue a

module _ (start : List Disk) (past : List Moment) (serial : ℕ) (waits : AreAskedAt start past) (by_target : is_serial (receiver_in ((terms past).sent serial)) 0 ≡ true) where
  abbrev t : Target
  t = over (target_at start past)

  abbrev now : List Moment
  now = said (notes.Got serial) ∷ past

  module _ (own : ℕ) (closed : answered_at (terms past) serial ≡ Some own) (place : ℕ) (which : Which) (small : place < 8) (waited : serial_of which (agent_at t place) ≡ Some own) where
    abbrev m : Machine
    m = (agent_at t place).machine

    abbrev Asks : Ask → Bool → Type 0
    Asks ask is_status = HasAsked (terms past) (initiator_at t (terms past) place) (fifo_in (login_at t place)) own ask is_status

    made : (address : ℕ) (bytes : List ℕ) → payload_of (answer_in (packet_at (terms past) serial)) 32 ≡ Ok bytes → Asks (Read address 32) false → IsBrought start now place address (command_orb bytes)
    made address bytes e asks = record {
      response = serial;
      request = own;
      later = [];
      earlier = past;
      is = refl;
      by_target = by_target;
      closed = closed;
      bytes = bytes;
      brings = e;
      spells = refl;
      which = which;
      waited = waited;
      asked = asks;
    }

    main_asks : which ≡ Main → m.phase ≡ phases.Fetching → Asks (Read m.present 32) false
    main_asks w p =
        let x = (waits.all place small).main own (ap (λ (q : Which). serial_of q (agent_at t place)) (sym w) ∙ waited) in
        subst (λ (q : Bool). Asks (Read m.present 32) q) (ap writes_status p) (subst (λ ask. Asks ask (writes_status m.phase)) (ap (λ phase. main_ask phase m) p) x)

    ahead_asks : which ≡ Ahead → is_ahead m.ahead ≡ true → (offset : ℕ) → m.orb.next ≡ At offset → Asks (Read (aligned offset) 32) false
    ahead_asks w a offset n =
        let x = (waits.all place small).ahead own (ap (λ (q : Which). serial_of q (agent_at t place)) (sym w) ∙ waited) in
        subst (λ ask. Asks ask false) (under_way m.ahead m.orb.next offset a n) x

    pub brings : Brings (IsBrought start now) m (record { place = place; which = which; answer = answer_in (packet_at (terms past) serial) })
    brings = record {
      main = λ w p bytes e. made m.present bytes e (main_asks w p);
      ahead = λ w a offset n bytes e. made (aligned offset) bytes e (ahead_asks w a offset n);
    }

  pub got_brings : GotBrings (IsBrought start now) (terms past) serial t
  got_brings own closed place which purpose = let x = waits.handed own place which purpose in brings own closed place which x.0 x.1

-- ---- at each moment
if_got : (start : List Disk) (note : Note) (past : List Moment) → AskedAsGot start (said note) past → IfGot (IsBrought start (said note ∷ past)) note (terms past) (target_at start past)
if_got start (notes.Got serial) past waits = λ e. got_brings start past serial waits e
if_got start note past waits = tt

pub nothing_read : (start : List Disk) (R : ℕ → ℕ → CommandOrb → Type 0) → AreReading R (target_at start [])
nothing_read start R = record {
  agents = λ q e. subst (λ (a : Agent). Reads (R q) a.machine) (sym (new_there 8 q)) (new_reads (R q));
  pending = λ reply e. none_is reply e;
}

pub reading : (start : List Disk) (past : List Moment) → EachMoment (AskedAsGot start) past → AreReading (IsBrought start past) (target_at start past)
reading start [] h = nothing_read start (IsBrought start [])
reading start (asked line event ∷ past) h =
    let Now = IsBrought start (asked line event ∷ past) in
    so (Has Now) (over (target_at start past))
    (over_reads Now (target_at start past) (are_more (IsBrought start past) Now (brought_more start (asked line event) past) (target_at start past) (reading start past h.1)))
reading start (said note ∷ past) h =
    let Now = IsBrought start (said note ∷ past) in
    note_reads (IsBrought start (said note ∷ past)) note past (known_at start past).wire (target_at start past)
    (are_more (IsBrought start past) (IsBrought start (said note ∷ past)) (brought_more start (said note) past) (target_at start past) (reading start past h.1))
    (subst (λ (wire : Terms). IfGot (IsBrought start (said note ∷ past)) note wire (target_at start past)) (sym (wire_is start past)) (if_got start note past h.0))
