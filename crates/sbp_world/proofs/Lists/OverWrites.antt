-- At a place of a run the request that an agent waits for, while it writes the status block of an ORB, is a write of this block to a FIFO of its initiator, which injected no packets: the block names the slot of an ORB.
use Rattle.sbp_world.proofs.Words.Std.{arith, ◌≡◌, ◌∙◌, refl, sym, ap, subst, ◌<◌, ◌^◌, ◌&&◌, ℕ, suc, Bool, true, false, List, length, Option, Some, None, Ok, false≢true, same_Some, none-some}
use Rattle.sbp_world.proofs.Words.Wire.{Access, Moment, Sending, Terms, terms}
use Rattle.sbp_world.proofs.Words.Target.{Disk, Machine, Table, main_ask, main_under, place_at, writes_status, desk_at, Phase}
use Rattle.sbp_world.proofs.Words.Initiator.{OrbPointer, At, Null, StatusBlock, StatusKind, IsKind, is_management, read_block, slot_of, start, status_bytes}
use Rattle.sbp_world.proofs.Words.Laws.{access_at, access_in, fifo_in, packet_in, receiver_in, sender_in, Agent, Target, agent_at, over, slot_at, target_at, term_initiator, term_login}
use Rattle.sbp_world.proofs.Words.World.{HasAsked, IsAccessFor, IsOf, AreOwnOf, IsFifo, IsLoginFifo, IsOpened, IsStatusWrite, IsToHost, Office, WorldState, answers, initiator_in, machine_at}
use Rattle.bus_memory.specs.declared.window.Window.TheVariants as windows
use Rattle.bus_memory.proofs.Found.{slot_of_law}
use Rattle.command_agent.specs.declared.phase.Phase.TheVariants as phases
use Rattle.command_agent.specs.Steps.{src_of}
use Rattle.orb_layout.specs.declared.ask.Ask.TheVariants as asks
use Rattle.orb_layout.specs.declared.status.StatusKind.TheVariants as kinds
use Rattle.orb_layout.proofs.StatusBack.{status_back}
use Rattle.sbp_world.specs.Lists.Statuses.{IsTold, of_login}
use Rattle.sbp_world.proofs.Agents.AskedAlike.{bytes_alike, main_alike, status_alike}
use Rattle.sbp_world.proofs.Agents.Management.Holding.{Holding}
use Rattle.sbp_world.proofs.Agents.Management.Offices.{over_keeps}
use Rattle.sbp_world.proofs.Agents.Management.Still.{hist}
use Rattle.sbp_world.proofs.Lists.EndingSteps.{EndsIn}
use Rattle.sbp_world.proofs.Lists.Sites.{Site, waiting as agent_waiting}
use Rattle.sbp_world.proofs.Lists.StatusSteps.{EndsSo, IsFair}
use Rattle.command_agent.specs.declared.step.Which.TheVariants.{Main}

-- ---- a block that is read
small_src : (next : OrbPointer) → src_of next < 2
small_src Null = omega arith
small_src (At offset) = omega arith

has_row : (kind : StatusKind) → IsFair kind → EndsIn kind phases.WritingStatus → IsTold kind → IsKind kind
has_row kinds.Good fair plain told = tt
has_row (kinds.Check sense) fair plain told = told
has_row kinds.Dummy fair plain told = tt
has_row kinds.Aborted fair plain told = tt
has_row (kinds.Illegal meaning) fair plain told = absurd (false≢true plain)
has_row kinds.Failed fair plain told = tt
has_row (kinds.Management meaning) fair plain told = absurd fair

no_management : (kind : StatusKind) → IsFair kind → is_management kind ≡ false
no_management kinds.Good fair = refl
no_management (kinds.Check sense) fair = refl
no_management kinds.Dummy fair = refl
no_management kinds.Aborted fair = refl
no_management (kinds.Illegal meaning) fair = refl
no_management kinds.Failed fair = refl
no_management (kinds.Management meaning) fair = absurd fair

pub reads : (src orb : ℕ) (kind : StatusKind) → src < 2 → orb < 2 ^ 48 → IsFair kind → EndsIn kind phases.WritingStatus → IsTold kind → read_block false (status_bytes (record { src = src; kind = kind; orb = orb })) ≡ Ok (record { src = src; kind = kind; orb = orb })
reads src orb kind s o fair plain told =
    let one : StatusBlock = record { src = src; kind = kind; orb = orb } in
    let mild = no_management kind fair in
    subst (λ b. read_block b (status_bytes one) ≡ Ok one) mild (status_back one (record { src = s; managed = λ m. absurd (false≢true (sym mild ∙ m)); kind = has_row kind fair plain told; orb = o }))

-- ---- the packet
pub record HasWrite (ms : List Moment) (i serial : ℕ) : Type 0 where
  pub packet : Sending
  pub slot : ℕ
  pub block : StatusBlock
  pub sent : IsToHost ms i serial packet
  pub writes : IsStatusWrite packet.bytes slot block

record IsThere (t : Terms) (i serial : ℕ) : Type 0 where
  packet : Sending
  sent : t.sent serial ≡ Some packet
  from : packet.from ≡ 0
  to : packet.to ≡ suc i

there_by : (t : Terms) (i serial : ℕ) (so : Option Sending) → t.sent serial ≡ so → sender_in so ≡ Some 0 → receiver_in so ≡ Some (suc i) → IsThere t i serial
there_by t i serial None e f g = absurd (none-some 0 f)
there_by t i serial (Some q) e f g = record { packet = q; sent = e; from = same_Some q.from 0 f; to = same_Some q.to (suc i) g }

-- what is asked for as a status block is written
asked_write : (m : Machine) (phase : Phase) → m.phase ≡ phase → phase ≡ phases.WritingStatus → main_under m ≡ asks.Write 0 (length m.outgoing)
asked_write m phase e f = ap (λ p. main_ask p m) (e ∙ f)

is_that_write : (len fifo : ℕ) (access : Access) → IsAccessFor (asks.Write 0 len) true fifo access → (access.is_write ≡ true) × (access.offset ≡ fifo)
is_that_write len fifo access h = (ap (λ (x : Access). x.is_write) h.0, ap (λ (x : Access). x.offset) h.0)

module _ (units ready : ℕ) (has : 0 < units) (start_disks : List Disk) {past : List Moment} {lines : ℕ} (w : WorldState) (h : Holding units ready start_disks past lines w) (site : Site start_disks past w) (p : ℕ) (b : p < 8) (opened : IsOpened (hist past w) w p) (owned : AreOwnOf w (initiator_in w p)) (n last : ℕ) (phase_is : (machine_at w p).phase ≡ phases.WritingStatus) (at : (machine_at w p).present ≡ start (windows.Orb (slot_at (hist past w) (initiator_in w p) n last))) (small : slot_at (hist past w) (initiator_in w p) n last < 32) (kind : StatusKind) (ends : EndsSo kind (machine_at w p)) (plain : EndsIn kind phases.WritingStatus) (told : IsTold kind) (serial : ℕ) (main : (agent_at (over (target_at start_disks (hist past w))) p).main ≡ Some serial) where
  abbrev ms : List Moment
  ms = hist past w

  abbrev T : Target
  T = over (target_at start_disks ms)

  abbrev a : Agent
  a = agent_at T p

  abbrev m : Machine
  m = machine_at w p

  abbrev i : ℕ
  i = initiator_in w p

  abbrev slot : ℕ
  slot = slot_at ms i n last

  alike : IsOf site.agents.requests a (desk_at w.target p)
  alike = site.agents.are.each p b

  r : HasAsked (terms ms) (term_initiator T (terms ms) p) (fifo_in (term_login T p)) serial (main_under a.machine) (writes_status a.machine.phase)
  r = (site.asked.all p b).main serial main

  asks_it : IsAccessFor (asks.Write 0 (length m.outgoing)) true (fifo_in (term_login T p)) r.access
  asks_it =
      subst (λ y. IsAccessFor (asks.Write 0 (length m.outgoing)) y (fifo_in (term_login T p)) r.access) (status_alike a.untold a.machine m alike.machine ∙ ap writes_status phase_is)
      (subst (λ y. IsAccessFor y (writes_status a.machine.phase) (fifo_in (term_login T p)) r.access) (main_alike a.untold a.machine m alike.machine ∙ asked_write m m.phase refl phase_is) r.asks)

  there : IsThere (terms ms) i serial
  there = there_by (terms ms) i serial ((terms ms).sent serial) refl r.from (agent_waiting units ready has start_disks w h site p b Main serial main).to

  quiet : (x : Bool) (phase : Phase) → phase ≡ phases.WritingStatus → (x && answers phase) ≡ false
  quiet x phase e = by x
    where
      by : (x : Bool) → (x && answers phase) ≡ false
      by true = ap answers e
      by false = refl

  payload_is : r.access.payload ≡ status_bytes (record { src = src_of m.orb.next; kind = kind; orb = m.present })
  payload_is =
      let untold = quiet a.untold a.machine.phase (alike.machine.phase ∙ phase_is) in
      (site.asked.all p b).bytes serial main untold r.access r.is (is_that_write (length m.outgoing) (fifo_in (term_login T p)) r.access asks_it).0
      ∙ (bytes_alike a.untold a.machine m alike.machine untold 0 (length m.outgoing) (asked_write m m.phase refl phase_is) ∙ ends.outgoing)

  fifo_is : IsFifo r.access.offset
  fifo_is =
      let tables : T.table ≡ w.target.logins = ap (λ (o : Office). o.table) (over_keeps (target_at start_disks ms)) ∙ h.at.agrees.table in
      let found : term_login T p ≡ Some opened.login = ap (λ (y : Table). place_at y.places p) tables ∙ opened.is in
      let own : IsLoginFifo opened.login.fifo = owned p opened.login opened.is opened.live refl in
      of_login own.number ((is_that_write (length m.outgoing) (fifo_in (term_login T p)) r.access asks_it).1 ∙ (ap fifo_in found ∙ own.is))

  pub has_write : HasWrite ms i serial
  has_write =
      let low : m.present < 2 ^ 48 = omega (arith, at, small) in
      record {
        packet = there.packet;
        slot = slot;
        block = record { src = src_of m.orb.next; kind = kind; orb = m.present };
        sent = record { is = there.sent; from_target = there.from; to_host = there.to };
        writes = record {
          access = r.access;
          is = ap (λ so. access_in (packet_in so)) (sym there.sent) ∙ r.is;
          writes = (is_that_write (length m.outgoing) (fifo_in (term_login T p)) r.access asks_it).0;
          goes = fifo_is;
          reads = ap (read_block false) payload_is ∙ reads (src_of m.orb.next) m.present kind (small_src m.orb.next) low ends.fair plain told;
          slot_is = ap slot_of at ∙ slot_of_law.found slot small;
        };
      }

  -- it is no read
  pub is_written : (access : Access) → access_at (terms ms) serial ≡ Some access → access.is_write ≡ true
  is_written access e = ap (λ (x : Access). x.is_write) (same_Some access r.access (sym e ∙ r.is)) ∙ (is_that_write (length m.outgoing) (fifo_in (term_login T p)) r.access asks_it).0
