-- What holds of every run at each place of its history between two turns, and what it says of an agent that waits: its initiator, and the ORB that an
-- address names.
use Rattle.sbp_world.proofs.Words.Std.{arith, ◌≡◌, ◌∙◌, refl, sym, ap, subst, ◌<◌, ℕ, suc, ◌+◌, nat_lt, is_some, Bool, true, false, cond, List, length, Option, Some, None, nat_tests}
use Rattle.sbp_world.proofs.Words.Wire.{SerialsCount, or_nobody, list_in, orb_in, Access, Moment, Terms, terms, Cmd}
use Rattle.sbp_world.proofs.Words.Target.{Which, Ahead, Main, Machine, is_ahead, is_sent, state_in, is_reset, writes_status, Table, place_at, Disk, Desk, desk_at}
use Rattle.sbp_world.proofs.Words.Initiator.{slot_of, start, last_at, last_in, TicketParts}
use Rattle.sbp_world.proofs.Words.Laws.{fifo_in, command_at, orb, prepared_in, slot_at, access_at, receiver_in, Agent, Target, agent_at, term_initiator, initiator_with, term_login, node_in, over, target_at}
use Rattle.sbp_world.proofs.Words.World.{ticket_of, WorldState, initiator_at, Office, AreAgentsAt, AreAskedAt, IsAccessFor, serial_of, IsOf, AreHeldAt, AllBring, NoneInjected, AreRows, name_in, IsNamed, initiator_in, is_open_at}
use Rattle.bus_memory.specs.declared.window.Window.TheVariants as windows
use Rattle.bus_memory.proofs.Found.{slot_of_law}
use Rattle.sbp_target.proofs.Histories.Calling.{Good, not_eight}
use Rattle.sbp_target.proofs.Histories.Following.{Fits, IsServed}
use Rattle.sbp_world.proofs.Agents.Management.Holding.{Holding}
use Rattle.sbp_world.proofs.Agents.Management.Offices.{over_keeps}
use Rattle.sbp_world.proofs.Agents.Management.Still.{hist}
use Rattle.sbp_world.proofs.Agents.AskedAlike.{ahead_alike, main_alike, reads_on, status_alike}
use Rattle.sbp_world.proofs.Agents.Purposes.{g}
use Rattle.sbp_world.proofs.Hosts.LastingTerms.{AllLast}
use Rattle.sbp_world.proofs.Hosts.Readings.{read_law}
use Rattle.sbp_world.proofs.Lists.ReadSlots.{under_as}
use Rattle.sbp_world.proofs.Lists.Slots.{IsFilled}
use Rattle.sbp_world.proofs.Agents.AskedAgents.{sent_reset}
use Rattle.sbp_world.proofs.Lists.StatusLosses.{sent_has}

pub record Site (start : List Disk) (past : List Moment) (w : WorldState) : Type 0 where
  pub agents : AreAgentsAt start (hist past w) w
  pub held : AreHeldAt start (hist past w) w
  pub asked : AreAskedAt start (hist past w)
  pub rows : (i : ℕ) → i < length w.initiators → AreRows (hist past w) i (initiator_at w i).lists.slots
  pub last : (i : ℕ) → i < length w.initiators → AllLast (hist past w) i
  pub bring : (i : ℕ) → i < length w.initiators → AllBring (hist past w) i
  pub none : (i : ℕ) → i < length w.initiators → NoneInjected (hist past w) i
  pub filled : (i : ℕ) → i < length w.initiators → (slot n k : ℕ) (cmd : Cmd) → slot < 32 → prepared_in (hist past w) i slot ≡ Some (orb n k) → command_at (hist past w) i n k ≡ Some cmd → IsFilled slot cmd
  pub serials : SerialsCount (hist past w)

-- ---- phases

-- ---- the ORB that an address names
name_is : (o : Option TicketParts) (n k : ℕ) → list_in o ≡ Some n → orb_in o ≡ Some k → name_in o ≡ Some (orb n k)
name_is None n k e f = absurd (let no : None ≡ Some n = e in cc)
name_is (Some t) n k e f =
    let list : t.list ≡ n = cc in
    let number : t.number ≡ k = cc in
    ap (λ x. Some (orb x t.number)) list ∙ ap (λ x. Some (orb n x)) number

pub record IsPrepared (ms : List Moment) (i slot n k : ℕ) : Type 0 where
  pub small : slot < 32
  pub there : prepared_in ms i slot ≡ Some (orb n k)

module _ (ms : List Moment) (w : WorldState) (i : ℕ) (inside : i < length w.initiators) (rows : AreRows ms i (initiator_at w i).lists.slots) (slot n k : ℕ) where
  prepared_by : (so : Option ℕ) → slot_of (start (windows.Orb slot)) ≡ so → list_in (last_in (initiator_at w i).lists so) ≡ Some n → orb_in (last_in (initiator_at w i).lists so) ≡ Some k → IsPrepared ms i slot n k
  prepared_by None q e f = absurd (let no : None ≡ Some n = e in cc)
  prepared_by (Some s) q e f =
      let g = slot_of_law.begins (start (windows.Orb slot)) s q in
      let at = g.1 in
      let small = g.0 in
      let same : s ≡ slot = omega arith in
      subst (λ x. IsPrepared ms i x n k) same
      (record { small = small; there = (read_law ms i (initiator_at w i).lists.slots rows).named s small ∙ name_is (last_in (initiator_at w i).lists (Some s)) n k e f })

  pub prepared : list_in (ticket_of w i (start (windows.Orb slot))) ≡ Some n → orb_in (ticket_of w i (start (windows.Orb slot))) ≡ Some k → IsPrepared ms i slot n k
  prepared e f =
      let a = start (windows.Orb slot) in
      let b : nat_lt i (length w.initiators) ≡ true = grind (arith, nat_tests) in
      let there : ticket_of w i a ≡ last_at (initiator_at w i).lists a = ap (λ x. cond x (last_at (initiator_at w i).lists a) None) b in
      prepared_by (slot_of a) refl (ap list_in (sym there) ∙ e) (ap orb_in (sym there) ∙ f)

module _ (units ready : ℕ) (has : 0 < units) (start_disks : List Disk) {past : List Moment} {lines : ℕ} (w : WorldState) (h : Holding units ready start_disks past lines w) (s : Site start_disks past w) where
  abbrev ms : List Moment
  ms = hist past w

  abbrev t : Terms
  t = terms ms

  abbrev T : Target
  T = over (target_at start_disks ms)

  abbrev G : Good w.target
  G = g units ready has start_disks w h

  pub named_prepared : (place n k : ℕ) → initiator_in w place < length w.initiators → IsNamed ms w place n k → IsPrepared ms (initiator_in w place) (slot_at ms (initiator_in w place) n k) n k
  named_prepared place n k inside m =
      let i = initiator_in w place in prepared ms w i inside (s.rows i inside) (slot_at ms i n k) n k m.list m.number

  -- ---- an agent that waits
  module _ (place : ℕ) (b : place < 8) where
    abbrev a : Agent
    a = agent_at T place

    abbrev d : Desk
    d = desk_at w.target place

    abbrev m : Machine
    m = d.agent

    is : IsOf s.agents.requests a d
    is = s.agents.are.each place b

    fits : Fits d
    fits = G.mid.fits place b (not_eight place b)

    pub record Waiting (which : Which) (serial : ℕ) : Type 0 where
      pub is_open : is_open_at w place ≡ true
      pub inside : initiator_in w place < length w.initiators
      pub to : receiver_in (t.sent serial) ≡ Some (suc (initiator_in w place))
      pub status : Bool
      pub access : Access
      pub is : access_at t serial ≡ Some access
      pub asks : IsAccessFor (under_as which m) status (fifo_in (term_login T place)) access
      pub status_is : which ≡ Main → status ≡ writes_status m.phase

    pub record Who : Type 0 where
      pub same : term_initiator T t place ≡ initiator_in w place
      pub inside : initiator_in w place < length w.initiators

    who : IsServed w.target place → Who
    who served =
        let hold = s.held.held place served.login served.is in
        let live = hold.live served.live in
        let before = target_at start_disks ms in
        let over_table : T.table ≡ before.table = ap (λ (o : Office). o.table) (over_keeps before) in
        let terms_are : term_initiator T t place ≡ hold.holder.initiator = ap (λ (x : Table). initiator_with t (node_in (place_at x.places place))) over_table ∙ live.terms_are in
        let here : initiator_in w place ≡ hold.holder.initiator = ap (λ o. (or_nobody o).initiator) hold.there in
        record { same = terms_are ∙ sym here; inside = subst (λ i. i < length w.initiators) (sym here) live.of.small }

    pub who_up : is_reset (state_in m.phase) ≡ false → Who
    who_up e = who (G.mid.served place b (not_eight place b) e)

    to_it : (q : Who) (serial : ℕ) → receiver_in (t.sent serial) ≡ Some (term_initiator T t place + 1) → receiver_in (t.sent serial) ≡ Some (suc (initiator_in w place))
    to_it q serial e = e ∙ ap (λ i. Some (i + 1)) q.same ∙ ap Some (let z : initiator_in w place + 1 ≡ suc (initiator_in w place) = omega arith in z)

    main_sent : (serial : ℕ) → a.main ≡ Some serial → is_sent m.phase ≡ true
    main_sent serial e = sym (is.main ∙ fits.main) ∙ ap (λ (y : Option ℕ). is_some y) e

    ahead_sent : (serial : ℕ) → a.ahead ≡ Some serial → is_ahead m.ahead ≡ true
    ahead_sent serial e = sym (is.ahead ∙ fits.ahead) ∙ ap (λ (y : Option ℕ). is_some y) e

    pub waiting : (which : Which) (serial : ℕ) → serial_of which a ≡ Some serial → Waiting which serial
    waiting Main serial e =
        let sent = main_sent serial e in
        let q = who (G.mid.served place b (not_eight place b) (sent_reset m.phase sent)) in
        let r = (s.asked.all place b).main serial e in
        record {
          is_open = sent_has m.phase sent;
          inside = q.inside;
          to = to_it q serial r.to;
          status = writes_status a.machine.phase;
          access = r.access;
          is = r.is;
          asks = subst (λ x. IsAccessFor x (writes_status a.machine.phase) (fifo_in (term_login T place)) r.access) (main_alike a.untold a.machine m is.machine) r.asks;
          status_is = λ own. status_alike a.untold a.machine m is.machine;
        }
    waiting Ahead serial e =
        let reads = ahead_sent serial e in
        let on = reads_on m fits.agent reads in
        let q = who (G.mid.served place b (not_eight place b) on.reset) in
        let r = (s.asked.all place b).ahead serial e in
        record {
          is_open = on.list;
          inside = q.inside;
          to = to_it q serial r.to;
          status = false;
          access = r.access;
          is = r.is;
          asks = subst (λ x. IsAccessFor x false (fifo_in (term_login T place)) r.access) (ahead_alike a.untold a.machine m is.machine fits.agent reads) r.asks;
          status_is = λ own. absurd (let no : Ahead ≡ Main = own in cc);
        }
