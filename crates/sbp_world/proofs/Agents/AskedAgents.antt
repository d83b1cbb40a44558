-- In a world whose agents of the terms are the target's each waits for what it asked for.
use Rattle.sbp_world.proofs.Words.Std.{arith, ◌≡◌, ◌∙◌, refl, sym, ap, subst, ℕ, ◌+◌, ◌^◌, ◌<◌, is_some, Bool, true, false, List, [], length, Option, Some, None, same_Some}
use Rattle.sbp_world.proofs.Words.Wire.{Access, Moment, Terms, terms}
use Rattle.sbp_world.proofs.Words.Target.{Phase, ReadAhead, Machine, is_ahead, is_sent, state_in, is_reset, writes_status, Login, Table, place_at, Disk, Desk, Sent, desk_at, login_at, ahead_ask, ahead_under, main_under}
use Rattle.sbp_world.proofs.Words.Initiator.{Ask, Nothing, Read, Write, OrbPointer, At, Null}
use Rattle.sbp_world.proofs.Words.Laws.{fifo_in, access_at, Agent, Target, initiator_at, initiator_with, node_in, over, target_at}
use Rattle.sbp_world.proofs.Words.World.{FitsAgent, FitsLogin, WorldState, Office, ahead_body, main_body, AreAskedAt, IsAccessFor, HasAsked, WaitsForAsked, AreOf, IsOf, Request, agent_in, AreHeldAt, AreKnown}
use Rattle.command_agent.specs.declared.phase.Phase.TheVariants as phases
use Rattle.command_agent.specs.declared.phase.ReadAhead.TheVariants as aheads
use Rattle.bus_transactions.proofs.Fits.{no_bytes}
use Rattle.sbp_laws.specs.Targets as laws
use Rattle.sbp_world.proofs.FitTarget.Nodes.{agent_body_fits}
use Rattle.sbp_world.proofs.Wire.Holding.{KnownTo}
use Rattle.sbp_target.proofs.Histories.Calling.{Good, not_eight}
use Rattle.sbp_target.proofs.Histories.Following.{Fits, IsServed, node_of}
use Rattle.sbp_world.proofs.Agents.Management.Holding.{Holding, past_terms, same_id}
use Rattle.sbp_world.proofs.Agents.Management.Offices.{over_keeps}
use Rattle.sbp_world.proofs.Agents.Management.Still.{hist}
use Rattle.sbp_world.specs.Agents.AskedRuns.{is_open}
use Rattle.sbp_world.proofs.Agents.AskedAlike.{ahead_alike, ahead_fits, bytes_alike, main_alike, main_fits, reads_on, status_alike}
use Rattle.sbp_world.proofs.Agents.AskedPackets.{Asked, asked_by, asks, left_is, packets}
use Rattle.sbp_world.proofs.Agents.CrewFirsts.{agrees}
use Rattle.sbp_world.proofs.Agents.Handed.{own_ahead, own_main, there}
use Rattle.sbp_world.proofs.Agents.Purposes.{g}
use Rattle.sbp_world.proofs.Agents.Waited.{waited}

pub sent_reset : (p : Phase) → is_sent p ≡ true → is_reset (state_in p) ≡ false
sent_reset phases.Reset e = absurd (let no : false ≡ true = e in cc)
sent_reset phases.Fetching e = refl
sent_reset phases.ReadingTable e = refl
sent_reset (phases.ReadingData wanted) e = refl
sent_reset phases.Answering e = refl
sent_reset phases.WritingStatus e = refl
sent_reset phases.ReadingNext e = refl
sent_reset phases.Suspended e = refl
sent_reset phases.WritingLastStatus e = refl
sent_reset phases.Dead e = refl

-- what is read ahead is read, and goes to no FIFO
ahead_reads : (a : ReadAhead) (next : OrbPointer) (offset size : ℕ) → ahead_ask a next ≡ Write offset size → length {A = ℕ} [] ≡ size
ahead_reads (aheads.UnderWay rung) (At at) offset size e = cc
ahead_reads (aheads.UnderWay rung) Null offset size e = cc
ahead_reads aheads.Idle next offset size e = cc
ahead_reads (aheads.Kept orb) next offset size e = cc

ahead_for : (a : ReadAhead) (next : OrbPointer) (fifo other : ℕ) (access : Access) → IsAccessFor (ahead_ask a next) false fifo access → IsAccessFor (ahead_ask a next) false other access
ahead_for (aheads.UnderWay rung) (At at) fifo other access h = h
ahead_for (aheads.UnderWay rung) Null fifo other access h = h
ahead_for aheads.Idle next fifo other access h = h
ahead_for (aheads.Kept orb) next fifo other access h = h

-- a request that writes is for a write
record Writes (ask : Ask) : Type 0 where
  offset : ℕ
  size : ℕ
  is : ask ≡ Write offset size

writes_by : (ask : Ask) (is_status : Bool) (fifo : ℕ) (access : Access) → IsAccessFor ask is_status fifo access → access.is_write ≡ true → Writes ask
writes_by (Write offset size) is_status fifo access h w = record { offset = offset; size = size; is = refl }
writes_by (Read offset size) is_status fifo access h w = absurd (let no : false ≡ true = sym (ap (λ (a : Access). a.is_write) h) ∙ w in cc)
writes_by Nothing is_status fifo access h w = absurd h

pub fifo_fits : (known : ℕ → Type 0) (x : Option Login) (login : Login) → x ≡ Some login → FitsLogin known x → login.fifo < 2 ^ 48
fifo_fits known None login e f = absurd (let no : None ≡ Some login = e in cc)
fifo_fits known (Some other) login e f = (let same : other ≡ login = cc in subst (λ (l : Login). l.fifo < 2 ^ 48) same f.0)

module _ (units ready : ℕ) (has : 0 < units) (start : List Disk) {past : List Moment} {lines : ℕ} (w : WorldState) (h : Holding units ready start past lines w) where
  abbrev t : Terms
  t = terms (hist past w)

  abbrev before : Target
  before = target_at start (hist past w)

  abbrev T : Target
  T = over before

  abbrev G : Good w.target
  G = g units ready has start w h

  abbrev K : ℕ → Type 0
  K = KnownTo w.generations.seen

  table_is : T.table ≡ w.target.logins
  table_is = (agrees units ready has start w h).table

  module _ (requests : List Request) (are : AreOf requests T.agents w.target) (known : AreKnown requests w.target w.requests) (held : AreHeldAt start (hist past w) w) (place : ℕ) (b : place < 8) where
    abbrev a : Agent
    a = agent_in T.agents place

    abbrev d : Desk
    d = desk_at w.target place

    abbrev m : Machine
    m = d.agent

    is : IsOf requests a d
    is = are.each place b

    fits : Fits d
    fits = G.mid.fits place b (not_eight place b)

    fits_agent : FitsAgent m
    fits_agent = h.sound.nodes.target_holds.fits.agents place

    abbrev initiator : ℕ
    initiator = initiator_at T t place

    abbrev fifo : ℕ
    fifo = fifo_in (laws.login_at T place)

    -- ---- the login of the place
    module _ (served : IsServed w.target place) where
      fifo_is : fifo ≡ served.login.fifo
      fifo_is = ap (λ (x : Table). fifo_in (place_at x.places place)) table_is ∙ ap fifo_in served.is

      fifo_small : served.login.fifo < 2 ^ 48
      fifo_small = fifo_fits K (login_at w.target place) served.login served.is (h.sound.nodes.target_holds.fits.logins place)

      -- its initiator has the node that the request goes to
      node_is : (peer : ℕ) (sent : Sent) → node_of (login_at w.target place) ≡ Some sent.peer → t.ids (t.generation 0) peer ≡ sent.peer → peer ≡ initiator + 1
      node_is peer sent to peer_is =
          let hold = held.held place served.login served.is in
          let live = hold.live served.live in
          let login_node : sent.peer ≡ served.login.node = same_Some sent.peer served.login.node (sym to ∙ ap node_of served.is) in
          let one : peer ≡ hold.holder.initiator + 1 = same_id w h.sound.stands peer (hold.holder.initiator + 1) (peer_is ∙ login_node ∙ sym live.of.node_is) in
          let over_table : T.table ≡ before.table = ap (λ (o : Office). o.table) (over_keeps before) in
          let who : initiator ≡ hold.holder.initiator = ap (λ (x : Table). initiator_with t (node_in (place_at x.places place))) over_table ∙ live.terms_are in
          one ∙ ap (λ n. n + 1) (sym who)

    -- the packet of a request, by the terms of this history, its serial and its initiator
    moved : (x : Terms) (serial other peer to : ℕ) (ask : Ask) (is_status : Bool) (at : ℕ) (outgoing : List ℕ) → x ≡ t → serial ≡ other → peer ≡ to → Asked x serial peer ask is_status at outgoing → Asked t other to ask is_status at outgoing
    moved x serial other peer to ask is_status at outgoing e f q r =
        subst (λ (y : Terms). Asked y other to ask is_status at outgoing) e
        (subst (λ n. Asked x n to ask is_status at outgoing) f (subst (λ n. Asked x serial n ask is_status at outgoing) q r))

    -- ---- the main transaction
    module _ (serial : ℕ) (e : a.main ≡ Some serial) where
      main_sent : is_sent m.phase ≡ true
      main_sent = sym (is.main ∙ fits.main) ∙ ap (λ (y : Option ℕ). is_some y) e

      pub main_served : IsServed w.target place
      main_served = G.mid.served place b (not_eight place b) (sent_reset m.phase main_sent)

      pub main_asked : Asked t serial (initiator + 1) (main_under m) (writes_status m.phase) main_served.login.fifo m.outgoing
      main_asked =
          let x = there d.main (sym is.main ∙ ap (λ (y : Option ℕ). is_some y) e) in
          let o = own_main units ready has start w h requests are known place b x.sent x.is serial e in
          let seat = (G.mid.seats place b).main_for x.sent x.is in
          let k = ((h.sound.nodes.target_holds.fits.seats place).main x.sent x.is).0 in
          let login = main_served.login in
          let left = (asks units ready has start w h).all place login b main_served.is in
          let body = main_body login.fifo m in
          moved _ o.request.serial serial o.request.peer (initiator + 1) (main_under m) (writes_status m.phase) login.fifo m.outgoing (past_terms w h.sound.stands) o.serial_is
          (node_is main_served o.request.peer x.sent seat.1 o.request.peer_is)
          (asked_by units ready has start w h place x.sent seat.0 k o.request (main_under m) (writes_status m.phase) login.fifo m.outgoing
          (agent_body_fits (main_under m) (writes_status m.phase) login.fifo m.outgoing (main_fits m fits_agent) (fifo_small main_served) fits_agent.outgoing)
          left.sized.bytes
          (left_is (packets units ready has start w h) x.sent body (left.main x.sent x.is main_sent)))

      main_request : HasAsked t initiator fifo serial (main_under a.machine) (writes_status a.machine.phase)
      main_request =
          let r = main_asked in
          record {
            from = r.from;
            to = r.to;
            under_way = r.under_way;
            access = r.access;
            is = r.is;
            asks = subst (λ (q : Ask). IsAccessFor q (writes_status a.machine.phase) fifo r.access) (sym (main_alike a.untold a.machine m is.machine))
                (subst (λ (q : Bool). IsAccessFor (main_under m) q fifo r.access) (sym (status_alike a.untold a.machine m is.machine))
                (subst (λ n. IsAccessFor (main_under m) (writes_status m.phase) n r.access) (sym (fifo_is main_served)) r.asks));
          }

      main_bytes : is_open a ≡ false → (access : Access) → access_at t serial ≡ Some access → access.is_write ≡ true → access.payload ≡ a.machine.outgoing
      main_bytes told access f writes =
          let r = main_asked in
          let same : access ≡ r.access = same_Some access r.access (sym f ∙ r.is) in
          let wrote : r.access.is_write ≡ true = ap (λ (x : Access). x.is_write) (sym same) ∙ writes in
          let by = writes_by (main_under m) (writes_status m.phase) main_served.login.fifo r.access r.asks wrote in
          ap (λ (x : Access). x.payload) same ∙ r.payload wrote ∙ sym (bytes_alike a.untold a.machine m is.machine told by.offset by.size by.is)

    -- ---- the read ahead
    module _ (serial : ℕ) (e : a.ahead ≡ Some serial) where
      reads : is_ahead m.ahead ≡ true
      reads = sym (is.ahead ∙ fits.ahead) ∙ ap (λ (y : Option ℕ). is_some y) e

      ahead_served : IsServed w.target place
      ahead_served = G.mid.served place b (not_eight place b) (reads_on m fits.agent reads).reset

      ahead_asked : Asked t serial (initiator + 1) (ahead_under m) false 0 []
      ahead_asked =
          let x = there d.ahead (sym is.ahead ∙ ap (λ (y : Option ℕ). is_some y) e) in
          let o = own_ahead units ready has start w h requests are known place b x.sent x.is serial e in
          let seat = (G.mid.seats place b).ahead_for x.sent x.is in
          let k = ((h.sound.nodes.target_holds.fits.seats place).ahead x.sent x.is).0 in
          let login = ahead_served.login in
          let left = (asks units ready has start w h).all place login b ahead_served.is in
          moved _ o.request.serial serial o.request.peer (initiator + 1) (ahead_under m) false 0 [] (past_terms w h.sound.stands) o.serial_is
          (node_is ahead_served o.request.peer x.sent seat.1 o.request.peer_is)
          (asked_by units ready has start w h place x.sent seat.0 k o.request (ahead_under m) false 0 []
          (agent_body_fits (ahead_under m) false 0 [] (ahead_fits m fits_agent) (let z : 0 < 2 ^ 48 = omega arith in z) no_bytes)
          (ahead_reads m.ahead m.orb.next)
          (left_is (packets units ready has start w h) x.sent (ahead_body m) (left.ahead x.sent x.is reads)))

      ahead_request : HasAsked t initiator fifo serial (ahead_under a.machine) false
      ahead_request =
          let r = ahead_asked in
          record {
            from = r.from;
            to = r.to;
            under_way = r.under_way;
            access = r.access;
            is = r.is;
            asks = subst (λ (q : Ask). IsAccessFor q false fifo r.access) (sym (ahead_alike a.untold a.machine m is.machine fits.agent reads)) (ahead_for m.ahead m.orb.next 0 fifo r.access r.asks);
          }

    waits_for_asked : WaitsForAsked t initiator fifo a
    waits_for_asked = record { main = main_request; ahead = ahead_request; bytes = main_bytes }

  pub are_asked : (requests : List Request) → AreOf requests T.agents w.target → AreKnown requests w.target w.requests → AreHeldAt start (hist past w) w → AreAskedAt start (hist past w)
  are_asked requests are known held = record { handed = waited T are.size; all = λ place b. waits_for_asked requests are known held place b }
