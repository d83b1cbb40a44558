-- What is known at a place of an agent that is not in RESET: whose login it serves, by what names the notes and the laws have its initiator, its list and its ORBs, and that its requests fit packets.
use Rattle.std.proofs.Common.{◌≡◌, ◌∙◌, refl, sym, ap, subst, ℕ, ◌<◌, ◌^◌, is_some, Bool, true, false, List, length, Option, Some, None}
use Rattle.bus_memory.specs.Windows.{slot_of, start as slot_start}
use Rattle.bus_memory.specs.declared.window.Window.TheVariants as windows
use Rattle.bus_memory.proofs.Found.{slot_of_law}
use Rattle.login_table.specs.Table.{Table, is_live, place_at}
use Rattle.login_table.specs.declared.login.Login.{Login}
use Rattle.orb_layout.specs.declared.ask.FailCause.{FailCause}
use Rattle.orb_layout.specs.Replies.{Answer}
use Rattle.rbc_disk.specs.Disk.{Disk}
use Rattle.rbc_disk.specs.Runs.{Told}
use Rattle.rbc_disk.specs.Units.{PlainDisk}
use Rattle.command_agent.specs.Machine.{Machine, is_ahead, state_in}
use Rattle.command_agent.specs.Steps.{is_reset, lost_step, quiet, reply_step}
use Rattle.command_agent.specs.declared.phase.Phase.{Phase}
use Rattle.command_agent.specs.declared.phase.Phase.TheVariants as phases
use Rattle.command_agent.specs.declared.step.AgentStep.{AgentStep}
use Rattle.command_agent.specs.declared.step.Which.{Which}
use Rattle.command_agent.specs.declared.step.Which.TheVariants.{Ahead, Main}
use Rattle.orb_list.specs.Table.{SlotTable, slot_in}
use Rattle.orb_list.specs.Tickets.{TicketParts}
use Rattle.sbp_journal.specs.Run.{Moment}
use Rattle.sbp_journal.specs.Wire.{Terms, terms}
use Rattle.sbp_laws.specs.Agents.{fifo_in}
use Rattle.sbp_laws.specs.Lists.{Orb, named, named_in, orb as named_orb, slot_at}
use Rattle.sbp_laws.specs.Targets.{Target, initiator_at, over, target_at}
use Rattle.sbp_laws.specs.Targets as laws
use Rattle.sbp_laws.specs.Terms.{appends}
use Rattle.sbp_target.specs.declared.desk.Desk.{Desk}
use Rattle.sbp_target.specs.declared.purpose.Sent.{Sent}
use Rattle.sbp_target.specs.Agents.{agent_body}
use Rattle.sbp_target.specs.Nodes.{NodeState, desk_at, login_at}
use Rattle.sbp_target.proofs.Histories.Calling.{Good, not_eight}
use Rattle.sbp_target.proofs.Histories.Following.{Fits}
use Rattle.sbp_target.proofs.Histories.Stepped.{Carries, ahead_loses, ahead_replied, is_bare, main_loses, main_replied}
use Rattle.sbp_world.specs.Agents.Management.Offices.{Agrees, Office, office_of}
use Rattle.sbp_world.specs.Agents.Holders.{IsHeld}
use Rattle.sbp_world.specs.Agents.Serials.{kept_as}
use Rattle.orb_layout.specs.declared.ask.FailCause.TheVariants as causes
use Rattle.sbp_world.specs.FitTarget.{BytesTold, FitsAgent, FitsLogin}
use Rattle.sbp_world.specs.Hosts.Fits.{AreRows, IfLast}
use Rattle.sbp_world.specs.Hosts.Rows.{name_in}
use Rattle.sbp_bus.specs.Places.{or_nobody}
use Rattle.sbp_world.specs.Telling.{holder, ticket_at}
use Rattle.sbp_world.specs.Worlds.{Scene, WorldState}
use Rattle.sbp_world.proofs.Agents.CrewFirsts.{agrees}
use Rattle.sbp_world.proofs.Agents.Management.Holding.{good_of}
use Rattle.sbp_world.proofs.Agents.Management.Offices.{over_keeps}
use Rattle.sbp_world.proofs.Agents.Management.Still.{hist}
use Rattle.sbp_world.proofs.Common.{none_is}
use Rattle.sbp_world.proofs.FitTarget.Agents.{BytesIn, FitsStep, lost_fits, reply_fits}
use Rattle.sbp_world.proofs.FitTarget.Nodes.{IfBody, agent_body_fits}
use Rattle.turn_laws.proofs.FollowEnds.{no_label}
use Rattle.sbp_world.proofs.Lists.DueRuns.{named_as}
use Rattle.turn_laws.proofs.Places.{Place}
use Rattle.turn_laws.proofs.ReadAheads.{MayReadAhead, behind_reads, none_ahead}
use Rattle.sbp_world.proofs.Agents.AskedAgents.{sent_reset}

ahead_up : (phase : Phase) (b : Bool) → b ≡ true → (is_bare phase ≡ true → b ≡ false) → is_reset (state_in phase) ≡ false
ahead_up phases.Reset b e f = absurd (let no : true ≡ false = sym e ∙ f refl in cc)
ahead_up phases.Fetching b e f = refl
ahead_up phases.ReadingTable b e f = refl
ahead_up (phases.ReadingData wanted) b e f = refl
ahead_up phases.Answering b e f = refl
ahead_up phases.WritingStatus b e f = refl
ahead_up phases.ReadingNext b e f = refl
ahead_up phases.WritingLastStatus b e f = refl
ahead_up phases.Suspended b e f = refl
ahead_up phases.Dead b e f = refl

module _ (d : Desk) (fits : Fits d) where
  under_way : (which : Which) (sent : Sent) → kept_as which d ≡ Some sent → is_reset (state_in d.agent.phase) ≡ false
  under_way Main sent e = sent_reset d.agent.phase (sym fits.main ∙ ap (λ (o : Option Sent). is_some o) e)
  under_way Ahead sent e = ahead_up d.agent.phase (is_ahead d.agent.ahead) (sym fits.ahead ∙ ap (λ (o : Option Sent). is_some o) e) fits.agent.bare

  -- a packet carries what its step asks for
  quiet_carries : (s : AgentStep × Machine) → s.0 ≡ quiet → Carries s.0.ask s.1.outgoing
  quiet_carries s e = subst (λ (x : AgentStep). Carries x.ask s.1.outgoing) (sym e) tt

  pub reply_carries : (which : Which) (sent : Sent) → kept_as which d ≡ Some sent → (place : ℕ) (plain : PlainDisk) (told : Option Told) (answer : Answer) → (let s = reply_step d.agent place plain told which answer in Carries s.0.ask s.1.outgoing)
  reply_carries Main sent e place plain told answer = (main_replied d.agent place plain told answer fits.agent).carried
  reply_carries Ahead sent e place plain told answer =
      quiet_carries (reply_step d.agent place plain told Ahead answer) (ahead_replied d.agent place plain told answer (sym fits.ahead ∙ ap (λ (o : Option Sent). is_some o) e) fits.agent).silent

  pub lost_carries : (which : Which) (sent : Sent) → kept_as which d ≡ Some sent → (cause : FailCause) → (let s = lost_step d.agent which cause in Carries s.0.ask s.1.outgoing)
  lost_carries Main sent e cause = (main_loses d.agent cause (sym fits.main ∙ ap (λ (o : Option Sent). is_some o) e) fits.agent).behind.carried
  lost_carries Ahead sent e cause =
      quiet_carries (lost_step d.agent Ahead cause) (ahead_loses d.agent cause (sym fits.ahead ∙ ap (λ (o : Option Sent). is_some o) e) fits.agent).silent

  -- and one who reads ahead is not dead
  quiet_ahead : (s : AgentStep × Machine) → s.0 ≡ quiet → MayReadAhead s.0.ahead s.1
  quiet_ahead s e = subst (λ (x : AgentStep). MayReadAhead x.ahead s.1) (sym e) none_ahead

  pub reply_ahead : (which : Which) (sent : Sent) → kept_as which d ≡ Some sent → (place : ℕ) (plain : PlainDisk) (told : Option Told) (answer : Answer) → (let s = reply_step d.agent place plain told which answer in MayReadAhead s.0.ahead s.1)
  reply_ahead Main sent e place plain told answer = behind_reads (reply_step d.agent place plain told Main answer) (main_replied d.agent place plain told answer fits.agent)
  reply_ahead Ahead sent e place plain told answer =
      quiet_ahead (reply_step d.agent place plain told Ahead answer) (ahead_replied d.agent place plain told answer (sym fits.ahead ∙ ap (λ (o : Option Sent). is_some o) e) fits.agent).silent

  pub lost_ahead : (which : Which) (sent : Sent) → kept_as which d ≡ Some sent → (cause : FailCause) → (let s = lost_step d.agent which cause in MayReadAhead s.0.ahead s.1)
  lost_ahead Main sent e cause =
      behind_reads (lost_step d.agent Main cause) (main_loses d.agent cause (sym fits.main ∙ ap (λ (o : Option Sent). is_some o) e) fits.agent).behind
  lost_ahead Ahead sent e cause =
      quiet_ahead (lost_step d.agent Ahead cause) (ahead_loses d.agent cause (sym fits.ahead ∙ ap (λ (o : Option Sent). is_some o) e) fits.agent).silent

-- ---- an ORB that has a name stands in the slot of that
module _ (past : List Moment) (i : ℕ) (table : SlotTable) (rows : AreRows past i table) (address list number : ℕ) where
  last_is : (slot : ℕ) → (last : Option TicketParts) → IfLast table.lists (appends past i) (slot_at past i) slot last → name_in last ≡ Some (named_orb list number) → slot_at past i list number ≡ slot
  last_is slot None h e = none_is (named_orb list number) e
  last_is slot (Some ticket) h e =
      let same : named_orb ticket.list ticket.number ≡ named_orb list number = cc in
      ap (λ (x : Orb). slot_at past i x.list x.number) (sym same) ∙ h.at

  by_slot : (slot : Option ℕ) → slot_of address ≡ slot → named_in past i slot ≡ Some (named_orb list number) → slot_start (windows.Orb (slot_at past i list number)) ≡ address
  by_slot None e f = none_is (named_orb list number) f
  by_slot (Some slot) e f =
      let begins = slot_of_law.begins address slot e in
      let last = (slot_in table.slots slot).last in
      ap (λ k. slot_start (windows.Orb k)) (last_is slot last (rows.fits.last slot begins.0) (sym (rows.fits.prepared slot begins.0) ∙ f)) ∙ sym begins.1

  slot_is : named past i address ≡ Some (named_orb list number) → slot_start (windows.Orb (slot_at past i list number)) ≡ address
  slot_is e = by_slot (slot_of address) refl e

module _ (units ready : ℕ) (has : 0 < units) (start : List Disk) (past : List Moment) (s : Scene) (here : Place units ready start past s) where
  abbrev w : WorldState
  w = s.world

  abbrev node : NodeState
  node = w.target

  abbrev ms : List Moment
  ms = hist past w

  abbrev wire : Terms
  wire = terms ms

  abbrev T : Target
  T = over (target_at start ms)

  pub good : Good node
  good = good_of units ready here.holds.calls node has here.holds.made

  agreed : Agrees (office_of T) node
  agreed = agrees units ready has start w here.holds

  pub desk_fits : (q : ℕ) → q < 8 → Fits (desk_at node q)
  desk_fits q b = good.mid.fits q b (not_eight q b)

  pub up_by : (q : ℕ) → q < 8 → (which : Which) (sent : Sent) → kept_as which (desk_at node q) ≡ Some sent → is_reset (state_in (desk_at node q).agent.phase) ≡ false
  up_by q b which sent e = under_way (desk_at node q) (desk_fits q b) which sent e

  -- ---- of the login in its place
  module _ (q : ℕ) (login : Login) (there : login_at node q ≡ Some login) (live : is_live login ≡ true) where
    abbrev pub hold : IsHeld wire (length w.initiators) (target_at start ms) w.places q login
    hold = here.held.held q login there

    pub holder_is : (holder w q).initiator ≡ hold.holder.initiator
    holder_is = ap (λ o. (or_nobody o).initiator) hold.there

    within : (holder w q).initiator < length w.initiators
    within = subst (λ n. n < length w.initiators) (sym holder_is) (hold.live live).of.small

    pub initiator_is : initiator_at T wire q ≡ (holder w q).initiator
    initiator_is =
        ap (λ (x : Table). laws.initiator_with wire (laws.node_in (place_at x.places q))) (ap (λ (o : Office). o.table) (over_keeps (target_at start ms)))
        ∙ ((hold.live live).terms_are ∙ sym holder_is)

    pub names_are : (orb : ℕ) → name_in (ticket_at w q orb) ≡ named ms (initiator_at T wire q) orb
    names_are orb =
        let i = (holder w q).initiator in
        sym (ap (λ n. named ms n orb) initiator_is ∙ named_as ms w i within (here.hosts i within).rows orb)

    -- and one that has a name stands in the slot of that
    pub stands_are : (address list number : ℕ) → named ms (initiator_at T wire q) address ≡ Some (named_orb list number) → slot_start (windows.Orb (slot_at ms (initiator_at T wire q) list number)) ≡ address
    stands_are address list number e =
        let i = (holder w q).initiator in
        ap (λ n. slot_start (windows.Orb (slot_at ms n list number))) initiator_is ∙ slot_is ms i _ (here.hosts i within).rows address list number (ap (λ n. named ms n address) (sym initiator_is) ∙ e)

    pub fifo_is : fifo_in (laws.login_at T q) ≡ login.fifo
    fifo_is = ap (λ (x : Table). fifo_in (place_at x.places q)) agreed.table ∙ ap fifo_in there

    -- a request of it fits a packet
    pub small_fifo : login.fifo < 2 ^ 48
    small_fifo = (subst (FitsLogin _) there (here.holds.sound.nodes.target_holds.fits.logins q)).0

    body_fits : (r : AgentStep × Machine) → FitsStep r → IfBody (agent_body r.0.ask (is_some r.0.ended) login.fifo r.1.outgoing)
    body_fits r f = agent_body_fits r.0.ask (is_some r.0.ended) login.fifo r.1.outgoing f.ask small_fifo f.agent.outgoing

    pub reply_body : (place : ℕ) (plain : PlainDisk) (told : Option Told) (which : Which) (answer : Answer) → BytesTold told → BytesIn answer → (let r = reply_step (desk_at node q).agent place plain told which answer in IfBody (agent_body r.0.ask (is_some r.0.ended) login.fifo r.1.outgoing))
    reply_body place plain told which answer t a =
        body_fits (reply_step (desk_at node q).agent place plain told which answer) (reply_fits (desk_at node q).agent place plain told which answer t a (here.holds.sound.nodes.target_holds.fits.agents q))

    pub lost_body : (which : Which) (cause : FailCause) → (let r = lost_step (desk_at node q).agent which cause in IfBody (agent_body r.0.ask (is_some r.0.ended) login.fifo r.1.outgoing))
    lost_body which cause = body_fits (lost_step (desk_at node q).agent which cause) (lost_fits (desk_at node q).agent which cause (here.holds.sound.nodes.target_holds.fits.agents q))

    ahead_fits : (r : AgentStep × Machine) → FitsStep r → IfBody (agent_body r.0.ahead false login.fifo r.1.outgoing)
    ahead_fits r f = agent_body_fits r.0.ahead false login.fifo r.1.outgoing f.ahead small_fifo f.agent.outgoing

    pub reply_ahead_body : (place : ℕ) (plain : PlainDisk) (told : Option Told) (which : Which) (answer : Answer) → BytesTold told → BytesIn answer → (let r = reply_step (desk_at node q).agent place plain told which answer in IfBody (agent_body r.0.ahead false login.fifo r.1.outgoing))
    reply_ahead_body place plain told which answer t a =
        ahead_fits (reply_step (desk_at node q).agent place plain told which answer) (reply_fits (desk_at node q).agent place plain told which answer t a (here.holds.sound.nodes.target_holds.fits.agents q))

    pub lost_ahead_body : (which : Which) (cause : FailCause) → (let r = lost_step (desk_at node q).agent which cause in IfBody (agent_body r.0.ahead false login.fifo r.1.outgoing))
    lost_ahead_body which cause = ahead_fits (lost_step (desk_at node q).agent which cause) (lost_fits (desk_at node q).agent which cause (here.holds.sound.nodes.target_holds.fits.agents q))

    -- and so do those of a loss behind a step
    pub again_body : (m : Machine) → FitsAgent m → (let l = no_label m in IfBody (agent_body l.0.ask (is_some l.0.ended) login.fifo l.1.outgoing))
    again_body m f = body_fits (no_label m) (lost_fits m Main causes.Label f)
