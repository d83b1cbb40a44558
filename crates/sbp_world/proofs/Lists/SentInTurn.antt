-- A request of the target for the page table or the buffer of a slot that is sent in a turn is, as the turn ends, the main transaction of an agent.
use Rattle.sbp_world.proofs.Words.Std.{arith, ◌≡◌, ◌∙◌, refl, sym, ap, subst, inl, inr, ◌⊎◌, ◌<◌, ℕ, zero, suc, Bool, true, false, cond, List, [], ◌∷◌, length, map, Option, Some, None}
use Rattle.sbp_world.proofs.Words.Wire.{SerialsCount, seeing_step, id_of, node_of, topology_at, empty_outbox, Moment, asked, Kind, Sending, part_of, request, Terms, terms, Event, Outgoing}
use Rattle.sbp_world.proofs.Words.Target.{Which, Ahead, Main, Machine, AgentStep, Disk, Call, alone, lets_expire, receives, sees, sets_key, ticks, IsUnderWay, NodeState, TargetScene, scene, seen}
use Rattle.sbp_world.proofs.Words.Initiator.{Nothing}
use Rattle.sbp_world.proofs.Words.Laws.{access_in, access_in_bytes, packet_in, receiver_in, sender_in, Agent, Target, agent_at, agent_over, ahead_lost, for_agent, is_nothing, main_lost, moved, over, purpose_of, taken_on, target_at, EachMoment}
use Rattle.sbp_world.proofs.Words.World.{WorldState, agent_in, AreAlong, IsInSlot, IsMainAt, IsCalm, OpenLists, IsLoginFifo, data_slot, BasedAt, AreShort}
use Rattle.command_agent.specs.Steps as steps
use Rattle.orb_layout.specs.declared.ask.FailCause.TheVariants as causes
use Rattle.sbp_target.specs.declared.purpose.Purpose.TheVariants as purposes
use Rattle.sbp_target.proofs.Histories.Pass.{sees_by}
use Rattle.sbp_world.proofs.Agents.Management.Holding.{Holding, known_id}
use Rattle.sbp_world.proofs.Agents.Management.Still.{hist}
use Rattle.sbp_world.proofs.Hosts.SentMoments.{sent_below}
use Rattle.sbp_world.proofs.Wire.Bus.{node_has}
use Rattle.sbp_world.proofs.Wire.Nodes.{handed_alike}
use Rattle.sbp_world.proofs.Lists.BufferClears.{Ground}
use Rattle.sbp_world.proofs.Lists.DataActs.{AreFifos}
use Rattle.sbp_world.proofs.Lists.DataHeard.{AreOwnFor}
use Rattle.sbp_world.proofs.Lists.MainAnswers.{main_of}
use Rattle.sbp_world.proofs.Lists.MainSteps.{main_is_lost}
use Rattle.sbp_world.proofs.Lists.ManagedGots.{manages_it}
use Rattle.sbp_world.proofs.Lists.ManageSends.{opened_terms}
use Rattle.sbp_world.proofs.Lists.ManageTerms.{none_is, same_some}
use Rattle.sbp_world.proofs.Lists.OfficeWrites.{OfficeSoAt}
use Rattle.sbp_world.proofs.Lists.OwnFifos.{fifo_no_window}
use Rattle.sbp_world.proofs.Lists.SentApart.{ahead_not, manager_not}
use Rattle.sbp_world.proofs.Lists.SentLinks.{AllOf, FromPacket, called_from, called_quiet}
use Rattle.sbp_world.proofs.Lists.SentOwned.{AllOwned, IsOwned}
use Rattle.sbp_world.proofs.Lists.SentPurposes.{IsAsking, IsSomebodys, asks, awaits, of_agent, of_manager, of_status, whose}
use Rattle.sbp_world.proofs.Lists.Sites.{Site}
use Rattle.sbp_world.proofs.Lists.TurnCalls.{IsCalled, TurnCalls, TurnFrom, calls, is_sight, keyed, leaves}

-- ---- where no reply waits, an agent's main transaction as the turn ends is the one that it has
lost_same : (a : Agent) → (main_lost a).main ≡ a.main
lost_same a = by (is_nothing a.asks)
  where
    s : AgentStep × Machine
    s = steps.lost_step a.machine Main causes.Label

    by : (b : Bool) → (cond b a (moved s a)).main ≡ a.main
    by true = refl
    by false = ap (λ b. cond b a.ahead a.main) (main_is_lost a.machine causes.Label).stays

ahead_same : (a : Agent) → (ahead_lost a).main ≡ a.main
ahead_same a = by (is_nothing a.asks_ahead)
  where
    by : (b : Bool) → (cond b a (record a { machine = (steps.lost_step a.machine Ahead causes.Label).1; asks_ahead = Nothing })).main ≡ a.main
    by true = refl
    by false = refl

over_same : (a : Agent) → (agent_over a).main ≡ a.main
over_same a = ahead_same (main_lost a) ∙ lost_same a

pub all_over : (agents : List Agent) (p : ℕ) → (agent_in (map agent_over agents) p).main ≡ (agent_in agents p).main
all_over [] p = refl
all_over (a ∷ agents) zero = over_same a
all_over (a ∷ agents) (suc p) = all_over agents p

main_back : (t : Target) (p serial : ℕ) → t.reply ≡ None → (agent_at (over t) p).main ≡ Some serial → (agent_at t p).main ≡ Some serial
main_back t p serial none e =
    let same : (taken_on None t.reply t).agents ≡ t.agents = ap (λ r. (taken_on None r t).agents) none in
    sym (ap (λ (xs : List Agent). (agent_in (map agent_over xs) p).main) same ∙ all_over t.agents p) ∙ e

-- ---- as a generation is seen, no packet is handed out
sight_none : (generation id : ℕ) (node : NodeState) → (alone (sees generation id) node).outbox.packets ≡ []
unfolding seen
sight_none generation id node = sees_by (λ layer packets. packets ≡ []) (record { disowns = λ layer packets peer label h. h }) (seeing_step node.layer generation id) (scene node empty_outbox) refl

none_out : (call : Call) (node : NodeState) → is_sight call ≡ true → (alone call node).outbox.packets ≡ []
none_out (sees generation id) node e = sight_none generation id node
none_out (receives told disks generation bytes) node e = absurd (let z : false ≡ true = e in cc)
none_out (lets_expire peer label) node e = absurd (let z : false ≡ true = e in cc)
none_out ticks node e = absurd (let z : false ≡ true = e in cc)
none_out (sets_key unit key) node e = absurd (let z : false ≡ true = e in cc)

-- ---- what is known of a place, of an initiator
pub record SentKit (start : List Disk) (past : List Moment) (v : WorldState) (i : ℕ) : Type 0 where
  pub site : Site start past v
  pub open_lists : OpenLists (hist past v) v
  pub along : AreAlong (hist past v) v
  pub ground : Ground start (hist past v) v
  pub shorts : AreShort (hist past v)
  pub office : OfficeSoAt start (hist past v) v
  pub based : EachMoment (BasedAt i) (hist past v)
  pub calm : IsCalm (hist past v) i
  pub inside : i < length v.initiators

module _ (units ready : ℕ) (has : 0 < units) (start : List Disk) (wild : ℕ → Bool) (past : List Moment) (before : WorldState) (later : List Moment) (v : WorldState) {lines : ℕ} (h : Holding units ready start later lines v) (counts : SerialsCount (hist past before)) (x : TurnFrom wild past before later v) (owned : (Fifo : ℕ → ℕ → Type 0) → AreFifos Fifo before.target.logins → (call : Call) → (let s = alone call before.target in AllOwned Fifo s.node.layer s.outbox.packets)) (i slot serial : ℕ) (fifos : AreOwnFor before i) (kit : SentKit start later v i) (y : IsInSlot (hist later v) i slot serial) (young : (terms (hist past before)).count < serial) where
  abbrev now : List Moment
  now = hist later v

  abbrev t : Terms
  t = terms now

  record IsThere (so : Option Sending) : Type 0 where
    packet : Sending
    is : so ≡ Some packet
    from : packet.from ≡ 0

  is_there : (so : Option Sending) → sender_in so ≡ Some 0 → IsThere so
  is_there (Some packet) e = record { packet = packet; is = refl; from = same_some packet.from 0 e }
  is_there None e = none_is 0 e

  there : IsThere (t.sent serial)
  there = is_there (t.sent serial) y.from

  abbrev q : Sending
  q = there.packet

  to_is : q.to ≡ suc i
  to_is = same_some q.to (suc i) (sym (ap receiver_in there.is) ∙ y.to)

  -- it was not sent before
  not_before : (terms (hist past before)).sent serial ≡ Some q → ⊥
  not_before e = let b = sent_below (hist past before) serial q counts e in omega (arith, b, young)

  not_there : (terms (hist later x.w)).sent serial ≡ Some q → ⊥
  not_there e = by x.begins
    where
      by : (hist later x.w ≡ hist past before) ⊎ ((line : ℕ) × ((event : Event) × (hist later x.w ≡ asked line event ∷ hist past before))) → ⊥
      by (inl f) = not_before (ap (λ ms. (terms ms).sent serial) (sym f) ∙ e)
      by (inr (line, (event, f))) =
          not_before (ap (λ (s : ℕ → Option Sending). s serial) (sym (opened_terms event (terms (hist past before))).sent) ∙ (ap (λ ms. (terms ms).sent serial) (sym f) ∙ e))

  -- ---- it is what the call handed out
  module _ (c : IsCalled later x.w v) (known : is_sight c.call ≡ false) where
    abbrev s : TargetScene
    s = alone c.call x.w.target

    abbrev Fifo : ℕ → ℕ → Type 0
    Fifo to fifo = node_of x.w.generations 0 to ≡ Some (suc i) → IsLoginFifo fifo

    abbrev One : Outgoing → Type 0
    One packet = (number : ℕ) (kind : Kind) → part_of packet.bytes ≡ request number kind → IsOwned Fifo s.node.layer packet number

    fifos_there : AreFifos Fifo before.target.logins
    fifos_there place login is live = subst (λ g. node_of g 0 login.node ≡ Some (suc i) → IsLoginFifo login.fifo) (sym x.bus) (fifos place login is live)

    each : (packets : List Outgoing) → AllOwned Fifo s.node.layer packets → AllOf One packets
    each [] a = tt
    each (packet ∷ more) a = (a.0, each more a.1)

    all : AllOf One s.outbox.packets
    all = each s.outbox.packets (subst (λ (n : NodeState). (let r = alone c.call n in AllOwned Fifo r.node.layer r.outbox.packets)) (sym x.target) (owned Fifo fifos_there c.call))

    from_it : FromPacket One c.u.generations q
    from_it = called_from start later x.w v c serial q there.is not_there One all

    abbrev asking : IsAsking q (awaits units ready has start v h kit.site.agents serial q there.is there.from y.under_way).u
    asking = asks units ready has start v h kit.site.agents serial q there.is there.from y.under_way

    own : IsOwned Fifo s.node.layer from_it.packet asking.label
    own = from_it.one asking.label asking.kind (ap part_of from_it.bytes ∙ asking.part)

    target_is : v.target ≡ s.node
    target_is = ap (λ (w : WorldState). w.target) c.is ∙ ((handed_alike 0 0 s.outbox c.u).target ∙ c.target)

    bus_is : v.generations ≡ c.u.generations
    bus_is = ap (λ (w : WorldState). w.generations) c.is ∙ (handed_alike 0 0 s.outbox c.u).generations

    id_is : from_it.packet.to ≡ t.ids (t.generation 0) q.to
    id_is =
        let has_it = node_has (topology_at c.u.generations 0) from_it.packet.to q.to from_it.to in
        let bound = kit.inside in
        let e = to_is in
        sym has_it.id_is ∙ (ap (λ g. id_of (topology_at g 0) q.to) (sym bus_is) ∙ sym (known_id v h.sound.stands q.to (omega (arith, bound, e))))

    row : IsUnderWay v.target.layer (Some own.purpose) (t.ids (t.generation 0) q.to) asking.label
    row = subst (λ (n : NodeState). IsUnderWay n.layer (Some own.purpose) (t.ids (t.generation 0) q.to) asking.label) (sym target_is) (subst (λ id. IsUnderWay s.node.layer (Some own.purpose) id asking.label) id_is own.row)

    access_is : access_in_bytes from_it.packet.bytes ≡ Some y.access
    access_is = ap access_in_bytes from_it.bytes ∙ (ap (λ so. access_in (packet_in so)) (sym there.is) ∙ y.is)

    -- an unsolicited status goes to the FIFO of a login
    status_not : own.purpose ≡ purposes.Unsolicited → ⊥
    status_not e =
        let to : node_of x.w.generations 0 from_it.packet.to ≡ Some (suc i) = ap (λ g. node_of g 0 from_it.packet.to) (sym (c.bus known)) ∙ (from_it.to ∙ ap Some to_is) in
        let fifo : IsLoginFifo y.access.offset = (own.told e y.access access_is).0 to in
        none_is slot (sym (ap data_slot (fifo_no_window y.access.offset fifo)) ∙ y.stands)

    quiet : (target_at start now).reply ≡ None
    quiet = called_quiet start later x.w v c serial q there.is not_there

    agents_by : (place : ℕ) (which : Which) → purpose_of (over (target_at start now)) serial ≡ for_agent place which → IsMainAt start now serial
    agents_by place Main e = record {
      place = place;
      small = (kit.site.asked.handed serial place Main e).0;
      waits = main_back (target_at start now) place serial quiet (main_of (over (target_at start now)) place serial e);
    }
    agents_by place Ahead e =
        let f = kit.site.asked.handed serial place Ahead e in
        absurd (ahead_not units ready has start v h kit.site kit.open_lists kit.along place i slot serial f.0 kit.calm f.1 y)

    by_owner : IsSomebodys start now own.purpose serial → IsMainAt start now serial
    by_owner (of_agent place which e) = agents_by place which e
    by_owner (of_manager e) = absurd (manager_not units ready has start v h kit.ground kit.shorts kit.office i slot serial kit.inside kit.calm kit.based (manages_it start now serial e) y)
    by_owner (of_status e) = absurd (status_not e)

    main_there : IsMainAt start now serial
    main_there = by_owner (whose units ready has start v h kit.site.agents serial q there.is there.from y.under_way own.purpose row)

  by_call : (c : IsCalled later x.w v) (b : Bool) → is_sight c.call ≡ b → IsMainAt start now serial
  by_call c false known = main_there c known
  by_call c true known =
      let none = none_out c.call x.w.target known in
      absurd ((called_from start later x.w v c serial q there.is not_there (λ packet. ⊥) (subst (AllOf (λ packet. ⊥)) (sym none) tt)).one)

  pub new_main : IsMainAt start now serial
  new_main = by x.turn
    where
      by : TurnCalls wild later x.w v → IsMainAt start now serial
      by (leaves stays none) = absurd (not_there (none serial q there.is there.from))
      by (keyed unit key target places is) = absurd (not_there (ap (λ ms. (terms ms).sent serial) (sym is) ∙ there.is))
      by (calls c) = by_call c (is_sight c.call) refl
