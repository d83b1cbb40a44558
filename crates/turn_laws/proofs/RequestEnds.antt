-- The deaths and ends of a request that the target got and that no login bars, by what it asks of the target.
use Rattle.std.proofs.Common.{arith, ◌≡◌, ◌∙◌, refl, sym, ap, subst, ℕ, ◌<◌, nat_eq, Bool, true, false, cond, List, [], ◌∷◌, length, Option, Some, None, Result, Ok, Err}
use Rattle.std.proofs.lemmas.Bool.Decides.{nat_tests}
use Rattle.async_packet.specs.Packet.{Packet, header_in}
use Rattle.async_packet.specs.Reading.{reading}
use Rattle.bus_transactions.proofs.FitJudged.{BytesOf, bytes_of, spelled}
use Rattle.label_table.specs.Layer.{Layer, answering_step}
use Rattle.label_table.specs.Requests.{reply_kind}
use Rattle.orb_layout.specs.declared.ask.Ask.{Ask}
use Rattle.orb_layout.specs.declared.ask.Ask.TheVariants.{Nothing}
use Rattle.orb_layout.specs.declared.pointer.OrbPointer.{OrbPointer}
use Rattle.orb_layout.specs.Pointers.{IsPointer}
use Rattle.packet_store.specs.declared.sent.Sent.{Sent}
use Rattle.packet_store.specs.Kept.{found_sent}
use Rattle.rbc_disk.specs.Disk.{Disk}
use Rattle.command_agent.specs.Machine.{Machine, present_of, state_in}
use Rattle.command_agent.specs.Steps.{asks, doorbell_in, doorbell_step, is_reset, point_step}
use Rattle.command_agent.specs.declared.step.AgentState.{AgentState}
use Rattle.command_agent.specs.declared.step.AgentState.TheVariants as states
use Rattle.command_agent.specs.declared.step.PointRefusal.{PointRefusal}
use Rattle.sbp_journal.specs.Outgoings.{OutboxState, empty_outbox}
use Rattle.sbp_journal.specs.Run.{Moment, said}
use Rattle.sbp_journal.specs.Wire.{Terms, terms}
use Rattle.sbp_journal.specs.declared.cause.CutCause.TheVariants as cuts
use Rattle.sbp_journal.specs.declared.note.Note.{Note}
use Rattle.sbp_journal.specs.declared.note.Note.TheVariants as notes
use Rattle.sbp_journal.specs.declared.side.Side.TheVariants as sides
use Rattle.sbp_laws.specs.Agents.{AgentTurn, Event, agent_turn, by_doorbell, by_pointer, event_by, list_taken, listed_at, listed_by, write_in}
use Rattle.sbp_laws.specs.Targets.{Agent, Target, agent_at, initiator_at, over, target_at}
use Rattle.sbp_laws.specs.Turns.{Turn, turn}
use Rattle.sbp_target.specs.declared.desk.Desk.{Desk}
use Rattle.sbp_target.specs.declared.purpose.Purpose.{Purpose}
use Rattle.sbp_target.specs.Agents.{cut, told_cut}
use Rattle.sbp_target.specs.Desks.{pointed_desk}
use Rattle.sbp_target.specs.Sending.{answer_step, answered_by, with_side}
use Rattle.sbp_target.specs.Telling.{orb_of}
use Rattle.sbp_target.proofs.Histories.Stepped.{Carries}
use Rattle.sbp_world.specs.Agents.Alike.{Alike}
use Rattle.sbp_world.specs.FitTarget.{FitsAgent}
use Rattle.turn_laws.proofs.EndShapes.{IsShapedStep}
use Rattle.sbp_target.specs.Nodes.{NodeState, Scene as TargetScene, desk_at, scene, with_desk}
use Rattle.sbp_target.specs.Serving.{accessed_by, answered, asked_in, enabled, is_barred, point, pointed_by, ring, rung_by, serve, served_as}
use Rattle.sbp_target.proofs.Histories.Following.{IsServed}
use Rattle.sbp_target.proofs.Histories.Settled.{reaches}
use Rattle.bus_transactions.specs.Judging.{AreJudged}
use Rattle.sbp_world.specs.Hosts.Handing.{AreOthers}
use Rattle.sbp_world.specs.Telling.{holder, ticket_at}
use Rattle.sbp_world.specs.Worlds.{Scene, WorldState}
use Rattle.sbp_world.proofs.Agents.CrewFirsts.{access_there}
use Rattle.sbp_world.proofs.Agents.Management.Holding.{ours}
use Rattle.sbp_world.proofs.Agents.Management.Still.{hist}
use Rattle.sbp_world.proofs.Agents.Steps.{doorbell_alike, point_alike}
use Rattle.sbp_world.proofs.FitTarget.Agents.{FitsAsk, point_fits, ring_fits}
use Rattle.sbp_world.proofs.FitTarget.Demands.{FitsDemand, demand_fits}
use Rattle.target_base.specs.Addresses.{demand_of}
use Rattle.target_base.specs.declared.address.Access.{Access}
use Rattle.target_base.specs.declared.address.Access.TheVariants as accesses
use Rattle.target_base.specs.declared.address.Demand.{Demand}
use Rattle.target_base.specs.declared.address.Demand.TheVariants as demands
use Rattle.turn_laws.proofs.AgentDue.{TellsEnds, TellsFor, turn_in, turn_tells}
use Rattle.turn_laws.proofs.AgentEnds.{AsksIf, point_asks, ring_asks}
use Rattle.turn_laws.proofs.AgentHere.{good}
use Rattle.turn_laws.proofs.AskEnds.{CarriesIf, opened_due, point_carries, ring_carries, rung_due, rung_none}
use Rattle.turn_laws.proofs.EndNotes.{NoEnds, low_ranks, none_handed}
use Rattle.turn_laws.proofs.EndSizes.{IsNoWrite, ReadsIf, point_reads, ring_reads}
use Rattle.turn_laws.proofs.Gots.{request_brings}
use Rattle.turn_laws.proofs.Handed.{handed}
use Rattle.turn_laws.proofs.OrderManaged.{starts}
use Rattle.turn_laws.proofs.Places.{Place}
use Rattle.turn_laws.proofs.RequestEvents.{Takes, demand_takes, request_takes}

-- an answer tells nothing
answer_by : (r : List ℕ × Layer Purpose) (o : OutboxState) (source : ℕ) → (answered_by r o source).1.sides ≡ o.sides
answer_by (bytes, layer) o source = refl

pub answered_sides : (request : Packet) (bytes : List ℕ) (rcode : ℕ) (given : List ℕ) (s : TargetScene) → (answered request bytes rcode given s).outbox.sides ≡ s.outbox.sides
unfolding answer_step
answered_sides request bytes rcode given s = answer_by (answering_step s.node.layer request bytes rcode given) s.outbox (header_in request).source

-- an agent in RESET asks for nothing behind a doorbell
reset_in : (state : AgentState) (m : Machine) → is_reset state ≡ true → (doorbell_in state m).0 ≡ Nothing
reset_in states.Reset m e = refl
reset_in states.Active m e = absurd (let no : false ≡ true = e in cc)
reset_in states.Suspended m e = absurd (let no : false ≡ true = e in cc)
reset_in states.Dead m e = absurd (let no : false ≡ true = e in cc)

reset_rings : (m : Machine) → is_reset (state_in m.phase) ≡ true → (doorbell_step m).0 ≡ Nothing
unfolding doorbell_step
reset_rings m e = reset_in (state_in m.phase) m e

cut_none : (b : Bool) (q : ℕ) → NoEnds (told_cut b q cuts.AgentReset empty_outbox).sides
cut_none true q = tt
cut_none false q = (tt, tt)

module _ (units ready : ℕ) (has : 0 < units) (start : List Disk) (past : List Moment) (s : Scene) (here : Place units ready start past s) (serial : ℕ) (one : Sent) (found : found_sent serial s.world.store.kept ≡ Some one) (zero_to : one.to ≡ 0) (judged : AreJudged (said (notes.Got serial) ∷ hist past s.world)) (p : Packet) (read : reading one.bytes ≡ Ok p) (none : reply_kind p ≡ None) (new : Layer Purpose) (same_layer : new ≡ s.world.target.layer) (bar : is_barred s.world.target p ≡ false) (now : WorldState) (holders : (k : ℕ) → holder now k ≡ holder s.world k) (tickets : (k orb : ℕ) → ticket_at now k orb ≡ ticket_at s.world k orb) (places : now.places ≡ s.world.places) (bus_same : now.generations ≡ s.world.generations) (o : OutboxState) (others : AreOthers o.sides) where
  abbrev w : WorldState
  w = s.world

  abbrev node : NodeState
  node = w.target

  abbrev here_scene : TargetScene
  here_scene = scene (record node { layer = new }) empty_outbox

  abbrev ms : List Moment
  ms = hist past w

  abbrev wire : Terms
  wire = terms ms

  abbrev T : Target
  T = over (target_at start ms)

  abbrev rest : List Note
  rest = handed 0 0 o now

  abbrev t : Turn
  t = turn ms (said (notes.Got serial)) rest

  abbrev Due : Type 0
  Due = TellsEnds start t

  -- ---- what the laws make of it
  abbrev F : Event → Option AgentTurn
  F event = agent_turn event T wire rest

  abbrev pointed : ℕ → OrbPointer → Option AgentTurn
  pointed q pointer = by_pointer q (agent_at T q) (point_step (agent_at T q).machine pointer)

  abbrev rung : ℕ → Option AgentTurn
  rung q = by_doorbell q (agent_at T q) (doorbell_step (agent_at T q).machine)

  takes : Takes F None pointed rung
  takes = record { none = refl; state = λ q a. refl; reset = λ q a. refl; enable = λ q a. refl; points = λ q a. refl; rings = λ q a. refl }

  event_is : (let there = access_there p none in event_by (said (notes.Got serial)) T wire ≡ write_in (Some there.access))
  event_is = request_brings units ready has start past s here serial one found zero_to p read none ∙ ap write_in (access_there p none).is

  turn_is : turn_in start t ≡ demand_takes F None pointed rung takes (demand_of (length node.rom) p)
  turn_is =
      let there = access_there p none in
      ap F event_is ∙ request_takes F None pointed rung takes (length node.rom) p there.access here.holds.rom there.is

  -- and the list of a place
  module _ (q : ℕ) where
    abbrev before : Option ℕ
    before = list_taken start ms q

    abbrev L : Event → Option ℕ
    L event = listed_at event ms T wire q before

    abbrev list_pointed : ℕ → OrbPointer → Option ℕ
    list_pointed k pointer = cond (nat_eq k q) (listed_by (point_step (agent_at T q).machine pointer) ms (initiator_at T wire q) before) before

    abbrev list_rung : ℕ → Option ℕ
    list_rung k = before

    list_takes : Takes L before list_pointed list_rung
    list_takes = record { none = refl; state = λ k a. refl; reset = λ k a. refl; enable = λ k a. refl; points = λ k a. refl; rings = λ k a. refl }

    list_is : (demand : Demand) → demand_of (length node.rom) p ≡ demand → list_taken start (said (notes.Got serial) ∷ ms) q ≡ demand_takes L before list_pointed list_rung list_takes demand
    list_is demand d =
        let there = access_there p none in
        ap L event_is ∙ (request_takes L before list_pointed list_rung list_takes (length node.rom) p there.access here.holds.rom there.is ∙ ap (demand_takes L before list_pointed list_rung list_takes) d)

  -- ---- what the target does
  sides_by : {y : OutboxState} → o ≡ y → o.sides ≡ y.sides
  sides_by e = ap (λ (x : OutboxState). x.sides) e

  none_due : (demand : Demand) → demand_of (length node.rom) p ≡ demand → demand_takes F None pointed rung takes demand ≡ None → NoEnds o.sides → Due
  none_due demand d e n = turn_tells start t None (turn_is ∙ (ap (demand_takes F None pointed rung takes) d ∙ e)) (none_handed o now others n)

  small_bytes : BytesOf p
  small_bytes = bytes_of p one.bytes (spelled one.bytes p read) (ours w here.holds.sound.stands serial one found).bytes

  module _ (q : ℕ) (b : q < 8) (served : IsServed node q) where
    abbrev d : Desk
    d = desk_at node q

    abbrev A : Agent
    A = agent_at T q

    -- a pointer
    module _ (pointer : OrbPointer) (is_pointer : IsPointer pointer) (demand : demand_of (length node.rom) p ≡ demands.Agent q (accesses.Point pointer)) where
      abbrev Points : Result Ask PointRefusal × Machine → Type 0
      Points r = o ≡ (pointed_by q p one.bytes (pointed_desk d r) here_scene).outbox → point_step d.agent pointer ≡ r → Due

      law_is : (r : Result Ask PointRefusal × Machine) → point_step A.machine pointer ≡ r → turn_in start t ≡ by_pointer q A r
      law_is r e = turn_is ∙ (ap (demand_takes F None pointed rung takes) demand ∙ ap (λ x. by_pointer q A x) e)

      listed_is : (r : Result Ask PointRefusal × Machine) → point_step A.machine pointer ≡ r → list_taken start (said (notes.Got serial) ∷ ms) q ≡ listed_by r ms (initiator_at T wire q) (list_taken start ms q)
      listed_is r e =
          list_is q (demands.Agent q (accesses.Point pointer)) demand
          ∙ (ap (λ x. cond x (listed_by (point_step A.machine pointer) ms (initiator_at T wire q) (list_taken start ms q)) (list_taken start ms q)) (let same : nat_eq q q ≡ true = grind (arith, nat_tests) in same)
          ∙ ap (λ x. listed_by x ms (initiator_at T wire q) (list_taken start ms q)) e)

      refused : (refusal : PointRefusal) (r : Result Ask PointRefusal × Machine) → r.0 ≡ Err refusal → by_pointer q A r ≡ None
      refused refusal (Err other, m) e = refl
      refused refusal (Ok ask, m) e = absurd (let no : Ok ask ≡ Err refusal = e in cc)

      module _ (ask : Ask) (m : Machine) (is : o ≡ (pointed_by q p one.bytes (pointed_desk d (Ok ask, m)) here_scene).outbox) (e : point_step d.agent pointer ≡ (Ok ask, m)) where
        reads : ReadsIf (Ok ask, m)
        reads = subst ReadsIf e (point_reads d.agent pointer)

        carried : CarriesIf (Ok ask, m)
        carried = subst CarriesIf e (point_carries d.agent pointer)

        shaped : AsksIf (Ok ask, m)
        shaped = subst AsksIf e (point_asks d.agent pointer)

        by_law : (r : Result Ask PointRefusal × Machine) → point_step A.machine pointer ≡ r → r.0 ≡ Ok ask → Alike A.untold r.1 m → Due
        by_law (Err refusal, machine) f g al = absurd (let no : Err refusal ≡ Ok ask = g in cc)
        by_law (Ok other, machine) f g al =
            let fit = point_fits d.agent pointer is_pointer (here.holds.sound.nodes.target_holds.fits.agents q) in
            let there = carried.1 in
            turn_tells start t (by_pointer q A (Ok other, machine)) (law_is (Ok other, machine) f)
            (opened_due units ready has start past s here serial one found zero_to judged p read none new same_layer q b served now holders tickets places bus_same ask m pointer machine al shaped carried.0 reads
            (fit.ask ask (ap (λ (r : Result Ask PointRefusal × Machine). r.0) e)) (subst (λ (r : Result Ask PointRefusal × Machine). FitsAgent r.1) e fit.agent) there.0 there.1
            o (is ∙ ap (λ x. (asked_in q ask x (answered p one.bytes 0 [] (scene (with_desk here_scene.node q (record d { agent = m; pointer = present_of m })) (with_side empty_outbox (sides.Opened q (orb_of m)))))).outbox) served.is) others
            other (let same : other ≡ ask = cc in same) (listed_is (Ok other, machine) f))

      points : (r : Result Ask PointRefusal × Machine) → Points r
      points (Err refusal, m) is e =
          turn_tells start t None
          (law_is (point_step A.machine pointer) refl
          ∙ refused refusal (point_step A.machine pointer) ((point_alike A.untold A.machine d.agent pointer (here.agents.are.each q b).machine).0 ∙ ap (λ (r : Result Ask PointRefusal × Machine). r.0) e))
          (none_handed o now others (subst NoEnds (sym (sides_by is ∙ answered_sides p one.bytes _ [] (scene (with_desk here_scene.node q (record d { agent = m })) empty_outbox))) tt))
      points (Ok ask, m) is e =
          let al = point_alike A.untold A.machine d.agent pointer (here.agents.are.each q b).machine in
          by_law ask m is e (point_step A.machine pointer) refl (al.0 ∙ ap (λ (r : Result Ask PointRefusal × Machine). r.0) e)
          (subst (λ (r : Result Ask PointRefusal × Machine). Alike A.untold (point_step A.machine pointer).1 r.1) e al.1)

    -- a doorbell
    module _ (demand : demand_of (length node.rom) p ≡ demands.Agent q accesses.Ring) where
      rung_is : (r : Ask × Machine) → doorbell_step A.machine ≡ r → turn_in start t ≡ by_doorbell q A r
      rung_is r e = turn_is ∙ (ap (demand_takes F None pointed rung takes) demand ∙ ap (λ x. by_doorbell q A x) e)

      still_listed : list_taken start (said (notes.Got serial) ∷ ms) q ≡ list_taken start ms q
      still_listed = list_is q (demands.Agent q accesses.Ring) demand

      module _ (ask : Ask) (m : Machine) (is : o ≡ (rung_by q p one.bytes (ask, m) here_scene).outbox) (e : doorbell_step d.agent ≡ (ask, m)) where
        outbox_is : o ≡ (asked_in q ask (Some served.login) (answered p one.bytes 0 [] (scene (with_desk here_scene.node q (record d { agent = m })) empty_outbox))).outbox
        outbox_is = is ∙ ap (λ x. (asked_in q ask x (answered p one.bytes 0 [] (scene (with_desk here_scene.node q (record d { agent = m })) empty_outbox))).outbox) served.is

        rings_by : (r : Ask × Machine) → doorbell_step A.machine ≡ r → r.0 ≡ ask → Alike A.untold r.1 m → (x : Bool) → is_reset (state_in d.agent.phase) ≡ x → Due
        rings_by (other, machine) f g al x up =
            let shaped = subst (λ (r : Ask × Machine). IsShapedStep (asks r.0, r.1)) e (ring_asks d.agent) in
            let carried = subst (λ (r : Ask × Machine). Carries r.0 r.1.outgoing) e (ring_carries d.agent) in
            let fit = ring_fits d.agent (here.holds.sound.nodes.target_holds.fits.agents q) in
            let fits_ask = subst (λ (r : Ask × Machine). FitsAsk r.0) e fit.ask in
            let fits_agent = subst (λ (r : Ask × Machine). FitsAgent r.1) e fit.agent in
            let reads = subst (λ (r : Ask × Machine). IsNoWrite r.0) e (ring_reads d.agent) in
            turn_tells start t (by_doorbell q A (other, machine)) (rung_is (other, machine) f) (by x up shaped carried reads fits_ask fits_agent)
          where
            by : (x : Bool) → is_reset (state_in d.agent.phase) ≡ x → IsShapedStep (asks ask, m) → Carries ask m.outgoing → IsNoWrite ask → FitsAsk ask → FitsAgent m → TellsFor start T t (by_doorbell q A (other, machine))
            by false up shaped carried reads fits_ask fits_agent =
                rung_due units ready has start past s here serial one found zero_to judged p read none new same_layer q b served now holders tickets places bus_same ask m other machine g al shaped carried reads fits_ask fits_agent o outbox_is others up still_listed
            by true up shaped carried reads fits_ask fits_agent =
                rung_none units ready has start past s here serial one found zero_to judged p read none new same_layer q b served now holders tickets places bus_same ask m other machine g al shaped carried reads fits_ask fits_agent o outbox_is others
                (sym (ap (λ (r : Ask × Machine). r.0) e) ∙ reset_rings d.agent up)

      rings : (r : Ask × Machine) → o ≡ (rung_by q p one.bytes r here_scene).outbox → doorbell_step d.agent ≡ r → Due
      rings (ask, m) is e =
          let al = doorbell_alike A.untold A.machine d.agent (here.agents.are.each q b).machine in
          rings_by ask m is e (doorbell_step A.machine) refl (al.0 ∙ ap (λ (r : Ask × Machine). r.0) e)
          (subst (λ (r : Ask × Machine). Alike A.untold (doorbell_step A.machine).1 r.1) e al.1) (is_reset (state_in d.agent.phase)) refl

    -- ---- whatever is asked of the agent
    access_ends : (access : Access) → demand_of (length node.rom) p ≡ demands.Agent q access → o ≡ (accessed_by access q p one.bytes here_scene).outbox → Due
    unfolding point ring cut
    access_ends accesses.State e is = none_due (demands.Agent q accesses.State) e refl (subst NoEnds (sym (sides_by is ∙ answered_sides p one.bytes 0 _ here_scene)) tt)
    access_ends accesses.Pointer e is = none_due (demands.Agent q accesses.Pointer) e refl (subst NoEnds (sym (sides_by is ∙ answered_sides p one.bytes 0 _ here_scene)) tt)
    access_ends accesses.Enable e is = none_due (demands.Agent q accesses.Enable) e refl (subst NoEnds (sym (sides_by is ∙ answered_sides p one.bytes 0 [] (enabled q here_scene))) tt)
    access_ends accesses.Reset e is =
        none_due (demands.Agent q accesses.Reset) e refl (subst NoEnds (sym (sides_by is ∙ answered_sides p one.bytes 0 [] (cut cuts.AgentReset q here_scene))) (cut_none (is_reset (state_in d.agent.phase)) q))
    access_ends (accesses.Point pointer) e is =
        let fit : FitsDemand (length node.rom) p (demands.Agent q (accesses.Point pointer)) = subst (FitsDemand (length node.rom) p) e (demand_fits (length node.rom) p small_bytes) in
        points pointer fit.1 e (point_step d.agent pointer) is refl
    access_ends accesses.Ring e is = rings e (doorbell_step d.agent) is refl

  demand_ends : (demand : Demand) → demand_of (length node.rom) p ≡ demand → o ≡ (served_as demand p one.bytes here_scene).outbox → Due
  demand_ends (demands.Refused rcode) e is = none_due (demands.Refused rcode) e refl (subst NoEnds (sym (sides_by is ∙ answered_sides p one.bytes rcode [] here_scene)) tt)
  demand_ends (demands.Rom at len) e is = none_due (demands.Rom at len) e refl (subst NoEnds (sym (sides_by is ∙ answered_sides p one.bytes 0 _ here_scene)) tt)
  demand_ends (demands.Manage orb) e is =
      none_due (demands.Manage orb) e refl (subst NoEnds (sym (sides_by is)) (low_ranks (served_as (demands.Manage orb) p one.bytes here_scene).outbox.sides 0 (starts here_scene.node orb p one.bytes)))
  demand_ends (demands.Agent q access) e is =
      let r = reaches node (good units ready has start past s here) p q access bar e in access_ends q r.small r.served access e is

  pub request_ends : o ≡ (serve p one.bytes here_scene).outbox → Due
  unfolding serve
  request_ends is = demand_ends (demand_of (length node.rom) p) refl is
