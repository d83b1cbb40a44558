-- The deaths and ends of a request that the target got: those of an agent whose pointer or doorbell it writes, whose read finds no label, and none else.
use Rattle.std.proofs.Common.{◌+◌, is_some, arith, ◌≡◌, ◌∙◌, refl, sym, ap, subst, ℕ, suc, ◌<◌, ◌≤◌, true, false, List, [], ◌∷◌, ◌++◌, length, Option, Some, None, Result, Ok, Err}
use Rattle.async_packet.specs.Packet.{Packet, header_in}
use Rattle.async_packet.specs.Reading.{reading}
use Rattle.label_table.specs.Bodies.{Body}
use Rattle.label_table.specs.Layer.{Layer, answering_step}
use Rattle.label_table.specs.Requests.{reply_kind}
use Rattle.login_table.specs.declared.login.Login.{Login}
use Rattle.orb_layout.specs.declared.ask.Ask.{Ask}
use Rattle.orb_layout.specs.declared.pointer.OrbPointer.{OrbPointer}
use Rattle.orb_layout.specs.declared.pointer.OrbPointer.TheVariants as pointers
use Rattle.packet_store.specs.declared.sent.Sent.{Sent}
use Rattle.packet_store.specs.Kept.{found_sent}
use Rattle.rbc_disk.specs.Disk.{Disk}
use Rattle.command_agent.specs.Machine.{Machine, present_of, state_in}
use Rattle.command_agent.specs.Steps.{asks, doorbell_in, doorbell_step, is_reset, point_in, point_step, pointed}
use Rattle.command_agent.specs.declared.step.AgentState.{AgentState}
use Rattle.command_agent.specs.declared.step.AgentState.TheVariants as states
use Rattle.command_agent.specs.declared.step.PointRefusal.{PointRefusal}
use Rattle.command_agent.specs.declared.step.Which.TheVariants.{Main}
use Rattle.sbp_bus.specs.declared.places.Holder.{Holder}
use Rattle.sbp_journal.specs.Outgoings.{OutboxState, empty_outbox}
use Rattle.sbp_journal.specs.Run.{Moment, said}
use Rattle.sbp_journal.specs.Wire.{Terms, terms}
use Rattle.sbp_journal.specs.declared.note.Note.{Note}
use Rattle.sbp_journal.specs.declared.note.Note.TheVariants as notes
use Rattle.sbp_journal.specs.declared.side.Side.{Side}
use Rattle.sbp_journal.specs.declared.side.Side.TheVariants as sides
use Rattle.sbp_laws.specs.Agents.{AgentTurn, list_taken}
use Rattle.sbp_laws.specs.Lists.{list_in, named}
use Rattle.sbp_laws.specs.NoteKinds.{is_end_note, of_kind}
use Rattle.sbp_laws.specs.Packets.{finds_label}
use Rattle.sbp_laws.specs.Targets.{Agent, Target, agent_at, initiator_at, over, target_at}
use Rattle.sbp_laws.specs.Turns.{Turn, turn}
use Rattle.sbp_target.specs.declared.desk.Desk.{Desk}
use Rattle.sbp_target.specs.Nodes.{NodeState, Scene as TargetScene, desk_at, scene, with_desk}
use Rattle.sbp_target.specs.Serving.{answered, asked_in}
use Rattle.sbp_target.specs.Telling.{orb_of}
use Rattle.sbp_target.proofs.Histories.Following.{IsServed}
use Rattle.sbp_target.proofs.Histories.Stepped.{Carries}
use Rattle.sbp_world.specs.Agents.Alike.{Alike, has_list}
use Rattle.sbp_world.specs.Hosts.Rows.{name_in}
use Rattle.sbp_world.specs.Telling.{holder, ticket_at, ticket_of, told}
use Rattle.sbp_world.specs.Worlds.{Scene, WorldState}
use Rattle.sbp_world.proofs.Agents.Management.Still.{hist}
use Rattle.sbp_world.proofs.FitTarget.Agents.{FitsAsk}
use Rattle.turn_laws.proofs.AgentDue.{HasTurn, IsTurnOf, has_rest, has_steps}
use Rattle.turn_laws.proofs.AgentEnds.{Tells, asked_tells, found_at, rested_packets}
use Rattle.turn_laws.proofs.AgentHere.{again_body, fifo_is, good, holder_is, initiator_is, names_are, small_fifo, stands_are}
use Rattle.bus_transactions.specs.Fitting.{FitsRequest}
use Rattle.orb_layout.specs.declared.ask.Ask.TheVariants.{Nothing}
use Rattle.orb_list.specs.Tickets.{TicketParts}
use Rattle.sbp_bus.specs.Places.{or_nobody, place_in}
use Rattle.sbp_bus.specs.Telling as bus
use Rattle.sbp_target.specs.Agents.{agent_body}
use Rattle.sbp_target.specs.Sending.{with_side}
use Rattle.sbp_world.specs.Agents.Holders.{IsHeld}
use Rattle.sbp_world.specs.FitTarget.{FitsAgent}
use Rattle.sbp_target.specs.declared.purpose.Purpose.{Purpose}
use Rattle.bus_transactions.specs.Judging.{AreJudged}
use Rattle.sbp_world.proofs.Agents.CrewFirsts.{asks_part}
use Rattle.sbp_world.proofs.FitTarget.Nodes.{IfBody, agent_body_fits}
use Rattle.sbp_world.proofs.Lists.DueRuns.{list_same}
use Rattle.sbp_world.proofs.Lists.OpenPlaces.{opened_here}
use Rattle.turn_laws.proofs.StepLabels.{finds_in}
use Rattle.turn_laws.proofs.EndNotes.{beside_handed, ends_noted, opened_handed}
use Rattle.turn_laws.proofs.EndShapes.{IsShapedStep}
use Rattle.turn_laws.proofs.EndSizes.{IsNoWrite, IsSizedBy, no_write_sized}
use Rattle.turn_laws.proofs.EndTries.{brought, brought_sides}
use Rattle.turn_laws.proofs.FollowEnds.{ends_in}
use Rattle.turn_laws.proofs.FollowSends.{requests, requests_to_peer}
use Rattle.turn_laws.proofs.FollowSides.{AreBeside}
use Rattle.turn_laws.proofs.PushSends.{Pushes, pushes_told}
use Rattle.turn_laws.proofs.TurnCounts.{pushed_in, turn_counts}
use Rattle.turn_laws.proofs.TurnSends.{all_second, sends_second, SendsOwn}
use Rattle.turn_laws.proofs.TurnWrites.{all_writes, turn_writes}
use Rattle.sbp_journal.specs.declared.outbox.Outgoing.{Outgoing}
use Rattle.sbp_laws.specs.SentRequests.{behind_answer}
use Rattle.sbp_laws.specs.SentWrites.{writes_to}
use Rattle.sbp_world.specs.Hosts.Handing.{AreOthers}
use Rattle.sbp_world.proofs.Lists.StatusReads.{answer_reads}
use Rattle.sbp_world.proofs.Lists.StatusSteps.{none_wrote}
use Rattle.turn_laws.proofs.FirstLayers.{IsBehind}
use Rattle.turn_laws.proofs.FoundLabels.{Spells, asked_labels, peer_is, request_finds, request_spells, i as held_i}
use Rattle.sbp_world.proofs.Agents.FreeLabels.{KnowsLabels}
use Rattle.turn_laws.proofs.ReadAheads.{none_ahead}
use Rattle.turn_laws.proofs.Handed.{handed}
use Rattle.turn_laws.proofs.OnlyAnswers.{answered_alone, from_there, one_due}
use Rattle.turn_laws.proofs.Places.{Place}

-- ---- a packet carries what a pointer or a doorbell asks for; and an ORB that is pointed to is there
abbrev pub CarriesIf : Result Ask PointRefusal × Machine → Type 0
CarriesIf (Ok ask, m) = Carries ask m.outgoing × ((has_list m.phase ≡ true) × (orb_of m ≡ m.present))
CarriesIf (Err refusal, m) = Unit {0}

pointed_carries : (m : Machine) (pointer : OrbPointer) → CarriesIf (pointed m pointer)
pointed_carries m pointers.Null = tt
pointed_carries m (pointers.At next) = let few : 32 ≤ 2048 = omega arith in (few, (refl, refl))

point_in_carries : (state : AgentState) (m : Machine) (pointer : OrbPointer) → CarriesIf (point_in state m pointer)
point_in_carries states.Reset m pointer = pointed_carries m pointer
point_in_carries states.Suspended m pointer = pointed_carries m pointer
point_in_carries states.Active m pointer = tt
point_in_carries states.Dead m pointer = tt

pub point_carries : (m : Machine) (pointer : OrbPointer) → CarriesIf (point_step m pointer)
unfolding point_step
point_carries m pointer = point_in_carries (state_in m.phase) m pointer

ring_in_carries : (state : AgentState) (m : Machine) → (let r = doorbell_in state m in Carries r.0 r.1.outgoing)
ring_in_carries states.Reset m = tt
ring_in_carries states.Active m = tt
ring_in_carries states.Suspended m = omega arith
ring_in_carries states.Dead m = tt

pub ring_carries : (m : Machine) → (let r = doorbell_step m in Carries r.0 r.1.outgoing)
unfolding doorbell_step
ring_carries m = ring_in_carries (state_in m.phase) m

module _ (units ready : ℕ) (has : 0 < units) (start : List Disk) (past : List Moment) (s : Scene) (here : Place units ready start past s) (serial : ℕ) (one : Sent) (found : found_sent serial s.world.store.kept ≡ Some one) (zero_to : one.to ≡ 0) (judged : AreJudged (said (notes.Got serial) ∷ hist past s.world)) (p : Packet) (read : reading one.bytes ≡ Ok p) (none : reply_kind p ≡ None) (new : Layer Purpose) (same_layer : new ≡ s.world.target.layer) (q : ℕ) (b : q < 8) (served : IsServed s.world.target q) where
  abbrev w : WorldState
  w = s.world

  abbrev node : NodeState
  node = w.target

  abbrev left : NodeState
  left = record node { layer = new }

  abbrev ms : List Moment
  ms = hist past w

  abbrev wire : Terms
  wire = terms ms

  abbrev T : Target
  T = over (target_at start ms)

  abbrev t : List Note → Turn
  t rest = turn ms (said (notes.Got serial)) rest

  abbrev login : Login
  login = served.login

  abbrev A : Agent
  A = agent_at T q

  abbrev i : ℕ
  i = initiator_at T wire q

  abbrev d : Desk
  d = desk_at node q

  abbrev answered_layer : Layer Purpose
  answered_layer = (answering_step new p one.bytes 0 []).1

  answered_peers : answered_layer.peers ≡ node.layer.peers
  unfolding answering_step
  answered_peers = ap (λ (l : Layer Purpose). l.peers) same_layer

  answered_node : answered_layer.node ≡ node.layer.node
  unfolding answering_step
  answered_node = ap (λ (l : Layer Purpose). l.node) same_layer

  finds_so : (body : Body) → FitsRequest body → finds_in q answered_layer login body ≡ finds_label (terms (said (notes.Got serial) ∷ ms)) 0 (suc i) body
  finds_so body fit =
      let part = asks_part units ready has start w here.holds serial false one found zero_to p read none in
      request_finds units ready start past s here q login served.is served.live serial one found zero_to part.label part.kind part.part answered_layer answered_peers answered_node body fit
      ∙ ap (λ n. finds_label (terms (said (notes.Got serial) ∷ ms)) 0 (suc n) body) (sym (initiator_is units ready has start past s here q login served.is served.live ∙ holder_is units ready has start past s here q login served.is served.live))

  spells_so : Spells q answered_layer login
  spells_so =
      let part = asks_part units ready has start w here.holds serial false one found zero_to p read none in
      request_spells units ready start past s here q login served.is served.live serial one found zero_to part.label part.kind part.part answered_layer answered_peers answered_node

  answered_generation : answered_layer.generation ≡ node.layer.generation
  unfolding answering_step
  answered_generation = ap (λ (l : Layer Purpose). l.generation) same_layer

  labels_so : KnowsLabels (terms (said (notes.Got serial) ∷ ms)) 0 (suc i) login.node answered_layer
  labels_so =
      let part = asks_part units ready has start w here.holds serial false one found zero_to p read none in
      subst (λ n. KnowsLabels (terms (said (notes.Got serial) ∷ ms)) 0 (suc n) login.node answered_layer)
      (sym (initiator_is units ready has start past s here q login served.is served.live ∙ holder_is units ready has start past s here q login served.is served.live))
      (asked_labels units ready start past s here q login served.is served.live serial one found zero_to part.label part.kind part.part answered_layer answered_peers answered_node answered_generation)

  -- what is written behind the response
  abbrev response : List Outgoing
  response = record { to = (header_in p).source; label = None; bytes = (answering_step new p one.bytes 0 []).0 } ∷ []

  writes_behind : (now : WorldState) (o : OutboxState) (behind : Layer Purpose) (ask : Ask) (m : Machine) → now.generations ≡ w.generations → AreOthers o.sides
      → Pushes node.logins.places login.unit q (response ++ requests q login (found_at q answered_layer login (asks ask) m) answered_layer behind (asks ask) m) o.packets
      → writes_to (suc i) (handed 0 0 o now) ≡ all_writes (suc i) (requests q login (found_at q answered_layer login (asks ask) m) answered_layer behind (asks ask) m)
  writes_behind now o behind ask m same others pushes =
      let out = requests q login (found_at q answered_layer login (asks ask) m) answered_layer behind (asks ask) m in
      let mine = initiator_is units ready has start past s here q login served.is served.live ∙ holder_is units ready has start past s here q login served.is served.live in
      turn_writes (suc i) w.generations node.logins.places (good units ready has start past s here).table.sound q login served.is served.live
      (peer_is units ready start past s here q login served.is served.live ∙ ap (λ n. Some (suc n)) (sym mine)) o now response out same others (answer_reads new p one.bytes 0 [], tt)
      (requests_to_peer q login (found_at q answered_layer login (asks ask) m) answered_layer behind (asks ask) m) pushes

  -- and sent there
  sends_behind : (now : WorldState) (o : OutboxState) (behind : Layer Purpose) (ask : Ask) (m : Machine) → now.generations ≡ w.generations → AreOthers o.sides
      → Pushes node.logins.places login.unit q (response ++ requests q login (found_at q answered_layer login (asks ask) m) answered_layer behind (asks ask) m) o.packets
      → SendsOwn start (t (handed 0 0 o now)) login.node (suc i) (requests q login (found_at q answered_layer login (asks ask) m) answered_layer behind (asks ask) m)
  sends_behind now o behind ask m same others pushes =
      let out = requests q login (found_at q answered_layer login (asks ask) m) answered_layer behind (asks ask) m in
      let mine = initiator_is units ready has start past s here q login served.is served.live ∙ holder_is units ready has start past s here q login served.is served.live in
      let first : Outgoing = record { to = (header_in p).source; label = None; bytes = (answering_step new p one.bytes 0 []).0 } in
      sends_second start (t (handed 0 0 o now)) login.node (suc i) w.generations (peer_is units ready start past s here q login served.is served.live ∙ ap (λ n. Some (suc n)) (sym mine))
      o now same others refl node.logins.places login.unit q out (one_due units ready start past s here serial one found zero_to p read now same o others judged none) first one.from
      (from_there units ready start past s here serial one found zero_to p read now same o others judged none) pushes

  counts_behind : (now : WorldState) (o : OutboxState) (behind : Layer Purpose) (ask : Ask) (m : Machine) → now.generations ≡ w.generations → AreOthers o.sides
      → Pushes node.logins.places login.unit q (response ++ requests q login (found_at q answered_layer login (asks ask) m) answered_layer behind (asks ask) m) o.packets
      → length o.packets ≡ suc (length (requests q login (found_at q answered_layer login (asks ask) m) answered_layer behind (asks ask) m)) + pushes_told o.sides
      → length (behind_answer start (t (handed 0 0 o now))) ≡ length (requests q login (found_at q answered_layer login (asks ask) m) answered_layer behind (asks ask) m) + pushed_in (handed 0 0 o now)
  counts_behind now o behind ask m same others pushes counted =
      let out = requests q login (found_at q answered_layer login (asks ask) m) answered_layer behind (asks ask) m in
      let first : Outgoing = record { to = (header_in p).source; label = None; bytes = (answering_step new p one.bytes 0 []).0 } in
      let all = all_second start (t (handed 0 0 o now)) w.generations o now same others refl (one_due units ready start past s here serial one found zero_to p read now same o others judged none) first one.from
      (from_there units ready start past s here serial one found zero_to p read now same o others judged none) (out ++ pushes.more) pushes.is in
      let size : length o.packets ≡ suc (length (out ++ pushes.more)) = ap (λ (ps : List Outgoing). length ps) pushes.is in
      turn_counts start (t (handed 0 0 o now)) w.generations node.logins.places (λ k other e up. ap (λ x. is_some x) (peer_is units ready start past s here k other e up)) login.node (suc (held_i units ready start past s here q login served.is served.live))
      (peer_is units ready start past s here q login served.is served.live) out (requests_to_peer q login (found_at q answered_layer login (asks ask) m) answered_layer behind (asks ask) m) login.unit q o now others refl
      (out ++ pushes.more) pushes.more all refl pushes.pushes (omega (arith, size, counted))

  -- the turn of an agent that asks
  abbrev law_turn : Ask → Machine → AgentTurn
  law_turn ask machine = record { place = q; untold = A.untold; which = Main; step = asks ask; machine = machine }

  body_fits : (ask : Ask) (m : Machine) → FitsAsk ask → FitsAgent m → IfBody (agent_body ask false login.fifo m.outgoing)
  body_fits ask m f g = agent_body_fits ask false login.fifo m.outgoing f (small_fifo units ready has start past s here q login served.is served.live) g.outgoing

  module _ (rest : List Note) (ask : Ask) (m : Machine) (law_ask : Ask) (law_machine : Machine) (ask_is : law_ask ≡ ask) (alike : Alike A.untold law_machine m) (shaped : IsShapedStep (asks ask, m)) (carried : Carries ask m.outgoing) (reads : IsNoWrite ask) (fits_ask : FitsAsk ask) (fits_agent : FitsAgent m) (H : ℕ → Holder) (K : ℕ → ℕ → Option TicketParts) (told_is : of_kind is_end_note rest ≡ ends_noted H K (brought_sides q m (brought (found_at q answered_layer login (asks ask) m) (asks ask) m.phase))) (initiator : (H q).initiator ≡ (holder w q).initiator) (list : (H q).list ≡ list_taken start (said (notes.Got serial) ∷ ms) q) (behind : Layer Purpose) (behind_is : IsBehind q login (agent_body ask false login.fifo m.outgoing) answered_layer behind) (writes : writes_to (suc i) rest ≡ all_writes (suc i) (requests q login (found_at q answered_layer login (asks ask) m) answered_layer behind (asks ask) m)) (sends : SendsOwn start (t rest) login.node (suc i) (requests q login (found_at q answered_layer login (asks ask) m) answered_layer behind (asks ask) m)) (counted : length (behind_answer start (t rest)) ≡ length (requests q login (found_at q answered_layer login (asks ask) m) answered_layer behind (asks ask) m) + pushed_in rest) (tickets : (orb : ℕ) → K q orb ≡ ticket_at w q orb) where
    is_turn : IsTurnOf start T (t rest) (law_turn law_ask law_machine) (asks ask) m login answered_layer
    is_turn = record {
      step_is = ap asks ask_is;
      alike = alike;
      shaped = shaped;
      carried = carried;
      fits = body_fits ask m fits_ask fits_agent;
      fifo = fifo_is units ready has start past s here q login served.is served.live;
      law_sized = subst (λ x. IsSizedBy None x law_machine.outgoing) (sym ask_is) (no_write_sized ask law_machine.outgoing reads);
      sized = no_write_sized ask m.outgoing reads;
      finds = finds_so;
      spells = spells_so;
      fits_lost = again_body units ready has start past s here q login served.is served.live m fits_agent;
      tame = none_wrote;
      ahead = none_ahead;
      fits_ahead = tt;
      labels = labels_so;
      behind = behind;
      behind_is = behind_is;
      writes = writes;
      sends = sends;
      counted = counted;
      holders = H;
      tickets = K;
      told = told_is;
      initiator = initiator ∙ sym (initiator_is units ready has start past s here q login served.is served.live);
      list = list;
      names = λ orb. ap name_in (tickets orb) ∙ names_are units ready has start past s here q login served.is served.live orb;
      stands = stands_are units ready has start past s here q login served.is served.live;
    }

    asks_due : HasTurn start T (t rest) (law_turn law_ask law_machine)
    asks_due = has_steps (asks ask) m login answered_layer is_turn

  -- ---- the world behind the note of the packet: the places and tickets are as before
  module _ (now : WorldState) (holders : (k : ℕ) → holder now k ≡ holder w k) (tickets_now : (k orb : ℕ) → ticket_at now k orb ≡ ticket_at w k orb) (places : now.places ≡ w.places) (bus_same : now.generations ≡ w.generations) where
    -- ---- ORB_POINTER
    module _ (ask : Ask) (m : Machine) (pointer : OrbPointer) (law_machine : Machine) (alike : Alike A.untold law_machine m) (shaped : IsShapedStep (asks ask, m)) (carried : Carries ask m.outgoing) (reads : IsNoWrite ask) (fits_ask : FitsAsk ask) (fits_agent : FitsAgent m) (there : has_list m.phase ≡ true) (orb_is : orb_of m ≡ m.present) where
      abbrev desk : Desk
      desk = record d { agent = m; pointer = present_of m }

      abbrev first : Side
      first = sides.Opened q (orb_of m)

      abbrev opened : WorldState
      opened = told 0 first now

      abbrev asking : TargetScene
      asking = asked_in q ask (Some login) (answered p one.bytes 0 [] (scene (with_desk left q desk) (with_side empty_outbox first)))

      tells : Tells q answered_layer login (asks ask) m node.logins.places (record (with_side empty_outbox first) { packets = response }) asking.outbox
      tells = asked_tells q b left (good units ready has start past s here).mid.size p one.bytes (with_side empty_outbox first) desk ask login shaped

      abbrev hold : IsHeld wire (length w.initiators) (target_at start ms) w.places q login
      hold = here.held.held q login served.is

      abbrev listed : Option ℕ
      listed = bus.list_in (ticket_at now q (orb_of m))

      opened_is : holder opened q ≡ record hold.holder { list = listed }
      unfolding told
      opened_is = ap or_nobody (opened_here now.places q listed hold.holder (ap (λ ps. place_in ps q) places ∙ hold.there))

      owner : (holder opened q).initiator ≡ (holder w q).initiator
      owner = ap (λ (h : Holder). h.initiator) opened_is ∙ sym (holder_is units ready has start past s here q login served.is served.live)

      ticket_same : (i orb : ℕ) → ticket_of opened i orb ≡ ticket_of now i orb
      unfolding told
      ticket_same i orb = refl

      opened_ticket : (orb : ℕ) → ticket_at opened q orb ≡ ticket_at w q orb
      opened_ticket orb =
          ticket_same (holder opened q).initiator orb
          ∙ (ap (λ n. ticket_of now n orb) (owner ∙ ap (λ (h : Holder). h.initiator) (sym (holders q))) ∙ tickets_now q orb)

      opened_list : list_taken start (said (notes.Got serial) ∷ ms) q ≡ list_in (named ms i law_machine.present) → (holder opened q).list ≡ list_taken start (said (notes.Got serial) ∷ ms) q
      opened_list law_list =
          ap (λ (h : Holder). h.list) opened_is
          ∙ (ap bus.list_in (tickets_now q (orb_of m) ∙ ap (ticket_at w q) orb_is)
          ∙ (sym (list_same (ticket_at w q m.present))
          ∙ (ap list_in (names_are units ready has start past s here q login served.is served.live m.present ∙ ap (named ms i) (sym (alike.present there))) ∙ sym law_list)))

      module _ (o : OutboxState) (o_is : o ≡ asking.outbox) (others : AreOthers o.sides) (law_ask : Ask) (ask_is : law_ask ≡ ask) (law_list : list_taken start (said (notes.Got serial) ∷ ms) q ≡ list_in (named ms i law_machine.present)) where
        pub opened_due : HasTurn start T (t (handed 0 0 o now)) (law_turn law_ask law_machine)
        opened_due =
            let g = tells.goes in
            let H = holder opened in
            let K = ticket_at opened in
            asks_due (handed 0 0 o now) ask m law_ask law_machine ask_is alike shaped carried reads fits_ask fits_agent H K
            (opened_handed H K 0 q (orb_of m) g.more o now (ap (λ (y : OutboxState). y.sides) o_is ∙ g.is) (λ k. refl, λ k orb. refl) g.beside ∙ ap (ends_noted H K) (sym (ap ends_in g.is) ∙ tells.ends))
            owner (opened_list law_list) tells.behind tells.behind_is
            (writes_behind now o tells.behind ask m bus_same others (subst (λ (y : OutboxState). Pushes node.logins.places login.unit q (response ++ requests q login (found_at q answered_layer login (asks ask) m) answered_layer tells.behind (asks ask) m) y.packets) (sym o_is) tells.sends))
            (sends_behind now o tells.behind ask m bus_same others (subst (λ (y : OutboxState). Pushes node.logins.places login.unit q (response ++ requests q login (found_at q answered_layer login (asks ask) m) answered_layer tells.behind (asks ask) m) y.packets) (sym o_is) tells.sends))
            (counts_behind now o tells.behind ask m bus_same others (subst (λ (y : OutboxState). Pushes node.logins.places login.unit q (response ++ requests q login (found_at q answered_layer login (asks ask) m) answered_layer tells.behind (asks ask) m) y.packets) (sym o_is) tells.sends)
            (let c = tells.counted in subst (λ (y : OutboxState). length y.packets ≡ suc (length (requests q login (found_at q answered_layer login (asks ask) m) answered_layer tells.behind (asks ask) m)) + pushes_told y.sides) (sym o_is) (omega (arith, c))))
            opened_ticket

    -- ---- DOORBELL, of an agent out of RESET
    module _ (ask : Ask) (m : Machine) (law_ask : Ask) (law_machine : Machine) (ask_is : law_ask ≡ ask) (alike : Alike A.untold law_machine m) (shaped : IsShapedStep (asks ask, m)) (carried : Carries ask m.outgoing) (reads : IsNoWrite ask) (fits_ask : FitsAsk ask) (fits_agent : FitsAgent m) where
      abbrev rung : TargetScene
      rung = asked_in q ask (Some login) (answered p one.bytes 0 [] (scene (with_desk left q (record d { agent = m })) empty_outbox))

      ring_tells : Tells q answered_layer login (asks ask) m node.logins.places (record empty_outbox { packets = response }) rung.outbox
      ring_tells = asked_tells q b left (good units ready has start past s here).mid.size p one.bytes empty_outbox (record d { agent = m }) ask login shaped

      module _ (o : OutboxState) (o_is : o ≡ rung.outbox) (others : AreOthers o.sides) where
        ring_noted : of_kind is_end_note (handed 0 0 o now) ≡ ends_noted (holder now) (ticket_at now) (brought_sides q m (brought (found_at q answered_layer login (asks ask) m) (asks ask) m.phase))
        ring_noted =
            let g = ring_tells.goes in
            beside_handed (holder now) (ticket_at now) 0 o now (λ k. refl, λ k orb. refl) (subst AreBeside (sym (ap (λ (y : OutboxState). y.sides) o_is ∙ g.is)) g.beside)
            ∙ ap (ends_noted (holder now) (ticket_at now)) (ap (λ (y : OutboxState). ends_in y.sides) o_is ∙ ring_tells.ends)

        ring_counts : length (behind_answer start (t (handed 0 0 o now))) ≡ length (requests q login (found_at q answered_layer login (asks ask) m) answered_layer ring_tells.behind (asks ask) m) + pushed_in (handed 0 0 o now)
        ring_counts =
            let c = ring_tells.counted in
            counts_behind now o ring_tells.behind ask m bus_same others (subst (λ (y : OutboxState). Pushes node.logins.places login.unit q (response ++ requests q login (found_at q answered_layer login (asks ask) m) answered_layer ring_tells.behind (asks ask) m) y.packets) (sym o_is) ring_tells.sends)
            (subst (λ (y : OutboxState). length y.packets ≡ suc (length (requests q login (found_at q answered_layer login (asks ask) m) answered_layer ring_tells.behind (asks ask) m)) + pushes_told y.sides) (sym o_is) (omega (arith, c)))

        pub rung_due : is_reset (state_in d.agent.phase) ≡ false → list_taken start (said (notes.Got serial) ∷ ms) q ≡ list_taken start ms q → HasTurn start T (t (handed 0 0 o now)) (law_turn law_ask law_machine)
        rung_due up law_list =
            asks_due (handed 0 0 o now) ask m law_ask law_machine ask_is alike shaped carried reads fits_ask fits_agent (holder now) (ticket_at now) ring_noted
            (ap (λ (h : Holder). h.initiator) (holders q))
            (ap (λ (h : Holder). h.list) (holders q) ∙ (sym (here.taken q b up) ∙ sym law_list))
            ring_tells.behind ring_tells.behind_is
            (writes_behind now o ring_tells.behind ask m bus_same others (subst (λ (y : OutboxState). Pushes node.logins.places login.unit q (response ++ requests q login (found_at q answered_layer login (asks ask) m) answered_layer ring_tells.behind (asks ask) m) y.packets) (sym o_is) ring_tells.sends))
            (sends_behind now o ring_tells.behind ask m bus_same others (subst (λ (y : OutboxState). Pushes node.logins.places login.unit q (response ++ requests q login (found_at q answered_layer login (asks ask) m) answered_layer ring_tells.behind (asks ask) m) y.packets) (sym o_is) ring_tells.sends))
            ring_counts
            (λ orb. tickets_now q orb)

        -- one in RESET asks for nothing
        pub rung_none : ask ≡ Nothing → HasTurn start T (t (handed 0 0 o now)) (law_turn law_ask law_machine)
        rung_none nothing =
            has_rest (ap asks (ask_is ∙ nothing))
            (ring_noted ∙ ap (λ x. ends_noted (holder now) (ticket_at now) (brought_sides q m (brought (found_at q answered_layer login (asks x) m) (asks x) m.phase))) nothing)
            (alone, told_none)
          where
            rests_alone : o.packets ≡ response
            rests_alone =
                ap (λ (y : OutboxState). y.packets) o_is ∙ (ap (λ x. (asked_in q x (Some login) (answered p one.bytes 0 [] (scene (with_desk left q (record d { agent = m })) empty_outbox))).outbox.packets) nothing
                ∙ rested_packets q b left (good units ready has start past s here).mid.size p one.bytes empty_outbox (record d { agent = m }) login)

            alone : behind_answer start (t (handed 0 0 o now)) ≡ []
            alone = answered_alone units ready start past s here serial one found zero_to p read now bus_same o others judged none (answering_step new p one.bytes 0 []).0 rests_alone

            told_none : pushed_in (handed 0 0 o now) ≡ 0
            told_none =
                let a = ap (λ (ns : List Note). length ns) alone in
                let c = ring_counts in
                omega (arith, a, c)
