-- The deaths and ends of an agent's turn are due, where the turn's step at the target and at the terms is one: the notes name whom and what the laws name, and the first request finds a label by both.
use Rattle.std.proofs.Common.{◌≡◌, ◌∙◌, refl, sym, ap, subst, ℕ, suc, ◌+◌, length, is_some, Bool, true, false, cond, List, [], ◌∷◌, Option, Some, None}
use Rattle.bus_transactions.specs.Fitting.{FitsRequest}
use Rattle.bus_memory.specs.Windows.{start as slot_start}
use Rattle.bus_memory.specs.declared.window.Window.TheVariants as windows
use Rattle.label_table.specs.Bodies.{Body}
use Rattle.label_table.specs.Layer.{Layer}
use Rattle.login_table.specs.declared.login.Login.{Login}
use Rattle.orb_layout.specs.declared.ask.Ask.TheVariants.{Write}
use Rattle.orb_list.specs.Tickets.{TicketParts}
use Rattle.command_agent.specs.Machine.{Machine, has_present}
use Rattle.command_agent.specs.declared.phase.Phase.{Phase}
use Rattle.command_agent.specs.declared.phase.Phase.TheVariants as phases
use Rattle.command_agent.specs.declared.step.AgentStep.{AgentStep}
use Rattle.command_agent.specs.Steps.{quiet}
use Rattle.rbc_disk.specs.Disk.{Disk}
use Rattle.sbp_bus.specs.declared.places.Holder.{Holder}
use Rattle.sbp_laws.specs.Agents.{AgentTurn, agent_event, agent_notes_for, agent_turn, body_of, fifo_in, finds_first, list_taken, nothing, target_before, wire_after, wire_before}
use Rattle.sbp_laws.specs.Deaths.{ends_by, ends_due}
use Rattle.sbp_laws.specs.Lists.{Orb, named, orb as named_orb, slot_at}
use Rattle.sbp_laws.specs.NoteKinds.{is_end_note, of_kind}
use Rattle.sbp_laws.specs.Packets.{finds_label}
use Rattle.sbp_laws.specs.Targets.{Target, initiator_at, login_at}
use Rattle.sbp_laws.specs.SentRequests.{behind_answer}
use Rattle.sbp_laws.specs.SentWrites.{writes_to}
use Rattle.sbp_laws.specs.Turns.{Turn}
use Rattle.sbp_target.specs.declared.purpose.Purpose.{Purpose}
use Rattle.sbp_target.specs.Agents.{agent_body}
use Rattle.sbp_target.specs.Telling.{or_zero, orb_of}
use Rattle.sbp_target.proofs.Histories.Stepped.{Carries}
use Rattle.sbp_world.specs.Agents.Alike.{Alike, has_list}
use Rattle.sbp_world.specs.Hosts.Rows.{name_in}
use Rattle.sbp_world.proofs.FitTarget.Nodes.{IfBody}
use Rattle.turn_laws.proofs.AgentEnds.{found_at}
use Rattle.turn_laws.proofs.StepLabels.{finds_in, same_found}
use Rattle.turn_laws.proofs.EndFound.{body_same, ends_tried}
use Rattle.turn_laws.proofs.EndNotes.{brought_noted, ends_noted}
use Rattle.turn_laws.proofs.EndShapes.{IsShapedStep}
use Rattle.turn_laws.proofs.EndSizes.{IsSizedBy}
use Rattle.turn_laws.proofs.FirstLayers.{IsBehind}
use Rattle.turn_laws.proofs.FollowEnds.{no_label}
use Rattle.turn_laws.proofs.FollowSends.{requests}
use Rattle.turn_laws.proofs.FoundLabels.{Spells}
use Rattle.sbp_world.proofs.Agents.FreeLabels.{KnowsLabels}
use Rattle.turn_laws.proofs.ReadAheads.{MayReadAhead}
use Rattle.turn_laws.proofs.TurnCounts.{pushed_in}
use Rattle.turn_laws.proofs.TurnSends.{SendsOwn}
use Rattle.turn_laws.proofs.TurnWrites.{all_writes}
use Rattle.turn_laws.proofs.EndTries.{brought, brought_notes, brought_sides, found_by, notes_tried}

-- an ORB that is there is that of a list
pub listed : (phase : Phase) → has_present phase ≡ true → has_list phase ≡ true
listed phases.Fetching e = refl
listed phases.ReadingTable e = refl
listed (phases.ReadingData wanted) e = refl
listed phases.Answering e = refl
listed phases.WritingStatus e = refl
listed phases.WritingLastStatus e = refl
listed phases.Reset e = absurd (let no : false ≡ true = e in cc)
listed phases.ReadingNext e = refl
listed phases.Suspended e = refl
listed phases.Dead e = absurd (let no : false ≡ true = e in cc)

-- What is known of such a turn: the agent's step at the target, with its request at this layer; and the notes that it tells, by who has the places.
pub record IsTurnOf (start : List Disk) (T : Target) (t : Turn) (a : AgentTurn) (step : AgentStep) (m : Machine) (login : Login) (layer : Layer Purpose) : Type 0 where
  pub step_is : a.step ≡ step
  pub alike : Alike a.untold a.machine m
  pub shaped : IsShapedStep (step, m)
  pub carried : Carries step.ask m.outgoing
  pub fits : IfBody (agent_body step.ask (is_some step.ended) login.fifo m.outgoing)
  pub fifo : fifo_in (login_at T a.place) ≡ login.fifo
  pub law_sized : IsSizedBy a.step.ended a.step.ask a.machine.outgoing
  pub sized : IsSizedBy step.ended step.ask m.outgoing
  pub finds : (body : Body) → FitsRequest body → finds_in a.place layer login body ≡ finds_label (wire_after t) 0 (suc (initiator_at T (wire_before t) a.place)) body
  pub spells : Spells a.place layer login
  pub fits_lost : (let l = no_label m in IfBody (agent_body l.0.ask (is_some l.0.ended) login.fifo l.1.outgoing))
  -- what it reads ahead
  pub tame : (offset size : ℕ) → step.ahead ≡ Write offset size → ⊥
  pub ahead : MayReadAhead step.ahead m
  pub fits_ahead : IfBody (agent_body step.ahead false login.fifo m.outgoing)
  -- the labels at its layer, and the layer behind the step's request
  pub labels : KnowsLabels (wire_after t) 0 (suc (initiator_at T (wire_before t) a.place)) login.node layer
  pub behind : Layer Purpose
  pub behind_is : IsBehind a.place login (agent_body step.ask (is_some step.ended) login.fifo m.outgoing) layer behind
  -- what is written to its initiator are its requests
  pub writes : (let i = initiator_at T (wire_before t) a.place in writes_to (suc i) t.rest ≡ all_writes (suc i) (requests a.place login (found_at a.place layer login step m) layer behind step m))
  -- and those stand first behind the response
  pub sends : (let i = initiator_at T (wire_before t) a.place in SendsOwn start t login.node (suc i) (requests a.place login (found_at a.place layer login step m) layer behind step m))
  -- and then one for each unsolicited status that is told
  pub counted : length (behind_answer start t) ≡ length (requests a.place login (found_at a.place layer login step m) layer behind step m) + pushed_in t.rest
  pub holders : ℕ → Holder
  pub tickets : ℕ → ℕ → Option TicketParts
  pub told : of_kind is_end_note t.rest ≡ ends_noted holders tickets (brought_sides a.place m (brought (found_at a.place layer login step m) step m.phase))
  pub initiator : (holders a.place).initiator ≡ initiator_at T (wire_before t) a.place
  pub list : (holders a.place).list ≡ list_taken start (t.start ∷ t.past) a.place
  pub names : (orb : ℕ) → name_in (tickets a.place orb) ≡ named t.past (initiator_at T (wire_before t) a.place) orb
  -- an ORB that has a name stands in the slot of that
  pub stands : (address list number : ℕ) → (let i = initiator_at T (wire_before t) a.place in named t.past i address ≡ Some (named_orb list number) → slot_start (windows.Orb (slot_at t.past i list number)) ≡ address)

module _ (start : List Disk) (T : Target) (t : Turn) (a : AgentTurn) (step : AgentStep) (m : Machine) (login : Login) (layer : Layer Purpose) (h : IsTurnOf start T t a step m login layer) where
  abbrev q : ℕ
  q = a.place

  abbrev pub i : ℕ
  i = initiator_at T (wire_before t) q

  abbrev pub list : Option ℕ
  list = list_taken start (t.start ∷ t.past) q

  abbrev pub found : Bool
  found = found_at q layer login step m

  abbrev pub own : Option Body
  own = body_of step.ask m step.ended (fifo_in (login_at T q))

  pub own_is : agent_body step.ask (is_some step.ended) login.fifo m.outgoing ≡ own
  own_is = body_same step.ask step.ended login.fifo m h.carried ∙ ap (body_of step.ask m step.ended) (sym h.fifo)

  pub of_own : (body : Body) → own ≡ Some body → FitsRequest body
  of_own body e = subst IfBody (own_is ∙ e) h.fits

  pub found_is : found ≡ found_by (finds_in q layer login) own
  found_is = ap (found_by (finds_in q layer login)) own_is

  pub law_found : found_by (finds_label (wire_after t) 0 (suc i)) own ≡ found
  law_found = sym (found_is ∙ same_found (finds_in q layer login) (finds_label (wire_after t) 0 (suc i)) own (λ body e. h.finds body (of_own body e)))

  -- the name of its ORB
  abbrev pub one : Option Orb
  one = name_in (h.tickets q (orb_of m))

  pub named_alike : has_present m.phase ≡ true → named t.past i a.machine.present ≡ one
  named_alike e =
      ap (named t.past i) (h.alike.present (listed m.phase e) ∙ sym (ap (λ b. or_zero (cond b (Some m.present) None)) e)) ∙ sym (h.names (orb_of m))

  pub told_is : of_kind is_end_note t.rest ≡ brought_notes i list one (brought found step m.phase)
  told_is =
      let b = brought found step m.phase in
      h.told ∙ (brought_noted h.holders h.tickets q m b
      ∙ (ap (λ n. brought_notes n (h.holders q).list one b) h.initiator ∙ ap (λ l. brought_notes i l one b) h.list))

  pub agent_due : of_kind is_end_note t.rest ≡ agent_notes_for start T t a
  agent_due = ends_tried T t a step m h.step_is h.alike h.shaped found list one told_is (finds_in q layer login) (named t.past i a.machine.present) found_is law_found named_alike

-- ---- what a turn tells: of an agent by its step at the target, or of one that does nothing, and for which nothing is sent
pub data HasTurn (start : List Disk) (T : Target) (t : Turn) (a : AgentTurn) : Type 0 where
  has_steps : (step : AgentStep) (m : Machine) (login : Login) (layer : Layer Purpose) → IsTurnOf start T t a step m login layer → HasTurn start T t a
  has_rest : a.step ≡ quiet → of_kind is_end_note t.rest ≡ [] → (behind_answer start t ≡ []) × (pushed_in t.rest ≡ 0) → HasTurn start T t a

-- and nothing where it is for no agent
abbrev pub TellsFor : List Disk → Target → Turn → Option AgentTurn → Type 0
TellsFor start T t None = of_kind is_end_note t.rest ≡ []
TellsFor start T t (Some a) = HasTurn start T t a

abbrev pub turn_in : List Disk → Turn → Option AgentTurn
turn_in start t = agent_turn (agent_event start t) (target_before start t) (wire_before t) t.rest

abbrev pub TellsEnds : List Disk → Turn → Type 0
TellsEnds start t = TellsFor start (target_before start t) t (turn_in start t)

pub turn_tells : (start : List Disk) (t : Turn) (x : Option AgentTurn) → turn_in start t ≡ x → TellsFor start (target_before start t) t x → TellsEnds start t
turn_tells start t x e h = subst (TellsFor start (target_before start t) t) (sym e) h

pub none_tells : (start : List Disk) (t : Turn) → agent_event start t ≡ nothing → of_kind is_end_note t.rest ≡ [] → TellsEnds start t
none_tells start t e h = turn_tells start t None (ap (λ x. agent_turn x (target_before start t) (wire_before t) t.rest) e) h

-- so its deaths and ends are due
module _ (start : List Disk) (T : Target) (t : Turn) (a : AgentTurn) where
  resting : a.step ≡ quiet → agent_notes_for start T t a ≡ []
  resting e =
      let i = initiator_at T (wire_before t) a.place in
      let fifo = fifo_in (login_at T a.place) in
      let list = list_taken start (t.start ∷ t.past) a.place in
      let one = named t.past i a.machine.present in
      let finds = finds_first T t a in
      notes_tried finds (finds_label (wire_after t) 0 (suc i)) fifo i list one a.step a.machine (body_of a.step.ask a.machine a.step.ended fifo)
      ∙ ap (λ step. brought_notes i list one (brought (found_by finds (body_of step.ask a.machine step.ended fifo)) step a.machine.phase)) e

ends_for : (start : List Disk) (T : Target) (t : Turn) (x : Option AgentTurn) → TellsFor start T t x → of_kind is_end_note t.rest ≡ ends_by start T t x
ends_for start T t None h = h
ends_for start T t (Some a) (has_steps step m login layer h) = agent_due start T t a step m login layer h
ends_for start T t (Some a) (has_rest e none alone) = none ∙ sym (resting start T t a e)

pub ends_told : (start : List Disk) (t : Turn) → TellsEnds start t → of_kind is_end_note t.rest ≡ ends_due start t
ends_told start t h = ends_for start (target_before start t) t (turn_in start t) h
