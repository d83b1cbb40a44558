-- The writes to the initiator of an ORB that a turn ends: the status of that end, by the history, where it finds a label. It is the request of the step, or, where that finds none, the one of the loss.
use Rattle.std.proofs.Common.{◌≡◌, ◌∙◌, refl, sym, ap, subst, ℕ, suc, is_some, Bool, true, false, cond, List, [], ◌∷◌, ◌++◌, append-nil, length, Option, Some, None}
use Rattle.bus_transactions.specs.Fitting.{FitsRequest}
use Rattle.label_table.specs.Bodies.{Body, block_read, block_write}
use Rattle.label_table.specs.Layer.{Layer}
use Rattle.login_table.specs.declared.login.Login.{Login}
use Rattle.orb_layout.specs.declared.ask.Ask.{Ask}
use Rattle.orb_layout.specs.declared.ask.Ask.TheVariants.{Nothing, Read, Write}
use Rattle.orb_layout.specs.declared.status.StatusKind.{StatusKind}
use Rattle.orb_layout.specs.StatusBlocks.{status_bytes}
use Rattle.command_agent.specs.Machine.{Machine, has_present}
use Rattle.command_agent.specs.Steps.{block_of, src_of, status_phase}
use Rattle.command_agent.specs.Tasks.{writes_status}
use Rattle.command_agent.specs.declared.step.AgentStep.{AgentStep}
use Rattle.rbc_disk.specs.Disk.{Disk}
use Rattle.sbp_journal.specs.declared.outbox.Outgoing.{Outgoing}
use Rattle.sbp_laws.specs.Agents.{AgentTurn, agent_event, body_of, fifo_in, target_before, wire_after, wire_before}
use Rattle.sbp_laws.specs.Lists.{Orb, list_in, named, number_in}
use Rattle.sbp_laws.specs.Packets.{finds_label}
use Rattle.sbp_laws.specs.Progress.{progress}
use Rattle.sbp_laws.specs.SentWrites.{End, NodeWrite, address_in, behind_turn, end_in, end_writes, place_in, served, src_by, status_of, statuses_due, writes_to}
use Rattle.sbp_laws.specs.Targets.{Target, agent_at, initiator_at, login_at, target_at}
use Rattle.sbp_laws.specs.Turns.{Turn}
use Rattle.sbp_target.specs.declared.purpose.Purpose.{Purpose}
use Rattle.sbp_target.specs.Agents.{agent_body}
use Rattle.sbp_target.specs.Telling.{orb_of}
use Rattle.sbp_world.specs.Hosts.Rows.{name_in}
use Rattle.sbp_world.proofs.Common.{untrue}
use Rattle.sbp_world.proofs.FitTarget.Nodes.{IfBody}
use Rattle.turn_laws.proofs.AgentDue.{IsTurnOf, listed, named_alike, of_own, own_is}
use Rattle.turn_laws.proofs.AgentEnds.{found_at}
use Rattle.turn_laws.proofs.EndFound.{failed_there}
use Rattle.turn_laws.proofs.EndTries.{Brought, brought, brought_unsent, fails_in, found_by}
use Rattle.turn_laws.proofs.FollowEnds.{no_label}
use Rattle.turn_laws.proofs.FollowSends.{requested, requested_ahead, requested_by, requests}
use Rattle.turn_laws.proofs.RequestWrites.{ahead_reads, lost_body, none_found, status_lost, unsent, write_sent}
use Rattle.turn_laws.proofs.SilentTurns.{end_is, end_of, of_end, phase_is, presents_it, writes_it}
use Rattle.turn_laws.proofs.StatusSteps.{EndsAs, IsEnd}
use Rattle.turn_laws.proofs.StepLabels.{finds_in}
use Rattle.turn_laws.proofs.TurnWrites.{all_writes, both_writes, reads_write}

module _ (start : List Disk) (t : Turn) (a : AgentTurn) (step : AgentStep) (m : Machine) (login : Login) (layer : Layer Purpose) (h : IsTurnOf start (target_before start t) t a step m login layer) (as_end : EndsAs a.step.ended a.step a.machine) (place : place_in (agent_event start t) ≡ a.place) where
  abbrev T : Target
  T = target_before start t

  abbrev q : ℕ
  q = a.place

  abbrev i : ℕ
  i = initiator_at T (wire_before t) q

  abbrev fifo : ℕ
  fifo = fifo_in (login_at T q)

  abbrev one : Option Orb
  one = name_in (h.tickets q (orb_of m))

  abbrev found : Bool
  found = found_at q layer login step m

  abbrev b : Brought
  b = brought found step m.phase

  abbrev finds : Body → Bool
  finds = finds_label (wire_after t) 0 (suc i)

  abbrev own_finds : Body → Bool
  own_finds = finds_in q layer login

  abbrev write_of : List ℕ → NodeWrite
  write_of bytes = record { to = suc i; offset = fifo; payload = bytes }

  -- what the history has of the agent's ORB, where its step writes
  abbrev read_from : ℕ
  read_from = (agent_at (target_at start (behind_turn t)) q).machine.present

  pub record IsKnown : Type 0 where
    pub src : src_by (progress start (t.start ∷ t.past) q).next ≡ src_of a.machine.orb.next
    pub present : read_from ≡ a.machine.present

  abbrev pub Knows : Type 0
  Knows = (offset len : ℕ) → a.step.ask ≡ Write offset len → is_some (end_in t.rest) ≡ true → IsKnown

  -- ---- what is due
  abbrev its : StatusKind → End
  its kind = record { initiator = i; list = list_in one; number = number_in one; kind = kind }

  abbrev due : StatusKind → List NodeWrite
  due kind = served t (status_of start t (place_in (agent_event start t)) (its kind))

  address : (o : Option Orb) → named t.past i a.machine.present ≡ o → read_from ≡ a.machine.present → address_in t.past read_from i (list_in o) (number_in o) ≡ a.machine.present
  address None e p = p
  address (Some o) e p = h.stands a.machine.present o.list o.number e

  status_is : (kind : StatusKind) → has_present m.phase ≡ true → IsKnown → status_of start t q (its kind) ≡ write_of (status_bytes (block_of a.machine kind))
  status_is kind there k =
      let at = address_in t.past read_from i (list_in one) (number_in one) in
      ap (λ n. write_of (status_bytes (record { src = n; kind = kind; orb = at }))) k.src
      ∙ ap (λ n. write_of (status_bytes (record { src = src_of a.machine.orb.next; kind = kind; orb = n }))) (address one (named_alike start T t a step m login layer h there) k.present)

  due_is : (kind : StatusKind) (bytes : List ℕ) → has_present m.phase ≡ true → IsKnown → status_bytes (block_of a.machine kind) ≡ bytes → due kind ≡ cond (finds (block_write fifo bytes)) (write_of bytes ∷ []) []
  due_is kind bytes there k e =
      ap (λ p. served t (status_of start t p (its kind))) place ∙ (ap (served t) (status_is kind there k) ∙ ap (λ bs. cond (finds (block_write fifo bs)) (write_of bs ∷ []) []) e)

  -- ---- what is written
  abbrev Sent : List NodeWrite
  Sent = writes_to (suc i) t.rest

  abbrev first : List Outgoing
  first = requested_by q login layer step m

  abbrev lost : List Outgoing
  lost = let l = no_label m in requested_by q login layer l.0 l.1

  found_first : found ≡ true → Sent ≡ all_writes (suc i) first
  found_first e =
      let ahead = requested_ahead q login h.behind (agent_body step.ahead false login.fifo m.outgoing) in
      h.writes
      ∙ (ap (λ f. all_writes (suc i) (requests q login f layer h.behind step m)) e
      ∙ (both_writes (suc i) first ahead
      ∙ (ap (λ ws. all_writes (suc i) first ++ ws) (reads_write (suc i) ahead (ahead_reads q h.behind login step.ahead h.tame m.outgoing)) ∙ append-nil (all_writes (suc i) first))))

  lost_first : found ≡ false → first ≡ [] → Sent ≡ all_writes (suc i) lost
  lost_first e f =
      h.writes ∙ (ap (λ x. all_writes (suc i) (requests q login x layer h.behind step m)) e ∙ ap (λ ps. all_writes (suc i) (ps ++ lost)) f)

  -- its request
  module _ (body : Body) (asked : body_of step.ask m step.ended fifo ≡ Some body) where
    body_is : agent_body step.ask (is_some step.ended) login.fifo m.outgoing ≡ Some body
    body_is = own_is start T t a step m login layer h ∙ asked

    fit : FitsRequest body
    fit = of_own start T t a step m login layer h body asked

    own_found : own_finds body ≡ found
    own_found = ap (found_by own_finds) (sym body_is)

    law_found : finds body ≡ found
    law_found = sym (h.finds body fit) ∙ own_found

    none_first : found ≡ false → first ≡ []
    none_first e = ap (requested q login layer) body_is ∙ unsent q layer login body (own_found ∙ e)

  -- ---- the status of an ORB that the step ends
  module _ (kind : StatusKind) (e : step.ended ≡ Some kind) where
    k : IsEnd kind a.step a.machine
    k = of_end start T t a step m login layer h as_end kind e

    phase_status : m.phase ≡ status_phase step.dead
    phase_status = phase_is start T t a step m login layer h as_end kind e

    same : a.machine.outgoing ≡ m.outgoing
    same = h.alike.status (ap writes_status phase_status ∙ writes_it step.dead)

    status_asked : body_of step.ask m step.ended fifo ≡ Some (block_write fifo m.outgoing)
    status_asked =
        let request : step.ask ≡ Write 0 (length a.machine.outgoing) = ap (λ (s : AgentStep). s.ask) (sym h.step_is) ∙ k.request in
        ap (λ x. body_of x m step.ended fifo) request ∙ ap (λ x. body_of (Write 0 (length a.machine.outgoing)) m x fifo) e

    status_due : IsKnown → due kind ≡ cond found (write_of m.outgoing ∷ []) []
    status_due known =
        due_is kind m.outgoing (ap has_present phase_status ∙ presents_it step.dead) known (sym k.bytes ∙ same)
        ∙ ap (λ x. cond x (write_of m.outgoing ∷ []) []) (law_found (block_write fifo m.outgoing) status_asked)

    status_found : found ≡ true → IsKnown → Sent ≡ due kind
    status_found f known =
        let body = block_write fifo m.outgoing in
        found_first f
        ∙ (ap (λ x. all_writes (suc i) (requested q login layer x)) (body_is body status_asked)
        ∙ (write_sent (suc i) q layer login h.spells fifo m.outgoing (fit body status_asked)
        ∙ (ap (λ x. cond x (write_of m.outgoing ∷ []) []) (own_found body status_asked) ∙ sym (status_due known))))

    status_unsent : found ≡ false → IsKnown → Sent ≡ due kind
    status_unsent f known =
        let l = no_label m in
        let body = block_write fifo m.outgoing in
        lost_first f (none_first body status_asked f)
        ∙ (ap (λ ask. all_writes (suc i) (requested q login layer (agent_body ask (is_some l.0.ended) login.fifo l.1.outgoing))) (status_lost m step.dead phase_status)
        ∙ sym (status_due known ∙ ap (λ x. cond x (write_of m.outgoing ∷ []) []) f))

    status_sent : (x : Bool) → found ≡ x → IsKnown → Sent ≡ due kind
    status_sent true f known = status_found f known
    status_sent false f known = status_unsent f known

  -- ---- and of one that fails, as the request of the step finds no label
  module _ (kind : StatusKind) (e : step.ended ≡ None) (f : found ≡ false) (fails : fails_in m.phase ≡ Some kind) where
    abbrev bytes : List ℕ
    bytes = status_bytes (block_of m kind)

    abbrev body : Body
    body = block_write login.fifo bytes

    lost_is : (let l = no_label m in agent_body l.0.ask (is_some l.0.ended) login.fifo l.1.outgoing ≡ Some body)
    lost_is = lost_body m login.fifo kind fails

    lost_fit : FitsRequest body
    lost_fit = subst IfBody lost_is h.fits_lost

    lost_writes : all_writes (suc i) lost ≡ cond (finds body) (record { to = suc i; offset = login.fifo; payload = bytes } ∷ []) []
    lost_writes =
        ap (λ x. all_writes (suc i) (requested q login layer x)) lost_is
        ∙ (write_sent (suc i) q layer login h.spells login.fifo bytes lost_fit ∙ ap (λ x. cond x (record { to = suc i; offset = login.fifo; payload = bytes } ∷ []) []) (h.finds body lost_fit))

    -- of a read: no label is free
    read_lost : (offset len : ℕ) → step.ask ≡ Read offset len → Sent ≡ due kind
    read_lost offset len ask =
        let asked : body_of step.ask m step.ended fifo ≡ Some (block_read offset len) = ap (λ x. body_of x m step.ended fifo) ask in
        let read : finds (block_read offset len) ≡ false = law_found (block_read offset len) asked ∙ f in
        let w = status_of start t (place_in (agent_event start t)) (its kind) in
        lost_first f (none_first (block_read offset len) asked f)
        ∙ (lost_writes
        ∙ (ap (λ x. cond x (record { to = suc i; offset = login.fifo; payload = bytes } ∷ []) []) (none_found (wire_after t) 0 (suc i) offset len login.fifo bytes read)
        ∙ sym (ap (λ x. cond x (w ∷ []) []) (none_found (wire_after t) 0 (suc i) offset len w.offset w.payload read))))

    -- of a chunk: a label may serve the status
    write_lost : (offset len : ℕ) → step.ask ≡ Write offset len → IsKnown → Sent ≡ due kind
    write_lost offset len ask known =
        let asked : body_of step.ask m step.ended fifo ≡ Some (block_write offset m.outgoing) = ap (λ x. body_of x m step.ended fifo) ask ∙ ap (λ x. body_of (Write offset len) m x fifo) e in
        let there = failed_there kind m.phase fails in
        let up = listed m.phase there in
        let alike : status_bytes (block_of a.machine kind) ≡ bytes =
        ap (λ orb. status_bytes (block_of (record a.machine { orb = orb }) kind)) (h.alike.orb up) ∙ ap (λ n. status_bytes (record { src = src_of m.orb.next; kind = kind; orb = n })) (h.alike.present up) in
        lost_first f (none_first (block_write offset m.outgoing) asked f)
        ∙ (lost_writes
        ∙ (ap (λ n. cond (finds (block_write n bytes)) (record { to = suc i; offset = n; payload = bytes } ∷ []) []) (sym h.fifo)
        ∙ sym (due_is kind bytes there known alike)))

    none_asked : step.ask ≡ Nothing → Sent ≡ due kind
    none_asked ask =
        let sure : found ≡ true = ap (λ x. found_by own_finds (agent_body x (is_some step.ended) login.fifo m.outgoing)) ask in untrue (sym f ∙ sure)

    fail_sent : (ask : Ask) → step.ask ≡ ask → ((offset len : ℕ) → step.ask ≡ Write offset len → IsKnown) → Sent ≡ due kind
    fail_sent Nothing g known = none_asked g
    fail_sent (Read offset len) g known = read_lost offset len g
    fail_sent (Write offset len) g known = write_lost offset len g (known offset len g)

  -- ---- whichever end the turn tells
  module _ (knows : Knows) where
    module _ (kind : StatusKind) (e : b.ended ≡ Some kind) where
      tells : is_some (end_in t.rest) ≡ true
      tells = ap (λ (x : Option End). is_some x) (end_is start T t a step m login layer h as_end ∙ ap (end_of i one) e)

      known : (offset len : ℕ) → step.ask ≡ Write offset len → IsKnown
      known offset len g = knows offset len (ap (λ (s : AgentStep). s.ask) h.step_is ∙ g) tells

      by_status : step.ended ≡ Some kind → Sent ≡ due kind
      by_status g =
          let request = (k kind g).request in status_sent kind g found refl (knows 0 (length a.machine.outgoing) request tells)

      by_ended : found ≡ false → (x : Option StatusKind) → step.ended ≡ x → (brought_unsent step m.phase x).ended ≡ Some kind → Sent ≡ due kind
      by_ended f (Some other) g n = by_status (g ∙ n)
      by_ended f None g n = fail_sent kind g f n step.ask refl known

      by_found : (x : Bool) → found ≡ x → Sent ≡ due kind
      by_found true f = by_status (ap (λ y. (brought y step m.phase).ended) (sym f) ∙ e)
      by_found false f = by_ended f step.ended refl (ap (λ y. (brought y step m.phase).ended) (sym f) ∙ e)

    end_sent : (x : Option StatusKind) → b.ended ≡ x → end_writes t (end_of i one x) ≡ statuses_due start t (end_of i one x)
    end_sent None e = refl
    end_sent (Some kind) e = by_found kind e found refl

    pub statuses_sent : end_writes t (end_in t.rest) ≡ statuses_due start t (end_in t.rest)
    statuses_sent = subst (λ x. end_writes t x ≡ statuses_due start t x) (sym (end_is start T t a step m login layer h as_end)) (end_sent b.ended refl)
