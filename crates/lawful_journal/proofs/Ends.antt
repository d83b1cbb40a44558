-- What a turn has of deaths, ends and requests of the target: where its runs are the same and its chunks are told, they are the same.
use Rattle.std.proofs.Common.{◌≡◌, ◌∙◌, ℕ, suc, ◌&&◌, Bool, true, false, not, if◌then◌else◌, List, ◌++◌, ◌∷◌, Option, Some, None, refl, sym, ap}
use Rattle.rbc_disk.specs.Disk.{Disk}
use Rattle.label_table.specs.Bodies.{Body}
use Rattle.command_agent.specs.Machine as agent
use Rattle.command_agent.specs.declared.step.AgentStep.{AgentStep}
use Rattle.sbp_journal.specs.Run.{Moment}
use Rattle.sbp_journal.specs.declared.note.Note.{Note}
use Rattle.sbp_laws.specs.Agents.{AgentTurn, agent_outcomes, ahead_due, body_of, end_notes, fifo_in, finds_first, is_answer, is_untold_chunk, lacks_label_told, list_taken, requests_of, requests_to, tried, unsent, wire_after, wire_before}
use Rattle.sbp_laws.specs.Deaths.{ends_by}
use Rattle.sbp_laws.specs.Lists.{named}
use Rattle.sbp_laws.specs.Packets.{finds_label}
use Rattle.sbp_laws.specs.SentRequests.{agent_requests}
use Rattle.sbp_laws.specs.Targets.{Target, initiator_at, login_at}
use Rattle.sbp_laws.specs.Turns.{turn}
use Rattle.lawful_journal.specs.Telling.{DiesAsTold, LabelsAsTold, told_body}

-- two ways to find a label agree on a request, if there is one
abbrev AgreeOn : (finds other : Body → Bool) → Option Body → Type 0
AgreeOn finds other None = Unit {0}
AgreeOn finds other (Some body) = finds body ≡ other body

same_tried : (finds other behind : Body → Bool) (fifo : ℕ) (step : AgentStep) (machine : agent.Machine) (body : Option Body)
    → AgreeOn finds other body → tried finds behind fifo step machine body ≡ tried other behind fifo step machine body
same_tried finds other behind fifo step machine None agree = refl
same_tried finds other behind fifo step machine (Some body) agree =
    ap (λ found. if found then record { dead = step.dead; ended = step.ended; dead_behind = None; sent = Some body; machine = machine } else unsent behind fifo step machine step.ended) agree

module _ (chunk : List ℕ) (target : Target) (past : List Moment) (start : Moment) (rest other : List Note) (a : AgentTurn) where
  behind : Body → Bool
  behind = finds_label (wire_after (turn past start rest)) 0 (suc (initiator_at target (wire_before (turn past start rest)) a.place))

  agree_by : (untold : Bool) (body : Body) (lacks more : Bool) (finds : Body → Bool) (found : Bool) → (untold ≡ true → lacks ≡ not found) → (untold ≡ true → more ≡ not found)
      → (if untold then (λ b. not lacks) else finds) body ≡ (if untold then (λ b. not more) else finds) body
  agree_by true body lacks more finds found told also = ap not (told refl ∙ sym (also refl))
  agree_by false body lacks more finds found told also = refl

  agree : (body : Option Body) → DiesAsTold chunk target (turn past start rest) a body → DiesAsTold chunk target (turn past start other) a body
      → AgreeOn (finds_first target (turn past start rest) a) (finds_first target (turn past start other) a) body
  agree None told also = tt
  agree (Some body) told also =
      agree_by (is_untold_chunk a) body (lacks_label_told (turn past start rest)) (lacks_label_told (turn past start other))
      (finds_label (wire_after (turn past start rest)) 0 (suc (initiator_at target (wire_before (turn past start rest)) a.place)))
      (finds_label (wire_after (turn past start rest)) 0 (suc (initiator_at target (wire_before (turn past start rest)) a.place)) (told_body chunk body)) told also

  same_outcomes : LabelsAsTold chunk target (turn past start rest) (Some a) → LabelsAsTold chunk target (turn past start other) (Some a)
      → agent_outcomes target (turn past start rest) a ≡ agent_outcomes target (turn past start other) a
  same_outcomes told also =
      same_tried (finds_first target (turn past start rest) a) (finds_first target (turn past start other) a)
      (finds_label (wire_after (turn past start rest)) 0 (suc (initiator_at target (wire_before (turn past start rest)) a.place))) (fifo_in (login_at target a.place)) a.step a.machine
      (body_of a.step.ask a.machine a.step.ended (fifo_in (login_at target a.place)))
      (agree (body_of a.step.ask a.machine a.step.ended (fifo_in (login_at target a.place))) told also)

module _ (chunk : List ℕ) (target : Target) (past : List Moment) (start : Moment) (rest other : List Note) where
  same_ends_by : (disks : List Disk) (a : Option AgentTurn) → LabelsAsTold chunk target (turn past start rest) a → LabelsAsTold chunk target (turn past start other) a
      → ends_by disks target (turn past start rest) a ≡ ends_by disks target (turn past start other) a
  same_ends_by disks None told also = refl
  same_ends_by disks (Some a) told also =
      let i = initiator_at target (wire_before (turn past start rest)) a.place in
      ap (λ outcomes. end_notes i (list_taken disks (start ∷ past) a.place) (named past i a.machine.present) outcomes) (same_outcomes chunk target past start rest other a told also)

  pub same_agent_requests : (a : Option AgentTurn) → LabelsAsTold chunk target (turn past start rest) a → LabelsAsTold chunk target (turn past start other) a
      → agent_requests target (turn past start rest) a ≡ agent_requests target (turn past start other) a
  same_agent_requests None told also = refl
  same_agent_requests (Some a) told also =
      let node = suc (initiator_at target (wire_before (turn past start rest)) a.place) in
      ap (λ outcomes. requests_of node (a.untold && is_answer outcomes) outcomes.sent ++ requests_to node (ahead_due target (turn past start rest) a outcomes)) (same_outcomes chunk target past start rest other a told also)

pub same_ends : (disks : List Disk) (chunk : List ℕ) (target : Target) (past : List Moment) (start : Moment) (rest other : List Note) (a : Option AgentTurn)
    → LabelsAsTold chunk target (turn past start rest) a → LabelsAsTold chunk target (turn past start other) a → ends_by disks target (turn past start rest) a ≡ ends_by disks target (turn past start other) a
same_ends disks chunk target past start rest other a told also = same_ends_by chunk target past start rest other disks a told also
