-- Of a chunk of an answer that its medium did not tell there are bytes, as many, whose write finds no label where the turn tells that it found none: those that the target had.
use Rattle.std.proofs.Common.{◌≡◌, ◌∙◌, refl, sym, ap, subst, ℕ, suc, ◌&&◌, not, Bool, true, false, List, ◌∷◌, Option, Some, None}
use Rattle.std.proofs.lemmas.Bool.{and_parts}
use Rattle.label_table.specs.Bodies.{Body}
use Rattle.label_table.specs.Layer.{Layer}
use Rattle.login_table.specs.declared.login.Login.{Login}
use Rattle.orb_layout.specs.declared.ask.Ask.{Ask}
use Rattle.orb_layout.specs.declared.ask.Ask.TheVariants.{Nothing, Read, Write}
use Rattle.orb_layout.specs.declared.ask.FailCause.{FailCause}
use Rattle.orb_layout.specs.declared.status.StatusKind.{StatusKind}
use Rattle.command_agent.specs.Machine.{Machine}
use Rattle.command_agent.specs.Steps.{quiet}
use Rattle.command_agent.specs.declared.phase.Phase.{Phase}
use Rattle.command_agent.specs.declared.phase.Phase.TheVariants as phases
use Rattle.command_agent.specs.declared.step.AgentStep.{AgentStep}
use Rattle.rbc_disk.specs.Disk.{Disk}
use Rattle.sbp_journal.specs.Wire.{Terms}
use Rattle.sbp_laws.specs.Agents.{AgentTurn, body_of, fifo_in, is_answering, is_untold_chunk, lacks_label_told, list_taken, target_before, wire_after, wire_before}
use Rattle.sbp_laws.specs.Deaths.{DiesUnserved, UnservedBody}
use Rattle.sbp_laws.specs.Packets.{finds_label}
use Rattle.sbp_laws.specs.Targets.{Target, initiator_at, login_at}
use Rattle.sbp_laws.specs.Turns.{Turn, Where}
use Rattle.sbp_target.specs.declared.purpose.Purpose.{Purpose}
use Rattle.sbp_target.specs.Telling.{orb_of}
use Rattle.sbp_world.specs.Hosts.Rows.{name_in}
use Rattle.turn_laws.specs.Unserved.{UnservedLaw, UnservedWhereTold}
use Rattle.turn_laws.proofs.AgentDue.{IsTurnOf, TellsEnds, TellsFor, found_is, has_rest, has_steps, law_found, told_is, turn_in}
use Rattle.turn_laws.proofs.AgentEnds.{found_at}
use Rattle.turn_laws.proofs.EachTurns.{brought_law}
use Rattle.turn_laws.proofs.EndFound.{untold_found}
use Rattle.turn_laws.proofs.EndSizes.{IsSizedBy}
use Rattle.turn_laws.proofs.EndTries.{IsShaped, found_by}
use Rattle.turn_laws.proofs.Ends.{tells_law}
use Rattle.turn_laws.proofs.StepLabels.{finds_in}

-- an ORB that ends writes its status
ends_no_chunk : (kind : StatusKind) (dead : Option FailCause) (phase : Phase) → IsShaped (Some kind) dead phase → is_answering phase ≡ true → ⊥
ends_no_chunk kind dead phases.Answering h e = h
ends_no_chunk kind dead phases.Reset h e = h
ends_no_chunk kind dead phases.Fetching h e = h
ends_no_chunk kind dead phases.ReadingTable h e = h
ends_no_chunk kind dead (phases.ReadingData wanted) h e = h
ends_no_chunk kind dead phases.WritingStatus h e = let no : false ≡ true = e in cc
ends_no_chunk kind dead phases.ReadingNext h e = h
ends_no_chunk kind dead phases.WritingLastStatus h e = let no : false ≡ true = e in cc
ends_no_chunk kind dead phases.Suspended h e = h
ends_no_chunk kind dead phases.Dead h e = h

module _ (start : List Disk) (T : Target) (t : Turn) (a : AgentTurn) (step : AgentStep) (m : Machine) (login : Login) (layer : Layer Purpose) (h : IsTurnOf start T t a step m login layer) where
  abbrev i : ℕ
  i = initiator_at T (wire_before t) a.place

  abbrev wire : Terms
  wire = wire_after t

  abbrev fifo : ℕ
  fifo = fifo_in (login_at T a.place)

  abbrev finds : Body → Bool
  finds = finds_label wire 0 (suc i)

  abbrev told_so : Body → Bool
  told_so body = not (lacks_label_told t)

  module _ (chunk : is_answering m.phase ≡ true) (lacks : lacks_label_told t ≡ true) where
    -- the search of the target's own request
    own_search : found_by finds (body_of step.ask m step.ended fifo) ≡ found_by told_so (body_of step.ask a.machine step.ended fifo)
    own_search =
        law_found start T t a step m login layer h
        ∙ (sym (untold_found T t a step m h.step_is h.alike h.shaped (found_at a.place layer login step m) (list_taken start (t.start ∷ t.past) a.place) (name_in (h.tickets a.place (orb_of m))) (told_is start T t a step m login layer h) (finds_in a.place layer login) (found_is start T t a step m login layer h) chunk)
        ∙ ap (λ (s : AgentStep). found_by told_so (body_of s.ask a.machine s.ended fifo)) h.step_is)

    law_size : IsSizedBy step.ended step.ask a.machine.outgoing
    law_size = subst (λ (s : AgentStep). IsSizedBy s.ended s.ask a.machine.outgoing) h.step_is h.law_sized

    abbrev FindsAsTold : Option StatusKind → Ask → Type 0
    FindsAsTold ended ask = found_by finds (body_of ask m ended fifo) ≡ found_by told_so (body_of ask a.machine ended fifo)

    by_ask : (ended : Option StatusKind) (ask : Ask) → IsShaped ended step.dead m.phase → IsSizedBy ended ask a.machine.outgoing → IsSizedBy ended ask m.outgoing → FindsAsTold ended ask
        → UnservedBody wire (suc i) (body_of ask a.machine ended 0)
    by_ask ended Nothing shaped law own search = tt
    by_ask ended (Read offset len) shaped law own search = tt
    by_ask (Some kind) (Write offset len) shaped law own search = absurd (ends_no_chunk kind step.dead m.phase shaped chunk)
    by_ask None (Write offset len) shaped law own search = record { payload = m.outgoing; size = own ∙ sym law; finds = search ∙ ap not lacks }

    unserved_body : UnservedBody wire (suc i) (body_of a.step.ask a.machine a.step.ended 0)
    unserved_body =
        subst (λ (s : AgentStep). UnservedBody wire (suc i) (body_of s.ask a.machine s.ended 0)) (sym h.step_is)
        (by_ask step.ended step.ask h.shaped.0 law_size h.sized own_search)

  unserved_by : (b : Bool) → (is_untold_chunk a && lacks_label_told t) ≡ b → Where b (UnservedBody wire (suc i) (body_of a.step.ask a.machine a.step.ended 0))
  unserved_by false e = tt
  unserved_by true e =
      let two = and_parts (is_untold_chunk a) (lacks_label_told t) e in
      unserved_body (ap is_answering (sym h.alike.phase) ∙ (and_parts a.untold (is_answering a.machine.phase) two.0).1) two.1

-- one that does nothing writes nothing
resting : (wire : Terms) (node : ℕ) (a : AgentTurn) (step : AgentStep) → UnservedBody wire node (body_of step.ask a.machine step.ended 0) → a.step ≡ step → UnservedBody wire node (body_of a.step.ask a.machine a.step.ended 0)
resting wire node a step h e = subst (λ (s : AgentStep). UnservedBody wire node (body_of s.ask a.machine s.ended 0)) (sym e) h

pub where_holds : (b : Bool) (A : Type 0) → A → Where b A
where_holds true A h = h
where_holds false A h = tt

unserved_for : (start : List Disk) (T : Target) (t : Turn) (x : Option AgentTurn) → TellsFor start T t x → DiesUnserved T t x
unserved_for start T t None h = tt
unserved_for start T t (Some a) (has_steps step m login layer h) = unserved_by start T t a step m login layer h (is_untold_chunk a && lacks_label_told t) refl
unserved_for start T t (Some a) (has_rest e none alone) =
    where_holds (is_untold_chunk a && lacks_label_told t) (UnservedBody (wire_after t) (suc (initiator_at T (wire_before t) a.place)) (body_of a.step.ask a.machine a.step.ended 0)) (resting (wire_after t) (suc (initiator_at T (wire_before t) a.place)) a quiet tt e)

unserved_told : (start : List Disk) (t : Turn) → TellsEnds start t → UnservedWhereTold start t
unserved_told start t h = unserved_for start (target_before start t) t (turn_in start t) h

pub unserved_law : UnservedLaw
unserved_law = brought_law TellsEnds UnservedWhereTold unserved_told tells_law
