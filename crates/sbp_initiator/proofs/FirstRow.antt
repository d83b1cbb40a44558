-- A refused action changes nothing, and has the number of the first row that holds.
use Rattle.std.proofs.Common.{◌≡◌, refl, sym, ap, ◌∙◌, ℕ, ◌&&◌, not, is_some, Bool, true, false, if◌then◌else◌, List, [], ◌∷◌, ◌++◌, Option, Some, None}
use Rattle.std.specs.Option.{IfNone}
use Rattle.label_table.specs.declared.judgement.Asked.{Asked}
use Rattle.label_table.specs.Layer.{Layer}
use Rattle.sbp_journal.specs.declared.event.Action.{Action}
use Rattle.sbp_journal.specs.declared.event.Action.TheVariants as actions
use Rattle.sbp_journal.specs.Outgoings.{OutboxState}
use Rattle.sbp_journal.specs.Rows.{first_row}
use Rattle.sbp_initiator.specs.declared.purpose.Purpose.{Purpose}
use Rattle.sbp_initiator.specs.declared.purpose.Demand.{Demand}
use Rattle.sbp_initiator.specs.declared.state.InitiatorState.{InitiatorState}
use Rattle.sbp_initiator.specs.Refusals.{ActionFacts, lacks_link, lacks_orb, refusal, rows_of, sends}
use Rattle.sbp_initiator.specs.States.{wanted_body}
use Rattle.sbp_initiator.specs.Acting.{act_step, asked_as, asked_for, demand_of, demanded_as, facts_with, judged_as}
use Rattle.sbp_initiator.specs.Refusing.{finds_for, finds_label, RefusalLaw}
use Rattle.sbp_initiator.proofs.Asked.{asking}

-- the last of some rows, and those before it
abbrev or_last : Option ℕ → Bool → ℕ → Option ℕ
or_last (Some number) last n = Some number
or_last None last n = if last then Some n else None

last_row : (rows : List (Bool × ℕ)) (last : Bool) (n : ℕ) → first_row (rows ++ (last, n) ∷ []) ≡ or_last (first_row rows) last n
last_row [] last n = refl
last_row ((true, number) ∷ rows) last n = refl
last_row ((false, number) ∷ rows) last n = last_row rows last n

-- the rows before the last one, by what is said of links and ORBs
abbrev front_with : Action → ActionFacts → Bool → Bool → List (Bool × ℕ)
front_with action facts link orb =
    ((rows_of action facts).stuck, 1) ∷ ((rows_of action facts).wrong_state, 2) ∷ ((rows_of action facts).no_rom, 3)
    ∷ ((rows_of action facts).waiting, 4) ∷ ((rows_of action facts).mid_link, 5) ∷ (link, 6)
    ∷ ((rows_of action facts).dead_seen, 7) ∷ (orb, 8) ∷ ((rows_of action facts).no_slot, 9) ∷ []

abbrev front : Action → ActionFacts → List (Bool × ℕ)
front action facts = front_with action facts (lacks_link action facts) (lacks_orb action facts)

-- neither asks whether there is a label
link_same : (action : Action) (s : InitiatorState) (label : Bool) → lacks_link action (facts_with label s action) ≡ lacks_link action (facts_with true s action)
link_same actions.Low s label = refl
link_same actions.Link s label = refl
link_same _ s label = refl

orb_same : (action : Action) (s : InitiatorState) (label : Bool) → lacks_orb action (facts_with label s action) ≡ lacks_orb action (facts_with true s action)
orb_same actions.Ring s label = refl
orb_same (actions.Abort orb) s label = refl
orb_same (actions.Dummy orb) s label = refl
orb_same _ s label = refl

by_front : (action : Action) (label : Bool) (s : InitiatorState) → refusal action (facts_with label s action) ≡ or_last (first_row (front action (facts_with true s action))) (sends action && not label) 10
unfolding refusal
by_front action label s =
    last_row (front action (facts_with label s action)) (sends action && not label) 10
    ∙ ap (λ (link : Bool). or_last (first_row (front_with action (facts_with true s action) link (lacks_orb action (facts_with label s action)))) (sends action && not label) 10) (link_same action s label)
    ∙ ap (λ (orb : Bool). or_last (first_row (front_with action (facts_with true s action) (lacks_link action (facts_with true s action)) orb)) (sends action && not label) 10) (orb_same action s label)

some_not_none : {A : Type 0} {x : A} → Some x ≡ None → ⊥
some_not_none e = cc

-- an action that sends nothing asks for nothing
asks_none : (action : Action) (s : InitiatorState) → demand_of action s ≡ None → sends action ≡ false
asks_none (actions.Put cmd) s e = refl
asks_none actions.Low s e = refl
asks_none actions.Link s e = refl
asks_none (actions.Dummy orb) s e = refl
asks_none actions.Rom s e = absurd (some_not_none e)
asks_none (actions.Login unit reconnect exclusive password) s e = absurd (some_not_none e)
asks_none (actions.Query unit) s e = absurd (some_not_none e)
asks_none actions.Reconnect s e = absurd (some_not_none e)
asks_none actions.Logout s e = absurd (some_not_none e)
asks_none (actions.Abort orb) s e = absurd (some_not_none e)
asks_none actions.AbortSet s e = absurd (some_not_none e)
asks_none actions.UnitReset s e = absurd (some_not_none e)
asks_none actions.TargetReset s e = absurd (some_not_none e)
asks_none actions.AgentReset s e = absurd (some_not_none e)
asks_none actions.State s e = absurd (some_not_none e)
asks_none (actions.Append cmd) s e = absurd (some_not_none e)
asks_none actions.Ring s e = absurd (some_not_none e)
asks_none actions.Enable s e = absurd (some_not_none e)

asks_some : (action : Action) (s : InitiatorState) (demand : Demand) → demand_of action s ≡ Some demand → sends action ≡ true
asks_some (actions.Put cmd) s demand e = cc
asks_some actions.Low s demand e = cc
asks_some actions.Link s demand e = cc
asks_some (actions.Dummy orb) s demand e = cc
asks_some actions.Rom s demand e = refl
asks_some (actions.Login unit reconnect exclusive password) s demand e = refl
asks_some (actions.Query unit) s demand e = refl
asks_some actions.Reconnect s demand e = refl
asks_some actions.Logout s demand e = refl
asks_some (actions.Abort orb) s demand e = refl
asks_some actions.AbortSet s demand e = refl
asks_some actions.UnitReset s demand e = refl
asks_some actions.TargetReset s demand e = refl
asks_some actions.AgentReset s demand e = refl
asks_some actions.State s demand e = refl
asks_some (actions.Append cmd) s demand e = refl
asks_some actions.Ring s demand e = refl
asks_some actions.Enable s demand e = refl

-- what an action that is not refused by the rows before the last one answers
asked_number : (r : Option Asked × Layer Purpose) (action : Action) (o : OutboxState) (s : InitiatorState) → (asked_as r action o s).0 ≡ (if not (is_some r.0) then Some 10 else None)
asked_number (None, layer) action o s = refl
asked_number (Some asked, layer) action o s = refl

demanded_number : (d : Option Demand) (action : Action) (o : OutboxState) (s : InitiatorState) → demand_of action s ≡ d → (demanded_as d action o s).0 ≡ or_last None (sends action && not (finds_for d s)) 10
demanded_number None action o s e = rw (asks_none action s e) refl
demanded_number (Some demand) action o s e = rw (asks_some action s demand e) (asked_number (asked_for demand s) action o s)

judged_number : (r : Option ℕ) (action : Action) (o : OutboxState) (s : InitiatorState) → (judged_as r action o s).0 ≡ or_last r (sends action && not (finds_label action s)) 10
judged_number (Some number) action o s = refl
judged_number None action o s = demanded_number (demand_of action s) action o s refl

-- the rows before the last one alone: with a label the last one does not hold
alone : (r : Option ℕ) (b : Bool) → or_last r (b && not true) 10 ≡ r
alone (Some number) b = refl
alone None true = refl
alone None false = refl

front_alone : (action : Action) (s : InitiatorState) → refusal action (facts_with true s action) ≡ first_row (front action (facts_with true s action))
front_alone action s = by_front action true s ∙ alone (first_row (front action (facts_with true s action))) (sends action)

first_number : (action : Action) (o : OutboxState) (s : InitiatorState) → (act_step action o s).0 ≡ refusal action (facts_with (finds_label action s) s action)
unfolding act_step
first_number action o s =
    judged_number (refusal action (facts_with true s action)) action o s
    ∙ ap (λ (r : Option ℕ). or_last r (sends action && not (finds_label action s)) 10) (front_alone action s)
    ∙ sym (by_front action (finds_label action s) s)

-- what is refused changes nothing
asked_same : (r : Option Asked × Layer Purpose) (action : Action) (o : OutboxState) (s : InitiatorState) (number : ℕ) → IfNone r.0 (r.1 ≡ s.layer) → (asked_as r action o s).0 ≡ Some number → (asked_as r action o s).1 ≡ (o, s)
asked_same (None, layer) action o s number h e = ap (λ (l : Layer Purpose). (o, record s { layer = l })) h
asked_same (Some asked, layer) action o s number h e = cc

demanded_same : (d : Option Demand) (action : Action) (o : OutboxState) (s : InitiatorState) (number : ℕ) → (demanded_as d action o s).0 ≡ Some number → (demanded_as d action o s).1 ≡ (o, s)
demanded_same None action o s number e = cc
demanded_same (Some demand) action o s number e =
    asked_same (asked_for demand s) action o s number (asking s.layer s.target (wanted_body demand.wanted) demand.purpose) e

judged_same : (r : Option ℕ) (action : Action) (o : OutboxState) (s : InitiatorState) (number : ℕ) → (judged_as r action o s).0 ≡ Some number → (judged_as r action o s).1 ≡ (o, s)
judged_same (Some number) action o s n e = refl
judged_same None action o s number e = demanded_same (demand_of action s) action o s number e

same_state : (action : Action) (o : OutboxState) (s : InitiatorState) (number : ℕ) → (act_step action o s).0 ≡ Some number → (act_step action o s).1 ≡ (o, s)
unfolding act_step
same_state action o s number e = judged_same (refusal action (facts_with true s action)) action o s number e

pub refusal_law : RefusalLaw
refusal_law = record { unchanged = same_state; first = first_number }
