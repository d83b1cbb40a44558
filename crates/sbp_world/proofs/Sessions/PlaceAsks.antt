-- An operation with a management ORB is asked for with the address of the place in which its ORB stands then.
use Rattle.sbp_world.proofs.Words.Std.{◌≡◌, ◌∙◌, refl, sym, ap, subst, ℕ, is_some, Bool, true, cond, List, [], ◌∷◌, ◌++◌, Option, Some, None}
use Rattle.sbp_world.proofs.Words.Wire.{Asked, Layer, Action, Outgoing, OutboxState, empty_outbox}
use Rattle.sbp_world.proofs.Words.Initiator.{held_after, with_orb, orb_in, ManagementOrb, management_bytes, IsAction, act_step, asked_as, asked_for, demand_of, demanded_as, done_step, facts_with, judged_as, manage_demand, orb_by, Demand, Purpose, InitiatorState, operation_of, refusal, place_of}
use Rattle.sbp_world.proofs.Words.World.{IsCalled, AskingLaw, AsksFor}
use Rattle.sbp_world.proofs.Hosts.Calling.{calls_law}
use Rattle.sbp_journal.specs.declared.event.Action.TheVariants as actions
use Rattle.sbp_world.proofs.Sessions.PlaceRuns.{acts_held}
use Rattle.sbp_world.proofs.Common.{untrue, same_number}

-- an action with a management ORB: that of its line, by one write, and it tells nothing
record Manages (action : Action) (s : InitiatorState) : Type 0 where
  orb : orb_in (operation_of action) action s ≡ Some (orb_by action s)
  demand : demand_of action s ≡ Some (manage_demand s)
  quiet : (u : InitiatorState) → (done_step action empty_outbox u).0 ≡ empty_outbox

manages : (action : Action) (s : InitiatorState) → is_some (orb_in (operation_of action) action s) ≡ true → Manages action s
unfolding done_step
manages (actions.Login unit reconnect exclusive password) s e = record { orb = refl; demand = refl; quiet = λ u. refl }
manages (actions.Query unit) s e = record { orb = refl; demand = refl; quiet = λ u. refl }
manages actions.Reconnect s e = record { orb = refl; demand = refl; quiet = λ u. refl }
manages actions.Logout s e = record { orb = refl; demand = refl; quiet = λ u. refl }
manages (actions.Abort orb) s e = record { orb = refl; demand = refl; quiet = λ u. refl }
manages actions.AbortSet s e = record { orb = refl; demand = refl; quiet = λ u. refl }
manages actions.UnitReset s e = record { orb = refl; demand = refl; quiet = λ u. refl }
manages actions.TargetReset s e = record { orb = refl; demand = refl; quiet = λ u. refl }
manages (actions.Put cmd) s e = untrue e
manages (actions.Append cmd) s e = untrue e
manages actions.Low s e = untrue e
manages actions.Link s e = untrue e
manages actions.Ring s e = untrue e
manages (actions.Dummy orb) s e = untrue e
manages actions.Rom s e = untrue e
manages actions.AgentReset s e = untrue e
manages actions.State s e = untrue e
manages actions.Enable s e = untrue e

-- its one packet
record Leaves (s : InitiatorState) (r : Option Asked × Layer Purpose) (packets : List Outgoing) : Type 0 where
  asked : Asked
  made : r.0 ≡ Some asked
  packets_are : packets ≡ record { to = s.target; label = Some asked.label; bytes = asked.bytes } ∷ []

module _ (action : Action) (s : InitiatorState) (m : Manages action s) where
  asked_leaves : (r : Option Asked × Layer Purpose) → (asked_as r action empty_outbox s).0 ≡ None → Leaves s r (asked_as r action empty_outbox s).1.0.packets
  asked_leaves (None, layer) e = absurd (let no : Some 10 ≡ None = e in cc)
  asked_leaves (Some asked, layer) e = record {
    asked = asked;
    made = refl;
    packets_are = ap (λ (o : OutboxState). o.packets ++ record { to = s.target; label = Some asked.label; bytes = asked.bytes } ∷ []) (m.quiet (record s { layer = layer }));
  }

  judged_leaves : (refused : Option ℕ) → (judged_as refused action empty_outbox s).0 ≡ None → Leaves s (asked_for (manage_demand s) s) (judged_as refused action empty_outbox s).1.0.packets
  judged_leaves (Some number) e = absurd (let no : Some number ≡ None = e in cc)
  judged_leaves None e =
      subst (λ (d : Option Demand). (demanded_as d action empty_outbox s).0 ≡ None → Leaves s (asked_for (manage_demand s) s) (demanded_as d action empty_outbox s).1.0.packets) (sym m.demand) (asked_leaves (asked_for (manage_demand s) s)) e

  act_leaves : (act_step action empty_outbox s).0 ≡ None → Leaves s (asked_for (manage_demand s) s) (act_step action empty_outbox s).1.0.packets
  unfolding act_step
  act_leaves e = judged_leaves (refusal action (facts_with true s action)) e

asks_for : (ready : Bool) (i : ℕ) (action : Action) (s : InitiatorState) → IsCalled ready i s → IsAction action → is_some (orb_in (operation_of action) action s) ≡ true → (act_step action empty_outbox s).0 ≡ None → AsksFor action s (act_step action empty_outbox s).1
asks_for ready i action s called fit has done =
    let m = manages action s has in
    let l = act_leaves action s m done in
    let place = place_of s.counts.managed in
    record {
      asked = l.asked;
      made = l.made;
      packets_are = l.packets_are;
      orb =
          acts_held ready i s called action fit done place
          ∙ ap (λ (o : Option ManagementOrb). with_orb o place (held_after i ready called.calls) place) m.orb
          ∙ ap (λ b. cond b (management_bytes (orb_by action s)) (held_after i ready called.calls place)) (same_number place);
    }

pub asking_law : AskingLaw
asking_law = record { actions = λ run r i b action fit has done. asks_for run.ready i action _ (calls_law run r i b) fit has done }
