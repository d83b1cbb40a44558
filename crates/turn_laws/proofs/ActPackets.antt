-- The packets of an action of an initiator that is done: the one request that it asks for, or none.
use Rattle.std.proofs.Common.{◌≡◌, ◌∙◌, refl, sym, ap, ℕ, true, List, [], ◌∷◌, ◌++◌, Option, Some, None}
use Rattle.label_table.specs.Layer.{Layer}
use Rattle.label_table.specs.declared.judgement.Asked.{Asked}
use Rattle.sbp_initiator.proofs.FirstRow.{refusal_law}
use Rattle.sbp_initiator.specs.Acting.{act_step, asked_as, asked_for, demand_of, demanded_as, facts_with, judged_as}
use Rattle.sbp_initiator.specs.Refusals.{refusal, rows_of}
use Rattle.sbp_initiator.specs.Refusing.{finds_label}
use Rattle.sbp_initiator.specs.declared.purpose.Demand.{Demand}
use Rattle.sbp_initiator.specs.declared.purpose.Purpose.{Purpose}
use Rattle.sbp_initiator.specs.declared.state.InitiatorState.{InitiatorState}
use Rattle.sbp_journal.specs.Outgoings.{empty_outbox}
use Rattle.sbp_journal.specs.declared.event.Action.{Action}
use Rattle.sbp_journal.specs.declared.outbox.Outgoing.{Outgoing}
use Rattle.sbp_world.proofs.Common.{some_none}
use Rattle.sbp_world.proofs.Hosts.Acts.{NoRow, no_row}
use Rattle.sbp_world.proofs.Hosts.Requested.{done_sends}

module _ (action : Action) (s : InitiatorState) where
  pub record MadeBy (demand : Demand) (packets : List Outgoing) : Type 0 where
    pub asked : Asked
    pub found : (asked_for demand s).0 ≡ Some asked
    pub are : packets ≡ record { to = s.target; label = Some asked.label; bytes = asked.bytes } ∷ []

  abbrev pub Made : Option Demand → List Outgoing → Type 0
  Made None packets = packets ≡ []
  Made (Some demand) packets = MadeBy demand packets

  asked_made : (demand : Demand) (r : Option Asked × Layer Purpose) → asked_for demand s ≡ r → (asked_as r action empty_outbox s).0 ≡ None → MadeBy demand (asked_as r action empty_outbox s).1.0.packets
  asked_made demand (None, layer) f e = some_none 10 e
  asked_made demand (Some one, layer) f e = record {
    asked = one;
    found = ap (λ (x : Option Asked × Layer Purpose). x.0) f;
    are = ap (λ (ps : List Outgoing). ps ++ record { to = s.target; label = Some one.label; bytes = one.bytes } ∷ []) (done_sends action empty_outbox (record s { layer = layer }));
  }

  demanded_made : (demand : Option Demand) → (demanded_as demand action empty_outbox s).0 ≡ None → Made demand (demanded_as demand action empty_outbox s).1.0.packets
  demanded_made None e = done_sends action empty_outbox s
  demanded_made (Some demand) e = asked_made demand (asked_for demand s) refl e

  judged_made : (number : Option ℕ) → (judged_as number action empty_outbox s).0 ≡ None → Made (demand_of action s) (judged_as number action empty_outbox s).1.0.packets
  judged_made (Some number) e = some_none number e
  judged_made None e = demanded_made (demand_of action s) e

  pub act_made : (act_step action empty_outbox s).0 ≡ None → Made (demand_of action s) (act_step action empty_outbox s).1.0.packets
  unfolding act_step
  act_made e = judged_made (refusal action (facts_with true s action)) e

  pub goes_through : (act_step action empty_outbox s).0 ≡ None → NoRow (rows_of action (facts_with (finds_label action s) s action))
  unfolding refusal
  goes_through e = no_row (rows_of action (facts_with (finds_label action s) s action)) (sym (refusal_law.first action empty_outbox s) ∙ e)
