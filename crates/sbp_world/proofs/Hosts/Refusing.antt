-- The actions of every run.
use Rattle.sbp_world.proofs.Words.Std.{◌≡◌, sym, subst, ℕ, List, ◌++◌, Bool, None}
use Rattle.sbp_world.proofs.Words.Wire.{OutboxState, Moment, Action}
use Rattle.sbp_world.proofs.Words.Initiator.{InitiatorState, act_step, facts_with, rows_of, own}
use Rattle.sbp_world.proofs.Words.Laws.{action_notes, refusals, Host}
use Rattle.sbp_world.proofs.Words.World.{history_of, HasRows, AreRows, RunActionLaw, IsHost}
use Rattle.sbp_world.specs.Hosts.Refusing.{initiator_of}
use Rattle.sbp_world.proofs.Hosts.Runs.{run_law}
use Rattle.sbp_world.proofs.Hosts.Telling.{action_law}

module _ (past : List Moment) (i : ℕ) (s : InitiatorState) (h : IsHost past i s) (action : Action) where
  own_rows : AreRows past s.number s.lists.slots
  own_rows = subst (λ j. AreRows past j s.lists.slots) (sym h.number) h.rows

  rows_here : (host : Host) (has_label : Bool) → HasRows (refusals past i action host) (rows_of action (facts_with has_label s action))
  rows_here host has_label =
      subst (λ j. HasRows (refusals past j action host) (rows_of action (facts_with has_label s action))) h.number
      (action_law.rows past s action host has_label own_rows)

  notes_here : (o : OutboxState) → (act_step action o s).0 ≡ None → (act_step action o s).1.0.sides ≡ o.sides ++ own (action_notes action past i)
  notes_here o e =
      subst (λ j. (act_step action o s).1.0.sides ≡ o.sides ++ own (action_notes action past j)) h.number (action_law.notes past s action o own_rows e)

pub run_action_law : RunActionLaw
run_action_law = record {
  rows = λ line run r i b action host has_label. rows_here (history_of line run) i (initiator_of run i) (run_law.rows line run r i b) action host has_label;
  notes = λ line run r i b action o e. notes_here (history_of line run) i (initiator_of run i) (run_law.rows line run r i b) action o e;
}
