-- What an initiator's action tells and why it is refused, by the run terms (NCITS 325-1998, lists of ORBs): an action that is done tells the notes
-- that the run asks for, and the rows of its refusal that read the lists are those of the run.
use Rattle.std.specs.Prelude.{◌≡◌, Bool, List, ◌++◌, None}
use Rattle.sbp_journal.specs.Run.{Moment}
use Rattle.sbp_journal.specs.Rows.{Refusals}
use Rattle.sbp_journal.specs.Outgoings.{OutboxState}
use Rattle.sbp_journal.specs.declared.event.Action.{Action}
use Rattle.sbp_initiator.specs.declared.state.InitiatorState.{InitiatorState}
use Rattle.sbp_initiator.specs.Acting.{act_step, facts_with}
use Rattle.sbp_initiator.specs.Refusals.{rows_of}
use Rattle.sbp_laws.specs.Actions.{action_notes, refusals}
use Rattle.sbp_laws.specs.Hosts.{Host}
use Rattle.sbp_initiator.specs.Histories.Ends.{own}
use Rattle.sbp_world.specs.Hosts.Fits.{AreRows}

-- the rows of a refusal that read the links, the ORBs and the slots
pub record HasRows (run own : Refusals) : Type 0 where
  pub mid_link : run.mid_link ≡ own.mid_link
  pub not_linking : run.not_linking ≡ own.not_linking
  pub no_orb : run.no_orb ≡ own.no_orb
  pub no_slot : run.no_slot ≡ own.no_slot

pub record ActionLaw : Type 0 where
  pub rows : (past : List Moment) (s : InitiatorState) (action : Action) (host : Host) (has_label : Bool) → AreRows past s.number s.lists.slots → HasRows (refusals past s.number action host) (rows_of action (facts_with has_label s action))
  pub notes : (past : List Moment) (s : InitiatorState) (action : Action) (o : OutboxState) → AreRows past s.number s.lists.slots → (act_step action o s).0 ≡ None → (act_step action o s).1.0.sides ≡ o.sides ++ own (action_notes action past s.number)
