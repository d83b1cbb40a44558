-- In each delivery to the target an operation under way goes on, or is over as the write of its status block was answered, at each place of every run in which nobody injected packets, where nothing was lost and few requests
-- of lists that were cut are under way: what the operation waits for is whole, and what it asks for finds a label.
use Rattle.sbp_world.proofs.Words.Std.{◌≡◌, ◌∙◌, refl, sym, ap, subst, List, ◌∷◌, ◌++◌, map, Some}
use Rattle.sbp_world.proofs.Words.Wire.{Moment, Sent, asked, said}
use Rattle.sbp_world.proofs.Words.Target.{Disk, NodeState, Operation, answer_in}
use Rattle.sbp_world.proofs.Words.World.{AreHeldAt, IsFor, WorldState, after, after_all, beginning, begun, history_of, more_deliveries}
use Rattle.mgmt_agent.specs.Machine.{Machine}
use Rattle.sbp_world.specs.Completing.Ends.{GoOnLaw, LeavesManager, OperationsGoOn, replies, starts, stays}
use Rattle.sbp_world.specs.Completing.Managed.{AreManagedGiven, ManagedFinds}
use Rattle.sbp_world.specs.Completing.OperationsReplies.{TakesOn, goes_on}
use Rattle.sbp_world.proofs.Agents.Holders.{holders_between_law, holders_law}
use Rattle.sbp_world.proofs.Common.{none_is}
use Rattle.sbp_world.proofs.Completing.EndsHandled.{deliveries_handle}
use Rattle.sbp_world.proofs.Completing.EndsRuns.{AllFind, goes_on_at}
use Rattle.sbp_world.proofs.Completing.LabelsFound.{found_law}
use Rattle.sbp_world.proofs.Completing.LabelsPlaces.{IsHolding, holding_everywhere}
use Rattle.sbp_world.proofs.Completing.OperationsReplies.{whole_replies_law}
use Rattle.sbp_world.proofs.Lists.Courses.{more_than_one}

-- ---- a place
module _ (w : WorldState) (given : AreManagedGiven w) (sent : Sent) (f : IsFor w sent) (op : Operation) (is : w.target.manager.operation ≡ Some op) where
  on_by : (now : NodeState) → LeavesManager sent.generation sent.bytes w.target now → TakesOn op now.manager.operation
  on_by now (stays e) = goes_on op (ap (λ (m : Machine). m.operation) e ∙ is) refl refl
  on_by now (starts p orb found heard asks idle e) = none_is op (sym idle ∙ is)
  on_by now (replies p label own found there e) =
      let whole = given sent p (record { comes = f; label = label; found = found }) op is in
      subst (TakesOn op) (sym (ap (λ (m : Machine). m.operation) e)) (whole_replies_law w.target.manager w.target.logins w.target.keys op (answer_in p) is whole).operation

place_goes : (start : List Disk) (now : List Moment) (w : WorldState) → IsHolding start now w → AreHeldAt start now w → AllFind now w → AreManagedGiven w → ManagedFinds w → OperationsGoOn w
place_goes start now w h held finds given asked_so sent f run disks op is =
    on_by w given sent f op is _ (deliveries_handle run sent.generation sent.bytes w.target disks (goes_on_at start now w h held finds given asked_so sent f)).leaves

-- ---- each place of a run
pub go_on_law : GoOnLaw
go_on_law all_given all_find = record {
  after_lines = λ line run r has small size tame l few.
      place_goes run.start.disks (history_of line run) (after (beginning run) run.entries).world (holding_everywhere.after_lines line run r has small size)
      (holders_law line run r.few has small size r.short r.entries r.lines) (λ i b. found_law.after_lines line run r has small size tame l i b (few i b))
      (all_given.after_lines line run r has small size tame l few) (all_find.after_lines line run r has small size tame l few);
  between = λ line run r has small size next most told m tame l few.
      let w = (after_all told (begun (after (beginning run) run.entries))).world in
      place_goes run.start.disks (map said w.fresh ++ asked next (more_deliveries most) ∷ history_of line run) w (holding_everywhere.between line run r has small size next most told m)
      (holders_between_law line run r.few has small size r.short r.entries r.lines next (more_deliveries most) (more_than_one most) told m) (λ i b. found_law.between line run r has small size next most told m tame l i b (few i b))
      (all_given.between line run r has small size next most told m tame l few) (all_find.between line run r has small size next most told m tame l few);
}
