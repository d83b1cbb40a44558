-- Every run in which no initiator injected a packet is lawful: its laws of moments, of lists, of turns and of lines are those of Lawful.
use Rattle.std.proofs.Common.{◌≡◌, sym, subst, inl, ℕ, ◌<◌, ◌≤◌, List, [], length, Bool}
use Rattle.std.specs.List.{AllByRecursion}
use Rattle.rbc_disk.specs.Disk.{Disk}
use Rattle.sbp_journal.specs.Run.{Moment, history}
use Rattle.sbp_laws.specs.ActionLaw.{ActionLaw}
use Rattle.sbp_laws.specs.Aborts.{AbortsStand}
use Rattle.sbp_laws.specs.CauseLaw.{HasCauses}
use Rattle.sbp_laws.specs.Decided.{DecisionStands}
use Rattle.sbp_laws.specs.Lawful.{AreLawful, FormAt, Lawful, injectors, nobody}
use Rattle.sbp_laws.specs.OnTheBus.{LawfulOnTheBus}
use Rattle.sbp_laws.specs.OnceLaw.{OnceLaw}
use Rattle.sbp_laws.specs.Turns.{EachMoment, EachTurn, Turn}
use Rattle.sbp_laws.proofs.EachTurns.{with_turns}
use Rattle.sbp_world.specs.Forms.{AreTyped}
use Rattle.sbp_world.specs.Histories.{history_of}
use Rattle.sbp_world.specs.Hosts.Runs.{IsRun}
use Rattle.sbp_world.specs.Lists.ListLaws.{HasListLaws}
use Rattle.sbp_world.specs.Lists.OwnLogins.{IsTame}
use Rattle.sbp_world.specs.Lists.FewLogins.{IsTameOrFew}
use Rattle.sbp_world.specs.Runs.{Run}
use Rattle.sbp_world.specs.Wire.Journal.{journal_run}
use Rattle.sbp_world.proofs.Hosts.Statuses.Finished.{finished_law, once_taken_law}
use Rattle.sbp_world.proofs.Lists.ListLaws.{list_laws}
use Rattle.sbp_world.proofs.Wire.Entries.{bus_law}
use Rattle.sbp_world.proofs.Wire.Runs.{all_runs}
use Rattle.sbp_world.proofs.Wire.Typed.{lawful_where_typed}
use Rattle.turn_laws.specs.Cleared.{ClearsWhereDue}
use Rattle.turn_laws.specs.Codes.{EndsWithCodes}
use Rattle.turn_laws.specs.Cuts.{CutsWhereDue}
use Rattle.turn_laws.specs.Deaths.{DiesByRows}
use Rattle.turn_laws.specs.Ends.{EndsWhereDue}
use Rattle.turn_laws.specs.Failing.{FailsByRows}
use Rattle.turn_laws.specs.Failures.{FailsWhereDue}
use Rattle.turn_laws.specs.Faults.{DiesBeforeFaults}
use Rattle.turn_laws.specs.LawfulRuns.{IsLawfulRun, LawfulRunsLaw}
use Rattle.sbp_world.proofs.Completing.DoneFronts.{all_rung_complete_law}
use Rattle.sbp_world.proofs.Counting.CompletionRuns.{completion_law}
use Rattle.turn_laws.specs.Once.{DiesOnce}
use Rattle.turn_laws.specs.Operations.{OperationsHold, OperationsStand}
use Rattle.turn_laws.specs.Silent.{EndsHeard}
use Rattle.turn_laws.specs.Together.{LawfulInTurns}
use Rattle.turn_laws.specs.Unserved.{UnservedWhereTold}
use Rattle.turn_laws.proofs.ActEntries.{action_run_law}
use Rattle.turn_laws.proofs.NobodyWild.{aborted_of_all, answer_of_all, carried_of_all, execution_of_all, once_of_all, order_of_all, taken_of_all}
use Rattle.turn_laws.proofs.TameMedia.{WasTame, media_of, were_tame}
use Rattle.turn_laws.proofs.Together.{turns_law}

-- ---- the rows of the cause law in a turn, in the order of its record
abbrev Both : (Turn → Type 0) → (Turn → Type 0) → Turn → Type 0
Both L M t = L t × M t

both : (L M : Turn → Type 0) (past : List Moment) → EachTurn L past → EachTurn M past → EachTurn (Both L M) past
both L M past l m = with_turns L M (Both L M) (λ t a b. (a, b)) past [] l m

-- the notes of agents
record AgentCauses (start : List Disk) (t : Turn) : Type 0 where
  ends : EndsWhereDue start t
  deaths : DiesByRows start t
  codes : EndsWithCodes start t
  once : DiesOnce start t
  aborts : AbortsStand start t
  silent : EndsHeard start t
  unserved : UnservedWhereTold start t
  faults : DiesBeforeFaults t

-- those of the management agent and the units
record ManagementCauses (start : List Disk) (t : Turn) : Type 0 where
  cuts : CutsWhereDue start t
  cleared : ClearsWhereDue start t
  decided : DecisionStands start t
  failures : FailsWhereDue start t
  failing : FailsByRows start t

module _ (start : List Disk) (past : List Moment) (laws : LawfulInTurns start past) where
  of_agents : EachTurn (AgentCauses start) past
  of_agents =
      let found = both (EndsWhereDue start) (DiesByRows start) past laws.ends laws.deaths in
      let coded = both (EndsWithCodes start) (DiesOnce start) past laws.codes laws.once in
      let heard = both (AbortsStand start) (EndsHeard start) past laws.aborts laws.silent in
      let rest = both (UnservedWhereTold start) DiesBeforeFaults past laws.unserved laws.faults in
      let front = both (Both (EndsWhereDue start) (DiesByRows start)) (Both (EndsWithCodes start) (DiesOnce start)) past found coded in
      let back = both (Both (AbortsStand start) (EndsHeard start)) (Both (UnservedWhereTold start) DiesBeforeFaults) past heard rest in
      with_turns (Both (Both (EndsWhereDue start) (DiesByRows start)) (Both (EndsWithCodes start) (DiesOnce start))) (Both (Both (AbortsStand start) (EndsHeard start)) (Both (UnservedWhereTold start) DiesBeforeFaults)) (AgentCauses start)
      (λ t a b. record { ends = a.0.0; deaths = a.0.1; codes = a.1.0; once = a.1.1; aborts = b.0.0; silent = b.0.1; unserved = b.1.0; faults = b.1.1 }) past [] front back

  of_management : EachTurn (ManagementCauses start) past
  of_management =
      let units = both (CutsWhereDue start) (ClearsWhereDue start) past laws.cuts laws.cleared in
      let fails = both (FailsWhereDue start) (FailsByRows start) past laws.failures laws.failing in
      let front = both (Both (CutsWhereDue start) (ClearsWhereDue start)) (DecisionStands start) past units laws.decided in
      with_turns (Both (Both (CutsWhereDue start) (ClearsWhereDue start)) (DecisionStands start)) (Both (FailsWhereDue start) (FailsByRows start)) (ManagementCauses start)
      (λ t a b. record { cuts = a.0.0; cleared = a.0.1; decided = a.1; failures = b.0; failing = b.1 }) past [] front fails

  module _ (operations : EachTurn OperationsStand past) where
    all_causes : EachTurn (HasCauses start) past
    all_causes =
        let nodes = both (AgentCauses start) (ManagementCauses start) past of_agents of_management in
        with_turns (Both (AgentCauses start) (ManagementCauses start)) OperationsStand (HasCauses start)
        (λ t n o. record {
          cuts = n.1.cuts;
          cleared = n.1.cleared;
          ends = n.0.ends;
          deaths = n.0.deaths;
          faults = n.0.faults;
          failures = n.1.failures;
          operations = o;
          unserved = n.0.unserved;
          codes = n.0.codes;
          failing = n.1.failing;
          once = n.0.once;
          aborts = n.0.aborts;
          decided = n.1.decided;
          silent = n.0.silent;
        }) past [] nodes operations

-- ---- the run
module _ (line : ℕ) (run : Run) (is : IsRun run) (some : 0 < run.units) (most : run.units ≤ 4) (size : length run.start.disks ≡ run.units) (typed : AllByRecursion AreTyped run.entries) (given : IsTameOrFew (history_of line run)) where
  abbrev past : List Moment
  past = history_of line run

  abbrev start : List Disk
  start = run.start.disks

  abbrev wild : ℕ → Bool
  wild = injectors past

  tie : history (journal_run line run).entries ≡ past
  tie = bus_law.tie line run

  on_bus : LawfulOnTheBus wild (journal_run line run)
  on_bus = lawful_where_typed line run is.few (bus_law.lawful line run is.few (sym size) is.short is.entries is.lines) typed

  has_form : EachMoment FormAt past
  has_form = subst (EachMoment FormAt) tie on_bus.form

  has_once : OnceLaw wild past
  has_once = subst (OnceLaw wild) tie on_bus.once

  has_lists : HasListLaws run.initiators start past
  has_lists = list_laws line run is some most size given

  has_turns : LawfulInTurns start past
  has_turns = turns_law.after_lines line run is some most size

  has_action : ActionLaw start (journal_run line run).entries
  has_action = action_run_law line run is some most size

  module _ (tame : IsTame past) where
    operations : EachTurn OperationsStand past
    operations = with_turns WasTame OperationsHold OperationsStand (λ t before holds. holds.whole (λ i e. (before i, inl before))) past [] (were_tame past [] tame) has_turns.operations

    are_lawful : AreLawful nobody start past
    are_lawful = record {
      form = has_form;
      once = once_of_all wild tame past has_once;
      order = order_of_all wild tame past has_lists.on_lists.order;
      execution = execution_of_all wild tame start past has_lists.on_lists.execution;
      status = record { taken = taken_of_all wild tame past has_lists.on_lists.status.taken; each = finished_law.each line run is nobody };
      answer = answer_of_all wild tame start past has_lists.answers;
      carried = carried_of_all wild tame start past has_lists.carried;
      runs_end = has_turns.runs_end;
      takes = finished_law.each line run is nobody;
      cause = record { causes = all_causes start past has_turns operations; aborted = aborted_of_all wild tame start past (has_turns.aborted given) };
      judgement = has_turns.judgement;
      login = has_turns.login;
      sent = has_turns.sent;
      media = media_of start past tame has_turns.pushes has_turns.told has_turns.told_sent;
    }

    lawful : Lawful (journal_run line run)
    lawful = record { moments = subst (AreLawful nobody start) (sym tie) are_lawful; action = has_action }

  is_lawful_run : IsLawfulRun line run
  is_lawful_run = record {
    whole = lawful;
    of_wire = (all_runs.runs line run is.few is.short is.entries is.lines).has_laws;
    form = has_form;
    once = has_once;
    lists = has_lists;
    statuses = record { each = finished_law.each line run is wild; taken = finished_law.taken line run is; once = once_taken_law.once line run is };
    in_turns = has_turns;
    action = has_action;
    completes = λ one tame. completion_law line run is one some most size tame;
    rung = all_rung_complete_law line run is some most size;
  }

pub lawful_runs_law : LawfulRunsLaw
lawful_runs_law = record { lawful = is_lawful_run }
