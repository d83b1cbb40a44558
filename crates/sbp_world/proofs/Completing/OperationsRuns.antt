-- At each place of every run that is without loss, with nothing in flight, no initiator has a read of AGENT_STATE under way, nor an operation that writes no management ORB.
use Rattle.sbp_world.proofs.Words.Std.{arith, ◌≡◌, ◌∙◌, inl, inr, ◌⊎◌, refl, sym, ap, subst, ℕ, suc, ◌<◌, true, List, [], ◌∷◌, ◌++◌, length, map, Option, Some, None}
use Rattle.sbp_world.proofs.Words.Wire.{Action, Moment, Operation, asked, said, terms}
use Rattle.sbp_world.proofs.Words.Target.{Disk}
use Rattle.sbp_world.proofs.Words.Initiator.{InitiatorState, Purpose, Running}
use Rattle.sbp_world.proofs.Words.Laws.{EachMoment, Underway, host_at, initiators, is_management, operation_of}
use Rattle.sbp_world.proofs.Words.World.{Stands, WorldState, after, after_all, beginning, begun, history_of, initiator_at, more_deliveries}
use Rattle.bus_transactions.specs.Carried.{NoneWaits}
use Rattle.bus_transactions.specs.Sent.{AreSent}
use Rattle.bus_transactions.proofs.Reaches.{law_of as wire_law}
use Rattle.sbp_initiator.specs.declared.purpose.Purpose.TheVariants as purposes
use Rattle.sbp_journal.specs.declared.event.Action.TheVariants as actions
use Rattle.sbp_journal.specs.declared.operation.Operation.TheVariants as operations
use Rattle.sbp_laws.specs.Budget.{Lossless}
use Rattle.sbp_laws.specs.Completion.{in_the_air}
use Rattle.sbp_laws.specs.Hosts.{StateRead}
use Rattle.sbp_world.specs.Completing.Labels.{LosesNothing}
use Rattle.sbp_world.specs.Completing.Operations.{AtRest, HaveNoReads, ManagementAloneLaw, NoReadsLaw, WasCompleted, WrittenLaw}
use Rattle.sbp_world.specs.Completing.Rest.{InitiatorRests}
use Rattle.sbp_world.specs.Hosts.Core.{Core, Work, work_in, work_of}
use Rattle.sbp_world.specs.Lists.Underway.{AreUnderway}
use Rattle.sbp_world.proofs.Common.{delivers}
use Rattle.sbp_world.proofs.Completing.LabelsPlaces.{IsHolding, holding_everywhere}
use Rattle.sbp_world.proofs.Completing.LabelsResting.{lossless_law}
use Rattle.sbp_world.proofs.Completing.OperationsOwn.{HasLabel, HasOwn, Owned, first_owned, its_requests, owned_carried}
use Rattle.sbp_world.proofs.Completing.OperationsReads.{AllWait, reads_wait}
use Rattle.sbp_world.proofs.Completing.OperationsResets.{AreRising, RisingLaw, rising_always}
use Rattle.sbp_world.proofs.Completing.OperationsWrites.{IsWritten, Written, first_written, written_carried}
use Rattle.sbp_world.proofs.Completing.RestLosses.{BeginsFirst, first_after, first_between}
use Rattle.sbp_world.proofs.Completing.RestNodes.{none_waits}
use Rattle.sbp_world.proofs.Completing.RestRuns.{rest_law}
use Rattle.sbp_world.proofs.Counting.StartCounted.{counted_after, counted_between}
use Rattle.sbp_world.proofs.Hosts.Carried.{between_runs, of_runs}
use Rattle.sbp_world.proofs.Hosts.Hosted.{Cored, cored_carried, first_cored}
use Rattle.sbp_world.proofs.Hosts.HostReads.{Reads}
use Rattle.sbp_world.proofs.Hosts.Runs.{count_after, count_between}
use Rattle.sbp_world.proofs.Lists.Clauses.{open_lists_law}
use Rattle.sbp_world.proofs.Lists.ListsProved.{closing}
use Rattle.sbp_world.proofs.Lists.ManageProved.{one_in_hand_law}
use Rattle.sbp_world.proofs.Lists.UnderwayRuns.{underway_law}
use Rattle.sbp_world.proofs.Wire.Starts.{laws_of}

none_under_way : (now : List Moment) (i : ℕ) → NoneWaits (terms now) → (terms now).generation (suc i) ≡ (terms now).bus → (reads : List StateRead) → AllWait now i reads → reads ≡ []
none_under_way now i none seen [] w = refl
none_under_way now i none seen (read ∷ reads) w = (let x = w.0 in absurd (none x.u x.kind read.serial (x.generation ∙ seen) x.held))

module _ {start : List Disk} {now : List Moment} (w : WorldState) (h : IsHolding start now w) where
  abbrev stands : Stands h.past w
  stands = h.holds.sound.stands

  rising : AreRising now
  rising = subst AreRising (stands.is.past_is ∙ h.is) (wire_law RisingLaw rising_always stands.wire stands.reached)

  no_reads : EachMoment BeginsFirst now → length w.initiators ≡ initiators now → (Lossless now → LosesNothing now) → AtRest HaveNoReads now w
  no_reads first count loses lossless calm i inside =
      let none : NoneWaits (terms now) =
      subst (λ ms. NoneWaits (terms ms)) h.is (none_waits w stands (subst (EachMoment BeginsFirst) (sym h.is) first) (subst Lossless (sym h.is) lossless) (ap in_the_air h.is ∙ calm)) in
      let seen = lossless.seen (suc i) (omega (arith, inside, count)) in
      let own = subst (λ ms. AreSent ms) h.is (laws_of h.past w stands).sent in
      none_under_way now i none seen (Reads now i) (reads_wait now i own rising (loses lossless).kept seen)

pub no_reads_law : NoReadsLaw
no_reads_law = record {
  after_lines = λ line run r has small size.
      no_reads (after (beginning run) run.entries).world (holding_everywhere.after_lines line run r has small size) (first_after line run r size) (counted_after line run r size) (lossless_law.after_lines line run r has small size);
  between = λ line run r has small size next most told m.
      no_reads (after_all told (begun (after (beginning run) run.entries))).world (holding_everywhere.between line run r has small size next most told m) (first_between line run r size next (more_deliveries most) told m) (counted_between line run r size next (more_deliveries most) told m) (lossless_law.between line run r has small size next most told m);
}

-- ---- operations
-- what is known of an initiator at a place
record IsKnown (now : List Moment) (i : ℕ) (s : InitiatorState) : Type 0 where
  work : work_of (host_at now i).operation ≡ work_in s.operation
  has : HasOwn s
  rests : InitiatorRests s
  underway : AreUnderway now i

never_state : (action : Action) → operation_of action ≡ Some operations.State → ⊥
never_state actions.Rom e = cc
never_state (actions.Login unit reconnect exclusive password) e = cc
never_state (actions.Query unit) e = cc
never_state actions.Reconnect e = cc
never_state actions.Logout e = cc
never_state (actions.Abort k) e = cc
never_state actions.AbortSet e = cc
never_state actions.UnitReset e = cc
never_state actions.TargetReset e = cc
never_state actions.AgentReset e = cc
never_state actions.Enable e = cc
never_state action e = cc

-- an operation with requests of its own is none that is under way
module _ (now : List Moment) (i : ℕ) (s : InitiatorState) (k : IsKnown now i s) (u : Underway) (is : (host_at now i).operation ≡ Some u) where
  unasked : (operation : Operation) → u.operation ≡ operation → ((act : ℕ) → (purpose : Purpose) × (its_requests operation act ≡ Some purpose)) → ⊥
  unasked operation e asks = by s.operation refl (sym (ap work_of is) ∙ k.work)
    where
      by : (o : Option Running) → s.operation ≡ o → work_of (Some u) ≡ work_in o → ⊥
      by None f g = absurd (let no : work_of (Some u) ≡ None = g in cc)
      by (Some r) f g =
          let same : u.operation ≡ r.operation = ap (λ (x : Option Work). named x) g in
          let p = asks r.act in
          let l = k.has r p.0 f (ap (λ x. its_requests x r.act) (sym same ∙ e) ∙ p.1) in
          k.rests s.target l.number l.at.serial l.at.kind l.at.state
        where
          named : Option Work → Operation
          named None = operations.State
          named (Some work) = work.operation

  managed : (operation : Operation) → u.operation ≡ operation → is_management operation ≡ true
  managed operations.Rom e = absurd (unasked operations.Rom e (λ act. (purposes.Rom act, refl)))
  managed operations.AgentReset e = absurd (unasked operations.AgentReset e (λ act. (purposes.AgentReset act, refl)))
  managed operations.Enable e = absurd (unasked operations.Enable e (λ act. (purposes.Enable act, refl)))
  managed operations.State e = absurd (never_state u.action ((k.underway u is).action ∙ ap Some e))
  managed operation e = refl

pub management_alone_law : ManagementAloneLaw
management_alone_law = record {
  after_lines = λ line run r has small size lossless calm i b u e.
      let here = after (beginning run) run.entries in
      let inside : i < run.initiators = subst (λ n. i < n) (count_after run run.entries) b in
      managed (history_of line run) i (initiator_at here.world i)
      (record {
        work = ap (λ (c : Core). c.work) (of_runs (Cored run.ready) (cored_carried run.ready) line run (λ entries few short all fit j c. tt) (λ j c. first_cored line j run.initiators run.ready c) r i inside).core;
        has = (of_runs (Owned run.ready) (owned_carried run.ready) line run (λ entries few short all fit j c. tt) (λ j c. first_owned _ j run.ready) r i inside).has;
        rests = (rest_law.after_lines line run r has small size lossless calm).initiators i b;
        underway = (underway_law.after_lines line run r i inside).each [] (history_of line run) refl;
      }) u e u.operation refl;
  between = λ line run r has small size next most told m lossless calm i b u e.
      let here = after (beginning run) run.entries in
      let w = (after_all told (begun here)).world in
      let now = map said w.fresh ++ asked next (more_deliveries most) ∷ history_of line run in
      let inside : i < run.initiators = subst (λ n. i < n) (count_between told here ∙ count_after run run.entries) b in
      managed now i (initiator_at w i)
      (record {
        work = ap (λ (c : Core). c.work) (between_runs (Cored run.ready) (cored_carried run.ready) line run (λ entries few short all fit j c. tt) (λ j c. first_cored line j run.initiators run.ready c) r next most told m i inside).core;
        has = (between_runs (Owned run.ready) (owned_carried run.ready) line run (λ entries few short all fit j c. tt) (λ j c. first_owned _ j run.ready) r next most told m i inside).has;
        rests = (rest_law.between line run r has small size next most told m lossless calm).initiators i b;
        underway = (underway_law.between line run r next most told m i inside).each [] now refl;
      }) u e u.operation refl;
}

-- ---- their writes
-- what is known of an initiator at a place
record IsDone (now : List Moment) (i : ℕ) (s : InitiatorState) : Type 0 where
  known : IsKnown now i s
  written : IsWritten now i s

completed : (now : List Moment) (i : ℕ) (s : InitiatorState) → IsDone now i s → (u : Underway) → (host_at now i).operation ≡ Some u → WasCompleted now u.first
completed now i s d u is = by s.operation refl (sym (ap work_of is) ∙ d.known.work)
  where
    by : (o : Option Running) → s.operation ≡ o → work_of (Some u) ≡ work_in o → WasCompleted now u.first
    by None f g = absurd (let no : work_of (Some u) ≡ None = g in cc)
    by (Some r) f g = written (d.written r u f (ap is_management (sym (ap (λ (x : Option Work). named x) g)) ∙ managed now i s d.known u is u.operation refl) is)
      where
        named : Option Work → Operation
        named None = operations.State
        named (Some work) = work.operation

        written : HasLabel s (purposes.Management r.act) ⊎ WasCompleted now u.first → WasCompleted now u.first
        written (inl l) = absurd (d.known.rests s.target l.number l.at.serial l.at.kind l.at.state)
        written (inr x) = x

pub written_law : WrittenLaw
written_law = record {
  after_lines = λ line run r has small size tame lossless calm i b own u e.
      let here = after (beginning run) run.entries in
      let inside : i < run.initiators = subst (λ n. i < n) (count_after run run.entries) b in
      let s = initiator_at here.world i in
      let so_far = closing.before open_lists_law line run r has small size tame in
      let w = of_runs (Written run.ready run.start.disks) (written_carried run.ready run.start.disks) line run (λ entries few short all fit j c. tt) (λ j c. first_written run.ready run.start.disks line j run.initiators c) r i inside in
      completed (history_of line run) i s
      (record {
        known = record {
          work = ap (λ (c : Core). c.work) w.managed.cored.core;
          has = w.owned.has;
          rests = (rest_law.after_lines line run r has small size lossless calm).initiators i b;
          underway = (underway_law.after_lines line run r i inside).each [] (history_of line run) refl;
        };
        written = w.done (one_in_hand_law.after_lines line run r has small size so_far i inside own);
      }) u e;
  between = λ line run r has small size next most told m tame lossless calm i b own u e.
      let here = after (beginning run) run.entries in
      let v = (after_all told (begun here)).world in
      let now = map said v.fresh ++ asked next (more_deliveries most) ∷ history_of line run in
      let inside : i < run.initiators = subst (λ n. i < n) (count_between told here ∙ count_after run run.entries) b in
      let so_far = closing.between open_lists_law line run r has small size next (more_deliveries most) (delivers most) told m tame in
      let w = between_runs (Written run.ready run.start.disks) (written_carried run.ready run.start.disks) line run (λ entries few short all fit j c. tt) (λ j c. first_written run.ready run.start.disks line j run.initiators c) r next most told m i inside in
      completed now i (initiator_at v i)
      (record {
        known = record {
          work = ap (λ (c : Core). c.work) w.managed.cored.core;
          has = w.owned.has;
          rests = (rest_law.between line run r has small size next most told m lossless calm).initiators i b;
          underway = (underway_law.between line run r next most told m i inside).each [] now refl;
        };
        written = w.done (one_in_hand_law.between line run r has small size next most told m so_far i inside own);
      }) u e;
}
