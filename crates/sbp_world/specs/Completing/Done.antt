-- Every rung ORB completes (NCITS 325-1998, command block agents, management agent and unsolicited status). Where a run is lossless and nothing is in flight, what an initiator set going since it first saw the latest
-- reset is done: each ORB of a list that was not cut, up to the one that was rung last, has its status; no operation and no read of AGENT_STATE is under way; and since the target first saw that reset no agent died, and
-- no operation of the management failed. It asks that nobody injected packets, that the commands of the lines are those that a script can state, and that of the requests to an initiator that were sent for lists which
-- have been cut 40 at most are under way at each moment since then.
use Rattle.std.specs.Prelude.{◌≡◌, ◌≤◌, ◌<◌, ℕ, false, List, [], ◌∷◌, length, None}
use Rattle.rbc_disk.specs.Disk.{Disk}
use Rattle.sbp_journal.specs.Run.{Entry, Moment, history, said}
use Rattle.sbp_journal.specs.Wire.{terms}
use Rattle.sbp_journal.specs.declared.note.Note.TheVariants as notes
use Rattle.sbp_laws.specs.Budget.{Lossless, initiators}
use Rattle.sbp_laws.specs.Completion.{in_the_air}
use Rattle.sbp_laws.specs.Hosts.{host_at}
use Rattle.sbp_laws.specs.Lists.{is_none_taken, taken_at}
use Rattle.sbp_laws.specs.Terms.{ends}
use Rattle.sbp_world.specs.Completing.Deaths.{AreLegal, NoneDies}
use Rattle.sbp_world.specs.Completing.Labels.{AlwaysFrom}
use Rattle.sbp_world.specs.Completing.Present.{IsPresent}
use Rattle.sbp_world.specs.Completing.RestStatuses.{HasDead}
use Rattle.sbp_world.specs.Completing.Sights.{AreFewOfCutLists, IsFresh, rung, since_sight}
use Rattle.sbp_world.specs.Histories.{history_of}
use Rattle.sbp_world.specs.Hosts.Runs.{IsRun}
use Rattle.sbp_world.specs.Lists.Closes.{Always}
use Rattle.sbp_world.specs.Lists.FewLogins.{FewLogins}
use Rattle.sbp_world.specs.Lists.OwnLogins.{IsTame}
use Rattle.sbp_world.specs.Runs.{Run}
use Rattle.sbp_world.specs.Wire.Journal.{journal_run}
use Rattle.sbp_world.specs.Worlds.{WorldState}

-- ---- deaths
-- No agent is DEAD at any place where the target has seen the latest reset, and none died since it first saw it.
abbrev pub NoneDead : List Moment → WorldState → Type 0
NoneDead past w = IsTame past → (terms past).generation 0 ≡ (terms past).bus → NoneDies (since_sight 0 past) → (i : ℕ) → HasDead w i → ⊥

abbrev pub DeadKnownLaw : Type 0
DeadKnownLaw = Always NoneDead

-- among these moments no agent died for an initiator, and no operation of the management failed
abbrev pub NoneFails : List Moment → Type 0
NoneFails [] = Unit {0}
NoneFails (said (notes.Dead i list cause) ∷ past) = ⊥
NoneFails (said (notes.ManageFailed i cause) ∷ past) = ⊥
NoneFails (_ ∷ past) = NoneFails past

-- ---- what is done
pub record AreDone (past : List Moment) : Type 0 where
  pub taken : (i n k : ℕ) → IsFresh past i n → k < rung past i n → is_none_taken (taken_at past i n k) ≡ false
  pub operations : (i : ℕ) → i < initiators past → (host_at past i).operation ≡ None
  pub reads : (i : ℕ) → i < initiators past → (host_at past i).reads ≡ []
  pub none_fails : NoneFails (since_sight 0 past)

abbrev pub RungOrbsComplete : List Disk → List Moment → Type 0
RungOrbsComplete start past = Lossless past → in_the_air past ≡ 0 → AreFewOfCutLists start past → AreDone past

abbrev pub RungOrbsCompleteThere : List Disk → List Moment → WorldState → Type 0
RungOrbsCompleteThere start past w = IsTame past → FewLogins past → AreLegal past → RungOrbsComplete start past

abbrev pub RungOrbsCompleteLaw : Type 0
RungOrbsCompleteLaw = AlwaysFrom RungOrbsCompleteThere

-- behind each line of a run, by its journal
abbrev pub AllRungComplete : List Disk → List Entry → Type 0
AllRungComplete start [] = Unit {0}
AllRungComplete start (entry ∷ before) = RungOrbsComplete start (history (entry ∷ before)) × AllRungComplete start before

abbrev pub AllRungCompleteLaw : Type 0
AllRungCompleteLaw =
    (line : ℕ) (run : Run) → IsRun run → 0 < run.units → run.units ≤ 4 → length run.start.disks ≡ run.units → (let past = history_of line run in IsTame past → FewLogins past → AreLegal past → AllRungComplete run.start.disks (journal_run line run).entries)

-- ---- what it rests on
-- a list that is present there has ended as many ORBs as are rung of it
abbrev pub RungEnded : List Disk → List Moment → WorldState → Type 0
RungEnded start past w = IsTame past → Lossless past → in_the_air past ≡ 0 → (i n : ℕ) → i < length w.initiators → IsFresh past i n → IsPresent past w i n → rung past i n ≤ ends past i n
