-- How many labels the target has left to an initiator, in a run in which nobody injected packets, at each place where nothing was lost (IEEE 1394-1995,
-- transaction layer; NCITS 325-1998, command block agents, management agent and unsolicited status). None rests. Of the 64 to an initiator four more are under
-- way at most than those of lists that were cut: for the main transaction of an agent, its read ahead, the management operation and an unsolicited status. So
-- where those of lists that were cut are 40 at most, 20 are free.
use Rattle.std.specs.Prelude.{◌≡◌, ◌≤◌, ◌<◌, ℕ, suc, ◌+◌, ◌-◌, Bool, true, false, List, ◌∷◌, ◌++◌, length, map, Option}
use Rattle.std.specs.List.{list_any}
use Rattle.bus_transactions.specs.Carried.{AreKept}
use Rattle.label_table.specs.declared.place.LabelState.TheVariants as states
use Rattle.label_table.specs.Layer.{free_labels}
use Rattle.label_table.specs.Peers.{state_for}
use Rattle.orb_layout.specs.Pointers.{bit}
use Rattle.rbc_disk.specs.Disk.{Disk}
use Rattle.rbc_disk.specs.Runs.{Told}
use Rattle.sbp_journal.specs.Run.{Moment, asked, said}
use Rattle.sbp_journal.specs.Wire.{Held, Terms, free, rests, terms, waits}
use Rattle.sbp_laws.specs.Budget.{Lossless}
use Rattle.sbp_laws.specs.MediaLaw.{is_pending}
use Rattle.sbp_laws.specs.Packets.{free_from, id_for, to_peer}
use Rattle.sbp_laws.specs.Targets.{Purpose, Target, for_agent, for_manager, for_nobody, over, purpose_of, target_at}
use Rattle.sbp_world.specs.Histories.{history_of}
use Rattle.sbp_world.specs.Runs.{Run, after, beginning}
use Rattle.sbp_world.specs.Settling.{MayAll, after_all}
use Rattle.sbp_world.specs.Worlds.{WorldState, begun}
use Rattle.sbp_world.specs.Hosts.Runs.{IsRun, more_deliveries}
use Rattle.sbp_world.specs.Lists.Closes.{Always}
use Rattle.sbp_world.specs.Lists.OwnLogins.{IsTame}

-- what holds at every place of every run, by what each unit's medium held at the start
pub record AlwaysFrom (Q : List Disk → List Moment → WorldState → Type 0) : Type 0 where
  pub after_lines : (line : ℕ) (run : Run) → IsRun run → 0 < run.units → run.units ≤ 4 → length run.start.disks ≡ run.units → Q run.start.disks (history_of line run) (after (beginning run) run.entries).world
  pub between : (line : ℕ) (run : Run) → IsRun run → 0 < run.units → run.units ≤ 4 → length run.start.disks ≡ run.units → (next : ℕ) (most : Option ℕ) (told : List (Option Told)) → MayAll told (begun (after (beginning run) run.entries)) → (let w = (after_all told (begun (after (beginning run) run.entries))).world in Q run.start.disks (map said w.fresh ++ asked next (more_deliveries most) ∷ history_of line run) w)

-- where a condition on its history holds
abbrev pub AlwaysWhere : (List Moment → Type 0) → (List Disk → List Moment → WorldState → Type 0) → Type 0
AlwaysWhere While Q = AlwaysFrom (λ start past w. While past → Q start past w)

-- ---- the run up to a place
-- Since the latest reset nothing was lost, no transaction timed out and nothing was injected, and the target has seen that reset.
pub record LosesNothing (past : List Moment) : Type 0 where
  pub kept : AreKept past
  pub seen : (terms past).generation 0 ≡ (terms past).bus

-- so it is of a lossless run
abbrev pub LosslessLaw : Type 0
LosslessLaw = Always (λ past w. Lossless past → LosesNothing past)

-- ---- none rests
abbrev pub NoneAtRest : List Moment → WorldState → Type 0
NoneAtRest past w = LosesNothing past → (node number : ℕ) → state_for w.target.layer.peers (id_for (terms past) 0 node) number ≡ states.Resting → ⊥

abbrev pub NoneRestsLaw : Type 0
NoneRestsLaw = Always NoneAtRest

-- ---- the target's labels to an initiator, by the terms: how many are held so
abbrev pub labels : (Held → Bool) → Terms → (i : ℕ) → ℕ
labels test t i = free_from 64 (λ number. test (t.held (to_peer t 0 (suc i) number)))

abbrev pub is_waiting : Held → Bool
is_waiting free = false
is_waiting (waits kind serial) = true
is_waiting rests = false

-- a request that is neither an agent's main transaction, nor its read ahead, nor the management operation's
abbrev pub is_for_nobody : Purpose → Bool
is_for_nobody (for_agent place which) = false
is_for_nobody for_manager = false
is_for_nobody for_nobody = true

abbrev pub is_nobodys : Target → Held → Bool
is_nobodys target free = false
is_nobodys target (waits kind serial) = is_for_nobody (purpose_of target serial)
is_nobodys target rests = false

-- those under way, and those of them whose request is nobody's
abbrev pub under_way : List Moment → (i : ℕ) → ℕ
under_way past i = labels is_waiting (terms past) i

abbrev pub of_nobody : List Disk → List Moment → (i : ℕ) → ℕ
of_nobody start past i = labels (is_nobodys (over (target_at start past))) (terms past) i

-- an unsolicited status to the initiator is under way
abbrev pub has_unsolicited : List Disk → List Moment → (i : ℕ) → Bool
has_unsolicited start past i = list_any (is_pending (terms past) (suc i)) (over (target_at start past)).pushes

-- The requests to an initiator under way that were sent for lists which have been cut: those that are nobody's, but for an unsolicited status.
abbrev pub of_cut_lists : List Disk → List Moment → (i : ℕ) → ℕ
of_cut_lists start past i = of_nobody start past i - bit (has_unsolicited start past i)

-- ---- few are under way
abbrev pub AreFew : List Disk → List Moment → WorldState → Type 0
AreFew start past w = IsTame past → (i : ℕ) → i < length w.initiators → under_way past i ≤ 4 + of_cut_lists start past i

abbrev pub FewUnderWayLaw : Type 0
FewUnderWayLaw = AlwaysFrom AreFew

-- ---- 20 are free
abbrev pub AreLeft : List Disk → List Moment → WorldState → Type 0
AreLeft start past w = IsTame past → LosesNothing past → (i : ℕ) → i < length w.initiators → of_cut_lists start past i ≤ 40 → 20 ≤ free_labels w.target.layer (id_for (terms past) 0 (suc i))

abbrev pub LabelsLeftLaw : Type 0
LabelsLeftLaw = AlwaysFrom AreLeft
