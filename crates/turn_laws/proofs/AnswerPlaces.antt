-- At each place of a run an agent that writes an answer of an initiator that injected nothing writes it to a buffer of the initiator.
use Rattle.std.proofs.Common.{◌≡◌, ◌∙◌, ap, subst, ℕ, ◌<◌, ◌≤◌, List, [], ◌∷◌, ◌++◌, map, length, Option, Some}
use Rattle.bus_memory.specs.Windows.{window_at}
use Rattle.bus_memory.specs.declared.window.Window.TheVariants as windows
use Rattle.command_agent.specs.declared.phase.Phase.TheVariants as phases
use Rattle.rbc_disk.specs.Disk.{Disk}
use Rattle.rbc_disk.specs.Runs.{Told}
use Rattle.sbp_journal.specs.Addresses.{Access}
use Rattle.sbp_journal.specs.Run.{Moment, asked, said}
use Rattle.sbp_journal.specs.Transactions.{Sending}
use Rattle.sbp_journal.specs.Wire.{Terms, terms}
use Rattle.sbp_journal.specs.declared.event.Event.{Event}
use Rattle.sbp_laws.specs.Lists.{slot_at}
use Rattle.sbp_laws.specs.Packets.{access_at, access_in, packet_in}
use Rattle.sbp_laws.specs.Targets.{Target, agent_at, over, target_at}
use Rattle.sbp_world.specs.Histories.{history_of}
use Rattle.sbp_world.specs.Hosts.Runs.{IsRun, more_deliveries}
use Rattle.sbp_world.specs.Lists.DataWrites.{IsNextChunk}
use Rattle.sbp_world.specs.Lists.FewLogins.{IsCalmBeside}
use Rattle.sbp_world.specs.Lists.Needs.{initiator_in, machine_at}
use Rattle.sbp_world.specs.Runs.{Run, after, beginning}
use Rattle.sbp_world.specs.Settling.{MayAll, after_all}
use Rattle.sbp_world.specs.Worlds.{WorldState, begun, without_notes}
use Rattle.sbp_world.proofs.Hosts.Remaining.{opened_same}
use Rattle.sbp_world.proofs.Lists.Beside.{beside_before}
use Rattle.sbp_world.proofs.Lists.Clauses.{open_lists_law}
use Rattle.sbp_world.proofs.Lists.Courses.{more_than_one}
use Rattle.sbp_world.proofs.Lists.DataRuns.{data_writes_law}
use Rattle.sbp_world.proofs.Lists.ListsProved.{closing}
use Rattle.sbp_world.proofs.Lists.OrbWaits.{over_twice}

-- a request that writes a byte writes it to the buffer of a slot
pub record IsToBuffer (wire : Terms) (serial : ℕ) : Type 0 where
  pub access : Access
  pub is : access_at wire serial ≡ Some access
  pub slot : ℕ
  pub goes : 0 < length access.payload → window_at access.offset ≡ Some (windows.Buffer slot)

-- the main request of each agent that writes an answer
abbrev pub AreToBuffers : List Disk → List Moment → WorldState → Type 0
AreToBuffers start ms w =
    (place serial : ℕ) → place < 8 → IsCalmBeside ms (initiator_in w place) → (machine_at w place).phase ≡ phases.Answering
    → (agent_at (over (target_at start ms)) place).main ≡ Some serial → IsToBuffer (terms ms) serial

chunk_to : (ms : List Moment) (w : WorldState) (place serial : ℕ) → IsNextChunk ms w place serial → IsToBuffer (terms ms) serial
chunk_to ms w place serial c = record { access = c.access; is = c.is; slot = slot_at ms (initiator_in w place) c.list c.number; goes = c.stands }

module _ (line : ℕ) (run : Run) (r : IsRun run) (has : 0 < run.units) (small : run.units ≤ 4) (size : length run.start.disks ≡ run.units) where
  pub buffers_after : AreToBuffers run.start.disks (history_of line run) (after (beginning run) run.entries).world
  buffers_after place serial b calm answers waits =
      let w = (after (beginning run) run.entries).world in
      chunk_to (history_of line run) w place serial
      (data_writes_law.after_lines line run r has small size (closing.before open_lists_law line run r has small size calm.1)
      (open_lists_law.after_lines line run r has small size calm.1) place serial b calm.0 answers waits)

  module _ (next : ℕ) (most : Option ℕ) (told : List (Option Told)) (m : MayAll told (begun (after (beginning run) run.entries))) where
    abbrev there : WorldState
    there = (after_all told (begun (after (beginning run) run.entries))).world

    abbrev now : List Moment
    now = map said there.fresh ++ asked next (more_deliveries most) ∷ history_of line run

    pub buffers_between : AreToBuffers run.start.disks now there
    buffers_between place serial b calm answers waits =
        let event = more_deliveries most in
        let d = more_than_one most in
        chunk_to now there place serial
        (data_writes_law.between line run r has small size next event d told m (closing.between open_lists_law line run r has small size next event d told m calm.1)
        (open_lists_law.between line run r has small size next event d told m calm.1) place serial b calm.0 answers waits)

-- and as a line begins
pub buffers_begun : (start : List Disk) (ms : List Moment) (line : ℕ) (event : Event) (w : WorldState) → AreToBuffers start ms w → AreToBuffers start (asked line event ∷ ms) (without_notes w)
buffers_begun start ms line event w h place serial b calm answers waits =
    let old = h place serial b (beside_before (asked line event ∷ []) ms (initiator_in w place) calm) answers
    (subst (λ (t : Target). (agent_at t place).main ≡ Some serial) (over_twice (target_at start ms)) waits) in
    record {
      access = old.access;
      is = ap (λ (sent : ℕ → Option Sending). access_in (packet_in (sent serial))) (opened_same event (terms ms)).sent ∙ old.is;
      slot = old.slot;
      goes = old.goes;
    }
