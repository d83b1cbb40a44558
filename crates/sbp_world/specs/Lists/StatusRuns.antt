-- The status law over runs in which no initiator injected packets, or few logins were given, in two steps (NCITS 325-1998, status block). The status of an ORB is taken once at most,
-- behind the ORB's end, and is the one with which it ended; it is taken of the write that the turn of the end sent behind it, which spells that status with the
-- address of the ORB's slot. It goes to the FIFO of the initiator's latest login, or to that of a place of management; and where each status came to no FIFO of a place, it
-- is the status law.
use Rattle.std.specs.Prelude.{◌≡◌, ◌⊎◌, ◌<◌, ◌≤◌, ◌==◌, ℕ, Bool, true, false, List, length, Some, IsSomeAnd, Ok}
use Rattle.bus_memory.specs.declared.window.Window.TheVariants as windows
use Rattle.bus_memory.specs.Windows.{start}
use Rattle.orb_layout.specs.declared.status.StatusKind.{StatusKind}
use Rattle.orb_layout.specs.StatusBlocks.{read_block}
use Rattle.sbp_journal.specs.Addresses.{Access}
use Rattle.sbp_journal.specs.Run.{Moment, said}
use Rattle.sbp_journal.specs.Wire.{terms}
use Rattle.sbp_journal.specs.declared.note.Note.TheVariants as notes
use Rattle.sbp_laws.specs.Hosts.{Host, host_at}
use Rattle.sbp_laws.specs.Lawful.{injectors}
use Rattle.sbp_laws.specs.Lists.{last_got, slot_at}
use Rattle.sbp_laws.specs.Packets.{access_at}
use Rattle.sbp_laws.specs.StatusLaw.{StatusLaw, TakesEach, fifo_of, status_packet}
use Rattle.sbp_laws.specs.Terms.{ended_status, takes}
use Rattle.sbp_laws.specs.Turns.{EachMoment, EachTurn}
use Rattle.sbp_world.specs.Histories.{history_of}
use Rattle.sbp_world.specs.Runs.{Run}
use Rattle.sbp_world.specs.Worlds.{WorldState}
use Rattle.sbp_world.specs.Hosts.Runs.{IsRun}
use Rattle.sbp_world.specs.Hosts.Statuses.Taking.{is_place_fifo}
use Rattle.sbp_world.specs.Lists.Closes.{Under, WhereTameOrFew}
use Rattle.sbp_world.specs.Lists.FewLogins.{IsTameOrFew}
use Rattle.sbp_world.specs.Lists.Needs.{IsCalm, OpenBefore}

-- ---- a status that is taken
-- a write to one of these FIFOs whose bytes spell a status with the address of an ORB
pub record SpellsStatusTo (access : Access) (host : Host) (address : ℕ) (status : StatusKind) : Type 0 where
  pub is_write : access.is_write ≡ true
  pub goes : (access.offset ≡ fifo_of host) ⊎ (is_place_fifo access.offset ≡ true)
  pub src : ℕ
  pub spells : read_block false access.payload ≡ Ok (record { src = src; kind = status; orb = address })

pub record IsTakenOf (past : List Moment) (i n k : ℕ) (status : StatusKind) : Type 0 where
  pub once : takes past i n k ≡ 0
  pub ended : ended_status past i n k ≡ Some status
  pub sent : status_packet past i n k ≡ Some (last_got past)
  pub written : IsSomeAnd (access_at (terms past) (last_got past)) (λ access. SpellsStatusTo access (host_at past i) (start (windows.Orb (slot_at past i n k))) status)

-- of one initiator
abbrev pub TakenOfOne : ℕ → Moment → List Moment → Type 0
TakenOfOne i (said (notes.Taken j n k status answer)) past = (i == j) ≡ true → IsTakenOf past i n k status
TakenOfOne i moment past = Unit {0}

-- at each place of a run
abbrev pub AllTakenOf : List Moment → WorldState → Type 0
AllTakenOf past w = (i : ℕ) → i < length w.initiators → IsCalm past i → EachMoment (TakenOfOne i) past

-- ---- the law
abbrev pub TakenOfAt : (ℕ → Bool) → Moment → List Moment → Type 0
TakenOfAt wild (said (notes.Taken i n k status answer)) past = wild i ≡ false → IsTakenOf past i n k status
TakenOfAt wild moment past = Unit {0}

pub record StatusOfLaw (wild : ℕ → Bool) (past : List Moment) : Type 0 where
  pub taken : EachMoment (TakenOfAt wild) past
  pub each : EachTurn (TakesEach wild) past

-- It is the status law where each status that is taken came to no FIFO of a place of management.
abbrev pub AtLogin : (ℕ → Bool) → Moment → List Moment → Type 0
AtLogin wild (said (notes.Taken i n k status answer)) past = wild i ≡ false → IsSomeAnd (access_at (terms past) (last_got past)) (λ access. is_place_fifo access.offset ≡ false)
AtLogin wild moment past = Unit {0}

-- Where no initiator injected packets, or few logins were given, and lists were open as they should be before: at each place of a run, and so of what a run has written after its lines.
pub record StatusOfRunLaw : Type 0 where
  pub places : Under (WhereTameOrFew AllTakenOf)
  pub after_lines : (line : ℕ) (run : Run) → IsRun run → 0 < run.units → run.units ≤ 4 → length run.start.disks ≡ run.units → OpenBefore line run run.entries → IsTameOrFew (history_of line run) → StatusOfLaw (injectors (history_of line run)) (history_of line run)
  pub at_logins : (line : ℕ) (run : Run) → IsRun run → 0 < run.units → run.units ≤ 4 → length run.start.disks ≡ run.units → OpenBefore line run run.entries → IsTameOrFew (history_of line run) → EachMoment (AtLogin (injectors (history_of line run))) (history_of line run) → StatusLaw (injectors (history_of line run)) (history_of line run)
