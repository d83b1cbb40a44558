-- How the ORB that runs, and the one that ends, was read (NCITS 325-1998, status block and command block ORB), but with the status failed, of each initiator that injected no packets, in every run in which
-- none did, or few logins were given. It is what the carried law says of its read: the target got a response of 32 bytes, which answers its read of the ORB's slot in its initiator, sent behind the ORB's append, and while its list was
-- open. Of an end it is all that the carried law says: the format of these bytes is 3 exactly where the status is dummy; and where it is not, they have the command block and the direction of the append.
-- Of a run they are no dummy's, and have these of the append.
use Rattle.std.specs.Prelude.{◌≡◌, ◌<◌, ◌≤◌, ℕ, Bool, false, List, ◌∷◌, ◌++◌, length, map, Option, Some, IsSomeAnd}
use Rattle.rbc_disk.specs.Disk.{Disk}
use Rattle.orb_layout.specs.declared.status.StatusKind.TheVariants as kinds
use Rattle.rbc_disk.specs.Runs.{Told}
use Rattle.sbp_journal.specs.Run.{Moment, asked, said}
use Rattle.sbp_journal.specs.declared.note.Note.TheVariants.{Ended, Ran}
use Rattle.sbp_laws.specs.CarriedBytes.{WasRead, orb_read}
use Rattle.sbp_laws.specs.CarriedLaw.{EndIsCarried, IsAsAppended}
use Rattle.sbp_laws.specs.Lawful.{injectors}
use Rattle.sbp_laws.specs.Terms.{request_at}
use Rattle.sbp_laws.specs.Turns.{EachMoment}
use Rattle.sbp_world.specs.Histories.{history_of}
use Rattle.sbp_world.specs.Runs.{Run, after, beginning}
use Rattle.sbp_world.specs.Settling.{MayAll, after_all}
use Rattle.sbp_world.specs.Worlds.{begun}
use Rattle.sbp_world.specs.Hosts.Runs.{IsRun, more_deliveries}
use Rattle.sbp_world.specs.Lists.FewLogins.{IsTameOrFew}

-- a run, but for its buffer and its data
pub record RunWasRead (disks : List Disk) (past : List Moment) (i n k : ℕ) : Type 0 where
  pub read : WasRead disks past i n k
  pub not_dummy : (orb_read past read.response).format ≡ 3 → ⊥
  pub as_appended : IsSomeAnd (request_at past i n k) (λ request. IsAsAppended (orb_read past read.response) request)

abbrev pub RunWasReadAt : (ℕ → Bool) → List Disk → Moment → List Moment → Type 0
RunWasReadAt wild disks (said (Ran i (Some n) (Some k) unit cdb bytes check)) past = wild i ≡ false → RunWasRead disks past i n k
RunWasReadAt wild disks moment past = Unit {0}

abbrev pub EndIsCarriedAt : (ℕ → Bool) → List Disk → Moment → List Moment → Type 0
EndIsCarriedAt wild disks (said (Ended i (Some n) (Some k) kinds.Failed)) past = Unit {0}
EndIsCarriedAt wild disks (said (Ended i (Some n) (Some k) status)) past = wild i ≡ false → EndIsCarried disks past i n k status
EndIsCarriedAt wild disks moment past = Unit {0}

-- of the initiators that are not among these
abbrev pub WereRead : (ℕ → Bool) → List Disk → List Moment → Type 0
WereRead wild disks past = EachMoment (RunWasReadAt wild disks) past × EachMoment (EndIsCarriedAt wild disks) past

-- After every line of every run, and behind each delivery of a line that delivers one packet after the other.
pub record WereReadLaw : Type 0 where
  pub after_lines : (line : ℕ) (run : Run) → IsRun run → 0 < run.units → run.units ≤ 4 → length run.start.disks ≡ run.units → IsTameOrFew (history_of line run) → WereRead (injectors (history_of line run)) run.start.disks (history_of line run)
  pub between : (line : ℕ) (run : Run) → IsRun run → 0 < run.units → run.units ≤ 4 → length run.start.disks ≡ run.units → (next : ℕ) (most : Option ℕ) (told : List (Option Told)) → MayAll told (begun (after (beginning run) run.entries)) → (let now = map said (after_all told (begun (after (beginning run) run.entries))).world.fresh ++ asked next (more_deliveries most) ∷ history_of line run in IsTameOrFew now → WereRead (injectors now) run.start.disks now)
