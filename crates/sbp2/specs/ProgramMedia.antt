-- What the program runs on.
use Rattle.std.specs.Prelude.{ℕ, List, [], ◌∷◌, Option}
use Rattle.rbc_disk.specs.Disk.{Disk, FaultyDisk, blank_disk, protected}
use Rattle.rbc_disk.specs.Held.{Held, held}
use Rattle.media_bay.specs.Trays.{new_bay}
use Rattle.line_session.specs.Outside.{Outside}

-- a medium of 64 blocks of equal bytes
abbrev pub disc : ℕ → Disk
disc fill = blank_disk 64 fill

-- unit 0: a bay with a disc of 00h in its tray and one of 77h on its shelf
abbrev pub two_discs : Disk
two_discs = new_bay 64 (disc 0 ∷ disc 0x77 ∷ [])

-- unit 1: a protected medium of 5Ah
abbrev pub locked : Disk
locked = protected (disc 0x5a)

-- unit 2: a medium of 00h whose second call fails
abbrev pub second_fails : FaultyDisk
second_fails = record { held = disc 0; plan = record { failing = 2 ∷ []; calls = 0; faults = 0 } }

-- the media as the program begins, by their units; no call of theirs has failed
abbrev pub program_media : Held
program_media = held (two_discs ∷ locked ∷ second_fails.held ∷ []) (0 ∷ 0 ∷ 0 ∷ [])

-- what lies outside beside the media: the bytes of the source and the sink, with their counts of faults
abbrev pub beside : Option (List ℕ) → ℕ → Option (List ℕ) → ℕ → Held → Outside
beside left reads written writes media = record { left = left; reads = reads; written = written; writes = writes; media = media }

-- A call that begins over the program's media ends so, whatever the media hold then.
pub record EndsOver (Ends : Outside → Outside → Type 0) (before now : Held → Outside) : Type 0 where
  pub media : Held
  pub ends : Ends (before program_media) (now media)
