-- That the agent of a place had an ORB read ahead as each packet was got (NCITS 325-1998, command block agents): at the address of the ORB, while it waited for an answer of the initiator.
use Rattle.std.specs.Prelude.{◌≡◌, ℕ, List, [], ◌∷◌, ◌++◌}
use Rattle.command_agent.specs.declared.phase.ReadAhead.TheVariants as aheads
use Rattle.command_agent.specs.Machine.{aligned}
use Rattle.orb_layout.specs.declared.command.CommandOrb.{CommandOrb}
use Rattle.orb_layout.specs.declared.pointer.OrbPointer.TheVariants.{At}
use Rattle.rbc_disk.specs.Disk.{Disk}
use Rattle.sbp_journal.specs.Run.{Moment, said}
use Rattle.sbp_journal.specs.declared.note.Note.TheVariants as notes
use Rattle.sbp_laws.specs.Targets.{agent_at, over, target_at}
use Rattle.sbp_world.specs.Lists.OwnSince.{IsAwaited}

pub record HasOrbAhead (start : List Disk) (past : List Moment) (i place at : ℕ) : Type 0 where
  pub awaited : IsAwaited start past i place
  pub orb : CommandOrb
  pub kept : (agent_at (over (target_at start past)) place).machine.ahead ≡ aheads.Kept orb
  pub offset : ℕ
  pub next : (agent_at (over (target_at start past)) place).machine.orb.next ≡ At offset
  pub stands : aligned offset ≡ at

abbrev pub AllAhead : List Disk → (i place at : ℕ) → (between before : List Moment) → Type 0
AllAhead start i place at [] before = Unit {0}
AllAhead start i place at (said (notes.Got serial) ∷ between) before = HasOrbAhead start (between ++ before) i place at × AllAhead start i place at between before
AllAhead start i place at (moment ∷ between) before = AllAhead start i place at between before
