-- With which response a run was fed (NCITS 325-1998, command block agents and command block ORB): the one that brought the ORB by its name is the one behind which its agent turned to it and read its
-- buffer and its data. And it waited for an answer of the initiator as each packet was got since it turned to it, and had the ORB read ahead as each was got before.
use Rattle.std.specs.Prelude.{◌≡◌, ℕ, List, ◌∷◌, ◌++◌}
use Rattle.rbc_disk.specs.Disk.{Disk}
use Rattle.sbp_journal.specs.Run.{Moment, said}
use Rattle.sbp_journal.specs.declared.note.Note.TheVariants as notes
use Rattle.sbp_world.specs.Lists.FedRuns.{RunIsFed}
use Rattle.sbp_world.specs.Lists.OrbNames.{RunIsNamed}
use Rattle.sbp_laws.specs.CarriedBytes.{address_of}
use Rattle.sbp_world.specs.Lists.AheadOrbs.{AllAhead}
use Rattle.sbp_world.specs.Lists.OwnSince.{AllAwaited}

pub record RunIsNamedFed (start : List Disk) (past : List Moment) (i n k : ℕ) (bytes : List ℕ) : Type 0 where
  pub named : RunIsNamed start past i n k
  pub fed : RunIsFed start past i n k bytes
  pub place : fed.place ≡ named.place
  pub response : fed.brought.response ≡ named.named.brought.response
  pub earlier : fed.brought.earlier ≡ named.named.brought.earlier
  pub awaited : AllAwaited start i fed.place fed.later (fed.between ++ said (notes.Got fed.brought.response) ∷ fed.brought.earlier)
  pub ahead : AllAhead start i fed.place (address_of past i n k) fed.between (said (notes.Got fed.brought.response) ∷ fed.brought.earlier)
