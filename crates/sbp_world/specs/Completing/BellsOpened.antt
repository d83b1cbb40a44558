-- Since when an agent has its list (NCITS 325-1998, ORB_POINTER): it was in RESET as the write of ORB_POINTER for the list was got, which opened it, and has had the list as each packet was got since.
use Rattle.std.specs.Prelude.{◌≡◌, ◌<◌, ℕ, suc, Bool, false, List, ◌∷◌, ◌++◌, length, Some}
use Rattle.command_agent.specs.declared.phase.Phase.TheVariants as phases
use Rattle.rbc_disk.specs.Disk.{Disk}
use Rattle.sbp_journal.specs.Run.{Moment, said}
use Rattle.sbp_journal.specs.declared.note.Note.TheVariants as notes
use Rattle.sbp_laws.specs.OrderLaw.{is_cut}
use Rattle.sbp_laws.specs.Terms.{lists}
use Rattle.sbp_world.specs.Completing.Bells.{KeepsList, agent_then}
use Rattle.sbp_world.specs.Completing.Present.{WasPointed}
use Rattle.sbp_world.specs.Lists.Opened.{IsUp}
use Rattle.sbp_world.specs.Telling.{holder}
use Rattle.sbp_world.specs.Worlds.{WorldState}

-- an agent is out of RESET with the latest list of an initiator, and was in RESET as a packet was got; it had the list as each packet was got since then
pub record HasOpening (start : List Disk) (past : List Moment) (w : WorldState) (i n serial : ℕ) : Type 0 where
  pub place : ℕ
  pub small : place < 8
  pub up : IsUp w i place
  pub list : (holder w place).list ≡ Some n
  pub latest : suc n ≡ lists past i
  pub later : List Moment
  pub before : List Moment
  pub is : later ++ said (notes.Got serial) ∷ before ≡ past
  pub reset : (agent_then start before place).machine.phase ≡ phases.Reset
  pub keeps : KeepsList start past (said (notes.Got serial) ∷ before) place i n

-- so it is of each list that was not cut and for which the write of ORB_POINTER was taken, in the generation that its initiator is in, of each initiator that is not among these
abbrev pub AreOpenings : (ℕ → Bool) → List Disk → List Moment → WorldState → Type 0
AreOpenings wild start past w = (i n : ℕ) → i < length w.initiators → wild i ≡ false → (x : WasPointed past i n) → is_cut past i n ≡ false → HasOpening start past w i n x.serial
