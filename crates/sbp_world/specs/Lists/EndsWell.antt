-- How an ORB ends good (NCITS 325-1998, command block ORB and data buffers). An agent writes an answer only for an ORB whose data go to its initiator. So where they do and the buffer has bytes, a good end comes in the turn in which the
-- write of the last chunk of the answer is answered with rcode 0; and where they do not, in the turn in which the command runs. The target sees no other generation in that turn. At each place of a run before which lists were
-- open as they should be, of the initiators that injected no packets.
use Rattle.std.specs.Prelude.{◌≡◌, ◌<◌, ℕ, true, List, ◌∷◌, ◌++◌, length, Some}
use Rattle.command_agent.specs.declared.phase.Phase.TheVariants as phases
use Rattle.command_agent.specs.Machine.{Machine}
use Rattle.orb_layout.specs.declared.status.StatusKind.TheVariants as kinds
use Rattle.sbp_journal.specs.declared.event.Cmd.{Cmd}
use Rattle.sbp_journal.specs.declared.note.Note.TheVariants as notes
use Rattle.sbp_journal.specs.Run.{Moment, said}
use Rattle.sbp_journal.specs.Wire.{terms}
use Rattle.sbp_laws.specs.Lists.{command_at}
use Rattle.sbp_laws.specs.Terms.{ends, runs}
use Rattle.sbp_laws.specs.Turns.{EachMoment}
use Rattle.sbp_world.specs.Worlds.{WorldState}
use Rattle.sbp_world.specs.Lists.Closes.{Under}
use Rattle.sbp_world.specs.Lists.DataWrites.{AreDry, IsAnswered}
use Rattle.sbp_world.specs.Lists.Needs.{IsCalm, initiator_in, machine_at}

-- an agent that writes an answer
abbrev pub AreInward : List Moment → WorldState → Type 0
AreInward past w = (place : ℕ) → place < 8 → IsCalm past (initiator_in w place) → (machine_at w place).phase ≡ phases.Answering → (machine_at w place).orb.to_initiator ≡ true

-- the turn began behind `before`
pub data IsWrittenWell (past before : List Moment) (i n k : ℕ) : Type 0 where
  well_fresh : runs before i n k ≡ 0 → (cmd : Cmd) → command_at before i n k ≡ Some cmd → (cmd.to_initiator ≡ true → cmd.length ≡ 0) → IsWrittenWell past before i n k
  well_behind : (got : ℕ) (later : List Moment) → later ++ said (notes.Got got) ∷ before ≡ past → (m : Machine) → m.written ≡ length m.answer → (a : IsAnswered before i n k m got) → a.cmd.to_initiator ≡ true → IsWrittenWell past before i n k

pub record EndedWell (past : List Moment) (i n k : ℕ) : Type 0 where
  pub later : List Moment
  pub before : List Moment
  pub is : later ++ before ≡ past
  pub number_is : k ≡ ends before i n
  -- no write of data was sent before it in its turn, and no other generation was seen
  pub alone : AreDry i later
  pub level : (terms past).generation 0 ≡ (terms before).generation 0
  pub written : IsWrittenWell past before i n k

-- each good end
abbrev pub GoodEnds : ℕ → Moment → List Moment → Type 0
GoodEnds i (said (notes.Ended j (Some n) (Some k) kinds.Good)) past = j ≡ i → EndedWell past i n k
GoodEnds i moment past = Unit {0}

abbrev pub AllGoodEnds : List Moment → WorldState → Type 0
AllGoodEnds past w = (i : ℕ) → i < length w.initiators → IsCalm past i → EachMoment (GoodEnds i) past

abbrev pub GoodEndsLaw : Type 0
GoodEndsLaw = Under AllGoodEnds
