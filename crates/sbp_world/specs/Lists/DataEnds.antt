-- How an ORB comes to its end, but as failed (NCITS 325-1998, command block ORB and data buffers): its command had not run before the turn in which it ends; or the write of the last chunk of
-- its answer is answered with rcode 0 in this turn. Of each initiator that injected no packets, at each place of a run before which lists were open as they should be.
use Rattle.std.specs.Prelude.{◌≡◌, ◌<◌, ℕ, List, ◌∷◌, ◌++◌, length, Some}
use Rattle.command_agent.specs.Machine.{Machine}
use Rattle.orb_layout.specs.declared.status.StatusKind.TheVariants as kinds
use Rattle.sbp_journal.specs.Run.{Moment, said}
use Rattle.sbp_journal.specs.declared.note.Note.TheVariants as notes
use Rattle.sbp_laws.specs.Terms.{ends, runs}
use Rattle.sbp_laws.specs.Turns.{EachMoment}
use Rattle.sbp_world.specs.Worlds.{WorldState}
use Rattle.sbp_world.specs.Lists.Closes.{Under}
use Rattle.sbp_world.specs.Lists.DataWrites.{AreDry, IsAnswered}
use Rattle.sbp_world.specs.Lists.Needs.{IsCalm}

-- the turn began behind `before`
pub data IsWritten (past before : List Moment) (i n k : ℕ) : Type 0 where
  is_fresh : runs before i n k ≡ 0 → IsWritten past before i n k
  is_behind : (got : ℕ) (later : List Moment) → later ++ said (notes.Got got) ∷ before ≡ past → (m : Machine) → m.written ≡ length m.answer → IsAnswered before i n k m got → IsWritten past before i n k

pub record WasWritten (past : List Moment) (i n k : ℕ) : Type 0 where
  pub later : List Moment
  pub before : List Moment
  pub is : later ++ before ≡ past
  pub number_is : k ≡ ends before i n
  -- no write of data was sent before it in its turn
  pub alone : AreDry i later
  pub written : IsWritten past before i n k

-- each end
abbrev pub EndSo : ℕ → Moment → List Moment → Type 0
EndSo i (said (notes.Ended j (Some n) (Some k) status)) past = j ≡ i → (status ≡ kinds.Failed → ⊥) → WasWritten past i n k
EndSo i moment past = Unit {0}

abbrev pub AllEndSo : List Moment → WorldState → Type 0
AllEndSo past w = (i : ℕ) → i < length w.initiators → IsCalm past i → EachMoment (EndSo i) past

abbrev pub AnswersEndLaw : Type 0
AnswersEndLaw = Under AllEndSo
