-- The write by which an operation of management began that an initiator has under way (NCITS 325-1998, management agent): it brings the address of the management ORB in the place of the operation to
-- MANAGEMENT_AGENT, in the generation of the initiator.
use Rattle.std.specs.Prelude.{◌≡◌, ◌<◌, ℕ, suc, true, false, List, length, Some}
use Rattle.sbp_journal.specs.Run.{Moment}
use Rattle.sbp_journal.specs.Transactions.{Sending, part_of, request, writing}
use Rattle.sbp_journal.specs.Wire.{terms}
use Rattle.sbp_laws.specs.Hosts.{Underway, host_at, is_management}
use Rattle.sbp_world.specs.Completing.EndsTaken.{IsForPlace}
use Rattle.sbp_world.specs.Lists.Closes.{Always, WhereTameOrFew}
use Rattle.sbp_world.specs.Lists.Needs.{IsCalm}
use Rattle.sbp_world.specs.Worlds.{WorldState}

pub record IsAimed (past : List Moment) (i place write : ℕ) : Type 0 where
  pub packet : Sending
  pub sent : (terms past).sent write ≡ Some packet
  pub for_place : IsForPlace i place packet
  pub honest : packet.injected ≡ false
  pub current : packet.generation ≡ (terms past).generation (suc i)
  pub label : ℕ
  pub part : part_of packet.bytes ≡ request label writing

abbrev pub AreAimed : List Moment → WorldState → Type 0
AreAimed past w = (i : ℕ) → i < length w.initiators → IsCalm past i → (underway : Underway) → (host_at past i).operation ≡ Some underway → is_management underway.operation ≡ true → IsAimed past i underway.place underway.first

abbrev pub AimedLaw : Type 0
AimedLaw = Always (WhereTameOrFew AreAimed)
