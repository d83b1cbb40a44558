-- The slot of an ORB whose list was cut before the ORB had ended (NCITS 325-1998, AGENT_RESET, ABORT TASK SET, resets): while the target is in no later generation than the initiator was in then,
-- no ORB of a list that is open has this slot.
use Rattle.sbp_world.specs.Lists.Closes.{Under, WhereTameOrFew}
use Rattle.std.specs.Prelude.{◌≡◌, ◌<◌, ◌≤◌, ℕ, suc, true, List, ◌++◌, length, Some}
use Rattle.sbp_journal.specs.Run.{Moment}
use Rattle.sbp_journal.specs.Wire.{terms}
use Rattle.sbp_laws.specs.Lists.{orb, prepared_in}
use Rattle.sbp_laws.specs.OrderLaw.{IsOpen, is_cut}
use Rattle.sbp_laws.specs.Terms.{ends}
use Rattle.sbp_world.specs.Worlds.{WorldState}
use Rattle.sbp_world.specs.Lists.Needs.{IsCalm}
use Rattle.sbp_world.specs.Lists.SlotsStay.{HasSlot}

-- of initiator i
abbrev pub AreCutApart : List Moment → (i : ℕ) → Type 0
AreCutApart past i =
    (later before : List Moment) → later ++ before ≡ past → (n k slot : ℕ) → is_cut before i n ≡ true → ends before i n ≤ k → HasSlot before i slot (orb n k) → (terms past).generation 0 ≤ (terms before).generation (suc i) → (list number : ℕ) → IsOpen past i list → prepared_in past i slot ≡ Some (orb list number) → ⊥

abbrev pub AllCutApart : List Moment → WorldState → Type 0
AllCutApart past w = (i : ℕ) → i < length w.initiators → IsCalm past i → AreCutApart past i

-- So it is at each place of every run in which no initiator injected packets, or few logins were given, before which lists were open as they should be.
abbrev pub CutSlotsLaw : Type 0
CutSlotsLaw = Under (WhereTameOrFew AllCutApart)
