-- How a list goes on behind an ORB that ended as failed or illegal, of an initiator that injected no packets (NCITS 325-1998, command block agents): none of its ORBs ends behind that
-- one, as the agent of the list is dead.
use Rattle.std.specs.Prelude.{◌≡◌, ◌<◌, ◌==◌, ◌||◌, ℕ, suc, Bool, true, false, List, [], ◌∷◌, length, Some}
use Rattle.orb_layout.specs.declared.status.StatusKind.{StatusKind}
use Rattle.orb_layout.specs.declared.status.StatusKind.TheVariants as kinds
use Rattle.sbp_base.specs.Update.{upd2}
use Rattle.sbp_journal.specs.Run.{Moment, said}
use Rattle.sbp_journal.specs.declared.note.Note.TheVariants as notes
use Rattle.sbp_laws.specs.Terms.{ended_status, ends}
use Rattle.sbp_laws.specs.Turns.{EachMoment}
use Rattle.sbp_world.specs.Worlds.{WorldState}
use Rattle.sbp_world.specs.Lists.Closes.{Always, WhereTameOrFew}
use Rattle.sbp_world.specs.Lists.Needs.{IsCalm}

abbrev pub is_fault : StatusKind → Bool
is_fault kinds.Failed = true
is_fault (kinds.Illegal meaning) = true
is_fault kind = false

-- an ORB of a list ended so
abbrev pub has_fault : List Moment → ℕ → ℕ → Bool
has_fault [] = λ i n. false
has_fault (said (notes.Ended i (Some n) (Some k) status) ∷ past) = upd2 (has_fault past) i n (is_fault status || has_fault past i n)
has_fault (_ ∷ past) = has_fault past

-- each end of an ORB of initiator i is one of a list without such an end before
abbrev pub EndsAlive : ℕ → Moment → List Moment → Type 0
EndsAlive i (said (notes.Ended j (Some n) (Some k) status)) past = (i == j) ≡ true → has_fault past i n ≡ false
EndsAlive i moment past = Unit {0}

pub record EndsAtFault (past : List Moment) (i : ℕ) : Type 0 where
  pub alive : EachMoment (EndsAlive i) past
  -- so an ORB that ended so is the last one of its list that ended
  pub last : (n k : ℕ) (status : StatusKind) → ended_status past i n k ≡ Some status → is_fault status ≡ true → ends past i n ≡ suc k

-- at each place of a run
abbrev pub AllEndAtFault : List Moment → WorldState → Type 0
AllEndAtFault past w = (i : ℕ) → i < length w.initiators → IsCalm past i → EndsAtFault past i

-- So it is in every run in which no initiator injected packets, or few logins were given: after every line, and behind each delivery of a line that delivers one packet after the other.
abbrev pub FaultsLaw : Type 0
FaultsLaw = Always (WhereTameOrFew AllEndAtFault)
