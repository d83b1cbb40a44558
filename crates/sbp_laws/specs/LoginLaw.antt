-- The login law (NCITS 325-1998, login, reconnect, logout and reconnect hold). The table of logins is a fold of eight places, and each unit
-- has a key. Each management ORB has the first decision that holds on the table before its delivery, with the password and the exclusive
-- word of the ORB that the target got, and the EUI-64 that it got; a login with status 00 has the next ID in counting order that is not in
-- use, and the lowest empty place. The decision stands in the delivery that ended the reading of the ORB or of the EUI-64. `left` and `back`
-- stand exactly where the decision has them, `held` exactly behind a reset that the target sees, for each live login, and `expired` exactly
-- at the tick in which the seconds of a held login are over.
use Rattle.std.specs.Prelude.{◌≡◌, ℕ, Bool, true, false, List, [], ◌∷◌, Option, Some, None}
use Rattle.rbc_disk.specs.Disk.{Disk}
use Rattle.mgmt_agent.specs.Rows.{first_row, all_rows}
use Rattle.sbp_journal.specs.Run.{Moment}
use Rattle.sbp_journal.specs.declared.note.Note.{Note}
use Rattle.sbp_journal.specs.declared.note.Note.TheVariants as notes
use Rattle.sbp_laws.specs.Turns.{Turn, EachTurn}
use Rattle.sbp_laws.specs.Targets.{Target, target_at, Decided}
use Rattle.sbp_laws.specs.Agents.{target_before, wire_before}
use Rattle.sbp_laws.specs.Management.{logins_due, decisions_due, effect_of}
use Rattle.sbp_laws.specs.NoteKinds.{of_kind}

abbrev pub is_login_note : Note → Bool
is_login_note (notes.Held id) = true
is_login_note (notes.Expired id) = true
is_login_note (notes.Back id) = true
is_login_note (notes.Left id) = true
is_login_note _ = false

abbrev pub is_decision_note : Note → Bool
is_decision_note (notes.Managed i function subject status login) = true
is_decision_note _ = false

-- the status is that of the first row that holds
abbrev pub IsFirstRow : Option Decided → Target → ℕ → Type 0
IsFirstRow None target status = ⊥
IsFirstRow (Some decided) target status = status ≡ first_row (all_rows decided.orb decided.source decided.eui target.table target.keys)

abbrev pub ByRows : List Disk → Turn → List Note → Type 0
ByRows disks t [] = Unit {0}
ByRows disks t (notes.Managed i function subject status login ∷ rest) =
    IsFirstRow (target_at disks (t.start ∷ t.past)).decided (target_before disks t) status × ByRows disks t rest
ByRows disks t (note ∷ rest) = ByRows disks t rest

pub record HasLogins (disks : List Disk) (t : Turn) : Type 0 where
  pub rows : ByRows disks t t.rest
  pub decisions : of_kind is_decision_note t.rest ≡ decisions_due (target_before disks t) t
  pub logins : of_kind is_login_note t.rest ≡ logins_due t.start (wire_before t) (target_before disks t) (effect_of (target_before disks t) t)

abbrev pub LoginLaw : List Disk → List Moment → Type 0
LoginLaw disks past = EachTurn (HasLogins disks) past
