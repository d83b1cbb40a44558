-- What a turn tells of logins (NCITS 325-1998, login, reconnect, logout and reconnect hold): `held` stands exactly where the target sees a reset that is new to it, for each live login; `expired` exactly in
-- the second in which the time of a held login is over; `back` and `left` exactly where a decision has them. Each by rising place. It is the last field of the login law.
use Rattle.std.specs.Prelude.{◌≡◌, List}
use Rattle.rbc_disk.specs.Disk.{Disk}
use Rattle.sbp_laws.specs.Agents.{target_before, wire_before}
use Rattle.sbp_laws.specs.LoginLaw.{is_login_note}
use Rattle.sbp_laws.specs.Management.{effect_of, logins_due}
use Rattle.sbp_laws.specs.NoteKinds.{of_kind}
use Rattle.sbp_laws.specs.Turns.{Turn}

abbrev pub LoginsWhereDue : List Disk → Turn → Type 0
LoginsWhereDue start t = of_kind is_login_note t.rest ≡ logins_due t.start (wire_before t) (target_before start t) (effect_of (target_before start t) t)
