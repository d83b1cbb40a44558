-- The login law of every run (NCITS 325-1998, login, reconnect, logout and reconnect hold): decisions, their first rows, and the logins that are held, expire, come back and leave.
use Rattle.sbp_laws.specs.LoginLaw.{LoginLaw}
use Rattle.turn_laws.specs.Runs.{OfEveryRun}

abbrev pub LoginRunLaw : Type 0
LoginRunLaw = OfEveryRun LoginLaw
