-- The sessions of a queue are those of the laws (NCITS 325-1998, login, reconnect, logout).
use Rattle.sbp_laws.specs.Hosts as hosts
use Rattle.retry_queue.specs.declared.session.Session.{Session}
use Rattle.retry_queue.specs.declared.session.Session.TheVariants.{Out, Entering, Live, Held, Returning, Leaving, Stuck}

abbrev pub session_of : Session → hosts.Session
session_of Out = hosts.out
session_of Entering = hosts.entering
session_of Live = hosts.live
session_of Held = hosts.held
session_of Returning = hosts.returning
session_of Leaving = hosts.leaving
session_of (Stuck had_login) = hosts.stuck had_login
