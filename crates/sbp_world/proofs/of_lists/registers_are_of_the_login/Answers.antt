-- What is known by the response of the session, and whose login a host has, give the law.
use Rattle.sbp_world.proofs.Lists.Bases.{bases_law}
use Rattle.sbp_world.proofs.of_lists.registers_are_of_the_login.Goals as goal

pub registers_are_of_the_session-requires : goal.registers_are_of_the_session-requires
registers_are_of_the_session-requires c = tt

pub hosts_hold_the_login_of_their_session-requires : goal.hosts_hold_the_login_of_their_session-requires
hosts_hold_the_login_of_their_session-requires c = tt

pub returns : goal.returns
returns c = bases_law c.registers_are_of_the_session.ensures c.hosts_hold_the_login_of_their_session.ensures
