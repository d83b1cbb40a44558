-- What deliveries ask for.
use Rattle.sbp_target.proofs.Requests.Received.{deliveries_are_counted}
use Rattle.sbp_target.proofs.laws.deliveries_ask_for_what_is_left.Goals as goal

pub returns : goal.returns
returns c = deliveries_are_counted
