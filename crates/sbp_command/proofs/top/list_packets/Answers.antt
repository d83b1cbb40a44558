-- The packets are listed as the lines were served.
use Rattle.sbp_command.proofs.Listings.{listing_ends, not_begun}
use Rattle.sbp_command.proofs.top.list_packets.Goals as goal

pub returns-in-Ok : goal.returns-in-Ok
returns-in-Ok g c = rw c.status_of.ensures (listing_ends _ c.serve_lines.result _ _ c.serve_lines.ensures.ends)

pub returns-in-Err : goal.returns-in-Err
returns-in-Err g c = not_begun (Unit {0}) _ tt
