-- What a target sends has a tcode other than 0: none of it writes a quadlet.
use Rattle.sbp_world.proofs.Words.Std.{List, [], ◌∷◌}
use Rattle.sbp_world.proofs.Words.Wire.{Outgoing}
use Rattle.sbp_world.proofs.Hosts.Mild.{AreMild}
use Rattle.sbp_world.proofs.Sessions.Codes.{HasCode}

abbrev pub AllCoded : List Outgoing → Type 0
AllCoded [] = Unit {0}
AllCoded (packet ∷ later) = HasCode packet.bytes × AllCoded later

pub mild_coded : (packets : List Outgoing) → AreMild packets → AllCoded packets
mild_coded [] h = tt
mild_coded (packet ∷ packets) h = (h.0, mild_coded packets h.1)
