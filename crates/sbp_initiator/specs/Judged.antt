-- What a judging of the transaction layer leaves.
use Rattle.std.specs.Prelude.{◌≡◌, []}
use Rattle.label_table.specs.Bodies.{Gives}
use Rattle.label_table.specs.Layer.{Layer, Finding, of_response, of_again}
use Rattle.sbp_initiator.specs.declared.purpose.Purpose.{Purpose}

-- Only a response that closes a transaction changes the layer.
abbrev pub IsSame : Finding Purpose → Layer Purpose → Layer Purpose → Type 0
IsSame (of_response p label purpose) old new = Unit {0}
IsSame _ old new = new ≡ old

-- What comes again is a write, whose answer gives no bytes.
abbrev pub AgainGives : Finding Purpose → Type 0
AgainGives (of_again p rcode) = Gives p rcode []
AgainGives _ = Unit {0}
