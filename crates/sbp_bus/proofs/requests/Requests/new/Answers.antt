use Rattle.std.specs.Prelude.{replicate}
use Rattle.std.proofs.Common.{◌∙◌, ap}
use Rattle.sbp_bus.proofs.requests.Requests.new.Goals as goal

pub returns : goal.returns
returns c =
    ap (λ x. record { serials = x; requests = c.in_ok-no_requests.field-0.items }) c.in_ok-zeros.ensures.zeros ∙ ap (λ y. record { serials = replicate 1600 0; requests = y }) c.in_ok-no_requests.ensures.none
