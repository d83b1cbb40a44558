use Rattle.std.specs.Prelude.{◌≡◌, ◌<◌, ℕ, List, length, nat_eq, position, None}
use Rattle.std.proofs.Common.{◌∙◌, ap, arith}
use Rattle.std.proofs.lemmas.List.{get_or_read}
use Rattle.sbp_bus.specs.Requests.{find, request_at}
use Rattle.sbp_bus.proofs.requests.Requests.find.Goals as goal

pub returns : goal.returns
returns c =
    let s = c.self.inside in
    let place = c.in_ok-place.place in
    let slice = c.as_slice.ensures.value in
    let size : length c.as_slice.result.now ≡ length s.serials.items = ap (λ (xs : List ℕ). length xs) slice in
    let below = c.in_ok-place.ensures.below in
    let serials = c.self.invariant.0 in
    let room = c.self.invariant.1 in
    let inside : place < length s.requests.items = omega (arith, size, below, serials, room) in
    get_or_read s.requests.items place c.index.result.now inside c.index.ensures None
    ∙ ap (request_at (record { serials = s.serials.items; requests = s.requests.items })) (c.in_ok-place.ensures.place ∙ ap (position (nat_eq c.args.serial)) slice)
    ∙ ap (λ v. find v c.args.serial) c.self.view_is
