use Rattle.std.proofs.Common.{◌≡◌, ◌∙◌, sym, subst}
use Rattle.packet_store.specs.Kept.{is_flying}
use Rattle.packet_store.proofs.Flights.{rise_of, in_air_is}
use Rattle.packet_store.proofs.store.Store.is_in_flight.Goals as goal

pub returns : goal.returns
returns c =
    subst (λ store. c.is_flying.result ≡ is_flying c.args.serial store.kept) c.self.view_is
    (c.is_flying.ensures ∙ sym (in_air_is c.args.serial 0 _ _ (rise_of _ _ _ _ c.self.invariant.sound)))
