use Rattle.std.proofs.Common.{◌≡◌, subst, IfSome, IfNone}
use Rattle.packet_store.specs.Kept.{flying, first, IsLowest, NoneFlies}
use Rattle.packet_store.proofs.Flights.{rise_of}
use Rattle.packet_store.proofs.Airborne.{first_least, is_lowest, none_airborne}
use Rattle.packet_store.proofs.store.Store.lowest.Goals as goal

pub returns-clause-first : goal.returns-clause-first
returns-clause-first c =
    subst (λ store. c.lowest.result ≡ first (flying store.kept)) c.self.view_is
    (first_least 0 _ _ _ (rise_of _ _ _ _ c.self.invariant.sound) c.lowest.ensures)

pub returns-clause-lowest : goal.returns-clause-lowest
returns-clause-lowest c =
    subst (λ store. IfSome c.lowest.result (IsLowest store.kept)) c.self.view_is
    (is_lowest 0 _ _ _ (rise_of _ _ _ _ c.self.invariant.sound) c.lowest.ensures)

pub returns-clause-none : goal.returns-clause-none
returns-clause-none c =
    subst (λ store. IfNone c.lowest.result (NoneFlies store.kept)) c.self.view_is
    (none_airborne 0 _ _ _ (rise_of _ _ _ _ c.self.invariant.sound) c.lowest.ensures)
