use Rattle.std.proofs.Common.{◌≡◌, ◌∙◌, subst, ◌+◌, ◌-◌, length}
use Rattle.packet_store.specs.Kept.{flying, recent}
use Rattle.packet_store.proofs.Sound.{kept_counted}
use Rattle.packet_store.proofs.store.Store.kept.Goals as goal

pub returns-clause-shares : goal.returns-clause-shares
returns-clause-shares c =
    subst (λ store. c.len.result ≡ length (flying store.kept) + length (recent (store.last - 1024) store.kept)) c.self.view_is
    (c.len.ensures ∙ kept_counted _ _ _ _ c.self.invariant.sound)
