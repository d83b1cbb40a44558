-- What is left to send.
use Rattle.std.specs.Prelude.{◌≡◌, ℕ, List, [], ◌∷◌, refl}
use Rattle.std.proofs.Common.{◌∙◌, ap, sym}
use Rattle.sbp_journal.specs.declared.outbox.Outgoing.{Outgoing}
use Rattle.sbp_bus.specs.Buses.{BusState}
use Rattle.sbp_bus.specs.Sending.{sent, sent_all}

sent_one : (from : ℕ) (packet : Outgoing) (later : List Outgoing) (b : BusState) → sent_all from later (sent from packet b) ≡ sent_all from (packet ∷ later) b
unfolding sent_all
sent_one from packet later b = refl

pub sent_more : (from : ℕ) (all later : List Outgoing) (packet : Outgoing) (b new : BusState) → all ≡ packet ∷ later → new ≡ sent from packet b → sent_all from later new ≡ sent_all from all b
sent_more from all later packet b new e n =
    ap (λ x. sent_all from later x) n ∙ (sent_one from packet later b ∙ ap (λ x. sent_all from x b) (sym e))

sent_empty : (from : ℕ) (b : BusState) → sent_all from [] b ≡ b
unfolding sent_all
sent_empty from b = refl

pub sent_none : (from : ℕ) (all : List Outgoing) (b : BusState) → all ≡ [] → b ≡ sent_all from all b
sent_none from all b e = sym (ap (λ x. sent_all from x b) e ∙ sent_empty from b)
