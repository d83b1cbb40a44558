-- The once law: of the deliveries of a write request at which its receiver has the packet's generation at most one is not ignored as a
-- repeat, where the requester has not injected packets. If its transaction was closed, and the responder has not injected packets either,
-- exactly one is not; and if it was closed with rcode 0, by that one the packet was got, or ignored for its slot.
use Rattle.std.specs.Prelude.{◌≡◌, ◌≤◌, ℕ, false, Some}
use Rattle.sbp_journal.specs.Transactions.{Sending, request, writing, part_of}
use Rattle.sbp_journal.specs.Wire.{Terms, terms}
use Rattle.bus_transactions.specs.Wire.{Wire}

pub record IsOnce (t : Terms) (s : ℕ) (q : Sending) : Type 0 where
  pub most : t.injects q.from ≡ false → t.news s ≤ 1
  pub once : (rcode : ℕ) → t.injects q.from ≡ false → t.injects q.to ≡ false → t.closed s ≡ Some rcode → t.news s ≡ 1

abbrev pub OnceLaw : Wire → Type 0
OnceLaw w = (s label : ℕ) (q : Sending) → (terms w.past).sent s ≡ Some q → q.injected ≡ false → part_of q.bytes ≡ request label writing → IsOnce (terms w.past) s q

-- with the rcode
abbrev pub ServedLaw : Wire → Type 0
ServedLaw w = (s label : ℕ) (q : Sending) → (terms w.past).sent s ≡ Some q → q.injected ≡ false → part_of q.bytes ≡ request label writing → (terms w.past).injects q.from ≡ false → (terms w.past).injects q.to ≡ false → (terms w.past).closed s ≡ Some 0 → (terms w.past).served s ≡ 1
