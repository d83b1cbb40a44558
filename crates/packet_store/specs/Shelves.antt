-- The packets of a shelf as a list by rising serial: what its packets has under each serial up to the last one.
use Rattle.std.specs.Prelude.{◌≡◌, ℕ, zero, suc, ◌<◌, List, [], ◌∷◌, ◌++◌, Option, Some, None, length}
use Rattle.packet_store.specs.declared.sent.Kept.{Kept}
use Rattle.packet_store.specs.declared.packets.Packets.{Packets}
use Rattle.packet_store.specs.Packets.{holds}

-- what there is, as a list
abbrev pub entry : Option Kept → List Kept
entry None = []
entry (Some k) = k ∷ []

-- what there is under the serials from 1 up to the last one
abbrev pub listed : (ℕ → Option Kept) → ℕ → List Kept
listed f zero = []
listed f (suc last) = listed f last ++ entry (f (suc last))

-- the fields of a shelf fit each other: a packet stands under its serial, from 1 up to the last one
pub record IsShelf (packets : Packets) (last count : ℕ) : Type 0 where
  pub named : (q : ℕ) (k : Kept) → holds packets q ≡ Some k → k.serial ≡ q
  pub first : holds packets 0 ≡ None
  pub ends : (q : ℕ) → last < q → holds packets q ≡ None
  pub counted : count ≡ length (listed (holds packets) last)
