-- What a write of MANAGEMENT_AGENT starts, by plain facts, so that its goal takes no search.
use Rattle.std.specs.Prelude.{◌≡◌, ℕ, length, List, Some}
use Rattle.std.proofs.Common.{arith}
use Rattle.async_packet.specs.declared.packet.Header.{Header}
use Rattle.async_packet.specs.Packet.{write_block}
use Rattle.orb_layout.specs.Pointers.{offset_at}
use Rattle.target_base.specs.declared.address.Demand.TheVariants as demands
use Rattle.target_base.specs.Addresses.{managed}

pub managed_by : (header : Header) (offset orb : ℕ) (payload : List ℕ) → length payload ≡ 8 → orb ≡ offset_at payload 0 → Some (demands.Manage orb) ≡ managed (write_block header offset payload)
managed_by header offset orb payload h e = grind arith
