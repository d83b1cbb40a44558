-- The packets of a slab under their serials, and what ties the slab and its two indexes to each other.
use Rattle.std.specs.Prelude.{◌≡◌, ◌≢◌, ℕ, ◌==◌, Bool, true, false, if◌then◌else◌, List, Option, Some, None}
use Rattle.slab.specs.Slab.{Slab, get}
use Rattle.packet_store.specs.declared.sent.Kept.{Kept}
use Rattle.packet_store.specs.declared.ring.Place.{Place}
use Rattle.packet_store.specs.declared.packets.Packets.{Packets}
use Rattle.packet_store.specs.declared.transaction.Transaction.{Transaction}
use Rattle.packet_store.specs.Transactions.{belongs, transaction_of}
use Rattle.packet_store.specs.Bags.{AreFull, IsAlone, NoneGone, one_if, times, with_gone}
use Rattle.packet_store.specs.Rings.{finds, IsRing}

-- the key of a place
abbrev pub key_in : Option Place → Option ℕ
key_in None = None
key_in (Some place) = Some place.key

-- what a slab has under a key
abbrev pub kept_in : Slab Kept → Option ℕ → Option Kept
kept_in slab None = None
kept_in slab (Some key) = get slab key

-- the packet of a serial
unfoldable pub holds : Packets → ℕ → Option Kept
holds packets serial = kept_in packets.slab (key_in (finds packets.ring serial))

-- a packet, where there is one, belongs to a transaction
abbrev pub is_among : Transaction → Option Kept → Bool
is_among t None = false
is_among t (Some k) = belongs t k.sent

-- Both indexes have the keys of the kept packets that belong there, each once, and no other key.
pub record AreTied (slab : Slab Kept) (by_serial : ℕ → Option Place) (by_transaction : Transaction → ℕ → ℕ) : Type 0 where
  pub kept : (q : ℕ) (x : Place) → by_serial q ≡ Some x → (k : Kept) × (get slab x.key ≡ Some k) × (k.serial ≡ q)
  pub found : (key : ℕ) (k : Kept) → get slab key ≡ Some k → by_serial k.serial ≡ Some (record { serial = k.serial; key = key; transaction = transaction_of k.sent })
  pub bagged : (t : Transaction) (key : ℕ) → by_transaction t key ≡ one_if (is_among t (get slab key))

pub record Exact (packets : Packets) : Type 0 where
  pub ring : IsRing packets.ring
  pub tied : AreTied packets.slab (finds packets.ring) (times packets.bags)
  pub full : AreFull packets.bags

-- Exact but for the keys that leave, which stand in no bag: in that of the transaction that was begun stands the key of
-- this serial alone.
pub record IsGoing (packets : Packets) (begun : Option Transaction) (gone : List ℕ) (serial : ℕ) : Type 0 where
  pub ring : IsRing packets.ring
  pub tied : AreTied packets.slab (finds packets.ring) (with_gone (times packets.bags) begun gone)
  pub full : AreFull packets.bags
  pub own : ℕ
  pub placed : key_in (finds packets.ring serial) ≡ Some own
  pub alone : IsAlone (times packets.bags) begun own
  pub none : NoneGone begun gone

-- a packet, where there is one, belongs to a transaction, where one was begun
abbrev pub is_begun : Option Transaction → Option Kept → Bool
is_begun None o = false
is_begun (Some t) o = is_among t o

-- a packet of the transaction that was begun leaves, of another serial than this one
pub record Goes (packets after : Packets) (begun : Option Transaction) (gone : List ℕ) (serial : ℕ) (kept : Kept) : Type 0 where
  pub going : IsGoing after begun gone serial
  pub was : holds packets kept.serial ≡ Some kept
  pub among : is_begun begun (Some kept) ≡ true
  pub other : kept.serial ≢ serial
  pub removed : (q : ℕ) → holds after q ≡ (if kept.serial == q then None else holds packets q)
