-- The list of the kept packets, by rising serial.
use Rattle.std.specs.Prelude.{◌≡◌, ℕ, ◌<◌, ◌≤◌, ◌==◌, ◌&&◌, nat_lt, Bool, true, false, not, if◌then◌else◌, List, [], ◌∷◌, Option, Some, None}
use Rattle.std.specs.List.{filter, list_any}
use Rattle.packet_store.specs.declared.sent.Sent.{Sent}
use Rattle.packet_store.specs.declared.sent.Kept.{Kept}

-- without the packet of this serial
abbrev pub without : ℕ → List Kept → List Kept
without serial kept = filter (λ k. not (serial == k.serial)) kept

-- the packet of this serial is delivered
abbrev pub delivered : ℕ → Kept → Kept
delivered serial k = if serial == k.serial then record k { in_flight = false } else k

abbrev pub with_delivered : ℕ → List Kept → List Kept
with_delivered serial [] = []
with_delivered serial (k ∷ kept) = delivered serial k ∷ with_delivered serial kept

-- the packet of this serial
abbrev pub found : ℕ → List Kept → Option Kept
found serial [] = None
found serial (k ∷ kept) = if serial == k.serial then Some k else found serial kept

-- what was found is delivered
abbrev pub is_delivered : Option Kept → Bool
is_delivered None = false
is_delivered (Some k) = not k.in_flight

-- what was found is in flight
abbrev pub in_air : Option Kept → Bool
in_air None = false
in_air (Some k) = k.in_flight

-- the serials in flight, rising
abbrev pub flying : List Kept → List ℕ
flying [] = []
flying (k ∷ kept) = if k.in_flight then k.serial ∷ flying kept else flying kept

-- what was sent under a serial
abbrev pub sent_of : Option Kept → Option Sent
sent_of None = None
sent_of (Some k) = Some k.sent

abbrev pub found_sent : ℕ → List Kept → Option Sent
found_sent serial kept = sent_of (found serial kept)

-- a serial is in flight
abbrev pub is_flying : ℕ → List Kept → Bool
is_flying serial kept = list_any (λ s. serial == s) (flying kept)

-- a serial is in flight, and none below it is
pub record IsLowest (kept : List Kept) (serial : ℕ) : Type 0 where
  pub flies : is_flying serial kept ≡ true
  pub least : (other : ℕ) → other < serial → is_flying other kept ≡ false

-- no serial is in flight
abbrev pub NoneFlies : List Kept → Type 0
NoneFlies kept = (serial : ℕ) → is_flying serial kept ≡ false

-- the first of a list
abbrev pub first : List ℕ → Option ℕ
first [] = None
first (x ∷ xs) = Some x

-- the serials rise strictly, from above one to a last one
abbrev pub Rise : (low last : ℕ) → List Kept → Type 0
Rise low last [] = Unit {0}
Rise low last (k ∷ kept) = (low < k.serial) × ((k.serial ≤ last) × Rise k.serial last kept)

-- all serials are below this one
abbrev pub AreBelow : ℕ → List Kept → Type 0
AreBelow serial [] = Unit {0}
AreBelow serial (k ∷ kept) = (k.serial < serial) × AreBelow serial kept

-- the delivered packets above this serial
abbrev pub recent : ℕ → List Kept → List Kept
recent aged kept = filter (λ k. not k.in_flight && nat_lt aged k.serial) kept

-- what was kept is delivered
abbrev pub marked : Option Kept → Option Kept
marked None = None
marked (Some k) = Some (record k { in_flight = false })
