-- The index by transaction as a function: how many times it has a key.
use Rattle.std.specs.Prelude.{◌≡◌, ℕ, ◌+◌, ◌<◌, ◌==◌, ◌&&◌, Bool, List, [], Option, Some, None, if◌then◌else◌}
use Rattle.std.specs.List.{count_by}
use Rattle.std.specs.Map.{lookup}
use Rattle.smallvec.specs.SmallVec.{SmallVec}
use Rattle.packet_store.specs.declared.transaction.Transaction.{Transaction}
use Rattle.packet_store.specs.declared.bags.Bags.{Bags}
use Rattle.packet_store.specs.Transactions.{is_same, is_that}

abbrev pub one_if : Bool → ℕ
one_if b = if b then 1 else 0

-- how many times a list has a key
abbrev pub count_of : ℕ → List ℕ → ℕ
count_of key keys = count_by (λ k. k == key) keys

-- the keys of a bag, and none of no bag
abbrev pub keys_of : Option (SmallVec ℕ) → List ℕ
keys_of None = []
keys_of (Some bag) = bag.items

abbrev pub bag_at : List (Transaction × SmallVec ℕ) → Transaction → List ℕ
bag_at entries t = keys_of (lookup (is_same t) entries)

-- how many times the bag of a transaction has a key
unfoldable pub times : Bags → Transaction → ℕ → ℕ
times bags t key = count_of key (bag_at bags.bags.entries t)

-- a bag has a key
abbrev pub HasKey : SmallVec ℕ → Type 0
HasKey bag = (k : ℕ) × (0 < count_of k bag.items)

-- each bag has a key
pub record AreFull (bags : Bags) : Type 0 where
  pub key : (t : Transaction) (bag : SmallVec ℕ) → lookup (is_same t) bags.bags.entries ≡ Some bag → HasKey bag

-- the transaction that a packet begins, of the one that it belongs to
abbrev pub begun_if : Bool → Option Transaction → Option Transaction
begun_if begins transaction = if begins then transaction else None

-- how many times there is a key in bags and, of a transaction that was begun, among the keys that leave
abbrev pub with_gone : (Transaction → ℕ → ℕ) → Option Transaction → List ℕ → Transaction → ℕ → ℕ
with_gone m begun gone t k = m t k + (if is_that t begun then count_of k gone else 0)

-- the bag of a transaction that was begun has one key
abbrev pub IsAlone : (Transaction → ℕ → ℕ) → Option Transaction → ℕ → Type 0
IsAlone m None key = Unit {0}
IsAlone m (Some t) key = (k : ℕ) → m t k ≡ one_if (key == k)

-- no key leaves where no transaction is begun
abbrev pub NoneGone : Option Transaction → List ℕ → Type 0
NoneGone None gone = gone ≡ []
NoneGone (Some t) gone = Unit {0}

-- a key more, and those that leave
pub record Inserts (before after : Transaction → ℕ → ℕ) (transaction begun : Option Transaction) (key : ℕ) (gone : List ℕ) : Type 0 where
  pub added : (t : Transaction) (k : ℕ) → with_gone after begun gone t k ≡ one_if (is_that t transaction && (key == k)) + before t k
  pub alone : IsAlone after begun key
  pub none : NoneGone begun gone
