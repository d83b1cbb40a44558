-- The handle of a transaction has the generation of the layer that it is of.
use Rattle.sbp_world.proofs.Words.Std.{arith, subst}
use Rattle.sbp_world.proofs.Words.Wire.{LabelParts, Asked, Stale, Body, asked_at, asking_in, asking_step, expired_at, expiring_in, expiring_step, peer_at, unlabelled, owned_place, begun_for, expired_for, no_peer, peer_of, Table, begin_at, begin_step, expire_in, expire_step, has_serial, is_current, lowest_from, place_at, Node}
use Rattle.std.specs.Prelude.{◌≡◌, ℕ, ◌&&◌, nat_eq, Bool, true, false, List, Option, Some, None, Result, Ok, Err, refl}
use Rattle.label_table.proofs.Owned.{holds}
use Rattle.bus_transactions.proofs.Places.{Places}

-- ---- of a request that is asked
abbrev HasGeneration : ℕ → Option Asked × Node → Type 0
HasGeneration generation (Some asked, new) = asked.label.generation ≡ generation
HasGeneration generation (None, new) = Unit {0}

begun_in : (layer : Node) (peer k : ℕ) (bytes : List ℕ) (number : Option ℕ) → HasGeneration (peer_at layer k).table.generation (asked_at k layer (begun_for (peer_at layer k) peer tt (begin_at number (peer_at layer k).table bytes)))
begun_in layer peer k bytes None = tt
begun_in layer peer k bytes (Some number) = refl

asked_in : (layer : Node) (peer : ℕ) (bytes : List ℕ) (found : Option ℕ) → Places layer.generation layer.peers → owned_place peer_of peer layer.peers ≡ found → HasGeneration layer.generation (asking_in found layer peer bytes tt)
unfolding begin_step
asked_in layer peer bytes None p e = tt
asked_in layer peer bytes (Some k) p e =
    subst (λ g. HasGeneration g (asking_in (Some k) layer peer bytes tt)) (p.current k (holds peer_of no_peer peer layer.peers k e).below)
    (begun_in layer peer k bytes (lowest_from 0 bytes (peer_at layer k).table.places))

asked_by : (layer : Node) (peer : ℕ) (body : Body) → Places layer.generation layer.peers → HasGeneration layer.generation (asking_step layer peer body tt)
unfolding asking_step
asked_by layer peer body p = asked_in layer peer (unlabelled layer peer body) (owned_place peer_of peer layer.peers) p refl

pub asked_generation : (layer : Node) (peer : ℕ) (body : Body) (asked : Asked) (new : Node) → Places layer.generation layer.peers → asking_step layer peer body tt ≡ (Some asked, new) → asked.label.generation ≡ layer.generation
asked_generation layer peer body asked new p e = subst (HasGeneration layer.generation) e (asked_by layer peer body p)

-- ---- of one that times out
abbrev IsNow : ℕ → LabelParts → Result (Option (Unit {0})) Stale × Node → Type 0
IsNow generation label (Ok purpose, new) = label.generation ≡ generation
IsNow generation label (Err stale, new) = Unit {0}

now_by : (table : Table) (label : LabelParts) → is_current table label ≡ true → label.generation ≡ table.generation
unfolding is_current
now_by table label e = by_test (nat_eq table.generation label.generation) (has_serial (place_at table label.number).state label.serial) refl e
  where
    by_test : (a b : Bool) → nat_eq table.generation label.generation ≡ a → (a && b) ≡ true → label.generation ≡ table.generation
    by_test true b f e = grind arith
    by_test false b f e = cc

expired_as : (layer : Node) (k : ℕ) (label : LabelParts) (now : Bool) → is_current (peer_at layer k).table label ≡ now → IsNow (peer_at layer k).table.generation label (expired_at k layer (expired_for (peer_at layer k) label (expire_in now (peer_at layer k).table label)))
expired_as layer k label false e = tt
expired_as layer k label true e = now_by (peer_at layer k).table label e

expired_in : (layer : Node) (peer : ℕ) (label : LabelParts) (found : Option ℕ) → Places layer.generation layer.peers → owned_place peer_of peer layer.peers ≡ found → IsNow layer.generation label (expiring_in found layer label)
unfolding expire_step
expired_in layer peer label None p e = tt
expired_in layer peer label (Some k) p e =
    subst (λ g. IsNow g label (expiring_in (Some k) layer label)) (p.current k (holds peer_of no_peer peer layer.peers k e).below)
    (expired_as layer k label (is_current (peer_at layer k).table label) refl)

expired_by : (layer : Node) (peer : ℕ) (label : LabelParts) → Places layer.generation layer.peers → IsNow layer.generation label (expiring_step layer peer label)
unfolding expiring_step
expired_by layer peer label p = expired_in layer peer label (owned_place peer_of peer layer.peers) p refl

pub expired_generation : (layer : Node) (peer : ℕ) (label : LabelParts) (purpose : Option (Unit {0})) (new : Node) → Places layer.generation layer.peers → expiring_step layer peer label ≡ (Ok purpose, new) → label.generation ≡ layer.generation
expired_generation layer peer label purpose new p e = subst (IsNow layer.generation label) e (expired_by layer peer label p)
