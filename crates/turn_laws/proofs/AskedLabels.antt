-- Whether a request finds a label depends on the labels of the layer alone: not on what its transactions are for, nor on the requests that it remembers.
use Rattle.std.proofs.Common.{◌≡◌, ◌∙◌, refl, sym, ap, ℕ, zero, suc, ◌+◌, not, nat_lt, Bool, true, false, cond, List, [], ◌∷◌, length, Option, Some, None, Result, Ok, Err}
use Rattle.std.specs.Prelude.{position, slice_index_or, slice_set}
use Rattle.std.specs.List.{prefix_len}
use Rattle.async_packet.specs.Labels.{LabelParts}
use Rattle.label_table.specs.Bodies.{Body}
use Rattle.label_table.specs.declared.judgement.Asked.{Asked}
use Rattle.label_table.specs.declared.reply.NoLabel.{NoLabel}
use Rattle.label_table.specs.Filter.{SourcePlace}
use Rattle.label_table.specs.Layer.{Layer, asked_at, asking_in, asking_step, disowning_in, disowning_step, peer_at, peer_place, unlabelled}
use Rattle.label_table.specs.Owned.{is_owned_by, or_else, owned_place}
use Rattle.label_table.specs.Peers.{PeerPlace, begun_for, disown_place, no_peer, peer_of, with_purpose}
use Rattle.label_table.specs.Table.{Table, begin_step, is_current}

-- a request, by the labels of its peer
abbrev first_label : Result LabelParts NoLabel × (Table × List ℕ) → Option Asked
first_label (Ok label, (table, bytes)) = Some (record { label = label; bytes = bytes })
first_label (Err none, (table, bytes)) = None

module _ {P : Type 0} where
  -- places of the same peers with the same labels
  abbrev pub Same : List (PeerPlace P) → List (PeerPlace P) → Type 0
  Same [] [] = Unit {0}
  Same [] (b ∷ ys) = ⊥
  Same (a ∷ xs) [] = ⊥
  Same (a ∷ xs) (b ∷ ys) = (a.peer ≡ b.peer) × (a.table ≡ b.table) × Same xs ys

  pub same_self : (xs : List (PeerPlace P)) → Same xs xs
  same_self [] = tt
  same_self (a ∷ xs) = (refl, refl, same_self xs)

  same_then : (xs ys zs : List (PeerPlace P)) → Same xs ys → Same ys zs → Same xs zs
  same_then [] [] [] p q = tt
  same_then [] [] (c ∷ zs) p q = absurd q
  same_then [] (b ∷ ys) zs p q = absurd p
  same_then (a ∷ xs) [] zs p q = absurd p
  same_then (a ∷ xs) (b ∷ ys) [] p q = absurd q
  same_then (a ∷ xs) (b ∷ ys) (c ∷ zs) p q = (p.0 ∙ q.0, p.1 ∙ q.1, same_then xs ys zs p.2 q.2)

  lengths : (xs ys : List (PeerPlace P)) → Same xs ys → length xs ≡ length ys
  lengths [] [] p = refl
  lengths [] (b ∷ ys) p = absurd p
  lengths (a ∷ xs) [] p = absurd p
  lengths (a ∷ xs) (b ∷ ys) p = ap suc (lengths xs ys p.2)

  tables : (xs ys : List (PeerPlace P)) (k : ℕ) → Same xs ys → (slice_index_or xs k no_peer).table ≡ (slice_index_or ys k no_peer).table
  tables [] [] k p = refl
  tables [] (b ∷ ys) k p = absurd p
  tables (a ∷ xs) [] k p = absurd p
  tables (a ∷ xs) (b ∷ ys) zero p = p.1
  tables (a ∷ xs) (b ∷ ys) (suc k) p = tables xs ys k p.2

  -- the place of a peer
  abbrev away : Option ℕ → PeerPlace P → Bool
  away who place = not (is_owned_by peer_of who place)

  prefixes : (who : Option ℕ) (xs ys : List (PeerPlace P)) → Same xs ys → prefix_len (away who) xs ≡ prefix_len (away who) ys
  prefixes who [] [] p = refl
  prefixes who [] (b ∷ ys) p = absurd p
  prefixes who (a ∷ xs) [] p = absurd p
  prefixes who (a ∷ xs) (b ∷ ys) p =
      ap (λ n. cond (away who a) (1 + n) 0) (prefixes who xs ys p.2) ∙ ap (λ x. cond (away who (record b { peer = x })) (1 + prefix_len (away who) ys) 0) p.0

  positions : (who : Option ℕ) (xs ys : List (PeerPlace P)) → Same xs ys → position (is_owned_by peer_of who) xs ≡ position (is_owned_by peer_of who) ys
  positions who xs ys p =
      ap (λ n. cond (nat_lt n (length xs)) (Some n) None) (prefixes who xs ys p)
      ∙ ap (λ m. cond (nat_lt (prefix_len (away who) ys) m) (Some (prefix_len (away who) ys)) None) (lengths xs ys p)

  owned : (node : ℕ) (xs ys : List (PeerPlace P)) → Same xs ys → owned_place peer_of node xs ≡ owned_place peer_of node ys
  unfolding owned_place
  owned node xs ys p =
      ap (λ x. or_else x (position (is_owned_by peer_of None) xs)) (positions (Some node) xs ys p)
      ∙ ap (λ x. or_else (position (is_owned_by peer_of (Some node)) ys) x) (positions None xs ys p)

  asked_first : (k : ℕ) (layer : Layer P) (place : PeerPlace P) (peer : ℕ) (purpose : P) (r : Result LabelParts NoLabel × (Table × List ℕ)) → (asked_at k layer (begun_for place peer purpose r)).0 ≡ first_label r
  asked_first k layer place peer purpose (Ok label, (table, bytes)) = refl
  asked_first k layer place peer purpose (Err none, (table, bytes)) = refl

  abbrev label_by : Option ℕ → List (PeerPlace P) → List ℕ → Option Asked
  label_by None peers bytes = None
  label_by (Some k) peers bytes = first_label (begin_step (slice_index_or peers k no_peer).table bytes)

  asked_in : (place : Option ℕ) (layer : Layer P) (peer : ℕ) (bytes : List ℕ) (purpose : P) → (asking_in place layer peer bytes purpose).0 ≡ label_by place layer.peers bytes
  asked_in None layer peer bytes purpose = refl
  asked_in (Some k) layer peer bytes purpose = asked_first k layer (peer_at layer k) peer purpose (begin_step (peer_at layer k).table bytes)

  asked_is : (layer : Layer P) (peer : ℕ) (body : Body) (purpose : P) → (asking_step layer peer body purpose).0 ≡ label_by (peer_place peer layer) layer.peers (unlabelled layer peer body)
  unfolding asking_step
  asked_is layer peer body purpose = asked_in (peer_place peer layer) layer peer (unlabelled layer peer body) purpose

  labels_same : (place : Option ℕ) (xs ys : List (PeerPlace P)) (bytes : List ℕ) → Same xs ys → label_by place xs bytes ≡ label_by place ys bytes
  labels_same None xs ys bytes p = refl
  labels_same (Some k) xs ys bytes p = ap (λ (t : Table). first_label (begin_step t bytes)) (tables xs ys k p)

  -- a layer of the same node with the same labels
  pub record Alike (before now : Layer P) : Type 0 where
    pub node : now.node ≡ before.node
    pub peers : Same now.peers before.peers

  pub alike_self : (layer : Layer P) → Alike layer layer
  alike_self layer = record { node = refl; peers = same_self layer.peers }

  pub alike_then : (a b c : Layer P) → Alike a b → Alike b c → Alike a c
  alike_then a b c p q = record { node = q.node ∙ p.node; peers = same_then c.peers b.peers a.peers q.peers p.peers }

  -- it finds the same label for a request
  pub finds_alike : (before now : Layer P) → Alike before now → (peer : ℕ) (body : Body) (purpose : P) → (asking_step now peer body purpose).0 ≡ (asking_step before peer body purpose).0
  finds_alike before now a peer body purpose =
      asked_is now peer body purpose
      ∙ ap (λ place. label_by place now.peers (unlabelled now peer body)) (owned peer now.peers before.peers a.peers)
      ∙ labels_same (peer_place peer before) now.peers before.peers (unlabelled now peer body) a.peers
      ∙ ap (λ n. label_by (peer_place peer before) before.peers (unlabelled (record now { node = n }) peer body)) a.node
      ∙ sym (asked_is before peer body purpose)

  -- another memory of requests
  pub filter_alike : (layer : Layer P) (filter : List SourcePlace) → Alike layer (record layer { filter = filter })
  filter_alike layer filter = record { node = refl; peers = same_self layer.peers }

  -- a transaction that is left to nobody
  abbrev left : PeerPlace P → LabelParts → Bool → PeerPlace P
  left place label b = cond b (with_purpose place place.table label.number None) place

  left_same : (place : PeerPlace P) (label : LabelParts) (b : Bool) → ((left place label b).peer ≡ place.peer) × ((left place label b).table ≡ place.table)
  left_same place label true = (refl, refl)
  left_same place label false = (refl, refl)

  disowned_table : (place : PeerPlace P) (label : LabelParts) → ((disown_place place label).peer ≡ place.peer) × ((disown_place place label).table ≡ place.table)
  disowned_table place label = left_same place label (is_current place.table label)

  set_same : (peers : List (PeerPlace P)) (k : ℕ) (label : LabelParts) → Same (slice_set peers k (disown_place (slice_index_or peers k no_peer) label)) peers
  set_same [] k label = tt
  set_same (a ∷ xs) zero label = let d = disowned_table a label in (d.0, d.1, same_self xs)
  set_same (a ∷ xs) (suc k) label = (refl, refl, set_same xs k label)

  disowned_in : (place : Option ℕ) (layer : Layer P) (label : LabelParts) → Alike layer (disowning_in place layer label)
  disowned_in None layer label = alike_self layer
  disowned_in (Some k) layer label = record { node = refl; peers = set_same layer.peers k label }

  pub disowned_alike : (layer : Layer P) (peer : ℕ) (label : LabelParts) → Alike layer (disowning_step layer peer label)
  unfolding disowning_step
  disowned_alike layer peer label = disowned_in (peer_place peer layer) layer label
