-- A transaction layer without what its transactions are for takes the same steps.
use Rattle.bus_transactions.proofs.Rooms.{position_map}
use Rattle.std.specs.Prelude.{◌≡◌, ℕ, zero, suc, ◌+◌, nat_lt, is_some, Bool, true, false, cond, List, [], ◌∷◌, map, replicate, position, slice_set, slice_index_or, Option, Some, None, Result, Ok, Err, refl}
use Rattle.std.proofs.Common.{sym, ◌∙◌, ap}
use Rattle.std.proofs.lemmas.List.{map-set}
use Rattle.std.proofs.Math.ListN.{get_or-map}
use Rattle.async_packet.specs.declared.fault.PacketFault.{PacketFault}
use Rattle.async_packet.specs.Labels.{LabelParts}
use Rattle.async_packet.specs.Packet.{Packet, header_in}
use Rattle.async_packet.specs.Reading.{reading}
use Rattle.label_table.specs.declared.reply.ReplyKind.{ReplyKind}
use Rattle.label_table.specs.declared.reply.NoLabel.{NoLabel}
use Rattle.label_table.specs.declared.reply.Stale.{Stale}
use Rattle.label_table.specs.Bodies.{Body}
use Rattle.label_table.specs.Requests.{reply_kind}
use Rattle.label_table.specs.Table.{Table, begin_step, close_step, expire_step, is_current}
use Rattle.label_table.specs.Judging.{Row, by_generation, by_grammar, by_label, by_response, by_again, by_request, row_of}
use Rattle.label_table.specs.Owned.{owned_place, or_else, is_owned_by}
use Rattle.label_table.specs.Peers.{PeerPlace, peer_of, no_peer, with_purpose, begun_for, closed_for, expired_for, disown_place, clear_place}
use Rattle.label_table.specs.Layer.{Layer, peer_at, peer_place, with_peer, unlabelled, asked_at, asking_in, asking_step, closed_at, closing_in, closing_step, closed_by, facts_in, facts_of, responded, judged_by, judging_step, answering_step, expired_at, expiring_in, expiring_step, disowning_in, disowning_step, seen_in_generation, seeing_step}
use Rattle.bus_transactions.specs.Wire.{Node}
use Rattle.bus_transactions.specs.Bare.{bare_purpose, bare_place, bare, bare_finding, bare_result, bare_after, same, TakesSteps}

none_bare : (P : Type 0) (n : ℕ) → map (bare_purpose {P = P}) (replicate n None) ≡ replicate n None
none_bare P zero = refl
none_bare P (suc n) = ap (λ xs. None ∷ xs) (none_bare P n)

peer_bare : (P : Type 0) → bare_place {P = P} no_peer ≡ no_peer
peer_bare P = ap (λ xs. record { peer = None; table = (no_peer {P = P}).table; purposes = xs }) (none_bare P 64)

module _ {P : Type 0} where
  -- the place of a peer
  owned_bare : (s : ℕ) (peers : List (PeerPlace P)) → owned_place peer_of s (map bare_place peers) ≡ owned_place peer_of s peers
  unfolding owned_place
  owned_bare s peers =
      ap (λ o. or_else o (position (is_owned_by peer_of None) (map bare_place peers))) (position_map (is_owned_by peer_of (Some s)) bare_place peers)
      ∙ ap (or_else (position (is_owned_by peer_of (Some s)) peers)) (position_map (is_owned_by peer_of None) bare_place peers)

  at_bare : (layer : Layer P) (k : ℕ) → peer_at (bare layer) k ≡ bare_place (peer_at layer k)
  at_bare layer k = ap (slice_index_or (map bare_place layer.peers) k) (sym (peer_bare P)) ∙ get_or-map bare_place layer.peers k no_peer

  -- a place with another purpose, and a layer with another place
  purpose_bare : (place : PeerPlace P) (table : Table) (n : ℕ) (q : Option P) → with_purpose (bare_place place) table n (bare_purpose q) ≡ bare_place (with_purpose place table n q)
  purpose_bare place table n q = ap (λ xs. record { peer = place.peer; table = table; purposes = xs }) (sym (map-set bare_purpose place.purposes n q))

  set_bare : (layer : Layer P) (k : ℕ) (x : PeerPlace (Unit {0})) (y : PeerPlace P) → x ≡ bare_place y → with_peer (bare layer) k x ≡ bare (with_peer layer k y)
  set_bare layer k x y e =
      ap (with_peer (bare layer) k) e
      ∙ ap (λ xs. record { generation = layer.generation; node = layer.node; calls = layer.calls + 1; peers = xs; filter = layer.filter }) (sym (map-set bare_place layer.peers k y))

  -- ---- asking
  begun_bare : (layer : Layer P) (k peer : ℕ) (purpose : P) (place : PeerPlace P) (r : Result LabelParts NoLabel × (Table × List ℕ)) → asked_at k (bare layer) (begun_for (bare_place place) peer tt r) ≡ bare_after same (asked_at k layer (begun_for place peer purpose r))
  begun_bare layer k peer purpose place (Ok label, (table, bytes)) =
      ap (λ l. (Some (record { label = label; bytes = bytes }), l)) (set_bare layer k _ _ (purpose_bare (record place { peer = Some peer }) table label.number (Some purpose)))
  begun_bare layer k peer purpose place (Err none, (table, bytes)) = refl

  ask_bare : (layer : Layer P) (peer : ℕ) (bytes : List ℕ) (purpose : P) (place : Option ℕ) → asking_in place (bare layer) peer bytes tt ≡ bare_after same (asking_in place layer peer bytes purpose)
  ask_bare layer peer bytes purpose None = refl
  ask_bare layer peer bytes purpose (Some k) =
      ap (λ x. asked_at k (bare layer) (begun_for x peer tt (begin_step x.table bytes))) (at_bare layer k)
      ∙ begun_bare layer k peer purpose (peer_at layer k) (begin_step (peer_at layer k).table bytes)

  asks_bare : (layer : Layer P) (peer : ℕ) (body : Body) (purpose : P) → asking_step (bare layer) peer body tt ≡ bare_after same (asking_step layer peer body purpose)
  unfolding asking_step
  asks_bare layer peer body purpose =
      ap (λ o. asking_in o (bare layer) peer (unlabelled (bare layer) peer body) tt) (owned_bare peer layer.peers)
      ∙ ask_bare layer peer (unlabelled layer peer body) purpose (peer_place peer layer)

  -- ---- closing
  abbrev bare_closed : Option (LabelParts × Option P) → Option (LabelParts × Option (Unit {0}))
  bare_closed None = None
  bare_closed (Some (label, purpose)) = Some (label, bare_purpose purpose)

  close_bare : (layer : Layer P) (k : ℕ) (place : PeerPlace P) (c : Option LabelParts × Table) → closed_at k (bare layer) (closed_for (bare_place place) c) ≡ bare_after bare_closed (closed_at k layer (closed_for place c))
  close_bare layer k place (Some label, table) =
      ap (λ o. (Some (label, o), with_peer (bare layer) k (with_purpose (bare_place place) table label.number None))) (get_or-map bare_purpose place.purposes label.number None)
      ∙ ap (λ l. (Some (label, bare_purpose (slice_index_or place.purposes label.number None)), l)) (set_bare layer k _ _ (purpose_bare place table label.number None))
  close_bare layer k place (None, table) = refl

  closing_bare : (layer : Layer P) (n : ℕ) (kind : ReplyKind) (place : Option ℕ) → closing_in place (bare layer) n kind ≡ bare_after bare_closed (closing_in place layer n kind)
  closing_bare layer n kind None = refl
  closing_bare layer n kind (Some k) =
      ap (λ x. closed_at k (bare layer) (closed_for x (close_step x.table n kind))) (at_bare layer k)
      ∙ close_bare layer k (peer_at layer k) (close_step (peer_at layer k).table n kind)

  closes_bare : (layer : Layer P) (peer n : ℕ) (kind : ReplyKind) → closing_step (bare layer) peer n kind ≡ bare_after bare_closed (closing_step layer peer n kind)
  unfolding closing_step
  closes_bare layer peer n kind =
      ap (λ o. closing_in o (bare layer) n kind) (owned_bare peer layer.peers) ∙ closing_bare layer n kind (peer_place peer layer)

  closed_bare : (layer : Layer P) (p : Packet) (kind : Option ReplyKind) → closed_by kind (bare layer) p ≡ bare_after bare_closed (closed_by kind layer p)
  closed_bare layer p None = refl
  closed_bare layer p (Some kind) = closes_bare layer (header_in p).source (header_in p).label kind

  -- ---- judging
  some_bare : (c : Option (LabelParts × Option P) × Layer P) → is_some (bare_after bare_closed c).0 ≡ is_some c.0
  some_bare (Some (label, purpose), layer) = refl
  some_bare (None, layer) = refl

  facts_bare : (layer : Layer P) (g : ℕ) (bytes : List ℕ) (read : Result Packet PacketFault) → facts_in (bare layer) g bytes read ≡ facts_in layer g bytes read
  facts_bare layer g bytes (Err fault) = refl
  facts_bare layer g bytes (Ok p) =
      ap (λ b. record (facts_in layer g bytes (Ok p)) { is_awaited = b }) (ap (λ c. is_some c.0) (closed_bare layer p (reply_kind p)) ∙ some_bare (closed_by (reply_kind p) layer p))

  responded_bare : (p : Packet) (c : Option (LabelParts × Option P) × Layer P) → responded p (bare_after bare_closed c) ≡ bare_after bare_finding (responded p c)
  responded_bare p (Some (label, purpose), layer) = refl
  responded_bare p (None, layer) = refl

  row_bare : (layer : Layer P) (bytes : List ℕ) (row : Row) (read : Result Packet PacketFault) → judged_by row (bare layer) bytes read ≡ bare_after bare_finding (judged_by row layer bytes read)
  row_bare layer bytes by_generation read = refl
  row_bare layer bytes by_grammar read = refl
  row_bare layer bytes by_label read = refl
  row_bare layer bytes by_response (Ok p) = ap (responded p) (closed_bare layer p (reply_kind p)) ∙ responded_bare p (closed_by (reply_kind p) layer p)
  row_bare layer bytes by_again (Ok p) = refl
  row_bare layer bytes by_request (Ok p) = refl
  row_bare layer bytes by_response (Err fault) = refl
  row_bare layer bytes by_again (Err fault) = refl
  row_bare layer bytes by_request (Err fault) = refl

  judges_bare : (layer : Layer P) (g : ℕ) (bytes : List ℕ) → judging_step (bare layer) g bytes ≡ bare_after bare_finding (judging_step layer g bytes)
  unfolding judging_step
  judges_bare layer g bytes =
      ap (λ f. judged_by (row_of f) (bare layer) bytes (reading bytes)) (facts_bare layer g bytes (reading bytes))
      ∙ row_bare layer bytes (row_of (facts_of layer g bytes)) (reading bytes)

  -- ---- a time-out
  expired_bare : (layer : Layer P) (k : ℕ) (place : PeerPlace P) (label : LabelParts) (r : Result (Unit {0}) Stale × Table) → expired_at k (bare layer) (expired_for (bare_place place) label r) ≡ bare_after bare_result (expired_at k layer (expired_for place label r))
  expired_bare layer k place label (Ok done, table) =
      ap (λ o. (Ok o, with_peer (bare layer) k (with_purpose (bare_place place) table label.number None))) (get_or-map bare_purpose place.purposes label.number None)
      ∙ ap (λ l. (Ok (bare_purpose (slice_index_or place.purposes label.number None)), l)) (set_bare layer k _ _ (purpose_bare place table label.number None))
  expired_bare layer k place label (Err stale, table) = refl

  expire_bare : (layer : Layer P) (label : LabelParts) (place : Option ℕ) → expiring_in place (bare layer) label ≡ bare_after bare_result (expiring_in place layer label)
  expire_bare layer label None = refl
  expire_bare layer label (Some k) =
      ap (λ x. expired_at k (bare layer) (expired_for x label (expire_step x.table label))) (at_bare layer k)
      ∙ expired_bare layer k (peer_at layer k) label (expire_step (peer_at layer k).table label)

  expires_bare : (layer : Layer P) (peer : ℕ) (label : LabelParts) → expiring_step (bare layer) peer label ≡ bare_after bare_result (expiring_step layer peer label)
  unfolding expiring_step
  expires_bare layer peer label =
      ap (λ o. expiring_in o (bare layer) label) (owned_bare peer layer.peers) ∙ expire_bare layer label (peer_place peer layer)

  -- ---- a transaction is left to nobody
  left_bare : (place : PeerPlace P) (label : LabelParts) (b : Bool) → cond b (with_purpose (bare_place place) place.table label.number None) (bare_place place) ≡ bare_place (cond b (with_purpose place place.table label.number None) place)
  left_bare place label true = purpose_bare place place.table label.number None
  left_bare place label false = refl

  disown_bare : (layer : Layer P) (label : LabelParts) (place : Option ℕ) → disowning_in place (bare layer) label ≡ bare (disowning_in place layer label)
  disown_bare layer label None = refl
  disown_bare layer label (Some k) =
      ap (λ x. record (bare layer) { peers = slice_set (map bare_place layer.peers) k (disown_place x label) }) (at_bare layer k)
      ∙ ap (λ x. record (bare layer) { peers = slice_set (map bare_place layer.peers) k x }) (left_bare (peer_at layer k) label (is_current (peer_at layer k).table label))
      ∙ ap (λ xs. record (bare layer) { peers = xs }) (sym (map-set bare_place layer.peers k (disown_place (peer_at layer k) label)))

  disowns_bare : (layer : Layer P) (peer : ℕ) (label : LabelParts) → disowning_step (bare layer) peer label ≡ bare (disowning_step layer peer label)
  unfolding disowning_step
  disowns_bare layer peer label =
      ap (λ o. disowning_in o (bare layer) label) (owned_bare peer layer.peers) ∙ disown_bare layer label (peer_place peer layer)

  -- ---- a later generation
  cleared_bare : (g : ℕ) (peers : List (PeerPlace P)) → map (clear_place g) (map bare_place peers) ≡ map bare_place (map (clear_place g) peers)
  cleared_bare g [] = refl
  cleared_bare g (p ∷ ps) =
      ap (λ xs. record { peer = None; table = (clear_place g p).table; purposes = xs } ∷ map (clear_place g) (map bare_place ps)) (sym (none_bare P 64))
      ∙ ap (λ xs. bare_place (clear_place g p) ∷ xs) (cleared_bare g ps)

  seen_bare : (layer : Layer P) (g node : ℕ) (b : Bool) → cond {A = Bool × Node} b (true, seen_in_generation (bare layer) g node) (false, bare layer) ≡ bare_after same (cond {A = Bool × Layer P} b (true, seen_in_generation layer g node) (false, layer))
  seen_bare layer g node true = ap (λ xs. (true, record (seen_in_generation (bare layer) g node) { peers = xs })) (cleared_bare g layer.peers)
  seen_bare layer g node false = refl

  sees_bare : (layer : Layer P) (g node : ℕ) → seeing_step (bare layer) g node ≡ bare_after same (seeing_step layer g node)
  unfolding seeing_step
  sees_bare layer g node = seen_bare layer g node (nat_lt layer.generation g)

  answers_bare : (layer : Layer P) (request : Packet) (bytes : List ℕ) (rcode : ℕ) (given : List ℕ) → answering_step (bare layer) request bytes rcode given ≡ bare_after same (answering_step layer request bytes rcode given)
  unfolding answering_step
  answers_bare layer request bytes rcode given = refl

pub takes_steps : (P : Type 0) → TakesSteps P
takes_steps P = record {
  judges = judges_bare;
  answers = answers_bare;
  asks = asks_bare;
  expires = expires_bare;
  disowns = disowns_bare;
  sees = sees_bare;
}
