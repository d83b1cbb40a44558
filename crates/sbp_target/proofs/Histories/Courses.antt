-- The labels of a transaction layer are those of what happened to them.
use Rattle.std.proofs.Common.{arith, ◌≡◌, refl, sym, ap, ◌∙◌, subst, ℕ, zero, suc, ◌<◌, ◌&&◌, nat_eq, nat_lt, Bool, true, false, cond, List, [], ◌∷◌, length, map, replicate, slice_set, slice_index_or, Option, Some, None, Result, Ok, Err}
use Rattle.std.proofs.lemmas.List.{set-get_or}
use Rattle.async_packet.specs.Labels.{LabelParts}
use Rattle.async_packet.specs.Packet.{Packet, header_in}
use Rattle.async_packet.specs.Reading.{reading}
use Rattle.async_packet.specs.declared.fault.PacketFault.{PacketFault}
use Rattle.label_table.specs.declared.place.LabelState.{LabelState}
use Rattle.label_table.specs.declared.place.LabelState.TheVariants as states
use Rattle.label_table.specs.declared.reply.ReplyKind.{ReplyKind}
use Rattle.label_table.specs.Bodies.{Body}
use Rattle.label_table.specs.Judging.{Row, by_generation, by_grammar, by_label, by_response, by_again, by_request, row_of}
use Rattle.label_table.specs.Requests.{reply_kind, kind_of, is_kind, with_label}
use Rattle.label_table.specs.Table.{Table, place_at, unused, lowest_from, begin_at, begin_step, with_state, close_in, close_step, is_current, expire_in, expire_step}
use Rattle.label_table.specs.Owned.{owned_place, shown_in}
use Rattle.label_table.specs.Peers.{PeerPlace, peer_of, no_peer, state_for, last_for, begun_for, closed_for, expired_for, with_purpose, clear_place}
use Rattle.label_table.specs.Layer.{Layer, new_layer, peer_at, unlabelled, asked_at, asking_in, asking_step, closed_at, closing_in, closing_step, closed_by, expired_at, expiring_in, expiring_step, disowning_in, disowning_step, seen_in_generation, seeing_step, answering_step, facts_of, responded, judged_by, judging_step}
use Rattle.label_table.specs.History as wire
use Rattle.label_table.proofs.Owned.{holds, set_at, set_shown}
use Rattle.label_table.proofs.Sources.{default_in}
use Rattle.label_table.proofs.Steps.{lowest_below, place_set, state_placed, under_way_below, current_is}
use Rattle.label_table.proofs.Told.{Parts, place_in, state_set, own_of}
use Rattle.sbp_target.specs.declared.purpose.Purpose.{Purpose}
use Rattle.sbp_target.specs.Histories.Labels.{Happening, sent, answered, timed_out, reset, Use, free, under_way, resting, use_of, last_request, closed, asked_of, ran_out, saw, happened}

abbrev pub Places : Type 0
Places = List (PeerPlace Purpose)

abbrev pub use_in : LabelState → Use
use_in states.Free = free
use_in (states.UnderWay kind serial) = under_way
use_in states.Resting = resting

abbrev pub IsBare : Places → Type 0
IsBare peers = (k m : ℕ) → peer_of (place_in peers k) ≡ None → (place_at (place_in peers k).table m).last ≡ None

-- the labels, and their last requests, are as it happened; a place that no peer has has no last request
pub record Agrees (peers : Places) (past : List Happening) : Type 0 where
  pub uses : (t m : ℕ) → use_in (state_for peers t m) ≡ use_of past t m
  pub lasts : (t m : ℕ) → last_for peers t m ≡ last_request past t m
  pub bare : IsBare peers

-- ---- the place of one peer changes
both_same : {B : Type 0} (f : ℕ → ℕ → B) (t s m n : ℕ) (x : B) → cond (nat_eq t s) (cond (nat_eq m n) x (f s m)) (f t m) ≡ cond (nat_eq t s && nat_eq m n) x (f t m)
both_same f t s m n x = grind arith

self_same : {B : Type 0} (f : ℕ → ℕ → B) (t s m : ℕ) → cond (nat_eq t s) (f s m) (f t m) ≡ f t m
self_same f t s m = grind arith

module _ (g s k : ℕ) (peers : Places) (new : PeerPlace Purpose) (parts : Parts g peers) (bare : IsBare peers) (e : owned_place peer_of s peers ≡ Some k) (o : new.peer ≡ Some s) where
  last_was : (m : ℕ) → last_for peers s m ≡ (place_at (place_in peers k).table m).last
  last_was m = rw e refl

  state_was : (m : ℕ) → state_for peers s m ≡ (place_at (place_in peers k).table m).state
  state_was m = rw e refl

  last_shown : (t m : ℕ) → last_for (slice_set peers k new) t m ≡ cond (nat_eq t s) (place_at new.table m).last (last_for peers t m)
  last_shown t m = set_shown peer_of (λ place. (place_at place.table m).last) no_peer None t s peers k new (λ j v. bare j m v) e o

  state_shown : (t m : ℕ) → state_for (slice_set peers k new) t m ≡ cond (nat_eq t s) (place_at new.table m).state (state_for peers t m)
  state_shown t m = set_shown peer_of (λ place. (place_at place.table m).state) no_peer states.Free t s peers k new (λ j v. parts.free j m v) e o

  last_set : (n : ℕ) (x : Option (List ℕ)) → ((m : ℕ) → (place_at new.table m).last ≡ cond (nat_eq m n) x (place_at (place_in peers k).table m).last) → (t m : ℕ) → last_for (slice_set peers k new) t m ≡ cond (nat_eq t s && nat_eq m n) x (last_for peers t m)
  last_set n x is t m = last_shown t m ∙ rw (is m, ← last_was m) (both_same (last_for peers) t s m n x)

  last_kept : ((m : ℕ) → (place_at new.table m).last ≡ (place_at (place_in peers k).table m).last) → (t m : ℕ) → last_for (slice_set peers k new) t m ≡ last_for peers t m
  last_kept is t m = last_shown t m ∙ rw (is m, ← last_was m) (self_same (last_for peers) t s m)

  state_kept : ((m : ℕ) → (place_at new.table m).state ≡ (place_at (place_in peers k).table m).state) → (t m : ℕ) → state_for (slice_set peers k new) t m ≡ state_for peers t m
  state_kept is t m = state_shown t m ∙ rw (is m, ← state_was m) (self_same (state_for peers) t s m)

  bare_set : IsBare (slice_set peers k new)
  bare_set j m v =
      let below = (holds peer_of no_peer s peers k e).below in
      let q = set_at peers k j new no_peer below in
      let a = bare j m in
      grind arith

use_if : (b : Bool) (x y : LabelState) (u v : Use) → use_in x ≡ u → use_in y ≡ v → use_in (cond b x y) ≡ cond b u v
use_if true x y u v h i = h
use_if false x y u v h i = i

last_with_state : (table : Table) (n m : ℕ) (state : LabelState) → n < length table.places → (place_at (with_state table n state) m).last ≡ (place_at table m).last
last_with_state table n m state h = let p = place_set table n m (record (place_at table n) { state = state }) h in grind arith

-- ---- the steps
module _ (layer : Layer Purpose) (past : List Happening) (parts : Parts layer.generation layer.peers) (a : Agrees layer.peers past) where
  begun_agrees : (s k n : ℕ) (bytes : List ℕ) (for : Purpose) → owned_place peer_of s layer.peers ≡ Some k → lowest_from 0 bytes (peer_at layer k).table.places ≡ Some n → Agrees (slice_set layer.peers k (begun_for (peer_at layer k) s for (begin_at (Some n) (peer_at layer k).table bytes)).1.0) (sent s n (with_label n bytes) ∷ past)
  begun_agrees s k n bytes for e found =
      let place = peer_at layer k in
      let small = lowest_below n bytes place.table.places found in
      let new = (begun_for place s for (begin_at (Some n) place.table bytes)).1.0 in
      record {
        uses = λ t m.
            ap (λ (x : LabelState). use_in x) (state_set layer.generation s k n layer.peers new parts e refl (states.UnderWay (kind_of bytes) place.table.calls) (λ m. state_placed place.table n m _ small) t m)
            ∙ use_if (nat_eq t s && nat_eq m n) _ _ under_way (use_of past t m) refl (a.uses t m);
        lasts = λ t m.
            last_set layer.generation s k layer.peers new parts a.bare e refl n (Some (with_label n bytes)) (λ m. let p = place_set place.table n m (record { state = states.UnderWay (kind_of bytes) place.table.calls; last = Some (with_label n bytes) }) small in grind arith) t m
            ∙ ap (λ (x : Option (List ℕ)). cond (nat_eq t s && nat_eq m n) (Some (with_label n bytes)) x) (a.lasts t m);
        bare = bare_set layer.generation s k layer.peers new parts a.bare e refl;
      }

  -- a transaction under way ends
  over_agrees : (s k n r : ℕ) (kind : ReplyKind) (new : LabelState) (now : Use) (after : List Happening) → owned_place peer_of s layer.peers ≡ Some k → (place_at (peer_at layer k).table n).state ≡ states.UnderWay kind r → use_in new ≡ now → ((t m : ℕ) → use_of after t m ≡ cond (nat_eq t s && nat_eq m n) now (use_of past t m)) → ((t m : ℕ) → last_request after t m ≡ last_request past t m) → Agrees (slice_set layer.peers k (with_purpose (peer_at layer k) (with_state (peer_at layer k).table n new) n None)) after
  over_agrees s k n r kind new now after e waits is uses lasts =
      let place = peer_at layer k in
      let small = under_way_below place.table n kind r waits in
      let own = own_of layer.generation s k n r kind layer.peers parts e waits in
      let place' = with_purpose place (with_state place.table n new) n None in
      record {
        uses = λ t m.
            ap (λ (x : LabelState). use_in x) (state_set layer.generation s k n layer.peers place' parts e own new (λ m. state_placed place.table n m _ small) t m)
            ∙ use_if (nat_eq t s && nat_eq m n) _ _ now (use_of past t m) is (a.uses t m) ∙ sym (uses t m);
        lasts = λ t m.
            last_kept layer.generation s k layer.peers place' parts a.bare e own (λ m. last_with_state place.table n m new small) t m ∙ a.lasts t m ∙ sym (lasts t m);
        bare = bare_set layer.generation s k layer.peers place' parts a.bare e own;
      }

  -- asking
  asked_at_agrees : (s k : ℕ) (bytes : List ℕ) (for : Purpose) (label : Option ℕ) → owned_place peer_of s layer.peers ≡ Some k → lowest_from 0 bytes (peer_at layer k).table.places ≡ label → Agrees (asked_at k layer (begun_for (peer_at layer k) s for (begin_at label (peer_at layer k).table bytes))).1.peers (asked_of s (asked_at k layer (begun_for (peer_at layer k) s for (begin_at label (peer_at layer k).table bytes))).0 past)
  asked_at_agrees s k bytes for None e found = a
  asked_at_agrees s k bytes for (Some n) e found = begun_agrees s k n bytes for e found

  asked_in_agrees : (s : ℕ) (bytes : List ℕ) (for : Purpose) (place : Option ℕ) → owned_place peer_of s layer.peers ≡ place → Agrees (asking_in place layer s bytes for).1.peers (asked_of s (asking_in place layer s bytes for).0 past)
  unfolding begin_step
  asked_in_agrees s bytes for None e = a
  asked_in_agrees s bytes for (Some k) e = asked_at_agrees s k bytes for _ e refl

  asks_agrees : (s : ℕ) (body : Body) (for : Purpose) → Agrees (asking_step layer s body for).1.peers (asked_of s (asking_step layer s body for).0 past)
  unfolding asking_step
  asks_agrees s body for = asked_in_agrees s (unlabelled layer s body) for _ refl

  -- a response closes its transaction
  abbrev closing : ℕ → ℕ → Option (LabelParts × Option Purpose) → List Happening
  closing s n None = past
  closing s n (Some r) = answered s n ∷ past

  close_by : (s k n r : ℕ) (kind asked : ReplyKind) (same : Bool) → owned_place peer_of s layer.peers ≡ Some k → (place_at (peer_at layer k).table n).state ≡ states.UnderWay kind r → is_kind kind asked ≡ same → Agrees (closed_at k layer (closed_for (peer_at layer k) (close_in (states.UnderWay kind r) asked (peer_at layer k).table n))).1.peers (closing s n (closed_at k layer (closed_for (peer_at layer k) (close_in (states.UnderWay kind r) asked (peer_at layer k).table n))).0)
  close_by s k n r kind asked true e waits same =
      rw same (over_agrees s k n r kind states.Free free (answered s n ∷ past) e waits refl (λ t m. refl) (λ t m. refl))
  close_by s k n r kind asked false e waits same = rw same a

  close_at : (s k n : ℕ) (asked : ReplyKind) (state : LabelState) → owned_place peer_of s layer.peers ≡ Some k → (place_at (peer_at layer k).table n).state ≡ state → Agrees (closed_at k layer (closed_for (peer_at layer k) (close_in state asked (peer_at layer k).table n))).1.peers (closing s n (closed_at k layer (closed_for (peer_at layer k) (close_in state asked (peer_at layer k).table n))).0)
  close_at s k n asked states.Free e was = a
  close_at s k n asked states.Resting e was = a
  close_at s k n asked (states.UnderWay kind r) e was = close_by s k n r kind asked _ e was refl

  close_found : (s n : ℕ) (asked : ReplyKind) (found : Option ℕ) → owned_place peer_of s layer.peers ≡ found → Agrees (closing_in found layer n asked).1.peers (closing s n (closing_in found layer n asked).0)
  unfolding close_step
  close_found s n asked None e = a
  close_found s n asked (Some k) e = close_at s k n asked _ e refl

  closes_agrees : (s n : ℕ) (asked : ReplyKind) → Agrees (closing_step layer s n asked).1.peers (closing s n (closing_step layer s n asked).0)
  unfolding closing_step
  closes_agrees s n asked = close_found s n asked _ refl

  responded_agrees : (p : Packet) (c : Option (LabelParts × Option Purpose) × Layer Purpose) → Agrees c.1.peers (closing (header_in p).source (header_in p).label c.0) → Agrees (responded p c).1.peers (closed (responded p c).0 past)
  responded_agrees p (Some (label, purpose), new) h = h
  responded_agrees p (None, new) h = h

  response_agrees : (p : Packet) (kind : Option ReplyKind) → Agrees (responded p (closed_by kind layer p)).1.peers (closed (responded p (closed_by kind layer p)).0 past)
  response_agrees p None = a
  response_agrees p (Some kind) = responded_agrees p (closing_step layer (header_in p).source (header_in p).label kind) (closes_agrees (header_in p).source (header_in p).label kind)

  judged_agrees : (row : Row) (bytes : List ℕ) (read : Result Packet PacketFault) → Agrees (judged_by row layer bytes read).1.peers (closed (judged_by row layer bytes read).0 past)
  judged_agrees by_generation bytes read = a
  judged_agrees by_grammar bytes read = a
  judged_agrees by_label bytes read = a
  judged_agrees by_response bytes (Ok p) = response_agrees p (reply_kind p)
  judged_agrees by_again bytes (Ok p) = a
  judged_agrees by_request bytes (Ok p) = a
  judged_agrees by_response bytes (Err fault) = a
  judged_agrees by_again bytes (Err fault) = a
  judged_agrees by_request bytes (Err fault) = a

  judges_agrees : (generation : ℕ) (bytes : List ℕ) → Agrees (judging_step layer generation bytes).1.peers (closed (judging_step layer generation bytes).0 past)
  unfolding judging_step
  judges_agrees generation bytes = judged_agrees (row_of (facts_of layer generation bytes)) bytes (reading bytes)

  -- a time-out
  expire_by : (s k : ℕ) (label : LabelParts) (now : Bool) → owned_place peer_of s layer.peers ≡ Some k → is_current (peer_at layer k).table label ≡ now → Agrees (expired_at k layer (expired_for (peer_at layer k) label (expire_in now (peer_at layer k).table label))).1.peers (ran_out (expired_at k layer (expired_for (peer_at layer k) label (expire_in now (peer_at layer k).table label))).0 s label past)
  expire_by s k label true e now =
      let c = current_is (peer_at layer k).table label now in
      over_agrees s k label.number label.serial c.kind states.Resting resting (timed_out s label.number ∷ past) e c.waits refl (λ t m. refl) (λ t m. refl)
  expire_by s k label false e now = a

  expire_found : (s : ℕ) (label : LabelParts) (place : Option ℕ) → owned_place peer_of s layer.peers ≡ place → Agrees (expiring_in place layer label).1.peers (ran_out (expiring_in place layer label).0 s label past)
  unfolding expire_step
  expire_found s label None e = a
  expire_found s label (Some k) e = expire_by s k label _ e refl

  expires_agrees : (s : ℕ) (label : LabelParts) → Agrees (expiring_step layer s label).1.peers (ran_out (expiring_step layer s label).0 s label past)
  unfolding expiring_step
  expires_agrees s label = expire_found s label _ refl

  -- a transaction is given up
  disown_by : (s k : ℕ) (label : LabelParts) (now : Bool) → owned_place peer_of s layer.peers ≡ Some k → is_current (peer_at layer k).table label ≡ now → Agrees (slice_set layer.peers k (cond now (with_purpose (peer_at layer k) (peer_at layer k).table label.number None) (peer_at layer k))) past
  disown_by s k label true e now =
      let place = peer_at layer k in
      let c = current_is place.table label now in
      let own = own_of layer.generation s k label.number label.serial c.kind layer.peers parts e c.waits in
      let place' = with_purpose place place.table label.number None in
      record {
        uses = λ t m. ap (λ (x : LabelState). use_in x) (state_kept layer.generation s k layer.peers place' parts a.bare e own (λ m. refl) t m) ∙ a.uses t m;
        lasts = λ t m. last_kept layer.generation s k layer.peers place' parts a.bare e own (λ m. refl) t m ∙ a.lasts t m;
        bare = bare_set layer.generation s k layer.peers place' parts a.bare e own;
      }
  disown_by s k label false e now = subst (λ (peers : Places). Agrees peers past) (sym (set-get_or layer.peers k no_peer)) a

  disown_found : (s : ℕ) (label : LabelParts) (place : Option ℕ) → owned_place peer_of s layer.peers ≡ place → Agrees (disowning_in place layer label).peers past
  disown_found s label None e = a
  disown_found s label (Some k) e = disown_by s k label _ e refl

  disowns_agrees : (s : ℕ) (label : LabelParts) → Agrees (disowning_step layer s label).peers past
  unfolding disowning_step
  disowns_agrees s label = disown_found s label _ refl

-- ---- a later generation is seen, and a new layer
record Cleared (place : PeerPlace Purpose) : Type 0 where
  free_all : (n : ℕ) → (place_at place.table n).state ≡ states.Free
  none_all : (n : ℕ) → (place_at place.table n).last ≡ None

cleared_new : (peer : Option ℕ) (table : Table) (purposes : List (Option Purpose)) → table.places ≡ replicate 64 unused → Cleared (record { peer = peer; table = table; purposes = purposes })
cleared_new peer table purposes t = record {
  free_all = λ n. ap (λ places. (slice_index_or places n unused).state) t ∙ ap (λ place. place.state) (default_in 64 n unused);
  none_all = λ n. ap (λ places. (slice_index_or places n unused).last) t ∙ ap (λ place. place.last) (default_in 64 n unused);
}

cleared_at : (g : ℕ) (peers : Places) (k : ℕ) → Cleared (place_in (map (clear_place g) peers) k)
cleared_at g [] k = cleared_new None _ _ refl
cleared_at g (p ∷ ps) zero = cleared_new None _ _ refl
cleared_at g (p ∷ ps) (suc k) = cleared_at g ps k

free_in : (peers : Places) → ((k : ℕ) → Cleared (place_in peers k)) → (n : ℕ) (place : Option ℕ) → shown_in (λ place. (place_at place.table n).state) no_peer states.Free place peers ≡ states.Free
free_in peers all n None = refl
free_in peers all n (Some k) = (all k).free_all n

none_in : (peers : Places) → ((k : ℕ) → Cleared (place_in peers k)) → (n : ℕ) (place : Option ℕ) → shown_in (λ place. (place_at place.table n).last) no_peer None place peers ≡ None
none_in peers all n None = refl
none_in peers all n (Some k) = (all k).none_all n

cleared_agrees : (peers : Places) → ((k : ℕ) → Cleared (place_in peers k)) → (past : List Happening) → ((t m : ℕ) → use_of past t m ≡ free) → ((t m : ℕ) → last_request past t m ≡ None) → Agrees peers past
cleared_agrees peers all past uses lasts = record {
  uses = λ t m. ap (λ (x : LabelState). use_in x) (free_in peers all m (owned_place peer_of t peers)) ∙ sym (uses t m);
  lasts = λ t m. none_in peers all m (owned_place peer_of t peers) ∙ sym (lasts t m);
  bare = λ k m v. (all k).none_all m;
}

sees_by : (layer : Layer Purpose) (past : List Happening) (g node : ℕ) (later : Bool) → Agrees layer.peers past → Agrees (cond {A = Bool × Layer Purpose} later (true, seen_in_generation layer g node) (false, layer)).1.peers (saw (cond {A = Bool × Layer Purpose} later (true, seen_in_generation layer g node) (false, layer)).0 past)
sees_by layer past g node true a = cleared_agrees (map (clear_place g) layer.peers) (cleared_at g layer.peers) (reset ∷ past) (λ t m. refl) (λ t m. refl)
sees_by layer past g node false a = a

sees_agrees : (layer : Layer Purpose) (past : List Happening) (g node : ℕ) → Agrees layer.peers past → Agrees (seeing_step layer g node).1.peers (saw (seeing_step layer g node).0 past)
unfolding seeing_step
sees_agrees layer past g node a = sees_by layer past g node (nat_lt layer.generation g) a

answers_agrees : (layer : Layer Purpose) (past : List Happening) (p : Packet) (bytes : List ℕ) (rcode : ℕ) (given : List ℕ) → Agrees layer.peers past → Agrees (answering_step layer p bytes rcode given).1.peers past
unfolding answering_step
answers_agrees layer past p bytes rcode given a = a

new_cleared : (k : ℕ) → Cleared (place_in (replicate 5 (no_peer {P = Purpose})) k)
new_cleared k = subst (λ (p : PeerPlace Purpose). Cleared p) (sym (default_in 5 k (no_peer {P = Purpose}))) (cleared_new None _ _ refl)

pub new_agrees : (node : ℕ) → Agrees (new_layer node).peers []
new_agrees node = cleared_agrees (replicate 5 (no_peer {P = Purpose})) new_cleared [] (λ t m. refl) (λ t m. refl)

-- each step
pub done_agrees : (step : wire.Call Purpose) (layer : Layer Purpose) (past : List Happening) → Parts layer.generation layer.peers → Agrees layer.peers past → Agrees (wire.done step layer).peers (happened step layer past)
done_agrees (wire.judges generation bytes) layer past parts a = judges_agrees layer past parts a generation bytes
done_agrees (wire.answers p bytes rcode given) layer past parts a = answers_agrees layer past p bytes rcode given a
done_agrees (wire.asks s body for) layer past parts a = asks_agrees layer past parts a s body for
done_agrees (wire.lets_expire s label) layer past parts a = expires_agrees layer past parts a s label
done_agrees (wire.disowns s label) layer past parts a = disowns_agrees layer past parts a s label
done_agrees (wire.sees g id) layer past parts a = sees_agrees layer past g id a
