-- What each call of a transaction layer shows of it: asking, closing, expiring, and leaving to nobody.
use Rattle.std.proofs.Math.Seq.{map-set_same}
use Rattle.bus_transactions.proofs.Rooms.{HasRoom, room_kept}
use Rattle.std.specs.Prelude.{◌≡◌, ◌≢◌, ℕ, ◌<◌, ◌&&◌, ◌||◌, not, nat_eq, Bool, true, false, cond, List, slice_set, Option, Some, None, Result, Ok, Err, refl, map}
use Rattle.std.proofs.Common.{arith, sym, ◌∙◌, ap, subst}
use Rattle.std.proofs.Math.ListN.{length-set}
use Rattle.std.proofs.lemmas.List.{set-get_or}
use Rattle.async_packet.specs.Labels.{LabelParts}
use Rattle.label_table.specs.declared.reply.ReplyKind.{ReplyKind}
use Rattle.label_table.specs.declared.reply.Stale.{Stale}
use Rattle.label_table.specs.declared.place.Place.{Place}
use Rattle.label_table.specs.declared.place.LabelState.{LabelState}
use Rattle.label_table.specs.declared.place.LabelState.TheVariants as states
use Rattle.label_table.specs.declared.judgement.Asked.{Asked}
use Rattle.label_table.specs.Requests.{with_label, is_write, kind_of, is_kind, is_last}
use Rattle.label_table.specs.Table.{place_at, is_free, lowest_from, begin_at, begin_step, with_state, close_in, close_step, is_current, expire_in, expire_step}
use Rattle.label_table.specs.Owned.{owned_place}
use Rattle.label_table.specs.Bodies.{Body}
use Rattle.label_table.specs.Peers.{peer_of, no_peer, state_for, last_for, begun_for, closed_for, expired_for, with_purpose}
use Rattle.label_table.specs.Layer.{peer_at, with_peer, unlabelled, asked_at, asking_in, asking_step, closed_at, closing_in, closing_step, expired_at, expiring_in, expiring_step, disowning_in, disowning_step}
use Rattle.label_table.specs.Laws.{IsLowest}
use Rattle.label_table.proofs.Owned.{holds, owner_found}
use Rattle.label_table.proofs.Steps.{place_set, under_way_below, Current, current_is}
use Rattle.label_table.proofs.Laws.{lowest_law}
use Rattle.bus_transactions.specs.Wire.{Node}
use Rattle.bus_transactions.proofs.Places.{Peers, place_in, Places, places_set, looked_set, looked_same}

-- what a call leaves as it was
pub record Stays (layer new : Node) : Type 0 where
  pub generation : new.generation ≡ layer.generation
  pub node : new.node ≡ layer.node
  pub filter : new.filter ≡ layer.filter

-- one label of one peer shows this state
pub record Shows (layer new : Node) (peer number : ℕ) (state : LabelState) : Type 0 where
  pub stays : Stays layer new
  pub places : Places new.generation new.peers
  pub states_are : (t m : ℕ) → state_for new.peers t m ≡ cond (nat_eq t peer && nat_eq m number) state (state_for layer.peers t m)

-- a request may take a label
abbrev pub may_take : Node → ℕ → List ℕ → ℕ → Bool
may_take layer peer bytes m =
    is_free (state_for layer.peers peer m) && (not (is_write bytes) || not (is_last (last_for layer.peers peer m) (with_label m bytes)))

-- ---- asking
pub record Asks (layer new : Node) (peer : ℕ) (bytes : List ℕ) (asked : Asked) : Type 0 where
  pub small : asked.label.number < 64
  pub labelled : asked.bytes ≡ with_label asked.label.number bytes
  pub takes : may_take layer peer bytes asked.label.number ≡ true
  pub lower : (m : ℕ) → m < asked.label.number → may_take layer peer bytes m ≡ false
  pub serial : ℕ
  pub shows : Shows layer new peer asked.label.number (states.UnderWay (kind_of bytes) serial)
  pub lasts_are : (t m : ℕ) → last_for new.peers t m ≡ cond (nat_eq t peer && nat_eq m asked.label.number) (Some asked.bytes) (last_for layer.peers t m)
  pub rooms : (row : ℕ → ℕ) (m : ℕ) → row m ≡ peer → m < 5 → HasRoom peer_of row layer.peers → HasRoom peer_of row new.peers

-- where a peer has a place, no label may be taken
abbrev pub NoneTakes : Node → ℕ → List ℕ → Type 0
NoneTakes layer peer bytes = (k m : ℕ) → owned_place peer_of peer layer.peers ≡ Some k → m < 64 → may_take layer peer bytes m ≡ false

abbrev pub AskedAs : Node → ℕ → List ℕ → Option Asked × Node → Type 0
AskedAs layer peer bytes (Some asked, new) = Asks layer new peer bytes asked
AskedAs layer peer bytes (None, new) = (new ≡ layer) × NoneTakes layer peer bytes

begin_shows : (layer : Node) (peer k n : ℕ) (bytes : List ℕ) → Places layer.generation layer.peers → owned_place peer_of peer layer.peers ≡ Some k → lowest_from 0 bytes (peer_at layer k).table.places ≡ Some n → AskedAs layer peer bytes (asked_at k layer (begun_for (peer_at layer k) peer tt (begin_at (Some n) (peer_at layer k).table bytes)))
begin_shows layer peer k n bytes p e found =
    let place = peer_at layer k in
    let below = (holds peer_of no_peer peer layer.peers k e).below in
    let least = subst (IsLowest bytes place.table.places) found (lowest_law bytes place.table.places) in
    let new = (begun_for place peer tt (begin_at (Some n) place.table bytes)).1.0 in
    record {
      small = let f = p.full k in let b = least.0 in omega arith;
      labelled = refl;
      takes = rw e least.1;
      lower = λ m h. rw e (least.2 m h);
      serial = place.table.calls;
      shows = record {
        stays = record { generation = refl; node = refl; filter = refl };
        places = places_set layer.generation peer k layer.peers new p below refl (length-set place.table.places n _ ∙ p.full k) (p.current k below);
        states_are = looked_set (λ place. place.state) states.Free layer.generation peer k n layer.peers new (states.UnderWay (kind_of bytes) place.table.calls) refl p e refl
            (λ m. let i = place_set place.table n m (record { state = states.UnderWay (kind_of bytes) place.table.calls; last = Some (with_label n bytes) }) least.0 in grind arith);
      };
      lasts_are = looked_set (λ place. place.last) None layer.generation peer k n layer.peers new (Some (with_label n bytes)) refl p e refl
          (λ m. let i = place_set place.table n m (record { state = states.UnderWay (kind_of bytes) place.table.calls; last = Some (with_label n bytes) }) least.0 in grind arith);
      rooms = λ row m is small r. room_kept peer_of row layer.peers peer k m new is small r e refl;
    }

none_takes : (layer : Node) (peer k : ℕ) (bytes : List ℕ) → Places layer.generation layer.peers → owned_place peer_of peer layer.peers ≡ Some k → lowest_from 0 bytes (peer_at layer k).table.places ≡ None → NoneTakes layer peer bytes
none_takes layer peer k bytes p e found j m o h =
    let least = subst (IsLowest bytes (peer_at layer k).table.places) found (lowest_law bytes (peer_at layer k).table.places) in
    rw e (least m (let f = p.full k in omega (arith, f, h)))

no_place : (layer : Node) (peer : ℕ) (bytes : List ℕ) → owned_place peer_of peer layer.peers ≡ None → NoneTakes layer peer bytes
no_place layer peer bytes e k m o h = absurd (apart (sym e ∙ o))
  where
    apart : {k : ℕ} → None ≡ Some k → ⊥
    apart e = cc

found_shows : (layer : Node) (peer k : ℕ) (bytes : List ℕ) (found : Option ℕ) → Places layer.generation layer.peers → owned_place peer_of peer layer.peers ≡ Some k → lowest_from 0 bytes (peer_at layer k).table.places ≡ found → AskedAs layer peer bytes (asked_at k layer (begun_for (peer_at layer k) peer tt (begin_at found (peer_at layer k).table bytes)))
found_shows layer peer k bytes None p e found = (refl, none_takes layer peer k bytes p e found)
found_shows layer peer k bytes (Some n) p e found = begin_shows layer peer k n bytes p e found

ask_in : (layer : Node) (peer : ℕ) (bytes : List ℕ) (place : Option ℕ) → Places layer.generation layer.peers → owned_place peer_of peer layer.peers ≡ place → AskedAs layer peer bytes (asking_in place layer peer bytes tt)
unfolding begin_step
ask_in layer peer bytes None p e = (refl, no_place layer peer bytes e)
ask_in layer peer bytes (Some k) p e = found_shows layer peer k bytes _ p e refl

pub asks : (layer : Node) (peer : ℕ) (body : Body) → Places layer.generation layer.peers → AskedAs layer peer (unlabelled layer peer body) (asking_step layer peer body tt)
unfolding asking_step
asks layer peer body p = ask_in layer peer (unlabelled layer peer body) _ p refl

-- ---- a label is no more under way
pub record Frees (layer new : Node) (peer number : ℕ) (kind : ReplyKind) (state : LabelState) : Type 0 where
  pub serial : ℕ
  pub was : state_for layer.peers peer number ≡ states.UnderWay kind serial
  pub shows : Shows layer new peer number state
  pub lasts_are : (t m : ℕ) → last_for new.peers t m ≡ last_for layer.peers t m
  pub owners_are : map peer_of new.peers ≡ map peer_of layer.peers

-- the layer once it is
abbrev pub freed : Node → ℕ → ℕ → LabelState → Node
freed layer k n new =
    with_peer layer k (with_purpose (peer_at layer k) (with_state (peer_at layer k).table n new) n None)

own_of : (g peer k n r : ℕ) (kind : ReplyKind) (peers : Peers) → Places g peers → owned_place peer_of peer peers ≡ Some k → (place_at (place_in peers k).table n).state ≡ states.UnderWay kind r → peer_of (place_in peers k) ≡ Some peer
own_of g peer k n r kind peers p e was =
    owner_found peer_of no_peer peer peers k e (λ v. let f = ap (λ (q : Place). q.state) (p.vacant k n v) in cc)

frees : (layer : Node) (peer k n r : ℕ) (kind : ReplyKind) (state : LabelState) → Places layer.generation layer.peers → owned_place peer_of peer layer.peers ≡ Some k → (place_at (peer_at layer k).table n).state ≡ states.UnderWay kind r → Frees layer (freed layer k n state) peer n kind state
frees layer peer k n r kind state p e was =
    let place = peer_at layer k in
    let below = (holds peer_of no_peer peer layer.peers k e).below in
    let small = under_way_below place.table n kind r was in
    let own = own_of layer.generation peer k n r kind layer.peers p e was in
    let new = with_purpose place (with_state place.table n state) n None in
    record {
      serial = r;
      was = rw e was;
      shows = record {
        stays = record { generation = refl; node = refl; filter = refl };
        places = places_set layer.generation peer k layer.peers new p below own (length-set place.table.places n _ ∙ p.full k) (p.current k below);
        states_are = looked_set (λ place. place.state) states.Free layer.generation peer k n layer.peers new state refl p e own
            (λ m. let i = place_set place.table n m (record (place_at place.table n) { state = state }) small in grind arith);
      };
      lasts_are = looked_same (λ place. place.last) None layer.generation peer k layer.peers new refl p e own
          (λ m. let i = place_set place.table n m (record (place_at place.table n) { state = state }) small in grind arith);
      owners_are = map-set_same peer_of layer.peers k new no_peer refl;
    }

-- ---- closing
abbrev pub ClosedAs : Node → ℕ → ℕ → ReplyKind → Option (LabelParts × Option (Unit {0})) × Node → Type 0
ClosedAs layer peer number kind (Some closed, new) = Frees layer new peer number kind states.Free
ClosedAs layer peer number kind (None, new) = (new ≡ layer) × ((r : ℕ) → state_for layer.peers peer number ≢ states.UnderWay kind r)

same_kind : (a b : ReplyKind) → is_kind a b ≡ true → a ≡ b
same_kind a b e = grind arith

other_kind : (a b : ReplyKind) (r q : ℕ) → is_kind a b ≡ false → states.UnderWay a r ≢ states.UnderWay b q
other_kind a b r q e f = let i : a ≡ b = cc in grind arith

close_by : (layer : Node) (peer k n r : ℕ) (kind asked : ReplyKind) (same : Bool) → Places layer.generation layer.peers → owned_place peer_of peer layer.peers ≡ Some k → (place_at (peer_at layer k).table n).state ≡ states.UnderWay kind r → is_kind kind asked ≡ same → ClosedAs layer peer n asked (closed_at k layer (closed_for (peer_at layer k) (close_in (states.UnderWay kind r) asked (peer_at layer k).table n)))
close_by layer peer k n r kind asked true p e was same =
    rw same (subst (λ j. Frees layer (freed layer k n states.Free) peer n j states.Free) (same_kind kind asked same) (frees layer peer k n r kind states.Free p e was))
close_by layer peer k n r kind asked false p e was same =
    rw same (refl, λ q w. other_kind kind asked r q same (sym was ∙ sym (rw e refl) ∙ w))

close_at : (layer : Node) (peer k n : ℕ) (asked : ReplyKind) (state : LabelState) → Places layer.generation layer.peers → owned_place peer_of peer layer.peers ≡ Some k → (place_at (peer_at layer k).table n).state ≡ state → ClosedAs layer peer n asked (closed_at k layer (closed_for (peer_at layer k) (close_in state asked (peer_at layer k).table n)))
close_at layer peer k n asked states.Free p e was = (refl, λ q w. let f : state_for layer.peers peer n ≡ states.Free = rw e was in cc)
close_at layer peer k n asked states.Resting p e was = (refl, λ q w. let f : state_for layer.peers peer n ≡ states.Resting = rw e was in cc)
close_at layer peer k n asked (states.UnderWay kind r) p e was = close_by layer peer k n r kind asked _ p e was refl

-- a peer without a place has no label under way
nowhere : (peers : Peers) (peer n r : ℕ) (kind : ReplyKind) → owned_place peer_of peer peers ≡ None → state_for peers peer n ≢ states.UnderWay kind r
nowhere peers peer n r kind e w = let f : state_for peers peer n ≡ states.Free = rw e refl in cc

close_found : (layer : Node) (peer n : ℕ) (asked : ReplyKind) (found : Option ℕ) → Places layer.generation layer.peers → owned_place peer_of peer layer.peers ≡ found → ClosedAs layer peer n asked (closing_in found layer n asked)
unfolding close_step
close_found layer peer n asked None p e = (refl, λ r. nowhere layer.peers peer n r asked e)
close_found layer peer n asked (Some k) p e = close_at layer peer k n asked _ p e refl

pub closes : (layer : Node) (peer n : ℕ) (asked : ReplyKind) → Places layer.generation layer.peers → ClosedAs layer peer n asked (closing_step layer peer n asked)
unfolding closing_step
closes layer peer n asked p = close_found layer peer n asked _ p refl

-- ---- a time-out
pub record Expires (layer new : Node) (peer : ℕ) (label : LabelParts) : Type 0 where
  pub kind : ReplyKind
  pub frees : Frees layer new peer label.number kind states.Resting

abbrev pub ExpiredAs : Node → ℕ → LabelParts → Result (Option (Unit {0})) Stale × Node → Type 0
ExpiredAs layer peer label (Ok purpose, new) = Expires layer new peer label
ExpiredAs layer peer label (Err stale, new) = new ≡ layer

expire_by : (layer : Node) (peer k : ℕ) (label : LabelParts) (now : Bool) → Places layer.generation layer.peers → owned_place peer_of peer layer.peers ≡ Some k → is_current (peer_at layer k).table label ≡ now → ExpiredAs layer peer label (expired_at k layer (expired_for (peer_at layer k) label (expire_in now (peer_at layer k).table label)))
expire_by layer peer k label false p e now = refl
expire_by layer peer k label true p e now =
    let c = current_is (peer_at layer k).table label now in
    record { kind = c.kind; frees = frees layer peer k label.number label.serial c.kind states.Resting p e c.waits }

expire_found : (layer : Node) (peer : ℕ) (label : LabelParts) (found : Option ℕ) → Places layer.generation layer.peers → owned_place peer_of peer layer.peers ≡ found → ExpiredAs layer peer label (expiring_in found layer label)
unfolding expire_step
expire_found layer peer label None p e = refl
expire_found layer peer label (Some k) p e = expire_by layer peer k label _ p e refl

pub expires : (layer : Node) (peer : ℕ) (label : LabelParts) → Places layer.generation layer.peers → ExpiredAs layer peer label (expiring_step layer peer label)
unfolding expiring_step
expires layer peer label p = expire_found layer peer label _ p refl

-- ---- a transaction is left to nobody
pub record Same (layer new : Node) : Type 0 where
  pub stays : Stays layer new
  pub places : Places new.generation new.peers
  pub states_are : (t m : ℕ) → state_for new.peers t m ≡ state_for layer.peers t m
  pub lasts_are : (t m : ℕ) → last_for new.peers t m ≡ last_for layer.peers t m
  pub owners_are : map peer_of new.peers ≡ map peer_of layer.peers

pub same_layer : (layer : Node) → Places layer.generation layer.peers → Same layer layer
same_layer layer p = record {
  stays = record { generation = refl; node = refl; filter = refl };
  places = p;
  states_are = λ t m. refl;
  lasts_are = λ t m. refl;
  owners_are = refl;
}

disown_here : (layer : Node) (peer k : ℕ) (label : LabelParts) → Places layer.generation layer.peers → owned_place peer_of peer layer.peers ≡ Some k → Current (peer_at layer k).table label → Same layer (record layer { peers = slice_set layer.peers k (with_purpose (peer_at layer k) (peer_at layer k).table label.number None) })
disown_here layer peer k label p e c =
    let place = peer_at layer k in
    let below = (holds peer_of no_peer peer layer.peers k e).below in
    let own = own_of layer.generation peer k label.number label.serial c.kind layer.peers p e c.waits in
    let new = with_purpose place place.table label.number None in
    record {
      stays = record { generation = refl; node = refl; filter = refl };
      places = places_set layer.generation peer k layer.peers new p below own (p.full k) (p.current k below);
      states_are = looked_same (λ place. place.state) states.Free layer.generation peer k layer.peers new refl p e own (λ m. refl);
      lasts_are = looked_same (λ place. place.last) None layer.generation peer k layer.peers new refl p e own (λ m. refl);
      owners_are = map-set_same peer_of layer.peers k new no_peer refl;
    }

disown_by : (layer : Node) (peer k : ℕ) (label : LabelParts) (now : Bool) → Places layer.generation layer.peers → owned_place peer_of peer layer.peers ≡ Some k → is_current (peer_at layer k).table label ≡ now → Same layer (record layer { peers = slice_set layer.peers k (cond now (with_purpose (peer_at layer k) (peer_at layer k).table label.number None) (peer_at layer k)) })
disown_by layer peer k label true p e now = disown_here layer peer k label p e (current_is (peer_at layer k).table label now)
disown_by layer peer k label false p e now =
    subst (λ peers. Same layer (record layer { peers = peers })) (sym (set-get_or layer.peers k no_peer)) (same_layer layer p)

disown_found : (layer : Node) (peer : ℕ) (label : LabelParts) (found : Option ℕ) → Places layer.generation layer.peers → owned_place peer_of peer layer.peers ≡ found → Same layer (disowning_in found layer label)
disown_found layer peer label None p e = same_layer layer p
disown_found layer peer label (Some k) p e = disown_by layer peer k label _ p e refl

pub disowns : (layer : Node) (peer : ℕ) (label : LabelParts) → Places layer.generation layer.peers → Same layer (disowning_step layer peer label)
unfolding disowning_step
disowns layer peer label p = disown_found layer peer label _ p refl
