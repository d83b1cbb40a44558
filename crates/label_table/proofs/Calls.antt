-- Each call of a transaction layer keeps what was told of its node's transactions.
use Rattle.std.specs.Prelude.{◌≡◌, ◌≢◌, ℕ, ◌<◌, ◌≤◌, ◌&&◌, zero, suc, nat_eq, nat_lt, is_some, Bool, true, false, cond, not, List, [], ◌∷◌, length, map, replicate, slice_set, slice_index_or, Option, Some, None, Result, Ok, Err, refl}
use Rattle.std.proofs.Common.{arith, sym, ◌∙◌, ap, subst}
use Rattle.std.proofs.Math.ListN.{length-set}
use Rattle.std.proofs.lemmas.List.{length-map, set-get_or}
use Rattle.async_packet.specs.declared.fault.PacketFault.{PacketFault}
use Rattle.async_packet.specs.Labels.{LabelParts}
use Rattle.async_packet.specs.Packet.{Packet, header_in}
use Rattle.async_packet.specs.Reading.{reading}
use Rattle.label_table.specs.declared.reply.ReplyKind.{ReplyKind}
use Rattle.label_table.specs.declared.reply.ReplyKind.TheVariants as kinds
use Rattle.label_table.specs.declared.place.LabelState.{LabelState}
use Rattle.label_table.specs.declared.place.LabelState.TheVariants as states
use Rattle.label_table.specs.Requests.{reply_kind, kind_of, is_kind}
use Rattle.label_table.specs.Table.{Table, new_table, place_at, unused, lowest_from, begin_at, begin_step, close_in, close_step, is_current, expire_in, expire_step}
use Rattle.label_table.specs.Owned.{owned_place, shown_in}
use Rattle.label_table.specs.Bodies.{Body}
use Rattle.label_table.specs.Judging.{Row, by_generation, by_grammar, by_label, by_response, by_again, by_request, row_of}
use Rattle.label_table.specs.Peers.{PeerPlace, peer_of, no_peer, purpose_at, state_for, purpose_for, begun_for, closed_for, expired_for, with_purpose, clear_place}
use Rattle.label_table.specs.Layer.{Layer, new_layer, peer_at, unlabelled, asked_at, asking_in, asking_step, closed_at, closing_in, closing_step, closed_by, expired_at, expiring_in, expiring_step, disowning_in, disowning_step, seen_in_generation, seeing_step, answering_step, facts_in, responded, judged_by, judging_step}
use Rattle.label_table.specs.History.{Call, judges, answers, asks, lets_expire, disowns, sees, Told, expired, disowned, unknown, forgotten, under_way, life, IsUnderWay, IsFor, IsTold, done, after, told, told_by_asking, told_by_expiring, told_by_finding, told_unknown, and_before, history, ToldLaw}
use Rattle.label_table.proofs.Owned.{holds, set_at}
use Rattle.label_table.proofs.Sources.{default_in}
use Rattle.label_table.proofs.Steps.{under_way_below, Current, current_is, current_not}
use Rattle.label_table.proofs.Lives.{Agree, disowned_agree, stale_agree, forgotten_agree}
use Rattle.label_table.proofs.Told.{Parts, Kept, place_in, count_in, count_for, parts_set, state_set, purpose_set, count_set, begun_kept, under_way_is, own_of, told_of, ends, resting_is, closing_kept}

-- asking
ask_found : {P : Type 0} (layer : Layer P) (notes : List (Told P)) (s k : ℕ) (bytes : List ℕ) (for : P) (label : Option ℕ) → Kept layer notes → owned_place peer_of s layer.peers ≡ Some k → lowest_from 0 bytes (peer_at layer k).table.places ≡ label → Kept (asked_at k layer (begun_for (peer_at layer k) s for (begin_at label (peer_at layer k).table bytes))).1 (and_before (told_by_asking s (kind_of bytes) for (asked_at k layer (begun_for (peer_at layer k) s for (begin_at label (peer_at layer k).table bytes))).0) notes)
ask_found layer notes s k bytes for None kept e found = kept
ask_found layer notes s k bytes for (Some n) kept e found = begun_kept layer notes s k n bytes for kept e found

ask_in : {P : Type 0} (layer : Layer P) (notes : List (Told P)) (s : ℕ) (bytes : List ℕ) (for : P) (place : Option ℕ) → Kept layer notes → owned_place peer_of s layer.peers ≡ place → Kept (asking_in place layer s bytes for).1 (and_before (told_by_asking s (kind_of bytes) for (asking_in place layer s bytes for).0) notes)
unfolding begin_step
ask_in layer notes s bytes for None kept e = kept
ask_in layer notes s bytes for (Some k) kept e = ask_found layer notes s k bytes for _ kept e refl

asked_kept : {P : Type 0} (layer : Layer P) (notes : List (Told P)) (s : ℕ) (body : Body) (for : P) → Kept layer notes → Kept (done (asks s body for) layer) (and_before (told (asks s body for) layer) notes)
unfolding asking_step
asked_kept layer notes s body for kept = ask_in layer notes s (unlabelled layer s body) for _ kept refl

-- a time-out
stale_told : {P : Type 0} (layer : Layer P) (notes : List (Told P)) (s : ℕ) (label : LabelParts) → Kept layer notes → ((j : ReplyKind) → label.generation ≡ layer.generation → state_for layer.peers s label.number ≢ states.UnderWay j label.serial) → IsUnderWay (life s label notes) → ⊥
stale_told layer notes s label kept not u =
    let w = under_way_is (life s label notes) u in
    not w.0 (kept.agree.now s label w.0 w.1 w.2) (kept.agree.stands s label w.0 w.1 w.2)

-- a handle that is not current
not_current : {P : Type 0} (layer : Layer P) (notes : List (Told P)) (s k : ℕ) (label : LabelParts) → Kept layer notes → owned_place peer_of s layer.peers ≡ Some k → is_current (peer_at layer k).table label ≡ false → (j : ReplyKind) → label.generation ≡ layer.generation → state_for layer.peers s label.number ≢ states.UnderWay j label.serial
not_current layer notes s k label kept e c j g w =
    let below = (holds peer_of no_peer s layer.peers k e).below in
    let was : state_for layer.peers s label.number ≡ (place_at (peer_at layer k).table label.number).state = rw e refl in
    current_not (peer_at layer k).table label j c (kept.parts.current k below ∙ sym g) (sym was ∙ w)

nowhere : {P : Type 0} (peers : List (PeerPlace P)) (s n r : ℕ) (j : ReplyKind) → owned_place peer_of s peers ≡ None → state_for peers s n ≢ states.UnderWay j r
nowhere peers s n r j e w = let f : state_for peers s n ≡ states.Free = rw e refl in cc

expire_by : {P : Type 0} (layer : Layer P) (notes : List (Told P)) (s k : ℕ) (label : LabelParts) (now : Bool) → Kept layer notes → owned_place peer_of s layer.peers ≡ Some k → is_current (peer_at layer k).table label ≡ now → Kept (expired_at k layer (expired_for (peer_at layer k) label (expire_in now (peer_at layer k).table label))).1 (and_before (told_by_expiring s label (expired_at k layer (expired_for (peer_at layer k) label (expire_in now (peer_at layer k).table label))).0) notes)
expire_by layer notes s k label true kept e now =
    let c = current_is (peer_at layer k).table label now in
    let i = ends layer notes s k label.number label.serial c.kind states.Resting kept e c.waits resting_is in
    subst (λ l. Kept (expired_at k layer (expired_for (peer_at layer k) label (expire_in true (peer_at layer k).table label))).1 (expired s l (purpose_at (peer_at layer k) label.number) ∷ notes)) (sym c.same) (record {
      parts = i.parts;
      agree = i.agree;
      told = (subst (IsFor (purpose_at (peer_at layer k) label.number)) (sym i.was) refl, kept.told);
    })
expire_by layer notes s k label false kept e now = record {
  parts = kept.parts;
  agree = kept.agree;
  told = (stale_told layer notes s label kept (not_current layer notes s k label kept e now), kept.told);
}

expire_at : {P : Type 0} (layer : Layer P) (notes : List (Told P)) (s : ℕ) (label : LabelParts) (place : Option ℕ) → Kept layer notes → owned_place peer_of s layer.peers ≡ place → Kept (expiring_in place layer label).1 (and_before (told_by_expiring s label (expiring_in place layer label).0) notes)
unfolding expire_step
expire_at layer notes s label None kept e = record {
  parts = kept.parts;
  agree = kept.agree;
  told = (stale_told layer notes s label kept (λ j g. nowhere layer.peers s label.number label.serial j e), kept.told);
}
expire_at layer notes s label (Some k) kept e = expire_by layer notes s k label _ kept e refl

expired_kept : {P : Type 0} (layer : Layer P) (notes : List (Told P)) (s : ℕ) (label : LabelParts) → Kept layer notes → Kept (done (lets_expire s label) layer) (and_before (told (lets_expire s label) layer) notes)
unfolding expiring_step
expired_kept layer notes s label kept = expire_at layer notes s label _ kept refl

here_still : (table : Table) (n m : ℕ) → (place_at table m).state ≡ cond (nat_eq m n) (place_at table n).state (place_at table m).state
here_still table n m = grind arith

there_still : (f : ℕ → ℕ → LabelState) (t s m n : ℕ) (x : LabelState) → f s n ≡ x → cond (nat_eq t s && nat_eq m n) x (f t m) ≡ f t m
there_still f t s m n x e = grind arith

count_stays : (count' count : ℕ → ℕ) (t s : ℕ) {c : ℕ} → count' t ≡ cond (nat_eq t s) c (count t) → c ≡ count s → count t ≤ count' t
count_stays count' count t s e h = grind arith

-- a transaction is left to nobody
disowned_here : {P : Type 0} (layer : Layer P) (notes : List (Told P)) (s k : ℕ) (label : LabelParts) → Kept layer notes → owned_place peer_of s layer.peers ≡ Some k → Current (peer_at layer k).table label → Kept (record layer { peers = slice_set layer.peers k (with_purpose (peer_at layer k) (peer_at layer k).table label.number None) }) (disowned s label ∷ notes)
disowned_here layer notes s k label kept e c =
    let place = peer_at layer k in
    let n = label.number in
    let below = (holds peer_of no_peer s layer.peers k e).below in
    let small = under_way_below place.table n c.kind label.serial c.waits in
    let wide : n < length place.purposes = let a = kept.parts.full k in let b = kept.parts.wide k in omega arith in
    let own = own_of layer.generation s k n label.serial c.kind layer.peers kept.parts e c.waits in
    let gen : label.generation ≡ layer.generation = ap (λ l. l.generation) c.same ∙ kept.parts.current k below in
    let was : state_for layer.peers s n ≡ states.UnderWay c.kind label.serial = rw e c.waits in
    let place' = with_purpose place place.table n None in
    let same : count_in place' ≡ count_for layer.peers s = rw e refl in
    record {
      parts = parts_set layer.generation s k layer.peers place' kept.parts below own (kept.parts.full k) (length-set place.purposes n _ ∙ kept.parts.wide k) (kept.parts.current k below);
      agree = disowned_agree kept.agree s label c.kind gen was _ _ _
          (λ t m. state_set layer.generation s k n layer.peers place' kept.parts e own (place_at place.table n).state (λ m. here_still place.table n m) t m ∙ there_still (state_for layer.peers) t s m n _ (was ∙ sym c.waits))
          (purpose_set layer.generation s k n layer.peers place' kept.parts e own None (λ m. set_at place.purposes n m None None wide))
          (λ t. count_stays (count_for (slice_set layer.peers k place')) (count_for layer.peers) t s (count_set layer.generation s k n layer.peers place' kept.parts e own t) same);
      told = (tt, kept.told);
    }

disown_by : {P : Type 0} (layer : Layer P) (notes : List (Told P)) (s k : ℕ) (label : LabelParts) (now : Bool) → Kept layer notes → owned_place peer_of s layer.peers ≡ Some k → is_current (peer_at layer k).table label ≡ now → Kept (record layer { peers = slice_set layer.peers k (cond now (with_purpose (peer_at layer k) (peer_at layer k).table label.number None) (peer_at layer k)) }) (disowned s label ∷ notes)
disown_by layer notes s k label true kept e now = disowned_here layer notes s k label kept e (current_is (peer_at layer k).table label now)
disown_by layer notes s k label false kept e now =
    subst (λ peers. Kept (record layer { peers = peers }) (disowned s label ∷ notes)) (sym (set-get_or layer.peers k no_peer)) (record {
      parts = kept.parts;
      agree = stale_agree kept.agree s label (not_current layer notes s k label kept e now);
      told = (tt, kept.told);
    })

disown_at : {P : Type 0} (layer : Layer P) (notes : List (Told P)) (s : ℕ) (label : LabelParts) (place : Option ℕ) → Kept layer notes → owned_place peer_of s layer.peers ≡ place → Kept (disowning_in place layer label) (disowned s label ∷ notes)
disown_at layer notes s label None kept e = record {
  parts = kept.parts;
  agree = stale_agree kept.agree s label (λ j g. nowhere layer.peers s label.number label.serial j e);
  told = (tt, kept.told);
}
disown_at layer notes s label (Some k) kept e = disown_by layer notes s k label _ kept e refl

disowned_kept : {P : Type 0} (layer : Layer P) (notes : List (Told P)) (s : ℕ) (label : LabelParts) → Kept layer notes → Kept (done (disowns s label) layer) (and_before (told (disowns s label) layer) notes)
unfolding disowning_step
disowned_kept layer notes s label kept = disown_at layer notes s label _ kept refl

-- a place that a reset cleared
record Cleared {P : Type 0} (place : PeerPlace P) : Type 0 where
  vacant : peer_of place ≡ None
  full : length place.table.places ≡ 64
  wide : length place.purposes ≡ 64
  free : (n : ℕ) → (place_at place.table n).state ≡ states.Free
  empty : (n : ℕ) → purpose_at place n ≡ None

cleared_new : {P : Type 0} (peer : Option ℕ) (table : Table) (purposes : List (Option P)) → peer ≡ None → table.places ≡ replicate 64 unused → purposes ≡ replicate 64 None → Cleared (record { peer = peer; table = table; purposes = purposes })
cleared_new peer table purposes v t q = record {
  vacant = v;
  full = ap length t;
  wide = ap length q;
  free = λ n. ap (λ places. (slice_index_or places n unused).state) t ∙ ap (λ place. place.state) (default_in 64 n unused);
  empty = λ n. ap (λ xs. slice_index_or xs n None) q ∙ default_in 64 n None;
}

cleared_at : {P : Type 0} (g : ℕ) (peers : List (PeerPlace P)) (k : ℕ) → Cleared (place_in (map (clear_place g) peers) k)
cleared_at g [] k = cleared_new None _ _ refl refl refl
cleared_at g (p ∷ ps) zero = cleared_new None _ _ refl refl refl
cleared_at g (p ∷ ps) (suc k) = cleared_at g ps k

cleared_in : {P : Type 0} (g : ℕ) (peers : List (PeerPlace P)) (k : ℕ) → k < length peers → (place_in (map (clear_place g) peers) k).table.generation ≡ g
cleared_in g [] k h = absurd (omega arith)
cleared_in g (p ∷ ps) zero h = refl
cleared_in g (p ∷ ps) (suc k) h = cleared_in g ps k (omega arith)

free_in : {P : Type 0} (peers : List (PeerPlace P)) → ((k : ℕ) → Cleared (place_in peers k)) → (n : ℕ) (place : Option ℕ) → shown_in (λ place. (place_at place.table n).state) no_peer states.Free place peers ≡ states.Free
free_in peers all n None = refl
free_in peers all n (Some k) = (all k).free n

cleared_parts : {P : Type 0} (g : ℕ) (peers : List (PeerPlace P)) → ((k : ℕ) → Cleared (place_in peers k)) → ((k : ℕ) → k < length peers → (place_in peers k).table.generation ≡ g) → Parts g peers
cleared_parts g peers all gen = record {
  full = λ k. (all k).full;
  wide = λ k. (all k).wide;
  current = gen;
  free = λ k n v. (all k).free n;
  empty = λ k n v. (all k).empty n;
}

seen_kept : {P : Type 0} (layer : Layer P) (notes : List (Told P)) (g node : ℕ) → Kept layer notes → layer.generation < g → Kept (seen_in_generation layer g node) (forgotten ∷ notes)
seen_kept layer notes g node kept later = record {
  parts = cleared_parts g _ (cleared_at g layer.peers) (λ k h. let l = length-map layer.peers (clear_place g) in cleared_in g layer.peers k (omega arith));
  agree = forgotten_agree kept.agree g later _ _ _ (λ s n j r e. let f = free_in (map (clear_place g) layer.peers) (cleared_at g layer.peers) n (owned_place peer_of s (map (clear_place g) layer.peers)) in cc);
  told = (tt, kept.told);
}

see_by : {P : Type 0} (layer : Layer P) (notes : List (Told P)) (g node : ℕ) (later : Bool) → Kept layer notes → nat_lt layer.generation g ≡ later → Kept (cond {A = Bool × Layer P} later (true, seen_in_generation layer g node) (false, layer)).1 (and_before (cond later (Some forgotten) None) notes)
see_by layer notes g node true kept e = seen_kept layer notes g node kept (grind arith)
see_by layer notes g node false kept e = kept

saw_kept : {P : Type 0} (layer : Layer P) (notes : List (Told P)) (g node : ℕ) → Kept layer notes → Kept (done (sees g node) layer) (and_before (told (sees g node) layer) notes)
unfolding seeing_step
saw_kept layer notes g node kept = see_by layer notes g node _ kept refl

answered_kept : {P : Type 0} (layer : Layer P) (notes : List (Told P)) (request : Packet) (bytes : List ℕ) (rcode : ℕ) (given : List ℕ) → Kept layer notes → Kept (done (answers request bytes rcode given) layer) notes
unfolding answering_step
answered_kept layer notes request bytes rcode given kept = record { parts = kept.parts; agree = kept.agree; told = kept.told }

-- a response that closes none
kind_self : (kind : ReplyKind) → is_kind kind kind ≡ true
kind_self kinds.Write = refl
kind_self kinds.ReadQuadlet = refl
kind_self kinds.ReadBlock = refl
kind_self kinds.Lock = refl

closes : {P : Type 0} (layer : Layer P) (k n r : ℕ) (kind : ReplyKind) (same : Bool) → is_kind kind kind ≡ same → same ≡ true → (closed_at k layer (closed_for (peer_at layer k) (close_in (states.UnderWay kind r) kind (peer_at layer k).table n))).0 ≢ None
closes layer k n r kind true e s = rw e (λ f. cc)
closes layer k n r kind false e s = cc

unknown_at : {P : Type 0} (layer : Layer P) (s n r : ℕ) (kind : ReplyKind) (place : Option ℕ) → owned_place peer_of s layer.peers ≡ place → (closing_in place layer n kind).0 ≡ None → state_for layer.peers s n ≢ states.UnderWay kind r
unfolding close_step
unknown_at layer s n r kind None e none w = nowhere layer.peers s n r kind e w
unknown_at layer s n r kind (Some k) e none w =
    let was : (place_at (peer_at layer k).table n).state ≡ states.UnderWay kind r = sym (rw e refl) ∙ w in
    closes layer k n r kind _ refl (kind_self kind) (subst (λ st. (closed_at k layer (closed_for (peer_at layer k) (close_in st kind (peer_at layer k).table n))).0 ≡ None) was none)

unknown_told : {P : Type 0} (layer : Layer P) (notes : List (Told P)) (s n : ℕ) (kind : ReplyKind) → Kept layer notes → (closing_step layer s n kind).0 ≡ None → (label : LabelParts) (q : Option P) → label.number ≡ n → life s label notes ≢ under_way kind q
unfolding closing_step
unknown_told layer notes s n kind kept none label q at u =
    unknown_at layer s n label.serial kind _ refl none (ap (state_for layer.peers s) (sym at) ∙ kept.agree.stands s label kind q u)

-- a delivery
label_row : (a b c d e : Bool) → row_of (record { is_current = a; is_for_node = b; is_response = c; is_awaited = d; is_repeated = e }) ≡ by_label → d ≡ false
label_row a b c false e r = refl
label_row false b c true e r = cc
label_row true false c true e r = cc
label_row true true false true false r = cc
label_row true true false true true r = cc
label_row true true true true e r = cc

is_none : {A : Type 0} (x : Option A) → is_some x ≡ false → x ≡ None
is_none None e = refl
is_none (Some a) e = cc

label_kept : {P : Type 0} (layer : Layer P) (notes : List (Told P)) (p : Packet) (kind : Option ReplyKind) → Kept layer notes → is_some (closed_by kind layer p).0 ≡ false → Kept layer (and_before (told_unknown p kind) notes)
label_kept layer notes p None kept none = kept
label_kept layer notes p (Some kind) kept none = record {
  parts = kept.parts;
  agree = kept.agree;
  told = (unknown_told layer notes (header_in p).source (header_in p).label kind kept (is_none _ none), kept.told);
}

-- what the judging of a response makes of a closing, and what it tells
close_told : {P : Type 0} (layer : Layer P) (notes : List (Told P)) (p : Packet) (kind : ReplyKind) (c : Option (LabelParts × Option P) × Layer P) → Kept c.1 (told_of (header_in p).source kind c.0 notes) → (c.0 ≡ None → IsTold (unknown (header_in p).source (header_in p).label kind) notes) → (read : Result Packet PacketFault) → (bytes : List ℕ) → reading bytes ≡ Ok p → reply_kind p ≡ Some kind → Kept (responded p c).1 (and_before (told_by_finding (responded p c).0 bytes) notes)
close_told layer notes p kind (Some (label, purpose), new) kept none read bytes e k = rw k kept
close_told layer notes p kind (None, new) kept none read bytes e k =
    rw (e, k) (record { parts = kept.parts; agree = kept.agree; told = (none refl, kept.told) })

response_kept : {P : Type 0} (layer : Layer P) (notes : List (Told P)) (p : Packet) (bytes : List ℕ) (kind : Option ReplyKind) → Kept layer notes → reading bytes ≡ Ok p → reply_kind p ≡ kind → Kept (responded p (closed_by kind layer p)).1 (and_before (told_by_finding (responded p (closed_by kind layer p)).0 bytes) notes)
response_kept layer notes p bytes None kept e k = rw (e, k) kept
response_kept layer notes p bytes (Some kind) kept e k =
    close_told layer notes p kind (closing_step layer (header_in p).source (header_in p).label kind) (closing_kept layer notes (header_in p).source (header_in p).label kind kept) (λ none. unknown_told layer notes (header_in p).source (header_in p).label kind kept none) (Ok p) bytes e k

judge_by : {P : Type 0} (layer : Layer P) (notes : List (Told P)) (generation : ℕ) (bytes : List ℕ) (row : Row) (read : Result Packet PacketFault) → Kept layer notes → reading bytes ≡ read → row_of (facts_in layer generation bytes read) ≡ row → Kept (judged_by row layer bytes read).1 (and_before (told_by_finding (judged_by row layer bytes read).0 bytes) notes)
judge_by layer notes generation bytes by_generation read kept e r = kept
judge_by layer notes generation bytes by_grammar read kept e r = kept
judge_by layer notes generation bytes by_label (Ok p) kept e r =
    rw e (label_kept layer notes p (reply_kind p) kept (label_row _ _ _ _ _ r))
judge_by layer notes generation bytes by_label (Err fault) kept e r = rw e kept
judge_by layer notes generation bytes by_response (Ok p) kept e r = response_kept layer notes p bytes _ kept e refl
judge_by layer notes generation bytes by_again (Ok p) kept e r = kept
judge_by layer notes generation bytes by_request (Ok p) kept e r = kept
judge_by layer notes generation bytes by_response (Err fault) kept e r = kept
judge_by layer notes generation bytes by_again (Err fault) kept e r = kept
judge_by layer notes generation bytes by_request (Err fault) kept e r = kept

judged_kept : {P : Type 0} (layer : Layer P) (notes : List (Told P)) (generation : ℕ) (bytes : List ℕ) → Kept layer notes → Kept (done (judges generation bytes) layer) (and_before (told (judges generation bytes) layer) notes)
unfolding judging_step
judged_kept layer notes generation bytes kept = judge_by layer notes generation bytes _ _ kept refl refl

done_kept : {P : Type 0} (layer : Layer P) (notes : List (Told P)) (call : Call P) → Kept layer notes → Kept (done call layer) (and_before (told call layer) notes)
done_kept layer notes (judges generation bytes) kept = judged_kept layer notes generation bytes kept
done_kept layer notes (answers request bytes rcode given) kept = answered_kept layer notes request bytes rcode given kept
done_kept layer notes (asks s body for) kept = asked_kept layer notes s body for kept
done_kept layer notes (lets_expire s label) kept = expired_kept layer notes s label kept
done_kept layer notes (disowns s label) kept = disowned_kept layer notes s label kept
done_kept layer notes (sees g node) kept = saw_kept layer notes g node kept

new_cleared : (P : Type 0) (k : ℕ) → Cleared (place_in (replicate 5 (no_peer {P = P})) k)
new_cleared P k = subst Cleared (sym (default_in 5 k (no_peer {P = P}))) (cleared_new None new_table _ refl refl refl)

new_agree : {P : Type 0} (g : ℕ) (peers : List (PeerPlace P)) → ((k : ℕ) → Cleared (place_in peers k)) → Agree g (state_for peers) (purpose_for peers) (count_for peers) (λ s h. life s h [])
new_agree g peers all = record {
  now = λ s h kind q e. cc;
  stands = λ s h kind q e. cc;
  is_for = λ s h kind q e. cc;
  waits = λ s h kind e w. let f = free_in peers all h.number (owned_place peer_of s peers) in cc;
  fresh = λ s h e l. refl;
  later = λ s h l. refl;
}

new_kept : (P : Type 0) (node : ℕ) → Kept {P = P} (new_layer node) []
new_kept P node = record {
  parts = cleared_parts 0 _ (new_cleared P) (λ k h. ap (λ (p : PeerPlace P). p.table.generation) (default_in 5 k (no_peer {P = P})));
  agree = new_agree 0 _ (new_cleared P);
  told = tt;
}

pub after_kept : {P : Type 0} (node : ℕ) (calls : List (Call P)) → Kept (after node calls) (history node calls)
after_kept node [] = new_kept _ node
after_kept node (call ∷ calls) = done_kept (after node calls) (history node calls) call (after_kept node calls)

pub told_law : (P : Type 0) → ToldLaw P
told_law P node calls = (after_kept node calls).told
