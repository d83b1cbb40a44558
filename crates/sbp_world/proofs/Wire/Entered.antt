-- Requests of transactions that wait stay entered, whatever a layer does: only a request that leaves makes a transaction wait.
use Rattle.sbp_world.proofs.Words.Std.{is_ok, if◌then◌else◌, arith, sym, ◌∙◌, ap, subst, upd}
use Rattle.sbp_world.proofs.Words.Wire.{LabelParts, Packet, Asked, LabelState, Place, ReplyKind, Body, Facts, Finding, of_generation, of_grammar, of_label, of_response, of_again, of_request, answering_step, asked_at, asking_in, asking_step, disowning_step, expired_at, expiring_in, expiring_step, judging_step, peer_at, seen_in_generation, seeing_step, unlabelled, owned_place, shown_in, begun_for, expired_for, no_peer, peer_of, state_for, kind_of, with_label, Table, begin_at, begin_step, expire_in, expire_step, has_serial, is_current, lowest_from, place_at, Node, RequestsState, request_of}
use Rattle.sbp_world.proofs.Words.World.{AreEntered, IsEntered}
use Rattle.std.specs.Prelude.{◌≡◌, ◌≤◌, ◌<◌, ℕ, ◌==◌, ◌&&◌, nat_eq, nat_lt, Bool, true, false, cond, List, Option, Some, None, Ok, refl}
use Rattle.label_table.specs.declared.place.LabelState.TheVariants as states
use Rattle.label_table.specs.Layer as layers
use Rattle.label_table.specs.Laws.{IsLowest}
use Rattle.label_table.proofs.Laws.{lowest_law}
use Rattle.label_table.proofs.Owned.{holds}
use Rattle.label_table.proofs.Steps.{place_set, under_way_below}
use Rattle.bus_transactions.proofs.JudgedStep.{JudgedAs, judged_step}
use Rattle.bus_transactions.proofs.Places.{Places, cleared_looked, looked_set}
use Rattle.bus_transactions.proofs.Steps.{ExpiredAs, Shows, disowns, expires}

-- ---- the IDs may be said in another way
pub entered_by : {requests : RequestsState} {nodes : ℕ} {layer : ℕ → Node} {ids other : ℕ → ℕ → ℕ} → ids ≡ other → AreEntered requests nodes layer ids → AreEntered requests nodes layer other
entered_by {requests} {nodes} {layer} e a = subst (λ f. AreEntered requests nodes layer f) e a

-- those of the generations that layers are in
pub entered_before : {requests : RequestsState} {nodes : ℕ} {ids other : ℕ → ℕ → ℕ} (layer : ℕ → Node) → ((node : ℕ) → node ≤ nodes → other (layer node).generation ≡ ids (layer node).generation) → AreEntered requests nodes layer ids → AreEntered requests nodes layer other
entered_before {requests} {nodes} {ids} {other} layer e a = record {
  entry = λ node peer number kind call l m small s.
      let same : other (layer node).generation peer ≡ ids (layer node).generation peer = ap (λ (f : ℕ → ℕ). f peer) (e node l) in
      subst (λ i. IsEntered requests node peer number (request_of node i (record { number = number; generation = (layer node).generation; serial = call }))) (sym same)
      (a.entry node peer number kind call l m small (ap (λ i. state_for (layer node).peers i number) (sym same) ∙ s));
}

-- ---- no transaction more waits
pub record Less (old new : Node) : Type 0 where
  pub waited : (peer number : ℕ) (kind : ReplyKind) (call : ℕ) → state_for new.peers peer number ≡ states.UnderWay kind call → (new.generation ≡ old.generation) × (state_for old.peers peer number ≡ states.UnderWay kind call)

less_by : {requests : RequestsState} {nodes : ℕ} {ids : ℕ → ℕ → ℕ} (layer : ℕ → Node) (at : ℕ) (new : Node) → Less (layer at) new → AreEntered requests nodes layer ids → (b : Bool) (node peer number : ℕ) (kind : ReplyKind) (call : ℕ) → nat_eq node at ≡ b → node ≤ nodes → peer ≤ nodes → number < 64 → state_for (cond b new (layer node)).peers (ids (cond b new (layer node)).generation peer) number ≡ states.UnderWay kind call → IsEntered requests node peer number (request_of node (ids (cond b new (layer node)).generation peer) (record { number = number; generation = (cond b new (layer node)).generation; serial = call }))
less_by {requests} {nodes} {ids} layer at new less a true node peer number kind call e l m small s =
    let here : at ≡ node = grind arith in
    let was = (subst (λ x. Less (layer x) new) here less).waited (ids new.generation peer) number kind call s in
    subst (λ g. IsEntered requests node peer number (request_of node (ids g peer) (record { number = number; generation = g; serial = call }))) (sym was.0)
    (a.entry node peer number kind call l m small (ap (λ g. state_for (layer node).peers (ids g peer) number) (sym was.0) ∙ was.1))
less_by layer at new less a false node peer number kind call e l m small s = a.entry node peer number kind call l m small s

pub less_entered : {requests : RequestsState} {nodes : ℕ} {ids : ℕ → ℕ → ℕ} (layer : ℕ → Node) (at : ℕ) (new : Node) → Less (layer at) new → AreEntered requests nodes layer ids → AreEntered requests nodes (upd layer at new) ids
less_entered layer at new less a = record {
  entry = λ node peer number kind call l m small s. less_by layer at new less a (nat_eq node at) node peer number kind call refl l m small s;
}

same_less : (old new : Node) → new ≡ old → Less old new
same_less old new e = record { waited = λ peer number kind call s. (ap (λ (l : Node). l.generation) e, ap (λ (l : Node). state_for l.peers peer number) (sym e) ∙ s) }

frees_less : (old new : Node) (peer number : ℕ) (state : LabelState) → ((kind : ReplyKind) (call : ℕ) → state ≡ states.UnderWay kind call → ⊥) → Shows old new peer number state → Less old new
frees_less old new peer number state free shows = record {
  waited = λ t m kind call s. (shows.stays.generation, by_test t m kind call (nat_eq t peer && nat_eq m number) (sym (shows.states_are t m) ∙ s));
}
  where
    by_test : (t m : ℕ) (kind : ReplyKind) (call : ℕ) (b : Bool) → cond b state (state_for old.peers t m) ≡ states.UnderWay kind call → state_for old.peers t m ≡ states.UnderWay kind call
    by_test t m kind call true e = absurd (free kind call e)
    by_test t m kind call false e = e

pub not_free : (kind : ReplyKind) (call : ℕ) → states.Free ≡ states.UnderWay kind call → ⊥
not_free kind call e = cc

not_resting : (kind : ReplyKind) (call : ℕ) → states.Resting ≡ states.UnderWay kind call → ⊥
not_resting kind call e = cc

-- a transaction is given up
pub disowns_less : (layer : Node) (peer : ℕ) (label : LabelParts) → Places layer.generation layer.peers → Less layer (disowning_step layer peer label)
disowns_less layer peer label p =
    let d = disowns layer peer label p in
    record { waited = λ t m kind call s. (d.stays.generation, sym (d.states_are t m) ∙ s) }

-- one times out
pub expires_less : (layer : Node) (peer : ℕ) (label : LabelParts) {purpose : Option (Unit {0})} {new : Node} → Places layer.generation layer.peers → expiring_step layer peer label ≡ (Ok purpose, new) → Less layer new
expires_less layer peer label {purpose} {new} p e =
    let x = subst (ExpiredAs layer peer label) e (expires layer peer label p) in
    frees_less layer new peer label.number states.Resting not_resting x.frees.shows

-- a request is answered
pub answers_less : (layer : Node) (p : Packet) (bytes : List ℕ) (rcode : ℕ) (given : List ℕ) → Less layer (answering_step layer p bytes rcode given).1
unfolding answering_step
answers_less layer p bytes rcode given = record { waited = λ t m kind call s. (refl, s) }

-- a packet is judged
judged_less : (layer : Node) (bytes : List ℕ) (f : Facts) (r : Finding (Unit {0}) × Node) → JudgedAs layer bytes f r → Less layer r.1
judged_less layer bytes f (of_generation, new) j = same_less layer new j.0
judged_less layer bytes f (of_grammar, new) j = same_less layer new j.0
judged_less layer bytes f (of_label, new) j = same_less layer new j.0
judged_less layer bytes f (of_response p label purpose, new) j = frees_less layer new _ _ states.Free not_free j.frees.shows
judged_less layer bytes f (of_again p rcode, new) j = same_less layer new j.0.same
judged_less layer bytes f (of_request p, new) j = same_less layer new j.same

pub judges_less : (layer : Node) (generation : ℕ) (bytes : List ℕ) → Places layer.generation layer.peers → Less layer (judging_step layer generation bytes).1
judges_less layer generation bytes p = judged_less layer bytes (layers.facts_of layer generation bytes) (judging_step layer generation bytes) (judged_step layer generation bytes p)

-- a generation is seen: of a later one nothing waits yet
pub sees_less : (layer : Node) (generation id : ℕ) → Less layer (seeing_step layer generation id).1
unfolding seeing_step
sees_less layer generation id = by_test (nat_lt layer.generation generation)
  where
    made : Bool → Bool × Node
    made b = if b then (true, seen_in_generation layer generation id) else (false, layer)

    by_test : (b : Bool) → Less layer (made b).1
    by_test true = record {
      waited = λ t m kind call s. absurd (not_free kind call (sym (cleared_looked (λ (place : Place). place.state) states.Free generation layer.peers refl t m) ∙ s));
    }
    by_test false = same_less layer layer refl

-- ---- a request that leaves: its transaction waits, by its handle
pub record Waits (peer : ℕ) (label : LabelParts) (layer : Node) : Type 0 where
  pub kind : ReplyKind
  pub is : state_for layer.peers peer label.number ≡ states.UnderWay kind label.serial

abbrev WaitsThen : ℕ → Option Asked × Node → Type 0
WaitsThen peer (Some asked, new) = Waits peer asked.label new
WaitsThen peer (None, new) = Unit {0}

pub same_test : (a b : ℕ) → (nat_eq a a && nat_eq b b) ≡ true
same_test a b = grind arith

waits_at : (layer : Node) (peer k n : ℕ) (bytes : List ℕ) → Places layer.generation layer.peers → owned_place peer_of peer layer.peers ≡ Some k → lowest_from 0 bytes (peer_at layer k).table.places ≡ Some n → WaitsThen peer (asked_at k layer (begun_for (peer_at layer k) peer tt (begin_at (Some n) (peer_at layer k).table bytes)))
waits_at layer peer k n bytes p e found =
    let place = peer_at layer k in
    let least = subst (IsLowest bytes place.table.places) found (lowest_law bytes place.table.places) in
    let new = (begun_for place peer tt (begin_at (Some n) place.table bytes)).1.0 in
    record {
      kind = kind_of bytes;
      is = looked_set (λ (place : Place). place.state) states.Free layer.generation peer k n layer.peers new (states.UnderWay (kind_of bytes) place.table.calls) refl p e refl
          (λ m. let i = place_set place.table n m (record { state = states.UnderWay (kind_of bytes) place.table.calls; last = Some (with_label n bytes) }) least.0 in grind arith) peer n
          ∙ ap (λ b. cond b (states.UnderWay (kind_of bytes) place.table.calls) (state_for layer.peers peer n)) (same_test peer n);
    }

waits_by : (layer : Node) (peer k : ℕ) (bytes : List ℕ) (found : Option ℕ) → Places layer.generation layer.peers → owned_place peer_of peer layer.peers ≡ Some k → lowest_from 0 bytes (peer_at layer k).table.places ≡ found → WaitsThen peer (asked_at k layer (begun_for (peer_at layer k) peer tt (begin_at found (peer_at layer k).table bytes)))
waits_by layer peer k bytes None p e found = tt
waits_by layer peer k bytes (Some n) p e found = waits_at layer peer k n bytes p e found

waits_in : (layer : Node) (peer : ℕ) (bytes : List ℕ) (found : Option ℕ) → Places layer.generation layer.peers → owned_place peer_of peer layer.peers ≡ found → WaitsThen peer (asking_in found layer peer bytes tt)
unfolding begin_step
waits_in layer peer bytes None p e = tt
waits_in layer peer bytes (Some k) p e = waits_by layer peer k bytes (lowest_from 0 bytes (peer_at layer k).table.places) p e refl

waits_after : (layer : Node) (peer : ℕ) (body : Body) → Places layer.generation layer.peers → WaitsThen peer (asking_step layer peer body tt)
unfolding asking_step
waits_after layer peer body p = waits_in layer peer (unlabelled layer peer body) (owned_place peer_of peer layer.peers) p refl

pub asked_waits : (layer : Node) (peer : ℕ) (body : Body) (asked : Asked) (new : Node) → Places layer.generation layer.peers → asking_step layer peer body tt ≡ (Some asked, new) → Waits peer asked.label new
asked_waits layer peer body asked new p e = subst (WaitsThen peer) e (waits_after layer peer body p)

-- ---- a transaction that waits times out by its handle
expires_ok : (layer : Node) (k : ℕ) (label : LabelParts) (b : Bool) → b ≡ true → is_ok (expired_at k layer (expired_for (peer_at layer k) label (expire_in b (peer_at layer k).table label))).0 ≡ true
expires_ok layer k label true e = refl
expires_ok layer k label false e = cc

current_if : (table : Table) (label : LabelParts) (kind : ReplyKind) → table.generation ≡ label.generation → (place_at table label.number).state ≡ states.UnderWay kind label.serial → is_current table label ≡ true
unfolding is_current
current_if table label kind g s =
    ap (λ x. (table.generation == label.generation) && has_serial x label.serial) s
    ∙ (let e : ((table.generation == label.generation) && (label.serial == label.serial)) ≡ true = grind arith in e)

expires_found : (layer : Node) (peer : ℕ) (label : LabelParts) (kind : ReplyKind) (found : Option ℕ) → Places layer.generation layer.peers → owned_place peer_of peer layer.peers ≡ found → shown_in (λ place. (place_at place.table label.number).state) no_peer states.Free found layer.peers ≡ states.UnderWay kind label.serial → label.generation ≡ layer.generation → is_ok (expiring_in found layer label).0 ≡ true
unfolding expire_step
expires_found layer peer label kind None p e s g = cc
expires_found layer peer label kind (Some k) p e s g =
    expires_ok layer k label (is_current (peer_at layer k).table label)
    (current_if (peer_at layer k).table label kind (p.current k (holds peer_of no_peer peer layer.peers k e).below ∙ sym g) s)

pub waiting_expires : (layer : Node) (peer : ℕ) (label : LabelParts) (kind : ReplyKind) → Places layer.generation layer.peers → state_for layer.peers peer label.number ≡ states.UnderWay kind label.serial → label.generation ≡ layer.generation → is_ok (expiring_step layer peer label).0 ≡ true
unfolding expiring_step
waiting_expires layer peer label kind p s g = expires_found layer peer label kind (owned_place peer_of peer layer.peers) p refl s g

-- it has one of the 64 labels
number_found : (layer : Node) (peer number call : ℕ) (kind : ReplyKind) (found : Option ℕ) → Places layer.generation layer.peers → shown_in (λ place. (place_at place.table number).state) no_peer states.Free found layer.peers ≡ states.UnderWay kind call → number < 64
number_found layer peer number call kind None p s = cc
number_found layer peer number call kind (Some k) p s =
    let b = under_way_below (peer_at layer k).table number kind call s in
    let f = p.full k in
    omega (arith, b, f)

pub number_small : (layer : Node) (peer number call : ℕ) (kind : ReplyKind) → Places layer.generation layer.peers → state_for layer.peers peer number ≡ states.UnderWay kind call → number < 64
number_small layer peer number call kind p s = number_found layer peer number call kind (owned_place peer_of peer layer.peers) p s
