-- A request that leaves is found by its serial, and is the present one of its transaction; the one before it is found no more.
use Rattle.sbp_world.proofs.Words.Std.{position, slice_index_or, position_or_len, arith, sym, ◌∙◌, ap, subst, get_or-set_at, get_or-set_other, position-Some, position_or_len_is, upd}
use Rattle.sbp_world.proofs.Words.Wire.{LabelParts, transaction, Sending, Transaction, at, is_same, Request, RequestsState, add_step, find, place_of, request_at, serial_at, request_of}
use Rattle.sbp_world.proofs.Words.World.{IsEntered, IsLatest, IsOurs, KnowsBy}
use Rattle.std.specs.Prelude.{◌≡◌, ◌≤◌, ◌<◌, ℕ, ◌+◌, nat_eq, nat_lt, Bool, true, false, cond, length, Option, Some, None, zero, suc, refl}
use Rattle.std.proofs.lemmas.List.{length-set}
use Rattle.bus_transactions.proofs.PacketParts.{same_is, same_refl}
use Rattle.sbp_world.proofs.Common.{equal_numbers, is_inside}

-- ---- numbers

pub same_by : (a b : ℕ) → a ≡ b → nat_eq a b ≡ true
same_by a b e = grind arith

pub differ_by : (a b : ℕ) → nat_eq a b ≡ false → a ≡ b → ⊥
differ_by a b e f = let x : nat_eq a b ≡ true = grind arith in cc

pub other_by : (a b : ℕ) → (a ≡ b → ⊥) → nat_eq a b ≡ false
other_by a b differs = by_test (nat_eq a b) refl
  where
    by_test : (x : Bool) → nat_eq a b ≡ x → nat_eq a b ≡ false
    by_test true e = absurd (differs (equal_numbers a b e))
    by_test false e = e

none_some : {request : Request} → None ≡ Some request → ⊥
none_some e = cc

-- ---- where a request stands that is found
pub record StandsIn (requests : RequestsState) (s : ℕ) (request : Request) : Type 0 where
  pub place : ℕ
  pub inside : place < length requests.serials
  pub serial : slice_index_or requests.serials place 0 ≡ s
  pub there : slice_index_or requests.requests place None ≡ Some request

stands_by : (requests : RequestsState) (s : ℕ) (request : Request) (o : Option ℕ) → position (nat_eq s) requests.serials ≡ o → request_at requests o ≡ Some request → StandsIn requests s request
stands_by requests s request None e f = cc
stands_by requests s request (Some place) e f =
    let p = position-Some (nat_eq s) requests.serials place 0 e in
    record { place = place; inside = p.0; serial = sym (equal_numbers s (slice_index_or requests.serials place 0) p.1); there = f }

stands : (requests : RequestsState) (s : ℕ) (request : Request) → find requests s ≡ Some request → StandsIn requests s request
stands requests s request e = stands_by requests s request (position (nat_eq s) requests.serials) refl e

-- what is found by a serial that stands at one place alone
pub found_at : (requests : RequestsState) (place : ℕ) → place < length requests.serials → ((k : ℕ) → k < place → slice_index_or requests.serials place 0 ≡ slice_index_or requests.serials k 0 → ⊥) → find requests (slice_index_or requests.serials place 0) ≡ slice_index_or requests.requests place None
found_at requests place inside apart =
    let s = slice_index_or requests.serials place 0 in
    let here : position_or_len (nat_eq s) requests.serials ≡ place =
    position_or_len_is (nat_eq s) requests.serials place 0 (omega arith) (λ k l. other_by s (slice_index_or requests.serials k 0) (apart k l)) (λ l. same_by s s refl) in
    ap (request_at requests)
    (ap (λ n. cond (nat_lt n (length requests.serials)) (Some n) None) here ∙ ap (λ b. cond b (Some place) None) (is_inside place (length requests.serials) inside))

-- ---- a request of a node to another under a label
place_same : (requests : RequestsState) (u v : Transaction) → u ≡ v → serial_at requests u.requester u.responder u.label ≡ serial_at requests v.requester v.responder v.label
place_same requests u v e = ap (λ (t : Transaction). serial_at requests t.requester t.responder t.label) e

small_place : (node peer label : ℕ) → node < 5 → peer < 5 → label < 64 → place_of node peer label < 1600
small_place node peer label a b c = omega arith

module _ {requests : RequestsState} {nodes : ℕ} {ids : ℕ → ℕ → ℕ} {sent : ℕ → Option Sending} {current : Transaction → ℕ} {bus count : ℕ} (k : KnowsBy requests nodes ids sent current bus count) (from to id : ℕ) (label : LabelParts) (packet : Sending) (from_small : from < 5) (to_small : to < 5) (number_small : label.number < 64) where
  abbrev new_request : Request
  new_request = request_of from id label

  abbrev now_present : Transaction
  now_present = transaction label.generation from to label.number

  abbrev with_new : RequestsState
  with_new = add_step (count + 1) to new_request requests

  abbrev old_serial : ℕ
  old_serial = serial_at requests from to label.number

  new_latest : (0 < from → to ≡ 0) → label.generation ≤ bus → id ≡ ids label.generation to → IsLatest with_new ids (at current now_present (count + 1)) bus (count + 1) new_request
  unfolding add_step
  new_latest aimed past peer_is =
      let size = k.size in
      let small = small_place from to label.number from_small to_small number_small in
      record {
        to = to;
        to_small = to_small;
        node_small = from_small;
        number_small = number_small;
        aimed = aimed;
        past = past;
        peer_is = peer_is;
        current_is = ap (λ b. cond b (count + 1) (current now_present)) (same_refl now_present);
        place_is = get_or-set_at requests.serials (place_of from to label.number) (place_of from to label.number) (count + 1) 0 refl (omega arith);
      }

  -- another request is of another transaction, and has another place
  other_latest : (s : ℕ) (other : Request) → (s ≡ old_serial → ⊥) → IsLatest requests ids current bus s other → IsLatest with_new ids (at current now_present (count + 1)) bus s other
  unfolding add_step
  other_latest s other differs l =
      let u = transaction other.label.generation other.node l.to other.label.number in
      let current_by : (b : Bool) → is_same u now_present ≡ b → cond b (count + 1) (current u) ≡ s = λ b e. by_same b u e (place_same requests u now_present) l.place_is l.current_is in
      record {
        to = l.to;
        to_small = l.to_small;
        node_small = l.node_small;
        number_small = l.number_small;
        aimed = l.aimed;
        past = l.past;
        peer_is = l.peer_is;
        current_is = current_by (is_same u now_present) refl;
        place_is = get_or-set_other requests.serials (place_of from to label.number) (place_of other.node l.to other.label.number) (count + 1) 0 (λ e. differs (sym l.place_is ∙ ap (λ x. slice_index_or requests.serials x 0) e)) ∙ l.place_is;
      }
    where
      by_same : (b : Bool) (u : Transaction) → is_same u now_present ≡ b → (u ≡ now_present → serial_at requests u.requester u.responder u.label ≡ old_serial) → serial_at requests u.requester u.responder u.label ≡ s → current u ≡ s → cond b (count + 1) (current u) ≡ s
      by_same true u e place here is = absurd (differs (sym here ∙ place (same_is u now_present e)))
      by_same false u e place here is = is

  ours_now : IsOurs nodes packet → (s : ℕ) (q : Sending) (b : Bool) → cond b (Some packet) (sent s) ≡ Some q → IsOurs nodes q
  ours_now o s q true e = subst (IsOurs nodes) (let x : packet ≡ q = cc in x) o
  ours_now o s q false e = k.ours s q e

  -- serials stay below the next one, and apart
  other_place : (place : ℕ) → (place ≡ place_of from to label.number → ⊥) → slice_index_or with_new.serials place 0 ≡ slice_index_or requests.serials place 0
  unfolding add_step
  other_place place differs = get_or-set_other requests.serials (place_of from to label.number) place (count + 1) 0 differs

  own_place : slice_index_or with_new.serials (place_of from to label.number) 0 ≡ count + 1
  unfolding add_step
  own_place =
      let size = k.size in
      let small = small_place from to label.number from_small to_small number_small in
      get_or-set_at requests.serials (place_of from to label.number) (place_of from to label.number) (count + 1) 0 refl (omega arith)

  same_length : length with_new.serials ≡ length requests.serials
  unfolding add_step
  same_length = length-set requests.serials (place_of from to label.number) (count + 1)

  -- a request stands beside a serial that was given
  positive : (place : ℕ) (other : Request) → slice_index_or requests.requests place None ≡ Some other → 0 < slice_index_or requests.serials place 0
  positive place other there = by_serial (slice_index_or requests.serials place 0) refl
    where
      by_serial : (n : ℕ) → slice_index_or requests.serials place 0 ≡ n → 0 < slice_index_or requests.serials place 0
      by_serial zero e = absurd (none_some (sym (k.blank place e) ∙ there))
      by_serial (suc n) e = omega (arith, e)

  -- what stands at another place, and at the new one
  other_request : (place : ℕ) → (place ≡ place_of from to label.number → ⊥) → slice_index_or with_new.requests place None ≡ slice_index_or requests.requests place None
  unfolding add_step
  other_request place differs = get_or-set_other requests.requests (place_of from to label.number) place (Some new_request) None differs

  own_request : slice_index_or with_new.requests (place_of from to label.number) None ≡ Some new_request
  unfolding add_step
  own_request =
      let size = k.room in
      let small = small_place from to label.number from_small to_small number_small in
      get_or-set_at requests.requests (place_of from to label.number) (place_of from to label.number) (Some new_request) None refl (omega arith)

  blank_now : (place : ℕ) → slice_index_or with_new.serials place 0 ≡ 0 → slice_index_or with_new.requests place None ≡ None
  blank_now place z = by_test (nat_eq place (place_of from to label.number)) refl
    where
      by_test : (b : Bool) → nat_eq place (place_of from to label.number) ≡ b → slice_index_or with_new.requests place None ≡ None
      by_test true e =
          let o = own_place in
          let zero : slice_index_or with_new.serials (place_of from to label.number) 0 ≡ 0 = subst (λ x. slice_index_or with_new.serials x 0 ≡ 0) (equal_numbers place (place_of from to label.number) e) z in
          absurd (omega (arith, o, zero))
      by_test false e =
          let d = differ_by place (place_of from to label.number) e in
          other_request place d ∙ k.blank place (sym (other_place place d) ∙ z)

  -- a request that stood before is found
  found_before : (place s : ℕ) (other : Request) → place < length requests.serials → slice_index_or requests.serials place 0 ≡ s → slice_index_or requests.requests place None ≡ Some other → find requests s ≡ Some other
  found_before place s other inside is there =
      subst (λ n. find requests n ≡ Some other) is
      (found_at requests place inside (λ j l e. let x : place ≡ j = k.apart place j (positive place other there) e in omega (arith, x, l)) ∙ there)

  latest_now : (0 < from → to ≡ 0) → label.generation ≤ bus → id ≡ ids label.generation to → (s : ℕ) (other : Request) → find with_new s ≡ Some other → IsLatest with_new ids (at current now_present (count + 1)) bus s other
  latest_now aimed past peer_is s other e = by_place (stands with_new s other e)
    where
      by_place : StandsIn with_new s other → IsLatest with_new ids (at current now_present (count + 1)) bus s other
      by_place st = by_test (nat_eq st.place (place_of from to label.number)) refl
        where
          by_test : (b : Bool) → nat_eq st.place (place_of from to label.number) ≡ b → IsLatest with_new ids (at current now_present (count + 1)) bus s other
          by_test true e =
              let here = equal_numbers st.place (place_of from to label.number) e in
              let is : count + 1 ≡ s = sym own_place ∙ ap (λ x. slice_index_or with_new.serials x 0) (sym here) ∙ st.serial in
              let what : Some new_request ≡ Some other = sym own_request ∙ ap (λ x. slice_index_or with_new.requests x None) (sym here) ∙ st.there in
              let same : new_request ≡ other = cc in
              subst (λ n. IsLatest with_new ids (at current now_present (count + 1)) bus n other) is
              (subst (IsLatest with_new ids (at current now_present (count + 1)) bus (count + 1)) same (new_latest aimed past peer_is))
          by_test false e =
              let d = differ_by st.place (place_of from to label.number) e in
              let is : slice_index_or requests.serials st.place 0 ≡ s = sym (other_place st.place d) ∙ st.serial in
              let there : slice_index_or requests.requests st.place None ≡ Some other = sym (other_request st.place d) ∙ st.there in
              let inside : st.place < length requests.serials = subst (λ n. st.place < n) same_length st.inside in
              let found = found_before st.place s other inside is there in
              other_latest s other (λ x. d (k.apart st.place (place_of from to label.number) (positive st.place other there) (is ∙ x))) (k.latest s other found)

  below_now : (place : ℕ) → slice_index_or with_new.serials place 0 ≤ count + 1
  below_now place = by_test (nat_eq place (place_of from to label.number)) refl
    where
      by_test : (b : Bool) → nat_eq place (place_of from to label.number) ≡ b → slice_index_or with_new.serials place 0 ≤ count + 1
      by_test true e = subst (λ x. slice_index_or with_new.serials x 0 ≤ count + 1) (sym (equal_numbers place (place_of from to label.number) e)) (let o = own_place in omega arith)
      by_test false e = let o = other_place place (differ_by place (place_of from to label.number) e) in let l = k.below place in omega arith

  apart_now : (one two : ℕ) → 0 < slice_index_or with_new.serials one 0 → slice_index_or with_new.serials one 0 ≡ slice_index_or with_new.serials two 0 → one ≡ two
  apart_now one two written e = by_test (nat_eq one (place_of from to label.number)) (nat_eq two (place_of from to label.number)) refl refl
    where
      place : ℕ
      place = place_of from to label.number

      clash : (other : ℕ) → nat_eq other place ≡ false → slice_index_or with_new.serials other 0 ≡ count + 1 → ⊥
      clash other f e = let o = other_place other (differ_by other place f) in let l = k.below other in omega (arith, e)

      by_test : (a b : Bool) → nat_eq one place ≡ a → nat_eq two place ≡ b → one ≡ two
      by_test true true f g = equal_numbers one place f ∙ sym (equal_numbers two place g)
      by_test true false f g = absurd (clash two g (sym e ∙ ap (λ x. slice_index_or with_new.serials x 0) (equal_numbers one place f) ∙ own_place))
      by_test false true f g = absurd (clash one f (e ∙ ap (λ x. slice_index_or with_new.serials x 0) (equal_numbers two place g) ∙ own_place))
      by_test false false f g =
          let o = other_place one (differ_by one place f) in
          let p = other_place two (differ_by two place g) in
          k.apart one two (subst (λ x. 0 < x) o written) (sym o ∙ e ∙ p)

  pub asked_knows : IsOurs nodes packet → (0 < from → to ≡ 0) → label.generation ≤ bus → id ≡ ids label.generation to → KnowsBy with_new nodes ids (upd sent (count + 1) (Some packet)) (at current now_present (count + 1)) bus (count + 1)
  unfolding add_step
  asked_knows o aimed past peer_is = record {
    ours = λ s q e. ours_now o s q (nat_eq s (count + 1)) e;
    size = length-set requests.serials (place_of from to label.number) (count + 1) ∙ k.size;
    room = length-set requests.requests (place_of from to label.number) (Some new_request) ∙ k.room;
    blank = blank_now;
    below = below_now;
    apart = apart_now;
    latest = latest_now aimed past peer_is;
  }

  -- the new request is found, and so are the others but the one that it replaces
  found_now : (place : ℕ) → place < length requests.serials → 0 < slice_index_or with_new.serials place 0 → find with_new (slice_index_or with_new.serials place 0) ≡ slice_index_or with_new.requests place None
  found_now place inside written =
      found_at with_new place (subst (λ n. place < n) (sym same_length) inside) (λ j l e. let x : place ≡ j = apart_now place j written e in omega (arith, x, l))

  pub new_entered : IsEntered with_new from to label.number new_request
  new_entered =
      let here : serial_at with_new from to label.number ≡ count + 1 = own_place in
      let written : 0 < serial_at with_new from to label.number = omega (arith, here) in
      let size = k.size in
      let small = small_place from to label.number from_small to_small number_small in
      record { written = written; found = found_now (place_of from to label.number) (omega arith) written ∙ own_request }

  pub still_entered : (node peer number : ℕ) (request : Request) → (place_of node peer number ≡ place_of from to label.number → ⊥) → IsEntered requests node peer number request → IsEntered with_new node peer number request
  still_entered node peer number request differs e =
      let place = place_of node peer number in
      let st = stands requests (serial_at requests node peer number) request e.found in
      let here : place ≡ st.place = k.apart place st.place e.written (sym st.serial) in
      let there : slice_index_or requests.requests place None ≡ Some request = ap (λ x. slice_index_or requests.requests x None) here ∙ st.there in
      let written : 0 < serial_at with_new node peer number = subst (λ x. 0 < x) (sym (other_place place differs)) e.written in
      record {
        written = written;
        found = found_now place (subst (λ x. x < length requests.serials) (sym here) st.inside) written ∙ other_request place differs ∙ there;
      }

-- a packet that is no request of a node's own leaves the requests as they are
pub other_knows : {requests : RequestsState} {nodes : ℕ} {ids : ℕ → ℕ → ℕ} {sent : ℕ → Option Sending} {current : Transaction → ℕ} {bus count : ℕ} → KnowsBy requests nodes ids sent current bus count → (packet : Sending) → IsOurs nodes packet → KnowsBy requests nodes ids (upd sent (count + 1) (Some packet)) current bus (count + 1)
other_knows {nodes = nodes} {sent = sent} {count = count} k packet o = record {
  ours = λ s q e. by_test s q (nat_eq s (count + 1)) e;
  size = k.size;
  room = k.room;
  blank = k.blank;
  below = λ place. let l = k.below place in omega arith;
  apart = k.apart;
  latest = k.latest;
}
  where
    by_test : (s : ℕ) (q : Sending) (b : Bool) → cond b (Some packet) (sent s) ≡ Some q → IsOurs nodes q
    by_test s q true e = subst (IsOurs nodes) (let x : packet ≡ q = cc in x) o
    by_test s q false e = k.ours s q e
