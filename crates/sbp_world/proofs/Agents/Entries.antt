-- What the requests that nodes send make of those that the bus has: each stands at the place of its node, its peer and its label, with its serial.
use Rattle.sbp_world.proofs.Words.Std.{arith, ◌≡◌, ◌∙◌, ◌⊎◌, refl, sym, ap, subst, inl, inr, ℕ, zero, suc, ◌+◌, ◌<◌, nat_eq, Bool, true, false, List, [], ◌∷◌, length, Option, Some, None, position, slice_index_or, get_or-set_at, get_or-set_other, position-Some}
use Rattle.sbp_world.proofs.Words.Wire.{LabelParts, Stored, BusRequest, GenerationsState, node_of, RequestsState, add_step, find, place_of, request_at, request_of, Outgoing, Side, OutboxState}
use Rattle.sbp_world.proofs.Words.World.{handed_out, asked, posted, sent, sent_all, sent_to, told, told_all, WorldState, Has, Request, with_request, with_requests, AllLeave}
use Rattle.std.proofs.lemmas.List.{length-set}
use Rattle.sbp_journal.specs.declared.side.Side.TheVariants as sides
use Rattle.sbp_world.proofs.Wire.Alike.{sent_alike}
use Rattle.sbp_world.proofs.Agents.Serials.{Within, requests_within}
use Rattle.sbp_world.proofs.Common.{equal_numbers}
use Rattle.sbp_world.proofs.Wire.Latest.{differ_by, found_at}

-- ---- numbers

-- ---- what is found by a serial

pub found_here : (requests : RequestsState) → length requests.serials ≡ 1600 → ((one two : ℕ) → 0 < slice_index_or requests.serials one 0 → slice_index_or requests.serials one 0 ≡ slice_index_or requests.serials two 0 → one ≡ two) → (place : ℕ) → place < 1600 → 0 < slice_index_or requests.serials place 0 → find requests (slice_index_or requests.serials place 0) ≡ slice_index_or requests.requests place None
found_here requests size apart place small written =
    found_at requests place (subst (λ n. place < n) (sym size) small) (λ k l e. let x : place ≡ k = apart place k written e in omega (arith, x, l))

-- no request has the serial 0
pub found_positive : (requests : RequestsState) → ((place : ℕ) → slice_index_or requests.serials place 0 ≡ 0 → slice_index_or requests.requests place None ≡ None) → (serial : ℕ) (request : BusRequest) → find requests serial ≡ Some request → 0 < serial
found_positive requests blank serial request found = by (position (nat_eq serial) requests.serials) refl found
  where
    by_serial : (place n : ℕ) → serial ≡ n → slice_index_or requests.serials place 0 ≡ serial → slice_index_or requests.requests place None ≡ Some request → 0 < serial
    by_serial place zero e here there = absurd (let x : None ≡ Some request = sym (blank place (here ∙ e)) ∙ there in cc)
    by_serial place (suc n) e here there = omega (arith, e)

    by : (o : Option ℕ) → position (nat_eq serial) requests.serials ≡ o → request_at requests o ≡ Some request → 0 < serial
    by None e f = absurd (let x : None ≡ Some request = f in cc)
    by (Some place) e f =
        let p = position-Some (nat_eq serial) requests.serials place 0 e in
        by_serial place serial refl (sym (equal_numbers serial (slice_index_or requests.serials place 0) p.1)) f

-- ---- places
pub record Sized (bus : RequestsState) : Type 0 where
  pub serials : length bus.serials ≡ 1600
  pub requests : length bus.requests ≡ 1600

-- a place stays as it is
pub record Stays (old new : RequestsState) (place : ℕ) : Type 0 where
  pub serial_is : slice_index_or new.serials place 0 ≡ slice_index_or old.serials place 0
  pub request_is : slice_index_or new.requests place None ≡ slice_index_or old.requests place None

pub stays_same : (bus : RequestsState) (place : ℕ) → Stays bus bus place
stays_same bus place = record { serial_is = refl; request_is = refl }

pub stays_on : (old between new : RequestsState) (place : ℕ) → Stays old between place → Stays between new place → Stays old new place
stays_on old between new place a b = record { serial_is = b.serial_is ∙ a.serial_is; request_is = b.request_is ∙ a.request_is }

-- or has one of these requests of the target
pub record Written (requests : List Request) (bus : RequestsState) (place : ℕ) : Type 0 where
  pub request : Request
  pub has : Has requests request
  pub serial_is : slice_index_or bus.serials place 0 ≡ request.serial
  pub request_is : slice_index_or bus.requests place None ≡ Some (request_of 0 request.to request.label)

abbrev pub Placed : List Request → (old new : RequestsState) → (place : ℕ) → Type 0
Placed requests old new place = Stays old new place ⊎ Written requests new place

written_on : (before now : List Request) (old new : RequestsState) (place : ℕ) → Within before now → Written before old place → Placed now old new place → Written now new place
written_on before now old new place w a (inl b) = record { request = a.request; has = w a.request a.has; serial_is = b.serial_is ∙ a.serial_is; request_is = b.request_is ∙ a.request_is }
written_on before now old new place w a (inr b) = b

placed_on : (before now : List Request) (old between new : RequestsState) (place : ℕ) → Within before now → Placed before old between place → Placed now between new place → Placed now old new place
placed_on before now old between new place w (inl a) (inl b) = inl (stays_on old between new place a b)
placed_on before now old between new place w (inl a) (inr b) = inr b
placed_on before now old between new place w (inr a) b = inr (written_on before now between new place w a b)

-- ---- a request is entered
module _ (serial to node peer : ℕ) (label : LabelParts) (old : RequestsState) where
  abbrev entered : RequestsState
  entered = add_step serial to (request_of node peer label) old

  abbrev own : ℕ
  own = place_of node to label.number

  own_serial : own < length old.serials → slice_index_or entered.serials own 0 ≡ serial
  unfolding add_step
  own_serial l = get_or-set_at old.serials own own serial 0 refl l

  own_request : own < length old.requests → slice_index_or entered.requests own None ≡ Some (request_of node peer label)
  unfolding add_step
  own_request l = get_or-set_at old.requests own own (Some (request_of node peer label)) None refl l

  other_stays : (place : ℕ) → (place ≡ own → ⊥) → Stays old entered place
  unfolding add_step
  other_stays place d = record {
    serial_is = get_or-set_other old.serials own place serial 0 d;
    request_is = get_or-set_other old.requests own place (Some (request_of node peer label)) None d;
  }

  still_sized : Sized old → Sized entered
  unfolding add_step
  still_sized s = record {
    serials = length-set old.serials own serial ∙ s.serials;
    requests = length-set old.requests own (Some (request_of node peer label)) ∙ s.requests;
  }

-- ---- one of the target
abbrev added : Option LabelParts → (serial to peer : ℕ) → RequestsState → RequestsState
added None serial to peer old = old
added (Some label) serial to peer old = add_step serial to (request_of 0 peer label) old

module _ (serial to peer : ℕ) (requests : List Request) (old : RequestsState) (sized : Sized old) where
  added_sized : (label : Option LabelParts) → Sized (added label serial to peer old)
  added_sized None = sized
  added_sized (Some label) = still_sized serial to 0 peer label old sized

  abbrev fresh : LabelParts → Request
  fresh label = record { to = peer; label = label; serial = serial }

  own_written : (label : LabelParts) → place_of 0 to label.number < 1600 → Written (fresh label ∷ requests) (add_step serial to (request_of 0 peer label) old) (place_of 0 to label.number)
  own_written label small = record {
    request = fresh label;
    has = inl refl;
    serial_is = own_serial serial to 0 peer label old (subst (λ n. place_of 0 to label.number < n) (sym sized.serials) small);
    request_is = own_request serial to 0 peer label old (subst (λ n. place_of 0 to label.number < n) (sym sized.requests) small);
  }

  one_placed : (label : Option LabelParts) (place : ℕ) → place < 1600 → Placed (with_request peer label serial requests) old (added label serial to peer old) place
  one_placed None place small = inl (stays_same old place)
  one_placed (Some label) place small = by (nat_eq place (place_of 0 to label.number)) refl
    where
      by : (b : Bool) → nat_eq place (place_of 0 to label.number) ≡ b → Placed (fresh label ∷ requests) old (add_step serial to (request_of 0 peer label) old) place
      by true e =
          let same = equal_numbers place (place_of 0 to label.number) e in
          inr (subst (λ p. Written (fresh label ∷ requests) (add_step serial to (request_of 0 peer label) old) p) (sym same) (own_written label (subst (λ p. p < 1600) same small)))
      by false e = inl (other_stays serial to 0 peer label old place (differ_by place (place_of 0 to label.number) e))

-- each of these requests has a place, that of its label and of the node that it goes to
pub record AllWritten (generations : GenerationsState) (requests : List Request) (bus : RequestsState) : Type 0 where
  pub each : (r : Request) → Has requests r → (to : ℕ) → node_of generations 0 r.to ≡ Some to → place_of 0 to r.label.number < 1600 → Written requests bus (place_of 0 to r.label.number)

module _ (generations : GenerationsState) (serial to peer : ℕ) (requests : List Request) (old : RequestsState) (sized : Sized old) (there : node_of generations 0 peer ≡ Some to) (all : AllWritten generations requests old) where
  one_written : (label : Option LabelParts) → AllWritten generations (with_request peer label serial requests) (added label serial to peer old)
  one_written None = all
  one_written (Some label) = record { each = by }
    where
      new : RequestsState
      new = add_step serial to (request_of 0 peer label) old

      now : List Request
      now = record { to = peer; label = label; serial = serial } ∷ requests

      by : (r : Request) → Has now r → (other : ℕ) → node_of generations 0 r.to ≡ Some other → place_of 0 other r.label.number < 1600 → Written now new (place_of 0 other r.label.number)
      by r (inl same) other e small =
          let both : Some other ≡ Some to = sym e ∙ ap (λ (x : Request). node_of generations 0 x.to) (sym same) ∙ there in
          let other_is : other ≡ to = cc in
          let place_is : place_of 0 to label.number ≡ place_of 0 other r.label.number = ap (λ n. place_of 0 n label.number) (sym other_is) ∙ ap (λ (x : Request). place_of 0 other x.label.number) same in
          subst (λ p. Written now new p) place_is (own_written serial to peer requests old sized label (subst (λ p. p < 1600) (sym place_is) small))
      by r (inr h) other e small =
          written_on requests now old new (place_of 0 other r.label.number) (λ x y. inr y) (all.each r h other e small)
          (one_placed serial to peer requests old sized (Some label) (place_of 0 other r.label.number) small)

-- ---- a packet of the target leaves
record Left (packet : Outgoing) (w : WorldState) (to : ℕ) : Type 0 where
  requests_are : (sent 0 packet w).requests ≡ added packet.label (w.store.last + 1) to packet.to w.requests
  last_is : (sent 0 packet w).store.last ≡ w.store.last + 1
  generations_are : (sent 0 packet w).generations ≡ w.generations

asked_requests : (label : Option LabelParts) (serial to peer : ℕ) (w : WorldState) → (asked serial to 0 peer label w).requests ≡ added label serial to peer w.requests
asked_requests None serial to peer w = refl
asked_requests (Some label) serial to peer w = refl

asked_store : (label : Option LabelParts) (serial to node peer : ℕ) (w : WorldState) → (asked serial to node peer label w).store ≡ w.store
asked_store None serial to node peer w = refl
asked_store (Some label) serial to node peer w = refl

left : (packet : Outgoing) (w : WorldState) (to : ℕ) → node_of w.generations 0 packet.to ≡ Some to → Left packet w to
unfolding sent posted
left packet w to e = record {
  requests_are = ap (λ o. (sent_to o 0 packet w).requests) e ∙ asked_requests packet.label (w.store.last + 1) to packet.to (posted 0 to false packet.bytes w);
  last_is = ap (λ o. (sent_to o 0 packet w).store.last) e ∙ ap (λ (s : Stored). s.last) (asked_store packet.label (w.store.last + 1) to 0 packet.to (posted 0 to false packet.bytes w));
  generations_are = (sent_alike 0 packet w).generations;
}

module _ (packet : Outgoing) (w : WorldState) (to : ℕ) (l : Left packet w to) where
  abbrev v : WorldState
  v = sent 0 packet w

  left_sized : Sized w.requests → Sized v.requests
  left_sized s = subst Sized (sym l.requests_are) (added_sized (w.store.last + 1) to packet.to [] w.requests s packet.label)

  left_placed : (requests : List Request) → Sized w.requests → (place : ℕ) → place < 1600 → Placed (with_request packet.to packet.label (w.store.last + 1) requests) w.requests v.requests place
  left_placed requests s place small =
      subst (λ (b : RequestsState). Placed (with_request packet.to packet.label (w.store.last + 1) requests) w.requests b place) (sym l.requests_are)
      (one_placed (w.store.last + 1) to packet.to requests w.requests s packet.label place small)

  left_written : (requests : List Request) → Sized w.requests → node_of w.generations 0 packet.to ≡ Some to → AllWritten w.generations requests w.requests → AllWritten v.generations (with_request packet.to packet.label (w.store.last + 1) requests) v.requests
  left_written requests s there all =
      subst (λ (g : GenerationsState). AllWritten g (with_request packet.to packet.label (w.store.last + 1) requests) v.requests) (sym l.generations_are)
      (subst (λ (b : RequestsState). AllWritten w.generations (with_request packet.to packet.label (w.store.last + 1) requests) b) (sym l.requests_are)
      (one_written w.generations (w.store.last + 1) to packet.to requests w.requests s there all packet.label))

-- ---- all of them leave
pub all_placed : (packets : List Outgoing) (w : WorldState) (requests : List Request) → AllLeave w.generations packets → Sized w.requests → (place : ℕ) → place < 1600 → Placed (with_requests w.store.last packets requests) w.requests (sent_all 0 packets w).requests place
unfolding sent_all
all_placed [] w requests a s place small = inl (stays_same w.requests place)
all_placed (packet ∷ later) w requests a s place small =
    let l = left packet w a.0.to a.0.there in
    let v = sent 0 packet w in
    let now = with_request packet.to packet.label (w.store.last + 1) requests in
    let rest = all_placed later v now (subst (λ (g : GenerationsState). AllLeave g later) (sym l.generations_are) a.1) (left_sized packet w a.0.to l s) place small in
    placed_on now (with_requests (w.store.last + 1) later now) w.requests v.requests (sent_all 0 later v).requests place (requests_within (w.store.last + 1) later now)
    (left_placed packet w a.0.to l requests s place small)
    (subst (λ n. Placed (with_requests n later now) v.requests (sent_all 0 later v).requests place) l.last_is rest)

pub all_written : (packets : List Outgoing) (w : WorldState) (requests : List Request) → AllLeave w.generations packets → Sized w.requests → AllWritten w.generations requests w.requests → AllWritten w.generations (with_requests w.store.last packets requests) (sent_all 0 packets w).requests
unfolding sent_all
all_written [] w requests a s all = all
all_written (packet ∷ later) w requests a s all =
    let l = left packet w a.0.to a.0.there in
    let v = sent 0 packet w in
    let now = with_request packet.to packet.label (w.store.last + 1) requests in
    let rest = all_written later v now (subst (λ (g : GenerationsState). AllLeave g later) (sym l.generations_are) a.1) (left_sized packet w a.0.to l s) (left_written packet w a.0.to l requests s a.0.there all) in
    subst (λ (g : GenerationsState). AllWritten g (with_requests (w.store.last + 1) later now) (sent_all 0 later v).requests) l.generations_are
    (subst (λ n. AllWritten v.generations (with_requests n later now) (sent_all 0 later v).requests) l.last_is rest)

-- ---- what is told asks nothing
told_requests : (weight : ℕ) (side : Side) (w : WorldState) → (told weight side w).requests ≡ w.requests
unfolding told
told_requests weight (sides.Own note) w = refl
told_requests weight (sides.Opened place orb) w = refl
told_requests weight (sides.Ran place orb cdb payload outcome) w = refl
told_requests weight (sides.Ended place orb status) w = refl
told_requests weight (sides.Dead place cause) w = refl
told_requests weight (sides.Cut place cause) w = refl
told_requests weight (sides.Managed node function subject status login) w = refl
told_requests weight (sides.ManageFailed node cause) w = refl
told_requests weight (sides.Held login) w = refl
told_requests weight (sides.Expired login) w = refl
told_requests weight (sides.Back login) w = refl
told_requests weight (sides.Left login) w = refl
told_requests weight (sides.Cleared unit) w = refl
told_requests weight (sides.Unsolicited place) w = refl
told_requests weight (sides.Unsent place) w = refl

pub all_told_requests : (weight : ℕ) (later : List Side) (w : WorldState) → (told_all weight later w).requests ≡ w.requests
unfolding told_all
all_told_requests weight [] w = refl
all_told_requests weight (side ∷ later) w = all_told_requests weight later (told weight side w) ∙ told_requests weight side w

-- nor does a node that hands out no packet
pub quiet_requests : (node weight : ℕ) (outbox : OutboxState) (w : WorldState) → outbox.packets ≡ [] → (handed_out node weight outbox w).requests ≡ w.requests
unfolding sent_all
quiet_requests node weight outbox w e =
    ap (λ ps. (sent_all node ps (told_all weight outbox.sides w)).requests) e ∙ all_told_requests weight outbox.sides w

-- ---- an initiator asks at places of its own
module _ (i place : ℕ) (small : place < 320) where
  apart_from : (to number : ℕ) → place ≡ place_of (suc i) to number → ⊥
  apart_from to number e = omega (arith, e)

  own_asks : (label : Option LabelParts) (serial to peer : ℕ) (w : WorldState) → Stays w.requests (asked serial to (suc i) peer label w).requests place
  own_asks None serial to peer w = stays_same w.requests place
  own_asks (Some label) serial to peer w = other_stays serial to (suc i) peer label w.requests place (apart_from to label.number)

  own_sends : (to : Option ℕ) (packet : Outgoing) (w : WorldState) → Stays w.requests (sent_to to (suc i) packet w).requests place
  unfolding posted
  own_sends None packet w = stays_same w.requests place
  own_sends (Some to) packet w = own_asks packet.label (w.store.last + 1) to packet.to (posted (suc i) to false packet.bytes w)

  pub own_stays : (packets : List Outgoing) (w : WorldState) → Stays w.requests (sent_all (suc i) packets w).requests place
  unfolding sent_all sent
  own_stays [] w = stays_same w.requests place
  own_stays (packet ∷ later) w =
      let v = sent (suc i) packet w in
      stays_on w.requests v.requests (sent_all (suc i) later v).requests place (own_sends (node_of w.generations (suc i) packet.to) packet w) (own_stays later v)
