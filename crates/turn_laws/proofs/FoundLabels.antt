-- The first request of an agent's turn finds a label at the target exactly where the laws find one behind the first note of the turn: behind a response that the target got, behind a time-out, and behind
-- a request that it answers.
use Rattle.std.proofs.Common.{arith, ◌≡◌, ◌∙◌, refl, sym, ap, subst, ℕ, suc, ◌+◌, ◌<◌, ◌≤◌, ◌^◌, is_some, Bool, true, false, List, ◌∷◌, length, Option, Some, None, Result, Ok}
use Rattle.sbp_base.specs.Update.{upd}
use Rattle.async_packet.specs.Canon.{IsValid}
use Rattle.async_packet.specs.Labels.{LabelParts}
use Rattle.async_packet.specs.Packet.{Packet}
use Rattle.bus_transactions.specs.Bare.{bare}
use Rattle.bus_transactions.specs.Fitting.{FitsRequest}
use Rattle.bus_transactions.specs.Wire.{Node, as_sending, id_for}
use Rattle.bus_transactions.proofs.FitSteps.{expires_same, judges_same}
use Rattle.bus_transactions.proofs.Fits.{request_fits}
use Rattle.label_table.specs.Bodies.{Body, header_to, request_with}
use Rattle.label_table.specs.Layer.{Finding, Layer, asking_step, expiring_step, judging_step, of_response}
use Rattle.label_table.specs.declared.judgement.Asked.{Asked}
use Rattle.label_table.specs.declared.reply.Stale.{Stale}
use Rattle.login_table.specs.Table.{is_live}
use Rattle.login_table.specs.declared.login.Login.{Login}
use Rattle.packet_store.specs.declared.sent.Sent.{Sent}
use Rattle.packet_store.specs.Kept.{found_sent}
use Rattle.rbc_disk.specs.Disk.{Disk}
use Rattle.sbp_bus.specs.declared.requests.Request.{Request}
use Rattle.sbp_bus.specs.Generations.{id_of, node_of, topology_at}
use Rattle.sbp_bus.specs.Requests.{find}
use Rattle.sbp_journal.specs.Run.{Moment, said}
use Rattle.sbp_journal.specs.Transactions.{Kind, Part, Sending, Transaction, asked_by, at, between, is_same_kind, no_packet, part_of, request, response}
use Rattle.async_packet.specs.Fields.{rcode_of}
use Rattle.sbp_journal.specs.Wire.{Held, Terms, arrives, closes, closes_if, free, gets, gets_as, is_news, is_served, judges, rests, terms, waits}
use Rattle.sbp_journal.specs.declared.note.Note.TheVariants as notes
use Rattle.sbp_laws.specs.Packets.{finds_label, free_from, free_labels, is_free, label_for, to_peer}
use Rattle.sbp_laws.specs.Targets.{target_at}
use Rattle.sbp_target.specs.declared.purpose.Purpose.{Purpose}
use Rattle.sbp_target.specs.declared.purpose.Purpose.TheVariants as purposes
use Rattle.sbp_target.specs.Nodes.{NodeState, login_at}
use Rattle.sbp_world.specs.Agents.Holders.{IsHeld, IsLiveOf}
use Rattle.sbp_world.specs.Wire.Wires.{StandsAt, layers_of}
use Rattle.sbp_world.specs.Worlds.{Scene, WorldState, with_note}
use Rattle.sbp_world.proofs.Agents.Management.Holding.{known_id, was_sent}
use Rattle.sbp_world.proofs.Agents.Management.Still.{hist}
use Rattle.sbp_world.proofs.Wire.Asks.{upd_own}
use Rattle.sbp_world.proofs.Wire.Found.{node_found}
use Rattle.sbp_world.proofs.Wire.Holding.{latest_small}
use Rattle.sbp_world.proofs.Agents.FreeLabels.{KnowsLabels, knows_peers, knows_then, labels_at}
use Rattle.turn_laws.proofs.RequestLabels.{AreOf, bytes_at, finds_at}
use Rattle.turn_laws.proofs.StepLabels.{finds_in, peers_ask}
use Rattle.turn_laws.proofs.Places.{Place}
use Rattle.turn_laws.proofs.TurnWires.{Judges, alone, judged_stands, late_stands, repeated}

-- ---- what a label hangs on
pub record SameLabels (a b : Terms) : Type 0 where
  pub generation : a.generation ≡ b.generation
  pub ids : a.ids ≡ b.ids
  pub held : a.held ≡ b.held
  pub last : a.last ≡ b.last

abbrev with_labels : Terms → Terms → Terms
with_labels t a = record t { generation = a.generation; ids = a.ids; held = a.held; last = a.last }

module _ (node peer : ℕ) (body : Body) where
  abbrev found : Terms → Bool
  found t = finds_label t node peer body

  read_off : (t a : Terms) → found a ≡ found (with_labels t a)
  unfolding label_for
  read_off t a = refl

  pub same_labels : (a b : Terms) → SameLabels a b → found a ≡ found b
  same_labels a b s =
      read_off b a
      ∙ (ap (λ g. found (record b { generation = g; ids = a.ids; held = a.held; last = a.last })) s.generation
      ∙ (ap (λ i. found (record b { ids = i; held = a.held; last = a.last })) s.ids
      ∙ (ap (λ h. found (record b { held = h; last = a.last })) s.held
      ∙ ap (λ l. found (record b { last = l })) s.last)))

pub same_frees : (node peer : ℕ) (a b : Terms) → SameLabels a b → free_labels a node peer ≡ free_labels b node peer
same_frees node peer a b s =
    ap (λ g. free_from 64 (λ label. is_free (a.held (to_peer (record a { generation = g }) node peer label)))) s.generation
    ∙ ap (λ h. free_from 64 (λ label. is_free (h (to_peer b node peer label)))) s.held

-- a packet is got in a line that repeats as in one that does not
abbrev repeating : Terms → Terms
repeating t = record t { repeats = true }

closed_same : (b : Bool) (s : ℕ) (u : Transaction) (rcode : ℕ) (x y : Terms) → SameLabels x y → SameLabels (closes_if b s u rcode x) (closes_if b s u rcode y)
closed_same true s u rcode x y h = record { generation = h.generation; ids = h.ids; held = ap (λ held. at held u free) h.held; last = h.last }
closed_same false s u rcode x y h = h

closes_same : (held : Held) (u : Transaction) (kind : Kind) (rcode : ℕ) (x y : Terms) → SameLabels x y → SameLabels (closes held u kind rcode x) (closes held u kind rcode y)
closes_same (waits kind s) u other rcode x y h = closed_same (is_same_kind kind other) s u rcode x y h
closes_same free u other rcode x y h = h
closes_same rests u other rcode x y h = h

judges_same_labels : (u : Option Transaction) (s : ℕ) (q : Sending) (x y : Terms) → SameLabels x y → SameLabels (judges u None s q x) (judges u None s q y)
judges_same_labels None s q x y h = h
judges_same_labels (Some u) s q x y h = record { generation = h.generation; ids = h.ids; held = h.held; last = h.last }

abbrev arrived : ℕ → Terms → Terms
arrived s t = is_served s (is_news s (arrives s t))

arrived_same : (s : ℕ) (t : Terms) → SameLabels (arrived s (repeating t)) (arrived s t)
arrived_same s t = record { generation = refl; ids = refl; held = refl; last = refl }

part_same : (part : Part) (s : ℕ) (q : Sending) (t : Terms) → SameLabels (gets_as part s q (arrived s (repeating t))) (gets_as part s q (arrived s t))
part_same (request label kind) s q t = judges_same_labels (asked_by q) s q (arrived s (repeating t)) (arrived s t) (arrived_same s t)
part_same (response label kind) s q t =
    let u = between q q.to q.from label in closes_same (t.held u) u kind (rcode_of q.bytes) (arrived s (repeating t)) (arrived s t) (arrived_same s t)
part_same no_packet s q t = arrived_same s t

pub gets_same : (o : Option Sending) (s : ℕ) (t : Terms) → SameLabels (gets o s (repeating t)) (gets o s t)
gets_same None s t = record { generation = refl; ids = refl; held = refl; last = refl }
gets_same (Some q) s t = part_same (part_of q.bytes) s q t

-- a request that is got takes no label
judged_labels : (u : Option Transaction) (s : ℕ) (q : Sending) (t : Terms) → SameLabels (judges u None s q (arrived s t)) t
judged_labels None s q t = record { generation = refl; ids = refl; held = refl; last = refl }
judged_labels (Some u) s q t = record { generation = refl; ids = refl; held = refl; last = refl }

pub request_labels : (s : ℕ) (q : Sending) (label : ℕ) (kind : Kind) (t : Terms) → t.sent s ≡ Some q → part_of q.bytes ≡ request label kind → SameLabels (gets (t.sent s) s t) t
request_labels s q label kind t was part =
    subst (λ o. SameLabels (gets o s t) t) (sym was) (subst (λ p. SameLabels (gets_as p s q (arrived s t)) t) (sym part) (judged_labels (asked_by q) s q t))

-- the packet of a request of an agent is of its body
abbrev pub Spells : ℕ → Layer Purpose → Login → Type 0
Spells q layer login = (body : Body) → FitsRequest body → (asked : Asked) → (asking_step layer login.node body (purposes.Agent q)).0 ≡ Some asked → AreOf body asked.bytes

-- ---- at a place, of the agent of a live login
module _ (units ready : ℕ) (start : List Disk) (past : List Moment) (s : Scene) (here : Place units ready start past s) (q : ℕ) (login : Login) (there : login_at s.world.target q ≡ Some login) (live : is_live login ≡ true) where
  abbrev w : WorldState
  w = s.world

  abbrev ms : List Moment
  ms = hist past w

  abbrev node : NodeState
  node = w.target

  abbrev pub held_there : IsHeld (terms ms) (length w.initiators) (target_at start ms) w.places q login
  held_there = here.held.held q login there

  abbrev pub i : ℕ
  i = held_there.holder.initiator

  of : IsLiveOf (terms ms) (length w.initiators) (target_at start ms) q login i
  of = held_there.live live

  inside : suc i ≤ length w.initiators
  inside = let f : i < length w.initiators = of.of.small in omega (arith, f)

  node_id : id_of (topology_at w.generations 0) (suc i) ≡ login.node
  node_id =
      sym (known_id w here.holds.sound.stands (suc i) inside)
      ∙ (ap (λ n. (terms ms).ids ((terms ms).generation 0) n) (let e : suc i ≡ i + 1 = omega arith in e) ∙ of.of.node_is)

  -- its node
  pub peer_is : node_of w.generations 0 login.node ≡ Some (suc i)
  peer_is = node_found w here.holds.sound.stands 0 (omega arith) login.node (record { node = suc i; there = inside; id_is = node_id })

  -- over any wire with the target's generation
  module _ (before : List Moment) (layers : ℕ → Node) (v : WorldState) (stands : StandsAt before layers None v) (generations : v.generations ≡ w.generations) (count : length v.initiators ≡ length w.initiators) (layer : Layer Purpose) (own_is : layers 0 ≡ bare layer) (small : layer.node < 2 ^ 16) where
    inside_there : suc i ≤ length v.initiators
    inside_there = let f : suc i ≤ length w.initiators = inside in let c = count in omega (arith, f, c)

    low : 0 ≤ length v.initiators
    low = omega arith

    id_is : id_for stands.wire 0 (suc i) ≡ login.node
    id_is =
        ap (λ g. (terms stands.wire.past).ids g (suc i)) (stands.is.sights 0 low)
        ∙ (stands.is.known_ids 0 (suc i) low inside_there ∙ (ap (λ g. id_of (topology_at g 0) (suc i)) generations ∙ node_id))

    id_small : login.node < 2 ^ 16
    id_small = subst (λ n. n < 2 ^ 16) node_id (latest_small (topology_at w.generations 0) (suc i))

    labels_there : KnowsLabels (terms (hist before v)) 0 (suc i) login.node layer
    labels_there = labels_at v stands 0 (suc i) low inside_there layer own_is login.node id_is small id_small

    module _ (body : Body) (fit : FitsRequest body) where
      valid : IsValid (request_with (header_to layer.node login.node 0) body)
      valid = request_fits layer.node login.node body small id_small fit

      finds_there : finds_in q layer login body ≡ finds_label (terms (hist before v)) 0 (suc i) body
      finds_there = finds_at v stands 0 (suc i) low inside_there layer own_is login.node id_is body valid (purposes.Agent q)

      spells_there : (asked : Asked) → (asking_step layer login.node body (purposes.Agent q)).0 ≡ Some asked → AreOf body asked.bytes
      spells_there = bytes_at v stands 0 (suc i) low inside_there layer own_is login.node id_is body valid (purposes.Agent q)

  small_here : node.layer.node < 2 ^ 16
  small_here = here.holds.sound.nodes.target_holds.layer.small

  -- ---- behind a time-out
  module _ (serial : ℕ) (request : Request) (found : find w.requests serial ≡ Some request) (zero_is : request.node ≡ 0) (purpose : Option Purpose) (new : Layer Purpose) (e : expiring_step node.layer request.peer request.label ≡ (Ok purpose, new)) where
    small_late : new.node < 2 ^ 16
    small_late =
        subst (λ n. n < 2 ^ 16) (sym (expires_same node.layer request.peer request.label).node ∙ ap (λ (r : Result (Option Purpose) Stale × Layer Purpose). r.1.node) e) small_here

    stands_late : StandsAt past (upd (layers_of w) request.node (bare new)) None (with_note (notes.TimedOut serial) w)
    stands_late = late_stands units ready start past s here serial request found zero_is purpose new e

    pub late_finds : (body : Body) → FitsRequest body → finds_in q new login body ≡ finds_label (terms (said (notes.TimedOut serial) ∷ ms)) 0 (suc i) body
    late_finds body fit =
        finds_there past (upd (layers_of w) request.node (bare new)) (with_note (notes.TimedOut serial) w) stands_late refl refl new
        (ap (λ n. upd (layers_of w) n (bare new) 0) zero_is ∙ upd_own (layers_of w) 0 (bare new)) small_late body fit

    pub late_spells : Spells q new login
    late_spells body fit =
        spells_there past (upd (layers_of w) request.node (bare new)) (with_note (notes.TimedOut serial) w) stands_late refl refl new
        (ap (λ n. upd (layers_of w) n (bare new) 0) zero_is ∙ upd_own (layers_of w) 0 (bare new)) small_late body fit

    pub late_labels : KnowsLabels (terms (said (notes.TimedOut serial) ∷ ms)) 0 (suc i) login.node new
    late_labels =
        labels_there past (upd (layers_of w) request.node (bare new)) (with_note (notes.TimedOut serial) w) stands_late refl refl new
        (ap (λ n. upd (layers_of w) n (bare new) 0) zero_is ∙ upd_own (layers_of w) 0 (bare new)) small_late

  -- ---- a packet that is got
  module _ (serial : ℕ) (one : Sent) (found : found_sent serial w.store.kept ≡ Some one) (zero_to : one.to ≡ 0) where
    abbrev t : Terms
    t = terms ms

    -- a response: in a line that repeats it need not be in flight
    module _ (p : Packet) (label : LabelParts) (purpose : Option Purpose) (new : Layer Purpose) (e : judging_step node.layer one.generation one.bytes ≡ (of_response p label purpose, new)) where
      abbrev line : List Moment
      line = repeated units ready start past s here serial one found zero_to

      abbrev v : WorldState
      v = alone units ready start past s here serial one found zero_to

      stands_got : Judges units ready start past s here serial one found zero_to (of_response p label purpose, new)
      stands_got = subst (Judges units ready start past s here serial one found zero_to) e (judged_stands units ready start past s here serial one found zero_to)

      small_got : new.node < 2 ^ 16
      small_got =
          subst (λ n. n < 2 ^ 16) (sym (judges_same node.layer one.generation one.bytes).node ∙ ap (λ (r : Finding Purpose × Layer Purpose). r.1.node) e) small_here

      pub response_finds : (body : Body) → FitsRequest body → finds_in q new login body ≡ finds_label (terms (said (notes.Got serial) ∷ ms)) 0 (suc i) body
      response_finds body fit =
          finds_there line (upd (layers_of v) one.to (bare new)) (with_note (notes.Got serial) v) stands_got refl refl new
          (ap (λ n. upd (layers_of v) n (bare new) 0) zero_to ∙ upd_own (layers_of v) 0 (bare new)) small_got body fit
          ∙ same_labels 0 (suc i) body (terms (said (notes.Got serial) ∷ line)) (terms (said (notes.Got serial) ∷ ms)) (gets_same (t.sent serial) serial t)

      pub response_spells : Spells q new login
      response_spells body fit =
          spells_there line (upd (layers_of v) one.to (bare new)) (with_note (notes.Got serial) v) stands_got refl refl new
          (ap (λ n. upd (layers_of v) n (bare new) 0) zero_to ∙ upd_own (layers_of v) 0 (bare new)) small_got body fit

      pub response_labels : KnowsLabels (terms (said (notes.Got serial) ∷ ms)) 0 (suc i) login.node new
      response_labels =
          knows_then (terms (said (notes.Got serial) ∷ line)) (terms (said (notes.Got serial) ∷ ms)) 0 (suc i) login.node new
          (same_frees 0 (suc i) (terms (said (notes.Got serial) ∷ line)) (terms (said (notes.Got serial) ∷ ms)) (gets_same (t.sent serial) serial t))
          (labels_there line (upd (layers_of v) one.to (bare new)) (with_note (notes.Got serial) v) stands_got refl refl new
          (ap (λ n. upd (layers_of v) n (bare new) 0) zero_to ∙ upd_own (layers_of v) 0 (bare new)) small_got)

    -- a request, which is answered first
    module _ (number : ℕ) (kind : Kind) (part : part_of one.bytes ≡ request number kind) (new : Layer Purpose) (peers_are : new.peers ≡ node.layer.peers) (node_is : new.node ≡ node.layer.node) where
      pub request_finds : (body : Body) → FitsRequest body → finds_in q new login body ≡ finds_label (terms (said (notes.Got serial) ∷ ms)) 0 (suc i) body
      request_finds body fit =
          ap (λ o. is_some o) (peers_ask node.layer new peers_are node_is login.node body (purposes.Agent q))
          ∙ (finds_there past (layers_of w) w here.holds.sound.stands refl refl node.layer refl small_here body fit
          ∙ sym (same_labels 0 (suc i) body (terms (said (notes.Got serial) ∷ ms)) t (request_labels serial (as_sending one) number kind t (was_sent w here.holds.sound.stands serial one found) part)))

      pub request_spells : Spells q new login
      request_spells body fit asked e =
          spells_there past (layers_of w) w here.holds.sound.stands refl refl node.layer refl small_here body fit asked
          (sym (peers_ask node.layer new peers_are node_is login.node body (purposes.Agent q)) ∙ e)

      pub asked_labels : new.generation ≡ node.layer.generation → KnowsLabels (terms (said (notes.Got serial) ∷ ms)) 0 (suc i) login.node new
      asked_labels generation_is =
          let after = terms (said (notes.Got serial) ∷ ms) in
          knows_peers after 0 (suc i) login.node node.layer new peers_are node_is generation_is
          (knows_then t after 0 (suc i) login.node node.layer
          (sym (same_frees 0 (suc i) after t (request_labels serial (as_sending one) number kind t (was_sent w here.holds.sound.stands serial one found) part)))
          (labels_there past (layers_of w) w here.holds.sound.stands refl refl node.layer refl small_here))
