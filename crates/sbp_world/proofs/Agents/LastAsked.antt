-- The last request under a label that waits is the packet that left under it, whichever calls led to the layer.
use Rattle.sbp_world.proofs.Words.Std.{◌≡◌, ◌≢◌, ◌∙◌, ◌⊎◌, refl, sym, ap, subst, inl, inr, ℕ, ◌&&◌, nat_eq, nat_lt, Bool, true, false, cond, List, [], ◌∷◌, ◌++◌, Option, Some, None, Result, Ok, Err, arith, nat_tests}
use Rattle.sbp_world.proofs.Words.Wire.{PacketFault, LabelParts, Packet, header_in, reading, bare, bare_after, bare_finding, bare_result, same, Node, Asked, ReplyKind, Stale, Body, AreTold, Life, and_before, began, ended, forgotten, not_begun, over, told_by_asking, under_way, Row, by_again, by_generation, by_grammar, by_label, by_request, by_response, row_of, Finding, Layer, answering_step, asking_step, closed_by, closing_step, disowning_step, expiring_step, facts_of, judged_by, judging_step, new_layer, responded, seeing_step, seen_in_generation, unlabelled, last_for, kind_of, reply_kind, Outgoing}
use Rattle.sbp_world.proofs.Words.Target.{Purpose, layer_after, packets_of, request, response, with_asked}
use Rattle.bus_transactions.proofs.Bares.{takes_steps}
use Rattle.bus_transactions.proofs.Places.{Places, cleared_places, new_places}
use Rattle.bus_transactions.proofs.Steps as steps
use Rattle.label_table.specs.History as wire
use Rattle.label_table.proofs.Calls.{told_law}
use Rattle.sbp_target.proofs.Histories.Made.{same_after}
use Rattle.sbp_target.proofs.Histories.Seats.{same_self}
use Rattle.sbp_world.proofs.Agents.Fresh.{Started, lives_of, one_started, one_waited}

-- ---- a step that leaves all last requests as they were
record Lasts (layer new : Node) : Type 0 where
  places : Places new.generation new.peers
  lasts : (peer number : ℕ) → last_for new.peers peer number ≡ last_for layer.peers peer number

same_lasts : (layer new : Node) → Places layer.generation layer.peers → new ≡ layer → Lasts layer new
same_lasts layer new p e = subst (λ (l : Node). Lasts layer l) (sym e) (record { places = p; lasts = λ peer number. refl })

closed_lasts : (layer : Node) (peer number : ℕ) (kind : ReplyKind) → Places layer.generation layer.peers → (r : Option (LabelParts × Option (Unit {0})) × Node) → steps.ClosedAs layer peer number kind r → Lasts layer r.1
closed_lasts layer peer number kind p (Some closed, new) f = record { places = f.shows.places; lasts = f.lasts_are }
closed_lasts layer peer number kind p (None, new) e = same_lasts layer new p e.0

closes_lasts : (layer : Node) (p : Packet) (kind : Option ReplyKind) → Places layer.generation layer.peers → Lasts layer (closed_by kind layer p).1
closes_lasts layer p None h = same_lasts layer layer h refl
closes_lasts layer p (Some kind) h =
    let peer = (header_in p).source in
    let number = (header_in p).label in
    closed_lasts layer peer number kind h (closing_step layer peer number kind) (steps.closes layer peer number kind h)

responded_lasts : (layer : Node) (p : Packet) (r : Option (LabelParts × Option (Unit {0})) × Node) → Lasts layer r.1 → Lasts layer (responded p r).1
responded_lasts layer p (Some (label, purpose), new) l = l
responded_lasts layer p (None, new) l = l

row_lasts : (layer : Node) (bytes : List ℕ) (row : Row) (read : Result Packet PacketFault) → Places layer.generation layer.peers → Lasts layer (judged_by row layer bytes read).1
row_lasts layer bytes by_generation read h = same_lasts layer layer h refl
row_lasts layer bytes by_grammar read h = same_lasts layer layer h refl
row_lasts layer bytes by_label read h = same_lasts layer layer h refl
row_lasts layer bytes by_response (Ok p) h = responded_lasts layer p (closed_by (reply_kind p) layer p) (closes_lasts layer p (reply_kind p) h)
row_lasts layer bytes by_again (Ok p) h = same_lasts layer layer h refl
row_lasts layer bytes by_request (Ok p) h = same_lasts layer layer h refl
row_lasts layer bytes by_response (Err fault) h = same_lasts layer layer h refl
row_lasts layer bytes by_again (Err fault) h = same_lasts layer layer h refl
row_lasts layer bytes by_request (Err fault) h = same_lasts layer layer h refl

judging_lasts : (layer : Node) (generation : ℕ) (bytes : List ℕ) → Places layer.generation layer.peers → Lasts layer (judging_step layer generation bytes).1
unfolding judging_step
judging_lasts layer generation bytes h = row_lasts layer bytes (row_of (facts_of layer generation bytes)) (reading bytes) h

answering_lasts : (layer : Node) (p : Packet) (bytes : List ℕ) (rcode : ℕ) (given : List ℕ) → Places layer.generation layer.peers → Lasts layer (answering_step layer p bytes rcode given).1
unfolding answering_step
answering_lasts layer p bytes rcode given h = record { places = h; lasts = λ peer number. refl }

expired_lasts : (layer : Node) (peer : ℕ) (label : LabelParts) → Places layer.generation layer.peers → (r : Result (Option (Unit {0})) Stale × Node) → steps.ExpiredAs layer peer label r → Lasts layer r.1
expired_lasts layer peer label p (Ok purpose, new) e = record { places = e.frees.shows.places; lasts = e.frees.lasts_are }
expired_lasts layer peer label p (Err stale, new) e = same_lasts layer new p e

disowning_lasts : (layer : Node) (peer : ℕ) (label : LabelParts) → Places layer.generation layer.peers → Lasts layer (disowning_step layer peer label)
disowning_lasts layer peer label h = let s = steps.disowns layer peer label h in record { places = s.places; lasts = s.lasts_are }

-- ---- and the same of a layer that knows what its transactions are for
after_bare : {A B : Type 0} (told : A → B) (r : A × Layer Purpose) → (bare_after told r).1 ≡ bare r.1
after_bare told (answer, layer) = refl

abbrev Stays : Layer Purpose → Layer Purpose → Type 0
Stays layer new = Lasts (bare layer) (bare new)

abbrev Sound : Layer Purpose → Type 0
Sound layer = Places layer.generation (bare layer).peers

judging_stays : (layer : Layer Purpose) (generation : ℕ) (bytes : List ℕ) → Sound layer → Stays layer (judging_step layer generation bytes).1
judging_stays layer generation bytes h =
    subst (Lasts (bare layer)) (ap (λ (r : Finding (Unit {0}) × Node). r.1) ((takes_steps Purpose).judges layer generation bytes) ∙ after_bare bare_finding (judging_step layer generation bytes)) (judging_lasts (bare layer) generation bytes h)

answering_stays : (layer : Layer Purpose) (p : Packet) (bytes : List ℕ) (rcode : ℕ) (given : List ℕ) → Sound layer → Stays layer (answering_step layer p bytes rcode given).1
answering_stays layer p bytes rcode given h =
    subst (Lasts (bare layer)) (ap (λ (r : List ℕ × Node). r.1) ((takes_steps Purpose).answers layer p bytes rcode given) ∙ after_bare same (answering_step layer p bytes rcode given)) (answering_lasts (bare layer) p bytes rcode given h)

expiring_stays : (layer : Layer Purpose) (peer : ℕ) (label : LabelParts) → Sound layer → Stays layer (expiring_step layer peer label).1
expiring_stays layer peer label h =
    subst (Lasts (bare layer)) (ap (λ (r : Result (Option (Unit {0})) Stale × Node). r.1) ((takes_steps Purpose).expires layer peer label) ∙ after_bare bare_result (expiring_step layer peer label))
    (expired_lasts (bare layer) peer label h (expiring_step (bare layer) peer label) (steps.expires (bare layer) peer label h))

disowning_stays : (layer : Layer Purpose) (peer : ℕ) (label : LabelParts) → Sound layer → Stays layer (disowning_step layer peer label)
disowning_stays layer peer label h = subst (Lasts (bare layer)) ((takes_steps Purpose).disowns layer peer label) (disowning_lasts (bare layer) peer label h)

-- ---- packets that left
abbrev pub Among : List Outgoing → Outgoing → Type 0
Among [] packet = ⊥
Among (first ∷ packets) packet = (first ≡ packet) ⊎ Among packets packet

split : (packets : List Outgoing) (last packet : Outgoing) → Among (packets ++ last ∷ []) packet → (last ≡ packet) ⊎ Among packets packet
split [] last packet (inl e) = inl e
split [] last packet (inr h) = absurd h
split (first ∷ packets) last packet (inl e) = inr (inl e)
split (first ∷ packets) last packet (inr h) = by (split packets last packet h)
  where
    by : (last ≡ packet) ⊎ Among packets packet → (last ≡ packet) ⊎ ((first ≡ packet) ⊎ Among packets packet)
    by (inl e) = inl e
    by (inr i) = inr (inr i)

abbrev First : Layer Purpose
First = new_layer 0xffc0

abbrev pub sent_by : List (wire.Call Purpose) → List Outgoing
sent_by made = packets_of First made

-- Of the packets of these calls each that has a label began a transaction under it, and is the last request under it as long as this is under way.
pub record AreLatest (made : List (wire.Call Purpose)) : Type 0 where
  pub sound : Sound (wire.after 0xffc0 made)
  pub started : (packet : Outgoing) (label : LabelParts) → Among (sent_by made) packet → packet.label ≡ Some label → Started (lives_of made packet.to label)
  pub latest : (packet : Outgoing) (label : LabelParts) → Among (sent_by made) packet → packet.label ≡ Some label → wire.IsUnderWay (lives_of made packet.to label) → last_for (bare (wire.after 0xffc0 made)).peers packet.to label.number ≡ Some packet.bytes

abbrev Within : List (wire.Call Purpose) → wire.Call Purpose → Type 0
Within made step = (packet : Outgoing) (label : LabelParts) → Among (sent_by (step ∷ made)) packet → packet.label ≡ Some label → Among (sent_by made) packet

-- a step that leaves no request
quiet : (step : wire.Call Purpose) (made : List (wire.Call Purpose)) → AreLatest made → Within made step → Stays (wire.after 0xffc0 made) (wire.after 0xffc0 (step ∷ made)) → AreLatest (step ∷ made)
quiet step made k within l = record {
  sound = l.places;
  started = λ packet label m e. one_started step made packet.to label (k.started packet label (within packet label m e) e);
  latest = λ packet label m e u.
      let n = within packet label m e in
      l.lasts packet.to label.number ∙ k.latest packet label n e (one_waited step made packet.to label (k.started packet label n e) u);
}

none_label : (label : LabelParts) → None ≡ Some label → ⊥
none_label label e = cc

answer_within : (made : List (wire.Call Purpose)) (p : Packet) (bytes : List ℕ) (rcode : ℕ) (given : List ℕ) → Within made (wire.answers p bytes rcode given)
answer_within made p bytes rcode given packet label m e = by (split (sent_by made) (response p (answering_step (layer_after First made) p bytes rcode given).0) packet m)
  where
    by : (response p (answering_step (layer_after First made) p bytes rcode given).0 ≡ packet) ⊎ Among (sent_by made) packet → Among (sent_by made) packet
    by (inl same) = absurd (none_label label (ap (λ (x : Outgoing). x.label) same ∙ e))
    by (inr n) = n

-- ---- a later generation is seen, and all is forgotten
not_ended : (life : Life Purpose) → wire.IsUnderWay (ended life) → ⊥
not_ended not_begun u = u
not_ended (under_way kind purpose) u = u
not_ended over u = u

seen_latest : (generation node : ℕ) (made : List (wire.Call Purpose)) → AreLatest made → (later : Bool) → nat_lt (wire.after 0xffc0 made).generation generation ≡ later → AreLatest (wire.sees generation node ∷ made)
unfolding seeing_step
seen_latest generation node made k false e =
    let layer = wire.after 0xffc0 made in
    let step : wire.Call Purpose = wire.sees generation node in
    let is : (seeing_step layer generation node).1 ≡ layer = ap (λ (b : Bool). (cond {A = Bool × Layer Purpose} b (true, seen_in_generation layer generation node) (false, layer)).1) e in
    quiet step made k (λ packet label m f. m) (same_lasts (bare layer) (bare (seeing_step layer generation node).1) k.sound (ap bare is))
seen_latest generation node made k true e =
    let layer = wire.after 0xffc0 made in
    let step : wire.Call Purpose = wire.sees generation node in
    let seen_is : seeing_step (bare layer) generation node ≡ (true, seen_in_generation (bare layer) generation node) = ap (λ (b : Bool). cond {A = Bool × Node} b (true, seen_in_generation (bare layer) generation node) (false, bare layer)) e in
    let is : bare (seeing_step layer generation node).1 ≡ seen_in_generation (bare layer) generation node =
    sym (after_bare same (seeing_step layer generation node)) ∙ ap (λ (r : Bool × Node). r.1) (sym ((takes_steps Purpose).sees layer generation node) ∙ seen_is) in
    let told : wire.told step layer ≡ Some forgotten = ap (λ (b : Bool). cond b (Some forgotten) None) e in
    record {
      sound = subst (λ (l : Node). Places l.generation l.peers) (sym is) (cleared_places generation (bare layer).peers k.sound.size);
      started = λ packet label m f. one_started step made packet.to label (k.started packet label m f);
      latest = λ packet label m f u.
          absurd (not_ended (lives_of made packet.to label)
          (subst (λ o. wire.IsUnderWay (wire.life packet.to label (and_before o (wire.history 0xffc0 made)))) told u));
    }

-- ---- a request
module _ (made : List (wire.Call Purpose)) (k : AreLatest made) (peer : ℕ) (body : Body) (purpose : Purpose) where
  abbrev layer : Layer Purpose
  layer = wire.after 0xffc0 made

  abbrev step : wire.Call Purpose
  step = wire.asks peer body purpose

  abbrev now : Layer Purpose
  now = (asking_step layer peer body purpose).1

  abbrev bytes : List ℕ
  bytes = unlabelled layer peer body

  asked_as : (r : Option Asked) → (asking_step layer peer body purpose).0 ≡ r → steps.AskedAs (bare layer) peer bytes (r, bare now)
  asked_as r e =
      subst (steps.AskedAs (bare layer) peer bytes)
      ((takes_steps Purpose).asks layer peer body purpose ∙ pair (asking_step layer peer body purpose) ∙ ap (λ (o : Option Asked). both o (bare now)) e)
      (steps.asks (bare layer) peer body k.sound)
    where
      both : Option Asked → Node → Option Asked × Node
      both o l = (o, l)

      pair : (r : Option Asked × Layer Purpose) → bare_after same r ≡ both r.0 (bare r.1)
      pair (o, l) = refl

  packets_are : sent_by (step ∷ made) ≡ with_asked peer (asking_step layer peer body purpose).0 (sent_by made)
  packets_are = ap (λ (l : Layer Purpose). with_asked peer (asking_step l peer body purpose).0 (sent_by made)) (sym (same_after 0xffc0 made))

  none_latest : (asking_step layer peer body purpose).0 ≡ None → AreLatest (step ∷ made)
  none_latest e =
      let n = asked_as None e in
      quiet step made k (λ packet label m f. subst (λ (ps : List Outgoing). Among ps packet) (packets_are ∙ ap (λ (o : Option Asked). with_asked peer o (sent_by made)) e) m)
      (same_lasts (bare layer) (bare now) k.sound n.0)

  module _ (asked : Asked) (e : (asking_step layer peer body purpose).0 ≡ Some asked) where
    a : steps.Asks (bare layer) (bare now) peer bytes asked
    a = asked_as (Some asked) e

    told_is : wire.told step layer ≡ Some (began peer asked.label (kind_of bytes) purpose)
    told_is = ap (told_by_asking peer (kind_of bytes) purpose) e

    told : AreTold (began peer asked.label (kind_of bytes) purpose ∷ wire.history 0xffc0 made)
    told = subst (λ o. AreTold (and_before o (wire.history 0xffc0 made))) told_is (told_law Purpose 0xffc0 (step ∷ made))

    life : lives_of (step ∷ made) peer asked.label ≡ under_way (kind_of bytes) (Some purpose)
    life =
        ap (λ o. wire.life peer asked.label (and_before o (wire.history 0xffc0 made))) told_is
        ∙ ap (λ (b : Bool). cond b (under_way (kind_of bytes) (Some purpose)) (lives_of made peer asked.label)) (same_self peer asked.label)

    is_split : (packet : Outgoing) → Among (sent_by (step ∷ made)) packet → (request peer asked ≡ packet) ⊎ Among (sent_by made) packet
    is_split packet m =
        split (sent_by made) (request peer asked) packet (subst (λ (ps : List Outgoing). Among ps packet) (packets_are ∙ ap (λ (o : Option Asked). with_asked peer o (sent_by made)) e) m)

    -- the label of this request, by that of its packet
    record Own (packet : Outgoing) (label : LabelParts) : Type 0 where
      to : packet.to ≡ peer
      label_is : label ≡ asked.label
      bytes_are : packet.bytes ≡ asked.bytes

    own : (packet : Outgoing) (label : LabelParts) → request peer asked ≡ packet → packet.label ≡ Some label → Own packet label
    own packet label same f =
        let both : Some asked.label ≡ Some label = ap (λ (x : Outgoing). x.label) same ∙ f in
        record { to = ap (λ (x : Outgoing). x.to) (sym same); label_is = cc; bytes_are = ap (λ (x : Outgoing). x.bytes) (sym same) }

    started_by : (packet : Outgoing) (label : LabelParts) → packet.label ≡ Some label → (request peer asked ≡ packet) ⊎ Among (sent_by made) packet → Started (lives_of (step ∷ made) packet.to label)
    started_by packet label f (inl same) =
        let o = own packet label same f in
        subst (λ p. Started (lives_of (step ∷ made) p label)) (sym o.to) (subst (λ (l : LabelParts). Started (lives_of (step ∷ made) peer l)) (sym o.label_is) (subst Started (sym life) tt))
    started_by packet label f (inr m) = one_started step made packet.to label (k.started packet label m f)

    here : last_for (bare now).peers peer asked.label.number ≡ Some asked.bytes
    here =
        let x : nat_eq peer peer ≡ true = grind (arith, nat_tests) in
        let y : nat_eq asked.label.number asked.label.number ≡ true = grind (arith, nat_tests) in
        a.lasts_are peer asked.label.number
        ∙ ap (λ (b : Bool). cond (b && nat_eq asked.label.number asked.label.number) (Some asked.bytes) (last_for (bare layer).peers peer asked.label.number)) x
        ∙ ap (λ (b : Bool). cond b (Some asked.bytes) (last_for (bare layer).peers peer asked.label.number)) y

    -- another label that waits
    other_by : (p number : ℕ) (x y : Bool) → nat_eq p peer ≡ x → nat_eq number asked.label.number ≡ y → (p ≡ peer → number ≢ asked.label.number) → (x && y) ≡ false
    other_by p number true true e f n = absurd (n (let same : p ≡ peer = grind (arith, nat_tests) in same) (let same : number ≡ asked.label.number = grind (arith, nat_tests) in same))
    other_by p number true false e f n = refl
    other_by p number false y e f n = refl

    there : (p number : ℕ) → (p ≡ peer → number ≢ asked.label.number) → last_for (bare now).peers p number ≡ last_for (bare layer).peers p number
    there p number n =
        a.lasts_are p number
        ∙ ap (λ (b : Bool). cond b (Some asked.bytes) (last_for (bare layer).peers p number)) (other_by p number (nat_eq p peer) (nat_eq number asked.label.number) refl refl n)

    latest_by : (packet : Outgoing) (label : LabelParts) → packet.label ≡ Some label → wire.IsUnderWay (lives_of (step ∷ made) packet.to label) → (request peer asked ≡ packet) ⊎ Among (sent_by made) packet → last_for (bare now).peers packet.to label.number ≡ Some packet.bytes
    latest_by packet label f u (inl same) =
        let o = own packet label same f in
        ap (λ p. last_for (bare now).peers p label.number) o.to ∙ ap (λ (l : LabelParts). last_for (bare now).peers peer l.number) o.label_is ∙ here ∙ ap Some (sym o.bytes_are)
    latest_by packet label f u (inr m) =
        let waited = one_waited step made packet.to label (k.started packet label m f) u in
        there packet.to label.number (λ s. told.0.1 label (subst (λ p. wire.IsUnderWay (lives_of made p label)) s waited)) ∙ k.latest packet label m f waited

    some_latest : AreLatest (step ∷ made)
    some_latest = record {
      sound = a.shows.places;
      started = λ packet label m f. started_by packet label f (is_split packet m);
      latest = λ packet label m f u. latest_by packet label f u (is_split packet m);
    }

  asked_latest : (r : Option Asked) → (asking_step layer peer body purpose).0 ≡ r → AreLatest (step ∷ made)
  asked_latest None e = none_latest e
  asked_latest (Some asked) e = some_latest asked e

-- ---- all calls
pub are_latest : (made : List (wire.Call Purpose)) → AreLatest made
are_latest [] = record { sound = new_places; started = λ packet label m e. absurd m; latest = λ packet label m e u. absurd m }
are_latest (wire.judges generation bytes ∷ made) =
    let k = are_latest made in
    quiet (wire.judges generation bytes) made k (λ packet label m e. m) (judging_stays (wire.after 0xffc0 made) generation bytes k.sound)
are_latest (wire.answers p bytes rcode given ∷ made) =
    let k = are_latest made in
    quiet (wire.answers p bytes rcode given) made k (answer_within made p bytes rcode given) (answering_stays (wire.after 0xffc0 made) p bytes rcode given k.sound)
are_latest (wire.asks peer body purpose ∷ made) = asked_latest made (are_latest made) peer body purpose (asking_step (wire.after 0xffc0 made) peer body purpose).0 refl
are_latest (wire.lets_expire peer label ∷ made) =
    let k = are_latest made in
    quiet (wire.lets_expire peer label) made k (λ packet label m e. m) (expiring_stays (wire.after 0xffc0 made) peer label k.sound)
are_latest (wire.disowns peer label ∷ made) =
    let k = are_latest made in
    quiet (wire.disowns peer label) made k (λ packet label m e. m) (disowning_stays (wire.after 0xffc0 made) peer label k.sound)
are_latest (wire.sees generation node ∷ made) =
    let k = are_latest made in
    seen_latest generation node made k (nat_lt (wire.after 0xffc0 made).generation generation) refl
