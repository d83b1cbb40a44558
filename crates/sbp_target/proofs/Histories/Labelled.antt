-- Each request has the lowest label that it may take.
use Rattle.std.proofs.Common.{arith, ◌≡◌, refl, sym, ap, ◌∙◌, subst, ℕ, ◌<◌, ◌&&◌, ◌||◌, nat_le, not, Bool, true, false, List, [], ◌∷◌, length, Option, Some, None}
use Rattle.std.specs.Option.{IsSome}
use Rattle.async_packet.specs.Fields.{tcode_of}
use Rattle.label_table.specs.declared.judgement.Asked.{Asked}
use Rattle.label_table.specs.declared.place.LabelState.{LabelState}
use Rattle.label_table.specs.declared.place.LabelState.TheVariants as states
use Rattle.label_table.specs.Bodies.{Body}
use Rattle.label_table.specs.Laws.{IsLowest}
use Rattle.label_table.specs.Layer.{Layer, asked_at, asking_in, asking_step, unlabelled, peer_at, peer_place, new_layer}
use Rattle.label_table.specs.Owned.{shown_in}
use Rattle.label_table.specs.Peers.{no_peer, begun_for, state_for, last_for}
use Rattle.label_table.specs.Requests.{with_label, is_write, is_last}
use Rattle.label_table.specs.Table as labels
use Rattle.label_table.specs.Table.{place_at, lowest_from, begin_at, begin_step}
use Rattle.label_table.specs.History as wire
use Rattle.label_table.proofs.Laws.{lowest_law}
use Rattle.label_table.proofs.Rewritten.{writes_labels}
use Rattle.label_table.proofs.Calls.{after_kept}
use Rattle.label_table.proofs.Told.{Parts}
use Rattle.sbp_target.specs.declared.purpose.Purpose.{Purpose}
use Rattle.sbp_target.specs.Histories.Layers.{layer_after}
use Rattle.sbp_target.specs.Histories.Labels.{Happening, Use, is_free, use_of, last_request, may_take, course_of, IsFound, AreFound}
use Rattle.sbp_target.proofs.Histories.Courses.{use_in, Agrees, new_agrees, done_agrees}
use Rattle.sbp_target.proofs.Histories.Made.{same_after}

-- ---- by what the layer keeps
abbrev may_by : Layer Purpose → ℕ → ℕ → List ℕ → Bool
may_by layer peer number bytes =
    labels.is_free (state_for layer.peers peer number) && (not (is_write bytes) || not (is_last (last_for layer.peers peer number) (with_label number bytes)))

abbrev may_in : Option ℕ → Layer Purpose → ℕ → List ℕ → Bool
may_in found layer number bytes =
    labels.is_free (shown_in (λ place. (place_at place.table number).state) no_peer states.Free found layer.peers) && (not (is_write bytes) || not (is_last (shown_in (λ place. (place_at place.table number).last) no_peer None found layer.peers) (with_label number bytes)))

may_is : (layer : Layer Purpose) (peer k number : ℕ) (bytes : List ℕ) → peer_place peer layer ≡ Some k → may_by layer peer number bytes ≡ may_in (Some k) layer number bytes
may_is layer peer k number bytes e = ap (λ (q : Option ℕ). may_in q layer number bytes) e

-- the label that was found is the lowest, and stands in the packet
record FindsLowest (layer : Layer Purpose) (peer : ℕ) (bytes : List ℕ) (asked : Asked) : Type 0 where
  small : asked.label.number < 64
  takes : may_by layer peer asked.label.number bytes ≡ true
  lowest : (other : ℕ) → other < asked.label.number → may_by layer peer other bytes ≡ false
  written : asked.bytes ≡ with_label asked.label.number bytes

abbrev Finds : Option Asked → Layer Purpose → ℕ → List ℕ → Type 0
Finds (Some asked) layer peer bytes = FindsLowest layer peer bytes asked
Finds None layer peer bytes = IsSome (peer_place peer layer) → (number : ℕ) → number < 64 → may_by layer peer number bytes ≡ false

finds_at : (layer : Layer Purpose) (peer k : ℕ) (bytes : List ℕ) (purpose : Purpose) (number : Option ℕ) → peer_place peer layer ≡ Some k → length (peer_at layer k).table.places ≡ 64 → IsLowest bytes (peer_at layer k).table.places number → Finds (asked_at k layer (begun_for (peer_at layer k) peer purpose (begin_at number (peer_at layer k).table bytes))).0 layer peer bytes
finds_at layer peer k bytes purpose None e full h = λ s number small. may_is layer peer k number bytes e ∙ h number (omega arith)
finds_at layer peer k bytes purpose (Some number) e full h = record {
  small = let b = h.0 in omega arith;
  takes = may_is layer peer k number bytes e ∙ h.1;
  lowest = λ other b. may_is layer peer k other bytes e ∙ h.2 other b;
  written = refl;
}

finds_in : (layer : Layer Purpose) (peer : ℕ) (bytes : List ℕ) (purpose : Purpose) (found : Option ℕ) → ((k : ℕ) → length (peer_at layer k).table.places ≡ 64) → peer_place peer layer ≡ found → Finds (asking_in found layer peer bytes purpose).0 layer peer bytes
unfolding begin_step
finds_in layer peer bytes purpose None full e = λ s number small. absurd (placeless (peer_place peer layer) e s)
  where
    placeless : (found : Option ℕ) → found ≡ None → IsSome found → ⊥
    placeless None e s = cc
    placeless (Some k) e s = cc
finds_in layer peer bytes purpose (Some k) full e =
    finds_at layer peer k bytes purpose (lowest_from 0 bytes (peer_at layer k).table.places) e (full k) (lowest_law bytes (peer_at layer k).table.places)

finds : (layer : Layer Purpose) (peer : ℕ) (body : Body) (purpose : Purpose) → ((k : ℕ) → length (peer_at layer k).table.places ≡ 64) → Finds (asking_step layer peer body purpose).0 layer peer (unlabelled layer peer body)
unfolding asking_step
finds layer peer body purpose full = finds_in layer peer (unlabelled layer peer body) purpose (peer_place peer layer) full refl

-- ---- by what happened
free_same : (state : LabelState) → labels.is_free state ≡ is_free (use_in state)
free_same states.Free = refl
free_same (states.UnderWay kind serial) = refl
free_same states.Resting = refl

tcode_same : (number : ℕ) (bytes : List ℕ) → tcode_of (with_label number bytes) ≡ tcode_of bytes
unfolding with_label tcode_of
tcode_same number [] = refl
tcode_same number (x ∷ []) = refl
tcode_same number (x ∷ y ∷ []) = refl
tcode_same number (x ∷ y ∷ z ∷ bytes) = omega arith

write_same : (number : ℕ) (bytes : List ℕ) → is_write (with_label number bytes) ≡ is_write bytes
unfolding is_write
write_same number bytes = ap (λ (t : ℕ). nat_le t 1) (tcode_same number bytes)

module _ (layer : Layer Purpose) (past : List Happening) (a : Agrees layer.peers past) where
  may_same : (peer number : ℕ) (bytes : List ℕ) → may_by layer peer number bytes ≡ may_take past peer number bytes
  may_same peer number bytes =
      let uses = free_same (state_for layer.peers peer number) ∙ ap (λ (u : Use). is_free u) (a.uses peer number) in
      ap (λ (b : Bool). b && (not (is_write bytes) || not (is_last (last_for layer.peers peer number) (with_label number bytes)))) uses
      ∙ ap (λ (o : Option (List ℕ)). is_free (use_of past peer number) && (not (is_write bytes) || not (is_last o (with_label number bytes)))) (a.lasts peer number)

  -- which label a packet has in it counts for nothing
  may_with : (peer number before : ℕ) (bytes : List ℕ) → may_take past peer number (with_label before bytes) ≡ may_take past peer number bytes
  may_with peer number before bytes =
      ap (λ (b : Bool). is_free (use_of past peer number) && (not b || not (is_last (last_request past peer number) (with_label number (with_label before bytes))))) (write_same before bytes)
      ∙ ap (λ (x : List ℕ). is_free (use_of past peer number) && (not (is_write bytes) || not (is_last (last_request past peer number) x))) (writes_labels.last bytes number before)

  found_by : (asked : Option Asked) (peer : ℕ) (bytes : List ℕ) → Finds asked layer peer bytes → IsFound asked layer past peer bytes
  found_by None peer bytes f = λ s number small. sym (may_same peer number bytes) ∙ f s number small
  found_by (Some asked) peer bytes f =
      let n = asked.label.number in
      let w = f.written in (
        record {
          small = f.small;
          written = ap (λ (b : List ℕ). with_label n b) w ∙ writes_labels.last bytes n n ∙ sym w;
          takes = ap (λ (b : List ℕ). may_take past peer n b) w ∙ may_with peer n n bytes ∙ sym (may_same peer n bytes) ∙ f.takes;
          lowest = λ other b. ap (λ (x : List ℕ). may_take past peer other x) w ∙ may_with peer other n bytes ∙ sym (may_same peer other bytes) ∙ f.lowest other b;
        },
        w,
      )

-- ---- over a list of steps
parts_after : (node : ℕ) (steps : List (wire.Call Purpose)) → Parts (layer_after (new_layer node) steps).generation (layer_after (new_layer node) steps).peers
parts_after node steps = subst (λ (l : Layer Purpose). Parts l.generation l.peers) (same_after node steps) (after_kept node steps).parts

agrees_after : (node : ℕ) (steps : List (wire.Call Purpose)) → Agrees (layer_after (new_layer node) steps).peers (course_of (new_layer node) steps [])
agrees_after node [] = new_agrees node
agrees_after node (step ∷ steps) =
    done_agrees step (layer_after (new_layer node) steps) (course_of (new_layer node) steps []) (parts_after node steps) (agrees_after node steps)

pub all_found : (node : ℕ) (steps : List (wire.Call Purpose)) → AreFound (new_layer node) steps
all_found node [] = tt
all_found node (wire.asks peer body purpose ∷ steps) =
    let layer = layer_after (new_layer node) steps in
    (found_by layer (course_of (new_layer node) steps []) (agrees_after node steps) (asking_step layer peer body purpose).0 peer (unlabelled layer peer body) (finds layer peer body purpose (parts_after node steps).full), all_found node steps)
all_found node (wire.judges generation bytes ∷ steps) = all_found node steps
all_found node (wire.answers p bytes rcode given ∷ steps) = all_found node steps
all_found node (wire.lets_expire peer label ∷ steps) = all_found node steps
all_found node (wire.disowns peer label ∷ steps) = all_found node steps
all_found node (wire.sees generation id ∷ steps) = all_found node steps
