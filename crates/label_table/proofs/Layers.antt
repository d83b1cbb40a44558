-- The places of a transaction layer stay sound.
use Rattle.std.specs.Prelude.{◌≡◌, ◌≤◌, ◌<◌, ℕ, ◌+◌, ◌^◌, zero, suc, List, [], ◌∷◌, length, map, replicate, slice_set, slice_index_or, true, Option, Some, None, refl}
use Rattle.std.proofs.Common.{arith, sym, ◌∙◌, ap, subst}
use Rattle.std.proofs.lemmas.Grind.{common_steps}
use Rattle.std.proofs.Math.ListN.{length-set}
use Rattle.std.proofs.lemmas.List.{length-map}
use Rattle.label_table.specs.declared.reply.Verdict.TheVariants as verdicts
use Rattle.async_packet.specs.Labels.{LabelParts}
use Rattle.async_packet.specs.declared.packet.Header.{Header}
use Rattle.label_table.specs.Requests.{IsRequest, label_of, is_request_packet}
use Rattle.label_table.specs.Bodies.{Body, quadlet_write, block_write, quadlet_read, block_read, request_with}
use Rattle.label_table.specs.Filter.{SourcePlace, no_source, new_filter, source_of, request_at, source_at, place_for, remembered, remember_at, remember_step, judged, judge_at, judge_step}
use Rattle.label_table.specs.Peers.{PeerPlace, no_peer, clear_place, disown_place}
use Rattle.label_table.specs.Layer.{IsSound}
use Rattle.async_packet.specs.Canon.{IsValid, canon}
use Rattle.async_packet.proofs.RoundTrip.{canon_spells}
use Rattle.label_table.proofs.Owned.{holds, set_at}
use Rattle.label_table.proofs.Sources.{default_in, new_request_at}

-- one place changes, and counts at most one call more
pub sound_set : {P : Type 0} (calls k : ℕ) (peers : List (PeerPlace P)) (filter : List SourcePlace) (place : PeerPlace P) → IsSound calls peers filter → k < length peers → place.table.calls ≤ (slice_index_or peers k no_peer).table.calls + 1 → IsSound (calls + 1) (slice_set peers k place) filter
sound_set calls k peers filter place s h c = record {
  size = length-set peers k place ∙ s.size;
  counted = λ j. let e = set_at peers k j place no_peer h in let a = s.counted j in let b = s.counted k in grind arith;
  answered = s.answered;
}

pub ruleset counting = (sound_set)

abbrev AreSmall : List SourcePlace → Type 0
AreSmall filter = (k l : ℕ) → (request_at l (source_at filter k)).rcode < 2 ^ 4

-- a request with an rcode of 4 bits is remembered
small_in : (place : SourcePlace) (source : ℕ) (bytes : List ℕ) (rcode l : ℕ) → rcode < 2 ^ 4 → (request_at l place).rcode < 2 ^ 4 → (request_at l (remembered place source bytes rcode)).rcode < 2 ^ 4
unfolding remembered
small_in place source bytes rcode l h s = grind (arith, common_steps)

small_set : (filter : List SourcePlace) (n source : ℕ) (bytes : List ℕ) (rcode : ℕ) → AreSmall filter → rcode < 2 ^ 4 → n < length filter → AreSmall (slice_set filter n (remembered (source_at filter n) source bytes rcode))
small_set filter n source bytes rcode s h below k l =
    let e = set_at filter n k (remembered (source_at filter n) source bytes rcode) no_source below in
    let i = small_in (source_at filter n) source bytes rcode l h (s n l) in
    let j = s k l in
    grind arith

small_at : (filter : List SourcePlace) (source : ℕ) (bytes : List ℕ) (rcode : ℕ) (place : Option ℕ) → AreSmall filter → rcode < 2 ^ 4 → place_for source filter ≡ place → AreSmall (remember_at place filter source bytes rcode)
small_at filter source bytes rcode None s h e = s
small_at filter source bytes rcode (Some n) s h e = small_set filter n source bytes rcode s h (holds source_of no_source source filter n e).below

pub sound_remembered : {P : Type 0} (calls : ℕ) (peers : List (PeerPlace P)) (filter : List SourcePlace) (source : ℕ) (bytes : List ℕ) (rcode : ℕ) → IsSound calls peers filter → rcode < 2 ^ 4 → IsSound calls peers (remember_step filter source bytes rcode)
sound_remembered calls peers filter source bytes rcode s h =
    record { size = s.size; counted = s.counted; answered = small_at filter source bytes rcode _ s.answered h refl }

again_in : (filter : List SourcePlace) (k : ℕ) (bytes : List ℕ) (rcode : ℕ) → AreSmall filter → judged (source_at filter k) bytes ≡ verdicts.Again rcode → rcode < 2 ^ 4
unfolding judged
again_in filter k bytes rcode s e = let i = s k (label_of bytes) in grind arith

again_at : (filter : List SourcePlace) (place : Option ℕ) (bytes : List ℕ) (rcode : ℕ) → AreSmall filter → judge_at place filter bytes ≡ verdicts.Again rcode → rcode < 2 ^ 4
again_at filter None bytes rcode s e = cc
again_at filter (Some k) bytes rcode s e = again_in filter k bytes rcode s e

-- a write comes again with an rcode of 4 bits
pub again_small : {P : Type 0} (calls : ℕ) (peers : List (PeerPlace P)) (filter : List SourcePlace) (source : ℕ) (bytes : List ℕ) (rcode : ℕ) → IsSound calls peers filter → judge_step filter source bytes ≡ verdicts.Again rcode → rcode < 2 ^ 4
again_small calls peers filter source bytes rcode s e = again_at filter _ bytes rcode s.answered e

new_small : AreSmall new_filter
new_small k l = rw (new_request_at k l) (omega arith)

pub new_sound : {P : Type 0} (peers : List (PeerPlace P)) (filter : List SourcePlace) → peers ≡ replicate 5 no_peer → filter ≡ new_filter → IsSound 0 peers filter
new_sound peers filter p f = record {
  size = ap length p;
  counted = λ k. let e = ap (λ q. slice_index_or q k no_peer) p ∙ default_in 5 k no_peer in rw e (omega arith);
  answered = subst AreSmall (sym f) new_small;
}

-- the places of a later generation
cleared_at : {P : Type 0} (generation calls : ℕ) (peers : List (PeerPlace P)) → ((k : ℕ) → (slice_index_or peers k no_peer).table.calls ≤ calls) → (k : ℕ) → (slice_index_or (map (clear_place generation) peers) k no_peer).table.calls ≤ calls + 1
cleared_at generation calls [] c k = grind (arith, common_steps)
cleared_at generation calls (p ∷ ps) c zero = let i = c 0 in grind (arith, common_steps)
cleared_at generation calls (p ∷ ps) c (suc k) = cleared_at generation calls ps (λ j. c (suc j)) k

pub sound_seen : {P : Type 0} (generation calls : ℕ) (peers new : List (PeerPlace P)) (filter seen : List SourcePlace) → IsSound calls peers filter → new ≡ map (clear_place generation) peers → seen ≡ new_filter → IsSound (calls + 1) new seen
sound_seen generation calls peers new filter seen s p f = record {
  size = ap length p ∙ length-map peers (clear_place generation) ∙ s.size;
  counted = λ k. subst (λ q. (slice_index_or q k no_peer).table.calls ≤ calls + 1) (sym p) (cleared_at generation calls peers s.counted k);
  answered = subst AreSmall (sym f) new_small;
}

disowned_calls : {P : Type 0} (place : PeerPlace P) (label : LabelParts) → (disown_place place label).table.calls ≡ place.table.calls
disowned_calls place label = grind arith

pub sound_disowned : {P : Type 0} (calls k : ℕ) (peers : List (PeerPlace P)) (filter : List SourcePlace) (label : LabelParts) → IsSound calls peers filter → k < length peers → IsSound calls (slice_set peers k (disown_place (slice_index_or peers k no_peer) label)) filter
sound_disowned calls k peers filter label s h = record {
  size = length-set peers k _ ∙ s.size;
  counted = λ j.
      let e = set_at peers k j (disown_place (slice_index_or peers k no_peer) label) no_peer h in
      let d = disowned_calls (slice_index_or peers k no_peer) label in
      let a = s.counted j in
      let b = s.counted k in
      grind arith;
  answered = s.answered;
}

-- what is asked is a request
asks_with : (header : Header) (body : Body) → is_request_packet (request_with header body) ≡ true
asks_with header (quadlet_write offset value) = refl
asks_with header (block_write offset payload) = refl
asks_with header (quadlet_read offset) = refl
asks_with header (block_read offset asked) = refl

pub request_asked : (header : Header) (body : Body) → IsValid (request_with header body) → IsRequest (canon (request_with header body))
request_asked header body v = record {
  packet = request_with header body;
  spelled = canon_spells (request_with header body) v;
  asks = asks_with header body;
}
