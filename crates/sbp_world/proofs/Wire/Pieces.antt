-- What an ORB counts in a world is what the law says, and never much.
use Rattle.sbp_world.proofs.Words.Std.{if◌then◌else◌, ◌≡◌, arith, refl, sym, ◌∙◌, ap, nat_eq, nat_tests, div-eq_of_lt, sum_by-cons}
use Rattle.sbp_world.proofs.Words.Wire.{Cmd, chunks_in, chunks_of, transfers_by, weight_of}
use Rattle.sbp_world.proofs.Words.Initiator.{start, behind, Segment, chunks, pieces, segment_chunks, single, IsCommand}
use Rattle.sbp_world.proofs.Words.Laws.{share_of, laid_out, placed}
use Rattle.std.specs.Prelude.{ℕ, zero, suc, ◌+◌, ◌-◌, ◌*◌, ◌/◌, ◌^◌, ◌≤◌, Bool, true, false, List, [], ◌∷◌, length, sum, Some}
use Rattle.std.proofs.lemmas.List.{length-append}
use Rattle.bus_memory.specs.declared.window.Window.TheVariants as windows
use Rattle.sbp_bus.proofs.Weights.{div_below, size_few, size_some}
use Rattle.sbp_world.proofs.Wire.Counted.{most_share}

-- ---- how many chunks
many_pieces : (count base left limit : ℕ) → length (pieces count base left limit) ≡ count
many_pieces zero base left limit = refl
many_pieces (suc count) base left limit = ap suc (many_pieces count (base + limit) (left - limit) limit)

many_chunks : (size : ℕ) → 1 ≤ size → (segment : Segment) → length (segment_chunks size segment) ≡ chunks_in segment.length size
many_chunks size l segment =
    many_pieces ((segment.length + size - 1) / size) segment.base segment.length size
    ∙ ap (λ x. x / size) (let e : segment.length + size - 1 ≡ segment.length + (size - 1) = omega (arith, l) in e)

many_placed : (size : ℕ) → 1 ≤ size → (at : ℕ) (counts : List ℕ) → length (chunks size (placed at counts)) ≡ chunks_of counts size
many_placed size l at [] = refl
many_placed size l at (count ∷ counts) =
    let segment : Segment = record { base = at; length = count } in
    length-append (segment_chunks size segment) (chunks size (placed (behind at count) counts))
    ∙ (ap (λ x. x + length (chunks size (placed (behind at count) counts))) (many_chunks size l segment)
    ∙ ap (λ x. chunks_in count size + x) (many_placed size l (behind at count) counts))

few_none : (size : ℕ) → 1 ≤ size → chunks_in 0 size ≡ 0
few_none size l = div-eq_of_lt {n = 0 + (size - 1)} {m = size} (omega (arith, l))

many_single : (size : ℕ) → 1 ≤ size → (base count : ℕ) → length (chunks size (single base count)) ≡ chunks_in count size
many_single size l base count = by (nat_eq count 0) refl
  where
    segment : Segment
    segment = record { base = base; length = count }

    by : (b : Bool) → nat_eq count 0 ≡ b → length (chunks size (if b then [] else record { base = base; length = count } ∷ [])) ≡ chunks_in count size
    by true e = let z : 0 ≡ count = grind (arith, nat_tests) in sym (few_none size l) ∙ ap (λ x. chunks_in x size) z
    by false e =
        length-append (segment_chunks size (record { base = base; length = count })) []
        ∙ (let f = many_chunks size l (record { base = base; length = count }) in omega (arith, f))

many_laid : (cmd : Cmd) (size : ℕ) → 1 ≤ size → (counts : List ℕ) → length (chunks size (laid_out 0 cmd counts)) ≡ transfers_by cmd.length counts size
many_laid cmd size l [] = many_single size l (start (windows.Buffer 0)) cmd.length
many_laid cmd size l (count ∷ counts) = many_placed size l (start (windows.Buffer 0)) (count ∷ counts)

-- the law and the world say the same
pub weight_is : (cmd : Cmd) → share_of (Some cmd) ≡ weight_of cmd
unfolding weight_of
weight_is cmd = ap (λ x. 16 + 2 * (length cmd.segments + x)) (many_laid cmd (2 ^ (cmd.max_payload + 2)) (size_some cmd.max_payload) cmd.segments)

-- ---- and it is not much
few_in : (count size : ℕ) → size ≤ 2 ^ 17 → chunks_in count size ≤ count + 131072
few_in count size l = let e = div_below (count + (size - 1)) size in omega (arith, e, l)

few_of : (counts : List ℕ) (size : ℕ) → size ≤ 2 ^ 17 → chunks_of counts size ≤ sum counts + 131072 * length counts
few_of [] size l = omega arith
few_of (count ∷ counts) size l =
    let a = few_in count size l in
    let b = few_of counts size l in
    let c : sum (count ∷ counts) ≡ count + sum counts = sum_by-cons (λ x. x) count counts in
    omega (arith, a, b, c)

few_transfers : (count : ℕ) (counts : List ℕ) (size : ℕ) → size ≤ 2 ^ 17 → count ≤ 16384 → sum counts ≤ count → length counts ≤ 64 → transfers_by count counts size ≤ 8421376
few_transfers count [] size l c s n = let a = few_in count size l in omega (arith, a, c)
few_transfers count (first ∷ others) size l c s n =
    let a = few_of (first ∷ others) size l in
    omega (arith, a, c, s, n)

pub weight_few : (cmd : Cmd) → IsCommand cmd → weight_of cmd ≤ most_share
unfolding weight_of
weight_few cmd h =
    let r = h 0 0 in
    let a = r.short in
    let b = r.segments in
    let c = r.whole in
    let limit = r.max_payload in
    let size = size_few cmd.max_payload (omega (arith, limit)) in
    let d = few_transfers cmd.length cmd.segments (2 ^ (cmd.max_payload + 2)) size a c b in
    omega (arith, b, d)
