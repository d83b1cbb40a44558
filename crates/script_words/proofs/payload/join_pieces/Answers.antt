use Rattle.std.proofs.Common.{[], refl, ◌∙◌, sym}
use Rattle.script_words.proofs.Lists.{uncounted, too_many, all_more, flat_map_more}
use Rattle.script_words.specs.Payload.{has_count, piece_bytes}
use Rattle.script_words.proofs.payload.join_pieces.Goals as goal

pub returns-then-not-has_count : goal.returns-then-not-has_count
returns-then-not-has_count c =
    λ _. sym (uncounted c.args.parts.now c.loop-piece.piece-index _ c.loop-piece-test.true (sym c.has_count.ensures ∙ c.if-not-has_count.true))

pub returns-then-as_slice-gt-MOST_DATA : goal.returns-then-as_slice-gt-MOST_DATA
returns-then-as_slice-gt-MOST_DATA c =
    let joined = c.as_slice.ensures ∙ c.in_ok-push_piece.ensures.ok in
    λ _. sym (too_many c.args.parts.now c.loop-piece.piece-index (record { ref_ptr = (0, 0); now = [] }) c.loop-piece-test.true (rw (← c.loop-piece.invariant.joined, ← joined) c.if-as_slice-gt-MOST_DATA.true))

pub loop-piece-preserved : goal.loop-piece-preserved
loop-piece-preserved c =
    let inv = c.loop-piece.invariant in
    let pushed = c.in_ok-push_piece.ensures.ok in
    let few = rw c.as_slice.ensures at c.if-as_slice-gt-MOST_DATA.false in
    record {
      counted = all_more has_count c.args.parts.now c.loop-piece.piece-index _ c.loop-piece-test.true inv.counted (sym c.has_count.ensures ∙ c.if-not-has_count.false);
      joined = pushed ∙ rw (inv.joined, ← flat_map_more piece_bytes c.args.parts.now c.loop-piece.piece-index _ c.loop-piece-test.true) refl;
      few = few;
    }
