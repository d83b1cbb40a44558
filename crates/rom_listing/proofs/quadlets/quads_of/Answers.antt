-- One more quadlet is the first of those left.
use Rattle.std.proofs.Common.{◌≡◌, ◌∙◌, sym, ap, ℕ, suc, ◌+◌, ◌-◌, ◌*◌, ◌/◌, List, [], ◌∷◌, ◌++◌, length, append_assoc, arith}
use Rattle.sbp_base.specs.Quadlets.{quad}
use Rattle.rom_listing.specs.RomListing.{quads_from}
use Rattle.rom_listing.proofs.quadlets.quads_of.Goals as goal

quads-added : (bytes : List ℕ) (at next n m : ℕ) (xs new total : List ℕ) → n ≡ suc m → next ≡ suc at → new ≡ xs ++ quad bytes (4 * at) ∷ [] → xs ++ quads_from bytes at n ≡ total → new ++ quads_from bytes next m ≡ total
quads-added bytes at next n m xs new total e f g h =
    ap (λ k. new ++ quads_from bytes k m) f ∙ ap (λ ys. ys ++ quads_from bytes (suc at) m) g
    ∙ append_assoc xs (quad bytes (4 * at) ∷ []) (quads_from bytes (suc at) m) ∙ ap (λ k. xs ++ quads_from bytes at k) (sym e) ∙ h

pub loop-place-preserved : goal.loop-place-preserved
loop-place-preserved c =
    let place = c.loop-place.place in
    let count = length c.args.bytes.now / 4 in
    let xs = c.loop-place.quads.items in
    record {
      so_far = quads-added c.args.bytes.now place (place + 1) (count - place) (count - (place + 1)) xs c.push.new.self.items (quads_from c.args.bytes.now 0 count) (omega arith) (omega arith)
          (c.in_ok-push.ensures.items ∙ ap (λ q. xs ++ q ∷ []) c.quad_at.ensures) c.loop-place.invariant.so_far;
    }
