use Rattle.std.proofs.Common.{◌≡◌, ◌∙◌, ap, sym, arith, ℕ, ◌+◌, ◌<◌, List, [], ◌∷◌, ◌++◌, length, map, take, drop, get_or, Option}
use Rattle.std.specs.List.{filter_map}
use Rattle.std.proofs.lemmas.Grind.{common_steps}
use Rattle.std.proofs.lemmas.List.{take_more}
use Rattle.std.proofs.lemmas.List.Edits.{map_over_more}
use Rattle.std.proofs.lemmas.List.Elements.{filter_map-append}
use Rattle.login_table.specs.declared.login.Login.{Login}
use Rattle.login_table.specs.Table.{ticked, expired_id, expired_ids}
use Rattle.login_table.proofs.expired.tick_all.Goals as goal

unread : (old places : List (Option Login)) (i : ℕ) (d : Option Login) → i < length old → places ≡ map ticked (take i old) ++ drop i old → get_or places i d ≡ get_or old i d
unread old places i d h f = grind (arith, common_steps)

-- One more place adds the ID that its login expires with.
expired_more : (old places : List (Option Login)) (seen : List ℕ) (i : ℕ) (d : Option Login) → i < length old → places ≡ map ticked (take i old) ++ drop i old → seen ≡ expired_ids (take i old) → seen ++ filter_map expired_id (get_or places i d ∷ []) ≡ expired_ids (take (i + 1) old)
expired_more old places seen i d h f g =
    ap (λ (ids : List ℕ). ids ++ filter_map expired_id (get_or places i d ∷ [])) g
    ∙ sym (filter_map-append expired_id (take i old) (get_or places i d ∷ []))
    ∙ ap (λ (x : Option Login). filter_map expired_id (take i old ++ x ∷ [])) (unread old places i d h f)
    ∙ ap (filter_map expired_id) (sym (take_more old i d h))

pub loop-place-preserved : goal.loop-place-preserved
loop-place-preserved c = record {
  places = grind (arith, common_steps, map_over_more ticked);
  expired = c.add.ensures.added ∙ expired_more c.args.places.now c.loop-place.places _ c.loop-place.place-index c.place-item.result (omega arith) c.loop-place.invariant.places c.loop-place.invariant.expired;
  most = omega arith;
}
