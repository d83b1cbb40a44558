use Rattle.std.proofs.Common.{◌≡◌, ◌∙◌, ap, sym, arith, ℕ, ◌+◌, ◌<◌, List, [], ◌∷◌, ◌++◌, length, take, get_or, Option, None}
use Rattle.std.specs.List.{filter_map}
use Rattle.std.proofs.lemmas.List.{take_more}
use Rattle.std.proofs.lemmas.List.Elements.{filter_map-append}
use Rattle.login_table.specs.declared.login.Login.{Login}
use Rattle.mgmt_agent.specs.Decisions.{entries_of, entry_of}
use Rattle.mgmt_agent.proofs.entries.entries_of.Goals as goal

-- One more place adds the login that it has of the unit.
entries_more : (unit : ℕ) (places : List (Option Login)) (i : ℕ) → i < length places → entries_of unit (take i places) ++ filter_map (entry_of unit) (get_or places i None ∷ []) ≡ entries_of unit (take (i + 1) places)
entries_more unit places i h =
    sym (filter_map-append (entry_of unit) (take i places) (get_or places i None ∷ []))
    ∙ ap (filter_map (entry_of unit)) (sym (take_more places i None h))

pub loop-place-preserved : goal.loop-place-preserved
loop-place-preserved c = record {
  told =
      let place = c.at.ensures.login in
      let added = c.add.ensures.added in
      let before = c.loop-place.invariant.told in
      let more = entries_more c.args.unit c.args.logins.now.places c.loop-place.place (let z = c.at.ensures.size in omega arith) in
      added ∙ ap (λ (p : Option Login). c.loop-place.entries ++ filter_map (entry_of c.args.unit) (p ∷ [])) place ∙ ap (λ (xs : List _). xs ++ filter_map (entry_of c.args.unit) (get_or c.args.logins.now.places c.loop-place.place None ∷ [])) before ∙ more;
  most = omega arith;
  size = λ h. c.at.ensures.size;
}
