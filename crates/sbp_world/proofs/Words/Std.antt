-- What proofs cite of truth values, numbers, options and lists, under one name each.
pub use Rattle.std.proofs.Common.{Bool, Err, IfSome, IsNone, IsSome, IsSomeAnd, List, None, Ok, Option, Result, Some, [], ap, append_assoc, arith, cond, drop, drop-cons, false, get_or, inl, inr, is_some, length, length-append, length-take-le, map, max, min, nat_eq, nat_le, nat_lt, not, refl, replicate, rules, set, subst, suc, sum, sym, take, take-take, true, zero, ℕ, ◌%◌, ◌&&◌, ◌*◌, ◌++◌, ◌+◌, ◌-◌, ◌/◌, ◌<◌, ◌==◌, ◌^◌, ◌||◌, ◌∙◌, ◌∷◌, ◌≡◌, ◌≢◌, ◌≤◌, ◌⊎◌}
pub use Rattle.std.proofs.Math.ListN.{get_or-append, get_or-eq_default, get_or-map, length-set}
pub use Rattle.std.proofs.Math.Nat.{div-eq_of_lt}
pub use Rattle.std.proofs.Math.Seq.{get_or-append_right, get_or-append_seam}
pub use Rattle.std.proofs.lemmas.Bool.{and_parts, false≢true, ltb-true, not-false, not-true, true≢false}
pub use Rattle.std.proofs.lemmas.Bool.Decides.{nat_tests}
pub use Rattle.std.proofs.lemmas.Grind.{common_steps, flat_map-append, get_or-set_at, get_or_default_zero}
pub use Rattle.std.proofs.lemmas.Iterator.Adapters.{position_from-zero}
pub use Rattle.std.proofs.lemmas.List.{append-nil, drop-append-le, drop-drop, ext_get_or, get_or-drop, get_or-replicate, get_or-set_other, get_or-set_same, get_or-take, get_or_append_left, get_or_past, length-drop, length-map, length-replicate, length-take, map-append, map-set, reverse-append, reverse-reverse, set-get_or, set-set, set_past, take-append-drop, take_all}
pub use Rattle.std.proofs.lemmas.List.Elements.{Contains-get_or, filter-append}
pub use Rattle.std.proofs.lemmas.List.Folds.{Any-from_list_any, list_any_at}
pub use Rattle.std.proofs.lemmas.List.Quantifiers.{position-Some}
pub use Rattle.std.proofs.lemmas.List.Sums.{position_or_len_is, sum_by-cons}
pub use Rattle.std.proofs.lemmas.Nat.{pow_pos}
pub use Rattle.std.proofs.lemmas.Option.{none-some, same_Some}
pub use Rattle.std.specs.BTreeMap.{insert_entry, is_at}
pub use Rattle.std.specs.List.{All, AllByRecursion, cons_option, filter, filter_map, flat_map, list_any, position_from, position_or_len}
pub use Rattle.std.specs.Map.{lookup, remove_entry}
pub use Rattle.std.specs.Ordering.{is_eq, match_ordering, nat_cmp}
pub use Rattle.std.specs.Prelude.{IfNone, OnOk, if◌then◌else◌, is_none, is_ok, option_map, position, reverse, slice_index, slice_index_or, slice_set, unwrap_or}
pub use Rattle.std.specs.declared.cmp.Ordering.TheVariants.{Equal, Greater, Less}
pub use Rattle.byteorder.specs.Endian.{big_bytes, big_number}
pub use Rattle.byteorder.specs.Numbers.{big_from-bytes, big_number-reads_back}
pub use Rattle.sbp_base.specs.Quadlets.{quad, with_quad}
pub use Rattle.sbp_base.specs.Update.{upd, upd2, upd3}
