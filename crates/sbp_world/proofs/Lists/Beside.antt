-- Where no initiator injected packets, or few logins were given, it was so before; and what is known then of the logins that were done for an initiator that injected none.
use Rattle.sbp_world.proofs.Words.Std.{arith, inl, inr, ℕ, ◌<◌, List, [], ◌++◌}
use Rattle.sbp_world.proofs.Words.Wire.{Moment}
use Rattle.sbp_world.proofs.Words.Target.{Disk}
use Rattle.sbp_world.proofs.Words.Laws.{EachMoment}
use Rattle.sbp_world.proofs.Words.World.{FewLogins, IsCalmBeside, IsTameOf, IsTameOrFew, IsCalm, IsTame, OwnedAt, BasedAt}
use Rattle.sbp_world.proofs.Lists.Calm.{calm_before}
use Rattle.sbp_world.proofs.Lists.IdsNoted.{more_entries}
use Rattle.sbp_world.proofs.Lists.OwnFifos.{tame_before}
use Rattle.sbp_world.proofs.Lists.StatusKnown.{each_from}

pub few_back : (later past : List Moment) → FewLogins (later ++ past) → FewLogins past
few_back later past few = let l = more_entries [] later past in omega (arith, l, few)

pub tame_or_few_before : (later past : List Moment) → IsTameOrFew (later ++ past) → IsTameOrFew past
tame_or_few_before later past (inl tame) = inl (tame_before later past tame)
tame_or_few_before later past (inr few) = inr (few_back later past few)

pub beside_before : (later past : List Moment) (i : ℕ) → IsCalmBeside (later ++ past) i → IsCalmBeside past i
beside_before later past i c = (calm_before later past i c.0, tame_or_few_before later past c.1)

pub tame_of_before : (later past : List Moment) (i : ℕ) → IsTameOf (later ++ past) i → IsTameOf past i
tame_of_before later past i tame = (calm_before later past i tame.0, few_back later past tame.1)

-- ---- the logins that were done
-- Each had the base of the agent of a place: for every initiator, where none injected packets; or for this one, where few logins were given, and each was of an ID of it.
pub data AreDone (start : List Disk) (n : ℕ) (past : List Moment) (i : ℕ) : Type 0 where
  all_done : IsTame past → ((j : ℕ) → j < n → EachMoment (BasedAt j) past) → AreDone start n past i
  own_done : IsCalm past i → FewLogins past → EachMoment (BasedAt i) past → EachMoment (OwnedAt start i) past → AreDone start n past i

module _ (start : List Disk) (n : ℕ) where
  pub done_calm : (past : List Moment) (i : ℕ) → AreDone start n past i → IsCalm past i
  done_calm past i (all_done tame based) = tame i
  done_calm past i (own_done calm few based owned) = calm

  pub done_based : (past : List Moment) (i : ℕ) → i < n → AreDone start n past i → EachMoment (BasedAt i) past
  done_based past i l (all_done tame based) = based i l
  done_based past i l (own_done calm few based owned) = based

  pub done_before : (later past : List Moment) (i : ℕ) → AreDone start n (later ++ past) i → AreDone start n past i
  done_before later past i (all_done tame based) = all_done (tame_before later past tame) (λ j l. each_from (BasedAt j) later past (based j l))
  done_before later past i (own_done calm few based owned) = own_done (calm_before later past i calm) (few_back later past few) (each_from (BasedAt i) later past based) (each_from (OwnedAt start i) later past owned)
