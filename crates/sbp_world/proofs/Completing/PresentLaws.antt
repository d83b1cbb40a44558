-- At rest, where no initiator injected packets and few logins were given, each write of ORB_POINTER that waited found the login of its initiator. So a list with a rung ORB that was begun since the latest reset was seen, and that was not
-- cut, is the present one, and a SUSPENDED agent has it, unless an agent of the initiator is DEAD.
use Rattle.sbp_world.proofs.Words.Std.{◌≡◌, inr, ◌<◌, ℕ, List, ◌++◌, length}
use Rattle.sbp_world.proofs.Words.Wire.{Moment}
use Rattle.sbp_world.proofs.Words.World.{Always, FewLogins, HasGivenUp, IsTame, IsTameOrFew, Under, WorldState}
use Rattle.sbp_world.specs.Completing.Present.{FreshFewLaw, IsPresent}
use Rattle.sbp_world.specs.Completing.PresentHomes.{HomesFewLaw}
use Rattle.sbp_world.specs.Completing.RestStatuses.{HasDead}
use Rattle.sbp_world.specs.Completing.Sights.{IsFresh, rung}
use Rattle.sbp_laws.specs.Budget.{Lossless}
use Rattle.sbp_laws.specs.Completion.{in_the_air}
use Rattle.sbp_world.proofs.Completing.HomeLaws.{home_still_law}
use Rattle.sbp_world.proofs.Completing.PresentBased.{based_few_law}
use Rattle.sbp_world.proofs.Completing.PresentHad.{present_law}
use Rattle.sbp_world.proofs.Completing.PresentLive.{AreHomeFor, IsAny, homes_while}
use Rattle.sbp_world.proofs.Completing.PresentRuns.{Asks}
use Rattle.sbp_world.proofs.Completing.PresentTakes.{Kit, all_take}
use Rattle.sbp_world.proofs.Lists.Beside.{few_back}
use Rattle.sbp_world.proofs.Lists.OneUp.{open_for_law}
use Rattle.sbp_world.proofs.Lists.ShortLines.{short_law}
use Rattle.sbp_world.proofs.Lists.UpLatest.{up_latest_law}

abbrev FreshPresentFor : Asks → List Moment → WorldState → Type 0
FreshPresentFor asks past w = IsTame past → Lossless past → in_the_air past ≡ 0 → (i n : ℕ) → i < length w.initiators → (HasDead w i → ⊥) → IsFresh past i n → 0 < rung past i n → asks.of past i n → IsPresent past w i n

module _ (asks : Asks) (While : List Moment → Type 0) (back : (later past : List Moment) → While (later ++ past) → While past) (besides : (past : List Moment) → While past → IsTameOrFew past) (homes : Under (λ past w. While past → AreHomeFor asks IsAny past w)) where
  kit_law : Under (λ past w. While past → Kit asks past w)
  kit_law = record {
    after_lines = λ line run r has small size so_far so. record {
      up = (up_latest_law short_law).after_lines line run r has small size so_far (besides _ so);
      open_for = (open_for_law short_law).after_lines line run r has small size so_far (besides _ so);
      home = λ i n serial b calm also x. homes.after_lines line run r has small size so_far so i n serial b calm also tt x;
    };
    between = λ line run r has small size next most told m so_far so. record {
      up = (up_latest_law short_law).between line run r has small size next most told m so_far (besides _ so);
      open_for = (open_for_law short_law).between line run r has small size next most told m so_far (besides _ so);
      home = λ i n serial b calm also x. homes.between line run r has small size next most told m so_far so i n serial b calm also tt x;
    };
  }

  homes_present : Always (λ past w. While past → FreshPresentFor asks past w)
  homes_present = record {
    after_lines = λ line run r has small size so tame lossless calm i n b alive fresh some also. (present_law asks While back besides (Kit asks) (λ past w k. k.up) kit_law (all_take asks)).after_lines line run r has small size so lossless calm i b (tame i) n fresh some also alive;
    between = λ line run r has small size next most told m so tame lossless calm i n b alive fresh some also.
        (present_law asks While back besides (Kit asks) (λ past w k. k.up) kit_law (all_take asks)).between line run r has small size next most told m so lossless calm i b (tame i) n fresh some also alive;
  }

-- ---- where nothing else is asked of a list
pub nothing : Asks
nothing = record { of = λ past i n. Unit {0}; back = λ later past i n u. tt }

pub asks_nothing : (past : List Moment) (i n : ℕ) → nothing.of past i n
unfolding nothing
asks_nothing past i n = tt

few_tame_or_few : (past : List Moment) → FewLogins past → IsTameOrFew past
few_tame_or_few past few = inr few

home_still : Under (λ past w. FewLogins past → AreHomeFor nothing HasGivenUp past w)
unfolding nothing
home_still = record {
  after_lines = λ line run r has small size so_far few i n serial b calm also up x. home_still_law.after_lines line run r has small size so_far few i n serial b calm up x;
  between = λ line run r has small size next most told m so_far few i n serial b calm also up x. home_still_law.between line run r has small size next most told m so_far few i n serial b calm up x;
}

homes_few : Under (λ past w. FewLogins past → AreHomeFor nothing IsAny past w)
homes_few = homes_while nothing FewLogins few_tame_or_few based_few_law home_still

pub kit_few : Under (λ past w. FewLogins past → Kit nothing past w)
kit_few = kit_law nothing FewLogins few_back few_tame_or_few homes_few

pub homes_few_law : HomesFewLaw
unfolding nothing
homes_few_law = record {
  after_lines = λ line run r has small size so_far few i n serial b calm x. homes_few.after_lines line run r has small size so_far few i n serial b calm tt tt x;
  between = λ line run r has small size next most told m so_far few i n serial b calm x. homes_few.between line run r has small size next most told m so_far few i n serial b calm tt tt x;
}

pub fresh_few_law : FreshFewLaw
unfolding nothing
fresh_few_law =
    let law = homes_present nothing FewLogins few_back few_tame_or_few homes_few in
    record {
      after_lines = λ line run r has small size few tame lossless calm i n b alive fresh some. law.after_lines line run r has small size few tame lossless calm i n b alive fresh some tt;
      between = λ line run r has small size next most told m few tame lossless calm i n b alive fresh some. law.between line run r has small size next most told m few tame lossless calm i n b alive fresh some tt;
    }
