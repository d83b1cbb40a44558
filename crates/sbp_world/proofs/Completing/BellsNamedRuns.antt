-- So it is at each place of every run in which no initiator injected packets, or few logins were given, and before which lists were open as they should be.
use Rattle.sbp_world.proofs.Words.World.{IsTameOrFew, more_deliveries}
use Rattle.sbp_world.specs.Completing.Bells.{AreListsThen, AreOfLists, ListsThenLaw, NullsNamedLaw}
use Rattle.sbp_world.proofs.Completing.AnswersRuns.{by_places}
use Rattle.sbp_world.proofs.Completing.BellsNamed.{Known, are_lists_then, are_of_lists}
use Rattle.sbp_world.proofs.Lists.Clauses.{open_lists_law}
use Rattle.sbp_world.proofs.Lists.Courses.{EveryPlace, more_than_one}
use Rattle.sbp_world.proofs.Lists.MainSlotsRuns.{kit_everywhere}
use Rattle.sbp_world.proofs.Lists.OpenProved.{taken_lists_law}
use Rattle.sbp_world.proofs.Lists.RunLaws.{sent_reads_law}
use Rattle.sbp_world.proofs.Lists.ShortLines.{short_law}

pub known_everywhere : EveryPlace Known
known_everywhere =
    let kits = kit_everywhere short_law open_lists_law in
    record {
      after_lines = λ line run r has small size so_far. record {
        kit = kits.after_lines line run r has small size so_far;
        taken = taken_lists_law.after_lines line run r has small size;
        sent = λ tame. sent_reads_law.after_lines line run r has small size so_far (open_lists_law.after_lines line run r has small size tame);
      };
      between = λ line run r has small size next most told m so_far. record {
        kit = kits.between line run r has small size next most told m so_far;
        taken = taken_lists_law.between line run r has small size next (more_deliveries most) (more_than_one most) told m;
        sent = λ tame. sent_reads_law.between line run r has small size next (more_deliveries most) (more_than_one most) told m so_far (open_lists_law.between line run r has small size next (more_deliveries most) (more_than_one most) told m tame);
      };
    }

named_places : EveryPlace (λ start past w. IsTameOrFew past → AreOfLists start past)
named_places =
    by_places Known (λ start past w. IsTameOrFew past → AreOfLists start past) (λ units ready has start past lines w h known beside. are_of_lists units ready has start w h known beside) known_everywhere

pub nulls_named_law : NullsNamedLaw
nulls_named_law = record {
  after_lines = λ line run r has small size so_far. named_places.after_lines line run r has small size so_far;
  between = λ line run r has small size next most told m so_far. named_places.between line run r has small size next most told m so_far;
}

lists_places : EveryPlace (λ start past w. IsTameOrFew past → AreListsThen start past w)
lists_places =
    by_places Known (λ start past w. IsTameOrFew past → AreListsThen start past w) (λ units ready has start past lines w h known beside. are_lists_then units ready has start w h known beside) known_everywhere

pub lists_then_law : ListsThenLaw
lists_then_law = record {
  after_lines = λ line run r has small size so_far. lists_places.after_lines line run r has small size so_far;
  between = λ line run r has small size next most told m so_far. lists_places.between line run r has small size next most told m so_far;
}
