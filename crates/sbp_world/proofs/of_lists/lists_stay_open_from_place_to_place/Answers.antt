-- What latest lists stand on, and what is known of the writes of ORB_POINTER and of when lists begin, gives the law.
use Rattle.sbp_world.proofs.Lists.Closing.{closing_law}
use Rattle.sbp_world.proofs.of_lists.lists_stay_open_from_place_to_place.Goals as goal

pub latest_lists_stand-requires : goal.latest_lists_stand-requires
latest_lists_stand-requires c = tt

pub pointers_are_of_lists-requires : goal.pointers_are_of_lists-requires
pointers_are_of_lists-requires c = tt

pub lists_begin_in_seen_generations-requires : goal.lists_begin_in_seen_generations-requires
lists_begin_in_seen_generations-requires c = tt

pub returns : goal.returns
returns c = closing_law c.latest_lists_stand.ensures c.pointers_are_of_lists.ensures c.lists_begin_in_seen_generations.ensures
