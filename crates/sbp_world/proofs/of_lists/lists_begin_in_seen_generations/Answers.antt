-- What is known of the writes of ORB_POINTER, of the moments of lists and of the sessions gives the law.
use Rattle.sbp_world.proofs.Lists.Begun.{begun_law}
use Rattle.sbp_world.proofs.of_lists.lists_begin_in_seen_generations.Goals as goal

pub pointers_are_of_lists-requires : goal.pointers_are_of_lists-requires
pointers_are_of_lists-requires c = tt

pub moments_stand_as_they_may-requires : goal.moments_stand_as_they_may-requires
moments_stand_as_they_may-requires c = tt

pub sessions_and_lists_are_of_seen_generations-requires : goal.sessions_and_lists_are_of_seen_generations-requires
sessions_and_lists_are_of_seen_generations-requires c = tt

pub returns : goal.returns
returns c = begun_law c.pointers_are_of_lists.ensures c.moments_stand_as_they_may.ensures c.sessions_and_lists_are_of_seen_generations.ensures
