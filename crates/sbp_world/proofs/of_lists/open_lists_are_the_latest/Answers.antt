-- What is known of the writes of ORB_POINTER, of the moments of lists and of the nodes gives the law.
use Rattle.sbp_world.proofs.Lists.OpenLasting.{listed_law}
use Rattle.sbp_world.proofs.of_lists.open_lists_are_the_latest.Goals as goal

pub pointers_are_of_lists-requires : goal.pointers_are_of_lists-requires
pointers_are_of_lists-requires c = tt

pub moments_stand_as_they_may-requires : goal.moments_stand_as_they_may-requires
moments_stand_as_they_may-requires c = tt

pub nodes_have_caught_up_with_the_target-requires : goal.nodes_have_caught_up_with_the_target-requires
nodes_have_caught_up_with_the_target-requires c = tt

pub deliveries_keep_nodes_caught_up-requires : goal.deliveries_keep_nodes_caught_up-requires
deliveries_keep_nodes_caught_up-requires c = tt

pub returns : goal.returns
returns c = listed_law c.pointers_are_of_lists.ensures c.moments_stand_as_they_may.ensures c.nodes_have_caught_up_with_the_target.ensures c.deliveries_keep_nodes_caught_up.ensures
