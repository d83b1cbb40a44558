-- What the target sends for an operation is what it asked for, at each place of every run.
use Rattle.sbp_world.proofs.Words.World.{more_deliveries, AreAsked}
use Rattle.sbp_world.proofs.Lists.ContentAsked.{contents_law}
use Rattle.sbp_world.proofs.Lists.Courses.{EveryPlace, more_than_one}

pub contents_everywhere : EveryPlace (λ start past w. AreAsked start past)
contents_everywhere = record {
  after_lines = λ line run r has small size so_far. contents_law.after_lines line run r has small size;
  between = λ line run r has small size next most told m so_far. contents_law.between line run r has small size next (more_deliveries most) (more_than_one most) told m;
}
