-- A reply brings no more to an agent than its present command has, at each place of every run in which no initiator injected packets, or few logins were given.
use Rattle.sbp_world.proofs.Words.World.{ClosingLaw, OpenListsLaw, more_deliveries}
use Rattle.sbp_world.specs.Lists.Along.{AlongLaw}
use Rattle.sbp_world.specs.Lists.Brings.{BringsLaw}
use Rattle.sbp_world.specs.Counting.Brings.{RunsBringFew}
use Rattle.sbp_world.proofs.Lists.Courses.{more_than_one}
use Rattle.sbp_world.proofs.Lists.ListsProved.{closing}
use Rattle.sbp_world.proofs.Lists.RunLaws.{along_law, brings_law}
use Rattle.sbp_world.proofs.Counting.BringsPlaces.{places_bring_few}

few_by : ClosingLaw → AlongLaw → BringsLaw → OpenListsLaw → RunsBringFew
few_by closes along brings lists = record {
  after_lines = λ line run r has small size tame.
      let before = closes.before lists line run r has small size tame in
      let now = lists.after_lines line run r has small size tame in
      places_bring_few _ _ now (along.after_lines line run r has small size before) (brings.after_lines line run r has small size before now);
  between = λ line run r has small size next most told m tame.
      let event = more_deliveries most in
      let before = closes.between lists line run r has small size next event (more_than_one most) told m tame in
      let now = lists.between line run r has small size next event (more_than_one most) told m tame in
      places_bring_few _ _ now (along.between line run r has small size next event (more_than_one most) told m before) (brings.between line run r has small size next event (more_than_one most) told m before now);
}

pub runs_bring_few : OpenListsLaw → RunsBringFew
runs_bring_few lists = few_by closing along_law brings_law lists
