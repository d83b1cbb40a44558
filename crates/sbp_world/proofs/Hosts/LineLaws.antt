-- The law of the lines of a world.
use Rattle.sbp_world.proofs.Words.World.{LineLaw}
use Rattle.sbp_world.proofs.Hosts.Aborts.{line_aborts}
use Rattle.sbp_world.proofs.Hosts.Liners.{acts, delivers, line_expires, line_sees, ticks}

pub line_law : LineLaw
line_law = record {
  delivers = λ past serial again told s m n may h. delivers past serial again told s m n may h;
  expires = λ past line serial w n h. line_expires past line serial w n h;
  sees = λ past node w n inside may h. line_sees past node w n h inside may;
  ticks = ticks;
  acts = acts;
  aborts = λ past line i number to w inside there under h. line_aborts past line i number to w inside there under h;
}
