use Rattle.std.proofs.Common.{◌-◌, refl, subst, sym}
use Rattle.packet_store.specs.Sound.{AreKept}
use Rattle.packet_store.proofs.Sound.{are_below, sound_pushed, sound_ruled}
use Rattle.packet_store.proofs.tables.Tables.add.Goals as goal

pub push-requires-clause-above : goal.push-requires-clause-above
push-requires-clause-above c = are_below _ _ _ c.requires.sound

pub returns-clause-sound : goal.returns-clause-sound
returns-clause-sound c =
    subst (AreKept _ (c.args.self.now.last - 1024) 0) (sym c.in_ok-push.ensures.pushed) (sound_ruled _ _ _ _ _ (sound_pushed _ _ _ _ _ c.requires.sound refl))
