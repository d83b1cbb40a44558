use Rattle.packet_store.proofs.Sound.{sound_less}
use Rattle.packet_store.proofs.tables.Tables.drop_packet.Goals as goal

pub returns-clause-sound : goal.returns-clause-sound
returns-clause-sound c = λ since t. sound_less _ _ _ since c.args.serial t c.remove.ensures
