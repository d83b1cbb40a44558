use Rattle.packet_store.proofs.Sound.{sound_delivered}
use Rattle.packet_store.proofs.tables.Tables.deliver.Goals as goal

pub returns-clause-sound : goal.returns-clause-sound
returns-clause-sound c = λ since b t. sound_delivered _ _ _ since c.args.serial b t c.deliver.ensures
