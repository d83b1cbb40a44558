-- Agents stay sound.
use Rattle.sbp_target.proofs.SoundAgents.Calls.{agents_stay_sound}
use Rattle.sbp_target.proofs.laws.calls_keep_agents_sound.Goals as goal

pub returns : goal.returns
returns c = agents_stay_sound
