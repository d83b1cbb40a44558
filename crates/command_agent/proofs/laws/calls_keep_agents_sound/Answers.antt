-- Agents stay sound.
use Rattle.command_agent.proofs.Sound.{calls_keep_sound}
use Rattle.command_agent.proofs.laws.calls_keep_agents_sound.Goals as goal

pub returns : goal.returns
returns c = calls_keep_sound
