-- A command that needs data can be filled.
use Rattle.std.proofs.Common.{◌∙◌, sym}
use Rattle.command_agent.proofs.Fits.{filled_by}
use Rattle.command_agent.proofs.agent.Agent.judge.Goals as goal

pub read_data-requires : goal.read_data-requires
read_data-requires g c = filled_by c.args.self.now _ c.args.login c.in-Payload.wanted c.requires.ready (sym c.need.ensures ∙ c.in-Payload.is)
