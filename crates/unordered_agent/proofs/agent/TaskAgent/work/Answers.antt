use Rattle.std.proofs.Common.{refl}
use Rattle.orb_layout.specs.declared.ask.Ask.TheVariants.{Nothing}
use Rattle.unordered_agent.specs.Machine.{TaskMachine, both, IsSound}
use Rattle.unordered_agent.proofs.Kept.{Behind, worked_step, worked_behind, disk_behind, may_behind}
use Rattle.unordered_agent.proofs.Places.{sound_worked}
use Rattle.unordered_agent.proofs.agent.TaskAgent.work.Given.{Over}
use Rattle.unordered_agent.proofs.agent.TaskAgent.work.Goals as goal

abbrev before : (g : Over) → goal.After-of_task g → TaskMachine
before g c = both c.self.inside.fetcher c.self.inside.tasks

abbrev behind : (g : Over) → goal.After-of_task g → TaskMachine
behind g c = both c.settle.new.fetcher c.settle.new.tasks

kept : (g : Over) (c : goal.After-of_task g) → Behind c.args.place c.reply-step.new.self (behind g c) c.reply-step.result c.of_task.result
kept g c = worked_behind (before g c) (behind g c) c.args.place c.reply-step.new.self c.reply-step.result Nothing c.of_task.result c.settle.ensures c.of_task.ensures

pub returns-clause-step : goal.returns-clause-step
returns-clause-step g c =
    rw (← c.self.view_is)
    (worked_step (before g c) (behind g c) c.args.place c.reply-step.new.self c.reply-step.result Nothing c.of_task.result c.args.login _ _ c.reply-step.ensures.step c.reply-step.ensures.others c.settle.ensures refl c.of_task.ensures)

pub returns-clause-plain : goal.returns-clause-plain
returns-clause-plain g c =
    disk_behind c.args.place c.args.login c.reply-step.new.self (behind g c) c.reply-step.result c.of_task.result _ _ (kept g c) c.reply-step.ensures.plain

pub returns-clause-may : goal.returns-clause-may
returns-clause-may g c =
    may_behind c.args.place c.args.login c.reply-step.new.self (behind g c) c.reply-step.result c.of_task.result _ (kept g c) c.reply-step.ensures.may

sound : (g : Over) (c : goal.After-of_task g) → IsSound (behind g c).fetcher (behind g c).tasks
sound g c =
    sound_worked c.self.inside.fetcher c.self.inside.tasks c.reply-step.new.self (behind g c) c.args.place c.args.login c.reply-step.result _ _ _
    c.self.invariant c.requires.task (rw (← c.self.view_is) at c.requires.under_way) (rw (← c.self.view_is) at c.requires.working) c.reply-step.ensures.step c.reply-step.ensures.others c.settle.ensures

pub invariant_of-self : goal.invariant_of-self
invariant_of-self g c = sound g c

pub returns-clause-rule : goal.returns-clause-rule
returns-clause-rule g c = (sound g c).rule
