-- The event of a line ran, its write was submitted, or a pump was made.
use Rattle.sbp_world.proofs.Delivered.{on_ok}
use Rattle.sbp_command.proofs.QueueRunning.{does_bus, does_pump, does_write, one_more, same_count, says_bus, says_write, write_form}
use Rattle.sbp_command.proofs.queue.do_line.Goals as goal

pub step-requires-clause-bus : goal.step-requires-clause-bus
step-requires-clause-bus g c = (says_bus c.args.said c.in-Bus.event c.in-Bus.is c.requires.said).bus

pub step-requires-clause-event : goal.step-requires-clause-event
step-requires-clause-event g c = (says_bus c.args.said c.in-Bus.event c.in-Bus.is c.requires.said).line

pub returns-in-Bus-clause-does : goal.returns-in-Bus-clause-does
returns-in-Bus-clause-does g c = on_ok c.step.result _ _ (λ h. does_bus c.args.number c.args.said c.in-Bus.event _ _ c.in-Bus.is h) c.step.ensures.runs

pub returns-in-Bus-clause-count : goal.returns-in-Bus-clause-count
returns-in-Bus-clause-count g c = on_ok c.step.result _ _ (λ h. same_count c.args.queue.now c.step.new.self h) c.step.ensures.same

pub submit-requires-clause-some : goal.submit-requires-clause-some
submit-requires-clause-some g c = (says_write c.args.said c.in-Submit.lba c.in-Submit.payload c.in-Submit.is c.requires.said).some

pub submit-requires-clause-few : goal.submit-requires-clause-few
submit-requires-clause-few g c = (says_write c.args.said c.in-Submit.lba c.in-Submit.payload c.in-Submit.is c.requires.said).few

pub submit-requires-clause-whole : goal.submit-requires-clause-whole
submit-requires-clause-whole g c = (says_write c.args.said c.in-Submit.lba c.in-Submit.payload c.in-Submit.is c.requires.said).whole

pub returns-in_ok-_number-in-Submit-clause-does : goal.returns-in_ok-_number-in-Submit-clause-does
returns-in_ok-_number-in-Submit-clause-does g c = does_write c.args.number c.args.said c.in-Submit.lba c.in-Submit.payload c.args.queue.now c.submit.new.self _ c.in-Submit.is c.in_ok-_number-in-Submit.ensures.ok

pub returns-in_ok-_number-in-Submit-clause-form : goal.returns-in_ok-_number-in-Submit-clause-form
returns-in_ok-_number-in-Submit-clause-form g c = write_form c.in-Submit.lba c.in-Submit.payload c.args.queue.now c.submit.new.self c.in_ok-_number-in-Submit.ensures.ok

pub returns-in_ok-_number-in-Submit-clause-count : goal.returns-in_ok-_number-in-Submit-clause-count
returns-in_ok-_number-in-Submit-clause-count g c = one_more c.in-Submit.lba c.in-Submit.payload c.args.queue.now c.submit.new.self c.in_ok-_number-in-Submit.ensures.ok

pub returns-in-Pump-clause-does : goal.returns-in-Pump-clause-does
returns-in-Pump-clause-does g c = on_ok c.pump.result _ _ (λ h. does_pump c.args.number c.args.said _ _ c.in-Pump.is h) c.pump.ensures.pumps

pub returns-in-Pump-clause-count : goal.returns-in-Pump-clause-count
returns-in-Pump-clause-count g c = on_ok c.pump.result _ _ (λ h. same_count c.args.queue.now c.pump.new.self h) c.pump.ensures.same
