-- What is left to leave, from here on, gives what all gave from the start.
use Rattle.std.specs.Prelude.{◌≡◌, length}
use Rattle.sbp_bus.specs.Sending.{sent_all}
use Rattle.sbp_bus.proofs.bus.Bus.send_all.Given as goal

abbrev pub invariant-loop-packet : goal.invariant-loop-packet
invariant-loop-packet l = record {
  all : sent_all l.from l.outbox.packets l.self ≡ sent_all l.from l.initial.outbox.packets l.initial.self;
  known : l.self.generations ≡ l.initial.self.generations;
}

abbrev pub decreases-loop-packet : goal.decreases-loop-packet
decreases-loop-packet l = length l.outbox.packets
