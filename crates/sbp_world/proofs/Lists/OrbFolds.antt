-- Each agent of the terms of the target has an ORB that a response brought: what is known of its machine, by its place, which each step of an agent keeps.
use Rattle.sbp_world.proofs.Words.Std.{◌≡◌, ℕ, true, List, Ok, Err}
use Rattle.sbp_world.proofs.Words.Target.{Which, Ahead, Main, Machine, aligned, is_ahead, new_machine}
use Rattle.sbp_world.proofs.Words.Initiator.{CommandOrb, At, command_orb, Expired, payload_of}
use Rattle.sbp_world.proofs.Words.Laws.{Reply, Target, over}
use Rattle.command_agent.specs.declared.phase.Phase.TheVariants as phases
use Rattle.orb_layout.specs.declared.ask.FailCause.TheVariants as causes
use Rattle.sbp_world.proofs.Lists.FedFolds.{AreSo, AreStill, IsKept, Pends, over_still}
use Rattle.sbp_world.proofs.Lists.OrbSteps.{Reads, abort_reads, bell_reads, lost_steps, new_reads, point_reads, reply_steps, reset_reads}
use Rattle.sbp_world.proofs.Common.{untrue}

module _ (Read : ℕ → ℕ → CommandOrb → Type 0) where
  abbrev pub Has : ℕ → Machine → Type 0
  Has q m = Reads (Read q) m

  -- what a reply brings to its agent
  pub record Brings (m : Machine) (reply : Reply) : Type 0 where
    pub main : reply.which ≡ Main → m.phase ≡ phases.Fetching → (bytes : List ℕ) → payload_of reply.answer 32 ≡ Ok bytes → Read reply.place m.present (command_orb bytes)
    pub ahead : reply.which ≡ Ahead → is_ahead m.ahead ≡ true → (offset : ℕ) → m.orb.next ≡ At offset → (bytes : List ℕ) → payload_of reply.answer 32 ≡ Ok bytes → Read reply.place (aligned offset) (command_orb bytes)

  abbrev pub AreReading : Target → Type 0
  AreReading t = AreSo Has t

  -- and no reply waits
  abbrev pub AreSettled : Target → Type 0
  AreSettled t = AreStill Has t

  -- a reply takes its agent on with what it brings
  pub brought_on : (m : Machine) (reply : Reply) → Has reply.place m → Brings m reply → Pends Has m reply
  brought_on m reply h b plain told = (reply_steps (Read reply.place) m reply.place plain told reply.which reply.answer h b.main b.ahead).reads

  -- what a reply brings to a new agent is nothing
  none_new : (reply : Reply) → Brings new_machine reply
  none_new reply = record {
    main = λ w p bytes e. absurd (let no : phases.Reset ≡ phases.Fetching = p in cc);
    ahead = λ w a offset n bytes e. untrue a;
  }

  expired_none : (m : Machine) (place : ℕ) (which : Which) → Brings m (record { place = place; which = which; answer = Expired })
  expired_none m place which = record {
    main = λ w p bytes e. absurd (let no : Err causes.Timeout ≡ Ok bytes = e in cc);
    ahead = λ w a offset n bytes e. absurd (let no : Err causes.Timeout ≡ Ok bytes = e in cc);
  }

  pub keeps : IsKept Has
  keeps = record {
    new = λ q. new_reads (Read q);
    cut = λ q m. reset_reads (Read q) m;
    aborted = λ q m orb h. abort_reads (Read q) m orb h;
    pointed = λ q m pointer h. point_reads (Read q) m pointer h;
    rung = λ q m h. bell_reads (Read q) m h;
    lost = λ q m which h. (lost_steps (Read q) m which causes.Label h).reads;
    late = λ q m plain told which h. brought_on m (record { place = q; which = which; answer = Expired }) h (expired_none m q which) plain told;
    unheard = λ q plain told which answer.
        let reply : Reply = record { place = q; which = which; answer = answer } in
        brought_on new_machine reply (new_reads (Read q)) (none_new reply) plain told;
  }

  pub over_reads : (t : Target) → AreReading t → AreSettled (over t)
  over_reads t h = over_still Has keeps t h
