-- The list of two ORBs, by computing.
use Rattle.std.proofs.Common.{◌≡◌, refl, subst, ℕ, List, Ok, Result, arith}
use Rattle.orb_layout.specs.declared.ask.Ask.TheVariants.{Read}
use Rattle.orb_layout.specs.declared.ask.FailCause.{FailCause}
use Rattle.orb_layout.specs.CommandOrbs.{command_orb}
use Rattle.rbc_disk.specs.Checks.{check_of}
use Rattle.rbc_disk.specs.Requests.{request_of}
use Rattle.command_agent.specs.Checks.{verdict, refusal}
use Rattle.command_agent.specs.Steps.{point_step, reply_step}
use Rattle.agent_laws.specs.Along.Lists.{IsGood}
use Rattle.agent_laws.specs.Along.Tried.{two, first_bytes, second_bytes, ListTried}

abbrev bytes_read : List ℕ → Result (List ℕ) FailCause
bytes_read bytes = Ok bytes

same_bytes : (bytes other : List ℕ) → bytes_read bytes ≡ bytes_read other → bytes ≡ other
same_bytes bytes other e = cc

first_good : (bytes : List ℕ) → bytes_read first_bytes ≡ bytes_read bytes → IsGood two 0 (command_orb bytes)
first_good bytes e = subst (λ (b : List ℕ). IsGood two 0 (command_orb b)) (same_bytes first_bytes bytes e) (record { own = refl; leads = (refl, omega arith) })

second_good : (bytes : List ℕ) → bytes_read second_bytes ≡ bytes_read bytes → IsGood two 1 (command_orb bytes)
second_good bytes e = subst (λ (b : List ℕ). IsGood two 1 (command_orb b)) (same_bytes second_bytes bytes e) (record { own = refl; leads = tt })

pub tried : ListTried
unfolding point_step reply_step verdict refusal check_of request_of
tried = record {
  laid = record { buffer = λ k orb own unread. refl; empty = λ k orb segments own buffer. refl };
  taken = record { first = refl; linked = omega arith; ask = Read 0 32; taken = refl };
  brought = (tt, (tt, (second_good, (first_good, tt))));
  told = refl;
}
