-- Which operation of an initiator a status block is of: the present one, where the block names its ORB.
use Rattle.sbp_world.proofs.Words.Std.{◌≡◌, ◌∙◌, sym, ap, ℕ, Bool, true, false, cond, Option, Some, None}
use Rattle.sbp_world.proofs.Words.Initiator.{Running, is_orb_of, is_present_orb}
use Rattle.sbp_world.proofs.Common.{none_is}

pub record IsPresent (orb : ℕ) (operation : Option Running) (running : Running) : Type 0 where
  pub is : operation ≡ Some running
  pub named : is_orb_of running.managed orb ≡ true

pub present_by : (orb : ℕ) (operation : Option Running) (running : Running) (b : Bool) → is_present_orb orb operation ≡ b → cond b operation None ≡ Some running → IsPresent orb operation running
present_by orb operation running true f e = record { is = e; named = ap (λ (o : Option Running). is_present_orb orb o) (sym e) ∙ f }
present_by orb operation running false f e = none_is running e
