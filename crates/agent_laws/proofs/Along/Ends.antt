-- The present ORB ends, or the agent becomes dead.
use Rattle.std.proofs.Common.{◌≡◌, refl, ap, sym, ℕ, suc, Option, Some, None}
use Rattle.orb_layout.specs.declared.ask.Ask.{Ask}
use Rattle.orb_layout.specs.declared.ask.Ask.TheVariants.{Nothing}
use Rattle.orb_layout.specs.declared.ask.FailCause.{FailCause}
use Rattle.orb_layout.specs.declared.status.StatusKind.{StatusKind}
use Rattle.orb_layout.specs.declared.status.StatusKind.TheVariants as kinds
use Rattle.orb_layout.specs.StatusBlocks.{status_bytes}
use Rattle.rbc_disk.specs.Units.{PlainDisk}
use Rattle.command_agent.specs.Machine.{Machine}
use Rattle.command_agent.specs.Steps.{end_step, fail_step, dead_step, src_of}
use Rattle.agent_laws.specs.Wire.{EndsBy}
use Rattle.agent_laws.specs.Along.Lists.{OrbList, Leads}
use Rattle.agent_laws.specs.Along.Along.{Progress, IsNext}
use Rattle.agent_laws.specs.Along.Steps.{IsWhole, WasRead, Keeps}
use Rattle.agent_laws.proofs.Along.Records.{Behind}

-- its status block names it
block_is : (l : OrbList) (p : Progress) (m : Machine) (kind : StatusKind) → IsNext l p.ended p.answered m.present
    → status_bytes (record { src = src_of m.orb.next; kind = kind; orb = m.present }) ≡ status_bytes (record { src = src_of m.orb.next; kind = kind; orb = l.address p.ended })
block_is l p m kind t = ap (λ (at : ℕ). status_bytes (record { src = src_of m.orb.next; kind = kind; orb = at })) t.place

pub end_keeps : (l : OrbList) (p : Progress) (m : Machine) (kind : StatusKind) (dead : Option FailCause) (place : ℕ) (plain : PlainDisk) (ahead : Ask) → IsNext l p.ended p.answered m.present → EndsBy kind p.outcome → IsWhole kind p → WasRead kind l p.ended m.orb → Leads l p.ended m.orb.next → Behind l (suc p.ended) m ahead
    → Keeps l p place plain Nothing ahead (end_step m kind dead)
end_keeps l p m kind None place plain ahead t b f w n h = record {
  along = record {
    main = record { over = record { last = p.ended; ended = refl; place = t.place; linked = t.linked; leads = n; unrun = refl }; others = ap suc (sym t.all); src = refl; kind = kind; block = block_is l p m kind t };
    ahead = h.reads;
  };
  runs = tt;
  ends = record { turn = t; by = b; whole = f; read = w; leads = n; block = block_is l p m kind t; asks = refl };
  main_is = refl;
  ahead_is = h.under;
}
end_keeps l p m kind (Some cause) place plain ahead t b f w n h = record {
  along = record {
    main = record { over = record { last = p.ended; ended = refl; place = t.place; linked = t.linked; leads = n; unrun = refl }; others = ap suc (sym t.all); src = refl; kind = kind; block = block_is l p m kind t };
    ahead = refl;
  };
  runs = tt;
  ends = record { turn = t; by = b; whole = f; read = w; leads = n; block = block_is l p m kind t; asks = refl };
  main_is = refl;
  ahead_is = refl;
}

pub fail_keeps : (l : OrbList) (p : Progress) (m : Machine) (cause : FailCause) (place : ℕ) (plain : PlainDisk) (ahead : Ask) → IsNext l p.ended p.answered m.present → Leads l p.ended m.orb.next → Behind l (suc p.ended) m ahead
    → Keeps l p place plain Nothing ahead (fail_step m cause)
fail_keeps l p m cause place plain ahead t n h = end_keeps l p m kinds.Failed (Some cause) place plain ahead t tt tt tt n h

pub dead_keeps : (l : OrbList) (p : Progress) (m : Machine) (cause : FailCause) (place : ℕ) (plain : PlainDisk) (ahead : Ask) → Keeps l p place plain Nothing ahead (dead_step m cause)
dead_keeps l p m cause place plain ahead = record { along = record { main = tt; ahead = refl }; runs = tt; ends = tt; main_is = refl; ahead_is = refl }
