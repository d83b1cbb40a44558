-- The fetch rule, read off what calls tell.
use Rattle.std.proofs.Common.{◌≡◌, ◌⊎◌, inl, inr, refl, ap, sym, ◌∙◌, ℕ, ◌<◌, true, false, List, length, Option, Some, None, arith}
use Rattle.orb_layout.specs.declared.pointer.OrbPointer.{OrbPointer}
use Rattle.orb_layout.specs.declared.pointer.OrbPointer.TheVariants.{Null, At}
use Rattle.command_agent.specs.declared.phase.Phase.{Phase}
use Rattle.command_agent.specs.declared.phase.Phase.TheVariants as agents
use Rattle.command_agent.specs.Machine.{Machine, is_sent}
use Rattle.unordered_agent.specs.declared.fetcher.FetchPhase.{FetchPhase}
use Rattle.unordered_agent.specs.declared.fetcher.FetchPhase.TheVariants as phases
use Rattle.unordered_agent.specs.declared.fetcher.Fetcher.{Fetcher}
use Rattle.unordered_agent.specs.Machine.{TaskMachine, agent_at, is_null, FetchRule}
use Rattle.unordered_laws.specs.Calls.{Call, after_calls}
use Rattle.unordered_laws.specs.Notes.{notes, is_open, is_dead}
use Rattle.unordered_laws.specs.Order.{named, next_of, last_of}
use Rattle.unordered_laws.specs.Stages.{Stage, stage, is_vacant}
use Rattle.unordered_laws.specs.Fetches.{unanswered, FetchesOn, CallsFetchOn}
use Rattle.unordered_laws.proofs.Rules.{Sound, calls_sound}
use Rattle.unordered_laws.proofs.Tells.{Agrees}
use Rattle.unordered_laws.proofs.Busy.{busy, busy_full}
use Rattle.unordered_laws.proofs.Order.{Seen, seen, Known, KeepsBy, next_last, last_is, calls_known}
use Rattle.unordered_laws.proofs.Runs.{Tied, calls_tied}

-- an ORB that is worked has a request under way
works : (s : Stage) (phase : Phase) → Agrees s phase → is_vacant s ≡ false → is_sent phase ≡ true
works s agents.Reset a w = cc (sym (ap is_vacant a) ∙ w)
works s agents.Suspended a w = cc (sym (ap is_vacant a) ∙ w)
works s agents.Dead a w = cc (sym (ap is_vacant a) ∙ w)
works s _ a w = refl

abbrev with_size : Option ℕ → ℕ → Option (ℕ × ℕ)
with_size None size = None
with_size (Some at) size = Some (at, size)

-- the fetcher reads the next ORB, or waits where 8 ORBs are worked
reads_next : (phase : FetchPhase) (f : Fetcher) (tasks : List Machine) (s : Seen) (at count : ℕ) → s.opened ≡ true → s.dead ≡ false → length tasks ≡ 8 → count ≡ busy tasks → count < 8 → FetchRule phase f tasks → KeepsBy phase f s → next_of s.first s.orbs ≡ Some at
    → s.reading ≡ Some (at, 32)
reads_next phases.Fetching f tasks s at count o d size c low r k e =
    let same : Some f.orb ≡ Some at = sym k.next ∙ e in
    k.reading ∙ ap (λ (orb : Option ℕ). with_size orb 32) same
reads_next phases.ReadingNext f tasks s at count o d size c low r k e = let none : next_of s.first s.orbs ≡ None = next_last f.orb f.next s.first s.orbs k.last ∙ ap named r in cc
reads_next phases.AtEnd f tasks s at count o d size c low r k e = let none : next_of s.first s.orbs ≡ None = next_last f.orb f.next s.first s.orbs k.last ∙ ap named r.0 in cc
reads_next phases.Waiting f tasks s at count o d size c low r k e = let full : busy tasks ≡ length tasks = busy_full tasks r.0 in absurd (omega arith)
reads_next phases.Reset f tasks s at count o d size c low r k e = let closed : s.opened ≡ false = k.opened in cc
reads_next phases.Dead f tasks s at count o d size c low r k e = let dead : s.dead ≡ true = k.dead in cc

-- at the end of the list
not_null : (next : OrbPointer) → is_null next ≡ false → named next ≡ None → ⊥
not_null Null e n = cc e
not_null (At next) e n = cc n

reads_last : (phase : FetchPhase) (f : Fetcher) (tasks : List Machine) (s : Seen) (at : ℕ) → s.opened ≡ true → s.dead ≡ false → FetchRule phase f tasks → KeepsBy phase f s → next_of s.first s.orbs ≡ None → last_of s.orbs ≡ Some at
    → (s.rung ≡ false) ⊎ (s.reading ≡ Some (at, 8))
reads_last phases.Fetching f tasks s at o d r k e l = let next : next_of s.first s.orbs ≡ Some f.orb = k.next in cc
reads_last phases.ReadingNext f tasks s at o d r k e l =
    let same : Some f.orb ≡ Some at = sym (last_is f.orb f.next s.orbs k.last) ∙ l in
    inr (k.reads ∙ ap (λ (orb : Option ℕ). with_size orb 8) same)
reads_last phases.AtEnd f tasks s at o d r k e l = inl (k.live.bell ∙ r.1)
reads_last phases.Waiting f tasks s at o d r k e l = absurd (not_null f.next r.1 (sym (next_last f.orb f.next s.first s.orbs k.last) ∙ e))
reads_last phases.Reset f tasks s at o d r k e l = let closed : s.opened ≡ false = k.opened in cc
reads_last phases.Dead f tasks s at o d r k e l = let dead : s.dead ≡ true = k.dead in cc

fetches_on : (s : TaskMachine) (calls : List Call) → Sound s → Known s.fetcher (seen (notes calls)) → Tied s.tasks (notes calls) → is_open (notes calls) ≡ true → is_dead (notes calls) ≡ false → FetchesOn (notes calls)
fetches_on s calls h k t opened alive = record {
  tasks = λ place low w. t.sent alive place low ∙ works (stage place (notes calls)) (agent_at s.tasks place).phase (t.stages place low) w;
  next = λ at low e. reads_next s.fetcher.phase s.fetcher s.tasks (seen (notes calls)) at (unanswered (notes calls)) opened alive h.so.size (t.count opened alive) low h.so.rule k.row e;
  last = λ at e l. reads_last s.fetcher.phase s.fetcher s.tasks (seen (notes calls)) at opened alive h.so.rule k.row e l;
}

pub fetch_on : CallsFetchOn
fetch_on calls opened alive = fetches_on (after_calls calls) calls (calls_sound calls) (calls_known calls) (calls_tied calls) opened alive
