-- In which state an agent is, and when it takes a pointer.
use Rattle.std.proofs.Common.{◌≡◌, ◌⊎◌, inl, inr, refl, ap, sym, ◌∙◌, ℕ, Bool, true, false, cond, List, Option, Some, None, Ok}
use Rattle.orb_layout.specs.declared.ask.Ask.{Ask}
use Rattle.orb_layout.specs.declared.pointer.OrbPointer.{OrbPointer}
use Rattle.orb_layout.specs.declared.pointer.OrbPointer.TheVariants.{Null, At}
use Rattle.command_agent.specs.declared.step.AgentState.{AgentState}
use Rattle.command_agent.specs.Machine.{Machine, aligned}
use Rattle.unordered_agent.specs.declared.fetcher.FetchPhase.{FetchPhase}
use Rattle.unordered_agent.specs.declared.fetcher.FetchPhase.TheVariants as phases
use Rattle.unordered_agent.specs.declared.fetcher.Fetcher.{Fetcher}
use Rattle.unordered_agent.specs.Machine.{TaskMachine, state_in, is_null, FetchRule}
use Rattle.unordered_agent.specs.Steps.{takes_pointer, pointed, point_step}
use Rattle.unordered_laws.specs.Calls.{Call, after_calls}
use Rattle.unordered_laws.specs.Notes.{notes, is_open, is_dead}
use Rattle.unordered_laws.specs.Order.{named, next_of}
use Rattle.unordered_laws.specs.Fetches.{unanswered}
use Rattle.unordered_laws.specs.States.{state_by, StateLaw, IsOver, PointLaw}
use Rattle.unordered_laws.proofs.Rules.{refused, calls_sound}
use Rattle.unordered_laws.proofs.Busy.{busy, busy_none}
use Rattle.unordered_laws.proofs.Order.{Seen, seen, KeepsBy, next_last, calls_known}
use Rattle.unordered_laws.proofs.Runs.{calls_tied}

abbrev state_seen : Seen → AgentState
state_seen s = state_by s.dead s.opened s.reading (next_of s.first s.orbs)

states_same : (a b c d : Bool) (r q : Option (ℕ × ℕ)) (n m : Option ℕ) → a ≡ b → c ≡ d → r ≡ q → n ≡ m → state_by b d q m ≡ state_by a c r n
states_same a b c d r q n m e f g h =
    sym (ap (λ (x : Bool). state_by x c r n) e ∙ ap (λ (x : Bool). state_by b x r n) f ∙ ap (λ (x : Option (ℕ × ℕ)). state_by b d x n) g ∙ ap (λ (x : Option ℕ). state_by b d q x) h)

abbrev next_address : OrbPointer → ℕ
next_address Null = 0
next_address (At next) = aligned next

some_next : (next : OrbPointer) → is_null next ≡ false → Some (next_address next) ≡ named next
some_next Null e = cc e
some_next (At next) e = refl

state_is : (phase : FetchPhase) (f : Fetcher) (tasks : List Machine) (s : Seen) → FetchRule phase f tasks → KeepsBy phase f s → state_in phase ≡ state_seen s
state_is phases.Reset f tasks s r k = states_same s.dead false s.opened false s.reading s.reading (next_of s.first s.orbs) (next_of s.first s.orbs) k.dead k.opened refl refl
state_is phases.Fetching f tasks s r k = states_same s.dead false s.opened true s.reading (Some (f.orb, 32)) (next_of s.first s.orbs) (Some f.orb) k.live.dead k.live.opened k.reading k.next
state_is phases.ReadingNext f tasks s r k = states_same s.dead false s.opened true s.reading (Some (f.orb, 8)) (next_of s.first s.orbs) None k.live.dead k.live.opened k.reads (next_last f.orb f.next s.first s.orbs k.last ∙ ap named r)
state_is phases.Waiting f tasks s r k =
    states_same s.dead false s.opened true s.reading None (next_of s.first s.orbs) (Some (next_address f.next)) k.live.dead k.live.opened k.reads
    (next_last f.orb f.next s.first s.orbs k.last ∙ sym (some_next f.next r.1))
state_is phases.AtEnd f tasks s r k = states_same s.dead false s.opened true s.reading None (next_of s.first s.orbs) None k.live.dead k.live.opened k.reads (next_last f.orb f.next s.first s.orbs k.last ∙ ap named r.0)
state_is phases.Dead f tasks s r k = states_same s.dead true s.opened s.opened s.reading s.reading (next_of s.first s.orbs) (next_of s.first s.orbs) k.dead refl refl refl

pub state_told : StateLaw
state_told calls = state_is (after_calls calls).fetcher.phase (after_calls calls).fetcher (after_calls calls).tasks (seen (notes calls)) (calls_sound calls).so.rule (calls_known calls).row

-- a pointer is taken
taken : (b : Bool) (pointer : OrbPointer) (s : TaskMachine) (ask : Ask) → (cond b (pointed s pointer) (refused s)).0 ≡ Ok ask → b ≡ true
taken true pointer s ask e = refl
taken false pointer s ask e = cc e

over : (phase : FetchPhase) (f : Fetcher) (tasks : List Machine) (calls : List Call) → takes_pointer (state_in phase) tasks ≡ true → FetchRule phase f tasks → KeepsBy phase f (seen (notes calls))
    → (is_open (notes calls) ≡ true → is_dead (notes calls) ≡ false → unanswered (notes calls) ≡ busy tasks) → (is_open (notes calls) ≡ false) ⊎ IsOver (notes calls)
over phases.Reset f tasks calls e r k count = inl k.opened
over phases.AtEnd f tasks calls e r k count = inr (record {
  alive = k.live.dead;
  answered = count k.live.opened k.live.dead ∙ busy_none tasks e;
  last = next_last f.orb f.next (seen (notes calls)).first (seen (notes calls)).orbs k.last ∙ ap named r.0;
  idle = k.reads;
})
over phases.Fetching f tasks calls e r k count = cc e
over phases.ReadingNext f tasks calls e r k count = cc e
over phases.Waiting f tasks calls e r k count = cc e
over phases.Dead f tasks calls e r k count = cc e

pub points_in_time : PointLaw
unfolding point_step
points_in_time calls pointer ask e =
    let s : TaskMachine = after_calls calls in
    over s.fetcher.phase s.fetcher s.tasks calls (taken (takes_pointer (state_in s.fetcher.phase) s.tasks) pointer s ask e) (calls_sound calls).so.rule (calls_known calls).row (calls_tied calls).count
