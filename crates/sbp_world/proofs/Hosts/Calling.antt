-- Every initiator of a run is what a list of its calls makes of a new one.
use Rattle.sbp_world.proofs.Words.Std.{◌≡◌, refl, ◌∙◌, ap, ℕ, Bool, List, [], ◌∷◌}
use Rattle.sbp_world.proofs.Words.Wire.{Moment, empty_outbox}
use Rattle.sbp_world.proofs.Words.Initiator.{InitiatorState, new_state, Call, IsCall, acts, after, done, lets_expire, receives, sees}
use Rattle.sbp_world.proofs.Words.World.{CallsLaw, IsCalled}
use Rattle.sbp_world.proofs.Hosts.Alone.{call_same}
use Rattle.sbp_world.proofs.Hosts.Carried.{of_runs}
use Rattle.sbp_world.proofs.Hosts.Carries.{Carries, Nothing}
use Rattle.sbp_world.proofs.Hosts.Liners.{number_call}

pub called_first : (ready : Bool) (i : ℕ) → IsCalled ready i (new_state i ready)
called_first ready i = record { calls = []; fit = tt; is = refl }

pub called_on : (ready : Bool) (i : ℕ) (s : InitiatorState) (call : Call) → IsCall call → IsCalled ready i s → IsCalled ready i (done call (empty_outbox, s)).1
called_on ready i s call fit h =
    let t = after i ready h.calls in
    record {
      calls = call ∷ h.calls;
      fit = (fit, h.fit);
      is = call_same call t.0 empty_outbox t.1 ∙ ap (λ (x : InitiatorState). (done call (empty_outbox, x)).1) h.is;
    }

-- an initiator and its number
pub record IsOwn (ready : Bool) (i : ℕ) (s : InitiatorState) : Type 0 where
  pub number : s.number ≡ i
  pub called : IsCalled ready i s

pub own_on : (ready : Bool) (i : ℕ) (s : InitiatorState) (call : Call) → IsCall call → IsOwn ready i s → IsOwn ready i (done call (empty_outbox, s)).1
own_on ready i s call fit h =
    record { number = number_call call (empty_outbox, s) fit ∙ h.number; called = called_on ready i s call fit h.called }

pub own_first : (ready : Bool) (i : ℕ) → IsOwn ready i (new_state i ready)
unfolding new_state
own_first ready i = record { number = refl; called = called_first ready i }

abbrev Owns : Bool → List Moment → ℕ → InitiatorState → Type 0
Owns ready past i s = IsOwn ready i s

pub own_carried : (ready : Bool) → Carries Nothing (Owns ready)
own_carried ready = record {
  known = λ line event past i s h. tt;
  number = λ past i s h. h.number;
  asked = λ line event past i s h. h;
  apart = λ note past i s e f h. h;
  sent = λ serial generation from to bytes past i s n h. h;
  hears = λ serial generation bytes past i s heard shown after h. record { own = own_on ready i s (receives generation bytes) tt h; others = λ j x e g. g };
  expires = λ serial label past i s shown h. record { own = own_on ready i s (lets_expire label) tt h; others = λ j x e g. g };
  stale = λ label past i s e h. own_on ready i s (lets_expire label) tt h;
  sees = λ generation id target past i s e h. record { own = own_on ready i s (sees generation id target) tt h; others = λ j x f g. g };
  acts = λ action past i s e fit d shown known h. record { others = λ j x f g. g; quiet = λ n. own_on ready i s (acts action) fit.0 h; asking = λ packet one serial generation f q. own_on ready i s (acts action) fit.0 h };
}

pub calls_law : CallsLaw
calls_law run r i b = (of_runs (Owns run.ready) (own_carried run.ready) 0 run (λ entries few short all fit j c. tt) (λ j c. own_first run.ready j) r i b).called
