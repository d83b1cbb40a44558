-- In every run an initiator writes and reads at the registers of the agent of its host's login.
use Rattle.sbp_world.proofs.Words.Std.{◌≡◌, refl, sym, ap, subst, is_some, ℕ, true, List, Option, Some, None, false≢true}
use Rattle.sbp_world.proofs.Words.Wire.{Moment}
use Rattle.sbp_world.proofs.Words.Initiator.{LoginResponse, InitiatorState, start, carried, Origin, Seat}
use Rattle.sbp_world.proofs.Words.Laws.{slot_at}
use Rattle.sbp_world.proofs.Words.World.{HoldingLaw, HoldsLogin, AreAtAgent, RegistersLaw, is_seated, register_read, pointer_write, register_write, AreBased, BasesLaw}
use Rattle.bus_memory.specs.declared.window.Window.TheVariants as windows
use Rattle.sbp_session.specs.declared.seat.Origin.TheVariants as origins
use Rattle.sbp_session.specs.declared.seat.Seat.TheVariants as seats
use Rattle.sbp_world.specs.Pointers.Bases.{IsAsked}

-- a response that is carried
record Carries (seat : Seat) : Type 0 where
  response : LoginResponse
  is : carried seat ≡ Some response

carries_by : (seat : Seat) (found : Option LoginResponse) → carried seat ≡ found → is_some found ≡ true → Carries seat
carries_by seat None e f = absurd (false≢true f)
carries_by seat (Some response) e f = record { response = response; is = e }

carries : (seat : Seat) → is_some (carried seat) ≡ true → Carries seat
carries seat e = carries_by seat (carried seat) refl e

pub seated : (seat : Seat) → is_seated seat ≡ true → is_some (carried seat) ≡ true
seated (seats.Live x) e = refl
seated (seats.Leaving response) e = refl
seated (seats.Stuck origin) e = stuck origin e
  where
    stuck : (origin : Origin) → is_seated (seats.Stuck origin) ≡ true → is_some (carried (seats.Stuck origin)) ≡ true
    stuck (origins.Live x) e = refl
    stuck (origins.Leaving response) e = refl
    stuck (origins.Out out) e = absurd (false≢true e)
    stuck (origins.Entering entering) e = absurd (false≢true e)
    stuck (origins.Held response) e = absurd (false≢true e)
    stuck (origins.Returning response) e = absurd (false≢true e)
seated (seats.Out out) e = absurd (false≢true e)
seated (seats.Entering entering) e = absurd (false≢true e)
seated (seats.Held response) e = absurd (false≢true e)
seated (seats.Returning response) e = absurd (false≢true e)

are_based : (past : List Moment) (i : ℕ) (s : InitiatorState) → AreAtAgent past i s → HoldsLogin past i s → AreBased past i
are_based past i s h k = record {
  pointer = λ u n serial l p.
      let c = carries s.seat (seated s.seat (h.seated u (ap is_some l))) in
      subst (λ (r : LoginResponse). IsAsked past i serial (pointer_write r.agent (start (windows.Orb (slot_at past i n 0))))) (sym (k.login c.response c.is)) (h.pointer u n serial l p c.response c.is);
  reset = λ underway e r.
      let c = carries s.seat (h.armed underway e r) in
      subst (λ (x : LoginResponse). IsAsked past i underway.first (register_write x.agent 0x04)) (sym (k.login c.response c.is)) (h.reset underway e r c.response c.is);
  states = λ u n serial l p.
      let c = carries s.seat (seated s.seat (h.seated u (ap is_some l))) in
      subst (λ (r : LoginResponse). IsAsked past i serial (register_read r.agent 0x00)) (sym (k.login c.response c.is)) (h.states u n serial l p c.response c.is);
  behind = h.behind;
  judged = h.judged;
}

pub bases_law : RegistersLaw → HoldingLaw → BasesLaw
bases_law registers holding = record {
  after_lines = λ line run r i b. are_based _ i _ (registers.after_lines line run r i b) (holding.after_lines line run r i b);
  between = λ line run r next most told m i b. are_based _ i _ (registers.between line run r next most told m i b) (holding.between line run r next most told m i b);
}
