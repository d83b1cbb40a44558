-- The laws of single events, row by row.
use Rattle.std.specs.Prelude.{◌≡◌, true, false, [], ◌∷◌, refl}
use Rattle.std.proofs.Common.{arith, ap, ◌∙◌}
use Rattle.sbp_session.specs.Moves.{Event, sent, conflict, reset, goes}
use Rattle.sbp_session.specs.Laws.{CarriedLaw, ResetLaw, StuckLaw, EndsLaw, sees_reset, is_idle}
use Rattle.sbp_session.specs.declared.seat.Seat.{Seat}
use Rattle.sbp_session.specs.declared.seat.Seat.TheVariants as seats
use Rattle.sbp_session.specs.declared.seat.Origin.{Origin}

pub response_by_moves : CarriedLaw
unfolding goes
response_by_moves event seat = grind arith

pub held_by_a_reset : ResetLaw
unfolding goes
held_by_a_reset seat = grind arith

stays_stuck : (event : Event) (origin : Origin) → sees_reset (event ∷ []) ≡ false → goes event (seats.Stuck origin) ≡ seats.Stuck origin
unfolding goes
stays_stuck reset origin e = absurd (let no : true ≡ false = e in cc)
stays_stuck _ origin e = refl

pub stuck_until_a_reset : StuckLaw
stuck_until_a_reset [] origin e = refl
stuck_until_a_reset (reset ∷ events) origin e = absurd (let no : true ≡ false = e in cc)
stuck_until_a_reset (event ∷ events) origin e = ap (goes event) (stuck_until_a_reset events origin e) ∙ stays_stuck event origin refl

undone : (seat : Seat) → is_idle seat ≡ true → goes conflict (goes sent seat) ≡ seat
unfolding goes
undone seat e = grind arith

pub operations_end : EndsLaw
unfolding goes
operations_end = record { login = λ response. refl; reconnect = λ response. refl; logout = λ response. refl; undone = undone }
