-- The ORB in the place of the operation that an initiator has under way is as its session stands.
use Rattle.sbp_world.proofs.Words.Std.{◌≡◌, ◌∙◌, refl, sym, ap, ◌⊎◌, inl, inr, ℕ, ◌^◌, ◌<◌, Bool, true, List, Option, Some, None}
use Rattle.sbp_world.proofs.Words.Wire.{Operation, Moment}
use Rattle.sbp_world.proofs.Words.Initiator.{LoginResponse, management_orb, Running, InitiatorState, Origin, Seat, carried}
use Rattle.sbp_world.proofs.Words.Laws.{Underway, host_at, is_management, place_bytes, place_held}
use Rattle.sbp_world.proofs.Words.World.{Core, operation_by, work_in, work_of, IsUnderway, underway_orb}
use Rattle.sbp_world.proofs.Hosts.Hosted.{Cored}
use Rattle.sbp_session.specs.declared.seat.Origin.TheVariants as origins
use Rattle.sbp_session.specs.declared.seat.Seat.TheVariants as seats
use Rattle.sbp_world.proofs.Lists.LiveAims.{Aims}
use Rattle.sbp_world.proofs.Lists.LiveOrbs.{orb_mine}
use Rattle.sbp_world.proofs.Lists.LiveOwn.{Fit, GaveUp, enters, is_entry, is_exit, quits}
use Rattle.sbp_world.proofs.Lists.LiveStandings.{apart_leaves, comes_leaves, inside_leaves, leaves, stand_by, stand_of}
use Rattle.sbp_world.proofs.Lists.LiveTargets.{IsMine}

-- the response that a session on its way out carries
record Carries (response : Option LoginResponse) (number : ℕ) : Type 0 where
  own : LoginResponse
  is : response ≡ Some own
  number_is : own.login ≡ number

same_number : (one other : ℕ) → leaves one ≡ leaves other → one ≡ other
same_number one other e = cc

origin_leaves : (origin : Origin) (number : ℕ) → stand_by origin ≡ leaves number → Carries (carried (seats.Stuck origin)) number
origin_leaves (origins.Leaving response) number e = record { own = response; is = refl; number_is = same_number response.login number e }
origin_leaves (origins.Out out) number e = apart_leaves number e
origin_leaves (origins.Entering entering) number e = comes_leaves number e
origin_leaves (origins.Live live) number e = inside_leaves live.response.login number e
origin_leaves (origins.Held response) number e = apart_leaves number e
origin_leaves (origins.Returning response) number e = comes_leaves number e

seat_leaves : (seat : Seat) (number : ℕ) → stand_of seat ≡ leaves number → Carries (carried seat) number
seat_leaves (seats.Leaving response) number e = record { own = response; is = refl; number_is = same_number response.login number e }
seat_leaves (seats.Out out) number e = apart_leaves number e
seat_leaves (seats.Entering entering) number e = comes_leaves number e
seat_leaves (seats.Live live) number e = inside_leaves live.response.login number e
seat_leaves (seats.Held response) number e = apart_leaves number e
seat_leaves (seats.Returning response) number e = comes_leaves number e
seat_leaves (seats.Stuck origin) number e = origin_leaves origin number e

-- the operation that the history has is the one of the state
entry_is : (kind : Operation) (operation : Option Running) → Some kind ≡ operation_by (work_in operation) → is_entry operation ≡ enters kind
entry_is kind None e = absurd (let no : Some kind ≡ None = e in cc)
entry_is kind (Some running) e = let same : kind ≡ running.operation = cc in ap enters (sym same)

exit_is : (kind : Operation) (operation : Option Running) → Some kind ≡ operation_by (work_in operation) → is_exit operation ≡ quits kind
exit_is kind None e = absurd (let no : Some kind ≡ None = e in cc)
exit_is kind (Some running) e = let same : kind ≡ running.operation = cc in ap quits (sym same)

module _ (ready : Bool) (past : List Moment) (i : ℕ) (s : InitiatorState) (c : Cored ready past i s) (fit : Fit s.operation s.seat) (aims : Aims s.operation (stand_of s.seat)) (up : GaveUp s.operation s.seat → ⊥) (login : (response : LoginResponse) → carried s.seat ≡ Some response → (host_at past i).login ≡ response) where
  module _ (underway : Underway) (there : (host_at past i).operation ≡ Some underway) (manages : is_management underway.operation ≡ true) (is : IsUnderway past i underway) (short : (underway_orb past i underway).subject < 2 ^ 16) where
    one_operation : Some underway.operation ≡ operation_by (work_in s.operation)
    one_operation = sym (ap (λ (o : Option Underway). operation_by (work_of o)) there) ∙ ap (λ (x : Core). operation_by x.work) c.core

    leaves_by : (number : ℕ) → (is_exit s.operation ≡ true) ⊎ GaveUp s.operation s.seat → quits underway.operation ≡ true
    leaves_by number (inl e) = sym (exit_is underway.operation s.operation one_operation) ∙ e
    leaves_by number (inr g) = absurd (up g)

    named : (number : ℕ) → stand_of s.seat ≡ leaves number → (host_at past i).login.login ≡ number
    named number e = let own = seat_leaves s.seat number e in ap (λ (r : LoginResponse). r.login) (login own.own own.is) ∙ own.number_is

    pub mine_at : IsMine (stand_of s.seat) (management_orb (place_bytes (place_held past i underway.place)))
    mine_at = orb_mine past i underway is manages short (stand_of s.seat)
        (λ e. aims.entry (entry_is underway.operation s.operation one_operation ∙ e))
        (λ e. aims.exit (exit_is underway.operation s.operation one_operation ∙ e))
        (λ number e. leaves_by number (fit.going number e))
        named
