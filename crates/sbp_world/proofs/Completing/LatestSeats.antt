-- While the session of an initiator that has not given up is in, or on its way out, each live login of its node has the FIFO of the login that it asked for last, where few logins were given: that login has the ID of
-- the response which the session carries.
use Rattle.sbp_world.proofs.Words.Std.{arith, ◌≡◌, ◌∙◌, inl, inr, ◌⊎◌, refl, sym, ap, subst, ℕ, ◌<◌, true, List, length, Option, Some, same_Some}
use Rattle.sbp_world.proofs.Words.Wire.{Moment}
use Rattle.sbp_world.proofs.Words.Target.{Disk, Login, is_live, place_at}
use Rattle.sbp_world.proofs.Words.Initiator.{LoginResponse, Origin, Seat, carried}
use Rattle.sbp_world.proofs.Words.Laws.{host_at}
use Rattle.sbp_world.proofs.Words.World.{Core, FewLogins, HasGivenUp, IsCalm, WorldState, after, beginning, initiator_at, session_in}
use Rattle.sbp_laws.specs.Hosts.{has_login}
use Rattle.sbp_session.specs.declared.seat.Origin.TheVariants as origins
use Rattle.sbp_session.specs.declared.seat.Seat.TheVariants as seats
use Rattle.sbp_world.specs.Completing.Writes.{IsLatestFifo}
use Rattle.sbp_world.specs.Hosts.Core.{had_login}
use Rattle.sbp_world.proofs.Agents.Management.Holding.{Holding}
use Rattle.sbp_world.proofs.Agents.Management.Still.{hist}
use Rattle.sbp_world.proofs.Common.{none_is}
use Rattle.sbp_world.proofs.Completing.HomeLaws.{near}
use Rattle.sbp_world.proofs.Completing.HomePlaces.{Near}
use Rattle.sbp_world.proofs.Completing.LatestBacks.{last_after, last_between}
use Rattle.sbp_world.proofs.Completing.LatestGranted.{IsGrantedLast, granted}
use Rattle.sbp_world.proofs.Completing.LatestTold.{AreMatched, Matches, matched_everywhere}
use Rattle.sbp_world.proofs.Hosts.Runs.{count_after, count_between}
use Rattle.sbp_world.proofs.Lists.Courses.{EveryPlace}
use Rattle.sbp_world.proofs.Lists.LiveLaws.{given_up}
use Rattle.sbp_world.proofs.Lists.LiveStandings.{number_in, stand_of}
use Rattle.sbp_world.proofs.Lists.LiveSteps.{ClaimsOf, GaveUpOf, id_in, own_of, zero_of}
use Rattle.sbp_world.proofs.Lists.LiveTurns.{good}

-- ---- a session that is in, or on its way out
record IsCarried (response : Option LoginResponse) (number : ℕ) : Type 0 where
  own : LoginResponse
  is : response ≡ Some own
  number_is : own.login ≡ number

origin_carries : (origin : Origin) (number : ℕ) → number_in (stand_of (seats.Stuck origin)) ≡ Some number → IsCarried (carried (seats.Stuck origin)) number
origin_carries (origins.Live live) number e = record { own = live.response; is = refl; number_is = same_Some _ _ e }
origin_carries (origins.Leaving response) number e = record { own = response; is = refl; number_is = same_Some _ _ e }
origin_carries (origins.Out out) number e = none_is number e
origin_carries (origins.Entering entering) number e = none_is number e
origin_carries (origins.Held response) number e = none_is number e
origin_carries (origins.Returning response) number e = none_is number e

seat_carries : (seat : Seat) (number : ℕ) → number_in (stand_of seat) ≡ Some number → IsCarried (carried seat) number
seat_carries (seats.Live live) number e = record { own = live.response; is = refl; number_is = same_Some _ _ e }
seat_carries (seats.Leaving response) number e = record { own = response; is = refl; number_is = same_Some _ _ e }
seat_carries (seats.Stuck origin) number e = origin_carries origin number e
seat_carries (seats.Out out) number e = none_is number e
seat_carries (seats.Entering entering) number e = none_is number e
seat_carries (seats.Held response) number e = none_is number e
seat_carries (seats.Returning response) number e = none_is number e

origin_had : (origin : Origin) (response : LoginResponse) → carried (seats.Stuck origin) ≡ Some response → had_login origin ≡ true
origin_had (origins.Out out) response e = none_is response e
origin_had (origins.Entering entering) response e = none_is response e
origin_had (origins.Live live) response e = refl
origin_had (origins.Held own) response e = refl
origin_had (origins.Returning own) response e = refl
origin_had (origins.Leaving own) response e = refl

-- one that carries a response has a login
carried_had : (seat : Seat) (response : LoginResponse) → carried seat ≡ Some response → has_login (session_in seat) ≡ true
carried_had (seats.Out out) response e = none_is response e
carried_had (seats.Entering entering) response e = none_is response e
carried_had (seats.Live live) response e = refl
carried_had (seats.Held own) response e = refl
carried_had (seats.Returning own) response e = refl
carried_had (seats.Leaving own) response e = refl
carried_had (seats.Stuck origin) response e = origin_had origin response e

-- ---- what is known of a place
pub record Kit (start : List Disk) (past : List Moment) (w : WorldState) : Type 0 where
  pub near : Near start past w
  pub matched : AreMatched past w
  pub last : (i : ℕ) → i < length w.initiators → IsGrantedLast past i

pub kits : EveryPlace Kit
kits = record {
  after_lines = λ line run r has small size so_far. record {
    near = near.after_lines line run r has small size so_far;
    matched = matched_everywhere.after_lines line run r has small size so_far;
    last = λ i l. last_after line run r i (subst (λ n. i < n) (count_after run run.entries) l);
  };
  between = λ line run r has small size next most told m so_far. record {
    near = near.between line run r has small size next most told m so_far;
    matched = matched_everywhere.between line run r has small size next most told m so_far;
    last = λ i l. last_between line run r i (subst (λ n. i < n) (count_between told (after (beginning run) run.entries) ∙ count_after run run.entries) l) next most told m;
  };
}

-- each live login of the initiator's node
abbrev pub AllLatest : List Moment → WorldState → ℕ → Type 0
AllLatest past w i = (place : ℕ) (login : Login) → place_at w.target.logins.places place ≡ Some login → is_live login ≡ true → login.node ≡ id_in w i → IsLatestFifo past i login.fifo

module _ (units ready : ℕ) (has : 0 < units) (start : List Disk) {past : List Moment} {lines : ℕ} (w : WorldState) (h : Holding units ready start past lines w) (q : Kit start (hist past w) w) (few : FewLogins (hist past w)) (i : ℕ) (l : i < length w.initiators) (calm : IsCalm (hist past w) i) where
  abbrev ms : List Moment
  ms = hist past w

  abbrev seat : Seat
  seat = (initiator_at w i).seat

  -- the response that the session carries
  session_matches : (response : LoginResponse) → carried seat ≡ Some response → Matches w.target.logins response (host_at ms i).logins
  session_matches response e =
      let c = q.near.live.known.cored i l in
      let had : has_login (host_at ms i).session ≡ true = ap (λ (x : Core). has_login x.session) c.cored.core ∙ carried_had seat response e in
      subst (Matches w.target.logins response) (q.last i l had)
      (subst (λ r. Matches w.target.logins r (granted ms i)) (q.near.live.more.given.login i l response e) (q.matched few i l (calm, inr few)))

  pub seats_latest : (HasGivenUp ms i → ⊥) → (number : ℕ) → number_in (stand_of seat) ≡ Some number → zero_of w ≡ own_of w i → AllLatest ms w i
  seats_latest up number e level place login there live of = by ((q.near.alive i l).lives.claims (calm, inr few) level)
    where
      by : GaveUpOf w i ⊎ ClaimsOf start ms w i → IsLatestFifo ms i login.fifo
      by (inl g) = absurd (let c = q.near.live.known.cored i l in up (given_up c.ready ms w i c.cored g))
      by (inr claims) =
          let x = seat_carries seat number e in
          let m = session_matches x.own x.is in
          let id : login.login ≡ x.own.login = (claims.named number e).named place login there live of ∙ sym x.number_is in
          let least = ((good units ready has start w h).table.sound.numbered place login there).least in
          record { some = m.some (omega (arith, least, id)); goes = m.tied.tied place login there id }
