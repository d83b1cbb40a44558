-- In every run in which no initiator injected packets and few logins were given, each live login whose agent writes a status has the FIFO of the login that its initiator asked for last, while both are in one
-- generation: the agent has the present list of the initiator, so the session of this is in, or on its way out, also where it has given up.
use Rattle.sbp_world.proofs.Words.Std.{arith, ◌≡◌, ◌∙◌, inl, inr, refl, sym, ap, subst, ℕ, suc, ◌+◌, ◌<◌, is_some, not, Bool, true, false, List, length, Some}
use Rattle.sbp_world.proofs.Words.Wire.{Moment, or_nobody, terms}
use Rattle.sbp_world.proofs.Words.Target.{Disk, Login, Phase, is_live, is_reset, login_at, state_in, writes_status}
use Rattle.sbp_world.proofs.Words.Initiator.{is_stuck_seat}
use Rattle.sbp_world.proofs.Words.Laws.{id_for, present_list}
use Rattle.sbp_world.proofs.Words.World.{AreAllOpenFor, AreHeldAt, FewLogins, HasGivenUp, IsOpenFor, IsTame, WorldState, after, beginning, holder, initiator_at, initiator_in, machine_at, more_deliveries, view}
use Rattle.command_agent.specs.declared.phase.Phase.TheVariants as phases
use Rattle.sbp_world.specs.Completing.Latest.{FifosLatestKnownLaw}
use Rattle.sbp_world.specs.Completing.Writes.{AreFifosLatest, IsLatestFifo}
use Rattle.sbp_world.proofs.Agents.Management.Holding.{Holding}
use Rattle.sbp_world.proofs.Agents.Management.Still.{hist}
use Rattle.sbp_world.proofs.Common.{untrue}
use Rattle.sbp_world.proofs.Completing.AnswersRuns.{by_places}
use Rattle.sbp_world.proofs.Completing.FifosInside.{held_everywhere}
use Rattle.sbp_world.proofs.Completing.LatestGiven.{GivenLatest, given_everywhere, seat_in}
use Rattle.sbp_world.proofs.Completing.LatestSeats.{Kit, kits, seats_latest}
use Rattle.sbp_world.proofs.Hosts.Runs.{count_after, count_between}
use Rattle.sbp_world.proofs.Lists.Clauses.{open_lists_law}
use Rattle.sbp_world.proofs.Lists.Courses.{EveryPlace, more_than_one}
use Rattle.sbp_world.proofs.Lists.KeptTurns.{id_is, own_is, zero_is}
use Rattle.sbp_world.proofs.Lists.ListsProved.{closing}
use Rattle.sbp_world.proofs.Lists.LiveHandled.{gave_up}
use Rattle.sbp_world.proofs.Lists.LiveLaws.{given_up}
use Rattle.sbp_world.proofs.Lists.LiveOwn.{in_hand as has_one, two_ways}
use Rattle.sbp_world.proofs.Lists.LiveRuns.{IsCored}
use Rattle.sbp_world.proofs.Lists.LiveSteps.{GaveUpOf, id_in, own_of, zero_of}
use Rattle.sbp_world.proofs.Lists.OneUp.{open_for_law}
use Rattle.sbp_world.proofs.Lists.ShortLines.{short_law}
use Rattle.sbp_world.proofs.Pointers.Naming.{Naming}
use Rattle.sbp_world.proofs.Pointers.Proved.{between_wire, moments_law, wire_of}
use Rattle.sbp_world.proofs.Pointers.Sending.{names}

-- an agent that writes a status is out of RESET
writes_up : (phase : Phase) → writes_status phase ≡ true → not (is_reset (state_in phase)) ≡ true
writes_up phases.WritingStatus e = refl
writes_up phases.WritingLastStatus e = refl
writes_up phases.Fetching e = untrue e
writes_up phases.ReadingTable e = untrue e
writes_up (phases.ReadingData wanted) e = untrue e
writes_up phases.Answering e = untrue e
writes_up phases.ReadingNext e = untrue e
writes_up phases.Reset e = untrue e
writes_up phases.Suspended e = untrue e
writes_up phases.Dead e = untrue e

-- ---- what is known at each place of a run
record Ground (start : List Disk) (past : List Moment) (w : WorldState) : Type 0 where
  kit : Kit start past w
  given : GivenLatest start past w
  held : AreHeldAt start past w
  open_for : FewLogins past → AreAllOpenFor past w
  naming : (i : ℕ) → i < length w.initiators → Naming past i

ground_everywhere : EveryPlace Ground
ground_everywhere = record {
  after_lines = λ line run r has small size so_far. record {
    kit = kits.after_lines line run r has small size so_far;
    given = given_everywhere.after_lines line run r has small size so_far;
    held = held_everywhere.after_lines line run r has small size so_far;
    open_for = λ few. (open_for_law short_law).after_lines line run r has small size so_far (inr few);
    naming = λ i l.
        let b = subst (λ n. i < n) (count_after run run.entries) l in
        let wire = wire_of line run r i b in
        names _ i wire.serials wire.sent (moments_law.after_lines line run r i b);
  };
  between = λ line run r has small size next most told m so_far. record {
    kit = kits.between line run r has small size next most told m so_far;
    given = given_everywhere.between line run r has small size next most told m so_far;
    held = held_everywhere.between line run r has small size next most told m so_far;
    open_for = λ few. (open_for_law short_law).between line run r has small size next most told m so_far (inr few);
    naming = λ i l.
        let b = subst (λ n. i < n) (count_between told (after (beginning run) run.entries) ∙ count_after run run.entries) l in
        let wire = (between_wire line run r next most told m i b).0 in
        names _ i wire.serials wire.sent (moments_law.between line run r next most told m i b);
  };
}

-- ---- at a place
module _ (units ready : ℕ) (has : 0 < units) (start : List Disk) {past : List Moment} {lines : ℕ} (w : WorldState) (h : Holding units ready start past lines w) (k : Ground start (hist past w) w) (few : FewLogins (hist past w)) (tame : IsTame (hist past w)) (place : ℕ) (login : Login) (small : place < 8) (there : login_at w.target place ≡ Some login) (live : is_live login ≡ true) (writes : writes_status (machine_at w place).phase ≡ true) (level : (terms (hist past w)).generation 0 ≡ (terms (hist past w)).generation (suc (initiator_in w place))) where
  abbrev ms : List Moment
  ms = hist past w

  abbrev i : ℕ
  i = initiator_in w place

  -- whose the place is
  record IsPlaceOf : Type 0 where
    inside : i < length w.initiators
    node : login.node ≡ id_in w i

  mine : IsPlaceOf
  mine =
      let x = k.held.held place login there in
      let of = x.live live in
      let here : x.holder.initiator ≡ i = sym (ap (λ o. (or_nobody o).initiator) x.there) in
      let inside : i < length w.initiators = subst (λ n. n < length w.initiators) here of.of.small in
      let next : x.holder.initiator + 1 ≡ suc i = omega (arith, here) in
      record { inside = inside; node = (sym of.of.node_is ∙ ap (λ n. id_for (terms ms) 0 n) next) ∙ id_is units ready has start w h i inside }

  together : zero_of w ≡ own_of w i
  together = sym (zero_is units ready has start w h i mine.inside) ∙ (level ∙ own_is units ready has start w h i mine.inside)

  opened : IsOpenFor (view ms i) i place (holder w place).list
  opened = (k.open_for few i mine.inside (tame i)).each place small (record { up = writes_up (machine_at w place).phase writes; own = refl })

  present : present_list ms i ≡ Some opened.list
  present = opened.present level

  latest : IsLatestFifo ms i login.fifo
  latest = by (is_stuck_seat (initiator_at w i).seat) refl (has_one (initiator_at w i).operation) refl
    where
      c : IsCored ms i (initiator_at w i)
      c = k.kit.near.live.known.cored i mine.inside

      gave : HasGivenUp ms i → GaveUpOf w i
      gave y = gave_up c.ready ms w i c.cored y

      -- it has given up
      given : GaveUpOf w i → IsLatestFifo ms i login.fifo
      given y =
          let named = ((k.naming i mine.inside).each opened.list opened.serial opened.pointed).own present in
          ((k.given few i mine.inside (tame i) (given_up c.ready ms w i c.cored y) opened.serial named).1 together).latest place login there live mine.node

      -- it has not
      inside : (HasGivenUp ms i → ⊥) → IsLatestFifo ms i login.fifo
      inside up =
          let near = k.kit.near in
          let x = seat_in (initiator_at w i).seat ((near.agents i mine.inside).seated (near.unrefused (inr few) i mine.inside (tame i)) (ap is_some present)) in
          seats_latest units ready has start w h k.kit few i mine.inside (tame i) up x.0 x.1 together place login there live mine.node

      by : (b : Bool) → is_stuck_seat (initiator_at w i).seat ≡ b → (d : Bool) → has_one (initiator_at w i).operation ≡ d → IsLatestFifo ms i login.fifo
      by true e false f = given (record { stuck = e; none = f })
      by true e true f = inside (λ y. two_ways (has_one (initiator_at w i).operation) f (gave y).none)
      by false e d f = inside (λ y. two_ways (is_stuck_seat (initiator_at w i).seat) (gave y).stuck e)

-- ---- in every run
latest_everywhere : EveryPlace (λ start past w. FewLogins past → AreFifosLatest start past w)
latest_everywhere =
    by_places Ground (λ start past w. FewLogins past → AreFifosLatest start past w)
    (λ units ready has start past lines w h k few tame place login small there live writes level. latest units ready has start w h k few tame place login small there live writes level) ground_everywhere

pub latest_fifos_law : FifosLatestKnownLaw
latest_fifos_law = record {
  after_lines = λ line run r has small size few tame. latest_everywhere.after_lines line run r has small size (closing.before open_lists_law line run r has small size (inl tame)) few tame;
  between = λ line run r has small size next most told m few tame.
      latest_everywhere.between line run r has small size next most told m (closing.between open_lists_law line run r has small size next (more_deliveries most) (more_than_one most) told m (inl tame)) few tame;
}
