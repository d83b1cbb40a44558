-- In every run in which no initiator injected packets, an initiator in the target's generation whose node has a live login is not out (NCITS 325-1998, login): so the FIFO of a live login is open, where it is the latest one.
use Rattle.sbp_world.proofs.Words.Std.{arith, ◌≡◌, ◌∙◌, refl, sym, ap, subst, ◌⊎◌, inl, inr, ◌<◌, ◌+◌, ℕ, suc, true, false, List, length, Some, false≢true}
use Rattle.sbp_world.proofs.Words.Wire.{Moment, terms}
use Rattle.sbp_world.proofs.Words.Target.{Disk, Login, is_live, login_at}
use Rattle.sbp_world.proofs.Words.Initiator.{Seat}
use Rattle.sbp_world.proofs.Words.Laws.{host_at, id_for}
use Rattle.sbp_world.proofs.Words.World.{Core, WorldState, after, beginning, host_core, initiator_at, initiator_in, more_deliveries, own_core, session_in}
use Rattle.sbp_laws.specs.Hosts as sessions
use Rattle.sbp_laws.specs.Hosts.{Session, is_stuck}
use Rattle.sbp_laws.specs.JudgementLaw.{is_out}
use Rattle.sbp_session.specs.declared.seat.Seat.TheVariants as seats
use Rattle.sbp_world.specs.Agents.Holders.{AreHeldAt}
use Rattle.sbp_world.specs.Completing.Labels.{AlwaysWhere}
use Rattle.sbp_world.specs.Completing.Writes.{AreFifosLatest, AreFifosOpen}
use Rattle.sbp_world.specs.Lists.Live.{AreLive, HasGivenUp, IsLive}
use Rattle.sbp_world.specs.Lists.OwnLogins.{IsTame}
use Rattle.sbp_world.proofs.Words.Wire.{or_nobody}
use Rattle.sbp_world.proofs.Completing.AnswersRuns.{by_places}
use Rattle.sbp_world.proofs.Hosts.Hosted.{host_law}
use Rattle.sbp_world.proofs.Hosts.Runs.{count_after, count_between}
use Rattle.sbp_world.proofs.Lists.Clauses.{open_lists_law, sessions_law}
use Rattle.sbp_world.proofs.Lists.Courses.{EveryPlace, more_than_one}
use Rattle.sbp_world.proofs.Lists.ListsProved.{closing}
use Rattle.sbp_world.proofs.Lists.MainSlots as main_slots
use Rattle.sbp_world.proofs.Lists.MainSlotsRuns.{kit_everywhere}
use Rattle.sbp_world.proofs.Lists.ShortLines.{short_law}
use Rattle.sbp_world.proofs.Lists.StillTurns.{site_at}

-- what is known at each place of a run
record Kit (start : List Disk) (past : List Moment) (w : WorldState) : Type 0 where
  held : AreHeldAt start past w
  live : AreLive past w
  core : (i : ℕ) → i < length w.initiators → host_core (host_at past i) ≡ own_core (initiator_at w i)

stuck_in : (session : Session) → is_stuck session ≡ true → is_out session ≡ false
stuck_in sessions.out e = absurd (false≢true e)
stuck_in (sessions.stuck had) e = refl
stuck_in sessions.entering e = refl
stuck_in sessions.live e = refl
stuck_in sessions.held e = refl
stuck_in sessions.returning e = refl
stuck_in sessions.leaving e = refl

module _ (start : List Disk) (past : List Moment) (w : WorldState) (kit : Kit start past w) (tame : IsTame past) (place : ℕ) (login : Login) (there : login_at w.target place ≡ Some login) (live : is_live login ≡ true) where
  abbrev i : ℕ
  i = initiator_in w place

  module _ (level : (terms past).generation 0 ≡ (terms past).generation (suc i)) where
    inside_of : i < length w.initiators → login.node ≡ id_for (terms past) 0 (suc i) → is_out (host_at past i).session ≡ false
    inside_of small node = by (kit.live.live i small (tame i, inl tame) level)
      where
        by_seat : (seat : Seat) → IsLive w.target.logins.places (id_for (terms past) 0 (suc i)) seat → is_out (session_in seat) ≡ false
        by_seat (seats.Out out) l = absurd ((l.apart refl).none place login there live node)
        by_seat (seats.Entering entering) l = refl
        by_seat (seats.Live session) l = refl
        by_seat (seats.Held response) l = refl
        by_seat (seats.Returning response) l = refl
        by_seat (seats.Leaving response) l = refl
        by_seat (seats.Stuck origin) l = refl

        by : HasGivenUp past i ⊎ IsLive w.target.logins.places (id_for (terms past) 0 (suc i)) (initiator_at w i).seat → is_out (host_at past i).session ≡ false
        by (inl up) = stuck_in (host_at past i).session up.stuck
        by (inr l) = ap (λ (x : Core). is_out x.session) (kit.core i small) ∙ by_seat (initiator_at w i).seat l

    inside : is_out (host_at past i).session ≡ false
    inside =
        let h = kit.held.held place login there in
        let of = h.live live in
        let here : h.holder.initiator ≡ i = sym (ap (λ o. (or_nobody o).initiator) h.there) in
        let next : h.holder.initiator + 1 ≡ suc i = omega (arith, here) in
        inside_of (subst (λ n. n < length w.initiators) here of.of.small) (sym of.of.node_is ∙ ap (λ n. id_for (terms past) 0 n) next)

pub held_everywhere : EveryPlace (λ start past w. AreHeldAt start past w)
held_everywhere = by_places main_slots.Kit (λ start past w. AreHeldAt start past w) (λ units ready has start past lines w h kit. (site_at start past w kit.ground).held) (kit_everywhere short_law open_lists_law)

kits : EveryPlace Kit
kits =
    let holders = held_everywhere in
    record {
      after_lines = λ line run r has small size so_far. record {
        held = holders.after_lines line run r has small size so_far;
        live = sessions_law.after_lines line run r has small size so_far;
        core = λ i b. host_law.core line run r i (subst (λ n. i < n) (count_after run run.entries) b);
      };
      between = λ line run r has small size next most told m so_far. record {
        held = holders.between line run r has small size next most told m so_far;
        live = sessions_law.between line run r has small size next most told m so_far;
        core = λ i b. host_law.between line run r next most told m i (subst (λ n. i < n) (count_after run run.entries) (subst (λ n. i < n) (count_between told (after (beginning run) run.entries)) b));
      };
    }

pub fifos_latest_where : (While : List Moment → Type 0) → AlwaysWhere While AreFifosLatest → AlwaysWhere While AreFifosOpen
fifos_latest_where While latest = record {
  after_lines = λ line run r has small size so tame place login b there live writes level.
      let x = latest.after_lines line run r has small size so tame place login b there live writes level in
      let k = kits.after_lines line run r has small size (closing.before open_lists_law line run r has small size (inl tame)) in
      record { some = x.some; goes = x.goes; inside = inside run.start.disks _ _ k tame place login there live level };
  between = λ line run r has small size next most told m so tame place login b there live writes level.
      let x = latest.between line run r has small size next most told m so tame place login b there live writes level in
      let k = kits.between line run r has small size next most told m (closing.between open_lists_law line run r has small size next (more_deliveries most) (more_than_one most) told m (inl tame)) in
      record { some = x.some; goes = x.goes; inside = inside run.start.disks _ _ k tame place login there live level };
}
