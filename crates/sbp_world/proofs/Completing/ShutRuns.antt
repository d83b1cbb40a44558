-- At each place of every run in which nobody injected packets, the status block of the management operation goes to the FIFO of the ORB that the target read last; and what the operation waits for is
-- answered whole, where no such FIFO of a login number is closed.
use Rattle.sbp_world.proofs.Words.Std.{arith, ◌≡◌, ◌∙◌, refl, sym, ap, subst, inl, ◌<◌, ◌+◌, ◌*◌, ℕ, zero, suc, Bool, true, List, Some}
use Rattle.sbp_world.proofs.Words.Wire.{Moment}
use Rattle.sbp_world.proofs.Words.Target.{Disk}
use Rattle.sbp_world.proofs.Words.Initiator.{is_fifo}
use Rattle.sbp_world.proofs.Words.Laws.{EachMoment, host_at}
use Rattle.sbp_world.proofs.Words.World.{IsItsFifo, IsTame, WorldState, after, after_all, beginning, begun, more_deliveries, of_login, of_place}
use Rattle.initiator_base.specs.Fifos.{fifo_at}
use Rattle.initiator_base.specs.declared.fifos.Fifo.TheVariants as fifos
use Rattle.sbp_laws.specs.Hosts.{Host}
use Rattle.sbp_session.specs.Seats.{is_out_seat}
use Rattle.sbp_world.specs.Completing.Managed.{AreStatusesOpen}
use Rattle.sbp_world.specs.Completing.ManagedRefusals.{IsShut}
use Rattle.sbp_world.specs.Completing.Shut.{AreLoginsOpen, AreToFifos, GivenWhereLoginsOpenLaw, IsOpenWhenIgnored, IsToFifo, ToFifosLaw}
use Rattle.sbp_world.proofs.Agents.Management.Still.{hist}
use Rattle.sbp_world.proofs.Completing.AnswersRuns.{by_places}
use Rattle.sbp_world.proofs.Completing.ManagedRuns.{RunKit, kits}
use Rattle.sbp_world.proofs.Completing.ManagedStatuses.{given_where_open_law}
use Rattle.sbp_world.proofs.Completing.ShutFifos.{HeardAt}
use Rattle.sbp_world.proofs.Completing.ShutOrbs.{AllFifos, fifos_everywhere, heard_all}
use Rattle.sbp_world.proofs.Completing.ShutPackets.{fifo_is, fifo_may}
use Rattle.sbp_world.proofs.Lists.Clauses.{open_lists_law}
use Rattle.sbp_world.proofs.Lists.Courses.{EveryPlace, more_than_one}
use Rattle.sbp_world.proofs.Lists.ListsProved.{closing}
use Rattle.sbp_world.proofs.Lists.OwnFifos.{fifo_is_fifo}

-- ---- at a place
record FifoKit (start : List Disk) (past : List Moment) (w : WorldState) : Type 0 where
  run : RunKit start past w
  fifos : AllFifos start past w

to_fifos : (start : List Disk) (past : List Moment) (w : WorldState) → FifoKit start past w → IsTame past → AreToFifos start past
to_fifos start past w k tame op ask access operation phase manages asks =
    let known = k.run.kit.managed.ground.known in
    let heard : EachMoment (HeardAt IsItsFifo start) past = heard_all start past k.run.kit.told.answers (k.fifos tame) in
    let its = fifo_is IsItsFifo start past known.counts known.are heard op ask operation phase manages access asks in
    record { its = its; fifo = subst IsItsFifo (sym its) (fifo_may IsItsFifo start past known.counts known.are heard op ask operation phase manages) }

fifo_kits : EveryPlace FifoKit
fifo_kits = record {
  after_lines = λ line run r has small size so_far. record { run = kits.after_lines line run r has small size so_far; fifos = fifos_everywhere.after_lines line run r has small size so_far };
  between = λ line run r has small size next most told m so_far. record { run = kits.between line run r has small size next most told m so_far; fifos = fifos_everywhere.between line run r has small size next most told m so_far };
}

abbrev ToFifos : List Disk → List Moment → WorldState → Type 0
ToFifos start past w = IsTame past → AreToFifos start past

fifo_places : EveryPlace ToFifos
fifo_places = by_places FifoKit ToFifos (λ units ready has start past lines w h k tame. to_fifos start (hist past w) w k tame) fifo_kits

pub to_fifos_law : ToFifosLaw
to_fifos_law = record {
  after_lines = λ line run r has small size tame. fifo_places.after_lines line run r has small size (closing.before open_lists_law line run r has small size (inl tame)) tame;
  between = λ line run r has small size next most told m tame.
      fifo_places.between line run r has small size next most told m (closing.between open_lists_law line run r has small size next (more_deliveries most) (more_than_one most) told m (inl tame)) tame;
}

-- ---- the FIFO of a place
place_is_fifo : (place : ℕ) → place < 2 → is_fifo (0x12002000 + 0x20 * place) ≡ true
unfolding is_fifo
place_is_fifo zero small = refl
place_is_fifo (suc zero) small = refl
place_is_fifo (suc (suc place)) small = absurd (omega (arith, small))

pub place_open : (logins : ℕ) (is_out : Bool) (place : ℕ) → place < 2 → fifo_at logins is_out (0x12002000 + 0x20 * place) ≡ Some fifos.Place
unfolding fifo_at
place_open logins is_out zero small = refl
place_open logins is_out (suc zero) small = refl
place_open logins is_out (suc (suc place)) small = absurd (omega (arith, small))

not_shut : (host : Host) (offset place : ℕ) → place < 2 → offset ≡ 0x12002000 + 0x20 * place → IsShut host offset → ⊥
not_shut host offset place small is shut =
    let both : Some fifos.Place ≡ Some fifos.Closed = sym (place_open host.logins (is_out_seat shut.seat) place small) ∙ (ap (fifo_at host.logins (is_out_seat shut.seat)) (sym is) ∙ shut.closed) in cc

its_fifo : (offset : ℕ) → IsItsFifo offset → is_fifo offset ≡ true
its_fifo offset (of_login own) = fifo_is_fifo offset own
its_fifo offset (of_place place small is) = ap is_fifo is ∙ place_is_fifo place small

opened : (start : List Disk) (past : List Moment) (w : WorldState) → AreToFifos start past → AreLoginsOpen start past w → AreStatusesOpen start past w
opened start past w to logins op i ask access operation phase inside source manages asks = record { fifo = its_fifo access.offset goes.fifo; opens = by goes.fifo }
  where
    goes : IsToFifo start past access.offset
    goes = to op ask access operation phase manages asks

    by : IsItsFifo access.offset → IsOpenWhenIgnored past i ask access.offset
    by (of_login own) = logins op i ask access operation phase inside source manages asks own
    by (of_place place small is) = λ later earlier cause e hard shut. not_shut (host_at earlier i) access.offset place small is shut

pub given_where_logins_open_law : GivenWhereLoginsOpenLaw
given_where_logins_open_law = record {
  after_lines = λ line run r has small size tame logins. given_where_open_law.after_lines line run r has small size tame (opened _ _ (after (beginning run) run.entries).world (to_fifos_law.after_lines line run r has small size tame) logins);
  between = λ line run r has small size next most told m tame logins.
      given_where_open_law.between line run r has small size next most told m tame (opened _ _ (after_all told (begun (after (beginning run) run.entries))).world (to_fifos_law.between line run r has small size next most told m tame) logins);
}
