-- At each place of every run in which nobody injected packets, the response to the status block of the management operation is whole too, where the FIFO that it goes to is open.
use Rattle.sbp_world.proofs.Words.Std.{◌≡◌, ◌∙◌, sym, ap, subst, inl, ◌<◌, ◌&&◌, ℕ, suc, true, List, length, Some}
use Rattle.sbp_world.proofs.Words.Wire.{Access, Moment, said, terms}
use Rattle.sbp_world.proofs.Words.Target.{Disk, Operation, status_block}
use Rattle.sbp_world.proofs.Words.Initiator.{is_fifo, status_in}
use Rattle.sbp_world.proofs.Words.Laws.{access_at, access_in, id_for, packet_in, target_at}
use Rattle.sbp_world.proofs.Words.World.{AccessOf, IsInAPlace, IsTame, WorldState, more_deliveries, write_access}
use Rattle.mgmt_agent.specs.declared.operation.Phase.TheVariants as phases
use Rattle.sbp_initiator.specs.Histories.Judging.{is_read}
use Rattle.sbp_journal.specs.declared.note.Note.TheVariants as notes
use Rattle.sbp_laws.specs.Served.{is_fifo_write}
use Rattle.sbp_world.specs.Completing.Managed.{AreManagedGiven, AreStatusesOpen, GivenWhereOpenLaw, IsOpenFor}
use Rattle.sbp_world.specs.Completing.ManagedRefusals.{AllHard, HardSo}
use Rattle.sbp_world.proofs.Agents.Management.Holding.{Holding}
use Rattle.sbp_world.proofs.Agents.Management.Still.{hist}
use Rattle.sbp_world.proofs.Completing.AnswersMemory.{fifo_complete}
use Rattle.sbp_world.proofs.Completing.AnswersRuns.{by_places}
use Rattle.sbp_world.proofs.Completing.ManagedPlaces.{IsTakenWrite, ignored_sent}
use Rattle.sbp_world.proofs.Completing.ManagedRefusals.{refusals_law}
use Rattle.sbp_world.proofs.Completing.ManagedReplies.{IsTakenAt}
use Rattle.sbp_world.proofs.Completing.AnswersGots.{IsPacket}
use Rattle.sbp_world.proofs.Completing.ManagedRuns as runs
use Rattle.sbp_world.proofs.Completing.ManagedRuns.{AreStatusesTaken, RunKit, given_here, kits}
use Rattle.sbp_world.proofs.Hosts.Owing.{IsAsking, asking}
use Rattle.sbp_world.proofs.Lists.Clauses.{open_lists_law}
use Rattle.sbp_world.proofs.Lists.Courses.{EveryPlace, more_than_one}
use Rattle.sbp_world.proofs.Lists.KeptTurns.{id_is}
use Rattle.sbp_world.proofs.Lists.ListsProved.{closing}
use Rattle.sbp_world.proofs.Lists.LiveBlocks.{reads_back}
use Rattle.sbp_world.proofs.Lists.OfficeWrites.{op_placed}
use Rattle.sbp_world.proofs.Lists.OrbsRead.{in_phase}
use Rattle.sbp_world.proofs.Lists.StatusLogins.{each_there}

fifo_write : (access : Access) → access.is_write ≡ true → access.is_block ≡ true → is_fifo access.offset ≡ true → is_fifo_write access ≡ true
fifo_write access w b f = ap (λ x. x && access.is_block && is_fifo access.offset) w ∙ (ap (λ x. true && x && is_fifo access.offset) b ∙ f)

record StatusKit (start : List Disk) (past : List Moment) (w : WorldState) : Type 0 where
  run : RunKit start past w
  hard : (i : ℕ) → i < length w.initiators → AllHard past i

module _ (units ready : ℕ) (has : 0 < units) (start : List Disk) {past : List Moment} {lines : ℕ} (w : WorldState) (h : Holding units ready start past lines w) (k : StatusKit start (hist past w) w) (tame : IsTame (hist past w)) (open_so : AreStatusesOpen start (hist past w) w) where
  abbrev ms : List Moment
  ms = hist past w

  module _ (op : Operation) (i ask : ℕ) (access : Access) (operation : (target_at start ms).manager.operation ≡ Some op) (phase : op.phase ≡ phases.Status) (inside : i < length w.initiators) (source : op.source ≡ id_for (terms ms) 0 (suc i)) (manages : (target_at start ms).manages ≡ Some ask) (asks : access_at (terms ms) ask ≡ Some access) where
    abbrev q : IsPacket ((terms ms).sent ask)
    q = runs.packet units ready has start w h k.run tame op i ask access operation inside source manages asks

    opened : IsOpenFor ms i ask access.offset
    opened = open_so op i ask access operation phase inside source manages asks

    -- what is written
    content : AccessOf phases.Status op access
    content =
        subst (AccessOf phases.Status op) (runs.access_is units ready has start w h k.run tame op i ask access operation inside source manages asks)
        (in_phase op.phase phases.Status op _ phase (runs.was units ready has start w h k.run tame op i ask access operation inside source manages asks).content)

    placed : IsInAPlace op
    placed =
        let m = k.run.kit.managed in
        op_placed units ready has start w h m.ground i inside op operation (source ∙ id_is units ready has start w h i inside) (tame i) m.shorts (m.based (inl tame) i inside (tame i))

    block_is : access ≡ write_access content.1.0 (status_block op.orb content.0)
    block_is = content.1.1

    readable : is_read (status_in access.payload) ≡ true
    readable =
        ap (λ (x : Access). is_read (status_in x.payload)) block_is
        ∙ (ap (λ n. is_read (status_in (status_block n content.0))) placed.orb ∙ ap is_read (reads_back placed.place placed.small content.0))

    refused : IsTakenAt ms ask
    refused later earlier cause e hard =
        let a = q.packet in
        let spells : IsAsking a access = asking a access (ap (λ x. access_in (packet_in x)) (sym q.is) ∙ asks) in
        let all : AllHard ms i = k.hard i inside in
        let so : HardSo i (said (notes.Ignored ask cause)) earlier = each_there (HardSo i) later (said (notes.Ignored ask cause)) earlier (subst (λ x. AllHard x i) (sym e) all) in
        let there = ignored_sent ms (runs.known units ready has start w h k.run tame) (k.run.kit.stood i inside).wire.laws.serials later earlier ask cause e a q.is in
        opened.opens later earlier cause e hard
        (so hard a there
        (runs.to units ready has start w h k.run tame op i ask access operation inside source manages asks)
        (runs.from units ready has start w h k.run tame op i ask access operation inside source manages asks)
        (runs.unforged units ready has start w h k.run tame op i ask access operation inside source manages asks)
        spells.spells spells.read access spells.asks readable)

    status_taken : IsTakenWrite ms i ask access
    status_taken = record {
      lock = ap (λ (x : Access). x.is_lock) block_is;
      complete = λ before. (fifo_complete before i access (fifo_write access (ap (λ (x : Access). x.is_write) block_is) (ap (λ (x : Access). x.is_block) block_is) opened.fifo) (ap (λ (x : Access). x.is_write) block_is)).rcode;
      taken = refused;
    }

  statuses_taken : AreStatusesTaken start ms w
  statuses_taken op i ask access operation phase inside source manages asks = status_taken op i ask access operation phase inside source manages asks

  open_given : AreManagedGiven w
  open_given = given_here units ready has start w h k.run tame statuses_taken

-- ---- at each place of a run
status_kits : EveryPlace StatusKit
status_kits = record {
  after_lines = λ line run r has small size so_far. record { run = kits.after_lines line run r has small size so_far; hard = refusals_law.after_lines line run r has small size };
  between = λ line run r has small size next most told m so_far. record { run = kits.between line run r has small size next most told m so_far; hard = refusals_law.between line run r has small size next most told m };
}

abbrev Given : List Disk → List Moment → WorldState → Type 0
Given start past w = IsTame past → AreStatusesOpen start past w → AreManagedGiven w

open_places : EveryPlace Given
open_places = by_places StatusKit Given (λ units ready has start past lines w h k tame opens. open_given units ready has start w h k tame opens) status_kits

pub given_where_open_law : GivenWhereOpenLaw
given_where_open_law = record {
  after_lines = λ line run r has small size tame. open_places.after_lines line run r has small size (closing.before open_lists_law line run r has small size (inl tame)) tame;
  between = λ line run r has small size next most told m tame.
      open_places.between line run r has small size next most told m (closing.between open_lists_law line run r has small size next (more_deliveries most) (more_than_one most) told m (inl tame)) tame;
}
