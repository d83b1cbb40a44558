-- As each packet is got in a run in which no initiator injected packets, an agent that has an ORB which it read ahead waits for an answer of the initiator of its place.
use Rattle.sbp_world.proofs.Words.Std.{inl, ◌≡◌, ◌∙◌, refl, sym, ap, subst, ◌<◌, ℕ, is_some, Bool, true, false, List, ◌∷◌, Option, Some, None}
use Rattle.sbp_world.proofs.Words.Wire.{Moment, asked, Sending, terms, Event}
use Rattle.sbp_world.proofs.Words.Target.{Main, Machine, is_sent, KnowsAhead, Disk, desk_at}
use Rattle.sbp_world.proofs.Words.Laws.{receiver_in, Agent, Target, agent_at, over, target_at, EachMoment}
use Rattle.sbp_world.proofs.Words.World.{ready_logins, WorldState, has_list, serial_of, IsOf, more_deliveries, AreWaitingAhead, HasAhead, WaitsAsGot, WaitsAsGotLaw, GoesAlong, OpenListsLaw, IsOpenAt, initiator_in, machine_at, IsBrought, IsTame, IsAwaited}
use Rattle.sbp_target.proofs.Histories.Calling.{not_eight}
use Rattle.sbp_target.proofs.Histories.Following.{Fits}
use Rattle.sbp_world.proofs.Agents.Management.Holding.{Holding}
use Rattle.sbp_world.proofs.Agents.Management.Still.{hist}
use Rattle.sbp_world.proofs.Agents.Purposes.{g}
use Rattle.sbp_world.proofs.Lists.AheadGots.{ahead_before}
use Rattle.sbp_world.proofs.Lists.Brought.{list}
use Rattle.sbp_world.proofs.Lists.Courses.{EveryPlace, Keeps, at_between, at_lines, more_than_one}
use Rattle.sbp_world.proofs.Lists.GotTurns.{got_turn}
use Rattle.sbp_world.proofs.Lists.Judging.{goes_next}
use Rattle.sbp_world.proofs.Lists.KeptPhases.{kept_idle, kept_sent}
use Rattle.sbp_world.proofs.Lists.ListsProved.{closing}
use Rattle.sbp_world.proofs.Lists.LiveRuns.{goes_tame}
use Rattle.sbp_world.proofs.Lists.ManageSends.{opened_terms}
use Rattle.sbp_world.proofs.Lists.OrbFolds.{over_reads}
use Rattle.sbp_world.proofs.Lists.OrbSteps.{Reads, has_read}
use Rattle.sbp_world.proofs.Lists.OrbWaits.{over_twice}
use Rattle.sbp_world.proofs.Lists.Sites.{Site, waiting}
use Rattle.sbp_world.proofs.Lists.StillRuns.{ground_everywhere}
use Rattle.sbp_world.proofs.Lists.StillTurns.{Ground, site_at, unlisted_reads}
use Rattle.sbp_world.proofs.Common.{untrue}

record IsThere (x : Option ℕ) : Type 0 where
  pub serial : ℕ
  pub is : x ≡ Some serial

there : (x : Option ℕ) → is_some x ≡ true → IsThere x
there None e = untrue e
there (Some serial) e = record { serial = serial; is = refl }

-- ---- at a place
module _ (units ready : ℕ) (has : 0 < units) (start : List Disk) {past : List Moment} {lines : ℕ} (w : WorldState) (h : Holding units ready start past lines w) (q : Ground start (hist past w) w) (tame : IsTame (hist past w)) where
  abbrev ms : List Moment
  ms = hist past w

  abbrev T : Target
  T = over (target_at start ms)

  site : Site start past w
  site = site_at start past w q

  module _ (place : ℕ) (b : place < 8) (slot : ℕ) (x : HasAhead start ms place slot) where
    abbrev m : Machine
    m = machine_at w place

    abbrev a : Agent
    a = agent_at T place

    is_of : IsOf site.agents.requests a (desk_at w.target place)
    is_of = site.agents.are.each place b

    fits : Fits (desk_at w.target place)
    fits = (g units ready has start w h).mid.fits place b (not_eight place b)

    read : Reads (IsBrought start ms place) a.machine
    read = (over_reads (IsBrought start ms) (target_at start ms) q.brought).agents place

    -- it has a list open
    is_open : (c : Bool) → has_list m.phase ≡ c → c ≡ true
    is_open true e = refl
    is_open false e = kept_idle x.orb (sym x.kept ∙ read.idle (ap has_read (is_of.machine.phase) ∙ unlisted_reads m.phase e))

    open_there : has_list m.phase ≡ true
    open_there = is_open (has_list m.phase) refl

    abbrev j : ℕ
    j = initiator_in w place

    abbrev o : IsOpenAt ms w place
    o = (q.lists (inl tame)).listed place b open_there (tame j)

    goes : GoesAlong ms j o.n m
    goes = q.along.all place b open_there (tame j) o.n o.list

    sent : is_sent m.phase ≡ true
    sent = kept_sent m.phase (list ms j o.n) goes.progress m.orb.next x.orb (subst (KnowsAhead (list ms j o.n) goes.progress m.phase m.orb.next) (sym (is_of.machine.ahead open_there) ∙ x.kept) goes.along.ahead)

    main : IsThere a.main
    main = there a.main (is_of.main ∙ (fits.main ∙ sent))

    pub ahead_waits : IsAwaited start ms j place
    ahead_waits = record { side = Main; mine = main.serial; waits = main.is; to = (waiting units ready has start w h site place b Main main.serial main.is).to }

  pub waits_here : (serial : ℕ) → AreWaitingAhead start ms serial
  waits_here serial place b slot x = record { initiator = initiator_in w place; awaited = ahead_waits place b slot x }

-- ---- as a line begins
waits_asked : (start : List Disk) (line : ℕ) (event : Event) (past : List Moment) → ((serial : ℕ) → AreWaitingAhead start past serial) → (serial : ℕ) → AreWaitingAhead start (asked line event ∷ past) serial
waits_asked start line event past e serial place b slot x =
    let y = e serial place b slot (ahead_before start line event past place slot x) in
    record {
      initiator = y.initiator;
      awaited = record {
        side = y.awaited.side;
        mine = y.awaited.mine;
        waits = subst (λ (t : Target). serial_of y.awaited.side (agent_at t place) ≡ Some y.awaited.mine) (sym (over_twice (target_at start past))) y.awaited.waits;
        to = ap (λ (f : ℕ → Option Sending). receiver_in (f y.awaited.mine)) (opened_terms event (terms past)).sent ∙ y.awaited.to;
      };
    }

-- ---- at each place of a run
abbrev WaitsSo : List Disk → List Moment → WorldState → Type 0
WaitsSo start past w = IsTame past → EachMoment (WaitsAsGot start) past

all_waits : (units ready : ℕ) → 0 < units → (start : List Disk) → Keeps units ready start (Ground start) (WaitsSo start)
all_waits units ready has start past s later t lines more g h h_now q q_now e tame =
    let before = goes_tame past s later t g tame in
    got_turn (AreWaitingAhead start) (waits_asked start) (hist past s.world) (hist later t.world) (goes_next past s later t g) (waits_here units ready has start s.world h q before) (e before)

waits_as_got : OpenListsLaw → EveryPlace WaitsSo
waits_as_got lists = record {
  after_lines = λ line run r has small size so_far.
      at_lines Ground (WaitsSo run.start.disks) (ground_everywhere lists) line run r.few has small size (all_waits run.units (ready_logins run.initiators run.ready) has run.start.disks) (λ tame. (tt, (tt, tt))) r so_far;
  between = λ line run r has small size next most told m so_far.
      at_between Ground (WaitsSo run.start.disks) (ground_everywhere lists) line run r.few has small size (all_waits run.units (ready_logins run.initiators run.ready) has run.start.disks) (λ tame. (tt, (tt, tt))) r next most told m so_far;
}

pub waits_as_got_law : OpenListsLaw → WaitsAsGotLaw
waits_as_got_law lists = record {
  after_lines = λ line run r has small size tame. (waits_as_got lists).after_lines line run r has small size (closing.before lists line run r has small size (inl tame)) tame;
  between = λ line run r has small size next most told m tame.
      (waits_as_got lists).between line run r has small size next most told m (closing.between lists line run r has small size next (more_deliveries most) (more_than_one most) told m (inl tame)) tame;
}
