-- As the target gets a packet, in a run in which no initiator injected packets, or few logins were given, the list was open of which each agent reads of an initiator that injected none, as the read was sent.
use Rattle.sbp_world.proofs.Words.Std.{◌≡◌, ◌∙◌, sym, ap, subst, ◌<◌, ℕ, suc, List, [], ◌∷◌, Option, Some}
use Rattle.sbp_world.proofs.Words.Wire.{Moment, asked, Sending, terms, Event}
use Rattle.sbp_world.proofs.Words.Target.{Disk}
use Rattle.sbp_world.proofs.Words.Laws.{access_in, packet_in, receiver_in, Target, agent_at, target_at, EachMoment}
use Rattle.sbp_world.proofs.Words.World.{serial_of, moments_behind, ready_logins, Run, beginning, WorldState, OpenListsLaw, AreApart, OneUpLaw, IsTameOrFew, AreTaken, more_deliveries}
use Rattle.sbp_world.proofs.Agents.Management.Still.{hist}
use Rattle.sbp_world.proofs.Lists.Calm.{asked_calm}
use Rattle.sbp_world.proofs.Lists.AsGot.{AsGot, got_turn}
use Rattle.sbp_world.proofs.Lists.Courses.{EveryPlace, Keeps, at_between, at_lines, more_than_one}
use Rattle.sbp_world.proofs.Lists.Judging.{goes_next}
use Rattle.sbp_world.proofs.Lists.LiveRuns.{goes_tame_or_few}
use Rattle.sbp_world.proofs.Lists.ManageSends.{opened_terms}
use Rattle.sbp_world.proofs.Lists.ManageTerms.{none_is}
use Rattle.sbp_world.proofs.Lists.OpenSends.{AreOpenReads, turn_open}
use Rattle.sbp_world.proofs.Lists.OrbWaits.{over_twice}
use Rattle.sbp_world.proofs.Lists.OpenProved.{taken_lists_law}
use Rattle.sbp_world.proofs.Lists.StillRuns.{ground_everywhere}
use Rattle.sbp_world.proofs.Lists.StillTurns.{Ground}

-- what is known of a place
record Known (start : List Disk) (past : List Moment) (w : WorldState) : Type 0 where
  ground : Ground start past w
  taken : AreTaken start past w
  apart : IsTameOrFew past → AreApart past w

known_everywhere : OpenListsLaw → OneUpLaw → EveryPlace Known
known_everywhere lists up = record {
  after_lines = λ line run r has small size so_far. record {
    ground = (ground_everywhere lists).after_lines line run r has small size so_far;
    taken = taken_lists_law.after_lines line run r has small size;
    apart = λ beside. up.after_lines line run r has small size beside;
  };
  between = λ line run r has small size next most told m so_far. record {
    ground = (ground_everywhere lists).between line run r has small size next most told m so_far;
    taken = taken_lists_law.between line run r has small size next (more_deliveries most) (more_than_one most) told m;
    apart = λ beside. up.between line run r has small size next most told m beside;
  };
}

-- ---- at each place
abbrev pub OpenSo : List Disk → List Moment → WorldState → Type 0
OpenSo start past w = IsTameOrFew past → AreOpenReads start past

all_open : (units ready : ℕ) → 0 < units → (start : List Disk) → Keeps units ready start (Known start) (OpenSo start)
all_open units ready has start past s later t lines more g h h_now k k_now so_far beside =
    turn_open units ready has start past s later t g h h_now k.ground k_now.ground beside k_now.taken (k_now.apart beside) (so_far (goes_tame_or_few past s later t g beside))

-- no packet was sent as a run begins
first_open : (start : List Disk) (line : ℕ) (run : Run) → OpenSo start (moments_behind line run []) (beginning run).world
first_open start line run beside place b which serial i r = none_is (suc i) r.to

open_everywhere : OpenListsLaw → OneUpLaw → EveryPlace OpenSo
open_everywhere lists up = record {
  after_lines = λ line run r has small size so_far.
      at_lines Known (OpenSo run.start.disks) (known_everywhere lists up) line run r.few has small size (all_open run.units (ready_logins run.initiators run.ready) has run.start.disks) (first_open run.start.disks line run) r so_far;
  between = λ line run r has small size next most told m so_far.
      at_between Known (OpenSo run.start.disks) (known_everywhere lists up) line run r.few has small size (all_open run.units (ready_logins run.initiators run.ready) has run.start.disks) (first_open run.start.disks line run) r next most told m so_far;
}

-- ---- as a packet is got
open_asked : (start : List Disk) (line : ℕ) (event : Event) (past : List Moment) → AreOpenReads start past → AreOpenReads start (asked line event ∷ past)
open_asked start line event past a place b which serial i r =
    let e : (terms (asked line event ∷ past)).sent ≡ (terms past).sent = (opened_terms event (terms past)).sent in
    let x = a place b which serial i (record {
      waits = subst (λ (t : Target). serial_of which (agent_at t place) ≡ Some serial) (over_twice (target_at start past)) r.waits;
      to = ap (λ (f : ℕ → Option Sending). receiver_in (f serial)) (sym e) ∙ r.to;
      calm = asked_calm line event past i r.calm;
      access = r.access;
      is = ap (λ (f : ℕ → Option Sending). access_in (packet_in (f serial))) (sym e) ∙ r.is;
      reads = r.reads;
    }) in
    record { n = x.n; opened = x.opened; latest = x.latest }

abbrev pub OpenAsGot : List Disk → List Moment → Type 0
OpenAsGot start past = EachMoment (AsGot (AreOpenReads start)) past

abbrev pub GotSo : List Disk → List Moment → WorldState → Type 0
GotSo start past w = IsTameOrFew past → OpenAsGot start past

all_got : (units ready : ℕ) (start : List Disk) → Keeps units ready start (OpenSo start) (GotSo start)
all_got units ready start past s later t lines more g h h_now a a_now e beside =
    let before = goes_tame_or_few past s later t g beside in
    got_turn (AreOpenReads start) (open_asked start) (hist past s.world) (hist later t.world) (goes_next past s later t g) (a before) (e before)

pub open_as_got : OpenListsLaw → OneUpLaw → EveryPlace GotSo
open_as_got lists up = record {
  after_lines = λ line run r has small size so_far.
      at_lines OpenSo (GotSo run.start.disks) (open_everywhere lists up) line run r.few has small size (all_got run.units (ready_logins run.initiators run.ready) run.start.disks) (λ beside. (tt, (tt, tt))) r so_far;
  between = λ line run r has small size next most told m so_far.
      at_between OpenSo (GotSo run.start.disks) (open_everywhere lists up) line run r.few has small size (all_got run.units (ready_logins run.initiators run.ready) run.start.disks) (λ beside. (tt, (tt, tt))) r next most told m so_far;
}
