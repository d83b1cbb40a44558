-- In every run in which no initiator injected packets, or few logins were given: each request of the target that is under way, for the page table or the buffer of a slot of an initiator that injected none, is the main transaction of
-- an agent, or an ORB had the slot whose list was cut. So what answers a request of nobody begins elsewhere than in the slot of an ORB of a list that is open.
use Rattle.sbp_world.proofs.Words.Std.{arith, ◌≡◌, refl, subst, inl, ◌⊎◌, ◌<◌, ◌≤◌, ℕ, nat_lt, Bool, true, false, List, [], length, nat_tests}
use Rattle.sbp_world.proofs.Words.Wire.{Moment, terms}
use Rattle.sbp_world.proofs.Words.Target.{Disk}
use Rattle.sbp_world.proofs.Words.World.{moments_behind, Run, beginning, Scene, WorldState, more_deliveries, Always, OpenListsLaw, UnderFrom, WhereTameOrFew, AreForOrbs, CutOffLaw, IsInSlot, IsMainAt, WasCutOff, IsTameOrFew, NobodyAsGotLaw}
use Rattle.sbp_world.proofs.Agents.Management.Still.{hist}
use Rattle.sbp_world.proofs.Lists.Beside.{tame_or_few_before}
use Rattle.sbp_world.proofs.Lists.Courses.{more_than_one}
use Rattle.sbp_world.proofs.Lists.CutOffSteps.{TurnFacts, old_goes}
use Rattle.sbp_world.proofs.Lists.DataLaws.{dry_by, untaken_by}
use Rattle.sbp_world.proofs.Lists.DataPlaces.{AllOfficeDry}
use Rattle.sbp_world.proofs.Lists.Gots.{turn_next}
use Rattle.sbp_world.proofs.Sessions.Runs.{joined_law}
use Rattle.sbp_world.proofs.Lists.Judging.{counts_at}
use Rattle.sbp_world.proofs.Lists.LiveGiven.{ShortLaw}
use Rattle.sbp_world.proofs.Lists.MainSlotsRuns.{main_slots_law}
use Rattle.sbp_world.proofs.Lists.ManagedGots as managed
use Rattle.sbp_world.proofs.Lists.ManageTerms.{none_is}
use Rattle.sbp_world.proofs.Lists.NobodyRuns.{nobody_as_got_law}
use Rattle.sbp_world.proofs.Lists.OpenedKnown as opened_known
use Rattle.sbp_world.proofs.Lists.SentInTurn.{new_main}
use Rattle.sbp_world.proofs.Lists.SentOwned.{owned_here}
use Rattle.sbp_world.proofs.Lists.StatusProved.{ground_law}
use Rattle.sbp_world.proofs.Lists.StatusRested.{Grounds, grounds_law}
use Rattle.sbp_world.proofs.Lists.StatusRuns.{rises_of}
use Rattle.sbp_world.proofs.Lists.StillRuns.{ground_everywhere}
use Rattle.sbp_world.proofs.Lists.StillTurns.{Ground}
use Rattle.sbp_world.proofs.Lists.TameWalks.{from_after, from_between}
use Rattle.sbp_world.proofs.Lists.TurnCuts.{turn_ends_stay, turn_is_cut}
use Rattle.sbp_world.proofs.Lists.TurnWalk.{turn_from}
use Rattle.sbp_world.proofs.Lists.Walks.{Step, Walks}

-- ---- what is known of each place
record Kit (start : List Disk) (past : List Moment) (w : WorldState) : Type 0 where
  beside : IsTameOrFew past
  for_orbs : AreForOrbs start past w
  dry : AllOfficeDry past w
  still : Ground start past w
  office : managed.Kit start past w

abbrev P : List Disk → (ℕ → Bool) → List Moment → WorldState → Type 0
P start wild past w = (i slot serial : ℕ) → i < length w.initiators → wild i ≡ false → IsInSlot past i slot serial → IsMainAt start past serial ⊎ WasCutOff past i slot

module _ (wild : ℕ → Bool) (units ready : ℕ) (has : 0 < units) (start : List Disk) (past : List Moment) (s : Scene) (later : List Moment) (t : Scene) (step : Step wild units ready start Grounds (Kit start) past s later t) where
  abbrev before : List Moment
  before = hist past s.world

  abbrev now : List Moment
  now = hist later t.world

  module _ (i : ℕ) (own : wild i ≡ false) (inside : i < length t.world.initiators) where
    kit : Kit start before s.world
    kit = step.so_far i own

    kit_now : Kit start now t.world
    kit_now = step.so_far_then i own

    inside_then : i < length s.world.initiators
    inside_then = subst (λ n. i < n) step.count inside

    -- a request that was sent before
    facts : TurnFacts wild start past s.world later t.world
    facts = record {
      next = turn_next past s later t step.turn;
      stands = step.stands.reached.holds.sound.stands;
      counts = counts_at s.world step.stands.reached.holds.sound.stands;
      counts_now = counts_at t.world step.reaches.holds.sound.stands;
      passes = step.reaches.kept.passes;
      rises = rises_of later t.world step.reaches.holds.sound.stands now refl;
      phases_then = λ p b. (step.stands.reached.site.agents.are.each p b).machine.phase;
      phases_now = λ p b. (step.reaches.site.agents.are.each p b).machine.phase;
      for_orbs = λ place j slot serial b l quiet waits x. kit.for_orbs place j slot serial b l (step.stands.reached.calm j quiet) waits x;
      cuts = λ p list b list_is up over. turn_is_cut wild units ready has start Grounds (Kit start) past s later t step step.known.numbers p up over list list_is;
      ends_stay = λ p list b list_is up over. turn_ends_stay wild units ready has start Grounds (Kit start) past s later t step step.known.numbers p up over _ list;
    }

    -- one that is sent in the turn
    sent_now : (slot serial : ℕ) → IsInSlot now i slot serial → (terms before).count < serial → IsMainAt start now serial
    sent_now slot serial x young =
        let calm_then = step.stands.reached.calm i own in
        let calm = step.reaches.calm i own in
        new_main units ready has start wild past s.world later t.world step.reaches.holds facts.counts (turn_from wild units ready has start Grounds (Kit start) past s later t step step.known.numbers)
        (λ Fifo fifos call. owned_here s.world step.stands.reached.holds has Fifo fifos call) i slot serial (kit.dry i inside_then calm_then).0
        (record {
          site = step.reaches.site;
          open_lists = kit_now.still.lists kit_now.beside;
          along = kit_now.still.along;
          ground = kit_now.office.ground;
          shorts = kit_now.office.shorts;
          office = kit_now.office.office;
          based = kit_now.office.based kit_now.beside i inside calm;
          calm = calm;
          inside = inside;
        })
        x young

    off_now : P start wild before s.world → (slot serial : ℕ) → IsInSlot now i slot serial → IsMainAt start now serial ⊎ WasCutOff now i slot
    off_now p slot serial x = by (nat_lt (terms before).count serial) refl
      where
        by : (young : Bool) → nat_lt (terms before).count serial ≡ young → IsMainAt start now serial ⊎ WasCutOff now i slot
        by true e = inl (sent_now slot serial x (let z : (terms before).count < serial = grind (arith, nat_tests, e) in z))
        by false e =
            old_goes wild start past s.world later t.world facts i slot serial own inside_then x (let z : serial ≤ (terms before).count = grind (arith, nat_tests, e) in z)
            (λ y. p i slot serial inside_then own y)

walk : (wild : ℕ → Bool) (units ready : ℕ) → 0 < units → (start : List Disk) → Walks wild units ready start Grounds (Kit start) (P start wild)
walk wild units ready has start past s later t step p i slot serial inside own x = off_now wild units ready has start past s later t step i own inside p slot serial x

first : (wild : ℕ → Bool) (line : ℕ) (run : Run) → P run.start.disks wild (moments_behind line run []) (beginning run).world
first wild line run i slot serial inside own x = none_is 0 x.from

-- ---- each place of a run
module _ (short : ShortLaw) (lists : OpenListsLaw) where
  grounds : Always Grounds
  grounds = grounds_law (ground_law opened_known.laws.pointers opened_known.laws.begun) joined_law

  known : UnderFrom (λ start. WhereTameOrFew (Kit start))
  known =
      let slots = main_slots_law short lists in
      let dry = dry_by short in
      let still = ground_everywhere lists in
      let office = managed.kit_everywhere short in
      record {
        after_lines = λ line run r has small size so_far beside. record {
          beside = beside;
          for_orbs = slots.after_lines line run r has small size so_far beside;
          dry = dry.after_lines line run r has small size so_far beside;
          still = still.after_lines line run r has small size so_far;
          office = office.after_lines line run r has small size so_far;
        };
        between = λ line run r has small size next most told m so_far beside. record {
          beside = beside;
          for_orbs = slots.between line run r has small size next most told m so_far beside;
          dry = dry.between line run r has small size next most told m so_far beside;
          still = still.between line run r has small size next most told m so_far;
          office = office.between line run r has small size next most told m so_far;
        };
      }

  pub cut_off_law : CutOffLaw
  cut_off_law = record {
    after_lines = λ line run r has small size so_far beside i slot serial inside calm x.
        from_after IsTameOrFew tame_or_few_before Grounds Kit P grounds known walk first line run r has small size so_far beside i slot serial inside calm x;
    between = λ line run r has small size next most told m so_far beside i slot serial inside calm x.
        from_between IsTameOrFew tame_or_few_before Grounds Kit P grounds known walk first line run r has small size next (more_deliveries most) (more_than_one most) told m so_far beside i slot serial inside calm x;
  }

  pub nobody_law : NobodyAsGotLaw
  nobody_law = nobody_as_got_law lists grounds (untaken_by short) cut_off_law
