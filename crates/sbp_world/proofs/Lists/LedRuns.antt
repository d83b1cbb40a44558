-- As the target gets a packet, in a run in which no initiator injected packets, or few logins were given, each agent that reads an ORB of an initiator that injected none reads the
-- one prepared last in its slot, of the latest list of this initiator; so the response brings it the ORB that the slot had then.
use Rattle.sbp_world.proofs.Words.Std.{arith, ◌≡◌, ◌∙◌, refl, sym, ap, subst, ◌<◌, ◌≤◌, ◌+◌, ℕ, suc, Bool, true, false, List, [], ◌∷◌, ◌++◌, map, length, Option, Some, Ok}
use Rattle.sbp_world.proofs.Words.Wire.{Moment, asked, said, Sending, terms, Event, Note}
use Rattle.sbp_world.proofs.Words.Target.{main_ask, Which, Ahead, Main, Machine, aligned, is_ahead, writes_status, Disk, Told}
use Rattle.sbp_world.proofs.Words.Initiator.{Ask, Read, At, command_orb, payload_of}
use Rattle.sbp_world.proofs.Words.Laws.{fifo_in, answer_in, answered_at, packet_at, receiver_in, Target, agent_at, initiator_at, is_serial, login_at, over, target_at, EachMoment}
use Rattle.sbp_world.proofs.Words.World.{AreAskedAt, HasAsked, serial_of, more_deliveries, history_of, ready_logins, Run, after, beginning, MayAll, after_all, Scene, WorldState, begun, IsRun, AreAlong, OpenListsLaw, IsCalm, OpenBefore, OpenLists, OpensLaw, AreLed, IsJustBrought, IsLedTo, LedAsGot, IsTameOrFew}
use Rattle.sbp_world.proofs.Agents.Management.Still.{hist}
use Rattle.command_agent.specs.declared.phase.Phase.TheVariants as phases
use Rattle.sbp_journal.specs.declared.note.Note.TheVariants as notes
use Rattle.sbp_world.proofs.Lists.Calm.{asked_calm}
use Rattle.sbp_world.proofs.Lists.Courses.{EveryPlace, Keeps, at_between, at_lines, more_than_one}
use Rattle.sbp_world.proofs.Lists.Gots.{Next, next, next_line, same_still}
use Rattle.sbp_world.proofs.Lists.Judging.{goes_next}
use Rattle.sbp_world.proofs.Lists.LedReads.{are_led}
use Rattle.sbp_world.proofs.Lists.LiveRuns.{goes_tame_or_few}
use Rattle.sbp_world.proofs.Lists.ManageSends.{opened_terms}
use Rattle.sbp_world.proofs.Lists.OpenProved.{opens_law, nobody_needs}
use Rattle.sbp_world.proofs.Lists.OrbFolds.{Brings}
use Rattle.sbp_world.proofs.Lists.OrbNotes.{GotBrings}
use Rattle.sbp_world.proofs.Lists.OrbReading.{under_way}
use Rattle.sbp_world.proofs.Lists.OrbWaits.{over_twice}
use Rattle.sbp_world.proofs.Lists.Quiet.{AllQuiet, IsQuiet}
use Rattle.sbp_world.proofs.Lists.RunLaws.{along_law}
use Rattle.sbp_world.proofs.Lists.RunSites.{site_after, site_between}
use Rattle.sbp_world.proofs.Lists.Runs.{KeptAfter, holds_at, kept_after}

-- ---- at each place of a run
abbrev pub Led : List Disk → List Moment → WorldState → Type 0
Led start past w = IsTameOrFew past → AreLed start past

abbrev wilds : ℕ → Bool
wilds = λ i. true

abbrev opened : (i : ℕ) → true ≡ false → OpensLaw
opened i own = opens_law

module _ (line : ℕ) (run : Run) (r : IsRun run) (has : 0 < run.units) (small : run.units ≤ 4) (size : length run.start.disks ≡ run.units) where
  abbrev last : Scene
  last = after (beginning run) run.entries

  kept : KeptAfter wilds opened line run r.few has small size run.entries last.world
  kept = kept_after wilds opened line run r.few has small size run.entries r.short r.entries r.lines (λ i f. nobody_needs (OpenBefore line run run.entries) f) (λ i f. nobody_needs (IsCalm (history_of line run) i) f)

  abbrev logins : ℕ
  logins = ready_logins run.initiators run.ready

  led_after : OpenLists (history_of line run) last.world → AreAlong (history_of line run) last.world → AreLed run.start.disks (history_of line run)
  led_after open_lists along =
      let k = kept in
      let back = sym k.is in
      subst (AreLed run.start.disks) k.is
      (are_led run.units logins has run.start.disks last.world k.holds (site_after line run r has small size k.past (length run.entries) k.holds back)
      (subst (λ ms. OpenLists ms last.world) back open_lists) (subst (λ ms. AreAlong ms last.world) back along))

  module _ (next : ℕ) (most : Option ℕ) (told : List (Option Told)) (m : MayAll told (begun last)) where
    abbrev end : WorldState
    end = (after_all told (begun last)).world

    abbrev ms : List Moment
    ms = map said end.fresh ++ asked next (more_deliveries most) ∷ history_of line run

    led_between : OpenLists ms end → AreAlong ms end → AreLed run.start.disks ms
    led_between open_lists along =
        let k = kept in
        let d = more_than_one most in
        let holds = holds_at wilds opened line run r.few has small size run.entries r.short r.entries r.lines k.past (length run.entries) k.holds k.is next (more_deliveries most) d told m in
        let is : hist (asked next (more_deliveries most) ∷ hist k.past last.world) end ≡ ms = ap (λ x. map said end.fresh ++ asked next (more_deliveries most) ∷ x) k.is in
        let back = sym is in
        subst (AreLed run.start.disks) is
        (are_led run.units logins has run.start.disks end holds (site_between line run r has small size next (more_deliveries most) d told m (asked next (more_deliveries most) ∷ hist k.past last.world) (length run.entries + 1) holds back)
        (subst (λ x. OpenLists x end) back open_lists) (subst (λ x. AreAlong x end) back along))

pub led_everywhere : OpenListsLaw → EveryPlace Led
led_everywhere lists = record {
  after_lines = λ line run r has small size so_far beside.
      led_after line run r has small size (lists.after_lines line run r has small size beside) (along_law.after_lines line run r has small size so_far);
  between = λ line run r has small size next most told m so_far beside.
      led_between line run r has small size next most told m (lists.between line run r has small size next (more_deliveries most) (more_than_one most) told m beside)
      (along_law.between line run r has small size next (more_deliveries most) (more_than_one most) told m so_far);
}

-- ---- as a packet is got
pub led_asked : (start : List Disk) (line : ℕ) (event : Event) (past : List Moment) → AreLed start past → AreLed start (asked line event ∷ past)
led_asked start line event past a =
    let e : (terms (asked line event ∷ past)).sent ≡ (terms past).sent = (opened_terms event (terms past)).sent in
    let to_is = λ (serial i : ℕ) (to : receiver_in ((terms (asked line event ∷ past)).sent serial) ≡ Some (suc i)). ap (λ (f : ℕ → Option Sending). receiver_in (f serial)) (sym e) ∙ to in
    record {
      main = λ place b serial i to calm.
          subst (λ (t : Target). (agent_at t place).main ≡ Some serial → (agent_at t place).machine.phase ≡ phases.Fetching → IsLedTo (asked line event ∷ past) i (agent_at t place).machine.present) (sym (over_twice (target_at start past)))
          (λ f p. as_asked i _ (a.main place b serial i (to_is serial i to) (asked_calm line event past i calm) f p));
      ahead = λ place b serial i offset to calm.
          subst (λ (t : Target). (agent_at t place).ahead ≡ Some serial → is_ahead (agent_at t place).machine.ahead ≡ true → (agent_at t place).machine.orb.next ≡ At offset → IsLedTo (asked line event ∷ past) i (aligned offset)) (sym (over_twice (target_at start past)))
          (λ f g n. as_asked i _ (a.ahead place b serial i offset (to_is serial i to) (asked_calm line event past i calm) f g n));
    }
  where
    as_asked : (i address : ℕ) → IsLedTo past i address → IsLedTo (asked line event ∷ past) i address
    as_asked i address l = record { n = l.n; k = l.k; slot = l.slot; small = l.small; stands = l.stands; there = l.there; latest = l.latest; at = l.at; after = l.after; before = l.before }

module _ (start : List Disk) where
  led_note : (note : Note) (past : List Moment) → AreLed start past → LedAsGot start (said note) past
  led_note (notes.Got serial) past a = a
  led_note note past a = tt

  led_moment : (moment : Moment) (past : List Moment) → AreLed start past → LedAsGot start moment past
  led_moment (asked line event) past a = tt
  led_moment (said note) past a = led_note note past a

  led_quiet : (note : Note) (past : List Moment) → IsQuiet note → LedAsGot start (said note) past
  led_quiet (notes.Got serial) past q = absurd q
  led_quiet note past q = tt

  led_more : (front : List Note) (past : List Moment) → AllQuiet front → EachMoment (LedAsGot start) past → EachMoment (LedAsGot start) (map said front ++ past)
  led_more [] past q g = g
  led_more (note ∷ front) past q g = (led_quiet note (map said front ++ past) q.0, led_more front past q.1 g)

  led_turn : (before now : List Moment) → Next before now → AreLed start before → EachMoment (LedAsGot start) before → EachMoment (LedAsGot start) now
  led_turn before now (same_still e) a g = subst (EachMoment (LedAsGot start)) (sym e) g
  led_turn before now (next front q moment is) a g = subst (EachMoment (LedAsGot start)) is (led_more front (moment ∷ before) q (led_moment moment before a, g))
  led_turn before now (next_line front q note line event is) a g =
      subst (EachMoment (LedAsGot start)) is
      (led_more front (said note ∷ asked line event ∷ before) q (led_note note (asked line event ∷ before) (led_asked start line event before a), (tt, g)))

abbrev pub LedSo : List Disk → List Moment → WorldState → Type 0
LedSo start past w = IsTameOrFew past → EachMoment (LedAsGot start) past

all_led : (units ready : ℕ) (start : List Disk) → Keeps units ready start (Led start) (LedSo start)
all_led units ready start past s later t lines more g h h_now a a_now e beside =
    let before = goes_tame_or_few past s later t g beside in
    led_turn start (hist past s.world) (hist later t.world) (goes_next past s later t g) (a before) (e before)

pub led_as_got : OpenListsLaw → EveryPlace LedSo
led_as_got lists = record {
  after_lines = λ line run r has small size so_far.
      at_lines Led (LedSo run.start.disks) (led_everywhere lists) line run r.few has small size (all_led run.units (ready_logins run.initiators run.ready) run.start.disks) (λ beside. (tt, (tt, tt))) r so_far;
  between = λ line run r has small size next most told m so_far.
      at_between Led (LedSo run.start.disks) (led_everywhere lists) line run r.few has small size (all_led run.units (ready_logins run.initiators run.ready) run.start.disks) (λ beside. (tt, (tt, tt))) r next most told m so_far;
}

-- ---- so a response brings the ORB that the slot had then
module _ (start : List Disk) (past : List Moment) (serial : ℕ) (waits : AreAskedAt start past) (led : AreLed start past) (by_target : is_serial (receiver_in ((terms past).sent serial)) 0 ≡ true) where
  abbrev t : Target
  t = over (target_at start past)

  module _ (own : ℕ) (closed : answered_at (terms past) serial ≡ Some own) (place : ℕ) (which : Which) (few : place < 8) (waited : serial_of which (agent_at t place) ≡ Some own) where
    abbrev m : Machine
    m = (agent_at t place).machine

    abbrev i : ℕ
    i = initiator_at t (terms past) place

    abbrev Asks : Ask → Bool → Type 0
    Asks ask is_status = HasAsked (terms past) i (fifo_in (login_at t place)) own ask is_status

    to_own : {ask : Ask} {is_status : Bool} → Asks ask is_status → receiver_in ((terms past).sent own) ≡ Some (suc i)
    to_own asks = asks.to ∙ (let e : i + 1 ≡ suc i = omega arith in ap (λ j. Some j) e)

    made : (address : ℕ) (bytes : List ℕ) → payload_of (answer_in (packet_at (terms past) serial)) 32 ≡ Ok bytes → Asks (Read address 32) false → (receiver_in ((terms past).sent own) ≡ Some (suc i) → IsCalm past i → IsLedTo past i address) → IsJustBrought start past serial place address (command_orb bytes)
    made address bytes e asks l = record {
      from = record {
        brought = record {
          response = serial;
          request = own;
          later = [];
          earlier = past;
          is = refl;
          by_target = by_target;
          closed = closed;
          bytes = bytes;
          brings = e;
          spells = refl;
          which = which;
          waited = waited;
          asked = asks;
        };
        i = i;
        to = to_own asks;
        led = l (to_own asks);
      };
      now = refl;
    }

    main_is : which ≡ Main → (agent_at t place).main ≡ Some own
    main_is w = ap (λ (q : Which). serial_of q (agent_at t place)) (sym w) ∙ waited

    ahead_is : which ≡ Ahead → (agent_at t place).ahead ≡ Some own
    ahead_is w = ap (λ (q : Which). serial_of q (agent_at t place)) (sym w) ∙ waited

    main_asks : which ≡ Main → m.phase ≡ phases.Fetching → Asks (Read m.present 32) false
    main_asks w p =
        let x = (waits.all place few).main own (main_is w) in
        subst (λ (q : Bool). Asks (Read m.present 32) q) (ap writes_status p) (subst (λ ask. Asks ask (writes_status m.phase)) (ap (λ phase. main_ask phase m) p) x)

    ahead_asks : which ≡ Ahead → is_ahead m.ahead ≡ true → (offset : ℕ) → m.orb.next ≡ At offset → Asks (Read (aligned offset) 32) false
    ahead_asks w a offset n = subst (λ ask. Asks ask false) (under_way m.ahead m.orb.next offset a n) ((waits.all place few).ahead own (ahead_is w))

    pub just : Brings (IsJustBrought start past serial) m (record { place = place; which = which; answer = answer_in (packet_at (terms past) serial) })
    just = record {
      main = λ w p bytes e. made m.present bytes e (main_asks w p) (λ to calm. led.main place few own i to calm (main_is w) p);
      ahead = λ w a offset n bytes e. made (aligned offset) bytes e (ahead_asks w a offset n) (λ to calm. led.ahead place few own i offset to calm (ahead_is w) a n);
    }

  pub got_just : GotBrings (IsJustBrought start past serial) (terms past) serial t
  got_just own closed place which purpose = let x = waits.handed own place which purpose in just own closed place which x.0 x.1
