-- In every run in which no initiator injected packets, or few logins were given: what an agent waits for is answered complete, at each place of the run, and as it is got.
use Rattle.sbp_world.proofs.Words.Std.{arith, ◌≡◌, ◌∙◌, refl, sym, ap, subst, ◌<◌, ◌≤◌, ◌+◌, ℕ, zero, suc, Bool, true, false, cond, List, [], ◌∷◌, ◌++◌, map, length, Option, Some, None, same_Some, slice_index_or}
use Rattle.sbp_world.proofs.Words.Wire.{Access, Event, Moment, Note, SerialsCount, asked, said, Sending, Terms, terms}
use Rattle.sbp_world.proofs.Words.Target.{Desk, Disk, Told, new_desk, plain_in, answer_in}
use Rattle.sbp_world.proofs.Words.Initiator.{Window, is_fifo, window_at}
use Rattle.sbp_world.proofs.Words.Laws.{EachMoment, Target, access_in, agent_at, has_direction, injectors, lies_inside, packet_in, receiver_in, rom_size, sender_in, target_at}
use Rattle.sbp_world.proofs.Words.World.{AskedAsGot, AtGot, IsReadBy, NoneInjected, Office, Remains, Stands, history_of, moments_behind, ready_logins, new_world, Run, after, beginning, MayAll, after_all, Scene, WorldState, begun, IsRun, initiator_at, machine_at, more_deliveries, serial_of, Always, Under, UnderFrom, WhereTameOrFew, IsTameOrFew, IsCalm, OpenBefore, OpensLaw}
use Rattle.bus_memory.specs.declared.window.Window.TheVariants as windows
use Rattle.std.specs.Prelude.{replicate, ◌==◌}
use Rattle.sbp_laws.specs.Served.{is_fifo_write, window_gives}
use Rattle.sbp_world.specs.Completing.Answers.{AreComplete, ManagedCompleteAsGot, ManagedCompleteLaw, OperationReads, OrbWholeAsGot, OrbWholeAsGotLaw, CompleteAsGot, CompleteAsGotLaw, CompleteLaw, IsComplete, IsCompleteAsGot, WholeAsGot, WholeAsGotLaw}
use Rattle.sbp_journal.specs.declared.note.Note.TheVariants as notes
use Rattle.sbp_world.proofs.Agents.Management.Holding.{Holding, past_terms}
use Rattle.sbp_world.proofs.Agents.Management.Offices.{over_keeps}
use Rattle.sbp_world.proofs.Agents.Management.Still.{hist}
use Rattle.sbp_world.proofs.Common.{delivers, moment_joined, none_is}
use Rattle.sbp_world.proofs.Completing.AnswersAgents.{Kit, are_complete}
use Rattle.sbp_world.proofs.Completing.AnswersGots.{ClosesBlock, asked_before, brings_all, brings_whole}
use Rattle.sbp_world.proofs.Completing.AnswersOperation.{IsManagedSo, managed_so, orb_rcode}
use Rattle.sbp_world.proofs.Completing.AnswersReading.{IsReading, reading_closed, reply_reads}
use Rattle.sbp_world.proofs.Hosts.Carrying.{Stood, carries_law, stood, stood_between}
use Rattle.sbp_world.proofs.Hosts.MemoryReads.{memory_law}
use Rattle.sbp_world.proofs.Hosts.Remaining.{remains}
use Rattle.sbp_world.proofs.Hosts.ResponseTells.{code}
use Rattle.sbp_world.proofs.Hosts.Runs.{count_after, count_between}
use Rattle.sbp_world.proofs.Hosts.SentMoments.{sent_below, serials_from}
use Rattle.sbp_world.proofs.Lists.AnswerWayRuns.{ways_law}
use Rattle.sbp_world.proofs.Lists.Beside.{tame_or_few_before}
use Rattle.sbp_world.proofs.Lists.Clauses.{open_lists_law}
use Rattle.sbp_world.proofs.Lists.Courses.{EveryPlace, more_than_one}
use Rattle.sbp_world.proofs.Lists.DataWhole.{whole_law}
use Rattle.sbp_world.proofs.Lists.Fair.{Told as AllTold, told_everywhere}
use Rattle.sbp_world.proofs.Lists.GotTurns.{got_turn}
use Rattle.sbp_world.proofs.Lists.Gots.{turn_next}
use Rattle.sbp_world.proofs.Lists.ListsProved.{closing}
use Rattle.sbp_world.proofs.Lists.LiveShort.{here_beside, placed_beside}
use Rattle.sbp_world.proofs.Lists.MachineTurns.{turn_full}
use Rattle.sbp_world.proofs.Lists.MainSlotsRuns.{kit_everywhere}
use Rattle.sbp_world.proofs.Lists.ManagedGots as managed_gots
use Rattle.sbp_world.proofs.Lists.ManageSends.{opened_terms}
use Rattle.sbp_world.proofs.Lists.OpenProved.{opens_law, nobody_needs}
use Rattle.sbp_world.proofs.Lists.OpenedKnown as opened_known
use Rattle.sbp_world.proofs.Lists.OrbWaits.{over_twice}
use Rattle.sbp_world.proofs.Lists.Runs.{KeptAfter, holds_at, kept_after}
use Rattle.sbp_world.proofs.Lists.ShortLines.{short_law}
use Rattle.sbp_world.proofs.Lists.StatusCall.{AreRested}
use Rattle.sbp_world.proofs.Lists.StatusPlaces as places
use Rattle.sbp_world.proofs.Lists.StatusLogins.{each_there}
use Rattle.sbp_world.proofs.Lists.TameWalks.{from_after, from_between}
use Rattle.sbp_world.proofs.Lists.UnderwayRuns.{delivering}
use Rattle.sbp_world.proofs.Lists.Walks.{Walks, walked_after, walked_between}

-- ---- agents that read data
abbrev pub Nothing : List Moment → WorldState → Type 0
Nothing past w = Unit {0}

abbrev AllReading : (ℕ → Bool) → List Moment → WorldState → Type 0
AllReading wild past w = (q : ℕ) → q < 8 → IsReading (machine_at w q)

reading_walk : (wild : ℕ → Bool) (units ready : ℕ) → 0 < units → (start : List Disk) → Walks wild units ready start Nothing Nothing (AllReading wild)
reading_walk wild units ready has start past s later t step p =
    turn_full (λ q m. IsReading m) reading_closed wild past s later t step.turn
    (record {
      ready = step.stands.known_all;
      seats = λ q login e. let k = step.stands.reached.site.held.held q login e in record { holder_is = k.holder; there = k.there; id_is = k.login_is };
      replies = λ serial sent run h found zero_to may p label place judged inside login served which is_which reading.
          reply_reads (machine_at s.world place) place (plain_in s.world.target.units s.media.disks login.unit) run which (answer_in p) reading;
    })
    p

first_reading : (wild : ℕ → Bool) (line : ℕ) (run : Run) → AllReading wild (moments_behind line run []) (beginning run).world
unfolding new_world
first_reading wild line run q b = subst (λ (d : Desk). IsReading d.agent) (sym (new_desks 8 q)) tt
  where
    new_desks : (n p : ℕ) → slice_index_or (replicate n new_desk) p new_desk ≡ new_desk
    new_desks zero p = refl
    new_desks (suc n) zero = refl
    new_desks (suc n) (suc p) = new_desks n p

pub no_ground : Always Nothing
no_ground = record { after_lines = λ line run r has small size. tt; between = λ line run r has small size next most told m. tt }

pub nothing : Under Nothing
nothing = record { after_lines = λ line run r has small size so_far. tt; between = λ line run r has small size next most told m so_far. tt }

reading_law : Under (AllReading (λ i. true))
reading_law = record {
  after_lines = λ line run r has small size so_far. walked_after Nothing Nothing AllReading no_ground nothing reading_walk first_reading line run r has small size so_far;
  between = λ line run r has small size next most told m so_far. walked_between Nothing Nothing AllReading no_ground nothing reading_walk first_reading line run r has small size next (more_deliveries most) (delivers most) told m so_far;
}

-- ---- what is known of each place
pub rested : Under (WhereTameOrFew (λ past w. AreRested (injectors past) past w))
rested = places.rested_law opened_known.laws.pointers opened_known.laws.begun (here_beside short_law) (placed_beside short_law) opened_known.laws.joined

kits : EveryPlace Kit
kits =
    let lists = kit_everywhere short_law open_lists_law in
    let last = rested in
    let reads = reading_law in
    record {
      after_lines = λ line run r has small size so_far. record {
        lists = lists.after_lines line run r has small size so_far;
        rested = last.after_lines line run r has small size so_far;
        reading = reads.after_lines line run r has small size so_far;
        whole = whole_law.after_lines line run r has small size so_far;
        inward = ways_law.after_lines line run r has small size so_far;
        memory = λ i b. memory_law.reads line run r i (subst (λ n. i < n) (count_after run run.entries) b);
      };
      between = λ line run r has small size next most told m so_far. record {
        lists = lists.between line run r has small size next most told m so_far;
        rested = last.between line run r has small size next most told m so_far;
        reading = reads.between line run r has small size next most told m so_far;
        whole = whole_law.between line run r has small size next most told m so_far;
        inward = ways_law.between line run r has small size next most told m so_far;
        memory = λ i b. memory_law.between line run r next most told m i (subst (λ n. i < n) (count_after run run.entries) (subst (λ n. i < n) (count_between told (after (beginning run) run.entries)) b));
      };
    }

-- ---- at each place of a run
abbrev wilds : ℕ → Bool
wilds = λ i. true

abbrev opened : (i : ℕ) → true ≡ false → OpensLaw
opened i own = opens_law

module _ (line : ℕ) (run : Run) (r : IsRun run) (has : 0 < run.units) (small : run.units ≤ 4) (size : length run.start.disks ≡ run.units) where
  abbrev last : Scene
  last = after (beginning run) run.entries

  kept : KeptAfter wilds opened line run r.few has small size run.entries last.world
  kept = kept_after wilds opened line run r.few has small size run.entries r.short r.entries r.lines (λ i f. nobody_needs (OpenBefore line run run.entries) f) (λ i f. nobody_needs (IsCalm (history_of line run) i) f)

  module _ (next : ℕ) (most : Option ℕ) (told : List (Option Told)) (m : MayAll told (begun last)) where
    -- a history behind deliveries, and where it stands
    record Between : Type 0 where
      before : List Moment
      count : ℕ
      holds : Holding run.units (ready_logins run.initiators run.ready) run.start.disks before count (after_all told (begun last)).world
      is : hist before (after_all told (begun last)).world ≡ map said (after_all told (begun last)).world.fresh ++ asked next (more_deliveries most) ∷ history_of line run

    there : Between
    there =
        let k = kept in
        let event = more_deliveries most in
        record {
          before = asked next event ∷ hist k.past last.world;
          count = length run.entries + 1;
          holds = holds_at wilds opened line run r.few has small size run.entries r.short r.entries r.lines k.past (length run.entries) k.holds k.is next event (more_than_one most) told m;
          is = ap (λ x. map said (after_all told (begun last)).world.fresh ++ asked next event ∷ x) k.is;
        }

-- what follows at a place from what is known of it follows at each place
module _ (Q P : List Disk → List Moment → WorldState → Type 0) (here : (units ready : ℕ) → 0 < units → (start : List Disk) (past : List Moment) (lines : ℕ) (w : WorldState) → Holding units ready start past lines w → Q start (hist past w) w → P start (hist past w) w) where
  place_by : (units ready : ℕ) → 0 < units → (start : List Disk) (past : List Moment) (lines : ℕ) (w : WorldState) → Holding units ready start past lines w → (ms : List Moment) → hist past w ≡ ms → Q start ms w → P start ms w
  place_by units ready has start past lines w h ms is q = subst (λ x. P start x w) is (here units ready has start past lines w h (subst (λ x. Q start x w) (sym is) q))

  pub by_places : EveryPlace Q → EveryPlace P
  by_places known = record {
    after_lines = λ line run r has small size so_far.
        let k = kept line run r has small size in
        place_by run.units (ready_logins run.initiators run.ready) has run.start.disks k.past (length run.entries) (after (beginning run) run.entries).world k.holds (history_of line run) k.is (known.after_lines line run r has small size so_far);
    between = λ line run r has small size next most told m so_far.
        let b = there line run r has small size next most told m in
        place_by run.units (ready_logins run.initiators run.ready) has run.start.disks b.before b.count (after_all told (begun (after (beginning run) run.entries))).world b.holds _ b.is (known.between line run r has small size next most told m so_far);
  }

complete_places : EveryPlace (λ start past w. IsTameOrFew past → AreComplete start past w)
complete_places = by_places Kit (λ start past w. IsTameOrFew past → AreComplete start past w) (λ units ready has start past lines w h kit beside. are_complete units ready has start w h kit beside) kits

pub complete_law : CompleteLaw
complete_law = record {
  after_lines = λ line run r has small size so_far. complete_places.after_lines line run r has small size so_far;
  between = λ line run r has small size next most told m so_far. complete_places.between line run r has small size next most told m so_far;
}

-- ---- as a line begins
module _ (line : ℕ) (event : Event) (past : List Moment) where
  abbrev here : List Moment
  here = asked line event ∷ past

  lies_same : (i rom : ℕ) (access : Access) (found : Option Window) → lies_inside here i rom access found ≡ lies_inside past i rom access found
  lies_same i rom access None = refl
  lies_same i rom access (Some windows.Rom) = refl
  lies_same i rom access (Some (windows.Orb slot)) = refl
  lies_same i rom access (Some (windows.Table slot)) = refl
  lies_same i rom access (Some (windows.Buffer slot)) = refl
  lies_same i rom access (Some (windows.Management place)) = refl
  lies_same i rom access (Some (windows.Response place)) = refl

  way_same : (i : ℕ) (access : Access) (found : Option Window) → has_direction here i access found ≡ has_direction past i access found
  way_same i access None = refl
  way_same i access (Some windows.Rom) = refl
  way_same i access (Some (windows.Orb slot)) = refl
  way_same i access (Some (windows.Table slot)) = refl
  way_same i access (Some (windows.Buffer slot)) = refl
  way_same i access (Some (windows.Management place)) = refl
  way_same i access (Some (windows.Response place)) = refl

  gives_same : (i : ℕ) (access : Access) (found : Option Window) → window_gives here i access found ≡ window_gives past i access found
  gives_same i access None = refl
  gives_same i access (Some windows.Rom) = refl
  gives_same i access (Some (windows.Orb slot)) = refl
  gives_same i access (Some (windows.Table slot)) = refl
  gives_same i access (Some (windows.Buffer slot)) = refl
  gives_same i access (Some (windows.Management place)) = refl
  gives_same i access (Some (windows.Response place)) = refl

  complete_asked : (i : ℕ) (access : Access) → IsComplete past i access → IsComplete here i access
  complete_asked i access c =
      let rom = rom_size (suc i) 0 in
      let found = window_at access.offset in
      let row = λ (inside way : Bool). cond {A = ℕ} (is_fifo_write access) 0 (code access.is_lock (access.count == 0) (is_fifo access.offset) inside way) in
      record {
        rcode = ap (λ b. row b (has_direction here i access found)) (lies_same i rom access found) ∙ (ap (λ b. row (lies_inside past i rom access found) b) (way_same i access found) ∙ c.rcode);
        size = λ reads. ap (λ xs. length xs) (gives_same i access found) ∙ c.size reads;
      }

  as_got_asked : (wild : ℕ → Bool) (start : List Disk) → ((serial : ℕ) → IsCompleteAsGot wild start past serial) → (serial : ℕ) → IsCompleteAsGot wild start here serial
  as_got_asked wild start a serial place i access own x =
      let opens = opened_terms event (terms past) in
      complete_asked i access (a serial place i access own (record {
        small = x.small;
        which = x.which;
        waits = subst (λ (T : Target). serial_of x.which (agent_at T place) ≡ Some serial) (over_twice (target_at start past)) x.waits;
        to = ap (λ (f : ℕ → Option Sending). receiver_in (f serial)) (sym opens.sent) ∙ x.to;
        level = ap (λ (g : ℕ → ℕ). g 0) (sym opens.generation) ∙ (x.level ∙ ap (λ (g : ℕ → ℕ). g (suc i)) opens.generation);
        asks = ap (λ (f : ℕ → Option Sending). access_in (packet_in (f serial))) (sym opens.sent) ∙ x.asks;
      }))

-- ---- as each packet is got
abbrev AllAsGot : List Disk → (ℕ → Bool) → List Moment → WorldState → Type 0
AllAsGot start wild past w = EachMoment (CompleteAsGot wild start) past

as_got_walk : (wild : ℕ → Bool) (units ready : ℕ) → 0 < units → (start : List Disk) → Walks wild units ready start Nothing (AreComplete start) (AllAsGot start wild)
as_got_walk wild units ready has start past s later t step p =
    got_turn (IsCompleteAsGot wild start) (λ line event before a. as_got_asked line event before wild start a) (hist past s.world) (hist later t.world) (turn_next past s later t step.turn)
    (λ serial place i access own x. step.so_far i own place i serial access (step.stands.reached.calm i own) x) p

first_as_got : (wild : ℕ → Bool) (line : ℕ) (run : Run) → AllAsGot run.start.disks wild (moments_behind line run []) (beginning run).world
first_as_got wild line run = (tt, (tt, tt))

pub complete_as_got_law : CompleteAsGotLaw
complete_as_got_law = record {
  after_lines = λ line run r has small size tame.
      from_after IsTameOrFew tame_or_few_before Nothing AreComplete AllAsGot no_ground complete_law as_got_walk first_as_got line run r has small size (closing.before open_lists_law line run r has small size tame) tame;
  between = λ line run r has small size next most told m tame.
      from_between IsTameOrFew tame_or_few_before Nothing AreComplete AllAsGot no_ground complete_law as_got_walk first_as_got line run r has small size next (more_deliveries most) (more_than_one most) told m
      (closing.between open_lists_law line run r has small size next (more_deliveries most) (more_than_one most) told m tame) tame;
}

-- ---- as the target gets a response
module _ (P : Moment → List Moment → Type 0) (all : List Moment) (each : (front : List Moment) (m : Moment) (past : List Moment) → front ++ m ∷ past ≡ all → P m past) where
  from_front : (front ms : List Moment) → front ++ ms ≡ all → EachMoment P ms
  from_front front [] e = tt
  from_front front (m ∷ past) e = (each front m past e, from_front (front ++ m ∷ []) past (moment_joined front m past ∙ e))

  each_moment : EachMoment P all
  each_moment = from_front [] all refl

-- what is known of a history
record Known (start : List Disk) (all : List Moment) (initiators : ℕ) : Type 0 where
  stood : (i : ℕ) → i < initiators → Stood all i
  none : (i : ℕ) → i < initiators → NoneInjected all i
  told : AllTold all
  asked_so : EachMoment (AskedAsGot start) all
  complete : EachMoment (CompleteAsGot (injectors all) start) all
  ours : (serial i : ℕ) → receiver_in ((terms all).sent serial) ≡ Some (suc i) → i < initiators

-- what was sent before a moment was sent to the same node
sent_to : (all front : List Moment) (m : Moment) (past : List Moment) → SerialsCount all → front ++ m ∷ past ≡ all → (request i : ℕ) → receiver_in ((terms past).sent request) ≡ Some (suc i) → receiver_in ((terms all).sent request) ≡ Some (suc i)
sent_to all front m past counts is request i to = by ((terms past).sent request) refl to
  where
    joined : (front ++ m ∷ []) ++ past ≡ all
    joined = moment_joined front m past ∙ is

    behind : SerialsCount ((front ++ m ∷ []) ++ past)
    behind = subst SerialsCount (sym joined) counts

    by : (so : Option Sending) → (terms past).sent request ≡ so → receiver_in so ≡ Some (suc i) → receiver_in ((terms all).sent request) ≡ Some (suc i)
    by None e f = none_is (suc i) f
    by (Some q) e f =
        ap receiver_in ((subst (Remains past) joined (remains (front ++ m ∷ []) past behind)).sent request (sent_below past request q (serials_from (front ++ m ∷ []) past behind) e)) ∙ to

whole_note : (start : List Disk) (all : List Moment) (initiators : ℕ) → Known start all initiators → (note : Note) (front past : List Moment) → front ++ said note ∷ past ≡ all → WholeAsGot (injectors all) start (said note) past
whole_note start all initiators k (notes.Got serial) front past is = λ i access own x.
    let b = k.ours x.request i (sent_to all front (said (notes.Got serial)) past k.told.counts is x.request i x.to) in
    brings_all start all i (k.stood i b) k.told (k.none i b) own (injectors all) own k.asked_so k.complete front past serial is access x
whole_note start all initiators k note front past is = tt

whole_moment : (start : List Disk) (all : List Moment) (initiators : ℕ) → Known start all initiators → (front : List Moment) (m : Moment) (past : List Moment) → front ++ m ∷ past ≡ all → WholeAsGot (injectors all) start m past
whole_moment start all initiators k front (asked line event) past is = tt
whole_moment start all initiators k front (said note) past is = whole_note start all initiators k note front past is

-- each node that is sent to is one of them
sent_inside : (before : List Moment) (w : WorldState) (h : Stands before w) (serial i : ℕ) → receiver_in ((terms (hist before w)).sent serial) ≡ Some (suc i) → i < length w.initiators
sent_inside before w h serial i e = by ((terms (hist before w)).sent serial) refl e
  where
    by : (so : Option Sending) → (terms (hist before w)).sent serial ≡ so → receiver_in so ≡ Some (suc i) → i < length w.initiators
    by None f g = none_is (suc i) g
    by (Some q) f g =
        let ours = (h.is.knows.ours serial q (ap (λ (t : Terms). t.sent serial) (past_terms w h) ∙ f)).to in
        let to : q.to ≡ suc i = same_Some q.to (suc i) g in
        omega (arith, ours, to)

module _ (line : ℕ) (run : Run) (r : IsRun run) (has : 0 < run.units) (small : run.units ≤ 4) (size : length run.start.disks ≡ run.units) where
  known_after : IsTameOrFew (history_of line run) → Known run.start.disks (history_of line run) run.initiators
  known_after tame =
      let so_far = closing.before open_lists_law line run r has small size tame in
      let k = kept line run r has small size in
      let w = (after (beginning run) run.entries).world in
      record {
        stood = λ i b. stood line run r i b;
        none = λ i b. carries_law.none_injected line run r i b;
        told = told_everywhere.after_lines line run r has small size so_far;
        asked_so = (kits.after_lines line run r has small size so_far).lists.ground.asked_so;
        complete = complete_as_got_law.after_lines line run r has small size tame;
        ours = λ serial i e. subst (λ n. i < n) (count_after run run.entries) (sent_inside k.past w k.holds.sound.stands serial i (ap (λ ms. receiver_in ((terms ms).sent serial)) k.is ∙ e));
      }

  module _ (next : ℕ) (most : Option ℕ) (told : List (Option Told)) (m : MayAll told (begun (after (beginning run) run.entries))) where
    abbrev now : List Moment
    now = map said (after_all told (begun (after (beginning run) run.entries))).world.fresh ++ asked next (more_deliveries most) ∷ history_of line run

    known_between : IsTameOrFew now → Known run.start.disks now run.initiators
    known_between tame =
        let event = more_deliveries most in
        let d = more_than_one most in
        let so_far = closing.between open_lists_law line run r has small size next event d told m tame in
        let b = there line run r has small size next most told m in
        let s = after (beginning run) run.entries in
        let w = (after_all told (begun s)).world in
        record {
          stood = λ i b. stood_between line run r next event told (delivering told most) m i b;
          none = λ i b. carries_law.none_injected_between line run r next event told (delivering told most) m i b;
          told = told_everywhere.between line run r has small size next most told m so_far;
          asked_so = (kits.between line run r has small size next most told m so_far).lists.ground.asked_so;
          complete = complete_as_got_law.between line run r has small size next most told m tame;
          ours = λ serial i e.
              subst (λ n. i < n) (count_between told s ∙ count_after run run.entries)
              (sent_inside b.before w b.holds.sound.stands serial i (ap (λ ms. receiver_in ((terms ms).sent serial)) b.is ∙ e));
        }

pub whole_as_got_law : WholeAsGotLaw
whole_as_got_law = record {
  after_lines = λ line run r has small size tame.
      let all = history_of line run in each_moment (WholeAsGot (injectors all) run.start.disks) all (whole_moment run.start.disks all run.initiators (known_after line run r has small size tame));
  between = λ line run r has small size next most told m tame.
      let all = now line run r has small size next most told m in
      each_moment (WholeAsGot (injectors all) run.start.disks) all (whole_moment run.start.disks all run.initiators (known_between line run r has small size next most told m tame));
}

-- ---- reads of the management operation
record ManagedKit (start : List Disk) (past : List Moment) (w : WorldState) : Type 0 where
  managed : managed_gots.Kit start past w
  memory : (i : ℕ) → i < length w.initiators → IsReadBy past i (initiator_at w i)

managed_kits : EveryPlace ManagedKit
managed_kits =
    let managed = managed_gots.kit_everywhere short_law in
    let known = kits in
    record {
      after_lines = λ line run r has small size so_far. record { managed = managed.after_lines line run r has small size so_far; memory = (known.after_lines line run r has small size so_far).memory };
      between = λ line run r has small size next most told m so_far. record { managed = managed.between line run r has small size next most told m so_far; memory = (known.between line run r has small size next most told m so_far).memory };
    }

abbrev IsManagedThere : List Disk → List Moment → WorldState → Type 0
IsManagedThere start past w = (i serial : ℕ) (access : Access) → IsCalm past i → OperationReads start past i serial access → IsManagedSo past i serial access

managed_places : EveryPlace (λ start past w. IsTameOrFew past → IsManagedThere start past w)
managed_places =
    by_places ManagedKit (λ start past w. IsTameOrFew past → IsManagedThere start past w)
    (λ units ready has start past lines w h kit beside i serial access calm x. managed_so units ready has start w h kit.managed kit.memory beside i serial access calm x) managed_kits

managed_law : UnderFrom (λ start. WhereTameOrFew (IsManagedThere start))
managed_law = record {
  after_lines = λ line run r has small size so_far. managed_places.after_lines line run r has small size so_far;
  between = λ line run r has small size next most told m so_far. managed_places.between line run r has small size next most told m so_far;
}

abbrev AreManagedSo : (ℕ → Bool) → List Disk → List Moment → ℕ → Type 0
AreManagedSo wild start past got = (i serial : ℕ) (access : Access) → wild i ≡ false → OperationReads start past i serial access → IsManagedSo past i serial access

managed_asked : (line : ℕ) (event : Event) (past : List Moment) (wild : ℕ → Bool) (start : List Disk) → ((got : ℕ) → AreManagedSo wild start past got) → (got : ℕ) → AreManagedSo wild start (asked line event ∷ past) got
managed_asked line event past wild start a got i serial access own x =
    let opens = opened_terms event (terms past) in
    let so = a got i serial access own (record {
      manages = sym (ap (λ (of : Office). of.manages) (over_keeps (target_at start past))) ∙ x.manages;
      to = ap (λ (f : ℕ → Option Sending). receiver_in (f serial)) (sym opens.sent) ∙ x.to;
      asks = ap (λ (f : ℕ → Option Sending). access_in (packet_in (f serial))) (sym opens.sent) ∙ x.asks;
      reads = x.reads;
    }) in
    record {
      complete = complete_asked line event past i access so.complete;
      from = ap (λ (f : ℕ → Option Sending). sender_in (f serial)) opens.sent ∙ so.from;
      kind = so.kind;
      lock = so.lock;
    }

abbrev ManagedSoAt : List Disk → (ℕ → Bool) → Moment → List Moment → Type 0
ManagedSoAt start wild moment past = AtGot (AreManagedSo wild start) moment past

abbrev AllManaged : List Disk → (ℕ → Bool) → List Moment → WorldState → Type 0
AllManaged start wild past w = EachMoment (ManagedSoAt start wild) past

managed_walk : (wild : ℕ → Bool) (units ready : ℕ) → 0 < units → (start : List Disk) → Walks wild units ready start Nothing (IsManagedThere start) (AllManaged start wild)
managed_walk wild units ready has start past s later t step p =
    got_turn (AreManagedSo wild start) (λ line event before a. managed_asked line event before wild start a) (hist past s.world) (hist later t.world) (turn_next past s later t step.turn)
    (λ got i serial access own x. step.so_far i own i serial access (step.stands.reached.calm i own) x) p

first_managed : (wild : ℕ → Bool) (line : ℕ) (run : Run) → AllManaged run.start.disks wild (moments_behind line run []) (beginning run).world
first_managed wild line run = (tt, (tt, tt))

-- what the operation waits for, and what closes it
module _ (start : List Disk) (all : List Moment) (initiators : ℕ) (k : Known start all initiators) (so : EachMoment (ManagedSoAt start (injectors all)) all) where
  so_there : (front : List Moment) (serial : ℕ) (past : List Moment) → front ++ said (notes.Got serial) ∷ past ≡ all → AreManagedSo (injectors all) start past serial
  so_there front serial past is = each_there (ManagedSoAt start (injectors all)) front (said (notes.Got serial)) past (subst (EachMoment (ManagedSoAt start (injectors all))) (sym is) so)

  managed_note : (note : Note) (front past : List Moment) → front ++ said note ∷ past ≡ all → ManagedCompleteAsGot (injectors all) start (said note) past × OrbWholeAsGot (injectors all) start (said note) past
  managed_note (notes.Got serial) front past is =
      let there = so_there front serial past is in (
        (λ i request access own x. (there i request access own x).complete),
        λ i access own x.
            let known = there i x.request access own x.reads in
            let b = k.ours x.request i (sent_to all front (said (notes.Got serial)) past k.told.counts is x.request i x.reads.to) in
            let closes : ClosesBlock (terms past) serial i x.request access = record {
              closed = x.closed;
              from = known.from;
              to = x.reads.to;
              asks = x.reads.asks;
              reads = x.reads.reads;
              block = x.block;
              lock = known.lock;
            } in
            brings_whole all i (k.stood i b) k.told (k.none i b) own front past serial is x.request access closes
            (orb_rcode (asked_before all i (k.stood i b) k.told (k.none i b) own front past serial is x.request access closes).past i access known.kind x.block),
      )
  managed_note note front past is = (tt, tt)

  managed_moment : (front : List Moment) (m : Moment) (past : List Moment) → front ++ m ∷ past ≡ all → ManagedCompleteAsGot (injectors all) start m past × OrbWholeAsGot (injectors all) start m past
  managed_moment front (asked line event) past is = (tt, tt)
  managed_moment front (said note) past is = managed_note note front past is

  managed_each : EachMoment (ManagedCompleteAsGot (injectors all) start) all
  managed_each = each_moment (ManagedCompleteAsGot (injectors all) start) all (λ front m past is. (managed_moment front m past is).0)

  orbs_each : EachMoment (OrbWholeAsGot (injectors all) start) all
  orbs_each = each_moment (OrbWholeAsGot (injectors all) start) all (λ front m past is. (managed_moment front m past is).1)

module _ (line : ℕ) (run : Run) (r : IsRun run) (has : 0 < run.units) (small : run.units ≤ 4) (size : length run.start.disks ≡ run.units) where
  managed_after : (tame : IsTameOrFew (history_of line run)) → EachMoment (ManagedSoAt run.start.disks (injectors (history_of line run))) (history_of line run)
  managed_after tame = from_after IsTameOrFew tame_or_few_before Nothing IsManagedThere AllManaged no_ground managed_law managed_walk first_managed line run r has small size (closing.before open_lists_law line run r has small size tame) tame

  managed_between : (next : ℕ) (most : Option ℕ) (told : List (Option Told)) (m : MayAll told (begun (after (beginning run) run.entries))) → (let all = now line run r has small size next most told m in IsTameOrFew all → EachMoment (ManagedSoAt run.start.disks (injectors all)) all)
  managed_between next most told m tame =
      from_between IsTameOrFew tame_or_few_before Nothing IsManagedThere AllManaged no_ground managed_law managed_walk first_managed line run r has small size next (more_deliveries most) (more_than_one most) told m
      (closing.between open_lists_law line run r has small size next (more_deliveries most) (more_than_one most) told m tame) tame

pub managed_complete_law : ManagedCompleteLaw
managed_complete_law = record {
  after_lines = λ line run r has small size tame. managed_each run.start.disks (history_of line run) run.initiators (known_after line run r has small size tame) (managed_after line run r has small size tame);
  between = λ line run r has small size next most told m tame.
      managed_each run.start.disks (now line run r has small size next most told m) run.initiators (known_between line run r has small size next most told m tame) (managed_between line run r has small size next most told m tame);
}

pub orb_whole_law : OrbWholeAsGotLaw
orb_whole_law = record {
  after_lines = λ line run r has small size tame. orbs_each run.start.disks (history_of line run) run.initiators (known_after line run r has small size tame) (managed_after line run r has small size tame);
  between = λ line run r has small size next most told m tame.
      orbs_each run.start.disks (now line run r has small size next most told m) run.initiators (known_between line run r has small size next most told m tame) (managed_between line run r has small size next most told m tame);
}
