-- A turn of a world in which no initiator injected packets, or few logins were given, leaves each agent of an initiator that injected none with the buffer and the data that its reads brought since it turned to its ORB, behind the response that brought
-- the ORB, which is the one prepared last in its slot still.
use Rattle.sbp_world.proofs.Words.Std.{◌≡◌, ◌∙◌, refl, sym, ap, subst, ◌<◌, ℕ, Bool, true, false, List, [], ◌∷◌, ◌++◌, length, Option, Some, None}
use Rattle.sbp_world.proofs.Words.Wire.{Moment, asked, said, terms, Action, Event, end_note}
use Rattle.sbp_world.proofs.Words.Target.{number_behind, Machine, aligned, Disk, Told, KnowsAhead}
use Rattle.sbp_world.proofs.Words.Initiator.{CommandOrb, At}
use Rattle.sbp_world.proofs.Words.Laws.{Moved, injectors, cmd_of, prepared_in, agent_at, over, target_at, ends, EachMoment, event_of}
use Rattle.sbp_world.proofs.Words.World.{MayHappen, acted, happens, MayNext, delivered_next, settled_from, IsLine, Scene, WorldState, begun, initiator_at, without_notes, GoesAlong, IsCalm, IsOpenAt, initiator_in, is_open_at, machine_at, AreLed, LedAsGot, IsTameOrFew, more_deliveries}
use Rattle.command_agent.specs.declared.phase.ReadAhead.TheVariants as aheads
use Rattle.sbp_journal.specs.declared.event.Event.TheVariants as events
use Rattle.sbp_journal.specs.declared.note.Note.TheVariants as notes
use Rattle.sbp_world.proofs.Agents.Management.Holding.{Holding}
use Rattle.sbp_world.proofs.Agents.Management.Still.{hist}
use Rattle.sbp_world.proofs.Hosts.Carries.{IsNoAct}
use Rattle.sbp_world.proofs.Hosts.StepLaws.{step_law}
use Rattle.sbp_world.proofs.Lists.Brought.{list}
use Rattle.sbp_world.proofs.Lists.KeptPhases.{kept_sent}
use Rattle.sbp_world.proofs.Lists.Calm.{calm_asked}
use Rattle.sbp_world.proofs.Lists.Adds.{Stays}
use Rattle.sbp_world.proofs.Lists.Courses.{Goes, by_delivery, by_end, by_line, by_start}
use Rattle.sbp_world.proofs.Lists.FedGoing as going
use Rattle.sbp_world.proofs.Lists.FedGoing.{IsNoGot, fed_so}
use Rattle.sbp_world.proofs.Lists.Judging.{goes_next, grown as grown_by}
use Rattle.sbp_world.proofs.Lists.LiveRuns.{goes_size, goes_tame_or_few}
use Rattle.sbp_world.proofs.Lists.FedSteps.{IsFed}
use Rattle.sbp_world.proofs.Lists.FedStill.{Awaits, ReadBy, Spares, TurnedBy, fed_alike, read_by_got, read_on, turned_by_got, turned_on, turns_by}
use Rattle.sbp_world.proofs.Lists.LedRuns.{got_just}
use Rattle.sbp_world.proofs.Lists.Lines.{acts}
use Rattle.sbp_world.proofs.Lists.ManageSends.{opened_terms}
use Rattle.sbp_world.proofs.Lists.OrbSteps.{holds_read}
use Rattle.sbp_world.proofs.Lists.OrbWaits.{over_twice}
use Rattle.sbp_world.proofs.Lists.PlaceOwners.{Owns, turn_owns}
use Rattle.sbp_world.proofs.Lists.Sites.{Site}
use Rattle.sbp_world.proofs.Lists.StillReads.{AreStill, IsHad, ahead_name, main_name, named_over, o}
use Rattle.sbp_world.proofs.Lists.StillTurns as still
use Rattle.sbp_world.proofs.Lists.StillTurns.{Ground, none_acts, none_prepared, site_at}
use Rattle.sbp_world.proofs.Lists.TurnReads.{Course, delivery_course, line_course}
use Rattle.sbp_world.proofs.Lists.Turned.{IsOne}
use Rattle.sbp_world.proofs.Lists.FedStillReads.{AllFedStill, AreFedStill, AreSentAhead, FedStill, IsOwner, KnownHad, KnownStill, fed_before, got_read, read_known, ready_in, turned_known}
use Rattle.sbp_world.proofs.Lists.StatusLogins.{each_there as each_at}

-- ---- a turn
module _ (units ready : ℕ) (has : 0 < units) (start : List Disk) (past : List Moment) (s : Scene) (later : List Moment) (t : Scene) {lines more : ℕ} (h : Holding units ready start past lines s.world) (h_now : Holding units ready start later more t.world) (q : Ground start (hist past s.world) s.world) (q_now : Ground start (hist later t.world) t.world) (beside : IsTameOrFew (hist past s.world)) (beside_now : IsTameOrFew (hist later t.world)) (owns : Owns s.world t.world) (count : length t.world.initiators ≡ length s.world.initiators) (have : AreStill start (hist past s.world) s.world) (fed : AreFedStill start (hist past s.world) s.world) (back : List Moment) (behind : back ++ hist past s.world ≡ hist later t.world) where
  abbrev w : WorldState
  w = s.world

  abbrev v : WorldState
  v = t.world

  abbrev before : List Moment
  before = hist past w

  abbrev now : List Moment
  now = hist later v

  abbrev site : Site start past w
  site = site_at start past w q

  abbrev site_now : Site start later v
  site_now = site_at start later v q_now

  owner : (p : ℕ) → p < 8 → is_open_at v p ≡ true → initiator_in v p ≡ initiator_in w p
  owner = still.owner units ready has start past s later t h h_now q q_now beside beside_now owns count have

  inside : (p : ℕ) → p < 8 → is_open_at v p ≡ true → IsCalm now (initiator_in v p) → initiator_in w p < length w.initiators
  inside = still.inside units ready has start past s later t h h_now q q_now beside beside_now owns count have

  calm_then : (p : ℕ) → p < 8 → is_open_at v p ≡ true → IsCalm now (initiator_in v p) → IsCalm before (initiator_in w p)
  calm_then p b e calm = still.calm_before units ready has start past s later t h h_now q q_now beside beside_now owns count have back before behind (initiator_in w p) (subst (IsCalm now) (owner p b e) calm)

  owner_then : (p : ℕ) → p < 8 → is_open_at v p ≡ true → IsCalm now (initiator_in v p) → (i : ℕ) → IsOwner now v p i → IsOwner before w p i
  owner_then p b e calm i own =
      let is = sym (owner p b e) ∙ own.is in record { small = own.small; calm = subst (IsCalm before) is (calm_then p b e calm); is = is }

  abbrev K : ℕ → ℕ → CommandOrb → ℕ → List Moment → Type 0
  K p at orb response earlier = p < 8 → IsCalm before (initiator_in w p) → KnownHad start now before w p at orb response earlier

  abbrev R : List Moment → ℕ → ℕ → CommandOrb → Type 0
  R ms p at orb = ReadBy start K (IsOwner before w) ms p at orb

  abbrev U : List Moment → ℕ → ℕ → CommandOrb → List Moved → Type 0
  U ms p at orb reads = TurnedBy start K (IsOwner before w) ms p at orb reads

  abbrev Fed : List Moment → ℕ → Machine → Type 0
  Fed ms p m = IsFed (R ms p) (U ms p) m

  led_then : (serial : ℕ) (front ms : List Moment) → front ++ said (notes.Got serial) ∷ ms ≡ now → AreLed start ms
  led_then serial front ms is = each_at (LedAsGot start) front (said (notes.Got serial)) ms (subst (EachMoment (LedAsGot start)) (sym is) (q_now.led_so beside_now))

  abbrev Waits : List Moment → ℕ → Type 0
  Waits = Awaits start (IsOwner before w)

  abbrev Spare : List Moment → ℕ → ℕ → Type 0
  Spare = Spares start (IsOwner before w)

  abbrev Gets : List Moment → Type 0
  Gets ms = going.Gets start R U Waits Spare (turns_by start K (IsOwner before w)) (read_on start K (IsOwner before w)) (read_by_got start K (IsOwner before w)) (turned_on start K (IsOwner before w)) (turned_by_got start K (IsOwner before w)) now ms

  gets : Gets before
  gets serial front is a e = got_read units ready has start w h site q.asked_so fed now back behind before refl refl (λ i slot. refl) (λ i c. c) serial front is (got_just start before serial a (led_then serial front before is) e)

  gets_line : (line : ℕ) (event : Event) → Gets (asked line event ∷ before)
  gets_line line event serial front is a e =
      got_read units ready has start w h site q.asked_so fed now back behind (asked line event ∷ before) (over_twice (target_at start before)) (opened_terms event (terms before)).sent (λ i slot. refl) (λ i c. calm_asked line event before i c) serial front is (got_just start (asked line event ∷ before) serial a (led_then serial front (asked line event ∷ before) is) e)

  -- ---- behind it
  fed_now : Course before now → (p : ℕ) (b : p < 8) → is_open_at v p ≡ true → Fed now p (machine_at v p)
  fed_now course p b e =
      let all = going.fed_over start R U Waits Spare (turns_by start K (IsOwner before w)) (read_on start K (IsOwner before w)) (read_by_got start K (IsOwner before w)) (turned_on start K (IsOwner before w)) (turned_by_got start K (IsOwner before w)) now before course q_now.asked_so gets gets_line
      (ready_in units ready has start w h site q.asked_so fed now back behind before refl refl)
      (λ line event. ready_in units ready has start w h site q.asked_so fed now back behind (asked line event ∷ before) (over_twice (target_at start before)) (opened_terms event (terms before)).sent) (fed_before units ready has start w h site q.asked_so fed now back behind) in
      let alike = (site_now.agents.are.each p b).machine in
      fed_alike (R now p) (U now p) (agent_at (over (target_at start now)) p).machine (machine_at v p) alike.phase (alike.present e) (alike.orb e) (alike.payload e) alike.segments (alike.ahead e) (all.agents p)

  -- its slot has the same name
  known_now : (p : ℕ) (b : p < 8) → is_open_at v p ≡ true → IsCalm now (initiator_in v p) → (at : ℕ) (orb : CommandOrb) → ((x : IsHad start now before w p at orb) → prepared_in now x.named.i x.named.led.slot ≡ prepared_in before x.named.i x.named.led.slot) → (response : ℕ) (earlier : List Moment) → K p at orb response earlier → KnownStill start now v p at orb response earlier
  known_now p b e calm at orb same response earlier k =
      let x = k b (calm_then p b e calm) in
      record { had = record { named = x.had.named; initiator = x.had.initiator ∙ sym (owner p b e); there = same x.had ∙ x.had.there }; response_is = x.response_is; earlier_is = x.earlier_is }

  still_by : Course before now → ((p : ℕ) (b : p < 8) (e : is_open_at v p ≡ true) → IsCalm now (initiator_in v p) → holds_read (machine_at v p).phase ≡ true → (x : IsHad start now before w p (machine_at v p).present (machine_at v p).orb) → prepared_in now x.named.i x.named.led.slot ≡ prepared_in before x.named.i x.named.led.slot) → ((p : ℕ) (b : p < 8) (e : is_open_at v p ≡ true) → IsCalm now (initiator_in v p) → (orb : CommandOrb) → (machine_at v p).ahead ≡ aheads.Kept orb → (offset : ℕ) → (machine_at v p).orb.next ≡ At offset → (x : IsHad start now before w p (aligned offset) orb) → prepared_in now x.named.i x.named.led.slot ≡ prepared_in before x.named.i x.named.led.slot) → AllFedStill start now v
  still_by course main ahead p b e calm =
      let m = machine_at v p in
      fed_so (R now p) (ReadBy start (KnownStill start now v) (IsOwner now v) now p) (U now p) (TurnedBy start (KnownStill start now v) (IsOwner now v) now p) m
      (λ holds reads. turned_known start now p K (KnownStill start now v) (IsOwner before w) (IsOwner now v) (owner_then p b e calm) m.present m.orb reads (known_now p b e calm m.present m.orb (main p b e calm holds)))
      (λ orb kept offset next. read_known start now p K (KnownStill start now v) (IsOwner before w) (IsOwner now v) (owner_then p b e calm) (aligned offset) orb (known_now p b e calm (aligned offset) orb (ahead p b e calm orb kept offset next)))
      (fed_now course p b e)

  -- where nothing is prepared
  pub quiet_still : Course before now → ((i slot : ℕ) → i < length w.initiators → prepared_in now i slot ≡ prepared_in before i slot) → AllFedStill start now v
  quiet_still course prepared =
      still_by course (λ p b e calm holds x. prepared x.named.i x.named.led.slot (subst (λ i. i < length w.initiators) (sym x.initiator) (inside p b e calm)))
      (λ p b e calm orb kept offset next x. prepared x.named.i x.named.led.slot (subst (λ i. i < length w.initiators) (sym x.initiator) (inside p b e calm)))

  -- where an initiator acts, by the name
  module _ (target : v.target ≡ w.target) (places : v.places ≡ w.places) (ends_are : (i n : ℕ) → ends now i n ≡ ends before i n) where
    module _ (p : ℕ) (b : p < 8) (e : is_open_at v p ≡ true) (calm : IsCalm now (initiator_in v p)) where
      abbrev M : Machine
      M = machine_at w p

      same_machine : machine_at v p ≡ machine_at w p
      same_machine = still.machine_same units ready has start past s later t h h_now q q_now beside beside_now owns count have back behind target p

      abbrev f : is_open_at w p ≡ true
      f = still.open_before units ready has start past s later t h h_now q q_now beside beside_now owns count have back behind target p e

      abbrev was_calm : IsCalm before (initiator_in w p)
      was_calm = still.calm units ready has start past s later t h h_now q q_now beside beside_now owns count have back behind target places ends_are p b e calm

      abbrev n : ℕ
      n = (o units ready has start w h site (q.lists beside) q.along p b f was_calm).n

      abbrev n_now : ℕ
      n_now = (o units ready has start v h_now site_now (q_now.lists beside_now) q_now.along p b e calm).n

      same_number : ends now (initiator_in v p) n_now ≡ ends before (initiator_in w p) n
      same_number = still.number_same units ready has start past s later t h h_now q q_now beside beside_now owns count have back behind target places ends_are p b e calm

      main_same : holds_read (machine_at v p).phase ≡ true → (x : IsHad start now before w p (machine_at v p).present (machine_at v p).orb) → prepared_in now x.named.i x.named.led.slot ≡ prepared_in before x.named.i x.named.led.slot
      main_same holds x =
          let slot = x.named.led.slot in
          let at = x.named.led.stands in
          subst (λ j. prepared_in now j slot ≡ prepared_in before j slot) (sym x.initiator)
          (still.name_same units ready has start past s later t h h_now q q_now beside beside_now owns count have back behind target places ends_are p b e calm (ends now (initiator_in v p) n_now) (ends before (initiator_in w p) n) slot same_number
          (main_name units ready has start v h_now site_now (q_now.lists beside_now) q_now.along p b e calm holds slot at)
          (main_name units ready has start w h site (q.lists beside) q.along p b f was_calm (ap (λ (m : Machine). holds_read m.phase) (sym same_machine) ∙ holds) slot (ap (λ (m : Machine). m.present) (sym same_machine) ∙ at)))

      ahead_same : (orb : CommandOrb) → (machine_at v p).ahead ≡ aheads.Kept orb → (offset : ℕ) → (machine_at v p).orb.next ≡ At offset → (x : IsHad start now before w p (aligned offset) orb) → prepared_in now x.named.i x.named.led.slot ≡ prepared_in before x.named.i x.named.led.slot
      ahead_same orb kept offset next x =
          let slot = x.named.led.slot in
          let at = x.named.led.stands in
          subst (λ j. prepared_in now j slot ≡ prepared_in before j slot) (sym x.initiator)
          (still.name_same units ready has start past s later t h h_now q q_now beside beside_now owns count have back behind target places ends_are p b e calm
          (number_behind (machine_at v p).phase (ends now (initiator_in v p) n_now)) (number_behind M.phase (ends before (initiator_in w p) n)) slot
          (ap (λ (m : Machine). number_behind m.phase (ends now (initiator_in v p) n_now)) same_machine ∙ ap (number_behind M.phase) same_number)
          (ahead_name units ready has start v h_now site_now (q_now.lists beside_now) q_now.along p b e calm orb kept offset next slot at)
          (ahead_name units ready has start w h site (q.lists beside) q.along p b f was_calm orb (ap (λ (m : Machine). m.ahead) (sym same_machine) ∙ kept) offset (ap (λ (m : Machine). m.orb.next) (sym same_machine) ∙ next) slot at))

    pub acting_still : Course before now → AllFedStill start now v
    acting_still course = still_by course main_same ahead_same

  -- where the target stands and nothing is got or prepared
  module _ (m : Moment) (none : IsNoGot m) (is : m ∷ before ≡ now) (target : v.target ≡ w.target) (prepared : (i slot : ℕ) → prepared_in now i slot ≡ prepared_in before i slot) where
    known_on : (p : ℕ) (b : p < 8) → is_open_at v p ≡ true → (at : ℕ) (orb : CommandOrb) (response : ℕ) (earlier : List Moment) → KnownStill start before w p at orb response earlier → KnownStill start now v p at orb response earlier
    known_on p b e at orb response earlier x = record {
      had = record { named = named_over start before now (m ∷ []) is p at orb x.had.named; initiator = x.had.initiator ∙ sym (owner p b e); there = prepared x.had.named.i x.had.named.led.slot ∙ x.had.there };
      response_is = x.response_is;
      earlier_is = x.earlier_is;
    }

    pub resting_still : AllFedStill start now v
    resting_still p b e calm =
        let same = still.machine_same units ready has start past s later t h h_now q q_now beside beside_now owns count have back behind target p in
        let f = still.open_before units ready has start past s later t h h_now q q_now beside beside_now owns count have back behind target p e in
        let M = machine_at w p in
        let J = KnownStill start before w in
        let N = KnownStill start now v in
        subst (FedStill start now v p) (sym same)
        (fed_so (ReadBy start J (IsOwner before w) before p) (ReadBy start N (IsOwner now v) now p) (TurnedBy start J (IsOwner before w) before p) (TurnedBy start N (IsOwner now v) now p) M
        (λ holds reads x. subst (λ ms. TurnedBy start N (IsOwner now v) ms p M.present M.orb reads) is (turned_known start (m ∷ before) p J N (IsOwner before w) (IsOwner now v) (owner_then p b e calm) M.present M.orb reads (known_on p b e M.present M.orb) (turned_on start J (IsOwner before w) m none before p M.present M.orb reads x)))
        (λ orb kept offset next x. subst (λ ms. ReadBy start N (IsOwner now v) ms p (aligned offset) orb) is (read_known start (m ∷ before) p J N (IsOwner before w) (IsOwner now v) (owner_then p b e calm) (aligned offset) orb (known_on p b e (aligned offset) orb) (read_on start J (IsOwner before w) m none before p (aligned offset) orb x)))
        (fed.fed p b f (calm_then p b e calm)))

-- ---- a main transaction of an agent that has an ORB read ahead is under way
sent_ahead : (start : List Disk) (past : List Moment) (w : WorldState) → Ground start (hist past w) w → IsTameOrFew (hist past w) → AreSentAhead (hist past w) w
sent_ahead start past w q beside place b open_there calm orb kept =
    let ms = hist past w in
    let j = initiator_in w place in
    let o : IsOpenAt ms w place = (q.lists beside).listed place b open_there calm in
    let m = machine_at w place in
    let goes : GoesAlong ms j o.n m = q.along.all place b open_there calm o.n o.list in
    kept_sent m.phase (list ms j o.n) goes.progress m.orb.next orb (subst (KnowsAhead (list ms j o.n) goes.progress m.phase m.orb.next) kept goes.along.ahead)

-- ---- by what the turn is
module _ (units ready : ℕ) (has : 0 < units) (start : List Disk) where
  Turns : (past : List Moment) (s : Scene) (later : List Moment) (t : Scene) → Type 0
  Turns past s later t =
      (lines more : ℕ) → Holding units ready start past lines s.world → Holding units ready start later more t.world → Ground start (hist past s.world) s.world → Ground start (hist later t.world) t.world → IsTameOrFew (hist past s.world) → IsTameOrFew (hist later t.world) → Owns s.world t.world → length t.world.initiators ≡ length s.world.initiators → (back : List Moment) → back ++ hist past s.world ≡ hist later t.world → AreStill start (hist past s.world) s.world → AreFedStill start (hist past s.world) s.world → AllFedStill start (hist later t.world) t.world

  -- a line in which no initiator acts
  quiet_line : (past : List Moment) (s : Scene) (line : ℕ) (event : Event) (told : List (Option Told)) → IsOne event → MayHappen event told s → cmd_of (Some event) ≡ None → Turns past s (asked line event ∷ hist past s.world) (happens line event told s)
  unfolding Turns
  quiet_line past s line event told one may none lines more h h_now q q_now beside beside_now owns count back behind have fed =
      let t = happens line event told s in
      quiet_still units ready has start past s (asked line event ∷ hist past s.world) t h h_now q q_now beside beside_now owns count have fed back behind (line_course past s line event told one may)
      (λ i slot l. none_prepared i slot t.world.fresh (asked line event ∷ hist past s.world) none (q_now.lined i (subst (λ n. i < n) (sym count) l)))

  -- one in which an initiator acts
  acting_line : (past : List Moment) (s : Scene) (line i : ℕ) (action : Action) (told : List (Option Told)) → IsLine (events.Act i action) (length s.world.initiators) → MayHappen (events.Act i action) told s → Turns past s (asked line (events.Act i action) ∷ hist past s.world) (happens line (events.Act i action) told s)
  unfolding Turns happens
  acting_line past s line i action told fit may lines more h h_now q q_now beside beside_now owns count back behind have fed =
      let event = events.Act i action in
      let now = asked line event ∷ hist past s.world in
      let w = without_notes s.world in
      let site = site_at start past s.world q in
      let x : Stays (injectors (hist past s.world)) now w (acted line i action w) = acts (injectors (hist past s.world)) now line i action w (q.number i fit.0) (step_law.asked line event (hist past s.world) i (initiator_at s.world i).lists.slots (site.rows i fit.0)) (tt, q.law) in
      acting_still units ready has start past s now (happens line event told s) h h_now q q_now beside beside_now owns count have fed back behind x.target x.places (λ j n. x.adds.ends_are j n) (line_course past s line event told tt may)

  line_turn : (past : List Moment) (s : Scene) (line : ℕ) (event : Event) (told : List (Option Told)) → IsOne event → IsLine event (length s.world.initiators) → MayHappen event told s → Turns past s (asked line event ∷ hist past s.world) (happens line event told s)
  line_turn past s line (events.Act i action) told one fit may = acting_line past s line i action told fit may
  line_turn past s line (events.Begin initiators is_ready) told one fit may = quiet_line past s line (events.Begin initiators is_ready) told one may refl
  line_turn past s line (events.Reset physical) told one fit may = quiet_line past s line (events.Reset physical) told one may refl
  line_turn past s line (events.See node) told one fit may = quiet_line past s line (events.See node) told one may refl
  line_turn past s line (events.Deliver serial) told one fit may = quiet_line past s line (events.Deliver serial) told one may refl
  line_turn past s line (events.Repeat serial) told one fit may = quiet_line past s line (events.Repeat serial) told one may refl
  line_turn past s line (events.Lose serial) told one fit may = quiet_line past s line (events.Lose serial) told one may refl
  line_turn past s line (events.Timeout serial) told one fit may = quiet_line past s line (events.Timeout serial) told one may refl
  line_turn past s line (events.Step count) told one fit may = absurd one
  line_turn past s line events.Settle told one fit may = absurd one
  line_turn past s line events.Tick told one fit may = quiet_line past s line events.Tick told one may refl
  line_turn past s line (events.Inject i bytes) told one fit may = quiet_line past s line (events.Inject i bytes) told one may refl
  line_turn past s line (events.Key unit key) told one fit may = quiet_line past s line (events.Key unit key) told one may refl

  -- a delivery
  delivery_turn : (past : List Moment) (s : Scene) (one : Option Told) → MayNext one s → ((i : ℕ) → IsNoAct i (event_of past)) → Turns past s past (delivered_next one s)
  unfolding Turns
  delivery_turn past s one may no_act lines more h h_now q q_now beside beside_now owns count back behind have fed =
      let t = delivered_next one s in
      let none = none_acts (event_of past) no_act in
      quiet_still units ready has start past s past t h h_now q q_now beside beside_now owns count have fed back behind (delivery_course past s one may)
      (λ i slot l. none_prepared i slot t.world.fresh past none (q_now.lined i (subst (λ n. i < n) (sym count) l)) ∙ sym (none_prepared i slot s.world.fresh past none (q.lined i l)))

  end_noted : (done : Bool) → IsNoGot (said (end_note done))
  end_noted true = tt
  end_noted false = tt

  end_prepared : (done : Bool) (i slot : ℕ) (past : List Moment) → prepared_in (said (end_note done) ∷ past) i slot ≡ prepared_in past i slot
  end_prepared true i slot past = refl
  end_prepared false i slot past = refl

  pub turn_fed : (past : List Moment) (s : Scene) (later : List Moment) (t : Scene) → Goes past s later t → (lines more : ℕ) → Holding units ready start past lines s.world → Holding units ready start later more t.world → Ground start (hist past s.world) s.world → Ground start (hist later t.world) t.world → IsTameOrFew (hist later t.world) → AreStill start (hist past s.world) s.world → AreFedStill start (hist past s.world) s.world → AreFedStill start (hist later t.world) t.world
  unfolding Turns
  turn_fed past s later t g lines more h h_now q q_now beside_now have fed =
      let grown = grown_by (hist past s.world) (hist later t.world) (goes_next past s later t g) in
      record {
        fed = by past s later t g lines more h h_now q q_now (goes_tame_or_few past s later t g beside_now) beside_now (turn_owns units ready has start s h (site_at start past s.world q).held later t g) (goes_size past s later t g) grown.new grown.is have fed;
        sent = sent_ahead start later t.world q_now beside_now;
      }
    where
      by : (past : List Moment) (s : Scene) (later : List Moment) (t : Scene) → Goes past s later t → Turns past s later t
      by _ _ _ _ (by_line past s line event told one fit may) = line_turn past s line event told one fit may
      by _ _ _ _ (by_start past s line most) = λ lines more h h_now q q_now beside beside_now owns count back behind have fed.
          resting_still units ready has start past s (asked line (more_deliveries most) ∷ hist past s.world) (begun s) h h_now q q_now beside beside_now owns count have fed back behind (asked line (more_deliveries most)) tt refl refl (λ i slot. refl)
      by _ _ _ _ (by_delivery past s one may no_act) = delivery_turn past s one may no_act
      by _ _ _ _ (by_end past s done) = λ lines more h h_now q q_now beside beside_now owns count back behind have fed.
          resting_still units ready has start past s past (settled_from done s) h h_now q q_now beside beside_now owns count have fed back behind (said (end_note done)) (end_noted done) refl refl (λ i slot. end_prepared done i slot (hist past s.world))
