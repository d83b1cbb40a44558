-- As each packet is got in a run in which no initiator injected packets, or few logins were given, of each initiator that injected none, what answers the management operation begins elsewhere than in a slot.
use Rattle.sbp_world.proofs.Common.{serial_is}
use Rattle.sbp_world.proofs.Words.Std.{arith, ◌≡◌, ◌∙◌, refl, sym, ap, subst, ◌<◌, ◌+◌, ◌&&◌, ℕ, suc, Bool, true, false, cond, List, [], ◌∷◌, length, Option, Some, None}
use Rattle.sbp_world.proofs.Words.Wire.{Access, Moment, asked, said, Terms, terms, Event, Note}
use Rattle.sbp_world.proofs.Words.Target.{Ahead, Main, Operation, high_eui_at, low_eui_at, source_in, Disk}
use Rattle.sbp_world.proofs.Words.Initiator.{new_memory, Window, start_of, window_at}
use Rattle.sbp_world.proofs.Words.Laws.{moved_by, payload_at, read_by, access_at, answered_at, id_for, receiver_in, sender_in, Agent, Purpose, Target, for_agent, for_manager, for_nobody, is_serial, over, purpose_among, purpose_of, target_at, EachMoment, injectors}
use Rattle.sbp_world.proofs.Words.World.{WorldState, Office, AccessOf, WasAsked, AllElsewhere, IsElsewhere, IsManagedElsewhere, ManagedAsGot, ManagedAsGotLaw, more_deliveries, ready_logins, OpenListsLaw, IsTameOrFew, IsCalm, BasedAt, IsInAPlace, AreShort, data_slot}
use Rattle.bus_memory.specs.declared.window.Window.TheVariants as windows
use Rattle.bus_memory.proofs.Found.{window_here}
use Rattle.mgmt_agent.specs.declared.operation.Phase.{Phase}
use Rattle.mgmt_agent.specs.declared.operation.Phase.TheVariants as phases
use Rattle.mgmt_agent.specs.Machine.{Machine}
use Rattle.sbp_world.proofs.Agents.Management.Offices.{over_keeps}
use Rattle.sbp_world.proofs.Agents.Management.Still.{hist}
use Rattle.sbp_world.specs.Agents.Holders.{IsOf}
use Rattle.sbp_world.proofs.Agents.Management.Holding.{Holding}
use Rattle.sbp_world.proofs.Lists.Beside.{done_based}
use Rattle.sbp_world.proofs.Lists.Calm.{calm_before}
use Rattle.sbp_world.proofs.Lists.KeptTurns.{id_is}
use Rattle.sbp_world.proofs.Lists.LiveSteps.{id_in}
use Rattle.sbp_journal.specs.declared.note.Note.TheVariants as notes
use Rattle.sbp_world.proofs.Lists.BufferClears.{Ground, ground_everywhere}
use Rattle.sbp_world.proofs.Lists.Courses.{EveryPlace, Keeps, at_between, at_lines, more_than_one}
use Rattle.sbp_world.proofs.Lists.GotTurns.{got_turn}
use Rattle.sbp_world.proofs.Lists.Judging.{goes_next, grown}
use Rattle.sbp_world.proofs.Lists.ListsProved.{closing}
use Rattle.sbp_world.proofs.Lists.LiveGiven.{ShortLaw, shorts_everywhere}
use Rattle.sbp_world.proofs.Lists.LiveLogins.{logins_known}
use Rattle.sbp_world.proofs.Lists.LiveRuns.{goes_tame_or_few}
use Rattle.sbp_world.proofs.Lists.OfficeWrites.{OfficeSoAt, comes_of, office_everywhere, op_placed}
use Rattle.sbp_world.proofs.Lists.OrbWaits.{over_twice}
use Rattle.sbp_world.proofs.Lists.OwnGots.{answered_same, read_so}
use Rattle.sbp_world.proofs.Lists.ContentManages.{bound}
use Rattle.sbp_world.proofs.Lists.ManageTerms.{none_is, same_some}
use Rattle.sbp_world.proofs.Lists.OfficeAsks.{HasOpOf}
use Rattle.sbp_world.proofs.Lists.OrbsRead.{access_there}
use Rattle.sbp_world.proofs.Lists.WriteAnswers.{no_bytes}

-- ---- a request of the operation
pub among_not : (k : ℕ) (agents : List Agent) (serial : ℕ) → purpose_among k agents serial ≡ for_manager → ⊥
among_not k [] serial e = (let no : for_nobody ≡ for_manager = e in cc)
among_not k (a ∷ agents) serial e = by (is_serial a.main serial) (is_serial a.ahead serial) (among_not (k + 1) agents serial) e
  where
    by : (x y : Bool) → (purpose_among (k + 1) agents serial ≡ for_manager → ⊥) → cond x (for_agent k Main) (cond y (for_agent k Ahead) (purpose_among (k + 1) agents serial)) ≡ for_manager → ⊥
    by true y f e = (let no : for_agent k Main ≡ for_manager = e in cc)
    by false true f e = (let no : for_agent k Ahead ≡ for_manager = e in cc)
    by false false f e = f e

of_manager : (b : Bool) (rest : Purpose) → cond b for_manager rest ≡ for_manager → (rest ≡ for_manager → ⊥) → b ≡ true
of_manager true rest e f = refl
of_manager false rest e f = absurd (f e)

pub manages_it : (start : List Disk) (past : List Moment) (own : ℕ) → purpose_of (over (target_at start past)) own ≡ for_manager → (target_at start past).manages ≡ Some own
manages_it start past own e =
    let T = over (target_at start past) in
    let b = of_manager (is_serial T.manages own) (purpose_among 0 T.agents own) e (among_not 0 T.agents own) in
    sym (ap (λ (o : Office). o.manages) (over_keeps (target_at start past))) ∙ serial_is T.manages own b

-- ---- where it begins
abbrev pub NoData : ℕ → Type 0
NoData at = (slot : ℕ) → data_slot (window_at at) ≡ Some slot → ⊥

pub rom_high : window_at high_eui_at ≡ Some windows.Rom
unfolding window_at
rom_high = refl

pub rom_low : window_at low_eui_at ≡ Some windows.Rom
unfolding window_at
rom_low = refl

no_data : (at : ℕ) (window : Window) → window_at at ≡ Some window → ((slot : ℕ) → data_slot (Some window) ≡ Some slot → ⊥) → NoData at
no_data at window e f slot d = f slot (ap data_slot (sym e) ∙ d)

rom_data : (slot : ℕ) → data_slot (Some windows.Rom) ≡ Some slot → ⊥
rom_data slot e = none_is slot e

place_data : (place slot : ℕ) → data_slot (Some (windows.Management place)) ≡ Some slot → ⊥
place_data place slot e = none_is slot e

place_there : (place : ℕ) → place < 2 → window_at (start_of (windows.Management place)) ≡ Some (windows.Management place)
place_there place small = window_here (new_memory []) (start_of (windows.Management place)) (windows.Management place) small (omega arith) (omega arith)

-- it reads elsewhere, or writes
pub data Aims (access : Access) : Type 0 where
  elsewhere : NoData access.offset → Aims access
  writes : access.is_write ≡ true → Aims access

pub aims_by : (phase : Phase) (op : Operation) (access : Access) → AccessOf phase op access → IsInAPlace op → Aims access
aims_by phases.Orb op access a p =
    elsewhere (subst (λ (x : Access). NoData x.offset) (sym a) (subst NoData (sym p.orb) (no_data (start_of (windows.Management p.place)) (windows.Management p.place) (place_there p.place p.small) (place_data p.place))))
aims_by (phases.HighEui orb) op access a p = elsewhere (subst (λ (x : Access). NoData x.offset) (sym a) (no_data high_eui_at windows.Rom rom_high rom_data))
aims_by (phases.LowEui orb high) op access a p = elsewhere (subst (λ (x : Access). NoData x.offset) (sym a) (no_data low_eui_at windows.Rom rom_low rom_data))
aims_by (phases.Response fifo) op access a p = writes a
aims_by phases.Status op access (status, (fifo, a)) p = writes (ap (λ (x : Access). x.is_write) a)

-- ---- at a place
module _ (units ready : ℕ) (has : 0 < units) (start : List Disk) {past : List Moment} {lines : ℕ} (w : WorldState) (h : Holding units ready start past lines w) (g : Ground start (hist past w) w) (shorts : AreShort (hist past w)) (based : (i : ℕ) → i < length w.initiators → IsCalm (hist past w) i → EachMoment (BasedAt i) (hist past w)) (o : OfficeSoAt start (hist past w) w) where
  abbrev ms : List Moment
  ms = hist past w

  abbrev t : Terms
  t = terms ms

  module _ (serial i slot own : ℕ) (calm : IsCalm ms i) (closed : answered_at t serial ≡ Some own) (purpose : purpose_of (over (target_at start ms)) own ≡ for_manager) where
    abbrev Elsewhere : Type 0
    Elsewhere = AllElsewhere slot (read_by t i serial (Some own))

    abbrev Begins : Access → Type 0
    Begins access = IsElsewhere slot (record { offset = access.offset; bytes = payload_at t serial })

    manages : (target_at start ms).manages ≡ Some own
    manages = manages_it start ms own purpose

    read_at : (b c : Bool) (access : Access) → access_at t own ≡ Some access → (b ≡ true → Begins access) → AllElsewhere slot (cond (b && c) (moved_by (access_at t own) (payload_at t serial)) [])
    read_at false c access is e = tt
    read_at true false access is e = tt
    read_at true true access is e = subst (λ (a : Option Access). AllElsewhere slot (moved_by a (payload_at t serial))) (sym is) (e refl, tt)

    -- the operation is one of the initiator of which the packet comes
    module _ (op : Operation) (e : (target_at start ms).manager.operation ≡ Some op) (from : sender_in (t.sent serial) ≡ Some (suc i)) where
      there : w.target.manager.operation ≡ Some op
      there = ap (λ (m : Machine). m.operation) (sym h.at.agrees.manager) ∙ e

      of : (initiator : ℕ) × IsOf t (length w.initiators) initiator op.source
      of = g.known.held.operation op.source (ap source_in there)

      abbrev j : ℕ
      j = of.0

      within : j < length w.initiators
      within = of.1.small

      source_there : op.source ≡ id_in w j
      source_there = sym of.1.node_is ∙ (ap (λ n. id_for t 0 n) (let z : j + 1 ≡ suc j = omega arith in z) ∙ id_is units ready has start w h j within)

      same : j ≡ i
      same =
          let both : suc j ≡ suc i = same_some (suc j) (suc i) (sym (comes_of units ready has start w h g j within op e source_there serial own closed manages) ∙ from) in
          omega (arith, both)

      inside : i < length w.initiators
      inside = subst (λ n. n < length w.initiators) same within

      source : op.source ≡ id_in w i
      source = source_there ∙ ap (λ n. id_in w n) same

      has_op : HasOpOf (id_in w i) (target_at start ms).manager
      has_op = record { op = op; is = e; of = source }

      placed : IsInAPlace op
      placed = op_placed units ready has start w h g i inside op e source calm shorts (based i inside calm)

      by_access : (access : Access) → access_at t own ≡ Some access → Aims access → Begins access
      by_access access is (elsewhere none) = record { table = λ e. none slot (ap data_slot e); buffer = λ e. absurd (none slot (ap data_slot e)) }
      by_access access is (writes write) = record { table = λ e. (o i inside calm shorts (based i inside calm)).waits_may has_op own manages access is write slot e; buffer = λ e. no_bytes w h.sound.stands serial own closed access is write }

    by_operation : (operation : Option Operation) → (target_at start ms).manager.operation ≡ operation → Elsewhere
    by_operation None e = none_is own (sym ((bound start ms g.known.counts).bare e) ∙ manages)
    by_operation (Some op) e =
        let was : WasAsked start ms own op = g.known.are.each own op (((bound start ms g.known.counts).own own manages).0 ∙ e) in
        let is = access_there start ms g.known.counts own op was in
        read_at (is_serial (sender_in (t.sent serial)) (suc i)) (is_serial (receiver_in (t.sent serial)) 0) was.access is
        (λ f. let from = serial_is (sender_in (t.sent serial)) (suc i) f in by_access op e from was.access is (aims_by op.phase op was.access was.content (placed op e from)))

    managed_elsewhere : Elsewhere
    managed_elsewhere = by_operation (target_at start ms).manager.operation refl

  pub managed_here : (serial : ℕ) → IsManagedElsewhere (injectors ms) start ms serial
  managed_here serial i slot own calm closed purpose = managed_elsewhere serial i slot own calm closed purpose

-- ---- as a line begins
managed_asked : (wild : ℕ → Bool) (start : List Disk) (line : ℕ) (event : Event) (past : List Moment) → ((serial : ℕ) → IsManagedElsewhere wild start past serial) → (serial : ℕ) → IsManagedElsewhere wild start (asked line event ∷ past) serial
managed_asked wild start line event past a serial i slot own quiet closed purpose =
    subst (AllElsewhere slot) (sym (read_so start line event past i serial (Some own)))
    (a serial i slot own quiet (sym (answered_same start line event past serial) ∙ closed) (subst (λ (T : Target). purpose_of T own ≡ for_manager) (over_twice (target_at start past)) purpose))

-- ---- of more initiators that injected packets
module _ (wild more : ℕ → Bool) (calm : (i : ℕ) → more i ≡ false → wild i ≡ false) (start : List Disk) where
  managed_but : (past : List Moment) (serial : ℕ) → IsManagedElsewhere wild start past serial → IsManagedElsewhere more start past serial
  managed_but past serial managed i slot request quiet = managed i slot request (calm i quiet)

  note_but : (note : Note) (past : List Moment) → ManagedAsGot wild start (said note) past → ManagedAsGot more start (said note) past
  note_but (notes.Got serial) past managed = managed_but past serial managed
  note_but note past managed = tt

  all_but : (past : List Moment) → EachMoment (ManagedAsGot wild start) past → EachMoment (ManagedAsGot more start) past
  all_but [] managed = tt
  all_but (asked line event ∷ past) managed = (tt, all_but past managed.1)
  all_but (said note ∷ past) managed = (note_but note past managed.0, all_but past managed.1)

-- ---- at each place of a run
pub record Kit (start : List Disk) (past : List Moment) (w : WorldState) : Type 0 where
  pub ground : Ground start past w
  pub office : OfficeSoAt start past w
  pub based : IsTameOrFew past → (i : ℕ) → i < length w.initiators → IsCalm past i → EachMoment (BasedAt i) past
  pub shorts : AreShort past

abbrev ManagedSo : List Disk → List Moment → WorldState → Type 0
ManagedSo start past w = IsTameOrFew past → EachMoment (ManagedAsGot (injectors past) start) past

module _ (short : ShortLaw) where
  pub kit_everywhere : EveryPlace Kit
  kit_everywhere =
      let shorts = shorts_everywhere short in
      let known = logins_known short in
      record {
        after_lines = λ line run r has small size so_far. record {
          ground = ground_everywhere.after_lines line run r has small size so_far;
          office = office_everywhere.after_lines line run r has small size so_far;
          based = λ beside i l calm. done_based run.start.disks _ _ i l (known.after_lines line run r has small size so_far i l (calm, beside));
          shorts = shorts.after_lines line run r has small size so_far;
        };
        between = λ line run r has small size next most told m so_far. record {
          ground = ground_everywhere.between line run r has small size next most told m so_far;
          office = office_everywhere.between line run r has small size next most told m so_far;
          based = λ beside i l calm. done_based run.start.disks _ _ i l (known.between line run r has small size next most told m so_far i l (calm, beside));
          shorts = shorts.between line run r has small size next most told m so_far;
        };
      }

  all_managed : (units ready : ℕ) → 0 < units → (start : List Disk) → Keeps units ready start (Kit start) (ManagedSo start)
  all_managed units ready has start past s later t lines more g h h_now q q_now e beside =
      let before = hist past s.world in
      let now = hist later t.world in
      let then = goes_tame_or_few past s later t g beside in
      let x = grown before now (goes_next past s later t g) in
      let calm : (i : ℕ) → injectors now i ≡ false → injectors before i ≡ false = λ i quiet. calm_before x.new before i (subst (λ ms. IsCalm ms i) (sym x.is) quiet) in
      got_turn (IsManagedElsewhere (injectors now) start) (managed_asked (injectors now) start) before now (goes_next past s later t g)
      (λ serial. managed_but (injectors before) (injectors now) calm start before serial (managed_here units ready has start s.world h q.ground q.shorts (q.based then) q.office serial))
      (all_but (injectors before) (injectors now) calm start before (e then))

  managed_as_got : EveryPlace ManagedSo
  managed_as_got = record {
    after_lines = λ line run r has small size so_far.
        at_lines Kit (ManagedSo run.start.disks) kit_everywhere line run r.few has small size (all_managed run.units (ready_logins run.initiators run.ready) has run.start.disks) (λ beside. (tt, (tt, tt))) r so_far;
    between = λ line run r has small size next most told m so_far.
        at_between Kit (ManagedSo run.start.disks) kit_everywhere line run r.few has small size (all_managed run.units (ready_logins run.initiators run.ready) has run.start.disks) (λ beside. (tt, (tt, tt))) r next most told m so_far;
  }

  pub managed_as_got_law : OpenListsLaw → ManagedAsGotLaw
  managed_as_got_law lists = record {
    after_lines = λ line run r has small size beside. managed_as_got.after_lines line run r has small size (closing.before lists line run r has small size beside) beside;
    between = λ line run r has small size next most told m beside.
        managed_as_got.between line run r has small size next most told m (closing.between lists line run r has small size next (more_deliveries most) (more_than_one most) told m beside) beside;
  }
