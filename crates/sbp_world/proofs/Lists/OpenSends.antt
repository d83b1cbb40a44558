-- As the target sent a read that an agent waits for, to an initiator that injected no packets, the latest list of this initiator was open: this agent alone of the initiator's was out of RESET, and the pointer that it took named the list. A turn keeps this.
use Rattle.sbp_world.proofs.Common.{same_node}
use Rattle.sbp_world.proofs.Words.Std.{inl, inr, ◌⊎◌, arith, ◌≡◌, ◌∙◌, refl, sym, ap, subst, ◌<◌, ◌≤◌, ◌+◌, not, ℕ, suc, nat_lt, Bool, true, false, List, [], ◌∷◌, ◌++◌, map, Option, Some, None, nat_tests}
use Rattle.sbp_world.proofs.Words.Wire.{Access, Moment, said, Sending, terms, Note, SerialsCount}
use Rattle.sbp_world.proofs.Words.Target.{Phase, Which, Ahead, Main, state_in, is_reset, Disk}
use Rattle.sbp_world.proofs.Words.Laws.{list_taken, before_sent, open_list, access_at, access_in, packet_in, receiver_in, sender_in, Target, agent_at, term_initiator, known_at, over, target_at, lists}
use Rattle.sbp_world.proofs.Words.World.{has_list, serial_of, agent_in, Scene, WorldState, IsCalm, IsOpenAt, initiator_in, is_open_at, machine_at, AreApart, IsUp, IsTameOrFew, AreTaken}
use Rattle.sbp_journal.specs.declared.note.Note.TheVariants as notes
use Rattle.sbp_world.proofs.Agents.Management.Holding.{Holding}
use Rattle.sbp_world.proofs.Agents.Management.Still.{hist}
use Rattle.sbp_world.proofs.Hosts.Remaining.{remains}
use Rattle.sbp_world.proofs.Hosts.SentMoments.{sent_below}
use Rattle.sbp_world.proofs.Lists.LiveRuns.{goes_calm}
use Rattle.sbp_world.proofs.Lists.Awaited.{Awaits, waits_as}
use Rattle.sbp_world.proofs.Lists.Courses.{Goes}
use Rattle.sbp_world.proofs.Lists.Judging.{goes_next, grown as grown_by}
use Rattle.sbp_world.proofs.Lists.ManageTerms.{none_is}
use Rattle.sbp_world.proofs.Lists.OpenCuts.{is_up}
use Rattle.sbp_world.proofs.Lists.OpenTurns.{listing_up}
use Rattle.sbp_world.proofs.Lists.AgentGoes.{ends_turn, note_goes, stay, then_goes}
use Rattle.sbp_world.proofs.Lists.PointersHeld.{AllHold, Holds, are_going}
use Rattle.sbp_world.proofs.Lists.TakenTerms.{sends_over}
use Rattle.sbp_world.proofs.Lists.SendsLast.{AllSends}
use Rattle.sbp_world.proofs.Lists.SendsLeave.{Leaves, SameIds, beyond_down, no_open, one_open, over_leaves, same_initiator, sends_ids, sends_leave, sends_lists, then_left}
use Rattle.sbp_world.proofs.Lists.Sites.{Site, Waiting, waiting, who_up}
use Rattle.sbp_world.proofs.Lists.StillTurns.{Ground, site_at}
use Rattle.sbp_world.proofs.Lists.TurnSends.{SentLast, since_turn}
use Rattle.sbp_world.proofs.Lists.TurnShapes.{goes_shape}
use Rattle.sbp_world.proofs.Lists.WasReads.{sender_sent}
use Rattle.sbp_world.proofs.Hosts.Cores.{not_so as up_state}

-- the latest list of an initiator is open
pub record IsOpenThen (start : List Disk) (past : List Moment) (i : ℕ) : Type 0 where
  pub n : ℕ
  pub opened : open_list start past i ≡ Some n
  pub latest : suc n ≡ lists past i

-- the agent of a place waits for a read, which went to an initiator that injected no packets
pub record ReadsOf (start : List Disk) (past : List Moment) (place : ℕ) (which : Which) (serial i : ℕ) : Type 0 where
  pub waits : serial_of which (agent_at (over (target_at start past)) place) ≡ Some serial
  pub to : receiver_in ((terms past).sent serial) ≡ Some (suc i)
  pub calm : IsCalm past i
  pub access : Access
  pub is : access_at (terms past) serial ≡ Some access
  pub reads : access.is_write ≡ false

abbrev pub AreOpenReads : List Disk → List Moment → Type 0
AreOpenReads start past = (place : ℕ) → place < 8 → (which : Which) (serial i : ℕ) → ReadsOf start past place which serial i → IsOpenThen start (before_sent past serial) i

received : (so : Option Sending) (i : ℕ) → receiver_in so ≡ Some i → (packet : Sending) × (so ≡ Some packet)
received None i e = none_is i e
received (Some packet) i e = (packet, refl)

-- ---- packets leave the pointers
module _ (start : List Disk) where
  sends_hold : (ns : List Note) (past : List Moment) → AllSends ns → AllHold (target_at start past).agents (target_at start (map said ns ++ past)).agents
  sends_hold [] past q = stay Holds are_going (target_at start past).agents
  sends_hold (notes.Sent serial generation from to bytes ∷ ns) past q =
      let ms = map said ns ++ past in
      let note = notes.Sent serial generation from to bytes in
      then_goes Holds are_going (target_at start past).agents (target_at start ms).agents (target_at start (said note ∷ ms)).agents (sends_hold ns past q.1) (note_goes Holds are_going note ms (known_at start ms).wire (target_at start ms) tt)
  sends_hold (note ∷ ns) past q = absurd q.0

  pub over_hold : (ns : List Note) (past : List Moment) → AllSends ns → AllHold (target_at start past).agents (over (target_at start (map said ns ++ past))).agents
  over_hold ns past q =
      let t = target_at start (map said ns ++ past) in then_goes Holds are_going (target_at start past).agents t.agents (over t).agents (sends_hold ns past q) (ends_turn Holds are_going t)

  pub over_left : (ns : List Note) (past : List Moment) → AllSends ns → Leaves (target_at start past) (over (target_at start (map said ns ++ past)))
  over_left ns past q =
      let t = target_at start (map said ns ++ past) in then_left (target_at start past) t (over t) (sends_leave start ns past q) (over_leaves t)

-- ---- which list is open, by the history before the last packets of a turn
module _ (units ready : ℕ) (has : 0 < units) (start : List Disk) (past : List Moment) (v : WorldState) {lines : ℕ} (h : Holding units ready start past lines v) (site : Site start past v) (then : List Moment) (behind : List Note) (sends : AllSends behind) (is : map said behind ++ then ≡ hist past v) where
  abbrev now : List Moment
  now = hist past v

  abbrev T : Target
  T = over (target_at start now)

  abbrev t : Target
  t = target_at start then

  leaves : Leaves t T
  leaves = subst (λ ms. Leaves t (over (target_at start ms))) is (over_left start behind then sends)

  hold : AllHold t.agents T.agents
  hold = subst (λ ms. AllHold t.agents (over (target_at start ms)).agents) is (over_hold start behind then sends)

  phase_same : (p : ℕ) → p < 8 → (agent_at T p).machine.phase ≡ (machine_at v p).phase
  phase_same p c = (site.agents.are.each p c).machine.phase

  initiator_same : (p : ℕ) → term_initiator T (terms now) p ≡ term_initiator t (terms then) p
  initiator_same p =
      let ids = subst (λ ms. SameIds (terms then) (terms ms)) is (sends_ids behind then sends) in same_initiator (terms then) (terms now) t T ids leaves.table p

  -- an agent that is out of RESET, by that history, is so at its place, which is its initiator's
  up_at : (p : ℕ) → p < 8 → is_up (agent_in t.agents p).machine ≡ true → is_up (machine_at v p) ≡ true
  up_at p c u = ap (λ (phase : Phase). not (is_reset (state_in phase))) (sym (phase_same p c)) ∙ leaves.up p u

  owner : (p : ℕ) (c : p < 8) → is_up (machine_at v p) ≡ true → term_initiator t (terms then) p ≡ initiator_in v p
  owner p c u = sym (initiator_same p) ∙ (who_up units ready has start v h site p c (up_state (is_reset (state_in (machine_at v p).phase)) u)).same

  up_of : (i j k : ℕ) → 0 + j ≡ k → is_up (agent_in t.agents j).machine ≡ true → term_initiator t (terms then) k ≡ i → (j < 8) × IsUp v i j
  up_of i j k at u e = by (nat_lt j 8) refl
    where
      same : k ≡ j
      same = omega (arith, at)

      by : (x : Bool) → nat_lt j 8 ≡ x → (j < 8) × IsUp v i j
      by true f =
          let c : j < 8 = grind (arith, nat_tests) in
          let there = up_at j c u in
          (c, record { up = there; own = sym (owner j c there) ∙ (ap (term_initiator t (terms then)) (sym same) ∙ e) })
      by false f =
          let far : 8 ≤ j = grind (arith, nat_tests) in
          beyond_down T.agents j ((j < 8) × IsUp v i j) (let z = site.agents.are.size in omega (arith, z, far)) (leaves.up j u)

  -- An initiator of whose agents none is out of RESET has no open list.
  pub none_open : (i : ℕ) → ((place : ℕ) → place < 8 → IsUp v i place → ⊥) → open_list start then i ≡ None
  none_open i none = no_open start then (terms then) t i 0 t.agents (λ j k at u e. let x = up_of i j k at u e in none j x.0 x.1)

  -- The list that an agent has open is the open one of its initiator.
  module _ (taken : AreTaken start now v) (apart : AreApart now v) (place : ℕ) (b : place < 8) (open_there : is_open_at v place ≡ true) (calm : IsCalm now (initiator_in v place)) (o : IsOpenAt now v place) where
    abbrev i : ℕ
    i = initiator_in v place

    held : ((agent_at T place).pointer ≡ (agent_at t place).pointer) × (has_list (agent_at t place).machine.phase ≡ true)
    held = hold place (ap has_list (phase_same place b) ∙ open_there)

    list_is : list_taken start then place ≡ Some o.n
    list_is =
        sym (subst (λ ms. list_taken start ms place ≡ list_taken start then place) is (sends_over start place behind then sends))
        ∙ (taken place b (up_state (is_reset (state_in (machine_at v place).phase)) (listing_up (machine_at v place).phase open_there)) ∙ o.list)

    -- the place is the initiator's, and no other one of it has an agent out of RESET
    up_here : is_up (agent_in t.agents place).machine ≡ true
    up_here = listing_up (agent_in t.agents place).machine.phase held.1

    own : term_initiator t (terms then) place ≡ i
    own = owner place b (up_at place b up_here)

    alone : (j k : ℕ) → 0 + j ≡ k → is_up (agent_in t.agents j).machine ≡ true → term_initiator t (terms then) k ≡ i → j ≡ place
    alone j k at u e =
        let x = up_of i j k at u e in
        apart i place j calm b x.0 (record { up = up_at place b up_here; own = refl }) x.1

    pub open_is : open_list start then i ≡ Some o.n
    open_is = one_open start then (terms then) t i o.n 0 t.agents place place (let z : 0 + place ≡ place = omega arith in z) up_here own list_is alone

    pub latest_is : suc o.n ≡ lists then i
    latest_is = o.still.latest ∙ subst (λ ms. lists ms i ≡ lists then i) is (sends_lists behind then i sends)

-- ---- behind a turn
module _ (units ready : ℕ) (has : 0 < units) (start : List Disk) (past : List Moment) (v : WorldState) {lines : ℕ} (h : Holding units ready start past lines v) (q : Ground start (hist past v) v) (beside : IsTameOrFew (hist past v)) (taken : AreTaken start (hist past v) v) (apart : AreApart (hist past v) v) (place : ℕ) (b : place < 8) (which : Which) (serial i : ℕ) (r : ReadsOf start (hist past v) place which serial i) (last : SentLast (hist past v) serial) where
  -- before the packet
  abbrev then : List Moment
  then = before_sent (hist past v) serial

  site : Site start past v
  site = site_at start past v q

  asked : Waiting units ready has start v h site place b which serial
  asked = waiting units ready has start v h site place b which serial r.waits

  i_is : i ≡ initiator_in v place
  i_is = same_node i (initiator_in v place) (sym r.to ∙ asked.to)

  calm : IsCalm (hist past v) (initiator_in v place)
  calm = subst (IsCalm (hist past v)) i_is r.calm

  abbrev o : IsOpenAt (hist past v) v place
  o = (q.lists beside).listed place b asked.is_open calm

  pub opened_last : IsOpenThen start then i
  opened_last = record {
    n = o.n;
    opened =
        subst (λ j. open_list start then j ≡ Some o.n) (sym i_is)
        (open_is units ready has start past v h site then last.behind last.are_sends last.is taken apart place b asked.is_open calm o);
    latest =
        subst (λ j. suc o.n ≡ lists then j) (sym i_is)
        (latest_is units ready has start past v h site then last.behind last.are_sends last.is taken apart place b asked.is_open calm o);
  }

-- ---- a turn
module _ (units ready : ℕ) (has : 0 < units) (start : List Disk) (past : List Moment) (s : Scene) (later : List Moment) (t : Scene) (g : Goes past s later t) {lines more : ℕ} (h : Holding units ready start past lines s.world) (h_now : Holding units ready start later more t.world) (q : Ground start (hist past s.world) s.world) (q_now : Ground start (hist later t.world) t.world) (beside_now : IsTameOrFew (hist later t.world)) (taken : AreTaken start (hist later t.world) t.world) (apart : AreApart (hist later t.world) t.world) (so_far : AreOpenReads start (hist past s.world)) where
  abbrev before : List Moment
  before = hist past s.world

  abbrev now_then : List Moment
  now_then = hist later t.world

  site_before : Site start past s.world
  site_before = site_at start past s.world q

  site_now : Site start later t.world
  site_now = site_at start later t.world q_now

  module _ (place : ℕ) (b : place < 8) (which : Which) (serial i : ℕ) (r : ReadsOf start now_then place which serial i) where
    asked_from : (one : Which) → serial_of one (agent_at (over (target_at start before)) place) ≡ Some serial → sender_in ((terms before).sent serial) ≡ Some 0
    asked_from Main e = ((site_before.asked.all place b).main serial e).from
    asked_from Ahead e = ((site_before.asked.all place b).ahead serial e).from

    old : (one : Which) → serial_of one (agent_at (over (target_at start before)) place) ≡ Some serial → IsOpenThen start (before_sent now_then serial) i
    old one e =
        let x = sender_sent ((terms before).sent serial) 0 (asked_from one e) in
        let below = sent_below before serial x.0 site_before.serials x.1 in
        let grown = grown_by before now_then (goes_next past s later t g) in
        let remain = remains grown.new before (subst SerialsCount (sym grown.is) site_now.serials) in
        let sent : (terms now_then).sent serial ≡ (terms before).sent serial = ap (λ ms. (terms ms).sent serial) (sym grown.is) ∙ remain.sent serial below in
        let front : before_sent now_then serial ≡ before_sent before serial = ap (λ ms. before_sent ms serial) (sym grown.is) ∙ remain.before_it serial below in
        subst (λ ms. IsOpenThen start ms i) (sym front)
        (so_far place b one serial i (record { waits = e; to = ap receiver_in (sym sent) ∙ r.to; calm = goes_calm past s later t g i r.calm; access = r.access; is = ap (λ so. access_in (packet_in so)) (sym sent) ∙ r.is; reads = r.reads }))

    since : Awaits (agent_at (over (target_at start before)) place) serial ⊎ SentLast now_then serial → IsOpenThen start (before_sent now_then serial) i
    since (inl (inl e)) = old Main e
    since (inl (inr e)) = old Ahead e
    since (inr last) = opened_last units ready has start later t.world h_now q_now beside_now taken apart place b which serial i r last

    reads_open : IsOpenThen start (before_sent now_then serial) i
    reads_open =
        let x = received ((terms now_then).sent serial) (suc i) r.to in
        since (since_turn start before now_then site_now.serials place serial x.0 x.1 (goes_shape past s later t g) (waits_as which (agent_at (over (target_at start now_then)) place) serial r.waits))

  pub turn_open : AreOpenReads start now_then
  turn_open place b which serial i r = reads_open place b which serial i r
