-- The target has the login of an initiator while a write of ORB_POINTER of it waits, from turn to turn, where the initiator has given up meanwhile.
use Rattle.sbp_world.proofs.Words.Std.{arith, ◌≡◌, ◌∙◌, inr, refl, sym, ap, subst, ◌<◌, ◌≤◌, ◌+◌, ◌%◌, ◌^◌, ℕ, suc, Bool, true, false, List, [], ◌∷◌, ◌++◌, map, length, Option, Some, same_Some, none-some}
use Rattle.sbp_world.proofs.Words.Wire.{Access, Event, Moment, Sending, SerialsCount, asked, said, terms}
use Rattle.sbp_world.proofs.Words.Target.{Disk, NodeState, Told}
use Rattle.sbp_world.proofs.Words.Initiator.{InitiatorState, is_stuck_seat, start_of}
use Rattle.sbp_world.proofs.Words.Laws.{access_in_bytes, id_for, slot_at}
use Rattle.sbp_world.proofs.Words.World.{AreSame, FewLogins, HasGivenUp, IsCalm, IsRun, MayAll, OpenBefore, OpenBetween, Run, Scene, WorldState, after, after_all, beginning, begun, history_of, initiator_at, moments_behind, more_deliveries, pointed_list, pointer_write, ready_logins}
use Rattle.bus_memory.specs.declared.window.Window.TheVariants as windows
use Rattle.sbp_world.specs.Completing.PresentHomes.{AreHomeStill, HasHome, HomeStillFewLaw, WaitsFor}
use Rattle.sbp_world.specs.Pointers.Pointers.{IsNamed, IsPointer, IsPointing}
use Rattle.sbp_world.proofs.Agents.Management.Holding.{Holding, known_id}
use Rattle.sbp_world.proofs.Agents.Management.Still.{hist}
use Rattle.sbp_world.proofs.Agents.Management.Lines.{all_heard, opens}
use Rattle.sbp_world.proofs.Agents.Management.Runs.{holds_after, no_repeats, not_reset}
use Rattle.sbp_world.proofs.Completing.PresentBased.{based_few_law}
use Rattle.sbp_world.proofs.Completing.PresentLive.{stood_after, stood_between}
use Rattle.sbp_world.proofs.Hosts.Runs.{are_told, count_after, count_between}
use Rattle.sbp_world.proofs.Lists.Beside.{few_back}
use Rattle.sbp_world.proofs.Lists.BufferClears.{buffers_held}
use Rattle.sbp_world.proofs.Lists.LiveBuffered.{buffer_turns}
use Rattle.sbp_world.proofs.Lists.LiveGranted.{grown_by}
use Rattle.sbp_world.proofs.Lists.LiveJoined.{Held, helped}
use Rattle.sbp_world.proofs.Lists.LiveLogins.{laws, logouts_end, stored}
use Rattle.sbp_world.proofs.Lists.LiveProved.{held_everywhere}
use Rattle.sbp_world.proofs.Lists.PlaceBrings.{place_reads_law}
use Rattle.sbp_world.proofs.Lists.ShortLines.{short_law}
use Rattle.sbp_world.proofs.Lists.StoredTurns.{stored_turns}
use Rattle.sbp_world.proofs.Lists.UnderwayRuns.{delivering}
use Rattle.sbp_world.proofs.Pointers.Based.{registers_law}
use Rattle.sbp_world.proofs.Pointers.Proved.{pointers_law}
use Rattle.sbp_world.proofs.Completing.HomeDecides.{call_keeps, call_stands}
use Rattle.sbp_world.proofs.Completing.HomeMoments.{Inertly, all_pointers}
use Rattle.sbp_world.proofs.Completing.HomePlaces.{InHand, KeptOn, Near, hand_stays, has_home, in_hand, not_ahead}
use Rattle.sbp_world.proofs.Completing.HomeTurns.{call_told, turn_go}
use Rattle.sbp_world.proofs.Hosts.Remaining.{remains}
use Rattle.sbp_world.proofs.Hosts.SentMoments.{sent_below}
use Rattle.sbp_world.proofs.Lists.Courses.{EveryPlace, Goes, Keeps, at_between, at_lines, more_than_one}
use Rattle.sbp_world.proofs.Lists.Judging.{Grown, counts_at, goes_next, grown}
use Rattle.sbp_world.proofs.Lists.LiveDecides.{keeps_logins}
use Rattle.sbp_world.proofs.Lists.LiveHandled.{gave_up}
use Rattle.sbp_world.proofs.Lists.LiveLaws.{given_up}
use Rattle.sbp_world.proofs.Lists.LiveOwn.{GaveUp, in_hand as has_one, two_ways}
use Rattle.sbp_world.proofs.Lists.LivePlaced.{placed_turns}
use Rattle.sbp_world.proofs.Lists.LiveRuns.{all_after, all_between, base_of, goes_calm, goes_size, goes_turned, known_everywhere}
use Rattle.sbp_world.proofs.Lists.LiveSteps.{GaveUpOf, id_in, own_of, zero_of}
use Rattle.sbp_world.proofs.Lists.LiveTurns.{SameBus, TurnOf, by_clearing, by_own, by_sight, by_target}
use Rattle.sbp_world.proofs.Lists.OpenNews.{all_grow}
use Rattle.sbp_world.proofs.Sessions.Turns.{wire_generation}

-- a write waits to be judged, in the generation of its initiator
pub record Loose (past : List Moment) (i n serial : ℕ) : Type 0 where
  pub pointed : pointed_list past serial i ≡ Some n
  pub pointer : IsPointer past i n serial
  pub current : pointer.packet.generation ≡ (terms past).generation (suc i)
  pub unjudged : (terms past).news serial ≡ 0

pub record Found (start : List Disk) (past : List Moment) (w : WorldState) (i base : ℕ) : Type 0 where
  pub home : HasHome w (id_in w i) base
  pub hand : InHand keeps_logins start past w i

abbrev pub Waited : List Disk → List Moment → WorldState → Type 0
Waited start past w = FewLogins past → (i : ℕ) → i < length w.initiators → IsCalm past i → HasGivenUp past i → (n serial : ℕ) → (x : Loose past i n serial) → (own_of w i ≤ zero_of w) × (zero_of w ≡ own_of w i → Found start past w i x.pointer.base)

module _ (units ready : ℕ) (has : 0 < units) (start : List Disk) (past : List Moment) (s : Scene) (later : List Moment) (t : Scene) (lines more : ℕ) (g : Goes past s later t) (h : Holding units ready start past lines s.world) (h_now : Holding units ready start later more t.world) (q : Near start (hist past s.world) s.world) (q_now : Near start (hist later t.world) t.world) (p : Waited start (hist past s.world) s.world) (few_now : FewLogins (hist later t.world)) (i : ℕ) (l_now : i < length t.world.initiators) (calm_now : IsCalm (hist later t.world) i) (up_now : HasGivenUp (hist later t.world) i) (n serial : ℕ) (x : Loose (hist later t.world) i n serial) where
  abbrev w : WorldState
  w = s.world

  abbrev v : WorldState
  v = t.world

  abbrev before : List Moment
  before = hist past w

  abbrev now : List Moment
  now = hist later v

  l : i < length w.initiators
  l = subst (λ c. i < c) (goes_size past s later t g) l_now

  calm : IsCalm before i
  calm = goes_calm past s later t g i calm_now

  gave_now : GaveUpOf v i
  gave_now = let c = q_now.live.known.cored i l_now in gave_up c.ready now v i c.cored up_now

  turned : TurnOf i w (base_of g) v
  turned = goes_turned units ready has start past s later t g h i l

  inert : Inertly i before now
  inert = turn_go units ready has start i past s later t g lines h l gave_now turned

  on : Grown before now
  on = grown before now (goes_next past s later t g)

  few : FewLogins before
  few = few_back on.new before (subst FewLogins (sym on.is) few_now)

  counts : SerialsCount (on.new ++ before)
  counts = subst SerialsCount (sym on.is) (counts_at v h_now.sound.stands)

  -- ---- the write was sent before
  named : IsNamed before i serial
  named = (q.pointers i l).named serial (all_pointers serial i before now inert ((q_now.pointers i l_now).waits calm_now n serial x.pointer.packet x.pointed x.pointer.sent x.current x.unjudged).named)

  pointer : IsPointer before i named.list serial
  pointer = (q.pointers i l).each named.list serial named.is

  old : serial ≤ (terms before).count
  old = sent_below before serial pointer.packet (counts_at w h.sound.stands) pointer.sent

  packets : pointer.packet ≡ x.pointer.packet
  packets = same_Some pointer.packet x.pointer.packet (sym pointer.sent ∙ (sym ((remains on.new before counts).sent serial old) ∙ (ap (λ ms. (terms ms).sent serial) on.is ∙ x.pointer.sent)))

  own_then : (terms before).generation (suc i) ≡ own_of w i
  own_then = wire_generation w h.sound.stands (suc i) (let b = l in omega (arith, b))

  own_now : (terms now).generation (suc i) ≡ own_of v i
  own_now = wire_generation v h_now.sound.stands (suc i) (omega (arith, l_now))

  unjudged : (terms before).news serial ≡ 0
  unjudged = let grows = all_grow serial on.new before in let same = ap (λ ms. (terms ms).news serial) on.is in let zero = x.unjudged in omega (arith, grows, same, zero)

  loose : own_of v i ≡ own_of w i → Loose before i named.list serial
  loose e = record { pointed = named.is; pointer = pointer; current = ap (λ (y : Sending). y.generation) packets ∙ (x.current ∙ (own_now ∙ (e ∙ sym own_then))); unjudged = unjudged }

  offset_is : (x.pointer.base + 0x08) % 2 ^ 48 ≡ (pointer.base + 0x08) % 2 ^ 48
  offset_is =
      ap (λ (a : Access). a.offset)
      (same_Some (pointer_write x.pointer.base (start_of (windows.Orb (slot_at now i n 0)))) (pointer_write pointer.base (start_of (windows.Orb (slot_at before i named.list 0))))
      (sym x.pointer.spelled ∙ (ap (λ (y : Sending). access_in_bytes y.bytes) (sym packets) ∙ pointer.spelled)))

  -- ---- over the turn
  moved : id_in v i ≡ id_in w i → AreSame (id_in w i) w.target.logins.places v.target.logins.places → HasHome w (id_in w i) pointer.base → HasHome v (id_in v i) x.pointer.base
  moved e same k = record {
    place = k.place;
    small = k.small;
    at = offset_is ∙ k.at;
    login = k.login;
    there = same.keeps k.place k.login k.there k.live k.of_node;
    live = k.live;
    of_node = k.of_node ∙ sym e;
  }

  carried : KeptOn keeps_logins start before w v i → InHand keeps_logins start before w i → InHand keeps_logins start now v i
  carried = hand_stays keeps_logins start before now w v i inert (q_now.live.more.given.laws.hands i l_now calm_now) (counts_at v h_now.sound.stands)

  abbrev Now : Type 0
  Now = (own_of v i ≤ zero_of v) × (zero_of v ≡ own_of v i → Found start now v i x.pointer.base)

  abbrev Then : Type 0
  Then = (own_of w i ≤ zero_of w) × (zero_of w ≡ own_of w i → Found start before w i pointer.base)

  -- a turn that leaves the target
  by_self : SameBus i w v → v.target ≡ w.target → Then → Now
  by_self bus same k =
      let first = k.0 in
      let zero = bus.zero in
      let own = bus.own in (
        omega (arith, first, zero, own),
        λ together.
            let f = k.1 (sym bus.zero ∙ (together ∙ bus.own)) in
            record {
              home = moved bus.id (subst (λ (m : NodeState). AreSame (id_in w i) w.target.logins.places m.logins.places) (sym same) (record { keeps = λ place login e a b. e; brings = λ place login e a b. e })) f.home;
              hand = carried (λ b kept op is source orb. kept op (ap (λ (m : NodeState). m.manager.operation) (sym same) ∙ is) (source ∙ bus.id) orb) f.hand;
            },
      )

  -- the initiator had given up before
  given : HasGivenUp before i → TurnOf i w (base_of g) v → Now
  unfolding pointer loose
  given up (by_own bus same call away) = by_self bus same (p few i l calm up named.list serial (loose bus.own))
  given up (by_sight y same away) = two_ways (is_stuck_seat (initiator_at v i).seat) gave_now.stuck y.reset.free
  given up (by_clearing c same told) =
      let k = p few i l calm up named.list serial (loose c.own) in
      let first = k.0 in
      let later_one = c.later in
      let own = c.own in
      (omega (arith, first, later_one, own), λ together. absurd (omega (arith, first, later_one, own, together)))
  given up (by_target bus same call) =
      let k = p few i l calm up named.list serial (loose bus.own) in
      let first = k.0 in
      let zero = bus.zero in
      let own = bus.own in (
        omega (arith, first, zero, own),
        λ together.
            let was : zero_of w ≡ own_of w i = sym bus.zero ∙ (together ∙ bus.own) in
            let f = k.1 was in
            let placed = (placed_turns units ready start past s later t lines more has g h h_now q.live q_now.live q.alive i l (calm_now, inr few_now) was bus (call_told units ready has start i call)).placed in
            record {
              home = moved bus.id (call_stands keeps_logins units ready has start w h q i l calm was placed f.hand (λ function e. e) call) f.home;
              hand = carried (λ b kept op is source orb. call_keeps keeps_logins units ready has start w h q i l calm was placed f.hand b kept call op is (source ∙ bus.id) orb) f.hand;
            },
      )

  gave_then : initiator_at v i ≡ initiator_at w i → HasGivenUp before i
  gave_then same = let c = q.live.known.cored i l in given_up c.ready before w i c.cored (subst (λ (y : InitiatorState). GaveUp y.operation y.seat) same gave_now)

  -- it had not
  fresh : (HasGivenUp before i → ⊥) → TurnOf i w (base_of g) v → Now
  unfolding pointer loose
  fresh up (by_own bus same call away) =
      let y = loose bus.own in
      let pointing : IsPointing before i named.list serial = (q.pointers i l).waits calm named.list serial pointer.packet named.is pointer.sent y.current unjudged in
      by_self bus same (
        not_ahead units ready has start w h q few i l calm up named.list serial pointing,
        λ together.
            let same_terms = wire_generation w h.sound.stands 0 (omega arith) ∙ (together ∙ sym own_then) in
            record {
              home = subst (λ id. HasHome w id pointer.base) (known_id w h.sound.stands (suc i) (let b = l in omega (arith, b)))
                  (has_home units ready has start w h q few i l calm up named.list serial (record { pointed = named.is; pointer = pointer; current = y.current; same = same_terms; unjudged = unjudged }));
              hand = in_hand units ready has start w h q few i l calm up named.list serial pointing same_terms;
            },
      )
  fresh up (by_sight y same away) = two_ways (is_stuck_seat (initiator_at v i).seat) gave_now.stuck y.reset.free
  fresh up (by_clearing c same told) = absurd (up (gave_then same))
  fresh up (by_target bus same call) = absurd (up (gave_then same))

  kept_waited : Now
  kept_waited = by (is_stuck_seat (initiator_at w i).seat) refl (has_one (initiator_at w i).operation) refl
    where
      as_given : GaveUpOf w i → HasGivenUp before i
      as_given y = let c = q.live.known.cored i l in given_up c.ready before w i c.cored y

      as_gave : HasGivenUp before i → GaveUpOf w i
      as_gave y = let c = q.live.known.cored i l in gave_up c.ready before w i c.cored y

      by : (b : Bool) → is_stuck_seat (initiator_at w i).seat ≡ b → (c : Bool) → has_one (initiator_at w i).operation ≡ c → Now
      by true e false f = given (as_given (record { stuck = e; none = f })) turned
      by true e true f = fresh (λ y. two_ways (has_one (initiator_at w i).operation) f (as_gave y).none) turned
      by false e c f = fresh (λ y. two_ways (is_stuck_seat (initiator_at w i).seat) (as_gave y).stuck e) turned

-- ---- of every run
pub waited_kept : (units ready : ℕ) → 0 < units → (start : List Disk) → Keeps units ready start (Near start) (Waited start)
waited_kept units ready has start past s later t lines more g h h_now q q_now p few i l calm up n serial x = kept_waited units ready has start past s later t lines more g h h_now q q_now p few i l calm up n serial x

first_waited : (line : ℕ) (run : Run) → Waited run.start.disks (moments_behind line run []) (beginning run).world
first_waited line run _ i l own up n serial x = absurd (none-some n x.pointed)

as_loose : {past : List Moment} {i n serial : ℕ} → WaitsFor past i n serial → Loose past i n serial
as_loose x = record { pointed = x.pointed; pointer = x.pointer; current = x.current; unjudged = x.unjudged }

module _ (units ready : ℕ) (start : List Disk) {past : List Moment} {lines : ℕ} (w : WorldState) (h : Holding units ready start past lines w) (i n serial : ℕ) (l : i < length w.initiators) where
  at_home : Waited start (hist past w) w → FewLogins (hist past w) → IsCalm (hist past w) i → HasGivenUp (hist past w) i → (x : WaitsFor (hist past w) i n serial) → HasHome w (id_for (terms (hist past w)) 0 (suc i)) x.pointer.base
  unfolding as_loose
  at_home k few own up x =
      let together : zero_of w ≡ own_of w i = sym (wire_generation w h.sound.stands 0 (omega arith)) ∙ (x.same ∙ wire_generation w h.sound.stands (suc i) (omega (arith, l))) in
      subst (λ id. HasHome w id x.pointer.base) (sym (known_id w h.sound.stands (suc i) (omega (arith, l)))) ((k few i l own up n serial (as_loose x)).1 together).home

abbrev helds : EveryPlace Held
helds = held_everywhere (laws short_law) (buffers_held short_law) (stored short_law)

pub near : EveryPlace Near
near = record {
  after_lines = λ line run r has small size so_far.
      let inside : (i : ℕ) → i < length (after (beginning run) run.entries).world.initiators → i < run.initiators = λ i l. subst (λ c. i < c) (count_after run run.entries) l in
      record {
        live = record { known = known_everywhere.after_lines line run r has small size so_far; more = helds.after_lines line run r has small size so_far };
        alive = all_after Held helds (helped placed_turns) (grown_by placed_turns stored_turns buffer_turns) line run r has small size so_far;
        stood = stood_after line run r has small size so_far;
        pointers = λ i l. pointers_law.after_lines line run r i (inside i l);
        agents = λ i l. registers_law.after_lines line run r i (inside i l);
        unrefused = λ beside i l calm. (logouts_end short_law).after_lines line run r has small size so_far beside i l calm;
        places = λ i l. place_reads_law.after_lines line run r i (inside i l);
        based = λ few. based_few_law.after_lines line run r has small size so_far few;
      };
  between = λ line run r has small size next most told m so_far.
      let w = (after_all told (begun (after (beginning run) run.entries))).world in
      let inside : (i : ℕ) → i < length w.initiators → i < run.initiators = λ i l. subst (λ c. i < c) (count_between told (after (beginning run) run.entries) ∙ count_after run run.entries) l in
      record {
        live = record { known = known_everywhere.between line run r has small size next most told m so_far; more = helds.between line run r has small size next most told m so_far };
        alive = all_between Held helds (helped placed_turns) (grown_by placed_turns stored_turns buffer_turns) line run r has small size next most told m so_far;
        stood = stood_between line run r has small size next most told m so_far;
        pointers = λ i l. pointers_law.between line run r next most told m i (inside i l);
        agents = λ i l. registers_law.between line run r next most told m i (inside i l);
        unrefused = λ beside i l calm. (logouts_end short_law).between line run r has small size next most told m so_far beside i l calm;
        places = λ i l. place_reads_law.between line run r next (more_deliveries most) told (delivering told most) m i (inside i l);
        based = λ few. based_few_law.between line run r has small size next most told m so_far few;
      };
}

module _ (line : ℕ) (run : Run) (r : IsRun run) (has : 0 < run.units) (small : run.units ≤ 4) (size : length run.start.disks ≡ run.units) where
  abbrev logins : ℕ
  logins = ready_logins run.initiators run.ready

  kept : Keeps run.units logins run.start.disks (Near run.start.disks) (Waited run.start.disks)
  kept = waited_kept run.units logins has run.start.disks

  home_after : OpenBefore line run run.entries → (FewLogins (history_of line run) → AreHomeStill (history_of line run) (after (beginning run) run.entries).world)
  home_after so_far few i n serial l calm up x =
      let w = (after (beginning run) run.entries).world in
      let b = holds_after line run run.entries r.few has small size r.short r.entries r.lines in
      subst (λ ms. Waited run.start.disks ms w → FewLogins ms → IsCalm ms i → HasGivenUp ms i → (y : WaitsFor ms i n serial) → HasHome w (id_for (terms ms) 0 (suc i)) y.pointer.base) b.is
      (at_home run.units logins run.start.disks w b.holds i n serial l) (at_lines Near (Waited run.start.disks) near line run r.few has small size kept (first_waited line run) r so_far) few calm up x

  home_between : (next : ℕ) (most : Option ℕ) (told : List (Option Told)) → MayAll told (begun (after (beginning run) run.entries)) → OpenBetween line run next (more_deliveries most) told → (let w = (after_all told (begun (after (beginning run) run.entries))).world in FewLogins (map said w.fresh ++ asked next (more_deliveries most) ∷ history_of line run) → AreHomeStill (map said w.fresh ++ asked next (more_deliveries most) ∷ history_of line run) w)
  home_between next most told m so_far few i n serial l calm up x =
      let last = after (beginning run) run.entries in
      let b = holds_after line run run.entries r.few has small size r.short r.entries r.lines in
      let event : Event = more_deliveries most in
      let d = more_than_one most in
      let begins = opens run.units logins has run.start.disks next event last.world (not_reset event d) b.holds in
      let h = all_heard run.units logins has run.start.disks told (are_told told last m) (begun last) begins (no_repeats event (hist b.past last.world) next d) in
      let w = (after_all told (begun last)).world in
      subst (λ ms. Waited run.start.disks (map said w.fresh ++ asked next event ∷ ms) w → FewLogins (map said w.fresh ++ asked next event ∷ ms) → IsCalm (map said w.fresh ++ asked next event ∷ ms) i → HasGivenUp (map said w.fresh ++ asked next event ∷ ms) i → (y : WaitsFor (map said w.fresh ++ asked next event ∷ ms) i n serial) → HasHome w (id_for (terms (map said w.fresh ++ asked next event ∷ ms)) 0 (suc i)) y.pointer.base) b.is
      (at_home run.units logins run.start.disks w h i n serial l) (at_between Near (Waited run.start.disks) near line run r.few has small size kept (first_waited line run) r next most told m so_far) few calm up x

pub home_still_law : HomeStillFewLaw
home_still_law = record {
  after_lines = λ line run r has small size so_far. home_after line run r has small size so_far;
  between = λ line run r has small size next most told m so_far. home_between line run r has small size next most told m so_far;
}
