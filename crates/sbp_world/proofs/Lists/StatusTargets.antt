-- Each turn of the target keeps that the last ORB of a list stands in its slot while its agent is at the end of the list: a packet that it gets, a transaction of it that times
-- out, a second, and a generation that it sees.
use Rattle.sbp_world.proofs.Words.Std.{arith, ◌≡◌, ◌∙◌, refl, sym, ap, subst, inl, inr, ◌⊎◌, ◌<◌, ◌≤◌, ◌||◌, not, ℕ, nat_eq, nat_lt, Bool, true, false, cond, List, ◌∷◌, ◌++◌, map, length, Option, Some, None, Ok, nat_tests, get_or-map, false≢true}
use Rattle.sbp_world.proofs.Words.Wire.{LabelParts, Packet, Layer, judging_step, of_request, seeing_step, seen_in_generation, Sent, found_sent, is_flying, deliver_step, Holder, judged_note, holder_at, or_nobody, list_in, Judged, Note, empty_outbox, Moment, said, terms, id_of}
use Rattle.sbp_world.proofs.Words.Target.{AgentStep, Which, Ahead, Main, lost_step, point_step, Login, Told, Purpose, NodeState, TargetScene, desk_at, scene, login_at, received, cleared_node, reset_by, seen, timed_out, Whole, is_barred, orb_of, demand_of, held_login, is_live, place_at, alone, sees, ticks, cut_all}
use Rattle.sbp_world.proofs.Words.Initiator.{Ask, OrbPointer}
use Rattle.sbp_world.proofs.Words.Laws.{status_due}
use Rattle.sbp_world.proofs.Words.World.{marked, whole_of, handed_out, holder, ticket_at, told_all, Scene, WorldState, with_note, with_target, has_list, AreOthers, IsFor, machine_at, IsCalm, see_line, target_sees, target_ticks, tick_line, told_seen, with_seen}
use Rattle.orb_layout.specs.declared.ask.Ask.TheVariants as asks
use Rattle.orb_layout.specs.declared.ask.FailCause.TheVariants as causes
use Rattle.sbp_journal.specs.declared.cause.Judged.TheVariants as judgements
use Rattle.sbp_journal.specs.declared.note.Note.TheVariants as notes
use Rattle.sbp_world.proofs.Wire.Nodes.{handed_alike}
use Rattle.target_base.specs.declared.address.Access.TheVariants as accesses
use Rattle.target_base.specs.declared.address.Demand.TheVariants as demands
use Rattle.sbp_world.proofs.Agents.Management.Still.{hist}
use Rattle.sbp_world.proofs.Lists.Adds.{all_stay}
use Rattle.sbp_world.proofs.Lists.Deliveries.{waits_has}
use Rattle.sbp_world.proofs.Lists.Generations.{moment_generation}
use Rattle.sbp_world.proofs.Lists.OpenCuts.{Here, Listing, Open, is_up}
use Rattle.sbp_world.proofs.Lists.OpenDeliveries.{Points, delivery_open, lapse_open}
use Rattle.sbp_world.proofs.Lists.OpenPlaces.{Has}
use Rattle.sbp_world.proofs.Lists.OpenTurns.{Before, sound, begins}
use Rattle.sbp_world.proofs.Lists.StatusCall.{Acting, AreRested, Ends, IsFirst, Started, call_held, ends_of, quiets, rests_up}
use Rattle.sbp_world.proofs.Lists.StatusCalls.{delivery_called, lapse_called}
use Rattle.sbp_world.proofs.Lists.StatusDue.{Ours, late_step_of, point_small, reply_step_of, ring_small}
use Rattle.sbp_world.proofs.Lists.StatusLosses.{lost_asks, quiet_ahead}
use Rattle.sbp_world.proofs.Lists.Turns.{Ready}
use Rattle.sbp_journal.specs.declared.cause.CutCause.TheVariants as cuts
use Rattle.sbp_world.specs.Nodes as nodes
use Rattle.sbp_world.proofs.Hosts.Hands.{hand_law}
use Rattle.sbp_world.proofs.Lists.OpenManages as manages
use Rattle.sbp_world.proofs.Lists.OpenedNotes.{target_handed}
use Rattle.sbp_world.proofs.Lists.OpenedWorlds.{turn_is}
use Rattle.sbp_world.proofs.Lists.Rises.{Rises, RisesAt}
use Rattle.sbp_world.proofs.Lists.StatusKnown.{each_from}
use Rattle.sbp_world.proofs.Lists.StatusBehind.{At, Then, after_of, inside_then, low_at}
use Rattle.sbp_world.proofs.Lists.StatusRests.{Resting, sees as rest_sees, ticks as rest_ticks}
use Rattle.sbp_world.proofs.Lists.StatusSteps.{none_wrote}
use Rattle.sbp_world.proofs.Pointers.Ages.{seen_now}
use Rattle.sbp_world.proofs.Hosts.Cores.{not_so as up_state}

-- ---- the first notes of turns of the target
pub judged_first : (i serial : ℕ) (j : Judged) (H : List Moment) → IsFirst i (said (judged_note serial j)) H
judged_first i serial judgements.Got H = record { null = λ n k. tt; prepared = λ slot. refl; begun = refl; ended = λ n. refl; appended = λ n. refl; still = moment_generation 0 (said (notes.Got serial)) H refl }
judged_first i serial (judgements.Ignored cause) H = record { null = λ n k. tt; prepared = λ slot. refl; begun = refl; ended = λ n. refl; appended = λ n. refl; still = moment_generation 0 (said (notes.Ignored serial cause)) H refl }

pub judged_due : (serial : ℕ) (j : Judged) (H : List Moment) → status_due (said (judged_note serial j) ∷ H) ≡ None
judged_due serial judgements.Got H = refl
judged_due serial (judgements.Ignored cause) H = refl

pub late_first : (i serial : ℕ) (H : List Moment) → IsFirst i (said (notes.TimedOut serial)) H
late_first i serial H = record { null = λ n k. tt; prepared = λ slot. refl; begun = refl; ended = λ n. refl; appended = λ n. refl; still = moment_generation 0 (said (notes.TimedOut serial)) H refl }

tick_first : (i : ℕ) (H : List Moment) → IsFirst i (said notes.Tick) H
tick_first i H = record { null = λ n k. tt; prepared = λ slot. refl; begun = refl; ended = λ n. refl; appended = λ n. refl; still = moment_generation 0 (said notes.Tick) H refl }

seen_first : (i generation : ℕ) (H : List Moment) → (terms (said (notes.Seen 0 generation) ∷ H)).generation 0 ≡ (terms H).generation 0 → IsFirst i (said (notes.Seen 0 generation)) H
seen_first i generation H still = record { null = λ n k. tt; prepared = λ slot. refl; begun = refl; ended = λ n. refl; appended = λ n. refl; still = still }

module _ (wild : ℕ → Bool) (past : List Moment) (w : WorldState) (at : At wild past w) where
  abbrev H : List Moment
  H = hist past w

  abbrev r : Ready wild past w
  r = at.ready

  -- ---- an agent that acts
  module _ (i : ℕ) (mild : wild i ≡ false) (inside : i < length w.initiators) where
    calm_of : (q : ℕ) → (holder w q).initiator ≡ i → IsCalm H (holder w q).initiator
    calm_of q mine = r.calm (holder w q).initiator (ap wild mine ∙ mild)

    open_acting : (q : ℕ) → q < 8 → has_list (machine_at w q).phase ≡ true → Acting wild past w r i mild q
    open_acting q b l = record {
      up = (at.own i mild inside).up q b l;
      alone = λ p c lp mine mine_p. (r.needs (holder w q).initiator (ap wild mine ∙ mild)).lists.one q p b c l lp (calm_of q mine) (mine_p ∙ sym mine);
    }

    point_acting : (sent : Sent) (is_for : IsFor w sent) (p : Packet) (judged : (judging_step w.target.layer sent.generation sent.bytes).0 ≡ of_request p) (bar : is_barred w.target p ≡ false) (q : ℕ) (b : q < 8) (pointer : OrbPointer) (demand : demand_of (length w.target.rom) p ≡ demands.Agent q (accesses.Point pointer)) (ask : Ask) → (point_step (machine_at w q) pointer).0 ≡ Ok ask → Acting wild past w r i mild q
    point_acting sent is_for p judged bar q b pointer demand ask took = record {
      up = (at.own i mild inside).point_up sent is_for p judged bar q b pointer demand ask took;
      alone = λ other c lp mine mine_p.
          let lists = (r.needs (holder w q).initiator (ap wild mine ∙ mild)).lists in
          (lists.points sent is_for p judged bar q pointer ask demand took (calm_of q mine)).alone other c lp (mine_p ∙ sym mine);
    }

  -- ---- a call of the target
  module _ (note : Note) (first : (i : ℕ) → IsFirst i (said note) H) (due : status_due (said note ∷ H) ≡ None) (u : WorldState) (b : Started note w u) (s : TargetScene) (others : AreOthers s.outbox.sides) (node_is : u.target ≡ s.node) (owner : (q : ℕ) → q < 8 → is_up (desk_at s.node q).agent ≡ true → (holder (told_all 0 s.outbox.sides u) q).initiator ≡ (holder w q).initiator) (calls : (i : ℕ) (mild : wild i ≡ false) → i < length w.initiators → Ends wild past w r i mild s) where
    abbrev v : WorldState
    v = handed_out 0 0 s.outbox u

    target_is : v.target ≡ s.node
    target_is = (handed_alike 0 0 s.outbox u).target ∙ node_is

    owner_v : (q : ℕ) → q < 8 → is_up (desk_at s.node q).agent ≡ true → (holder v q).initiator ≡ (holder w q).initiator
    owner_v q c up = ap (λ ps. (holder_at ps q).initiator) (all_stay wild past 0 s.outbox.packets (told_all 0 s.outbox.sides u)).places ∙ owner q c up

    pub called_rests : Then wild w (hist past v) v → AreRested wild (hist past v) v
    called_rests then i q mild c rv mine n k list e =
        let inside = inside_then wild w (hist past v) v then i q c rv mine in
        let o = at.own i mild inside in
        let l = then.later i mild inside in
        let grown = target_handed 0 s.outbox u others in
        let now_is : map said grown.more ++ said note ∷ H ≡ hist past v = turn_is grown.more note w.fresh v.fresh past (ap (λ ns. grown.more ++ ns) (sym b.fresh) ∙ grown.is) in
        call_held wild past w r i mild at.rested at.same_gen (λ p d has owned. low_at wild past w at i mild inside p d has owned) o.untaken at.names o.present_latest o.rows note (first i) due u b s others target_is owner_v
        (λ p d has owned m listed. then.latest i p mild d has owned m listed) (after_of wild i (hist past v) l grown.more (said note) H now_is) q c rv mine n k list e (calls i mild inside)

  -- ---- a packet that the target gets
  module _ (serial : ℕ) (sent : Sent) (found : found_sent serial w.store.kept ≡ Some sent) (zero_to : sent.to ≡ 0) (run : Option Told) (s : Scene) (again : Bool) (others : AreOthers (received run sent.generation sent.bytes (whole_of w.target s.media)).1.outbox.sides) where
    abbrev x : Judged × Whole
    x = received run sent.generation sent.bytes (whole_of w.target s.media)

    abbrev u : WorldState
    u = with_note (judged_note serial x.0) (marked serial again (with_target x.1.node w))

    abbrev is_for : IsFor w sent
    is_for = record { serial = serial; found = found; to = zero_to }

    record Marks : Type 0 where
      behind : Started (judged_note serial x.0) w u
      target : u.target ≡ x.1.node

    marks : Marks
    marks = by (again || not (is_flying serial w.store.kept))
      where
        Of : Bool → Type 0
        Of b = let y = with_note (judged_note serial x.0) (cond b (with_target x.1.node w) (record (with_target x.1.node w) { store = deliver_step w.store serial })) in Started (judged_note serial x.0) w y × (y.target ≡ x.1.node)

        of : (b : Bool) → Of b
        of true = (record { places = refl; fresh = refl }, refl)
        of false = (record { places = refl; fresh = refl }, refl)

        by : Bool → Marks
        by b = let m = of (again || not (is_flying serial w.store.kept)) in record { behind = m.0; target = m.1 }

    same_places : u.places ≡ w.places
    same_places = marks.behind.places

    open_holders : Open u (holder w) (Before w r.good at.seats) w.target.logins.places (sound w r.good at.seats) (scene x.1.node x.1.outbox) → (p : ℕ) → p < 8 → Listing x.1.node p → (holder (told_all 0 x.1.outbox.sides u) p).initiator ≡ (holder w p).initiator
    open_holders k p b l = ap (λ (h : Option Holder). (or_nobody h).initiator) (k.kept p b l)

    point_holders : Points w r.good at.seats u same_places sent run s.media x.0 (scene x.1.node x.1.outbox) → (p : ℕ) → p < 8 → Listing x.1.node p → (holder (told_all 0 x.1.outbox.sides u) p).initiator ≡ (holder w p).initiator
    point_holders k p b l = by (nat_eq p k.place) refl
      where
        new : Holder
        new = record (holder w k.place) { list = list_in (ticket_at u k.place (orb_of (point_step (Here w.target k.place) k.pointer).1)) }

        by : (c : Bool) → nat_eq p k.place ≡ c → (holder (told_all 0 x.1.outbox.sides u) p).initiator ≡ (holder w p).initiator
        by true e =
            let same : k.place ≡ p = grind (arith, nat_tests) in
            let has = subst (λ z. Has (told_all 0 x.1.outbox.sides u).places p (cond z new (holder w p))) e (k.after.0.kept p b l) in
            ap (λ (h : Option Holder). (or_nobody h).initiator) has ∙ ap (λ q. (holder w q).initiator) same
        by false e =
            let has = subst (λ z. Has (told_all 0 x.1.outbox.sides u).places p (cond z new (holder w p))) e (k.after.0.kept p b l) in
            ap (λ (h : Option Holder). (or_nobody h).initiator) has

    got_holders : (p : ℕ) → p < 8 → Listing x.1.node p → (holder (told_all 0 x.1.outbox.sides u) p).initiator ≡ (holder w p).initiator
    got_holders p b l = by (delivery_open w r.good at.seats u same_places sent run s.media)
      where
        by : Open u (holder w) (Before w r.good at.seats) w.target.logins.places (sound w r.good at.seats) (scene x.1.node x.1.outbox) ⊎ Points w r.good at.seats u same_places sent run s.media x.0 (scene x.1.node x.1.outbox) → (holder (told_all 0 x.1.outbox.sides u) p).initiator ≡ (holder w p).initiator
        by (inl k) = open_holders k p b l
        by (inr k) = point_holders k p b l

    delivery_ends : (i : ℕ) (mild : wild i ≡ false) → i < length w.initiators → Ends wild past w r i mild (scene x.1.node x.1.outbox)
    delivery_ends i mild inside =
        ends_of wild past w r i mild (Unit {0}) (judging_step w.target.layer sent.generation sent.bytes).1 (scene x.1.node x.1.outbox)
        (delivery_called w r.good (Ours wild past w r) (Acting wild past w r i mild) (Unit {0}) sent run s.media
        (λ p label place f c login which e. reply_step_of wild past w r sent is_for run s.media.disks (judging_step w.target.layer sent.generation sent.bytes).1 p label place f c login which e (at.free sent is_for run s.media.disks p label place f c login which e))
        (λ q c ours l. ring_small wild past w r q c ours l)
        (λ p f bar q c pointer d ask e ours. point_small wild past w r sent is_for p f bar q c pointer d ask e ours)
        (λ peer label place c which e. open_acting i mild inside place c (waits_has wild past w r place c peer label which e))
        (λ p f bar q c d l. open_acting i mild inside q c l)
        (λ p f bar q c pointer d ask e. point_acting i mild inside sent is_for p f bar q c pointer d ask e)
        (λ p label f. tt))

    pub delivery_rests : Then wild w (hist past (handed_out 0 0 x.1.outbox u)) (handed_out 0 0 x.1.outbox u) → AreRested wild (hist past (handed_out 0 0 x.1.outbox u)) (handed_out 0 0 x.1.outbox u)
    delivery_rests then =
        called_rests (judged_note serial x.0) (λ i. judged_first i serial x.0 H) (judged_due serial x.0 H) u marks.behind (scene x.1.node x.1.outbox) others marks.target got_holders delivery_ends then

  -- ---- a transaction of the target times out
  late_apart : (q : ℕ) (which : Which) → (lost_step (machine_at w q) which causes.Timeout).0.ended ≡ None → (offset size : ℕ) → (lost_step (machine_at w q) which causes.Timeout).0.ask ≡ asks.Write offset size → ⊥
  late_apart q Main none offset size e = none_wrote offset size (sym (lost_asks (machine_at w q) causes.Timeout none) ∙ e)
  late_apart q Ahead none offset size e = none_wrote offset size (sym (ap (λ (step : AgentStep). step.ask) (quiet_ahead (machine_at w q) causes.Timeout)) ∙ e)

  module _ (serial peer : ℕ) (label : LabelParts) (purpose : Option Purpose) (layer : Layer Purpose) where
    abbrev late_scene : TargetScene
    late_scene = timed_out purpose peer label (scene (record w.target { layer = layer }) empty_outbox)

    abbrev late_world : WorldState
    late_world = with_note (notes.TimedOut serial) (with_target late_scene.node w)

    late_ends : (i : ℕ) (mild : wild i ≡ false) → i < length w.initiators → Ends wild past w r i mild late_scene
    late_ends i mild inside =
        ends_of wild past w r i mild (Unit {0}) layer late_scene
        (lapse_called w r.good (Ours wild past w r) (Acting wild past w r i mild) (Unit {0}) layer peer label
        (λ place c login which e. late_step_of wild past w r peer label layer place c login which e (λ ours none offset size wrote fifo. late_apart place which none offset size wrote))
        (λ place c which e. open_acting i mild inside place c (waits_has wild past w r place c peer label which e))
        purpose (λ f. tt))

    pub lapse_rests : AreOthers late_scene.outbox.sides → (let v = handed_out 0 0 late_scene.outbox late_world in Then wild w (hist past v) v → AreRested wild (hist past v) v)
    lapse_rests others then =
        called_rests (notes.TimedOut serial) (λ i. late_first i serial H) refl late_world (record { places = refl; fresh = refl }) late_scene others refl
        (λ p c l. ap (λ (h : Option Holder). (or_nobody h).initiator) ((lapse_open w r.good at.seats late_world refl layer peer label purpose).kept p c l)) late_ends then

  -- ---- a second, and a generation that it sees
  first_rest : Resting (machine_at w) (scene w.target empty_outbox)
  first_rest = record { desks = r.good.mid.size; told_is = refl; stays = λ p e. e }

  pub tick_rests : status_due H ≡ None → Then wild w (hist past (tick_line w)) (tick_line w) → AreRested wild (hist past (tick_line w)) (tick_line w)
  unfolding tick_line target_ticks
  tick_rests none then =
      let t = alone ticks w.target in
      let u = with_target t.node (with_note notes.Tick w) in
      let y = rest_ticks (machine_at w) (scene w.target empty_outbox) first_rest in
      called_rests notes.Tick (λ i. tick_first i H) none u (record { places = refl; fresh = refl }) t (hand_law.ticks w.target) refl
      (λ p c l. ap (λ (h : Option Holder). (or_nobody h).initiator) ((manages.ticks u (holder w) (Before w r.good at.seats) w.target.logins (sound w r.good at.seats) (scene w.target empty_outbox) refl (begins w r.good at.seats u refl w.target.layer)).kept p c l))
      (λ i mild inside. quiets y.told_is y.stays) then

  layer_flag : (layer : Layer Purpose) (generation id : ℕ) → (seeing_step layer generation id).0 ≡ nat_lt layer.generation generation
  unfolding seeing_step
  layer_flag layer generation id = by (nat_lt layer.generation generation) refl
    where
      by : (c : Bool) → nat_lt layer.generation generation ≡ c → (cond {A = Bool × Layer Purpose} c (true, seen_in_generation layer generation id) (false, layer)).0 ≡ c
      by true e = refl
      by false e = refl

  dead : (places : List (Option Login)) (p : ℕ) (login : Login) → place_at (map held_login places) p ≡ Some login → is_live login ≡ true → ⊥
  dead places p login e l = by (place_at places p) (sym (get_or-map held_login places p None) ∙ e)
    where
      by : (x : Option Login) → held_login x ≡ Some login → ⊥
      by None f = absurd (let z : None ≡ Some login = f in cc)
      by (Some old) f = false≢true (ap live_of f ∙ l)
        where
          live_of : Option Login → Bool
          live_of None = true
          live_of (Some x) = is_live x

  held_all_dead : (r : Bool × Layer Purpose) (s : TargetScene) (p : ℕ) (login : Login) → r.0 ≡ true → login_at (reset_by r s).1.node p ≡ Some login → is_live login ≡ true → ⊥
  held_all_dead (true, layer) s p login e f l = dead (cut_all cuts.Reset None (scene (cleared_node layer s.node) s.outbox)).node.logins.places p login f l
  held_all_dead (false, layer) s p login e f l = false≢true e

  sees_dead : (generation id : ℕ) (s : TargetScene) (p : ℕ) (login : Login) → s.node.layer.generation < generation → login_at (seen generation id s).1.node p ≡ Some login → is_live login ≡ true → ⊥
  unfolding seen
  sees_dead generation id s p login b f l =
      held_all_dead (seeing_step s.node.layer generation id) s p login (layer_flag s.node.layer generation id ∙ (let z : nat_lt s.node.layer.generation generation ≡ true = grind (arith, nat_tests) in z)) f l

  abbrev generation : ℕ
  generation = w.generations.latest.generation

  abbrev id : ℕ
  id = id_of w.generations.latest 0

  abbrev t : TargetScene
  t = alone (sees w.generations.latest.generation (id_of w.generations.latest 0)) w.target

  abbrev u_seen : WorldState
  u_seen = with_target t.node (with_seen 0 (told_seen 0 w))

  pub sight_rests : status_due H ≡ None → Rises (hist past (see_line 0 w)) → Then wild w (hist past (see_line 0 w)) (see_line 0 w) → AreRested wild (hist past (see_line 0 w)) (see_line 0 w)
  unfolding see_line nodes.sees target_sees
  sight_rests none rises then = by (nat_lt w.target.layer.generation w.generations.latest.generation) refl
    where
      by : (c : Bool) → nat_lt w.target.layer.generation w.generations.latest.generation ≡ c → AreRested wild (hist past (handed_out 0 0 t.outbox u_seen)) (handed_out 0 0 t.outbox u_seen)
      by true e = λ i q mild c rv mine n k list f.
          let o = then.opened q c (up_state _ (rests_up (machine_at (handed_out 0 0 t.outbox u_seen) q) rv)) in
          absurd (sees_dead generation id (scene w.target empty_outbox) q o.login (grind (arith, nat_tests)) (subst (λ (node : NodeState). login_at node q ≡ Some o.login) (handed_alike 0 0 t.outbox u_seen).target o.is) o.live)
      by false e =
          let layer_is = at.layer_gen in
          let b = target_handed 0 t.outbox u_seen (hand_law.sees generation id w.target) in
          let now_is = turn_is b.more (notes.Seen 0 generation) w.fresh (handed_out 0 0 t.outbox u_seen).fresh past b.is in
          let low : (terms H).generation 0 ≤ generation = (each_from RisesAt (map said b.more) (said (notes.Seen 0 generation) ∷ H) (subst Rises (sym now_is) rises)).0 in
          let same : generation ≡ (terms H).generation 0 = grind (arith, nat_tests) in
          let y = rest_sees (machine_at w) generation id (scene w.target empty_outbox) first_rest in
          called_rests (notes.Seen 0 generation) (λ i. seen_first i generation H (seen_now 0 generation H ∙ same)) none u_seen (record { places = refl; fresh = refl }) t (hand_law.sees generation id w.target) refl
          (λ p c l. ap (λ (h : Option Holder). (or_nobody h).initiator) ((manages.sees u_seen (holder w) (Before w r.good at.seats) w.target.logins (sound w r.good at.seats) generation id (scene w.target empty_outbox) (begins w r.good at.seats u_seen refl w.target.layer)).kept p c l))
          (λ i mild inside. quiets y.told_is y.stays) then
