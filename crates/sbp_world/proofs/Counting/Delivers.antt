-- With each delivery of a packet in flight what is left falls by one.
use Rattle.sbp_world.proofs.Words.Std.{arith, ◌≡◌, ◌∙◌, refl, sym, ap, subst, ℕ, zero, suc, ◌+◌, ◌-◌, ◌*◌, ◌<◌, ◌≤◌, ◌==◌, ◌&&◌, nat_tests, Bool, true, false, cond, List, ◌∷◌, length, Option, Some, Ok, slice_index_or, slice_set}
use Rattle.sbp_world.proofs.Words.Wire.{Finding, Judged, Outgoing, OutboxState, Moment, Node, Packet, Sent, GenerationsState, as_sending, empty_outbox, found_sent, is_flying, judged_note, judging_step, of_request, said, terms, topology_at, write_block, Terms}
use Rattle.sbp_world.proofs.Words.Target.{Disk, TargetScene, Told, Whole, demand_of, is_barred, received, received_as, with_layer}
use Rattle.sbp_world.proofs.Words.Initiator.{new_state, receive_step}
use Rattle.sbp_world.proofs.Words.World.{AreOthers, IsCalm, Arrival, MayReceive, MayTell, NoneInjected, Scene, WorldState, arrived, at_target, delivered, delivered_by, handed_out, initiator_at, initiator_received, initiators_received, machine_at, marked, target_received, whole_of, with_initiators, with_note, with_target}
use Rattle.command_agent.specs.Machine as machines
use Rattle.bus_transactions.proofs.PacketParts.{part_read}
use Rattle.sbp_initiator.proofs.Handing.{delivery_law}
use Rattle.sbp_journal.specs.declared.cause.Judged.TheVariants as judgements
use Rattle.sbp_journal.specs.declared.note.Note.TheVariants as notes
use Rattle.sbp_laws.specs.Completion.{arrivals}
use Rattle.target_base.specs.declared.address.Demand.TheVariants as demands
use Rattle.sbp_target.specs.Serving.{request_step}
use Rattle.sbp_target.proofs.Histories.Found.{IsFound, found as found_as}
use Rattle.sbp_target.specs.RequestsLeft.{DeliveriesAreCounted}
use Rattle.sbp_target.specs.Requests.{requests}
use Rattle.sbp_world.specs.Counting.Left.{left, quadlets_left, requests_left}
use Rattle.sbp_world.specs.Counting.Wire.{due_of, is_unjudged, wire}
use Rattle.sbp_world.specs.Lists.OwnLogins.{IsTame}
use Rattle.sbp_world.proofs.Agents.Management.Hearing.{request_current}
use Rattle.sbp_world.proofs.Agents.Management.Holding.{Holding, ours as own_packets, past_terms, target_generation, was_sent}
use Rattle.sbp_world.proofs.Agents.Management.Still.{hist}
use Rattle.sbp_world.proofs.Counting.Arrived.{arrived as arrived_one}
use Rattle.sbp_world.proofs.Counting.Asides.{nodes_aside, requests_same, set_quadlets, wire_less}
use Rattle.sbp_world.proofs.Counting.Bounded.{Falls}
use Rattle.sbp_world.proofs.Counting.Others.{delivered_goes, stays_aside}
use Rattle.sbp_world.proofs.Counting.Places.{IsPlace}
use Rattle.sbp_world.proofs.Counting.TargetFalls.{IsBefore, behind, first_on, nodes_fall}
use Rattle.sbp_world.proofs.Counting.Grown.{Goes}
use Rattle.sbp_world.proofs.Counting.Unjudged.{due_most, manage_free}
use Rattle.sbp_world.proofs.Counting.WireRuns.{wire_falls}
use Rattle.sbp_world.proofs.Hosts.Hands.{hand_law}
use Rattle.sbp_world.proofs.Lists.Calm.{calm_before}
use Rattle.sbp_world.proofs.Lists.Lines.{hears}
use Rattle.sbp_world.proofs.Lists.ManageKnown.{not_judged}
use Rattle.sbp_world.proofs.Lists.ManageWire.{WireMoments, wire_moments}
use Rattle.sbp_world.proofs.Lists.OpenNews.{all_grow}
use Rattle.sbp_world.proofs.Lists.OpenWorlds.{GoesOn}
use Rattle.sbp_world.proofs.Agents.Peers.{AreNoLoops, found_leaves}
use Rattle.sbp_world.specs.Wire.Knows.{IsOurs}
use Rattle.sbp_target.specs.Receiving.{judged_scene}
use Rattle.sbp_journal.specs.declared.cause.Cause.TheVariants as causes
use Rattle.sbp_world.proofs.Lists.PlaceOwners.{IsSeatedWell, Owns}
use Rattle.sbp_world.proofs.Lists.PlacedOps.{manage_write}
use Rattle.sbp_world.proofs.Lists.StatusKnown.{each_from}
use Rattle.sbp_world.proofs.Wire.Bus.{holds}
use Rattle.sbp_world.proofs.Wire.Comes.{own_inside, received_is, to_own, to_zero}
use Rattle.sbp_world.proofs.Wire.Nodes.{handed_alike, marked_alike}
use Rattle.sbp_world.proofs.Wire.ToldBytes.{told_fits}

-- what is known of the place before a delivery
pub record IsReady (units ready : ℕ) (start : List Disk) (past : List Moment) (w : WorldState) : Type 0 where
  pub lines : ℕ
  pub holds : Holding units ready start past lines w
  pub seated : IsSeatedWell w
  pub leaves : AreNoLoops w.store.kept
  pub none : (i : ℕ) → i < length w.initiators → NoneInjected (hist past w) i
  pub tame : IsTame (hist past w)
  pub before : IsBefore (hist past w) w
  pub quads : (i : ℕ) → i < length w.initiators → length (initiator_at w i).quads ≤ 256
  pub agents : (place : ℕ) → place < 8 → machines.IsSound (machine_at w place)

-- and of the one behind
pub record IsBehind (units ready : ℕ) (start : List Disk) (past : List Moment) (v : WorldState) : Type 0 where
  pub lines : ℕ
  pub holds : Holding units ready start past lines v
  pub tame : IsTame (hist past v)
  pub place : IsPlace (hist past v) v

module _ (counted : DeliveriesAreCounted) (units ready : ℕ) (start : List Disk) (past : List Moment) (s : Scene) (serial : ℕ) (run : Option Told) (h : IsReady units ready start past s.world) (sent : Sent) (there : found_sent serial s.world.store.kept ≡ Some sent) (air : is_flying serial s.world.store.kept ≡ true) where
  abbrev w : WorldState
  w = s.world

  abbrev v : WorldState
  v = (delivered serial false run s).world

  abbrev before : List Moment
  before = hist past w

  abbrev now : List Moment
  now = hist past v

  abbrev t : Terms
  t = terms before

  abbrev u : Terms
  u = terms now

  was : t.sent serial ≡ Some (as_sending sent)
  was = was_sent w h.holds.sound.stands serial sent there

  -- ---- what is left, by what the wire and the nodes leave
  falls_by : (packets : List Outgoing) (due : ℕ) → Goes before now → u.generation 0 ≡ t.generation 0 → wire (is_unjudged t) v + (1 + 2 * due) ≤ wire (is_unjudged t) w + 2 * requests packets → requests packets + requests_left now v ≤ requests_left before w + due → arrivals now ≤ suc (arrivals before) → Falls before (left before w) now (left now v)
  falls_by packets due goes same wires nodes one =
      let less = wire_less t u v (λ r. subst (λ ms. t.news r ≤ (terms ms).news r) goes.is (all_grow r goes.later before)) same in
      record { all = omega (arith, less, wires, nodes, one) }

  -- ---- at the target
  module _ (zero_to : sent.to ≡ 0) (may : MayTell run sent w.target s.media) where
    abbrev got : Judged × Whole
    got = received run sent.generation sent.bytes (whole_of w.target s.media)

    others : AreOthers got.1.outbox.sides
    unfolding received target_received
    others = hand_law.received run sent w.target s.media may

    apart : sent.from ≡ 0 → ⊥
    apart e = found_leaves serial w.store.kept sent h.leaves there e zero_to

    abbrev end : WorldState
    end = behind counted past s h.seated serial sent there zero_to run may others

    last_is : v ≡ end
    unfolding delivered target_received arrived
    last_is =
        ap (λ (y : Option Arrival × (OutboxState × Scene)). (delivered_by serial false y).world)
        (received_is run serial s sent there ∙ ap (λ b. cond b (at_target sent.to (target_received run sent w.target s.media) s) (initiator_received sent s)) (to_zero sent.to zero_to))
        ∙ ap (λ n. handed_out n 0 got.1.outbox (with_note (judged_note serial got.0) (marked serial false (with_target got.1.node w)))) zero_to

    -- the first note of the turn stands directly behind what was before it
    first_behind : GoesOn (said (judged_note serial got.0) ∷ before) (hist past end)
    first_behind = first_on counted past s h.seated serial sent there zero_to run may others

    -- a request that no login bars is got
    got_it : (p : Packet) → (judging_step w.target.layer sent.generation sent.bytes).0 ≡ of_request p → is_barred w.target p ≡ false → got.0 ≡ judgements.Got
    unfolding received request_step is_barred
    got_it p f free =
        ap (λ g. (received_as run sent.bytes g (with_layer (judging_step w.target.layer sent.generation sent.bytes).1 (whole_of w.target s.media))).0) f
        ∙ first _ _ _ (with_layer (judging_step w.target.layer sent.generation sent.bytes).1 (whole_of w.target s.media)) free
      where
        first : (b : Bool) (l r : TargetScene) (y : Whole) → b ≡ false → (judged_scene (cond b (judgements.Ignored causes.Login, l) (judgements.Got, r)) y).0 ≡ judgements.Got
        first false l r y e = refl
        first true l r y e = absurd (let no : true ≡ false = e in cc)

    -- a write of MANAGEMENT_AGENT that is taken counts
    counts_it : WireMoments (hist past end) → IsTame (hist past end) → (p : Packet) (orb : ℕ) → (judging_step w.target.layer sent.generation sent.bytes).0 ≡ of_request p → demand_of (length w.target.rom) p ≡ demands.Manage orb → is_unjudged t serial sent ≡ true
    counts_it moments tame p orb f d =
        let m = manage_write orb (length w.target.rom) p d in
        let layer = w.target.layer in
        let later = (judging_step layer sent.generation sent.bytes).1 in
        let read = (subst (λ (x : Finding _). IsFound x layer later sent.bytes) f (found_as layer sent.generation sent.bytes)).1.read in
        let current = request_current layer later sent.generation sent.bytes p (ap (λ (x : Finding _). (x, later)) f) ∙ generation_is in
        let is = got_it p f (manage_free w.target (length w.target.rom) orb p d) in
        let on = subst (λ j. GoesOn (said (judged_note serial j) ∷ before) (hist past end)) is first_behind in
        let here = each_from _ on.more (said (notes.Got serial) ∷ before) (subst WireMoments (sym on.is) moments) in
        let calm = calm_before on.more (said (notes.Got serial) ∷ before) sender (subst (λ ms. IsCalm ms sender) (sym on.is) (tame sender)) in
        let honest = h.none sender inside (h.tame sender) serial (as_sending sent) was from_is in
        let none = not_judged serial before (as_sending sent) here.0.later was honest (ap (terms (said (notes.Got serial) ∷ before)).injects from_is ∙ calm) m.header.label (part_read sent.bytes (write_block m.header m.offset m.payload) (read ∙ ap Ok m.is)) in
        join (t.news serial == 0) (sent.generation == t.generation 0) (grind (arith, nat_tests, none)) (grind (arith, nat_tests, current))
      where
        sender : ℕ
        sender = sent.from - 1

        ours : IsOurs (length w.initiators) (as_sending sent)
        ours = own_packets w h.holds.sound.stands serial sent there

        from_is : sent.from ≡ suc sender
        from_is = by sent.from refl
          where
            by : (n : ℕ) → sent.from ≡ n → sent.from ≡ suc (sent.from - 1)
            by zero e = absurd (apart e)
            by (suc n) e = omega (arith, e)

        inside : sender < length w.initiators
        inside = let most = ours.from in let is = from_is in omega (arith, most, is)

        generation_is : w.target.layer.generation ≡ t.generation 0
        generation_is =
            let stands = h.holds.sound.stands in
            sym (ap (λ (l : Node). l.generation) (stands.is.layers_are 0 (omega arith))) ∙ (((holds stands.wire stands.reached).nodes 0).generation ∙ ap (λ (x : Terms). x.generation 0) (past_terms w stands))

        join : (a b : Bool) → a ≡ true → b ≡ true → (a && b) ≡ true
        join true b x y = y
        join false b x y = x

    pub target_falls : IsBehind units ready start past v → Owns w v → MayReceive run serial s → Falls before (left before w) now (left now v)
    target_falls behind_v owns_v receives =
        let q = subst (IsBehind units ready start past) last_is behind_v in
        let owns = subst (Owns w) last_is owns_v in
        let stands = q.holds.sound.stands in
        let moments = subst WireMoments stands.is.past_is (wire_moments stands.wire stands.reached) in
        let nodes = nodes_fall counted past s h.seated serial sent there zero_to run may others h.tame q.tame h.before q.place owns h.agents in
        let due = due_most w.target h.holds.rom sent apart (is_unjudged t serial sent) (counts_it moments q.tame) in
        let wires = (wire_falls s h.holds.sound).at_target (is_unjudged t) serial sent (record { found = there; flies = air }) run (told_fits true run sent s may) zero_to in
        let generation = target_generation end stands ∙ (ap (λ (g : GenerationsState). (topology_at g 0).generation) generations_are ∙ sym (target_generation w h.holds.sound.stands)) in
        let quads = ap quadlets_left initiators_are in
        falls_by got.1.outbox.packets (due_of (is_unjudged t serial sent) sent.from sent.bytes) (delivered_goes past s serial false run receives)
        (ap (λ (x : WorldState). (terms (hist past x)).generation 0) last_is ∙ generation) wires
        (subst (λ (x : WorldState). requests got.1.outbox.packets + requests_left (hist past x) x ≤ requests_left before w + due_of (is_unjudged t serial sent) sent.from sent.bytes) (sym last_is) (omega (arith, nodes, due, quads)))
        (arrived_one past s serial run receives)
      where
        u_at : WorldState
        u_at = with_note (judged_note serial got.0) (marked serial false (with_target got.1.node w))

        generations_are : end.generations ≡ w.generations
        generations_are = (handed_alike 0 0 got.1.outbox u_at).generations ∙ (marked_alike (with_target got.1.node w) serial false).generations

        initiators_are : end.initiators ≡ w.initiators
        initiators_are = (handed_alike 0 0 got.1.outbox u_at).initiators ∙ (marked_alike (with_target got.1.node w) serial false).initiators

  -- ---- at an initiator
  module _ (i : ℕ) (to_is : sent.to ≡ suc i) (inside : i < length w.initiators) where
    pub own_falls : IsBehind units ready start past v → MayReceive run serial s → Falls before (left before w) now (left now v)
    unfolding delivered initiators_received arrived
    own_falls q receives =
        let x = receive_step sent.generation sent.bytes empty_outbox (slice_index_or w.initiators i (new_state 0 false)) in
        let one = with_initiators (slice_set w.initiators i x.1.1) w in
        let u_at = with_note (judged_note serial x.0) (marked serial false one) in
        let end = handed_out (suc i) 0 x.1.0 u_at in
        let last_is : v ≡ end =
        ap (λ (y : Option Arrival × (OutboxState × Scene)). (delivered_by serial false y).world) (to_own run serial i s sent there to_is ∙ own_inside sent i s inside) ∙ ap (λ n. handed_out n 0 x.1.0 u_at) to_is in
        let goes = delivered_goes past s serial false run receives in
        let aside = stays_aside (λ j. true) past w end (hears (λ j. true) past serial i false sent w) (subst (λ (y : WorldState). Goes before (hist past y)) last_is goes) in
        let alike = handed_alike (suc i) 0 x.1.0 u_at in
        let marks = marked_alike one serial false in
        let target : end.target ≡ w.target = alike.target ∙ marks.target in
        let states : end.initiators ≡ slice_set w.initiators i x.1.1 = alike.initiators ∙ marks.initiators in
        let generations : end.generations ≡ w.generations = alike.generations ∙ marks.generations in
        let nodes = nodes_aside before (hist past end) w end aside target in
        let law = (delivery_law sent.generation sent.bytes empty_outbox (initiator_at w i) (h.quads i inside)).owes_less in
        let quads = set_quadlets w.initiators i x.1.1 (new_state 0 false) inside in
        let states_are = ap quadlets_left states in
        let same = requests_same x.1.0.packets in
        let wires = (wire_falls s h.holds.sound).at_own (is_unjudged t) serial sent (record { found = there; flies = air }) run i to_is in
        falls_by x.1.0.packets (due_of (is_unjudged t serial sent) sent.from sent.bytes) goes
        (target_generation v q.holds.sound.stands ∙ (ap (λ (y : WorldState). (topology_at y.generations 0).generation) last_is ∙ (ap (λ (g : GenerationsState). (topology_at g 0).generation) generations ∙ sym (target_generation w h.holds.sound.stands))))
        wires
        (subst (λ (y : WorldState). requests x.1.0.packets + requests_left (hist past y) y ≤ requests_left before w + due_of (is_unjudged t serial sent) sent.from sent.bytes) (sym last_is) (omega (arith, nodes, law, quads, states_are, same)))
        (arrived_one past s serial run receives)
