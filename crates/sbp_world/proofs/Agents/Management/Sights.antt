-- The target sees a generation, a second passes, a unit gets a key: the terms of the target's management stay its state.
use Rattle.sbp_world.proofs.Words.Std.{arith, ◌≡◌, ◌∙◌, refl, sym, ap, subst, ℕ, zero, suc, ◌-◌, ◌<◌, ◌≤◌, nat_eq, nat_lt, Bool, true, false, cond, List, ◌∷◌, length, None, if◌then◌else◌, slice_set}
use Rattle.sbp_world.proofs.Words.Wire.{Node, Layer, seeing_step, seen_in_generation, empty_outbox, Moment, asked, said, Terms, terms, id_of}
use Rattle.sbp_world.proofs.Words.Target.{source_in, Disk, Purpose, NodeState, Scene, scene, reset_by, seen, ticked, with_key, Call, after, sees_call, sets_key, ticks}
use Rattle.sbp_world.proofs.Words.Initiator.{Nothing, Turn, see_step}
use Rattle.sbp_world.proofs.Words.Laws.{key_by, target_at, event_of}
use Rattle.sbp_world.proofs.Words.World.{handed_out, keyed, no_unit, handed_all, initiator_learns, see_line, sees, target_learns, target_sees, target_ticks, tick_line, told_seen, with_seen, refused, WorldState, initiator_at, with_initiator, with_note, with_target, Stands, Agrees, Office, at_rest, cleared, office_of, office_ticked, office_key, Awaits, IsManagementAt}
use Rattle.mgmt_agent.specs.Machine.{Machine}
use Rattle.sbp_journal.specs.declared.event.Event.TheVariants as events
use Rattle.sbp_journal.specs.declared.note.Note.TheVariants as notes
use Rattle.sbp_target.proofs.Histories.Calling.{Good}
use Rattle.sbp_world.proofs.Wire.Bus.{aged, holds}
use Rattle.sbp_world.proofs.Wire.Holding.{Sound}
use Rattle.sbp_world.proofs.Wire.Nodes.{handed_alike}
use Rattle.sbp_world.proofs.Wire.Starts.{laws_of}
use Rattle.sbp_world.proofs.Agents.Management.Calls.{forgets_if}
use Rattle.sbp_world.proofs.Agents.Management.Firsts.{other_sight, sight_office, tick_office}
use Rattle.sbp_world.proofs.Agents.Management.Hands.{own_turn}
use Rattle.sbp_world.proofs.Agents.Management.Holding.{Holding, good_of, target_generation}
use Rattle.sbp_world.proofs.InitiatorForms as own
use Rattle.sbp_world.proofs.Agents.Management.Lapsing.{refuses}
use Rattle.sbp_world.proofs.Agents.Management.Managing.{Says}
use Rattle.sbp_world.proofs.Agents.Management.Outs.{says_out}
use Rattle.sbp_world.proofs.Agents.Management.Passing.{Keeping, awaits_kept, keeping, keeping_self, keeping_then}
use Rattle.sbp_world.proofs.Agents.Management.Resting.{Rested, second_rests, seen_first, sight_rests}
use Rattle.sbp_world.proofs.Agents.Management.Still.{Still, hist}
use Rattle.sbp_world.proofs.Agents.Management.Told.{office_in}
use Rattle.sbp_world.proofs.Hosts.Knows.{seen_flag, seen_test}

-- ---- a call that asks for nothing: what it tells, and what it is then
module _ (units ready : ℕ) (start : List Disk) where
  -- where the management's operation stays, or there is none any more
  pub data Passes (t u : Terms) (first : Office) (o : Office) (node now : NodeState) : Type 0 where
    stays : Keeping t u → first.manager ≡ o.manager → first.manages ≡ o.manages → now.layer ≡ node.layer → Passes t u first o node now
    ends : first.manager.operation ≡ None → first.manages ≡ None → Passes t u first o node now

  pub rested_turn : {past later : List Moment} {lines more : ℕ} (w v : WorldState) (x : Scene) (first : Office) (call : Call) → Holding units ready start past lines w → Rested w.target.rom first x → first.asks ≡ Nothing → v.target ≡ x.node → office_in start later v ≡ first → Passes (terms (hist past w)) (terms (hist later v)) first (office_in start past w) w.target x.node → ((calls : List Call) → after units ready calls ≡ w.target → after units ready (call ∷ calls) ≡ x.node) → Sound later more (handed_out 0 0 x.outbox v) → Holding units ready start later more (handed_out 0 0 x.outbox v)
  rested_turn {past} {later} w v x first call h r idle target_is office passes made sound =
      let last = handed_out 0 0 x.outbox v in
      let last_target : last.target ≡ x.node = (handed_alike 0 0 x.outbox v).target ∙ target_is in
      let out = says_out start later 0 0 x.outbox v r.now (subst (λ o. Says o r.now x.outbox.sides) (sym office) r.says) (r.asks ∙ idle) (laws_of later last sound.stands).sent in
      let now_manager : x.node.manager ≡ first.manager = sym r.agrees.manager ∙ r.manager in
      let awaits_by : Passes (terms (hist past w)) (terms (hist later v)) first (office_in start past w) w.target x.node → Awaits (terms (hist later last)) x.node.layer (source_in x.node.manager.operation) (office_in start later last).manages =
      λ p. pass last out.office out.still now_manager p in
      record {
        sound = sound;
        calls = call ∷ h.calls;
        made = made h.calls h.made ∙ sym last_target;
        at = subst (IsManagementAt start (hist later last)) (sym last_target) (record {
          agrees = subst (λ o. Agrees o x.node) (sym out.office) (record { table = r.agrees.table; keys = r.agrees.keys; manager = r.agrees.manager });
          awaits = awaits_by passes;
        });
        rom = subst (λ (n : NodeState). length n.rom ≤ 1024) (sym last_target) (subst (λ y. length y ≤ 1024) (sym r.rom_is) h.rom);
      }
    where
      pass : (last : WorldState) → office_in start later last ≡ r.now → Still (terms (hist later v)) (terms (hist later last)) → x.node.manager ≡ first.manager → Passes (terms (hist past w)) (terms (hist later v)) first (office_in start past w) w.target x.node → Awaits (terms (hist later last)) x.node.layer (source_in x.node.manager.operation) (office_in start later last).manages
      pass last same still m (stays k manager manages layer) =
          subst (λ y. Awaits (terms (hist later last)) y (source_in x.node.manager.operation) (office_in start later last).manages) (sym layer)
          (subst (λ (y : Machine). Awaits (terms (hist later last)) w.target.layer (source_in y.operation) (office_in start later last).manages) (sym (m ∙ manager ∙ h.at.agrees.manager))
          (awaits_kept (terms (hist past w)) (terms (hist later last)) w.target.layer (source_in w.target.manager.operation) (office_in start past w).manages (office_in start later last).manages
          (keeping_then (terms (hist past w)) (terms (hist later v)) (terms (hist later last)) k (keeping (terms (hist later v)) (terms (hist later last)) still))
          (ap (λ (o : Office). o.manages) same ∙ r.manages ∙ manages) h.at.awaits))
      pass last same still m (ends operation manages) =
          subst (λ y. Awaits (terms (hist later last)) x.node.layer y (office_in start later last).manages) (sym (ap (λ (y : Machine). source_in y.operation) m ∙ ap source_in operation))
          (ap (λ (o : Office). o.manages) same ∙ r.manages ∙ manages)

same_generation : (l g t : ℕ) → l ≤ g → t ≡ l → nat_lt l g ≡ false → g ≡ t
same_generation l g t a e f = grind arith

layer_by : (b : Bool) (x y : Layer Purpose) → b ≡ false → (cond {A = Bool × Layer Purpose} b (true, x) (false, y)).1 ≡ y
layer_by true x y e = absurd (let no : true ≡ false = e in cc)
layer_by false x y e = refl

step_layer : (layer : Layer Purpose) (g id : ℕ) → nat_lt layer.generation g ≡ false → (seeing_step layer g id).1 ≡ layer
unfolding seeing_step
step_layer layer g id e = layer_by (nat_lt layer.generation g) (seen_in_generation layer g id) layer e

old_layer : (r : Bool × Layer Purpose) (s : Scene) → r.0 ≡ false → (reset_by r s).1.node.layer ≡ r.1
old_layer (true, layer) s e = absurd (let no : true ≡ false = e in cc)
old_layer (false, layer) s e = refl

seen_layer : (g id : ℕ) (node : NodeState) → nat_lt node.layer.generation g ≡ false → (seen g id (scene node empty_outbox)).1.node.layer ≡ node.layer
unfolding seen
seen_layer g id node e =
    old_layer (seeing_step node.layer g id) (scene node empty_outbox) (seen_flag node.layer g id ∙ e) ∙ step_layer node.layer g id e

seen_same : (b : Bool) (o : Office) → cond b (cleared o) o ≡ seen_first b o
seen_same true o = refl
seen_same false o = refl

seen_asks : (b : Bool) (o : Office) → o.asks ≡ Nothing → (seen_first b o).asks ≡ Nothing
seen_asks true o e = e
seen_asks false o e = e

module _ (units ready : ℕ) (has : 0 < units) (start : List Disk) where
  module _ {past : List Moment} {lines : ℕ} (w : WorldState) (h : Holding units ready start past lines w) where
    abbrev stands : Stands past w
    stands = h.sound.stands

    g : Good w.target
    g = good_of units ready h.calls w.target has h.made

    abbrev t : Terms
    t = terms (hist past w)

    abbrev o : Office
    o = at_rest (office_in start past w)

    agrees : Agrees o w.target
    agrees = record { table = h.at.agrees.table; keys = h.at.agrees.keys; manager = h.at.agrees.manager }

    -- ---- a second
    tick_layer : (ticked (scene w.target empty_outbox)).node.layer ≡ w.target.layer
    unfolding ticked
    tick_layer = refl

    pub ticks_line : Sound past lines (tick_line w) → Holding units ready start past lines (tick_line w)
    unfolding tick_line target_ticks
    ticks_line later =
        let x = ticked (scene w.target empty_outbox) in
        let v = with_target x.node (with_note notes.Tick w) in
        rested_turn units ready start w v x (office_ticked o) ticks h (second_rests o w.target agrees g.table.sound) refl refl (tick_office start (hist past w))
        (stays (keeping_self t) refl refl tick_layer) (λ calls made. ap (λ n. (ticked (scene n empty_outbox)).node) made) later

    -- ---- a key
    key_office : (before : List Moment) (line unit : ℕ) (key : List ℕ) → hist past w ≡ asked line (events.Key unit key) ∷ before → office_of (target_at start (said (notes.Key unit) ∷ hist past w)) ≡ office_key unit key (office_in start past w)
    key_office before line unit key e = ap (λ ms. office_of (key_by (event_of ms) unit (target_at start (hist past w)))) e

    keys_if : (b : Bool) (before : List Moment) (line at_line unit : ℕ) (key : List ℕ) → hist past w ≡ asked line (events.Key unit key) ∷ before → (let v = (if b then with_note (notes.Key unit) (with_target (with_key unit key w.target) w) else refused at_line no_unit w) in Sound past lines v → Holding units ready start past lines v)
    keys_if true before line at_line unit key e later =
        let office = key_office before line unit key e in
        record {
          sound = later;
          calls = sets_key unit key ∷ h.calls;
          made = ap (λ n. with_key unit key n) h.made;
          at = record {
            agrees = record {
              table = ap (λ (x : Office). x.table) office ∙ h.at.agrees.table;
              keys = ap (λ (x : Office). x.keys) office ∙ ap (λ ks. slice_set ks unit key) h.at.agrees.keys;
              manager = ap (λ (x : Office). x.manager) office ∙ h.at.agrees.manager;
            };
            awaits = subst (λ m. Awaits t w.target.layer (source_in w.target.manager.operation) m) (sym (ap (λ (x : Office). x.manages) office)) h.at.awaits;
          };
          rom = h.rom;
        }
    keys_if false before line at_line unit key e later = refuses units ready has start w at_line no_unit h later

    pub keys_line : (before : List Moment) (line at_line unit : ℕ) (key : List ℕ) → hist past w ≡ asked line (events.Key unit key) ∷ before → Sound past lines (keyed at_line unit key w) → Holding units ready start past lines (keyed at_line unit key w)
    unfolding keyed
    keys_line before line at_line unit key e later = keys_if (nat_lt unit (length w.target.units)) before line at_line unit key e later

    -- ---- a sight of the target
    abbrev now : ℕ
    now = w.generations.latest.generation

    abbrev own_id : ℕ
    own_id = id_of w.generations.latest 0

    pub record Ages : Type 0 where
      pub below : w.target.layer.generation ≤ now
      pub same : t.generation 0 ≡ w.target.layer.generation

    pub ages : Ages
    ages =
        let there : 0 ≤ length w.initiators = omega arith in
        let layer_is : (stands.wire.layer 0).generation ≡ w.target.layer.generation = ap (λ (l : Node). l.generation) (stands.is.layers_are 0 there) in
        let a = aged stands.wire 0 stands.reached in
        let b = stands.is.bus_is in
        let c = (holds stands.wire stands.reached).bus_is in
        record {
          below = omega arith;
          same = target_generation w stands ∙ sym (stands.is.sights 0 there) ∙ layer_is;
        }

    abbrev seen_by_target : Scene
    seen_by_target = (seen now own_id (scene w.target empty_outbox)).1

    abbrev sight_first : Office
    sight_first = seen_first (seeing_step w.target.layer now own_id).0 o

    abbrev sight_world : WorldState
    sight_world = with_target seen_by_target.node (with_seen 0 (told_seen 0 w))

    sight_is : office_in start past sight_world ≡ sight_first
    sight_is =
        sight_office start (hist past w) now
        ∙ ap (λ b. cond b (cleared o) o) (seen_test w.target.layer.generation now (t.generation 0) ages.below ages.same ∙ sym (seen_flag w.target.layer now own_id))
        ∙ seen_same (seeing_step w.target.layer now own_id).0 o

    sight_passes : (b : Bool) → nat_lt w.target.layer.generation now ≡ b → Passes units ready start t (terms (hist past sight_world)) sight_first (office_in start past w) w.target seen_by_target.node
    sight_passes true e =
        let flag = seen_flag w.target.layer now own_id ∙ e in
        ends (ap (λ b. (seen_first b o).manager.operation) flag) (ap (λ b. (seen_first b o).manages) flag)
    sight_passes false e =
        let flag = seen_flag w.target.layer now own_id ∙ e in
        stays (record { generation = same_generation w.target.layer.generation now (t.generation 0) ages.below ages.same e; ids = λ peer. refl; held = λ x kind s r f. f })
        (ap (λ b. (seen_first b o).manager) flag) (ap (λ b. (seen_first b o).manages) flag) (seen_layer now own_id w.target e)

    sees_target : Sound past lines (see_line 0 w) → Holding units ready start past lines (see_line 0 w)
    unfolding see_line sees target_sees
    sees_target later =
        rested_turn units ready start w sight_world seen_by_target sight_first (sees_call now own_id) h
        (sight_rests now own_id o w.target g.lives (forgets_if w.target g now own_id (nat_lt w.target.layer.generation now) refl) agrees g.table.sound)
        (seen_asks (seeing_step w.target.layer now own_id).0 o refl) refl sight_is
        (sight_passes (nat_lt w.target.layer.generation now) refl)
        (λ calls made. ap (λ n. (seen now own_id (scene n empty_outbox)).1.node) made) later

    -- ---- a sight of an initiator
    module _ (i : ℕ) where
      abbrev told_world : WorldState
      told_world = with_seen (suc i) (told_seen (suc i) w)

      sees_if : (b : Bool) → b ≡ false → (let v = handed_all (suc i) (if b then target_learns told_world else initiator_learns (suc i) told_world) in Sound past lines v → Holding units ready start past lines v)
      sees_if true e later = absurd (let no : true ≡ false = e in cc)
      sees_if false e later =
          let turn : Turn = see_step told_world.generations.latest.generation (id_of told_world.generations.latest (suc i)) (id_of told_world.generations.latest 0) empty_outbox (initiator_at told_world (suc i - 1)) in
          let other : nat_eq (suc i) 0 ≡ false = grind arith in
          let apart : nat_eq 0 (suc i) ≡ false = grind arith in
          own_turn units ready start w (with_initiator (suc i - 1) turn.1 told_world) (suc i) 0 turn.0 h
          (own.sees told_world.generations.latest.generation (id_of told_world.generations.latest (suc i)) (id_of told_world.generations.latest 0) empty_outbox (initiator_at told_world (suc i - 1)) tt)
          (other_sight start (hist past w) (suc i) now other)
          (record { generation = ap (λ b. cond b now (t.generation 0)) apart; ids = λ peer. refl; held = λ x kind s r f. f }) refl later

      sees_own : Sound past lines (see_line (suc i) w) → Holding units ready start past lines (see_line (suc i) w)
      unfolding see_line sees
      sees_own later = sees_if (nat_eq (suc i) 0) (let e : nat_eq (suc i) 0 ≡ false = grind arith in e) later

    pub sights : (node : ℕ) → Sound past lines (see_line node w) → Holding units ready start past lines (see_line node w)
    sights zero later = sees_target later
    sights (suc i) later = sees_own i later
