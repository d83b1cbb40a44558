-- What a turn of a world is for an initiator: one of the target, in the same generation or by the sight of a later one; or one that leaves the target, in which the
-- initiator may be called, or sees a later generation.
use Rattle.sbp_world.proofs.Words.Std.{arith, ◌≡◌, ◌∙◌, refl, sym, ap, subst, ℕ, suc, ◌<◌, ◌≤◌, nat_eq, nat_lt, Bool, true, false, cond, List, [], ◌∷◌, length, Option, Some, None, Result, Ok, Err, slice_index_or, nat_tests, get_or-set_other, get_or-set_at, false≢true}
use Rattle.sbp_world.proofs.Words.Wire.{LabelParts, Node, Stale, Sent, found_sent, Topology, Request, GenerationsState, id_of, topology_at, judged_note, no_packet, Action, Note, empty_outbox, Moment}
use Rattle.sbp_world.proofs.Words.Target.{Login, is_live, Operation, Disk, Told, after, alone, sees, sets_key, ticks, NodeState, TargetScene, login_at, scene, expired, received, whole}
use Rattle.sbp_world.proofs.Words.Initiator.{Nothing, act_step, InitiatorState, new_state, expire_step, receive_step}
use Rattle.sbp_world.proofs.Words.World.{handed_out, keyed, no_unit, see_line, target_sees, target_ticks, tick_line, told_seen, with_seen, refused, target_left, timed_out, WorldState, initiator_at, with_initiator, with_note, with_target, Stands, AreOthers, CallsKeep}
use Rattle.sbp_journal.specs.declared.note.Note.TheVariants as notes
use Rattle.sbp_world.specs.Nodes as nodes
use Rattle.sbp_world.specs.Packets as packets
use Rattle.sbp_world.proofs.Wire.Alike.{IsAlike}
use Rattle.sbp_world.proofs.Wire.Nodes.{handed_alike}
use Rattle.sbp_world.proofs.Hosts.Hands.{second_tells, sight_tells}
use Rattle.sbp_world.proofs.Hosts.Knows.{seen_flag}
use Rattle.sbp_world.proofs.Hosts.TargetTells as target_tell
use Rattle.sbp_target.proofs.Histories.Calling.{Good}
use Rattle.sbp_world.proofs.Agents.Management.Calls.{management_law}
use Rattle.sbp_world.proofs.Agents.Management.Holding.{Holding, good_of}
use Rattle.sbp_world.proofs.Sessions.Standing.{stands as logins_stand}
use Rattle.sbp_world.proofs.Sessions.Turns.{next, not_later, other_same, own_latest, same_ids}
use Rattle.sbp_world.proofs.Lists.LiveActs.{IsReset}
use Rattle.sbp_world.proofs.Lists.LiveTold.{AwayFrom, HeardFirst, TargetTold, TellsAway, handed_told, none_told, one_told, told_first}
use Rattle.sbp_world.proofs.Lists.LiveCalls.{StandsStill, key_still, lapse_still, second_still, sight_clears, sight_owns, sight_still, sight_table}
use Rattle.sbp_world.proofs.Lists.IdsRise.{IsStill}
use Rattle.sbp_world.proofs.Lists.OwnTables.{Owns}

-- ---- what is the same
-- The generation of the target, the ID of an initiator's node in it, and the generation of that node are as they were.
pub record SameBus (i : ℕ) (w v : WorldState) : Type 0 where
  pub zero : (topology_at v.generations 0).generation ≡ (topology_at w.generations 0).generation
  pub id : id_of (topology_at v.generations 0) (suc i) ≡ id_of (topology_at w.generations 0) (suc i)
  pub own : (topology_at v.generations (suc i)).generation ≡ (topology_at w.generations (suc i)).generation

-- the target is called: where a packet is delivered to it, the first note says how it judged that
pub data TargetCall (w : WorldState) (base fresh : List Note) (now : NodeState) : Type 0 where
  delivers : (serial : ℕ) (sent : Sent) → found_sent serial w.store.kept ≡ Some sent → sent.to ≡ 0 → (told : Option Told) (disks : List Disk) → now ≡ (received told sent.generation sent.bytes (whole (scene w.target empty_outbox) disks)).1.node → (t : TargetTold base fresh) → t.first ≡ judged_note serial (received told sent.generation sent.bytes (whole (scene w.target empty_outbox) disks)).0 ∷ [] → TargetCall w base fresh now
  still : StandsStill w.target now → TargetTold base fresh → TargetCall w base fresh now

-- an initiator is called: behind the notes that there were, where it hears a packet, the first says how it judged that
pub data OwnCall (w : WorldState) (i : ℕ) (base fresh : List Note) (now : InitiatorState) : Type 0 where
  rests : now.operation ≡ (initiator_at w i).operation → now.seat ≡ (initiator_at w i).seat → OwnCall w i base fresh now
  hears : (serial : ℕ) (sent : Sent) → found_sent serial w.store.kept ≡ Some sent → sent.to ≡ suc i → now ≡ (receive_step sent.generation sent.bytes empty_outbox (initiator_at w i)).1.1 → HeardFirst serial (receive_step sent.generation sent.bytes empty_outbox (initiator_at w i)).0 base fresh → OwnCall w i base fresh now
  lapses : (label : LabelParts) → now ≡ (expire_step label empty_outbox (initiator_at w i)).1.1 → OwnCall w i base fresh now
  acts : (action : Action) → now ≡ (act_step action empty_outbox (initiator_at w i)).1.1 → OwnCall w i base fresh now

-- the target sees a later generation
pub record IsCleared (i : ℕ) (w v : WorldState) : Type 0 where
  pub later : (topology_at w.generations 0).generation < (topology_at v.generations 0).generation
  pub own : (topology_at v.generations (suc i)).generation ≡ (topology_at w.generations (suc i)).generation
  pub none : (op : Operation) → v.target.manager.operation ≡ Some op → ⊥
  pub held : (place : ℕ) (login : Login) → login_at v.target place ≡ Some login → is_live login ≡ false
  pub owns : Owns w.target.logins.places → Owns v.target.logins.places
  pub table : IsStill w.target.logins v.target.logins

-- the initiator does
pub record IsSighted (i : ℕ) (w v : WorldState) : Type 0 where
  pub zero : (topology_at v.generations 0).generation ≡ (topology_at w.generations 0).generation
  pub id : id_of (topology_at v.generations 0) (suc i) ≡ id_of (topology_at w.generations 0) (suc i)
  pub later : (topology_at w.generations (suc i)).generation < (topology_at v.generations (suc i)).generation
  pub reset : IsReset (initiator_at v i).operation (initiator_at v i).seat

-- by what is told behind the notes that there were
pub data TurnOf (i : ℕ) (w : WorldState) (base : List Note) (v : WorldState) : Type 0 where
  by_target : SameBus i w v → initiator_at v i ≡ initiator_at w i → TargetCall w base v.fresh v.target → TurnOf i w base v
  by_clearing : IsCleared i w v → initiator_at v i ≡ initiator_at w i → TargetTold base v.fresh → TurnOf i w base v
  by_own : SameBus i w v → v.target ≡ w.target → OwnCall w i base v.fresh (initiator_at v i) → TellsAway i w base v → TurnOf i w base v
  by_sight : IsSighted i w v → v.target ≡ w.target → AwayFrom i (topology_at v.generations (suc i)).generation w.store.kept base v.fresh → TurnOf i w base v

-- a turn of a world
abbrev pub Turned : WorldState → List Note → WorldState → Type 0
Turned w base v = (i : ℕ) → i < length w.initiators → TurnOf i w base v

pub same_bus : (i : ℕ) (w v : WorldState) → ((k : ℕ) → topology_at v.generations k ≡ topology_at w.generations k) → SameBus i w v
same_bus i w v e = record {
  zero = ap (λ (t : Topology). t.generation) (e 0);
  id = ap (λ (t : Topology). id_of t (suc i)) (e 0);
  own = ap (λ (t : Topology). t.generation) (e (suc i));
}

alike_bus : (i : ℕ) (w u v : WorldState) → u.generations ≡ w.generations → IsAlike u v → SameBus i w v
alike_bus i w u v e a = same_bus i w v (λ k. ap (λ (g : GenerationsState). topology_at g k) (a.generations ∙ e))

-- nothing of this
pub quiet_turn : (w : WorldState) (base : List Note) (v : WorldState) → ((k : ℕ) → topology_at v.generations k ≡ topology_at w.generations k) → v.target ≡ w.target → v.initiators ≡ w.initiators → ((i : ℕ) → TellsAway i w base v) → Turned w base v
quiet_turn w base v g t is away i l =
    let same : initiator_at v i ≡ initiator_at w i = ap (λ xs. slice_index_or xs i (new_state 0 false)) is in
    by_own (same_bus i w v g) t (rests (ap (λ (x : InitiatorState). x.operation) same) (ap (λ (x : InitiatorState). x.seat) same)) (away i)

-- the target is another
pub target_turn : (w : WorldState) (base : List Note) (v : WorldState) (node : NodeState) → IsAlike (with_target node w) v → TargetCall w base v.fresh node → Turned w base v
target_turn w base v node a c i l =
    by_target (alike_bus i w (with_target node w) v refl a) (ap (λ xs. slice_index_or xs i (new_state 0 false)) a.initiators) (subst (TargetCall w base v.fresh) (sym a.target) c)

-- an initiator is
pub own_turn : (w : WorldState) (base : List Note) (v : WorldState) (j : ℕ) (state : InitiatorState) → IsAlike (with_initiator j state w) v → ((i : ℕ) → i ≡ j → i < length w.initiators → OwnCall w i base v.fresh state) → ((i : ℕ) → TellsAway i w base v) → Turned w base v
own_turn w base v j state a c away i l = by_own (alike_bus i w (with_initiator j state w) v refl a) a.target (by (nat_eq i j) refl) (away i)
  where
    now_is : initiator_at v i ≡ initiator_at (with_initiator j state w) i
    now_is = ap (λ xs. slice_index_or xs i (new_state 0 false)) a.initiators

    by : (b : Bool) → nat_eq i j ≡ b → OwnCall w i base v.fresh (initiator_at v i)
    by true e =
        let same : i ≡ j = grind (arith, nat_tests) in
        let inside : j < length w.initiators = omega (arith, l, same) in
        subst (OwnCall w i base v.fresh) (sym (now_is ∙ get_or-set_at w.initiators j i state (new_state 0 false) same inside)) (c i same l)
    by false e =
        let was : initiator_at v i ≡ initiator_at w i = now_is ∙ get_or-set_other w.initiators j i state (new_state 0 false) (λ x. let y : nat_eq i j ≡ true = grind (arith, nat_tests) in false≢true (sym e ∙ y)) in
        rests (ap (λ (x : InitiatorState). x.operation) was) (ap (λ (x : InitiatorState). x.seat) was)

module _ (units ready : ℕ) (has : 0 < units) (start : List Disk) {past : List Moment} {lines : ℕ} (w : WorldState) (h : Holding units ready start past lines w) where
  abbrev stands : Stands past w
  stands = h.sound.stands

  abbrev G : GenerationsState
  G = w.generations

  abbrev pub good : Good w.target
  good = good_of units ready h.calls w.target has h.made

  abbrev pub Keeps : NodeState → Type 0
  Keeps node = CallsKeep node (record { table = node.logins; keys = node.keys; manager = node.manager; manages = None; asks = Nothing; decided = None })

  pub keeps : Keeps w.target
  keeps =
      let node = after units ready h.calls in
      subst Keeps h.made (management_law units ready h.calls (record { table = node.logins; keys = node.keys; manager = node.manager; manages = None; asks = Nothing; decided = None }) has (record { table = refl; keys = refl; manager = refl }))

  zero_there : 0 ≤ length w.initiators
  zero_there = omega arith

  -- ---- a time-out of the target, a second, a key
  pub lapse_turn : (request : Request) (line serial : ℕ) → request.node ≡ 0 → (r : Result (Unit {0}) Stale × TargetScene) → expired request.peer request.label (scene w.target empty_outbox) ≡ r → Turned w w.fresh (timed_out line serial request.node (packets.at_target (target_left r w.target) w))
  lapse_turn request line serial node (Err stale, x) e = quiet_turn w w.fresh _ (λ k. refl) refl refl (λ i. one_told i _ w.store.kept w.fresh (notes.Refused line no_packet) w tt (none_told i _ w.store.kept w.fresh))
  lapse_turn request line serial node (Ok done, x) e =
      target_turn w w.fresh _ x.node (let a = handed_alike request.node 0 x.outbox (with_note (notes.TimedOut serial) (with_target x.node w)) in record { generations = a.generations; target = a.target; initiators = a.initiators })
      (still (subst (λ (y : TargetScene). StandsStill w.target y.node) (ap (λ (y : Result (Unit {0}) Stale × TargetScene). y.1) e) (lapse_still w.target good keeps request.peer request.label))
      (late_told (Ok done, x) e))
    where
      late_told : (r : Result (Unit {0}) Stale × TargetScene) → expired request.peer request.label (scene w.target empty_outbox) ≡ r → TargetTold w.fresh (handed_out request.node 0 r.1.outbox (with_note (notes.TimedOut serial) (with_target r.1.node w))).fresh
      late_told r f =
          let t = handed_told (notes.TimedOut serial ∷ []) w.fresh 0 r.1.outbox (with_note (notes.TimedOut serial) (with_target r.1.node w))
          (subst (λ (y : Result (Unit {0}) Stale × TargetScene). AreOthers y.1.outbox.sides) f (target_tell.expires request.peer request.label (scene w.target empty_outbox) tt)) refl refl in
          subst (λ n. TargetTold w.fresh (handed_out n 0 r.1.outbox (with_note (notes.TimedOut serial) (with_target r.1.node w))).fresh) (sym node) t

  pub tick_turn : Turned w w.fresh (tick_line w)
  unfolding tick_line target_ticks
  tick_turn =
      let x = alone ticks w.target in
      let a = handed_alike 0 0 x.outbox (with_target x.node (with_note notes.Tick w)) in
      target_turn w w.fresh _ x.node (record { generations = a.generations; target = a.target; initiators = a.initiators }) (still (second_still w.target good keeps)
      (handed_told (notes.Tick ∷ []) w.fresh 0 x.outbox (with_target x.node (with_note notes.Tick w)) (second_tells w.target) refl refl))

  pub key_turn : (line unit : ℕ) (key : List ℕ) → Turned w w.fresh (keyed line unit key w)
  unfolding keyed
  key_turn line unit key = by (nat_lt unit (length w.target.units))
    where
      by : (b : Bool) → Turned w w.fresh (cond b (with_note (notes.Key unit) (with_target (alone (sets_key unit key) w.target).node w)) (refused line no_unit w))
      by true = target_turn w w.fresh _ (alone (sets_key unit key) w.target).node (record { generations = refl; target = refl; initiators = refl }) (still (key_still w.target good keeps unit key) (told_first (notes.Key unit) w.fresh refl))
      by false = quiet_turn w w.fresh _ (λ k. refl) refl refl (λ i. one_told i _ w.store.kept w.fresh (notes.Refused line no_unit) w tt (none_told i _ w.store.kept w.fresh))

  -- ---- the target sees the latest generation
  abbrev own_id : ℕ
  own_id = id_of G.latest 0

  abbrev sight : TargetScene
  sight = alone (sees G.latest.generation own_id) w.target

  target_layer : w.target.layer.generation ≡ (topology_at G 0).generation
  target_layer = sym (ap (λ (l : Node). l.generation) (stands.is.layers_are 0 zero_there)) ∙ stands.is.sights 0 zero_there

  zero_latest : topology_at (next w 0) 0 ≡ G.latest
  zero_latest = let size = stands.is.seen in own_latest w 0 (omega arith)

  others_stay : (i : ℕ) → topology_at (next w 0) (suc i) ≡ topology_at G (suc i)
  others_stay i = other_same w 0 (suc i) (grind (arith, nat_tests))

  abbrev seen_world : WorldState
  seen_world = handed_out 0 0 sight.outbox (with_target sight.node (with_seen 0 (told_seen 0 w)))

  module _ (i : ℕ) (l : i < length w.initiators) where
    a : IsAlike (with_target sight.node (with_seen 0 (told_seen 0 w))) seen_world
    a = handed_alike 0 0 sight.outbox (with_target sight.node (with_seen 0 (told_seen 0 w)))

    at_now : (k : ℕ) → topology_at seen_world.generations k ≡ topology_at (next w 0) k
    at_now k = ap (λ (g : GenerationsState). topology_at g k) a.generations

    initiator_same : initiator_at seen_world i ≡ initiator_at w i
    initiator_same = ap (λ xs. slice_index_or xs i (new_state 0 false)) a.initiators

    sighted : (b : Bool) → nat_lt w.target.layer.generation G.latest.generation ≡ b → TurnOf i w w.fresh seen_world
    unfolding target_sees
    sighted true e =
        let flag = seen_flag w.target.layer G.latest.generation own_id ∙ e in
        let z = ap (λ (t : Topology). t.generation) (at_now 0 ∙ zero_latest) in
        let layer = target_layer in
        let less : w.target.layer.generation < G.latest.generation = grind (arith, nat_tests) in
        by_clearing (record {
          later = omega (arith, z, layer, less);
          own = ap (λ (t : Topology). t.generation) (at_now (suc i) ∙ others_stay i);
          none = λ op is. sight_clears w.target good keeps G.latest.generation own_id flag op (ap (λ (n : NodeState). n.manager.operation) (sym a.target) ∙ is);
          held = λ place login is. (logins_stand w.target good).new_sights G.latest.generation own_id place login flag (ap (λ (n : NodeState). login_at n place) (sym a.target) ∙ is);
          owns = λ own. subst (λ (n : NodeState). Owns n.logins.places) (sym a.target) (sight_owns w.target good keeps G.latest.generation own_id own);
          table = subst (λ (n : NodeState). IsStill w.target.logins n.logins) (sym a.target) (sight_table w.target good keeps G.latest.generation own_id);
        }) initiator_same
        (handed_told (notes.Seen 0 G.latest.generation ∷ []) w.fresh 0 sight.outbox (with_target sight.node (with_seen 0 (told_seen 0 w))) (sight_tells G.latest.generation own_id w.target) refl refl)
    sighted false e =
        let flag = seen_flag w.target.layer G.latest.generation own_id ∙ e in
        let z = ap (λ (t : Topology). t.generation) (at_now 0 ∙ zero_latest) in
        let layer = target_layer in
        let more : G.latest.generation ≤ w.target.layer.generation = grind (arith, nat_tests) in
        let least = not_later w stands 0 zero_there in
        by_target (record {
          zero = omega (arith, z, layer, more, least);
          id = ap (λ (t : Topology). id_of t (suc i)) (at_now 0 ∙ zero_latest) ∙ sym (same_ids w stands e (suc i) l);
          own = ap (λ (t : Topology). t.generation) (at_now (suc i) ∙ others_stay i);
        }) initiator_same (subst (TargetCall w w.fresh seen_world.fresh) (sym a.target) (still (sight_still w.target good keeps G.latest.generation own_id flag)
        (handed_told (notes.Seen 0 G.latest.generation ∷ []) w.fresh 0 sight.outbox (with_target sight.node (with_seen 0 (told_seen 0 w))) (sight_tells G.latest.generation own_id w.target) refl refl)))

  pub sight_turn : Turned w w.fresh (see_line 0 w)
  unfolding see_line nodes.sees target_sees
  sight_turn i l = sighted i l (nat_lt w.target.layer.generation G.latest.generation) refl
