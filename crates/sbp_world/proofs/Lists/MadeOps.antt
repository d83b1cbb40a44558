-- What the target's operation of a calm initiator keeps of its ORB over a turn, and what it decides on: a management ORB that the initiator made in a line of an action.
use Rattle.sbp_world.proofs.Words.Std.{arith, ◌≡◌, ◌∙◌, refl, sym, ap, subst, ℕ, suc, ◌+◌, ◌^◌, ◌<◌, List, ◌++◌, length, Option, Some, None}
use Rattle.sbp_world.proofs.Words.Wire.{SerialsCount, LabelParts, Packet, judging_step, of_response, Sent, found_sent, empty_outbox, Moment}
use Rattle.sbp_world.proofs.Words.Target.{Table, Operation, Disk, Told, NodeState, scene, answer_in, received, whole}
use Rattle.sbp_world.proofs.Words.Initiator.{ManagementOrb, management_orb, Answer, Payload}
use Rattle.sbp_world.proofs.Words.Laws.{place_bytes, place_held, Decided, bytes_in, decided_by, decided_in, EachMoment}
use Rattle.sbp_world.proofs.Words.World.{NoneInjected, Scene, WorldState, AreAsked, KeepsIn, IsCalm, BringPlaces, AreShort}
use Rattle.sbp_world.proofs.Agents.Management.Holding.{Holding}
use Rattle.sbp_world.proofs.Agents.Management.Still.{hist}
use Rattle.mgmt_agent.specs.declared.operation.Phase.{Phase}
use Rattle.mgmt_agent.specs.declared.operation.Phase.TheVariants as phases
use Rattle.mgmt_agent.specs.Machine.{Machine}
use Rattle.sbp_target.specs.declared.purpose.Purpose.TheVariants as purposes
use Rattle.sbp_world.proofs.Lists.Courses.{Goes}
use Rattle.sbp_world.proofs.Lists.Judging.{Grown, goes_next, grown}
use Rattle.sbp_world.proofs.Lists.KeptBrings.{none_decided, same_decided}
use Rattle.sbp_world.proofs.Lists.KeptReplies.{HasRead, brought, delivery_read, kept}
use Rattle.sbp_world.proofs.Lists.KeptTurns.{id_is, operation_is}
use Rattle.sbp_world.proofs.Lists.LiveCalls.{HasOperation, delivery_operation, replies, starts, stays}
use Rattle.sbp_world.proofs.Lists.LiveReplies.{IsDecidedOn}
use Rattle.sbp_world.proofs.Lists.LiveRuns.{base_of, goes_turned}
use Rattle.sbp_world.proofs.Lists.LiveSteps.{id_in}
use Rattle.sbp_world.proofs.Lists.LiveTurns.{TargetCall, TurnOf, by_clearing, by_own, by_sight, by_target, delivers, good, keeps, still}
use Rattle.sbp_world.proofs.Lists.OrbsMade.{IsMade, held_made, made_on}
use Rattle.sbp_world.proofs.Lists.OwnCounts.{FewAt}
use Rattle.sbp_world.proofs.Lists.OwnOps.{AreOwnOps, IsOwnOp, StoodThere, brings_held}

-- the ORB that a phase keeps; or it keeps none, as none was read
pub data HasMade (past : List Moment) (i : ℕ) (phase : Phase) : Type 0 where
  made : (orb : ManagementOrb) → KeepsIn phase orb → IsMade past i orb → HasMade past i phase
  unread : ((orb : ManagementOrb) → KeepsIn phase orb) → HasMade past i phase

-- of each operation of the initiator's node
abbrev pub AreMade : List Moment → (i node : ℕ) → Option Operation → Type 0
AreMade past i node operation = (op : Operation) → operation ≡ Some op → op.source ≡ node → HasMade past i op.phase

-- what an ORB that stood in a place is
pub stood_made : (past : List Moment) (i place : ℕ) (bytes : List ℕ) → StoodThere past i place bytes → IsMade past i (management_orb bytes)
stood_made past i place bytes b = by (place_held b.earlier i place) refl
  where
    by : (held : Option ManagementOrb) → place_held b.earlier i place ≡ held → IsMade past i (management_orb bytes)
    by None e = absurd (b.some e)
    by (Some one) e =
        let here : IsMade (b.later ++ b.earlier) i (management_orb (place_bytes (Some one))) = made_on b.later b.earlier i (management_orb (place_bytes (Some one))) (held_made i place b.earlier one e) in
        let bytes_are : bytes ≡ place_bytes (Some one) = b.bytes_are ∙ ap place_bytes e in
        subst (λ (xs : List ℕ). IsMade past i (management_orb xs)) (sym bytes_are) (subst (λ ms. IsMade ms i (management_orb (place_bytes (Some one)))) b.is here)

-- an operation that reads the EUI-64 keeps an ORB
pub reads_low : (orb own : ManagementOrb) (high : ℕ) → KeepsIn (phases.LowEui orb high) own → orb ≡ own
reads_low orb own high k = k

pub never_unread : {A : Type 0} (orb : ManagementOrb) (high : ℕ) → ((own : ManagementOrb) → KeepsIn (phases.LowEui orb high) own) → A
never_unread orb high keeps =
    let other : ManagementOrb = record orb { subject = suc orb.subject } in
    let same : orb.subject ≡ suc orb.subject = ap (λ (o : ManagementOrb). o.subject) (reads_low orb other high (keeps other)) in
    absurd (omega (arith, same))

-- ---- what the target decides on
module _ (units ready : ℕ) (more_units : 0 < units) (start : List Disk) {past : List Moment} {lines : ℕ} (w : WorldState) (h : Holding units ready start past lines w) (i : ℕ) (inside : i < length w.initiators) (few_nodes : i + 1 < 2 ^ 16) (calm : IsCalm (hist past w) i) (none : NoneInjected (hist past w) i) (counts : SerialsCount (hist past w)) (are : AreAsked start (hist past w)) (places : BringPlaces (hist past w) i) (shorts : AreShort (hist past w)) (few : EachMoment (FewAt i) (hist past w)) (own : AreOwnOps start (hist past w) i) (ops : AreMade (hist past w) i (id_in w i) w.target.manager.operation) where
  module _ (serial : ℕ) (sent : Sent) (found : found_sent serial w.store.kept ≡ Some sent) (zero_to : sent.to ≡ 0) (p : Packet) (label : LabelParts) (e : (judging_step w.target.layer sent.generation sent.bytes).0 ≡ of_response p label (Some purposes.Management)) where
    -- what a read brings
    module _ (old : Operation) (there : w.target.manager.operation ≡ Some old) (of_it : old.source ≡ id_in w i) where
      old_own : IsOwnOp start (hist past w) i old
      old_own = own old (operation_is units ready more_units start w h i inside ∙ there) (of_it ∙ sym (id_is units ready more_units start w h i inside))

      pub brings_made : old.phase ≡ phases.Orb → (bytes : List ℕ) → answer_in p ≡ Payload bytes → IsMade (hist past w) i (management_orb bytes)
      brings_made phase bytes answer = stood_made (hist past w) i old_own.place bytes (brings_held units ready more_units start w h i inside few_nodes calm none counts are places shorts few serial sent found zero_to p label e old there of_it old_own phase bytes answer)

    module _ (left : Table) (d : IsDecidedOn w.target.manager w.target.logins w.target.keys (answer_in p) left) (source : d.was.source ≡ id_in w i) where
      on_is : (phase : Phase) → d.was.phase ≡ phase → decided_in phase d.was.source (answer_in p) ≡ Some d.on
      on_is phase f = ap (λ (x : Phase). decided_in x d.was.source (answer_in p)) (sym f) ∙ (ap (λ (x : Option Operation). decided_by x (answer_in p)) (sym d.is) ∙ d.brought)

      low : (orb : ManagementOrb) (high : ℕ) → d.was.phase ≡ phases.LowEui orb high → HasMade (hist past w) i (phases.LowEui orb high) → IsMade (hist past w) i d.on.orb
      low orb high f (made own keeps m) =
          let on = same_decided _ d.on (on_is (phases.LowEui orb high) f) in
          subst (IsMade (hist past w) i) (sym (reads_low orb own high keeps) ∙ ap (λ (y : Decided). y.orb) on) m
      low orb high f (unread keeps) = never_unread orb high keeps

      by_phase : (phase : Phase) → d.was.phase ≡ phase → IsMade (hist past w) i d.on.orb
      by_phase phases.Orb f =
          let on = same_decided _ d.on (on_is phases.Orb f) in
          let orb_is : management_orb d.bytes ≡ d.on.orb = ap (λ (a : Answer). management_orb (bytes_in a)) (sym d.pays) ∙ ap (λ (x : Decided). x.orb) on in
          subst (IsMade (hist past w) i) orb_is (brings_made d.was d.is source f d.bytes d.pays)
      by_phase (phases.HighEui orb) f = none_decided d.on (on_is (phases.HighEui orb) f)
      by_phase (phases.LowEui orb high) f = low orb high f (subst (HasMade (hist past w) i) f (ops d.was d.is source))
      by_phase (phases.Response fifo) f = none_decided d.on (on_is (phases.Response fifo) f)
      by_phase phases.Status f = none_decided d.on (on_is phases.Status f)

      pub decided_made : IsMade (hist past w) i d.on.orb
      decided_made = by_phase d.was.phase refl

-- ---- a turn
module _ (units ready : ℕ) (more_units : 0 < units) (start : List Disk) (past : List Moment) (s : Scene) (later : List Moment) (t : Scene) {lines : ℕ} (g : Goes past s later t) (h : Holding units ready start past lines s.world) (i : ℕ) (inside : i < length s.world.initiators) (few_nodes : i + 1 < 2 ^ 16) (calm : IsCalm (hist past s.world) i) (none : NoneInjected (hist past s.world) i) (counts : SerialsCount (hist past s.world)) (are : AreAsked start (hist past s.world)) (places : BringPlaces (hist past s.world) i) (shorts : AreShort (hist past s.world)) (few : EachMoment (FewAt i) (hist past s.world)) (own : AreOwnOps start (hist past s.world) i) (ops : AreMade (hist past s.world) i (id_in s.world i) s.world.target.manager.operation) where
  abbrev w : WorldState
  w = s.world

  abbrev v : WorldState
  v = t.world

  abbrev before : List Moment
  before = hist past w

  abbrev now : List Moment
  now = hist later v

  x : Grown before now
  x = grown before now (goes_next past s later t g)

  orb_on : (orb : ManagementOrb) → IsMade before i orb → IsMade now i orb
  orb_on orb m = subst (λ ms. IsMade ms i orb) x.is (made_on x.new before i orb m)

  module _ (op : Operation) (is : v.target.manager.operation ≡ Some op) (source : op.source ≡ id_in v i) where
    on : (phase : Phase) → ((orb : ManagementOrb) → KeepsIn phase orb → KeepsIn op.phase orb) → HasMade before i phase → HasMade now i op.phase
    on phase f (made orb keeps m) = made orb (f orb keeps) (orb_on orb m)
    on phase f (unread keeps) = unread (λ orb. f orb (keeps orb))

    same_then : id_in v i ≡ id_in w i → v.target.manager.operation ≡ w.target.manager.operation → HasMade now i op.phase
    same_then id e = on op.phase (λ orb k. k) (ops op (sym e ∙ is) (source ∙ id))

    module _ (id : id_in v i ≡ id_in w i) (serial : ℕ) (sent : Sent) (found : found_sent serial w.store.kept ≡ Some sent) (zero_to : sent.to ≡ 0) where
      by_read : (p : Packet) (label : LabelParts) → (judging_step w.target.layer sent.generation sent.bytes).0 ≡ of_response p label (Some purposes.Management) → HasRead w.target.manager.operation (answer_in p) op → HasMade now i op.phase
      by_read p label e (kept old there source_old orb_old f) = on old.phase f (ops old there (source_old ∙ (source ∙ id)))
      by_read p label e (brought old there source_old orb_old phase bytes answer k) =
          made (management_orb bytes) k (orb_on (management_orb bytes) (brings_made units ready more_units start w h i inside few_nodes calm none counts are places shorts few own ops serial sent found zero_to p label e old there (source_old ∙ (source ∙ id)) phase bytes answer))

      by_delivery : (told : Option Told) (disks : List Disk) → (let node = (received told sent.generation sent.bytes (whole (scene w.target empty_outbox) disks)).1.node in v.target.manager.operation ≡ node.manager.operation → node.manager.operation ≡ Some op → HasOperation w.target sent.generation sent.bytes node op → HasMade now i op.phase)
      by_delivery told disks left there (stays m l) = same_then id (left ∙ ap (λ (x : Machine). x.operation) m)
      by_delivery told disks left there (starts a l) = subst (HasMade now i) (sym a.phase) (unread (λ orb. tt))
      by_delivery told disks left there (replies p label f r) = by_read p label f (delivery_read w.target (good units ready more_units start w h) (keeps units ready more_units start w h) told disks sent.generation sent.bytes p label f op there)

    by_call : id_in v i ≡ id_in w i → TargetCall w (base_of g) v.fresh v.target → HasMade now i op.phase
    by_call id (still x told) = same_then id (ap (λ (m : Machine). m.operation) (x.operation op is))
    by_call id (delivers serial sent found zero_to told disks node notes first) =
        let there = sym (ap (λ (n : NodeState). n.manager.operation) node) ∙ is in
        by_delivery id serial sent found zero_to told disks (ap (λ (n : NodeState). n.manager.operation) node) there (delivery_operation w.target (good units ready more_units start w h) (keeps units ready more_units start w h) sent.generation sent.bytes told disks op there)

    by_turn : TurnOf i w (base_of g) v → HasMade now i op.phase
    by_turn (by_target bus same call) = by_call bus.id call
    by_turn (by_clearing c same told) = absurd (c.none op is)
    by_turn (by_own bus same call away) = same_then bus.id (ap (λ (n : NodeState). n.manager.operation) same)
    by_turn (by_sight c same away) = same_then c.id (ap (λ (n : NodeState). n.manager.operation) same)

  pub made_turn : AreMade now i (id_in v i) v.target.manager.operation
  made_turn op is source = by_turn op is source (goes_turned units ready more_units start past s later t g h i inside)
