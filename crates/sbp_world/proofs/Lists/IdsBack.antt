-- What the target's operation of a calm initiator keeps of its ORB over a turn: where that is one of a reconnect, it is of an ID of the initiator, or of none.
use Rattle.sbp_world.proofs.Words.Std.{◌≡◌, ◌∙◌, inl, inr, ◌⊎◌, refl, sym, ap, subst, ℕ, ◌+◌, ◌^◌, ◌<◌, List, [], ◌++◌, length, Option, Some, None}
use Rattle.sbp_world.proofs.Words.Wire.{SerialsCount, LabelParts, Packet, judging_step, of_response, Sent, found_sent, empty_outbox, Moment}
use Rattle.sbp_world.proofs.Words.Target.{Operation, Disk, Told, NodeState, scene, answer_in, received, whole}
use Rattle.sbp_world.proofs.Words.Initiator.{ManagementOrb, management_orb}
use Rattle.sbp_world.proofs.Words.Laws.{place_bytes, place_held, host_at, EachMoment}
use Rattle.sbp_world.proofs.Words.World.{NoneInjected, Scene, WorldState, AreAsked, KeepsIn, IsCalm, HasOwn, OwnBy, BringPlaces, AreShort}
use Rattle.sbp_world.proofs.Agents.Management.Holding.{Holding}
use Rattle.sbp_world.proofs.Agents.Management.Still.{hist}
use Rattle.mgmt_agent.specs.declared.function.Function.TheVariants as functions
use Rattle.mgmt_agent.specs.declared.operation.Phase.{Phase}
use Rattle.mgmt_agent.specs.Machine.{Machine}
use Rattle.sbp_target.specs.declared.purpose.Purpose.TheVariants as purposes
use Rattle.sbp_world.proofs.Lists.Courses.{Goes}
use Rattle.sbp_world.proofs.Lists.IdsOwned.{own_on}
use Rattle.sbp_world.proofs.Lists.IdsPlaces.{IfOwnOrb, IsOwnOrb, held_own}
use Rattle.sbp_world.proofs.Lists.KeptReplies.{HasRead, brought, delivery_read, kept}
use Rattle.sbp_world.proofs.Lists.KeptTurns.{id_is, operation_is}
use Rattle.sbp_world.proofs.Lists.LiveCalls.{HasOperation, delivery_operation, replies, starts, stays}
use Rattle.sbp_world.proofs.Lists.LiveRuns.{base_of, goes_turned}
use Rattle.sbp_world.proofs.Lists.LiveSteps.{id_in}
use Rattle.sbp_world.proofs.Lists.LiveTurns.{TargetCall, TurnOf, by_clearing, by_own, by_sight, by_target, delivers, good, keeps, still}
use Rattle.sbp_world.proofs.Lists.OwnCounts.{FewAt}
use Rattle.sbp_world.proofs.Lists.OwnOps.{AreOwnOps, StoodThere, brings_held, short_from}

-- the ORB that a phase keeps
pub record HasBack (start : List Disk) (past : List Moment) (i : ℕ) (phase : Phase) : Type 0 where
  pub orb : ManagementOrb
  pub keeps : KeepsIn phase orb
  pub own : IsOwnOrb start past i orb

-- of each operation of the initiator's node
abbrev pub AreBack : List Disk → List Moment → (i node : ℕ) → Option Operation → Type 0
AreBack start past i node operation = (op : Operation) → operation ≡ Some op → op.source ≡ node → HasBack start past i op.phase

none_own : (start : List Disk) (past : List Moment) (i : ℕ) → IsOwnOrb start past i (management_orb [])
none_own start past i e = absurd (let no : Some functions.Login ≡ Some functions.Reconnect = e in cc)

-- what an ORB that stood in a place is
pub stood_own : (start : List Disk) (final : List Moment) (i : ℕ) (held : Option ManagementOrb) (bytes : List ℕ) → IfOwnOrb start final i held → (held ≡ None → ⊥) → bytes ≡ place_bytes held → IsOwnOrb start final i (management_orb bytes)
stood_own start final i None bytes g some e = absurd (some refl)
stood_own start final i (Some one) bytes g some e = subst (λ (xs : List ℕ). IsOwnOrb start final i (management_orb xs)) (sym e) g

module _ (units ready : ℕ) (more_units : 0 < units) (start : List Disk) (past : List Moment) (s : Scene) (later : List Moment) (t : Scene) {lines : ℕ} (g : Goes past s later t) (h : Holding units ready start past lines s.world) (i : ℕ) (inside : i < length s.world.initiators) (few_nodes : i + 1 < 2 ^ 16) (calm : IsCalm (hist past s.world) i) (none : NoneInjected (hist past s.world) i) (counts : SerialsCount (hist past s.world)) (are : AreAsked start (hist past s.world)) (places : BringPlaces (hist past s.world) i) (shorts : AreShort (hist past s.world)) (logins : EachMoment (FewAt i) (hist past s.world)) (ops : AreOwnOps start (hist past s.world) i) (hosts : (front earlier : List Moment) → front ++ earlier ≡ hist past s.world → HasOwn start (hist past s.world) i (host_at earlier i).login) (back : AreBack start (hist past s.world) i (id_in s.world i) s.world.target.manager.operation) where
  abbrev w : WorldState
  w = s.world

  abbrev v : WorldState
  v = t.world

  abbrev before : List Moment
  before = hist past w

  abbrev now : List Moment
  now = hist later v

  orb_on : (orb : ManagementOrb) → IsOwnOrb start before i orb → IsOwnOrb start now i orb
  orb_on orb o e = by (o e)
    where
      by : OwnBy start before i orb.subject ⊎ (orb.subject ≡ 0) → OwnBy start now i orb.subject ⊎ (orb.subject ≡ 0)
      by (inl x) = inl (own_on start i orb.subject past s later t g x)
      by (inr z) = inr z

  module _ (op : Operation) (is : v.target.manager.operation ≡ Some op) (source : op.source ≡ id_in v i) where
    on : (phase : Phase) → ((orb : ManagementOrb) → KeepsIn phase orb → KeepsIn op.phase orb) → HasBack start before i phase → HasBack start now i op.phase
    on phase f x = record { orb = x.orb; keeps = f x.orb x.keeps; own = orb_on x.orb x.own }

    same_then : id_in v i ≡ id_in w i → v.target.manager.operation ≡ w.target.manager.operation → HasBack start now i op.phase
    same_then id e = on op.phase (λ orb k. k) (back op (sym e ∙ is) (source ∙ id))

    module _ (id : id_in v i ≡ id_in w i) (serial : ℕ) (sent : Sent) (found : found_sent serial w.store.kept ≡ Some sent) (zero_to : sent.to ≡ 0) where
      by_read : (p : Packet) (label : LabelParts) → (judging_step w.target.layer sent.generation sent.bytes).0 ≡ of_response p label (Some purposes.Management) → HasRead w.target.manager.operation (answer_in p) op → HasBack start now i op.phase
      by_read p label e (kept old there source_old orb_old f) = on old.phase f (back old there (source_old ∙ (source ∙ id)))
      by_read p label e (brought old there source_old orb_old phase bytes answer k) =
          let of_it : old.source ≡ id_in w i = source_old ∙ (source ∙ id) in
          let own = ops old (operation_is units ready more_units start w h i inside ∙ there) (of_it ∙ sym (id_is units ready more_units start w h i inside)) in
          let b : StoodThere before i own.place bytes = brings_held units ready more_units start w h i inside few_nodes calm none counts are places shorts logins serial sent found zero_to p label e old there of_it own phase bytes answer in
          let held : IfOwnOrb start before i (place_held b.earlier i own.place) = held_own start before i own.place few_nodes hosts b.earlier b.later b.is (short_from b.later b.earlier (subst AreShort (sym b.is) shorts)) in
          record { orb = management_orb bytes; keeps = k; own = orb_on (management_orb bytes) (stood_own start before i (place_held b.earlier i own.place) bytes held b.some b.bytes_are) }

      by_delivery : (told : Option Told) (disks : List Disk) → (let node = (received told sent.generation sent.bytes (whole (scene w.target empty_outbox) disks)).1.node in v.target.manager.operation ≡ node.manager.operation → node.manager.operation ≡ Some op → HasOperation w.target sent.generation sent.bytes node op → HasBack start now i op.phase)
      by_delivery told disks left there (stays m l) = same_then id (left ∙ ap (λ (x : Machine). x.operation) m)
      by_delivery told disks left there (starts a l) = subst (HasBack start now i) (sym a.phase) (record { orb = management_orb []; keeps = tt; own = none_own start now i })
      by_delivery told disks left there (replies p label f r) = by_read p label f (delivery_read w.target (good units ready more_units start w h) (keeps units ready more_units start w h) told disks sent.generation sent.bytes p label f op there)

    by_call : id_in v i ≡ id_in w i → TargetCall w (base_of g) v.fresh v.target → HasBack start now i op.phase
    by_call id (still x told) = same_then id (ap (λ (m : Machine). m.operation) (x.operation op is))
    by_call id (delivers serial sent found zero_to told disks node notes first) =
        let there = sym (ap (λ (n : NodeState). n.manager.operation) node) ∙ is in
        by_delivery id serial sent found zero_to told disks (ap (λ (n : NodeState). n.manager.operation) node) there (delivery_operation w.target (good units ready more_units start w h) (keeps units ready more_units start w h) sent.generation sent.bytes told disks op there)

    by_turn : TurnOf i w (base_of g) v → HasBack start now i op.phase
    by_turn (by_target bus same call) = by_call bus.id call
    by_turn (by_clearing c same told) = absurd (c.none op is)
    by_turn (by_own bus same call away) = same_then bus.id (ap (λ (n : NodeState). n.manager.operation) same)
    by_turn (by_sight c same away) = same_then c.id (ap (λ (n : NodeState). n.manager.operation) same)

  pub back_turn : AreBack start now i (id_in v i) v.target.manager.operation
  back_turn op is source = by_turn op is source (goes_turned units ready more_units start past s later t g h i inside)
