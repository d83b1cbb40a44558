-- What the target tells in a call changes who has a place as it changes its logins.
use Rattle.sbp_world.proofs.Words.Std.{arith, ◌≡◌, ◌∙◌, refl, sym, ap, subst, ℕ, suc, ◌<◌, ◌%◌, nat_eq, Bool, true, false, cond, List, [], ◌∷◌, ◌++◌, length, Option, Some, None, is_none, position}
use Rattle.sbp_world.proofs.Words.Wire.{Asked, Body, Layer, asking_step, Topology, Holder, GenerationsState, id_of, back_step, enter_step, holder_of, put_at, decided_places, function_word, login_if, FunctionWord, Side, OutboxState, empty_outbox}
use Rattle.sbp_world.proofs.Words.Target.{Login, Table, entered, Decision, Effect, ManagerStep, asked_by, Purpose, ask_manager, decided_by, effect_by, failed_by, lose_operation, lost_in, managed_with, manager_asked, manager_body, manager_lost, manager_sent, place_in, tell_failed, with_manager, NodeState, Scene, scene, asks_step, sent_by, cut_all}
use Rattle.sbp_world.proofs.Words.Initiator.{Ask, FailCause, Answer}
use Rattle.sbp_world.proofs.Words.Laws.{Decided, laws_decided, keep_decided, source_in}
use Rattle.sbp_world.proofs.Words.World.{initiator_of, told, told_all, WorldState, Agrees, Office, by_managed, by_note, by_side, by_sides, placed, placed_by, replied, stepped}
use Rattle.mgmt_agent.specs.declared.decision.Effect.TheVariants as effects
use Rattle.mgmt_agent.specs.Machine as management
use Rattle.sbp_bus.specs.Telling as bus
use Rattle.sbp_journal.specs.declared.cause.CutCause.TheVariants as cuts
use Rattle.sbp_journal.specs.declared.note.Note.TheVariants as notes
use Rattle.sbp_journal.specs.declared.operation.FunctionWord.TheVariants as words
use Rattle.sbp_journal.specs.declared.side.Side.TheVariants as sides
use Rattle.sbp_target.specs.declared.purpose.Purpose.TheVariants as purposes
use Rattle.sbp_world.proofs.Wire.Alike.{told_alike}
use Rattle.sbp_target.proofs.Histories.Seats.{Lives}
use Rattle.sbp_world.proofs.Agents.Management.Calm.{AreQuiet, Calm, From, IsQuiet, clears_from, clears_one, cuts_all, cuts_placed}
use Rattle.sbp_world.proofs.Agents.Management.Managing.{quiet_says}
use Rattle.sbp_world.proofs.Agents.Management.Places.{AreApart}
use Rattle.sbp_world.proofs.Agents.Management.Sides.{sides_more}
use Rattle.sbp_world.proofs.Agents.Granting.{Grants, IsBack, StepBrings, reply_brings}
use Rattle.sbp_world.proofs.Agents.Placed.{IsHolder, Placed, back_placed, entered_placed, first_free, left_placed, opened_placed}

-- which initiator's node has an ID
abbrev pub Of : Topology → (initiator id : ℕ) → Type 0
Of topology initiator id = (id_of topology (suc initiator) ≡ id) × (suc initiator < length topology.ids)

module _ (topology : Topology) where
  -- ---- what says nothing of logins and of the operation
  quiet_one : (side : Side) (logins : List (Option Login)) (w : WorldState) → IsQuiet side → Placed (Of topology) logins w.places → Placed (Of topology) logins (told 0 side w).places
  unfolding told
  quiet_one (sides.Own note) logins w q p = absurd q
  quiet_one (sides.Opened place orb) logins w q p = opened_placed (Of topology) logins w.places p place _
  quiet_one (sides.Ran place orb cdb payload outcome) logins w q p = p
  quiet_one (sides.Ended place orb status) logins w q p = p
  quiet_one (sides.Dead place cause) logins w q p = p
  quiet_one (sides.Cut place cause) logins w q p = p
  quiet_one (sides.Managed node function subject status login) logins w q p = absurd q
  quiet_one (sides.ManageFailed node cause) logins w q p = absurd q
  quiet_one (sides.Held login) logins w q p = absurd q
  quiet_one (sides.Expired login) logins w q p = absurd q
  quiet_one (sides.Back login) logins w q p = absurd q
  quiet_one (sides.Left login) logins w q p = absurd q
  quiet_one (sides.Cleared unit) logins w q p = p
  quiet_one (sides.Unsolicited place) logins w q p = p
  quiet_one (sides.Unsent place) logins w q p = p

  quiet_told : (later : List Side) (logins : List (Option Login)) (w : WorldState) → AreQuiet later → Placed (Of topology) logins w.places → Placed (Of topology) logins (told_all 0 later w).places
  unfolding told_all
  quiet_told [] logins w q p = p
  quiet_told (side ∷ later) logins w q p = quiet_told later logins (told 0 side w) q.1 (quiet_one side logins w q.0 p)

pub told_snoc : (before : List Side) (side : Side) (w : WorldState) → told_all 0 (before ++ side ∷ []) w ≡ told 0 side (told_all 0 before w)
unfolding told_all
told_snoc [] side w = refl
told_snoc (first ∷ before) side w = told_snoc before side (told 0 first w)

-- ---- an office and a world, behind what was told
module _ (topology : Topology) (first : Office) (v : WorldState) where
  abbrev pub IsTold : List Side → Type 0
  IsTold told_now = Placed (Of topology) (by_sides told_now first).table.places (told_all 0 told_now v).places

  pub told_more : (before : List Side) (side : Side) → Placed (Of topology) (by_side side (by_sides before first)).table.places (told 0 side (told_all 0 before v)).places → IsTold (before ++ side ∷ [])
  told_more before side p =
      subst (λ (o : Office). Placed (Of topology) o.table.places (told_all 0 (before ++ side ∷ []) v).places) (sym (sides_more before side first))
      (subst (λ (w : WorldState). Placed (Of topology) (by_side side (by_sides before first)).table.places w.places) (sym (told_snoc before side v)) p)

  pub all_quiet : (later : List Side) → AreQuiet later → Placed (Of topology) first.table.places v.places → IsTold later
  all_quiet later q p =
      subst (λ (o : Office). Placed (Of topology) o.table.places (told_all 0 later v).places) (sym (quiet_says later first q).is)
      (quiet_told topology later first.table.places v q p)

  -- ---- the operation fails, or its request leaves
  one_failed : (before : List Side) (source : ℕ) (cause : FailCause) → IsTold before → IsTold (before ++ sides.ManageFailed source cause ∷ [])
  unfolding told
  one_failed before source cause p = told_more before (sides.ManageFailed source cause) p

  failed_told : (source : ℕ) (cause : Option FailCause) (outbox : OutboxState) → IsTold outbox.sides → IsTold (tell_failed source cause outbox).sides
  failed_told source None outbox p = p
  failed_told source (Some cause) outbox p = one_failed outbox.sides source cause p

  lost_told : (other : Option ℕ) (s : Scene) → IsTold s.outbox.sides → IsTold (lost_in other s).outbox.sides
  lost_told None s p = p
  lost_told (Some source) s p = by (management.reply_step s.node.manager s.node.logins s.node.keys _)
    where
      by : (r : ManagerStep × (management.Machine × Table)) → IsTold (manager_lost source s r).outbox.sides
      by (step, r) = failed_told source step.failed s.outbox p

  sent_told : (node : NodeState) (outbox : OutboxState) (peer : ℕ) (r : Option Asked × Layer Purpose) → IsTold outbox.sides → IsTold (manager_sent node (sent_by r outbox peer)).outbox.sides
  unfolding lose_operation
  sent_told node outbox peer (Some asked, layer) p = p
  sent_told node outbox peer (None, layer) p = lost_told (management.source_in node.manager.operation) (scene (record node { layer = layer }) outbox) p

  asked_told : (body : Option Body) (source : ℕ) (s : Scene) → IsTold s.outbox.sides → IsTold (manager_asked body source s).outbox.sides
  unfolding asks_step
  asked_told None source s p = p
  asked_told (Some body) source s p = sent_told s.node s.outbox source (asking_step s.node.layer source body purposes.Management) p

  pub asks_told : (source : ℕ) (ask : Ask) (s : Scene) → IsTold s.outbox.sides → IsTold (ask_manager source ask s).outbox.sides
  unfolding ask_manager
  asks_told source ask s p = asked_told (manager_body ask s.node.manager.outgoing) source s p

  -- ---- a decision
  module _ (d : Decision) (on : Decided) (source : ℕ) (decided_is : first.decided ≡ Some on) (source_is : on.source ≡ source) (subject_is : on.orb.subject ≡ d.subject) (of : Of topology (initiator_of v source) source) (apart : AreApart first.table.places) (before : Placed (Of topology) first.table.places v.places) where
    abbrev word : FunctionWord
    word = function_word d.function

    -- behind its effect
    record Affected (told_now : List Side) : Type 0 where
      is : IsTold told_now
      decided : (by_sides told_now first).decided ≡ Some on

    initiator_same : (told_now : List Side) → initiator_of (told_all 0 told_now v) source ≡ initiator_of v source
    initiator_same told_now = ap (λ (g : GenerationsState). bus.initiator_of g source) (told_alike 0 told_now v).generations

    quietly : (told_now : List Side) → AreQuiet told_now → Affected told_now
    quietly told_now q = record { is = all_quiet told_now q before; decided = ap (λ (o : Office). o.decided) (quiet_says told_now first q).is ∙ decided_is }

    leaves : (told_now : List Side) (id : ℕ) → AreQuiet told_now → Affected (told_now ++ sides.Left id ∷ [])
    unfolding told
    leaves told_now id q =
        let same = (quiet_says told_now first q).is in
        let p : Placed (Of topology) (by_sides told_now first).table.places (told_all 0 told_now v).places = all_quiet told_now q before in
        let a : AreApart (by_sides told_now first).table.places = subst (λ (o : Office). AreApart o.table.places) (sym same) apart in
        record {
          is = told_more told_now (sides.Left id) (left_placed (Of topology) (by_sides told_now first).table.places (told_all 0 told_now v).places p id a);
          decided = ap (λ (o : Office). o.decided) (sides_more told_now (sides.Left id) first) ∙ ap (λ (o : Office). o.decided) same ∙ decided_is;
        }

    module _ (node : NodeState) (old : Lives) (from : From old node.layer) where
      abbrev begun : Scene
      begun = scene node empty_outbox

      calm : Calm old node begun
      calm = record { logins = refl; keys = refl; manager = refl; rom = refl; quiet = tt; from = from }

      enters_told : (replaced : Option ℕ) (place : ℕ) → Affected (effect_by (effects.Entered place replaced) d.subject begun).outbox.sides
      enters_told None place = quietly [] tt
      enters_told (Some id) place = leaves [] id tt

      effect_told : (effect : Effect) → (IsBack effect → ⊥) → Affected (effect_by effect d.subject begun).outbox.sides
      effect_told effects.Nothing b = quietly [] tt
      effect_told (effects.Entered place replaced) b = enters_told replaced place
      effect_told (effects.Back place) b = absurd (b tt)
      effect_told (effects.Left place) b = leaves _ d.subject (cuts_placed old node (place_in place) cuts.Logout begun calm).quiet
      effect_told (effects.Abort place orb) b = quietly [] tt
      effect_told (effects.AbortSet place) b = quietly _ (cuts_placed old node (place_in place) cuts.AbortSet begun calm).quiet
      effect_told (effects.UnitReset unit) b =
          quietly _ (clears_one old node unit (cut_all cuts.UnitReset (Some unit) begun) (cuts_all old node cuts.UnitReset (Some unit) begun calm)).quiet
      effect_told effects.TargetReset b =
          let c = cut_all cuts.TargetReset None begun in
          quietly _ (clears_from old node (length c.node.units) 0 c (cuts_all old node cuts.TargetReset None begun calm)).quiet

    -- the decision itself, on any logins and places behind its effect
    module _ (o : Office) (places : List (Option Holder)) (p : Placed (Of topology) o.table.places places) (decided : o.decided ≡ Some on) where
      stays : (b : Bool) → Placed (Of topology) o.table.places (cond b places places)
      stays true = p
      stays false = p

      new_holder : (place login : ℕ) → d.subject < 256 → IsHolder (Of topology) (entered (asked_by on.orb on.source on.eui) place login) (holder_of (initiator_of v source) (d.subject % 256) login)
      new_holder place login small = record {
        login_is = refl;
        unit_is = (let x : d.subject % 256 ≡ d.subject = omega (arith, small) in x) ∙ sym subject_is;
        live = λ e. subst (λ n. Of topology (initiator_of v source) n) (sym source_is) of;
      }

      enters_at : (found : Option ℕ) (login : ℕ) → d.subject < 256 → position is_none o.table.places ≡ found → Placed (Of topology) (placed found (Some on) login o).table.places (enter_step (holder_of (initiator_of v source) (d.subject % 256) login) places)
      unfolding enter_step
      enters_at None login small e =
          subst (λ (k : Option ℕ). Placed (Of topology) o.table.places (put_at k (Some (holder_of (initiator_of v source) (d.subject % 256) login)) places)) (sym (sym (first_free (Of topology) o.table.places places p) ∙ e)) p
      enters_at (Some k) login small e = entered_placed (Of topology) o.table.places places p k _ _ e (new_holder k login small)

      login_by : (b : Bool) → (nat_eq d.status 0 ≡ b) → (b ≡ true → d.subject < 256) → Placed (Of topology) (placed_by (cond b (Some d.login) None) o).table.places (cond b (enter_step (holder_of (initiator_of v source) (d.subject % 256) d.login) places) places)
      login_by true e small =
          subst (λ (x : Option Decided). Placed (Of topology) (placed (position is_none o.table.places) x d.login o).table.places (enter_step (holder_of (initiator_of v source) (d.subject % 256) d.login) places)) (sym decided)
          (enters_at (position is_none o.table.places) d.login (small refl) refl)
      login_by false e small = p

      not_back : (b : Bool) (xs : List (Option Holder)) → (b ≡ true → ⊥) → Placed (Of topology) o.table.places (cond b xs places)
      not_back true xs n = absurd (n refl)
      not_back false xs n = p

      decides : (effect : Effect) → Grants word d.status d.subject effect → (IsBack effect → ⊥) → (x : FunctionWord) → word ≡ x → Placed (Of topology) (by_managed x (login_if x d.status d.login) o).table.places (decided_places d.status x d.subject d.login (initiator_of v source) places)
      decides effect g b words.Login e = login_by (nat_eq d.status 0) refl (λ f. g.unit e f)
      decides effect g b words.Query e = stays (nat_eq d.status 0)
      decides effect g b words.Reconnect e = not_back (nat_eq d.status 0) _ (λ f. b (g.reconnects e f))
      decides effect g b words.Logout e = stays (nat_eq d.status 0)
      decides effect g b words.Abort e = stays (nat_eq d.status 0)
      decides effect g b words.AbortSet e = stays (nat_eq d.status 0)
      decides effect g b words.UnitReset e = stays (nat_eq d.status 0)
      decides effect g b words.TargetReset e = stays (nat_eq d.status 0)
      decides effect g b words.Other e = stays (nat_eq d.status 0)

    module _ (node : NodeState) (old : Lives) (from : From old node.layer) where
      abbrev managed_side : Side
      managed_side = sides.Managed source d.function d.subject d.status d.login

      apart_told : (effect : Effect) → Grants word d.status d.subject effect → (IsBack effect → ⊥) → IsTold (decided_by (Some d) effect source (scene node empty_outbox)).outbox.sides
      unfolding decided_by told
      apart_told effect g b =
          let a = effect_told node old from effect b in
          let told_now = (effect_by effect d.subject (scene node empty_outbox)).outbox.sides in
          told_more told_now managed_side
          (subst (λ (i : ℕ). Placed (Of topology) (by_side managed_side (by_sides told_now first)).table.places (decided_places d.status word d.subject d.login i (told_all 0 told_now v).places)) (sym (initiator_same told_now))
          (decides (by_sides told_now first) (told_all 0 told_now v).places a.is a.decided effect g b word refl))

      back_told : (place : ℕ) → Grants word d.status d.subject (effects.Back place) → IsTold (decided_by (Some d) (effects.Back place) source (scene node empty_outbox)).outbox.sides
      unfolding decided_by told told_all
      back_told place g =
          let back : Office = by_note (notes.Back d.subject) first in
          let i = initiator_of v source in
          let known : source_in first.decided ≡ source = ap source_in decided_is ∙ source_is in
          let p : Placed (Of topology) back.table.places (back_step d.subject i v.places) =
          back_placed (Of topology) first.table.places v.places before d.subject i (source_in first.decided) apart (subst (λ n. Of topology i n) (sym known) of) in
          told_more (sides.Back d.subject ∷ []) managed_side
          (subst (λ x. Placed (Of topology) (by_managed x (login_if x d.status d.login) back).table.places (decided_places d.status x d.subject d.login i v.places)) (sym (g.back tt).0)
          (subst (λ b. Placed (Of topology) back.table.places (cond b (back_step d.subject i v.places) v.places)) (sym (g.back tt).1) p))

      pub decision_told : (effect : Effect) → Grants word d.status d.subject effect → IsTold (decided_by (Some d) effect source (scene node empty_outbox)).outbox.sides
      decision_told effects.Nothing g = apart_told effects.Nothing g (λ b. b)
      decision_told (effects.Entered place replaced) g = apart_told (effects.Entered place replaced) g (λ b. b)
      decision_told (effects.Back place) g = back_told place g
      decision_told (effects.Left place) g = apart_told (effects.Left place) g (λ b. b)
      decision_told (effects.Abort place orb) g = apart_told (effects.Abort place orb) g (λ b. b)
      decision_told (effects.AbortSet place) g = apart_told (effects.AbortSet place) g (λ b. b)
      decision_told (effects.UnitReset unit) g = apart_told (effects.UnitReset unit) g (λ b. b)
      decision_told effects.TargetReset g = apart_told effects.TargetReset g (λ b. b)

-- ---- a reply to the operation
module _ (topology : Topology) (node : NodeState) (old : Lives) (from : From old node.layer) (o : Office) (a : Agrees o node) (v : WorldState) (apart : AreApart o.table.places) (before : Placed (Of topology) o.table.places v.places) (answer : Answer) (source : ℕ) (of : Of topology (initiator_of v source) source) where
  step_told : (step : ManagerStep) (m : management.Machine) (t : Table) → management.source_in o.manager.operation ≡ Some source → StepBrings o.manager.operation answer (step, (m, t)) → (decided : Option Decision) → step.decided ≡ decided → IsTold topology (stepped o answer (step, (m, t))) v (decided_by decided step.effect source (scene (with_manager node (m, t)) empty_outbox)).outbox.sides
  unfolding decided_by
  step_told step m t e brings None f = all_quiet topology (stepped o answer (step, (m, t))) v [] tt before
  step_told step m t e brings (Some d) f =
      let b = brings d f in
      let own_source : b.own.source ≡ source = let z : Some b.own.source ≡ Some source = sym (ap management.source_in b.operation_is) ∙ e in cc in
      decision_told topology (stepped o answer (step, (m, t))) v d b.on source (ap (λ (y : Option Decision). keep_decided y (laws_decided o.manager.operation answer) o.decided) f ∙ b.on_is) (b.source_is ∙ own_source) b.subject_is of apart before
      (with_manager node (m, t)) old from step.effect b.grants

  with_told : (r : ManagerStep × (management.Machine × Table)) → management.source_in o.manager.operation ≡ Some source → StepBrings o.manager.operation answer r → IsTold topology (stepped o answer r) v (managed_with source (scene node empty_outbox) r).outbox.sides
  with_told (step, (m, t)) e brings =
      let first = stepped o answer (step, (m, t)) in
      let s = decided_by step.decided step.effect source (scene (with_manager node (m, t)) empty_outbox) in
      asks_told topology first v source step.ask (failed_by source step.failed s) (failed_told topology first v source step.failed s.outbox (step_told step m t e brings step.decided refl))

  pub reply_told : management.source_in node.manager.operation ≡ Some source → IsTold topology (replied answer o) v (managed_with source (scene node empty_outbox) (management.reply_step node.manager node.logins node.keys answer)).outbox.sides
  reply_told e =
      let r = management.reply_step o.manager o.table o.keys answer in
      let same : management.reply_step node.manager node.logins node.keys answer ≡ r =
      ap (λ m. management.reply_step m node.logins node.keys answer) (sym a.manager)
      ∙ ap (λ t. management.reply_step o.manager t node.keys answer) (sym a.table)
      ∙ ap (λ ks. management.reply_step o.manager o.table ks answer) (sym a.keys) in
      subst (λ x. IsTold topology (replied answer o) v (managed_with source (scene node empty_outbox) x).outbox.sides) (sym same)
      (with_told r (ap (λ (m : management.Machine). management.source_in m.operation) a.manager ∙ e) (reply_brings o.manager o.table o.keys answer))
