-- A turn of the management operation leaves the units, with what their media hold, as what it tells makes of their terms: a unit reset and a target reset
-- clear them over the logins that stood before the decision, and no other decision changes any.
use Rattle.sbp_world.proofs.Words.Std.{arith, ◌≡◌, ◌∙◌, refl, sym, ap, subst, ℕ, zero, suc, ◌+◌, ◌<◌, ◌==◌, nat_lt, not, Bool, true, false, cond, List, [], ◌∷◌, ◌++◌, length, Option, Some, None, Result, Ok, Err, slice_set, length-set, nat_tests, set-get_or}
use Rattle.sbp_world.proofs.Words.Wire.{Side, OutboxState, empty_outbox}
use Rattle.sbp_world.proofs.Words.Target.{Entered, Login, LoginRefusal, IsSound, Table, back_step, enter_step, leave_step, units_places, Decision, Effect, ManagerStep, Function, Operation, asked_by, back_decided, decide, decide_function, key_at, lacks_key, left_decided, login_decided, reads_eui, unit_exists, with_status, beside, decide_step, eui_step, high_eui_at, low_got, orb_got, reply_in, reply_to, function_of, Disk, no_disk, PlainDisk, UnitState, ask_manager, clear_one, cut_placed, decided_by, effect_by, failed_by, manage, managed_in, managed_with, place_in, tell_left, with_manager, NodeState, Scene, scene, clear_from, clear_unit, cut_all, mask_of}
use Rattle.sbp_world.proofs.Words.Initiator.{FailCause, ManagementOrb, management_orb, Answer, payload_of}
use Rattle.sbp_world.proofs.Words.Laws.{left_by_reset, places_of, unit_at}
use Rattle.mgmt_agent.specs.declared.decision.Effect.TheVariants as effects
use Rattle.mgmt_agent.specs.declared.decision.Outcome.{Outcome}
use Rattle.mgmt_agent.specs.declared.function.Function.TheVariants as functions
use Rattle.mgmt_agent.specs.declared.operation.Phase.{Phase}
use Rattle.mgmt_agent.specs.declared.operation.Phase.TheVariants as phases
use Rattle.mgmt_agent.specs.declared.status.Status.TheVariants as statuses
use Rattle.mgmt_agent.specs.Machine as management
use Rattle.mgmt_agent.specs.Machine.{Machine, reply_step}
use Rattle.rbc_disk.specs.Units.{cleared}
use Rattle.sbp_journal.specs.declared.cause.CutCause.TheVariants as cuts
use Rattle.sbp_journal.specs.declared.side.Side.TheVariants as sides
use Rattle.sbp_target.specs.Nodes as nodes
use Rattle.sbp_world.proofs.Agents.UnitsKept.{In, Keeps, KeepsCuts, asks_manager, cuts_all, cuts_placed, failed_tells, keeps_cuts, tells}
use Rattle.sbp_world.proofs.Agents.UnitsMarked.{all_mask}
use Rattle.sbp_world.proofs.Agents.UnitsRun.{Leaves, Match, in_leaves, makes_keeps, match_set, nothing_makes}
use Rattle.sbp_world.proofs.Agents.UnitsTold.{AllReset, Makes, by_resets, by_sides, reset_more, sides_more}

-- ---- a reset leaves the table of logins

abbrev IsReset : Effect → Type 0
IsReset (effects.UnitReset unit) = Unit {0}
IsReset effects.TargetReset = Unit {0}
IsReset effect = ⊥

-- what a decision leaves of the logins
abbrev Stays : Table → Outcome × Table → Type 0
Stays t r = IsReset r.0.effect → r.1 ≡ t

stays_if : (b : Bool) (t : Table) (x y : Outcome × Table) → Stays t x → Stays t y → Stays t (cond b x y)
stays_if true t x y p q = p
stays_if false t x y p q = q

login_stays : (orb : ManagementOrb) (t : Table) (r : Result Entered LoginRefusal × Table) → Stays t (login_decided orb r.0, r.1)
login_stays orb t (Ok entered, now) h = absurd h
login_stays orb t (Err refusal, now) h = absurd h

back_stays : (t : Table) (r : Result ℕ LoginRefusal × Table) → Stays t (back_decided r.0, r.1)
back_stays t (Ok place, now) h = absurd h
back_stays t (Err refusal, now) h = absurd h

left_stays : (t : Table) (r : Result ℕ LoginRefusal × Table) → Stays t (left_decided r.0, r.1)
left_stays t (Ok place, now) h = absurd h
left_stays t (Err refusal, now) h = absurd h

function_stays : (function : Option Function) (orb : ManagementOrb) (source eui : ℕ) (t : Table) (keys : List (List ℕ)) → Stays t (decide_function function orb source eui t keys)
function_stays None orb source eui t keys h = refl
function_stays (Some functions.Login) orb source eui t keys h =
    let r = enter_step t (asked_by orb source eui) in
    let last : Outcome × Table = (login_decided orb r.0, r.1) in
    stays_if (not (unit_exists orb.subject keys)) t (with_status statuses.LogicalUnit, t) (cond (lacks_key (key_at orb.subject keys) orb) (with_status statuses.AccessDenied, t) last) (λ f. refl)
    (stays_if (lacks_key (key_at orb.subject keys) orb) t (with_status statuses.AccessDenied, t) last (λ f. refl) (login_stays orb t r)) h
function_stays (Some functions.Query) orb source eui t keys h = refl
function_stays (Some functions.Reconnect) orb source eui t keys h = back_stays t (back_step t orb.subject source eui) h
function_stays (Some functions.Logout) orb source eui t keys h = left_stays t (leave_step t orb.subject source) h
function_stays (Some functions.Abort) orb source eui t keys h = refl
function_stays (Some functions.AbortSet) orb source eui t keys h = refl
function_stays (Some functions.UnitReset) orb source eui t keys h = refl
function_stays (Some functions.TargetReset) orb source eui t keys h = refl

decision_stays : (orb : ManagementOrb) (source eui : ℕ) (t : Table) (keys : List (List ℕ)) → Stays t (decide orb source eui t keys)
unfolding decide
decision_stays orb source eui t keys =
    stays_if (orb.format == 0) t (decide_function (function_of orb.function) orb source eui t keys) (with_status statuses.RequestType, t) (function_stays (function_of orb.function) orb source eui t keys) (λ h. refl)

abbrev StepStays : Table → ManagerStep × (Machine × Table) → Type 0
StepStays t r = IsReset r.0.effect → r.1.1 ≡ t

step_if : (b : Bool) (t : Table) (x y : ManagerStep × (Machine × Table)) → StepStays t x → StepStays t y → StepStays t (cond b x y)
step_if true t x y p q = p
step_if false t x y p q = q

decided_stays : (orb : ManagementOrb) (r : Outcome × Table) (m : Machine) (operation : Operation) (t : Table) → Stays t r → StepStays t (management.decided_as r m operation orb)
decided_stays orb (outcome, now) m operation t h = h

decide_stays : (m : Machine) (operation : Operation) (orb : ManagementOrb) (eui : ℕ) (t : Table) (keys : List (List ℕ)) → StepStays t (decide_step m operation orb eui t keys)
unfolding decide_step
decide_stays m operation orb eui t keys = decided_stays orb (decide orb operation.source eui t keys) m operation t (decision_stays orb operation.source eui t keys)

orb_stays : (bytes : Result (List ℕ) FailCause) (m : Machine) (operation : Operation) (t : Table) (keys : List (List ℕ)) → StepStays t (orb_got bytes m operation t keys)
orb_stays (Err cause) m operation t keys h = refl
orb_stays (Ok bytes) m operation t keys h =
    let orb = management_orb bytes in
    step_if (reads_eui orb) t (beside t (eui_step m operation (phases.HighEui orb) high_eui_at)) (decide_step m operation orb 0 t keys) (λ f. refl) (decide_stays m operation orb 0 t keys) h

low_stays : (bytes : Result (List ℕ) FailCause) (m : Machine) (operation : Operation) (orb : ManagementOrb) (high : ℕ) (t : Table) (keys : List (List ℕ)) → StepStays t (low_got bytes m operation orb high t keys)
low_stays (Err cause) m operation orb high t keys h = refl
low_stays (Ok bytes) m operation orb high t keys h = decide_stays m operation orb _ t keys h

phase_stays : (phase : Phase) (m : Machine) (operation : Operation) (t : Table) (keys : List (List ℕ)) (answer : Answer) → StepStays t (reply_in phase m operation t keys answer)
phase_stays phases.Orb m operation t keys answer h = orb_stays (payload_of answer 32) m operation t keys h
phase_stays (phases.HighEui orb) m operation t keys answer h = refl
phase_stays (phases.LowEui orb high) m operation t keys answer h = low_stays (payload_of answer 4) m operation orb high t keys h
phase_stays (phases.Response fifo) m operation t keys answer h = refl
phase_stays phases.Status m operation t keys answer h = refl

operation_stays : (operation : Option Operation) (m : Machine) (t : Table) (keys : List (List ℕ)) (answer : Answer) → StepStays t (reply_to operation m t keys answer)
operation_stays None m t keys answer h = refl
operation_stays (Some operation) m t keys answer h = phase_stays operation.phase m operation t keys answer h

reply_stays : (m : Machine) (t : Table) (keys : List (List ℕ)) (answer : Answer) → StepStays t (reply_step m t keys answer)
unfolding reply_step
reply_stays m t keys answer = operation_stays m.operation m t keys answer

-- ---- units are cleared

with_nothing : (told : List Side) → told ≡ told ++ []
with_nothing [] = refl
with_nothing (side ∷ told) = ap (λ xs. side ∷ xs) (with_nothing told)

module _ (places : List (Option Login)) (sound : IsSound places) (terms : List PlainDisk) (disks : List Disk) where
  -- resets are all that was told, and they make these units
  record Clears (s : Scene) : Type 0 where
    reset : AllReset s.outbox.sides
    match : Match (by_sides s.outbox.sides places terms) s.node.units disks
    logins : s.node.logins.places ≡ places

  clears_unit : (unit : ℕ) (s : Scene) → unit < length s.node.units → Clears s → Clears (clear_unit unit s)
  unfolding clear_unit
  clears_unit unit s l c =
      let t = by_sides s.outbox.sides places terms in
      let m = c.match in
      let old = unit_at t unit in
      let p = left_by_reset unit places old in
      let set : Match (slice_set t unit p) (slice_set s.node.units unit p.unit) (slice_set disks unit p.medium) = match_set t s.node.units disks unit p l m in
      let media : slice_set disks unit p.medium ≡ disks = ap (λ (x : PlainDisk). slice_set disks unit x.medium) (m.each unit) ∙ set-get_or disks unit no_disk in
      let unit_is : p.unit ≡ cleared (nodes.unit_at s.node unit) (mask_of unit None s.node.logins.places) =
      ap (λ (x : PlainDisk). cleared x.unit (places_of (units_places unit places))) (m.each unit)
      ∙ ap (cleared (nodes.unit_at s.node unit)) (all_mask unit places sound ∙ ap (mask_of unit None) (sym c.logins)) in
      record {
        reset = reset_more s.outbox.sides (sides.Cleared unit) c.reset tt;
        match = subst (λ xs. Match xs (slice_set s.node.units unit (cleared (nodes.unit_at s.node unit) (mask_of unit None s.node.logins.places))) disks) (sym (sides_more s.outbox.sides (sides.Cleared unit) places terms))
            (subst (λ (u : UnitState). Match (slice_set t unit p) (slice_set s.node.units unit u) disks) unit_is
            (subst (λ ds. Match (slice_set t unit p) (slice_set s.node.units unit p.unit) ds) media set));
        logins = c.logins;
      }

  clears_one : (unit : ℕ) (s : Scene) → Clears s → Clears (clear_one unit s)
  clears_one unit s c = by (nat_lt unit (length s.node.units)) refl
    where
      by : (b : Bool) → nat_lt unit (length s.node.units) ≡ b → Clears (cond b (clear_unit unit s) s)
      by true e = clears_unit unit s (grind (arith, nat_tests)) c
      by false e = c

  count_kept : (unit : ℕ) (s : Scene) → length (clear_unit unit s).node.units ≡ length s.node.units
  unfolding clear_unit
  count_kept unit s = length-set s.node.units unit (cleared (nodes.unit_at s.node unit) (mask_of unit None s.node.logins.places))

  clears_from : (left unit : ℕ) (s : Scene) → unit + left ≡ length s.node.units → Clears s → Clears (clear_from left unit s)
  unfolding clear_from
  clears_from zero unit s e c = c
  clears_from (suc left) unit s e c =
      let k = count_kept unit s in
      clears_from left (unit + 1) (clear_unit unit s) (omega (arith, e, k)) (clears_unit unit s (omega (arith, e)) c)

  -- cuts are told before
  abbrev Cut : List Side → Type 0
  Cut told = AllReset told × (by_sides told places terms ≡ terms)

  cut_keeps : KeepsCuts Cut
  cut_keeps = record {
    tells = λ told place cause h. (reset_more told (sides.Cut place cause) h.0 tt, sides_more told (sides.Cut place cause) places terms ∙ h.1);
  }

  -- ---- the effects of a decision
  -- from a node that has told nothing yet
  module _ (node : NodeState) (m : Match terms node.units disks) where
    abbrev begun : Scene
    begun = scene node empty_outbox

    record Does (s : Scene) : Type 0 where
      now : List PlainDisk
      units : List UnitState
      match : Match now units disks
      holds : In (Makes places terms now) units node.logins s

    clears_does : (s : Scene) → s.node.logins ≡ node.logins → Clears s → Does s
    clears_does s e c = record {
      now = by_sides s.outbox.sides places terms;
      units = s.node.units;
      match = c.match;
      holds = record { told = by_resets s.outbox.sides [] c.reset tt (with_nothing s.outbox.sides) refl; units_are = refl; logins = e };
    }

    cut_clears : (s : Scene) → node.logins.places ≡ places → In Cut node.units node.logins s → Clears s
    cut_clears s e i = record {
      reset = i.told.0;
      match = subst (λ us. Match (by_sides s.outbox.sides places terms) us disks) (sym i.units_are) (subst (λ ts. Match ts node.units disks) (sym i.told.1) m);
      logins = ap (λ (t : Table). t.places) i.logins ∙ e;
    }

    one_same : (b : Bool) (unit : ℕ) (s : Scene) → (cond b (clear_unit unit s) s).node.logins ≡ s.node.logins
    unfolding clear_unit
    one_same true unit s = refl
    one_same false unit s = refl

    same_from : (left unit : ℕ) (s : Scene) → (clear_from left unit s).node.logins ≡ s.node.logins
    unfolding clear_from clear_unit
    same_from zero unit s = refl
    same_from (suc left) unit s = same_from left (unit + 1) (clear_unit unit s)

    abbrev Kept : List PlainDisk → List Side → Type 0
    Kept now told = Makes places terms now told

    abbrev P : List Side → Type 0
    P told = Kept terms told

    k : Keeps (Kept terms)
    k = makes_keeps places terms terms

    first : In P node.units node.logins begun
    first = record { told = nothing_makes places terms; units_are = refl; logins = refl }

    spared : (s : Scene) → In P node.units node.logins s → Does s
    spared s i = record { now = terms; units = node.units; match = m; holds = i }

    left_tells : (x : Option ℕ) (o : OutboxState) → P o.sides → P (tell_left x o).sides
    left_tells None o h = h
    left_tells (Some login) o h = k.tells o.sides (sides.Left login) tt h

    cut_first : In Cut node.units node.logins begun
    cut_first = record { told = (tt, refl); units_are = refl; logins = refl }

    effect_does : (effect : Effect) (subject : ℕ) → (IsReset effect → node.logins.places ≡ places) → Does (effect_by effect subject begun)
    effect_does effects.Nothing subject e = spared begun first
    effect_does (effects.Entered place replaced) subject e =
        spared (effect_by (effects.Entered place replaced) subject begun) (record { told = left_tells replaced empty_outbox first.told; units_are = refl; logins = refl })
    effect_does (effects.Back place) subject e = spared (effect_by (effects.Back place) subject begun) (tells P node.units node.logins k (sides.Back subject) begun tt first)
    effect_does (effects.Left place) subject e =
        let t = cut_placed (place_in place) cuts.Logout begun in
        let i = cuts_placed P node.units node.logins (keeps_cuts P k) (place_in place) cuts.Logout begun first in
        spared (effect_by (effects.Left place) subject begun) (record { told = k.tells t.outbox.sides (sides.Left subject) tt i.told; units_are = i.units_are; logins = i.logins })
    effect_does (effects.Abort place orb) subject e =
        spared (effect_by (effects.Abort place orb) subject begun) (record { told = first.told; units_are = refl; logins = refl })
    effect_does (effects.AbortSet place) subject e =
        spared (cut_placed (place_in place) cuts.AbortSet begun) (cuts_placed P node.units node.logins (keeps_cuts P k) (place_in place) cuts.AbortSet begun first)
    effect_does (effects.UnitReset unit) subject e =
        let t = cut_all cuts.UnitReset (Some unit) begun in
        let i = cuts_all Cut node.units node.logins cut_keeps cuts.UnitReset (Some unit) begun cut_first in
        clears_does (clear_one unit t) (one_same (nat_lt unit (length t.node.units)) unit t ∙ i.logins) (clears_one unit t (cut_clears t (e tt) i))
    effect_does effects.TargetReset subject e =
        let t = cut_all cuts.TargetReset None begun in
        let i = cuts_all Cut node.units node.logins cut_keeps cuts.TargetReset None begun cut_first in
        clears_does (clear_from (length t.node.units) 0 t) (same_from (length t.node.units) 0 t ∙ i.logins)
        (clears_from (length t.node.units) 0 t (let same : 0 + length t.node.units ≡ length t.node.units = omega arith in same) (cut_clears t (e tt) i))

    decides : (decided : Option Decision) (effect : Effect) (source : ℕ) → (IsReset effect → node.logins.places ≡ places) → Does (decided_by decided effect source begun)
    unfolding decided_by
    decides None effect source e = spared begun first
    decides (Some d) effect source e =
        let t = effect_by effect d.subject begun in
        let does_it = effect_does effect d.subject e in
        record {
          now = does_it.now;
          units = does_it.units;
          match = does_it.match;
          holds = tells (Makes places terms does_it.now) does_it.units node.logins (makes_keeps places terms does_it.now) (sides.Managed source d.function d.subject d.status d.login) t tt does_it.holds;
        }

    asks_leaves : (source : ℕ) (step : ManagerStep) (s : Scene) → Does s → Leaves places terms (ask_manager source step.ask (failed_by source step.failed s)) disks
    asks_leaves source step s d =
        let keeps : Keeps (Kept d.now) = makes_keeps places terms d.now in
        let t = failed_by source step.failed s in
        in_leaves places terms d.now d.units node.logins (ask_manager source step.ask t) disks d.match
        (asks_manager (Kept d.now) d.units node.logins keeps source step.ask t
        (record { told = failed_tells (Kept d.now) d.units node.logins keeps source step.failed s.outbox d.holds.told; units_are = d.holds.units_are; logins = d.holds.logins }))

-- ---- a reply to the operation
module _ (node : NodeState) (sound : IsSound node.logins.places) (terms : List PlainDisk) (disks : List Disk) (m : Match terms node.units disks) where
  managed_leaves : (source : ℕ) (r : ManagerStep × (Machine × Table)) → StepStays node.logins r → Leaves node.logins.places terms (managed_with source (scene node empty_outbox) r) disks
  managed_leaves source (step, (machine, now)) e =
      let n = with_manager node (machine, now) in
      let d = decides node.logins.places sound terms disks n m step.decided step.effect source (λ h. ap (λ (t : Table). t.places) (e h)) in
      asks_leaves node.logins.places sound terms disks n m source step (decided_by step.decided step.effect source (scene n empty_outbox)) d

  by_source : (source : Option ℕ) (answer : Answer) → Leaves node.logins.places terms (managed_in source answer (scene node empty_outbox)) disks
  by_source None answer = record { now = terms; makes = nothing_makes node.logins.places terms; match = m }
  by_source (Some source) answer =
      managed_leaves source (reply_step node.manager node.logins node.keys answer) (reply_stays node.manager node.logins node.keys answer)

  pub manage_leaves : (answer : Answer) → Leaves node.logins.places terms (manage answer (scene node empty_outbox)) disks
  unfolding manage
  manage_leaves answer = by_source (management.source_in node.manager.operation) answer
