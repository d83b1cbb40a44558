-- A reply to an agent leaves its unit, with what its medium holds, as what it tells makes of the unit's term.
use Rattle.sbp_world.proofs.Words.Std.{arith, ◌≡◌, ◌≢◌, ◌∙◌, refl, sym, ap, subst, ℕ, ◌<◌, nat_eq, nat_lt, Bool, true, false, cond, List, [], ◌∷◌, ◌++◌, length, Option, Some, None, Result, Ok, Err, slice_index_or, slice_set, length-set, nat_tests, get_or-set_same, set-get_or, set-set}
use Rattle.sbp_world.proofs.Words.Wire.{LabelParts, Side, empty_outbox}
use Rattle.sbp_world.proofs.Words.Target.{Login, IsSound, Table, place_at, units_places, Outcome, Disk, disk_at, no_disk, Told, after_run, check_in, left_by, PlainDisk, UnitState, changed_for, new_unit, plain_disk, Phase, AgentStep, Which, Ahead, Main, Machine, is_ahead, state_in, advanced, ahead_read, ahead_step, is_reset, quiet, reply_step, served, told_or, Desk, follow, new_desk, taken, which_in, NodeState, Scene, desk_at, login_at, scene, with_desk, advance, advanced_with, announced_by, came, changed_by, follow_all, plain_in, step_replied, replied_by, replied_to, replied_with, scene_of, served_login, stage, whole, orb_of, tell_ran, if_served, mask_of}
use Rattle.sbp_world.proofs.Words.Initiator.{FailCause, Answer, payload_of}
use Rattle.sbp_world.proofs.Words.Laws.{all_but, left_by_run, marked, moves_disc, places_of, unit_at, unit_in}
use Rattle.label_table.proofs.Owned.{set_at}
use Rattle.login_table.proofs.Searching.{within}
use Rattle.command_agent.specs.declared.phase.Phase.TheVariants as phases
use Rattle.sbp_journal.specs.declared.side.Side.TheVariants as sides
use Rattle.sbp_target.proofs.Histories.Calling.{Good}
use Rattle.sbp_world.proofs.Agents.UnitsKept.{In, Keeps, announces_by, follows, keeps_steps, notes_tell, runs_if}
use Rattle.sbp_world.proofs.Agents.UnitsMarked.{came_not, others_mask, run_came}
use Rattle.sbp_world.proofs.Agents.UnitsTold.{HasLogin, Makes, Spares, by_resets, by_run, by_side, spare_more, unit_for}

-- ---- the units of the terms are a node's, with their media
pub record Match (terms : List PlainDisk) (units : List UnitState) (disks : List Disk) : Type 0 where
  pub count : length terms ≡ length units
  pub media : length disks ≡ length units
  pub each : (unit : ℕ) → unit_at terms unit ≡ plain_in units disks unit

-- one of them is another
pub match_set : (terms : List PlainDisk) (units : List UnitState) (disks : List Disk) (unit : ℕ) (plain : PlainDisk) → unit < length units → Match terms units disks → Match (slice_set terms unit plain) (slice_set units unit plain.unit) (slice_set disks unit plain.medium)
match_set terms units disks unit plain l m =
    let c = m.count in
    let d = m.media in
    record {
      count = length-set terms unit plain ∙ m.count ∙ sym (length-set units unit plain.unit);
      media = length-set disks unit plain.medium ∙ m.media ∙ sym (length-set units unit plain.unit);
      each = λ k.
          set_at terms unit k plain (plain_disk new_unit (disk_at [] 0)) (omega arith)
          ∙ by (nat_eq k unit) k
          ∙ ap (λ (u : UnitState). plain_disk u (cond (nat_eq k unit) plain.medium (disk_at disks k))) (sym (set_at units unit k plain.unit new_unit l))
          ∙ ap (λ (x : Disk). plain_disk (slice_index_or (slice_set units unit plain.unit) k new_unit) x) (sym (set_at disks unit k plain.medium no_disk (omega arith)));
    }
  where
    by : (b : Bool) (k : ℕ) → cond b plain (unit_at terms k) ≡ plain_disk (cond b plain.unit (slice_index_or units k new_unit)) (cond b plain.medium (disk_at disks k))
    by true k = refl
    by false k = m.each k

-- ---- a step of an agent
-- one in RESET runs no command
main_none : (place : ℕ) (plain : PlainDisk) (told : Told) (phase : Phase) (m : Machine) (answer : Answer) → is_reset (state_in phase) ≡ true → (served place plain told (advanced phase m answer).0 (advanced phase m answer).1).0.ran ≡ None
main_none place plain told phases.Reset m answer e = refl
main_none place plain told phases.Fetching m answer e = absurd (let no : false ≡ true = e in cc)
main_none place plain told phases.ReadingTable m answer e = absurd (let no : false ≡ true = e in cc)
main_none place plain told (phases.ReadingData wanted) m answer e = absurd (let no : false ≡ true = e in cc)
main_none place plain told phases.Answering m answer e = absurd (let no : false ≡ true = e in cc)
main_none place plain told phases.WritingStatus m answer e = absurd (let no : false ≡ true = e in cc)
main_none place plain told phases.ReadingNext m answer e = absurd (let no : false ≡ true = e in cc)
main_none place plain told phases.WritingLastStatus m answer e = absurd (let no : false ≡ true = e in cc)
main_none place plain told phases.Suspended m answer e = absurd (let no : false ≡ true = e in cc)
main_none place plain told phases.Dead m answer e = absurd (let no : false ≡ true = e in cc)

pub ahead_none : (m : Machine) (r : Result (List ℕ) FailCause) → (ahead_read m r).0.ran ≡ None
ahead_none m (Ok bytes) = refl
ahead_none m (Err cause) = refl

pub reset_none : (m : Machine) (place : ℕ) (plain : PlainDisk) (told : Option Told) (which : Which) (answer : Answer) → is_reset (state_in m.phase) ≡ true → (reply_step m place plain told which answer).0.ran ≡ None
unfolding reply_step
reset_none m place plain told Main answer e = main_none place plain (told_or told) m.phase m answer e
reset_none m place plain told Ahead answer e = runs_if (is_ahead m.ahead) (ahead_step m answer) (quiet, m) (ahead_none m (payload_of answer 32)) refl

-- a place whose agent runs a command has a live login
live_by : (node : NodeState) (g : Good node) (place : ℕ) → place < 8 → (b : Bool) → is_reset (state_in (desk_at node place).agent.phase) ≡ b → (plain : PlainDisk) (told : Option Told) (which : Which) (answer : Answer) (outcome : Outcome) → (reply_step (desk_at node place).agent place plain told which answer).0.ran ≡ Some outcome → HasLogin node.logins.places place
live_by node g place b true e plain told which answer outcome ran =
    absurd (let no : None ≡ Some outcome = sym (reset_none (desk_at node place).agent place plain told which answer e) ∙ ran in cc)
live_by node g place b false e plain told which answer outcome ran =
    let s = g.mid.served place b (let n : place ≢ 8 = omega arith in n) e in
    record { login = s.login; is = s.is; live = s.live }

pub live_login : (node : NodeState) (g : Good node) (place : ℕ) → place < 8 → (plain : PlainDisk) (told : Option Told) (which : Which) (answer : Answer) (outcome : Outcome) → (reply_step (desk_at node place).agent place plain told which answer).0.ran ≡ Some outcome → HasLogin node.logins.places place
live_login node g place b plain told which answer outcome ran =
    live_by node g place b (is_reset (state_in (desk_at node place).agent.phase)) refl plain told which answer outcome ran

-- ---- what is told of it, and what it leaves

pub makes_keeps : (places : List (Option Login)) (first now : List PlainDisk) → Keeps (Makes places first now)
makes_keeps places first now = record { tells = λ told side f h. more told side f h }
  where
    longer : (xs ys : List Side) (side : Side) → (xs ++ ys) ++ side ∷ [] ≡ xs ++ (ys ++ side ∷ [])
    longer [] ys side = refl
    longer (x ∷ xs) ys side = ap (λ zs. x ∷ zs) (longer xs ys side)

    more : (told : List Side) (side : Side) → Spares side → Makes places first now told → Makes places first now (told ++ side ∷ [])
    more told side f (by_run place orb cdb payload outcome later has spare is made) =
        by_run place orb cdb payload outcome (later ++ side ∷ []) has (spare_more later side spare f) (ap (λ xs. xs ++ side ∷ []) is) made
    more told side f (by_resets before later reset spare is made) =
        by_resets before (later ++ side ∷ []) reset (spare_more later side spare f) (ap (λ xs. xs ++ side ∷ []) is ∙ longer before later side) made

-- What a turn makes of the units is what it leaves of them, with their media.
pub record Leaves (places : List (Option Login)) (first : List PlainDisk) (s : Scene) (disks : List Disk) : Type 0 where
  pub now : List PlainDisk
  pub makes : Makes places first now s.outbox.sides
  pub match : Match now s.node.units disks

pub nothing_makes : (places : List (Option Login)) (first : List PlainDisk) → Makes places first first []
nothing_makes places first = by_resets [] [] tt tt refl refl

pub in_leaves : (places : List (Option Login)) (first now : List PlainDisk) (units : List UnitState) (table : Table) (s : Scene) (disks : List Disk) → Match now units disks → In (Makes places first now) units table s → Leaves places first s disks
in_leaves places first now units table s disks m i = record { now = now; makes = i.told; match = subst (λ us. Match now us disks) (sym i.units_are) m }

module _ (node : NodeState) (sound : IsSound node.logins.places) (size : length node.desks ≡ 8) (terms : List PlainDisk) (disks : List Disk) (m : Match terms node.units disks) where
  abbrev table : Table
  table = node.logins

  abbrev places : List (Option Login)
  places = node.logins.places

  abbrev Kept : List PlainDisk → List Side → Type 0
  Kept now told = Makes places terms now told

  module _ (place : ℕ) (login : Login) (is : place_at node.logins.places place ≡ Some login) (on_unit : login.unit < length node.units) where
    abbrev unit : ℕ
    unit = login.unit

    abbrev plain : PlainDisk
    plain = plain_in node.units disks unit

    -- the other logins of the unit
    abbrev mask : ℕ
    mask = mask_of unit (Some place) places

    small : place < length node.desks
    small = let l = within node.logins.places place login is in let s = sound.size in omega arith

    on_disk : unit < length disks
    on_disk = let c = m.media in omega arith

    -- the node with what a step left of its agent and of its unit, and with a disc that came
    abbrev left_node : Desk → PlainDisk → NodeState
    left_node d p = record (with_desk node place d) { units = slice_set node.units unit p.unit }

    abbrev changed : Bool → Desk → PlainDisk → NodeState
    changed b d p = changed_by b unit place (left_node d p)

    units_left : (b : Bool) (d : Desk) (p : PlainDisk) → (changed b d p).units ≡ slice_set node.units unit (marked b mask p).unit
    units_left false d p = refl
    units_left true d p =
        ap (λ (u : UnitState). slice_set (slice_set node.units unit p.unit) unit (changed_for u mask)) (get_or-set_same node.units unit p.unit new_unit on_unit)
        ∙ set-set node.units unit p.unit (changed_for p.unit mask)

    medium_left : (b : Bool) (p : PlainDisk) → (marked b mask p).medium ≡ p.medium
    medium_left false p = refl
    medium_left true p = refl

    desk_left : (b : Bool) (d : Desk) (p : PlainDisk) → desk_at (changed b d p) place ≡ d
    desk_left false d p = get_or-set_same node.desks place d new_desk small
    desk_left true d p = get_or-set_same node.desks place d new_desk small

    logins_left : (b : Bool) (d : Desk) (p : PlainDisk) → (changed b d p).logins ≡ table
    logins_left false d p = refl
    logins_left true d p = refl

    match_left : (b : Bool) (d : Desk) (p : PlainDisk) → Match (slice_set terms unit (marked b mask p)) (changed b d p).units (slice_set disks unit p.medium)
    match_left b d p =
        subst (λ us. Match (slice_set terms unit (marked b mask p)) us (slice_set disks unit p.medium)) (sym (units_left b d p))
        (subst (λ (x : Disk). Match (slice_set terms unit (marked b mask p)) (slice_set node.units unit (marked b mask p).unit) (slice_set disks unit x)) (medium_left b p)
        (match_set terms node.units disks unit (marked b mask p) on_unit m))

    -- what follows, with what was told of a run
    goes_on : (b : Bool) (d : Desk) (p : PlainDisk) (step : AgentStep) → Makes places terms (slice_set terms unit (marked b mask p)) (tell_ran place d.agent step.ran empty_outbox).sides → Leaves places terms (announced_by b unit place (follow place login step (scene (changed b d p) empty_outbox))) (slice_set disks unit p.medium)
    goes_on b d p step told =
        let now = slice_set terms unit (marked b mask p) in
        let k : Keeps (Kept now) = makes_keeps places terms now in
        let steps = keeps_steps (Kept now) k in
        let n = changed b d p in
        let s = scene n empty_outbox in
        let here = subst (λ (x : Desk). Makes places terms now (tell_ran place x.agent step.ran empty_outbox).sides) (sym (desk_left b d p)) told in
        in_leaves places terms now n.units table (announced_by b unit place (follow place login step s)) (slice_set disks unit p.medium) (match_left b d p)
        (announces_by (Kept now) n.units table k b unit place (follow place login step s)
        (follows (Kept now) n.units table steps place login step s (notes_tell (Kept now) n.units table steps place step s here refl (logins_left b d p))))

    -- whether a disc came
    abbrev loaded : PlainDisk → Bool
    loaded p = came (disk_at disks unit) (disk_at (slice_set disks unit p.medium) unit)

    loaded_is : (p : PlainDisk) → loaded p ≡ came (disk_at disks unit) p.medium
    loaded_is p = ap (came (disk_at disks unit)) (get_or-set_same disks unit p.medium no_disk on_disk)

    none_left : slice_set terms unit (marked (loaded plain) mask plain) ≡ terms
    none_left =
        ap (λ b. slice_set terms unit (marked b mask plain)) (loaded_is plain ∙ came_not (disk_at disks unit))
        ∙ ap (slice_set terms unit) (sym (m.each unit)) ∙ set-get_or terms unit (plain_disk new_unit (disk_at [] 0))

    unit_is : unit_for places place ≡ unit
    unit_is = ap unit_in is

    run_left : (orb : ℕ) (cdb payload : List ℕ) (outcome : Outcome) → (let p = after_run cdb payload (check_in outcome) place plain in by_side (sides.Ran place orb cdb payload outcome) places terms ≡ slice_set terms unit (marked (loaded p) mask p))
    run_left orb cdb payload outcome =
        let check = check_in outcome in
        let p = after_run cdb payload check place plain in
        let others = places_of (all_but place (units_places unit places)) in
        ap (λ u. slice_set terms u (left_by_run cdb payload check place u places (unit_at terms u))) unit_is
        ∙ ap (λ (x : PlainDisk). slice_set terms unit (left_by_run cdb payload check place unit places x)) (m.each unit)
        ∙ ap (λ n. slice_set terms unit (marked (moves_disc cdb check plain) n p)) (others_mask unit place places sound)
        ∙ ap (λ b. slice_set terms unit (marked b mask p)) (sym (loaded_is p ∙ run_came cdb payload check (slice_index_or node.units unit new_unit) (disk_at disks unit)))

    ran_leaves : (d : Desk) (step : AgentStep) (ran : Option Outcome) → step.ran ≡ ran → ((outcome : Outcome) → ran ≡ Some outcome → HasLogin places place) → (let p = left_by ran d.agent.orb.cdb d.agent.payload place plain in Leaves places terms (announced_by (loaded p) unit place (follow place login step (scene (changed (loaded p) d p) empty_outbox))) (slice_set disks unit p.medium))
    ran_leaves d step None e live =
        goes_on (loaded plain) d plain step
        (subst (λ x. Makes places terms (slice_set terms unit (marked (loaded plain) mask plain)) (tell_ran place d.agent x empty_outbox).sides) (sym e) (by_resets [] [] tt tt refl (sym none_left)))
    ran_leaves d step (Some outcome) e live =
        let a = d.agent in
        let p = after_run a.orb.cdb a.payload (check_in outcome) place plain in
        goes_on (loaded p) d p step
        (subst (λ x. Makes places terms (slice_set terms unit (marked (loaded p) mask p)) (tell_ran place d.agent x empty_outbox).sides) (sym e)
        (by_run place (orb_of a) a.orb.cdb a.payload outcome [] (live outcome refl) tt refl (run_left (orb_of a) a.orb.cdb a.payload outcome)))

    advanced_leaves : (which : Which) (r : AgentStep × Machine) → ((outcome : Outcome) → r.0.ran ≡ Some outcome → HasLogin places place) → (let w = advanced_with place login (replied_with place unit which r (stage node disks)) (whole (scene node empty_outbox) disks) in Leaves places terms (scene_of w) w.disks)
    unfolding follow_all
    advanced_leaves which (step, a) live = ran_leaves (record (taken which (desk_at node place)) { agent = a }) step step.ran refl live

    advance_leaves : (told : Option Told) (which : Which) (answer : Answer) → ((outcome : Outcome) → (reply_step (desk_at node place).agent place plain told which answer).0.ran ≡ Some outcome → HasLogin places place) → (let w = advance told place login which answer (whole (scene node empty_outbox) disks) in Leaves places terms (scene_of w) w.disks)
    unfolding advance step_replied
    advance_leaves told which answer live = advanced_leaves which (reply_step (desk_at node place).agent place plain told which answer) live

  -- ---- a reply to the agent of a place
  still : Leaves node.logins.places terms (scene node empty_outbox) disks
  still = record { now = terms; makes = nothing_makes node.logins.places terms; match = m }

  served_is : (units : ℕ) (x : Option Login) (login : Login) → if_served units x ≡ Some login → (x ≡ Some login) × (login.unit < units)
  served_is units None login e = absurd (let no : None ≡ Some login = e in cc)
  served_is units (Some other) login e = by (nat_lt other.unit units) refl e
    where
      by : (b : Bool) → nat_lt other.unit units ≡ b → cond b (Some other) None ≡ Some login → (Some other ≡ Some login) × (login.unit < units)
      by true f e =
          let same : other ≡ login = cc in
          let l : other.unit < units = grind (arith, nat_tests) in
          (e, subst (λ (own : Login). own.unit < units) same l)
      by false f e = absurd (let no : None ≡ Some login = e in cc)

  -- a place whose agent runs a command has a live login
  module _ (live : (place : ℕ) → place < 8 → (plain : PlainDisk) (told : Option Told) (which : Which) (answer : Answer) (outcome : Outcome) → (reply_step (desk_at node place).agent place plain told which answer).0.ran ≡ Some outcome → HasLogin node.logins.places place) where
    replied_leaves : (told : Option Told) (place : ℕ) (answer : Answer) (login : Option Login) (which : Option Which) → served_login node place ≡ login → (let w = replied_by told place answer login which (whole (scene node empty_outbox) disks) in Leaves node.logins.places terms (scene_of w) w.disks)
    replied_leaves told place answer (Some login) (Some which) e =
        let s = served_is (length node.units) (login_at node place) login e in
        let inside : place < 8 = (let l = within node.logins.places place login s.0 in let c = sound.size in omega arith) in
        advance_leaves place login s.0 s.1 told which answer (λ outcome ran. live place inside (plain_in node.units disks login.unit) told which answer outcome ran)
    replied_leaves told place answer None which e = still
    replied_leaves told place answer (Some login) None e = still

    pub reply_leaves : (told : Option Told) (place peer : ℕ) (label : LabelParts) (answer : Answer) → (let w = replied_to told place peer label answer (whole (scene node empty_outbox) disks) in Leaves node.logins.places terms (scene_of w) w.disks)
    unfolding replied_to
    reply_leaves told place peer label answer = replied_leaves told place answer (served_login node place) (which_in (desk_at node place) peer label) refl
