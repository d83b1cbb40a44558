-- What an agent of the target does to the registers for unsolicited status: each that is used up is told, behind the run that brought a disc, for another
-- live login of the unit; and all others stay.
use Rattle.sbp_world.proofs.Words.Std.{arith, ◌≡◌, ◌∙◌, refl, sym, ap, subst, ℕ, ◌<◌, ◌≤◌, ◌&&◌, not, nat_eq, nat_lt, is_some, Bool, true, false, cond, List, [], ◌∷◌, ◌++◌, length, Option, Some, None, Result, Ok, Err, slice_index_or, nat_tests, common_steps, set_past, false≢true}
use Rattle.sbp_world.proofs.Words.Wire.{LabelParts, Packet, header_in, Asked, Body, block_write, Layer, asking_step, answering_step, CutCause, Side, OutboxState, empty_outbox}
use Rattle.sbp_world.proofs.Words.Target.{Login, is_live, place_at, block, disk_at, Told, left_by, PlainDisk, Outcome, AgentStep, PointRefusal, Which, Ahead, Main, Machine, state_in, asks, doorbell_step, is_reset, lost_step, point_step, reply_step, Access, Desk, Purpose, ahead_sent, cut, dropped_by, follow, main_sent, noted, promoted_by, sent_to, told_cut, without_ahead, expired_desk, new_desk, point_desk, pointed_desk, promoted_desk, reset_desk, taken, which_in, NodeState, Scene, desk_at, login_at, scene, with_agent, with_desk, expire_agent, expired_by, expired_with, Stage, Whole, advance, advanced_with, announced_by, came, changed_by, follow_all, plain_at, replied, replied_by, replied_to, replied_with, scene_of, served_login, stage, answer_step, answered_by, request_step, sent_by, with_side, accessed_by, answered, asked_in, enabled, point, pointed_by, ring, rung_by, orb_of, tell_dead, tell_ended, tell_ran, tell_step, announce_from, unsolicited_by, Announced, Behind, asks_ahead, asks_main, loses, pushes, stay, withholds}
use Rattle.sbp_world.proofs.Words.Initiator.{Ask, FailCause, StatusKind, Answer}
use Rattle.label_table.proofs.Owned.{set_at}
use Rattle.orb_layout.specs.declared.ask.FailCause.TheVariants as causes
use Rattle.sbp_journal.specs.declared.cause.CutCause.TheVariants as cuts
use Rattle.sbp_journal.specs.declared.side.Side.TheVariants as sides
use Rattle.target_base.specs.declared.address.Access.TheVariants as accesses
use Rattle.sbp_target.specs.declared.purpose.Purpose.TheVariants as purposes
use Rattle.sbp_world.proofs.Agents.Loads.{came_not, came_there}
use Rattle.sbp_world.proofs.Agents.AskedReplies.{served_is}
use Rattle.sbp_target.proofs.Histories.Moved.{announced_moves, behind_moves}
use Rattle.sbp_target.proofs.Histories.Views.{kept}

none_loads : (ran : Option Outcome) (cdb payload : List ℕ) (place : ℕ) (plain : PlainDisk) → came plain.medium (left_by ran cdb payload place plain).medium ≡ true → is_some ran ≡ true
none_loads None cdb payload place plain e = absurd (came_not plain.medium e)
none_loads (Some outcome) cdb payload place plain e = refl

-- ---- a desk has another state of its register, or the same
desk_at_set : (node : NodeState) (place : ℕ) (d : Desk) (other : ℕ) → ((d.is_enabled ≡ true → place < length node.desks)) → (desk_at (with_desk node place d) other).is_enabled ≡ cond (nat_eq other place) d.is_enabled (desk_at node other).is_enabled
desk_at_set node place d other f = by (nat_lt place (length node.desks)) refl
  where
    picked : (b : Bool) → (cond b d (desk_at node other)).is_enabled ≡ cond b d.is_enabled (desk_at node other).is_enabled
    picked true = refl
    picked false = refl

    none : length node.desks ≤ other → (desk_at node other).is_enabled ≡ false
    none l = let e : slice_index_or node.desks other new_desk ≡ new_desk = grind (arith, common_steps) in ap (λ (x : Desk). x.is_enabled) e

    off_by : (b : Bool) → d.is_enabled ≡ b → length node.desks ≤ place → d.is_enabled ≡ false
    off_by true e l = absurd (let z = f e in omega arith)
    off_by false e l = e

    beyond : (b : Bool) → nat_eq other place ≡ b → length node.desks ≤ place → (desk_at node other).is_enabled ≡ cond b d.is_enabled (desk_at node other).is_enabled
    beyond true e l = let same : other ≡ place = grind (arith, nat_tests) in none (omega arith) ∙ sym (off_by d.is_enabled refl l)
    beyond false e l = refl

    by : (b : Bool) → nat_lt place (length node.desks) ≡ b → (desk_at (with_desk node place d) other).is_enabled ≡ cond (nat_eq other place) d.is_enabled (desk_at node other).is_enabled
    by true l =
        let below : place < length node.desks = grind (arith, nat_tests) in
        ap (λ (x : Desk). x.is_enabled) (set_at node.desks place other d new_desk below) ∙ picked (nat_eq other place)
    by false l =
        let past : length node.desks ≤ place = grind (arith, nat_tests) in
        ap (λ (ds : List Desk). (slice_index_or ds other new_desk).is_enabled) (set_past node.desks place d past) ∙ beyond (nat_eq other place) refl past

pub register_off : (node : NodeState) (place : ℕ) (d : Desk) → d.is_enabled ≡ false → (other : ℕ) → (desk_at (with_desk node place d) other).is_enabled ≡ cond (nat_eq other place) false (desk_at node other).is_enabled
register_off node place d e other =
    desk_at_set node place d other (λ f. absurd (false≢true (sym e ∙ f))) ∙ ap (λ b. cond (nat_eq other place) b (desk_at node other).is_enabled) e

-- the registers of two nodes are the same
pub record SameRegisters (node now : NodeState) : Type 0 where
  pub each : (place : ℕ) → (desk_at now place).is_enabled ≡ (desk_at node place).is_enabled

pub same_registers : (node now : NodeState) → now.desks ≡ node.desks → SameRegisters node now
same_registers node now e = record { each = λ place. ap (λ (ds : List Desk). (slice_index_or ds place new_desk).is_enabled) e }

pub desk_same : (node : NodeState) (place : ℕ) (d : Desk) → d.is_enabled ≡ (desk_at node place).is_enabled → SameRegisters node (with_desk node place d)
desk_same node place d e = record { each = λ other. desk_at_set node place d other inside ∙ by other (nat_eq other place) refl }
  where
    by : (other : ℕ) (b : Bool) → nat_eq other place ≡ b → cond b d.is_enabled (desk_at node other).is_enabled ≡ (desk_at node other).is_enabled
    by other true f = let same : other ≡ place = grind (arith, nat_tests) in e ∙ ap (λ i. (desk_at node i).is_enabled) (sym same)
    by other false f = refl

    inside_by : (b : Bool) → nat_lt place (length node.desks) ≡ b → (desk_at node place).is_enabled ≡ true → place < length node.desks
    inside_by true l f = grind (arith, nat_tests)
    inside_by false l f =
        let past : length node.desks ≤ place = grind (arith, nat_tests) in
        let none : slice_index_or node.desks place new_desk ≡ new_desk = grind (arith, common_steps) in
        absurd (false≢true (sym (ap (λ (x : Desk). x.is_enabled) none) ∙ f))

    inside : d.is_enabled ≡ true → place < length node.desks
    inside f = inside_by (nat_lt place (length node.desks)) refl (sym e ∙ f)

-- ---- what is told
-- a live login of the unit in a place
pub record Hears (unit : ℕ) (places : List (Option Login)) (place : ℕ) : Type 0 where
  pub login : Login
  pub is : place_at places place ≡ Some login
  pub live : is_live login ≡ true
  pub unit_is : login.unit ≡ unit

-- what a side makes of the register of a place
abbrev pub off : Side → ℕ → Bool → Bool
off (sides.Unsolicited other) place enabled = cond (nat_eq place other) false enabled
off side place enabled = enabled

abbrev pub all_off : List Side → ℕ → Bool → Bool
all_off [] place enabled = enabled
all_off (side ∷ later) place enabled = all_off later place (off side place enabled)

abbrev pub ran_by : Side → Bool → Bool
ran_by (sides.Ran place orb cdb payload outcome) ran = true
ran_by side ran = ran

abbrev pub ran_in : List Side → Bool → Bool
ran_in [] ran = ran
ran_in (side ∷ later) ran = ran_in later (ran_by side ran)

-- only the agent of place q runs, and a live login of the unit is told behind a run
abbrev pub IsHeard : (q unit : ℕ) → List (Option Login) → (ran : Bool) → Side → Type 0
IsHeard q unit places ran (sides.Own note) = ⊥
IsHeard q unit places ran (sides.Managed node function subject status login) = ⊥
IsHeard q unit places ran (sides.ManageFailed node cause) = ⊥
IsHeard q unit places ran (sides.Held login) = ⊥
IsHeard q unit places ran (sides.Expired login) = ⊥
IsHeard q unit places ran (sides.Back login) = ⊥
IsHeard q unit places ran (sides.Left login) = ⊥
IsHeard q unit places ran (sides.Ran place orb cdb payload outcome) = place ≡ q
IsHeard q unit places ran (sides.Unsolicited place) = (ran ≡ true) × Hears unit places place
IsHeard q unit places ran side = Unit {0}

abbrev pub AreHeard : (q unit : ℕ) → List (Option Login) → (ran : Bool) → List Side → Type 0
AreHeard q unit places ran [] = Unit {0}
AreHeard q unit places ran (side ∷ later) = IsHeard q unit places ran side × AreHeard q unit places (ran_by side ran) later

off_more : (told : List Side) (side : Side) (place : ℕ) (enabled : Bool) → all_off (told ++ side ∷ []) place enabled ≡ off side place (all_off told place enabled)
off_more [] side place enabled = refl
off_more (first ∷ told) side place enabled = off_more told side place (off first place enabled)

ran_more : (told : List Side) (side : Side) (ran : Bool) → ran_in (told ++ side ∷ []) ran ≡ ran_by side (ran_in told ran)
ran_more [] side ran = refl
ran_more (first ∷ told) side ran = ran_more told side (ran_by first ran)

heard_more : (q unit : ℕ) (places : List (Option Login)) (told : List Side) (side : Side) (ran : Bool) → AreHeard q unit places ran told → IsHeard q unit places (ran_in told ran) side → AreHeard q unit places ran (told ++ side ∷ [])
heard_more q unit places [] side ran h f = (f, tt)
heard_more q unit places (first ∷ told) side ran h f = (h.0, heard_more q unit places told side (ran_by first ran) h.1 f)

-- ---- since a call began: with these registers, and logins in these places
pub record Heeds (q unit : ℕ) (places : List (Option Login)) (before : ℕ → Bool) (ran : Bool) (s : Scene) : Type 0 where
  pub registers : (place : ℕ) → (desk_at s.node place).is_enabled ≡ all_off s.outbox.sides place (before place)
  pub heard : AreHeard q unit places false s.outbox.sides
  pub has_run : ran ≡ true → ran_in s.outbox.sides false ≡ true
  pub logins : s.node.logins.places ≡ places

-- an access to a register but for the one that enables
abbrev pub IsOther : Access → Type 0
IsOther accesses.Enable = ⊥
IsOther access = Unit {0}

module _ (q unit : ℕ) (places : List (Option Login)) (before : ℕ → Bool) where
  abbrev C : Bool → Scene → Type 0
  C ran s = Heeds q unit places before ran s

  weaken : (ran : Bool) (s : Scene) → C ran s → C false s
  weaken ran s h = record { registers = h.registers; heard = h.heard; has_run = λ e. absurd (false≢true e); logins = h.logins }

  -- a run is told
  runs : (orb : ℕ) (cdb payload : List ℕ) (outcome : Outcome) (s : Scene) → C false s → C true (scene s.node (with_side s.outbox (sides.Ran q orb cdb payload outcome)))
  runs orb cdb payload outcome s h =
      let side : Side = sides.Ran q orb cdb payload outcome in
      record {
        registers = λ place. h.registers place ∙ sym (off_more s.outbox.sides side place (before place));
        heard = heard_more q unit places s.outbox.sides side false h.heard refl;
        has_run = λ e. ran_more s.outbox.sides side false;
        logins = h.logins;
      }

  -- ---- with or without one by now
  module _ (ran : Bool) where
    -- another node with the same registers and logins, and what was told
    moves : (s t : Scene) → SameRegisters s.node t.node → t.node.logins.places ≡ s.node.logins.places → t.outbox.sides ≡ s.outbox.sides → C ran s → C ran t
    moves s t r l o h = record {
      registers = λ place. r.each place ∙ h.registers place ∙ ap (λ told. all_off told place (before place)) (sym o);
      heard = subst (λ told. AreHeard q unit places false told) (sym o) h.heard;
      has_run = λ e. ap (λ told. ran_in told false) o ∙ h.has_run e;
      logins = l ∙ h.logins;
    }

    -- the same desks
    keeps : (s t : Scene) → t.node.desks ≡ s.node.desks → t.node.logins.places ≡ s.node.logins.places → t.outbox.sides ≡ s.outbox.sides → C ran s → C ran t
    keeps s t e l o h = moves s t (same_registers s.node t.node e) l o h

    -- a desk with the same register
    changes : (s : Scene) (layer : Layer Purpose) (o : OutboxState) (place : ℕ) (d : Desk) → d.is_enabled ≡ (desk_at s.node place).is_enabled → o.sides ≡ s.outbox.sides → C ran s → C ran (scene (with_desk (record s.node { layer = layer }) place d) o)
    changes s layer o place d e f h = moves s (scene (with_desk (record s.node { layer = layer }) place d) o) (record { each = (desk_same (record s.node { layer = layer }) place d e).each }) refl f h

    -- what uses up no register
    tells : (side : Side) (s : Scene) → IsHeard q unit places (ran_in s.outbox.sides false) side → ((place : ℕ) (b : Bool) → off side place b ≡ b) → ((b : Bool) → b ≡ true → ran_by side b ≡ true) → C ran s → C ran (scene s.node (with_side s.outbox side))
    tells side s i f g h = record {
      registers = λ place. h.registers place ∙ sym (off_more s.outbox.sides side place (before place) ∙ f place (all_off s.outbox.sides place (before place)));
      heard = heard_more q unit places s.outbox.sides side false h.heard i;
      has_run = λ e. ran_more s.outbox.sides side false ∙ g (ran_in s.outbox.sides false) (h.has_run e);
      logins = h.logins;
    }

    ran_tells : (m : Machine) (x : Option Outcome) (s : Scene) → C ran s → C ran (scene s.node (tell_ran q m x s.outbox))
    ran_tells m None s h = h
    ran_tells m (Some outcome) s h = tells (sides.Ran q (orb_of m) m.orb.cdb m.payload outcome) s refl (λ place b. refl) (λ b e. refl) h

    dead_tells : (x : Option FailCause) (s : Scene) → C ran s → C ran (scene s.node (tell_dead q x s.outbox))
    dead_tells None s h = h
    dead_tells (Some cause) s h = tells (sides.Dead q cause) s tt (λ place b. refl) (λ b e. e) h

    ended_tells : (m : Machine) (x : Option StatusKind) (s : Scene) → C ran s → C ran (scene s.node (tell_ended q m x s.outbox))
    ended_tells m None s h = h
    ended_tells m (Some status) s h = tells (sides.Ended q (orb_of m) status) s tt (λ place b. refl) (λ b e. e) h

    dropped : (x : Option FailCause) (s : Scene) → C ran s → C ran (scene (dropped_by x q s.node) s.outbox)
    unfolding without_ahead
    dropped None s h = h
    dropped (Some cause) s h = changes s _ s.outbox q (record (desk_at s.node q) { ahead = None }) refl refl h

    promoted : (b : Bool) (s : Scene) → C ran s → C ran (scene (promoted_by b q s.node) s.outbox)
    promoted false s h = h
    promoted true s h = changes s s.node.layer s.outbox q (promoted_desk (desk_at s.node q)) refl refl h

    -- behind what a step says of a run
    behind_run : (step : AgentStep) (s : Scene) → C ran (scene s.node (tell_ran q (desk_at s.node q).agent step.ran s.outbox)) → C ran (noted q step s)
    unfolding noted tell_step
    behind_run step s h =
        let m = (desk_at s.node q).agent in
        let a = scene s.node (tell_ran q m step.ran s.outbox) in
        let b = scene s.node (tell_dead q step.dead a.outbox) in
        let c = scene s.node (tell_ended q m step.ended b.outbox) in
        let d = scene (dropped_by step.dead q s.node) c.outbox in
        promoted step.promoted d (dropped step.dead c (ended_tells m step.ended b (dead_tells step.dead a h)))

    notes : (step : AgentStep) (s : Scene) → C ran s → C ran (noted q step s)
    notes step s h = behind_run step s (ran_tells (desk_at s.node q).agent step.ran s h)

    -- ---- what is asked
    abbrev Same : OutboxState → Option LabelParts × (Layer Purpose × OutboxState) → Type 0
    Same o r = r.1.1.sides ≡ o.sides

    asked_same : (r : Option Asked × Layer Purpose) (o : OutboxState) (peer : ℕ) → Same o (sent_by r o peer)
    asked_same (Some asked, layer) o peer = refl
    asked_same (None, layer) o peer = refl

    requests_same : (layer : Layer Purpose) (o : OutboxState) (peer : ℕ) (body : Body) (purpose : Purpose) → Same o (request_step layer o peer body purpose)
    unfolding request_step
    requests_same layer o peer body purpose = asked_same (asking_step layer peer body purpose) o peer

    answered_same : (r : List ℕ × Layer Purpose) (o : OutboxState) (source : ℕ) → (answered_by r o source).1.sides ≡ o.sides
    answered_same (bytes, layer) o source = refl

    pub answers : (request : Packet) (bytes : List ℕ) (rcode : ℕ) (given : List ℕ) (s : Scene) → C ran s → C ran (answered request bytes rcode given s)
    unfolding answer_step
    answers request bytes rcode given s h =
        keeps s (answered request bytes rcode given s) refl refl (answered_same (answering_step s.node.layer request bytes rcode given) s.outbox (header_in request).source) h

    main_leaves : (peer : ℕ) (s : Scene) (r : Option LabelParts × (Layer Purpose × OutboxState)) → Same s.outbox r → C ran s → C ran (main_sent q peer s.node r).1
    main_leaves peer s (Some label, (layer, outbox)) e h = changes s layer outbox q (record (desk_at s.node q) { main = Some (sent_to peer label) }) refl e h
    main_leaves peer s (None, (layer, outbox)) e h = keeps s (scene (record s.node { layer = layer }) outbox) refl refl e h

    ahead_leaves : (peer : ℕ) (s : Scene) (r : Option LabelParts × (Layer Purpose × OutboxState)) → Same s.outbox r → C ran s → C ran (ahead_sent q peer s.node r).1
    ahead_leaves peer s (Some label, (layer, outbox)) e h = changes s layer outbox q (record (desk_at s.node q) { ahead = Some (sent_to peer label) }) refl e h
    ahead_leaves peer s (None, (layer, outbox)) e h = keeps s (scene (record s.node { layer = layer }) outbox) refl refl e h

    behind : (login : Login) (x y : Scene) → Behind q login x y → C ran x → C ran y
    behind login _ _ (loses which s e) h =
        let x = lost_step (desk_at s.node q).agent which causes.Label in
        notes x.0 (scene (with_agent s.node q x.1) s.outbox) (changes s s.node.layer s.outbox q (record (desk_at s.node q) { agent = x.1 }) refl refl h)
    behind login _ _ (asks_main ask b body s e) h =
        main_leaves login.node s (request_step s.node.layer s.outbox login.node body (purposes.Agent q)) (requests_same s.node.layer s.outbox login.node body (purposes.Agent q)) h
    behind login _ _ (asks_ahead ask body s e) h =
        ahead_leaves login.node s (request_step s.node.layer s.outbox login.node body (purposes.Agent q)) (requests_same s.node.layer s.outbox login.node body (purposes.Agent q)) h

    behind_noted : (login : Login) (step : AgentStep) (s : Scene) → C ran (noted q step s) → C ran (follow q login step s)
    behind_noted login step s h =
        let t = noted q step s in kept (Behind q login) (C ran) (behind login) t _ (behind_moves (Behind q login) q login (λ x y m. m) t step s (stay t)) h

    follows : (login : Login) (step : AgentStep) (s : Scene) → C ran s → C ran (follow q login step s)
    follows login step s h = behind_noted login step s (notes step s h)

    -- ---- cuts and cleared units
    cut_tells : (b : Bool) (place : ℕ) (cause : CutCause) (s : Scene) → C ran s → C ran (scene s.node (told_cut b place cause s.outbox))
    cut_tells true place cause s h = h
    cut_tells false place cause s h = tells (sides.Cut place cause) s tt (λ other b. refl) (λ b e. e) h

    pub cuts_at : (cause : CutCause) (place : ℕ) (s : Scene) → C ran s → C ran (cut cause place s)
    unfolding cut
    cuts_at cause place s h =
        let b = is_reset (state_in (desk_at s.node place).agent.phase) in
        changes (scene s.node (told_cut b place cause s.outbox)) _ (told_cut b place cause s.outbox) place (reset_desk (desk_at s.node place)) refl refl (cut_tells b place cause s h)

  -- ---- unsolicited statuses, behind a run
  announced : (place peer : ℕ) (s : Scene) (r : Option LabelParts × (Layer Purpose × OutboxState)) → r.1.1.sides ≡ s.outbox.sides → Hears unit places place → C true s → C true (unsolicited_by place peer s.node r)
  announced place peer s (Some label, (layer, outbox)) e i h =
      let side : Side = sides.Unsolicited place in
      let d : Desk = record (desk_at s.node place) { is_enabled = false } in
      record {
        registers = λ other.
            register_off s.node place d refl other
            ∙ ap (λ b. cond (nat_eq other place) false b) (h.registers other)
            ∙ sym (off_more s.outbox.sides side other (before other)) ∙ ap (λ told. all_off (told ++ side ∷ []) other (before other)) (sym e);
        heard = subst (λ told. AreHeard q unit places false (told ++ side ∷ [])) (sym e) (heard_more q unit places s.outbox.sides side false h.heard (h.has_run refl, i));
        has_run = λ f. ap (λ told. ran_in (told ++ side ∷ []) false) e ∙ ran_more s.outbox.sides side false ∙ h.has_run refl;
        logins = h.logins;
      }
  announced place peer s (None, (layer, outbox)) e i h =
      tells true (sides.Unsent place) (scene (record s.node { layer = layer }) outbox) tt (λ other b. refl) (λ b f. f) (keeps true s (scene (record s.node { layer = layer }) outbox) refl refl e h)

  heard_parts : (a b c d : Bool) → (a && (b && (not c && d))) ≡ true → (a ≡ true) × (b ≡ true)
  heard_parts true true c d e = (refl, refl)
  heard_parts true false c d e = absurd (false≢true e)
  heard_parts false b c d e = absurd (false≢true e)

  disc_tells : (from : ℕ) (x y : Scene) → Announced unit from x y → C true x → C true y
  disc_tells from _ _ (pushes place login s e) h =
      let p = heard_parts (nat_eq login.unit unit) (is_live login) (nat_eq place from) (desk_at s.node place).is_enabled e.heard in
      let unit_test = p.0 in
      let there = ap (λ ps. place_at ps place) (sym h.logins) ∙ e.is in
      let body = block_write login.fifo block in
      announced place login.node s (request_step s.node.layer s.outbox login.node body purposes.Unsolicited) (requests_same true s.node.layer s.outbox login.node body purposes.Unsolicited)
      (record { login = login; is = there; live = p.1; unit_is = grind (arith, nat_tests) }) h
  disc_tells from _ _ (withholds place login s e) h = tells true (sides.Unsent place) s tt (λ other b. refl) (λ b e. e) h

  announces : (from : ℕ) (s : Scene) → C true s → C true (announce_from 8 0 unit from s)
  announces from s h =
      kept (Announced unit from) (C true) (disc_tells from) s _ (announced_moves (Announced unit from) unit from (λ x y m. m) s true s (stay s)) h

  -- ---- a reply
  changed : (ran b : Bool) (which place : ℕ) (s : Scene) → C ran s → C ran (scene (changed_by b which place s.node) s.outbox)
  changed ran false which place s h = h
  changed ran true which place s h = keeps ran s (scene (changed_by true which place s.node) s.outbox) refl refl refl h

  -- a step that tells of a run
  runs_noted : (x : Option Outcome) (step : AgentStep) (s : Scene) → step.ran ≡ x → is_some x ≡ true → C false s → C true (noted q step s)
  runs_noted None step s e f h = absurd (false≢true f)
  runs_noted (Some outcome) step s e f h =
      let m = (desk_at s.node q).agent in
      behind_run true step s (subst (λ y. C true (scene s.node (tell_ran q m y s.outbox))) (sym e) (runs (orb_of m) m.orb.cdb m.payload outcome s h))

  follows_all : (loaded : Bool) (login : Login) (step : AgentStep) (s : Scene) → login.unit ≡ unit → (loaded ≡ true → is_some step.ran ≡ true) → C false s → C false (follow_all loaded q login step s)
  unfolding follow_all
  follows_all false login step s e f h = follows false login step s h
  follows_all true login step s e f h =
      let t = scene (changed_by true login.unit q s.node) s.outbox in
      let told = behind_noted true login step t (runs_noted step.ran step t refl (f refl) (changed false true login.unit q s h)) in
      weaken true (announced_by true login.unit q (follow q login step t))
      (subst (λ u. C true (announce_from 8 0 u q (follow q login step t))) (sym e) (announces q (follow q login step t) told))

  taken_same : (which : Which) (d : Desk) → (taken which d).is_enabled ≡ d.is_enabled
  taken_same Main d = refl
  taken_same Ahead d = refl

  lapsed_same : (which : Which) (d : Desk) → (expired_desk which d).1.is_enabled ≡ d.is_enabled
  lapsed_same Main d = refl
  lapsed_same Ahead d = refl

  -- no disc comes where no command ran
  loads_run : (at : ℕ) (which : Which) (r : AgentStep × Machine) (s : Stage) → came (disk_at s.disks at) (disk_at (replied_with q at which r s).1.disks at) ≡ true → is_some (replied_with q at which r s).0.ran ≡ true
  loads_run at which (step, m) s e =
      none_loads step.ran m.orb.cdb m.payload q (plain_at s at) (came_there s.disks at (left_by step.ran m.orb.cdb m.payload q (plain_at s at)).medium e)

  steps_with : (at : ℕ) (which : Which) (r : AgentStep × Machine) (s : Stage) (o : OutboxState) → C false (scene s.node o) → C false (scene (replied_with q at which r s).1.node o)
  steps_with at which (step, m) s o h =
      let c = changes false (scene s.node o) s.node.layer o q (record (taken which (desk_at s.node q)) { agent = m }) (taken_same which (desk_at s.node q)) refl h in
      record { registers = c.registers; heard = c.heard; has_run = c.has_run; logins = c.logins }

  stages : (told : Option Told) (at : ℕ) (which : Which) (answer : Answer) (s : Stage) (o : OutboxState) → C false (scene s.node o) → C false (scene (replied told q at which answer s).1.node o)
  unfolding replied
  stages told at which answer s o h = steps_with at which (reply_step (desk_at s.node q).agent q (plain_at s at) told which answer) s o h

  stages_run : (told : Option Told) (at : ℕ) (which : Which) (answer : Answer) (s : Stage) → came (disk_at s.disks at) (disk_at (replied told q at which answer s).1.disks at) ≡ true → is_some (replied told q at which answer s).0.ran ≡ true
  unfolding replied
  stages_run told at which answer s e = loads_run at which (reply_step (desk_at s.node q).agent q (plain_at s at) told which answer) s e

  advances_with : (login : Login) (r : AgentStep × Stage) (w : Whole) → login.unit ≡ unit → (came (disk_at w.disks login.unit) (disk_at r.1.disks login.unit) ≡ true → is_some r.0.ran ≡ true) → C false (scene r.1.node w.outbox) → C false (scene_of (advanced_with q login r w))
  advances_with login (step, st) w e f h = follows_all (came (disk_at w.disks login.unit) (disk_at st.disks login.unit)) login step (scene st.node w.outbox) e f h

  replies_by : (told : Option Told) (answer : Answer) (login : Option Login) (which : Option Which) (w : Whole) → ((x : Login) → login ≡ Some x → x.unit ≡ unit) → C false (scene_of w) → C false (scene_of (replied_by told q answer login which w))
  unfolding advance
  replies_by told answer (Some login) (Some which) w f h =
      let s = stage w.node w.disks in
      advances_with login (replied told q login.unit which answer s) w (f login refl) (λ e. stages_run told login.unit which answer s e) (stages told login.unit which answer s w.outbox h)
  replies_by told answer None which w f h = h
  replies_by told answer (Some login) None w f h = h

  pub replies : (told : Option Told) (peer : ℕ) (label : LabelParts) (answer : Answer) (w : Whole) → ((x : Login) → login_at w.node q ≡ Some x → x.unit ≡ unit) → C false (scene_of w) → C false (scene_of (replied_to told q peer label answer w))
  unfolding replied_to
  replies told peer label answer w f h =
      replies_by told answer (served_login w.node q) (which_in (desk_at w.node q) peer label) w (λ x e. f x (served_is (length w.node.units) (login_at w.node q) x e)) h

  -- ---- a time-out of an agent's transaction
  lapses_with : (login : Login) (r : AgentStep × Desk) (s : Scene) → r.1.is_enabled ≡ (desk_at s.node q).is_enabled → C false s → C false (expired_with q login r s)
  lapses_with login (step, d) s e h = follows false login step (scene (with_desk s.node q d) s.outbox) (changes false s s.node.layer s.outbox q d e refl h)

  lapses_by : (login : Option Login) (which : Option Which) (s : Scene) → C false s → C false (expired_by q login which s)
  lapses_by (Some login) (Some which) s h = lapses_with login (expired_desk which (desk_at s.node q)) s (lapsed_same which (desk_at s.node q)) h
  lapses_by None which s h = h
  lapses_by (Some login) None s h = h

  pub lapses : (peer : ℕ) (label : LabelParts) (s : Scene) → C false s → C false (expire_agent q peer label s)
  unfolding expire_agent
  lapses peer label s h = lapses_by (login_at s.node q) (which_in (desk_at s.node q) peer label) s h

  -- ---- the registers of an agent
  asks_in : (ask : Ask) (login : Option Login) (s : Scene) → C false s → C false (asked_in q ask login s)
  asks_in ask None s h = h
  asks_in ask (Some login) s h = follows false login (asks ask) s h

  pointed_same : (d : Desk) (r : Result Ask PointRefusal × Machine) → (pointed_desk d r).1.is_enabled ≡ d.is_enabled
  pointed_same d (Ok ask, m) = refl
  pointed_same d (Err refusal, m) = refl

  points_by : (request : Packet) (bytes : List ℕ) (r : Result Ask PointRefusal × Desk) (s : Scene) → r.1.is_enabled ≡ (desk_at s.node q).is_enabled → C false s → C false (pointed_by q request bytes r s)
  points_by request bytes (Ok ask, d) s e h =
      let side : Side = sides.Opened q (orb_of d.agent) in
      let told = scene s.node (with_side s.outbox side) in
      let opened = scene (with_desk s.node q d) told.outbox in
      let t = answered request bytes 0 [] opened in
      asks_in ask (login_at t.node q) t (answers false request bytes 0 [] opened (changes false told s.node.layer told.outbox q d e refl (tells false side s tt (λ place b. refl) (λ b f. f) h)))
  points_by request bytes (Err refusal, d) s e h =
      answers false request bytes _ [] (scene (with_desk s.node q d) s.outbox) (changes false s s.node.layer s.outbox q d e refl h)

  rings_by : (request : Packet) (bytes : List ℕ) (r : Ask × Machine) (s : Scene) → C false s → C false (rung_by q request bytes r s)
  rings_by request bytes (ask, m) s h =
      let rung = scene (with_agent s.node q m) s.outbox in
      let t = answered request bytes 0 [] rung in
      asks_in ask (login_at t.node q) t (answers false request bytes 0 [] rung (changes false s s.node.layer s.outbox q (record (desk_at s.node q) { agent = m }) refl refl h))

  pub accesses_by : (access : Access) (request : Packet) (bytes : List ℕ) (s : Scene) → IsOther access → C false s → C false (accessed_by access q request bytes s)
  unfolding point ring
  accesses_by accesses.State request bytes s o h = answers false request bytes 0 _ s h
  accesses_by accesses.Reset request bytes s o h = answers false request bytes 0 [] (cut cuts.AgentReset q s) (cuts_at false cuts.AgentReset q s h)
  accesses_by (accesses.Point pointer) request bytes s o h =
      points_by request bytes (point_desk (desk_at s.node q) pointer) s (pointed_same (desk_at s.node q) (point_step (desk_at s.node q).agent pointer)) h
  accesses_by accesses.Pointer request bytes s o h = answers false request bytes 0 _ s h
  accesses_by accesses.Ring request bytes s o h = rings_by request bytes (doorbell_step (desk_at s.node q).agent) s h
  accesses_by accesses.Enable request bytes s o h = absurd o

  pub begins : (node : NodeState) → ((place : ℕ) → (desk_at node place).is_enabled ≡ before place) → node.logins.places ≡ places → C false (scene node empty_outbox)
  begins node r l = record { registers = r; heard = tt; has_run = λ e. absurd (false≢true e); logins = l }

-- the register of an agent is enabled
pub enables : (node : NodeState) (place : ℕ) → place < length node.desks → (other : ℕ) → (desk_at (with_desk node place (record (desk_at node place) { is_enabled = true })) other).is_enabled ≡ cond (nat_eq other place) true (desk_at node other).is_enabled
enables node place l other = desk_at_set node place (record (desk_at node place) { is_enabled = true }) other (λ e. l)
