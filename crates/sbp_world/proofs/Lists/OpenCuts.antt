-- What a call of the target leaves of the places whose lists are open, where it points to none: cuts, decisions, resets and seconds. A place with an open list
-- has a live login, and no other login that leaves or is taken back has its ID.
use Rattle.sbp_world.proofs.Words.Std.{arith, ◌≡◌, ◌⊎◌, inl, inr, ◌≢◌, ◌∙◌, refl, sym, ap, subst, ◌<◌, ℕ, zero, suc, ◌+◌, nat_eq, not, Bool, true, false, cond, List, [], ◌∷◌, ◌++◌, length, map, Option, Some, None, slice_index_or, slice_set, nat_tests, length-set, false≢true}
use Rattle.sbp_world.proofs.Words.Wire.{Holder, function_word, CutCause, Side, OutboxState, holder_at, or_nobody, Note, Moment, said}
use Rattle.sbp_world.proofs.Words.Target.{Login, IsSound, is_live, place_at, Machine, state_in, abort_step, is_reset, reset_step, Decision, Effect, Desk, cut, cut_node, told_cut, disabled, new_desk, reset_desk, cut_placed, decided_by, effect_by, fresh_desk, left_desk, place_in, tell_failed, tell_left, NodeState, Scene, desk_at, login_at, scene, with_desk, with_side, clear_from, clear_unit, cut_all, cut_at, cut_from, is_cut}
use Rattle.sbp_world.proofs.Words.Initiator.{FailCause}
use Rattle.sbp_world.proofs.Words.Laws.{was_cut}
use Rattle.sbp_world.proofs.Words.World.{told, told_all, WorldState}
use Rattle.login_table.proofs.Searching.{within}
use Rattle.mgmt_agent.specs.declared.decision.Effect.TheVariants as effects
use Rattle.sbp_journal.specs.declared.cause.CutCause.TheVariants as cuts
use Rattle.sbp_journal.specs.declared.operation.FunctionWord.TheVariants as words
use Rattle.sbp_journal.specs.declared.side.Side.TheVariants as sides
use Rattle.sbp_world.proofs.Agents.Granting.{IsBack}
use Rattle.sbp_world.proofs.Agents.Sparing.{IsOld}
use Rattle.sbp_world.proofs.Lists.SameAgents.{set_here}
use Rattle.sbp_world.proofs.Lists.Frees.{Frees, HasHeld, HasId}
use Rattle.sbp_world.proofs.Lists.OpenPlaces.{Has, decided_keeps, left_keeps}
use Rattle.sbp_world.proofs.Lists.OpenSpares.{SameCuts, cut_noted}
use Rattle.sbp_world.proofs.Agents.Managed.{in_place}
use Rattle.sbp_world.proofs.Agents.Telling.{told_snoc as told_last}

abbrev pub Here : NodeState → ℕ → Machine
Here node p = (desk_at node p).agent

-- an agent is not in RESET: its list is open, or was
abbrev pub is_up : Machine → Bool
is_up m = not (is_reset (state_in m.phase))

abbrev pub Listing : NodeState → ℕ → Type 0
Listing node p = is_up (Here node p) ≡ true

-- one desk is another, which has a list only where that had one
pub set_less : (desks : List Desk) (k p : ℕ) (d : Desk) → (is_up d.agent ≡ true → is_up (slice_index_or desks k new_desk).agent ≡ true) → is_up (slice_index_or (slice_set desks k d) p new_desk).agent ≡ true → is_up (slice_index_or desks p new_desk).agent ≡ true
set_less [] k p d f e = e
set_less (x ∷ desks) zero zero d f e = f e
set_less (x ∷ desks) zero (suc p) d f e = e
set_less (x ∷ desks) (suc k) zero d f e = e
set_less (x ∷ desks) (suc k) (suc p) d f e = set_less desks k p d f e

pub map_less : (desks : List Desk) (p : ℕ) → is_up (slice_index_or (map disabled desks) p new_desk).agent ≡ true → is_up (slice_index_or desks p new_desk).agent ≡ true
map_less [] p e = e
map_less (d ∷ desks) zero e = e
map_less (d ∷ desks) (suc p) e = map_less desks p e

pub reset_none : (m : Machine) → is_up (reset_step m) ≡ false
unfolding reset_step
reset_none m = refl

abort_less : (m : Machine) (orb : ℕ) → is_up (abort_step m orb) ≡ true → is_up m ≡ true
unfolding abort_step
abort_less m orb e = e

-- the login of a place is live, and who has the place has its ID; and this is so of the place
pub record OwnsLogin (Why : Type 0) (logins : List (Option Login)) (h : Holder) (p : ℕ) : Type 0 where
  pub login : Login
  pub is : place_at logins p ≡ Some login
  pub live : is_live login ≡ true
  pub id_is : h.login ≡ login.login
  pub why : Why

-- u is the world before anything is told, H says who has the places, by these logins as the call began, and B why a list is open there
module _ (u : WorldState) (H : ℕ → Holder) (B : ℕ → Type 0) (logins : List (Option Login)) (sound : IsSound logins) where
  -- the list of a place was cut, which has none now
  pub record CutAt (now : NodeState) (i n : ℕ) : Type 0 where
    pub place : ℕ
    pub small : place < 8
    pub from_is : (H place).initiator ≡ i
    pub list_is : (H place).list ≡ Some n
    pub own : OwnsLogin (B place) logins (H place) place
    pub over : Listing now place → ⊥

  abbrev pub CutsOf : NodeState → List Note → Type 0
  CutsOf now fresh = (ms : List Moment) (i n : ℕ) → was_cut (map said fresh ++ ms) i n ≡ true → (was_cut (map said u.fresh ++ ms) i n ≡ true) ⊎ CutAt now i n

  pub record Open (s : Scene) : Type 0 where
    pub cuts : CutsOf s.node (told_all 0 s.outbox.sides u).fresh
    pub desks : length s.node.desks ≡ 8
    pub kept : (p : ℕ) → p < 8 → Listing s.node p → Has (told_all 0 s.outbox.sides u).places p (H p)
    pub own : (p : ℕ) → p < 8 → Listing s.node p → OwnsLogin (B p) logins (H p) p

  abbrev pub Fewer : NodeState → NodeState → Type 0
  Fewer before now = (p : ℕ) → Listing now p → Listing before p

  fewer_cut : (before now : NodeState) (i n : ℕ) → Fewer before now → CutAt before i n → CutAt now i n
  fewer_cut before now i n f c = record { place = c.place; small = c.small; from_is = c.from_is; list_is = c.list_is; own = c.own; over = λ l. c.over (f c.place l) }

  fewer_cuts : (before now : NodeState) (i n : ℕ) → Fewer before now → (A : Type 0) → A ⊎ CutAt before i n → A ⊎ CutAt now i n
  fewer_cuts before now i n f A (inl a) = inl a
  fewer_cuts before now i n f A (inr c) = inr (fewer_cut before now i n f c)

  pub fewer : (s t : Scene) → length t.node.desks ≡ length s.node.desks → Fewer s.node t.node → t.outbox.sides ≡ s.outbox.sides → Open s → Open t
  fewer s t d f e c = record {
    cuts = λ ms i n x. fewer_cuts s.node t.node i n f (was_cut (map said u.fresh ++ ms) i n ≡ true) (c.cuts ms i n (subst (λ xs. was_cut (map said (told_all 0 xs u).fresh ++ ms) i n ≡ true) e x));
    desks = d ∙ c.desks;
    kept = λ p b l. subst (λ xs. Has (told_all 0 xs u).places p (H p)) (sym e) (c.kept p b (f p l));
    own = λ p b l. c.own p b (f p l);
  }

  -- with the same desks
  pub same_desks : (s : Scene) (node : NodeState) (o : OutboxState) → node.desks ≡ s.node.desks → o.sides ≡ s.outbox.sides → Open s → Open (scene node o)
  same_desks s node o d e c =
      fewer s (scene node o) (ap length d) (λ p l. subst (λ (xs : List Desk). is_up (slice_index_or xs p new_desk).agent ≡ true) d l) e c

  -- a side more
  abbrev pub Leaves : Scene → Side → Type 0
  Leaves s side = (w : WorldState) (p : ℕ) → p < 8 → Listing s.node p → Has w.places p (H p) → Has (told 0 side w).places p (H p)

  abbrev pub Quiet : Side → Type 0
  Quiet side = (w : WorldState) → SameCuts w.fresh (told 0 side w).fresh

  side_with : (s : Scene) (side : Side) → Leaves s side → CutsOf s.node (told 0 side (told_all 0 s.outbox.sides u)).fresh → Open s → Open (scene s.node (with_side s.outbox side))
  side_with s side f x c = record {
    cuts = subst (λ (w : WorldState). CutsOf s.node w.fresh) (sym (told_last s.outbox.sides side u)) x;
    desks = c.desks;
    kept = λ p b l. subst (λ (w : WorldState). Has w.places p (H p)) (sym (told_last s.outbox.sides side u)) (f (told_all 0 s.outbox.sides u) p b l (c.kept p b l));
    own = c.own;
  }

  pub side_more : (s : Scene) (side : Side) → Leaves s side → Quiet side → Open s → Open (scene s.node (with_side s.outbox side))
  side_more s side f q c = side_with s side f (λ ms i n e. c.cuts ms i n (sym (q (told_all 0 s.outbox.sides u) ms i n) ∙ e)) c

  -- a login leaves that is none of those
  abbrev pub Apart : Scene → ℕ → Type 0
  Apart s id = (p : ℕ) → p < 8 → Listing s.node p → (H p).login ≡ id → ⊥

  left_more : (s : Scene) (id : ℕ) → Apart s id → Open s → Open (scene s.node (with_side s.outbox (sides.Left id)))
  unfolding told
  left_more s id f c = side_more s (sides.Left id) (λ w p b l h. left_keeps w.places id p (H p) (f p b l) h) (λ w ms i n. refl) c

  pub expired_more : (s : Scene) (id : ℕ) → Apart s id → Open s → Open (scene s.node (with_side s.outbox (sides.Expired id)))
  unfolding told
  expired_more s id f c = side_more s (sides.Expired id) (λ w p b l h. left_keeps w.places id p (H p) (f p b l) h) (λ w ms i n. refl) c

  -- another desk
  pub desk_more : (s : Scene) (k : ℕ) (d : Desk) → (is_up d.agent ≡ true → Listing s.node k) → Open s → Open (scene (with_desk s.node k d) s.outbox)
  desk_more s k d f c = fewer s (scene (with_desk s.node k d) s.outbox) (length-set s.node.desks k d) (λ p l. set_less s.node.desks k p d f l) refl c

  -- ---- the IDs of logins
  pub held_apart : (p place id : ℕ) → OwnsLogin (B p) logins (H p) p → HasHeld logins place id → (H p).login ≡ id → ⊥
  held_apart p place id o h e = by (nat_eq p place) refl
    where
      by : (b : Bool) → nat_eq p place ≡ b → ⊥
      by true q =
          let same : p ≡ place = grind (arith, nat_tests) in
          let both : Some o.login ≡ Some h.login = sym o.is ∙ ap (place_at logins) same ∙ h.is in
          let one : o.login ≡ h.login = cc in
          false≢true (sym h.old ∙ sym (ap is_live one) ∙ o.live)
      by false q =
          let other : p ≢ place = λ same. false≢true (sym q ∙ (let yes : nat_eq p place ≡ true = grind (arith, nat_tests) in yes)) in
          (sound.apart p place o.login h.login other o.is h.is).ids (sym o.id_is ∙ e ∙ sym h.id_is)

  other_apart : (p place id : ℕ) → p ≢ place → OwnsLogin (B p) logins (H p) p → HasId logins place id → (H p).login ≡ id → ⊥
  other_apart p place id other o h e = (sound.apart p place o.login h.login other o.is h.is).ids (sym o.id_is ∙ e ∙ sym h.id_is)

  -- ---- cuts
  listless : (m : Machine) → is_up (reset_step m) ≡ true → ⊥
  listless m e = false≢true (sym (reset_none m) ∙ e)

  -- the agent that is cut has no list
  cut_none : (cause : CutCause) (place : ℕ) (s : Scene) → length s.node.desks ≡ 8 → place < 8 → Listing (cut cause place s).node place → ⊥
  unfolding cut
  cut_none cause place s size b e =
      let x : desk_at (cut_node place s.node) place ≡ reset_desk (desk_at s.node place) = set_here (record s.node { layer = (cut_node place s.node).layer }) place (reset_desk (desk_at s.node place)) (omega (arith, size)) in
      listless (Here s.node place) (sym (ap (λ (d : Desk). is_up d.agent) x) ∙ e)

  -- a place has a list, and so it is one of the eight
  far_none : (desks : List Desk) (k : ℕ) → is_up (slice_index_or desks k new_desk).agent ≡ true → k < length desks
  far_none [] k e = absurd (false≢true e)
  far_none (d ∷ desks) zero e = omega arith
  far_none (d ∷ desks) (suc k) e = let x = far_none desks k e in omega (arith, x)

  told_cuts : (b : Bool) (place : ℕ) (cause : CutCause) (s : Scene) (now : NodeState) → is_reset (state_in (Here s.node place).phase) ≡ b → (place < 8 → Listing now place → ⊥) → Open s → Open (scene now s.outbox) → Open (scene now (told_cut b place cause s.outbox))
  unfolding told
  told_cuts true place cause s now e over k c = c
  told_cuts false place cause s now e over k c =
      let l : Listing s.node place = ap not e in
      let far = far_none s.node.desks place l in
      let size = k.desks in
      let b : place < 8 = omega arith in
      let w = told_all 0 s.outbox.sides u in
      let is : holder_at w.places place ≡ H place = ap or_nobody (k.kept place b l) in
      side_with (scene now s.outbox) (sides.Cut place cause) (λ w p b l h. h)
      (λ ms i n x. cut_by place cause now b (k.own place b l) (over b) w ms i n is (cut_noted (holder_at w.places place).list cause (map said w.fresh ++ ms) (holder_at w.places place).initiator i n x) (c.cuts ms i n)) c
    where
      cut_by : (place : ℕ) (cause : CutCause) (now : NodeState) → place < 8 → OwnsLogin (B place) logins (H place) place → (Listing now place → ⊥) → (w : WorldState) (ms : List Moment) (i n : ℕ) → holder_at w.places place ≡ H place → (was_cut (map said w.fresh ++ ms) i n ≡ true) ⊎ (((holder_at w.places place).initiator ≡ i) × ((holder_at w.places place).list ≡ Some n)) → (was_cut (map said w.fresh ++ ms) i n ≡ true → (was_cut (map said u.fresh ++ ms) i n ≡ true) ⊎ CutAt now i n) → (was_cut (map said u.fresh ++ ms) i n ≡ true) ⊎ CutAt now i n
      cut_by place cause now b o over w ms i n is (inl e) f = f e
      cut_by place cause now b o over w ms i n is (inr (x, y)) f =
          inr (record { place = place; small = b; from_is = ap (λ (h : Holder). h.initiator) (sym is) ∙ x; list_is = ap (λ (h : Holder). h.list) (sym is) ∙ y; own = o; over = over })

  pub cuts_one : (cause : CutCause) (place : ℕ) (s : Scene) → Open s → Open (cut cause place s)
  unfolding cut
  cuts_one cause place s c =
      let d = reset_desk (desk_at s.node place) in
      let one = desk_more s place d (λ e. absurd (listless (Here s.node place) e)) c in
      told_cuts (is_reset (state_in (desk_at s.node place).agent.phase)) place cause s (cut_node place s.node) refl (λ b l. cut_none cause place s c.desks b l) c
      (same_desks (scene (with_desk s.node place d) s.outbox) (cut_node place s.node) s.outbox refl refl one)

  pick : (b : Bool) (s t : Scene) → Open s → Open t → Open (cond b s t)
  pick true s t c e = c
  pick false s t c e = e

  cuts_if : (cause : CutCause) (unit : Option ℕ) (place : ℕ) (s : Scene) → Open s → Open (cut_at cause unit place s)
  unfolding cut_at
  cuts_if cause unit place s c = pick (is_cut unit (login_at s.node place)) (cut cause place s) s (cuts_one cause place s c) c

  pub cuts_from : (left place : ℕ) (cause : CutCause) (unit : Option ℕ) (s : Scene) → Open s → Open (cut_from left place cause unit s)
  unfolding cut_from
  cuts_from zero place cause unit s c = c
  cuts_from (suc left) place cause unit s c = cuts_from left (place + 1) cause unit (cut_at cause unit place s) (cuts_if cause unit place s c)

  cuts_placed : (place : Option ℕ) (cause : CutCause) (s : Scene) → Open s → Open (cut_placed place cause s)
  cuts_placed None cause s c = c
  cuts_placed (Some place) cause s c = cuts_one cause place s c

  -- ---- units
  clears : (unit : ℕ) (s : Scene) → Open s → Open (clear_unit unit s)
  unfolding clear_unit told
  clears unit s c =
      let t = scene (record s.node { units = (clear_unit unit s).node.units }) s.outbox in
      side_more t (sides.Cleared unit) (λ w p b l h. h) (λ w ms i n. refl) (same_desks s t.node s.outbox refl refl c)

  clears_from : (left unit : ℕ) (s : Scene) → Open s → Open (clear_from left unit s)
  unfolding clear_from
  clears_from zero unit s c = c
  clears_from (suc left) unit s c = clears_from left (unit + 1) (clear_unit unit s) (clears unit s c)

  -- ---- decisions
  tells_left : (replaced : Option ℕ) (s : Scene) → IsOld replaced logins → Open s → Open (scene s.node (tell_left replaced s.outbox))
  tells_left None s o c = c
  tells_left (Some id) s o c =
      left_more s id (λ p b l. held_apart p o.place id (c.own p b l) (record { login = o.login; is = o.is; id_is = o.id_is; old = o.old })) c

  pub tells_failed : (source : ℕ) (failed : Option FailCause) (s : Scene) → Open s → Open (scene s.node (tell_failed source failed s.outbox))
  unfolding told
  tells_failed source None s c = c
  tells_failed source (Some cause) s c = side_more s (sides.ManageFailed source cause) (λ w p b l h. h) (λ w ms i n. refl) c

  abbrev pub Old : Effect → Type 0
  Old (effects.Entered place replaced) = IsOld replaced logins
  Old effect = Unit {0}

  leaves : (place id : ℕ) (s : Scene) → HasId logins place id → Open s → Open (effect_by (effects.Left place) id s)
  leaves place id s h c =
      let size = sound.size in
      let inside = within logins place h.login h.is in
      let b : place < 8 = omega arith in
      let t = cut cuts.Logout place s in
      let k = cuts_one cuts.Logout place s c in
      let disabled_one : Open (scene (left_desk place t.node) t.outbox) = desk_more t place (record (desk_at t.node place) { is_enabled = false }) (λ e. e) k in
      let less : (p : ℕ) → Listing (left_desk place t.node) p → Listing t.node p = λ p l. set_less t.node.desks place p (record (desk_at t.node place) { is_enabled = false }) (λ e. e) l in
      subst (λ (x : Option ℕ). Open (scene (left_desk place (cut_placed x cuts.Logout s).node) (with_side (cut_placed x cuts.Logout s).outbox (sides.Left id)))) (sym (in_place place b))
      (left_more (scene (left_desk place t.node) t.outbox) id
      (λ p d l. other_apart p place id (λ same. cut_none cuts.Logout place s c.desks b (subst (λ j. Listing t.node j) same (less p l))) (disabled_one.own p d l) h) disabled_one)

  effects_by : (effect : Effect) (id : ℕ) (s : Scene) → Old effect → Frees effect id logins → Open s → Open (effect_by effect id s)
  unfolding told
  effects_by effects.Nothing id s o f c = c
  effects_by (effects.Entered place replaced) id s o f c =
      tells_left replaced (scene (fresh_desk place s.node) s.outbox) o (desk_more s place (record (desk_at s.node place) { pointer = None; is_enabled = false }) (λ e. e) c)
  effects_by (effects.Back place) id s o f c = side_more s (sides.Back id) (λ w p b l h. h) (λ w ms i n. refl) c
  effects_by (effects.Left place) id s o f c = leaves place id s f c
  effects_by (effects.Abort place orb) id s o f c = desk_more s place (record (desk_at s.node place) { agent = abort_step (desk_at s.node place).agent orb }) (abort_less (Here s.node place) orb) c
  effects_by (effects.AbortSet place) id s o f c = cuts_placed (place_in place) cuts.AbortSet s c
  effects_by (effects.UnitReset unit) id s o f c =
      let t = cut_all cuts.UnitReset (Some unit) s in
      let k = cuts_from 8 0 cuts.UnitReset (Some unit) s c in
      pick _ (clear_unit unit t) t (clears unit t k) k
  effects_by effects.TargetReset id s o f c =
      let t = cut_all cuts.TargetReset None s in clears_from (length t.node.units) 0 t (cuts_from 8 0 cuts.TargetReset None s c)

  -- where it is a reconnect, the login is held
  freed_held : (effect : Effect) (id : ℕ) → Frees effect id logins → IsBack effect → (place : ℕ) × HasHeld logins place id
  freed_held effects.Nothing id f b = absurd b
  freed_held (effects.Entered place replaced) id f b = absurd b
  freed_held (effects.Back place) id f b = (place, f)
  freed_held (effects.Left place) id f b = absurd b
  freed_held (effects.Abort place orb) id f b = absurd b
  freed_held (effects.AbortSet place) id f b = absurd b
  freed_held (effects.UnitReset unit) id f b = absurd b
  freed_held effects.TargetReset id f b = absurd b

  -- what is known of a step of the management agent
  pub record Known (effect : Effect) (d : Decision) : Type 0 where
    pub old : Old effect
    pub frees : Frees effect d.subject logins
    pub back : function_word d.function ≡ words.Reconnect → nat_eq d.status 0 ≡ true → IsBack effect

  pub decides : (d : Option Decision) (effect : Effect) (source : ℕ) (s : Scene) → ((one : Decision) → d ≡ Some one → Known effect one) → Open s → Open (decided_by d effect source s)
  unfolding decided_by told
  decides None effect source s k c = c
  decides (Some d) effect source s k c =
      let known = k d refl in
      let t = effect_by effect d.subject s in
      let o = effects_by effect d.subject s known.old known.frees c in
      side_more t (sides.Managed source d.function d.subject d.status d.login)
      (λ w p b l h. decided_keeps w.places d.status (function_word d.function) d.subject d.login _ p (H p) (λ r z e. let x = freed_held effect d.subject known.frees (known.back r z) in held_apart p x.0 d.subject (o.own p b l) x.1 e) h) (λ w ms i n. refl) o
