-- What the management of the target, its answers, the resets that it sees and the seconds leave of the places whose lists are open.
use Rattle.sbp_world.proofs.Words.Std.{arith, ◌≡◌, refl, sym, ap, subst, ◌<◌, ℕ, zero, suc, ◌+◌, Bool, true, false, cond, List, [], length, Option, Some, None, Result, Ok, Err, is_none, slice_index_or, Contains-get_or, false≢true}
use Rattle.sbp_world.proofs.Words.Wire.{Packet, header_in, Body, Asked, Layer, answering_step, asking_step, seeing_step, Holder}
use Rattle.sbp_world.proofs.Words.Target.{Login, IsSound, Table, expired_id, expired_ids, is_last, is_live, place_at, tick_step, Decision, Effect, ManagerStep, Busy, complete, conflict_error, Purpose, disabled, ask_manager, decided_by, failed_by, lose_operation, lost_in, manage, managed_in, managed_with, manager_asked, manager_body, manager_lost, manager_sent, with_manager, Scene, scene, after_reset, cleared_node, expired_from, held_from, reset_by, seen, tell_held, ticked, ticked_by, answer_step, answered_by, request_step, sent_by, with_side, answered, start, started_by, cut_all}
use Rattle.sbp_world.proofs.Words.Initiator.{Ask, Answer, NoLabel}
use Rattle.sbp_world.proofs.Words.World.{told, WorldState}
use Rattle.std.proofs.Math.ListN.{length-map}
use Rattle.login_table.proofs.Listed.{given_from}
use Rattle.mgmt_agent.specs.declared.decision.Effect.TheVariants as effects
use Rattle.mgmt_agent.specs.Machine as management
use Rattle.sbp_journal.specs.declared.cause.CutCause.TheVariants as cuts
use Rattle.sbp_journal.specs.declared.side.Side.TheVariants as sides
use Rattle.sbp_target.specs.declared.purpose.Purpose.TheVariants as purposes
use Rattle.sbp_world.proofs.Agents.Granting.{reply_brings}
use Rattle.sbp_world.proofs.Agents.Sparing.{Spares, reply_spares}
use Rattle.sbp_world.proofs.Lists.Frees.{HasHeld, reply_frees}
use Rattle.sbp_world.proofs.Lists.OpenCuts.{Known, Old, Open, cuts_from, decides, expired_more, fewer, held_apart, map_less, same_desks, side_more, tells_failed}

module _ (u : WorldState) (H : ℕ → Holder) (B : ℕ → Type 0) (table : Table) (sound : IsSound table.places) where
  abbrev K : Scene → Type 0
  K s = Open u H B table.places sound s

  -- ---- what the management asks for
  loses_by : (source : ℕ) (s : Scene) (r : ManagerStep × (management.Machine × Table)) → K s → K (manager_lost source s r)
  loses_by source s (step, (manager, now)) c =
      let t = scene (with_manager s.node (manager, now)) s.outbox in tells_failed u H B table.places sound source step.failed t (same_desks u H B table.places sound s t.node s.outbox refl refl c)

  loses_in : (source : Option ℕ) (s : Scene) → K s → K (lost_in source s)
  loses_in None s c = c
  loses_in (Some source) s c = loses_by source s (management.reply_step s.node.manager s.node.logins s.node.keys NoLabel) c

  loses : (s : Scene) → K s → K (lose_operation s)
  unfolding lose_operation
  loses s c = loses_in (management.source_in s.node.manager.operation) s c

  sends : (s : Scene) (peer : ℕ) (r : Option Asked × Layer Purpose) → K s → K (manager_sent s.node (sent_by r s.outbox peer))
  sends s peer (None, layer) c = let t = scene (record s.node { layer = layer }) s.outbox in loses t (same_desks u H B table.places sound s t.node s.outbox refl refl c)
  sends s peer (Some asked, layer) c = same_desks u H B table.places sound s (record s.node { layer = layer }) (sent_by (Some asked, layer) s.outbox peer).1.1 refl refl c

  asks_by : (body : Option Body) (source : ℕ) (s : Scene) → K s → K (manager_asked body source s)
  unfolding request_step
  asks_by None source s c = c
  asks_by (Some body) source s c = sends s source (asking_step s.node.layer source body purposes.Management) c

  asks : (source : ℕ) (ask : Ask) (s : Scene) → K s → K (ask_manager source ask s)
  unfolding ask_manager
  asks source ask s c = asks_by (manager_body ask s.node.manager.outgoing) source s c

  old_of : (effect : Effect) (now : Table) → Spares effect table now → Old u H B table.places sound effect
  old_of effects.Nothing now s = tt
  old_of (effects.Entered place replaced) now s = s.1
  old_of (effects.Back place) now s = tt
  old_of (effects.Left place) now s = tt
  old_of (effects.Abort place orb) now s = tt
  old_of (effects.AbortSet place) now s = tt
  old_of (effects.UnitReset unit) now s = tt
  old_of effects.TargetReset now s = tt

  abbrev AllKnown : ManagerStep → Type 0
  AllKnown step = (d : Decision) → step.decided ≡ Some d → Known u H B table.places sound step.effect d

  manages_with : (source : ℕ) (s : Scene) (r : ManagerStep × (management.Machine × Table)) → AllKnown r.0 → K s → K (managed_with source s r)
  manages_with source s (step, (manager, now)) k c =
      let t = scene (with_manager s.node (manager, now)) s.outbox in
      let x = decided_by step.decided step.effect source t in
      asks source step.ask (failed_by source step.failed x)
      (tells_failed u H B table.places sound source step.failed x (decides u H B table.places sound step.decided step.effect source t k (same_desks u H B table.places sound s t.node s.outbox refl refl c)))

  known : (m : management.Machine) (keys : List (List ℕ)) (answer : Answer) → AllKnown (management.reply_step m table keys answer).0
  known m keys answer d e =
      let r = management.reply_step m table keys answer in
      record {
        old = old_of r.0.effect r.1.1 (reply_spares table m keys answer);
        frees = reply_frees table m keys answer d e;
        back = (reply_brings m table keys answer d e).grants.reconnects;
      }

  manages_in : (source : Option ℕ) (answer : Answer) (s : Scene) → s.node.logins ≡ table → K s → K (managed_in source answer s)
  manages_in None answer s e c = c
  manages_in (Some source) answer s e c =
      let f = λ (t : Table). management.reply_step s.node.manager t s.node.keys answer in
      manages_with source s (f s.node.logins) (subst (λ (t : Table). AllKnown (f t).0) (sym e) (known s.node.manager s.node.keys answer)) c

  pub manages : (answer : Answer) (s : Scene) → s.node.logins ≡ table → K s → K (manage answer s)
  unfolding manage
  manages answer s e c = manages_in (management.source_in s.node.manager.operation) answer s e c

  -- ---- a request that is answered, and one that starts an operation
  pub answers : (request : Packet) (bytes : List ℕ) (rcode : ℕ) (given : List ℕ) (s : Scene) → K s → K (answered request bytes rcode given s)
  unfolding answer_step
  answers request bytes rcode given s c = by (answering_step s.node.layer request bytes rcode given)
    where
      by : (r : List ℕ × Layer Purpose) → K (scene (record s.node { layer = (answered_by r s.outbox (header_in request).source).0 }) (answered_by r s.outbox (header_in request).source).1)
      by (given_bytes, layer) = same_desks u H B table.places sound s (record s.node { layer = layer }) (answered_by (given_bytes, layer) s.outbox (header_in request).source).1 refl refl c

  starts_by : (source : ℕ) (request : Packet) (bytes : List ℕ) (r : Result Ask Busy × management.Machine) (s : Scene) → K s → K (started_by source request bytes r s)
  starts_by source request bytes (Ok ask, m) s c =
      let t = scene (record s.node { manager = m }) s.outbox in
      asks source ask (answered request bytes complete [] t) (answers request bytes complete [] t (same_desks u H B table.places sound s t.node s.outbox refl refl c))
  starts_by source request bytes (Err busy, m) s c =
      let t = scene (record s.node { manager = m }) s.outbox in answers request bytes conflict_error [] t (same_desks u H B table.places sound s t.node s.outbox refl refl c)

  pub starts : (orb : ℕ) (request : Packet) (bytes : List ℕ) (s : Scene) → K s → K (start orb request bytes s)
  unfolding start
  starts orb request bytes s c = starts_by (header_in request).source request bytes (management.start_step s.node.manager (header_in request).source orb) s c

  -- ---- a generation is seen
  holds_one : (login : Option Login) (s : Scene) → K s → K (scene s.node (tell_held login s.outbox))
  unfolding told
  holds_one None s c = c
  holds_one (Some login) s c = by (is_live login)
    where
      by : (b : Bool) → K (scene s.node (cond b (with_side s.outbox (sides.Held login.login)) s.outbox))
      by true = side_more u H B table.places sound s (sides.Held login.login) (λ w p b l h. h) (λ w ms i n. refl) c
      by false = c

  holds_from : (left place : ℕ) (places : List (Option Login)) (s : Scene) → K s → K (scene s.node (held_from left place places s.outbox))
  unfolding held_from
  holds_from zero place places s c = c
  holds_from (suc left) place places s c =
      holds_from left (place + 1) places (scene s.node (tell_held (place_at places place) s.outbox)) (holds_one (place_at places place) s c)

  sees_by : (r : Bool × Layer Purpose) (s : Scene) → K s → K (reset_by r s).1
  sees_by (false, layer) s c = same_desks u H B table.places sound s (record s.node { layer = layer }) s.outbox refl refl c
  sees_by (true, layer) s c =
      let t = scene (cleared_node layer s.node) s.outbox in
      let x = cut_all cuts.Reset None t in
      let k = cuts_from u H B table.places sound 8 0 cuts.Reset None t (same_desks u H B table.places sound s t.node s.outbox refl refl c) in
      let y = scene (after_reset x.node) x.outbox in
      holds_from 8 0 x.node.logins.places y (fewer u H B table.places sound x y (length-map x.node.desks disabled) (λ p l. map_less x.node.desks p l) refl k)

  pub sees : (generation id : ℕ) (s : Scene) → K s → K (seen generation id s).1
  unfolding seen
  sees generation id s c = sees_by (seeing_step s.node.layer generation id) s c

  -- ---- a second goes by: a login that expires is held
  abbrev Expires : ℕ → Type 0
  Expires id = (place : ℕ) × HasHeld table.places place id

  last_old : (login : Login) → is_last login.remaining ≡ true → is_live login ≡ false
  last_old login e = by login.remaining refl e
    where
      by : (left : Option ℕ) → login.remaining ≡ left → is_last left ≡ true → is_live login ≡ false
      by None q f = absurd (false≢true f)
      by (Some seconds) q f = ap is_none q

  held_at : (place id : ℕ) (x : Option Login) → place_at table.places place ≡ x → expired_id x ≡ Some id → HasHeld table.places place id
  held_at place id None e f = absurd (let z : None ≡ Some id = f in cc)
  held_at place id (Some login) e f = by (is_last login.remaining) refl f
    where
      by : (b : Bool) → is_last login.remaining ≡ b → cond b (Some login.login) None ≡ Some id → HasHeld table.places place id
      by true q g = record { login = login; is = e; id_is = (let z : login.login ≡ id = cc in z); old = last_old login q }
      by false q g = absurd (let z : None ≡ Some id = g in cc)

  expires : (at : ℕ) → at < length (expired_ids table.places) → Expires (slice_index_or (expired_ids table.places) at 0)
  expires at b =
      let g = given_from expired_id table.places (slice_index_or (expired_ids table.places) at 0) (Contains-get_or (expired_ids table.places) at 0 b) in
      (g.place, held_at g.place (slice_index_or (expired_ids table.places) at 0) (place_at table.places g.place) refl g.gives)

  expires_from : (left at : ℕ) (ids : List ℕ) (s : Scene) → ((k : ℕ) → k < left + at → Expires (slice_index_or ids k 0)) → K s → K (scene s.node (expired_from left at ids s.outbox))
  unfolding expired_from
  expires_from zero at ids s f c = c
  expires_from (suc left) at ids s f c =
      let x = f at (omega arith) in
      let id = slice_index_or ids at 0 in
      expires_from left (at + 1) ids (scene s.node (with_side s.outbox (sides.Expired id))) (λ k b. f k (omega (arith, b)))
      (expired_more u H B table.places sound s id (λ p b l e. held_apart u H B table.places sound p x.0 id (c.own p b l) x.1 e) c)

  pub ticks : (s : Scene) → s.node.logins ≡ table → K s → K (ticked s)
  unfolding ticked
  ticks s e c = subst (λ (t : Table). K (ticked_by (tick_step t) s)) (sym e) by
    where
      now : Table
      now = (tick_step table).1

      t : Scene
      t = scene (record s.node { logins = now }) s.outbox

      by : K (ticked_by (tick_step table) s)
      by = expires_from (length (expired_ids table.places)) 0 (expired_ids table.places) t (λ k b. expires k (omega (arith, b))) (same_desks u H B table.places sound s t.node s.outbox refl refl c)
