-- In each call of the target who has a place changes as its logins do.
use Rattle.sbp_world.proofs.Words.Std.{◌≡◌, ◌∙◌, refl, sym, ap, subst, ℕ, zero, suc, ◌+◌, nat_eq, is_some, Bool, true, false, cond, List, [], length, map, Option, Some, None, Result, Ok, Err, slice_index_or, get_or-map}
use Rattle.sbp_world.proofs.Words.Wire.{LabelParts, Packet, header_in, Stale, Finding, Layer, expiring_step, judging_step, of_again, of_generation, of_grammar, of_label, of_request, of_response, reply_kind, Topology, Judged, OutboxState, empty_outbox}
use Rattle.sbp_world.proofs.Words.Target.{Login, Table, held, is_live, place_at, tick_step, Busy, Disk, Told, Demand, demand_of, Purpose, alone, lets_expire, ticks, manage, managed_in, NodeState, Scene, scene, answer_in, cleared_node, concluded, expired, expired_from, expired_in, held_from, judged_scene, received, received_as, reset_by, tell_held, target_ticked, timed_out, with_layer, Whole, whole, with_side, answered, is_barred, serve, served_as, start, target_started, cut_all}
use Rattle.sbp_world.proofs.Words.Initiator.{Ask, Answer, Expired}
use Rattle.sbp_world.proofs.Words.Laws.{at_id, second_gone}
use Rattle.sbp_world.proofs.Words.World.{initiator_of, told, told_all, WorldState, demanded, lapsed, requested, Agrees, Office, by_sides, replied, started, started_by, ticked}
use Rattle.label_table.specs.History as wire
use Rattle.mgmt_agent.specs.Machine as management
use Rattle.sbp_journal.specs.declared.cause.CutCause.TheVariants as cuts
use Rattle.sbp_journal.specs.declared.cause.Judged.TheVariants as judgements
use Rattle.sbp_journal.specs.declared.cause.Cause.TheVariants as ignored
use Rattle.sbp_journal.specs.declared.side.Side.TheVariants as sides
use Rattle.target_base.specs.declared.address.Demand.TheVariants as demands
use Rattle.sbp_target.specs.declared.purpose.Purpose.TheVariants as purposes
use Rattle.sbp_target.specs.Serving.{request_step}
use Rattle.sbp_target.proofs.Histories.Calling.{Good}
use Rattle.sbp_target.proofs.Histories.Found.{IsFound, found}
use Rattle.sbp_target.proofs.Histories.Primitives.{Known, closing_known, expiring_known, live_on}
use Rattle.sbp_target.proofs.Histories.Seats.{Lives}
use Rattle.sbp_world.specs.Agents.Management.Calls.{delivered}
use Rattle.sbp_world.proofs.Agents.Management.Calls.{barred_same, from_self}
use Rattle.sbp_world.proofs.Agents.Management.Calm.{Calm, From, accesses_by, answers, cuts_all, expires_agent, replies}
use Rattle.sbp_world.proofs.Agents.Management.Managing.{quiet_says}
use Rattle.sbp_world.proofs.Agents.Management.Places.{AreApart, sound_apart}
use Rattle.sbp_world.proofs.Agents.Management.Sides.{sides_more}
use Rattle.sbp_world.proofs.Agents.Placed.{Placed, held_placed, left_placed, second_placed}
use Rattle.sbp_world.proofs.Agents.Telling.{IsTold, Of, all_quiet, asks_told, reply_told, told_more, told_snoc}

-- the source of the operation is an initiator's ID
abbrev pub IsOwned : Topology → NodeState → WorldState → Type 0
IsOwned topology node v = (source : ℕ) → management.source_in node.manager.operation ≡ Some source → Of topology (initiator_of v source) source

started_table : (o : Office) (r : Result Ask Busy × management.Machine) → (started_by r o).table ≡ o.table
started_table o (Err busy, m) = refl
started_table o (Ok ask, m) = refl

module _ (topology : Topology) (node : NodeState) (g : Good node) (o : Office) (a : Agrees o node) (v : WorldState) (logins : Placed (Of topology) node.logins.places v.places) where
  begins : Placed (Of topology) o.table.places v.places
  begins = subst (λ (t : Table). Placed (Of topology) t.places v.places) (sym a.table) logins

  apart : AreApart o.table.places
  apart = subst (λ (t : Table). AreApart t.places) (sym a.table) (sound_apart node.logins.places g.table.sound)

  from_same : (layer : Layer Purpose) → layer ≡ node.layer → From g.lives layer
  from_same layer same = from_self layer g.lives (subst (λ (l : Layer Purpose). Known l g.lives) (sym same) g.mid.known)

  calm_of : (layer : Layer Purpose) (lives : Lives) → From lives layer → Calm lives (record node { layer = layer }) (scene (record node { layer = layer }) empty_outbox)
  calm_of layer lives f = record { logins = refl; keys = refl; manager = refl; rom = refl; quiet = tt; from = f }

  still : IsTold topology o v []
  still = all_quiet topology o v [] tt begins

  -- ---- a second
  second_apart : AreApart (map second_gone o.table.places)
  second_apart = record {
    apart = λ i j x y n e f.
        let p = gone (place_at o.table.places i) x (sym (get_or-map second_gone o.table.places i None) ∙ e) in
        let q = gone (place_at o.table.places j) y (sym (get_or-map second_gone o.table.places j None) ∙ f) in
        λ same. apart.apart i j p.0 q.0 n p.1 q.1 (p.2 ∙ same ∙ sym q.2);
  }
    where
      gone : (x : Option Login) (login : Login) → second_gone x ≡ Some login → (own : Login) × (x ≡ Some own) × (own.login ≡ login.login)
      gone None login e = absurd (let z : None ≡ Some login = e in cc)
      gone (Some own) login e = (own, refl, ap (λ (y : Option Login). id_in y) e)
        where
          id_in : Option Login → ℕ
          id_in None = 0
          id_in (Some l) = l.login

  removed : (id : ℕ) (x : Option Login) (login : Login) → at_id id (λ own. None) x ≡ Some login → x ≡ Some login
  removed id None login e = e
  removed id (Some own) login e = by (nat_eq own.login id) e
    where
      by : (b : Bool) → cond b None (Some own) ≡ Some login → Some own ≡ Some login
      by true f = absurd (let z : None ≡ Some login = f in cc)
      by false f = f

  left_apart : (id : ℕ) (places : List (Option Login)) → AreApart places → AreApart (map (at_id id (λ own. None)) places)
  left_apart id places h = record {
    apart = λ i j x y n e f.
        h.apart i j x y n
        (removed id (place_at places i) x (sym (get_or-map (at_id id (λ own. None)) places i None) ∙ e))
        (removed id (place_at places j) y (sym (get_or-map (at_id id (λ own. None)) places j None) ∙ f));
  }

  expired_told : (left at : ℕ) (ids : List ℕ) (outbox : OutboxState) → AreApart (by_sides outbox.sides (ticked o)).table.places → IsTold topology (ticked o) v outbox.sides → IsTold topology (ticked o) v (expired_from left at ids outbox).sides
  unfolding expired_from told
  expired_told zero at ids outbox h p = p
  expired_told (suc left) at ids outbox h p =
      let id = slice_index_or ids at 0 in
      let now = by_sides outbox.sides (ticked o) in
      expired_told left (at + 1) ids (with_side outbox (sides.Expired id))
      (subst (λ (x : Office). AreApart x.table.places) (sym (sides_more outbox.sides (sides.Expired id) (ticked o))) (left_apart id now.table.places h))
      (told_more topology (ticked o) v outbox.sides (sides.Expired id) (left_placed (Of topology) now.table.places (told_all 0 outbox.sides v).places p id h))

  pub second_told : IsTold topology (ticked o) v (alone ticks node).outbox.sides
  unfolding target_ticked
  second_told =
      let ids = (tick_step node.logins).0 in
      expired_told (length ids) 0 ids empty_outbox second_apart (all_quiet topology (ticked o) v [] tt (second_placed (Of topology) o.table.places v.places begins))

  -- ---- a sight of a later generation: each live login is held
  held_one : (x : Option Login) (outbox : OutboxState) → Placed (Of topology) node.logins.places (told_all 0 outbox.sides v).places → Placed (Of topology) node.logins.places (told_all 0 (tell_held x outbox).sides v).places
  unfolding told
  held_one None outbox p = p
  held_one (Some login) outbox p = by (is_live login)
    where
      by : (b : Bool) → Placed (Of topology) node.logins.places (told_all 0 (cond b (with_side outbox (sides.Held login.login)) outbox).sides v).places
      by true = subst (λ (w : WorldState). Placed (Of topology) node.logins.places w.places) (sym (told_snoc outbox.sides (sides.Held login.login) v)) p
      by false = p

  held_told : (left place : ℕ) (places : List (Option Login)) (outbox : OutboxState) → Placed (Of topology) node.logins.places (told_all 0 outbox.sides v).places → Placed (Of topology) node.logins.places (told_all 0 (held_from left place places outbox).sides v).places
  unfolding held_from
  held_told zero place places outbox p = p
  held_told (suc left) place places outbox p = held_told left (place + 1) places (tell_held (place_at places place) outbox) (held_one (place_at places place) outbox p)

  pub sight_told : (Now : Topology) (layer : Layer Purpose) → From g.lives layer → (let s = (reset_by (true, layer) (scene node empty_outbox)).1 in Placed (Of Now) s.node.logins.places (told_all 0 s.outbox.sides v).places)
  sight_told Now layer f =
      let cleared = cleared_node layer node in
      let t = cut_all cuts.Reset None (scene cleared empty_outbox) in
      let c = cuts_all g.lives cleared cuts.Reset None (scene cleared empty_outbox) (record { logins = refl; keys = refl; manager = refl; rom = refl; quiet = tt; from = f }) in
      let last = (held_from 8 0 t.node.logins.places t.outbox).sides in
      let said = (quiet_says t.outbox.sides o c.quiet).is in
      let own : Placed (Of topology) o.table.places (told_all 0 t.outbox.sides v).places = subst (λ (x : Office). Placed (Of topology) x.table.places (told_all 0 t.outbox.sides v).places) said (all_quiet topology o v t.outbox.sides c.quiet begins) in
      let begun : Placed (Of topology) node.logins.places (told_all 0 t.outbox.sides v).places = subst (λ (x : Table). Placed (Of topology) x.places (told_all 0 t.outbox.sides v).places) a.table own in
      let p = held_told 8 0 t.node.logins.places t.outbox begun in
      subst (λ (x : Table). Placed (Of Now) (map held x.places) (told_all 0 last v).places) (sym c.logins) (held_placed (Of topology) (Of Now) node.logins.places (told_all 0 last v).places p)

  module _ (owned : IsOwned topology node v) where
    -- ---- the management operation
    manager_told : (answer : Answer) (layer : Layer Purpose) (lives : Lives) → From lives layer → IsTold topology (replied answer o) v (manage answer (scene (record node { layer = layer }) empty_outbox)).outbox.sides
    unfolding manage
    manager_told answer layer lives f = by (management.source_in node.manager.operation) refl
      where
        by : (source : Option ℕ) → management.source_in node.manager.operation ≡ source → IsTold topology (replied answer o) v (managed_in source answer (scene (record node { layer = layer }) empty_outbox)).outbox.sides
        by None e = all_quiet topology (replied answer o) v [] tt begins
        by (Some source) e =
            reply_told topology (record node { layer = layer }) lives f o (record { table = a.table; keys = a.keys; manager = a.manager }) v apart begins answer source (owned source e) e

    -- ---- a response

    concluded_told : (run : Option Told) (peer : ℕ) (label : LabelParts) (p : Packet) (disks : List Disk) (layer : Layer Purpose) (lives : Lives) → From lives layer → (purpose : Option Purpose) → IsTold topology (delivered (of_response p label purpose) node o) v (concluded run purpose peer label (answer_in p) (whole (scene (record node { layer = layer }) empty_outbox) disks)).outbox.sides
    unfolding concluded
    concluded_told run peer label p disks layer lives f None = still
    concluded_told run peer label p disks layer lives f (Some (purposes.Agent place)) =
        all_quiet topology o v _ (replies lives (record node { layer = layer }) run place peer label (answer_in p) (whole (scene (record node { layer = layer }) empty_outbox) disks) (calm_of layer lives f)).quiet begins
    concluded_told run peer label p disks layer lives f (Some purposes.Management) = manager_told (answer_in p) layer lives f
    concluded_told run peer label p disks layer lives f (Some purposes.Unsolicited) = still

    -- ---- a request
    module _ (p : Packet) (bytes : List ℕ) (layer : Layer Purpose) (same : layer ≡ node.layer) where
      abbrev begun : Scene
      begun = scene (record node { layer = layer }) empty_outbox

      calm : Calm g.lives (record node { layer = layer }) begun
      calm = calm_of layer g.lives (from_same layer same)

      answer_told : (rcode : ℕ) (given : List ℕ) → IsTold topology o v (answered p bytes rcode given begun).outbox.sides
      answer_told rcode given = all_quiet topology o v _ (answers g.lives (record node { layer = layer }) p bytes rcode given begun calm).quiet begins

      start_as : (first : Office) → Placed (Of topology) first.table.places v.places → (r : Result Ask Busy × management.Machine) → IsTold topology first v (target_started (header_in p).source p bytes r begun).outbox.sides
      start_as first q (Ok ask, m) =
          let n = record (record node { layer = layer }) { manager = m } in
          let s = answered p bytes 0 [] (scene n empty_outbox) in
          asks_told topology first v (header_in p).source ask s
          (all_quiet topology first v s.outbox.sides (answers g.lives n p bytes 0 [] (scene n empty_outbox) (record { logins = refl; keys = refl; manager = refl; rom = refl; quiet = tt; from = from_same layer same })).quiet q)
      start_as first q (Err busy, m) =
          let n = record (record node { layer = layer }) { manager = m } in
          all_quiet topology first v _ (answers g.lives n p bytes 4 [] (scene n empty_outbox) (record { logins = refl; keys = refl; manager = refl; rom = refl; quiet = tt; from = from_same layer same })).quiet q

      start_told : (orb : ℕ) → IsTold topology (started (header_in p).source orb o) v (start orb p bytes begun).outbox.sides
      unfolding start
      start_told orb =
          start_as (started (header_in p).source orb o) (subst (λ (t : Table). Placed (Of topology) t.places v.places) (sym (started_table o (management.start_step o.manager (header_in p).source orb))) begins)
          (management.start_step node.manager (header_in p).source orb)

      demand_told : (demand : Demand) → IsTold topology (demanded demand (header_in p).source o) v (served_as demand p bytes begun).outbox.sides
      demand_told (demands.Refused rcode) = answer_told rcode []
      demand_told (demands.Rom at len) = answer_told 0 _
      demand_told (demands.Manage orb) = start_told orb
      demand_told (demands.Agent place access) = all_quiet topology o v _ (accesses_by g.lives (record node { layer = layer }) access place p bytes begun calm).quiet begins

      request_if : (b : Bool) (x y : Judged) → IsTold topology (requested b p node o) v (cond {A = Judged × Scene} b (x, answered p bytes 7 [] begun) (y, serve p bytes begun)).1.outbox.sides
      unfolding serve
      request_if true x y = answer_told 7 []
      request_if false x y = demand_told (demand_of (length node.rom) p)

      request_told : IsTold topology (requested (is_barred node p) p node o) v (request_step p bytes begun).1.outbox.sides
      unfolding request_step
      request_told =
          subst (λ (b : Bool). IsTold topology (requested (is_barred node p) p node o) v (cond {A = Judged × Scene} b (judgements.Ignored ignored.Login, answered p bytes 7 [] begun) (judgements.Got, serve p bytes begun)).1.outbox.sides) (sym (barred_same node g o a p bytes layer same))
          (request_if (is_barred node p) (judgements.Ignored ignored.Login) judgements.Got)

    as_judged : (first : Office) (r : Judged × Scene) (w : Whole) → IsTold topology first v r.1.outbox.sides → IsTold topology first v (judged_scene r w).1.outbox.sides
    as_judged first (judged, s) w p = p

    module _ (run : Option Told) (disks : List Disk) (generation : ℕ) (bytes : List ℕ) where
      response_told : (p : Packet) (label : LabelParts) (purpose : Option Purpose) (layer : Layer Purpose) → judging_step node.layer generation bytes ≡ (of_response p label purpose, layer) → is_some (reply_kind p) ≡ true → IsTold topology (delivered (of_response p label purpose) node o) v (concluded run purpose (header_in p).source label (answer_in p) (whole (scene (record node { layer = layer }) empty_outbox) disks)).outbox.sides
      response_told p label purpose layer e kind =
          let c = closing_known node.layer layer g.lives generation bytes p label purpose g.mid.known e kind in
          let lives = live_on (wire.closed (header_in p).source label c.kind purpose) g.lives in
          concluded_told run (header_in p).source label p disks layer lives (from_self layer lives c.known) purpose

      found_told : (f : Finding Purpose) (layer : Layer Purpose) → judging_step node.layer generation bytes ≡ (f, layer) → IsFound f node.layer layer bytes → IsTold topology (delivered f node o) v (received_as run bytes f (with_layer layer (whole (scene node empty_outbox) disks))).1.outbox.sides
      found_told of_generation layer e f = still
      found_told of_grammar layer e f = still
      found_told of_label layer e f = still
      found_told (of_response p label purpose) layer e f = response_told p label purpose layer e f.kind
      found_told (of_again p rcode) layer e f = answer_told p bytes layer f.0 rcode []
      found_told (of_request p) layer e f =
          as_judged (requested (is_barred node p) p node o) (request_step p bytes (scene (record node { layer = layer }) empty_outbox)) (with_layer layer (whole (scene node empty_outbox) disks)) (request_told p bytes layer f.0)

      pub delivery_told : IsTold topology (delivered (judging_step node.layer generation bytes).0 node o) v (received run generation bytes (whole (scene node empty_outbox) disks)).1.outbox.sides
      unfolding received
      delivery_told = found_told (judging_step node.layer generation bytes).0 (judging_step node.layer generation bytes).1 refl (found node.layer generation bytes)

    -- ---- a time-out
    lapse_for : (peer : ℕ) (label : LabelParts) (layer : Layer Purpose) (lives : Lives) → From lives layer → (purpose : Option Purpose) → IsTold topology (lapsed (Ok purpose) o) v (timed_out purpose peer label (scene (record node { layer = layer }) empty_outbox)).outbox.sides
    lapse_for peer label layer lives f None = still
    lapse_for peer label layer lives f (Some (purposes.Agent place)) =
        all_quiet topology o v _ (expires_agent lives (record node { layer = layer }) place peer label (scene (record node { layer = layer }) empty_outbox) (calm_of layer lives f)).quiet begins
    lapse_for peer label layer lives f (Some purposes.Management) = manager_told Expired layer lives f
    lapse_for peer label layer lives f (Some purposes.Unsolicited) = still

    lapse_by : (r : Result (Option Purpose) Stale × Layer Purpose) (peer : ℕ) (label : LabelParts) → expiring_step node.layer peer label ≡ r → IsTold topology (lapsed r.0 o) v (expired_in r peer label (scene node empty_outbox)).1.outbox.sides
    lapse_by (Ok purpose, layer) peer label e =
        let x = expiring_known node.layer layer g.lives peer label purpose g.mid.known e in
        let lives = live_on (wire.expired peer label purpose) g.lives in
        lapse_for peer label layer lives (from_self layer lives x.known) purpose
    lapse_by (Err stale, layer) peer label e = still

    pub lapse_told : (peer : ℕ) (label : LabelParts) → IsTold topology (lapsed (expiring_step node.layer peer label).0 o) v (alone (lets_expire peer label) node).outbox.sides
    unfolding expired
    lapse_told peer label = lapse_by (expiring_step node.layer peer label) peer label refl
