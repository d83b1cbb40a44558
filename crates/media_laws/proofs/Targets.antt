-- Each call of the target changes the logins and the media as what it tells says.
use Rattle.std.proofs.Common.{◌≡◌, ◌∙◌, refl, sym, ap, subst, ℕ, zero, suc, ◌+◌, ◌<◌, Bool, true, false, cond, List, [], ◌∷◌, length, get_or, Option, Some, None, Result, Ok, Err, arith}
use Rattle.std.specs.Prelude.{slice_index_or}
use Rattle.std.proofs.lemmas.List.{length-map}
use Rattle.async_packet.specs.Labels.{LabelParts}
use Rattle.async_packet.specs.Packet.{Packet, header_in}
use Rattle.label_table.specs.declared.reply.Stale.{Stale}
use Rattle.label_table.specs.Bodies.{Body}
use Rattle.label_table.specs.Layer.{Layer, expiring_step, seeing_step}
use Rattle.login_table.specs.declared.login.Login.{Login}
use Rattle.login_table.specs.Sound.{IsTable}
use Rattle.login_table.specs.Table.{Table, expired_ids, hold_step, is_live, place_at, tick_step}
use Rattle.login_table.proofs.Kept.{hold_kept, tick_kept}
use Rattle.orb_layout.specs.declared.ask.Ask.{Ask}
use Rattle.orb_layout.specs.declared.ask.FailCause.{FailCause}
use Rattle.orb_layout.specs.declared.ask.FailCause.TheVariants as causes
use Rattle.orb_layout.specs.declared.pointer.OrbPointer.{OrbPointer}
use Rattle.orb_layout.specs.Replies.{Answer, Expired, NoLabel}
use Rattle.rbc_disk.specs.Held.{Held}
use Rattle.command_agent.specs.declared.step.AgentStep.{AgentStep}
use Rattle.command_agent.specs.declared.step.PointRefusal.{PointRefusal}
use Rattle.command_agent.specs.declared.step.Which.{Which}
use Rattle.command_agent.specs.Machine.{Machine}
use Rattle.command_agent.specs.Steps.{asks, doorbell_step}
use Rattle.mgmt_agent.specs.declared.decision.Decision.{Decision}
use Rattle.mgmt_agent.specs.declared.decision.Effect.{Effect}
use Rattle.mgmt_agent.specs.declared.decision.Effect.TheVariants as effects
use Rattle.mgmt_agent.specs.declared.decision.ManagerStep.{ManagerStep}
use Rattle.mgmt_agent.specs.declared.operation.Busy.{Busy}
use Rattle.mgmt_agent.specs.Machine as management
use Rattle.sbp_journal.specs.declared.cause.CutCause.TheVariants as cuts
use Rattle.sbp_journal.specs.declared.cause.Judged.{Judged}
use Rattle.sbp_journal.specs.declared.side.Side.TheVariants as sides
use Rattle.sbp_journal.specs.Outgoings.{OutboxState}
use Rattle.target_base.specs.declared.address.Access.{Access}
use Rattle.target_base.specs.declared.address.Access.TheVariants as accesses
use Rattle.target_base.specs.declared.address.Demand.{Demand}
use Rattle.target_base.specs.declared.address.Demand.TheVariants as demands
use Rattle.sbp_target.specs.declared.desk.Desk.{Desk}
use Rattle.sbp_target.specs.declared.purpose.Purpose.{Purpose}
use Rattle.sbp_target.specs.declared.purpose.Purpose.TheVariants as purposes
use Rattle.target_base.specs.Addresses.{demand_of}
use Rattle.sbp_target.specs.Agents.{cut}
use Rattle.sbp_target.specs.Desks.{disabled, expired_desk, point_desk, which_in}
use Rattle.sbp_target.specs.Management.{ask_manager, cut_placed, decided_by, effect_by, lose_operation, lost_in, manage, managed_in, managed_with, manager_asked, manager_body, manager_lost, manager_sent, place_in, tell_failed, tell_left, with_manager}
use Rattle.sbp_target.specs.Nodes.{NodeState, Scene, desk_at, login_at, scene, with_agent, with_desk}
use Rattle.sbp_target.specs.Receiving.{cleared_node, expire_agent, expired, expired_by, expired_from, expired_in, expired_with, held_from, reset_by, seen, tell_held, ticked, ticked_by, timed_out}
use Rattle.sbp_target.specs.Sending.{request_step, with_side}
use Rattle.sbp_target.specs.Serving.{accessed_by, answered, asked_in, enabled, is_barred, point, pointed_by, request_step as served_step, ring, rung_by, serve, served_as, start, started_by}
use Rattle.sbp_target.specs.Telling.{orb_of}
use Rattle.sbp_target.specs.Units.{cut_all}
use Rattle.media_laws.proofs.Decisions.{after_decision, effect_seats, reply_keeps, reply_tells}
use Rattle.media_laws.proofs.Following.{Fits, In, Is, answers, clears_from, clears_one, cuts_all, cuts_at, cuts_placed, fits_desk, follows, lost_runs, quiet_tells, requests, tells}
use Rattle.media_laws.proofs.Ledgers.{Ledger, after_sides, ledger}
use Rattle.media_laws.proofs.Seats.{Seat, without}
use Rattle.media_laws.proofs.Tables.{left_seats, logins_held, seats_of}
use Rattle.media_laws.proofs.Ticks.{after_expired, logins_tick}
use Rattle.sbp_target.proofs.Histories.Views.{lost_logins}

-- What was told since makes of the logins and the media at first those of now.
pub record Tracks (first : Ledger) (media : Held) (s : Scene) : Type 0 where
  pub told : after_sides s.outbox.sides first ≡ ledger (seats_of s.node.logins.places) media
  pub sound : IsTable s.node.logins
  pub desks : length s.node.desks ≡ 8

abbrev pub ledger_of : Table → Held → Ledger
ledger_of table media = ledger (seats_of table.places) media

pub tracks_in : (first : Ledger) (media : Held) (table : Table) (s : Scene) → In first (ledger_of table media) table s → IsTable table → Tracks first media s
tracks_in first media table s h t = record {
  told = h.told ∙ ap (λ x. ledger_of x media) (sym h.fits.logins);
  sound = subst IsTable (sym h.fits.logins) t;
  desks = h.fits.desks;
}

-- ---- the effects of a decision

left_tells : (first l : Ledger) (x : Option ℕ) (o : OutboxState) → Is first l o → Is first (ledger (left_seats x l.seats) l.media) (tell_left x o)
left_tells first l None o h = h
left_tells first l (Some login) o h = tells first l (sides.Left login) o h

affects : (first l : Ledger) (table : Table) (effect : Effect) (login : ℕ) (s : Scene) → In first l table s → In first (ledger (effect_seats effect login l.seats) l.media) table (effect_by effect login s)
affects first l table effects.Nothing login s h = h
affects first l table (effects.Entered place replaced) login s h = record {
  told = left_tells first l replaced s.outbox h.told;
  fits = fits_desk table s.node place _ h.fits;
}
affects first l table (effects.Back place) login s h = record { told = tells first l (sides.Back login) s.outbox h.told; fits = h.fits }
affects first l table (effects.Left place) login s h =
    let t = cut_placed (place_in place) cuts.Logout s in
    let i = cuts_placed first l table (place_in place) cuts.Logout s h in
    record { told = tells first l (sides.Left login) t.outbox i.told; fits = fits_desk table t.node place _ i.fits }
affects first l table (effects.Abort place orb) login s h = record { told = h.told; fits = fits_desk table s.node place _ h.fits }
affects first l table (effects.AbortSet place) login s h = cuts_placed first l table (place_in place) cuts.AbortSet s h
affects first l table (effects.UnitReset unit) login s h =
    clears_one first l table unit (cut_all cuts.UnitReset (Some unit) s) (cuts_all first l table cuts.UnitReset (Some unit) s h)
affects first l table effects.TargetReset login s h =
    let t = cut_all cuts.TargetReset None s in
    clears_from first l table (length t.node.units) 0 t (cuts_all first l table cuts.TargetReset None s h)

decides : (first l : Ledger) (table : Table) (d : Option Decision) (effect : Effect) (source : ℕ) (s : Scene) → In first l table s → In first (ledger (after_decision d effect l.seats) l.media) table (decided_by d effect source s)
unfolding decided_by
decides first l table None effect source s h = h
decides first l table (Some d) effect source s h =
    let t = effect_by effect d.subject s in
    let i = affects first l table effect d.subject s h in
    record { told = tells first (ledger (effect_seats effect d.subject l.seats) l.media) (sides.Managed source d.function d.subject d.status d.login) t.outbox i.told; fits = i.fits }

-- ---- the management agent

failed_tells : (first l : Ledger) (source : ℕ) (x : Option FailCause) (o : OutboxState) → Is first l o → Is first l (tell_failed source x o)
failed_tells first l source None o h = h
failed_tells first l source (Some cause) o h = tells first l (sides.ManageFailed source cause) o h

-- a request that finds no label
lost_with : (first l : Ledger) (table : Table) (source : ℕ) (s : Scene) (r : ManagerStep × (management.Machine × Table)) → r.1.1 ≡ table → In first l table s → In first l table (manager_lost source s r)
lost_with first l table source s (step, (m, now)) e h = record { told = failed_tells first l source step.failed s.outbox h.told; fits = record { logins = e; desks = h.fits.desks } }

loses_in : (first l : Ledger) (table : Table) (source : Option ℕ) (s : Scene) → In first l table s → In first l table (lost_in source s)
loses_in first l table None s h = h
loses_in first l table (Some source) s h =
    lost_with first l table source s (management.reply_step s.node.manager s.node.logins s.node.keys NoLabel) (lost_logins s.node.manager s.node.logins s.node.keys ∙ h.fits.logins) h

loses_operation : (first l : Ledger) (table : Table) (s : Scene) → In first l table s → In first l table (lose_operation s)
unfolding lose_operation
loses_operation first l table s h = loses_in first l table (management.source_in s.node.manager.operation) s h

manager_leaves : (first l : Ledger) (table : Table) (node : NodeState) (r : Option LabelParts × (Layer Purpose × OutboxState)) → Is first l r.1.1 → Fits table node → In first l table (manager_sent node r)
manager_leaves first l table node (Some label, (layer, outbox)) h f = record { told = h; fits = record { logins = f.logins; desks = f.desks } }
manager_leaves first l table node (None, (layer, outbox)) h f =
    loses_operation first l table (scene (record node { layer = layer }) outbox) (record { told = h; fits = record { logins = f.logins; desks = f.desks } })

manager_asks : (first l : Ledger) (table : Table) (body : Option Body) (source : ℕ) (s : Scene) → In first l table s → In first l table (manager_asked body source s)
manager_asks first l table None source s h = h
manager_asks first l table (Some body) source s h =
    manager_leaves first l table s.node (request_step s.node.layer s.outbox source body purposes.Management) (requests first l table s.node.layer s.outbox source body purposes.Management h.told) h.fits

asks_manager : (first l : Ledger) (table : Table) (source : ℕ) (ask : Ask) (s : Scene) → In first l table s → In first l table (ask_manager source ask s)
unfolding ask_manager
asks_manager first l table source ask s h = manager_asks first l table (manager_body ask s.node.manager.outgoing) source s h

manages_with : (first : Ledger) (media : Held) (source : ℕ) (s : Scene) (r : ManagerStep × (management.Machine × Table)) → after_sides s.outbox.sides first ≡ ledger_of s.node.logins media → length s.node.desks ≡ 8
    → after_decision r.0.decided r.0.effect (seats_of s.node.logins.places) ≡ seats_of r.1.1.places → IsTable r.1.1 → Tracks first media (managed_with source s r)
manages_with first media source s (step, (m, now)) h d e t =
    let begun : In first (ledger_of s.node.logins media) now (scene (with_manager s.node (m, now)) s.outbox) = record { told = h; fits = record { logins = refl; desks = d } } in
    let l = ledger (after_decision step.decided step.effect (seats_of s.node.logins.places)) media in
    let u = decided_by step.decided step.effect source (scene (with_manager s.node (m, now)) s.outbox) in
    let i : In first l now u = decides first (ledger_of s.node.logins media) now step.decided step.effect source (scene (with_manager s.node (m, now)) s.outbox) begun in
    let j : In first l now (scene u.node (tell_failed source step.failed u.outbox)) = record { told = failed_tells first l source step.failed u.outbox i.told; fits = i.fits } in
    let k = asks_manager first l now source step.ask (scene u.node (tell_failed source step.failed u.outbox)) j in
    tracks_in first media now (managed_with source s (step, (m, now))) (subst (λ seats. In first (ledger seats media) now (managed_with source s (step, (m, now)))) e k) t

manages_in : (first : Ledger) (media : Held) (source : Option ℕ) (answer : Answer) (s : Scene) → Tracks first media s → Tracks first media (managed_in source answer s)
manages_in first media None answer s h = h
manages_in first media (Some source) answer s h =
    manages_with first media source s (management.reply_step s.node.manager s.node.logins s.node.keys answer) h.told h.desks
    (reply_tells s.node.manager s.node.logins s.node.keys answer h.sound) (reply_keeps s.node.manager s.node.logins s.node.keys answer h.sound)

pub manages : (first : Ledger) (media : Held) (answer : Answer) (s : Scene) → Tracks first media s → Tracks first media (manage answer s)
unfolding manage
manages first media answer s h = manages_in first media (management.source_in s.node.manager.operation) answer s h

-- ---- requests

module _ (first l : Ledger) (table : Table) where
  asked_tells : (place : ℕ) (ask : Ask) (login : Option Login) (s : Scene) → In first l table s → In first l table (asked_in place ask login s)
  asked_tells place ask None s h = h
  asked_tells place ask (Some login) s h = follows first l table place login (asks ask) s (quiet_tells first l table place (asks ask) s refl h)

  points_by : (place : ℕ) (request : Packet) (bytes : List ℕ) (r : Result Ask PointRefusal × Desk) (s : Scene) → In first l table s → In first l table (pointed_by place request bytes r s)
  points_by place request bytes (Ok ask, desk) s h =
      let t = scene (with_desk s.node place desk) (with_side s.outbox (sides.Opened place (orb_of desk.agent))) in
      let u = answered request bytes 0 [] t in
      let i : In first l table t = record { told = tells first l (sides.Opened place (orb_of desk.agent)) s.outbox h.told; fits = fits_desk table s.node place desk h.fits } in
      asked_tells place ask (login_at u.node place) u (answers first l table request bytes 0 [] t i)
  points_by place request bytes (Err refusal, desk) s h =
      answers first l table request bytes _ [] (scene (with_desk s.node place desk) s.outbox) (record { told = h.told; fits = fits_desk table s.node place desk h.fits })

  points : (place : ℕ) (pointer : OrbPointer) (request : Packet) (bytes : List ℕ) (s : Scene) → In first l table s → In first l table (point place pointer request bytes s)
  unfolding point
  points place pointer request bytes s h = points_by place request bytes (point_desk (desk_at s.node place) pointer) s h

  rings_by : (place : ℕ) (request : Packet) (bytes : List ℕ) (r : Ask × Machine) (s : Scene) → In first l table s → In first l table (rung_by place request bytes r s)
  rings_by place request bytes (ask, m) s h =
      let t = scene (with_agent s.node place m) s.outbox in
      let u = answered request bytes 0 [] t in
      asked_tells place ask (login_at u.node place) u
      (answers first l table request bytes 0 [] t (record { told = h.told; fits = fits_desk table s.node place _ h.fits }))

  rings : (place : ℕ) (request : Packet) (bytes : List ℕ) (s : Scene) → In first l table s → In first l table (ring place request bytes s)
  unfolding ring
  rings place request bytes s h = rings_by place request bytes (doorbell_step (desk_at s.node place).agent) s h

  accesses_tell : (access : Access) (place : ℕ) (request : Packet) (bytes : List ℕ) (s : Scene) → In first l table s → In first l table (accessed_by access place request bytes s)
  accesses_tell accesses.State place request bytes s h = answers first l table request bytes 0 _ s h
  accesses_tell accesses.Reset place request bytes s h = answers first l table request bytes 0 [] (cut cuts.AgentReset place s) (cuts_at first l table cuts.AgentReset place s h)
  accesses_tell (accesses.Point pointer) place request bytes s h = points place pointer request bytes s h
  accesses_tell accesses.Pointer place request bytes s h = answers first l table request bytes 0 _ s h
  accesses_tell accesses.Ring place request bytes s h = rings place request bytes s h
  accesses_tell accesses.Enable place request bytes s h =
      answers first l table request bytes 0 [] (enabled place s) (record { told = h.told; fits = fits_desk table s.node place _ h.fits })

  starts_by : (source : ℕ) (request : Packet) (bytes : List ℕ) (r : Result Ask Busy × management.Machine) (s : Scene) → In first l table s → In first l table (started_by source request bytes r s)
  starts_by source request bytes (Ok ask, m) s h =
      let t = scene (record s.node { manager = m }) s.outbox in
      let i : In first l table t = record { told = h.told; fits = record { logins = h.fits.logins; desks = h.fits.desks } } in
      asks_manager first l table source ask (answered request bytes 0 [] t) (answers first l table request bytes 0 [] t i)
  starts_by source request bytes (Err busy, m) s h =
      answers first l table request bytes 4 [] (scene (record s.node { manager = m }) s.outbox) (record { told = h.told; fits = record { logins = h.fits.logins; desks = h.fits.desks } })

  starts : (orb : ℕ) (request : Packet) (bytes : List ℕ) (s : Scene) → In first l table s → In first l table (start orb request bytes s)
  unfolding start
  starts orb request bytes s h =
      starts_by (header_in request).source request bytes (management.start_step s.node.manager (header_in request).source orb) s h

  serves_as : (demand : Demand) (request : Packet) (bytes : List ℕ) (s : Scene) → In first l table s → In first l table (served_as demand request bytes s)
  serves_as (demands.Refused rcode) request bytes s h = answers first l table request bytes rcode [] s h
  serves_as (demands.Rom at len) request bytes s h = answers first l table request bytes 0 _ s h
  serves_as (demands.Manage orb) request bytes s h = starts orb request bytes s h
  serves_as (demands.Agent place access) request bytes s h = accesses_tell access place request bytes s h

  serves : (request : Packet) (bytes : List ℕ) (s : Scene) → In first l table s → In first l table (serve request bytes s)
  unfolding serve
  serves request bytes s h = serves_as (demand_of (length s.node.rom) request) request bytes s h

  pick_judged : (b : Bool) (x y : Judged × Scene) → In first l table x.1 → In first l table y.1 → In first l table (cond b x y).1
  pick_judged true x y h i = h
  pick_judged false x y h i = i

  pub request_tells : (request : Packet) (bytes : List ℕ) (s : Scene) → In first l table s → In first l table (served_step request bytes s).1
  unfolding served_step
  request_tells request bytes s h = pick_judged (is_barred s.node request) _ _ (answers first l table request bytes 7 [] s h) (serves request bytes s h)

-- ---- time-outs, resets and seconds

expires_with : (first l : Ledger) (table : Table) (place : ℕ) (login : Login) (r : AgentStep × Desk) (s : Scene) → r.0.ran ≡ None → In first l table s → In first l table (expired_with place login r s)
expires_with first l table place login (step, desk) s e h =
    let t = scene (with_desk s.node place desk) s.outbox in
    follows first l table place login step t (quiet_tells first l table place step t e (record { told = h.told; fits = fits_desk table s.node place desk h.fits }))

expires_by : (first l : Ledger) (table : Table) (place : ℕ) (login : Option Login) (which : Option Which) (s : Scene) → In first l table s → In first l table (expired_by place login which s)
expires_by first l table place (Some login) (Some which) s h =
    expires_with first l table place login (expired_desk which (desk_at s.node place)) s (lost_runs (desk_at s.node place).agent which causes.Timeout) h
expires_by first l table place None which s h = h
expires_by first l table place (Some login) None s h = h

expires_agent : (first l : Ledger) (table : Table) (place peer : ℕ) (label : LabelParts) (s : Scene) → In first l table s → In first l table (expire_agent place peer label s)
unfolding expire_agent
expires_agent first l table place peer label s h = expires_by first l table place (login_at s.node place) (which_in (desk_at s.node place) peer label) s h

-- what stands is what was tracked
pub in_tracks : (first : Ledger) (media : Held) (s : Scene) → Tracks first media s → In first (ledger_of s.node.logins media) s.node.logins s
in_tracks first media s h = record { told = h.told; fits = record { logins = refl; desks = h.desks } }

times_out : (first : Ledger) (media : Held) (purpose : Option Purpose) (peer : ℕ) (label : LabelParts) (s : Scene) → Tracks first media s → Tracks first media (timed_out purpose peer label s)
times_out first media None peer label s h = h
times_out first media (Some (purposes.Agent place)) peer label s h =
    tracks_in first media s.node.logins (expire_agent place peer label s) (expires_agent first (ledger_of s.node.logins media) s.node.logins place peer label s (in_tracks first media s h)) h.sound
times_out first media (Some purposes.Management) peer label s h = manages first media Expired s h
times_out first media (Some purposes.Unsolicited) peer label s h = h

with_layer_tracks : (first : Ledger) (media : Held) (layer : Layer Purpose) (s : Scene) → Tracks first media s → Tracks first media (scene (record s.node { layer = layer }) s.outbox)
with_layer_tracks first media layer s h = record { told = h.told; sound = h.sound; desks = h.desks }

expires_in : (first : Ledger) (media : Held) (r : Result (Option Purpose) Stale × Layer Purpose) (peer : ℕ) (label : LabelParts) (s : Scene) → Tracks first media s → Tracks first media (expired_in r peer label s).1
expires_in first media (Ok purpose, layer) peer label s h = times_out first media purpose peer label (scene (record s.node { layer = layer }) s.outbox) (with_layer_tracks first media layer s h)
expires_in first media (Err stale, layer) peer label s h = with_layer_tracks first media layer s h

pub expires : (first : Ledger) (media : Held) (peer : ℕ) (label : LabelParts) (s : Scene) → Tracks first media s → Tracks first media (expired peer label s).1
unfolding expired
expires first media peer label s h = expires_in first media (expiring_step s.node.layer peer label) peer label s h

held_tells_if : (first l : Ledger) (b : Bool) (login : Login) (o : OutboxState) → Is first l o → Is first l (cond b (with_side o (sides.Held login.login)) o)
held_tells_if first l true login o h = tells first l (sides.Held login.login) o h
held_tells_if first l false login o h = h

held_tells : (first l : Ledger) (login : Option Login) (o : OutboxState) → Is first l o → Is first l (tell_held login o)
held_tells first l None o h = h
held_tells first l (Some login) o h = held_tells_if first l (is_live login) login o h

holds_tell : (first l : Ledger) (left place : ℕ) (places : List (Option Login)) (o : OutboxState) → Is first l o → Is first l (held_from left place places o)
unfolding held_from
holds_tell first l zero place places o h = h
holds_tell first l (suc left) place places o h =
    holds_tell first l left (place + 1) places (tell_held (place_at places place) o) (held_tells first l (place_at places place) o h)

sees_by : (first : Ledger) (media : Held) (r : Bool × Layer Purpose) (s : Scene) → Tracks first media s → Tracks first media (reset_by r s).1
sees_by first media (false, layer) s h = with_layer_tracks first media layer s h
sees_by first media (true, layer) s h =
    let table = s.node.logins in
    let l = ledger_of table media in
    let begun : In first l table (scene (cleared_node layer s.node) s.outbox) = record { told = h.told; fits = record { logins = refl; desks = h.desks } } in
    let t = cut_all cuts.Reset None (scene (cleared_node layer s.node) s.outbox) in
    let i = cuts_all first l table cuts.Reset None (scene (cleared_node layer s.node) s.outbox) begun in
    let e = logins_held table.places in
    record {
      told = holds_tell first l 8 0 t.node.logins.places t.outbox i.told ∙ ap (λ seats. ledger seats media) (sym e ∙ ap (λ (x : Table). seats_of (hold_step x).places) (sym i.fits.logins));
      sound = hold_kept t.node.logins (subst IsTable (sym i.fits.logins) h.sound);
      desks = length-map t.node.desks disabled ∙ i.fits.desks;
    }

pub sees : (first : Ledger) (media : Held) (generation id : ℕ) (s : Scene) → Tracks first media s → Tracks first media (seen generation id s).1
unfolding seen
sees first media generation id s h = sees_by first media (seeing_step s.node.layer generation id) s h

-- the sides of a second
told_from : (first : Ledger) (media : Held) (ids logins : List ℕ) (at : ℕ) (seats : List (Option Seat)) (o : OutboxState) → ((k : ℕ) → k < length ids → slice_index_or logins (at + k) 0 ≡ get_or ids k 0) → Is first (ledger seats media) o
    → Is first (ledger (after_expired ids seats) media) (expired_from (length ids) at logins o)
unfolding expired_from
told_from first media [] logins at seats o e h = h
told_from first media (id ∷ ids) logins at seats o e h =
    let first_is : at ≡ at + 0 = omega arith in
    let here : slice_index_or logins at 0 ≡ id = ap (λ n. slice_index_or logins n 0) first_is ∙ e 0 (omega arith) in
    let told = tells first (ledger seats media) (sides.Expired id) o h in
    let rest : (k : ℕ) → k < length ids → slice_index_or logins (at + 1 + k) 0 ≡ get_or ids k 0
    = λ k less. let next_is : at + 1 + k ≡ at + suc k = omega arith in ap (λ n. slice_index_or logins n 0) next_is ∙ e (suc k) (omega arith) in
    subst (λ n. Is first (ledger (after_expired (id ∷ ids) seats) media) (expired_from (length ids) (at + 1) logins (with_side o (sides.Expired n)))) (sym here)
    (told_from first media ids logins (at + 1) (without id seats) (with_side o (sides.Expired id)) rest told)

ticks_by : (first : Ledger) (media : Held) (s : Scene) → Tracks first media s → Tracks first media (ticked_by (tick_step s.node.logins) s)
ticks_by first media s h = record {
  told = told_from first media (expired_ids s.node.logins.places) (expired_ids s.node.logins.places) 0 (seats_of s.node.logins.places) s.outbox (λ k less. let same : 0 + k ≡ k = omega arith in ap (λ n. get_or (expired_ids s.node.logins.places) n 0) same) h.told
      ∙ ap (λ seats. ledger seats media) (logins_tick s.node.logins.places h.sound.sound);
  sound = tick_kept s.node.logins h.sound;
  desks = h.desks;
}

pub ticks : (first : Ledger) (media : Held) (s : Scene) → Tracks first media s → Tracks first media (ticked s)
unfolding ticked
ticks first media s h = ticks_by first media s h
