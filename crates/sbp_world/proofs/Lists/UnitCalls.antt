-- What a call of the target makes of the units of its logins: each login stays on its unit, or is live.
use Rattle.sbp_world.proofs.Words.Std.{◌≡◌, refl, sym, ap, subst, ℕ, Bool, true, false, List, map, Option, Some, None, Result, Ok, Err}
use Rattle.sbp_world.proofs.Words.Wire.{Stale, Layer, expiring_step, seeing_step, empty_outbox}
use Rattle.sbp_world.proofs.Words.Target.{Table, held, Purpose, Call, alone, lets_expire, receives, sees, sets_key, ticks, NodeState, scene, answer_in, cleared_node, received, reset_by, target_seen, target_ticked, whole, cut_all}
use Rattle.sbp_world.proofs.Words.Initiator.{Nothing, Answer, Expired}
use Rattle.sbp_world.proofs.Words.World.{CallsKeep}
use Rattle.mgmt_agent.specs.Machine.{Machine}
use Rattle.sbp_journal.specs.declared.cause.CutCause.TheVariants as cuts
use Rattle.sbp_target.specs.declared.purpose.Purpose.TheVariants as purposes
use Rattle.sbp_target.proofs.Histories.Calling.{Good}
use Rattle.sbp_world.proofs.Agents.Cuts.{all_cut}
use Rattle.sbp_world.proofs.Sessions.Tables.{lapse_tabled, lapsed_table}
use Rattle.sbp_world.proofs.Lists.LiveCalls.{HasLogins, answered, delivery_logins, untouched}
use Rattle.sbp_world.proofs.Lists.LiveReplies.{Logged, granted, reply_left, stands}
use Rattle.sbp_world.proofs.Lists.UnitTables.{AllStay, decide_on, held_stay, live_or_stays, same_stay, ticked_stay}

same_table : (t left : Table) → left ≡ t → AllStay t.places left.places
same_table t left e = same_stay t.places left.places (ap (λ (x : Table). x.places) e)

-- behind a reply to the operation
logged_stay : (m : Machine) (t : Table) (keys : List (List ℕ)) (answer : Answer) (left : Table) → Logged m t keys answer left → AllStay t.places left.places
logged_stay m t keys answer left (stands e) = same_table t left e
logged_stay m t keys answer left (granted d) = subst (λ (x : Table). AllStay t.places x.places) (sym d.left_is) (live_or_stays d.on.orb t _ (decide_on d.on.orb d.on.source d.on.eui t keys))

module _ (node : NodeState) (g : Good node) (keeps : CallsKeep node (record { table = node.logins; keys = node.keys; manager = node.manager; manages = None; asks = Nothing; decided = None })) where
  logins_stay : (generation : ℕ) (bytes : List ℕ) (left : Table) → HasLogins node generation bytes left → AllStay node.logins.places left.places
  logins_stay generation bytes left (untouched e) = same_table node.logins left e
  logins_stay generation bytes left (answered p label e l) = logged_stay node.manager node.logins node.keys (answer_in p) left l

  lapsed_stay : (r : Result (Option Purpose) Stale) → AllStay node.logins.places (lapsed_table r node).places
  lapsed_stay (Ok None) = same_table node.logins node.logins refl
  lapsed_stay (Ok (Some (purposes.Agent place))) = same_table node.logins node.logins refl
  lapsed_stay (Ok (Some purposes.Management)) = logged_stay node.manager node.logins node.keys Expired _ (reply_left node.manager node.logins node.keys Expired).logged
  lapsed_stay (Ok (Some purposes.Unsolicited)) = same_table node.logins node.logins refl
  lapsed_stay (Err stale) = same_table node.logins node.logins refl

  sight_by : (r : Bool × Layer Purpose) → AllStay node.logins.places (reset_by r (scene node empty_outbox)).1.node.logins.places
  sight_by (false, layer) = same_table node.logins node.logins refl
  sight_by (true, layer) =
      let begun = scene (cleared_node layer node) empty_outbox in
      subst (λ (t : Table). AllStay t.places (record (cut_all cuts.Reset None begun).node.logins { places = map held (cut_all cuts.Reset None begun).node.logins.places }).places) (all_cut cuts.Reset None begun g.mid.size).logins (held_stay (cut_all cuts.Reset None begun).node.logins.places)

  sight_stay : (generation own : ℕ) → AllStay node.logins.places (alone (sees generation own) node).node.logins.places
  unfolding target_seen
  sight_stay generation own = sight_by (seeing_step node.layer generation own)

  second_stay : AllStay node.logins.places (alone ticks node).node.logins.places
  unfolding target_ticked
  second_stay = ticked_stay node.logins.places

  pub call_stays : (call : Call) → AllStay node.logins.places (alone call node).node.logins.places
  call_stays (receives told disks generation bytes) = logins_stay generation bytes (received told generation bytes (whole (scene node empty_outbox) disks)).1.node.logins (delivery_logins node g keeps generation bytes told disks)
  call_stays (lets_expire peer label) = subst (λ (t : Table). AllStay node.logins.places t.places) (sym (lapse_tabled node g peer label)) (lapsed_stay (expiring_step node.layer peer label).0)
  call_stays (sees generation id) = sight_stay generation id
  call_stays ticks = second_stay
  call_stays (sets_key unit key) = same_table node.logins node.logins refl
