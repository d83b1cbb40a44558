-- What each call of a target leaves of the operation of its management and of its logins: a delivery starts an operation by a request, takes it on by a reply, or
-- leaves it; any other call ends it or leaves it. Behind the sight of a later generation no login is live.
use Rattle.sbp_world.proofs.Words.Std.{◌≡◌, ◌∙◌, refl, sym, ap, subst, ℕ, Bool, true, false, List, length, map, Option, Some, None, Result, Ok, Err}
use Rattle.sbp_world.proofs.Words.Wire.{LabelParts, Packet, header_in, Stale, Finding, Layer, expiring_step, judging_step, of_again, of_generation, of_grammar, of_label, of_request, of_response, seeing_step, empty_outbox}
use Rattle.sbp_world.proofs.Words.Target.{Table, held, Operation, reply_in, reply_to, start_step, start_with, Disk, Told, Purpose, alone, lets_expire, sees, sets_key, ticks, NodeState, scene, answer_in, cleared_node, received, reset_by, target_seen, target_ticked, cut_all, whole, is_barred, demand_of, Demand}
use Rattle.sbp_world.proofs.Words.Initiator.{Nothing, Expired}
use Rattle.sbp_world.proofs.Words.World.{CallsKeep, demanded, lapsed, requested, seen, Office, replied, started, started_by, ticked, with_key, AreSame, LoginsStand, IsAsked}
use Rattle.mgmt_agent.specs.declared.operation.Phase.{Phase}
use Rattle.mgmt_agent.specs.declared.operation.Phase.TheVariants as phases
use Rattle.mgmt_agent.specs.Machine.{Machine, reply_step}
use Rattle.sbp_target.specs.declared.purpose.Purpose.TheVariants as purposes
use Rattle.sbp_journal.specs.declared.cause.CutCause.TheVariants as cuts
use Rattle.target_base.specs.declared.address.Demand.TheVariants as demands
use Rattle.sbp_target.proofs.Histories.Calling.{Good}
use Rattle.sbp_world.proofs.Agents.Cuts.{all_cut}
use Rattle.sbp_world.specs.Agents.Management.Calls.{delivered}
use Rattle.sbp_world.proofs.Sessions.Decisions.{expired_over, none_goes}
use Rattle.sbp_world.proofs.Sessions.Logins.{same}
use Rattle.sbp_world.proofs.Sessions.Standing.{stands as logins_stand}
use Rattle.sbp_world.proofs.Sessions.Tables.{delivery_tabled, lapse_tabled, lapsed_table, tabled}
use Rattle.sbp_world.proofs.Sessions.Writing.{behind}
use Rattle.sbp_world.proofs.Lists.LiveReplies.{Logged, Replied, reply_left}
use Rattle.sbp_world.proofs.Lists.IdsRise.{IsStill, all_stay, held_stay, same_stay, ticked_stay}
use Rattle.sbp_world.proofs.Lists.OwnTables.{Owns, held_owns, ticked_owns}

-- an operation is under way behind a delivery
pub data HasOperation (node : NodeState) (generation : ℕ) (bytes : List ℕ) (now : NodeState) (op : Operation) : Type 0 where
  stays : now.manager ≡ node.manager → now.logins ≡ node.logins → HasOperation node generation bytes now op
  starts : IsAsked node generation bytes op → now.logins ≡ node.logins → HasOperation node generation bytes now op
  replies : (p : Packet) (label : LabelParts) → (judging_step node.layer generation bytes).0 ≡ of_response p label (Some purposes.Management) → Replied node.manager node.logins node.keys (answer_in p) now.manager now.logins op → HasOperation node generation bytes now op

-- the logins behind it
pub data HasLogins (node : NodeState) (generation : ℕ) (bytes : List ℕ) (left : Table) : Type 0 where
  untouched : left ≡ node.logins → HasLogins node generation bytes left
  answered : (p : Packet) (label : LabelParts) → (judging_step node.layer generation bytes).0 ≡ of_response p label (Some purposes.Management) → Logged node.manager node.logins node.keys (answer_in p) left → HasLogins node generation bytes left

-- what a call leaves that brings no reply to the operation: it is over, or as it was, and the live logins of each node stand
pub record StandsStill (node now : NodeState) : Type 0 where
  pub operation : (op : Operation) → now.manager.operation ≡ Some op → now.manager ≡ node.manager
  pub logins : (id : ℕ) → AreSame id node.logins.places now.logins.places
  pub owns : Owns node.logins.places → Owns now.logins.places
  pub table : IsStill node.logins now.logins

-- ---- a time-out leaves the logins
module _ (m : Machine) (t : Table) (keys : List (List ℕ)) where
  phase_kept : (phase : Phase) (own : Operation) → (reply_in phase m own t keys Expired).1.1 ≡ t
  phase_kept phases.Orb own = refl
  phase_kept (phases.HighEui orb) own = refl
  phase_kept (phases.LowEui orb high) own = refl
  phase_kept (phases.Response fifo) own = refl
  phase_kept phases.Status own = refl

  operation_kept : (operation : Option Operation) → (reply_to operation m t keys Expired).1.1 ≡ t
  operation_kept None = refl
  operation_kept (Some own) = phase_kept own.phase own

  expired_kept : (reply_step m t keys Expired).1.1 ≡ t
  unfolding reply_step
  expired_kept = operation_kept m.operation

module _ (node : NodeState) (g : Good node) (keeps : CallsKeep node (record { table = node.logins; keys = node.keys; manager = node.manager; manages = None; asks = Nothing; decided = None })) where
  abbrev o : Office
  o = record { table = node.logins; keys = node.keys; manager = node.manager; manages = None; asks = Nothing; decided = None }

  abbrev logins : LoginsStand node
  logins = logins_stand node g

  module _ (generation : ℕ) (bytes : List ℕ) where
    -- a reply
    takes_on : (p : Packet) (label : LabelParts) → (judging_step node.layer generation bytes).0 ≡ of_response p label (Some purposes.Management) → (now : NodeState) (op : Operation) → now.manager ≡ (replied (answer_in p) o).manager → now.logins ≡ tabled (of_response p label (Some purposes.Management)) node → now.manager.operation ≡ Some op → HasOperation node generation bytes now op
    takes_on p label found now op e l is =
        replies p label found
        (subst (λ (m : Machine). Replied node.manager node.logins node.keys (answer_in p) m now.logins op) (sym e)
        (subst (λ (t : Table). Replied node.manager node.logins node.keys (answer_in p) (replied (answer_in p) o).manager t op) (sym l)
        ((reply_left node.manager node.logins node.keys (answer_in p)).goes op (sym (ap (λ (m : Machine). m.operation) e) ∙ is))))

    -- a request
    module _ (p : Packet) (found : (judging_step node.layer generation bytes).0 ≡ of_request p) where
      begins_by : (operation : Option Operation) (orb : ℕ) → node.manager.operation ≡ operation → is_barred node p ≡ false → demand_of (length node.rom) p ≡ demands.Manage orb → (now : NodeState) (op : Operation) → now.manager ≡ (started_by (start_with operation node.manager (header_in p).source orb) o).manager → now.logins ≡ node.logins → now.manager.operation ≡ Some op → HasOperation node generation bytes now op
      begins_by (Some own) orb f heard asks now op e l is = stays e l
      begins_by None orb f heard asks now op e l is =
          let begun : Some (record { source = (header_in p).source; orb = orb; phase = phases.Orb }) ≡ Some op = sym (ap (λ (m : Machine). m.operation) e) ∙ is in
          let op_is : record { source = (header_in p).source; orb = orb; phase = phases.Orb } ≡ op = cc in
          starts (record {
            packet = p;
            found = found;
            heard = heard;
            asks = asks ∙ ap (λ (x : Operation). demands.Manage x.orb) op_is;
            source = ap (λ (x : Operation). x.source) op_is;
            phase = sym (ap (λ (x : Operation). x.phase) op_is);
            idle = f;
          }) l

      begins : (orb : ℕ) → is_barred node p ≡ false → demand_of (length node.rom) p ≡ demands.Manage orb → (now : NodeState) (op : Operation) → now.manager ≡ (started (header_in p).source orb o).manager → now.logins ≡ node.logins → now.manager.operation ≡ Some op → HasOperation node generation bytes now op
      unfolding start_step
      begins orb heard asks now op e l is = begins_by node.manager.operation orb refl heard asks now op e l is

      demands_on : (demand : Demand) → demand_of (length node.rom) p ≡ demand → is_barred node p ≡ false → (now : NodeState) (op : Operation) → now.manager ≡ (demanded demand (header_in p).source o).manager → now.logins ≡ node.logins → now.manager.operation ≡ Some op → HasOperation node generation bytes now op
      demands_on (demands.Refused rcode) asks heard now op e l is = stays e l
      demands_on (demands.Rom at len) asks heard now op e l is = stays e l
      demands_on (demands.Manage orb) asks heard now op e l is = begins orb heard asks now op e l is
      demands_on (demands.Agent place access) asks heard now op e l is = stays e l

      requests_on : (b : Bool) → is_barred node p ≡ b → (now : NodeState) (op : Operation) → now.manager ≡ (requested b p node o).manager → now.logins ≡ node.logins → now.manager.operation ≡ Some op → HasOperation node generation bytes now op
      requests_on true heard now op e l is = stays e l
      requests_on false heard now op e l is = demands_on (demand_of (length node.rom) p) refl heard now op e l is

    found_on : (f : Finding Purpose) → (judging_step node.layer generation bytes).0 ≡ f → (now : NodeState) (op : Operation) → now.manager ≡ (delivered f node o).manager → now.logins ≡ tabled f node → now.manager.operation ≡ Some op → HasOperation node generation bytes now op
    found_on of_generation found now op e l is = stays e l
    found_on of_grammar found now op e l is = stays e l
    found_on of_label found now op e l is = stays e l
    found_on (of_response p label None) found now op e l is = stays e l
    found_on (of_response p label (Some (purposes.Agent place))) found now op e l is = stays e l
    found_on (of_response p label (Some purposes.Management)) found now op e l is = takes_on p label found now op e l is
    found_on (of_response p label (Some purposes.Unsolicited)) found now op e l is = stays e l
    found_on (of_again p rcode) found now op e l is = stays e l
    found_on (of_request p) found now op e l is = requests_on p found (is_barred node p) refl now op e l is

    pub delivery_operation : (told : Option Told) (disks : List Disk) (op : Operation) → (let now = (received told generation bytes (whole (scene node empty_outbox) disks)).1.node in now.manager.operation ≡ Some op → HasOperation node generation bytes now op)
    delivery_operation told disks op is =
        let f = (judging_step node.layer generation bytes).0 in
        let x = (received told generation bytes (whole (scene node empty_outbox) disks)).1 in
        found_on f refl x.node op (behind node g keeps x.outbox.sides (delivered f node o) x.node (keeps.deliveries told disks generation bytes) op is) (delivery_tabled node g told disks generation bytes) is

    logins_on : (f : Finding Purpose) → (judging_step node.layer generation bytes).0 ≡ f → HasLogins node generation bytes (tabled f node)
    logins_on of_generation found = untouched refl
    logins_on of_grammar found = untouched refl
    logins_on of_label found = untouched refl
    logins_on (of_response p label None) found = untouched refl
    logins_on (of_response p label (Some (purposes.Agent place))) found = untouched refl
    logins_on (of_response p label (Some purposes.Management)) found = answered p label found (reply_left node.manager node.logins node.keys (answer_in p)).logged
    logins_on (of_response p label (Some purposes.Unsolicited)) found = untouched refl
    logins_on (of_again p rcode) found = untouched refl
    logins_on (of_request p) found = untouched refl

    pub delivery_logins : (told : Option Told) (disks : List Disk) → HasLogins node generation bytes (received told generation bytes (whole (scene node empty_outbox) disks)).1.node.logins
    delivery_logins told disks = subst (HasLogins node generation bytes) (sym (delivery_tabled node g told disks generation bytes)) (logins_on (judging_step node.layer generation bytes).0 refl)

  -- ---- any other call
  all_same : (left : Table) → left ≡ node.logins → (id : ℕ) → AreSame id node.logins.places left.places
  all_same left e id = subst (λ (t : Table). AreSame id node.logins.places t.places) (sym e) (same id node.logins.places)

  lapse_on : (r : Result (Option Purpose) Stale) (now : NodeState) (op : Operation) → now.manager ≡ (lapsed r o).manager → now.manager.operation ≡ Some op → now.manager ≡ node.manager
  lapse_on (Ok None) now op e is = e
  lapse_on (Ok (Some (purposes.Agent place))) now op e is = e
  lapse_on (Ok (Some purposes.Management)) now op e is =
      none_goes op (sym (expired_over node.manager node.logins node.keys) ∙ sym (ap (λ (m : Machine). m.operation) e) ∙ is)
  lapse_on (Ok (Some purposes.Unsolicited)) now op e is = e
  lapse_on (Err stale) now op e is = e

  lapse_table : (r : Result (Option Purpose) Stale) → lapsed_table r node ≡ node.logins
  lapse_table (Ok None) = refl
  lapse_table (Ok (Some (purposes.Agent place))) = refl
  lapse_table (Ok (Some purposes.Management)) = expired_kept node.manager node.logins node.keys
  lapse_table (Ok (Some purposes.Unsolicited)) = refl
  lapse_table (Err stale) = refl

  pub lapse_still : (peer : ℕ) (label : LabelParts) → StandsStill node (alone (lets_expire peer label) node).node
  lapse_still peer label =
      let x = alone (lets_expire peer label) node in
      let r = (expiring_step node.layer peer label).0 in
      record {
        operation = λ op is. lapse_on r x.node op (behind node g keeps x.outbox.sides (lapsed r o) x.node (keeps.expiries peer label) op is) is;
        logins = all_same x.node.logins (lapse_tabled node g peer label ∙ lapse_table r);
        owns = λ h. subst (λ (t : Table). Owns t.places) (sym (lapse_tabled node g peer label ∙ lapse_table r)) h;
        table = same_stay node.logins x.node.logins (lapse_tabled node g peer label ∙ lapse_table r);
      }

  second_owns : Owns node.logins.places → Owns (alone ticks node).node.logins.places
  unfolding target_ticked
  second_owns h = ticked_owns node.logins.places h

  second_table : IsStill node.logins (alone ticks node).node.logins
  unfolding target_ticked
  second_table = ticked_stay node.logins

  pub second_still : StandsStill node (alone ticks node).node
  second_still =
      let x = alone ticks node in
      record { operation = λ op is. behind node g keeps x.outbox.sides (ticked o) x.node keeps.seconds op is; logins = logins.seconds; owns = second_owns; table = second_table }

  pub key_still : (unit : ℕ) (key : List ℕ) → StandsStill node (alone (sets_key unit key) node).node
  key_still unit key =
      let x = alone (sets_key unit key) node in
      record { operation = λ op is. behind node g keeps x.outbox.sides (with_key unit key o) x.node (keeps.keys unit key) op is; logins = λ id. logins.keys id unit key; owns = λ h. h; table = all_stay node.logins }

  sight_on : (generation own : ℕ) (b : Bool) → (seeing_step node.layer generation own).0 ≡ b → b ≡ false → (now : NodeState) (op : Operation) → now.manager ≡ (seen b o).manager → now.manager.operation ≡ Some op → now.manager ≡ node.manager
  sight_on generation own true f n now op e is = absurd (let no : true ≡ false = n in cc)
  sight_on generation own false f n now op e is = e

  sight_owns_by : (r : Bool × Layer Purpose) → Owns node.logins.places → Owns (reset_by r (scene node empty_outbox)).1.node.logins.places
  sight_owns_by (false, layer) h = h
  sight_owns_by (true, layer) h =
      let begun = scene (cleared_node layer node) empty_outbox in
      held_owns (cut_all cuts.Reset None begun).node.logins.places (subst (λ (t : Table). Owns t.places) (sym (all_cut cuts.Reset None begun g.mid.size).logins) h)

  pub sight_owns : (generation own : ℕ) → Owns node.logins.places → Owns (alone (sees generation own) node).node.logins.places
  unfolding target_seen
  sight_owns generation own h = sight_owns_by (seeing_step node.layer generation own) h

  sight_table_by : (r : Bool × Layer Purpose) → IsStill node.logins (reset_by r (scene node empty_outbox)).1.node.logins
  sight_table_by (false, layer) = all_stay node.logins
  sight_table_by (true, layer) =
      let begun = scene (cleared_node layer node) empty_outbox in
      subst (λ (t : Table). IsStill t (record (cut_all cuts.Reset None begun).node.logins { places = map held (cut_all cuts.Reset None begun).node.logins.places })) (all_cut cuts.Reset None begun g.mid.size).logins (held_stay (cut_all cuts.Reset None begun).node.logins)

  pub sight_table : (generation own : ℕ) → IsStill node.logins (alone (sees generation own) node).node.logins
  unfolding target_seen
  sight_table generation own = sight_table_by (seeing_step node.layer generation own)

  pub sight_still : (generation own : ℕ) → (seeing_step node.layer generation own).0 ≡ false → StandsStill node (alone (sees generation own) node).node
  sight_still generation own old =
      let x = alone (sees generation own) node in
      let b = (seeing_step node.layer generation own).0 in
      record {
        operation = λ op is. sight_on generation own b refl old x.node op (behind node g keeps x.outbox.sides (seen b o) x.node (keeps.sights generation own) op is) is;
        logins = λ id. logins.old_sights id generation own old;
        owns = sight_owns generation own;
        table = sight_table generation own;
      }

  cleared_on : (b : Bool) → b ≡ true → (now : NodeState) (op : Operation) → now.manager ≡ (seen b o).manager → now.manager.operation ≡ Some op → ⊥
  cleared_on true n now op e is = none_goes op (sym (ap (λ (m : Machine). m.operation) e) ∙ is)
  cleared_on false n now op e is = (let no : false ≡ true = n in absurd (differ no))
    where
      differ : false ≡ true → ⊥
      differ f = cc

  -- behind the sight of a later generation no operation is under way
  pub sight_clears : (generation own : ℕ) → (seeing_step node.layer generation own).0 ≡ true → (op : Operation) → (alone (sees generation own) node).node.manager.operation ≡ Some op → ⊥
  sight_clears generation own new op is =
      let x = alone (sees generation own) node in
      let b = (seeing_step node.layer generation own).0 in
      cleared_on b new x.node op (behind node g keeps x.outbox.sides (seen b o) x.node (keeps.sights generation own) op is) is
