-- What an operation of the management writes stands behind each call of a target.
use Rattle.sbp_world.proofs.Words.Std.{◌≡◌, ◌∙◌, refl, sym, ap, subst, ◌⊎◌, inl, inr, ℕ, ◌<◌, Bool, true, false, List, [], ◌∷◌, ◌++◌, length, map, Option, Some, None, Result, Ok, Err}
use Rattle.sbp_world.proofs.Words.Wire.{LabelParts, Packet, header_in, Stale, Finding, expiring_step, judging_step, of_again, of_generation, of_grammar, of_label, of_request, of_response, seeing_step, function_word, login_if, Note, Side, empty_outbox, Moment, asked, said}
use Rattle.sbp_world.proofs.Words.Target.{Login, Table, Operation, start_step, start_with, Disk, Purpose, Call, after, alone, lets_expire, receives, sees, sets_key, ticks, NodeState, scene, answer_in, received, whole, is_barred, demand_of, Demand}
use Rattle.sbp_world.proofs.Words.Initiator.{Nothing}
use Rattle.sbp_world.proofs.Words.Laws.{target_at}
use Rattle.sbp_world.proofs.Words.World.{ready_logins, after_run, beginning, after_all, WorldState, begun, CallsKeep, demanded, lapsed, requested, seen, Agrees, Office, by_note, by_side, by_sides, replied, started, started_by, ticked, with_key, AreSame, LoginsStand, GoesOnIn, IsDecidedBy, IsDecidedIn, IsWrittenBy, OperationsWrite, Writes, WritesOn, WrittenBetweenLaw, WrittenLaw, WrittenRunLaw, WritingLaw, is_written}
use Rattle.mgmt_agent.specs.declared.operation.Phase.TheVariants as phases
use Rattle.mgmt_agent.specs.Machine.{Machine}
use Rattle.sbp_journal.specs.declared.note.Note.TheVariants as notes
use Rattle.sbp_journal.specs.declared.side.Side.TheVariants as sides
use Rattle.sbp_target.specs.declared.purpose.Purpose.TheVariants as purposes
use Rattle.target_base.specs.declared.address.Demand.TheVariants as demands
use Rattle.sbp_target.proofs.Histories.Calling.{Good}
use Rattle.sbp_target.proofs.Histories.Settled.{all_good}
use Rattle.sbp_world.specs.Agents.Management.Calls.{delivered}
use Rattle.sbp_world.proofs.Agents.Management.Calls.{management_law}
use Rattle.sbp_world.proofs.Agents.Management.Holding.{Holding}
use Rattle.sbp_world.proofs.Agents.Management.Lines.{all_heard, opens}
use Rattle.sbp_world.proofs.Agents.Management.Runs.{holds_after, no_repeats, not_reset}
use Rattle.sbp_world.proofs.Agents.Management.Still.{hist}
use Rattle.sbp_world.specs.Sessions.Writing.{IsWritten}
use Rattle.sbp_world.proofs.Sessions.Decisions.{expired_over, reply_case, writes_kept}
use Rattle.sbp_world.proofs.Sessions.Logins.{same}
use Rattle.sbp_world.proofs.Sessions.Standing.{stands}
use Rattle.sbp_world.proofs.Sessions.Starting.{managing}
use Rattle.sbp_world.proofs.Sessions.Tables.{delivery_tabled, lapse_tabled, lapsed_table, tabled}
use Rattle.sbp_world.proofs.Common.{untrue, none_is}
use Rattle.sbp_world.proofs.Hosts.Runs.{are_told}

-- ---- what is told behind the first note leaves an operation that is under way still as it was
abbrev Stays : Office → Office → Type 0
Stays o left = (now : Operation) → left.manager.operation ≡ Some now → left.manager ≡ o.manager

note_stays : (note : Note) (o : Office) → Stays o (by_note note o)
note_stays (notes.ManageFailed i cause) o = λ now f. none_is now f
note_stays (notes.Managed i word subject status login) o = λ now f. managing word login o
note_stays (notes.Held id) o = λ now f. refl
note_stays (notes.Back id) o = λ now f. refl
note_stays (notes.Left id) o = λ now f. refl
note_stays (notes.Expired id) o = λ now f. refl
note_stays _ o = λ now f. refl

side_stays : (side : Side) (o : Office) → Stays o (by_side side o)
side_stays (sides.Own note) o = note_stays note o
side_stays (sides.Managed node function subject status login) o = λ now f. managing (function_word function) (login_if (function_word function) status login) o
side_stays (sides.ManageFailed node cause) o = λ now f. none_is now f
side_stays (sides.Held login) o = λ now f. refl
side_stays (sides.Expired login) o = λ now f. refl
side_stays (sides.Back login) o = λ now f. refl
side_stays (sides.Left login) o = λ now f. refl
side_stays _ o = λ now f. refl

sides_stay : (told : List Side) (o : Office) → Stays o (by_sides told o)
sides_stay [] o = λ now f. refl
sides_stay (side ∷ later) o = λ now f.
    let rest = sides_stay later (by_side side o) now f in
    rest ∙ side_stays side o now (sym (ap (λ (m : Machine). m.operation) rest) ∙ f)

-- ---- it goes on writing as its logins stand
keeps_writing : (m : Machine) (places : List (Option Login)) (now : Machine) (left : List (Option Login)) (op : Operation) → now ≡ m → ((id : ℕ) → AreSame id places left) → now.operation ≡ Some op → is_written op.phase ≡ true → WritesOn m places now left op
keeps_writing m places now left op e s is w = record {
  was = op;
  is = sym (ap (λ (x : Machine). x.operation) e) ∙ is;
  written = w;
  source = refl;
  orb = refl;
  stands = λ on f h. subst (λ (x : Machine). Writes op.phase op on left x.outgoing) (sym e) (writes_kept on places left (s on.source) op.phase op m.outgoing h);
}

module _ (node : NodeState) (g : Good node) (keeps : CallsKeep node (record { table = node.logins; keys = node.keys; manager = node.manager; manages = None; asks = Nothing; decided = None })) where
  abbrev o : Office
  o = record { table = node.logins; keys = node.keys; manager = node.manager; manages = None; asks = Nothing; decided = None }

  abbrev places : List (Option Login)
  places = node.logins.places

  abbrev logins : LoginsStand node
  logins = stands node g

  -- the machine of the node behind a call is that of the office behind its first note, while an operation is under way
  pub behind : (told : List Side) (first : Office) (left : NodeState) → Agrees (by_sides told first) left → (op : Operation) → left.manager.operation ≡ Some op → left.manager ≡ first.manager
  behind told first left a op e = sym a.manager ∙ sides_stay told first op (ap (λ (m : Machine). m.operation) a.manager ∙ e)

  all_same : (id : ℕ) → AreSame id places places
  all_same id = same id places

  -- the logins and the machine are as they were
  unchanged : (now : NodeState) (op : Operation) → now.manager ≡ node.manager → now.logins ≡ node.logins → now.manager.operation ≡ Some op → is_written op.phase ≡ true → GoesOnIn node now op
  unchanged now op e l is w =
      keeps_writing node.manager places now.manager now.logins.places op e (subst (λ (t : Table). (id : ℕ) → AreSame id places t.places) (sym l) all_same) is w

  module _ (generation : ℕ) (bytes : List ℕ) where
    abbrev Case : NodeState → Operation → Type 0
    Case now op = GoesOnIn node now op ⊎ IsDecidedIn node generation bytes now op

    -- a reply, to which all changes are told
    replies : (p : Packet) (label : LabelParts) → (judging_step node.layer generation bytes).0 ≡ of_response p label (Some purposes.Management) → (now : NodeState) (op : Operation) → now.manager ≡ (replied (answer_in p) o).manager → now.logins ≡ tabled (of_response p label (Some purposes.Management)) node → now.manager.operation ≡ Some op → is_written op.phase ≡ true → Case now op
    replies p label found now op e l is w =
        by (subst (λ (m : Machine). WritesOn node.manager places m now.logins.places op ⊎ IsDecidedBy node.manager (answer_in p) m now.logins.places op) (sym e)
        (subst (λ (t : Table). WritesOn node.manager places (replied (answer_in p) o).manager t.places op ⊎ IsDecidedBy node.manager (answer_in p) (replied (answer_in p) o).manager t.places op) (sym l)
        (reply_case node.manager node.logins node.keys g.table (answer_in p) op (sym (ap (λ (m : Machine). m.operation) e) ∙ is) w)))
      where
        by : WritesOn node.manager places now.manager now.logins.places op ⊎ IsDecidedBy node.manager (answer_in p) now.manager now.logins.places op → Case now op
        by (inl x) = inl x
        by (inr x) = inr (record { packet = p; label = label; found = found; by = x })

    -- an operation that begins is not written of
    begins_by : (operation : Option Operation) (source orb : ℕ) → node.manager.operation ≡ operation → (now : NodeState) (op : Operation) → now.manager ≡ (started_by (start_with operation node.manager source orb) o).manager → now.logins ≡ node.logins → now.manager.operation ≡ Some op → is_written op.phase ≡ true → GoesOnIn node now op
    begins_by (Some own) source orb f now op e l is w = unchanged now op e l is w
    begins_by None source orb f now op e l is w =
        let begun : Some (record { source = source; orb = orb; phase = phases.Orb }) ≡ Some op = sym (ap (λ (m : Machine). m.operation) e) ∙ is in
        let op_is : record { source = source; orb = orb; phase = phases.Orb } ≡ op = cc in
        untrue (ap (λ (x : Operation). is_written x.phase) op_is ∙ w)

    begins : (source orb : ℕ) (now : NodeState) (op : Operation) → now.manager ≡ (started source orb o).manager → now.logins ≡ node.logins → now.manager.operation ≡ Some op → is_written op.phase ≡ true → GoesOnIn node now op
    unfolding start_step
    begins source orb now op e l is w = begins_by node.manager.operation source orb refl now op e l is w

    demands_on : (demand : Demand) (source : ℕ) (now : NodeState) (op : Operation) → now.manager ≡ (demanded demand source o).manager → now.logins ≡ node.logins → now.manager.operation ≡ Some op → is_written op.phase ≡ true → GoesOnIn node now op
    demands_on (demands.Refused rcode) source now op e l is w = unchanged now op e l is w
    demands_on (demands.Rom at len) source now op e l is w = unchanged now op e l is w
    demands_on (demands.Manage orb) source now op e l is w = begins source orb now op e l is w
    demands_on (demands.Agent place access) source now op e l is w = unchanged now op e l is w

    requests_on : (b : Bool) (p : Packet) (now : NodeState) (op : Operation) → now.manager ≡ (requested b p node o).manager → now.logins ≡ node.logins → now.manager.operation ≡ Some op → is_written op.phase ≡ true → GoesOnIn node now op
    requests_on true p now op e l is w = unchanged now op e l is w
    requests_on false p now op e l is w = demands_on (demand_of (length node.rom) p) (header_in p).source now op e l is w

    found_on : (f : Finding Purpose) → (judging_step node.layer generation bytes).0 ≡ f → (now : NodeState) (op : Operation) → now.manager ≡ (delivered f node o).manager → now.logins ≡ tabled f node → now.manager.operation ≡ Some op → is_written op.phase ≡ true → Case now op
    found_on of_generation found now op e l is w = inl (unchanged now op e l is w)
    found_on of_grammar found now op e l is w = inl (unchanged now op e l is w)
    found_on of_label found now op e l is w = inl (unchanged now op e l is w)
    found_on (of_response p label None) found now op e l is w = inl (unchanged now op e l is w)
    found_on (of_response p label (Some (purposes.Agent place))) found now op e l is w = inl (unchanged now op e l is w)
    found_on (of_response p label (Some purposes.Management)) found now op e l is w = replies p label found now op e l is w
    found_on (of_response p label (Some purposes.Unsolicited)) found now op e l is w = inl (unchanged now op e l is w)
    found_on (of_again p rcode) found now op e l is w = inl (unchanged now op e l is w)
    found_on (of_request p) found now op e l is w = inl (requests_on (is_barred node p) p now op e l is w)

  lapses_on : (r : Result (Option Purpose) Stale) (now : NodeState) (op : Operation) → now.manager ≡ (lapsed r o).manager → now.logins ≡ lapsed_table r node → now.manager.operation ≡ Some op → is_written op.phase ≡ true → GoesOnIn node now op
  lapses_on (Ok None) now op e l is w = unchanged now op e l is w
  lapses_on (Ok (Some (purposes.Agent place))) now op e l is w = unchanged now op e l is w
  lapses_on (Ok (Some purposes.Management)) now op e l is w =
      none_is op (sym (expired_over node.manager node.logins node.keys) ∙ sym (ap (λ (m : Machine). m.operation) e) ∙ is)
  lapses_on (Ok (Some purposes.Unsolicited)) now op e l is w = unchanged now op e l is w
  lapses_on (Err stale) now op e l is w = unchanged now op e l is w

  seen_on : (generation own : ℕ) (b : Bool) → (seeing_step node.layer generation own).0 ≡ b → (now : NodeState) (op : Operation) → now ≡ (alone (sees generation own) node).node → now.manager ≡ (seen b o).manager → now.manager.operation ≡ Some op → is_written op.phase ≡ true → GoesOnIn node now op
  seen_on generation own true f now op n e is w = none_is op (sym (ap (λ (m : Machine). m.operation) e) ∙ is)
  seen_on generation own false f now op n e is w =
      keeps_writing node.manager places now.manager now.logins.places op e
      (λ id. subst (λ (x : NodeState). AreSame id places x.logins.places) (sym n) (logins.old_sights id generation own f)) is w

  pub all_write : OperationsWrite node
  all_write = record {
    deliveries = λ told disks generation bytes op is w.
        let f = (judging_step node.layer generation bytes).0 in
        let x = (received told generation bytes (whole (scene node empty_outbox) disks)).1 in
        found_on generation bytes f refl x.node op (behind x.outbox.sides (delivered f node o) x.node (keeps.deliveries told disks generation bytes) op is) (delivery_tabled node g told disks generation bytes) is w;
    expiries = λ peer label op is w.
        let x = alone (lets_expire peer label) node in
        let r = (expiring_step node.layer peer label).0 in
        lapses_on r x.node op (behind x.outbox.sides (lapsed r o) x.node (keeps.expiries peer label) op is) (lapse_tabled node g peer label) is w;
    sights = λ generation own op is w.
        let x = alone (sees generation own) node in
        let b = (seeing_step node.layer generation own).0 in
        seen_on generation own b refl x.node op refl (behind x.outbox.sides (seen b o) x.node (keeps.sights generation own) op is) is w;
    seconds = λ op is w.
        let x = alone ticks node in
        keeps_writing node.manager places x.node.manager x.node.logins.places op (behind x.outbox.sides (ticked o) x.node keeps.seconds op is) logins.seconds is w;
    keys = λ unit key op is w.
        let x = alone (sets_key unit key) node in
        keeps_writing node.manager places x.node.manager x.node.logins.places op (behind x.outbox.sides (with_key unit key o) x.node (keeps.keys unit key) op is) (λ id. logins.keys id unit key) is w;
  }

pub writes_after : (units ready : ℕ) (calls : List Call) → 0 < units → OperationsWrite (after units ready calls)
writes_after units ready calls has =
    let node = after units ready calls in
    all_write node (all_good units ready calls has)
    (management_law units ready calls (record { table = node.logins; keys = node.keys; manager = node.manager; manages = None; asks = Nothing; decided = None }) has (record { table = refl; keys = refl; manager = refl }))

pub writing_law : WritingLaw
writing_law = writes_after

-- ---- so it is written of what was decided
abbrev Is : NodeState → Type 0
Is node = (op : Operation) → node.manager.operation ≡ Some op → is_written op.phase ≡ true → IsWritten node.logins.places node.manager.outgoing op

goes_on : (node now : NodeState) (op : Operation) → Is node → GoesOnIn node now op → IsWritten now.logins.places now.manager.outgoing op
goes_on node now op before h =
    let b = before h.was h.is h.written in
    record { on = b.on; source = b.source ∙ h.source; writes = h.stands b.on b.source b.writes }

decided_so : (node now : NodeState) (generation : ℕ) (bytes : List ℕ) (op : Operation) → Is node → GoesOnIn node now op ⊎ IsDecidedIn node generation bytes now op → IsWritten now.logins.places now.manager.outgoing op
decided_so node now generation bytes op before (inl h) = goes_on node now op before h
decided_so node now generation bytes op before (inr h) = record { on = h.by.on; source = h.by.source; writes = h.by.writes }

module _ (units ready : ℕ) (has : 0 < units) where
  call_writes : (call : Call) (calls : List Call) → Is (after units ready calls) → Is (after units ready (call ∷ calls))
  call_writes (receives told disks generation bytes) calls before op is w =
      let node = after units ready calls in
      decided_so node (received told generation bytes (whole (scene node empty_outbox) disks)).1.node generation bytes op before ((writes_after units ready calls has).deliveries told disks generation bytes op is w)
  call_writes (lets_expire peer label) calls before op is w =
      let node = after units ready calls in goes_on node (alone (lets_expire peer label) node).node op before ((writes_after units ready calls has).expiries peer label op is w)
  call_writes (sees generation own) calls before op is w =
      let node = after units ready calls in goes_on node (alone (sees generation own) node).node op before ((writes_after units ready calls has).sights generation own op is w)
  call_writes ticks calls before op is w =
      let node = after units ready calls in goes_on node (alone ticks node).node op before ((writes_after units ready calls has).seconds op is w)
  call_writes (sets_key unit key) calls before op is w =
      let node = after units ready calls in goes_on node (alone (sets_key unit key) node).node op before ((writes_after units ready calls has).keys unit key op is w)

  all_written : (calls : List Call) → Is (after units ready calls)
  all_written [] op is w = none_is op is
  all_written (call ∷ calls) op is w = call_writes call calls (all_written calls) op is w

pub written_law : WrittenLaw
written_law units ready calls op has is w = all_written units ready has calls op is w

-- ---- in every run
written_by : (units ready : ℕ) → 0 < units → (start : List Disk) {past : List Moment} {lines : ℕ} (w : WorldState) → Holding units ready start past lines w → IsWrittenBy start (hist past w)
written_by units ready has start {past} w h op is v =
    let t = target_at start (hist past w) in
    let a = h.at.agrees in
    let node_writes : Is w.target = subst Is h.made (all_written units ready has h.calls) in
    subst (λ (m : Machine). IsWritten t.table.places m.outgoing op) (sym a.manager)
    (subst (λ (x : Table). IsWritten x.places w.target.manager.outgoing op) (sym a.table) (node_writes op (sym (ap (λ (m : Machine). m.operation) a.manager) ∙ is) v))

pub written_run_law : WrittenRunLaw
written_run_law line run few has small size short all fit =
    let r = holds_after line run run.entries few has small size short all fit in
    let w = (after_run (beginning run) run.entries).world in
    subst (λ ms. IsWrittenBy run.start.disks ms) r.is (written_by run.units (ready_logins run.initiators run.ready) has run.start.disks w r.holds)

pub written_between_law : WrittenBetweenLaw
written_between_law line run few has small size short all fit next event d told may =
    let r = holds_after line run run.entries few has small size short all fit in
    let s = after_run (beginning run) run.entries in
    let logins = ready_logins run.initiators run.ready in
    let begins = opens run.units logins has run.start.disks next event s.world (not_reset event d) r.holds in
    let h = all_heard run.units logins has run.start.disks told (are_told told s may) (begun s) begins (no_repeats event (hist r.past s.world) next d) in
    let w = (after_all told (begun s)).world in
    subst (λ ms. IsWrittenBy run.start.disks (map said w.fresh ++ asked next event ∷ ms)) r.is (written_by run.units logins has run.start.disks w h)
