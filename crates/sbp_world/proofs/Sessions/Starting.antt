-- An operation of the management comes under way by a request to MANAGEMENT_AGENT alone.
use Rattle.sbp_world.proofs.Words.Std.{◌≡◌, ◌∙◌, refl, sym, ap, ◌⊎◌, inl, inr, ℕ, ◌+◌, ◌*◌, ◌^◌, ◌==◌, Bool, true, false, cond, List, [], ◌∷◌, length, Option, Some, None, Result, Ok, Err, is_none, position, quad}
use Rattle.sbp_world.proofs.Words.Wire.{Packet, header_in, Stale, Finding, expiring_step, judging_step, of_again, of_generation, of_grammar, of_label, of_request, of_response, seeing_step, function_word, login_if, Note, FunctionWord, Side, empty_outbox}
use Rattle.sbp_world.proofs.Words.Target.{Table, ManagerStep, Operation, Status, decide, reads_eui, beside, cut_response, decide_step, decided_as, eui_step, high_eui_at, high_got, in_phase, low_got, orb_got, reply_in, reply_to, respond_step, response_written, start_step, start_with, status_step, status_written, Purpose, after, alone, lets_expire, sees, sets_key, ticks, NodeState, scene, answer_in, received, whole, is_barred, Demand, demand_of}
use Rattle.sbp_world.proofs.Words.Initiator.{Nothing, FailCause, ManagementOrb, management_orb, Answer, Expired, payload_of, write_failure}
use Rattle.sbp_world.proofs.Words.Laws.{Decided}
use Rattle.sbp_world.proofs.Words.World.{CallsKeep, demanded, lapsed, requested, seen, Agrees, Office, by_managed, by_note, by_side, by_sides, placed, placed_by, replied, started, started_by, ticked, with_key, GoesOn, IsAsked, OperationsStart, StartingLaw}
use Rattle.mgmt_agent.specs.declared.decision.Outcome.{Outcome}
use Rattle.mgmt_agent.specs.declared.operation.Phase.{Phase}
use Rattle.mgmt_agent.specs.declared.operation.Phase.TheVariants as phases
use Rattle.mgmt_agent.specs.Machine.{Machine, reply_step}
use Rattle.sbp_journal.specs.declared.note.Note.TheVariants as notes
use Rattle.sbp_journal.specs.declared.operation.FunctionWord.TheVariants as functions
use Rattle.sbp_journal.specs.declared.side.Side.TheVariants as sides
use Rattle.sbp_target.specs.declared.purpose.Purpose.TheVariants as purposes
use Rattle.target_base.specs.declared.address.Demand.TheVariants as demands
use Rattle.sbp_world.specs.Agents.Management.Calls.{delivered}
use Rattle.sbp_world.proofs.Agents.Management.Calls.{management_law}
use Rattle.sbp_world.proofs.Common.{none_is}

goes_on : (before : Option Operation) (now : Operation) → before ≡ Some now → GoesOn before now
goes_on before now e = record { was = now; is = e; source = refl; orb = refl }

-- ---- a reply
module _ (m : Machine) (own : Operation) (is : m.operation ≡ Some own) where
  abbrev Kept : Option Operation → Type 0
  Kept left = (now : Operation) → left ≡ Some now → GoesOn m.operation now

  ended : Kept None
  ended now e = none_is now e

  on_in : (phase : Phase) → Kept (Some (record own { phase = phase }))
  on_in phase now e =
      let same : record own { phase = phase } ≡ now = cc in
      record { was = own; is = is; source = ap (λ (x : Operation). x.source) same; orb = ap (λ (x : Operation). x.orb) same }

  pick : (b : Bool) (x y : ManagerStep × Machine) → Kept x.1.operation → Kept y.1.operation → Kept (cond b x y).1.operation
  pick true x y h k = h
  pick false x y h k = k

  pick_step : (b : Bool) (x y : ManagerStep × (Machine × Table)) → Kept x.1.0.operation → Kept y.1.0.operation → Kept (cond b x y).1.0.operation
  pick_step true x y h k = h
  pick_step false x y h k = k

  module _ (t : Table) (keys : List (List ℕ)) where
    responds : (now : Machine) (orb : ManagementOrb) (status : Status) → Kept (respond_step now own orb status).1.operation
    responds now orb status =
        pick (length now.outgoing == 0) (status_step now own orb.fifo status) (_, in_phase now own (phases.Response orb.fifo)) (on_in phases.Status) (on_in (phases.Response orb.fifo))

    as_decided : (r : Outcome × Table) (orb : ManagementOrb) → Kept (decided_as r m own orb).1.0.operation
    as_decided (outcome, table) orb = responds (record m { outgoing = cut_response orb outcome table }) orb outcome.status

    decides : (orb : ManagementOrb) (eui : ℕ) → Kept (decide_step m own orb eui t keys).1.0.operation
    unfolding decide_step
    decides orb eui = as_decided (decide orb own.source eui t keys) orb

    orb_kept : (bytes : Result (List ℕ) FailCause) → Kept (orb_got bytes m own t keys).1.0.operation
    orb_kept (Err cause) = ended
    orb_kept (Ok bytes) =
        let orb = management_orb bytes in
        pick_step (reads_eui orb) (beside t (eui_step m own (phases.HighEui orb) high_eui_at)) (decide_step m own orb 0 t keys) (on_in (phases.HighEui orb)) (decides orb 0)

    high_kept : (bytes : Result (List ℕ) FailCause) (orb : ManagementOrb) → Kept (high_got bytes m own orb).1.operation
    high_kept (Err cause) orb = ended
    high_kept (Ok bytes) orb = on_in (phases.LowEui orb (quad bytes 0))

    low_kept : (bytes : Result (List ℕ) FailCause) (orb : ManagementOrb) (high : ℕ) → Kept (low_got bytes m own orb high t keys).1.0.operation
    low_kept (Err cause) orb high = ended
    low_kept (Ok bytes) orb high = decides orb (high * 2 ^ 32 + quad bytes 0)

    response_kept : (failure : Option FailCause) (fifo : ℕ) → Kept (response_written failure m own fifo).1.operation
    response_kept None fifo = on_in phases.Status
    response_kept (Some cause) fifo = ended

    status_kept : (failure : Option FailCause) → Kept (status_written failure m).1.operation
    status_kept None = ended
    status_kept (Some cause) = ended

    phase_kept : (phase : Phase) (answer : Answer) → Kept (reply_in phase m own t keys answer).1.0.operation
    phase_kept phases.Orb answer = orb_kept (payload_of answer 32)
    phase_kept (phases.HighEui orb) answer = high_kept (payload_of answer 4) orb
    phase_kept (phases.LowEui orb high) answer = low_kept (payload_of answer 4) orb high
    phase_kept (phases.Response fifo) answer = response_kept (write_failure answer) fifo
    phase_kept phases.Status answer = status_kept (write_failure answer)

replies_by : (m : Machine) (t : Table) (keys : List (List ℕ)) (answer : Answer) (operation : Option Operation) → m.operation ≡ operation → (now : Operation) → (reply_to operation m t keys answer).1.0.operation ≡ Some now → GoesOn m.operation now
replies_by m t keys answer None e now f = goes_on m.operation now f
replies_by m t keys answer (Some own) e now f = phase_kept m own e t keys own.phase answer now f

replies : (m : Machine) (t : Table) (keys : List (List ℕ)) (answer : Answer) (now : Operation) → (reply_step m t keys answer).1.0.operation ≡ Some now → GoesOn m.operation now
unfolding reply_step
replies m t keys answer now f = replies_by m t keys answer m.operation refl now f

-- ---- what is told
placed_manager : (place : Option ℕ) (decided : Option Decided) (id : ℕ) (o : Office) → (placed place decided id o).manager ≡ o.manager
placed_manager None decided id o = refl
placed_manager (Some place) None id o = refl
placed_manager (Some place) (Some d) id o = refl

placing : (login : Option ℕ) (o : Office) → (placed_by login o).manager ≡ o.manager
placing None o = refl
placing (Some id) o = placed_manager (position is_none o.table.places) o.decided id o

pub managing : (word : FunctionWord) (login : Option ℕ) (o : Office) → (by_managed word login o).manager ≡ o.manager
managing functions.Login login o = placing login o
managing word login o = refl

-- an operation that is under way behind it was so before
abbrev Stays : Office → Office → Type 0
Stays o left = (now : Operation) → left.manager.operation ≡ Some now → o.manager.operation ≡ Some now

same : (o left : Office) → left.manager ≡ o.manager → Stays o left
same o left e now f = sym (ap (λ (m : Machine). m.operation) e) ∙ f

note_stays : (note : Note) (o : Office) → Stays o (by_note note o)
note_stays (notes.ManageFailed i cause) o = λ now f. none_is now f
note_stays (notes.Managed i word subject status login) o = same o (by_managed word login o) (managing word login o)
note_stays (notes.Held id) o = λ now f. f
note_stays (notes.Back id) o = λ now f. f
note_stays (notes.Left id) o = λ now f. f
note_stays (notes.Expired id) o = λ now f. f
note_stays _ o = λ now f. f

side_stays : (side : Side) (o : Office) → Stays o (by_side side o)
side_stays (sides.Own note) o = note_stays note o
side_stays (sides.Managed node function subject status login) o =
    same o (by_managed (function_word function) (login_if (function_word function) status login) o) (managing (function_word function) (login_if (function_word function) status login) o)
side_stays (sides.ManageFailed node cause) o = λ now f. none_is now f
side_stays (sides.Held login) o = λ now f. f
side_stays (sides.Expired login) o = λ now f. f
side_stays (sides.Back login) o = λ now f. f
side_stays (sides.Left login) o = λ now f. f
side_stays _ o = λ now f. f

sides_stay : (told : List Side) (o : Office) → Stays o (by_sides told o)
sides_stay [] o = λ now f. f
sides_stay (side ∷ later) o = λ now f. side_stays side o now (sides_stay later (by_side side o) now f)

-- ---- a call

module _ (node : NodeState) (keeps : CallsKeep node (record { table = node.logins; keys = node.keys; manager = node.manager; manages = None; asks = Nothing; decided = None })) where
  abbrev o : Office
  o = record { table = node.logins; keys = node.keys; manager = node.manager; manages = None; asks = Nothing; decided = None }

  -- the operation of the node behind a call is that of the office behind its first note
  behind : (told : List Side) (first : Office) (left : NodeState) → Agrees (by_sides told first) left → (now : Operation) → left.manager.operation ≡ Some now → first.manager.operation ≡ Some now
  behind told first left a now e = sides_stay told first now (ap (λ (m : Machine). m.operation) a.manager ∙ e)

  replied_on : (answer : Answer) (now : Operation) → (replied answer o).manager.operation ≡ Some now → GoesOn node.manager.operation now
  replied_on answer now e = replies node.manager node.logins node.keys answer now e

  lapsed_on : (r : Result (Option Purpose) Stale) (now : Operation) → (lapsed r o).manager.operation ≡ Some now → GoesOn node.manager.operation now
  lapsed_on (Ok (Some purposes.Management)) now e = replied_on Expired now e
  lapsed_on (Ok (Some (purposes.Agent place))) now e = goes_on node.manager.operation now e
  lapsed_on (Ok (Some purposes.Unsolicited)) now e = goes_on node.manager.operation now e
  lapsed_on (Ok None) now e = goes_on node.manager.operation now e
  lapsed_on (Err stale) now e = goes_on node.manager.operation now e

  seen_on : (b : Bool) (now : Operation) → (seen b o).manager.operation ≡ Some now → GoesOn node.manager.operation now
  seen_on true now e = none_is now e
  seen_on false now e = goes_on node.manager.operation now e

  module _ (generation : ℕ) (bytes : List ℕ) where
    abbrev Case : Operation → Type 0
    Case now = GoesOn node.manager.operation now ⊎ IsAsked node generation bytes now

    module _ (p : Packet) (found : (judging_step node.layer generation bytes).0 ≡ of_request p) where
      starts_by : (orb : ℕ) (operation : Option Operation) → node.manager.operation ≡ operation → is_barred node p ≡ false → demand_of (length node.rom) p ≡ demands.Manage orb → (now : Operation) → (started_by (start_with operation node.manager (header_in p).source orb) o).manager.operation ≡ Some now → Case now
      starts_by orb (Some own) is heard asks now e = inl (goes_on node.manager.operation now e)
      starts_by orb None is heard asks now e =
          let same : record { source = (header_in p).source; orb = orb; phase = phases.Orb } ≡ now = cc in
          inr (record {
            packet = p;
            found = found;
            heard = heard;
            asks = asks ∙ ap (λ (x : Operation). demands.Manage x.orb) same;
            source = ap (λ (x : Operation). x.source) same;
            phase = sym (ap (λ (x : Operation). x.phase) same);
            idle = is;
          })

      starts : (orb : ℕ) → is_barred node p ≡ false → demand_of (length node.rom) p ≡ demands.Manage orb → (now : Operation) → (started (header_in p).source orb o).manager.operation ≡ Some now → Case now
      unfolding start_step
      starts orb heard asks now e = starts_by orb node.manager.operation refl heard asks now e

      demands_on : (demand : Demand) → demand_of (length node.rom) p ≡ demand → is_barred node p ≡ false → (now : Operation) → (demanded demand (header_in p).source o).manager.operation ≡ Some now → Case now
      demands_on (demands.Refused rcode) asks heard now e = inl (goes_on node.manager.operation now e)
      demands_on (demands.Rom at len) asks heard now e = inl (goes_on node.manager.operation now e)
      demands_on (demands.Manage orb) asks heard now e = starts orb heard asks now e
      demands_on (demands.Agent place access) asks heard now e = inl (goes_on node.manager.operation now e)

      requests_on : (b : Bool) → is_barred node p ≡ b → (now : Operation) → (requested b p node o).manager.operation ≡ Some now → Case now
      requests_on true heard now e = inl (goes_on node.manager.operation now e)
      requests_on false heard now e = demands_on (demand_of (length node.rom) p) refl heard now e

    delivered_on : (f : Finding Purpose) → (judging_step node.layer generation bytes).0 ≡ f → (now : Operation) → (delivered f node o).manager.operation ≡ Some now → Case now
    delivered_on of_generation found now e = inl (goes_on node.manager.operation now e)
    delivered_on of_grammar found now e = inl (goes_on node.manager.operation now e)
    delivered_on of_label found now e = inl (goes_on node.manager.operation now e)
    delivered_on (of_response p label (Some purposes.Management)) found now e = inl (replied_on (answer_in p) now e)
    delivered_on (of_response p label (Some (purposes.Agent place))) found now e = inl (goes_on node.manager.operation now e)
    delivered_on (of_response p label (Some purposes.Unsolicited)) found now e = inl (goes_on node.manager.operation now e)
    delivered_on (of_response p label None) found now e = inl (goes_on node.manager.operation now e)
    delivered_on (of_again p rcode) found now e = inl (goes_on node.manager.operation now e)
    delivered_on (of_request p) found now e = requests_on p found (is_barred node p) refl now e

  start_all : OperationsStart node
  start_all = record {
    deliveries = λ told disks generation bytes now e.
        let f = (judging_step node.layer generation bytes).0 in
        let x = (received told generation bytes (whole (scene node empty_outbox) disks)).1 in
        delivered_on generation bytes f refl now (behind x.outbox.sides (delivered f node o) x.node (keeps.deliveries told disks generation bytes) now e);
    expiries = λ peer label now e.
        let x = alone (lets_expire peer label) node in
        lapsed_on (expiring_step node.layer peer label).0 now (behind x.outbox.sides (lapsed (expiring_step node.layer peer label).0 o) x.node (keeps.expiries peer label) now e);
    sights = λ generation own now e.
        let x = alone (sees generation own) node in
        seen_on (seeing_step node.layer generation own).0 now (behind x.outbox.sides (seen (seeing_step node.layer generation own).0 o) x.node (keeps.sights generation own) now e);
    seconds = λ now e. let x = alone ticks node in goes_on node.manager.operation now (behind x.outbox.sides (ticked o) x.node keeps.seconds now e);
    keys = λ unit key now e. let x = alone (sets_key unit key) node in goes_on node.manager.operation now (behind x.outbox.sides (with_key unit key o) x.node (keeps.keys unit key) now e);
  }

pub starting_law : StartingLaw
starting_law units ready calls has =
    let node = after units ready calls in
    start_all node (management_law units ready calls (record { table = node.logins; keys = node.keys; manager = node.manager; manages = None; asks = Nothing; decided = None }) has (record { table = refl; keys = refl; manager = refl }))
