-- What leaves for an operation that writes is what it writes, to where its ORB says.
use Rattle.sbp_world.proofs.Words.Std.{◌≡◌, ◌∙◌, refl, sym, ap, subst, inl, inr, ℕ, ◌*◌, ◌+◌, ◌^◌, ◌==◌, ◌⊎◌, nat_le, Bool, true, false, cond, List, [], ◌∷◌, length, Option, Some, None, Result, Ok, Err, ◌++◌, quad}
use Rattle.sbp_world.proofs.Words.Wire.{largest, LabelParts, Packet, header_in, Asked, Body, block_read, block_write, Finding, Layer, answering_step, asking_step, judging_step, of_request, of_response, empty_outbox, Judged}
use Rattle.sbp_world.proofs.Words.Target.{Login, Table, ManagerStep, Operation, decide, reads_eui, beside, cut_response, decide_step, decided_as, eui_step, high_eui_at, high_got, in_phase, low_got, orb_got, reply_in, reply_to, response_written, source_in, start_step, start_with, status_step, status_written, Disk, Told, Purpose, after, manage, managed_in, manager_body, NodeState, Scene, scene, answer_in, concluded, received, received_as, with_layer, scene_of, whole, answer_step, answered, is_barred, serve, served_as, start, Demand, address_error, demand_of, request, response}
use Rattle.sbp_world.proofs.Words.Initiator.{Ask, Nothing, FailCause, ManagementOrb, management_orb, Answer, payload_of, write_failure}
use Rattle.sbp_world.proofs.Words.Laws.{Decided, bytes_in, decided_by, decided_in}
use Rattle.sbp_world.proofs.Words.World.{CallsKeep, Office, replied, started, started_by, GoesTo, HandedLaw, IsStarted, brings, Writes, is_written}
use Rattle.label_table.specs.History as wire
use Rattle.mgmt_agent.specs.declared.decision.Outcome.{Outcome}
use Rattle.mgmt_agent.specs.declared.operation.Phase.{Phase}
use Rattle.mgmt_agent.specs.declared.operation.Phase.TheVariants as phases
use Rattle.mgmt_agent.specs.Machine.{Machine, quiet, reply_step}
use Rattle.orb_layout.specs.declared.ask.Ask.TheVariants as asks
use Rattle.sbp_journal.specs.declared.cause.Cause.TheVariants as ignored
use Rattle.sbp_journal.specs.declared.cause.Judged.TheVariants as judgements
use Rattle.sbp_target.specs.declared.purpose.Purpose.TheVariants as purposes
use Rattle.sbp_target.specs.Serving.{request_step}
use Rattle.target_base.specs.declared.address.Demand.TheVariants as demands
use Rattle.sbp_target.proofs.Histories.Calling.{Good}
use Rattle.sbp_target.proofs.Histories.Found.{IsFound, found}
use Rattle.sbp_target.proofs.Histories.Primitives.{Known, closing_known, live_on}
use Rattle.sbp_target.proofs.Histories.Seats.{Lives}
use Rattle.sbp_target.proofs.Histories.Settled.{all_good}
use Rattle.sbp_world.specs.Agents.Management.Calls.{delivered}
use Rattle.sbp_world.proofs.Agents.Management.Asking.{MayLeave, Turned, leaves, replied_turn, silent, start_rcode, started_turn}
use Rattle.sbp_world.proofs.Agents.Management.Calls.{management_law}
use Rattle.sbp_world.specs.Sessions.Handed.{IsHanded, IsOrbOf, goes_on}
use Rattle.sbp_world.proofs.Sessions.Decisions.{bytes_are, none_goes}
use Rattle.sbp_world.proofs.Sessions.Writing.{behind}
use Rattle.sbp_world.proofs.Common.{untrue}

-- ---- what a step asks for then

record Asks (ask : Ask) (own now : Operation) (on : Decided) : Type 0 where
  at : ℕ
  len : ℕ
  is : ask ≡ asks.Write at len
  goes : GoesTo now.phase on at
  source : own.source ≡ now.source

writes_written : (phase : Phase) (op : Operation) (on : Decided) (places : List (Option Login)) (outgoing : List ℕ) → Writes phase op on places outgoing → is_written phase ≡ true
writes_written phases.Orb op on places outgoing w = absurd w
writes_written (phases.HighEui orb) op on places outgoing w = absurd w
writes_written (phases.LowEui orb high) op on places outgoing w = absurd w
writes_written (phases.Response fifo) op on places outgoing w = refl
writes_written phases.Status op on places outgoing w = refl

module _ (m : Machine) (t : Table) (keys : List (List ℕ)) (answer : Answer) (on : Decided) (of : IsOrbOf m t.places answer on) (own : Operation) (is : m.operation ≡ Some own) where
  abbrev Left : ManagerStep × (Machine × Table) → Type 0
  Left r = (now : Operation) → r.1.0.operation ≡ Some now → is_written now.phase ≡ true → Asks r.0.ask own now on

  pick_left : (b : Bool) (x y : ManagerStep × (Machine × Table)) → Left x → Left y → Left (cond b x y)
  pick_left true x y h k = h
  pick_left false x y h k = k

  -- the ORB is the one that the reply brings
  fresh : (value : Decided) → is_written own.phase ≡ false → decided_by m.operation answer ≡ Some value → on ≡ value
  fresh value f e = by of
    where
      by : IsOrbOf m t.places answer on → on ≡ value
      by (brings b) = let both : Some on ≡ Some value = sym b ∙ e in cc
      by (goes_on was i w) =
          let same : was ≡ own = (let both : Some was ≡ Some own = sym i ∙ is in cc) in
          untrue (sym f ∙ ap (λ (x : Operation). is_written x.phase) (sym same) ∙ writes_written was.phase was on t.places m.outgoing w)

  brought_in : (phase : Phase) → own.phase ≡ phase → decided_by m.operation answer ≡ decided_in phase own.source answer
  brought_in phase p = ap (λ (o : Option Operation). decided_by o answer) is ∙ ap (λ (x : Phase). decided_in x own.source answer) p

  -- the response, or the status block where that is empty
  responds : (begun : Machine) (orb : ManagementOrb) (status : _) (b : Bool) → on.orb ≡ orb → (now : Operation) → (let s = cond b (status_step begun own orb.fifo status) (quiet (asks.Write orb.second (length begun.outgoing)), in_phase begun own (phases.Response orb.fifo)) in s.1.operation ≡ Some now → Asks s.0.ask own now on)
  responds begun orb status true e now f =
      let same : record own { phase = phases.Status } ≡ now = cc in
      record { at = orb.fifo; len = 8; is = refl; goes = subst (λ (x : Operation). GoesTo x.phase on orb.fifo) same (ap (λ (o : ManagementOrb). o.fifo) (sym e)); source = ap (λ (x : Operation). x.source) same }
  responds begun orb status false e now f =
      let same : record own { phase = phases.Response orb.fifo } ≡ now = cc in
      record { at = orb.second; len = length begun.outgoing; is = refl; goes = subst (λ (x : Operation). GoesTo x.phase on orb.second) same (ap (λ (o : ManagementOrb). o.second) (sym e)); source = ap (λ (x : Operation). x.source) same }

  decided_left : (orb : ManagementOrb) (x : Outcome × Table) → on.orb ≡ orb → Left (decided_as x m own orb)
  decided_left orb (outcome, table) e now f w =
      let begun = record m { outgoing = cut_response orb outcome table } in responds begun orb outcome.status (length begun.outgoing == 0) e now f

  decides : (orb : ManagementOrb) (eui : ℕ) → on.orb ≡ orb → Left (decide_step m own orb eui t keys)
  unfolding decide_step
  decides orb eui e = decided_left orb (decide orb own.source eui t keys) e

  reads_left : (phase : Phase) (at : ℕ) → is_written phase ≡ false → Left (beside t (eui_step m own phase at))
  reads_left phase at n now f w =
      let same : record own { phase = phase } ≡ now = cc in
      untrue (sym n ∙ ap (λ (x : Operation). is_written x.phase) same ∙ w)

  orb_left : (bytes : Result (List ℕ) FailCause) → payload_of answer 32 ≡ bytes → own.phase ≡ phases.Orb → Left (orb_got bytes m own t keys)
  orb_left (Err cause) e p now f w = none_goes now f
  orb_left (Ok bytes) e p now f w =
      let orb = management_orb bytes in
      let value : Decided = record { orb = management_orb (bytes_in answer); source = own.source; eui = 0 } in
      let is_on : on ≡ value = fresh value (ap is_written p) (brought_in phases.Orb p) in
      pick_left (reads_eui orb) (beside t (eui_step m own (phases.HighEui orb) high_eui_at)) (decide_step m own orb 0 t keys) (reads_left (phases.HighEui orb) high_eui_at refl)
      (decides orb 0 (ap (λ (x : Decided). x.orb) is_on ∙ ap management_orb (bytes_are answer 32 bytes e))) now f w

  high_left : (bytes : Result (List ℕ) FailCause) (orb : ManagementOrb) → Left (beside t (high_got bytes m own orb))
  high_left (Err cause) orb now f w = none_goes now f
  high_left (Ok bytes) orb now f w = reads_left (phases.LowEui orb (quad bytes 0)) _ refl now f w

  low_left : (bytes : Result (List ℕ) FailCause) (orb : ManagementOrb) (high : ℕ) → own.phase ≡ phases.LowEui orb high → Left (low_got bytes m own orb high t keys)
  low_left (Err cause) orb high p now f w = none_goes now f
  low_left (Ok bytes) orb high p now f w =
      let value : Decided = record { orb = orb; source = own.source; eui = high * 2 ^ 32 + quad (bytes_in answer) 0 } in
      decides orb (high * 2 ^ 32 + quad bytes 0) (ap (λ (x : Decided). x.orb) (fresh value (ap is_written p) (brought_in (phases.LowEui orb high) p))) now f w

  -- the status block behind a response goes to the FIFO that it was kept with
  kept_fifo : (fifo : ℕ) → own.phase ≡ phases.Response fifo → fifo ≡ on.orb.fifo
  kept_fifo fifo p = by of
    where
      by : IsOrbOf m t.places answer on → fifo ≡ on.orb.fifo
      by (brings b) = absurd (let no : None ≡ Some on = sym (brought_in (phases.Response fifo) p) ∙ b in cc)
      by (goes_on was i w) =
          let same : was ≡ own = (let both : Some was ≡ Some own = sym i ∙ is in cc) in
          (subst (λ (x : Phase). Writes x was on t.places m.outgoing) (ap (λ (x : Operation). x.phase) same ∙ p) w).fifo_is

  response_left : (failure : Option FailCause) (fifo : ℕ) → own.phase ≡ phases.Response fifo → Left (beside t (response_written failure m own fifo))
  response_left (Some cause) fifo p now f w = none_goes now f
  response_left None fifo p now f w =
      let same : record own { phase = phases.Status } ≡ now = cc in
      record { at = fifo; len = 8; is = refl; goes = subst (λ (x : Operation). GoesTo x.phase on fifo) same (kept_fifo fifo p); source = ap (λ (x : Operation). x.source) same }

  status_left : (failure : Option FailCause) → Left (beside t (status_written failure m))
  status_left None now f w = none_goes now f
  status_left (Some cause) now f w = none_goes now f

  phase_left : (phase : Phase) → own.phase ≡ phase → Left (reply_in phase m own t keys answer)
  phase_left phases.Orb p = orb_left (payload_of answer 32) refl p
  phase_left (phases.HighEui orb) p = high_left (payload_of answer 4) orb
  phase_left (phases.LowEui orb high) p = low_left (payload_of answer 4) orb high p
  phase_left (phases.Response fifo) p = response_left (write_failure answer) fifo p
  phase_left phases.Status p = status_left (write_failure answer)

  reply_asks : Left (reply_step m t keys answer)
  unfolding reply_step
  reply_asks = subst (λ (o : Option Operation). Left (reply_to o m t keys answer)) (sym is) (phase_left own.phase refl)

-- ---- what leaves

written_body : (b : Bool) (at : ℕ) (outgoing : List ℕ) (body : Body) → cond b (Some (block_write at outgoing)) None ≡ Some body → block_write at outgoing ≡ body
written_body true at outgoing body e = cc
written_body false at outgoing body e = absurd (let no : None ≡ Some body = e in cc)

module _ (node : NodeState) (g : Good node) where
  abbrev o : Office
  o = record { table = node.logins; keys = node.keys; manager = node.manager; manages = None; asks = Nothing; decided = None }

  module _ (p : Packet) (on : Decided) (of : IsOrbOf node.manager node.logins.places (answer_in p) on) (own : Operation) (is : node.manager.operation ≡ Some own) where
    -- the machine behind it is that of the step
    turned_handed : (lives : Lives) (x : Scene) → Turned (replied (answer_in p) o) lives own.source [] x → (op : Operation) → x.node.manager.operation ≡ Some op → x.node.manager ≡ (replied (answer_in p) o).manager → is_written op.phase ≡ true → (x.outbox.packets ≡ []) ⊎ IsHanded x.outbox.packets op x.node.manager.outgoing on
    turned_handed lives x t op f e w = by t.sends
      where
        step : Asks (replied (answer_in p) o).asks own op on
        step = reply_asks node.manager node.logins node.keys (answer_in p) on of own is op (sym (ap (λ (y : Machine). y.operation) e) ∙ f) w

        by : MayLeave (replied (answer_in p) o) lives own.source t.now x.node [] x.outbox.packets → (x.outbox.packets ≡ []) ⊎ IsHanded x.outbox.packets op x.node.manager.outgoing on
        by (silent from none) = inl none
        by (leaves l) =
            let asked_body : manager_body (asks.Write step.at step.len) x.node.manager.outgoing ≡ Some l.body =
            ap (λ a. manager_body a x.node.manager.outgoing) (sym (l.asks_are ∙ step.is)) ∙ ap (λ (y : Machine). manager_body t.now.asks y.outgoing) (sym t.agrees.manager) ∙ l.body_is in
            let body : block_write step.at x.node.manager.outgoing ≡ l.body = written_body (nat_le (length x.node.manager.outgoing) largest) step.at x.node.manager.outgoing l.body asked_body in
            inr (record {
              at = step.at;
              goes = step.goes;
              layer = l.layer;
              asked = l.asked;
              made =
                  ap (λ n. (asking_step l.layer n (block_write step.at x.node.manager.outgoing) purposes.Management).0) (sym step.source)
                  ∙ ap (λ b. (asking_step l.layer own.source b purposes.Management).0) body
                  ∙ ap (λ (r : Option Asked × Layer Purpose). r.0) l.step;
              packets_are = l.packets_are ∙ ap (λ n. request n l.asked ∷ []) step.source;
            })

  -- ---- a delivery

  -- the machine of the node behind it is that of the office, while an operation is under way
  module _ (keeps : CallsKeep node o) (told : Option Told) (disks : List Disk) (generation : ℕ) (bytes : List ℕ) (p : Packet) (label : LabelParts) (on : Decided) (of : IsOrbOf node.manager node.logins.places (answer_in p) on) where
    abbrev x : Scene
    x = scene_of (received told generation bytes (whole (scene node empty_outbox) disks)).1

    by_manager : (operation : Option Operation) → node.manager.operation ≡ operation → (layer : Layer Purpose) (lives : Lives) → Known layer lives → (op : Operation) → (let y = manage (answer_in p) (scene (record node { layer = layer }) empty_outbox) in y.node.manager.operation ≡ Some op → y.node.manager ≡ (replied (answer_in p) o).manager → is_written op.phase ≡ true → (y.outbox.packets ≡ []) ⊎ IsHanded y.outbox.packets op y.node.manager.outgoing on)
    unfolding manage
    by_manager None is layer lives k op f e w =
        inl (ap (λ (n : Option ℕ). (managed_in n (answer_in p) (scene (record node { layer = layer }) empty_outbox)).outbox.packets) (ap source_in is))
    by_manager (Some own) is layer lives k op f e w =
        turned_handed p on of own is lives (manage (answer_in p) (scene (record node { layer = layer }) empty_outbox))
        (replied_turn o lives own.source (answer_in p) (scene (record node { layer = layer }) empty_outbox) refl (record { lives = lives; known = k; before = λ q l kind h. h }) (record { table = refl; keys = refl; manager = refl }) g.table.sound (ap source_in is)) op f e w

    as_found : (f : Finding Purpose) (layer : Layer Purpose) → judging_step node.layer generation bytes ≡ (f, layer) → IsFound f node.layer layer bytes → f ≡ of_response p label (Some purposes.Management) → (op : Operation) → (let y = scene_of (received_as told bytes f (with_layer layer (whole (scene node empty_outbox) disks))).1 in y.node.manager.operation ≡ Some op → y.node.manager ≡ (replied (answer_in p) o).manager → is_written op.phase ≡ true → (y.outbox.packets ≡ []) ⊎ IsHanded y.outbox.packets op y.node.manager.outgoing on)
    unfolding concluded
    as_found f layer e i is op = subst (λ (h : Finding Purpose). IsFound h node.layer layer bytes → judging_step node.layer generation bytes ≡ (h, layer) → (let y = scene_of (received_as told bytes h (with_layer layer (whole (scene node empty_outbox) disks))).1 in y.node.manager.operation ≡ Some op → y.node.manager ≡ (replied (answer_in p) o).manager → is_written op.phase ≡ true → (y.outbox.packets ≡ []) ⊎ IsHanded y.outbox.packets op y.node.manager.outgoing on)) (sym is)
        (λ j d. (let c = closing_known node.layer layer g.lives generation bytes p label (Some purposes.Management) g.mid.known d j.kind in
        by_manager node.manager.operation refl layer (live_on (wire.closed (header_in p).source label c.kind (Some purposes.Management)) g.lives) c.known op)) i e

    handed : (judging_step node.layer generation bytes).0 ≡ of_response p label (Some purposes.Management) → (op : Operation) → x.node.manager.operation ≡ Some op → is_written op.phase ≡ true → (x.outbox.packets ≡ []) ⊎ IsHanded x.outbox.packets op x.node.manager.outgoing on
    unfolding received
    handed is op f w =
        let j = judging_step node.layer generation bytes in
        let kept = behind node g keeps x.outbox.sides (delivered j.0 node o) x.node (keeps.deliveries told disks generation bytes) op f in
        as_found j.0 j.1 refl (found node.layer generation bytes) is op f (kept ∙ ap (λ (h : Finding Purpose). (delivered h node o).manager) is) w

-- ---- an operation is started

answered_packets : (p : Packet) (bytes : List ℕ) (rcode : ℕ) (s : Scene) → (answered p bytes rcode [] s).outbox.packets ≡ s.outbox.packets ++ response p (answering_step s.node.layer p bytes rcode []).0 ∷ []
unfolding answer_step answering_step
answered_packets p bytes rcode s = refl

read_body : (orb : ℕ) (outgoing : List ℕ) (body : Body) → manager_body (asks.Read orb 32) outgoing ≡ Some body → block_read orb 32 ≡ body
read_body orb outgoing body e = (let same : Some (block_read orb 32) ≡ Some body = e in cc)

module _ (node : NodeState) (g : Good node) (p : Packet) (bytes : List ℕ) (orb : ℕ) (idle : node.manager.operation ≡ None) where
  reads_it : (started (header_in p).source orb (o node g)).asks ≡ asks.Read orb 32
  unfolding start_step
  reads_it = ap (λ (operation : Option Operation). (started_by (start_with operation node.manager (header_in p).source orb) (o node g)).asks) idle

  module _ (layer : Layer Purpose) (same : layer ≡ node.layer) where
    abbrev begun : Scene
    begun = scene (record node { layer = layer }) empty_outbox

    abbrev rcode : ℕ
    rcode = start_rcode node.manager.operation

    abbrev given : List ℕ
    given = (answering_step layer p bytes rcode []).0

    start_turn : Turned (started (header_in p).source orb (o node g)) g.lives (header_in p).source (answered p bytes rcode [] begun).outbox.packets (start orb p bytes begun)
    start_turn =
        started_turn (o node g) g.lives orb p bytes begun refl (record { lives = g.lives; known = subst (λ (l : Layer Purpose). Known l g.lives) (sym same) g.mid.known; before = λ q l kind h. h }) (record { table = refl; keys = refl; manager = refl })

    sends_read : MayLeave (started (header_in p).source orb (o node g)) g.lives (header_in p).source start_turn.now (start orb p bytes begun).node (answered p bytes rcode [] begun).outbox.packets (start orb p bytes begun).outbox.packets → IsStarted (start orb p bytes begun).outbox.packets p orb
    sends_read (silent from none) = record { answer = given; leaves = inl (none ∙ answered_packets p bytes rcode begun) }
    sends_read (leaves l) =
        let body : block_read orb 32 ≡ l.body =
        read_body orb start_turn.now.manager.outgoing l.body (ap (λ a. manager_body a start_turn.now.manager.outgoing) (sym (l.asks_are ∙ reads_it)) ∙ l.body_is) in
        record {
          answer = given;
          leaves = inr (record {
            layer = l.layer;
            asked = l.asked;
            made = ap (λ b. (asking_step l.layer (header_in p).source b purposes.Management).0) body ∙ ap (λ (r : Option Asked × Layer Purpose). r.0) l.step;
            packets_are = l.packets_are ∙ ap (λ packets. packets ++ request (header_in p).source l.asked ∷ []) (answered_packets p bytes rcode begun);
          });
        }

    started_packets : IsStarted (start orb p bytes begun).outbox.packets p orb
    started_packets = sends_read start_turn.sends

  -- as the request is served
  module _ (told : Option Told) (disks : List Disk) (generation : ℕ) (barred : is_barred node p ≡ false) (demand : demand_of (length node.rom) p ≡ demands.Manage orb) where
    serves_it : (layer : Layer Purpose) → layer ≡ node.layer → IsStarted (serve p bytes (scene (record node { layer = layer }) empty_outbox)).outbox.packets p orb
    unfolding serve
    serves_it layer same =
        subst (λ (d : Demand). IsStarted (served_as d p bytes (scene (record node { layer = layer }) empty_outbox)).outbox.packets p orb) (sym demand) (started_packets layer same)

    requests_it : (layer : Layer Purpose) → layer ≡ node.layer → IsStarted (request_step p bytes (scene (record node { layer = layer }) empty_outbox)).1.outbox.packets p orb
    unfolding request_step is_barred
    requests_it layer same =
        subst (λ b. IsStarted (cond {A = Judged × Scene} b (judgements.Ignored ignored.Login, answered p bytes address_error [] (scene (record node { layer = layer }) empty_outbox)) (judgements.Got, serve p bytes (scene (record node { layer = layer }) empty_outbox))).1.outbox.packets p orb) (sym barred) (serves_it layer same)

    received_it : (f : Finding Purpose) (layer : Layer Purpose) → IsFound f node.layer layer bytes → f ≡ of_request p → IsStarted (received_as told bytes f (with_layer layer (whole (scene node empty_outbox) disks))).1.outbox.packets p orb
    received_it f layer i e =
        subst (λ (h : Finding Purpose). IsFound h node.layer layer bytes → IsStarted (received_as told bytes h (with_layer layer (whole (scene node empty_outbox) disks))).1.outbox.packets p orb) (sym e) (λ j. requests_it layer j.0) i

    starts_it : (judging_step node.layer generation bytes).0 ≡ of_request p → IsStarted (received told generation bytes (whole (scene node empty_outbox) disks)).1.outbox.packets p orb
    unfolding received
    starts_it is = let j = judging_step node.layer generation bytes in received_it j.0 j.1 (found node.layer generation bytes) is

pub handed_law : HandedLaw
handed_law = record {
  replies = λ units ready calls has told disks generation bytes packet label on op is of f w.
      let node = after units ready calls in
      let good = all_good units ready calls has in
      handed node good (management_law units ready calls (record { table = node.logins; keys = node.keys; manager = node.manager; manages = None; asks = Nothing; decided = None }) has (record { table = refl; keys = refl; manager = refl })) told disks generation bytes packet label on of is op f w;
  starts = λ units ready calls has told disks generation bytes packet orb is barred demand idle.
      let node = after units ready calls in
      starts_it node (all_good units ready calls has) packet bytes orb idle told disks generation barred demand is;
}
