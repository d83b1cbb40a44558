-- What a status block with status 00 grants that waits for the login or the reconnect which an initiator has under way: a live login of its node, under the ID that the
-- response in its buffer names, with the base of the agent of a place; or that of the login which its host has. So it is from the decision on.
use Rattle.sbp_world.proofs.Words.Std.{arith, ◌≡◌, ◌∙◌, refl, sym, ap, subst, ◌⊎◌, inl, inr, ℕ, ◌^◌, ◌<◌, ◌≤◌, ◌==◌, nat_eq, Bool, true, false, List, length, take, Option, Some, None, nat_tests}
use Rattle.sbp_world.proofs.Words.Wire.{LabelParts, Packet, judging_step, of_response}
use Rattle.sbp_world.proofs.Words.Target.{Login, IsTable, Table, place_at, entered, Response, Operation, Status, agent_base, asked_by, decide, granted_hold, response_bytes, Enters, Returns, cut_response, status_block, function_of, NodeState, answer_in}
use Rattle.sbp_world.proofs.Words.Initiator.{start_of, LoginResponse, ManagementOrb, login_bytes, login_response, write_failure, Running, InitiatorState, response_of}
use Rattle.sbp_world.proofs.Words.World.{AreSame, is_written, HasLogin, HasBase}
use Rattle.bus_memory.specs.declared.window.Window.TheVariants as windows
use Rattle.mgmt_agent.proofs.Doing.{effects_of_decisions}
use Rattle.mgmt_agent.proofs.Outcomes.{refusals_do_nothing}
use Rattle.mgmt_agent.specs.declared.decision.Outcome.{Outcome}
use Rattle.mgmt_agent.specs.declared.decision.Response.TheVariants as responses
use Rattle.mgmt_agent.specs.declared.function.Function.TheVariants as functions
use Rattle.mgmt_agent.specs.declared.operation.Phase.TheVariants as phases
use Rattle.mgmt_agent.specs.declared.status.Status.TheVariants as statuses
use Rattle.mgmt_agent.specs.Machine.{Machine}
use Rattle.sbp_journal.specs.declared.operation.Operation.TheVariants as operations
use Rattle.sbp_target.specs.declared.purpose.Purpose.TheVariants as purposes
use Rattle.sbp_world.proofs.Sessions.Logins.{decides as others_stand, same}
use Rattle.sbp_world.proofs.Lists.LiveBlocks.{none_zero, same_status}
use Rattle.sbp_world.proofs.Lists.LiveCalls.{HasLogins, HasOperation, StandsStill, answered, replies, starts, stays, untouched}
use Rattle.sbp_world.proofs.Lists.LiveReplies.{IsDecidedOn, Logged, WritesFirst, decides, granted, reads, responds, stands}
use Rattle.sbp_world.proofs.Lists.LiveStandings.{good_block}
use Rattle.sbp_world.proofs.Lists.LiveTables.{same_has}
use Rattle.sbp_world.proofs.Lists.LiveTargets.{IsWrittenNow}
use Rattle.sbp_world.proofs.Sessions.Decisions.{take_none}

-- a response names a live login of a node, and has the base of the agent of its place
pub record Names (places : List (Option Login)) (id : ℕ) (response : LoginResponse) : Type 0 where
  pub has : HasLogin places id response.login
  pub based : HasBase response
  pub same : based.place ≡ has.place

-- what a response that is written grants, by the operation that its initiator has under way, and the number of the login of its host
pub record Responded (places : List (Option Login)) (id own : ℕ) (bytes : List ℕ) (s : InitiatorState) : Type 0 where
  pub logs_in : (running : Running) → s.operation ≡ Some running → running.operation ≡ operations.Login → Names places id (login_response bytes)
  pub long : (running : Running) → s.operation ≡ Some running → running.operation ≡ operations.Login → length bytes ≡ 16
  pub comes_back : (running : Running) → s.operation ≡ Some running → running.operation ≡ operations.Reconnect → HasLogin places id own

-- what a status of 00 grants
pub record Granted (places : List (Option Login)) (id own : ℕ) (s : InitiatorState) : Type 0 where
  pub logs_in : (running : Running) → s.operation ≡ Some running → running.operation ≡ operations.Login → Names places id (login_response (response_of running s))
  pub comes_back : (running : Running) → s.operation ≡ Some running → running.operation ≡ operations.Reconnect → HasLogin places id own

-- of the node with an ID, by what the target's management does for it, and the status blocks that wait
pub record Grants (Active : Type 0) (Tells : ℕ → List ℕ → Type 0) (id own : ℕ) (m : Machine) (places : List (Option Login)) (s : InitiatorState) : Type 0 where
  pub responding : (op : Operation) → m.operation ≡ Some op → op.source ≡ id → Active → (fifo : ℕ) → op.phase ≡ phases.Response fifo → Responded places id own m.outgoing s
  pub status : (op : Operation) → m.operation ≡ Some op → op.source ≡ id → Active → op.phase ≡ phases.Status → m.outgoing ≡ good_block op.orb → Granted places id own s
  pub told : (orb : ℕ) (bytes : List ℕ) → Tells orb bytes → bytes ≡ good_block orb → Granted places id own s

-- the ORB that is decided is that of the entry which an initiator has under way
pub record IsEntry (own : ℕ) (s : InitiatorState) (orb : ManagementOrb) : Type 0 where
  pub login : (running : Running) → s.operation ≡ Some running → running.operation ≡ operations.Login → (function_of orb.function ≡ Some functions.Login) × (orb.response_length ≡ 16)
  pub reconnect : (running : Running) → s.operation ≡ Some running → running.operation ≡ operations.Reconnect → (function_of orb.function ≡ Some functions.Reconnect) × (orb.subject ≡ own)

-- ---- a decision

login_back : (response : LoginResponse) → response.login < 2 ^ 16 → (login_response (login_bytes response)).login ≡ response.login
login_back response l = omega arith

agent_back : (response : LoginResponse) → response.agent < 2 ^ 48 → (login_response (login_bytes response)).agent ≡ response.agent
agent_back response l = omega arith

base_small : (place : ℕ) → place < 8 → agent_base place < 2 ^ 48
base_small place l = omega arith

module _ (orb : ManagementOrb) (source eui : ℕ) (t : Table) (keys : List (List ℕ)) (sound : IsTable t) where
  abbrev r : Outcome × Table
  r = decide orb source eui t keys

  nothing_written : (response : Response) (places : List (Option Login)) → response ≡ responses.Nothing → length (take orb.response_length (response_bytes response places)) ≡ 0
  unfolding response_bytes
  nothing_written response places e = ap (λ (x : Response). length (take orb.response_length (response_bytes x places))) e ∙ take_none orb.response_length

  refused : {A : Type 0} → (length (cut_response orb r.0 r.1) == 0) ≡ false → (r.0.status ≡ statuses.NoFault → ⊥) → A
  refused e n =
      let size : length (cut_response orb r.0 r.1) ≡ 0 = nothing_written r.0.response r.1.places (refusals_do_nothing orb source eui t keys n).response in
      let yes : (length (cut_response orb r.0 r.1) == 0) ≡ true = grind (arith, nat_tests) in
      absurd (let no : true ≡ false = sym yes ∙ e in cc)

  -- a response is written where the status is 00 alone
  good_by : (length (cut_response orb r.0 r.1) == 0) ≡ false → (status : Status) → r.0.status ≡ status → r.0.status ≡ statuses.NoFault
  good_by e statuses.NoFault f = f
  good_by e statuses.RequestType f = refused e (λ s. let differ : statuses.RequestType ≡ statuses.NoFault = sym f ∙ s in cc)
  good_by e statuses.AccessDenied f = refused e (λ s. let differ : statuses.AccessDenied ≡ statuses.NoFault = sym f ∙ s in cc)
  good_by e statuses.LogicalUnit f = refused e (λ s. let differ : statuses.LogicalUnit ≡ statuses.NoFault = sym f ∙ s in cc)
  good_by e statuses.Resources f = refused e (λ s. let differ : statuses.Resources ≡ statuses.NoFault = sym f ∙ s in cc)
  good_by e statuses.FunctionRejected f = refused e (λ s. let differ : statuses.FunctionRejected ≡ statuses.NoFault = sym f ∙ s in cc)
  good_by e statuses.LoginId f = refused e (λ s. let differ : statuses.LoginId ≡ statuses.NoFault = sym f ∙ s in cc)

  good : (length (cut_response orb r.0 r.1) == 0) ≡ false → r.0.status ≡ statuses.NoFault
  good e = good_by e r.0.status refl

  -- that of a login
  module _ (login : function_of orb.function ≡ Some functions.Login) (long : orb.response_length ≡ 16) (status : r.0.status ≡ statuses.NoFault) where
    login_written : (response : Response) (places : List (Option Login)) (own : LoginResponse) → response ≡ responses.Login own → take orb.response_length (response_bytes response places) ≡ login_bytes own
    unfolding response_bytes
    login_written response places own e = ap (λ n. take n (response_bytes response places)) long ∙ ap (λ (x : Response). take 16 (response_bytes x places)) e

    enters : Enters orb source eui r.0 r.1
    enters = effects_of_decisions functions.Login orb source eui t keys sound login status

    abbrev own : LoginResponse
    own = record { login = r.0.login; agent = agent_base enters.place; hold = granted_hold orb.reconnect }

    written : cut_response orb r.0 r.1 ≡ login_bytes own
    written = login_written r.0.response r.1.places own enters.response

    pub long_response : length (cut_response orb r.0 r.1) ≡ 16
    long_response = ap (λ (xs : List ℕ). length xs) written

    pub filled : (length (cut_response orb r.0 r.1) == 0) ≡ true → ⊥
    filled e = let no : false ≡ true = sym (ap (λ (xs : List ℕ). length xs == 0) written) ∙ e in cc

    pub names : IsTable r.1 → Names r.1.places source (login_response (cut_response orb r.0 r.1))
    names left =
        let numbered = left.sound.numbered enters.place (entered (asked_by orb source eui) enters.place r.0.login) enters.stands in
        let most : r.0.login ≤ 65535 = numbered.most in
        let below : enters.place < 8 = numbered.below in
        record {
          has = record {
            place = enters.place;
            login = entered (asked_by orb source eui) enters.place r.0.login;
            there = enters.stands;
            live = refl;
            of_node = refl;
            own = sym (ap (λ (xs : List ℕ). (login_response xs).login) written ∙ login_back own (omega (arith, most)));
          };
          based = record { place = enters.place; small = below; base = ap (λ (xs : List ℕ). (login_response xs).agent) written ∙ agent_back own (base_small enters.place below) };
          same = refl;
        }

  -- a reconnect
  pub is_back : function_of orb.function ≡ Some functions.Reconnect → r.0.status ≡ statuses.NoFault → HasLogin r.1.places source orb.subject
  is_back e status =
      let d : Returns orb.subject source r.0 r.1 = effects_of_decisions functions.Reconnect orb source eui t keys sound e status in
      record { place = d.place; login = d.stands.login; there = d.stands.stands; live = d.stands.live; of_node = d.stands.of_node; own = d.stands.own }

-- the status of a block
good_is : (orb place : ℕ) → place < 2 → orb ≡ start_of (windows.Management place) → (status : Status) → status_block orb status ≡ good_block orb → status ≡ statuses.NoFault
good_is orb place small at status e =
    none_zero status (same_status place small status statuses.NoFault (sym (ap (λ n. status_block n status) at) ∙ e ∙ ap (λ n. good_block n) at))

-- ---- a call of the target
module _ (id own : ℕ) (Active Acts : Type 0) (Tells Waits : ℕ → List ℕ → Type 0) (node now : NodeState) (s : InitiatorState) (g : Grants Active Tells id own node.manager node.logins.places s) (back : (op : Operation) → node.manager.operation ≡ Some op → op.source ≡ id → Acts → Active) (waits : (orb : ℕ) (bytes : List ℕ) → Waits orb bytes → Tells orb bytes ⊎ IsWrittenNow Acts id now.manager orb bytes) where
  abbrev before : List (Option Login)
  before = node.logins.places

  abbrev after : List (Option Login)
  after = now.logins.places

  module _ (k : AreSame id before after) where
    names_same : {response : LoginResponse} → Names before id response → Names after id response
    names_same n = record { has = record { place = n.has.place; login = n.has.login; there = k.keeps n.has.place n.has.login n.has.there n.has.live n.has.of_node; live = n.has.live; of_node = n.has.of_node; own = n.has.own }; based = n.based; same = n.same }

    responded_same : {bytes : List ℕ} → Responded before id own bytes s → Responded after id own bytes s
    responded_same r = record { logs_in = λ running is e. names_same (r.logs_in running is e); long = r.long; comes_back = λ running is e. same_has id before after k own (r.comes_back running is e) }

    granted_same : Granted before id own s → Granted after id own s
    granted_same r = record { logs_in = λ running is e. names_same (r.logs_in running is e); comes_back = λ running is e. same_has id before after k own (r.comes_back running is e) }

  abbrev Left : Type 0
  Left = Grants Acts Waits id own now.manager now.logins.places s

  -- what waits
  told_by : ((op : Operation) → now.manager.operation ≡ Some op → op.source ≡ id → Acts → op.phase ≡ phases.Status → now.manager.outgoing ≡ good_block op.orb → Granted after id own s) → ((orb : ℕ) (bytes : List ℕ) → Tells orb bytes → bytes ≡ good_block orb → Granted after id own s) → (orb : ℕ) (bytes : List ℕ) → Tells orb bytes ⊎ IsWrittenNow Acts id now.manager orb bytes → bytes ≡ good_block orb → Granted after id own s
  told_by status old orb bytes (inl t) e = old orb bytes t e
  told_by status old orb bytes (inr x) e = status x.op x.is x.own x.served x.phase (sym x.bytes_are ∙ e ∙ ap (λ n. good_block n) x.orb_is)

  was_there : (op : Operation) → now.manager ≡ node.manager → now.manager.operation ≡ Some op → node.manager.operation ≡ Some op
  was_there op e is = sym (ap (λ (m : Machine). m.operation) e) ∙ is

  -- its operation stays
  responding_stays : AreSame id before after → (op : Operation) → now.manager ≡ node.manager → now.manager.operation ≡ Some op → op.source ≡ id → Acts → (fifo : ℕ) → op.phase ≡ phases.Response fifo → Responded after id own now.manager.outgoing s
  responding_stays k op m is of acts fifo p =
      subst (λ (x : Machine). Responded after id own x.outgoing s) (sym m) (responded_same k (g.responding op (was_there op m is) of (back op (was_there op m is) of acts) fifo p))

  status_stays : AreSame id before after → (op : Operation) → now.manager ≡ node.manager → now.manager.operation ≡ Some op → op.source ≡ id → Acts → op.phase ≡ phases.Status → now.manager.outgoing ≡ good_block op.orb → Granted after id own s
  status_stays k op m is of acts p e =
      granted_same k (g.status op (was_there op m is) of (back op (was_there op m is) of acts) p (ap (λ (x : Machine). x.outgoing) (sym m) ∙ e))

  pub still_grants : StandsStill node now → Left
  still_grants still =
      let k = still.logins id in
      record {
        responding = λ op is of acts fifo p. responding_stays k op (still.operation op is) is of acts fifo p;
        status = λ op is of acts p e. status_stays k op (still.operation op is) is of acts p e;
        told = λ orb bytes t e. told_by (λ op is of acts p f. status_stays k op (still.operation op is) is of acts p f) (λ n xs x f. granted_same k (g.told n xs x f)) orb bytes (waits orb bytes t) e;
      }

  -- ---- a delivery
  module _ (generation : ℕ) (bytes : List ℕ) (sound : IsTable node.logins) (left : IsTable now.logins)
      (entry : (p : Packet) (label : LabelParts) → (judging_step node.layer generation bytes).0 ≡ of_response p label (Some purposes.Management) → (left : Table) (d : IsDecidedOn node.manager node.logins node.keys (answer_in p) left) → d.was.source ≡ id → IsEntry own s d.on.orb)
      (silent : (op : Operation) → node.manager.operation ≡ Some op → op.source ≡ id → is_written op.phase ≡ false → (orb : ℕ) (outgoing : List ℕ) → Tells orb outgoing → ⊥)
      (placed : (op : Operation) → node.manager.operation ≡ Some op → op.source ≡ id → (place : ℕ) × ((place < 2) × (op.orb ≡ start_of (windows.Management place))))
      (stored : (op : Operation) (fifo : ℕ) → node.manager.operation ≡ Some op → op.source ≡ id → Active → op.phase ≡ phases.Response fifo → (p : Packet) (label : LabelParts) → (judging_step node.layer generation bytes).0 ≡ of_response p label (Some purposes.Management) → write_failure (answer_in p) ≡ None → (running : Running) → s.operation ≡ Some running → running.operation ≡ operations.Login → length node.manager.outgoing ≡ 16 → login_response (response_of running s) ≡ login_response node.manager.outgoing) where
    -- the live logins of the node stand, or its operation is decided
    data Tables : Type 0 where
      table_same : AreSame id before after → Tables
      table_decided : (p : Packet) (d : IsDecidedOn node.manager node.logins node.keys (answer_in p) now.logins) → d.was.source ≡ id → Tables

    equal : now.logins ≡ node.logins → AreSame id before after
    equal e = subst (λ (t : Table). AreSame id before t.places) (sym e) (same id before)

    not_own : (source : ℕ) → nat_eq source id ≡ false → source ≡ id → ⊥
    not_own source e f = let yes : nat_eq source id ≡ true = grind (arith, nat_tests) in let no : false ≡ true = sym e ∙ yes in cc

    by_logged : (p : Packet) → Logged node.manager node.logins node.keys (answer_in p) now.logins → Tables
    by_logged p (stands e) = table_same (equal e)
    by_logged p (granted d) = by (nat_eq d.was.source id) refl
      where
        by : (b : Bool) → nat_eq d.was.source id ≡ b → Tables
        by true e = table_decided p d (grind (arith, nat_tests))
        by false e =
            table_same (subst (λ (t : Table). AreSame id before t.places) (sym d.left_is)
            (others_stand id d.on.orb d.on.source d.on.eui (λ f. not_own d.was.source e (sym d.source_is ∙ f)) node.logins node.keys))

    by_logins : HasLogins node generation bytes now.logins → Tables
    by_logins (untouched e) = table_same (equal e)
    by_logins (answered p label found l) = by_logged p l

    old_told : Tables → (orb : ℕ) (outgoing : List ℕ) → Tells orb outgoing → outgoing ≡ good_block orb → Granted after id own s
    old_told (table_same k) orb outgoing t e = granted_same k (g.told orb outgoing t e)
    old_told (table_decided p d of) orb outgoing t e = absurd (silent d.was d.is of d.unwritten orb outgoing t)

    -- its operation is decided
    module _ (p : Packet) (label : LabelParts) (found : (judging_step node.layer generation bytes).0 ≡ of_response p label (Some purposes.Management)) (d : IsDecidedOn node.manager node.logins node.keys (answer_in p) now.logins) (of : d.was.source ≡ id) (op : Operation) (out : WritesFirst now.manager op d.on.orb (decide d.on.orb d.on.source d.on.eui node.logins node.keys)) where
      abbrev D : Outcome × Table
      D = decide d.on.orb d.on.source d.on.eui node.logins node.keys

      e_is : IsEntry own s d.on.orb
      e_is = entry p label found now.logins d of

      id_is : d.on.source ≡ id
      id_is = d.source_is ∙ of

      left_there : IsTable D.1
      left_there = subst IsTable d.left_is left

      has_here : {number : ℕ} → HasLogin D.1.places d.on.source number → HasLogin after id number
      has_here h = record { place = h.place; login = h.login; there = ap (λ (t : Table). place_at t.places h.place) d.left_is ∙ h.there; live = h.live; of_node = h.of_node ∙ id_is; own = h.own }

      module _ (fifo : ℕ) (phase : op.phase ≡ phases.Response fifo) where
        decided_good : D.0.status ≡ statuses.NoFault
        decided_good = good d.on.orb d.on.source d.on.eui node.logins node.keys sound (out.response fifo phase).1

        decided_responded : Responded after id own now.manager.outgoing s
        unfolding has_here
        decided_responded = record {
          logs_in = λ running is e.
              let x = e_is.login running is e in
              let n = names d.on.orb d.on.source d.on.eui node.logins node.keys sound x.0 x.1 decided_good left_there in
              subst (λ (xs : List ℕ). Names after id (login_response xs)) (sym (out.response fifo phase).0) (record { has = has_here n.has; based = n.based; same = n.same });
          long = λ running is e.
              let x = e_is.login running is e in
              ap (λ (xs : List ℕ). length xs) (out.response fifo phase).0 ∙ long_response d.on.orb d.on.source d.on.eui node.logins node.keys sound x.0 x.1 decided_good;
          comes_back = λ running is e.
              let x = e_is.reconnect running is e in
              has_here (subst (λ n. HasLogin D.1.places d.on.source n) x.1 (is_back d.on.orb d.on.source d.on.eui node.logins node.keys sound x.0 decided_good));
        }

      module _ (orb_is : d.was.orb ≡ op.orb) (phase : op.phase ≡ phases.Status) (e : now.manager.outgoing ≡ good_block op.orb) where
        status_good : D.0.status ≡ statuses.NoFault
        status_good =
            let x = placed d.was d.is of in
            good_is op.orb x.0 x.1.0 (sym orb_is ∙ x.1.1) D.0.status (sym (out.status phase).0 ∙ e)

        decided_granted : Granted after id own s
        decided_granted = record {
          logs_in = λ running is f.
              let x = e_is.login running is f in
              absurd (filled d.on.orb d.on.source d.on.eui node.logins node.keys sound x.0 x.1 status_good (out.status phase).1);
          comes_back = λ running is f.
              let x = e_is.reconnect running is f in
              has_here (subst (λ n. HasLogin D.1.places d.on.source n) x.1 (is_back d.on.orb d.on.source d.on.eui node.logins node.keys sound x.0 status_good));
        }

    no_phase : {A : Type 0} (op : Operation) (b : Bool) → is_written op.phase ≡ b → b ≡ false → is_written op.phase ≡ true → A
    no_phase op true e f w = absurd (let no : true ≡ false = f in cc)
    no_phase op false e f w = absurd (let no : false ≡ true = sym e ∙ w in cc)

    other_phase : {A : Type 0} (op : Operation) (fifo : ℕ) → op.phase ≡ phases.Status → op.phase ≡ phases.Response fifo → A
    other_phase op fifo e f = absurd (let no : phases.Status ≡ phases.Response fifo = sym e ∙ f in cc)

    responding_now : (op : Operation) → now.manager.operation ≡ Some op → op.source ≡ id → Acts → (fifo : ℕ) → op.phase ≡ phases.Response fifo → HasOperation node generation bytes now op → Responded after id own now.manager.outgoing s
    responding_now op is of acts fifo p (stays m l) = responding_stays (equal l) op m is of acts fifo p
    responding_now op is of acts fifo p (starts a l) = no_phase op (is_written op.phase) refl (ap is_written a.phase) (ap is_written p)
    responding_now op is of acts fifo p (replies q label found (reads was there source b a l)) = no_phase op (is_written op.phase) refl a (ap is_written p)
    responding_now op is of acts fifo p (replies q label found (responds was there source orb other w failure phase out l)) = other_phase op fifo phase p
    responding_now op is of acts fifo p (replies q label found (decides d source orb w out)) = decided_responded q label found d (source ∙ of) op out fifo p

    -- the response was written: what stands in the buffer is what it was
    wrote : (was op : Operation) → node.manager.operation ≡ Some was → was.source ≡ op.source → op.source ≡ id → Acts → (fifo : ℕ) → was.phase ≡ phases.Response fifo → (p : Packet) (label : LabelParts) → (judging_step node.layer generation bytes).0 ≡ of_response p label (Some purposes.Management) → write_failure (answer_in p) ≡ None → AreSame id before after → Granted after id own s
    wrote was op there source of acts fifo w p label found failure k =
        let active = back was there (source ∙ of) acts in
        let r = g.responding was there (source ∙ of) active fifo w in
        granted_same k (record {
          logs_in = λ running is e. subst (λ (x : LoginResponse). Names before id x) (sym (stored was fifo there (source ∙ of) active w p label found failure running is e (r.long running is e))) (r.logs_in running is e);
          comes_back = r.comes_back;
        })

    status_now : (op : Operation) → now.manager.operation ≡ Some op → op.source ≡ id → Acts → op.phase ≡ phases.Status → now.manager.outgoing ≡ good_block op.orb → HasOperation node generation bytes now op → Granted after id own s
    status_now op is of acts p e (stays m l) = status_stays (equal l) op m is of acts p e
    status_now op is of acts p e (starts a l) = no_phase op (is_written op.phase) refl (ap is_written a.phase) (ap is_written p)
    status_now op is of acts p e (replies q label found (reads was there source b a l)) = no_phase op (is_written op.phase) refl a (ap is_written p)
    status_now op is of acts p e (replies q label found (responds was there source orb fifo w failure phase out l)) = wrote was op there source of acts fifo w q label found failure (equal l)
    status_now op is of acts p e (replies q label found (decides d source orb w out)) = decided_granted q label found d (source ∙ of) op out orb p e

    pub delivery_grants : HasLogins node generation bytes now.logins → ((op : Operation) → now.manager.operation ≡ Some op → HasOperation node generation bytes now op) → Left
    delivery_grants logins operation = record {
      responding = λ op is of acts fifo p. responding_now op is of acts fifo p (operation op is);
      status = λ op is of acts p e. status_now op is of acts p e (operation op is);
      told = λ orb outgoing t e. told_by (λ op is of acts p f. status_now op is of acts p f (operation op is)) (old_told (by_logins logins)) orb outgoing (waits orb outgoing t) e;
    }

-- ---- a turn that is none of the target

-- the operation under way is as it was, and so is the response in its buffer
pub kept_grants : (id own now : ℕ) (Active Acts : Type 0) (Tells Waits : ℕ → List ℕ → Type 0) (m : Machine) (places : List (Option Login)) (s t : InitiatorState) → Grants Active Tells id own m places s → ((op : Operation) → m.operation ≡ Some op → op.source ≡ id → Acts → Active) → ((orb : ℕ) (bytes : List ℕ) → Waits orb bytes → Tells orb bytes) → t.operation ≡ s.operation → ((running : Running) → t.operation ≡ Some running → now ≡ own)
    → ((op : Operation) → m.operation ≡ Some op → op.source ≡ id → Active → op.phase ≡ phases.Status → (running : Running) → t.operation ≡ Some running → response_of running t ≡ response_of running s)
    → ((orb : ℕ) (bytes : List ℕ) → Tells orb bytes → (running : Running) → t.operation ≡ Some running → response_of running t ≡ response_of running s)
    → Grants Acts Waits id now m places t
kept_grants id own now Active Acts Tells Waits m places s t g back tells operation number status_buffer told_buffer = record {
  responding = λ op is of acts fifo p.
      let r = g.responding op is of (back op is of acts) fifo p in
      record { logs_in = λ running e f. r.logs_in running (sym operation ∙ e) f; long = λ running e f. r.long running (sym operation ∙ e) f; comes_back = λ running e f. subst (λ n. HasLogin places id n) (sym (number running e)) (r.comes_back running (sym operation ∙ e) f) };
  status = λ op is of acts p e. granted_on (g.status op is of (back op is of acts) p e) (status_buffer op is of (back op is of acts) p);
  told = λ orb bytes x e. granted_on (g.told orb bytes (tells orb bytes x) e) (told_buffer orb bytes (tells orb bytes x));
}
  where
    granted_on : Granted places id own s → ((running : Running) → t.operation ≡ Some running → response_of running t ≡ response_of running s) → Granted places id now t
    granted_on r buffer = record {
      logs_in = λ running e f. subst (λ (xs : List ℕ). Names places id (login_response xs)) (sym (buffer running e)) (r.logs_in running (sym operation ∙ e) f);
      comes_back = λ running e f. subst (λ n. HasLogin places id n) (sym (number running e)) (r.comes_back running (sym operation ∙ e) f);
    }

-- none is under way
pub none_grants : (id own : ℕ) (Active : Type 0) (Tells : ℕ → List ℕ → Type 0) (m : Machine) (places : List (Option Login)) (s : InitiatorState) → s.operation ≡ None → Grants Active Tells id own m places s
none_grants id number Active Tells m places s e = record {
  responding = λ op is of acts fifo p. record { logs_in = λ running f g. none running f; long = λ running f g. none running f; comes_back = λ running f g. none running f };
  status = λ op is of acts p f. record { logs_in = λ running f g. none running f; comes_back = λ running f g. none running f };
  told = λ orb bytes t f. record { logs_in = λ running f g. none running f; comes_back = λ running f g. none running f };
}
  where
    none : {A : Type 0} (running : Running) → s.operation ≡ Some running → A
    none running f = absurd (let no : None ≡ Some running = sym e ∙ f in cc)

-- nothing is in hand
pub idle_grants : (id own : ℕ) (Active : Type 0) (Tells : ℕ → List ℕ → Type 0) (m : Machine) (places : List (Option Login)) (s : InitiatorState) → ((op : Operation) → m.operation ≡ Some op → op.source ≡ id → Active → ⊥) → ((orb : ℕ) (bytes : List ℕ) → Tells orb bytes → ⊥) → Grants Active Tells id own m places s
idle_grants id number Active Tells m places s idle silent = record {
  responding = λ op is of acts fifo p. absurd (idle op is of acts);
  status = λ op is of acts p f. absurd (idle op is of acts);
  told = λ orb bytes t f. absurd (silent orb bytes t);
}
