-- The management agent asks for addresses of 48 bits, of the node whose operation is under way; and what it makes of the logins.
use Rattle.sbp_world.proofs.Words.Std.{arith, ◌≡◌, refl, sym, ap, ◌∙◌, subst, ℕ, ◌+◌, ◌-◌, ◌*◌, ◌^◌, ◌<◌, ◌==◌, not, Bool, true, false, cond, List, [], ◌∷◌, length, Option, Some, None, Result, Ok, Err, get_or-map, quad}
use Rattle.sbp_world.proofs.Words.Wire.{AreBytes}
use Rattle.sbp_world.proofs.Words.Target.{Login, LoginRequest, Table, back_at, back_step, back_to, enter_at, enter_step, find, id_at, is_denied, is_held, is_last, is_live_of, is_old, one_less, leave_at, leave_step, left_for, place_at, tick_step, without, ManagerStep, Response, Function, Busy, Operation, Status, function_of, number_of, asked_by, decide, decide_function, entries_of, key_at, lacks_key, reads_eui, response_bytes, unit_exists, beside, cut_response, decide_step, decided_as, eui_step, high_eui_at, high_got, low_eui_at, low_got, orb_got, reply_in, reply_to, respond_step, response_written, start_step, start_with, status_step, status_written}
use Rattle.sbp_world.proofs.Words.Initiator.{Ask, FailCause, ManagementOrb, QueryEntry, login_quads, management_orb, quad_bytes, entries_bytes, entry_quads, query_head, Answer, payload_of, write_failure}
use Rattle.sbp_world.proofs.Words.World.{FitsLogin, FitsManagement, FitsManager, FitsOperation, FitsPhase, IsOfKnown}
use Rattle.std.proofs.Common.{is_none, position}
use Rattle.bus_transactions.proofs.Fits.{bytes_append, bytes_take, no_bytes, put_or}
use Rattle.login_table.specs.Table.{is_barred, ticked}
use Rattle.mgmt_agent.specs.declared.decision.Outcome.{Outcome}
use Rattle.mgmt_agent.specs.declared.decision.Response.TheVariants as responses
use Rattle.mgmt_agent.specs.declared.function.Function.TheVariants as functions
use Rattle.mgmt_agent.specs.declared.operation.Phase.{Phase}
use Rattle.mgmt_agent.specs.declared.operation.Phase.TheVariants as phases
use Rattle.mgmt_agent.specs.declared.status.Status.TheVariants as statuses
use Rattle.mgmt_agent.specs.Machine.{Machine, fail_step, reply_step}
use Rattle.orb_layout.specs.declared.ask.Ask.TheVariants as asks
use Rattle.orb_layout.specs.declared.status.StatusKind.TheVariants as kinds
use Rattle.sbp_world.proofs.FitTarget.Agents.{BytesIn, BytesRead, FitsAsk, offset_fits, payload_bytes, quads_bytes, status_small}

module _ (known : ℕ → Type 0) where
  -- ---- a place of the logins, before and after
  pub record Turns (before now : Option Login) : Type 0 where
    pub fits : FitsLogin known before → FitsLogin known now
    pub of : IsOfKnown known before → IsOfKnown known now

  pub turns_self : (login : Option Login) → Turns login login
  turns_self login = record { fits = λ f. f; of = λ f. f }

  turns_none : (login : Option Login) → Turns login None
  turns_none login = record { fits = λ f. tt; of = λ f. tt }

  abbrev pub AllTurn : Table → Table → Type 0
  AllTurn before now = (p : ℕ) → Turns (place_at before.places p) (place_at now.places p)

  pub all_stay : (table : Table) → AllTurn table table
  all_stay table p = turns_self (place_at table.places p)

  pick_table : {A : Type 0} (b : Bool) (before : Table) (x y : A × Table) → AllTurn before x.1 → AllTurn before y.1 → AllTurn before (cond b x y).1
  pick_table true before x y f g = f
  pick_table false before x y f g = g

  -- a login is entered
  lefts : (found : Option ℕ) (places : List (Option Login)) (p : ℕ) → Turns (place_at places p) (place_at (without found places) p)
  lefts None places p = turns_self (place_at places p)
  lefts (Some place) places p = put_or (λ x. Turns (place_at places p) x) places place p None None (λ e. turns_none (place_at places p)) (turns_self (place_at places p))

  all_left : (asked : LoginRequest) (places : List (Option Login)) (p : ℕ) → Turns (place_at places p) (place_at (left_for asked places) p)
  unfolding left_for
  all_left asked places p = lefts (find (is_old asked) places) places p

  enters_at : (place : Option ℕ) (table : Table) (left : List (Option Login)) (replaced : Option ℕ) (asked : LoginRequest) → known asked.node → asked.fifo < 2 ^ 48 → ((p : ℕ) → Turns (place_at table.places p) (place_at left p)) → AllTurn table (enter_at place table left replaced asked).1
  enters_at None table left replaced asked k f h p = turns_self (place_at table.places p)
  enters_at (Some place) table left replaced asked k f h p =
      put_or (λ x. Turns (place_at table.places p) x) left place p _ None (λ e. record { fits = λ g. (f, λ l. k); of = λ g. k }) (h p)

  pub enters : (table : Table) (asked : LoginRequest) → known asked.node → asked.fifo < 2 ^ 48 → AllTurn table (enter_step table asked).1
  unfolding enter_step
  enters table asked k f =
      pick_table (is_denied asked table.places) table _ _ (all_stay table)
      (enters_at (position is_none (left_for asked table.places)) table (left_for asked table.places) (id_at (find (is_old asked) table.places) table.places) asked k f (all_left asked table.places))

  -- a login is live again
  backs_to : (login : Option Login) (table : Table) (place node eui : ℕ) → place_at table.places place ≡ login → known node → AllTurn table (back_to login table place node eui).1
  backs_to None table place node eui e k = all_stay table
  backs_to (Some login) table place node eui e k =
      pick_table (is_barred node eui login table.places) table _ _ (all_stay table)
      (λ p. put_or (λ x. Turns (place_at table.places p) x) table.places place p _ None
      (λ s. record { fits = λ g. ((subst (λ (x : Option Login). FitsLogin known x) (ap (place_at table.places) s ∙ e) g).0, λ l. k); of = λ g. k })
      (turns_self (place_at table.places p)))

  backs_at : (found : Option ℕ) (table : Table) (node eui : ℕ) → known node → AllTurn table (back_at found table node eui).1
  backs_at None table node eui k = all_stay table
  backs_at (Some place) table node eui k = backs_to (place_at table.places place) table place node eui refl k

  backs : (table : Table) (id node eui : ℕ) → known node → AllTurn table (back_step table id node eui).1
  unfolding back_step
  backs table id node eui k = backs_at (find (is_held id) table.places) table node eui k

  -- a login leaves
  leaves_at : (found : Option ℕ) (table : Table) → AllTurn table (leave_at found table).1
  leaves_at None table = all_stay table
  leaves_at (Some place) table = λ p. put_or (λ x. Turns (place_at table.places p) x) table.places place p None None (λ e. turns_none (place_at table.places p)) (turns_self (place_at table.places p))

  leaves : (table : Table) (id node : ℕ) → AllTurn table (leave_step table id node).1
  unfolding leave_step
  leaves table id node = leaves_at (find (is_live_of id node) table.places) table

  -- a second
  tick_kept : (b : Bool) (login : Login) (n : ℕ) → Turns (Some login) (cond b None (Some (record login { remaining = Some n })))
  tick_kept true login n = turns_none (Some login)
  tick_kept false login n = record { fits = λ g. (g.0, λ e. absurd (off e)); of = λ g. g }
    where
      off : false ≡ true → ⊥
      off e = cc

  tick_by : (r : Option ℕ) (login : Login) → login.remaining ≡ r → Turns (Some login) (cond (is_last r) None (Some (record login { remaining = one_less r })))
  tick_by None login e = record { fits = λ g. (g.0, λ l. g.1 (ap is_none e)); of = λ g. g }
  tick_by (Some seconds) login e = tick_kept (is_last (Some seconds)) login (seconds - 1)

  tick_one : (login : Option Login) → Turns login (ticked login)
  tick_one None = turns_self None
  tick_one (Some login) = tick_by login.remaining login refl

  pub ticks : (table : Table) → AllTurn table (tick_step table).1
  ticks table p = subst (λ (x : Option Login). Turns (place_at table.places p) x) (sym (get_or-map ticked table.places p None)) (tick_one (place_at table.places p))

  -- ---- a decision
  turns_function : (function : Option Function) (orb : ManagementOrb) (source eui : ℕ) (table : Table) (keys : List (List ℕ)) → known source → orb.fifo < 2 ^ 48 → AllTurn table (decide_function function orb source eui table keys).1
  turns_function None orb source eui table keys k f = all_stay table
  turns_function (Some functions.Login) orb source eui table keys k f =
      pick_table (not (unit_exists orb.subject keys)) table _ _ (all_stay table)
      (pick_table (lacks_key (key_at orb.subject keys) orb) table _ _ (all_stay table) (enters table (asked_by orb source eui) k f))
  turns_function (Some functions.Query) orb source eui table keys k f = all_stay table
  turns_function (Some functions.Reconnect) orb source eui table keys k f = backs table orb.subject source eui k
  turns_function (Some functions.Logout) orb source eui table keys k f = leaves table orb.subject source
  turns_function (Some functions.Abort) orb source eui table keys k f = all_stay table
  turns_function (Some functions.AbortSet) orb source eui table keys k f = all_stay table
  turns_function (Some functions.UnitReset) orb source eui table keys k f = all_stay table
  turns_function (Some functions.TargetReset) orb source eui table keys k f = all_stay table

  turns_decide : (orb : ManagementOrb) (source eui : ℕ) (table : Table) (keys : List (List ℕ)) → known source → orb.fifo < 2 ^ 48 → AllTurn table (decide orb source eui table keys).1
  unfolding decide
  turns_decide orb source eui table keys k f =
      pick_table (orb.format == 0) table _ _ (turns_function (function_of orb.function) orb source eui table keys k f) (all_stay table)

  -- ---- the bytes of a response
  entries_small : (entries : List QueryEntry) → AreBytes (entries_bytes entries)
  entries_small [] = no_bytes
  entries_small (entry ∷ entries) = bytes_append (quad_bytes (entry_quads entry)) (entries_bytes entries) (quads_bytes (entry_quads entry)) (entries_small entries)

  response_small : (response : Response) (places : List (Option Login)) → AreBytes (response_bytes response places)
  unfolding response_bytes
  response_small responses.Nothing places = no_bytes
  response_small (responses.Login response) places = quads_bytes (login_quads response)
  response_small (responses.Query unit) places =
      let entries = entries_of unit places in
      let head = query_head (length entries) ∷ [] in
      bytes_append (quad_bytes head) (entries_bytes entries) (quads_bytes head) (entries_small entries)

  -- ---- a step of the management agent
  pub record FitsManaged (s : ManagerStep × Machine) : Type 0 where
    pub ask : FitsAsk s.0.ask
    pub manager : FitsManager known s.1

  pub record FitsReply (before : Table) (s : ManagerStep × (Machine × Table)) : Type 0 where
    pub ask : FitsAsk s.0.ask
    pub manager : FitsManager known s.1.0
    pub turns : AllTurn before s.1.1

  besides : (table : Table) (s : ManagerStep × Machine) → FitsManaged s → FitsReply table (beside table s)
  besides table s f = record { ask = f.ask; manager = f.manager; turns = all_stay table }

  fails : (m : Machine) (cause : FailCause) → FitsManager known m → FitsManaged (fail_step m cause)
  fails m cause f = record { ask = tt; manager = record { operation = tt; outgoing = f.outgoing } }

  writes_status : (m : Machine) (operation : Operation) (fifo : ℕ) (status : Status) → fifo < 2 ^ 48 → known operation.source → FitsManaged (status_step m operation fifo status)
  writes_status m operation fifo status f k = record { ask = f; manager = record { operation = (k, tt); outgoing = status_small (record { src = 0; kind = kinds.Management (number_of status); orb = operation.orb }) } }

  pick_managed : (b : Bool) (x y : ManagerStep × Machine) → FitsManaged x → FitsManaged y → FitsManaged (cond b x y)
  pick_managed true x y f g = f
  pick_managed false x y f g = g

  responds : (m : Machine) (operation : Operation) (orb : ManagementOrb) (status : Status) → FitsManagement orb → known operation.source → AreBytes m.outgoing → FitsManaged (respond_step m operation orb status)
  responds m operation orb status f k b =
      pick_managed (length m.outgoing == 0) _ _ (writes_status m operation orb.fifo status f.fifo k)
      (record { ask = f.second; manager = record { operation = (k, f.fifo); outgoing = b } })

  asks_eui : (m : Machine) (operation : Operation) (phase : Phase) (at : ℕ) → at < 2 ^ 48 → known operation.source → FitsPhase phase → AreBytes m.outgoing → FitsManaged (eui_step m operation phase at)
  asks_eui m operation phase at a k f b = record { ask = a; manager = record { operation = (k, f); outgoing = b } }

  decides_as : (r : Outcome × Table) (before : Table) (m : Machine) (operation : Operation) (orb : ManagementOrb) → FitsManagement orb → known operation.source → AllTurn before r.1 → FitsReply before (decided_as r m operation orb)
  decides_as (outcome, table) before m operation orb f k t =
      let n = record m { outgoing = cut_response orb outcome table } in
      let s = responds n operation orb outcome.status f k (bytes_take orb.response_length (response_bytes outcome.response table.places) (response_small outcome.response table.places)) in
      record { ask = s.ask; manager = s.manager; turns = t }

  decides : (m : Machine) (operation : Operation) (orb : ManagementOrb) (eui : ℕ) (table : Table) (keys : List (List ℕ)) → FitsManagement orb → known operation.source → FitsReply table (decide_step m operation orb eui table keys)
  unfolding decide_step
  decides m operation orb eui table keys f k =
      decides_as (decide orb operation.source eui table keys) table m operation orb f k (turns_decide orb operation.source eui table keys k f.fifo)

  pick_reply : (b : Bool) (before : Table) (x y : ManagerStep × (Machine × Table)) → FitsReply before x → FitsReply before y → FitsReply before (cond b x y)
  pick_reply true before x y f g = f
  pick_reply false before x y f g = g

  management_fits : (bytes : List ℕ) → AreBytes bytes → FitsManagement (management_orb bytes)
  management_fits bytes a = record { second = offset_fits bytes 8 a; fifo = offset_fits bytes 24 a }

  gets_orb : (read : Result (List ℕ) FailCause) (m : Machine) (operation : Operation) (table : Table) (keys : List (List ℕ)) → BytesRead read → known operation.source → FitsManager known m → FitsReply table (orb_got read m operation table keys)
  gets_orb (Err cause) m operation table keys b k f = besides table (fail_step m cause) (fails m cause f)
  gets_orb (Ok bytes) m operation table keys b k f =
      let orb = management_orb bytes in
      let o = management_fits bytes b in
      pick_reply (reads_eui orb) table _ _
      (besides table (eui_step m operation (phases.HighEui orb) high_eui_at) (asks_eui m operation (phases.HighEui orb) high_eui_at (omega arith) k o f.outgoing))
      (decides m operation orb 0 table keys o k)

  gets_high : (read : Result (List ℕ) FailCause) (m : Machine) (operation : Operation) (orb : ManagementOrb) → FitsManagement orb → known operation.source → FitsManager known m → FitsManaged (high_got read m operation orb)
  gets_high (Err cause) m operation orb o k f = fails m cause f
  gets_high (Ok bytes) m operation orb o k f = asks_eui m operation (phases.LowEui orb (quad bytes 0)) low_eui_at (omega arith) k o f.outgoing

  gets_low : (read : Result (List ℕ) FailCause) (m : Machine) (operation : Operation) (orb : ManagementOrb) (high : ℕ) (table : Table) (keys : List (List ℕ)) → FitsManagement orb → known operation.source → FitsManager known m → FitsReply table (low_got read m operation orb high table keys)
  gets_low (Err cause) m operation orb high table keys o k f = besides table (fail_step m cause) (fails m cause f)
  gets_low (Ok bytes) m operation orb high table keys o k f = decides m operation orb (high * 2 ^ 32 + quad bytes 0) table keys o k

  wrote_response : (failure : Option FailCause) (m : Machine) (operation : Operation) (fifo : ℕ) → fifo < 2 ^ 48 → known operation.source → FitsManager known m → FitsManaged (response_written failure m operation fifo)
  wrote_response None m operation fifo h k f = writes_status m operation fifo statuses.NoFault h k
  wrote_response (Some cause) m operation fifo h k f = fails m cause f

  wrote_status : (failure : Option FailCause) (m : Machine) → FitsManager known m → FitsManaged (status_written failure m)
  wrote_status None m f = record { ask = tt; manager = record { operation = tt; outgoing = f.outgoing } }
  wrote_status (Some cause) m f = fails m cause f

  in_phase : (phase : Phase) (m : Machine) (operation : Operation) (table : Table) (keys : List (List ℕ)) (answer : Answer) → FitsPhase phase → known operation.source → BytesIn answer → FitsManager known m → FitsReply table (reply_in phase m operation table keys answer)
  in_phase phases.Orb m operation table keys answer p k b f = gets_orb (payload_of answer 32) m operation table keys (payload_bytes answer 32 b) k f
  in_phase (phases.HighEui orb) m operation table keys answer p k b f = besides table (high_got (payload_of answer 4) m operation orb) (gets_high (payload_of answer 4) m operation orb p k f)
  in_phase (phases.LowEui orb high) m operation table keys answer p k b f = gets_low (payload_of answer 4) m operation orb high table keys p k f
  in_phase (phases.Response fifo) m operation table keys answer p k b f = besides table (response_written (write_failure answer) m operation fifo) (wrote_response (write_failure answer) m operation fifo p k f)
  in_phase phases.Status m operation table keys answer p k b f = besides table (status_written (write_failure answer) m) (wrote_status (write_failure answer) m f)

  in_operation : (operation : Option Operation) (m : Machine) (table : Table) (keys : List (List ℕ)) (answer : Answer) → FitsOperation known operation → BytesIn answer → FitsManager known m → FitsReply table (reply_to operation m table keys answer)
  in_operation None m table keys answer o b f = record { ask = tt; manager = f; turns = all_stay table }
  in_operation (Some operation) m table keys answer o b f = in_phase operation.phase m operation table keys answer o.1 o.0 b f

  pub managed_fits : (m : Machine) (table : Table) (keys : List (List ℕ)) (answer : Answer) → BytesIn answer → FitsManager known m → FitsReply table (reply_step m table keys answer)
  unfolding reply_step
  managed_fits m table keys answer b f = in_operation m.operation m table keys answer f.operation b f

  -- an operation begins
  pub record FitsStart (r : Result Ask Busy × Machine) : Type 0 where
    pub ask : (ask : Ask) → r.0 ≡ Ok ask → FitsAsk ask
    pub manager : FitsManager known r.1

  starts : (operation : Option Operation) (m : Machine) (source orb : ℕ) → known source → orb < 2 ^ 48 → FitsManager known m → FitsStart (start_with operation m source orb)
  starts None m source orb k h f = record { ask = λ ask e. subst (λ (x : Ask). FitsAsk x) (same ask e) h; manager = record { operation = (k, tt); outgoing = f.outgoing } }
    where
      same : (ask : Ask) → (start_with None m source orb).0 ≡ Ok ask → asks.Read orb 32 ≡ ask
      same ask e = cc
  starts (Some operation) m source orb k h f = record { ask = λ ask e. absurd (not_ok ask e); manager = f }
    where
      not_ok : (ask : Ask) → (start_with (Some operation) m source orb).0 ≡ Ok ask → ⊥
      not_ok ask e = cc

  pub start_fits : (m : Machine) (source orb : ℕ) → known source → orb < 2 ^ 48 → FitsManager known m → FitsStart (start_step m source orb)
  unfolding start_step
  start_fits m source orb k h f = starts m.operation m source orb k h f
