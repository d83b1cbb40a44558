-- What a decision of the management agent leaves: what it granted is so, and is what is written first. The reply to the operation's request goes on from there.
use Rattle.sbp_world.proofs.Words.Std.{arith, ◌≡◌, ◌≢◌, ◌∙◌, refl, sym, ap, subst, ◌⊎◌, inl, inr, ℕ, zero, suc, ◌+◌, ◌*◌, ◌^◌, ◌==◌, nat_eq, Bool, true, false, cond, List, [], length, Option, Some, None, Result, Ok, Err, nat_tests, get_or-set_at, get_or-set_other, false≢true, quad}
use Rattle.sbp_world.proofs.Words.Target.{Login, IsTable, Table, entered, find, is_live, is_live_of, leave_at, leave_step, place_at, ManagerStep, Response, Function, Operation, Status, agent_base, asked_by, decide, decide_function, granted_hold, left_decided, reads_eui, response_bytes, with_status, beside, cut_response, decide_step, decided_as, eui_step, high_eui_at, high_got, in_phase, low_got, orb_got, reply_in, reply_to, respond_step, response_written, status_step, status_written, function_of}
use Rattle.sbp_world.proofs.Words.Initiator.{FailCause, ManagementOrb, login_bytes, management_orb, Answer, Done, Expired, NoLabel, Payload, Refused, payload_of, write_failure}
use Rattle.sbp_world.proofs.Words.Laws.{Decided, bytes_in, decided_by, decided_in}
use Rattle.sbp_world.proofs.Words.World.{AreSame, HasResponse, HasStatus, IsBack, IsDecidedBy, IsDone, Responds, Writes, WritesOn, is_written}
use Rattle.std.specs.Prelude.{take}
use Rattle.login_table.proofs.Searching.{found}
use Rattle.mgmt_agent.specs.declared.decision.Outcome.{Outcome}
use Rattle.mgmt_agent.specs.declared.decision.Response.TheVariants as responses
use Rattle.mgmt_agent.specs.declared.function.Function.TheVariants as functions
use Rattle.mgmt_agent.specs.declared.operation.Phase.{Phase}
use Rattle.mgmt_agent.specs.declared.operation.Phase.TheVariants as phases
use Rattle.mgmt_agent.specs.declared.status.Status.TheVariants as statuses
use Rattle.mgmt_agent.specs.Machine.{Machine, reply_step}
use Rattle.mgmt_agent.proofs.Doing.{effects_of_decisions}
use Rattle.mgmt_agent.proofs.Outcomes.{refusals_do_nothing}
use Rattle.orb_layout.specs.declared.ask.FailCause.TheVariants as causes
use Rattle.sbp_world.specs.Sessions.Writing.{IsEntered, IsGone}
use Rattle.sbp_world.proofs.Common.{untrue, none_is}

-- ---- what was done stays so while the logins of its node stand

pub of_id : (id node : ℕ) (login : Login) → is_live_of id node login ≡ true → login.login ≡ id
of_id id node login p = grind (arith, nat_tests)

pub of_node : (id node : ℕ) (login : Login) → is_live_of id node login ≡ true → login.node ≡ node
of_node id node login p = grind (arith, nat_tests)

of_live : (id node : ℕ) (login : Login) → is_live_of id node login ≡ true → is_live login ≡ true
of_live id node login p = grind (arith, nat_tests)

module _ (on : Decided) (a b : List (Option Login)) (s : AreSame on.source a b) where
  entered_kept : IsEntered on a → IsEntered on b
  entered_kept h = record { place = h.place; id = h.id; there = s.keeps h.place (entered (asked_by on.orb on.source on.eui) h.place h.id) h.there refl refl }

  back_kept : IsBack on a → IsBack on b
  back_kept h = record { place = h.place; login = h.login; there = s.keeps h.place h.login h.there h.live h.of_node; live = h.live; own = h.own; of_node = h.of_node }

  gone_kept : IsGone on a → IsGone on b
  gone_kept h place login e = by (is_live_of on.orb.subject on.source login) refl
    where
      by : (c : Bool) → is_live_of on.orb.subject on.source login ≡ c → is_live_of on.orb.subject on.source login ≡ false
      by false f = f
      by true f =
          let live = of_live on.orb.subject on.source login f in
          let node = of_node on.orb.subject on.source login f in
          h place login (s.brings place login e live node)

  pub done_kept : (f : Option Function) → IsDone f on a → IsDone f on b
  done_kept None h = tt
  done_kept (Some functions.Login) h = entered_kept h
  done_kept (Some functions.Query) h = tt
  done_kept (Some functions.Reconnect) h = back_kept h
  done_kept (Some functions.Logout) h = gone_kept h
  done_kept (Some functions.Abort) h = tt
  done_kept (Some functions.AbortSet) h = tt
  done_kept (Some functions.UnitReset) h = tt
  done_kept (Some functions.TargetReset) h = tt

  responds_kept : (f : Option Function) (outgoing : List ℕ) → Responds f on a outgoing → Responds f on b outgoing
  unfolding entered_kept
  responds_kept None outgoing h = tt
  responds_kept (Some functions.Login) outgoing h = record { login = entered_kept h.login; bytes = h.bytes }
  responds_kept (Some functions.Query) outgoing h = tt
  responds_kept (Some functions.Reconnect) outgoing h = tt
  responds_kept (Some functions.Logout) outgoing h = tt
  responds_kept (Some functions.Abort) outgoing h = tt
  responds_kept (Some functions.AbortSet) outgoing h = tt
  responds_kept (Some functions.UnitReset) outgoing h = tt
  responds_kept (Some functions.TargetReset) outgoing h = tt

  pub writes_kept : (phase : Phase) (op : Operation) (outgoing : List ℕ) → Writes phase op on a outgoing → Writes phase op on b outgoing
  writes_kept phases.Orb op outgoing h = h
  writes_kept (phases.HighEui orb) op outgoing h = h
  writes_kept (phases.LowEui orb high) op outgoing h = h
  writes_kept (phases.Response fifo) op outgoing h =
      record { fifo_is = h.fifo_is; done = done_kept (function_of on.orb.function) h.done; responds = responds_kept (function_of on.orb.function) outgoing h.responds }
  writes_kept phases.Status op outgoing h = record { status = h.status; bytes = h.bytes; done = λ e. done_kept (function_of on.orb.function) (h.done e) }

-- ---- a decision

not_unknown : {A : Type 0} → statuses.LoginId ≡ statuses.NoFault → A
not_unknown e = absurd (differ e)
  where
    differ : statuses.LoginId ≡ statuses.NoFault → ⊥
    differ e = cc

pub take_none : (n : ℕ) → length (take {A = ℕ} n []) ≡ 0
take_none zero = refl
take_none (suc n) = refl

module _ (orb : ManagementOrb) (source eui : ℕ) (t : Table) (keys : List (List ℕ)) (sound : IsTable t) where
  abbrev on : Decided
  on = record { orb = orb; source = source; eui = eui }

  abbrev r : Outcome × Table
  r = decide orb source eui t keys

  -- the login that leaves was the one of its ID
  leaves_gone : (k : Option ℕ) → find (is_live_of orb.subject source) t.places ≡ k → (left_decided (leave_at k t).0).status ≡ statuses.NoFault → IsGone on (leave_at k t).1.places
  leaves_gone None e s place login f = not_unknown s
  leaves_gone (Some k) e s place login f = by (nat_eq place k) refl (is_live_of orb.subject source login) refl
    where
      by : (b : Bool) → nat_eq place k ≡ b → (c : Bool) → is_live_of orb.subject source login ≡ c → is_live_of orb.subject source login ≡ false
      by b q false l = l
      by true q true l =
          let g = found (is_live_of orb.subject source) t.places k e in
          let same : place ≡ k = grind (arith, nat_tests) in
          none_is login (sym (get_or-set_at t.places k place None None same g.below) ∙ f)
      by false q true l =
          let g = found (is_live_of orb.subject source) t.places k e in
          let apart : place ≢ k = λ same. (let yes : nat_eq place k ≡ true = grind (arith, nat_tests) in false≢true (sym q ∙ yes)) in
          let was : place_at t.places place ≡ Some login = sym (get_or-set_other t.places k place None None apart) ∙ f in
          absurd ((sound.sound.apart place k login g.login apart was g.stands).ids (of_id orb.subject source login l ∙ sym (of_id orb.subject source g.login g.passes)))

  logout_gone : (left_decided (leave_step t orb.subject source).0).status ≡ statuses.NoFault → IsGone on (leave_step t orb.subject source).1.places
  unfolding leave_step
  logout_gone s = leaves_gone (find (is_live_of orb.subject source) t.places) refl s

  abbrev GoneIn : Outcome × Table → Type 0
  GoneIn x = x.0.status ≡ statuses.NoFault → IsGone on x.1.places

  gone_if : (b : Bool) (x y : Outcome × Table) → GoneIn x → (y.0.status ≡ statuses.NoFault → ⊥) → GoneIn (cond b x y)
  gone_if true x y h g = h
  gone_if false x y h g = λ s. absurd (g s)

  gone : function_of orb.function ≡ Some functions.Logout → GoneIn r
  unfolding decide
  gone e =
      gone_if (orb.format == 0) (decide_function (function_of orb.function) orb source eui t keys) (with_status statuses.RequestType, t)
      (subst (λ (f : Option Function). GoneIn (decide_function f orb source eui t keys)) (sym e) logout_gone)
      (λ s. let differ : statuses.RequestType ≡ statuses.NoFault = s in cc)

  done_by : (f : Option Function) → function_of orb.function ≡ f → r.0.status ≡ statuses.NoFault → IsDone f on r.1.places
  done_by None e s = tt
  done_by (Some functions.Login) e s =
      let d = effects_of_decisions functions.Login orb source eui t keys sound e s in
      record { place = d.place; id = r.0.login; there = d.stands }
  done_by (Some functions.Query) e s = tt
  done_by (Some functions.Reconnect) e s =
      let d = effects_of_decisions functions.Reconnect orb source eui t keys sound e s in
      record { place = d.place; login = d.stands.login; there = d.stands.stands; live = d.stands.live; own = d.stands.own; of_node = d.stands.of_node }
  done_by (Some functions.Logout) e s = gone e s
  done_by (Some functions.Abort) e s = tt
  done_by (Some functions.AbortSet) e s = tt
  done_by (Some functions.UnitReset) e s = tt
  done_by (Some functions.TargetReset) e s = tt

  login_written : (response : Response) (places : List (Option Login)) (id place : ℕ) → response ≡ responses.Login (record { login = id; agent = agent_base place; hold = granted_hold orb.reconnect }) → take orb.response_length (response_bytes response places) ≡ take orb.response_length (login_bytes (record { login = id; agent = agent_base place; hold = granted_hold orb.reconnect }))
  unfolding response_bytes
  login_written response places id place e = ap (λ (x : Response). take orb.response_length (response_bytes x places)) e

  responds_by : (f : Option Function) → function_of orb.function ≡ f → r.0.status ≡ statuses.NoFault → Responds f on r.1.places (cut_response orb r.0 r.1)
  responds_by None e s = tt
  responds_by (Some functions.Login) e s =
      let d = effects_of_decisions functions.Login orb source eui t keys sound e s in
      record { login = record { place = d.place; id = r.0.login; there = d.stands }; bytes = login_written r.0.response r.1.places r.0.login d.place d.response }
  responds_by (Some functions.Query) e s = tt
  responds_by (Some functions.Reconnect) e s = tt
  responds_by (Some functions.Logout) e s = tt
  responds_by (Some functions.Abort) e s = tt
  responds_by (Some functions.AbortSet) e s = tt
  responds_by (Some functions.UnitReset) e s = tt
  responds_by (Some functions.TargetReset) e s = tt

  -- a refusal has no response
  none_written : (response : Response) (places : List (Option Login)) → response ≡ responses.Nothing → length (take orb.response_length (response_bytes response places)) ≡ 0
  unfolding response_bytes
  none_written response places e = ap (λ (x : Response). length (take orb.response_length (response_bytes x places))) e ∙ take_none orb.response_length

  refused : (r.0.status ≡ statuses.NoFault → ⊥) → (length (cut_response orb r.0 r.1) == 0) ≡ true
  refused n =
      let size : length (cut_response orb r.0 r.1) ≡ 0 = none_written r.0.response r.1.places (refusals_do_nothing orb source eui t keys n).response in
      grind (arith, nat_tests)

  granted : (length (cut_response orb r.0 r.1) == 0) ≡ false → r.0.status ≡ statuses.NoFault
  granted e = by r.0.status refl
    where
      by : (status : Status) → r.0.status ≡ status → r.0.status ≡ statuses.NoFault
      by statuses.NoFault f = f
      by statuses.RequestType f = untrue (sym e ∙ refused (λ s. let differ : statuses.RequestType ≡ statuses.NoFault = sym f ∙ s in cc))
      by statuses.AccessDenied f = untrue (sym e ∙ refused (λ s. let differ : statuses.AccessDenied ≡ statuses.NoFault = sym f ∙ s in cc))
      by statuses.LogicalUnit f = untrue (sym e ∙ refused (λ s. let differ : statuses.LogicalUnit ≡ statuses.NoFault = sym f ∙ s in cc))
      by statuses.Resources f = untrue (sym e ∙ refused (λ s. let differ : statuses.Resources ≡ statuses.NoFault = sym f ∙ s in cc))
      by statuses.FunctionRejected f = untrue (sym e ∙ refused (λ s. let differ : statuses.FunctionRejected ≡ statuses.NoFault = sym f ∙ s in cc))
      by statuses.LoginId f = untrue (sym e ∙ refused (λ s. let differ : statuses.LoginId ≡ statuses.NoFault = sym f ∙ s in cc))

  -- what is written first
  module _ (m : Machine) (own : Operation) (own_is : own.source ≡ source) where
    abbrev begun : Machine
    begun = record m { outgoing = cut_response orb r.0 r.1 }

    abbrev Written : ManagerStep × Machine → Type 0
    Written s = (now : Operation) → s.1.operation ≡ Some now → (source ≡ now.source) × Writes now.phase now on r.1.places s.1.outgoing

    written_in : (phase : Phase) (outgoing : List ℕ) → Writes phase (record own { phase = phase }) on r.1.places outgoing → (now : Operation) → Some (record own { phase = phase }) ≡ Some now → (source ≡ now.source) × Writes now.phase now on r.1.places outgoing
    written_in phase outgoing h now e =
        let same : record own { phase = phase } ≡ now = cc in
        subst (λ (x : Operation). (source ≡ x.source) × Writes x.phase x on r.1.places outgoing) same (sym own_is, h)

    responds : (b : Bool) (step : ManagerStep) → (length begun.outgoing == 0) ≡ b → Written (cond b (status_step begun own orb.fifo r.0.status) (step, in_phase begun own (phases.Response orb.fifo)))
    responds true step e = written_in phases.Status _ (record { status = r.0.status; bytes = refl; done = done_by (function_of orb.function) refl })
    responds false step e =
        let s = granted e in
        written_in (phases.Response orb.fifo) begun.outgoing (record { fifo_is = refl; done = done_by (function_of orb.function) refl s; responds = responds_by (function_of orb.function) refl s })

    pub first_written : Written (respond_step begun own orb r.0.status)
    first_written = responds (length begun.outgoing == 0) _ refl

-- ---- a reply
pub bytes_are : (answer : Answer) (size : ℕ) (bytes : List ℕ) → payload_of answer size ≡ Ok bytes → bytes_in answer ≡ bytes
bytes_are (Payload xs) size bytes e = by (length xs == size) e
  where
    by : (b : Bool) → cond {A = Result (List ℕ) FailCause} b (Ok xs) (Err causes.Grammar) ≡ Ok bytes → xs ≡ bytes
    by true f = cc
    by false f = absurd (let differ : Err causes.Grammar ≡ Ok bytes = f in cc)
bytes_are Done size bytes e = absurd (let differ : Err causes.Grammar ≡ Ok bytes = e in cc)
bytes_are (Refused rcode) size bytes e = absurd (let differ : Err causes.Refused ≡ Ok bytes = e in cc)
bytes_are Expired size bytes e = absurd (let differ : Err causes.Timeout ≡ Ok bytes = e in cc)
bytes_are NoLabel size bytes e = absurd (let differ : Err causes.Label ≡ Ok bytes = e in cc)

pub none_goes : {A : Type 0} (now : Operation) → None ≡ Some now → A
none_goes now e = absurd (differ e)
  where
    differ : None ≡ Some now → ⊥
    differ e = cc

module _ (m : Machine) (t : Table) (keys : List (List ℕ)) (sound : IsTable t) (answer : Answer) where
  abbrev Left : Machine × Table → Type 0
  Left x = (now : Operation) → x.0.operation ≡ Some now → is_written now.phase ≡ true → WritesOn m t.places x.0 x.1.places now ⊎ IsDecidedBy m answer x.0 x.1.places now

  abbrev Case : ManagerStep × (Machine × Table) → Type 0
  Case r = Left r.1

  pick_case : (b : Bool) (x y : ManagerStep × (Machine × Table)) → Case x → Case y → Case (cond b x y)
  pick_case true x y h k = h
  pick_case false x y h k = k

  module _ (own : Operation) (is : m.operation ≡ Some own) where
    over : {outgoing : List ℕ} → Left (record { operation = None; outgoing = outgoing }, t)
    over now e w = none_goes now e

    -- a phase in which nothing is written
    reads_in : (phase : Phase) → is_written phase ≡ false → Left (in_phase m own phase, t)
    reads_in phase f now e w =
        let same : record own { phase = phase } ≡ now = cc in
        untrue (sym f ∙ ap (λ (x : Operation). is_written x.phase) same ∙ w)

    decided_on : (on : Decided) (x : Outcome × Table) → decided_by m.operation answer ≡ Some on
        → ((now : Operation) → (respond_step (record m { outgoing = cut_response on.orb x.0 x.1 }) own on.orb x.0.status).1.operation ≡ Some now → (on.source ≡ now.source) × Writes now.phase now on x.1.places (respond_step (record m { outgoing = cut_response on.orb x.0 x.1 }) own on.orb x.0.status).1.outgoing)
        → Case (decided_as x m own on.orb)
    decided_on on (outcome, table) b h now e w = let x = h now e in inr (record { on = on; brought = b; source = x.0; writes = x.1 })

    decides : (orb : ManagementOrb) (eui : ℕ) → decided_by m.operation answer ≡ Some (record { orb = orb; source = own.source; eui = eui }) → Case (decide_step m own orb eui t keys)
    unfolding decide_step
    decides orb eui b =
        decided_on (record { orb = orb; source = own.source; eui = eui }) (decide orb own.source eui t keys) b (first_written orb own.source eui t keys sound m own refl)

    brought_in : (phase : Phase) → own.phase ≡ phase → decided_by m.operation answer ≡ decided_in phase own.source answer
    brought_in phase p = ap (λ (o : Option Operation). decided_by o answer) is ∙ ap (λ (x : Phase). decided_in x own.source answer) p

    orb_case : (bytes : Result (List ℕ) FailCause) → payload_of answer 32 ≡ bytes → own.phase ≡ phases.Orb → Case (orb_got bytes m own t keys)
    orb_case (Err cause) e p = over
    orb_case (Ok bytes) e p =
        let orb = management_orb bytes in
        pick_case (reads_eui orb) (beside t (eui_step m own (phases.HighEui orb) high_eui_at)) (decide_step m own orb 0 t keys) (reads_in (phases.HighEui orb) refl)
        (decides orb 0 (brought_in phases.Orb p ∙ ap (λ (xs : List ℕ). Some (record { orb = management_orb xs; source = own.source; eui = 0 })) (bytes_are answer 32 bytes e)))

    high_case : (bytes : Result (List ℕ) FailCause) (orb : ManagementOrb) → Case (beside t (high_got bytes m own orb))
    high_case (Err cause) orb = over
    high_case (Ok bytes) orb = reads_in (phases.LowEui orb (quad bytes 0)) refl

    low_case : (bytes : Result (List ℕ) FailCause) (orb : ManagementOrb) (high : ℕ) → payload_of answer 4 ≡ bytes → own.phase ≡ phases.LowEui orb high → Case (low_got bytes m own orb high t keys)
    low_case (Err cause) orb high e p = over
    low_case (Ok bytes) orb high e p =
        decides orb (high * 2 ^ 32 + quad bytes 0)
        (brought_in (phases.LowEui orb high) p ∙ ap (λ (xs : List ℕ). Some (record { orb = orb; source = own.source; eui = high * 2 ^ 32 + quad xs 0 })) (bytes_are answer 4 bytes e))

    response_case : (failure : Option FailCause) (fifo : ℕ) → own.phase ≡ phases.Response fifo → Case (beside t (response_written failure m own fifo))
    response_case (Some cause) fifo p now e w = over now e w
    response_case None fifo p now e w =
        let same : record own { phase = phases.Status } ≡ now = cc in
        let outgoing = (status_step m own fifo statuses.NoFault).1.outgoing in
        inl (record {
          was = own;
          is = is;
          written = ap is_written p;
          source = ap (λ (x : Operation). x.source) same;
          orb = ap (λ (x : Operation). x.orb) same;
          stands = λ on s h.
              let r : HasResponse fifo on t.places m.outgoing = subst (λ (x : Phase). Writes x own on t.places m.outgoing) p h in
              let now_has : HasStatus (record own { phase = phases.Status }) on t.places outgoing = record { status = statuses.NoFault; bytes = refl; done = λ f. r.done } in
              subst (λ (x : Operation). Writes x.phase x on t.places outgoing) same now_has;
        })

    status_case : (failure : Option FailCause) → Case (beside t (status_written failure m))
    status_case None = over
    status_case (Some cause) = over

    phase_case : (phase : Phase) → own.phase ≡ phase → Case (reply_in phase m own t keys answer)
    phase_case phases.Orb p = orb_case (payload_of answer 32) refl p
    phase_case (phases.HighEui orb) p = high_case (payload_of answer 4) orb
    phase_case (phases.LowEui orb high) p = low_case (payload_of answer 4) orb high refl p
    phase_case (phases.Response fifo) p = response_case (write_failure answer) fifo p
    phase_case phases.Status p = status_case (write_failure answer)

  operation_case : (operation : Option Operation) → m.operation ≡ operation → Case (reply_to operation m t keys answer)
  operation_case None e now f w = none_goes now (sym e ∙ f)
  operation_case (Some own) e now f w = phase_case own e own.phase refl now f w

  pub reply_case : Case (reply_step m t keys answer)
  unfolding reply_step
  reply_case = operation_case m.operation refl

-- ---- a time-out ends it
module _ (m : Machine) (t : Table) (keys : List (List ℕ)) where
  phase_over : (phase : Phase) (own : Operation) → (reply_in phase m own t keys Expired).1.0.operation ≡ None
  phase_over phases.Orb own = refl
  phase_over (phases.HighEui orb) own = refl
  phase_over (phases.LowEui orb high) own = refl
  phase_over (phases.Response fifo) own = refl
  phase_over phases.Status own = refl

  operation_over : (operation : Option Operation) → m.operation ≡ operation → (reply_to operation m t keys Expired).1.0.operation ≡ None
  operation_over None e = e
  operation_over (Some own) e = phase_over own.phase own

  pub expired_over : (reply_step m t keys Expired).1.0.operation ≡ None
  unfolding reply_step
  expired_over = operation_over m.operation refl
