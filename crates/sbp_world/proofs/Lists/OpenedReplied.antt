-- What a reply to the request of the management's operation leaves of one that writes: its response was written; or its ORB was decided, and the step tells that.
use Rattle.sbp_world.proofs.Words.Std.{◌≡◌, ◌∙◌, refl, sym, ap, ℕ, ◌+◌, ◌*◌, ◌^◌, ◌==◌, Bool, true, false, cond, List, length, Option, Some, None, Result, Ok, Err, quad}
use Rattle.sbp_world.proofs.Words.Target.{Table, ManagerStep, Operation, decide, reads_eui, told, beside, cut_response, decide_step, decided_as, eui_step, high_eui_at, high_got, in_phase, low_got, orb_got, reply_in, reply_to, response_written, status_block, status_step, status_written, telling}
use Rattle.sbp_world.proofs.Words.Initiator.{FailCause, ManagementOrb, management_orb, Answer, Done, Expired, NoLabel, Payload, Refused, payload_of, write_failure}
use Rattle.sbp_world.proofs.Words.Laws.{Decided, decided_by, decided_in}
use Rattle.sbp_world.proofs.Words.World.{is_written}
use Rattle.mgmt_agent.specs.declared.decision.Outcome.{Outcome}
use Rattle.mgmt_agent.specs.declared.operation.Phase.{Phase}
use Rattle.mgmt_agent.specs.declared.operation.Phase.TheVariants as phases
use Rattle.mgmt_agent.specs.Machine.{Machine, quiet, reply_step}
use Rattle.orb_layout.specs.declared.ask.Ask.TheVariants as asks
use Rattle.orb_layout.specs.declared.ask.FailCause.TheVariants as causes
use Rattle.sbp_world.proofs.Sessions.Decisions.{bytes_are}
use Rattle.sbp_world.proofs.Lists.ManageTerms.{none_is, same_some}
use Rattle.sbp_world.proofs.Common.{untrue}

-- the ORB was decided by this reply, and the operation writes
pub record IsResolved (m : Machine) (t : Table) (keys : List (List ℕ)) (answer : Answer) (r : ManagerStep × (Machine × Table)) (op : Operation) : Type 0 where
  pub was : Operation
  pub is : m.operation ≡ Some was
  pub unwritten : is_written was.phase ≡ false
  pub on : Decided
  pub brought : decided_by m.operation answer ≡ Some on
  pub on_source : on.source ≡ was.source
  pub bytes : List ℕ
  pub pays : answer ≡ Payload bytes
  pub source : was.source ≡ op.source
  pub orb : was.orb ≡ op.orb
  pub decided : r.0.decided ≡ Some (told on.orb (decide on.orb on.source on.eui t keys).0)
  pub effect : r.0.effect ≡ (decide on.orb on.source on.eui t keys).0.effect
  pub logins : r.1.1 ≡ (decide on.orb on.source on.eui t keys).1
  pub status : op.phase ≡ phases.Status → r.1.0.outgoing ≡ status_block op.orb (decide on.orb on.source on.eui t keys).0.status
  pub response : (fifo : ℕ) → op.phase ≡ phases.Response fifo → (length (cut_response on.orb (decide on.orb on.source on.eui t keys).0 (decide on.orb on.source on.eui t keys).1) == 0) ≡ false

pub data Wrote (m : Machine) (t : Table) (keys : List (List ℕ)) (answer : Answer) (r : ManagerStep × (Machine × Table)) (op : Operation) : Type 0 where
  responded : (was : Operation) → m.operation ≡ Some was → (fifo : ℕ) → was.phase ≡ phases.Response fifo → was.source ≡ op.source → was.orb ≡ op.orb → op.phase ≡ phases.Status → Wrote m t keys answer r op
  resolved : IsResolved m t keys answer r op → Wrote m t keys answer r op

pub pays_as : (answer : Answer) (size : ℕ) (bytes : List ℕ) → payload_of answer size ≡ Ok bytes → answer ≡ Payload bytes
pays_as (Payload xs) size bytes e = by (length xs == size) e
  where
    by : (b : Bool) → cond {A = Result (List ℕ) FailCause} b (Ok xs) (Err causes.Grammar) ≡ Ok bytes → Payload xs ≡ Payload bytes
    by true f = ap (λ ys. Payload ys) (let same : xs ≡ bytes = cc in same)
    by false f = absurd (let differ : Err causes.Grammar ≡ Ok bytes = f in cc)
pays_as Done size bytes e = absurd (let differ : Err causes.Grammar ≡ Ok bytes = e in cc)
pays_as (Refused rcode) size bytes e = absurd (let differ : Err causes.Refused ≡ Ok bytes = e in cc)
pays_as Expired size bytes e = absurd (let differ : Err causes.Timeout ≡ Ok bytes = e in cc)
pays_as NoLabel size bytes e = absurd (let differ : Err causes.Label ≡ Ok bytes = e in cc)

not_response : {A : Type 0} (fifo : ℕ) → phases.Status ≡ phases.Response fifo → A
not_response fifo e = absurd (let no : phases.Status ≡ phases.Response fifo = e in cc)

not_status : {A : Type 0} (fifo : ℕ) → phases.Response fifo ≡ phases.Status → A
not_status fifo e = absurd (let no : phases.Response fifo ≡ phases.Status = e in cc)

module _ (m : Machine) (t : Table) (keys : List (List ℕ)) (answer : Answer) where
  abbrev Case : ManagerStep × (Machine × Table) → Type 0
  Case r = (op : Operation) → r.1.0.operation ≡ Some op → is_written op.phase ≡ true → Wrote m t keys answer r op

  pick_case : (b : Bool) (x y : ManagerStep × (Machine × Table)) → Case x → Case y → Case (cond b x y)
  pick_case true x y h k = h
  pick_case false x y h k = k

  module _ (own : Operation) (is : m.operation ≡ Some own) where
    reads_in : (phase : Phase) (step : ManagerStep) → is_written phase ≡ false → Case (beside t (step, in_phase m own phase))
    reads_in phase step f op e w =
        let same : record own { phase = phase } ≡ op = same_some (record own { phase = phase }) op e in
        untrue (sym f ∙ ap (λ (x : Operation). is_written x.phase) same ∙ w)

    -- a decision
    module _ (on : Decided) (brought : decided_by m.operation answer ≡ Some on) (source : on.source ≡ own.source) (unwritten : is_written own.phase ≡ false) (bytes : List ℕ) (pays : answer ≡ Payload bytes) where
      abbrev Made : Outcome × Table
      Made = decide on.orb on.source on.eui t keys

      as_decided : Case (decided_as Made m own on.orb)
      as_decided = by (length begun.outgoing == 0) refl
        where
          begun : Machine
          begun = record m { outgoing = cut_response on.orb (decide on.orb on.source on.eui t keys).0 (decide on.orb on.source on.eui t keys).1 }

          by : (b : Bool) → (length (record m { outgoing = cut_response on.orb Made.0 Made.1 }).outgoing == 0) ≡ b → (let s = cond b (status_step (record m { outgoing = cut_response on.orb Made.0 Made.1 }) own on.orb.fifo Made.0.status) (quiet (asks.Write on.orb.second (length (record m { outgoing = cut_response on.orb Made.0 Made.1 }).outgoing)), in_phase (record m { outgoing = cut_response on.orb Made.0 Made.1 }) own (phases.Response on.orb.fifo)) in Case (telling on.orb Made.0 s.0, (s.1, Made.1)))
          by true f op e w =
              let same : record own { phase = phases.Status } ≡ op = same_some (record own { phase = phases.Status }) op e in
              resolved (record {
                was = own;
                is = is;
                unwritten = unwritten;
                on = on;
                brought = brought;
                on_source = source;
                bytes = bytes;
                pays = pays;
                source = ap (λ (x : Operation). x.source) same;
                orb = ap (λ (x : Operation). x.orb) same;
                decided = refl;
                effect = refl;
                logins = refl;
                status = λ p. ap (λ (x : Operation). status_block x.orb (decide on.orb on.source on.eui t keys).0.status) same;
                response = λ fifo p. not_response fifo (ap (λ (x : Operation). x.phase) same ∙ p);
              })
          by false f op e w =
              let same : record own { phase = phases.Response on.orb.fifo } ≡ op = same_some (record own { phase = phases.Response on.orb.fifo }) op e in
              resolved (record {
                was = own;
                is = is;
                unwritten = unwritten;
                on = on;
                brought = brought;
                on_source = source;
                bytes = bytes;
                pays = pays;
                source = ap (λ (x : Operation). x.source) same;
                orb = ap (λ (x : Operation). x.orb) same;
                decided = refl;
                effect = refl;
                logins = refl;
                status = λ p. not_status on.orb.fifo (ap (λ (x : Operation). x.phase) same ∙ p);
                response = λ fifo p. f;
              })

    decides_on : (orb : ManagementOrb) (eui : ℕ) → decided_by m.operation answer ≡ Some (record { orb = orb; source = own.source; eui = eui }) → is_written own.phase ≡ false → (bytes : List ℕ) → answer ≡ Payload bytes → Case (decide_step m own orb eui t keys)
    unfolding decide_step
    decides_on orb eui b unwritten bytes pays = as_decided (record { orb = orb; source = own.source; eui = eui }) b refl unwritten bytes pays

    brought_in : (phase : Phase) → own.phase ≡ phase → decided_by m.operation answer ≡ decided_in phase own.source answer
    brought_in phase p = ap (λ (o : Option Operation). decided_by o answer) is ∙ ap (λ (x : Phase). decided_in x own.source answer) p

    orb_case : (bytes : Result (List ℕ) FailCause) → payload_of answer 32 ≡ bytes → own.phase ≡ phases.Orb → Case (orb_got bytes m own t keys)
    orb_case (Err cause) e p = λ op f w. none_is op f
    orb_case (Ok bytes) e p =
        let orb = management_orb bytes in
        pick_case (reads_eui orb) (beside t (eui_step m own (phases.HighEui orb) high_eui_at)) (decide_step m own orb 0 t keys) (reads_in (phases.HighEui orb) (quiet (asks.Read high_eui_at 4)) refl)
        (decides_on orb 0 (brought_in phases.Orb p ∙ ap (λ (xs : List ℕ). Some (record { orb = management_orb xs; source = own.source; eui = 0 })) (bytes_are answer 32 bytes e)) (ap is_written p) bytes (pays_as answer 32 bytes e))

    high_case : (bytes : Result (List ℕ) FailCause) (orb : ManagementOrb) → own.phase ≡ phases.HighEui orb → Case (beside t (high_got bytes m own orb))
    high_case (Err cause) orb p = λ op f w. none_is op f
    high_case (Ok bytes) orb p = reads_in (phases.LowEui orb (quad bytes 0)) _ refl

    low_case : (bytes : Result (List ℕ) FailCause) (orb : ManagementOrb) (high : ℕ) → payload_of answer 4 ≡ bytes → own.phase ≡ phases.LowEui orb high → Case (low_got bytes m own orb high t keys)
    low_case (Err cause) orb high e p = λ op f w. none_is op f
    low_case (Ok bytes) orb high e p =
        decides_on orb (high * 2 ^ 32 + quad bytes 0)
        (brought_in (phases.LowEui orb high) p ∙ ap (λ (xs : List ℕ). Some (record { orb = orb; source = own.source; eui = high * 2 ^ 32 + quad xs 0 })) (bytes_are answer 4 bytes e)) (ap is_written p) bytes (pays_as answer 4 bytes e)

    response_case : (failure : Option FailCause) (fifo : ℕ) → own.phase ≡ phases.Response fifo → Case (beside t (response_written failure m own fifo))
    response_case (Some cause) fifo p = λ op f w. none_is op f
    response_case None fifo p = λ op f w.
        let same : record own { phase = phases.Status } ≡ op = same_some (record own { phase = phases.Status }) op f in
        responded own is fifo p (ap (λ (x : Operation). x.source) same) (ap (λ (x : Operation). x.orb) same) (ap (λ (x : Operation). x.phase) (sym same))

    status_case : (failure : Option FailCause) → Case (beside t (status_written failure m))
    status_case None = λ op f w. none_is op f
    status_case (Some cause) = λ op f w. none_is op f

    phase_case : (phase : Phase) → own.phase ≡ phase → Case (reply_in phase m own t keys answer)
    phase_case phases.Orb p = orb_case (payload_of answer 32) refl p
    phase_case (phases.HighEui orb) p = high_case (payload_of answer 4) orb p
    phase_case (phases.LowEui orb high) p = low_case (payload_of answer 4) orb high refl p
    phase_case (phases.Response fifo) p = response_case (write_failure answer) fifo p
    phase_case phases.Status p = status_case (write_failure answer)

  operation_case : (operation : Option Operation) → m.operation ≡ operation → Case (reply_to operation m t keys answer)
  operation_case None e = λ op f w. none_is op (sym e ∙ f)
  operation_case (Some own) e = phase_case own e own.phase refl

  pub reply_wrote : (op : Operation) → (reply_step m t keys answer).1.0.operation ≡ Some op → is_written op.phase ≡ true → Wrote m t keys answer (reply_step m t keys answer) op
  unfolding reply_step
  reply_wrote = operation_case m.operation refl

-- a status block is not written twice
module _ (m : Machine) (t : Table) (keys : List (List ℕ)) (answer : Answer) where
  over_by : (failure : Option FailCause) → (status_written failure m).1.operation ≡ None
  over_by None = refl
  over_by (Some cause) = refl

  over_in : (own : Operation) (phase : Phase) → phase ≡ phases.Status → (reply_in phase m own t keys answer).1.0.operation ≡ None
  over_in own phases.Status e = over_by (write_failure answer)
  over_in own phases.Orb e = absurd (let no : phases.Orb ≡ phases.Status = e in cc)
  over_in own (phases.HighEui orb) e = absurd (let no : phases.HighEui orb ≡ phases.Status = e in cc)
  over_in own (phases.LowEui orb high) e = absurd (let no : phases.LowEui orb high ≡ phases.Status = e in cc)
  over_in own (phases.Response fifo) e = not_status fifo e

  over_to : (operation : Option Operation) (own : Operation) → operation ≡ Some own → own.phase ≡ phases.Status → (reply_to operation m t keys answer).1.0.operation ≡ None
  over_to None own e p = none_is own e
  over_to (Some found) own e p = over_in found found.phase (ap (λ (x : Operation). x.phase) (same_some found own e) ∙ p)

  pub status_over : (own : Operation) → m.operation ≡ Some own → own.phase ≡ phases.Status → (reply_step m t keys answer).1.0.operation ≡ None
  unfolding reply_step
  status_over own e p = over_to m.operation own e p
