-- What is asked for and what operation is under way.
use Rattle.std.specs.Prelude.{◌≡◌, ℕ, ◌==◌, Bool, true, false, cond, List, length, IfOk, IsSome, Option, Some, None, Result, Ok, Err, refl}
use Rattle.orb_layout.specs.declared.management.ManagementOrb.{ManagementOrb}
use Rattle.orb_layout.specs.declared.ask.FailCause.{FailCause}
use Rattle.login_table.specs.Table.{Table}
use Rattle.orb_layout.specs.declared.ask.Ask.TheVariants as asks
use Rattle.orb_layout.specs.ManagementOrbs.{management_orb}
use Rattle.mgmt_agent.specs.declared.status.Status.{Status}
use Rattle.mgmt_agent.specs.declared.decision.ManagerStep.{ManagerStep}
use Rattle.mgmt_agent.specs.declared.decision.Outcome.{Outcome}
use Rattle.mgmt_agent.specs.declared.operation.Operation.{Operation}
use Rattle.mgmt_agent.specs.declared.operation.Phase.{Phase}
use Rattle.mgmt_agent.specs.declared.operation.Phase.TheVariants as phases
use Rattle.mgmt_agent.specs.Decisions.{decide, reads_eui}
use Rattle.orb_layout.specs.Replies.{Answer, payload_of, write_failure}
use Rattle.mgmt_agent.specs.Machine.{Machine, Asks, source_in, start_step, start_with, reply_step, reply_in, decide_step, decided_as, respond_step, status_step, status_block, cut_response, quiet, in_phase, beside, eui_step, high_eui_at, orb_got, high_got, low_got, response_written, status_written}
use Rattle.mgmt_agent.specs.Effects.{AsksLaw}

abbrev AsksPair : ManagerStep × Machine → Type 0
AsksPair s = Asks s.0.ask s.1.operation (length s.1.outgoing)

abbrev AsksStep : ManagerStep × (Machine × Table) → Type 0
AsksStep s = Asks s.0.ask s.1.0.operation (length s.1.0.outgoing)

either_asks : (b : Bool) (x y : ManagerStep × Machine) → AsksPair x → AsksPair y → AsksPair (cond b x y)
either_asks true x y p q = p
either_asks false x y p q = q

either_step : (b : Bool) (x y : ManagerStep × (Machine × Table)) → AsksStep x → AsksStep y → AsksStep (cond b x y)
either_step true x y p q = p
either_step false x y p q = q

block_size : (orb : ℕ) (status : Status) → ◌≡◌ {A = ℕ} 8 (length (status_block orb status))
block_size orb status = refl

respond_asks : (m : Machine) (operation : Operation) (orb : ManagementOrb) (status : Status) → AsksPair (respond_step m operation orb status)
respond_asks m operation orb status =
    either_asks (length m.outgoing == 0) (status_step m operation orb.fifo status) (quiet (asks.Write orb.second (length m.outgoing)), in_phase m operation (phases.Response orb.fifo)) (refl, block_size operation.orb status) (refl, refl)

decided_asks : (s : Outcome × Table) (m : Machine) (operation : Operation) (orb : ManagementOrb) → AsksStep (decided_as s m operation orb)
decided_asks s m operation orb = respond_asks (record m { outgoing = cut_response orb s.0 s.1 }) operation orb s.0.status

decide_asks : (m : Machine) (operation : Operation) (orb : ManagementOrb) (eui : ℕ) (table : Table) (keys : List (List ℕ)) → AsksStep (decide_step m operation orb eui table keys)
unfolding decide_step
decide_asks m operation orb eui table keys = decided_asks (decide orb operation.source eui table keys) m operation orb

orb_asks : (bytes : Result (List ℕ) FailCause) (m : Machine) (operation : Operation) (table : Table) (keys : List (List ℕ)) → AsksStep (orb_got bytes m operation table keys)
orb_asks (Err cause) m operation table keys = refl
orb_asks (Ok bytes) m operation table keys =
    let orb = management_orb bytes in
    either_step (reads_eui orb) (beside table (eui_step m operation (phases.HighEui orb) high_eui_at)) (decide_step m operation orb 0 table keys) refl (decide_asks m operation orb 0 table keys)

high_asks : (bytes : Result (List ℕ) FailCause) (m : Machine) (operation : Operation) (orb : ManagementOrb) → AsksPair (high_got bytes m operation orb)
high_asks (Err cause) m operation orb = refl
high_asks (Ok bytes) m operation orb = refl

low_asks : (bytes : Result (List ℕ) FailCause) (m : Machine) (operation : Operation) (orb : ManagementOrb) (high : ℕ) (table : Table) (keys : List (List ℕ)) → AsksStep (low_got bytes m operation orb high table keys)
low_asks (Err cause) m operation orb high table keys = refl
low_asks (Ok bytes) m operation orb high table keys = decide_asks m operation orb _ table keys

response_asks : (failure : Option FailCause) (m : Machine) (operation : Operation) (fifo : ℕ) → AsksPair (response_written failure m operation fifo)
response_asks None m operation fifo = (refl, refl)
response_asks (Some cause) m operation fifo = refl

status_asks : (failure : Option FailCause) (m : Machine) → AsksPair (status_written failure m)
status_asks None m = refl
status_asks (Some cause) m = refl

phase_asks : (phase : Phase) (m : Machine) (operation : Operation) (table : Table) (keys : List (List ℕ)) (answer : Answer) → AsksStep (reply_in phase m operation table keys answer)
phase_asks phases.Orb m operation table keys answer = orb_asks (payload_of answer 32) m operation table keys
phase_asks (phases.HighEui orb) m operation table keys answer = high_asks (payload_of answer 4) m operation orb
phase_asks (phases.LowEui orb high) m operation table keys answer = low_asks (payload_of answer 4) m operation orb high table keys
phase_asks (phases.Response fifo) m operation table keys answer = response_asks (write_failure answer) m operation fifo
phase_asks phases.Status m operation table keys answer = status_asks (write_failure answer) m

reply_asks : (o : Option Operation) (outgoing : List ℕ) (table : Table) (keys : List (List ℕ)) (answer : Answer) → IsSome (source_in o) → AsksStep (reply_step (record { operation = o; outgoing = outgoing }) table keys answer)
unfolding reply_step
reply_asks None outgoing table keys answer h = absurd (let no : false ≡ true = h in cc)
reply_asks (Some operation) outgoing table keys answer h = phase_asks operation.phase _ operation table keys answer

start_asks : (o : Option Operation) (m : Machine) (source orb : ℕ) → IfOk (start_with o m source orb).0 (λ ask. Asks ask (start_with o m source orb).1.operation (length m.outgoing))
start_asks None m source orb = refl
start_asks (Some operation) m source orb = tt

start_all : (m : Machine) (source orb : ℕ) → IfOk (start_step m source orb).0 (λ ask. Asks ask (start_step m source orb).1.operation (length m.outgoing))
unfolding start_step
start_all m source orb = start_asks m.operation m source orb

pub asks_one_request : AsksLaw
asks_one_request = record { start = start_all; reply = λ m table keys answer h. reply_asks m.operation m.outgoing table keys answer h }
