-- Where the management asks to write, as the ORBs that it reads name it: to their FIFOs, and to the places of their responses. So it asks to write into no buffer of an initiator.
use Rattle.sbp_world.proofs.Words.Std.{arith, ◌≡◌, ◌∙◌, refl, sym, ap, subst, ◌<◌, ◌+◌, ◌*◌, ◌^◌, ◌==◌, ℕ, Bool, true, false, cond, List, [], length, Option, Some, None, Result, Ok, Err, none-some, quad}
use Rattle.sbp_world.proofs.Words.Target.{Table, ManagerStep, Operation, Status, decide, reads_eui}
use Rattle.sbp_world.proofs.Words.Initiator.{new_memory, IfShare, start, window_at, Ask, FailCause, ManagementOrb, management_orb, Answer, payload_of, write_failure}
use Rattle.sbp_world.proofs.Words.World.{GoodIn, IsAside, IsGoodOrb, IsItsFifo, in_front, of_login, of_place, of_response}
use Rattle.bus_memory.specs.declared.window.Window.TheVariants as windows
use Rattle.bus_memory.proofs.Found.{window_here, window_share}
use Rattle.mgmt_agent.specs.declared.decision.Outcome.{Outcome}
use Rattle.mgmt_agent.specs.declared.operation.Phase.{Phase}
use Rattle.mgmt_agent.specs.declared.operation.Phase.TheVariants as phases
use Rattle.mgmt_agent.specs.Machine as management
use Rattle.orb_layout.specs.declared.ask.Ask.TheVariants as asks
use Rattle.sbp_world.proofs.Lists.BufferClears.{place_window}
use Rattle.sbp_world.proofs.Lists.DataOffice.{IsDryAt}
use Rattle.sbp_world.proofs.Lists.OwnFifos.{fifo_low, fifo_no_window}
use Rattle.sbp_world.proofs.Lists.StatusBytes.{same_address, written_at}
use Rattle.sbp_world.proofs.Lists.StatusSteps.{none_wrote, read_wrote}
use Rattle.sbp_world.proofs.Lists.FifoReplies.{same_at}

no_place : (place slot : ℕ) → Some (windows.Response place) ≡ Some (windows.Buffer slot) → ⊥
no_place place slot e = cc

moved : (at slot : ℕ) → at < 2 ^ 48 → window_at (written_at at) ≡ Some (windows.Buffer slot) → window_at at ≡ Some (windows.Buffer slot)
moved at slot low goes = ap window_at (sym (same_address at low)) ∙ goes

front_dry : (at slot : ℕ) → at < 0x1100_0000 → window_at at ≡ Some (windows.Buffer slot) → ⊥
front_dry at slot low e = let share = (subst (IfShare at) e (window_share at)).1 in omega (arith, share, low)

aside_dry : (at : ℕ) → IsAside at → IsDryAt at
aside_dry at (in_front low) slot goes = front_dry at slot (omega (arith, low)) (moved at slot (omega (arith, low)) goes)
aside_dry at (of_response place small is) slot goes =
    let here : window_at (start (windows.Response place)) ≡ Some (windows.Response place) = window_here (new_memory []) (start (windows.Response place)) (windows.Response place) small (omega arith) (omega arith) in
    no_place place slot (sym here ∙ (ap window_at (sym is) ∙ moved at slot (omega (arith, small, is)) goes))

its_dry : (fifo : ℕ) → IsItsFifo fifo → IsDryAt fifo
its_dry fifo (of_login own) slot goes = let low = fifo_low fifo own in none-some (windows.Buffer slot) (sym (fifo_no_window fifo own) ∙ moved fifo slot (omega (arith, low)) goes)
its_dry fifo (of_place place small is) slot goes =
    none-some (windows.Buffer slot) (sym (place_window place small) ∙ (ap window_at (sym is) ∙ moved fifo slot (omega (arith, small, is)) goes))

module _ (May : ℕ → Type 0) (its : (fifo : ℕ) → IsItsFifo fifo → May fifo) (aside : (at : ℕ) → IsAside at → May at) (m : management.Machine) (t : Table) (keys : List (List ℕ)) (answer : Answer) (own : Operation) where
  abbrev Dry : Ask → Type 0
  Dry ask = (at len : ℕ) → ask ≡ asks.Write at len → May at

  to_dry : (fifo len : ℕ) → May fifo → Dry (asks.Write fifo len)
  to_dry fifo len d at size e = subst May (same_at fifo len at size e) d

  none_dry : Dry asks.Nothing
  none_dry at len e = absurd (none_wrote at len e)

  read_dry : (from size : ℕ) → Dry (asks.Read from size)
  read_dry from size at len e = absurd (read_wrote from size at len e)

  responds : (begun : management.Machine) (orb : ManagementOrb) (status : Status) → IsGoodOrb orb → (b : Bool) → Dry (cond b (management.status_step begun own orb.fifo status) (management.quiet (asks.Write orb.second (length begun.outgoing)), management.in_phase begun own (phases.Response orb.fifo))).0.ask
  responds begun orb status g true = to_dry orb.fifo 8 (its orb.fifo g.its)
  responds begun orb status g false = to_dry orb.second (length begun.outgoing) (aside orb.second g.aside)

  decided_dry : (orb : ManagementOrb) (x : Outcome × Table) → IsGoodOrb orb → Dry (management.decided_as x m own orb).0.ask
  decided_dry orb (outcome, table) g = responds (record m { outgoing = management.cut_response orb outcome table }) orb outcome.status g (length (management.cut_response orb outcome table) == 0)

  decides : (orb : ManagementOrb) (eui : ℕ) → IsGoodOrb orb → Dry (management.decide_step m own orb eui t keys).0.ask
  unfolding management.decide_step
  decides orb eui g = decided_dry orb (decide orb own.source eui t keys) g

  pick_dry : (b : Bool) (x y : ManagerStep × (management.Machine × Table)) → Dry x.0.ask → Dry y.0.ask → Dry (cond b x y).0.ask
  pick_dry true x y h k = h
  pick_dry false x y h k = k

  orb_dry : (bytes : Result (List ℕ) FailCause) → ((xs : List ℕ) → bytes ≡ Ok xs → IsGoodOrb (management_orb xs)) → Dry (management.orb_got bytes m own t keys).0.ask
  orb_dry (Err cause) g = none_dry
  orb_dry (Ok bytes) g =
      let orb = management_orb bytes in
      pick_dry (reads_eui orb) (management.beside t (management.eui_step m own (phases.HighEui orb) management.high_eui_at)) (management.decide_step m own orb 0 t keys)
      (read_dry management.high_eui_at 4) (decides orb 0 (g bytes refl))

  high_dry : (bytes : Result (List ℕ) FailCause) (orb : ManagementOrb) → Dry (management.beside t (management.high_got bytes m own orb)).0.ask
  high_dry (Err cause) orb = none_dry
  high_dry (Ok bytes) orb = read_dry management.low_eui_at 4

  low_dry : (bytes : Result (List ℕ) FailCause) (orb : ManagementOrb) (high : ℕ) → IsGoodOrb orb → Dry (management.low_got bytes m own orb high t keys).0.ask
  low_dry (Err cause) orb high g = none_dry
  low_dry (Ok bytes) orb high g = decides orb (high * 2 ^ 32 + quad bytes 0) g

  response_dry : (failure : Option FailCause) (fifo : ℕ) → IsItsFifo fifo → Dry (management.beside t (management.response_written failure m own fifo)).0.ask
  response_dry (Some cause) fifo g = none_dry
  response_dry None fifo g = to_dry fifo 8 (its fifo g)

  status_dry : (failure : Option FailCause) → Dry (management.beside t (management.status_written failure m)).0.ask
  status_dry None = none_dry
  status_dry (Some cause) = none_dry

  phase_dry : (phase : Phase) → GoodIn phase → (phase ≡ phases.Orb → (xs : List ℕ) → payload_of answer 32 ≡ Ok xs → IsGoodOrb (management_orb xs)) → Dry (management.reply_in phase m own t keys answer).0.ask
  phase_dry phases.Orb g f = orb_dry (payload_of answer 32) (f refl)
  phase_dry (phases.HighEui orb) g f = high_dry (payload_of answer 4) orb
  phase_dry (phases.LowEui orb high) g f = low_dry (payload_of answer 4) orb high g
  phase_dry (phases.Response fifo) g f = response_dry (write_failure answer) fifo g
  phase_dry phases.Status g f = status_dry (write_failure answer)

  pub reply_may : m.operation ≡ Some own → GoodIn own.phase → (own.phase ≡ phases.Orb → (xs : List ℕ) → payload_of answer 32 ≡ Ok xs → IsGoodOrb (management_orb xs)) → Dry (management.reply_step m t keys answer).0.ask
  unfolding management.reply_step
  reply_may is g f = subst (λ (o : Option Operation). Dry (management.reply_to o m t keys answer).0.ask) (sym is) (phase_dry own.phase g f)

pub reply_dry : (m : management.Machine) (t : Table) (keys : List (List ℕ)) (answer : Answer) (own : Operation) → m.operation ≡ Some own → GoodIn own.phase → (own.phase ≡ phases.Orb → (xs : List ℕ) → payload_of answer 32 ≡ Ok xs → IsGoodOrb (management_orb xs)) → (at len : ℕ) → (management.reply_step m t keys answer).0.ask ≡ asks.Write at len → IsDryAt at
reply_dry m t keys answer own is g f at len e = reply_may IsDryAt its_dry aside_dry m t keys answer own is g f at len e
