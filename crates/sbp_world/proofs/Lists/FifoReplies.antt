-- What a reply brings the target's management to write: a response, which reads as no status block, or a status block; nothing in another phase. And what is told leaves an operation that goes on.
use Rattle.sbp_world.proofs.Words.Std.{◌≡◌, ◌∙◌, refl, sym, ap, subst, ◌≤◌, ◌*◌, ◌+◌, ◌^◌, ◌==◌, ℕ, Bool, true, false, cond, List, [], ◌∷◌, length, Option, Some, None, Result, Ok, Err, is_none, position, quad}
use Rattle.sbp_world.proofs.Words.Wire.{function_word, login_if, Note, FunctionWord, Side}
use Rattle.sbp_world.proofs.Words.Target.{Table, ManagerStep, Operation, Status, decide, reads_eui, beside, cut_response, decide_step, decided_as, eui_step, high_eui_at, high_got, in_phase, low_eui_at, low_got, orb_got, reply_in, reply_to, response_written, status_block, status_step, status_written}
use Rattle.sbp_world.proofs.Words.Initiator.{Ask, FailCause, ManagementOrb, management_orb, Answer, payload_of, write_failure}
use Rattle.sbp_world.proofs.Words.Laws.{Decided}
use Rattle.sbp_world.proofs.Words.World.{Office, by_managed, by_note, by_side, by_sides, placed, placed_by, is_responding}
use Rattle.mgmt_agent.specs.declared.decision.Outcome.{Outcome}
use Rattle.mgmt_agent.specs.declared.operation.Phase.{Phase}
use Rattle.mgmt_agent.specs.declared.operation.Phase.TheVariants as phases
use Rattle.mgmt_agent.specs.declared.status.Status.TheVariants as statuses
use Rattle.mgmt_agent.specs.Machine.{Machine, quiet, reply_step}
use Rattle.orb_layout.specs.declared.ask.Ask.TheVariants as asks
use Rattle.sbp_journal.specs.declared.note.Note.TheVariants as notes
use Rattle.sbp_journal.specs.declared.operation.FunctionWord.TheVariants as functions
use Rattle.sbp_journal.specs.declared.side.Side.TheVariants as sides
use Rattle.sbp_world.proofs.Lists.StatusManaged.{Small, Unread, decide_small, response_unread}
use Rattle.sbp_world.proofs.Lists.StatusSteps.{read_wrote}

none_op : (op : Operation) → None ≡ Some op → ⊥
none_op op e = cc

-- ---- a reply to an operation: what it writes, but for its status block, reads as no status block
module _ (m : Machine) (t : Table) (keys : List (List ℕ)) (answer : Answer) (most : t.last ≤ 65535) (size : length t.places ≡ 8) (own : Operation) where
  abbrev Quiet : Option Operation → Ask → List ℕ → Type 0
  Quiet operation ask out = (op : Operation) → operation ≡ Some op → (op.phase ≡ phases.Status → ⊥) → (at len : ℕ) → ask ≡ asks.Write at len → Unread out × (is_responding op.phase ≡ true)

  abbrev Mild : ManagerStep × (Machine × Table) → Type 0
  Mild r = Quiet r.1.0.operation r.0.ask r.1.0.outgoing

  over : (ask : Ask) (out : List ℕ) → Quiet None ask out
  over ask out op e f at len g = absurd (none_op op e)

  reads : (operation : Option Operation) (from count : ℕ) (out : List ℕ) → Quiet operation (asks.Read from count) out
  reads operation from count out op e f at len g = absurd (read_wrote from count at len g)

  tells : (ask : Ask) (out : List ℕ) → Quiet (Some (record own { phase = phases.Status })) ask out
  tells ask out op e f at len g =
      let same : record own { phase = phases.Status } ≡ op = cc in
      absurd (f (ap (λ (x : Operation). x.phase) (sym same)))

  pick_mild : (b : Bool) (x y : ManagerStep × (Machine × Table)) → Mild x → Mild y → Mild (cond b x y)
  pick_mild true x y h k = h
  pick_mild false x y h k = k

  responds : (begun : Machine) (orb : ManagementOrb) (status : Status) (b : Bool) → Unread begun.outgoing → (let s = cond b (status_step begun own orb.fifo status) (quiet (asks.Write orb.second (length begun.outgoing)), in_phase begun own (phases.Response orb.fifo)) in Quiet s.1.operation s.0.ask s.1.outgoing)
  responds begun orb status true u op e f at len g = tells (asks.Write orb.fifo 8) (status_block own.orb status) op e f at len g
  responds begun orb status false u op e f at len g = let same : record own { phase = phases.Response orb.fifo } ≡ op = cc in (u, ap (λ (x : Operation). is_responding x.phase) (sym same))

  decided_mild : (orb : ManagementOrb) (x : Outcome × Table) → Small x → Mild (decided_as x m own orb)
  decided_mild orb (outcome, table) small =
      let begun = record m { outgoing = cut_response orb outcome table } in
      responds begun orb outcome.status (length begun.outgoing == 0) (response_unread (outcome, table) orb.response_length outcome.response small)

  decides : (orb : ManagementOrb) (eui : ℕ) → Mild (decide_step m own orb eui t keys)
  unfolding decide_step
  decides orb eui = decided_mild orb (decide orb own.source eui t keys) (decide_small orb own.source eui t keys most size)

  orb_mild : (bytes : Result (List ℕ) FailCause) → Mild (orb_got bytes m own t keys)
  orb_mild (Err cause) = over asks.Nothing m.outgoing
  orb_mild (Ok bytes) =
      let orb = management_orb bytes in
      pick_mild (reads_eui orb) (beside t (eui_step m own (phases.HighEui orb) high_eui_at)) (decide_step m own orb 0 t keys) (reads _ high_eui_at 4 m.outgoing) (decides orb 0)

  high_mild : (bytes : Result (List ℕ) FailCause) (orb : ManagementOrb) → Mild (beside t (high_got bytes m own orb))
  high_mild (Err cause) orb = over asks.Nothing m.outgoing
  high_mild (Ok bytes) orb = reads _ low_eui_at 4 m.outgoing

  low_mild : (bytes : Result (List ℕ) FailCause) (orb : ManagementOrb) (high : ℕ) → Mild (low_got bytes m own orb high t keys)
  low_mild (Err cause) orb high = over asks.Nothing m.outgoing
  low_mild (Ok bytes) orb high = decides orb (high * 2 ^ 32 + quad bytes 0)

  response_mild : (failure : Option FailCause) (fifo : ℕ) → Mild (beside t (response_written failure m own fifo))
  response_mild None fifo = tells (asks.Write fifo 8) (status_block own.orb statuses.NoFault)
  response_mild (Some cause) fifo = over asks.Nothing m.outgoing

  status_mild : (failure : Option FailCause) → Mild (beside t (status_written failure m))
  status_mild None = over asks.Nothing m.outgoing
  status_mild (Some cause) = over asks.Nothing m.outgoing

  phase_mild : (phase : Phase) → Mild (reply_in phase m own t keys answer)
  phase_mild phases.Orb = orb_mild (payload_of answer 32)
  phase_mild (phases.HighEui orb) = high_mild (payload_of answer 4) orb
  phase_mild (phases.LowEui orb high) = low_mild (payload_of answer 4) orb high
  phase_mild (phases.Response fifo) = response_mild (write_failure answer) fifo
  phase_mild phases.Status = status_mild (write_failure answer)

  pub reply_unread : m.operation ≡ Some own → Mild (reply_step m t keys answer)
  unfolding reply_step
  reply_unread is = subst (λ (o : Option Operation). Mild (reply_to o m t keys answer)) (sym is) (phase_mild own.phase)

-- ---- where the status block goes: to the FIFO of the ORB that was read, or that was kept
pub data IsFifoFrom (own : Operation) (answer : Answer) (at : ℕ) : Type 0 where
  of_written : own.phase ≡ phases.Response at → IsFifoFrom own answer at
  of_low : (orb : ManagementOrb) (high : ℕ) → own.phase ≡ phases.LowEui orb high → orb.fifo ≡ at → IsFifoFrom own answer at
  of_read : own.phase ≡ phases.Orb → (bytes : List ℕ) → payload_of answer 32 ≡ Ok bytes → (management_orb bytes).fifo ≡ at → IsFifoFrom own answer at

response_ends : (fifo : ℕ) → phases.Response fifo ≡ phases.Status → ⊥
response_ends fifo e = cc

pub same_at : (fifo size at len : ℕ) → asks.Write fifo size ≡ asks.Write at len → fifo ≡ at
same_at fifo size at len e = cc

module _ (m : Machine) (t : Table) (keys : List (List ℕ)) (answer : Answer) (own : Operation) where
  abbrev From : Option Operation → Ask → Type 0
  From operation ask = (op : Operation) → operation ≡ Some op → op.phase ≡ phases.Status → (at len : ℕ) → ask ≡ asks.Write at len → IsFifoFrom own answer at

  abbrev Goes : ManagerStep × (Machine × Table) → Type 0
  Goes r = From r.1.0.operation r.0.ask

  none_from : (ask : Ask) → From None ask
  none_from ask op e f at len g = absurd (none_op op e)

  read_from : (operation : Option Operation) (from count : ℕ) → From operation (asks.Read from count)
  read_from operation from count op e f at len g = absurd (read_wrote from count at len g)

  told_from : (operation : Option Operation) (fifo : ℕ) → ((at : ℕ) → fifo ≡ at → IsFifoFrom own answer at) → From operation (asks.Write fifo 8)
  told_from operation fifo k op e f at len g = k at (same_at fifo 8 at len g)

  pick_from : (b : Bool) (x y : ManagerStep × (Machine × Table)) → Goes x → Goes y → Goes (cond b x y)
  pick_from true x y h k = h
  pick_from false x y h k = k

  responds_from : (begun : Machine) (orb : ManagementOrb) (status : Status) (b : Bool) → ((at : ℕ) → orb.fifo ≡ at → IsFifoFrom own answer at) → (let s = cond b (status_step begun own orb.fifo status) (quiet (asks.Write orb.second (length begun.outgoing)), in_phase begun own (phases.Response orb.fifo)) in From s.1.operation s.0.ask)
  responds_from begun orb status true k = told_from _ orb.fifo k
  responds_from begun orb status false k = λ op e f at len g.
      let same : record own { phase = phases.Response orb.fifo } ≡ op = cc in
      absurd (response_ends orb.fifo (ap (λ (x : Operation). x.phase) same ∙ f))

  decided_from : (orb : ManagementOrb) (x : Outcome × Table) → ((at : ℕ) → orb.fifo ≡ at → IsFifoFrom own answer at) → Goes (decided_as x m own orb)
  decided_from orb (outcome, table) k =
      let begun = record m { outgoing = cut_response orb outcome table } in
      responds_from begun orb outcome.status (length begun.outgoing == 0) k

  decides_from : (orb : ManagementOrb) (eui : ℕ) → ((at : ℕ) → orb.fifo ≡ at → IsFifoFrom own answer at) → Goes (decide_step m own orb eui t keys)
  unfolding decide_step
  decides_from orb eui k = decided_from orb (decide orb own.source eui t keys) k

  orb_from : (bytes : Result (List ℕ) FailCause) → payload_of answer 32 ≡ bytes → own.phase ≡ phases.Orb → Goes (orb_got bytes m own t keys)
  orb_from (Err cause) e f = none_from asks.Nothing
  orb_from (Ok bytes) e f =
      let orb = management_orb bytes in
      pick_from (reads_eui orb) (beside t (eui_step m own (phases.HighEui orb) high_eui_at)) (decide_step m own orb 0 t keys) (read_from _ high_eui_at 4) (decides_from orb 0 (λ at g. of_read f bytes e g))

  high_from : (bytes : Result (List ℕ) FailCause) (orb : ManagementOrb) → Goes (beside t (high_got bytes m own orb))
  high_from (Err cause) orb = none_from asks.Nothing
  high_from (Ok bytes) orb = read_from _ low_eui_at 4

  low_from : (bytes : Result (List ℕ) FailCause) (orb : ManagementOrb) (high : ℕ) → own.phase ≡ phases.LowEui orb high → Goes (low_got bytes m own orb high t keys)
  low_from (Err cause) orb high f = none_from asks.Nothing
  low_from (Ok bytes) orb high f = decides_from orb (high * 2 ^ 32 + quad bytes 0) (λ at g. of_low orb high f g)

  response_from : (failure : Option FailCause) (fifo : ℕ) → own.phase ≡ phases.Response fifo → Goes (beside t (response_written failure m own fifo))
  response_from None fifo f = told_from _ fifo (λ at g. of_written (f ∙ ap (λ n. phases.Response n) g))
  response_from (Some cause) fifo f = none_from asks.Nothing

  status_from : (failure : Option FailCause) → Goes (beside t (status_written failure m))
  status_from None = none_from asks.Nothing
  status_from (Some cause) = none_from asks.Nothing

  phase_from : (phase : Phase) → own.phase ≡ phase → Goes (reply_in phase m own t keys answer)
  phase_from phases.Orb f = orb_from (payload_of answer 32) refl f
  phase_from (phases.HighEui orb) f = high_from (payload_of answer 4) orb
  phase_from (phases.LowEui orb high) f = low_from (payload_of answer 4) orb high f
  phase_from (phases.Response fifo) f = response_from (write_failure answer) fifo f
  phase_from phases.Status f = status_from (write_failure answer)

  pub fifo_from : m.operation ≡ Some own → Goes (reply_step m t keys answer)
  unfolding reply_step
  fifo_from is = subst (λ (o : Option Operation). Goes (reply_to o m t keys answer)) (sym is) (phase_from own.phase refl)

-- ---- what is told leaves an operation that goes on as it is
placed_same : (place : Option ℕ) (decided : Option Decided) (id : ℕ) (o : Office) → (placed place decided id o).manager ≡ o.manager
placed_same None decided id o = refl
placed_same (Some place) None id o = refl
placed_same (Some place) (Some decided) id o = refl

entered_same : (login : Option ℕ) (o : Office) → (placed_by login o).manager ≡ o.manager
entered_same None o = refl
entered_same (Some id) o = placed_same (position is_none o.table.places) o.decided id o

managed_same : (word : FunctionWord) (login : Option ℕ) (o : Office) → (by_managed word login o).manager ≡ o.manager
managed_same functions.Login login o = entered_same login o
managed_same _ login o = refl

note_same : (note : Note) (o : Office) (op : Operation) → (by_note note o).manager.operation ≡ Some op → (by_note note o).manager ≡ o.manager
note_same (notes.ManageFailed i cause) o op e = absurd (none_op op e)
note_same (notes.Managed i word subject status login) o op e = managed_same word login o
note_same (notes.Held id) o op e = refl
note_same (notes.Back id) o op e = refl
note_same (notes.Left id) o op e = refl
note_same (notes.Expired id) o op e = refl
note_same _ o op e = refl

side_same : (side : Side) (o : Office) (op : Operation) → (by_side side o).manager.operation ≡ Some op → (by_side side o).manager ≡ o.manager
side_same (sides.Own note) o op e = note_same note o op e
side_same (sides.Managed node function subject status login) o op e = managed_same (function_word function) (login_if (function_word function) status login) o
side_same (sides.ManageFailed node cause) o op e = absurd (none_op op e)
side_same (sides.Held login) o op e = refl
side_same (sides.Expired login) o op e = refl
side_same (sides.Back login) o op e = refl
side_same (sides.Left login) o op e = refl
side_same _ o op e = refl

pub sides_same : (later : List Side) (o : Office) (op : Operation) → (by_sides later o).manager.operation ≡ Some op → (by_sides later o).manager ≡ o.manager
sides_same [] o op e = refl
sides_same (side ∷ later) o op e =
    let r = sides_same later (by_side side o) op e in
    r ∙ side_same side o op (ap (λ (m : Machine). m.operation) (sym r) ∙ e)
