-- In every run the answer of each good status that an initiator took is what its buffer held.
use Rattle.sbp_world.proofs.Words.Std.{◌≡◌, refl, sym, ◌∙◌, ap, subst, ℕ, ◌<◌, Bool, cond, List, [], ◌∷◌, map, Option, Some, None, Result, Ok, Err}
use Rattle.sbp_world.proofs.Words.Wire.{Packet, judging_step, of_request, judged_note, empty_outbox, Moment, said, Cmd}
use Rattle.sbp_world.proofs.Words.Initiator.{Memory, slot_at, slot_of, AreCalls, Call, laws_after, StatusBlock, ListState, answer_at, answer_by, no_answer, plan_at, stepped, take_lists, TakeStatus, SlotTable, slot_in, waiting, TicketParts, ListFault, plan_of, answer_of, receive_step, InitiatorState, buffer_addresses}
use Rattle.sbp_world.proofs.Words.Laws.{prepared_in, laid_out, appends}
use Rattle.sbp_world.proofs.Words.World.{byte_brought, byte_from, byte_held, LastFits, terms_at, StandsIn, name, name_in}
use Rattle.std.proofs.Common.{slice_index_or}
use Rattle.bus_memory.specs.declared.window.Window.TheVariants as windows
use Rattle.bus_memory.proofs.Found.{slot_of_law}
use Rattle.orb_layout.specs.declared.status.StatusKind.TheVariants as kinds
use Rattle.orb_list.specs.Table as table
use Rattle.orb_list.proofs.Tied.{waits_last}
use Rattle.sbp_laws.specs.Lists as lists
use Rattle.sbp_world.specs.Hosts.Answers.{IsAnswerOf}
use Rattle.sbp_world.proofs.Hosts.AnswerBytes.{answer_is}
use Rattle.sbp_world.proofs.Hosts.AnswerPlans.{PlansHold, names}
use Rattle.sbp_world.proofs.Hosts.ByteCalls.{KeepsBytes, call_keeps}
use Rattle.sbp_world.proofs.Hosts.ByteHears.{fifo_none, quiet_note}
use Rattle.sbp_world.proofs.Hosts.ByteReads.{filled, places_length}
use Rattle.sbp_world.proofs.Hosts.ByteRuns.{Bytes}
use Rattle.sbp_world.proofs.Hosts.ByteTerms.{SlotBytes, byte_terms}
use Rattle.sbp_world.proofs.Hosts.HostRows.{host_apart}
use Rattle.sbp_world.proofs.Hosts.MemoryHolds.{memory_coded}
use Rattle.sbp_world.proofs.Hosts.OrbRuns.{apart_still}
use Rattle.sbp_world.proofs.Hosts.Orbs.{stands, whole}
use Rattle.sbp_world.proofs.Hosts.Over.{last_at}
use Rattle.sbp_world.proofs.Hosts.Passes.{judged_apart}
use Rattle.sbp_world.proofs.Hosts.Shown.{IsHeard}
use Rattle.sbp_world.proofs.Hosts.TakenWalks.{IsToFifo}

-- ---- a status is taken

-- the slot of the ORB that waited
pub record TakenAt (s : SlotTable) (t : TicketParts) : Type 0 where
  pub number : ℕ
  pub small : number < 32
  pub last : (slot_in s.slots number).last ≡ Some t

status_taken : (found : Option TicketParts) (number : ℕ) (s : SlotTable) (m : Memory) (block : StatusBlock) (t : TicketParts) → waiting (slot_in s.slots number) ≡ found → (table.status_at found number s m block).0 ≡ Ok t → waiting (slot_in s.slots number) ≡ Some t
status_taken None number s m block t e f = absurd (cc f)
status_taken (Some u) number s m block t e f = let same : u ≡ t = cc in e ∙ ap (λ x. Some x) same

status_found : (found : Option ℕ) (s : SlotTable) (m : Memory) (block : StatusBlock) (t : TicketParts) → slot_of block.orb ≡ found → (table.status_for found s m block).0 ≡ Ok t → TakenAt s t
status_found None s m block t e f = absurd (cc f)
status_found (Some number) s m block t e f = record {
  number = number;
  small = (slot_of_law.begins block.orb number e).0;
  last = waits_last (slot_in s.slots number) t (status_taken (waiting (slot_in s.slots number)) number s m block t refl f);
}

status_at : (s : SlotTable) (m : Memory) (block : StatusBlock) (t : TicketParts) → (table.status_step s m block).0 ≡ Ok t → TakenAt s t
unfolding table.status_step
status_at s m block t f = status_found (slot_of block.orb) s m block t refl f

-- what is taken, and what is left
pub record Takes (old : ListState) (block : StatusBlock) (t : TicketParts) (new : ListState) : Type 0 where
  pub taken : (table.status_step old.slots old.memory block).0 ≡ Ok t
  pub memory : new.memory ≡ (table.status_step old.slots old.memory block).1.1
  pub answers : new.answers ≡ old.answers

takes_by : (old : ListState) (block : StatusBlock) (t : TicketParts) (new : ListState) (r : Result TicketParts ListFault × (SlotTable × Memory)) → table.status_step old.slots old.memory block ≡ r → stepped r old ≡ (Some t, new) → Takes old block t new
takes_by old block t new (Ok u, parts) e f =
    let first : Some u ≡ Some t = ap (λ (x : Option TicketParts × ListState). x.0) f in
    let same : u ≡ t = cc in
    let lists : record old { slots = parts.0; memory = parts.1 } ≡ new = ap (λ (x : Option TicketParts × ListState). x.1) f in
    record {
      taken = ap (λ (x : Result TicketParts ListFault × (SlotTable × Memory)). x.0) e ∙ ap (λ x. Ok x) same;
      memory = sym (ap (λ (x : ListState). x.memory) lists) ∙ ap (λ (x : Result TicketParts ListFault × (SlotTable × Memory)). x.1.1) (sym e);
      answers = sym (ap (λ (x : ListState). x.answers) lists);
    }
takes_by old block t new (Err fault, parts) e f = let first : None ≡ Some t = ap (λ (x : Option TicketParts × ListState). x.0) f in absurd (cc first)

takes : (old : ListState) (block : StatusBlock) (t : TicketParts) (new : ListState) → take_lists old block ≡ (Some t, new) → Takes old block t new
unfolding take_lists
takes old block t new e = takes_by old block t new (table.status_step old.slots old.memory block) refl e

good_answer : (new : ListState) (slot : ℕ) → answer_of kinds.Good new slot ≡ answer_by (plan_at new slot) (slot_at new.memory slot).buffer
unfolding answer_at
good_answer new slot = refl

-- ---- its answer

-- where the memory holds what the history says as the packet is judged
module _ (ready : Bool) (now : List Moment) (i : ℕ) (s : InitiatorState) (b : Bytes ready now i s) (p : PlansHold (names now i) s.lists.answers) (block : StatusBlock) (t : TicketParts) (new : ListState) (e : take_lists s.lists block ≡ (Some t, new)) where
  took : Takes s.lists block t new
  took = takes s.lists block t new e

  at : TakenAt s.lists.slots t
  at = status_at s.lists.slots s.lists.memory block t took.taken

  abbrev k : ℕ
  k = at.number

  last : LastFits s.lists.slots.lists (appends now i) (lists.slot_at now i) k t
  last = last_at (terms_at now i) s.lists.slots b.host.rows.fits k t at.small at.last

  prepared : prepared_in now i k ≡ Some (name t)
  prepared = b.host.rows.fits.prepared k at.small ∙ ap name_in at.last

  stand : StandsIn now i s.lists.memory k (name t)
  stand = stands ready now i s b.host.rows b.orbs k (name t) at.small prepared

  abbrev cmd : Cmd
  cmd = stand.cmd

  keeps : KeepsBytes s.lists.memory new.memory
  keeps =
      subst (KeepsBytes s.lists.memory) (sym took.memory)
      (call_keeps s.lists.slots s.lists.memory (TakeStatus block) tt tt (whole ready now i s b.host.rows b.orbs))

  plan : plan_at new k ≡ plan_of cmd
  plan = ap (λ xs. slice_index_or xs k no_answer) took.answers ∙ p.plans k (name t) cmd at.small prepared stand.command

  bytes : answer_by (plan_of cmd) (slot_at new.memory k).buffer ≡ cond cmd.to_initiator (map (byte_held now i k) (buffer_addresses (laid_out k cmd cmd.segments))) []
  bytes =
      ap (answer_by (plan_of cmd)) (keeps.buffers k)
      ∙ answer_is cmd (slot_at s.lists.memory k).buffer ((whole ready now i s b.host.rows b.orbs).sizes (windows.Buffer k)) k (byte_held now i k)
      (filled ready now i s b k (name t) cmd at.small prepared stand.command) (places_length ready now i s b k (name t) cmd at.small prepared stand.command)
      (λ j c. b.slots.buffers k j at.small c)

  pub answered : IsAnswerOf now i t.list t.number (answer_of kinds.Good new t.slot)
  answered = record {
    cmd = cmd;
    command = stand.command;
    is = good_answer new t.slot
        ∙ (ap (λ n. answer_by (plan_at new n) (slot_at new.memory n).buffer) last.slot
        ∙ (ap (λ x. answer_by x (slot_at new.memory k).buffer) plan
        ∙ (bytes ∙ ap (λ n. cond cmd.to_initiator (map (byte_held now i n) (buffer_addresses (laid_out n cmd cmd.segments))) []) (sym last.at))));
  }

-- ---- a packet that it hears

module _ (ready : Bool) (i : ℕ) (calls : List Call) (called : AreCalls calls) (past : List Moment) (serial generation : ℕ) (bytes : List ℕ) (heard : IsHeard past i serial generation bytes) where
  abbrev state : InitiatorState
  state = (laws_after i ready calls).1

  abbrev pub judged : List Moment
  judged = said (judged_note serial (receive_step generation bytes empty_outbox state).0) ∷ past

  module _ (h : Bytes ready past i state) (plans : PlansHold (names judged i) state.lists.answers) (p : Packet) (f : (judging_step state.layer generation bytes).0 ≡ of_request p) (fifo : IsToFifo p state) where
    brings : (address : ℕ) → byte_brought address (Some p) ≡ byte_from address fifo.offset fifo.payload
    brings address = ap (λ x. byte_brought address (Some x)) fifo.is

    held : SlotBytes (byte_terms judged i) state.lists.memory
    held =
        let coded = memory_coded ready past i state h.host.rows h.orbs in
        quiet_note ready i calls called past serial generation bytes heard coded h.slots (receive_step generation bytes empty_outbox state).0 state.lists.memory
        (λ got. fifo_none ready i calls called past serial generation bytes heard coded h.slots p f fifo.offset fifo.payload fifo.fifo fifo.at brings) h.slots

    now_bytes : Bytes ready judged i state
    now_bytes =
        let note = judged_note serial (receive_step generation bytes empty_outbox state).0 in
        let apart = judged_apart serial (receive_step generation bytes empty_outbox state).0 i in
        record { host = host_apart note past i state apart h.host; orbs = apart_still ready note past i state apart h.orbs; slots = held }

    pub taken_answer : (block : StatusBlock) (t : TicketParts) (new : ListState) → take_lists state.lists block ≡ (Some t, new) → IsAnswerOf judged i t.list t.number (answer_of kinds.Good new t.slot)
    taken_answer block t new e = answered ready judged i state now_bytes plans block t new e
