-- Why each list of an initiator is dropped: its AGENT_RESET or a read of AGENT_STATE is answered, or the status block 00 of its operation is got, which ends lists, or a
-- later generation is seen.
use Rattle.sbp_world.proofs.Words.Std.{arith, ◌≡◌, ◌∙◌, refl, sym, ap, subst, ◌<◌, ◌==◌, ℕ, suc, Bool, true, false, cond, List, ◌∷◌, Option, Some, None, Ok, nat_tests}
use Rattle.sbp_world.proofs.Words.Wire.{Header, LabelParts, Packet, header_in, write_block, reading, kind_as, shape_of, transaction, Finding, Layer, judging_step, of_again, of_generation, of_grammar, of_label, of_request, of_response, purpose_for, state_for, judged_note, empty_outbox, Moment, said, Sending, Transaction, terms, waits, Judged}
use Rattle.sbp_world.proofs.Words.Initiator.{start, fifo_at, StatusBlock, PresentList, Ending, Purpose, Running, InitiatorState, receive_step, ends_list, counts_for, ending_of, is_list, is_orb_of, operation_in, place_of, status_in, ends_the_list, state_drops, is_out_seat}
use Rattle.sbp_world.proofs.Words.Laws.{cuts_list, running_operation, Underway, host_at, is_management}
use Rattle.sbp_world.proofs.Words.World.{Core, work_in, work_of, is_open, IsResetting, TellsOfPresent}
use Rattle.bus_memory.specs.declared.window.Window.TheVariants as windows
use Rattle.orb_layout.specs.declared.status.StatusKind.TheVariants as kinds
use Rattle.sbp_initiator.specs.declared.purpose.Ending.TheVariants as endings
use Rattle.sbp_initiator.specs.declared.purpose.Purpose.TheVariants as purposes
use Rattle.sbp_journal.specs.declared.cause.Judged.TheVariants as judgements
use Rattle.sbp_journal.specs.declared.note.Note.TheVariants as notes
use Rattle.sbp_world.proofs.Wire.Deliver.{judging_stays}
use Rattle.sbp_world.specs.Hosts.Core.{placed}
use Rattle.sbp_world.proofs.Hosts.Hosted.{Cored}
use Rattle.sbp_world.proofs.Hosts.Lives.{At}
use Rattle.sbp_world.proofs.Hosts.PointerNotes.{Fit}
use Rattle.sbp_world.proofs.Hosts.Pointing.{called_of, under_way_now}
use Rattle.sbp_world.proofs.Hosts.Shown.{IsHeard, IsShown}
use Rattle.sbp_world.proofs.Pointers.Dropping.{drops_of, may_drop, receive_drops}
use Rattle.sbp_world.proofs.Pointers.Ending.{read_in}
use Rattle.sbp_world.proofs.Pointers.Finds.{closed_over, closes_at}
use Rattle.sbp_world.proofs.Pointers.GuardActs.{cutting_is}
use Rattle.sbp_world.proofs.Pointers.Guarded.{Guarded, receive_got}
use Rattle.sbp_world.proofs.Pointers.Waits.{AskedFor, is_cared}
use Rattle.sbp_world.specs.Lists.Opened.{IsAnswered}
use Rattle.sbp_world.proofs.Lists.ManageFinds.{read_request}
use Rattle.sbp_world.proofs.Lists.ManageTerms.{none_is, same_some}
use Rattle.sbp_world.proofs.Lists.OpenedBlocks.{IsDoneFor, request_drops}
use Rattle.sbp_world.proofs.Pointers.Ending.{complete_ends, zero_ends}
use Rattle.sbp_world.proofs.Common.{untrue, and_first}

-- ---- by the moment that began the turn

-- the status block 00 of the operation under way is got, which ends lists
pub record IsBlockGot (earlier : List Moment) (serial i : ℕ) : Type 0 where
  pub underway : Underway
  pub is : (host_at earlier i).operation ≡ Some underway
  pub manages : is_management underway.operation ≡ true
  pub cuts : cuts_list (Some underway.operation) ≡ true
  pub packet : Sending
  pub sent : (terms earlier).sent serial ≡ Some packet
  pub to_own : packet.to ≡ suc i
  pub from_target : packet.generation ≡ (terms earlier).generation (suc i) → packet.from ≡ 0
  pub header : Header
  pub offset : ℕ
  pub payload : List ℕ
  pub spelled : reading packet.bytes ≡ Ok (write_block header offset payload)
  pub logins : ℕ
  pub is_out : Bool
  pub opens : is_open (fifo_at logins is_out offset) ≡ true
  pub block : StatusBlock
  pub read : status_in payload ≡ Ok block
  pub kind : block.kind ≡ kinds.Management 0
  pub orb_is : block.orb ≡ start (windows.Management underway.place)

pub data Drops (past : List Moment) (i : ℕ) : Type 0 where
  drops_by_reset : (serial : ℕ) (earlier : List Moment) → past ≡ said (notes.Got serial) ∷ earlier → (request value : ℕ) → IsAnswered earlier serial i request value → IsResetting earlier i request → Drops past i
  drops_by_state : (serial : ℕ) (earlier : List Moment) → past ≡ said (notes.Got serial) ∷ earlier → (request : ℕ) → IsAnswered earlier serial i request 0 → TellsOfPresent earlier i request → Drops past i
  drops_by_block : (serial : ℕ) (earlier : List Moment) → past ≡ said (notes.Got serial) ∷ earlier → IsBlockGot earlier serial i → Drops past i
  drops_by_sight : (generation : ℕ) (earlier : List Moment) → past ≡ said (notes.Seen (suc i) generation) ∷ earlier → (terms earlier).generation (suc i) < generation → Drops past i

-- ---- small ones

record CountsFor (list : Option ℕ) (present : Option PresentList) : Type 0 where
  number : ℕ
  is : list ≡ Some number
  there : is_list present number ≡ true

counts_by : (list : Option ℕ) (present : Option PresentList) → counts_for present list ≡ true → CountsFor list present
counts_by None present e = untrue e
counts_by (Some list) present e = record { number = list; is = refl; there = e }

counts_of : (list : Option ℕ) (ending : Ending) (present : Option PresentList) → state_drops list ending present ≡ true → CountsFor list present
counts_of list (endings.Complete value) present e = counts_by list present (and_first (counts_for present list) (value == 0) e)
counts_of list (endings.Refused rcode) present e = untrue e
counts_of list endings.Expired present e = untrue e

-- ---- the operation of the host, where a status block is of that of the initiator
record AtHost (past : List Moment) (i orb : ℕ) : Type 0 where
  underway : Underway
  is : (host_at past i).operation ≡ Some underway
  manages : is_management underway.operation ≡ true
  orb_is : orb ≡ start (windows.Management underway.place)

place_by : (b : Bool) (place m : ℕ) → cond b (Some place) None ≡ Some m → (b ≡ true) × (place ≡ m)
place_by true place m e = (refl, same_some place m e)
place_by false place m e = none_is m e

at_host : (past : List Moment) (i orb : ℕ) (found : Option Underway) (running : Running) (managed : Option ℕ) → (host_at past i).operation ≡ found → running.managed ≡ managed → work_of found ≡ work_in (Some running) → is_orb_of managed orb ≡ true → AtHost past i orb
at_host past i orb None running managed e m w n = none_is _ w
at_host past i orb (Some u) running None e m w n = untrue n
at_host past i orb (Some u) running (Some managed) e m w n =
    let k = place_by (is_management u.operation) u.place (place_of managed) (ap (λ x. x.place) (same_some _ _ w) ∙ ap placed m) in
    record {
      underway = u;
      is = e;
      manages = k.0;
      orb_is = (let z : orb ≡ start (windows.Management (place_of managed)) = grind (arith, nat_tests) in z) ∙ ap (λ p. start (windows.Management p)) (sym k.1);
    }

-- ---- a packet is heard

module _ (ready : Bool) (serial generation : ℕ) (bytes : List ℕ) (past : List Moment) (i : ℕ) (s : InitiatorState) (heard : IsHeard past i serial generation bytes) (shown : IsShown past i s.target s.layer) (after_it : IsShown (said (judged_note serial (receive_step generation bytes empty_outbox s).0) ∷ past) i s.target (judging_step s.layer generation bytes).1) (h : Guarded ready past i s) (fit : Fit past) where
  abbrev judged : Judged
  judged = (receive_step generation bytes empty_outbox s).0

  abbrev l : Layer Purpose
  l = (judging_step s.layer generation bytes).1

  abbrev behind : Judged → List Moment
  behind j = said (judged_note serial j) ∷ past

  abbrev got : List Moment
  got = said (notes.Got serial) ∷ past

  abbrev c : Cored ready past i s
  c = h.pointed.cored

  -- a response answers the request of its transaction
  module _ (p : Packet) (label : LabelParts) (purpose : Purpose) (f : (judging_step s.layer generation bytes).0 ≡ of_response p label (Some purpose)) (cared : is_cared purpose ≡ true) where
    a : At s.layer (header_in p).source label.number (Some purpose)
    a = closes_at s.layer generation bytes p label (Some purpose) (called_of c) f

    peer : (header_in p).source ≡ s.target
    peer = h.aimed.aims (header_in p).source label.number (Some purpose) a

    there : At s.layer s.target label.number (Some purpose)
    there = subst (λ x. At s.layer x label.number (Some purpose)) peer a

    w : AskedFor past i s.layer.generation label.number purpose
    w = (h.asks fit).waits_for label.number purpose cared there

    abbrev v : Transaction
    v = transaction s.layer.generation (suc i) 0 label.number

    now_got : judged ≡ judgements.Got
    now_got = receive_got generation bytes p label (Some purpose) s f

    over : (terms (behind judged)).held v ≡ waits w.kind w.serial → ⊥
    over e =
        let g : l.generation ≡ s.layer.generation = judging_stays s.layer generation bytes in
        let u = under_way_now (state_for l.peers s.target label.number) (kind_as w.kind) (after_it.states label.number ∙ ap (λ x. shape_of ((terms (behind judged)).held (transaction x (suc i) 0 label.number))) g ∙ ap shape_of e) in
        let b : At l s.target label.number (purpose_for l.peers s.target label.number) = record { kind = u.kind; serial = u.serial; state = u.is; is_for = refl } in
        closed_over s.layer generation bytes p label (Some purpose) (called_of c) f (purpose_for l.peers s.target label.number) (subst (λ x. At l x label.number (purpose_for l.peers s.target label.number)) (sym peer) b)

    over_got : (terms got).held (transaction ((terms past).generation (suc i)) (suc i) 0 label.number) ≡ waits w.kind w.serial → ⊥
    over_got e = over (ap (λ j. (terms (behind j)).held v) now_got ∙ (ap (λ g. (terms got).held (transaction g (suc i) 0 label.number)) h.generation ∙ e))

    answered : (value : ℕ) → ending_of p ≡ endings.Complete value → IsAnswered past serial i w.serial value
    answered value e = record {
      packet = heard.packet;
      sent = heard.sent;
      p = p;
      spelled = ap reading heard.bytes_are ∙ read_in s.layer generation bytes p label (Some purpose) f;
      complete = e;
      label = label.number;
      kind = w.kind;
      waited = ap (λ g. (terms past).held (transaction g (suc i) 0 label.number)) (sym h.generation) ∙ w.held;
      over = over_got;
    }

  -- the transaction that a response closes
  closed_ends : (p : Packet) (label : LabelParts) (purpose : Purpose) → (judging_step s.layer generation bytes).0 ≡ of_response p label (Some purpose) → ends_the_list purpose (ending_of p) s.lists.slots.present ≡ true → Drops got i
  closed_ends p label (purposes.AgentReset act) f e =
      let k = complete_ends act (ending_of p) s.lists.slots.present e in
      let x = w p label (purposes.AgentReset act) f refl in
      drops_by_reset serial past refl x.serial k.0 (answered p label (purposes.AgentReset act) f refl k.0 k.1) ((h.resets fit).first label.number act x.kind x.serial (there p label (purposes.AgentReset act) f refl) x.held)
  closed_ends p label (purposes.State act list) f e =
      let x = w p label (purposes.State act list) f refl in
      let n = counts_of list (ending_of p) s.lists.slots.present e in
      drops_by_state serial past refl x.serial (answered p label (purposes.State act list) f refl 0 (zero_ends list (ending_of p) s.lists.slots.present e)) (record { list = n.number; present = h.shown n.number n.there; told = x.told n.number n.is })
  closed_ends p label (purposes.Pointer list) f e = untrue e
  closed_ends p label purposes.Doorbell f e = untrue e
  closed_ends p label (purposes.Enable act) f e = untrue e
  closed_ends p label (purposes.Management act) f e = untrue e
  closed_ends p label (purposes.Rom act) f e = untrue e

  -- a status block
  block_got : IsDoneFor s generation bytes → IsBlockGot past serial i
  block_got d =
      let work = ap (λ (x : Core). x.work) c.core in
      let k = at_host past i d.block.orb (host_at past i).operation d.running d.running.managed refl refl (work ∙ ap work_in d.is) d.names in
      let spelled : reading heard.packet.bytes ≡ Ok (write_block d.header d.offset d.payload) = ap reading heard.bytes_are ∙ read_request s.layer generation bytes (write_block d.header d.offset d.payload) d.found in
      record {
        underway = k.underway;
        is = k.is;
        manages = k.manages;
        cuts = ap (λ (x : Option Underway). cuts_list (running_operation x)) (sym k.is) ∙ cutting_is past i s c.core ∙ ap (λ (x : Option Running). ends_list (operation_in x)) d.is ∙ d.cuts;
        packet = heard.packet;
        sent = heard.sent;
        to_own = heard.to_is;
        from_target = λ e. heard.apart s.layer.generation heard.packet.from 0
            (ap (λ g. (terms past).ids g heard.packet.from) (shown.generation ∙ sym e) ∙ (sym (heard.source (write_block d.header d.offset d.payload) spelled) ∙ (d.source ∙ sym shown.named)));
        header = d.header;
        offset = d.offset;
        payload = d.payload;
        spelled = spelled;
        logins = s.counts.logins;
        is_out = is_out_seat s.seat;
        opens = d.opens;
        block = d.block;
        read = d.read;
        kind = d.kind;
        orb_is = k.orb_is;
      }

  found_drops : (f : Finding Purpose) → (judging_step s.layer generation bytes).0 ≡ f → may_drop f s ≡ true → drops_of i (receive_step generation bytes empty_outbox s).1.0.sides ≡ true → Drops (behind judged) i
  found_drops (of_response p label (Some purpose)) f e d =
      subst (λ j. Drops (behind j) i) (sym (receive_got generation bytes p label (Some purpose) s f)) (closed_ends p label purpose f e)
  found_drops (of_request p) f e d =
      let k = request_drops i s generation bytes p f d in
      subst (λ j. Drops (behind j) i) (sym k.1) (drops_by_block serial past refl (block_got k.0))
  found_drops (of_response p label None) f e d = untrue e
  found_drops of_generation f e d = untrue e
  found_drops of_grammar f e d = untrue e
  found_drops of_label f e d = untrue e
  found_drops (of_again p rcode) f e d = untrue e

  drops_by : (b : Bool) → may_drop (judging_step s.layer generation bytes).0 s ≡ b → drops_of i (receive_step generation bytes empty_outbox s).1.0.sides ≡ true → Drops (behind judged) i
  drops_by true e d = found_drops (judging_step s.layer generation bytes).0 refl e d
  drops_by false e d = untrue (sym (receive_drops i generation bytes s (λ f. untrue (sym e ∙ f))) ∙ d)

  pub heard_drops : drops_of i (receive_step generation bytes empty_outbox s).1.0.sides ≡ true → Drops (behind judged) i
  heard_drops d = drops_by (may_drop (judging_step s.layer generation bytes).0 s) refl d
