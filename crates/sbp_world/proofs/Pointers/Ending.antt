-- Why a delivery drops a list.
use Rattle.sbp_world.proofs.Words.Std.{arith, ◌≡◌, refl, sym, ◌∙◌, ap, subst, ℕ, suc, ◌==◌, ◌&&◌, Bool, true, false, List, ◌∷◌, Option, Some, None, Result, Ok, Err, nat_tests}
use Rattle.sbp_world.proofs.Words.Wire.{LabelParts, Packet, header_in, reading, PacketFault, Layer, Finding, of_again, of_generation, of_grammar, of_label, of_request, of_response, facts_of, judged_by, judging_step, responded, Row, by_again, by_generation, by_grammar, by_label, by_request, by_response, row_of, empty_outbox, Moment, said, Transaction, terms, waits, kind_as, shape_of, transaction, Action, purpose_for, state_for, Judged, judged_note}
use Rattle.sbp_world.proofs.Words.Initiator.{PresentList, Ending, Purpose, InitiatorState, receive_step, received, ends_list, counts_for, ending_of, is_list, operation_in, ends_the_list, state_drops}
use Rattle.sbp_world.proofs.Words.World.{Answers, MayEnd, by_reset, by_state, by_status, is_cutting, turn_of}
use Rattle.sbp_journal.specs.declared.event.Action.TheVariants as actions
use Rattle.sbp_world.proofs.Wire.Deliver.{judging_stays}
use Rattle.sbp_journal.specs.declared.cause.Judged.TheVariants as judgements
use Rattle.sbp_initiator.specs.declared.purpose.Ending.TheVariants as endings
use Rattle.sbp_initiator.specs.declared.purpose.Purpose.TheVariants as purposes
use Rattle.sbp_world.proofs.Hosts.Aimed.{Aims}
use Rattle.sbp_world.proofs.Hosts.Hosted.{Cored}
use Rattle.sbp_world.proofs.Hosts.Lives.{At}
use Rattle.sbp_world.proofs.Hosts.Cores.{got_told}
use Rattle.sbp_world.proofs.Hosts.Pointing.{called_of, pointing_of, under_way_now}
use Rattle.sbp_world.proofs.Hosts.Shown.{IsHeard, IsShown}
use Rattle.sbp_world.proofs.Pointers.Ages.{got_closes}
use Rattle.sbp_world.proofs.Pointers.Waits.{AskedFor, Asks, is_cared}
use Rattle.sbp_world.proofs.Pointers.Dropping.{drops_of, may_drop, receive_drops}
use Rattle.sbp_world.proofs.Pointers.Finds.{closed_over, closes_at, reset_ends}
use Rattle.sbp_world.proofs.Pointers.GuardActs.{cutting_is}
use Rattle.sbp_world.proofs.Pointers.Guarded.{receive_got}
use Rattle.sbp_world.proofs.Pointers.Resetting.{Resets, made_reset}
use Rattle.sbp_world.proofs.Pointers.Showing.{IsShowing}
use Rattle.sbp_world.proofs.Pointers.Statuses.{GotOr, no_drop, request_got, was_got}
use Rattle.sbp_world.proofs.Pointers.WaitActs.{made_state as makes_state}
use Rattle.sbp_world.proofs.Common.{untrue, and_first}

pub other_number : (i j number : ℕ) → number ≡ i → (j == i) ≡ false → (number == j) ≡ false
other_number i j number e f = grind (arith, nat_tests)

-- ---- what a response spells

pub responded_is : (p q : Packet) (label : LabelParts) (purpose : Option Purpose) (found : Option (LabelParts × Option Purpose) × Layer Purpose) → (responded q found).0 ≡ of_response p label purpose → q ≡ p
responded_is p q label purpose (None, layer) f = cc
responded_is p q label purpose (Some (l, r), layer) f = cc

pub judged_read : (row : Row) (layer : Layer Purpose) (bytes : List ℕ) (read : Result Packet PacketFault) (p : Packet) (label : LabelParts) (purpose : Option Purpose) → (judged_by row layer bytes read).0 ≡ of_response p label purpose → read ≡ Ok p
judged_read by_generation layer bytes read p label purpose f = cc
judged_read by_grammar layer bytes read p label purpose f = cc
judged_read by_label layer bytes read p label purpose f = cc
judged_read by_response layer bytes (Ok q) p label purpose f = ap (λ x. Ok x) (responded_is p q label purpose _ f)
judged_read by_again layer bytes (Ok q) p label purpose f = cc
judged_read by_request layer bytes (Ok q) p label purpose f = cc
judged_read by_response layer bytes (Err fault) p label purpose f = cc
judged_read by_again layer bytes (Err fault) p label purpose f = cc
judged_read by_request layer bytes (Err fault) p label purpose f = cc

pub read_in : (layer : Layer Purpose) (generation : ℕ) (bytes : List ℕ) (p : Packet) (label : LabelParts) (purpose : Option Purpose) → (judging_step layer generation bytes).0 ≡ of_response p label purpose → reading bytes ≡ Ok p
unfolding judging_step
read_in layer generation bytes p label purpose f = judged_read (row_of (facts_of layer generation bytes)) layer bytes (reading bytes) p label purpose f

-- a read of AGENT_STATE that drops a list gives 0
pub zero_ends : (list : Option ℕ) (ending : Ending) (present : Option PresentList) → state_drops list ending present ≡ true → ending ≡ endings.Complete 0
zero_ends list (endings.Complete value) present e = by (counts_for present list) (value == 0) refl e
  where
    by : (b c : Bool) → (value == 0) ≡ c → (b && c) ≡ true → endings.Complete value ≡ endings.Complete 0
    by true true f g = let z : value ≡ 0 = grind (arith, nat_tests) in ap endings.Complete z
    by true false f g = untrue g
    by false c f g = untrue g
zero_ends list (endings.Refused rcode) present e = untrue e
zero_ends list endings.Expired present e = untrue e

-- and counts for it
record CountsFor (list : Option ℕ) (present : Option PresentList) : Type 0 where
  number : ℕ
  is : list ≡ Some number
  there : is_list present number ≡ true

counts_by : (list : Option ℕ) (present : Option PresentList) → counts_for present list ≡ true → CountsFor list present
counts_by None present e = untrue e
counts_by (Some list) present e = record { number = list; is = refl; there = e }

counts_of : (list : Option ℕ) (ending : Ending) (present : Option PresentList) → state_drops list ending present ≡ true → CountsFor list present
counts_of list (endings.Complete value) present e = counts_by list present (and_first (counts_for present list) (value == 0) e)
counts_of list (endings.Refused rcode) present e = untrue e
counts_of list endings.Expired present e = untrue e

-- a complete answer to an AGENT_RESET
pub complete_ends : (act : ℕ) (ending : Ending) (present : Option PresentList) → ends_the_list (purposes.AgentReset act) ending present ≡ true → (value : ℕ) × (ending ≡ endings.Complete value)
complete_ends act (endings.Complete value) present e = (value, refl)
complete_ends act (endings.Refused rcode) present e = untrue e
complete_ends act endings.Expired present e = untrue e

module _ (ready : Bool) (serial generation : ℕ) (bytes : List ℕ) (past : List Moment) (i : ℕ) (s : InitiatorState) (heard : IsHeard past i serial generation bytes) (after_it : IsShown (said (judged_note serial (receive_step generation bytes empty_outbox s).0) ∷ past) i s.target (judging_step s.layer generation bytes).1) (c : Cored ready past i s) (aims : Aims s.layer s.target) (asks : Asks past i s.target s.layer) (resets : Resets past i s.target s.layer) (shows : IsShowing past i s) (now_is : s.layer.generation ≡ (terms past).generation (suc i)) where
  abbrev judged : Judged
  judged = (receive_step generation bytes empty_outbox s).0

  abbrev l : Layer Purpose
  l = (judging_step s.layer generation bytes).1

  abbrev behind : Judged → List Moment
  behind j = said (judged_note serial j) ∷ past

  -- the note begins the turn
  turn_begins : (j : Judged) → MayEnd (behind j) i → MayEnd (turn_of (behind j)) i
  turn_begins judgements.Got e = e
  turn_begins (judgements.Ignored cause) e = e

  cutting : (j : Judged) → ends_list (operation_in s.operation) ≡ true → is_cutting (behind j) i ≡ true
  cutting judgements.Got e = cutting_is (behind judgements.Got) i s (got_told serial past i ∙ c.core) ∙ e
  cutting (judgements.Ignored cause) e = cutting_is (behind (judgements.Ignored cause)) i s c.core ∙ e

  -- a response answers the request of its transaction
  module _ (p : Packet) (label : LabelParts) (purpose : Purpose) (f : (judging_step s.layer generation bytes).0 ≡ of_response p label (Some purpose)) (cared : is_cared purpose ≡ true) where
    a : At s.layer (header_in p).source label.number (Some purpose)
    a = closes_at s.layer generation bytes p label (Some purpose) (called_of c) f

    peer : (header_in p).source ≡ s.target
    peer = aims (header_in p).source label.number (Some purpose) a

    w : AskedFor past i s.layer.generation label.number purpose
    w = asks.waits_for label.number purpose cared (subst (λ x. At s.layer x label.number (Some purpose)) peer a)

    abbrev v : Transaction
    v = transaction s.layer.generation (suc i) 0 label.number

    now_got : judged ≡ judgements.Got
    now_got = receive_got generation bytes p label (Some purpose) s f

    over : (terms (behind judged)).held v ≡ waits w.kind w.serial → ⊥
    over h =
        let g : l.generation ≡ s.layer.generation = judging_stays s.layer generation bytes in
        let u = under_way_now (state_for l.peers s.target label.number) (kind_as w.kind) (after_it.states label.number ∙ ap (λ x. shape_of ((terms (behind judged)).held (transaction x (suc i) 0 label.number))) g ∙ ap shape_of h) in
        let b : At l s.target label.number (purpose_for l.peers s.target label.number) = record { kind = u.kind; serial = u.serial; state = u.is; is_for = refl } in
        closed_over s.layer generation bytes p label (Some purpose) (called_of c) f (purpose_for l.peers s.target label.number) (subst (λ x. At l x label.number (purpose_for l.peers s.target label.number)) (sym peer) b)

    abbrev answers : (value : ℕ) → ending_of p ≡ endings.Complete value → (action : Action) → w.action ≡ action → Answers (behind judgements.Got) i action value
    answers value e action is = record {
      serial = serial;
      earlier = past;
      got = refl;
      packet = heard.packet;
      sent = heard.sent;
      p = p;
      spelled = ap reading heard.bytes_are ∙ read_in s.layer generation bytes p label (Some purpose) f;
      complete = e;
      request = w.serial;
      asked = w.asked ∙ ap Some is;
      label = label.number;
      kind = w.kind;
      waited = ap (λ g. (terms past).held (transaction g (suc i) 0 label.number)) (sym now_is) ∙ w.held;
      answered = got_closes v w.kind w.serial serial past w.held (λ h. over (ap (λ j. (terms (behind j)).held v) now_got ∙ h));
    }

  -- the transaction that a response closes
  closed_ends : (p : Packet) (label : LabelParts) (purpose : Purpose) → (judging_step s.layer generation bytes).0 ≡ of_response p label (Some purpose) → ends_the_list purpose (ending_of p) s.lists.slots.present ≡ true → MayEnd (behind judgements.Got) i
  closed_ends p label (purposes.AgentReset act) f e =
      let b = closes_at s.layer generation bytes p label (Some (purposes.AgentReset act)) (called_of c) f in
      let r = reset_ends act s.operation ((pointing_of c).resets act (record { peer = (header_in p).source; number = label.number; serial = b.serial; kind = b.kind; state = b.state; is_for = b.is_for })) in
      let k = complete_ends act (ending_of p) s.lists.slots.present e in
      let x = w p label (purposes.AgentReset act) f refl in
      let there = subst (λ y. At s.layer y label.number (Some (purposes.AgentReset act))) (peer p label (purposes.AgentReset act) f refl) (a p label (purposes.AgentReset act) f refl) in
      by_reset k.0 (answers p label (purposes.AgentReset act) f refl k.0 k.1 actions.AgentReset (made_reset _ act x.for)) (resets.first label.number act x.kind x.serial there x.held) (cutting judgements.Got r)
  closed_ends p label (purposes.State act list) f e =
      let x = w p label (purposes.State act list) f refl in
      let n = counts_of list (ending_of p) s.lists.slots.present e in
      by_state (answers p label (purposes.State act list) f refl 0 (zero_ends list (ending_of p) s.lists.slots.present e) actions.State (makes_state _ act list x.for)) (record { list = n.number; present = shows n.number n.there; told = x.told n.number n.is })
  closed_ends p label (purposes.Pointer list) f e = untrue e
  closed_ends p label purposes.Doorbell f e = untrue e
  closed_ends p label (purposes.Enable act) f e = untrue e
  closed_ends p label (purposes.Management act) f e = untrue e
  closed_ends p label (purposes.Rom act) f e = untrue e

  -- a request is got, where it drops the list
  requested : (p : Packet) → (judging_step s.layer generation bytes).0 ≡ of_request p → GotOr i empty_outbox (receive_step generation bytes empty_outbox s)
  unfolding receive_step
  requested p f =
      subst (λ (x : Finding Purpose). GotOr i empty_outbox (received (x, l) bytes empty_outbox s)) (sym f) (request_got i bytes empty_outbox (record s { layer = l }) p)

  request_ends : GotOr i empty_outbox (receive_step generation bytes empty_outbox s) → ends_list (operation_in s.operation) ≡ true → drops_of i (receive_step generation bytes empty_outbox s).1.0.sides ≡ true → MayEnd (behind judged) i
  request_ends (was_got g) e d =
      subst (λ j. MayEnd (behind j) i) (sym g) (by_status serial past heard.packet refl heard.sent (cutting judgements.Got e))
  request_ends (no_drop n) e d = untrue (sym n ∙ d)

  found_ends : (f : Finding Purpose) → (judging_step s.layer generation bytes).0 ≡ f → may_drop f s ≡ true → drops_of i (receive_step generation bytes empty_outbox s).1.0.sides ≡ true → MayEnd (behind judged) i
  found_ends (of_response p label (Some purpose)) f e d =
      subst (λ j. MayEnd (behind j) i) (sym (receive_got generation bytes p label (Some purpose) s f)) (closed_ends p label purpose f e)
  found_ends (of_request p) f e d = request_ends (requested p f) e d
  found_ends (of_response p label None) f e d = untrue e
  found_ends of_generation f e d = untrue e
  found_ends of_grammar f e d = untrue e
  found_ends of_label f e d = untrue e
  found_ends (of_again p rcode) f e d = untrue e

  ends_by : (b : Bool) → may_drop (judging_step s.layer generation bytes).0 s ≡ b → drops_of i (receive_step generation bytes empty_outbox s).1.0.sides ≡ true → MayEnd (behind judged) i
  ends_by true e d = found_ends (judging_step s.layer generation bytes).0 refl e d
  ends_by false e d = untrue (sym (receive_drops i generation bytes s (λ f. untrue (sym e ∙ f))) ∙ d)

  pub heard_ends : drops_of i (receive_step generation bytes empty_outbox s).1.0.sides ≡ true → MayEnd (turn_of (behind judged)) i
  heard_ends d = turn_begins judged (ends_by (may_drop (judging_step s.layer generation bytes).0 s) refl d)
