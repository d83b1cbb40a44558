-- What an initiator knows of its list and its reads, over every list of calls.
use Rattle.std.proofs.Common.{◌≡◌, refl, ap, subst, ◌∙◌, ℕ, ◌+◌, nat_eq, Bool, true, false, cond, List, [], ◌∷◌, Option, Some, None}
use Rattle.label_table.specs.Layer.{Layer, expiring_step, judging_step}
use Rattle.sbp_initiator.specs.declared.purpose.Purpose.{Purpose}
use Rattle.sbp_initiator.specs.declared.purpose.Purpose.TheVariants as purposes
use Rattle.sbp_initiator.specs.Initiators.{new_state}
use Rattle.sbp_initiator.specs.States.{is_answered}
use Rattle.sbp_initiator.specs.Histories.Laws.{Call, acts, receives, lets_expire, AreCalls, after}
use Rattle.sbp_initiator.specs.Histories.Laws as laws
use Rattle.sbp_initiator.specs.Histories.Marks.{CountsFor, MarkLaw, WasRead, answered_after, answered_list, begins_read, call_answers, call_dead, counted_after, counted_if, dead_after, known_if, loses_list, reads_after, reads_by}
use Rattle.sbp_initiator.specs.Acting.{act_step}
use Rattle.sbp_initiator.proofs.Histories.Lives.{closes_read, expires_read}
use Rattle.sbp_initiator.proofs.Histories.Over.{counted_now, pointed_now, sound}
use Rattle.sbp_initiator.proofs.Histories.Purposes.{IfFor, closes_asked, expires_asked}
use Rattle.sbp_initiator.proofs.Histories.Runs.{FitsNow}
use Rattle.sbp_initiator.proofs.Histories.Slotted.{leaves_after}

answered_first : (number : ℕ) (ready : Bool) → is_answered (new_state number ready).marks.pointing ≡ false
unfolding new_state
answered_first number ready = refl

dead_first : (number : ℕ) (ready : Bool) → (new_state number ready).marks.is_dead ≡ false
unfolding new_state
dead_first number ready = refl

reads_first : (number : ℕ) (ready : Bool) → (new_state number ready).states ≡ []
unfolding new_state
reads_first number ready = refl

module _ (number : ℕ) (ready : Bool) where
  answered_is : (calls : List Call) → AreCalls calls → is_answered (after number ready calls).1.marks.pointing ≡ answered_after number ready calls
  answered_is [] h = answered_first number ready
  answered_is (call ∷ calls) h =
      (leaves_after number ready call calls h.1).answered
      ∙ ap (λ (b : Bool). known_if (loses_list call (after number ready calls)) (call_answers call (after number ready calls).1) b) (answered_is calls h.1)

  dead_is : (calls : List Call) → AreCalls calls → (after number ready calls).1.marks.is_dead ≡ dead_after number ready calls
  dead_is [] h = dead_first number ready
  dead_is (call ∷ calls) h =
      (leaves_after number ready call calls h.1).dead
      ∙ ap (λ (b : Bool). known_if (loses_list call (after number ready calls)) (call_dead call (after number ready calls).1) b) (dead_is calls h.1)

  reads_are : (calls : List Call) → AreCalls calls → (after number ready calls).1.states ≡ reads_after number ready calls
  reads_are [] h = reads_first number ready
  reads_are (call ∷ calls) h =
      (leaves_after number ready call calls h.1).states
      ∙ ap (λ (reads : List ℕ). reads_by call (after number ready calls) reads) (reads_are calls h.1)

  -- the list that a read counts for
  counts_on : (c : Bool) (list : Option ℕ) (act n : ℕ) (a b : ℕ → Option ℕ) → a n ≡ b n → counted_if c list act a n ≡ counted_if c list act b n
  counts_on true list act n a b e = ap (λ (x : Option ℕ). cond (nat_eq n act) list x) e
  counts_on false list act n a b e = e

  counted_is : (calls : List Call) → AreCalls calls → (n : ℕ) → counted_now number ready calls n ≡ counted_after number ready calls n
  counted_is [] h n = refl
  counted_is (acts action ∷ calls) h n =
      let turn = after number ready calls in
      let c = begins_read (act_step action turn.0 turn.1).0 action in
      counts_on c (answered_list (is_answered turn.1.marks.pointing) turn.1.lists.slots.present) turn.1.counts.acts n (counted_now number ready calls) (counted_after number ready calls) (counted_is calls h.1 n)
      ∙ ap (λ (b : Bool). counted_if c (answered_list b turn.1.lists.slots.present) turn.1.counts.acts (counted_after number ready calls) n) (answered_is calls h.1)
  counted_is (receives generation bytes ∷ calls) h n = counted_is calls h.1 n
  counted_is (lets_expire label ∷ calls) h n = counted_is calls h.1 n
  counted_is (laws.sees generation id target ∷ calls) h n = counted_is calls h.1 n

  for_list : (calls : List Call) → AreCalls calls → (purpose : Option Purpose) → IfFor (FitsNow (after number ready calls).1.operation (after number ready calls).1.counts.acts (counted_now number ready calls) (pointed_now number ready calls)) purpose → CountsFor (counted_after number ready calls) purpose
  for_list calls h None f = tt
  for_list calls h (Some (purposes.State act list)) f = f.counts ∙ counted_is calls h act
  for_list calls h (Some (purposes.AgentReset act)) f = tt
  for_list calls h (Some (purposes.Enable act)) f = tt
  for_list calls h (Some (purposes.Rom act)) f = tt
  for_list calls h (Some (purposes.Management act)) f = tt
  for_list calls h (Some (purposes.Pointer list)) f = tt
  for_list calls h (Some purposes.Doorbell) f = tt

pub mark_law : MarkLaw
mark_law number ready calls h =
    let turn = after number ready calls in
    let w = (sound number ready calls).wires in
    let P : Purpose → Type 0 = FitsNow turn.1.operation turn.1.counts.acts (counted_now number ready calls) (pointed_now number ready calls) in
    record {
      answered = answered_is number ready calls h;
      dead = dead_is number ready calls h;
      reads = reads_are number ready calls h;
      closes = λ generation bytes p label purpose e. (
        for_list number ready calls h purpose
            (closes_asked P (0xffc1 + number) w.calls generation bytes p label purpose w.asks (ap (λ (l : Layer Purpose). (judging_step l generation bytes).0) w.layer_is ∙ e)),
        subst (λ (x : List ℕ). WasRead x purpose) (reads_are number ready calls h) (closes_read (0xffc1 + number) w.calls turn.1.states w.new w.lives generation bytes p label purpose (ap (λ (l : Layer Purpose). (judging_step l generation bytes).0) w.layer_is ∙ e)),
      );
      expires = λ label purpose e. (
        for_list number ready calls h purpose
            (expires_asked P (0xffc1 + number) w.calls turn.1.target label purpose w.asks (ap (λ (l : Layer Purpose). (expiring_step l turn.1.target label).0) w.layer_is ∙ e)),
        subst (λ (x : List ℕ). WasRead x purpose) (reads_are number ready calls h) (expires_read (0xffc1 + number) w.calls turn.1.states w.new w.lives turn.1.target label purpose (ap (λ (l : Layer Purpose). (expiring_step l turn.1.target label).0) w.layer_is ∙ e)),
      );
    }
