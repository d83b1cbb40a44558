-- Over every list of calls, which write of ORB_POINTER or AGENT_RESET is under way, and what holds meanwhile.
use Rattle.std.proofs.Common.{◌≡◌, refl, sym, ap, subst, ◌∙◌, ℕ, ◌+◌, nat_lt, Bool, true, false, cond, List, [], ◌∷◌, Option, Some, None, Result, Ok, Err}
use Rattle.async_packet.specs.Labels.{LabelParts}
use Rattle.async_packet.specs.Packet.{Packet}
use Rattle.label_table.specs.declared.judgement.Asked.{Asked}
use Rattle.label_table.specs.declared.reply.ReplyKind.{ReplyKind}
use Rattle.label_table.specs.declared.reply.Stale.{Stale}
use Rattle.label_table.specs.History.{not_begun, under_way}
use Rattle.label_table.specs.Layer.{Layer, Finding, of_generation, of_grammar, of_label, of_response, of_again, of_request, expiring_step, judging_step, seeing_step, seen_in_generation}
use Rattle.sbp_session.specs.Seats.{points}
use Rattle.sbp_journal.specs.declared.event.Action.{Action}
use Rattle.sbp_journal.specs.Outgoings.{OutboxState}
use Rattle.sbp_initiator.specs.declared.purpose.Demand.{Demand}
use Rattle.sbp_initiator.specs.declared.purpose.Ending.{Ending}
use Rattle.sbp_initiator.specs.declared.purpose.Ending.TheVariants as endings
use Rattle.sbp_initiator.specs.declared.purpose.Purpose.{Purpose}
use Rattle.sbp_initiator.specs.declared.state.InitiatorState.{InitiatorState}
use Rattle.sbp_initiator.specs.Acting.{act_step, asked_as, asked_for, demand_of, demanded_as, done_step, facts_with, judged_as}
use Rattle.sbp_initiator.specs.Effects.{Turn, ended_for, ended_step}
use Rattle.sbp_initiator.specs.Initiators.{first_seat, new_state}
use Rattle.sbp_initiator.specs.Receiving.{called, expire_step, expired_as, receive_step, received}
use Rattle.sbp_initiator.specs.Refusals.{refusal}
use Rattle.sbp_initiator.specs.Seeing.{interrupted, resets_told, see_step, seen_as}
use Rattle.sbp_initiator.specs.States.{ending_of, is_answered, wanted_body}
use Rattle.sbp_initiator.proofs.Asked.{none_asked}
use Rattle.sbp_initiator.specs.Histories.Laws.{Call, acts, receives, lets_expire, done, after}
use Rattle.sbp_initiator.specs.Histories.Laws as laws
use Rattle.sbp_initiator.specs.Histories.Marks.{counted_by}
use Rattle.sbp_initiator.proofs.Histories.Actions.{Allowed, allowed, allowed_layer, done_does}
use Rattle.sbp_initiator.proofs.Histories.Acts.{counted_act, demand_same}
use Rattle.sbp_initiator.proofs.Histories.Busy.{Alone, Busy, idle, answer_alone, ask_alone, busy_found, busy_of, busy_out, busy_past, busy_with, closes_busy, expire_alone, expires_busy, is_busy, judge_alone, see_alone}
use Rattle.sbp_initiator.proofs.Histories.Effects.{Asking, Fits, Wired, ended_does, list_drops}
use Rattle.sbp_initiator.proofs.Histories.Over.{counted_now, past_now, sound}
use Rattle.sbp_initiator.proofs.Histories.Purposes.{IfFor}
use Rattle.sbp_initiator.proofs.Histories.Requests.{request_answers}
use Rattle.sbp_initiator.proofs.Histories.Runs.{FitsNow, Sound, expired_for, judged_for}
use Rattle.sbp_initiator.proofs.Histories.Effects.{Past}
use Rattle.sbp_initiator.proofs.Histories.StandActs.{busy_after, demand_free, done_stands}
use Rattle.sbp_initiator.proofs.Histories.StandHears.{expired_stands, received_stands, see_stands}
use Rattle.sbp_initiator.proofs.Histories.Stands.{IfClosing, Stand}

untrue : {A : Type 0} → false ≡ true → A
untrue e = absurd (differ e)
  where
    differ : false ≡ true → ⊥
    differ e = cc

pub record Sits (node : ℕ) (busy : Busy) (counted : ℕ → Option ℕ) (s : InitiatorState) : Type 0 where
  pub alone : Alone node busy s.layer
  pub stand : Stand busy counted s

-- ---- what is under way behind a call

abbrev pub busy_done : Option ℕ → Option Demand → Busy → Busy
busy_done (Some number) demand busy = busy
busy_done None demand busy = busy_after demand busy

abbrev pub busy_by : Call → Turn → Busy → Busy
busy_by (acts action) turn busy = busy_done (act_step action turn.0 turn.1).0 (demand_of action turn.1) busy
busy_by (receives generation bytes) turn busy = busy_found (judging_step turn.1.layer generation bytes).0 busy
busy_by (lets_expire label) turn busy = busy_out (expiring_step turn.1.layer turn.1.target label).0 busy
busy_by (laws.sees generation id target) turn busy = cond (nat_lt turn.1.layer.generation generation) idle busy

-- ---- the layer behind the end of a transaction

calm_with : (purpose : Purpose) (busy : Busy) → is_busy (busy_of purpose) ≡ false → busy_with purpose busy ≡ busy
calm_with purpose busy e = ap (λ (c : Bool). cond c (busy_of purpose) busy) e

wired_alone : (asking : Option Asking) (node : ℕ) (busy : Busy) (o : OutboxState) (s : InitiatorState) (t : Turn) → Wired asking s.layer o.packets s.target t.1.layer t.0.packets → ((a : Asking) → asking ≡ Some a → is_busy (busy_of a.purpose) ≡ false) → Alone node busy s.layer → Alone node busy t.1.layer
wired_alone None node busy o s t w calm k = subst (λ (l : Layer Purpose). Alone node busy l) (sym w.0) k
wired_alone (Some a) node busy o s t w calm k =
    let c = calm a refl in
    subst (λ (b : Busy). Alone node b t.1.layer) (calm_with a.purpose busy c)
    (ask_alone s.target a.body a.purpose a.asked t.1.layer w.0 (record { free = λ f. untrue (sym c ∙ f) }) k)

ended_alone : (node : ℕ) (busy : Busy) (purpose : Option Purpose) (ending : Ending) (o : OutboxState) (s : InitiatorState) → ((q : Purpose) → purpose ≡ Some q → Fits q s.operation) → Alone node busy s.layer → Alone node busy (ended_for purpose ending o s).1.layer
ended_alone node busy None ending o s f k = k
ended_alone node busy (Some purpose) ending o s f k =
    let d = ended_does purpose ending o s (f purpose refl) in
    wired_alone d.asking node busy o s (ended_step purpose ending o s) d.does.wire d.calm k

-- ---- a delivery, a time-out, a sight

abbrev seeing_as : Bool → Layer Purpose → Layer Purpose → Bool × Layer Purpose
seeing_as c new old = cond c (true, new) (false, old)

module _ (node : ℕ) (held : Past) (counted : ℕ → Option ℕ) (busy : Busy) (o : OutboxState) (s : InitiatorState) (k : Sound node held counted (o, s)) (x : Sits node busy counted s) where
  abbrev P : Purpose → Type 0
  P purpose = FitsNow s.operation s.counts.acts counted held.pointed purpose

  closing_for : (purpose : Option Purpose) → IfFor P purpose → ((q : Purpose) → purpose ≡ Some q → is_busy (busy_of q) ≡ true → busy ≡ busy_of q) → IfClosing busy counted purpose s
  closing_for None f g = tt
  closing_for (Some purpose) f g = record { its = g purpose refl; fits = f.fits; counts = f.counts }

  fits_for : (purpose : Option Purpose) → IfFor P purpose → (q : Purpose) → purpose ≡ Some q → Fits q s.operation
  fits_for None f q e = absurd (none_is q e)
    where
      none_is : (q : Purpose) → None ≡ Some q → ⊥
      none_is q e = cc
  fits_for (Some purpose) f q e = subst (λ (y : Purpose). Fits y s.operation) (some_is purpose q e) f.fits
    where
      some_is : (a b : Purpose) → Some a ≡ Some b → a ≡ b
      some_is a b e = cc

  received_alone : (finding : Finding Purpose) (layer : Layer Purpose) (bytes : List ℕ) → ((p : Packet) (label : LabelParts) (purpose : Option Purpose) → finding ≡ of_response p label purpose → IfFor P purpose) → Alone node (busy_found finding busy) layer → Alone node (busy_found finding busy) (received (finding, layer) bytes o s).1.1.layer
  received_alone of_generation layer bytes f w = w
  received_alone of_grammar layer bytes f w = w
  received_alone of_label layer bytes f w = w
  received_alone (of_response p label purpose) layer bytes f w =
      ended_alone node (busy_past purpose busy) purpose (ending_of p) o (called (record s { layer = layer })) (fits_for purpose (f p label purpose refl)) w
  received_alone (of_again p rcode) layer bytes f w = answer_alone p bytes rcode [] w
  received_alone (of_request p) layer bytes f w =
      let a = request_answers bytes o (record s { layer = layer }) k.orb p in
      subst (λ (l : Layer Purpose). Alone node busy l) (sym a.layer) (answer_alone p bytes a.rcode a.given w)

  receive_sits : (generation : ℕ) (bytes : List ℕ) → Sits node (busy_found (judging_step s.layer generation bytes).0 busy) counted (receive_step generation bytes o s).1.1
  unfolding receive_step
  receive_sits generation bytes =
      let j = judging_step s.layer generation bytes in
      let for : (p : Packet) (label : LabelParts) (purpose : Option Purpose) → j.0 ≡ of_response p label purpose → IfFor P purpose = λ p label purpose e. judged_for node P s.states s.counts.running s.layer o.packets generation bytes p label purpose k.wires e in
      record {
        alone = received_alone j.0 j.1 bytes for (judge_alone generation bytes x.alone);
        stand = received_stands busy counted j.0 j.1 bytes o s k.orb
            (λ p label purpose e.
            closing_for purpose (for p label purpose e) (λ q f. closes_busy x.alone generation bytes p label q (e ∙ ap (λ (y : Option Purpose). of_response p label y) f))) x.stand;
      }

  expired_alone : (r : Result (Option Purpose) Stale) (layer : Layer Purpose) → ((purpose : Option Purpose) → r ≡ Ok purpose → IfFor P purpose) → Alone node (busy_out r busy) layer → Alone node (busy_out r busy) (expired_as (r, layer) o s).1.1.layer
  expired_alone (Err stale) layer f w = w
  expired_alone (Ok purpose) layer f w =
      ended_alone node (busy_past purpose busy) purpose endings.Expired o (called (record s { layer = layer })) (fits_for purpose (f purpose refl)) w

  expire_sits : (label : LabelParts) → Sits node (busy_out (expiring_step s.layer s.target label).0 busy) counted (expire_step label o s).1.1
  unfolding expire_step
  expire_sits label =
      let j = expiring_step s.layer s.target label in
      let for : (purpose : Option Purpose) → j.0 ≡ Ok purpose → IfFor P purpose = λ purpose e. expired_for node P s.states s.counts.running s.layer o.packets s.target label purpose k.wires e in
      record {
        alone = expired_alone j.0 j.1 for (expire_alone s.target label x.alone);
        stand = expired_stands busy counted j.0 j.1 o s
            (λ purpose e. closing_for purpose (for purpose e) (λ q f. expires_busy x.alone s.target label q (e ∙ ap (λ (y : Option Purpose). Ok y) f))) x.stand;
      }

  seen_alone : (c : Bool) (b : Busy) (new : Layer Purpose) (target : ℕ) → Alone node b (seeing_as c new s.layer).1 → Alone node b (seen_as (seeing_as c new s.layer) target o s).1.layer
  seen_alone true b new target w =
      let u = record s { layer = new } in
      subst (λ (l : Layer Purpose). Alone node b l) (sym (list_drops (resets_told u.number u.operation u.states o) (interrupted u target)).layer) w
  seen_alone false b new target w = w

  see_alone_as : (generation id target : ℕ) → Alone node (cond (nat_lt s.layer.generation generation) idle busy) (see_step generation id target o s).1.layer
  unfolding see_step seeing_step
  see_alone_as generation id target =
      seen_alone (nat_lt s.layer.generation generation) (cond (nat_lt s.layer.generation generation) idle busy) (seen_in_generation s.layer generation id) target (see_alone generation id x.alone)

  see_sits : (generation id target : ℕ) → Sits node (cond (nat_lt s.layer.generation generation) idle busy) counted (see_step generation id target o s).1
  see_sits generation id target =
      record { alone = see_alone_as generation id target; stand = see_stands busy counted generation id target o s x.stand }

  -- ---- an action

  sent_sits : (action : Action) (demand : Demand) (asked : Asked) (layer : Layer Purpose) → Allowed action s → demand_of action s ≡ Some demand → asked_for demand s ≡ (Some asked, layer) → Sits node (busy_with demand.purpose busy) (counted_act None action s counted) (asked_as (Some asked, layer) action o s).1.1
  sent_sits action demand asked layer a e f =
      let u = record s { layer = layer } in
      let d = done_does action o u (record { prepares = a.prepares; rings = a.rings; marks = k.marks.marks }) in
      record {
        alone = subst (λ (l : Layer Purpose). Alone node (busy_with demand.purpose busy) l) (sym d.layer)
            (ask_alone s.target (wanted_body demand.wanted) demand.purpose asked layer f (demand_free busy counted action s demand a x.stand e) x.alone);
        stand = subst (λ (y : Option Demand). Stand (busy_after y busy) (counted_act None action s counted) (done_step action o u).1) (demand_same action s layer ∙ e)
            (done_stands busy counted action o u (allowed_layer action s layer a) k.marks.marks k.marks.pointed.list x.stand);
      }

  asked_sits : (r : Option Asked × Layer Purpose) (action : Action) (demand : Demand) → Allowed action s → demand_of action s ≡ Some demand → asked_for demand s ≡ r → (let t = asked_as r action o s in Sits node (busy_done t.0 (Some demand) busy) (counted_act t.0 action s counted) t.1.1)
  asked_sits (None, layer) action demand a e f = record {
    alone = subst (λ (l : Layer Purpose). Alone node busy l) (sym (none_asked s.layer layer s.target (wanted_body demand.wanted) demand.purpose (sym f))) x.alone;
    stand = x.stand;
  }
  asked_sits (Some asked, layer) action demand a e f = sent_sits action demand asked layer a e f

  demanded_sits : (demand : Option Demand) (action : Action) → Allowed action s → demand_of action s ≡ demand → (let t = demanded_as demand action o s in Sits node (busy_done t.0 demand busy) (counted_act t.0 action s counted) t.1.1)
  demanded_sits None action a e =
      let d = done_does action o s (record { prepares = a.prepares; rings = a.rings; marks = k.marks.marks }) in
      record {
        alone = subst (λ (l : Layer Purpose). Alone node busy l) (sym d.layer) x.alone;
        stand = subst (λ (y : Option Demand). Stand (busy_after y busy) (counted_act None action s counted) (done_step action o s).1) e
            (done_stands busy counted action o s a k.marks.marks k.marks.pointed.list x.stand);
      }
  demanded_sits (Some demand) action a e = asked_sits (asked_for demand s) action demand a e refl

  judged_sits : (r : Option ℕ) (action : Action) → refusal action (facts_with true s action) ≡ r → (let t = judged_as r action o s in Sits node (busy_done t.0 (demand_of action s) busy) (counted_act t.0 action s counted) t.1.1)
  judged_sits (Some number) action e = record { alone = x.alone; stand = x.stand }
  judged_sits None action e = demanded_sits (demand_of action s) action (allowed action s e) refl

  act_sits : (action : Action) → (let t = act_step action o s in Sits node (busy_done t.0 (demand_of action s) busy) (counted_act t.0 action s counted) t.1.1)
  unfolding act_step
  act_sits action = judged_sits (refusal action (facts_with true s action)) action refl

-- ---- over every list of calls

call_sits : (node : ℕ) (held : Past) (counted : ℕ → Option ℕ) (busy : Busy) (call : Call) (t : Turn) → Sound node held counted t → Sits node busy counted t.1 → Sits node (busy_by call t busy) (counted_by call t (is_answered t.1.marks.pointing) counted) (done call t).1
call_sits node held counted busy (acts action) t k x = act_sits node held counted busy t.0 t.1 k x action
call_sits node held counted busy (receives generation bytes) t k x = receive_sits node held counted busy t.0 t.1 k x generation bytes
call_sits node held counted busy (lets_expire label) t k x = expire_sits node held counted busy t.0 t.1 k x label
call_sits node held counted busy (laws.sees generation id target) t k x = see_sits node held counted busy t.0 t.1 k x generation id target

first_points : (ready : Bool) (number : ℕ) → points (first_seat ready number) ≡ false
first_points true number = refl
first_points false number = refl

first_sits : (number : ℕ) (ready : Bool) → Sits (0xffc1 + number) idle (λ n. None) (new_state number ready)
unfolding new_state
first_sits number ready = record {
  alone = record {
    calls = [];
    layer_is = refl;
    one = record { has = λ p l kd q e g. absurd (not_yet e); sole = λ p l kd q p' l' kd' q' e. absurd (not_yet e); is = λ h. untrue h };
  };
  stand = record {
    session = λ f. first_points ready number;
    list = λ n g. untrue (ap is_busy g);
    written = λ n g. untrue (ap is_busy g);
    beside = λ n g. untrue (ap is_busy g);
    resets = λ act g. untrue (ap is_busy g);
    below = λ act n e. none_some e;
    answered = λ act n e f. none_some e;
  };
}
  where
    not_yet : {kind : ReplyKind} {purpose : Option Purpose} → not_begun ≡ under_way kind purpose → ⊥
    not_yet e = cc

    none_some : {A : Type 0} {n : ℕ} → None ≡ Some n → A
    none_some e = absurd (differ e)
      where
        differ : {n : ℕ} → None ≡ Some n → ⊥
        differ e = cc

abbrev pub busy_now : ℕ → Bool → List Call → Busy
busy_now number ready [] = idle
busy_now number ready (call ∷ calls) = busy_by call (after number ready calls) (busy_now number ready calls)

pub sits : (number : ℕ) (ready : Bool) (calls : List Call) → Sits (0xffc1 + number) (busy_now number ready calls) (counted_now number ready calls) (after number ready calls).1
sits number ready [] = first_sits number ready
sits number ready (call ∷ calls) =
    call_sits (0xffc1 + number) (past_now number ready calls) (counted_now number ready calls) (busy_now number ready calls) call (after number ready calls) (sound number ready calls) (sits number ready calls)
