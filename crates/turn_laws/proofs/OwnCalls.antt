-- What an initiator has by its calls: its reads of AGENT_STATE, and what it knows of its present list.
use Rattle.std.proofs.Common.{◌≡◌, sym, ◌∙◌, ap, subst, ℕ, ◌+◌, ◌<◌, ◌&&◌, is_some, nat_lt, not, Bool, true, false, List, ◌∷◌, Option, Some, None}
use Rattle.async_packet.specs.Labels.{LabelParts}
use Rattle.label_table.specs.History as wire
use Rattle.label_table.specs.Layer.{Layer, judging_step}
use Rattle.sbp_initiator.specs.Acting.{act_step}
use Rattle.sbp_initiator.specs.Effects.{Turn}
use Rattle.sbp_initiator.specs.Receiving.{expire_step, receive_step}
use Rattle.sbp_initiator.specs.Seeing.{see_step}
use Rattle.sbp_initiator.specs.Histories.Laws.{Call, IsCall, acts as act_call, after, done, lets_expire, receives, sees}
use Rattle.sbp_initiator.specs.declared.purpose.Purpose.{Purpose}
use Rattle.sbp_initiator.specs.declared.purpose.Purpose.TheVariants as purposes
use Rattle.sbp_initiator.specs.declared.purpose.Running.{Running}
use Rattle.sbp_initiator.specs.declared.state.InitiatorState.{InitiatorState}
use Rattle.sbp_initiator.proofs.FirstRow.{refusal_law}
use Rattle.sbp_initiator.proofs.Histories.Known.{mark_law}
use Rattle.sbp_initiator.proofs.Histories.Over.{counted_now, pointed_now, sound}
use Rattle.sbp_initiator.proofs.Histories.Purposes.{IsOf, all_began, life_of}
use Rattle.sbp_initiator.proofs.Histories.Effects.{Fits}
use Rattle.sbp_initiator.proofs.Histories.Runs.{FitsNow, IsEarlier, act_in}
use Rattle.sbp_journal.specs.Outgoings.{empty_outbox}
use Rattle.sbp_journal.specs.declared.event.Action.{Action}
use Rattle.sbp_world.proofs.Hosts.Alone.{call_same}
use Rattle.sbp_world.proofs.Hosts.Lives.{At, at_life}
use Rattle.sbp_world.specs.Hosts.Calling.{IsCalled}
use Rattle.sbp_initiator.specs.Histories.Marks.{call_answers, call_dead, begins_list, finding_answers, finding_dead, has_read, known_if, loses_list, reads_by}
use Rattle.sbp_initiator.specs.Histories.Taking.{finding_drops}
use Rattle.sbp_initiator.specs.Refusals.{prepares}
use Rattle.sbp_initiator.specs.States.{is_answered}
use Rattle.turn_laws.proofs.HostMarks.{Marks, marks, own_marks}

module _ (ready : Bool) (i : ℕ) (s : InitiatorState) (own : IsCalled ready i s) where
  abbrev pub was : Turn
  was = after i ready own.calls

  own_now : (call : Call) → (done call (empty_outbox, s)).1 ≡ (after i ready (call ∷ own.calls)).1
  own_now call = sym (call_same call was.0 empty_outbox was.1 ∙ ap (λ (x : InitiatorState). (done call (empty_outbox, x)).1) own.is)

  pub states_step : (call : Call) → IsCall call → (done call (empty_outbox, s)).1.states ≡ reads_by call was s.states
  states_step call fit =
      ap (λ (x : InitiatorState). x.states) (own_now call)
      ∙ (mark_law i ready (call ∷ own.calls) (fit, own.fit)).reads
      ∙ ap (λ acts. reads_by call was acts) (sym (mark_law i ready own.calls own.fit).reads ∙ ap (λ (x : InitiatorState). x.states) own.is)

  pub running_before : (r : Running) → s.operation ≡ Some r → r.act < s.counts.acts
  running_before = subst (λ (x : InitiatorState). (r : Running) → x.operation ≡ Some r → r.act < x.counts.acts) own.is ((sound i ready own.calls).begun.before)

  -- ---- what it knows of its present list
  -- it is lost, or this is learned of it
  abbrev pub learned : (lost answers dead : Bool) → Marks
  learned lost answers dead = marks (known_if lost answers (is_answered s.marks.pointing)) (known_if lost dead s.marks.is_dead)

  marks_step : (call : Call) → IsCall call → own_marks (done call (empty_outbox, s)).1 ≡ learned (loses_list call was) (call_answers call was.1) (call_dead call was.1)
  marks_step call fit =
      let then = mark_law i ready (call ∷ own.calls) (fit, own.fit) in
      let before = mark_law i ready own.calls own.fit in
      let lost = loses_list call was in
      ap own_marks (own_now call)
      ∙ ap (λ b. marks b (after i ready (call ∷ own.calls)).1.marks.is_dead) (then.answered ∙ ap (known_if lost (call_answers call was.1)) (sym before.answered ∙ ap (λ (x : InitiatorState). is_answered x.marks.pointing) own.is))
      ∙ ap (λ b. marks (known_if lost (call_answers call was.1) (is_answered s.marks.pointing)) b) (then.dead ∙ ap (known_if lost (call_dead call was.1)) (sym before.dead ∙ ap (λ (x : InitiatorState). x.marks.is_dead) own.is))

  pub received_marks : (generation : ℕ) (bytes : List ℕ) → (let finding = (judging_step s.layer generation bytes).0 in
      own_marks (receive_step generation bytes empty_outbox s).1.1 ≡ learned (finding_drops finding s && is_some s.lists.slots.present) (finding_answers finding s) (finding_dead finding s))
  received_marks generation bytes =
      marks_step (receives generation bytes) tt
      ∙ ap (λ (x : InitiatorState). (let finding = (judging_step x.layer generation bytes).0 in learned (finding_drops finding x && is_some x.lists.slots.present) (finding_answers finding x) (finding_dead finding x))) own.is

  pub expired_marks : (label : LabelParts) → own_marks (expire_step label empty_outbox s).1.1 ≡ own_marks s
  expired_marks label = marks_step (lets_expire label) tt

  pub seen_own_marks : (generation id target : ℕ) → own_marks (see_step generation id target empty_outbox s).1 ≡ learned (nat_lt s.layer.generation generation) false false
  seen_own_marks generation id target = marks_step (sees generation id target) tt ∙ ap (λ (x : InitiatorState). learned (nat_lt x.layer.generation generation) false false) own.is

  pub done_there : (action : Action) → (act_step action empty_outbox s).0 ≡ None → (act_step action was.0 was.1).0 ≡ None
  done_there action none = refusal_law.first action was.0 was.1 ∙ sym (refusal_law.first action empty_outbox was.1) ∙ ap (λ (x : InitiatorState). (act_step action empty_outbox x).0) own.is ∙ none

  -- an action that is done begins a list, or not
  pub acted_own_marks : (action : Action) → IsCall (act_call action) → (act_step action empty_outbox s).0 ≡ None → own_marks (act_step action empty_outbox s).1.1 ≡ learned (prepares action && not (is_some s.lists.slots.present)) false false
  acted_own_marks action fit none =
      marks_step (act_call action) fit ∙ ap (λ r. learned (begins_list r action was.1) false false) (done_there action none)
      ∙ ap (λ (x : InitiatorState). learned (prepares action && not (is_some x.lists.slots.present)) false false) own.is

  -- a request of it that is under way
  module _ (peer number : ℕ) (purpose : Option Purpose) (a : At s.layer peer number purpose) where
    abbrev node : ℕ
    node = 0xffc1 + i

    abbrev layer_calls : List (wire.Call Purpose)
    layer_calls = (sound i ready own.calls).wires.calls

    abbrev layer_now : Layer Purpose
    layer_now = wire.after node layer_calls

    b : At layer_now peer number purpose
    b = subst (λ (l : Layer Purpose). At l peer number purpose) (sym ((sound i ready own.calls).wires.layer_is ∙ ap (λ (x : InitiatorState). x.layer) own.is)) a

    abbrev name : LabelParts
    name = record { number = number; generation = layer_now.generation; serial = b.serial }

    pub lives_of : (act : ℕ) (list : Option ℕ) → purpose ≡ Some (purposes.State act list) → has_read act s.states ≡ true
    lives_of act list e =
        subst (λ (x : InitiatorState). has_read act x.states ≡ true) own.is
        ((sound i ready own.calls).wires.lives.has peer name b.kind act list (at_life node layer_calls peer number purpose b ∙ ap (wire.under_way b.kind) e))

    abbrev Fitting : Purpose → Type 0
    Fitting = FitsNow was.1.operation was.1.counts.acts (counted_now i ready own.calls) (pointed_now i ready own.calls)

    began : IsOf Fitting (wire.under_way b.kind purpose)
    began =
        subst (λ x. IsOf Fitting x) (at_life node layer_calls peer number purpose b)
        (life_of Fitting peer name (wire.history node layer_calls) (all_began Fitting node layer_calls (sound i ready own.calls).wires.asks))

    -- it is for an earlier action, and for the operation under way, where that is of its action
    module _ (its : Purpose) (e : purpose ≡ Some its) where
      fitting : Fitting its
      fitting = subst (λ o. IsOf Fitting (wire.under_way b.kind o)) e began

      pub earlier_of : IsEarlier (act_in its) s.counts.acts
      earlier_of = subst (λ (x : InitiatorState). IsEarlier (act_in its) x.counts.acts) own.is fitting.earlier

      pub fits_of : Fits its s.operation
      fits_of = subst (λ (x : InitiatorState). Fits its x.operation) own.is fitting.fits
