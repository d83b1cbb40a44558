-- An initiator does an action: what is in hand of its management behind it.
use Rattle.sbp_world.proofs.Words.Std.{arith, ◌≡◌, ◌∙◌, refl, sym, ap, subst, ℕ, suc, ◌<◌, nat_eq, Bool, true, false, cond, List, [], ◌∷◌, Option, Some, None, nat_tests, upd}
use Rattle.sbp_world.proofs.Words.Wire.{Layer, empty_outbox, Moment, said, Sending, Terms, terms, Action, Operation, Outgoing}
use Rattle.sbp_world.proofs.Words.Target.{Disk}
use Rattle.sbp_world.proofs.Words.Initiator.{FreeFor, after_by, begun_as, is_managed, Purpose, Running, InitiatorState, act_step, Turn, is_stuck_seat}
use Rattle.sbp_world.proofs.Words.Laws.{Underway, host_at, is_management, operation_of, event_of}
use Rattle.sbp_world.proofs.Words.World.{behind, manages, IsAsking, IsBusy, IsFree, IsOwnWrite}
use Rattle.sbp_initiator.proofs.Histories.Actions.{Allowed}
use Rattle.sbp_initiator.specs.declared.purpose.Purpose.TheVariants as purposes
use Rattle.sbp_initiator.specs.Refusals as refusals
use Rattle.sbp_journal.specs.declared.event.Event.TheVariants as events
use Rattle.sbp_journal.specs.declared.note.Note.TheVariants as notes
use Rattle.sbp_world.proofs.Hosts.ActLeft.{ActLeft, HasAsked}
use Rattle.sbp_world.proofs.Hosts.Asked.{IsRequest, number_in}
use Rattle.sbp_world.proofs.Hosts.Hosted.{Cored, marks_of}
use Rattle.sbp_world.proofs.Hosts.PointerNotes.{Told, tame_told}
use Rattle.sbp_world.proofs.Hosts.Pointing.{called_of}
use Rattle.sbp_world.proofs.Hosts.Shown.{IsShown}
use Rattle.sbp_world.proofs.Lists.ManageActs.{IsNew, act_operation, demand_manages, earlier, new_by, same_operation, seat_unstuck}
use Rattle.sbp_world.proofs.Lists.ManageFirsts.{Goes, HasBegun, begun_first, goes_then, kept_first, told_first}
use Rattle.sbp_world.proofs.Lists.ManageHand.{InHand, Own, busy_on}
use Rattle.sbp_world.proofs.Lists.ManageLabels.{Asks, asking_asks, asks_to, told_asks}
use Rattle.sbp_world.proofs.Lists.ManageMoments.{Hands, IsActing, SendFacts}
use Rattle.sbp_world.proofs.Lists.ManageSends.{Sends, sent_terms}
use Rattle.sbp_world.proofs.Lists.ManageSent.{begun_busy, sent_busy, sent_free}
use Rattle.sbp_world.proofs.Lists.ManageSights.{told_busy, told_free}
use Rattle.sbp_world.proofs.Lists.ManageTerms.{none_is, same_some}
use Rattle.sbp_world.proofs.Pointers.GuardDoes.{same_action}
use Rattle.sbp_world.proofs.Pointers.Asks.{act_allowed}
use Rattle.sbp_world.proofs.Common.{untrue}

-- the value at an update
at_itself : {A : Type 0} (s : ℕ) (x : A) (f : ℕ → A) → upd f s x s ≡ x
at_itself s x f = ap (λ b. cond b x (f s)) (let e : nat_eq s s ≡ true = grind (arith, nat_tests) in e)

module _ (ready : Bool) (start : List Disk) (action : Action) (past : List Moment) (i : ℕ) (s : InitiatorState) (under : event_of past ≡ Some (events.Act i action)) (done : (act_step action empty_outbox s).0 ≡ None) (shown : IsShown past i s.target s.layer) (cored : Cored ready past i s) (h : InHand start past i s) (left : ActLeft action s (act_step action empty_outbox s).1) where
  abbrev t : Turn
  t = (act_step action empty_outbox s).1

  abbrev ms : List Moment
  ms = behind t.0.sides past

  told : Told past t.0.sides i
  told = tame_told t.0.sides past i left.told

  allows : Allowed action s
  allows = act_allowed action s done

  unstuck : is_stuck_seat s.seat ≡ false
  unstuck = seat_unstuck action s.seat allows.session

  operation_now : t.1.operation ≡ after_by (refusals.operation_of action) s
  operation_now = act_operation action s allows (marks_of ready i s cored.own.called) done

  -- none begins
  kept_operation : operation_of action ≡ None → t.1.operation ≡ s.operation
  kept_operation o = operation_now ∙ ap (λ x. after_by x s) (sym (same_operation action) ∙ o)

  -- one begins, where none was under way
  none_before : (operation : Operation) → operation_of action ≡ Some operation → s.operation ≡ None
  none_before operation o = subst (λ x. FreeFor x s) (sym (same_operation action) ∙ o) allows.free

  begins_new : (operation : Operation) → operation_of action ≡ Some operation → t.1.operation ≡ Some (begun_as (is_managed operation) operation s)
  begins_new operation o = operation_now ∙ ap (λ x. after_by x s) (sym (same_operation action) ∙ o)

  new_is : (operation : Operation) → operation_of action ≡ Some operation → (r : Running) → t.1.operation ≡ Some r → IsNew operation s r
  new_is operation o r e = subst (IsNew operation s) (same_some _ r (sym (begins_new operation o) ∙ e)) (new_by (is_managed operation) operation s)

  -- nothing is in hand where one begins
  free_before : (operation : Operation) → operation_of action ≡ Some operation → IsFree start past i
  free_before operation o = h.free (λ r e. none_is r (sym (none_before operation o) ∙ e)) unstuck

  -- what is under way at the host as the line goes on
  abbrev goes_told : Goes (host_at past i) (host_at ms i)
  goes_told = told_first t.0.sides past i left.told

  -- ---- the labels, with the acts that they are of

  abbrev Older : (act serial : ℕ) → Type 0
  Older act serial = Own past i s act serial × (act < s.counts.acts)

  older : Asks past i s.target s.layer Older
  older = record {
    waits_for = λ m act a.
        let w = h.labels.waits_for m act a in
        record { kind = w.kind; serial = w.serial; held = w.held; own = (w.own, earlier ready past i s cored s.target m act a); below = w.below };
  }

  -- an older one is not of an operation that begins
  older_on : (now : List Moment) → (operation_of action ≡ None → Goes (host_at past i) (host_at now i)) → (act serial : ℕ) → Older act serial → Own now i t.1 act serial
  older_on now goes act serial k = by (operation_of action) refl
    where
      by : (found : Option Operation) → operation_of action ≡ found → Own now i t.1 act serial
      by None o = λ r e f m u g. (let w = (goes o).on u g in sym w.first ∙ k.0 r (sym (kept_operation o) ∙ e) f m w.was w.is)
      by (Some operation) o = λ r e f m u g. (let x = (new_is operation o r e).act in let l = k.1 in absurd (omega (arith, x, f, l)))

  -- ---- nothing is sent

  module _ (none : t.0.packets ≡ []) (hands : Hands start i ms) where
    quiet_free : ((r : Running) → t.1.operation ≡ Some r → is_management r.operation ≡ false) → IsFree start ms i
    quiet_free x = told_free start i t.0.sides past left.told hands (by (operation_of action) refl)
      where
        by : (found : Option Operation) → operation_of action ≡ found → IsFree start past i
        by None o = h.free (λ r e. x r (kept_operation o ∙ e)) unstuck
        by (Some operation) o = free_before operation o

    quiet_labels : Asks ms i t.1.target t.1.layer (Own ms i t.1)
    quiet_labels =
        subst (λ (l : Layer Purpose). Asks ms i t.1.target l (Own ms i t.1)) (sym (left.quiet none))
        (subst (λ n. Asks ms i n s.layer (Own ms i t.1)) (sym left.target_is)
        (asks_to Older (Own ms i t.1) (older_on ms (λ o. goes_told)) (told_asks Older t.0.sides past i s.target s.layer left.told older)))

    pub quiet_hand : InHand start ms i t.1
    quiet_hand = record {
      free = λ x n. quiet_free x;
      busy = busy_on start past ms i (told_busy start i t.0.sides past left.told hands) goes_told h.busy;
      labels = quiet_labels;
    }

  -- ---- a request is sent

  module _ (packet : Outgoing) (one : t.0.packets ≡ packet ∷ []) (serial generation : ℕ) (injected : (terms past).injected serial ≡ false) (q : IsRequest (number_in packet.label) packet.bytes) (hands : Hands start i (said (notes.Sent serial generation (suc i) 0 packet.bytes) ∷ ms)) where
    abbrev now : List Moment
    now = said (notes.Sent serial generation (suc i) 0 packet.bytes) ∷ ms

    f : SendFacts start ms i serial generation (suc i) 0 packet.bytes
    f = hands.0

    line : event_of ms ≡ Some (events.Act i action)
    line = told.line ∙ under

    honest : (terms ms).injected serial ≡ false
    honest = ap (λ (y : Terms). y.injected serial) told.wire ∙ injected

    abbrev asking : HasAsked action s packet t.1.layer
    asking = left.asking packet one

    abbrev sending : Sending
    sending = record { generation = generation; from = suc i; to = 0; bytes = packet.bytes; injected = (terms ms).injected serial }

    goes_on : operation_of action ≡ None → Goes (host_at past i) (host_at now i)
    goes_on o = goes_then (host_at past i) (host_at ms i) (host_at now i) goes_told (kept_first action (number_in packet.label) q.kind serial generation 0 packet.bytes ms i line q.part honest o)

    begun : (operation : Operation) (u : Underway) → operation_of action ≡ Some operation → (host_at now i).operation ≡ Some u → HasBegun u serial (host_at ms i).writes operation
    begun operation u o e = begun_first action (number_in packet.label) q.kind serial generation 0 packet.bytes ms i line q.part honest operation u o e

    -- the action of the line
    action_is : (place : ℕ) (a : IsActing ms i place) → a.action ≡ action
    action_is place a = same_action i a.action action (sym a.line ∙ line)

    manages_same : (place : ℕ) → IsActing ms i place → manages (operation_of action) ≡ true
    manages_same place a = ap (λ x. manages (operation_of x)) (sym (action_is place a)) ∙ a.manages_it

    not_asking : manages (operation_of action) ≡ false → (place : ℕ) → IsAsking now i serial place → ⊥
    not_asking m place a = untrue (sym m ∙ manages_same place (f.acts place a))

    told_now : IsFree start past i → IsFree start ms i
    told_now k = told_free start i t.0.sides past left.told hands.1 k

    sent_now : manages (operation_of action) ≡ false → IsFree start past i → IsFree start now i
    sent_now m k = sent_free start ms i serial generation (suc i) 0 packet.bytes f.facts (not_asking m) (told_now k)

    -- the labels
    new_one : (act : ℕ) → asking.demand.purpose ≡ purposes.Management act → Own now i t.1 act serial
    new_one act p = by (operation_of action) refl
      where
        by : (found : Option Operation) → operation_of action ≡ found → Own now i t.1 act serial
        by None o = absurd (demand_manages action s asking.demand act asking.is p o)
        by (Some operation) o = λ r e g m u x. (begun operation u o x).0

    labels_now : Asks now i t.1.target t.1.layer (Own now i t.1)
    labels_now =
        subst (λ n. Asks now i n t.1.layer (Own now i t.1)) (sym left.target_is)
        (asking_asks Older (Own now i t.1) action past i s t shown (called_of cored) older left packet one serial generation injected q f.fit (older_on now goes_on) new_one)

    -- an operation of management begins
    module _ (operation : Operation) (o : operation_of action ≡ Some operation) (m : is_management operation ≡ true) where
      manages_it : manages (operation_of action) ≡ true
      manages_it = ap manages o ∙ m

      S : Sends serial sending (terms ms)
      S = sent_terms serial sending (terms ms)

      write : IsOwnWrite now i serial
      write =
          let w = f.written refl honest action line manages_it in
          record {
            packet = sending;
            sent = ap (λ (g : ℕ → Option Sending). g serial) S.sent ∙ at_itself serial (Some sending) (terms ms).sent;
            from_is = refl;
            to_is = refl;
            honest = honest;
            current = (f.fit.sent.0 honest).now ∙ ap (λ (g : ℕ → ℕ). g (suc i)) (sym S.generation);
            label = w.label;
            part = w.part;
          }

      fresh : (terms now).news serial ≡ 0
      fresh = ap (λ (g : ℕ → ℕ). g serial) S.news ∙ f.unjudged

      begun_now : (u : Underway) → (host_at now i).operation ≡ Some u → IsBusy start now i u.place u.first
      begun_now u e =
          let b = begun operation u o e in
          subst (λ n. IsBusy start now i u.place n) (sym b.0)
          (begun_busy start ms i serial generation (suc i) 0 packet.bytes f.facts u.place write (λ at a. (f.acts at a).place_is ∙ sym b.1.0) fresh (told_now (free_before operation o)))

      begun_hand : InHand start now i t.1
      begun_hand = record {
        free = λ x n.
            let r = begins_new operation o in
            untrue (sym (x _ r) ∙ ap is_management (new_is operation o _ r).is ∙ m);
        busy = λ u e g. begun_now u e;
        labels = labels_now;
      }

    -- another one
    other_hand : (operation : Operation) → operation_of action ≡ Some operation → is_management operation ≡ false → InHand start now i t.1
    other_hand operation o m = record {
      free = λ x n. sent_now (ap manages o ∙ m) (free_before operation o);
      busy = λ u e g. untrue (sym m ∙ ap is_management (sym (begun operation u o e).1.1) ∙ g);
      labels = labels_now;
    }

    -- or none
    none_hand : operation_of action ≡ None → InHand start now i t.1
    none_hand o = record {
      free = λ x n. sent_now (ap manages o) (h.free (λ r e. x r (kept_operation o ∙ e)) unstuck);
      busy = busy_on start past now i
          (λ place write k. sent_busy start ms i serial generation (suc i) 0 packet.bytes f.facts (not_asking (ap manages o)) place write (told_busy start i t.0.sides past left.told hands.1 place write k))
          (goes_on o) h.busy;
      labels = labels_now;
    }

    pub asking_hand : InHand start now i t.1
    asking_hand = by (operation_of action) refl
      where
        by_kind : (operation : Operation) → operation_of action ≡ Some operation → (b : Bool) → is_management operation ≡ b → InHand start now i t.1
        by_kind operation o true m = begun_hand operation o m
        by_kind operation o false m = other_hand operation o m

        by : (found : Option Operation) → operation_of action ≡ found → InHand start now i t.1
        by None o = none_hand o
        by (Some operation) o = by_kind operation o (is_management operation) refl
