-- In every run, where lists were open as they should be, the write of MANAGEMENT_AGENT of an operation that an initiator has under way is under way itself, or was answered complete: each other
-- end of it ends the operation. So it is behind each call of the initiator.
use Rattle.sbp_world.proofs.Words.Std.{arith, nat_tests, ◌≡◌, inl, inr, ◌⊎◌, refl, sym, ◌∙◌, ap, subst, ℕ, suc, ◌<◌, ◌==◌, nat_eq, nat_lt, Bool, true, false, cond, List, [], ◌∷◌, Option, Some, None, Result, Ok, Err, same_Some}
use Rattle.sbp_world.proofs.Words.Wire.{Action, Finding, LabelParts, Layer, Moment, Note, Operation, OutboxState, Packet, PacketFault, Sending, Side, Stale, asked, empty_outbox, expiring_step, fault_of, header_in, judged_note, judging_step, kind_as, of_again, of_generation, of_grammar, of_label, of_request, of_response, packet_of, purpose_for, rcode_of, reading, said, shape_of, state_for, tcode_of, terms, transaction, unless_fault, value_of, waits}
use Rattle.sbp_world.proofs.Words.Target.{Disk}
use Rattle.sbp_world.proofs.Words.Initiator.{Ending, InitiatorState, Purpose, Running, Turn, act_step, after_by, begun_as, called, conflict_for, conflict_step, end_step, ended_for, ended_step, ending_by, ending_of, expire_step, expired_as, fail_step, is_conflict, is_managed, moved, new_state, own_operation, receive_step, received, see_step}
use Rattle.sbp_world.proofs.Words.Laws.{Underway, answered_at, answered_in, host_at, is_management, operation_of}
use Rattle.sbp_world.proofs.Words.World.{behind}
use Rattle.sbp_initiator.specs.declared.purpose.Ending.TheVariants as endings
use Rattle.sbp_initiator.specs.declared.purpose.Purpose.TheVariants as purposes
use Rattle.sbp_journal.specs.declared.cause.Judged.TheVariants as judgements
use Rattle.sbp_journal.specs.declared.event.Action.TheVariants as actions
use Rattle.sbp_journal.specs.declared.event.Event.TheVariants as events
use Rattle.sbp_journal.specs.declared.note.Note.TheVariants as notes
use Rattle.sbp_journal.specs.declared.operation.OpWord.TheVariants as words
use Rattle.sbp_journal.specs.declared.side.Side.TheVariants as sides
use Rattle.sbp_session.specs.Moves.{conflict}
use Rattle.sbp_world.specs.Completing.Operations.{WasCompleted}
use Rattle.sbp_world.proofs.Common.{none_is, same_number, untrue}
use Rattle.sbp_world.proofs.Completing.OperationsOwn.{AsksFor, HasLabel, Owned, begins_label, fails, first_owned, forth, heard_called, heard_is, heard_keeps, heard_target, heard_was, label_of, late_called, late_is, late_keeps, late_target, late_was, owned_carried, stays}
use Rattle.sbp_world.proofs.Completing.OperationsOwn as own
use Rattle.sbp_world.proofs.Completing.OperationsReads.{got_or}
use Rattle.sbp_world.proofs.Hosts.ActLeft.{act_left}
use Rattle.sbp_world.proofs.Hosts.Aimed.{IsAimed}
use Rattle.sbp_world.proofs.Hosts.Asked.{number_in}
use Rattle.sbp_world.proofs.Hosts.Carries.{Carries, Nothing, is_apart}
use Rattle.sbp_world.proofs.Hosts.Cores.{not_so}
use Rattle.sbp_world.proofs.Hosts.Hosted.{Cored, marks_of}
use Rattle.sbp_world.proofs.Hosts.Layered.{AreTame, expire_left, receive_left}
use Rattle.sbp_world.proofs.Hosts.Lives.{At, Called}
use Rattle.sbp_world.proofs.Hosts.Pointed.{stale_is}
use Rattle.sbp_world.proofs.Hosts.PointSees.{see_left}
use Rattle.sbp_world.proofs.Hosts.PointerNotes.{tame_told}
use Rattle.sbp_world.proofs.Hosts.Pointing.{under_way_now}
use Rattle.sbp_world.proofs.Hosts.Shown.{IsHeard, IsShown}
use Rattle.sbp_world.proofs.Lists.ManageActs.{IsNew, act_operation, new_by, same_operation}
use Rattle.sbp_world.proofs.Pointers.Finds.{closed_over, closes_at}
use Rattle.sbp_world.proofs.Lists.ManageFirsts.{Goes, goes_then, kept_first, line_first, note_first, other_first, sent_first, told_first}
use Rattle.sbp_world.proofs.Lists.ManageHand.{InHand, Own}
use Rattle.sbp_world.proofs.Lists.ManageLabels.{AskedFor}
use Rattle.sbp_world.proofs.Lists.ManageMoments.{Hands, IsAnswer, MayHand, TakeFacts}
use Rattle.sbp_world.proofs.Lists.ManageOwn.{at_host, bytes_are, judged_first, of_target, to_it}
use Rattle.sbp_world.proofs.Lists.ManageRuns.{Managed, first_managed, first_none, managed_carried}
use Rattle.sbp_world.proofs.Lists.ManageSees.{none_later}
use Rattle.sbp_world.proofs.Lists.ManageSights.{told_hands}
use Rattle.sbp_world.proofs.Pointers.Asks.{act_allowed}
use Rattle.sbp_world.proofs.Pointers.Ending.{read_in}
use Rattle.sbp_world.proofs.Pointers.Guarded.{receive_got}
use Rattle.sbp_world.proofs.Pointers.Leaving.{ClosedFor, LapsedFor, expire_goes, judge_goes}
use Rattle.sbp_world.proofs.Pointers.WaitActs.{see_old}
use Rattle.sbp_world.proofs.Wire.Deliver.{judging_stays}

-- the write of the operation under way is so, or was answered complete
abbrev pub IsWritten : List Moment → ℕ → InitiatorState → Type 0
IsWritten past i s = (r : Running) (u : Underway) → s.operation ≡ Some r → is_management r.operation ≡ true → (host_at past i).operation ≡ Some u → HasLabel s (purposes.Management r.act) ⊎ WasCompleted past u.first

-- a write that was under way before a call is so behind it, or was answered complete
abbrev LabelsGo : List Moment → ℕ → InitiatorState → InitiatorState → Type 0
LabelsGo now i s t = (r : Running) (u : Underway) → t.operation ≡ Some r → is_management r.operation ≡ true → (host_at now i).operation ≡ Some u → HasLabel s (purposes.Management r.act) → HasLabel t (purposes.Management r.act) ⊎ WasCompleted now u.first

-- ---- it stays complete
grown : (m : Moment) (past : List Moment) (n : ℕ) → WasCompleted past n → WasCompleted (m ∷ past) n
grown m past n w = record { later = m ∷ w.later; before = w.before; got = w.got; is = ap (λ ms. m ∷ ms) w.is; closed = w.closed; code = w.code; judged = w.judged; asking = w.asking; asked = w.asked; of = w.of; begun = w.begun; current = w.current; given = w.given }

told_grown : (told : List Side) (past : List Moment) (n : ℕ) → AreTame told → WasCompleted past n → WasCompleted (behind told past) n
told_grown [] past n tame w = w
told_grown (sides.Own note ∷ later) past n tame w = told_grown later (said note ∷ past) n tame.1 (grown (said note) past n w)
told_grown (_ ∷ later) past n tame w = absurd tame.0

module _ (past now : List Moment) (i : ℕ) (s t : InitiatorState) (goes : Goes (host_at past i) (host_at now i)) (grows : (n : ℕ) → WasCompleted past n → WasCompleted now n) where
  written_by : ((r : Running) → t.operation ≡ Some r → s.operation ≡ Some r) → LabelsGo now i s t → IsWritten past i s → IsWritten now i t
  written_by was labels h r u e m f = let w = goes.on u f in by (h r w.was (was r e) m w.is) w.first
    where
      by : {n : ℕ} → HasLabel s (purposes.Management r.act) ⊎ WasCompleted past n → n ≡ u.first → HasLabel t (purposes.Management r.act) ⊎ WasCompleted now u.first
      by (inl l) first = labels r u e m f l
      by (inr x) first = inr (grows u.first (subst (WasCompleted past) first x))

on_by : (past now : List Moment) (i : ℕ) (s : InitiatorState) → Goes (host_at past i) (host_at now i) → ((n : ℕ) → WasCompleted past n → WasCompleted now n) → IsWritten past i s → IsWritten now i s
on_by past now i s goes grows = written_by past now i s s goes grows (λ r e. e) (λ r u e m f l. inl l)

one_on : (m : Moment) (past : List Moment) (i : ℕ) (s : InitiatorState) → Goes (host_at past i) (host_at (m ∷ past) i) → IsWritten past i s → IsWritten (m ∷ past) i s
one_on m past i s goes = on_by past (m ∷ past) i s goes (grown m past)

told_on : (told : List Side) (past : List Moment) (i : ℕ) (s : InitiatorState) → AreTame told → IsWritten past i s → IsWritten (behind told past) i s
told_on told past i s tame = on_by past (behind told past) i s (told_first told past i tame) (λ n w. told_grown told past n tame w)

apart_on : (note : Note) (past : List Moment) (i : ℕ) (s : InitiatorState) → is_apart i note ≡ true → IsWritten past i s → IsWritten (said note ∷ past) i s
apart_on (notes.Begin initiators ready) past i s e h = untrue e
apart_on (notes.Sent serial generation from to bytes) past i s e h = one_on (said (notes.Sent serial generation from to bytes)) past i s (other_first serial generation from to bytes past i (not_so (nat_eq from (suc i)) e)) h
apart_on note past i s e h = one_on (said note) past i s (note_first note past i refl) h

-- ---- the rcode of a response that completes is 0
completes_by : (code value other : ℕ) → ending_by code value ≡ endings.Complete other → code ≡ 0
completes_by code value other e = by (code == 0) refl e
  where
    by : (b : Bool) → (code == 0) ≡ b → cond b (endings.Complete value) (endings.Refused code) ≡ endings.Complete other → code ≡ 0
    by true f g = grind (arith, nat_tests)
    by false f g = cc

no_completion : {A : Type 0} (value : ℕ) → endings.Expired ≡ endings.Complete value → A
no_completion value e = absurd (let no : endings.Expired ≡ endings.Complete value = e in cc)

module _ (bytes : List ℕ) (value : ℕ) where
  abbrev Completes : Packet → Type 0
  Completes p = ending_of p ≡ endings.Complete value → rcode_of bytes ≡ 0

  if_completes : (b : Bool) (x y : Packet) → Completes x → Completes y → Completes (cond b x y)
  if_completes true x y h k = h
  if_completes false x y h k = k

  packet_completes : (tcode : ℕ) → Completes (packet_of bytes tcode)
  packet_completes tcode =
      if_completes (tcode == 0) _ _ (λ e. no_completion value e)
      (if_completes (tcode == 1) _ _ (λ e. no_completion value e)
      (if_completes (tcode == 2) _ _ (λ e. completes_by (rcode_of bytes) 0 value e)
      (if_completes (tcode == 4) _ _ (λ e. no_completion value e)
      (if_completes (tcode == 5) _ _ (λ e. no_completion value e)
      (if_completes (tcode == 6) _ _ (λ e. completes_by (rcode_of bytes) (value_of bytes) value e)
      (if_completes (tcode == 7) _ _ (λ e. completes_by (rcode_of bytes) 0 value e)
      (if_completes (tcode == 9) _ _ (λ e. no_completion value e) (λ e. completes_by (rcode_of bytes) 0 value e))))))))

  read_completes : (fault : Option PacketFault) (p q : Packet) → unless_fault fault p ≡ Ok q → Completes p → Completes q
  read_completes None p q e h = let same : p ≡ q = cc in subst Completes same h
  read_completes (Some fault) p q e h = absurd (let no : Err fault ≡ Ok q = e in cc)

  complete_rcode : (p : Packet) → reading bytes ≡ Ok p → ending_of p ≡ endings.Complete value → rcode_of bytes ≡ 0
  unfolding reading
  complete_rcode p e = read_completes (fault_of bytes) (packet_of bytes (tcode_of bytes)) p e (packet_completes (tcode_of bytes))

-- ---- a write of MANAGEMENT_AGENT of the operation that fails ends it
module _ (r : Running) (o : OutboxState) (u : InitiatorState) (e : u.operation ≡ Some r) where
  conflicts_for : (found : Option Running) → found ≡ Some r → (conflict_for found r.act o u).1.operation ≡ None
  conflicts_for None f = none_is r f
  conflicts_for (Some running) f = by (running.act == r.act) (ap (λ (x : Running). x.act == r.act) (same_Some running r f) ∙ same_number r.act)
    where
      by : (b : Bool) → b ≡ true → (cond b (end_step running.operation words.Conflict o (moved running.operation conflict u)) (o, u)).1.operation ≡ None
      by true g = refl
      by false g = untrue g

  refused_by : (b : Bool) → (cond b (conflict_step r.act o u) (fail_step r.act o u)).1.operation ≡ None
  refused_by true = conflicts_for u.operation e
  refused_by false = fails r o u e

  refused_ends : (rcode : ℕ) → (ended_step (purposes.Management r.act) (endings.Refused rcode) o u).1.operation ≡ None
  unfolding ended_step
  refused_ends rcode = refused_by (is_conflict rcode)

  expired_ends : (ended_step (purposes.Management r.act) endings.Expired o u).1.operation ≡ None
  unfolding ended_step
  expired_ends = fails r o u e

-- ---- a packet that it hears
module _ (ready : Bool) (start : List Disk) (i : ℕ) (s : InitiatorState) (owned : IsAimed ready i s) (has : own.HasOwn s) (past : List Moment) (hand : InHand start past i s) (h : IsWritten past i s) where
  c : Called s.layer
  c = own.c ready i s owned has

  abbrev Heard : (serial generation : ℕ) (bytes : List ℕ) → List Moment
  Heard serial generation bytes = said (judged_note serial (receive_step generation bytes empty_outbox s).0) ∷ past

  module _ (cored : Cored ready past i s) (serial generation : ℕ) (bytes : List ℕ) (heard : IsHeard past i serial generation bytes) (shown : IsShown past i s.target s.layer) (after : IsShown (Heard serial generation bytes) i s.target (judging_step s.layer generation bytes).1) (hands : Hands start i (Heard serial generation bytes)) where
    abbrev t : Turn
    t = (receive_step generation bytes empty_outbox s).1

    abbrev l : Layer Purpose
    l = (judging_step s.layer generation bytes).1

    abbrev heard_now : List Moment
    heard_now = said (judged_note serial (receive_step generation bytes empty_outbox s).0) ∷ past

    abbrev later : List Moment
    later = behind t.0.sides heard_now

    tame : AreTame t.0.sides
    tame = (receive_left generation bytes s).told

    goes : Goes (host_at past i) (host_at later i)
    goes = goes_then (host_at past i) (host_at heard_now i) (host_at later i) (judged_first start serial past i (receive_step generation bytes empty_outbox s).0) (told_first t.0.sides heard_now i tame)

    -- the response that closes it is complete
    module _ (p : Packet) (label : LabelParts) (r : Running) (u : Underway) (found : (judging_step s.layer generation bytes).0 ≡ of_response p label (Some (purposes.Management r.act))) (was : s.operation ≡ Some r) (m : is_management r.operation ≡ true) (now : (host_at later i).operation ≡ Some u) where
      a : At s.layer (header_in p).source label.number (Some (purposes.Management r.act))
      a = closes_at s.layer generation bytes p label (Some (purposes.Management r.act)) c found

      peer : (header_in p).source ≡ s.target
      peer = owned.aims (header_in p).source label.number (Some (purposes.Management r.act)) a

      w : AskedFor past i s.layer.generation label.number r.act (Own past i s)
      w = hand.labels.waits_for label.number r.act (subst (λ x. At s.layer x label.number (Some (purposes.Management r.act))) peer a)

      first_is : u.first ≡ w.serial
      first_is = let x = goes.on u now in sym x.first ∙ w.own r was refl m x.was x.is

      got_is : (receive_step generation bytes empty_outbox s).0 ≡ judgements.Got
      got_is = receive_got generation bytes p label (Some (purposes.Management r.act)) s found

      over : (terms heard_now).held (transaction s.layer.generation (suc i) 0 label.number) ≡ waits w.kind w.serial → ⊥
      over e =
          let g : l.generation ≡ s.layer.generation = judging_stays s.layer generation bytes in
          let x = under_way_now (state_for l.peers s.target label.number) (kind_as w.kind) (after.states label.number ∙ ap (λ n. shape_of ((terms heard_now).held (transaction n (suc i) 0 label.number))) g ∙ ap shape_of e) in
          let b : At l s.target label.number (purpose_for l.peers s.target label.number) = record { kind = x.kind; serial = x.serial; state = x.is; is_for = refl } in
          closed_over s.layer generation bytes p label (Some (purposes.Management r.act)) c found (purpose_for l.peers s.target label.number) (subst (λ n. At l n label.number (purpose_for l.peers s.target label.number)) (sym peer) b)

      closed : answered_at (terms past) serial ≡ Some u.first
      closed = by (got_or serial past i (transaction s.layer.generation (suc i) 0 label.number) w.kind w.serial w.held ((terms past).sent serial))
        where
          by : ((terms (said (notes.Got serial) ∷ past)).held (transaction s.layer.generation (suc i) 0 label.number) ≡ waits w.kind w.serial) ⊎ (answered_in (terms past) ((terms past).sent serial) ≡ Some w.serial) → answered_at (terms past) serial ≡ Some u.first
          by (inl e) = absurd (over (ap (λ j. (terms (said (judged_note serial j) ∷ past)).held (transaction s.layer.generation (suc i) 0 label.number)) got_is ∙ e))
          by (inr e) = e ∙ ap Some (sym first_is)

      facts : TakeFacts start past i serial
      facts = subst (λ j. MayHand start i (said (judged_note serial j)) past) got_is hands.0

      spelled : reading bytes ≡ Ok p
      spelled = read_in s.layer generation bytes p label (Some (purposes.Management r.act)) found

      -- the target had taken it as new
      answer : (value : ℕ) → ending_of p ≡ endings.Complete value → IsAnswer past i label.number w.serial 0
      answer value e =
          let g = shown.generation in
          let x = goes.on u now in
          let b = (hand.busy x.was x.is (ap is_management (busy_same x.was x.is) ∙ m)).own in
          let first : x.was.first ≡ w.serial = w.own r was refl m x.was x.is in
          facts.answers (to_it ready start serial generation bytes past i s heard shown after cored owned hand facts)
          (of_target ready start serial generation bytes past i s heard shown after cored owned hand facts p spelled peer) label.number w.kind w.serial b.packet b.label (ap (terms past).sent (sym first) ∙ b.sent) b.part
          (ap (λ n. (terms past).held (transaction n (suc i) 0 label.number)) (sym g) ∙ w.held)
          (λ f. over (ap (λ j. (terms (said (judged_note serial j) ∷ past)).held (transaction s.layer.generation (suc i) 0 label.number)) got_is ∙ ap (λ n. (terms (said (notes.Got serial) ∷ past)).held (transaction n (suc i) 0 label.number)) g ∙ f))
          0 (ap rcode_of (bytes_are ready start serial generation bytes past i s heard shown after cored owned hand facts) ∙ complete_rcode bytes value p spelled e)
        where
          busy_same : (v : Underway) → (host_at past i).operation ≡ Some v → v.operation ≡ r.operation
          busy_same v f = (let x = at_host past i s r cored.core was in ap (λ (y : Underway). y.operation) (same_Some v x.u (sym f ∙ x.is)) ∙ x.same)

      completed : (value : ℕ) → ending_of p ≡ endings.Complete value → WasCompleted later u.first
      completed value e =
          told_grown t.0.sides heard_now u.first tame
          (subst (λ j. WasCompleted (said (judged_note serial j) ∷ past) u.first) (sym got_is)
          (record {
            later = [];
            before = past;
            got = serial;
            is = refl;
            closed = closed;
            code = λ packet sent.
                ap (λ (q : Sending). rcode_of q.bytes) (same_Some packet heard.packet (sym sent ∙ heard.sent)) ∙ ap rcode_of heard.bytes_are
                ∙ complete_rcode bytes value p spelled e;
            judged = subst (λ n. 0 < (terms past).news n) (sym first_is) (answer value e).news;
            asking = (answer value e).packet;
            asked = ap (terms past).sent first_is ∙ (answer value e).sent;
            of = transaction ((terms past).generation (suc i)) (suc i) 0 label.number;
            begun = (answer value e).begun;
            current = (answer value e).current ∙ sym first_is;
            given = (answer value e).given;
          }))

      closes_so : t.1.operation ≡ Some r → t ≡ ended_step (purposes.Management r.act) (ending_of p) empty_outbox (called (record s { layer = l })) → HasLabel t.1 (purposes.Management r.act) ⊎ WasCompleted later u.first
      closes_so here is = by (ending_of p) refl
        where
          by : (ending : Ending) → ending_of p ≡ ending → HasLabel t.1 (purposes.Management r.act) ⊎ WasCompleted later u.first
          by (endings.Complete value) e = inr (completed value e)
          by (endings.Refused rcode) e = none_is r (sym (ap (λ (x : Turn). x.1.operation) (is ∙ ap (λ x. ended_step (purposes.Management r.act) x empty_outbox (called (record s { layer = l }))) e) ∙ refused_ends r empty_outbox (called (record s { layer = l })) was rcode) ∙ here)
          by endings.Expired e = none_is r (sym (ap (λ (x : Turn). x.1.operation) (is ∙ ap (λ x. ended_step (purposes.Management r.act) x empty_outbox (called (record s { layer = l }))) e) ∙ expired_ends r empty_outbox (called (record s { layer = l })) was) ∙ here)

    labels_now : LabelsGo later i s t.1
    labels_now r u e m f x = by (judge_goes s.layer s.target x.number (Some (purposes.Management r.act)) c x.at generation bytes)
      where
        closes : (found : Finding Purpose) → (judging_step s.layer generation bytes).0 ≡ found → ClosedFor found (Some (purposes.Management r.act)) → t ≡ (received (found, l) bytes empty_outbox s).1 → HasLabel t.1 (purposes.Management r.act) ⊎ WasCompleted later u.first
        closes of_generation g y is = absurd y
        closes of_grammar g y is = absurd y
        closes of_label g y is = absurd y
        closes (of_again p rcode) g y is = absurd y
        closes (of_request p) g y is = absurd y
        closes (of_response p label other) g y is =
            closes_so p label r u (g ∙ ap (of_response p label) y) (heard_was ready i s owned has generation bytes r e) m f e
            (is ∙ ap (λ o. ended_for o (ending_of p) empty_outbox (called (record s { layer = l }))) y)

        by : At l s.target x.number (Some (purposes.Management r.act)) ⊎ ClosedFor (judging_step s.layer generation bytes).0 (Some (purposes.Management r.act)) → HasLabel t.1 (purposes.Management r.act) ⊎ WasCompleted later u.first
        by (inl a) = inl (stays ready i s owned has l (heard_called ready i s owned has generation bytes) t (heard_target ready i s owned has generation bytes) (heard_keeps ready i s owned has generation bytes) r (purposes.Management r.act) x.number a)
        by (inr y) = closes (judging_step s.layer generation bytes).0 refl y (heard_is ready i s owned has generation bytes)

    hears_written : IsWritten later i t.1
    hears_written = written_by past later i s t.1 goes (λ n w. told_grown t.0.sides heard_now n tame (grown (said (judged_note serial (receive_step generation bytes empty_outbox s).0)) past n w)) (heard_was ready i s owned has generation bytes) labels_now h

  -- ---- one that times out
  module _ (serial : ℕ) (label : LabelParts) where
    abbrev late_turn : Turn
    late_turn = (expire_step label empty_outbox s).1

    abbrev late_layer : Layer Purpose
    late_layer = (expiring_step s.layer s.target label).1

    abbrev late_now : List Moment
    late_now = said (notes.TimedOut serial) ∷ past

    late_tame : AreTame late_turn.0.sides
    late_tame = (expire_left label s).told

    late_labels : LabelsGo (behind late_turn.0.sides late_now) i s late_turn.1
    late_labels r u e m f x = by (expire_goes s.layer s.target x.number (Some (purposes.Management r.act)) c x.at s.target label)
      where
        lapses : (found : Result (Option Purpose) Stale) → LapsedFor found (Some (purposes.Management r.act)) → late_turn ≡ (expired_as (found, late_layer) empty_outbox s).1 → HasLabel late_turn.1 (purposes.Management r.act)
        lapses (Err stale) y is = absurd y
        lapses (Ok other) y is =
            none_is r (sym (ap (λ (z : Turn). z.1.operation) (is ∙ ap (λ o. ended_for o endings.Expired empty_outbox (called (record s { layer = late_layer }))) y)
            ∙ expired_ends r empty_outbox (called (record s { layer = late_layer })) (late_was ready i s owned has label r e)) ∙ e)

        by : At late_layer s.target x.number (Some (purposes.Management r.act)) ⊎ LapsedFor (expiring_step s.layer s.target label).0 (Some (purposes.Management r.act)) → HasLabel late_turn.1 (purposes.Management r.act) ⊎ WasCompleted (behind late_turn.0.sides late_now) u.first
        by (inl a) = inl (stays ready i s owned has late_layer (late_called ready i s owned has label) late_turn (late_target ready i s owned has label) (late_keeps ready i s owned has label) r (purposes.Management r.act) x.number a)
        by (inr y) = inl (lapses (expiring_step s.layer s.target label).0 y (late_is ready i s owned has label))

    expires_written : IsWritten (behind late_turn.0.sides late_now) i late_turn.1
    expires_written =
        written_by past (behind late_turn.0.sides late_now) i s late_turn.1
        (goes_then (host_at past i) (host_at late_now i) (host_at (behind late_turn.0.sides late_now) i) (note_first (notes.TimedOut serial) past i refl) (told_first late_turn.0.sides late_now i late_tame))
        (λ n w. told_grown late_turn.0.sides late_now n late_tame (grown (said (notes.TimedOut serial)) past n w)) (late_was ready i s owned has label) late_labels h

  -- ---- a sight
  module _ (generation id target : ℕ) where
    abbrev seen_now : List Moment
    seen_now = said (notes.Seen (suc i) generation) ∷ past

    sees_written : (let t = see_step generation id target empty_outbox s in IsWritten (behind t.0.sides seen_now) i t.1)
    sees_written = by (nat_lt s.layer.generation generation) refl
      where
        by : (b : Bool) → nat_lt s.layer.generation generation ≡ b → (let t = see_step generation id target empty_outbox s in IsWritten (behind t.0.sides seen_now) i t.1)
        by true e = λ r u now m f. none_is r (sym (none_later generation id target s e) ∙ now)
        by false e = subst (λ (t : Turn). IsWritten (behind t.0.sides seen_now) i t.1) (sym (see_old generation id target s e)) (one_on (said (notes.Seen (suc i) generation)) past i s (note_first (notes.Seen (suc i) generation) past i refl) h)

  -- ---- an action
  module _ (action : Action) (done_is : (act_step action empty_outbox s).0 ≡ None) where
    abbrev acted : Turn
    acted = (act_step action empty_outbox s).1

    asks_managed : (operation : Operation) → own_operation action ≡ Some operation → is_management operation ≡ true → AsksFor action s (purposes.Management s.counts.acts)
    asks_managed operation o m = by action (ap managing o ∙ m)
      where
        managing : Option Operation → Bool
        managing None = false
        managing (Some operation) = is_management operation

        by : (action : Action) → managing (own_operation action) ≡ true → AsksFor action s (purposes.Management s.counts.acts)
        by (actions.Login unit reconnect exclusive password) e = (_, (refl, refl))
        by (actions.Query unit) e = (_, (refl, refl))
        by actions.Reconnect e = (_, (refl, refl))
        by actions.Logout e = (_, (refl, refl))
        by (actions.Abort k) e = (_, (refl, refl))
        by actions.AbortSet e = (_, (refl, refl))
        by actions.UnitReset e = (_, (refl, refl))
        by actions.TargetReset e = (_, (refl, refl))
        by action e = untrue e

    acts_written : (now : List Moment) → (operation_of action ≡ None → Goes (host_at past i) (host_at now i)) → ((n : ℕ) → WasCompleted past n → WasCompleted now n) → IsWritten now i acted.1
    acts_written now goes grows r u e m f = by (own_operation action) refl (sym (act_operation action s (act_allowed action s done_is) (marks_of ready i s owned.own.called) done_is) ∙ e)
      where
        begun_here : (operation : Operation) → own_operation action ≡ Some operation → begun_as (is_managed operation) operation s ≡ r → HasLabel acted.1 (purposes.Management r.act)
        begun_here operation o is =
            let n = subst (IsNew operation s) is (new_by (is_managed operation) operation s) in
            let x = asks_managed operation o (ap is_management (sym n.is) ∙ m) in
            subst (λ act. HasLabel acted.1 (purposes.Management act)) (sym n.act) (subst (HasLabel acted.1) x.1.1 (begins_label ready i s owned has action done_is x.0 x.1.0))

        by : (x : Option Operation) → own_operation action ≡ x → after_by x s ≡ Some r → HasLabel acted.1 (purposes.Management r.act) ⊎ WasCompleted now u.first
        by None o g = let w = (goes (same_operation action ∙ o)).on u f in on (h r w.was g m w.is) w.first
          where
            on : {n : ℕ} → HasLabel s (purposes.Management r.act) ⊎ WasCompleted past n → n ≡ u.first → HasLabel acted.1 (purposes.Management r.act) ⊎ WasCompleted now u.first
            on (inl l) first = inl (label_of ready i s owned has action done_is l.number (purposes.Management r.act) (forth ready i s owned has action done_is l.number (Some (purposes.Management r.act)) l.at))
            on (inr x) first = inr (grows u.first (subst (WasCompleted past) first x))
        by (Some operation) o g = inl (begun_here operation o (same_Some (begun_as (is_managed operation) operation s) r g))

-- ---- each initiator
pub record Written (ready : Bool) (start : List Disk) (past : List Moment) (i : ℕ) (s : InitiatorState) : Type 0 where
  pub managed : Managed ready start past i s
  pub owned : Owned ready past i s
  pub done : Hands start i past → IsWritten past i s

module _ (ready : Bool) (start : List Disk) where
  others_written : (told : List Side) (past : List Moment) (j : ℕ) (x : InitiatorState) → AreTame told → Managed ready start (behind told past) j x → Owned ready (behind told past) j x → Written ready start past j x → Written ready start (behind told past) j x
  others_written told past j x tame m o g = record { managed = m; owned = o; done = λ hands. told_on told past j x tame (g.done (told_hands start j told past tame hands)) }

  pub written_carried : Carries Nothing (Written ready start)
  written_carried =
      let manage = managed_carried ready start in
      let owns = owned_carried ready in
      record {
        known = λ line event past i s h. tt;
        number = λ past i s h. manage.number past i s h.managed;
        asked = λ line event past i s h. record {
          managed = manage.asked line event past i s h.managed;
          owned = owns.asked line event past i s h.owned;
          done = λ f. one_on (asked line event) past i s (line_first line event past i) (h.done f.1);
        };
        apart = λ note past i s e w h. record {
          managed = manage.apart note past i s e w h.managed;
          owned = owns.apart note past i s e w h.owned;
          done = λ f. apart_on note past i s e (h.done f.1);
        };
        sent = λ serial generation from to bytes past i s n h. record {
          managed = manage.sent serial generation from to bytes past i s n h.managed;
          owned = owns.sent serial generation from to bytes past i s n h.owned;
          done = λ f. one_on (said (notes.Sent serial generation from to bytes)) past i s (sent_first serial generation from to bytes past i n) (h.done f.1);
        };
        hears = λ serial generation bytes past i s heard shown after h.
            let t : Turn = (receive_step generation bytes empty_outbox s).1 in
            let tame = (receive_left generation bytes s).told in
            let now = said (judged_note serial (receive_step generation bytes empty_outbox s).0) ∷ past in
            let m = manage.hears serial generation bytes past i s heard shown after h.managed in
            let o = owns.hears serial generation bytes past i s heard shown after h.owned in
            record {
              own = record {
                managed = m.own;
                owned = o.own;
                done = λ hands. (let all = told_hands start i t.0.sides now tame hands in hears_written ready start i s h.owned.aimed h.owned.has past (h.managed.kept all.1) (h.done all.1) h.managed.cored serial generation bytes heard shown after all);
              };
              others = λ j x e g. others_written t.0.sides now j x tame (m.others j x e g.managed) (o.others j x e g.owned) g;
            };
        expires = λ serial label past i s after h.
            let t : Turn = (expire_step label empty_outbox s).1 in
            let tame = (expire_left label s).told in
            let now = said (notes.TimedOut serial) ∷ past in
            let m = manage.expires serial label past i s after h.managed in
            let o = owns.expires serial label past i s after h.owned in
            record {
              own = record {
                managed = m.own;
                owned = o.own;
                done = λ hands. (let before = (told_hands start i t.0.sides now tame hands).1 in expires_written ready start i s h.owned.aimed h.owned.has past (h.managed.kept before) (h.done before) serial label);
              };
              others = λ j x e g. others_written t.0.sides now j x tame (m.others j x e g.managed) (o.others j x e g.owned) g;
            };
        stale = λ label past i s e h. subst (λ (x : InitiatorState). Written ready start past i x) (sym (stale_is ready label s e)) h;
        sees = λ generation id target past i s flag h.
            let t : Turn = see_step generation id target empty_outbox s in
            let tame = (see_left generation id target s).told in
            let now = said (notes.Seen (suc i) generation) ∷ past in
            let m = manage.sees generation id target past i s flag h.managed in
            let o = owns.sees generation id target past i s flag h.owned in
            record {
              own = record {
                managed = m.own;
                owned = o.own;
                done = λ hands. (let before = (told_hands start i t.0.sides now tame hands).1 in sees_written ready start i s h.owned.aimed h.owned.has past (h.managed.kept before) (h.done before) generation id target);
              };
              others = λ j x e g. others_written t.0.sides now j x tame (m.others j x e g.managed) (o.others j x e g.owned) g;
            };
        acts = λ action past i s under fit done shown known h.
            let t : Turn = (act_step action empty_outbox s).1 in
            let tame = (act_left action s done).told in
            let ms = behind t.0.sides past in
            let m = manage.acts action past i s under fit done shown tt h.managed in
            let o = owns.acts action past i s under fit done shown tt h.owned in
            let told = tame_told t.0.sides past i tame in
            record {
              others = λ j x e g. others_written t.0.sides past j x tame (m.others j x e g.managed) (o.others j x e g.owned) g;
              quiet = λ none. record {
                managed = m.quiet none;
                owned = o.quiet none;
                done = λ hands.
                    let before = told_hands start i t.0.sides past tame hands in
                    acts_written ready start i s h.owned.aimed h.owned.has past (h.managed.kept before) (h.done before) action done ms (λ none. told_first t.0.sides past i tame) (λ n w. told_grown t.0.sides past n tame w);
              };
              asking = λ packet one serial generation injected q. record {
                managed = m.asking packet one serial generation injected q;
                owned = o.asking packet one serial generation injected q;
                done = λ hands.
                    let before = told_hands start i t.0.sides past tame hands.1 in
                    let note = said (notes.Sent serial generation (suc i) 0 packet.bytes) in
                    acts_written ready start i s h.owned.aimed h.owned.has past (h.managed.kept before) (h.done before) action done (note ∷ ms)
                    (λ none. goes_then (host_at past i) (host_at ms i) (host_at (note ∷ ms) i) (told_first t.0.sides past i tame)
                    (kept_first action (number_in packet.label) q.kind serial generation 0 packet.bytes ms i (told.line ∙ under) q.part (ap (λ x. x.injected serial) told.wire ∙ injected) none))
                    (λ n w. grown note ms n (told_grown t.0.sides past n tame w));
              };
            };
      }

  pub first_written : (line i initiators : ℕ) → i < initiators → Written ready start (said (notes.Begin initiators ready) ∷ asked line (events.Begin initiators ready) ∷ []) i (new_state i ready)
  first_written line i initiators b =
      let past = said (notes.Begin initiators ready) ∷ asked line (events.Begin initiators ready) ∷ [] in
      record {
        managed = first_managed start line initiators ready i b;
        owned = first_owned past i ready;
        done = λ hands r u e m f. none_is r (sym (first_none i ready) ∙ e);
      }
