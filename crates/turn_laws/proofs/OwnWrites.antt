-- What the end of a write tells at an initiator is what the laws say of its operation, its list and its session: one lemma for each purpose of a write.
use Rattle.std.proofs.Common.{[], ◌&&◌, ◌==◌, Bool, None, Option, Some, ap, cond, false, not, refl, sym, true, ℕ, ◌++◌, ◌∙◌, ◌∷◌, ◌≡◌}
use Rattle.orb_layout.specs.Replies.{Answer, Done, Expired, NoLabel, Payload, Refused}
use Rattle.orb_list.specs.Lists.{ListState, drop_lists}
use Rattle.sbp_initiator.specs.Effects.{Turn, conflict_for, conflict_step, doorbell_ended, drop_list_step, dropped_as, enable_ended, end_own_for, end_own_step, end_step, fail_step, management_ended, moved, moves_session, pointer_ended, reset_ended, stick_step, told}
use Rattle.sbp_initiator.specs.States.{is_own}
use Rattle.sbp_initiator.specs.declared.purpose.Ending.{Ending}
use Rattle.sbp_initiator.specs.declared.purpose.Ending.TheVariants as endings
use Rattle.sbp_initiator.specs.declared.purpose.Running.{Running}
use Rattle.sbp_initiator.specs.declared.state.InitiatorState.{InitiatorState}
use Rattle.sbp_journal.specs.Addresses.{Access}
use Rattle.sbp_journal.specs.Outgoings.{OutboxState}
use Rattle.sbp_journal.specs.declared.note.Note.TheVariants as notes
use Rattle.sbp_journal.specs.declared.operation.OpWord.{OpWord}
use Rattle.sbp_journal.specs.declared.operation.OpWord.TheVariants as words
use Rattle.sbp_journal.specs.declared.operation.Operation.{Operation}
use Rattle.sbp_journal.specs.declared.operation.Operation.TheVariants as operations
use Rattle.sbp_laws.specs.Hosts.{Host, Underway, is_latest, is_management, is_stuck}
use Rattle.sbp_laws.specs.OnceLaw.{is_write_in}
use Rattle.sbp_laws.specs.Operations.{End, drop_note, end_notes, ends_as, gets_stuck, is_failure, is_management_write, operation_answered, or_end, read_ends, reply_notes, request_answered, stuck_note, write_answered}
use Rattle.sbp_session.specs.Moves as moves
use Rattle.sbp_session.specs.Seats.{is_stuck_seat}
use Rattle.sbp_world.proofs.Common.{equal, untrue}
use Rattle.turn_laws.proofs.KindNotes.{none_behind}
use Rattle.turn_laws.proofs.OwnAgentReads.{none_answered}
use Rattle.turn_laws.proofs.OwnAnswers.{write_answer}
use Rattle.turn_laws.proofs.OwnEnds.{Says, drop_says, dropped_number, own, says_as, then_says}
use Rattle.turn_laws.proofs.OwnRoms.{AreApart, none_reads, or_none}

-- ---- the operation under way, and the request that a transaction was for

-- the operation is that of this action, and by the terms its latest request is this one
pub record Mine (act serial : ℕ) (operation : Option Running) (host : Host) : Type 0 where
  pub running : Running
  pub underway : Underway
  pub is : operation ≡ Some running
  pub begun : (running.act == act) ≡ true
  pub at : host.operation ≡ Some underway
  pub latest : (underway.latest == serial) ≡ true
  pub same : underway.operation ≡ running.operation

-- so it is, or neither
pub data Under (act serial : ℕ) (operation : Option Running) (host : Host) : Type 0 where
  mine : Mine act serial operation host → Under act serial operation host
  others : is_own act operation ≡ false → is_latest host.operation serial ≡ false → Under act serial operation host

none_ends : (operation : Option Running) (act : ℕ) (word : OpWord) (o : OutboxState) (s : InitiatorState) → is_own act operation ≡ false → end_own_for operation act word o s ≡ (o, s)
none_ends None act word o s e = refl
none_ends (Some running) act word o s e = ap (λ b. cond b (end_step running.operation word o s) (o, s)) e

none_conflicts : (operation : Option Running) (act : ℕ) (o : OutboxState) (s : InitiatorState) → is_own act operation ≡ false → conflict_for operation act o s ≡ (o, s)
none_conflicts None act o s e = refl
none_conflicts (Some running) act o s e = ap (λ b. cond b (end_step running.operation words.Conflict o (moved running.operation moves.conflict s)) (o, s)) e

mine_answered : (operation : Option Underway) (underway : Underway) (serial : ℕ) (answer : Answer) (host : Host) → operation ≡ Some underway → (underway.latest == serial) ≡ true → operation_answered operation serial answer host ≡ request_answered underway.operation answer host
mine_answered operation underway serial answer host e f =
    ap (λ u. operation_answered u serial answer host) e ∙ ap (λ b. cond b (request_answered underway.operation answer host) None) f

manages_alike : (operation : Operation) (answer : Answer) (host : Host) → is_management operation ≡ true → request_answered operation answer host ≡ write_answered operation answer
manages_alike operations.Rom answer host e = untrue e
manages_alike operations.AgentReset answer host e = untrue e
manages_alike operations.State answer host e = untrue e
manages_alike operations.Enable answer host e = untrue e
manages_alike operations.Login answer host e = refl
manages_alike operations.Query answer host e = refl
manages_alike operations.Reconnect answer host e = refl
manages_alike operations.Logout answer host e = refl
manages_alike operations.Abort answer host e = refl
manages_alike operations.AbortSet answer host e = refl
manages_alike operations.UnitReset answer host e = refl
manages_alike operations.TargetReset answer host e = refl

-- ---- what is told

says_none : (o : OutboxState) (s : InitiatorState) → Says o (o, s) []
says_none o s = sym (none_behind o.sides)

stick_by : (b : Bool) (o : OutboxState) (n : ℕ) → (cond b o (told o (notes.Stuck n))).sides ≡ o.sides ++ own (stuck_note n (not b))
stick_by true o n = sym (none_behind o.sides)
stick_by false o n = refl

stick_says : (o : OutboxState) (s : InitiatorState) → Says o (stick_step o s) (stuck_note s.number (not (is_stuck_seat s.seat)))
stick_says o s = stick_by (is_stuck_seat s.seat) o s.number

dropped_operation : (r : Option ℕ × ListState) (o : OutboxState) (s : InitiatorState) → (dropped_as r o s).1.operation ≡ s.operation
dropped_operation (None, lists) o s = refl
dropped_operation (Some n, lists) o s = refl

-- an operation that ends leaves the session
record Leaves (t : Turn) (s : InitiatorState) : Type 0 where
  seat : t.1.seat ≡ s.seat
  number : t.1.number ≡ s.number

end_leaves : (operation : Option Running) (act : ℕ) (word : OpWord) (o : OutboxState) (s : InitiatorState) → Leaves (end_own_for operation act word o s) s
end_leaves None act word o s = record { seat = refl; number = refl }
end_leaves (Some running) act word o s = by (running.act == act)
  where
    by : (b : Bool) → Leaves (cond b (end_step running.operation word o s) (o, s)) s
    by true = record { seat = refl; number = refl }
    by false = record { seat = refl; number = refl }

-- ---- whether the session becomes stuck

-- the request is a write, and where conflict_error (4) answers it, it was one of MANAGEMENT_AGENT or not
pub record IsWrite (manager : Bool) (host : Host) (access : Option Access) (s : InitiatorState) (answer : Answer) : Type 0 where
  pub write : is_write_in access ≡ true
  pub to_manager : answer ≡ Refused 4 → is_management_write host access ≡ manager
  pub sticks : is_stuck host.session ≡ is_stuck_seat s.seat

refused_same : (rcode : ℕ) (b : Bool) → (rcode == 4) ≡ b → (x y : Bool) → (Refused rcode ≡ Refused 4 → x ≡ y) → is_failure (Refused rcode) x ≡ is_failure (Refused rcode) y
refused_same rcode true e x y f = ap (is_failure (Refused rcode)) (f (ap Refused (equal rcode 4 e)))
refused_same rcode false e x y f = plain x ∙ sym (plain y)
  where
    plain : (z : Bool) → is_failure (Refused rcode) z ≡ true
    plain true = ap not e
    plain false = refl

fails_same : (answer : Answer) (x y : Bool) → (answer ≡ Refused 4 → x ≡ y) → is_failure answer x ≡ is_failure answer y
fails_same Done x y f = refl
fails_same (Refused rcode) x y f = refused_same rcode (rcode == 4) refl x y f
fails_same (Payload bytes) x y f = refl
fails_same Expired x y f = refl
fails_same NoLabel x y f = refl

write_sticks : (manager : Bool) (host : Host) (access : Option Access) (s : InitiatorState) (answer : Answer) → IsWrite manager host access s answer → gets_stuck host access answer ≡ (is_failure answer manager && not (is_stuck_seat s.seat))
write_sticks manager host access s answer w =
    ap (λ b. b && is_failure answer (is_management_write host access) && not (is_stuck host.session)) w.write
    ∙ ap (λ b. b && not (is_stuck host.session)) (fails_same answer (is_management_write host access) manager w.to_manager)
    ∙ ap (λ b. is_failure answer manager && not b) w.sticks

-- ---- the ends of writes, by their answers
module _ (serial : ℕ) (s : InitiatorState) (host : Host) (present : Option ℕ) (access : Option Access) (apart : AreApart serial host.reads) (o : OutboxState) where
  abbrev Due : Answer → Turn → Type 0
  Due answer t = Says o t (reply_notes s.number host present access serial answer)

  abbrev sticks : Bool
  sticks = not (is_stuck_seat s.seat)

  -- that something ends, and whether the session becomes stuck
  abbrev Tells : Option End → Bool → Turn → Type 0
  Tells end stuck t = Says o t (end_notes s.number end present ++ stuck_note s.number stuck)

  ended_as : (answer : Answer) (end : Option End) (stuck : Bool) → operation_answered host.operation serial answer host ≡ end → gets_stuck host access answer ≡ stuck → reply_notes s.number host present access serial answer ≡ end_notes s.number end present ++ stuck_note s.number stuck
  ended_as answer end stuck e f =
      ap (λ x. end_notes s.number (or_end x (read_ends host.reads serial answer present)) present ++ stuck_note s.number (gets_stuck host access answer)) e
      ∙ ap (λ x. end_notes s.number (or_end end x) present ++ stuck_note s.number (gets_stuck host access answer)) (none_reads host.reads serial answer present apart)
      ∙ ap (λ x. end_notes s.number x present ++ stuck_note s.number (gets_stuck host access answer)) (or_none end)
      ∙ ap (λ b. end_notes s.number end present ++ stuck_note s.number b) f

  due : (answer : Answer) (end : Option End) (stuck : Bool) (t : Turn) → operation_answered host.operation serial answer host ≡ end → gets_stuck host access answer ≡ stuck → Tells end stuck t → Due answer t
  due answer end stuck t e f h = says_as o t (end_notes s.number end present ++ stuck_note s.number stuck) _ (sym (ended_as answer end stuck e f)) h

  -- of no operation: nothing, or that it becomes stuck
  silent_due : (answer : Answer) → is_latest host.operation serial ≡ false → gets_stuck host access answer ≡ false → Due answer (o, s)
  silent_due answer l e = due answer None false (o, s) (none_answered host.operation serial answer host l) e (says_none o s)

  sticks_due : (answer : Answer) → is_latest host.operation serial ≡ false → gets_stuck host access answer ≡ sticks → Due answer (stick_step o s)
  sticks_due answer l e = due answer None sticks (stick_step o s) (none_answered host.operation serial answer host l) e (stick_says o s)

  -- ---- a write of ORB_POINTER or of DOORBELL
  module _ (latest : is_latest host.operation serial ≡ false) where
    pub pointer_due : (list : ℕ) (ending : Ending) → IsWrite false host access s (write_answer ending) → Due (write_answer ending) (pointer_ended list ending o s)
    pointer_due list (endings.Complete value) w = silent_due Done latest (write_sticks false host access s Done w)
    pointer_due list (endings.Refused rcode) w = sticks_due (Refused rcode) latest (write_sticks false host access s (Refused rcode) w)
    pointer_due list endings.Expired w = sticks_due Expired latest (write_sticks false host access s Expired w)

    pub doorbell_due : (ending : Ending) → IsWrite false host access s (write_answer ending) → Due (write_answer ending) (doorbell_ended ending o s)
    doorbell_due (endings.Complete value) w = silent_due Done latest (write_sticks false host access s Done w)
    doorbell_due (endings.Refused rcode) w = sticks_due (Refused rcode) latest (write_sticks false host access s (Refused rcode) w)
    doorbell_due endings.Expired w = sticks_due Expired latest (write_sticks false host access s Expired w)

  -- ---- a write of an operation
  module _ (act : ℕ) where
    -- it ends
    op_says : (m : Mine act serial s.operation host) (word : OpWord) (p : OutboxState) (u : InitiatorState) → u.operation ≡ s.operation → u.number ≡ s.number → Says p (end_own_step act word p u) (notes.Op s.number m.underway.operation word ∷ [])
    op_says m word p u same number =
        ap (λ (r : Option Running). (end_own_for r act word p u).0.sides) (same ∙ m.is)
        ∙ ap (λ b. (cond b (end_step m.running.operation word p u) (p, u)).0.sides) m.begun
        ∙ ap (λ n. p.sides ++ own (notes.Op n m.running.operation word ∷ [])) number
        ∙ ap (λ x. p.sides ++ own (notes.Op s.number x word ∷ [])) (sym m.same)

    mine_due : (answer : Answer) (m : Mine act serial s.operation host) (end : Option End) (stuck : Bool) (t : Turn) → request_answered m.underway.operation answer host ≡ end → gets_stuck host access answer ≡ stuck → Tells end stuck t → Due answer t
    mine_due answer m end stuck t e f h = due answer end stuck t (mine_answered host.operation m.underway serial answer host m.at m.latest ∙ e) f h

    -- with an error, and the session becomes stuck
    fails_mine : (m : Mine act serial s.operation host) → Says o (fail_step act o s) (notes.Op s.number m.underway.operation words.Error ∷ stuck_note s.number sticks)
    fails_mine m =
        let t = end_own_step act words.Error o s in
        let k = end_leaves s.operation act words.Error o s in
        then_says o t (stick_step t.0 t.1) (notes.Op s.number m.underway.operation words.Error ∷ []) (stuck_note s.number sticks)
        (op_says m words.Error o s refl refl)
        (says_as t.0 (stick_step t.0 t.1) _ _ (ap (λ x. stuck_note t.1.number (not (is_stuck_seat x))) k.seat ∙ ap (λ n. stuck_note n sticks) k.number) (stick_says t.0 t.1))

    fail_due : (answer : Answer) (u : Under act serial s.operation host) → ((m : Mine act serial s.operation host) → request_answered m.underway.operation answer host ≡ ends_as m.underway.operation words.Error false) → gets_stuck host access answer ≡ sticks → Due answer (fail_step act o s)
    fail_due answer (mine m) e f = mine_due answer m (ends_as m.underway.operation words.Error false) sticks (fail_step act o s) (e m) f (fails_mine m)
    fail_due answer (others away l) e f =
        due answer None sticks (fail_step act o s) (none_answered host.operation serial answer host l) f
        (ap (λ (t : Turn). (stick_step t.0 t.1).0.sides) (none_ends s.operation act words.Error o s away) ∙ stick_says o s)

    -- ---- AGENT_RESET
    pub reset_due : (m : Mine act serial s.operation host) → m.underway.operation ≡ operations.AgentReset → (drop_lists s.lists).0 ≡ present → (ending : Ending) → IsWrite false host access s (write_answer ending) → Due (write_answer ending) (reset_ended act ending o s)
    reset_due m is drops (endings.Complete value) w =
        let t = drop_list_step o s in
        mine_due Done m (ends_as m.underway.operation words.Done true) false (reset_ended act (endings.Complete value) o s)
        (ap (λ x. request_answered x Done host) is ∙ ap (λ x. ends_as x words.Done true) (sym is)) (write_sticks false host access s Done w)
        (says_as o (reset_ended act (endings.Complete value) o s) (drop_note s.number true present ++ (notes.Op s.number m.underway.operation words.Done ∷ [])) _
        (sym (none_behind (drop_note s.number true present ++ (notes.Op s.number m.underway.operation words.Done ∷ []))))
        (then_says o t (end_own_step act words.Done t.0 t.1) (drop_note s.number true present) (notes.Op s.number m.underway.operation words.Done ∷ []) (drop_says present s drops o)
        (op_says m words.Done t.0 t.1 (dropped_operation (drop_lists s.lists) o s) (dropped_number (drop_lists s.lists) o s))))
    reset_due m is drops (endings.Refused rcode) w =
        mine_due (Refused rcode) m (ends_as m.underway.operation words.Error false) sticks (fail_step act o s) (ap (λ x. request_answered x (Refused rcode) host) is ∙ ap (λ x. ends_as x words.Error false) (sym is))
        (write_sticks false host access s (Refused rcode) w) (fails_mine m)
    reset_due m is drops endings.Expired w =
        mine_due Expired m (ends_as m.underway.operation words.Error false) sticks (fail_step act o s) (ap (λ x. request_answered x Expired host) is ∙ ap (λ x. ends_as x words.Error false) (sym is))
        (write_sticks false host access s Expired w) (fails_mine m)

    -- ---- UNSOLICITED_STATUS_ENABLE
    pub enable_due : (u : Under act serial s.operation host) → ((m : Mine act serial s.operation host) → m.underway.operation ≡ operations.Enable) → (ending : Ending) → IsWrite false host access s (write_answer ending) → Due (write_answer ending) (enable_ended act ending o s)
    enable_due (mine m) is (endings.Complete value) w =
        mine_due Done m (ends_as m.underway.operation words.Done false) false (enable_ended act (endings.Complete value) o s)
        (ap (λ x. request_answered x Done host) (is m) ∙ ap (λ x. ends_as x words.Done false) (sym (is m))) (write_sticks false host access s Done w) (op_says m words.Done o s refl refl)
    enable_due (others away l) is (endings.Complete value) w =
        due Done None false (enable_ended act (endings.Complete value) o s) (none_answered host.operation serial Done host l) (write_sticks false host access s Done w)
        (ap (λ (t : Turn). t.0.sides) (none_ends s.operation act words.Done o s away) ∙ says_none o s)
    enable_due u is (endings.Refused rcode) w =
        fail_due (Refused rcode) u (λ m. ap (λ x. request_answered x (Refused rcode) host) (is m) ∙ ap (λ x. ends_as x words.Error false) (sym (is m))) (write_sticks false host access s (Refused rcode) w)
    enable_due u is endings.Expired w =
        fail_due Expired u (λ m. ap (λ x. request_answered x Expired host) (is m) ∙ ap (λ x. ends_as x words.Error false) (sym (is m))) (write_sticks false host access s Expired w)

    -- ---- MANAGEMENT_AGENT
    module _ (u : Under act serial s.operation host) (manages : (m : Mine act serial s.operation host) → is_management m.underway.operation ≡ true) where
      conflict_says : (m : Mine act serial s.operation host) → Says o (conflict_step act o s) (notes.Op s.number m.underway.operation words.Conflict ∷ [])
      conflict_says m =
          ap (λ (r : Option Running). (conflict_for r act o s).0.sides) m.is
          ∙ ap (λ b. (cond b (end_step m.running.operation words.Conflict o (moved m.running.operation moves.conflict s)) (o, s)).0.sides) m.begun
          ∙ ap (λ n. o.sides ++ own (notes.Op n m.running.operation words.Conflict ∷ [])) (moved_number (moves_session m.running.operation))
          ∙ ap (λ x. o.sides ++ own (notes.Op s.number x words.Conflict ∷ [])) (sym m.same)
        where
          moved_number : (b : Bool) → (cond b (record s { seat = moves.goes moves.conflict s.seat }) s).number ≡ s.number
          moved_number true = refl
          moved_number false = refl

      conflict_by : (rcode : ℕ) → (rcode == 4) ≡ true → gets_stuck host access (Refused rcode) ≡ false → (x : Under act serial s.operation host) → Due (Refused rcode) (conflict_step act o s)
      conflict_by rcode e f (mine m) =
          mine_due (Refused rcode) m (ends_as m.underway.operation words.Conflict false) false (conflict_step act o s)
          (manages_alike m.underway.operation (Refused rcode) host (manages m) ∙ ap (λ b. ends_as m.underway.operation (cond b words.Conflict words.Error) false) e) f (conflict_says m)
      conflict_by rcode e f (others away l) =
          due (Refused rcode) None false (conflict_step act o s) (none_answered host.operation serial (Refused rcode) host l) f
          (ap (λ (t : Turn). t.0.sides) (none_conflicts s.operation act o s away) ∙ says_none o s)

      refused_by : (rcode : ℕ) (b : Bool) → (rcode == 4) ≡ b → gets_stuck host access (Refused rcode) ≡ (not b && sticks) → Due (Refused rcode) (cond b (conflict_step act o s) (fail_step act o s))
      refused_by rcode true e f = conflict_by rcode e f u
      refused_by rcode false e f =
          fail_due (Refused rcode) u (λ m. manages_alike m.underway.operation (Refused rcode) host (manages m) ∙ ap (λ b. ends_as m.underway.operation (cond b words.Conflict words.Error) false) e) f

      done_by : (x : Under act serial s.operation host) → gets_stuck host access Done ≡ false → Due Done (o, s)
      done_by (mine m) f = mine_due Done m None false (o, s) (manages_alike m.underway.operation Done host (manages m)) f (says_none o s)
      done_by (others away l) f = silent_due Done l f

      pub management_due : (ending : Ending) → IsWrite true host access s (write_answer ending) → Due (write_answer ending) (management_ended act ending o s)
      management_due (endings.Complete value) w = done_by u (write_sticks true host access s Done w)
      management_due (endings.Refused rcode) w = refused_by rcode (rcode == 4) refl (write_sticks true host access s (Refused rcode) w)
      management_due endings.Expired w = fail_due Expired u (λ m. manages_alike m.underway.operation Expired host (manages m)) (write_sticks true host access s Expired w)
