-- The end of a transaction, and the core of the initiator's host.
use Rattle.sbp_world.proofs.Words.Std.{arith, ◌≡◌, refl, sym, ◌∙◌, ap, subst, ℕ, ◌==◌, not, Bool, true, false, cond, List, length, Option, Some, None, Result, Ok, Err, nat_tests}
use Rattle.sbp_world.proofs.Words.Wire.{Asked, Layer, asking_step, Moment, OutboxState, Operation, OpWord}
use Rattle.sbp_world.proofs.Words.Target.{RomFault, SbpUnit, Tree, reading, sbp_unit_of}
use Rattle.sbp_world.proofs.Words.Initiator.{PresentList, drop_lists, Seat, bad, conflict, goes, pointed, Ending, Pointing, Purpose, Running, InitiatorState, asked_quad, conflict_for, drop_list_step, drop_where, end_own_step, ended_for, ended_step, fail_step, fault_number, good_event, good_word, is_address, is_conflict, known_where, managed_step, next_quad, pointed_step, quad_got, response_of, state_told, with_answered, with_dead, with_request, with_rom, with_unit, ends_list, counts_for, is_list, is_unwritten, with_quad, management_at}
use Rattle.sbp_world.proofs.Words.Laws.{Session, session_ended}
use Rattle.sbp_world.proofs.Words.World.{own_core, session_in}
use Rattle.sbp_journal.specs.declared.note.Note.TheVariants as notes
use Rattle.sbp_journal.specs.declared.operation.Operation.TheVariants as operations
use Rattle.sbp_journal.specs.declared.operation.OpWord.TheVariants as words
use Rattle.sbp_session.specs.declared.seat.Seat.TheVariants as seats
use Rattle.sbp_initiator.specs.declared.purpose.Ending.TheVariants as endings
use Rattle.sbp_initiator.specs.declared.purpose.Purpose.TheVariants as purposes
use Rattle.sbp_initiator.proofs.Histories.Effects.{Fits, IsFor}
use Rattle.sbp_initiator.proofs.Histories.Purposes.{IfFor}
use Rattle.sbp_world.proofs.Hosts.Cores.{apart_core, op_told}
use Rattle.sbp_world.proofs.Hosts.Knowing.{Known, Stays, bad_agrees, conflict_agrees, drop_known, end_own_known, good_agrees, moved_known, pick_known, pick_state, seated, stays_error, stick_known, still_known, tell}
use Rattle.sbp_world.proofs.Lists.LiveMoves.{drop_operation}

-- an answer to an ORB_POINTER write leaves the session
pointed_session : (seat : Seat) → session_in (goes pointed seat) ≡ session_in seat
unfolding goes
pointed_session (seats.Out out) = refl
pointed_session (seats.Entering entering) = refl
pointed_session (seats.Live live) = refl
pointed_session (seats.Held response) = refl
pointed_session (seats.Returning response) = refl
pointed_session (seats.Leaving response) = refl
pointed_session (seats.Stuck origin) = refl

-- the operation of an action is this one, and a word leaves its session
stays_for : (operation : Operation) (word : OpWord) (act : ℕ) (found : Option Running) → ((session : Session) → session_ended operation word session ≡ session) → IsFor operation act found → Stays act word found
stays_for operation word act found e f = λ running is same session.
    let n : running.act ≡ act = grind (arith, nat_tests) in
    subst (λ (op : Operation). session_ended op word session ≡ session) (sym (f.same running is n)) (e session)

-- an ORB_POINTER that is answered for the present list was written
abbrev pub Points : Purpose → Option PresentList → Pointing → Type 0
Points (purposes.Pointer list) present pointing = is_list present list ≡ true → is_unwritten pointing ≡ false
Points _ present pointing = Unit {0}

module _ (past : List Moment) where
  answers_known : (list : ℕ) (o : OutboxState) (s : InitiatorState) (b : Bool) → is_list s.lists.slots.present list ≡ b → (b ≡ true → is_unwritten s.marks.pointing ≡ false) → Known past (o, s) → Known past (o, cond b (with_answered (record s { seat = goes pointed s.seat })) (record s { seat = goes pointed s.seat }))
  answers_known list o s true e w k =
      still_known past o o s (with_answered (record s { seat = goes pointed s.seat })) refl refl
      (ap (λ x. record (own_core s) { session = x; wrote_pointer = true }) (pointed_session s.seat) ∙ ap (λ (b : Bool). record (own_core s) { wrote_pointer = not b }) (sym (w refl)))
      k
  answers_known list o s false e w k =
      still_known past o o s (record s { seat = goes pointed s.seat }) refl refl (ap (λ x. seated x (own_core s)) (pointed_session s.seat)) k

  pointed_known : (list : ℕ) (o : OutboxState) (s : InitiatorState) → Points (purposes.Pointer list) s.lists.slots.present s.marks.pointing → Known past (o, s) → Known past (o, pointed_step list s)
  pointed_known list o s w k = answers_known list o s (is_list s.lists.slots.present list) refl w k

  fail_known : (act : ℕ) (o : OutboxState) (s : InitiatorState) → Known past (o, s) → Known past (fail_step act o s)
  fail_known act o s k =
      let t = end_own_step act words.Error o s in stick_known past t.0 t.1 (end_own_known past act words.Error o s (stays_error act s.operation) k)

  reset_known : (act : ℕ) (o : OutboxState) (s : InitiatorState) → IsFor operations.AgentReset act s.operation → Known past (o, s) → Known past (end_own_step act words.Done (drop_list_step o s).0 (drop_list_step o s).1)
  reset_known act o s f k =
      let d = drop_list_step o s in
      end_own_known past act words.Done d.0 d.1 (subst (λ (x : Option Running). Stays act words.Done x) (sym (drop_operation (drop_lists s.lists) o s)) (stays_for operations.AgentReset words.Done act s.operation (λ x. refl) f)) (drop_known past o s k)

  conflict_known : (found : Option Running) (act : ℕ) (o : OutboxState) (s : InitiatorState) → s.operation ≡ found → Known past (o, s) → Known past (conflict_for found act o s)
  conflict_known None act o s e k = k
  conflict_known (Some running) act o s e k =
      pick_known past (running.act == act) _ _ (λ f. moved_known past o s running e k words.Conflict conflict (conflict_agrees running.operation)) (λ f. k)

  -- ---- a status of a management ORB

  where_known : (b : Bool) (o : OutboxState) (s : InitiatorState) → Known past (o, s) → Known past (drop_where b o s)
  where_known true o s k = drop_known past o s k
  where_known false o s k = k

  where_operation : (b : Bool) (o : OutboxState) (s : InitiatorState) → (drop_where b o s).1.operation ≡ s.operation
  where_operation true o s = drop_operation (drop_lists s.lists) o s
  where_operation false o s = refl

  pub managed_known : (running : Running) (status : ℕ) (o : OutboxState) (s : InitiatorState) → s.operation ≡ Some running → Known past (o, s) → Known past (managed_step running status o s)
  managed_known running status o s e k =
      let b = ends_list (Some running.operation) in
      let d = drop_where b o s in
      pick_known past (status == 0) _ _
      (λ f. moved_known past d.0 d.1 running (where_operation b o s ∙ e) (where_known b o s k) (good_word running.operation (response_of running d.1)) (good_event running.operation (response_of running d.1)) (good_agrees running.operation (response_of running d.1)))
      (λ f. moved_known past o s running e k (words.Refused status) bad (bad_agrees running.operation status))

  -- ---- the target's ROM

  module _ (act : ℕ) where
    unit_known : (unit : Option SbpUnit) (o : OutboxState) (s : InitiatorState) → IsFor operations.Rom act s.operation → Known past (o, s) → Known past (with_unit unit act o s)
    unit_known None o s f k = end_own_known past act words.NoUnit o s (stays_for operations.Rom words.NoUnit act s.operation (λ x. refl) f) k
    unit_known (Some unit) o s f k =
        let u = record s { management = Some (management_at unit.management) } in
        end_own_known past act words.Done o u (stays_for operations.Rom words.Done act s.operation (λ x. refl) f) (still_known past o o s u refl refl refl k)

    rom_known : (r : Result Tree RomFault) (o : OutboxState) (s : InitiatorState) → IsFor operations.Rom act s.operation → Known past (o, s) → Known past (with_rom r act o s)
    rom_known (Ok tree) o s f k = unit_known (sbp_unit_of tree.blocks tree.entries) o s f k
    rom_known (Err fault) o s f k = end_own_known past act (words.Bad (fault_number fault)) o s (stays_for operations.Rom (words.Bad (fault_number fault)) act s.operation (λ x. refl) f) k

    asked_known : (r : Option Asked × Layer Purpose) (o : OutboxState) (s : InitiatorState) → Known past (o, s) → Known past (asked_quad r act o s)
    asked_known (Some asked, layer) o s k = still_known past o (with_request o s.target asked) s (record s { layer = layer }) refl refl refl k
    asked_known (None, layer) o s k =
        let u = record s { layer = layer } in end_own_known past act words.Error o u (stays_error act s.operation) (still_known past o o s u refl refl refl k)

    quad_known : (o : OutboxState) (s : InitiatorState) → IsFor operations.Rom act s.operation → Known past (o, s) → Known past (quad_got act o s)
    quad_known o s f k =
        pick_known past (length s.quads == 256) _ _ (λ e. rom_known (reading s.quads) o s f k) (λ e. asked_known (asking_step s.layer s.target (next_quad s.quads) (purposes.Rom act)) o s k)

  -- ---- the state of the agent

  state_known : (act : ℕ) (word : OpWord) (o : OutboxState) (s : InitiatorState) → Known past (o, s) → Known past (state_told act word o s)
  state_known act word o s k =
      tell past (notes.Op s.number operations.State word) o s (state_told act word o s).1 (λ x. x) refl refl (λ ms. op_told operations.State word ms s.number)
      (λ ms j f. apart_core (notes.Op s.number operations.State word) ms j (ap not f)) (λ ms. refl) k.sits k

  tells_known : (b : Bool) (value : ℕ) (o : OutboxState) (s : InitiatorState) → Known past (o, s) → Known past (known_where b value o s)
  tells_known true value o s k =
      pick_known past (value == 0) _ _ (λ e. drop_known past o s k) (λ e. pick_state past (value == 3) o (with_dead s) s (still_known past o o s (with_dead s) refl refl refl k) k)
  tells_known false value o s k = k

  -- ---- by what the transaction was for

  pub ended_known : (purpose : Purpose) (ending : Ending) (o : OutboxState) (s : InitiatorState) → Fits purpose s.operation → Points purpose s.lists.slots.present s.marks.pointing → Known past (o, s) → Known past (ended_step purpose ending o s)
  unfolding ended_step
  ended_known (purposes.Pointer list) (endings.Complete value) o s f w k = pointed_known list o s w k
  ended_known (purposes.Pointer list) (endings.Refused rcode) o s f w k = stick_known past o s k
  ended_known (purposes.Pointer list) endings.Expired o s f w k = stick_known past o s k
  ended_known purposes.Doorbell (endings.Complete value) o s f w k = k
  ended_known purposes.Doorbell (endings.Refused rcode) o s f w k = stick_known past o s k
  ended_known purposes.Doorbell endings.Expired o s f w k = stick_known past o s k
  ended_known (purposes.AgentReset act) (endings.Complete value) o s f w k = reset_known act o s f k
  ended_known (purposes.AgentReset act) (endings.Refused rcode) o s f w k = fail_known act o s k
  ended_known (purposes.AgentReset act) endings.Expired o s f w k = fail_known act o s k
  ended_known (purposes.Enable act) (endings.Complete value) o s f w k = end_own_known past act words.Done o s (stays_for operations.Enable words.Done act s.operation (λ x. refl) f) k
  ended_known (purposes.Enable act) (endings.Refused rcode) o s f w k = fail_known act o s k
  ended_known (purposes.Enable act) endings.Expired o s f w k = fail_known act o s k
  ended_known (purposes.Management act) (endings.Complete value) o s f w k = k
  ended_known (purposes.Management act) (endings.Refused rcode) o s f w k =
      pick_known past (is_conflict rcode) _ _ (λ e. conflict_known s.operation act o s refl k) (λ e. fail_known act o s k)
  ended_known (purposes.Management act) endings.Expired o s f w k = fail_known act o s k
  ended_known (purposes.Rom act) (endings.Complete value) o s f w k =
      let u = record s { quads = with_quad s.quads value } in quad_known act o u f (still_known past o o s u refl refl refl k)
  ended_known (purposes.Rom act) (endings.Refused rcode) o s f w k =
      pick_known past (is_address rcode) _ _ (λ e. rom_known act (reading s.quads) o s f k) (λ e. end_own_known past act words.Error o s (stays_error act s.operation) k)
  ended_known (purposes.Rom act) endings.Expired o s f w k = end_own_known past act words.Error o s (stays_error act s.operation) k
  ended_known (purposes.State act list) (endings.Complete value) o s f w k =
      let d = known_where (counts_for s.lists.slots.present list) value o s in
      state_known act (words.State value) d.0 d.1 (tells_known (counts_for s.lists.slots.present list) value o s k)
  ended_known (purposes.State act list) (endings.Refused rcode) o s f w k = state_known act words.Error o s k
  ended_known (purposes.State act list) endings.Expired o s f w k = state_known act words.Error o s k

  pub for_known : (purpose : Option Purpose) (ending : Ending) (o : OutboxState) (s : InitiatorState) → IfFor (λ p. Fits p s.operation × Points p s.lists.slots.present s.marks.pointing) purpose → Known past (o, s) → Known past (ended_for purpose ending o s)
  for_known None ending o s f k = k
  for_known (Some purpose) ending o s f k = ended_known purpose ending o s f.0 f.1 k
