-- What the end of a transaction and a status block make of an initiator's session and of its operation under way. Either both stay, but for whether an
-- ORB_POINTER write is under way and for a session that becomes stuck; or an operation that moves no session ends; or the session is stuck and none is under way; or
-- the operation of the session ends, by a status block of its ORB or by a conflict_error.
use Rattle.sbp_world.proofs.Words.Std.{arith, ◌≡◌, ◌∙◌, refl, sym, ap, ℕ, ◌==◌, nat_eq, Bool, true, false, cond, List, Option, Some, None, Result, Ok, Err, nat_tests, false≢true}
use Rattle.sbp_world.proofs.Words.Wire.{Asked, Layer, asking_step, Operation, OpWord, OutboxState}
use Rattle.sbp_world.proofs.Words.Target.{RomFault, SbpUnit, Tree, reading, sbp_unit_of}
use Rattle.sbp_world.proofs.Words.Initiator.{management_at, with_quad, ListState, drop_lists, Ending, Purpose, Running, InitiatorState, Turn, ask_quad, asked_quad, conflict_for, drop_list_step, drop_where, dropped_as, end_own_for, end_own_step, end_step, ended_for, ended_step, fail_step, fault_number, finish_rom, good_event, good_word, is_address, is_conflict, known_where, managed_step, moved, moves_session, next_quad, pointed_step, quad_got, response_of, state_told, stick_step, then_step, with_answered, with_dead, with_rom, with_unit, ends_list, counts_for, is_list, Seat, Event, bad, conflict, failed, goes, pointed, pointing, is_stuck_seat}
use Rattle.sbp_initiator.proofs.Histories.Effects.{Fits, IsFor}
use Rattle.sbp_initiator.proofs.Histories.Purposes.{IfFor}
use Rattle.sbp_initiator.specs.declared.purpose.Ending.TheVariants as endings
use Rattle.sbp_initiator.specs.declared.purpose.Purpose.TheVariants as purposes
use Rattle.sbp_journal.specs.declared.operation.Operation.TheVariants as operations
use Rattle.sbp_journal.specs.declared.operation.OpWord.TheVariants as words
use Rattle.sbp_session.specs.declared.seat.Seat.TheVariants as seats
use Rattle.sbp_world.proofs.Sessions.Sessions.{drop_seat}
use Rattle.sbp_world.proofs.Lists.LiveStandings.{stand_of}

-- a session stands as another, and is stuck where that is
pub record IsLike (before now : Seat) : Type 0 where
  pub stand : stand_of now ≡ stand_of before
  pub stuck : is_stuck_seat before ≡ true → is_stuck_seat now ≡ true

pub like_self : (seat : Seat) → IsLike seat seat
like_self seat = record { stand = refl; stuck = λ e. e }

pub like_then : (one two three : Seat) → IsLike one two → IsLike two three → IsLike one three
like_then one two three a b = record { stand = b.stand ∙ a.stand; stuck = λ e. b.stuck (a.stuck e) }

pub like_same : (before now : Seat) → now ≡ before → IsLike before now
like_same before now e = record { stand = ap stand_of e; stuck = λ s. ap is_stuck_seat e ∙ s }

pub like_pointing : (seat : Seat) → IsLike seat (goes pointing seat)
unfolding goes
like_pointing (seats.Out out) = record { stand = refl; stuck = λ e. e }
like_pointing (seats.Entering entering) = record { stand = refl; stuck = λ e. e }
like_pointing (seats.Live live) = record { stand = refl; stuck = λ e. e }
like_pointing (seats.Held response) = record { stand = refl; stuck = λ e. e }
like_pointing (seats.Returning response) = record { stand = refl; stuck = λ e. e }
like_pointing (seats.Leaving response) = record { stand = refl; stuck = λ e. e }
like_pointing (seats.Stuck origin) = record { stand = refl; stuck = λ e. e }

like_pointed : (seat : Seat) → IsLike seat (goes pointed seat)
unfolding goes
like_pointed (seats.Out out) = record { stand = refl; stuck = λ e. e }
like_pointed (seats.Entering entering) = record { stand = refl; stuck = λ e. e }
like_pointed (seats.Live live) = record { stand = refl; stuck = λ e. e }
like_pointed (seats.Held response) = record { stand = refl; stuck = λ e. e }
like_pointed (seats.Returning response) = record { stand = refl; stuck = λ e. e }
like_pointed (seats.Leaving response) = record { stand = refl; stuck = λ e. e }
like_pointed (seats.Stuck origin) = record { stand = refl; stuck = λ e. e }

-- a session whose write failed
record Fails (seat : Seat) : Type 0 where
  like : IsLike seat (goes failed seat)
  stuck : is_stuck_seat (goes failed seat) ≡ true

fails_at : (seat : Seat) → Fails seat
unfolding goes
fails_at (seats.Out out) = record { like = record { stand = refl; stuck = λ e. refl }; stuck = refl }
fails_at (seats.Entering entering) = record { like = record { stand = refl; stuck = λ e. refl }; stuck = refl }
fails_at (seats.Live live) = record { like = record { stand = refl; stuck = λ e. refl }; stuck = refl }
fails_at (seats.Held response) = record { like = record { stand = refl; stuck = λ e. refl }; stuck = refl }
fails_at (seats.Returning response) = record { like = record { stand = refl; stuck = λ e. refl }; stuck = refl }
fails_at (seats.Leaving response) = record { like = record { stand = refl; stuck = λ e. refl }; stuck = refl }
fails_at (seats.Stuck origin) = record { like = record { stand = refl; stuck = λ e. refl }; stuck = refl }

-- the move of a status block of an operation's ORB
abbrev pub told_event : Operation → (status : ℕ) → List ℕ → Event
told_event operation status response = cond (status == 0) (good_event operation response) bad

-- What an initiator that was in a state is left with: Answered is known of a status block, and Undone of a conflict_error.
pub data Moved (s : InitiatorState) (Answered : Running → ℕ → Type 0) (Undone : Running → Type 0) (operation : Option Running) (seat : Seat) : Type 0 where
  rests : operation ≡ s.operation → IsLike s.seat seat → Moved s Answered Undone operation seat
  gives_up : operation ≡ None → is_stuck_seat seat ≡ true → Moved s Answered Undone operation seat
  ends : (running : Running) → s.operation ≡ Some running → moves_session running.operation ≡ false → operation ≡ None → seat ≡ s.seat → Moved s Answered Undone operation seat
  answers : (running : Running) (status : ℕ) → s.operation ≡ Some running → moves_session running.operation ≡ true → Answered running status → operation ≡ None → seat ≡ goes (told_event running.operation status (response_of running s)) s.seat → Moved s Answered Undone operation seat
  undoes : (running : Running) → s.operation ≡ Some running → moves_session running.operation ≡ true → Undone running → operation ≡ None → seat ≡ goes conflict s.seat → Moved s Answered Undone operation seat

pub drop_operation : (r : Option ℕ × ListState) (o : OutboxState) (s : InitiatorState) → (dropped_as r o s).1.operation ≡ s.operation
drop_operation (None, lists) o s = refl
drop_operation (Some n, lists) o s = refl

module _ (s : InitiatorState) (Answered : Running → ℕ → Type 0) (Undone : Running → Type 0) where
  abbrev pub At : Turn → Type 0
  At t = Moved s Answered Undone t.1.operation t.1.seat

  -- both are as they were
  record Same (u : InitiatorState) : Type 0 where
    operation : u.operation ≡ s.operation
    seat : u.seat ≡ s.seat

  pub pick : (b : Bool) (x y : Turn) → (b ≡ true → At x) → (b ≡ false → At y) → At (cond b x y)
  pick true x y h k = h refl
  pick false x y h k = k refl

  pick_state : (b : Bool) (x y : InitiatorState) → Moved s Answered Undone x.operation x.seat → Moved s Answered Undone y.operation y.seat → Moved s Answered Undone (cond b x y).operation (cond b x y).seat
  pick_state true x y h k = h
  pick_state false x y h k = k

  stays_at : (u : InitiatorState) → Same u → Moved s Answered Undone u.operation u.seat
  stays_at u h = rests h.operation (like_same s.seat u.seat h.seat)

  sticks : (o : OutboxState) (u : InitiatorState) → Same u → At (stick_step o u)
  sticks o u h = rests h.operation (like_then s.seat u.seat (goes failed u.seat) (like_same s.seat u.seat h.seat) (fails_at u.seat).like)

  drops : (o : OutboxState) (u : InitiatorState) → Same u → Same (drop_list_step o u).1
  drops o u h = record { operation = drop_operation (drop_lists u.lists) o u ∙ h.operation; seat = drop_seat (drop_lists u.lists) o u ∙ h.seat }

  -- an operation that moves no session ends where an action began it
  owns_for : (operation : Operation) → moves_session operation ≡ false → (found : Option Running) (act : ℕ) (word : OpWord) (o : OutboxState) (u : InitiatorState) → found ≡ s.operation → IsFor operation act s.operation → Same u → At (end_own_for found act word o u)
  owns_for operation m None act word o u e f h = stays_at u h
  owns_for operation m (Some running) act word o u e f h =
      pick (running.act == act) (end_step running.operation word o u) (o, u)
      (λ b. (let n : running.act ≡ act = grind (arith, nat_tests) in ends running (sym e) (ap moves_session (f.same running (sym e) n) ∙ m) refl h.seat))
      (λ b. stays_at u h)

  owns : (operation : Operation) → moves_session operation ≡ false → (act : ℕ) (word : OpWord) (o : OutboxState) (u : InitiatorState) → IsFor operation act s.operation → Same u → At (end_own_step act word o u)
  owns operation m act word o u f h = owns_for operation m u.operation act word o u h.operation f h

  fails_for : (found : Option Running) (act : ℕ) (o : OutboxState) (u : InitiatorState) → Same u → At (then_step stick_step (end_own_for found act words.Error o u))
  fails_for None act o u h = sticks o u h
  fails_for (Some running) act o u h = by (running.act == act)
    where
      by : (b : Bool) → At (then_step stick_step (cond b (end_step running.operation words.Error o u) (o, u)))
      by true = gives_up refl (fails_at u.seat).stuck
      by false = sticks o u h

  fails : (act : ℕ) (o : OutboxState) (u : InitiatorState) → Same u → At (fail_step act o u)
  fails act o u h = fails_for u.operation act o u h

  -- ---- a conflict_error
  moved_seat : (operation : Operation) (event : Event) (u : InitiatorState) (b : Bool) → moves_session operation ≡ b → (moved operation event u).seat ≡ cond b (goes event u.seat) u.seat
  moved_seat operation event u true e = ap (λ c. (cond c (record u { seat = goes event u.seat }) u).seat) e
  moved_seat operation event u false e = ap (λ c. (cond c (record u { seat = goes event u.seat }) u).seat) e

  undone_by : (running : Running) (o : OutboxState) (u : InitiatorState) → s.operation ≡ Some running → Same u → Undone running → (b : Bool) → moves_session running.operation ≡ b → At (end_step running.operation words.Conflict o (moved running.operation conflict u))
  undone_by running o u is h x true m = undoes running is m x refl (moved_seat running.operation conflict u true m ∙ ap (goes conflict) h.seat)
  undone_by running o u is h x false m = ends running is m refl (moved_seat running.operation conflict u false m ∙ h.seat)

  conflicts_for : (found : Option Running) (act : ℕ) (o : OutboxState) (u : InitiatorState) → found ≡ s.operation → Same u → ((running : Running) → s.operation ≡ Some running → (running.act == act) ≡ true → Undone running) → At (conflict_for found act o u)
  conflicts_for None act o u e h x = stays_at u h
  conflicts_for (Some running) act o u e h x =
      pick (running.act == act) (end_step running.operation words.Conflict o (moved running.operation conflict u)) (o, u)
      (λ b. undone_by running o u (sym e) h (x running (sym e) b) (moves_session running.operation) refl)
      (λ b. stays_at u h)

  -- ---- a status block
  answered_by : (running : Running) (status : ℕ) (u v : InitiatorState) (event : Event) (word : OpWord) (o : OutboxState) → s.operation ≡ Some running → Same u → (moves_session running.operation ≡ true → event ≡ told_event running.operation status (response_of running s)) → Answered running status → (b : Bool) → moves_session running.operation ≡ b → At (end_step running.operation word o (moved running.operation event u))
  answered_by running status u v event word o is h e x true m =
      answers running status is m x refl (moved_seat running.operation event u true m ∙ ap (goes event) h.seat ∙ ap (λ (y : Event). goes y s.seat) (e m))
  answered_by running status u v event word o is h e x false m = ends running is m refl (moved_seat running.operation event u false m ∙ h.seat)

  -- what the good end of one that moves the session makes of it
  good_is : (running : Running) (operation : Operation) (o : OutboxState) (u : InitiatorState) → moves_session operation ≡ true → good_event operation (response_of running (drop_where (ends_list (Some operation)) o u).1) ≡ good_event operation (response_of running u)
  good_is running operations.Rom o u m = absurd (false≢true m)
  good_is running operations.Login o u m = refl
  good_is running operations.Query o u m = absurd (false≢true m)
  good_is running operations.Reconnect o u m = refl
  good_is running operations.Logout o u m = refl
  good_is running operations.Abort o u m = absurd (false≢true m)
  good_is running operations.AbortSet o u m = absurd (false≢true m)
  good_is running operations.UnitReset o u m = absurd (false≢true m)
  good_is running operations.TargetReset o u m = absurd (false≢true m)
  good_is running operations.AgentReset o u m = absurd (false≢true m)
  good_is running operations.State o u m = absurd (false≢true m)
  good_is running operations.Enable o u m = absurd (false≢true m)

  dropped_where : (b : Bool) (o : OutboxState) (u : InitiatorState) → Same u → Same (drop_where b o u).1
  dropped_where true o u h = drops o u h
  dropped_where false o u h = h

  pub manages : (running : Running) (status : ℕ) (o : OutboxState) (u : InitiatorState) → s.operation ≡ Some running → u.operation ≡ s.operation → u.seat ≡ s.seat → response_of running u ≡ response_of running s → Answered running status → At (managed_step running status o u)
  manages running status o u is same_operation same_seat same_response x =
      let h : Same u = record { operation = same_operation; seat = same_seat } in
      let d = drop_where (ends_list (Some running.operation)) o u in
      pick (status == 0) _ _
      (λ z. answered_by running status d.1 s (good_event running.operation (response_of running d.1)) (good_word running.operation (response_of running d.1)) d.0 is (dropped_where (ends_list (Some running.operation)) o u h)
      (λ m. good_is running running.operation o u m ∙ ap (good_event running.operation) same_response ∙ sym (ap (λ b. cond b (good_event running.operation (response_of running s)) bad) z)) x (moves_session running.operation) refl)
      (λ z. answered_by running status u s bad (words.Refused status) o is h
      (λ m. sym (ap (λ b. cond b (good_event running.operation (response_of running s)) bad) z)) x (moves_session running.operation) refl)

  -- ---- the target's ROM
  module _ (act : ℕ) (f : IsFor operations.Rom act s.operation) where
    unit_moved : (unit : Option SbpUnit) (o : OutboxState) (u : InitiatorState) → Same u → At (with_unit unit act o u)
    unit_moved None o u h = owns operations.Rom refl act words.NoUnit o u f h
    unit_moved (Some unit) o u h = owns operations.Rom refl act words.Done o (record u { management = Some (management_at unit.management) }) f (record { operation = h.operation; seat = h.seat })

    rom_moved : (r : Result Tree RomFault) (o : OutboxState) (u : InitiatorState) → Same u → At (with_rom r act o u)
    rom_moved (Ok tree) o u h = unit_moved (sbp_unit_of tree.blocks tree.entries) o u h
    rom_moved (Err fault) o u h = owns operations.Rom refl act (words.Bad (fault_number fault)) o u f h

    quad_asked : (r : Option Asked × Layer Purpose) (o : OutboxState) (u : InitiatorState) → Same u → At (asked_quad r act o u)
    quad_asked (Some asked, layer) o u h = rests h.operation (like_same s.seat u.seat h.seat)
    quad_asked (None, layer) o u h = owns operations.Rom refl act words.Error o (record u { layer = layer }) f (record { operation = h.operation; seat = h.seat })

    quad_moved : (o : OutboxState) (u : InitiatorState) → Same u → At (quad_got act o u)
    quad_moved o u h =
        pick (nat_eq _ 256) (finish_rom act o u) (ask_quad act o u) (λ b. rom_moved (reading u.quads) o u h) (λ b. quad_asked (asking_step u.layer u.target (next_quad u.quads) (purposes.Rom act)) o u h)

  -- ---- the state of the agent
  known_moved : (b : Bool) (value : ℕ) (o : OutboxState) (u : InitiatorState) → Same u → Same (known_where b value o u).1
  known_moved true value o u h = by (value == 0)
    where
      marked : (c : Bool) → Same (cond c (with_dead u) u)
      marked true = record { operation = h.operation; seat = h.seat }
      marked false = h

      by : (c : Bool) → Same (cond {A = Turn} c (drop_list_step o u) (o, cond (value == 3) (with_dead u) u)).1
      by true = drops o u h
      by false = marked (value == 3)
  known_moved false value o u h = h

  told_moved : (act : ℕ) (word : OpWord) (o : OutboxState) (u : InitiatorState) → Same u → At (state_told act word o u)
  told_moved act word o u h = rests h.operation (like_same s.seat u.seat h.seat)

  -- ---- by what the transaction was for
  pointed_moved : (list : ℕ) (o : OutboxState) (u : InitiatorState) → Same u → Moved s Answered Undone (pointed_step list u).operation (pointed_step list u).seat
  pointed_moved list o u h =
      let t = record u { seat = goes pointed u.seat } in
      let m : Moved s Answered Undone t.operation t.seat = rests h.operation (like_then s.seat u.seat (goes pointed u.seat) (like_same s.seat u.seat h.seat) (like_pointed u.seat)) in
      pick_state (is_list u.lists.slots.present list) (with_answered t) t m m

  ended_moved : (purpose : Purpose) (ending : Ending) (o : OutboxState) (u : InitiatorState) → Fits purpose s.operation → ((act rcode : ℕ) → purpose ≡ purposes.Management act → ending ≡ endings.Refused rcode → is_conflict rcode ≡ true → (running : Running) → s.operation ≡ Some running → (running.act == act) ≡ true → Undone running) → Same u → At (ended_step purpose ending o u)
  unfolding ended_step
  ended_moved (purposes.Pointer list) (endings.Complete value) o u f x h = pointed_moved list o u h
  ended_moved (purposes.Pointer list) (endings.Refused rcode) o u f x h = sticks o u h
  ended_moved (purposes.Pointer list) endings.Expired o u f x h = sticks o u h
  ended_moved purposes.Doorbell (endings.Complete value) o u f x h = stays_at u h
  ended_moved purposes.Doorbell (endings.Refused rcode) o u f x h = sticks o u h
  ended_moved purposes.Doorbell endings.Expired o u f x h = sticks o u h
  ended_moved (purposes.AgentReset act) (endings.Complete value) o u f x h = let d = drop_list_step o u in owns operations.AgentReset refl act words.Done d.0 d.1 f (drops o u h)
  ended_moved (purposes.AgentReset act) (endings.Refused rcode) o u f x h = fails act o u h
  ended_moved (purposes.AgentReset act) endings.Expired o u f x h = fails act o u h
  ended_moved (purposes.Enable act) (endings.Complete value) o u f x h = owns operations.Enable refl act words.Done o u f h
  ended_moved (purposes.Enable act) (endings.Refused rcode) o u f x h = fails act o u h
  ended_moved (purposes.Enable act) endings.Expired o u f x h = fails act o u h
  ended_moved (purposes.Management act) (endings.Complete value) o u f x h = stays_at u h
  ended_moved (purposes.Management act) (endings.Refused rcode) o u f x h =
      pick (is_conflict rcode) _ _ (λ b. conflicts_for u.operation act o u h.operation h (x act rcode refl refl b)) (λ b. fails act o u h)
  ended_moved (purposes.Management act) endings.Expired o u f x h = fails act o u h
  ended_moved (purposes.Rom act) (endings.Complete value) o u f x h = quad_moved act f o (record u { quads = with_quad u.quads value }) (record { operation = h.operation; seat = h.seat })
  ended_moved (purposes.Rom act) (endings.Refused rcode) o u f x h =
      pick (is_address rcode) _ _ (λ b. rom_moved act f (reading u.quads) o u h) (λ b. owns operations.Rom refl act words.Error o u f h)
  ended_moved (purposes.Rom act) endings.Expired o u f x h = owns operations.Rom refl act words.Error o u f h
  ended_moved (purposes.State act list) (endings.Complete value) o u f x h =
      let b = counts_for u.lists.slots.present list in
      let d = known_where b value o u in told_moved act (words.State value) d.0 d.1 (known_moved b value o u h)
  ended_moved (purposes.State act list) (endings.Refused rcode) o u f x h = told_moved act words.Error o u h
  ended_moved (purposes.State act list) endings.Expired o u f x h = told_moved act words.Error o u h

  pub for_moved : (purpose : Option Purpose) (ending : Ending) (o : OutboxState) (u : InitiatorState) → IfFor (λ p. Fits p s.operation) purpose → ((act rcode : ℕ) → purpose ≡ Some (purposes.Management act) → ending ≡ endings.Refused rcode → is_conflict rcode ≡ true → (running : Running) → s.operation ≡ Some running → (running.act == act) ≡ true → Undone running) → u.operation ≡ s.operation → u.seat ≡ s.seat → At (ended_for purpose ending o u)
  for_moved None ending o u f x a b = rests a (like_same s.seat u.seat b)
  for_moved (Some purpose) ending o u f x a b = ended_moved purpose ending o u f (λ act rcode e. x act rcode (ap Some e)) (record { operation = a; seat = b })
