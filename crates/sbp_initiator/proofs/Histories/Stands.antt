-- What holds of an initiator while a write of ORB_POINTER, or one of AGENT_RESET, is under way; and that the ends of transactions and the
-- requests of others keep it.
use Rattle.std.proofs.Common.{◌≡◌, refl, sym, ap, subst, ◌∙◌, ℕ, ◌<◌, nat_eq, Bool, true, false, cond, List, length, Option, Some, None, Result, Ok, Err}
use Rattle.config_rom.specs.declared.fault.RomFault.{RomFault}
use Rattle.config_rom.specs.declared.unit.SbpUnit.{SbpUnit}
use Rattle.config_rom.specs.Reading.{Tree, reading}
use Rattle.config_rom.specs.Unit.{sbp_unit_of}
use Rattle.label_table.specs.declared.judgement.Asked.{Asked}
use Rattle.label_table.specs.Layer.{Layer, asking_step}
use Rattle.orb_layout.specs.declared.login.LoginResponse.{LoginResponse}
use Rattle.orb_list.specs.declared.list.PresentList.{PresentList}
use Rattle.orb_list.specs.Table.{drop_for, drop_step}
use Rattle.orb_list.specs.Lists.{drop_lists, unpin_lists}
use Rattle.initiator_base.specs.Quads.{with_quad}
use Rattle.initiator_base.specs.Places.{management_at}
use Rattle.sbp_session.specs.declared.seat.Origin.{Origin}
use Rattle.sbp_session.specs.declared.seat.Origin.TheVariants as origins
use Rattle.sbp_session.specs.declared.seat.Seat.{Seat}
use Rattle.sbp_session.specs.declared.seat.Seat.TheVariants as seats
use Rattle.sbp_session.specs.Moves.{Event, sent, entered, good, bad, conflict, pointed, reset, failed, goes}
use Rattle.sbp_session.specs.Seats.{is_stuck_seat, points}
use Rattle.sbp_session.specs.Sessions.{LiveSession}
use Rattle.sbp_journal.specs.declared.operation.Operation.{Operation}
use Rattle.sbp_journal.specs.declared.operation.Operation.TheVariants as operations
use Rattle.sbp_journal.specs.declared.operation.OpWord.{OpWord}
use Rattle.sbp_journal.specs.declared.operation.OpWord.TheVariants as words
use Rattle.sbp_journal.specs.Outgoings.{OutboxState}
use Rattle.sbp_initiator.specs.declared.purpose.Ending.{Ending}
use Rattle.sbp_initiator.specs.declared.purpose.Ending.TheVariants as endings
use Rattle.sbp_initiator.specs.declared.purpose.Pointing.{Pointing}
use Rattle.sbp_initiator.specs.declared.purpose.Pointing.TheVariants as pointings
use Rattle.sbp_initiator.specs.declared.purpose.Purpose.{Purpose}
use Rattle.sbp_initiator.specs.declared.purpose.Purpose.TheVariants as purposes
use Rattle.sbp_initiator.specs.declared.purpose.Running.{Running}
use Rattle.sbp_initiator.specs.declared.state.InitiatorState.{InitiatorState}
use Rattle.sbp_initiator.specs.Refusals.{ends_list}
use Rattle.sbp_initiator.specs.States.{counts_for, is_answered, is_list, operation_in}
use Rattle.sbp_initiator.specs.Effects.{stick_step, dropped_as, drop_list_step, end_step, end_own_for, end_own_step, then_step, with_answered, pointer_ended, doorbell_ended, fail_step, reset_ended, enable_ended, moves_session, moved, conflict_for, conflict_step, is_conflict, management_ended, response_of, good_event, good_word, drop_where, good_end, managed_step, fault_number, with_unit, with_rom, finish_rom, next_quad, asked_quad, ask_quad, is_address, rom_ended, with_dead, known_where, state_ended, ended_step, ended_for}
use Rattle.sbp_initiator.specs.Histories.Ends.{is_managed}
use Rattle.sbp_initiator.specs.Histories.Marks.{CountsFor}
use Rattle.sbp_initiator.specs.Histories.Pointing.{IsReset}
use Rattle.sbp_initiator.proofs.Histories.Busy.{Busy, idle, points_to, resets_for, busy_of, busy_past, is_busy}
use Rattle.sbp_initiator.proofs.Histories.Effects.{Fits, nat_is, unpin_count, unpin_present}

-- ---- what holds

abbrev pub is_points : Busy → Bool
is_points (points_to list) = true
is_points _ = false

pub record Stands (busy : Busy) (counted : ℕ → Option ℕ) (seat : Seat) (present : Option PresentList) (lists : ℕ) (mark : Pointing) (operation : Option Running) : Type 0 where
  pub session : is_stuck_seat seat ≡ false → points seat ≡ is_points busy
  pub list : (n : ℕ) → busy ≡ points_to n → is_list present n ≡ true
  pub written : (n : ℕ) → busy ≡ points_to n → mark ≡ pointings.Written
  pub beside : (n : ℕ) → busy ≡ points_to n → ends_list (operation_in operation) ≡ false
  pub resets : (act : ℕ) → busy ≡ resets_for act → IsReset act operation
  pub below : (act n : ℕ) → counted act ≡ Some n → n < lists
  pub answered : (act n : ℕ) → counted act ≡ Some n → is_list present n ≡ true → is_answered mark ≡ true

abbrev pub Stand : Busy → (ℕ → Option ℕ) → InitiatorState → Type 0
Stand busy counted s =
    Stands busy counted s.seat s.lists.slots.present s.lists.slots.lists s.marks.pointing s.operation

untrue : {A : Type 0} → false ≡ true → A
untrue e = absurd (differ e)
  where
    differ : false ≡ true → ⊥
    differ e = cc

-- ---- the session

pub failed_sticks : (seat : Seat) → is_stuck_seat (goes failed seat) ≡ true
unfolding goes
failed_sticks (seats.Out out) = refl
failed_sticks (seats.Entering entering) = refl
failed_sticks (seats.Live live) = refl
failed_sticks (seats.Held response) = refl
failed_sticks (seats.Returning response) = refl
failed_sticks (seats.Leaving response) = refl
failed_sticks (seats.Stuck origin) = refl

pub pointed_points : (seat : Seat) → points (goes pointed seat) ≡ false
unfolding goes
pointed_points (seats.Out out) = refl
pointed_points (seats.Entering entering) = refl
pointed_points (seats.Live live) = refl
pointed_points (seats.Held response) = refl
pointed_points (seats.Returning response) = refl
pointed_points (seats.Leaving response) = refl
pointed_points (seats.Stuck origin) = refl

pub reset_points : (seat : Seat) → points (goes reset seat) ≡ false
unfolding goes
reset_points (seats.Out out) = refl
reset_points (seats.Entering entering) = refl
reset_points (seats.Live live) = refl
reset_points (seats.Held response) = refl
reset_points (seats.Returning response) = refl
reset_points (seats.Leaving response) = refl
reset_points (seats.Stuck (origins.Out out)) = refl
reset_points (seats.Stuck (origins.Entering entering)) = refl
reset_points (seats.Stuck (origins.Live live)) = refl
reset_points (seats.Stuck (origins.Held response)) = refl
reset_points (seats.Stuck (origins.Returning response)) = refl
reset_points (seats.Stuck (origins.Leaving response)) = refl

-- the moves that neither begin nor end a write of ORB_POINTER, and by which no session becomes Stuck or is released
abbrev pub is_plain : Event → Bool
is_plain sent = true
is_plain (entered response) = true
is_plain good = true
is_plain bad = true
is_plain conflict = true
is_plain _ = false

-- a session that did not become Stuck was not, and counts as pointing as before
pub record Alike (old new : Seat) : Type 0 where
  pub stuck : is_stuck_seat new ≡ false → is_stuck_seat old ≡ false
  pub points_same : is_stuck_seat new ≡ false → points new ≡ points old

sent_live : (c : Bool) (live : LiveSession) → live.pointing ≡ c → Alike (seats.Live live) (cond c (seats.Live live) (seats.Leaving live.response))
sent_live true live e = record { stuck = λ f. refl; points_same = λ f. refl }
sent_live false live e = record { stuck = λ f. refl; points_same = λ f. sym e }

plain_out : (event : Event) (out : Unit {0}) → is_plain event ≡ true → Alike (seats.Out out) (goes event (seats.Out out))
unfolding goes
plain_out sent out e = record { stuck = λ f. refl; points_same = λ f. refl }
plain_out (entered response) out e = record { stuck = λ f. refl; points_same = λ f. refl }
plain_out good out e = record { stuck = λ f. refl; points_same = λ f. refl }
plain_out bad out e = record { stuck = λ f. refl; points_same = λ f. refl }
plain_out conflict out e = record { stuck = λ f. refl; points_same = λ f. refl }
plain_out _ out e = untrue e

plain_entering : (event : Event) (entering : Unit {0}) → is_plain event ≡ true → Alike (seats.Entering entering) (goes event (seats.Entering entering))
unfolding goes
plain_entering sent entering e = record { stuck = λ f. refl; points_same = λ f. refl }
plain_entering (entered response) entering e = record { stuck = λ f. refl; points_same = λ f. refl }
plain_entering good entering e = record { stuck = λ f. refl; points_same = λ f. refl }
plain_entering bad entering e = record { stuck = λ f. refl; points_same = λ f. refl }
plain_entering conflict entering e = record { stuck = λ f. refl; points_same = λ f. refl }
plain_entering _ entering e = untrue e

plain_live : (event : Event) (live : LiveSession) → is_plain event ≡ true → Alike (seats.Live live) (goes event (seats.Live live))
unfolding goes
plain_live sent live e = sent_live live.pointing live refl
plain_live (entered response) live e = record { stuck = λ f. refl; points_same = λ f. refl }
plain_live good live e = record { stuck = λ f. refl; points_same = λ f. refl }
plain_live bad live e = record { stuck = λ f. refl; points_same = λ f. refl }
plain_live conflict live e = record { stuck = λ f. refl; points_same = λ f. refl }
plain_live _ live e = untrue e

plain_held : (event : Event) (response : LoginResponse) → is_plain event ≡ true → Alike (seats.Held response) (goes event (seats.Held response))
unfolding goes
plain_held sent response e = record { stuck = λ f. refl; points_same = λ f. refl }
plain_held (entered given) response e = record { stuck = λ f. refl; points_same = λ f. refl }
plain_held good response e = record { stuck = λ f. refl; points_same = λ f. refl }
plain_held bad response e = record { stuck = λ f. refl; points_same = λ f. refl }
plain_held conflict response e = record { stuck = λ f. refl; points_same = λ f. refl }
plain_held _ response e = untrue e

plain_returning : (event : Event) (response : LoginResponse) → is_plain event ≡ true → Alike (seats.Returning response) (goes event (seats.Returning response))
unfolding goes
plain_returning sent response e = record { stuck = λ f. refl; points_same = λ f. refl }
plain_returning (entered given) response e = record { stuck = λ f. refl; points_same = λ f. refl }
plain_returning good response e = record { stuck = λ f. refl; points_same = λ f. refl }
plain_returning bad response e = record { stuck = λ f. refl; points_same = λ f. refl }
plain_returning conflict response e = record { stuck = λ f. refl; points_same = λ f. refl }
plain_returning _ response e = untrue e

plain_leaving : (event : Event) (response : LoginResponse) → is_plain event ≡ true → Alike (seats.Leaving response) (goes event (seats.Leaving response))
unfolding goes
plain_leaving sent response e = record { stuck = λ f. refl; points_same = λ f. refl }
plain_leaving (entered given) response e = record { stuck = λ f. refl; points_same = λ f. refl }
plain_leaving good response e = record { stuck = λ f. refl; points_same = λ f. refl }
plain_leaving bad response e = record { stuck = λ f. refl; points_same = λ f. refl }
plain_leaving conflict response e = record { stuck = λ f. refl; points_same = λ f. refl }
plain_leaving _ response e = untrue e

plain_stuck : (event : Event) (origin : Origin) → is_plain event ≡ true → Alike (seats.Stuck origin) (goes event (seats.Stuck origin))
unfolding goes
plain_stuck sent origin e = record { stuck = λ f. f; points_same = λ f. refl }
plain_stuck (entered response) origin e = record { stuck = λ f. f; points_same = λ f. refl }
plain_stuck good origin e = record { stuck = λ f. f; points_same = λ f. refl }
plain_stuck bad origin e = record { stuck = λ f. f; points_same = λ f. refl }
plain_stuck conflict origin e = record { stuck = λ f. f; points_same = λ f. refl }
plain_stuck _ origin e = untrue e

pub plain_goes : (event : Event) (seat : Seat) → is_plain event ≡ true → Alike seat (goes event seat)
plain_goes event (seats.Out out) e = plain_out event out e
plain_goes event (seats.Entering entering) e = plain_entering event entering e
plain_goes event (seats.Live live) e = plain_live event live e
plain_goes event (seats.Held response) e = plain_held event response e
plain_goes event (seats.Returning response) e = plain_returning event response e
plain_goes event (seats.Leaving response) e = plain_leaving event response e
plain_goes event (seats.Stuck origin) e = plain_stuck event origin e

-- ---- parts of it change

module _ {busy : Busy} {counted : ℕ → Option ℕ} {seat : Seat} {present : Option PresentList} {lists : ℕ} {mark : Pointing} {operation : Option Running} where
  -- the session becomes Stuck
  pub stuck_stands : Stands busy counted seat present lists mark operation → Stands busy counted (goes failed seat) present lists mark operation
  stuck_stands k = record {
    session = λ f. untrue (sym f ∙ failed_sticks seat);
    list = k.list;
    written = k.written;
    beside = k.beside;
    resets = k.resets;
    below = k.below;
    answered = k.answered;
  }

  -- or makes a plain move
  pub moved_stands : (event : Event) → is_plain event ≡ true → Stands busy counted seat present lists mark operation → Stands busy counted (goes event seat) present lists mark operation
  moved_stands event e k =
      let a = plain_goes event seat e in
      record {
        session = λ f. a.points_same f ∙ k.session (a.stuck f);
        list = k.list;
        written = k.written;
        beside = k.beside;
        resets = k.resets;
        below = k.below;
        answered = k.answered;
      }

  -- the present list, whatever else of it, is the same
  pub listed_stands : (new : Option PresentList) (count : ℕ) → ((n : ℕ) → is_list new n ≡ is_list present n) → count ≡ lists → Stands busy counted seat present lists mark operation → Stands busy counted seat new count mark operation
  listed_stands new count f e k = record {
    session = k.session;
    list = λ n g. f n ∙ k.list n g;
    written = k.written;
    beside = k.beside;
    resets = k.resets;
    below = λ act n g. subst (λ (m : ℕ). n < m) (sym e) (k.below act n g);
    answered = λ act n g h. k.answered act n g (sym (f n) ∙ h);
  }

  -- there is none any more
  pub gone_stands : is_points busy ≡ false → Stands busy counted seat present lists mark operation → Stands busy counted seat None lists pointings.Unwritten operation
  gone_stands e k = record {
    session = k.session;
    list = λ n g. untrue (sym e ∙ ap is_points g);
    written = λ n g. untrue (sym e ∙ ap is_points g);
    beside = λ n g. untrue (sym e ∙ ap is_points g);
    resets = k.resets;
    below = k.below;
    answered = λ act n g h. untrue h;
  }

  -- the operation under way ends
  pub over_stands : ((act : ℕ) → busy ≡ resets_for act → ⊥) → Stands busy counted seat present lists mark operation → Stands busy counted seat present lists mark None
  over_stands f k = record {
    session = k.session;
    list = k.list;
    written = k.written;
    beside = λ n g. refl;
    resets = λ act g. absurd (f act g);
    below = k.below;
    answered = k.answered;
  }

  -- the write of AGENT_RESET, or nothing, was under way and is over
  pub idle_stands : is_points busy ≡ false → Stands busy counted seat present lists mark operation → Stands idle counted seat present lists mark operation
  idle_stands e k = record {
    session = λ f. k.session f ∙ e;
    list = λ n g. idle_not_points n g;
    written = λ n g. idle_not_points n g;
    beside = λ n g. idle_not_points n g;
    resets = λ act g. idle_not_resets act g;
    below = k.below;
    answered = k.answered;
  }
    where
      idle_not_points : {A : Type 0} (n : ℕ) → idle ≡ points_to n → A
      idle_not_points n e = untrue (ap is_busy e)

      idle_not_resets : {A : Type 0} (n : ℕ) → idle ≡ resets_for n → A
      idle_not_resets n e = untrue (ap is_busy e)

-- ---- an operation ends

-- an action's operation is not the reset of the agent that is under way
abbrev pub IsOther : Busy → Option Running → ℕ → Type 0
IsOther busy operation act = (running : Running) → operation ≡ Some running → running.act ≡ act → (n : ℕ) → busy ≡ resets_for n → ⊥

pub end_stands : (busy : Busy) (counted : ℕ → Option ℕ) (operation : Operation) (word : OpWord) (o : OutboxState) (s : InitiatorState) → ((act : ℕ) → busy ≡ resets_for act → ⊥) → Stand busy counted s → Stand busy counted (end_step operation word o s).1
end_stands busy counted operation word o s f k =
    listed_stands (unpin_lists s.lists).slots.present (unpin_lists s.lists).slots.lists (λ n. ap (λ (p : Option PresentList). is_list p n) (unpin_present s.lists)) (unpin_count s.lists) (over_stands f k)

own_as : (c : Bool) (busy : Busy) (counted : ℕ → Option ℕ) (running : Running) (word : OpWord) (o : OutboxState) (s : InitiatorState) → (c ≡ true → (act : ℕ) → busy ≡ resets_for act → ⊥) → Stand busy counted s → Stand busy counted (cond c (end_step running.operation word o s) (o, s)).1
own_as true busy counted running word o s f k = end_stands busy counted running.operation word o s (f refl) k
own_as false busy counted running word o s f k = k

own_for : (r : Option Running) (busy : Busy) (counted : ℕ → Option ℕ) (act : ℕ) (word : OpWord) (o : OutboxState) (s : InitiatorState) → IsOther busy r act → Stand busy counted s → Stand busy counted (end_own_for r act word o s).1
own_for None busy counted act word o s f k = k
own_for (Some running) busy counted act word o s f k =
    own_as (nat_eq running.act act) busy counted running word o s (λ e. f running refl (nat_is running.act act e)) k

pub own_stands : (busy : Busy) (counted : ℕ → Option ℕ) (act : ℕ) (word : OpWord) (o : OutboxState) (s : InitiatorState) → IsOther busy s.operation act → Stand busy counted s → Stand busy counted (end_own_step act word o s).1
own_stands busy counted act word o s f k = own_for s.operation busy counted act word o s f k

fail_stands : (busy : Busy) (counted : ℕ → Option ℕ) (act : ℕ) (o : OutboxState) (s : InitiatorState) → IsOther busy s.operation act → Stand busy counted s → Stand busy counted (fail_step act o s).1
fail_stands busy counted act o s f k = stuck_stands (own_stands busy counted act words.Error o s f k)

-- none is while no write of AGENT_RESET is under way
idle_other : (operation : Option Running) (act : ℕ) → IsOther idle operation act
idle_other operation act running e f n g = untrue (ap is_busy g)

-- nor where the operation is another one
kind_other : (busy : Busy) (operation : Option Running) (act : ℕ) → ((n : ℕ) → busy ≡ resets_for n → IsReset n operation) → ((running : Running) → operation ≡ Some running → running.act ≡ act → running.operation ≡ operations.AgentReset → ⊥) → IsOther busy operation act
kind_other busy operation act h f running e g n i =
    f running e g (subst (λ (r : Option Running). IsReset n r) e (h n i)).1

reset_enable : operations.AgentReset ≡ operations.Enable → ⊥
reset_enable e = cc

reset_rom : operations.AgentReset ≡ operations.Rom → ⊥
reset_rom e = cc

-- ---- a list is dropped

dropped_stands : (present : Option PresentList) (busy : Busy) (counted : ℕ → Option ℕ) (o : OutboxState) (s : InitiatorState) → is_points busy ≡ false → Stand busy counted s → s.lists.slots.present ≡ present → Stand busy counted (dropped_as ((drop_for present s.lists.slots).0, record s.lists { slots = (drop_for present s.lists.slots).1 }) o s).1
dropped_stands None busy counted o s e k f = k
dropped_stands (Some list) busy counted o s e k f = gone_stands e k

pub drop_stands : (busy : Busy) (counted : ℕ → Option ℕ) (o : OutboxState) (s : InitiatorState) → is_points busy ≡ false → Stand busy counted s → Stand busy counted (drop_list_step o s).1
unfolding drop_lists drop_step
drop_stands busy counted o s e k = dropped_stands s.lists.slots.present busy counted o s e k refl

-- ---- by what a transaction was for

-- what is known of the transaction that ends: it was the busy one, it fits the operation under way, and the list that it counts for
pub record Closing (busy : Busy) (counted : ℕ → Option ℕ) (purpose : Purpose) (s : InitiatorState) : Type 0 where
  pub its : is_busy (busy_of purpose) ≡ true → busy ≡ busy_of purpose
  pub fits : Fits purpose s.operation
  pub counts : CountsFor counted (Some purpose)

answered_stands : (c : Bool) (busy : Busy) (counted : ℕ → Option ℕ) (list : ℕ) (s : InitiatorState) → Stand busy counted s → Stand idle counted (cond c (with_answered (record s { seat = goes pointed s.seat })) (record s { seat = goes pointed s.seat }))
answered_stands true busy counted list s k = record {
  session = λ f. pointed_points s.seat;
  list = λ n g. untrue (ap is_busy g);
  written = λ n g. untrue (ap is_busy g);
  beside = λ n g. untrue (ap is_busy g);
  resets = λ act g. untrue (ap is_busy g);
  below = k.below;
  answered = λ act n g h. refl;
}
answered_stands false busy counted list s k = record {
  session = λ f. pointed_points s.seat;
  list = λ n g. untrue (ap is_busy g);
  written = λ n g. untrue (ap is_busy g);
  beside = λ n g. untrue (ap is_busy g);
  resets = λ act g. untrue (ap is_busy g);
  below = k.below;
  answered = k.answered;
}

-- a session that is Stuck counts as pointing no more
stick_idle : (busy : Busy) (counted : ℕ → Option ℕ) (o : OutboxState) (s : InitiatorState) → Stand busy counted s → Stand idle counted (stick_step o s).1
stick_idle busy counted o s k = record {
  session = λ f. untrue (sym f ∙ failed_sticks s.seat);
  list = λ n g. untrue (ap is_busy g);
  written = λ n g. untrue (ap is_busy g);
  beside = λ n g. untrue (ap is_busy g);
  resets = λ act g. untrue (ap is_busy g);
  below = k.below;
  answered = k.answered;
}

pointer_stands : (busy : Busy) (counted : ℕ → Option ℕ) (list : ℕ) (ending : Ending) (o : OutboxState) (s : InitiatorState) → Stand busy counted s → Stand idle counted (pointer_ended list ending o s).1
pointer_stands busy counted list (endings.Complete value) o s k = answered_stands (is_list s.lists.slots.present list) busy counted list s k
pointer_stands busy counted list (endings.Refused rcode) o s k = stick_idle busy counted o s k
pointer_stands busy counted list endings.Expired o s k = stick_idle busy counted o s k

doorbell_stands : (busy : Busy) (counted : ℕ → Option ℕ) (ending : Ending) (o : OutboxState) (s : InitiatorState) → Stand busy counted s → Stand busy counted (doorbell_ended ending o s).1
doorbell_stands busy counted (endings.Complete value) o s k = k
doorbell_stands busy counted (endings.Refused rcode) o s k = stuck_stands k
doorbell_stands busy counted endings.Expired o s k = stuck_stands k

reset_stands : (counted : ℕ → Option ℕ) (act : ℕ) (ending : Ending) (o : OutboxState) (s : InitiatorState) → Stand idle counted s → Stand idle counted (reset_ended act ending o s).1
reset_stands counted act (endings.Complete value) o s k =
    let t = drop_list_step o s in
    own_stands idle counted act words.Done t.0 t.1 (idle_other t.1.operation act) (drop_stands idle counted o s refl k)
reset_stands counted act (endings.Refused rcode) o s k = fail_stands idle counted act o s (idle_other s.operation act) k
reset_stands counted act endings.Expired o s k = fail_stands idle counted act o s (idle_other s.operation act) k

enable_stands : (busy : Busy) (counted : ℕ → Option ℕ) (act : ℕ) (ending : Ending) (o : OutboxState) (s : InitiatorState) → IsOther busy s.operation act → Stand busy counted s → Stand busy counted (enable_ended act ending o s).1
enable_stands busy counted act (endings.Complete value) o s f k = own_stands busy counted act words.Done o s f k
enable_stands busy counted act (endings.Refused rcode) o s f k = fail_stands busy counted act o s f k
enable_stands busy counted act endings.Expired o s f k = fail_stands busy counted act o s f k

-- ---- management

moved_as : (c : Bool) (busy : Busy) (counted : ℕ → Option ℕ) (event : Event) (s : InitiatorState) → is_plain event ≡ true → Stand busy counted s → Stand busy counted (cond c (record s { seat = goes event s.seat }) s)
moved_as true busy counted event s e k = moved_stands event e k
moved_as false busy counted event s e k = k

moved_so : (busy : Busy) (counted : ℕ → Option ℕ) (operation : Operation) (event : Event) (s : InitiatorState) → is_plain event ≡ true → Stand busy counted s → Stand busy counted (moved operation event s)
moved_so busy counted operation event s e k = moved_as (moves_session operation) busy counted event s e k

conflict_as : (c : Bool) (busy : Busy) (counted : ℕ → Option ℕ) (running : Running) (o : OutboxState) (s : InitiatorState) → (c ≡ true → (act : ℕ) → busy ≡ resets_for act → ⊥) → Stand busy counted s → Stand busy counted (cond c (end_step running.operation words.Conflict o (moved running.operation conflict s)) (o, s)).1
conflict_as true busy counted running o s f k =
    end_stands busy counted running.operation words.Conflict o (moved running.operation conflict s) (f refl) (moved_so busy counted running.operation conflict s refl k)
conflict_as false busy counted running o s f k = k

conflict_stands : (r : Option Running) (busy : Busy) (counted : ℕ → Option ℕ) (act : ℕ) (o : OutboxState) (s : InitiatorState) → IsOther busy r act → Stand busy counted s → Stand busy counted (conflict_for r act o s).1
conflict_stands None busy counted act o s f k = k
conflict_stands (Some running) busy counted act o s f k =
    conflict_as (nat_eq running.act act) busy counted running o s (λ e. f running refl (nat_is running.act act e)) k

refused_stands : (c : Bool) (busy : Busy) (counted : ℕ → Option ℕ) (act : ℕ) (o : OutboxState) (s : InitiatorState) → IsOther busy s.operation act → Stand busy counted s → Stand busy counted (cond c (conflict_step act o s) (fail_step act o s)).1
refused_stands true busy counted act o s f k = conflict_stands s.operation busy counted act o s f k
refused_stands false busy counted act o s f k = fail_stands busy counted act o s f k

management_stands : (busy : Busy) (counted : ℕ → Option ℕ) (act : ℕ) (ending : Ending) (o : OutboxState) (s : InitiatorState) → IsOther busy s.operation act → Stand busy counted s → Stand busy counted (management_ended act ending o s).1
management_stands busy counted act (endings.Complete value) o s f k = k
management_stands busy counted act (endings.Refused rcode) o s f k = refused_stands (is_conflict rcode) busy counted act o s f k
management_stands busy counted act endings.Expired o s f k = fail_stands busy counted act o s f k

-- a management ORB's status: an operation that ends a list is under way beside no write of ORB_POINTER
where_stands : (c : Bool) (busy : Busy) (counted : ℕ → Option ℕ) (o : OutboxState) (s : InitiatorState) → (c ≡ true → is_points busy ≡ false) → Stand busy counted s → Stand busy counted (drop_where c o s).1
where_stands true busy counted o s e k = drop_stands busy counted o s (e refl) k
where_stands false busy counted o s e k = k

good_plain : (operation : Operation) (response : List ℕ) → is_plain (good_event operation response) ≡ true
good_plain operations.Login response = refl
good_plain operations.Query response = refl
good_plain operations.Rom response = refl
good_plain operations.Reconnect response = refl
good_plain operations.Logout response = refl
good_plain operations.Abort response = refl
good_plain operations.AbortSet response = refl
good_plain operations.UnitReset response = refl
good_plain operations.TargetReset response = refl
good_plain operations.AgentReset response = refl
good_plain operations.State response = refl
good_plain operations.Enable response = refl

-- what is known of a management operation that ends
pub record Managing (busy : Busy) (running : Running) : Type 0 where
  pub other : (act : ℕ) → busy ≡ resets_for act → ⊥
  pub closes : ends_list (Some running.operation) ≡ true → is_points busy ≡ false

managed_as : (c : Bool) (busy : Busy) (counted : ℕ → Option ℕ) (running : Running) (status : ℕ) (o : OutboxState) (s : InitiatorState) → Managing busy running → Stand busy counted s → Stand busy counted (cond c (then_step (good_end running) (drop_where (ends_list (Some running.operation)) o s)) (end_step running.operation (words.Refused status) o (moved running.operation bad s))).1
managed_as true busy counted running status o s m k =
    let t = drop_where (ends_list (Some running.operation)) o s in
    let event = good_event running.operation (response_of running t.1) in
    end_stands busy counted running.operation (good_word running.operation (response_of running t.1)) t.0 (moved running.operation event t.1) m.other
    (moved_so busy counted running.operation event t.1 (good_plain running.operation (response_of running t.1)) (where_stands (ends_list (Some running.operation)) busy counted o s m.closes k))
managed_as false busy counted running status o s m k =
    end_stands busy counted running.operation (words.Refused status) o (moved running.operation bad s) m.other (moved_so busy counted running.operation bad s refl k)

pub managed_stands : (busy : Busy) (counted : ℕ → Option ℕ) (running : Running) (status : ℕ) (o : OutboxState) (s : InitiatorState) → Managing busy running → Stand busy counted s → Stand busy counted (managed_step running status o s).1
managed_stands busy counted running status o s m k = managed_as (nat_eq status 0) busy counted running status o s m k

-- ---- the target's ROM

module _ (busy : Busy) (counted : ℕ → Option ℕ) (act : ℕ) where
  unit_stands : (unit : Option SbpUnit) (o : OutboxState) (s : InitiatorState) → IsOther busy s.operation act → Stand busy counted s → Stand busy counted (with_unit unit act o s).1
  unit_stands None o s f k = own_stands busy counted act words.NoUnit o s f k
  unit_stands (Some unit) o s f k = own_stands busy counted act words.Done o (record s { management = Some (management_at unit.management) }) f k

  rom_stands : (read : Result Tree RomFault) (o : OutboxState) (s : InitiatorState) → IsOther busy s.operation act → Stand busy counted s → Stand busy counted (with_rom read act o s).1
  rom_stands (Ok tree) o s f k = unit_stands (sbp_unit_of tree.blocks tree.entries) o s f k
  rom_stands (Err fault) o s f k = own_stands busy counted act (words.Bad (fault_number fault)) o s f k

  asked_stands : (r : Option Asked × Layer Purpose) (o : OutboxState) (s : InitiatorState) → IsOther busy s.operation act → Stand busy counted s → Stand busy counted (asked_quad r act o s).1
  asked_stands (None, layer) o s f k = own_stands busy counted act words.Error o (record s { layer = layer }) f k
  asked_stands (Some asked, layer) o s f k = k

  quad_stands : (c : Bool) (o : OutboxState) (s : InitiatorState) → IsOther busy s.operation act → Stand busy counted s → Stand busy counted (cond c (finish_rom act o s) (ask_quad act o s)).1
  quad_stands true o s f k = rom_stands (reading s.quads) o s f k
  quad_stands false o s f k = asked_stands (asking_step s.layer s.target (next_quad s.quads) (purposes.Rom act)) o s f k

  refused_rom : (c : Bool) (o : OutboxState) (s : InitiatorState) → IsOther busy s.operation act → Stand busy counted s → Stand busy counted (cond c (finish_rom act o s) (end_own_step act words.Error o s)).1
  refused_rom true o s f k = rom_stands (reading s.quads) o s f k
  refused_rom false o s f k = own_stands busy counted act words.Error o s f k

  rom_ended_stands : (ending : Ending) (o : OutboxState) (s : InitiatorState) → IsOther busy s.operation act → Stand busy counted s → Stand busy counted (rom_ended act ending o s).1
  rom_ended_stands (endings.Complete value) o s f k =
      let t = record s { quads = with_quad s.quads value } in quad_stands (nat_eq (length t.quads) 256) o t f k
  rom_ended_stands (endings.Refused rcode) o s f k = refused_rom (is_address rcode) o s f k
  rom_ended_stands endings.Expired o s f k = own_stands busy counted act words.Error o s f k

-- ---- the state of the agent

-- a list that a read counts for has its ORB_POINTER answered, so none is under way
answered_written : is_answered pointings.Written ≡ true → ⊥
answered_written e = cc

not_pointed : (b busy : Busy) (counted : ℕ → Option ℕ) (act : ℕ) (list : Option ℕ) (s : InitiatorState) → busy ≡ b → list ≡ counted act → counts_for s.lists.slots.present list ≡ true → Stand busy counted s → is_points b ≡ false
not_pointed idle busy counted act list s e c h k = refl
not_pointed (resets_for other) busy counted act list s e c h k = refl
not_pointed (points_to n) busy counted act None s e c h k = untrue h
not_pointed (points_to n) busy counted act (Some list) s e c h k =
    absurd (answered_written (subst (λ (m : Pointing). is_answered m ≡ true) (k.written n e) (k.answered act list (sym c) h)))

dead_stands : (c : Bool) (busy : Busy) (counted : ℕ → Option ℕ) (s : InitiatorState) → Stand busy counted s → Stand busy counted (cond c (with_dead s) s)
dead_stands true busy counted s k = k
dead_stands false busy counted s k = k

known_as : (zero : Bool) (busy : Busy) (counted : ℕ → Option ℕ) (value : ℕ) (o : OutboxState) (s : InitiatorState) → is_points busy ≡ false → Stand busy counted s → Stand busy counted (cond zero (drop_list_step o s) (o, cond (nat_eq value 3) (with_dead s) s)).1
known_as true busy counted value o s e k = drop_stands busy counted o s e k
known_as false busy counted value o s e k = dead_stands (nat_eq value 3) busy counted s k

known_stands : (c : Bool) (busy : Busy) (counted : ℕ → Option ℕ) (value : ℕ) (o : OutboxState) (s : InitiatorState) → (c ≡ true → is_points busy ≡ false) → Stand busy counted s → Stand busy counted (known_where c value o s).1
known_stands true busy counted value o s e k = known_as (nat_eq value 0) busy counted value o s (e refl) k
known_stands false busy counted value o s e k = k

state_stands : (busy : Busy) (counted : ℕ → Option ℕ) (act : ℕ) (list : Option ℕ) (ending : Ending) (o : OutboxState) (s : InitiatorState) → list ≡ counted act → Stand busy counted s → Stand busy counted (state_ended act list ending o s).1
state_stands busy counted act list (endings.Complete value) o s c k =
    known_stands (counts_for s.lists.slots.present list) busy counted value o s (λ h. not_pointed busy busy counted act list s refl c h k) k
state_stands busy counted act list (endings.Refused rcode) o s c k = k
state_stands busy counted act list endings.Expired o s c k = k

-- ---- all of them

-- it was the busy one, and no write of ORB_POINTER
resets_points : (busy : Busy) (act : ℕ) → busy ≡ resets_for act → is_points busy ≡ false
resets_points busy act e = ap is_points e

ended_stands : (busy : Busy) (counted : ℕ → Option ℕ) (purpose : Purpose) (ending : Ending) (o : OutboxState) (s : InitiatorState) → Closing busy counted purpose s → Stand busy counted s → Stand (busy_past (Some purpose) busy) counted (ended_step purpose ending o s).1
unfolding ended_step
ended_stands busy counted (purposes.Pointer list) ending o s c k = pointer_stands busy counted list ending o s k
ended_stands busy counted purposes.Doorbell ending o s c k = doorbell_stands busy counted ending o s k
ended_stands busy counted (purposes.AgentReset act) ending o s c k =
    reset_stands counted act ending o s (idle_stands (resets_points busy act (c.its refl)) k)
ended_stands busy counted (purposes.Enable act) ending o s c k =
    enable_stands busy counted act ending o s (kind_other busy s.operation act k.resets (λ running e f g. reset_enable (sym g ∙ c.fits.same running e f))) k
ended_stands busy counted (purposes.Management act) ending o s c k =
    management_stands busy counted act ending o s (kind_other busy s.operation act k.resets (λ running e f g. untrue (sym (ap is_managed g) ∙ c.fits.managed running e f))) k
ended_stands busy counted (purposes.Rom act) ending o s c k =
    rom_ended_stands busy counted act ending o s (kind_other busy s.operation act k.resets (λ running e f g. reset_rom (sym g ∙ c.fits.same running e f))) k
ended_stands busy counted (purposes.State act list) ending o s c k = state_stands busy counted act list ending o s c.counts k

abbrev pub IfClosing : Busy → (ℕ → Option ℕ) → Option Purpose → InitiatorState → Type 0
IfClosing busy counted None s = Unit {0}
IfClosing busy counted (Some purpose) s = Closing busy counted purpose s

pub for_stands : (busy : Busy) (counted : ℕ → Option ℕ) (purpose : Option Purpose) (ending : Ending) (o : OutboxState) (s : InitiatorState) → IfClosing busy counted purpose s → Stand busy counted s → Stand (busy_past purpose busy) counted (ended_for purpose ending o s).1
for_stands busy counted None ending o s c k = k
for_stands busy counted (Some purpose) ending o s c k = ended_stands busy counted purpose ending o s c k
