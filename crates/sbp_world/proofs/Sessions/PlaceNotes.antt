-- What the notes of a history leave of the management ORBs in an initiator's places, and what its own request brings there: the ORB of its action.
use Rattle.sbp_world.proofs.Words.Std.{arith, ◌≡◌, ◌∙◌, refl, sym, ap, ℕ, zero, suc, ◌%◌, ◌<◌, ◌==◌, ◌&&◌, not, is_some, Bool, true, false, cond, List, [], ◌∷◌, length, Option, Some, None, nat_tests, not-false}
use Rattle.sbp_world.proofs.Words.Wire.{Moment, said, Action, Event, Note, Operation, Side}
use Rattle.sbp_world.proofs.Words.Initiator.{start, login_fifo, own, with_orb, orb_in, LoginResponse, ManagementOrb, management_bytes, PresentList, find_in, slot_in, waiting, TicketParts, address_of, login_orb, orb_by, orb_for, InitiatorState, is_in_held, is_in_live, operation_of, place_of, session_of, carried, response_in, Seat}
use Rattle.sbp_world.proofs.Words.Laws.{action_notes, Host, host_at, is_management, present_list, slot_at, is_own, management_orb_of, orb_address, place_bytes, place_held, place_written, plain_orb, event_of}
use Rattle.sbp_world.proofs.Words.World.{behind, AreRows, present_in}
use Rattle.bus_memory.specs.declared.window.Window.TheVariants as windows
use Rattle.sbp_world.specs.Hosts.Fits.{IsOf}
use Rattle.sbp_world.proofs.Hosts.Acts.{Goes, found_number}
use Rattle.sbp_world.proofs.Hosts.Beside.{find_waits, found_here, found_list, found_small}
use Rattle.sbp_world.proofs.Hosts.Carries.{IsNoAct, is_apart}
use Rattle.sbp_world.proofs.Hosts.Layered.{AreTame, is_tame}
use Rattle.sbp_world.proofs.Hosts.Over.{last_at}
use Rattle.orb_list.proofs.Tied.{waits_last}
use Rattle.sbp_journal.specs.declared.event.Action.TheVariants as actions
use Rattle.sbp_journal.specs.declared.event.Event.TheVariants as events
use Rattle.sbp_journal.specs.declared.note.Note.TheVariants as notes
use Rattle.sbp_journal.specs.declared.operation.Operation.TheVariants as operations
use Rattle.sbp_journal.specs.declared.side.Side.TheVariants as sides
use Rattle.sbp_laws.specs.Hosts as hosts
use Rattle.sbp_session.specs.declared.seat.Seat.TheVariants as seats
use Rattle.sbp_world.proofs.Common.{untrue, same_number}

-- ---- notes

abbrev pub is_packet : Note → Bool
is_packet (notes.Sent serial generation from to bytes) = true
is_packet _ = false

pub note_places : (note : Note) (past : List Moment) (i m : ℕ) → is_packet note ≡ false → place_held (said note ∷ past) i m ≡ place_held past i m
note_places (notes.Sent serial generation from to bytes) past i m e = untrue (sym e)
note_places _ past i m e = refl

pub tame_packet : (note : Note) → is_tame note ≡ true → is_packet note ≡ false
tame_packet (notes.Sent serial generation from to bytes) e = untrue e
tame_packet _ e = refl

pub told_places : (told : List Side) (past : List Moment) (i m : ℕ) → AreTame told → place_held (behind told past) i m ≡ place_held past i m
told_places [] past i m t = refl
told_places (sides.Own note ∷ later) past i m t = told_places later (said note ∷ past) i m t.1 ∙ note_places note past i m (tame_packet note t.0)
told_places (_ ∷ later) past i m t = absurd t.0

-- ---- a packet of another line

no_own : (i j : ℕ) (operation : Option Operation) → (i == j) ≡ false → is_own i j operation ≡ false
no_own i j None e = refl
no_own i j (Some operation) e = ap (λ b. b && is_management operation) e

not_written : (event : Option Event) (past : List Moment) (i m : ℕ) (before : Option ManagementOrb) → IsNoAct i event → place_written event past i m before ≡ before
not_written (Some (events.Act j action)) past i m before n =
    ap (λ b. cond (b && ((host_at past i).writes % 2 == m)) (Some (management_orb_of action past i (host_at past i) m)) before) (no_own i j (hosts.operation_of action) n)
not_written None past i m before n = refl
not_written _ past i m before n = refl

pub sent_places : (serial generation from to : ℕ) (bytes : List ℕ) (past : List Moment) (i m : ℕ) → IsNoAct i (event_of past) → place_held (said (notes.Sent serial generation from to bytes) ∷ past) i m ≡ place_held past i m
sent_places serial generation zero to bytes past i m n = refl
sent_places serial generation (suc j) to bytes past i m n = by (j == i)
  where
    by : (b : Bool) → cond b (place_written (event_of past) past i m (place_held past i m)) (place_held past i m) ≡ place_held past i m
    by true = not_written (event_of past) past i m (place_held past i m) n
    by false = refl

-- or of another node
away_places : (serial generation from to : ℕ) (bytes : List ℕ) (past : List Moment) (i m : ℕ) → not (from == suc i) ≡ true → place_held (said (notes.Sent serial generation from to bytes) ∷ past) i m ≡ place_held past i m
away_places serial generation zero to bytes past i m n = refl
away_places serial generation (suc j) to bytes past i m n =
    ap (λ b. cond b (place_written (event_of past) past i m (place_held past i m)) (place_held past i m)) (by (suc j == suc i) refl n)
  where
    by : (b : Bool) → (suc j == suc i) ≡ b → not b ≡ true → (j == i) ≡ false
    by true e f = untrue f
    by false e f = grind (arith, nat_tests)

pub apart_places : (note : Note) (past : List Moment) (i m : ℕ) → is_apart i note ≡ true → place_held (said note ∷ past) i m ≡ place_held past i m
apart_places (notes.Sent serial generation from to bytes) past i m e = away_places serial generation from to bytes past i m e
apart_places _ past i m e = refl

-- ---- its own request

own_is : (i : ℕ) (operation : Operation) → is_own i i (Some operation) ≡ is_management operation
own_is i operation = ap (λ b. b && is_management operation) (same_number i)

-- what an action writes there, by the terms
module _ (action : Action) (past : List Moment) (i m : ℕ) (before : Option ManagementOrb) where
  own_written : is_own i i (hosts.operation_of action) ≡ true → place_written (Some (events.Act i action)) past i m before ≡ cond ((host_at past i).writes % 2 == m) (Some (management_orb_of action past i (host_at past i) m)) before
  own_written e = ap (λ b. cond (b && ((host_at past i).writes % 2 == m)) (Some (management_orb_of action past i (host_at past i) m)) before) e

  none_written : is_own i i (hosts.operation_of action) ≡ false → place_written (Some (events.Act i action)) past i m before ≡ before
  none_written e = ap (λ b. cond (b && ((host_at past i).writes % 2 == m)) (Some (management_orb_of action past i (host_at past i) m)) before) e

-- ---- the ORB of an action

-- what is known of the host as a line begins
pub record Hosted (past : List Moment) (i : ℕ) (s : InitiatorState) : Type 0 where
  pub logins : (host_at past i).logins ≡ s.counts.logins
  pub writes : (host_at past i).writes ≡ s.counts.managed
  pub login : (response : LoginResponse) → carried s.seat ≡ Some response → (host_at past i).login ≡ response
  pub rows : AreRows past i s.lists.slots

pub live_carried : (seat : Seat) → is_in_live (session_of seat) ≡ true → carried seat ≡ Some (response_in seat)
live_carried (seats.Live live) e = refl
live_carried (seats.Out out) e = untrue e
live_carried (seats.Entering entering) e = untrue e
live_carried (seats.Held response) e = untrue e
live_carried (seats.Returning response) e = untrue e
live_carried (seats.Leaving response) e = untrue e
live_carried (seats.Stuck origin) e = untrue e

held_carried : (seat : Seat) → is_in_held (session_of seat) ≡ true → carried seat ≡ Some (response_in seat)
held_carried (seats.Held response) e = refl
held_carried (seats.Live live) e = untrue e
held_carried (seats.Out out) e = untrue e
held_carried (seats.Entering entering) e = untrue e
held_carried (seats.Returning response) e = untrue e
held_carried (seats.Leaving response) e = untrue e
held_carried (seats.Stuck origin) e = untrue e

module _ (past : List Moment) (i : ℕ) (s : InitiatorState) (h : Hosted past i s) where
  abbrev place : ℕ
  place = place_of s.counts.managed

  abbrev host : Host
  host = host_at past i

  live_login : is_in_live (session_of s.seat) ≡ true → (response_in s.seat).login ≡ host.login.login
  live_login e = ap (λ (r : LoginResponse). r.login) (sym (h.login (response_in s.seat) (live_carried s.seat e)))

  held_login : is_in_held (session_of s.seat) ≡ true → (response_in s.seat).login ≡ host.login.login
  held_login e = ap (λ (r : LoginResponse). r.login) (sym (h.login (response_in s.seat) (held_carried s.seat e)))

  -- an ORB that waits stands in its slot
  module _ (k : ℕ) (t : TicketParts) (found : find_in s.lists.slots.slots k ≡ Some t) where
    where_waits : (j : ℕ) × ((j < length s.lists.slots.slots) × (waiting (slot_in s.lists.slots.slots j) ≡ Some t))
    where_waits = find_waits s.lists.slots.slots k t found

    at_slot : slot_at past i t.list t.number ≡ t.slot
    at_slot =
        let here = found_here s.lists.slots h.rows.fits t where_waits in
        let small = found_small s.lists.slots h.rows.fits t where_waits in
        (last_at _ s.lists.slots h.rows.fits t.slot t small (waits_last (slot_in s.lists.slots.slots t.slot) t here)).at

    of_list : (present : Option PresentList) → IsOf present t → present_in present ≡ Some t.list
    of_list None e = absurd e
    of_list (Some list) e = ap (λ n. Some n) e

    present_is : present_list past i ≡ Some t.list
    present_is = h.rows.fits.present ∙ of_list s.lists.slots.present (found_list s.lists.slots h.rows.fits t where_waits)

    address_is : address_of (find_in s.lists.slots.slots k) ≡ orb_address past i k (present_list past i)
    address_is =
        ap address_of found
        ∙ ap (λ n. start (windows.Orb n)) (sym at_slot)
        ∙ ap (λ n. start (windows.Orb (slot_at past i t.list n))) (found_number s.lists.slots.slots k t found)
        ∙ ap (orb_address past i k) (sym present_is)

  found_address : (k : ℕ) (found : Option TicketParts) → find_in s.lists.slots.slots k ≡ found → is_some found ≡ true → address_of (find_in s.lists.slots.slots k) ≡ orb_address past i k (present_list past i)
  found_address k None e f = untrue f
  found_address k (Some t) e f = address_is k t e

  -- the ORB that an action with one puts into its place
  abbrev IsOrb : Action → Type 0
  IsOrb action = orb_by action s ≡ management_orb_of action past i host place

  login_is : (unit reconnect : ℕ) (exclusive : Bool) (password : List ℕ) → IsOrb (actions.Login unit reconnect exclusive password)
  login_is unit reconnect exclusive password = ap (λ n. record (login_orb s unit reconnect exclusive password) { fifo = login_fifo n }) (sym h.logins)

  subject_is : (function : ℕ) → (response_in s.seat).login ≡ host.login.login → orb_for s function (response_in s.seat).login ≡ plain_orb function host.login.login place
  subject_is function e = ap (λ n. plain_orb function n place) e

  abort_is : (k : ℕ) → Goes (actions.Abort k) s → IsOrb (actions.Abort k)
  abort_is k g =
      let live = live_login (not-false _ g.rows.wrong_state) in
      let address = found_address k (find_in s.lists.slots.slots k) refl (not-false _ g.rows.no_orb) in
      ap (λ n. record (orb_for s 0xb (response_in s.seat).login) { first = n }) address
      ∙ ap (λ (orb : ManagementOrb). record orb { first = orb_address past i k (present_list past i) }) (subject_is 0xb live)

-- ---- what stands in a place then

-- by the calls of the initiator, and by the terms
module _ (action : Action) (past : List Moment) (i : ℕ) (s : InitiatorState) (h : Hosted past i s) (m : ℕ) (before : Option ManagementOrb) (held : ℕ → List ℕ) (same : held m ≡ place_bytes before) where
  abbrev Stands : Type 0
  Stands = with_orb (orb_in (operation_of action) action s) (place_of s.counts.managed) held m ≡ place_bytes (place_written (Some (events.Act i action)) past i m before)

  stays : orb_in (operation_of action) action s ≡ None → is_own i i (hosts.operation_of action) ≡ false → Stands
  stays none e = ap (λ (o : Option ManagementOrb). with_orb o (place_of s.counts.managed) held m) none ∙ same ∙ ap place_bytes (sym (none_written action past i m before e))

  turns : orb_in (operation_of action) action s ≡ Some (orb_by action s) → is_own i i (hosts.operation_of action) ≡ true → orb_by action s ≡ management_orb_of action past i (host_at past i) (place_of s.counts.managed) → Stands
  turns some e orb =
      ap (λ (o : Option ManagementOrb). with_orb o (place_of s.counts.managed) held m) some
      ∙ by (place_of s.counts.managed == m) refl
      ∙ ap place_bytes (ap (λ n. cond (n % 2 == m) (Some (management_orb_of action past i (host_at past i) m)) before) (sym h.writes) ∙ sym (own_written action past i m before e))
    where
      by : (b : Bool) → (place_of s.counts.managed == m) ≡ b → cond b (management_bytes (orb_by action s)) (held m) ≡ place_bytes (cond b (Some (management_orb_of action past i (host_at past i) m)) before)
      by true f =
          let here : place_of s.counts.managed ≡ m = grind (arith, nat_tests) in
          ap management_bytes (orb ∙ ap (management_orb_of action past i (host_at past i)) here)
      by false f = same

pub acted_places : (action : Action) (past : List Moment) (i : ℕ) (s : InitiatorState) (h : Hosted past i s) (m : ℕ) (before : Option ManagementOrb) (held : ℕ → List ℕ) → held m ≡ place_bytes before → Goes action s → with_orb (orb_in (operation_of action) action s) (place_of s.counts.managed) held m ≡ place_bytes (place_written (Some (events.Act i action)) past i m before)
acted_places (actions.Put cmd) past i s h m before held e g = stays (actions.Put cmd) past i s h m before held e refl refl
acted_places (actions.Append cmd) past i s h m before held e g = stays (actions.Append cmd) past i s h m before held e refl refl
acted_places actions.Low past i s h m before held e g = stays actions.Low past i s h m before held e refl refl
acted_places actions.Link past i s h m before held e g = stays actions.Link past i s h m before held e refl refl
acted_places actions.Ring past i s h m before held e g = stays actions.Ring past i s h m before held e refl refl
acted_places (actions.Dummy orb) past i s h m before held e g = stays (actions.Dummy orb) past i s h m before held e refl refl
acted_places actions.State past i s h m before held e g = stays actions.State past i s h m before held e refl refl
acted_places actions.Rom past i s h m before held e g = stays actions.Rom past i s h m before held e refl (own_is i operations.Rom)
acted_places actions.AgentReset past i s h m before held e g = stays actions.AgentReset past i s h m before held e refl (own_is i operations.AgentReset)
acted_places actions.Enable past i s h m before held e g = stays actions.Enable past i s h m before held e refl (own_is i operations.Enable)
acted_places (actions.Login unit reconnect exclusive password) past i s h m before held e g =
    turns (actions.Login unit reconnect exclusive password) past i s h m before held e refl (own_is i operations.Login) (login_is past i s h unit reconnect exclusive password)
acted_places (actions.Query unit) past i s h m before held e g = turns (actions.Query unit) past i s h m before held e refl (own_is i operations.Query) refl
acted_places actions.Reconnect past i s h m before held e g = turns actions.Reconnect past i s h m before held e refl (own_is i operations.Reconnect) (subject_is past i s h 0x3 (held_login past i s h (not-false _ g.rows.wrong_state)))
acted_places actions.Logout past i s h m before held e g = turns actions.Logout past i s h m before held e refl (own_is i operations.Logout) (subject_is past i s h 0x7 (live_login past i s h (not-false _ g.rows.wrong_state)))
acted_places (actions.Abort k) past i s h m before held e g = turns (actions.Abort k) past i s h m before held e refl (own_is i operations.Abort) (abort_is past i s h k g)
acted_places actions.AbortSet past i s h m before held e g = turns actions.AbortSet past i s h m before held e refl (own_is i operations.AbortSet) (subject_is past i s h 0xc (live_login past i s h (not-false _ g.rows.wrong_state)))
acted_places actions.UnitReset past i s h m before held e g = turns actions.UnitReset past i s h m before held e refl (own_is i operations.UnitReset) (subject_is past i s h 0xe (live_login past i s h (not-false _ g.rows.wrong_state)))
acted_places actions.TargetReset past i s h m before held e g = turns actions.TargetReset past i s h m before held e refl (own_is i operations.TargetReset) (subject_is past i s h 0xf (live_login past i s h (not-false _ g.rows.wrong_state)))

-- its own request brings what its action writes
pub own_places : (serial generation to : ℕ) (bytes : List ℕ) (action : Action) (past : List Moment) (i m : ℕ) → event_of past ≡ Some (events.Act i action) → place_held (said (notes.Sent serial generation (suc i) to bytes) ∷ past) i m ≡ place_written (Some (events.Act i action)) past i m (place_held past i m)
own_places serial generation to bytes action past i m e =
    ap (λ b. cond b (place_written (event_of past) past i m (place_held past i m)) (place_held past i m)) (same_number i)
    ∙ ap (λ (x : Option Event). place_written x past i m (place_held past i m)) e

-- what its action writes is of the history as the line began: an operation with a management ORB tells nothing
pub written_same : (action : Action) (past now : List Moment) (i m : ℕ) → (is_own i i (hosts.operation_of action) ≡ true → now ≡ past) → place_held now i m ≡ place_held past i m → place_written (Some (events.Act i action)) past i m (place_held past i m) ≡ place_written (Some (events.Act i action)) now i m (place_held now i m)
written_same action past now i m told same = by (is_own i i (hosts.operation_of action)) refl
  where
    by : (b : Bool) → is_own i i (hosts.operation_of action) ≡ b → place_written (Some (events.Act i action)) past i m (place_held past i m) ≡ place_written (Some (events.Act i action)) now i m (place_held now i m)
    by true e = ap (λ ms. place_written (Some (events.Act i action)) ms i m (place_held ms i m)) (sym (told e))
    by false e = none_written action past i m (place_held past i m) e ∙ sym same ∙ sym (none_written action now i m (place_held now i m) e)

pub silent_told : (action : Action) (past : List Moment) (n i : ℕ) (told : List Side) → told ≡ own (action_notes action past n) → is_own i i (hosts.operation_of action) ≡ true → told ≡ []
silent_told (actions.Put cmd) past n i told f e = untrue e
silent_told (actions.Append cmd) past n i told f e = untrue e
silent_told actions.Low past n i told f e = untrue e
silent_told actions.Link past n i told f e = untrue e
silent_told actions.Ring past n i told f e = untrue e
silent_told (actions.Dummy orb) past n i told f e = untrue e
silent_told _ past n i told f e = f
