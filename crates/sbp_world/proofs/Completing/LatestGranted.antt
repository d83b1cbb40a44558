-- How many logins a host had asked for as its latest login was done: as many as it has asked for now, while its session has a login. What holds of the response of each login that is done, with that count, holds of
-- the login that the host has.
use Rattle.sbp_world.proofs.Words.Std.{arith, ◌≡◌, ◌∙◌, refl, sym, ap, subst, ℕ, zero, suc, ◌&&◌, not, nat_eq, nat_lt, Bool, true, false, cond, List, [], ◌∷◌, Option, Some, None, nat_tests}
use Rattle.sbp_world.proofs.Words.Wire.{Action, Event, Moment, Note, OpWord, Operation, Part, Terms, asked, part_of, request, response, said, terms}
use Rattle.sbp_world.proofs.Words.Initiator.{Answer, Done, Expired, LoginResponse, NoLabel, Payload, Refused, login_response}
use Rattle.sbp_world.proofs.Words.Laws.{EachMoment, Host, Session, Underway, acted, answer_in, answered_at, event_of, goes_on, host_at, host_by, known_host, list_begins, new_host, op_ended, operation_of, packet_at, pointer_answered, present_list, ready_host, receiver_in, response_of, ring, sender_in, sent_in, session_ended}
use Rattle.sbp_journal.specs.Transactions.{no_packet}
use Rattle.sbp_journal.specs.declared.event.Action.TheVariants as actions
use Rattle.sbp_journal.specs.declared.event.Event.TheVariants as events
use Rattle.sbp_journal.specs.declared.note.Note.TheVariants as notes
use Rattle.sbp_journal.specs.declared.operation.Operation.TheVariants as operations
use Rattle.sbp_journal.specs.declared.operation.OpWord.TheVariants as words
use Rattle.sbp_laws.specs.Hosts as sessions
use Rattle.sbp_laws.specs.Hosts.{got_by, has_login, is_serial, reset_seen, sent_as}
use Rattle.sbp_world.proofs.Common.{untrue}
use Rattle.sbp_world.proofs.Completing.LatestHosts.{is_other, other_same}
use Rattle.sbp_world.proofs.Hosts.Cores.{wire_is}
use Rattle.sbp_world.proofs.Lists.HostLogins.{ReadyAt}
use Rattle.sbp_world.proofs.Lists.UnderwayHosts.{pointer_login}
use Rattle.sbp_world.proofs.Sessions.Gears.{Gear, is_mild, mild_gear, seen_gear, sent_gear, timed_gear}

abbrev pub granted : List Moment → ℕ → ℕ
granted [] i = 0
granted (said (notes.Begin initiators ready) ∷ past) i = cond (ready && nat_lt i initiators) 1 (granted past i)
granted (said (notes.Op j operations.Login words.Done) ∷ past) i = cond (nat_eq j i) (host_at past i).logins (granted past i)
granted (moment ∷ past) i = granted past i

abbrev pub IsGrantedLast : List Moment → ℕ → Type 0
IsGrantedLast past i = has_login (host_at past i).session ≡ true → granted past i ≡ (host_at past i).logins

-- a reconnect and a logout are sent in a session that has a login
abbrev pub keeps_login : Action → Bool
keeps_login actions.Reconnect = true
keeps_login actions.Logout = true
keeps_login _ = false

abbrev pub BacksAt : ℕ → Moment → List Moment → Type 0
BacksAt i (said (notes.Sent serial generation from to bytes)) past = from ≡ suc i → (terms past).injected serial ≡ false → (action : Action) → event_of past ≡ Some (events.Act i action) → keeps_login action ≡ true → has_login (host_at past i).session ≡ true
BacksAt i moment past = Unit {0}

-- ---- a note by which a session gets no login
abbrev is_done : Operation → OpWord → Bool
is_done operations.Login words.Done = true
is_done _ _ = false

abbrev is_login_done : Note → Bool
is_login_done (notes.Op j operation word) = is_done operation word
is_login_done _ = false

abbrev Had : Host → Host → Type 0
Had new old = has_login new.session ≡ true → has_login old.session ≡ true

had_if : (b : Bool) (x old : Host) → Had x old → Had (cond b x old) old
had_if true x old f = f
had_if false x old f = λ e. e

pointer_session : (answer : Answer) (own : Bool) (host : Host) → (pointer_answered answer own host).session ≡ host.session
pointer_session Done true host = refl
pointer_session Done false host = refl
pointer_session (Payload bytes) own host = refl
pointer_session (Refused rcode) own host = refl
pointer_session Expired own host = refl
pointer_session NoLabel own host = refl

got_had : (own : Option ℕ) (wire : Terms) (serial : ℕ) (present : Option ℕ) (host : Host) → Had (got_by own wire serial present host) host
got_had (Some own) wire serial present host = λ e. sym (ap has_login (pointer_session (answer_in (packet_at wire serial)) (is_serial host.pointer own) host)) ∙ e
got_had None wire serial present host = λ e. e

session_had : (operation : Operation) (word : OpWord) (session : Session) → is_done operation word ≡ false → has_login (session_ended operation word session) ≡ true → has_login session ≡ true
session_had operations.Login words.Done session n e = untrue (sym n)
session_had operations.Login (words.Refused status) sessions.entering n e = untrue e
session_had operations.Login words.Conflict sessions.entering n e = untrue e
session_had operations.Reconnect words.Done sessions.returning n e = refl
session_had operations.Reconnect (words.Refused status) sessions.returning n e = refl
session_had operations.Reconnect words.Conflict sessions.returning n e = refl
session_had operations.Logout words.Done sessions.leaving n e = refl
session_had operations.Logout (words.Refused status) sessions.leaving n e = refl
session_had operations.Logout words.Conflict sessions.leaving n e = refl
session_had operation word session n e = e

ended_had : (operation : Operation) (word : OpWord) (host : Host) → is_done operation word ≡ false → Had (op_ended operation word host) host
ended_had operations.State word host n = λ e. e
ended_had operation word host n = session_had operation word host.session n

list_had : (k : ℕ) (host : Host) → Had (list_begins k host) host
list_had zero host = λ e. e
list_had (suc k) host = λ e. e

reset_had : (b : Bool) (host : Host) → Had (reset_seen b host) host
reset_had true host = by (has_login host.session)
  where
    by : (b : Bool) → has_login (cond b sessions.held sessions.out) ≡ true → b ≡ true
    by true e = refl
    by false e = e
reset_had false host = λ e. e

note_had : (note : Note) (past : List Moment) (wire : Terms) (i : ℕ) (host : Host) → is_other note ≡ true → is_login_done note ≡ false → Had (host_by note past wire i host) host
note_had (notes.Begin initiators ready) past wire i host o n = untrue o
note_had (notes.Sent serial generation from to bytes) past wire i host o n = untrue o
note_had (notes.Got serial) past wire i host o n = had_if (is_serial (receiver_in (wire.sent serial)) (suc i)) _ host (got_had (answered_at wire serial) wire serial (present_list past i) host)
note_had (notes.TimedOut serial) past wire i host o n = had_if (is_serial (sender_in (wire.sent serial)) (suc i)) _ host (λ e. e)
note_had (notes.Op j operation word) past wire i host o n = had_if (nat_eq j i) (op_ended operation word host) host (ended_had operation word host n)
note_had (notes.Stuck j) past wire i host o n = had_if (nat_eq j i) _ host (λ e. e)
note_had (notes.Append j n k cdb buffer) past wire i host o f = had_if (nat_eq j i) (list_begins k host) host (list_had k host)
note_had (notes.Drop j n) past wire i host o f = had_if (nat_eq j i) (list_begins zero host) host (list_had zero host)
note_had (notes.Taken j n k status answer) past wire i host o f = had_if (nat_eq j i) _ host (λ e. e)
note_had (notes.Seen node generation) past wire i host o n = had_if (nat_eq node (suc i)) (reset_seen (not (nat_eq generation (wire.generation node))) host) host (reset_had (not (nat_eq generation (wire.generation node))) host)
note_had note past wire i host o n = λ e. e

-- ---- the count over a moment
module _ (past : List Moment) (i : ℕ) (k : IsGrantedLast past i) where
  abbrev host : Host
  host = host_at past i

  abbrev Last : Host → Type 0
  Last x = has_login x.session ≡ true → granted past i ≡ x.logins

  done_last : (j : ℕ) → IsGrantedLast (said (notes.Op j operations.Login words.Done) ∷ past) i
  done_last j = by (nat_eq j i)
    where
      by : (b : Bool) → has_login (cond b (op_ended operations.Login words.Done host) host).session ≡ true → cond b host.logins (granted past i) ≡ (cond b (op_ended operations.Login words.Done host) host).logins
      by true e = refl
      by false e = k e

  other_last : (note : Note) → is_other note ≡ true → is_login_done note ≡ false → Last (host_at (said note ∷ past) i)
  other_last note o n = λ e. k (note_had note past (known_host past i).wire i host o n e) ∙ sym (other_same note past (known_host past i).wire i host o).logins

  begins_last : (b : Bool) → has_login (cond b (ready_host i) host).session ≡ true → cond b 1 (granted past i) ≡ (cond b (ready_host i) host).logins
  begins_last true = λ e. refl
  begins_last false = k

  -- ---- a request
  goes_last : (u : Option Underway) (serial : ℕ) → Last (goes_on u serial host)
  goes_last None serial = k
  goes_last (Some underway) serial = k

  ring_last : (pointer : Option ℕ) (serial : ℕ) → Last (ring pointer serial host)
  ring_last None serial = k
  ring_last (Some first) serial = k

  acted_last : (action : Action) (list : Option ℕ) (serial : ℕ) → (keeps_login action ≡ true → has_login host.session ≡ true) → Last (acted action (operation_of action) list serial host)
  acted_last (actions.Login unit reconnect exclusive password) list serial f = λ e. untrue e
  acted_last actions.Reconnect list serial f = λ e. k (f refl)
  acted_last actions.Logout list serial f = λ e. k (f refl)
  acted_last actions.Ring list serial f = ring_last host.pointer serial
  acted_last (actions.Append cmd) list serial f = ring_last host.pointer serial
  acted_last action list serial f = k

  module _ (serial : ℕ) (backs : (action : Action) → event_of past ≡ Some (events.Act i action) → keeps_login action ≡ true → has_login host.session ≡ true) where
    acts_last : (j : ℕ) (action : Action) (list : Option ℕ) → event_of past ≡ Some (events.Act j action) → (b : Bool) → nat_eq j i ≡ b → Last (cond b (acted action (operation_of action) list serial host) (goes_on host.operation serial host))
    acts_last j action list e true b = acted_last action list serial (backs action (e ∙ ap (λ n. Some (events.Act n action)) (let same : j ≡ i = grind (arith, nat_tests, b) in same)))
    acts_last j action list e false b = goes_last host.operation serial

    in_last : (event : Option Event) (list : Option ℕ) → event_of past ≡ event → Last (sent_in event i list serial host)
    in_last (Some (events.Act j action)) list e = acts_last j action list e (nat_eq j i) refl
    in_last None list e = goes_last host.operation serial
    in_last (Some event) list e = goes_last host.operation serial

    as_last : (part : Part) (list : Option ℕ) → Last (sent_as part (event_of past) i list serial host)
    as_last (request label kind) list = in_last (event_of past) list refl
    as_last (response label kind) list = k
    as_last no_packet list = k

  sent_last : (serial generation from to : ℕ) (bytes : List ℕ) → BacksAt i (said (notes.Sent serial generation from to bytes)) past → IsGrantedLast (said (notes.Sent serial generation from to bytes) ∷ past) i
  sent_last serial generation from to bytes backs = by (nat_eq from (suc i)) refl ((known_host past i).wire.injected serial) refl
    where
      by : (b : Bool) → nat_eq from (suc i) ≡ b → (c : Bool) → (known_host past i).wire.injected serial ≡ c → Last (cond (b && not c) (sent_as (part_of bytes) (event_of past) i (present_list past i) serial host) host)
      by true e false f = as_last serial (backs (let is : from ≡ suc i = grind (arith, nat_tests, e) in is) (sym (ap (λ (t : Terms). t.injected serial) (wire_is past i)) ∙ f)) (part_of bytes) (present_list past i)
      by true e true f = k
      by false e c f = k

  note_last : (note : Note) → BacksAt i (said note) past → IsGrantedLast (said note ∷ past) i
  note_last (notes.Begin initiators ready) backs = begins_last (ready && nat_lt i initiators)
  note_last (notes.Sent serial generation from to bytes) backs = sent_last serial generation from to bytes backs
  note_last (notes.Op j operations.Login words.Done) backs = done_last j
  note_last note backs = other_last note refl refl

pub granted_last : (past : List Moment) (i : ℕ) → EachMoment (BacksAt i) past → IsGrantedLast past i
granted_last [] i b = λ e. untrue e
granted_last (asked line event ∷ past) i b = granted_last past i b.1
granted_last (said note ∷ past) i b = note_last past i (granted_last past i b.1) note b.0

-- ---- the login of the host
-- a login is done with a response of which it holds, with the count of then
abbrev pub DoneAt : (LoginResponse → ℕ → Type 0) → ℕ → Moment → List Moment → Type 0
DoneAt Good i (said (notes.Op j operations.Login words.Done)) past = nat_eq j i ≡ true → Good (login_response (response_of (host_at past i))) (host_at past i).logins
DoneAt Good i moment past = Unit {0}

abbrev is_kept : Note → Bool
is_kept (notes.Begin initiators ready) = false
is_kept (notes.Op j operation word) = not (is_done operation word)
is_kept _ = true

mild_is : (j : ℕ) (operation : Operation) (word : OpWord) → not (is_done operation word) ≡ true → is_mild (notes.Op j operation word) ≡ true
mild_is j operations.Login words.Done e = untrue e
mild_is j operation word e = refl

got_login : (own : Option ℕ) (wire : Terms) (serial : ℕ) (present : Option ℕ) (old : Host) → (got_by own wire serial present old).login ≡ old.login
got_login (Some own) wire serial present old = pointer_login (answer_in (packet_at wire serial)) (is_serial old.pointer own) old
got_login None wire serial present old = refl

login_if : (b : Bool) (x old : Host) → x.login ≡ old.login → (cond b x old).login ≡ old.login
login_if true x old e = e
login_if false x old e = refl

login_stays : (note : Note) (past : List Moment) (i : ℕ) → is_kept note ≡ true → (host_at (said note ∷ past) i).login ≡ (host_at past i).login
login_stays (notes.Begin initiators ready) past i e = untrue e
login_stays (notes.Sent serial generation from to bytes) past i e = ap (λ (g : Gear). g.login) (sent_gear serial generation from to bytes past i)
login_stays (notes.Got serial) past i e =
    let wire = (known_host past i).wire in
    login_if (is_serial (receiver_in (wire.sent serial)) (suc i)) _ (host_at past i) (got_login (answered_at wire serial) wire serial (present_list past i) (host_at past i))
login_stays (notes.TimedOut serial) past i e = ap (λ (g : Gear). g.login) (timed_gear serial past i)
login_stays (notes.Seen node generation) past i e = ap (λ (g : Gear). g.login) (seen_gear node generation past i)
login_stays (notes.Op j operation word) past i e = ap (λ (g : Gear). g.login) (mild_gear (notes.Op j operation word) past i (mild_is j operation word e))
login_stays (notes.Stuck j) past i e = ap (λ (g : Gear). g.login) (mild_gear (notes.Stuck j) past i refl)
login_stays (notes.Append j n k cdb buffer) past i e = ap (λ (g : Gear). g.login) (mild_gear (notes.Append j n k cdb buffer) past i refl)
login_stays (notes.Drop j n) past i e = ap (λ (g : Gear). g.login) (mild_gear (notes.Drop j n) past i refl)
login_stays (notes.Taken j n k status answer) past i e = ap (λ (g : Gear). g.login) (mild_gear (notes.Taken j n k status answer) past i refl)
login_stays note past i e = refl

module _ (Good : LoginResponse → ℕ → Type 0) (i : ℕ) where
  abbrev Own : List Moment → Type 0
  Own past = Good (host_at past i).login (granted past i)

  note_granted : (note : Note) (past : List Moment) → ReadyAt (λ response. Good response 1) i (said note) past → DoneAt Good i (said note) past → Own past → Own (said note ∷ past)
  note_granted (notes.Begin initiators ready) past r d k = by (ready && nat_lt i initiators) refl
    where
      by : (b : Bool) → (ready && nat_lt i initiators) ≡ b → Good (cond b (ready_host i) (host_at past i)).login (cond b 1 (granted past i))
      by true e = r e
      by false e = k
  note_granted (notes.Op j operations.Login words.Done) past r d k = by (nat_eq j i) refl
    where
      by : (b : Bool) → nat_eq j i ≡ b → Good (cond b (op_ended operations.Login words.Done (host_at past i)) (host_at past i)).login (cond b (host_at past i).logins (granted past i))
      by true e = d e
      by false e = k
  note_granted note past r d k = subst (λ login. Good login (granted past i)) (sym (login_stays note past i refl)) k

  pub login_granted : (past : List Moment) → EachMoment (ReadyAt (λ response. Good response 1) i) past → Good new_host.login 0 → EachMoment (DoneAt Good i) past → Own past
  login_granted [] r n d = n
  login_granted (asked line event ∷ past) r n d = login_granted past r.1 n d.1
  login_granted (said note ∷ past) r n d = note_granted note past r.0 d.0 (login_granted past r.1 n d.1)
