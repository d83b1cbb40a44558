-- What the notes of an initiator say of the login that its host has, and of its response buffers.
use Rattle.sbp_world.proofs.Words.Std.{arith, ◌≡◌, ◌∙◌, refl, sym, ap, ℕ, zero, suc, ◌&&◌, not, nat_eq, Bool, true, false, cond, List, ◌∷◌, Option, Some, None, nat_tests}
use Rattle.sbp_world.proofs.Words.Wire.{Moment, said, Note, Operation, OpWord, Part, Sending, part_of, request, response, Terms, terms, Action, Event}
use Rattle.sbp_world.proofs.Words.Initiator.{LoginResponse, Answer, Done, Expired, NoLabel, Payload, Refused}
use Rattle.sbp_world.proofs.Words.Laws.{Host, Underway, acted, host_goes_on, host_at, known_host, list_begins, op_ended, operation_of, pointer_answered, ring, sent_in, stored, present_list, access_at, answer_in, answered_at, packet_at, receiver_in, event_of}
use Rattle.sbp_journal.specs.declared.note.Note.TheVariants as notes
use Rattle.sbp_journal.specs.declared.operation.Operation.TheVariants as operations
use Rattle.sbp_journal.specs.declared.operation.OpWord.TheVariants as words
use Rattle.sbp_world.proofs.Hosts.Carries.{is_apart}
use Rattle.sbp_world.proofs.Hosts.Cores.{wire_is}
use Rattle.sbp_world.proofs.Hosts.Shown.{IsElsewhere, IsHeard}
use Rattle.sbp_journal.specs.Transactions.{no_packet}
use Rattle.sbp_journal.specs.declared.event.Action.TheVariants as actions
use Rattle.sbp_journal.specs.declared.event.Event.TheVariants as events
use Rattle.sbp_laws.specs.Hosts.{got_by, is_serial, sent_as}
use Rattle.sbp_laws.specs.Hosts as hosts
use Rattle.sbp_world.proofs.Common.{untrue}

-- the login that a host has, and its response buffers
pub record Gear : Type 0 where
  pub login : LoginResponse
  pub responses : List (List ℕ)

abbrev pub gear_of : Host → Gear
gear_of host = record { login = host.login; responses = host.responses }

abbrev pub gear_at : List Moment → ℕ → Gear
gear_at past i = gear_of (host_at past i)

pub gear_if : (b : Bool) (x y : Host) → gear_of x ≡ gear_of y → gear_of (cond b x y) ≡ gear_of y
gear_if true x y e = e
gear_if false x y e = refl

-- a login that is done brings a new one
abbrev pub is_entry : Operation → OpWord → Bool
is_entry operations.Login words.Done = true
is_entry operation word = false

begins_gear : (k : ℕ) (host : Host) → gear_of (list_begins k host) ≡ gear_of host
begins_gear zero host = refl
begins_gear (suc k) host = refl

pub ended_gear : (operation : Operation) (word : OpWord) (host : Host) → is_entry operation word ≡ false → gear_of (op_ended operation word host) ≡ gear_of host
ended_gear operations.Rom words.Done host e = refl
ended_gear operations.Rom (words.Refused status) host e = refl
ended_gear operations.Rom words.Conflict host e = refl
ended_gear operations.Rom words.Error host e = refl
ended_gear operations.Rom words.Reset host e = refl
ended_gear operations.Rom (words.Count count) host e = refl
ended_gear operations.Rom (words.Bad fault) host e = refl
ended_gear operations.Rom words.NoUnit host e = refl
ended_gear operations.Rom (words.State value) host e = refl
ended_gear operations.Login words.Done host e = untrue (sym e)
ended_gear operations.Login (words.Refused status) host e = refl
ended_gear operations.Login words.Conflict host e = refl
ended_gear operations.Login words.Error host e = refl
ended_gear operations.Login words.Reset host e = refl
ended_gear operations.Login (words.Count count) host e = refl
ended_gear operations.Login (words.Bad fault) host e = refl
ended_gear operations.Login words.NoUnit host e = refl
ended_gear operations.Login (words.State value) host e = refl
ended_gear operations.Query word host e = refl
ended_gear operations.Reconnect word host e = refl
ended_gear operations.Logout word host e = refl
ended_gear operations.Abort word host e = refl
ended_gear operations.AbortSet word host e = refl
ended_gear operations.UnitReset word host e = refl
ended_gear operations.TargetReset word host e = refl
ended_gear operations.AgentReset word host e = refl
ended_gear operations.State word host e = refl
ended_gear operations.Enable word host e = refl

-- the notes of an initiator that say nothing of it
abbrev pub is_mild : Note → Bool
is_mild (notes.Append i n k cdb buffer) = true
is_mild (notes.Low i n k) = true
is_mild (notes.Linked i n k) = true
is_mild (notes.Rung i n k) = true
is_mild (notes.Dummied i n k) = true
is_mild (notes.Taken i n k status answer) = true
is_mild (notes.Drop i n) = true
is_mild (notes.Op i operations.Login words.Done) = false
is_mild (notes.Op i operation word) = true
is_mild (notes.Stuck i) = true
is_mild (notes.Told i) = true
is_mild _ = false

mild_entry : (i : ℕ) (operation : Operation) (word : OpWord) → is_mild (notes.Op i operation word) ≡ true → is_entry operation word ≡ false
mild_entry i operations.Rom word e = refl
mild_entry i operations.Login words.Done e = untrue e
mild_entry i operations.Login (words.Refused status) e = refl
mild_entry i operations.Login words.Conflict e = refl
mild_entry i operations.Login words.Error e = refl
mild_entry i operations.Login words.Reset e = refl
mild_entry i operations.Login (words.Count count) e = refl
mild_entry i operations.Login (words.Bad fault) e = refl
mild_entry i operations.Login words.NoUnit e = refl
mild_entry i operations.Login (words.State value) e = refl
mild_entry i operations.Query word e = refl
mild_entry i operations.Reconnect word e = refl
mild_entry i operations.Logout word e = refl
mild_entry i operations.Abort word e = refl
mild_entry i operations.AbortSet word e = refl
mild_entry i operations.UnitReset word e = refl
mild_entry i operations.TargetReset word e = refl
mild_entry i operations.AgentReset word e = refl
mild_entry i operations.State word e = refl
mild_entry i operations.Enable word e = refl

pub mild_gear : (note : Note) (ms : List Moment) (j : ℕ) → is_mild note ≡ true → gear_at (said note ∷ ms) j ≡ gear_at ms j
mild_gear (notes.Append i n k cdb buffer) ms j e = gear_if (nat_eq i j) (list_begins k (host_at ms j)) (host_at ms j) (begins_gear k (host_at ms j))
mild_gear (notes.Low i n k) ms j e = refl
mild_gear (notes.Linked i n k) ms j e = refl
mild_gear (notes.Rung i n k) ms j e = refl
mild_gear (notes.Dummied i n k) ms j e = refl
mild_gear (notes.Taken i n k status answer) ms j e = gear_if (nat_eq i j) _ (host_at ms j) refl
mild_gear (notes.Drop i n) ms j e = gear_if (nat_eq i j) (list_begins zero (host_at ms j)) (host_at ms j) refl
mild_gear (notes.Op i operation word) ms j e = gear_if (nat_eq i j) (op_ended operation word (host_at ms j)) (host_at ms j) (ended_gear operation word (host_at ms j) (mild_entry i operation word e))
mild_gear (notes.Stuck i) ms j e = gear_if (nat_eq i j) _ (host_at ms j) refl
mild_gear (notes.Told i) ms j e = refl
mild_gear note ms j e = untrue e

-- ---- a request that is sent

goes_gear : (operation : Option Underway) (serial : ℕ) (host : Host) → gear_of (host_goes_on operation serial host) ≡ gear_of host
goes_gear None serial host = refl
goes_gear (Some underway) serial host = refl

ring_gear : (pointer : Option ℕ) (serial : ℕ) (host : Host) → gear_of (ring pointer serial host) ≡ gear_of host
ring_gear None serial host = refl
ring_gear (Some first) serial host = refl

acted_gear : (action : Action) (list : Option ℕ) (serial : ℕ) (host : Host) → gear_of (acted action (operation_of action) list serial host) ≡ gear_of host
acted_gear actions.Rom list serial host = refl
acted_gear (actions.Login unit reconnect exclusive password) list serial host = refl
acted_gear (actions.Query unit) list serial host = refl
acted_gear actions.Reconnect list serial host = refl
acted_gear actions.Logout list serial host = refl
acted_gear (actions.Abort k) list serial host = refl
acted_gear actions.AbortSet list serial host = refl
acted_gear actions.UnitReset list serial host = refl
acted_gear actions.TargetReset list serial host = refl
acted_gear actions.AgentReset list serial host = refl
acted_gear actions.State list serial host = refl
acted_gear (actions.Dummy k) list serial host = refl
acted_gear (actions.Put cmd) list serial host = refl
acted_gear (actions.Append cmd) list serial host = ring_gear host.pointer serial host
acted_gear actions.Low list serial host = refl
acted_gear actions.Link list serial host = refl
acted_gear actions.Ring list serial host = ring_gear host.pointer serial host
acted_gear actions.Enable list serial host = refl

sent_in_gear : (event : Option Event) (i : ℕ) (list : Option ℕ) (serial : ℕ) (host : Host) → gear_of (sent_in event i list serial host) ≡ gear_of host
sent_in_gear None i list serial host = goes_gear host.operation serial host
sent_in_gear (Some (events.Act j action)) i list serial host = by (nat_eq j i)
  where
    by : (b : Bool) → gear_of (cond b (acted action (operation_of action) list serial host) (host_goes_on host.operation serial host)) ≡ gear_of host
    by true = acted_gear action list serial host
    by false = goes_gear host.operation serial host
sent_in_gear (Some (events.Begin initiators ready)) i list serial host = goes_gear host.operation serial host
sent_in_gear (Some (events.Reset physical)) i list serial host = goes_gear host.operation serial host
sent_in_gear (Some (events.See node)) i list serial host = goes_gear host.operation serial host
sent_in_gear (Some (events.Deliver number)) i list serial host = goes_gear host.operation serial host
sent_in_gear (Some (events.Repeat number)) i list serial host = goes_gear host.operation serial host
sent_in_gear (Some (events.Lose number)) i list serial host = goes_gear host.operation serial host
sent_in_gear (Some (events.Timeout number)) i list serial host = goes_gear host.operation serial host
sent_in_gear (Some (events.Step count)) i list serial host = goes_gear host.operation serial host
sent_in_gear (Some events.Settle) i list serial host = goes_gear host.operation serial host
sent_in_gear (Some events.Tick) i list serial host = goes_gear host.operation serial host
sent_in_gear (Some (events.Inject initiator bytes)) i list serial host = goes_gear host.operation serial host
sent_in_gear (Some (events.Key unit key)) i list serial host = goes_gear host.operation serial host

part_gear : (part : Part) (event : Option Event) (i : ℕ) (list : Option ℕ) (serial : ℕ) (host : Host) → gear_of (sent_as part event i list serial host) ≡ gear_of host
part_gear (request label kind) event i list serial host = sent_in_gear event i list serial host
part_gear (response label kind) event i list serial host = refl
part_gear no_packet event i list serial host = refl

pub sent_gear : (serial generation from to : ℕ) (bytes : List ℕ) (past : List Moment) (i : ℕ) → gear_at (said (notes.Sent serial generation from to bytes) ∷ past) i ≡ gear_at past i
sent_gear serial generation from to bytes past i =
    gear_if ((nat_eq from (suc i)) && not ((known_host past i).wire.injected serial)) (sent_as (part_of bytes) (event_of past) i (present_list past i) serial (host_at past i)) (host_at past i)
    (part_gear (part_of bytes) (event_of past) i (present_list past i) serial (host_at past i))

pub timed_gear : (serial : ℕ) (past : List Moment) (i : ℕ) → gear_at (said (notes.TimedOut serial) ∷ past) i ≡ gear_at past i
timed_gear serial past i = gear_if _ _ (host_at past i) refl

pub seen_gear : (node generation : ℕ) (past : List Moment) (i : ℕ) → gear_at (said (notes.Seen node generation) ∷ past) i ≡ gear_at past i
seen_gear node generation past i = gear_if (nat_eq node (suc i)) _ (host_at past i) (by (not (nat_eq generation ((known_host past i).wire.generation node))))
  where
    by : (b : Bool) → gear_of (hosts.reset_seen b (host_at past i)) ≡ gear_of (host_at past i)
    by true = refl
    by false = refl

-- ---- a packet that is got

pointer_gear : (answer : Answer) (own : Bool) (host : Host) → gear_of (pointer_answered answer own host) ≡ gear_of host
pointer_gear Done true host = refl
pointer_gear Done false host = refl
pointer_gear (Payload bytes) own host = refl
pointer_gear (Refused rcode) own host = refl
pointer_gear Expired own host = refl
pointer_gear NoLabel own host = refl

-- elsewhere
away_gear : (serial : ℕ) (past : List Moment) (i : ℕ) (so : Option Sending) → (terms past).sent serial ≡ so → ((q : Sending) → so ≡ Some q → (nat_eq q.to (suc i)) ≡ false) → gear_at (said (notes.Got serial) ∷ past) i ≡ gear_at past i
away_gear serial past i so e f =
    let host = host_at past i in
    ap (λ (w : Terms). gear_of (cond (is_serial (receiver_in (w.sent serial)) (suc i)) (got_by (answered_at w serial) w serial (present_list past i) host) host)) (wire_is past i)
    ∙ ap (λ (x : Option Sending). gear_of (cond (is_serial (receiver_in x) (suc i)) (got_by (answered_at (terms past) serial) (terms past) serial (present_list past i) host) host)) e
    ∙ by so f
  where
    by : (so : Option Sending) → ((q : Sending) → so ≡ Some q → (nat_eq q.to (suc i)) ≡ false) → gear_of (cond (is_serial (receiver_in so) (suc i)) (got_by (answered_at (terms past) serial) (terms past) serial (present_list past i) (host_at past i)) (host_at past i)) ≡ gear_of (host_at past i)
    by None f = refl
    by (Some q) f = ap (λ b. gear_of (cond b (got_by (answered_at (terms past) serial) (terms past) serial (present_list past i) (host_at past i)) (host_at past i))) (f q refl)

-- what a packet makes of the buffers that answers nothing
abbrev pub stores : Gear → List (List ℕ) → Gear
stores gear responses = record gear { responses = responses }

module _ (past : List Moment) (i serial generation : ℕ) (bytes : List ℕ) (heard : IsHeard past i serial generation bytes) where
  abbrev host : Host
  host = host_at past i

  abbrev T : Terms
  T = terms past

  got_here : gear_at (said (notes.Got serial) ∷ past) i ≡ gear_of (got_by (answered_at T serial) T serial (present_list past i) host)
  got_here =
      ap (λ (w : Terms). gear_of (cond (is_serial (receiver_in (w.sent serial)) (suc i)) (got_by (answered_at w serial) w serial (present_list past i) host) host)) (wire_is past i)
      ∙ ap (λ (x : Option Sending). gear_of (cond (is_serial (receiver_in x) (suc i)) (got_by (answered_at T serial) T serial (present_list past i) host) host)) heard.sent
      ∙ ap (λ b. gear_of (cond b (got_by (answered_at T serial) T serial (present_list past i) host) host)) (let to_is = heard.to_is in let e : nat_eq heard.packet.to (suc i) ≡ true = grind (arith, nat_tests) in e)

  -- where it stores nothing, the login and the buffers stay, whatever it answers
  pub got_stays : stored (access_at T serial) host.responses ≡ host.responses → gear_at (said (notes.Got serial) ∷ past) i ≡ gear_at past i
  got_stays e = got_here ∙ by (answered_at T serial)
    where
      by : (own : Option ℕ) → gear_of (got_by own T serial (present_list past i) host) ≡ gear_of host
      by (Some own) = pointer_gear (answer_in (packet_at T serial)) (is_serial host.pointer own) host
      by None = ap (λ (x : List (List ℕ)). record { login = host.login; responses = x }) e

  -- where it answers nothing, it stores what it writes
  pub got_stores : answered_at T serial ≡ None → gear_at (said (notes.Got serial) ∷ past) i ≡ stores (gear_at past i) (stored (access_at T serial) host.responses)
  got_stores e = got_here ∙ ap (λ (own : Option ℕ). gear_of (got_by own T serial (present_list past i) host)) e

-- ---- notes of others
pub apart_gear : (note : Note) (past : List Moment) (i : ℕ) → is_apart i note ≡ true → IsElsewhere past i note → gear_at (said note ∷ past) i ≡ gear_at past i
apart_gear (notes.Begin initiators ready) past i e w = untrue e
apart_gear (notes.Append j n k cdb buffer) past i e w = mild_gear (notes.Append j n k cdb buffer) past i refl
apart_gear (notes.Low j n k) past i e w = refl
apart_gear (notes.Linked j n k) past i e w = refl
apart_gear (notes.Rung j n k) past i e w = refl
apart_gear (notes.Dummied j n k) past i e w = refl
apart_gear (notes.Sent serial generation from to bytes) past i e w = sent_gear serial generation from to bytes past i
apart_gear (notes.Injected serial) past i e w = refl
apart_gear (notes.Got serial) past i e w = away_gear serial past i ((terms past).sent serial) refl w
apart_gear (notes.Ignored serial cause) past i e w = refl
apart_gear (notes.Lost serial) past i e w = refl
apart_gear (notes.TimedOut serial) past i e w = timed_gear serial past i
apart_gear (notes.Ran j n k at cdb bytes check) past i e w = refl
apart_gear (notes.Ended j n k status) past i e w = refl
apart_gear (notes.Taken j n k status answer) past i e w = mild_gear (notes.Taken j n k status answer) past i refl
apart_gear (notes.Cut j n cause) past i e w = refl
apart_gear (notes.Dead j n cause) past i e w = refl
apart_gear (notes.Drop j n) past i e w = mild_gear (notes.Drop j n) past i refl
apart_gear (notes.Managed j word subject status login) past i e w = refl
apart_gear (notes.ManageFailed j cause) past i e w = refl
apart_gear (notes.Held id) past i e w = refl
apart_gear (notes.Expired id) past i e w = refl
apart_gear (notes.Back id) past i e w = refl
apart_gear (notes.Left id) past i e w = refl
apart_gear (notes.Cleared at) past i e w = refl
apart_gear (notes.Op j operation word) past i e w = away (not_so (nat_eq i j) e)
  where
    not_so : (b : Bool) → not b ≡ true → nat_eq j i ≡ false
    not_so true f = untrue f
    not_so false f = let x : nat_eq i j ≡ false = not_true (nat_eq i j) e in (let y : nat_eq j i ≡ false = grind (arith, nat_tests) in y)
      where
        not_true : (b : Bool) → not b ≡ true → b ≡ false
        not_true true f = untrue f
        not_true false f = refl

    away : nat_eq j i ≡ false → gear_of (cond (nat_eq j i) (op_ended operation word (host_at past i)) (host_at past i)) ≡ gear_of (host_at past i)
    away f = ap (λ (c : Bool). gear_of (cond c (op_ended operation word (host_at past i)) (host_at past i))) f
apart_gear (notes.Stuck j) past i e w = mild_gear (notes.Stuck j) past i refl
apart_gear (notes.Reset generation) past i e w = refl
apart_gear (notes.Seen node generation) past i e w = seen_gear node generation past i
apart_gear notes.Tick past i e w = refl
apart_gear (notes.Refused line number) past i e w = refl
apart_gear notes.Settled past i e w = refl
apart_gear notes.Stopped past i e w = refl
apart_gear (notes.Key at) past i e w = refl
apart_gear (notes.Unsolicited j) past i e w = refl
apart_gear (notes.Unsent j) past i e w = refl
apart_gear (notes.Told j) past i e w = refl
