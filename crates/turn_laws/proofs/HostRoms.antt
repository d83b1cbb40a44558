-- What notes make of the ROM of an initiator by the terms, its quadlets and where MANAGEMENT_AGENT stands: those of others leave it, and so do its own but for the end of a `rom` operation, the answer to
-- the latest read of one, and the request that begins one.
use Rattle.std.proofs.Common.{arith, ◌≡◌, refl, sym, ◌∙◌, ap, ℕ, zero, suc, ◌==◌, ◌&&◌, nat_eq, not, Bool, true, false, cond, List, [], ◌∷◌, ◌++◌, map, Option, Some, None}
use Rattle.std.proofs.lemmas.Bool.Decides.{nat_tests}
use Rattle.config_rom.specs.Reading.{reading}
use Rattle.orb_layout.specs.Replies.{Answer, Done, Expired, NoLabel, Payload, Refused}
use Rattle.sbp_journal.specs.Run.{Moment, said}
use Rattle.sbp_journal.specs.Transactions.{Kind, Part, Sending, no_packet, part_of, request, response}
use Rattle.sbp_journal.specs.Wire.{Terms, terms}
use Rattle.sbp_journal.specs.declared.event.Action.{Action}
use Rattle.sbp_journal.specs.declared.event.Action.TheVariants as actions
use Rattle.sbp_journal.specs.declared.event.Event.{Event}
use Rattle.sbp_journal.specs.declared.event.Event.TheVariants as events
use Rattle.sbp_journal.specs.declared.note.Note.{Note}
use Rattle.sbp_journal.specs.declared.note.Note.TheVariants as notes
use Rattle.sbp_journal.specs.declared.operation.Operation.{Operation}
use Rattle.sbp_journal.specs.declared.operation.Operation.TheVariants as operations
use Rattle.sbp_journal.specs.declared.operation.OpWord.{OpWord}
use Rattle.sbp_journal.specs.declared.operation.OpWord.TheVariants as words
use Rattle.sbp_laws.specs.Hosts.{Host, Underway, acted, goes_on, got_by, host_at, is_latest, is_rom, is_serial, known_host, list_begins, management_in, op_ended, operation_of, pointer_answered, reset_seen, ring, sent_as, sent_in, with_quad}
use Rattle.sbp_laws.specs.Lists.{present_list}
use Rattle.sbp_laws.specs.Packets.{answer_in, answered_at, packet_at, receiver_in, sender_in}
use Rattle.sbp_laws.specs.Turns.{event_of}
use Rattle.sbp_world.proofs.Common.{same_number, untrue, turned}
use Rattle.sbp_world.proofs.Hosts.Carries.{IsNoAct}
use Rattle.sbp_world.proofs.Hosts.Cores.{wire_is}
use Rattle.sbp_world.proofs.Pointers.Sending.{off as and_off}
use Rattle.turn_laws.proofs.Handed.{onto}
use Rattle.std.proofs.lemmas.Bool.{not-true}

-- the quadlets that were read, and the distance of MANAGEMENT_AGENT
pub record Rom : Type 0 where
  pub quads : List ℕ
  pub management : Option ℕ

abbrev pub rom : List ℕ → Option ℕ → Rom
rom quads management = record { quads = quads; management = management }

abbrev pub rom_in : Host → Rom
rom_in host = rom host.quads host.management

abbrev pub rom_at : List Moment → ℕ → Rom
rom_at past i = rom_in (host_at past i)

same_if : (b : Bool) (x y : Host) → rom_in x ≡ rom_in y → rom_in (cond b x y) ≡ rom_in y
same_if true x y e = e
same_if false x y e = refl

off : (b : Bool) (x y : Host) → b ≡ false → rom_in (cond b x y) ≡ rom_in y
off true x y e = untrue (sym e)
off false x y e = refl

on : (b : Bool) (x y : Host) → b ≡ true → rom_in (cond b x y) ≡ rom_in x
on true x y e = refl
on false x y e = untrue e

-- ---- the end of an operation
abbrev pub left_rom : Operation → OpWord → Rom → Rom
left_rom operations.Rom words.Done r = rom r.quads (management_in (reading r.quads))
left_rom operation word r = r

ended_rom : (operation : Operation) (word : OpWord) (host : Host) → rom_in (op_ended operation word host) ≡ left_rom operation word (rom_in host)
ended_rom operations.Rom words.Done host = refl
ended_rom operations.Rom word host = refl
ended_rom operations.Login words.Done host = refl
ended_rom operations.Login word host = refl
ended_rom operations.State word host = refl
ended_rom operation word host = refl

-- ---- the notes that say nothing of it
abbrev pub is_beside : ℕ → Note → Bool
is_beside i (notes.Begin initiators ready) = false
is_beside i (notes.Got serial) = false
is_beside i (notes.Op j operation word) = not (j == i)
is_beside i (notes.Sent serial generation from to bytes) = not (from == suc i)
is_beside i note = true

begins_rom : (k : ℕ) (host : Host) → rom_in (list_begins k host) ≡ rom_in host
begins_rom zero host = refl
begins_rom (suc k) host = refl

reset_rom : (b : Bool) (host : Host) → rom_in (reset_seen b host) ≡ rom_in host
reset_rom true host = refl
reset_rom false host = refl

pub beside_rom : (note : Note) (past : List Moment) (i : ℕ) → is_beside i note ≡ true → rom_at (said note ∷ past) i ≡ rom_at past i
beside_rom (notes.Begin initiators ready) past i e = untrue e
beside_rom (notes.Got serial) past i e = untrue e
beside_rom (notes.Append j n k cdb buffer) past i e = same_if (nat_eq j i) (list_begins k (host_at past i)) (host_at past i) (begins_rom k (host_at past i))
beside_rom (notes.Taken j n k status answer) past i e = same_if (nat_eq j i) _ (host_at past i) refl
beside_rom (notes.Drop j n) past i e = same_if (nat_eq j i) (list_begins zero (host_at past i)) (host_at past i) refl
beside_rom (notes.Op j operation word) past i e = off (nat_eq j i) (op_ended operation word (host_at past i)) (host_at past i) (not-true (nat_eq j i) e)
beside_rom (notes.Stuck j) past i e = same_if (nat_eq j i) _ (host_at past i) refl
beside_rom (notes.Sent serial generation from to bytes) past i e =
    off ((nat_eq from (suc i)) && not ((known_host past i).wire.injected serial)) _ (host_at past i) (and_off (nat_eq from (suc i)) _ (not-true (nat_eq from (suc i)) e))
beside_rom (notes.TimedOut serial) past i e = same_if (is_serial (sender_in ((known_host past i).wire.sent serial)) (suc i)) _ (host_at past i) refl
beside_rom (notes.Seen node generation) past i e =
    let b = not (nat_eq generation ((known_host past i).wire.generation node)) in same_if (nat_eq node (suc i)) (reset_seen b (host_at past i)) (host_at past i) (reset_rom b (host_at past i))
beside_rom _ past i e = refl

abbrev pub AllBeside : ℕ → List Note → Type 0
AllBeside i [] = Unit {0}
AllBeside i (note ∷ rest) = (is_beside i note ≡ true) × AllBeside i rest

pub all_both : (i : ℕ) (a b : List Note) → AllBeside i a → AllBeside i b → AllBeside i (a ++ b)
all_both i [] b h k = k
all_both i (note ∷ a) b h k = (h.0, all_both i a b h.1 k)

pub rest_rom : (i : ℕ) (rest old : List Note) (past : List Moment) → AllBeside i rest → rom_at (map said (onto rest old) ++ past) i ≡ rom_at (map said old ++ past) i
rest_rom i [] old past h = refl
rest_rom i (note ∷ rest) old past h = rest_rom i rest (note ∷ old) past h.1 ∙ beside_rom note (map said old ++ past) i h.0

-- ---- a packet that it gets
abbrev pub got_quads : Option ℕ → Terms → (serial : ℕ) → Option Underway → List ℕ → List ℕ
got_quads None wire serial u quads = quads
got_quads (Some own) wire serial u quads = with_quad (answer_in (packet_at wire serial)) (is_rom u && is_latest u own) quads

pointer_management : (answer : Answer) (own : Bool) (host : Host) → (pointer_answered answer own host).management ≡ host.management
pointer_management Done true host = refl
pointer_management Done false host = refl
pointer_management (Payload bytes) own host = refl
pointer_management (Refused rcode) own host = refl
pointer_management Expired own host = refl
pointer_management NoLabel own host = refl

got_by_rom : (own : Option ℕ) (wire : Terms) (serial : ℕ) (present : Option ℕ) (host : Host) → rom_in (got_by own wire serial present host) ≡ rom (got_quads own wire serial host.operation host.quads) host.management
got_by_rom None wire serial present host = refl
got_by_rom (Some own) wire serial present host =
    let answer = answer_in (packet_at wire serial) in ap (rom (with_quad answer (is_rom host.operation && is_latest host.operation own) host.quads)) (pointer_management answer (is_serial host.pointer own) host)

pub got_rom : (serial : ℕ) (packet : Sending) (past : List Moment) (i : ℕ) → (terms past).sent serial ≡ Some packet → packet.to ≡ suc i
    → (let host = host_at past i in rom_at (said (notes.Got serial) ∷ past) i ≡ rom (got_quads (answered_at (terms past) serial) (terms past) serial host.operation host.quads) host.management)
got_rom serial packet past i sent to_is =
    let host = host_at past i in
    ap (λ (t : Terms). rom_in (cond (is_serial (receiver_in (t.sent serial)) (suc i)) (got_by (answered_at t serial) t serial (present_list past i) host) host)) (wire_is past i)
    ∙ on (is_serial (receiver_in ((terms past).sent serial)) (suc i)) (got_by (answered_at (terms past) serial) (terms past) serial (present_list past i) host) host
    (ap (λ so. is_serial (receiver_in so) (suc i)) sent ∙ ap (λ n. nat_eq n (suc i)) to_is ∙ same_number (suc i))
    ∙ got_by_rom (answered_at (terms past) serial) (terms past) serial (present_list past i) host

-- another one does
pub got_other : (serial : ℕ) (packet : Sending) (past : List Moment) (i : ℕ) → (terms past).sent serial ≡ Some packet → (packet.to == suc i) ≡ false → rom_at (said (notes.Got serial) ∷ past) i ≡ rom_at past i
got_other serial packet past i sent away =
    let host = host_at past i in
    ap (λ (t : Terms). rom_in (cond (is_serial (receiver_in (t.sent serial)) (suc i)) (got_by (answered_at t serial) t serial (present_list past i) host) host)) (wire_is past i)
    ∙ off (is_serial (receiver_in ((terms past).sent serial)) (suc i)) (got_by (answered_at (terms past) serial) (terms past) serial (present_list past i) host) host
    (ap (λ so. is_serial (receiver_in so) (suc i)) sent ∙ away)

-- ---- a packet that it sends, in a line that is no action of it
goes_rom : (u : Option Underway) (serial : ℕ) (host : Host) → rom_in (goes_on u serial host) ≡ rom_in host
goes_rom None serial host = refl
goes_rom (Some underway) serial host = refl

other_rom : (event : Option Event) (i : ℕ) (list : Option ℕ) (serial : ℕ) (host : Host) → IsNoAct i event → rom_in (sent_in event i list serial host) ≡ rom_in host
other_rom None i list serial host n = goes_rom host.operation serial host
other_rom (Some (events.Act j action)) i list serial host n =
    off (nat_eq j i) (acted action (operation_of action) list serial host) (goes_on host.operation serial host) (turned i j n) ∙ goes_rom host.operation serial host
other_rom (Some (events.Begin initiators ready)) i list serial host n = goes_rom host.operation serial host
other_rom (Some (events.Reset physical)) i list serial host n = goes_rom host.operation serial host
other_rom (Some (events.See node)) i list serial host n = goes_rom host.operation serial host
other_rom (Some (events.Deliver packet)) i list serial host n = goes_rom host.operation serial host
other_rom (Some (events.Repeat packet)) i list serial host n = goes_rom host.operation serial host
other_rom (Some (events.Lose packet)) i list serial host n = goes_rom host.operation serial host
other_rom (Some (events.Timeout packet)) i list serial host n = goes_rom host.operation serial host
other_rom (Some (events.Step count)) i list serial host n = goes_rom host.operation serial host
other_rom (Some events.Settle) i list serial host n = goes_rom host.operation serial host
other_rom (Some events.Tick) i list serial host n = goes_rom host.operation serial host
other_rom (Some (events.Inject initiator bytes)) i list serial host n = goes_rom host.operation serial host
other_rom (Some (events.Key unit key)) i list serial host n = goes_rom host.operation serial host

part_rom : (part : Part) (event : Option Event) (i : ℕ) (list : Option ℕ) (serial : ℕ) (host : Host) → IsNoAct i event → rom_in (sent_as part event i list serial host) ≡ rom_in host
part_rom (request label kind) event i list serial host n = other_rom event i list serial host n
part_rom (response label kind) event i list serial host n = refl
part_rom no_packet event i list serial host n = refl

pub sent_rom : (serial generation from to : ℕ) (bytes : List ℕ) (past : List Moment) (i : ℕ) → IsNoAct i (event_of past) → rom_at (said (notes.Sent serial generation from to bytes) ∷ past) i ≡ rom_at past i
sent_rom serial generation from to bytes past i n =
    same_if ((nat_eq from (suc i)) && not ((known_host past i).wire.injected serial)) (sent_as (part_of bytes) (event_of past) i (present_list past i) serial (host_at past i)) (host_at past i)
    (part_rom (part_of bytes) (event_of past) i (present_list past i) serial (host_at past i) n)

-- ---- the request of its action
ring_rom : (pointer : Option ℕ) (serial : ℕ) (host : Host) → rom_in (ring pointer serial host) ≡ rom_in host
ring_rom None serial host = refl
ring_rom (Some first) serial host = refl

abbrev pub begun_rom : Action → Rom → Rom
begun_rom actions.Rom r = rom [] r.management
begun_rom action r = r

acted_rom : (action : Action) (list : Option ℕ) (serial : ℕ) (host : Host) → rom_in (acted action (operation_of action) list serial host) ≡ begun_rom action (rom_in host)
acted_rom actions.Ring list serial host = ring_rom host.pointer serial host
acted_rom (actions.Append cmd) list serial host = ring_rom host.pointer serial host
acted_rom action list serial host = refl

pub asked_rom : (action : Action) (label : ℕ) (kind : Kind) (serial generation to : ℕ) (bytes : List ℕ) (past : List Moment) (i : ℕ) → event_of past ≡ Some (events.Act i action) → part_of bytes ≡ request label kind → (terms past).injected serial ≡ false
    → rom_at (said (notes.Sent serial generation (suc i) to bytes) ∷ past) i ≡ begun_rom action (rom_at past i)
asked_rom action label kind serial generation to bytes past i line part honest =
    let host = host_at past i in
    let list = present_list past i in
    on ((nat_eq (suc i) (suc i)) && not ((known_host past i).wire.injected serial)) (sent_as (part_of bytes) (event_of past) i list serial host) host
    (ap (λ b. b && not ((known_host past i).wire.injected serial)) (same_number (suc i)) ∙ ap not (ap (λ (t : Terms). t.injected serial) (wire_is past i) ∙ honest))
    ∙ ap (λ x. rom_in (sent_as x (event_of past) i list serial host)) part
    ∙ ap (λ e. rom_in (sent_in e i list serial host)) line
    ∙ on (nat_eq i i) (acted action (operation_of action) list serial host) (goes_on host.operation serial host) (same_number i)
    ∙ acted_rom action list serial host

-- ---- what it tells
abbrev pub note_rom : Note → Rom → Rom
note_rom (notes.Op j operation word) r = left_rom operation word r
note_rom note r = r

abbrev pub told_rom : List Note → Rom → Rom
told_rom [] r = r
told_rom (note ∷ later) r = told_rom later (note_rom note r)

-- notes of initiator i that are no packets
abbrev pub is_own : ℕ → Note → Bool
is_own i (notes.Begin initiators ready) = false
is_own i (notes.Got serial) = false
is_own i (notes.Op j operation word) = j == i
is_own i (notes.Sent serial generation from to bytes) = false
is_own i note = true

abbrev pub AllOwn : ℕ → List Note → Type 0
AllOwn i [] = Unit {0}
AllOwn i (note ∷ rest) = (is_own i note ≡ true) × AllOwn i rest

pub own_both : (i : ℕ) (a b : List Note) → AllOwn i a → AllOwn i b → AllOwn i (a ++ b)
own_both i [] b h k = k
own_both i (note ∷ a) b h k = (h.0, own_both i a b h.1 k)

own_rom : (note : Note) (past : List Moment) (i : ℕ) → is_own i note ≡ true → rom_at (said note ∷ past) i ≡ note_rom note (rom_at past i)
own_rom (notes.Begin initiators ready) past i e = untrue e
own_rom (notes.Got serial) past i e = untrue e
own_rom (notes.Sent serial generation from to bytes) past i e = untrue e
own_rom (notes.Op j operation word) past i e = on (nat_eq j i) (op_ended operation word (host_at past i)) (host_at past i) e ∙ ended_rom operation word (host_at past i)
own_rom note past i e = beside_rom note past i refl

pub all_told : (ns old : List Note) (past : List Moment) (i : ℕ) → AllOwn i ns → rom_at (map said (onto ns old) ++ past) i ≡ told_rom ns (rom_at (map said old ++ past) i)
all_told [] old past i h = refl
all_told (note ∷ ns) old past i h = all_told ns (note ∷ old) past i h.1 ∙ ap (told_rom ns) (own_rom note (map said old ++ past) i h.0)

-- which leaves that of another one
other_note : (note : Note) (i j : ℕ) → (i == j) ≡ false → is_own i note ≡ true → is_beside j note ≡ true
other_note (notes.Begin initiators ready) i j away e = untrue e
other_note (notes.Got serial) i j away e = untrue e
other_note (notes.Sent serial generation from to bytes) i j away e = untrue e
other_note (notes.Op m operation word) i j away e = (let x : (m == j) ≡ false = grind (arith, nat_tests) in ap not x)
other_note note i j away e = refl

pub others_told : (ns : List Note) (i j : ℕ) → (i == j) ≡ false → AllOwn i ns → AllBeside j ns
others_told [] i j away h = tt
others_told (note ∷ ns) i j away h = (other_note note i j away h.0, others_told ns i j away h.1)
