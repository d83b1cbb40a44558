-- Whether the ORB_POINTER write of the present list of an initiator was answered, and whether that list is marked dead, by the terms: each note of another one leaves both, and what its own notes make of both.
use Rattle.std.proofs.Common.{arith, ◌≡◌, refl, sym, ◌∙◌, ap, ℕ, zero, suc, ◌==◌, ◌&&◌, ◌||◌, nat_eq, not, Bool, true, false, cond, List, [], ◌∷◌, ◌++◌, Option, Some, None}
use Rattle.std.proofs.lemmas.Bool.Decides.{nat_tests}
use Rattle.orb_layout.specs.Replies.{Answer, Payload, Done, Refused, Expired, NoLabel}
use Rattle.orb_layout.specs.StatusBlocks.{row_of}
use Rattle.sbp_initiator.specs.Histories.Ends.{OpEnd, drops, notes_of, ops, own, state_ops, sticks}
use Rattle.sbp_initiator.specs.Histories.Taking.{block_notes}
use Rattle.sbp_initiator.specs.Refusals.{rings}
use Rattle.sbp_initiator.specs.States.{is_answered}
use Rattle.sbp_initiator.specs.declared.state.InitiatorState.{InitiatorState}
use Rattle.sbp_journal.specs.Run.{Moment, said}
use Rattle.sbp_journal.specs.Transactions.{Sending}
use Rattle.sbp_journal.specs.Wire.{Terms, terms}
use Rattle.sbp_journal.specs.declared.event.Action.{Action}
use Rattle.sbp_journal.specs.declared.event.Action.TheVariants as actions
use Rattle.sbp_journal.specs.declared.note.Note.{Note}
use Rattle.sbp_journal.specs.declared.note.Note.TheVariants as notes
use Rattle.sbp_journal.specs.declared.operation.Operation.{Operation}
use Rattle.sbp_journal.specs.declared.operation.Operation.TheVariants as operations
use Rattle.sbp_journal.specs.declared.operation.OpWord.{OpWord}
use Rattle.sbp_journal.specs.declared.operation.OpWord.TheVariants as words
use Rattle.sbp_laws.specs.Hosts.{Host, Underway, acted, got_by, goes_on, host_at, is_serial, known_host, list_begins, op_ended, operation_of, pointer_answered, reset_seen, ring, says_dead}
use Rattle.sbp_laws.specs.Lists.{present_list}
use Rattle.sbp_laws.specs.Packets.{answer_in, answered_at, packet_at, receiver_in, sender_in}
use Rattle.sbp_laws.specs.Turns.{event_of}
use Rattle.sbp_world.proofs.Common.{cond_off, cond_on, itself, untrue}
use Rattle.sbp_world.proofs.Hosts.Carries.{IsNoAct, is_apart}
use Rattle.sbp_world.proofs.Hosts.Cores.{wire_is}
use Rattle.sbp_world.proofs.Hosts.Shown.{IsElsewhere}
use Rattle.sbp_world.specs.Hosts.Calls.{behind}
use Rattle.sbp_world.proofs.Hosts.HostReads.{apart_host, sent_same}
use Rattle.turn_laws.proofs.HostTold.{told_notes}

pub record Marks : Type 0 where
  pub pointed : Bool
  pub dead : Bool

abbrev pub marks : Bool → Bool → Marks
marks pointed dead = record { pointed = pointed; dead = dead }

abbrev pub marks_in : Host → Marks
marks_in host = marks host.pointed host.marked_dead

abbrev pub marks_at : List Moment → ℕ → Marks
marks_at past i = marks_in (host_at past i)

-- those that an initiator has
abbrev pub own_marks : InitiatorState → Marks
own_marks s = marks (is_answered s.marks.pointing) s.marks.is_dead

same_if : (b : Bool) (x y : Host) → marks_in x ≡ marks_in y → marks_in (cond b x y) ≡ marks_in y
same_if true x y e = e
same_if false x y e = refl

ended_marks : (operation : Operation) (word : OpWord) (host : Host) → marks_in (op_ended operation word host) ≡ marks_in host
ended_marks operations.Rom words.Done host = refl
ended_marks operations.Login words.Done host = refl
ended_marks operations.State word host = refl
ended_marks _ _ host = refl

-- ---- the notes that say nothing of it
reset_marks : (b : Bool) (host : Host) → marks_in (reset_seen b host) ≡ marks_in host
reset_marks true host = refl
reset_marks false host = refl

pub apart_marks : (note : Note) (past : List Moment) (i : ℕ) → is_apart i note ≡ true → IsElsewhere past i note → marks_at (said note ∷ past) i ≡ marks_at past i
apart_marks note past i e w = ap marks_in (apart_host note past i e w)

pub late_marks : (serial : ℕ) (past : List Moment) (i : ℕ) → marks_at (said (notes.TimedOut serial) ∷ past) i ≡ marks_at past i
late_marks serial past i = same_if (is_serial (sender_in ((known_host past i).wire.sent serial)) (suc i)) _ (host_at past i) refl

pub seen_marks : (node generation : ℕ) (past : List Moment) (i : ℕ) → marks_at (said (notes.Seen node generation) ∷ past) i ≡ marks_at past i
seen_marks node generation past i =
    let b = not (nat_eq generation ((known_host past i).wire.generation node)) in
    same_if (nat_eq node (suc i)) (reset_seen b (host_at past i)) (host_at past i) (reset_marks b (host_at past i))

-- a packet that leaves in a line that is no action of it
goes_marks : (u : Option Underway) (serial : ℕ) (host : Host) → marks_in (goes_on u serial host) ≡ marks_in host
goes_marks None serial host = refl
goes_marks (Some underway) serial host = refl

pub sent_marks : (serial generation from to : ℕ) (bytes : List ℕ) (past : List Moment) (i : ℕ) → IsNoAct i (event_of past) → marks_at (said (notes.Sent serial generation from to bytes) ∷ past) i ≡ marks_at past i
sent_marks = sent_same marks_in goes_marks

-- ---- the request of an action: where one writes ORB_POINTER, none was written before
ring_marks : (pointer : Option ℕ) (serial : ℕ) (host : Host) → (pointer ≡ None → host.pointed ≡ false) → marks_in (ring pointer serial host) ≡ marks_in host
ring_marks None serial host f = ap (λ b. marks b host.marked_dead) (sym (f refl))
ring_marks (Some first) serial host f = refl

pub acted_marks : (action : Action) (list : Option ℕ) (serial : ℕ) (host : Host) → (rings action ≡ true → host.pointer ≡ None → host.pointed ≡ false) → marks_in (acted action (operation_of action) list serial host) ≡ marks_in host
acted_marks (actions.Append cmd) list serial host f = ring_marks host.pointer serial host (f refl)
acted_marks actions.Ring list serial host f = ring_marks host.pointer serial host (f refl)
acted_marks actions.State list serial host f = refl
acted_marks actions.Rom list serial host f = refl
acted_marks (actions.Login unit reconnect exclusive password) list serial host f = refl
acted_marks (actions.Query unit) list serial host f = refl
acted_marks actions.Reconnect list serial host f = refl
acted_marks actions.Logout list serial host f = refl
acted_marks (actions.Abort k) list serial host f = refl
acted_marks actions.AbortSet list serial host f = refl
acted_marks actions.UnitReset list serial host f = refl
acted_marks actions.TargetReset list serial host f = refl
acted_marks actions.AgentReset list serial host f = refl
acted_marks actions.Enable list serial host f = refl
acted_marks (actions.Dummy k) list serial host f = refl
acted_marks (actions.Put cmd) list serial host f = refl
acted_marks actions.Low list serial host f = refl
acted_marks actions.Link list serial host f = refl

-- ---- a packet is got
abbrev pub is_done : Answer → Bool
is_done Done = true
is_done answer = false

-- what it says of both, where it answers a request
abbrev pub points_by : Option ℕ → Answer → Host → Bool
points_by None answer host = false
points_by (Some own) answer host = is_done answer && is_serial host.pointer own

abbrev pub dead_by : Option ℕ → Answer → Option ℕ → Host → Bool
dead_by None answer present host = false
dead_by (Some own) answer present host = says_dead answer own present host.reads

-- of what its initiator got
abbrev pub points_at : List Moment → (serial i : ℕ) → Bool
points_at past serial i = points_by (answered_at (terms past) serial) (answer_in (packet_at (terms past) serial)) (host_at past i)

abbrev pub dead_at : List Moment → (serial i : ℕ) → Bool
dead_at past serial i = dead_by (answered_at (terms past) serial) (answer_in (packet_at (terms past) serial)) (present_list past i) (host_at past i)

pointed_by : (answer : Answer) (mine : Bool) (host : Host) → (pointer_answered answer mine host).pointed ≡ ((is_done answer && mine) || host.pointed)
pointed_by Done true host = refl
pointed_by Done false host = refl
pointed_by (Payload bytes) mine host = refl
pointed_by (Refused rcode) mine host = refl
pointed_by Expired mine host = refl
pointed_by NoLabel mine host = refl

pub or_none : (b : Bool) → b ≡ (b || false)
or_none true = refl
or_none false = refl

got_by_marks : (found : Option ℕ) (wire : Terms) (serial : ℕ) (present : Option ℕ) (host : Host)
    → (let answer = answer_in (packet_at wire serial) in marks_in (got_by found wire serial present host) ≡ marks (points_by found answer host || host.pointed) (host.marked_dead || dead_by found answer present host))
got_by_marks None wire serial present host = ap (λ b. marks host.pointed b) (or_none host.marked_dead)
got_by_marks (Some n) wire serial present host = ap (λ b. marks b (host.marked_dead || says_dead (answer_in (packet_at wire serial)) n present host.reads)) (pointed_by (answer_in (packet_at wire serial)) (is_serial host.pointer n) host)

pub got_marks : (serial : ℕ) (packet : Sending) (past : List Moment) (i : ℕ) → (terms past).sent serial ≡ Some packet → packet.to ≡ suc i
    → marks_at (said (notes.Got serial) ∷ past) i ≡ marks (points_at past serial i || (host_at past i).pointed) ((host_at past i).marked_dead || dead_at past serial i)
got_marks serial packet past i sent to_is =
    let host = host_at past i in
    ap (λ (t : Terms). marks_in (cond (is_serial (receiver_in (t.sent serial)) (suc i)) (got_by (answered_at t serial) t serial (present_list past i) host) host)) (wire_is past i)
    ∙ ap marks_in (cond_on (is_serial (receiver_in ((terms past).sent serial)) (suc i)) (got_by (answered_at (terms past) serial) (terms past) serial (present_list past i) host) host
    (ap (λ so. is_serial (receiver_in so) (suc i)) sent ∙ ap (λ n. nat_eq n (suc i)) to_is ∙ itself (suc i)))
    ∙ got_by_marks (answered_at (terms past) serial) (terms past) serial (present_list past i) host

-- ---- what an initiator tells
-- a note of initiator i
abbrev pub is_of : ℕ → Note → Bool
is_of i (notes.Append j n k cdb buffer) = j == i
is_of i (notes.Low j n k) = j == i
is_of i (notes.Linked j n k) = j == i
is_of i (notes.Rung j n k) = j == i
is_of i (notes.Dummied j n k) = j == i
is_of i (notes.Taken j n k status answer) = j == i
is_of i (notes.Drop j n) = j == i
is_of i (notes.Op j operation word) = j == i
is_of i (notes.Stuck j) = j == i
is_of i (notes.Told j) = j == i
is_of i _ = false

abbrev pub AllOf : ℕ → List Note → Type 0
AllOf i [] = Unit {0}
AllOf i (note ∷ later) = (is_of i note ≡ true) × AllOf i later

pub all_both : (i : ℕ) (a b : List Note) → AllOf i a → AllOf i b → AllOf i (a ++ b)
all_both i [] b p q = q
all_both i (note ∷ a) b p q = (p.0, all_both i a b p.1 q)

abbrev pub begun_with : ℕ → Marks → Marks
begun_with zero m = marks false false
begun_with (suc k) m = m

-- what such a note makes of both
abbrev pub note_marks : Note → Marks → Marks
note_marks (notes.Append j n k cdb buffer) m = begun_with k m
note_marks (notes.Drop j n) m = marks false false
note_marks (notes.Taken j n k status answer) m = marks m.pointed (m.dead || ((row_of status).dead == 1))
note_marks _ m = m

abbrev pub marks_behind : List Note → Marks → Marks
marks_behind [] m = m
marks_behind (note ∷ later) m = marks_behind later (note_marks note m)

pub behind_both : (a b : List Note) (m : Marks) → marks_behind (a ++ b) m ≡ marks_behind b (marks_behind a m)
behind_both [] b m = refl
behind_both (note ∷ a) b m = behind_both a b (note_marks note m)

begins_marks : (k : ℕ) (host : Host) → marks_in (list_begins k host) ≡ begun_with k (marks_in host)
begins_marks zero host = refl
begins_marks (suc k) host = refl

one_marks : (note : Note) (past : List Moment) (i : ℕ) → is_of i note ≡ true → marks_at (said note ∷ past) i ≡ note_marks note (marks_at past i)
one_marks (notes.Append j n k cdb buffer) past i e = ap marks_in (cond_on (nat_eq j i) (list_begins k (host_at past i)) (host_at past i) e) ∙ begins_marks k (host_at past i)
one_marks (notes.Low j n k) past i e = refl
one_marks (notes.Linked j n k) past i e = refl
one_marks (notes.Rung j n k) past i e = refl
one_marks (notes.Dummied j n k) past i e = refl
one_marks (notes.Taken j n k status answer) past i e = ap marks_in (cond_on (nat_eq j i) _ (host_at past i) e)
one_marks (notes.Drop j n) past i e = ap marks_in (cond_on (nat_eq j i) (list_begins zero (host_at past i)) (host_at past i) e)
one_marks (notes.Op j operation word) past i e = same_if (nat_eq j i) (op_ended operation word (host_at past i)) (host_at past i) (ended_marks operation word (host_at past i))
one_marks (notes.Stuck j) past i e = same_if (nat_eq j i) _ (host_at past i) refl
one_marks (notes.Told j) past i e = refl
one_marks _ past i e = untrue e

pub own_marks_behind : (ns : List Note) (past : List Moment) (i : ℕ) → AllOf i ns → marks_at (behind (own ns) past) i ≡ marks_behind ns (marks_at past i)
own_marks_behind [] past i h = refl
own_marks_behind (note ∷ later) past i h = own_marks_behind later (said note ∷ past) i h.1 ∙ ap (marks_behind later) (one_marks note past i h.0)

-- of another one
elsewhere : (k i j : ℕ) → nat_eq k i ≡ true → nat_eq j i ≡ false → nat_eq k j ≡ false
elsewhere k i j e f = grind (arith, nat_tests)

other_one : (note : Note) (past : List Moment) (i j : ℕ) → is_of i note ≡ true → nat_eq j i ≡ false → host_at (said note ∷ past) j ≡ host_at past j
other_one (notes.Append m n k cdb buffer) past i j e f = cond_off (nat_eq m j) (list_begins k (host_at past j)) (host_at past j) (elsewhere m i j e f)
other_one (notes.Low m n k) past i j e f = refl
other_one (notes.Linked m n k) past i j e f = refl
other_one (notes.Rung m n k) past i j e f = refl
other_one (notes.Dummied m n k) past i j e f = refl
other_one (notes.Taken m n k status answer) past i j e f = cond_off (nat_eq m j) _ (host_at past j) (elsewhere m i j e f)
other_one (notes.Drop m n) past i j e f = cond_off (nat_eq m j) (list_begins zero (host_at past j)) (host_at past j) (elsewhere m i j e f)
other_one (notes.Op m operation word) past i j e f = cond_off (nat_eq m j) (op_ended operation word (host_at past j)) (host_at past j) (elsewhere m i j e f)
other_one (notes.Stuck m) past i j e f = cond_off (nat_eq m j) _ (host_at past j) (elsewhere m i j e f)
other_one (notes.Told m) past i j e f = refl
other_one _ past i j e f = untrue e

pub others_host : (ns : List Note) (past : List Moment) (i j : ℕ) → AllOf i ns → nat_eq j i ≡ false → host_at (behind (own ns) past) j ≡ host_at past j
others_host [] past i j h f = refl
others_host (note ∷ later) past i j h f = others_host later (said note ∷ past) i j h.1 f ∙ other_one note past i j h.0 f

-- ---- what a delivery or a time-out tells
abbrev pub dropped : Option ℕ → Marks → Marks
dropped None m = m
dropped (Some n) m = marks false false

-- of the block that it brings
abbrev pub taken : Option Note → Marks → Marks
taken None m = m
taken (Some note) m = note_marks note m

drops_marks : (number : ℕ) (drop : Option ℕ) (m : Marks) → marks_behind (drops number drop) m ≡ dropped drop m
drops_marks number None m = refl
drops_marks number (Some n) m = refl

ops_marks : (number : ℕ) (op : Option OpEnd) (m : Marks) → marks_behind (ops number op) m ≡ m
ops_marks number None m = refl
ops_marks number (Some end) m = refl

state_marks : (number : ℕ) (word : Option OpWord) (m : Marks) → marks_behind (state_ops number word) m ≡ m
state_marks number None m = refl
state_marks number (Some word) m = refl

sticks_marks : (number : ℕ) (b : Bool) (m : Marks) → marks_behind (sticks number b) m ≡ m
sticks_marks number true m = refl
sticks_marks number false m = refl

notes_marks : (number : ℕ) (drop : Option ℕ) (op : Option OpEnd) (state : Option OpWord) (stuck : Bool) (m : Marks) → marks_behind (notes_of number drop op state stuck) m ≡ dropped drop m
notes_marks number drop op state stuck m =
    behind_both (drops number drop) (ops number op ++ (state_ops number state ++ sticks number stuck)) m
    ∙ ap (marks_behind (ops number op ++ (state_ops number state ++ sticks number stuck))) (drops_marks number drop m)
    ∙ behind_both (ops number op) (state_ops number state ++ sticks number stuck) (dropped drop m)
    ∙ ap (marks_behind (state_ops number state ++ sticks number stuck)) (ops_marks number op (dropped drop m))
    ∙ behind_both (state_ops number state) (sticks number stuck) (dropped drop m)
    ∙ ap (marks_behind (sticks number stuck)) (state_marks number state (dropped drop m))
    ∙ sticks_marks number stuck (dropped drop m)

block_marks : (first : Option Note) (m : Marks) → marks_behind (block_notes first) m ≡ taken first m
block_marks None m = refl
block_marks (Some note) m = refl

pub told_marks : (number : ℕ) (first : Option Note) (drop : Option ℕ) (op : Option OpEnd) (state : Option OpWord) (stuck : Bool) (m : Marks) → marks_behind (told_notes number first drop op state stuck) m ≡ dropped drop (taken first m)
told_marks number first drop op state stuck m =
    behind_both (block_notes first) (notes_of number drop op state stuck) m ∙ notes_marks number drop op state stuck (marks_behind (block_notes first) m) ∙ ap (dropped drop) (block_marks first m)

drops_of : (number : ℕ) (drop : Option ℕ) → AllOf number (drops number drop)
drops_of number None = tt
drops_of number (Some n) = (itself number, tt)

ops_of : (number : ℕ) (op : Option OpEnd) → AllOf number (ops number op)
ops_of number None = tt
ops_of number (Some end) = (itself number, tt)

states_of : (number : ℕ) (word : Option OpWord) → AllOf number (state_ops number word)
states_of number None = tt
states_of number (Some word) = (itself number, tt)

sticks_of : (number : ℕ) (b : Bool) → AllOf number (sticks number b)
sticks_of number true = (itself number, tt)
sticks_of number false = tt

abbrev pub IfOf : ℕ → Option Note → Type 0
IfOf number None = Unit {0}
IfOf number (Some note) = is_of number note ≡ true

block_of : (number : ℕ) (first : Option Note) → IfOf number first → AllOf number (block_notes first)
block_of number None f = tt
block_of number (Some note) f = (f, tt)

pub told_of_it : (number : ℕ) (first : Option Note) (drop : Option ℕ) (op : Option OpEnd) (state : Option OpWord) (stuck : Bool) → IfOf number first → AllOf number (told_notes number first drop op state stuck)
told_of_it number first drop op state stuck f =
    all_both number (block_notes first) _ (block_of number first f)
    (all_both number (drops number drop) _ (drops_of number drop)
    (all_both number (ops number op) _ (ops_of number op) (all_both number (state_ops number state) (sticks number stuck) (states_of number state) (sticks_of number stuck))))
