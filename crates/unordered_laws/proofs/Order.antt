-- The fetcher reads the ORBs of a list in their order.
use Rattle.std.proofs.Common.{◌≡◌, refl, ap, sym, subst, ◌∙◌, inl, inr, ℕ, ◌==◌, ◌<◌, length, nat_lt, Bool, true, false, cond, List, [], ◌∷◌, ◌++◌, slice_set, is_some, Option, Some, None, Result, Ok, Err, arith}
use Rattle.std.proofs.lemmas.Bool.Decides.{nat_tests}
use Rattle.std.proofs.lemmas.List.Quantifiers.{position-Some}
use Rattle.orb_layout.specs.declared.ask.Ask.{Ask}
use Rattle.orb_layout.specs.declared.ask.Ask.TheVariants.{Read, Write, Nothing}
use Rattle.orb_layout.specs.declared.ask.FailCause.{FailCause}
use Rattle.orb_layout.specs.declared.pointer.OrbPointer.{OrbPointer}
use Rattle.orb_layout.specs.declared.pointer.OrbPointer.TheVariants.{Null, At}
use Rattle.orb_layout.specs.declared.status.StatusKind.{StatusKind}
use Rattle.orb_layout.specs.Pointers.{pointer_at}
use Rattle.orb_layout.specs.Replies.{Answer, payload_of, write_failure}
use Rattle.rbc_disk.specs.declared.command.Outcome.{Outcome}
use Rattle.rbc_disk.specs.Units.{PlainDisk}
use Rattle.rbc_disk.specs.Runs.{Told}
use Rattle.command_agent.specs.declared.step.AgentStep.{AgentStep}
use Rattle.command_agent.specs.declared.step.Which.TheVariants.{Main}
use Rattle.command_agent.specs.Machine.{Machine, new_machine, is_under_way, aligned}
use Rattle.command_agent.specs.Steps as agent
use Rattle.command_agent.specs.Tasks.{begin_step, writes_status}
use Rattle.unordered_agent.specs.declared.fetcher.FetchPhase.{FetchPhase}
use Rattle.unordered_agent.specs.declared.fetcher.FetchPhase.TheVariants as phases
use Rattle.unordered_agent.specs.declared.fetcher.Fetcher.{Fetcher}
use Rattle.unordered_agent.specs.declared.step.TaskStep.{TaskStep}
use Rattle.unordered_agent.specs.Machine.{TaskMachine, both, task_at, state_in, is_free, is_busy, is_reading, lowest_free, has_free, FetchRule}
use Rattle.unordered_agent.specs.Fetching.{reread, followed, seated, died}
use Rattle.unordered_agent.specs.Steps.{asked, quiet, takes_pointer, pointed, doorbell_in, point_step, doorbell_step, reset_all_step, reply_step, settled, goes_on, orb_read, pointer_read, next_read, fetch_replied, released, status_written, worked, task_replied, or_none, place_of, with_task}
use Rattle.unordered_laws.specs.Calls.{Call, Point, Doorbell, Reset, Reply, after_call, after_calls, replied}
use Rattle.unordered_laws.specs.Notes.{Note, Rung, Came, Got, Reread, Sent, ask_of, read_by, reading_in, address_of, next_by, reread_notes, fetch_notes, answer_notes, heard_at, heard, ran_notes, end_notes, death_notes, step_notes, point_notes, noted, notes, is_open, is_dead}
use Rattle.unordered_laws.specs.Order.{named, first_in, relinked, orbs_in, next_of, last_of, IsChain, Reads, CallsKeepOrder, CallsReadInOrder}
use Rattle.unordered_laws.specs.Stages.{newest_in}
use Rattle.unordered_laws.specs.Fetches.{rung_since}
use Rattle.unordered_laws.proofs.Rules.{Sound, refused, calls_sound}
use Rattle.unordered_laws.proofs.Tells.{begin_tells}

-- what is read off notes
pub record Seen : Type 0 where
  pub first : Option ℕ
  pub orbs : List (ℕ × OrbPointer)
  pub reading : Option (ℕ × ℕ)
  pub rung : Bool
  pub opened : Bool
  pub dead : Bool
  pub newest : ℕ

abbrev pub seen : List Note → Seen
seen ns = record { first = first_in ns; orbs = orbs_in ns; reading = reading_in ns; rung = rung_since ns; opened = is_open ns; dead = is_dead ns; newest = newest_in ns }

-- the last ORB that was fetched is this one, with this next pointer
abbrev pub LastIs : ℕ → OrbPointer → List (ℕ × OrbPointer) → Type 0
LastIs orb next [] = ⊥
LastIs orb next ((at, link) ∷ before) = (at ≡ orb) × (link ≡ next)

-- while a list is open and the agent is not dead
pub record Live (f : Fetcher) (s : Seen) : Type 0 where
  pub opened : s.opened ≡ true
  pub dead : s.dead ≡ false
  pub bell : s.rung ≡ f.doorbell

pub record Fetching (f : Fetcher) (s : Seen) : Type 0 where
  pub live : Live f s
  pub even : aligned f.orb ≡ f.orb
  pub next : next_of s.first s.orbs ≡ Some f.orb
  pub reading : s.reading ≡ Some (f.orb, 32)

pub record Last (reading : Option (ℕ × ℕ)) (f : Fetcher) (s : Seen) : Type 0 where
  pub live : Live f s
  pub last : LastIs f.orb f.next s.orbs
  pub reads : s.reading ≡ reading

pub record Closed (s : Seen) : Type 0 where
  pub opened : s.opened ≡ false
  pub dead : s.dead ≡ false
  pub idle : s.reading ≡ None

pub record Gone (s : Seen) : Type 0 where
  pub dead : s.dead ≡ true
  pub idle : s.reading ≡ None

abbrev pub KeepsBy : FetchPhase → Fetcher → Seen → Type 0
KeepsBy phases.Reset f s = Closed s
KeepsBy phases.Fetching f s = Fetching f s
KeepsBy phases.ReadingNext f s = Last (Some (f.orb, 8)) f s
KeepsBy phases.Waiting f s = Last None f s
KeepsBy phases.AtEnd f s = Last None f s
KeepsBy phases.Dead f s = Gone s

abbrev size_of : Option (ℕ × ℕ) → ℕ
size_of None = 0
size_of (Some (offset, size)) = size

pub last_is : (orb : ℕ) (next : OrbPointer) (orbs : List (ℕ × OrbPointer)) → LastIs orb next orbs → last_of orbs ≡ Some orb
last_is orb next [] l = absurd l
last_is orb next ((at, link) ∷ before) l = ap (λ (n : ℕ). Some n) l.0

pub record Known (f : Fetcher) (s : Seen) : Type 0 where
  pub order : IsChain s.first s.orbs
  pub newest : s.newest ≡ f.newest
  pub row : KeepsBy f.phase f s

-- the notes of a step
told_seen : (q : ℕ) (ran : Option Outcome) (ended : Option StatusKind) (bytes : List ℕ) (ns : List Note) → seen (end_notes q ended bytes (ran_notes q ran ns)) ≡ seen ns
told_seen q None None bytes ns = refl
told_seen q (Some outcome) None bytes ns = refl
told_seen q None (Some kind) bytes ns = refl
told_seen q (Some outcome) (Some kind) bytes ns = refl

abbrev pub some_ask : Ask → Option Ask
some_ask Nothing = None
some_ask ask = Some ask

asked_by : (ask : Ask) → ask_of 8 (asked 8 ask) ≡ some_ask ask
asked_by Nothing = refl
asked_by (Read offset size) = refl
asked_by (Write offset size) = refl

ask_in : (place : ℕ) (ask next : Ask) → (place == 8) ≡ false → ask_of 8 (asked place ask ++ asked 8 next) ≡ some_ask next
ask_in place Nothing next e = asked_by next
ask_in place (Read offset size) next e = ap (λ (b : Bool). cond b (Some (Read offset size)) (ask_of 8 (asked 8 next))) e ∙ asked_by next
ask_in place (Write offset size) next e = ap (λ (b : Bool). cond b (Some (Write offset size)) (ask_of 8 (asked 8 next))) e ∙ asked_by next

abbrev sent_by : Option Ask → Seen → Seen
sent_by ask s = record s { reading = read_by ask s.reading; rung = cond (is_some ask) false s.rung }

abbrev pub sent_seen : Ask → Seen → Seen
sent_seen ask s = sent_by (some_ask ask) s

abbrev pub death_seen : Option FailCause → Seen → Seen
death_seen None s = s
death_seen (Some cause) s = record s { reading = None; dead = true }

died_seen : (dead : Option FailCause) (ns : List Note) → seen (death_notes dead ns) ≡ death_seen dead (seen ns)
died_seen None ns = refl
died_seen (Some cause) ns = refl

-- a step whose fetcher asks for this
step_seen : (place : ℕ) (step : TaskStep) (bytes : List ℕ) (next : Ask) (ns : List Note) → ask_of 8 step.asks ≡ some_ask next → seen (step_notes place step bytes ns) ≡ death_seen step.dead (sent_seen next (seen ns))
step_seen place step bytes next ns e =
    died_seen step.dead (Sent step.asks ∷ end_notes place step.ended bytes (ran_notes place step.ran ns))
    ∙ ap (λ (ask : Option Ask). death_seen step.dead (sent_by ask (seen (end_notes place step.ended bytes (ran_notes place step.ran ns))))) e
    ∙ ap (λ (s : Seen). death_seen step.dead (sent_seen next s)) (told_seen place step.ran step.ended bytes ns)

-- a pointer is even
even : (next : ℕ) → aligned (aligned next) ≡ aligned next
even next = omega arith

-- the fetcher goes on behind an ORB
pub next_last : (orb : ℕ) (next : OrbPointer) (first : Option ℕ) (orbs : List (ℕ × OrbPointer)) → LastIs orb next orbs → next_of first orbs ≡ named next
next_last orb next first [] l = absurd l
next_last orb next first ((at, link) ∷ before) l = ap named l.1

fetched_on : (has_place : Bool) (next : ℕ) (f : Fetcher) (s : Seen) → f.next ≡ At next → IsChain s.first s.orbs → s.newest ≡ f.newest → Last None f s
    → Known (followed (At next) f has_place).1 (sent_seen (followed (At next) f has_place).0 s)
fetched_on true next f s e c n l = record {
  order = c;
  newest = n;
  row = record {
    live = record { opened = l.live.opened; dead = l.live.dead; bell = refl };
    even = even next;
    next = next_last f.orb f.next s.first s.orbs l.last ∙ ap named e;
    reading = refl;
  };
}
fetched_on false next f s e c n l = record { order = c; newest = n; row = record { live = record { opened = l.live.opened; dead = l.live.dead; bell = l.live.bell }; last = l.last; reads = l.reads } }

waited_on : (mark : Bool) (f : Fetcher) (s : Seen) → f.doorbell ≡ mark → IsChain s.first s.orbs → s.newest ≡ f.newest → Last None f s
    → Known (cond mark (reread f) (Nothing, record f { phase = phases.AtEnd })).1 (sent_seen (cond mark (reread f) (Nothing, record f { phase = phases.AtEnd })).0 s)
waited_on true f s e c n l = record { order = c; newest = n; row = record { live = record { opened = l.live.opened; dead = l.live.dead; bell = refl }; last = l.last; reads = refl } }
waited_on false f s e c n l = record { order = c; newest = n; row = record { live = record { opened = l.live.opened; dead = l.live.dead; bell = l.live.bell }; last = l.last; reads = l.reads } }

follow_on : (next : OrbPointer) (has_place : Bool) (f : Fetcher) (s : Seen) → f.next ≡ next → IsChain s.first s.orbs → s.newest ≡ f.newest → Last None f s
    → Known (followed next f has_place).1 (sent_seen (followed next f has_place).0 s)
follow_on (At next) has_place f s e c n l = fetched_on has_place next f s e c n l
follow_on Null has_place f s e c n l = waited_on f.doorbell f s refl c n l

go_on : (dead : Option FailCause) (f : Fetcher) (tasks : List Machine) (s : Seen) → IsChain s.first s.orbs → s.newest ≡ f.newest → Last None f s
    → Known (goes_on dead (both f tasks)).1.fetcher (death_seen dead (sent_seen (goes_on dead (both f tasks)).0 s))
go_on None f tasks s c n l = follow_on f.next (has_free tasks) f s refl c n l
go_on (Some cause) f tasks s c n l = record { order = c; newest = n; row = record { dead = refl; idle = refl } }

-- the agent became dead
gone_on : (f : Fetcher) (s : Seen) → Known f s → Known (died f) (record s { reading = None; dead = true })
gone_on f s k = record { order = k.order; newest = k.newest; row = record { dead = refl; idle = refl } }

settled_on : (dead : Option FailCause) (s : TaskMachine) (x : Seen) → Known s.fetcher x → Known (settled dead s).fetcher (death_seen dead x)
settled_on None s x k = k
settled_on (Some cause) s x k = gone_on s.fetcher x k

-- what a reply leaves and tells
record After (place : ℕ) (bytes : List ℕ) (r : TaskStep × TaskMachine) (ns : List Note) : Type 0 where
  known : Known r.1.fetcher (seen (step_notes place r.0 bytes ns))

after_by : (place : ℕ) (bytes : List ℕ) (r : TaskStep × TaskMachine) (ns : List Note) (next : Ask) (x : Seen) → ask_of 8 r.0.asks ≡ some_ask next → seen ns ≡ x → Known r.1.fetcher (death_seen r.0.dead (sent_seen next x)) → After place bytes r ns
after_by place bytes r ns next x e h k = record {
  known = subst (λ (y : Seen). Known r.1.fetcher y) (sym (step_seen place r.0 bytes next ns e ∙ ap (λ (y : Seen). death_seen r.0.dead (sent_seen next y)) h)) k;
}

found_low : (tasks : List Machine) → length tasks ≡ 8 → (found : Option ℕ) → lowest_free tasks ≡ found → is_some found ≡ true → or_none found < 8
found_low tasks size None e some = cc some
found_low tasks size (Some q) e some = let low : q < length tasks = (position-Some is_free tasks q new_machine e).0 in omega arith

-- an ORB was read, or its read failed
orb_known : (found : Option ℕ) (s : TaskMachine) (login : ℕ) (plain : PlainDisk) (told : Option Told) (answer : Answer) (bytes : List ℕ) (ns : List Note) → is_some found ≡ true → or_none found < 8 → Known s.fetcher (seen ns) → Fetching s.fetcher (seen ns)
    → After (or_none found) bytes (orb_read s login plain told answer found) (Got (or_none found) (address_of (reading_in ns)) (next_by (payload_of answer 32)) ∷ Came 8 ∷ ns)
orb_known None s login plain told answer bytes ns some low k r = cc some
orb_known (Some q) s login plain told answer bytes ns some low k r =
    let t : AgentStep × Machine = begin_step (task_at s q) login plain told s.fetcher.orb answer in
    let f : Fetcher = seated s.fetcher q t.1.orb.next in
    let ts : List Machine = slice_set s.tasks q t.1 in
    let at : address_of (reading_in ns) ≡ s.fetcher.orb = ap address_of r.reading in
    let ms : List Note = Got q (address_of (reading_in ns)) (next_by (payload_of answer 32)) ∷ Came 8 ∷ ns in
    after_by q bytes (orb_read s login plain told answer (Some q)) ms (goes_on t.0.dead (both f ts)).0 (seen ms)
    (ask_in q t.0.ask (goes_on t.0.dead (both f ts)).0 (grind (arith, nat_tests))) refl
    (go_on t.0.dead f ts (seen ms) (r.next ∙ ap (λ (orb : ℕ). Some orb) (sym at), k.order) refl
    (record {
      live = record { opened = r.live.opened; dead = r.live.dead; bell = r.live.bell };
      last = (at, sym (begin_tells (task_at s q) login plain told s.fetcher.orb answer).link);
      reads = refl;
    }))

-- the next pointer of the last ORB was read again
linked_last : (orb : ℕ) (old next : OrbPointer) (orbs : List (ℕ × OrbPointer)) → LastIs orb old orbs → LastIs orb next (relinked next orbs)
linked_last orb old next [] l = absurd l
linked_last orb old next ((at, link) ∷ before) l = (l.0, refl)

linked_chain : (first : Option ℕ) (next : OrbPointer) (orbs : List (ℕ × OrbPointer)) → IsChain first orbs → IsChain first (relinked next orbs)
linked_chain first next [] c = c
linked_chain first next ((at, link) ∷ before) c = c

next_known : (read : Result (List ℕ) FailCause) (s : TaskMachine) (place : ℕ) (answer : Answer) (bytes : List ℕ) (ns : List Note) → payload_of answer 8 ≡ read → Known s.fetcher (seen ns) → Last (Some (s.fetcher.orb, 8)) s.fetcher (seen ns)
    → After place bytes (next_read s read) (reread_notes read (Came 8 ∷ ns))
next_known (Err cause) s place answer bytes ns e k r = after_by place bytes (next_read s (Err cause)) (Came 8 ∷ ns) Nothing (seen (Came 8 ∷ ns)) refl refl
    (record { order = k.order; newest = k.newest; row = record { dead = refl; idle = refl } })
next_known (Ok read) s place answer bytes ns e k r =
    let next : OrbPointer = pointer_at read 0 in
    let ms : List Note = Reread next ∷ Came 8 ∷ ns in
    let after : TaskMachine = pointer_read s next in
    after_by place bytes (next_read s (Ok read)) ms (goes_on None after).0 (seen ms) (asked_by (goes_on None after).0) refl
    (go_on None after.fetcher after.tasks (seen ms) (linked_chain (first_in ns) next (orbs_in ns) k.order) k.newest
    (record {
      live = record { opened = r.live.opened; dead = r.live.dead; bell = r.live.bell };
      last = linked_last s.fetcher.orb s.fetcher.next next (orbs_in ns) r.last;
      reads = refl;
    }))

fetch_known : (phase : FetchPhase) (s : TaskMachine) (login : ℕ) (plain : PlainDisk) (told : Option Told) (answer : Answer) (bytes : List ℕ) (ns : List Note) → is_reading phase ≡ true → FetchRule phase s.fetcher s.tasks → length s.tasks ≡ 8
    → Known s.fetcher (seen ns) → KeepsBy phase s.fetcher (seen ns)
    → After (or_none (lowest_free s.tasks)) bytes (fetch_replied phase s login plain told answer) (fetch_notes phase (or_none (lowest_free s.tasks)) (address_of (reading_in ns)) answer (Came 8 ∷ ns))
fetch_known phases.Fetching s login plain told answer bytes ns u rule size k r = orb_known (lowest_free s.tasks) s login plain told answer bytes ns rule.0 (found_low s.tasks size (lowest_free s.tasks) refl rule.0) k r
fetch_known phases.ReadingNext s login plain told answer bytes ns u rule size k r = next_known (payload_of answer 8) s (or_none (lowest_free s.tasks)) answer bytes ns refl k r
fetch_known phases.Reset s login plain told answer bytes ns u rule size k r = cc u
fetch_known phases.Waiting s login plain told answer bytes ns u rule size k r = cc u
fetch_known phases.AtEnd s login plain told answer bytes ns u rule size k r = cc u
fetch_known phases.Dead s login plain told answer bytes ns u rule size k r = cc u

-- the transaction of a task
came_seen : (b : Bool) (place : ℕ) (ns : List Note) → (place == 8) ≡ false → seen (answer_notes b place (Came place ∷ ns)) ≡ seen ns
came_seen true place ns e = ap (λ (t : Bool). record (seen ns) { reading = cond t None (reading_in ns) }) e
came_seen false place ns e = ap (λ (t : Bool). record (seen ns) { reading = cond t None (reading_in ns) }) e

status_known : (phase : FetchPhase) (s : TaskMachine) (place : ℕ) (failure : Option FailCause) (bytes : List ℕ) (ms : List Note) (x : Seen) → seen ms ≡ x → Known s.fetcher x → KeepsBy phase s.fetcher x
    → After place bytes (status_written phase s place failure) ms
status_known phases.Dead s place failure bytes ms x e k r = after_by place bytes (quiet, released s place) ms Nothing x refl e k
status_known phase s place (Some cause) bytes ms x e k r = after_by place bytes (status_written phase s place (Some cause)) ms Nothing x refl e (gone_on s.fetcher x k)
status_known phases.Waiting s place None bytes ms x e k r =
    after_by place bytes (status_written phases.Waiting s place None) ms (goes_on None (released s place)).0 x (asked_by (goes_on None (released s place)).0) e
    (go_on None s.fetcher (released s place).tasks x k.order k.newest r)
status_known phases.Reset s place None bytes ms x e k r = after_by place bytes (quiet, released s place) ms Nothing x refl e k
status_known phases.Fetching s place None bytes ms x e k r = after_by place bytes (quiet, released s place) ms Nothing x refl e k
status_known phases.ReadingNext s place None bytes ms x e k r = after_by place bytes (quiet, released s place) ms Nothing x refl e k
status_known phases.AtEnd s place None bytes ms x e k r = after_by place bytes (quiet, released s place) ms Nothing x refl e k

task_known : (b : Bool) (s : TaskMachine) (place : ℕ) (failure : Option FailCause) (done : AgentStep × Machine) (bytes : List ℕ) (ns : List Note) → (place == 8) ≡ false → Known s.fetcher (seen ns)
    → After place bytes (cond b (status_written s.fetcher.phase s place failure) (worked s place done)) (answer_notes b place (Came place ∷ ns))
task_known true s place failure done bytes ns e k = status_known s.fetcher.phase s place failure bytes (answer_notes true place (Came place ∷ ns)) (seen ns) (came_seen true place ns e) k k.row
task_known false s place failure done bytes ns e k =
    after_by place bytes (worked s place done) (answer_notes false place (Came place ∷ ns)) Nothing (seen ns) (ask_in place done.0.ask Nothing e) (came_seen false place ns e)
    (settled_on done.0.dead (with_task s place done.1) (seen ns) k)

place_known : (b : Bool) (s : TaskMachine) (login : ℕ) (plain : PlainDisk) (told : Option Told) (place : ℕ) (answer : Answer) (bytes : List ℕ) (ns : List Note) → (place == 8) ≡ b
    → cond b (is_reading s.fetcher.phase) (cond (nat_lt place 8) (is_under_way Main (task_at s place)) false) ≡ true → Sound s → Known s.fetcher (seen ns)
    → After (cond b (or_none (lowest_free s.tasks)) place) bytes (cond b (fetch_replied s.fetcher.phase s login plain told answer) (task_replied s login plain told place answer)) (heard_at b s place answer ns)
place_known true s login plain told place answer bytes ns e u h k = fetch_known s.fetcher.phase s login plain told answer bytes ns u h.so.rule h.so.size k k.row
place_known false s login plain told place answer bytes ns e u h k =
    task_known (writes_status (task_at s place).phase) s place (write_failure answer) (agent.reply_step (task_at s place) login plain told Main answer) bytes ns e k

quiet_known : (place : ℕ) (s : TaskMachine) (bytes : List ℕ) (ns : List Note) → Known s.fetcher (seen ns) → After place bytes (quiet, s) ns
quiet_known place s bytes ns k = after_by place bytes (quiet, s) ns Nothing (seen ns) refl refl k

replied_known : (b : Bool) (s : TaskMachine) (login : ℕ) (plain : PlainDisk) (told : Option Told) (place : ℕ) (answer : Answer) (bytes : List ℕ) (ns : List Note) → is_busy place s ≡ b → Sound s → Known s.fetcher (seen ns)
    → After (place_of s place) bytes (cond b (reply_step s login plain told place answer) (quiet, s)) (heard b s place answer ns)
unfolding reply_step
replied_known true s login plain told place answer bytes ns u h k = place_known (place == 8) s login plain told place answer bytes ns refl u h k
replied_known false s login plain told place answer bytes ns u h k = quiet_known (place_of s place) s bytes ns k

-- ORB_POINTER and DOORBELL
point_known : (b : Bool) (pointer : OrbPointer) (s : TaskMachine) (ns : List Note) → Known s.fetcher (seen ns)
    → Known (cond b (pointed s pointer) (refused s)).1.fetcher (seen (point_notes pointer (cond b (pointed s pointer) (refused s)).0 ns))
point_known true Null s ns k = k
point_known true (At first) s ns k = record {
  order = tt;
  newest = k.newest;
  row = record { live = record { opened = refl; dead = refl; bell = refl }; even = even first; next = refl; reading = refl };
}
point_known false pointer s ns k = k

rung_live : (f : Fetcher) (s : Seen) → Live f s → Live (record f { doorbell = true }) (record s { rung = true })
rung_live f s l = record { opened = l.opened; dead = l.dead; bell = refl }

doorbell_known : (phase : FetchPhase) (f : Fetcher) (tasks : List Machine) (ns : List Note) → Known (record f { phase = phase }) (seen ns)
    → Known (doorbell_in (state_in phase) (both (record f { phase = phase }) tasks)).1.fetcher (seen (Sent (asked 8 (doorbell_in (state_in phase) (both (record f { phase = phase }) tasks)).0) ∷ Rung ∷ ns))
doorbell_known phases.Reset f tasks ns k = record { order = k.order; newest = k.newest; row = record { opened = k.row.opened; dead = k.row.dead; idle = k.row.idle } }
doorbell_known phases.Fetching f tasks ns k = record { order = k.order; newest = k.newest; row = record { live = rung_live (record f { phase = phases.Fetching }) (seen ns) k.row.live; even = k.row.even; next = k.row.next; reading = k.row.reading } }
doorbell_known phases.ReadingNext f tasks ns k = record { order = k.order; newest = k.newest; row = record { live = rung_live (record f { phase = phases.ReadingNext }) (seen ns) k.row.live; last = k.row.last; reads = k.row.reads } }
doorbell_known phases.Waiting f tasks ns k = record { order = k.order; newest = k.newest; row = record { live = rung_live (record f { phase = phases.Waiting }) (seen ns) k.row.live; last = k.row.last; reads = k.row.reads } }
doorbell_known phases.AtEnd f tasks ns k = record { order = k.order; newest = k.newest; row = record { live = record { opened = k.row.live.opened; dead = k.row.live.dead; bell = refl }; last = k.row.last; reads = refl } }
doorbell_known phases.Dead f tasks ns k = record { order = k.order; newest = k.newest; row = record { dead = k.row.dead; idle = k.row.idle } }

call_known : (call : Call) (s : TaskMachine) (ns : List Note) → Sound s → Known s.fetcher (seen ns) → Known (after_call call s).fetcher (seen (noted call s ns))
unfolding point_step doorbell_step reset_all_step
call_known (Point pointer) s ns h k = point_known (takes_pointer (state_in s.fetcher.phase) s.tasks) pointer s ns k
call_known Doorbell s ns h k = doorbell_known s.fetcher.phase s.fetcher s.tasks ns k
call_known Reset s ns h k = record { order = k.order; newest = k.newest; row = record { opened = refl; dead = refl; idle = refl } }
call_known (Reply login plain told place answer) s ns h k =
    (replied_known (is_busy place s) s login plain told place answer (task_at (replied login plain told place answer s).1 (place_of s place)).outgoing ns refl h k).known

pub calls_known : (calls : List Call) → Known (after_calls calls).fetcher (seen (notes calls))
calls_known [] = record { order = tt; newest = refl; row = record { opened = refl; dead = refl; idle = refl } }
calls_known (call ∷ calls) = call_known call (after_calls calls) (notes calls) (calls_sound calls) (calls_known calls)

pub keep_order : CallsKeepOrder
keep_order calls = (calls_known calls).order

-- what is being read
reads_by : (phase : FetchPhase) (f : Fetcher) (tasks : List Machine) (s : Seen) (offset size : ℕ) → FetchRule phase f tasks → KeepsBy phase f s → s.reading ≡ Some (offset, size) → Reads s.first s.orbs offset size
reads_by phases.Fetching f tasks s offset size rule k e =
    let same : ◌≡◌ {A = Option (ℕ × ℕ)} (Some (f.orb, 32)) (Some (offset, size)) = sym k.reading ∙ e in
    let orb : f.orb ≡ offset = ap address_of same in
    let long : 32 ≡ size = ap size_of same in
    inl (k.next ∙ ap (λ (n : ℕ). Some n) orb, sym long)
reads_by phases.ReadingNext f tasks s offset size rule k e =
    let same : ◌≡◌ {A = Option (ℕ × ℕ)} (Some (f.orb, 8)) (Some (offset, size)) = sym k.reads ∙ e in
    inr (next_last f.orb f.next s.first s.orbs k.last ∙ ap named rule, last_is f.orb f.next s.orbs k.last ∙ ap (λ (n : ℕ). Some n) (ap address_of same), sym (ap size_of same))
reads_by phases.Reset f tasks s offset size rule k e = let none : s.reading ≡ None = k.idle in cc
reads_by phases.Waiting f tasks s offset size rule k e = let none : s.reading ≡ None = k.reads in cc
reads_by phases.AtEnd f tasks s offset size rule k e = let none : s.reading ≡ None = k.reads in cc
reads_by phases.Dead f tasks s offset size rule k e = let none : s.reading ≡ None = k.idle in cc

pub read_in_order : CallsReadInOrder
read_in_order calls offset size e = reads_by (after_calls calls).fetcher.phase (after_calls calls).fetcher (after_calls calls).tasks (seen (notes calls)) offset size (calls_sound calls).so.rule (calls_known calls).row e
