-- An initiator of a drill is logged in, and sees no dead agent; and what it appended is linked.
use Rattle.std.proofs.Common.{◌≡◌, ◌∙◌, refl, sym, ap, subst, ℕ, zero, suc, ◌<◌, ◌==◌, ◌&&◌, ◌||◌, not, Bool, true, false, cond, List, [], ◌∷◌, ◌++◌, map, reverse, Option, Some, None, arith}
use Rattle.std.proofs.lemmas.List.{reverse-reverse}
use Rattle.orb_layout.specs.Replies.{Answer, Done, Payload}
use Rattle.rbc_disk.specs.Disk.{Disk}
use Rattle.sbp_journal.specs.Run.{Entry, Moment, asked, history, said}
use Rattle.sbp_journal.specs.Transactions.{Part, no_packet, part_of, request, response}
use Rattle.sbp_journal.specs.Wire.{Terms}
use Rattle.sbp_journal.specs.declared.event.Event.{Event}
use Rattle.sbp_journal.specs.declared.event.Event.TheVariants as events
use Rattle.sbp_journal.specs.declared.event.Action.TheVariants as actions
use Rattle.sbp_journal.specs.declared.note.Note.{Note}
use Rattle.sbp_journal.specs.declared.note.Note.TheVariants as notes
use Rattle.sbp_laws.specs.ActionLaw.{Brings, BringsEach}
use Rattle.sbp_laws.specs.Hosts.{Host, answered, goes_on, got_by, host_at, host_by, is_serial, known_host, list_begins, live, pointer_answered, ring, says_dead, sent_as, sent_in}
use Rattle.sbp_laws.specs.Lists.{present_list}
use Rattle.sbp_laws.specs.Turns.{EachMoment, event_of}
use Rattle.drill_laws.specs.DrillCalm.{IsCalmAt, IsCalmNote}
use Rattle.drill_laws.specs.DrillLines.{AreDrillLines}
use Rattle.drill_laws.specs.DrillRefused.{IsAliveAt}
use Rattle.drill_laws.proofs.DrillCalm.{latest_event}
use Rattle.drill_laws.proofs.DrillHosts.{IsDrillEvent, IsIdle, IsLater, note_idle}
use Rattle.drill_laws.proofs.DrillMoments.{DrillAt}

-- ---- its session, and the mark
pub record IsLive (host : Host) : Type 0 where
  pub session : host.session ≡ live
  pub unmarked : host.marked_dead ≡ false

either : (b : Bool) (x host : Host) → IsLive x → IsLive host → IsLive (cond b x host)
either true x host h k = h
either false x host h k = k

ring_live : (pointer : Option ℕ) (serial : ℕ) (host : Host) → IsLive host → IsLive (ring pointer serial host)
ring_live None serial host h = record { session = h.session; unmarked = h.unmarked }
ring_live (Some first) serial host h = record { session = h.session; unmarked = h.unmarked }

goes_live : (host : Host) (serial : ℕ) → IsIdle host → IsLive host → IsLive (goes_on host.operation serial host)
goes_live host serial idle h = subst IsLive (sym (ap (λ o. goes_on o serial host) idle.operation)) h

in_live : (event : Option Event) → IsDrillEvent event → (i : ℕ) (list : Option ℕ) (serial : ℕ) (host : Host) → IsIdle host → IsLive host → IsLive (sent_in event i list serial host)
in_live None is i list serial host idle h = goes_live host serial idle h
in_live (Some (events.Begin initiators ready)) is i list serial host idle h = goes_live host serial idle h
in_live (Some (events.Act j (actions.Append cmd))) is i list serial host idle h = either (j == i) (ring host.pointer serial host) (goes_on host.operation serial host) (ring_live host.pointer serial host h) (goes_live host serial idle h)
in_live (Some events.Settle) is i list serial host idle h = goes_live host serial idle h
in_live (Some _) is i list serial host idle h = absurd is

as_live : (part : Part) (event : Option Event) → IsDrillEvent event → (i : ℕ) (list : Option ℕ) (serial : ℕ) (host : Host) → IsIdle host → IsLive host → IsLive (sent_as part event i list serial host)
as_live (request label kind) event is i list serial host idle h = in_live event is i list serial host idle h
as_live (response label kind) event is i list serial host idle h = h
as_live no_packet event is i list serial host idle h = h

pointed_session : (answer : Answer) (own : Bool) (host : Host) → (pointer_answered answer own host).session ≡ host.session
pointed_session Done true host = refl
pointed_session Done false host = refl
pointed_session _ own host = refl

none_read : (answer : Answer) (serial : ℕ) (present : Option ℕ) → says_dead answer serial present [] ≡ false
none_read (Payload bytes) serial present = refl
none_read _ serial present = refl

or_false : (a b : Bool) → a ≡ false → b ≡ false → (a || b) ≡ false
or_false true b e f = cc e
or_false false b e f = f

answered_live : (answer : Answer) (serial : ℕ) (present : Option ℕ) (host : Host) → IsIdle host → IsLive host → IsLive (answered answer serial present host)
answered_live answer serial present host idle h = record {
  session = pointed_session answer (is_serial host.pointer serial) host ∙ h.session;
  unmarked = or_false host.marked_dead (says_dead answer serial present host.reads) h.unmarked (ap (says_dead answer serial present) idle.reads ∙ none_read answer serial present);
}

got_live : (own : Option ℕ) (wire : Terms) (serial : ℕ) (present : Option ℕ) (host : Host) → IsIdle host → IsLive host → IsLive (got_by own wire serial present host)
got_live (Some own) wire serial present host idle h = answered_live _ own present host idle h
got_live None wire serial present host idle h = record { session = h.session; unmarked = h.unmarked }

begins_live : (k : ℕ) (host : Host) → IsLive host → IsLive (list_begins k host)
begins_live zero host h = record { session = h.session; unmarked = refl }
begins_live (suc k) host h = h

note_live : (note : Note) (past : List Moment) (wire : Terms) (i : ℕ) (host : Host) → IsLater note → IsCalmNote note → IsDrillEvent (event_of past) → IsAliveAt (said note) past → IsIdle host → IsLive host → IsLive (host_by note past wire i host)
note_live (notes.Sent serial generation from to bytes) past wire i host later calm is alive idle h = either ((from == suc i) && not (wire.injected serial)) _ host (as_live (part_of bytes) (event_of past) is i (present_list past i) serial host idle h) h
note_live (notes.Got serial) past wire i host later calm is alive idle h = either _ _ host (got_live _ wire serial (present_list past i) host idle h) h
note_live (notes.Append j n k cdb buffer) past wire i host later calm is alive idle h = either (j == i) _ host (begins_live k host h) h
note_live (notes.Taken j n k status answer) past wire i host later calm is alive idle h = either (j == i) _ host (record { session = h.session; unmarked = or_false host.marked_dead _ h.unmarked alive }) h
note_live (notes.Stuck j) past wire i host later calm is alive idle h = absurd alive
note_live (notes.Op j operation word) past wire i host later calm is alive idle h = absurd calm
note_live (notes.Drop j n) past wire i host later calm is alive idle h = absurd calm
note_live (notes.Begin initiators ready) past wire i host later calm is alive idle h = absurd later
note_live (notes.TimedOut serial) past wire i host later calm is alive idle h = absurd later
note_live (notes.Seen node generation) past wire i host later calm is alive idle h = absurd later
note_live _ past wire i host later calm is alive idle h = h

-- ---- all moments behind the first line
abbrev pub IsMore : List Moment → Type 0
IsMore [] = ⊥
IsMore (moment ∷ []) = ⊥
IsMore (moment ∷ next ∷ past) = Unit {0}

pub more : (moment : Moment) (past : List Moment) → IsMore past → IsMore (moment ∷ past)
more moment [] m = absurd m
more moment (next ∷ past) m = tt

pub record Stands (past : List Moment) : Type 0 where
  pub some : IsMore past
  pub idle : (i : ℕ) → i < 2 → IsIdle (host_at past i)
  pub lives : (i : ℕ) → i < 2 → IsLive (host_at past i)

pub later_of : (note : Note) (past : List Moment) → IsMore past → DrillAt (said note) past → IsLater note
later_of (notes.Begin initiators ready) past m d = subst IsMore d.past_is m
later_of (notes.TimedOut serial) past m d = cc d
later_of (notes.Seen node generation) past m d = cc d
later_of (notes.Key unit) past m d = cc d
later_of notes.Tick past m d = cc d
later_of _ past m d = tt

pub stands_told : (told : List Note) (past : List Moment) → EachMoment DrillAt (map said told ++ past) → EachMoment IsCalmAt (map said told ++ past) → EachMoment IsAliveAt (map said told ++ past) → Stands past → Stands (map said told ++ past)
stands_told [] past d calm alive s = s
stands_told (note ∷ told) past d calm alive s =
    let was = stands_told told past d.1 calm.1 alive.1 s in
    let before : List Moment = map said told ++ past in
    let is = latest_event before d.1 in
    let later = later_of note before was.some d.0 in
    record {
      some = more (said note) before was.some;
      idle = λ i small. (note_idle note before (known_host before i).wire i (host_at before i) later calm.0 is).idle (was.idle i small);
      lives = λ i small. note_live note before (known_host before i).wire i (host_at before i) later calm.0 is alive.0 (was.idle i small) (was.lives i small);
    }

pub behind_each : (At : Moment → List Moment → Type 0) (told : List Note) (past : List Moment) → EachMoment At (map said told ++ past) → EachMoment At past
behind_each At [] past each = each
behind_each At (note ∷ told) past each = behind_each At told past each.1

pub all_stand : (disks : List Disk) (entries : List Entry) → BringsEach disks entries → AreDrillLines entries → EachMoment DrillAt (history entries) → EachMoment IsCalmAt (history entries) → EachMoment IsAliveAt (history entries) → Stands (history entries)
all_stand disks [] h are d calm alive = absurd are
all_stand disks (entry ∷ []) h are d calm alive =
    let told : reverse entry.notes ≡ notes.Begin 2 true ∷ [] = subst (λ e. Brings disks [] entry.line e (reverse entry.notes)) are h.0 in
    let is : entry.notes ≡ notes.Begin 2 true ∷ [] = sym (reverse-reverse entry.notes) ∙ ap reverse told in
    subst (λ ns. Stands (map said ns ++ asked entry.line entry.event ∷ [])) (sym is) (record { some = tt; idle = idle_first entry.line entry.event; lives = live_first entry.line entry.event })
  where
    idle_first : (line : ℕ) (event : Event) (i : ℕ) → i < 2 → IsIdle (host_at (said (notes.Begin 2 true) ∷ asked line event ∷ []) i)
    idle_first line event zero small = record { operation = refl; reads = refl }
    idle_first line event (suc zero) small = record { operation = refl; reads = refl }
    idle_first line event (suc (suc i)) small = absurd (omega (arith, small))

    live_first : (line : ℕ) (event : Event) (i : ℕ) → i < 2 → IsLive (host_at (said (notes.Begin 2 true) ∷ asked line event ∷ []) i)
    live_first line event zero small = record { session = refl; unmarked = refl }
    live_first line event (suc zero) small = record { session = refl; unmarked = refl }
    live_first line event (suc (suc i)) small = absurd (omega (arith, small))
all_stand disks (entry ∷ next ∷ before) h are d calm alive =
    let past : List Moment = history (next ∷ before) in
    let there : List Moment = asked entry.line entry.event ∷ past in
    let was = all_stand disks (next ∷ before) h.1 are.1 (behind_each DrillAt entry.notes there d).1 (behind_each IsCalmAt entry.notes there calm).1 (behind_each IsAliveAt entry.notes there alive).1 in
    stands_told entry.notes there d calm alive (record { some = more (asked entry.line entry.event) past was.some; idle = was.idle; lives = was.lives })
