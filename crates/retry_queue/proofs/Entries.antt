-- What the lines of the bus do not bring, and where ORBs are appended, by the action law.
use Rattle.std.proofs.Common.{◌≡◌, ◌∙◌, refl, sym, ap, subst, ℕ, zero, suc, Bool, true, false, List, [], ◌∷◌, ◌++◌, reverse, Option, Some, None, inl, inr}
use Rattle.std.specs.Prelude.{if◌then◌else◌}
use Rattle.std.proofs.lemmas.List.{reverse-append, reverse-reverse}
use Rattle.rbc_disk.specs.Disk.{Disk}
use Rattle.sbp_journal.specs.Run.{Moment, asked}
use Rattle.sbp_journal.specs.Wire.{terms}
use Rattle.sbp_journal.specs.declared.event.Action.{Action}
use Rattle.sbp_journal.specs.declared.event.Action.TheVariants as actions
use Rattle.sbp_journal.specs.declared.event.Event.{Event}
use Rattle.sbp_journal.specs.declared.event.Event.TheVariants as events
use Rattle.sbp_journal.specs.declared.note.Note.{Note}
use Rattle.sbp_journal.specs.declared.note.Note.TheVariants as notes
use Rattle.sbp_laws.specs.ActionLaw.{ActsOr}
use Rattle.sbp_laws.specs.Actions.{action_notes, link_notes, new_list, new_number, refusal_at}
use Rattle.sbp_laws.specs.Budget.{initiators}
use Rattle.sbp_laws.specs.Deliveries.{AreEffects, AreLowest, EndsSettle, IsDelivery, IsTurnOf, Settles, delivered_by, is_effect}
use Rattle.sbp_laws.specs.LineLaw.{BringsLine, Either, injected, refused}
use Rattle.sbp_laws.specs.Turns.{sends_of}
use Rattle.sbp_world.specs.Lists.Opened.{AllOf}
use Rattle.retry_queue.specs.Entries.{AppendNone, AppendsComeFirst, AppendsSo, is_append}
use Rattle.retry_queue.specs.Lines.{is_bus_line}

-- ---- notes that are no append, make no ORB a dummy, do not begin a run, and tell of no packet that is injected

abbrev pub is_usual : Note → Bool
is_usual (notes.Append i n k cdb buffer) = false
is_usual (notes.Dummied i n k) = false
is_usual (notes.Begin initiators ready) = false
is_usual (notes.Injected serial) = false
is_usual _ = true

pub all_joined : (A : Note → Bool) (front back : List Note) → AllOf A front → AllOf A back → AllOf A (front ++ back)
all_joined A [] back f b = b
all_joined A (note ∷ front) back f b = (f.0, all_joined A front back f.1 b)

pub all_back : (A : Note → Bool) (ns : List Note) → AllOf A ns → AllOf A (reverse ns)
all_back A [] all = tt
all_back A (note ∷ ns) all =
    subst (AllOf A) (sym (reverse-append (note ∷ []) ns)) (all_joined A (reverse ns) (note ∷ []) (all_back A ns all.1) (all.0, tt))

pub all_forward : (A : Note → Bool) (ns : List Note) → AllOf A (reverse ns) → AllOf A ns
all_forward A ns all = subst (AllOf A) (reverse-reverse ns) (all_back A (reverse ns) all)

usual_effect : (note : Note) → is_effect note ≡ true → is_usual note ≡ true
usual_effect (notes.Append i n k cdb buffer) e = e
usual_effect (notes.Dummied i n k) e = e
usual_effect (notes.Begin initiators ready) e = e
usual_effect (notes.Injected serial) e = e
usual_effect _ e = refl

effects : (told : List Note) → AreEffects told → AllOf is_usual told
effects [] e = tt
effects (note ∷ rest) e = (usual_effect note e.0, effects rest e.1)

usual_delivery : (note : Note) (serial : ℕ) → delivered_by note ≡ Some serial → is_usual note ≡ true
usual_delivery (notes.Append i n k cdb buffer) serial e = absurd (cc e)
usual_delivery (notes.Dummied i n k) serial e = absurd (cc e)
usual_delivery (notes.Begin initiators ready) serial e = absurd (cc e)
usual_delivery (notes.Injected s) serial e = absurd (cc e)
usual_delivery _ serial e = refl

delivers : (serial : ℕ) (told : List Note) → IsDelivery serial told → AllOf is_usual told
delivers serial [] d = absurd d
delivers serial (note ∷ rest) d = (usual_delivery note serial d.0, effects rest d.1)

turns : (first : Note) (told : List Note) → is_usual first ≡ true → IsTurnOf first told → AllOf is_usual told
turns first [] e t = absurd t
turns first (note ∷ rest) e t = (ap is_usual t.0 ∙ e, effects rest t.1)

lowest : (past : List Moment) (told : List Note) → AreLowest past told → AllOf is_usual told
lowest past [] l = tt
lowest past (notes.Got serial ∷ rest) l = (refl, lowest _ rest l.1)
lowest past (notes.Ignored serial cause ∷ rest) l = (refl, lowest _ rest l.1)
lowest past (notes.Append i n k cdb buffer ∷ rest) l = absurd (cc l.0)
lowest past (notes.Dummied i n k ∷ rest) l = absurd (cc l.0)
lowest past (notes.Begin initiators ready ∷ rest) l = absurd (cc l.0)
lowest past (notes.Injected serial ∷ rest) l = absurd (cc l.0)
lowest past (_ ∷ rest) l = (refl, lowest _ rest l.1)

ends : (past : List Moment) (most : ℕ) (told : List Note) (last : Note) → EndsSettle past most told last → is_usual last ≡ true
ends past most told (notes.Append i n k cdb buffer) e = absurd e
ends past most told (notes.Dummied i n k) e = absurd e
ends past most told (notes.Begin initiators ready) e = absurd e
ends past most told (notes.Injected serial) e = absurd e
ends past most told _ e = refl

settles : (past : List Moment) (told : List Note) → Settles past told → AllOf is_usual told
settles past told s = subst (AllOf is_usual) (sym s.is) (all_joined is_usual s.before (s.last ∷ []) (lowest past s.before s.delivers.lowest) (ends past _ s.before s.last s.ends, tt))

either : (b : Bool) (X Y : Type 0) (told : List Note) → Either b X Y → (X → AllOf is_usual told) → (Y → AllOf is_usual told) → AllOf is_usual told
either true X Y told e f g = f e
either false X Y told e f g = g e

usual_are : (told other : List Note) → AllOf is_usual other → told ≡ other → AllOf is_usual told
usual_are told other all e = subst (AllOf is_usual) (sym e) all

usual_if : (b : Bool) (one other : List Note) → AllOf is_usual one → AllOf is_usual other → AllOf is_usual (if b then one else other)
usual_if true one other f g = f
usual_if false one other f g = g

-- so are those of a line of the bus
pub usual_line : (disks : List Disk) (past : List Moment) (line : ℕ) (event : Event) (told : List Note) → is_bus_line event ≡ true → BringsLine disks past line event told → AllOf is_usual told
usual_line disks past line (events.Deliver serial) told e b = either _ (IsDelivery serial told) (told ≡ refused line 11) told b (delivers serial told) (usual_are told (refused line 11) (refl, tt))
usual_line disks past line (events.Repeat serial) told e b = either _ (IsDelivery serial told) (told ≡ refused line 11) told b (delivers serial told) (usual_are told (refused line 11) (refl, tt))
usual_line disks past line (events.Lose serial) told e b = usual_are told _ (usual_if _ (notes.Lost serial ∷ []) (refused line 11) (refl, tt) (refl, tt)) b
usual_line disks past line (events.Timeout serial) told e b = either _ (IsTurnOf (notes.TimedOut serial) told) (told ≡ refused line 11) told b (turns (notes.TimedOut serial) told refl) (usual_are told (refused line 11) (refl, tt))
usual_line disks past line (events.Step count) told e b = lowest (asked line (events.Step count) ∷ past) told b.lowest
usual_line disks past line events.Settle told e b = settles (asked line events.Settle ∷ past) told b
usual_line disks past line (events.Reset physical) told e b = usual_are told (notes.Reset _ ∷ []) (refl, tt) b
usual_line disks past line (events.See node) told e b = turns (notes.Seen node _) told refl b
usual_line disks past line events.Tick told e b = turns notes.Tick told refl b
usual_line disks past line (events.Begin count ready) told e b = absurd (cc e)
usual_line disks past line (events.Act i action) told e b = absurd (cc e)
usual_line disks past line (events.Inject i bytes) told e b = absurd (cc e)
usual_line disks past line (events.Key unit key) told e b = absurd (cc e)

-- ---- notes among which is no append

pub joined : (front back : List Note) → AppendNone front → AppendNone back → AppendNone (front ++ back)
joined [] back f b = b
joined (note ∷ front) back f b = (f.0, joined front back f.1 b)

no_append : (note : Note) → is_usual note ≡ true → is_append note ≡ false
no_append (notes.Append i n k cdb buffer) e = absurd (cc e)
no_append _ e = refl

append_none : (told : List Note) → AllOf is_usual told → AppendNone told
append_none [] all = tt
append_none (note ∷ rest) all = (no_append note all.0, append_none rest all.1)

sends : (told : List Note) → AppendNone (sends_of told)
sends [] = tt
sends (notes.Sent serial generation from to bytes ∷ rest) = (refl, sends rest)
sends (_ ∷ rest) = sends rest

are : (told other : List Note) → AppendNone other → told ≡ other → AppendNone told
are told other none e = subst AppendNone (sym e) none

are_if : (b : Bool) (one other : List Note) → AppendNone one → AppendNone other → AppendNone (if b then one else other)
are_if true one other f g = f
are_if false one other f g = g

-- ---- actions
links : (i n k : ℕ) → AppendNone (link_notes i n k)
links i n zero = tt
links i n (suc k) = (refl, (refl, tt))

none_so : (past : List Moment) (event : Event) (told : List Note) → AppendNone told → AppendsSo past event told
none_so past (events.Act i (actions.Append cmd)) told none = inl none
none_so past (events.Act i (actions.Put cmd)) told none = inl none
none_so past _ told none = none

acts : (past : List Moment) (i : ℕ) (action : Action) (told : List Note) → told ≡ action_notes action past i ++ sends_of told → AppendsSo past (events.Act i action) told
acts past i (actions.Append cmd) told e =
    let n = new_list past i in
    let k = new_number past i in
    inr (record {
      rest = (link_notes i n k ++ notes.Rung i n k ∷ []) ++ sends_of told;
      is = e;
      alone = joined (link_notes i n k ++ notes.Rung i n k ∷ []) (sends_of told) (joined (link_notes i n k) (notes.Rung i n k ∷ []) (links i n k) (refl, tt)) (sends told);
    })
acts past i (actions.Put cmd) told e = inr (record { rest = sends_of told; is = e; alone = sends told })
acts past i actions.Low told e = are told (notes.Low i _ _ ∷ sends_of told) (refl, sends told) e
acts past i actions.Link told e = are told (notes.Linked i _ _ ∷ sends_of told) (refl, sends told) e
acts past i actions.Ring told e = are told (notes.Rung i _ _ ∷ sends_of told) (refl, sends told) e
acts past i (actions.Dummy k) told e = are told (notes.Dummied i _ k ∷ sends_of told) (refl, sends told) e
acts past i _ told e = are told (sends_of told) (sends told) e

done_or : (refusal : Option ℕ) (past : List Moment) (line i : ℕ) (action : Action) (told : List Note) → ActsOr refusal past line i action told → AppendsSo past (events.Act i action) told
done_or (Some number) past line i action told e = none_so past (events.Act i action) told (are told (refused line number) (refl, tt) e)
done_or None past line i action told a = acts past i action told (a.first ∙ ap (λ front. front ++ sends_of told) a.effects)

-- ---- every line

bus_so : (disks : List Disk) (past : List Moment) (line : ℕ) (event : Event) (told : List Note) → is_bus_line event ≡ true → BringsLine disks past line event told → AppendNone told
bus_so disks past line event told e b = append_none told (usual_line disks past line event told e b)

pub appends_come_first : AppendsComeFirst
appends_come_first disks past line (events.Act i action) told b = done_or (refusal_at past i action) past line i action told b
appends_come_first disks past line (events.Begin count ready) told b = are told (notes.Begin count ready ∷ []) (refl, tt) b
appends_come_first disks past line (events.Inject i bytes) told b = are told _ (are_if _ (injected (terms past) i (suc (initiators past)) bytes) (refused line 12) (refl, (refl, tt)) (refl, tt)) b
appends_come_first disks past line (events.Key unit key) told b = are told _ (are_if _ (notes.Key unit ∷ []) (refused line 13) (refl, tt) (refl, tt)) b
appends_come_first disks past line (events.Deliver serial) told b = bus_so disks past line (events.Deliver serial) told refl b
appends_come_first disks past line (events.Repeat serial) told b = bus_so disks past line (events.Repeat serial) told refl b
appends_come_first disks past line (events.Lose serial) told b = bus_so disks past line (events.Lose serial) told refl b
appends_come_first disks past line (events.Timeout serial) told b = bus_so disks past line (events.Timeout serial) told refl b
appends_come_first disks past line (events.Step count) told b = bus_so disks past line (events.Step count) told refl b
appends_come_first disks past line events.Settle told b = bus_so disks past line events.Settle told refl b
appends_come_first disks past line (events.Reset physical) told b = bus_so disks past line (events.Reset physical) told refl b
appends_come_first disks past line (events.See node) told b = bus_so disks past line (events.See node) told refl b
appends_come_first disks past line events.Tick told b = bus_so disks past line events.Tick told refl b
