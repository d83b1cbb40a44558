-- A script is run line by line.
use Rattle.std.proofs.Common.{◌≡◌, ◌∙◌, refl, sym, ap, subst, ℕ, Bool, ◌+◌, ◌<◌, ◌≤◌, List, [], ◌∷◌, ◌++◌, length, map, reverse, Option, Some, None, Result, Ok, Err, append_assoc, append-nil, arith}
use Rattle.std.specs.Prelude.{OnOk}
use Rattle.std.specs.List.{AllByRecursion}
use Rattle.std.specs.Str.Lines.{lines}
use Rattle.std.proofs.lemmas.List.{length-append, length-map}
use Rattle.std.proofs.lemmas.List.Concat.{flat_map-append}
use Rattle.rbc_disk.specs.Disk.{Disk}
use Rattle.rbc_disk.specs.Held.{Held, held}
use Rattle.sbp_journal.specs.Text.{text_of, note_text}
use Rattle.sbp_journal.specs.Written.{IsTyped}
use Rattle.sbp_journal.specs.declared.event.Event.{Event}
use Rattle.sbp_journal.specs.declared.event.Event.TheVariants as events
use Rattle.sbp_journal.specs.declared.note.Note.{Note}
use Rattle.sbp_target.specs.Faults.{NoneFell}
use Rattle.sbp_world.specs.Lines.{Happens, IsEvent}
use Rattle.sbp_world.specs.Making.{new_world, notes_begin}
use Rattle.sbp_world.specs.Runs.{entry, with_entry}
use Rattle.sbp_world.specs.Worlds.{WorldState}
use Rattle.sbp_world.proofs.Standing.{begins, goes_on}
use Rattle.sbp_world.specs.Wire.Lines.{IsLine}
use Rattle.script_text.specs.Line.{reading}
use Rattle.script_text.specs.Script.{initiators_after}
use Rattle.script_runner.specs.Events.{MayLeave, journal}
use Rattle.script_runner.specs.Script.{begun_by, heard, of_lines, says}
use Rattle.script_runner.specs.Runner.{CanGoOn, CanRun, GoesOn, HasBytes, IsBeginning, IsLineIn, MayHappenIn, RanSo, RunnerState, Stands, not_begun, run_meaning, running, scene_of}
use Rattle.script_runner.proofs.Fits.{line_begins, line_fits, line_is}
use Rattle.script_runner.proofs.Kept.{happens_keeps, world_count, world_units}
use Rattle.script_runner.proofs.Entries.{more_lines}
use Rattle.script_runner.proofs.ScriptLines.{begun_by-more, served-more, says-within}

-- ---- how a run begins

-- no line was run
pub fresh : (disks : List Disk) (faults : List ℕ) → RanSo (held disks faults) [] [] not_begun (held disks faults)
fresh disks faults = record {
  count = omega arith;
  clean = refl;
  initiators = refl;
  stands = record { events_are = refl; text_is = refl; media_are = refl };
}

pub can_begin : {A : Type 0} (f : A → Disk) (boxes : List A) (faults : List ℕ) → 1 ≤ length boxes → length boxes ≤ 4 → CanRun not_begun (held (map f boxes) faults)
can_begin f boxes faults some few =
    let count = length-map boxes f in record { some = omega arith; few = omega arith; world = refl }

-- ---- the first event

-- a run begins
pub begun_so : (initiators units : ℕ) (ready : Bool) (start media : Held) (happened : List (ℕ × Event)) (front out next : List ℕ) (number : ℕ) → initiators ≤ 4 → units ≡ length media.disks → CanRun not_begun media → next ≡ out ++ text_of (notes_begin initiators ready ∷ [])
    → Stands start happened (front ++ out) None media → Stands start (happened ++ (number, events.Begin initiators ready) ∷ []) (front ++ next) (Some (new_world initiators ready units)) media
begun_so initiators units ready start media happened front out next number few u can e h = record {
  line = number;
  run = record { initiators = initiators; ready = ready; units = units; start = media; entries = [] };
  start_is = h.media_are;
  units_are = u ∙ ap (λ m. length m.disks) h.media_are;
  some = subst (λ n. 0 < n) (sym u) (let one = can.some in omega (arith, one));
  most = subst (λ n. n ≤ 4) (sym u) can.few;
  few = few;
  lines = tt;
  typed = tt;
  events_are = ap (λ es. es ++ (number, events.Begin initiators ready) ∷ []) (sym h.events_are);
  text_is = ap (λ t. front ++ t) e ∙ sym (append_assoc front out _) ∙ ap (λ t. t ++ text_of (notes_begin initiators ready ∷ [])) h.text_is;
  stands = begins initiators ready units media;
}

pub can_go : (initiators units : ℕ) (ready : Bool) (media : Held) → 1 ≤ initiators → units ≡ length media.disks → 1 ≤ length media.disks → length media.disks ≤ 4 → CanRun (running initiators (new_world initiators ready units)) media
can_go initiators units ready media some u one few = record {
  some = one;
  few = few;
  world = record {
    count = world_count initiators ready units;
    begun = omega arith;
    units = world_units initiators ready units ∙ u;
  };
}

-- ---- one more event

pub entry_text : (xs ys : List Note) → text_of xs ++ text_of ys ≡ text_of (xs ++ ys)
entry_text xs ys = sym (flat_map-append note_text xs ys)

-- a world goes on
pub went_on : (start old media : Held) (happened : List (ℕ × Event)) (front out next : List ℕ) (number : ℕ) (event : Event) (w v : WorldState) → Happens number event (scene_of w old) (scene_of v media) → next ≡ out ++ text_of (reverse v.fresh) → AllByRecursion IsTyped v.fresh → IsLine event (length w.initiators)
    → Stands start happened (front ++ out) (Some w) old → Stands start (happened ++ (number, event) ∷ []) (front ++ next) (Some v) media
went_on start old media happened front out next number event w v k e t l h = record {
  line = h.line;
  run = with_entry h.run (entry number event k.told v.fresh);
  start_is = h.start_is;
  units_are = h.units_are;
  some = h.some;
  most = h.most;
  few = h.few;
  events_are = ap (λ es. es ++ (number, event) ∷ []) h.events_are;
  text_is = ap (λ t. front ++ t) e ∙ sym (append_assoc front out _) ∙ ap (λ t. t ++ text_of (reverse v.fresh)) h.text_is ∙ entry_text (journal h.run) (reverse v.fresh);
  stands = goes_on h.run number event (scene_of w old) (scene_of v media) h.stands k;
  lines = more_lines h.run (entry number event k.told v.fresh) (scene_of w old) h.stands.state l h.lines;
  typed = (t, h.typed);
}

pub goes_more : (i number : ℕ) (old media : Held) (event : Event) (w v : WorldState) → Happens number event (scene_of w old) (scene_of v media) → length v.target.units ≡ length w.target.units → length media.disks ≡ length old.disks
    → GoesOn i w old → GoesOn i v media
goes_more i number old media event w v k u m h = record {
  count = happens_keeps number event (scene_of w old) (scene_of v media) k ∙ h.count;
  begun = h.begun;
  units = u ∙ h.units ∙ sym m;
}

pub went_can : (i number : ℕ) (old media : Held) (event : Event) (w v : WorldState) → Happens number event (scene_of w old) (scene_of v media) → length v.target.units ≡ length w.target.units → length media.disks ≡ length old.disks
    → CanRun (running i w) old → CanRun (running i v) media
went_can i number old media event w v k u m h = record {
  some = subst (λ n. 1 ≤ n) (sym m) h.some;
  few = subst (λ n. n ≤ 4) (sym m) h.few;
  world = goes_more i number old media event w v k u m h.world;
}

pub same_length : {A : Type 0} (f : A → Disk) (xs ys : List A) → length xs ≡ length ys → length (map f xs) ≡ length (map f ys)
same_length f xs ys e = length-map xs f ∙ e ∙ sym (length-map ys f)

-- no count fell, and there are as many media
pub may_leave : {A : Type 0} (f : A → Disk) (xs ys : List A) (before now : List ℕ) → length ys ≡ length xs → NoneFell before now → MayLeave (held (map f xs) before) (held (map f ys) now)
may_leave f xs ys before now e h = record { count = same_length f ys xs e; fell = h }

pub may_leave_same : (media : Held) → MayLeave media media
may_leave_same media = run_meaning.stays_same media

-- what an event that goes on a run leaves of the number of initiators
pub same_initiators : (i n : ℕ) (event : Event) → IsEvent event n → initiators_after i (Ok (Some event)) ≡ i
same_initiators i n (events.Begin initiators ready) h = absurd h
same_initiators i n (events.Act initiator action) h = refl
same_initiators i n (events.Reset ids) h = refl
same_initiators i n (events.See node) h = refl
same_initiators i n (events.Deliver serial) h = refl
same_initiators i n (events.Repeat serial) h = refl
same_initiators i n (events.Lose serial) h = refl
same_initiators i n (events.Timeout serial) h = refl
same_initiators i n (events.Step count) h = refl
same_initiators i n events.Settle h = refl
same_initiators i n events.Tick h = refl
same_initiators i n (events.Inject initiator bytes) h = refl
same_initiators i n (events.Key unit key) h = refl

-- ---- the runner

pub both_ok : {A E : Type 0} (result : Result A E) (P Q R : Type 0) → (P → Q → R) → OnOk result P → OnOk result Q → OnOk result R
both_ok (Ok a) P Q R f p q = f p q
both_ok (Err e) P Q R f p q = p

pub all_ok : {A E : Type 0} (result : Result A E) (P Q R S : Type 0) → (P → Q → R → S) → OnOk result P → OnOk result Q → OnOk result R → OnOk result S
all_ok (Ok a) P Q R S f p q r = f p q r
all_ok (Err e) P Q R S f p q r = p

-- the world that the runner has
pub opened_can : (now : RunnerState) (i : ℕ) (o : Option WorldState) (w : WorldState) (media : Held) → record { initiators = i; world = o } ≡ now → o ≡ Some w → CanRun now media → CanRun (running i w) media
opened_can now i o w media v e h = subst (λ x. CanRun (record { initiators = i; world = x }) media) e (subst (λ s. CanRun s media) (sym v) h)

pub opened_stands : (now : RunnerState) (i : ℕ) (o : Option WorldState) (w : WorldState) (start : Held) (happened : List (ℕ × Event)) (text : List ℕ) (media : Held) → record { initiators = i; world = o } ≡ now → o ≡ Some w
    → Stands start happened text now.world media → Stands start happened text (Some w) media
opened_stands now i o w start happened text media v e h = subst (λ x. Stands start happened text x media) (sym (ap (λ s. s.world) v) ∙ e) h

pub opened_line : (now : RunnerState) (i : ℕ) (o : Option WorldState) (w : WorldState) (event : Event) → record { initiators = i; world = o } ≡ now → o ≡ Some w → IsLineIn now.world event → IsLine event (length w.initiators)
opened_line now i o w event v e h = subst (λ x. IsLineIn x event) (sym (ap (λ s. s.world) v) ∙ e) h

-- a run begins where there is none
pub begins_some : (o : Option WorldState) (event : Event) (i : ℕ) (ready : Bool) → event ≡ events.Begin i ready → MayHappenIn o event → (o ≡ None) × ((1 ≤ i) × (i ≤ 4))
begins_some None event i ready e h = (refl, subst IsBeginning e h)
begins_some (Some w) event i ready e h = absurd (subst (λ x. IsEvent x (length w.initiators)) e h)

pub began_can : (before after : RunnerState) (i units : ℕ) (ready : Bool) (media : Held) → after ≡ running i (new_world i ready units) → 1 ≤ i → units ≡ length media.disks → CanRun before media → CanRun after media
began_can before after i units ready media e some u h = subst (λ s. CanRun s media) (sym e) (can_go i units ready media some u h.some h.few)

pub began_ran : (before after : RunnerState) (i units : ℕ) (ready : Bool) (start media : Held) (happened : List (ℕ × Event)) (front out next : List ℕ) (number : ℕ) (event : Event) → after ≡ running i (new_world i ready units)
    → before.world ≡ None → i ≤ 4 → next ≡ out ++ text_of (notes_begin i ready ∷ []) → event ≡ events.Begin i ready → units ≡ length media.disks → CanRun before media
    → Stands start happened (front ++ out) before.world media → Stands start (happened ++ (number, event) ∷ []) (front ++ next) after.world media
began_ran before after i units ready start media happened front out next number event a none few e is u can h =
    let begun : Stands start (happened ++ (number, events.Begin i ready) ∷ []) (front ++ next) (Some (new_world i ready units)) media
    = begun_so i units ready start media happened front out next number few u (record { some = can.some; few = can.few; world = refl }) e (subst (λ o. Stands start happened (front ++ out) o media) none h) in
    subst (λ x. Stands start (happened ++ (number, x) ∷ []) (front ++ next) after.world media) (sym is)
    (subst (λ s. Stands start (happened ++ (number, events.Begin i ready) ∷ []) (front ++ next) s.world media) (sym a) begun)

-- ---- one more line

-- the lines are as many as the number of the last one
pub served_few : (served : List (List ℕ)) (line : List ℕ) (number : ℕ) → number ≡ 1 + length served → number ≤ 65536 → length (served ++ line ∷ []) ≤ 65536
served_few served line number e few = let more = length-append served (line ∷ []) in omega (arith, more, e, few)

-- the event of a line may happen
may_happen : (line : List ℕ) (i : ℕ) (o : Option WorldState) (media : Held) (event : Event) → CanGoOn i o media → reading line i ≡ Ok (Some event) → MayHappenIn o event
may_happen line i None media event h e = line_begins line event (subst (λ n. reading line n ≡ Ok (Some event)) h e)
may_happen line i (Some w) media event h e = subst (λ n. IsEvent event n) (sym h.count) (line_fits line i event h.begun e)

pub may_happen_at : (now : RunnerState) (line : List ℕ) (i : ℕ) (o : Option WorldState) (media : Held) (event : Event) → record { initiators = i; world = o } ≡ now → CanRun now media → reading line i ≡ Ok (Some event) → MayHappenIn now.world event
may_happen_at now line i o media event v h e =
    may_happen line now.initiators now.world media event h.world (subst (λ n. reading line n ≡ Ok (Some event)) (ap (λ s. s.initiators) v) e)

-- it is a line of the wire
may_be_line : (line : List ℕ) (i : ℕ) (o : Option WorldState) (media : Held) (event : Event) → CanGoOn i o media → reading line i ≡ Ok (Some event) → HasBytes event → IsLineIn o event
may_be_line line i None media event h e bytes = tt
may_be_line line i (Some w) media event h e bytes = subst (λ n. IsLine event n) (sym h.count) (line_is line i event h.begun e bytes)

pub line_at : (now : RunnerState) (line : List ℕ) (i : ℕ) (o : Option WorldState) (media : Held) (event : Event) → record { initiators = i; world = o } ≡ now → CanRun now media → reading line i ≡ Ok (Some event) → HasBytes event → IsLineIn now.world event
line_at now line i o media event v h e bytes =
    may_be_line line now.initiators now.world media event h.world (subst (λ n. reading line n ≡ Ok (Some event)) (ap (λ s. s.initiators) v) e) bytes

-- the event of a line was run
pub ran_event : (start old media : Held) (served : List (List ℕ)) (line front out next : List ℕ) (before after : RunnerState) (number : ℕ) (event : Event) → number ≡ 1 + length served → number ≤ 65536
    → heard before.initiators line ≡ Ok (Some event) → after.initiators ≡ initiators_after before.initiators (Ok (Some event))
    → ((start : Held) (happened : List (ℕ × Event)) (front : List ℕ) → Stands start happened (front ++ out) before.world old → Stands start (happened ++ (number, event) ∷ []) (front ++ next) after.world media)
    → RanSo start served (front ++ out) before old → RanSo start (served ++ line ∷ []) (front ++ next) after media
ran_event start old media served line front out next before after number event e few read grown stands h =
    let here : says (1 + length served) (begun_by 0 (of_lines served).events) line ≡ Ok (Some event)
    = says-within (1 + length served) (begun_by 0 (of_lines served).events) line (omega arith) ∙ ap (λ n. heard n line) (sym h.initiators) ∙ read in
    let found = served-more served line (Some event) h.clean here in
    let behind : (of_lines (served ++ line ∷ [])).events ≡ (of_lines served).events ++ (number, event) ∷ []
    = ap (λ s. s.events) found ∙ ap (λ n. (of_lines served).events ++ (n, event) ∷ []) (sym e) in
    record {
      count = served_few served line number e few;
      clean = ap (λ s. s.fault) found;
      initiators = grown ∙ ap (λ n. initiators_after n (Ok (Some event))) h.initiators ∙ sym (begun_by-more 0 (of_lines served).events (number, event)) ∙ ap (begun_by 0) (sym behind);
      stands = subst (λ es. Stands start es (front ++ next) after.world media) (sym behind) (stands start (of_lines served).events front h.stands);
    }

-- a line said nothing
pub ran_nothing : (start media : Held) (served : List (List ℕ)) (line text : List ℕ) (state : RunnerState) (number : ℕ) → number ≡ 1 + length served → number ≤ 65536
    → heard state.initiators line ≡ Ok None → RanSo start served text state media → RanSo start (served ++ line ∷ []) text state media
ran_nothing start media served line text state number e few read h =
    let here : says (1 + length served) (begun_by 0 (of_lines served).events) line ≡ Ok None
    = says-within (1 + length served) (begun_by 0 (of_lines served).events) line (omega arith) ∙ ap (λ n. heard n line) (sym h.initiators) ∙ read in
    let found = served-more served line None h.clean here in
    let behind : (of_lines (served ++ line ∷ [])).events ≡ (of_lines served).events
    = ap (λ s. s.events) found ∙ append-nil (of_lines served).events in
    record {
      count = served_few served line number e few;
      clean = ap (λ s. s.fault) found;
      initiators = h.initiators ∙ ap (begun_by 0) (sym behind);
      stands = subst (λ es. Stands start es text state.world media) (sym behind) h.stands;
    }
