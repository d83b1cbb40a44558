-- The steps of a line are those of a journal of a queue, where what its notes stand on is there.
use Rattle.std.proofs.Common.{◌≡◌, ◌∙◌, refl, sym, ap, subst, ℕ, zero, suc, ◌+◌, ◌==◌, ◌&&◌, Bool, true, false, cond, List, [], ◌∷◌, ◌++◌, map, Option, Some, None, eqb-true}
use Rattle.orb_layout.specs.declared.status.StatusKind.{StatusKind}
use Rattle.sbp_journal.specs.Run.{Moment, asked, said}
use Rattle.sbp_journal.specs.Wire.{terms}
use Rattle.sbp_journal.specs.declared.event.Action.TheVariants as actions
use Rattle.sbp_journal.specs.declared.event.Cmd.{Cmd}
use Rattle.sbp_journal.specs.declared.event.Event.{Event}
use Rattle.sbp_journal.specs.declared.event.Event.TheVariants as events
use Rattle.sbp_journal.specs.declared.note.Note.{Note}
use Rattle.sbp_journal.specs.declared.note.Note.TheVariants as notes
use Rattle.sbp_journal.specs.declared.operation.Operation.{Operation}
use Rattle.sbp_laws.specs.Actions.{buffer_of, new_list, new_number}
use Rattle.sbp_laws.specs.Hosts.{known_host}
use Rattle.sbp_laws.specs.Lists.{present_list}
use Rattle.sbp_laws.specs.Terms.{appends}
use Rattle.sbp_laws.specs.Turns.{EachMoment, event_of}
use Rattle.sbp_world.specs.Hosts.Statuses.Finished.{IsTakenHere}
use Rattle.sbp_world.specs.Lists.Opened.{AllOf}
use Rattle.sbp_world.proofs.Hosts.Cores.{wire_is}
use Rattle.retry_queue.specs.declared.kept.Finished.{Finished}
use Rattle.retry_queue.specs.declared.note.QueueNote.TheVariants.{World}
use Rattle.retry_queue.specs.Heard.{HeardAt, IsRequest, Keeps, WhereAsked}
use Rattle.retry_queue.specs.Journals.{BroughtAt, FollowsAt, MadeAt}
use Rattle.retry_queue.specs.Kept.{Kept, asked_by, asked_in, finished, kept, learned_all, told, written}
use Rattle.retry_queue.specs.Known.{is_final, known, written_by, written_due}
use Rattle.retry_queue.specs.Queues.{behind, step_of}
use Rattle.retry_queue.specs.Steps.{EachStep, Step, of_world, world}
use Rattle.retry_queue.proofs.Acted.{of_action}
use Rattle.retry_queue.proofs.Brought.{same_list}
use Rattle.retry_queue.proofs.Cases.{not_own}
use Rattle.retry_queue.proofs.Entries.{is_usual}
use Rattle.retry_queue.proofs.Generations.{IsFair, TellsNoInjected, TellsNone, none_injected}
use Rattle.retry_queue.proofs.Keeping.{kept_law}
use Rattle.retry_queue.proofs.Order.{waits_so}
use Rattle.retry_queue.proofs.Requests.{Moments, is_request, moments_before, owes_none}
use Rattle.retry_queue.proofs.Standing.{event-behind, kept-behind, world-behind}

-- each step is made and brought, and its packets are heard
pub record Stands (past : List Step) : Type 0 where
  pub made : EachStep MadeAt past
  pub follows : EachStep FollowsAt past
  pub brought : EachStep BroughtAt past
  pub heard : EachStep HeardAt past

-- and no status is to be told next
pub record Holds (past : List Step) : Type 0 where
  pub stands : Stands past
  pub due : written_due past ≡ None

-- ---- the status that is to be told

abbrev due_of : Option Finished → Option (ℕ × StatusKind)
due_of None = None
due_of (Some finish) = Some (finish.number, finish.status)

finished_here : (number first m : ℕ) (status : StatusKind) → number ≡ first + m → (t : Bool) → written_by (first + m) status t ≡ due_of (cond t (Some (record { number = number; status = status })) None)
finished_here number first m status same true = ap (λ q. Some (q, status)) (sym same)
finished_here number first m status same false = refl

finished_else : (i number : ℕ) (status : StatusKind) (t : Bool) → (suc i == 0) ≡ t → None ≡ due_of (cond (t && is_final status) (Some (record { number = number; status = status })) None)
finished_else i number status true e = absurd (not_own i (eqb-true (suc i) 0 e))
finished_else i number status false e = refl

agrees : (note : Note) (past : List Step) (k : Kept) → kept past ≡ k → Keeps past → BroughtAt (of_world (said note)) past → written_due (of_world (said note) ∷ past) ≡ due_of (finished note k)
agrees (notes.Taken zero n m status answer) past k same keeps brought =
    let first : k.first ≡ (known past).first n = ap (λ (x : Kept). x.first) (sym same) ∙ keeps.first n (waits_so (world past) n m brought).present in
    finished_here (k.first + m) ((known past).first n) m status (ap (λ q. q + m) first) (is_final status)
agrees (notes.Taken (suc i) n m status answer) past k same keeps brought = finished_else i (k.first + m) status (suc i == 0) refl
agrees _ past k same keeps brought = refl

-- ---- what a note brings

brought_at : (note : Note) (past : List Step) → is_usual note ≡ true → IsTakenHere (said note) (world past) → BroughtAt (of_world (said note)) past
brought_at (notes.Append i n k cdb buffer) past usual taken = absurd (cc usual)
brought_at (notes.Begin initiators ready) past usual taken = absurd (cc usual)
brought_at (notes.Taken i n k status answer) past usual taken = taken.waits
brought_at _ past usual taken = tt

-- what is heard of it
abbrev Hears : Note → List Moment → Type 0
Hears (notes.Sent serial generation from to bytes) past = from ≡ 1 → WhereAsked (asked_in (event_of past)) (IsRequest (known_host past 0).wire serial bytes)
Hears _ past = Unit {0}

heard_at : (note : Note) (past : List Step) → Hears note (world past) → HeardAt (of_world (said note)) past
heard_at (notes.Sent serial generation from to bytes) past hears = hears
heard_at _ past hears = tt

not_injected : (note : Note) → is_usual note ≡ true → TellsNoInjected note
not_injected (notes.Injected s) usual = absurd (cc usual)
not_injected _ usual = tt

usual_action : (note : Note) → of_action note ≡ true → is_usual note ≡ true
usual_action (notes.Append i n k cdb buffer) of = of
usual_action (notes.Dummied i n k) of = of
usual_action (notes.Begin initiators ready) of = of
usual_action (notes.Injected s) of = of
usual_action _ of = refl

-- ---- the notes that a line may have behind its first one

abbrev pub allowed : Event → Note → Bool
allowed (events.Act i action) note = of_action note
allowed event note = is_usual note

usual_allowed : (event : Event) (note : Note) → allowed event note ≡ true → is_usual note ≡ true
usual_allowed (events.Act i action) note ok = usual_action note ok
usual_allowed _ note ok = ok

abbrev Owes : Event → List Moment → Type 0
Owes (events.Act i action) past = (terms past).owes ≡ None
Owes event past = Unit {0}

owes_more : (event : Event) (note : Note) (past : List Moment) → allowed event note ≡ true → Owes event past → Owes event (said note ∷ past)
owes_more (events.Act i action) note past ok none = owes_none note past ok none
owes_more _ note past ok none = tt

where_asked : (operation : Option Operation) (X : Type 0) → X → WhereAsked operation X
where_asked None X x = tt
where_asked (Some operation) X x = x

heard_in : (wild : ℕ → Bool) (event : Event) (past : List Moment) (serial generation from to : ℕ) (bytes : List ℕ) → IsFair (terms past) → Moments wild (said (notes.Sent serial generation from to bytes) ∷ past) → Owes event past
    → WhereAsked (asked_by event) (IsRequest (known_host past 0).wire serial bytes)
heard_in wild (events.Act i action) past serial generation from to bytes fair m none =
    let X = IsRequest (known_host past 0).wire serial bytes in
    where_asked (asked_by (events.Act i action)) X
    (subst (λ t. IsRequest t serial bytes) (sym (wire_is past 0)) (is_request past serial generation from to bytes fair m.sent m.answered none))
heard_in wild _ past serial generation from to bytes fair m none = tt

hears_in : (wild : ℕ → Bool) (event : Event) (note : Note) (past : List Moment) → event_of past ≡ Some event → IsFair (terms past) → Moments wild (said note ∷ past) → Owes event past → Hears note past
hears_in wild event (notes.Sent serial generation from to bytes) past is fair m none =
    λ own. subst (λ e. WhereAsked (asked_in e) (IsRequest (known_host past 0).wire serial bytes)) (sym is) (heard_in wild event past serial generation from to bytes fair m none)
hears_in wild event _ past is fair m none = tt

-- ---- a line

module _ (wild : ℕ → Bool) (past : List Step) (line : ℕ) (event : Event) where
  -- its steps, and its moments
  abbrev pub steps_of : List Note → List Step
  steps_of ns = behind past line event (told (asked_by event) ns (kept past))

  abbrev pub moments_of : List Note → List Moment
  moments_of ns = map said ns ++ asked line event ∷ world past

  pub same_moments : (ns : List Note) → world (steps_of ns) ≡ moments_of ns
  same_moments ns = world-behind (asked_by event) (kept past) line event past ns

  -- a note more
  told_by : (f : Option Finished) (ns : List Note) (note : Note) → written_due (of_world (said note) ∷ steps_of ns) ≡ due_of f → Stands (of_world (said note) ∷ steps_of ns)
      → Holds (map step_of (written f ++ World note ∷ told (asked_by event) ns (kept past)) ++ of_world (asked line event) ∷ past)
  told_by None ns note due half = record { stands = half; due = due }
  told_by (Some f) ns note due half = record {
    stands = record { made = (due, half.made); follows = (tt, half.follows); brought = (tt, half.brought); heard = (tt, half.heard) };
    due = refl;
  }

  note_more : (note : Note) (ns : List Note) → Holds (steps_of ns) → BroughtAt (of_world (said note)) (steps_of ns) → HeardAt (of_world (said note)) (steps_of ns) → Holds (steps_of (note ∷ ns))
  note_more note ns h brought heard =
      let k = learned_all (asked_by event) ns (kept past) in
      let keeps = kept_law (steps_of ns) h.stands.brought h.stands.heard in
      told_by (finished note k) ns note (agrees note (steps_of ns) k (kept-behind (asked_by event) (kept past) line event past ns) keeps brought) (record {
        made = (tt, h.stands.made);
        follows = (h.due, h.stands.follows);
        brought = (brought, h.stands.brought);
        heard = (heard, h.stands.heard);
      })

  -- what is known behind some of its notes
  pub record InLine (ns : List Note) : Type 0 where
    pub holds : Holds (steps_of ns)
    pub fair : EachMoment TellsNone (moments_of ns)
    pub owes : Owes event (moments_of ns)

  line_hears : (note : Note) (ns : List Note) → Moments wild (moments_of (note ∷ ns)) → InLine ns → HeardAt (of_world (said note)) (steps_of ns)
  line_hears note ns m l =
      heard_at note (steps_of ns) (subst (Hears note) (sym (same_moments ns)) (hears_in wild event note (moments_of ns) (event-behind line event (world past) ns) (none_injected (moments_of ns) l.fair) m l.owes))

  goes_on : (note : Note) (ns : List Note) → allowed event note ≡ true → Moments wild (moments_of (note ∷ ns)) → InLine ns → InLine (note ∷ ns)
  goes_on note ns ok m l =
      let usual = usual_allowed event note ok in
      record {
        holds = note_more note ns l.holds (brought_at note (steps_of ns) usual (subst (IsTakenHere (said note)) (sym (same_moments ns)) m.taken.0)) (line_hears note ns m l);
        fair = (not_injected note usual, l.fair);
        owes = owes_more event note (moments_of ns) ok l.owes;
      }

  pub walks : (more front : List Note) → AllOf (allowed event) more → Moments wild (moments_of (more ++ front)) → InLine front → InLine (more ++ front)
  walks [] front all m l = l
  walks (note ∷ more) front all m l =
      goes_on note (more ++ front) all.0 m (walks more front all.1 (moments_before wild (said note) (moments_of (more ++ front)) m) l)

  -- its beginning
  pub begins_line : Holds past → EachMoment TellsNone (world past) → MadeAt (of_world (asked line event)) past → HeardAt (of_world (asked line event)) past → Owes event (moments_of []) → InLine []
  begins_line h fair made heard none = record {
    holds = record {
      stands = record { made = (made, h.stands.made); follows = (h.due, h.stands.follows); brought = (tt, h.stands.brought); heard = (heard, h.stands.heard) };
      due = refl;
    };
    fair = (tt, fair);
    owes = none;
  }

-- ---- the append of a line

module _ (wild : ℕ → Bool) (past : List Step) (line : ℕ) (cmd : Cmd) where
  abbrev event : Event
  event = events.Act 0 (actions.Append cmd)

  abbrev append : Note
  append = notes.Append 0 (new_list (world past) 0) (new_number (world past) 0) cmd.cdb (buffer_of cmd)

  listed : new_list (world past) 0 ≡ new_list (asked line event ∷ world past) 0
  listed = same_list (present_list (world past) 0) (world past) line event

  pub appends_first : Moments wild (moments_of wild past line event (append ∷ [])) → InLine wild past line event [] → InLine wild past line event (append ∷ [])
  appends_first m l = record {
    holds = note_more wild past line event append [] l.holds (record { own = refl; next = m.order.0; list = listed; number = ap (appends (world past) 0) listed; asked = record { command = refl; buffered = refl } }) tt;
    fair = (tt, l.fair);
    owes = l.owes;
  }
