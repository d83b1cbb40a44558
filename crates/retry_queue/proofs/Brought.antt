-- What the lines of a queue bring: each ORB directly behind the line that asked for it.
use Rattle.std.proofs.Common.{◌≡◌, ◌∙◌, refl, sym, ap, subst, ℕ, zero, suc, Option, Some, None, false, List, [], ◌∷◌, ◌++◌, reverse, ◌⊎◌, inl, inr}
use Rattle.std.proofs.lemmas.List.{reverse-append, reverse-reverse}
use Rattle.rbc_disk.specs.Disk.{Disk}
use Rattle.sbp_journal.specs.Run.{Moment, asked, said}
use Rattle.sbp_journal.specs.declared.event.Action.TheVariants as actions
use Rattle.sbp_journal.specs.declared.event.Cmd.{Cmd}
use Rattle.sbp_journal.specs.declared.event.Event.{Event}
use Rattle.sbp_journal.specs.declared.event.Event.TheVariants as events
use Rattle.sbp_journal.specs.declared.note.Note.{Note}
use Rattle.sbp_journal.specs.declared.note.Note.TheVariants as notes
use Rattle.sbp_laws.specs.Actions.{buffer_of, list_for, new_list, new_number}
use Rattle.sbp_laws.specs.Lists.{present_list}
use Rattle.sbp_laws.specs.Terms.{appends}
use Rattle.sbp_laws.specs.Turns.{EachMoment}
use Rattle.retry_queue.specs.Steps.{EachStep, Step, idled, of_world, submitted, told, world}
use Rattle.retry_queue.specs.Journals.{BroughtAt, MadeAt}
use Rattle.retry_queue.specs.Entries.{AppendNone, AppendsFirst, AppendsSo, AreStepsOf, IsLineOf, LinesBring, StandsAt, is_append}
use Rattle.retry_queue.proofs.Cases.{not_own}
use Rattle.retry_queue.proofs.Entries.{appends_come_first, joined}

none_back : (ns : List Note) → AppendNone ns → AppendNone (reverse ns)
none_back [] h = tt
none_back (note ∷ ns) h = subst AppendNone (sym (reverse-append (note ∷ []) ns)) (joined (reverse ns) (note ∷ []) (none_back ns h.1) (h.0, tt))

-- a note that is no append
plainly : (note : Note) (past : List Step) → is_append note ≡ false → StandsAt (said note) (world past) → BroughtAt (of_world (said note)) past
plainly (notes.Append i n k cdb buffer) past e s = absurd (cc e)
plainly (notes.Begin initiators ready) past e s = s
plainly (notes.Taken i n k status answer) past e s = s
plainly _ past e s = tt

module _ (before : List Step) (line : ℕ) (event : Event) (had : EachStep BroughtAt before) where
  abbrev behind : List Step → List Step
  behind steps = steps ++ of_world (asked line event) ∷ before

  none_among : (steps : List Step) (ns : List Note) → AreStepsOf steps ns → AppendNone ns → EachMoment StandsAt (world (behind steps)) → EachStep BroughtAt (behind steps)
  none_among [] [] a none s = (tt, had)
  none_among [] (note ∷ ns) a none s = absurd a
  none_among (of_world (said x) ∷ steps) (note ∷ ns) a none s = (plainly x (behind steps) (ap is_append a.0 ∙ none.0) s.0, none_among steps ns a.1 none.1 s.1)
  none_among (told number status ∷ steps) ns a none s = (tt, none_among steps ns a none s)
  none_among (of_world (said x) ∷ steps) [] a none s = absurd a
  none_among (of_world (asked l e) ∷ steps) ns a none s = absurd a
  none_among (submitted lba bytes ∷ steps) ns a none s = absurd a
  none_among (idled ∷ steps) ns a none s = absurd a

-- a line that asks changes no list
pub same_list : (present : Option ℕ) (past : List Moment) (line : ℕ) (event : Event) → list_for past 0 present ≡ list_for (asked line event ∷ past) 0 present
same_list None past line event = refl
same_list (Some n) past line event = refl

-- the line of an append
module _ (before : List Step) (line : ℕ) (cmd : Cmd) (had : EachStep BroughtAt before) where
  abbrev event : Event
  event = events.Act 0 (actions.Append cmd)

  abbrev line_of : List Step → List Step
  line_of steps = steps ++ of_world (asked line event) ∷ before

  abbrev append : Note
  append = notes.Append 0 (new_list (world before) 0) (new_number (world before) 0) cmd.cdb (buffer_of cmd)

  -- directly behind it stands nothing else
  nothing_told : (steps : List Step) → AreStepsOf steps [] → EachStep MadeAt (line_of steps) → steps ≡ []
  nothing_told [] a made = refl
  nothing_told (told number status ∷ []) a made = absurd (cc made.0)
  nothing_told (told number status ∷ step ∷ steps) a made = absurd (let none = nothing_told (step ∷ steps) a made.1 in cc none)
  nothing_told (of_world (said x) ∷ steps) a made = absurd a
  nothing_told (of_world (asked l e) ∷ steps) a made = absurd a
  nothing_told (submitted lba bytes ∷ steps) a made = absurd a
  nothing_told (idled ∷ steps) a made = absurd a

  listed : new_list (world before) 0 ≡ new_list (asked line event ∷ world before) 0
  listed = same_list (present_list (world before) 0) (world before) line event

  appended_here : (steps : List Step) → steps ≡ [] → StandsAt (said append) (world (line_of steps)) → BroughtAt (of_world (said append)) (line_of steps) × EachStep BroughtAt (line_of steps)
  appended_here [] e s = (record { own = refl; next = s; list = listed; number = ap (appends (world before) 0) listed; asked = record { command = refl; buffered = refl } }, (tt, had))
  appended_here (step ∷ steps) e s = absurd (cc e)

  one_among : (steps : List Step) (later : List Note) → AreStepsOf steps (later ++ append ∷ []) → AppendNone later → EachStep MadeAt (line_of steps) → EachMoment StandsAt (world (line_of steps)) → EachStep BroughtAt (line_of steps)
  one_among [] [] a none made s = absurd a
  one_among [] (note ∷ later) a none made s = absurd a
  one_among (of_world (said x) ∷ steps) [] a none made s =
      let here = appended_here steps (nothing_told steps a.1 made.1) (subst (λ y. StandsAt (said y) (world (line_of steps))) a.0 s.0) in
      (subst (λ y. BroughtAt (of_world (said y)) (line_of steps)) (sym a.0) here.0, here.1)
  one_among (of_world (said x) ∷ steps) (note ∷ later) a none made s = (plainly x (line_of steps) (ap is_append a.0 ∙ none.0) s.0, one_among steps later a.1 none.1 made.1 s.1)
  one_among (told number status ∷ steps) later a none made s = (tt, one_among steps later a none made.1 s)
  one_among (of_world (asked l e) ∷ steps) later a none made s = absurd a
  one_among (submitted lba bytes ∷ steps) later a none made s = absurd a
  one_among (idled ∷ steps) later a none made s = absurd a

-- ---- every line
none_of : (ns : List Note) → AppendNone (reverse ns) → AppendNone ns
none_of ns h = subst AppendNone (reverse-reverse ns) (none_back (reverse ns) h)

abbrev IsOther : Event → Type 0
IsOther (events.Act i (actions.Append cmd)) = ⊥
IsOther (events.Act i (actions.Put cmd)) = ⊥
IsOther _ = Unit {0}

plain_so : (past : List Moment) (event : Event) (ns : List Note) → IsOther event → AppendsSo past event ns → AppendNone ns
plain_so past (events.Act i (actions.Append cmd)) ns other so = absurd other
plain_so past (events.Act i (actions.Put cmd)) ns other so = absurd other
plain_so past _ ns other so = so

other_line : (disks : List Disk) (before : List Step) (line : ℕ) (event : Event) (ns : List Note) (steps : List Step) → IsOther event → IsLineOf disks before line event ns steps → EachStep BroughtAt before → EachStep BroughtAt (steps ++ of_world (asked line event) ∷ before)
other_line disks before line event ns steps other l had =
    none_among before line event had steps ns l.steps_are (none_of ns (plain_so (world before) event (reverse ns) other (appends_come_first disks (world before) line event (reverse ns) l.brings))) l.stands

append_line : (disks : List Disk) (before : List Step) (line : ℕ) (cmd : Cmd) (ns : List Note) (steps : List Step) → IsLineOf disks before line (events.Act 0 (actions.Append cmd)) ns steps → EachStep BroughtAt before
    → EachStep BroughtAt (steps ++ of_world (asked line (events.Act 0 (actions.Append cmd))) ∷ before)
append_line disks before line cmd ns steps l had = by (appends_come_first disks (world before) line (events.Act 0 (actions.Append cmd)) (reverse ns) l.brings)
  where
    by : AppendNone (reverse ns) ⊎ AppendsFirst (world before) 0 cmd (reverse ns) → EachStep BroughtAt (steps ++ of_world (asked line (events.Act 0 (actions.Append cmd))) ∷ before)
    by (inl none) = none_among before line (events.Act 0 (actions.Append cmd)) had steps ns l.steps_are (none_of ns none) l.stands
    by (inr first) =
        let is = sym (reverse-reverse ns) ∙ ap reverse first.is ∙ reverse-append (notes.Append 0 (new_list (world before) 0) (new_number (world before) 0) cmd.cdb (buffer_of cmd) ∷ []) first.rest in
        one_among before line cmd had steps (reverse first.rest) (subst (AreStepsOf steps) is l.steps_are) (none_back first.rest first.alone) l.made l.stands

pub lines_bring : LinesBring
lines_bring disks before line (events.Act zero (actions.Append cmd)) ns steps l had = append_line disks before line cmd ns steps l had
lines_bring disks before line (events.Act (suc i) (actions.Append cmd)) ns steps l had = absurd (not_own i l.own)
lines_bring disks before line (events.Act i (actions.Put cmd)) ns steps l had = absurd l.own
lines_bring disks before line event ns steps l had = other_line disks before line event ns steps tt l had
