-- The journals that a queue stands for go on by its lines.
use Rattle.std.proofs.Common.{◌≡◌, ◌∙◌, sym, ap, subst, refl, ℕ, true, List, [], ◌∷◌, ◌++◌, map, length, Option, Some, None}
use Rattle.std.specs.List.{AllByRecursion}
use Rattle.sbp_journal.specs.Run.{Moment, said, asked}
use Rattle.sbp_journal.specs.declared.event.Event.{Event}
use Rattle.sbp_journal.specs.declared.note.Note.{Note}
use Rattle.sbp_journal.specs.declared.operation.Operation.{Operation}
use Rattle.sbp_journal.specs.Written.{IsTyped}
use Rattle.sbp_laws.specs.Turns.{event_of}
use Rattle.sbp_world.specs.Forms.{HaveForm}
use Rattle.sbp_world.specs.Histories.{moments_behind}
use Rattle.sbp_world.specs.Lines.{Happens}
use Rattle.sbp_world.specs.Making.{new_world}
use Rattle.sbp_world.specs.Runs.{Entry, Run, entry, with_entry}
use Rattle.sbp_world.specs.Wire.Keeping.{BeginsLawfully, KeepsLaws}
use Rattle.sbp_world.specs.Wire.Lines.{AreLines, IsLine}
use Rattle.sbp_world.specs.Worlds.{Scene, WorldState}
use Rattle.sbp_world.proofs.LineForms.{form_law}
use Rattle.retry_queue.specs.declared.kept.Finished.{Finished}
use Rattle.retry_queue.specs.declared.note.QueueNote.{QueueNote}
use Rattle.retry_queue.specs.declared.note.QueueNote.TheVariants.{World}
use Rattle.retry_queue.specs.Kept.{Kept, asked_by, asked_in, finished, kept, learned, learned_all, new_kept, told, written}
use Rattle.retry_queue.specs.Queues.{Begins, GoesOn, IsIdle, QueueScene, QueueState, QueueStands, RunsLine, Submits, behind, first_steps, idle, queue_over, step_of, submission, with_submission, world_scene, writes}
use Rattle.retry_queue.specs.Steps.{Step, of_world, submitted, idled, submissions, world}
use Rattle.retry_queue.specs.Texts.{HasForm}
use Rattle.retry_queue.proofs.Forms.{told_form}

-- ---- the steps of a line

-- a `written` is nothing to the world, to what is kept, and to the submissions
world-written : (f : Option Finished) (told : List QueueNote) (past : List Step) → world (map step_of (written f ++ told) ++ past) ≡ world (map step_of told ++ past)
world-written None told past = refl
world-written (Some f) told past = refl

kept-written : (f : Option Finished) (told : List QueueNote) (past : List Step) → kept (map step_of (written f ++ told) ++ past) ≡ kept (map step_of told ++ past)
kept-written None told past = refl
kept-written (Some f) told past = refl

writes-written : (f : Option Finished) (told : List QueueNote) (past : List Step) → writes (map step_of (written f ++ told) ++ past) ≡ writes (map step_of told ++ past)
writes-written None told past = refl
writes-written (Some f) told past = refl

pub world-behind : (operation : Option Operation) (before : Kept) (line : ℕ) (event : Event) (past : List Step) (ns : List Note) → world (behind past line event (told operation ns before)) ≡ map said ns ++ asked line event ∷ world past
world-behind operation before line event past [] = refl
world-behind operation before line event past (note ∷ ns) =
    world-written (finished note (learned_all operation ns before)) (World note ∷ told operation ns before) (of_world (asked line event) ∷ past)
    ∙ ap (λ moments. said note ∷ moments) (world-behind operation before line event past ns)

pub event-behind : (line : ℕ) (event : Event) (past : List Moment) (ns : List Note) → event_of (map said ns ++ asked line event ∷ past) ≡ Some event
event-behind line event past [] = refl
event-behind line event past (note ∷ ns) = event-behind line event past ns

-- what is kept changes by the notes
pub kept-behind : (operation : Option Operation) (before : Kept) (line : ℕ) (event : Event) (past : List Step) (ns : List Note) → kept (behind past line event (told operation ns before)) ≡ learned_all (asked_by event) ns (kept past)
kept-behind operation before line event past [] = refl
kept-behind operation before line event past (note ∷ ns) =
    kept-written (finished note (learned_all operation ns before)) (World note ∷ told operation ns before) (of_world (asked line event) ∷ past)
    ∙ ap (λ e. learned (asked_in e) note (kept (behind past line event (told operation ns before)))) (ap event_of (world-behind operation before line event past ns) ∙ event-behind line event (world past) ns)
    ∙ ap (learned (asked_by event) note) (kept-behind operation before line event past ns)

-- and the submissions stay
writes-behind : (operation : Option Operation) (before : Kept) (line : ℕ) (event : Event) (past : List Step) (ns : List Note) → writes (behind past line event (told operation ns before)) ≡ writes past
writes-behind operation before line event past [] = refl
writes-behind operation before line event past (note ∷ ns) =
    writes-written (finished note (learned_all operation ns before)) (World note ∷ told operation ns before) (of_world (asked line event) ∷ past)
    ∙ writes-behind operation before line event past ns

submissions-written : (f : Option Finished) (told : List QueueNote) (past : List Step) → submissions (map step_of (written f ++ told) ++ past) ≡ submissions (map step_of told ++ past)
submissions-written None told past = refl
submissions-written (Some f) told past = refl

pub submissions-behind : (operation : Option Operation) (before : Kept) (line : ℕ) (event : Event) (past : List Step) (ns : List Note) → submissions (behind past line event (told operation ns before)) ≡ submissions past
submissions-behind operation before line event past [] = refl
submissions-behind operation before line event past (note ∷ ns) =
    submissions-written (finished note (learned_all operation ns before)) (World note ∷ told operation ns before) (of_world (asked line event) ∷ past)
    ∙ submissions-behind operation before line event past ns

-- ---- a queue goes on

same_moments : (line : ℕ) (run : Run) (e : Entry) (entries : List Entry) → moments_behind line (with_entry run e) entries ≡ moments_behind line run entries
same_moments line run e [] = refl
same_moments line run e (other ∷ before) =
    ap (λ past. map said other.notes ++ asked other.line other.event ∷ past) (same_moments line run e before)

same_lines : (run : Run) (e : Entry) (entries : List Entry) → AreLines run entries → AreLines (with_entry run e) entries
same_lines run e [] h = tt
same_lines run e (other ∷ before) h = (h.0, same_lines run e before h.1)

-- what a line of a queue's world has: it keeps the laws of runs, its event is that of a script's line, and its notes are kept and told
pub record IsWatched (line : ℕ) (event : Event) (old new : QueueScene) : Type 0 where
  pub laws : KeepsLaws line event (world_scene old) (world_scene new)
  pub one : length old.queue.world.initiators ≡ 1
  pub is_line : IsLine event 1
  pub typed : AllByRecursion IsTyped new.queue.world.fresh
  pub keeps : new.queue.kept ≡ learned_all (asked_by event) new.queue.world.fresh old.queue.kept
  pub tells : new.queue.fresh ≡ told (asked_by event) new.queue.world.fresh old.queue.kept
  pub same : new.queue.submissions ≡ old.queue.submissions

goes_on : (line : ℕ) (event : Event) (old new : QueueScene) → IsWatched line event old new → (past : List Step) (run : Run) → QueueStands past run old → GoesOn past run line event new
goes_on line event old new w past run h =
    let g = w.laws run h.stands.stands in
    let e = entry line event g.told new.queue.world.fresh in
    record {
      ran = g.told;
      stands = record {
        line = h.line;
        history =
            ap (λ fresh. world (behind past line event fresh)) w.tells
            ∙ world-behind (asked_by event) old.queue.kept line event past new.queue.world.fresh
            ∙ ap (λ moments. map said new.queue.world.fresh ++ asked line event ∷ moments) (h.history ∙ sym (same_moments h.line run e run.entries));
        one = h.one;
        lines = (subst (IsLine event) (sym (ap (λ s. length s.world.initiators) (sym h.stands.stands.state) ∙ w.one)) w.is_line, same_lines run e run.entries h.lines);
        typed = (w.typed, h.typed);
        stands = g.keeps;
        keeps =
            w.keeps
            ∙ ap (learned_all (asked_by event) new.queue.world.fresh) h.keeps
            ∙ sym (ap (λ fresh. kept (behind past line event fresh)) w.tells ∙ kept-behind (asked_by event) old.queue.kept line event past new.queue.world.fresh);
        submissions =
            w.same
            ∙ h.submissions
            ∙ sym (ap (λ fresh. writes (behind past line event fresh)) w.tells ∙ writes-behind (asked_by event) old.queue.kept line event past new.queue.world.fresh);
      };
    }

pub runs_line : (line : ℕ) (event : Event) (old new : QueueScene) → IsWatched line event old new → RunsLine line event old new
runs_line line event old new w = record { tells = w.tells; goes_on = goes_on line event old new w }

pub is_idle : (old new : QueueScene) → new ≡ record old { queue = idle old.queue } → IsIdle old new
is_idle old new e = record {
  is = e;
  goes_on = λ past run h. subst (λ s. QueueStands (idled ∷ past) run s) (sym e) (record {
    line = h.line;
    history = h.history;
    one = h.one;
    lines = h.lines;
    typed = h.typed;
    stands = h.stands;
    keeps = h.keeps;
    submissions = h.submissions;
  });
}

pub submits : (lba : ℕ) (bytes : List ℕ) (old new : QueueState) → new ≡ with_submission lba bytes old → Submits lba bytes old new
submits lba bytes old new e = record {
  is = e;
  goes_on = λ past run media h. subst (λ queue. QueueStands (submitted lba bytes ∷ past) run (queue_over queue media)) (sym e) (record {
    line = h.line;
    history = h.history;
    one = h.one;
    lines = h.lines;
    typed = h.typed;
    stands = h.stands;
    keeps = h.keeps;
    submissions = ap (λ ws. ws ++ submission lba bytes ∷ []) h.submissions;
  });
}

-- ---- a queue begins

first_kept : (units line : ℕ) → learned_all None (new_world 1 true units).fresh new_kept ≡ kept (first_steps line)
unfolding new_world
first_kept units line = refl

pub queue_begins : (units : ℕ) (queue : QueueState) → queue.world ≡ new_world 1 true units → BeginsLawfully 1 true units queue.world → queue.kept ≡ learned_all None queue.world.fresh new_kept → queue.submissions ≡ [] → Begins units queue
queue_begins units queue world_is laws keeps none line start = record {
  line = line;
  history = refl;
  one = refl;
  lines = tt;
  typed = tt;
  stands = laws start;
  keeps = keeps ∙ ap (λ w. learned_all None w.fresh new_kept) world_is ∙ first_kept units line;
  submissions = none;
}

-- ---- the notes have their form

pub line_form : (line : ℕ) (event : Event) (old new : Scene) (operation : Option Operation) (before : Kept) (fresh : List QueueNote) → Happens line event old new → fresh ≡ told operation new.world.fresh before → AllByRecursion HasForm fresh
line_form line event old new operation before fresh h e =
    subst (AllByRecursion HasForm) (sym e) (told_form operation before new.world.fresh (form_law.lines line event old new h))

pub first_form : (units : ℕ) (w : WorldState) (fresh : List QueueNote) → w ≡ new_world 1 true units → fresh ≡ told None w.fresh new_kept → AllByRecursion HasForm fresh
first_form units w fresh world_is e =
    subst (AllByRecursion HasForm) (sym e) (told_form None new_kept w.fresh (subst HaveForm (sym world_is) (form_law.begins 1 true units)))
