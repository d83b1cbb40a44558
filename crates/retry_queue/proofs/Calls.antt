-- What each call of a queue makes of it, by what it hands to its world.
use Rattle.std.proofs.Common.{◌≡◌, ◌∙◌, sym, ap, subst, refl, ℕ, ◌<◌, ◌^◌, List, [], ◌∷◌, ◌++◌, length, map, Some, None, arith}
use Rattle.std.specs.List.{AllByRecursion, slice_get}
use Rattle.std.proofs.lemmas.List.{length-append, length-map, map-append}
use Rattle.rbc_disk.specs.Disk.{Disk}
use Rattle.sbp_journal.specs.declared.event.Action.{Action}
use Rattle.sbp_journal.specs.declared.event.Event.{Event}
use Rattle.sbp_journal.specs.Written.{IsTyped}
use Rattle.sbp_world.specs.Lines.{Happens, IsEvent}
use Rattle.sbp_world.specs.FitInitiator.{BytesCommand}
use Rattle.sbp_world.specs.Wire.Keeping.{KeepsLaws}
use Rattle.sbp_world.specs.Wire.Lines.{IsLine}
use Rattle.sbp_world.specs.Worlds.{WorldState, scene}
use Rattle.retry_queue.specs.declared.kept.Kept as declared
use Rattle.retry_queue.specs.declared.note.QueueNote.{QueueNote}
use Rattle.retry_queue.specs.declared.note.QueueNote.TheVariants.{Idle, Submit}
use Rattle.retry_queue.specs.declared.pump.Row.TheVariants as rows
use Rattle.retry_queue.specs.Journals.{IsSubmission}
use Rattle.retry_queue.specs.Kept.{asked_by, kept_of, learned_all, told}
use Rattle.retry_queue.specs.Queues.{AreWrites, IsIdle, IsWrite, Pumps, QueueScene, QueueState, RunsLine, Submits, append_event, own, queue_scene, submission, submission_in, with_submission}
use Rattle.retry_queue.specs.Steps.{Submission, command_for}
use Rattle.retry_queue.specs.Texts.{HasForm}
use Rattle.retry_queue.proofs.Queues.{FirstRow, act_line, append-in, is_write, line_event, pumps_act, pumps_append, pumps_idle, pumps_none, still_one, write_line, write_of_place}
use Rattle.retry_queue.proofs.Standing.{is_idle, line_form, runs_line, submits}

-- a queue of these parts
abbrev pub state_of : WorldState → declared.Kept → List Event → List QueueNote → QueueState
state_of world k events fresh = record { world = world; kept = kept_of k; submissions = map submission_in events; fresh = fresh }

-- ---- a line that was run

-- what a line of a world leaves: the world, what is kept, and what was told
pub record Left : Type 0 where
  pub world : WorldState
  pub kept : declared.Kept
  pub fresh : List QueueNote
  pub disks : List Disk
  pub faults : List ℕ

abbrev pub left : WorldState → declared.Kept → List QueueNote → List Disk → List ℕ → Left
left world k fresh disks faults = record { world = world; kept = k; fresh = fresh; disks = disks; faults = faults }

abbrev pub scene_left : Left → List Event → QueueScene
scene_left l events = queue_scene (state_of l.world l.kept events l.fresh) l.disks l.faults

-- the run of a line
pub record HasRun (line : ℕ) (event : Event) (old new : Left) : Type 0 where
  pub laws : KeepsLaws line event (scene old.world old.disks old.faults) (scene new.world new.disks new.faults)
  pub typed : AllByRecursion IsTyped new.world.fresh
  pub keeps : kept_of new.kept ≡ learned_all (asked_by event) new.world.fresh (kept_of old.kept)
  pub tells : new.fresh ≡ told (asked_by event) new.world.fresh (kept_of old.kept)

ran_line : (line : ℕ) (event : Event) (old new : Left) (events : List Event) → length old.world.initiators ≡ 1 → IsLine event 1 → HasRun line event old new → RunsLine line event (scene_left old events) (scene_left new events)
ran_line line event old new events one is_line r = runs_line line event (scene_left old events) (scene_left new events) (record {
  laws = r.laws;
  one = one;
  is_line = is_line;
  typed = r.typed;
  keeps = r.keeps;
  tells = r.tells;
  same = refl;
})

-- what is said of a queue of these parts is said of the queue
at_queue : (old : Left) (events : List Event) (now : QueueState) (P : QueueScene → Type 0) → state_of old.world old.kept events old.fresh ≡ now → P (scene_left old events) → P (queue_scene now old.disks old.faults)
at_queue old events now P e h = subst (λ q. P (queue_scene q old.disks old.faults)) e h

one_in : (old : Left) (events : List Event) (now : QueueState) → state_of old.world old.kept events old.fresh ≡ now → length now.world.initiators ≡ 1 → length old.world.initiators ≡ 1
one_in old events now e one = ap (λ q. length q.world.initiators) e ∙ one

pub step_runs : (line : ℕ) (event : Event) (old new : Left) (events : List Event) (now : QueueState) → state_of old.world old.kept events old.fresh ≡ now → length now.world.initiators ≡ 1 → IsLine event 1 → HasRun line event old new
    → RunsLine line event (queue_scene now old.disks old.faults) (scene_left new events)
step_runs line event old new events now e one is_line ran =
    at_queue old events now (λ s. RunsLine line event s (scene_left new events)) e (ran_line line event old new events (one_in old events now e one) is_line ran)

pub act_pumps : (line : ℕ) (event : Event) (action : Action) (old new : Left) (events : List Event) (now : QueueState) → event ≡ own action → state_of old.world old.kept events old.fresh ≡ now → length now.world.initiators ≡ 1 → FirstRow (rows.Act action) (kept_of old.kept)
    → HasRun line event old new → Pumps line (queue_scene now old.disks old.faults) (scene_left new events)
act_pumps line event action old new events now is e one first ran =
    let is_line = subst (λ x. IsLine x 1) (sym is) (act_line (kept_of old.kept) action (first None)) in
    at_queue old events now (λ s. Pumps line s (scene_left new events)) e
    (pumps_act line (scene_left old events) (scene_left new events) (rows.Act action) action first refl
    (subst (λ x. RunsLine line x (scene_left old events) (scene_left new events)) is (ran_line line event old new events (one_in old events now e one) is_line ran)))

pub append_pumps : (line : ℕ) (event : Event) (old new : Left) (events : List Event) (now : QueueState) → state_of old.world old.kept events old.fresh ≡ now → length now.world.initiators ≡ 1 → FirstRow rows.Append (kept_of old.kept) → Some event ≡ slice_get events (kept_of old.kept).next → AllByRecursion IsWrite events
    → HasRun line event old new → Pumps line (queue_scene now old.disks old.faults) (scene_left new events)
append_pumps line event old new events now e one first at writes ran =
    let write = write_of_place events (kept_of old.kept).next event writes (sym at) in
    at_queue old events now (λ s. Pumps line s (scene_left new events)) e
    (pumps_append line (scene_left old events) (scene_left new events) rows.Append events event first refl refl (sym at) write (ran_line line event old new events (one_in old events now e one) (write_line event write) ran))

-- the events that a queue may hand over are those of a line
pub act_event : (old : Left) (events : List Event) (now : QueueState) (event : Event) (action : Action) → event ≡ own action → state_of old.world old.kept events old.fresh ≡ now → length now.world.initiators ≡ 1 → FirstRow (rows.Act action) (kept_of old.kept) → IsEvent event (length old.world.initiators)
act_event old events now event action is e one first =
    subst (λ x. IsEvent x (length old.world.initiators)) (sym is) (line_event (own action) (length old.world.initiators) (one_in old events now e one) (act_line (kept_of old.kept) action (first None)))

pub append_event_fits : (old : Left) (events : List Event) (now : QueueState) (event : Event) → state_of old.world old.kept events old.fresh ≡ now → length now.world.initiators ≡ 1 → Some event ≡ slice_get events (kept_of old.kept).next → AllByRecursion IsWrite events → IsEvent event (length old.world.initiators)
append_event_fits old events now event e one at writes =
    line_event event (length old.world.initiators) (one_in old events now e one) (write_line event (write_of_place events (kept_of old.kept).next event writes (sym at)))

pub step_event : (old : Left) (events : List Event) (now : QueueState) (event : Event) → state_of old.world old.kept events old.fresh ≡ now → length now.world.initiators ≡ 1 → IsLine event 1 → IsEvent event (length old.world.initiators)
step_event old events now event e one is_line = line_event event (length old.world.initiators) (one_in old events now e one) is_line

-- ---- a pump that has nothing to do: its world, what it keeps and its writes stay
none_to_do : (old new : Left) (events : List Event) → new.world ≡ old.world → new.kept ≡ old.kept → new.fresh ≡ Idle ∷ [] → new.disks ≡ old.disks → new.faults ≡ old.faults → IsIdle (scene_left old events) (scene_left new events)
none_to_do old new events world_is kept_is fresh_is disks_is faults_is =
    is_idle (scene_left old events) (scene_left new events) cc

pub idle_pumps : (line : ℕ) (old new : Left) (events : List Event) (now : QueueState) → state_of old.world old.kept events old.fresh ≡ now → FirstRow rows.Idle (kept_of old.kept)
    → new.world ≡ old.world → new.kept ≡ old.kept → new.fresh ≡ Idle ∷ [] → new.disks ≡ old.disks → new.faults ≡ old.faults → Pumps line (queue_scene now old.disks old.faults) (scene_left new events)
idle_pumps line old new events now e first world_is kept_is tells disks_is faults_is =
    at_queue old events now (λ s. Pumps line s (scene_left new events)) e
    (pumps_idle line (scene_left old events) (scene_left new events) rows.Idle first refl (none_to_do old new events world_is kept_is tells disks_is faults_is))

pub none_pumps : (line : ℕ) (old new : Left) (events : List Event) (now : QueueState) → state_of old.world old.kept events old.fresh ≡ now → FirstRow rows.Append (kept_of old.kept) → None ≡ slice_get events (kept_of old.kept).next
    → new.world ≡ old.world → new.kept ≡ old.kept → new.fresh ≡ Idle ∷ [] → new.disks ≡ old.disks → new.faults ≡ old.faults → Pumps line (queue_scene now old.disks old.faults) (scene_left new events)
none_pumps line old new events now e first at world_is kept_is tells disks_is faults_is =
    at_queue old events now (λ s. Pumps line s (scene_left new events)) e
    (pumps_none line (scene_left old events) (scene_left new events) rows.Append events first refl refl (sym at) (none_to_do old new events world_is kept_is tells disks_is faults_is))

-- ---- the notes of a call have their form, and there is one initiator still
pub run_form : (line : ℕ) (event : Event) (old new : Left) → Happens line event (scene old.world old.disks old.faults) (scene new.world new.disks new.faults) → new.fresh ≡ told (asked_by event) new.world.fresh (kept_of old.kept) → AllByRecursion HasForm new.fresh
run_form line event old new happens tells =
    line_form line event (scene old.world old.disks old.faults) (scene new.world new.disks new.faults) (asked_by event) (kept_of old.kept) new.fresh happens tells

pub idle_form : (fresh : List QueueNote) → fresh ≡ Idle ∷ [] → AllByRecursion HasForm fresh
idle_form fresh tells = subst (AllByRecursion HasForm) (sym tells) (tt, tt)

pub run_one : (line : ℕ) (event : Event) (old new : Left) (events : List Event) (now : QueueState) → state_of old.world old.kept events old.fresh ≡ now → length now.world.initiators ≡ 1
    → Happens line event (scene old.world old.disks old.faults) (scene new.world new.disks new.faults) → length new.world.initiators ≡ 1
run_one line event old new events now e one happens = still_one line event (scene old.world old.disks old.faults) (scene new.world new.disks new.faults) happens (one_in old events now e one)

pub idle_one : (old new : Left) (events : List Event) (now : QueueState) → state_of old.world old.kept events old.fresh ≡ now → length now.world.initiators ≡ 1 → new.world ≡ old.world → length new.world.initiators ≡ 1
idle_one old new events now e one same = ap (λ w. length w.initiators) same ∙ one_in old events now e one

-- ---- a write more

pub more_writes : (events : List Event) (event : Event) → AllByRecursion IsWrite events → IsWrite event → AllByRecursion IsWrite (events ++ event ∷ [])
more_writes [] event h w = (w, tt)
more_writes (first ∷ rest) event h w = (h.0, more_writes rest event h.1 w)

pub are_more : (events : List Event) (lba : ℕ) (bytes : List ℕ) → AreWrites events → IsSubmission lba bytes → BytesCommand (command_for (submission lba bytes)) → length events < 65536 → AreWrites (events ++ append_event (submission lba bytes) ∷ [])
are_more events lba bytes h sized b few = record {
  each = more_writes events (append_event (submission lba bytes)) h.each (is_write (submission lba bytes) sized b);
  few = omega (arith, few, length-append events (append_event (submission lba bytes) ∷ []));
}

pub submitted_more : (w : WorldState) (k : declared.Kept) (events : List Event) (fresh : List QueueNote) (now : QueueState) (lba : ℕ) (bytes : List ℕ) (later : List QueueNote) → state_of w k events fresh ≡ now → lba < 2 ^ 32 → later ≡ Submit (length events) lba bytes ∷ []
    → Submits lba bytes now (state_of w k (events ++ append_event (submission lba bytes) ∷ []) later)
submitted_more w k events fresh now lba bytes later e small tells =
    subst (λ q. Submits lba bytes q (state_of w k (events ++ append_event (submission lba bytes) ∷ []) later)) e
    (submits lba bytes (state_of w k events fresh) (state_of w k (events ++ append_event (submission lba bytes) ∷ []) later) (by_parts _ _ (map-append submission_in events (append_event (submission lba bytes) ∷ []) ∙ ap (λ (write : Submission). map submission_in events ++ write ∷ []) (append-in (submission lba bytes) small)) (tells ∙ ap (λ n. Submit n lba bytes ∷ []) (sym (length-map events submission_in)))))
  where
    by_parts : (subs : List Submission) (notes : List QueueNote) → subs ≡ map submission_in events ++ submission lba bytes ∷ [] → notes ≡ Submit (length (map submission_in events)) lba bytes ∷ []
        → record { world = w; kept = kept_of k; submissions = subs; fresh = notes } ≡ with_submission lba bytes (state_of w k events fresh)
    by_parts subs notes a b = cc

-- ---- a call that submits

pub as_many : (w : WorldState) (k : declared.Kept) (events : List Event) (fresh : List QueueNote) (now : QueueState) → state_of w k events fresh ≡ now → length events ≡ length now.submissions
as_many w k events fresh now e = sym (length-map events submission_in) ∙ ap (λ q. length q.submissions) e

-- what was written down: the event of the write behind the others, and a note with its number and a copy of its bytes
pub record IsSubmitting (events later : List Event) (lba : ℕ) (bytes : List ℕ) : Type 0 where
  pub event : Event
  pub event_is : event ≡ append_event (submission lba bytes)
  pub behind : later ≡ events ++ event ∷ []

all_events : (events later : List Event) (lba : ℕ) (bytes : List ℕ) → IsSubmitting events later lba bytes → later ≡ events ++ append_event (submission lba bytes) ∷ []
all_events events later lba bytes h = h.behind ∙ ap (λ event. events ++ event ∷ []) h.event_is

pub writes_more : (events later : List Event) (lba : ℕ) (bytes : List ℕ) → IsSubmitting events later lba bytes → AreWrites events → IsSubmission lba bytes → BytesCommand (command_for (submission lba bytes)) → length events < 65536 → AreWrites later
writes_more events later lba bytes h writes sized b few = subst AreWrites (sym (all_events events later lba bytes h)) (are_more events lba bytes writes sized b few)

pub has_submitted : (w next : WorldState) (k : declared.Kept) (events later : List Event) (fresh told_notes : List QueueNote) (now : QueueState) (lba : ℕ) (bytes copied : List ℕ) (number : ℕ) → state_of w k events fresh ≡ now → lba < 2 ^ 32 → next ≡ w → IsSubmitting events later lba bytes → number ≡ length events → copied ≡ bytes
    → told_notes ≡ Submit number lba copied ∷ [] → Submits lba bytes now (state_of next k later told_notes)
has_submitted w next k events later fresh told_notes now lba bytes copied number e small same h count copy tells =
    subst (λ v. Submits lba bytes now (state_of v k later told_notes)) (sym same)
    (subst (λ es. Submits lba bytes now (state_of w k es told_notes)) (sym (all_events events later lba bytes h))
    (submitted_more w k events fresh now lba bytes told_notes e small (tells ∙ ap (λ n. Submit n lba copied ∷ []) count ∙ ap (λ (b : List ℕ). Submit (length events) lba b ∷ []) copy)))
