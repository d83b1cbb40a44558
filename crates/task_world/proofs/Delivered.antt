-- A delivery as a whole, and a line.
use Rattle.std.proofs.Common.{◌≡◌, ◌∙◌, refl, ap, subst, sym, ℕ, Bool, true, false, List, [], ◌∷◌, Option}
use Rattle.rbc_disk.specs.Disk.{Disk}
use Rattle.rbc_disk.specs.Runs.{Told}
use Rattle.sbp_bus.specs.Packets.{end_note, no_packet}
use Rattle.sbp_journal.specs.declared.event.Event.{Event}
use Rattle.sbp_journal.specs.Outgoings.{OutboxState}
use Rattle.sbp_world.specs.declared.parts.delivering.Arrival.{Arrival}
use Rattle.sbp_world.specs.Delivering.{arrived_by}
use Rattle.sbp_world.specs.Packets.{is_in_flight, may_repeat, refused}
use Rattle.sbp_world.specs.Settling.{budget, is_settled, settled_by, settled_from}
use Rattle.sbp_world.specs.Worlds.{WorldState, in_world as in_plain_world, with_note, without_notes}
use Rattle.task_target.specs.Nodes.{TaskNode}
use Rattle.task_world.specs.Delivering.{Delivers, Receives, delivered, delivered_by, received_step}
use Rattle.task_world.specs.Lines.{MayHappen, MayTellIn, TaskHappens, TaskHappensTo, happens_to, task_happens}
use Rattle.task_world.specs.Packets.{Delivered, MayIf, Repeated, delivered_if}
use Rattle.task_world.specs.Settling.{AreUpTo, DeliversUpTo, Settles, after_all}
use Rattle.task_world.specs.Worlds.{TaskScene, TaskWorldState, begun, in_scene, in_task_world, one_held, task_scene}

-- ---- a scene by its parts

pub scene_by : (w : TaskWorldState) (world : WorldState) (node : TaskNode) (disk : Disk) (count : ℕ) → w.world ≡ world → w.node ≡ node → task_scene w disk count ≡ task_scene (record { world = world; node = node }) disk count
scene_by w world node disk count e f =
    ap (λ (x : WorldState). task_scene (record { world = x; node = w.node }) disk count) e ∙ ap (λ (n : TaskNode). task_scene (record { world = world; node = n }) disk count) f

-- ---- a delivery

delivered_is : (serial : ℕ) (again : Bool) (told : Option Told) (old new : TaskScene) → new ≡ delivered_by serial again (received_step told serial old) → new ≡ delivered serial again told old
unfolding delivered
delivered_is serial again told old new e = e

delivers_so : (serial : ℕ) (again : Bool) (old mid new : TaskScene) (a : Option Arrival) (outbox : OutboxState) → Receives serial old a outbox mid → new ≡ in_scene (in_plain_world (arrived_by serial again a outbox)) mid → Delivers serial again old new
delivers_so serial again old mid new a outbox r e = record {
  told = r.told;
  is = delivered_is serial again r.told old new (e ∙ ap (delivered_by serial again) r.is);
  may = r.may;
}

pub delivers_at : (serial : ℕ) (again : Bool) (old : TaskScene) (mid new : TaskWorldState) (disk : Disk) (count : ℕ) (a : Option Arrival) (outbox : OutboxState) → Receives serial old a outbox (task_scene mid disk count) → new.world ≡ arrived_by serial again a outbox mid.world → new.node ≡ mid.node → Delivers serial again old (task_scene new disk count)
delivers_at serial again old mid new disk count a outbox r e f =
    delivers_so serial again old (task_scene mid disk count) (task_scene new disk count) a outbox r (scene_by new (arrived_by serial again a outbox mid.world) mid.node disk count e f)

-- ---- one delivery of a line

if_is : (b test : Bool) (line serial : ℕ) (again : Bool) (told : List (Option Told)) (old new : TaskScene) → test ≡ b → new ≡ delivered_if b line serial again told old → new ≡ delivered_if test line serial again told old
if_is b test line serial again told old new t e =
    subst (λ (x : Bool). new ≡ delivered_if x line serial again told old) (sym t) e

if_may : (b test : Bool) (serial : ℕ) (told : List (Option Told)) (old : TaskScene) → test ≡ b → MayIf b serial told old → MayIf test serial told old
if_may b test serial told old t m = subst (λ (x : Bool). MayIf x serial told old) (sym t) m

pub line_delivers : (line serial : ℕ) (old new : TaskScene) → is_in_flight serial old.scene.world ≡ true → Delivers serial false old new → Delivered line serial old new
line_delivers line serial old new t d = record {
  told = d.told ∷ [];
  is = if_is true (is_in_flight serial old.scene.world) line serial false (d.told ∷ []) old new t d.is;
  may = if_may true (is_in_flight serial old.scene.world) serial (d.told ∷ []) old t d.may;
}

pub line_repeats : (line serial : ℕ) (old new : TaskScene) → may_repeat serial old.scene.world ≡ true → Delivers serial true old new → Repeated line serial old new
line_repeats line serial old new t d = record {
  told = d.told ∷ [];
  is = if_is true (may_repeat serial old.scene.world) line serial true (d.told ∷ []) old new t d.is;
  may = if_may true (may_repeat serial old.scene.world) serial (d.told ∷ []) old t d.may;
}

pub line_refused : (line serial : ℕ) (old new : TaskWorldState) (disk : Disk) (count : ℕ) → is_in_flight serial old.world ≡ false → new ≡ in_task_world (refused line no_packet) old → Delivered line serial (task_scene old disk count) (task_scene new disk count)
line_refused line serial old new disk count t e = record {
  told = [];
  is = if_is false (is_in_flight serial old.world) line serial false [] (task_scene old disk count) (task_scene new disk count) t (ap (λ (w : TaskWorldState). task_scene w disk count) e);
  may = if_may false (is_in_flight serial old.world) serial [] (task_scene old disk count) t refl;
}

pub repeat_refused : (line serial : ℕ) (old new : TaskWorldState) (disk : Disk) (count : ℕ) → may_repeat serial old.world ≡ false → new ≡ in_task_world (refused line no_packet) old → Repeated line serial (task_scene old disk count) (task_scene new disk count)
repeat_refused line serial old new disk count t e = record {
  told = [];
  is = if_is false (may_repeat serial old.world) line serial true [] (task_scene old disk count) (task_scene new disk count) t (ap (λ (w : TaskWorldState). task_scene w disk count) e);
  may = if_may false (may_repeat serial old.world) serial [] (task_scene old disk count) t refl;
}

-- ---- a settle

settles_so : (most : ℕ) (old mid new : TaskScene) (done : Bool) → most ≡ budget old.scene.world → DeliversUpTo most old mid → done ≡ is_settled mid.scene.world → new ≡ in_scene (settled_from done) mid → Settles old new
settles_so most old mid new done b d t e = record {
  told = d.told;
  is = e ∙ (ap (λ (x : Bool). in_scene (settled_from x) mid) t ∙ ap (in_scene settled_by) d.is);
  may = subst (λ (m : ℕ). AreUpTo m d.told old) b d.may;
}

pub settles_at : (most : ℕ) (old : TaskScene) (mid new : TaskWorldState) (disk : Disk) (count : ℕ) (done : Bool) → most ≡ budget old.scene.world → DeliversUpTo most old (task_scene mid disk count) → done ≡ is_settled mid.world → new.world ≡ with_note (end_note done) mid.world → new.node ≡ mid.node → Settles old (task_scene new disk count)
settles_at most old mid new disk count done b d t e f =
    settles_so most old (task_scene mid disk count) (task_scene new disk count) done b d t (scene_by new (with_note (end_note done) mid.world) mid.node disk count e f)

-- ---- a line

happens_is : (line : ℕ) (event : Event) (told : List (Option Told)) (old new : TaskScene) → new ≡ happens_to line event told (begun old) → new ≡ task_happens line event told old
unfolding task_happens
happens_is line event told old new e = e

happens_may : (event : Event) (told : List (Option Told)) (old : TaskScene) → MayTellIn event told (begun old) → MayHappen event told old
unfolding MayHappen
happens_may event told old m = m

-- the event of a line, by what it is
pub happens_by : (line : ℕ) (event shape : Event) (told : List (Option Told)) (old new : TaskScene) → event ≡ shape → new ≡ happens_to line shape told old → MayTellIn shape told old → TaskHappensTo line event old new
happens_by line event shape told old new e is may = record {
  told = told;
  is = subst (λ (x : Event). new ≡ happens_to line x told old) (sym e) is;
  may = subst (λ (x : Event). MayTellIn x told old) (sym e) may;
}

happens_from : (line : ℕ) (event : Event) (old mid new : TaskScene) → mid ≡ begun old → TaskHappensTo line event mid new → TaskHappens line event old new
happens_from line event old mid new e h = record {
  told = h.told;
  is = happens_is line event h.told old new (subst (λ (s : TaskScene). new ≡ happens_to line event h.told s) e h.is);
  may = happens_may event h.told old (subst (λ (s : TaskScene). MayTellIn event h.told s) e h.may);
}

pub happens_at : (line : ℕ) (event : Event) (old mid : TaskWorldState) (new : TaskScene) (disk : Disk) (count : ℕ) → mid ≡ in_task_world without_notes old → TaskHappensTo line event (task_scene mid disk count) new → TaskHappens line event (task_scene old disk count) new
happens_at line event old mid new disk count e h =
    happens_from line event (task_scene old disk count) (task_scene mid disk count) new (ap (λ (w : TaskWorldState). task_scene w disk count) e) h
