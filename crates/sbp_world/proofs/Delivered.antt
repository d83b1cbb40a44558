-- A delivery as a whole, and a line.
use Rattle.sbp_world.proofs.Words.Std.{OnOk, ◌∙◌, ap, subst, sym}
use Rattle.sbp_world.proofs.Words.Wire.{Event, OutboxState, no_packet, end_note}
use Rattle.sbp_world.proofs.Words.Target.{Disk, Told}
use Rattle.sbp_world.proofs.Words.World.{Arrival, Delivers, Receives, arrived_by, delivered, delivered_by, received_step, Happens, HappensTo, MayHappen, MayTellIn, happens, happens_to, Delivered, MayIf, Repeated, delivered_if, is_in_flight, may_repeat, refused, AreUpTo, DeliversUpTo, Settles, budget, is_settled, settled_from, Scene, WorldState, begun, in_world, scene, with_note, without_notes}
use Rattle.std.specs.Prelude.{◌≡◌, ℕ, Bool, true, false, List, [], ◌∷◌, Option, Result, Ok, Err, refl}

-- ---- a delivery

delivered_is : (serial : ℕ) (again : Bool) (told : Option Told) (old new : Scene) → new ≡ delivered_by serial again (received_step told serial old) → new ≡ delivered serial again told old
unfolding delivered
delivered_is serial again told old new e = e

pub delivers_so : (serial : ℕ) (again : Bool) (old mid new : Scene) (a : Option Arrival) (outbox : OutboxState) → Receives serial old a outbox mid → new ≡ in_world (arrived_by serial again a outbox) mid → Delivers serial again old new
delivers_so serial again old mid new a outbox r e = record {
  told = r.told;
  is = delivered_is serial again r.told old new (e ∙ ap (delivered_by serial again) r.is);
  may = r.may;
}

pub delivers_at : (serial : ℕ) (again : Bool) (old : Scene) (mid new : WorldState) (disks : List Disk) (faults : List ℕ) (a : Option Arrival) (outbox : OutboxState) → Receives serial old a outbox (scene mid disks faults) → new ≡ arrived_by serial again a outbox mid → Delivers serial again old (scene new disks faults)
delivers_at serial again old mid new disks faults a outbox r e =
    delivers_so serial again old (scene mid disks faults) (scene new disks faults) a outbox r (ap (λ w. scene w disks faults) e)

-- ---- one delivery of a line

if_is : (b test : Bool) (line serial : ℕ) (again : Bool) (told : List (Option Told)) (old new : Scene) → test ≡ b → new ≡ delivered_if b line serial again told old → new ≡ delivered_if test line serial again told old
if_is b test line serial again told old new t e =
    subst (λ x. new ≡ delivered_if x line serial again told old) (sym t) e

if_may : (b test : Bool) (serial : ℕ) (told : List (Option Told)) (old : Scene) → test ≡ b → MayIf b serial told old → MayIf test serial told old
if_may b test serial told old t m = subst (λ x. MayIf x serial told old) (sym t) m

pub line_delivers : (line serial : ℕ) (old new : Scene) → is_in_flight serial old.world ≡ true → Delivers serial false old new → Delivered line serial old new
line_delivers line serial old new t d = record {
  told = d.told ∷ [];
  is = if_is true (is_in_flight serial old.world) line serial false (d.told ∷ []) old new t d.is;
  may = if_may true (is_in_flight serial old.world) serial (d.told ∷ []) old t d.may;
}

pub line_refuses : (line serial : ℕ) (old new : Scene) → is_in_flight serial old.world ≡ false → new ≡ in_world (refused line no_packet) old → Delivered line serial old new
line_refuses line serial old new t e = record {
  told = [];
  is = if_is false (is_in_flight serial old.world) line serial false [] old new t e;
  may = if_may false (is_in_flight serial old.world) serial [] old t refl;
}

pub line_repeats : (line serial : ℕ) (old new : Scene) → may_repeat serial old.world ≡ true → Delivers serial true old new → Repeated line serial old new
line_repeats line serial old new t d = record {
  told = d.told ∷ [];
  is = if_is true (may_repeat serial old.world) line serial true (d.told ∷ []) old new t d.is;
  may = if_may true (may_repeat serial old.world) serial (d.told ∷ []) old t d.may;
}

pub line_repeats_not : (line serial : ℕ) (old new : Scene) → may_repeat serial old.world ≡ false → new ≡ in_world (refused line no_packet) old → Repeated line serial old new
line_repeats_not line serial old new t e = record {
  told = [];
  is = if_is false (may_repeat serial old.world) line serial true [] old new t e;
  may = if_may false (may_repeat serial old.world) serial [] old t refl;
}

pub line_refused : (line serial : ℕ) (old new : WorldState) (disks : List Disk) (faults : List ℕ) → is_in_flight serial old ≡ false → new ≡ refused line no_packet old → Delivered line serial (scene old disks faults) (scene new disks faults)
line_refused line serial old new disks faults t e =
    line_refuses line serial (scene old disks faults) (scene new disks faults) t (ap (λ w. scene w disks faults) e)

pub repeat_refused : (line serial : ℕ) (old new : WorldState) (disks : List Disk) (faults : List ℕ) → may_repeat serial old ≡ false → new ≡ refused line no_packet old → Repeated line serial (scene old disks faults) (scene new disks faults)
repeat_refused line serial old new disks faults t e =
    line_repeats_not line serial (scene old disks faults) (scene new disks faults) t (ap (λ w. scene w disks faults) e)

-- ---- a settle

pub settles_so : (most : ℕ) (old mid new : Scene) (done : Bool) → most ≡ budget old.world → DeliversUpTo most old mid → done ≡ is_settled mid.world → new ≡ settled_from done mid → Settles done old new
settles_so most old mid new done b d t e = record {
  told = d.told;
  is = e ∙ (ap (λ x. settled_from x mid) t ∙ ap (λ s. settled_from (is_settled s.world) s) d.is);
  may = subst (λ m. AreUpTo m d.told old) b d.may;
  done = t ∙ sym (ap (λ s. is_settled s.world) e);
}

pub settles_at : (most : ℕ) (old : Scene) (mid new : WorldState) (disks : List Disk) (faults : List ℕ) (done : Bool) → most ≡ budget old.world → DeliversUpTo most old (scene mid disks faults) → done ≡ is_settled mid → new ≡ with_note (end_note done) mid → Settles done old (scene new disks faults)
settles_at most old mid new disks faults done b d t e =
    settles_so most old (scene mid disks faults) (scene new disks faults) done b d t (ap (λ w. scene w disks faults) e)

-- ---- a line

happens_is : (line : ℕ) (event : Event) (told : List (Option Told)) (old new : Scene) → new ≡ happens_to line event told (begun old) → new ≡ happens line event told old
unfolding happens
happens_is line event told old new e = e

happens_may : (event : Event) (told : List (Option Told)) (old : Scene) → MayTellIn event told (begun old) → MayHappen event told old
unfolding MayHappen
happens_may event told old m = m

-- the event of a line, by what it is
pub happens_by : (line : ℕ) (event shape : Event) (told : List (Option Told)) (old new : Scene) → event ≡ shape → new ≡ happens_to line shape told old → MayTellIn shape told old → HappensTo line event old new
happens_by line event shape told old new e is may = record {
  told = told;
  is = subst (λ x. new ≡ happens_to line x told old) (sym e) is;
  may = subst (λ x. MayTellIn x told old) (sym e) may;
}

pub happens_from : (line : ℕ) (event : Event) (old mid new : Scene) → mid ≡ begun old → HappensTo line event mid new → Happens line event old new
happens_from line event old mid new e h = record {
  told = h.told;
  is = happens_is line event h.told old new (subst (λ s. new ≡ happens_to line event h.told s) e h.is);
  may = happens_may event h.told old (subst (λ s. MayTellIn event h.told s) e h.may);
}

pub happens_at : (line : ℕ) (event : Event) (old mid : WorldState) (new : Scene) (disks : List Disk) (faults : List ℕ) → mid ≡ without_notes old → HappensTo line event (scene mid disks faults) new → Happens line event (scene old disks faults) new
happens_at line event old mid new disks faults e h =
    happens_from line event (scene old disks faults) (scene mid disks faults) new (ap (λ w. scene w disks faults) e) h

pub on_ok : {A E : Type 0} (result : Result A E) (P Q : Type 0) → (P → Q) → OnOk result P → OnOk result Q
on_ok (Ok a) P Q f p = f p
on_ok (Err e) P Q f p = p
