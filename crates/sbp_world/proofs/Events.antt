-- A line, by what its event is.
use Rattle.sbp_world.proofs.Words.Std.{◌∙◌, ap, subst, sym}
use Rattle.sbp_world.proofs.Words.Wire.{Event}
use Rattle.sbp_world.proofs.Words.Target.{Disk}
use Rattle.sbp_world.proofs.Words.World.{HappensTo, MayTellIn, happens_to, Delivered, Repeated, AreUpTo, DeliversUpTo, Settles, Scene, WorldState, scene}
use Rattle.std.specs.Prelude.{◌≡◌, ℕ, Bool, List, [], refl}
use Rattle.sbp_journal.specs.declared.event.Event.TheVariants as events
use Rattle.sbp_world.proofs.Delivered.{happens_by}

-- in which no packet is delivered
pub line_is : (line : ℕ) (event shape : Event) (step : WorldState → WorldState) (old new : WorldState) (disks : List Disk) (faults : List ℕ) → event ≡ shape → new ≡ step old → happens_to line shape [] (scene old disks faults) ≡ scene (step old) disks faults → MayTellIn shape [] (scene old disks faults) → HappensTo line event (scene old disks faults) (scene new disks faults)
line_is line event shape step old new disks faults e n h m =
    happens_by line event shape [] (scene old disks faults) (scene new disks faults) e (ap (λ w. scene w disks faults) n ∙ sym h) m

pub timeout_is : (line serial : ℕ) (event : Event) (step : WorldState → WorldState) (old new : WorldState) (disks later : List Disk) (faults counts : List ℕ) → event ≡ events.Timeout serial → new ≡ step old → later ≡ disks → counts ≡ faults → happens_to line (events.Timeout serial) [] (scene old disks faults) ≡ scene (step old) disks faults → HappensTo line event (scene old disks faults) (scene new later counts)
timeout_is line serial event step old new disks later faults counts e n d f h =
    happens_by line event (events.Timeout serial) [] (scene old disks faults) (scene new later counts) e (ap (λ w. scene w later counts) n ∙ (ap (λ x. scene (step old) x counts) d ∙ (ap (λ x. scene (step old) disks x) f ∙ sym h))) refl

pub deliver_is : (line serial : ℕ) (event : Event) (old new : Scene) → event ≡ events.Deliver serial → Delivered line serial old new → HappensTo line event old new
deliver_is line serial event old new e d = happens_by line event (events.Deliver serial) d.told old new e d.is d.may

pub repeat_is : (line serial : ℕ) (event : Event) (old new : Scene) → event ≡ events.Repeat serial → Repeated line serial old new → HappensTo line event old new
repeat_is line serial event old new e d = happens_by line event (events.Repeat serial) d.told old new e d.is d.may

pub step_is : (line count most : ℕ) (event : Event) (old new : Scene) → event ≡ events.Step count → most ≡ count → DeliversUpTo most old new → HappensTo line event old new
step_is line count most event old new e m d =
    happens_by line event (events.Step count) d.told old new e d.is (subst (λ x. AreUpTo x d.told old) m d.may)

pub settle_is : (line : ℕ) (event : Event) (done : Bool) (old new : Scene) → event ≡ events.Settle → Settles done old new → HappensTo line event old new
settle_is line event done old new e d = happens_by line event events.Settle d.told old new e d.is d.may
