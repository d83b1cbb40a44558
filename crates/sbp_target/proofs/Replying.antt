-- What a run told is what the step of the agent tells.
use Rattle.std.proofs.Common.{◌≡◌, ℕ, List, ap, subst, refl, ◌∙◌}
use Rattle.std.specs.List.{AllByRecursion}
use Rattle.std.specs.Prelude.{◌<◌, Bool, not, ◌&&◌, slice_set, slice_index, Option, Some, None, Result, Ok, Err, OnOk}
use Rattle.async_packet.specs.Labels.{LabelParts}
use Rattle.login_table.specs.declared.login.Login.{Login}
use Rattle.orb_layout.specs.Replies.{Answer}
use Rattle.rbc_disk.specs.Disk.{disk_at}
use Rattle.rbc_disk.specs.Runs.{Told, told_in}
use Rattle.command_agent.specs.declared.step.AgentStep.{AgentStep}
use Rattle.command_agent.specs.declared.step.Which.{Which}
use Rattle.command_agent.specs.Machine.{Machine}
use Rattle.command_agent.specs.Runs.{MayTell, count_after}
use Rattle.sbp_target.specs.Replies.{Stage, stage, Whole, whole, Replies, RepliesTo, TellsBy, Advances, agent_step, plain_at, replied, replied_by, replied_to, advance, advanced_with, came, follow_all, served_login}
use Rattle.sbp_target.specs.Desks.{which_in}
use Rattle.sbp_target.specs.Nodes.{Scene, scene, desk_at}

pub replied_so : (place unit : ℕ) (which : Which) (answer : Answer) (old : Stage) (step : AgentStep) (m : Machine) (new : Stage) (before now : List ℕ) → (step, new) ≡ replied (told_in step.ran m.answer) place unit which answer old → (step, m) ≡ agent_step (told_in step.ran m.answer) place unit which answer old → MayTell step.ran m place (plain_at old unit) → AllByRecursion (λ byte. byte < 256) m.answer → now ≡ slice_set before unit (count_after step.ran (slice_index before unit)) → Replies (told_in step.ran m.answer) place unit which answer old step new before now
replied_so place unit which answer old step m new before now e a h b n = record {
  is = e;
  tells = record {
    so = ap (λ s. told_in s.0.ran s.1.answer) a;
    may = subst (λ s. MayTell s.0.ran s.1 place (plain_at old unit)) a h;
    bytes = subst (λ s. AllByRecursion (λ byte. byte < 256) s.1.answer) a b;
    counted = n ∙ ap (λ s. slice_set before unit (count_after s.0.ran (slice_index before unit))) a;
  };
}

pub advanced_so : (place : ℕ) (login : Login) (which : Which) (answer : Answer) (old new : Whole) (before now : List ℕ) (told : Option Told) (step : AgentStep) (st : Stage) → Replies told place login.unit which answer (stage old.node old.disks) step st before now → new ≡ advanced_with place login (step, st) old → Advances place login which answer old new before now
unfolding advance
advanced_so place login which answer old new before now told step st r e = record {
  told = told;
  is = e ∙ ap (λ x. advanced_with place login x old) r.is;
  tells = r.tells;
}

-- a step that is followed, with the word whether a disc came
pub advanced_by : (place : ℕ) (login : Login) (step : AgentStep) (st : Stage) (old : Whole) (s : Scene) (loaded was is : Bool) → loaded ≡ (not was && is) → was ≡ (disk_at old.disks login.unit).is_present → is ≡ (disk_at st.disks login.unit).is_present → s ≡ follow_all loaded place login step (scene st.node old.outbox) → whole s st.disks ≡ advanced_with place login (step, st) old
advanced_by place login step st old s loaded was is l w i e =
    let known : loaded ≡ came (disk_at old.disks login.unit) (disk_at st.disks login.unit) = l ∙ (ap (λ b. not b && is) w ∙ ap (λ b. not (disk_at old.disks login.unit).is_present && b) i) in
    ap (λ x. whole x st.disks) (e ∙ ap (λ b. follow_all b place login step (scene st.node old.outbox)) known)

-- No login is served, or the agent does not wait for it: nothing happens.
pub none_served : (place peer : ℕ) (label : LabelParts) (answer : Answer) (w : Whole) (before : List ℕ) → None ≡ served_login w.node place → RepliesTo place peer label answer w w before before
unfolding replied_to
none_served place peer label answer w before e = record {
  told = None;
  is = ap (λ x. replied_by None place answer x (which_in (desk_at w.node place) peer label) w) e;
  tells = subst (λ x. TellsBy None place answer x (which_in (desk_at w.node place) peer label) (stage w.node w.disks) before before) e (refl, refl);
}

pub none_awaited : (place peer : ℕ) (label : LabelParts) (answer : Answer) (w : Whole) (before : List ℕ) (login : Login) → Some login ≡ served_login w.node place → None ≡ which_in (desk_at w.node place) peer label → RepliesTo place peer label answer w w before before
unfolding replied_to
none_awaited place peer label answer w before login e f = record {
  told = None;
  is = ap (λ y. replied_by None place answer (Some login) y w) f ∙ ap (λ x. replied_by None place answer x (which_in (desk_at w.node place) peer label) w) e;
  tells = subst (λ x. TellsBy None place answer x (which_in (desk_at w.node place) peer label) (stage w.node w.disks) before before) e (subst (λ y. TellsBy None place answer (Some login) y (stage w.node w.disks) before before) f (refl, refl));
}

pub served_so : (place peer : ℕ) (label : LabelParts) (answer : Answer) (old new : Whole) (before now : List ℕ) (login : Login) (which : Which) → Some login ≡ served_login old.node place → Some which ≡ which_in (desk_at old.node place) peer label → Advances place login which answer old new before now → RepliesTo place peer label answer old new before now
unfolding replied_to
served_so place peer label answer old new before now login which e f a = record {
  told = a.told;
  is = a.is ∙ (ap (λ y. replied_by a.told place answer (Some login) y old) f ∙ ap (λ x. replied_by a.told place answer x (which_in (desk_at old.node place) peer label) old) e);
  tells = subst (λ x. TellsBy a.told place answer x (which_in (desk_at old.node place) peer label) (stage old.node old.disks) before now) e (subst (λ y. TellsBy a.told place answer (Some login) y (stage old.node old.disks) before now) f a.tells);
}

pub on_ok : {A E : Type 0} (P Q : Type 0) (result : Result A E) → (P → Q) → OnOk result P → OnOk result Q
on_ok P Q (Ok a) f p = f p
on_ok P Q (Err e) f p = tt
