-- What a run told is what the step of the agent tells.
use Rattle.std.proofs.Common.{◌≡◌, ℕ, ap, subst, refl, ◌∙◌}
use Rattle.std.specs.List.{AllByRecursion}
use Rattle.std.specs.Prelude.{◌<◌, IfSome, true, false, Option, Some, None, Result, Ok, Err, OnOk}
use Rattle.async_packet.specs.Labels.{LabelParts}
use Rattle.login_table.specs.declared.login.Login.{Login}
use Rattle.orb_layout.specs.Replies.{Answer}
use Rattle.rbc_disk.specs.Runs.{Told, told_in}
use Rattle.command_agent.specs.Runs.{MayTell, count_after}
use Rattle.unordered_agent.specs.declared.step.TaskStep.{TaskStep}
use Rattle.unordered_agent.specs.Machine.{TaskMachine, task_at}
use Rattle.unordered_agent.specs.Steps.{place_of}
use Rattle.task_target.specs.Nodes.{scene}
use Rattle.task_target.specs.Following.{about, follow}
use Rattle.task_target.specs.Replies.{Stage, stage, Whole, whole, Replies, RepliesTo, TellsBy, Advances, Silent, advance, advanced_with, agent_step, awaits, plain_in, replied, replied_by, replied_to, served_login}

-- the answer in the place that the step is about is bytes
abbrev pub AnswerBytes : ℕ → Stage → TaskMachine → Type 0
AnswerBytes place old m = IfSome (about old.node.agent place) (λ at. AllByRecursion (λ byte. byte < 256) (task_at m at).answer)

pub replied_so : (place : ℕ) (answer : Answer) (old new : Stage) (step : TaskStep) (m : TaskMachine) (before now : ℕ) → (step, new) ≡ replied (told_in step.ran (task_at m (place_of old.node.agent place)).answer) place answer old → (step, m) ≡ agent_step (told_in step.ran (task_at m (place_of old.node.agent place)).answer) place answer old → MayTell step.ran (task_at m (place_of old.node.agent place)) 0 (plain_in old) → AnswerBytes place old m → now ≡ count_after step.ran before → Replies (told_in step.ran (task_at m (place_of old.node.agent place)).answer) place answer old step new before now
replied_so place answer old new step m before now e a h b n = record {
  is = e;
  tells = record {
    so = ap (λ (s : TaskStep × TaskMachine). told_in s.0.ran (task_at s.1 (place_of old.node.agent place)).answer) a;
    may = subst (λ (s : TaskStep × TaskMachine). MayTell s.0.ran (task_at s.1 (place_of old.node.agent place)) 0 (plain_in old)) a h;
    bytes = subst (λ (s : TaskStep × TaskMachine). AnswerBytes place old s.1) a b;
    counted = n ∙ ap (λ (s : TaskStep × TaskMachine). count_after s.0.ran before) a;
  };
}

-- a step that is followed, while the medium stays
pub advanced_so : (place : ℕ) (login : Login) (answer : Answer) (old new : Whole) (before mid now : ℕ) (told : Option Told) (step : TaskStep) (st : Stage) (at : Option ℕ) → Replies told place answer (stage old.node old.disk) step st before mid → at ≡ about old.node.agent place → scene new.node new.outbox ≡ follow login at step (scene st.node old.outbox) → new.disk ≡ st.disk → now ≡ mid → Advances place login answer old new before now
unfolding advance
advanced_so place login answer old new before mid now told step st at r a e d n = record {
  told = told;
  is = ap (λ disk. whole (scene new.node new.outbox) disk) d ∙ (ap (λ s. whole s st.disk) (e ∙ ap (λ p. follow login p step (scene st.node old.outbox)) a) ∙ ap (λ x. advanced_with place login x old) r.is);
  tells = record { so = r.tells.so; may = r.tells.may; bytes = r.tells.bytes; counted = n ∙ r.tells.counted };
}

-- No login is served, or the agent does not wait for it: nothing happens.
nothing_told : (before : ℕ) → Silent None before before
nothing_told before = record { so = refl; counted = refl }

pub none_served : (place peer : ℕ) (label : LabelParts) (answer : Answer) (w : Whole) (before : ℕ) → None ≡ served_login w.node → RepliesTo place peer label answer w w before before
unfolding replied_to
none_served place peer label answer w before e = record {
  told = None;
  is = ap (λ x. replied_by None place answer x (awaits w.node place peer label) w) e;
  tells = subst (λ x. TellsBy None place answer x (awaits w.node place peer label) (stage w.node w.disk) before before) e (nothing_told before);
}

pub none_awaited : (place peer : ℕ) (label : LabelParts) (answer : Answer) (w : Whole) (before : ℕ) (login : Login) → Some login ≡ served_login w.node → false ≡ awaits w.node place peer label → RepliesTo place peer label answer w w before before
unfolding replied_to
none_awaited place peer label answer w before login e f = record {
  told = None;
  is = ap (λ y. replied_by None place answer (Some login) y w) f ∙ ap (λ x. replied_by None place answer x (awaits w.node place peer label) w) e;
  tells = subst (λ x. TellsBy None place answer x (awaits w.node place peer label) (stage w.node w.disk) before before) e (subst (λ y. TellsBy None place answer (Some login) y (stage w.node w.disk) before before) f (nothing_told before));
}

pub served_so : (place peer : ℕ) (label : LabelParts) (answer : Answer) (old new : Whole) (before now : ℕ) (login : Login) → Some login ≡ served_login old.node → true ≡ awaits old.node place peer label → Advances place login answer old new before now → RepliesTo place peer label answer old new before now
unfolding replied_to
served_so place peer label answer old new before now login e f a = record {
  told = a.told;
  is = a.is ∙ (ap (λ y. replied_by a.told place answer (Some login) y old) f ∙ ap (λ x. replied_by a.told place answer x (awaits old.node place peer label) old) e);
  tells = subst (λ x. TellsBy a.told place answer x (awaits old.node place peer label) (stage old.node old.disk) before now) e (subst (λ y. TellsBy a.told place answer (Some login) y (stage old.node old.disk) before now) f a.tells);
}

pub on_ok : {A E : Type 0} (P Q : Type 0) (result : Result A E) → (P → Q) → OnOk result P → OnOk result Q
on_ok P Q (Ok a) f p = f p
on_ok P Q (Err e) f p = tt
