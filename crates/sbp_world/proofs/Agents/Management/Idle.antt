-- A turn begins with agents that ask for nothing and wait for no reply, and a turn of the management leaves them so.
use Rattle.sbp_world.proofs.Words.Std.{◌≡◌, ◌∙◌, refl, sym, ap, subst, ℕ, zero, suc, ◌+◌, ◌||◌, Bool, true, false, cond, List, [], ◌∷◌, map, get_or, set, Option, Some, None, is_none, position, position-Some}
use Rattle.sbp_world.proofs.Words.Wire.{Moment, Terms, Note, FunctionWord}
use Rattle.sbp_world.proofs.Words.Target.{Ahead, Effect, ManagerStep, Table}
use Rattle.sbp_world.proofs.Words.Initiator.{Ask, Nothing, Read, Write, FailCause, Answer}
use Rattle.sbp_world.proofs.Words.Laws.{Agent, Decided, Target, agent_at, agent_over, cut_agent, cut_where, effect_on, entered_by, enters_in, going_on, is_nothing, is_own_run, main_lost, managed_by, new_agent, on_unit, over, ran_on, taken_on, target_by, wants, wants_it}
use Rattle.sbp_world.proofs.Words.World.{office_of, stepped}
use Rattle.command_agent.specs.Steps as steps
use Rattle.mgmt_agent.specs.declared.decision.Effect.TheVariants as effects
use Rattle.mgmt_agent.specs.Machine as manager
use Rattle.orb_layout.specs.declared.ask.FailCause.TheVariants as causes
use Rattle.sbp_journal.specs.declared.note.Note.TheVariants as notes
use Rattle.sbp_journal.specs.declared.operation.FunctionWord.TheVariants as functions
use Rattle.sbp_laws.proofs.Going.{going_still, run_still, taken_rests}
use Rattle.sbp_world.proofs.Agents.Management.Offices.{IsBehind}

abbrev pub AsksNone : Agent → Type 0
AsksNone a = (a.asks ≡ Nothing) × (a.asks_ahead ≡ Nothing)

abbrev pub AllAskNone : List Agent → Type 0
AllAskNone [] = Unit {0}
AllAskNone (a ∷ agents) = AsksNone a × AllAskNone agents

pub record IsIdle (t : Target) : Type 0 where
  pub agents : AllAskNone t.agents
  pub reply : t.reply ≡ None

-- ---- the end of a turn

ahead_by : (ask : Ask) (a : Agent) → a.asks_ahead ≡ ask → (cond (is_nothing ask) a (record a { machine = (steps.lost_step a.machine Ahead causes.Label).1; asks_ahead = Nothing })).asks_ahead ≡ Nothing
ahead_by Nothing a e = e
ahead_by (Read offset len) a e = refl
ahead_by (Write offset len) a e = refl

over_one : (a : Agent) → AsksNone (agent_over a)
over_one a = (refl, ahead_by (main_lost a).asks_ahead (main_lost a) refl)

over_all : (agents : List Agent) → AllAskNone (map agent_over agents)
over_all [] = tt
over_all (a ∷ agents) = (over_one a, over_all agents)

pub over_idle : (t : Target) → IsIdle (over t)
over_idle t = record { agents = over_all (taken_on None t.reply t).agents; reply = taken_rests None t.reply t refl }

-- ---- the effect of a decision

cut_idle : (a : Agent) → AsksNone (cut_agent a)
cut_idle a = (refl, refl)

at_idle : (agents : List Agent) (k : ℕ) → AllAskNone agents → AsksNone (get_or agents k new_agent)
at_idle [] k h = (refl, refl)
at_idle (a ∷ agents) zero h = h.0
at_idle (a ∷ agents) (suc k) h = at_idle agents k h.1

set_idle : (agents : List Agent) (k : ℕ) (a : Agent) → AllAskNone agents → AsksNone a → AllAskNone (set agents k a)
set_idle [] k a h i = tt
set_idle (x ∷ agents) zero a h i = (i, h.1)
set_idle (x ∷ agents) (suc k) a h i = (h.0, set_idle agents k a h.1 i)

one_where : (b : Bool) (a : Agent) → AsksNone a → AsksNone (cond b (cut_agent a) a)
one_where true a h = cut_idle a
one_where false a h = h

where_idle : (test : ℕ → Bool) (place : ℕ) (agents : List Agent) → AllAskNone agents → AllAskNone (cut_where test place agents)
where_idle test place [] h = tt
where_idle test place (a ∷ agents) h = (one_where (test place) a h.0, where_idle test (place + 1) agents h.1)

all_cut : (agents : List Agent) → AllAskNone (map cut_agent agents)
all_cut [] = tt
all_cut (a ∷ agents) = (cut_idle a, all_cut agents)

effect_idle : (effect : Effect) (t : Target) → IsIdle t → IsIdle (effect_on effect t)
effect_idle effects.Nothing t h = h
effect_idle (effects.Entered place replaced) t h = h
effect_idle (effects.Back place) t h = h
effect_idle (effects.Left place) t h = record { agents = set_idle t.agents place (cut_agent (agent_at t place)) h.agents (cut_idle (agent_at t place)); reply = h.reply }
effect_idle (effects.Abort place orb) t h = record { agents = set_idle t.agents place (record (agent_at t place) { machine = steps.abort_step (agent_at t place).machine orb }) h.agents (at_idle t.agents place h.agents); reply = h.reply }
effect_idle (effects.AbortSet place) t h = record { agents = set_idle t.agents place (cut_agent (agent_at t place)) h.agents (cut_idle (agent_at t place)); reply = h.reply }
effect_idle (effects.UnitReset unit) t h = record { agents = where_idle (on_unit unit t.table.places) 0 t.agents h.agents; reply = h.reply }
effect_idle effects.TargetReset t h = record { agents = all_cut t.agents; reply = h.reply }

effect_office : (effect : Effect) (t : Target) → office_of (effect_on effect t) ≡ office_of t
effect_office effects.Nothing t = refl
effect_office (effects.Entered place replaced) t = refl
effect_office (effects.Back place) t = refl
effect_office (effects.Left place) t = refl
effect_office (effects.Abort place orb) t = refl
effect_office (effects.AbortSet place) t = refl
effect_office (effects.UnitReset unit) t = refl
effect_office effects.TargetReset t = refl

pub managed_idle : (r : ManagerStep × (manager.Machine × Table)) (answer : Answer) (t : Target) → IsIdle t → IsIdle (managed_by r answer t)
managed_idle (step, (machine, table)) answer t h = effect_idle step.effect _ (record { agents = h.agents; reply = h.reply })

pub managed_office : (r : ManagerStep × (manager.Machine × Table)) (answer : Answer) (t : Target) → office_of (managed_by r answer t) ≡ stepped (office_of t) answer r
managed_office (step, (machine, table)) answer t = effect_office step.effect _

-- ---- the notes behind the first

going_idle : (note : Note) (t : Target) → IsIdle t → IsIdle (going_on note t)
going_idle note t h = subst IsIdle (sym (going_still note t h.reply)) h

main_by : (ask : Ask) (a : Agent) (lost : Agent) → ask ≡ Nothing → cond (is_nothing ask) a lost ≡ a
main_by Nothing a lost e = refl
main_by (Read offset len) a lost e = absurd (let no : Read offset len ≡ Nothing = e in cc)
main_by (Write offset len) a lost e = absurd (let no : Write offset len ≡ Nothing = e in cc)

lost_idle : (agents : List Agent) → AllAskNone agents → AllAskNone (map main_lost agents)
lost_idle [] h = tt
lost_idle (a ∷ agents) h = (subst AsksNone (sym (main_by a.asks a _ h.0.0)) h.0, lost_idle agents h.1)

dead_idle : (i : ℕ) (list : Option ℕ) (cause : FailCause) (past : List Moment) (wire : Terms) (t : Target) → IsIdle t → IsIdle (target_by (notes.Dead i list cause) past wire t)
dead_idle i list causes.Timeout past wire t h = going_idle _ t h
dead_idle i list causes.Label past wire t h =
    subst (λ (s : Target). IsIdle (record s { agents = map main_lost s.agents })) (sym (ap (λ r. taken_on None r t) h.reply)) (record { agents = lost_idle t.agents h.agents; reply = h.reply })
dead_idle i list causes.Refused past wire t h = going_idle _ t h
dead_idle i list causes.Grammar past wire t h = going_idle _ t h

places_idle : (place : Option ℕ) (decided : Option Decided) (id : ℕ) (t : Target) → IsIdle t → IsIdle (enters_in place decided id t)
places_idle None decided id t h = h
places_idle (Some place) None id t h = h
places_idle (Some place) (Some d) id t h = record { agents = set_idle t.agents place new_agent h.agents (refl, refl); reply = h.reply }

enters_idle : (login : Option ℕ) (t : Target) → IsIdle t → IsIdle (entered_by login t)
enters_idle None t h = h
enters_idle (Some id) t h = places_idle (position is_none t.table.places) t.decided id t h

word_idle : (i subject status : ℕ) (word : FunctionWord) (login : Option ℕ) (past : List Moment) (wire : Terms) (t : Target) → IsIdle t → IsIdle (target_by (notes.Managed i word subject status login) past wire t)
word_idle i subject status functions.Login login past wire t h = enters_idle login t h
word_idle i subject status functions.Query login past wire t h = going_idle _ t h
word_idle i subject status functions.Reconnect login past wire t h = going_idle _ t h
word_idle i subject status functions.Logout login past wire t h = going_idle _ t h
word_idle i subject status functions.Abort login past wire t h = going_idle _ t h
word_idle i subject status functions.AbortSet login past wire t h = going_idle _ t h
word_idle i subject status functions.UnitReset login past wire t h = going_idle _ t h
word_idle i subject status functions.TargetReset login past wire t h = going_idle _ t h
word_idle i subject status functions.Other login past wire t h = going_idle _ t h

same_parts : (t u : Target) → u.agents ≡ t.agents → u.reply ≡ t.reply → IsIdle t → IsIdle u
same_parts t u a r h = record { agents = subst AllAskNone (sym a) h.agents; reply = r ∙ h.reply }

pub note_idle : (note : Note) (past : List Moment) (wire : Terms) (t : Target) → IsBehind note → IsIdle t → IsIdle (target_by note past wire t)
note_idle (notes.Begin initiators ready) past wire t b h = absurd b
note_idle (notes.Append i list orb cdb buffer) past wire t b h = going_idle _ t h
note_idle (notes.Low i list orb) past wire t b h = going_idle _ t h
note_idle (notes.Linked i list orb) past wire t b h = going_idle _ t h
note_idle (notes.Rung i list orb) past wire t b h = going_idle _ t h
note_idle (notes.Dummied i list orb) past wire t b h = going_idle _ t h
note_idle (notes.Sent serial generation from to bytes) past wire t b h = absurd b
note_idle (notes.Injected serial) past wire t b h = going_idle _ t h
note_idle (notes.Got serial) past wire t b h = absurd b
note_idle (notes.Ignored serial cause) past wire t b h = absurd b
note_idle (notes.Lost serial) past wire t b h = going_idle _ t h
note_idle (notes.TimedOut serial) past wire t b h = absurd b
note_idle (notes.Ran i n k unit cdb bytes check) past wire t b h =
    let own = is_own_run t.reply i wire t in
    let note = notes.Ran i n k unit cdb bytes check in
    same_parts (ran_on own note t) (target_by note past wire t) refl refl (subst IsIdle (sym (run_still own note t h.reply)) h)
note_idle (notes.Ended i n k status) past wire t b h = going_idle _ t h
note_idle (notes.Taken i n k status answer) past wire t b h = going_idle _ t h
note_idle (notes.Cut i n cause) past wire t b h = going_idle _ t h
note_idle (notes.Dead i n cause) past wire t b h = dead_idle i n cause past wire t h
note_idle (notes.Drop i list) past wire t b h = going_idle _ t h
note_idle (notes.Managed i word subject status login) past wire t b h = word_idle i subject status word login past wire t h
note_idle (notes.ManageFailed i cause) past wire t b h = record { agents = h.agents; reply = h.reply }
note_idle (notes.Held id) past wire t b h = record { agents = h.agents; reply = h.reply }
note_idle (notes.Expired id) past wire t b h = record { agents = h.agents; reply = h.reply }
note_idle (notes.Back id) past wire t b h = record { agents = h.agents; reply = h.reply }
note_idle (notes.Left id) past wire t b h = record { agents = h.agents; reply = h.reply }
note_idle (notes.Cleared unit) past wire t b h = record { agents = h.agents; reply = h.reply }
note_idle (notes.Op i operation word) past wire t b h = going_idle _ t h
note_idle (notes.Stuck i) past wire t b h = going_idle _ t h
note_idle (notes.Reset generation) past wire t b h = going_idle _ t h
note_idle (notes.Seen node generation) past wire t b h = absurd b
note_idle notes.Tick past wire t b h = absurd b
note_idle (notes.Refused line number) past wire t b h = going_idle _ t h
note_idle notes.Settled past wire t b h = going_idle _ t h
note_idle notes.Stopped past wire t b h = going_idle _ t h
note_idle (notes.Key unit) past wire t b h = absurd b
note_idle (notes.Unsolicited i) past wire t b h = record { agents = h.agents; reply = h.reply }
note_idle (notes.Unsent i) past wire t b h = going_idle _ t h
note_idle (notes.Told i) past wire t b h = going_idle _ t h

-- ---- no agent wants a packet

wants_not : (b : Bool) (x y : Ask) → x ≡ Nothing → y ≡ Nothing → (wants x b || wants y b) ≡ true → ⊥
wants_not b x y e f g = let no : false ≡ true = sym (ap (λ z. wants z b || wants y b) e ∙ ap (λ z. wants Nothing b || wants z b) f) ∙ g in cc

none_by : (b : Bool) (agents : List Agent) (found : Option ℕ) → AllAskNone agents → position (wants_it b) agents ≡ found → found ≡ None
none_by b agents None h e = refl
none_by b agents (Some k) h e =
    let p = position-Some (wants_it b) agents k new_agent e in
    let i = at_idle agents k h in
    absurd (wants_not b (get_or agents k new_agent).asks (get_or agents k new_agent).asks_ahead i.0 i.1 p.1)

pub none_wants : (b : Bool) (agents : List Agent) → AllAskNone agents → position (wants_it b) agents ≡ None
none_wants b agents h = none_by b agents (position (wants_it b) agents) h refl
