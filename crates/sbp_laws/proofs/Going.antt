-- How the terms of the target go on with a note behind the first of a turn: a reply that waits takes its agent on. Whatever is told, nothing but the
-- agents changes, and no reply waits any more; and where none waited, the terms are as they were.
use Rattle.std.proofs.Common.{arith, ◌≡◌, ◌∙◌, refl, sym, ap, ℕ, zero, suc, ◌+◌, ◌==◌, nat_eq, Bool, true, false, cond, List, [], ◌∷◌, Option, Some, None}
use Rattle.std.specs.Prelude.{slice_index_or, slice_set}
use Rattle.std.proofs.lemmas.Bool.Decides.{nat_tests}
use Rattle.rbc_disk.specs.Runs.{Told}
use Rattle.rbc_disk.specs.Units.{PlainDisk}
use Rattle.sbp_journal.specs.Wire.{Terms}
use Rattle.sbp_journal.specs.declared.note.Note.{Note}
use Rattle.sbp_laws.specs.Packets.{id_for}
use Rattle.sbp_laws.specs.Targets.{Agent, Reply, Target, agent_at, going_on, initiator_at, initiator_from, initiator_with, is_own_run, new_agent, plain_for, ran_on, taken_on, told_by, told_in, untold_by, with_agent, with_untold}

-- ---- nothing but the agents, and the reply, changes
abbrev pub AgentsAlone : (before now : Target) → Type 0
AgentsAlone before now = now ≡ record before { agents = now.agents; reply = now.reply }

pub taken_alone : (told : Option Told) (reply : Option Reply) (t : Target) → AgentsAlone t (taken_on told reply t)
taken_alone told None t = refl
taken_alone told (Some reply) t = refl

untold_alone : (note : Note) (reply : Option Reply) (t : Target) → AgentsAlone t (with_untold note reply t)
untold_alone note None t = refl
untold_alone note (Some reply) t = refl

pub going_alone : (note : Note) (t : Target) → AgentsAlone t (going_on note t)
going_alone note t =
    let now = going_on note t in
    let u = with_untold note t.reply t in
    taken_alone (told_in t.reply note t) t.reply u ∙ ap (λ (x : Target). record x { agents = now.agents; reply = now.reply }) (untold_alone note t.reply t)

pub run_alone : (is_own : Bool) (note : Note) (t : Target) → AgentsAlone t (ran_on is_own note t)
run_alone true note t = going_alone note t
run_alone false note t = taken_alone None t.reply t

-- ---- no reply waits any more
pub taken_rests : (told : Option Told) (reply : Option Reply) (t : Target) → t.reply ≡ reply → (taken_on told reply t).reply ≡ None
taken_rests told None t e = e
taken_rests told (Some reply) t e = refl

untold_reply : (note : Note) (reply : Option Reply) (t : Target) → (with_untold note reply t).reply ≡ t.reply
untold_reply note None t = refl
untold_reply note (Some reply) t = refl

pub going_rests : (note : Note) (t : Target) → (going_on note t).reply ≡ None
going_rests note t = taken_rests (told_in t.reply note t) t.reply (with_untold note t.reply t) (untold_reply note t.reply t)

pub run_rests : (is_own : Bool) (note : Note) (t : Target) → (ran_on is_own note t).reply ≡ None
run_rests true note t = going_rests note t
run_rests false note t = taken_rests None t.reply t refl

-- ---- none waited
pub taken_still : (told : Option Told) (t : Target) → t.reply ≡ None → taken_on told t.reply t ≡ t
taken_still told t e = ap (λ (r : Option Reply). taken_on told r t) e

pub going_still : (note : Note) (t : Target) → t.reply ≡ None → going_on note t ≡ t
going_still note t e = ap (λ (r : Option Reply). taken_on (told_in r note t) r (with_untold note r t)) e

pub run_still : (is_own : Bool) (note : Note) (t : Target) → t.reply ≡ None → ran_on is_own note t ≡ t
run_still true note t e = going_still note t e
run_still false note t e = taken_still None t e

-- ---- a note that tells of no run
pub record TellsNone (note : Note) : Type 0 where
  pub told : (plain : PlainDisk) → told_by note plain ≡ None
  pub untold : (plain : PlainDisk) (before : Bool) → untold_by note plain before ≡ before

set_self : (agents : List Agent) (k : ℕ) → slice_set agents k (slice_index_or agents k new_agent) ≡ agents
set_self [] k = refl
set_self (a ∷ agents) zero = refl
set_self (a ∷ agents) (suc k) = ap (λ xs. a ∷ xs) (set_self agents k)

same_with : (t : Target) (place : ℕ) → with_agent t place (agent_at t place) ≡ t
same_with t place = ap (λ xs. record t { agents = xs }) (set_self t.agents place)

pub quiet_on : (note : Note) → TellsNone note → (t : Target) → going_on note t ≡ taken_on None t.reply t
quiet_on note n t = by t.reply refl
  where
    by : (reply : Option Reply) → t.reply ≡ reply → going_on note t ≡ taken_on None t.reply t
    by None e = going_still note t e ∙ sym (taken_still None t e)
    by (Some reply) e =
        let plain = plain_for t reply in
        let a = agent_at t reply.place in
        ap (λ (r : Option Reply). taken_on (told_in r note t) r (with_untold note r t)) e
        ∙ ap (λ (told : Option Told). taken_on told (Some reply) (with_agent t reply.place (record a { untold = untold_by note plain a.untold }))) (n.told plain)
        ∙ ap (λ b. taken_on None (Some reply) (with_agent t reply.place (record a { untold = b }))) (n.untold plain a.untold)
        ∙ ap (λ (x : Target). taken_on None (Some reply) x) (same_with t reply.place)
        ∙ sym (ap (λ (r : Option Reply). taken_on None r t) e)

-- ---- the initiator of an ID is the same by terms that have the same IDs
pub from_same : (more i : ℕ) (t u : Terms) (id : ℕ) → ((n : ℕ) → id_for u 0 n ≡ id_for t 0 n) → initiator_from more i u id ≡ initiator_from more i t id
from_same zero i t u id same = refl
from_same (suc more) i t u id same =
    ap (λ x. cond (x == id) i (initiator_from more (i + 1) u id)) (same (i + 1)) ∙ ap (λ x. cond (id_for t 0 (i + 1) == id) i x) (from_same more (i + 1) t u id same)

pub initiators_same : (t u : Terms) (id : ℕ) → ((n : ℕ) → id_for u 0 n ≡ id_for t 0 n) → initiator_with u id ≡ initiator_with t id
initiators_same t u id same = from_same 4 0 t u id same

-- ---- a run of the initiator of the login in the place whose reply waits
pub own_run : (reply : Reply) (i : ℕ) (wire : Terms) (t : Target) → t.reply ≡ Some reply → i ≡ initiator_at t wire reply.place → is_own_run t.reply i wire t ≡ true
own_run reply i wire t e own =
    let same : nat_eq i (initiator_at t wire reply.place) ≡ true = grind (arith, nat_tests) in ap (λ (r : Option Reply). is_own_run r i wire t) e ∙ same
