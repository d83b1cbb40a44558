-- The unsolicited statuses, and the runs, among what a call of the target tells: changes of other kinds have none; and those of a disc that came stand last, by who has their places as the
-- call begins.
use Rattle.std.proofs.Common.{[], ◌==◌, Bool, List, None, Option, Some, ap, cond, false, length, map, nat_lt, refl, subst, suc, sym, true, zero, ℕ, ◌++◌, ◌+◌, ◌∙◌, ◌∷◌, ◌≡◌}
use Rattle.std.proofs.lemmas.List.Elements.{filter-append}
use Rattle.std.proofs.lemmas.Bool.{true≢false}
use Rattle.async_packet.specs.Packet.{Packet}
use Rattle.command_agent.specs.declared.step.AgentState.{AgentState}
use Rattle.command_agent.specs.declared.step.AgentState.TheVariants as states
use Rattle.label_table.specs.Bodies.{block_write}
use Rattle.label_table.specs.Layer.{Layer, asking_step}
use Rattle.label_table.specs.declared.judgement.Asked.{Asked}
use Rattle.login_table.specs.Table.{is_live}
use Rattle.login_table.specs.declared.login.Login.{Login}
use Rattle.media_bay.specs.Unsolicited.{block}
use Rattle.mgmt_agent.specs.declared.decision.Decision.{Decision}
use Rattle.mgmt_agent.specs.declared.decision.Effect.{Effect}
use Rattle.mgmt_agent.specs.declared.decision.Effect.TheVariants as effects
use Rattle.orb_layout.specs.declared.pointer.OrbPointer.{OrbPointer}
use Rattle.orb_layout.specs.declared.pointer.OrbPointer.TheVariants as pointers
use Rattle.rbc_disk.specs.declared.command.Outcome.{Outcome}
use Rattle.sbp_bus.specs.Telling.{ran_note}
use Rattle.sbp_bus.specs.declared.places.Holder.{Holder}
use Rattle.sbp_journal.specs.declared.cause.CutCause.{CutCause}
use Rattle.sbp_journal.specs.declared.cause.CutCause.TheVariants as cuts
use Rattle.sbp_journal.specs.declared.note.Note.{Note}
use Rattle.sbp_journal.specs.declared.note.Note.TheVariants as notes
use Rattle.sbp_journal.specs.declared.side.Side.{Side}
use Rattle.sbp_journal.specs.declared.side.Side.TheVariants as sides
use Rattle.sbp_laws.specs.MediaLaw.{is_push_note}
use Rattle.sbp_laws.specs.NoteKinds.{of_kind}
use Rattle.sbp_target.specs.Histories.Sides.{Announced, AreFirst, ArePlain, announced_as, announced_at, announced_from, announced_if, announced_to, by_place, cleared_of, cut_for, cut_in, cut_of, decision_changes, demand_changes, effect_changes, held_login, held_of, is_change, left_for, of_place, of_unit, opened_at, opened_in, request_changes, reset_changes, told_from, unsent_then}
use Rattle.sbp_target.specs.Nodes.{NodeState, desk_at, login_at}
use Rattle.sbp_target.specs.Units.{hears, is_pending}
use Rattle.sbp_target.specs.declared.desk.Desk.{Desk}
use Rattle.sbp_target.specs.declared.purpose.Purpose.{Purpose}
use Rattle.sbp_target.specs.declared.purpose.Purpose.TheVariants as purposes
use Rattle.sbp_world.specs.Hosts.Handing.{AreOthers, IsOther}
use Rattle.sbp_world.specs.Telling.{holder, ticket_at, told as told_one, told_all}
use Rattle.sbp_world.specs.Worlds.{WorldState}
use Rattle.target_base.specs.Addresses.{demand_of}
use Rattle.target_base.specs.declared.address.Access.TheVariants as accesses
use Rattle.target_base.specs.declared.address.Demand.{Demand}
use Rattle.target_base.specs.declared.address.Demand.TheVariants as demands
use Rattle.sbp_world.proofs.Agents.Management.Calm.{AreQuiet, IsQuiet}
use Rattle.sbp_world.proofs.Lists.RunTells.{AreRunless, IsRunless}
use Rattle.turn_laws.proofs.Handed.{note_of, notes_told}
use Rattle.turn_laws.proofs.KindNotes.{join_same}

-- a command that ran
abbrev pub is_ran_note : Note → Bool
is_ran_note (notes.Ran i list number unit cdb bytes check) = true
is_ran_note note = false

-- ---- sides of changes of other kinds
abbrev pub IsSilent : Side → Type 0
IsSilent (sides.Own note) = ⊥
IsSilent (sides.Ran place orb cdb payload outcome) = ⊥
IsSilent (sides.Unsolicited place) = ⊥
IsSilent (sides.Unsent place) = ⊥
IsSilent side = Unit {0}

abbrev pub AreSilent : List Side → Type 0
AreSilent [] = Unit {0}
AreSilent (side ∷ later) = IsSilent side × AreSilent later

abbrev pub IsNoPush : Side → Type 0
IsNoPush (sides.Unsolicited place) = ⊥
IsNoPush (sides.Unsent place) = ⊥
IsNoPush side = Unit {0}

abbrev pub NoPushes : List Side → Type 0
NoPushes [] = Unit {0}
NoPushes (side ∷ later) = IsNoPush side × NoPushes later

pub plain_none : (later : List Side) → ArePlain later → NoPushes later
plain_none [] p = tt
plain_none (sides.Unsolicited place ∷ later) p = absurd (true≢false p.0)
plain_none (sides.Unsent place ∷ later) p = absurd (true≢false p.0)
plain_none (side ∷ later) p = (tt, plain_none later p.1)

one_none : (side : Side) → IsSilent side → IsNoPush side
one_none (sides.Unsolicited place) h = absurd h
one_none (sides.Unsent place) h = absurd h
one_none side h = tt

pub silent_none : (later : List Side) → AreSilent later → NoPushes later
silent_none [] h = tt
silent_none (side ∷ later) h = (one_none side h.0, silent_none later h.1)

one_runless : (side : Side) → IsSilent side → IsRunless side
one_runless (sides.Own note) h = absurd h
one_runless (sides.Ran place orb cdb payload outcome) h = absurd h
one_runless side h = tt

pub silent_runless : (later : List Side) → AreSilent later → AreRunless later
silent_runless [] h = tt
silent_runless (side ∷ later) h = (one_runless side h.0, silent_runless later h.1)

both_silent : (a b : List Side) → AreSilent a → AreSilent b → AreSilent (a ++ b)
both_silent [] b p q = q
both_silent (side ∷ a) b p q = (p.0, both_silent a b p.1 q)

from_silent : (tells : ℕ → List Side) → ((n : ℕ) → AreSilent (tells n)) → (left n : ℕ) → AreSilent (told_from tells left n)
from_silent tells each zero n = tt
from_silent tells each (suc left) n = both_silent (tells n) (told_from tells left (n + 1)) (each n) (from_silent tells each left (n + 1))

if_silent : (b : Bool) (a : List Side) → AreSilent a → AreSilent (cond b a [])
if_silent true a h = h
if_silent false a h = tt

cut_silent : (state : AgentState) (cause : CutCause) (place : ℕ) → AreSilent (cut_in state cause place)
cut_silent states.Reset cause place = tt
cut_silent state cause place = (tt, tt)

place_silent : (place : ℕ) (cause : CutCause) (node : NodeState) → AreSilent (of_place place (cut_of cause node place))
place_silent place cause node = if_silent (nat_lt place 8) (cut_of cause node place) (cut_silent _ cause place)

unit_silent : (unit : ℕ) (login : Option Login) (a : List Side) → AreSilent a → AreSilent (of_unit unit login a)
unit_silent unit None a h = tt
unit_silent unit (Some login) a h = if_silent (login.unit == unit) a h

cuts_silent : (cause : CutCause) (node : NodeState) → AreSilent (by_place (cut_of cause node))
cuts_silent cause node = from_silent (cut_of cause node) (λ place. cut_silent _ cause place) 8 0

held_silent : (login : Option Login) → AreSilent (held_login login)
held_silent None = tt
held_silent (Some login) = if_silent (is_live login) (sides.Held login.login ∷ []) (tt, tt)

pub sight_silent : (generation : ℕ) (node : NodeState) → AreSilent (cond (nat_lt node.layer.generation generation) (reset_changes node) [])
sight_silent generation node =
    if_silent (nat_lt node.layer.generation generation) (reset_changes node)
    (both_silent (by_place (cut_of cuts.Reset node)) (by_place (held_of node)) (cuts_silent cuts.Reset node) (from_silent (held_of node) (λ n. held_silent (login_at node n)) 8 0))

pub expired_silent : (ids : List ℕ) → AreSilent (map (λ login. sides.Expired login) ids)
expired_silent [] = tt
expired_silent (id ∷ ids) = (tt, expired_silent ids)

left_silent : (replaced : Option ℕ) → AreSilent (left_for replaced)
left_silent None = tt
left_silent (Some login) = (tt, tt)

effect_silent : (effect : Effect) (subject : ℕ) (node : NodeState) → AreSilent (effect_changes effect subject node)
effect_silent effects.Nothing subject node = tt
effect_silent (effects.Entered place replaced) subject node = left_silent replaced
effect_silent (effects.Back place) subject node = (tt, tt)
effect_silent (effects.Left place) subject node = both_silent (of_place place (cut_of cuts.Logout node place)) (sides.Left subject ∷ []) (place_silent place cuts.Logout node) (tt, tt)
effect_silent (effects.Abort place orb) subject node = tt
effect_silent (effects.AbortSet place) subject node = place_silent place cuts.AbortSet node
effect_silent (effects.UnitReset unit) subject node =
    both_silent (by_place (cut_for cuts.UnitReset unit node)) (cond (nat_lt unit (length node.units)) (cleared_of unit) [])
    (from_silent (cut_for cuts.UnitReset unit node) (λ place. unit_silent unit (login_at node place) (cut_of cuts.UnitReset node place) (cut_silent _ cuts.UnitReset place)) 8 0)
    (if_silent (nat_lt unit (length node.units)) (cleared_of unit) (tt, tt))
effect_silent effects.TargetReset subject node =
    both_silent (by_place (cut_of cuts.TargetReset node)) (told_from cleared_of (length node.units) 0) (cuts_silent cuts.TargetReset node) (from_silent cleared_of (λ n. (tt, tt)) (length node.units) 0)

pub decision_silent : (decided : Option Decision) (effect : Effect) (node : NodeState) → AreSilent (decision_changes decided effect node)
decision_silent None effect node = tt
decision_silent (Some decision) effect node = effect_silent effect decision.subject node

opened_silent : (state : AgentState) (place : ℕ) (pointer : OrbPointer) → AreSilent (opened_in state place pointer)
opened_silent state place pointer = by state
  where
    at : (p : OrbPointer) → AreSilent (opened_at place p)
    at pointers.Null = tt
    at (pointers.At orb) = (tt, tt)

    by : (x : AgentState) → AreSilent (opened_in x place pointer)
    by states.Reset = at pointer
    by states.Suspended = at pointer
    by x = tt

pub request_silent : (b : Bool) (p : Packet) (node : NodeState) → AreSilent (request_changes b p node)
request_silent true p node = tt
request_silent false p node = by (demand_of (length node.rom) p)
  where
    by : (demand : Demand) → AreSilent (demand_changes demand node)
    by (demands.Agent place accesses.Reset) = cut_silent _ cuts.AgentReset place
    by (demands.Agent place (accesses.Point pointer)) = opened_silent _ place pointer
    by (demands.Agent place access) = tt
    by demand = tt

both_none : (a b : List Side) → NoPushes a → NoPushes b → NoPushes (a ++ b)
both_none [] b p q = q
both_none (side ∷ a) b p q = (p.0, both_none a b p.1 q)

pub first_none : (changes told : List Side) → AreSilent changes → AreFirst changes told → NoPushes told
first_none changes told h f = subst NoPushes (sym f.told_is) (both_none changes f.more (silent_none changes h) (plain_none f.more f.plain))

-- ---- their notes
noted_none : (side : Side) (w : WorldState) → IsOther side → IsNoPush side → of_kind is_push_note (note_of side w) ≡ []
noted_none (sides.Own note) w o n = absurd o
noted_none (sides.Unsolicited place) w o n = absurd n
noted_none (sides.Unsent place) w o n = absurd n
noted_none side w o n = refl

pub pushes_none : (weight : ℕ) (later : List Side) (w : WorldState) → AreOthers later → NoPushes later → of_kind is_push_note (notes_told weight later w) ≡ []
pushes_none weight [] w o n = refl
pushes_none weight (side ∷ later) w o n =
    let v = told_one weight side w in
    filter-append is_push_note (note_of side w) (notes_told weight later v)
    ∙ (ap (λ ns. ns ++ of_kind is_push_note (notes_told weight later v)) (noted_none side w o.0 n.0) ∙ pushes_none weight later v o.1 n.1)

noted_runless : (side : Side) (w : WorldState) → IsRunless side → of_kind is_ran_note (note_of side w) ≡ []
noted_runless (sides.Own note) w h = absurd h
noted_runless (sides.Ran place orb cdb payload outcome) w h = absurd h
noted_runless side w h = refl

pub runs_none : (weight : ℕ) (later : List Side) (w : WorldState) → AreRunless later → of_kind is_ran_note (notes_told weight later w) ≡ []
runs_none weight [] w h = refl
runs_none weight (side ∷ later) w h =
    let v = told_one weight side w in
    filter-append is_ran_note (note_of side w) (notes_told weight later v)
    ∙ (ap (λ ns. ns ++ of_kind is_ran_note (notes_told weight later v)) (noted_runless side w h.0) ∙ runs_none weight later v h.1)

-- one run, first of all
pub run_noted : (weight place orb : ℕ) (cdb payload : List ℕ) (outcome : Outcome) (more : List Side) (w : WorldState) → AreRunless more → of_kind is_ran_note (notes_told weight (sides.Ran place orb cdb payload outcome ∷ more) w) ≡ ran_note (holder w place) (ticket_at w place orb) cdb payload outcome ∷ []
run_noted weight place orb cdb payload outcome more w h =
    ap (λ ns. ran_note (holder w place) (ticket_at w place orb) cdb payload outcome ∷ ns) (runs_none weight more (told_one weight (sides.Ran place orb cdb payload outcome) w) h)

-- ---- unsolicited statuses
abbrev pub IsPush : Side → Type 0
IsPush (sides.Unsolicited place) = Unit {0}
IsPush (sides.Unsent place) = Unit {0}
IsPush side = ⊥

abbrev pub ArePushes : List Side → Type 0
ArePushes [] = Unit {0}
ArePushes (side ∷ later) = IsPush side × ArePushes later

announced_at_pushes : (unit from place : ℕ) (desk : Desk) (login : Option Login) (layer : Layer Purpose) (pending : List ℕ) (more : Layer Purpose → List ℕ → Announced) → ((l : Layer Purpose) (p : List ℕ) → ArePushes (more l p).0) → ArePushes (announced_at unit from place desk login layer pending more).0
announced_at_pushes unit from place desk None layer pending more rest = rest layer pending
announced_at_pushes unit from place desk (Some login) layer pending more rest = by (hears unit from place desk login)
  where
    asked_pushes : (a : Option Asked × Layer Purpose) → ArePushes (announced_as place login.node pending more a).0
    asked_pushes (Some asked, after) = (tt, rest after (pending ++ login.node ∷ []))
    asked_pushes (None, after) = (tt, rest after pending)

    by_pending : (b : Bool) (a : Option Asked × Layer Purpose) → ArePushes (cond b (unsent_then place (more layer pending)) (announced_as place login.node pending more a)).0
    by_pending true a = (tt, rest layer pending)
    by_pending false a = asked_pushes a

    by : (b : Bool) → ArePushes (cond b (announced_to place login layer pending more) (more layer pending)).0
    by true = by_pending (is_pending login.node pending) (asking_step layer login.node (block_write login.fifo block) purposes.Unsolicited)
    by false = rest layer pending

pub announced_pushes : (left place unit from : ℕ) (node : NodeState) (layer : Layer Purpose) (pending : List ℕ) → ArePushes (announced_from left place unit from node layer pending).0
announced_pushes zero place unit from node layer pending = tt
announced_pushes (suc left) place unit from node layer pending =
    announced_at_pushes unit from place (desk_at node place) (login_at node place) layer pending (announced_from left (place + 1) unit from node) (announced_pushes left (place + 1) unit from node)

pub if_pushes : (b : Bool) (unit from : ℕ) (node : NodeState) (layer : Layer Purpose) → ArePushes (announced_if b unit from node layer).0
if_pushes true unit from node layer = announced_pushes 8 0 unit from node layer node.pending
if_pushes false unit from node layer = tt

-- their notes, by who has the places
module _ (H : ℕ → Holder) where
  abbrev pub pushes_in : List Side → List Note
  pushes_in [] = []
  pushes_in (sides.Unsolicited place ∷ later) = notes.Unsolicited (H place).initiator ∷ pushes_in later
  pushes_in (sides.Unsent place ∷ later) = notes.Unsent (H place).initiator ∷ pushes_in later
  pushes_in (side ∷ later) = pushes_in later

push_holder : (weight place : ℕ) (w : WorldState) (p : ℕ) → (holder (told_one weight (sides.Unsolicited place) w) p ≡ holder w p) × (holder (told_one weight (sides.Unsent place) w) p ≡ holder w p)
unfolding told_one
push_holder weight place w p = (refl, refl)

pushes_noted : (H : ℕ → Holder) (weight : ℕ) (later : List Side) (w : WorldState) → ((p : ℕ) → holder w p ≡ H p) → ArePushes later → of_kind is_push_note (notes_told weight later w) ≡ pushes_in H later
pushes_noted H weight [] w same h = refl
pushes_noted H weight (sides.Unsolicited place ∷ later) w same h =
    let v = told_one weight (sides.Unsolicited place) w in
    ap (λ (x : Holder). notes.Unsolicited x.initiator ∷ of_kind is_push_note (notes_told weight later v)) (same place)
    ∙ ap (λ ns. notes.Unsolicited (H place).initiator ∷ ns) (pushes_noted H weight later v (λ p. (push_holder weight place w p).0 ∙ same p) h.1)
pushes_noted H weight (sides.Unsent place ∷ later) w same h =
    let v = told_one weight (sides.Unsent place) w in
    ap (λ (x : Holder). notes.Unsent x.initiator ∷ of_kind is_push_note (notes_told weight later v)) (same place)
    ∙ ap (λ ns. notes.Unsent (H place).initiator ∷ ns) (pushes_noted H weight later v (λ p. (push_holder weight place w p).1 ∙ same p) h.1)
pushes_noted H weight (side ∷ later) w same h = absurd h.0

-- behind what changes no places
one_still : (weight : ℕ) (side : Side) (w : WorldState) (p : ℕ) → IsQuiet side → is_change side ≡ false → holder (told_one weight side w) p ≡ holder w p
unfolding told_one
one_still weight (sides.Own note) w p q e = absurd q
one_still weight (sides.Opened place orb) w p q e = absurd (true≢false e)
one_still weight (sides.Ran place orb cdb payload outcome) w p q e = refl
one_still weight (sides.Ended place orb status) w p q e = refl
one_still weight (sides.Dead place cause) w p q e = refl
one_still weight (sides.Cut place cause) w p q e = refl
one_still weight (sides.Managed node function subject status login) w p q e = absurd q
one_still weight (sides.ManageFailed node cause) w p q e = refl
one_still weight (sides.Held login) w p q e = refl
one_still weight (sides.Expired login) w p q e = absurd q
one_still weight (sides.Back login) w p q e = refl
one_still weight (sides.Left login) w p q e = absurd q
one_still weight (sides.Cleared unit) w p q e = refl
one_still weight (sides.Unsolicited place) w p q e = refl
one_still weight (sides.Unsent place) w p q e = refl

all_still : (weight : ℕ) (before : List Side) (w : WorldState) (p : ℕ) → AreQuiet before → ArePlain before → holder (told_all weight before w) p ≡ holder w p
unfolding told_all
all_still weight [] w p q e = refl
all_still weight (side ∷ before) w p q e = all_still weight before (told_one weight side w) p q.1 e.1 ∙ one_still weight side w p q.0 e.0

notes_both : (weight : ℕ) (a b : List Side) (w : WorldState) → notes_told weight (a ++ b) w ≡ notes_told weight a w ++ notes_told weight b (told_all weight a w)
unfolding told_all
notes_both weight [] b w = refl
notes_both weight (side ∷ a) b w =
    let v = told_one weight side w in
    ap (λ ns. note_of side w ++ ns) (notes_both weight a b v) ∙ join_same (note_of side w) (notes_told weight a v) (notes_told weight b (told_all weight a v))

one_other : (side : Side) → IsQuiet side → IsOther side
one_other (sides.Own note) q = absurd q
one_other side q = tt

all_others : (later : List Side) → AreQuiet later → AreOthers later
all_others [] q = tt
all_others (side ∷ later) q = (one_other side q.0, all_others later q.1)

pub quiet_before : (a b : List Side) → AreQuiet (a ++ b) → AreQuiet a
quiet_before [] b q = tt
quiet_before (side ∷ a) b q = (q.0, quiet_before a b q.1)

pub last_noted : (H : ℕ → Holder) (weight : ℕ) (before pushes : List Side) (w : WorldState) → ((p : ℕ) → holder w p ≡ H p) → AreQuiet before → ArePlain before → ArePushes pushes → of_kind is_push_note (notes_told weight (before ++ pushes) w) ≡ pushes_in H pushes
last_noted H weight before pushes w same q e h =
    let v = told_all weight before w in
    ap (of_kind is_push_note) (notes_both weight before pushes w)
    ∙ (filter-append is_push_note (notes_told weight before w) (notes_told weight pushes v)
    ∙ (ap (λ ns. ns ++ of_kind is_push_note (notes_told weight pushes v)) (pushes_none weight before w (all_others before q) (plain_none before e))
    ∙ pushes_noted H weight pushes v (λ p. all_still weight before w p q e ∙ same p) h))
