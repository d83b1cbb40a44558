-- The cuts among the notes of a call of the target: they stand before all that changes who has a place, so each names whom had its place before the call, and the list that the place had.
use Rattle.std.proofs.Common.{◌≡◌, ◌∙◌, refl, sym, ap, subst, ℕ, zero, suc, ◌+◌, ◌==◌, nat_lt, Bool, true, false, cond, List, [], ◌∷◌, ◌++◌, length, map, Option, Some, None, Result, Ok}
use Rattle.std.proofs.lemmas.List.Elements.{filter-append}
use Rattle.async_packet.specs.Labels.{LabelParts}
use Rattle.async_packet.specs.Packet.{Packet}
use Rattle.command_agent.specs.declared.step.AgentState.{AgentState}
use Rattle.command_agent.specs.declared.step.AgentState.TheVariants as states
use Rattle.label_table.specs.Bodies.{block_write}
use Rattle.label_table.specs.History as wire
use Rattle.label_table.specs.Layer.{Layer, asking_step}
use Rattle.label_table.specs.declared.judgement.Asked.{Asked}
use Rattle.label_table.specs.declared.reply.Stale.{Stale}
use Rattle.login_table.specs.Table.{is_live}
use Rattle.login_table.specs.declared.login.Login.{Login}
use Rattle.media_bay.specs.Unsolicited.{block}
use Rattle.mgmt_agent.specs.declared.decision.Decision.{Decision}
use Rattle.mgmt_agent.specs.declared.decision.Effect.{Effect}
use Rattle.mgmt_agent.specs.declared.decision.Effect.TheVariants as effects
use Rattle.orb_layout.specs.declared.pointer.OrbPointer.{OrbPointer}
use Rattle.orb_layout.specs.declared.pointer.OrbPointer.TheVariants as pointers
use Rattle.rbc_disk.specs.Disk.{Disk}
use Rattle.sbp_bus.specs.Telling.{cut_note}
use Rattle.sbp_bus.specs.declared.places.Holder.{Holder}
use Rattle.sbp_journal.specs.Outgoings.{OutboxState, empty_outbox}
use Rattle.sbp_journal.specs.declared.cause.CutCause.{CutCause}
use Rattle.sbp_journal.specs.declared.cause.CutCause.TheVariants as cuts
use Rattle.sbp_journal.specs.declared.note.Note.{Note}
use Rattle.sbp_journal.specs.declared.side.Side.{Side}
use Rattle.sbp_journal.specs.declared.side.Side.TheVariants as sides
use Rattle.sbp_laws.specs.NoteKinds.{is_cut_note, of_kind}
use Rattle.sbp_target.specs.Histories.Sides.{Announced, AreFirst, ArePlain, agent_tells, announced_as, announced_at, announced_from, announced_if, announced_to, by_place, cleared_of, cut_for, cut_in, cut_of, decision_changes, demand_changes, effect_changes, held_login, held_of, left_for, of_place, of_unit, opened_at, opened_in, request_changes, reset_changes, told_from, unsent_then}
use Rattle.sbp_target.specs.Nodes.{NodeState, desk_at, login_at}
use Rattle.sbp_target.specs.Nodes as target
use Rattle.sbp_target.specs.Receiving.{expired}
use Rattle.sbp_target.specs.Units.{hears, is_pending}
use Rattle.sbp_target.specs.declared.desk.Desk.{Desk}
use Rattle.sbp_target.specs.declared.purpose.Purpose.{Purpose}
use Rattle.sbp_target.specs.declared.purpose.Purpose.TheVariants as purposes
use Rattle.sbp_world.specs.Hosts.Handing.{AreOthers, IsOther}
use Rattle.sbp_world.specs.Telling.{holder, told as told_one}
use Rattle.sbp_world.specs.Worlds.{WorldState}
use Rattle.target_base.specs.Addresses.{demand_of}
use Rattle.target_base.specs.declared.address.Access.TheVariants as accesses
use Rattle.target_base.specs.declared.address.Demand.{Demand}
use Rattle.target_base.specs.declared.address.Demand.TheVariants as demands
use Rattle.sbp_target.proofs.Histories.Told.{side_law}
use Rattle.turn_laws.proofs.Handed.{handed, note_of, notes_told}
use Rattle.turn_laws.proofs.KindNotes.{IsToldKind, join_same, kind_handed, none_behind}

-- ---- sides without a cut, and with cuts before all others
abbrev pub IsNoCut : Side → Type 0
IsNoCut (sides.Cut place cause) = ⊥
IsNoCut side = Unit {0}

abbrev pub NoCuts : List Side → Type 0
NoCuts [] = Unit {0}
NoCuts (side ∷ later) = IsNoCut side × NoCuts later

pub data CutsFirst : List Side → Type 0 where
  none : (later : List Side) → NoCuts later → CutsFirst later
  one : (place : ℕ) (cause : CutCause) (later : List Side) → CutsFirst later → CutsFirst (sides.Cut place cause ∷ later)

both_none : (a b : List Side) → NoCuts a → NoCuts b → NoCuts (a ++ b)
both_none [] b p q = q
both_none (side ∷ a) b p q = (p.0, both_none a b p.1 q)

plain_none : (later : List Side) → ArePlain later → NoCuts later
plain_none [] p = tt
plain_none (sides.Cut place cause ∷ later) p = absurd (let no : true ≡ false = p.0 in cc)
plain_none (side ∷ later) p = (tt, plain_none later p.1)

behind_first : (a b : List Side) → CutsFirst a → NoCuts b → CutsFirst (a ++ b)
behind_first _ b (none a p) q = none (a ++ b) (both_none a b p q)
behind_first _ b (one place cause later f) q = one place cause (later ++ b) (behind_first later b f q)

-- the cut of one place, before others
place_first : (state : AgentState) (cause : CutCause) (place : ℕ) (b : List Side) → CutsFirst b → CutsFirst (cut_in state cause place ++ b)
place_first states.Reset cause place b f = f
place_first state cause place b f = one place cause b f

if_first : (x : Bool) (a b : List Side) → CutsFirst b → CutsFirst (a ++ b) → CutsFirst (cond x a [] ++ b)
if_first true a b f g = g
if_first false a b f g = f

unit_first : (unit : ℕ) (login : Option Login) (a b : List Side) → CutsFirst b → CutsFirst (a ++ b) → CutsFirst (of_unit unit login a ++ b)
unit_first unit None a b f g = f
unit_first unit (Some login) a b f g = if_first (login.unit == unit) a b f g

from_first : (tells : ℕ → List Side) → ((p : ℕ) (b : List Side) → CutsFirst b → CutsFirst (tells p ++ b)) → (left n : ℕ) (b : List Side) → CutsFirst b → CutsFirst (told_from tells left n ++ b)
from_first tells each zero n b f = f
from_first tells each (suc left) n b f = subst CutsFirst (join_same (tells n) (told_from tells left (n + 1)) b) (each n (told_from tells left (n + 1) ++ b) (from_first tells each left (n + 1) b f))

cuts_first : (cause : CutCause) (node : NodeState) (b : List Side) → NoCuts b → CutsFirst (by_place (cut_of cause node) ++ b)
cuts_first cause node b p = from_first (cut_of cause node) (λ place c f. place_first _ cause place c f) 8 0 b (none b p)

-- ---- what calls tell
from_none : (tells : ℕ → List Side) → ((n : ℕ) → NoCuts (tells n)) → (left n : ℕ) → NoCuts (told_from tells left n)
from_none tells each zero n = tt
from_none tells each (suc left) n = both_none (tells n) (told_from tells left (n + 1)) (each n) (from_none tells each left (n + 1))

held_none : (login : Option Login) → NoCuts (held_login login)
held_none None = tt
held_none (Some login) = by (is_live login)
  where
    by : (b : Bool) → NoCuts (cond b (sides.Held login.login ∷ []) [])
    by true = (tt, tt)
    by false = tt

pub held_all_none : (node : NodeState) → NoCuts (by_place (held_of node))
held_all_none node = from_none (held_of node) (λ n. held_none (login_at node n)) 8 0

pub sight_first : (generation : ℕ) (node : NodeState) → CutsFirst (cond (nat_lt node.layer.generation generation) (reset_changes node) [])
sight_first generation node = by (nat_lt node.layer.generation generation)
  where
    by : (b : Bool) → CutsFirst (cond b (reset_changes node) [])
    by true = cuts_first cuts.Reset node (by_place (held_of node)) (held_all_none node)
    by false = none [] tt

pub expired_none : (ids : List ℕ) → NoCuts (map (λ login. sides.Expired login) ids)
expired_none [] = tt
expired_none (id ∷ ids) = (tt, expired_none ids)

alone_first : (a : List Side) → CutsFirst (a ++ []) → CutsFirst a
alone_first a f = subst CutsFirst (none_behind a) f

left_none : (replaced : Option ℕ) → NoCuts (left_for replaced)
left_none None = tt
left_none (Some login) = (tt, tt)

pub cleared_none : (b : Bool) (unit : ℕ) → NoCuts (cond b (cleared_of unit) [])
cleared_none true unit = (tt, tt)
cleared_none false unit = tt

pub cleared_all_none : (count : ℕ) → NoCuts (told_from cleared_of count 0)
cleared_all_none count = from_none cleared_of (λ n. (tt, tt)) count 0

pub effect_first : (effect : Effect) (subject : ℕ) (node : NodeState) → CutsFirst (effect_changes effect subject node)
effect_first effects.Nothing subject node = none [] tt
effect_first (effects.Entered place replaced) subject node = none (left_for replaced) (left_none replaced)
effect_first (effects.Back place) subject node = none (sides.Back subject ∷ []) (tt, tt)
effect_first (effects.Left place) subject node =
    let b = sides.Left subject ∷ [] in if_first (nat_lt place 8) (cut_of cuts.Logout node place) b (none b (tt, tt)) (place_first _ cuts.Logout place b (none b (tt, tt)))
effect_first (effects.Abort place orb) subject node = none [] tt
effect_first (effects.AbortSet place) subject node =
    alone_first (of_place place (cut_of cuts.AbortSet node place)) (if_first (nat_lt place 8) (cut_of cuts.AbortSet node place) [] (none [] tt) (place_first _ cuts.AbortSet place [] (none [] tt)))
effect_first (effects.UnitReset unit) subject node =
    let b = cond (nat_lt unit (length node.units)) (cleared_of unit) [] in
    from_first (cut_for cuts.UnitReset unit node) (λ place c f. unit_first unit (login_at node place) (cut_of cuts.UnitReset node place) c f (place_first _ cuts.UnitReset place c f)) 8 0 b (none b (cleared_none (nat_lt unit (length node.units)) unit))
effect_first effects.TargetReset subject node =
    cuts_first cuts.TargetReset node (told_from cleared_of (length node.units) 0) (cleared_all_none (length node.units))

pub decision_first : (decided : Option Decision) (effect : Effect) (node : NodeState) → CutsFirst (decision_changes decided effect node)
decision_first None effect node = none [] tt
decision_first (Some decision) effect node = effect_first effect decision.subject node

pub opened_none : (state : AgentState) (place : ℕ) (pointer : OrbPointer) → NoCuts (opened_in state place pointer)
opened_none state place pointer = by state
  where
    at : (p : OrbPointer) → NoCuts (opened_at place p)
    at pointers.Null = tt
    at (pointers.At orb) = (tt, tt)

    by : (x : AgentState) → NoCuts (opened_in x place pointer)
    by states.Reset = at pointer
    by states.Suspended = at pointer
    by x = tt

demand_first : (demand : Demand) (node : NodeState) → CutsFirst (demand_changes demand node)
demand_first (demands.Agent place accesses.Reset) node = alone_first (cut_of cuts.AgentReset node place) (place_first _ cuts.AgentReset place [] (none [] tt))
demand_first (demands.Agent place (accesses.Point pointer)) node = none _ (opened_none _ place pointer)
demand_first (demands.Agent place access) node = none [] tt
demand_first demand node = none [] tt

pub request_first : (b : Bool) (p : Packet) (node : NodeState) → CutsFirst (request_changes b p node)
request_first true p node = none [] tt
request_first false p node = demand_first (demand_of (length node.rom) p) node

pub changes_first : (changes later : List Side) → AreFirst changes later → CutsFirst changes → CutsFirst later
changes_first changes later f c = subst CutsFirst (sym f.told_is) (behind_first changes f.more c (plain_none f.more f.plain))

-- an announced disc
announced_at_none : (unit from place : ℕ) (desk : Desk) (login : Option Login) (layer : Layer Purpose) (pending : List ℕ) (more : Layer Purpose → List ℕ → Announced) → ((l : Layer Purpose) (p : List ℕ) → NoCuts (more l p).0) → NoCuts (announced_at unit from place desk login layer pending more).0
announced_at_none unit from place desk None layer pending more rest = rest layer pending
announced_at_none unit from place desk (Some login) layer pending more rest = by (hears unit from place desk login)
  where
    asked_none : (a : Option Asked × Layer Purpose) → NoCuts (announced_as place login.node pending more a).0
    asked_none (Some asked, after) = (tt, rest after (pending ++ login.node ∷ []))
    asked_none (None, after) = (tt, rest after pending)

    by_pending : (b : Bool) (a : Option Asked × Layer Purpose) → NoCuts (cond b (unsent_then place (more layer pending)) (announced_as place login.node pending more a)).0
    by_pending true a = (tt, rest layer pending)
    by_pending false a = asked_none a

    by : (b : Bool) → NoCuts (cond b (announced_to place login layer pending more) (more layer pending)).0
    by true = by_pending (is_pending login.node pending) (asking_step layer login.node (block_write login.fifo block) purposes.Unsolicited)
    by false = rest layer pending

announced_none : (left place unit from : ℕ) (node : NodeState) (layer : Layer Purpose) (pending : List ℕ) → NoCuts (announced_from left place unit from node layer pending).0
announced_none zero place unit from node layer pending = tt
announced_none (suc left) place unit from node layer pending =
    announced_at_none unit from place (desk_at node place) (login_at node place) layer pending (announced_from left (place + 1) unit from node) (announced_none left (place + 1) unit from node)

announced_if_none : (b : Bool) (unit from : ℕ) (node : NodeState) (layer : Layer Purpose) → NoCuts (announced_if b unit from node layer).0
announced_if_none false unit from node layer = tt
announced_if_none true unit from node layer = announced_none 8 0 unit from node layer node.pending

pub agent_none : (login : Option Login) (place : ℕ) (node : NodeState) (first : List (wire.Call Purpose)) (disks left : List Disk) (outbox : OutboxState) → agent_tells login place node first disks left outbox → NoCuts outbox.sides
agent_none None place node first disks left outbox tells = subst NoCuts (sym tells) tt
agent_none (Some login) place node first disks left outbox tells =
    let f = tells.told in subst NoCuts (sym f.told_is) (both_none f.before _ (plain_none f.before f.plain) (announced_if_none _ login.unit place node _))

pub lapse_none : (peer : ℕ) (label : LabelParts) (node : NodeState) (done : Unit {0}) (t : target.Scene) → expired peer label (target.scene node empty_outbox) ≡ (Ok done, t) → NoCuts t.outbox.sides
lapse_none peer label node done t e =
    subst (λ (x : Result (Unit {0}) Stale × target.Scene). NoCuts x.1.outbox.sides) e (plain_none (expired peer label (target.scene node empty_outbox)).1.outbox.sides (side_law.expiries peer label node))

-- ---- the cuts, by who had the places
module _ (H : ℕ → Holder) where
  abbrev pub cut_side : Side → List Note
  cut_side (sides.Cut place cause) = cut_note (H place) cause ∷ []
  cut_side side = []

  abbrev pub cuts_in : List Side → List Note
  cuts_in [] = []
  cuts_in (side ∷ later) = cut_side side ++ cuts_in later

  pub no_cuts_in : (later : List Side) → NoCuts later → cuts_in later ≡ []
  no_cuts_in [] n = refl
  no_cuts_in (sides.Cut place cause ∷ later) n = absurd n.0
  no_cuts_in (side ∷ later) n = no_cuts_in later n.1

  pub cuts_both : (a b : List Side) → cuts_in (a ++ b) ≡ cuts_in a ++ cuts_in b
  cuts_both [] b = refl
  cuts_both (side ∷ a) b = ap (λ ns. cut_side side ++ ns) (cuts_both a b) ∙ join_same (cut_side side) (cuts_in a) (cuts_in b)

  pub cuts_before : (a b : List Side) → NoCuts b → cuts_in (a ++ b) ≡ cuts_in a
  cuts_before a b n = cuts_both a b ∙ (ap (λ ns. cuts_in a ++ ns) (no_cuts_in b n) ∙ none_behind (cuts_in a))

  pub cuts_of_changes : (changes later : List Side) → AreFirst changes later → cuts_in later ≡ cuts_in changes
  cuts_of_changes changes later f = ap cuts_in f.told_is ∙ cuts_before changes f.more (plain_none f.more f.plain)

-- ---- among the notes
one_none : (side : Side) (w : WorldState) → IsOther side → IsNoCut side → of_kind is_cut_note (note_of side w) ≡ []
one_none (sides.Own note) w o n = absurd o
one_none (sides.Cut place cause) w o n = absurd n
one_none side w o n = refl

none_noted : (weight : ℕ) (later : List Side) (w : WorldState) → AreOthers later → NoCuts later → of_kind is_cut_note (notes_told weight later w) ≡ []
none_noted weight [] w o n = refl
none_noted weight (side ∷ later) w o n =
    let v = told_one weight side w in
    filter-append is_cut_note (note_of side w) (notes_told weight later v)
    ∙ (ap (λ ns. ns ++ of_kind is_cut_note (notes_told weight later v)) (one_none side w o.0 n.0) ∙ none_noted weight later v o.1 n.1)

cut_holder : (weight place : ℕ) (cause : CutCause) (w : WorldState) (p : ℕ) → holder (told_one weight (sides.Cut place cause) w) p ≡ holder w p
unfolding told_one
cut_holder weight place cause w p = refl

cuts_noted : (H : ℕ → Holder) (weight : ℕ) (later : List Side) (w : WorldState) → ((p : ℕ) → holder w p ≡ H p) → AreOthers later → CutsFirst later → of_kind is_cut_note (notes_told weight later w) ≡ cuts_in H later
cuts_noted H weight _ w same o (none later n) = none_noted weight later w o n ∙ sym (no_cuts_in H later n)
cuts_noted H weight _ w same o (one place cause later f) =
    let v = told_one weight (sides.Cut place cause) w in
    ap (λ (h : Holder). cut_note h cause ∷ of_kind is_cut_note (notes_told weight later v)) (same place)
    ∙ ap (λ ns. cut_note (H place) cause ∷ ns) (cuts_noted H weight later v (λ p. cut_holder weight place cause w p ∙ same p) o.1 f)

pub is_told : IsToldKind is_cut_note
is_told = record { no_packet = λ serial generation from to bytes. refl }

pub target_cuts : (H : ℕ → Holder) (outbox : OutboxState) (w : WorldState) → ((p : ℕ) → holder w p ≡ H p) → AreOthers outbox.sides → CutsFirst outbox.sides → of_kind is_cut_note (handed 0 0 outbox w) ≡ cuts_in H outbox.sides
target_cuts H outbox w same o f = kind_handed is_cut_note is_told 0 0 outbox w ∙ cuts_noted H 0 outbox.sides w same o f
