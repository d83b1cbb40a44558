-- The notes of a kind of which each stands for one side that the target tells by itself, among those of a call, by what `SideLaw` says of each call: they are those of its changes, and cuts,
-- opened lists and announced discs have none of them.
use Rattle.std.proofs.Common.{[], ◌==◌, Bool, List, None, Ok, Option, Result, Some, ap, cond, false, length, nat_lt, refl, subst, suc, true, zero, ℕ, ◌++◌, ◌+◌, ◌∙◌, ◌∷◌, ◌≡◌}
use Rattle.std.proofs.lemmas.List.Elements.{filter-append}
use Rattle.async_packet.specs.Labels.{LabelParts}
use Rattle.async_packet.specs.Packet.{Packet}
use Rattle.command_agent.specs.declared.step.AgentState.{AgentState}
use Rattle.label_table.specs.Bodies.{block_write}
use Rattle.label_table.specs.Layer.{Layer, asking_step}
use Rattle.label_table.specs.declared.judgement.Asked.{Asked}
use Rattle.label_table.specs.declared.reply.Stale.{Stale}
use Rattle.login_table.specs.declared.login.Login.{Login}
use Rattle.media_bay.specs.Unsolicited.{block}
use Rattle.orb_layout.specs.declared.pointer.OrbPointer.{OrbPointer}
use Rattle.rbc_disk.specs.Disk.{Disk}
use Rattle.sbp_journal.specs.Outgoings.{OutboxState, empty_outbox}
use Rattle.sbp_journal.specs.declared.cause.CutCause.{CutCause}
use Rattle.sbp_journal.specs.declared.note.Note.{Note}
use Rattle.sbp_journal.specs.declared.side.Side.{Side}
use Rattle.sbp_laws.specs.NoteKinds.{of_kind}
use Rattle.sbp_target.specs.Histories.Sides.{Announced, AreFirst, AreLast, ArePlain, agent_tells, announced_as, announced_at, announced_from, announced_if, announced_to, by_place, cut_for, cut_in, cut_of, demand_changes, is_change, of_place, of_unit, opened_at, opened_in, request_changes, told_from, unsent_then}
use Rattle.sbp_target.specs.Nodes.{NodeState, desk_at, login_at}
use Rattle.sbp_target.specs.Receiving.{expired}
use Rattle.sbp_target.specs.Units.{hears, is_pending}
use Rattle.sbp_target.specs.declared.desk.Desk.{Desk}
use Rattle.sbp_target.specs.declared.purpose.Purpose.{Purpose}
use Rattle.sbp_world.specs.Hosts.Handing.{AreOthers, IsOther}
use Rattle.sbp_world.specs.Telling.{told as told_one}
use Rattle.sbp_world.specs.Worlds.{WorldState}
use Rattle.target_base.specs.Addresses.{demand_of}
use Rattle.target_base.specs.declared.address.Demand.{Demand}
use Rattle.sbp_target.proofs.Histories.Told.{side_law}
use Rattle.sbp_world.proofs.Formed.{AreOwn, IsNoRun}
use Rattle.turn_laws.proofs.Handed.{handed, note_of, notes_told}
use Rattle.turn_laws.proofs.KindNotes.{IsToldKind, join_same, kind_handed, none_behind, own_handed}
use Rattle.command_agent.specs.declared.step.AgentState.TheVariants as states
use Rattle.orb_layout.specs.declared.pointer.OrbPointer.TheVariants as pointers
use Rattle.sbp_journal.specs.declared.cause.CutCause.TheVariants as cuts
use Rattle.sbp_journal.specs.declared.note.Note.TheVariants as notes
use Rattle.sbp_journal.specs.declared.side.Side.TheVariants as sides
use Rattle.sbp_target.specs.declared.purpose.Purpose.TheVariants as purposes
use Rattle.label_table.specs.History as wire
use Rattle.target_base.specs.declared.address.Access.TheVariants as accesses
use Rattle.target_base.specs.declared.address.Demand.TheVariants as demands
use Rattle.sbp_target.specs.Nodes as target

-- A kind of notes, and what of it a side of the target has: nothing but what some changes have, none a cut, an opened list or an announced disc; and no packet and no initiator's note is of the kind.
pub record IsKept (kind : Note → Bool) (kept : Side → List Note) : Type 0 where
  pub no_packet : (serial generation from to : ℕ) (bytes : List ℕ) → kind (notes.Sent serial generation from to bytes) ≡ false
  pub no_own : (note : Note) → IsNoRun note → kind note ≡ false
  pub noted : (side : Side) (w : WorldState) → IsOther side → of_kind kind (note_of side w) ≡ kept side
  pub plain : (side : Side) → is_change side ≡ false → kept side ≡ []
  pub no_cut : (place : ℕ) (cause : CutCause) → kept (sides.Cut place cause) ≡ []
  pub no_opened : (place orb : ℕ) → kept (sides.Opened place orb) ≡ []
  pub no_disc : (place : ℕ) → (kept (sides.Unsolicited place) ≡ []) × (kept (sides.Unsent place) ≡ [])

module _ (kind : Note → Bool) (kept : Side → List Note) (k : IsKept kind kept) where
  abbrev pub kept_in : List Side → List Note
  kept_in [] = []
  kept_in (side ∷ later) = kept side ++ kept_in later

  -- ---- among the notes
  is_told : IsToldKind kind
  is_told = record { no_packet = k.no_packet }

  all_noted : (weight : ℕ) (later : List Side) (w : WorldState) → AreOthers later → of_kind kind (notes_told weight later w) ≡ kept_in later
  all_noted weight [] w o = refl
  all_noted weight (side ∷ later) w o =
      let v = told_one weight side w in
      filter-append kind (note_of side w) (notes_told weight later v)
      ∙ ap (λ ns. ns ++ of_kind kind (notes_told weight later v)) (k.noted side w o.0)
      ∙ ap (λ ns. kept side ++ ns) (all_noted weight later v o.1)

  pub target_keeps : (outbox : OutboxState) (w : WorldState) → AreOthers outbox.sides → of_kind kind (handed 0 0 outbox w) ≡ kept_in outbox.sides
  target_keeps outbox w o = kind_handed kind is_told 0 0 outbox w ∙ all_noted 0 outbox.sides w o

  pub own_keeps : (node weight : ℕ) (outbox : OutboxState) (w : WorldState) → AreOwn outbox.sides → of_kind kind (handed node weight outbox w) ≡ []
  own_keeps node weight outbox w o = own_handed kind is_told k.no_own node weight outbox w o

  -- ---- among the sides of a call
  pub both : (a b : List Side) → kept_in (a ++ b) ≡ kept_in a ++ kept_in b
  both [] b = refl
  both (side ∷ a) b = ap (λ ns. kept side ++ ns) (both a b) ∙ join_same (kept side) (kept_in a) (kept_in b)

  pub one_side : (side : Side) → kept_in (side ∷ []) ≡ kept side
  one_side side = none_behind (kept side)

  one_none : (side : Side) → kept side ≡ [] → kept_in (side ∷ []) ≡ []
  one_none side e = one_side side ∙ e

  pub first_none : (a b : List Side) → kept_in a ≡ [] → kept_in (a ++ b) ≡ kept_in b
  first_none a b e = both a b ∙ ap (λ ns. ns ++ kept_in b) e

  pub plain_sides : (later : List Side) → ArePlain later → kept_in later ≡ []
  plain_sides [] p = refl
  plain_sides (side ∷ later) p = ap (λ ns. ns ++ kept_in later) (k.plain side p.0) ∙ plain_sides later p.1

  pub first_sides : (changes later : List Side) → AreFirst changes later → kept_in later ≡ kept_in changes
  first_sides changes later f =
      ap kept_in f.told_is ∙ both changes f.more ∙ ap (λ ns. kept_in changes ++ ns) (plain_sides f.more f.plain) ∙ none_behind (kept_in changes)

  last_sides : (changes later : List Side) → AreLast changes later → kept_in later ≡ kept_in changes
  last_sides changes later f = ap kept_in f.told_is ∙ first_none f.before changes (plain_sides f.before f.plain)

  pub none_from : (tells : ℕ → List Side) → ((n : ℕ) → kept_in (tells n) ≡ []) → (left n : ℕ) → kept_in (told_from tells left n) ≡ []
  none_from tells none zero n = refl
  none_from tells none (suc left) n = first_none (tells n) (told_from tells left (n + 1)) (none n) ∙ none_from tells none left (n + 1)

  cut_none : (state : AgentState) (cause : CutCause) (place : ℕ) → kept_in (cut_in state cause place) ≡ []
  cut_none states.Reset cause place = refl
  cut_none state cause place = one_none (sides.Cut place cause) (k.no_cut place cause)

  pub place_none : (place : ℕ) (cause : CutCause) (node : NodeState) → kept_in (of_place place (cut_of cause node place)) ≡ []
  place_none place cause node = by (nat_lt place 8)
    where
      by : (b : Bool) → kept_in (cond b (cut_of cause node place) []) ≡ []
      by true = cut_none _ cause place
      by false = refl

  unit_none : (cause : CutCause) (unit : ℕ) (node : NodeState) (place : ℕ) → kept_in (cut_for cause unit node place) ≡ []
  unit_none cause unit node place = by (login_at node place)
    where
      by_test : (b : Bool) → kept_in (cond b (cut_of cause node place) []) ≡ []
      by_test true = cut_none _ cause place
      by_test false = refl

      by : (login : Option Login) → kept_in (of_unit unit login (cut_of cause node place)) ≡ []
      by None = refl
      by (Some login) = by_test (login.unit == unit)

  -- all agents, and those of a unit
  pub cuts_none : (cause : CutCause) (node : NodeState) → kept_in (by_place (cut_of cause node)) ≡ []
  cuts_none cause node = none_from (cut_of cause node) (λ place. cut_none _ cause place) 8 0

  pub unit_cuts_none : (cause : CutCause) (unit : ℕ) (node : NodeState) → kept_in (by_place (cut_for cause unit node)) ≡ []
  unit_cuts_none cause unit node = none_from (cut_for cause unit node) (unit_none cause unit node) 8 0

  -- a request
  opened_none : (state : AgentState) (place : ℕ) (pointer : OrbPointer) → kept_in (opened_in state place pointer) ≡ []
  opened_none state place pointer = by state
    where
      at : (pointer : OrbPointer) → kept_in (opened_at place pointer) ≡ []
      at pointers.Null = refl
      at (pointers.At orb) = one_none (sides.Opened place _) (k.no_opened place _)

      by : (state : AgentState) → kept_in (opened_in state place pointer) ≡ []
      by states.Reset = at pointer
      by states.Suspended = at pointer
      by state = refl

  pub request_none : (b : Bool) (p : Packet) (node : NodeState) → kept_in (request_changes b p node) ≡ []
  request_none true p node = refl
  request_none false p node = by (demand_of (length node.rom) p)
    where
      by : (demand : Demand) → kept_in (demand_changes demand node) ≡ []
      by (demands.Agent place accesses.Reset) = cut_none _ cuts.AgentReset place
      by (demands.Agent place (accesses.Point pointer)) = opened_none _ place pointer
      by (demands.Agent place access) = refl
      by demand = refl

  -- an announced disc
  announced_at_none : (unit from place : ℕ) (desk : Desk) (login : Option Login) (layer : Layer Purpose) (pending : List ℕ) (more : Layer Purpose → List ℕ → Announced) → ((l : Layer Purpose) (p : List ℕ) → kept_in (more l p).0 ≡ []) → kept_in (announced_at unit from place desk login layer pending more).0 ≡ []
  announced_at_none unit from place desk None layer pending more none = none layer pending
  announced_at_none unit from place desk (Some login) layer pending more none = by (hears unit from place desk login)
    where
      asked_none : (a : Option Asked × Layer Purpose) → kept_in (announced_as place login.node pending more a).0 ≡ []
      asked_none (Some asked, after) = ap (λ ns. ns ++ kept_in (more after (pending ++ login.node ∷ [])).0) (k.no_disc place).0 ∙ none after (pending ++ login.node ∷ [])
      asked_none (None, after) = ap (λ ns. ns ++ kept_in (more after pending).0) (k.no_disc place).1 ∙ none after pending

      by_pending : (b : Bool) (a : Option Asked × Layer Purpose) → kept_in (cond b (unsent_then place (more layer pending)) (announced_as place login.node pending more a)).0 ≡ []
      by_pending true a = ap (λ ns. ns ++ kept_in (more layer pending).0) (k.no_disc place).1 ∙ none layer pending
      by_pending false a = asked_none a

      by : (b : Bool) → kept_in (cond b (announced_to place login layer pending more) (more layer pending)).0 ≡ []
      by true = by_pending (is_pending login.node pending) (asking_step layer login.node (block_write login.fifo block) purposes.Unsolicited)
      by false = none layer pending

  announced_none : (left place unit from : ℕ) (node : NodeState) (layer : Layer Purpose) (pending : List ℕ) → kept_in (announced_from left place unit from node layer pending).0 ≡ []
  announced_none zero place unit from node layer pending = refl
  announced_none (suc left) place unit from node layer pending =
      announced_at_none unit from place (desk_at node place) (login_at node place) layer pending (announced_from left (place + 1) unit from node) (announced_none left (place + 1) unit from node)

  announced_if_none : (b : Bool) (unit from : ℕ) (node : NodeState) (layer : Layer Purpose) → kept_in (announced_if b unit from node layer).0 ≡ []
  announced_if_none false unit from node layer = refl
  announced_if_none true unit from node layer = announced_none 8 0 unit from node layer node.pending

  pub agent_none : (login : Option Login) (place : ℕ) (node : NodeState) (first : List (wire.Call Purpose)) (disks left : List Disk) (outbox : OutboxState) → agent_tells login place node first disks left outbox → kept_in outbox.sides ≡ []
  agent_none None place node first disks left outbox tells = ap kept_in tells
  agent_none (Some login) place node first disks left outbox tells = last_sides _ outbox.sides tells.told ∙ announced_if_none _ login.unit place node _

  -- a time-out
  pub lapse_none : (peer : ℕ) (label : LabelParts) (node : NodeState) (done : Unit {0}) (t : target.Scene) → expired peer label (target.scene node empty_outbox) ≡ (Ok done, t) → kept_in t.outbox.sides ≡ []
  lapse_none peer label node done t e =
      subst (λ (x : Result (Unit {0}) Stale × target.Scene). kept_in x.1.outbox.sides ≡ []) e (plain_sides (expired peer label (target.scene node empty_outbox)).1.outbox.sides (side_law.expiries peer label node))
