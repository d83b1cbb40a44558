-- At a place of a run, what the reads of a ROM of an initiator are tied by behind each of its own calls.
use Rattle.std.proofs.Common.{arith, ◌≡◌, ◌∙◌, refl, sym, ap, subst, ℕ, suc, ◌+◌, ◌^◌, ◌<◌, nat_lt, Bool, true, false, List, [], ◌∷◌, ◌++◌, map, length, Option, Some, None}
use Rattle.std.proofs.Math.ListN.{length-set}
use Rattle.async_packet.specs.Labels.{LabelParts}
use Rattle.bus_transactions.specs.Fitting.{IsLayer}
use Rattle.bus_transactions.specs.Wire.{Node}
use Rattle.packet_store.specs.Stored.{Stored}
use Rattle.rbc_disk.specs.Disk.{Disk}
use Rattle.sbp_bus.specs.Generations.{id_of, node_of, topology_at}
use Rattle.sbp_bus.specs.declared.generations.Topology.{Topology}
use Rattle.sbp_initiator.specs.Acting.{act_step, demand_of, ring_demand}
use Rattle.sbp_initiator.specs.States.{is_unwritten}
use Rattle.sbp_initiator.specs.Effects.{Turn}
use Rattle.sbp_initiator.specs.Refusals as refusals
use Rattle.sbp_initiator.specs.Histories.Begins.{IsFree}
use Rattle.sbp_initiator.specs.Initiators.{new_state}
use Rattle.sbp_initiator.specs.Receiving.{expire_step, receive_step}
use Rattle.sbp_initiator.specs.Seeing.{see_step}
use Rattle.sbp_initiator.specs.declared.purpose.Demand.{Demand}
use Rattle.sbp_initiator.specs.declared.purpose.Purpose.TheVariants as purposes
use Rattle.sbp_initiator.specs.declared.purpose.Running.{Running}
use Rattle.sbp_initiator.specs.declared.state.InitiatorState.{InitiatorState}
use Rattle.sbp_journal.specs.Outgoings.{empty_outbox}
use Rattle.sbp_journal.specs.Run.{Moment, said}
use Rattle.sbp_journal.specs.Wire.{Terms, noted, terms}
use Rattle.sbp_journal.specs.declared.event.Action.{Action}
use Rattle.sbp_journal.specs.declared.event.Action.TheVariants as actions
use Rattle.sbp_journal.specs.declared.event.Event.{Event}
use Rattle.sbp_journal.specs.declared.event.Event.TheVariants as events
use Rattle.sbp_journal.specs.declared.note.Note.{Note}
use Rattle.sbp_journal.specs.declared.note.Note.TheVariants as notes
use Rattle.sbp_journal.specs.declared.operation.Operation.{Operation}
use Rattle.sbp_journal.specs.declared.operation.Operation.TheVariants as operations
use Rattle.sbp_journal.specs.declared.side.Side.{Side}
use Rattle.sbp_journal.specs.declared.side.Side.TheVariants as sides
use Rattle.sbp_laws.specs.Hosts.{Underway, host_at, operation_of}
use Rattle.sbp_laws.specs.Turns.{event_of}
use Rattle.sbp_world.specs.Handing.{handed_out}
use Rattle.sbp_world.specs.Nodes.{told_seen, with_seen}
use Rattle.sbp_world.specs.Telling.{told, told_all}
use Rattle.sbp_world.specs.Worlds.{Scene, WorldState, initiator_at, with_initiator}
use Rattle.sbp_world.proofs.Agents.Management.Still.{hist}
use Rattle.sbp_world.proofs.Common.{none_is, untrue}
use Rattle.sbp_world.proofs.Formed.{AreOwn, IsNoRun}
use Rattle.sbp_world.proofs.Hosts.Aimed.{IsAimed}
use Rattle.sbp_world.proofs.Hosts.Carried.{fresh, own_request}
use Rattle.sbp_world.proofs.Hosts.Carries.{IsNoAct}
use Rattle.sbp_world.proofs.Hosts.Outboxes.{line_stays}
use Rattle.sbp_world.proofs.Hosts.Hosting.{state_here}
use Rattle.sbp_world.proofs.Hosts.Knows.{may_see, target_there}
use Rattle.sbp_world.proofs.Hosts.Requested.{AreRequests, act_sends, all_told_bus}
use Rattle.sbp_world.proofs.Lists.ManageActs.{same_operation}
use Rattle.sbp_world.proofs.Pointers.Asks.{act_allowed}
use Rattle.sbp_world.proofs.Pointers.WaitActs.{none_seen, see_old}
use Rattle.sbp_world.proofs.Wire.Holding.{target_small}
use Rattle.sbp_world.proofs.Wire.Nodes.{handed_alike}
use Rattle.turn_laws.proofs.AnswerNotes.{SameBus}
use Rattle.turn_laws.proofs.Calls.{IsCalling, calls_nodes}
use Rattle.turn_laws.proofs.Handed.{handed, notes_told, onto}
use Rattle.turn_laws.proofs.Places.{HasPairs, Place}
use Rattle.turn_laws.proofs.RomCalls.{ActRom, After, act_after, act_other, act_quiet, late_call, other_act, rom_act, seen_rom}
use Rattle.turn_laws.proofs.RomEnds.{is_plain}
use Rattle.turn_laws.proofs.RomLabels.{CallRom, heard_call}
use Rattle.turn_laws.proofs.RomTerms.{Keeps, keeps_note}
use Rattle.sbp_world.proofs.Lists.ManageSees.{none_later}
use Rattle.sbp_world.specs.Hosts.Core.{Core, operation_by, work_in, work_of}
use Rattle.turn_laws.proofs.RomTies.{IsFirst, RomOf, act_ties, first_keeps, own_ties, rom_keeps, rom_ties}

-- ---- what an initiator tells leaves which packets were injected
note_injected : (note : Note) (t : Terms) → IsNoRun note → (noted note t).injected ≡ t.injected
note_injected (notes.Append i list orb cdb buffer) t n = refl
note_injected (notes.Low i list orb) t n = refl
note_injected (notes.Linked i list orb) t n = refl
note_injected (notes.Rung i list orb) t n = refl
note_injected (notes.Dummied i list orb) t n = refl
note_injected (notes.Taken i k number status answer) t n = refl
note_injected (notes.Drop i list) t n = refl
note_injected (notes.Op i operation word) t n = refl
note_injected (notes.Stuck i) t n = refl
note_injected (notes.Told i) t n = refl
note_injected _ t n = absurd n

pub told_injected : (weight : ℕ) (later : List Side) (old : List Note) (v : WorldState) (past : List Moment) → AreOwn later → (terms (map said (onto (notes_told weight later v) old) ++ past)).injected ≡ (terms (map said old ++ past)).injected
told_injected weight [] old v past h = refl
told_injected weight (sides.Own note ∷ later) old v past h =
    told_injected weight later (note ∷ old) (told weight (sides.Own note) v) past h.1 ∙ note_injected note (terms (map said old ++ past)) h.0.1
told_injected weight (side ∷ later) old v past h = absurd h.0

-- ---- a line that calls nodes is no action
pub call_acts_not : (i : ℕ) (event : Event) → calls_nodes event ≡ true → IsNoAct i (Some event)
call_acts_not i (events.Act j action) e = untrue e
call_acts_not i event e = tt

-- ---- an action other than `rom` reads none, and begins no such operation
abbrev pub is_rom_action : Action → Bool
is_rom_action actions.Rom = true
is_rom_action action = false

abbrev asks_else : Option Demand → Bool
asks_else None = true
asks_else (Some demand) = is_plain demand.purpose

abbrev begins_else : Option Operation → Bool
begins_else (Some operations.Rom) = false
begins_else operation = true

ring_else : (s : InitiatorState) → asks_else (Some (ring_demand s)) ≡ true
ring_else s = by (is_unwritten s.marks.pointing) refl
  where
    by : (b : Bool) → is_unwritten s.marks.pointing ≡ b → asks_else (Some (ring_demand s)) ≡ true
    by true e = rw e refl
    by false e = rw e refl

demand_else : (action : Action) (s : InitiatorState) → is_rom_action action ≡ false → asks_else (demand_of action s) ≡ true
demand_else actions.Rom s e = untrue (sym e)
demand_else (actions.Append cmd) s e = ring_else s
demand_else actions.Ring s e = ring_else s
demand_else action s e = refl

operation_else : (action : Action) → is_rom_action action ≡ false → begins_else (refusals.operation_of action) ≡ true
operation_else actions.Rom e = untrue (sym e)
operation_else action e = refl

pub action_is : (action : Action) → is_rom_action action ≡ true → action ≡ actions.Rom
action_is actions.Rom e = refl
action_is action e = untrue e

-- the terms have no operation where the machine has none
no_work : (u : Option Underway) → work_of u ≡ work_in None → IsFirst u
no_work None w = tt
no_work (Some u) w = absurd (let no : Some u.operation ≡ None = ap operation_by w in cc)

-- ---- at a place
-- the generation that the bus has for an initiator is its own
place_generation : (units ready : ℕ) (start : List Disk) (past : List Moment) (s : Scene) → Place units ready start past s → (i : ℕ) → i < length s.world.initiators → (topology_at s.world.generations (suc i)).generation ≡ (initiator_at s.world i).layer.generation
place_generation units ready start past s here i inside =
    let stands = here.holds.sound.stands in
    sym (stands.is.sights (suc i) (omega (arith, inside))) ∙ ap (λ (l : Node). l.generation) (stands.is.layers_are (suc i) (omega (arith, inside)))

module _ (units ready : ℕ) (start : List Disk) (past : List Moment) (s : Scene) (here : Place units ready start past s) (i : ℕ) (inside : i < length s.world.initiators) (h : RomOf (hist past s.world) i (initiator_at s.world i)) where
  abbrev ms : List Moment
  ms = hist past s.world

  abbrev old : InitiatorState
  old = initiator_at s.world i

  pairs : HasPairs ms i old
  pairs = here.reads i inside

  aimed : IsAimed pairs.ready i old
  aimed = pairs.paired.guarded.aimed

  valid : IsLayer old.layer
  valid = (here.holds.sound.nodes.own.holds i inside).layer

  small : old.target < 2 ^ 16
  small = target_small s.world.generations.seen i old.target (here.holds.sound.nodes.own.holds i inside).fits.target_known

  -- its calls
  pub heard_roms : (generation : ℕ) (bytes : List ℕ) → CallRom old (receive_step generation bytes empty_outbox old).1
  heard_roms generation bytes = heard_call pairs.ready i old aimed.own.called aimed.aims valid small h.one generation bytes

  pub late_roms : (label : LabelParts) → CallRom old (expire_step label empty_outbox old).1
  late_roms label = late_call pairs.ready i old aimed.own.called aimed.aims valid small h.one label

  -- ---- an action that is done
  module _ (action : Action) (t : Turn) (turn_is : act_step action empty_outbox old ≡ (None, t)) where
    done_is : (act_step action empty_outbox old).0 ≡ None
    done_is = ap (λ (x : Option ℕ × Turn). x.0) turn_is

    its_turn : (act_step action empty_outbox old).1 ≡ t
    its_turn = ap (λ (x : Option ℕ × Turn). x.1) turn_is

    sends : AreRequests old.target (act_step action empty_outbox old).1.0.packets
    sends = act_sends action old (λ d e. own_request s.world i inside here.short here.holds.sound action d e)

    plain : is_rom_action action ≡ false → (d : Demand) (a : ℕ) → demand_of action old ≡ Some d → d.purpose ≡ purposes.Rom a → ⊥
    plain other d a f g = untrue (sym (ap is_plain g) ∙ sym (ap asks_else f) ∙ demand_else action old other)

    apart : is_rom_action action ≡ false → (operation : Operation) → refusals.operation_of action ≡ Some operation → operation ≡ operations.Rom → ⊥
    apart other operation f g = untrue (sym (ap (λ o. begins_else (Some o)) g) ∙ sym (ap begins_else f) ∙ operation_else action other)

    other_call : is_rom_action action ≡ false → ActRom old t
    other_call e = subst (ActRom old) its_turn (other_act pairs.ready i old aimed.own.called aimed.aims valid small h.one action (plain e) (apart e) done_is sends)

    act_after_of : is_rom_action action ≡ false → (r : Running) → t.1.operation ≡ Some r → After action old r
    act_after_of e r f = act_after pairs.ready i old aimed.own.called aimed.aims valid small h.one action (plain e) (apart e) done_is r (ap (λ (x : Turn). x.1.operation) its_turn ∙ f)

    -- a ROM that is under way behind another one was so before
    pub act_was : is_rom_action action ≡ false → (r : Running) → t.1.operation ≡ Some r → r.operation ≡ operations.Rom → old.operation ≡ Some r
    act_was e r f g = by (other_call e)
      where
        by : ActRom old t → old.operation ≡ Some r
        by (act_quiet l x) = l.was r f g
        by (act_other l asked p x y z) = l.was r f g

  -- a call that leaves this much of the bus: `v` is the world behind its first note, or as its line begins
  module _ (then : List Moment) (t : Turn) (weight : ℕ) (v : WorldState) (own : AreOwn t.0.sides) (bus : SameBus s.world v) (same : v.initiators ≡ (with_initiator i t.1 s.world).initiators) (keeps : Keeps i ms (hist then v)) (injected : (terms (hist then v)).injected ≡ (terms ms).injected) where
    abbrev V : WorldState
    V = told_all weight t.0.sides v

    abbrev told_notes : List Note
    told_notes = onto (notes_told weight t.0.sides v) v.fresh

    abbrev mid : List Moment
    mid = map said told_notes ++ then

    abbrev now : List Moment
    now = map said (onto (handed (suc i) weight t.0 v) v.fresh) ++ then

    there : node_of V.generations (suc i) old.target ≡ Some 0
    there = ap (λ g. node_of g (suc i) old.target) ((all_told_bus weight t.0.sides v).generations ∙ bus.generations) ∙ target_there s.world here.holds.sound.stands i inside here.holds.sound.nodes

    honest : (terms mid).injected (V.store.last + 1) ≡ false
    honest =
        ap (λ (f : ℕ → Bool). f (V.store.last + 1)) (told_injected weight t.0.sides v.fresh v then own ∙ injected)
        ∙ ap (λ n. (terms ms).injected (n + 1)) (ap (λ (x : Stored). x.last) (all_told_bus weight t.0.sides v).store ∙ bus.last)
        ∙ fresh s.world here.holds.sound.stands

    kept : RomOf (hist then v) i old
    kept = rom_keeps ms (hist then v) i old keeps h

    -- it is behind the call at another place
    module _ (behind : Scene) (later : Place units ready start then behind) (world_is : behind.world ≡ handed_out (suc i) weight t.0 v) where
      states : behind.world.initiators ≡ (with_initiator i t.1 s.world).initiators
      states = ap (λ (w : WorldState). w.initiators) world_is ∙ (handed_alike (suc i) weight t.0 v).initiators ∙ same

      inside_there : i < length behind.world.initiators
      inside_there = subst (λ n. i < n) (sym (ap (λ xs. length xs) states ∙ length-set s.world.initiators i t.1)) inside

      state_is : initiator_at behind.world i ≡ t.1
      state_is = ap (λ xs. initiator_at (record s.world { initiators = xs }) i) states ∙ state_here s.world.initiators i t.1 (new_state 0 false) inside

      generation_is : (topology_at V.generations (suc i)).generation ≡ t.1.layer.generation
      generation_is =
          ap (λ g. (topology_at g (suc i)).generation) ((all_told_bus weight t.0.sides v).generations ∙ sym (handed_alike (suc i) weight t.0 v).generations ∙ sym (ap (λ (w : WorldState). w.generations) world_is))
          ∙ place_generation units ready start then behind later i inside_there
          ∙ ap (λ (x : InitiatorState). x.layer.generation) state_is

      pub call_roms : IsCalling then → CallRom old t → RomOf now i t.1
      call_roms line c = own_ties then i old t weight v own there honest generation_is kept no_act c
        where
          no_act : IsNoAct i (event_of mid)
          no_act = subst (IsNoAct i) (sym (line_stays told_notes then ∙ line.is)) (call_acts_not i line.event line.calls)

      module _ (action : Action) (line : event_of then ≡ Some (events.Act i action)) (turn_is : act_step action empty_outbox old ≡ (None, t)) where
        act_line : event_of mid ≡ Some (events.Act i action)
        act_line = line_stays told_notes then ∙ line

        free : (r : Running) → old.operation ≡ Some r → operation_of action ≡ None
        free r e = by (refusals.operation_of action) refl (act_allowed action old (done_is action t turn_is)).free
          where
            by : (o : Option Operation) → refusals.operation_of action ≡ o → IsFree o old → operation_of action ≡ None
            by None f g = same_operation action ∙ f
            by (Some operation) f g = none_is r (sym g ∙ e)

        bare : old.operation ≡ None → IsFirst (host_at (hist then v) i).operation
        bare e = first_keeps (host_at ms i) (host_at (hist then v) i) keeps.operation (no_work (host_at ms i).operation (ap (λ (x : Core). x.work) (here.cores i inside) ∙ ap work_in e))

        by_action : (b : Bool) → is_rom_action action ≡ b → RomOf now i t.1
        by_action true e =
            let is = action_is action e in
            let rom_done : (act_step actions.Rom empty_outbox old).0 ≡ None = ap (λ a. (act_step a empty_outbox old).0) (sym is) ∙ done_is action t turn_is in
            rom_ties then i old t weight v own there honest generation_is kept action act_line is
            (subst (CallRom old) (ap (λ a. (act_step a empty_outbox old).1) (sym is) ∙ its_turn action t turn_is) (rom_act pairs.ready i old aimed.own.called aimed.aims valid small h.one rom_done))
            (λ r f. none_is r (sym (act_allowed actions.Rom old rom_done).free ∙ f))
        by_action false e =
            act_ties then i old t weight v own there honest generation_is kept action act_line free (subst (λ (x : Turn). AreRequests old.target x.0.packets) (its_turn action t turn_is) (sends action t turn_is))
            (λ r f. act_after_of action t turn_is e r f) bare
            (other_call action t turn_is e)

        pub act_roms : RomOf now i t.1
        act_roms = by_action (is_rom_action action) refl

  -- ---- a sight
  abbrev g : Topology
  g = s.world.generations.latest

  abbrev pub IsSeen : Turn → Type 0
  IsSeen x = let v = with_initiator i x.1 (with_seen (suc i) (told_seen (suc i) s.world)) in RomOf (map said (onto (handed (suc i) 0 x.0 v) v.fresh) ++ past) i x.1

  pub seen_roms : IsSeen (see_step g.generation (id_of g (suc i)) (id_of g 0) empty_outbox old)
  seen_roms = by (nat_lt old.layer.generation g.generation) refl
    where
      by : (b : Bool) → nat_lt old.layer.generation g.generation ≡ b → IsSeen (see_step g.generation (id_of g (suc i)) (id_of g 0) empty_outbox old)
      by true e =
          let flag = may_see s.world here.holds.sound.stands i (omega (arith, inside)) in
          record {
            one = seen_rom pairs.ready g.generation (id_of g (suc i)) (id_of g 0) ms i old flag aimed e;
            kind = λ n a y. absurd (none_seen pairs.ready g.generation (id_of g (suc i)) (id_of g 0) ms i old flag aimed e _ n (Some (purposes.Rom a)) y);
            still = λ r f other. none_is r (sym (none_later g.generation (id_of g (suc i)) (id_of g 0) old e) ∙ f);
            tie = λ n a y u f. absurd (none_seen pairs.ready g.generation (id_of g (suc i)) (id_of g 0) ms i old flag aimed e _ n (Some (purposes.Rom a)) y);
          }
      by false e = subst IsSeen (sym (see_old g.generation (id_of g (suc i)) (id_of g 0) old e)) (rom_keeps ms (said (notes.Seen (suc i) g.generation) ∷ ms) i old (keeps_note i (notes.Seen (suc i) g.generation) ms refl) h)
