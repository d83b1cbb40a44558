-- The target sees a generation, a second passes, or a unit gets a key: behind the turn the agents of the terms are the target's.
use Rattle.sbp_world.proofs.Words.Std.{arith, ◌≡◌, ◌∙◌, refl, sym, ap, subst, ℕ, ◌<◌, ◌≤◌, not, nat_eq, nat_lt, Bool, true, false, List, [], length}
use Rattle.sbp_world.proofs.Words.Wire.{Node, seeing_step, id_of, Moment, Terms, terms, Outgoing}
use Rattle.sbp_world.proofs.Words.Target.{Disk, alone, sees, ticks, TargetScene, with_key}
use Rattle.sbp_world.proofs.Words.Laws.{Agent, Target, over, reset_seen, target_by}
use Rattle.sbp_world.proofs.Words.World.{handed_out, told_seen, with_seen, WorldState, with_note, with_target, Stands, Office, office_of, ticked, AreOf, Request, with_requests, AllLeave}
use Rattle.sbp_journal.specs.declared.note.Note.TheVariants as notes
use Rattle.sbp_world.proofs.Wire.Bus.{aged, holds}
use Rattle.sbp_world.proofs.Wire.TargetForgets.{seen_stays, ticked_stays}
use Rattle.sbp_target.proofs.Histories.Calling.{Good}
use Rattle.sbp_world.specs.Agents.Management.Calls as management
use Rattle.sbp_world.proofs.Agents.Management.Calls.{forgets_if}
use Rattle.sbp_world.proofs.Agents.Management.Firsts.{wire_is}
use Rattle.sbp_world.proofs.Agents.Management.Holding.{Holding, target_generation}
use Rattle.sbp_world.proofs.Agents.Management.Resting.{second_rests, sight_rests}
use Rattle.sbp_world.proofs.Agents.Management.Still.{hist}
use Rattle.sbp_world.proofs.Agents.Management.Told.{term_in}
use Rattle.sbp_world.specs.Agents.Calls.{seen}
use Rattle.sbp_world.proofs.Agents.CrewFirsts.{T, agrees, before, crew_keeps, none_waits, o}
use Rattle.sbp_world.proofs.Agents.CrewTurns.{Begins, quiet_begins, turned_crew}
use Rattle.sbp_world.proofs.Agents.Notes.{notes_law}
use Rattle.sbp_world.proofs.Agents.Purposes.{g}
use Rattle.sbp_world.proofs.Hosts.Knows.{seen_flag, seen_test}

-- a reset that is seen
seen_office : (later : Bool) (t : Target) → office_of (reset_seen later t) ≡ management.seen later (office_of t)
seen_office true t = refl
seen_office false t = refl

seen_rests : (later : Bool) (t : Target) → (reset_seen later t).reply ≡ t.reply
seen_rests true t = refl
seen_rests false t = refl

none_leave : (packets : List Outgoing) (v : WorldState) → packets ≡ [] → AllLeave v.generations packets
none_leave packets v e = subst (AllLeave v.generations) (sym e) tt

module _ (units ready : ℕ) (has : 0 < units) (start : List Disk) {past : List Moment} {lines : ℕ} (w : WorldState) (h : Holding units ready start past lines w) where
  abbrev stands : Stands past w
  stands = h.sound.stands

  abbrev G : Good w.target
  G = g units ready has start w h

  abbrev own_office : Office
  own_office = o units ready has start w h

  abbrev own_terms : Target
  own_terms = T units ready has start w h

  abbrev t : Terms
  t = terms (hist past w)

  -- ---- a second
  abbrev second : TargetScene
  second = alone ticks w.target

  abbrev second_world : WorldState
  second_world = with_target second.node (with_note notes.Tick w)

  second_begins : Begins second_world (terms (hist past second_world)) (ticked own_office) own_terms.agents second.outbox.sides (term_in start past second_world)
  second_begins = quiet_begins (ticked own_office) own_terms.agents second.outbox.sides (term_in start past second_world) (none_waits units ready has start w h) refl refl

  pub second_crew : (requests : List Request) → AreOf requests own_terms.agents w.target → AreOf (with_requests second_world.store.last second.outbox.packets requests) (over (term_in start past (handed_out 0 0 second.outbox second_world))).agents second.node
  second_crew requests are =
      turned_crew start past requests (ticked own_office) own_terms.agents second second_world second_begins
      (second_rests own_office w.target (agrees units ready has start w h) G.table.sound).says.behind
      (none_leave second.outbox.packets second_world (ticked_stays w.target).silent.unsent)
      ((crew_keeps units ready has start w h requests are).seconds)

  -- ---- a sight of the latest generation
  abbrev now : ℕ
  now = w.generations.latest.generation

  abbrev own_id : ℕ
  own_id = id_of w.generations.latest 0

  abbrev sight : TargetScene
  sight = alone (sees now own_id) w.target

  abbrev sight_world : WorldState
  sight_world = with_target sight.node (with_seen 0 (told_seen 0 w))

  abbrev is_later : Bool
  is_later = (seeing_step w.target.layer now own_id).0

  record Ages : Type 0 where
    below : w.target.layer.generation ≤ now
    same : t.generation 0 ≡ w.target.layer.generation

  ages : Ages
  ages =
      let there : 0 ≤ length w.initiators = omega arith in
      let layer_is : (stands.wire.layer 0).generation ≡ w.target.layer.generation = ap (λ (l : Node). l.generation) (stands.is.layers_are 0 there) in
      let a = aged stands.wire 0 stands.reached in
      let b = stands.is.bus_is in
      let c = (holds stands.wire stands.reached).bus_is in
      record {
        below = omega arith;
        same = target_generation w stands ∙ sym (stands.is.sights 0 there) ∙ layer_is;
      }

  later_is : not (nat_eq now (t.generation 0)) ≡ is_later
  later_is = seen_test w.target.layer.generation now (t.generation 0) ages.below ages.same ∙ sym (seen_flag w.target.layer now own_id)

  sight_is : term_in start past sight_world ≡ reset_seen is_later own_terms
  sight_is =
      ap (λ (x : Terms). target_by (notes.Seen 0 now) (hist past w) x (before units ready has start w h)) (wire_is start (hist past w))
      ∙ ap (λ b. reset_seen b own_terms) later_is

  sight_begins : Begins sight_world (terms (hist past sight_world)) (management.seen is_later own_office) (seen is_later own_terms.agents) sight.outbox.sides (term_in start past sight_world)
  sight_begins =
      subst (Begins sight_world (terms (hist past sight_world)) (management.seen is_later own_office) (seen is_later own_terms.agents) sight.outbox.sides) (sym sight_is)
      (quiet_begins (management.seen is_later own_office) (seen is_later own_terms.agents) sight.outbox.sides (reset_seen is_later own_terms)
      (seen_rests is_later own_terms ∙ none_waits units ready has start w h) (notes_law.resets is_later own_terms) (seen_office is_later own_terms))

  pub sight_crew : (requests : List Request) → AreOf requests own_terms.agents w.target → AreOf (with_requests sight_world.store.last sight.outbox.packets requests) (over (term_in start past (handed_out 0 0 sight.outbox sight_world))).agents sight.node
  sight_crew requests are =
      turned_crew start past requests (management.seen is_later own_office) (seen is_later own_terms.agents) sight sight_world sight_begins
      (sight_rests now own_id own_office w.target G.lives (forgets_if w.target G now own_id (nat_lt w.target.layer.generation now) refl) (agrees units ready has start w h) G.table.sound).says.behind
      (none_leave sight.outbox.packets sight_world (seen_stays now own_id w.target).silent.unsent)
      ((crew_keeps units ready has start w h requests are).sights now own_id)

  -- ---- a key: the desks are as before
  pub key_crew : (requests : List Request) (unit : ℕ) (key : List ℕ) (agents : List Agent) → agents ≡ own_terms.agents → AreOf requests own_terms.agents w.target → AreOf requests agents (with_key unit key w.target)
  key_crew requests unit key agents e are =
      subst (λ xs. AreOf requests xs (with_key unit key w.target)) (sym e) (record { size = are.size; each = are.each })
