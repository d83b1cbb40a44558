-- In each turn of every run exactly the units are cleared that its decision resets.
use Rattle.std.proofs.Common.{[], Bool, List, None, Option, Some, ap, arith, cond, false, length, map, nat_lt, refl, suc, sym, true, zero, ℕ, ◌+◌, ◌<◌, ◌∙◌, ◌∷◌, ◌≡◌}
use Rattle.std.proofs.lemmas.Bool.Decides.{nat_tests}
use Rattle.login_table.specs.Table.{expired_ids, is_live}
use Rattle.login_table.specs.declared.login.Login.{Login}
use Rattle.mgmt_agent.specs.Effects.{UnitBelow}
use Rattle.mgmt_agent.specs.Machine.{reply_step}
use Rattle.mgmt_agent.specs.declared.decision.Decision.{Decision}
use Rattle.mgmt_agent.specs.declared.decision.Effect.{Effect}
use Rattle.orb_layout.specs.Replies.{Answer}
use Rattle.rbc_disk.specs.Disk.{Disk}
use Rattle.sbp_bus.specs.Generations.{id_of}
use Rattle.sbp_bus.specs.Packets.{end_note}
use Rattle.sbp_journal.specs.Outgoings.{OutboxState}
use Rattle.sbp_journal.specs.Run.{Moment, asked, said}
use Rattle.sbp_journal.specs.Wire.{terms}
use Rattle.sbp_journal.specs.declared.event.Event.{Event}
use Rattle.sbp_journal.specs.declared.note.Note.{Note}
use Rattle.sbp_journal.specs.declared.side.Side.{Side}
use Rattle.sbp_laws.specs.Management.{cleared_by, cleared_from}
use Rattle.sbp_laws.specs.NoteKinds.{is_cleared_note, of_kind}
use Rattle.sbp_laws.specs.Targets.{Target, over, target_at}
use Rattle.sbp_laws.specs.Turns.{turn}
use Rattle.sbp_target.specs.Histories.Sides.{by_place, cleared_of, cut_for, cut_of, decision_changes, effect_changes, held_login, held_of, is_change, of_place, reset_changes, told_from}
use Rattle.sbp_target.specs.Management.{with_manager}
use Rattle.sbp_target.specs.Nodes.{NodeState, login_at}
use Rattle.sbp_world.specs.Agents.Management.Offices.{Agrees, office_of}
use Rattle.sbp_world.specs.Hosts.Handing.{AreOthers, IsOther}
use Rattle.sbp_world.specs.Lines.{weight_in}
use Rattle.sbp_world.specs.Worlds.{Scene, WorldState}
use Rattle.mgmt_agent.proofs.Places.{units_of_effects}
use Rattle.sbp_target.proofs.Histories.Calling.{Good}
use Rattle.sbp_target.proofs.Histories.Told.{side_law}
use Rattle.sbp_world.proofs.Agents.Hiring.{reply_hires}
use Rattle.sbp_world.proofs.Formed.{AreOwn, IsNoRun}
use Rattle.sbp_world.proofs.Agents.Management.Still.{hist}
use Rattle.turn_laws.specs.Cleared.{ClearedLaw, ClearsWhereDue}
use Rattle.turn_laws.proofs.Calls.{Brings, Cases, calls, injects, loses, refuses, refuses_action, resets, sets_key}
use Rattle.turn_laws.proofs.Decisions.{HasEffects, late_due, own_due, target_due}
use Rattle.turn_laws.proofs.Handed.{handed, note_of}
use Rattle.turn_laws.proofs.KeptNotes.{IsKept, cuts_none, first_none, kept_in, lapse_none, none_from, own_keeps, place_none, target_keeps, unit_cuts_none}
use Rattle.turn_laws.proofs.Pass.{of_every_run}
use Rattle.mgmt_agent.specs.declared.decision.Effect.TheVariants as effects
use Rattle.sbp_journal.specs.declared.cause.CutCause.TheVariants as cuts
use Rattle.sbp_journal.specs.declared.note.Note.TheVariants as notes
use Rattle.sbp_journal.specs.declared.side.Side.TheVariants as sides

abbrev cleared_side : Side → List Note
cleared_side (sides.Cleared unit) = notes.Cleared unit ∷ []
cleared_side side = []

no_own : (note : Note) → IsNoRun note → is_cleared_note note ≡ false
no_own (notes.Cleared unit) h = absurd h
no_own note h = refl

one_cleared : (side : Side) (w : WorldState) → IsOther side → of_kind is_cleared_note (note_of side w) ≡ cleared_side side
one_cleared (sides.Own note) w o = absurd o
one_cleared side w o = refl

plain_side : (side : Side) → is_change side ≡ false → cleared_side side ≡ []
plain_side (sides.Cleared unit) e = absurd (let no : true ≡ false = e in cc)
plain_side side e = refl

are_kept : IsKept is_cleared_note cleared_side
are_kept = record {
  no_packet = λ serial generation from to bytes. refl;
  no_own = no_own;
  noted = one_cleared;
  plain = plain_side;
  no_cut = λ place cause. refl;
  no_opened = λ place orb. refl;
  no_disc = λ place. (refl, refl);
}

abbrev Kept : List Side → List Note
Kept = kept_in is_cleared_note cleared_side are_kept

-- ---- the effects of a decision
units_cleared : (keys : List (List ℕ)) (left n : ℕ) → length keys ≡ left → Kept (told_from cleared_of left n) ≡ cleared_from n keys
units_cleared [] zero n e = refl
units_cleared [] (suc left) n e = absurd (omega (arith, e))
units_cleared (key ∷ keys) zero n e = absurd (omega (arith, e))
units_cleared (key ∷ keys) (suc left) n e = ap (λ ns. notes.Cleared n ∷ ns) (units_cleared keys left (n + 1) (let f : suc (length keys) ≡ suc left = e in omega (arith, f)))

module _ (target : Target) (node : NodeState) (same : target.keys ≡ node.keys) (size : length node.keys ≡ length node.units) where
  one_unit : (unit : ℕ) → unit < length node.keys → Kept (cond (nat_lt unit (length node.units)) (cleared_of unit) []) ≡ notes.Cleared unit ∷ []
  one_unit unit below =
      let inside : nat_lt unit (length node.units) ≡ true = (let z : unit < length node.units = omega (arith, below, size) in grind (arith, nat_tests)) in
      ap (λ b. Kept (cond b (cleared_of unit) [])) inside

  effect_clears : (effect : Effect) (subject : ℕ) → UnitBelow (length node.keys) effect → Kept (effect_changes effect subject node) ≡ cleared_by target effect
  effect_clears effects.Nothing subject below = refl
  effect_clears (effects.Entered place None) subject below = refl
  effect_clears (effects.Entered place (Some login)) subject below = refl
  effect_clears (effects.Back place) subject below = refl
  effect_clears (effects.Left place) subject below = first_none is_cleared_note cleared_side are_kept (of_place place (cut_of cuts.Logout node place)) (sides.Left subject ∷ []) (place_none is_cleared_note cleared_side are_kept place cuts.Logout node)
  effect_clears (effects.Abort place orb) subject below = refl
  effect_clears (effects.AbortSet place) subject below = place_none is_cleared_note cleared_side are_kept place cuts.AbortSet node
  effect_clears (effects.UnitReset unit) subject below =
      first_none is_cleared_note cleared_side are_kept (by_place (cut_for cuts.UnitReset unit node)) (cond (nat_lt unit (length node.units)) (cleared_of unit) []) (unit_cuts_none is_cleared_note cleared_side are_kept cuts.UnitReset unit node)
      ∙ one_unit unit below
  effect_clears effects.TargetReset subject below =
      first_none is_cleared_note cleared_side are_kept (by_place (cut_of cuts.TargetReset node)) (told_from cleared_of (length node.units) 0) (cuts_none is_cleared_note cleared_side are_kept cuts.TargetReset node)
      ∙ units_cleared node.keys (length node.units) 0 size ∙ ap (cleared_from 0) (sym same)

  decision_clears : (decided : Option Decision) (effect : Effect) → (decided ≡ None → effect ≡ effects.Nothing) → UnitBelow (length node.keys) effect → Kept (decision_changes decided effect node) ≡ cleared_by target effect
  decision_clears None effect nothing below = ap (cleared_by target) (sym (nothing refl))
  decision_clears (Some decision) effect nothing below = effect_clears effect decision.subject below

replies_clear : (target : Target) (node : NodeState) → Good node → Agrees (office_of target) node → (answer : Answer) → (let r = reply_step node.manager node.logins node.keys answer in Kept (decision_changes r.0.decided r.0.effect (with_manager node (r.1.0, r.1.1))) ≡ cleared_by target r.0.effect)
replies_clear target node good same answer =
    let r = reply_step node.manager node.logins node.keys answer in
    decision_clears target (with_manager node (r.1.0, r.1.1)) same.keys good.keys r.0.decided r.0.effect (reply_hires node.logins good.table.sound node.manager node.keys answer).none (units_of_effects.named node.manager node.logins node.keys answer good.table good.below)

effects_clear : HasEffects is_cleared_note cleared_side are_kept cleared_by
effects_clear = record { none = λ target. refl; replies = replies_clear }

-- ---- the turns of the calls
-- a sight and a second
expired_none : (ids : List ℕ) → Kept (map (λ login. sides.Expired login) ids) ≡ []
expired_none [] = refl
expired_none (id ∷ ids) = expired_none ids

held_none : (node : NodeState) (place : ℕ) → Kept (held_of node place) ≡ []
held_none node place = by (login_at node place)
  where
    by_test : (b : Bool) (login : Login) → Kept (cond b (sides.Held login.login ∷ []) []) ≡ []
    by_test true login = refl
    by_test false login = refl

    by : (login : Option Login) → Kept (held_login login) ≡ []
    by None = refl
    by (Some login) = by_test (is_live login) login

sight_none : (generation : ℕ) (node : NodeState) → Kept (cond (nat_lt node.layer.generation generation) (reset_changes node) []) ≡ []
sight_none generation node = by (nat_lt node.layer.generation generation)
  where
    by : (b : Bool) → Kept (cond b (reset_changes node) []) ≡ []
    by true =
        first_none is_cleared_note cleared_side are_kept (by_place (cut_of cuts.Reset node)) (by_place (held_of node)) (cuts_none is_cleared_note cleared_side are_kept cuts.Reset node)
        ∙ none_from is_cleared_note cleared_side are_kept (held_of node) (held_none node) 8 0
    by false = refl

line_clears : (start : List Disk) (line : ℕ) (s : Scene) (past : List Moment) (event : Event) (rest : List Note) → Brings line s event rest → ClearsWhereDue start (turn past (asked line event) rest)
line_clears start line s past event rest (calls is_event c) = refl
line_clears start line s past event rest (refuses is_event number) = refl
line_clears start line s past event rest (refuses_action i action number e) = refl
line_clears start line s past event rest (resets physical generation e) = refl
line_clears start line s past event rest (loses serial) = refl
line_clears start line s past event rest (sets_key unit key) = refl
line_clears start line s past event rest (injects i bytes serial generation from to) = refl

end_clears : (start : List Disk) (ms : List Moment) (done : Bool) → ClearsWhereDue start (turn ms (said (end_note done)) [])
end_clears start ms true = refl
end_clears start ms false = refl

module _ (units ready : ℕ) (has : 0 < units) (start : List Disk) where
  abbrev of_target : (outbox : OutboxState) (w : WorldState) → AreOthers outbox.sides → of_kind is_cleared_note (handed 0 0 outbox w) ≡ Kept outbox.sides
  of_target = target_keeps is_cleared_note cleared_side are_kept

  abbrev of_own : (node weight : ℕ) (outbox : OutboxState) (w : WorldState) → AreOwn outbox.sides → of_kind is_cleared_note (handed node weight outbox w) ≡ []
  of_own = own_keeps is_cleared_note cleared_side are_kept

  pub cleared_cases : Cases units ready start (ClearsWhereDue start)
  cleared_cases = record {
    heard = λ past s serial again run one found zero_to may others here behind noted.
        of_target _ _ others ∙ target_due is_cleared_note cleared_side are_kept cleared_by effects_clear units ready has start past s here serial one found run zero_to noted.judged;
    heard_own = λ past s serial again one i found to_is inside own here behind judged.
        of_own (suc i) 0 _ _ own ∙ sym (own_due is_cleared_note cleared_side are_kept cleared_by effects_clear units ready has start past s here serial one found i to_is _);
    late = λ past s serial request done t found node_is e others here behind judged.
        of_target _ _ others ∙ lapse_none is_cleared_note cleared_side are_kept request.peer request.label s.world.target done t e
        ∙ sym (late_due is_cleared_note cleared_side are_kept cleared_by effects_clear units ready has start (over (target_at start (hist past s.world))) (terms (hist past s.world)) serial);
    late_own = λ past s serial request i outbox state found node_is inside e own here behind judged.
        of_own (suc i) 0 outbox _ own ∙ sym (late_due is_cleared_note cleared_side are_kept cleared_by effects_clear units ready has start (over (target_at start (hist past s.world))) (terms (hist past s.world)) serial);
    sees = λ past s others here behind judged.
        let g = s.world.generations.latest in
        of_target _ _ others ∙ ap Kept (side_law.sights g.generation (id_of g 0) s.world.target) ∙ sight_none g.generation s.world.target;
    sees_own = λ past s i inside own here behind judged. of_own (suc i) 0 _ _ own;
    ticks = λ past s others here behind judged. of_target _ _ others ∙ ap Kept (side_law.seconds s.world.target) ∙ expired_none (expired_ids s.world.target.logins.places);
    ends = λ past s done here behind. end_clears start (hist past s.world) done;
    acts = λ past s line i action outbox state inside e own here behind. of_own (i + 1) (weight_in action) outbox _ own;
    lines = λ past s line event rest behind brings fresh here there. line_clears start line s (hist past s.world) event rest brings;
    begins = λ line initiators is_ready. refl;
  }

pub cleared_law : ClearedLaw
cleared_law = of_every_run ClearsWhereDue (λ units ready start has. cleared_cases units ready has start)
