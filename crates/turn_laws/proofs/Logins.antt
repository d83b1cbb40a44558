-- In each turn of every run the notes on logins are those that the login law wants: at a reset that the target sees, in a second, and by a decision.
use Rattle.std.proofs.Common.{[], ◌&&◌, Bool, List, None, Option, Some, ap, arith, cond, false, length, map, nat_eq, nat_lt, not, refl, subst, suc, sym, true, zero, ℕ, ◌++◌, ◌+◌, ◌<◌, ◌∙◌, ◌∷◌, ◌≡◌}
use Rattle.std.proofs.lemmas.Bool.Decides.{nat_tests}
use Rattle.std.specs.List.{cons_option}
use Rattle.login_table.specs.Table.{Table, expired_ids, is_live, live_ids, place_at}
use Rattle.login_table.specs.declared.login.Login.{Login}
use Rattle.mgmt_agent.specs.Machine.{reply_step}
use Rattle.mgmt_agent.specs.declared.decision.Decision.{Decision}
use Rattle.mgmt_agent.specs.declared.decision.Effect.{Effect}
use Rattle.orb_layout.specs.Replies.{Answer}
use Rattle.rbc_disk.specs.Disk.{Disk}
use Rattle.sbp_bus.specs.Generations.{id_of}
use Rattle.sbp_bus.specs.Packets.{end_note, judged_note}
use Rattle.sbp_journal.specs.Outgoings.{OutboxState}
use Rattle.sbp_journal.specs.Run.{Moment, asked, said}
use Rattle.sbp_journal.specs.Wire.{Terms, terms}
use Rattle.sbp_journal.specs.declared.cause.Judged.{Judged}
use Rattle.sbp_journal.specs.declared.event.Event.{Event}
use Rattle.sbp_journal.specs.declared.note.Note.{Note}
use Rattle.sbp_journal.specs.declared.side.Side.{Side}
use Rattle.sbp_laws.specs.LoginLaw.{is_login_note}
use Rattle.sbp_laws.specs.Management.{back_note, expired_notes, held_notes, left_note, logins_due, moved_logins}
use Rattle.sbp_laws.specs.NoteKinds.{of_kind}
use Rattle.sbp_laws.specs.Targets.{Target, over, target_at}
use Rattle.sbp_laws.specs.Turns.{turn}
use Rattle.sbp_target.specs.Histories.Sides.{by_place, cleared_of, cut_for, cut_of, decision_changes, effect_changes, held_login, held_of, is_change, of_place, reset_changes, told_from}
use Rattle.sbp_target.specs.Management.{with_manager}
use Rattle.sbp_target.specs.Nodes.{NodeState, login_at}
use Rattle.sbp_world.specs.Agents.Management.Offices.{Agrees, office_of}
use Rattle.sbp_world.specs.Hosts.Handing.{AreOthers, IsOther}
use Rattle.sbp_world.specs.Lines.{weight_in}
use Rattle.sbp_world.specs.Worlds.{Scene, WorldState}
use Rattle.sbp_target.proofs.Histories.Calling.{Good}
use Rattle.sbp_target.proofs.Histories.Told.{side_law}
use Rattle.sbp_world.proofs.Agents.CrewFirsts.{agrees}
use Rattle.sbp_world.proofs.Agents.Hiring.{reply_hires}
use Rattle.sbp_world.proofs.Agents.Management.Holding.{good_of}
use Rattle.sbp_world.proofs.Formed.{AreOwn, IsNoRun}
use Rattle.sbp_world.proofs.Agents.Management.Sights.{ages}
use Rattle.sbp_world.proofs.Agents.Management.Still.{hist}
use Rattle.turn_laws.specs.Logins.{LoginsWhereDue}
use Rattle.turn_laws.proofs.Calls.{Brings, Cases, calls, injects, loses, refuses, refuses_action, resets, sets_key}
use Rattle.turn_laws.proofs.Decisions.{HasEffects, late_due, own_due, target_due}
use Rattle.turn_laws.proofs.Handed.{handed, note_of}
use Rattle.turn_laws.proofs.KeptNotes.{IsKept, both, cuts_none, first_none, kept_in, lapse_none, none_from, own_keeps, place_none, target_keeps, unit_cuts_none}
use Rattle.turn_laws.proofs.Places.{Place}
use Rattle.turn_laws.proofs.Subjects.{Names, reply_named}
use Rattle.mgmt_agent.specs.declared.decision.Effect.TheVariants as effects
use Rattle.sbp_journal.specs.declared.cause.CutCause.TheVariants as cuts
use Rattle.sbp_journal.specs.declared.cause.Judged.TheVariants as judgements
use Rattle.sbp_journal.specs.declared.note.Note.TheVariants as notes
use Rattle.sbp_journal.specs.declared.side.Side.TheVariants as sides
use Rattle.sbp_world.proofs.Hosts.Knows.{seen_test}

abbrev login_side : Side → List Note
login_side (sides.Held login) = notes.Held login ∷ []
login_side (sides.Expired login) = notes.Expired login ∷ []
login_side (sides.Back login) = notes.Back login ∷ []
login_side (sides.Left login) = notes.Left login ∷ []
login_side side = []

no_own : (note : Note) → IsNoRun note → is_login_note note ≡ false
no_own (notes.Held login) h = absurd h
no_own (notes.Expired login) h = absurd h
no_own (notes.Back login) h = absurd h
no_own (notes.Left login) h = absurd h
no_own note h = refl

one_login : (side : Side) (w : WorldState) → IsOther side → of_kind is_login_note (note_of side w) ≡ login_side side
one_login (sides.Own note) w o = absurd o
one_login side w o = refl

plain_side : (side : Side) → is_change side ≡ false → login_side side ≡ []
plain_side (sides.Held login) e = absurd (let no : true ≡ false = e in cc)
plain_side (sides.Expired login) e = absurd (let no : true ≡ false = e in cc)
plain_side (sides.Back login) e = absurd (let no : true ≡ false = e in cc)
plain_side (sides.Left login) e = absurd (let no : true ≡ false = e in cc)
plain_side side e = refl

are_kept : IsKept is_login_note login_side
are_kept = record {
  no_packet = λ serial generation from to bytes. refl;
  no_own = no_own;
  noted = one_login;
  plain = plain_side;
  no_cut = λ place cause. refl;
  no_opened = λ place orb. refl;
  no_disc = λ place. (refl, refl);
}

abbrev Kept : List Side → List Note
Kept = kept_in is_login_note login_side are_kept

-- ---- the effects of a decision
module _ (target : Target) (node : NodeState) where
  unit_none : (unit : ℕ) → Kept (cond (nat_lt unit (length node.units)) (cleared_of unit) []) ≡ []
  unit_none unit = by (nat_lt unit (length node.units))
    where
      by : (b : Bool) → Kept (cond b (cleared_of unit) []) ≡ []
      by true = refl
      by false = refl

  effect_moves : (effect : Effect) (subject : ℕ) → Names target.table.places subject effect → Kept (effect_changes effect subject node) ≡ moved_logins target effect
  effect_moves effects.Nothing subject named = refl
  effect_moves (effects.Entered place None) subject named = refl
  effect_moves (effects.Entered place (Some login)) subject named = refl
  effect_moves (effects.Back place) subject named = ap back_note (sym named)
  effect_moves (effects.Left place) subject named =
      first_none is_login_note login_side are_kept (of_place place (cut_of cuts.Logout node place)) (sides.Left subject ∷ []) (place_none is_login_note login_side are_kept place cuts.Logout node) ∙ ap left_note (sym named)
  effect_moves (effects.Abort place orb) subject named = refl
  effect_moves (effects.AbortSet place) subject named = place_none is_login_note login_side are_kept place cuts.AbortSet node
  effect_moves (effects.UnitReset unit) subject named =
      first_none is_login_note login_side are_kept (by_place (cut_for cuts.UnitReset unit node)) (cond (nat_lt unit (length node.units)) (cleared_of unit) []) (unit_cuts_none is_login_note login_side are_kept cuts.UnitReset unit node)
      ∙ unit_none unit
  effect_moves effects.TargetReset subject named =
      first_none is_login_note login_side are_kept (by_place (cut_of cuts.TargetReset node)) (told_from cleared_of (length node.units) 0) (cuts_none is_login_note login_side are_kept cuts.TargetReset node)
      ∙ none_from is_login_note login_side are_kept cleared_of (λ unit. refl) (length node.units) 0

  decision_moves : (decided : Option Decision) (effect : Effect) → (decided ≡ None → effect ≡ effects.Nothing) → ((d : Decision) → decided ≡ Some d → Names target.table.places d.subject effect) → Kept (decision_changes decided effect node) ≡ moved_logins target effect
  decision_moves None effect nothing named = ap (moved_logins target) (sym (nothing refl))
  decision_moves (Some decision) effect nothing named = effect_moves effect decision.subject (named decision refl)

replies_move : (target : Target) (node : NodeState) → Good node → Agrees (office_of target) node → (answer : Answer) → (let r = reply_step node.manager node.logins node.keys answer in Kept (decision_changes r.0.decided r.0.effect (with_manager node (r.1.0, r.1.1))) ≡ moved_logins target r.0.effect)
replies_move target node good same answer =
    let r = reply_step node.manager node.logins node.keys answer in
    decision_moves target (with_manager node (r.1.0, r.1.1)) r.0.decided r.0.effect (reply_hires node.logins good.table.sound node.manager node.keys answer).none
    (λ d e. subst (λ (t : Table). Names t.places d.subject r.0.effect) (sym same.table) (reply_named node.manager node.logins node.keys answer d e))

effects_move : HasEffects is_login_note login_side are_kept moved_logins
effects_move = record { none = λ target. refl; replies = replies_move }

-- ---- a second, and a sight
seconds_due : (ids : List ℕ) → Kept (map (λ login. sides.Expired login) ids) ≡ expired_notes ids
seconds_due [] = refl
seconds_due (id ∷ ids) = ap (λ ns. notes.Expired id ∷ ns) (seconds_due ids)

-- one place more
held_one : (login : Option Login) (rest : List (Option Login)) → Kept (held_login login) ++ held_notes (live_ids rest) ≡ held_notes (live_ids (login ∷ rest))
held_one None rest = refl
held_one (Some login) rest = by (is_live login) refl
  where
    by : (b : Bool) → is_live login ≡ b → Kept (cond b (sides.Held login.login ∷ []) []) ++ held_notes (live_ids rest) ≡ held_notes (cons_option (cond b (Some login.login) None) (live_ids rest))
    by true e = refl
    by false e = refl

-- told by place, as the table has them
held_from_places : (node : NodeState) (places : List (Option Login)) (left at : ℕ) → length places ≡ left → ((n : ℕ) → place_at places n ≡ login_at node (at + n)) → Kept (told_from (held_of node) left at) ≡ held_notes (live_ids places)
held_from_places node [] zero at size same = refl
held_from_places node [] (suc left) at size same = absurd (omega (arith, size))
held_from_places node (login ∷ rest) zero at size same = absurd (omega (arith, size))
held_from_places node (login ∷ rest) (suc left) at size same =
    let first : login ≡ login_at node at = same 0 ∙ ap (login_at node) (let z : at + 0 ≡ at = omega arith in z) in
    let more : (n : ℕ) → place_at rest n ≡ login_at node (at + 1 + n) = λ n. same (suc n) ∙ ap (login_at node) (let z : at + suc n ≡ at + 1 + n = omega arith in z) in
    both is_login_note login_side are_kept (held_of node at) (told_from (held_of node) left (at + 1))
    ∙ ap (λ ns. Kept (held_of node at) ++ ns) (held_from_places node rest left (at + 1) (let f : suc (length rest) ≡ suc left = size in omega (arith, f)) more)
    ∙ ap (λ l. Kept (held_login l) ++ held_notes (live_ids rest)) (sym first) ∙ held_one login rest

module _ (units ready : ℕ) (has : 0 < units) (start : List Disk) where
  abbrev of_target : (outbox : OutboxState) (w : WorldState) → AreOthers outbox.sides → of_kind is_login_note (handed 0 0 outbox w) ≡ Kept outbox.sides
  of_target = target_keeps is_login_note login_side are_kept

  abbrev of_own : (node weight : ℕ) (outbox : OutboxState) (w : WorldState) → AreOwn outbox.sides → of_kind is_login_note (handed node weight outbox w) ≡ []
  of_own = own_keeps is_login_note login_side are_kept

  module _ (past : List Moment) (s : Scene) (here : Place units ready start past s) where
    abbrev node : NodeState
    node = s.world.target

    abbrev T : Target
    T = over (target_at start (hist past s.world))

    abbrev t : Terms
    t = terms (hist past s.world)

    abbrev g : ℕ
    g = s.world.generations.latest.generation

    good : Good node
    good = good_of units ready here.holds.calls node has here.holds.made

    table_is : T.table ≡ node.logins
    table_is = (agrees units ready has start s.world here.holds).table

    sights_due : (b : Bool) → Kept (cond b (reset_changes node) []) ≡ cond b (held_notes (live_ids T.table.places)) []
    sights_due false = refl
    sights_due true =
        first_none is_login_note login_side are_kept (by_place (cut_of cuts.Reset node)) (by_place (held_of node)) (cuts_none is_login_note login_side are_kept cuts.Reset node)
        ∙ held_from_places node node.logins.places 8 0 good.table.sound.size (λ n. ap (login_at node) (let z : n ≡ 0 + n = omega arith in z))
        ∙ ap (λ (x : Table). held_notes (live_ids x.places)) (sym table_is)

    sight_due : Kept (cond (nat_lt node.layer.generation g) (reset_changes node) []) ≡ cond (not (nat_eq g (t.generation 0))) (held_notes (live_ids T.table.places)) []
    sight_due =
        let a = ages units ready has start s.world here.holds in
        sights_due (nat_lt node.layer.generation g) ∙ ap (λ b. cond b (held_notes (live_ids T.table.places)) []) (sym (seen_test node.layer.generation g (t.generation 0) a.below a.same))

    second_due : Kept (map (λ login. sides.Expired login) (expired_ids node.logins.places)) ≡ expired_notes (expired_ids T.table.places)
    second_due = seconds_due (expired_ids node.logins.places) ∙ ap (λ (x : Table). expired_notes (expired_ids x.places)) (sym table_is)

  -- ---- the turns of the calls
  line_moves : (line : ℕ) (s : Scene) (past : List Moment) (event : Event) (rest : List Note) → Brings line s event rest → LoginsWhereDue start (turn past (asked line event) rest)
  line_moves line s past event rest (calls is_event c) = refl
  line_moves line s past event rest (refuses is_event number) = refl
  line_moves line s past event rest (refuses_action i action number e) = refl
  line_moves line s past event rest (resets physical generation e) = refl
  line_moves line s past event rest (loses serial) = refl
  line_moves line s past event rest (sets_key unit key) = refl
  line_moves line s past event rest (injects i bytes serial generation from to) = refl

  end_moves : (ms : List Moment) (done : Bool) → LoginsWhereDue start (turn ms (said (end_note done)) [])
  end_moves ms true = refl
  end_moves ms false = refl

  -- a delivery has what the effect of its call has, however it is judged
  judged_due : (ms : List Moment) (serial : ℕ) (judged : Judged) (wire : Terms) (target : Target) (effect : Effect) → logins_due (said (judged_note serial judged)) wire target effect ≡ moved_logins target effect
  judged_due ms serial judgements.Got wire target effect = refl
  judged_due ms serial (judgements.Ignored cause) wire target effect = refl

  pub login_cases : Cases units ready start (LoginsWhereDue start)
  login_cases = record {
    heard = λ past s serial again run one found zero_to may others here behind noted.
        of_target _ _ others ∙ target_due is_login_note login_side are_kept moved_logins effects_move units ready has start past s here serial one found run zero_to noted.judged
        ∙ sym (judged_due (hist past s.world) serial _ (terms (hist past s.world)) (over (target_at start (hist past s.world))) _);
    heard_own = λ past s serial again one i found to_is inside own here behind judged.
        of_own (suc i) 0 _ _ own ∙ sym (own_due is_login_note login_side are_kept moved_logins effects_move units ready has start past s here serial one found i to_is _)
        ∙ sym (judged_due (hist past s.world) serial _ (terms (hist past s.world)) (over (target_at start (hist past s.world))) _);
    late = λ past s serial request done t found node_is e others here behind judged.
        of_target _ _ others ∙ lapse_none is_login_note login_side are_kept request.peer request.label s.world.target done t e
        ∙ sym (late_due is_login_note login_side are_kept moved_logins effects_move units ready has start (over (target_at start (hist past s.world))) (terms (hist past s.world)) serial);
    late_own = λ past s serial request i outbox state found node_is inside e own here behind judged.
        of_own (suc i) 0 outbox _ own ∙ sym (late_due is_login_note login_side are_kept moved_logins effects_move units ready has start (over (target_at start (hist past s.world))) (terms (hist past s.world)) serial);
    sees = λ past s others here behind judged.
        let latest = s.world.generations.latest in
        of_target _ _ others ∙ ap Kept (side_law.sights latest.generation (id_of latest 0) s.world.target) ∙ sight_due past s here;
    sees_own = λ past s i inside own here behind judged. of_own (suc i) 0 _ _ own ∙ sym (away i (not (nat_eq s.world.generations.latest.generation ((terms (hist past s.world)).generation 0))) (held_notes (live_ids (over (target_at start (hist past s.world))).table.places)));
    ticks = λ past s others here behind judged. of_target _ _ others ∙ ap Kept (side_law.seconds s.world.target) ∙ second_due past s here;
    ends = λ past s done here behind. end_moves (hist past s.world) done;
    acts = λ past s line i action outbox state inside e own here behind. of_own (i + 1) (weight_in action) outbox _ own;
    lines = λ past s line event rest behind brings fresh here there. line_moves line s (hist past s.world) event rest brings;
    begins = λ line initiators is_ready. refl;
  }
    where
      away : (i : ℕ) (b : Bool) (xs : List Note) → cond (nat_eq (suc i) 0 && b) xs [] ≡ []
      away i b xs = let other : nat_eq (suc i) 0 ≡ false = grind (arith, nat_tests) in ap (λ x. cond (x && b) xs []) other
