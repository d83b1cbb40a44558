-- A list that is cut, and the effects of a decision, begin no ORB.
use Rattle.std.proofs.Common.{arith, ◌≡◌, refl, sym, ap, ◌∙◌, ℕ, zero, suc, ◌+◌, ◌==◌, nat_lt, Bool, true, false, cond, length, slice_set, Option, Some, None}
use Rattle.std.proofs.lemmas.Bool.Decides.{nat_tests}
use Rattle.mgmt_agent.specs.declared.decision.Decision.{Decision}
use Rattle.mgmt_agent.specs.declared.decision.Effect.{Effect}
use Rattle.mgmt_agent.specs.declared.decision.Effect.TheVariants as effects
use Rattle.orb_layout.specs.Pointers.{bit}
use Rattle.command_agent.specs.declared.phase.Phase.{Phase}
use Rattle.command_agent.specs.declared.phase.Phase.TheVariants as phases
use Rattle.command_agent.specs.Machine.{state_in}
use Rattle.command_agent.specs.Steps.{abort_step, is_reset, reset_step}
use Rattle.command_agent.specs.Making.{is_at_work}
use Rattle.command_agent.proofs.Making.Registers.{aborts_make_nothing, resets_make_nothing}
use Rattle.sbp_journal.specs.declared.cause.CutCause.{CutCause}
use Rattle.sbp_journal.specs.declared.cause.CutCause.TheVariants as cuts
use Rattle.sbp_journal.specs.declared.side.Side.TheVariants as sides
use Rattle.sbp_journal.specs.Outgoings.{OutboxState}
use Rattle.sbp_target.specs.declared.desk.Desk.{Desk}
use Rattle.sbp_target.specs.Agents.{cut, told_cut}
use Rattle.sbp_target.specs.Desks.{reset_desk}
use Rattle.sbp_target.specs.Management.{cut_placed, decided_by, effect_by, fresh_desk, logged_out, place_in, tell_left, tell_managed}
use Rattle.sbp_target.specs.Nodes.{NodeState, Scene, scene, desk_at, with_agent}
use Rattle.sbp_target.specs.Requests.{requests}
use Rattle.sbp_target.specs.RequestsLeft.{desk_left, was_cut}
use Rattle.sbp_target.specs.Sending.{with_side}
use Rattle.sbp_target.specs.Units.{clear_from, clear_unit, cut_all}
use Rattle.sbp_target.proofs.Histories.Views.{cuts_keep, placed_keep}
use Rattle.sbp_target.proofs.Requests.Easing.{NoneBegins, beside, none_then, own, seated}
use Rattle.sbp_target.proofs.Requests.Telling.{EndsNone, any_more, one_side, or_left, or_right, silent}

-- ---- a list is cut: where the agent was at work it is told
working_unreset : (phase : Phase) → is_at_work phase ≡ true → is_reset (state_in phase) ≡ false
working_unreset phases.Reset e = cc e
working_unreset _ e = refl

cut_sides : (b : Bool) (q : ℕ) (cause : CutCause) (o : OutboxState) → EndsNone o (told_cut b q cause o)
cut_sides true q cause o = silent o
cut_sides false q cause o = one_side o (sides.Cut q cause) (λ p. refl)

pub cut_packets : (b : Bool) (q : ℕ) (cause : CutCause) (o : OutboxState) → (told_cut b q cause o).packets ≡ o.packets
cut_packets true q cause o = refl
cut_packets false q cause o = refl

pub left_packets : (replaced : Option ℕ) (o : OutboxState) → (tell_left replaced o).packets ≡ o.packets
left_packets None o = refl
left_packets (Some login) o = refl

cut_told : (b : Bool) (q : ℕ) (cause : CutCause) (node : NodeState) (o : OutboxState) → b ≡ false → was_cut q (scene node (told_cut b q cause o)) ≡ true
cut_told true q cause node o e = cc e
cut_told false q cause node o e = let mine : (q == q) ≡ true = grind (arith, nat_tests) in any_more _ o.sides (sides.Cut q cause) ∙ or_right _ (q == q) mine

module _ (tables chunks : ℕ → ℕ) where
  pub cut_eases : (cause : CutCause) (q : ℕ) (s : Scene) → length s.node.desks ≡ 8 → NoneBegins tables chunks 0 s (cut cause q s)
  unfolding cut reset_step
  cut_eases cause q s size =
      let d = desk_at s.node q in
      let b = is_reset (state_in d.agent.phase) in
      let less = resets_make_nothing (tables q) (chunks q) d.agent in
      let left = less.requests in
      let marks = less.marks in
      let packets = ap requests (cut_packets b q cause s.outbox) in
      seated tables chunks s (cut cause q s) q (reset_desk d) 0 size refl (omega (arith, left, marks, packets))
      (λ e. cc e)
      (λ e. cut_told b q cause (cut cause q s).node s.outbox (working_unreset d.agent.phase e))
      (cut_sides b q cause s.outbox)

  module _ (x : Scene) (more : ℕ) where
    abbrev Eases : Scene → Type 0
    Eases s = NoneBegins tables chunks more x s

    -- a step more that sends nothing
    pub on : (s t : Scene) → Eases s → NoneBegins tables chunks 0 s t → Eases t
    on s t f g =
        let all = none_then tables chunks x s t more 0 f g in
        let few = all.few in
        record { size = all.size; few = omega (arith, few); old = all.old; goes = all.goes; told = all.told }

    cuts_on : (cause : CutCause) (q : ℕ) (s : Scene) → Eases s → Eases (cut cause q s)
    cuts_on cause q s f = on s (cut cause q s) f (cut_eases cause q s f.size)

    pub cuts_all : (cause : CutCause) (unit : Option ℕ) (s : Scene) → Eases s → Eases (cut_all cause unit s)
    cuts_all cause unit s f = cuts_keep Eases cuts_on cause unit s f

    cuts_placed : (place : Option ℕ) (cause : CutCause) (s : Scene) → Eases s → Eases (cut_placed place cause s)
    cuts_placed place cause s f = placed_keep Eases cuts_on place cause s f

    -- ---- units, and what is told
    tells_on : (s t : Scene) → t.node.desks ≡ s.node.desks → own t ≡ own s → EndsNone s.outbox t.outbox → Eases s → Eases t
    tells_on s t desks same told f = on s t f (beside tables chunks s t 0 f.size desks (omega (arith, same)) told)

    clears : (unit : ℕ) (s : Scene) → Eases s → Eases (clear_unit unit s)
    unfolding clear_unit
    clears unit s f = tells_on s (clear_unit unit s) refl refl (one_side s.outbox (sides.Cleared unit) (λ p. refl)) f

    clears_from : (left unit : ℕ) (s : Scene) → Eases s → Eases (clear_from left unit s)
    unfolding clear_from
    clears_from zero unit s f = f
    clears_from (suc left) unit s f = clears_from left (unit + 1) (clear_unit unit s) (clears unit s f)

    either : (b : Bool) (s t : Scene) → Eases s → Eases t → Eases (cond b s t)
    either true s t f g = f
    either false s t f g = g

    left_sides : (replaced : Option ℕ) (o : OutboxState) → EndsNone o (tell_left replaced o)
    left_sides None o = silent o
    left_sides (Some login) o = one_side o (sides.Left login) (λ p. refl)

    -- ---- a place gets another login, or loses its own
    disables : (place : ℕ) (s t : Scene) (d : Desk) → t.node.desks ≡ slice_set s.node.desks place d → own t ≡ own s → d.agent ≡ (desk_at s.node place).agent → d.is_enabled ≡ false → EndsNone s.outbox t.outbox → Eases s → Eases t
    disables place s t d desks same agent disabled told f =
        let work = ap (λ m. is_at_work m.phase) agent in
        let left = ap (λ m. desk_left (tables place) (chunks place) (record d { agent = m })) agent in
        let off = ap bit disabled in
        on s t f
        (seated tables chunks s t place d 0 f.size desks (omega (arith, same, left, off)) (λ e. sym work ∙ e) (λ e. or_left (is_at_work d.agent.phase) (was_cut place t) (work ∙ e)) told)

    leaves : (place login : ℕ) (s : Scene) → Eases s → Eases (logged_out place login s)
    leaves place login s f = disables place s (logged_out place login s) (record (desk_at s.node place) { is_enabled = false }) refl refl refl refl (one_side s.outbox (sides.Left login) (λ p. refl)) f

    enters : (place : ℕ) (replaced : Option ℕ) (s : Scene) → Eases s → Eases (scene (fresh_desk place s.node) (tell_left replaced s.outbox))
    enters place replaced s f =
        let t = scene (fresh_desk place s.node) (tell_left replaced s.outbox) in
        let packets = ap requests (left_packets replaced s.outbox) in
        disables place s t (record (desk_at s.node place) { pointer = None; is_enabled = false }) refl (omega (arith, packets)) refl refl (left_sides replaced s.outbox) f

    aborts : (place orb : ℕ) (s : Scene) → Eases s → Eases (scene (with_agent s.node place (abort_step (desk_at s.node place).agent orb)) s.outbox)
    unfolding abort_step
    aborts place orb s f =
        let m = (desk_at s.node place).agent in
        let t = scene (with_agent s.node place (abort_step m orb)) s.outbox in
        let less = aborts_make_nothing (tables place) (chunks place) m orb in
        let left = less.requests in
        let marks = less.marks in
        on s t f
        (seated tables chunks s t place (record (desk_at s.node place) { agent = abort_step m orb }) 0 f.size refl (omega (arith, left, marks)) (λ e. e) (λ e. or_left (is_at_work m.phase) (was_cut place t) e) (silent s.outbox))

    -- ---- all effects
    affects : (effect : Effect) (login : ℕ) (s : Scene) → Eases s → Eases (effect_by effect login s)
    affects effects.Nothing login s f = f
    affects (effects.Entered place replaced) login s f = enters place replaced s f
    affects (effects.Back place) login s f = tells_on s (scene s.node (with_side s.outbox (sides.Back login))) refl refl (one_side s.outbox (sides.Back login) (λ p. refl)) f
    affects (effects.Left place) login s f = leaves place login (cut_placed (place_in place) cuts.Logout s) (cuts_placed (place_in place) cuts.Logout s f)
    affects (effects.Abort place orb) login s f = aborts place orb s f
    affects (effects.AbortSet place) login s f = cuts_placed (place_in place) cuts.AbortSet s f
    affects (effects.UnitReset unit) login s f =
        let t = cut_all cuts.UnitReset (Some unit) s in
        let g = cuts_all cuts.UnitReset (Some unit) s f in
        either (nat_lt unit (length t.node.units)) (clear_unit unit t) t (clears unit t g) g
    affects effects.TargetReset login s f = let t = cut_all cuts.TargetReset None s in clears_from (length t.node.units) 0 t (cuts_all cuts.TargetReset None s f)

    pub decides : (d : Option Decision) (effect : Effect) (source : ℕ) (s : Scene) → Eases s → Eases (decided_by d effect source s)
    unfolding decided_by
    decides None effect source s f = f
    decides (Some d) effect source s f =
        let t = effect_by effect d.subject s in
        tells_on t (scene t.node (tell_managed source d t.outbox)) refl refl (one_side t.outbox (sides.Managed source d.function d.subject d.status d.login) (λ p. refl)) (affects effect d.subject s f)
