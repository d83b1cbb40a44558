-- Over a turn of a run an abort that stands before it and behind it is known behind it where it was known before: its initiator, and the name of its ORB; and an initiator that acts has an agent that waits.
use Rattle.std.proofs.Common.{◌≡◌, ◌∙◌, refl, sym, ap, subst, ◌<◌, ◌+◌, ℕ, ◌==◌, true, false, List, [], ◌∷◌, ◌++◌, map, Option, Some, None}
use Rattle.command_agent.specs.Machine.{awaits_run, state_in}
use Rattle.command_agent.specs.Steps.{is_reset}
use Rattle.rbc_disk.specs.Disk.{Disk}
use Rattle.sbp_initiator.specs.Acting.{act_step}
use Rattle.sbp_initiator.specs.Effects.{Turn}
use Rattle.sbp_journal.specs.Outgoings.{empty_outbox}
use Rattle.sbp_journal.specs.Run.{Moment, asked, said}
use Rattle.sbp_journal.specs.declared.event.Action.{Action}
use Rattle.sbp_journal.specs.declared.event.Event.TheVariants as events
use Rattle.sbp_journal.specs.declared.note.Note.{Note}
use Rattle.sbp_journal.specs.declared.note.Note.TheVariants as notes
use Rattle.sbp_journal.specs.declared.event.Event.{Event}
use Rattle.sbp_laws.specs.Aborts.{is_aborted, is_unrun}
use Rattle.sbp_laws.specs.LoginLaw.{is_decision_note}
use Rattle.sbp_laws.specs.Targets.{agent_at, target_at}
use Rattle.sbp_world.specs.Lines.{acted, acted_by, happens, weight_in}
use Rattle.sbp_world.specs.Lists.FewLogins.{IsTameOrFew}
use Rattle.sbp_world.specs.Lists.Needs.{IsCalm, initiator_in, machine_at}
use Rattle.sbp_world.specs.Worlds.{Scene, WorldState, initiator_at, with_initiator, without_notes}
use Rattle.sbp_world.proofs.Agents.Management.Holding.{Holding}
use Rattle.sbp_world.proofs.Agents.Management.Still.{hist}
use Rattle.sbp_world.proofs.Common.{and_first, and_second, equal}
use Rattle.sbp_world.proofs.Formed.{AreOwn}
use Rattle.sbp_world.proofs.InitiatorForms as own
use Rattle.sbp_world.proofs.Lists.Calm.{calm_before}
use Rattle.sbp_world.proofs.Lists.Courses.{Goes}
use Rattle.sbp_world.proofs.Lists.Judging.{Grown}
use Rattle.sbp_world.proofs.Lists.Sites.{Site}
use Rattle.sbp_world.proofs.Lists.StillTurns.{Ground, site_at}
use Rattle.turn_laws.proofs.AbortHistory.{AreMarked}
use Rattle.turn_laws.proofs.AbortKept.{IsActing, WaitsFor, acting, goes_on, known_kept, owner}
use Rattle.turn_laws.proofs.AbortNamed.{awaits_open}
use Rattle.turn_laws.proofs.AbortSince.{IsKnown}
use Rattle.turn_laws.proofs.AbortTurns.{NoneManaged, none_fit}
use Rattle.turn_laws.proofs.AbortUp.{aborted_up}
use Rattle.turn_laws.proofs.DecisionNotes.{decision_kind, no_own}
use Rattle.turn_laws.proofs.Handed.{handed, handed_fresh, onto}
use Rattle.turn_laws.proofs.KindNotes.{own_handed}

-- an agent that has an ORB aborted behind a line as it begins waits for more of it
asked_waits : (units ready : ℕ) (has : 0 < units) (start : List Disk) (past : List Moment) (w : WorldState) → Site start past w → (line : ℕ) (event : Event) (p address : ℕ) → p < 8 → is_aborted start (asked line event ∷ hist past w) p address ≡ true → IsCalm (hist past w) (initiator_in w p)
    → WaitsFor units ready has start (hist past w) w p address
asked_waits units ready has start past w site line event p address b e calm =
    let ms = hist past w in
    let a = agent_at (target_at start (asked line event ∷ ms)) p in
    let unrun : is_unrun a address ≡ true = and_second (is_aborted start ms p address) (is_unrun a address) e in
    let alike = (site.agents.are.each p b).machine in
    let waits : awaits_run (machine_at w p).phase ≡ true = ap awaits_run (sym alike.phase) ∙ and_second (a.machine.present == address) (awaits_run a.machine.phase) unrun in
    record {
      waits = waits;
      present = sym (alike.present (awaits_open (machine_at w p).phase waits)) ∙ equal a.machine.present address (and_first (a.machine.present == address) (awaits_run a.machine.phase) unrun);
      calm = calm;
    }

-- in a line in which an initiator acts nothing is decided
onto_none : (rest old : List Note) → NoneManaged rest → NoneManaged old → NoneManaged (onto rest old)
onto_none [] old a b = b
onto_none (note ∷ rest) old a b = onto_none rest (note ∷ old) a.1 (a.0, b)

module _ (line i : ℕ) (action : Action) (w : WorldState) (none : NoneManaged w.fresh) where
  acts_none : (x : Option ℕ × Turn) → act_step action empty_outbox (initiator_at w i) ≡ x → NoneManaged (acted_by x line i action w).fresh
  acts_none (Some number, (outbox, state)) e = (tt, none)
  acts_none (None, (outbox, state)) e =
      let v = with_initiator i state w in
      let told : AreOwn outbox.sides = subst (λ (z : Option ℕ × Turn). own.At z.1) e (own.acts action empty_outbox (initiator_at w i) tt) in
      let rest = handed (i + 1) (weight_in action) outbox v in
      subst NoneManaged (sym (handed_fresh (i + 1) (weight_in action) outbox v))
      (onto_none rest w.fresh (none_fit rest (own_handed is_decision_note decision_kind no_own (i + 1) (weight_in action) outbox v told)).1 none)

  acted_none : NoneManaged (acted line i action w).fresh
  unfolding acted
  acted_none = acts_none (act_step action empty_outbox (initiator_at w i)) refl

none_within : (start : List Disk) (p address : ℕ) (past : List Moment) (ns : List Note) → NoneManaged ns → is_aborted start (map said ns ++ past) p address ≡ true → is_aborted start past p address ≡ true
none_within start p address past [] n e = e
none_within start p address past (notes.Managed i word subject status login ∷ ns) n e = absurd n.0
none_within start p address past (note ∷ ns) n e = none_within start p address past ns n.1 (and_first (is_aborted start (map said ns ++ past) p address) _ e)

module _ (units ready : ℕ) (has : 0 < units) (start : List Disk) where
  abbrev pub AreKnown : List Moment → WorldState → Type 0
  AreKnown past w = (p address : ℕ) → p < 8 → is_aborted start past p address ≡ true → IsCalm past (initiator_in w p) → IsKnown start p address past (initiator_in w p)

  module _ (past : List Moment) (s : Scene) (later : List Moment) (t : Scene) (g : Goes past s later t) {lines more : ℕ} (h : Holding units ready start past lines s.world) (h_now : Holding units ready start later more t.world) (q : Ground start (hist past s.world) s.world) (q_now : Ground start (hist later t.world) t.world) (beside : IsTameOrFew (hist past s.world)) (beside_now : IsTameOrFew (hist later t.world)) where
    abbrev before : List Moment
    before = hist past s.world

    abbrev behind : List Moment
    behind = hist later t.world

    pub acts_waiting : (p address : ℕ) → p < 8 → is_aborted start behind p address ≡ true → IsCalm before (initiator_in s.world p) → IsActing units ready has start past s later t → WaitsFor units ready has start before s.world p address
    unfolding happens
    acts_waiting p address b e calm (acting line i action told fit later_is t_is) =
        let event = events.Act i action in
        let fresh = t.world.fresh in
        let none : NoneManaged fresh = subst (λ (x : Scene). NoneManaged x.world.fresh) (sym t_is) (acted_none line i action (without_notes s.world) tt) in
        asked_waits units ready has start past s.world (site_at start past s.world q) line event p address b
        (subst (λ ms. is_aborted start ms p address ≡ true) later_is (none_within start p address later fresh none e)) calm

    -- an abort that stands before the turn and behind it is known behind it
    pub carried : AreMarked start behind → AreKnown before s.world → (p address : ℕ) → p < 8 → is_aborted start behind p address ≡ true → is_aborted start before p address ≡ true → IsCalm behind (initiator_in t.world p) → IsKnown start p address behind (initiator_in t.world p)
    carried marked known p address b e f calm = known_kept units ready has start past s later t g h h_now q q_now beside beside_now p address b up both (known p address b f calm_there)
      where
        up : is_reset (state_in (machine_at t.world p).phase) ≡ false
        up = aborted_up start later t.world (site_at start later t.world q_now) marked p address b e

        calm_there : IsCalm before (initiator_in s.world p)
        calm_there =
            let on : Grown before behind = goes_on units ready has start past s later t g h h_now q q_now beside beside_now in
            calm_before on.new before (initiator_in s.world p)
            (subst (λ ms. IsCalm ms (initiator_in s.world p)) (sym on.is)
            (subst (IsCalm behind) (owner units ready has start past s later t g h h_now q q_now beside beside_now p address b up) calm))

        both : IsActing units ready has start past s later t → WaitsFor units ready has start before s.world p address × IsCalm behind (initiator_in t.world p)
        both a = (acts_waiting p address b e calm_there a, calm)
