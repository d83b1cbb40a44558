-- In every run an agent that waits for more of its ORB has it marked where an abort of it stands before: at the beginning of each turn.
use Rattle.std.proofs.Common.{◌≡◌, ◌∙◌, ◌⊎◌, inl, inr, refl, sym, ap, subst, ℕ, ◌^◌, ◌%◌, ◌==◌, ◌&&◌, ◌||◌, Bool, true, false, cond, List, [], ◌∷◌, ◌++◌, Option, Some, None}
use Rattle.std.specs.Prelude.{slice_set}
use Rattle.login_table.specs.Sound.{IsTable}
use Rattle.mgmt_agent.specs.Statuses.{function_of}
use Rattle.mgmt_agent.specs.Machine as manager
use Rattle.mgmt_agent.specs.declared.decision.Decision.{Decision}
use Rattle.mgmt_agent.specs.declared.decision.Effect.{Effect}
use Rattle.mgmt_agent.specs.declared.decision.Effect.TheVariants as effects
use Rattle.mgmt_agent.specs.declared.decision.ManagerStep.{ManagerStep}
use Rattle.login_table.specs.Table.{Table}
use Rattle.login_table.specs.declared.login.Login.{Login}
use Rattle.orb_layout.specs.Replies.{Answer}
use Rattle.rbc_disk.specs.Disk.{Disk}
use Rattle.command_agent.specs.Machine.{aligned, awaits_run}
use Rattle.command_agent.specs.Steps.{abort_step}
use Rattle.sbp_journal.specs.Run.{Moment, asked, said}
use Rattle.sbp_journal.specs.declared.event.Event.{Event}
use Rattle.sbp_journal.specs.declared.note.Note.{Note}
use Rattle.sbp_journal.specs.declared.note.Note.TheVariants as notes
use Rattle.sbp_journal.specs.declared.operation.FunctionWord.{FunctionWord}
use Rattle.sbp_journal.specs.declared.operation.FunctionWord.TheVariants as words
use Rattle.sbp_laws.specs.Aborts.{aborts, is_aborted, is_unrun}
use Rattle.sbp_laws.specs.ActionLaw.{InOrder, Ordered, OrdersTurn}
use Rattle.sbp_laws.specs.Agents.{Event as AgentEvent, target_before, wire_before, agent_event, nothing}
use Rattle.sbp_laws.specs.Deliveries.{is_run_note, is_taken_note, once_told}
use Rattle.sbp_laws.specs.MediaLaw.{is_push_note, is_told_note}
use Rattle.sbp_journal.specs.declared.cause.CutCause.TheVariants as cuts
use Rattle.sbp_laws.specs.LoginLaw.{HasLogins, is_decision_note, is_login_note}
use Rattle.sbp_laws.specs.Management.{cleared_by, cuts_by_effect, cuts_by_event, cuts_where, decided_in, decided_note, effect_in, login_if, manager_turn, operator_of, word_by, effect_of, moved_logins}
use Rattle.sbp_laws.specs.NoteKinds.{is_cleared_note, is_cut_note, of_kind, is_failure_note, is_end_note, is_operation_note}
use Rattle.sbp_laws.specs.Targets.{Agent, Target, agent_at, decided_by, effect_on, for_manager, keep_decided, manager_step, new_agent, target_at}
use Rattle.sbp_laws.specs.Turns.{EachTurn, EachTurnBefore, Turn, effects_of, sends_of, turn}
use Rattle.sbp_laws.proofs.Going.{going_still}
use Rattle.sbp_world.proofs.Lists.MainAnswers.{manages_by}
use Rattle.sbp_world.proofs.Common.{and_first, and_second, equal, same_number, untrue}
use Rattle.sbp_world.proofs.Lists.OrbSteps.{yes}
use Rattle.turn_laws.specs.Cleared.{ClearsWhereDue}
use Rattle.turn_laws.specs.Cuts.{CutsWhereDue}
use Rattle.turn_laws.proofs.AbortFacts.{Done, reply_is}
use Rattle.turn_laws.proofs.AbortHistory.{All, AreMarked, Marked, keeps_over, mark_step, replied_keeps, steps}
use Rattle.turn_laws.proofs.AbortTurns.{AllFit, IsFirst, IsNoAbort, Manages, all_fit, first, manages, none_fit, others, rest_marked, First}
use Rattle.sbp_world.proofs.Lists.AgentFolds.{SetAgent, at_place, is_it, is_none, is_other, new_there, set_agent}
use Rattle.turn_laws.proofs.DecisionEffects.{Fits, FitsBy, reply_fits}
use Rattle.turn_laws.proofs.Handed.{AllInner}
use Rattle.turn_laws.proofs.PresentOrbs.{told_one}
use Rattle.sbp_world.proofs.Wire.Kept.{and_false}

pub record TurnFacts (start : List Disk) (t : Turn) : Type 0 where
  pub inner : AllInner t.rest
  pub logins : HasLogins start t
  pub cuts : CutsWhereDue start t
  pub cleared : ClearsWhereDue start t
  pub ordered : Ordered t
  pub table : IsTable (target_before start t).table ⊎ ((line : ℕ) × ((event : Event) × (t.start ≡ asked line event)))

-- ---- truth values
mixed : (al u x ab hit : Bool) → x ≡ (u && ab) → (u ≡ true → al ≡ hit) → ((al && u) || x) ≡ (u && (ab || hit))
mixed al true x ab hit e f = ap (λ y. (al && true) || y) e ∙ (ap (λ y. (y && true) || ab) (f refl) ∙ by hit ab)
  where
    by : (h b : Bool) → ((h && true) || b) ≡ (b || h)
    by true true = refl
    by true false = refl
    by false true = refl
    by false false = refl
mixed al false x ab hit e f = ap (λ y. (al && false) || y) e ∙ ap (λ y. y || false) (and_false al)

nothing_marked : (x d c : Bool) → ((x && (c && false)) || (d && (c && false))) ≡ ((c && false) && false)
nothing_marked x d c =
    ap (λ y. (x && y) || (d && y)) (and_false c) ∙ (ap (λ y. y || (d && false)) (and_false x) ∙ (and_false d ∙ sym (and_false (c && false))))

-- ---- an agent that an abort may mark
abbrev pub flagged : ℕ → Agent → Agent
flagged orb a = record a { machine = abort_step a.machine orb }

pub flag_unrun : (orb : ℕ) (a : Agent) (address : ℕ) → is_unrun (flagged orb a) address ≡ is_unrun a address
unfolding abort_step
flag_unrun orb a address = refl

flag_aborted : (orb : ℕ) (a : Agent) → (flagged orb a).machine.aborted ≡ (a.machine.aborted || (awaits_run a.machine.phase && (a.machine.present == aligned orb)))
unfolding abort_step
flag_aborted orb a = refl

same_tail : (x : Note) (p q : List Note) → x ∷ p ≡ x ∷ q → p ≡ q
same_tail x p q e = cc

same_either : (a b : ℕ) → (a == b) ≡ (b == a)
same_either a b = by (a == b) (b == a) refl refl
  where
    by : (x y : Bool) → (a == b) ≡ x → (b == a) ≡ y → x ≡ y
    by true true e f = refl
    by false false e f = refl
    by true false e f = yes (sym (subst (λ n. (n == a) ≡ true) (equal a b e) (same_number a)) ∙ f)
    by false true e f = untrue (sym e ∙ subst (λ n. (n == b) ≡ true) (equal b a f) (same_number b))

-- ---- kinds among the effects
module _ (kind : Note → Bool) (blind : (serial generation from to : ℕ) (bytes : List ℕ) → kind (notes.Sent serial generation from to bytes) ≡ false) where
  one_not : (note : Note) (rest : List Note) → of_kind kind (effects_of rest) ≡ of_kind kind rest → of_kind kind (effects_of (note ∷ rest)) ≡ of_kind kind (note ∷ rest)
  one_not (notes.Sent serial generation from to bytes) rest again =
      again ∙ ap (λ b. cond b (notes.Sent serial generation from to bytes ∷ of_kind kind rest) (of_kind kind rest)) (sym (blind serial generation from to bytes))
  one_not note rest again = ap (λ ns. cond (kind note) (note ∷ ns) ns) again

  not_sent : (rest : List Note) → of_kind kind (effects_of rest) ≡ of_kind kind rest
  not_sent [] = refl
  not_sent (note ∷ rest) = one_not note rest (not_sent rest)

-- ---- which effects are an abort
abort_fits : {X : Type 0} (places : List (Option Login)) (subject : ℕ) (effect : Effect) → Fits places words.Abort subject effect → ((place orb : ℕ) → effect ≡ effects.Abort place orb → X) → X
abort_fits places subject effects.Nothing f g = absurd f
abort_fits places subject (effects.Entered place replaced) f g = absurd (let no : words.Abort ≡ words.Login = f in cc)
abort_fits places subject (effects.Back place) f g = absurd (let no : words.Abort ≡ words.Reconnect = f in cc)
abort_fits places subject (effects.Left place) f g = absurd (let no : words.Abort ≡ words.Logout = f in cc)
abort_fits places subject (effects.Abort place orb) f g = g place orb refl
abort_fits places subject (effects.AbortSet place) f g = absurd (let no : words.Abort ≡ words.AbortSet = f.0 in cc)
abort_fits places subject (effects.UnitReset unit) f g = absurd (let no : words.Abort ≡ words.UnitReset = f.0 in cc)
abort_fits places subject effects.TargetReset f g = absurd (let no : words.Abort ≡ words.TargetReset = f in cc)

pub data AbortOr (effect : Effect) : Type 0 where
  is_abort : (place orb : ℕ) → effect ≡ effects.Abort place orb → AbortOr effect
  no_abort : ((place orb : ℕ) → effect ≡ effects.Abort place orb → ⊥) → AbortOr effect

pub abort_or : (effect : Effect) → AbortOr effect
abort_or (effects.Abort place orb) = is_abort place orb refl
abort_or effects.Nothing = no_abort (λ p o e. cc)
abort_or (effects.Entered place replaced) = no_abort (λ p o e. cc)
abort_or (effects.Back place) = no_abort (λ p o e. cc)
abort_or (effects.Left place) = no_abort (λ p o e. cc)
abort_or (effects.AbortSet place) = no_abort (λ p o e. cc)
abort_or (effects.UnitReset unit) = no_abort (λ p o e. cc)
abort_or effects.TargetReset = no_abort (λ p o e. cc)

module _ (start : List Disk) (t : Turn) (f : TurnFacts start t) (h : AreMarked start t.past) (answer : Answer) (M : Manages start t.past t.start answer) (table : IsTable (target_before start t).table) where
  abbrev T : Target
  T = target_before start t

  abbrev pub s : ManagerStep × (manager.Machine × Table)
  s = manager_step T answer

  abbrev i : ℕ
  i = operator_of T t

  decisions : of_kind is_decision_note t.rest ≡ decided_note i s.0.decided
  decisions = f.logins.decisions ∙ ap (λ c. decided_in i (manager_turn c T)) M.call

  -- ---- no ORB is aborted
  module _ (n : (place orb : ℕ) → s.0.effect ≡ effects.Abort place orb → ⊥) where
    decided_not : (x : Option Decision) → FitsBy T.table.places x s.0.effect → IsNoAbort x
    decided_not None fits = tt
    decided_not (Some d) fits = λ w. by (d.status == 0) refl w
      where
        by : (b : Bool) → (d.status == 0) ≡ b → word_by (function_of d.function) ≡ words.Abort → b ≡ false
        by false e w = refl
        by true e w =
            abort_fits T.table.places d.subject s.0.effect
            (subst (λ v. Fits T.table.places v d.subject s.0.effect) (ap (λ b. cond b (word_by (function_of d.function)) words.Other) e ∙ w) fits) (λ place orb g. absurd (n place orb g))

    now_keeps : All (target_at start t.past) (target_at start (t.start ∷ t.past))
    now_keeps = subst (All (target_at start t.past)) (sym M.now) (replied_keeps (target_at start t.past) for_manager answer (λ e. n))

    pub kept_fit : AllFit t.rest
    kept_fit = all_fit t.rest i s.0.decided (decided_not s.0.decided (reply_fits T.manager T.table table.sound T.keys answer)) decisions

    pub kept_turn : AreMarked start (once_told (t.start ∷ t.past) t.rest)
    kept_turn =
        rest_marked start t.rest (t.start ∷ t.past) f.inner kept_fit
        (inl (ap (λ (x : Target). x.reply) M.now ∙ (manages_by s answer T ∙ (keeps_over (target_at start t.past)).none)))
        (λ q address. subst (λ d. Marked d (agent_at (target_at start (t.start ∷ t.past)) q) address) (sym (M.on q address)) (steps start t.past (target_at start (t.start ∷ t.past)) h now_keeps q address))

  -- ---- an ORB is aborted
  module _ (place orb : ℕ) (e : s.0.effect ≡ effects.Abort place orb) where
    pub d : Done T.table table T.keys T.manager.operation answer s.0 place orb
    d = reply_is T.table table T.keys T.manager answer place orb e

    abbrev pub word : FunctionWord
    word = word_by (function_of d.decision.function)

    abbrev pub note_as : FunctionWord → Note
    note_as w = notes.Managed i w d.decision.subject d.decision.status (login_if word d.decision.status d.decision.login)

    one : of_kind is_decision_note t.rest ≡ note_as word ∷ []
    one = decisions ∙ ap (decided_note i) d.told

    effect_is : effect_of T t ≡ effects.Abort place orb
    effect_is = ap (λ c. effect_in (manager_turn c T)) M.call ∙ e

    abbrev cuts_so : Bool → AgentEvent → Effect → List Note
    cuts_so b event effect =
        cond b (cuts_where start t.past (wire_before t) T cuts.Reset (λ place. true)) (cuts_by_event start event t.past (wire_before t) T ++ cuts_by_effect start t.past (wire_before t) T effect)

    no_cuts : of_kind is_cut_note t.rest ≡ []
    no_cuts = f.cuts ∙ (ap (λ b. cuts_so b (agent_event start t) (effect_of T t)) M.sees ∙ (ap (λ ev. cuts_so false ev (effect_of T t)) M.event ∙ ap (λ x. cuts_so false nothing x) effect_is))

    no_cleared : of_kind is_cleared_note t.rest ≡ []
    no_cleared = f.cleared ∙ ap (λ x. cleared_by T x) effect_is

    no_logins : of_kind is_login_note t.rest ≡ []
    no_logins = f.logins.logins ∙ (M.moves (effect_of T t) ∙ ap (λ x. moved_logins T x) effect_is)

    order : InOrder t
    order = subst (λ m. OrdersTurn m t) M.is f.ordered

    abbrev E : List Note
    E = effects_of t.rest

    abbrev joined : (a b c dd : List Note) → List Note
    joined a b c dd =
        a ++ b ++ c ++ dd ++ of_kind is_failure_note E ++ of_kind is_run_note E ++ of_kind is_end_note E ++ of_kind is_push_note E ++ of_kind is_told_note E ++ of_kind is_taken_note E
        ++ of_kind is_operation_note E

    abbrev behind : List Note
    behind =
        [] ++ of_kind is_failure_note E ++ of_kind is_run_note E ++ of_kind is_end_note E ++ of_kind is_push_note E ++ of_kind is_told_note E ++ of_kind is_taken_note E
        ++ of_kind is_operation_note E

    effects_are : E ≡ note_as word ∷ behind
    effects_are =
        order.effects
        ∙ (ap (λ x. joined x (of_kind is_cleared_note E) (of_kind is_login_note E) (of_kind is_decision_note E)) (not_sent is_cut_note (λ serial g from to bytes. refl) t.rest ∙ no_cuts)
        ∙ (ap (λ x. joined [] x (of_kind is_login_note E) (of_kind is_decision_note E)) (not_sent is_cleared_note (λ serial g from to bytes. refl) t.rest ∙ no_cleared)
        ∙ (ap (λ x. joined [] [] x (of_kind is_decision_note E)) (not_sent is_login_note (λ serial g from to bytes. refl) t.rest ∙ no_logins)
        ∙ ap (λ x. joined [] [] [] x) (not_sent is_decision_note (λ serial g from to bytes. refl) t.rest ∙ one))))

    abbrev pub more : List Note
    more = behind ++ sends_of t.rest

    pub rest_is : t.rest ≡ note_as word ∷ more
    rest_is = order.first ∙ ap (λ es. es ++ sends_of t.rest) effects_are

    -- the agents then
    abbrev base : Target
    base = record T { manager = s.1.0; manages = None; manager_asks = s.0.ask; decided = keep_decided s.0.decided (decided_by T.manager.operation answer) T.decided }

    abbrev pub N : Target
    N = effect_on (effects.Abort place orb) base

    pub now_is : target_at start (t.start ∷ t.past) ≡ N
    now_is = M.now ∙ ap (λ x. effect_on x base) e

    pub decided_is : N.decided ≡ Some d.decided
    decided_is = ap (λ x. keep_decided x (decided_by T.manager.operation answer) T.decided) d.told ∙ d.brought

    module _ (address : ℕ) where
      abbrev al : Bool
      al = aligned (d.decided.orb.first % 2 ^ 48) == address

      abbrev D : ℕ → Bool
      D q = is_aborted start t.past q address

      abbrev Goal : ℕ → Agent → Type 0
      Goal q a = Marked ((((place == q) && al) && is_unrun a address) || (D q && is_unrun a address)) a address

      others_marked : (q : ℕ) → (place == q) ≡ false → Goal q (agent_at T q)
      others_marked q g =
          let b = agent_at T q in
          ap (λ z. ((z && al) && is_unrun b address) || (D q && is_unrun b address)) g ∙ mark_step (D q) (agent_at (target_at start t.past) q) b address (h q address)
          ((keeps_over (target_at start t.past)).agents q)

      it_marked : Goal place (flagged orb (agent_at T place))
      it_marked =
          let b = agent_at T place in
          let x = mark_step (D place) (agent_at (target_at start t.past) place) b address (h place address) ((keeps_over (target_at start t.past)).agents place) in
          ap (λ z. ((z && al) && is_unrun (flagged orb b) address) || (D place && is_unrun (flagged orb b) address)) (same_number place)
          ∙ (ap (λ u. (al && u) || (D place && u)) (flag_unrun orb b address)
          ∙ (mixed al (is_unrun b address) (D place && is_unrun b address) b.machine.aborted (awaits_run b.machine.phase && (b.machine.present == aligned orb)) x (hits b)
          ∙ sym (ap (λ u. u && (flagged orb b).machine.aborted) (flag_unrun orb b address) ∙ ap (λ y. is_unrun b address && y) (flag_aborted orb b))))
        where
          hits : (b : Agent) → is_unrun b address ≡ true → al ≡ (awaits_run b.machine.phase && (b.machine.present == aligned orb))
          hits b u =
              let at = equal b.machine.present address (and_first (b.machine.present == address) (awaits_run b.machine.phase) u) in
              ap (λ n. aligned n == address) (sym d.a_is)
              ∙ (same_either (aligned orb) address
              ∙ (ap (λ n. n == aligned orb) (sym at) ∙ sym (ap (λ w. w && (b.machine.present == aligned orb)) (and_second (b.machine.present == address) (awaits_run b.machine.phase) u))))

      none_marked : (q : ℕ) → Goal q new_agent
      none_marked q = nothing_marked ((place == q) && al) (D q) (0 == address)

      agent_marked : (q : ℕ) → Goal q (agent_at N q)
      agent_marked q = by (set_agent T.agents place (flagged orb (agent_at T place)) q)
        where
          by : SetAgent T.agents place (flagged orb (agent_at T place)) q → Goal q (at_place (slice_set T.agents place (flagged orb (agent_at T place))) q)
          by (is_it g at) = subst (Goal q) (sym at) (subst (λ n. Goal n (flagged orb (agent_at T place))) (sym g) it_marked)
          by (is_other g at) = subst (Goal q) (sym at) (others_marked q g)
          by (is_none at none) = subst (Goal q) (sym at) (none_marked q)

      abbrev Then : ℕ → Target → Type 0
      Then q x = Marked (((d.decision.status == 0) && aborts x q address x.decided) || (D q && is_unrun (agent_at x q) address)) (agent_at x q) address

      then_marked : (q : ℕ) → Then q N
      then_marked q =
          let u = is_unrun (agent_at N q) address in
          ap (λ z. z || (D q && u))
          (ap (λ z. z && aborts N q address N.decided) d.zero_is ∙ (ap (λ x. aborts N q address x) decided_is ∙ ap (λ z. (z && al) && u) (d.id_is q)))
          ∙ agent_marked q

    abbrev pub now : List Moment
    now = t.start ∷ t.past

    none_waits : (target_at start now).reply ≡ None
    none_waits = ap (λ (x : Target). x.reply) M.now ∙ (manages_by s answer T ∙ (keeps_over (target_at start t.past)).none)

    noted_abort : AreMarked start (said (note_as words.Abort) ∷ now)
    noted_abort q address =
        let t1 = target_at start now in
        let so = subst (Then address q) (sym now_is) (then_marked address q) in
        let on = subst (λ z. Marked (((d.decision.status == 0) && aborts t1 q address t1.decided) || z) (agent_at t1 q) address) (sym (M.on q address)) so in
        subst (λ (x : Target). Marked (((d.decision.status == 0) && aborts t1 q address t1.decided) || is_aborted start now q address) (agent_at x q) address)
        (sym (going_still (note_as words.Abort) t1 none_waits)) on

    pub none_more : of_kind is_decision_note more ≡ []
    none_more = same_tail (note_as word) (of_kind is_decision_note more) [] (sym (ap (of_kind is_decision_note) rest_is) ∙ one)

    pub abort_turn : AreMarked start (once_told now t.rest)
    abort_turn =
        let none = none_fit more none_more in
        subst (λ ns. AreMarked start (once_told now ns)) (sym rest_is)
        (subst (AreMarked start) (sym (told_one (note_as word) more now))
        (rest_marked start more (said (note_as word) ∷ now) (subst AllInner rest_is f.inner).1 none.0 (inr none.1) (subst (λ w. AreMarked start (said (note_as w) ∷ now)) (sym d.word_is) noted_abort)))

  pub managed_turn : AreMarked start (once_told (t.start ∷ t.past) t.rest)
  managed_turn = by (abort_or s.0.effect)
    where
      by : AbortOr s.0.effect → AreMarked start (once_told (t.start ∷ t.past) t.rest)
      by (is_abort place orb e) = abort_turn place orb e
      by (no_abort n) = kept_turn n

-- ---- each turn
turn_marked : (start : List Disk) (t : Turn) → TurnFacts start t → IsFirst t.start → AreMarked start t.past → AreMarked start (once_told (t.start ∷ t.past) t.rest)
turn_marked start t f is h = by (first start t.past t.start is) f.table
  where
    by : First start t.past t.start → (IsTable (target_before start t).table ⊎ ((line : ℕ) × ((event : Event) × (t.start ≡ asked line event)))) → AreMarked start (once_told (t.start ∷ t.past) t.rest)
    by (manages answer M) (inl table) = managed_turn start t f h answer M table
    by (manages answer M) (inr x) = absurd (let no : asked x.0 x.1.0 ≡ said M.note = sym x.1.1 ∙ M.is in cc)
    by (others quiet marks) x =
        let none = none_fit t.rest (f.logins.decisions ∙ quiet (operator_of (target_before start t) t)) in rest_marked start t.rest (t.start ∷ t.past) f.inner none.0 (inr none.1) (marks h)

-- a history that a line begins
abbrev pub IsRooted : List Moment → Type 0
IsRooted [] = ⊥
IsRooted (asked line event ∷ []) = Unit {0}
IsRooted (moment ∷ past) = IsRooted past

abbrev pub Root : List Moment → List Note → Type 0
Root [] [] = Unit {0}
Root [] (note ∷ rest) = ⊥
Root (moment ∷ past) rest = IsRooted (moment ∷ past)

pub asked_root : (line : ℕ) (event : Event) (past : List Moment) → IsRooted (asked line event ∷ past) → Root past []
asked_root line event [] r = tt
asked_root line event (moment ∷ past) r = r

pub said_root : (note : Note) (past : List Moment) (rest : List Note) → IsRooted (said note ∷ past) → Root past rest
said_root note [] rest r = absurd r
said_root note (moment ∷ past) rest r = r

abbrev pub MarkedBefore : List Disk → Turn → Type 0
MarkedBefore start t = AreMarked start t.past

module _ (start : List Disk) where
  none_first : AreMarked start []
  none_first q address = sym (ap (λ (a : Agent). is_unrun a address && a.machine.aborted) (new_there 8 q) ∙ and_false ((0 == address) && false))

  each : (past : List Moment) (rest : List Note) → Root past rest → EachTurnBefore (TurnFacts start) past rest → AreMarked start (once_told past rest) × EachTurnBefore (MarkedBefore start) past rest
  each [] [] r e = (none_first, tt)
  each [] (note ∷ rest) r e = absurd r
  each (asked line event ∷ past) rest r e = let b = each past [] (asked_root line event past r) e.1 in (turn_marked start (turn past (asked line event) rest) e.0 tt b.0, (b.0, b.1))
  each (said (notes.Got serial) ∷ past) rest r e =
      let n = notes.Got serial in let b = each past [] (said_root n past [] r) e.1 in (turn_marked start (turn past (said n) rest) e.0 tt b.0, (b.0, b.1))
  each (said (notes.Ignored serial cause) ∷ past) rest r e =
      let n = notes.Ignored serial cause in let b = each past [] (said_root n past [] r) e.1 in (turn_marked start (turn past (said n) rest) e.0 tt b.0, (b.0, b.1))
  each (said (notes.TimedOut serial) ∷ past) rest r e =
      let n = notes.TimedOut serial in let b = each past [] (said_root n past [] r) e.1 in (turn_marked start (turn past (said n) rest) e.0 tt b.0, (b.0, b.1))
  each (said (notes.Seen node generation) ∷ past) rest r e =
      let n = notes.Seen node generation in let b = each past [] (said_root n past [] r) e.1 in (turn_marked start (turn past (said n) rest) e.0 tt b.0, (b.0, b.1))
  each (said notes.Tick ∷ past) rest r e = let b = each past [] (said_root notes.Tick past [] r) e.1 in (turn_marked start (turn past (said notes.Tick) rest) e.0 tt b.0, (b.0, b.1))
  each (said notes.Settled ∷ past) rest r e = let b = each past [] (said_root notes.Settled past [] r) e.1 in (turn_marked start (turn past (said notes.Settled) rest) e.0 tt b.0, (b.0, b.1))
  each (said notes.Stopped ∷ past) rest r e = let b = each past [] (said_root notes.Stopped past [] r) e.1 in (turn_marked start (turn past (said notes.Stopped) rest) e.0 tt b.0, (b.0, b.1))
  each (said note ∷ past) rest r e =
      let b = each past (note ∷ rest) (said_root note past (note ∷ rest) r) e in (subst (AreMarked start) (told_one note rest past) b.0, b.1)

pub root_of : (past : List Moment) → IsRooted past → Root past []
root_of [] r = absurd r
root_of (moment ∷ past) r = r

pub each_marked : (start : List Disk) (past : List Moment) → IsRooted past → EachTurn (TurnFacts start) past → EachTurn (MarkedBefore start) past
each_marked start past r e = (each start past [] (root_of past r) e).1

pub all_marked : (start : List Disk) (past : List Moment) → IsRooted past → EachTurn (TurnFacts start) past → AreMarked start past
all_marked start past r e = (each start past [] (root_of past r) e).0
