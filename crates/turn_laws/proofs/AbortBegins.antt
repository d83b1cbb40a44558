-- In a turn that decides on an abort: behind it the abort stands, of the initiator of the place and by the name of the ORB, where its management ORB names the very address.
use Rattle.std.proofs.Common.{◌≡◌, ◌∙◌, ◌⊎◌, inl, inr, refl, sym, ap, subst, ℕ, ◌^◌, ◌%◌, ◌==◌, ◌&&◌, ◌||◌, Bool, true, false, List, [], ◌∷◌, map, reverse, Some}
use Rattle.command_agent.specs.Machine.{aligned}
use Rattle.login_table.specs.Sound.{IsTable}
use Rattle.mgmt_agent.specs.Statuses.{function_of}
use Rattle.mgmt_agent.specs.declared.decision.Effect.TheVariants as effects
use Rattle.orb_layout.specs.Replies.{Answer}
use Rattle.rbc_disk.specs.Disk.{Disk}
use Rattle.sbp_journal.specs.Run.{Moment, asked, said}
use Rattle.sbp_journal.specs.declared.event.Event.{Event}
use Rattle.sbp_journal.specs.declared.note.Note.{Note}
use Rattle.sbp_journal.specs.declared.note.Note.TheVariants as notes
use Rattle.sbp_journal.specs.declared.operation.FunctionWord.{FunctionWord}
use Rattle.sbp_journal.specs.declared.operation.FunctionWord.TheVariants as words
use Rattle.sbp_laws.specs.Aborts.{aborts, aborts_at, is_aborted, is_unrun}
use Rattle.sbp_laws.specs.Agents.{target_before, wire_before}
use Rattle.sbp_laws.specs.CauseLaw.{abort_names}
use Rattle.sbp_laws.specs.Deliveries.{once_told}
use Rattle.sbp_laws.specs.Lists.{named}
use Rattle.sbp_laws.specs.Management.{operator, operator_for, operator_of}
use Rattle.sbp_laws.specs.Targets.{Decided, Target, agent_at, decided_by, has_id, initiator_at, login_at, target_at}
use Rattle.sbp_laws.specs.Turns.{Turn}
use Rattle.sbp_world.proofs.Common.{and_first, and_second, equal, untrue}
use Rattle.sbp_world.proofs.Lists.AgentFolds.{SetAgent, is_it, is_none, is_other, set_agent}
use Rattle.turn_laws.proofs.AbortFacts.{Done, abort_function}
use Rattle.turn_laws.proofs.AbortHistory.{AreMarked, IsAbort}
use Rattle.turn_laws.proofs.AbortPlaced.{IsExact}
use Rattle.turn_laws.proofs.AbortRuns.{AbortOr, N, TurnFacts, abort_or, d, decided_is, flag_unrun, flagged, is_abort, kept_fit, more, no_abort, none_more, note_as, now_is, rest_is, s, word}
use Rattle.turn_laws.proofs.AbortSince.{IsKnown, SinceAbort}
use Rattle.turn_laws.proofs.AbortTurns.{AllFit, First, IsFirst, Manages, first, manages, none_fit, others}
use Rattle.turn_laws.proofs.PresentOrbs.{told_one}

either : (a b : Bool) → (a || b) ≡ true → (a ≡ true) ⊎ (b ≡ true)
either true b e = inl refl
either false b e = inr e

-- ---- where none is decided with 00 it stands before
module _ (start : List Disk) (p address : ℕ) where
  abbrev Stands : List Moment → Type 0
  Stands past = is_aborted start past p address ≡ true

  not_good : (status : ℕ) (x r : Bool) → (status == 0) ≡ false → (((status == 0) && x) || r) ≡ true → r ≡ true
  not_good status x r f e = ap (λ b. (b && x) || r) (sym f) ∙ e

  one_fit : (note : Note) (past : List Moment) → IsAbort note → Stands (said note ∷ past) → Stands past
  one_fit (notes.Managed i words.Abort subject status login) past f e = not_good status (aborts (target_at start past) p address (target_at start past).decided) (is_aborted start past p address) f e
  one_fit note past f e = and_first (is_aborted start past p address) _ e

  fit_told : (rest : List Note) (past : List Moment) → AllFit rest → Stands (once_told past rest) → Stands past
  fit_told [] past f e = e
  fit_told (note ∷ rest) past f e = one_fit note past f.0 (fit_told rest (said note ∷ past) f.1 (subst Stands (told_one note rest past) e))

  first_fit : (moment : Moment) (past : List Moment) → IsFirst moment → Stands (moment ∷ past) → Stands past
  first_fit (asked line event) past f e = and_first (is_aborted start past p address) _ e
  first_fit (said (notes.Managed i function subject status login)) past f e = absurd f
  first_fit (said note) past f e = and_first (is_aborted start past p address) _ e

-- ---- what is to be known of a turn
module _ (start : List Disk) (t : Turn) (p address i : ℕ) where
  abbrev B : Target
  B = target_before start t

  abbrev now : List Moment
  now = t.start ∷ t.past

  abbrev behind : List Moment
  behind = once_told now t.rest

  pub record IsOwned : Type 0 where
    -- the place is of this initiator
    pub who : is_unrun (agent_at B p) address ≡ true → initiator_at B (wire_before t) p ≡ i
    -- what an answer brings for its operation names the very address
    pub exact : (answer : Answer) → Manages start t.past t.start answer → (decided : Decided) → decided_by B.manager.operation answer ≡ Some decided → operator (wire_before t) B.manager.operation ≡ i → IsExact decided.orb
    -- the name stays
    pub names : named behind i address ≡ named now i address
    -- and an abort that stands before the turn stands behind it
    pub before : is_aborted start t.past p address ≡ true → IsKnown start p address behind i

  module _ (f : TurnFacts start t) (h : AreMarked start t.past) (o : IsOwned) (is_first : IsFirst t.start) (stands : is_aborted start behind p address ≡ true) where
    earlier : is_aborted start now p address ≡ true → IsKnown start p address behind i
    earlier e = o.before (first_fit start p address t.start t.past is_first e)

    module _ (answer : Answer) (M : Manages start t.past t.start answer) (table : IsTable B.table) where
      module _ (place orb : ℕ) (e : (s start t f h answer M table).0.effect ≡ effects.Abort place orb) where
        abbrev there : Target
        there = N start t f h answer M table place orb e

        abbrev done : Done B.table table B.keys B.manager.operation answer (s start t f h answer M table).0 place orb
        done = d start t f h answer M table place orb e

        abbrev noted : FunctionWord → Note
        noted w = note_as start t f h answer M table place orb e w

        abbrev rest : List Note
        rest = more start t f h answer M table place orb e

        told_is : behind ≡ once_told (said (noted words.Abort) ∷ now) rest
        told_is =
            let word_as = word start t f h answer M table place orb e in
            ap (once_told now) (rest_is start t f h answer M table place orb e) ∙ (told_one (noted word_as) rest now ∙ ap (λ w. once_told (said (noted w) ∷ now) rest) done.word_is)

        decided_now : (target_at start now).decided ≡ Some done.decided
        decided_now = ap (λ (x : Target). x.decided) (now_is start t f h answer M table place orb e) ∙ decided_is start t f h answer M table place orb e

        module _ (a : aborts (target_at start now) p address (target_at start now).decided ≡ true) where
          abbrev has : Bool
          has = has_id done.decided.orb.subject (login_at there p)

          abbrev at : Bool
          at = aligned (done.decided.orb.first % 2 ^ 48) == address

          aborts_there : ((has && at) && is_unrun (agent_at there p) address) ≡ true
          aborts_there =
              subst (λ x. aborts there p address x ≡ true) (decided_is start t f h answer M table place orb e)
              (subst (λ (x : Target). aborts x p address x.decided ≡ true) (now_is start t f h answer M table place orb e) a)

          unrun_there : is_unrun (agent_at there p) address ≡ true
          unrun_there = and_second (has && at) (is_unrun (agent_at there p) address) aborts_there

          named_there : (has && at) ≡ true
          named_there = and_first (has && at) (is_unrun (agent_at there p) address) aborts_there

          unrun_before : is_unrun (agent_at B p) address ≡ true
          unrun_before = by (set_agent B.agents place (flagged orb (agent_at B place)) p)
            where
              by : SetAgent B.agents place (flagged orb (agent_at B place)) p → is_unrun (agent_at B p) address ≡ true
              by (is_it g x) =
                  subst (λ q. is_unrun (agent_at B q) address ≡ true) (sym g) (sym (flag_unrun orb (agent_at B place) address) ∙ (ap (λ y. is_unrun y address) (sym x) ∙ unrun_there))
              by (is_other g x) = ap (λ y. is_unrun y address) (sym x) ∙ unrun_there
              by (is_none x none) = untrue (and_second (0 == address) false (ap (λ y. is_unrun y address) (sym x) ∙ unrun_there))

          of_owner : initiator_at B (wire_before t) p ≡ operator_of B t
          of_owner = done.owner p (and_first has at named_there) (wire_before t) ∙ sym (ap (λ c. operator_for c (wire_before t) B) M.call)

          mine : operator_of B t ≡ i
          mine = sym of_owner ∙ o.who unrun_before

          exact_is : done.decided.orb.first % 2 ^ 48 ≡ address
          exact_is =
              let by_name = o.exact answer M done.decided done.brought (sym (ap (λ c. operator_for c (wire_before t) B) M.call) ∙ mine) (ap function_of (sym done.function_is) ∙ abort_function (function_of done.decision.function) done.word_is) in
              sym by_name ∙ equal (aligned (done.decided.orb.first % 2 ^ 48)) address (and_second has at named_there)

          abbrev since : SinceAbort start p address behind
          since = record {
            later = map said (reverse rest);
            before = now;
            i = operator_of B t;
            subject = done.decision.subject;
            status = done.decision.status;
            login = _;
            is = sym told_is;
            zero = done.zero_is;
            aborted = a;
          }

          abort_known : IsKnown start p address behind i
          abort_known = record {
            since = since;
            mine = mine;
            name_is = ap (abort_names now i) decided_now ∙ (ap (named now i) exact_is ∙ sym o.names);
          }

        decides : IsKnown start p address behind i
        decides =
            by
            (either (aborts_at start now p address done.decision.status) (is_aborted start now p address)
            (fit_told start p address rest (said (noted words.Abort) ∷ now) (none_fit rest (none_more start t f h answer M table place orb e)).0 (subst (λ ms. is_aborted start ms p address ≡ true) told_is stands)))
          where
            by : (aborts_at start now p address done.decision.status ≡ true) ⊎ (is_aborted start now p address ≡ true) → IsKnown start p address behind i
            by (inl a) = abort_known (and_second (done.decision.status == 0) (aborts (target_at start now) p address (target_at start now).decided) a)
            by (inr e) = earlier e

      managed : IsKnown start p address behind i
      managed = by (abort_or (s start t f h answer M table).0.effect)
        where
          by : AbortOr (s start t f h answer M table).0.effect → IsKnown start p address behind i
          by (is_abort place orb e) = decides place orb e
          by (no_abort n) = earlier (fit_told start p address t.rest now (kept_fit start t f h answer M table n) stands)

    -- so an abort that stands behind the turn is known there
    pub turn_known : IsKnown start p address behind i
    turn_known = by (first start t.past t.start is_first) f.table
      where
        by : First start t.past t.start → (IsTable B.table ⊎ ((line : ℕ) × ((event : Event) × (t.start ≡ asked line event)))) → IsKnown start p address behind i
        by (manages answer M) (inl table) = managed answer M table
        by (manages answer M) (inr x) = absurd (let no : asked x.0 x.1.0 ≡ said M.note = sym x.1.1 ∙ M.is in cc)
        by (others quiet marks) x = earlier (fit_told start p address t.rest now (none_fit t.rest (f.logins.decisions ∙ quiet (operator_of B t))).0 stands)
