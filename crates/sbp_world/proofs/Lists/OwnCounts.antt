-- In every run the host of an initiator has used few login numbers as an operation of management begins: they have 32 bits.
use Rattle.sbp_world.proofs.Words.Std.{arith, ◌≡◌, refl, sym, ◌∙◌, ap, subst, ℕ, suc, ◌+◌, ◌^◌, ◌<◌, ◌≤◌, nat_eq, Bool, true, false, List, [], ◌∷◌, ◌++◌, length, map, Option, Some, None}
use Rattle.sbp_world.proofs.Words.Wire.{is_reset, judged_note, empty_outbox, Moment, asked, said, terms, Judged, Action, Event, Note, Side}
use Rattle.sbp_world.proofs.Words.Target.{Told}
use Rattle.sbp_world.proofs.Words.Initiator.{Call, IsCall, acts, done, lets_expire, receives, sees, InitiatorState, act_step, Turn, new_state, expire_step, receive_step, see_step}
use Rattle.sbp_world.proofs.Words.Laws.{host_at, operation_of, EachMoment, event_of}
use Rattle.sbp_world.proofs.Words.World.{history_of, Run, after, beginning, MayAll, after_all, Scene, begun, initiator_at, IsCalled, behind, Core, history, IsRun, more_deliveries, manages}
use Rattle.sbp_initiator.proofs.Histories.Called.{count_law}
use Rattle.sbp_journal.specs.declared.cause.Judged.TheVariants as judgements
use Rattle.sbp_journal.specs.declared.event.Event.TheVariants as events
use Rattle.sbp_journal.specs.declared.note.Note.TheVariants as notes
use Rattle.sbp_journal.specs.declared.side.Side.TheVariants as sides
use Rattle.sbp_world.proofs.FitInitiator.Law.{fitting_law as own_fitting_law}
use Rattle.sbp_world.proofs.FitTarget.Law.{fitting_law}
use Rattle.sbp_world.proofs.Wire.Runs.{SoundAfter, sound_after}
use Rattle.sbp_world.proofs.Wire.Sound.{opens}
use Rattle.sbp_world.proofs.Hosts.ActLeft.{act_left}
use Rattle.sbp_world.proofs.Hosts.AnsweringLines.{all_sound}
use Rattle.sbp_world.proofs.Hosts.Carried.{between_runs, of_runs}
use Rattle.sbp_world.proofs.Hosts.Carries.{Carries, Nothing, is_apart}
use Rattle.sbp_world.proofs.Hosts.Hosted.{Cored, cored_carried, first_cored}
use Rattle.sbp_world.proofs.Hosts.Layered.{AreTame, expire_left, is_tame, receive_left}
use Rattle.sbp_world.proofs.Hosts.LoginCounts.{logins_few}
use Rattle.sbp_world.proofs.Hosts.PointerNotes.{tame_told}
use Rattle.sbp_world.proofs.Hosts.PointSees.{see_left}
use Rattle.sbp_world.proofs.Hosts.Runs.{are_told, count_after, count_between}
use Rattle.sbp_world.proofs.Lists.ManageWrites.{act_tells, no_action, other_node, same_action}
use Rattle.sbp_world.proofs.Common.{untrue}
use Rattle.sbp_world.proofs.Hosts.Cores.{not_so}

abbrev pub FewAt : ℕ → Moment → List Moment → Type 0
FewAt i (said (notes.Sent serial generation from to bytes)) past = from ≡ suc i → (action : Action) → event_of past ≡ Some (events.Act i action) → manages (operation_of action) ≡ true → (host_at past i).logins < 2 ^ 32
FewAt i moment past = Unit {0}

few_by : (m n : ℕ) → m ≡ n → n < 2 ^ 32 → m < 2 ^ 32
few_by m n e f = omega (arith, e, f)

-- of the line
few_written : (action other : Action) (past : List Moment) (i : ℕ) (s : InitiatorState) → (host_at past i).logins ≡ s.counts.logins → s.counts.logins < 2 ^ 32 → event_of past ≡ Some (events.Act i action) → (act_step action empty_outbox s).0 ≡ None → event_of (behind (act_step action empty_outbox s).1.0.sides past) ≡ Some (events.Act i other) → manages (operation_of other) ≡ true → (host_at (behind (act_step action empty_outbox s).1.0.sides past) i).logins < 2 ^ 32
few_written action other past i s logins few under done line m =
    let left = act_left action s done in
    let told = tame_told (act_step action empty_outbox s).1.0.sides past i left.told in
    let same = same_action i other action (sym line ∙ told.line ∙ under) in
    let own : manages (operation_of action) ≡ true = ap (λ x. manages (operation_of x)) (sym same) ∙ m in
    subst (λ (told : List Side). (host_at (behind told past) i).logins < 2 ^ 32) (sym (act_tells action s own)) (few_by (host_at past i).logins s.counts.logins logins few)

-- ---- what is carried on, where the login numbers of the initiator have 32 bits
pub record Counted (ready : Bool) (past : List Moment) (i : ℕ) (s : InitiatorState) : Type 0 where
  pub cored : Cored ready past i s
  pub kept : s.counts.logins < 2 ^ 32 → EachMoment (FewAt i) past

apart_kept : (note : Note) (past : List Moment) (i : ℕ) → is_apart i note ≡ true → EachMoment (FewAt i) past → EachMoment (FewAt i) (said note ∷ past)
apart_kept (notes.Sent serial generation from to bytes) past i e h = (λ f action line m. other_node from i (not_so (nat_eq from (suc i)) e) f, h)
apart_kept note past i e h = (tt, h)

judged_kept : (serial : ℕ) (j : Judged) (past : List Moment) (i : ℕ) → EachMoment (FewAt i) past → EachMoment (FewAt i) (said (judged_note serial j) ∷ past)
judged_kept serial judgements.Got past i h = (tt, h)
judged_kept serial (judgements.Ignored cause) past i h = (tt, h)

tame_kept : (note : Note) (past : List Moment) (i : ℕ) → is_tame note ≡ true → EachMoment (FewAt i) past → EachMoment (FewAt i) (said note ∷ past)
tame_kept (notes.Sent serial generation from to bytes) past i e h = untrue e
tame_kept note past i e h = (tt, h)

told_kept : (told : List Side) (past : List Moment) (i : ℕ) → AreTame told → EachMoment (FewAt i) past → EachMoment (FewAt i) (behind told past)
told_kept [] past i tame h = h
told_kept (sides.Own note ∷ later) past i tame h = told_kept later (said note ∷ past) i tame.1 (tame_kept note past i tame.0 h)
told_kept (_ ∷ later) past i tame h = absurd tame.0

before : (s : InitiatorState) (call : Call) → IsCall call → (done call (empty_outbox, s)).1.counts.logins < 2 ^ 32 → s.counts.logins < 2 ^ 32
before s call fit f = let l = count_law.logins call (empty_outbox, s) fit in omega (arith, l, f)

pub counted_carried : (ready : Bool) → Carries Nothing (Counted ready)
counted_carried ready = record {
  known = λ line event past i s r. tt;
  number = λ past i s h. h.cored.own.number;
  asked = λ line event past i s h. record { cored = (cored_carried ready).asked line event past i s h.cored; kept = λ f. (tt, h.kept f) };
  apart = λ note past i s e w h. record { cored = (cored_carried ready).apart note past i s e w h.cored; kept = λ f. apart_kept note past i e (h.kept f) };
  sent = λ serial generation from to bytes past i s n h. record {
    cored = (cored_carried ready).sent serial generation from to bytes past i s n h.cored;
    kept = λ few. ((λ f action line m. no_action i past action n line), h.kept few);
  };
  hears = λ serial generation bytes past i s heard shown after h.
      let tells = (cored_carried ready).hears serial generation bytes past i s heard shown after h.cored in
      let left = receive_left generation bytes s in
      let r = receive_step generation bytes empty_outbox s in
      let now = said (judged_note serial r.0) ∷ past in
      record {
        own = record { cored = tells.own; kept = λ f. told_kept r.1.0.sides now i left.told (judged_kept serial r.0 past i (h.kept (before s (receives generation bytes) tt f))) };
        others = λ j x e g. record { cored = tells.others j x e g.cored; kept = λ f. told_kept r.1.0.sides now j left.told (g.kept f) };
      };
  expires = λ serial label past i s after h.
      let tells = (cored_carried ready).expires serial label past i s after h.cored in
      let left = expire_left label s in
      let t : Turn = (expire_step label empty_outbox s).1 in
      let now = said (notes.TimedOut serial) ∷ past in
      record {
        own = record { cored = tells.own; kept = λ f. told_kept t.0.sides now i left.told (tt, h.kept (before s (lets_expire label) tt f)) };
        others = λ j x e g. record { cored = tells.others j x e g.cored; kept = λ f. told_kept t.0.sides now j left.told (g.kept f) };
      };
  stale = λ label past i s e h. record { cored = (cored_carried ready).stale label past i s e h.cored; kept = λ f. h.kept (before s (lets_expire label) tt f) };
  sees = λ generation id target past i s flag h.
      let tells = (cored_carried ready).sees generation id target past i s flag h.cored in
      let left = see_left generation id target s in
      let t : Turn = see_step generation id target empty_outbox s in
      let now = said (notes.Seen (suc i) generation) ∷ past in
      record {
        own = record { cored = tells.own; kept = λ f. told_kept t.0.sides now i left.told (tt, h.kept (before s (sees generation id target) tt f)) };
        others = λ j x e g. record { cored = tells.others j x e g.cored; kept = λ f. told_kept t.0.sides now j left.told (g.kept f) };
      };
  acts = λ action past i s under fit done shown known h.
      let does = (cored_carried ready).acts action past i s under fit done shown tt h.cored in
      let left = act_left action s done in
      let t : Turn = (act_step action empty_outbox s).1 in
      let logins = ap (λ (c : Core). c.logins) h.cored.core in
      record {
        others = λ j x e g. record { cored = does.others j x e g.cored; kept = λ f. told_kept t.0.sides past j left.told (g.kept f) };
        quiet = λ none. record { cored = does.quiet none; kept = λ f. told_kept t.0.sides past i left.told (h.kept (before s (acts action) fit.0 f)) };
        asking = λ packet one serial generation injected q. record {
          cored = does.asking packet one serial generation injected q;
          kept = λ few.
              let few_there = before s (acts action) fit.0 few in (
                (λ f other line m. few_written action other past i s logins few_there under done line m),
                told_kept t.0.sides past i left.told (h.kept few_there),
              );
        };
      };
}

first_counted : (line i initiators : ℕ) (ready : Bool) → i < initiators → Counted ready (said (notes.Begin initiators ready) ∷ asked line (events.Begin initiators ready) ∷ []) i (new_state i ready)
first_counted line i initiators ready b = record { cored = first_cored line i initiators ready b; kept = λ few. (tt, (tt, tt)) }

-- ---- the runs
module _ (line : ℕ) (run : Run) (q : IsRun run) (i : ℕ) (b : i < run.initiators) where
  abbrev start : Scene
  start = after (beginning run) run.entries

  sound : SoundAfter line run run.entries start.world
  sound = sound_after fitting_law own_fitting_law line run run.entries q.few q.short q.entries q.lines

  inside_start : i < length start.world.initiators
  inside_start = subst (λ n. i < n) (sym (count_after run run.entries)) b

  few_of : (s : InitiatorState) → IsCalled run.ready i s → s.counts.acts ≤ length run.entries → s.counts.logins < 2 ^ 32
  few_of s h used =
      let short = q.short in
      let f : s.counts.logins ≤ s.counts.acts + 1 = subst (λ (x : InitiatorState). x.counts.logins ≤ x.counts.acts + 1) h.is (logins_few i run.ready h.calls) in
      omega arith

  pub few_after : EachMoment (FewAt i) (history_of line run)
  few_after =
      let h = of_runs (Counted run.ready) (counted_carried run.ready) line run (λ entries few short all fit j c. tt) (λ j c. first_counted line j run.initiators run.ready c) q i b in
      h.kept (few_of (initiator_at start.world i) h.cored.own.called (sound.sound.nodes.own.counts i inside_start))

  pub logins_after : (host_at (history_of line run) i).logins < 2 ^ 32
  logins_after =
      let h = of_runs (Counted run.ready) (counted_carried run.ready) line run (λ entries few short all fit j c. tt) (λ j c. first_counted line j run.initiators run.ready c) q i b in
      few_by _ _ (ap (λ (c : Core). c.logins) h.cored.core) (few_of (initiator_at start.world i) h.cored.own.called (sound.sound.nodes.own.counts i inside_start))

  module _ (next : ℕ) (told : List (Option Told)) (m : MayAll told (begun start)) where
    counts : (event : Event) → is_reset event ≡ false → ((ms : List Moment) → (terms (asked next event ∷ ms)).repeats ≡ false) → (initiator_at (after_all told (begun start)).world i).counts.acts ≤ length run.entries
    counts event e repeats =
        let there = all_sound told (are_told told start m) (begun start) (opens next event start.world e sound.sound) (repeats (history start.world sound.past)) in
        there.nodes.own.counts i (subst (λ n. i < n) (sym (count_between told start)) inside_start)

    counts_more : (most : Option ℕ) → (initiator_at (after_all told (begun start)).world i).counts.acts ≤ length run.entries
    counts_more (Some count) = counts (events.Step count) refl (λ ms. refl)
    counts_more None = counts events.Settle refl (λ ms. refl)

    pub few_between : (most : Option ℕ) → EachMoment (FewAt i) (map said (after_all told (begun start)).world.fresh ++ asked next (more_deliveries most) ∷ history_of line run)
    few_between most =
        let h = between_runs (Counted run.ready) (counted_carried run.ready) line run (λ entries few short all fit j c. tt) (λ j c. first_counted line j run.initiators run.ready c) q next most told m i b in
        h.kept (few_of (initiator_at (after_all told (begun start)).world i) h.cored.own.called (counts_more most))

    pub logins_between : (most : Option ℕ) → (host_at (map said (after_all told (begun start)).world.fresh ++ asked next (more_deliveries most) ∷ history_of line run) i).logins < 2 ^ 32
    logins_between most =
        let h = between_runs (Counted run.ready) (counted_carried run.ready) line run (λ entries few short all fit j c. tt) (λ j c. first_counted line j run.initiators run.ready c) q next most told m i b in
        few_by _ _ (ap (λ (c : Core). c.logins) h.cored.core) (few_of (initiator_at (after_all told (begun start)).world i) h.cored.own.called (counts_more most))
