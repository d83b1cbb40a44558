-- In every run the beginning that a history tells is that of the run.
use Rattle.sbp_world.proofs.Words.Std.{◌≡◌, refl, ℕ, suc, ◌<◌, Bool, true, List, [], ◌∷◌, ◌++◌, map, Option}
use Rattle.sbp_world.proofs.Words.Wire.{judged_note, empty_outbox, Moment, asked, said, Judged, Note, Side}
use Rattle.sbp_world.proofs.Words.Target.{Told}
use Rattle.sbp_world.proofs.Words.Initiator.{InitiatorState, act_step, Turn, new_state, expire_step, receive_step, see_step}
use Rattle.sbp_world.proofs.Words.Laws.{EachMoment}
use Rattle.sbp_world.proofs.Words.World.{history_of, Run, after, beginning, MayAll, after_all, Scene, begun, behind, IsRun, more_deliveries}
use Rattle.sbp_journal.specs.declared.cause.Judged.TheVariants as judgements
use Rattle.sbp_journal.specs.declared.event.Event.TheVariants as events
use Rattle.sbp_journal.specs.declared.note.Note.TheVariants as notes
use Rattle.sbp_journal.specs.declared.side.Side.TheVariants as sides
use Rattle.sbp_world.proofs.Hosts.ActLeft.{act_left}
use Rattle.sbp_world.proofs.Hosts.Carried.{between_runs, of_runs}
use Rattle.sbp_world.proofs.Hosts.Carries.{Carries, Nothing, is_apart}
use Rattle.sbp_world.proofs.Hosts.Hosted.{Cored, cored_carried, first_cored}
use Rattle.sbp_world.proofs.Hosts.Layered.{AreTame, expire_left, is_tame, receive_left}
use Rattle.sbp_world.proofs.Hosts.PointSees.{see_left}
use Rattle.sbp_world.proofs.Common.{untrue}

abbrev pub BegunAt : Bool → ℕ → Moment → List Moment → Type 0
BegunAt ready n (said (notes.Begin initiators is_ready)) past = (initiators ≡ n) × (is_ready ≡ ready)
BegunAt ready n moment past = Unit {0}

module _ (ready : Bool) (n : ℕ) where
  abbrev All : List Moment → Type 0
  All past = EachMoment (BegunAt ready n) past

  record Begun (past : List Moment) (i : ℕ) (s : InitiatorState) : Type 0 where
    pub cored : Cored ready past i s
    pub begun : All past

  apart_kept : (note : Note) (past : List Moment) (i : ℕ) → is_apart i note ≡ true → All past → All (said note ∷ past)
  apart_kept (notes.Begin initiators is_ready) past i e h = untrue e
  apart_kept note past i e h = (tt, h)

  judged_kept : (serial : ℕ) (j : Judged) (past : List Moment) → All past → All (said (judged_note serial j) ∷ past)
  judged_kept serial judgements.Got past h = (tt, h)
  judged_kept serial (judgements.Ignored cause) past h = (tt, h)

  tame_kept : (note : Note) (past : List Moment) → is_tame note ≡ true → All past → All (said note ∷ past)
  tame_kept (notes.Begin initiators is_ready) past e h = untrue e
  tame_kept note past e h = (tt, h)

  told_kept : (told : List Side) (past : List Moment) → AreTame told → All past → All (behind told past)
  told_kept [] past tame h = h
  told_kept (sides.Own note ∷ later) past tame h = told_kept later (said note ∷ past) tame.1 (tame_kept note past tame.0 h)
  told_kept (_ ∷ later) past tame h = absurd tame.0

  begun_carried : Carries Nothing Begun
  begun_carried = record {
    known = λ line event past i s r. tt;
    number = λ past i s h. h.cored.own.number;
    asked = λ line event past i s h. record { cored = (cored_carried ready).asked line event past i s h.cored; begun = (tt, h.begun) };
    apart = λ note past i s e w h. record { cored = (cored_carried ready).apart note past i s e w h.cored; begun = apart_kept note past i e h.begun };
    sent = λ serial generation from to bytes past i s k h. record { cored = (cored_carried ready).sent serial generation from to bytes past i s k h.cored; begun = (tt, h.begun) };
    hears = λ serial generation bytes past i s heard shown after h.
        let tells = (cored_carried ready).hears serial generation bytes past i s heard shown after h.cored in
        let left = receive_left generation bytes s in
        let r = receive_step generation bytes empty_outbox s in
        let now = said (judged_note serial r.0) ∷ past in
        let all = told_kept r.1.0.sides now left.told (judged_kept serial r.0 past h.begun) in
        record {
          own = record { cored = tells.own; begun = all };
          others = λ j x e g. record { cored = tells.others j x e g.cored; begun = told_kept r.1.0.sides now left.told g.begun };
        };
    expires = λ serial label past i s after h.
        let tells = (cored_carried ready).expires serial label past i s after h.cored in
        let left = expire_left label s in
        let t : Turn = (expire_step label empty_outbox s).1 in
        let now = said (notes.TimedOut serial) ∷ past in
        record {
          own = record { cored = tells.own; begun = told_kept t.0.sides now left.told (tt, h.begun) };
          others = λ j x e g. record { cored = tells.others j x e g.cored; begun = told_kept t.0.sides now left.told g.begun };
        };
    stale = λ label past i s e h. record { cored = (cored_carried ready).stale label past i s e h.cored; begun = h.begun };
    sees = λ generation id target past i s flag h.
        let tells = (cored_carried ready).sees generation id target past i s flag h.cored in
        let left = see_left generation id target s in
        let t : Turn = see_step generation id target empty_outbox s in
        let now = said (notes.Seen (suc i) generation) ∷ past in
        record {
          own = record { cored = tells.own; begun = told_kept t.0.sides now left.told (tt, h.begun) };
          others = λ j x e g. record { cored = tells.others j x e g.cored; begun = told_kept t.0.sides now left.told g.begun };
        };
    acts = λ action past i s under fit done shown known h.
        let does = (cored_carried ready).acts action past i s under fit done shown tt h.cored in
        let left = act_left action s done in
        let t : Turn = (act_step action empty_outbox s).1 in
        record {
          others = λ j x e g. record { cored = does.others j x e g.cored; begun = told_kept t.0.sides past left.told g.begun };
          quiet = λ none. record { cored = does.quiet none; begun = told_kept t.0.sides past left.told h.begun };
          asking = λ packet one serial generation injected q. record { cored = does.asking packet one serial generation injected q; begun = (tt, told_kept t.0.sides past left.told h.begun) };
        };
  }

  first_begun : (line i : ℕ) → i < n → Begun (said (notes.Begin n ready) ∷ asked line (events.Begin n ready) ∷ []) i (new_state i ready)
  first_begun line i b = record { cored = first_cored line i n ready b; begun = ((refl, refl), (tt, tt)) }

-- ---- the runs
module _ (line : ℕ) (run : Run) (q : IsRun run) (i : ℕ) (b : i < run.initiators) where
  abbrev start : Scene
  start = after (beginning run) run.entries

  abbrev n : ℕ
  n = run.initiators

  pub begun_after : EachMoment (BegunAt run.ready n) (history_of line run)
  begun_after = (of_runs (Begun run.ready n) (begun_carried run.ready n) line run (λ entries few short all fit j c. tt) (λ j c. first_begun run.ready n line j c) q i b).begun

  module _ (next : ℕ) (told : List (Option Told)) (m : MayAll told (begun start)) (most : Option ℕ) where
    pub begun_between : EachMoment (BegunAt run.ready n) (map said (after_all told (begun start)).world.fresh ++ asked next (more_deliveries most) ∷ history_of line run)
    begun_between = (between_runs (Begun run.ready n) (begun_carried run.ready n) line run (λ entries few short all fit j c. tt) (λ j c. first_begun run.ready n line j c) q next most told m i b).begun
