-- In every run an initiator sends the request of a reconnect, or of a logout, in a session that has a login; so its host has asked for as many logins as it had as its latest one was done, while its session has one.
use Rattle.sbp_world.proofs.Words.Std.{arith, ◌≡◌, ◌∙◌, refl, sym, ap, subst, ◌<◌, ℕ, suc, not, nat_eq, Bool, true, false, List, [], ◌∷◌, ◌++◌, map, Option, Some, None, nat_tests, same_Some}
use Rattle.sbp_world.proofs.Words.Wire.{Action, Asked, Layer, Moment, Note, Side, asked, empty_outbox, judged_note, said}
use Rattle.sbp_world.proofs.Words.Target.{Told}
use Rattle.sbp_world.proofs.Words.Initiator.{Demand, InitiatorState, Purpose, Seat, Turn, act_step, asked_as, asked_for, demand_of, demanded_as, done_step, expire_step, facts_with, fits_session, judged_as, new_state, receive_step, refusal, see_step, session_of}
use Rattle.sbp_world.proofs.Words.Laws.{EachMoment, event_of, host_at}
use Rattle.sbp_world.proofs.Words.World.{Core, IsRun, MayAll, Run, after, after_all, beginning, begun, behind, history_of, more_deliveries, session_in}
use Rattle.sbp_journal.specs.declared.event.Action.TheVariants as actions
use Rattle.sbp_journal.specs.declared.event.Event.TheVariants as events
use Rattle.sbp_journal.specs.declared.note.Note.TheVariants as notes
use Rattle.sbp_journal.specs.declared.side.Side.TheVariants as sides
use Rattle.sbp_laws.specs.Hosts.{has_login}
use Rattle.sbp_session.specs.declared.seat.Seat.TheVariants as seats
use Rattle.sbp_world.proofs.Common.{itself, untrue}
use Rattle.sbp_world.proofs.Completing.LatestGranted.{BacksAt, IsGrantedLast, granted_last, keeps_login}
use Rattle.sbp_world.proofs.Hosts.ActLeft.{act_left}
use Rattle.sbp_world.proofs.Hosts.Carried.{between_runs, of_runs}
use Rattle.sbp_world.proofs.Hosts.Carries.{Carries, Does, IsNoAct, Nothing, Tells, is_apart}
use Rattle.sbp_world.proofs.Hosts.Hosted.{Cored, cored_carried, first_cored, known_of}
use Rattle.sbp_world.proofs.Hosts.KnowActs.{act_acted}
use Rattle.sbp_world.proofs.Hosts.Layered.{AreTame, expire_left, receive_left}
use Rattle.sbp_world.proofs.Hosts.PointSees.{see_left}
use Rattle.sbp_world.proofs.Pointers.Asks.{act_allowed}
use Rattle.sbp_world.proofs.Sessions.PlaceNotes.{is_packet, tame_packet}
use Rattle.sbp_world.proofs.Sessions.PlaceRuns.{judged_packet}

-- ---- such an action
fits_had : (action : Action) (seat : Seat) → keeps_login action ≡ true → fits_session action (session_of seat) ≡ true → has_login (session_in seat) ≡ true
fits_had actions.Reconnect (seats.Held response) k e = refl
fits_had actions.Reconnect (seats.Out out) k e = untrue e
fits_had actions.Reconnect (seats.Entering entering) k e = untrue e
fits_had actions.Reconnect (seats.Live live) k e = untrue e
fits_had actions.Reconnect (seats.Returning response) k e = untrue e
fits_had actions.Reconnect (seats.Leaving response) k e = untrue e
fits_had actions.Reconnect (seats.Stuck origin) k e = untrue e
fits_had actions.Logout (seats.Live live) k e = refl
fits_had actions.Logout (seats.Out out) k e = untrue e
fits_had actions.Logout (seats.Entering entering) k e = untrue e
fits_had actions.Logout (seats.Held response) k e = untrue e
fits_had actions.Logout (seats.Returning response) k e = untrue e
fits_had actions.Logout (seats.Leaving response) k e = untrue e
fits_had actions.Logout (seats.Stuck origin) k e = untrue e
fits_had action seat k e = untrue k

-- it tells nothing
asked_silent : (action : Action) (r : Option Asked × Layer Purpose) (s : InitiatorState) → keeps_login action ≡ true → (asked_as r action empty_outbox s).1.0.sides ≡ []
unfolding done_step
asked_silent actions.Reconnect (None, layer) s k = refl
asked_silent actions.Reconnect (Some found, layer) s k = refl
asked_silent actions.Logout (None, layer) s k = refl
asked_silent actions.Logout (Some found, layer) s k = refl
asked_silent action r s k = untrue k

demanded_silent : (action : Action) (demand : Option Demand) (s : InitiatorState) → keeps_login action ≡ true → (demanded_as demand action empty_outbox s).1.0.sides ≡ []
unfolding done_step
demanded_silent action (Some demand) s k = asked_silent action (asked_for demand s) s k
demanded_silent actions.Reconnect None s k = refl
demanded_silent actions.Logout None s k = refl
demanded_silent action None s k = untrue k

judged_silent : (action : Action) (refused : Option ℕ) (s : InitiatorState) → keeps_login action ≡ true → (judged_as refused action empty_outbox s).1.0.sides ≡ []
judged_silent action (Some number) s k = refl
judged_silent action None s k = demanded_silent action (demand_of action s) s k

act_silent : (action : Action) (s : InitiatorState) → keeps_login action ≡ true → (act_step action empty_outbox s).1.0.sides ≡ []
unfolding act_step
act_silent action s k = judged_silent action (refusal action (facts_with true s action)) s k

-- ---- moments that are no request of an action of the initiator
abbrev Each : ℕ → List Moment → Type 0
Each i past = EachMoment (BacksAt i) past

plain : (note : Note) (past : List Moment) (i : ℕ) → is_packet note ≡ false → BacksAt i (said note) past
plain (notes.Sent serial generation from to bytes) past i e = untrue (sym e)
plain _ past i e = tt

apart : (note : Note) (past : List Moment) (i : ℕ) → is_apart i note ≡ true → BacksAt i (said note) past
apart (notes.Sent serial generation from to bytes) past i e = λ f. absurd (untrue (not_there from i e f))
  where
    not_there : (from i : ℕ) → not (nat_eq from (suc i)) ≡ true → from ≡ suc i → false ≡ true
    not_there from i e f = let g : nat_eq from (suc i) ≡ true = grind (arith, nat_tests) in sym (ap not g) ∙ e
apart _ past i e = tt

quiet : (serial generation from to : ℕ) (bytes : List ℕ) (past : List Moment) (i : ℕ) → IsNoAct i (event_of past) → BacksAt i (said (notes.Sent serial generation from to bytes)) past
quiet serial generation from to bytes past i n = λ f honest action line k. untrue (sym (subst (IsNoAct i) line n) ∙ itself i)

told_each : (told : List Side) (past : List Moment) (i : ℕ) → AreTame told → Each i past → Each i (behind told past)
told_each [] past i t h = h
told_each (sides.Own note ∷ later) past i t h = told_each later (said note ∷ past) i t.1 (plain note past i (tame_packet note t.0), h)
told_each (_ ∷ later) past i t h = absurd t.0

-- ---- what the lines of a run carry on
pub record Backs (ready : Bool) (past : List Moment) (i : ℕ) (s : InitiatorState) : Type 0 where
  pub cored : Cored ready past i s
  pub each : Each i past

module _ (ready : Bool) where
  abbrev P : List Moment → ℕ → InitiatorState → Type 0
  P = Backs ready

  tells_on : (past : List Moment) (i : ℕ) (t : Turn) → AreTame t.0.sides → Each i past → Tells (Cored ready) past i t → Tells P past i t
  tells_on past i t tame h c = record {
    own = record { cored = c.own; each = told_each t.0.sides past i tame h };
    others = λ j x f k. record { cored = c.others j x f k.cored; each = told_each t.0.sides past j tame k.each };
  }

  module _ (action : Action) (past : List Moment) (i : ℕ) (s : InitiatorState) (under : event_of past ≡ Some (events.Act i action)) (done : (act_step action empty_outbox s).0 ≡ None) (h : P past i s) where
    abbrev t : Turn
    t = (act_step action empty_outbox s).1

    line_is : event_of (behind t.0.sides past) ≡ event_of past
    line_is = (act_acted past action s (known_of ready past i s h.cored) done).starts.known.line

    had : keeps_login action ≡ true → has_login (host_at past i).session ≡ true
    had k = ap (λ (c : Core). has_login c.session) h.cored.core ∙ fits_had action s.seat k (act_allowed action s done).session

    same_action : (other : Action) → Some (events.Act i action) ≡ Some (events.Act i other) → action ≡ other
    same_action other e = let one : events.Act i action ≡ events.Act i other = same_Some _ _ e in cc

    backs : (other : Action) → event_of (behind t.0.sides past) ≡ Some (events.Act i other) → keeps_login other ≡ true → has_login (host_at (behind t.0.sides past) i).session ≡ true
    backs other e k =
        let same = same_action other (sym under ∙ (sym line_is ∙ e)) in
        let keeps : keeps_login action ≡ true = ap keeps_login same ∙ k in
        subst (λ told. has_login (host_at (behind told past) i).session ≡ true) (sym (act_silent action s keeps)) (had keeps)

    acts_on : Does (Cored ready) past i t → Does P past i t
    acts_on c =
        let tame = (act_left action s done).told in
        let own = told_each t.0.sides past i tame h.each in
        record {
          others = λ j x f k. record { cored = c.others j x f k.cored; each = told_each t.0.sides past j tame k.each };
          quiet = λ none. record { cored = c.quiet none; each = own };
          asking = λ packet one serial generation f q. record { cored = c.asking packet one serial generation f q; each = ((λ e honest other line k. backs other line k), own) };
        }

  backs_carried : Carries Nothing (Backs ready)
  backs_carried =
      let c = cored_carried ready in
      record {
        known = λ line event past i s r. tt;
        number = λ past i s h. h.cored.own.number;
        asked = λ line event past i s h. record { cored = c.asked line event past i s h.cored; each = (tt, h.each) };
        apart = λ note past i s e elsewhere h. record { cored = c.apart note past i s e elsewhere h.cored; each = (apart note past i e, h.each) };
        sent = λ serial generation from to bytes past i s n h. record { cored = c.sent serial generation from to bytes past i s n h.cored; each = (quiet serial generation from to bytes past i n, h.each) };
        hears = λ serial generation bytes past i s heard shown after h.
            let r = receive_step generation bytes empty_outbox s in
            tells_on (said (judged_note serial r.0) ∷ past) i r.1 (receive_left generation bytes s).told (plain (judged_note serial r.0) past i (judged_packet serial r.0), h.each) (c.hears serial generation bytes past i s heard shown after h.cored);
        expires = λ serial label past i s shown h. tells_on (said (notes.TimedOut serial) ∷ past) i (expire_step label empty_outbox s).1 (expire_left label s).told (tt, h.each) (c.expires serial label past i s shown h.cored);
        stale = λ label past i s e h. record { cored = c.stale label past i s e h.cored; each = h.each };
        sees = λ generation id target past i s e h.
            tells_on (said (notes.Seen (suc i) generation) ∷ past) i (see_step generation id target empty_outbox s) (see_left generation id target s).told (tt, h.each) (c.sees generation id target past i s e h.cored);
        acts = λ action past i s under fit done shown known h. acts_on action past i s under done h (c.acts action past i s under fit done shown tt h.cored);
      }

first_backs : (line i initiators : ℕ) (ready : Bool) → i < initiators → Backs ready (said (notes.Begin initiators ready) ∷ asked line (events.Begin initiators ready) ∷ []) i (new_state i ready)
first_backs line i initiators ready b = record { cored = first_cored line i initiators ready b; each = (tt, (tt, tt)) }

-- ---- in every run
module _ (line : ℕ) (run : Run) (r : IsRun run) (i : ℕ) (b : i < run.initiators) where
  pub last_after : IsGrantedLast (history_of line run) i
  last_after =
      granted_last (history_of line run) i
      (of_runs (Backs run.ready) (backs_carried run.ready) line run (λ entries few short all fit j c. tt) (λ j c. first_backs line j run.initiators run.ready c) r i b).each

  module _ (next : ℕ) (most : Option ℕ) (told : List (Option Told)) (m : MayAll told (begun (after (beginning run) run.entries))) where
    pub last_between : IsGrantedLast (map said (after_all told (begun (after (beginning run) run.entries))).world.fresh ++ asked next (more_deliveries most) ∷ history_of line run) i
    last_between =
        granted_last (map said (after_all told (begun (after (beginning run) run.entries))).world.fresh ++ asked next (more_deliveries most) ∷ history_of line run) i
        (between_runs (Backs run.ready) (backs_carried run.ready) line run (λ entries few short all fit j c. tt) (λ j c. first_backs line j run.initiators run.ready c) r next most told m i b).each
