-- In every run an initiator sends, in the line of an action of it, one request and nothing else; so its operations last with their ORBs.
use Rattle.sbp_world.proofs.Words.Std.{◌≡◌, ◌∙◌, refl, sym, ap, subst, ℕ, suc, not, nat_eq, Bool, true, false, List, [], ◌∷◌, ◌++◌, map, Option, Some, None, arith, nat_tests}
use Rattle.sbp_world.proofs.Words.Wire.{judged_note, empty_outbox, Moment, asked, said, terms, Action, Event, Note, Side}
use Rattle.sbp_world.proofs.Words.Target.{Told}
use Rattle.sbp_world.proofs.Words.Initiator.{act_step, Turn, new_state, expire_step, receive_step, see_step, InitiatorState}
use Rattle.sbp_world.proofs.Words.Laws.{EachMoment, event_of}
use Rattle.sbp_world.proofs.Words.World.{history_of, after, beginning, after_all, begun, IsDelivering, behind, more_deliveries, UnderwayLaw}
use Rattle.sbp_journal.specs.declared.event.Event.TheVariants as events
use Rattle.sbp_journal.specs.declared.note.Note.TheVariants as notes
use Rattle.sbp_journal.specs.declared.side.Side.TheVariants as sides
use Rattle.sbp_world.proofs.Hosts.ActLeft.{act_left}
use Rattle.sbp_world.proofs.Hosts.Asked.{number_in}
use Rattle.sbp_world.proofs.Hosts.Between.{of_wire_there}
use Rattle.sbp_world.proofs.Hosts.Carried.{between_runs, of_runs}
use Rattle.sbp_world.proofs.Hosts.Carries.{Carries, Does, IsNoAct, Tells, is_apart}
use Rattle.sbp_world.proofs.Hosts.Lasting.{Lasting, first_lasting, lasting_carried}
use Rattle.sbp_world.proofs.Hosts.Layered.{AreTame, expire_left, is_tame, receive_left}
use Rattle.sbp_world.proofs.Hosts.OrbRuns.{Rowed, rows_known}
use Rattle.sbp_world.proofs.Hosts.PointSees.{see_left}
use Rattle.sbp_world.proofs.Hosts.Remaining.{serials}
use Rattle.sbp_world.proofs.Sessions.PlaceNotes.{is_packet, tame_packet}
use Rattle.sbp_world.proofs.Lists.UnderwayMoments.{RequestsAt, operations_last}
use Rattle.sbp_world.proofs.Sessions.PlaceRuns.{judged_packet}
use Rattle.sbp_world.proofs.Common.{untrue, itself}

abbrev Each : ℕ → List Moment → Type 0
Each i past = EachMoment (RequestsAt i) past

-- ---- moments that are no request of an action of the initiator

plain : (note : Note) (past : List Moment) (i : ℕ) → is_packet note ≡ false → RequestsAt i (said note) past
plain (notes.Sent serial generation from to bytes) past i e = untrue (sym e)
plain _ past i e = tt

apart : (note : Note) (past : List Moment) (i : ℕ) → is_apart i note ≡ true → RequestsAt i (said note) past
apart (notes.Sent serial generation from to bytes) past i e = λ f action line. untrue (not_there from i e f)
  where
    not_there : (from i : ℕ) → not (nat_eq from (suc i)) ≡ true → from ≡ suc i → false ≡ true
    not_there from i e f = let g : nat_eq from (suc i) ≡ true = grind (arith, nat_tests) in sym (ap not g) ∙ e
apart _ past i e = tt

no_line : (i : ℕ) (event : Option Event) (action : Action) → IsNoAct i event → event ≡ Some (events.Act i action) → false ≡ true
no_line i event action n e = sym (subst (IsNoAct i) e n) ∙ itself i

quiet : (serial generation from to : ℕ) (bytes : List ℕ) (past : List Moment) (i : ℕ) → IsNoAct i (event_of past) → RequestsAt i (said (notes.Sent serial generation from to bytes)) past
quiet serial generation from to bytes past i n = λ f action line. untrue (no_line i (event_of past) action n line)

told_each : (told : List Side) (past : List Moment) (i : ℕ) → AreTame told → Each i past → Each i (behind told past)
told_each [] past i t h = h
told_each (sides.Own note ∷ later) past i t h = told_each later (said note ∷ past) i t.1 (plain note past i (tame_packet note t.0), h)
told_each (_ ∷ later) past i t h = absurd t.0

-- ---- what the lines of a run carry on

pub record Requests (ready : Bool) (past : List Moment) (i : ℕ) (s : InitiatorState) : Type 0 where
  pub lasting : Lasting ready past i s
  pub each : Each i past

module _ (ready : Bool) where
  abbrev P : List Moment → ℕ → InitiatorState → Type 0
  P = Requests ready

  tells_on : (past : List Moment) (i : ℕ) (t : Turn) → AreTame t.0.sides → Each i past → Tells (Lasting ready) past i t → Tells P past i t
  tells_on past i t tame h c = record {
    own = record { lasting = c.own; each = told_each t.0.sides past i tame h };
    others = λ j x f k. record { lasting = c.others j x f k.lasting; each = told_each t.0.sides past j tame k.each };
  }

  acts_on : (action : Action) (past : List Moment) (i : ℕ) (s : InitiatorState) → (act_step action empty_outbox s).0 ≡ None → P past i s → Does (Lasting ready) past i (act_step action empty_outbox s).1 → Does P past i (act_step action empty_outbox s).1
  acts_on action past i s done h c =
      let t = (act_step action empty_outbox s).1 in
      let tame = (act_left action s done).told in
      let own = told_each t.0.sides past i tame h.each in
      record {
        others = λ j x f k. record { lasting = c.others j x f k.lasting; each = told_each t.0.sides past j tame k.each };
        quiet = λ none. record { lasting = c.quiet none; each = own };
        asking = λ packet one serial generation f q. record {
          lasting = c.asking packet one serial generation f q;
          each = ((λ e a line. record { honest = same_wire t.0.sides past serial tame ∙ f; label = number_in packet.label; kind = q.kind; part = q.part }), own);
        };
      }
    where
      -- what is told injects no packet
      one_wire : (note : Note) (ms : List Moment) (serial : ℕ) → is_tame note ≡ true → (terms (said note ∷ ms)).injected serial ≡ (terms ms).injected serial
      one_wire (notes.Append j n k cdb buffer) ms serial e = refl
      one_wire (notes.Low j n k) ms serial e = refl
      one_wire (notes.Linked j n k) ms serial e = refl
      one_wire (notes.Rung j n k) ms serial e = refl
      one_wire (notes.Dummied j n k) ms serial e = refl
      one_wire (notes.Taken j n k status answer) ms serial e = refl
      one_wire (notes.Drop j n) ms serial e = refl
      one_wire (notes.Op j operation word) ms serial e = refl
      one_wire (notes.Stuck j) ms serial e = refl
      one_wire (notes.Told j) ms serial e = refl
      one_wire _ ms serial e = untrue e

      same_wire : (told : List Side) (ms : List Moment) (serial : ℕ) → AreTame told → (terms (behind told ms)).injected serial ≡ (terms ms).injected serial
      same_wire [] ms serial tame = refl
      same_wire (sides.Own note ∷ later) ms serial tame = same_wire later (said note ∷ ms) serial tame.1 ∙ one_wire note ms serial tame.0
      same_wire (_ ∷ later) ms serial tame = absurd tame.0

  requests_carried : Carries Rowed (Requests ready)
  requests_carried =
      let c = lasting_carried ready in
      record {
        known = λ line event past i s r. c.known line event past i s r;
        number = λ past i s h. c.number past i s h.lasting;
        asked = λ line event past i s h. record { lasting = c.asked line event past i s h.lasting; each = (tt, h.each) };
        apart = λ note past i s e elsewhere h. record { lasting = c.apart note past i s e elsewhere h.lasting; each = (apart note past i e, h.each) };
        sent = λ serial generation from to bytes past i s n h. record { lasting = c.sent serial generation from to bytes past i s n h.lasting; each = (quiet serial generation from to bytes past i n, h.each) };
        hears = λ serial generation bytes past i s heard shown after h.
            let r = receive_step generation bytes empty_outbox s in
            tells_on (said (judged_note serial r.0) ∷ past) i r.1 (receive_left generation bytes s).told (plain (judged_note serial r.0) past i (judged_packet serial r.0), h.each) (c.hears serial generation bytes past i s heard shown after h.lasting);
        expires = λ serial label past i s shown h.
            tells_on (said (notes.TimedOut serial) ∷ past) i (expire_step label empty_outbox s).1 (expire_left label s).told (tt, h.each) (c.expires serial label past i s shown h.lasting);
        stale = λ label past i s e h. record { lasting = c.stale label past i s e h.lasting; each = h.each };
        sees = λ generation id target past i s e h.
            tells_on (said (notes.Seen (suc i) generation) ∷ past) i (see_step generation id target empty_outbox s) (see_left generation id target s).told (tt, h.each) (c.sees generation id target past i s e h.lasting);
        acts = λ action past i s line fit d shown known h. acts_on action past i s d h (c.acts action past i s line fit d shown known h.lasting);
      }

first_requests : (line i initiators : ℕ) (ready : Bool) → Requests ready (said (notes.Begin initiators ready) ∷ asked line (events.Begin initiators ready) ∷ []) i (new_state i ready)
first_requests line i initiators ready = record { lasting = first_lasting line i initiators ready; each = (tt, (tt, tt)) }

pub delivering : (told : List (Option Told)) (most : Option ℕ) → IsDelivering (more_deliveries most) told
delivering told (Some count) = tt
delivering told None = tt

pub underway_law : UnderwayLaw
underway_law = record {
  after_lines = λ line run r i b.
      operations_last i (history_of line run) (serials line run r)
      (of_runs (Requests run.ready) (requests_carried run.ready) line run (rows_known line run) (λ j c. first_requests line j run.initiators run.ready) r i b).each;
  between = λ line run r next most told m i b.
      let w = (after_all told (begun (after (beginning run) run.entries))).world in
      operations_last i (map said w.fresh ++ asked next (more_deliveries most) ∷ history_of line run)
      (of_wire_there line run r next (more_deliveries most) told (delivering told most) m).laws.serials
      (between_runs (Requests run.ready) (requests_carried run.ready) line run (rows_known line run) (λ j c. first_requests line j run.initiators run.ready) r next most told m i b).each;
}
