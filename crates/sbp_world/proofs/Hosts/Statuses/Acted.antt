-- An action, and what the lines of a run carry on of the slots of an initiator.
use Rattle.sbp_world.proofs.Words.Std.{◌≡◌, refl, sym, ◌∙◌, ap, subst, ℕ, suc, true, false, List, [], ◌∷◌, Option, Some, None}
use Rattle.sbp_world.proofs.Words.Wire.{Asked, Layer, OutboxState, empty_outbox, Moment, said, Action}
use Rattle.sbp_world.proofs.Words.Initiator.{Purpose, InitiatorState, act_step, asked_as, asked_for, done_step, facts_with, judged_as, manage_demand, Turn, refusal}
use Rattle.sbp_world.proofs.Words.Laws.{event_of}
use Rattle.sbp_world.proofs.Words.World.{Listed, Pinned, behind, AreRows, is_abort, IsNoAbort, IsHost}
use Rattle.orb_list.specs.Table as table
use Rattle.sbp_journal.specs.declared.event.Action.TheVariants as actions
use Rattle.sbp_journal.specs.declared.event.Event.TheVariants as events
use Rattle.sbp_journal.specs.declared.note.Note.TheVariants as notes
use Rattle.sbp_world.specs.Hosts.Calls.{Left}
use Rattle.sbp_world.proofs.Hosts.Acts.{act_left}
use Rattle.sbp_world.proofs.Hosts.Beside.{pin_told, sent_rests}
use Rattle.sbp_world.proofs.Hosts.Carries.{Carries, Does}
use Rattle.sbp_world.proofs.Hosts.Liners.{host_listed}
use Rattle.sbp_world.proofs.Hosts.Numbers.{act_number}
use Rattle.sbp_world.proofs.Hosts.OrbRuns.{Rowed, orbs_carried}
use Rattle.sbp_world.proofs.Hosts.Statuses.Housed.{expires_on, hears_on, listed_tells, no_abort, noted_on, stale_on}
use Rattle.sbp_world.proofs.Hosts.HostRows.{host_sees as sees_on, line_behind}
use Rattle.sbp_world.proofs.Common.{untrue}

-- ---- an abort that is done asks for something

asks_one : (number : ℕ) (s : InitiatorState) (r : Option Asked × Layer Purpose) → (asked_as r (actions.Abort number) empty_outbox s).0 ≡ None → (asked_as r (actions.Abort number) empty_outbox s).1.0.packets ≡ [] → ⊥
unfolding done_step
asks_one number s (None, layer) e f = cc
asks_one number s (Some label, layer) e f = cc

judged_one : (number : ℕ) (s : InitiatorState) (refused : Option ℕ) → (judged_as refused (actions.Abort number) empty_outbox s).0 ≡ None → (judged_as refused (actions.Abort number) empty_outbox s).1.0.packets ≡ [] → ⊥
judged_one number s (Some n) e f = cc
judged_one number s None e f = asks_one number s (asked_for (manage_demand s) s) e f

abort_asks : (number : ℕ) (s : InitiatorState) → (act_step (actions.Abort number) empty_outbox s).0 ≡ None → (act_step (actions.Abort number) empty_outbox s).1.0.packets ≡ [] → ⊥
unfolding act_step
abort_asks number s e f = judged_one number s (refusal (actions.Abort number) (facts_with true s (actions.Abort number))) e f

-- ---- an action

left_of : (action : Action) (past : List Moment) (o : OutboxState) (s : InitiatorState) (t : Turn) → is_abort action ≡ false → Left action past o s t → Listed past t
left_of (actions.Abort k) past o s t e l = untrue (sym e)
left_of action past o s t e l = l

plain_line : (i : ℕ) (action : Action) → is_abort action ≡ false → IsNoAbort i (Some (events.Act i action))
plain_line i (actions.Abort k) e = untrue (sym e)
plain_line i action e = tt

module _ (past : List Moment) (i : ℕ) (s : InitiatorState) (h : IsHost past i s) where
  plain_does : (action : Action) → is_abort action ≡ false → event_of past ≡ Some (events.Act i action) → (act_step action empty_outbox s).0 ≡ None → Does IsHost past i (act_step action empty_outbox s).1
  plain_does action e under done =
      let t = (act_step action empty_outbox s).1 in
      let l = left_of action past empty_outbox s t e (act_left past action empty_outbox s done (host_listed past i s h)) in
      let k = listed_tells past i t (act_number action empty_outbox s ∙ h.number) l in
      record {
        others = k.others;
        quiet = λ none. k.own;
        asking = λ packet one serial generation f q. record {
          number = k.own.number;
          rows = sent_rests (behind t.0.sides past) i t.1.lists.slots k.own.rows serial generation (suc i) 0 packet.bytes (subst (IsNoAbort i) (sym (line_behind t.0.sides past ∙ under)) (plain_line i action e));
          pin = k.own.pin;
        };
      }

  pinned_does : (number : ℕ) (t : Turn) → event_of past ≡ Some (events.Act i (actions.Abort number)) → (t.0.packets ≡ [] → ⊥) → Pinned number empty_outbox s t → Does IsHost past i t
  pinned_does number t under asks l = record {
    others = λ j x e k. subst (λ told. IsHost (behind told past) j x) (sym l.silent) k;
    quiet = λ none. absurd (asks none);
    asking = λ packet one serial generation f q.
        let leaves = said (notes.Sent serial generation (suc i) 0 packet.bytes) in
        subst (λ told. IsHost (leaves ∷ behind told past) i t.1) (sym l.silent)
        (record {
          number = l.same ∙ h.number;
          rows = subst (AreRows (leaves ∷ past) i) (sym l.table_is)
              (pin_told past i s.lists.slots h.rows serial generation 0 packet.bytes l.ticket (under ∙ ap (λ n. Some (events.Act i (actions.Abort n))) (sym l.numbered)) l.none (ap (table.find_in s.lists.slots.slots) l.numbered ∙ l.found));
          pin = l.operation;
        });
  }

  acts_on : (action : Action) → event_of past ≡ Some (events.Act i action) → (act_step action empty_outbox s).0 ≡ None → Does IsHost past i (act_step action empty_outbox s).1
  acts_on (actions.Abort number) under done =
      pinned_does number (act_step (actions.Abort number) empty_outbox s).1 under (abort_asks number s done) (act_left past (actions.Abort number) empty_outbox s done (host_listed past i s h))
  acts_on action under done = plain_does action refl under done

-- ---- the lines of a run

pub host_carried : Carries Rowed IsHost
host_carried = record {
  known = λ line event past i s r. (orbs_carried false).known line event past i s r;
  number = λ past i s h. h.number;
  asked = λ line event past i s h. record { number = h.number; rows = h.rows; pin = h.pin };
  apart = λ note past i s e f h. noted_on past i s note e h;
  sent = λ serial generation from to bytes past i s n h. record {
    number = h.number;
    rows = sent_rests past i s.lists.slots h.rows serial generation from to bytes (no_abort i (event_of past) n);
    pin = h.pin;
  };
  hears = λ serial generation bytes past i s heard shown after h. hears_on past i serial generation bytes s heard h;
  expires = λ serial label past i s shown h. expires_on (said (notes.TimedOut serial) ∷ past) i s label (noted_on past i s (notes.TimedOut serial) refl h);
  stale = λ label past i s e h. stale_on past i s label e h;
  sees = λ generation id target past i s e h. sees_on generation id target past i s e h;
  acts = λ action past i s under fit done shown known h. acts_on past i s h action under done;
}
