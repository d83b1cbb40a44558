-- In every run before whose place lists were open as they should be, at most one write of MANAGEMENT_AGENT of an initiator waits to be judged.
use Rattle.sbp_world.proofs.Words.Std.{refl, sym, subst, ℕ, suc, ◌<◌, Bool, List, [], ◌∷◌}
use Rattle.sbp_world.proofs.Words.Wire.{judged_note, empty_outbox, Moment, asked, said, Side}
use Rattle.sbp_world.proofs.Words.Target.{Disk}
use Rattle.sbp_world.proofs.Words.Initiator.{InitiatorState, Turn, act_step, expire_step, new_state, receive_step, see_step}
use Rattle.sbp_world.proofs.Words.World.{behind}
use Rattle.sbp_journal.specs.declared.event.Event.TheVariants as events
use Rattle.sbp_journal.specs.declared.note.Note.TheVariants as notes
use Rattle.sbp_world.specs.Counting.Asking.{AsksOnce, AsksOnceLaw}
use Rattle.sbp_world.proofs.Counting.AskingOnce.{apart_back, asking_once, back_once, idle_back, judged_back, sees_once, told_back}
use Rattle.sbp_world.proofs.Hosts.ActLeft.{act_left}
use Rattle.sbp_world.proofs.Hosts.Carried.{between_runs, of_runs}
use Rattle.sbp_world.proofs.Hosts.Carries.{Carries, Nothing}
use Rattle.sbp_world.proofs.Hosts.Layered.{AreTame, expire_left, receive_left}
use Rattle.sbp_world.proofs.Hosts.Pointed.{stale_is}
use Rattle.sbp_world.proofs.Hosts.PointSees.{see_left}
use Rattle.sbp_world.proofs.Lists.ManageMoments.{Hands, line_calm, quiet_calm}
use Rattle.sbp_world.proofs.Lists.ManageProved.{one_in_hand_law}
use Rattle.sbp_world.proofs.Lists.ManageRuns.{HandsLaw, Managed, first_managed, managed_carried}
use Rattle.sbp_world.proofs.Lists.ManageSights.{told_hands}
use Rattle.sbp_world.proofs.Lists.ManageTerms.{none_is}

record Lone (ready : Bool) (start : List Disk) (past : List Moment) (i : ℕ) (s : InitiatorState) : Type 0 where
  managed : Managed ready start past i s
  once : Hands start i past → AsksOnce past i

module _ (ready : Bool) (start : List Disk) where
  told_once : (told : List Side) (past : List Moment) (i : ℕ) → AreTame told → (Hands start i past → AsksOnce past i) → Hands start i (behind told past) → AsksOnce (behind told past) i
  told_once told past i tame h hands = back_once past (behind told past) i (told_back start i told past tame hands) (h (told_hands start i told past tame hands))

  lone_carried : Carries Nothing (Lone ready start)
  lone_carried = record {
    known = λ line event past i s h. tt;
    number = λ past i s h. h.managed.cored.own.number;
    asked = λ line event past i s h. record {
      managed = (managed_carried ready start).asked line event past i s h.managed;
      once = λ hands. back_once past (asked line event ∷ past) i (line_calm start line event past i hands.0).asking (h.once hands.1);
    };
    apart = λ note past i s e w h. record {
      managed = (managed_carried ready start).apart note past i s e w h.managed;
      once = λ hands. back_once past (said note ∷ past) i (apart_back start i note past e hands.0) (h.once hands.1);
    };
    sent = λ serial generation from to bytes past i s n h. record {
      managed = (managed_carried ready start).sent serial generation from to bytes past i s n h.managed;
      once = λ hands. back_once past (said (notes.Sent serial generation from to bytes) ∷ past) i (idle_back start i serial generation from to bytes past hands.0 n) (h.once hands.1);
    };
    hears = λ serial generation bytes past i s heard shown after h.
        let tells = (managed_carried ready start).hears serial generation bytes past i s heard shown after h.managed in
        let tame = (receive_left generation bytes s).told in
        let r = receive_step generation bytes empty_outbox s in
        let now = said (judged_note serial r.0) ∷ past in
        record {
          own = record { managed = tells.own; once = told_once r.1.0.sides now i tame (λ hands. back_once past now i (judged_back start i serial r.0 past hands.0) (h.once hands.1)) };
          others = λ j x e g. record { managed = tells.others j x e g.managed; once = told_once r.1.0.sides now j tame g.once };
        };
    expires = λ serial label past i s after h.
        let tells = (managed_carried ready start).expires serial label past i s after h.managed in
        let tame = (expire_left label s).told in
        let t : Turn = (expire_step label empty_outbox s).1 in
        let now = said (notes.TimedOut serial) ∷ past in
        record {
          own = record { managed = tells.own; once = told_once t.0.sides now i tame (λ hands. back_once past now i (quiet_calm start i (notes.TimedOut serial) past refl hands.0).asking (h.once hands.1)) };
          others = λ j x e g. record { managed = tells.others j x e g.managed; once = told_once t.0.sides now j tame g.once };
        };
    stale = λ label past i s e h. subst (λ (x : InitiatorState). Lone ready start past i x) (sym (stale_is ready label s e)) h;
    sees = λ generation id target past i s flag h.
        let tells = (managed_carried ready start).sees generation id target past i s flag h.managed in
        let tame = (see_left generation id target s).told in
        let t : Turn = see_step generation id target empty_outbox s in
        let now = said (notes.Seen (suc i) generation) ∷ past in
        record {
          own = record { managed = tells.own; once = told_once t.0.sides now i tame (λ hands. sees_once start i generation past hands.0 (h.once hands.1)) };
          others = λ j x e g. record { managed = tells.others j x e g.managed; once = told_once t.0.sides now j tame g.once };
        };
    acts = λ action past i s under fit done shown known h.
        let does = (managed_carried ready start).acts action past i s under fit done shown tt h.managed in
        let tame = (act_left action s done).told in
        let t : Turn = (act_step action empty_outbox s).1 in
        record {
          others = λ j x e g. record { managed = does.others j x e g.managed; once = told_once t.0.sides past j tame g.once };
          quiet = λ none. record { managed = does.quiet none; once = told_once t.0.sides past i tame h.once };
          asking = λ packet one serial generation injected q.
              let now = does.asking packet one serial generation injected q in
              record {
                managed = now;
                once = λ hands. asking_once ready start action past i s under done h.managed.cored packet serial generation now hands (h.once (told_hands start i t.0.sides past tame hands.1));
              };
        };
  }

  -- the beginning
  first_lone : (line initiators i : ℕ) → i < initiators → Lone ready start (said (notes.Begin initiators ready) ∷ asked line (events.Begin initiators ready) ∷ []) i (new_state i ready)
  first_lone line initiators i b = record {
    managed = first_managed start line initiators ready i b;
    once = λ hands serial other place at a c. none_is a.packet a.sent;
  }

asks_once_by : HandsLaw → AsksOnceLaw
asks_once_by law = record {
  after_lines = λ line run r u v d o i b calm.
      (of_runs (Lone run.ready run.start.disks) (lone_carried run.ready run.start.disks) line run (λ entries few short all fit j c. tt) (λ j c. first_lone run.ready run.start.disks line run.initiators j c) r i b).once
      (law.after_lines line run r u v d o i b calm);
  between = λ line run r u v d next most told m o i b calm.
      (between_runs (Lone run.ready run.start.disks) (lone_carried run.ready run.start.disks) line run (λ entries few short all fit j c. tt) (λ j c. first_lone run.ready run.start.disks line run.initiators j c) r next most told m i b).once
      (law.between line run r u v d next most told m o i b calm);
}

pub asks_once_law : AsksOnceLaw
asks_once_law = asks_once_by one_in_hand_law
