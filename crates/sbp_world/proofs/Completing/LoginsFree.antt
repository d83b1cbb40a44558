-- In every run nothing is in hand of an initiator's management as it begins an operation of that, whatever its session; and its session is not out while it ignores a status block that waits, where what it has under
-- way of the management, if anything, is a login.
use Rattle.sbp_world.proofs.Words.Std.{◌≡◌, ◌∙◌, refl, sym, ap, subst, ℕ, suc, ◌<◌, ◌==◌, nat_eq, Bool, true, false, List, [], ◌∷◌, length, Option, Some, None}
use Rattle.sbp_world.proofs.Words.Wire.{Action, Judged, Moment, Note, Operation, Sending, Side, asked, empty_outbox, judged_note, said, terms}
use Rattle.sbp_world.proofs.Words.Target.{Disk}
use Rattle.sbp_world.proofs.Words.Initiator.{FreeFor, InitiatorState, Running, Turn, act_step, expire_step, is_stuck_seat, new_state, receive_step, see_step}
use Rattle.sbp_world.proofs.Words.Laws.{EachMoment, Host, Session, Underway, event_of, host_at, is_management, is_stuck, operation_of, target_at}
use Rattle.sbp_world.proofs.Words.World.{Core, IsCalm, IsFree, IsTelling, WorldState, after, beginning, behind, manages}
use Rattle.sbp_journal.specs.declared.cause.Judged.TheVariants as judgements
use Rattle.sbp_journal.specs.declared.event.Event.TheVariants as events
use Rattle.sbp_journal.specs.declared.note.Note.TheVariants as notes
use Rattle.sbp_journal.specs.declared.operation.Operation.TheVariants as operations
use Rattle.sbp_journal.specs.declared.side.Side.TheVariants as sides
use Rattle.sbp_laws.specs.Hosts as terms_of
use Rattle.sbp_laws.specs.JudgementLaw.{is_out}
use Rattle.sbp_world.proofs.Common.{itself, none_is, untrue}
use Rattle.sbp_world.proofs.Completing.ShutSessions.{enters_core}
use Rattle.sbp_world.proofs.Hosts.ActLeft.{act_left}
use Rattle.sbp_world.proofs.Hosts.Carried.{between_runs, of_runs}
use Rattle.sbp_world.proofs.Hosts.Carries.{Carries, Nothing, is_apart}
use Rattle.sbp_world.proofs.Hosts.Cores.{not_so}
use Rattle.sbp_world.proofs.Hosts.Hosted.{Cored}
use Rattle.sbp_world.proofs.Hosts.Layered.{AreTame, expire_left, is_tame, receive_left}
use Rattle.sbp_world.proofs.Hosts.Pointed.{stale_is}
use Rattle.sbp_world.proofs.Hosts.PointerNotes.{tame_told}
use Rattle.sbp_world.proofs.Hosts.PointerRuns.{stuck_same}
use Rattle.sbp_world.proofs.Hosts.PointSees.{see_left}
use Rattle.sbp_world.proofs.Hosts.Shown.{IsElsewhere}
use Rattle.sbp_world.proofs.Hosts.Runs.{count_after, count_between}
use Rattle.sbp_world.proofs.Lists.Courses.{EveryPlace}
use Rattle.sbp_world.proofs.Lists.LiveLogins.{laws}
use Rattle.sbp_world.proofs.Lists.ManageActs.{same_operation, seat_unstuck}
use Rattle.sbp_world.proofs.Lists.ManageHand.{InHand}
use Rattle.sbp_world.proofs.Lists.ManageMoments.{Hands}
use Rattle.sbp_world.proofs.Lists.ManageOwn.{AtHost, at_host}
use Rattle.sbp_world.proofs.Lists.ManageRuns.{Managed, first_managed, managed_carried}
use Rattle.sbp_world.proofs.Lists.ManageSights.{told_free, told_hands}
use Rattle.sbp_world.proofs.Lists.ManageWrites.{no_action, other_node, same_action}
use Rattle.sbp_world.proofs.Lists.ShortLines.{short_law}
use Rattle.sbp_world.proofs.Pointers.Asks.{act_allowed}

-- ---- what is known of a moment
-- what is under way of the management is a login
abbrev pub LogsIn : Host → Type 0
LogsIn host = (now : Underway) → host.operation ≡ Some now → is_management now.operation ≡ true → now.operation ≡ operations.Login

-- a packet that waits as a status block is ignored while the session is not out
abbrev pub IsInside : List Disk → List Moment → ℕ → ℕ → Type 0
IsInside start past i serial = (packet : Sending) → (terms past).sent serial ≡ Some packet → packet.to ≡ suc i → (place : ℕ) → IsTelling start past i serial place → LogsIn (host_at past i) → is_out (host_at past i).session ≡ false

abbrev pub FreeAt : List Disk → ℕ → Moment → List Moment → Type 0
FreeAt start i (said (notes.Begin initiators ready)) past = ((target_at start (said (notes.Begin initiators ready) ∷ past)).manager.operation ≡ None) × IsFree start past i
FreeAt start i (said (notes.Sent serial generation from to bytes)) past = from ≡ suc i → (action : Action) → event_of past ≡ Some (events.Act i action) → manages (operation_of action) ≡ true → IsFree start past i
FreeAt start i (said (notes.Ignored serial cause)) past = IsInside start past i serial
FreeAt start i moment past = Unit {0}

abbrev pub AreFree : List Disk → ℕ → List Moment → Type 0
AreFree start i past = EachMoment (FreeAt start i) past

-- ---- notes of others, and what is told
module _ (start : List Disk) where
  apart_free : (note : Note) (past : List Moment) (i : ℕ) → is_apart i note ≡ true → IsElsewhere past i note → AreFree start i past → AreFree start i (said note ∷ past)
  apart_free (notes.Begin initiators ready) past i e away h = untrue e
  apart_free (notes.Sent serial generation from to bytes) past i e away h = (λ f action line m. other_node from i (not_so (nat_eq from (suc i)) e) f, h)
  apart_free (notes.Ignored serial cause) past i e away h =
      (λ packet sent to place t l. (let no = away packet sent in let is : (packet.to == suc i) ≡ true = ap (λ n. n == suc i) to ∙ itself (suc i) in untrue (sym no ∙ is)), h)
  apart_free note past i e away h = (tt, h)

  tame_free : (note : Note) (past : List Moment) (i : ℕ) → is_tame note ≡ true → AreFree start i past → AreFree start i (said note ∷ past)
  tame_free (notes.Begin initiators ready) past i e h = untrue e
  tame_free (notes.Sent serial generation from to bytes) past i e h = untrue e
  tame_free (notes.Ignored serial cause) past i e h = untrue e
  tame_free note past i e h = (tt, h)

  all_tame : (told : List Side) (past : List Moment) (i : ℕ) → AreTame told → AreFree start i past → AreFree start i (behind told past)
  all_tame [] past i tame h = h
  all_tame (sides.Own note ∷ later) past i tame h = all_tame later (said note ∷ past) i tame.1 (tame_free note past i tame.0 h)
  all_tame (_ ∷ later) past i tame h = absurd tame.0

-- ---- while a block that waits is ignored
out_unstuck : (session : Session) → is_out session ≡ true → is_stuck session ≡ false
out_unstuck terms_of.out e = refl
out_unstuck terms_of.entering e = untrue e
out_unstuck terms_of.live e = untrue e
out_unstuck terms_of.held e = untrue e
out_unstuck terms_of.returning e = untrue e
out_unstuck terms_of.leaving e = untrue e
out_unstuck (terms_of.stuck had) e = untrue e

module _ (ready : Bool) (start : List Disk) (past : List Moment) (i : ℕ) (s : InitiatorState) (cored : Cored ready past i s) (hand : InHand start past i s) (serial place : ℕ) (t : IsTelling start past i serial place) (login : LogsIn (host_at past i)) where
  unstuck : is_out (host_at past i).session ≡ true → is_stuck_seat s.seat ≡ false
  unstuck e = sym (stuck_same s.seat) ∙ (ap (λ (c : Core). is_stuck c.session) (sym cored.core) ∙ out_unstuck (host_at past i).session e)

  none_there : is_out (host_at past i).session ≡ true → (r : Running) → s.operation ≡ Some r → is_management r.operation ≡ false
  none_there e r is = by (is_management r.operation) refl
    where
      a : AtHost past i r
      a = at_host past i s r cored.core is

      by : (b : Bool) → is_management r.operation ≡ b → b ≡ false
      by false f = refl
      by true f = untrue (sym (enters_core ready past i s cored a.u a.is (login a.u a.is (ap is_management a.same ∙ f))) ∙ e)

  inside : is_out (host_at past i).session ≡ false
  inside = by (is_out (host_at past i).session) refl
    where
      by : (b : Bool) → is_out (host_at past i).session ≡ b → b ≡ false
      by false e = refl
      by true e = absurd ((hand.free (none_there e) (unstuck e)).rest.silent serial place t)

-- ---- in every run
pub record Freed (ready : Bool) (start : List Disk) (past : List Moment) (i : ℕ) (s : InitiatorState) : Type 0 where
  pub managed : Managed ready start past i s
  pub free : Hands start i past → AreFree start i past

module _ (ready : Bool) (start : List Disk) where
  others : (told : List Side) (past : List Moment) (j : ℕ) (x : InitiatorState) → AreTame told → Managed ready start (behind told past) j x → Freed ready start past j x → Freed ready start (behind told past) j x
  others told past j x tame m g = record { managed = m; free = λ hands. all_tame start told past j tame (g.free (told_hands start j told past tame hands)) }

  judged_free : (serial : ℕ) (judged : Judged) (past : List Moment) (i : ℕ) (s : InitiatorState) → Freed ready start past i s → Hands start i past → AreFree start i (said (judged_note serial judged) ∷ past)
  judged_free serial judgements.Got past i s h hands = (tt, h.free hands)
  judged_free serial (judgements.Ignored cause) past i s h hands = (λ packet sent to place t login. inside ready start past i s h.managed.cored (h.managed.kept hands) serial place t login, h.free hands)

  -- an action that begins an operation of management finds none
  begins_free : (action : Action) (past : List Moment) (i : ℕ) (s : InitiatorState) → (act_step action empty_outbox s).0 ≡ None → InHand start past i s → (found : Option Operation) → operation_of action ≡ found → manages found ≡ true → IsFree start past i
  begins_free action past i s done hand None e m = untrue m
  begins_free action past i s done hand (Some operation) e m =
      let allows = act_allowed action s done in
      let none : s.operation ≡ None = subst (λ x. FreeFor x s) (sym (same_operation action) ∙ e) allows.free in
      hand.free (λ r f. none_is r (sym none ∙ f)) (seat_unstuck action s.seat allows.session)

  pub freed_carried : Carries Nothing (Freed ready start)
  freed_carried =
      let k = managed_carried ready start in
      record {
        known = λ line event past i s h. tt;
        number = λ past i s h. h.managed.cored.own.number;
        asked = λ line event past i s h. record { managed = k.asked line event past i s h.managed; free = λ f. (tt, h.free f.1) };
        apart = λ note past i s e away h. record { managed = k.apart note past i s e away h.managed; free = λ f. apart_free start note past i e away (h.free f.1) };
        sent = λ serial generation from to bytes past i s n h. record { managed = k.sent serial generation from to bytes past i s n h.managed; free = λ f. (λ own action line m. no_action i past action n line, h.free f.1) };
        hears = λ serial generation bytes past i s heard shown after h.
            let tells = k.hears serial generation bytes past i s heard shown after h.managed in
            let left = receive_left generation bytes s in
            let r = receive_step generation bytes empty_outbox s in
            let now = said (judged_note serial r.0) ∷ past in
            record {
              own = record { managed = tells.own; free = λ hands. all_tame start r.1.0.sides now i left.told (judged_free serial r.0 past i s h (told_hands start i r.1.0.sides now left.told hands).1) };
              others = λ j x e g. others r.1.0.sides now j x left.told (tells.others j x e g.managed) g;
            };
        expires = λ serial label past i s after h.
            let tells = k.expires serial label past i s after h.managed in
            let left = expire_left label s in
            let t : Turn = (expire_step label empty_outbox s).1 in
            let now = said (notes.TimedOut serial) ∷ past in
            record {
              own = record { managed = tells.own; free = λ hands. all_tame start t.0.sides now i left.told (tt, h.free (told_hands start i t.0.sides now left.told hands).1) };
              others = λ j x e g. others t.0.sides now j x left.told (tells.others j x e g.managed) g;
            };
        stale = λ label past i s e h. subst (λ (x : InitiatorState). Freed ready start past i x) (sym (stale_is ready label s e)) h;
        sees = λ generation id target past i s flag h.
            let tells = k.sees generation id target past i s flag h.managed in
            let left = see_left generation id target s in
            let t : Turn = see_step generation id target empty_outbox s in
            let now = said (notes.Seen (suc i) generation) ∷ past in
            record {
              own = record { managed = tells.own; free = λ hands. all_tame start t.0.sides now i left.told (tt, h.free (told_hands start i t.0.sides now left.told hands).1) };
              others = λ j x e g. others t.0.sides now j x left.told (tells.others j x e g.managed) g;
            };
        acts = λ action past i s under fit done shown known h.
            let does = k.acts action past i s under fit done shown tt h.managed in
            let left = act_left action s done in
            let t : Turn = (act_step action empty_outbox s).1 in
            record {
              others = λ j x e g. others t.0.sides past j x left.told (does.others j x e g.managed) g;
              quiet = λ none. record { managed = does.quiet none; free = λ hands. all_tame start t.0.sides past i left.told (h.free (told_hands start i t.0.sides past left.told hands)) };
              asking = λ packet one serial generation injected q. record {
                managed = does.asking packet one serial generation injected q;
                free = λ hands.
                    let before = told_hands start i t.0.sides past left.told hands.1 in (
                      (λ own other line m.
                          let is : other ≡ action = same_action i other action (sym line ∙ ((tame_told t.0.sides past i left.told).line ∙ under)) in
                          told_free start i t.0.sides past left.told hands.1
                          (begins_free action past i s done (h.managed.kept before) (operation_of action) refl (ap (λ a. manages (operation_of a)) (sym is) ∙ m))),
                      all_tame start t.0.sides past i left.told (h.free before),
                    );
              };
            };
      }

pub first_freed : (start : List Disk) (line i initiators : ℕ) (ready : Bool) → i < initiators → Freed ready start (said (notes.Begin initiators ready) ∷ asked line (events.Begin initiators ready) ∷ []) i (new_state i ready)
first_freed start line i initiators ready b = record {
  managed = first_managed start line initiators ready i b;
  free = λ hands. ((refl, record { none = λ s place a. none_is a.packet a.sent; rest = record { silent = λ s place a. none_is a.packet a.sent; over = λ place op h. none_is op h.is } }), (tt, tt));
}

-- of each initiator that injected no packets
abbrev pub AllFree : List Disk → List Moment → WorldState → Type 0
AllFree start past w = (i : ℕ) → i < length w.initiators → IsCalm past i → AreFree start i past

pub free_everywhere : EveryPlace AllFree
free_everywhere = record {
  after_lines = λ line run r has small size so_far i within calm.
      (of_runs (Freed run.ready run.start.disks) (freed_carried run.ready run.start.disks) line run (λ entries few short all fit j c. tt) (λ j c. first_freed run.start.disks line j run.initiators run.ready c) r i (subst (λ n. i < n) (count_after run run.entries) within)).free
      (((laws short_law).after_lines line run r has small size so_far).hands i within calm);
  between = λ line run r has small size next most told m so_far i within calm.
      (between_runs (Freed run.ready run.start.disks) (freed_carried run.ready run.start.disks) line run (λ entries few short all fit j c. tt) (λ j c. first_freed run.start.disks line j run.initiators run.ready c) r next most told m i
      (subst (λ n. i < n) (count_between told (after (beginning run) run.entries) ∙ count_after run run.entries) within)).free
      (((laws short_law).between line run r has small size next most told m so_far).hands i within calm);
}
