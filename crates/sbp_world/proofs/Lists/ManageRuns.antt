-- In every run one management operation of an initiator is in hand at a time, where each moment is as the wire, the target and the initiators make it.
use Rattle.sbp_world.proofs.Words.Std.{◌≡◌, ◌∙◌, refl, sym, ap, subst, ℕ, suc, ◌≤◌, ◌<◌, Bool, List, [], ◌∷◌, ◌++◌, map, length, Option, Some, None}
use Rattle.sbp_world.proofs.Words.Wire.{judged_note, empty_outbox, Moment, asked, said, Side}
use Rattle.sbp_world.proofs.Words.Target.{Disk, Told}
use Rattle.sbp_world.proofs.Words.Initiator.{InitiatorState, act_step, Turn, new_state, expire_step, receive_step, see_step}
use Rattle.sbp_world.proofs.Words.Laws.{Underway, is_management, is_stuck}
use Rattle.sbp_world.proofs.Words.World.{history_of, Run, after, beginning, MayAll, after_all, begun, initiator_at, behind, Core, work_in, work_of, IsRun, more_deliveries, IsFree, IsManaged, ManagingLaw, IsCalm, OpenBefore, OpenBetween}
use Rattle.sbp_journal.specs.declared.event.Event.TheVariants as events
use Rattle.sbp_journal.specs.declared.note.Note.TheVariants as notes
use Rattle.sbp_world.proofs.Hosts.ActLeft.{act_left}
use Rattle.sbp_world.proofs.Hosts.Aimed.{IsAimed, aimed_carried, first_aimed}
use Rattle.sbp_world.proofs.Hosts.Carried.{between_runs, of_runs}
use Rattle.sbp_world.proofs.Hosts.Carries.{Carries, Nothing}
use Rattle.sbp_world.proofs.Hosts.Hosted.{Cored, cored_carried, first_cored}
use Rattle.sbp_world.proofs.Hosts.Layered.{AreTame, expire_left, receive_left}
use Rattle.sbp_world.proofs.Hosts.Pointed.{stale_is}
use Rattle.sbp_world.proofs.Hosts.PointSees.{see_left}
use Rattle.sbp_world.proofs.Lists.ManageBegins.{asking_hand, quiet_hand}
use Rattle.sbp_world.proofs.Lists.ManageFirsts.{told_first}
use Rattle.sbp_world.proofs.Lists.ManageHand.{InHand, Own, apart_hand, keeps, line_hand, sent_hand}
use Rattle.sbp_world.proofs.Lists.ManageLabels.{first_asks, told_asks}
use Rattle.sbp_world.proofs.Lists.ManageMoments.{Hands}
use Rattle.sbp_world.proofs.Lists.ManageOwn.{at_host, hears_hand}
use Rattle.sbp_world.proofs.Lists.ManageSees.{sees_hand}
use Rattle.sbp_world.proofs.Lists.ManageSights.{told_busy, told_free, told_hands}
use Rattle.sbp_world.proofs.Lists.ManageTerms.{none_is}
use Rattle.sbp_world.proofs.Lists.ManageTurns.{expires_hand}
use Rattle.sbp_world.proofs.Hosts.PointerRuns.{stuck_same}

pub record Managed (ready : Bool) (start : List Disk) (past : List Moment) (i : ℕ) (s : InitiatorState) : Type 0 where
  pub cored : Cored ready past i s
  pub aimed : IsAimed ready i s
  pub kept : Hands start i past → InHand start past i s

-- what another one tells
others_hand : (start : List Disk) (told : List Side) (past : List Moment) (j : ℕ) (x : InitiatorState) → AreTame told → Hands start j (behind told past) → InHand start past j x → InHand start (behind told past) j x
others_hand start told past j x tame hands k =
    keeps start past (behind told past) j x (told_free start j told past tame hands) (told_busy start j told past tame hands) (told_first told past j tame) (told_asks (Own past j x) told past j x.target x.layer tame k.labels) k

module _ (ready : Bool) (start : List Disk) where
  abbrev P : List Moment → ℕ → InitiatorState → Type 0
  P past i s = Managed ready start past i s

  others : (told : List Side) (past : List Moment) (j : ℕ) (x : InitiatorState) → AreTame told → Cored ready (behind told past) j x → P past j x → P (behind told past) j x
  others told past j x tame c g = record { cored = c; aimed = g.aimed; kept = λ hands. others_hand start told past j x tame hands (g.kept (told_hands start j told past tame hands)) }

  pub managed_carried : Carries Nothing (Managed ready start)
  managed_carried = record {
    known = λ line event past i s h. tt;
    number = λ past i s h. h.cored.own.number;
    asked = λ line event past i s h. record {
      cored = (cored_carried ready).asked line event past i s h.cored;
      aimed = h.aimed;
      kept = λ f. line_hand start line event past i s f.0 (h.kept f.1);
    };
    apart = λ note past i s e w h. record {
      cored = (cored_carried ready).apart note past i s e w h.cored;
      aimed = h.aimed;
      kept = λ f. apart_hand start note past i s e w f.0 (h.kept f.1);
    };
    sent = λ serial generation from to bytes past i s n h. record {
      cored = (cored_carried ready).sent serial generation from to bytes past i s n h.cored;
      aimed = h.aimed;
      kept = λ f. sent_hand start serial generation from to bytes past i s f.0 n (h.kept f.1);
    };
    hears = λ serial generation bytes past i s heard shown after h.
        let tells = (cored_carried ready).hears serial generation bytes past i s heard shown after h.cored in
        let aims = (aimed_carried ready).hears serial generation bytes past i s heard shown after h.aimed in
        let left = receive_left generation bytes s in
        let t : Turn = (receive_step generation bytes empty_outbox s).1 in
        let now = said (judged_note serial (receive_step generation bytes empty_outbox s).0) ∷ past in
        record {
          own = record {
            cored = tells.own;
            aimed = aims.own;
            kept = λ hands. hears_hand ready start serial generation bytes past i s heard shown after h.cored h.aimed (h.kept (told_hands start i t.0.sides now left.told hands).1) left.told hands left;
          };
          others = λ j x e g. others t.0.sides now j x left.told (tells.others j x e g.cored) g;
        };
    expires = λ serial label past i s after h.
        let tells = (cored_carried ready).expires serial label past i s after h.cored in
        let aims = (aimed_carried ready).expires serial label past i s after h.aimed in
        let left = expire_left label s in
        let t : Turn = (expire_step label empty_outbox s).1 in
        let now = said (notes.TimedOut serial) ∷ past in
        record {
          own = record {
            cored = tells.own;
            aimed = aims.own;
            kept = λ hands. expires_hand ready start serial label past i s after h.cored (h.kept (told_hands start i t.0.sides now left.told hands).1) left.told hands left;
          };
          others = λ j x e g. others t.0.sides now j x left.told (tells.others j x e g.cored) g;
        };
    stale = λ label past i s e h. subst (λ (x : InitiatorState). Managed ready start past i x) (sym (stale_is ready label s e)) h;
    sees = λ generation id target past i s flag h.
        let tells = (cored_carried ready).sees generation id target past i s flag h.cored in
        let aims = (aimed_carried ready).sees generation id target past i s flag h.aimed in
        let left = see_left generation id target s in
        let t : Turn = see_step generation id target empty_outbox s in
        let now = said (notes.Seen (suc i) generation) ∷ past in
        record {
          own = record {
            cored = tells.own;
            aimed = aims.own;
            kept = λ hands. sees_hand ready start generation id target past i s flag h.aimed (h.kept (told_hands start i t.0.sides now left.told hands).1) left.told hands;
          };
          others = λ j x e g. others t.0.sides now j x left.told (tells.others j x e g.cored) g;
        };
    acts = λ action past i s under fit done shown known h.
        let does = (cored_carried ready).acts action past i s under fit done shown tt h.cored in
        let aims = (aimed_carried ready).acts action past i s under fit done shown tt h.aimed in
        let left = act_left action s done in
        let t : Turn = (act_step action empty_outbox s).1 in
        record {
          others = λ j x e g. others t.0.sides past j x left.told (does.others j x e g.cored) g;
          quiet = λ none. record {
            cored = does.quiet none;
            aimed = aims.quiet none;
            kept = λ hands. quiet_hand ready start action past i s under done shown h.cored (h.kept (told_hands start i t.0.sides past left.told hands)) left none hands;
          };
          asking = λ packet one serial generation injected q. record {
            cored = does.asking packet one serial generation injected q;
            aimed = aims.asking packet one serial generation injected q;
            kept = λ hands. asking_hand ready start action past i s under done shown h.cored (h.kept (told_hands start i t.0.sides past left.told hands.1)) left packet one serial generation injected q hands;
          };
        };
  }

-- ---- the beginning

pub first_none : (i : ℕ) (ready : Bool) → (new_state i ready).operation ≡ None
unfolding new_state
first_none i ready = refl

no_work : (u : Underway) → work_of (Some u) ≡ work_in None → ⊥
no_work u e = none_is _ (sym e)

module _ (start : List Disk) (line initiators : ℕ) (ready : Bool) where
  abbrev first : List Moment
  first = said (notes.Begin initiators ready) ∷ asked line (events.Begin initiators ready) ∷ []

  first_free : (i : ℕ) → IsFree start first i
  first_free i = record {
    none = λ s place a. none_is a.packet a.sent;
    rest = record { silent = λ s place a. none_is a.packet a.sent; over = λ place op h. none_is op h.is };
  }

  pub first_managed : (i : ℕ) → i < initiators → Managed ready start first i (new_state i ready)
  first_managed i b =
      let c = first_cored line i initiators ready b in
      record {
        cored = c;
        aimed = first_aimed i ready;
        kept = λ hands. record {
          free = λ x n. first_free i;
          busy = λ u e m. absurd (no_work u (ap work_of (sym e) ∙ ap (λ (k : Core). k.work) c.core ∙ ap work_in (first_none i ready)));
          labels = first_asks (Own first i (new_state i ready)) first i ready;
        };
      }

-- ---- what it is by the run

pub managed_of : (ready : Bool) (start : List Disk) (past : List Moment) (i : ℕ) (s : InitiatorState) → Managed ready start past i s → Hands start i past → IsManaged start past i
managed_of ready start past i s h hands =
    let k = h.kept hands in
    record {
      free = λ x n. k.free (λ r e. (let a = at_host past i s r h.cored.core e in ap is_management (sym a.same) ∙ x a.u a.is)) (sym (stuck_same s.seat) ∙ ap (λ (c : Core). is_stuck c.session) (sym h.cored.core) ∙ n);
      busy = k.busy;
    }

-- ---- the law, of what each moment is

pub record HandsLaw : Type 0 where
  pub after_lines : (line : ℕ) (run : Run) → IsRun run → 0 < run.units → run.units ≤ 4 → length run.start.disks ≡ run.units → OpenBefore line run run.entries → (i : ℕ) → i < run.initiators → IsCalm (history_of line run) i → Hands run.start.disks i (history_of line run)
  pub between : (line : ℕ) (run : Run) → IsRun run → 0 < run.units → run.units ≤ 4 → length run.start.disks ≡ run.units → (next : ℕ) (most : Option ℕ) (told : List (Option Told)) → MayAll told (begun (after (beginning run) run.entries)) → OpenBetween line run next (more_deliveries most) told → (i : ℕ) → i < run.initiators → (let w = (after_all told (begun (after (beginning run) run.entries))).world in let now = map said w.fresh ++ asked next (more_deliveries most) ∷ history_of line run in IsCalm now i → Hands run.start.disks i now)

pub managing_by : HandsLaw → ManagingLaw
managing_by law = record {
  after_lines = λ line run r u v d o i b calm.
      managed_of run.ready run.start.disks (history_of line run) i (initiator_at (after (beginning run) run.entries).world i)
      (of_runs (Managed run.ready run.start.disks) (managed_carried run.ready run.start.disks) line run (λ entries few short all fit j c. tt) (λ j c. first_managed run.start.disks line run.initiators run.ready j c) r i b)
      (law.after_lines line run r u v d o i b calm);
  between = λ line run r u v d next most told m o i b calm.
      (let w = (after_all told (begun (after (beginning run) run.entries))).world in
      managed_of run.ready run.start.disks (map said w.fresh ++ asked next (more_deliveries most) ∷ history_of line run) i (initiator_at w i)
      (between_runs (Managed run.ready run.start.disks) (managed_carried run.ready run.start.disks) line run (λ entries few short all fit j c. tt) (λ j c. first_managed run.start.disks line run.initiators run.ready j c) r next most told m i b)
      (law.between line run r u v d next most told m o i b calm));
}
