-- In every run what the history says of the ORBs of an initiator lasts.
use Rattle.sbp_world.proofs.Words.Std.{arith, ◌≡◌, refl, sym, ap, subst, ◌∙◌, ℕ, zero, suc, ◌+◌, ◌-◌, ◌==◌, not, is_some, Bool, true, false, List, [], ◌∷◌, ◌++◌, Option, Some, None}
use Rattle.sbp_world.proofs.Words.Wire.{judged_note, buffer_of, empty_outbox, Moment, asked, said, Action, Cmd}
use Rattle.sbp_world.proofs.Words.Initiator.{Linking, SlotTable, orb_number, waits_high, InitiatorState, act_step, Turn, new_state, expire_step, receive_step, see_step, own}
use Rattle.sbp_world.proofs.Words.Laws.{action_notes, append_notes, new_list, new_number, appends, event_of}
use Rattle.sbp_world.proofs.Words.World.{behind, AreRows, LastingLaw, Lasts, ReadAs}
use Rattle.sbp_journal.specs.declared.event.Action.TheVariants as actions
use Rattle.sbp_journal.specs.declared.event.Event.TheVariants as events
use Rattle.sbp_journal.specs.declared.note.Note.TheVariants as notes
use Rattle.sbp_world.proofs.Hosts.Acts.{Goes}
use Rattle.sbp_world.proofs.Hosts.Carried.{between_runs, of_runs}
use Rattle.sbp_world.proofs.Hosts.Carries.{Carries, Does, IsLineOf, Tells}
use Rattle.sbp_world.proofs.Hosts.LastingTerms.{AllLast, append_all, dummy_all, from_there, lasts, left_all, link_all, low_all, one_more, same_all, still_all}
use Rattle.sbp_world.proofs.Hosts.OrbLinks.{waits_for}
use Rattle.sbp_world.proofs.Hosts.OrbRuns.{Orbs, Rowed, first_orbs, goes, orbs_carried, rows_known}
use Rattle.sbp_world.proofs.Hosts.OrbTells as tell
use Rattle.sbp_world.proofs.Hosts.OrbTerms.{AreLeft, AreStill, orbs_apart, orbs_left}
use Rattle.sbp_world.proofs.Hosts.Passes.{judged_apart}
use Rattle.sbp_world.proofs.Hosts.Readings.{read_as}
use Rattle.sbp_world.proofs.Hosts.Telling.{action_law}

-- ---- the notes of an action

-- those of another initiator
append_left : (i j n k : ℕ) (cmd : Cmd) → (j == i) ≡ false → AreLeft j (append_notes i n k cmd)
append_left i j n zero cmd e = (ap not e, (refl, tt))
append_left i j n (suc k) cmd e = (ap not e, (ap not e, (ap not e, (refl, tt))))

action_left : (action : Action) (past : List Moment) (i j : ℕ) → (j == i) ≡ false → AreLeft j (action_notes action past i)
action_left (actions.Put cmd) past i j e = (ap not e, tt)
action_left (actions.Append cmd) past i j e = append_left i j (new_list past i) (new_number past i) cmd e
action_left actions.Low past i j e = (ap not e, tt)
action_left actions.Link past i j e = (ap not e, tt)
action_left actions.Ring past i j e = (refl, tt)
action_left (actions.Dummy k) past i j e = (ap not e, tt)
action_left (actions.Abort k) past i j e = tt
action_left actions.Rom past i j e = tt
action_left actions.AgentReset past i j e = tt
action_left actions.State past i j e = tt
action_left actions.Enable past i j e = tt
action_left (actions.Login unit reconnect exclusive password) past i j e = tt
action_left (actions.Query unit) past i j e = tt
action_left actions.Reconnect past i j e = tt
action_left actions.Logout past i j e = tt
action_left actions.AbortSet past i j e = tt
action_left actions.UnitReset past i j e = tt
action_left actions.TargetReset past i j e = tt

-- an ORB is appended, and linked behind another one
added_all : (past : List Moment) (i n k : ℕ) (cmd : Cmd) → k ≡ appends past i n → AllLast past i → AllLast (behind (own (append_notes i n k cmd)) past) i
added_all past i n zero cmd new h =
    let put = said (notes.Append i n 0 cmd.cdb (buffer_of cmd)) ∷ past in
    let a = append_all past i h n 0 cmd.cdb (buffer_of cmd) new in
    same_all put i a (said (notes.Rung i n 0)) refl
added_all past i n (suc k) cmd new h =
    let put = said (notes.Append i n (suc k) cmd.cdb (buffer_of cmd)) ∷ past in
    let low = said (notes.Low i n (suc k)) ∷ put in
    let linked = said (notes.Linked i n (suc k)) ∷ low in
    let a = append_all past i h n (suc k) cmd.cdb (buffer_of cmd) new in
    let b = low_all put i a n (suc k) in
    let c = link_all low i b n (suc k) (ap suc new ∙ sym (one_more past i n (suc k) cmd.cdb (buffer_of cmd))) in
    same_all linked i c (said (notes.Rung i n (suc k))) refl

-- the ORB that waits for its link is the latest one
latest_number : (found : Option Linking) (s : SlotTable) → waits_high s.present ≡ found → not (is_some found) ≡ false → (number : ℕ) × (orb_number s.present ≡ number + 1)
latest_number None s e f = absurd (differ f)
  where
    differ : true ≡ false → ⊥
    differ e = cc
latest_number (Some linking) s e f =
    let q = waits_for s.present linking e in (q.list.tail.number, ap orb_number q.is)

behind_one : (a number : ℕ) → a ≡ number + 1 → suc (a - 1) ≡ a
behind_one a number e = omega arith

module _ (past : List Moment) (i : ℕ) (s : InitiatorState) (rows : AreRows past i s.lists.slots) (h : AllLast past i) where
  read : ReadAs past i s.lists.slots
  read = read_as past i s.lists.slots rows

  action_all : (action : Action) → Goes action s → AllLast (behind (own (action_notes action past i)) past) i
  action_all (actions.Put cmd) g = append_all past i h (new_list past i) (new_number past i) cmd.cdb (buffer_of cmd) refl
  action_all (actions.Append cmd) g = added_all past i (new_list past i) (new_number past i) cmd refl h
  action_all actions.Low g = low_all past i h (new_list past i) (new_number past i - 1)
  action_all actions.Link g =
      let f = latest_number (waits_high s.lists.slots.present) s.lists.slots refl g.rows.not_linking in
      link_all past i h (new_list past i) (new_number past i - 1) (behind_one (new_number past i) f.0 (read.number ∙ f.1))
  action_all actions.Ring g = left_all (action_notes actions.Ring past i) past i (refl, tt) h
  action_all (actions.Dummy k) g = dummy_all past i h (new_list past i) k
  action_all (actions.Abort k) g = h
  action_all actions.Rom g = h
  action_all actions.AgentReset g = h
  action_all actions.State g = h
  action_all actions.Enable g = h
  action_all (actions.Login unit reconnect exclusive password) g = h
  action_all (actions.Query unit) g = h
  action_all actions.Reconnect g = h
  action_all actions.Logout g = h
  action_all actions.AbortSet g = h
  action_all actions.UnitReset g = h
  action_all actions.TargetReset g = h

-- ---- a run

pub record Lasting (ready : Bool) (past : List Moment) (i : ℕ) (s : InitiatorState) : Type 0 where
  pub orbs : Orbs ready past i s
  pub all : AllLast past i

module _ (ready : Bool) where
  tells_on : (past : List Moment) (i : ℕ) (t : Turn) → AreStill t.0.sides → Tells (Orbs ready) past i t → AllLast past i → Tells (Lasting ready) past i t
  tells_on past i t q orbs h = record {
    own = record { orbs = orbs.own; all = still_all t.0.sides past i q h };
    others = λ j x e k. record { orbs = orbs.others j x e k.orbs; all = still_all t.0.sides past j q k.all };
  }

  module _ (action : Action) (past : List Moment) (i : ℕ) (s : InitiatorState) (line : event_of past ≡ Some (events.Act i action)) (fit : IsLineOf action) (no_refusal : (act_step action empty_outbox s).0 ≡ None) (known : Rowed past i s) (h : Lasting ready past i s) where
    abbrev t : Turn
    t = (act_step action empty_outbox s).1

    sides_are : t.0.sides ≡ own (action_notes action past i)
    sides_are =
        action_law.notes past s action empty_outbox (subst (λ j. AreRows past j s.lists.slots) (sym h.orbs.number) known.rows) no_refusal
        ∙ ap (λ j. own (action_notes action past j)) h.orbs.number

    own_all : AllLast (behind t.0.sides past) i
    own_all = subst (λ told. AllLast (behind told past) i) (sym sides_are) (action_all past i s known.rows h.all action (goes action empty_outbox s no_refusal))

    others_last : (j : ℕ) → (j == i) ≡ false → AllLast past j → AllLast (behind t.0.sides past) j
    others_last j e k = subst (λ told. AllLast (behind told past) j) (sym sides_are) (left_all (action_notes action past i) past j (action_left action past i j e) k)

    does_on : Does (Orbs ready) past i t → Does (Lasting ready) past i t
    does_on d = record {
      others = λ j x e k. record { orbs = d.others j x e k.orbs; all = others_last j e k.all };
      quiet = λ silent. record { orbs = d.quiet silent; all = own_all };
      asking = λ packet one serial generation f q. record {
        orbs = d.asking packet one serial generation f q;
        all = same_all (behind t.0.sides past) i own_all (said (notes.Sent serial generation (suc i) 0 packet.bytes)) (orbs_left (notes.Sent serial generation (suc i) 0 packet.bytes) (behind t.0.sides past) i refl);
      };
    }

  pub lasting_carried : Carries Rowed (Lasting ready)
  lasting_carried =
      let c = orbs_carried ready in
      record {
        known = λ line event past i s r. c.known line event past i s r;
        number = λ past i s h. h.orbs.number;
        asked = λ line event past i s h. record { orbs = c.asked line event past i s h.orbs; all = same_all past i h.all (asked line event) refl };
        apart = λ note past i s e elsewhere h. record { orbs = c.apart note past i s e elsewhere h.orbs; all = same_all past i h.all (said note) (orbs_apart note past i e) };
        sent = λ serial generation from to bytes past i s n h. record {
          orbs = c.sent serial generation from to bytes past i s n h.orbs;
          all = same_all past i h.all (said (notes.Sent serial generation from to bytes)) (orbs_left (notes.Sent serial generation from to bytes) past i refl);
        };
        hears = λ serial generation bytes past i s heard shown after h.
            let note = judged_note serial (receive_step generation bytes empty_outbox s).0 in
            tells_on (said note ∷ past) i (receive_step generation bytes empty_outbox s).1 (tell.receives generation bytes empty_outbox s tt) (c.hears serial generation bytes past i s heard shown after h.orbs)
            (same_all past i h.all (said note) (orbs_apart note past i (judged_apart serial (receive_step generation bytes empty_outbox s).0 i)));
        expires = λ serial label past i s shown h.
            tells_on (said (notes.TimedOut serial) ∷ past) i (expire_step label empty_outbox s).1 (tell.expires label empty_outbox s tt) (c.expires serial label past i s shown h.orbs)
            (same_all past i h.all (said (notes.TimedOut serial)) refl);
        stale = λ label past i s e h. record { orbs = c.stale label past i s e h.orbs; all = h.all };
        sees = λ generation id target past i s e h.
            tells_on (said (notes.Seen (suc i) generation) ∷ past) i (see_step generation id target empty_outbox s) (tell.sees generation id target empty_outbox s tt) (c.sees generation id target past i s e h.orbs)
            (same_all past i h.all (said (notes.Seen (suc i) generation)) refl);
        acts = λ action past i s line fit d shown known h. does_on action past i s line fit d known h (c.acts action past i s line fit d shown known h.orbs);
      }

pub first_lasting : (line i initiators : ℕ) (ready : Bool) → Lasting ready (said (notes.Begin initiators ready) ∷ asked line (events.Begin initiators ready) ∷ []) i (new_state i ready)
first_lasting line i initiators ready =
    let first = asked line (events.Begin initiators ready) ∷ [] in
    record {
      orbs = first_orbs line i initiators ready;
      all = same_all first i (same_all [] i tt (asked line (events.Begin initiators ready)) refl) (said (notes.Begin initiators ready)) refl;
    }

-- from a moment of a history on
pub from_moment : (later before past : List Moment) (i : ℕ) → later ++ before ≡ past → AllLast past i → Lasts before past i
from_moment later before past i e h =
    subst (λ ms. Lasts before ms i) e
    (let f = from_there later before i (subst (λ ms. AllLast ms i) (sym e) h) in lasts before (later ++ before) i f.0 f.1)

pub lasting_law : LastingLaw
lasting_law = record {
  lasts = λ line run q i b later before e.
      from_moment later before _ i e (of_runs (Lasting run.ready) (lasting_carried run.ready) line run (rows_known line run) (λ j c. first_lasting line j run.initiators run.ready) q i b).all;
  between = λ line run q next most told m i b later before e.
      from_moment later before _ i e (between_runs (Lasting run.ready) (lasting_carried run.ready) line run (rows_known line run) (λ j c. first_lasting line j run.initiators run.ready) q next most told m i b).all;
}
