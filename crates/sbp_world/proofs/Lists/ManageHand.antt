-- What is in hand of an initiator's management, by what the initiator has: it stays as others tell and do something.
use Rattle.sbp_world.proofs.Words.Std.{arith, ◌≡◌, ◌∙◌, refl, sym, ap, subst, ℕ, suc, nat_eq, true, false, List, ◌∷◌, Option, Some, nat_tests}
use Rattle.sbp_world.proofs.Words.Wire.{Moment, asked, said, Sending, terms, Event, Note}
use Rattle.sbp_world.proofs.Words.Target.{Disk}
use Rattle.sbp_world.proofs.Words.Initiator.{Running, InitiatorState, is_stuck_seat}
use Rattle.sbp_world.proofs.Words.Laws.{Underway, host_at, is_management, event_of}
use Rattle.sbp_world.proofs.Words.World.{IsAsking, IsBusy, IsFree}
use Rattle.sbp_journal.specs.declared.note.Note.TheVariants as notes
use Rattle.sbp_world.proofs.Hosts.Carries.{IsNoAct, is_apart}
use Rattle.sbp_world.proofs.Hosts.PointerNotes.{apart_passes}
use Rattle.sbp_world.proofs.Hosts.Shown.{IsElsewhere}
use Rattle.sbp_world.proofs.Lists.ManageFirsts.{Goes, is_begin, line_first, note_first, other_first, sent_first}
use Rattle.sbp_world.proofs.Lists.ManageGot.{got_busy, got_free}
use Rattle.sbp_world.proofs.Lists.ManageLabels.{Asks, asks_to, line_asks, sent_asks, still_asks}
use Rattle.sbp_world.proofs.Lists.ManageMoments.{IsActing, MayHand, SendFacts, is_quiet, line_calm, quiet_calm}
use Rattle.sbp_world.proofs.Lists.ManageSends.{sent_is, sent_terms}
use Rattle.sbp_world.proofs.Lists.ManageSent.{sent_busy, sent_free}
use Rattle.sbp_world.proofs.Lists.ManageSights.{sight_calm}
use Rattle.sbp_world.proofs.Lists.ManageStays.{calm_busy, calm_free}
use Rattle.sbp_world.proofs.Hosts.Cores.{not_so}
use Rattle.sbp_world.proofs.Wire.Latest.{differ_by}
use Rattle.sbp_world.proofs.Common.{untrue}

-- a write of MANAGEMENT_AGENT is that of the operation under way, where it is of its action
abbrev pub Own : List Moment → ℕ → InitiatorState → (act serial : ℕ) → Type 0
Own past i s act serial = (r : Running) → s.operation ≡ Some r → r.act ≡ act → is_management r.operation ≡ true → (u : Underway) → (host_at past i).operation ≡ Some u → u.first ≡ serial

pub record InHand (start : List Disk) (past : List Moment) (i : ℕ) (s : InitiatorState) : Type 0 where
  pub free : ((r : Running) → s.operation ≡ Some r → is_management r.operation ≡ false) → is_stuck_seat s.seat ≡ false → IsFree start past i
  pub busy : (u : Underway) → (host_at past i).operation ≡ Some u → is_management u.operation ≡ true → IsBusy start past i u.place u.first
  pub labels : Asks past i s.target s.layer (Own past i s)

-- the operation under way at the host is the one before
module _ (start : List Disk) (past now : List Moment) (i : ℕ) (busy : (place write : ℕ) → IsBusy start past i place write → IsBusy start now i place write) (goes : Goes (host_at past i) (host_at now i)) where
  pub busy_on : ((u : Underway) → (host_at past i).operation ≡ Some u → is_management u.operation ≡ true → IsBusy start past i u.place u.first) → (u : Underway) → (host_at now i).operation ≡ Some u → is_management u.operation ≡ true → IsBusy start now i u.place u.first
  busy_on k u e m =
      let w = goes.on u e in
      let b = busy w.was.place w.was.first (k w.was w.is (ap is_management w.operation ∙ m)) in
      subst (λ n. IsBusy start now i u.place n) w.first (subst (λ n. IsBusy start now i n w.was.first) w.place b)

pub own_on : (past now : List Moment) (i : ℕ) (s : InitiatorState) → Goes (host_at past i) (host_at now i) → (act serial : ℕ) → Own past i s act serial → Own now i s act serial
own_on past now i s goes act serial h = λ r e f m u g. (let w = goes.on u g in sym w.first ∙ h r e f m w.was w.is)

pub keeps : (start : List Disk) (past now : List Moment) (i : ℕ) (s : InitiatorState) → (IsFree start past i → IsFree start now i) → ((place write : ℕ) → IsBusy start past i place write → IsBusy start now i place write) → Goes (host_at past i) (host_at now i) → Asks now i s.target s.layer (Own past i s) → InHand start past i s → InHand start now i s
keeps start past now i s free busy goes labels h = record {
  free = λ none unstuck. free (h.free none unstuck);
  busy = busy_on start past now i busy goes h.busy;
  labels = asks_to (Own past i s) (Own now i s) (own_on past now i s goes) labels;
}

pub line_hand : (start : List Disk) (line : ℕ) (event : Event) (past : List Moment) (i : ℕ) (s : InitiatorState) → MayHand start i (asked line event) past → InHand start past i s → InHand start (asked line event ∷ past) i s
line_hand start line event past i s f h =
    let c = line_calm start line event past i f in
    keeps start past (asked line event ∷ past) i s (calm_free c) (calm_busy c) (line_first line event past i) (line_asks (Own past i s) line event past i s.target s.layer h.labels) h

-- ---- a packet is sent

from_of : (serial generation from to : ℕ) (bytes : List ℕ) (past : List Moment) (p : Sending) → (terms (said (notes.Sent serial generation from to bytes) ∷ past)).sent serial ≡ Some p → from ≡ p.from
from_of serial generation from to bytes past p e =
    let t = terms past in
    let q : Sending = record { generation = generation; from = from; to = to; bytes = bytes; injected = t.injected serial } in
    ap (λ (x : Sending). x.from) (sent_is serial q p t.sent (sym (ap (λ (g : ℕ → Option Sending). g serial) (sent_terms serial q t).sent) ∙ e))

-- of another node it is none that asks
pub other_asks_none : (serial generation from to : ℕ) (bytes : List ℕ) (start : List Disk) (past : List Moment) (i : ℕ) → nat_eq from (suc i) ≡ false → SendFacts start past i serial generation from to bytes → (place : ℕ) → IsAsking (said (notes.Sent serial generation from to bytes) ∷ past) i serial place → ⊥
other_asks_none serial generation from to bytes start past i e f place a =
    let x = from_of serial generation from to bytes past a.packet a.sent in differ_by from (suc i) e (x ∙ a.from_is)

-- in a line that is no action of the initiator neither
module _ (i : ℕ) (past : List Moment) where
  no_action : (place : ℕ) → IsNoAct i (event_of past) → IsActing past i place → ⊥
  no_action place n a =
      let m = subst (IsNoAct i) a.line n in
      untrue (sym m ∙ (let x : nat_eq i i ≡ true = grind (arith, nat_tests) in x))

module _ (start : List Disk) (serial generation from to : ℕ) (bytes : List ℕ) (past : List Moment) (i : ℕ) (s : InitiatorState) (f : SendFacts start past i serial generation from to bytes) where
  abbrev now : List Moment
  now = said (notes.Sent serial generation from to bytes) ∷ past

  sent_hand_by : ((place : ℕ) → IsAsking now i serial place → ⊥) → Goes (host_at past i) (host_at now i) → InHand start past i s → InHand start now i s
  sent_hand_by quiet goes h =
      keeps start past now i s (sent_free start past i serial generation from to bytes f.facts quiet) (sent_busy start past i serial generation from to bytes f.facts quiet) goes
      (sent_asks (Own past i s) serial generation from to bytes past i s.target s.layer f.fit h.labels) h

  pub sent_hand : IsNoAct i (event_of past) → InHand start past i s → InHand start now i s
  sent_hand n h = sent_hand_by (λ place a. no_action i past place n (f.acts place a)) (sent_first serial generation from to bytes past i n) h

  pub other_hand : nat_eq from (suc i) ≡ false → InHand start past i s → InHand start now i s
  other_hand e h = sent_hand_by (other_asks_none serial generation from to bytes start past i e f) (other_first serial generation from to bytes past i e) h

-- ---- a note that says nothing of the initiator

module _ (start : List Disk) (past : List Moment) (i : ℕ) (s : InitiatorState) (note : Note) (apart : is_apart i note ≡ true) (elsewhere : IsElsewhere past i note) where
  apart_keeps : is_begin note ≡ false → (IsFree start past i → IsFree start (said note ∷ past) i) → ((place write : ℕ) → IsBusy start past i place write → IsBusy start (said note ∷ past) i place write) → InHand start past i s → InHand start (said note ∷ past) i s
  apart_keeps b free busy h =
      let p = apart_passes note past i apart elsewhere in
      keeps start past (said note ∷ past) i s free busy (note_first note past i b) (still_asks (Own past i s) past (said note ∷ past) i s.target s.layer p.held p.count h.labels) h

  apart_quiet : is_begin note ≡ false → is_quiet note ≡ true → MayHand start i (said note) past → InHand start past i s → InHand start (said note ∷ past) i s
  apart_quiet b q f h = let c = quiet_calm start i note past q f in apart_keeps b (calm_free c) (calm_busy c) h

pub apart_hand : (start : List Disk) (note : Note) (past : List Moment) (i : ℕ) (s : InitiatorState) → is_apart i note ≡ true → IsElsewhere past i note → MayHand start i (said note) past → InHand start past i s → InHand start (said note ∷ past) i s
apart_hand start (notes.Begin initiators ready) past i s e w f h = untrue e
apart_hand start (notes.Sent serial generation from to bytes) past i s e w f h = other_hand start serial generation from to bytes past i s f (not_so (nat_eq from (suc i)) e) h
apart_hand start (notes.Got serial) past i s e w f h = apart_keeps start past i s (notes.Got serial) e w refl (got_free start past i serial f.packet f.facts) (got_busy start past i serial f.packet f.facts) h
apart_hand start (notes.Seen node generation) past i s e w f h =
    let c = sight_calm start node generation past i (not_so (nat_eq node (suc i)) e) f.none in
    apart_keeps start past i s (notes.Seen node generation) e w refl (calm_free c) (calm_busy c) h
apart_hand start note past i s e w f h = apart_quiet start past i s note e w refl refl f h
