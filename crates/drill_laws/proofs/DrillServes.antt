-- What is known of a drill, moment by moment, so that each ring is answered complete: which packets an initiator sent, what the target answered, and that an agent is fresh until ORB_POINTER comes to it.
use Rattle.std.proofs.Common.{◌≡◌, ◌∙◌, refl, sym, ap, subst, ℕ, suc, ◌<◌, ◌≤◌, ◌==◌, Bool, true, false, cond, List, ◌∷◌, Option, Some, None, arith}
use Rattle.async_packet.specs.Fields.{rcode_of}
use Rattle.orb_layout.specs.Replies.{Answer, Done}
use Rattle.rbc_disk.specs.Disk.{Disk}
use Rattle.sbp_journal.specs.Addresses.{Access}
use Rattle.sbp_journal.specs.Run.{Moment, said}
use Rattle.sbp_journal.specs.Transactions.{Kind, Sending, part_of, response}
use Rattle.sbp_journal.specs.Wire.{Terms, noted, terms}
use Rattle.sbp_journal.specs.declared.note.Note.{Note}
use Rattle.sbp_journal.specs.declared.note.Note.TheVariants as notes
use Rattle.sbp_laws.specs.Budget.{flies}
use Rattle.sbp_laws.specs.Hosts.{Host, got_by, host_at, host_by, known_host, pointer_answered}
use Rattle.sbp_laws.specs.Lists.{present_list}
use Rattle.sbp_laws.specs.Packets.{access_in_bytes}
use Rattle.sbp_laws.specs.Targets.{Target, first_table, known_at, target_at}
use Rattle.sbp_laws.specs.Terms.{appends}
use Rattle.sbp_world.proofs.Lists.AgentFolds.{AreSo}
use Rattle.sbp_world.proofs.Lists.AgentNotes.{IfApart, note_kept}
use Rattle.drill_laws.specs.DrillCalm.{IsCalmNote}
use Rattle.drill_laws.proofs.DrillAgentsFresh.{IsFreshAt, fresh_kept}
use Rattle.drill_laws.proofs.DrillHosts.{BeginsNone, IsLater}
use Rattle.drill_laws.proofs.DrillMoments.{DrillAt}
use Rattle.drill_laws.proofs.DrillPackets.{IsWired}
use Rattle.drill_laws.proofs.DrillRingReplies.{IsRingOf, bells, points}
use Rattle.drill_laws.proofs.DrillTable.{note_table}
use Rattle.drill_laws.proofs.DrillTurns.{IsCalm}

-- ---- what is known
-- the list of a pointer that was written is present, and has an ORB
pub record IsPointed (past : List Moment) (i p : ℕ) : Type 0 where
  pub low : p ≤ (terms past).count
  pub list : ℕ
  pub present : present_list past i ≡ Some list
  pub some : appends past i list ≡ 0 → ⊥

-- what an initiator sends asks for nothing, or is a ring
pub data IsSentBy (past : List Moment) (i s : ℕ) (q : Sending) : Type 0 where
  asks_none : access_in_bytes q.bytes ≡ None → IsSentBy past i s q
  rung : i < 2 → q.to ≡ 0 → (access : Access) → access_in_bytes q.bytes ≡ Some access → IsRingOf i access ((host_at past i).pointer ≡ Some s) → IsSentBy past i s q

-- no pointer of it came yet
abbrev pub Awaits : List Moment → ℕ → Type 0
Awaits past i = (p : ℕ) → (host_at past i).pointer ≡ Some p → flies ((terms past).flight p) ≡ true

abbrev pub IsReply : List ℕ → Type 0
IsReply bytes = (label : ℕ) (kind : Kind) → part_of bytes ≡ response label kind → rcode_of bytes ≡ 0

pub record Serves (start : List Disk) (past : List Moment) : Type 0 where
  pub calm : IsCalm start past
  pub wired : IsWired (terms past)
  pub rings : (s i : ℕ) (q : Sending) → (terms past).sent s ≡ Some q → q.from ≡ suc i → IsSentBy past i s q
  pub answers : (s : ℕ) (q : Sending) → (terms past).sent s ≡ Some q → q.from ≡ 0 → IsReply q.bytes
  pub table : (target_at start past).table ≡ first_table true 2
  pub hosts : (i p : ℕ) → i < 2 → (host_at past i).pointer ≡ Some p → IsPointed past i p
  pub fresh : (i : ℕ) → i < 2 → Awaits past i → AreSo (IsFreshAt i) (target_at start past)

-- ---- pointers stay
abbrev pub KeepsPointers : List Moment → List Moment → Type 0
KeepsPointers past now = (i p : ℕ) → (host_at past i).pointer ≡ Some p → (host_at now i).pointer ≡ Some p

pub ring_map : {A B : Type 0} (i : ℕ) (access : Access) → (A → B) → IsRingOf i access A → IsRingOf i access B
ring_map i access f (points payload is at known) = points payload is at (f known)
ring_map i access f (bells is) = bells is

pub sent_map : (past now : List Moment) (i s : ℕ) (q : Sending) → KeepsPointers past now → IsSentBy past i s q → IsSentBy now i s q
sent_map past now i s q keeps (asks_none e) = asks_none e
sent_map past now i s q keeps (rung small to access is ring) = rung small to access is (ring_map i access (λ e. keeps i s e) ring)

abbrev pub IsSteady : Note → Type 0
IsSteady (notes.Sent serial generation from to bytes) = ⊥
IsSteady (notes.Append i n k cdb buffer) = ⊥
IsSteady note = Unit {0}

either_pointer : (b : Bool) (x host : Host) → x.pointer ≡ host.pointer → (cond b x host).pointer ≡ host.pointer
either_pointer true x host e = e
either_pointer false x host e = refl

pointed_pointer : (answer : Answer) (own : Bool) (host : Host) → (pointer_answered answer own host).pointer ≡ host.pointer
pointed_pointer Done true host = refl
pointed_pointer Done false host = refl
pointed_pointer _ own host = refl

got_pointer : (own : Option ℕ) (wire : Terms) (serial : ℕ) (present : Option ℕ) (host : Host) → (got_by own wire serial present host).pointer ≡ host.pointer
got_pointer (Some own) wire serial present host = pointed_pointer _ _ host
got_pointer None wire serial present host = refl

pub note_pointer : (note : Note) (past : List Moment) (wire : Terms) (i : ℕ) (host : Host) → IsLater note → IsCalmNote note → IsSteady note → (host_by note past wire i host).pointer ≡ host.pointer
note_pointer (notes.Sent serial generation from to bytes) past wire i host later calm steady = absurd steady
note_pointer (notes.Append j n k cdb buffer) past wire i host later calm steady = absurd steady
note_pointer (notes.Got serial) past wire i host later calm steady = either_pointer _ _ host (got_pointer _ wire serial (present_list past i) host)
note_pointer (notes.Taken j n k status answer) past wire i host later calm steady = either_pointer (j == i) _ host refl
note_pointer (notes.Stuck j) past wire i host later calm steady = either_pointer (j == i) _ host refl
note_pointer (notes.Op j operation word) past wire i host later calm steady = absurd calm
note_pointer (notes.Drop j n) past wire i host later calm steady = absurd calm
note_pointer (notes.Begin initiators ready) past wire i host later calm steady = absurd later
note_pointer (notes.TimedOut serial) past wire i host later calm steady = absurd later
note_pointer (notes.Seen node generation) past wire i host later calm steady = absurd later
note_pointer _ past wire i host later calm steady = refl

pub record SameLists (past now : List Moment) : Type 0 where
  pub present : present_list now ≡ present_list past
  pub appended : appends now ≡ appends past

steady_lists : (note : Note) (past : List Moment) → IsCalmNote note → IsSteady note → SameLists past (said note ∷ past)
steady_lists (notes.Append j n k cdb buffer) past calm steady = absurd steady
steady_lists (notes.Drop j n) past calm steady = absurd calm
steady_lists _ past calm steady = record { present = refl; appended = refl }

pub same_pointed : (past now : List Moment) (i p : ℕ) → SameLists past now → (terms past).count ≤ (terms now).count → IsPointed past i p → IsPointed now i p
same_pointed past now i p same more h = record {
  low = let low = h.low in omega (arith, low, more);
  list = h.list;
  present = ap (λ (f : ℕ → Option ℕ). f i) same.present ∙ h.present;
  some = λ e. h.some (sym (ap (λ (f : ℕ → ℕ → ℕ). f i h.list) same.appended) ∙ e);
}

-- ---- the target
apart : (place : ℕ) (note : Note) (past : List Moment) (wire : Terms) (target : Target) → BeginsNone note → IsCalmNote note → IfApart (IsFreshAt place) (fresh_kept place) note past wire target
apart place (notes.Got serial) past wire target begins calm = absurd begins
apart place (notes.TimedOut serial) past wire target begins calm = absurd begins
apart place (notes.Managed i function subject status login) past wire target begins calm = absurd calm
apart place _ past wire target begins calm = tt

pub note_fresh : (start : List Disk) (place : ℕ) (note : Note) (past : List Moment) → BeginsNone note → IsCalmNote note → AreSo (IsFreshAt place) (target_at start past) → AreSo (IsFreshAt place) (target_at start (said note ∷ past))
note_fresh start place note past begins calm h = note_kept (IsFreshAt place) (fresh_kept place) note past (known_at start past).wire (target_at start past) h (apart place note past (known_at start past).wire (target_at start past) begins calm)

pub note_table_at : (start : List Disk) (note : Note) (past : List Moment) → BeginsNone note → IsCalmNote note → (target_at start past).table ≡ first_table true 2 → (target_at start (said note ∷ past)).table ≡ first_table true 2
note_table_at start note past begins calm e = note_table note past (known_at start past).wire (target_at start past) begins calm ∙ e

-- ---- a note that says nothing of the wire
abbrev pub IsWireless : Note → Type 0
IsWireless (notes.Sent serial generation from to bytes) = ⊥
IsWireless (notes.Got serial) = ⊥
IsWireless (notes.Ignored serial cause) = ⊥
IsWireless note = Unit {0}

pub terms_same : (note : Note) (past : List Moment) → DrillAt (said note) past → IsWireless note → noted note (terms past) ≡ terms past
terms_same (notes.Sent serial generation from to bytes) past d w = absurd w
terms_same (notes.Got serial) past d w = absurd w
terms_same (notes.Ignored serial cause) past d w = absurd w
terms_same (notes.Lost serial) past d w = absurd (cc d)
terms_same (notes.TimedOut serial) past d w = absurd (cc d)
terms_same (notes.Injected serial) past d w = absurd (cc d)
terms_same (notes.Reset generation) past d w = absurd (cc d)
terms_same (notes.Seen node generation) past d w = absurd (cc d)
terms_same _ past d w = refl

wireless_begins : (note : Note) → IsLater note → IsWireless note → BeginsNone note
wireless_begins (notes.Got serial) l w = absurd w
wireless_begins (notes.Begin initiators ready) l w = l
wireless_begins (notes.TimedOut serial) l w = l
wireless_begins (notes.Seen node generation) l w = l
wireless_begins (notes.Key unit) l w = l
wireless_begins notes.Tick l w = l
wireless_begins _ l w = tt

module _ (start : List Disk) (note : Note) (past : List Moment) (d : DrillAt (said note) past) (wireless : IsWireless note) (later : IsLater note) (calm_note : IsCalmNote note) where
  abbrev now : List Moment
  now = said note ∷ past

  same : terms now ≡ terms past
  same = terms_same note past d wireless

  pub wireless_serves : IsCalm start now → KeepsPointers past now → ((i : ℕ) → i < 2 → Awaits now i → Awaits past i) → ((i p : ℕ) → i < 2 → (host_at now i).pointer ≡ Some p → IsPointed now i p) → Serves start past → Serves start now
  wireless_serves calm keeps awaits hosts h = record {
    calm = calm;
    wired = subst IsWired (sym same) h.wired;
    rings = λ s i q e f. sent_map past now i s q keeps (h.rings s i q (ap (λ (t : Terms). t.sent s) (sym same) ∙ e) f);
    answers = λ s q e. h.answers s q (ap (λ (t : Terms). t.sent s) (sym same) ∙ e);
    table = note_table_at start note past (wireless_begins note later wireless) calm_note h.table;
    hosts = hosts;
    fresh = λ i small a. note_fresh start i note past (wireless_begins note later wireless) calm_note (h.fresh i small (awaits i small a));
  }

  pub still_serves : IsSteady note → IsCalm start now → Serves start past → Serves start now
  still_serves steady calm h =
      let kept : (i : ℕ) → (host_at now i).pointer ≡ (host_at past i).pointer = λ i. note_pointer note past (known_host past i).wire i (host_at past i) later calm_note steady in
      let more : (terms past).count ≤ (terms now).count = let e = ap (λ (t : Terms). t.count) same in omega (arith, e) in
      wireless_serves calm (λ i p e. kept i ∙ e) (λ i small a p e. ap (λ (t : Terms). flies (t.flight p)) (sym same) ∙ a p (kept i ∙ e))
      (λ i p small e. same_pointed past now i p (steady_lists note past calm_note steady) more (h.hosts i p small (sym (kept i) ∙ e))) h
