-- In every run the page tables and the buffers in an initiator's memory hold what the history says.
use Rattle.sbp_world.proofs.Words.Std.{◌≡◌, refl, sym, ◌∙◌, ap, subst, ℕ, suc, ◌<◌, ◌==◌, Bool, true, false, List, [], ◌∷◌, ◌++◌, map, Option, Some, None}
use Rattle.sbp_world.proofs.Words.Wire.{LabelParts, judged_note, empty_outbox, Moment, asked, said, Action, Note, Side}
use Rattle.sbp_world.proofs.Words.Target.{Told}
use Rattle.sbp_world.proofs.Words.Initiator.{Memory, own, laws_after, lets_expire, sees, act_step, Turn, new_state, expire_step, receive_step, see_step, InitiatorState}
use Rattle.sbp_world.proofs.Words.Laws.{action_notes, event_of}
use Rattle.sbp_world.proofs.Words.World.{history_of, Run, world_after, beginning, MayAll, after_all, begun, initiator_at, BytesLaw, HoldsBytes, took_quadlet, behind, AreRows, IsRun, more_deliveries, IsHost}
use Rattle.sbp_journal.specs.declared.event.Event.TheVariants as events
use Rattle.sbp_journal.specs.declared.note.Note.TheVariants as notes
use Rattle.sbp_journal.specs.declared.side.Side.TheVariants as sides
use Rattle.sbp_world.specs.Hosts.Calls.{by_side}
use Rattle.sbp_world.specs.Hosts.Refusing.{initiator_of}
use Rattle.sbp_world.proofs.Hosts.ByteActs.{acted_bytes, others_kept, told_kept}
use Rattle.sbp_world.proofs.Hosts.ByteAnswers.{same_byte}
use Rattle.sbp_world.proofs.Hosts.ByteHears.{heard_bytes}
use Rattle.sbp_world.proofs.Hosts.ByteLeaves.{calm_call, expires_calm, sees_calm}
use Rattle.sbp_world.proofs.Hosts.ByteStarts.{first_bytes}
use Rattle.sbp_world.proofs.Hosts.ByteTerms.{SlotBytes, byte_terms, bytes_kept, got_else, is_kept, kept_bytes, tables_are}
use Rattle.sbp_world.proofs.Hosts.Carried.{between_runs, of_runs}
use Rattle.sbp_world.proofs.Hosts.Carries.{Carries, Does, IsLineOf, Tells, is_apart}
use Rattle.sbp_world.proofs.Hosts.HostRows.{host_acts, host_apart, host_expires, host_hears, host_sees, host_sent, host_stale, no_abort}
use Rattle.sbp_world.proofs.Hosts.Fair.{fair_between, fair_of_runs}
use Rattle.sbp_world.proofs.Hosts.Layered.{AreTame, IsTame, expire_left, is_tame, receive_left}
use Rattle.sbp_world.proofs.Hosts.MemoryHolds.{memory_coded}
use Rattle.sbp_world.proofs.Hosts.OrbRuns.{Orbs, Rowed, first_orbs, goes, orbs_carried, rows_known}
use Rattle.sbp_world.proofs.Hosts.OrbTells as tell
use Rattle.sbp_world.proofs.Hosts.OrbTerms.{AreStill, IsStill, is_left}
use Rattle.sbp_world.proofs.Hosts.PointSees.{see_left}
use Rattle.sbp_world.proofs.Hosts.Runs.{first_host}
use Rattle.sbp_world.proofs.Hosts.Shown.{IsElsewhere, IsHeard}
use Rattle.sbp_world.proofs.Hosts.Telling.{action_law}
use Rattle.sbp_world.proofs.Common.{untrue}

-- ---- what an initiator tells in a delivery, in a time-out and as it sees a generation

kept_note : (note : Note) (i : ℕ) → is_tame note ≡ true → is_left i note ≡ true → is_kept i note ≡ true
kept_note (notes.Append j n k cdb buffer) i e f = f
kept_note (notes.Got serial) i e f = untrue e
kept_note note i e f = refl

pub kept_side : (side : Side) (past : List Moment) (i : ℕ) → IsTame side → IsStill side → byte_terms (by_side side past) i ≡ byte_terms past i
kept_side (sides.Own note) past i e f = bytes_kept note past i (kept_note note i e (f i))
kept_side (sides.Opened place orb) past i e f = absurd e
kept_side (sides.Ran place orb cdb payload outcome) past i e f = absurd e
kept_side (sides.Ended place orb status) past i e f = absurd e
kept_side (sides.Dead place cause) past i e f = absurd e
kept_side (sides.Cut place cause) past i e f = absurd e
kept_side (sides.Managed node function subject status login) past i e f = absurd e
kept_side (sides.ManageFailed node cause) past i e f = absurd e
kept_side (sides.Held login) past i e f = absurd e
kept_side (sides.Expired login) past i e f = absurd e
kept_side (sides.Back login) past i e f = absurd e
kept_side (sides.Left login) past i e f = absurd e
kept_side (sides.Cleared unit) past i e f = absurd e
kept_side (sides.Unsolicited place) past i e f = absurd e
kept_side (sides.Unsent place) past i e f = absurd e

pub kept_told : (told : List Side) (past : List Moment) (i : ℕ) → AreTame told → AreStill told → byte_terms (behind told past) i ≡ byte_terms past i
kept_told [] past i e f = refl
kept_told (side ∷ told) past i e f = kept_told told (by_side side past) i e.1 f.1 ∙ kept_side side past i e.0 f.0

-- a note of another one
pub apart_kept : (note : Note) (past : List Moment) (i : ℕ) → is_apart i note ≡ true → IsElsewhere past i note → byte_terms (said note ∷ past) i ≡ byte_terms past i
apart_kept (notes.Append j n k cdb buffer) past i e w = bytes_kept (notes.Append j n k cdb buffer) past i e
apart_kept (notes.Got serial) past i e n = got_else serial past i n
apart_kept note past i e n = bytes_kept note past i refl

-- ---- what is carried

pub record Bytes (ready : Bool) (past : List Moment) (i : ℕ) (s : InitiatorState) : Type 0 where
  pub host : IsHost past i s
  pub orbs : Orbs ready past i s
  pub slots : SlotBytes (byte_terms past i) s.lists.memory

module _ (ready : Bool) where
  said_same : (past now : List Moment) (i : ℕ) (m : Memory) → byte_terms now i ≡ byte_terms past i → SlotBytes (byte_terms past i) m → SlotBytes (byte_terms now i) m
  said_same past now i m e h = subst (λ t. SlotBytes t m) (sym e) h

  -- what is told and left in a call
  tells_on : (past : List Moment) (i : ℕ) (t : Turn) → AreTame t.0.sides → AreStill t.0.sides → Tells IsHost past i t → Tells (Orbs ready) past i t → SlotBytes (byte_terms past i) t.1.lists.memory → Tells (Bytes ready) past i t
  tells_on past i t e f host orbs own = record {
    own = record { host = host.own; orbs = orbs.own; slots = said_same past (behind t.0.sides past) i t.1.lists.memory (kept_told t.0.sides past i e f) own };
    others = λ j x d k. record {
      host = host.others j x d k.host;
      orbs = orbs.others j x d k.orbs;
      slots = said_same past (behind t.0.sides past) j x.lists.memory (kept_told t.0.sides past j e f) k.slots;
    };
  }

  hears_on : (serial generation : ℕ) (bytes : List ℕ) (past : List Moment) (i : ℕ) (s : InitiatorState) → IsHeard past i serial generation bytes → Bytes ready past i s → SlotBytes (byte_terms (said (judged_note serial (receive_step generation bytes empty_outbox s).0) ∷ past) i) (receive_step generation bytes empty_outbox s).1.1.lists.memory
  hears_on serial generation bytes past i s heard h =
      let o = h.orbs in
      subst (λ (x : InitiatorState). Bytes ready past i x → SlotBytes (byte_terms (said (judged_note serial (receive_step generation bytes empty_outbox x).0) ∷ past) i) (receive_step generation bytes empty_outbox x).1.1.lists.memory) o.is
      (λ k. heard_bytes ready i o.calls o.called past serial generation bytes heard (memory_coded ready past i _ k.host.rows k.orbs) k.slots) h

  expires_on : (label : LabelParts) (past : List Moment) (i : ℕ) (s : InitiatorState) → Bytes ready past i s → SlotBytes (byte_terms past i) (expire_step label empty_outbox s).1.1.lists.memory
  expires_on label past i s h =
      let o = h.orbs in
      subst (λ (x : InitiatorState). SlotBytes (byte_terms past i) x.lists.memory → SlotBytes (byte_terms past i) (expire_step label empty_outbox x).1.1.lists.memory) o.is
      (λ k. kept_bytes (byte_terms past i) _ _ (calm_call ready i o.calls o.called (lets_expire label) tt (expires_calm label (laws_after i ready o.calls))) k) h.slots

  sees_on : (generation id target : ℕ) (past : List Moment) (i : ℕ) (s : InitiatorState) → Bytes ready past i s → SlotBytes (byte_terms past i) (see_step generation id target empty_outbox s).1.lists.memory
  sees_on generation id target past i s h =
      let o = h.orbs in
      subst (λ (x : InitiatorState). SlotBytes (byte_terms past i) x.lists.memory → SlotBytes (byte_terms past i) (see_step generation id target empty_outbox x).1.lists.memory) o.is
      (λ k. kept_bytes (byte_terms past i) _ _ (calm_call ready i o.calls o.called (sees generation id target) tt (sees_calm generation id target (laws_after i ready o.calls))) k) h.slots

  module _ (action : Action) (past : List Moment) (i : ℕ) (s : InitiatorState) (line : event_of past ≡ Some (events.Act i action)) (fit : IsLineOf action) (no_refusal : (act_step action empty_outbox s).0 ≡ None) (known : Rowed past i s) (h : Bytes ready past i s) where
    abbrev t : Turn
    t = (act_step action empty_outbox s).1

    sides_are : t.0.sides ≡ own (action_notes action past i)
    sides_are =
        action_law.notes past s action empty_outbox (subst (λ j. AreRows past j s.lists.slots) (sym h.orbs.number) known.rows) no_refusal
        ∙ ap (λ j. own (action_notes action past j)) h.orbs.number

    told_slots : SlotBytes (byte_terms (behind (own (action_notes action past i)) past) i) t.1.lists.memory
    told_slots =
        let o = h.orbs in
        subst (λ (x : InitiatorState). AreRows past i x.lists.slots → SlotBytes (byte_terms past i) x.lists.memory → (act_step action empty_outbox x).0 ≡ None → SlotBytes (byte_terms (behind (own (action_notes action past i)) past) i) (act_step action empty_outbox x).1.1.lists.memory) o.is
        (λ rows k n. acted_bytes ready i o.calls o.called past rows k action (goes action empty_outbox _ n) fit line n) known.rows h.slots no_refusal

    own_slots : SlotBytes (byte_terms (behind t.0.sides past) i) t.1.lists.memory
    own_slots = subst (λ told. SlotBytes (byte_terms (behind told past) i) t.1.lists.memory) (sym sides_are) told_slots

    other_slots : (j : ℕ) (m : Memory) → (j == i) ≡ false → SlotBytes (byte_terms past j) m → SlotBytes (byte_terms (behind t.0.sides past) j) m
    other_slots j m e k =
        subst (λ told. SlotBytes (byte_terms (behind told past) j) m) (sym sides_are)
        (said_same past (behind (own (action_notes action past i)) past) j m (told_kept (action_notes action past i) past j (others_kept action past i j e)) k)

    does_on : Does IsHost past i t → Does (Orbs ready) past i t → Does (Bytes ready) past i t
    does_on host orbs = record {
      others = λ j x e k. record { host = host.others j x e k.host; orbs = orbs.others j x e k.orbs; slots = other_slots j x.lists.memory e k.slots };
      quiet = λ none. record { host = host.quiet none; orbs = orbs.quiet none; slots = own_slots };
      asking = λ packet one serial generation f q. record {
        host = host.asking packet one serial generation f q;
        orbs = orbs.asking packet one serial generation f q;
        slots = said_same (behind t.0.sides past) (said (notes.Sent serial generation (suc i) 0 packet.bytes) ∷ behind t.0.sides past) i t.1.lists.memory (bytes_kept (notes.Sent serial generation (suc i) 0 packet.bytes) (behind t.0.sides past) i refl) own_slots;
      };
    }

  pub bytes_carried : Carries Rowed (Bytes ready)
  bytes_carried =
      let c = orbs_carried ready in
      record {
        known = λ line event past i s r. c.known line event past i s r;
        number = λ past i s h. h.orbs.number;
        asked = λ line event past i s h. record {
          host = record { number = h.host.number; rows = h.host.rows; pin = h.host.pin };
          orbs = c.asked line event past i s h.orbs;
          slots = said_same past (asked line event ∷ past) i s.lists.memory refl h.slots;
        };
        apart = λ note past i s e elsewhere h. record {
          host = host_apart note past i s e h.host;
          orbs = c.apart note past i s e elsewhere h.orbs;
          slots = said_same past (said note ∷ past) i s.lists.memory (apart_kept note past i e elsewhere) h.slots;
        };
        sent = λ serial generation from to bytes past i s n h. record {
          host = host_sent serial generation from to bytes past i s (no_abort (event_of past) i n) h.host;
          orbs = c.sent serial generation from to bytes past i s n h.orbs;
          slots = said_same past (said (notes.Sent serial generation from to bytes) ∷ past) i s.lists.memory (bytes_kept (notes.Sent serial generation from to bytes) past i refl) h.slots;
        };
        hears = λ serial generation bytes past i s heard shown after h.
            let note = judged_note serial (receive_step generation bytes empty_outbox s).0 in
            tells_on (said note ∷ past) i (receive_step generation bytes empty_outbox s).1 (receive_left generation bytes s).told (tell.receives generation bytes empty_outbox s tt)
            (host_hears past i serial generation bytes s heard h.host) (c.hears serial generation bytes past i s heard shown after h.orbs) (hears_on serial generation bytes past i s heard h);
        expires = λ serial label past i s shown h.
            let now = said (notes.TimedOut serial) ∷ past in
            let x = (expire_step label empty_outbox s).1 in
            tells_on now i x (expire_left label s).told (tell.expires label empty_outbox s tt)
            (host_expires serial label past i s h.host) (c.expires serial label past i s shown h.orbs)
            (said_same past now i x.1.lists.memory (bytes_kept (notes.TimedOut serial) past i refl) (expires_on label past i s h));
        stale = λ label past i s e h. record { host = host_stale label past i s e h.host; orbs = c.stale label past i s e h.orbs; slots = expires_on label past i s h };
        sees = λ generation id target past i s e h.
            let now = said (notes.Seen (suc i) generation) ∷ past in
            let x = see_step generation id target empty_outbox s in
            tells_on now i x (see_left generation id target s).told (tell.sees generation id target empty_outbox s tt)
            (host_sees generation id target past i s e h.host) (c.sees generation id target past i s e h.orbs)
            (said_same past now i x.1.lists.memory (bytes_kept (notes.Seen (suc i) generation) past i refl) (sees_on generation id target past i s h));
        acts = λ action past i s line fit d shown known h. does_on action past i s line fit d known h (host_acts past i s h.host action line fit d) (c.acts action past i s line fit d shown known h.orbs);
      }

-- ---- a run

pub first : (line i initiators : ℕ) (ready : Bool) → Bytes ready (said (notes.Begin initiators ready) ∷ asked line (events.Begin initiators ready) ∷ []) i (new_state i ready)
first line i initiators ready = record { host = first_host line i initiators ready; orbs = first_orbs line i initiators ready; slots = first_bytes line i initiators ready }

pub bytes_of_runs : (line : ℕ) (run : Run) → IsRun run → (i : ℕ) → i < run.initiators → Bytes run.ready (history_of line run) i (initiator_of run i)
bytes_of_runs line run r i b =
    of_runs (Bytes run.ready) (bytes_carried run.ready) line run (rows_known line run) (λ j c. first line j run.initiators run.ready) r i b

pub bytes_between : (line : ℕ) (run : Run) → IsRun run → (next : ℕ) (most : Option ℕ) (told : List (Option Told)) → MayAll told (begun (world_after (beginning run) run.entries)) → (i : ℕ) → i < run.initiators → (let w = (after_all told (begun (world_after (beginning run) run.entries))).world in Bytes run.ready (map said w.fresh ++ asked next (more_deliveries most) ∷ history_of line run) i (initiator_at w i))
bytes_between line run r next most told m i b =
    between_runs (Bytes run.ready) (bytes_carried run.ready) line run (rows_known line run) (λ j c. first line j run.initiators run.ready) r next most told m i b

pub holds_bytes : (ready : Bool) (past : List Moment) (i : ℕ) (s : InitiatorState) → Bytes ready past i s → took_quadlet past i ≡ false → HoldsBytes past i s.lists.memory
holds_bytes ready past i s h none = record {
  tables = λ slot b. h.slots.tables slot b ∙ sym (tables_are past i slot);
  buffers = λ slot at b c. h.slots.buffers slot at b c;
  as_answered = λ slot at b c. h.slots.buffers slot at b c ∙ same_byte past i slot _ none;
  sends = λ slot one cmd b e c g at byte d q. h.slots.sends slot one cmd b e c g at byte d q;
}

pub bytes_law : BytesLaw
bytes_law = record {
  bytes = λ line r q i b. holds_bytes r.ready _ i _ (bytes_of_runs line r q i b) (fair_of_runs line r q i b).none;
  between = λ line r q next most told m i b. holds_bytes r.ready _ i _ (bytes_between line r q next most told m i b) (fair_between line r q next most told m i b).none;
}
