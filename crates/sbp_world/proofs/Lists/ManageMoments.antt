-- What is known of each moment of a run for the management of an initiator, and that a moment by which nothing is sent or got leaves what is in hand.
use Rattle.sbp_world.proofs.Words.Std.{◌≡◌, ◌∙◌, refl, sym, ap, ℕ, suc, ◌%◌, ◌≤◌, ◌<◌, nat_eq, Bool, true, false, List, ◌∷◌, Option, Some, None, Ok}
use Rattle.sbp_world.proofs.Words.Wire.{Header, rcode_of, write_block, reading, transaction, Moment, asked, said, Kind, Sending, Transaction, begun_by, part_of, request, writing, terms, waits, Action, Event, Note}
use Rattle.sbp_world.proofs.Words.Target.{Operation, Disk}
use Rattle.sbp_world.proofs.Words.Initiator.{start_of, fifo_at, StatusBlock, status_in}
use Rattle.sbp_world.proofs.Words.Laws.{host_at, operation_of, access_in, answered_at, packet_in, is_nothing, target_at, EachMoment, event_of}
use Rattle.sbp_world.proofs.Words.World.{manages, is_open, managed_for, IsAsking, IsFree, IsHandling, IsTelling}
use Rattle.bus_memory.specs.declared.window.Window.TheVariants as windows
use Rattle.orb_layout.specs.declared.status.StatusKind.TheVariants as kinds
use Rattle.sbp_journal.specs.declared.event.Event.TheVariants as events
use Rattle.sbp_journal.specs.declared.note.Note.TheVariants as notes
use Rattle.sbp_world.proofs.Hosts.PointerNotes.{Fit}
use Rattle.sbp_world.proofs.Lists.ManageGot.{GotFacts, IsWriting}
use Rattle.sbp_world.proofs.Lists.ManageNotes.{begins_on, ignored_calm, none_taken, timed_calm}
use Rattle.sbp_world.proofs.Lists.ManageOffices.{Lingers, Settles, key_lingers, line_settles, none_left, note_lingers, office_at, rested, settles_of, stays, tick_settles}
use Rattle.sbp_world.proofs.Lists.ManageSends.{Opens, opened_terms}
use Rattle.sbp_world.proofs.Lists.ManageSent.{SentFacts}
use Rattle.sbp_world.proofs.Lists.ManageStays.{Calms, Had, rests_accepted, rests_calm, rests_handling}
use Rattle.sbp_world.proofs.Lists.ManageTerms.{Rests, none_is, rests_on}
use Rattle.sbp_world.proofs.Common.{untrue}

-- ---- what is known of a moment

-- the action of a line begins an operation of management, with its ORB in this place
pub record IsActing (past : List Moment) (i place : ℕ) : Type 0 where
  pub action : Action
  pub line : event_of past ≡ Some (events.Act i action)
  pub manages_it : manages (operation_of action) ≡ true
  pub place_is : place ≡ (host_at past i).writes % 2

pub record SendFacts (start : List Disk) (past : List Moment) (i serial generation from to : ℕ) (bytes : List ℕ) : Type 0 where
  pub facts : SentFacts start past i serial generation from bytes
  pub fit : Fit (said (notes.Sent serial generation from to bytes) ∷ past)
  pub acts : (place : ℕ) → IsAsking (said (notes.Sent serial generation from to bytes) ∷ past) i serial place → IsActing past i place
  pub unjudged : (terms past).news serial ≡ 0
  -- what is sent in such a line is that write
  pub written : from ≡ suc i → (terms past).injected serial ≡ false → (action : Action) → event_of past ≡ Some (events.Act i action) → manages (operation_of action) ≡ true → IsWriting bytes

-- a response of the target answers a request that was taken as new
pub record IsAnswer (past : List Moment) (i label own rcode : ℕ) : Type 0 where
  pub given : (terms past).given (transaction ((terms past).generation (suc i)) (suc i) 0 label) ≡ rcode
  pub news : 0 < (terms past).news own
  pub current : (terms past).current (transaction ((terms past).generation (suc i)) (suc i) 0 label) ≡ own
  pub packet : Sending
  pub sent : (terms past).sent own ≡ Some packet
  pub begun : begun_by packet ≡ Some (transaction ((terms past).generation (suc i)) (suc i) 0 label)

pub record TakeFacts (start : List Disk) (past : List Moment) (i serial : ℕ) : Type 0 where
  pub packet : Sending
  pub facts : GotFacts past i serial packet
  pub answers : packet.to ≡ suc i → packet.from ≡ 0 → (label : ℕ) (kind : Kind) (own : ℕ) (asking : Sending) (l : ℕ) → (terms past).sent own ≡ Some asking → part_of asking.bytes ≡ request l writing → (let v = transaction ((terms past).generation (suc i)) (suc i) 0 label in (terms past).held v ≡ waits kind own → ((terms (said (notes.Got serial) ∷ past)).held v ≡ waits kind own → ⊥) → (rcode : ℕ) → rcode_of packet.bytes ≡ rcode → IsAnswer past i label own rcode)
  -- an answer to a write of the target: the initiator took that as new
  pub replied : packet.to ≡ 0 → (own : ℕ) → answered_at (terms past) serial ≡ Some own → (asking : Sending) → (terms past).sent own ≡ Some asking → asking.to ≡ suc i → (l : ℕ) → part_of asking.bytes ≡ request l writing → 0 < (terms past).news own
  pub tells : packet.to ≡ suc i → packet.from ≡ 0 → (header : Header) (offset : ℕ) (payload : List ℕ) → reading packet.bytes ≡ Ok (write_block header offset payload) → (logins : ℕ) (is_out : Bool) → is_open (fifo_at logins is_out offset) ≡ true → (block : StatusBlock) → status_in payload ≡ Ok block → (status : ℕ) → block.kind ≡ kinds.Management status → (place : ℕ) → place < 2 → block.orb ≡ start_of (windows.Management place) → IsTelling start past i serial place

pub record LineFacts (past : List Moment) : Type 0 where
  pub none : (terms past).owes ≡ None
  pub here : (node : ℕ) → (terms past).generation node ≤ (terms past).bus
  pub packets : (s : ℕ) (q : Sending) → (terms past).sent s ≡ Some q → q.generation ≤ (terms past).bus

pub record SightFacts (start : List Disk) (past : List Moment) (i node generation : ℕ) : Type 0 where
  pub none : (terms past).owes ≡ None
  pub new : node ≡ suc i → nat_eq generation ((terms past).generation (suc i)) ≡ false → IsFree start (said (notes.Seen node generation) ∷ past) i

pub record LateFacts (past : List Moment) (serial : ℕ) : Type 0 where
  pub none : (terms past).owes ≡ None
  pub packet : Sending
  pub sent : (terms past).sent serial ≡ Some packet

abbrev pub MayHand : List Disk → ℕ → Moment → List Moment → Type 0
MayHand start i (asked line event) past = LineFacts past
MayHand start i (said (notes.Sent serial generation from to bytes)) past = SendFacts start past i serial generation from to bytes
MayHand start i (said (notes.Got serial)) past = TakeFacts start past i serial
MayHand start i (said (notes.Ignored serial cause)) past = (terms past).owes ≡ None
MayHand start i (said (notes.TimedOut serial)) past = LateFacts past serial
MayHand start i (said (notes.Seen node generation)) past = SightFacts start past i node generation
MayHand start i (said notes.Tick) past = (terms past).owes ≡ None
MayHand start i moment past = Unit {0}

abbrev pub Hands : List Disk → ℕ → List Moment → Type 0
Hands start i past = EachMoment (MayHand start i) past

-- ---- a moment by which nothing is sent or got

module _ (start : List Disk) (past : List Moment) (i : ℕ) (note : Note) (r : Rests 0 (terms past) (terms (said note ∷ past))) (owes : (terms (said note ∷ past)).owes ≡ (terms past).owes) (for_same : (s : ℕ) → managed_for start (said note ∷ past) s ≡ managed_for start past s) (l : Lingers (office_at start past) (office_at start (said note ∷ past))) where
  linger_calm : Calms start past (said note ∷ past) i
  linger_calm =
      let now = said note ∷ past in
      rests_calm start past now i 0 r for_same (rests_handling start past now i 0 r for_same (settles_of l))
      (λ write o m a. rests_accepted start past now i 0 r for_same write
      (λ n owed t. n owed (record { owes = owes ∙ t.owes; first = t.first; serial = t.serial }))
      (λ owed t. begins_on start past now l (a.taking owed (record { owes = sym owes ∙ t.owes; first = t.first; serial = t.serial }))) a)

abbrev pub is_quiet : Note → Bool
is_quiet (notes.Begin initiators ready) = false
is_quiet (notes.Sent serial generation from to bytes) = false
is_quiet (notes.Got serial) = false
is_quiet (notes.Seen node generation) = false
is_quiet _ = true

tick_calm : (start : List Disk) (past : List Moment) (i : ℕ) → (terms past).owes ≡ None → Calms start past (said notes.Tick ∷ past) i
tick_calm start past i none =
    let now = said notes.Tick ∷ past in
    let r : Rests 0 (terms past) (terms now) = rests_on 0 (terms past) (terms now) refl refl refl refl refl refl in
    rests_calm start past now i 0 r (λ s. refl) (rests_handling start past now i 0 r (λ s. refl) (tick_settles start past))
    (λ write o m a. rests_accepted start past now i 0 r (λ s. refl) write (λ n owed t. none_taken past none write owed t) (λ owed t. absurd (none_is owed (sym none ∙ t.owes))) a)

pub quiet_calm : (start : List Disk) (i : ℕ) (note : Note) (past : List Moment) → is_quiet note ≡ true → MayHand start i (said note) past → Calms start past (said note ∷ past) i
quiet_calm start i (notes.Begin initiators ready) past q h = untrue q
quiet_calm start i (notes.Sent serial generation from to bytes) past q h = untrue q
quiet_calm start i (notes.Got serial) past q h = untrue q
quiet_calm start i (notes.Seen node generation) past q h = untrue q
quiet_calm start i (notes.Ignored serial cause) past q h = ignored_calm start past i serial h cause
quiet_calm start i (notes.TimedOut serial) past q h = timed_calm start past i serial h.none h.packet h.sent
quiet_calm start i notes.Tick past q h = tick_calm start past i h
quiet_calm start i (notes.Key unit) past q h = linger_calm start past i (notes.Key unit) (rests_on 0 _ _ refl refl refl refl refl refl) refl (λ s. refl) (key_lingers start unit past)
quiet_calm start i note past q h = linger_calm start past i note (rests_on 0 _ _ refl refl refl refl refl refl) refl (λ s. refl) (note_lingers start note past tt)

-- ---- a line begins

pub line_calm : (start : List Disk) (line : ℕ) (event : Event) (past : List Moment) (i : ℕ) → LineFacts past → Calms start past (asked line event ∷ past) i
line_calm start line event past i f = record {
  asking = λ s place a. record {
    packet = a.packet;
    sent = sent_is s ∙ a.sent;
    from_is = a.from_is;
    honest = a.honest;
    current = a.current ∙ generation_is (suc i);
    access = a.access;
    spelled = a.spelled;
    writes = a.writes;
    block = a.block;
    small = a.small;
    names = a.names;
    unjudged = ap (λ (g : ℕ → ℕ). g s) (sym o.news) ∙ a.unjudged;
  };
  telling = λ s place a. record {
    packet = a.packet;
    sent = sent_is s ∙ a.sent;
    current = a.current ∙ generation_is (suc i);
    op = a.op;
    is_for = a.is_for;
    status = a.status;
    source = a.source ∙ o.ids a.packet.generation (suc i) (f.packets s a.packet (sent_is s ∙ a.sent));
    small = a.small;
    orb = a.orb;
    unjudged = ap (λ (g : ℕ → ℕ). g s) (sym o.news) ∙ a.unjudged;
  };
  handling = λ place op h. by place op h (line_settles start line event past);
  accepted = λ write own m a. record {
    at = record { access = a.at.access; asks = ap (λ (g : ℕ → Option Sending). access_in (packet_in (g write))) o.sent ∙ a.at.asks; at = a.at.at; serves = a.at.serves };
    given = λ packet v e g c n x.
        a.given packet v (sent_is write ∙ e) g (ap (λ (k : Transaction → ℕ). k v) (sym o.current) ∙ c) (λ owed t. none_is owed (sym f.none ∙ t.owes)) (ap (λ (k : Transaction → ℕ). k v) (sym o.given) ∙ x);
    taking = λ owed t. none_is owed (sym (o.owes ∙ f.none) ∙ t.owes);
  };
  own = λ write w. record {
    packet = w.packet;
    sent = ap (λ (g : ℕ → Option Sending). g write) o.sent ∙ w.sent;
    from_is = w.from_is;
    to_is = w.to_is;
    honest = w.honest;
    current = w.current ∙ sym (generation_is (suc i));
    label = w.label;
    part = w.part;
  };
  zero_news = λ write e. ap (λ (g : ℕ → ℕ). g write) (sym o.news) ∙ e;
}
  where
    o : Opens (terms past) (terms (asked line event ∷ past))
    o = opened_terms event (terms past)

    sent_is : (s : ℕ) → (terms past).sent s ≡ (terms (asked line event ∷ past)).sent s
    sent_is s = ap (λ (g : ℕ → Option Sending). g s) (sym (opened_terms event (terms past)).sent)

    generation_is : (node : ℕ) → (terms (asked line event ∷ past)).generation node ≡ (terms past).generation node
    generation_is node = ap (λ (g : ℕ → ℕ). g node) (opened_terms event (terms past)).generation

    id_is : LineFacts past → (terms (asked line event ∷ past)).ids ((terms (asked line event ∷ past)).generation 0) (suc i) ≡ (terms past).ids ((terms past).generation 0) (suc i)
    id_is f =
        let e = ap (λ (g : ℕ → ℕ). g 0) (opened_terms event (terms past)).generation in
        ap (λ n. (terms (asked line event ∷ past)).ids n (suc i)) e ∙ (opened_terms event (terms past)).ids ((terms past).generation 0) (suc i) (f.here 0)

    before : LineFacts past → (place : ℕ) (op was : Operation) → IsHandling start (asked line event ∷ past) i place op → (target_at start past).manager.operation ≡ Some was → was ≡ op → IsHandling start past i place was
    before f place op was h e same =
        let g = (opened_terms event (terms past)).generation in
        record {
          same = ap (λ (x : ℕ → ℕ). x 0) (sym g) ∙ h.same ∙ ap (λ (x : ℕ → ℕ). x (suc i)) g;
          is = e;
          source = ap (λ (x : Operation). x.source) same ∙ h.source ∙ id_is f;
          small = h.small;
          orb = ap (λ (x : Operation). x.orb) same ∙ h.orb;
        }

    by : (place : ℕ) (op : Operation) → IsHandling start (asked line event ∷ past) i place op → Settles (office_at start past) (office_at start (asked line event ∷ past)) → Had start past (asked line event ∷ past) i place op
    by place op h (stays e g) = record { was = op; before = before f place op op h (ap (λ m. m.operation) (sym e) ∙ h.is) refl; goes = λ x. (x.0, ap (λ a. is_nothing a) g ∙ x.1) }
    by place op h (rested e g) = record { was = op; before = before f place op op h (ap (λ m. m.operation) (sym e) ∙ h.is) refl; goes = λ x. (x.0, ap (λ a. is_nothing a) g) }
    by place op h (none_left e g) = none_is op (sym e ∙ h.is)
