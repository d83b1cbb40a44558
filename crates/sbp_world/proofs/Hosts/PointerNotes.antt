-- What each note leaves of the ORB_POINTER write that an initiator's host names, and of its labels.
use Rattle.sbp_world.proofs.Words.Std.{arith, ◌≡◌, refl, sym, ◌∙◌, ap, ℕ, zero, suc, ◌+◌, ◌≤◌, ◌&&◌, nat_eq, not, Bool, true, false, cond, List, [], ◌∷◌, Option, Some, None, nat_tests, not-true}
use Rattle.sbp_world.proofs.Words.Wire.{SerialsCount, AreSent, transaction, Moment, said, Kind, Part, Sending, Transaction, part_of, request, response, Held, Terms, opened, terms, Action, Event, Note, Operation, OpWord, Side}
use Rattle.sbp_world.proofs.Words.Initiator.{Answer, Done, Expired, NoLabel, Payload, Refused, rings}
use Rattle.sbp_world.proofs.Words.Laws.{Host, Underway, acted, goes_on, host_at, known_host, list_begins, op_ended, op_left, operation_of, pointer_answered, ring, sent_in, present_list, answer_in, answered_at, packet_at, receiver_in, sender_in, event_of}
use Rattle.sbp_world.proofs.Words.World.{behind}
use Rattle.bus_transactions.proofs.PacketParts.{other_requester}
use Rattle.sbp_journal.specs.Transactions.{no_packet}
use Rattle.sbp_journal.specs.declared.event.Action.TheVariants as actions
use Rattle.sbp_journal.specs.declared.event.Event.TheVariants as events
use Rattle.sbp_journal.specs.declared.note.Note.TheVariants as notes
use Rattle.sbp_journal.specs.declared.operation.Operation.TheVariants as operations
use Rattle.sbp_journal.specs.declared.operation.OpWord.TheVariants as words
use Rattle.sbp_journal.specs.declared.side.Side.TheVariants as sides
use Rattle.sbp_laws.specs.Hosts.{got_by, is_serial, reset_seen, sent_as}
use Rattle.sbp_world.proofs.Wire.Agrees.{got_agrees, ignored_agrees, timed_agrees}
use Rattle.sbp_world.proofs.Hosts.Asked.{IsRequest}
use Rattle.sbp_world.proofs.Hosts.Carries.{IsNoAct, is_apart}
use Rattle.sbp_world.proofs.Hosts.Cores.{wire_is, and_false}
use Rattle.sbp_world.proofs.Hosts.Held.{begun_from, got_apart, ignored_quiet, sent_apart, sent_count, sent_old, timed_apart}
use Rattle.sbp_world.proofs.Hosts.Layered.{AreTame, is_tame}
use Rattle.sbp_world.proofs.Hosts.Shown.{IsElsewhere}
use Rattle.sbp_world.proofs.Common.{untrue, turned as other_way, least, itself}

-- the serial of the ORB_POINTER write of the present list
abbrev pub pointer : List Moment → ℕ → Option ℕ
pointer past i = (host_at past i).pointer

-- each packet has the next serial, and what is not injected is its sender's own
pub record Fit (past : List Moment) : Type 0 where
  pub serials : SerialsCount past
  pub sent : AreSent past

-- where a host names a write, another one named it too
abbrev Fades : Host → Host → Type 0
Fades new old = (serial : ℕ) → new.pointer ≡ Some serial → old.pointer ≡ Some serial

pick_fades : (b : Bool) (x y : Host) → Fades x y → Fades (cond b x y) y
pick_fades true x y f = f
pick_fades false x y f = λ serial e. e

same_fades : (x y : Host) → x.pointer ≡ y.pointer → Fades x y
same_fades x y e = λ serial f. sym e ∙ f

gone_fades : (x y : Host) → x.pointer ≡ None → Fades x y
gone_fades x y e = λ serial f. absurd (none_some serial (sym e ∙ f))
  where
    none_some : (serial : ℕ) → None ≡ Some serial → ⊥
    none_some serial e = cc

begins_fades : (k : ℕ) (host : Host) → Fades (list_begins k host) host
begins_fades zero host = gone_fades (list_begins zero host) host refl
begins_fades (suc k) host = λ serial e. e

left_pointer : (operation : Operation) (word : OpWord) (host : Host) → (op_left operation word host).pointer ≡ host.pointer
left_pointer operations.Rom words.Done host = refl
left_pointer operations.Rom (words.Refused status) host = refl
left_pointer operations.Rom words.Conflict host = refl
left_pointer operations.Rom words.Error host = refl
left_pointer operations.Rom words.Reset host = refl
left_pointer operations.Rom (words.Count count) host = refl
left_pointer operations.Rom (words.Bad fault) host = refl
left_pointer operations.Rom words.NoUnit host = refl
left_pointer operations.Rom (words.State value) host = refl
left_pointer operations.Login words.Done host = refl
left_pointer operations.Login (words.Refused status) host = refl
left_pointer operations.Login words.Conflict host = refl
left_pointer operations.Login words.Error host = refl
left_pointer operations.Login words.Reset host = refl
left_pointer operations.Login (words.Count count) host = refl
left_pointer operations.Login (words.Bad fault) host = refl
left_pointer operations.Login words.NoUnit host = refl
left_pointer operations.Login (words.State value) host = refl
left_pointer operations.Query word host = refl
left_pointer operations.Reconnect word host = refl
left_pointer operations.Logout word host = refl
left_pointer operations.Abort word host = refl
left_pointer operations.AbortSet word host = refl
left_pointer operations.UnitReset word host = refl
left_pointer operations.TargetReset word host = refl
left_pointer operations.AgentReset word host = refl
left_pointer operations.State word host = refl
left_pointer operations.Enable word host = refl

ended_pointer : (operation : Operation) (word : OpWord) (host : Host) → (op_ended operation word host).pointer ≡ host.pointer
ended_pointer operations.Rom word host = left_pointer operations.Rom word host
ended_pointer operations.Login word host = left_pointer operations.Login word host
ended_pointer operations.Query word host = left_pointer operations.Query word host
ended_pointer operations.Reconnect word host = left_pointer operations.Reconnect word host
ended_pointer operations.Logout word host = left_pointer operations.Logout word host
ended_pointer operations.Abort word host = left_pointer operations.Abort word host
ended_pointer operations.AbortSet word host = left_pointer operations.AbortSet word host
ended_pointer operations.UnitReset word host = left_pointer operations.UnitReset word host
ended_pointer operations.TargetReset word host = left_pointer operations.TargetReset word host
ended_pointer operations.AgentReset word host = left_pointer operations.AgentReset word host
ended_pointer operations.State word host = refl
ended_pointer operations.Enable word host = left_pointer operations.Enable word host

ended_fades : (operation : Operation) (word : OpWord) (host : Host) → Fades (op_ended operation word host) host
ended_fades operation word host = same_fades (op_ended operation word host) host (ended_pointer operation word host)

reset_fades : (b : Bool) (host : Host) → Fades (reset_seen b host) host
reset_fades true host = λ serial e. e
reset_fades false host = λ serial e. e

answered_pointer : (answer : Answer) (own : Bool) (host : Host) → (pointer_answered answer own host).pointer ≡ host.pointer
answered_pointer Done true host = refl
answered_pointer Done false host = refl
answered_pointer (Payload bytes) own host = refl
answered_pointer (Refused rcode) own host = refl
answered_pointer Expired own host = refl
answered_pointer NoLabel own host = refl

got_fades : (own : Option ℕ) (wire : Terms) (serial : ℕ) (present : Option ℕ) (host : Host) → Fades (got_by own wire serial present host) host
got_fades (Some own) wire serial present host = same_fades (got_by (Some own) wire serial present host) host (answered_pointer (answer_in (packet_at wire serial)) (is_serial host.pointer own) host)
got_fades None wire serial present host = λ s e. e

-- ---- what a note leaves

pub record Passes (past : List Moment) (note : Note) (i : ℕ) : Type 0 where
  pub fades : (serial : ℕ) → pointer (said note ∷ past) i ≡ Some serial → pointer past i ≡ Some serial
  pub held : (g m : ℕ) → (terms (said note ∷ past)).held (transaction g (suc i) 0 m) ≡ (terms past).held (transaction g (suc i) 0 m)
  pub count : (terms past).count ≤ (terms (said note ∷ past)).count
  pub sent : Fit (said note ∷ past) → (serial : ℕ) → serial ≤ (terms past).count → (terms (said note ∷ past)).sent serial ≡ (terms past).sent serial
  pub fit : Fit (said note ∷ past) → Fit past

none_if : (b : Bool) (x y : Host) → b ≡ false → Fades (cond b x y) y
none_if true x y e = untrue (sym e)
none_if false x y e = λ serial f. f

pub older : (n serial count : ℕ) → n ≤ count → serial ≡ count + 1 → nat_eq n serial ≡ false
older n serial count l e = grind (arith, nat_tests)

turned : (i from requester : ℕ) → requester ≡ from → nat_eq from i ≡ false → nat_eq i requester ≡ false
turned i from requester e f = grind (arith, nat_tests)

-- one that says nothing of the initiator
pub apart_passes : (note : Note) (past : List Moment) (i : ℕ) → is_apart i note ≡ true → IsElsewhere past i note → Passes past note i
apart_passes (notes.Begin initiators ready) past i e w = untrue e
apart_passes (notes.Append j n k cdb buffer) past i e w = record { fades = pick_fades (nat_eq j i) (list_begins k (host_at past i)) (host_at past i) (begins_fades k (host_at past i)); held = λ g m. refl; count = least _ _ refl; sent = λ f n l. refl; fit = λ f. record { serials = f.serials; sent = f.sent } }
apart_passes (notes.Low j n k) past i e w = record { fades = λ s f. f; held = λ g m. refl; count = least _ _ refl; sent = λ f n l. refl; fit = λ f. record { serials = f.serials; sent = f.sent } }
apart_passes (notes.Linked j n k) past i e w = record { fades = λ s f. f; held = λ g m. refl; count = least _ _ refl; sent = λ f n l. refl; fit = λ f. record { serials = f.serials; sent = f.sent } }
apart_passes (notes.Rung j n k) past i e w = record { fades = λ s f. f; held = λ g m. refl; count = least _ _ refl; sent = λ f n l. refl; fit = λ f. record { serials = f.serials; sent = f.sent } }
apart_passes (notes.Dummied j n k) past i e w = record { fades = λ s f. f; held = λ g m. refl; count = least _ _ refl; sent = λ f n l. refl; fit = λ f. record { serials = f.serials; sent = f.sent } }
apart_passes (notes.Sent serial generation from to bytes) past i e w =
    let other = not-true (nat_eq from (suc i)) e in
    let t : Terms = terms past in
    let packet : Sending = record { generation = generation; from = from; to = to; bytes = bytes; injected = t.injected serial } in
    record {
      fades = none_if ((nat_eq from (suc i)) && not ((known_host past i).wire.injected serial)) _ (host_at past i) (and_false (nat_eq from (suc i)) _ other);
      held = λ g m. sent_apart serial packet t (transaction g (suc i) 0 m) (λ u f. other_requester (transaction g (suc i) 0 m) u (turned (suc i) from u.requester (begun_from packet u f) other));
      count = let c = sent_count serial packet t in omega arith;
      sent = λ f n l. sent_old serial n packet t (older n serial t.count l f.serials.0);
      fit = λ f. record { serials = f.serials.1; sent = f.sent.1 };
    }
apart_passes (notes.Injected serial) past i e w = record { fades = λ s f. f; held = λ g m. refl; count = least _ _ refl; sent = λ f n l. refl; fit = λ f. record { serials = f.serials; sent = f.sent } }
apart_passes (notes.Got serial) past i e w =
    let t : Terms = terms past in
    record {
      fades = pick_fades (is_serial (receiver_in ((known_host past i).wire.sent serial)) (suc i)) _ (host_at past i) (got_fades (answered_at (known_host past i).wire serial) (known_host past i).wire serial (present_list past i) (host_at past i));
      held = λ g m. got_apart (t.sent serial) serial t (transaction g (suc i) 0 m) w;
      count = least _ _ (got_agrees (t.sent serial) serial t).count;
      sent = λ f n l. ap (λ (x : ℕ → Option Sending). x n) (got_agrees (t.sent serial) serial t).sent;
      fit = λ f. record { serials = f.serials; sent = f.sent };
    }
apart_passes (notes.Ignored serial cause) past i e w =
    let t : Terms = terms past in
    record {
      fades = λ s f. f;
      held = λ g m. ap (λ (h : Transaction → Held). h (transaction g (suc i) 0 m)) (ignored_quiet (t.sent serial) cause serial t).held;
      count = least _ _ (ignored_agrees (t.sent serial) cause serial t).count;
      sent = λ f n l. ap (λ (x : ℕ → Option Sending). x n) (ignored_agrees (t.sent serial) cause serial t).sent;
      fit = λ f. record { serials = f.serials; sent = f.sent };
    }
apart_passes (notes.Lost serial) past i e w = record { fades = λ s f. f; held = λ g m. refl; count = least _ _ refl; sent = λ f n l. refl; fit = λ f. record { serials = f.serials; sent = f.sent } }
apart_passes (notes.TimedOut serial) past i e w =
    let t : Terms = terms past in
    record {
      fades = pick_fades (is_serial (sender_in ((known_host past i).wire.sent serial)) (suc i)) _ (host_at past i) (λ s f. f);
      held = λ g m. timed_apart (t.sent serial) t (transaction g (suc i) 0 m) w;
      count = least _ _ (timed_agrees (t.sent serial) t).count;
      sent = λ f n l. ap (λ (x : ℕ → Option Sending). x n) (timed_agrees (t.sent serial) t).sent;
      fit = λ f. record { serials = f.serials; sent = f.sent };
    }
apart_passes (notes.Ran j n k at cdb bytes check) past i e w = record { fades = λ s f. f; held = λ g m. refl; count = least _ _ refl; sent = λ f n l. refl; fit = λ f. record { serials = f.serials; sent = f.sent } }
apart_passes (notes.Ended j n k status) past i e w = record { fades = λ s f. f; held = λ g m. refl; count = least _ _ refl; sent = λ f n l. refl; fit = λ f. record { serials = f.serials; sent = f.sent } }
apart_passes (notes.Taken j n k status answer) past i e w = record { fades = pick_fades (nat_eq j i) _ (host_at past i) (λ s f. f); held = λ g m. refl; count = least _ _ refl; sent = λ f n l. refl; fit = λ f. record { serials = f.serials; sent = f.sent } }
apart_passes (notes.Cut j n cause) past i e w = record { fades = λ s f. f; held = λ g m. refl; count = least _ _ refl; sent = λ f n l. refl; fit = λ f. record { serials = f.serials; sent = f.sent } }
apart_passes (notes.Dead j n cause) past i e w = record { fades = λ s f. f; held = λ g m. refl; count = least _ _ refl; sent = λ f n l. refl; fit = λ f. record { serials = f.serials; sent = f.sent } }
apart_passes (notes.Drop j n) past i e w = record { fades = pick_fades (nat_eq j i) (list_begins zero (host_at past i)) (host_at past i) (begins_fades zero (host_at past i)); held = λ g m. refl; count = least _ _ refl; sent = λ f n l. refl; fit = λ f. record { serials = f.serials; sent = f.sent } }
apart_passes (notes.Managed j word subject status login) past i e w = record { fades = λ s f. f; held = λ g m. refl; count = least _ _ refl; sent = λ f n l. refl; fit = λ f. record { serials = f.serials; sent = f.sent } }
apart_passes (notes.ManageFailed j cause) past i e w = record { fades = λ s f. f; held = λ g m. refl; count = least _ _ refl; sent = λ f n l. refl; fit = λ f. record { serials = f.serials; sent = f.sent } }
apart_passes (notes.Held id) past i e w = record { fades = λ s f. f; held = λ g m. refl; count = least _ _ refl; sent = λ f n l. refl; fit = λ f. record { serials = f.serials; sent = f.sent } }
apart_passes (notes.Expired id) past i e w = record { fades = λ s f. f; held = λ g m. refl; count = least _ _ refl; sent = λ f n l. refl; fit = λ f. record { serials = f.serials; sent = f.sent } }
apart_passes (notes.Back id) past i e w = record { fades = λ s f. f; held = λ g m. refl; count = least _ _ refl; sent = λ f n l. refl; fit = λ f. record { serials = f.serials; sent = f.sent } }
apart_passes (notes.Left id) past i e w = record { fades = λ s f. f; held = λ g m. refl; count = least _ _ refl; sent = λ f n l. refl; fit = λ f. record { serials = f.serials; sent = f.sent } }
apart_passes (notes.Cleared at) past i e w = record { fades = λ s f. f; held = λ g m. refl; count = least _ _ refl; sent = λ f n l. refl; fit = λ f. record { serials = f.serials; sent = f.sent } }
apart_passes (notes.Op j operation word) past i e w = record { fades = pick_fades (nat_eq j i) (op_ended operation word (host_at past i)) (host_at past i) (ended_fades operation word (host_at past i)); held = λ g m. refl; count = least _ _ refl; sent = λ f n l. refl; fit = λ f. record { serials = f.serials; sent = f.sent } }
apart_passes (notes.Stuck j) past i e w = record { fades = pick_fades (nat_eq j i) _ (host_at past i) (λ s f. f); held = λ g m. refl; count = least _ _ refl; sent = λ f n l. refl; fit = λ f. record { serials = f.serials; sent = f.sent } }
apart_passes (notes.Reset generation) past i e w = record { fades = λ s f. f; held = λ g m. refl; count = least _ _ refl; sent = λ f n l. refl; fit = λ f. record { serials = f.serials; sent = f.sent } }
apart_passes (notes.Seen node generation) past i e w = record { fades = pick_fades (nat_eq node (suc i)) _ (host_at past i) (reset_fades _ (host_at past i)); held = λ g m. refl; count = least _ _ refl; sent = λ f n l. refl; fit = λ f. record { serials = f.serials; sent = f.sent } }
apart_passes notes.Tick past i e w = record { fades = λ s f. f; held = λ g m. refl; count = least _ _ refl; sent = λ f n l. refl; fit = λ f. record { serials = f.serials; sent = f.sent } }
apart_passes (notes.Refused line number) past i e w = record { fades = λ s f. f; held = λ g m. refl; count = least _ _ refl; sent = λ f n l. refl; fit = λ f. record { serials = f.serials; sent = f.sent } }
apart_passes notes.Settled past i e w = record { fades = λ s f. f; held = λ g m. refl; count = least _ _ refl; sent = λ f n l. refl; fit = λ f. record { serials = f.serials; sent = f.sent } }
apart_passes notes.Stopped past i e w = record { fades = λ s f. f; held = λ g m. refl; count = least _ _ refl; sent = λ f n l. refl; fit = λ f. record { serials = f.serials; sent = f.sent } }
apart_passes (notes.Key at) past i e w = record { fades = λ s f. f; held = λ g m. refl; count = least _ _ refl; sent = λ f n l. refl; fit = λ f. record { serials = f.serials; sent = f.sent } }
apart_passes (notes.Unsolicited j) past i e w = record { fades = λ s f. f; held = λ g m. refl; count = least _ _ refl; sent = λ f n l. refl; fit = λ f. record { serials = f.serials; sent = f.sent } }
apart_passes (notes.Unsent j) past i e w = record { fades = λ s f. f; held = λ g m. refl; count = least _ _ refl; sent = λ f n l. refl; fit = λ f. record { serials = f.serials; sent = f.sent } }
apart_passes (notes.Told j) past i e w = record { fades = λ s f. f; held = λ g m. refl; count = least _ _ refl; sent = λ f n l. refl; fit = λ f. record { serials = f.serials; sent = f.sent } }

-- one that an initiator tells
tame_passes : (note : Note) (past : List Moment) (i : ℕ) → is_tame note ≡ true → Passes past note i
tame_passes (notes.Begin initiators ready) past i e = untrue e
tame_passes (notes.Append j n k cdb buffer) past i e = record { fades = pick_fades (nat_eq j i) (list_begins k (host_at past i)) (host_at past i) (begins_fades k (host_at past i)); held = λ g m. refl; count = least _ _ refl; sent = λ f n l. refl; fit = λ f. record { serials = f.serials; sent = f.sent } }
tame_passes (notes.Low j n k) past i e = record { fades = λ s f. f; held = λ g m. refl; count = least _ _ refl; sent = λ f n l. refl; fit = λ f. record { serials = f.serials; sent = f.sent } }
tame_passes (notes.Linked j n k) past i e = record { fades = λ s f. f; held = λ g m. refl; count = least _ _ refl; sent = λ f n l. refl; fit = λ f. record { serials = f.serials; sent = f.sent } }
tame_passes (notes.Rung j n k) past i e = record { fades = λ s f. f; held = λ g m. refl; count = least _ _ refl; sent = λ f n l. refl; fit = λ f. record { serials = f.serials; sent = f.sent } }
tame_passes (notes.Dummied j n k) past i e = record { fades = λ s f. f; held = λ g m. refl; count = least _ _ refl; sent = λ f n l. refl; fit = λ f. record { serials = f.serials; sent = f.sent } }
tame_passes (notes.Sent serial generation from to bytes) past i e = untrue e
tame_passes (notes.Injected serial) past i e = untrue e
tame_passes (notes.Got serial) past i e = untrue e
tame_passes (notes.Ignored serial cause) past i e = untrue e
tame_passes (notes.Lost serial) past i e = untrue e
tame_passes (notes.TimedOut serial) past i e = untrue e
tame_passes (notes.Ran j n k at cdb bytes check) past i e = untrue e
tame_passes (notes.Ended j n k status) past i e = untrue e
tame_passes (notes.Taken j n k status answer) past i e = record { fades = pick_fades (nat_eq j i) _ (host_at past i) (λ s f. f); held = λ g m. refl; count = least _ _ refl; sent = λ f n l. refl; fit = λ f. record { serials = f.serials; sent = f.sent } }
tame_passes (notes.Cut j n cause) past i e = untrue e
tame_passes (notes.Dead j n cause) past i e = untrue e
tame_passes (notes.Drop j n) past i e = record { fades = pick_fades (nat_eq j i) (list_begins zero (host_at past i)) (host_at past i) (begins_fades zero (host_at past i)); held = λ g m. refl; count = least _ _ refl; sent = λ f n l. refl; fit = λ f. record { serials = f.serials; sent = f.sent } }
tame_passes (notes.Managed j word subject status login) past i e = untrue e
tame_passes (notes.ManageFailed j cause) past i e = untrue e
tame_passes (notes.Held id) past i e = untrue e
tame_passes (notes.Expired id) past i e = untrue e
tame_passes (notes.Back id) past i e = untrue e
tame_passes (notes.Left id) past i e = untrue e
tame_passes (notes.Cleared at) past i e = untrue e
tame_passes (notes.Op j operation word) past i e = record { fades = pick_fades (nat_eq j i) (op_ended operation word (host_at past i)) (host_at past i) (ended_fades operation word (host_at past i)); held = λ g m. refl; count = least _ _ refl; sent = λ f n l. refl; fit = λ f. record { serials = f.serials; sent = f.sent } }
tame_passes (notes.Stuck j) past i e = record { fades = pick_fades (nat_eq j i) _ (host_at past i) (λ s f. f); held = λ g m. refl; count = least _ _ refl; sent = λ f n l. refl; fit = λ f. record { serials = f.serials; sent = f.sent } }
tame_passes (notes.Reset generation) past i e = untrue e
tame_passes (notes.Seen node generation) past i e = untrue e
tame_passes notes.Tick past i e = untrue e
tame_passes (notes.Refused line number) past i e = untrue e
tame_passes notes.Settled past i e = untrue e
tame_passes notes.Stopped past i e = untrue e
tame_passes (notes.Key at) past i e = untrue e
tame_passes (notes.Unsolicited j) past i e = untrue e
tame_passes (notes.Unsent j) past i e = untrue e
tame_passes (notes.Told j) past i e = record { fades = λ s f. f; held = λ g m. refl; count = least _ _ refl; sent = λ f n l. refl; fit = λ f. record { serials = f.serials; sent = f.sent } }

-- which leaves the wire and the line
tame_wire : (note : Note) (past : List Moment) → is_tame note ≡ true → terms (said note ∷ past) ≡ terms past
tame_wire (notes.Begin initiators ready) past e = untrue e
tame_wire (notes.Append j n k cdb buffer) past e = refl
tame_wire (notes.Low j n k) past e = refl
tame_wire (notes.Linked j n k) past e = refl
tame_wire (notes.Rung j n k) past e = refl
tame_wire (notes.Dummied j n k) past e = refl
tame_wire (notes.Sent serial generation from to bytes) past e = untrue e
tame_wire (notes.Injected serial) past e = untrue e
tame_wire (notes.Got serial) past e = untrue e
tame_wire (notes.Ignored serial cause) past e = untrue e
tame_wire (notes.Lost serial) past e = untrue e
tame_wire (notes.TimedOut serial) past e = untrue e
tame_wire (notes.Ran j n k at cdb bytes check) past e = untrue e
tame_wire (notes.Ended j n k status) past e = untrue e
tame_wire (notes.Taken j n k status answer) past e = refl
tame_wire (notes.Cut j n cause) past e = untrue e
tame_wire (notes.Dead j n cause) past e = untrue e
tame_wire (notes.Drop j n) past e = refl
tame_wire (notes.Managed j word subject status login) past e = untrue e
tame_wire (notes.ManageFailed j cause) past e = untrue e
tame_wire (notes.Held id) past e = untrue e
tame_wire (notes.Expired id) past e = untrue e
tame_wire (notes.Back id) past e = untrue e
tame_wire (notes.Left id) past e = untrue e
tame_wire (notes.Cleared at) past e = untrue e
tame_wire (notes.Op j operation word) past e = refl
tame_wire (notes.Stuck j) past e = refl
tame_wire (notes.Reset generation) past e = untrue e
tame_wire (notes.Seen node generation) past e = untrue e
tame_wire notes.Tick past e = untrue e
tame_wire (notes.Refused line number) past e = untrue e
tame_wire notes.Settled past e = untrue e
tame_wire notes.Stopped past e = untrue e
tame_wire (notes.Key at) past e = untrue e
tame_wire (notes.Unsolicited j) past e = untrue e
tame_wire (notes.Unsent j) past e = untrue e
tame_wire (notes.Told j) past e = refl

-- all that it tells in a call
pub record Told (past : List Moment) (told : List Side) (i : ℕ) : Type 0 where
  pub fades : (serial : ℕ) → pointer (behind told past) i ≡ Some serial → pointer past i ≡ Some serial
  pub wire : terms (behind told past) ≡ terms past
  pub line : event_of (behind told past) ≡ event_of past
  pub fit : Fit (behind told past) → Fit past

pub tame_told : (told : List Side) (past : List Moment) (i : ℕ) → AreTame told → Told past told i
tame_told [] past i h = record { fades = λ s f. f; wire = refl; line = refl; fit = λ f. f }
tame_told (sides.Own note ∷ later) past i h =
    let a = tame_passes note past i h.0 in
    let b = tame_told later (said note ∷ past) i h.1 in
    record { fades = λ s f. a.fades s (b.fades s f); wire = b.wire ∙ tame_wire note past h.0; line = b.line; fit = λ f. a.fit (b.fit f) }
tame_told ((sides.Opened place orb) ∷ later) past i h = absurd h.0
tame_told ((sides.Ran place orb cdb payload outcome) ∷ later) past i h = absurd h.0
tame_told ((sides.Ended place orb status) ∷ later) past i h = absurd h.0
tame_told ((sides.Dead place cause) ∷ later) past i h = absurd h.0
tame_told ((sides.Cut place cause) ∷ later) past i h = absurd h.0
tame_told ((sides.Managed node function subject status login) ∷ later) past i h = absurd h.0
tame_told ((sides.ManageFailed node cause) ∷ later) past i h = absurd h.0
tame_told ((sides.Held login) ∷ later) past i h = absurd h.0
tame_told ((sides.Expired login) ∷ later) past i h = absurd h.0
tame_told ((sides.Back login) ∷ later) past i h = absurd h.0
tame_told ((sides.Left login) ∷ later) past i h = absurd h.0
tame_told ((sides.Cleared unit) ∷ later) past i h = absurd h.0
tame_told ((sides.Unsolicited place) ∷ later) past i h = absurd h.0
tame_told ((sides.Unsent place) ∷ later) past i h = absurd h.0

-- a packet that is heard, and a time-out, leave the write that is named
pub got_fades_now : (serial : ℕ) (past : List Moment) (i : ℕ) → (s : ℕ) → pointer (said (notes.Got serial) ∷ past) i ≡ Some s → pointer past i ≡ Some s
got_fades_now serial past i =
    pick_fades (is_serial (receiver_in ((known_host past i).wire.sent serial)) (suc i)) _ (host_at past i) (got_fades (answered_at (known_host past i).wire serial) (known_host past i).wire serial (present_list past i) (host_at past i))

pub timed_fades_now : (serial : ℕ) (past : List Moment) (i : ℕ) → (s : ℕ) → pointer (said (notes.TimedOut serial) ∷ past) i ≡ Some s → pointer past i ≡ Some s
timed_fades_now serial past i =
    pick_fades (is_serial (sender_in ((known_host past i).wire.sent serial)) (suc i)) _ (host_at past i) (λ s f. f)

pub seen_fades_now : (generation : ℕ) (past : List Moment) (i : ℕ) → (s : ℕ) → pointer (said (notes.Seen (suc i) generation) ∷ past) i ≡ Some s → pointer past i ≡ Some s
seen_fades_now generation past i =
    pick_fades (nat_eq (suc i) (suc i)) _ (host_at past i) (reset_fades _ (host_at past i))

-- ---- a line begins

-- the labels and the count of the packets are the same
pub record Opens (t u : Terms) : Type 0 where
  pub held : u.held ≡ t.held
  pub count : u.count ≡ t.count
  pub sent : u.sent ≡ t.sent

pub opens : (event : Event) (t : Terms) → Opens t (opened event t)
opens (events.Begin initiators ready) t = record { held = refl; count = refl; sent = refl }
opens (events.Act i action) t = record { held = refl; count = refl; sent = refl }
opens (events.Reset physical) t = record { held = refl; count = refl; sent = refl }
opens (events.See node) t = record { held = refl; count = refl; sent = refl }
opens (events.Deliver serial) t = record { held = refl; count = refl; sent = refl }
opens (events.Repeat serial) t = record { held = refl; count = refl; sent = refl }
opens (events.Lose serial) t = record { held = refl; count = refl; sent = refl }
opens (events.Timeout serial) t = record { held = refl; count = refl; sent = refl }
opens (events.Step count) t = record { held = refl; count = refl; sent = refl }
opens events.Settle t = record { held = refl; count = refl; sent = refl }
opens events.Tick t = record { held = refl; count = refl; sent = refl }
opens (events.Inject initiator bytes) t = record { held = refl; count = refl; sent = refl }
opens (events.Key unit key) t = record { held = refl; count = refl; sent = refl }

-- ---- a packet leaves in a line that is no action of the initiator

goes_pointer : (u : Option Underway) (serial : ℕ) (host : Host) → (goes_on u serial host).pointer ≡ host.pointer
goes_pointer None serial host = refl
goes_pointer (Some underway) serial host = refl

not_if : (b : Bool) (x y : Host) → b ≡ false → (cond b x y).pointer ≡ y.pointer
not_if true x y e = untrue (sym e)
not_if false x y e = refl

other_pointer : (event : Option Event) (i : ℕ) (list : Option ℕ) (serial : ℕ) (host : Host) → IsNoAct i event → (sent_in event i list serial host).pointer ≡ host.pointer
other_pointer None i list serial host n = goes_pointer host.operation serial host
other_pointer (Some (events.Begin initiators ready)) i list serial host n = goes_pointer host.operation serial host
other_pointer (Some (events.Act j action)) i list serial host n =
    not_if (nat_eq j i) (acted action (operation_of action) list serial host) (goes_on host.operation serial host) (other_way i j n) ∙ goes_pointer host.operation serial host
other_pointer (Some (events.Reset physical)) i list serial host n = goes_pointer host.operation serial host
other_pointer (Some (events.See node)) i list serial host n = goes_pointer host.operation serial host
other_pointer (Some (events.Deliver packet)) i list serial host n = goes_pointer host.operation serial host
other_pointer (Some (events.Repeat packet)) i list serial host n = goes_pointer host.operation serial host
other_pointer (Some (events.Lose packet)) i list serial host n = goes_pointer host.operation serial host
other_pointer (Some (events.Timeout packet)) i list serial host n = goes_pointer host.operation serial host
other_pointer (Some (events.Step count)) i list serial host n = goes_pointer host.operation serial host
other_pointer (Some events.Settle) i list serial host n = goes_pointer host.operation serial host
other_pointer (Some events.Tick) i list serial host n = goes_pointer host.operation serial host
other_pointer (Some (events.Inject initiator bytes)) i list serial host n = goes_pointer host.operation serial host
other_pointer (Some (events.Key unit key)) i list serial host n = goes_pointer host.operation serial host

part_pointer : (part : Part) (event : Option Event) (i : ℕ) (list : Option ℕ) (serial : ℕ) (host : Host) → IsNoAct i event → (sent_as part event i list serial host).pointer ≡ host.pointer
part_pointer (request label kind) event i list serial host n = other_pointer event i list serial host n
part_pointer (response label kind) event i list serial host n = refl
part_pointer no_packet event i list serial host n = refl

pub sent_fades : (serial generation from to : ℕ) (bytes : List ℕ) (past : List Moment) (i : ℕ) → IsNoAct i (event_of past) → (s : ℕ) → pointer (said (notes.Sent serial generation from to bytes) ∷ past) i ≡ Some s → pointer past i ≡ Some s
sent_fades serial generation from to bytes past i n =
    let new = sent_as (part_of bytes) (event_of past) i (present_list past i) serial (host_at past i) in
    pick_fades ((nat_eq from (suc i)) && not ((known_host past i).wire.injected serial)) new (host_at past i) (same_fades new (host_at past i) (part_pointer (part_of bytes) (event_of past) i (present_list past i) serial (host_at past i) n))

-- ---- the request of an action

-- a ring writes ORB_POINTER where none was written for the list
abbrev pub pointer_after : Bool → ℕ → Option ℕ → Option ℕ
pointer_after true serial None = Some serial
pointer_after true serial (Some first) = Some first
pointer_after false serial pointer = pointer

ring_pointer : (p : Option ℕ) (serial : ℕ) (host : Host) → host.pointer ≡ p → (ring p serial host).pointer ≡ pointer_after true serial p
ring_pointer None serial host e = refl
ring_pointer (Some first) serial host e = e

acted_pointer : (action : Action) (list : Option ℕ) (serial : ℕ) (host : Host) → (acted action (operation_of action) list serial host).pointer ≡ pointer_after (rings action) serial host.pointer
acted_pointer actions.Rom list serial host = refl
acted_pointer (actions.Login unit reconnect exclusive password) list serial host = refl
acted_pointer (actions.Query unit) list serial host = refl
acted_pointer actions.Reconnect list serial host = refl
acted_pointer actions.Logout list serial host = refl
acted_pointer (actions.Abort k) list serial host = refl
acted_pointer actions.AbortSet list serial host = refl
acted_pointer actions.UnitReset list serial host = refl
acted_pointer actions.TargetReset list serial host = refl
acted_pointer actions.AgentReset list serial host = refl
acted_pointer actions.State list serial host = refl
acted_pointer (actions.Dummy k) list serial host = refl
acted_pointer (actions.Put cmd) list serial host = refl
acted_pointer (actions.Append cmd) list serial host = ring_pointer host.pointer serial host refl
acted_pointer actions.Low list serial host = refl
acted_pointer actions.Link list serial host = refl
acted_pointer actions.Ring list serial host = ring_pointer host.pointer serial host refl
acted_pointer actions.Enable list serial host = refl

so_pointer : (b : Bool) (x y : Host) → b ≡ true → (cond b x y).pointer ≡ x.pointer
so_pointer true x y e = refl
so_pointer false x y e = untrue e

request_pointer : (part : Part) (label : ℕ) (kind : Kind) (event : Option Event) (action : Action) (i : ℕ) (list : Option ℕ) (serial : ℕ) (host : Host) → part ≡ request label kind → event ≡ Some (events.Act i action) → (sent_as part event i list serial host).pointer ≡ pointer_after (rings action) serial host.pointer
request_pointer part label kind event action i list serial host p e =
    ap (λ x. (sent_as x event i list serial host).pointer) p
    ∙ ap (λ x. (sent_in x i list serial host).pointer) e
    ∙ so_pointer (nat_eq i i) (acted action (operation_of action) list serial host) (goes_on host.operation serial host) (itself i)
    ∙ acted_pointer action list serial host

pub asked_pointer : {number : ℕ} (action : Action) (serial generation to : ℕ) (bytes : List ℕ) (past : List Moment) (i : ℕ) → event_of past ≡ Some (events.Act i action) → IsRequest number bytes → (terms past).injected serial ≡ false → pointer (said (notes.Sent serial generation (suc i) to bytes) ∷ past) i ≡ pointer_after (rings action) serial (pointer past i)
asked_pointer {number} action serial generation to bytes past i e q f =
    let host = host_at past i in
    let own : (known_host past i).wire.injected serial ≡ false = ap (λ (t : Terms). t.injected serial) (wire_is past i) ∙ f in
    so_pointer ((nat_eq (suc i) (suc i)) && not ((known_host past i).wire.injected serial)) (sent_as (part_of bytes) (event_of past) i (present_list past i) serial host) host
    (ap (λ b. b && not ((known_host past i).wire.injected serial)) (itself (suc i)) ∙ ap not own)
    ∙ request_pointer (part_of bytes) number q.kind (event_of past) action i (present_list past i) serial host q.part e
