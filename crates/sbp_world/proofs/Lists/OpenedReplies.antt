-- A turn of the target in which a packet comes: what it answers answers that packet, and its packets are those that it hands out.
use Rattle.sbp_world.proofs.Words.Std.{arith, ◌≡◌, inl, inr, ◌∙◌, refl, sym, ap, subst, ◌<◌, ◌≤◌, ◌+◌, ℕ, nat_eq, Bool, true, false, cond, List, [], ◌∷◌, Option, Some, None, same_Some}
use Rattle.sbp_world.proofs.Words.Wire.{LabelParts, node_of, judged_note, OutboxState, Moment, said, Kind, Part, Sending, Transaction, asked_by, begun_by, part_of, request, response, Held, Owed, Terms, arrives, begins, closes, closes_if, free, gets, gets_as, ignores, ignores_that, is_news, is_served, judges, judges_if, pays, puts, rests, sends, terms, waits, Cause, Judged, Outgoing, Side}
use Rattle.sbp_world.proofs.Words.World.{handed_out, asked, posted, sent, sent_all, sent_to, told, told_all, WorldState, AreOthers, IsOther}
use Rattle.sbp_journal.specs.Transactions.{no_packet}
use Rattle.sbp_journal.specs.declared.cause.Cause.TheVariants as causes
use Rattle.sbp_journal.specs.declared.cause.Judged.TheVariants as judgements
use Rattle.sbp_journal.specs.declared.side.Side.TheVariants as sides
use Rattle.sbp_world.proofs.Agents.Management.Still.{hist}
use Rattle.sbp_world.proofs.Lists.OpenedStates.{IsIn}
use Rattle.sbp_world.proofs.Hosts.Held.{sends_sent}

-- ---- behind the packet that comes, its answer is owed, or none
pub record Owes (serial : ℕ) (t u : Terms) : Type 0 where
  pub sent : u.sent ≡ t.sent
  pub answers : u.answers ≡ t.answers
  pub owed : (o : Owed) → u.owes ≡ Some o → o.serial ≡ serial

none_owed : (serial : ℕ) (x : Option Owed) → x ≡ None → (o : Owed) → x ≡ Some o → o.serial ≡ serial
none_owed serial x e o f = absurd (let z : None ≡ Some o = sym e ∙ f in cc)

one_owed : (serial : ℕ) (cause : Option Cause) (o : Owed) → Some (record { serial = serial; cause = cause }) ≡ Some o → o.serial ≡ serial
one_owed serial cause o e = sym (serial_of e)
  where
    serial_in : Option Owed → ℕ
    serial_in None = serial
    serial_in (Some x) = x.serial

    serial_of : Some (record { serial = serial; cause = cause }) ≡ Some o → serial ≡ o.serial
    serial_of f = ap serial_in f

module _ (serial : ℕ) (t : Terms) (quiet : t.owes ≡ None) where
  -- from other terms that owe nothing either
  judged_owes : (u : Option Transaction) (cause : Option Cause) (packet : Sending) (v : Terms) → v.sent ≡ t.sent → v.answers ≡ t.answers → v.owes ≡ t.owes → Owes serial t (judges u cause serial packet v)
  judged_owes None cause packet v e f g = record { sent = e; answers = f; owed = none_owed serial v.owes (g ∙ quiet) }
  judged_owes (Some u) cause packet v e f g = record { sent = e; answers = f; owed = one_owed serial cause }

  same_owes : (v : Terms) → v.sent ≡ t.sent → v.answers ≡ t.answers → v.owes ≡ t.owes → Owes serial t v
  same_owes v e f g = record { sent = e; answers = f; owed = none_owed serial v.owes (g ∙ quiet) }

  judged_if_owes : (b : Bool) (u : Option Transaction) (packet : Sending) (v : Terms) → v.sent ≡ t.sent → v.answers ≡ t.answers → v.owes ≡ t.owes → Owes serial t (judges_if b u serial packet v)
  judged_if_owes true u packet v e f g = judged_owes u (Some causes.Grammar) packet v e f g
  judged_if_owes false u packet v e f g = same_owes v e f g

  closed_if_owes : (b : Bool) (n : ℕ) (u : Transaction) (rcode : ℕ) (v : Terms) → v.sent ≡ t.sent → v.answers ≡ t.answers → v.owes ≡ t.owes → Owes serial t (closes_if b n u rcode v)
  closed_if_owes true n u rcode v e f g = record { sent = e; answers = f; owed = none_owed serial v.owes (g ∙ quiet) }
  closed_if_owes false n u rcode v e f g = same_owes v e f g

  closed_owes : (held : Held) (u : Transaction) (kind : Kind) (rcode : ℕ) (v : Terms) → v.sent ≡ t.sent → v.answers ≡ t.answers → v.owes ≡ t.owes → Owes serial t (closes held u kind rcode v)
  closed_owes (waits kind n) u wanted rcode v e f g = closed_if_owes _ n u rcode v e f g
  closed_owes free u wanted rcode v e f g = same_owes v e f g
  closed_owes rests u wanted rcode v e f g = same_owes v e f g

  part_owes : (part : Part) (packet : Sending) (v : Terms) → v.sent ≡ t.sent → v.answers ≡ t.answers → v.owes ≡ t.owes → Owes serial t (gets_as part serial packet v)
  part_owes (request label kind) packet v e f g = judged_owes (asked_by packet) None packet v e f g
  part_owes (response label kind) packet v e f g = closed_owes _ _ kind _ v e f g
  part_owes no_packet packet v e f g = same_owes v e f g

  got_owes : (so : Option Sending) → Owes serial t (gets so serial t)
  got_owes None = same_owes t refl refl refl
  got_owes (Some packet) = part_owes (part_of packet.bytes) packet (is_served serial (is_news serial (arrives serial t))) refl refl refl

  ignored_owes : (cause : Cause) (packet : Sending) → Owes serial t (ignores cause serial packet (arrives serial t))
  ignored_owes causes.Generation packet = same_owes (arrives serial t) refl refl refl
  ignored_owes causes.Grammar packet = judged_if_owes _ (asked_by packet) packet (is_news serial (arrives serial t)) refl refl refl
  ignored_owes causes.Label packet = same_owes (is_news serial (arrives serial t)) refl refl refl
  ignored_owes causes.Again packet = judged_owes (asked_by packet) (Some causes.Again) packet (arrives serial t) refl refl refl
  ignored_owes causes.Source packet = judged_owes (asked_by packet) (Some causes.Source) packet (is_news serial (arrives serial t)) refl refl refl
  ignored_owes causes.Login packet = judged_owes (asked_by packet) (Some causes.Login) packet (is_news serial (arrives serial t)) refl refl refl
  ignored_owes causes.Slot packet = judged_owes (asked_by packet) (Some causes.Slot) packet (is_served serial (is_news serial (arrives serial t))) refl refl refl

  ignored_that_owes : (so : Option Sending) (cause : Cause) → Owes serial t (ignores_that so cause serial t)
  ignored_that_owes None cause = same_owes t refl refl refl
  ignored_that_owes (Some packet) cause = ignored_owes cause packet

pub comes_owes : (serial : ℕ) (H : List Moment) (x : Judged) → (terms H).owes ≡ None → Owes serial (terms H) (terms (said (judged_note serial x) ∷ H))
comes_owes serial H judgements.Got quiet = got_owes serial (terms H) quiet ((terms H).sent serial)
comes_owes serial H (judgements.Ignored cause) quiet = ignored_that_owes serial (terms H) quiet ((terms H).sent serial) cause

-- ---- what is sent since then
pub record Answering (count serial : ℕ) (packets : List Outgoing) (t : Terms) : Type 0 where
  pub owed : (o : Owed) → t.owes ≡ Some o → o.serial ≡ serial
  pub sent : (reply : ℕ) (packet : Sending) → count < reply → t.sent reply ≡ Some packet → IsIn packet.bytes packets
  pub answers : (reply s : ℕ) → count < reply → t.answers reply ≡ Some s → s ≡ serial

pub begins_answering : (count serial : ℕ) (packets : List Outgoing) (t u : Terms) → Owes serial t u → ((s : ℕ) (packet : Sending) → t.sent s ≡ Some packet → s ≤ count) → ((s : ℕ) → count < s → t.answers s ≡ None) → Answering count serial packets u
begins_answering count serial packets t u k known unanswered = record {
  owed = k.owed;
  sent = λ reply packet l e. absurd (let z = known reply packet (ap (λ (f : ℕ → Option Sending). f reply) (sym k.sent) ∙ e) in omega (arith, l, z));
  answers = λ reply s l e. absurd (differ s (sym (unanswered reply l) ∙ (ap (λ (f : ℕ → Option ℕ). f reply) (sym k.answers) ∙ e)));
}
  where
    differ : (s : ℕ) → None ≡ Some s → ⊥
    differ s e = cc

module _ (count serial : ℕ) (packets : List Outgoing) where
  abbrev P : Terms → Type 0
  P t = Answering count serial packets t

  -- the terms in which the packet is put
  record Put (t v : Terms) : Type 0 where
    owes : v.owes ≡ t.owes
    answers : v.answers ≡ t.answers

  put_as : (b : Option Transaction) (s : ℕ) (packet : Sending) (t : Terms) → Put t (begins b s packet (puts b s packet t))
  put_as None s packet t = record { owes = refl; answers = refl }
  put_as (Some u) s packet t = record { owes = refl; answers = refl }

  record Paid (s : ℕ) (t v : Terms) : Type 0 where
    owed : (o : Owed) → v.owes ≡ Some o → o.serial ≡ serial
    answers : (reply x : ℕ) → count < reply → v.answers reply ≡ Some x → x ≡ serial

  upd_answer : (b : Bool) (owed : ℕ) (old : Option ℕ) (x : ℕ) → owed ≡ serial → (old ≡ Some x → x ≡ serial) → cond b (Some owed) old ≡ Some x → x ≡ serial
  upd_answer true owed old x e f g = sym (same_Some owed x g) ∙ e
  upd_answer false owed old x e f g = f g

  pays_as : (o : Option Owed) (s : ℕ) (packet : Sending) (t v : Terms) → t.owes ≡ o → Put t v → P t → Paid s t (pays o t.sent s packet v)
  pays_as None s packet t v e p k = record {
    owed = none_owed serial v.owes (p.owes ∙ e);
    answers = λ reply x l f. k.answers reply x l (ap (λ (g : ℕ → Option ℕ). g reply) (sym p.answers) ∙ f);
  }
  pays_as (Some o) s packet t v e p k = record {
    owed = none_owed serial None refl;
    answers = λ reply x l f. upd_answer (nat_eq reply s) o.serial (v.answers reply) x (k.owed o e) (λ g. k.answers reply x l (ap (λ (h : ℕ → Option ℕ). h reply) (sym p.answers) ∙ g)) f;
  }

  upd_sent : (b : Bool) (packet : Sending) (old : Option Sending) (x : Sending) → IsIn packet.bytes packets → (old ≡ Some x → IsIn x.bytes packets) → cond b (Some packet) old ≡ Some x → IsIn x.bytes packets
  upd_sent true packet old x m f g = subst (λ (y : Sending). IsIn y.bytes packets) (same_Some packet x g) m
  upd_sent false packet old x m f g = f g

  sends_answering : (s : ℕ) (packet : Sending) (t : Terms) → IsIn packet.bytes packets → P t → P (sends s packet t)
  sends_answering s packet t m k =
      let v = begins (begun_by packet) s packet (puts (begun_by packet) s packet t) in
      let p = pays_as t.owes s packet t v refl (put_as (begun_by packet) s packet t) k in
      record {
        owed = p.owed;
        sent = λ reply x l e. upd_sent (nat_eq reply s) packet (t.sent reply) x m (λ f. k.sent reply x l f) (ap (λ (g : ℕ → Option Sending). g reply) (sym (sends_sent s packet t)) ∙ e);
        answers = p.answers;
      }

  module _ (past : List Moment) where
    abbrev Q : WorldState → Type 0
    Q v = P (terms (hist past v))

    told_one : (side : Side) (v : WorldState) → IsOther side → Q v → Q (told 0 side v)
    unfolding told
    told_one (sides.Own note) v o k = absurd o
    told_one (sides.Opened place orb) v o k = k
    told_one (sides.Ran place orb cdb payload outcome) v o k = k
    told_one (sides.Ended place orb status) v o k = k
    told_one (sides.Dead place cause) v o k = k
    told_one (sides.Cut place cause) v o k = k
    told_one (sides.Managed node function subject status login) v o k = k
    told_one (sides.ManageFailed node cause) v o k = k
    told_one (sides.Held login) v o k = k
    told_one (sides.Expired login) v o k = k
    told_one (sides.Back login) v o k = k
    told_one (sides.Left login) v o k = k
    told_one (sides.Cleared unit) v o k = k
    told_one (sides.Unsolicited place) v o k = k
    told_one (sides.Unsent place) v o k = k

    told_every : (side : List Side) (v : WorldState) → AreOthers side → Q v → Q (told_all 0 side v)
    unfolding told_all
    told_every [] v o k = k
    told_every (side ∷ later) v o k = told_every later (told 0 side v) o.1 (told_one side v o.0 k)

    asked_one : (serial to node peer : ℕ) (label : Option LabelParts) (v : WorldState) → Q v → Q (asked serial to node peer label v)
    asked_one serial to node peer None v k = k
    asked_one serial to node peer (Some label) v k = k

    posted_one : (to : ℕ) (bytes : List ℕ) (v : WorldState) → IsIn bytes packets → Q v → Q (posted 0 to false bytes v)
    unfolding posted
    posted_one to bytes v m k = sends_answering _ _ (terms (hist past v)) m k

    sent_one : (to : Option ℕ) (packet : Outgoing) (v : WorldState) → IsIn packet.bytes packets → Q v → Q (sent_to to 0 packet v)
    sent_one None packet v m k = k
    sent_one (Some to) packet v m k = asked_one (v.store.last + 1) to 0 packet.to packet.label (posted 0 to false packet.bytes v) (posted_one to packet.bytes v m k)

    sent_every : (ps : List Outgoing) (v : WorldState) → ((bytes : List ℕ) → IsIn bytes ps → IsIn bytes packets) → Q v → Q (sent_all 0 ps v)
    unfolding sent_all sent
    sent_every [] v f k = k
    sent_every (packet ∷ later) v f k = sent_every later (sent 0 packet v) (λ bytes m. f bytes (inr m)) (sent_one (node_of v.generations 0 packet.to) packet v (f packet.bytes (inl refl)) k)

    pub handed_answering : (outbox : OutboxState) (v : WorldState) → outbox.packets ≡ packets → AreOthers outbox.sides → Q v → Q (handed_out 0 0 outbox v)
    handed_answering outbox v e o k = sent_every outbox.packets (told_all 0 outbox.sides v) (λ bytes m. subst (λ ps. IsIn bytes ps) e m) (told_every outbox.sides v o k)
