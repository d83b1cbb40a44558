-- What others do leaves the terms of the target as they are, once a turn of it is over; and so does the note at the end of a line.
use Rattle.sbp_world.proofs.Words.Std.{arith, ◌≡◌, ◌∙◌, refl, ap, ℕ, suc, ◌+◌, not, nat_eq, false, cond, List, [], ◌∷◌, Option, Some, None}
use Rattle.sbp_world.proofs.Words.Wire.{LabelParts, node_of, Moment, said, part_of, Terms, terms, Note, Outgoing, Side, OutboxState}
use Rattle.sbp_world.proofs.Words.Target.{Disk}
use Rattle.sbp_world.proofs.Words.Initiator.{Expired}
use Rattle.sbp_world.proofs.Words.Laws.{access_in_bytes, answered_at, receiver_in, sender_in, Reply, Target, going_on, got_by, is_serial, is_write_access, known_at, over, replied, reset_seen, sent_as, taken_on, target_at, target_by}
use Rattle.sbp_world.proofs.Words.World.{handed_out, asked, posted, sent, sent_all, sent_to, told, told_all, WorldState}
use Rattle.sbp_journal.specs.declared.note.Note.TheVariants as notes
use Rattle.sbp_journal.specs.declared.side.Side.TheVariants as sides
use Rattle.sbp_laws.proofs.Going.{going_still, quiet_on}
use Rattle.sbp_world.proofs.Agents.Management.Firsts.{wire_is}
use Rattle.sbp_world.proofs.Formed.{AreOwn, IsNoRun}
use Rattle.sbp_world.proofs.Agents.Management.Told.{term_in}
use Rattle.sbp_world.proofs.Agents.Asides.{settled_over}

-- ---- a note of another node, where no reply waits
own_still : (note : Note) (past : List Moment) (wire : Terms) (t : Target) → IsNoRun note → t.reply ≡ None → target_by note past wire t ≡ t
own_still (notes.Append i list orb cdb buffer) past wire t h e = going_still (notes.Append i list orb cdb buffer) t e
own_still (notes.Low i list orb) past wire t h e = going_still (notes.Low i list orb) t e
own_still (notes.Linked i list orb) past wire t h e = going_still (notes.Linked i list orb) t e
own_still (notes.Rung i list orb) past wire t h e = going_still (notes.Rung i list orb) t e
own_still (notes.Dummied i list orb) past wire t h e = going_still (notes.Dummied i list orb) t e
own_still (notes.Taken i n k status answer) past wire t h e = going_still (notes.Taken i n k status answer) t e
own_still (notes.Drop i list) past wire t h e = going_still (notes.Drop i list) t e
own_still (notes.Op i operation word) past wire t h e = going_still (notes.Op i operation word) t e
own_still (notes.Stuck i) past wire t h e = going_still (notes.Stuck i) t e
own_still (notes.Told i) past wire t h e = going_still (notes.Told i) t e
own_still (notes.Begin initiators ready) past wire t h e = absurd h
own_still (notes.Sent serial generation from to bytes) past wire t h e = absurd h
own_still (notes.Injected serial) past wire t h e = absurd h
own_still (notes.Got serial) past wire t h e = absurd h
own_still (notes.Ignored serial cause) past wire t h e = absurd h
own_still (notes.Lost serial) past wire t h e = absurd h
own_still (notes.TimedOut serial) past wire t h e = absurd h
own_still (notes.Ran i n k unit cdb bytes check) past wire t h e = absurd h
own_still (notes.Ended i n k status) past wire t h e = absurd h
own_still (notes.Cut i n cause) past wire t h e = absurd h
own_still (notes.Dead i n cause) past wire t h e = absurd h
own_still (notes.Managed i word subject status login) past wire t h e = absurd h
own_still (notes.ManageFailed i cause) past wire t h e = absurd h
own_still (notes.Held id) past wire t h e = absurd h
own_still (notes.Expired id) past wire t h e = absurd h
own_still (notes.Back id) past wire t h e = absurd h
own_still (notes.Left id) past wire t h e = absurd h
own_still (notes.Cleared unit) past wire t h e = absurd h
own_still (notes.Reset generation) past wire t h e = absurd h
own_still (notes.Seen node generation) past wire t h e = absurd h
own_still notes.Tick past wire t h e = absurd h
own_still (notes.Refused line number) past wire t h e = absurd h
own_still notes.Settled past wire t h e = absurd h
own_still notes.Stopped past wire t h e = absurd h
own_still (notes.Key unit) past wire t h e = absurd h
own_still (notes.Unsolicited i) past wire t h e = absurd h
own_still (notes.Unsent i) past wire t h e = absurd h

module _ (start : List Disk) (past : List Moment) where
  abbrev Term : WorldState → Target
  Term w = term_in start past w

  none_on : (v w : WorldState) → Term v ≡ Term w → (Term w).reply ≡ None → (Term v).reply ≡ None
  none_on v w same e = ap (λ (t : Target). t.reply) same ∙ e

  -- ---- what an initiator tells and sends
  own_told : (weight : ℕ) (later : List Side) (w : WorldState) → AreOwn later → (Term w).reply ≡ None → Term (told_all weight later w) ≡ Term w
  unfolding told_all told
  own_told weight [] w h e = refl
  own_told weight (sides.Own note ∷ later) w h e =
      let v = told weight (sides.Own note) w in
      let one : Term v ≡ Term w = own_still note _ _ (Term w) h.0.1 e in
      own_told weight later v h.1 (none_on v w one e) ∙ one
  own_told weight (sides.Opened place orb ∷ later) w h e = absurd h.0
  own_told weight (sides.Ran place orb cdb payload outcome ∷ later) w h e = absurd h.0
  own_told weight (sides.Ended place orb status ∷ later) w h e = absurd h.0
  own_told weight (sides.Dead place cause ∷ later) w h e = absurd h.0
  own_told weight (sides.Cut place cause ∷ later) w h e = absurd h.0
  own_told weight (sides.Managed node function subject status login ∷ later) w h e = absurd h.0
  own_told weight (sides.ManageFailed node cause ∷ later) w h e = absurd h.0
  own_told weight (sides.Held login ∷ later) w h e = absurd h.0
  own_told weight (sides.Expired login ∷ later) w h e = absurd h.0
  own_told weight (sides.Back login ∷ later) w h e = absurd h.0
  own_told weight (sides.Left login ∷ later) w h e = absurd h.0
  own_told weight (sides.Cleared unit ∷ later) w h e = absurd h.0
  own_told weight (sides.Unsolicited place ∷ later) w h e = absurd h.0
  own_told weight (sides.Unsent place ∷ later) w h e = absurd h.0

  pub posts_still : (from to : ℕ) (bytes : List ℕ) (w : WorldState) → nat_eq from 0 ≡ false → (Term w).reply ≡ None → Term (posted from to false bytes w) ≡ Term w
  unfolding posted
  posts_still from to bytes w other e =
      let t = Term w in
      let settled = taken_on None t.reply t in
      ap (λ b. cond b (sent_as (part_of bytes) (is_write_access (access_in_bytes bytes)) (w.store.last + 1) settled) settled) other
      ∙ ap (λ (r : Option Reply). taken_on None r t) e

  asked_still : (serial to node peer : ℕ) (label : Option LabelParts) (w : WorldState) → Term (asked serial to node peer label w) ≡ Term w
  asked_still serial to node peer None w = refl
  asked_still serial to node peer (Some label) w = refl

  to_still : (to : Option ℕ) (i : ℕ) (packet : Outgoing) (w : WorldState) → (Term w).reply ≡ None → Term (sent_to to (suc i) packet w) ≡ Term w
  to_still None i packet w e = refl
  to_still (Some to) i packet w e =
      asked_still (w.store.last + 1) to (suc i) packet.to packet.label (posted (suc i) to false packet.bytes w)
      ∙ posts_still (suc i) to packet.bytes w (let z : nat_eq (suc i) 0 ≡ false = grind arith in z) e

  own_sent : (i : ℕ) (packets : List Outgoing) (w : WorldState) → (Term w).reply ≡ None → Term (sent_all (suc i) packets w) ≡ Term w
  unfolding sent_all sent
  own_sent i [] w e = refl
  own_sent i (packet ∷ later) w e =
      let v = sent (suc i) packet w in
      let one : Term v ≡ Term w = to_still (node_of w.generations (suc i) packet.to) i packet w e in
      own_sent i later v (none_on v w one e) ∙ one

  pub own_hands : (i weight : ℕ) (outbox : OutboxState) (w : WorldState) → AreOwn outbox.sides → (Term w).reply ≡ None → Term (handed_out (suc i) weight outbox w) ≡ Term w
  own_hands i weight outbox w h e =
      let v = told_all weight outbox.sides w in
      let one = own_told weight outbox.sides w h e in
      own_sent i outbox.packets v (none_on v w one e) ∙ one

-- ---- the first note of another node's turn ends the target's
module _ (start : List Disk) (ms : List Moment) where
  abbrev T : Target
  T = target_at start ms

  pub got_out : (serial : ℕ) → is_serial (receiver_in ((terms ms).sent serial)) 0 ≡ false → target_at start (said (notes.Got serial) ∷ ms) ≡ over T
  got_out serial e =
      ap (λ w. target_by (notes.Got serial) ms w T) (wire_is start ms)
      ∙ ap (λ b. cond b (got_by (answered_at (terms ms) serial) (terms ms) serial (over T)) (over T)) e

  pub lapsed_out : (serial : ℕ) → is_serial (sender_in ((terms ms).sent serial)) 0 ≡ false → target_at start (said (notes.TimedOut serial) ∷ ms) ≡ over T
  lapsed_out serial e =
      ap (λ w. target_by (notes.TimedOut serial) ms w T) (wire_is start ms)
      ∙ ap (λ b. cond b (replied serial Expired (over T)) (over T)) e

  pub seen_out : (node generation : ℕ) → nat_eq node 0 ≡ false → target_at start (said (notes.Seen node generation) ∷ ms) ≡ over T
  seen_out node generation e = ap (λ b. cond b (reset_seen (not (nat_eq generation ((known_at start ms).wire.generation 0))) (over T)) (over T)) e

-- ---- the note at the end of a line
pub settled_ends : (t : Target) → (over (going_on notes.Settled t)).agents ≡ (over t).agents
settled_ends t = ap (λ (x : Target). (over x).agents) (quiet_on notes.Settled (record { told = λ p. refl; untold = λ p b. refl }) t) ∙ settled_over t

pub stopped_ends : (t : Target) → (over (going_on notes.Stopped t)).agents ≡ (over t).agents
stopped_ends t = ap (λ (x : Target). (over x).agents) (quiet_on notes.Stopped (record { told = λ p. refl; untold = λ p b. refl }) t) ∙ settled_over t
