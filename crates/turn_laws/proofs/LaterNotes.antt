-- The notes that a node hands out behind the first one of a turn: what is told says nothing of the wire, and each packet is its own. So the terms behind them go on from those before.
use Rattle.std.proofs.Common.{arith, ◌≡◌, ◌∙◌, refl, sym, ap, subst, inl, inr, ◌⊎◌, ℕ, List, [], ◌∷◌, ◌++◌, map, Option, Some, None}
use Rattle.std.proofs.lemmas.Bool.Decides.{nat_tests}
use Rattle.bus_transactions.specs.Packets.{SerialsCount}
use Rattle.bus_transactions.specs.Sent.{AreSent}
use Rattle.rbc_disk.specs.Disk.{Disk}
use Rattle.sbp_bus.specs.Generations.{GenerationsState, node_of}
use Rattle.sbp_journal.specs.Outgoings.{OutboxState}
use Rattle.sbp_journal.specs.Run.{Moment, asked, said}
use Rattle.sbp_journal.specs.Transactions.{Sending}
use Rattle.sbp_journal.specs.Wire.{Terms, begun_in, noted, terms}
use Rattle.sbp_journal.specs.declared.note.Note.{Note}
use Rattle.sbp_journal.specs.declared.note.Note.TheVariants as notes
use Rattle.sbp_journal.specs.declared.outbox.Outgoing.{Outgoing}
use Rattle.sbp_journal.specs.declared.side.Side.{Side}
use Rattle.sbp_journal.specs.declared.side.Side.TheVariants as sides
use Rattle.sbp_laws.specs.Targets.{known_at, target_at}
use Rattle.sbp_world.specs.Hosts.Handing.{AreOthers, IsOther}
use Rattle.sbp_world.specs.Sending.{sent, sent_all}
use Rattle.sbp_world.specs.Telling.{told, told_all}
use Rattle.sbp_world.specs.Worlds.{WorldState}
use Rattle.sbp_world.proofs.Formed.{AreOwn, IsNoRun}
use Rattle.sbp_world.proofs.Hosts.Remaining.{gets_same, ignores_that_same, opened_same, times_out_same}
use Rattle.sbp_world.proofs.Hosts.SentMoments.{sending, sent_now, sent_there}
use Rattle.sbp_world.proofs.Lists.StatusOffice.{sides_generations}
use Rattle.sbp_world.proofs.Wire.Alike.{all_alike}
use Rattle.turn_laws.proofs.Handed.{handed, note_of, notes_sent, notes_told, onto, packet_note}
use Rattle.turn_laws.proofs.LaterTerms.{Clean, Grows, Later, Pushes, grown, self, sends_later, still, then_later}
use Rattle.turn_laws.proofs.PendingTerms.{upd_other}
use Rattle.turn_laws.proofs.PushSerials.{Apart, Has, counted}
use Rattle.turn_laws.proofs.SerialsStay.{IsNoSent, ends_turn, note_goes}

-- ---- notes that say nothing of the wire, but for packets of a node
-- Q is what is so of each packet, by its node and its bytes
module _ (Q : ℕ → List ℕ → Type 0) where
  abbrev pub IsPlain : (from : ℕ) → Note → Type 0
  IsPlain from (notes.Sent serial generation node to bytes) = (node ≡ from) × Q to bytes
  IsPlain from (notes.Got serial) = ⊥
  IsPlain from (notes.Ignored serial cause) = ⊥
  IsPlain from (notes.TimedOut serial) = ⊥
  IsPlain from (notes.Seen node generation) = ⊥
  IsPlain from (notes.Injected serial) = ⊥
  IsPlain from (notes.Lost serial) = ⊥
  IsPlain from (notes.Reset generation) = ⊥
  IsPlain from note = Unit {0}

  abbrev pub ArePlain : (from : ℕ) → List Note → Type 0
  ArePlain from [] = Unit {0}
  ArePlain from (note ∷ rest) = IsPlain from note × ArePlain from rest

  both_plain : (from : ℕ) (a b : List Note) → ArePlain from a → ArePlain from b → ArePlain from (a ++ b)
  both_plain from [] b p q = q
  both_plain from (note ∷ a) b p q = (p.0, both_plain from a b p.1 q)

  own_note : (from : ℕ) (note : Note) → IsNoRun note → IsPlain from note
  own_note from (notes.Sent serial generation node to bytes) h = absurd h
  own_note from (notes.Got serial) h = absurd h
  own_note from (notes.Ignored serial cause) h = absurd h
  own_note from (notes.TimedOut serial) h = absurd h
  own_note from (notes.Seen node generation) h = absurd h
  own_note from (notes.Injected serial) h = absurd h
  own_note from (notes.Lost serial) h = absurd h
  own_note from (notes.Reset generation) h = absurd h
  own_note from note h = tt

  other_plain : (from : ℕ) (side : Side) (w : WorldState) → IsOther side → ArePlain from (note_of side w)
  other_plain from (sides.Own note) w o = absurd o
  other_plain from (sides.Opened place orb) w o = tt
  other_plain from side w o = (tt, tt)

  others_plain : (from weight : ℕ) (later : List Side) (w : WorldState) → AreOthers later → ArePlain from (notes_told weight later w)
  others_plain from weight [] w o = tt
  others_plain from weight (side ∷ later) w o =
      let v = told weight side w in both_plain from (note_of side w) (notes_told weight later v) (other_plain from side w o.0) (others_plain from weight later v o.1)

  owns_plain : (from weight : ℕ) (later : List Side) (w : WorldState) → AreOwn later → ArePlain from (notes_told weight later w)
  owns_plain from weight [] w o = tt
  owns_plain from weight (sides.Own note ∷ later) w o =
      let v = told weight (sides.Own note) w in both_plain from (note ∷ []) (notes_told weight later v) (own_note from note o.0.1, tt) (owns_plain from weight later v o.1)
  owns_plain from weight (side ∷ later) w o = absurd o.0

  -- what is so of a packet that leaves
  abbrev pub Leaves : (from : ℕ) → GenerationsState → Outgoing → Type 0
  Leaves from g packet = (to : ℕ) → node_of g from packet.to ≡ Some to → Q to packet.bytes

  abbrev pub AllLeave : (from : ℕ) → GenerationsState → List Outgoing → Type 0
  AllLeave from g [] = Unit {0}
  AllLeave from g (packet ∷ later) = Leaves from g packet × AllLeave from g later

  packet_plain : (to : Option ℕ) (from : ℕ) (packet : Outgoing) (w : WorldState) → node_of w.generations from packet.to ≡ to → Leaves from w.generations packet → ArePlain from (packet_note to from packet w)
  packet_plain None from packet w e l = tt
  packet_plain (Some to) from packet w e l = ((refl, l to e), tt)

  sent_bus : (from : ℕ) (packet : Outgoing) (w : WorldState) → (sent from packet w).generations ≡ w.generations
  unfolding sent_all
  sent_bus from packet w = (all_alike from (packet ∷ []) w).generations

  sent_plain : (from : ℕ) (packets : List Outgoing) (w : WorldState) → AllLeave from w.generations packets → ArePlain from (notes_sent from packets w)
  sent_plain from [] w l = tt
  sent_plain from (packet ∷ later) w l =
      let v = sent from packet w in
      let to = node_of w.generations from packet.to in
      both_plain from (packet_note to from packet w) (notes_sent from later v) (packet_plain to from packet w refl l.0)
      (sent_plain from later v (subst (λ g. AllLeave from g later) (sym (sent_bus from packet w)) l.1))

  pub others_handed : (from weight : ℕ) (outbox : OutboxState) (w : WorldState) → AreOthers outbox.sides → AllLeave from w.generations outbox.packets → ArePlain from (handed from weight outbox w)
  others_handed from weight outbox w o l =
      let v = told_all weight outbox.sides w in
      both_plain from (notes_told weight outbox.sides w) (notes_sent from outbox.packets v) (others_plain from weight outbox.sides w o)
      (sent_plain from outbox.packets v (subst (λ g. AllLeave from g outbox.packets) (sym (sides_generations weight outbox.sides w)) l))

  pub owns_handed : (from weight : ℕ) (outbox : OutboxState) (w : WorldState) → AreOwn outbox.sides → AllLeave from w.generations outbox.packets → ArePlain from (handed from weight outbox w)
  owns_handed from weight outbox w o l =
      let v = told_all weight outbox.sides w in
      both_plain from (notes_told weight outbox.sides w) (notes_sent from outbox.packets v) (owns_plain from weight outbox.sides w o)
      (sent_plain from outbox.packets v (subst (λ g. AllLeave from g outbox.packets) (sym (sides_generations weight outbox.sides w)) l))

-- ---- the front of a history
pub one_count : (note : Note) (past : List Moment) → SerialsCount (said note ∷ past) → SerialsCount past
one_count (notes.Sent serial generation from to bytes) past c = c.1
one_count note past c = c

pub counts_before : (rest old : List Note) (past : List Moment) → SerialsCount (map said (onto rest old) ++ past) → SerialsCount (map said old ++ past)
counts_before [] old past c = c
counts_before (note ∷ rest) old past c = one_count note (map said old ++ past) (counts_before rest (note ∷ old) past c)

one_sent : (note : Note) (past : List Moment) → AreSent (said note ∷ past) → AreSent past
one_sent (notes.Sent serial generation from to bytes) past c = c.1
one_sent note past c = c

sent_before : (rest old : List Note) (past : List Moment) → AreSent (map said (onto rest old) ++ past) → AreSent (map said old ++ past)
sent_before [] old past c = c
sent_before (note ∷ rest) old past c = one_sent note (map said old ++ past) (sent_before rest (note ∷ old) past c)

module _ (start : List Disk) (from : ℕ) (Q : ℕ → List ℕ → Type 0) where
  one_later : (note : Note) (past : List Moment) → IsPlain Q from note → SerialsCount (said note ∷ past) → AreSent (said note ∷ past) → Clean (terms past) → Later start from Q past (said note ∷ past)
  one_later (notes.Sent serial generation node to bytes) past p c a clean =
      let next = c.0 in
      subst (λ n. Later start n Q past (said (notes.Sent serial generation node to bytes) ∷ past)) p.0 (sends_later start node Q serial generation to bytes past c a (clean serial (omega (arith, next))) p.1)
  one_later (notes.Got serial) past p c a clean = absurd p
  one_later (notes.Ignored serial cause) past p c a clean = absurd p
  one_later (notes.TimedOut serial) past p c a clean = absurd p
  one_later (notes.Seen node generation) past p c a clean = absurd p
  one_later (notes.Injected serial) past p c a clean = absurd p
  one_later (notes.Lost serial) past p c a clean = absurd p
  one_later (notes.Reset generation) past p c a clean = absurd p
  one_later note past p c a clean = still start from Q note past tt refl

  pub notes_later : (rest old : List Note) (past : List Moment) → ArePlain Q from rest → SerialsCount (map said (onto rest old) ++ past) → AreSent (map said (onto rest old) ++ past) → Clean (terms (map said old ++ past)) → Later start from Q (map said old ++ past) (map said (onto rest old) ++ past)
  notes_later [] old past p c a clean = self start from Q (map said old ++ past)
  notes_later (note ∷ rest) old past p c a clean =
      let ms = map said old ++ past in
      let one = one_later note ms p.0 (counts_before rest (note ∷ old) past c) (sent_before rest (note ∷ old) past a) clean in
      then_later start from Q ms (said note ∷ ms) (map said (onto rest (note ∷ old)) ++ past) one (notes_later rest (note ∷ old) past p.1 c a (one.clean clean))

-- ---- an unsolicited status is the target's
pub record FromTarget (so : Option Sending) : Type 0 where
  pub packet : Sending
  pub is : so ≡ Some packet
  pub from : packet.from ≡ 0

pub note_sent : (note : Note) (t : Terms) → IsNoSent note → (noted note t).sent ≡ t.sent
note_sent (notes.Sent serial generation from to bytes) t i = absurd i
note_sent (notes.Got serial) t i = (gets_same (t.sent serial) serial t).sent
note_sent (notes.Ignored serial cause) t i = (ignores_that_same (t.sent serial) cause serial t).sent
note_sent (notes.TimedOut serial) t i = (times_out_same (begun_in (t.sent serial)) t).sent
note_sent note t i = refl

module _ (start : List Disk) where
  moved_from : (f g : ℕ → Option Sending) (s : ℕ) → g s ≡ f s → FromTarget (f s) → FromTarget (g s)
  moved_from f g s e h = record { packet = h.packet; is = e ∙ h.is; from = h.from }

  -- a packet that is sent
  module _ (serial generation from to : ℕ) (bytes : List ℕ) (past : List Moment) (c : SerialsCount (said (notes.Sent serial generation from to bytes) ∷ past)) where
    abbrev now : List Moment
    now = said (notes.Sent serial generation from to bytes) ∷ past

    abbrev IsFrom : List Moment → ℕ → Type 0
    IsFrom ms s = FromTarget ((terms ms).sent s)

    module _ (s : ℕ) (before : Has (Pushes start past) s → IsFrom past s) where
      earlier : Has (Pushes start past) s → IsFrom now s
      earlier k =
          let small = (counted start past c.1).pushes s k in
          let next = c.0 in
          let q : Sending = record { generation = generation; from = from; to = to; bytes = bytes; injected = (terms past).injected serial } in
          moved_from (terms past).sent (terms now).sent s
          (ap (λ f. f s) (sent_now past serial generation from to bytes) ∙ upd_other (terms past).sent serial s (Some q) (grind (arith, nat_tests)))
          (before k)

      among : from ≡ 0 → (serial ≡ s) ⊎ Has (Pushes start past) s → IsFrom now s
      among zero (inl e) = subst (IsFrom now) e (record { packet = sending past serial generation from to bytes; is = sent_there past serial generation from to bytes; from = zero })
      among zero (inr k) = earlier k

      sent_from : Has (Pushes start now) s → IsFrom now s
      sent_from h = by (grown start from (λ to bytes. Unit {0}) serial generation to bytes past)
        where
          by : (Pushes start now ≡ Pushes start past) ⊎ Grows start from (λ to bytes. Unit {0}) serial generation to bytes past → IsFrom now s
          by (inl e) = earlier (subst (λ xs. Has xs s) e h)
          by (inr g) = among g.zero (subst (λ xs. Has xs s) g.is h)

  pub pushed_from : (ms : List Moment) → SerialsCount ms → (s : ℕ) → Has (Pushes start ms) s → FromTarget ((terms ms).sent s)
  pushed_from [] c s h = absurd h
  pushed_from (asked line event ∷ past) c s h =
      let t = target_at start past in
      moved_from (terms past).sent (terms (asked line event ∷ past)).sent s (ap (λ f. f s) (opened_same event (terms past)).sent)
      (pushed_from past c s (subst (λ xs. Has xs s) (ends_turn (Apart 0) refl t).pushes h))
  pushed_from (said (notes.Sent serial generation from to bytes) ∷ past) c s h = sent_from serial generation from to bytes past c s (λ k. pushed_from past c.1 s k) h
  pushed_from (said note ∷ past) c s h =
      moved_from (terms past).sent (noted note (terms past)).sent s (ap (λ f. f s) (note_sent note (terms past) tt))
      (pushed_from past c s (subst (λ xs. Has xs s) (note_goes (Apart 0) refl note past (known_at start past).wire (target_at start past) tt).pushes h))
