-- What another node hands out, and a packet that was injected, leave an initiator's operation under way and the latest requests under its labels.
use Rattle.std.proofs.Common.{◌≡◌, ◌∙◌, inl, refl, sym, ap, ℕ, suc, ◌==◌, ◌&&◌, nat_eq, not, Bool, true, false, cond, List, [], ◌∷◌, Option, Some, None}
use Rattle.bus_transactions.specs.Wire.{transaction}
use Rattle.sbp_bus.specs.Generations.{node_of}
use Rattle.sbp_journal.specs.Outgoings.{OutboxState}
use Rattle.sbp_journal.specs.Run.{Moment, said}
use Rattle.sbp_journal.specs.Transactions.{Sending, begun_by, part_of}
use Rattle.sbp_journal.specs.Wire.{Terms, terms}
use Rattle.sbp_journal.specs.declared.note.Note.TheVariants as notes
use Rattle.sbp_journal.specs.declared.outbox.Outgoing.{Outgoing}
use Rattle.sbp_journal.specs.declared.side.Side.{Side}
use Rattle.sbp_journal.specs.declared.side.Side.TheVariants as sides
use Rattle.sbp_laws.specs.Hosts.{Host, host_at, known_host, sent_as}
use Rattle.sbp_laws.specs.Lists.{present_list}
use Rattle.sbp_laws.specs.Turns.{event_of}
use Rattle.sbp_world.specs.Hosts.Handing.{AreOthers, IsOther}
use Rattle.sbp_world.specs.Sending.{sent}
use Rattle.sbp_world.specs.Telling.{told, told_all}
use Rattle.sbp_world.specs.Worlds.{WorldState}
use Rattle.sbp_world.proofs.Common.{none_is, untrue}
use Rattle.sbp_world.proofs.Formed.{AreOwn}
use Rattle.sbp_world.proofs.Hosts.Cores.{wire_is}
use Rattle.sbp_world.proofs.Hosts.Held.{sent_apart}
use Rattle.turn_laws.proofs.Handed.{handed, note_of, notes_sent, notes_told, packet_note}
use Rattle.turn_laws.proofs.RomTerms.{Keeps, NoneMine, none_both, sent_current}
use Rattle.turn_laws.proofs.RomTies.{told_none}
use Rattle.bus_transactions.proofs.Facts.{injected_begun}

-- ---- the target tells no packet either
side_none : (i : ℕ) (side : Side) (w : WorldState) → IsOther side → NoneMine i (note_of side w)
side_none i (sides.Own note) w o = absurd o
side_none i (sides.Opened place orb) w o = tt
side_none i (sides.Ran place orb cdb payload outcome) w o = (refl, tt)
side_none i (sides.Ended place orb status) w o = (refl, tt)
side_none i (sides.Dead place cause) w o = (refl, tt)
side_none i (sides.Cut place cause) w o = (refl, tt)
side_none i (sides.Managed node function subject status login) w o = (refl, tt)
side_none i (sides.ManageFailed node cause) w o = (refl, tt)
side_none i (sides.Held login) w o = (refl, tt)
side_none i (sides.Expired login) w o = (refl, tt)
side_none i (sides.Back login) w o = (refl, tt)
side_none i (sides.Left login) w o = (refl, tt)
side_none i (sides.Cleared unit) w o = (refl, tt)
side_none i (sides.Unsolicited place) w o = (refl, tt)
side_none i (sides.Unsent place) w o = (refl, tt)

others_none : (i weight : ℕ) (later : List Side) (w : WorldState) → AreOthers later → NoneMine i (notes_told weight later w)
others_none i weight [] w o = tt
others_none i weight (side ∷ later) w o =
    let v = told weight side w in none_both i (note_of side w) (notes_told weight later v) (side_none i side w o.0) (others_none i weight later v o.1)

-- ---- the packets of another node
module _ (i from : ℕ) (other : (from == suc i) ≡ false) where
  packet_none : (to : Option ℕ) (packet : Outgoing) (w : WorldState) → NoneMine i (packet_note to from packet w)
  packet_none None packet w = tt
  packet_none (Some to) packet w = (other, tt)

  sent_none : (packets : List Outgoing) (w : WorldState) → NoneMine i (notes_sent from packets w)
  sent_none [] w = tt
  sent_none (packet ∷ later) w =
      let v = sent from packet w in
      let to = node_of w.generations from packet.to in none_both i (packet_note to from packet w) (notes_sent from later v) (packet_none to packet w) (sent_none later v)

  -- of the target
  pub target_none : (weight : ℕ) (outbox : OutboxState) (w : WorldState) → AreOthers outbox.sides → NoneMine i (handed from weight outbox w)
  target_none weight outbox w o =
      let v = told_all weight outbox.sides w in none_both i (notes_told weight outbox.sides w) (notes_sent from outbox.packets v) (others_none i weight outbox.sides w o) (sent_none outbox.packets v)

  -- of another initiator
  pub initiator_none : (weight : ℕ) (outbox : OutboxState) (w : WorldState) → AreOwn outbox.sides → NoneMine i (handed from weight outbox w)
  initiator_none weight outbox w o =
      let v = told_all weight outbox.sides w in none_both i (notes_told weight outbox.sides w) (notes_sent from outbox.packets v) (told_none i weight outbox.sides w o) (sent_none outbox.packets v)

-- ---- a packet that was injected
masked : (a b : Bool) (old x : Host) → b ≡ true → cond (a && not b) x old ≡ old
masked true b old x e = by b e
  where
    by : (c : Bool) → c ≡ true → cond (true && not c) x old ≡ old
    by true f = refl
    by false f = untrue f
masked false b old x e = refl

pub keeps_injected : (i serial generation from to : ℕ) (bytes : List ℕ) (past : List Moment) → (terms past).injected serial ≡ true → Keeps i past (said (notes.Sent serial generation from to bytes) ∷ past)
keeps_injected i serial generation from to bytes past injected = record {
  current = λ g n. sent_current serial packet (terms past) (transaction g (suc i) 0 n) (λ w e. none_is w (sym none ∙ e));
  waited = λ g n k s w. sym (sent_apart serial packet (terms past) (transaction g (suc i) 0 n) (λ v e. none_is v (sym none ∙ e))) ∙ w;
  operation =
      inl (ap (λ (h : Host). h.operation)
      (masked (nat_eq from (suc i)) ((known_host past i).wire.injected serial) (host_at past i) (sent_as (part_of bytes) (event_of past) i (present_list past i) serial (host_at past i))
      (ap (λ (t : Terms). t.injected serial) (wire_is past i) ∙ injected)));
}
  where
    packet : Sending
    packet = record { generation = generation; from = from; to = to; bytes = bytes; injected = (terms past).injected serial }

    none : begun_by packet ≡ None
    none = injected_begun packet injected
