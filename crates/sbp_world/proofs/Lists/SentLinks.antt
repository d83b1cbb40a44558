-- A packet of the target that is sent in a turn is one that its call handed out, to the node that has the packet's ID.
use Rattle.sbp_world.proofs.Words.Std.{◌≡◌, ◌∙◌, refl, sym, ap, subst, inl, inr, ◌⊎◌, ◌+◌, nat_eq, ℕ, Bool, true, false, cond, List, [], ◌∷◌, Option, Some, None, same_Some}
use Rattle.sbp_world.proofs.Words.Wire.{LabelParts, GenerationsState, node_of, topology_at, OutboxState, Moment, said, Sending, begun_in, terms, Note, Outgoing, Side}
use Rattle.sbp_world.proofs.Words.Target.{Disk, alone}
use Rattle.sbp_world.proofs.Words.Laws.{target_at}
use Rattle.sbp_world.proofs.Words.World.{handed_out, asked_for, posted, sends, sent_all, sent_to, told, told_all, WorldState, AreOthers, IsOther}
use Rattle.sbp_journal.specs.declared.side.Side.TheVariants as sides
use Rattle.sbp_world.proofs.Agents.Management.Still.{hist}
use Rattle.sbp_world.proofs.Hosts.Remaining.{gets_same, ignores_that_same, times_out_same}
use Rattle.sbp_world.proofs.Hosts.SentMoments.{sending, sent_now}
use Rattle.sbp_world.proofs.Lists.MainAnswers.{sent_none}
use Rattle.sbp_world.proofs.Lists.StatusOffice.{sides_generations}
use Rattle.sbp_world.proofs.Lists.TurnCalls.{IsCalled}
use Rattle.sbp_world.proofs.Lists.Turns.{First, got_it, ignored_it, key_it, late_it, seen_it, tick_it}

-- ---- what is so of each packet
abbrev pub AllOf : (Outgoing → Type 0) → List Outgoing → Type 0
AllOf One [] = Unit {0}
AllOf One (packet ∷ later) = One packet × AllOf One later

-- a packet on the wire is one of these, to the node that has its ID
pub record FromPacket (One : Outgoing → Type 0) (g : GenerationsState) (q : Sending) : Type 0 where
  pub packet : Outgoing
  pub one : One packet
  pub bytes : packet.bytes ≡ q.bytes
  pub to : node_of g 0 packet.to ≡ Some q.to

module _ (One : Outgoing → Type 0) (g : GenerationsState) (past : List Moment) (serial : ℕ) (q : Sending) where
  abbrev Sent : WorldState → Type 0
  Sent u = (terms (hist past u)).sent serial ≡ Some q

  abbrev Then : WorldState → Type 0
  Then u = Sent u ⊎ FromPacket One g q

  posts : (to : ℕ) (packet : Outgoing) (u : WorldState) → One packet → node_of g 0 packet.to ≡ Some to → Sent (posted 0 to false packet.bytes u) → Then u
  unfolding posted
  posts to packet u one there e = by (nat_eq serial last) (sym (ap (λ (f : ℕ → Option Sending). f serial) (sent_now (hist past u) last generation 0 to packet.bytes)) ∙ e)
    where
      last : ℕ
      last = u.store.last + 1

      generation : ℕ
      generation = (topology_at u.generations 0).generation

      by : (b : Bool) → cond b (Some (sending (hist past u) last generation 0 to packet.bytes)) ((terms (hist past u)).sent serial) ≡ Some q → Then u
      by true f =
          let same = same_Some (sending (hist past u) last generation 0 to packet.bytes) q f in
          inr (record { packet = packet; one = one; bytes = ap (λ (x : Sending). x.bytes) same; to = there ∙ ap (λ (x : Sending). Some x.to) same })
      by false f = inl f

  waits_on : (number to node peer : ℕ) (label : Option LabelParts) (u : WorldState) → Sent (asked_for number to node peer label u) → Sent u
  waits_on number to node peer None u e = e
  waits_on number to node peer (Some label) u e = e

  goes_to : (o : Option ℕ) (packet : Outgoing) (u : WorldState) → One packet → node_of g 0 packet.to ≡ o → Sent (sent_to o 0 packet u) → Then u
  goes_to None packet u one there e = inl e
  goes_to (Some to) packet u one there e = posts to packet u one there (waits_on (u.store.last + 1) to 0 packet.to packet.label (posted 0 to false packet.bytes u) e)

  goes : (packet : Outgoing) (u : WorldState) → u.generations ≡ g → One packet → Sent (sends 0 packet u) → Then u
  unfolding sends
  goes packet u bus one e = goes_to (node_of u.generations 0 packet.to) packet u one (ap (λ x. node_of x 0 packet.to) (sym bus)) e

  bus_to : (o : Option ℕ) (packet : Outgoing) (u : WorldState) → (sent_to o 0 packet u).generations ≡ u.generations
  unfolding posted
  bus_to None packet u = refl
  bus_to (Some to) packet u = by packet.label
    where
      by : (label : Option LabelParts) → (asked_for (u.store.last + 1) to 0 packet.to label (posted 0 to false packet.bytes u)).generations ≡ u.generations
      by None = refl
      by (Some label) = refl

  bus_same : (packet : Outgoing) (u : WorldState) → (sends 0 packet u).generations ≡ u.generations
  unfolding sends
  bus_same packet u = bus_to (node_of u.generations 0 packet.to) packet u

  pub all_from : (packets : List Outgoing) (u : WorldState) → u.generations ≡ g → AllOf One packets → Sent (sent_all 0 packets u) → Then u
  unfolding sent_all
  all_from [] u bus a e = inl e
  all_from (packet ∷ later) u bus a e = by (all_from later (sends 0 packet u) (bus_same packet u ∙ bus) a.1 e)
    where
      by : Then (sends 0 packet u) → Then u
      by (inl f) = goes packet u bus a.0 f
      by (inr f) = inr f

-- ---- behind a packet that was sent no reply waits
module _ (start : List Disk) (past : List Moment) where
  abbrev Quiet : WorldState → Type 0
  Quiet u = (target_at start (hist past u)).reply ≡ None

  posted_quiet : (to : ℕ) (bytes : List ℕ) (u : WorldState) → Quiet (posted 0 to false bytes u)
  unfolding posted
  posted_quiet to bytes u = sent_none start (hist past u) (u.store.last + 1) (topology_at u.generations 0).generation 0 to bytes

  waits_quiet : (number to node peer : ℕ) (label : Option LabelParts) (u : WorldState) → Quiet u → Quiet (asked_for number to node peer label u)
  waits_quiet number to node peer None u e = e
  waits_quiet number to node peer (Some label) u e = e

  to_quiet : (o : Option ℕ) (packet : Outgoing) (u : WorldState) → Quiet u → Quiet (sent_to o 0 packet u)
  to_quiet None packet u e = e
  to_quiet (Some to) packet u e = waits_quiet (u.store.last + 1) to 0 packet.to packet.label (posted 0 to false packet.bytes u) (posted_quiet to packet.bytes u)

  all_quiet : (packets : List Outgoing) (u : WorldState) → Quiet u → Quiet (sent_all 0 packets u)
  unfolding sent_all sends
  all_quiet [] u e = e
  all_quiet (packet ∷ later) u e = all_quiet later (sends 0 packet u) (to_quiet (node_of u.generations 0 packet.to) packet u e)

  module _ (serial : ℕ) (q : Sending) where
    abbrev There : WorldState → Type 0
    There u = (terms (hist past u)).sent serial ≡ Some q

    new_to : (o : Option ℕ) (packet : Outgoing) (u : WorldState) → There (sent_to o 0 packet u) → There u ⊎ Quiet (sent_to o 0 packet u)
    new_to None packet u e = inl e
    new_to (Some to) packet u e = inr (waits_quiet (u.store.last + 1) to 0 packet.to packet.label (posted 0 to false packet.bytes u) (posted_quiet to packet.bytes u))

    pub new_quiet : (packets : List Outgoing) (u : WorldState) → There (sent_all 0 packets u) → There u ⊎ Quiet (sent_all 0 packets u)
    unfolding sent_all sends
    new_quiet [] u e = inl e
    new_quiet (packet ∷ later) u e = by (new_quiet later (sends 0 packet u) e)
      where
        first_new : There u ⊎ Quiet (sends 0 packet u) → There u ⊎ Quiet (sent_all 0 later (sends 0 packet u))
        first_new (inl f) = inl f
        first_new (inr f) = inr (all_quiet later (sends 0 packet u) f)

        by : There (sends 0 packet u) ⊎ Quiet (sent_all 0 later (sends 0 packet u)) → There u ⊎ Quiet (sent_all 0 later (sends 0 packet u))
        by (inl f) = first_new (new_to (node_of u.generations 0 packet.to) packet u f)
        by (inr f) = inr f

-- ---- what is told sends no packet
module _ (past : List Moment) where
  abbrev Sends : WorldState → ℕ → Option Sending
  Sends u = (terms (hist past u)).sent

  told_sent : (weight : ℕ) (side : Side) (u : WorldState) → IsOther side → Sends (told weight side u) ≡ Sends u
  unfolding told
  told_sent weight (sides.Own note) u f = absurd f
  told_sent weight (sides.Opened place orb) u f = refl
  told_sent weight (sides.Ran place orb cdb payload outcome) u f = refl
  told_sent weight (sides.Ended place orb status) u f = refl
  told_sent weight (sides.Dead place cause) u f = refl
  told_sent weight (sides.Cut place cause) u f = refl
  told_sent weight (sides.Managed node function subject status login) u f = refl
  told_sent weight (sides.ManageFailed node cause) u f = refl
  told_sent weight (sides.Held login) u f = refl
  told_sent weight (sides.Expired login) u f = refl
  told_sent weight (sides.Back login) u f = refl
  told_sent weight (sides.Left login) u f = refl
  told_sent weight (sides.Cleared unit) u f = refl
  told_sent weight (sides.Unsolicited place) u f = refl
  told_sent weight (sides.Unsent place) u f = refl

  all_sent : (weight : ℕ) (said_sides : List Side) (u : WorldState) → AreOthers said_sides → Sends (told_all weight said_sides u) ≡ Sends u
  unfolding told_all
  all_sent weight [] u f = refl
  all_sent weight (side ∷ later) u f = all_sent weight later (told weight side u) f.1 ∙ told_sent weight side u f.0

first_sent : (note : Note) → First note → (ms : List Moment) → (terms (said note ∷ ms)).sent ≡ (terms ms).sent
first_sent _ (got_it serial) ms = (gets_same ((terms ms).sent serial) serial (terms ms)).sent
first_sent _ (ignored_it serial cause) ms = (ignores_that_same ((terms ms).sent serial) cause serial (terms ms)).sent
first_sent _ (late_it serial) ms = (times_out_same (begun_in ((terms ms).sent serial)) (terms ms)).sent
first_sent _ (seen_it node generation) ms = refl
first_sent _ tick_it ms = refl
first_sent _ (key_it unit) ms = refl

-- ---- a call
module _ (start : List Disk) (past : List Moment) (w v : WorldState) (c : IsCalled past w v) (serial : ℕ) (q : Sending) (sent : (terms (hist past v)).sent serial ≡ Some q) (new : (terms (hist past w)).sent serial ≡ Some q → ⊥) where
  abbrev outbox : OutboxState
  outbox = (alone c.call w.target).outbox

  abbrev told_there : WorldState
  told_there = told_all 0 outbox.sides c.u

  back : (terms (hist past told_there)).sent serial ≡ Some q → ⊥
  back e = new (ap (λ (s : ℕ → Option Sending). s serial) (sym (all_sent past 0 outbox.sides c.u c.others ∙ (ap (λ ms. (terms ms).sent) c.fresh ∙ first_sent c.first c.starts (hist past w)))) ∙ e)

  there : (terms (hist past (handed_out 0 0 outbox c.u))).sent serial ≡ Some q
  there = subst (λ x. (terms (hist past x)).sent serial ≡ Some q) c.is sent

  -- it is one of the packets that were handed out
  pub called_from : (One : Outgoing → Type 0) → AllOf One outbox.packets → FromPacket One c.u.generations q
  called_from One all = by (all_from One c.u.generations past serial q outbox.packets told_there (sides_generations 0 outbox.sides c.u) all there)
    where
      by : ((terms (hist past told_there)).sent serial ≡ Some q) ⊎ FromPacket One c.u.generations q → FromPacket One c.u.generations q
      by (inl f) = absurd (back f)
      by (inr f) = f

  pub called_quiet : (target_at start (hist past v)).reply ≡ None
  called_quiet = subst (λ x. (target_at start (hist past x)).reply ≡ None) (sym c.is) (by (new_quiet start past serial q outbox.packets told_there there))
    where
      by : ((terms (hist past told_there)).sent serial ≡ Some q) ⊎ Quiet start past (handed_out 0 0 outbox c.u) → (target_at start (hist past (handed_out 0 0 outbox c.u))).reply ≡ None
      by (inl f) = absurd (back f)
      by (inr f) = f
