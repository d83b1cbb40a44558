-- The target reads the management ORB that stands in its place.
use Rattle.sbp_world.proofs.Words.Std.{arith, ◌≡◌, ◌∙◌, refl, sym, ap, subst, ℕ, zero, ◌≤◌, List, [], ◌∷◌, ◌++◌, map, Some, append_assoc}
use Rattle.sbp_world.proofs.Words.Wire.{SerialsCount, Access, Moment, asked, said, terms}
use Rattle.sbp_world.proofs.Words.Target.{Operation, Disk}
use Rattle.sbp_world.proofs.Words.Laws.{Underway, access_at, access_in, packet_in, place_bytes, place_held, sender_in}
use Rattle.sbp_world.proofs.Words.World.{history_of, after, beginning, after_all, begun, read_access, more_deliveries, AccessOf, AreAsked, WasAsked, BringPlaces, IsReading, ReadOrbsLaw, OperationsLast}
use Rattle.mgmt_agent.specs.declared.operation.Phase.{Phase}
use Rattle.mgmt_agent.specs.declared.operation.Phase.TheVariants as phases
use Rattle.sbp_journal.specs.declared.note.Note.TheVariants as notes
use Rattle.sbp_world.proofs.Hosts.Between.{of_wire_there}
use Rattle.sbp_world.proofs.Hosts.Remaining.{remains, serials}
use Rattle.sbp_world.proofs.Hosts.SentMoments.{count_now, sent_there, serials_from}
use Rattle.sbp_world.specs.Lists.ReadOrbs.{IsAnswered}
use Rattle.sbp_world.proofs.Lists.ContentAsked.{contents_law}
use Rattle.sbp_world.proofs.Lists.ContentManages.{bound}
use Rattle.sbp_world.proofs.Lists.PlaceBrings.{place_reads_law}
use Rattle.sbp_world.proofs.Lists.UnderwayRuns.{delivering, underway_law}
use Rattle.sbp_world.proofs.Common.{delivers}

-- ---- what a packet of an operation asks for, as the terms have it
module _ (start : List Disk) (past : List Moment) (c : SerialsCount past) (serial : ℕ) (op : Operation) (w : WasAsked start past serial op) where
  abbrev here : List Moment
  here = said (notes.Sent serial w.generation zero w.to w.bytes) ∷ w.before

  counts : SerialsCount (w.later ++ here)
  counts = subst SerialsCount (sym w.is) c

  sent_same : (terms past).sent serial ≡ (terms here).sent serial
  sent_same =
      let first : SerialsCount here = serials_from w.later here counts in
      let k = count_now w.before serial w.generation zero w.to w.bytes in
      let number = first.0 in
      ap (λ ms. (terms ms).sent serial) (sym w.is) ∙ (remains w.later here counts).sent serial (omega (arith, number, k))

  pub access_there : access_at (terms past) serial ≡ Some w.access
  access_there = ap (λ so. access_in (packet_in so)) (sent_same ∙ sent_there w.before serial w.generation zero w.to w.bytes) ∙ w.spelled

  pub sender_there : sender_in ((terms past).sent serial) ≡ Some 0
  sender_there = ap sender_in (sent_same ∙ sent_there w.before serial w.generation zero w.to w.bytes)

pub in_phase : (phase other : Phase) (op : Operation) (access : Access) → phase ≡ other → AccessOf phase op access → AccessOf other op access
in_phase phase other op access e a = subst (λ p. AccessOf p op access) e a

module _ (start : List Disk) (past : List Moment) (i : ℕ) (counts : SerialsCount past) (are : AreAsked start past) (places : BringPlaces past i) (lasts : OperationsLast past i) where
  module _ (read response : ℕ) (underway : Underway) (bytes : List ℕ) (r : IsReading start past i read underway) (behind : underway.first ≤ read) (answered : IsAnswered past i response read bytes) where
    was : WasAsked start past read r.op
    was = are.each read r.op (((bound start past counts).own read r.manages).0 ∙ r.operation)

    reads : was.access ≡ read_access r.op.orb 32
    reads = in_phase r.op.phase phases.Orb r.op was.access r.phase was.content

    pub reads_orb : bytes ≡ place_bytes (place_held past i underway.place)
    reads_orb =
        let is = access_there start past counts read r.op was in
        let own = lasts.each [] past refl underway r.has in
        let b = places response read underway.place was.access bytes own.small
        (record {
          read = ap (λ (a : Access). a.is_write) reads;
          block = ap (λ (a : Access). a.is_block) reads;
          from = ap (λ (a : Access). a.offset) reads ∙ r.orb;
          size = ap (λ (a : Access). a.count) reads;
        })
        (record {
          own = answered.own;
          answers = answered.answers;
          of_initiator = answered.of_initiator;
          asks = is;
          reads = ap (λ (a : Access). a.is_write) reads;
          block = ap (λ (a : Access). a.is_block) reads;
          tells = answered.tells;
        }) in
        let at : (b.later ++ said (notes.Got read) ∷ []) ++ b.before ≡ past = append_assoc b.later (said (notes.Got read) ∷ []) b.before ∙ b.is in
        let below = b.below in
        let before = lasts.was (b.later ++ said (notes.Got read) ∷ []) b.before at underway r.has (omega (arith, behind, below)) in
        b.held ∙ ap place_bytes (sym (before.places underway.place))

pub read_orbs_law : ReadOrbsLaw
read_orbs_law = record {
  after_lines = λ line run r has small size i b.
      λ read response underway bytes is behind answered. reads_orb run.start.disks (history_of line run) i (serials line run r) (contents_law.after_lines line run r has small size) (place_reads_law.after_lines line run r i b) (underway_law.after_lines line run r i b) read response underway bytes is behind answered;
  between = λ line run r has small size next most told m i b.
      let w = (after_all told (begun (after (beginning run) run.entries))).world in
      λ read response underway bytes is behind answered.
      reads_orb run.start.disks (map said w.fresh ++ asked next (more_deliveries most) ∷ history_of line run) i (of_wire_there line run r next (more_deliveries most) told (delivering told most) m).laws.serials (contents_law.between line run r has small size next (more_deliveries most) (delivers most) told m) (place_reads_law.between line run r next (more_deliveries most) told (delivering told most) m i b) (underway_law.between line run r next most told m i b) read response underway bytes is behind answered;
}
