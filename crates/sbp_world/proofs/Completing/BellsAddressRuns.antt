-- So it is in every run in which no initiator injected packets.
use Rattle.sbp_world.proofs.Words.Std.{◌≡◌, ◌∙◌, subst, inl, ◌<◌, ℕ, List, ◌∷◌, ◌++◌, map, length}
use Rattle.sbp_world.proofs.Words.Wire.{Moment, asked, said}
use Rattle.sbp_world.proofs.Words.Target.{Disk}
use Rattle.sbp_world.proofs.Words.Laws.{EachMoment}
use Rattle.sbp_world.proofs.Words.World.{AreNamedFor, AreOpenFor, AreUnrefused, PointersAt, Stands, WorldState, after, after_all, beginning, begun, history_of, more_deliveries, view}
use Rattle.bus_transactions.specs.Sent.{AreSent}
use Rattle.sbp_world.specs.Completing.BellsFound.{AreBellsAddressed, BellsAddressedLaw}
use Rattle.sbp_world.specs.Pointers.Moments.{MayAsk}
use Rattle.sbp_world.proofs.Agents.Management.Runs.{holds_after}
use Rattle.sbp_world.proofs.Agents.Management.Still.{hist}
use Rattle.sbp_world.proofs.Completing.BellsAddress.{is_addressed}
use Rattle.sbp_world.proofs.Hosts.Between.{stands_there}
use Rattle.sbp_world.proofs.Hosts.Runs.{count_after, count_between}
use Rattle.sbp_world.proofs.Lists.Clauses.{logouts_law, open_lists_law}
use Rattle.sbp_world.proofs.Lists.Courses.{more_than_one}
use Rattle.sbp_world.proofs.Lists.DataLaws.{names_by}
use Rattle.sbp_world.proofs.Lists.ListsProved.{closing}
use Rattle.sbp_world.proofs.Lists.OneUp.{open_for_law}
use Rattle.sbp_world.proofs.Lists.ShortLines.{short_law}
use Rattle.sbp_world.proofs.Lists.UnderwayRuns.{delivering}
use Rattle.sbp_world.proofs.Pointers.Proved.{between_wire, pointers_law, wire_of, writes_law}

-- what is known of an initiator
record Known (now : List Moment) (w : WorldState) (i : ℕ) : Type 0 where
  pointers : PointersAt now i
  asks : EachMoment (MayAsk i) now
  sent : AreSent now
  unrefused : AreUnrefused now i
  open_for : AreOpenFor (view now i) w i
  names : AreNamedFor now i

addressed_at : (past : List Moment) (w : WorldState) (now : List Moment) → Stands past w → hist past w ≡ now → (start : List Disk) → ((i : ℕ) → i < length w.initiators → Known now w i) → AreBellsAddressed start now w
addressed_at past w now h is start =
    subst (λ ms. ((i : ℕ) → i < length w.initiators → Known ms w i) → AreBellsAddressed start ms w) is
    (λ known i n k inside written x quad.
    let a = known i inside in
    is_addressed w h start i n k a.pointers a.asks written x a.sent a.unrefused a.open_for a.names quad)

pub bells_addressed_law : BellsAddressedLaw
bells_addressed_law = record {
  after_lines = λ line run r has small size tame.
      let h = holds_after line run run.entries r.few has small size r.short r.entries r.lines in
      let so_far = closing.before open_lists_law line run r has small size (inl tame) in
      addressed_at h.past (after (beginning run) run.entries).world (history_of line run) h.holds.sound.stands h.is run.start.disks
      (λ i b.
      let within : i < run.initiators = subst (λ c. i < c) (count_after run run.entries) b in
      record {
        pointers = pointers_law.after_lines line run r i within;
        asks = writes_law.after_lines line run r i within;
        sent = (wire_of line run r i within).sent;
        unrefused = logouts_law.after_lines line run r has small size so_far (inl tame) i b (tame i);
        open_for = (open_for_law short_law).after_lines line run r has small size so_far (inl tame) i b (tame i);
        names = (names_by short_law).after_lines line run r has small size so_far (inl tame) i b (tame i);
      });
  between = λ line run r has small size next most told m tame.
      let w = (after_all told (begun (after (beginning run) run.entries))).world in
      let now = map said w.fresh ++ asked next (more_deliveries most) ∷ history_of line run in
      let x = stands_there line run r next (more_deliveries most) told (delivering told most) m in
      let so_far = closing.between open_lists_law line run r has small size next (more_deliveries most) (more_than_one most) told m (inl tame) in
      addressed_at x.past w now x.sound.stands x.is run.start.disks
      (λ i b.
      let within : i < run.initiators = subst (λ c. i < c) (count_between told (after (beginning run) run.entries) ∙ count_after run run.entries) b in
      record {
        pointers = pointers_law.between line run r next most told m i within;
        asks = writes_law.between line run r next most told m i within;
        sent = (between_wire line run r next most told m i within).0.sent;
        unrefused = logouts_law.between line run r has small size next most told m so_far (inl tame) i b (tame i);
        open_for = (open_for_law short_law).between line run r has small size next most told m so_far (inl tame) i b (tame i);
        names = (names_by short_law).between line run r has small size next most told m so_far (inl tame) i b (tame i);
      });
}
