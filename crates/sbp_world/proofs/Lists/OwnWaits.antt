-- As each packet is got in a run in which no initiator injected packets, or few logins were given, the agents wait for page tables and data of an initiator that injected none for the ORB at the head of its own list alone.
use Rattle.sbp_world.proofs.Common.{same_node}
use Rattle.sbp_world.proofs.Words.Std.{◌≡◌, ◌∙◌, sym, ap, subst, ◌<◌, ℕ, List, [], ◌∷◌, ◌++◌, map, Option, Some}
use Rattle.sbp_world.proofs.Words.Wire.{Moment, asked, said, Sending, terms, Event, Note}
use Rattle.sbp_world.proofs.Words.Target.{Disk}
use Rattle.sbp_world.proofs.Words.Laws.{access_in, packet_in, receiver_in, Target, agent_at, target_at, EachMoment}
use Rattle.sbp_world.proofs.Words.World.{ready_logins, WorldState, serial_of, more_deliveries, OpenListsLaw, IsTameOrFew, IsCalm, initiator_in, AreReadsOwn, ReadsAsGot, ReadsAsGotLaw, ReadsItsOwn}
use Rattle.sbp_journal.specs.declared.note.Note.TheVariants as notes
use Rattle.sbp_world.proofs.Agents.Management.Holding.{Holding}
use Rattle.sbp_world.proofs.Agents.Management.Still.{hist}
use Rattle.sbp_world.proofs.Lists.Calm.{asked_calm}
use Rattle.sbp_world.proofs.Lists.Courses.{EveryPlace, Keeps, at_between, at_lines, more_than_one}
use Rattle.sbp_world.proofs.Lists.FedOwners.{are_own_reads}
use Rattle.sbp_world.proofs.Lists.Gots.{Next, next, next_line, same_still}
use Rattle.sbp_world.proofs.Lists.Judging.{goes_next}
use Rattle.sbp_world.proofs.Lists.ListsProved.{closing}
use Rattle.sbp_world.proofs.Lists.LiveRuns.{goes_tame_or_few}
use Rattle.sbp_world.proofs.Lists.ManageSends.{opened_terms}
use Rattle.sbp_world.proofs.Lists.OrbWaits.{over_twice}
use Rattle.sbp_world.proofs.Lists.Quiet.{AllQuiet, IsQuiet}
use Rattle.sbp_world.proofs.Lists.Sites.{waiting}
use Rattle.sbp_world.proofs.Lists.StillRuns.{ground_everywhere}
use Rattle.sbp_world.proofs.Lists.StillTurns.{Ground, site_at}

-- ---- at a place
module _ (units ready : ℕ) (has : 0 < units) (start : List Disk) {past : List Moment} {lines : ℕ} (w : WorldState) (h : Holding units ready start past lines w) (q : Ground start (hist past w) w) (beside : IsTameOrFew (hist past w)) where
  reads_here : AreReadsOwn start (hist past w)
  reads_here place b side mine i waits to calm =
      let site = site_at start past w q in
      let x = waiting units ready has start w h site place b side mine waits in
      let same : initiator_in w place ≡ i = same_node (initiator_in w place) i (sym x.to ∙ to) in
      let quiet = subst (IsCalm (hist past w)) (sym same) calm in
      let o = (q.lists beside).listed place b x.is_open quiet in
      subst (λ j. ReadsItsOwn start (hist past w) place j) same
      (record { n = o.n; latest = o.still.latest; each = are_own_reads units ready has start w h site (q.lists beside) q.along place b x.is_open quiet o.n o.list })

-- ---- as a line begins
reads_asked : (start : List Disk) (line : ℕ) (event : Event) (past : List Moment) → AreReadsOwn start past → AreReadsOwn start (asked line event ∷ past)
reads_asked start line event past a place b side mine i waits to calm =
    let same : (terms (asked line event ∷ past)).sent ≡ (terms past).sent = (opened_terms event (terms past)).sent in
    let twice = over_twice (target_at start past) in
    let x = a place b side mine i (subst (λ (T : Target). serial_of side (agent_at T place) ≡ Some mine) twice waits) (ap (λ (f : ℕ → Option Sending). receiver_in (f mine)) (sym same) ∙ to) (asked_calm line event past i calm) in
    record {
      n = x.n;
      latest = x.latest;
      each = λ other c which serial slot r.
          let y = x.each other c which serial slot (record {
            waits = subst (λ (T : Target). serial_of which (agent_at T other) ≡ Some serial) twice r.waits;
            to = ap (λ (f : ℕ → Option Sending). receiver_in (f serial)) (sym same) ∙ r.to;
            access = r.access;
            is = ap (λ (f : ℕ → Option Sending). access_in (packet_in (f serial))) (sym same) ∙ r.is;
            reads = r.reads;
            some = r.some;
            stands = r.stands;
          }) in
          record { place_is = y.place_is; main = y.main; slot_is = y.slot_is };
    }

-- ---- a turn
module _ (start : List Disk) where
  reads_note : (note : Note) (past : List Moment) → AreReadsOwn start past → ReadsAsGot start (said note) past
  reads_note (notes.Got serial) past a = a
  reads_note note past a = tt

  reads_moment : (moment : Moment) (past : List Moment) → AreReadsOwn start past → ReadsAsGot start moment past
  reads_moment (asked line event) past a = tt
  reads_moment (said note) past a = reads_note note past a

  reads_quiet : (note : Note) (past : List Moment) → IsQuiet note → ReadsAsGot start (said note) past
  reads_quiet (notes.Got serial) past q = absurd q
  reads_quiet note past q = tt

  reads_front : (front : List Note) (past : List Moment) → AllQuiet front → EachMoment (ReadsAsGot start) past → EachMoment (ReadsAsGot start) (map said front ++ past)
  reads_front [] past q g = g
  reads_front (note ∷ front) past q g = (reads_quiet note (map said front ++ past) q.0, reads_front front past q.1 g)

  reads_turn : (before now : List Moment) → Next before now → AreReadsOwn start before → EachMoment (ReadsAsGot start) before → EachMoment (ReadsAsGot start) now
  reads_turn before now (same_still e) a g = subst (EachMoment (ReadsAsGot start)) (sym e) g
  reads_turn before now (next front q moment is) a g = subst (EachMoment (ReadsAsGot start)) is (reads_front front (moment ∷ before) q (reads_moment moment before a, g))
  reads_turn before now (next_line front q note line event is) a g =
      subst (EachMoment (ReadsAsGot start)) is
      (reads_front front (said note ∷ asked line event ∷ before) q (reads_note note (asked line event ∷ before) (reads_asked start line event before a), (tt, g)))

-- ---- at each place of a run
abbrev pub ReadsSo : List Disk → List Moment → WorldState → Type 0
ReadsSo start past w = IsTameOrFew past → EachMoment (ReadsAsGot start) past

all_reads : (units ready : ℕ) → 0 < units → (start : List Disk) → Keeps units ready start (Ground start) (ReadsSo start)
all_reads units ready has start past s later t lines more g h h_now q q_now e beside =
    let before = goes_tame_or_few past s later t g beside in
    reads_turn start (hist past s.world) (hist later t.world) (goes_next past s later t g) (reads_here units ready has start s.world h q before) (e before)

pub reads_as_got : OpenListsLaw → EveryPlace ReadsSo
reads_as_got lists = record {
  after_lines = λ line run r has small size so_far.
      at_lines Ground (ReadsSo run.start.disks) (ground_everywhere lists) line run r.few has small size (all_reads run.units (ready_logins run.initiators run.ready) has run.start.disks) (λ beside. (tt, (tt, tt))) r so_far;
  between = λ line run r has small size next most told m so_far.
      at_between Ground (ReadsSo run.start.disks) (ground_everywhere lists) line run r.few has small size (all_reads run.units (ready_logins run.initiators run.ready) has run.start.disks) (λ beside. (tt, (tt, tt))) r next most told m so_far;
}

pub reads_as_got_law : OpenListsLaw → ReadsAsGotLaw
reads_as_got_law lists = record {
  after_lines = λ line run r has small size beside. (reads_as_got lists).after_lines line run r has small size (closing.before lists line run r has small size beside) beside;
  between = λ line run r has small size next most told m beside.
      (reads_as_got lists).between line run r has small size next most told m (closing.between lists line run r has small size next (more_deliveries most) (more_than_one most) told m beside) beside;
}
