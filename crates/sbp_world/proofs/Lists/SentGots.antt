-- As the target gets a packet, in a run in which no initiator injected packets, or few logins were given, what its agents wait for, to read in a slot, was sent behind the append of the ORB there.
use Rattle.sbp_world.proofs.Words.Std.{◌≡◌, ◌∙◌, sym, ap, subst, ℕ, List, [], ◌∷◌, ◌++◌, map, Option, Some}
use Rattle.sbp_world.proofs.Words.Wire.{Moment, asked, said, Sending, terms, Event, Note}
use Rattle.sbp_world.proofs.Words.Target.{Disk}
use Rattle.sbp_world.proofs.Words.Laws.{access_in, packet_in, receiver_in, Target, agent_at, target_at, EachMoment}
use Rattle.sbp_world.proofs.Words.World.{serial_of, more_deliveries, ready_logins, WorldState, OpenListsLaw, SentAsGot, IsTameOrFew, AreSentBehind}
use Rattle.sbp_world.proofs.Agents.Management.Still.{hist}
use Rattle.sbp_journal.specs.declared.note.Note.TheVariants as notes
use Rattle.sbp_world.proofs.Lists.Calm.{asked_calm}
use Rattle.sbp_world.proofs.Lists.Courses.{EveryPlace, Keeps, at_between, at_lines, more_than_one}
use Rattle.sbp_world.proofs.Lists.Gots.{Next, next, next_line, same_still}
use Rattle.sbp_world.proofs.Lists.Judging.{goes_next}
use Rattle.sbp_world.proofs.Lists.LiveRuns.{goes_tame_or_few}
use Rattle.sbp_world.proofs.Lists.ManageSends.{opened_terms}
use Rattle.sbp_world.proofs.Lists.OrbWaits.{over_twice}
use Rattle.sbp_world.proofs.Lists.Quiet.{AllQuiet, IsQuiet}
use Rattle.sbp_world.proofs.Lists.RunLaws.{sent_reads_law}

-- as a line begins
sent_asked : (start : List Disk) (line : ℕ) (event : Event) (past : List Moment) → AreSentBehind start past → AreSentBehind start (asked line event ∷ past)
sent_asked start line event past a place b which serial i slot n k r =
    let e : (terms (asked line event ∷ past)).sent ≡ (terms past).sent = (opened_terms event (terms past)).sent in
    a place b which serial i slot n k (record {
      waits = subst (λ (t : Target). serial_of which (agent_at t place) ≡ Some serial) (over_twice (target_at start past)) r.waits;
      to = ap (λ (f : ℕ → Option Sending). receiver_in (f serial)) (sym e) ∙ r.to;
      calm = asked_calm line event past i r.calm;
      access = r.access;
      is = ap (λ (f : ℕ → Option Sending). access_in (packet_in (f serial))) (sym e) ∙ r.is;
      reads = r.reads;
      some = r.some;
      stands = r.stands;
      there = r.there;
    })

-- ---- a turn
module _ (start : List Disk) where
  sent_note : (note : Note) (past : List Moment) → AreSentBehind start past → SentAsGot start (said note) past
  sent_note (notes.Got serial) past a = a
  sent_note note past a = tt

  sent_moment : (moment : Moment) (past : List Moment) → AreSentBehind start past → SentAsGot start moment past
  sent_moment (asked line event) past a = tt
  sent_moment (said note) past a = sent_note note past a

  sent_quiet : (note : Note) (past : List Moment) → IsQuiet note → SentAsGot start (said note) past
  sent_quiet (notes.Got serial) past q = absurd q
  sent_quiet note past q = tt

  sent_more : (front : List Note) (past : List Moment) → AllQuiet front → EachMoment (SentAsGot start) past → EachMoment (SentAsGot start) (map said front ++ past)
  sent_more [] past q g = g
  sent_more (note ∷ front) past q g = (sent_quiet note (map said front ++ past) q.0, sent_more front past q.1 g)

  sent_turn : (before now : List Moment) → Next before now → AreSentBehind start before → EachMoment (SentAsGot start) before → EachMoment (SentAsGot start) now
  sent_turn before now (same_still e) a g = subst (EachMoment (SentAsGot start)) (sym e) g
  sent_turn before now (next front q moment is) a g = subst (EachMoment (SentAsGot start)) is (sent_more front (moment ∷ before) q (sent_moment moment before a, g))
  sent_turn before now (next_line front q note line event is) a g =
      subst (EachMoment (SentAsGot start)) is
      (sent_more front (said note ∷ asked line event ∷ before) q (sent_note note (asked line event ∷ before) (sent_asked start line event before a), (tt, g)))

-- ---- at each place of a run
abbrev pub Sent : List Disk → List Moment → WorldState → Type 0
Sent start past w = IsTameOrFew past → AreSentBehind start past

sent_everywhere : OpenListsLaw → EveryPlace Sent
sent_everywhere lists = record {
  after_lines = λ line run r has small size so_far beside. sent_reads_law.after_lines line run r has small size so_far (lists.after_lines line run r has small size beside);
  between = λ line run r has small size next most told m so_far beside.
      sent_reads_law.between line run r has small size next (more_deliveries most) (more_than_one most) told m so_far (lists.between line run r has small size next (more_deliveries most) (more_than_one most) told m beside);
}

abbrev pub SentSo : List Disk → List Moment → WorldState → Type 0
SentSo start past w = IsTameOrFew past → EachMoment (SentAsGot start) past

all_sent : (units ready : ℕ) (start : List Disk) → Keeps units ready start (Sent start) (SentSo start)
all_sent units ready start past s later t lines more g h h_now a a_now e beside =
    let before = goes_tame_or_few past s later t g beside in
    sent_turn start (hist past s.world) (hist later t.world) (goes_next past s later t g) (a before) (e before)

pub sent_as_got : OpenListsLaw → EveryPlace SentSo
sent_as_got lists = record {
  after_lines = λ line run r has small size so_far.
      at_lines Sent (SentSo run.start.disks) (sent_everywhere lists) line run r.few has small size (all_sent run.units (ready_logins run.initiators run.ready) run.start.disks) (λ beside. (tt, (tt, tt))) r so_far;
  between = λ line run r has small size next most told m so_far.
      at_between Sent (SentSo run.start.disks) (sent_everywhere lists) line run r.few has small size (all_sent run.units (ready_logins run.initiators run.ready) run.start.disks) (λ beside. (tt, (tt, tt))) r next most told m so_far;
}
