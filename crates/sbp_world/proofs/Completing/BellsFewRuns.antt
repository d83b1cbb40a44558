-- In every run in which few logins were given, and no initiator injected packets: each quadlet that a ring wrote once the write of ORB_POINTER for its list was got is got, at rest, by the agent that has the list; and each rung ORB of a
-- list that is present has ended.
use Rattle.sbp_world.proofs.Words.Std.{arith, ◌≡◌, ◌∙◌, refl, subst, inr, ◌<◌, ◌+◌, ℕ, false, List, ◌∷◌, ◌++◌, map, length}
use Rattle.sbp_world.proofs.Words.Wire.{Moment, asked, said}
use Rattle.sbp_world.proofs.Words.Target.{Disk, agent_base}
use Rattle.sbp_world.proofs.Words.Laws.{EachMoment, injectors}
use Rattle.sbp_world.proofs.Words.World.{FewLogins, IsTame, PointersAt, Stands, WorldState, after, after_all, beginning, begun, history_of, more_deliveries}
use Rattle.sbp_laws.specs.Budget.{Lossless}
use Rattle.sbp_laws.specs.Completion.{in_the_air}
use Rattle.sbp_world.specs.Completing.Bells.{WasBelled}
use Rattle.sbp_world.specs.Completing.BellsFew.{QuadletsGotFewLaw, RungEndedFewLaw}
use Rattle.sbp_world.specs.Completing.BellsFound.{AreBellsAddressed, AreBellsFound, AreQuadletsGot}
use Rattle.sbp_world.specs.Completing.BellsGot.{AreBellsTaken, IsBehind}
use Rattle.sbp_world.specs.Completing.BellsTaken.{WereBellsTaken}
use Rattle.sbp_world.specs.Completing.Labels.{AlwaysFrom}
use Rattle.sbp_world.specs.Pointers.Moments.{MayAsk}
use Rattle.sbp_world.proofs.Agents.Management.Runs.{holds_after}
use Rattle.sbp_world.proofs.Agents.Management.Still.{hist}
use Rattle.sbp_world.proofs.Completing.BellsAddressRuns.{bells_addressed_law}
use Rattle.sbp_world.proofs.Completing.BellsFewGot.{AreTakenGot, IsBell, IsSentSince, first_takes, turn_takes}
use Rattle.sbp_world.proofs.Completing.BellsFewOpened.{Opened, opened_few, openings_few_law}
use Rattle.sbp_world.proofs.Lists.FaultRuns.{grounds}
use Rattle.sbp_world.proofs.Completing.BellsFound.{early_less, got_wire, sent_now, taken_at}
use Rattle.sbp_world.proofs.Completing.BellsGot.{at_rest}
use Rattle.sbp_world.proofs.Completing.BellsRuns.{rung_ended_law}
use Rattle.sbp_world.proofs.Completing.BellsTakenRuns.{rest_belled_law}
use Rattle.sbp_world.proofs.Completing.PresentProved.{rest_pointed_law}
use Rattle.sbp_world.proofs.Hosts.Between.{stands_there}
use Rattle.sbp_world.proofs.Hosts.Runs.{count_after, count_between}
use Rattle.sbp_world.proofs.Lists.Beside.{few_back}
use Rattle.sbp_world.proofs.Lists.Clauses.{open_lists_law}
use Rattle.sbp_world.proofs.Lists.Courses.{more_than_one}
use Rattle.sbp_world.proofs.Lists.ListsProved.{closing}
use Rattle.sbp_world.proofs.Lists.OneUp.{one_up_law}
use Rattle.sbp_world.proofs.Lists.ShortLines.{short_law}
use Rattle.sbp_world.proofs.Lists.StatusRested.{Grounds}
use Rattle.sbp_world.proofs.Lists.TameWalks.{from_after, from_between}
use Rattle.sbp_world.proofs.Lists.UnderwayRuns.{delivering}
use Rattle.sbp_world.proofs.Pointers.Proved.{pointers_law, writes_law}

-- ---- what was taken as new was got
taken_got_law : AlwaysFrom (λ start past w. FewLogins past → AreTakenGot start (injectors past) past w)
taken_got_law = record {
  after_lines = λ line run r has small size few.
      from_after FewLogins few_back Grounds Opened AreTakenGot grounds opened_few (λ wild units ready has start past s later t step a. turn_takes wild units ready has start past s later t step a) first_takes line run r has small size
      (closing.before open_lists_law line run r has small size (inr few)) few;
  between = λ line run r has small size next most told m few.
      from_between FewLogins few_back Grounds Opened AreTakenGot grounds opened_few (λ wild units ready has start past s later t step a. turn_takes wild units ready has start past s later t step a) first_takes line run r has small size next
      (more_deliveries most) (more_than_one most) told m (closing.between open_lists_law line run r has small size next (more_deliveries most) (more_than_one most) told m (inr few)) few;
}

-- ---- what a ring wrote is such a packet
module _ {past : List Moment} (w : WorldState) (h : Stands past w) (start : List Disk) (i n k : ℕ) (pointers : PointersAt (hist past w) i) (asks : EachMoment (MayAsk i) (hist past w)) (written : WasBelled (hist past w) i n k) (x : IsBehind start (hist past w) w i n k written) where
  is_bell : written.access.is_block ≡ false → written.access.offset ≡ agent_base x.opening.place + 0x10 → IsBell (hist past w) i x.opening.place written.serial
  is_bell quad at = record {
    packet = _;
    sent = sent_now w h start i n k pointers asks written x;
    from_is = refl;
    to_is = written.to_target;
    honest = written.honest;
    access = written.access;
    spelled = written.spelled;
    write = written.write;
    quad = quad;
    at = at;
  }

  is_since : IsSentSince (hist past w) written.serial x.pointed.serial
  is_since =
      let got = (got_wire w h start i n k pointers asks written x).0 in
      record { later = x.opening.later; earlier = x.opening.before; is = x.opening.is; packet = got.packet; sent = got.sent; less = early_less w h start i n k pointers asks written x }

-- ---- at a place
-- what is known there
record Known (start : List Disk) (now : List Moment) (w : WorldState) : Type 0 where
  pointers : (i : ℕ) → i < length w.initiators → PointersAt now i
  asks : (i : ℕ) → i < length w.initiators → EachMoment (MayAsk i) now
  got : AreTakenGot start (injectors now) now w
  addressed : AreBellsAddressed start now w
  taken : WereBellsTaken now w

quadlets_at : (past : List Moment) (w : WorldState) (now : List Moment) → Stands past w → hist past w ≡ now → (start : List Disk) → Known start now w → IsTame now → Lossless now → in_the_air now ≡ 0 → AreQuadletsGot start now w
quadlets_at past w now h is start =
    subst (λ ms. Known start ms w → IsTame ms → Lossless ms → in_the_air ms ≡ 0 → AreQuadletsGot start ms w) is
    (λ known tame lossless quiet i n k inside fresh written x quad.
    let p = known.pointers i inside in
    let a = known.asks i inside in
    let one = known.taken lossless quiet i n k inside (tame i) fresh written in
    let g = known.got i n written.serial inside (tame i) x.pointed fresh.uncut x.opening (is_bell w h start i n k p a written x quad (known.addressed i n k inside written x quad)) (is_since w h start i n k p a written x) (omega (arith, one)) in
    record { later = g.later; past = g.earlier; is = g.is })

found_at : (start : List Disk) (now : List Moment) (w : WorldState) → Known start now w → AreQuadletsGot start now w → AreBellsFound start now w
found_at start now w known gots i n k inside fresh written x quad = let got = gots i n k inside fresh written x quad in record { later = got.later; past = got.past; is = got.is; at = known.addressed i n k inside written x quad }

-- ---- in every run
known_few : AlwaysFrom (λ start past w. FewLogins past → IsTame past → Known start past w)
known_few = record {
  after_lines = λ line run r has small size few tame. record {
    pointers = λ i b. pointers_law.after_lines line run r i (subst (λ c. i < c) (count_after run run.entries) b);
    asks = λ i b. writes_law.after_lines line run r i (subst (λ c. i < c) (count_after run run.entries) b);
    got = taken_got_law.after_lines line run r has small size few;
    addressed = bells_addressed_law.after_lines line run r has small size tame;
    taken = rest_belled_law.after_lines line run r has small size;
  };
  between = λ line run r has small size next most told m few tame. record {
    pointers = λ i b. pointers_law.between line run r next most told m i (subst (λ c. i < c) (count_between told (after (beginning run) run.entries) ∙ count_after run run.entries) b);
    asks = λ i b. writes_law.between line run r next most told m i (subst (λ c. i < c) (count_between told (after (beginning run) run.entries) ∙ count_after run run.entries) b);
    got = taken_got_law.between line run r has small size next most told m few;
    addressed = bells_addressed_law.between line run r has small size next most told m tame;
    taken = rest_belled_law.between line run r has small size next most told m;
  };
}

pub quadlets_got_few_law : QuadletsGotFewLaw
quadlets_got_few_law = record {
  after_lines = λ line run r has small size few tame.
      let h = holds_after line run run.entries r.few has small size r.short r.entries r.lines in
      quadlets_at h.past (after (beginning run) run.entries).world (history_of line run) h.holds.sound.stands h.is run.start.disks (known_few.after_lines line run r has small size few tame) tame;
  between = λ line run r has small size next most told m few tame.
      let w = (after_all told (begun (after (beginning run) run.entries))).world in
      let x = stands_there line run r next (more_deliveries most) told (delivering told most) m in
      quadlets_at x.past w (map said w.fresh ++ asked next (more_deliveries most) ∷ history_of line run) x.sound.stands x.is run.start.disks (known_few.between line run r has small size next most told m few tame) tame;
}

bells_taken_few : AlwaysFrom (λ start past w. FewLogins past → IsTame past → Lossless past → in_the_air past ≡ 0 → AreBellsTaken start past w)
bells_taken_few = record {
  after_lines = λ line run r has small size few tame lossless quiet.
      let w = (after (beginning run) run.entries).world in
      let now = history_of line run in
      let h = holds_after line run run.entries r.few has small size r.short r.entries r.lines in
      let known = known_few.after_lines line run r has small size few tame in
      taken_at h.past w now h.holds.sound.stands h.is run.start.disks known.pointers known.asks (found_at run.start.disks now w known (quadlets_got_few_law.after_lines line run r has small size few tame lossless quiet));
  between = λ line run r has small size next most told m few tame lossless quiet.
      let w = (after_all told (begun (after (beginning run) run.entries))).world in
      let now = map said w.fresh ++ asked next (more_deliveries most) ∷ history_of line run in
      let x = stands_there line run r next (more_deliveries most) told (delivering told most) m in
      let known = known_few.between line run r has small size next most told m few tame in
      taken_at x.past w now x.sound.stands x.is run.start.disks known.pointers known.asks (found_at run.start.disks now w known (quadlets_got_few_law.between line run r has small size next most told m few tame lossless quiet));
}

pub rung_ended_few_law : RungEndedFewLaw
rung_ended_few_law = record {
  after_lines = λ line run r has small size few tame lossless quiet i n inside fresh present.
      at_rest run.start.disks (history_of line run) (after (beginning run) run.entries).world (openings_few_law.after_lines line run r has small size few) (bells_taken_few.after_lines line run r has small size few tame lossless quiet)
      ((one_up_law short_law open_lists_law).after_lines line run r has small size (inr few)) (rung_ended_law.after_lines line run r has small size (closing.before open_lists_law line run r has small size (inr few)) (inr few)) i n inside (tame i) fresh present
      (λ some. rest_pointed_law.after_lines line run r has small size lossless quiet i n inside (tame i) fresh some);
  between = λ line run r has small size next most told m few tame lossless quiet i n inside fresh present.
      let w = (after_all told (begun (after (beginning run) run.entries))).world in
      at_rest run.start.disks (map said w.fresh ++ asked next (more_deliveries most) ∷ history_of line run) w (openings_few_law.between line run r has small size next most told m few) (bells_taken_few.between line run r has small size next most told m few tame lossless quiet)
      ((one_up_law short_law open_lists_law).between line run r has small size next most told m (inr few))
      (rung_ended_law.between line run r has small size next most told m (closing.between open_lists_law line run r has small size next (more_deliveries most) (more_than_one most) told m (inr few)) (inr few)) i n inside (tame i) fresh present
      (λ some. rest_pointed_law.between line run r has small size next most told m lossless quiet i n inside (tame i) fresh some);
}
