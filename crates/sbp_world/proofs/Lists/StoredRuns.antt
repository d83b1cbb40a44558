-- The response of a login that its initiator got stands in the buffer of the login's place, at each place of a run.
use Rattle.sbp_world.proofs.Words.Std.{◌∙◌, sym, subst, ℕ, ◌<◌, List, [], length}
use Rattle.sbp_world.proofs.Words.Wire.{Moment}
use Rattle.sbp_world.proofs.Words.Target.{Disk}
use Rattle.sbp_world.proofs.Words.World.{more_deliveries, AllOfTarget, moments_behind, ready_logins, Run, after, beginning, after_all, WorldState, begun, initiator_at, HoldsLogin, AreAsked}
use Rattle.sbp_world.proofs.Hosts.Quadlets.{source_law}
use Rattle.sbp_world.proofs.Hosts.Runs.{count_after, count_between}
use Rattle.sbp_world.proofs.Agents.Management.Still.{hist}
use Rattle.sbp_world.proofs.Sessions.HoldingRuns.{holding_law}
use Rattle.sbp_world.proofs.Lists.ContentPlaces.{contents_everywhere}
use Rattle.sbp_world.proofs.Lists.Courses.{EveryPlace, Keeps, at_between, at_lines}
use Rattle.sbp_world.proofs.Lists.Judging.{goes_next, grown}
use Rattle.sbp_world.proofs.Lists.LastReadRuns.{AreReadAt, read_everywhere}
use Rattle.sbp_world.proofs.Lists.LiveGiven.{LawsAt}
use Rattle.sbp_world.proofs.Lists.LiveJoined.{AreBuffersAt, AreStoredAt}
use Rattle.sbp_world.proofs.Lists.LiveRuns.{With, goes_size, known_everywhere}
use Rattle.sbp_world.proofs.Lists.Beside.{AreDone, done_based, done_before, done_calm}
use Rattle.sbp_world.proofs.Lists.InBufferTurns.{stored_turn}
use Rattle.sbp_world.proofs.Lists.ManageTerms.{none_is}
use Rattle.sbp_world.proofs.Lists.PlacedRuns.{ArePlacedAt, placed_everywhere}
use Rattle.sbp_world.proofs.Lists.ReplyRuns.{AreRepliedAt, replied_everywhere}
use Rattle.sbp_world.proofs.Lists.SlotShut.{AllApart}
use Rattle.sbp_world.proofs.Lists.SlotShutRuns.{apart_everywhere}
use Rattle.sbp_world.proofs.Lists.UnderwayRuns.{delivering}

-- what laws give at each place
pub record Stock (start : List Disk) (past : List Moment) (w : WorldState) : Type 0 where
  pub laws : LawsAt start past w
  pub contents : AreAsked start past
  pub placed : ArePlacedAt start past w
  pub holds : (i : ℕ) → i < length w.initiators → HoldsLogin past i (initiator_at w i)
  pub sources : (i : ℕ) → i < length w.initiators → AllOfTarget past i
  pub replied : AreRepliedAt start past w
  pub buffers : AreBuffersAt start past w
  pub read : AreReadAt start past w
  pub apart : (i : ℕ) → i < length w.initiators → AllApart past i

all_stored : (units ready : ℕ) → 0 < units → (start : List Disk) → Keeps units ready start (With Stock start) (AreStoredAt start)
all_stored units ready has start past s later t lines more g h h_now q q_now p i within done =
    let size = goes_size past s later t g in
    let inside : i < length s.world.initiators = subst (λ n. i < n) size within in
    let x = grown (hist past s.world) (hist later t.world) (goes_next past s later t g) in
    let n = length s.world.initiators in
    let done_now : AreDone start n (hist later t.world) i = subst (λ m. AreDone start m (hist later t.world) i) size done in
    let before : AreDone start n (hist past s.world) i = done_before start n x.new (hist past s.world) i (subst (λ ms. AreDone start n ms i) (sym x.is) done_now) in
    let calm = done_calm start n (hist later t.world) i done_now in
    stored_turn units ready has start past s later t g h h_now i inside within (q_now.more.laws.lasts i within) (q_now.more.laws.managed i within calm) (q.known.cored i inside) (q_now.known.cored i within) q_now.more.contents
    (q_now.more.read i within calm) (q_now.more.apart i within) (q_now.more.sources i within) (q.more.holds i inside) (q.more.buffers i inside before) (q.more.replied i inside (done_calm start n (hist past s.world) i before) (done_based start n (hist past s.world) i inside before))
    (p i inside before)

first_stored : (start : List Disk) (line : ℕ) (run : Run) → AreStoredAt start (moments_behind line run []) (beginning run).world
first_stored start line run i l done = record { stored = λ r underway x served. none_is x.op x.operation }

stock_everywhere : EveryPlace LawsAt → EveryPlace AreBuffersAt → EveryPlace (With Stock)
stock_everywhere laws buffers =
    let replied = replied_everywhere laws in
    let read = read_everywhere laws in
    record {
      after_lines = λ line run r has small size so_far.
          let size_is = count_after run run.entries in
          let inside : (i : ℕ) → i < length (after (beginning run) run.entries).world.initiators → i < run.initiators = (λ i l. subst (λ n. i < n) size_is l) in
          record {
            known = known_everywhere.after_lines line run r has small size so_far;
            more = record {
              laws = laws.after_lines line run r has small size so_far;
              contents = contents_everywhere.after_lines line run r has small size so_far;
              placed = placed_everywhere.after_lines line run r has small size so_far;
              holds = λ i l. holding_law.after_lines line run r i (inside i l);
              sources = λ i l. source_law.sources line run r i (inside i l);
              replied = replied.after_lines line run r has small size so_far;
              buffers = buffers.after_lines line run r has small size so_far;
              read = read.after_lines line run r has small size so_far;
              apart = apart_everywhere.after_lines line run r has small size so_far;
            };
          };
      between = λ line run r has small size next most told m so_far.
          let size_is = count_between told (after (beginning run) run.entries) ∙ count_after run run.entries in
          let inside : (i : ℕ) → i < length (after_all told (begun (after (beginning run) run.entries))).world.initiators → i < run.initiators = (λ i l. subst (λ n. i < n) size_is l) in
          record {
            known = known_everywhere.between line run r has small size next most told m so_far;
            more = record {
              laws = laws.between line run r has small size next most told m so_far;
              contents = contents_everywhere.between line run r has small size next most told m so_far;
              placed = placed_everywhere.between line run r has small size next most told m so_far;
              holds = λ i l. holding_law.between line run r next most told m i (inside i l);
              sources = λ i l. source_law.between line run r next (more_deliveries most) told (delivering told most) m i (inside i l);
              replied = replied.between line run r has small size next most told m so_far;
              buffers = buffers.between line run r has small size next most told m so_far;
              read = read.between line run r has small size next most told m so_far;
              apart = apart_everywhere.between line run r has small size next most told m so_far;
            };
          };
    }

pub stored_everywhere : EveryPlace LawsAt → EveryPlace AreBuffersAt → EveryPlace AreStoredAt
stored_everywhere laws buffers =
    let all = stock_everywhere laws buffers in
    record {
      after_lines = λ line run r has small size so_far.
          at_lines (With Stock) (AreStoredAt run.start.disks) all line run r.few has small size (all_stored run.units (ready_logins run.initiators run.ready) has run.start.disks) (first_stored run.start.disks line run) r so_far;
      between = λ line run r has small size next most told m so_far.
          at_between (With Stock) (AreStoredAt run.start.disks) all line run r.few has small size (all_stored run.units (ready_logins run.initiators run.ready) has run.start.disks) (first_stored run.start.disks line run) r next most told m so_far;
    }
