-- At each place of every run that is without loss, with nothing in flight, the run is at rest.
use Rattle.sbp_world.proofs.Words.Std.{arith, ◌≡◌, ◌∙◌, sym, ap, subst, ℕ, ◌+◌, ◌<◌, ◌≤◌, List, ◌∷◌, ◌++◌, length, map}
use Rattle.sbp_world.proofs.Words.Wire.{Moment, asked, said, terms}
use Rattle.sbp_world.proofs.Words.Target.{Disk}
use Rattle.sbp_world.proofs.Words.Laws.{EachMoment, initiators}
use Rattle.sbp_world.proofs.Words.World.{AreAgentsAt, Stands, WorldState, after, after_all, beginning, begun, history_of, initiator_at, more_deliveries, ready_logins}
use Rattle.sbp_laws.specs.Budget.{Lossless}
use Rattle.sbp_laws.specs.Completion.{in_the_air}
use Rattle.sbp_world.specs.Completing.Rest.{IsAtRest, RestLaw, WhereStill}
use Rattle.sbp_world.specs.Completing.RestServed.{RestServedLaw, WereTaken}
use Rattle.sbp_world.proofs.Agents.CrewRuns.{agents_between_law, agents_run_law}
use Rattle.sbp_world.proofs.Agents.Management.Holding.{Holding}
use Rattle.sbp_world.proofs.Agents.Management.Lines.{all_heard, opens}
use Rattle.sbp_world.proofs.Agents.Management.Runs.{holds_after, no_repeats, not_reset}
use Rattle.sbp_world.proofs.Agents.Management.Still.{hist}
use Rattle.sbp_world.proofs.Completing.RestLosses.{BeginsFirst, first_after, first_between}
use Rattle.sbp_world.proofs.Completing.RestNodes.{initiator_rests, no_request, none_waits, target_rests, terms_rest}
use Rattle.sbp_world.proofs.Completing.RestServed.{were_taken}
use Rattle.sbp_world.proofs.Counting.StartCounted.{counted_after, counted_between}
use Rattle.sbp_world.proofs.Hosts.Aimed.{Aims, Aimeds, aimed_carried, first_aimed}
use Rattle.sbp_world.proofs.Hosts.Between.{stands_there}
use Rattle.sbp_world.proofs.Hosts.Carried.{between_runs, of_runs}
use Rattle.sbp_world.proofs.Hosts.Runs.{are_told, count_after, count_between}
use Rattle.sbp_world.proofs.Lists.Courses.{more_than_one}
use Rattle.sbp_world.proofs.Lists.UnderwayRuns.{delivering}

-- what is known at a place
record IsStanding (units ready : ℕ) (start : List Disk) (now : List Moment) (w : WorldState) : Type 0 where
  past : List Moment
  lines : ℕ
  holds : Holding units ready start past lines w
  is : hist past w ≡ now
  agents : AreAgentsAt start now w
  first : EachMoment BeginsFirst now
  count : length w.initiators ≡ initiators now
  aims : (i : ℕ) → i < length w.initiators → Aims (initiator_at w i).layer (initiator_at w i).target

rests_there : (units ready : ℕ) → 0 < units → (start : List Disk) (past : List Moment) (lines : ℕ) (w : WorldState) → Holding units ready start past lines w → AreAgentsAt start (hist past w) w → EachMoment BeginsFirst (hist past w) → length w.initiators ≡ initiators (hist past w) → ((i : ℕ) → i < length w.initiators → Aims (initiator_at w i).layer (initiator_at w i).target) → WhereStill IsAtRest start (hist past w) w
rests_there units ready has start past lines w holds agents first count aims lossless calm =
    let stands = holds.sound.stands in
    let none = none_waits w stands first lossless calm in
    let seen : (node : ℕ) → node ≤ length w.initiators → (terms (hist past w)).generation node ≡ (terms (hist past w)).bus = λ node l. lossless.seen node (omega (arith, l, count)) in
    let target : (terms (hist past w)).generation 0 ≡ (terms (hist past w)).bus = seen 0 (omega arith) in
    record {
      by_terms = terms_rest units ready has start w holds none target (no_request w stands none seen) agents;
      target = target_rests units ready has start w holds none target;
      initiators = λ i b. initiator_rests w stands none seen holds.sound.nodes i b (aims i b);
    }

rests : (units ready : ℕ) → 0 < units → (start : List Disk) (now : List Moment) (w : WorldState) → IsStanding units ready start now w → WhereStill IsAtRest start now w
rests units ready has start now w p =
    subst (λ ms. WhereStill IsAtRest start ms w) p.is
    (rests_there units ready has start p.past p.lines w p.holds (subst (λ ms. AreAgentsAt start ms w) (sym p.is) p.agents) (subst (EachMoment BeginsFirst) (sym p.is) p.first) (subst (λ ms. length w.initiators ≡ initiators ms) (sym p.is) p.count) p.aims)

taken_there : (past : List Moment) (w : WorldState) (now : List Moment) → Stands past w → hist past w ≡ now → EachMoment BeginsFirst now → Lossless now → in_the_air now ≡ 0 → WereTaken now
taken_there past w now stands is first lossless calm =
    subst WereTaken is (were_taken w stands (subst (EachMoment BeginsFirst) (sym is) first) (subst Lossless (sym is) lossless) (subst (λ ms. in_the_air ms ≡ 0) (sym is) calm))

pub rest_law : RestLaw
rest_law = record {
  after_lines = λ line run r has small size.
      let here = after (beginning run) run.entries in
      let logins = ready_logins run.initiators run.ready in
      let h = holds_after line run run.entries r.few has small size r.short r.entries r.lines in
      rests run.units logins has run.start.disks (history_of line run) here.world (record {
        past = h.past;
        lines = length run.entries;
        holds = h.holds;
        is = h.is;
        agents = agents_run_law line run r.few has small size r.short r.entries r.lines;
        first = first_after line run r size;
        count = counted_after line run r size;
        aims = λ i b. (of_runs (Aimeds run.ready) (aimed_carried run.ready) line run (λ entries few short all fit j c. tt) (λ j c. first_aimed j run.ready) r i (subst (λ n. i < n) (count_after run run.entries) b)).aims;
      });
  between = λ line run r has small size next most told m.
      let here = after (beginning run) run.entries in
      let event = more_deliveries most in
      let d = more_than_one most in
      let logins = ready_logins run.initiators run.ready in
      let h = holds_after line run run.entries r.few has small size r.short r.entries r.lines in
      let begins = opens run.units logins has run.start.disks next event here.world (not_reset event d) h.holds in
      let holds = all_heard run.units logins has run.start.disks told (are_told told here m) (begun here) begins (no_repeats event (hist h.past here.world) next d) in
      let w = (after_all told (begun here)).world in
      rests run.units logins has run.start.disks (map said w.fresh ++ asked next event ∷ history_of line run) w (record {
        past = asked next event ∷ hist h.past here.world;
        lines = length run.entries + 1;
        holds = holds;
        is = ap (λ ms. map said w.fresh ++ asked next event ∷ ms) h.is;
        agents = agents_between_law line run r.few has small size r.short r.entries r.lines next event d told m;
        first = first_between line run r size next event told m;
        count = counted_between line run r size next event told m;
        aims = λ i b. (between_runs (Aimeds run.ready) (aimed_carried run.ready) line run (λ entries few short all fit j c. tt) (λ j c. first_aimed j run.ready) r next most told m i (subst (λ n. i < n) (count_between told here ∙ count_after run run.entries) b)).aims;
      });
}

-- each write was taken
pub rest_served_law : RestServedLaw
rest_served_law = record {
  after_lines = λ line run r has small size lossless calm.
      let h = holds_after line run run.entries r.few has small size r.short r.entries r.lines in
      taken_there h.past (after (beginning run) run.entries).world (history_of line run) h.holds.sound.stands h.is (first_after line run r size) lossless calm;
  between = λ line run r has small size next most told m lossless calm.
      let x = stands_there line run r next (more_deliveries most) told (delivering told most) m in
      let w = (after_all told (begun (after (beginning run) run.entries))).world in
      taken_there x.past w (map said w.fresh ++ asked next (more_deliveries most) ∷ history_of line run) x.sound.stands x.is (first_between line run r size next (more_deliveries most) told m) lossless calm;
}
