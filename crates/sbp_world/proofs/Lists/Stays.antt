-- What is known of the agents as a line begins, and behind what others than the target do.
use Rattle.sbp_world.proofs.Words.Std.{◌∙◌, refl, sym, subst, ◌<◌, ◌||◌, not, ℕ, Bool, true, false, cond, List, ◌∷◌, length, length-set}
use Rattle.sbp_world.proofs.Words.Wire.{is_flying, deliver_step, end_note, judged_note, holder_at, Judged, Event, OutboxState, Moment, asked}
use Rattle.sbp_world.proofs.Words.Target.{NodeState, desk_at}
use Rattle.sbp_world.proofs.Words.Initiator.{InitiatorState}
use Rattle.sbp_world.proofs.Words.Laws.{ran_status, runs}
use Rattle.sbp_world.proofs.Words.World.{marked, handed_out, holder, told_all, WorldState, with_initiator, with_note, without_notes, Lasts, orbs, IsNamed, IsOpenAt, Needs, OpenLists, machine_at}
use Rattle.agent_laws.proofs.Along.Growing.{grown}
use Rattle.sbp_world.proofs.Lists.Calm.{unrun_now}
use Rattle.sbp_journal.specs.declared.cause.Judged.TheVariants as judgements
use Rattle.sbp_world.proofs.Formed.{AreOwn}
use Rattle.sbp_world.proofs.Agents.Management.Still.{hist}
use Rattle.sbp_world.proofs.Hosts.OrbTerms.{AreStill}
use Rattle.sbp_world.proofs.Lists.Adds.{IsGood, Stays, adds_none, all_stay, stays_note, stays_same, stays_then, stays_told}
use Rattle.sbp_world.proofs.Lists.Calm.{asked_calm, calm_asked}
use Rattle.sbp_world.proofs.Lists.Kept.{Kept, keeps}
use Rattle.sbp_world.proofs.Lists.Later.{had_next}
use Rattle.sbp_world.proofs.Lists.Lists.{grows_by}
use Rattle.sbp_world.proofs.Lists.Running.{same_run}
use Rattle.sbp_world.proofs.Lists.Told.{AgentOn}
use Rattle.sbp_world.proofs.Lists.Turns.{Ready}

-- ---- a line begins
module _ (line : ℕ) (event : Event) (ms : List Moment) (w : WorldState) (i : ℕ) (n : Needs ms w i) where
  abbrev now : List Moment
  now = asked line event ∷ ms

  abbrev x : WorldState
  x = without_notes w

  named_now : (place list k : ℕ) → IsNamed ms w place list k → IsNamed now x place list k
  named_now place list k m = record { list = m.list; number = m.number }

  open_now : (place : ℕ) → IsOpenAt ms w place → IsOpenAt now x place
  open_now place o = record {
    inside = o.inside;
    n = o.n;
    list = o.list;
    still = record { latest = o.still.latest; uncut = o.still.uncut };
    named = λ k a b. named_now place o.n k (o.named k a b);
  }

  lists_now : OpenLists now x
  lists_now = record {
    listed = λ place b h c. open_now place (n.lists.listed place b h (asked_calm line event ms _ c));
    one = λ place other b d h g c e. n.lists.one place other b d h g (asked_calm line event ms _ c) e;
    points = λ sent f packet found bar place pointer ask demand e c.
        let p = n.lists.points sent (record { serial = f.serial; found = f.found; to = f.to }) packet found bar place pointer ask demand e (asked_calm line event ms _ c) in
        record {
          inside = p.inside;
          there = p.there;
          n = p.n;
          first = p.first;
          linked_one = p.linked_one;
          none = p.none;
          still = record { latest = p.still.latest; uncut = p.still.uncut };
          named = λ k b. named_now place p.n k (p.named k b);
          alone = p.alone;
        };
    behind = λ place b e c list k f d. named_now place list k (n.lists.behind place b e (asked_calm line event ms _ c) list k f d);
  }

  pub needs_now : Needs now x i
  needs_now = record {
    lists = lists_now;
    brings = λ sent f packet label place which found is b c list e progress d along.
        n.brings sent (record { serial = f.serial; found = f.found; to = f.to }) packet label place which found is b c list e progress d along;
  }

module _ (wild : ℕ → Bool) where
  pub ready_now : (line : ℕ) (event : Event) (past : List Moment) (w : WorldState) → Ready wild past w → Ready wild (asked line event ∷ hist past w) (without_notes w)
  ready_now line event past w r = record {
    good = r.good;
    needs = λ i own. needs_now line event (hist past w) w i (r.needs i own);
    calm = λ i own. calm_asked line event (hist past w) i (r.calm i own);
    within = r.within;
    kept = keeps (tt, r.kept.passes) r.kept.on;
    unrun = λ t i own. unrun_now line event (hist past w) w (r.unrun t i own);
    had = λ q b h own n list. had_next (asked line event) (hist past w) (holder w q).initiator n (r.had q b h own n list);
  }

  -- ---- what others do leaves it so, as the lists grow
  module _ (past : List Moment) (w v : WorldState) (r : Ready wild past w) (s : Stays wild past w v) (lasts : (i : ℕ) → i < length w.initiators → Lasts (hist past w) (hist past v) i) where
    agent_on : (p : ℕ) → p < 8 → AgentOn wild (hist past v) (holder w p) (machine_at w p)
    agent_on p b h n e own =
        let i = (holder w p).initiator in
        let a = r.kept.on p b h n e own in
        let inside = ((r.needs i own).lists.listed p b h (r.calm i own)).inside in
        record {
          progress = a.progress;
          is = a.is ∙ sym (s.adds.ends_are i n);
          ran = λ t. let k = a.progress.ended in same_run a.progress.outcome (runs (hist past w) i n k) (runs (hist past v) i n k) (ran_status (hist past w) i n k) (ran_status (hist past v) i n k) (s.adds.runs_are i n k) (s.adds.ran_are i n k) (a.ran t);
          along = grown (orbs (hist past w) i n) (orbs (hist past v) i n) a.progress (machine_at w p) (grows_by (hist past w) (hist past v) i n (lasts i inside)) a.along;
        }

    pub goes_on : Kept wild past (machine_at v) v
    goes_on =
        keeps (s.adds.passes r.kept.passes) (λ p b.
        subst (λ (t : NodeState). AgentOn wild (hist past v) (holder v p) (desk_at t p).agent) (sym s.target)
        (subst (λ ps. AgentOn wild (hist past v) (holder_at ps p) (machine_at w p)) (sym s.places) (agent_on p b)))

  -- ---- what an initiator hands out
  module _ (past : List Moment) where
    pub stays_marked : (serial : ℕ) (again : Bool) (w : WorldState) → Stays wild past w (marked serial again w)
    stays_marked serial again w = by (again || not (is_flying serial w.store.kept))
      where
        by : (b : Bool) → Stays wild past w (cond b w (record w { store = deliver_step w.store serial }))
        by true = stays_same wild past w
        by false = record { adds = adds_none wild (hist past w); target = refl; places = refl; count = refl }

    pub stays_with : (i : ℕ) (state : InitiatorState) (w : WorldState) → Stays wild past w (with_initiator i state w)
    stays_with i state w = record { adds = adds_none wild (hist past w); target = refl; places = refl; count = length-set w.initiators i state }

    judged_good : (serial : ℕ) (judged : Judged) (ms : List Moment) → IsGood ms (judged_note serial judged)
    judged_good serial judgements.Got ms = tt
    judged_good serial (judgements.Ignored cause) ms = tt

    pub stays_judged : (serial : ℕ) (judged : Judged) (w : WorldState) → Stays wild past w (with_note (judged_note serial judged) w)
    stays_judged serial judged w = stays_note wild past (judged_note serial judged) w (judged_good serial judged (hist past w))

    end_good : (b : Bool) (ms : List Moment) → IsGood ms (end_note b)
    end_good true ms = tt
    end_good false ms = tt

    pub stays_end : (b : Bool) (w : WorldState) → Stays wild past w (with_note (end_note b) w)
    stays_end b w = stays_note wild past (end_note b) w (end_good b (hist past w))

    pub stays_handed : (from weight : ℕ) (outbox : OutboxState) (w : WorldState) → AreOwn outbox.sides → AreStill outbox.sides → Stays wild past w (handed_out from weight outbox w)
    stays_handed from weight outbox w h l =
        let x = told_all weight outbox.sides w in
        stays_then wild past w x (handed_out from weight outbox w) (stays_told wild past weight outbox.sides w h l) (all_stay wild past from outbox.packets x)
