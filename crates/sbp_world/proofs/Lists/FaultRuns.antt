-- At each place of a run in which no initiator injected packets, or few logins were given, each end of an ORB is of a list without an end as failed or illegal before, of the initiators that injected none: each
-- turn keeps it, with that the agent of a list with such an end is dead, or will be so as its last status block is answered.
use Rattle.std.proofs.Common.{◌≡◌, ◌∙◌, sym, ap, subst, inl, inr, ◌⊎◌, ◌<◌, ◌==◌, not, arith, ℕ, suc, true, false, Bool, List, [], ◌∷◌, ◌++◌, map, Some, None}
use Rattle.std.proofs.lemmas.Bool.Decides.{nat_tests}
use Rattle.std.proofs.lemmas.Bool.{false≢true}
use Rattle.command_agent.specs.Machine.{state_in}
use Rattle.command_agent.specs.Steps.{is_reset}
use Rattle.rbc_disk.specs.Disk.{Disk}
use Rattle.sbp_bus.specs.Places.{holder_at}
use Rattle.sbp_journal.specs.Run.{Moment, asked, said}
use Rattle.sbp_journal.specs.declared.event.Event.{Event}
use Rattle.sbp_journal.specs.declared.note.Note.TheVariants as notes
use Rattle.sbp_laws.specs.Lawful.{injectors}
use Rattle.sbp_laws.specs.Terms.{lists}
use Rattle.sbp_laws.specs.Turns.{EachMoment}
use Rattle.sbp_target.specs.Nodes.{NodeState, desk_at}
use Rattle.sbp_world.specs.Histories.{history_of, moments_behind}
use Rattle.sbp_world.specs.Runs.{Run, after, beginning}
use Rattle.sbp_world.specs.Settling.{after_all}
use Rattle.sbp_world.specs.Telling.{holder}
use Rattle.sbp_world.specs.Worlds.{WorldState, begun}
use Rattle.sbp_world.proofs.Agents.Management.Still.{hist}
use Rattle.sbp_world.specs.Lists.Closes.{Always, OpenListsLaw, Under, WhereTameOrFew}
use Rattle.sbp_world.specs.Hosts.Runs.{more_deliveries}
use Rattle.sbp_world.specs.Lists.Faults.{EndsAlive, EndsAtFault, FaultsLaw, has_fault}
use Rattle.sbp_world.specs.Lists.FewLogins.{IsTameOrFew}
use Rattle.sbp_world.specs.Lists.OneUp.{AreApart, OneUpLaw}
use Rattle.sbp_world.specs.Lists.Opened.{IsUp}
use Rattle.sbp_world.proofs.Lists.Beside.{tame_or_few_before}
use Rattle.sbp_world.proofs.Lists.Courses.{more_than_one}
use Rattle.sbp_world.proofs.Lists.EndingSteps.{is_last}
use Rattle.sbp_world.proofs.Common.{delivers}
use Rattle.sbp_world.proofs.Lists.FaultLasts.{is_last_end}
use Rattle.sbp_world.proofs.Lists.FaultTells.{AliveAt}
use Rattle.sbp_world.proofs.Lists.FaultTurns.{AreAlive, AreLast, IsGround, IsLastFor, turned}
use Rattle.sbp_world.proofs.Lists.Histories.{after_lines, between}
use Rattle.sbp_world.proofs.Lists.ListsProved.{closing}
use Rattle.sbp_world.proofs.Lists.LiveGiven.{ShortLaw}
use Rattle.sbp_world.proofs.Lists.Passing.{PassLaw}
use Rattle.sbp_world.proofs.Lists.PlaceOwners.{walk_owns}
use Rattle.sbp_world.proofs.Lists.Running.{order_part}
use Rattle.sbp_world.proofs.Lists.TameWalks.{still_after, still_between}
use Rattle.sbp_world.proofs.Lists.TurnCalls.{TurnFrom}
use Rattle.sbp_world.proofs.Lists.TurnWalk.{turn_from}
use Rattle.sbp_world.proofs.Lists.OpenedKnown as opened_known
use Rattle.sbp_world.proofs.Lists.StatusProved.{ground_law}
use Rattle.sbp_world.proofs.Lists.StatusRested.{Grounds, grounds_law}
use Rattle.sbp_world.proofs.Sessions.Runs.{joined_law}
use Rattle.sbp_world.proofs.Lists.UpLatest.{AreUpLatest, up_latest_law}
use Rattle.sbp_world.proofs.Lists.Walks.{Walks}

-- ---- what is known of each place
record Kit (past : List Moment) (w : WorldState) : Type 0 where
  latest : AreUpLatest past w
  apart : AreApart past w

abbrev P : (ℕ → Bool) → List Moment → WorldState → Type 0
P wild past w = AreLast wild past w × AreAlive wild past

-- ---- a turn
module _ (wild : ℕ → Bool) (past : List Moment) (before : WorldState) (later : List Moment) (v : WorldState) (x : TurnFrom wild past before later v) (ground : IsGround wild (hist past before) (hist later v) before v) (o : P wild (hist past before) before) where
  abbrev w : WorldState
  w = x.w

  last_there : (i : ℕ) → IsLastFor before i → IsLastFor w i
  last_there i b = record {
    place = b.place;
    small = b.small;
    initiator_is = ap (λ ps. (holder_at ps b.place).initiator) x.places ∙ b.initiator_is;
    last = ap (λ (t : NodeState). is_last (desk_at t b.place).agent.phase) x.target ∙ b.last;
  }

  up_back : (i q : ℕ) → IsUp w i q → IsUp before i q
  up_back i q u = record {
    up = ap (λ (t : NodeState). not (is_reset (state_in (desk_at t q).agent.phase))) (sym x.target) ∙ u.up;
    own = ap (λ ps. (holder_at ps q).initiator) (sym x.places) ∙ u.own;
  }

  -- at the beginning of its notes
  record Known (ms : List Moment) : Type 0 where
    law : PassLaw wild ms
    listed : (i q n : ℕ) → wild i ≡ false → q < 8 → IsUp w i q → suc n ≡ lists ms i → (holder w q).list ≡ Some n
    last : AreLast wild ms w
    alive : AreAlive wild ms

  as_there : Known (hist past before)
  as_there = record {
    law = ground.passes;
    listed = λ i q n own b u e. ap (λ ps. (holder_at ps q).list) x.places ∙ ground.holds i q n own b (up_back i q u) e;
    last = λ i own n opened h. last_there i (o.0 i own n opened h);
    alive = o.1;
  }

  as_asked : (line : ℕ) (event : Event) → Known (asked line event ∷ hist past before)
  as_asked line event =
      let k = as_there in
      record {
        law = (tt, k.law);
        listed = λ i q n own b u e. k.listed i q n own b u e;
        last = λ i own n opened h. k.last i own n (record { latest = opened.latest; uncut = opened.uncut }) h;
        alive = (tt, k.alive);
      }

  known : Known (hist later w)
  known = by x.begins
    where
      by : (hist later w ≡ hist past before) ⊎ ((line : ℕ) × ((event : Event) × (hist later w ≡ asked line event ∷ hist past before))) → Known (hist later w)
      by (inl e) = subst Known (sym e) as_there
      by (inr h) = subst Known (sym h.1.1) (as_asked h.0 h.1.0)

  turn_keeps : P wild (hist later v) v
  turn_keeps =
      let k = known in
      let t = turned wild later w v (record {
        passes = k.law;
        passes_now = ground.passes_now;
        owns = λ p b l. ground.owns p b l ∙ sym (ap (λ ps. (holder_at ps p).initiator) x.places);
        holds = k.listed;
        apart = ground.apart;
      }) k.last k.alive x.turn in
      (t.last, t.alive)

walk : (wild : ℕ → Bool) (units ready : ℕ) → 0 < units → (start : List Disk) → Walks wild units ready start Grounds Kit (P wild)
walk wild units ready has start past s later t step o =
    turn_keeps wild past s.world later t.world (turn_from wild units ready has start Grounds Kit past s later t step step.known.numbers) (record {
      passes = step.stands.reached.kept.passes;
      passes_now = step.reaches.kept.passes;
      owns = walk_owns units ready has start s step.stands.reached.holds step.stands.reached.site.held later t step.turn;
      holds = λ i q n own b u e. (step.so_far i own).latest i q n (step.stands.reached.calm i own) b u e;
      apart = λ i p q own b c u y. (step.so_far_then i own).apart i p q (step.reaches.calm i own) b c u y;
    }) o

first : (wild : ℕ → Bool) (line : ℕ) (run : Run) → P wild (moments_behind line run []) (beginning run).world
first wild line run = (λ i own n opened h. absurd (false≢true h), (tt, (tt, tt)))

-- ---- each place of a run
module _ (wild : ℕ → Bool) (i : ℕ) (own : wild i ≡ false) where
  own_alive : (j n : ℕ) (past : List Moment) → (i == j) ≡ true → (wild j ≡ false → has_fault past j n ≡ false) → has_fault past i n ≡ false
  own_alive j n past e a =
      let same : i ≡ j = grind (arith, nat_tests) in
      ap (λ l. has_fault past l n) same ∙ a (ap wild (sym same) ∙ own)

  one_alive : (m : Moment) (past : List Moment) → AliveAt wild m past → EndsAlive i m past
  one_alive (said (notes.Ended j (Some n) (Some k) status)) past a = λ e. own_alive j n past e a
  one_alive (said (notes.Ended j (Some n) None status)) past a = tt
  one_alive (said (notes.Ended j None k status)) past a = tt
  one_alive m past a = tt

  each_alive : (past : List Moment) → AreAlive wild past → EachMoment (EndsAlive i) past
  each_alive [] a = tt
  each_alive (m ∷ past) a = (one_alive m past a.0, each_alive past a.1)

pub grounds : Always Grounds
grounds = grounds_law (ground_law opened_known.laws.pointers opened_known.laws.begun) joined_law

module _ (short : ShortLaw) (one : OneUpLaw) where
  known_everywhere : Under (WhereTameOrFew Kit)
  known_everywhere =
      let latest = up_latest_law short in
      record {
        after_lines = λ line run r has small size so_far beside. record { latest = latest.after_lines line run r has small size so_far beside; apart = one.after_lines line run r has small size beside };
        between = λ line run r has small size next most told m so_far beside. record { latest = latest.between line run r has small size next most told m so_far beside; apart = one.between line run r has small size next most told m beside };
      }

  at_fault : (wild : ℕ → Bool) (i : ℕ) → wild i ≡ false → (past : List Moment) → PassLaw wild past → AreAlive wild past → EndsAtFault past i
  at_fault wild i own past passes alive = record {
    alive = each_alive wild i own past alive;
    last = λ n k status e fault. is_last_end i n k status fault wild own past (order_part wild past passes) (each_alive wild i own past alive) e;
  }

  pub faults_law : OpenListsLaw → FaultsLaw
  faults_law lists_law = record {
    after_lines = λ line run r has small size beside i b calm.
        let past = history_of line run in
        let so_far = closing.before lists_law line run r has small size beside in
        at_fault (injectors past) i calm past (after_lines (injectors past) line run r has small size (λ j own. so_far) (λ j own. own)).law
        (still_after IsTameOrFew tame_or_few_before Grounds Kit P grounds known_everywhere walk first line run r has small size so_far beside).1;
    between = λ line run r has small size next most told m beside i b calm.
        let so_far = closing.between lists_law line run r has small size next (more_deliveries most) (more_than_one most) told m beside in
        let now = map said (after_all told (begun (after (beginning run) run.entries))).world.fresh ++ asked next (more_deliveries most) ∷ history_of line run in
        at_fault (injectors now) i calm now (between (injectors now) line run r has small size next (more_deliveries most) (delivers most) told m (λ j own. so_far) (λ j own. own)).law
        (still_between IsTameOrFew tame_or_few_before Grounds Kit P grounds known_everywhere walk first line run r has small size next (more_deliveries most) (more_than_one most) told m so_far beside).1;
  }
