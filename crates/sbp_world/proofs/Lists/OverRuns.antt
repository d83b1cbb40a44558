-- At each place of a run in which no initiator injected packets, or few logins were given, each ORB of the present list of an initiator that injected none ended only as the status block of each one before it was
-- answered: each turn keeps it, with that each status block of such a list was answered but that of the latest end, while the agent of the list writes it, or is dead.
use Rattle.sbp_world.proofs.Words.Std.{◌≡◌, ◌∙◌, refl, sym, ap, subst, inl, inr, ◌⊎◌, ◌<◌, ◌==◌, ◌||◌, not, nat_lt, arith, ℕ, suc, true, false, Bool, List, [], ◌∷◌, ◌++◌, map, length, Some, None, nat_tests, false≢true}
use Rattle.sbp_world.proofs.Words.Wire.{SerialsCount, Event, Moment, asked, said, terms}
use Rattle.sbp_world.proofs.Words.Target.{Disk, Machine, NodeState, alone, desk_at}
use Rattle.sbp_world.proofs.Words.Initiator.{StatusKind}
use Rattle.sbp_world.proofs.Words.Laws.{injectors, IsOpen, OnceAt, OnceLaw, present_list, ended_status, ends, EachMoment}
use Rattle.sbp_world.proofs.Words.World.{AllSentSo, Always, IsCalm, IsTameOrFew, IsUp, MayStand, OneUpLaw, Run, Scene, SentSo, UnderFrom, WhereTameOrFew, WorldState, handed_out, after, after_all, beginning, begun, history_of, initiator_in, machine_at, moments_behind, more_deliveries}
use Rattle.sbp_journal.specs.declared.note.Note.TheVariants as notes
use Rattle.sbp_bus.specs.Places.{holder_at}
use Rattle.sbp_world.specs.Lists.OneUp.{AreApart}
use Rattle.sbp_world.specs.Lists.Statuses.{IsTold}
use Rattle.sbp_world.specs.Lists.TakenTurns.{AnsweredLaw, EndsBehind, WasAnswered}
use Rattle.sbp_world.specs.Sessions.Joined.{IsJoined}
use Rattle.sbp_world.proofs.Agents.Management.Still.{hist}
use Rattle.sbp_world.proofs.Common.{delivers, moments_split}
use Rattle.sbp_world.proofs.Hosts.Remaining.{remains}
use Rattle.sbp_world.proofs.Hosts.Runs.{count_after, count_between}
use Rattle.sbp_world.proofs.Hosts.SentMoments.{sent_below, serials_from}
use Rattle.sbp_world.proofs.Lists.EndingSteps.{is_over}
use Rattle.sbp_world.proofs.Lists.Beside.{tame_or_few_before}
use Rattle.sbp_world.proofs.Lists.Courses.{more_than_one}
use Rattle.sbp_world.proofs.Lists.Executes.{execution_run_law}
use Rattle.sbp_world.proofs.Lists.Extends.{handed_extends}
use Rattle.sbp_world.proofs.Lists.LiveGiven.{ShortLaw}
use Rattle.sbp_world.proofs.Lists.LiveShort.{here_beside, placed_beside}
use Rattle.sbp_world.proofs.Lists.OpenedKnown as opened_known
use Rattle.sbp_world.proofs.Lists.OpenWorlds.{hist_on}
use Rattle.sbp_world.proofs.Lists.OverCalls.{ComesMain, GoesOn}
use Rattle.sbp_world.proofs.Lists.OverClosing.{BeginsSo, begins_so, fresh_then, was_answered}
use Rattle.sbp_world.proofs.Lists.OverTies.{answered_on}
use Rattle.sbp_world.proofs.Lists.OverTurned.{AreBehindOnes, AreDone, BehindAt, IsDone, IsFresh, IsOverFor, IsSince, since_on, turned}
use Rattle.sbp_world.proofs.Lists.Passing.{PassLaw}
use Rattle.sbp_world.proofs.Lists.PlaceOwners.{walk_owns}
use Rattle.sbp_world.proofs.Lists.Rises.{Rises}
use Rattle.sbp_world.proofs.Lists.StatusChecks.{ended_told}
use Rattle.sbp_world.proofs.Lists.StatusKnown.{each_from}
use Rattle.sbp_world.proofs.Lists.StatusPlaces as places
use Rattle.sbp_world.proofs.Lists.StatusPlaces.{AllPlacedFor}
use Rattle.sbp_world.proofs.Lists.StatusProved.{ground_law}
use Rattle.sbp_world.proofs.Lists.StatusRested.{Grounds, grounds_law}
use Rattle.sbp_world.proofs.Lists.StatusRuns.{honest_of, rises_of}
use Rattle.sbp_world.proofs.Lists.StatusSteps.{EndsSo}
use Rattle.sbp_world.proofs.Lists.TameWalks.{from_after, from_between}
use Rattle.sbp_world.proofs.Lists.TurnCalls.{IsCalled, TurnFrom}
use Rattle.sbp_world.proofs.Lists.TurnWalk.{turn_from}
use Rattle.sbp_world.proofs.Lists.UpLatest.{AreUpLatest, up_latest_law}
use Rattle.sbp_world.proofs.Lists.Walks.{Step, Walks}
use Rattle.sbp_world.proofs.Pointers.Proved.{moments_law}
use Rattle.sbp_world.proofs.Sessions.Runs.{joined_between_law, joined_law}
use Rattle.sbp_world.proofs.Wire.Entries.{once_behind}
use Rattle.command_agent.specs.Machine.{state_in}
use Rattle.command_agent.specs.Steps.{is_reset}

-- ---- what is known of each place
abbrev AllTold : List Moment → WorldState → Type 0
AllTold past w = (i : ℕ) → i < length w.initiators → IsCalm past i → (n k : ℕ) (status : StatusKind) → ended_status past i n k ≡ Some status → IsTold status

record Kit (past : List Moment) (w : WorldState) : Type 0 where
  latest : AreUpLatest past w
  apart : AreApart past w
  placed : AllPlacedFor past w
  sent : AllSentSo past w
  told : AllTold past w

record Facts (past : List Moment) (w : WorldState) : Type 0 where
  grounds : Grounds past w
  stands : (i : ℕ) → i < length w.initiators → EachMoment (MayStand i) past
  joined : (i : ℕ) → i < length w.initiators → IsJoined past i

-- of the initiators of the world
abbrev pub beyond : (ℕ → Bool) → ℕ → ℕ → Bool
beyond wild count i = wild i || not (nat_lt i count)

beyond_mild : (wild : ℕ → Bool) (count i : ℕ) → beyond wild count i ≡ false → (wild i ≡ false) × (i < count)
beyond_mild wild count i = by (wild i) (nat_lt i count) refl
  where
    by : (x y : Bool) → nat_lt i count ≡ y → (x || not y) ≡ false → (x ≡ false) × (i < count)
    by false true e f = (refl, (let z : i < count = grind (arith, nat_tests) in z))
    by false false e f = absurd (false≢true (sym f))
    by true y e f = absurd (false≢true (sym f))

beyond_true : (wild : ℕ → Bool) (count i : ℕ) → wild i ≡ true → beyond wild count i ≡ true
beyond_true wild count i e = ap (λ x. x || not (nat_lt i count)) e

pub mild_beyond : (wild : ℕ → Bool) (count i : ℕ) → wild i ≡ false → i < count → beyond wild count i ≡ false
mild_beyond wild count i e b = ap (λ x. x || not (nat_lt i count)) e ∙ ap not (let z : nat_lt i count ≡ true = grind (arith, nat_tests) in z)

-- the pass of those is that of fewer
pass_fewer : (wild bad : ℕ → Bool) → ((i : ℕ) → wild i ≡ true → bad i ≡ true) → ((i : ℕ) → bad i ≡ false → wild i ≡ false) → (ms : List Moment) → PassLaw wild ms → PassLaw bad ms
pass_fewer wild bad f g [] h = tt
pass_fewer wild bad f g (said (notes.Append i n k cdb buffer) ∷ ms) h = (h.0, pass_fewer wild bad f g ms h.1)
pass_fewer wild bad f g (said (notes.Ran i (Some n) (Some k) unit cdb bytes check) ∷ ms) h = ((λ own. h.0 (g i own)), pass_fewer wild bad f g ms h.1)
pass_fewer wild bad f g (said (notes.Ran i (Some n) None unit cdb bytes check) ∷ ms) h = (f i h.0, pass_fewer wild bad f g ms h.1)
pass_fewer wild bad f g (said (notes.Ran i None k unit cdb bytes check) ∷ ms) h = (f i h.0, pass_fewer wild bad f g ms h.1)
pass_fewer wild bad f g (said (notes.Ended i (Some n) (Some k) status) ∷ ms) h = ((λ own. h.0 (g i own)), pass_fewer wild bad f g ms h.1)
pass_fewer wild bad f g (said (notes.Ended i (Some n) None status) ∷ ms) h = (f i h.0, pass_fewer wild bad f g ms h.1)
pass_fewer wild bad f g (said (notes.Ended i None k status) ∷ ms) h = (f i h.0, pass_fewer wild bad f g ms h.1)
pass_fewer wild bad f g (m ∷ ms) h = (tt, pass_fewer wild bad f g ms h.1)

abbrev P : List Disk → (ℕ → Bool) → List Moment → WorldState → Type 0
P start wild past w = AreDone start (beyond wild (length w.initiators)) past w × AreBehindOnes (beyond wild (length w.initiators)) past

-- the moments at which a turn begins are those of the place, or a line that is asked for behind them
record Begun (wild : ℕ → Bool) (place begun : List Moment) : Type 0 where
  pre : List Moment
  is : pre ++ place ≡ begun
  counts : SerialsCount (pre ++ place)
  passes : PassLaw wild begun
  behind : AreBehindOnes wild begun

begun_by : (wild : ℕ → Bool) (place begun : List Moment) → SerialsCount place → PassLaw wild place → AreBehindOnes wild place → (begun ≡ place) ⊎ ((line : ℕ) × ((event : Event) × (begun ≡ asked line event ∷ place))) → Begun wild place begun
begun_by wild place begun c p b (inl e) = record { pre = []; is = sym e; counts = c; passes = subst (PassLaw wild) (sym e) p; behind = subst (AreBehindOnes wild) (sym e) b }
begun_by wild place begun c p b (inr (line, (event, e))) =
    record { pre = asked line event ∷ []; is = sym e; counts = c; passes = subst (PassLaw wild) (sym e) (tt, p); behind = subst (AreBehindOnes wild) (sym e) (tt, b) }

-- ---- a turn
module _ (wild : ℕ → Bool) (units ready : ℕ) (has : 0 < units) (start : List Disk) (past : List Moment) (s : Scene) (later : List Moment) (t : Scene) (step : Step wild units ready start Facts Kit past s later t) (o : P start wild (hist past s.world) s.world) where
  abbrev before : WorldState
  before = s.world

  abbrev v : WorldState
  v = t.world

  abbrev place : List Moment
  place = hist past before

  abbrev now : List Moment
  now = hist later v

  abbrev count : ℕ
  count = length before.initiators

  abbrev bad : ℕ → Bool
  bad = beyond wild count

  mild : (i : ℕ) → bad i ≡ false → wild i ≡ false
  mild i own = (beyond_mild wild count i own).0

  within : (i : ℕ) → bad i ≡ false → i < count
  within i own = (beyond_mild wild count i own).1

  within_then : (i : ℕ) → bad i ≡ false → i < length v.initiators
  within_then i own = subst (λ n. i < n) (sym step.count) (within i own)

  x : TurnFrom wild past before later v
  x = turn_from wild units ready has start Facts Kit past s later t step step.known.grounds.numbers

  abbrev w : WorldState
  w = x.w

  abbrev begins : List Moment
  begins = hist later w

  so : BeginsSo start place begins
  so = begins_so start place begins x.begins

  fewer : (ms : List Moment) → PassLaw wild ms → PassLaw bad ms
  fewer ms h = pass_fewer wild bad (λ i e. beyond_true wild count i e) mild ms h

  at : Begun bad place begins
  at = begun_by bad place begins step.stands.reached.site.serials (fewer place step.stands.reached.kept.passes) o.1 x.begins

  passes_now : PassLaw wild now
  passes_now = step.reaches.kept.passes

  counts_now : SerialsCount now
  counts_now = step.reaches.site.serials

  -- as the turn begins
  machine_same : (p : ℕ) → machine_at w p ≡ machine_at before p
  machine_same p = ap (λ (n : NodeState). (desk_at n p).agent) x.target

  initiator_same : (p : ℕ) → initiator_in w p ≡ initiator_in before p
  initiator_same p = ap (λ ps. (holder_at ps p).initiator) x.places

  over_begun : (i n k : ℕ) → IsOverFor start place before i n k → IsOverFor start begins w i n k
  over_begun i n k b = record {
    place = b.place;
    small = b.small;
    initiator_is = initiator_same b.place ∙ b.initiator_is;
    over = ap (λ (m : Machine). is_over m.phase) (machine_same b.place) ∙ b.over;
    since = λ e.
        let y = b.since (ap (λ (m : Machine). m.phase) (sym (machine_same b.place)) ∙ e) in
        record {
          since = subst (λ h. IsSince start h b.place i n k) at.is (since_on start at.pre place b.place i n k at.counts y.since);
          kind = y.kind;
          status = so.statuses i n k ∙ y.status;
          block = subst (λ (m : Machine). EndsSo y.kind m) (sym (machine_same b.place)) y.block;
          plain = y.plain;
        };
  }

  done_begun : AreDone start bad begins w
  done_begun i own n opened present k less =
      let then : IsOpen place i n = record { latest = opened.latest ∙ so.lists_are i; uncut = sym (so.cuts_are i n) ∙ opened.uncut } in
      let low : k < ends place i n = (let e = so.ends_are i n in omega (arith, e, less)) in
      by (o.0 i own n then (sym (so.present i) ∙ present) k low)
    where
      by : IsDone start place before i n k → IsDone start begins w i n k
      by (inl a) = inl (subst (λ h. WasAnswered h i n k) at.is (answered_on at.pre place i n k at.counts a))
      by (inr (e, b)) = inr (e ∙ sym (so.ends_are i n), over_begun i n k b)

  -- the moments behind the first one
  record Since (c : IsCalled later w v) : Type 0 where
    more : List Moment
    is : more ++ said c.first ∷ begins ≡ now

  since : (c : IsCalled later w v) → Since c
  since c =
      let h = hist_on later c.u (handed_out 0 0 (alone c.call w.target).outbox c.u) (handed_extends 0 0 (alone c.call w.target).outbox c.u) in
      record { more = h.more; is = ap (λ ms. h.more ++ ms) (sym c.fresh) ∙ (h.is ∙ ap (λ (y : WorldState). hist later y) (sym c.is)) }

  module _ (c : IsCalled later w v) where
    abbrev front : List Moment
    front = (since c).more ++ said c.first ∷ []

    whole : front ++ begins ≡ now
    whole = sym (moments_split (since c).more (said c.first ∷ []) begins) ∙ (since c).is

    counted : SerialsCount (front ++ begins)
    counted = subst SerialsCount (sym whole) counts_now

    begun_counts : SerialsCount begins
    begun_counts = serials_from front begins counted

    closes : (i n k : ℕ) → bad i ≡ false → IsOpen begins i n → present_list begins i ≡ Some n → suc k ≡ ends begins i n → (b : IsOverFor start begins w i n k) → GoesOn w c.call b.place → WasAnswered (said c.first ∷ begins) i n k
    closes i n k own opened present e b goes =
        let mine = mild i own in
        let ground = step.known.grounds.ground in
        let kit = step.so_far i mine in
        let stands = step.reaches.holds.sound.stands in
        was_answered wild units ready has start past before later v step.stands.reached.holds step.stands.reached.site x step.stands.reached.calm
        step.stands.known_all ground.opened step.stands.reached.site.held ground.caught kit.placed kit.told step.known.joined
        (each_from _ front begins (subst (PassLaw wild) (sym whole) passes_now))
        (each_from _ front begins (subst Rises (sym whole) (rises_of later v stands now refl)))
        begun_counts (injectors now)
        (λ serial packet there from. honest_of later v stands now refl serial packet (ap (λ ms. (terms ms).sent serial) (sym whole) ∙ ((remains front begins counted).sent serial (sent_below begins serial packet begun_counts there) ∙ there)) from)
        c (each_from (OnceAt (injectors now)) (since c).more (said c.first ∷ begins) (subst (OnceLaw (injectors now)) (sym (since c).is) (once_behind v stands now refl))).0
        i n k mine (each_from (SentSo i) front begins (subst (EachMoment (SentSo i)) (sym whole) ((step.so_far_then i mine).sent i (within_then i own) (step.reaches.calm i mine))))
        (step.reaches.calm i mine) opened present e b goes

    fresh : (q : ℕ) → q < 8 → bad (initiator_in w q) ≡ false → ComesMain w c.call q → IsFresh start (said c.first ∷ begins) q
    fresh q b own m = fresh_then wild units ready has start past before later v step.stands.reached.holds step.stands.reached.site x step.stands.reached.calm c q (mild (initiator_in w q) own) m

  up_back : (i q : ℕ) → IsUp w i q → IsUp before i q
  up_back i q u = record {
    up = ap (λ (m : Machine). not (is_reset (state_in m.phase))) (sym (machine_same q)) ∙ u.up;
    own = sym (initiator_same q) ∙ u.own;
  }

  turn_keeps : P start wild now v
  turn_keeps =
      let k = turned start bad later w v at.passes (fewer now passes_now) counts_now
      (λ i own. step.known_then.stands i (within_then i own))
      (λ p b l. walk_owns units ready has start s step.stands.reached.holds step.stands.reached.site.held later t step.turn p b l ∙ sym (initiator_same p))
      (λ i q n own b u e. ap (λ ps. (holder_at ps q).list) x.places ∙ (step.so_far i (mild i own)).latest i q n (step.stands.reached.calm i (mild i own)) b (up_back i q u) (e ∙ so.lists_are i))
      (λ i p q own b c u y. (step.so_far_then i (mild i own)).apart i p q (step.reaches.calm i (mild i own)) b c u y)
      (λ c i n k own opened present e b goes. closes c i n k own opened present e b goes) (λ c q b own m. fresh c q b own m) done_begun at.behind wild x.turn in
      let same : beyond wild count ≡ beyond wild (length v.initiators) = ap (λ n. beyond wild n) (sym step.count) in
      (subst (λ y. AreDone start y now v) same k.done, subst (λ y. AreBehindOnes y now) same k.behind)

walk : (wild : ℕ → Bool) (units ready : ℕ) → 0 < units → (start : List Disk) → Walks wild units ready start Facts Kit (P start wild)
walk wild units ready has start past s later t step o = turn_keeps wild units ready has start past s later t step o

first : (wild : ℕ → Bool) (line : ℕ) (run : Run) → P run.start.disks wild (moments_behind line run []) (beginning run).world
first wild line run = ((λ i own n opened present k less. absurd (omega (arith, less))), (tt, (tt, tt)))

-- ---- each place of a run
facts : Always Facts
facts = record {
  after_lines = λ line run r has small size.
      let inside : (i : ℕ) → i < length (after (beginning run) run.entries).world.initiators → i < run.initiators = λ i b. subst (λ n. i < n) (count_after run run.entries) b in
      record {
        grounds = grounds.after_lines line run r has small size;
        stands = λ i b. moments_law.after_lines line run r i (inside i b);
        joined = λ i b. joined_law line run r.few has small size r.short r.entries r.lines i (inside i b);
      };
  between = λ line run r has small size next most told m.
      let scene = after (beginning run) run.entries in
      let inside : (i : ℕ) → i < length (after_all told (begun scene)).world.initiators → i < run.initiators = λ i b. subst (λ n. i < n) (count_after run run.entries) (subst (λ n. i < n) (count_between told scene) b) in
      record {
        grounds = grounds.between line run r has small size next most told m;
        stands = λ i b. moments_law.between line run r next most told m i (inside i b);
        joined = λ i b. joined_between_law line run r.few has small size r.short r.entries r.lines next (more_deliveries most) (more_than_one most) told m i (inside i b);
      };
}
  where
    grounds : Always Grounds
    grounds = grounds_law (ground_law opened_known.laws.pointers opened_known.laws.begun) joined_law

module _ (short : ShortLaw) (one : OneUpLaw) where
  kits : UnderFrom (λ start. WhereTameOrFew Kit)
  kits =
      let latest = up_latest_law short in
      let placed = placed_beside short in
      let sent = places.sent_law opened_known.laws.pointers opened_known.laws.begun (here_beside short) (placed_beside short) in
      record {
        after_lines = λ line run r has small size so_far beside. record {
          latest = latest.after_lines line run r has small size so_far beside;
          apart = one.after_lines line run r has small size beside;
          placed = placed.after_lines line run r has small size so_far beside;
          sent = sent.after_lines line run r has small size so_far beside;
          told = λ i b calm n k status e. ended_told (injectors (history_of line run)) run.start.disks i calm (history_of line run) (execution_run_law.after_lines line run r has small size so_far) n k status e;
        };
        between = λ line run r has small size next most told m so_far beside. record {
          latest = latest.between line run r has small size next most told m so_far beside;
          apart = one.between line run r has small size next most told m beside;
          placed = placed.between line run r has small size next most told m so_far beside;
          sent = sent.between line run r has small size next most told m so_far beside;
          told = λ i b calm n k status e.
              let now = map said (after_all told (begun (after (beginning run) run.entries))).world.fresh ++ asked next (more_deliveries most) ∷ history_of line run in
              ended_told (injectors now) run.start.disks i calm now (execution_run_law.between line run r has small size next (more_deliveries most) (delivers most) told m so_far) n k status e;
        };
      }

  -- of an initiator
  module _ (bad : ℕ → Bool) (i : ℕ) (own : bad i ≡ false) where
    one_end : (j n k : ℕ) (past : List Moment) → (bad j ≡ false → present_list past j ≡ Some n → (l : ℕ) → l < k → WasAnswered past j n l) → (i == j) ≡ true → present_list past i ≡ Some n → (l : ℕ) → l < k → WasAnswered past i n l
    one_end j n k past f e present l less =
        let same : j ≡ i = grind (arith, nat_tests) in
        subst (λ a. WasAnswered past a n l) same (f (ap bad same ∙ own) (ap (present_list past) same ∙ present) l less)

    one_behind : (m : Moment) (past : List Moment) → BehindAt bad m past → EndsBehind i m past
    one_behind (said (notes.Ended j (Some n) (Some k) status)) past f = λ e present l less. one_end j n k past f e present l less
    one_behind (said (notes.Ended j (Some n) None status)) past f = tt
    one_behind (said (notes.Ended j None k status)) past f = tt
    one_behind m past f = tt

    each_behind : (past : List Moment) → AreBehindOnes bad past → EachMoment (EndsBehind i) past
    each_behind [] h = tt
    each_behind (m ∷ past) h = (one_behind m past h.0, each_behind past h.1)

  everywhere : UnderFrom (λ start. WhereTameOrFew (λ past w. P start (injectors past) past w))
  everywhere = record {
    after_lines = λ line run r has small size so_far beside. from_after IsTameOrFew tame_or_few_before Facts (λ start. Kit) P facts kits walk first line run r has small size so_far beside;
    between = λ line run r has small size next most told m so_far beside.
        from_between IsTameOrFew tame_or_few_before Facts (λ start. Kit) P facts kits walk first line run r has small size next (more_deliveries most) (more_than_one most) told m so_far beside;
  }

  -- each status block of a present list was answered, but that of the latest end
  pub done_law : UnderFrom (λ start. WhereTameOrFew (λ past w. AreDone start (beyond (injectors past) (length w.initiators)) past w))
  done_law = record {
    after_lines = λ line run r has small size so_far beside. (everywhere.after_lines line run r has small size so_far beside).0;
    between = λ line run r has small size next most told m so_far beside. (everywhere.between line run r has small size next most told m so_far beside).0;
  }

  pub answered_law : AnsweredLaw
  answered_law = record {
    after_lines = λ line run r has small size so_far beside i b calm.
        let past = history_of line run in
        let w = (after (beginning run) run.entries).world in
        each_behind (beyond (injectors past) (length w.initiators)) i (mild_beyond (injectors past) (length w.initiators) i calm b) past (everywhere.after_lines line run r has small size so_far beside).1;
    between = λ line run r has small size next most told m so_far beside i b calm.
        let w = (after_all told (begun (after (beginning run) run.entries))).world in
        let now = map said w.fresh ++ asked next (more_deliveries most) ∷ history_of line run in
        each_behind (beyond (injectors now) (length w.initiators)) i (mild_beyond (injectors now) (length w.initiators) i calm b) now (everywhere.between line run r has small size next most told m so_far beside).1;
  }
