-- In every run with few logins the IDs of the target's logins rise: none is behind the one that was entered last, and that one is no greater than the number of logins
-- that were entered. So a login that is entered has an ID that none had before.
use Rattle.sbp_world.proofs.Words.Std.{arith, ◌≡◌, ◌∙◌, refl, sym, ap, subst, ℕ, zero, suc, ◌+◌, ◌-◌, ◌<◌, ◌≤◌, nat_eq, Bool, true, false, List, [], ◌++◌, length, replicate, Some, None, nat_tests}
use Rattle.sbp_world.proofs.Words.Wire.{LabelParts, Packet, judging_step, of_response, Sent, found_sent, empty_outbox, Moment}
use Rattle.sbp_world.proofs.Words.Target.{Login, Table, place_at, Disk, NodeState, scene, answer_in, received, whole}
use Rattle.sbp_world.proofs.Words.Laws.{first_login, first_table, logins_from}
use Rattle.sbp_world.proofs.Words.World.{moments_behind, new_world, ready_logins, Run, beginning, Scene, WorldState, AreRising, FewLogins, HasFewIds, entries}
use Rattle.sbp_world.proofs.Agents.Management.Begins.{first_holds}
use Rattle.sbp_world.proofs.Agents.Management.Holding.{Holding}
use Rattle.sbp_world.proofs.Agents.Management.Still.{hist}
use Rattle.sbp_target.specs.declared.purpose.Purpose.TheVariants as purposes
use Rattle.sbp_world.proofs.Lists.Courses.{EveryPlace, Goes, Keeps, at_between, at_lines}
use Rattle.sbp_world.proofs.Lists.IdsNoted.{all_last, last_at, more_entries, first_last}
use Rattle.sbp_world.proofs.Lists.IdsRise.{Decides, IsStill, LivesStood, Rises, decide_makes, decided_more, same_stay, same_stood, still_more}
use Rattle.sbp_world.proofs.Lists.Judging.{Grown, goes_next, grown}
use Rattle.sbp_world.proofs.Lists.LiveCalls.{HasLogins, answered, delivery_logins, untouched}
use Rattle.sbp_world.proofs.Lists.LiveReplies.{IsDecidedOn, Logged, granted, stands}
use Rattle.sbp_world.proofs.Lists.LiveRuns.{base_of, goes_size, goes_turned}
use Rattle.sbp_world.proofs.Lists.LiveTurns.{TargetCall, TurnOf, by_clearing, by_own, by_sight, by_target, delivers, good, keeps, still}

-- ---- what a turn makes of the logins: nothing of the IDs, or a decision does
pub record IsDecision (w v : WorldState) : Type 0 where
  pub serial : ℕ
  pub sent : Sent
  pub found : found_sent serial w.store.kept ≡ Some sent
  pub to : sent.to ≡ 0
  pub packet : Packet
  pub label : LabelParts
  pub judged : (judging_step w.target.layer sent.generation sent.bytes).0 ≡ of_response packet label (Some purposes.Management)
  pub on : IsDecidedOn w.target.manager w.target.logins w.target.keys (answer_in packet) v.target.logins

pub data TableTurn (w v : WorldState) : Type 0 where
  stays : IsStill w.target.logins v.target.logins → LivesStood w.target.logins v.target.logins → TableTurn w v
  decides : IsDecision w v → TableTurn w v

module _ (units ready : ℕ) (more_units : 0 < units) (start : List Disk) (past : List Moment) (s : Scene) (later : List Moment) (t : Scene) {lines : ℕ} (g : Goes past s later t) (h : Holding units ready start past lines s.world) (some : 0 < length s.world.initiators) where
  abbrev w : WorldState
  w = s.world

  abbrev v : WorldState
  v = t.world

  same : v.target.logins ≡ w.target.logins → TableTurn w v
  same e = stays (same_stay w.target.logins v.target.logins e) (same_stood w.target.logins v.target.logins e)

  call_made : TargetCall w (base_of g) v.fresh v.target → TableTurn w v
  call_made (still x told) = stays x.table (λ place login e live. (x.logins login.node).brings place login e live refl)
  call_made (delivers serial sent found to told disks node notes first) = by (delivery_logins w.target (good units ready more_units start w h) (keeps units ready more_units start w h) sent.generation sent.bytes told disks)
    where
      now : NodeState
      now = (received told sent.generation sent.bytes (whole (scene w.target empty_outbox) disks)).1.node

      logins_are : v.target.logins ≡ now.logins
      logins_are = ap (λ (n : NodeState). n.logins) node

      by : HasLogins w.target sent.generation sent.bytes now.logins → TableTurn w v
      by (untouched e) = same (logins_are ∙ e)
      by (answered p label e l) = by_log l
        where
          by_log : Logged w.target.manager w.target.logins w.target.keys (answer_in p) now.logins → TableTurn w v
          by_log (stands f) = same (logins_are ∙ f)
          by_log (granted d) = decides (record { serial = serial; sent = sent; found = found; to = to; packet = p; label = label; judged = e; on = subst (λ (x : Table). IsDecidedOn w.target.manager w.target.logins w.target.keys (answer_in p) x) (sym logins_are) d })

  turn_made : TurnOf 0 w (base_of g) v → TableTurn w v
  turn_made (by_target bus state call) = call_made call
  turn_made (by_clearing c state _) = stays c.table (λ place login e live. absurd (let no : false ≡ true = sym (c.held place login e) ∙ live in cc))
  turn_made (by_own bus is call away) = same (ap (λ (n : NodeState). n.logins) is)
  turn_made (by_sight c is _) = same (ap (λ (n : NodeState). n.logins) is)

  pub table_turn : TableTurn w v
  table_turn = turn_made (goes_turned units ready more_units start past s later t g h 0 some)

  pub decision_made : (d : IsDecision w v) → Decides d.on.on.orb d.on.on.source d.on.on.eui w.target.logins v.target.logins
  decision_made d =
      let on = d.on.on in
      subst (Decides on.orb on.source on.eui w.target.logins) (sym d.on.left_is) (decide_makes on.orb on.source on.eui w.target.logins w.target.keys)

-- ---- a turn
module _ (units ready : ℕ) (more_units : 0 < units) (start : List Disk) (past : List Moment) (s : Scene) (later : List Moment) (t : Scene) {lines more : ℕ} (g : Goes past s later t) (h : Holding units ready start past lines s.world) (h_now : Holding units ready start later more t.world) where
  abbrev old_past : List Moment
  old_past = hist past s.world

  abbrev now_past : List Moment
  now_past = hist later t.world

  x : Grown old_past now_past
  x = grown old_past now_past (goes_next past s later t g)

  entries_grow : entries old_past ≤ entries now_past
  entries_grow = subst (λ ms. entries old_past ≤ entries ms) x.is (more_entries start x.new old_past)

  last_old : last_at start old_past ≡ s.world.target.logins.last
  last_old = ap (λ (t : Table). t.last) h.at.agrees.table

  last_now : last_at start now_past ≡ t.world.target.logins.last
  last_now = ap (λ (t : Table). t.last) h_now.at.agrees.table

  pub few_before : FewLogins now_past → FewLogins old_past
  few_before few = let l = entries_grow in omega (arith, l, few)

  module _ (some : 0 < length s.world.initiators) (few : FewLogins now_past) (had : HasFewIds old_past s.world.target.logins) where
    pub last_few : s.world.target.logins.last < 65535
    last_few = let l = had.last in let f = few_before few in omega (arith, l, f)

    made_by : TableTurn s.world t.world → Rises s.world.target.logins t.world.target.logins
    made_by (stays e lives) = still_more s.world.target.logins t.world.target.logins e had.rising
    made_by (decides d) = decided_more d.on.on.orb d.on.on.source d.on.on.eui s.world.target.logins t.world.target.logins had.rising last_few (decision_made units ready more_units start past s later t g h some d)

    pub rises : Rises s.world.target.logins t.world.target.logins
    rises = made_by (table_turn units ready more_units start past s later t g h some)

    last_same : entries now_past ≡ entries old_past → t.world.target.logins.last ≤ entries now_past
    last_same e =
        let old : last_at start old_past ≤ entries old_past = (let l = had.last in let a = last_old in omega (arith, l, a)) in
        let now : last_at start (x.new ++ old_past) ≤ entries (x.new ++ old_past) = all_last start x.new old_past old (ap entries x.is ∙ e) in
        let there : last_at start now_past ≤ entries now_past = subst (λ ms. last_at start ms ≤ entries ms) x.is now in
        let b = last_now in
        omega (arith, there, b)

    last_by : (b : Bool) → nat_eq (entries now_past) (entries old_past) ≡ b → t.world.target.logins.last ≤ entries now_past
    last_by true e = last_same (grind (arith, nat_tests))
    last_by false e =
        let grow = entries_grow in
        let apart : entries old_past < entries now_past = grind (arith, nat_tests) in
        let most = rises.most in
        let l = had.last in
        omega (arith, apart, most, l)

    ids_turn : HasFewIds now_past t.world.target.logins
    ids_turn = record { last = last_by (nat_eq (entries now_past) (entries old_past)) refl; rising = rises.rising }

-- ---- at each place of every run
abbrev pub AreFewIds : List Moment → WorldState → Type 0
AreFewIds past w = FewLogins past → 0 < length w.initiators → HasFewIds past w.target.logins

abbrev Nothing : List Disk → List Moment → WorldState → Type 0
Nothing start past w = Unit {0}

nothing : EveryPlace Nothing
nothing = record { after_lines = λ line run r has small size so_far. tt; between = λ line run r has small size next most told m so_far. tt }

all_ids : (units ready : ℕ) → 0 < units → (start : List Disk) → Keeps units ready start (Nothing start) AreFewIds
all_ids units ready has start past s later t lines more g h h_now q q_now had few some =
    let some_old : 0 < length s.world.initiators = subst (λ n. 0 < n) (goes_size past s later t g) some in
    ids_turn units ready has start past s later t g h h_now some_old few (had (few_before units ready has start past s later t g h h_now few) some_old)

-- ---- at the start
none_below : (last k : ℕ) (place : ℕ) (login : Login) → place_at (replicate k None) place ≡ Some login → login.login ≤ last
none_below last zero place login e = absurd (let no : None ≡ Some login = e in cc)
none_below last (suc k) zero login e = absurd (let no : None ≡ Some login = e in cc)
none_below last (suc k) (suc place) login e = none_below last k place login e

from_below : (last i n k : ℕ) → i + n ≤ last → (place : ℕ) (login : Login) → place_at (logins_from i n ++ replicate k None) place ≡ Some login → login.login ≤ last
from_below last i zero k l place login e = none_below last k place login e
from_below last i (suc n) k l zero login e =
    let is : first_login i ≡ login = cc in
    let own : i + 1 ≡ login.login = ap (λ (x : Login). x.login) is in
    omega (arith, l, own)
from_below last i (suc n) k l (suc place) login e = from_below last (i + 1) n k (omega (arith, l)) place login e

first_few : (ready : Bool) (n : ℕ) → AreRising (first_table ready n)
first_few false n place login e = none_below 0 8 place login e
first_few true n place login e = from_below n 0 n (8 - n) (omega arith) place login e

pub first_ids : (line : ℕ) (run : Run) → run.initiators ≤ 4 → run.units ≤ 4 → length run.start.disks ≡ run.units → AreFewIds (moments_behind line run []) (beginning run).world
unfolding new_world
first_ids line run few small size few_logins some =
    let h = first_holds run.initiators run.ready run.units line run.start.disks few small size in
    let last = first_last run.ready run.initiators in
    subst (λ (x : Table). HasFewIds (moments_behind line run []) x) h.at.agrees.table (record { last = omega (arith, last); rising = first_few run.ready run.initiators })

pub few_ids_everywhere : EveryPlace (λ start past w. AreFewIds past w)
few_ids_everywhere = record {
  after_lines = λ line run r has small size so_far.
      at_lines Nothing AreFewIds nothing line run r.few has small size (all_ids run.units (ready_logins run.initiators run.ready) has run.start.disks) (first_ids line run r.few small size) r so_far;
  between = λ line run r has small size next most told m so_far.
      at_between Nothing AreFewIds nothing line run r.few has small size (all_ids run.units (ready_logins run.initiators run.ready) has run.start.disks) (first_ids line run r.few small size) r next most told m so_far;
}
