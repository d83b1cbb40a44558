-- The FIFO of the login that a host has, in every run with few logins: where the target has a login with the ID of the response to the host's latest login that was done, this has the FIFO of the number that the host
-- used for that. So it is of the response in its buffer where a status of 00 waits for a login, as the login that it names has the FIFO of the ORB; so it stays, and it is of each login that is done.
use Rattle.sbp_world.proofs.Words.Std.{arith, ◌≡◌, ◌∙◌, refl, sym, ap, subst, ℕ, zero, suc, ◌+◌, ◌-◌, ◌<◌, ◌≤◌, ◌&&◌, ◌++◌, nat_eq, nat_lt, Bool, true, false, List, [], length, replicate, Some, None, nat_tests, same_Some}
use Rattle.sbp_world.proofs.Words.Wire.{Moment, SerialsCount, terms}
use Rattle.sbp_world.proofs.Words.Target.{Disk, Login, Table, place_at}
use Rattle.sbp_world.proofs.Words.Initiator.{LoginResponse, Running, login_fifo, login_response, response_of}
use Rattle.sbp_world.proofs.Words.Laws.{EachMoment, Underway, before_sent, first_login, first_table, host_at, is_management, logins_from, ready_host}
use Rattle.sbp_world.proofs.Words.World.{FewLogins, HasFewIds, HasGivenUp, IsCalmBeside, IsTold, Run, Scene, WorldState, after, after_all, beginning, begun, initiator_at, moments_behind, new_world, ready_logins}
use Rattle.sbp_journal.specs.declared.operation.Operation.TheVariants as operations
use Rattle.sbp_world.proofs.Agents.Management.Begins.{first_holds}
use Rattle.sbp_world.proofs.Agents.Management.Holding.{Holding}
use Rattle.sbp_world.proofs.Agents.Management.Still.{hist}
use Rattle.sbp_world.proofs.Common.{none_is, untrue}
use Rattle.sbp_world.proofs.Completing.AnswersRuns.{by_places}
use Rattle.sbp_world.proofs.Completing.LatestGranted.{granted, login_granted}
use Rattle.sbp_world.proofs.Completing.LatestRuns.{Known, known_everywhere}
use Rattle.sbp_world.proofs.Completing.LatestTied.{HasFifo, login_tied, turn_tied}
use Rattle.sbp_world.proofs.Completing.LatestUnder.{more, names_latest}
use Rattle.sbp_world.proofs.Completing.PresentBased.{ready_each}
use Rattle.sbp_world.proofs.Completing.PresentDone.{ToldAt, each_on, grants_of, told_turn}
use Rattle.sbp_world.proofs.Hosts.Remaining.{remains}
use Rattle.sbp_world.proofs.Hosts.Runs.{count_after, count_between}
use Rattle.sbp_world.proofs.Lists.Courses.{EveryPlace, Goes, Keeps, at_between, at_lines}
use Rattle.sbp_world.proofs.Lists.HostLogins.{ReadyAt}
use Rattle.sbp_world.proofs.Lists.IdsBegun.{begun_after, begun_between}
use Rattle.sbp_world.proofs.Lists.IdsRuns.{few_before}
use Rattle.sbp_world.proofs.Lists.Judging.{Grown, counts_at, goes_next, grown}
use Rattle.sbp_world.proofs.Lists.KeptTurns.{was_underway}
use Rattle.sbp_world.proofs.Lists.LiveBased.{buffered}
use Rattle.sbp_world.proofs.Lists.LiveBegins as begins
use Rattle.sbp_world.proofs.Lists.LiveBuffered.{buffer_turns}
use Rattle.sbp_world.proofs.Lists.LiveGranted.{seen_told, turn_buffer}
use Rattle.sbp_world.proofs.Lists.LiveGrants.{Names}
use Rattle.sbp_world.proofs.Lists.LiveOwn.{two_ways}
use Rattle.sbp_world.proofs.Lists.LivePlaced.{placed_turns}
use Rattle.sbp_world.proofs.Lists.LiveRuns.{IsCored, goes_beside, goes_size, goes_turned, knows}
use Rattle.sbp_world.proofs.Lists.LiveStandings.{good_block}
use Rattle.sbp_world.proofs.Lists.LiveSteps.{id_in, own_of, zero_of}
use Rattle.sbp_world.proofs.Lists.LiveTaken.{fresh_silent}
use Rattle.sbp_world.proofs.Lists.LiveTurns.{good}
use Rattle.sbp_world.proofs.Lists.ManageOwn.{AtHost, at_host}
use Rattle.sbp_world.proofs.Lists.StoredTurns.{stored_turns}

-- a login that the table has with the ID of a response has the FIFO of the last of so many numbers
pub record Matches (table : Table) (response : LoginResponse) (count : ℕ) : Type 0 where
  pub tied : HasFifo table response.login (login_fifo (count - 1))
  pub some : 0 < response.login → 0 < count

-- ---- a place
module _ (units ready : ℕ) (has : 0 < units) (start : List Disk) {past : List Moment} {lines : ℕ} (w : WorldState) (h : Holding units ready start past lines w) (k : Known start (hist past w) w) (few : FewLogins (hist past w)) (i : ℕ) (inside : i < length w.initiators) (beside : IsCalmBeside (hist past w) i) where
  abbrev ms : List Moment
  ms = hist past w

  -- a response that names a live login, while a login is under way
  names_match : zero_of w ≡ own_of w i → (u : Underway) → (host_at ms i).operation ≡ Some u → u.operation ≡ operations.Login → (response : LoginResponse) → Names w.target.logins.places (id_in w i) response → Matches w.target.logins response (host_at ms i).logins
  names_match level u under logs_in response n =
      let latest = names_latest i ms (counts_at w h.sound.stands) (k.kit.with_held.more.given.laws.lasts i inside) (k.few i inside) u under logs_in in
      let fifo = k.fifos i inside beside level u under logs_in n.has.place n.has.login n.has.there n.has.live n.has.of_node ∙ latest.fifo in
      record {
        tied = login_tied w.target.logins (good units ready has start w h).table (k.kit.ids few (omega (arith, inside))).rising (id_in w i) response.login (login_fifo ((host_at ms i).logins - 1)) n.has fifo;
        some = λ l. latest.some;
      }

-- ---- a turn
module _ (units ready : ℕ) (has : 0 < units) (start : List Disk) (past : List Moment) (s : Scene) (later : List Moment) (t : Scene) {lines more_lines : ℕ} (g : Goes past s later t) (h : Holding units ready start past lines s.world) (h_now : Holding units ready start later more_lines t.world) (few : FewLogins (hist later t.world)) (some : 0 < length s.world.initiators) (ids : HasFewIds (hist past s.world) s.world.target.logins) where
  match_on : (response : LoginResponse) (count : ℕ) → Matches s.world.target.logins response count → Matches t.world.target.logins response count
  match_on response count m = record { tied = turn_tied response.login (login_fifo (count - 1)) units ready has start past s later t g h h_now some few ids m.tied; some = m.some }

-- the response in its buffer where a status of 00 waits for a login
abbrev BufferMatches : List Moment → WorldState → ℕ → Running → Type 0
BufferMatches past w i running = Matches w.target.logins (login_response (response_of running (initiator_at w i))) (host_at past i).logins

record Met (start : List Disk) (past : List Moment) (w : WorldState) (i : ℕ) : Type 0 where
  buffer : (orb : ℕ) (bytes : List ℕ) → IsTold start past i orb bytes → bytes ≡ good_block orb → (running : Running) → (initiator_at w i).operation ≡ Some running → running.operation ≡ operations.Login → BufferMatches past w i running
  each : EachMoment (ToldAt (Matches w.target.logins) i) past

abbrev Mets : List Disk → List Moment → WorldState → Type 0
Mets start past w = (i : ℕ) → i < length w.initiators → IsCalmBeside past i → FewLogins past → Met start past w i

module _ (units ready : ℕ) (has : 0 < units) (start : List Disk) (past : List Moment) (s : Scene) (later : List Moment) (t : Scene) {lines more_lines : ℕ} (g : Goes past s later t) (h : Holding units ready start past lines s.world) (h_now : Holding units ready start later more_lines t.world) (q : Known start (hist past s.world) s.world) (q_now : Known start (hist later t.world) t.world) (had : Mets start (hist past s.world) s.world) (i : ℕ) (within : i < length t.world.initiators) (beside : IsCalmBeside (hist later t.world) i) (few : FewLogins (hist later t.world)) where
  abbrev w : WorldState
  w = s.world

  abbrev v : WorldState
  v = t.world

  abbrev before : List Moment
  before = hist past w

  abbrev now : List Moment
  now = hist later v

  inside : i < length w.initiators
  inside = subst (λ n. i < n) (goes_size past s later t g) within

  few_then : FewLogins before
  few_then = few_before units ready has start past s later t g h h_now few

  old : Met start before w i
  old = had i inside (goes_beside past s later t g i beside) few_then

  on : (response : LoginResponse) (count : ℕ) → Matches w.target.logins response count → Matches v.target.logins response count
  on = match_on units ready has start past s later t g h h_now few (let b = inside in omega (arith, b)) (q.kit.ids few_then (let b = inside in omega (arith, b)))

  c_now : IsCored now i (initiator_at v i)
  c_now = q_now.kit.with_held.known.cored i within

  module _ (orb : ℕ) (bytes : List ℕ) (told : IsTold start now i orb bytes) (says_good : bytes ≡ good_block orb) (running : Running) (is : (initiator_at v i).operation ≡ Some running) (login : running.operation ≡ operations.Login) where
    abbrev response : LoginResponse
    response = login_response (response_of running (initiator_at v i))

    a : AtHost now i running
    a = at_host now i (initiator_at v i) running c_now.cored.core is

    logs_in : a.u.operation ≡ operations.Login
    logs_in = a.same ∙ login

    abbrev Goal : Type 0
    Goal = Matches v.target.logins response (host_at now i).logins

    at_level : zero_of v ≡ own_of v i → Goal
    at_level level =
        names_match units ready has start v h_now q_now few i within beside level a.u a.is logs_in response
        ((((q_now.kit.live i within).grown.grants beside level).told orb bytes told says_good).logs_in running is login)

    -- the login was under way before the turn, as its status block waits; and so none was asked for in it
    judged : 0 < (terms now).news a.u.first
    judged = by (nat_lt 0 ((terms now).news a.u.first)) refl
      where
        not_given : HasGivenUp now i → ⊥
        not_given up = two_ways (is_management a.u.operation) (ap is_management logs_in) (up.none a.u a.is)

        fresh : (terms now).news a.u.first ≡ 0 → (underway : Underway) → (host_at now i).operation ≡ Some underway → is_management underway.operation ≡ true → (terms now).news underway.first ≡ 0
        fresh none underway under manages = subst (λ (u : Underway). (terms now).news u.first ≡ 0) (same_Some a.u underway (sym a.is ∙ under)) none

        by : (b : Bool) → nat_lt 0 ((terms now).news a.u.first) ≡ b → 0 < (terms now).news a.u.first
        by true e = grind (arith, nat_tests)
        by false e = absurd (fresh_silent start now i (q_now.kit.with_held.more.given.managed i within beside.0) not_given (fresh (grind (arith, nat_tests))) orb bytes told)

    logins_same : (host_at now i).logins ≡ (host_at before i).logins
    logins_same =
        let lasts = q_now.kit.with_held.more.given.laws.lasts i within in
        let was = was_underway start past s later t g h i lasts a.u a.is judged in
        let lasts_then = q.kit.with_held.more.given.laws.lasts i inside in
        let x : Grown before now = grown before now (goes_next past s later t g) in
        let counts : SerialsCount (x.new ++ before) = subst SerialsCount (sym x.is) (counts_at v h_now.sound.stands) in
        let below = (lasts_then.each [] before refl was.was was.is).sent in
        let behind : before_sent now a.u.first ≡ before_sent before was.was.first = ap (λ f. before_sent now f) was.same.first ∙ (ap (λ ms. before_sent ms was.was.first) (sym x.is) ∙ (remains x.new before counts).before_it was.was.first below) in
        more i now (counts_at v h_now.sound.stands) lasts.each a.u a.is logs_in
        ∙ (ap (λ ms. (host_at ms i).logins + 1) behind ∙ sym (more i before (counts_at w h.sound.stands) lasts_then.each was.was was.is (sym was.same.operation ∙ logs_in)))

    abbrev New : LoginResponse → Type 0
    New r = (host_at now i).logins ≡ (host_at before i).logins → (Names v.target.logins.places (id_in v i) r → ⊥) → Matches v.target.logins r (host_at now i).logins

    -- and where the target is ahead, the node has no live login
    never : nat_eq (zero_of v) (own_of v i) ≡ false → Names v.target.logins.places (id_in v i) response → ⊥
    never apart n =
        let low : own_of v i ≤ zero_of v = seen_told v h_now.sound.stands start i within q_now.kit.with_held.more.contents orb bytes told in
        let high : zero_of v ≤ own_of v i = (knows units ready start v h_now q_now.kit.with_held.known i within).caught n.has.place n.has.login n.has.there n.has.live n.has.of_node in
        two_ways (nat_eq (zero_of v) (own_of v i)) (let same : zero_of v ≡ own_of v i = omega (arith, low, high) in grind (arith, nat_tests, same)) apart

    by_level : (b : Bool) → nat_eq (zero_of v) (own_of v i) ≡ b → Goal
    by_level true e = at_level (grind (arith, nat_tests, e))
    by_level false e =
        turn_buffer placed_turns stored_turns buffer_turns units ready start past s later t has g h h_now q.kit.with_held q_now.kit.with_held q.kit.live i inside beside (λ r. Matches w.target.logins r (host_at before i).logins) New
        (λ r m. λ same none. subst (Matches v.target.logins r) (sym same) (on r (host_at before i).logins m)) old.buffer (λ r n. λ same none. absurd (none n))
        (goes_turned units ready has start past s later t g h i inside) orb bytes told says_good running is login logins_same (never e)

    buffer_now : Goal
    buffer_now = by_level (nat_eq (zero_of v) (own_of v i)) refl

  met_now : Met start now v i
  met_now =
      let c = q.kit.with_held.known.cored i inside in
      record {
        buffer = buffer_now;
        each = told_turn (Matches v.target.logins) start before i (counts_at w h.sound.stands) q.kit.with_held.more.contents
            (buffered (λ r. Matches v.target.logins r (host_at before i).logins) start before i c.ready (initiator_at w i) c.cored (q.kit.with_held.more.holds i inside)
            (λ orb bytes x e running is login. on _ (host_at before i).logins (old.buffer orb bytes x e running is login)))
            now (goes_next past s later t g) (q_now.kit.with_held.more.given.laws.hands i within beside.0) (each_on (Matches w.target.logins) (Matches v.target.logins) on i before old.each);
      }

all_mets : (units ready : ℕ) → 0 < units → (start : List Disk) → Keeps units ready start (Known start) (Mets start)
all_mets units ready has start past s later t lines more_lines g h h_now q q_now had i within beside few = met_now units ready has start past s later t g h h_now q q_now had i within beside few

first_mets : (line : ℕ) (run : Run) → run.initiators ≤ 4 → 0 < run.units → run.units ≤ 4 → length run.start.disks ≡ run.units → Mets run.start.disks (moments_behind line run []) (beginning run).world
unfolding new_world
first_mets line run few has small size i l beside few_logins = record {
  buffer = λ orb bytes x e running is login. absurd (none running is);
  each = (tt, (tt, tt));
}
  where
    inside : i < run.initiators
    inside = subst (λ n. i < n) (count_after run []) l

    none : (running : Running) → (initiator_at (beginning run).world i).operation ≡ Some running → ⊥
    none running is = none_is running (sym (begins.first_none run.initiators few run.units small line run.start.disks size run.ready i inside) ∙ is)

-- ---- where the initiators were ready at the start
abbrev ReadyMatch : Run → List Moment → WorldState → Type 0
ReadyMatch run past w = FewLogins past → (i : ℕ) → i < length w.initiators → (run.ready && nat_lt i run.initiators) ≡ true → Matches w.target.logins (ready_host i).login 1

keeps_ready : (run : Run) (units ready : ℕ) → 0 < units → Keeps units ready run.start.disks (Known run.start.disks) (ReadyMatch run)
keeps_ready run units ready has past s later t lines more_lines g h h_now q q_now p few i within e =
    let inside : i < length s.world.initiators = subst (λ n. i < n) (goes_size past s later t g) within in
    let few_old = few_before units ready has run.start.disks past s later t g h h_now few in
    let some : 0 < length s.world.initiators = omega (arith, inside) in
    match_on units ready has run.start.disks past s later t g h h_now few some (q.kit.ids few_old some) (ready_host i).login 1 (p few_old i inside e)

none_first : (k place : ℕ) (login : Login) → place_at (replicate k None) place ≡ Some login → login.fifo ≡ login_fifo 0
none_first zero place login e = none_is login e
none_first (suc k) zero login e = none_is login e
none_first (suc k) (suc place) login e = none_first k place login e

first_fifo : (i n k place : ℕ) (login : Login) → place_at (logins_from i n ++ replicate k None) place ≡ Some login → login.fifo ≡ login_fifo 0
first_fifo i zero k place login e = none_first k place login e
first_fifo i (suc n) k zero login e = let is : first_login i ≡ login = cc in sym (ap (λ (x : Login). x.fifo) is)
first_fifo i (suc n) k (suc place) login e = first_fifo (i + 1) n k place login e

first_ready : (line : ℕ) (run : Run) → run.initiators ≤ 4 → run.units ≤ 4 → length run.start.disks ≡ run.units → ReadyMatch run (moments_behind line run []) (beginning run).world
unfolding new_world
first_ready line run few small size few_logins i l e = by run.ready refl e
  where
    by : (ready : Bool) → run.ready ≡ ready → (ready && nat_lt i run.initiators) ≡ true → Matches (beginning run).world.target.logins (ready_host i).login 1
    by false r f = untrue f
    by true r f =
        let inside : i < run.initiators = grind (arith, nat_tests) in
        let h = first_holds run.initiators run.ready run.units line run.start.disks few small size in
        let table_is : first_table true run.initiators ≡ (beginning run).world.target.logins = ap (λ b. first_table b run.initiators) (sym r) ∙ h.at.agrees.table in
        subst (λ (x : Table). Matches x (ready_host i).login 1) table_is
        (record { tied = record { small = omega (arith, inside); tied = λ place login there same. first_fifo 0 run.initiators (8 - run.initiators) place login there }; some = λ m. omega arith })

-- ---- at each place of every run
record Placed (start : List Disk) (past : List Moment) (w : WorldState) : Type 0 where
  known : Known start past w
  mets : Mets start past w
  ready : FewLogins past → (i : ℕ) → i < length w.initiators → EachMoment (ReadyAt (λ response. Matches w.target.logins response 1) i) past

placed_everywhere : EveryPlace Placed
placed_everywhere = record {
  after_lines = λ line run r has small size so_far.
      let logins = ready_logins run.initiators run.ready in
      record {
        known = known_everywhere.after_lines line run r has small size so_far;
        mets = at_lines Known (Mets run.start.disks) known_everywhere line run r.few has small size (all_mets run.units logins has run.start.disks) (first_mets line run r.few has small size) r so_far;
        ready = λ few i l.
            ready_each run.ready run.initiators i (λ response. Matches (after (beginning run) run.entries).world.target.logins response 1)
            (at_lines Known (ReadyMatch run) known_everywhere line run r.few has small size (keeps_ready run run.units logins has) (first_ready line run r.few small size) r so_far few i l)
            _ (begun_after line run r i (subst (λ n. i < n) (count_after run run.entries) l));
      };
  between = λ line run r has small size next most told m so_far.
      let logins = ready_logins run.initiators run.ready in
      let w = (after_all told (begun (after (beginning run) run.entries))).world in
      record {
        known = known_everywhere.between line run r has small size next most told m so_far;
        mets = at_between Known (Mets run.start.disks) known_everywhere line run r.few has small size (all_mets run.units logins has run.start.disks) (first_mets line run r.few has small size) r next most told m so_far;
        ready = λ few i l.
            ready_each run.ready run.initiators i (λ response. Matches w.target.logins response 1)
            (at_between Known (ReadyMatch run) known_everywhere line run r.few has small size (keeps_ready run run.units logins has) (first_ready line run r.few small size) r next most told m so_far few i l)
            _ (begun_between line run r i (subst (λ n. i < n) (count_between told (after (beginning run) run.entries) ∙ count_after run run.entries) l) next told m most);
      };
}

abbrev pub AreMatched : List Moment → WorldState → Type 0
AreMatched past w = FewLogins past → (i : ℕ) → i < length w.initiators → IsCalmBeside past i → Matches w.target.logins (host_at past i).login (granted past i)

are_matched : (units ready : ℕ) → 0 < units → (start : List Disk) (past : List Moment) (lines : ℕ) (w : WorldState) → Holding units ready start past lines w → Placed start (hist past w) w → AreMatched (hist past w) w
are_matched units ready has start past lines w h k few i inside beside =
    let sound = (good units ready has start w h).table in
    login_granted (Matches w.target.logins) i (hist past w) (k.ready few i inside)
    (record { tied = record { small = omega arith; tied = λ place login there same. (let least = (sound.sound.numbered place login there).least in absurd (omega (arith, least, same))) }; some = λ l. absurd (omega (arith, l)) })
    (grants_of (Matches w.target.logins) i (hist past w) (k.known.kit.with_held.more.granted i inside) (k.mets i inside beside few).each)

pub matched_everywhere : EveryPlace (λ start past w. AreMatched past w)
matched_everywhere = by_places Placed (λ start past w. AreMatched past w) are_matched placed_everywhere
