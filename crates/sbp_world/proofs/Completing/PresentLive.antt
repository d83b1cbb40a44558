-- A write of ORB_POINTER that waits finds the login of its initiator, unless this has given up: its session is in then, as no logout is under way, so the target has its login, and the write goes to the
-- agent that the response of the session names.
use Rattle.sbp_world.proofs.Words.Std.{arith, ◌≡◌, ◌∙◌, refl, sym, ap, subst, inl, inr, ◌⊎◌, ◌<◌, ◌≤◌, ◌+◌, ◌%◌, ◌^◌, ℕ, suc, is_some, true, List, ◌∷◌, ◌++◌, map, length, Option, Some, None, same_Some}
use Rattle.sbp_world.proofs.Words.Wire.{Access, Event, HostOperation, Moment, Sending, asked, said, terms}
use Rattle.sbp_world.proofs.Words.Target.{Disk, Told}
use Rattle.sbp_world.proofs.Words.Initiator.{LoginResponse, Running, Seat, carried, start}
use Rattle.sbp_world.proofs.Words.Laws.{Underway, access_in_bytes, cuts_list, host_at, id_for, running_operation, slot_at}
use Rattle.sbp_world.proofs.Words.World.{Core, HasGivenUp, HasLogin, IsCalm, IsCalmBeside, IsRun, IsTameOrFew, MayAll, OpenBefore, OpenBetween, PointersAt, Run, Under, WorldState, after, after_all, beginning, begun, history_of, initiator_at, more_deliveries, operation_by, pointer_write, ready_logins, work_in, work_of}
use Rattle.bus_memory.specs.declared.window.Window.TheVariants as windows
use Rattle.sbp_journal.specs.declared.operation.Operation.TheVariants as operations
use Rattle.sbp_session.specs.declared.seat.Origin.TheVariants as origins
use Rattle.sbp_session.specs.declared.seat.Seat.TheVariants as seats
use Rattle.sbp_world.specs.Completing.PresentHomes.{AreBasedThere, HasHome, WaitsFor}
use Rattle.sbp_world.specs.Pointers.Bases.{AreAtAgent, AreUnrefused, IsAsked, is_seated}
use Rattle.sbp_world.specs.Pointers.Pointers.{IsPointing}
use Rattle.sbp_world.proofs.Agents.Management.Holding.{Holding, known_id}
use Rattle.sbp_world.proofs.Agents.Management.Lines.{all_heard, opens}
use Rattle.sbp_world.proofs.Agents.Management.Runs.{holds_after, no_repeats, not_reset}
use Rattle.sbp_world.proofs.Agents.Management.Still.{hist}
use Rattle.sbp_world.proofs.Completing.PresentRuns.{Asks}
use Rattle.sbp_world.proofs.Hosts.Runs.{are_told, count_after, count_between}
use Rattle.sbp_world.proofs.Lists.BufferClears.{buffers_held}
use Rattle.sbp_world.proofs.Lists.Courses.{EveryPlace, more_than_one}
use Rattle.sbp_world.proofs.Lists.LiveBuffered.{buffer_turns}
use Rattle.sbp_world.proofs.Lists.LiveGranted.{grown_by}
use Rattle.sbp_world.proofs.Lists.LiveJoined.{Held, helped}
use Rattle.sbp_world.proofs.Lists.LiveLaws.{given_up}
use Rattle.sbp_world.proofs.Lists.LiveLogins.{laws, logouts_end, stored}
use Rattle.sbp_world.proofs.Lists.LiveOwn.{GaveUp, is_exit, quits, two_ways}
use Rattle.sbp_world.proofs.Lists.LivePlaced.{placed_turns}
use Rattle.sbp_world.proofs.Lists.LiveProved.{held_everywhere}
use Rattle.sbp_world.proofs.Lists.LiveRuns.{IsCored, Known, all_after, all_between, known_everywhere}
use Rattle.sbp_world.proofs.Lists.LiveStandings.{inside, leaves, stand_of}
use Rattle.sbp_world.proofs.Lists.LiveSteps.{Alive, ClaimsOf, GaveUpOf, own_of, zero_of}
use Rattle.sbp_world.proofs.Lists.ShortLines.{short_law}
use Rattle.sbp_world.proofs.Lists.StoredTurns.{stored_turns}
use Rattle.sbp_world.proofs.Pointers.Based.{registers_law}
use Rattle.sbp_world.proofs.Pointers.Proved.{pointers_law}
use Rattle.sbp_world.proofs.Sessions.Turns.{wire_generation}
use Rattle.sbp_world.proofs.Common.{untrue}

-- ---- a session that is seated is in, or on its way out
module _ {A : Type 0} where
  pub by_seat : (seat : Seat) → is_seated seat ≡ true → ((number : ℕ) → stand_of seat ≡ leaves number → A) → ((response : LoginResponse) → carried seat ≡ Some response → stand_of seat ≡ inside response.login → A) → A
  by_seat (seats.Live session) a out within = within session.response refl refl
  by_seat (seats.Leaving response) a out within = out response.login refl
  by_seat (seats.Stuck (origins.Live live)) a out within = within live.response refl refl
  by_seat (seats.Stuck (origins.Leaving response)) a out within = out response.login refl
  by_seat (seats.Stuck (origins.Out x)) a out within = untrue a
  by_seat (seats.Stuck (origins.Entering x)) a out within = untrue a
  by_seat (seats.Stuck (origins.Held response)) a out within = untrue a
  by_seat (seats.Stuck (origins.Returning response)) a out within = untrue a
  by_seat (seats.Out x) a out within = untrue a
  by_seat (seats.Entering x) a out within = untrue a
  by_seat (seats.Held response) a out within = untrue a
  by_seat (seats.Returning response) a out within = untrue a

quits_cuts : (operation : HostOperation) → quits operation ≡ true → cuts_list (Some operation) ≡ true
quits_cuts operations.Logout e = refl
quits_cuts operations.Login e = untrue e
quits_cuts operations.Reconnect e = untrue e
quits_cuts operations.Rom e = untrue e
quits_cuts operations.Query e = untrue e
quits_cuts operations.Abort e = untrue e
quits_cuts operations.AbortSet e = untrue e
quits_cuts operations.UnitReset e = untrue e
quits_cuts operations.TargetReset e = untrue e
quits_cuts operations.AgentReset e = untrue e
quits_cuts operations.State e = untrue e
quits_cuts operations.Enable e = untrue e

pub exit_cuts : (now : Option Underway) (operation : Option Running) → operation_by (work_of now) ≡ operation_by (work_in operation) → is_exit operation ≡ true → cuts_list (running_operation now) ≡ true
exit_cuts now None e x = untrue x
exit_cuts None (Some running) e x = absurd (let no : None ≡ Some running.operation = e in cc)
exit_cuts (Some underway) (Some running) e x = ap cuts_list e ∙ quits_cuts running.operation x

-- ---- what is known of the logins at a place
-- the target has the login of a session that is in
abbrev pub HasInside : List Moment → WorldState → ℕ → Type 0
HasInside past w i = (number : ℕ) → stand_of (initiator_at w i).seat ≡ inside number → HasLogin w.target.logins.places (id_for (terms past) 0 (suc i)) number

pub record Stood (past : List Moment) (w : WorldState) (i : ℕ) : Type 0 where
  pub cored : IsCored past i (initiator_at w i)
  pub going : (number : ℕ) → stand_of (initiator_at w i).seat ≡ leaves number → (is_exit (initiator_at w i).operation ≡ true) ⊎ HasGivenUp past i
  pub here : IsCalmBeside past i → (terms past).generation 0 ≡ (terms past).generation (suc i) → HasGivenUp past i ⊎ HasInside past w i

module _ (units ready : ℕ) (start : List Disk) {past : List Moment} {lines : ℕ} (w : WorldState) (h : Holding units ready start past lines w) (k : Known (hist past w) w) (i : ℕ) (l : i < length w.initiators) (alive : Alive start (hist past w) w i) where
  up_there : GaveUpOf w i → HasGivenUp (hist past w) i
  up_there g = let c = k.cored i l in given_up c.ready (hist past w) w i c.cored g

  going_there : (number : ℕ) → stand_of (initiator_at w i).seat ≡ leaves number → (is_exit (initiator_at w i).operation ≡ true) ⊎ HasGivenUp (hist past w) i
  going_there number e = by (alive.lives.fit.going number e)
    where
      by : (is_exit (initiator_at w i).operation ≡ true) ⊎ GaveUp (initiator_at w i).operation (initiator_at w i).seat → (is_exit (initiator_at w i).operation ≡ true) ⊎ HasGivenUp (hist past w) i
      by (inl x) = inl x
      by (inr g) = inr (up_there g)

  here_there : IsCalmBeside (hist past w) i → (terms (hist past w)).generation 0 ≡ (terms (hist past w)).generation (suc i) → HasGivenUp (hist past w) i ⊎ HasInside (hist past w) w i
  here_there calm same = by (alive.lives.claims calm together)
    where
      together : zero_of w ≡ own_of w i
      together = sym (wire_generation w h.sound.stands 0 (omega arith)) ∙ same ∙ wire_generation w h.sound.stands (suc i) (omega arith)

      by : GaveUpOf w i ⊎ ClaimsOf start (hist past w) w i → HasGivenUp (hist past w) i ⊎ HasInside (hist past w) w i
      by (inl g) = inl (up_there g)
      by (inr c) = inr (λ number e. subst (λ id. HasLogin w.target.logins.places id number) (sym (known_id w h.sound.stands (suc i) (omega arith))) (c.live number e))

  stood : Stood (hist past w) w i
  stood = record { cored = k.cored i l; going = going_there; here = here_there }

abbrev pub AllStood : List Disk → List Moment → WorldState → Type 0
AllStood start past w = (i : ℕ) → i < length w.initiators → Stood past w i

module _ (line : ℕ) (run : Run) (r : IsRun run) (has : 0 < run.units) (small : run.units ≤ 4) (size : length run.start.disks ≡ run.units) where
  abbrev held : EveryPlace Held
  held = held_everywhere (laws short_law) (buffers_held short_law) (stored short_law)

  abbrev logins : ℕ
  logins = ready_logins run.initiators run.ready

  pub stood_after : OpenBefore line run run.entries → AllStood run.start.disks (history_of line run) (after (beginning run) run.entries).world
  stood_after so_far =
      let w = (after (beginning run) run.entries).world in
      let b = holds_after line run run.entries r.few has small size r.short r.entries r.lines in
      subst (λ ms. Known ms w → ((i : ℕ) → i < length w.initiators → Alive run.start.disks ms w i) → AllStood run.start.disks ms w) b.is
      (λ k a i l. stood run.units logins run.start.disks w b.holds k i l (a i l))
      (known_everywhere.after_lines line run r has small size so_far) (all_after Held held (helped placed_turns) (grown_by placed_turns stored_turns buffer_turns) line run r has small size so_far)

  pub stood_between : (next : ℕ) (most : Option ℕ) (told : List (Option Told)) → MayAll told (begun (after (beginning run) run.entries)) → OpenBetween line run next (more_deliveries most) told → (let w = (after_all told (begun (after (beginning run) run.entries))).world in AllStood run.start.disks (map said w.fresh ++ asked next (more_deliveries most) ∷ history_of line run) w)
  stood_between next most told m so_far =
      let last = after (beginning run) run.entries in
      let b = holds_after line run run.entries r.few has small size r.short r.entries r.lines in
      let event : Event = more_deliveries most in
      let d = more_than_one most in
      let begins = opens run.units logins has run.start.disks next event last.world (not_reset event d) b.holds in
      let h = all_heard run.units logins has run.start.disks told (are_told told last m) (begun last) begins (no_repeats event (hist b.past last.world) next d) in
      let w = (after_all told (begun last)).world in
      subst (λ ms. Known (map said w.fresh ++ asked next event ∷ ms) w → ((i : ℕ) → i < length w.initiators → Alive run.start.disks (map said w.fresh ++ asked next event ∷ ms) w i) → AllStood run.start.disks (map said w.fresh ++ asked next event ∷ ms) w) b.is
      (λ k a i l. stood run.units logins run.start.disks w h k i l (a i l))
      (known_everywhere.between line run r has small size next most told m so_far) (all_between Held held (helped placed_turns) (grown_by placed_turns stored_turns buffer_turns) line run r has small size next most told m so_far)

-- ---- at a place
pub record Seen (past : List Moment) (w : WorldState) (i : ℕ) : Type 0 where
  pub stood : Stood past w i
  pub pointers : PointersAt past i
  pub agents : AreAtAgent past i (initiator_at w i)
  pub unrefused : AreUnrefused past i

module _ (past : List Moment) (w : WorldState) (based : AreBasedThere past w) (i n serial : ℕ) (b : i < length w.initiators) (beside : IsCalmBeside past i) (seen : Seen past w i) (x : WaitsFor past i n serial) (still : HasGivenUp past i → HasHome w (id_for (terms past) 0 (suc i)) x.pointer.base) where
  abbrev Home : Type 0
  Home = HasHome w (id_for (terms past) 0 (suc i)) x.pointer.base

  pointing : IsPointing past i n serial
  pointing = seen.pointers.waits beside.0 n serial x.pointer.packet x.pointed x.pointer.sent x.current x.unjudged

  abbrev seat : Seat
  seat = (initiator_at w i).seat

  -- no logout is under way
  leaving : (number : ℕ) → stand_of seat ≡ leaves number → Home
  leaving number e = by (seen.stood.going number e)
    where
      by : (is_exit (initiator_at w i).operation ≡ true) ⊎ HasGivenUp past i → Home
      by (inl exits) =
          two_ways (cuts_list (running_operation (host_at past i).operation))
          (exit_cuts (host_at past i).operation (initiator_at w i).operation (ap (λ (c : Core). operation_by c.work) seen.stood.cored.cored.core) exits) pointing.uncut
      by (inr up) = still up

  module _ (response : LoginResponse) (carries : carried seat ≡ Some response) (is_in : stand_of seat ≡ inside response.login) where
    asked_for : IsAsked past i serial (pointer_write response.agent (start (windows.Orb (slot_at past i n 0))))
    asked_for = seen.agents.pointer seen.unrefused n serial pointing.present x.pointed response carries

    offset_is : (x.pointer.base + 0x08) % 2 ^ 48 ≡ (response.agent + 0x08) % 2 ^ 48
    offset_is =
        let packet_is : x.pointer.packet ≡ asked_for.packet = same_Some x.pointer.packet asked_for.packet (sym x.pointer.sent ∙ asked_for.sent) in
        ap (λ (a : Access). a.offset)
        (same_Some (pointer_write x.pointer.base (start (windows.Orb (slot_at past i n 0)))) (pointer_write response.agent (start (windows.Orb (slot_at past i n 0))))
        (sym x.pointer.spelled ∙ (ap (λ (q : Sending). access_in_bytes q.bytes) packet_is ∙ asked_for.spelled)))

    entered : Home
    entered = by (seen.stood.here beside x.same)
      where
        by : HasGivenUp past i ⊎ HasInside past w i → Home
        by (inl up) = still up
        by (inr has) =
            let h = has response.login is_in in
            let at = based i b beside.0 x.same response carries h.place h.login h.there h.live h.of_node h.own in
            record { place = h.place; small = at.small; at = offset_is ∙ ap (λ base. (base + 0x08) % 2 ^ 48) at.is; login = h.login; there = h.there; live = h.live; of_node = h.of_node }

  pub home : Home
  home = by_seat seat (seen.agents.seated seen.unrefused (ap is_some pointing.present)) leaving entered

-- ---- where what is asked of a list holds
abbrev pub IsAny : List Moment → ℕ → Type 0
IsAny past i = Unit {0}

abbrev pub AreHomeFor : Asks → (List Moment → ℕ → Type 0) → List Moment → WorldState → Type 0
AreHomeFor asks If past w = (i n serial : ℕ) → i < length w.initiators → IsCalm past i → asks.of past i n → If past i → (x : WaitsFor past i n serial) → HasHome w (id_for (terms past) 0 (suc i)) x.pointer.base

-- ---- of every run
module _ (asks : Asks) (While : List Moment → Type 0) (besides : (past : List Moment) → While past → IsTameOrFew past) (based : Under (λ past w. While past → AreBasedThere past w)) (still : Under (λ past w. While past → AreHomeFor asks HasGivenUp past w)) where
  pub homes_while : Under (λ past w. While past → AreHomeFor asks IsAny past w)
  homes_while = record {
    after_lines = λ line run r has small size so_far so i n serial b calm also any x.
        let within : i < run.initiators = subst (λ c. i < c) (count_after run run.entries) b in
        let beside : IsTameOrFew (history_of line run) = besides (history_of line run) so in
        home (history_of line run) (after (beginning run) run.entries).world (based.after_lines line run r has small size so_far so) i n serial b (calm, beside)
        (record {
          stood = stood_after line run r has small size so_far i b;
          pointers = pointers_law.after_lines line run r i within;
          agents = registers_law.after_lines line run r i within;
          unrefused = (logouts_end short_law).after_lines line run r has small size so_far beside i b calm;
        })
        x (λ up. still.after_lines line run r has small size so_far so i n serial b calm also up x);
    between = λ line run r has small size next most told m so_far so i n serial b calm also any x.
        let w = (after_all told (begun (after (beginning run) run.entries))).world in
        let now = map said w.fresh ++ asked next (more_deliveries most) ∷ history_of line run in
        let within : i < run.initiators = subst (λ c. i < c) (count_between told (after (beginning run) run.entries) ∙ count_after run run.entries) b in
        let beside : IsTameOrFew now = besides now so in
        home now w (based.between line run r has small size next most told m so_far so) i n serial b (calm, beside)
        (record {
          stood = stood_between line run r has small size next most told m so_far i b;
          pointers = pointers_law.between line run r next most told m i within;
          agents = registers_law.between line run r next most told m i within;
          unrefused = (logouts_end short_law).between line run r has small size next most told m so_far beside i b calm;
        })
        x (λ up. still.between line run r has small size next most told m so_far so i n serial b calm also up x);
  }
