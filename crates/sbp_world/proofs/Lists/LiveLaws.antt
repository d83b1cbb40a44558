-- What is known of the logins of an initiator's node, by the history and the session.
use Rattle.sbp_world.proofs.Words.Std.{arith, ◌≡◌, ◌∙◌, refl, sym, ap, subst, ◌⊎◌, inl, inr, ℕ, suc, ◌<◌, ◌≤◌, Bool, true, false, List, ◌∷◌, ◌++◌, map, length, Option, Some, None}
use Rattle.sbp_world.proofs.Words.Wire.{Event, Moment, asked, said, Terms, terms}
use Rattle.sbp_world.proofs.Words.Target.{Login, Disk, Told}
use Rattle.sbp_world.proofs.Words.Initiator.{LoginResponse, Running, Seat, is_stuck_seat}
use Rattle.sbp_world.proofs.Words.Laws.{Underway, host_at, is_management, is_stuck, id_for}
use Rattle.sbp_world.proofs.Words.World.{Core, operation_by, session_in, work_in, work_of, IsRun, more_deliveries, history_of, ready_logins, Run, after, beginning, MayAll, after_all, Scene, WorldState, begun, initiator_at, DeliversMore, joined_with, HasGivenUp, HasLogin, HasNone, IsLive, LiveLaw, is_apart, OpenBefore, OpenBetween, IsCalmBeside}
use Rattle.sbp_world.proofs.Hosts.Hosted.{Cored}
use Rattle.mgmt_agent.specs.Machine.{Machine}
use Rattle.sbp_session.specs.declared.seat.Seat.TheVariants as seats
use Rattle.sbp_world.proofs.Agents.Management.Holding.{Holding, known_id}
use Rattle.sbp_world.proofs.Agents.Management.Lines.{all_heard, opens}
use Rattle.sbp_world.proofs.Agents.Management.Runs.{holds_after, no_repeats, not_reset}
use Rattle.sbp_world.proofs.Agents.Management.Still.{hist}
use Rattle.sbp_world.proofs.Sessions.Turns.{wire_generation}
use Rattle.sbp_world.specs.Lists.Live.{AreLive}
use Rattle.sbp_world.proofs.Lists.Courses.{EveryPlace, more_than_one}
use Rattle.sbp_world.proofs.Lists.LiveOwn.{in_hand}
use Rattle.sbp_world.proofs.Lists.LiveRuns.{AllLive, GrownBy, HelpedBy, Known, all_after, all_between, known_everywhere}
use Rattle.sbp_world.proofs.Lists.LiveStandings.{Claims, apart, number_in, stand_of}
use Rattle.sbp_world.proofs.Lists.LiveSteps.{Alive, ClaimsOf, GaveUpOf, id_in, own_of, zero_of}
use Rattle.sbp_world.proofs.Hosts.Runs.{are_told}

-- ---- by the session
seat_apart : (seat : Seat) → is_apart seat ≡ true → stand_of seat ≡ apart
seat_apart (seats.Out out) e = refl
seat_apart (seats.Held response) e = refl
seat_apart (seats.Entering entering) e = absurd (let no : false ≡ true = e in cc)
seat_apart (seats.Live live) e = absurd (let no : false ≡ true = e in cc)
seat_apart (seats.Returning response) e = absurd (let no : false ≡ true = e in cc)
seat_apart (seats.Leaving response) e = absurd (let no : false ≡ true = e in cc)
seat_apart (seats.Stuck origin) e = absurd (let no : false ≡ true = e in cc)

seat_number : (seat : Seat) (response : LoginResponse) → joined_with seat ≡ Some response → number_in (stand_of seat) ≡ Some response.login
seat_number (seats.Live live) response e = ap (λ (o : Option LoginResponse). number_by o) e
  where
    number_by : Option LoginResponse → Option ℕ
    number_by None = None
    number_by (Some r) = Some r.login
seat_number (seats.Leaving own) response e = ap (λ (o : Option LoginResponse). number_by o) e
  where
    number_by : Option LoginResponse → Option ℕ
    number_by None = None
    number_by (Some r) = Some r.login
seat_number (seats.Out out) response e = absurd (let no : None ≡ Some response = e in cc)
seat_number (seats.Held own) response e = absurd (let no : None ≡ Some response = e in cc)
seat_number (seats.Entering entering) response e = absurd (let no : None ≡ Some response = e in cc)
seat_number (seats.Returning own) response e = absurd (let no : None ≡ Some response = e in cc)
seat_number (seats.Stuck origin) response e = absurd (let no : None ≡ Some response = e in cc)

module _ (Served Active : Type 0) (Tells : ℕ → List ℕ → Type 0) (seat : Seat) (id : ℕ) (m : Machine) (places : List (Option Login)) (c : Claims Served Active Tells (stand_of seat) id m places) where
  left_by : (number : ℕ) → HasLogin places id number ⊎ (Served × HasNone places id) → HasLogin places id number ⊎ HasNone places id
  left_by number (inl h) = inl h
  left_by number (inr h) = inr h.1

  pub claims_live : IsLive places id seat
  claims_live = record {
    one = c.one;
    named = λ response e. c.named response.login (seat_number seat response e);
    live = λ session e. c.live session.response.login (ap (λ (x : Seat). stand_of x) e);
    leaving = λ response e. left_by response.login (c.leaving response.login (ap (λ (x : Seat). stand_of x) e));
    apart = λ e. c.apart_none (seat_apart seat e);
  }

-- ---- who has given up
seat_stuck : (seat : Seat) → is_stuck_seat seat ≡ true → is_stuck (session_in seat) ≡ true
seat_stuck (seats.Stuck origin) e = refl
seat_stuck (seats.Out out) e = absurd (let no : false ≡ true = e in cc)
seat_stuck (seats.Held response) e = absurd (let no : false ≡ true = e in cc)
seat_stuck (seats.Entering entering) e = absurd (let no : false ≡ true = e in cc)
seat_stuck (seats.Live live) e = absurd (let no : false ≡ true = e in cc)
seat_stuck (seats.Returning response) e = absurd (let no : false ≡ true = e in cc)
seat_stuck (seats.Leaving response) e = absurd (let no : false ≡ true = e in cc)

none_managed : (now : Option Underway) (operation : Option Running) → operation_by (work_of now) ≡ operation_by (work_in operation) → in_hand operation ≡ false → (underway : Underway) → now ≡ Some underway → is_management underway.operation ≡ false
none_managed now None e f underway is = absurd (let no : Some underway.operation ≡ None = sym (ap (λ (o : Option Underway). operation_by (work_of o)) is) ∙ e in cc)
none_managed now (Some running) e f underway is =
    let both : Some underway.operation ≡ Some running.operation = sym (ap (λ (o : Option Underway). operation_by (work_of o)) is) ∙ e in
    let same : underway.operation ≡ running.operation = cc in
    ap is_management same ∙ f

pub given_up : (ready : Bool) (past : List Moment) (w : WorldState) (i : ℕ) → Cored ready past i (initiator_at w i) → GaveUpOf w i → HasGivenUp past i
given_up ready past w i c g = record {
  stuck = ap (λ (x : Core). is_stuck x.session) c.core ∙ seat_stuck (initiator_at w i).seat g.stuck;
  none = none_managed (host_at past i).operation (initiator_at w i).operation (ap (λ (x : Core). operation_by x.work) c.core) g.none;
}

-- ---- at a place
module _ (units ready : ℕ) (start : List Disk) {past : List Moment} {lines : ℕ} (w : WorldState) (h : Holding units ready start past lines w) (k : Known (hist past w) w) (all : (i : ℕ) → i < length w.initiators → Alive start (hist past w) w i) where
  abbrev t : Terms
  t = terms (hist past w)

  module _ (i : ℕ) (l : i < length w.initiators) (calm : IsCalmBeside (hist past w) i) (same : t.generation 0 ≡ t.generation (suc i)) where
    together : zero_of w ≡ own_of w i
    together = sym (wire_generation w h.sound.stands 0 (omega arith)) ∙ same ∙ wire_generation w h.sound.stands (suc i) (omega arith)

    id_is : id_for t 0 (suc i) ≡ id_in w i
    id_is = known_id w h.sound.stands (suc i) (omega arith)

    live_by : GaveUpOf w i ⊎ ClaimsOf start (hist past w) w i → HasGivenUp (hist past w) i ⊎ IsLive w.target.logins.places (id_for t 0 (suc i)) (initiator_at w i).seat
    live_by (inl g) = let c = k.cored i l in inl (given_up c.ready (hist past w) w i c.cored g)
    live_by (inr c) = inr (subst (λ id. IsLive w.target.logins.places id (initiator_at w i).seat) (sym id_is) (claims_live _ _ _ (initiator_at w i).seat (id_in w i) w.target.manager w.target.logins.places c))

    live_at : HasGivenUp (hist past w) i ⊎ IsLive w.target.logins.places (id_for t 0 (suc i)) (initiator_at w i).seat
    live_at = live_by ((all i l).lives.claims calm together)

  pub are_live : AreLive (hist past w) w
  are_live = record { live = λ i l calm same. live_at i l calm same }

-- ---- the runs
module _ (Extra : List Disk → List Moment → WorldState → Type 0) (extra : EveryPlace Extra) (helped : HelpedBy Extra) (grows : GrownBy Extra) where
  module _ (line : ℕ) (run : Run) (r : IsRun run) (has : 0 < run.units) (small : run.units ≤ 4) (size : length run.start.disks ≡ run.units) where
    abbrev start : List Disk
    start = run.start.disks

    abbrev logins : ℕ
    logins = ready_logins run.initiators run.ready

    abbrev last : Scene
    last = after (beginning run) run.entries

    live_after : OpenBefore line run run.entries → AreLive (history_of line run) last.world
    live_after so_far =
        let b = holds_after line run run.entries r.few has small size r.short r.entries r.lines in
        subst (λ ms. Known ms last.world → AllLive Extra start ms last.world → AreLive ms last.world) b.is
        (λ k a. are_live run.units logins start last.world b.holds k a)
        (known_everywhere.after_lines line run r has small size so_far) (all_after Extra extra helped grows line run r has small size so_far)

    live_between : (next : ℕ) (most : Option ℕ) (told : List (Option Told)) → MayAll told (begun last) → OpenBetween line run next (more_deliveries most) told → (let w = (after_all told (begun last)).world in AreLive (map said w.fresh ++ asked next (more_deliveries most) ∷ history_of line run) w)
    live_between next most told m so_far =
        let b = holds_after line run run.entries r.few has small size r.short r.entries r.lines in
        let event : Event = more_deliveries most in
        let d : DeliversMore event = more_than_one most in
        let begins = opens run.units logins has start next event last.world (not_reset event d) b.holds in
        let h = all_heard run.units logins has start told (are_told told last m) (begun last) begins (no_repeats event (hist b.past last.world) next d) in
        let w = (after_all told (begun last)).world in
        subst (λ ms. Known (map said w.fresh ++ asked next event ∷ ms) w → AllLive Extra start (map said w.fresh ++ asked next event ∷ ms) w → AreLive (map said w.fresh ++ asked next event ∷ ms) w) b.is
        (λ k a. are_live run.units logins start w h k a)
        (known_everywhere.between line run r has small size next most told m so_far) (all_between Extra extra helped grows line run r has small size next most told m so_far)

  pub live_law : LiveLaw
  live_law = record {
    after_lines = λ line run r has small size so_far. live_after line run r has small size so_far;
    between = λ line run r has small size next most told m so_far. live_between line run r has small size next most told m so_far;
  }
