-- A transaction of the target times out: behind the turn the agents of the terms are the target's.
use Rattle.sbp_world.proofs.Words.Std.{arith, ◌≡◌, ◌∙◌, refl, sym, ap, subst, ℕ, ◌<◌, is_some, Bool, true, false, List, [], Option, Some, None, Result, Ok, slice_set}
use Rattle.sbp_world.proofs.Words.Wire.{bare, bare_after, bare_purpose, bare_result, shape, Node, transaction, Stale, under_way, Layer, expiring_step, state_for, find, BusRequest, Moment, Sending, Transaction, Terms, terms, waits, Side}
use Rattle.sbp_world.proofs.Words.Target.{AgentStep, Which, Machine, Login, Disk, Told, PlainDisk, Purpose, sent_to, alone, lets_expire, which_in, NodeState, TargetScene, desk_at, login_at, plain_in, IsUnderWay, TransactionLaw}
use Rattle.sbp_world.proofs.Words.Initiator.{Expired}
use Rattle.sbp_world.proofs.Words.Laws.{Agent, TermPurpose, Target, closed, for_agent, for_manager, for_nobody, managed_by, manager_step, moved, over, plain_for, purpose_of, replied_to}
use Rattle.sbp_world.proofs.Words.World.{handed_out, WorldState, with_note, with_target, IsLatest, Stands, Office, office_replied, AreOf, Follow, changed, managed, Request, agent_in, term_answered, with_requests, resumed, run_told, run_untold, AreKnown, IsForAgent, IsHanded}
use Rattle.bus_transactions.proofs.Bares.{takes_steps}
use Rattle.bus_transactions.proofs.Reaches.{goes_on}
use Rattle.command_agent.proofs.Losing.{reply_lost}
use Rattle.label_table.specs.declared.place.LabelState.TheVariants as states
use Rattle.orb_layout.specs.declared.ask.FailCause.TheVariants as causes
use Rattle.sbp_journal.specs.declared.note.Note.TheVariants as notes
use Rattle.sbp_target.specs.declared.purpose.Purpose.TheVariants as purposes
use Rattle.sbp_world.proofs.Wire.Bus.{holds}
use Rattle.sbp_world.proofs.Wire.Handles.{expired_generation}
use Rattle.sbp_target.proofs.Histories.Calling.{Good}
use Rattle.sbp_target.proofs.Histories.Primitives.{Expiring, expiring_known}
use Rattle.sbp_world.specs.Agents.Management.Calls as management
use Rattle.sbp_world.proofs.Agents.Management.Awaiting.{under_for}
use Rattle.sbp_world.proofs.Agents.Management.Calls.{lapse_does}
use Rattle.sbp_world.proofs.Agents.Management.Firsts.{lapsed_here}
use Rattle.sbp_world.proofs.Agents.Management.Holding.{Holding, past_terms}
use Rattle.sbp_world.proofs.Agents.Management.Idle.{managed_idle, managed_office, over_idle}
use Rattle.sbp_world.proofs.Agents.Management.Lapse.{asked_as, entry, from_asked}
use Rattle.sbp_world.proofs.Agents.Management.Sides.{AllBehind}
use Rattle.sbp_world.proofs.Agents.Management.Still.{hist}
use Rattle.sbp_world.proofs.Agents.Management.Told.{term_in}
use Rattle.sbp_world.specs.Agents.Calls.{lapsed, replied}
use Rattle.sbp_world.proofs.Agents.CrewFirsts.{T, agrees, before, crew_keeps, none_waits, o}
use Rattle.sbp_world.proofs.Agents.CrewSeats.{IsServing, serves_it, state_of}
use Rattle.sbp_world.proofs.Agents.CrewTurns.{Begins, doing_behind, quiet_begins, turned_crew}
use Rattle.sbp_world.proofs.Agents.Handed.{are_handed}
use Rattle.sbp_world.proofs.Agents.Leaving.{packets_leave}
use Rattle.sbp_world.proofs.Agents.Notes.{notes_law}
use Rattle.sbp_world.proofs.Agents.ToldAlike.{IsToldOf, run_of_place, told_alike_expired}
use Rattle.sbp_world.proofs.Agents.Purposes.{Waits, g, held_waits, labels, law}

-- a time-out is a loss, whatever the unit
lapse_same : (place : ℕ) (which : Which) (one two : PlainDisk) (u v : Bool) (a : Agent) → term_answered None u place one which Expired a ≡ term_answered None v place two which Expired a
lapse_same place which one two u v a =
    ap (λ (r : AgentStep × Machine). moved r (closed which a))
    (reply_lost a.machine place one None which Expired causes.Timeout refl ∙ sym (reply_lost a.machine place two None which Expired causes.Timeout refl))

none_there : (x : Option Told) → is_some x ≡ false → x ≡ None
none_there None e = refl
none_there (Some told) e = absurd (let no : true ≡ false = e in cc)

none_told : (x : Option Told) → is_some x ≡ true → is_some x ≡ false → ⊥
none_told x e f = let no : true ≡ false = sym e ∙ f in cc

-- a reply that waits, where nothing is told of a run
lapse_resumes : (told : List Side) (place : ℕ) → ((plain : PlainDisk) → IsToldOf place told plain None) → (which : Which) (t : Target) (plain : PlainDisk) → resumed (Some (record { place = place; which = which; answer = Expired })) told t ≡ changed place (term_answered None false place plain which Expired) t.agents
lapse_resumes told place tells which t plain =
    let own = plain_for t (record { place = place; which = which; answer = Expired }) in
    let a = agent_in t.agents place in
    ap (λ (run : Option Told). slice_set t.agents place (term_answered run (run_untold told own a.untold) place own which Expired a)) (none_there (run_told told own) ((tells own).alike a.untold).both)
    ∙ ap (λ x. slice_set t.agents place x) (lapse_same place which own plain (run_untold told own a.untold) false a)

module _ (units ready : ℕ) (has : 0 < units) (start : List Disk) {past : List Moment} {lines : ℕ} (w : WorldState) (h : Holding units ready start past lines w) (serial : ℕ) (request : BusRequest) (found : find w.requests serial ≡ Some request) (zero_is : request.node ≡ 0) where
  abbrev stands : Stands past w
  stands = h.sound.stands

  abbrev G : Good w.target
  G = g units ready has start w h

  abbrev L : TransactionLaw w.target
  L = law units ready has start w h

  abbrev own_office : Office
  own_office = o units ready has start w h

  abbrev own_terms : Target
  own_terms = T units ready has start w h

  abbrev t : Terms
  t = terms (hist past w)

  abbrev gen : ℕ
  gen = t.generation 0

  abbrev ids : ℕ → ℕ
  ids = t.ids gen

  abbrev number : ℕ
  number = request.label.number

  abbrev pub lapsed_world : NodeState → WorldState
  lapsed_world now = with_note (notes.TimedOut serial) (with_target now w)

  abbrev pub x : TargetScene
  x = alone (lets_expire request.peer request.label) w.target

  abbrev pub v : WorldState
  v = lapsed_world x.node

  abbrev BeginsAt : NodeState → Office → List Agent → List Side → Target → Type 0
  BeginsAt now = Begins (lapsed_world now) (terms (hist past (lapsed_world now)))

  abbrev entered : IsLatest w.requests (terms stands.wire.past).ids (terms stands.wire.past).current (terms stands.wire.past).bus serial request
  entered = entry start w stands G L h.at serial request found

  module _ (purpose : Option Purpose) (new : Layer Purpose) (e : expiring_step w.target.layer request.peer request.label ≡ (Ok purpose, new)) where
    in_generation : request.label.generation ≡ gen
    in_generation =
        let wire = stands.wire in
        let all = holds wire stands.reached in
        let own : wire.layer 0 ≡ bare w.target.layer = stands.is.layers_are 0 (omega arith) in
        let first : expiring_step (wire.layer 0) request.peer request.label ≡ (Ok (bare_purpose purpose), bare new) =
        ap (λ (l : Node). expiring_step l request.peer request.label) own
        ∙ (takes_steps Purpose).expires w.target.layer request.peer request.label
        ∙ ap (λ (r : Result (Option Purpose) Stale × Layer Purpose). bare_after bare_result r) e in
        expired_generation (wire.layer 0) request.peer request.label (bare_purpose purpose) (bare new) (all.nodes 0).places first
        ∙ (all.nodes 0).generation ∙ ap (λ (x : Terms). x.generation 0) (past_terms w stands)

    abbrev mine : Transaction
    mine = transaction gen 0 entered.to number

    asked_is_mine : asked_as start w stands G L h.at serial request found ≡ mine
    asked_is_mine =
        ap (λ x. transaction x request.node entered.to number) in_generation
        ∙ ap (λ x. transaction gen x entered.to number) zero_is

    expiring : Expiring new request.peer request.label purpose G.lives
    expiring = expiring_known w.target.layer new G.lives request.peer request.label purpose G.mid.known e

    peer_is : request.peer ≡ ids entered.to
    peer_is =
        entered.peer_is ∙ ap (λ (x : Terms). x.ids request.label.generation entered.to) (past_terms w stands)
        ∙ ap (λ y. t.ids y entered.to) in_generation

    under_there : IsUnderWay w.target.layer purpose (ids entered.to) number
    under_there = subst (λ i. IsUnderWay w.target.layer purpose i number) peer_is (under_for w.target.layer G.lives purpose request.peer request.label expiring.kind G.mid.known expiring.life)

    state_is : state_for w.target.layer.peers (ids entered.to) number ≡ states.UnderWay expiring.kind request.label.serial
    state_is =
        ap (λ i. state_for w.target.layer.peers i number) (sym peer_is)
        ∙ state_of w.target.layer G.lives request.peer request.label expiring.kind purpose G.mid.known expiring.life

    -- it waits on the wire, with this serial
    pub waiting : Waits (t.held mine)
    waiting = held_waits (t.held mine) expiring.kind (sym (ap shape state_is) ∙ labels units ready has start w h entered.to number)

    pub record Asked : Type 0 where
      pub packet : Sending
      pub sent : t.sent serial ≡ Some packet
      pub from : packet.from ≡ 0
      pub waits_there : t.held mine ≡ waits waiting.kind serial
      pub lapses : (now : NodeState) → term_in start past (lapsed_world now) ≡ replied_to (purpose_of own_terms serial) Expired own_terms

    pub asked : Asked
    asked =
        let two = goes_on.awaited stands.wire mine waiting.kind waiting.serial stands.reached (ap (λ (x : Terms). x.held mine) (past_terms w stands) ∙ waiting.is) in
        let serial_is : waiting.serial ≡ serial = two.current ∙ ap (λ x. (terms stands.wire.past).current x) (sym asked_is_mine) ∙ entered.current_is in
        let there : t.sent serial ≡ Some two.packet = ap (λ (x : Terms). x.sent serial) (sym (past_terms w stands)) ∙ ap (λ n. (terms stands.wire.past).sent n) (sym serial_is) ∙ two.sent in
        let from = from_asked start w stands G L h.at serial request found two.packet there ∙ zero_is in
        record {
          packet = two.packet;
          sent = there;
          from = from;
          waits_there = waiting.is ∙ ap (waits waiting.kind) serial_is;
          lapses = λ now. lapsed_here start (hist past w) serial two.packet there from;
        }

    lapsed_for : (now : NodeState) (for : TermPurpose) → purpose_of own_terms serial ≡ for → term_in start past (lapsed_world now) ≡ replied_to for Expired own_terms
    lapsed_for now for f = asked.lapses now ∙ ap (λ x. replied_to x Expired own_terms) f

    nobody_begins : (now : NodeState) (told : List Side) → purpose_of own_terms serial ≡ for_nobody → BeginsAt now own_office own_terms.agents told (term_in start past (lapsed_world now))
    nobody_begins now told f =
        subst (BeginsAt now own_office own_terms.agents told) (sym (lapsed_for now for_nobody f))
        (quiet_begins own_office own_terms.agents told own_terms (none_waits units ready has start w h) refl refl)

    manager_begins : (now : NodeState) (told : List Side) → purpose_of own_terms serial ≡ for_manager → BeginsAt now (office_replied Expired own_office) (managed Expired own_office own_terms.agents) told (term_in start past (lapsed_world now))
    manager_begins now told f =
        let y = managed_by (manager_step own_terms Expired) Expired own_terms in
        subst (BeginsAt now (office_replied Expired own_office) (managed Expired own_office own_terms.agents) told) (sym (lapsed_for now for_manager f))
        (quiet_begins (office_replied Expired own_office) (managed Expired own_office own_terms.agents) told y (managed_idle (manager_step own_terms Expired) Expired own_terms (over_idle (before units ready has start w h))).reply (notes_law.manages Expired own_terms) (managed_office (manager_step own_terms Expired) Expired own_terms))

    module _ (requests : List Request) (are : AreOf requests own_terms.agents w.target) (known : AreKnown requests w.target w.requests) where
      pub handed : IsHanded own_terms w.target purpose (ids entered.to) number serial
      handed = (are_handed units ready has start w h).all requests entered.to number waiting.kind serial purpose are known asked.waits_there under_there

      module _ (place : ℕ) (own : purpose ≡ Some (purposes.Agent place)) where
        pub small : place < 8
        small = L.places place (ids entered.to) number (subst (λ p. IsUnderWay w.target.layer p (ids entered.to) number) own under_there)

        pub for_it : IsForAgent own_terms w.target place (ids entered.to) number serial
        for_it = handed.agent place own

        pub serving_it : IsServing w.target place (sent_to request.peer request.label) for_it.which
        serving_it =
            let k = for_it.kept in
            serves_it units ready has start w h place small (sent_to request.peer request.label) for_it.which
            (record { kind = expiring.kind; life = expiring.life ∙ ap (λ p. under_way expiring.kind p) own })
            (record { sent = k.sent; is = k.is; peer_is = k.peer_is ∙ sym peer_is; number_is = k.number_is })

        abbrev late : Target
        late = record own_terms { reply = Some (record { place = place; which = for_it.which; answer = Expired }) }

        abbrev Replied : List Side → Option Login → Option Which → NodeState → Type 0
        Replied told login which now = BeginsAt now own_office (replied None false place Expired w.target [] login which own_terms.agents) told (term_in start past (lapsed_world now))

        agent_begins : (now : NodeState) (told : List Side) → ((plain : PlainDisk) → IsToldOf place told plain None) → Replied told (login_at w.target place) (which_in (desk_at w.target place) request.peer request.label) now
        agent_begins now told tells =
            let s = serving_it in
            let plain = plain_in w.target.units [] s.login.unit in
            subst (λ l. Replied told l (which_in (desk_at w.target place) request.peer request.label) now) (sym s.login_is)
            (subst (λ k. Replied told (Some s.login) k now) (sym s.which_is)
            (subst (BeginsAt now own_office (changed place (term_answered None false place plain for_it.which Expired) own_terms.agents) told) (sym (lapsed_for now (for_agent place for_it.which) for_it.is))
            (record { office = refl; may = (are.size, small, ((tells plain).of_step, run_of_place told plain (lapsed_world now) place _ (tells plain).at (λ e. absurd (none_told (run_told told plain) e ((tells plain).alike false).both)))); resumes = lapse_resumes told place tells for_it.which late plain })))

      agent_tells : (place : ℕ) → purpose ≡ Some (purposes.Agent place) → (plain : PlainDisk) → IsToldOf place x.outbox.sides plain None
      agent_tells place own plain =
          told_alike_expired w.target request.peer request.label place plain (ap (λ (f : Result (Option Purpose) Stale × Layer Purpose). f.0) e ∙ ap Ok own)

      abbrev BeginsFor : Option Purpose → Type 0
      BeginsFor p =
          BeginsAt x.node (management.lapsed (Ok p) own_office) (lapsed (Ok p) request.peer request.label w.target own_office own_terms.agents) x.outbox.sides (term_in start past v)

      begins_for : (p : Option Purpose) → purpose ≡ p → BeginsFor p
      begins_for None own = nobody_begins x.node x.outbox.sides (handed.nobody own)
      begins_for (Some (purposes.Agent place)) own = agent_begins place own x.node x.outbox.sides (agent_tells place own)
      begins_for (Some purposes.Management) own = manager_begins x.node x.outbox.sides (handed.operation own)
      begins_for (Some purposes.Unsolicited) own = nobody_begins x.node x.outbox.sides (handed.unsolicited own)

      behind : AllBehind x.outbox.sides
      behind = doing_behind x (lapse_does w.target G own_office (agrees units ready has start w h) request.peer request.label)

      pub lapsed_crew : AreOf (with_requests v.store.last x.outbox.packets requests) (over (term_in start past (handed_out 0 0 x.outbox v))).agents x.node
      lapsed_crew =
          turned_crew start past requests (management.lapsed (Ok purpose) own_office) (lapsed (Ok purpose) request.peer request.label w.target own_office own_terms.agents) x v (begins_for purpose refl) behind
          ((packets_leave units ready has start w h).expiries serial request found zero_is)
          (subst (λ (r : Result (Option Purpose) Stale). Follow requests (management.lapsed r own_office) (lapsed r request.peer request.label w.target own_office own_terms.agents) x)
          (ap (λ (f : Result (Option Purpose) Stale × Layer Purpose). f.0) e)
          ((crew_keeps units ready has start w h requests are).expiries request.peer request.label))
