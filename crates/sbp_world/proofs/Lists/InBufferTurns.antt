-- Each turn keeps it that the response of a login which its initiator got stands in the buffer of its place, while the target waits for the answer.
use Rattle.sbp_world.proofs.Words.Std.{arith, ◌≡◌, ◌∙◌, ◌⊎◌, inl, inr, refl, sym, ap, subst, ℕ, suc, ◌<◌, ◌≤◌, nat_le, Bool, true, false, List, [], ◌∷◌, ◌++◌, map, length, Option, Some, None, append_assoc, nat_tests}
use Rattle.sbp_world.proofs.Words.Wire.{SerialsCount, Action, Note, Named, Moment, asked, said, Sending, terms}
use Rattle.sbp_world.proofs.Words.Target.{Disk}
use Rattle.sbp_world.proofs.Words.Initiator.{start_of, management_orb, Running}
use Rattle.sbp_world.proofs.Words.Laws.{Host, Underway, host_at, is_management, operation_of, access_at, access_in, id_for, packet_in, receiver_in, management_orb_of, place_bytes, target_at, EachMoment}
use Rattle.sbp_world.proofs.Words.World.{Core, operation_by, work_in, work_of, AllOfTarget, Scene, WorldState, initiator_at, Stands, write_access, HoldsLogin, AreAsked, orb_in_place, IsLastRead, HasGivenUp, IsHandling, IsManaged, AreReplied, BufferSo, Begins, IsInBuffer, IsResponding, IsUnderway, OperationsLast, WasUnderway, underway_orb}
use Rattle.std.proofs.Common.{slice_index_or}
use Rattle.bus_memory.specs.declared.window.Window.TheVariants as windows
use Rattle.sbp_world.proofs.Hosts.Hosted.{Cored}
use Rattle.sbp_world.proofs.Hosts.Remaining.{remains}
use Rattle.sbp_world.proofs.Hosts.SentMoments.{serials_from}
use Rattle.mgmt_agent.specs.declared.operation.Phase.{Phase}
use Rattle.mgmt_agent.specs.declared.operation.Phase.TheVariants as phases
use Rattle.mgmt_agent.specs.Machine.{Machine}
use Rattle.sbp_journal.specs.declared.event.Action.TheVariants as actions
use Rattle.sbp_journal.specs.declared.note.Note.TheVariants as notes
use Rattle.sbp_journal.specs.declared.operation.Operation.TheVariants as operations
use Rattle.sbp_world.proofs.Wire.Starts.{laws_of}
use Rattle.sbp_world.proofs.Agents.Management.Holding.{Holding}
use Rattle.sbp_world.proofs.Agents.Management.Still.{hist}
use Rattle.sbp_world.proofs.Lists.BufferGets.{read_of, replying}
use Rattle.sbp_world.proofs.Lists.BufferStores.{IsStoring}
use Rattle.sbp_world.proofs.Lists.ContentManages.{IsSoBefore, so_before}
use Rattle.sbp_world.proofs.Lists.Courses.{Goes}
use Rattle.sbp_world.proofs.Lists.Gots.{Next, next, next_line, same_still}
use Rattle.sbp_world.proofs.Lists.Judging.{Grown, counts_at, goes_next, grown, turn_fresh}
use Rattle.sbp_world.proofs.Lists.KeptTurns.{id_is, operation_is, own_is, was_underway, zero_is}
use Rattle.sbp_world.proofs.Lists.LiveOwn.{in_hand, two_ways}
use Rattle.sbp_world.proofs.Lists.LiveRuns.{IsCored, base_of, goes_turned}
use Rattle.sbp_world.proofs.Lists.LiveSteps.{GaveUpOf}
use Rattle.sbp_world.proofs.Lists.LiveTaken.{handled_going}
use Rattle.sbp_world.proofs.Lists.LiveTurns.{SameBus, TurnOf, by_clearing, by_own, by_sight, by_target}
use Rattle.sbp_world.proofs.Lists.ManageSends.{opened_terms}
use Rattle.sbp_world.proofs.Lists.ManageTerms.{same_some}
use Rattle.sbp_world.proofs.Lists.ManageWire.{WireMoments, wire_moments}
use Rattle.sbp_world.proofs.Lists.Quiet.{AllQuiet}
use Rattle.sbp_world.proofs.Lists.ResponsePackets.{response_packet}
use Rattle.sbp_world.proofs.Lists.Rises.{Rises, rises}
use Rattle.sbp_world.proofs.Lists.ServedTerms.{opened_served, quiet_served, served_most}
use Rattle.sbp_world.proofs.Lists.SlotShut.{AllApart, apart_there}
use Rattle.sbp_world.proofs.Lists.StoredMoments.{HasOp, In, one_note, quiet_in, stays_in}
use Rattle.sbp_world.proofs.Lists.OwnPlaces.{second_back}

-- ---- the ORB of a login names the buffer of its place
second_of : (action : Action) (past : List Moment) (i : ℕ) (host : Host) (place : ℕ) → operation_of action ≡ Some operations.Login → (management_orb_of action past i host place).second ≡ start_of (windows.Response place)
second_of (actions.Login unit reconnect exclusive password) past i host place e = refl
second_of (actions.Query unit) past i host place e = absurd (let no : Some operations.Query ≡ Some operations.Login = e in cc)
second_of actions.Reconnect past i host place e = absurd (let no : Some operations.Reconnect ≡ Some operations.Login = e in cc)
second_of actions.Logout past i host place e = absurd (let no : Some operations.Logout ≡ Some operations.Login = e in cc)
second_of action past i host place e = cc

pub second_is : (past : List Moment) (i : ℕ) (underway : Underway) → IsUnderway past i underway → underway.operation ≡ operations.Login → (orb_in_place past i underway.place).second ≡ start_of (windows.Response underway.place)
second_is past i underway u login =
    let o = underway_orb past i underway in
    let second : o.second ≡ start_of (windows.Response underway.place) = second_of underway.action _ i _ underway.place (u.action ∙ ap (λ (x : Named). Some x) login) in
    let small = u.small in
    ap (λ held. (management_orb (place_bytes held)).second) (u.held (ap is_management login)) ∙ (second_back o (omega (arith, second, small)) ∙ second)

-- ---- one that has an operation of management has not given up
hand_is : (underway : Underway) (operation : Option Running) → operation_by (work_of (Some underway)) ≡ operation_by (work_in operation) → is_management underway.operation ≡ true → in_hand operation ≡ true
hand_is underway None e m = absurd (let no : Some underway.operation ≡ None = e in cc)
hand_is underway (Some running) e m =
    let same : underway.operation ≡ running.operation = (let both : Some underway.operation ≡ Some running.operation = e in cc) in
    ap is_management (sym same) ∙ m

pub has_not_given : {ready : Bool} (past : List Moment) (w : WorldState) (i : ℕ) → Cored ready past i (initiator_at w i) → (underway : Underway) → (host_at past i).operation ≡ Some underway → is_management underway.operation ≡ true → GaveUpOf w i → ⊥
has_not_given past w i c underway has manages up =
    two_ways (in_hand (initiator_at w i).operation)
    (hand_is underway (initiator_at w i).operation (ap (λ o. operation_by (work_of o)) (sym has) ∙ ap (λ (x : Core). operation_by x.work) c.core) manages) up.none

served_behind : (ns : List Note) (base : List Moment) → AllQuiet ns → (terms (map said ns ++ base)).served ≡ (terms base).served
served_behind [] base q = refl
served_behind (n ∷ ns) base q = quiet_served n (map said ns ++ base) q.0 ∙ served_behind ns base q.1

pub response_status : {A : Type 0} (phase : Phase) (fifo : ℕ) → phase ≡ phases.Response fifo → phase ≡ phases.Status → A
response_status phase fifo e f = absurd (differ (sym e ∙ f))
  where
    differ : phases.Response fifo ≡ phases.Status → ⊥
    differ e = cc

-- ---- a turn
module _ (units ready : ℕ) (more_units : 0 < units) (start : List Disk) (past : List Moment) (s : Scene) (later : List Moment) (t : Scene) {lines more : ℕ} (g : Goes past s later t) (h : Holding units ready start past lines s.world) (h_now : Holding units ready start later more t.world) (i : ℕ) (inside : i < length s.world.initiators) (within : i < length t.world.initiators) (lasts : OperationsLast (hist later t.world) i) (managed : IsManaged start (hist later t.world) i) (cored : IsCored (hist past s.world) i (initiator_at s.world i)) (cored_now : IsCored (hist later t.world) i (initiator_at t.world i)) (contents : AreAsked start (hist later t.world)) (last : IsLastRead start (hist later t.world) i) (apart : AllApart (hist later t.world) i) (sources : AllOfTarget (hist later t.world) i) (holds : HoldsLogin (hist past s.world) i (initiator_at s.world i)) (so : EachMoment (BufferSo start i) (hist past s.world)) (replied : GaveUpOf s.world i ⊎ AreReplied start (hist past s.world) i) (had : IsInBuffer start (hist past s.world) i) where
  abbrev W : WorldState
  W = s.world

  abbrev V : WorldState
  V = t.world

  abbrev old : List Moment
  old = hist past W

  abbrev new : List Moment
  new = hist later V

  abbrev stands : Stands later V
  stands = h_now.sound.stands

  counts : SerialsCount new
  counts = counts_at V stands

  x : Grown old new
  x = grown old new (goes_next past s later t g)

  counts_x : SerialsCount (x.new ++ old)
  counts_x = subst SerialsCount (sym x.is) counts

  module _ (r : ℕ) (underway : Underway) (a : IsResponding start new i r underway) (served : 0 < (terms new).served r) where
    manages_it : is_management underway.operation ≡ true
    manages_it = ap is_management a.login

    abbrev place : ℕ
    place = underway.place

    own_orb : IsUnderway new i underway
    own_orb = lasts.each [] new refl underway a.has

    -- what was so before
    handling : IsHandling start new i place a.op
    handling = record { same = a.same; is = a.operation; source = a.source; small = own_orb.small; orb = a.orb }

    judged : 0 < (terms new).news underway.first
    judged =
        let own = handled_going start new i managed (λ (up : HasGivenUp new i). no_more (sym manages_it ∙ up.none underway a.has)) place a.op handling (λ e. response_status a.op.phase a.fifo a.phase e) in
        let same = same_some own.taken.underway underway (sym own.taken.is ∙ a.has) in
        subst (λ (u : Underway). 0 < (terms new).news u.first) same own.taken.judged
      where
        no_more : true ≡ false → ⊥
        no_more e = cc

    was : WasUnderway old new i underway
    was = was_underway start past s later t g h i lasts underway a.has judged

    below : r ≤ (terms old).count
    below = by (nat_le r (terms old).count) refl
      where
        by : (b : Bool) → nat_le r (terms old).count ≡ b → r ≤ (terms old).count
        by true e = grind (arith, nat_tests)
        by false e =
            let z = turn_fresh past s later t g h.sound.stands r (grind (arith, nat_tests)) in
            let most = served_most r new in
            absurd (omega (arith, z, most, served))

    before : IsSoBefore start old (x.new ++ old) r
    before = so_before start x.new old r counts_x below (ap (λ ms. (target_at start ms).manages) x.is ∙ a.manages)

    operation_then : (target_at start old).manager.operation ≡ Some a.op
    operation_then = before.operation ∙ (ap (λ ms. (target_at start ms).manager.operation) x.is ∙ a.operation)

    manager_then : (target_at start old).manager ≡ (target_at start new).manager
    manager_then = before.manager ∙ ap (λ ms. (target_at start ms).manager) x.is

    sent_then : (terms new).sent r ≡ (terms old).sent r
    sent_then = ap (λ ms. (terms ms).sent r) (sym x.is) ∙ (remains x.new old counts_x).sent r below

    first_below : underway.first ≤ (terms old).count
    first_below = let u = (lasts.each x.new old x.is was.was was.is).sent in let e = was.same.first in omega (arith, u, e)

    abbrev out : List ℕ
    out = (target_at start new).manager.outgoing

    asks : access_at (terms new) r ≡ Some (write_access (start_of (windows.Response place)) out)
    asks =
        let packet = response_packet start new counts contents a.op a.fifo r a.operation a.phase a.manages (orb_in_place new i place) (last.last a.op a.fifo a.operation a.phase a.source a.same underway a.has manages_it a.orb) in
        packet ∙ ap (λ n. Some (write_access n out)) (second_is new i underway own_orb a.login)

    abbrev Here : List Moment → Type 0
    Here = In place own_orb.small out a.few i

    -- an operation is under way all along
    op_at : (pre mid : List Moment) → pre ++ (mid ++ old) ≡ new → HasOp i (mid ++ old)
    op_at pre mid e =
        let c = serials_from pre (mid ++ old) (subst SerialsCount (sym e) counts) in
        let k = (remains mid old c).count in
        let f = first_below in
        let u = lasts.was pre (mid ++ old) e underway a.has (omega (arith, k, f)) in
        record { now = u.was; is = u.is }

    front_in : (z : List Moment) (ns : List Note) (pre : List Moment) → pre ++ (map said ns ++ (z ++ old)) ≡ new → AllQuiet ns → Here (z ++ old) → Here (map said ns ++ (z ++ old))
    front_in z [] pre e q k = k
    front_in z (n ∷ ns) pre e q k =
        let joined : (map said (n ∷ ns) ++ z) ++ old ≡ map said (n ∷ ns) ++ (z ++ old) = append_assoc (map said (n ∷ ns)) z old in
        let op = subst (HasOp i) joined (op_at pre (map said (n ∷ ns) ++ z) (ap (λ ms. pre ++ ms) joined ∙ e)) in
        quiet_in place own_orb.small out a.few i n (map said ns ++ (z ++ old)) q.0 op (front_in z ns (pre ++ said n ∷ []) (append_assoc pre (said n ∷ []) (map said ns ++ (z ++ old)) ∙ e) q.1 k)

    module _ (bus : SameBus i W V) where
      same_then : (terms old).generation 0 ≡ (terms old).generation (suc i)
      same_then =
          zero_is units ready more_units start W h i inside
          ∙ (sym bus.zero ∙ (sym (zero_is units ready more_units start V h_now i within) ∙ (a.same ∙ (own_is units ready more_units start V h_now i within ∙ (bus.own ∙ sym (own_is units ready more_units start W h i inside))))))

      source_then : a.op.source ≡ id_for (terms old) 0 (suc i)
      source_then = a.source ∙ (id_is units ready more_units start V h_now i within ∙ (bus.id ∙ sym (id_is units ready more_units start W h i inside)))

      generation_same : (terms new).generation (suc i) ≡ (terms old).generation (suc i)
      generation_same = own_is units ready more_units start V h_now i within ∙ (bus.own ∙ sym (own_is units ready more_units start W h i inside))

      then : IsResponding start old i r was.was
      then = record {
        op = a.op;
        fifo = a.fifo;
        operation = operation_then;
        phase = a.phase;
        source = source_then;
        same = same_then;
        manages = before.manages;
        to = ap receiver_in (sym sent_then) ∙ a.to;
        has = was.is;
        login = sym was.same.operation ∙ a.login;
        orb = a.orb ∙ ap (λ n. start_of (windows.Management n)) was.same.place;
        few = subst (λ (m : Machine). length m.outgoing ≤ 256) (sym manager_then) a.few;
      }

      stood : 0 < (terms old).served r → Here old
      stood l =
          subst (λ (m : Machine). Begins (slice_index_or (host_at old i).responses place []) m.outgoing) manager_then
          (subst (λ n. Begins (slice_index_or (host_at old i).responses n []) (target_at start old).manager.outgoing) (sym was.same.place) (had.stored r was.was then l))

      replied_then : AreReplied start old i
      replied_then = by replied
        where
          by : GaveUpOf W i ⊎ AreReplied start old i → AreReplied start old i
          by (inl up) = absurd (has_not_given old W i cored.cored was.was was.is (ap is_management (sym was.same.operation) ∙ manages_it) up)
          by (inr k) = k

      -- no other write is got into a response buffer
      only : (front mid back : List Moment) (n : ℕ) → front ++ said (notes.Got n) ∷ mid ≡ new → back ++ old ≡ mid → (terms mid).sent ≡ (terms old).sent → IsStoring mid i n → n ≡ r
      only front mid back n is mid_is sent_mid storing =
          let read = read_of ((terms mid).sent n) storing.access storing.is in
          let waits = replying start i old new x.new x.is (laws_of later V stands) (subst (λ ms. (terms ms).injects 0 ≡ false) stands.is.past_is stands.is.fair) (subst WireMoments stands.is.past_is (wire_moments stands.wire stands.reached)) (subst Rises stands.is.past_is (rises stands.wire stands.reached)) sources generation_same so front mid back n is mid_is storing read.packet (ap (λ (f : ℕ → Option Sending). f n) (sym sent_mid) ∙ read.is) in
          let k = ((replied_then n waits).waits a.op operation_then same_then source_then).1 in
          same_some n r (sym k ∙ before.manages)

      -- the moment by which a packet is judged
      module _ (B : List Moment) (host_same : host_at B i ≡ host_at old i) (sent_same : (terms B).sent ≡ (terms old).sent) (served_same : (terms B).served ≡ (terms old).served) (back : List Moment) (back_is : back ++ old ≡ B) where
        there_B : place < length (host_at B i).responses
        there_B =
            let size : length (host_at B i).responses ≡ 2 = ap (λ (x : Host). length x.responses) host_same ∙ holds.responses.size in
            let small = own_orb.small in
            omega (arith, size, small)

        sent_B : (terms B).sent r ≡ (terms new).sent r
        sent_B = ap (λ (f : ℕ → Option Sending). f r) sent_same ∙ sym sent_then

        stood_B : 0 < (terms B).served r → Here B
        stood_B l =
            let e = ap (λ (f : ℕ → ℕ). f r) served_same in
            stays_in place own_orb.small out a.few i old B (ap (λ (x : Host). x.responses) host_same) (stood (omega (arith, e, l)))

        by_note : (front : List Note) (note : Note) → map said front ++ said note ∷ B ≡ new → 0 < (terms (said note ∷ B)).served r → HasOp i (said note ∷ B) → Here (said note ∷ B)
        by_note front note is l op =
            one_note place own_orb.small out a.few B i r there_B (ap receiver_in sent_B ∙ a.to) (ap (λ so. access_in (packet_in so)) sent_B ∙ asks) note op
            (λ n e storing. only (map said front) B back n (ap (λ m. map said front ++ said m ∷ B) (sym e) ∙ is) back_is sent_same storing)
            (λ e. apart_there (map said front) B i r (subst (λ ms. AllApart ms i) (sym (ap (λ m. map said front ++ said m ∷ B) (sym e) ∙ is)) apart))
            stood_B l

      by_moment : (front : List Note) → AllQuiet front → (m : Moment) → map said front ++ m ∷ old ≡ new → Here new
      by_moment front q (asked line event) is =
          let z = asked line event ∷ [] in
          let e = served_behind front (asked line event ∷ old) q ∙ opened_served event (terms old) in
          let f = ap (λ ms. (terms ms).served r) is in
          let k = ap (λ (f : ℕ → ℕ). f r) e in
          subst Here is (front_in z front [] is q (stood (omega (arith, served, f, k))))
      by_moment front q (said note) is =
          let z = said note ∷ [] in
          let f = ap (λ ms. (terms ms).served r) is in
          let k = ap (λ (f : ℕ → ℕ). f r) (served_behind front (said note ∷ old) q) in
          let op = op_at (map said front) z is in
          subst Here is (front_in z front [] is q (by_note old refl refl refl [] refl front note is (omega (arith, served, f, k)) op))

      by_next : Next old new → Here new
      by_next (same_still e) = subst Here (sym e) (stood (let f = ap (λ ms. (terms ms).served r) e in omega (arith, f, served)))
      by_next (next front q m is) = by_moment front q m is
      by_next (next_line front q note line event is) =
          let z = said note ∷ asked line event ∷ [] in
          let B = asked line event ∷ old in
          let f = ap (λ ms. (terms ms).served r) is in
          let k = ap (λ (f : ℕ → ℕ). f r) (served_behind front (said note ∷ B) q) in
          let op = op_at (map said front) z is in
          subst Here is (front_in z front [] is q (by_note B refl (opened_terms event (terms old)).sent (opened_served event (terms old)) (asked line event ∷ []) refl front note is (omega (arith, served, f, k)) op))

    -- an initiator that saw a reset has none under way
    none_there : (initiator_at V i).operation ≡ None → ⊥
    none_there e = not_one (sym (ap work_of a.has) ∙ (ap (λ (c : Core). c.work) cored_now.cored.core ∙ ap work_in e))
      where
        not_one : work_of (Some underway) ≡ None → ⊥
        not_one e = cc

    by_turn : TurnOf i W (base_of g) V → Here new
    by_turn (by_target bus same call) = by_next bus (goes_next past s later t g)
    by_turn (by_clearing c same told) = absurd (c.none a.op (sym (operation_is units ready more_units start V h_now i within) ∙ a.operation))
    by_turn (by_own bus same call away) = by_next bus (goes_next past s later t g)
    by_turn (by_sight sighted same away) = absurd (none_there sighted.reset.none)

    stored_now : Here new
    stored_now = by_turn (goes_turned units ready more_units start past s later t g h i inside)

  pub stored_turn : IsInBuffer start new i
  stored_turn = record { stored = λ r underway a l. stored_now r underway a l }
