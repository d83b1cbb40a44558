-- As the answer to the response of a login comes, that stands in the buffer of its initiator: where the response that was served stands there.
use Rattle.sbp_world.proofs.Words.Std.{arith, ◌≡◌, ◌∙◌, refl, sym, ap, ℕ, suc, ◌+◌, ◌-◌, ◌<◌, ◌≤◌, drop, Bool, true, false, cond, List, [], ◌++◌, length, Option, Some, None, slice_index, slice_index_or, unwrap_or, drop-append-le, get_or_append_left, length-drop, big_number, quad}
use Rattle.sbp_world.proofs.Words.Wire.{LabelParts, Packet, judging_step, of_response, is_write, Sent, found_sent, Moment, Sending, terms}
use Rattle.sbp_world.proofs.Words.Target.{Managed, Disk, answer_in}
use Rattle.sbp_world.proofs.Words.Initiator.{start_of, login_response, write_failure, Running, InitiatorState, response_of, place_in, place_of}
use Rattle.sbp_world.proofs.Words.Laws.{Underway, host_at, is_management, access_at, access_in, access_in_bytes, id_for, packet_in, receiver_in, target_at, EachMoment}
use Rattle.sbp_world.proofs.Words.World.{Core, Work, placed_in, work_in, work_of, WorldState, initiator_at, write_access, orb_in_place, IsLastRead, HasGivenUp, IsHandling, IsCalm, BasedAt, IsInAPlace, IsInBuffer, IsResponding, IsTaken}
use Rattle.bus_memory.specs.declared.window.Window.TheVariants as windows
use Rattle.mgmt_agent.specs.declared.operation.Phase.{Phase}
use Rattle.mgmt_agent.specs.declared.operation.Phase.TheVariants as phases
use Rattle.mgmt_agent.specs.Machine.{Machine}
use Rattle.sbp_journal.specs.declared.operation.Operation.TheVariants as operations
use Rattle.sbp_target.specs.declared.purpose.Purpose.TheVariants as purposes
use Rattle.sbp_world.proofs.Agents.Management.Holding.{Holding}
use Rattle.sbp_world.proofs.Agents.Management.Still.{hist}
use Rattle.sbp_world.proofs.Lists.Judging.{counts_at}
use Rattle.sbp_world.proofs.Lists.KeptTurns.{id_is, operation_is, own_is, zero_is}
use Rattle.sbp_world.proofs.Lists.LiveHandled.{handling}
use Rattle.sbp_world.proofs.Lists.LiveJoined.{Held, StoredTurns}
use Rattle.sbp_world.proofs.Lists.LiveRuns.{With, done_of, goes_beside}
use Rattle.sbp_world.proofs.Lists.LiveSteps.{id_in, own_of, zero_of}
use Rattle.sbp_world.proofs.Lists.LiveTaken.{IsOwnHandled, handled_open}
use Rattle.sbp_world.proofs.Lists.ManageGot.{writing_in}
use Rattle.sbp_world.proofs.Lists.ManageKnown.{write_of}
use Rattle.sbp_world.proofs.Lists.ManageOwn.{AtHost, at_host}
use Rattle.sbp_world.proofs.Lists.ManageTerms.{none_is, same_some}
use Rattle.sbp_world.proofs.Lists.OrbsHeard.{asked_by_it, manages_is, served_once}
use Rattle.sbp_world.proofs.Lists.OrbsInPlace.{IsRequest, of_request}
use Rattle.sbp_world.proofs.Lists.ReplyTurns.{asks_it}
use Rattle.sbp_world.proofs.Lists.ResponsePackets.{response_packet}
use Rattle.sbp_world.proofs.Lists.BufferTurns.{place_small}
use Rattle.sbp_world.proofs.Common.{untrue}

-- ---- a login response is read at the front of bytes
number_front : (out rest : List ℕ) → 4 ≤ length out → big_number 4 (out ++ rest) ≡ big_number 4 out
number_front out rest l =
    let a : slice_index (out ++ rest) 0 ≡ slice_index out 0 = get_or_append_left out rest _ 0 (omega (arith, l)) in
    let b : slice_index (out ++ rest) 1 ≡ slice_index out 1 = get_or_append_left out rest _ 1 (omega (arith, l)) in
    let c : slice_index (out ++ rest) 2 ≡ slice_index out 2 = get_or_append_left out rest _ 2 (omega (arith, l)) in
    let d : slice_index (out ++ rest) 3 ≡ slice_index out 3 = get_or_append_left out rest _ 3 (omega (arith, l)) in
    omega arith

quad_front : (out rest : List ℕ) (at : ℕ) → at + 4 ≤ length out → quad (out ++ rest) at ≡ quad out at
quad_front out rest at l =
    let cut : drop at (out ++ rest) ≡ drop at out ++ rest = drop-append-le at out rest (omega (arith, l)) in
    let long : length (drop at out) ≡ length out - at = length-drop at out in
    ap (λ xs. big_number 4 xs) cut ∙ number_front (drop at out) rest (omega (arith, l, long))

login_front : (out rest : List ℕ) → length out ≡ 16 → login_response (out ++ rest) ≡ login_response out
login_front out rest l =
    let a = quad_front out rest 0 (omega (arith, l)) in
    let b = quad_front out rest 4 (omega (arith, l)) in
    let c = quad_front out rest 8 (omega (arith, l)) in
    let d = quad_front out rest 12 (omega (arith, l)) in
    cc

-- ---- the place of the operation under way
placed_by : (b : Bool) (n : ℕ) (managed : Option ℕ) → b ≡ true → cond b (Some n) None ≡ placed_in managed → place_of (unwrap_or managed 0) ≡ n
placed_by true n None e f = absurd (none_is n (sym f))
placed_by true n (Some managed) e f = (let same : n ≡ place_of managed = (let both : Some n ≡ Some (place_of managed) = f in cc) in sym same)
placed_by false n managed e f = untrue e

place_is : (u : Underway) (running : Running) → work_of (Some u) ≡ work_in (Some running) → is_management u.operation ≡ true → place_in running ≡ u.place
place_is u running e m =
    let one : Work = record { operation = u.operation; place = cond (is_management u.operation) (Some u.place) None } in
    let other : Work = record { operation = running.operation; place = placed_in running.managed } in
    let same : one ≡ other = same_some one other e in
    placed_by (is_management u.operation) u.place running.managed m (ap (λ (x : Work). x.place) same)

other_phase : (phase : Phase) (fifo : ℕ) → phase ≡ phases.Response fifo → phase ≡ phases.Status → ⊥
other_phase phase fifo e f = let no : phases.Response fifo ≡ phases.Status = sym e ∙ f in cc

module _ (units ready : ℕ) (has : 0 < units) (start : List Disk) {past : List Moment} {lines : ℕ} (w : WorldState) (h : Holding units ready start past lines w) (q : With Held start (hist past w) w) (i : ℕ) (inside : i < length w.initiators) (calm : IsCalm (hist past w) i) (based : EachMoment (BasedAt i) (hist past w)) (together : zero_of w ≡ own_of w i) (read : IsLastRead start (hist past w) i) (buffer : IsInBuffer start (hist past w) i) where
  abbrev before : List Moment
  before = hist past w

  module _ (serial : ℕ) (sent : Sent) (found : found_sent serial w.store.kept ≡ Some sent) (to_is : sent.to ≡ 0) (op : Managed) (fifo : ℕ) (is : w.target.manager.operation ≡ Some op) (source : op.source ≡ id_in w i) (taken : IsTaken start before i) (phase : op.phase ≡ phases.Response fifo) (p : Packet) (label : LabelParts) (e : (judging_step w.target.layer sent.generation sent.bytes).0 ≡ of_response p label (Some purposes.Management)) (done : write_failure (answer_in p) ≡ None) (running : Running) (under : (initiator_at w i).operation ≡ Some running) (login : running.operation ≡ operations.Login) (long : length w.target.manager.outgoing ≡ 16) where
    abbrev u : Underway
    u = taken.underway

    abbrev s : InitiatorState
    s = initiator_at w i

    abbrev r : ℕ
    r = asked_by_it units ready has start w h serial sent found to_is p label e

    there : AtHost before i running
    there = at_host before i s running (q.known.cored i inside).cored.core under

    one : there.u ≡ u
    one = same_some there.u u (sym there.is ∙ taken.is)

    login_is : u.operation ≡ operations.Login
    login_is = ap (λ (x : Underway). x.operation) (sym one) ∙ there.same ∙ login

    place_there : place_in running ≡ u.place
    place_there =
        let work = ap (λ (x : Core). x.work) (q.known.cored i inside).cored.core in
        place_is u running (ap work_of (sym taken.is) ∙ work ∙ ap work_in under) taken.manages

    operation_there : (target_at start before).manager.operation ≡ Some op
    operation_there = operation_is units ready has start w h i inside ∙ is

    of_it : op.source ≡ id_for (terms before) 0 (suc i)
    of_it = source ∙ sym (id_is units ready has start w h i inside)

    same : (terms before).generation 0 ≡ (terms before).generation (suc i)
    same = zero_is units ready has start w h i inside ∙ together ∙ sym (own_is units ready has start w h i inside)

    placed : IsInAPlace op
    placed = q.more.placed i inside calm based op operation_there of_it

    handled : IsHandling start before i placed.place op
    handled = handling units ready start w h i inside together op is source placed.place placed.small placed.orb

    not_up : HasGivenUp before i → ⊥
    not_up g = untrue (sym (g.none u taken.is) ∙ taken.manages)

    own : IsOwnHandled start before i placed.place
    own = handled_open start before i (q.more.given.managed i inside calm) not_up placed.place op handled (other_phase op.phase fifo phase)

    orb : op.orb ≡ start_of (windows.Management u.place)
    orb =
        let two = same_some own.taken.underway u (sym own.taken.is ∙ taken.is) in
        placed.orb ∙ ap (λ n. start_of (windows.Management n)) (own.place_is ∙ ap (λ (x : Underway). x.place) two)

    manages : (target_at start before).manages ≡ Some r
    manages = manages_is units ready has start w h serial sent found to_is p label e op is i of_it (q.more.given.laws.none i inside) calm

    request : IsRequest before r op
    request = of_request units ready start w h op r operation_there manages

    access : access_at (terms before) r ≡ Some (write_access (orb_in_place before i u.place).second (target_at start before).manager.outgoing)
    access =
        response_packet start before (counts_at w h.sound.stands) q.more.contents op fifo r operation_there phase manages (orb_in_place before i u.place)
        (read.last op fifo operation_there phase of_it same u taken.is taken.manages orb)

    spelled : access_in_bytes request.packet.bytes ≡ Some (write_access (orb_in_place before i u.place).second (target_at start before).manager.outgoing)
    spelled = ap (λ (found : Option Sending). access_in (packet_in found)) (sym request.sent) ∙ access

    writes : is_write request.packet.bytes ≡ true
    writes = let x = writing_in request.packet.bytes _ spelled refl in write_of request.packet.bytes x.label x.part

    served : (terms before).served r ≡ 1
    served = served_once units ready has start w h serial sent found to_is p label e op is i of_it (q.more.given.laws.none i inside) calm request.packet request.sent writes done

    out_is : (target_at start before).manager.outgoing ≡ w.target.manager.outgoing
    out_is = ap (λ (m : Machine). m.outgoing) h.at.agrees.manager

    responding : IsResponding start before i r u
    responding = record {
      op = op;
      fifo = fifo;
      operation = operation_there;
      phase = phase;
      source = of_it;
      same = same;
      manages = manages;
      to = ap receiver_in request.sent ∙ ap (λ n. Some n) (asks_it units ready start w h i op r operation_there manages of_it request.packet request.sent);
      has = taken.is;
      login = login_is;
      orb = orb;
      few = (let l = ap (λ (xs : List ℕ). length xs) out_is ∙ long in omega (arith, l));
    }

    pub stored : login_response (response_of running s) ≡ login_response w.target.manager.outgoing
    stored =
        let b = buffer.stored r u responding (let one = served in omega (arith, one)) in
        let held = (q.more.holds i inside).responses.each (place_in running) (place_small running) in
        let bytes : response_of running s ≡ w.target.manager.outgoing ++ b.rest = sym held ∙ ap (λ n. slice_index_or (host_at before i).responses n []) place_there ∙ b.is ∙ ap (λ xs. xs ++ b.rest) out_is in
        ap login_response bytes ∙ login_front w.target.manager.outgoing b.rest long

-- ---- at each turn
pub stored_turns : StoredTurns
stored_turns units ready start past s later t lines more has g h h_now q q_now p i inside beside was bus told =
    let was_beside = goes_beside past s later t g i beside in
    record {
      stored = λ serial sent comes op fifo is source taken phase packet label e done running under login long.
          stored units ready has start s.world h q i inside was_beside.0 ((p i inside).grown.based was_beside) was (q.more.read i inside was_beside.0)
          (q.more.stored i inside (done_of start (hist past s.world) s.world p i inside was_beside)) serial sent comes.found comes.to_is op fifo is source taken phase packet label e done running under login long;
    }
