-- At a place of a run, where lists are open as they should be, a packet that answers what an agent waits for brings of an initiator that injected no packets and has a list open what the main transaction
-- of the agent of this list brought, or what begins elsewhere than in page tables and buffers.
use Rattle.sbp_world.proofs.Words.Std.{arith, ◌≡◌, ◌∙◌, refl, sym, ap, subst, inl, inr, ◌<◌, ◌==◌, ◌&&◌, ℕ, suc, Bool, true, false, cond, List, [], Option, Some, nat_tests}
use Rattle.sbp_world.proofs.Words.Wire.{IsAwaited, Access, Moment, Sending, Transaction, between, Terms, terms}
use Rattle.sbp_world.proofs.Words.Target.{Which, Ahead, Main, Machine, Disk, ahead_ask, ReadAhead}
use Rattle.sbp_world.proofs.Words.Initiator.{window_at, OrbPointer, At, Null}
use Rattle.sbp_world.proofs.Words.Laws.{fifo_in, Moved, moved_by, payload_at, read_by, slot_at, access_at, answered_at, receiver_in, sender_in, Purpose, Target, agent_at, for_agent, is_serial, term_login, over, purpose_of, target_at}
use Rattle.sbp_world.proofs.Words.World.{WorldState, IsAccessFor, serial_of, Stands, AreAlong, GoesAlong, AllElsewhere, IsOwnOrOther, is_main_of, main_moved, main_read, IsCalm, IsOpenAt, OpenLists, initiator_in, is_open_at, machine_at, AreOwnGots, data_slot}
use Rattle.bus_transactions.proofs.Reaches.{goes_on}
use Rattle.command_agent.specs.declared.phase.ReadAhead.TheVariants as aheads
use Rattle.sbp_world.proofs.Agents.Management.Holding.{Holding, past_terms}
use Rattle.sbp_world.proofs.Agents.Management.Still.{hist}
use Rattle.sbp_world.proofs.Lists.Bringing.{read_prepared}
use Rattle.sbp_world.proofs.Lists.Brought.{number_of}
use Rattle.sbp_world.proofs.Lists.BegunBy.{held_by}
use Rattle.sbp_world.proofs.Lists.FedOnce.{IsReply, reply_by}
use Rattle.sbp_world.proofs.Lists.FedOwners.{ahead_none}
use Rattle.sbp_world.proofs.Lists.Heard.{awaited_to}
use Rattle.sbp_world.proofs.Lists.ManageTerms.{same_some}
use Rattle.sbp_world.proofs.Lists.ReadSlots.{is_in}
use Rattle.sbp_world.proofs.Lists.Sites.{IsPrepared, Site, Waiting, waiting as agent_waiting}
use Rattle.sbp_world.proofs.Common.{equal}

-- a read ahead reads
ahead_reads : (ahead : ReadAhead) (next : OrbPointer) (is_status : Bool) (fifo : ℕ) (access : Access) → IsAccessFor (ahead_ask ahead next) is_status fifo access → access.is_write ≡ false
ahead_reads (aheads.UnderWay rung) (At next) is_status fifo access a = ap (λ (x : Access). x.is_write) a
ahead_reads (aheads.UnderWay rung) Null is_status fifo access a = absurd a
ahead_reads aheads.Idle next is_status fifo access a = absurd a
ahead_reads (aheads.Kept orb) next is_status fifo access a = absurd a

abbrev none_moved : List Moved
none_moved = []

module _ (units ready : ℕ) (has : 0 < units) (start : List Disk) {past : List Moment} {lines : ℕ} (w : WorldState) (h : Holding units ready start past lines w) (s : Site start past w) (open_lists : OpenLists (hist past w) w) (along : AreAlong (hist past w) w) where
  abbrev ms : List Moment
  ms = hist past w

  abbrev t : Terms
  t = terms ms

  abbrev T : Target
  T = over (target_at start ms)

  abbrev stands : Stands past w
  stands = h.sound.stands

  module _ (place : ℕ) (b : place < 8) (is_open : is_open_at w place ≡ true) (calm : IsCalm ms (initiator_in w place)) (serial own other slot : ℕ) (which : Which) (closed : answered_at t serial ≡ Some own) (purpose : purpose_of T own ≡ for_agent other which) where
    abbrev i : ℕ
    i = initiator_in w place

    abbrev reply : IsReply t serial own
    reply = reply_by t serial own (t.sent serial) refl closed

    abbrev q : Sending
    q = reply.packet

    abbrev u : Transaction
    u = between q q.to q.from reply.label

    -- it comes from the node that the request went to
    comes_from : receiver_in (t.sent own) ≡ Some q.from
    comes_from =
        let x = held_by (t.held u) reply.kind own reply.closes in
        let same = past_terms w stands in
        let a : IsAwaited (terms stands.wire.past) u x.kind own = goes_on.awaited stands.wire u x.kind own stands.reached (ap (λ (y : Terms). y.held u) same ∙ x.is) in
        ap (λ (y : Terms). receiver_in (y.sent own)) (sym same) ∙ awaited_to (terms stands.wire.past) u x.kind own a

    abbrev handed : (other < 8) × (serial_of which (agent_at T other) ≡ Some own)
    handed = s.asked.handed own other which purpose

    abbrev asked : Waiting units ready has start w h s other handed.0 which own
    asked = agent_waiting units ready has start w h s other handed.0 which own handed.1

    from_is : q.from ≡ suc (initiator_in w other)
    from_is = same_some q.from (suc (initiator_in w other)) (sym comes_from ∙ asked.to)

    abbrev R : Bool
    R = is_serial (receiver_in (t.sent serial)) 0

    abbrev M : List Moved
    M = moved_by (access_at t own) (payload_at t serial)

    read_is : read_by t i serial (answered_at t serial) ≡ cond ((q.from == suc i) && R) M []
    read_is = ap (λ o. read_by t i serial o) closed ∙ ap (λ (so : Option Sending). cond (is_serial (sender_in so) (suc i) && R) M []) reply.sent

    main_is : main_read start ms place serial ≡ cond R (cond (is_main_of (for_agent other which) place) M []) []
    main_is =
        ap (λ o. cond R (main_moved t T place serial o) []) closed
        ∙ ap (λ (p : Purpose). cond R (cond (is_main_of p place) M []) []) purpose

    either_none : (x : Bool) → cond x [] [] ≡ none_moved
    either_none true = refl
    either_none false = refl

    -- another place is of another initiator
    others : (other == place) ≡ false → is_main_of (for_agent other which) place ≡ false → IsOwnOrOther start ms i place slot serial
    others e none =
        let apart : (q.from == suc i) ≡ false = differs (q.from == suc i) refl in
        inr (
          main_is ∙ ap (λ x. cond R (cond x M []) []) none ∙ either_none R,
          subst (AllElsewhere slot) (sym (read_is ∙ ap (λ x. cond (x && R) M []) apart)) tt,
        )
      where
        differs : (x : Bool) → (q.from == suc i) ≡ x → x ≡ false
        differs false f = refl
        differs true f =
            let same : q.from ≡ suc i = grind (arith, nat_tests, f) in
            let from = from_is in
            let one : initiator_in w other ≡ i = omega (arith, same, from) in
            let at : other ≡ place = open_lists.one place other b handed.0 is_open asked.is_open calm one in
            absurd (grind (arith, nat_tests, e, at))

    -- the place itself
    reads_all : other ≡ place → read_by t i serial (answered_at t serial) ≡ cond R M []
    reads_all at =
        let from = from_is in
        let one : initiator_in w other ≡ i = ap (initiator_in w) at in
        let here : (q.from == suc i) ≡ true = grind (arith, nat_tests, from, one) in
        read_is ∙ ap (λ x. cond (x && R) M []) here

  abbrev Case : ℕ → ℕ → ℕ → ℕ → ℕ → Which → Type 0
  Case place serial own other slot which = answered_at t serial ≡ Some own → purpose_of T own ≡ for_agent other which → IsOwnOrOther start ms (initiator_in w place) place slot serial

  module _ (place : ℕ) (b : place < 8) (is_open : is_open_at w place ≡ true) (calm : IsCalm ms (initiator_in w place)) (serial own other slot : ℕ) where
    main_case : Case place serial own other slot Main
    main_case closed purpose = by (other == place) refl
      where
        by : (x : Bool) → (other == place) ≡ x → IsOwnOrOther start ms (initiator_in w place) place slot serial
        by false e = others place b is_open calm serial own other slot Main closed purpose e e
        by true e =
            inl (reads_all place b is_open calm serial own other slot Main closed purpose (equal other place e)
            ∙ sym (main_is place b is_open calm serial own other slot Main closed purpose ∙ ap (λ x. cond (is_serial (receiver_in (t.sent serial)) 0) (cond x (moved_by (access_at t own) (payload_at t serial)) []) []) e))

    module _ (closed : answered_at t serial ≡ Some own) (purpose : purpose_of T own ≡ for_agent other Ahead) (quiet : IsCalm ms (initiator_in w other)) where
      abbrev m : Machine
      m = machine_at w other

      abbrev j : ℕ
      j = initiator_in w other

      abbrev waits_for : Waiting units ready has start w h s other (handed place b is_open calm serial own other slot Ahead closed purpose).0 Ahead own
      waits_for = asked place b is_open calm serial own other slot Ahead closed purpose

      abbrev small_place : other < 8
      small_place = (handed place b is_open calm serial own other slot Ahead closed purpose).0

      abbrev o : IsOpenAt ms w other
      o = open_lists.listed other small_place waits_for.is_open quiet

      abbrev goes : GoesAlong ms j o.n m
      goes = along.all other small_place waits_for.is_open quiet o.n o.list

      abbrev fifo : ℕ
      fifo = fifo_in (term_login T other)

      prepared : IsPrepared ms j (slot_at ms j o.n (number_of Ahead m.phase goes.progress.ended)) o.n (number_of Ahead m.phase goes.progress.ended)
      prepared =
          read_prepared units ready has start w h s open_lists other small_place waits_for.is_open waits_for.inside quiet o.n o.list goes.progress.ended (number_of Ahead m.phase goes.progress.ended) goes.is
          (is_in ms j o.n Ahead goes.progress m waits_for.status fifo waits_for.access goes.along waits_for.asks (ahead_reads m.ahead m.orb.next waits_for.status fifo waits_for.access waits_for.asks))

      no_data : (x : ℕ) → data_slot (window_at waits_for.access.offset) ≡ Some x → ⊥
      no_data x d = ahead_none ms j o.n m.phase goes.progress m.orb.next m.ahead waits_for.status fifo x waits_for.access goes.along.ahead waits_for.asks prepared.small d

      elsewhere : (x : Bool) → AllElsewhere slot (cond x (moved_by (access_at t own) (payload_at t serial)) [])
      elsewhere false = tt
      elsewhere true =
          subst (λ (a : Option Access). AllElsewhere slot (moved_by a (payload_at t serial))) (sym waits_for.is)
          (record { table = λ e. no_data slot (ap data_slot e); buffer = λ e. absurd (no_data slot (ap data_slot e)) }, tt)

    ahead_case : Case place serial own other slot Ahead
    ahead_case closed purpose = by (other == place) refl
      where
        by : (x : Bool) → (other == place) ≡ x → IsOwnOrOther start ms (initiator_in w place) place slot serial
        by false e = others place b is_open calm serial own other slot Ahead closed purpose e refl
        by true e = inr (
          main_is place b is_open calm serial own other slot Ahead closed purpose ∙ either_none place b is_open calm serial own other slot Ahead closed purpose (is_serial (receiver_in (t.sent serial)) 0),
          subst (AllElsewhere slot) (sym (reads_all place b is_open calm serial own other slot Ahead closed purpose (equal other place e))) (elsewhere closed purpose (subst (λ p. IsCalm ms (initiator_in w p)) (sym (equal other place e)) calm) (is_serial (receiver_in (t.sent serial)) 0)),
        )

  pub are_own_gots : AreOwnGots start ms w
  are_own_gots place b is_open calm serial own other slot Main closed purpose = main_case place b is_open calm serial own other slot closed purpose
  are_own_gots place b is_open calm serial own other slot Ahead closed purpose = ahead_case place b is_open calm serial own other slot closed purpose
