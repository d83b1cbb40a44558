-- The request of an action by the terms is the one that its initiator makes, where no other row refuses it, and it finds a label exactly where the terms say so.
use Rattle.std.proofs.Common.{arith, ◌≡◌, ◌∙◌, refl, sym, ap, ℕ, suc, ◌+◌, ◌%◌, ◌^◌, ◌&&◌, not, is_some, unwrap_or, Bool, true, false, List, ◌∷◌, Option, Some, None}
use Rattle.bus_memory.specs.declared.window.Window.TheVariants as windows
use Rattle.bus_memory.specs.Windows.{start}
use Rattle.byteorder.specs.Endian.{big_bytes}
use Rattle.label_table.specs.Bodies.{Body, block_write, quadlet_read, quadlet_write}
use Rattle.orb_layout.specs.declared.login.LoginResponse.{LoginResponse}
use Rattle.orb_list.specs.Table.{lowest}
use Rattle.orb_list.specs.declared.list.PresentList.{PresentList}
use Rattle.sbp_initiator.proofs.Histories.Effects.{HasMarks}
use Rattle.sbp_initiator.specs.Acting.{asked_for, demand_of, facts_with, first_in, manage_demand, ring_demand}
use Rattle.sbp_initiator.specs.Acting as own_acts
use Rattle.sbp_initiator.specs.Refusals.{is_in_live, rows_of, sends}
use Rattle.sbp_initiator.specs.Refusing.{finds_for}
use Rattle.sbp_initiator.specs.States.{is_unwritten, session_of, wanted_body}
use Rattle.sbp_initiator.specs.declared.purpose.Demand.{Demand}
use Rattle.sbp_initiator.specs.declared.state.InitiatorState.{InitiatorState}
use Rattle.sbp_journal.specs.Addresses.{Register, agent_reset, agent_state, distance_of, doorbell, orb_pointer, unsolicited_enable}
use Rattle.sbp_journal.specs.Run.{Moment}
use Rattle.sbp_journal.specs.Wire.{terms}
use Rattle.sbp_journal.specs.declared.event.Action.{Action}
use Rattle.sbp_journal.specs.declared.event.Action.TheVariants as actions
use Rattle.sbp_laws.specs.Actions.{action_body, address_bytes, first_slot, lacks_label, management_body, pointer_for, register_of, ring_body}
use Rattle.sbp_laws.specs.Hosts.{Host, host_at, operation_of}
use Rattle.sbp_laws.specs.Lists.{lowest_vacant, present_list, slot_at}
use Rattle.sbp_laws.specs.Operations.{management_offset}
use Rattle.sbp_laws.specs.Packets.{finds_label}
use Rattle.sbp_session.specs.Laws.{carried}
use Rattle.sbp_session.specs.Seats.{response_in}
use Rattle.sbp_session.specs.declared.seat.Seat.{Seat}
use Rattle.sbp_session.specs.declared.seat.Seat.TheVariants as seats
use Rattle.sbp_world.specs.Hosts.Core.{Core, host_core, own_core}
use Rattle.sbp_world.specs.Hosts.Rows.{present_in}
use Rattle.sbp_world.specs.Hosts.Worlds.{IsHost}
use Rattle.sbp_world.specs.Pointers.Moments.{manages}
use Rattle.sbp_world.specs.Sessions.Holding.{HoldsLogin}
use Rattle.sbp_world.proofs.Common.{none_is, untrue}
use Rattle.sbp_world.proofs.Hosts.Acts.{NoRow}
use Rattle.sbp_world.proofs.Hosts.Appends.{lowest_is}
use Rattle.sbp_world.proofs.Pointers.Asks.{ring_rings, ring_wanted}
use Rattle.std.proofs.lemmas.Bool.{not-false}
use Rattle.sbp_world.proofs.Wire.Kept.{and_false}

-- an address, as 8 bytes
more_same : (a b : ℕ) (xs ys : List ℕ) → a ≡ b → xs ≡ ys → a ∷ xs ≡ b ∷ ys
more_same a b xs ys e f = ap (λ n. n ∷ xs) e ∙ ap (λ ns. b ∷ ns) f

eight : (x : ℕ) → address_bytes x ≡ big_bytes 8 x
eight x =
    more_same _ _ _ _ (omega arith) (more_same _ _ _ _ (omega arith) (more_same _ _ _ _ (omega arith) (more_same _ _ _ _ (omega arith)
    (more_same _ _ _ _ (omega arith) (more_same _ _ _ _ (omega arith) (more_same _ _ _ _ (omega arith) (more_same _ _ _ _ (omega arith) refl)))))))

none_written : (p : Option ℕ) (b : Bool) → is_some p ≡ not b → p ≡ None → b ≡ true
none_written None true e f = refl
none_written None false e f = untrue e
none_written (Some n) b e f = absurd (let no : Some n ≡ None = f in cc)

some_written : (p : Option ℕ) (b : Bool) (n : ℕ) → is_some p ≡ not b → p ≡ Some n → b ≡ false
some_written (Some n) true m e f = untrue (sym e)
some_written (Some n) false m e f = refl
some_written None b m e f = absurd (let no : None ≡ Some m = f in cc)

abbrev pub body_in : Option Demand → Option Body
body_in None = None
body_in (Some demand) = Some (wanted_body demand.wanted)

module _ (past : List Moment) (i : ℕ) (s : InitiatorState) (own : IsHost past i s) (core : host_core (host_at past i) ≡ own_core s) (holds : HoldsLogin past i s) (marks : HasMarks s.lists.slots.present s.marks.pointing) (first : (list : PresentList) → s.lists.slots.present ≡ Some list → s.marks.first ≡ slot_at past i list.tail.list 0) where
  abbrev host : Host
  host = host_at past i

  live_login : (seat : Seat) → s.seat ≡ seat → is_in_live (session_of seat) ≡ true → host.login ≡ response_in seat
  live_login (seats.Live live) e f = holds.login live.response (ap (λ x. carried x) e)
  live_login (seats.Out out) e f = untrue f
  live_login (seats.Entering entering) e f = untrue f
  live_login (seats.Held response) e f = untrue f
  live_login (seats.Returning response) e f = untrue f
  live_login (seats.Leaving response) e f = untrue f
  live_login (seats.Stuck origin) e f = untrue f

  register_is : (name : Register) → is_in_live (session_of s.seat) ≡ true → register_of host name ≡ own_acts.register_of s (distance_of name)
  register_is name e = ap (λ (r : LoginResponse). (r.agent + distance_of name) % 2 ^ 48) (live_login s.seat refl e)

  running_is : host.running ≡ s.counts.running
  running_is = ap (λ (c : Core). c.running) core

  wrote_is : is_some host.pointer ≡ not (is_unwritten s.marks.pointing)
  wrote_is = ap (λ (c : Core). c.wrote_pointer) core

  bell_is : is_in_live (session_of s.seat) ≡ true → is_unwritten s.marks.pointing ≡ false → quadlet_write (register_of host doorbell) host.running ≡ wanted_body (ring_demand s).wanted
  bell_is live w =
      ap (λ n. quadlet_write n host.running) (register_is doorbell live) ∙ ap (λ n. quadlet_write (own_acts.register_of s 0x10) n) running_is ∙ ap wanted_body (sym (ring_rings s w))

  points_is : is_in_live (session_of s.seat) ≡ true → is_unwritten s.marks.pointing ≡ true → first_slot past i (present_list past i) ≡ first_in s.lists.slots.present s → ring_body past i host None ≡ wanted_body (ring_demand s).wanted
  points_is live w slot =
      ap (λ n. block_write n (address_bytes (start (windows.Orb (first_slot past i (present_list past i)))))) (register_is orb_pointer live)
      ∙ ap (λ n. block_write (own_acts.register_of s 0x08) (address_bytes (start (windows.Orb n)))) slot
      ∙ ap (λ bytes. block_write (own_acts.register_of s 0x08) bytes) (eight (start (windows.Orb (first_in s.lists.slots.present s))))
      ∙ ap wanted_body (sym (ring_wanted s w))

  -- of the present list
  rung_by : (list : PresentList) → s.lists.slots.present ≡ Some list → is_in_live (session_of s.seat) ≡ true → (p : Option ℕ) → host.pointer ≡ p → ring_body past i host (pointer_for (present_list past i) host) ≡ wanted_body (ring_demand s).wanted
  rung_by list e live None f =
      ap (λ x. ring_body past i host (pointer_for x host)) present ∙ ap (ring_body past i host) f
      ∙ points_is live (none_written host.pointer (is_unwritten s.marks.pointing) wrote_is f)
      (ap (first_slot past i) present ∙ sym (first list e) ∙ ap (λ x. first_in x s) (sym e))
    where
      present : present_list past i ≡ Some list.tail.list
      present = own.rows.fits.present ∙ ap present_in e
  rung_by list e live (Some serial) f =
      ap (λ x. ring_body past i host (pointer_for x host)) (own.rows.fits.present ∙ ap present_in e) ∙ ap (ring_body past i host) f
      ∙ bell_is live (some_written host.pointer (is_unwritten s.marks.pointing) serial wrote_is f)

  -- of the next list
  rung_first : s.lists.slots.present ≡ None → is_in_live (session_of s.seat) ≡ true → (free : Option ℕ) → lowest s.lists.slots.slots ≡ free → is_some free ≡ true → ring_body past i host (pointer_for (present_list past i) host) ≡ wanted_body (ring_demand s).wanted
  rung_first e live None f g = untrue g
  rung_first e live (Some slot) f g =
      let present : present_list past i ≡ None = own.rows.fits.present ∙ ap present_in e in
      ap (λ x. ring_body past i host (pointer_for x host)) present
      ∙ points_is live (unwritten s.lists.slots.present e marks)
      (ap (first_slot past i) present ∙ ap lowest_vacant own.rows.rows_are ∙ lowest_is s.lists.slots.slots slot f
      ∙ sym (ap (λ x. first_in x s) e ∙ ap (λ x. unwrap_or x 0) f))
    where
      unwritten : (present : Option PresentList) → present ≡ None → HasMarks present s.marks.pointing → is_unwritten s.marks.pointing ≡ true
      unwritten None e m = m
      unwritten (Some list) e m = absurd (let no : Some list ≡ None = e in cc)

  rings_present : (present : Option PresentList) → s.lists.slots.present ≡ present → is_in_live (session_of s.seat) ≡ true → is_some present ≡ true → ring_body past i host (pointer_for (present_list past i) host) ≡ wanted_body (ring_demand s).wanted
  rings_present None e live f = untrue f
  rings_present (Some list) e live f = rung_by list e live host.pointer refl

  rings_any : (present : Option PresentList) → s.lists.slots.present ≡ present → is_in_live (session_of s.seat) ≡ true → is_some (lowest s.lists.slots.slots) ≡ true → ring_body past i host (pointer_for (present_list past i) host) ≡ wanted_body (ring_demand s).wanted
  rings_any None e live f = rung_first e live (lowest s.lists.slots.slots) refl f
  rings_any (Some list) e live f = rung_by list e live host.pointer refl

  -- the address of the ORB in the next place of management
  managed_is : (offset : ℕ) → unwrap_or s.management 0 ≡ offset → Some (block_write offset (address_bytes (start (windows.Management (host.writes % 2))))) ≡ body_in (Some (manage_demand s))
  managed_is offset e =
      ap (λ n. Some (block_write n (address_bytes (start (windows.Management (host.writes % 2)))))) (sym e)
      ∙ ap (λ n. Some (block_write (unwrap_or s.management 0) (address_bytes (start (windows.Management (n % 2)))))) (ap (λ (c : Core). c.writes) core)
      ∙ ap (λ bytes. Some (block_write (unwrap_or s.management 0) bytes)) (eight (start (windows.Management (s.counts.managed % 2))))

  -- where MANAGEMENT_AGENT is known
  abbrev pub Offset : Type 0
  Offset = management_offset (host_at past i).management ≡ unwrap_or s.management 0

  writes_it : Offset → Some (management_body host) ≡ body_in (Some (manage_demand s))
  writes_it offset = managed_is (management_offset host.management) (sym offset)

  pub bodies : (action : Action) (has_label : Bool) → (manages (operation_of action) ≡ true → Offset) → NoRow (rows_of action (facts_with has_label s action)) → action_body action past i host ≡ body_in (demand_of action s)
  bodies actions.Rom b f n = refl
  bodies actions.AgentReset b f n =
      let live = not-false (is_in_live (session_of s.seat)) n.wrong_state in
      ap (λ x. Some (quadlet_write x host.running)) (register_is agent_reset live) ∙ ap (λ x. Some (quadlet_write (own_acts.register_of s 0x04) x)) running_is
  bodies actions.State b f n = ap (λ x. Some (quadlet_read x)) (register_is agent_state (not-false (is_in_live (session_of s.seat)) n.wrong_state))
  bodies actions.Enable b f n = ap (λ x. Some (quadlet_write x 1)) (register_is unsolicited_enable (not-false (is_in_live (session_of s.seat)) n.wrong_state))
  bodies actions.Ring b f n = ap Some (rings_present s.lists.slots.present refl (not-false (is_in_live (session_of s.seat)) n.wrong_state) (not-false (is_some s.lists.slots.present) n.no_orb))
  bodies (actions.Append cmd) b f n = ap Some (rings_any s.lists.slots.present refl (not-false (is_in_live (session_of s.seat)) n.wrong_state) (not-false (is_some (lowest s.lists.slots.slots)) n.no_slot))
  bodies (actions.Put cmd) b f n = refl
  bodies actions.Low b f n = refl
  bodies actions.Link b f n = refl
  bodies (actions.Dummy orb) b f n = refl
  bodies (actions.Login unit reconnect exclusive password) b f n = writes_it (f refl)
  bodies (actions.Query unit) b f n = writes_it (f refl)
  bodies actions.Reconnect b f n = writes_it (f refl)
  bodies actions.Logout b f n = writes_it (f refl)
  bodies (actions.Abort orb) b f n = writes_it (f refl)
  bodies actions.AbortSet b f n = writes_it (f refl)
  bodies actions.UnitReset b f n = writes_it (f refl)
  bodies actions.TargetReset b f n = writes_it (f refl)

  -- ---- its label
  sends_some : (action : Action) (demand : Demand) → demand_of action s ≡ Some demand → sends action ≡ true
  sends_some (actions.Put cmd) demand e = none_is demand e
  sends_some actions.Low demand e = none_is demand e
  sends_some actions.Link demand e = none_is demand e
  sends_some (actions.Dummy orb) demand e = none_is demand e
  sends_some _ demand e = refl

  -- a request of its own finds one as the terms say
  abbrev pub Finds : Action → Type 0
  Finds action = (demand : Demand) → demand_of action s ≡ Some demand → is_some (asked_for demand s).0 ≡ finds_label (terms past) (suc i) 0 (wanted_body demand.wanted)

  lacks_by : (action : Action) → Finds action → (d : Option Demand) → demand_of action s ≡ d
      → lacks_label (terms past) i (body_in d) ≡ (sends action && not (finds_for d s))
  lacks_by action finds None e = sym (and_false (sends action))
  lacks_by action finds (Some demand) e =
      ap not (sym (finds demand e)) ∙ ap (λ b. b && not (is_some (asked_for demand s).0)) (sym (sends_some action demand e))

  pub label_row : (action : Action) (has_label : Bool) → (manages (operation_of action) ≡ true → Offset) → Finds action → NoRow (rows_of action (facts_with has_label s action))
      → lacks_label (terms past) i (action_body action past i host) ≡ (sends action && not (finds_for (demand_of action s) s))
  label_row action b f finds n = ap (lacks_label (terms past) i) (bodies action b f n) ∙ lacks_by action finds (demand_of action s) refl
