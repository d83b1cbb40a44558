-- What an action asks for, as it is done: which request leaves, and what was judged of the action.
use Rattle.sbp_world.proofs.Words.Std.{unwrap_or, ◌≡◌, refl, sym, ◌∙◌, ap, ℕ, is_some, Bool, true, false, cond, [], ◌∷◌, ◌++◌, Option, Some, None}
use Rattle.sbp_world.proofs.Words.Wire.{Asked, header_to, request_with, Layer, Access, access_of, empty_outbox, Action, Outgoing}
use Rattle.sbp_world.proofs.Words.Initiator.{start, Seat, points, response_in, Demand, Purpose, InitiatorState, act_step, asked_as, asked_for, demand_of, demanded_as, done_step, facts_with, first_in, judged_as, manage_demand, register_of, ring_demand, is_in_live, is_list_step, prepares, refusal, rings, is_unwritten, place_of, session_of, wanted_body}
use Rattle.sbp_world.proofs.Words.Laws.{cuts_list, live, operation_of}
use Rattle.sbp_world.proofs.Words.World.{session_in, managed_write, manages, register_write}
use Rattle.bus_memory.specs.declared.window.Window.TheVariants as windows
use Rattle.sbp_journal.specs.declared.event.Action.TheVariants as actions
use Rattle.sbp_session.specs.declared.seat.Seat.TheVariants as seats
use Rattle.sbp_initiator.specs.declared.purpose.Wanted.TheVariants as wants
use Rattle.sbp_initiator.proofs.Histories.Actions.{Allowed, allowed}
use Rattle.sbp_world.proofs.Hosts.Requested.{done_sends}
use Rattle.sbp_world.proofs.Common.{some_none, none_is, untrue}

-- ---- which action was judged so

-- what was judged of an action that is done
pub allowed_by : (action : Action) (s : InitiatorState) (r : Option ℕ) → refusal action (facts_with true s action) ≡ r → (judged_as r action empty_outbox s).0 ≡ None → Allowed action s
allowed_by action s (Some number) e f = some_none number f
allowed_by action s None e f = allowed action s e

pub act_allowed : (action : Action) (s : InitiatorState) → (act_step action empty_outbox s).0 ≡ None → Allowed action s
unfolding act_step
act_allowed action s e = allowed_by action s (refusal action (facts_with true s action)) refl e

pub live_session : (seat : Seat) → is_in_live (session_of seat) ≡ true → session_in seat ≡ live
live_session (seats.Out out) e = untrue e
live_session (seats.Entering entering) e = untrue e
live_session (seats.Live x) e = refl
live_session (seats.Held response) e = untrue e
live_session (seats.Returning response) e = untrue e
live_session (seats.Leaving response) e = untrue e
live_session (seats.Stuck origin) e = untrue e

-- a ring is a step of a list, in a live session; and one that prepares nothing has a list
pub record Ringing (s : InitiatorState) (action : Action) : Type 0 where
  pub step : is_list_step action ≡ true
  pub session : is_in_live (session_of s.seat) ≡ true
  pub asks : demand_of action s ≡ Some (ring_demand s)

pub ringing : (action : Action) (s : InitiatorState) → Allowed action s → rings action ≡ true → Ringing s action
ringing (actions.Append cmd) s a e = record { step = refl; session = a.session; asks = refl }
ringing actions.Ring s a e = record { step = refl; session = a.session; asks = refl }
ringing (actions.Put cmd) s a e = untrue e
ringing actions.Low s a e = untrue e
ringing actions.Link s a e = untrue e
ringing (actions.Dummy orb) s a e = untrue e
ringing actions.Rom s a e = untrue e
ringing actions.AgentReset s a e = untrue e
ringing actions.State s a e = untrue e
ringing actions.Enable s a e = untrue e
ringing (actions.Login unit reconnect exclusive password) s a e = untrue e
ringing (actions.Query unit) s a e = untrue e
ringing actions.Reconnect s a e = untrue e
ringing actions.Logout s a e = untrue e
ringing (actions.Abort orb) s a e = untrue e
ringing actions.AbortSet s a e = untrue e
ringing actions.UnitReset s a e = untrue e
ringing actions.TargetReset s a e = untrue e

pub ring_list : (action : Action) (s : InitiatorState) → Allowed action s → rings action ≡ true → prepares action ≡ false → is_some s.lists.slots.present ≡ true
ring_list (actions.Append cmd) s a e f = untrue (sym f)
ring_list actions.Ring s a e f = a.rings refl
ring_list (actions.Put cmd) s a e f = untrue e
ring_list actions.Low s a e f = untrue e
ring_list actions.Link s a e f = untrue e
ring_list (actions.Dummy orb) s a e f = untrue e
ring_list actions.Rom s a e f = untrue e
ring_list actions.AgentReset s a e f = untrue e
ring_list actions.State s a e f = untrue e
ring_list actions.Enable s a e f = untrue e
ring_list (actions.Login unit reconnect exclusive password) s a e f = untrue e
ring_list (actions.Query unit) s a e f = untrue e
ring_list actions.Reconnect s a e f = untrue e
ring_list actions.Logout s a e f = untrue e
ring_list (actions.Abort orb) s a e f = untrue e
ring_list actions.AbortSet s a e f = untrue e
ring_list actions.UnitReset s a e f = untrue e
ring_list actions.TargetReset s a e f = untrue e

-- an operation that ends lists begins in a live session, beside no other and no ORB_POINTER
pub record Cutting (s : InitiatorState) : Type 0 where
  pub free : s.operation ≡ None
  pub session : is_in_live (session_of s.seat) ≡ true
  pub unpointed : points s.seat ≡ false

pub cutting : (action : Action) (s : InitiatorState) → Allowed action s → cuts_list (operation_of action) ≡ true → Cutting s
cutting actions.AgentReset s a e = record { free = a.free; session = a.session; unpointed = a.closes refl }
cutting actions.Logout s a e = record { free = a.free; session = a.session; unpointed = a.closes refl }
cutting actions.AbortSet s a e = record { free = a.free; session = a.session; unpointed = a.closes refl }
cutting actions.UnitReset s a e = record { free = a.free; session = a.session; unpointed = a.closes refl }
cutting actions.TargetReset s a e = record { free = a.free; session = a.session; unpointed = a.closes refl }
cutting (actions.Append cmd) s a e = untrue e
cutting actions.Ring s a e = untrue e
cutting (actions.Put cmd) s a e = untrue e
cutting actions.Low s a e = untrue e
cutting actions.Link s a e = untrue e
cutting (actions.Dummy orb) s a e = untrue e
cutting actions.Rom s a e = untrue e
cutting actions.State s a e = untrue e
cutting actions.Enable s a e = untrue e
cutting (actions.Login unit reconnect exclusive password) s a e = untrue e
cutting (actions.Query unit) s a e = untrue e
cutting actions.Reconnect s a e = untrue e
cutting (actions.Abort orb) s a e = untrue e

-- ---- the request of an action

pub record HasBytes (action : Action) (s : InitiatorState) (packet : Outgoing) : Type 0 where
  pub demand : Demand
  pub is : demand_of action s ≡ Some demand
  pub asked : Asked
  pub found : (asked_for demand s).0 ≡ Some asked
  pub bytes : packet.bytes ≡ asked.bytes

pub no_packet : {A : Type 0} (packet : Outgoing) → [] ≡ packet ∷ [] → A
no_packet packet e = absurd (differ e)
  where
    differ : [] ≡ packet ∷ [] → ⊥
    differ e = cc

module _ (action : Action) (s : InitiatorState) (packet : Outgoing) where
  asked_bytes : (demand : Demand) → demand_of action s ≡ Some demand → (r : Option Asked × Layer Purpose) → asked_for demand s ≡ r → (asked_as r action empty_outbox s).0 ≡ None → (asked_as r action empty_outbox s).1.0.packets ≡ packet ∷ [] → HasBytes action s packet
  asked_bytes demand d (None, layer) step e f = some_none 10 e
  asked_bytes demand d (Some asked, layer) step e f =
      let u = record s { layer = layer } in
      let own : Outgoing = record { to = s.target; label = Some asked.label; bytes = asked.bytes } in
      let sent : (done_step action empty_outbox u).0.packets ++ own ∷ [] ≡ own ∷ [] = ap (λ ps. ps ++ own ∷ []) (done_sends action empty_outbox u) in
      let same : own ≡ packet = (let x = sym sent ∙ f in cc) in
      record { demand = demand; is = d; asked = asked; found = ap (λ (x : Option Asked × Layer Purpose). x.0) step; bytes = ap (λ (p : Outgoing). p.bytes) (sym same) }

  demanded_bytes : (demand : Option Demand) → demand_of action s ≡ demand → (demanded_as demand action empty_outbox s).0 ≡ None → (demanded_as demand action empty_outbox s).1.0.packets ≡ packet ∷ [] → HasBytes action s packet
  demanded_bytes None d e f = no_packet packet (sym (done_sends action empty_outbox s) ∙ f)
  demanded_bytes (Some demand) d e f = asked_bytes demand d (asked_for demand s) refl e f

  judged_bytes : (r : Option ℕ) → (judged_as r action empty_outbox s).0 ≡ None → (judged_as r action empty_outbox s).1.0.packets ≡ packet ∷ [] → HasBytes action s packet
  judged_bytes (Some number) e f = some_none number e
  judged_bytes None e f = demanded_bytes (demand_of action s) refl e f

  pub act_bytes : (act_step action empty_outbox s).0 ≡ None → (act_step action empty_outbox s).1.0.packets ≡ packet ∷ [] → HasBytes action s packet
  unfolding act_step
  act_bytes e f = judged_bytes (refusal action (facts_with true s action)) e f

-- the first ring of a list writes ORB_POINTER
wanted_if : (b : Bool) (x y : Demand) → b ≡ true → (cond b x y).wanted ≡ x.wanted
wanted_if true x y e = refl
wanted_if false x y e = untrue e

wanted_else : (b : Bool) (x y : Demand) → b ≡ false → (cond b x y).wanted ≡ y.wanted
wanted_else true x y e = untrue (sym e)
wanted_else false x y e = refl

pub ring_wanted : (s : InitiatorState) → is_unwritten s.marks.pointing ≡ true → (ring_demand s).wanted ≡ wants.Point (register_of s 0x08) (start (windows.Orb (first_in s.lists.slots.present s)))
ring_wanted s e = wanted_if (is_unwritten s.marks.pointing) _ _ e

pub ring_rings : (s : InitiatorState) → is_unwritten s.marks.pointing ≡ false → (ring_demand s).wanted ≡ wants.Write (register_of s 0x10) s.counts.running
ring_rings s e = wanted_else (is_unwritten s.marks.pointing) _ _ e

-- ---- what it writes

-- what a demand asks for
abbrev pub asks_for : Demand → Option Access
asks_for demand = access_of (request_with (header_to 0 0 0) (wanted_body demand.wanted))

pub data Asking (s : InitiatorState) (action : Action) (access : Access) : Type 0 where
  asks_ring : rings action ≡ true → Asking s action access
  asks_reset : action ≡ actions.AgentReset → access ≡ register_write (response_in s.seat).agent 0x04 → Asking s action access
  asks_enable : action ≡ actions.Enable → access ≡ register_write (response_in s.seat).agent 0x14 → Asking s action access
  asks_management : manages (operation_of action) ≡ true → access ≡ managed_write (unwrap_or s.management 0) (place_of s.counts.managed) → Asking s action access

of_demand : (own demand : Demand) (access : Access) → Some own ≡ Some demand → asks_for demand ≡ Some access → asks_for own ≡ Some access
of_demand own demand access e f = let g : own ≡ demand = cc in ap asks_for g ∙ f

access_is : (own access : Access) → Some own ≡ Some access → access ≡ own
access_is own access e = cc

not_read : {A : Type 0} (own access : Access) → own.is_write ≡ false → Some own ≡ Some access → access.is_write ≡ true → A
not_read own access r e w = untrue (sym r ∙ ap (λ (a : Access). a.is_write) (sym (access_is own access e)) ∙ w)

module _ (s : InitiatorState) (demand : Demand) (access : Access) where
  managing : (action : Action) → manages (operation_of action) ≡ true → Some (manage_demand s) ≡ Some demand → asks_for demand ≡ Some access → Asking s action access
  managing action m e f = asks_management m (access_is _ access (of_demand (manage_demand s) demand access e f))

  pub asked_write : (action : Action) → demand_of action s ≡ Some demand → asks_for demand ≡ Some access → access.is_write ≡ true → Asking s action access
  asked_write (actions.Append cmd) e f w = asks_ring refl
  asked_write actions.Ring e f w = asks_ring refl
  asked_write actions.AgentReset e f w = asks_reset refl (access_is _ access (of_demand _ demand access e f))
  asked_write actions.Enable e f w = asks_enable refl (access_is _ access (of_demand _ demand access e f))
  asked_write actions.State e f w = not_read _ access refl (of_demand _ demand access e f) w
  asked_write actions.Rom e f w = not_read _ access refl (of_demand _ demand access e f) w
  asked_write (actions.Login unit reconnect exclusive password) e f w = managing (actions.Login unit reconnect exclusive password) refl e f
  asked_write (actions.Query unit) e f w = managing (actions.Query unit) refl e f
  asked_write actions.Reconnect e f w = managing actions.Reconnect refl e f
  asked_write actions.Logout e f w = managing actions.Logout refl e f
  asked_write (actions.Abort orb) e f w = managing (actions.Abort orb) refl e f
  asked_write actions.AbortSet e f w = managing actions.AbortSet refl e f
  asked_write actions.UnitReset e f w = managing actions.UnitReset refl e f
  asked_write actions.TargetReset e f w = managing actions.TargetReset refl e f
  asked_write (actions.Put cmd) e f w = none_is demand e
  asked_write actions.Low e f w = none_is demand e
  asked_write actions.Link e f w = none_is demand e
  asked_write (actions.Dummy orb) e f w = none_is demand e
