-- What is said of the machine of each agent of the terms of the target, where each step of an agent keeps it: each note keeps it, but for one of a packet that is got, which is said apart.
use Rattle.sbp_world.proofs.Words.Std.{◌≡◌, refl, subst, ℕ, Bool, true, false, cond, List, Option, Some, None, Result, Ok, Err, is_none, position}
use Rattle.sbp_world.proofs.Words.Wire.{Access, Register, Start, agent_reset, agent_state, doorbell, management_agent, no_start, orb_pointer, register, rom_start, start_at, start_serves, unsolicited_enable, Moment, Terms, Note, FunctionWord}
use Rattle.sbp_world.proofs.Words.Target.{PointRefusal, Which, Machine, point_step, ManagerStep, Busy, Table}
use Rattle.sbp_world.proofs.Words.Initiator.{Ask, offset_at, pointer_at, Answer, Expired}
use Rattle.sbp_world.proofs.Words.Laws.{sender_in, Agent, Decided, Purpose, Reply, Target, agent_at, enters_in, entered_by, for_agent, for_manager, for_nobody, is_serial, managed_by, manager_step, new_agent, over, pointed_by, points, purpose_of, register_got, replied, replied_to, request_got, rings, start_got, started_by, target_by, with_agent}
use Rattle.mgmt_agent.specs.Machine as manager
use Rattle.sbp_journal.specs.declared.note.Note.TheVariants as notes
use Rattle.sbp_journal.specs.declared.operation.FunctionWord.TheVariants as functions
use Rattle.sbp_world.proofs.Lists.AgentFolds.{AreKept, Every, cut_still, set_so, set_still, stand, stand_still}
use Rattle.sbp_world.proofs.Lists.AgentNotes as agents
use Rattle.sbp_world.proofs.Lists.AgentNotes.{IfApart, pick}
use Rattle.sbp_world.proofs.Lists.FedFolds.{AreSo, AreStill, IsKept, Of, Pends, are_kept, over_still, so}

module _ (P : ℕ → Machine → Type 0) (kept : IsKept P) where
  abbrev Is : Target → Type 0
  Is t = AreSo P t

  abbrev Settled : Target → Type 0
  Settled t = AreStill P t

  as_kept : AreKept (Of P) Every
  as_kept = are_kept P kept

  pick_is : (b : Bool) (x y : Target) → Is x → Is y → Is (cond b x y)
  pick_is true x y h k = h
  pick_is false x y h k = k

  -- one agent has another machine
  set_place : (t : Target) (k : ℕ) (x : Agent) → Settled t → P k x.machine → Settled (with_agent t k x)
  set_place t k x h own = set_still (Of P) t k x h (λ before. own)

  -- a new one
  set_new : (t : Target) (k : ℕ) → Is t → Is (with_agent t k new_agent)
  set_new t k h = set_so (Of P) t k new_agent h (kept.new k) (λ reply e plain told is_told. kept.unheard reply.place plain told reply.which reply.answer)

  -- ---- the management's effects
  pub managed_kept : (s : ManagerStep × (manager.Machine × Table)) (answer : Answer) (t : Target) → Settled t → Settled (managed_by s answer t)
  managed_kept s answer t h = agents.managed_kept (Of P) as_kept s answer t (λ place orb e a. kept.aborted place a.machine orb) h

  started_kept : (r : Result Ask Busy × manager.Machine) (t : Target) → Settled t → Settled (started_by r t)
  started_kept (Err busy, machine) t h = h
  started_kept (Ok ask, machine) t h = stand_still (Of P) _ t refl refl h

  -- ---- a reply is got
  pub to_purpose : (purpose : Purpose) (answer : Answer) (t : Target) → Settled t → ((place : ℕ) (which : Which) → purpose ≡ for_agent place which → Pends P (agent_at t place).machine (record { place = place; which = which; answer = answer })) → Is (replied_to purpose answer t)
  to_purpose (for_agent place which) answer t h b = record {
    agents = λ q e. h.agents q;
    pending = λ reply e plain told is_told.
        let own : Reply = record { place = place; which = which; answer = answer } in
        let same : own ≡ reply = (let both : Some own ≡ Some reply = e in cc) in
        subst (λ (r : Reply). Pends P (agent_at t r.place).machine r) same (b place which refl) plain told;
  }
  to_purpose for_manager answer t h b = so P _ (managed_kept (manager_step t answer) answer t h)
  to_purpose for_nobody answer t h b = so P t h

  late : (serial : ℕ) (t : Target) → Settled t → Is (replied serial Expired t)
  late serial t h = to_purpose (purpose_of t serial) Expired t h (λ place which e plain told. kept.late place (agent_at t place).machine plain told which (h.agents place))

  -- ---- a request is got
  pointed_by_kept : (place : ℕ) (a : Agent) (r : Result Ask PointRefusal × Machine) (pointer : ℕ) → P place a.machine → P place r.1 → P place (pointed_by r pointer a).machine
  pointed_by_kept place a (Err refusal, machine) pointer h k = h
  pointed_by_kept place a (Ok ask, machine) pointer h k = k

  register_kept : (name : Register) (place : ℕ) (access : Access) (t : Target) → Settled t → Settled (register_got name place access t)
  register_kept agent_reset place access t h = cut_still (Of P) as_kept.cuts t place h
  register_kept orb_pointer place access t h =
      let a = agent_at t place in
      pick (Of P) as_kept access.is_write (with_agent t place (points access a)) t
      (set_place t place (points access (agent_at t place)) h (pointed_by_kept place (agent_at t place) (point_step (agent_at t place).machine (pointer_at access.payload 0)) (offset_at access.payload 0) (h.agents place) (kept.pointed place (agent_at t place).machine (pointer_at access.payload 0) (h.agents place)))) h
  register_kept doorbell place access t h = set_place t place (rings (agent_at t place)) h (kept.rung place (agent_at t place).machine (h.agents place))
  register_kept unsolicited_enable place access t h = stand_still (Of P) _ t refl refl h
  register_kept agent_state place access t h = h

  start_kept : (start : Start) (source : ℕ) (access : Access) (t : Target) → Settled t → Settled (start_got start source access t)
  start_kept (register place name) source access t h = register_kept name place access t h
  start_kept management_agent source access t h = started_kept (manager.start_step t.manager source (offset_at access.payload 0)) t h
  start_kept rom_start source access t h = h
  start_kept no_start source access t h = h

  pub request_kept : (access : Option Access) (source : ℕ) (t : Target) → Settled t → Settled (request_got access source t)
  request_kept None source t h = h
  request_kept (Some access) source t h = pick (Of P) as_kept (start_serves (start_at access.offset) access) (start_got (start_at access.offset) source access t) t (start_kept (start_at access.offset) source access t h) h

  -- ---- a login is entered: its agent is new
  enters_kept : (place : Option ℕ) (decided : Option Decided) (id : ℕ) (t : Target) → Is t → Is (enters_in place decided id t)
  enters_kept None decided id t h = h
  enters_kept (Some place) None id t h = h
  enters_kept (Some place) (Some d) id t h = stand (Of P) _ (with_agent t place new_agent) refl refl (set_new t place h)

  entered_kept : (login : Option ℕ) (t : Target) → Is t → Is (entered_by login t)
  entered_kept None t h = h
  entered_kept (Some id) t h = enters_kept (position is_none t.table.places) t.decided id t h

  -- ---- each note
  -- what a packet is got is said apart
  abbrev pub IfGot : Note → List Moment → Terms → Target → Type 0
  IfGot (notes.Got serial) past wire t = Is (target_by (notes.Got serial) past wire t)
  IfGot note past wire t = Unit {0}

  managed_apart : (i subject status : ℕ) (word : FunctionWord) (login : Option ℕ) (past : List Moment) (wire : Terms) (t : Target) → Is t → IfApart (Of P) as_kept (notes.Managed i word subject status login) past wire t
  managed_apart i subject status functions.Login login past wire t h = entered_kept login t h
  managed_apart i subject status word login past wire t h = tt

  apart : (note : Note) (past : List Moment) (wire : Terms) (t : Target) → Is t → IfGot note past wire t → IfApart (Of P) as_kept note past wire t
  apart (notes.Got serial) past wire t h g = g
  apart (notes.TimedOut serial) past wire t h g =
      let s = over_still P kept t h in
      pick_is (is_serial (sender_in (wire.sent serial)) 0) (replied serial Expired (over t)) (over t) (late serial (over t) s) (so P (over t) s)
  apart (notes.Managed i word subject status login) past wire t h g = managed_apart i subject status word login past wire t h
  apart note past wire t h g = tt

  pub note_kept : (note : Note) (past : List Moment) (wire : Terms) (t : Target) → Is t → IfGot note past wire t → Is (target_by note past wire t)
  note_kept note past wire t h g = agents.note_kept (Of P) as_kept note past wire t h (apart note past wire t h g)
