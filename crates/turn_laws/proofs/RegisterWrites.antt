-- In every run each write of an initiator that is none of MANAGEMENT_AGENT goes to a register of the agent of the login that its host has, or behind address 0.
use Rattle.std.proofs.Common.{arith, ◌≡◌, ◌∙◌, inl, inr, ◌⊎◌, refl, sym, ap, subst, ℕ, zero, suc, ◌<◌, nat_eq, Bool, true, false, cond, List, [], ◌∷◌, ◌++◌, map, Option, Some, None}
use Rattle.bus_memory.specs.declared.window.Window.TheVariants as windows
use Rattle.bus_memory.specs.Windows.{start}
use Rattle.initiator_base.specs.Places.{behind_by}
use Rattle.label_table.specs.Bodies.{header_to, request_with}
use Rattle.orb_layout.specs.declared.login.LoginResponse.{LoginResponse}
use Rattle.rbc_disk.specs.Runs.{Told}
use Rattle.sbp_bus.specs.Packets.{judged_note}
use Rattle.sbp_initiator.specs.Acting.{act_step, demand_of, first_in, register_of, ring_demand}
use Rattle.sbp_initiator.specs.Effects.{Turn}
use Rattle.sbp_initiator.specs.Initiators.{new_state}
use Rattle.sbp_initiator.specs.Receiving.{expire_step, receive_step}
use Rattle.sbp_initiator.specs.Seeing.{see_step}
use Rattle.sbp_initiator.specs.States.{is_unwritten, wanted_body}
use Rattle.sbp_initiator.specs.declared.purpose.Demand.{Demand}
use Rattle.sbp_initiator.specs.declared.purpose.Wanted.{Wanted}
use Rattle.sbp_initiator.specs.declared.purpose.Wanted.TheVariants as wants
use Rattle.sbp_initiator.specs.declared.state.InitiatorState.{InitiatorState}
use Rattle.sbp_journal.specs.Addresses.{Access, access_of}
use Rattle.sbp_journal.specs.Outgoings.{empty_outbox}
use Rattle.sbp_journal.specs.Run.{Moment, asked, said}
use Rattle.sbp_journal.specs.Wire.{terms}
use Rattle.sbp_journal.specs.declared.cause.Judged.{Judged}
use Rattle.sbp_journal.specs.declared.cause.Judged.TheVariants as judgements
use Rattle.sbp_journal.specs.declared.event.Action.{Action}
use Rattle.sbp_journal.specs.declared.event.Action.TheVariants as actions
use Rattle.sbp_journal.specs.declared.event.Event.TheVariants as events
use Rattle.sbp_journal.specs.declared.note.Note.{Note}
use Rattle.sbp_journal.specs.declared.note.Note.TheVariants as notes
use Rattle.sbp_journal.specs.declared.outbox.Outgoing.{Outgoing}
use Rattle.sbp_journal.specs.declared.side.Side.{Side}
use Rattle.sbp_journal.specs.declared.side.Side.TheVariants as sides
use Rattle.sbp_laws.specs.Hosts.{Host, host_at, list_begins, operation_of}
use Rattle.sbp_laws.specs.NoteKinds.{is_operation_note}
use Rattle.sbp_laws.specs.Packets.{access_in_bytes}
use Rattle.sbp_laws.specs.Turns.{EachMoment, event_of}
use Rattle.sbp_session.specs.Laws.{carried}
use Rattle.sbp_session.specs.Seats.{response_in}
use Rattle.sbp_session.specs.declared.seat.Seat.{Seat}
use Rattle.sbp_session.specs.declared.seat.Seat.TheVariants as seats
use Rattle.sbp_world.specs.Histories.{history_of}
use Rattle.sbp_world.specs.Hosts.Calls.{behind}
use Rattle.sbp_world.specs.Hosts.Runs.{IsRun, more_deliveries}
use Rattle.sbp_world.specs.Pointers.Moments.{manages}
use Rattle.sbp_world.specs.Runs.{Run, after, beginning}
use Rattle.sbp_world.specs.Sessions.Blocks.{GotBlocks}
use Rattle.sbp_world.specs.Settling.{MayAll, after_all}
use Rattle.sbp_world.specs.Worlds.{begun}
use Rattle.sbp_world.proofs.Common.{untrue}
use Rattle.sbp_world.proofs.Hosts.ActLeft.{act_left}
use Rattle.sbp_world.proofs.Hosts.Carried.{between_runs, of_runs}
use Rattle.sbp_world.proofs.Hosts.Carries.{Carries, is_apart}
use Rattle.sbp_world.proofs.Hosts.Cores.{not_so}
use Rattle.sbp_world.proofs.Hosts.Layered.{AreTame, expire_left, is_tame, receive_left}
use Rattle.sbp_world.proofs.Hosts.Pointed.{stale_is}
use Rattle.sbp_world.proofs.Hosts.PointSees.{see_left}
use Rattle.sbp_world.proofs.Hosts.PointerNotes.{tame_told}
use Rattle.sbp_world.proofs.Lists.ManageTerms.{same_some}
use Rattle.sbp_world.proofs.Lists.ManageWrites.{Spells, act_bytes, no_action, other_node, same_action, spells_known}
use Rattle.sbp_world.proofs.Sessions.BlockRuns.{blocks_law}
use Rattle.sbp_world.proofs.Sessions.HoldingRuns.{Held, behind_blocks, first_held, held_carried, peel}
use Rattle.turn_laws.proofs.OwnActs.{AreQuiet, act_quiet}

-- an address is that of a register of the agent with this base, or of one with base 0
pub record IsRegister (base offset : ℕ) : Type 0 where
  pub distance : ℕ
  pub some : 0 < distance
  pub small : distance < 0x20
  pub is : (offset ≡ behind_by base distance) ⊎ (offset ≡ behind_by 0 distance)

pub record AtRegister (past : List Moment) (i : ℕ) (bytes : List ℕ) : Type 0 where
  pub at : (access : Access) → access_in_bytes bytes ≡ Some access → access.is_write ≡ true → IsRegister (host_at past i).login.agent access.offset

-- what initiator i sends in the line of such an action
abbrev pub RegistersAt : ℕ → Moment → List Moment → Type 0
RegistersAt i (said (notes.Sent serial generation from to bytes)) past =
    from ≡ suc i → (terms past).injected serial ≡ false → (action : Action) → event_of past ≡ Some (events.Act i action) → manages (operation_of action) ≡ false → AtRegister past i bytes
RegistersAt i moment past = Unit {0}

-- ---- what an action tells says nothing of the login
begins_login : (b : Bool) (k : ℕ) (host : Host) → (cond b (list_begins k host) host).login ≡ host.login
begins_login true zero host = refl
begins_login true (suc k) host = refl
begins_login false k host = refl

either_login : (b : Bool) (x host : Host) → x.login ≡ host.login → (cond b x host).login ≡ host.login
either_login true x host e = e
either_login false x host e = refl

note_login : (note : Note) (past : List Moment) (i : ℕ) → is_tame note ≡ true → is_operation_note note ≡ false → (host_at (said note ∷ past) i).login ≡ (host_at past i).login
note_login (notes.Append j n k cdb buffer) past i t q = begins_login (nat_eq j i) k (host_at past i)
note_login (notes.Low j n k) past i t q = refl
note_login (notes.Linked j n k) past i t q = refl
note_login (notes.Rung j n k) past i t q = refl
note_login (notes.Dummied j n k) past i t q = refl
note_login (notes.Told j) past i t q = refl
note_login (notes.Taken j n k status answer) past i t q = either_login (nat_eq j i) _ (host_at past i) refl
note_login (notes.Drop j n) past i t q = untrue (sym q)
note_login (notes.Op j operation word) past i t q = untrue (sym q)
note_login (notes.Stuck j) past i t q = untrue (sym q)
note_login _ past i t q = untrue t

told_login : (told : List Side) (past : List Moment) (i : ℕ) → AreTame told → AreQuiet told → (host_at (behind told past) i).login ≡ (host_at past i).login
told_login [] past i t q = refl
told_login (sides.Own note ∷ later) past i t q = told_login later (said note ∷ past) i t.1 q.1 ∙ note_login note past i t.0 q.0
told_login (_ ∷ later) past i t q = absurd q

-- ---- what an action asks for
abbrev wants_of : Wanted → Option Access
wants_of wanted = access_of (request_with (header_to 0 0 0) (wanted_body wanted))

record InRegisters (s : InitiatorState) (offset : ℕ) : Type 0 where
  distance : ℕ
  some : 0 < distance
  small : distance < 0x20
  is : offset ≡ register_of s distance

abbrev WritesRegister : InitiatorState → Option Demand → Type 0
WritesRegister s None = Unit {0}
WritesRegister s (Some demand) = (access : Access) → wants_of demand.wanted ≡ Some access → access.is_write ≡ true → InRegisters s access.offset

quad_at : (s : InitiatorState) (distance value : ℕ) → 0 < distance → distance < 0x20 → (access : Access) → wants_of (wants.Write (register_of s distance) value) ≡ Some access → InRegisters s access.offset
quad_at s distance value some small access e = record { distance = distance; some = some; small = small; is = ap (λ (a : Access). a.offset) (sym (same_some _ access e)) }

block_at : (s : InitiatorState) (distance address : ℕ) → 0 < distance → distance < 0x20 → (access : Access) → wants_of (wants.Point (register_of s distance) address) ≡ Some access → InRegisters s access.offset
block_at s distance address some small access e = record { distance = distance; some = some; small = small; is = ap (λ (a : Access). a.offset) (sym (same_some _ access e)) }

reads_not : {A : Type 0} (offset : ℕ) (access : Access) → wants_of (wants.Read offset) ≡ Some access → access.is_write ≡ true → A
reads_not offset access e w = untrue (ap (λ (a : Access). a.is_write) (same_some _ access e) ∙ w)

ring_at : (s : InitiatorState) → WritesRegister s (Some (ring_demand s))
ring_at s = by (is_unwritten s.marks.pointing) refl
  where
    by : (b : Bool) → is_unwritten s.marks.pointing ≡ b → WritesRegister s (Some (ring_demand s))
    by true e = rw e (λ access f w. block_at s 0x08 (start (windows.Orb (first_in s.lists.slots.present s))) (omega arith) (omega arith) access f)
    by false e = rw e (λ access f w. quad_at s 0x10 s.counts.running (omega arith) (omega arith) access f)

demand_at : (action : Action) (s : InitiatorState) → manages (operation_of action) ≡ false → WritesRegister s (demand_of action s)
demand_at (actions.Append cmd) s m = ring_at s
demand_at actions.Ring s m = ring_at s
demand_at actions.State s m = λ access e w. reads_not _ access e w
demand_at actions.Rom s m = λ access e w. reads_not _ access e w
demand_at actions.AgentReset s m = λ access e w. quad_at s 0x04 s.counts.running (omega arith) (omega arith) access e
demand_at actions.Enable s m = λ access e w. quad_at s 0x14 1 (omega arith) (omega arith) access e
demand_at (actions.Login unit reconnect exclusive password) s m = untrue (sym m)
demand_at (actions.Query unit) s m = untrue (sym m)
demand_at actions.Reconnect s m = untrue (sym m)
demand_at actions.Logout s m = untrue (sym m)
demand_at (actions.Abort k) s m = untrue (sym m)
demand_at actions.AbortSet s m = untrue (sym m)
demand_at actions.UnitReset s m = untrue (sym m)
demand_at actions.TargetReset s m = untrue (sym m)
demand_at (actions.Dummy k) s m = tt
demand_at (actions.Put cmd) s m = tt
demand_at actions.Low s m = tt
demand_at actions.Link s m = tt

-- the agent of a session is that of its response, or none
agent_of : (seat : Seat) (login : LoginResponse) → ((response : LoginResponse) → carried seat ≡ Some response → login ≡ response) → ((response_in seat).agent ≡ login.agent) ⊎ ((response_in seat).agent ≡ 0)
agent_of (seats.Live live) login h = inl (ap (λ (r : LoginResponse). r.agent) (sym (h live.response refl)))
agent_of (seats.Held response) login h = inl (ap (λ (r : LoginResponse). r.agent) (sym (h response refl)))
agent_of (seats.Returning response) login h = inl (ap (λ (r : LoginResponse). r.agent) (sym (h response refl)))
agent_of (seats.Leaving response) login h = inl (ap (λ (r : LoginResponse). r.agent) (sym (h response refl)))
agent_of (seats.Out out) login h = inr refl
agent_of (seats.Entering entering) login h = inr refl
agent_of (seats.Stuck origin) login h = inr refl

register_is : (agent login offset : ℕ) (s : InitiatorState) → (response_in s.seat).agent ≡ agent → (agent ≡ login) ⊎ (agent ≡ 0) → InRegisters s offset → IsRegister login offset
register_is agent login offset s a (inl f) r = record { distance = r.distance; some = r.some; small = r.small; is = inl (r.is ∙ ap (λ x. behind_by x r.distance) (a ∙ f)) }
register_is agent login offset s a (inr f) r = record { distance = r.distance; some = r.some; small = r.small; is = inr (r.is ∙ ap (λ x. behind_by x r.distance) (a ∙ f)) }

abbrev HasLogin : List Moment → ℕ → InitiatorState → Type 0
HasLogin past i s = (response : LoginResponse) → carried s.seat ≡ Some response → (host_at past i).login ≡ response

-- of the line
module _ (action : Action) (past : List Moment) (i : ℕ) (s : InitiatorState) (known : Spells past i s) (login : HasLogin past i s) (under : event_of past ≡ Some (events.Act i action)) (done : (act_step action empty_outbox s).0 ≡ None) where
  abbrev told_sides : List Side
  told_sides = (act_step action empty_outbox s).1.0.sides

  written : (packet : Outgoing) → (act_step action empty_outbox s).1.0.packets ≡ packet ∷ [] → (other : Action) → event_of (behind told_sides past) ≡ Some (events.Act i other) → manages (operation_of other) ≡ false → AtRegister (behind told_sides past) i packet.bytes
  written packet one other line m =
      let tame = (act_left action s done).told in
      let same = same_action i other action (sym line ∙ (tame_told told_sides past i tame).line ∙ under) in
      let has = act_bytes action s packet done one in
      let now_is = told_login told_sides past i tame (act_quiet action s) in
      record {
        at = λ access e write.
            let wanted = sym (known.spelled action has.demand has.asked has.is has.found) ∙ (ap access_in_bytes (sym has.bytes) ∙ e) in
            register_is (response_in s.seat).agent (host_at (behind told_sides past) i).login.agent access.offset s refl
            (agent_of s.seat (host_at (behind told_sides past) i).login (λ response f. now_is ∙ login response f))
            (subst (WritesRegister s) has.is (demand_at action s (ap (λ a. manages (operation_of a)) (sym same) ∙ m)) access wanted write);
      }

-- ---- what is carried on
pub record Registered (ready : Bool) (past : List Moment) (i : ℕ) (s : InitiatorState) : Type 0 where
  pub held : Held ready past i s
  pub kept : GotBlocks past i → EachMoment (RegistersAt i) past

apart_at : (note : Note) (past : List Moment) (i : ℕ) → is_apart i note ≡ true → RegistersAt i (said note) past
apart_at (notes.Sent serial generation from to bytes) past i e = λ f injected action line m. other_node from i (not_so (nat_eq from (suc i)) e) f
apart_at note past i e = tt

judged_at : (serial : ℕ) (j : Judged) (past : List Moment) (i : ℕ) → RegistersAt i (said (judged_note serial j)) past
judged_at serial judgements.Got past i = tt
judged_at serial (judgements.Ignored cause) past i = tt

tame_at : (note : Note) (past : List Moment) (i : ℕ) → is_tame note ≡ true → RegistersAt i (said note) past
tame_at (notes.Sent serial generation from to bytes) past i e = untrue e
tame_at note past i e = tt

told_kept : (told : List Side) (past : List Moment) (i : ℕ) → AreTame told → EachMoment (RegistersAt i) past → EachMoment (RegistersAt i) (behind told past)
told_kept [] past i tame h = h
told_kept (sides.Own note ∷ later) past i tame h = told_kept later (said note ∷ past) i tame.1 (tame_at note past i tame.0, h)
told_kept (_ ∷ later) past i tame h = absurd tame.0

registered_carried : (ready : Bool) → Carries Spells (Registered ready)
registered_carried ready = record {
  known = λ line event past i s r. record { spelled = r.spelled };
  number = λ past i s h. h.held.cored.own.number;
  asked = λ line event past i s h. record { held = (held_carried ready).asked line event past i s h.held; kept = λ g. (tt, h.kept g) };
  apart = λ note past i s e w h. record { held = (held_carried ready).apart note past i s e w h.held; kept = λ g. (apart_at note past i e, h.kept (peel note past i g)) };
  sent = λ serial generation from to bytes past i s n h. record {
    held = (held_carried ready).sent serial generation from to bytes past i s n h.held;
    kept = λ g. ((λ f injected action line m. no_action i past action n line), h.kept g);
  };
  hears = λ serial generation bytes past i s heard shown after h.
      let tells = (held_carried ready).hears serial generation bytes past i s heard shown after h.held in
      let left = receive_left generation bytes s in
      let r = receive_step generation bytes empty_outbox s in
      let note = judged_note serial r.0 in
      let now = said note ∷ past in
      record {
        own = record { held = tells.own; kept = λ g. told_kept r.1.0.sides now i left.told (judged_at serial r.0 past i, h.kept (peel note past i (behind_blocks r.1.0.sides now i left.told g))) };
        others = λ j x e g. record { held = tells.others j x e g.held; kept = λ b. told_kept r.1.0.sides now j left.told (g.kept (behind_blocks r.1.0.sides now j left.told b)) };
      };
  expires = λ serial label past i s after h.
      let tells = (held_carried ready).expires serial label past i s after h.held in
      let left = expire_left label s in
      let t : Turn = (expire_step label empty_outbox s).1 in
      let now = said (notes.TimedOut serial) ∷ past in
      record {
        own = record { held = tells.own; kept = λ g. told_kept t.0.sides now i left.told (tt, h.kept (behind_blocks t.0.sides now i left.told g)) };
        others = λ j x e g. record { held = tells.others j x e g.held; kept = λ b. told_kept t.0.sides now j left.told (g.kept (behind_blocks t.0.sides now j left.told b)) };
      };
  stale = λ label past i s e h. subst (λ (x : InitiatorState). Registered ready past i x) (sym (stale_is ready label s e)) h;
  sees = λ generation id target past i s flag h.
      let tells = (held_carried ready).sees generation id target past i s flag h.held in
      let left = see_left generation id target s in
      let t : Turn = see_step generation id target empty_outbox s in
      let now = said (notes.Seen (suc i) generation) ∷ past in
      record {
        own = record { held = tells.own; kept = λ g. told_kept t.0.sides now i left.told (tt, h.kept (behind_blocks t.0.sides now i left.told g)) };
        others = λ j x e g. record { held = tells.others j x e g.held; kept = λ b. told_kept t.0.sides now j left.told (g.kept (behind_blocks t.0.sides now j left.told b)) };
      };
  acts = λ action past i s under fit done shown known h.
      let does = (held_carried ready).acts action past i s under fit done shown tt h.held in
      let tame = (act_left action s done).told in
      let t : Turn = (act_step action empty_outbox s).1 in
      record {
        others = λ j x e g. record { held = does.others j x e g.held; kept = λ b. told_kept t.0.sides past j tame (g.kept (behind_blocks t.0.sides past j tame b)) };
        quiet = λ none. record { held = does.quiet none; kept = λ g. told_kept t.0.sides past i tame (h.kept (behind_blocks t.0.sides past i tame g)) };
        asking = λ packet one serial generation injected q. record {
          held = does.asking packet one serial generation injected q;
          kept = λ g.
              let blocks = behind_blocks t.0.sides past i tame g in
              ((λ f honest other line m. written action past i s known (h.held.own blocks).login under done packet one other line m), told_kept t.0.sides past i tame (h.kept blocks));
        };
      };
}

first_registered : (line i initiators : ℕ) (ready : Bool) → i < initiators → Registered ready (said (notes.Begin initiators ready) ∷ asked line (events.Begin initiators ready) ∷ []) i (new_state i ready)
first_registered line i initiators ready b = record { held = first_held line i initiators ready b; kept = λ g. (tt, (tt, tt)) }

pub registers_after : (line : ℕ) (run : Run) → IsRun run → (i : ℕ) → i < run.initiators → EachMoment (RegistersAt i) (history_of line run)
registers_after line run r i b =
    (of_runs (Registered run.ready) (registered_carried run.ready) line run (spells_known line run) (λ j c. first_registered line j run.initiators run.ready c) r i b).kept ((blocks_law.after_lines line run r).got i)

pub registers_between : (line : ℕ) (run : Run) → IsRun run → (next : ℕ) (most : Option ℕ) (told : List (Option Told)) → MayAll told (begun (after (beginning run) run.entries)) → (i : ℕ) → i < run.initiators
    → EachMoment (RegistersAt i) (map said (after_all told (begun (after (beginning run) run.entries))).world.fresh ++ asked next (more_deliveries most) ∷ history_of line run)
registers_between line run r next most told m i b =
    (between_runs (Registered run.ready) (registered_carried run.ready) line run (spells_known line run) (λ j c. first_registered line j run.initiators run.ready c) r next most told m i b).kept ((blocks_law.between line run r next most told m).got i)
