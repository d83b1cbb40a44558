-- In every run a ring of an initiator writes at ORB_POINTER of the agent of the login that its host has.
use Rattle.sbp_world.proofs.Words.Std.{◌≡◌, ◌∙◌, inl, inr, ◌⊎◌, refl, sym, ap, subst, ℕ, zero, suc, ◌<◌, nat_eq, Bool, true, false, cond, List, [], ◌∷◌, ◌++◌, Option, Some, None}
use Rattle.sbp_world.proofs.Words.Wire.{Asked, header_to, request_with, Layer, judged_note, Access, access_of, OutboxState, empty_outbox, Moment, asked, said, Judged, Action, Note, Outgoing, Side}
use Rattle.sbp_world.proofs.Words.Initiator.{start, behind_by, LoginResponse, PresentList, ListState, high_lists, low_lists, list_number, TicketParts, act_step, asked_as, demand_of, demanded_as, done_step, facts_with, first_in, judged_as, link_as, link_step, login_id, low_as, low_step, put_as, put_step, register_of, ring_demand, ring_for, put_lists, Demand, Purpose, InitiatorState, Turn, new_state, expire_step, receive_step, refusal, rings, see_step, is_unwritten, wanted_body, carried, response_in, Seat}
use Rattle.sbp_world.proofs.Words.Laws.{Host, host_at, list_begins, access_in_bytes, EachMoment, event_of}
use Rattle.sbp_world.proofs.Words.World.{behind, GotBlocks, IsAtLogin, RingsAt, RingsLaw}
use Rattle.bus_memory.specs.declared.window.Window.TheVariants as windows
use Rattle.sbp_initiator.specs.declared.purpose.Purpose.TheVariants as purposes
use Rattle.sbp_initiator.specs.declared.purpose.Wanted.TheVariants as wants
use Rattle.sbp_journal.specs.declared.cause.Judged.TheVariants as judgements
use Rattle.sbp_journal.specs.declared.event.Action.TheVariants as actions
use Rattle.sbp_journal.specs.declared.event.Event.TheVariants as events
use Rattle.sbp_journal.specs.declared.note.Note.TheVariants as notes
use Rattle.sbp_journal.specs.declared.side.Side.TheVariants as sides
use Rattle.sbp_session.specs.declared.seat.Seat.TheVariants as seats
use Rattle.sbp_world.proofs.Hosts.ActLeft.{act_left}
use Rattle.sbp_world.proofs.Hosts.Carried.{between_runs, of_runs}
use Rattle.sbp_world.proofs.Hosts.Carries.{Carries, is_apart}
use Rattle.sbp_world.proofs.Hosts.Layered.{AreTame, expire_left, is_tame, receive_left}
use Rattle.sbp_world.proofs.Hosts.Pointed.{stale_is}
use Rattle.sbp_world.proofs.Hosts.PointerNotes.{tame_told}
use Rattle.sbp_world.proofs.Hosts.PointSees.{see_left}
use Rattle.sbp_world.proofs.Sessions.BlockRuns.{blocks_law}
use Rattle.sbp_world.proofs.Sessions.HoldingRuns.{Held, behind_blocks, first_held, held_carried, peel}
use Rattle.sbp_world.proofs.Lists.ManageTerms.{same_some}
use Rattle.sbp_world.proofs.Lists.ManageWrites.{Spells, act_bytes, no_action, other_node, same_action, spells_known}
use Rattle.sbp_world.proofs.Common.{untrue}
use Rattle.sbp_world.proofs.Hosts.Cores.{not_so}

-- ---- what a ring tells says nothing of the login
abbrev IsStep : Side → Type 0
IsStep (sides.Own (notes.Append i n k cdb buffer)) = Unit {0}
IsStep (sides.Own (notes.Low i n k)) = Unit {0}
IsStep (sides.Own (notes.Linked i n k)) = Unit {0}
IsStep (sides.Own (notes.Rung i n k)) = Unit {0}
IsStep _ = ⊥

abbrev AreSteps : List Side → Type 0
AreSteps [] = Unit {0}
AreSteps (side ∷ later) = IsStep side × AreSteps later

steps_more : (before : List Side) (side : Side) → AreSteps before → IsStep side → AreSteps (before ++ side ∷ [])
steps_more [] side h f = (f, tt)
steps_more (first ∷ before) side h f = (h.0, steps_more before side h.1 f)

put_steps : (r : Option TicketParts × ListState) → (cmd : _) (o : OutboxState) (s : InitiatorState) → AreSteps o.sides → AreSteps (put_as r cmd o s).0.sides
put_steps (None, lists) cmd o s h = h
put_steps (Some t, lists) cmd o s h = steps_more o.sides _ h tt

low_steps : (r : Option TicketParts × ListState) (o : OutboxState) (s : InitiatorState) → AreSteps o.sides → AreSteps (low_as r o s).0.sides
low_steps (None, lists) o s h = h
low_steps (Some t, lists) o s h = steps_more o.sides (sides.Own (notes.Low s.number t.list t.number)) h tt

link_steps : (r : Option TicketParts × ListState) (o : OutboxState) (s : InitiatorState) → AreSteps o.sides → AreSteps (link_as r o s).0.sides
link_steps (None, lists) o s h = h
link_steps (Some t, lists) o s h = steps_more o.sides (sides.Own (notes.Linked s.number t.list t.number)) h tt

ring_steps : (list : Option PresentList) (o : OutboxState) (s : InitiatorState) → AreSteps o.sides → AreSteps (ring_for list o s).0.sides
ring_steps None o s h = h
ring_steps (Some list) o s h = steps_more o.sides _ h tt

done_steps : (action : Action) (s : InitiatorState) → rings action ≡ true → AreSteps (done_step action empty_outbox s).0.sides
unfolding done_step
done_steps (actions.Append cmd) s e =
    let a = put_step cmd empty_outbox s in
    let b = low_step a.0 a.1 in
    let c = link_step b.0 b.1 in
    ring_steps c.1.lists.slots.present c.0 c.1
    (link_steps (high_lists b.1.lists) b.0 b.1 (low_steps (low_lists a.1.lists) a.0 a.1 (put_steps (put_lists s.lists cmd s.layer.node (login_id s)) cmd empty_outbox s tt)))
done_steps actions.Ring s e = ring_steps s.lists.slots.present empty_outbox s tt
done_steps _ s e = untrue e

module _ (action : Action) (s : InitiatorState) (m : rings action ≡ true) where
  asked_steps : (r : Option Asked × Layer Purpose) → AreSteps (asked_as r action empty_outbox s).1.0.sides
  asked_steps (None, layer) = tt
  asked_steps (Some request, layer) = done_steps action (record s { layer = layer }) m

  demanded_steps : (demand : Option Demand) → AreSteps (demanded_as demand action empty_outbox s).1.0.sides
  demanded_steps None = done_steps action s m
  demanded_steps (Some demand) = asked_steps _

  judged_steps : (r : Option ℕ) → AreSteps (judged_as r action empty_outbox s).1.0.sides
  judged_steps (Some number) = tt
  judged_steps None = demanded_steps (demand_of action s)

  pub act_steps : AreSteps (act_step action empty_outbox s).1.0.sides
  unfolding act_step
  act_steps = judged_steps (refusal action (facts_with true s action))

begins_login : (b : Bool) (k : ℕ) (host : Host) → (cond b (list_begins k host) host).login ≡ host.login
begins_login true zero host = refl
begins_login true (suc k) host = refl
begins_login false k host = refl

pub steps_login : (told : List Side) (past : List Moment) (i : ℕ) → AreSteps told → (host_at (behind told past) i).login ≡ (host_at past i).login
steps_login [] past i h = refl
steps_login (sides.Own (notes.Append j n k cdb buffer) ∷ later) past i h = steps_login later (said (notes.Append j n k cdb buffer) ∷ past) i h.1 ∙ begins_login (nat_eq j i) k (host_at past i)
steps_login (sides.Own (notes.Low j n k) ∷ later) past i h = steps_login later (said (notes.Low j n k) ∷ past) i h.1
steps_login (sides.Own (notes.Linked j n k) ∷ later) past i h = steps_login later (said (notes.Linked j n k) ∷ past) i h.1
steps_login (sides.Own (notes.Rung j n k) ∷ later) past i h = steps_login later (said (notes.Rung j n k) ∷ past) i h.1
steps_login (_ ∷ later) past i h = absurd h.0

-- ---- what a ring asks for
pub ring_asks : (action : Action) (s : InitiatorState) → rings action ≡ true → demand_of action s ≡ Some (ring_demand s)
ring_asks (actions.Append cmd) s e = refl
ring_asks actions.Ring s e = refl
ring_asks _ s e = untrue e

abbrev wants_of : Demand → Option Access
wants_of demand = access_of (request_with (header_to 0 0 0) (wanted_body demand.wanted))

abbrev pointing_demand : InitiatorState → Demand
pointing_demand s = record {
  wanted = wants.Point (register_of s 0x08) (start (windows.Orb (first_in s.lists.slots.present s)));
  purpose = purposes.Pointer (list_number s.lists.slots.present s.lists.slots.lists);
}

abbrev bell_demand : InitiatorState → Demand
bell_demand s = record { wanted = wants.Write (register_of s 0x10) s.counts.running; purpose = purposes.Doorbell }

offset_by : (b : Bool) (access : Access) (s : InitiatorState) → wants_of (cond b (pointing_demand s) (bell_demand s)) ≡ Some access → access.is_block ≡ true → access.offset ≡ register_of s 0x08
offset_by true access s e block = ap (λ (a : Access). a.offset) (sym (same_some _ access e))
offset_by false access s e block = untrue (ap (λ (a : Access). a.is_block) (same_some _ access e) ∙ block)

offset_there : (access : Access) (demand : Demand) (s : InitiatorState) → ring_demand s ≡ demand → wants_of demand ≡ Some access → access.is_block ≡ true → access.offset ≡ register_of s 0x08
offset_there access demand s e f block = offset_by (is_unwritten s.marks.pointing) access s (ap wants_of e ∙ f) block

-- the agent of a session is that of its response, or none
agent_of : (seat : Seat) (login : LoginResponse) → ((response : LoginResponse) → carried seat ≡ Some response → login ≡ response) → ((response_in seat).agent ≡ login.agent) ⊎ ((response_in seat).agent ≡ 0)
agent_of (seats.Live live) login h = inl (ap (λ (r : LoginResponse). r.agent) (sym (h live.response refl)))
agent_of (seats.Held response) login h = inl (ap (λ (r : LoginResponse). r.agent) (sym (h response refl)))
agent_of (seats.Returning response) login h = inl (ap (λ (r : LoginResponse). r.agent) (sym (h response refl)))
agent_of (seats.Leaving response) login h = inl (ap (λ (r : LoginResponse). r.agent) (sym (h response refl)))
agent_of (seats.Out out) login h = inr refl
agent_of (seats.Entering entering) login h = inr refl
agent_of (seats.Stuck origin) login h = inr refl

at_either : (offset agent login : ℕ) → offset ≡ behind_by agent 0x08 → (agent ≡ login) ⊎ (agent ≡ 0) → (offset ≡ behind_by login 0x08) ⊎ (offset ≡ behind_by 0 0x08)
at_either offset agent login e (inl f) = inl (e ∙ ap (λ a. behind_by a 0x08) f)
at_either offset agent login e (inr f) = inr (e ∙ ap (λ a. behind_by a 0x08) f)

-- of the line
ring_written : (action other : Action) (past : List Moment) (i : ℕ) (s : InitiatorState) → Spells past i s → ((response : LoginResponse) → carried s.seat ≡ Some response → (host_at past i).login ≡ response) → event_of past ≡ Some (events.Act i action) → (done : (act_step action empty_outbox s).0 ≡ None) (packet : Outgoing) → (act_step action empty_outbox s).1.0.packets ≡ packet ∷ [] → event_of (behind (act_step action empty_outbox s).1.0.sides past) ≡ Some (events.Act i other) → rings other ≡ true → IsAtLogin (behind (act_step action empty_outbox s).1.0.sides past) i packet.bytes
ring_written action other past i s known login under done packet one line m =
    let told = (act_step action empty_outbox s).1.0.sides in
    let same = same_action i other action (sym line ∙ (tame_told told past i (act_left action s done).told).line ∙ under) in
    let own : rings action ≡ true = ap rings (sym same) ∙ m in
    let has = act_bytes action s packet done one in
    let demand : ring_demand s ≡ has.demand = same_some (ring_demand s) has.demand (sym (ring_asks action s own) ∙ has.is) in
    record {
      at = λ access e write block.
          let wanted = sym (known.spelled action has.demand has.asked has.is has.found) ∙ (ap access_in_bytes (sym has.bytes) ∙ e) in
          at_either access.offset (response_in s.seat).agent (host_at (behind told past) i).login.agent (offset_there access has.demand s demand wanted block)
          (agent_of s.seat (host_at (behind told past) i).login (λ response f. steps_login told past i (act_steps action s own) ∙ login response f));
    }

-- ---- what is carried on

pub record Ringed (ready : Bool) (past : List Moment) (i : ℕ) (s : InitiatorState) : Type 0 where
  pub held : Held ready past i s
  pub kept : GotBlocks past i → EachMoment (RingsAt i) past

apart_at : (note : Note) (past : List Moment) (i : ℕ) → is_apart i note ≡ true → RingsAt i (said note) past
apart_at (notes.Sent serial generation from to bytes) past i e = λ f injected action line m. other_node from i (not_so (nat_eq from (suc i)) e) f
apart_at note past i e = tt

judged_at : (serial : ℕ) (j : Judged) (past : List Moment) (i : ℕ) → RingsAt i (said (judged_note serial j)) past
judged_at serial judgements.Got past i = tt
judged_at serial (judgements.Ignored cause) past i = tt

tame_at : (note : Note) (past : List Moment) (i : ℕ) → is_tame note ≡ true → RingsAt i (said note) past
tame_at (notes.Sent serial generation from to bytes) past i e = untrue e
tame_at note past i e = tt

told_kept : (told : List Side) (past : List Moment) (i : ℕ) → AreTame told → EachMoment (RingsAt i) past → EachMoment (RingsAt i) (behind told past)
told_kept [] past i tame h = h
told_kept (sides.Own note ∷ later) past i tame h = told_kept later (said note ∷ past) i tame.1 (tame_at note past i tame.0, h)
told_kept (_ ∷ later) past i tame h = absurd tame.0

pub ringed_carried : (ready : Bool) → Carries Spells (Ringed ready)
ringed_carried ready = record {
  known = λ line event past i s r. record { spelled = r.spelled };
  number = λ past i s h. h.held.cored.own.number;
  asked = λ line event past i s h. record { held = (held_carried ready).asked line event past i s h.held; kept = λ g. (tt, h.kept g) };
  apart = λ note past i s e w h. record { held = (held_carried ready).apart note past i s e w h.held; kept = λ g. (apart_at note past i e, h.kept (peel note past i g)) };
  sent = λ serial generation from to bytes past i s n h. record {
    held = (held_carried ready).sent serial generation from to bytes past i s n h.held;
    kept = λ g. ((λ f injected action line m. no_action i past action n line), h.kept g);
  };
  hears = λ serial generation bytes past i s heard shown after h.
      let tells = (held_carried ready).hears serial generation bytes past i s heard shown after h.held in
      let left = receive_left generation bytes s in
      let r = receive_step generation bytes empty_outbox s in
      let note = judged_note serial r.0 in
      let now = said note ∷ past in
      record {
        own = record { held = tells.own; kept = λ g. told_kept r.1.0.sides now i left.told (judged_at serial r.0 past i, h.kept (peel note past i (behind_blocks r.1.0.sides now i left.told g))) };
        others = λ j x e g. record { held = tells.others j x e g.held; kept = λ b. told_kept r.1.0.sides now j left.told (g.kept (behind_blocks r.1.0.sides now j left.told b)) };
      };
  expires = λ serial label past i s after h.
      let tells = (held_carried ready).expires serial label past i s after h.held in
      let left = expire_left label s in
      let t : Turn = (expire_step label empty_outbox s).1 in
      let now = said (notes.TimedOut serial) ∷ past in
      record {
        own = record { held = tells.own; kept = λ g. told_kept t.0.sides now i left.told (tt, h.kept (behind_blocks t.0.sides now i left.told g)) };
        others = λ j x e g. record { held = tells.others j x e g.held; kept = λ b. told_kept t.0.sides now j left.told (g.kept (behind_blocks t.0.sides now j left.told b)) };
      };
  stale = λ label past i s e h. subst (λ (x : InitiatorState). Ringed ready past i x) (sym (stale_is ready label s e)) h;
  sees = λ generation id target past i s flag h.
      let tells = (held_carried ready).sees generation id target past i s flag h.held in
      let left = see_left generation id target s in
      let t : Turn = see_step generation id target empty_outbox s in
      let now = said (notes.Seen (suc i) generation) ∷ past in
      record {
        own = record { held = tells.own; kept = λ g. told_kept t.0.sides now i left.told (tt, h.kept (behind_blocks t.0.sides now i left.told g)) };
        others = λ j x e g. record { held = tells.others j x e g.held; kept = λ b. told_kept t.0.sides now j left.told (g.kept (behind_blocks t.0.sides now j left.told b)) };
      };
  acts = λ action past i s under fit done shown known h.
      let does = (held_carried ready).acts action past i s under fit done shown tt h.held in
      let left = act_left action s done in
      let t : Turn = (act_step action empty_outbox s).1 in
      let tame = left.told in
      record {
        others = λ j x e g. record { held = does.others j x e g.held; kept = λ b. told_kept t.0.sides past j tame (g.kept (behind_blocks t.0.sides past j tame b)) };
        quiet = λ none. record { held = does.quiet none; kept = λ g. told_kept t.0.sides past i tame (h.kept (behind_blocks t.0.sides past i tame g)) };
        asking = λ packet one serial generation injected q. record {
          held = does.asking packet one serial generation injected q;
          kept = λ g.
              let blocks = behind_blocks t.0.sides past i tame g in (
                (λ f honest other line m. ring_written action other past i s known (h.held.own blocks).login under done packet one line m),
                told_kept t.0.sides past i tame (h.kept blocks),
              );
        };
      };
}

first_ringed : (line i initiators : ℕ) (ready : Bool) → i < initiators → Ringed ready (said (notes.Begin initiators ready) ∷ asked line (events.Begin initiators ready) ∷ []) i (new_state i ready)
first_ringed line i initiators ready b = record { held = first_held line i initiators ready b; kept = λ g. (tt, (tt, tt)) }

pub rings_law : RingsLaw
rings_law = record {
  after_lines = λ line run r i b.
      (of_runs (Ringed run.ready) (ringed_carried run.ready) line run (spells_known line run) (λ j c. first_ringed line j run.initiators run.ready c) r i b).kept ((blocks_law.after_lines line run r).got i);
  between = λ line run r next most told m i b.
      (between_runs (Ringed run.ready) (ringed_carried run.ready) line run (spells_known line run) (λ j c. first_ringed line j run.initiators run.ready c) r next most told m i b).kept ((blocks_law.between line run r next most told m).got i);
}
