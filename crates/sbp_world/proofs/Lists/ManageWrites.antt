-- In each line whose action begins an operation of management, what its initiator sends is the write of the address of its management ORB, which stands in the next place.
use Rattle.sbp_world.proofs.Words.Std.{unwrap_or, arith, ◌≡◌, refl, sym, ◌∙◌, ap, subst, ℕ, suc, ◌+◌, ◌%◌, nat_eq, Bool, true, false, List, [], ◌∷◌, ◌++◌, Option, Some, None, nat_tests}
use Rattle.sbp_world.proofs.Words.Wire.{Asked, header_to, request_with, Layer, judged_note, access_of, empty_outbox, Moment, said, terms, Judged, Action, Note, Outgoing, Side}
use Rattle.sbp_world.proofs.Words.Initiator.{Demand, Purpose, InitiatorState, act_step, asked_as, asked_for, demand_of, demanded_as, done_step, facts_with, judged_as, manage_demand, Turn, expire_step, receive_step, refusal, see_step, wanted_body}
use Rattle.sbp_world.proofs.Words.Laws.{host_at, operation_of, access_in_bytes, EachMoment, event_of}
use Rattle.sbp_world.proofs.Words.World.{Run, after, beginning, initiator_at, behind, Core, managed_write, manages}
use Rattle.bus_transactions.proofs.Fits.{request_fits}
use Rattle.sbp_journal.specs.declared.cause.Judged.TheVariants as judgements
use Rattle.sbp_journal.specs.declared.event.Action.TheVariants as actions
use Rattle.sbp_journal.specs.declared.event.Event.TheVariants as events
use Rattle.sbp_journal.specs.declared.note.Note.TheVariants as notes
use Rattle.sbp_journal.specs.declared.side.Side.TheVariants as sides
use Rattle.sbp_world.proofs.FitInitiator.Acts.{IfDemand, demand_fits}
use Rattle.sbp_world.proofs.FitInitiator.Law.{fitting_law as own_fitting_law}
use Rattle.sbp_world.proofs.FitTarget.Law.{fitting_law}
use Rattle.sbp_world.proofs.Wire.Holding.{TargetOf, target_small}
use Rattle.sbp_world.proofs.Wire.Runs.{sound_after}
use Rattle.sbp_world.proofs.Hosts.ActLeft.{act_left}
use Rattle.sbp_world.proofs.Hosts.Carried.{Knows}
use Rattle.sbp_world.proofs.Hosts.Carries.{Carries, IsNoAct, is_apart}
use Rattle.sbp_world.proofs.Hosts.Hosted.{Cored, cored_carried}
use Rattle.sbp_world.proofs.Hosts.Layered.{AreTame, expire_left, is_tame, receive_left}
use Rattle.sbp_world.proofs.Hosts.Pointed.{stale_is}
use Rattle.sbp_world.proofs.Hosts.PointerNotes.{tame_told}
use Rattle.sbp_world.proofs.Hosts.PointSees.{see_left}
use Rattle.sbp_world.proofs.Hosts.Requested.{done_sends}
use Rattle.sbp_world.proofs.Lists.ManageSpelled.{spelled_by}
use Rattle.sbp_world.proofs.Lists.ManageTerms.{none_is, same_some}
use Rattle.sbp_world.proofs.Pointers.Asks.{no_packet}
use Rattle.sbp_world.proofs.Common.{untrue}
use Rattle.sbp_world.proofs.Hosts.Cores.{not_so}

-- the write of the address of the ORB in the next place
pub record HasPlace (past : List Moment) (i : ℕ) (bytes : List ℕ) : Type 0 where
  pub offset : ℕ
  pub spelled : access_in_bytes bytes ≡ Some (managed_write offset ((host_at past i).writes % 2))

abbrev pub WroteAt : ℕ → Moment → List Moment → Type 0
WroteAt i (said (notes.Sent serial generation from to bytes)) past = from ≡ suc i → (terms past).injected serial ≡ false → (action : Action) → event_of past ≡ Some (events.Act i action) → manages (operation_of action) ≡ true → HasPlace past i bytes
WroteAt i moment past = Unit {0}

-- what an action asks for is spelled in the bytes of its request
pub record Spells (past : List Moment) (i : ℕ) (s : InitiatorState) : Type 0 where
  pub spelled : (action : Action) (demand : Demand) (asked : Asked) → demand_of action s ≡ Some demand → (asked_for demand s).0 ≡ Some asked → access_in_bytes asked.bytes ≡ access_of (request_with (header_to 0 0 0) (wanted_body demand.wanted))

pub spells_known : (line : ℕ) (run : Run) → Knows Spells line run
spells_known line run entries few short all fit i b =
    let sound = sound_after fitting_law own_fitting_law line run entries few short all fit in
    let w = (after (beginning run) entries).world in
    let s = initiator_at w i in
    let h = sound.sound.nodes.own.holds i b in
    record {
      spelled = λ action demand asked e f.
          let fits : IfDemand (Some demand) = subst IfDemand e (demand_fits (TargetOf w.generations.seen i) s.counts.acts (s.counts.acts + 1) s h.fits (omega arith) action) in
          let peer = target_small w.generations.seen i s.target h.fits.target_known in
          spelled_by s.layer s.target (wanted_body demand.wanted) demand.purpose h.layer (request_fits s.layer.node s.target (wanted_body demand.wanted) h.layer.small peer fits) asked f;
    }

-- ---- the request of an action

pub record HasBytes (action : Action) (s : InitiatorState) (packet : Outgoing) : Type 0 where
  pub demand : Demand
  pub is : demand_of action s ≡ Some demand
  pub asked : Asked
  pub found : (asked_for demand s).0 ≡ Some asked
  pub bytes : packet.bytes ≡ asked.bytes

same_packet : (a b : Outgoing) → a ∷ [] ≡ b ∷ [] → a ≡ b
same_packet a b e = cc

module _ (action : Action) (s : InitiatorState) (packet : Outgoing) where
  asked_bytes : (demand : Demand) → demand_of action s ≡ Some demand → (r : Option Asked × Layer Purpose) → asked_for demand s ≡ r → (asked_as r action empty_outbox s).0 ≡ None → (asked_as r action empty_outbox s).1.0.packets ≡ packet ∷ [] → HasBytes action s packet
  asked_bytes demand d (None, layer) step e f = none_is 10 (sym e)
  asked_bytes demand d (Some asked, layer) step e f =
      let u = record s { layer = layer } in
      let own : Outgoing = record { to = s.target; label = Some asked.label; bytes = asked.bytes } in
      let sent : (done_step action empty_outbox u).0.packets ++ own ∷ [] ≡ own ∷ [] = ap (λ ps. ps ++ own ∷ []) (done_sends action empty_outbox u) in
      let same : own ≡ packet = same_packet own packet (sym sent ∙ f) in
      record { demand = demand; is = d; asked = asked; found = ap (λ (x : Option Asked × Layer Purpose). x.0) step; bytes = ap (λ (p : Outgoing). p.bytes) (sym same) }

  demanded_bytes : (demand : Option Demand) → demand_of action s ≡ demand → (demanded_as demand action empty_outbox s).0 ≡ None → (demanded_as demand action empty_outbox s).1.0.packets ≡ packet ∷ [] → HasBytes action s packet
  demanded_bytes None d e f = no_packet packet (sym (done_sends action empty_outbox s) ∙ f)
  demanded_bytes (Some demand) d e f = asked_bytes demand d (asked_for demand s) refl e f

  judged_bytes : (r : Option ℕ) → (judged_as r action empty_outbox s).0 ≡ None → (judged_as r action empty_outbox s).1.0.packets ≡ packet ∷ [] → HasBytes action s packet
  judged_bytes (Some number) e f = none_is number (sym e)
  judged_bytes None e f = demanded_bytes (demand_of action s) refl e f

  pub act_bytes : (act_step action empty_outbox s).0 ≡ None → (act_step action empty_outbox s).1.0.packets ≡ packet ∷ [] → HasBytes action s packet
  unfolding act_step
  act_bytes e f = judged_bytes (refusal action (facts_with true s action)) e f

-- one that begins an operation of management asks for the write, and tells nothing
pub manage_asks : (action : Action) (s : InitiatorState) → manages (operation_of action) ≡ true → demand_of action s ≡ Some (manage_demand s)
manage_asks (actions.Login unit reconnect exclusive password) s e = refl
manage_asks (actions.Query unit) s e = refl
manage_asks actions.Reconnect s e = refl
manage_asks actions.Logout s e = refl
manage_asks (actions.Abort orb) s e = refl
manage_asks actions.AbortSet s e = refl
manage_asks actions.UnitReset s e = refl
manage_asks actions.TargetReset s e = refl
manage_asks _ s e = untrue e

manage_tells : (action : Action) (s : InitiatorState) → manages (operation_of action) ≡ true → (done_step action empty_outbox s).0.sides ≡ []
unfolding done_step
manage_tells (actions.Login unit reconnect exclusive password) s e = refl
manage_tells (actions.Query unit) s e = refl
manage_tells actions.Reconnect s e = refl
manage_tells actions.Logout s e = refl
manage_tells (actions.Abort orb) s e = refl
manage_tells actions.AbortSet s e = refl
manage_tells actions.UnitReset s e = refl
manage_tells actions.TargetReset s e = refl
manage_tells _ s e = untrue e

module _ (action : Action) (s : InitiatorState) (m : manages (operation_of action) ≡ true) where
  asked_tells : (r : Option Asked × Layer Purpose) → (asked_as r action empty_outbox s).1.0.sides ≡ []
  asked_tells (None, layer) = refl
  asked_tells (Some asked, layer) = manage_tells action (record s { layer = layer }) m

  demanded_tells : (demand : Option Demand) → (demanded_as demand action empty_outbox s).1.0.sides ≡ []
  demanded_tells None = manage_tells action s m
  demanded_tells (Some demand) = asked_tells (asked_for demand s)

  judged_tells : (r : Option ℕ) → (judged_as r action empty_outbox s).1.0.sides ≡ []
  judged_tells (Some number) = refl
  judged_tells None = demanded_tells (demand_of action s)

  pub act_tells : (act_step action empty_outbox s).1.0.sides ≡ []
  unfolding act_step
  act_tells = judged_tells (refusal action (facts_with true s action))

-- ---- what is carried on

pub record Wrote (ready : Bool) (past : List Moment) (i : ℕ) (s : InitiatorState) : Type 0 where
  pub cored : Cored ready past i s
  pub kept : EachMoment (WroteAt i) past

pub other_node : {A : Type 0} (from i : ℕ) → nat_eq from (suc i) ≡ false → from ≡ suc i → A
other_node from i e f = let x : nat_eq from (suc i) ≡ true = grind (arith, nat_tests) in untrue (sym e ∙ x)

apart_kept : (note : Note) (past : List Moment) (i : ℕ) → is_apart i note ≡ true → EachMoment (WroteAt i) past → EachMoment (WroteAt i) (said note ∷ past)
apart_kept (notes.Sent serial generation from to bytes) past i e h = (λ f injected action line m. other_node from i (not_so (nat_eq from (suc i)) e) f, h)
apart_kept note past i e h = (tt, h)

judged_kept : (serial : ℕ) (j : Judged) (past : List Moment) (i : ℕ) → EachMoment (WroteAt i) past → EachMoment (WroteAt i) (said (judged_note serial j) ∷ past)
judged_kept serial judgements.Got past i h = (tt, h)
judged_kept serial (judgements.Ignored cause) past i h = (tt, h)

tame_kept : (note : Note) (past : List Moment) (i : ℕ) → is_tame note ≡ true → EachMoment (WroteAt i) past → EachMoment (WroteAt i) (said note ∷ past)
tame_kept (notes.Sent serial generation from to bytes) past i e h = untrue e
tame_kept note past i e h = (tt, h)

told_kept : (told : List Side) (past : List Moment) (i : ℕ) → AreTame told → EachMoment (WroteAt i) past → EachMoment (WroteAt i) (behind told past)
told_kept [] past i tame h = h
told_kept (sides.Own note ∷ later) past i tame h = told_kept later (said note ∷ past) i tame.1 (tame_kept note past i tame.0 h)
told_kept (_ ∷ later) past i tame h = absurd tame.0

pub no_action : {A : Type 0} (i : ℕ) (past : List Moment) (action : Action) → IsNoAct i (event_of past) → event_of past ≡ Some (events.Act i action) → A
no_action i past action n e = let m = subst (IsNoAct i) e n in untrue (sym m ∙ (let x : nat_eq i i ≡ true = grind (arith, nat_tests) in x))

pub same_action : (i : ℕ) (a b : Action) → Some (events.Act i a) ≡ Some (events.Act i b) → a ≡ b
same_action i a b e = cc

module _ (action : Action) (past : List Moment) (i : ℕ) (s : InitiatorState) (known : Spells past i s) (writes : (host_at past i).writes ≡ s.counts.managed) (done : (act_step action empty_outbox s).0 ≡ None) (packet : Outgoing) (one : (act_step action empty_outbox s).1.0.packets ≡ packet ∷ []) (m : manages (operation_of action) ≡ true) where
  place_written : HasPlace past i packet.bytes
  place_written =
      let has = act_bytes action s packet done one in
      let demand : manage_demand s ≡ has.demand = same_some (manage_demand s) has.demand (sym (manage_asks action s m) ∙ has.is) in
      record {
        offset = unwrap_or s.management 0;
        spelled = ap access_in_bytes has.bytes
            ∙ known.spelled action has.demand has.asked has.is has.found
            ∙ ap (λ (d : Demand). access_of (request_with (header_to 0 0 0) (wanted_body d.wanted))) (sym demand)
            ∙ ap (λ n. Some (managed_write (unwrap_or s.management 0) (n % 2))) (sym writes);
      }

-- of the line
acted_place : (action other : Action) (past : List Moment) (i : ℕ) (s : InitiatorState) → Spells past i s → (host_at past i).writes ≡ s.counts.managed → event_of past ≡ Some (events.Act i action) → (done : (act_step action empty_outbox s).0 ≡ None) (packet : Outgoing) → (act_step action empty_outbox s).1.0.packets ≡ packet ∷ [] → event_of (behind (act_step action empty_outbox s).1.0.sides past) ≡ Some (events.Act i other) → manages (operation_of other) ≡ true → HasPlace (behind (act_step action empty_outbox s).1.0.sides past) i packet.bytes
acted_place action other past i s known writes under done packet one line m =
    let left = act_left action s done in
    let told = tame_told (act_step action empty_outbox s).1.0.sides past i left.told in
    let same = same_action i other action (sym line ∙ told.line ∙ under) in
    let own : manages (operation_of action) ≡ true = ap (λ x. manages (operation_of x)) (sym same) ∙ m in
    subst (λ (told : List Side). HasPlace (behind told past) i packet.bytes) (sym (act_tells action s own)) (place_written action past i s known writes done packet one own)

pub wrote_carried : (ready : Bool) → Carries Spells (Wrote ready)
wrote_carried ready = record {
  known = λ line event past i s r. record { spelled = r.spelled };
  number = λ past i s h. h.cored.own.number;
  asked = λ line event past i s h. record { cored = (cored_carried ready).asked line event past i s h.cored; kept = (tt, h.kept) };
  apart = λ note past i s e w h. record { cored = (cored_carried ready).apart note past i s e w h.cored; kept = apart_kept note past i e h.kept };
  sent = λ serial generation from to bytes past i s n h. record {
    cored = (cored_carried ready).sent serial generation from to bytes past i s n h.cored;
    kept = (λ f injected action line m. no_action i past action n line, h.kept);
  };
  hears = λ serial generation bytes past i s heard shown after h.
      let tells = (cored_carried ready).hears serial generation bytes past i s heard shown after h.cored in
      let left = receive_left generation bytes s in
      let r = receive_step generation bytes empty_outbox s in
      let now = said (judged_note serial r.0) ∷ past in
      record {
        own = record { cored = tells.own; kept = told_kept r.1.0.sides now i left.told (judged_kept serial r.0 past i h.kept) };
        others = λ j x e g. record { cored = tells.others j x e g.cored; kept = told_kept r.1.0.sides now j left.told g.kept };
      };
  expires = λ serial label past i s after h.
      let tells = (cored_carried ready).expires serial label past i s after h.cored in
      let left = expire_left label s in
      let t : Turn = (expire_step label empty_outbox s).1 in
      let now = said (notes.TimedOut serial) ∷ past in
      record {
        own = record { cored = tells.own; kept = told_kept t.0.sides now i left.told (tt, h.kept) };
        others = λ j x e g. record { cored = tells.others j x e g.cored; kept = told_kept t.0.sides now j left.told g.kept };
      };
  stale = λ label past i s e h. subst (λ (x : InitiatorState). Wrote ready past i x) (sym (stale_is ready label s e)) h;
  sees = λ generation id target past i s flag h.
      let tells = (cored_carried ready).sees generation id target past i s flag h.cored in
      let left = see_left generation id target s in
      let t : Turn = see_step generation id target empty_outbox s in
      let now = said (notes.Seen (suc i) generation) ∷ past in
      record {
        own = record { cored = tells.own; kept = told_kept t.0.sides now i left.told (tt, h.kept) };
        others = λ j x e g. record { cored = tells.others j x e g.cored; kept = told_kept t.0.sides now j left.told g.kept };
      };
  acts = λ action past i s under fit done shown known h.
      let does = (cored_carried ready).acts action past i s under fit done shown tt h.cored in
      let left = act_left action s done in
      let t : Turn = (act_step action empty_outbox s).1 in
      let ms = behind t.0.sides past in
      let writes = ap (λ (c : Core). c.writes) h.cored.core in
      record {
        others = λ j x e g. record { cored = does.others j x e g.cored; kept = told_kept t.0.sides past j left.told g.kept };
        quiet = λ none. record { cored = does.quiet none; kept = told_kept t.0.sides past i left.told h.kept };
        asking = λ packet one serial generation injected q. record {
          cored = does.asking packet one serial generation injected q;
          kept = (
            λ f honest other line m.
                acted_place action other past i s known writes under done packet one line m,
            told_kept t.0.sides past i left.told h.kept,
          );
        };
      };
}
