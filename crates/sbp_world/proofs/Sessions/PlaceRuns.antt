-- In every run the places of management of an initiator hold the ORBs of its operations.
use Rattle.sbp_world.proofs.Words.Std.{◌≡◌, ◌∙◌, refl, sym, ap, subst, ℕ, suc, ◌<◌, Bool, true, false, List, [], ◌∷◌, ◌++◌, Option, Some, None, ◌-◌, drop, take}
use Rattle.sbp_world.proofs.Words.Wire.{LabelParts, Asked, Layer, judged_note, OutboxState, empty_outbox, Moment, asks, said, Judged, Action, Note, Outgoing, Side}
use Rattle.sbp_world.proofs.Words.Initiator.{place_at, IfShare, start, Call, IsCall, acts, after_calls, done, lets_expire, receives, sees, held_after, held_by, held_if, with_orb, orb_in, ManagementOrb, act_step, asked_as, asked_for, demand_of, demanded_as, facts_with, judged_as, Demand, Purpose, InitiatorState, Turn, new_state, expire_step, receive_step, operation_of, refusal, see_step, place_of}
use Rattle.sbp_world.proofs.Words.Laws.{is_own, place_bytes, place_held, window_gives, event_of}
use Rattle.sbp_world.proofs.Words.World.{IsCalled, behind, Core, AreRows, history_of, GotBlocks, ArePlaces, HoldsPlaces, PlacedLaw}
use Rattle.bus_memory.specs.declared.window.Window.TheVariants as windows
use Rattle.bus_memory.proofs.Found.{window_share}
use Rattle.sbp_world.proofs.Hosts.MemoryRcodes.{read_bytes}
use Rattle.sbp_world.proofs.Hosts.ActLeft.{act_left}
use Rattle.sbp_world.proofs.Hosts.Alone.{call_same}
use Rattle.sbp_world.proofs.Hosts.Carried.{between_runs, of_runs}
use Rattle.sbp_world.proofs.Hosts.Carries.{Carries, Does, IsLineOf, Tells}
use Rattle.sbp_world.proofs.Hosts.Layered.{AreTame, expire_left, receive_left}
use Rattle.sbp_world.proofs.Hosts.OrbRuns.{Rowed, goes, orbs_carried, rows_known}
use Rattle.sbp_world.proofs.Hosts.PointSees.{see_left}
use Rattle.sbp_world.proofs.Hosts.PointerNotes.{tame_told}
use Rattle.sbp_world.proofs.Hosts.Telling.{action_law}
use Rattle.sbp_world.proofs.Hosts.Shown.{IsShown}
use Rattle.sbp_initiator.proofs.Histories.Served.{reads_law}
use Rattle.sbp_journal.specs.declared.cause.Judged.TheVariants as judgements
use Rattle.sbp_journal.specs.declared.event.Action.TheVariants as actions
use Rattle.sbp_journal.specs.declared.event.Event.TheVariants as events
use Rattle.sbp_journal.specs.declared.note.Note.TheVariants as notes
use Rattle.sbp_laws.specs.Hosts as hosts
use Rattle.sbp_world.proofs.Sessions.BlockRuns.{blocks_law}
use Rattle.sbp_world.proofs.Sessions.HoldingRuns.{Held, behind_blocks, first_held, held_carried, peel}
use Rattle.sbp_world.proofs.Sessions.PlaceNotes.{Hosted, acted_places, apart_places, is_packet, note_places, own_places, sent_places, silent_told, told_places, written_same}

abbrev pub orb_of : InitiatorState → ℕ → List ℕ
orb_of s m = (place_at s.lists.memory m).orb

-- ---- what the calls of an initiator leave in its places

module _ (ready : Bool) (i : ℕ) (s : InitiatorState) (h : IsCalled ready i s) where
  abbrev t : Turn
  t = after_calls i ready h.calls

  abbrev held : ℕ → List ℕ
  held = held_after i ready h.calls

  held_now : (m : ℕ) → orb_of s m ≡ held m
  held_now m = ap (λ (x : InitiatorState). orb_of x m) (sym h.is) ∙ (reads_law.reads i ready h.calls h.fit).place m

  call_held : (call : Call) → IsCall call → (m : ℕ) → orb_of (done call (empty_outbox, s)).1 m ≡ held_by call t held m
  call_held call fit m =
      ap (λ (x : InitiatorState). orb_of x m) (sym (call_same call t.0 empty_outbox t.1 ∙ ap (λ (x : InitiatorState). (done call (empty_outbox, x)).1) h.is))
      ∙ (reads_law.reads i ready (call ∷ h.calls) (fit, h.fit)).place m

  hears_same : (generation : ℕ) (bytes : List ℕ) (m : ℕ) → orb_of (receive_step generation bytes empty_outbox s).1.1 m ≡ orb_of s m
  hears_same generation bytes m = call_held (receives generation bytes) tt m ∙ sym (held_now m)

  expires_same : (label : LabelParts) (m : ℕ) → orb_of (expire_step label empty_outbox s).1.1 m ≡ orb_of s m
  expires_same label m = call_held (lets_expire label) tt m ∙ sym (held_now m)

  sees_same : (generation id target : ℕ) (m : ℕ) → orb_of (see_step generation id target empty_outbox s).1 m ≡ orb_of s m
  sees_same generation id target m = call_held (sees generation id target) tt m ∙ sym (held_now m)

  -- an action that is done, whatever was told before
  module _ (action : Action) where
    asked_done : (o : OutboxState) (r : Option Asked × Layer Purpose) → (asked_as r action o s).0 ≡ (asked_as r action empty_outbox s).0
    asked_done o (None, layer) = refl
    asked_done o (Some label, layer) = refl

    demanded_done : (o : OutboxState) (demand : Option Demand) → (demanded_as demand action o s).0 ≡ (demanded_as demand action empty_outbox s).0
    demanded_done o None = refl
    demanded_done o (Some demand) = asked_done o (asked_for demand s)

    judged_done : (o : OutboxState) (refused : Option ℕ) → (judged_as refused action o s).0 ≡ (judged_as refused action empty_outbox s).0
    judged_done o (Some number) = refl
    judged_done o None = demanded_done o (demand_of action s)

    act_done : (o : OutboxState) → (act_step action o s).0 ≡ (act_step action empty_outbox s).0
    unfolding act_step
    act_done o = judged_done o (refusal action (facts_with true s action))

    pub acts_held : IsCall (acts action) → (act_step action empty_outbox s).0 ≡ None → (m : ℕ) → orb_of (act_step action empty_outbox s).1.1 m ≡ with_orb (orb_in (operation_of action) action s) (place_of s.counts.managed) held m
    acts_held fit e m =
        call_held (acts action) fit m
        ∙ ap (λ (x : InitiatorState). held_if (act_step action t.0 x).0 action x held m) h.is
        ∙ ap (λ (r : Option ℕ). held_if r action s held m) (act_done t.0 ∙ e)

-- ---- an action without a request has no management ORB

no_end : (xs : List Outgoing) (x : Outgoing) → xs ++ x ∷ [] ≡ [] → ⊥
no_end [] x e = cc
no_end (first ∷ xs) x e = cc

module _ (action : Action) (s : InitiatorState) where
  asked_silent : (r : Option Asked × Layer Purpose) → (asked_as r action empty_outbox s).0 ≡ None → (asked_as r action empty_outbox s).1.0.packets ≡ [] → ⊥
  asked_silent (None, layer) e p = absurd (let no : Some 10 ≡ None = e in cc)
  asked_silent (Some asked, layer) e p = no_end _ _ p

  demanded_silent : (demand : Option Demand) → (demanded_as demand action empty_outbox s).0 ≡ None → (demanded_as demand action empty_outbox s).1.0.packets ≡ [] → demand ≡ None
  demanded_silent None e p = refl
  demanded_silent (Some demand) e p = absurd (asked_silent (asked_for demand s) e p)

  judged_silent : (refused : Option ℕ) → (judged_as refused action empty_outbox s).0 ≡ None → (judged_as refused action empty_outbox s).1.0.packets ≡ [] → demand_of action s ≡ None
  judged_silent (Some number) e p = absurd (let no : Some number ≡ None = e in cc)
  judged_silent None e p = demanded_silent (demand_of action s) e p

  act_silent : (act_step action empty_outbox s).0 ≡ None → (act_step action empty_outbox s).1.0.packets ≡ [] → demand_of action s ≡ None
  unfolding act_step
  act_silent e p = judged_silent (refusal action (facts_with true s action)) e p

  none_orb : demand_of action s ≡ None → orb_in (operation_of action) action s ≡ None
  none_orb e = by action e
    where
      differs : {A : Type 0} (d : Demand) → Some d ≡ None → A
      differs d f = absurd (let no : Some d ≡ None = f in cc)

      by : (a : Action) → demand_of a s ≡ None → orb_in (operation_of a) a s ≡ None
      by (actions.Login unit reconnect exclusive password) f = differs _ f
      by (actions.Query unit) f = differs _ f
      by actions.Reconnect f = differs _ f
      by actions.Logout f = differs _ f
      by (actions.Abort orb) f = differs _ f
      by actions.AbortSet f = differs _ f
      by actions.UnitReset f = differs _ f
      by actions.TargetReset f = differs _ f
      by _ f = refl

-- ---- what the lines of a run carry on

pub record Placed (ready : Bool) (past : List Moment) (i : ℕ) (s : InitiatorState) : Type 0 where
  pub held : Held ready past i s
  pub places : GotBlocks past i → HoldsPlaces past i s

moved : (past now : List Moment) (i : ℕ) (s u : InitiatorState) → ((m : ℕ) → place_held now i m ≡ place_held past i m) → ((m : ℕ) → orb_of u m ≡ orb_of s m) → HoldsPlaces past i s → HoldsPlaces now i u
moved past now i s u e f h = λ m b. f m ∙ h m b ∙ ap place_bytes (sym (e m))

pub judged_packet : (serial : ℕ) (judged : Judged) → is_packet (judged_note serial judged) ≡ false
judged_packet serial judgements.Got = refl
judged_packet serial (judgements.Ignored cause) = refl

module _ (ready : Bool) where
  abbrev P : List Moment → ℕ → InitiatorState → Type 0
  P = Placed ready

  -- a call that leaves the places, behind its note
  tells_on : (past : List Moment) (note : Note) (i : ℕ) (s : InitiatorState) (t : Turn) → is_packet note ≡ false → AreTame t.0.sides → ((m : ℕ) → orb_of t.1 m ≡ orb_of s m) → P past i s → Tells (Held ready) (said note ∷ past) i t → Tells P (said note ∷ past) i t
  tells_on past note i s t e tame same h c =
      let now = said note ∷ past in
      record {
        own = record {
          held = c.own;
          places = λ g. moved past (behind t.0.sides now) i s t.1 (λ m. told_places t.0.sides now i m tame ∙ note_places note past i m e) same (h.places (peel note past i (behind_blocks t.0.sides now i tame g)));
        };
        others = λ j x f k. record {
          held = c.others j x f k.held;
          places = λ g. moved now (behind t.0.sides now) j x x (λ m. told_places t.0.sides now j m tame) (λ m. refl) (k.places (behind_blocks t.0.sides now j tame g));
        };
      }

  hosted : (past : List Moment) (i : ℕ) (s : InitiatorState) → Held ready past i s → Rowed past i s → GotBlocks past i → Hosted past i s
  hosted past i s h r g = record {
    logins = ap (λ (c : Core). c.logins) h.cored.core;
    writes = ap (λ (c : Core). c.writes) h.cored.core;
    login = (h.own g).login;
    rows = r.rows;
  }

  module _ (action : Action) (past : List Moment) (i : ℕ) (s : InitiatorState) (under : event_of past ≡ Some (events.Act i action)) (fit : IsLineOf action) (no_refusal : (act_step action empty_outbox s).0 ≡ None) (known : Rowed past i s) (h : P past i s) where
    abbrev turn : Turn
    turn = (act_step action empty_outbox s).1

    abbrev told : List Side
    told = turn.0.sides

    tame : AreTame told
    tame = (act_left action s no_refusal).told

    abbrev called : IsCalled ready i s
    called = h.held.cored.own.called

    quiet_places : turn.0.packets ≡ [] → GotBlocks (behind told past) i → HoldsPlaces (behind told past) i turn.1
    quiet_places none g =
        let no_orb = none_orb action s (act_silent action s no_refusal none) in
        moved past (behind told past) i s turn.1 (λ m. told_places told past i m tame)
        (λ m. acts_held ready i s called action fit.0 no_refusal m ∙ ap (λ (o : Option ManagementOrb). with_orb o (place_of s.counts.managed) (held_after i ready called.calls) m) no_orb ∙ sym (held_now ready i s called m))
        (h.places (behind_blocks told past i tame g))

    asking_places : (serial generation : ℕ) (bytes : List ℕ) → GotBlocks (behind told past) i → HoldsPlaces (said (notes.Sent serial generation (suc i) 0 bytes) ∷ behind told past) i turn.1
    asking_places serial generation bytes g m b =
        let blocks = behind_blocks told past i tame g in
        let line : event_of (behind told past) ≡ Some (events.Act i action) = (tame_told told past i tame).line ∙ under in
        let host = hosted past i s h.held known blocks in
        acts_held ready i s called action fit.0 no_refusal m
        ∙ acted_places action past i s host m (place_held past i m) (held_after i ready called.calls) (sym (held_now ready i s called m) ∙ h.places blocks m b) (goes action empty_outbox s no_refusal)
        ∙ ap place_bytes (written_same action past (behind told past) i m untold (told_places told past i m tame) ∙ sym (own_places serial generation 0 bytes action (behind told past) i m line))
      where
        untold : is_own i i (hosts.operation_of action) ≡ true → behind told past ≡ past
        untold e =
            ap (λ sides. behind sides past)
            (silent_told action past s.number i told (action_law.notes past s action empty_outbox (subst (λ j. AreRows past j s.lists.slots) (sym h.held.cored.own.number) known.rows) no_refusal) e)

  acts_placed : (action : Action) (past : List Moment) (i : ℕ) (s : InitiatorState) → event_of past ≡ Some (events.Act i action) → IsLineOf action → (act_step action empty_outbox s).0 ≡ None → IsShown past i s.target s.layer → Rowed past i s → P past i s → Does P past i (act_step action empty_outbox s).1
  acts_placed action past i s under fit done shown known h =
      let t = (act_step action empty_outbox s).1 in
      let c = (held_carried ready).acts action past i s under fit done shown tt h.held in
      let calm = tame action past i s under fit done known h in
      record {
        others = λ j x e k. record {
          held = c.others j x e k.held;
          places = λ g. moved past (behind t.0.sides past) j x x (λ m. told_places t.0.sides past j m calm) (λ m. refl) (k.places (behind_blocks t.0.sides past j calm g));
        };
        quiet = λ none. record { held = c.quiet none; places = quiet_places action past i s under fit done known h none };
        asking = λ packet one serial generation f q. record { held = c.asking packet one serial generation f q; places = λ g. asking_places action past i s under fit done known h serial generation packet.bytes g };
      }

  placed_carried : Carries Rowed (Placed ready)
  placed_carried = record {
    known = λ line event past i s r. (orbs_carried ready).known line event past i s r;
    number = λ past i s h. h.held.cored.own.number;
    asked = λ line event past i s h. record { held = (held_carried ready).asked line event past i s h.held; places = λ g. moved past (asks line event ∷ past) i s s (λ m. refl) (λ m. refl) (h.places g) };
    apart = λ note past i s e w h. record { held = (held_carried ready).apart note past i s e w h.held; places = λ g. moved past (said note ∷ past) i s s (λ m. apart_places note past i m e) (λ m. refl) (h.places (peel note past i g)) };
    sent = λ serial generation from to bytes past i s n h. record {
      held = (held_carried ready).sent serial generation from to bytes past i s n h.held;
      places = λ g. moved past (said (notes.Sent serial generation from to bytes) ∷ past) i s s (λ m. sent_places serial generation from to bytes past i m n) (λ m. refl) (h.places g);
    };
    hears = λ serial generation bytes past i s heard shown after h.
        tells_on past (judged_note serial (receive_step generation bytes empty_outbox s).0) i s (receive_step generation bytes empty_outbox s).1 (judged_packet serial (receive_step generation bytes empty_outbox s).0)
        (receive_left generation bytes s).told (hears_same ready i s h.held.cored.own.called generation bytes) h ((held_carried ready).hears serial generation bytes past i s heard shown after h.held);
    expires = λ serial label past i s shown h.
        tells_on past (notes.TimedOut serial) i s (expire_step label empty_outbox s).1 refl (expire_left label s).told (expires_same ready i s h.held.cored.own.called label) h ((held_carried ready).expires serial label past i s shown h.held);
    stale = λ label past i s e h. record {
      held = (held_carried ready).stale label past i s e h.held;
      places = λ g. moved past past i s (expire_step label empty_outbox s).1.1 (λ m. refl) (expires_same ready i s h.held.cored.own.called label) (h.places g);
    };
    sees = λ generation id target past i s e h.
        tells_on past (notes.Seen (suc i) generation) i s (see_step generation id target empty_outbox s) refl (see_left generation id target s).told (sees_same ready i s h.held.cored.own.called generation id target) h ((held_carried ready).sees generation id target past i s e h.held);
    acts = acts_placed;
  }

-- ---- the beginning, and every run

first_places : (line i initiators : ℕ) (ready : Bool) → HoldsPlaces (said (notes.Begin initiators ready) ∷ asks line (events.Begin initiators ready) ∷ []) i (new_state i ready)
first_places line i initiators ready m b = held_now ready i (new_state i ready) (record { calls = []; fit = tt; is = refl }) m

first_placed : (line i initiators : ℕ) (ready : Bool) → i < initiators → Placed ready (said (notes.Begin initiators ready) ∷ asks line (events.Begin initiators ready) ∷ []) i (new_state i ready)
first_placed line i initiators ready b = record { held = first_held line i initiators ready b; places = λ g. first_places line i initiators ready }

pub are_places : (past : List Moment) (i : ℕ) (s : InitiatorState) → HoldsPlaces past i s → ArePlaces past i s
are_places past i s h = record {
  holds = h;
  gives = λ access out place r e z.
      let two : place < 2 = (subst (IfShare access.offset) e (window_share access.offset)).0 in
      read_bytes past i 0 s.lists.memory access out r z (windows.Management place) e
      ∙ ap (λ xs. take access.count (drop (access.offset - start (windows.Management place)) xs)) (h place two)
      ∙ sym (ap (window_gives past i access) e);
}

pub placed_law : PlacedLaw
placed_law = record {
  after_lines = λ line run r i b.
      are_places (history_of line run) i _
      ((of_runs (Placed run.ready) (placed_carried run.ready) line run (rows_known line run) (λ j c. first_placed line j run.initiators run.ready c) r i b).places ((blocks_law.after_lines line run r).got i));
  between = λ line run r next most told m i b.
      are_places _ i _
      ((between_runs (Placed run.ready) (placed_carried run.ready) line run (rows_known line run) (λ j c. first_placed line j run.initiators run.ready c) r next most told m i b).places ((blocks_law.between line run r next most told m).got i));
}
