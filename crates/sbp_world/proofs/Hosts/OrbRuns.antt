-- The ORBs of an initiator's slots fit the history of a run, behind each of its lines and deliveries.
use Rattle.sbp_world.proofs.Words.Std.{arith, ◌+◌, ◌≤◌, nat_eq, cond, length, ◌≡◌, refl, sym, ap, subst, ◌∙◌, ℕ, suc, ◌<◌, ◌==◌, Bool, true, false, List, [], ◌∷◌, ◌++◌, map, Option, Some, None, nat_tests}
use Rattle.sbp_world.proofs.Words.Wire.{LabelParts, Label, Layer, judged_note, Moment, asked, said, OutboxState, empty_outbox, Terms, ids_of, terms, Action, Event, Note, Node}
use Rattle.sbp_world.proofs.Words.Target.{Told}
use Rattle.sbp_world.proofs.Words.Initiator.{run, Demand, Purpose, InitiatorState, act_step, asked_as, asked_for, demand_of, demanded_as, facts_with, judged_as, Turn, new_state, own_rom, expire_step, receive_step, refusal, see_step, own, AreCalls, Call, IsCall, acts, after, done, lets_expire, receives, sees, action_calls, calls_if, slot_calls, slot_calls_after}
use Rattle.sbp_world.proofs.Words.Laws.{action_notes, id_of, event_of}
use Rattle.sbp_world.proofs.Words.World.{history_of, Run, world_after, beginning, MayAll, after_all, WorldState, begun, initiator_at, Stands, history, behind, AreRows, IsRun, more_deliveries}
use Rattle.orb_list.specs.Runs as slot_runs
use Rattle.sbp_journal.specs.declared.event.Event.TheVariants as events
use Rattle.sbp_journal.specs.declared.note.Note.TheVariants as notes
use Rattle.sbp_world.proofs.FitInitiator.Law.{fitting_law as own_fitting_law}
use Rattle.sbp_world.proofs.FitTarget.Law.{fitting_law}
use Rattle.sbp_world.proofs.Wire.Bus.{aged, holds}
use Rattle.sbp_world.proofs.Wire.Runs.{sound_after}
use Rattle.sbp_initiator.proofs.Histories.Slotted.{slot_law}
use Rattle.sbp_world.specs.Hosts.Refusing.{initiator_of}
use Rattle.sbp_world.proofs.Hosts.Acts.{Goes, goes_on}
use Rattle.sbp_world.proofs.Hosts.Alone.{call_same}
use Rattle.sbp_world.proofs.Hosts.Carried.{Knows, between_runs, of_runs}
use Rattle.sbp_world.proofs.Hosts.Carries.{Carries, Does, IsLineOf, Tells, is_apart}
use Rattle.sbp_world.proofs.Hosts.Liners.{number_call}
use Rattle.sbp_world.proofs.Hosts.OrbActs.{Done, act_done}
use Rattle.sbp_world.proofs.Hosts.OrbCalls.{expires_quiet, receives_quiet, sees_quiet}
use Rattle.sbp_world.proofs.Hosts.OrbFits.{AllFit, AreQuiet, NoneYet, quiet_calls}
use Rattle.sbp_world.proofs.Hosts.OrbTells as tell
use Rattle.sbp_world.proofs.Hosts.OrbTerms.{AreStill, orb_terms, orbs_apart, orbs_left, still_left}
use Rattle.sbp_world.proofs.Hosts.Passes.{judged_apart}
use Rattle.sbp_world.proofs.Hosts.Runs.{are_after}
use Rattle.sbp_world.proofs.Hosts.Telling.{action_law}

-- what the slots noted
abbrev pub slot_notes : Bool → ℕ → List Call → List slot_runs.Note
slot_notes ready i calls = (run (slot_calls_after i ready calls) (own_rom i)).notes

-- An initiator is what its calls make of a new one, and the ORBs of its slots fit the history.
pub record Orbs (ready : Bool) (past : List Moment) (i : ℕ) (s : InitiatorState) : Type 0 where
  pub number : s.number ≡ i
  pub calls : List Call
  pub called : AreCalls calls
  pub is : (after i ready calls).1 ≡ s
  pub kept : AllFit (orb_terms past i) (slot_notes ready i calls)
  pub none : NoneYet (orb_terms past i)

-- its rows, and its node ID, as a line begins
pub record Rowed (past : List Moment) (i : ℕ) (s : InitiatorState) : Type 0 where
  pub rows : AreRows past i s.lists.slots
  pub is_id : s.layer.node ≡ id_of (terms past) (suc i)
  -- its generation is no later one than the latest
  pub aged : (terms past).generation (suc i) ≤ (terms past).bus

module _ (ready : Bool) where
  -- another history that says the same of its ORBs
  said_still : (past now : List Moment) (i : ℕ) (s : InitiatorState) → orb_terms now i ≡ orb_terms past i → Orbs ready past i s → Orbs ready now i s
  said_still past now i s e h = record {
    number = h.number;
    calls = h.calls;
    called = h.called;
    is = h.is;
    kept = subst (λ x. AllFit x (slot_notes ready i h.calls)) (sym e) h.kept;
    none = subst NoneYet (sym e) h.none;
  }

  -- one more call
  module _ (past : List Moment) (i : ℕ) (s : InitiatorState) (h : Orbs ready past i s) where
    abbrev turn : Turn
    turn = after i ready h.calls

    call_on : (now : List Moment) (call : Call) → IsCall call → AllFit (orb_terms now i) (slot_notes ready i (call ∷ h.calls)) → NoneYet (orb_terms now i) → Orbs ready now i (done call (empty_outbox, s)).1
    call_on now call fit kept none = record {
      number = number_call call (empty_outbox, s) fit ∙ h.number;
      calls = call ∷ h.calls;
      called = (fit, h.called);
      is = call_same call turn.0 empty_outbox turn.1 ∙ ap (λ (x : InitiatorState). (done call (empty_outbox, x)).1) h.is;
      kept = kept;
      none = none;
    }

    -- one that leaves its ORBs
    still_on : (call : Call) → IsCall call → AreQuiet (slot_calls call turn) → Orbs ready past i (done call (empty_outbox, s)).1
    still_on call fit q =
        call_on past call fit (quiet_calls (orb_terms past i) (slot_calls call turn) (slot_calls_after i ready h.calls) (own_rom i) q h.kept) h.none

  still_tells : (past : List Moment) (i : ℕ) (t : Turn) → AreStill t.0.sides → Orbs ready past i t.1 → Tells (Orbs ready) past i t
  still_tells past i t q h = record {
    own = said_still past (behind t.0.sides past) i t.1 (still_left t.0.sides past i q) h;
    others = λ j x e k. said_still past (behind t.0.sides past) j x (still_left t.0.sides past j q) k;
  }

  pub apart_still : (note : Note) (past : List Moment) (i : ℕ) (s : InitiatorState) → is_apart i note ≡ true → Orbs ready past i s → Orbs ready (said note ∷ past) i s
  apart_still note past i s e h = said_still past (said note ∷ past) i s (orbs_apart note past i e) h

  seen_still : (generation : ℕ) (past : List Moment) (i j : ℕ) (s : InitiatorState) → Orbs ready past i s → Orbs ready (said (notes.Seen j generation) ∷ past) i s
  seen_still generation past i j s h = said_still past (said (notes.Seen j generation) ∷ past) i s (orbs_left (notes.Seen j generation) past i refl) h

  sent_still : (serial generation from to : ℕ) (bytes : List ℕ) (past : List Moment) (i : ℕ) (s : InitiatorState) → Orbs ready past i s → Orbs ready (said (notes.Sent serial generation from to bytes) ∷ past) i s
  sent_still serial generation from to bytes past i s h =
      said_still past (said (notes.Sent serial generation from to bytes) ∷ past) i s (orbs_left (notes.Sent serial generation from to bytes) past i refl) h

  hears_still : (serial generation : ℕ) (bytes : List ℕ) (past : List Moment) (i : ℕ) (s : InitiatorState) → Orbs ready past i s → Tells (Orbs ready) (said (judged_note serial (receive_step generation bytes empty_outbox s).0) ∷ past) i (receive_step generation bytes empty_outbox s).1
  hears_still serial generation bytes past i s h =
      let judged = (receive_step generation bytes empty_outbox s).0 in
      let now = said (judged_note serial judged) ∷ past in
      let k = apart_still (judged_note serial judged) past i s (judged_apart serial judged i) h in
      still_tells now i (receive_step generation bytes empty_outbox s).1 (tell.receives generation bytes empty_outbox s tt)
      (still_on now i s k (receives generation bytes) tt (receives_quiet generation bytes (after i ready k.calls)))

  expires_still : (serial : ℕ) (label : LabelParts) (past : List Moment) (i : ℕ) (s : InitiatorState) → Orbs ready past i s → Tells (Orbs ready) (said (notes.TimedOut serial) ∷ past) i (expire_step label empty_outbox s).1
  expires_still serial label past i s h =
      let now = said (notes.TimedOut serial) ∷ past in
      let k = apart_still (notes.TimedOut serial) past i s refl h in
      still_tells now i (expire_step label empty_outbox s).1 (tell.expires label empty_outbox s tt)
      (still_on now i s k (lets_expire label) tt (expires_quiet label (after i ready k.calls)))

  sees_still : (generation id target : ℕ) (past : List Moment) (i : ℕ) (s : InitiatorState) → Orbs ready past i s → Tells (Orbs ready) (said (notes.Seen (suc i) generation) ∷ past) i (see_step generation id target empty_outbox s)
  sees_still generation id target past i s h =
      let now = said (notes.Seen (suc i) generation) ∷ past in
      let k = seen_still generation past i (suc i) s h in
      still_tells now i (see_step generation id target empty_outbox s) (tell.sees generation id target empty_outbox s tt)
      (still_on now i s k (sees generation id target) tt (sees_quiet generation id target (after i ready k.calls)))

-- ---- an action

-- whether an action is refused is no matter of what was told before
module _ (action : Action) (o p : OutboxState) (s : InitiatorState) where
  asked_same : (r : Option Label × Layer Purpose) → (asked_as r action o s).0 ≡ (asked_as r action p s).0
  asked_same (None, layer) = refl
  asked_same (Some label, layer) = refl

  demanded_same : (demand : Option Demand) → (demanded_as demand action o s).0 ≡ (demanded_as demand action p s).0
  demanded_same None = refl
  demanded_same (Some demand) = asked_same (asked_for demand s)

  judged_same : (refused : Option ℕ) → (judged_as refused action o s).0 ≡ (judged_as refused action p s).0
  judged_same (Some number) = refl
  judged_same None = demanded_same (demand_of action s)

  pub refused_same : (act_step action o s).0 ≡ (act_step action p s).0
  unfolding act_step
  refused_same = judged_same (refusal action (facts_with true s action))

goes_by : (action : Action) (o : OutboxState) (s : InitiatorState) (refused : Option ℕ) → refusal action (facts_with true s action) ≡ refused → (judged_as refused action o s).0 ≡ None → Goes action s
goes_by action o s (Some number) r e = absurd (differ e)
  where
    differ : Some number ≡ None → ⊥
    differ e = cc
goes_by action o s None r e = goes_on action s r

pub goes : (action : Action) (o : OutboxState) (s : InitiatorState) → (act_step action o s).0 ≡ None → Goes action s
unfolding act_step
goes action o s e = goes_by action o s (refusal action (facts_with true s action)) refl e

module _ (ready : Bool) (action : Action) (past : List Moment) (i : ℕ) (s : InitiatorState) (line : event_of past ≡ Some (events.Act i action)) (fit : IsLineOf action) (no_refusal : (act_step action empty_outbox s).0 ≡ None) (known : Rowed past i s) (h : Orbs ready past i s) where
  abbrev t : Turn
  t = (act_step action empty_outbox s).1

  abbrev slots_before : List slot_runs.Call
  slots_before = slot_calls_after i ready h.calls

  -- its slots are those that its calls made
  table_same : (run slots_before (own_rom i)).table ≡ s.lists.slots
  table_same = (slot_law i ready h.calls h.called).table ∙ ap (λ (x : InitiatorState). x.lists.slots) h.is

  does : Done past i slots_before (own_rom i) (action_notes action past i) (action_calls action s)
  does =
      act_done past i slots_before (own_rom i) (subst (AreRows past i) (sym table_same) known.rows) h.kept h.none s table_same known.is_id action (goes action empty_outbox s no_refusal) fit line

  sides_are : t.0.sides ≡ own (action_notes action past i)
  sides_are =
      action_law.notes past s action empty_outbox (subst (λ j. AreRows past j s.lists.slots) (sym h.number) known.rows) no_refusal
      ∙ ap (λ j. own (action_notes action past j)) h.number

  -- what its slots did
  calls_are : slot_calls (acts action) (after i ready h.calls) ≡ action_calls action s
  calls_are =
      let turn = after i ready h.calls in
      ap (λ (x : InitiatorState). calls_if (act_step action turn.0 x).0 action x) h.is
      ∙ ap (λ x. calls_if x action s) (refused_same action turn.0 empty_outbox s ∙ no_refusal)

  own_acts : Orbs ready (behind t.0.sides past) i t.1
  own_acts =
      subst (λ told. Orbs ready (behind told past) i t.1) (sym sides_are)
      (call_on ready past i s h (behind (own (action_notes action past i)) past) (acts action) fit.0
      (subst (λ xs. AllFit (orb_terms (behind (own (action_notes action past i)) past) i) (run (xs ++ slots_before) (own_rom i)).notes) (sym calls_are) does.fits) does.none)

  others_act : (j : ℕ) (x : InitiatorState) → (j == i) ≡ false → Orbs ready past j x → Orbs ready (behind t.0.sides past) j x
  others_act j x e k =
      said_still ready past (behind t.0.sides past) j x (ap (λ told. orb_terms (behind told past) j) sides_are ∙ does.others j e) k

  acts_does : Does (Orbs ready) past i t
  acts_does = record {
    others = others_act;
    quiet = λ silent. own_acts;
    asking = λ packet one serial generation f q. sent_still ready serial generation (suc i) 0 packet.bytes (behind t.0.sides past) i t.1 own_acts;
  }

-- ---- a run

-- a reset tells the IDs of the generation that it begins
other_generation : (generation bus : ℕ) (first other : ℕ → ℕ) (node : ℕ) → generation ≤ bus → cond (nat_eq generation (bus + 1)) first other node ≡ other node
other_generation generation bus first other node h =
    let e : nat_eq generation (bus + 1) ≡ false = grind (arith, nat_tests) in ap (λ b. cond b first other node) e

known_asked : (line : ℕ) (event : Event) (past : List Moment) (i : ℕ) (s : InitiatorState) → Rowed past i s → Rowed (asked line event ∷ past) i s
known_asked line (events.Reset physical) past i s r = record {
  rows = r.rows;
  is_id = r.is_id ∙ sym (other_generation ((terms past).generation (suc i)) (terms past).bus (ids_of physical) ((terms past).ids ((terms past).generation (suc i))) (suc i) r.aged);
  aged = r.aged;
}
known_asked line (events.Begin initiators ready) past i s r = record { rows = r.rows; is_id = r.is_id; aged = r.aged }
known_asked line (events.Act j action) past i s r = record { rows = r.rows; is_id = r.is_id; aged = r.aged }
known_asked line (events.See node) past i s r = record { rows = r.rows; is_id = r.is_id; aged = r.aged }
known_asked line (events.Deliver serial) past i s r = record { rows = r.rows; is_id = r.is_id; aged = r.aged }
known_asked line (events.Repeat serial) past i s r = record { rows = r.rows; is_id = r.is_id; aged = r.aged }
known_asked line (events.Lose serial) past i s r = record { rows = r.rows; is_id = r.is_id; aged = r.aged }
known_asked line (events.Timeout serial) past i s r = record { rows = r.rows; is_id = r.is_id; aged = r.aged }
known_asked line (events.Step count) past i s r = record { rows = r.rows; is_id = r.is_id; aged = r.aged }
known_asked line events.Settle past i s r = record { rows = r.rows; is_id = r.is_id; aged = r.aged }
known_asked line events.Tick past i s r = record { rows = r.rows; is_id = r.is_id; aged = r.aged }
known_asked line (events.Inject initiator bytes) past i s r = record { rows = r.rows; is_id = r.is_id; aged = r.aged }
known_asked line (events.Key unit key) past i s r = record { rows = r.rows; is_id = r.is_id; aged = r.aged }

pub orbs_carried : (ready : Bool) → Carries Rowed (Orbs ready)
orbs_carried ready = record {
  known = λ line event past i s r. known_asked line event past i s r;
  number = λ past i s h. h.number;
  asked = λ line event past i s h. said_still ready past (asked line event ∷ past) i s refl h;
  apart = λ note past i s e f h. apart_still ready note past i s e h;
  sent = λ serial generation from to bytes past i s n h. sent_still ready serial generation from to bytes past i s h;
  hears = λ serial generation bytes past i s heard shown after h. hears_still ready serial generation bytes past i s h;
  expires = λ serial label past i s shown h. expires_still ready serial label past i s h;
  stale = λ label past i s e h. still_on ready past i s h (lets_expire label) tt (expires_quiet label (after i ready h.calls));
  sees = λ generation id target past i s e h. sees_still ready generation id target past i s h;
  acts = λ action past i s line fit d shown known h. acts_does ready action past i s line fit d known h;
}

-- what the wire tells of its node ID
pub record IdKnown (past : List Moment) (i : ℕ) (s : InitiatorState) : Type 0 where
  pub is_id : s.layer.node ≡ id_of (terms past) (suc i)
  pub aged : (terms past).generation (suc i) ≤ (terms past).bus

pub id_known : {past : List Moment} (w : WorldState) → Stands past w → (i : ℕ) → suc i ≤ length w.initiators → IdKnown (history w past) i (initiator_at w i)
id_known {past} w h i l =
    let k = (holds h.wire h.reached).nodes (suc i) in
    let same : terms h.wire.past ≡ terms (history w past) = ap terms h.is.past_is in
    let layer : (h.wire.layer (suc i)).generation ≡ (terms h.wire.past).generation (suc i) = k.generation in
    let old : (h.wire.layer (suc i)).generation ≤ (terms h.wire.past).bus = aged h.wire (suc i) h.reached in
    record {
      is_id = sym (ap (λ (n : Node). n.node) (h.is.layers_are (suc i) l)) ∙ (k.id ∙ ap (λ (t : Terms). id_of t (suc i)) same);
      aged = subst (λ (t : Terms). t.generation (suc i) ≤ t.bus) same (omega arith);
    }

pub rows_known : (line : ℕ) (run : Run) → Knows Rowed line run
rows_known line run entries few short all fit i b =
    let sound = sound_after fitting_law own_fitting_law line run entries few short all fit in
    let w = (world_after (beginning run) entries).world in
    let k : IdKnown (history w sound.past) i (initiator_at w i) = id_known w sound.sound.stands i (omega arith) in
    let now = subst (λ ms. IdKnown ms i (initiator_at w i)) sound.is k in
    record { rows = (are_after line run entries few short all fit i b).rows; is_id = now.is_id; aged = now.aged }

pub first_orbs : (line i initiators : ℕ) (ready : Bool) → Orbs ready (said (notes.Begin initiators ready) ∷ asked line (events.Begin initiators ready) ∷ []) i (new_state i ready)
unfolding new_state
first_orbs line i initiators ready = record { number = refl; calls = []; called = tt; is = refl; kept = λ k b. tt; none = λ n k b. refl }

pub orbs_of_runs : (line : ℕ) (run : Run) → IsRun run → (i : ℕ) → i < run.initiators → Orbs run.ready (history_of line run) i (initiator_of run i)
orbs_of_runs line run r i b =
    of_runs (Orbs run.ready) (orbs_carried run.ready) line run (rows_known line run) (λ j c. first_orbs line j run.initiators run.ready) r i b

pub orbs_between : (line : ℕ) (run : Run) → IsRun run → (next : ℕ) (most : Option ℕ) (told : List (Option Told)) → MayAll told (begun (world_after (beginning run) run.entries)) → (i : ℕ) → i < run.initiators → (let w = (after_all told (begun (world_after (beginning run) run.entries))).world in Orbs run.ready (map said w.fresh ++ asked next (more_deliveries most) ∷ history_of line run) i (initiator_at w i))
orbs_between line run r next most told m i b =
    between_runs (Orbs run.ready) (orbs_carried run.ready) line run (rows_known line run) (λ j c. first_orbs line j run.initiators run.ready) r next most told m i b
