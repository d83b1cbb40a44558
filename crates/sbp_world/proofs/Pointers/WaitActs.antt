-- The request of an action is one of those that are under way behind it, and a later generation leaves none.
use Rattle.sbp_world.proofs.Words.Std.{arith, ◌≡◌, refl, sym, ◌∙◌, ap, subst, ℕ, suc, ◌+◌, ◌≤◌, ◌==◌, ◌&&◌, nat_eq, nat_lt, not, Bool, true, false, cond, List, [], ◌∷◌, Option, Some, None}
use Rattle.sbp_world.proofs.Words.Wire.{transaction, not_begun, under_way, ReplyKind, Layer, seen_in_generation, seeing_step, empty_outbox, Moment, said, Sending, Transaction, begun_by, between, part_of, Terms, kind_in, terms, Action, Outgoing}
use Rattle.sbp_world.proofs.Words.Initiator.{Demand, Purpose, InitiatorState, counted_list, demand_of, ring_demand, Turn, new_state, interrupted, resets_told, see_step, seen_as, is_unwritten, wanted_body}
use Rattle.sbp_world.proofs.Words.Laws.{host_at, told_of, present_list, event_of}
use Rattle.sbp_world.proofs.Words.World.{behind, asked_in, is_state, names_answered, own_action, state_list}
use Rattle.bus_transactions.proofs.Facts.{asked_begun, request_asked}
use Rattle.sbp_journal.specs.declared.event.Action.TheVariants as actions
use Rattle.sbp_journal.specs.declared.event.Event.TheVariants as events
use Rattle.sbp_journal.specs.declared.note.Note.TheVariants as notes
use Rattle.sbp_initiator.specs.declared.purpose.Purpose.TheVariants as purposes
use Rattle.sbp_initiator.proofs.Histories.Effects.{list_drops}
use Rattle.sbp_world.proofs.Hosts.ActLeft.{ActLeft, HasAsked}
use Rattle.sbp_world.proofs.Hosts.Aimed.{IsAimed, aimed_carried}
use Rattle.sbp_world.proofs.Hosts.Asked.{IsRequest, number_in}
use Rattle.sbp_world.proofs.Hosts.Held.{sent_begun, sent_count}
use Rattle.sbp_world.proofs.Hosts.Lives.{At, AskedAt, Called, ask_at, asked_now, at_life, was_asked}
use Rattle.sbp_world.proofs.Hosts.PointerNotes.{Fit, Told, tame_told}
use Rattle.sbp_world.proofs.Hosts.Pointing.{asked_generation, sent_waits}
use Rattle.sbp_world.proofs.Hosts.Shown.{IsShown}
use Rattle.sbp_world.proofs.Pointers.Waits.{AskedFor, Asks, asked_sent, asked_told, counted_in, is_cared, makes, state_sent, state_told, still_asks}
use Rattle.sbp_world.proofs.Common.{itself, cond_on, none_is as none_demand, untrue}

-- ---- what an action asks for

purpose_is : (own demand : Demand) → Some own ≡ Some demand → own.purpose ≡ demand.purpose
purpose_is own demand e = let f : own ≡ demand = cc in ap (λ (d : Demand). d.purpose) f

pub none_is : {A : Type 0} {n : ℕ} → None ≡ Some n → A
none_is e = absurd (differ e)
  where
    differ : {n : ℕ} → None ≡ Some n → ⊥
    differ e = cc

not_cared : {A : Type 0} (own demand : Demand) (purpose : Purpose) → is_cared own.purpose ≡ false → Some own ≡ Some demand → demand.purpose ≡ purpose → is_cared purpose ≡ true → A
not_cared own demand purpose n e f c = untrue (sym n ∙ ap is_cared (purpose_is own demand e ∙ f) ∙ c)

ring_cared : (b : Bool) (x y : Demand) → is_cared x.purpose ≡ false → is_cared y.purpose ≡ false → is_cared (cond b x y).purpose ≡ false
ring_cared true x y e f = e
ring_cared false x y e f = f

module _ (s : InitiatorState) (demand : Demand) (purpose : Purpose) (for : demand.purpose ≡ purpose) (c : is_cared purpose ≡ true) where
  rings_for : {A : Type 0} → Some (ring_demand s) ≡ Some demand → A
  rings_for e = not_cared (ring_demand s) demand purpose (ring_cared (is_unwritten s.marks.pointing) _ _ refl refl) e for c

  pub makes_for : (action : Action) → demand_of action s ≡ Some demand → makes action purpose ≡ true
  makes_for actions.AgentReset e = subst (λ p. makes actions.AgentReset p ≡ true) (purpose_is _ demand e ∙ for) refl
  makes_for actions.State e = subst (λ p. makes actions.State p ≡ true) (purpose_is _ demand e ∙ for) refl
  makes_for (actions.Append cmd) e = rings_for e
  makes_for actions.Ring e = rings_for e
  makes_for actions.Enable e = not_cared _ demand purpose refl e for c
  makes_for actions.Rom e = not_cared _ demand purpose refl e for c
  makes_for (actions.Login unit reconnect exclusive password) e = not_cared _ demand purpose refl e for c
  makes_for (actions.Query unit) e = not_cared _ demand purpose refl e for c
  makes_for actions.Reconnect e = not_cared _ demand purpose refl e for c
  makes_for actions.Logout e = not_cared _ demand purpose refl e for c
  makes_for (actions.Abort orb) e = not_cared _ demand purpose refl e for c
  makes_for actions.AbortSet e = not_cared _ demand purpose refl e for c
  makes_for actions.UnitReset e = not_cared _ demand purpose refl e for c
  makes_for actions.TargetReset e = not_cared _ demand purpose refl e for c
  makes_for (actions.Put cmd) e = none_demand demand e
  makes_for actions.Low e = none_demand demand e
  makes_for actions.Link e = none_demand demand e
  makes_for (actions.Dummy orb) e = none_demand demand e

-- a read of AGENT_STATE that counts for a list
counted_cared : (purpose : Purpose) (n : ℕ) → counted_in purpose ≡ Some n → is_cared purpose ≡ true
counted_cared (purposes.State act list) n e = refl
counted_cared (purposes.AgentReset act) n e = none_is e
counted_cared (purposes.Pointer list) n e = none_is e
counted_cared purposes.Doorbell n e = none_is e
counted_cared (purposes.Enable act) n e = none_is e
counted_cared (purposes.Management act) n e = none_is e
counted_cared (purposes.Rom act) n e = none_is e

pub made_state : (action : Action) (act : ℕ) (list : Option ℕ) → makes action (purposes.State act list) ≡ true → action ≡ actions.State
made_state actions.State act list m = refl
made_state _ act list m = untrue m

state_made : (action : Action) (purpose : Purpose) (n : ℕ) → makes action purpose ≡ true → counted_in purpose ≡ Some n → action ≡ actions.State
state_made action (purposes.State act list) n m e = made_state action act list m
state_made action (purposes.AgentReset act) n m e = none_is e
state_made action (purposes.Pointer list) n m e = none_is e
state_made action purposes.Doorbell n m e = none_is e
state_made action (purposes.Enable act) n m e = none_is e
state_made action (purposes.Management act) n m e = none_is e
state_made action (purposes.Rom act) n m e = none_is e

-- it is asked for by such an action, for the list that counts then
pub record CountsNow (action : Action) (s : InitiatorState) (n : ℕ) : Type 0 where
  pub is : action ≡ actions.State
  pub counted : counted_list s.lists.slots.present s ≡ Some n

pub counts_now : (action : Action) (s : InitiatorState) (demand : Demand) (n : ℕ) → demand_of action s ≡ Some demand → counted_in demand.purpose ≡ Some n → CountsNow action s n
counts_now action s demand n d e =
    let is = state_made action demand.purpose n (makes_for s demand demand.purpose refl (counted_cared demand.purpose n e) action d) e in
    record { is = is; counted = ap counted_in (purpose_is _ demand (ap (λ a. demand_of a s) (sym is) ∙ d)) ∙ e }

module _ (action : Action) (past : List Moment) (i : ℕ) (s : InitiatorState) (t : Turn) (under : event_of past ≡ Some (events.Act i action)) (shown : IsShown past i s.target s.layer) (called : Called s.layer) (k : Asks past i s.target s.layer) (left : ActLeft action s t) (packet : Outgoing) (one : t.0.packets ≡ packet ∷ []) (serial generation : ℕ) (injected : (terms past).injected serial ≡ false) (q : IsRequest (number_in packet.label) packet.bytes) (fit : Fit (said (notes.Sent serial generation (suc i) 0 packet.bytes) ∷ behind t.0.sides past)) (tells : (demand : Demand) → demand_of action s ≡ Some demand → (n : ℕ) → counted_in demand.purpose ≡ Some n → (names_answered (behind t.0.sides past) (host_at (behind t.0.sides past) i).pointer ≡ true) × (present_list (behind t.0.sides past) i ≡ Some n)) where
  abbrev ms : List Moment
  ms = behind t.0.sides past

  abbrev now : List Moment
  now = said (notes.Sent serial generation (suc i) 0 packet.bytes) ∷ ms

  abbrev told : Told past t.0.sides i
  told = tame_told t.0.sides past i left.told

  abbrev T : Terms
  T = terms ms

  abbrev sending : Sending
  sending = record { generation = generation; from = suc i; to = 0; bytes = packet.bytes; injected = T.injected serial }

  x : HasAsked action s packet t.1.layer
  x = left.asking packet one

  honest : T.injected serial ≡ false
  honest = ap (λ (y : Terms). y.injected serial) told.wire ∙ injected

  generation_is : generation ≡ s.layer.generation
  generation_is = (fit.sent.0 honest).now ∙ ap (λ (y : Terms). y.generation (suc i)) told.wire ∙ sym shown.generation

  stays : t.1.layer.generation ≡ s.layer.generation
  stays = asked_generation s.layer s.target (wanted_body x.demand.wanted) x.demand.purpose x.asked t.1.layer x.step

  -- the transaction that the request begins
  abbrev own : ℕ → Transaction
  own m = transaction s.layer.generation (suc i) 0 m

  begins : begun_by sending ≡ Some (own x.asked.label.number)
  begins =
      asked_begun sending (between sending sending.from sending.to (number_in packet.label)) honest (request_asked sending (number_in packet.label) q.kind q.part)
      ∙ ap (λ g. Some (transaction g (suc i) 0 (number_in packet.label))) generation_is
      ∙ ap (λ m. Some (own m)) (ap number_in x.label)

  now_own : (m : ℕ) → (terms now).held (transaction t.1.layer.generation (suc i) 0 m) ≡ (terms now).held (own m)
  now_own m = ap (λ g. (terms now).held (transaction g (suc i) 0 m)) stays

  line : own_action i (event_of ms) ≡ Some action
  line = ap (own_action i) (told.line ∙ under) ∙ cond_on (nat_eq i i) (Some action) None (itself i)

  new_asked : asked_in now serial i ≡ Some action
  new_asked =
      cond_on (nat_eq serial serial) (cond (nat_eq i i) (own_action i (event_of ms)) (asked_in ms serial i)) (asked_in ms serial i) (itself serial)
      ∙ cond_on (nat_eq i i) (own_action i (event_of ms)) (asked_in ms serial i) (itself i)
      ∙ line

  -- the list that it tells of
  new_told : (n : ℕ) → counted_in x.demand.purpose ≡ Some n → state_list now serial i ≡ Some n
  new_told n e =
      let k = tells x.demand x.is n e in
      let list = told_of (is_state (own_action i (event_of ms)) && names_answered ms (host_at ms i).pointer) (present_list ms i) in
      let c = counts_now action s x.demand n x.is e in
      cond_on (nat_eq serial serial) (cond (nat_eq i i) list (state_list ms serial i)) (state_list ms serial i) (itself serial)
      ∙ cond_on (nat_eq i i) list (state_list ms serial i) (itself i)
      ∙ ap (λ a. told_of (is_state a && names_answered ms (host_at ms i).pointer) (present_list ms i)) (line ∙ ap Some c.is)
      ∙ ap (λ b. told_of (true && b) (present_list ms i)) k.0
      ∙ k.1

  count_is : T.count ≡ (terms past).count
  count_is = ap (λ (y : Terms). y.count) told.wire

  waits_by : (m : ℕ) (p : Purpose) → is_cared p ≡ true → AskedAt s.layer s.target x.asked x.demand.purpose s.target m (Some p) → AskedFor now i t.1.layer.generation m p
  waits_by m p c (asked_now peer n e) = record {
    kind = kind_in (part_of packet.bytes);
    serial = serial;
    held = now_own m ∙ sent_begun serial sending T (own m) (begins ∙ ap (λ z. Some (own z)) (sym n));
    action = action;
    asked = new_asked;
    for = makes_for s x.demand p (let f : p ≡ x.demand.purpose = cc in sym f) c action x.is;
    below = (let f = fit.serials.0 in let d = sent_count serial sending T in omega arith);
    told = λ n f. new_told n (ap counted_in (let g : p ≡ x.demand.purpose = cc in sym g) ∙ f);
  }
  waits_by m p c (was_asked b) =
      let w = k.waits_for m p c b in
      record {
        kind = w.kind;
        serial = w.serial;
        held = now_own m ∙ sent_waits T serial sending fit.sent.0 (own m) w.kind w.serial (ap (λ (y : Terms). y.held (own m)) told.wire ∙ w.held);
        action = w.action;
        asked = asked_sent serial generation (suc i) 0 packet.bytes ms i w.serial (let l = w.below in let e = count_is in omega arith) fit.serials.0 ∙ ap (λ (f : ℕ → ℕ → Option Action). f w.serial i) (asked_told t.0.sides past left.told) ∙ w.asked;
        for = w.for;
        below = (let l = w.below in let e = count_is in let d = sent_count serial sending T in omega arith);
        told = λ n f. state_sent serial generation (suc i) 0 packet.bytes ms i w.serial (let l = w.below in let e = count_is in omega arith) fit.serials.0 ∙ ap (λ (g : ℕ → ℕ → Option ℕ). g w.serial i) (state_told t.0.sides past left.told) ∙ w.told n f;
      }

  pub asking_asks : Asks now i s.target t.1.layer
  asking_asks = record {
    waits_for = λ m p c a. waits_by m p c (ask_at s.layer s.target (wanted_body x.demand.wanted) x.demand.purpose x.asked t.1.layer s.target m (Some p) called x.step a);
  }

-- ---- a later generation

-- whatever node the target is then
pub seen_layer : (b : Bool) (generation id target other : ℕ) (s : InitiatorState) → (seen_as (cond b (true, seen_in_generation s.layer generation id) (false, s.layer)) target empty_outbox s).1.layer ≡ (seen_as (cond b (true, seen_in_generation s.layer generation id) (false, s.layer)) other empty_outbox s).1.layer
seen_layer true generation id target other s =
    let u = record s { layer = seen_in_generation s.layer generation id } in
    let o = resets_told u.number u.operation u.states empty_outbox in
    (list_drops o (interrupted u target)).layer ∙ sym (list_drops o (interrupted u other)).layer
seen_layer false generation id target other s = refl

pub see_layer : (generation id target other : ℕ) (s : InitiatorState) → (see_step generation id target empty_outbox s).1.layer ≡ (see_step generation id other empty_outbox s).1.layer
unfolding see_step seeing_step
see_layer generation id target other s = seen_layer (nat_lt s.layer.generation generation) generation id target other s

pub see_target : (generation id target : ℕ) (s : InitiatorState) → nat_lt s.layer.generation generation ≡ true → (see_step generation id target empty_outbox s).1.target ≡ target
unfolding see_step seeing_step
see_target generation id target s e =
    ap (λ b. (seen_as (cond b (true, seen_in_generation s.layer generation id) (false, s.layer)) target empty_outbox s).1.target) e
    ∙ (let u = record s { layer = seen_in_generation s.layer generation id } in (list_drops (resets_told u.number u.operation u.states empty_outbox) (interrupted u target)).target)

-- The transactions behind a generation that is seen are with the target, whichever node that is: so behind a later one there are none.
pub none_seen : (ready : Bool) (generation id target : ℕ) (past : List Moment) (i : ℕ) (s : InitiatorState) → (seeing_step s.layer generation id).0 ≡ not (generation == (terms past).generation (suc i)) → IsAimed ready i s → nat_lt s.layer.generation generation ≡ true → (peer number : ℕ) (purpose : Option Purpose) → At (see_step generation id target empty_outbox s).1.layer peer number purpose → ⊥
none_seen ready generation id target past i s flag h later peer number purpose a =
    let with_other = ((aimed_carried ready).sees generation id (suc peer) past i s flag h).own.aims peer number purpose (subst (λ (l : Layer Purpose). At l peer number purpose) (see_layer generation id target (suc peer) s) a) in
    let same : peer ≡ suc peer = with_other ∙ see_target generation id (suc peer) s later in
    (let x : ⊥ = omega arith in x)

-- an older one leaves all
pub see_old : (generation id target : ℕ) (s : InitiatorState) → nat_lt s.layer.generation generation ≡ false → see_step generation id target empty_outbox s ≡ (empty_outbox, s)
unfolding see_step seeing_step
see_old generation id target s e = ap (λ b. seen_as (cond b (true, seen_in_generation s.layer generation id) (false, s.layer)) target empty_outbox s) e

-- what is seen
pub seen_asks : (ready : Bool) (generation id target : ℕ) (past : List Moment) (i : ℕ) (s : InitiatorState) → (seeing_step s.layer generation id).0 ≡ not (generation == (terms past).generation (suc i)) → IsAimed ready i s → Asks past i s.target s.layer → (let t = see_step generation id target empty_outbox s in Asks (behind t.0.sides (said (notes.Seen (suc i) generation) ∷ past)) i t.1.target t.1.layer)
seen_asks ready generation id target past i s flag h k = by (nat_lt s.layer.generation generation) refl
  where
    by : (b : Bool) → nat_lt s.layer.generation generation ≡ b → (let t = see_step generation id target empty_outbox s in Asks (behind t.0.sides (said (notes.Seen (suc i) generation) ∷ past)) i t.1.target t.1.layer)
    by true e = record { waits_for = λ m p c a. absurd (none_seen ready generation id target past i s flag h e (see_step generation id target empty_outbox s).1.target m (Some p) a) }
    by false e =
        subst (λ (t : Turn). Asks (behind t.0.sides (said (notes.Seen (suc i) generation) ∷ past)) i t.1.target t.1.layer) (sym (see_old generation id target s e))
        (still_asks past (said (notes.Seen (suc i) generation) ∷ past) i s.target s.layer (λ g m. refl) (let l : (terms past).count ≤ (terms past).count = omega arith in l) (λ n l. refl) (λ n l. refl) k)

-- nothing is under way at first
pub first_asks : (past : List Moment) (i : ℕ) (ready : Bool) → Asks past i (new_state i ready).target (new_state i ready).layer
unfolding new_state
first_asks past i ready = record { waits_for = λ m p c a. absurd (not_yet (at_life (0xffc1 + i) [] (new_state i ready).target m (Some p) a)) }
  where
    not_yet : {kind : ReplyKind} {purpose : Option Purpose} → not_begun ≡ under_way kind purpose → ⊥
    not_yet e = cc
