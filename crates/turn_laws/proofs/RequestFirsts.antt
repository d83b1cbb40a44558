-- Which requests that an initiator has under way are those of its operation: by the terms the first request of the operation is one exactly where that is for the operation's action. None is for nobody.
use Rattle.std.specs.Prelude.{unwrap_or}
use Rattle.std.proofs.Common.{arith, ◌≡◌, ◌⊎◌, inl, inr, refl, sym, ◌∙◌, ap, subst, ℕ, suc, ◌≤◌, ◌<◌, ◌==◌, is_some, Bool, true, false, List, ◌∷◌, Option, Some, None}
use Rattle.std.proofs.lemmas.Bool.Decides.{nat_tests}
use Rattle.std.proofs.lemmas.Option.{same_Some}
use Rattle.bus_transactions.specs.Rows.{shape}
use Rattle.bus_transactions.specs.Wire.{transaction}
use Rattle.bus_transactions.specs.Packets.{SerialsCount}
use Rattle.label_table.specs.Bodies.{Body, header_to, request_with}
use Rattle.label_table.specs.Layer.{Layer}
use Rattle.label_table.specs.declared.judgement.Asked.{Asked}
use Rattle.sbp_initiator.specs.Acting.{demand_of, manage_demand, ring_demand}
use Rattle.sbp_initiator.specs.Effects.{Turn}
use Rattle.sbp_initiator.specs.Refusals as refusals
use Rattle.sbp_initiator.specs.States.{is_unwritten, place_of, wanted_body}
use Rattle.sbp_initiator.specs.declared.purpose.Demand.{Demand}
use Rattle.sbp_initiator.specs.declared.purpose.Purpose.{Purpose}
use Rattle.sbp_initiator.specs.declared.purpose.Purpose.TheVariants as purposes
use Rattle.sbp_initiator.specs.declared.purpose.Running.{Running}
use Rattle.sbp_initiator.specs.declared.state.InitiatorState.{InitiatorState}
use Rattle.sbp_initiator.proofs.Histories.Runs.{IsEarlier, act_in}
use Rattle.sbp_journal.specs.Addresses.{Access, access_of}
use Rattle.sbp_journal.specs.Run.{Moment, asked, said}
use Rattle.sbp_journal.specs.Transactions.{Kind, Sending}
use Rattle.sbp_journal.specs.Wire.{Terms, terms, waits}
use Rattle.sbp_journal.specs.declared.event.Action.{Action}
use Rattle.sbp_journal.specs.declared.event.Action.TheVariants as actions
use Rattle.sbp_journal.specs.declared.note.Note.{Note}
use Rattle.sbp_journal.specs.declared.note.Note.TheVariants as notes
use Rattle.sbp_journal.specs.declared.side.Side.{Side}
use Rattle.sbp_journal.specs.declared.operation.Operation.{Operation}
use Rattle.sbp_laws.specs.Hosts.{Underway, host_at, operation_of}
use Rattle.sbp_laws.specs.Packets.{access_in_bytes}
use Rattle.sbp_world.proofs.Common.{least, none_is, untrue}
use Rattle.sbp_world.proofs.Hosts.Remaining.{step}
use Rattle.sbp_world.proofs.Hosts.Layered.{AreTame, LayerLeft, Left, read, same}
use Rattle.sbp_world.proofs.Hosts.Lives.{At, AskedAt, Called, ask_at, asked_now, was_asked}
use Rattle.sbp_world.proofs.Hosts.PointerNotes.{tame_told}
use Rattle.sbp_world.proofs.Hosts.Pointing.{at_same}
use Rattle.sbp_world.proofs.Hosts.Shown.{IsShown}
use Rattle.sbp_world.proofs.Lists.ManageFirsts.{Goes, goes_then, told_first}
use Rattle.sbp_world.proofs.Pointers.Guarded.{left_generation}
use Rattle.sbp_world.proofs.Pointers.Waits.{Ends, asked_sent, asked_told}
use Rattle.sbp_world.specs.Pointers.Moments.{asked_in, managed_write, manages}
use Rattle.sbp_world.specs.Hosts.Calls.{behind}
use Rattle.turn_laws.proofs.ManagerKnown.{Knows}
use Rattle.turn_laws.proofs.RequestKinds.{ends_held, from_left}
use Rattle.turn_laws.proofs.RomEnds.{is_plain}

-- it is for the operation of this action; the reads of a ROM are left out
abbrev pub is_of : Purpose → (act : ℕ) → Bool
is_of (purposes.AgentReset own) act = act == own
is_of (purposes.Enable own) act = act == own
is_of (purposes.Management own) act = act == own
is_of purpose act = false

-- a request for MANAGEMENT_AGENT
abbrev pub is_managing : Purpose → Bool
is_managing (purposes.Management own) = true
is_managing purpose = false

-- a packet is for address 0, as a request for MANAGEMENT_AGENT where it is not known where that stands
abbrev pub IsNull : List Moment → (serial : ℕ) → Type 0
IsNull past serial = (packet : Sending) (access : Access) → (terms past).sent serial ≡ Some packet → access_in_bytes packet.bytes ≡ Some access → access.offset ≡ 0

pub record Tied (past : List Moment) (i : ℕ) (s : InitiatorState) (number : ℕ) (purpose : Purpose) : Type 0 where
  pub kind : Kind
  pub serial : ℕ
  pub held : (terms past).held (transaction s.layer.generation (suc i) 0 number) ≡ waits kind serial
  pub first : (u : Underway) → (host_at past i).operation ≡ Some u → (r : Running) → s.operation ≡ Some r → (u.first == serial) ≡ is_of purpose r.act
  pub below : serial ≤ (terms past).count
  -- the action of its line
  pub action : Action
  pub asked : asked_in past serial i ≡ Some action
  pub makes : manages (operation_of action) ≡ is_managing purpose
  pub knows : is_managing purpose ≡ true → Knows s ⊎ IsNull past serial

pub record AreTied (past : List Moment) (i : ℕ) (s : InitiatorState) : Type 0 where
  pub tied : (number : ℕ) (purpose : Purpose) → is_plain purpose ≡ true → At s.layer s.target number (Some purpose) → Tied past i s number purpose
  pub owned : (number : ℕ) → At s.layer s.target number None → ⊥
  -- each read of AGENT_STATE is of another action
  pub one : (m n act : ℕ) (x y : Option ℕ) → At s.layer s.target m (Some (purposes.State act x)) → At s.layer s.target n (Some (purposes.State act y)) → m ≡ n

-- ---- what moments leave

-- the operation that is under way was so, and what was sent stays
pub record StaysOn (past now : List Moment) (i : ℕ) : Type 0 where
  pub goes : Goes (host_at past i) (host_at now i)
  pub count : (terms past).count ≤ (terms now).count
  pub sent : (n : ℕ) → n ≤ (terms past).count → (terms now).sent n ≡ (terms past).sent n
  pub asked : (n : ℕ) → n ≤ (terms past).count → asked_in now n i ≡ asked_in past n i

pub moment_on : (m : Moment) (past : List Moment) (i : ℕ) → SerialsCount (m ∷ past) → Goes (host_at past i) (host_at (m ∷ past) i) → StaysOn past (m ∷ past) i
moment_on m past i c goes = (let k = step m past c in record { goes = goes; count = k.count; sent = k.sent; asked = asked_before m past i c })
  where
    asked_before : (m : Moment) (past : List Moment) (i : ℕ) → SerialsCount (m ∷ past) → (n : ℕ) → n ≤ (terms past).count → asked_in (m ∷ past) n i ≡ asked_in past n i
    asked_before (asked line event) past i c n l = refl
    asked_before (said (notes.Sent serial generation from to bytes)) past i c n l = asked_sent serial generation from to bytes past i n l c.0
    asked_before (said note) past i c n l = refl

pub told_on : (told : List Side) (past : List Moment) (i : ℕ) → AreTame told → StaysOn past (behind told past) i
told_on told past i tame =
    let wire_is = (tame_told told past i tame).wire in
    record {
      goes = told_first told past i tame;
      count = least _ _ (ap (λ (t : Terms). t.count) wire_is);
      sent = λ n l. ap (λ (t : Terms). t.sent n) wire_is;
      asked = λ n l. ap (λ f. f n i) (asked_told told past tame);
    }

then_on : (past mid now : List Moment) (i : ℕ) → StaysOn past mid i → StaysOn mid now i → StaysOn past now i
then_on past mid now i a b =
    let more = a.count in
    record {
      goes = goes_then (host_at past i) (host_at mid i) (host_at now i) a.goes b.goes;
      count = (let last = b.count in omega (arith, more, last));
      sent = λ n l. b.sent n (omega (arith, more, l)) ∙ a.sent n l;
      asked = λ n l. b.asked n (omega (arith, more, l)) ∙ a.asked n l;
    }

null_on : (past now : List Moment) (i : ℕ) → StaysOn past now i → (serial : ℕ) → serial ≤ (terms past).count → IsNull past serial → IsNull now serial
null_on past now i on serial below h packet access sent spelled = h packet access (sym (on.sent serial below) ∙ sent) spelled

-- what is known of where MANAGEMENT_AGENT stands goes on
pub knows_on : (past now : List Moment) (i : ℕ) (s t : InitiatorState) → StaysOn past now i → (Knows s → Knows t) → (serial : ℕ) → serial ≤ (terms past).count → Knows s ⊎ IsNull past serial → Knows t ⊎ IsNull now serial
knows_on past now i s t on knows serial below (inl h) = inl (knows h)
knows_on past now i s t on knows serial below (inr h) = inr (null_on past now i on serial below h)

-- ---- as others tell and send something
pub tied_on : (past now : List Moment) (i : ℕ) (s : InitiatorState) → StaysOn past now i
    → ((m : ℕ) (k : Kind) (n : ℕ) → (terms past).held (transaction s.layer.generation (suc i) 0 m) ≡ waits k n → (terms now).held (transaction s.layer.generation (suc i) 0 m) ≡ waits k n) → AreTied past i s → AreTied now i s
tied_on past now i s on held h = record {
  tied = λ m p d a.
      let x = h.tied m p d a in
      record {
        kind = x.kind;
        serial = x.serial;
        held = held m x.kind x.serial x.held;
        first = λ u e r f. (let w = on.goes.on u e in ap (λ n. n == x.serial) (sym w.first) ∙ x.first w.was w.is r f);
        below = (let b = x.below in let c = on.count in omega (arith, b, c));
        action = x.action;
        asked = on.asked x.serial x.below ∙ x.asked;
        makes = x.makes;
        knows = λ e. knows_on past now i s s on (λ k. k) x.serial x.below (x.knows e);
      };
  owned = h.owned;
  one = h.one;
}

-- ---- a transaction ends, and something is told
-- what is known of it: `l` is the layer behind the note that begins the turn, `t` what the initiator makes of it
pub record Leaves (past : List Moment) (note : Note) (i : ℕ) (s : InitiatorState) (l : Layer Purpose) (t : Turn) : Type 0 where
  pub ends : Ends past note
  pub called : Called l
  pub generation : l.generation ≡ s.layer.generation
  pub back : (number : ℕ) (purpose : Option Purpose) → At l s.target number purpose → At s.layer s.target number purpose
  pub shown : IsShown (said note ∷ past) i s.target l
  pub left : Left l s.target t
  pub operation : (t.1.operation ≡ s.operation) ⊎ (t.1.operation ≡ None)
  pub knows : Knows s → Knows t.1
  pub first : StaysOn past (said note ∷ past) i

module _ (past : List Moment) (note : Note) (i : ℕ) (s : InitiatorState) (l : Layer Purpose) (t : Turn) (x : Leaves past note i s l t) (h : AreTied past i s) where
  abbrev ended : List Moment
  ended = said note ∷ past

  abbrev later : List Moment
  later = behind t.0.sides ended

  was_running : (r : Running) → t.1.operation ≡ Some r → s.operation ≡ Some r
  was_running r f = by x.operation
    where
      by : (t.1.operation ≡ s.operation) ⊎ (t.1.operation ≡ None) → s.operation ≡ Some r
      by (inl g) = sym g ∙ f
      by (inr g) = none_is r (sym g ∙ f)

  on : StaysOn past later i
  on = then_on past ended later i x.first (told_on t.0.sides ended i x.left.told)

  owned_now : (number : ℕ) → At t.1.layer s.target number None → ⊥
  owned_now number a = by x.left.layer a
    where
      by_asked : (body : Body) (act : ℕ) (next : Asked) → AskedAt l s.target next (purposes.Rom act) s.target number None → ⊥
      by_asked body act next (asked_now p n f) = (let no : None ≡ Some (purposes.Rom act) = f in cc)
      by_asked body act next (was_asked b) = h.owned number (x.back number None b)

      by : LayerLeft l s.target t.1.layer → At t.1.layer s.target number None → ⊥
      by (same g p) b = h.owned number (x.back number None (at_same t.1.layer l s.target number None (sym p) b))
      by (read body act next took) b = by_asked body act next (ask_at l s.target body (purposes.Rom act) next t.1.layer s.target number None x.called took b)

  tied_now : (m : ℕ) (p : Purpose) → is_plain p ≡ true → At t.1.layer s.target m (Some p) → Tied later i t.1 m p
  tied_now m p d a =
      let b = from_left l t.1.layer s.target x.called x.left.layer m p d a in
      let k = h.tied m p d (x.back m (Some p) b) in
      record {
        kind = k.kind;
        serial = k.serial;
        held =
            ap (λ g. (terms later).held (transaction g (suc i) 0 m)) (left_generation l s.target t.1.layer x.left.layer ∙ x.generation)
            ∙ ap (λ (y : Terms). y.held (transaction s.layer.generation (suc i) 0 m)) (tame_told t.0.sides ended i x.left.told).wire
            ∙ ends_held past note i s.target s.layer l x.ends x.generation x.shown m b.kind (ap shape b.state) ∙ k.held;
        first = λ u f r g. (let w = on.goes.on u f in ap (λ n. n == k.serial) (sym w.first) ∙ k.first w.was w.is r (was_running r g));
        below = (let n = k.below in let c = on.count in omega (arith, n, c));
        action = k.action;
        asked = on.asked k.serial k.below ∙ k.asked;
        makes = k.makes;
        knows = λ e. knows_on past later i s t.1 on x.knows k.serial k.below (k.knows e);
      }

  pub ended_tied : AreTied later i t.1
  ended_tied = record {
    tied = λ m p d a. tied_now m p d (subst (λ n. At t.1.layer n m (Some p)) x.left.target_is a);
    owned = λ m a. owned_now m (subst (λ n. At t.1.layer n m None) x.left.target_is a);
    one = λ m n act y z a b. h.one m n act y z (was_state m act y a) (was_state n act z b);
  }
    where
      was_state : (m act : ℕ) (list : Option ℕ) → At t.1.layer t.1.target m (Some (purposes.State act list)) → At s.layer s.target m (Some (purposes.State act list))
      was_state m act list a =
          x.back m (Some (purposes.State act list)) (from_left l t.1.layer s.target x.called x.left.layer m (purposes.State act list) refl (subst (λ n. At t.1.layer n m (Some (purposes.State act list))) x.left.target_is a))

-- ---- what an action asks for

-- it is for the operation that the action begins, or for none
abbrev FitsAct : Option Operation → ℕ → Option Demand → Type 0
FitsAct begins act None = Unit {0}
FitsAct None act (Some demand) = (other : ℕ) → is_of demand.purpose other ≡ false
FitsAct (Some operation) act (Some demand) = is_plain demand.purpose ≡ true → is_of demand.purpose act ≡ true

same_act : (n : ℕ) → (n == n) ≡ true
same_act n = grind (arith, nat_tests)

ring_act : (s : InitiatorState) → FitsAct None s.counts.acts (Some (ring_demand s))
ring_act s = by (is_unwritten s.marks.pointing) refl
  where
    by : (b : Bool) → is_unwritten s.marks.pointing ≡ b → FitsAct None s.counts.acts (Some (ring_demand s))
    by true e = rw e (λ other. refl)
    by false e = rw e (λ other. refl)

demand_act : (action : Action) (s : InitiatorState) → FitsAct (refusals.operation_of action) s.counts.acts (demand_of action s)
demand_act (actions.Append cmd) s = ring_act s
demand_act actions.Ring s = ring_act s
demand_act actions.State s = λ other. refl
demand_act actions.Rom s = λ d. untrue d
demand_act actions.AgentReset s = λ d. same_act s.counts.acts
demand_act actions.Enable s = λ d. same_act s.counts.acts
demand_act (actions.Login unit reconnect exclusive password) s = λ d. same_act s.counts.acts
demand_act (actions.Query unit) s = λ d. same_act s.counts.acts
demand_act actions.Reconnect s = λ d. same_act s.counts.acts
demand_act actions.Logout s = λ d. same_act s.counts.acts
demand_act (actions.Abort k) s = λ d. same_act s.counts.acts
demand_act actions.AbortSet s = λ d. same_act s.counts.acts
demand_act actions.UnitReset s = λ d. same_act s.counts.acts
demand_act actions.TargetReset s = λ d. same_act s.counts.acts
demand_act (actions.Dummy k) s = tt
demand_act (actions.Put cmd) s = tt
demand_act actions.Low s = tt
demand_act actions.Link s = tt

pub asks_none : (action : Action) (s : InitiatorState) (demand : Demand) → demand_of action s ≡ Some demand → refusals.operation_of action ≡ None → (act : ℕ) → is_of demand.purpose act ≡ false
asks_none action s demand e o = subst (λ d. FitsAct None s.counts.acts d) e (subst (λ x. FitsAct x s.counts.acts (demand_of action s)) o (demand_act action s))

pub asks_own : (action : Action) (s : InitiatorState) (demand : Demand) (operation : Operation) → demand_of action s ≡ Some demand → refusals.operation_of action ≡ Some operation → is_plain demand.purpose ≡ true → is_of demand.purpose s.counts.acts ≡ true
asks_own action s demand operation e o = subst (λ d. FitsAct (Some operation) s.counts.acts d) e (subst (λ x. FitsAct x s.counts.acts (demand_of action s)) o (demand_act action s))

later_not : (own act : ℕ) → own < act → (act == own) ≡ false
later_not own act e = grind (arith, nat_tests)

-- whether it is for MANAGEMENT_AGENT, by the action
abbrev ManagesAct : Bool → Option Demand → Type 0
ManagesAct b None = Unit {0}
ManagesAct b (Some demand) = is_plain demand.purpose ≡ true → b ≡ is_managing demand.purpose

ring_makes : (s : InitiatorState) → ManagesAct false (Some (ring_demand s))
ring_makes s = by (is_unwritten s.marks.pointing) refl
  where
    by : (b : Bool) → is_unwritten s.marks.pointing ≡ b → ManagesAct false (Some (ring_demand s))
    by true e = rw e (λ d. refl)
    by false e = rw e (λ d. refl)

demand_makes : (action : Action) (s : InitiatorState) → ManagesAct (manages (operation_of action)) (demand_of action s)
demand_makes (actions.Append cmd) s = ring_makes s
demand_makes actions.Ring s = ring_makes s
demand_makes actions.State s = λ d. refl
demand_makes actions.Rom s = λ d. refl
demand_makes actions.AgentReset s = λ d. refl
demand_makes actions.Enable s = λ d. refl
demand_makes (actions.Login unit reconnect exclusive password) s = λ d. refl
demand_makes (actions.Query unit) s = λ d. refl
demand_makes actions.Reconnect s = λ d. refl
demand_makes actions.Logout s = λ d. refl
demand_makes (actions.Abort k) s = λ d. refl
demand_makes actions.AbortSet s = λ d. refl
demand_makes actions.UnitReset s = λ d. refl
demand_makes actions.TargetReset s = λ d. refl
demand_makes (actions.Dummy k) s = tt
demand_makes (actions.Put cmd) s = tt
demand_makes actions.Low s = tt
demand_makes actions.Link s = tt

pub asks_makes : (action : Action) (s : InitiatorState) (demand : Demand) → demand_of action s ≡ Some demand → is_plain demand.purpose ≡ true → manages (operation_of action) ≡ is_managing demand.purpose
asks_makes action s demand e = subst (λ d. ManagesAct (manages (operation_of action)) d) e (demand_makes action s)

-- and then for the address that is known, or for 0
abbrev AimsAt : Option ℕ → Option Demand → Type 0
AimsAt found None = Unit {0}
AimsAt found (Some demand) = is_managing demand.purpose ≡ true → (access : Access) → access_of (request_with (header_to 0 0 0) (wanted_body demand.wanted)) ≡ Some access → access.offset ≡ unwrap_or found 0

aimed_at : (s : InitiatorState) → AimsAt s.management (Some (manage_demand s))
aimed_at s d access e = by e
  where
    own : Access
    own = managed_write (unwrap_or s.management 0) (place_of s.counts.managed)

    by : Some own ≡ Some access → access.offset ≡ unwrap_or s.management 0
    by f = ap (λ (a : Access). a.offset) (sym (same_Some own access f))

ring_aims : (s : InitiatorState) → AimsAt s.management (Some (ring_demand s))
ring_aims s = by (is_unwritten s.marks.pointing) refl
  where
    by : (b : Bool) → is_unwritten s.marks.pointing ≡ b → AimsAt s.management (Some (ring_demand s))
    by true e = rw e (λ d access f. untrue d)
    by false e = rw e (λ d access f. untrue d)

demand_aims : (action : Action) (s : InitiatorState) → AimsAt s.management (demand_of action s)
demand_aims (actions.Append cmd) s = ring_aims s
demand_aims actions.Ring s = ring_aims s
demand_aims actions.State s = λ d access e. untrue d
demand_aims actions.Rom s = λ d access e. untrue d
demand_aims actions.AgentReset s = λ d access e. untrue d
demand_aims actions.Enable s = λ d access e. untrue d
demand_aims (actions.Login unit reconnect exclusive password) s = aimed_at s
demand_aims (actions.Query unit) s = aimed_at s
demand_aims actions.Reconnect s = aimed_at s
demand_aims actions.Logout s = aimed_at s
demand_aims (actions.Abort k) s = aimed_at s
demand_aims actions.AbortSet s = aimed_at s
demand_aims actions.UnitReset s = aimed_at s
demand_aims actions.TargetReset s = aimed_at s
demand_aims (actions.Dummy k) s = tt
demand_aims (actions.Put cmd) s = tt
demand_aims actions.Low s = tt
demand_aims actions.Link s = tt

-- where it is not known, the packet is for 0
pub asks_known : (action : Action) (s : InitiatorState) (demand : Demand) → demand_of action s ≡ Some demand → is_managing demand.purpose ≡ true
    → Knows s ⊎ ((access : Access) → access_of (request_with (header_to 0 0 0) (wanted_body demand.wanted)) ≡ Some access → access.offset ≡ 0)
asks_known action s demand e d = by s.management refl
  where
    by : (found : Option ℕ) → s.management ≡ found → Knows s ⊎ ((access : Access) → access_of (request_with (header_to 0 0 0) (wanted_body demand.wanted)) ≡ Some access → access.offset ≡ 0)
    by (Some offset) f = inl (ap is_some f)
    by None f = inr (λ access g. subst (AimsAt s.management) e (demand_aims action s) d access g ∙ ap (λ o. unwrap_or o 0) f)

-- a read of AGENT_STATE is of this action
abbrev state_in : Purpose → ℕ → ℕ
state_in (purposes.State own list) act = own
state_in purpose act = act

abbrev reads_in : Option Demand → ℕ → ℕ
reads_in None act = act
reads_in (Some demand) act = state_in demand.purpose act

ring_reads : (s : InitiatorState) → reads_in (Some (ring_demand s)) s.counts.acts ≡ s.counts.acts
ring_reads s = by (is_unwritten s.marks.pointing) refl
  where
    by : (b : Bool) → is_unwritten s.marks.pointing ≡ b → reads_in (Some (ring_demand s)) s.counts.acts ≡ s.counts.acts
    by true e = rw e refl
    by false e = rw e refl

demand_reads : (action : Action) (s : InitiatorState) → reads_in (demand_of action s) s.counts.acts ≡ s.counts.acts
demand_reads (actions.Append cmd) s = ring_reads s
demand_reads actions.Ring s = ring_reads s
demand_reads action s = refl

pub reads_now : (action : Action) (s : InitiatorState) (demand : Demand) → demand_of action s ≡ Some demand → (act : ℕ) (list : Option ℕ) → demand.purpose ≡ purposes.State act list → act ≡ s.counts.acts
reads_now action s demand e act list f = ap (λ p. state_in p s.counts.acts) (sym f) ∙ ap (λ d. reads_in d s.counts.acts) (sym e) ∙ demand_reads action s

-- one of an earlier action is for no later one
pub earlier_not : (purpose : Purpose) (act : ℕ) → IsEarlier (act_in purpose) act → is_of purpose act ≡ false
earlier_not (purposes.AgentReset own) act e = later_not own act e
earlier_not (purposes.Enable own) act e = later_not own act e
earlier_not (purposes.Management own) act e = later_not own act e
earlier_not (purposes.Rom own) act e = refl
earlier_not (purposes.State own list) act e = refl
earlier_not (purposes.Pointer list) act e = refl
earlier_not purposes.Doorbell act e = refl
