-- What holds after an action, and what it tells.
use Rattle.std.proofs.Common.{arith, ◌≡◌, refl, sym, ap, subst, ◌∙◌, ℕ, ◌+◌, ◌<◌, ◌++◌, nat_eq, ◌||◌, is_some, Bool, true, false, cond, List, [], ◌∷◌, length, Option, Some, None}
use Rattle.label_table.specs.declared.judgement.Asked.{Asked}
use Rattle.label_table.specs.Layer.{Layer}
use Rattle.bus_memory.specs.Windows.{start}
use Rattle.bus_memory.specs.declared.window.Window.TheVariants as windows
use Rattle.orb_layout.specs.declared.management.ManagementOrb.{ManagementOrb}
use Rattle.orb_layout.specs.ManagementOrbs.{management_bytes}
use Rattle.orb_list.specs.declared.list.PresentList.{PresentList}
use Rattle.orb_list.specs.Table.{list_number}
use Rattle.sbp_journal.specs.declared.event.Action.{Action}
use Rattle.sbp_journal.specs.declared.event.Action.TheVariants as actions
use Rattle.sbp_journal.specs.declared.operation.Operation.{Operation}
use Rattle.sbp_journal.specs.declared.operation.Operation.TheVariants as operations
use Rattle.sbp_journal.specs.declared.outbox.Outgoing.{Outgoing}
use Rattle.sbp_journal.specs.Outgoings.{OutboxState}
use Rattle.sbp_initiator.specs.declared.purpose.Demand.{Demand}
use Rattle.sbp_initiator.specs.declared.purpose.Purpose.{Purpose}
use Rattle.sbp_initiator.specs.declared.purpose.Purpose.TheVariants as purposes
use Rattle.sbp_initiator.specs.declared.purpose.Running.{Running}
use Rattle.sbp_initiator.specs.declared.purpose.Wanted.TheVariants as wants
use Rattle.sbp_initiator.specs.declared.state.InitiatorState.{InitiatorState}
use Rattle.sbp_initiator.specs.Refusals.{operation_of, refusal}
use Rattle.sbp_initiator.specs.States.{is_answered, is_unwritten, place_of, wanted_body}
use Rattle.sbp_initiator.specs.Effects.{Turn}
use Rattle.sbp_initiator.specs.Acting.{act_step, asked_as, asked_for, counted_list, demand_of, demanded_as, done_step, facts_with, first_in, judged_as, manage_demand, register_of, ring_demand}
use Rattle.sbp_initiator.specs.Histories.Moves.{outgoing}
use Rattle.sbp_initiator.proofs.Asked.{none_asked}
use Rattle.sbp_initiator.specs.Histories.Begins.{Begins, after_by, begun_as}
use Rattle.sbp_initiator.specs.Histories.Ends.{is_managed}
use Rattle.sbp_initiator.specs.Histories.Served.{with_orb, held_if}
use Rattle.sbp_initiator.specs.Histories.Slots.{orb_in}
use Rattle.sbp_initiator.specs.Histories.Marks.{CountsFor, answered_list, begins_read, counted_if, is_read, read_begun}
use Rattle.label_table.specs.History as wire
use Rattle.sbp_initiator.specs.Histories.Numbers.{is_numbered, value_of, carried, RisesTo}
use Rattle.sbp_initiator.proofs.Histories.Actions.{Allowed, Done, allowed, done_does, pointed_after, pointed_by, remembered, used}
use Rattle.sbp_initiator.proofs.Histories.Effects.{Fits, Holds, IsFor, IsForOrb, Past}
use Rattle.sbp_initiator.proofs.Histories.Did.{done_reads}
use Rattle.sbp_initiator.proofs.Histories.Lives.{IsNew, IsNot, read_act, reads_with}
use Rattle.sbp_initiator.proofs.Histories.Purposes.{AllAsk, all_ask}
use Rattle.sbp_initiator.proofs.Histories.Requests.{HasOrb}
use Rattle.sbp_initiator.proofs.Histories.Runs.{FitsNow, IsBegun, IsEarlier, Sound, WasPointed, act_in, none_some}
use Rattle.sbp_initiator.proofs.Histories.Wires.{Wire, ask_wire, number_wire, numbered_none}

-- ---- the request of an action

abbrev state_demand : Option ℕ → InitiatorState → Option Demand
state_demand list s =
    Some (record { wanted = wants.Read (register_of s 0x00); purpose = purposes.State s.counts.acts list })

counted_same : (present : Option PresentList) (s : InitiatorState) (layer : Layer Purpose) → counted_list present (record s { layer = layer }) ≡ counted_list present s
counted_same None s layer = refl
counted_same (Some list) s layer = refl

first_same : (present : Option PresentList) (s : InitiatorState) (layer : Layer Purpose) → first_in present (record s { layer = layer }) ≡ first_in present s
first_same None s layer = refl
first_same (Some list) s layer = refl

abbrev ring_with : ℕ → InitiatorState → Option Demand
ring_with first s =
    Some (cond (is_unwritten s.marks.pointing) (record { wanted = wants.Point (register_of s 0x08) (start (windows.Orb first)); purpose = purposes.Pointer (list_number s.lists.slots.present s.lists.slots.lists) }) (record { wanted = wants.Write (register_of s 0x10) s.counts.running; purpose = purposes.Doorbell }))

ring_same : (s : InitiatorState) (layer : Layer Purpose) → Some (ring_demand (record s { layer = layer })) ≡ Some (ring_demand s)
ring_same s layer = ap (λ (first : ℕ). ring_with first s) (first_same s.lists.slots.present s layer)

-- it does not read the transaction layer
pub demand_same : (action : Action) (s : InitiatorState) (layer : Layer Purpose) → demand_of action (record s { layer = layer }) ≡ demand_of action s
demand_same actions.Rom s layer = refl
demand_same (actions.Login unit reconnect exclusive password) s layer = refl
demand_same (actions.Query unit) s layer = refl
demand_same actions.Reconnect s layer = refl
demand_same actions.Logout s layer = refl
demand_same (actions.Abort orb) s layer = refl
demand_same actions.AbortSet s layer = refl
demand_same actions.UnitReset s layer = refl
demand_same actions.TargetReset s layer = refl
demand_same actions.AgentReset s layer = refl
demand_same actions.State s layer = ap (λ (list : Option ℕ). state_demand list s) (counted_same s.lists.slots.present s layer)
demand_same (actions.Dummy orb) s layer = refl
demand_same (actions.Put cmd) s layer = refl
demand_same (actions.Append cmd) s layer = ring_same s layer
demand_same actions.Low s layer = refl
demand_same actions.Link s layer = refl
demand_same actions.Ring s layer = ring_same s layer
demand_same actions.Enable s layer = refl

after_same : (begins : Option Operation) (s : InitiatorState) (layer : Layer Purpose) → after_by begins (record s { layer = layer }) ≡ after_by begins s
after_same None s layer = refl
after_same (Some operation) s layer = begun_same (is_managed operation) operation s layer
  where
    begun_same : (b : Bool) (operation : Operation) (s : InitiatorState) (layer : Layer Purpose) → Some (begun_as b operation (record s { layer = layer })) ≡ Some (begun_as b operation s)
    begun_same true operation s layer = refl
    begun_same false operation s layer = refl

-- of this action, where it is a read
abbrev IsAt : ℕ → Option ℕ → Type 0
IsAt acts None = Unit {0}
IsAt acts (Some act) = act ≡ acts

-- what a demand is for fits the operation that begins with it; and one that carries the running number carries this one
record Apt (operation : Option Running) (acts running : ℕ) (counted : ℕ → Option ℕ) (pointed : ℕ → Bool) (demand : Demand) : Type 0 where
  fits : FitsNow operation (acts + 1) counted (pointed_by demand.purpose pointed) demand.purpose
  value : is_numbered demand.purpose ≡ true → value_of (wanted_body demand.wanted) ≡ Some running
  read : IsAt acts (read_act demand.purpose)

some_is : {A : Type 0} (a b : A) → Some a ≡ Some b → a ≡ b
some_is a b e = cc

untrue : {A : Type 0} → false ≡ true → A
untrue e = absurd (differ e)
  where
    differ : false ≡ true → ⊥
    differ e = cc

now_earlier : (act : ℕ) → act < act + 1
now_earlier act = omega arith

-- the operation that begins is the one that its request is for
for_own : (operation : Operation) (r : Running) → r.operation ≡ operation → IsFor operation r.act (Some r)
for_own operation r e = record { same = λ running f g. ap (λ (x : Running). x.operation) (sym (some_is r running f)) ∙ e }

for_orb : (r : Running) → is_managed r.operation ≡ true → IsForOrb r.act (Some r)
for_orb r e = record { managed = λ running f g. ap (λ (x : Running). is_managed x.operation) (sym (some_is r running f)) ∙ e }

pick_apt : (c : Bool) (operation : Option Running) (acts running : ℕ) (counted : ℕ → Option ℕ) (pointed : ℕ → Bool) (x y : Demand) → Apt operation acts running counted pointed x → Apt operation acts running counted pointed y → Apt operation acts running counted pointed (cond c x y)
pick_apt true operation acts running counted pointed x y a b = a
pick_apt false operation acts running counted pointed x y a b = b

own_pointed : (n : ℕ) (b : Bool) → (nat_eq n n || b) ≡ true
own_pointed n b = ap (λ (c : Bool). c || b) (own_number n)
  where
    own_number : (n : ℕ) → nat_eq n n ≡ true
    own_number n = grind arith

ring_apt : (s : InitiatorState) (counted : ℕ → Option ℕ) (pointed : ℕ → Bool) → Apt s.operation s.counts.acts s.counts.running counted pointed (ring_demand s)
ring_apt s counted pointed =
    let n = list_number s.lists.slots.present s.lists.slots.lists in
    pick_apt (is_unwritten s.marks.pointing) s.operation s.counts.acts s.counts.running counted pointed _ _
    (record { fits = record { fits = tt; earlier = tt; counts = tt; points = own_pointed n (pointed n) }; value = λ e. untrue e; read = tt })
    (record { fits = record { fits = tt; earlier = tt; counts = tt; points = tt }; value = λ e. refl; read = tt })

orb_apt : (b : Bool) (operation : Operation) (s : InitiatorState) → is_managed operation ≡ true → IsForOrb s.counts.acts (Some (begun_as b operation s))
orb_apt true operation s m = for_orb (begun_as true operation s) m
orb_apt false operation s m = for_orb (begun_as false operation s) m

managed_apt : (operation : Operation) (s : InitiatorState) (counted : ℕ → Option ℕ) (pointed : ℕ → Bool) → is_managed operation ≡ true → Apt (after_by (Some operation) s) s.counts.acts s.counts.running counted pointed (manage_demand s)
managed_apt operation s counted pointed m = record {
  fits = record { fits = orb_apt (is_managed operation) operation s m; earlier = now_earlier s.counts.acts; counts = tt; points = tt };
  value = λ e. untrue e;
  read = tt;
}

module _ {operation : Option Running} {acts running : ℕ} {counted : ℕ → Option ℕ} {pointed : ℕ → Bool} where
  demand_is : (x y : Demand) → Some x ≡ Some y → Apt operation acts running counted pointed x → Apt operation acts running counted pointed y
  demand_is x y e a = subst (λ (d : Demand). Apt operation acts running counted pointed d) (some_is x y e) a

-- the list that a read counts for, behind an action
abbrev pub counted_act : Option ℕ → Action → InitiatorState → (ℕ → Option ℕ) → ℕ → Option ℕ
counted_act refused action s counted n =
    counted_if (begins_read refused action) (answered_list (is_answered s.marks.pointing) s.lists.slots.present) s.counts.acts counted n

own_act : (n : ℕ) → nat_eq n n ≡ true
own_act n = grind arith

list_is : (b : Bool) (list : PresentList) → cond b (Some list.tail.list) None ≡ answered_list b (Some list)
list_is true list = refl
list_is false list = refl

none_is : (b : Bool) → None ≡ answered_list b None
none_is true = refl
none_is false = refl

counts_now : (present : Option PresentList) (s : InitiatorState) → counted_list present s ≡ answered_list (is_answered s.marks.pointing) present
counts_now None s = none_is (is_answered s.marks.pointing)
counts_now (Some list) s = list_is (is_answered s.marks.pointing) list

state_counts : (s : InitiatorState) (counted : ℕ → Option ℕ) → counted_list s.lists.slots.present s ≡ counted_act None actions.State s counted s.counts.acts
state_counts s counted =
    let list = answered_list (is_answered s.marks.pointing) s.lists.slots.present in
    counts_now s.lists.slots.present s ∙ ap (λ (b : Bool). cond b list (counted s.counts.acts)) (sym (own_act s.counts.acts))

-- that of a read of an earlier action stays
other_act : (a n : ℕ) → a < n → false ≡ nat_eq a n
other_act a n h = grind arith

counts_if : (c : Bool) (list : Option ℕ) (n : ℕ) (counted : ℕ → Option ℕ) (a : ℕ) → a < n → counted a ≡ counted_if c list n counted a
counts_if true list n counted a h = ap (λ (b : Bool). cond b list (counted a)) (other_act a n h)
counts_if false list n counted a h = refl

still_counts : (purpose : Purpose) (c : Bool) (list : Option ℕ) (n : ℕ) (counted : ℕ → Option ℕ) → IsEarlier (act_in purpose) n → CountsFor counted (Some purpose) → CountsFor (counted_if c list n counted) (Some purpose)
still_counts (purposes.State act known) c list n counted h f = f ∙ counts_if c list n counted act h
still_counts (purposes.AgentReset act) c list n counted h f = tt
still_counts (purposes.Enable act) c list n counted h f = tt
still_counts (purposes.Rom act) c list n counted h f = tt
still_counts (purposes.Management act) c list n counted h f = tt
still_counts (purposes.Pointer known) c list n counted h f = tt
still_counts purposes.Doorbell c list n counted h f = tt

apt : (action : Action) (s : InitiatorState) (counted : ℕ → Option ℕ) (pointed : ℕ → Bool) (demand : Demand) → demand_of action s ≡ Some demand → Apt (after_by (operation_of action) s) s.counts.acts s.counts.running (counted_act None action s counted) pointed demand
apt actions.Rom s counted pointed demand e =
    demand_is _ demand e (record { fits = record { fits = for_own operations.Rom (begun_as false operations.Rom s) refl; earlier = now_earlier s.counts.acts; counts = tt; points = tt }; value = λ f. untrue f; read = tt })
apt (actions.Login unit reconnect exclusive password) s counted pointed demand e = demand_is _ demand e (managed_apt operations.Login s _ _ refl)
apt (actions.Query unit) s counted pointed demand e = demand_is _ demand e (managed_apt operations.Query s _ _ refl)
apt actions.Reconnect s counted pointed demand e = demand_is _ demand e (managed_apt operations.Reconnect s _ _ refl)
apt actions.Logout s counted pointed demand e = demand_is _ demand e (managed_apt operations.Logout s _ _ refl)
apt (actions.Abort orb) s counted pointed demand e = demand_is _ demand e (managed_apt operations.Abort s _ _ refl)
apt actions.AbortSet s counted pointed demand e = demand_is _ demand e (managed_apt operations.AbortSet s _ _ refl)
apt actions.UnitReset s counted pointed demand e = demand_is _ demand e (managed_apt operations.UnitReset s _ _ refl)
apt actions.TargetReset s counted pointed demand e = demand_is _ demand e (managed_apt operations.TargetReset s _ _ refl)
apt actions.AgentReset s counted pointed demand e =
    demand_is _ demand e (record { fits = record { fits = for_own operations.AgentReset (begun_as false operations.AgentReset s) refl; earlier = now_earlier s.counts.acts; counts = tt; points = tt }; value = λ f. refl; read = tt })
apt actions.State s counted pointed demand e =
    demand_is _ demand e (record { fits = record { fits = tt; earlier = now_earlier s.counts.acts; counts = state_counts s counted; points = tt }; value = λ f. untrue f; read = refl })
apt (actions.Dummy orb) s counted pointed demand e = none_some e
apt (actions.Put cmd) s counted pointed demand e = none_some e
apt (actions.Append cmd) s counted pointed demand e = demand_is _ demand e (ring_apt s _ _)
apt actions.Low s counted pointed demand e = none_some e
apt actions.Link s counted pointed demand e = none_some e
apt actions.Ring s counted pointed demand e = demand_is _ demand e (ring_apt s _ _)
apt actions.Enable s counted pointed demand e =
    demand_is _ demand e (record { fits = record { fits = for_own operations.Enable (begun_as false operations.Enable s) refl; earlier = now_earlier s.counts.acts; counts = tt; points = tt }; value = λ f. untrue f; read = tt })

-- ---- the transactions of earlier actions

clash : {A : Type 0} (a b c : ℕ) → a < b → b ≡ c → c ≡ a → A
clash a b c h e g = absurd (both a b c h e g)
  where
    both : (a b c : ℕ) → a < b → b ≡ c → c ≡ a → ⊥
    both a b c h e g = omega arith

other_for : (operation : Operation) (act : ℕ) (r : Running) → act < r.act → IsFor operation act (Some r)
other_for operation act r h =
    record { same = λ running f g. clash act r.act running.act h (ap (λ (x : Running). x.act) (some_is r running f)) g }

other_orb : (act : ℕ) (r : Running) → act < r.act → IsForOrb act (Some r)
other_orb act r h =
    record { managed = λ running f g. clash act r.act running.act h (ap (λ (x : Running). x.act) (some_is r running f)) g }

earlier_fits : (purpose : Purpose) (r : Running) → IsEarlier (act_in purpose) r.act → Fits purpose (Some r)
earlier_fits (purposes.AgentReset act) r h = other_for operations.AgentReset act r h
earlier_fits (purposes.Enable act) r h = other_for operations.Enable act r h
earlier_fits (purposes.Rom act) r h = other_for operations.Rom act r h
earlier_fits (purposes.Management act) r h = other_orb act r h
earlier_fits (purposes.Pointer list) r h = tt
earlier_fits purposes.Doorbell r h = tt
earlier_fits (purposes.State act list) r h = tt

earlier_on : (act : Option ℕ) (n : ℕ) → IsEarlier act n → IsEarlier act (n + 1)
earlier_on None n h = tt
earlier_on (Some act) n h = step act n h
  where
    step : (a n : ℕ) → a < n → a < n + 1
    step a n h = omega arith

begun_act : (b : Bool) (operation : Operation) (s : InitiatorState) → (begun_as b operation s).act ≡ s.counts.acts
begun_act true operation s = refl
begun_act false operation s = refl

-- more was asked for
still_pointed : (purpose : Purpose) (old new : ℕ → Bool) → ((n : ℕ) → old n ≡ true → new n ≡ true) → WasPointed old purpose → WasPointed new purpose
still_pointed (purposes.Pointer list) old new more h = more list h
still_pointed (purposes.AgentReset act) old new more h = tt
still_pointed (purposes.Enable act) old new more h = tt
still_pointed (purposes.Rom act) old new more h = tt
still_pointed (purposes.Management act) old new more h = tt
still_pointed (purposes.State act list) old new more h = tt
still_pointed purposes.Doorbell old new more h = tt

or_more : (a b : Bool) → b ≡ true → (a || b) ≡ true
or_more true b e = refl
or_more false b e = e

more_pointed : (purpose : Purpose) (pointed : ℕ → Bool) (n : ℕ) → pointed n ≡ true → pointed_by purpose pointed n ≡ true
more_pointed (purposes.Pointer list) pointed n h = or_more (nat_eq list n) (pointed n) h
more_pointed (purposes.AgentReset act) pointed n h = h
more_pointed (purposes.Enable act) pointed n h = h
more_pointed (purposes.Rom act) pointed n h = h
more_pointed (purposes.Management act) pointed n h = h
more_pointed (purposes.State act list) pointed n h = h
more_pointed purposes.Doorbell pointed n h = h

-- by the list that a read counts for which begins with the action
still_fits : (begins : Option Operation) (s : InitiatorState) (c : Bool) (list : Option ℕ) (counted : ℕ → Option ℕ) (old new : ℕ → Bool) → ((n : ℕ) → old n ≡ true → new n ≡ true) → (purpose : Purpose) → FitsNow s.operation s.counts.acts counted old purpose → FitsNow (after_by begins s) (s.counts.acts + 1) (counted_if c list s.counts.acts counted) new purpose
still_fits None s c list counted old new more purpose f = record {
  fits = f.fits;
  earlier = earlier_on (act_in purpose) s.counts.acts f.earlier;
  counts = still_counts purpose c list s.counts.acts counted f.earlier f.counts;
  points = still_pointed purpose old new more f.points;
}
still_fits (Some operation) s c list counted old new more purpose f =
    let r = begun_as (is_managed operation) operation s in
    record {
      fits = earlier_fits purpose r (subst (λ (n : ℕ). IsEarlier (act_in purpose) n) (sym (begun_act (is_managed operation) operation s)) f.earlier);
      earlier = earlier_on (act_in purpose) s.counts.acts f.earlier;
      counts = still_counts purpose c list s.counts.acts counted f.earlier f.counts;
      points = still_pointed purpose old new more f.points;
    }

-- ---- what holds of the operation that begins

orb_as : (b : Bool) (operation : Operation) (s : InitiatorState) → is_managed operation ≡ b → HasOrb (Some (begun_as b operation s))
orb_as true operation s m =
    record { managed = λ running e f. ap (λ (x : Running). is_managed x.operation) (sym (some_is (begun_as true operation s) running e)) ∙ m }
orb_as false operation s m =
    record { managed = λ running e f. untrue (ap (λ (x : Running). is_some x.managed) (some_is (begun_as false operation s) running e) ∙ f) }

orb_after : (begins : Option Operation) (s : InitiatorState) → HasOrb s.operation → HasOrb (after_by begins s)
orb_after None s h = h
orb_after (Some operation) s h = orb_as (is_managed operation) operation s refl

begun_after : (begins : Option Operation) (s : InitiatorState) → IsBegun s.operation s.counts.acts → IsBegun (after_by begins s) (s.counts.acts + 1)
begun_after None s h = record { before = λ r e. step r.act s.counts.acts (h.before r e) }
  where
    step : (a n : ℕ) → a < n → a < n + 1
    step a n h = omega arith
begun_after (Some operation) s h =
    record { before = λ r e. last r.act s.counts.acts (ap (λ (x : Running). x.act) (sym (some_is (begun_as (is_managed operation) operation s) r e)) ∙ begun_act (is_managed operation) operation s) }
  where
    last : (a n : ℕ) → a ≡ n → a < n + 1
    last a n h = omega arith

-- ---- what the places of management hold

orb_same : (action : Action) (s : InitiatorState) (layer : Layer Purpose) → orb_in (operation_of action) action (record s { layer = layer }) ≡ orb_in (operation_of action) action s
orb_same actions.Rom s layer = refl
orb_same (actions.Login unit reconnect exclusive password) s layer = refl
orb_same (actions.Query unit) s layer = refl
orb_same actions.Reconnect s layer = refl
orb_same actions.Logout s layer = refl
orb_same (actions.Abort orb) s layer = refl
orb_same actions.AbortSet s layer = refl
orb_same actions.UnitReset s layer = refl
orb_same actions.TargetReset s layer = refl
orb_same actions.AgentReset s layer = refl
orb_same actions.State s layer = refl
orb_same (actions.Dummy orb) s layer = refl
orb_same (actions.Put cmd) s layer = refl
orb_same (actions.Append cmd) s layer = refl
orb_same actions.Low s layer = refl
orb_same actions.Link s layer = refl
orb_same actions.Ring s layer = refl
orb_same actions.Enable s layer = refl

pick_sized : (c : Bool) (x y : List ℕ) → length x ≡ 32 → length y ≡ 32 → length (cond c x y) ≡ 32
pick_sized true x y a b = a
pick_sized false x y a b = b

with_orb_sized : (orb : Option ManagementOrb) (place : ℕ) (held : ℕ → List ℕ) → ((m : ℕ) → length (held m) ≡ 32) → (m : ℕ) → length (with_orb orb place held m) ≡ 32
with_orb_sized None place held h m = h m
with_orb_sized (Some orb) place held h m = pick_sized (nat_eq place m) (management_bytes orb) (held m) refl (h m)

-- ---- an action as a whole

-- what holds where a step left this
record Left (node : ℕ) (held : Past) (counted : ℕ → Option ℕ) (demand : Option Demand) (begins : Option Operation) (o : OutboxState) (s : InitiatorState) (t : Turn) : Type 0 where
  operation : t.1.operation ≡ after_by begins s
  acts : t.1.counts.acts ≡ s.counts.acts + 1
  running : t.1.counts.running ≡ used demand s.counts.running
  marks : Holds held t.1.lists t.1.marks.pointing
  sized : (m : ℕ) → length (held.places m) ≡ 32
  wires : Wire (FitsNow (after_by begins s) (s.counts.acts + 1) counted held.pointed) t.1.states node (used demand s.counts.running) t.1.layer t.0.packets

left_sound : (node : ℕ) (held new : Past) (counted next : ℕ → Option ℕ) (demand : Option Demand) (begins : Option Operation) (o : OutboxState) (s : InitiatorState) (t : Turn) → Sound node held counted (o, s) → Left node new next demand begins o s t → Sound node new next t
left_sound node held new counted next demand begins o s t k l = record {
  wires = record {
    calls = l.wires.calls;
    layer_is = l.wires.layer_is;
    packets_are = l.wires.packets_are;
    rises = subst (λ (n : ℕ). RisesTo n (carried node l.wires.calls)) (sym l.running) l.wires.rises;
    asks = subst (λ (r : Option Running). AllAsk (FitsNow r t.1.counts.acts next new.pointed) l.wires.calls) (sym l.operation) (subst (λ (n : ℕ). AllAsk (FitsNow (after_by begins s) n next new.pointed) l.wires.calls) (sym l.acts) l.wires.asks);
    new = l.wires.new;
    lives = l.wires.lives;
  };
  marks = l.marks;
  sized = l.sized;
  orb = subst (λ (r : Option Running). HasOrb r) (sym l.operation) (orb_after begins s k.orb);
  begun = subst (λ (r : Option Running). IsBegun r t.1.counts.acts) (sym l.operation) (subst (λ (n : ℕ). IsBegun (after_by begins s) n) (sym l.acts) (begun_after begins s k.begun));
}

-- the layer as it was, by transactions that fit still
kept_wire : (node : ℕ) (begins : Option Operation) (read : Bool) (list : Option ℕ) (counted : ℕ → Option ℕ) (old new : ℕ → Bool) (o : OutboxState) (s : InitiatorState) → ((n : ℕ) → old n ≡ true → new n ≡ true) → Wire (FitsNow s.operation s.counts.acts counted old) s.states node s.counts.running s.layer o.packets → Wire (FitsNow (after_by begins s) (s.counts.acts + 1) (counted_if read list s.counts.acts counted) new) s.states node s.counts.running s.layer o.packets
kept_wire node begins read list counted old new o s more w = record {
  calls = w.calls;
  layer_is = w.layer_is;
  packets_are = w.packets_are;
  rises = w.rises;
  asks = all_ask (FitsNow s.operation s.counts.acts counted old) (FitsNow (after_by begins s) (s.counts.acts + 1) (counted_if read list s.counts.acts counted) new) (still_fits begins s read list counted old new more) w.calls w.asks;
  new = w.new;
  lives = w.lives;
}

-- its own read is of no earlier action
later_act : (act n : ℕ) → act < n → act ≡ n → ⊥
later_act act n h e = omega arith

not_earlier : (n : ℕ) (purpose : Purpose) → IsEarlier (act_in purpose) n → IsNot n purpose
not_earlier n (purposes.State act list) h e = later_act act n h (some_is act n e)
not_earlier n (purposes.AgentReset act) h e = none_some e
not_earlier n (purposes.Enable act) h e = none_some e
not_earlier n (purposes.Rom act) h e = none_some e
not_earlier n (purposes.Management act) h e = none_some e
not_earlier n (purposes.Pointer list) h e = none_some e
not_earlier n purposes.Doorbell h e = none_some e

new_at : (a : Option ℕ) (s : InitiatorState) (counted : ℕ → Option ℕ) (pointed : ℕ → Bool) (calls : List (wire.Call Purpose)) → IsAt s.counts.acts a → AllAsk (FitsNow s.operation s.counts.acts counted pointed) calls → IsNew a calls
new_at None s counted pointed calls e asks = tt
new_at (Some act) s counted pointed calls e asks =
    subst (λ (n : ℕ). AllAsk (IsNot n) calls) (sym e)
    (all_ask (FitsNow s.operation s.counts.acts counted pointed) (IsNot s.counts.acts) (λ p f. not_earlier s.counts.acts p f.earlier) calls asks)

-- what the action makes of the reads is by its request
as_read : (purpose : Purpose) (action : Action) (acts : ℕ) (reads : List ℕ) → is_some (read_act purpose) ≡ is_read action → IsAt acts (read_act purpose) → read_begun None action acts reads ≡ reads_with (read_act purpose) reads
as_read purpose action acts reads e h = read_as_is (read_act purpose) (is_read action) acts reads e h
  where
    read_as_is : (a : Option ℕ) (c : Bool) (acts : ℕ) (reads : List ℕ) → is_some a ≡ c → IsAt acts a → cond c (reads ++ acts ∷ []) reads ≡ reads_with a reads
    read_as_is None true acts reads e h = untrue e
    read_as_is None false acts reads e h = refl
    read_as_is (Some act) true acts reads e h = ap (λ (n : ℕ). reads ++ n ∷ []) (sym h)
    read_as_is (Some act) false acts reads e h = untrue (sym e)

of_demand : (x demand : Demand) (action : Action) → Some x ≡ Some demand → is_some (read_act x.purpose) ≡ is_read action → is_some (read_act demand.purpose) ≡ is_read action
of_demand x demand action e f = subst (λ (d : Demand). is_some (read_act d.purpose) ≡ is_read action) (some_is x demand e) f

ring_reads : (c : Bool) (x y : Demand) → read_act x.purpose ≡ None → read_act y.purpose ≡ None → is_some (read_act (cond c x y).purpose) ≡ false
ring_reads true x y e f = ap is_some e
ring_reads false x y e f = ap is_some f

demand_reads : (action : Action) (s : InitiatorState) (demand : Demand) → demand_of action s ≡ Some demand → is_some (read_act demand.purpose) ≡ is_read action
demand_reads actions.Rom s demand e = of_demand _ demand actions.Rom e refl
demand_reads (actions.Login unit reconnect exclusive password) s demand e = of_demand _ demand (actions.Login unit reconnect exclusive password) e refl
demand_reads (actions.Query unit) s demand e = of_demand _ demand (actions.Query unit) e refl
demand_reads actions.Reconnect s demand e = of_demand _ demand actions.Reconnect e refl
demand_reads actions.Logout s demand e = of_demand _ demand actions.Logout e refl
demand_reads (actions.Abort orb) s demand e = of_demand _ demand (actions.Abort orb) e refl
demand_reads actions.AbortSet s demand e = of_demand _ demand actions.AbortSet e refl
demand_reads actions.UnitReset s demand e = of_demand _ demand actions.UnitReset e refl
demand_reads actions.TargetReset s demand e = of_demand _ demand actions.TargetReset e refl
demand_reads actions.AgentReset s demand e = of_demand _ demand actions.AgentReset e refl
demand_reads actions.State s demand e = of_demand _ demand actions.State e refl
demand_reads (actions.Dummy orb) s demand e = none_some e
demand_reads (actions.Put cmd) s demand e = none_some e
demand_reads (actions.Append cmd) s demand e =
    of_demand _ demand (actions.Append cmd) e (ring_reads (is_unwritten s.marks.pointing) _ _ refl refl)
demand_reads actions.Low s demand e = none_some e
demand_reads actions.Link s demand e = none_some e
demand_reads actions.Ring s demand e = of_demand _ demand actions.Ring e (ring_reads (is_unwritten s.marks.pointing) _ _ refl refl)
demand_reads actions.Enable s demand e = of_demand _ demand actions.Enable e refl

-- an action without a request is no read
none_read : (action : Action) (s : InitiatorState) (acts : ℕ) (reads : List ℕ) → demand_of action s ≡ None → read_begun None action acts reads ≡ reads
none_read actions.State s acts reads e = absurd (differ e)
  where
    differ : {A : Type 0} {a : A} → Some a ≡ None → ⊥
    differ e = cc
none_read actions.Rom s acts reads e = refl
none_read (actions.Login unit reconnect exclusive password) s acts reads e = refl
none_read (actions.Query unit) s acts reads e = refl
none_read actions.Reconnect s acts reads e = refl
none_read actions.Logout s acts reads e = refl
none_read (actions.Abort orb) s acts reads e = refl
none_read actions.AbortSet s acts reads e = refl
none_read actions.UnitReset s acts reads e = refl
none_read actions.TargetReset s acts reads e = refl
none_read actions.AgentReset s acts reads e = refl
none_read (actions.Dummy orb) s acts reads e = refl
none_read (actions.Put cmd) s acts reads e = refl
none_read (actions.Append cmd) s acts reads e = refl
none_read actions.Low s acts reads e = refl
none_read actions.Link s acts reads e = refl
none_read actions.Ring s acts reads e = refl
none_read actions.Enable s acts reads e = refl

-- with the request of an action
asked_as_wire : (c : Bool) (node : ℕ) (begins : Option Operation) (read : Bool) (list : Option ℕ) (counted : ℕ → Option ℕ) (pointed : ℕ → Bool) (demand : Demand) (asked : Asked) (layer : Layer Purpose) (o : OutboxState) (s : InitiatorState) → is_numbered demand.purpose ≡ c → asked_for demand s ≡ (Some asked, layer) → Apt (after_by begins s) s.counts.acts s.counts.running (counted_if read list s.counts.acts counted) pointed demand → Wire (FitsNow s.operation s.counts.acts counted pointed) s.states node s.counts.running s.layer o.packets → Wire (FitsNow (after_by begins s) (s.counts.acts + 1) (counted_if read list s.counts.acts counted) (pointed_by demand.purpose pointed)) (reads_with (read_act demand.purpose) s.states) node (cond c (s.counts.running + 1) s.counts.running) layer (o.packets ++ outgoing s.target asked ∷ [])
unfolding kept_wire
asked_as_wire true node begins read list counted pointed demand asked layer o s n e a w =
    subst (λ (x : Option ℕ). Wire (FitsNow (after_by begins s) (s.counts.acts + 1) (counted_if read list s.counts.acts counted) (pointed_by demand.purpose pointed)) (reads_with x s.states) node (s.counts.running + 1) layer (o.packets ++ outgoing s.target asked ∷ [])) (sym (numbered_none demand.purpose n))
    (number_wire s.target (wanted_body demand.wanted) demand.purpose asked layer e n (a.value n) a.fits (kept_wire node begins read list counted pointed (pointed_by demand.purpose pointed) o s (more_pointed demand.purpose pointed) w))
asked_as_wire false node begins read list counted pointed demand asked layer o s n e a w =
    ask_wire s.target (wanted_body demand.wanted) demand.purpose asked layer e n a.fits (kept_wire node begins read list counted pointed (pointed_by demand.purpose pointed) o s (more_pointed demand.purpose pointed) w) (new_at (read_act demand.purpose) s counted pointed w.calls a.read w.asks)

-- what is remembered of an action, where it is not refused
abbrev pub pointed_if : Option ℕ → Option Demand → (ℕ → Bool) → ℕ → Bool
pointed_if (Some number) demand pointed n = pointed n
pointed_if None demand pointed n = pointed_after demand pointed n

abbrev pub past_if : Option ℕ → Action → InitiatorState → Past → Past
past_if refused action s held =
    record { places = held_if refused action s held.places; pointed = pointed_if refused (demand_of action s) held.pointed }

-- what an action is refused for, or what it tells, and what holds afterwards
pub record Acted (node : ℕ) (held : Past) (counted : ℕ → Option ℕ) (action : Action) (o : OutboxState) (s : InitiatorState) (r : Option ℕ × Turn) : Type 0 where
  pub begins : r.0 ≡ None → Begins action o s r.1
  pub sound : Sound node (past_if r.0 action s held) (counted_act r.0 action s counted) r.1

some_none : {A : Type 0} {n : ℕ} → Some n ≡ None → A
some_none e = absurd (differ e)
  where
    differ : {n : ℕ} → Some n ≡ None → ⊥
    differ e = cc

sent_acted : (node : ℕ) (held : Past) (counted : ℕ → Option ℕ) (action : Action) (demand : Demand) (asked : Asked) (layer : Layer Purpose) (o : OutboxState) (s : InitiatorState) → Sound node held counted (o, s) → Allowed action s → demand_of action s ≡ Some demand → asked_for demand s ≡ (Some asked, layer) → Acted node held counted action o s (asked_as (Some asked, layer) action o s)
sent_acted node held counted action demand asked layer o s k a e f =
    let u = record s { layer = layer } in
    let d0 = done_does action o u (record { prepares = a.prepares; rings = a.rings; marks = k.marks.marks }) in
    let d : Done (Some demand) (operation_of action) (orb_in (operation_of action) action s) o u (done_step action o u) = subst (λ (x : Option Demand). Done x (operation_of action) (orb_in (operation_of action) action s) o u (done_step action o u)) (demand_same action s layer ∙ e)
    (subst (λ (x : Option ManagementOrb). Done (demand_of action u) (operation_of action) x o u (done_step action o u)) (orb_same action s layer) d0) in
    record {
      begins = λ g. record { news = d.news; sides = d.sides; steps = d.steps; free = a.free; operation = d.operation ∙ after_same (operation_of action) s layer };
      sound = subst (λ (d : Option Demand). Sound node (record { places = held_if None action s held.places; pointed = pointed_after d held.pointed }) (counted_act None action s counted) (asked_as (Some asked, layer) action o s).1) (sym e)
          (left_sound node held (remembered (orb_in (operation_of action) action s) (place_of s.counts.managed) (Some demand) held) counted (counted_act None action s counted) (Some demand) (operation_of action) o s (asked_as (Some asked, layer) action o s).1 k
          (record {
            operation = d.operation ∙ after_same (operation_of action) s layer;
            acts = ap (λ (n : ℕ). n + 1) d.acts;
            running = d.running;
            marks = d.marks held k.sized k.marks;
            sized = with_orb_sized (orb_in (operation_of action) action s) (place_of s.counts.managed) held.places k.sized;
            wires = subst (λ (x : List ℕ). Wire (FitsNow (after_by (operation_of action) s) (s.counts.acts + 1) (counted_act None action s counted) (pointed_by demand.purpose held.pointed)) x node (used (Some demand) s.counts.running) (done_step action o u).1.layer ((done_step action o u).0.packets ++ outgoing s.target asked ∷ [])) (sym (done_reads action o u a.prepares ∙ as_read demand.purpose action s.counts.acts s.states (demand_reads action s demand e) (apt action s counted held.pointed demand e).read))
                (subst (λ (l : Layer Purpose). Wire (FitsNow (after_by (operation_of action) s) (s.counts.acts + 1) (counted_act None action s counted) (pointed_by demand.purpose held.pointed)) (reads_with (read_act demand.purpose) s.states) node (used (Some demand) s.counts.running) l ((done_step action o u).0.packets ++ outgoing s.target asked ∷ [])) (sym d.layer)
                (subst (λ (ps : List Outgoing). Wire (FitsNow (after_by (operation_of action) s) (s.counts.acts + 1) (counted_act None action s counted) (pointed_by demand.purpose held.pointed)) (reads_with (read_act demand.purpose) s.states) node (used (Some demand) s.counts.running) layer (ps ++ outgoing s.target asked ∷ [])) (sym d.packets)
                (asked_as_wire (is_numbered demand.purpose) node (operation_of action) (is_read action) (answered_list (is_answered s.marks.pointing) s.lists.slots.present) counted held.pointed demand asked layer o s refl f (apt action s counted held.pointed demand e) k.wires)));
          }));
    }

none_acted : (node : ℕ) (held : Past) (counted : ℕ → Option ℕ) (action : Action) (demand : Demand) (layer : Layer Purpose) (o : OutboxState) (s : InitiatorState) → Sound node held counted (o, s) → layer ≡ s.layer → Acted node held counted action o s (asked_as (None, layer) action o s)
none_acted node held counted action demand layer o s k e = record {
  begins = λ g. some_none g;
  sound = subst (λ (l : Layer Purpose). Sound node held counted (o, record s { layer = l })) (sym e) k;
}

asked_acted : (r : Option Asked × Layer Purpose) (node : ℕ) (held : Past) (counted : ℕ → Option ℕ) (action : Action) (demand : Demand) (o : OutboxState) (s : InitiatorState) → Sound node held counted (o, s) → Allowed action s → demand_of action s ≡ Some demand → asked_for demand s ≡ r → Acted node held counted action o s (asked_as r action o s)
asked_acted (None, layer) node held counted action demand o s k a e f =
    none_acted node held counted action demand layer o s k (none_asked s.layer layer s.target (wanted_body demand.wanted) demand.purpose (sym f))
asked_acted (Some asked, layer) node held counted action demand o s k a e f = sent_acted node held counted action demand asked layer o s k a e f

demanded_acted : (demand : Option Demand) (node : ℕ) (held : Past) (counted : ℕ → Option ℕ) (action : Action) (o : OutboxState) (s : InitiatorState) → Sound node held counted (o, s) → Allowed action s → demand_of action s ≡ demand → Acted node held counted action o s (demanded_as demand action o s)
demanded_acted None node held counted action o s k a e =
    let d0 = done_does action o s (record { prepares = a.prepares; rings = a.rings; marks = k.marks.marks }) in
    let d : Done None (operation_of action) (orb_in (operation_of action) action s) o s (done_step action o s) = subst (λ (x : Option Demand). Done x (operation_of action) (orb_in (operation_of action) action s) o s (done_step action o s)) e d0 in
    record {
      begins = λ g. record { news = d.news; sides = d.sides; steps = d.steps; free = a.free; operation = d.operation };
      sound = subst (λ (d : Option Demand). Sound node (record { places = held_if None action s held.places; pointed = pointed_after d held.pointed }) (counted_act None action s counted) (demanded_as None action o s).1) (sym e)
          (left_sound node held (remembered (orb_in (operation_of action) action s) (place_of s.counts.managed) None held) counted (counted_act None action s counted) None (operation_of action) o s (demanded_as None action o s).1 k
          (record {
            operation = d.operation;
            acts = ap (λ (n : ℕ). n + 1) d.acts;
            running = d.running;
            marks = d.marks held k.sized k.marks;
            sized = with_orb_sized (orb_in (operation_of action) action s) (place_of s.counts.managed) held.places k.sized;
            wires = subst (λ (x : List ℕ). Wire (FitsNow (after_by (operation_of action) s) (s.counts.acts + 1) (counted_act None action s counted) held.pointed) x node s.counts.running (done_step action o s).1.layer (done_step action o s).0.packets) (sym (done_reads action o s a.prepares ∙ none_read action s s.counts.acts s.states e))
                (subst (λ (l : Layer Purpose). Wire (FitsNow (after_by (operation_of action) s) (s.counts.acts + 1) (counted_act None action s counted) held.pointed) s.states node s.counts.running l (done_step action o s).0.packets) (sym d.layer)
                (subst (λ (ps : List Outgoing). Wire (FitsNow (after_by (operation_of action) s) (s.counts.acts + 1) (counted_act None action s counted) held.pointed) s.states node s.counts.running s.layer ps) (sym d.packets)
                (kept_wire node (operation_of action) (is_read action) (answered_list (is_answered s.marks.pointing) s.lists.slots.present) counted held.pointed held.pointed o s (λ n h. h) k.wires)));
          }));
    }
demanded_acted (Some demand) node held counted action o s k a e = asked_acted (asked_for demand s) node held counted action demand o s k a e refl

judged_acted : (r : Option ℕ) (node : ℕ) (held : Past) (counted : ℕ → Option ℕ) (action : Action) (o : OutboxState) (s : InitiatorState) → Sound node held counted (o, s) → refusal action (facts_with true s action) ≡ r → Acted node held counted action o s (judged_as r action o s)
judged_acted (Some number) node held counted action o s k e = record { begins = λ g. some_none g; sound = k }
judged_acted None node held counted action o s k e = demanded_acted (demand_of action s) node held counted action o s k (allowed action s e) refl

pub act_acted : (node : ℕ) (held : Past) (counted : ℕ → Option ℕ) (action : Action) (o : OutboxState) (s : InitiatorState) → Sound node held counted (o, s) → Acted node held counted action o s (act_step action o s)
unfolding act_step
act_acted node held counted action o s k = judged_acted (refusal action (facts_with true s action)) node held counted action o s k refl
