-- An action of an initiator keeps what the world counts, and appends one ORB at most.
use Rattle.sbp_world.proofs.Words.Std.{◌≡◌, refl, sym, ◌∙◌, ap, subst, arith}
use Rattle.sbp_world.proofs.Words.Wire.{Asked, Layer, Moment, buffer_of, OutboxState, Action, Cmd, Operation, weight_of}
use Rattle.sbp_world.proofs.Words.Initiator.{Memory, ManagementOrb, ListFault, PresentList, TicketParts, SlotTable, find_in, list_number, lists_begun, orb_number, Demand, Purpose, InitiatorState, dummy_lists, high_lists, low_lists, manage_lists, pin_lists, stepped, with_parts, asked_by, prepared_as, put_lists, refusal, is_unwritten, last_linked, Turn, told, IsAction, act_step, append_step, asked_as, asked_for, demand_of, demanded_as, done_step, dummy_for, facts_with, judged_as, link_as, link_step, login_id, login_orb, low_as, low_step, manage_start, managed_by, orb_by, pinned_for, put_as, put_step, ring_for}
use Rattle.sbp_world.proofs.Words.Laws.{cmd_of, event_of}
use Rattle.sbp_world.proofs.Words.World.{weight_in, WorldState}
use Rattle.std.specs.Prelude.{ℕ, suc, ◌+◌, ◌^◌, ◌<◌, ◌≤◌, ◌==◌, is_some, Bool, true, false, cond, List, [], ◌∷◌, ◌++◌, Option, Some, None, Result, Ok, Err}
use Rattle.orb_list.specs.Table as table
use Rattle.sbp_journal.specs.declared.event.Action.TheVariants as actions
use Rattle.sbp_journal.specs.declared.event.Event.TheVariants as events
use Rattle.sbp_journal.specs.declared.note.Note.TheVariants as notes
use Rattle.sbp_journal.specs.declared.operation.Operation.TheVariants as operations
use Rattle.sbp_journal.specs.declared.side.Side.TheVariants as sides
use Rattle.sbp_world.proofs.Wire.Counted.{most_share}
use Rattle.sbp_world.proofs.Wire.OwnCalls as calls
use Rattle.sbp_world.proofs.Wire.OwnCounts.{Own, appends_first, appends_next, history, latest, widens}
use Rattle.sbp_world.proofs.Wire.Pieces.{weight_few}
use Rattle.sbp_world.proofs.Wire.Slotted.{Prepares, Same, prepares, present_key, refused, same_dummy, same_high, same_low, same_pin}

module _ (past : List Moment) (weight : ℕ) (w : WorldState) (i n : ℕ) (inside : i < n) (begun : ℕ → ℕ) (keys : ℕ → Option (ℕ × ℕ)) (most : ℕ) (small : most + most_share < 2 ^ 64) where
  -- before, and once an ORB may have been appended
  abbrev Before : Turn → Type 0
  Before t = calls.At past weight w i n inside begun keys most t

  abbrev pub After : Turn → Type 0
  After t = calls.At past weight w i n inside begun keys (most + most_share) t

  wider : (t : Turn) → Before t → After t
  wider t h = widens past weight w i n inside begun keys most (most + most_share) t.0.sides t.1.number t.1.lists.slots (omega arith) small h

  slots : (o : OutboxState) (s : InitiatorState) (t : SlotTable) → Same s.lists.slots t → After (o, s) → Own past weight w i n inside begun keys (most + most_share) o.sides s.number t
  slots o s t same h = calls.slots past weight w i n inside begun keys (most + most_share) o s t same h

  pick_state : (b : Bool) (o : OutboxState) (x y : InitiatorState) → After (o, x) → After (o, y) → After (o, cond b x y)
  pick_state b o x y h g = calls.pick_state past weight w i n inside begun keys (most + most_share) b o x y h g

  -- ---- an ORB is put
  module _ (cmd : Cmd) (asks : cmd_of (event_of (history w past)) ≡ Some cmd) (weighs : weight ≡ weight_of cmd) (light : weight ≤ most_share) where
    appends_by : (present : Option PresentList) (o : OutboxState) (s : InitiatorState) (t : SlotTable) (u : TicketParts) → s.lists.slots.present ≡ present → s.number ≡ i → Prepares s.lists.slots t u → Own past weight w i n inside begun keys most o.sides i s.lists.slots → Own past weight w i n inside begun keys (most + most_share) (o.sides ++ sides.Own (notes.Append i u.list u.number cmd.cdb (buffer_of cmd)) ∷ []) i t
    appends_by None o s t u e number p own =
        let z = s.lists.slots in
        let list : u.list ≡ z.lists = p.list_is ∙ ap (λ x. list_number x z.lists) e in
        let orb : u.number ≡ 0 = p.number_is ∙ ap orb_number e in
        let key : present_key t.present ≡ Some (z.lists, 0) = p.key ∙ ap (λ x. Some (list_number x z.lists, orb_number x)) e in
        subst (λ x. Own past weight w i n inside begun keys (most + most_share) (o.sides ++ sides.Own (notes.Append i x u.number cmd.cdb (buffer_of cmd)) ∷ []) i t) (sym list)
        (subst (λ x. Own past weight w i n inside begun keys (most + most_share) (o.sides ++ sides.Own (notes.Append i z.lists x cmd.cdb (buffer_of cmd)) ∷ []) i t) (sym orb)
        (appends_first past weight w i n inside begun keys most o.sides z t cmd cmd.cdb (buffer_of cmd) asks weighs light small own e key (p.lists ∙ ap (λ x. lists_begun x z.lists) e) p.slots))
    appends_by (Some list) o s t u e number p own =
        let z = s.lists.slots in
        let m = list.tail.list in
        let k = list.tail.number in
        let next : k + 1 ≡ suc k = omega arith in
        let is : u.list ≡ m = p.list_is ∙ ap (λ x. list_number x z.lists) e in
        let orb : u.number ≡ suc k = p.number_is ∙ ap orb_number e ∙ next in
        let key : present_key t.present ≡ Some (m, suc k) = p.key ∙ ap (λ x. Some (list_number x z.lists, orb_number x)) e ∙ ap (λ x. Some (m, x)) next in
        subst (λ x. Own past weight w i n inside begun keys (most + most_share) (o.sides ++ sides.Own (notes.Append i x u.number cmd.cdb (buffer_of cmd)) ∷ []) i t) (sym is)
        (subst (λ x. Own past weight w i n inside begun keys (most + most_share) (o.sides ++ sides.Own (notes.Append i m x cmd.cdb (buffer_of cmd)) ∷ []) i t) (sym orb)
        (appends_next past weight w i n inside begun keys most o.sides z t cmd cmd.cdb (buffer_of cmd) asks weighs light small own list e key (p.lists ∙ ap (λ x. lists_begun x z.lists) e) p.slots))

    puts_by : (r : Result TicketParts ListFault × (SlotTable × Memory)) (node login : ℕ) (o : OutboxState) (s : InitiatorState) → table.prepare_step s.lists.slots s.lists.memory (asked_by cmd node login) ≡ r → Before (o, s) → After (put_as (prepared_as r s.lists cmd) cmd o s)
    puts_by (Err fault, (t, m)) node login o s e h =
        let same : t ≡ s.lists.slots =
        sym (ap (λ (x : Result TicketParts ListFault × (SlotTable × Memory)). x.1.0) e)
        ∙ refused s.lists.slots s.lists.memory (asked_by cmd node login) fault (ap (λ (x : Result TicketParts ListFault × (SlotTable × Memory)). x.0) e) in
        wider (o, record s { lists = with_parts s.lists (t, m) }) (subst (λ z. Own past weight w i n inside begun keys most o.sides s.number z) (sym same) h)
    puts_by (Ok u, (t, m)) node login o s e h =
        let p = subst (λ (x : Result TicketParts ListFault × (SlotTable × Memory)). Prepares s.lists.slots x.1.0 u) e
        (prepares s.lists.slots s.lists.memory (asked_by cmd node login) u (latest past weight w i n inside begun keys most o.sides s.number s.lists.slots h) (ap (λ (x : Result TicketParts ListFault × (SlotTable × Memory)). x.0) e)) in
        let number = h.number_is in
        let now = told o (notes.Append s.number u.list u.number cmd.cdb (buffer_of cmd)) in
        let lists = (prepared_as (Ok u, (t, m)) s.lists cmd).1 in
        let x : After (now, record s { lists = lists }) =
        subst (λ j. Own past weight w i n inside begun keys (most + most_share) (o.sides ++ sides.Own (notes.Append j u.list u.number cmd.cdb (buffer_of cmd)) ∷ []) j t) (sym number)
        (appends_by s.lists.slots.present o s t u refl number p (subst (λ j. Own past weight w i n inside begun keys most o.sides j s.lists.slots) number h)) in
        pick_state (u.number == 0) now _ (record s { lists = lists }) x x

    puts : (o : OutboxState) (s : InitiatorState) → Before (o, s) → After (put_step cmd o s)
    unfolding put_lists
    puts o s h = puts_by (table.prepare_step s.lists.slots s.lists.memory (asked_by cmd s.layer.node (login_id s))) s.layer.node (login_id s) o s refl h

  -- ---- the other steps of a list
  lows_by : (r : Result TicketParts ListFault × (SlotTable × Memory)) (o : OutboxState) (s : InitiatorState) → table.low_step s.lists.slots s.lists.memory ≡ r → After (o, s) → After (low_as (stepped r s.lists) o s)
  lows_by (Err fault, (t, m)) o s e h =
      slots o s t (subst (λ (x : Result TicketParts ListFault × (SlotTable × Memory)). Same s.lists.slots x.1.0) e (same_low s.lists.slots s.lists.memory)) h
  lows_by (Ok u, (t, m)) o s e h =
      slots (told o (notes.Low s.number u.list u.number)) s t (subst (λ (x : Result TicketParts ListFault × (SlotTable × Memory)). Same s.lists.slots x.1.0) e (same_low s.lists.slots s.lists.memory))
      (calls.tells past weight w i n inside begun keys (most + most_share) o s (notes.Low s.number u.list u.number) h refl)

  lows : (o : OutboxState) (s : InitiatorState) → After (o, s) → After (low_step o s)
  unfolding low_lists
  lows o s h = lows_by (table.low_step s.lists.slots s.lists.memory) o s refl h

  links_by : (r : Result TicketParts ListFault × (SlotTable × Memory)) (o : OutboxState) (s : InitiatorState) → table.high_step s.lists.slots s.lists.memory ≡ r → After (o, s) → After (link_as (stepped r s.lists) o s)
  links_by (Err fault, (t, m)) o s e h =
      slots o s t (subst (λ (x : Result TicketParts ListFault × (SlotTable × Memory)). Same s.lists.slots x.1.0) e (same_high s.lists.slots s.lists.memory)) h
  links_by (Ok u, (t, m)) o s e h =
      slots (told o (notes.Linked s.number u.list u.number)) s t (subst (λ (x : Result TicketParts ListFault × (SlotTable × Memory)). Same s.lists.slots x.1.0) e (same_high s.lists.slots s.lists.memory))
      (calls.tells past weight w i n inside begun keys (most + most_share) o s (notes.Linked s.number u.list u.number) h refl)

  links : (o : OutboxState) (s : InitiatorState) → After (o, s) → After (link_step o s)
  unfolding high_lists
  links o s h = links_by (table.high_step s.lists.slots s.lists.memory) o s refl h

  rings : (list : Option PresentList) (o : OutboxState) (s : InitiatorState) → After (o, s) → After (ring_for list o s)
  rings None o s h = h
  rings (Some list) o s h =
      let now = told o (notes.Rung s.number list.tail.list (last_linked list)) in
      let x = calls.tells past weight w i n inside begun keys (most + most_share) o s (notes.Rung s.number list.tail.list (last_linked list)) h refl in
      pick_state (is_unwritten s.marks.pointing) now _ _ x x

  dummies : (ticket : Option TicketParts) (o : OutboxState) (s : InitiatorState) → After (o, s) → After (dummy_for ticket o s)
  unfolding dummy_lists
  dummies None o s h = h
  dummies (Some t) o s h =
      slots (told o (notes.Dummied s.number t.list t.number)) s (table.dummy_step s.lists.slots s.lists.memory t).1.0 (same_dummy s.lists.slots s.lists.memory t)
      (calls.tells past weight w i n inside begun keys (most + most_share) o s (notes.Dummied s.number t.list t.number) h refl)

  -- ---- operations
  manages : (orb : ManagementOrb) (operation : Operation) (o : OutboxState) (s : InitiatorState) → After (o, s) → After (o, managed_by orb operation s)
  unfolding manage_lists
  manages orb operation o s h = h

  pins_by : (b : Bool) (t : TicketParts) (o : OutboxState) (s : InitiatorState) → After (o, s) → Own past weight w i n inside begun keys (most + most_share) o.sides s.number (cond b s.lists (record s.lists { slots = (table.pin_step s.lists.slots t).1 })).slots
  pins_by true t o s h = h
  pins_by false t o s h = slots o s (table.pin_step s.lists.slots t).1 (same_pin s.lists.slots t) h

  pins_for : (found : Option TicketParts) (o : OutboxState) (s : InitiatorState) → After (o, s) → After (o, pinned_for found s)
  unfolding pin_lists
  pins_for None o s h = h
  pins_for (Some t) o s h = pins_by (is_some s.lists.slots.pinned) t o s h

  aborts : (orb : ℕ) (o : OutboxState) (s : InitiatorState) → After (o, s) → After (o, manage_start (actions.Abort orb) s)
  aborts orb o s h =
      let t = managed_by (orb_by (actions.Abort orb) s) operations.Abort s in
      pins_for (find_in t.lists.slots.slots orb) o t (manages (orb_by (actions.Abort orb) s) operations.Abort o s h)

  -- ---- an action
  pub record Asks (action : Action) : Type 0 where
    pub event : (cmd : Cmd) → cmd_of (Some (events.Act i action)) ≡ Some cmd → cmd_of (event_of (history w past)) ≡ Some cmd
    pub weighs : weight ≡ weight_in action
    pub fields : IsAction action

  appends : (cmd : Cmd) (o : OutboxState) (s : InitiatorState) → After (put_step cmd o s) → After (append_step cmd o s)
  appends cmd o s h =
      let a = put_step cmd o s in
      let b = low_step a.0 a.1 in
      let c = link_step b.0 b.1 in
      rings c.1.lists.slots.present c.0 c.1 (links b.0 b.1 (lows a.0 a.1 h))

  does : (action : Action) (o : OutboxState) (s : InitiatorState) → Asks action → Before (o, s) → After (done_step action o s)
  unfolding done_step
  does (actions.Put cmd) o s a h = puts cmd (a.event cmd refl) a.weighs (let f = weight_few cmd a.fields in let e = a.weighs in omega (arith, e, f)) o s h
  does (actions.Append cmd) o s a h = appends cmd o s (puts cmd (a.event cmd refl) a.weighs (let f = weight_few cmd a.fields in let e = a.weighs in omega (arith, e, f)) o s h)
  does actions.Low o s a h = lows o s (wider (o, s) h)
  does actions.Link o s a h = links o s (wider (o, s) h)
  does actions.Ring o s a h = rings s.lists.slots.present o s (wider (o, s) h)
  does (actions.Dummy orb) o s a h = dummies (find_in s.lists.slots.slots orb) o s (wider (o, s) h)
  does actions.Rom o s a h = wider (o, s) h
  does actions.AgentReset o s a h = wider (o, s) h
  does actions.State o s a h = wider (o, s) h
  does actions.Enable o s a h = wider (o, s) h
  does (actions.Login unit reconnect exclusive password) o s a h = manages (login_orb s unit reconnect exclusive password) operations.Login o s (wider (o, s) h)
  does (actions.Query unit) o s a h = manages (orb_by (actions.Query unit) s) operations.Query o s (wider (o, s) h)
  does actions.Reconnect o s a h = manages (orb_by actions.Reconnect s) operations.Reconnect o s (wider (o, s) h)
  does actions.Logout o s a h = manages (orb_by actions.Logout s) operations.Logout o s (wider (o, s) h)
  does (actions.Abort orb) o s a h = aborts orb o s (wider (o, s) h)
  does actions.AbortSet o s a h = manages (orb_by actions.AbortSet s) operations.AbortSet o s (wider (o, s) h)
  does actions.UnitReset o s a h = manages (orb_by actions.UnitReset s) operations.UnitReset o s (wider (o, s) h)
  does actions.TargetReset o s a h = manages (orb_by actions.TargetReset s) operations.TargetReset o s (wider (o, s) h)

  asks_as : (r : Option Asked × Layer Purpose) (action : Action) (o : OutboxState) (s : InitiatorState) → Asks action → Before (o, s) → After (asked_as r action o s).1
  asks_as (None, layer) action o s a h = wider (o, record s { layer = layer }) h
  asks_as (Some asked, layer) action o s a h = does action o (record s { layer = layer }) a h

  demands_as : (demand : Option Demand) (action : Action) (o : OutboxState) (s : InitiatorState) → Asks action → Before (o, s) → After (demanded_as demand action o s).1
  demands_as None action o s a h = does action o s a h
  demands_as (Some demand) action o s a h = asks_as (asked_for demand s) action o s a h

  judges_as : (number : Option ℕ) (action : Action) (o : OutboxState) (s : InitiatorState) → Asks action → Before (o, s) → After (judged_as number action o s).1
  judges_as (Some number) action o s a h = wider (o, s) h
  judges_as None action o s a h = demands_as (demand_of action s) action o s a h

  pub acts : (action : Action) (o : OutboxState) (s : InitiatorState) → Asks action → Before (o, s) → After (act_step action o s).1
  unfolding act_step
  acts action o s a h = judges_as (refusal action (facts_with true s action)) action o s a h
