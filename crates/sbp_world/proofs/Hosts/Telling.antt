-- An action that is done tells the notes that the run asks for.
use Rattle.sbp_world.proofs.Words.Std.{arith, ◌≡◌, refl, sym, ◌∙◌, ap, subst, ℕ, suc, ◌+◌, ◌-◌, ◌==◌, not, is_some, Bool, true, false, cond, List, [], ◌∷◌, ◌++◌, Option, Some, None, Ok, append-nil, not-false}
use Rattle.sbp_world.proofs.Words.Wire.{Label, Layer, Moment, OutboxState, buffer_of, Action, Cmd, Side}
use Rattle.sbp_world.proofs.Words.Initiator.{Link, Linking, PresentList, find_in, list_number, may_prepare, next_ticket, orb_number, waits_high, waits_low, TicketParts, ticket, Demand, Purpose, InitiatorState, high_lists, low_lists, stepped, asked_by, prepared_as, put_lists, refusal, rows_of, no_marks, Turn, told, act_step, append_step, asked_as, asked_for, demand_of, demanded_as, done_step, dummy_for, facts_with, judged_as, link_as, link_step, login_id, low_as, low_step, put_as, put_step, ring_for, ring_step, own}
use Rattle.sbp_world.proofs.Words.Laws.{action_notes, append_notes, new_list, new_number, refusals, Host, linked}
use Rattle.sbp_world.proofs.Words.World.{AreRows, ReadAs, last_linked, ActionLaw, HasRows}
use Rattle.orb_list.specs.declared.list.Link.TheVariants as links
use Rattle.orb_list.specs.Table as table
use Rattle.sbp_journal.specs.declared.event.Action.TheVariants as actions
use Rattle.sbp_journal.specs.declared.note.Note.TheVariants as notes
use Rattle.sbp_journal.specs.declared.side.Side.TheVariants as sides
use Rattle.sbp_initiator.proofs.Histories.Actions.{is_ok}
use Rattle.sbp_world.specs.Hosts.Fits.{IsOf}
use Rattle.sbp_world.proofs.Hosts.Acts.{Goes, found_number, goes_layer, goes_on, some_waits}
use Rattle.sbp_world.proofs.Hosts.Beside.{find_waits, found_list}
use Rattle.sbp_world.proofs.Hosts.Readings.{read_as}
use Rattle.sbp_world.proofs.Pointers.GuardActs.{some_of, ok_of}

-- ---- the rows of a refusal

module _ (past : List Moment) (s : InitiatorState) (host : Host) (has_label : Bool) (r : ReadAs past s.number s.lists.slots) where
  abbrev Rows : Action → Type 0
  Rows action = HasRows (refusals past s.number action host) (rows_of action (facts_with has_label s action))

  plain_rows : (action : Action) → (refusals past s.number action host).mid_link ≡ false → (rows_of action (facts_with has_label s action)).mid_link ≡ false → (refusals past s.number action host).not_linking ≡ false → (rows_of action (facts_with has_label s action)).not_linking ≡ false → (refusals past s.number action host).no_orb ≡ false → (rows_of action (facts_with has_label s action)).no_orb ≡ false → (refusals past s.number action host).no_slot ≡ false → (rows_of action (facts_with has_label s action)).no_slot ≡ false → Rows action
  plain_rows action a b c d e f g h = record { mid_link = a ∙ sym b; not_linking = c ∙ sym d; no_orb = e ∙ sym f; no_slot = g ∙ sym h }

  same_rows : (action : Action) → Rows action
  same_rows (actions.Put cmd) = record { mid_link = r.mid_link; not_linking = refl; no_orb = refl; no_slot = r.full }
  same_rows (actions.Append cmd) = record { mid_link = r.mid_link; not_linking = refl; no_orb = refl; no_slot = r.full }
  same_rows actions.Low = record { mid_link = refl; not_linking = ap not r.low; no_orb = refl; no_slot = refl }
  same_rows actions.Link = record { mid_link = refl; not_linking = ap not r.high; no_orb = refl; no_slot = refl }
  same_rows actions.Ring = record { mid_link = refl; not_linking = refl; no_orb = r.none; no_slot = refl }
  same_rows (actions.Dummy k) = record { mid_link = refl; not_linking = refl; no_orb = ap not (r.waits k); no_slot = refl }
  same_rows (actions.Abort k) = record { mid_link = refl; not_linking = refl; no_orb = ap not (r.waits k); no_slot = refl }
  same_rows actions.Rom = plain_rows actions.Rom refl refl refl refl refl refl refl refl
  same_rows (actions.Login unit reconnect exclusive password) = plain_rows (actions.Login unit reconnect exclusive password) refl refl refl refl refl refl refl refl
  same_rows (actions.Query unit) = plain_rows (actions.Query unit) refl refl refl refl refl refl refl refl
  same_rows actions.Reconnect = plain_rows actions.Reconnect refl refl refl refl refl refl refl refl
  same_rows actions.Logout = plain_rows actions.Logout refl refl refl refl refl refl refl refl
  same_rows actions.AbortSet = plain_rows actions.AbortSet refl refl refl refl refl refl refl refl
  same_rows actions.UnitReset = plain_rows actions.UnitReset refl refl refl refl refl refl refl refl
  same_rows actions.TargetReset = plain_rows actions.TargetReset refl refl refl refl refl refl refl refl
  same_rows actions.AgentReset = plain_rows actions.AgentReset refl refl refl refl refl refl refl refl
  same_rows actions.State = plain_rows actions.State refl refl refl refl refl refl refl refl
  same_rows actions.Enable = plain_rows actions.Enable refl refl refl refl refl refl refl refl

-- ---- what the steps of a list tell

-- what is told, the present list and the number of an initiator
pub record Tells (told : List Side) (present : Option PresentList) (number : ℕ) (t : Turn) : Type 0 where
  pub sides : t.0.sides ≡ told
  pub present_is : t.1.lists.slots.present ≡ present
  pub number_is : t.1.number ≡ number

module _ (o : OutboxState) (s : InitiatorState) where
  -- no ORB waits for a link
  low_none : waits_low s.lists.slots.present ≡ None → Tells o.sides s.lists.slots.present s.number (low_step o s)
  unfolding low_lists table.low_step
  low_none w = subst (λ x. Tells o.sides s.lists.slots.present s.number (low_as (stepped (table.low_for x s.lists.slots s.lists.memory) s.lists) o s)) (sym w) (record { sides = refl; present_is = refl; number_is = refl })

  link_none : waits_high s.lists.slots.present ≡ None → Tells o.sides s.lists.slots.present s.number (link_step o s)
  unfolding high_lists table.high_step
  link_none w = subst (λ x. Tells o.sides s.lists.slots.present s.number (link_as (stepped (table.high_for x s.lists.slots s.lists.memory) s.lists) o s)) (sym w) (record { sides = refl; present_is = refl; number_is = refl })

  low_some : (linking : Linking) → waits_low s.lists.slots.present ≡ Some linking → Tells (o.sides ++ sides.Own (notes.Low s.number linking.tail.list linking.tail.number) ∷ []) (table.link_set s.lists.slots.present (links.High linking.before)) s.number (low_step o s)
  unfolding low_lists table.low_step
  low_some linking w =
      subst (λ x. Tells (o.sides ++ sides.Own (notes.Low s.number linking.tail.list linking.tail.number) ∷ []) (table.link_set s.lists.slots.present (links.High linking.before)) s.number (low_as (stepped (table.low_for x s.lists.slots s.lists.memory) s.lists) o s)) (sym w)
      (record { sides = refl; present_is = refl; number_is = refl })

  link_some : (linking : Linking) → waits_high s.lists.slots.present ≡ Some linking → Tells (o.sides ++ sides.Own (notes.Linked s.number linking.tail.list linking.tail.number) ∷ []) (table.link_set s.lists.slots.present links.Done) s.number (link_step o s)
  unfolding high_lists table.high_step
  link_some linking w =
      subst (λ x. Tells (o.sides ++ sides.Own (notes.Linked s.number linking.tail.list linking.tail.number) ∷ []) (table.link_set s.lists.slots.present links.Done) s.number (link_as (stepped (table.high_for x s.lists.slots s.lists.memory) s.lists) o s)) (sym w)
      (record { sides = refl; present_is = refl; number_is = refl })

  ring_some : (list : PresentList) → s.lists.slots.present ≡ Some list → (ring_step o s).0.sides ≡ o.sides ++ sides.Own (notes.Rung s.number list.tail.list (last_linked list)) ∷ []
  ring_some list p = ap (λ x. (ring_for x o s).0.sides) p

  put_some : (cmd : Cmd) (slot : ℕ) → may_prepare s.lists.slots ≡ Ok slot → Tells (o.sides ++ sides.Own (notes.Append s.number (next_ticket s.lists.slots slot (login_id s)).list (next_ticket s.lists.slots slot (login_id s)).number cmd.cdb (buffer_of cmd)) ∷ []) (Some (table.extended s.lists.slots.present (next_ticket s.lists.slots slot (login_id s)))) s.number (put_step cmd o s)
  unfolding put_lists table.prepare_step
  put_some cmd slot e =
      let t = next_ticket s.lists.slots slot (login_id s) in
      let note = notes.Append s.number t.list t.number cmd.cdb (buffer_of cmd) in
      let present = Some (table.extended s.lists.slots.present t) in
      subst (λ x. Tells (o.sides ++ sides.Own note ∷ []) present s.number (put_as (prepared_as (table.prepare_at x s.lists.slots s.lists.memory (asked_by cmd s.layer.node (login_id s))) s.lists cmd) cmd o s)) (sym e)
      (put_cond (t.number == 0))
    where
      put_cond : (b : Bool) → Tells (o.sides ++ sides.Own (notes.Append s.number (next_ticket s.lists.slots slot (login_id s)).list (next_ticket s.lists.slots slot (login_id s)).number cmd.cdb (buffer_of cmd)) ∷ []) (Some (table.extended s.lists.slots.present (next_ticket s.lists.slots slot (login_id s)))) s.number
          (told o (notes.Append s.number (next_ticket s.lists.slots slot (login_id s)).list (next_ticket s.lists.slots slot (login_id s)).number cmd.cdb (buffer_of cmd)), cond b (record (record s { lists = (prepared_as (table.prepare_at (Ok slot) s.lists.slots s.lists.memory (asked_by cmd s.layer.node (login_id s))) s.lists cmd).1 }) { marks = record no_marks { first = slot } }) (record s { lists = (prepared_as (table.prepare_at (Ok slot) s.lists.slots s.lists.memory (asked_by cmd s.layer.node (login_id s))) s.lists cmd).1 }))
      put_cond true = record { sides = refl; present_is = refl; number_is = refl }
      put_cond false = record { sides = refl; present_is = refl; number_is = refl }

append_two : (xs : List Side) (x : Side) (ys : List Side) → (xs ++ x ∷ []) ++ ys ≡ xs ++ x ∷ ys
append_two [] x ys = refl
append_two (first ∷ xs) x ys = ap (λ zs. first ∷ zs) (append_two xs x ys)

-- put, low and link where there is an ORB before, and ring
append_first : (cmd : Cmd) (o : OutboxState) (s : InitiatorState) (slot : ℕ) → s.lists.slots.present ≡ None → may_prepare s.lists.slots ≡ Ok slot → (append_step cmd o s).0.sides ≡ o.sides ++ own (append_notes s.number (list_number None s.lists.slots.lists) 0 cmd)
append_first cmd o s slot p e =
    let a = put_step cmd o s in
    let b = low_step a.0 a.1 in
    let c = link_step b.0 b.1 in
    let put = put_some o s cmd slot e in
    let t = next_ticket s.lists.slots slot (login_id s) in
    let list : PresentList = table.extended None (record t { list = s.lists.slots.lists; number = 0 }) in
    let at : a.1.lists.slots.present ≡ Some list = put.present_is ∙ ap (λ x. Some (table.extended x (ticket (login_id s) (list_number x s.lists.slots.lists) (orb_number x) slot s.lists.slots.calls))) p in
    let low = low_none a.0 a.1 (ap waits_low at) in
    let at_low : b.1.lists.slots.present ≡ Some list = low.present_is ∙ at in
    let link = link_none b.0 b.1 (ap waits_high at_low) in
    let at_link : c.1.lists.slots.present ≡ Some list = link.present_is ∙ at_low in
    let number : c.1.number ≡ s.number = link.number_is ∙ (low.number_is ∙ put.number_is) in
    let told_put = put.sides ∙ ap (λ x. o.sides ++ sides.Own (notes.Append s.number (list_number x s.lists.slots.lists) (orb_number x) cmd.cdb (buffer_of cmd)) ∷ []) p in
    ring_some c.0 c.1 list at_link
    ∙ (ap (λ x. c.0.sides ++ sides.Own (notes.Rung x list.tail.list 0) ∷ []) number
    ∙ (ap (λ xs. xs ++ sides.Own (notes.Rung s.number list.tail.list 0) ∷ []) (link.sides ∙ (low.sides ∙ told_put))
    ∙ append_two o.sides (sides.Own (notes.Append s.number s.lists.slots.lists 0 cmd.cdb (buffer_of cmd))) (sides.Own (notes.Rung s.number s.lists.slots.lists 0) ∷ [])))

append_next : (cmd : Cmd) (o : OutboxState) (s : InitiatorState) (slot : ℕ) (before : PresentList) → s.lists.slots.present ≡ Some before → may_prepare s.lists.slots ≡ Ok slot → (append_step cmd o s).0.sides ≡ o.sides ++ own (append_notes s.number before.tail.list (suc before.tail.number) cmd)
append_next cmd o s slot before p e =
    let a = put_step cmd o s in
    let b = low_step a.0 a.1 in
    let c = link_step b.0 b.1 in
    let put = put_some o s cmd slot e in
    let k = before.tail.number + 1 in
    let t = ticket (login_id s) before.tail.list k slot s.lists.slots.calls in
    let list : PresentList = table.extended (Some before) t in
    let at : a.1.lists.slots.present ≡ Some list = put.present_is ∙ ap (λ x. Some (table.extended x (ticket (login_id s) (list_number x s.lists.slots.lists) (orb_number x) slot s.lists.slots.calls))) p in
    let low = low_some a.0 a.1 (record { before = before.tail.slot; tail = t }) (ap waits_low at) in
    let high : PresentList = record list { link = links.High before.tail.slot } in
    let at_low : b.1.lists.slots.present ≡ Some high = low.present_is ∙ ap (λ x. table.link_set x (links.High before.tail.slot)) at in
    let link = link_some b.0 b.1 (record { before = before.tail.slot; tail = t }) (ap waits_high at_low) in
    let done : PresentList = record list { link = links.Done } in
    let at_link : c.1.lists.slots.present ≡ Some done = link.present_is ∙ ap (λ x. table.link_set x links.Done) at_low in
    let one : a.1.number ≡ s.number = put.number_is in
    let two : b.1.number ≡ s.number = low.number_is ∙ one in
    let three : c.1.number ≡ s.number = link.number_is ∙ two in
    let n = sides.Own (notes.Append s.number before.tail.list k cmd.cdb (buffer_of cmd)) in
    let l = sides.Own (notes.Low s.number before.tail.list k) in
    let h = sides.Own (notes.Linked s.number before.tail.list k) in
    let g = sides.Own (notes.Rung s.number before.tail.list k) in
    let told_put : a.0.sides ≡ o.sides ++ n ∷ [] = put.sides ∙ ap (λ x. o.sides ++ sides.Own (notes.Append s.number (list_number x s.lists.slots.lists) (orb_number x) cmd.cdb (buffer_of cmd)) ∷ []) p in
    let told_low : b.0.sides ≡ (o.sides ++ n ∷ []) ++ l ∷ [] = low.sides ∙ (ap (λ x. a.0.sides ++ sides.Own (notes.Low x before.tail.list k) ∷ []) one ∙ ap (λ xs. xs ++ l ∷ []) told_put) in
    let told_link : c.0.sides ≡ ((o.sides ++ n ∷ []) ++ l ∷ []) ++ h ∷ [] = link.sides ∙ (ap (λ x. b.0.sides ++ sides.Own (notes.Linked x before.tail.list k) ∷ []) two ∙ ap (λ xs. xs ++ h ∷ []) told_low) in
    ring_some c.0 c.1 done at_link
    ∙ (ap (λ x. c.0.sides ++ sides.Own (notes.Rung x before.tail.list k) ∷ []) three
    ∙ (ap (λ xs. xs ++ g ∷ []) told_link
    ∙ (append_two ((o.sides ++ n ∷ []) ++ l ∷ []) h (g ∷ [])
    ∙ (append_two (o.sides ++ n ∷ []) l (h ∷ g ∷ [])
    ∙ (append_two o.sides n (l ∷ h ∷ g ∷ [])
    ∙ ap (λ x. o.sides ++ own (notes.Append s.number before.tail.list x cmd.cdb (buffer_of cmd) ∷ notes.Low s.number before.tail.list x ∷ notes.Linked s.number before.tail.list x ∷ notes.Rung s.number before.tail.list x ∷ [])) (let f : k ≡ suc before.tail.number = omega arith in f))))))

-- ---- every action

module _ (past : List Moment) (s : InitiatorState) (r : AreRows past s.number s.lists.slots) (o : OutboxState) where
  abbrev read : ReadAs past s.number s.lists.slots
  read = read_as past s.number s.lists.slots r

  put_told : (cmd : Cmd) → is_ok (may_prepare s.lists.slots) ≡ true → (put_step cmd o s).0.sides ≡ o.sides ++ own (action_notes (actions.Put cmd) past s.number)
  put_told cmd e =
      let f = ok_of (may_prepare s.lists.slots) e in
      (put_some o s cmd f.0 f.1).sides
      ∙ (ap (λ x. o.sides ++ sides.Own (notes.Append s.number x (orb_number s.lists.slots.present) cmd.cdb (buffer_of cmd)) ∷ []) (sym read.list)
      ∙ ap (λ x. o.sides ++ sides.Own (notes.Append s.number (new_list past s.number) x cmd.cdb (buffer_of cmd)) ∷ []) (sym read.number))

  append_told : (cmd : Cmd) → is_ok (may_prepare s.lists.slots) ≡ true → (append_step cmd o s).0.sides ≡ o.sides ++ own (action_notes (actions.Append cmd) past s.number)
  append_told cmd e =
      let f = ok_of (may_prepare s.lists.slots) e in
      by_list f.0 f.1 s.lists.slots.present refl
    where
      in_terms : (n k : ℕ) → new_list past s.number ≡ n → new_number past s.number ≡ k → o.sides ++ own (append_notes s.number n k cmd) ≡ o.sides ++ own (action_notes (actions.Append cmd) past s.number)
      in_terms n k a b = ap (λ x. o.sides ++ own (append_notes s.number x k cmd)) (sym a) ∙ ap (λ x. o.sides ++ own (append_notes s.number (new_list past s.number) x cmd)) (sym b)

      by_list : (slot : ℕ) → may_prepare s.lists.slots ≡ Ok slot → (present : Option PresentList) → s.lists.slots.present ≡ present → (append_step cmd o s).0.sides ≡ o.sides ++ own (action_notes (actions.Append cmd) past s.number)
      by_list slot g None p =
          append_first cmd o s slot p g ∙ in_terms s.lists.slots.lists 0 (read.list ∙ ap (λ x. list_number x s.lists.slots.lists) p) (read.number ∙ ap orb_number p)
      by_list slot g (Some before) p =
          append_next cmd o s slot before p g ∙ in_terms before.tail.list (suc before.tail.number) (read.list ∙ ap (λ x. list_number x s.lists.slots.lists) p) (read.number ∙ (ap orb_number p ∙ (let f : before.tail.number + 1 ≡ suc before.tail.number = omega arith in f)))

  some_linking : (found : Option Linking) → is_some found ≡ true → (linking : Linking) × (found ≡ Some linking)
  some_linking None e = cc
  some_linking (Some linking) e = (linking, refl)

  -- the ORB that is linked is the last one
  tail_low : (present : Option PresentList) (linking : Linking) → waits_low present ≡ Some linking → (list_number present s.lists.slots.lists ≡ linking.tail.list) × (orb_number present - 1 ≡ linking.tail.number)
  tail_low None linking e = cc
  tail_low (Some list) linking e = by_link list.link e
    where
      by_link : (link : Link) → table.low_in link list.tail ≡ Some linking → (list.tail.list ≡ linking.tail.list) × (list.tail.number + 1 - 1 ≡ linking.tail.number)
      by_link links.Done e = cc
      by_link (links.High before) e = cc
      by_link (links.Low before) e =
          let g : record { before = before; tail = list.tail } ≡ linking = cc in
          (ap (λ (x : Linking). x.tail.list) g, (let f : list.tail.number + 1 - 1 ≡ list.tail.number = omega arith in f) ∙ ap (λ (x : Linking). x.tail.number) g)

  tail_high : (present : Option PresentList) (linking : Linking) → waits_high present ≡ Some linking → (list_number present s.lists.slots.lists ≡ linking.tail.list) × (orb_number present - 1 ≡ linking.tail.number)
  tail_high None linking e = cc
  tail_high (Some list) linking e = by_link list.link e
    where
      by_link : (link : Link) → table.high_in link list.tail ≡ Some linking → (list.tail.list ≡ linking.tail.list) × (list.tail.number + 1 - 1 ≡ linking.tail.number)
      by_link links.Done e = cc
      by_link (links.Low before) e = cc
      by_link (links.High before) e =
          let g : record { before = before; tail = list.tail } ≡ linking = cc in
          (ap (λ (x : Linking). x.tail.list) g, (let f : list.tail.number + 1 - 1 ≡ list.tail.number = omega arith in f) ∙ ap (λ (x : Linking). x.tail.number) g)

  low_told : is_some (waits_low s.lists.slots.present) ≡ true → (low_step o s).0.sides ≡ o.sides ++ own (action_notes actions.Low past s.number)
  low_told e =
      let f = some_linking (waits_low s.lists.slots.present) e in
      let t = tail_low s.lists.slots.present f.0 f.1 in
      (low_some o s f.0 f.1).sides
      ∙ (ap (λ x. o.sides ++ sides.Own (notes.Low s.number x f.0.tail.number) ∷ []) (sym (read.list ∙ t.0))
      ∙ ap (λ x. o.sides ++ sides.Own (notes.Low s.number (new_list past s.number) x) ∷ []) (sym (ap (λ n. n - 1) read.number ∙ t.1)))

  link_told : is_some (waits_high s.lists.slots.present) ≡ true → (link_step o s).0.sides ≡ o.sides ++ own (action_notes actions.Link past s.number)
  link_told e =
      let f = some_linking (waits_high s.lists.slots.present) e in
      let t = tail_high s.lists.slots.present f.0 f.1 in
      (link_some o s f.0 f.1).sides
      ∙ (ap (λ x. o.sides ++ sides.Own (notes.Linked s.number x f.0.tail.number) ∷ []) (sym (read.list ∙ t.0))
      ∙ ap (λ x. o.sides ++ sides.Own (notes.Linked s.number (new_list past s.number) x) ∷ []) (sym (ap (λ n. n - 1) read.number ∙ t.1)))

  ring_told : is_some s.lists.slots.present ≡ true → (ring_step o s).0.sides ≡ o.sides ++ own (action_notes actions.Ring past s.number)
  ring_told e =
      let f = some_of s.lists.slots.present e in
      let n : new_list past s.number ≡ f.0.tail.list = read.list ∙ ap (λ x. list_number x s.lists.slots.lists) f.1 in
      ring_some o s f.0 f.1
      ∙ (ap (λ x. o.sides ++ sides.Own (notes.Rung s.number f.0.tail.list x) ∷ []) (sym (read.rung f.0 f.1))
      ∙ ap (λ x. o.sides ++ sides.Own (notes.Rung s.number x (linked past s.number x - 1)) ∷ []) (sym n))

  list_of : (present : Option PresentList) (t : TicketParts) → IsOf present t → list_number present s.lists.slots.lists ≡ t.list
  list_of None t e = absurd e
  list_of (Some list) t e = e

  dummy_told : (k : ℕ) → not (is_some (find_in s.lists.slots.slots k)) ≡ false → (dummy_for (find_in s.lists.slots.slots k) o s).0.sides ≡ o.sides ++ own (action_notes (actions.Dummy k) past s.number)
  dummy_told k e =
      let f = some_waits (find_in s.lists.slots.slots k) e in
      let w = find_waits s.lists.slots.slots k f.0 f.1 in
      let of = found_list s.lists.slots r.fits f.0 w in
      ap (λ x. (dummy_for x o s).0.sides) f.1
      ∙ (ap (λ x. o.sides ++ sides.Own (notes.Dummied s.number x f.0.number) ∷ []) (sym (read.list ∙ list_of s.lists.slots.present f.0 of))
      ∙ ap (λ x. o.sides ++ sides.Own (notes.Dummied s.number (new_list past s.number) x) ∷ []) (found_number s.lists.slots.slots k f.0 f.1))

  silent : o.sides ≡ o.sides ++ []
  silent = sym (append-nil o.sides)

  done_told : (action : Action) → Goes action s → (done_step action o s).0.sides ≡ o.sides ++ own (action_notes action past s.number)
  unfolding done_step
  done_told (actions.Put cmd) g = put_told cmd (g.allowed.prepares refl)
  done_told (actions.Append cmd) g = append_told cmd (g.allowed.prepares refl)
  done_told actions.Low g = low_told (not-false (is_some (waits_low s.lists.slots.present)) g.rows.not_linking)
  done_told actions.Link g = link_told (not-false (is_some (waits_high s.lists.slots.present)) g.rows.not_linking)
  done_told actions.Ring g = ring_told (not-false (is_some s.lists.slots.present) g.rows.no_orb)
  done_told (actions.Dummy k) g = dummy_told k g.rows.no_orb
  done_told actions.Rom g = silent
  done_told actions.AgentReset g = silent
  done_told actions.State g = silent
  done_told actions.Enable g = silent
  done_told (actions.Login unit reconnect exclusive password) g = silent
  done_told (actions.Query unit) g = silent
  done_told actions.Reconnect g = silent
  done_told actions.Logout g = silent
  done_told (actions.Abort k) g = silent
  done_told actions.AbortSet g = silent
  done_told actions.UnitReset g = silent
  done_told actions.TargetReset g = silent

-- ---- an action as a whole

asked_told : (past : List Moment) (action : Action) (o : OutboxState) (s : InitiatorState) (r : Option Label × Layer Purpose) → (asked_as r action o s).0 ≡ None → Goes action s → AreRows past s.number s.lists.slots → (asked_as r action o s).1.0.sides ≡ o.sides ++ own (action_notes action past s.number)
asked_told past action o s (None, layer) e g h = absurd (some_none 10 e)
  where
    some_none : (n : ℕ) → Some n ≡ None → ⊥
    some_none n e = cc
asked_told past action o s (Some asked, layer) e g h = done_told past (record s { layer = layer }) h o action (goes_layer action s layer g)

demanded_told : (past : List Moment) (action : Action) (o : OutboxState) (s : InitiatorState) (demand : Option Demand) → (demanded_as demand action o s).0 ≡ None → Goes action s → AreRows past s.number s.lists.slots → (demanded_as demand action o s).1.0.sides ≡ o.sides ++ own (action_notes action past s.number)
demanded_told past action o s None e g h = done_told past s h o action g
demanded_told past action o s (Some demand) e g h = asked_told past action o s (asked_for demand s) e g h

judged_told : (past : List Moment) (action : Action) (o : OutboxState) (s : InitiatorState) (refused : Option ℕ) → refusal action (facts_with true s action) ≡ refused → (judged_as refused action o s).0 ≡ None → AreRows past s.number s.lists.slots → (judged_as refused action o s).1.0.sides ≡ o.sides ++ own (action_notes action past s.number)
judged_told past action o s (Some number) r e h = absurd (some_none number e)
  where
    some_none : (n : ℕ) → Some n ≡ None → ⊥
    some_none n e = cc
judged_told past action o s None r e h = demanded_told past action o s (demand_of action s) e (goes_on action s r) h

act_told : (past : List Moment) (s : InitiatorState) (action : Action) (o : OutboxState) → AreRows past s.number s.lists.slots → (act_step action o s).0 ≡ None → (act_step action o s).1.0.sides ≡ o.sides ++ own (action_notes action past s.number)
unfolding act_step
act_told past s action o h e = judged_told past action o s (refusal action (facts_with true s action)) refl e h

pub action_law : ActionLaw
action_law = record {
  rows = λ past s action host has_label h. same_rows past s host has_label (read_as past s.number s.lists.slots h) action;
  notes = act_told;
}
