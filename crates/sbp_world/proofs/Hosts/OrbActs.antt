-- What an action that is done does to the slots, and what it tells of the ORBs.
use Rattle.sbp_world.proofs.Words.Std.{arith, ◌≡◌, refl, sym, ap, subst, ◌∙◌, ℕ, suc, ◌+◌, ◌-◌, ◌==◌, not, is_some, true, false, List, [], ◌∷◌, ◌++◌, Option, Some, None, Ok, not-false}
use Rattle.sbp_world.proofs.Words.Wire.{buffer_of, Moment, said, terms, Action, Cmd, Note}
use Rattle.sbp_world.proofs.Words.Initiator.{Linking, PresentList, if_some, run, SlotTable, find_in, list_number, may_prepare, next_ticket, orb_number, waits_high, waits_low, TicketParts, asked_by, InitiatorState, login_id, orb_by, place_of, own, action_calls, dummy_calls, orb_calls, pin_calls}
use Rattle.sbp_world.proofs.Words.Laws.{action_notes, append_notes, new_list, new_number, cmd_of, id_of, event_of}
use Rattle.sbp_world.proofs.Words.World.{behind, AreRows, ReadAs}
use Rattle.orb_list.specs.declared.list.Link.TheVariants as links
use Rattle.orb_list.specs.Runs as slot_runs
use Rattle.orb_list.specs.Table as table
use Rattle.sbp_journal.specs.declared.event.Action.TheVariants as actions
use Rattle.sbp_journal.specs.declared.event.Event.TheVariants as events
use Rattle.sbp_journal.specs.declared.note.Note.TheVariants as notes
use Rattle.sbp_initiator.proofs.Histories.Actions.{is_ok}
use Rattle.sbp_world.specs.Hosts.Fits.{IsOf}
use Rattle.sbp_world.proofs.Hosts.Acts.{Goes, found_number, some_waits}
use Rattle.sbp_world.proofs.Hosts.Beside.{find_waits, found_list}
use Rattle.sbp_world.proofs.Hosts.OrbAppends.{append_fits, append_none, prepared_table}
use Rattle.sbp_world.proofs.Hosts.OrbCalls.{orb_quiet, pin_quiet}
use Rattle.sbp_world.proofs.Hosts.Carries.{IsLineOf}
use Rattle.sbp_world.proofs.Hosts.OrbFits.{AllFit, AreQuiet, IsFull, NoneYet, quiet_append, quiet_calls}
use Rattle.sbp_world.proofs.Hosts.OrbLinks.{dummy_fits, dummy_none, link_fits, link_none, low_fits, low_none as low_none_yet, waits_for, waits_for_low}
use Rattle.sbp_world.proofs.Hosts.OrbTerms.{AreLeft, OrbTerms, orb_terms, told_left}
use Rattle.sbp_world.proofs.Hosts.Readings.{read_as}
use Rattle.sbp_world.proofs.Hosts.StepLaws.{step_law}
use Rattle.sbp_world.proofs.Pointers.GuardActs.{ok_of as is_ok_slot}

module _ (past : List Moment) (i : ℕ) (calls : List slot_runs.Call) (quads : List ℕ) where
  -- what is told and done
  pub record Done (ns : List Note) (later : List slot_runs.Call) : Type 0 where
    pub fits : AllFit (orb_terms (behind (own ns) past) i) (run (later ++ calls) quads).notes
    pub none : NoneYet (orb_terms (behind (own ns) past) i)
    pub others : (j : ℕ) → (j == i) ≡ false → orb_terms (behind (own ns) past) j ≡ orb_terms past j

  module _ (rows : AreRows past i (run calls quads).table) (h : AllFit (orb_terms past i) (run calls quads).notes) (none : NoneYet (orb_terms past i)) where
    abbrev s : SlotTable
    s = (run calls quads).table

    read : ReadAs past i s
    read = read_as past i s rows

    -- notes and calls that leave the ORBs
    quiet_done : (ns : List Note) (later : List slot_runs.Call) → ((j : ℕ) → AreLeft j ns) → AreQuiet later → Done ns later
    quiet_done ns later a q = record {
      fits = subst (λ x. AllFit x (run (later ++ calls) quads).notes) (sym (told_left ns past i (a i))) (quiet_calls (orb_terms past i) later calls quads q h);
      none = subst NoneYet (sym (told_left ns past i (a i))) none;
      others = λ j e. told_left ns past j (a j);
    }

    -- ---- an ORB is prepared

    module _ (cmd : Cmd) (node login slot : ℕ) (fit : IsFull cmd) (is_id : node ≡ id_of (terms past) (suc i)) (line : cmd_of (event_of past) ≡ Some cmd) (e : may_prepare s ≡ Ok slot) where
      abbrev u : TicketParts
      u = next_ticket s slot login

      abbrev prepares : slot_runs.Call
      prepares = slot_runs.Prepare (asked_by cmd node login)

      abbrev append : ℕ → ℕ → Note
      append n k = notes.Append i n k cmd.cdb (buffer_of cmd)

      prepared_fits : AllFit (orb_terms (said (append u.list u.number) ∷ past) i) (run (prepares ∷ calls) quads).notes
      prepared_fits = append_fits past i calls quads rows cmd node login slot fit is_id line e h none

      prepared_none : NoneYet (orb_terms (said (append u.list u.number) ∷ past) i)
      prepared_none = append_none past i calls quads rows cmd node login slot fit is_id line e h none

      table_now : (run (prepares ∷ calls) quads).table ≡ table.added s u
      table_now = prepared_table past i calls quads rows cmd node login slot fit is_id line e h none

      put_named : (n k : ℕ) → u.list ≡ n → u.number ≡ k → Done (append n k ∷ []) (prepares ∷ [])
      put_named n k a b = record {
        fits = subst (λ x. AllFit (orb_terms (said (append x k) ∷ past) i) (run (prepares ∷ calls) quads).notes) a
            (subst (λ x. AllFit (orb_terms (said (append u.list x) ∷ past) i) (run (prepares ∷ calls) quads).notes) b prepared_fits);
        none = subst (λ x. NoneYet (orb_terms (said (append x k) ∷ past) i)) a (subst (λ x. NoneYet (orb_terms (said (append u.list x) ∷ past) i)) b prepared_none);
        others = λ j f. told_left (append n k ∷ []) past j (ap not f, tt);
      }

      put_done : Done (action_notes (actions.Put cmd) past i) (prepares ∷ [])
      put_done = put_named (new_list past i) (new_number past i) (sym read.list) (sym read.number)

      -- ---- and linked

      abbrev first_list : PresentList
      first_list = record { tail = u; link = links.Done; passed = 0 }

      -- it is the first one of its list
      module _ (p : s.present ≡ None) where
        present_first : (run (prepares ∷ calls) quads).table.present ≡ Some first_list
        present_first = ap (λ (x : SlotTable). x.present) table_now ∙ ap (λ x. Some (table.extended x u)) p

        low_none : waits_low (run (prepares ∷ calls) quads).table.present ≡ None
        low_none = ap waits_low present_first

        high_none : waits_high (run (slot_runs.LinkLow ∷ prepares ∷ calls) quads).table.present ≡ None
        unfolding table.low_step
        high_none =
            let r = run (prepares ∷ calls) quads in
            ap (λ x. waits_high (table.low_for x r.table r.memory).1.0.present) low_none ∙ ap waits_high present_first

        first_fits : AllFit (orb_terms (said (append u.list u.number) ∷ past) i) (run (slot_runs.LinkHigh ∷ slot_runs.LinkLow ∷ prepares ∷ calls) quads).notes
        first_fits =
            let r = run (slot_runs.LinkLow ∷ prepares ∷ calls) quads in
            let now = orb_terms (said (append u.list u.number) ∷ past) i in
            let put = run (prepares ∷ calls) quads in
            subst (AllFit now) (sym (ap (λ x. if_some (λ (linking : Linking). slot_runs.Linked linking.before linking.tail) x r.notes) high_none))
            (subst (AllFit now) (sym (ap (λ x. if_some (λ (linking : Linking). slot_runs.LowWritten linking.before linking.tail) x put.notes) low_none)) prepared_fits)

        first_done : Done (append_notes i u.list 0 cmd) (slot_runs.LinkHigh ∷ slot_runs.LinkLow ∷ prepares ∷ [])
        first_done = record {
          fits = subst (λ x. AllFit (orb_terms (said (append u.list x) ∷ past) i) (run (slot_runs.LinkHigh ∷ slot_runs.LinkLow ∷ prepares ∷ calls) quads).notes) (ap orb_number p) first_fits;
          none = subst (λ x. NoneYet (orb_terms (said (append u.list x) ∷ past) i)) (ap orb_number p) prepared_none;
          others = λ j f. told_left (append_notes i u.list 0 cmd) past j (ap not f, (refl, tt));
        }

      -- it stands behind another one
      module _ (list : PresentList) (p : s.present ≡ Some list) where
        abbrev next_list : PresentList
        next_list = record { tail = u; link = links.Low list.tail.slot; passed = list.passed }

        abbrev linking : Linking
        linking = record { before = list.tail.slot; tail = u }

        abbrev behind_put : List Moment
        behind_put = said (append u.list u.number) ∷ past

        abbrev behind_low : List Moment
        behind_low = said (notes.Low i u.list u.number) ∷ behind_put

        present_put : (run (prepares ∷ calls) quads).table.present ≡ Some next_list
        present_put = ap (λ (x : SlotTable). x.present) table_now ∙ ap (λ x. Some (table.extended x u)) p

        waits_put : waits_low (run (prepares ∷ calls) quads).table.present ≡ Some linking
        waits_put = ap waits_low present_put

        rows_put : AreRows behind_put i (run (prepares ∷ calls) quads).table
        rows_put = subst (AreRows behind_put i) (sym table_now) (step_law.append past i cmd.cdb (buffer_of cmd) s slot login rows e)

        rows_low : AreRows behind_low i (run (slot_runs.LinkLow ∷ prepares ∷ calls) quads).table
        rows_low = let r = run (prepares ∷ calls) quads in step_law.low behind_put i r.table rows_put linking r.memory waits_put

        waits_link : waits_high (run (slot_runs.LinkLow ∷ prepares ∷ calls) quads).table.present ≡ Some linking
        unfolding table.low_step
        waits_link =
            let r = run (prepares ∷ calls) quads in
            ap (λ x. waits_high (table.low_for x r.table r.memory).1.0.present) waits_put
            ∙ ap (λ x. waits_high (table.link_set x (links.High list.tail.slot))) present_put

        low_written : AllFit (orb_terms behind_low i) (run (slot_runs.LinkLow ∷ prepares ∷ calls) quads).notes
        low_written = low_fits behind_put i (prepares ∷ calls) quads rows_put prepared_fits linking waits_put

        none_low : NoneYet (orb_terms behind_low i)
        none_low = low_none_yet behind_put i (prepares ∷ calls) quads rows_put prepared_fits linking prepared_none

        linked_fits : AllFit (orb_terms (said (notes.Linked i u.list u.number) ∷ behind_low) i) (run (slot_runs.LinkHigh ∷ slot_runs.LinkLow ∷ prepares ∷ calls) quads).notes
        linked_fits =
            link_fits behind_low i (slot_runs.LinkLow ∷ prepares ∷ calls) quads rows_low
            low_written linking waits_link

        linked_none : NoneYet (orb_terms (said (notes.Linked i u.list u.number) ∷ behind_low) i)
        linked_none =
            link_none behind_low i (slot_runs.LinkLow ∷ prepares ∷ calls) quads rows_low
            low_written linking none_low

        numbered : u.number ≡ suc list.tail.number
        numbered = ap orb_number p ∙ (let f : list.tail.number + 1 ≡ suc list.tail.number = omega arith in f)

        abbrev linked_as : ℕ → OrbTerms
        linked_as k = orb_terms (said (notes.Linked i u.list k) ∷ said (notes.Low i u.list k) ∷ said (append u.list k) ∷ past) i

        next_done : Done (append_notes i u.list (suc list.tail.number) cmd) (slot_runs.LinkHigh ∷ slot_runs.LinkLow ∷ prepares ∷ [])
        next_done = record {
          fits = subst (λ x. AllFit (linked_as x) (run (slot_runs.LinkHigh ∷ slot_runs.LinkLow ∷ prepares ∷ calls) quads).notes) numbered linked_fits;
          none = subst (λ x. NoneYet (linked_as x)) numbered linked_none;
          others = λ j f. told_left (append_notes i u.list (suc list.tail.number) cmd) past j (ap not f, (ap not f, (ap not f, (refl, tt))));
        }

      append_done : Done (action_notes (actions.Append cmd) past i) (slot_runs.LinkHigh ∷ slot_runs.LinkLow ∷ prepares ∷ [])
      append_done = by_list s.present refl
        where
          named : (k : ℕ) → u.number ≡ k → Done (append_notes i u.list k cmd) (slot_runs.LinkHigh ∷ slot_runs.LinkLow ∷ prepares ∷ []) → Done (action_notes (actions.Append cmd) past i) (slot_runs.LinkHigh ∷ slot_runs.LinkLow ∷ prepares ∷ [])
          named k a d =
              subst (λ x. Done (append_notes i x (new_number past i) cmd) (slot_runs.LinkHigh ∷ slot_runs.LinkLow ∷ prepares ∷ [])) (sym read.list)
              (subst (λ x. Done (append_notes i u.list x cmd) (slot_runs.LinkHigh ∷ slot_runs.LinkLow ∷ prepares ∷ [])) (sym (read.number ∙ a)) d)

          by_list : (present : Option PresentList) → s.present ≡ present → Done (action_notes (actions.Append cmd) past i) (slot_runs.LinkHigh ∷ slot_runs.LinkLow ∷ prepares ∷ [])
          by_list None p = named 0 (ap orb_number p) (first_done p)
          by_list (Some list) p = named (suc list.tail.number) (numbered list p) (next_done list p)

    -- ---- an ORB is linked, or becomes a dummy

    some_linking : (found : Option Linking) → is_some found ≡ true → (linking : Linking) × (found ≡ Some linking)
    some_linking None e = cc
    some_linking (Some linking) e = (linking, refl)

    link_named : (linking : Linking) → waits_high s.present ≡ Some linking → (n k : ℕ) → linking.tail.list ≡ n → linking.tail.number ≡ k → Done (notes.Linked i n k ∷ []) (slot_runs.LinkHigh ∷ [])
    link_named linking w n k a b = record {
      fits = subst (λ x. AllFit (orb_terms (said (notes.Linked i x k) ∷ past) i) (run (slot_runs.LinkHigh ∷ calls) quads).notes) a
          (subst (λ x. AllFit (orb_terms (said (notes.Linked i linking.tail.list x) ∷ past) i) (run (slot_runs.LinkHigh ∷ calls) quads).notes) b (link_fits past i calls quads rows h linking w));
      none = subst (λ x. NoneYet (orb_terms (said (notes.Linked i x k) ∷ past) i)) a
          (subst (λ x. NoneYet (orb_terms (said (notes.Linked i linking.tail.list x) ∷ past) i)) b (link_none past i calls quads rows h linking none));
      others = λ j f. told_left (notes.Linked i n k ∷ []) past j (ap not f, tt);
    }

    link_done : is_some (waits_high s.present) ≡ true → Done (action_notes actions.Link past i) (slot_runs.LinkHigh ∷ [])
    link_done e =
        let f = some_linking (waits_high s.present) e in
        let q = waits_for s.present f.0 f.1 in
        link_named f.0 f.1 (new_list past i) (new_number past i - 1)
        (ap (λ (x : TicketParts). x.list) (sym q.tail) ∙ (sym (ap (λ x. list_number x s.lists) q.is) ∙ sym read.list))
        (ap (λ (x : TicketParts). x.number) (sym q.tail)
        ∙ ((let g : q.list.tail.number ≡ q.list.tail.number + 1 - 1 = omega arith in g)
        ∙ (sym (ap (λ x. orb_number x - 1) q.is) ∙ sym (ap (λ x. x - 1) read.number))))

    list_of : (present : Option PresentList) (t : TicketParts) → IsOf present t → t.list ≡ list_number present s.lists
    list_of None t e = absurd e
    list_of (Some list) t e = sym e

    low_named : (linking : Linking) → waits_low s.present ≡ Some linking → (n k : ℕ) → linking.tail.list ≡ n → linking.tail.number ≡ k → Done (notes.Low i n k ∷ []) (slot_runs.LinkLow ∷ [])
    low_named linking w n k a b = record {
      fits = subst (λ x. AllFit (orb_terms (said (notes.Low i x k) ∷ past) i) (run (slot_runs.LinkLow ∷ calls) quads).notes) a
          (subst (λ x. AllFit (orb_terms (said (notes.Low i linking.tail.list x) ∷ past) i) (run (slot_runs.LinkLow ∷ calls) quads).notes) b (low_fits past i calls quads rows h linking w));
      none = subst (λ x. NoneYet (orb_terms (said (notes.Low i x k) ∷ past) i)) a
          (subst (λ x. NoneYet (orb_terms (said (notes.Low i linking.tail.list x) ∷ past) i)) b (low_none_yet past i calls quads rows h linking none));
      others = λ j f. told_left (notes.Low i n k ∷ []) past j (ap not f, tt);
    }

    low_done : is_some (waits_low s.present) ≡ true → Done (action_notes actions.Low past i) (slot_runs.LinkLow ∷ [])
    low_done e =
        let f = some_linking (waits_low s.present) e in
        let q = waits_for_low s.present f.0 f.1 in
        low_named f.0 f.1 (new_list past i) (new_number past i - 1)
        (ap (λ (x : TicketParts). x.list) (sym q.tail) ∙ (sym (ap (λ x. list_number x s.lists) q.is) ∙ sym read.list))
        (ap (λ (x : TicketParts). x.number) (sym q.tail)
        ∙ ((let g : q.list.tail.number ≡ q.list.tail.number + 1 - 1 = omega arith in g)
        ∙ (sym (ap (λ x. orb_number x - 1) q.is) ∙ sym (ap (λ x. x - 1) read.number))))

    dummy_named : (number : ℕ) (u : TicketParts) → find_in s.slots number ≡ Some u → (n k : ℕ) → u.list ≡ n → u.number ≡ k → Done (notes.Dummied i n k ∷ []) (slot_runs.MakeDummy u ∷ [])
    dummy_named number u found n k a b = record {
      fits = subst (λ x. AllFit (orb_terms (said (notes.Dummied i x k) ∷ past) i) (run (slot_runs.MakeDummy u ∷ calls) quads).notes) a
          (subst (λ x. AllFit (orb_terms (said (notes.Dummied i u.list x) ∷ past) i) (run (slot_runs.MakeDummy u ∷ calls) quads).notes) b (dummy_fits past i calls quads rows h number u found));
      none = subst (λ x. NoneYet (orb_terms (said (notes.Dummied i x k) ∷ past) i)) a
          (subst (λ x. NoneYet (orb_terms (said (notes.Dummied i u.list x) ∷ past) i)) b (dummy_none past i calls quads rows h number u found none));
      others = λ j f. told_left (notes.Dummied i n k ∷ []) past j (ap not f, tt);
    }

    dummy_done : (k : ℕ) → not (is_some (find_in s.slots k)) ≡ false → Done (action_notes (actions.Dummy k) past i) (dummy_calls (find_in s.slots k))
    dummy_done k e =
        let f = some_waits (find_in s.slots k) e in
        let w = find_waits s.slots k f.0 f.1 in
        subst (λ x. Done (action_notes (actions.Dummy k) past i) (dummy_calls x)) (sym f.1)
        (dummy_named k f.0 f.1 (new_list past i) k (list_of s.present f.0 (found_list s rows.fits f.0 w) ∙ sym read.list) (found_number s.slots k f.0 f.1))

    -- ---- every action

    module _ (state : InitiatorState) (same : s ≡ state.lists.slots) (is_id : state.layer.node ≡ id_of (terms past) (suc i)) where
      silent : (later : List slot_runs.Call) → AreQuiet later → Done [] later
      silent later q = quiet_done [] later (λ j. tt) q

      slot_for : is_ok (may_prepare state.lists.slots) ≡ true → (slot : ℕ) × (may_prepare s ≡ Ok slot)
      slot_for e = is_ok_slot (may_prepare s) (ap (λ x. is_ok (may_prepare x)) same ∙ e)

      pub act_done : (action : Action) → Goes action state → IsLineOf action → event_of past ≡ Some (events.Act i action) → Done (action_notes action past i) (action_calls action state)
      act_done (actions.Put cmd) g fit line = let f = slot_for (g.allowed.prepares refl) in put_done cmd state.layer.node (login_id state) f.0 fit is_id (ap cmd_of line) f.1
      act_done (actions.Append cmd) g fit line = let f = slot_for (g.allowed.prepares refl) in append_done cmd state.layer.node (login_id state) f.0 fit is_id (ap cmd_of line) f.1
      act_done actions.Low g fit line = low_done (ap (λ (x : SlotTable). is_some (waits_low x.present)) same ∙ not-false (is_some (waits_low state.lists.slots.present)) g.rows.not_linking)
      act_done actions.Link g fit line = link_done (ap (λ (x : SlotTable). is_some (waits_high x.present)) same ∙ not-false (is_some (waits_high state.lists.slots.present)) g.rows.not_linking)
      act_done actions.Ring g fit line = quiet_done (action_notes actions.Ring past i) [] (λ j. (refl, tt)) tt
      act_done (actions.Dummy k) g fit line =
          subst (λ (x : SlotTable). Done (action_notes (actions.Dummy k) past i) (dummy_calls (find_in x.slots k))) same
          (dummy_done k (ap (λ (x : SlotTable). not (is_some (find_in x.slots k))) same ∙ g.rows.no_orb))
      act_done (actions.Abort k) g fit line =
          let pins = pin_calls (is_some state.lists.slots.pinned) (find_in state.lists.slots.slots k) in
          let puts = orb_calls (Some (orb_by (actions.Abort k) state)) (place_of state.counts.managed) in
          silent (pins ++ puts) (quiet_append pins puts (pin_quiet (is_some state.lists.slots.pinned) (find_in state.lists.slots.slots k)) (orb_quiet (Some (orb_by (actions.Abort k) state)) (place_of state.counts.managed)))
      act_done actions.Rom g fit line = silent [] tt
      act_done actions.AgentReset g fit line = silent [] tt
      act_done actions.State g fit line = silent [] tt
      act_done actions.Enable g fit line = silent [] tt
      act_done (actions.Login unit reconnect exclusive password) g fit line = silent _ (orb_quiet (Some (orb_by (actions.Login unit reconnect exclusive password) state)) (place_of state.counts.managed))
      act_done (actions.Query unit) g fit line = silent _ (orb_quiet (Some (orb_by (actions.Query unit) state)) (place_of state.counts.managed))
      act_done actions.Reconnect g fit line = silent _ (orb_quiet (Some (orb_by actions.Reconnect state)) (place_of state.counts.managed))
      act_done actions.Logout g fit line = silent _ (orb_quiet (Some (orb_by actions.Logout state)) (place_of state.counts.managed))
      act_done actions.AbortSet g fit line = silent _ (orb_quiet (Some (orb_by actions.AbortSet state)) (place_of state.counts.managed))
      act_done actions.UnitReset g fit line = silent _ (orb_quiet (Some (orb_by actions.UnitReset state)) (place_of state.counts.managed))
      act_done actions.TargetReset g fit line = silent _ (orb_quiet (Some (orb_by actions.TargetReset state)) (place_of state.counts.managed))
