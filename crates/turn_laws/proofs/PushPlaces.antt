-- At each place of a run a live login of the terms stands in the place that its initiator is found in on its unit.
use Rattle.std.proofs.Common.{arith, ◌≡◌, ◌∙◌, sym, ap, ℕ, suc, ◌+◌, ◌<◌, true, List, ◌∷◌, Some}
use Rattle.login_table.specs.Table.{Table, is_live, place_at}
use Rattle.login_table.specs.declared.login.Login.{Login}
use Rattle.rbc_disk.specs.Disk.{Disk}
use Rattle.sbp_bus.specs.Places.{or_nobody}
use Rattle.sbp_journal.specs.Run.{Moment, asked, said}
use Rattle.sbp_journal.specs.Wire.{Terms, begun_in, terms}
use Rattle.sbp_journal.specs.declared.event.Event.{Event}
use Rattle.sbp_journal.specs.declared.event.Event.TheVariants as events
use Rattle.sbp_journal.specs.declared.note.Note.TheVariants as notes
use Rattle.sbp_laws.specs.Agents.{target_before, wire_after, wire_before}
use Rattle.sbp_laws.specs.Packets.{id_for}
use Rattle.sbp_laws.specs.Targets.{Target, initiator_with, over, place_on, target_at}
use Rattle.sbp_laws.specs.Turns.{EachTurn, Turn}
use Rattle.sbp_target.specs.Nodes.{NodeState, login_at}
use Rattle.sbp_target.proofs.Histories.Calling.{Good}
use Rattle.sbp_world.specs.Agents.Management.Offices.{Agrees, office_of}
use Rattle.sbp_world.specs.Worlds.{Scene}
use Rattle.sbp_world.proofs.Agents.CrewFirsts.{agrees}
use Rattle.sbp_world.proofs.Agents.Management.Holding.{good_of}
use Rattle.sbp_world.proofs.Agents.Management.Still.{hist}
use Rattle.sbp_laws.proofs.Going.{from_same}
use Rattle.turn_laws.specs.Runs.{OfEveryRun}
use Rattle.turn_laws.proofs.Announcing.{got_initiator, hearer_is, over_same}
use Rattle.turn_laws.proofs.Calls.{Cases}
use Rattle.turn_laws.proofs.Pass.{of_every_run}
use Rattle.turn_laws.proofs.Places.{Place}
use Rattle.turn_laws.proofs.AbortTurns.{late_ids}

-- T is the target of the terms, and these are the terms before and behind the first note
pub record IsPlaced (T : Target) (wire after : Terms) : Type 0 where
  pub own : (p : ℕ) (login : Login) → place_at T.table.places p ≡ Some login → login.place ≡ p
  pub found : (p : ℕ) (login : Login) → place_at T.table.places p ≡ Some login → is_live login ≡ true → place_on T login.unit (id_for wire 0 (suc (initiator_with after login.node))) ≡ p

-- a delivery or a time-out
pub data IsCall (first : Moment) : Type 0 where
  gets_it : (serial : ℕ) → first ≡ said (notes.Got serial) → IsCall first
  times_it : (serial : ℕ) → first ≡ said (notes.TimedOut serial) → IsCall first

abbrev pub ArePlaced : List Disk → Turn → Type 0
ArePlaced start t = IsCall t.start → IsPlaced (target_before start t) (wire_before t) (wire_after t)

call_initiator : (first : Moment) → IsCall first → (ms : List Moment) (id : ℕ) → initiator_with (terms (first ∷ ms)) id ≡ initiator_with (terms ms) id
call_initiator first (gets_it serial e) ms id = ap (λ m. initiator_with (terms (m ∷ ms)) id) e ∙ got_initiator serial ms id
call_initiator first (times_it serial e) ms id =
    let t = terms ms in ap (λ m. initiator_with (terms (m ∷ ms)) id) e ∙ from_same 4 0 t (terms (said (notes.TimedOut serial) ∷ ms)) id (λ k. late_ids (begun_in (t.sent serial)) t k)

begun_none : {A : Type 0} (line : ℕ) (event : Event) → IsCall (asked line event) → A
begun_none line event (gets_it serial e) = absurd (let no : asked line event ≡ said (notes.Got serial) = e in cc)
begun_none line event (times_it serial e) = absurd (let no : asked line event ≡ said (notes.TimedOut serial) = e in cc)

module _ (units ready : ℕ) (has : 0 < units) (start : List Disk) where
  module _ (past : List Moment) (s : Scene) (here : Place units ready start past s) (first : Moment) (is : IsCall first) where
    abbrev ms : List Moment
    ms = hist past s.world

    abbrev node : NodeState
    node = s.world.target

    abbrev T : Target
    T = over (target_at start ms)

    good : Good node
    good = good_of units ready here.holds.calls node has here.holds.made

    agreed : Agrees (office_of T) node
    agreed = agrees units ready has start s.world here.holds

    there : (p : ℕ) (login : Login) → place_at T.table.places p ≡ Some login → login_at node p ≡ Some login
    there p login e = ap (λ (x : Table). place_at x.places p) (sym agreed.table) ∙ e

    its_place : (p : ℕ) (login : Login) → place_at T.table.places p ≡ Some login → is_live login ≡ true → place_on T login.unit (id_for (terms ms) 0 (suc (initiator_with (terms (first ∷ ms)) login.node))) ≡ p
    its_place p login e live =
        let own = there p login e in
        let held = here.held.held p login own in
        let i = held.holder.initiator in
        let named : initiator_with (terms (first ∷ ms)) login.node ≡ i =
        call_initiator first is ms login.node ∙ (sym (hearer_is units ready has start past s here p login own live) ∙ ap (λ o. (or_nobody o).initiator) held.there) in
        let next : suc i ≡ i + 1 = omega arith in
        ap (λ n. place_on T login.unit (id_for (terms ms) 0 (suc n))) named
        ∙ (ap (λ n. place_on T login.unit (id_for (terms ms) 0 n)) next
        ∙ (ap (λ (x : Table). place_on (record T { table = x }) login.unit (id_for (terms ms) 0 (i + 1))) (over_same units ready has start past s here).0 ∙ (held.live live).place_is))

    placed : IsPlaced T (terms ms) (terms (first ∷ ms))
    placed = record { own = λ p login e. (good.table.sound.numbered p login (there p login e)).own; found = λ p login e live. its_place p login e live }

  placed_cases : Cases units ready start (ArePlaced start)
  placed_cases = record {
    heard = λ past s serial again run one found zero_to may others here behind noted. λ c. placed past s here _ c;
    heard_own = λ past s serial again one i found to_is inside own here behind noted. λ c. placed past s here _ c;
    late = λ past s serial request done t found node_is e others here behind noted. λ c. placed past s here _ c;
    late_own = λ past s serial request i outbox state found node_is inside e own here behind noted. λ c. placed past s here _ c;
    sees = λ past s others here behind noted. λ c. placed past s here _ c;
    sees_own = λ past s i inside own here behind noted. λ c. placed past s here _ c;
    ticks = λ past s others here behind noted. λ c. placed past s here _ c;
    ends = λ past s done here behind. λ c. placed past s here _ c;
    acts = λ past s line i action outbox state inside e own here behind. λ c. placed past s here _ c;
    lines = λ past s line event rest behind brings fresh here there. λ c. placed past s here _ c;
    begins = λ line initiators is_ready. λ c. begun_none line (events.Begin initiators is_ready) c;
  }

pub placed_law : OfEveryRun (λ start past. EachTurn (ArePlaced start) past)
placed_law = of_every_run ArePlaced (λ units ready start has. placed_cases units ready has start)
