-- A turn of the management operation changes the agents as its notes do.
use Rattle.sbp_world.proofs.Words.Std.{arith, ◌≡◌, ◌≢◌, ◌∙◌, refl, sym, ap, subst, ℕ, zero, suc, ◌+◌, ◌<◌, nat_eq, nat_lt, Bool, true, false, cond, List, [], ◌∷◌, length, map, Option, Some, None, slice_set, length-set, nat_tests, false≢true}
use Rattle.sbp_world.proofs.Words.Wire.{Layer, CutCause, empty_outbox, function_word, login_if}
use Rattle.sbp_world.proofs.Words.Target.{Login, IsTable, Table, is_live, place_at, Decision, Effect, ManagerStep, PlaceBelow, Phase, is_ahead, is_sent, state_in, abort_step, is_reset, reset_step, writes_status, is_of_unit, Desk, Purpose, cut, new_desk, ask_manager, clear_one, cut_placed, node_decided, effect_by, failed_by, manage, managed_in, managed_with, place_in, tell_left, with_manager, NodeState, Scene, desk_at, login_at, scene, with_desk, clear_from, clear_unit, cut_all}
use Rattle.sbp_world.proofs.Words.Initiator.{Answer}
use Rattle.sbp_world.proofs.Words.Laws.{Agent, cut_agent, cut_where, decided_by, keep_decided, new_agent, on_unit}
use Rattle.sbp_world.proofs.Words.World.{Agrees, Office, replied, stepped, answers, has_list, moves_data, AreOf, affected, managed, Request, agent_in, crew_over, crew_packets, crew_side, crew_sides, hired, with_requests}
use Rattle.label_table.proofs.Owned.{set_at}
use Rattle.mgmt_agent.specs.declared.decision.Effect.TheVariants as effects
use Rattle.mgmt_agent.specs.Machine as management
use Rattle.mgmt_agent.proofs.Places.{places_of_effects}
use Rattle.command_agent.specs.declared.phase.Phase.TheVariants as phases
use Rattle.sbp_journal.specs.declared.cause.CutCause.TheVariants as cuts
use Rattle.sbp_journal.specs.declared.side.Side.TheVariants as sides
use Rattle.sbp_target.proofs.Histories.Calling.{Good, not_eight}
use Rattle.sbp_target.proofs.Histories.Primitives.{Known}
use Rattle.sbp_target.proofs.Histories.Seats.{Lives, split}
use Rattle.sbp_target.proofs.Histories.Stepped.{is_bare}
use Rattle.sbp_world.proofs.Agents.Management.Calm.{Calm, clears_from, clears_one, cuts_all, cuts_at}
use Rattle.sbp_world.proofs.Agents.Management.Deciding.{left_by}
use Rattle.sbp_world.specs.Agents.Management.Offices as office
use Rattle.sbp_world.proofs.Agents.Calls.{AllSettled, Behind, IsUnmoved, TermsCut, all_terms_cut, cut_all_settled, one_term_cut, same_desks, settled_idle, settled_more, settled_of, unmoved_settled}
use Rattle.sbp_world.proofs.Agents.Cuts.{IsKept, all_cut, kept_self, place_cut}
use Rattle.sbp_world.proofs.Agents.Serials.{Paired, one_none, requests_within}
use Rattle.sbp_world.proofs.Agents.Follows.{Settled}
use Rattle.sbp_world.proofs.Agents.Hiring.{Hires, HiresIn, IsEntry, reply_hires}
use Rattle.sbp_world.proofs.Agents.Lists.{AreNoEntries, all_over, at_other, at_own, crew_more, entries_more, idle_packets, idle_sides, quiet_entries}
use Rattle.sbp_world.proofs.Agents.Serves.{ask_keeps, failed_crew}
use Rattle.sbp_world.proofs.Agents.Steps.{abort_alike}
use Rattle.sbp_world.proofs.Lists.BusyCuts.{in_reset}
use Rattle.sbp_world.proofs.Agents.Management.Places.{other_id}
use Rattle.sbp_world.proofs.Common.{itself as same_id}

pub in_place : (place : ℕ) → place < 8 → place_in place ≡ Some place
in_place place b = by (nat_lt place 8) (grind (arith, nat_tests))
  where
    by : (x : Bool) → x ≡ true → cond x (Some place) None ≡ Some place
    by true e = refl
    by false e = absurd (false≢true e)

-- ---- one desk is another
module _ (n : NodeState) (size : length n.desks ≡ 8) (place : ℕ) (b : place < 8) (d : Desk) where
  at : (k : ℕ) → desk_at (with_desk n place d) k ≡ cond (nat_eq k place) d (desk_at n k)
  at k = set_at n.desks place k d new_desk (omega arith)

  here : desk_at (with_desk n place d) place ≡ d
  here = at place ∙ ap (λ (x : Bool). cond x d (desk_at n place)) (same_id place)

  off : (k : ℕ) → k ≢ place → desk_at (with_desk n place d) k ≡ desk_at n k
  off k f = at k ∙ ap (λ (x : Bool). cond x d (desk_at n k)) (other_id k place f)

  -- one agent is another, and the rest are as they were
  one_settled : {requests : List Request} (agents : List Agent) (a : Agent) → AllSettled requests agents n → Settled d.agent d.pointer a → Paired requests d a → AllSettled requests (slice_set agents place a) (with_desk n place d)
  one_settled {requests} agents a s h k = record {
    size = length-set agents place a ∙ s.size;
    each = λ p l. by (nat_eq p place) p l refl;
    paired = λ p l. pair_by (nat_eq p place) p l refl;
  }
    where
      pair_by : (x : Bool) (p : ℕ) → p < 8 → nat_eq p place ≡ x → Paired requests (desk_at (with_desk n place d) p) (agent_in (slice_set agents place a) p)
      pair_by true p l e =
          let same : p ≡ place = grind (arith, nat_tests) in
          subst (λ (i : ℕ). Paired requests (desk_at (with_desk n place d) i) (agent_in (slice_set agents place a) i)) (sym same)
          (subst (λ (x : Desk). Paired requests x (agent_in (slice_set agents place a) place)) (sym here) (subst (λ (x : Agent). Paired requests d x) (sym (at_own agents place a s.size b)) k))
      pair_by false p l e =
          let f : p ≢ place = grind (arith, nat_tests) in
          subst (λ (x : Desk). Paired requests x (agent_in (slice_set agents place a) p)) (sym (off p f))
          (subst (λ (x : Agent). Paired requests (desk_at n p) x) (sym (at_other agents place p a s.size b f)) (s.paired p l))

      by : (x : Bool) (p : ℕ) → p < 8 → nat_eq p place ≡ x → Settled (desk_at (with_desk n place d) p).agent (desk_at (with_desk n place d) p).pointer (agent_in (slice_set agents place a) p)
      by true p l e =
          let same : p ≡ place = grind (arith, nat_tests) in
          subst (λ (k : ℕ). Settled (desk_at (with_desk n place d) k).agent (desk_at (with_desk n place d) k).pointer (agent_in (slice_set agents place a) k)) (sym same)
          (subst (λ (x : Desk). Settled x.agent x.pointer (agent_in (slice_set agents place a) place)) (sym here) (subst (λ (x : Agent). Settled d.agent d.pointer x) (sym (at_own agents place a s.size b)) h))
      by false p l e =
          let f : p ≢ place = grind (arith, nat_tests) in
          subst (λ (x : Desk). Settled x.agent x.pointer (agent_in (slice_set agents place a) p)) (sym (off p f))
          (subst (λ (x : Agent). Settled (desk_at n p).agent (desk_at n p).pointer x) (sym (at_other agents place p a s.size b f)) (s.each p l))

register_unmoved : (n : NodeState) → length n.desks ≡ 8 → (place : ℕ) → place < 8 → (x : Bool) → IsUnmoved n (with_desk n place (record (desk_at n place) { is_enabled = x }))
register_unmoved n size place b x =
    let d : Desk = record (desk_at n place) { is_enabled = x } in
    record {
      agent = λ k l. ap (λ (y : Desk). y.agent) (at n size place b d k) ∙ agent_by (nat_eq k place) k refl;
      pointer = λ k l. ap (λ (y : Desk). y.pointer) (at n size place b d k) ∙ pointer_by (nat_eq k place) k refl;
      kept = λ k l. subst (λ (y : Desk). IsKept (desk_at n k) y) (sym (at n size place b d k)) (kept_by (nat_eq k place) k refl);
    }
  where
    kept_by : (y : Bool) (k : ℕ) → nat_eq k place ≡ y → IsKept (desk_at n k) (cond y (record (desk_at n place) { is_enabled = x }) (desk_at n k))
    kept_by true k f = let same : k ≡ place = grind (arith, nat_tests) in subst (λ (i : ℕ). IsKept (desk_at n i) (record (desk_at n place) { is_enabled = x })) (sym same) (record { main = refl; ahead = refl })
    kept_by false k f = kept_self (desk_at n k)

    agent_by : (y : Bool) (k : ℕ) → nat_eq k place ≡ y → (cond y (record (desk_at n place) { is_enabled = x }) (desk_at n k)).agent ≡ (desk_at n k).agent
    agent_by true k f = let same : k ≡ place = grind (arith, nat_tests) in ap (λ (i : ℕ). (desk_at n i).agent) (sym same)
    agent_by false k f = refl

    pointer_by : (y : Bool) (k : ℕ) → nat_eq k place ≡ y → (cond y (record (desk_at n place) { is_enabled = x }) (desk_at n k)).pointer ≡ (desk_at n k).pointer
    pointer_by true k f = let same : k ≡ place = grind (arith, nat_tests) in ap (λ (i : ℕ). (desk_at n i).pointer) (sym same)
    pointer_by false k f = refl

-- ---- cuts of a unit's lists
where_at : (test : ℕ → Bool) (from p : ℕ) (agents : List Agent) → p < length agents → agent_in (cut_where test from agents) p ≡ cond (test (from + p)) (cut_agent (agent_in agents p)) (agent_in agents p)
where_at test from p [] l = absurd (omega arith)
where_at test from zero (a ∷ agents) l = let same : from ≡ from + 0 = omega arith in ap (λ n. cond (test n) (cut_agent a) a) same
where_at test from (suc p) (a ∷ agents) l =
    let same : from + 1 + p ≡ from + suc p = omega arith in
    where_at test (from + 1) p agents (omega arith) ∙ ap (λ n. cond (test n) (cut_agent (agent_in agents p)) (agent_in agents p)) same

where_size : (test : ℕ → Bool) (from : ℕ) (agents : List Agent) → length (cut_where test from agents) ≡ length agents
where_size test from [] = refl
where_size test from (a ∷ agents) = ap suc (where_size test (from + 1) agents)

terms_where : (test : ℕ → Bool) (agents : List Agent) → length agents ≡ 8 → TermsCut test agents (cut_where test 0 agents)
terms_where test agents size = record {
  size = where_size test 0 agents ∙ size;
  each = λ p b. let same : 0 + p ≡ p = omega arith in where_at test 0 p agents (omega arith) ∙ ap (λ n. cond (test n) (cut_agent (agent_in agents p)) (agent_in agents p)) same;
}

unit_test : (unit : ℕ) (places : List (Option Login)) (p : ℕ) → on_unit unit places p ≡ is_of_unit unit (place_at places p)
unit_test unit places p = by (place_at places p) refl
  where
    by : (x : Option Login) → place_at places p ≡ x → on_unit unit places p ≡ is_of_unit unit (place_at places p)
    by None e = rw e refl
    by (Some login) e = rw e refl

pub clears_desks : (left unit : ℕ) (s : Scene) → (clear_from left unit s).node.desks ≡ s.node.desks
unfolding clear_from clear_unit
clears_desks zero unit s = refl
clears_desks (suc left) unit s = clears_desks left (unit + 1) (clear_unit unit s)

one_clear_desks : (unit : ℕ) (s : Scene) → (clear_one unit s).node.desks ≡ s.node.desks
unfolding clear_unit
one_clear_desks unit s = by (nat_lt unit (length s.node.units))
  where
    by : (b : Bool) → (cond b (clear_unit unit s) s).node.desks ≡ s.node.desks
    by true = refl
    by false = refl

-- ---- effects
abbrev IsNoEntry : Effect → Type 0
IsNoEntry (effects.Entered place replaced) = ⊥
IsNoEntry effect = Unit {0}

record Comes (requests : List Request) (first : Office) (agents now : List Agent) (s : Scene) : Type 0 where
  crew : crew_sides s.outbox.sides first agents ≡ now
  settled : AllSettled requests now s.node

record Stays (requests : List Request) (agents : List Agent) (s : Scene) : Type 0 where
  entries : AreNoEntries s.outbox.sides
  settled : AllSettled requests agents s.node

module _ {requests : List Request} (node : NodeState) (g : Good node) (agents : List Agent) (is : AreOf requests agents node) (layer : Layer Purpose) (lives : Lives) (k : Known layer lives) (o : Office) (a : Agrees o node) where
  module _ (m : management.Machine) (t : Table) where
    abbrev then_node : NodeState
    then_node = with_manager (record node { layer = layer }) (m, t)

    abbrev begun : Scene
    begun = scene then_node empty_outbox

    calm : Calm lives then_node begun
    calm = record { logins = refl; keys = refl; manager = refl; rom = refl; quiet = tt; from = record { lives = lives; known = k; before = λ p l kind h. h } }

    own : AllSettled requests agents then_node
    own = unmoved_settled agents node then_node (same_desks node then_node refl) (settled_of agents node g is)

    one_cut : (cause : CutCause) (place : ℕ) → place < 8 → Stays requests (slice_set agents place (cut_agent (agent_in agents place))) (cut cause place begun)
    one_cut cause place b = record {
      entries = quiet_entries _ (cuts_at lives then_node cause place begun calm).quiet;
      settled = cut_all_settled (λ p. nat_eq p place) agents _ then_node (cut cause place begun).node (place_cut cause place begun b g.mid.size) (one_term_cut agents place is.size b) own;
    }

    placed_cut : (cause : CutCause) (place : ℕ) → place < 8 → Stays requests (slice_set agents place (cut_agent (agent_in agents place))) (cut_placed (place_in place) cause begun)
    placed_cut cause place b = subst (λ (x : Option ℕ). Stays requests (slice_set agents place (cut_agent (agent_in agents place))) (cut_placed x cause begun)) (sym (in_place place b)) (one_cut cause place b)

    cut_size : (cause : CutCause) (place : ℕ) → place < 8 → length (cut_placed (place_in place) cause begun).node.desks ≡ 8
    cut_size cause place b = subst (λ (x : Option ℕ). length (cut_placed x cause begun).node.desks ≡ 8) (sym (in_place place b)) (place_cut cause place begun b g.mid.size).size

    aborts : (place orb : ℕ) → place < 8 → AllSettled requests (slice_set agents place (record (agent_in agents place) { machine = abort_step (agent_in agents place).machine orb })) (with_desk then_node place (record (desk_at node place) { agent = abort_step (desk_at node place).agent orb }))
    unfolding abort_step
    aborts place orb b =
        let s = own.each place b in
        one_settled then_node g.mid.size place b (record (desk_at node place) { agent = abort_step (desk_at node place).agent orb }) agents _ own (record {
          machine = abort_alike (agent_in agents place).untold (agent_in agents place).machine (desk_at node place).agent orb s.machine;
          main = s.main;
          ahead = s.ahead;
          pointer_is = s.pointer_is;
          asks = s.asks;
          asks_ahead = s.asks_ahead;
        })
        (record { main = (own.paired place b).main; ahead = (own.paired place b).ahead })

    units_cut : (unit : ℕ) → t ≡ o.table → Stays requests (cut_where (on_unit unit o.table.places) 0 agents) (cut_all cuts.UnitReset (Some unit) begun)
    units_cut unit e =
        let c = all_cut cuts.UnitReset (Some unit) begun g.mid.size in
        let s = cut_all cuts.UnitReset (Some unit) begun in
        let tests : (p : ℕ) → is_of_unit unit (login_at then_node p) ≡ on_unit unit o.table.places p = λ p. ap (λ (x : Table). is_of_unit unit (place_at x.places p)) e ∙ sym (unit_test unit o.table.places p) in
        record {
          entries = quiet_entries _ (cuts_all lives then_node cuts.UnitReset (Some unit) begun calm).quiet;
          settled = cut_all_settled (on_unit unit o.table.places) agents _ then_node s.node (record {
            size = c.size;
            logins = c.logins;
            agent = λ p l. c.agent p l ∙ ap (λ (x : Bool). cond x (reset_step (desk_at then_node p).agent) (desk_at then_node p).agent) (tests p);
            pointer = c.pointer;
            kept = λ p l f. c.kept p l (tests p ∙ f);
          }) (terms_where (on_unit unit o.table.places) agents is.size) own;
        }

    all_units_cut : Stays requests (map cut_agent agents) (cut_all cuts.TargetReset None begun)
    all_units_cut =
        let c = all_cut cuts.TargetReset None begun g.mid.size in
        record {
          entries = quiet_entries _ (cuts_all lives then_node cuts.TargetReset None begun calm).quiet;
          settled = cut_all_settled (λ p. true) agents _ then_node (cut_all cuts.TargetReset None begun).node (record { size = c.size; logins = c.logins; agent = c.agent; pointer = c.pointer; kept = c.kept }) (all_terms_cut agents is.size) own;
        }

    effects_stay : (effect : Effect) (subject : ℕ) → IsNoEntry effect → PlaceBelow effect → ((unit : ℕ) → effect ≡ effects.UnitReset unit → t ≡ o.table) → Stays requests (affected effect o agents) (effect_by effect subject begun)
    effects_stay effects.Nothing subject n b u = record { entries = tt; settled = own }
    effects_stay (effects.Entered place replaced) subject n b u = absurd n
    effects_stay (effects.Back place) subject n b u = record { entries = (tt, tt); settled = own }
    effects_stay (effects.Left place) subject n b u =
        let s = placed_cut cuts.Logout place b in
        let c = cut_placed (place_in place) cuts.Logout begun in
        record {
          entries = entries_more c.outbox.sides (sides.Left subject) s.entries tt;
          settled = unmoved_settled _ c.node _ (register_unmoved c.node (cut_size cuts.Logout place b) place b false) s.settled;
        }
    effects_stay (effects.Abort place orb) subject n b u = record { entries = tt; settled = aborts place orb b }
    effects_stay (effects.AbortSet place) subject n b u = placed_cut cuts.AbortSet place b
    effects_stay (effects.UnitReset unit) subject n b u =
        let c = cut_all cuts.UnitReset (Some unit) begun in
        let s = units_cut unit (u unit refl) in
        record {
          entries = quiet_entries _ (clears_one lives then_node unit c (cuts_all lives then_node cuts.UnitReset (Some unit) begun calm)).quiet;
          settled = unmoved_settled _ c.node _ (same_desks c.node (clear_one unit c).node (one_clear_desks unit c)) s.settled;
        }
    effects_stay effects.TargetReset subject n b u =
        let c = cut_all cuts.TargetReset None begun in
        let s = all_units_cut in
        record {
          entries = quiet_entries _ (clears_from lives then_node (length c.node.units) 0 c (cuts_all lives then_node cuts.TargetReset None begun calm)).quiet;
          settled = unmoved_settled _ c.node _ (same_desks c.node (clear_from (length c.node.units) 0 c).node (clears_desks (length c.node.units) 0 c)) s.settled;
        }

    -- ---- a login is entered
    free_reset : (place : ℕ) → place < 8 → ((login : Login) → place_at o.table.places place ≡ Some login → is_live login ≡ false) → (desk_at node place).agent.phase ≡ phases.Reset
    free_reset place b free =
        split (is_reset (state_in (desk_at node place).agent.phase)) ((desk_at node place).agent.phase ≡ phases.Reset)
        (λ e. in_reset (desk_at node place).agent.phase e)
        (λ e.
        let i = g.mid.served place b (not_eight place b) e in
        let there : place_at o.table.places place ≡ Some i.login = ap (λ (x : Table). place_at x.places place) a.table ∙ i.is in
        absurd (false≢true (sym (free i.login there) ∙ i.live)))

    fresh_settled : (place : ℕ) → place < 8 → (desk_at node place).agent.phase ≡ phases.Reset → Settled (desk_at node place).agent None new_agent
    fresh_settled place b r =
        let f = g.mid.fits place b (not_eight place b) in
        let idle : is_ahead (desk_at node place).agent.ahead ≡ false = f.agent.bare (ap (λ (p : Phase). is_bare p) r) in
        let listless : has_list (desk_at node place).agent.phase ≡ true → ⊥ = λ e. false≢true (sym (ap has_list r) ∙ e) in
        record {
          machine = record {
            phase = sym r;
            flag = sym idle;
            ahead = λ e. absurd (listless e);
            doorbell = λ e. absurd (listless e);
            present = λ e. absurd (listless e);
            orb = λ e. absurd (listless e);
            aborted = λ e. absurd (listless e);
            payload = λ e. absurd (listless e);
            segments = λ e. absurd (false≢true (sym (ap moves_data r) ∙ e));
            written = λ e. absurd (false≢true (sym (ap answers r) ∙ e));
            size = λ e. absurd (false≢true (sym (ap answers r) ∙ e));
            answer = λ e. absurd (false≢true (sym (ap answers r) ∙ e));
            chunk = λ e. absurd (false≢true (sym (ap answers r) ∙ e));
            status = λ e. absurd (false≢true (sym (ap writes_status r) ∙ e));
          };
          main = sym (ap (λ (p : Phase). is_sent p) r);
          ahead = sym idle;
          pointer_is = refl;
          asks = refl;
          asks_ahead = refl;
        }

    left_comes : (replaced : Option ℕ) (first : Office) → (office.by_sides (tell_left replaced empty_outbox).sides first ≡ left_by replaced first) × (crew_sides (tell_left replaced empty_outbox).sides first agents ≡ agents)
    left_comes None first = (refl, refl)
    left_comes (Some id) first = (refl, refl)

    enters : (place : ℕ) (replaced : Option ℕ) (d : Decision) (source : ℕ) (first : Office) → place < 8 → IsEntry (function_word d.function) o.table (left_by replaced first) place d.status d.login → Comes requests first agents (slice_set agents place new_agent) (node_decided (Some d) (effects.Entered place replaced) source begun)
    unfolding node_decided
    enters place replaced d source first b e =
        let told = (tell_left replaced empty_outbox).sides in
        let l = left_comes replaced first in
        let side = sides.Managed source d.function d.subject d.status d.login in
        record {
          crew =
              crew_more told side first agents
              ∙ ap (λ (x : Office). crew_side side x (crew_sides told first agents)) l.0
              ∙ ap (crew_side side (left_by replaced first)) l.1
              ∙ e.hires agents;
          settled = one_settled then_node g.mid.size place b (record (desk_at node place) { pointer = None; is_enabled = false }) agents new_agent own (fresh_settled place b (free_reset place b e.free)) (record { main = one_none requests (desk_at node place).main; ahead = one_none requests (desk_at node place).ahead });
        }

    -- ---- a decision
    stays_comes : (d : Decision) (effect : Effect) (source : ℕ) (first : Office) → Stays requests (affected effect o agents) (effect_by effect d.subject begun) → ((x : Office) (xs : List Agent) → hired (function_word d.function) (login_if (function_word d.function) d.status d.login) x xs ≡ xs) → Comes requests first (affected effect o agents) (affected effect o agents) (node_decided (Some d) effect source begun)
    unfolding node_decided
    stays_comes d effect source first s h =
        let e = effect_by effect d.subject begun in
        let side = sides.Managed source d.function d.subject d.status d.login in
        let now = affected effect o agents in
        record {
          crew =
              crew_more e.outbox.sides side first now
              ∙ ap (crew_side side (office.by_sides e.outbox.sides first)) (idle_sides now (settled_idle now e.node s.settled) e.outbox.sides first s.entries)
              ∙ h (office.by_sides e.outbox.sides first) now;
          settled = record { size = s.settled.size; each = s.settled.each; paired = s.settled.paired };
        }

    decision_comes : (d : Decision) (effect : Effect) (source : ℕ) (first : Office) → PlaceBelow effect → ((unit : ℕ) → effect ≡ effects.UnitReset unit → t ≡ o.table) → HiresIn (function_word d.function) o.table first d.status d.login effect → (now : List Agent) × Comes requests first (affected effect o agents) now (node_decided (Some d) effect source begun)
    decision_comes d effects.Nothing source first b u h = (_, stays_comes d effects.Nothing source first (effects_stay effects.Nothing d.subject tt b u) h)
    decision_comes d (effects.Entered place replaced) source first b u h = (_, enters place replaced d source first b h)
    decision_comes d (effects.Back place) source first b u h = (_, stays_comes d (effects.Back place) source first (effects_stay (effects.Back place) d.subject tt b u) h)
    decision_comes d (effects.Left place) source first b u h = (_, stays_comes d (effects.Left place) source first (effects_stay (effects.Left place) d.subject tt b u) h)
    decision_comes d (effects.Abort place orb) source first b u h = (_, stays_comes d (effects.Abort place orb) source first (effects_stay (effects.Abort place orb) d.subject tt b u) h)
    decision_comes d (effects.AbortSet place) source first b u h = (_, stays_comes d (effects.AbortSet place) source first (effects_stay (effects.AbortSet place) d.subject tt b u) h)
    decision_comes d (effects.UnitReset unit) source first b u h = (_, stays_comes d (effects.UnitReset unit) source first (effects_stay (effects.UnitReset unit) d.subject tt b u) h)
    decision_comes d effects.TargetReset source first b u h = (_, stays_comes d effects.TargetReset source first (effects_stay effects.TargetReset d.subject tt b u) h)

    none_comes : (effect : Effect) (source : ℕ) (first : Office) → effect ≡ effects.Nothing → Comes requests first (affected effect o agents) agents (node_decided None effect source begun)
    unfolding node_decided
    none_comes effect source first e = record { crew = ap (λ (x : Effect). affected x o agents) e; settled = own }

  -- ---- a step of the operation
  comes_behind : (first : Office) (source : ℕ) (step : ManagerStep) (agents now : List Agent) (s : Scene) → Comes requests first agents now s → Behind requests first agents (ask_manager source step.ask (failed_by source step.failed s))
  comes_behind first source step agents now s c =
      let f = failed_by source step.failed s in
      let l = ask_manager source step.ask f in
      let keeps = ask_keeps source step.ask f in
      let crew : crew_sides l.outbox.sides first agents ≡ now = keeps.crew first agents now (failed_crew source step.failed s.outbox first agents now c.crew) in
      let settled : AllSettled requests now l.node = unmoved_settled now s.node l.node (same_desks s.node l.node keeps.desks) c.settled in
      let idle = settled_idle now l.node settled in
      record {
        all = λ last.
            let last_requests = with_requests last l.outbox.packets requests in
            subst (λ (xs : List Agent). AllSettled last_requests xs l.node)
            (sym (ap (λ (xs : List Agent). crew_over (crew_packets last l.outbox.packets xs)) crew ∙ ap crew_over (idle_packets now idle last l.outbox.packets) ∙ all_over now idle))
            (settled_more requests last_requests (requests_within last l.outbox.packets requests) now l.node settled);
      }

  step_behind : (source : ℕ) (answer : Answer) (step : ManagerStep) (m : management.Machine) (t : Table) (decided : Option Decision) → step.decided ≡ decided → PlaceBelow step.effect → Hires o.table o.manager.operation answer (step, (m, t)) → Behind requests (stepped o answer (step, (m, t))) (affected step.effect o agents) (ask_manager source step.ask (failed_by source step.failed (node_decided decided step.effect source (begun m t))))
  step_behind source answer step m t None e b h =
      let first = stepped o answer (step, (m, t)) in
      comes_behind first source step (affected step.effect o agents) agents (node_decided None step.effect source (begun m t)) (none_comes m t step.effect source first (h.none e))
  step_behind source answer step m t (Some d) e b h =
      let first = stepped o answer (step, (m, t)) in
      let x = h.brings d e in
      let decided_is : first.decided ≡ Some x.0 = ap (λ (y : Option Decision). keep_decided y (decided_by o.manager.operation answer) o.decided) e ∙ x.1 in
      let c = decision_comes m t d step.effect source first b h.keeps (h.hires d e first x.0 decided_is refl) in
      comes_behind first source step (affected step.effect o agents) c.0 (node_decided (Some d) step.effect source (begun m t)) c.1

  with_behind : (source : ℕ) (answer : Answer) (r : ManagerStep × (management.Machine × Table)) → PlaceBelow r.0.effect → Hires o.table o.manager.operation answer r → Behind requests (stepped o answer r) (affected r.0.effect o agents) (managed_with source (scene (record node { layer = layer }) empty_outbox) r)
  with_behind source answer (step, (m, t)) b h = step_behind source answer step m t step.decided refl b h

  pub managed_behind : (source : ℕ) (answer : Answer) → management.source_in node.manager.operation ≡ Some source → Behind requests (replied answer o) (managed answer o agents) (manage answer (scene (record node { layer = layer }) empty_outbox))
  unfolding manage
  managed_behind source answer e =
      let r = management.reply_step o.manager o.table o.keys answer in
      let same : management.reply_step node.manager node.logins node.keys answer ≡ r =
      ap (λ m. management.reply_step m node.logins node.keys answer) (sym a.manager)
      ∙ ap (λ t. management.reply_step o.manager t node.keys answer) (sym a.table)
      ∙ ap (λ ks. management.reply_step o.manager o.table ks answer) (sym a.keys) in
      let table = subst (λ (x : Table). IsTable x) (sym a.table) g.table in
      subst (λ (x : Option ℕ). Behind requests (replied answer o) (managed answer o agents) (managed_in x answer (scene (record node { layer = layer }) empty_outbox))) (sym e)
      (subst (λ (x : ManagerStep × (management.Machine × Table)). Behind requests (replied answer o) (managed answer o agents) (managed_with source (scene (record node { layer = layer }) empty_outbox) x)) (sym same)
      (with_behind source answer r (places_of_effects o.manager o.table o.keys answer table) (reply_hires o.table table.sound o.manager o.keys answer)))
