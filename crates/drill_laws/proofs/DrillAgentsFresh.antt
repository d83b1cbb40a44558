-- The agent of a place stays in RESET, and asks for nothing, until ORB_POINTER of the place is written (NCITS 325-1998, command block agents).
use Rattle.std.proofs.Common.{◌≡◌, ◌∙◌, refl, sym, ap, subst, ℕ, zero, suc, ◌+◌, ◌<◌, Bool, true, false, cond, List, [], ◌∷◌, Option, Some, None, arith, slice_index_or}
use Rattle.orb_layout.specs.declared.ask.Ask.TheVariants.{Nothing}
use Rattle.orb_layout.specs.declared.ask.FailCause.TheVariants as fails
use Rattle.orb_layout.specs.Replies.{Answer}
use Rattle.command_agent.specs.Machine.{state_in}
use Rattle.command_agent.specs.Steps.{doorbell_in, doorbell_step, lost_step, reset_step}
use Rattle.command_agent.specs.declared.step.AgentState.TheVariants as states
use Rattle.command_agent.specs.declared.step.Which.{Which}
use Rattle.command_agent.specs.declared.step.Which.TheVariants.{Ahead, Main}
use Rattle.sbp_journal.specs.Addresses.{Access, Register, Start, agent_reset, agent_state, doorbell, management_agent, no_start, orb_pointer, register, rom_start, start_at, start_serves, unsolicited_enable}
use Rattle.sbp_journal.specs.Wire.{Terms}
use Rattle.sbp_laws.specs.Packets.{access_at}
use Rattle.sbp_laws.specs.Targets.{Agent, Purpose, Target, agent_at, agent_over, ahead_lost, cut_agent, for_agent, for_manager, for_nobody, got_by, is_nothing, is_serial, main_lost, moved, new_agent, points, purpose_among, purpose_of, register_got, replied_to, request_got, rings, sends_of, start_got, wants, with_agent}
use Rattle.sbp_world.proofs.Lists.AgentFolds.{AreKept, AreSo, AreStill, Every, set_still, so, stand_still}
use Rattle.drill_laws.proofs.DrillHosts.{IsNoStart, RestsIdle, never_managed}

-- ---- an agent that took no pointer
pub record IsFresh (a : Agent) : Type 0 where
  pub state : state_in a.machine.phase ≡ states.Reset
  pub main : a.main ≡ None
  pub ahead : a.ahead ≡ None
  pub asks : a.asks ≡ Nothing
  pub asks_ahead : a.asks_ahead ≡ Nothing

pub new_fresh : IsFresh new_agent
new_fresh = record { state = refl; main = refl; ahead = refl; asks = refl; asks_ahead = refl }

-- the agent of this place is so
abbrev pub IsFreshAt : (place q : ℕ) → Agent → Type 0
IsFreshAt place q a = q ≡ place → IsFresh a

sends_same : (is_write : Bool) (serial : ℕ) (a : Agent) → IsFresh a → sends_of is_write serial a ≡ a
sends_same is_write serial a f =
    ap (λ w. cond (wants w is_write) (record a { main = Some serial; asks = Nothing }) (cond (wants a.asks_ahead is_write) (record a { ahead = Some serial; asks_ahead = Nothing }) a)) f.asks
    ∙ ap (λ w. cond (wants w is_write) (record a { ahead = Some serial; asks_ahead = Nothing }) a) f.asks_ahead

lost_same : (a : Agent) → IsFresh a → main_lost a ≡ a
lost_same a f = ap (λ w. cond (is_nothing w) a (moved (lost_step a.machine Main fails.Label) a)) f.asks

ahead_same : (a : Agent) → IsFresh a → ahead_lost a ≡ a
ahead_same a f = ap (λ w. cond (is_nothing w) a (record a { machine = (lost_step a.machine Ahead fails.Label).1; asks_ahead = Nothing })) f.asks_ahead

over_fresh : (a : Agent) → IsFresh a → IsFresh (agent_over a)
over_fresh a f =
    let same : agent_over a ≡ record a { asks = Nothing } = ap (λ (x : Agent). record (ahead_lost x) { asks = Nothing }) (lost_same a f) ∙ ap (λ (x : Agent). record x { asks = Nothing }) (ahead_same a f) in
    subst IsFresh (sym same) (record { state = f.state; main = f.main; ahead = f.ahead; asks = refl; asks_ahead = f.asks_ahead })

cut_fresh : (a : Agent) → IsFresh (cut_agent a)
unfolding reset_step
cut_fresh a = record { state = refl; main = refl; ahead = refl; asks = refl; asks_ahead = refl }

pub fresh_kept : (place : ℕ) → AreKept (IsFreshAt place) Every
fresh_kept place = record {
  lasting = record {
    untells = λ q a b f e. (let h = f e in record { state = h.state; main = h.main; ahead = h.ahead; asks = h.asks; asks_ahead = h.asks_ahead });
    sends = λ q a is_write serial may f e. subst IsFresh (sym (sends_same is_write serial a (f e))) (f e);
    loses = λ q a f e. subst IsFresh (sym (lost_same a (f e))) (f e);
    ends = λ q a f e. over_fresh a (f e);
    stays = λ q which answer plain told b f e. new_fresh;
  };
  cuts = λ q a f e. cut_fresh a;
}

-- ---- what the target gets
rings_fresh : (a : Agent) → IsFresh a → IsFresh (rings a)
unfolding doorbell_step
rings_fresh a f =
    let same : doorbell_step a.machine ≡ (Nothing, a.machine) = ap (λ s. doorbell_in s a.machine) f.state in
    subst (λ s. IsFresh (record a { machine = s.1; asks = s.0 })) (sym same) (record { state = f.state; main = f.main; ahead = f.ahead; asks = refl; asks_ahead = f.asks_ahead })

-- no reply is for it
not_owned : (found : Option ℕ) (serial : ℕ) → found ≡ None → is_serial found serial ≡ true → ⊥
not_owned found serial e f = let no : false ≡ true = sym (ap (λ o. is_serial o serial) e) ∙ f in absurd (cc no)

later_else : (from : ℕ) (agents : List Agent) (serial p : ℕ) (which : Which) → purpose_among from agents serial ≡ for_agent p which → p < from → ⊥
later_else from [] serial p which e l = let no : for_nobody ≡ for_agent p which = e in absurd (cc no)
later_else from (b ∷ agents) serial p which e l = over (is_serial b.main serial) (is_serial b.ahead serial) (λ g. later_else (from + 1) agents serial p which g (omega (arith, l))) e
  where
    here : {w : Which} → for_agent from w ≡ for_agent p which → ⊥
    here g = let same : from ≡ p = cc g in omega (arith, same, l)

    over : (x y : Bool) → (purpose_among (from + 1) agents serial ≡ for_agent p which → ⊥) → cond x (for_agent from Main) (cond y (for_agent from Ahead) (purpose_among (from + 1) agents serial)) ≡ for_agent p which → ⊥
    over true y more g = here g
    over false true more g = here g
    over false false more g = more g

among_else : (from : ℕ) (agents : List Agent) (serial k p : ℕ) (which : Which) → IsFresh (slice_index_or agents k new_agent) → p ≡ from + k → purpose_among from agents serial ≡ for_agent p which → ⊥
among_else from [] serial k p which f at e = let no : for_nobody ≡ for_agent p which = e in absurd (cc no)
among_else from (a ∷ agents) serial zero p which f at e = by (is_serial a.main serial) refl (is_serial a.ahead serial) refl e
  where
    by : (x : Bool) → is_serial a.main serial ≡ x → (y : Bool) → is_serial a.ahead serial ≡ y → cond x (for_agent from Main) (cond y (for_agent from Ahead) (purpose_among (from + 1) agents serial)) ≡ for_agent p which → ⊥
    by true i y j g = not_owned a.main serial f.main i
    by false i true j g = not_owned a.ahead serial f.ahead j
    by false i false j g = later_else (from + 1) agents serial p which g (omega (arith, at))
among_else from (a ∷ agents) serial (suc k) p which f at e = by (is_serial a.main serial) (is_serial a.ahead serial) (among_else (from + 1) agents serial k p which f (omega (arith, at))) e
  where
    here : {w : Which} → for_agent from w ≡ for_agent p which → ⊥
    here g = let same : from ≡ p = cc g in omega (arith, same, at)

    by : (x y : Bool) → (purpose_among (from + 1) agents serial ≡ for_agent p which → ⊥) → cond x (for_agent from Main) (cond y (for_agent from Ahead) (purpose_among (from + 1) agents serial)) ≡ for_agent p which → ⊥
    by true y later g = here g
    by false true later g = here g
    by false false later g = later g

module _ (place : ℕ) where
  abbrev Is : Target → Type 0
  Is target = AreSo (IsFreshAt place) target

  abbrev Settled : Target → Type 0
  Settled target = AreStill (IsFreshAt place) target

  purpose_else : (target : Target) (own p : ℕ) (which : Which) → Settled target → RestsIdle target → purpose_of target own ≡ for_agent p which → p ≡ place → ⊥
  purpose_else target own p which h rests e same =
      let among : purpose_of target own ≡ purpose_among 0 target.agents own = ap (λ m. cond (is_serial m own) for_manager (purpose_among 0 target.agents own)) rests.manages in
      among_else 0 target.agents own place p which (h.agents place refl) (omega (arith, same)) (sym among ∙ e)

  replied_fresh : (purpose : Purpose) (answer : Answer) (target : Target) → (purpose ≡ for_manager → ⊥) → ((p : ℕ) (which : Which) → purpose ≡ for_agent p which → p ≡ place → ⊥) → Settled target → Is (replied_to purpose answer target)
  replied_fresh (for_agent p which) answer target never apart h = record {
    agents = λ q e. h.agents q;
    pending = λ reply e plain told b same. absurd (apart p which refl (let is : p ≡ reply.place = cc e in is ∙ same));
  }
  replied_fresh for_manager answer target never apart h = absurd (never refl)
  replied_fresh for_nobody answer target never apart h = so (IsFreshAt place) target h

  -- what is written there, but ORB_POINTER
  register_fresh : (name : Register) (p : ℕ) (access : Access) (target : Target) → (name ≡ orb_pointer → access.is_write ≡ true → p ≡ place → ⊥) → Settled target → Settled (register_got name p access target)
  register_fresh agent_reset p access target never h = set_still (IsFreshAt place) target p (cut_agent (agent_at target p)) h (λ f e. cut_fresh (agent_at target p))
  register_fresh orb_pointer p access target never h = by access.is_write refl
    where
      by : (w : Bool) → access.is_write ≡ w → Settled (cond w (with_agent target p (points access (agent_at target p))) target)
      by true e = set_still (IsFreshAt place) target p (points access (agent_at target p)) h (λ f same. absurd (never refl e same))
      by false e = h
  register_fresh doorbell p access target never h = set_still (IsFreshAt place) target p (rings (agent_at target p)) h (λ f e. rings_fresh (agent_at target p) (f e))
  register_fresh unsolicited_enable p access target never h = stand_still (IsFreshAt place) _ target refl refl h
  register_fresh agent_state p access target never h = h

  -- a write of ORB_POINTER is of another place
  abbrev pub IsPointedElse : Access → Type 0
  IsPointedElse access = access.is_write ≡ true → start_at access.offset ≡ register place orb_pointer → ⊥

  abbrev Unstarted : Start → Access → Type 0
  Unstarted from access = from ≡ management_agent → start_serves management_agent access ≡ false

  abbrev Elsewhere : Start → Access → Type 0
  Elsewhere from access = access.is_write ≡ true → from ≡ register place orb_pointer → ⊥

  served_fresh : (from : Start) (serves : Bool) (source : ℕ) (access : Access) (target : Target) → start_serves from access ≡ serves → Unstarted from access → Elsewhere from access
      → Settled target → Settled (cond serves (start_got from source access target) target)
  served_fresh from false source access target e never apart h = h
  served_fresh (register p name) true source access target e never apart h =
      register_fresh name p access target (λ is w same. apart w (ap (λ n. register p n) is ∙ ap (λ (x : ℕ). register x orb_pointer) same)) h
  served_fresh management_agent true source access target e never apart h = absurd (let no : true ≡ false = sym e ∙ never refl in cc no)
  served_fresh rom_start true source access target e never apart h = h
  served_fresh no_start true source access target e never apart h = h

  request_fresh : (found : Option Access) (source : ℕ) (target : Target) → ((access : Access) → found ≡ Some access → IsNoStart access)
      → ((access : Access) → found ≡ Some access → IsPointedElse access) → Settled target → Settled (request_got found source target)
  request_fresh None source target never apart h = h
  request_fresh (Some access) source target never apart h =
      served_fresh (start_at access.offset) (start_serves (start_at access.offset) access) source access target refl (never access refl) (apart access refl) h

  -- a request that is got
  abbrev pub AreGot : Option ℕ → Terms → ℕ → (Access → Type 0) → Type 0
  AreGot own wire serial Is = (access : Access) → own ≡ None → access_at wire serial ≡ Some access → Is access

  pub got_fresh : (own : Option ℕ) (wire : Terms) (serial : ℕ) (target : Target) → RestsIdle target → AreGot own wire serial IsNoStart
      → AreGot own wire serial IsPointedElse → Settled target → Is (got_by own wire serial target)
  got_fresh (Some own) wire serial target rests never apart h = replied_fresh (purpose_of target own) _ target (never_managed target own rests) (λ p which e same. purpose_else target own p which h rests e same) h
  got_fresh None wire serial target rests never apart h = so (IsFreshAt place) _ (request_fresh (access_at wire serial) _ target (λ access e. never access refl e) (λ access e. apart access refl e) h)
