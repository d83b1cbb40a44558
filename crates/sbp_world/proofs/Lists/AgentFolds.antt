-- What is said of each agent of the terms of the target, by its place, where what is done with an agent keeps it: what ends a turn keeps it, and a reply that takes its agent on.
use Rattle.sbp_world.proofs.Words.Std.{◌≡◌, ◌∙◌, ◌⊎◌, inl, inr, refl, sym, ap, subst, arith, ◌+◌, ℕ, zero, suc, ◌==◌, Bool, true, false, cond, List, [], ◌∷◌, map, Option, Some, None, slice_index_or, slice_set, nat_tests}
use Rattle.sbp_world.proofs.Words.Wire.{Note}
use Rattle.sbp_world.proofs.Words.Target.{Which, new_machine, reply_step, reset_step, Told, PlainDisk}
use Rattle.sbp_world.proofs.Words.Initiator.{Answer}
use Rattle.sbp_world.proofs.Words.Laws.{Agent, Reply, Target, agent_at, agent_over, closed, cut_agent, cut_where, going_on, main_lost, moved, new_agent, over, plain_for, reply_of, sends_of, taken_on, told_in, untold_by, with_agent, with_untold}
use Rattle.std.specs.Prelude.{replicate}
use Rattle.sbp_world.proofs.Common.{equal, none_is}

-- ---- lists of agents
abbrev pub at_place : List Agent → ℕ → Agent
at_place agents q = slice_index_or agents q new_agent

pub set_or : (agents : List Agent) (k : ℕ) (x : Agent) (q : ℕ) → ((q ≡ k) × (at_place (slice_set agents k x) q ≡ x)) ⊎ (at_place (slice_set agents k x) q ≡ at_place agents q)
set_or [] k x q = inr refl
set_or (a ∷ agents) zero x zero = inl (refl, refl)
set_or (a ∷ agents) zero x (suc q) = inr refl
set_or (a ∷ agents) (suc k) x zero = inr refl
set_or (a ∷ agents) (suc k) x (suc q) = by (set_or agents k x q)
  where
    by : ((q ≡ k) × (at_place (slice_set agents k x) q ≡ x)) ⊎ (at_place (slice_set agents k x) q ≡ at_place agents q) → ((suc q ≡ suc k) × (at_place (slice_set agents k x) q ≡ x)) ⊎ (at_place (slice_set agents k x) q ≡ at_place agents q)
    by (inl h) = inl (ap suc h.0, h.1)
    by (inr h) = inr h

cut_if : (b : Bool) (a : Agent) → (cond b (cut_agent a) a ≡ cut_agent a) ⊎ (cond b (cut_agent a) a ≡ a)
cut_if true a = inl refl
cut_if false a = inr refl

pub cut_or : (test : ℕ → Bool) (p : ℕ) (agents : List Agent) (q : ℕ) → (at_place (cut_where test p agents) q ≡ cut_agent (at_place agents q)) ⊎ (at_place (cut_where test p agents) q ≡ at_place agents q)
cut_or test p [] q = inr refl
cut_or test p (a ∷ agents) zero = cut_if (test p) a
cut_or test p (a ∷ agents) (suc q) = cut_or test (p + 1) agents q

pub new_there : (n q : ℕ) → at_place (replicate n new_agent) q ≡ new_agent
new_there zero q = refl
new_there (suc n) zero = refl
new_there (suc n) (suc q) = new_there n q

-- ---- one agent of a list is replaced
pub data SetAgent (agents : List Agent) (k : ℕ) (x : Agent) (q : ℕ) : Type 0 where
  is_it : q ≡ k → at_place (slice_set agents k x) q ≡ x → SetAgent agents k x q
  is_other : (k == q) ≡ false → at_place (slice_set agents k x) q ≡ at_place agents q → SetAgent agents k x q
  is_none : at_place (slice_set agents k x) q ≡ new_agent → at_place agents q ≡ new_agent → SetAgent agents k x q

pub set_agent : (agents : List Agent) (k : ℕ) (x : Agent) (q : ℕ) → SetAgent agents k x q
set_agent [] k x q = is_none refl refl
set_agent (a ∷ agents) zero x zero = is_it refl refl
set_agent (a ∷ agents) zero x (suc q) = is_other (let e : (0 == suc q) ≡ false = grind (arith, nat_tests) in e) refl
set_agent (a ∷ agents) (suc k) x zero = is_other (let e : (suc k == 0) ≡ false = grind (arith, nat_tests) in e) refl
set_agent (a ∷ agents) (suc k) x (suc q) = by (set_agent agents k x q)
  where
    by : SetAgent agents k x q → SetAgent (a ∷ agents) (suc k) x (suc q)
    by (is_it e f) = is_it (ap suc e) f
    by (is_other e f) = is_other (let g : (suc k == suc q) ≡ false = grind (arith, nat_tests) in g) f
    by (is_none e f) = is_none e f

-- ---- all are
pub map_at : (f : Agent → Agent) → f new_agent ≡ new_agent → (agents : List Agent) (q : ℕ) → at_place (map f agents) q ≡ f (at_place agents q)
map_at f e [] q = sym e
map_at f e (a ∷ agents) zero = refl
map_at f e (a ∷ agents) (suc q) = map_at f e agents q

cut_new : cut_agent new_agent ≡ new_agent
unfolding reset_step
cut_new = refl

-- a reply is for the agent of a place
abbrev pub is_for : Option Reply → ℕ → Bool
is_for None q = false
is_for (Some reply) q = reply.place == q

-- ---- what is done with an agent keeps it, as a turn goes on, where its packets have such serials
abbrev pub Every : ℕ → Type 0
Every serial = Unit {0}

pub record AreLasting (P : ℕ → Agent → Type 0) (May : ℕ → Type 0) : Type 0 where
  pub untells : (q : ℕ) (a : Agent) (b : Bool) → P q a → P q (record a { untold = b })
  pub sends : (q : ℕ) (a : Agent) (is_write : Bool) (serial : ℕ) → May serial → P q a → P q (sends_of is_write serial a)
  pub loses : (q : ℕ) (a : Agent) → P q a → P q (main_lost a)
  pub ends : (q : ℕ) (a : Agent) → P q a → P q (agent_over a)
  -- a reply takes a new agent nowhere
  pub stays : (q : ℕ) (which : Which) (answer : Answer) (plain : PlainDisk) (told : Option Told) (b : Bool)
      → P q (moved (reply_step new_machine q plain told which answer) (closed which (record new_agent { untold = b }))) → P q new_agent

-- and as its list is cut
pub record AreKept (P : ℕ → Agent → Type 0) (May : ℕ → Type 0) : Type 0 where
  pub lasting : AreLasting P May
  pub cuts : (q : ℕ) (a : Agent) → P q a → P q (cut_agent a)

module _ (P : ℕ → Agent → Type 0) where
  -- as a reply takes its agent on
  abbrev pub Pends : Agent → Reply → Type 0
  Pends a reply =
      (plain : PlainDisk) (told : Option Told) (b : Bool) → P reply.place (moved (reply_step a.machine reply.place plain told reply.which reply.answer) (closed reply.which (record a { untold = b })))

  pub record AreSo (t : Target) : Type 0 where
    pub agents : (q : ℕ) → is_for t.reply q ≡ false → P q (agent_at t q)
    pub pending : (reply : Reply) → t.reply ≡ Some reply → Pends (agent_at t reply.place) reply

  -- and no reply waits
  pub record AreStill (t : Target) : Type 0 where
    pub agents : (q : ℕ) → P q (agent_at t q)
    pub none : t.reply ≡ None

  pub so : (t : Target) → AreStill t → AreSo t
  so t h = record { agents = λ q e. h.agents q; pending = λ reply e. none_is reply (sym h.none ∙ e) }

  -- the agents stand
  pub stand : (now t : Target) → now.agents ≡ t.agents → now.reply ≡ t.reply → AreSo t → AreSo now
  stand now t e f h = record {
    agents = λ q g. subst (λ (xs : List Agent). P q (at_place xs q)) (sym e) (h.agents q (sym (ap (λ r. is_for r q) f) ∙ g));
    pending = λ reply g. subst (λ (xs : List Agent). Pends (at_place xs reply.place) reply) (sym e) (h.pending reply (sym f ∙ g));
  }

  pub stand_still : (now t : Target) → now.agents ≡ t.agents → now.reply ≡ t.reply → AreStill t → AreStill now
  stand_still now t e f h = record { agents = λ q. subst (λ (xs : List Agent). P q (at_place xs q)) (sym e) (h.agents q); none = f ∙ h.none }

  -- one agent is replaced
  set_each : (agents : List Agent) (k : ℕ) (x : Agent) (q : ℕ) → P q (at_place agents q) → (P k (at_place agents k) → P k x) → P q (at_place (slice_set agents k x) q)
  set_each agents k x q h f = by (set_agent agents k x q)
    where
      by : SetAgent agents k x q → P q (at_place (slice_set agents k x) q)
      by (is_it e g) = subst (P q) (sym g) (subst (λ p. P p x) (sym e) (f (subst (λ p. P p (at_place agents p)) e h)))
      by (is_other e g) = subst (P q) (sym g) h
      by (is_none g none) = subst (P q) (none ∙ sym g) h

  pub set_still : (t : Target) (k : ℕ) (x : Agent) → AreStill t → (P k (agent_at t k) → P k x) → AreStill (with_agent t k x)
  set_still t k x h f = record { agents = λ q. set_each t.agents k x q (h.agents q) f; none = h.none }

  pub set_so : (t : Target) (k : ℕ) (x : Agent) → AreSo t → P k x → ((reply : Reply) → reply.place ≡ k → Pends x reply) → AreSo (with_agent t k x)
  set_so t k x h own pends = record { agents = λ q e. set_each t.agents k x q (h.agents q e) (λ y. own); pending = λ reply e. by reply e (set_agent t.agents k x reply.place) }
    where
      by : (reply : Reply) → t.reply ≡ Some reply → SetAgent t.agents k x reply.place → Pends (at_place (slice_set t.agents k x) reply.place) reply
      by reply e (is_it f g) = subst (λ (y : Agent). Pends y reply) (sym g) (pends reply f)
      by reply e (is_other f g) = subst (λ (y : Agent). Pends y reply) (sym g) (h.pending reply e)
      by reply e (is_none g none) = subst (λ (y : Agent). Pends y reply) (none ∙ sym g) (h.pending reply e)

  -- all are
  pub map_still : (f : Agent → Agent) → f new_agent ≡ new_agent → ((q : ℕ) (a : Agent) → P q a → P q (f a)) → (now t : Target) → now.agents ≡ map f t.agents → now.reply ≡ t.reply
      → AreStill t → AreStill now
  map_still f e g now t is r h = record {
    agents = λ q. subst (λ (xs : List Agent). P q (at_place xs q)) (sym is) (subst (P q) (sym (map_at f e t.agents q)) (g q (at_place t.agents q) (h.agents q)));
    none = r ∙ h.none;
  }

module _ (P : ℕ → Agent → Type 0) (cuts : (q : ℕ) (a : Agent) → P q a → P q (cut_agent a)) where
  pub cut_still : (t : Target) (place : ℕ) → AreStill P t → AreStill P (with_agent t place (cut_agent (agent_at t place)))
  cut_still t place h = set_still P t place (cut_agent (agent_at t place)) h (λ a. cuts place (agent_at t place) a)

  pub all_cut : (now t : Target) → now.agents ≡ map cut_agent t.agents → now.reply ≡ t.reply → AreStill P t → AreStill P now
  all_cut now t e f h = map_still P cut_agent cut_new cuts now t e f h

  pub where_still : (now t : Target) (test : ℕ → Bool) → now.agents ≡ cut_where test 0 t.agents → now.reply ≡ t.reply → AreStill P t → AreStill P now
  where_still now t test e f h = record { agents = λ q. subst (λ (xs : List Agent). P q (at_place xs q)) (sym e) (by q (cut_or test 0 t.agents q)); none = f ∙ h.none }
    where
      by : (q : ℕ) → (at_place (cut_where test 0 t.agents) q ≡ cut_agent (at_place t.agents q)) ⊎ (at_place (cut_where test 0 t.agents) q ≡ at_place t.agents q)
          → P q (at_place (cut_where test 0 t.agents) q)
      by q (inl g) = subst (P q) (sym g) (cuts q (at_place t.agents q) (h.agents q))
      by q (inr g) = subst (P q) (sym g) (h.agents q)

module _ {May : ℕ → Type 0} (P : ℕ → Agent → Type 0) (kept : AreLasting P May) where
  -- ---- a reply takes an agent on
  taken_each : (told : Option Told) (reply : Reply) (t : Target) → t.reply ≡ Some reply → AreSo P t → (q : ℕ) → P q (agent_at (taken_on told (Some reply) t) q)
  taken_each told reply t e h q = by (set_agent t.agents reply.place x q)
    where
      x : Agent
      x = moved (reply_of t reply told) (closed reply.which (agent_at t reply.place))

      own : P reply.place x
      own = h.pending reply e (plain_for t reply) told (agent_at t reply.place).untold

      absent : (b : Bool) → (reply.place == q) ≡ b → at_place t.agents q ≡ new_agent → P q new_agent
      absent false f none = subst (P q) none (h.agents q (ap (λ r. is_for r q) e ∙ f))
      absent true f none =
          let same : reply.place ≡ q = equal reply.place q f in
          let there : at_place t.agents reply.place ≡ new_agent = ap (at_place t.agents) same ∙ none in
          subst (λ p. P p new_agent) same
          (kept.stays reply.place reply.which reply.answer (plain_for t reply) told new_agent.untold
          (subst (λ (y : Agent). P reply.place (moved (reply_step y.machine reply.place (plain_for t reply) told reply.which reply.answer) (closed reply.which y))) there own))

      by : SetAgent t.agents reply.place x q → P q (at_place (slice_set t.agents reply.place x) q)
      by (is_it f g) = subst (P q) (sym g) (subst (λ p. P p x) (sym f) own)
      by (is_other f g) = subst (P q) (sym g) (h.agents q (ap (λ r. is_for r q) e ∙ f))
      by (is_none g none) = subst (P q) (sym g) (absent (reply.place == q) refl none)

  taken_still : (told : Option Told) (reply : Option Reply) (t : Target) → t.reply ≡ reply → AreSo P t → AreStill P (taken_on told reply t)
  taken_still told None t e h = record { agents = λ q. h.agents q (ap (λ r. is_for r q) e); none = e }
  taken_still told (Some reply) t e h = record { agents = taken_each told reply t e h; none = refl }

  pub settles : (t : Target) → AreSo P t → AreStill P (taken_on None t.reply t)
  settles t h = taken_still None t.reply t refl h

  -- whether its medium told the answer is told first
  untold_so : (note : Note) (reply : Option Reply) (t : Target) → t.reply ≡ reply → AreSo P t → AreSo P (with_untold note reply t)
  untold_so note None t e h = h
  untold_so note (Some reply) t e h = record {
    agents = λ q f. set_each P t.agents k x q (h.agents q f) (λ y. kept.untells k (agent_at t k) (untold_by note (plain_for t reply) (agent_at t k).untold) y);
    pending = λ other f. by other f (set_agent t.agents k x other.place);
  }
    where
      k : ℕ
      k = reply.place

      x : Agent
      x = record (agent_at t reply.place) { untold = untold_by note (plain_for t reply) (agent_at t reply.place).untold }

      by : (other : Reply) → t.reply ≡ Some other → SetAgent t.agents reply.place x other.place → Pends P (at_place (slice_set t.agents reply.place x) other.place) other
      by other f (is_it g is) = subst (λ (y : Agent). Pends P y other) (sym is) (subst (λ p. Pends P (record (at_place t.agents p) { untold = x.untold }) other) g (h.pending other f))
      by other f (is_other g is) = subst (λ (y : Agent). Pends P y other) (sym is) (h.pending other f)
      by other f (is_none is none) = subst (λ (y : Agent). Pends P y other) (none ∙ sym is) (h.pending other f)

  untold_reply : (note : Note) (reply : Option Reply) (t : Target) → (with_untold note reply t).reply ≡ t.reply
  untold_reply note None t = refl
  untold_reply note (Some reply) t = refl

  pub going_still : (note : Note) (t : Target) → AreSo P t → AreStill P (going_on note t)
  going_still note t h = taken_still (told_in t.reply note t) t.reply (with_untold note t.reply t) (untold_reply note t.reply t) (untold_so note t.reply t refl h)

  -- ---- a turn is over
  pub lost_still : (now t : Target) → now.agents ≡ map main_lost t.agents → now.reply ≡ t.reply → AreStill P t → AreStill P now
  lost_still now t e f h = map_still P main_lost refl kept.loses now t e f h

  pub over_still : (t : Target) → AreSo P t → AreStill P (over t)
  over_still t h = map_still P agent_over refl kept.ends (over t) (taken_on None t.reply t) refl refl (settles t h)
