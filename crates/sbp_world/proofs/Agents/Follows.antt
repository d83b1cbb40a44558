-- What follows a step of an agent leaves its term as it leaves the agent.
use Rattle.sbp_world.proofs.Words.Std.{◌≡◌, ◌∙◌, refl, sym, ap, subst, ℕ, ◌<◌, ◌&&◌, ◌||◌, not, nat_lt, is_some, Bool, true, false, cond, List, Option, Some, None, false≢true, true≢false}
use Rattle.sbp_world.proofs.Words.Wire.{Asked, Body, Layer, asking_step, free_labels, is_write, Outgoing, OutboxState}
use Rattle.sbp_world.proofs.Words.Target.{Login, Phase, AgentStep, Ahead, Main, Machine, is_ahead, is_sent, is_under_way, lost_step, main_loss, quiet, Purpose, after_ahead, after_loss, after_main, agent_body, ahead_asked, ahead_sent, ask_ahead, ask_main, follow, lose, lose_main, lost_by, noted, send_ahead, NodeState, Scene, desk_at, scene, with_agent, with_desk, request_step, sent_by, with_packet, tell_step, Desk}
use Rattle.sbp_world.proofs.Words.Initiator.{Ask, Nothing, Read, Write, FailCause}
use Rattle.sbp_world.proofs.Words.Laws.{Agent, agent_over, ahead_lost, is_nothing, main_lost, moved, sends_of, wants}
use Rattle.sbp_world.proofs.Words.World.{Alike, Request, with_requests}
use Rattle.orb_layout.specs.declared.ask.FailCause.TheVariants as causes
use Rattle.command_agent.specs.declared.phase.Phase.TheVariants as phases
use Rattle.sbp_target.specs.declared.purpose.Purpose.TheVariants as purposes
use Rattle.sbp_target.proofs.Histories.Stepped.{Behind, Carries, Fit, Lost, ahead_loses, is_asked, is_bare, last_loses, main_loses}
use Rattle.sbp_world.proofs.Agents.Management.Requests.{writes_body}
use Rattle.sbp_world.proofs.Agents.Serials.{Paired, Turning, more_has, more_within, number_after, one_more, one_unless, paired_as, paired_more, paired_unless, requests_within}
use Rattle.sbp_world.proofs.Agents.Steps.{lost_alike}
use Rattle.sbp_world.proofs.Agents.Walk.{Gone, Holds, IsOther, Left, Out, Told, dead_on, desk_set, holds_set, holds_still, main_leaves, main_none, notes_hold, notes_pair, notes_told, other_on, out_as, out_more, told_as, told_out}
use Rattle.sbp_world.proofs.Agents.Writes.{HasBody, asked_writes, has_body, no_body}

not_asked : (a : Ask) → is_asked a ≡ false → a ≡ Nothing
not_asked Nothing e = refl
not_asked (Read offset len) e = absurd (true≢false e)
not_asked (Write offset len) e = absurd (true≢false e)

asked_not : (a : Ask) → is_asked a ≡ true → is_nothing a ≡ false
asked_not Nothing e = absurd (false≢true e)
asked_not (Read offset len) e = refl
asked_not (Write offset len) e = refl

-- ---- an agent between two turns, and behind a step

pub record Settled (m : Machine) (pointer : Option ℕ) (a : Agent) : Type 0 where
  pub machine : Alike a.untold a.machine m
  pub main : is_some a.main ≡ is_sent m.phase
  pub ahead : is_some a.ahead ≡ is_ahead m.ahead
  pub pointer_is : a.pointer ≡ pointer
  pub asks : a.asks ≡ Nothing
  pub asks_ahead : a.asks_ahead ≡ Nothing

pub record Stepped (had : Bool) (step : AgentStep) (m : Machine) (pointer : Option ℕ) (a : Agent) : Type 0 where
  pub machine : Alike a.untold a.machine m
  pub main : is_some a.main ≡ step.promoted
  pub ahead : is_some a.ahead ≡ (had && not (is_some step.dead || step.promoted))
  pub pointer_is : a.pointer ≡ pointer
  pub asks : a.asks ≡ step.ask
  pub asks_ahead : a.asks_ahead ≡ step.ahead

-- ---- the end of a turn

main_kept : (a : Agent) → a.asks ≡ Nothing → main_lost a ≡ a
main_kept a e = ap (λ (x : Ask). cond (is_nothing x) a (moved (lost_step a.machine Main causes.Label) a)) e

ahead_kept : (a : Agent) → a.asks_ahead ≡ Nothing → ahead_lost a ≡ a
ahead_kept a e = ap (λ (x : Ask). cond (is_nothing x) a (record a { machine = (lost_step a.machine Ahead causes.Label).1; asks_ahead = Nothing })) e

asks_kept : (a : Agent) → a.asks ≡ Nothing → record a { asks = Nothing } ≡ a
asks_kept a e = ap (λ (x : Ask). record a { asks = x }) (sym e)

pub over_idle : (a : Agent) → a.asks ≡ Nothing → a.asks_ahead ≡ Nothing → agent_over a ≡ a
over_idle a e f = ap (λ (b : Agent). record (ahead_lost b) { asks = Nothing }) (main_kept a e) ∙ ap (λ (b : Agent). record b { asks = Nothing }) (ahead_kept a f) ∙ asks_kept a e

main_goes : (a : Agent) → is_asked a.asks ≡ true → main_lost a ≡ moved (lost_step a.machine Main causes.Label) a
main_goes a e = ap (λ (b : Bool). cond b a (moved (lost_step a.machine Main causes.Label) a)) (asked_not a.asks e)

over_ahead : (a : Agent) → a.asks ≡ Nothing → is_asked a.asks_ahead ≡ true → agent_over a ≡ record a { machine = (lost_step a.machine Ahead causes.Label).1; asks_ahead = Nothing; asks = Nothing }
over_ahead a e f =
    ap (λ (b : Agent). record (ahead_lost b) { asks = Nothing }) (main_kept a e)
    ∙ ap (λ (b : Bool). record (cond b a (record a { machine = (lost_step a.machine Ahead causes.Label).1; asks_ahead = Nothing })) { asks = Nothing }) (asked_not a.asks_ahead f)

-- the last status write is lost
abbrev fallen : Agent → Agent
fallen a = moved (quiet, record a.machine { phase = phases.Dead }) a

over_last : (a : Agent) → is_asked a.asks ≡ true → a.machine.phase ≡ phases.WritingLastStatus → agent_over a ≡ fallen a
over_last a e f =
    let is : main_lost a ≡ fallen a = main_goes a e ∙ ap (λ (r : AgentStep × Machine). moved r a) (last_loses a.machine causes.Label f) in
    ap (λ (b : Agent). record (ahead_lost b) { asks = Nothing }) is

-- ---- a turn of the agent of place q

-- An unsolicited status that leaves behind it is not taken for its own.
pub record Unwanting (a : Agent) : Type 0 where
  pub asks : wants a.asks true ≡ false
  pub asks_ahead : wants a.asks_ahead true ≡ false

unwanting : (a : Agent) → a.asks ≡ Nothing → wants a.asks_ahead true ≡ false → Unwanting a
unwanting a e f = record { asks = ap (λ (x : Ask). wants x true) e; asks_ahead = f }

pub record Done (requests : List Request) (q : ℕ) (before : NodeState) (first : Agent) (pointer : Option ℕ) (Calm : Type 0) (s : Scene) : Type 0 where
  pub now : ℕ → Agent
  pub machine : Machine
  pub out : Out first now s.outbox
  pub holds : Holds q before machine s.node
  pub settled : (last : ℕ) → Settled machine pointer (agent_over (now last))
  pub paired : (last : ℕ) → Paired (with_requests last s.outbox.packets requests) (desk_at s.node q) (agent_over (now last))
  pub calm : Calm → (last : ℕ) → Unwanting (now last)

settled_as : (m : Machine) (pointer : Option ℕ) (a b : Agent) → a ≡ b → Settled m pointer b → Settled m pointer a
settled_as m pointer a b e s = subst (λ (x : Agent). Settled m pointer x) (sym e) s

cond_same : (b u : Bool) (a m : Machine) → Alike (cond b u u) a m → Alike u a m
cond_same true u a m al = al
cond_same false u a m al = al

dead_alike : (u : Bool) (a m : Machine) → Alike u a m → Alike u (record a { phase = phases.Dead }) (record m { phase = phases.Dead })
dead_alike u a m al = record {
  phase = refl;
  flag = al.flag;
  ahead = λ e. absurd (false≢true e);
  doorbell = λ e. absurd (false≢true e);
  present = λ e. absurd (false≢true e);
  orb = λ e. absurd (false≢true e);
  aborted = λ e. absurd (false≢true e);
  payload = λ e. absurd (false≢true e);
  segments = λ e. absurd (false≢true e);
  written = λ e. absurd (false≢true e);
  size = λ e. absurd (false≢true e);
  answer = λ e. absurd (false≢true e);
  chunk = λ e. absurd (false≢true e);
  status = λ e. absurd (false≢true e);
}

abbrev pub is_last : Phase → Bool
is_last phases.WritingLastStatus = true
is_last _ = false

pub last_is : (p : Phase) → is_last p ≡ true → p ≡ phases.WritingLastStatus
last_is phases.Reset e = absurd (false≢true e)
last_is phases.Suspended e = absurd (false≢true e)
last_is phases.WritingLastStatus e = refl
last_is phases.Dead e = absurd (false≢true e)
last_is phases.Fetching e = absurd (false≢true e)
last_is phases.ReadingTable e = absurd (false≢true e)
last_is (phases.ReadingData wanted) e = absurd (false≢true e)
last_is phases.Answering e = absurd (false≢true e)
last_is phases.WritingStatus e = absurd (false≢true e)
last_is phases.ReadingNext e = absurd (false≢true e)

label_by : (p : Phase) (m : Machine) → is_last p ≡ false → is_sent p ≡ true → (main_loss p m causes.Label).0.dead ≡ Some causes.Label
label_by phases.Reset m e s = absurd (false≢true s)
label_by phases.Suspended m e s = absurd (false≢true s)
label_by phases.WritingLastStatus m e s = absurd (true≢false e)
label_by phases.Dead m e s = absurd (false≢true s)
label_by phases.Fetching m e s = refl
label_by phases.ReadingTable m e s = refl
label_by (phases.ReadingData wanted) m e s = refl
label_by phases.Answering m e s = refl
label_by phases.WritingStatus m e s = refl
label_by phases.ReadingNext m e s = refl

-- a main transaction that finds no label dies of it, but for the last status write
dies : (m : Machine) → is_last m.phase ≡ false → is_sent m.phase ≡ true → (lost_step m Main causes.Label).0.dead ≡ Some causes.Label
unfolding lost_step
dies m e s = label_by m.phase m e s

-- behind a status write that is lost nothing is asked for
status_asks : (m : Machine) → m.phase ≡ phases.WritingStatus → is_asked (lost_step m Main causes.Label).0.ask ≡ false
unfolding lost_step
status_asks m e = ap (λ (p : Phase). is_asked (main_loss p m causes.Label).0.ask) e

turned_not : (b : Bool) (x y : Option ℕ) → b ≡ false → cond b x y ≡ y
turned_not b x y e = ap (λ (c : Bool). cond c x y) e

or_not : (b c : Bool) → c ≡ false → (b || not c) ≡ true
or_not true c e = refl
or_not false c e = ap not e

module _ (requests : List Request) (q : ℕ) (b : q < 8) (before : NodeState) (first : Agent) (pointer : Option ℕ) (login : Login) where
  -- a step that is silent does nothing
  silent : (step : AgentStep) (t : Scene) → step ≡ quiet → ask_main q login step (noted q step t) ≡ (true, t)
  unfolding ask_main noted tell_step
  silent step t e = subst (λ (x : AgentStep). ask_main q login x (noted q x t) ≡ (true, t)) (sym e) refl

  holds_agent : (m now : Machine) (s : Scene) → Holds q before m s.node → Holds q before now (with_agent s.node q now)
  holds_agent m now s h = holds_set q before m now s.node (with_agent s.node q now) (record (desk_at s.node q) { agent = now }) b h refl refl refl refl

  -- one that asks for nothing more
  told_pairs : (last : ℕ) (a : Agent) (s : Scene) → a.asks ≡ Nothing → a.asks_ahead ≡ Nothing → Paired requests (desk_at s.node q) a → Paired (with_requests last s.outbox.packets requests) (desk_at s.node q) (agent_over a)
  told_pairs last a s idle none p =
      let now = with_requests last s.outbox.packets requests in
      paired_as now (desk_at s.node q) (agent_over a) a (over_idle a idle none) (paired_more requests now (requests_within last s.outbox.packets requests) (desk_at s.node q) a p)

  -- ---- the last status write is lost
  abbrev Dropped : Machine → Scene → Scene
  Dropped m s = scene (with_agent s.node q (record m { phase = phases.Dead })) s.outbox

  falls_is : (x : Bool) (m : Machine) (s : Scene) → x ≡ true → m.phase ≡ phases.WritingLastStatus → (desk_at s.node q).agent ≡ m → lost_by x q login Main s ≡ (true, Dropped m s)
  falls_is false m s e p h = absurd (false≢true e)
  falls_is true m s e p h =
      let is : lost_step (desk_at s.node q).agent Main causes.Label ≡ (quiet, record m { phase = phases.Dead })
      = ap (λ (x : Machine). lost_step x Main causes.Label) h ∙ last_loses m causes.Label p in
      ap (λ (l : AgentStep × Machine). ask_main q login l.0 (noted q l.0 (scene (with_agent s.node q l.1) s.outbox))) is ∙ silent quiet (Dropped m s) refl

  falls_done : (Calm : Type 0) (m : Machine) (a : Agent) (s : Scene) → (Calm → ⊥) → m.phase ≡ phases.WritingLastStatus → is_ahead m.ahead ≡ false → is_asked a.asks ≡ true → is_some a.main ≡ false → a.pointer ≡ pointer → Alike a.untold a.machine m → Told first a s.outbox → Holds q before m s.node → Done requests q before first pointer Calm (Dropped m s)
  falls_done Calm m a s rough p i k n o al t h =
      let dead : Machine = record m { phase = phases.Dead } in
      record {
        now = λ last. a;
        machine = dead;
        out = told_out first a s.outbox t;
        holds = holds_agent m dead s h;
        settled = λ last. settled_as dead pointer (agent_over a) (fallen a) (over_last a k (al.phase ∙ p)) (record {
          machine = dead_alike a.untold a.machine m al;
          main = n;
          ahead = ap (λ (c : Bool). is_some (cond (not c) None a.ahead)) al.flag ∙ ap (λ (c : Bool). is_some (cond (not c) None a.ahead)) i ∙ sym i;
          pointer_is = o;
          asks = refl;
          asks_ahead = refl;
        });
        paired = λ last.
            let now = with_requests last s.outbox.packets requests in
            let d = desk_at (Dropped m s).node q in
            paired_as now d (agent_over a) (fallen a) (over_last a k (al.phase ∙ p))
            (paired_unless now d (fallen a) n (ap (λ (c : Bool). is_some (cond (not c) None a.ahead)) al.flag ∙ ap (λ (c : Bool). is_some (cond (not c) None a.ahead)) i));
        calm = λ c. absurd (rough c);
      }

  -- ---- a main request that found no label

  -- what is left to be lost then
  record Falls (s : Scene) : Type 0 where
    machine : Machine
    agent : Agent
    phase : machine.phase ≡ phases.WritingLastStatus
    idle : is_ahead machine.ahead ≡ false
    asked : is_asked agent.asks ≡ true
    main : is_some agent.main ≡ false
    pointer_is : agent.pointer ≡ pointer
    alike : Alike agent.untold agent.machine machine
    told : Told first agent s.outbox
    holds : Holds q before machine s.node

  abbrev Lands : Type 0 → Bool × Scene → Type 0
  Lands Calm (true, s) = Done requests q before first pointer Calm s
  Lands Calm (false, s) = Falls s × (Calm → ⊥)

  sent_under : (m : Machine) (s : Scene) → Holds q before m s.node → is_sent m.phase ≡ true → is_under_way Main (desk_at s.node q).agent ≡ true
  sent_under m s h e = ap (λ (x : Machine). is_sent x.phase) h.agent ∙ e

  lands_again : (Calm : Type 0) (r : Bool × Scene) → Lands Calm r → Done requests q before first pointer Calm (after_loss q login r)
  unfolding lose
  lands_again Calm (true, s) d = d
  lands_again Calm (false, s) (f, rough) =
      let under = sent_under f.machine s f.holds (ap is_sent f.phase) in
      subst (λ (r : Bool × Scene). Done requests q before first pointer Calm r.1) (sym (falls_is (is_under_way Main (desk_at s.node q).agent) f.machine s under f.phase f.holds.agent))
      (falls_done Calm f.machine f.agent s rough f.phase f.idle f.asked f.main f.pointer_is f.alike f.told f.holds)

  -- the status block of an ORB that failed leaves, or is lost too
  block_leaves : (Calm : Type 0) (l : AgentStep × Machine) (had : Bool) (lost : Lost had l) (a : Agent) (st : Stepped false l.0 l.1 pointer a) → (Calm → is_asked l.0.ask ≡ false) → is_asked l.0.ask ≡ true → (r : Bool × Scene) → Left requests q b before first l.1 a r → Lands Calm r
  block_leaves Calm l had lost a st quiet_if asked (true, s) g =
      let c : ℕ → Agent = λ last. record a { main = Some (g.serial last); asks = Nothing } in
      let none : a.asks_ahead ≡ Nothing = st.asks_ahead ∙ not_asked l.0.ahead lost.unasked in
      record {
        now = c;
        machine = l.1;
        out = g.out;
        holds = g.holds;
        settled = λ last. settled_as l.1 pointer (agent_over (c last)) (c last) (over_idle (c last) refl none) (record {
          machine = st.machine;
          main = sym (lost.behind.main ∙ ap (λ (x : Bool). x || l.0.promoted) asked);
          ahead = st.ahead ∙ sym lost.idle;
          pointer_is = st.pointer_is;
          asks = refl;
          asks_ahead = none;
        });
        paired = λ last. paired_as (with_requests last s.outbox.packets requests) (desk_at s.node q) (agent_over (c last)) (c last) (over_idle (c last) refl none) (g.paired last);
        calm = λ c. absurd (true≢false (sym asked ∙ quiet_if c));
      }
  block_leaves Calm l had lost a st quiet_if asked (false, s) g = (
    record {
      machine = l.1;
      agent = a;
      phase = lost.last asked;
      idle = lost.idle;
      asked = ap is_asked st.asks ∙ asked;
      main = st.main ∙ lost.unturned;
      pointer_is = st.pointer_is;
      alike = st.machine;
      told = g.told;
      holds = g.holds;
    },
    λ c. true≢false (sym asked ∙ quiet_if c),
  )

  block_by : (x : Bool) (Calm : Type 0) (l : AgentStep × Machine) (had : Bool) (lost : Lost had l) (a : Agent) (st : Stepped false l.0 l.1 pointer a) → (Calm → is_asked l.0.ask ≡ false) → is_asked l.0.ask ≡ x → (s : Scene) → Told first a s.outbox → Holds q before l.1 s.node → Paired requests (desk_at s.node q) a → Lands Calm (ask_main q login l.0 s)
  block_by true Calm l had lost a st quiet_if asked s t h p =
      block_leaves Calm l had lost a st quiet_if asked (ask_main q login l.0 s) (main_leaves requests q b before first l.1 a login l.0 s asked lost.behind.carried st.asks t h p)
  block_by false Calm l had lost a st quiet_if asked s t h p =
      let idle : a.asks ≡ Nothing = st.asks ∙ not_asked l.0.ask asked in
      let none : a.asks_ahead ≡ Nothing = st.asks_ahead ∙ not_asked l.0.ahead lost.unasked in
      subst (λ (r : Bool × Scene). Lands Calm r) (sym (main_none requests q b before first login l.0 s asked)) (record {
        now = λ last. a;
        machine = l.1;
        out = told_out first a s.outbox t;
        holds = h;
        settled = λ last. settled_as l.1 pointer (agent_over a) a (over_idle a idle none) (record {
          machine = st.machine;
          main = st.main ∙ sym (lost.behind.main ∙ ap (λ (x : Bool). x || l.0.promoted) asked);
          ahead = st.ahead ∙ sym lost.idle;
          pointer_is = st.pointer_is;
          asks = idle;
          asks_ahead = none;
        });
        paired = λ last. told_pairs last a s idle none p;
        calm = λ c last. unwanting a idle (ap (λ (x : Ask). wants x true) none);
      })

  -- the term loses it with the note of the death
  lost_stepped : (had : Bool) (m : Machine) (a : Agent) → Lost had (lost_step m Main causes.Label) → is_asked a.asks ≡ true → is_some a.main ≡ false → a.pointer ≡ pointer → Alike a.untold a.machine m → Stepped false (lost_step m Main causes.Label).0 (lost_step m Main causes.Label).1 pointer (main_lost a)
  lost_stepped had m a lost asked none p al =
      let la = lost_step a.machine Main causes.Label in
      let l = lost_step m Main causes.Label in
      let same = lost_alike a.untold a.untold a.machine m Main causes.Label al in
      let al_now = cond_same (is_some l.0.ran) a.untold la.1 l.1 same.alike in
      let turned : la.0.promoted ≡ false = ap (λ (x : AgentStep). x.promoted) same.step ∙ lost.unturned in
      let gone : is_ahead la.1.ahead ≡ false = al_now.flag ∙ lost.idle in
      subst (λ (x : Agent). Stepped false l.0 l.1 pointer x) (sym (main_goes a asked)) (record {
        machine = al_now;
        main = ap (λ (x : Option ℕ). is_some x) (turned_not la.0.promoted a.ahead a.main turned) ∙ none ∙ sym lost.unturned;
        ahead = ap (λ (x : Bool). is_some (cond x None a.ahead)) (or_not la.0.promoted (is_ahead la.1.ahead) gone);
        pointer_is = p;
        asks = ap (λ (x : AgentStep). x.ask) same.step;
        asks_ahead = ap (λ (x : AgentStep). x.ahead) same.step;
      })

  lost_told : (dead : Option FailCause) (a : Agent) (o : OutboxState) → dead ≡ Some causes.Label → Told first (dead_on dead a) o → Told first (main_lost a) o
  lost_told dead a o e t = subst (λ (x : Option FailCause). Told first (dead_on x a) o) e t

  dies_then : (x : Bool) (Calm : Type 0) (m : Machine) (a : Agent) (s : Scene) → is_last m.phase ≡ false → x ≡ true → is_sent m.phase ≡ true → Fit m → is_asked a.asks ≡ true → is_some a.main ≡ false → a.pointer ≡ pointer → Alike a.untold a.machine m → (Calm → m.phase ≡ phases.WritingStatus) → Told first a s.outbox → Holds q before m s.node → Lands Calm (lost_by x q login Main s)
  dies_then false Calm m a s y e sent f k n o al c t h = absurd (false≢true e)
  dies_then true Calm m a s y e sent f k n o al c t h =
      let l = lost_step m Main causes.Label in
      let lost = main_loses m causes.Label sent f in
      let place = scene (with_agent s.node q l.1) s.outbox in
      let u = noted q l.0 place in
      let told = lost_told l.0.dead a u.outbox (dies m y sent) (notes_told requests q b before first a l.0 place t) in
      let hold = notes_hold requests q b before first l.1 l.0 place (holds_agent m l.1 s h) in
      let st = lost_stepped (is_ahead m.ahead) m a lost k n o al in
      subst (λ (own : Machine). Lands Calm (ask_main q login (lost_step own Main causes.Label).0 (noted q (lost_step own Main causes.Label).0 (scene (with_agent s.node q (lost_step own Main causes.Label).1) s.outbox)))) (sym h.agent)
      (block_by (is_asked l.0.ask) Calm l (is_ahead m.ahead) lost (main_lost a) st (λ z. status_asks m (c z)) refl u told hold (paired_unless requests (desk_at u.node q) (main_lost a) (st.main ∙ lost.unturned) st.ahead))

  main_lands : (x : Bool) (Calm : Type 0) (m : Machine) (a : Agent) (s : Scene) → is_last m.phase ≡ x → is_sent m.phase ≡ true → Fit m → is_asked a.asks ≡ true → is_some a.main ≡ false → a.pointer ≡ pointer → Alike a.untold a.machine m → (Calm → m.phase ≡ phases.WritingStatus) → Told first a s.outbox → Holds q before m s.node → Done requests q before first pointer Calm (lose_main q login s)
  unfolding lose_main lose
  main_lands true Calm m a s y sent f k n o al c t h =
      let p = last_is m.phase y in
      let rough : Calm → ⊥ = λ z. let e : phases.WritingLastStatus ≡ phases.WritingStatus = sym p ∙ c z in cc in
      subst (λ (r : Bool × Scene). Done requests q before first pointer Calm (after_loss q login r)) (sym (falls_is (is_under_way Main (desk_at s.node q).agent) m s (sent_under m s h sent) p h.agent))
      (falls_done Calm m a s rough p (f.bare (ap (λ (x : Phase). is_bare x) p)) k n o al t h)
  main_lands false Calm m a s y sent f k n o al c t h =
      lands_again Calm (lost_by (is_under_way Main (desk_at s.node q).agent) q login Main s) (dies_then (is_under_way Main (desk_at s.node q).agent) Calm m a s y (sent_under m s h sent) sent f k n o al c t h)

  -- ---- the read ahead

  abbrev AllPaired : (ℕ → Agent) → Scene → Type 0
  AllPaired now s = (last : ℕ) → Paired (with_requests last s.outbox.packets requests) (desk_at s.node q) (now last)

  record Ran (m : Machine) (now : ℕ → Agent) (s : Scene) : Type 0 where
    serial : ℕ → ℕ
    out : Out first (λ last. record (now last) { ahead = Some (serial last); asks_ahead = Nothing }) s.outbox
    holds : Holds q before m s.node
    paired : AllPaired (λ last. record (now last) { ahead = Some (serial last); asks_ahead = Nothing }) s

  record Kept (m : Machine) (now : ℕ → Agent) (s : Scene) : Type 0 where
    out : Out first now s.outbox
    holds : Holds q before m s.node
    paired : AllPaired now s

  abbrev AheadLeft : Machine → (ℕ → Agent) → Bool × Scene → Type 0
  AheadLeft m now (true, s) = Ran m now s
  AheadLeft m now (false, s) = Kept m now s

  sends_ahead : (a : Agent) (serial : ℕ) (w x : Bool) → x ≡ w → a.asks ≡ Nothing → wants a.asks_ahead w ≡ true → sends_of x serial a ≡ record a { ahead = Some serial; asks_ahead = Nothing }
  sends_ahead a serial w x e f g =
      ap (λ y. sends_of y serial a) e
      ∙ ap (λ (y : Ask). cond (wants y w) (record a { main = Some serial; asks = Nothing }) (cond (wants a.asks_ahead w) (record a { ahead = Some serial; asks_ahead = Nothing }) a)) f
      ∙ ap (λ (y : Bool). cond y (record a { ahead = Some serial; asks_ahead = Nothing }) a) g

  ahead_by : (m : Machine) (now : ℕ → Agent) (body : Body) (s : Scene) (r : Option Asked × Layer Purpose) → asking_step s.node.layer login.node body (purposes.Agent q) ≡ r → ((last : ℕ) → (now last).asks ≡ Nothing) → ((last : ℕ) → wants (now last).asks_ahead (writes_body body) ≡ true) → Out first now s.outbox → Holds q before m s.node → AllPaired now s → AheadLeft m now (ahead_sent q login.node s.node (sent_by r s.outbox login.node))
  ahead_by m now body s (None, layer) e i w t h p = record { out = t; holds = holds_still q before m s.node (record s.node { layer = layer }) h refl; paired = λ last. p last }
  ahead_by m now body s (Some asked, layer) e i w t h p =
      let packet : Outgoing = record { to = login.node; label = Some asked.label; bytes = asked.bytes } in
      let serial : ℕ → ℕ = λ last. number_after last s.outbox.packets in
      let writes = asked_writes s.node.layer layer login.node body (purposes.Agent q) asked e in
      let d : Desk = record (desk_at s.node q) { ahead = Some (record { peer = login.node; label = asked.label }) } in
      let later = with_desk (record s.node { layer = layer }) q d in
      record {
        serial = serial;
        out = out_as first _ (λ last. record (now last) { ahead = Some (serial last); asks_ahead = Nothing }) (with_packet s.outbox packet) (λ last. sends_ahead (now last) (serial last) (writes_body body) (is_write asked.bytes) writes (i last) (w last)) (out_more first now s.outbox packet t);
        holds = holds_set q before m m s.node later d b h refl h.agent refl refl;
        paired = λ last.
            let before = with_requests last s.outbox.packets requests in
            let after = with_requests last (with_packet s.outbox packet).packets requests in
            subst (λ (x : Desk). Paired after x (record (now last) { ahead = Some (serial last); asks_ahead = Nothing })) (sym (desk_set q s.node later d b h.size refl)) (record {
              main = one_more before after (more_within last s.outbox.packets packet requests) (desk_at s.node q).main (now last).main (p last).main;
              ahead = more_has last s.outbox.packets login.node asked.label asked.bytes requests;
            });
      }

  ahead_if : (x : Bool) (m : Machine) (now : ℕ → Agent) (body : Body) (s : Scene) → ((last : ℕ) → (now last).asks ≡ Nothing) → ((last : ℕ) → wants (now last).asks_ahead (writes_body body) ≡ true) → Out first now s.outbox → Holds q before m s.node → AllPaired now s → AheadLeft m now (cond x (false, s) (ahead_sent q login.node s.node (request_step s.node.layer s.outbox login.node body (purposes.Agent q))))
  unfolding request_step
  ahead_if true m now body s i w t h p = record { out = t; holds = h; paired = p }
  ahead_if false m now body s i w t h p = ahead_by m now body s (asking_step s.node.layer login.node body (purposes.Agent q)) refl i w t h p

  ahead_in : (m : Machine) (now : ℕ → Agent) (ask : Ask) (body : Option Body) (s : Scene) → HasBody ask body → ((last : ℕ) → (now last).asks ≡ Nothing) → ((last : ℕ) → (now last).asks_ahead ≡ ask) → Out first now s.outbox → Holds q before m s.node → AllPaired now s → AheadLeft m now (ahead_asked body q login s)
  ahead_in m now ask None s hb i e t h p = absurd (let none : None ≡ Some hb.body = hb.is in cc)
  ahead_in m now ask (Some body) s hb i e t h p =
      let same : body ≡ hb.body = let f : Some body ≡ Some hb.body = hb.is in cc in
      ahead_if (nat_lt (free_labels s.node.layer login.node) 16) m now body s i (λ last. ap (λ x. wants x (writes_body body)) (e last) ∙ ap (λ x. wants ask (writes_body x)) same ∙ hb.wanted) t h p

  ahead_leaves : (m : Machine) (now : ℕ → Agent) (ask : Ask) (s : Scene) → is_asked ask ≡ true → Carries ask m.outgoing → ((last : ℕ) → (now last).asks ≡ Nothing) → ((last : ℕ) → (now last).asks_ahead ≡ ask) → Out first now s.outbox → Holds q before m s.node → AllPaired now s → AheadLeft m now (send_ahead q login ask s)
  unfolding send_ahead
  ahead_leaves m now ask s x c i e t h p =
      let outgoing = (desk_at s.node q).agent.outgoing in
      ahead_in m now ask (agent_body ask false login.fifo outgoing) s (has_body ask false login.fifo outgoing (subst (λ (n : Machine). Carries ask n.outgoing) (sym h.agent) c) x) i e t h p

  none_ahead : (body : Option Body) (s : Scene) → body ≡ None → ahead_asked body q login s ≡ (true, s)
  none_ahead None s e = refl
  none_ahead (Some body) s e = absurd (let none : Some body ≡ None = e in cc)

  unsent_ahead : (ask : Ask) (s : Scene) → is_asked ask ≡ false → send_ahead q login ask s ≡ (true, s)
  unfolding send_ahead
  unsent_ahead ask s x = none_ahead (agent_body ask false login.fifo (desk_at s.node q).agent.outgoing) s (no_body ask false login.fifo (desk_at s.node q).agent.outgoing x)

  -- it found no label
  lost_ahead_by : (x : Bool) (Calm : Type 0) (m : Machine) (now : ℕ → Agent) (s : Scene) → x ≡ true → Fit m → is_ahead m.ahead ≡ true → ((last : ℕ) → (now last).asks ≡ Nothing) → ((last : ℕ) → is_asked (now last).asks_ahead ≡ true) → ((last : ℕ) → wants (now last).asks_ahead true ≡ false) → ((last : ℕ) → is_some (now last).main ≡ is_sent m.phase) → ((last : ℕ) → is_some (now last).ahead ≡ false) → ((last : ℕ) → (now last).pointer ≡ pointer) → ((last : ℕ) → Alike (now last).untold (now last).machine m) → Out first now s.outbox → Holds q before m s.node → AllPaired now s → Done requests q before first pointer Calm (lost_by x q login Ahead s).1
  lost_ahead_by false Calm m now s e f u i k w n z o al t h p = absurd (false≢true e)
  lost_ahead_by true Calm m now s e f u i k w n z o al t h p =
      let l = lost_step m Ahead causes.Label in
      let over = ahead_loses m causes.Label u f in
      let place = scene (with_agent s.node q l.1) s.outbox in
      let is : (lost_by true q login Ahead s).1 ≡ place
      = ap (λ (own : Machine). (ask_main q login (lost_step own Ahead causes.Label).0 (noted q (lost_step own Ahead causes.Label).0 (scene (with_agent s.node q (lost_step own Ahead causes.Label).1) s.outbox))).1) h.agent
      ∙ ap (λ (r : Bool × Scene). r.1) (silent l.0 place over.silent) in
      subst (λ (r : Scene). Done requests q before first pointer Calm r) (sym is) (record {
        now = now;
        machine = l.1;
        out = t;
        holds = holds_agent m l.1 s h;
        settled = λ last.
            let a = now last in
            let same = lost_alike a.untold a.untold a.machine m Ahead causes.Label (al last) in
            settled_as l.1 pointer (agent_over a) (record a { machine = (lost_step a.machine Ahead causes.Label).1; asks_ahead = Nothing; asks = Nothing }) (over_ahead a (i last) (k last)) (record {
              machine = cond_same (is_some l.0.ran) a.untold (lost_step a.machine Ahead causes.Label).1 l.1 same.alike;
              main = n last ∙ ap is_sent (sym over.phase);
              ahead = z last ∙ sym over.idle;
              pointer_is = o last;
              asks = refl;
              asks_ahead = refl;
            });
        paired = λ last.
            let a = now last in
            let rs = with_requests last s.outbox.packets requests in
            let d : Desk = record (desk_at s.node q) { agent = l.1 } in
            let lost : Agent = record a { machine = (lost_step a.machine Ahead causes.Label).1; asks_ahead = Nothing; asks = Nothing } in
            paired_as rs (desk_at place.node q) (agent_over a) lost (over_ahead a (i last) (k last))
            (subst (λ (x : Desk). Paired rs x lost) (sym (desk_set q s.node place.node d b h.size refl)) (record { main = (p last).main; ahead = one_unless rs d.ahead a.ahead (z last) }));
        calm = λ c last. unwanting (now last) (i last) (w last);
      })

  -- ---- all that follows a step

  -- a read ahead is a read
  abbrev IsRead : Ask → Type 0
  IsRead ask = wants ask true ≡ false

  module _ (Calm : Type 0) (had : Bool) (step : AgentStep) (m : Machine) (a : Agent) (behind : Behind had (step, m)) (st : Stepped had step m pointer a) (reads : IsRead step.ahead) where
    -- with the main request sent
    abbrev Sent : (ℕ → ℕ) → ℕ → Agent
    Sent serial last = record a { main = Some (serial last); asks = Nothing }

    sent_phase : is_asked step.ask ≡ true → true ≡ is_sent m.phase
    sent_phase asked = sym (behind.main ∙ ap (λ (x : Bool). x || step.promoted) asked)

    kept_ahead : is_asked step.ahead ≡ false → is_some a.ahead ≡ is_ahead m.ahead
    kept_ahead e = st.ahead ∙ sym (behind.ahead ∙ ap (λ (x : Bool). x || (had && not (is_some step.dead || step.promoted))) e)

    none_before : is_asked step.ahead ≡ true → is_some a.ahead ≡ false
    none_before e = st.ahead ∙ ap (λ (x : Bool). x && not (is_some step.dead || step.promoted)) (behind.alone e).0

    has_ahead : is_asked step.ahead ≡ true → is_ahead m.ahead ≡ true
    has_ahead e = behind.ahead ∙ ap (λ (x : Bool). x || (had && not (is_some step.dead || step.promoted))) e

    ahead_done : (serial : ℕ → ℕ) (r : Bool × Scene) → is_asked step.ask ≡ true → is_asked step.ahead ≡ true → AheadLeft m (Sent serial) r → Done requests q before first pointer Calm (after_ahead q login r)
    unfolding lose
    ahead_done serial (true, s) asked e g =
        let c : ℕ → Agent = λ last. record a { main = Some (serial last); asks = Nothing; ahead = Some (g.serial last); asks_ahead = Nothing } in
        record {
          now = c;
          machine = m;
          out = g.out;
          holds = g.holds;
          settled = λ last. settled_as m pointer (agent_over (c last)) (c last) (over_idle (c last) refl refl) (record {
            machine = st.machine;
            main = sent_phase asked;
            ahead = sym (has_ahead e);
            pointer_is = st.pointer_is;
            asks = refl;
            asks_ahead = refl;
          });
          paired = λ last. paired_as (with_requests last s.outbox.packets requests) (desk_at s.node q) (agent_over (c last)) (c last) (over_idle (c last) refl refl) (g.paired last);
          calm = λ c last. record { asks = refl; asks_ahead = refl };
        }
    ahead_done serial (false, s) asked e g =
        lost_ahead_by (is_under_way Ahead (desk_at s.node q).agent) Calm m (Sent serial) s (ap (λ (x : Machine). is_ahead x.ahead) g.holds.agent ∙ has_ahead e) behind.fit (has_ahead e)
        (λ last. refl) (λ last. ap is_asked st.asks_ahead ∙ e) (λ last. ap (λ x. wants x true) st.asks_ahead ∙ reads) (λ last. sent_phase asked) (λ last. none_before e) (λ last. st.pointer_is) (λ last. st.machine) g.out g.holds g.paired

    gone_done : (x : Bool) (s : Scene) → is_asked step.ask ≡ true → is_asked step.ahead ≡ x → Gone requests q b before first m a s → Done requests q before first pointer Calm (ask_ahead q login step.ahead s)
    gone_done true s asked e g =
        ahead_done g.serial (send_ahead q login step.ahead s) asked e
        (ahead_leaves m (Sent g.serial) step.ahead s e behind.carried_ahead (λ last. refl) (λ last. st.asks_ahead) g.out g.holds g.paired)
    gone_done false s asked e g =
        let none : a.asks_ahead ≡ Nothing = st.asks_ahead ∙ not_asked step.ahead e in
        subst (λ (r : Bool × Scene). Done requests q before first pointer Calm (after_ahead q login r)) (sym (unsent_ahead step.ahead s e)) (record {
          now = Sent g.serial;
          machine = m;
          out = g.out;
          holds = g.holds;
          settled = λ last. settled_as m pointer (agent_over (Sent g.serial last)) (Sent g.serial last) (over_idle (Sent g.serial last) refl none) (record {
            machine = st.machine;
            main = sent_phase asked;
            ahead = kept_ahead e;
            pointer_is = st.pointer_is;
            asks = refl;
            asks_ahead = none;
          });
          paired = λ last. paired_as (with_requests last s.outbox.packets requests) (desk_at s.node q) (agent_over (Sent g.serial last)) (Sent g.serial last) (over_idle (Sent g.serial last) refl none) (g.paired last);
          calm = λ c last. record { asks = refl; asks_ahead = ap (λ x. wants x true) none };
        })

    main_done : (r : Bool × Scene) → (Calm → m.phase ≡ phases.WritingStatus) → is_asked step.ask ≡ true → Left requests q b before first m a r → Done requests q before first pointer Calm (after_main q login step r)
    main_done (true, s) c asked g = gone_done (is_asked step.ahead) s asked refl g
    main_done (false, s) c asked g =
        let unturned : step.promoted ≡ false = never step.promoted (λ e. true≢false (sym asked ∙ (behind.turns e).1)) in
        main_lands (is_last m.phase) Calm m a s refl (sym (sent_phase asked)) behind.fit (ap is_asked st.asks ∙ asked) (st.main ∙ unturned) st.pointer_is st.machine c g.told g.holds
      where
        never : (x : Bool) → (x ≡ true → ⊥) → x ≡ false
        never true f = absurd (f refl)
        never false f = refl

    idle_done : (u : Scene) → is_asked step.ask ≡ false → Told first a u.outbox → Holds q before m u.node → Paired requests (desk_at u.node q) a → Done requests q before first pointer Calm (after_main q login step (ask_main q login step u))
    idle_done u asked t h p =
        let unahead : is_asked step.ahead ≡ false = never (is_asked step.ahead) (λ e. false≢true (sym asked ∙ (behind.alone e).2)) in
        let idle : a.asks ≡ Nothing = st.asks ∙ not_asked step.ask asked in
        let none : a.asks_ahead ≡ Nothing = st.asks_ahead ∙ not_asked step.ahead unahead in
        subst (λ (r : Bool × Scene). Done requests q before first pointer Calm (after_main q login step r)) (sym (main_none requests q b before first login step u asked))
        (subst (λ (r : Bool × Scene). Done requests q before first pointer Calm (after_ahead q login r)) (sym (unsent_ahead step.ahead u unahead)) (record {
          now = λ last. a;
          machine = m;
          out = told_out first a u.outbox t;
          holds = h;
          settled = λ last. settled_as m pointer (agent_over a) a (over_idle a idle none) (record {
            machine = st.machine;
            main = st.main ∙ sym (behind.main ∙ ap (λ (x : Bool). x || step.promoted) asked);
            ahead = kept_ahead unahead;
            pointer_is = st.pointer_is;
            asks = idle;
            asks_ahead = none;
          });
          paired = λ last. told_pairs last a u idle none p;
          calm = λ c last. unwanting a idle (ap (λ x. wants x true) none);
        }))
      where
        never : (x : Bool) → (x ≡ true → ⊥) → x ≡ false
        never true f = absurd (f refl)
        never false f = refl

    step_done : (x : Bool) (u : Scene) → is_asked step.ask ≡ x → (Calm → m.phase ≡ phases.WritingStatus) → Told first a u.outbox → Holds q before m u.node → Paired requests (desk_at u.node q) a → Done requests q before first pointer Calm (after_main q login step (ask_main q login step u))
    step_done true u asked c t h p = main_done (ask_main q login step u) c asked (main_leaves requests q b before first m a login step u asked behind.carried st.asks t h p)
    step_done false u asked c t h p = idle_done u asked t h p

    pub follows : (s : Scene) → IsOther step.dead → (Calm → m.phase ≡ phases.WritingStatus) → Told first a s.outbox → Holds q before m s.node → Turning requests step.promoted (desk_at s.node q) a → Done requests q before first pointer Calm (follow q login step s)
    unfolding follow
    follows s other c t h p =
        let u = noted q step s in
        step_done (is_asked step.ask) u refl c (told_as first (dead_on step.dead a) a u.outbox (other_on step.dead a other) (notes_told requests q b before first a step s t)) (notes_hold requests q b before first m step s h) (notes_pair requests q b before first a m step s h p)
