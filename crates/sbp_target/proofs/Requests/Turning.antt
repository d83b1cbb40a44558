-- A call that works the agent of one place is counted, by what its step leaves and what follows it.
use Rattle.std.proofs.Common.{arith, ◌≡◌, ◌≢◌, refl, sym, ap, ◌∙◌, ℕ, ◌+◌, ◌<◌, ◌≤◌, ◌&&◌, ◌||◌, not, nat_eq, Bool, true, false, cond, length}
use Rattle.login_table.specs.declared.login.Login.{Login}
use Rattle.command_agent.specs.declared.step.AgentStep.{AgentStep}
use Rattle.command_agent.specs.Machine.{Machine}
use Rattle.command_agent.specs.Counting.{is_made}
use Rattle.command_agent.specs.Making.{is_at_work}
use Rattle.sbp_target.specs.declared.desk.Desk.{Desk}
use Rattle.sbp_target.specs.Agents.{follow}
use Rattle.sbp_target.specs.Nodes.{NodeState, Scene}
use Rattle.sbp_target.specs.RequestsLeft.{CountsRequests, begun_share, has_ended, newly, node_left, was_cut, works}
use Rattle.sbp_target.proofs.Histories.Following.{other_place, same_place}
use Rattle.sbp_target.proofs.Histories.Seats.{split}
use Rattle.sbp_target.proofs.Requests.Courses.{Along}
use Rattle.sbp_target.proofs.Requests.Discs.{LeavesAgents}
use Rattle.sbp_target.proofs.Requests.Follows.{follows_are_counted}
use Rattle.sbp_target.proofs.Requests.Frames.{Frame, framed_left, sent_or_left}
use Rattle.sbp_target.proofs.Requests.Sums.{one_of_all}
use Rattle.sbp_target.proofs.Requests.Telling.{or_false, or_left}

-- the share of an ORB whose turn came
abbrev pub share_if : Bool → ℕ → ℕ → ℕ
share_if b tables chunks = cond b (tables + chunks + 3) 0

-- the ORB that a place of a node has to work
abbrev pub has_orb : NodeState → ℕ → Bool → Bool
has_orb node q turned = works node q || turned

-- What is known of a call of a target that has handed out nothing, where it worked the agent of one place alone: of a scene of it before anything was told of that place, and of
-- the one behind what followed.
pub record Works (tables chunks : ℕ → ℕ) (q : ℕ) (turned : Bool) (due : ℕ) (node : NodeState) (x y : Scene) : Type 0 where
  pub small : q < 8
  pub frame : Frame q node x.node
  pub unended : (p : ℕ) → has_ended p x ≡ false
  pub is_new : turned ≡ true → works node q ≡ false
  pub along : Along q (has_orb node q turned) false x y
  pub few : sent_or_left tables chunks y ≤ node_left tables chunks node + due + share_if turned (tables q) (chunks q)

-- ---- what follows a step
pub follows_few : (tables chunks : ℕ → ℕ) (q : ℕ) (flag : Bool) (x : Scene) (login : Login) (step : AgentStep) → q < 8 → length x.node.desks ≡ 8 → Along q flag false x (follow q login step x)
    → sent_or_left tables chunks (follow q login step x) ≤ sent_or_left tables chunks x + (is_made step.ask + is_made step.ahead)
follows_few tables chunks q flag x login step small size a =
    let y = follow q login step x in
    let number = follows_are_counted (tables q) (chunks q) q login step x (omega (arith, small, size)) in
    let framed = framed_left tables chunks q x.node y.node small a.frame in
    omega (arith, number, framed)

-- ---- all of it, with what discs tell behind it
module _ (tables chunks : ℕ → ℕ) (q : ℕ) (turned : Bool) (due : ℕ) (node : NodeState) (x y z : Scene) (w : Works tables chunks q turned due node x y) (l : LeavesAgents tables chunks y z) where
  here : (p : ℕ) → p < 8 → works z.node p ≡ works y.node p
  here p b = ap (λ (m : Machine). is_at_work m.phase) (l.agents p b)

  others_work : (p : ℕ) → p < 8 → p ≢ q → works z.node p ≡ works node p
  others_work p b n = here p b ∙ ap (λ (d : Desk). is_at_work d.agent.phase) (w.along.frame.others p n ∙ w.frame.others p n)

  others_end : (p : ℕ) → p ≢ q → has_ended p z ≡ false
  others_end p n = l.told p ∙ (w.along.others p n ∙ w.unended p)

  over : has_ended q z ≡ true → works z.node q ≡ false
  over e = here q w.small ∙ w.along.over (or_left (has_ended q y) false (sym (l.told q) ∙ e))

  goes : has_orb node q turned ≡ true → (works z.node q || has_ended q z) ≡ true
  goes e = ap (λ b. b || has_ended q z) (here q w.small) ∙ (ap (λ b. works y.node q || b) (l.told q ∙ sym (or_false (has_ended q y))) ∙ w.along.goes e)

  begun : (was now told : Bool) (n : ℕ) → was ≡ false → (now || told) ≡ true → cond (not was && (now || told)) n 0 ≡ n
  begun true now told n e f = cc e
  begun false now told n e f = ap (λ b. cond b n 0) f

  share_new : (b : Bool) → turned ≡ b → share_if b (tables q) (chunks q) ≤ newly tables chunks node z
  share_new false e = omega arith
  share_new true e =
      let one = one_of_all 8 (begun_share tables chunks node z) q w.small in
      let mine = begun (works node q) (works z.node q) (has_ended q z) (tables q + chunks q + 3) (w.is_new e) (goes (ap (λ b. works node q || b) e ∙ any_true (works node q))) in
      omega (arith, one, mine)
    where
      any_true : (b : Bool) → (b || true) ≡ true
      any_true true = refl
      any_true false = refl

  stops : (a b : Bool) → b ≡ false → (b || a) ≡ true → a ≡ true
  stops a true e f = cc e
  stops a false e f = f

  pub works_counts : CountsRequests tables chunks due node z
  works_counts =
      let few = w.few in
      let less = l.few in
      let share = share_new turned refl in
      record {
        sent = omega (arith, few, less, share);
        ended = λ p b. split (nat_eq p q) (has_ended p z ≡ true → works z.node p ≡ false)
            (λ e f. ap (λ (k : ℕ). works z.node k) (same_place p q e) ∙ over (sym (ap (λ (k : ℕ). has_ended k z) (same_place p q e)) ∙ f))
            (λ e f. absurd (let never : false ≡ true = sym (others_end p (other_place p q e)) ∙ f in cc never));
        stopped = λ p b. split (nat_eq p q) (works node p ≡ true → works z.node p ≡ false → (has_ended p z || was_cut p z) ≡ true)
            (λ e f g. mine p (same_place p q e) f g)
            (λ e f g. absurd (let never : true ≡ false = sym f ∙ (sym (others_work p b (other_place p q e)) ∙ g) in cc never));
      }
    where
      mine : (p : ℕ) → p ≡ q → works node p ≡ true → works z.node p ≡ false → (has_ended p z || was_cut p z) ≡ true
      mine p e f g =
          let has = or_left (works node q) turned (sym (ap (λ (k : ℕ). works node k) e) ∙ f) in
          let rest = sym (ap (λ (k : ℕ). works z.node k) e) ∙ g in
          or_left (has_ended p z) (was_cut p z) (ap (λ (k : ℕ). has_ended k z) e ∙ stops (has_ended q z) (works z.node q) rest (goes has))
