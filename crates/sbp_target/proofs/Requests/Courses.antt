-- What follows a step of an agent that has an ORB to work leaves it at work, or an ORB of it ended; and behind an end it is not at work. No end of another place is told.
use Rattle.std.proofs.Common.{arith, ◌≡◌, ◌≢◌, refl, sym, ap, ◌∙◌, ℕ, ◌<◌, ◌==◌, ◌&&◌, ◌||◌, is_some, Bool, true, false, List, length, Option, Some, None}
use Rattle.std.proofs.lemmas.Bool.Decides.{nat_tests}
use Rattle.std.specs.List.{list_any}
use Rattle.async_packet.specs.Labels.{LabelParts}
use Rattle.label_table.specs.Layer.{Layer}
use Rattle.login_table.specs.declared.login.Login.{Login}
use Rattle.orb_layout.specs.declared.ask.FailCause.TheVariants as causes
use Rattle.command_agent.specs.declared.step.AgentStep.{AgentStep}
use Rattle.command_agent.specs.Machine.{Machine}
use Rattle.command_agent.specs.Steps.{lost_step}
use Rattle.command_agent.specs.Making.{is_at_work}
use Rattle.command_agent.specs.Working.{BeginsNone}
use Rattle.command_agent.proofs.Making.Working.{losses_begin_none}
use Rattle.sbp_journal.specs.declared.side.Side.{Side}
use Rattle.sbp_journal.specs.Outgoings.{OutboxState}
use Rattle.sbp_target.specs.declared.desk.Desk.{Desk}
use Rattle.sbp_target.specs.declared.purpose.Purpose.{Purpose}
use Rattle.sbp_target.specs.declared.purpose.Purpose.TheVariants as purposes
use Rattle.sbp_target.specs.Agents.{ahead_sent, follow, main_sent, noted}
use Rattle.sbp_target.specs.Nodes.{NodeState, Scene, scene, desk_at, with_agent}
use Rattle.sbp_target.specs.RequestsLeft.{has_ended, is_end, works}
use Rattle.sbp_target.specs.Sending.{request_step}
use Rattle.sbp_target.specs.Histories.Moves.{Behind, asks_ahead, asks_main, loses, stay}
use Rattle.sbp_target.proofs.Histories.Moved.{behind_moves}
use Rattle.sbp_target.proofs.Histories.Views.{kept, requests}
use Rattle.sbp_target.proofs.Requests.Frames.{Alike, Frame, ahead_alike, framed_then, main_alike, notes_alike, seated_agent, seats}
use Rattle.sbp_target.proofs.Requests.Telling.{or_false, step_tells}

-- Behind a scene, of a place that has an ORB to work or not; and with an end of it that is yet to be told.
pub record Along (q : ℕ) (has_orb ends : Bool) (x s : Scene) : Type 0 where
  pub frame : Frame q x.node s.node
  pub others : (p : ℕ) → p ≢ q → has_ended p s ≡ has_ended p x
  pub over : (has_ended q s || ends) ≡ true → works s.node q ≡ false
  pub goes : has_orb ≡ true → (works s.node q || (has_ended q s || ends)) ≡ true

-- another node with the same agent, and the same is told
along_alike : (q : ℕ) (has_orb ends : Bool) (x s t : Scene) → Alike q s.node t.node → t.outbox.sides ≡ s.outbox.sides → Along q has_orb ends x s → Along q has_orb ends x t
along_alike q has_orb ends x s t alike sides a =
    let work = ap (λ (m : Machine). is_at_work m.phase) alike.agent in
    let told = λ (p : ℕ). ap (list_any (is_end p)) sides in
    record {
      frame = framed_then q x.node s.node t.node a.frame alike.frame;
      others = λ p n. told p ∙ a.others p n;
      over = λ e. work ∙ a.over (sym (ap (λ b. b || ends) (told q)) ∙ e);
      goes = λ e. ap (λ b. b || (has_ended q t || ends)) work ∙ (ap (λ b. works s.node q || (b || ends)) (told q) ∙ a.goes e);
    }

itself : (q : ℕ) → (q == q) ≡ true
itself q = grind (arith, nat_tests)

differs : (p q : ℕ) → p ≢ q → (q == p) ≡ false
differs p q n = grind (arith, nat_tests, n)

told_now : (told ends : Bool) → (told || (ends && true)) ≡ (told || ends)
told_now told true = refl
told_now told false = refl

told_never : (told ends : Bool) → (told || (ends && false)) ≡ told
told_never true ends = refl
told_never false true = refl
told_never false false = refl

-- ---- the step is told
pub notes_along : (q : ℕ) (has_orb : Bool) (x s : Scene) (step : AgentStep) → q < length s.node.desks → Along q has_orb (is_some step.ended) x s → Along q has_orb false x (noted q step s)
unfolding noted
notes_along q has_orb x s step inside a =
    let alike = notes_alike q step s inside in
    let work = ap (λ (m : Machine). is_at_work m.phase) alike.agent in
    let told = λ (p : ℕ). step_tells p q (desk_at s.node q).agent step s.outbox in
    let mine : has_ended q (noted q step s) ≡ (has_ended q s || is_some step.ended) =
    told q ∙ (ap (λ b. has_ended q s || (is_some step.ended && b)) (itself q) ∙ told_now (has_ended q s) (is_some step.ended)) in
    let both = or_false (has_ended q (noted q step s)) ∙ mine in
    record {
      frame = framed_then q x.node s.node (noted q step s).node a.frame alike.frame;
      others = λ p n. told p ∙ (ap (λ b. has_ended p s || (is_some step.ended && b)) (differs p q n) ∙ (told_never (has_ended p s) (is_some step.ended) ∙ a.others p n));
      over = λ e. work ∙ a.over (sym both ∙ e);
      goes = λ e. ap (λ b. b || (has_ended q (noted q step s) || false)) work ∙ (ap (λ b. works s.node q || b) both ∙ a.goes e);
    }

-- ---- a transaction that finds no label
-- the present ORB ends, or there is none
-- behind an end it is not at work; and what it has to work, it works or has ended
abbrev IsOver : Bool → Bool → Type 0
IsOver told now = told ≡ true → now ≡ false

abbrev IsOn : Bool → Bool → Bool → Type 0
IsOn has_orb now told = has_orb ≡ true → (now || told) ≡ true

loses_on : (has_orb told was now ends : Bool) → IsOver (told || false) was → IsOn has_orb was (told || false) → IsOver ends now → IsOn was now ends → (now ≡ true → was ≡ true) → IsOver (told || ends) now × IsOn has_orb now (told || ends)
loses_on has_orb true true now ends a b c d e = absurd (let never : true ≡ false = a refl in cc never)
loses_on has_orb true false true ends a b c d e = absurd (let never : false ≡ true = e refl in cc never)
loses_on has_orb true false false ends a b c d e = ((λ f. refl), (λ f. refl))
loses_on has_orb false true true true a b c d e = absurd (let never : true ≡ false = c refl in cc never)
loses_on has_orb false true true false a b c d e = ((λ f. cc f), (λ f. refl))
loses_on has_orb false true false true a b c d e = ((λ f. refl), (λ f. refl))
loses_on has_orb false true false false a b c d e = absurd (let never : false ≡ true = d refl in cc never)
loses_on has_orb false false true ends a b c d e = absurd (let never : false ≡ true = e refl in cc never)
loses_on has_orb false false false ends a b c d e = ((λ f. refl), (λ f. absurd (let never : false ≡ true = b f in cc never)))

-- ---- a request tells nothing
main_silent : (q peer : ℕ) (node : NodeState) (r : Option LabelParts × (Layer Purpose × OutboxState)) (told : List Side) → r.1.1.sides ≡ told → (main_sent q peer node r).1.outbox.sides ≡ told
main_silent q peer node (Some label, (layer, outbox)) told e = e
main_silent q peer node (None, (layer, outbox)) told e = e

ahead_silent : (q peer : ℕ) (node : NodeState) (r : Option LabelParts × (Layer Purpose × OutboxState)) (told : List Side) → r.1.1.sides ≡ told → (ahead_sent q peer node r).1.outbox.sides ≡ told
ahead_silent q peer node (Some label, (layer, outbox)) told e = e
ahead_silent q peer node (None, (layer, outbox)) told e = e

module _ (q : ℕ) (has_orb : Bool) (x : Scene) (inside : q < length x.node.desks) where
  within : (s : Scene) → Frame q x.node s.node → q < length s.node.desks
  within s f = let size = f.size in omega (arith, size, inside)

  -- the agent has made a step that begins no ORB, and its end is yet to be told
  steps_along : (s : Scene) (r : AgentStep × Machine) → Along q has_orb false x s → BeginsNone (desk_at s.node q).agent r → Along q has_orb (is_some r.0.ended) x (scene (with_agent s.node q r.1) s.outbox)
  steps_along s r a b =
      let d : Desk = record (desk_at s.node q) { agent = r.1 } in
      let here = within s a.frame in
      let agent = seated_agent q s.node (with_agent s.node q r.1) d here refl in
      let work : works (with_agent s.node q r.1) q ≡ is_at_work r.1.phase = ap (λ (m : Machine). is_at_work m.phase) agent in
      let both = loses_on has_orb (has_ended q s) (works s.node q) (is_at_work r.1.phase) (is_some r.0.ended) a.over a.goes b.on.over b.on.goes b.old in
      record {
        frame = framed_then q x.node s.node (with_agent s.node q r.1) a.frame (seats q s.node (with_agent s.node q r.1) d here refl refl refl);
        others = a.others;
        over = λ e. work ∙ both.0 e;
        goes = λ e. ap (λ b. b || (has_ended q s || is_some r.0.ended)) work ∙ both.1 e;
      }

  behind : (login : Login) (s t : Scene) → Behind q login s t → Along q has_orb false x s → Along q has_orb false x t
  behind login _ _ (loses which s e) a =
      let r = lost_step (desk_at s.node q).agent which causes.Label in
      let b = losses_begin_none (desk_at s.node q).agent which causes.Label in
      let t = scene (with_agent s.node q r.1) s.outbox in
      let stepped = steps_along s r a b in
      notes_along q has_orb x t r.0 (within t stepped.frame) stepped
  behind login _ _ (asks_main ask is_status body s e) a =
      let sent = request_step s.node.layer s.outbox login.node body (purposes.Agent q) in
      along_alike q has_orb false x s _ (main_alike q login.node s.node sent (within s a.frame)) (main_silent q login.node s.node sent s.outbox.sides (requests (λ told. told ≡ s.outbox.sides) s login.node body (purposes.Agent q) refl)) a
  behind login _ _ (asks_ahead ask body s e) a =
      let sent = request_step s.node.layer s.outbox login.node body (purposes.Agent q) in
      along_alike q has_orb false x s _ (ahead_alike q login.node s.node sent (within s a.frame)) (ahead_silent q login.node s.node sent s.outbox.sides (requests (λ told. told ≡ s.outbox.sides) s login.node body (purposes.Agent q) refl)) a

  pub follows_along : (login : Login) (step : AgentStep) (s : Scene) → Along q has_orb (is_some step.ended) x s → Along q has_orb false x (follow q login step s)
  follows_along login step s a =
      let t = noted q step s in
      kept (Behind q login) (λ y. Along q has_orb false x y) (behind login) t _ (behind_moves (Behind q login) q login (λ y z m. m) t step s (stay t)) (notes_along q has_orb x s step (within s a.frame) a)
