-- In a turn in which a packet for the target is taken as new once more, the target is called with it: it had been sent before.
use Rattle.sbp_world.proofs.Words.Std.{arith, ◌≡◌, ◌∙◌, refl, sym, ap, subst, ◌<◌, ◌≤◌, ◌++◌, inl, inr, ◌⊎◌, nat_lt, nat_tests, ℕ, Bool, true, false, List, ◌∷◌, Option, Some, same_Some}
use Rattle.sbp_world.proofs.Words.Wire.{Event, Moment, Sending, Sent, SerialsCount, as_sending, asked, found_sent, judged_note, said, terms}
use Rattle.sbp_world.proofs.Words.Target.{Disk, NodeState, received}
use Rattle.sbp_world.proofs.Words.Laws.{target_at}
use Rattle.sbp_world.proofs.Words.World.{Office, Scene, Stands, WorldState, whole_of}
use Rattle.sbp_world.proofs.Agents.Management.Offices.{over_keeps}
use Rattle.sbp_world.proofs.Agents.Management.Holding.{was_sent}
use Rattle.sbp_world.proofs.Agents.Management.Still.{hist}
use Rattle.sbp_world.proofs.Completing.PresentGets.{GotFrom, TurnGets, turn_gets}
use Rattle.sbp_world.proofs.Hosts.Remaining.{remains}
use Rattle.sbp_world.proofs.Lists.Gots.{turn_next}
use Rattle.sbp_world.proofs.Lists.Judging.{Grown, counts_at, grown, next_fresh}
use Rattle.sbp_world.proofs.Lists.ManageSends.{opened_terms}
use Rattle.sbp_world.proofs.Lists.TurnWalk.{seated_of}
use Rattle.sbp_world.proofs.Lists.Walks.{Step}

module _ (wild : ℕ → Bool) (units ready : ℕ) (has : 0 < units) (start : List Disk) (Q U : List Moment → WorldState → Type 0) (past : List Moment) (s : Scene) (later : List Moment) (t : Scene) (step : Step wild units ready start Q U past s later t) where
  abbrev pub w : WorldState
  w = s.world

  abbrev pub before : List Moment
  before = hist past s.world

  abbrev pub now : List Moment
  now = hist later t.world

  pub stands : Stands past s.world
  stands = step.stands.reached.holds.sound.stands

  pub on : Grown before now
  on = grown before now (turn_next past s later t step.turn)

  pub counts : SerialsCount (on.new ++ before)
  counts = subst SerialsCount (sym on.is) (counts_at t.world step.reaches.holds.sound.stands)

  module _ (serial : ℕ) (q : Sending) (sent_now : (terms now).sent serial ≡ Some q) (taken : 0 < (terms now).news serial) where
    old_by : (young : Bool) → nat_lt (terms before).count serial ≡ young → serial ≤ (terms before).count
    old_by true e =
        let none = next_fresh serial before now (counts_at w stands) (let z : (terms before).count < serial = grind (arith, nat_tests, e) in z) (turn_next past s later t step.turn) in
        absurd (omega (arith, none, taken))
    old_by false e = let z : serial ≤ (terms before).count = grind (arith, nat_tests, e) in z

    pub sent_then : (terms before).sent serial ≡ Some q
    sent_then = sym ((remains on.new before counts).sent serial (old_by (nat_lt (terms before).count serial) refl)) ∙ (ap (λ ms. (terms ms).sent serial) on.is ∙ sent_now)

    module _ (to_is : q.to ≡ 0) where
      is_sent : (sent : Sent) → found_sent serial w.store.kept ≡ Some sent → q ≡ as_sending sent
      is_sent sent found = same_Some q (as_sending sent) (sym sent_then ∙ was_sent w stands serial sent found)

      pub gets : TurnGets past w later t.world serial
      gets = turn_gets past s later t step.turn (seated_of wild units ready has start past step.lines w step.stands) serial (λ sent found. ap (λ (x : Sending). x.to) (sym (is_sent sent found)) ∙ to_is)

      module _ (g : GotFrom past w later t.world serial) where
        pub found : found_sent serial w.store.kept ≡ Some g.got.sent
        found = ap (λ st. found_sent serial st.kept) (sym g.store) ∙ g.got.found

        pub sending : q ≡ as_sending g.got.sent
        sending = is_sent g.got.sent found

        -- as it is behind the line that begins
        pub sent_there : (terms (hist later g.w)).sent serial ≡ Some q
        sent_there = by g.begins
          where
            by : (hist later g.w ≡ before) ⊎ ((line : ℕ) × ((event : Event) × (hist later g.w ≡ asked line event ∷ before))) → (terms (hist later g.w)).sent serial ≡ Some q
            by (inl e) = ap (λ ms. (terms ms).sent serial) e ∙ sent_then
            by (inr (line, (event, e))) = ap (λ ms. (terms ms).sent serial) e ∙ (ap (λ (f : ℕ → Option Sending). f serial) (opened_terms event (terms before)).sent ∙ sent_then)

        -- so is the management of the target
        pub manager_is : (target_at start (hist later g.w)).manager ≡ g.w.target.manager
        manager_is = by g.begins ∙ (step.stands.reached.holds.at.agrees.manager ∙ ap (λ (node : NodeState). node.manager) (sym g.target))
          where
            by : (hist later g.w ≡ before) ⊎ ((line : ℕ) × ((event : Event) × (hist later g.w ≡ asked line event ∷ before))) → (target_at start (hist later g.w)).manager ≡ (target_at start before).manager
            by (inl e) = ap (λ ms. (target_at start ms).manager) e
            by (inr (line, (event, e))) = ap (λ ms. (target_at start ms).manager) e ∙ ap (λ (o : Office). o.manager) (over_keeps (target_at start before))

        module _ (more : (terms before).news serial < (terms now).news serial) where
          pub rises : (terms (said (judged_note serial (received g.got.run g.got.sent.generation g.got.sent.bytes (whole_of w.target g.got.media)).0) ∷ hist later g.w)).news serial ≡ (terms (hist later g.w)).news serial → ⊥
          rises e =
              let same : (terms now).news serial ≡ (terms before).news serial =
              g.got.news
              ∙ (ap (λ (node : NodeState). (terms (said (judged_note serial (received g.got.run g.got.sent.generation g.got.sent.bytes (whole_of node g.got.media)).0) ∷ hist later g.w)).news serial) g.target
              ∙ (e ∙ g.news_are)) in
              omega (arith, same, more)
