-- In a run in which lists were open as they should be before, an ORB that ran, of a list that was not cut and of which none has ended, is at an agent that has the list open.
use Rattle.sbp_world.proofs.Words.Std.{◌≡◌, inl, inr, ◌⊎◌, subst, ℕ, ◌<◌, true, List, ◌∷◌, ◌++◌, map}
use Rattle.sbp_world.proofs.Words.Wire.{Moment, asked, said}
use Rattle.sbp_world.proofs.Words.Laws.{injectors, runs}
use Rattle.sbp_world.proofs.Words.World.{history_of, after, beginning, after_all, WorldState, begun, Always, Under, initiator_in, is_open_at, Unrun, UnrunLaw}
use Rattle.sbp_world.proofs.Hosts.Runs.{count_after, count_between, run_law}
use Rattle.sbp_world.proofs.Lists.Busy.{busy_list}
use Rattle.sbp_world.proofs.Lists.TurnWalk.{AreNumbered}
use Rattle.sbp_world.proofs.Lists.UnrunTurns.{AreBusy, IsBusyFor}
use Rattle.sbp_world.proofs.Lists.UnrunWalk.{Nothing, busy_walk, first_busy}
use Rattle.sbp_world.proofs.Lists.Walks.{walked_after, walked_between}

unrun_of : (ms : List Moment) (w : WorldState) → AreBusy (injectors ms) ms w → Unrun ms w
unrun_of ms w o = record { held = λ i n calm opened none shut. by i n shut (o i calm n opened none) }
  where
    by : (i n : ℕ) → ((place : ℕ) → place < 8 → is_open_at w place ≡ true → initiator_in w place ≡ i → ⊥) → (runs ms i n 0 ≡ 0) ⊎ IsBusyFor w i → runs ms i n 0 ≡ 0
    by i n shut (inl e) = e
    by i n shut (inr b) = absurd (shut b.place b.small (busy_list _ b.busy) b.initiator_is)

numbered : Always AreNumbered
numbered = record {
  after_lines = λ line run r has small size i b. (run_law.rows line run r i (subst (λ n. i < n) (count_after run run.entries) b)).number;
  between = λ line run r has small size next most told m i b.
      (run_law.between line run r next most told m i (subst (λ n. i < n) (count_after run run.entries) (subst (λ n. i < n) (count_between told (after (beginning run) run.entries)) b))).number;
}

nothing : Under Nothing
nothing = record {
  after_lines = λ line run r has small size so_far. tt;
  between = λ line run r has small size next most told m so_far. tt;
}

pub unrun_law : UnrunLaw
unrun_law = record {
  after_lines = λ line run r has small size so_far.
      unrun_of (history_of line run) (after (beginning run) run.entries).world (walked_after AreNumbered Nothing AreBusy numbered nothing busy_walk first_busy line run r has small size so_far);
  between = λ line run r has small size next event d told m so_far.
      let w = (after_all told (begun (after (beginning run) run.entries))).world in
      unrun_of (map said w.fresh ++ asked next event ∷ history_of line run) w (walked_between AreNumbered Nothing AreBusy numbered nothing busy_walk first_busy line run r has small size next event d told m so_far);
}
