-- Two of the facts that open lists stand on at each place of a run in which no initiator injected packets, or few logins were given, and before which they were so: no status is taken of an ORB that
-- has not ended, and an ORB whose next pointer is read again stands in its slot. By what is known of the lists that are open there, and of where the ORBs of management
-- operations stand.
use Rattle.sbp_world.proofs.Words.Std.{◌≡◌, ◌<◌, ℕ, Bool, false, List, ◌++◌, length}
use Rattle.sbp_world.proofs.Words.Wire.{Moment}
use Rattle.sbp_world.proofs.Words.Laws.{EachMoment, injectors}
use Rattle.sbp_world.proofs.Words.World.{WorldState, initiator_at, without_notes, JoinedLaw, AreRows, PointersLaw, BegunLaw, AreBehind, AreHere, AreUntaken, Under, WhereTameOrFew, IsCalm, IsTameOrFew, AreOwnOf, AllSentSo, AllStatuses, AreStatuses, SentSo}
use Rattle.sbp_world.proofs.Agents.Management.Still.{hist}
use Rattle.sbp_world.proofs.Lists.RunOutcomes.{AreAsked}
use Rattle.sbp_world.proofs.Lists.StatusAnswers.{answer_free, answers_apart}
use Rattle.sbp_world.proofs.Lists.StatusBehind.{AllFree}
use Rattle.sbp_world.proofs.Lists.StatusCall.{AreRested}
use Rattle.sbp_world.proofs.Lists.StatusOffice.{ArePlacedFor, managed_sends}
use Rattle.sbp_world.proofs.Lists.StatusProved as proved
use Rattle.sbp_world.proofs.Lists.StatusProved.{AreNames, ground_law}
use Rattle.sbp_world.proofs.Lists.StatusRested as rested
use Rattle.sbp_world.proofs.Lists.StatusRested.{all_here, grounds_law, over_law}
use Rattle.sbp_world.proofs.Lists.StatusRuns.{statuses_law}
use Rattle.sbp_world.proofs.Lists.StatusWalk.{Given}
use Rattle.sbp_world.proofs.Lists.TameWalks.{Where}
use Rattle.sbp_world.proofs.Lists.Turns.{Ready}
use Rattle.sbp_world.proofs.Lists.Beside.{tame_or_few_before}

-- the management ORB of an operation of an initiator that injected no packets stands at one of its places of management, and each live login of it has a FIFO of a login
abbrev Placed : ℕ → WorldState → Type 0
Placed i w = ArePlacedFor w i × AreOwnOf w i

abbrev pub AllPlacedFor : List Moment → WorldState → Type 0
AllPlacedFor ms w = (i : ℕ) → i < length w.initiators → IsCalm ms i → Placed i w

placed_on : (i : ℕ) (w : WorldState) → Placed i w → Placed i (without_notes w)
placed_on i w p = ((λ op e source. p.0 op e source), (λ place login e live of. p.1 place login e live of))

gives : (wild : ℕ → Bool) (i : ℕ) (own : wild i ≡ false) (past : List Moment) (w : WorldState) (r : Ready wild past w) (statuses : AreStatuses (hist past w) i) (each : EachMoment (SentSo i) (hist past w)) (rows : AreRows (hist past w) i (initiator_at w i).lists.slots) → AreAsked wild (hist past w) w → Placed i w → Given wild i own past w r statuses each rows
gives wild i own past w r statuses each rows asked placed = record {
  owned = placed.1;
  answers = λ sent is_for run media serial. answers_apart wild i own past w r statuses each rows asked sent is_for run media serial;
  managed = λ layer s note f u b others answer e. managed_sends i past w r.good placed.0 each layer s note f u b others answer e;
}

free : (wild : ℕ → Bool) (past : List Moment) (w : WorldState) → Ready wild past w → AreAsked wild (hist past w) w → AllFree wild w
free wild past w r asked sent is_for run disks p label place f b login which e own none offset size wrote fifo =
    answer_free wild past w r asked sent is_for run disks p label place f b login which e own none offset size wrote fifo

module _ (pointers : PointersLaw) (begun : BegunLaw) where
  -- under a condition that was so before wherever it is so
  module _ (Still : List Moment → Type 0) (closed : (later past : List Moment) → Still (later ++ past) → Still past) (here : Under (Where Still AreHere)) (placed : Under (Where Still AllPlacedFor)) where
    over : Under (Where Still (proved.Over Placed placed_on gives))
    over = record {
      after_lines = λ line run r has small size so_far still. (here.after_lines line run r has small size so_far still, placed.after_lines line run r has small size so_far still);
      between = λ line run r has small size next most told m so_far still. (here.between line run r has small size next most told m so_far still, placed.between line run r has small size next most told m so_far still);
    }

    sent_where : Under (Where Still AllSentSo)
    sent_where = proved.sent_law Placed placed_on gives Still closed (ground_law pointers begun) over

    names_where : Under (Where Still AreNames)
    names_where = proved.named_law Placed placed_on gives Still closed (ground_law pointers begun) over

  -- where no initiator injected packets, or few logins were given
  module _ (here : Under (WhereTameOrFew AreHere)) (placed : Under (WhereTameOrFew AllPlacedFor)) where
    pub sent_law : Under (WhereTameOrFew AllSentSo)
    sent_law = sent_where IsTameOrFew tame_or_few_before here placed

    pub names : Under (WhereTameOrFew AreNames)
    names = names_where IsTameOrFew tame_or_few_before here placed

    pub statuses : Under (WhereTameOrFew AllStatuses)
    statuses = statuses_law.statuses sent_law

    pub untaken_law : Under (WhereTameOrFew AreUntaken)
    untaken_law = statuses_law.untaken sent_law

    -- and the last ORB of a list, of which a status was taken, has its slot while its agent is at its end
    pub rested_law : JoinedLaw → Under (WhereTameOrFew (λ ms w. AreRested (injectors ms) ms w))
    rested_law joined = rested.rested_law free (grounds_law (ground_law pointers begun) joined) (over_law (all_here here names) statuses untaken_law)

    pub behind_law : JoinedLaw → Under (WhereTameOrFew AreBehind)
    behind_law joined = rested.behind_law free (grounds_law (ground_law pointers begun) joined) (over_law (all_here here names) statuses untaken_law)
