-- Every list of moves keeps it.
use Rattle.sbp_journal.specs.Transactions.{Sending}
use Rattle.std.specs.Prelude.{true, List, [], ◌∷◌, refl, ◌≡◌, Some, None}
use Rattle.std.proofs.Common.{arith}
use Rattle.sbp_journal.specs.Wire.{beginning as first, local_id}
use Rattle.bus_transactions.specs.Wire.{beginning}
use Rattle.bus_transactions.specs.Moves.{Move, ask, answer, inject, deliver, lose, expire, disown, reset, see, start, tell, moved, after}
use Rattle.bus_transactions.specs.May.{May, MayAll}
use Rattle.bus_transactions.specs.Wire.{Wire}
use Rattle.bus_transactions.proofs.Facts.{Facts}
use Rattle.bus_transactions.proofs.Ties.{tie_none}
use Rattle.bus_transactions.proofs.Follows.{follows_none}
use Rattle.bus_transactions.proofs.NodeRows.{node_new}
use Rattle.bus_transactions.proofs.Stands.{Stands}
use Rattle.bus_transactions.proofs.MoveAsk.{move_ask}
use Rattle.bus_transactions.proofs.MoveAnswer.{move_answer}
use Rattle.bus_transactions.proofs.MoveDeliver.{move_deliver}
use Rattle.bus_transactions.proofs.MoveOthers.{move_lose, move_expire, move_disown, move_reset, move_see, move_start, move_tell, move_inject}

first_facts : Facts first
first_facts = record {
  apart = λ g i j e. omega (arith, e);
  aged = λ i. omega arith;
  unsent = λ s l. record { sent_is = refl; honest = refl; unjudged = refl; no_news = refl; open_still = refl; unanswered = refl };
  zero = refl;
  tie = λ u. tie_none true true (λ e. refl);
  asked = λ u l. absurd (omega (arith, l));
  early = λ u l. refl;
  silent = λ u l. refl;
  ungiven = λ u l. refl;
  honest = λ s q e. cc;
  flies = λ s q e. cc;
  counts = λ s q e. cc;
  waiting_kind = λ u k r e. cc;
  replied = λ s r e. cc;
}

nothing : {q : Sending} → None ≡ Some q → ⊥
nothing e = cc

begins : Stands beginning
begins = record {
  facts = first_facts;
  follows = follows_none;
  bus_is = refl;
  ids_are = λ i. refl;
  due_is = refl;
  codes = record {
    unserved = λ s l. refl;
    fresh = λ u w j. refl;
    done = λ u w n j. absurd (omega (arith, j));
    replies = λ u s w n c. absurd (nothing c.sent);
    ended = λ s q u e. cc;
    due_done = λ u owed rcode e. cc;
    due_replies = λ u owed rcode s e. cc;
  };
  nodes = λ i. node_new local_id i;
}

pub one_move : (w : Wire) → Stands w → (move : Move) → May move w → Stands (moved move w)
one_move w h (ask node peer body) may = move_ask w h node peer body may
one_move w h (answer rcode given) may = move_answer w h rcode given may
one_move w h (inject node peer bytes) may = move_inject w h node peer bytes may
one_move w h (deliver kept cause) may = move_deliver w h kept cause may
one_move w h (lose s) may = move_lose w h s may
one_move w h (expire node peer label) may = move_expire w h node peer label may
one_move w h (disown node peer label) may = move_disown w h node peer label
one_move w h (reset line physical) may = move_reset w h line physical may
one_move w h (see node) may = move_see w h node may
one_move w h (start line event) may = move_start w h line event may
one_move w h (tell note) may = move_tell w h note may

pub all_stand : (moves : List Move) → MayAll moves → Stands (after moves)
all_stand [] may = begins
all_stand (move ∷ moves) may = one_move (after moves) (all_stand moves may.1) move may.0
