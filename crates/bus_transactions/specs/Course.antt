-- A course of moves: a write is asked, delivered and answered, its response closes it, and the request is delivered and answered once more.
use Rattle.std.specs.Prelude.{◌≡◌, List, Some}
use Rattle.sbp_journal.specs.Wire.{terms}
use Rattle.bus_transactions.specs.Moves.{Move, after}
use Rattle.bus_transactions.specs.May.{MayAll}

pub record CanHappen : Type 0 where
  pub moves : List Move
  pub may : MayAll moves
  pub closed : (terms (after moves).past).closed 1 ≡ Some 0
  pub judged : (terms (after moves).past).judged 1 ≡ 2
  pub news : (terms (after moves).past).news 1 ≡ 1
  pub sent : (terms (after moves).past).count ≡ 3

-- And why the once law asks that the responder has not injected packets: a response that it injects closes a write that it never judged.
pub record ClosesUnjudged : Type 0 where
  pub moves : List Move
  pub may : MayAll moves
  pub closed : (terms (after moves).past).closed 1 ≡ Some 0
  pub unjudged : (terms (after moves).past).judged 1 ≡ 0
