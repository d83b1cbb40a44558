-- An operation that enters or leaves is under way where the session stands on its way in, or out.
use Rattle.sbp_world.proofs.Words.Std.{◌≡◌, ◌∙◌, refl, sym, ap, ℕ, true, false, Option, Some, None}
use Rattle.sbp_world.proofs.Words.Wire.{Operation}
use Rattle.sbp_world.proofs.Words.Initiator.{Running, InitiatorState, moves_session, Seat}
use Rattle.sbp_world.proofs.Lists.LiveActs.{Acted, Sends, begins, comes_back, goes_out, idle, logs_in, moves}
use Rattle.sbp_world.proofs.Lists.LiveMoves.{Moved, answers, ends, gives_up, rests, undoes}
use Rattle.sbp_world.proofs.Lists.LiveOwn.{enters, enters_moves, is_entry, is_exit, quits, quits_moves, two_ways}
use Rattle.sbp_world.proofs.Lists.LiveStandings.{Stand, comes, leaves, stand_of}
use Rattle.sbp_world.proofs.Common.{untrue}

pub record Aims (operation : Option Running) (stand : Stand) : Type 0 where
  pub entry : is_entry operation ≡ true → stand ≡ comes
  pub exit : is_exit operation ≡ true → (number : ℕ) × (stand ≡ leaves number)

pub aims_none : (operation : Option Running) (stand : Stand) → operation ≡ None → Aims operation stand
aims_none operation stand e = record { entry = λ f. untrue (sym (ap is_entry e) ∙ f); exit = λ f. untrue (sym (ap is_exit e) ∙ f) }

pub aims_like : (was operation : Option Running) (before now : Stand) → operation ≡ was → now ≡ before → Aims was before → Aims operation now
aims_like was operation before now e f a = record {
  entry = λ x. f ∙ a.entry (sym (ap is_entry e) ∙ x);
  exit = λ x. let y = a.exit (sym (ap is_exit e) ∙ x) in (y.0, f ∙ y.1);
}

-- another operation begins
others_aim : (running : Running) (operation : Option Running) (stand : Stand) → operation ≡ Some running → moves_session running.operation ≡ false → Aims operation stand
others_aim running operation stand e m = record {
  entry = λ f. two_ways (moves_session running.operation) (enters_moves running.operation (sym (ap is_entry e) ∙ f)) m;
  exit = λ f. two_ways (moves_session running.operation) (quits_moves running.operation (sym (ap is_exit e) ∙ f)) m;
}

sends_aims : (running : Running) (operation : Option Running) (stand : Stand) → operation ≡ Some running → (kind : Operation) (before now : Stand) → running.operation ≡ kind → stand ≡ now → Sends kind before now → Aims operation stand
sends_aims running operation stand e kind before now k at logs_in = record { entry = λ f. at; exit = λ f. untrue (sym (ap is_exit e ∙ ap quits k) ∙ f) }
sends_aims running operation stand e kind before now k at comes_back = record { entry = λ f. at; exit = λ f. untrue (sym (ap is_exit e ∙ ap quits k) ∙ f) }
sends_aims running operation stand e kind before now k at (goes_out own) = record { entry = λ f. untrue (sym (ap is_entry e ∙ ap enters k) ∙ f); exit = λ f. (own, at) }

module _ (s : InitiatorState) (aims : Aims s.operation (stand_of s.seat)) where
  pub moved_aims : (Answered : Running → ℕ → Type 0) (Undone : Running → Type 0) (operation : Option Running) (seat : Seat) → Moved s Answered Undone operation seat → Aims operation (stand_of seat)
  moved_aims Answered Undone operation seat (rests e l) = aims_like s.operation operation (stand_of s.seat) (stand_of seat) e l.stand aims
  moved_aims Answered Undone operation seat (gives_up e stuck) = aims_none operation (stand_of seat) e
  moved_aims Answered Undone operation seat (ends running is m e same) = aims_none operation (stand_of seat) e
  moved_aims Answered Undone operation seat (answers running status is m x e same) = aims_none operation (stand_of seat) e
  moved_aims Answered Undone operation seat (undoes running is m x e same) = aims_none operation (stand_of seat) e

  pub acted_aims : (operation : Option Running) (seat : Seat) → Acted s operation seat → Aims operation (stand_of seat)
  acted_aims operation seat (idle e l) = aims_like s.operation operation (stand_of s.seat) (stand_of seat) e l.stand aims
  acted_aims operation seat (begins running none free e m same) = others_aim running operation (stand_of seat) e m
  acted_aims operation seat (moves running none free e stuck sends) = sends_aims running operation (stand_of seat) e running.operation (stand_of s.seat) (stand_of seat) refl refl sends
