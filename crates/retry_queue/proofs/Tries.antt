-- The journals that the queue law was tried on.
use Rattle.std.proofs.Common.{◌≡◌, ℕ, Bool, List, ap, arith, refl, Option, Some, None, true, false}
use Rattle.std.specs.Prelude.{slice_index}
use Rattle.orb_layout.specs.declared.status.StatusKind.{StatusKind}
use Rattle.rbc_disk.specs.Disk.{blank_bytes}
use Rattle.sbp_journal.specs.declared.note.NoteBuffer.{NoteBuffer}
use Rattle.sbp_journal.specs.declared.note.NoteBuffer.TheVariants.{Nothing, In, Out}
use Rattle.retry_queue.specs.Journals.{FollowsAt, IsJournal, MadeAt}
use Rattle.retry_queue.specs.Parts.{AreFront, ConsecutiveAt, WaitsAt}
use Rattle.retry_queue.specs.Steps.{EachStep}
use Rattle.retry_queue.specs.Tried.{QueueTried}
use Rattle.retry_queue.specs.Tried as tried
use Rattle.retry_queue.proofs.Cases.{both_ways}

accepts : IsJournal tried.whole
accepts = record {
  made = (refl, (tt, (tt, (record { own = refl; due = refl }, (record { sized = record { address = omega arith; some = omega arith; few = omega arith; whole = refl }; few = omega arith }, (tt, (tt, tt)))))));
  follows = (tt, (refl, (refl, (refl, (refl, (refl, (refl, tt)))))));
  brought = (tt, (refl, (record { own = refl; next = record { number = refl; list = refl }; list = refl; number = refl; asked = record { command = refl; buffered = refl } }, (tt, (tt, (refl, (tt, tt)))))));
  plain = (record { turn = record { number = refl; alive = refl }; plain = tt }, (tt, (tt, (tt, (tt, tt)))));
}

abbrev is_nothing : NoteBuffer → Bool
is_nothing Nothing = true
is_nothing (In len) = false
is_nothing (Out bytes) = false

without_data : EachStep ConsecutiveAt tried.without_data → ⊥
without_data law = both_ways (is_nothing Nothing) refl (ap is_nothing law.0.buffered)

dead_list_goes_on : EachStep WaitsAt tried.dead_list_goes_on → ⊥
dead_list_goes_on law = both_ways true refl (law.0 0 refl)

second_comes_first : AreFront tried.second_comes_first → ⊥
second_comes_first law = let bad : false ≡ true = law 0 in cc bad

idle_too_soon : EachStep MadeAt tried.idle_too_soon → ⊥
idle_too_soon law = cc law.0

abbrev number_of : Option (ℕ × StatusKind) → ℕ
number_of None = 0
number_of (Some written) = written.0

other_told : EachStep MadeAt tried.other_told → ⊥
other_told law = let bad : 0 ≡ 1 = ap number_of law.0 in omega (arith, bad)

untold : EachStep FollowsAt tried.untold → ⊥
untold law = cc law.0

abbrev first_byte : Option (List ℕ) → ℕ
first_byte None = 0
first_byte (Some bytes) = slice_index bytes 0

pub queue_tried : QueueTried
unfolding blank_bytes
queue_tried = record {
  accepts = accepts;
  all = refl;
  without_data = without_data;
  dead_list_goes_on = dead_list_goes_on;
  second_comes_first = second_comes_first;
  idle_too_soon = idle_too_soon;
  other_told = other_told;
  untold = untold;
  unwritten = λ e. let bad : 0 ≡ 0xAA = ap first_byte e in omega (arith, bad);
}
