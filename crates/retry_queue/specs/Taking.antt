-- What a queue needs of the statuses that its initiator takes, and of the runs of its ORBs, beyond the laws of lists: the statuses of a list
-- are taken in the order of its ORBs, without a gap, and none behind one that is failed or illegal; without an abort and a dummy each is
-- good, check, failed or illegal; and each run is on unit 0.
use Rattle.std.specs.Prelude.{◌≡◌, ℕ, ◌||◌, Bool, true, false, not, List, [], ◌∷◌, Some, None}
use Rattle.sbp_base.specs.Update.{upd2, upd3}
use Rattle.orb_layout.specs.declared.status.StatusKind.{StatusKind}
use Rattle.orb_layout.specs.declared.status.StatusKind.TheVariants as kinds
use Rattle.sbp_journal.specs.Run.{Moment, said}
use Rattle.sbp_journal.specs.declared.note.Note.TheVariants as notes
use Rattle.sbp_world.specs.Lists.TakenTurns.{is_failed, takes_in}
use Rattle.retry_queue.specs.Known.{is_final}

-- whether a status of a list that was taken was none of a submission
abbrev pub is_unserved : List Moment → ℕ → ℕ → Bool
is_unserved [] = λ i n. false
is_unserved (said (notes.Taken i n k status answer) ∷ past) = upd2 (is_unserved past) i n (is_unserved past i n || not (is_final status))
is_unserved (_ ∷ past) = is_unserved past

-- an ORB's command ran and ended good
abbrev pub ran_good : List Moment → ℕ → ℕ → ℕ → Bool
ran_good [] = λ i n k. false
ran_good (said (notes.Ran i (Some n) (Some k) unit cdb bytes None) ∷ past) = upd3 (ran_good past) i n k true
ran_good (_ ∷ past) = ran_good past

-- no status that was taken is a check
abbrev pub all_good : List Moment → Bool
all_good [] = true
all_good (said (notes.Taken i n k (kinds.Check sense) answer) ∷ past) = false
all_good (_ ∷ past) = all_good past

-- ---- the facts

-- the status is of the list's next ORB, and none of the list was failed or illegal
pub record IsTakenInTurn (past : List Moment) (i n k : ℕ) : Type 0 where
  pub number : k ≡ takes_in past i n
  pub alive : is_failed past i n ≡ false

-- no abort, no dummy, no management operation
abbrev pub IsPlain : StatusKind → Type 0
IsPlain kinds.Good = Unit {0}
IsPlain (kinds.Check sense) = Unit {0}
IsPlain (kinds.Illegal meaning) = Unit {0}
IsPlain kinds.Failed = Unit {0}
IsPlain _ = ⊥

pub record IsPlainTaken (past : List Moment) (i n k : ℕ) (status : StatusKind) : Type 0 where
  pub turn : IsTakenInTurn past i n k
  pub plain : IsPlain status

-- the statuses of a history are taken in turn and plain, and its runs are on unit 0
abbrev pub PlainAt : Moment → List Moment → Type 0
PlainAt (said (notes.Taken i n k status answer)) past = IsPlainTaken past i n k status
PlainAt (said (notes.Ran i n k unit cdb bytes check)) past = unit ≡ 0
PlainAt moment past = Unit {0}
