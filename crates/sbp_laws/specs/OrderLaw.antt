-- The order law. An initiator's lists are numbered from 0 by one, and so are the ORBs of a list. The ORBs of a list end in the order of
-- their appends, each once and after its append. No ORB of a list runs or ends after the list was cut, or after the first append of its
-- initiator's next list (NCITS 325-1998, ordered execution).
use Rattle.std.specs.Prelude.{◌≡◌, ℕ, zero, suc, ◌==◌, ◌<◌, ◌≤◌, Bool, true, false, if◌then◌else◌, List, [], ◌∷◌, ◌++◌, Some}
use Rattle.sbp_base.specs.Update.{upd2}
use Rattle.sbp_journal.specs.Run.{Moment, said}
use Rattle.sbp_journal.specs.declared.note.Note.TheVariants.{Append, Ran, Ended, Cut}
use Rattle.sbp_laws.specs.Turns.{EachMoment}
use Rattle.sbp_laws.specs.Terms.{lists, appends, ends}

-- a list was cut
abbrev pub is_cut : List Moment → ℕ → ℕ → Bool
is_cut [] = λ i n. false
is_cut (said (Cut i (Some n) cause) ∷ past) = upd2 (is_cut past) i n true
is_cut (_ ∷ past) = is_cut past

-- the ORB is the next one of the latest list, or the first one of the next list
pub record IsNextAppend (past : List Moment) (i n k : ℕ) : Type 0 where
  pub number : k ≡ appends past i n
  pub list : (if k == 0 then n else suc n) ≡ lists past i

-- the list is the latest one of its initiator, and was not cut
pub record IsOpen (past : List Moment) (i n : ℕ) : Type 0 where
  pub latest : suc n ≡ lists past i
  pub uncut : is_cut past i n ≡ false

-- the ORB was appended, and the ORBs before it, and no others, have ended
pub record IsNextEnd (past : List Moment) (i n k : ℕ) : Type 0 where
  pub number : k ≡ ends past i n
  pub appended : k < appends past i n
  pub still : IsOpen past i n

-- A run or an end without a list and a number comes with injected packets alone. The law is of the initiators that did not inject any.
abbrev pub OrderAt : (ℕ → Bool) → Moment → List Moment → Type 0
OrderAt wild (said (Append i n k cdb buffer)) past = IsNextAppend past i n k
OrderAt wild (said (Ran i (Some n) (Some k) unit cdb bytes check)) past = wild i ≡ false → IsOpen past i n
OrderAt wild (said (Ran i n k unit cdb bytes check)) past = wild i ≡ true
OrderAt wild (said (Ended i (Some n) (Some k) status)) past = wild i ≡ false → IsNextEnd past i n k
OrderAt wild (said (Ended i n k status)) past = wild i ≡ true
OrderAt wild moment past = Unit {0}

abbrev pub OrderLaw : (ℕ → Bool) → List Moment → Type 0
OrderLaw wild past = EachMoment (OrderAt wild) past

-- the numbers of a list's ORBs that ended, in the order of their ends
abbrev pub ended_numbers : List Moment → ℕ → ℕ → List ℕ
ended_numbers [] = λ i n. []
ended_numbers (said (Ended i (Some n) (Some k) status) ∷ past) = upd2 (ended_numbers past) i n (ended_numbers past i n ++ k ∷ [])
ended_numbers (_ ∷ past) = ended_numbers past

-- the numbers of a list's ORBs that were appended, in the order of their appends
abbrev pub appended_numbers : List Moment → ℕ → ℕ → List ℕ
appended_numbers [] = λ i n. []
appended_numbers (said (Append i n k cdb buffer) ∷ past) = upd2 (appended_numbers past) i n (appended_numbers past i n ++ k ∷ [])
appended_numbers (_ ∷ past) = appended_numbers past

-- the numbers below `count`, rising from 0
abbrev pub numbers_below : ℕ → List ℕ
numbers_below zero = []
numbers_below (suc n) = numbers_below n ++ n ∷ []

-- What the order law says in the order of time, of each initiator that did not inject packets: of each list the ORBs that were appended
-- are 0, 1, 2 and so on, those that ended are a front of them, and each ended once.
pub record EndInTurn (wild : ℕ → Bool) (past : List Moment) : Type 0 where
  pub appended : (i n : ℕ) → appended_numbers past i n ≡ numbers_below (appends past i n)
  pub ended : (i n : ℕ) → wild i ≡ false → ended_numbers past i n ≡ numbers_below (ends past i n)
  pub front : (i n : ℕ) → wild i ≡ false → ends past i n ≤ appends past i n
