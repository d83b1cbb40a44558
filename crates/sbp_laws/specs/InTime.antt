-- What the laws of lists say in the order of time, over a whole journal, of each initiator that injected no packets (NCITS 325-1998, ordered execution; status
-- block). Of each list the ORBs that were appended are 0, 1, 2 and so on, and those that ended are a front of them, each once. Those that ran are of that front, or
-- the next one behind it; they ran in this order, each once. And of each ORB one status is taken at most, the one with which it ended.
use Rattle.std.specs.Prelude.{◌≡◌, ℕ, suc, ◌<◌, ◌≤◌, Bool, false, List, [], ◌∷◌, Some}
use Rattle.rbc_disk.specs.Disk.{Disk}
use Rattle.sbp_base.specs.Update.{upd2}
use Rattle.sbp_journal.specs.Run.{Moment, said}
use Rattle.sbp_journal.specs.declared.note.Note.TheVariants.{Ran}
use Rattle.sbp_laws.specs.Lists.{TakenStatus, taken_at}
use Rattle.sbp_laws.specs.OnLists.{LawfulOnLists}
use Rattle.sbp_laws.specs.OrderLaw.{EndInTurn}
use Rattle.sbp_laws.specs.Terms.{ended_status, ends, takes}

-- the numbers of a list's ORBs that ran, the latest one first
abbrev pub ran_numbers : List Moment → ℕ → ℕ → List ℕ
ran_numbers [] = λ i n. []
ran_numbers (said (Ran i (Some n) (Some k) unit cdb bytes check) ∷ past) = upd2 (ran_numbers past) i n (k ∷ ran_numbers past i n)
ran_numbers (_ ∷ past) = ran_numbers past

-- each of them is below a number
abbrev pub AreBelow : ℕ → List ℕ → Type 0
AreBelow count [] = Unit {0}
AreBelow count (k ∷ ks) = (k < count) × AreBelow count ks

-- each is above those that came before it
abbrev pub Rise : List ℕ → Type 0
Rise [] = Unit {0}
Rise (k ∷ before) = AreBelow k before × Rise before

pub record ReadsInTime (wild : ℕ → Bool) (past : List Moment) : Type 0 where
  pub end_in_turn : EndInTurn wild past
  pub run_in_turn : (i n : ℕ) → wild i ≡ false → Rise (ran_numbers past i n)
  pub run_at_the_end : (i n : ℕ) → wild i ≡ false → AreBelow (suc (ends past i n)) (ran_numbers past i n)
  pub taken_once : (i n k : ℕ) → wild i ≡ false → takes past i n k ≤ 1
  pub taken_is_its_own : (i n k : ℕ) (taken : TakenStatus) → wild i ≡ false → taken_at past i n k ≡ Some taken → ended_status past i n k ≡ Some taken.status

-- A history that keeps these laws reads so.
abbrev pub InTimeLaw : Type 0
InTimeLaw = (wild : ℕ → Bool) (start : List Disk) (past : List Moment) → LawfulOnLists wild start past → ReadsInTime wild past
