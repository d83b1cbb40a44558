-- What the ORBs of a history count in the budget of a settle, ORB by ORB, the first append first: of each initiator's lists that were not cut
-- those without a status.
use Rattle.sbp_world.proofs.Words.Std.{if◌then◌else◌, ◌≡◌, arith, refl, sym, ◌∙◌, ap, nat_eq, nat_tests, upd2, upd3}
use Rattle.sbp_world.proofs.Words.Wire.{Moment, said, Cmd, NoteBuffer}
use Rattle.sbp_world.proofs.Words.Laws.{share_of, shares, TakenStatus, cmd_of, command_at, is_none_taken, taken_at, is_cut, event_of}
use Rattle.std.specs.Prelude.{ℕ, ◌+◌, ◌==◌, ◌&&◌, not, Bool, true, false, cond, List, [], ◌∷◌, ◌++◌, Option, Some, None}
use Rattle.sbp_journal.specs.declared.note.Note.TheVariants as notes
use Rattle.sbp_world.proofs.Common.{itself}
use Rattle.sbp_world.proofs.Lists.OrbSteps.{yes}

-- what an ORB counts
pub record Share : Type 0 where
  pub initiator : ℕ
  pub list : ℕ
  pub orb : ℕ
  pub weight : ℕ

abbrev pub share : (initiator list orb weight : ℕ) → Share
share initiator list orb weight = record { initiator = initiator; list = list; orb = orb; weight = weight }

abbrev pub total : List Share → ℕ
total [] = 0
total (one ∷ all) = one.weight + total all

abbrev pub kept : Bool → Share → List Share
kept true one = one ∷ []
kept false one = []

abbrev pub Cuts : Type 0
Cuts = ℕ → ℕ → Bool

abbrev pub Takes : Type 0
Takes = ℕ → ℕ → ℕ → Option TakenStatus

abbrev pub Commands : Type 0
Commands = ℕ → ℕ → ℕ → Option Cmd

-- no status of it was taken, and its list was not cut
abbrev pub counts : Cuts → Takes → (i n k : ℕ) → Bool
counts cut taken i n k = not (cut i n) && is_none_taken (taken i n k)

-- the shares of the ORBs that were appended in a history, by what cuts, statuses and commands are known
abbrev pub ledger : Cuts → Takes → Commands → List Moment → List Share
ledger cut taken command [] = []
ledger cut taken command (said (notes.Append i n k cdb buffer) ∷ past) =
    ledger cut taken command past ++ kept (counts cut taken i n k) (share i n k (share_of (command i n k)))
ledger cut taken command (_ ∷ past) = ledger cut taken command past

abbrev pub ledger_of : List Moment → List Share
ledger_of past = ledger (is_cut past) (taken_at past) (command_at past) past

-- ---- their sum is that of the law
pub total_more : (one two : List Share) → total (one ++ two) ≡ total one + total two
total_more [] two = omega arith
total_more (x ∷ one) two = let e = total_more one two in omega (arith, e)

total_kept : (b : Bool) (one : Share) → total (kept b one) ≡ (if b then one.weight else 0)
total_kept true one = omega arith
total_kept false one = refl

sums_of : (all past : List Moment) → total (ledger (is_cut all) (taken_at all) (command_at all) past) ≡ shares all past
sums_of all [] = refl
sums_of all (said (notes.Append i n k cdb buffer) ∷ past) =
    let e = sums_of all past in
    let w = share i n k (share_of (command_at all i n k)) in
    let b = counts (is_cut all) (taken_at all) i n k in
    let f = total_kept b w in
    let g = total_more (ledger (is_cut all) (taken_at all) (command_at all) past) (kept b w) in
    omega (arith, e, f, g)
sums_of all (moment ∷ past) = sums_of all past

pub sums : (past : List Moment) → total (ledger_of past) ≡ shares past past
sums past = sums_of past past

-- ---- without some
abbrev pub without : (Share → Bool) → List Share → List Share
without test [] = []
without test (one ∷ all) = cond (test one) (without test all) (one ∷ without test all)

without_more : (test : Share → Bool) (one two : List Share) → without test (one ++ two) ≡ without test one ++ without test two
without_more test [] two = refl
without_more test (x ∷ one) two = by (without_more test one two) (test x)
  where
    by : without test (one ++ two) ≡ without test one ++ without test two → (b : Bool) → cond b (without test (one ++ two)) (x ∷ without test (one ++ two)) ≡ cond b (without test one) (x ∷ without test one) ++ without test two
    by e true = e
    by e false = ap (λ xs. x ∷ xs) e

-- those of a list, and one of it
abbrev pub is_of : (i n : ℕ) → Share → Bool
is_of i n one = (one.initiator == i) && (one.list == n)

abbrev pub is_one : (i n k : ℕ) → Share → Bool
is_one i n k one = is_of i n one && (one.orb == k)

without_kept : (test : Share → Bool) (b : Bool) (one : Share) → without test (kept b one) ≡ kept (not (test one) && b) one
without_kept test true one = by_test (test one)
  where
    by_test : (t : Bool) → cond t [] (one ∷ []) ≡ kept (not t && true) one
    by_test true = refl
    by_test false = refl
without_kept test false one = by_test (test one)
  where
    by_test : (t : Bool) → [] ≡ kept (not t && false) one
    by_test true = refl
    by_test false = refl

-- ---- a list is cut
cut_kept : (cut : Cuts) (taken : Takes) (i n j m k w : ℕ) → kept (counts (upd2 cut i n true) taken j m k) (share j m k w) ≡ without (is_of i n) (kept (counts cut taken j m k) (share j m k w))
cut_kept cut taken i n j m k w =
    by (nat_eq j i) (nat_eq m n) (cut j m) (is_none_taken (taken j m k)) ∙ sym (without_kept (is_of i n) (counts cut taken j m k) (share j m k w))
  where
    by : (a b c d : Bool) → kept (not (cond a (cond b true c) c) && d) (share j m k w) ≡ kept (not (a && b) && (not c && d)) (share j m k w)
    by true true c d = refl
    by true false c d = refl
    by false b c d = refl

pub cuts : (cut : Cuts) (taken : Takes) (command : Commands) (i n : ℕ) (past : List Moment) → ledger (upd2 cut i n true) taken command past ≡ without (is_of i n) (ledger cut taken command past)
cuts cut taken command i n [] = refl
cuts cut taken command i n (said (notes.Append j m k cdb buffer) ∷ past) =
    let w = share_of (command j m k) in
    let new = kept (counts (upd2 cut i n true) taken j m k) (share j m k w) in
    let old = ledger cut taken command past in
    ap (λ xs. xs ++ new) (cuts cut taken command i n past)
    ∙ ap (λ xs. without (is_of i n) old ++ xs) (cut_kept cut taken i n j m k w)
    ∙ sym (without_more (is_of i n) old (kept (counts cut taken j m k) (share j m k w)))
cuts cut taken command i n (moment ∷ past) = cuts cut taken command i n past

-- ---- a status is taken
taken_kept : (cut : Cuts) (taken : Takes) (i n k j m l w : ℕ) (x : TakenStatus) → kept (counts cut (upd3 taken i n k (Some x)) j m l) (share j m l w) ≡ without (is_one i n k) (kept (counts cut taken j m l) (share j m l w))
taken_kept cut taken i n k j m l w x =
    by (nat_eq j i) (nat_eq m n) (nat_eq l k) (cut j m) (taken j m l) ∙ sym (without_kept (is_one i n k) (counts cut taken j m l) (share j m l w))
  where
    by : (a b e c : Bool) (o : Option TakenStatus) → kept (not c && is_none_taken (cond a (cond b (cond e (Some x) o) o) o)) (share j m l w) ≡ kept (not ((a && b) && e) && (not c && is_none_taken o)) (share j m l w)
    by true true true true o = refl
    by true true true false o = refl
    by true true false c o = refl
    by true false e c o = refl
    by false b e c o = refl

pub takes : (cut : Cuts) (taken : Takes) (command : Commands) (i n k : ℕ) (x : TakenStatus) (past : List Moment) → ledger cut (upd3 taken i n k (Some x)) command past ≡ without (is_one i n k) (ledger cut taken command past)
takes cut taken command i n k x [] = refl
takes cut taken command i n k x (said (notes.Append j m l cdb buffer) ∷ past) =
    let w = share_of (command j m l) in
    let new = kept (counts cut (upd3 taken i n k (Some x)) j m l) (share j m l w) in
    let old = ledger cut taken command past in
    ap (λ xs. xs ++ new) (takes cut taken command i n k x past)
    ∙ ap (λ xs. without (is_one i n k) old ++ xs) (taken_kept cut taken i n k j m l w x)
    ∙ sym (without_more (is_one i n k) old (kept (counts cut taken j m l) (share j m l w)))
takes cut taken command i n k x (moment ∷ past) = takes cut taken command i n k x past

-- ---- an ORB is appended
abbrev pub is_appended : List Moment → ℕ → ℕ → ℕ → Bool
is_appended [] = λ i n k. false
is_appended (said (notes.Append i n k cdb buffer) ∷ past) = upd3 (is_appended past) i n k true
is_appended (_ ∷ past) = is_appended past

pub flip : (a b : ℕ) → nat_eq a b ≡ nat_eq b a
flip a b = grind (arith, nat_tests)

-- the command of another ORB
other_command : (a b e x : Bool) (c o : Option Cmd) → cond a (cond b (cond e true x) x) x ≡ false → cond a (cond b (cond e c o) o) o ≡ o
other_command true true true x c o h = yes h
other_command true true false x c o h = refl
other_command true false e x c o h = refl
other_command false b e x c o h = refl

before_command : (a b e x : Bool) → cond a (cond b (cond e true x) x) x ≡ false → x ≡ false
before_command true true true x h = yes h
before_command true true false x h = h
before_command true false e x h = h
before_command false b e x h = h

commands : (cut : Cuts) (taken : Takes) (command : Commands) (i n k : ℕ) (c : Option Cmd) (past : List Moment) → is_appended past i n k ≡ false → ledger cut taken (upd3 command i n k c) past ≡ ledger cut taken command past
commands cut taken command i n k c [] h = refl
commands cut taken command i n k c (said (notes.Append j m l cdb buffer) ∷ past) h =
    let x = is_appended past i n k in
    let old = ledger cut taken command past in
    let same : upd3 command i n k c j m l ≡ command j m l =
    ap (λ b. cond b (cond (nat_eq m n) (cond (nat_eq l k) c (command j m l)) (command j m l)) (command j m l)) (flip j i)
    ∙ ap (λ b. cond (nat_eq i j) (cond b (cond (nat_eq l k) c (command j m l)) (command j m l)) (command j m l)) (flip m n)
    ∙ ap (λ b. cond (nat_eq i j) (cond (nat_eq n m) (cond b c (command j m l)) (command j m l)) (command j m l)) (flip l k)
    ∙ other_command (nat_eq i j) (nat_eq n m) (nat_eq k l) x c (command j m l) h in
    ap (λ xs. xs ++ kept (counts cut taken j m l) (share j m l (share_of (upd3 command i n k c j m l)))) (commands cut taken command i n k c past (before_command (nat_eq i j) (nat_eq n m) (nat_eq k l) x h))
    ∙ ap (λ o. old ++ kept (counts cut taken j m l) (share j m l (share_of o))) same
commands cut taken command i n k c (moment ∷ past) h = commands cut taken command i n k c past h

command_here : (command : Commands) (i n k : ℕ) (c : Option Cmd) → upd3 command i n k c i n k ≡ c
command_here command i n k c =
    let o = command i n k in
    ap (λ b. cond b (cond (nat_eq n n) (cond (nat_eq k k) c o) o) o) (itself i) ∙ ap (λ b. cond b (cond (nat_eq k k) c o) o) (itself n) ∙ ap (λ b. cond b c o) (itself k)

-- an ORB that was not appended yet, and of which no status was taken
pub appended : (past : List Moment) (i n k : ℕ) (cdb : List ℕ) (buffer : NoteBuffer) → is_appended past i n k ≡ false → taken_at past i n k ≡ None → ledger_of (said (notes.Append i n k cdb buffer) ∷ past) ≡ ledger_of past ++ kept (not (is_cut past i n)) (share i n k (share_of (cmd_of (event_of past))))
appended past i n k cdb buffer fresh none =
    let c = cmd_of (event_of past) in
    let new = upd3 (command_at past) i n k c in
    ap (λ xs. xs ++ kept (counts (is_cut past) (taken_at past) i n k) (share i n k (share_of (new i n k)))) (commands (is_cut past) (taken_at past) (command_at past) i n k c past fresh)
    ∙ ap (λ o. ledger_of past ++ kept (not (is_cut past i n) && is_none_taken o) (share i n k (share_of (new i n k)))) none
    ∙ ap (λ b. ledger_of past ++ kept b (share i n k (share_of (new i n k)))) (and_true (not (is_cut past i n)))
    ∙ ap (λ o. ledger_of past ++ kept (not (is_cut past i n)) (share i n k (share_of o))) (command_here (command_at past) i n k c)
  where
    and_true : (b : Bool) → (b && true) ≡ b
    and_true true = refl
    and_true false = refl
