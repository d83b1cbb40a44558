-- The search for a live login, place by place.
use Rattle.std.specs.Prelude.{◌≡◌, ℕ, ◌<◌, true, false, List, length, Option, Some, None}
use Rattle.std.proofs.Common.{arith, ap}
use Rattle.std.proofs.lemmas.Bool.Decides.{nat_tests}
use Rattle.std.proofs.lemmas.List.Sums.{position_or_len_is}
use Rattle.login_table.specs.declared.login.Login.{Login}
use Rattle.login_table.specs.Table.{find, has, is_live_of, place_at}
use Rattle.mgmt_agent.specs.Decisions.{live_login, login_in}

-- A place that has the login is where it is found, where no lower one has it.
found_at : (places : List (Option Login)) (id node k : ℕ) → k < length places → has (is_live_of id node) (place_at places k) ≡ true → ((j : ℕ) → j < k → has (is_live_of id node) (place_at places j) ≡ false)
    → find (is_live_of id node) places ≡ Some k
found_at places id node k h t f =
    let n = position_or_len_is (has (is_live_of id node)) places k None (omega arith) f (λ m. t) in
    grind (arith, nat_tests)

pub live_found : (places : List (Option Login)) (id node k : ℕ) → k < length places → has (is_live_of id node) (place_at places k) ≡ true → ((j : ℕ) → j < k → has (is_live_of id node) (place_at places j) ≡ false)
    → live_login places id node ≡ place_at places k
unfolding live_login
live_found places id node k h t f = ap (λ (p : Option ℕ). login_in p places) (found_at places id node k h t f)

none_at : (places : List (Option Login)) (id node : ℕ) → ((j : ℕ) → j < length places → has (is_live_of id node) (place_at places j) ≡ false) → find (is_live_of id node) places ≡ None
none_at places id node f =
    let n = position_or_len_is (has (is_live_of id node)) places (length places) None (omega arith) f (λ m. absurd (omega arith)) in
    grind (arith, nat_tests)

pub live_none : (places : List (Option Login)) (id node : ℕ) → ((j : ℕ) → j < length places → has (is_live_of id node) (place_at places j) ≡ false) → live_login places id node ≡ None
unfolding live_login
live_none places id node f = ap (λ (p : Option ℕ). login_in p places) (none_at places id node f)
