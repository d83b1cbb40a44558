-- No status of a list is taken behind one that is failed or illegal: the ORB of that one ended so, and is the last of its list that ended; a status is taken of an ORB that ended, and, as the statuses of a
-- list are taken in the order of its ORBs, of a later one.
use Rattle.std.proofs.Common.{arith, ◌≡◌, ◌∙◌, refl, sym, ap, subst, inl, inr, ◌⊎◌, ◌<◌, ◌||◌, ◌==◌, ℕ, suc, nat_eq, Bool, true, false, cond, List, [], ◌∷◌, Option, Some, None}
use Rattle.std.proofs.lemmas.Bool.Decides.{nat_tests}
use Rattle.std.proofs.lemmas.Bool.{false≢true}
use Rattle.orb_layout.specs.declared.status.StatusKind.{StatusKind}
use Rattle.sbp_journal.specs.Run.{Moment, said}
use Rattle.sbp_journal.specs.declared.note.Note.TheVariants as notes
use Rattle.sbp_laws.specs.Lawful.{injectors}
use Rattle.sbp_laws.specs.OrderLaw.{OrderLaw}
use Rattle.sbp_laws.specs.StatusLaw.{TakenAt}
use Rattle.sbp_laws.specs.Terms.{ended_status, ends}
use Rattle.sbp_laws.specs.Turns.{EachMoment}
use Rattle.sbp_world.specs.Histories.{history_of}
use Rattle.sbp_world.specs.Lists.Faults.{EndsAlive, FaultsLaw, has_fault, is_fault}
use Rattle.sbp_world.specs.Lists.LawfulLists.{ListsLaw}
use Rattle.sbp_world.specs.Lists.TakenAlive.{AliveTakesLaw, TakesAlive, TakesAliveLaw}
use Rattle.sbp_world.specs.Lists.TakenTurns.{TakesInOrder, is_failed, takes_in}
use Rattle.sbp_world.proofs.Hosts.Runs.{count_after}
use Rattle.sbp_world.proofs.Lists.FaultLasts.{has, is_last_end, no_status}

either_one : (a b : Bool) → (a || b) ≡ true → (a ≡ true) ⊎ (b ≡ true)
either_one true b e = inl refl
either_one false b e = inr e

module _ (wild : ℕ → Bool) (i : ℕ) (own : wild i ≡ false) where
  -- ---- an ORB that ended has a number below that of the ends
  low_by : (past : List Moment) (n k j m l : ℕ) (st status : StatusKind) → (wild j ≡ false → l ≡ ends past j m) → (ended_status past i n k ≡ Some status → k < ends past i n) → (x y z : Bool) → nat_eq i j ≡ x → nat_eq n m ≡ y → nat_eq k l ≡ z → cond x (cond y (cond z (Some st) (ended_status past i n k)) (ended_status past i n k)) (ended_status past i n k) ≡ Some status → k < cond x (cond y (suc (ends past j m)) (ends past i n)) (ends past i n)
  low_by past n k j m l st status number again true true true f g h e =
      let same_i : j ≡ i = grind (arith, nat_tests) in
      let same_k : k ≡ l = grind (arith, nat_tests) in
      let at = number (ap wild same_i ∙ own) in
      omega (arith, same_k, at)
  low_by past n k j m l st status number again true true false f g h e =
      let same_i : j ≡ i = grind (arith, nat_tests) in
      let same_n : m ≡ n = grind (arith, nat_tests) in
      let same = ap (λ a. ends past a m) same_i ∙ ap (ends past i) same_n in
      let low = again e in
      omega (arith, same, low)
  low_by past n k j m l st status number again true false z f g h e = again e
  low_by past n k j m l st status number again false y z f g h e = again e

  ended_low : (past : List Moment) → OrderLaw wild past → (n k : ℕ) (status : StatusKind) → ended_status past i n k ≡ Some status → k < ends past i n
  ended_low [] order n k status e = absurd (no_status status e)
  ended_low (said (notes.Ended j (Some m) (Some l) st) ∷ past) order n k status e =
      low_by past n k j m l st status (λ o. (order.0 o).number) (ended_low past order.1 n k status) (nat_eq i j) (nat_eq n m) (nat_eq k l) refl refl refl e
  ended_low (said (notes.Ended j (Some m) None st) ∷ past) order n k status e = ended_low past order.1 n k status e
  ended_low (said (notes.Ended j None l st) ∷ past) order n k status e = ended_low past order.1 n k status e
  ended_low (m ∷ past) order n k status e = ended_low past order.1 n k status e

  -- ---- an ORB of a list ended as failed or illegal, and its status was taken: by how the ORBs of the list ended, and how many statuses of it were taken
  record WasFault (ended : ℕ → Option StatusKind) (count : ℕ) : Type 0 where
    number : ℕ
    status : StatusKind
    low : number < count
    is : ended number ≡ Some status
    fault : is_fault status ≡ true

  -- a status that is taken
  fault_by : (past : List Moment) (n j m k : ℕ) (st : StatusKind) → (wild j ≡ false → ended_status past j m k ≡ Some st) → ((i == j) ≡ true → k ≡ takes_in past i m) → (is_failed past i n ≡ true → WasFault (ended_status past i n) (takes_in past i n)) → (x y : Bool) → nat_eq i j ≡ x → nat_eq n m ≡ y → cond x (cond y (is_failed past j m || is_fault st) (is_failed past i n)) (is_failed past i n) ≡ true → WasFault (ended_status past i n) (cond x (cond y (suc (takes_in past j m)) (takes_in past i n)) (takes_in past i n))
  fault_by past n j m k st ended turn again true true f g e =
      let mine : (i == j) ≡ true = grind (arith, nat_tests) in
      let same_i : j ≡ i = grind (arith, nat_tests) in
      let same_n : m ≡ n = grind (arith, nat_tests) in
      by mine same_i same_n (either_one (is_failed past j m) (is_fault st) e)
    where
      by : (i == j) ≡ true → j ≡ i → m ≡ n → (is_failed past j m ≡ true) ⊎ (is_fault st ≡ true) → WasFault (ended_status past i n) (suc (takes_in past j m))
      by mine same_i same_n (inl h) =
          let d = again (sym (ap (λ a. is_failed past a m) same_i ∙ ap (is_failed past i) same_n) ∙ h) in
          let same = ap (λ a. takes_in past a m) same_i ∙ ap (takes_in past i) same_n in
          let below = d.low in
          record { number = d.number; status = d.status; low = omega (arith, same, below); is = d.is; fault = d.fault }
      by mine same_i same_n (inr h) =
          let at = turn mine in
          let same = ap (λ a. takes_in past a m) same_i in
          record {
            number = k;
            status = st;
            low = omega (arith, at, same);
            is = sym (ap (λ a. ended_status past a m k) same_i ∙ ap (λ b. ended_status past i b k) same_n) ∙ ended (ap wild same_i ∙ own);
            fault = h;
          }
  fault_by past n j m k st ended turn again true false f g e = again e
  fault_by past n j m k st ended turn again false y f g e = again e

  -- an end of an ORB is of a list without one
  fault_over : (past : List Moment) (n j m l count : ℕ) (st : StatusKind) → ((i == j) ≡ true → has_fault past i m ≡ false) → WasFault (ended_status past i n) count → WasFault (ended_status (said (notes.Ended j (Some m) (Some l) st) ∷ past) i n) count
  fault_over past n j m l count st clean d = record { number = d.number; status = d.status; low = d.low; is = by (nat_eq i j) (nat_eq n m) refl refl; fault = d.fault }
    where
      by : (x y : Bool) → nat_eq i j ≡ x → nat_eq n m ≡ y → cond x (cond y (cond (nat_eq d.number l) (Some st) (ended_status past i n d.number)) (ended_status past i n d.number)) (ended_status past i n d.number) ≡ Some d.status
      by true true f g =
          let mine : (i == j) ≡ true = grind (arith, nat_tests) in
          let same_n : m ≡ n = grind (arith, nat_tests) in
          absurd (false≢true (sym (clean mine) ∙ (ap (has_fault past i) same_n ∙ has i n d.number d.status d.fault past d.is)))
      by true false f g = d.is
      by false y f g = d.is

  was_fault : (past : List Moment) → EachMoment (TakenAt wild) past → EachMoment (EndsAlive i) past → EachMoment (TakesInOrder i) past → (n : ℕ) → is_failed past i n ≡ true → WasFault (ended_status past i n) (takes_in past i n)
  was_fault [] taken alive turns n e = absurd (false≢true e)
  was_fault (said (notes.Taken j m k st answer) ∷ past) taken alive turns n e =
      fault_by past n j m k st (λ o. (taken.0 o).ended) turns.0 (was_fault past taken.1 alive.1 turns.1 n) (nat_eq i j) (nat_eq n m) refl refl e
  was_fault (said (notes.Ended j (Some m) (Some l) st) ∷ past) taken alive turns n e =
      fault_over past n j m l (takes_in past i n) st alive.0 (was_fault past taken.1 alive.1 turns.1 n e)
  was_fault (said (notes.Ended j (Some m) None st) ∷ past) taken alive turns n e = was_fault past taken.1 alive.1 turns.1 n e
  was_fault (said (notes.Ended j None l st) ∷ past) taken alive turns n e = was_fault past taken.1 alive.1 turns.1 n e
  was_fault (m ∷ past) taken alive turns n e = was_fault past taken.1 alive.1 turns.1 n e

  -- ---- a status that is taken
  none_behind : (past : List Moment) → OrderLaw wild past → EachMoment (EndsAlive i) past → (n k : ℕ) (status : StatusKind) → ended_status past i n k ≡ Some status → k ≡ takes_in past i n → WasFault (ended_status past i n) (takes_in past i n) → ⊥
  none_behind past order alive n k status e turn d =
      let low = ended_low past order n k status e in
      let last = is_last_end i n d.number d.status d.fault wild own past order alive d.is in
      let before = d.low in
      omega (arith, low, last, before, turn)

  take_alive : (past : List Moment) → OrderLaw wild past → EachMoment (TakenAt wild) past → EachMoment (EndsAlive i) past → EachMoment (TakesInOrder i) past → (j n k : ℕ) (status : StatusKind) → (wild j ≡ false → ended_status past j n k ≡ Some status) → ((i == j) ≡ true → k ≡ takes_in past i n) → (i == j) ≡ true → is_failed past i n ≡ false
  take_alive past order taken alive turns j n k status ended turn mine = by (is_failed past i n) refl
    where
      by : (x : Bool) → is_failed past i n ≡ x → x ≡ false
      by false e = refl
      by true e =
          let same_i : j ≡ i = grind (arith, nat_tests) in
          absurd (none_behind past order alive n k status (sym (ap (λ a. ended_status past a n k) same_i) ∙ ended (ap wild same_i ∙ own)) (turn mine) (was_fault past taken alive turns n e))

  takes_alive : (past : List Moment) → OrderLaw wild past → EachMoment (TakenAt wild) past → EachMoment (EndsAlive i) past → EachMoment (TakesInOrder i) past → EachMoment (TakesAlive i) past
  takes_alive [] order taken alive turns = tt
  takes_alive (said (notes.Taken j n k status answer) ∷ past) order taken alive turns =
      (take_alive past order.1 taken.1 alive.1 turns.1 j n k status (λ o. (taken.0 o).ended) turns.0, takes_alive past order.1 taken.1 alive.1 turns.1)
  takes_alive (m ∷ past) order taken alive turns = (tt, takes_alive past order.1 taken.1 alive.1 turns.1)

pub takes_alive_law : TakesAliveLaw
takes_alive_law wild i own past order taken alive turns = takes_alive wild i own past order taken alive turns

-- ---- after the lines of a run
pub alive_takes_law : ListsLaw → FaultsLaw → AliveTakesLaw
alive_takes_law lists_law faults_law = record {
  takes = λ line run r units small size tame i b calm turns.
      let past = history_of line run in
      let law = lists_law.lists line run r units small size tame in
      let ends_so = faults_law.after_lines line run r units small size tame i (subst (λ n. i < n) (sym (count_after run run.entries)) b) calm in
      takes_alive_law (injectors past) i calm past law.order law.status.taken ends_so.alive turns;
}
