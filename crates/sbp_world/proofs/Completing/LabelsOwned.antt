-- Of the target's labels to an initiator that are under way all but three are nobody's: an initiator has one agent out of RESET at most, with a main transaction and a read ahead, and the operation has one.
use Rattle.sbp_world.proofs.Words.Std.{arith, ◌≡◌, ◌≢◌, ◌∙◌, refl, sym, ap, subst, inl, inr, ◌⊎◌, ℕ, zero, suc, ◌+◌, ◌<◌, ◌≤◌, ◌&&◌, ◌||◌, not, nat_eq, Bool, true, false, List, Option, Some, None, nat_tests, same_Some}
use Rattle.sbp_world.proofs.Words.Wire.{Held, Holder, Moment, Terms, free, or_nobody, rests, terms, waits}
use Rattle.sbp_world.proofs.Words.Target.{AgentState, Disk, IsThat, IsUnderWay, Login, NodeState, Phase, Purpose, Sent, TransactionLaw, desk_at, is_live, is_reset, login_at, source_in, state_in}
use Rattle.sbp_world.proofs.Words.Laws.{Target, over, purpose_of, target_at, to_peer}
use Rattle.sbp_world.proofs.Words.World.{AreApart, AreHeldAt, AreOpened, ArePurposedAt, HasPurpose, IsHanded, IsTame, IsUp, WorldState, initiator_in, machine_at}
use Rattle.command_agent.specs.declared.phase.Phase.TheVariants as phases
use Rattle.command_agent.specs.declared.step.AgentState.TheVariants as agents
use Rattle.sbp_target.specs.declared.purpose.Purpose.TheVariants as purposes
use Rattle.sbp_target.specs.Histories.Transactions.{AgentLaw, HasMain, IsOwn}
use Rattle.sbp_world.specs.Completing.Labels.{is_for_nobody, is_nobodys, is_waiting, of_nobody, under_way}
use Rattle.sbp_world.proofs.Agents.Follows.{is_last, last_is}
use Rattle.sbp_world.proofs.Agents.Management.Holding.{Holding, same_id}
use Rattle.sbp_world.proofs.Agents.Management.Still.{hist}
use Rattle.sbp_world.proofs.Agents.Purposes.{has_purpose, law}
use Rattle.sbp_world.proofs.Common.{and_first, and_second, equal_numbers, none_is, untrue}
use Rattle.sbp_world.proofs.Completing.LabelsCounts.{count_but}
use Rattle.sbp_world.proofs.Hosts.Cores.{not_so}
use Rattle.sbp_world.proofs.Lists.DataGots.{both_true}
use Rattle.sbp_world.proofs.Wire.Latest.{differ_by}

-- ---- a place below a number that a test finds, or none
data Found (n : ℕ) (test : ℕ → Bool) : Type 0 where
  found : (k : ℕ) → k < n → test k ≡ true → Found n test
  none : ((k : ℕ) → k < n → test k ≡ false) → Found n test

finds : (n : ℕ) (test : ℕ → Bool) → Found n test
finds zero test = none (λ k b. absurd (omega (arith, b)))
finds (suc n) test = by (test n) refl (finds n test)
  where
    last : (k : ℕ) → test n ≡ false → ((j : ℕ) → j < n → test j ≡ false) → k < suc n → (b : Bool) → nat_eq k n ≡ b → test k ≡ false
    last k e all l true is = ap test (equal_numbers k n is) ∙ e
    last k e all l false is = all k (grind (arith, nat_tests))

    by : (b : Bool) → test n ≡ b → Found n test → Found (suc n) test
    by true e rest = found n (omega arith) e
    by false e (found k b f) = found k (omega (arith, b)) f
    by false e (none all) = none (λ k l. last k e all l (nat_eq k n) refl)

-- ---- an agent that waits is out of RESET
up_state : (state : AgentState) → is_reset state ≡ true → state ≢ agents.Active
up_state agents.Reset e f = cc
up_state agents.Active e f = cc
up_state agents.Suspended e f = cc
up_state agents.Dead e f = cc

not_last : (phase : Phase) → is_reset (state_in phase) ≡ true → phase ≢ phases.WritingLastStatus
not_last phase e f = untrue (ap (λ p. is_reset (state_in p)) (sym f) ∙ e)

up_or : (b : Bool) → (b ≡ true → ⊥) → not b ≡ true
up_or true h = absurd (h refl)
up_or false h = refl

abbrev is_active : AgentState → Bool
is_active agents.Active = true
is_active _ = false

active_is : (state : AgentState) → is_active state ≡ true → state ≡ agents.Active
active_is agents.Active e = refl
active_is _ e = untrue e

-- a transaction that a desk keeps is its agent's, to the node of the login
module _ (node : NodeState) (place : ℕ) (A : AgentLaw node place) where
  abbrev phase_at : Phase
  phase_at = (desk_at node place).agent.phase

  had : (sent : Sent) → (desk_at node place).main ≡ Some sent → HasMain node place → IsOwn node place sent
  had sent e m = subst (IsOwn node place) (same_Some m.sent sent (sym m.kept ∙ e)) m.own

  main_own : (sent : Sent) → (desk_at node place).main ≡ Some sent → IsOwn node place sent
  main_own sent e = by (is_active (state_in phase_at)) refl (is_last phase_at) refl
    where
      by : (a : Bool) → is_active (state_in phase_at) ≡ a → (l : Bool) → is_last phase_at ≡ l → IsOwn node place sent
      by true f l g = had sent e (A.active (active_is (state_in phase_at) f))
      by false f true g = had sent e (A.last (last_is phase_at g))
      by false f false g = none_is sent (sym (A.others (λ z. untrue (sym f ∙ ap is_active z)) (λ z. untrue (sym g ∙ ap is_last z))) ∙ e)

  abbrev pub Waits : (peer number : ℕ) → Type 0
  Waits peer number = IsThat (desk_at node place).main peer number ⊎ IsThat (desk_at node place).ahead peer number

  waits_up : (peer number : ℕ) → Waits peer number → not (is_reset (state_in phase_at)) ≡ true
  waits_up peer number that = up_or (is_reset (state_in phase_at)) (λ e. down e that)
    where
      down : is_reset (state_in phase_at) ≡ true → Waits peer number → ⊥
      down e (inl one) = none_is one.sent (sym (A.others (up_state (state_in phase_at) e) (not_last phase_at e)) ∙ one.is)
      down e (inr one) = none_is one.sent (sym (A.alone (up_state (state_in phase_at) e)) ∙ one.is)

  -- to the node of its login
  pub record IsTo (peer : ℕ) : Type 0 where
    pub login : Login
    pub stands : login_at node place ≡ Some login
    pub to : peer ≡ login.node

  pub waits_to : (peer number : ℕ) → Waits peer number → IsTo peer
  waits_to peer number (inl one) = let o = main_own one.sent one.is in record { login = o.login; stands = o.stands; to = sym one.peer_is ∙ o.to }
  waits_to peer number (inr one) = let o = A.ahead one.sent one.is in record { login = o.login; stands = o.stands; to = sym one.peer_is ∙ o.to }

abbrev number_of : Option Sent → ℕ
number_of None = 64
number_of (Some sent) = sent.label.number

number_is : (kept : Option Sent) (peer number : ℕ) → IsThat kept peer number → number ≡ number_of kept
number_is kept peer number that = sym that.number_is ∙ ap number_of (sym that.is)

-- ---- at a place
pub record IsKnown (start : List Disk) (now : List Moment) (w : WorldState) : Type 0 where
  pub purposed : ArePurposedAt start now w
  pub opened : AreOpened now w
  pub held : AreHeldAt start now w
  pub apart : AreApart now w

module _ (units ready : ℕ) (has : 0 < units) (start : List Disk) {past : List Moment} {lines : ℕ} (w : WorldState) (h : Holding units ready start past lines w) where
  abbrev now : List Moment
  now = hist past w

  abbrev t : Terms
  t = terms now

  abbrev T : Target
  T = over (target_at start now)

  abbrev L : TransactionLaw w.target
  L = law units ready has start w h

  abbrev ids : ℕ → ℕ
  ids = t.ids (t.generation 0)

  module _ (k : IsKnown start now w) (tame : IsTame now) (i : ℕ) where
    abbrev id : ℕ
    id = ids (suc i)

    -- ---- an agent's label
    abbrev Own : (place number : ℕ) → Type 0
    Own place number = IsThat (desk_at w.target place).main id number ⊎ IsThat (desk_at w.target place).ahead id number

    -- the agent that waits for a transaction to the initiator is at a place of it
    up_there : (place : ℕ) → place < 8 → (number : ℕ) → Own place number → IsUp w i place
    up_there place b number that =
        let A = L.agents_have place b in
        let up = waits_up w.target place A id number that in
        let to = waits_to w.target place A id number that in
        let o = k.opened place b (not_so (is_reset (state_in (machine_at w place).phase)) up) in
        let there = k.held.held place to.login to.stands in
        let same : o.login ≡ to.login = same_Some o.login to.login (sym o.is ∙ to.stands) in
        let live = there.live (ap is_live (sym same) ∙ o.live) in
        let both : there.holder.initiator + 1 ≡ suc i = same_id w h.sound.stands (there.holder.initiator + 1) (suc i) (live.of.node_is ∙ sym to.to) in
        let is : there.holder.initiator ≡ i = omega (arith, both) in
        record { up = up; own = ap (λ (x : Holder). x.initiator) (ap or_nobody there.there) ∙ is }

    -- the place whose agent is out of RESET, if there is one
    abbrev is_up_at : ℕ → Bool
    is_up_at place = not (is_reset (state_in (machine_at w place).phase)) && nat_eq (initiator_in w place) i

    up_at : (place : ℕ) → IsUp w i place → is_up_at place ≡ true
    up_at place u = both_true (not (is_reset (state_in (machine_at w place).phase))) (nat_eq (initiator_in w place) i) u.up (let z = u.own in grind (arith, nat_tests))

    at_up : (place : ℕ) → is_up_at place ≡ true → IsUp w i place
    at_up place e =
        let a = not (is_reset (state_in (machine_at w place).phase)) in
        let b = nat_eq (initiator_in w place) i in
        record { up = and_first a b e; own = equal_numbers (initiator_in w place) i (and_second a b e) }

    -- its two labels
    record Agents : Type 0 where
      main : ℕ
      ahead : ℕ
      own : (place : ℕ) → place < 8 → (number : ℕ) → Own place number → (number ≡ main) ⊎ (number ≡ ahead)

    agents_by : Found 8 is_up_at → Agents
    agents_by (found p b e) = record { main = number_of (desk_at w.target p).main; ahead = number_of (desk_at w.target p).ahead; own = λ place l number that. by (k.apart i p place (tame i) b l (at_up p e) (up_there place l number that)) that }
      where
        by : {place number : ℕ} → place ≡ p → Own place number → (number ≡ number_of (desk_at w.target p).main) ⊎ (number ≡ number_of (desk_at w.target p).ahead)
        by {place} {number} same (inl one) = inl (number_is (desk_at w.target place).main id number one ∙ ap (λ q. number_of (desk_at w.target q).main) same)
        by {place} {number} same (inr one) = inr (number_is (desk_at w.target place).ahead id number one ∙ ap (λ q. number_of (desk_at w.target q).ahead) same)
    agents_by (none all) = record { main = 64; ahead = 64; own = λ place l number that. untrue (sym (all place l) ∙ up_at place (up_there place l number that)) }

    agents_two : Agents
    agents_two = agents_by (finds 8 is_up_at)

    -- and the operation's
    record Operation : Type 0 where
      number : ℕ
      own : (other : ℕ) → IsUnderWay w.target.layer (Some purposes.Management) id other → other ≡ number

    operation_by : (source : Option ℕ) → source_in w.target.manager.operation ≡ source → Operation
    operation_by None e = record { number = 64; own = λ other u. absurd (L.none_has e id other u) }
    operation_by (Some source) e = let one = L.operation_has source e in record { number = one.number; own = λ other u. (one.only id other u).1 }

    operation_one : Operation
    operation_one = operation_by (source_in w.target.manager.operation) refl

    -- ---- every label
    abbrev main_number : ℕ
    main_number = agents_two.main

    abbrev ahead_number : ℕ
    ahead_number = agents_two.ahead

    abbrev operation_number : ℕ
    operation_number = operation_one.number

    abbrev at_label : ℕ → Held
    at_label number = t.held (to_peer t 0 (suc i) number)

    -- whoever it is for
    nobodys : (number serial : ℕ) → HasPurpose t w.target (target_at start now).manages (suc i) number serial → ((p : Option Purpose) → IsUnderWay w.target.layer p id number → IsHanded T w.target p id number serial) → nat_eq number main_number ≡ false → nat_eq number ahead_number ≡ false → nat_eq number operation_number ≡ false → is_for_nobody (purpose_of T serial) ≡ true
    nobodys number serial has handed a b c = by has.purpose refl
      where
        of_agent : (place : ℕ) → has.purpose ≡ Some (purposes.Agent place) → is_for_nobody (purpose_of T serial) ≡ true
        of_agent place e = let x = has.agent place e in two (agents_two.own place x.0 number x.1)
          where
            two : (number ≡ main_number) ⊎ (number ≡ ahead_number) → is_for_nobody (purpose_of T serial) ≡ true
            two (inl same) = absurd (differ_by number main_number a same)
            two (inr same) = absurd (differ_by number ahead_number b same)

        by : (p : Option Purpose) → has.purpose ≡ p → is_for_nobody (purpose_of T serial) ≡ true
        by None e = ap is_for_nobody ((handed has.purpose has.under_way).nobody e)
        by (Some purposes.Unsolicited) e = ap is_for_nobody ((handed has.purpose has.under_way).unsolicited e)
        by (Some purposes.Management) e = absurd (differ_by number operation_number c (operation_one.own number (subst (λ p. IsUnderWay w.target.layer p id number) e has.under_way)))
        by (Some (purposes.Agent place)) e = of_agent place e

    label_nobodys : (number : ℕ) (held : Held) → at_label number ≡ held → is_waiting held ≡ true → nat_eq number main_number ≡ false → nat_eq number ahead_number ≡ false → nat_eq number operation_number ≡ false → is_nobodys T held ≡ true
    label_nobodys number free e wait a b c = untrue wait
    label_nobodys number rests e wait a b c = untrue wait
    label_nobodys number (waits kind serial) e wait a b c =
        nobodys number serial (has_purpose units ready has start w h (suc i) number kind serial e)
        (λ p u. k.purposed.all (suc i) number kind serial p e u) a b c

    -- ---- their counts
    abbrev Wait : ℕ → Bool
    Wait number = is_waiting (at_label number)

    abbrev Nobodys : ℕ → Bool
    Nobodys number = is_nobodys T (at_label number)

    abbrev with_operation : ℕ → Bool
    with_operation number = Nobodys number || nat_eq number operation_number

    abbrev with_ahead : ℕ → Bool
    with_ahead number = with_operation number || nat_eq number ahead_number

    pub few_somebodys : under_way now i ≤ 3 + of_nobody start now i
    few_somebodys =
        let one = count_but 64 main_number Wait with_ahead (λ l b e f. or_last (with_operation l) (nat_eq l ahead_number) (λ g. or_last (Nobodys l) (nat_eq l operation_number) (λ m. label_nobodys l (at_label l) refl f e g m))) in
        let two = count_but 64 ahead_number with_ahead with_operation (λ l b e f. or_first (with_operation l) (nat_eq l ahead_number) f e) in
        let three = count_but 64 operation_number with_operation Nobodys (λ l b e f. or_first (Nobodys l) (nat_eq l operation_number) f e) in
        omega (arith, one, two, three)
      where
        or_first : (a b : Bool) → (a || b) ≡ true → b ≡ false → a ≡ true
        or_first true b e f = refl
        or_first false b e f = untrue (sym f ∙ e)

        or_last : (a b : Bool) → (b ≡ false → a ≡ true) → (a || b) ≡ true
        or_last true b h = refl
        or_last false true h = refl
        or_last false false h = h refl
