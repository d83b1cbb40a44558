-- What others than the target do keeps it, for which list an agent is out of RESET, where no list is dropped that such an agent has.
use Rattle.sbp_world.proofs.Words.Std.{arith, ◌≡◌, ◌⊎◌, inl, inr, ◌∙◌, refl, sym, ap, subst, ◌<◌, ◌≤◌, ℕ, suc, nat_eq, nat_lt, Bool, true, false, Some, nat_tests}
use Rattle.sbp_world.proofs.Words.Wire.{Sending, Operation}
use Rattle.sbp_world.proofs.Words.Initiator.{start}
use Rattle.sbp_world.proofs.Words.Laws.{cuts_list, is_management}
use Rattle.sbp_world.proofs.Words.World.{holder, WorldState, AreOpenFor, as_got, IsDoneBlock, IsOpenFor, IsServedReset, IsToldDone, IsToldReset, IsUp, View}
use Rattle.bus_memory.specs.declared.window.Window.TheVariants as windows
use Rattle.sbp_world.proofs.Lists.OpenedHosts.{IsSame}
use Rattle.sbp_world.proofs.Lists.OpenedTurns.{Grown, WasUp}

-- a list of an agent stays the present one, and no list begins
pub record Keeps (x y : View) (n : ℕ) : Type 0 where
  pub present : y.target ≡ y.own → y.present ≡ Some n
  pub begun : y.begun ≡ x.begun

pub record IsAside (x y : View) (w v : WorldState) (i : ℕ) : Type 0 where
  pub target : y.target ≡ x.target
  pub up : (place : ℕ) → IsUp v i place → WasUp w v i place
  pub caught : (place : ℕ) → place < 8 → IsUp w i place → x.target ≤ x.own
  pub latest : (n : ℕ) → x.present ≡ Some n → suc n ≡ x.begun
  -- what was sent to the target is not served, nor what was sent since
  pub served : (s : ℕ) (packet : Sending) → x.sent s ≡ Some packet → packet.to ≡ 0 → y.served s ≡ x.served s
  pub unserved : (s : ℕ) → x.count < s → y.served s ≡ 0
  -- the target sends nothing
  pub replies : (s : ℕ) (packet : Sending) → x.count < s → y.sent s ≡ Some packet → packet.from ≡ 0 → ⊥
  -- nothing was told of an operation that begins
  pub told : (r : IsToldDone y i) → x.count < r.underway.first → ⊥
  pub keeps : (n place : ℕ) → place < 8 → IsUp w i place → (x.target ≡ x.own → x.present ≡ Some n) → Keeps x y n

module _ (x y : View) (w v : WorldState) (i : ℕ) (grown : Grown x y) (o : AreOpenFor x w i) (t : IsAside x y w v i) where
  module _ (place : ℕ) (b : place < 8) (u : IsUp v i place) where
    before : IsUp w i place
    before = (t.up place u).was

    old : IsOpenFor x i place (holder w place).list
    old = o.each place b before

    stays : Keeps x y old.list
    stays = t.keeps old.list place b before old.present

    -- in one generation
    same_before : y.target ≡ y.own → x.target ≡ x.own
    same_before e =
        let a = t.target in
        let c = t.caught place b before in
        let d = grown.own in
        omega (arith, a, c, d, e)

    own_same : y.target ≡ y.own → y.own ≡ x.own
    own_same e = sym e ∙ (t.target ∙ same_before e)

    ahead : y.target < y.own → suc old.list ≡ y.begun
    ahead e = by (nat_eq x.target x.own) refl ∙ sym stays.begun
      where
        by : (c : Bool) → nat_eq x.target x.own ≡ c → suc old.list ≡ x.begun
        by true f = t.latest old.list (old.present (grind (arith, nat_tests)))
        by false f = let c = t.caught place b before in old.ahead (grind (arith, nat_tests))

    is_open : IsOpenFor y i place (holder v place).list
    is_open =
        let l = grown.below old.serial old.packet old.sent in
        record {
          list = old.list;
          serial = old.serial;
          packet = old.packet;
          sent = grown.sent old.serial l ∙ old.sent;
          got = (let n = grown.news old.serial in let g = old.got in omega (arith, n, g));
          pointed = grown.pointed old.serial l ∙ old.pointed;
          address = old.address;
          at = old.at;
          named = grown.named old.serial old.address old.got ∙ (old.named ∙ ap (as_got (Some old.packet)) (sym (t.up place u).list));
          present = stays.present;
          ahead = ahead;
        }

    -- ---- AGENT_RESET
    module _ (r : IsServedReset y) where
      resets_same : IsSame x.operation r.underway → r.underway.first ≤ x.count → ⊥
      resets_same s l =
          let sent : x.sent r.underway.first ≡ Some r.packet = sym (grown.sent r.underway.first l) ∙ r.sent in
          o.resets (record {
            same = same_before r.same;
            underway = s.was;
            is = s.is;
            resets = s.operation ∙ r.resets;
            packet = r.packet;
            sent = ap x.sent s.first ∙ sent;
            to_target = r.to_target;
            served = subst (λ m. 0 < m) (t.served r.underway.first r.packet sent r.to_target ∙ ap x.served (sym s.first)) r.served;
          }) place b before

      resets_not : ⊥
      resets_not = by (nat_lt x.count r.underway.first) refl (grown.operation r.underway r.is)
        where
          late : x.count < r.underway.first → ⊥
          late l = let z = t.unserved r.underway.first l in let s = r.served in omega (arith, z, s)

          by : (c : Bool) → nat_lt x.count r.underway.first ≡ c → IsSame x.operation r.underway ⊎ (x.count < r.underway.first) → ⊥
          by true e s = late (grind (arith, nat_tests))
          by false e (inl s) = resets_same s (grind (arith, nat_tests))
          by false e (inr l) = late l

    -- ---- a read of AGENT_STATE
    module _ (n : ℕ) (is : y.present ≡ Some n) (r : IsToldReset y n) where
      present_before : x.present ≡ Some n
      present_before = old.present (same_before r.same) ∙ (sym (stays.present r.same) ∙ is)

      states_same : r.reply ≤ x.count → ⊥
      states_same l =
          let answers = sym (grown.answers r.reply l) ∙ r.answers in
          o.states n present_before (record {
            same = same_before r.same;
            serial = r.serial;
            list = sym (grown.told r.serial (grown.answered r.reply r.serial answers)) ∙ r.list;
            reply = r.reply;
            packet = r.packet;
            sent = sym (grown.sent r.reply l) ∙ r.sent;
            from_target = r.from_target;
            answers = answers;
            p = r.p;
            spelled = r.spelled;
            reset = r.reset;
          }) place b before

      states_not : ⊥
      states_not = by (nat_lt x.count r.reply) refl
        where
          by : (c : Bool) → nat_lt x.count r.reply ≡ c → ⊥
          by true e = t.replies r.reply r.packet (grind (arith, nat_tests)) r.sent r.from_target
          by false e = states_same (grind (arith, nat_tests))

    -- ---- a status block of the management
    module _ (r : IsToldDone y i) where
      cuts_same : IsSame x.operation r.underway → r.serial ≤ x.count → ⊥
      cuts_same s l =
          o.cuts (record {
            same = same_before r.same;
            underway = s.was;
            is = s.is;
            manages = ap is_management s.operation ∙ r.manages;
            cuts = ap (λ (q : Operation). cuts_list (Some q)) s.operation ∙ r.cuts;
            serial = r.serial;
            packet = r.packet;
            sent = sym (grown.sent r.serial l) ∙ r.sent;
            to_own = r.to_own;
            current = r.current ∙ own_same r.same;
            fresh = (let n = grown.news r.serial in let z = r.fresh in omega (arith, n, z));
            done = subst (λ (m : ℕ). IsDoneBlock r.packet (start (windows.Management m))) (sym s.place) r.done;
          }) place b before

      cuts_not : ⊥
      cuts_not = by (nat_lt x.count r.serial) refl (grown.operation r.underway r.is)
        where
          by : (c : Bool) → nat_lt x.count r.serial ≡ c → IsSame x.operation r.underway ⊎ (x.count < r.underway.first) → ⊥
          by true e s = t.replies r.serial r.packet (grind (arith, nat_tests)) r.sent r.done.from_target
          by false e (inl s) = cuts_same s (grind (arith, nat_tests))
          by false e (inr l) = t.told r l

  pub aside_keeps : AreOpenFor y v i
  aside_keeps = record {
    each = λ place b u. is_open place b u;
    resets = λ r place b u. resets_not place b u r;
    states = λ n is r place b u. states_not place b u n is r;
    cuts = λ r place b u. cuts_not place b u r;
  }
