-- A turn of the target keeps it, for which list an agent is out of RESET, where what the target tells in it leaves no agent so.
use Rattle.sbp_world.proofs.Words.Std.{arith, ◌≡◌, ◌⊎◌, inl, inr, ◌∙◌, refl, sym, ap, subst, ◌<◌, ◌≤◌, ℕ, suc, nat_lt, Bool, true, false, Option, Some, nat_tests, false≢true, same_Some}
use Rattle.sbp_world.proofs.Words.Wire.{Sending, Operation}
use Rattle.sbp_world.proofs.Words.Initiator.{start}
use Rattle.sbp_world.proofs.Words.Laws.{cuts_list, running_operation, Underway, is_management}
use Rattle.sbp_world.proofs.Words.World.{holder, WorldState, AreOpenFor, as_got, IsDoneBlock, IsOpenFor, IsServedReset, IsToldDone, IsToldReset, IsUp, View, IsPointedBy}
use Rattle.bus_memory.specs.declared.window.Window.TheVariants as windows
use Rattle.sbp_journal.specs.declared.operation.Operation.TheVariants as operations
use Rattle.sbp_world.proofs.Lists.OpenedHosts.{IsSame}

abbrev pub NoneUp : WorldState → ℕ → Type 0
NoneUp w i = (place : ℕ) → place < 8 → IsUp w i place → ⊥

-- ---- a history goes on
pub record Grown (x y : View) : Type 0 where
  pub count : x.count ≤ y.count
  pub sent : (s : ℕ) → s ≤ x.count → y.sent s ≡ x.sent s
  pub answers : (s : ℕ) → s ≤ x.count → y.answers s ≡ x.answers s
  pub pointed : (s : ℕ) → s ≤ x.count → y.pointed s ≡ x.pointed s
  pub told : (s : ℕ) → s ≤ x.count → y.told s ≡ x.told s
  pub answered : (reply s : ℕ) → x.answers reply ≡ Some s → s ≤ x.count
  pub news : (s : ℕ) → x.news s ≤ y.news s
  pub below : (s : ℕ) (packet : Sending) → x.sent s ≡ Some packet → s ≤ x.count
  pub unserved : (s : ℕ) → x.count < s → x.served s ≡ 0
  pub target : x.target ≤ y.target
  pub own : x.own ≤ y.own
  pub operation : (underway : Underway) → y.operation ≡ Some underway → IsSame x.operation underway ⊎ (x.count < underway.first)
  pub named : (s address : ℕ) → 0 < x.news s → y.named s address ≡ x.named s address

-- ---- what is known at a moment
-- the list that a write waits for is the present one, and nothing that ends it is under way
pub record IsWaiting (x : View) (n : ℕ) : Type 0 where
  pub present : x.present ≡ Some n
  pub uncut : cuts_list (running_operation x.operation) ≡ false

pub record IsFirst (x : View) (serial : ℕ) : Type 0 where
  pub list : ℕ
  pub pointed : x.pointed serial ≡ Some list

pub record Known (x : View) (w : WorldState) (i : ℕ) : Type 0 where
  pub first : (serial : ℕ) (packet : Sending) (place address : ℕ) → x.sent serial ≡ Some packet → IsPointedBy packet i place address → IsFirst x serial
  pub waits : (n serial : ℕ) (packet : Sending) → x.pointed serial ≡ Some n → x.sent serial ≡ Some packet → packet.generation ≡ x.own → x.news serial ≡ 0 → IsWaiting x n
  pub begun : (serial n : ℕ) (packet : Sending) → x.sent serial ≡ Some packet → x.pointed serial ≡ Some n → packet.generation ≡ x.target → x.news serial ≡ 0 → suc n ≡ x.begun
  pub caught : (place : ℕ) → place < 8 → IsUp w i place → x.target ≤ x.own
  pub judged : (read n serial : ℕ) → x.told read ≡ Some n → x.pointed serial ≡ Some n → 0 < x.news serial

-- ---- a turn of the target
-- an agent was out of RESET before, and its place had the same list
pub record WasUp (w v : WorldState) (i place : ℕ) : Type 0 where
  pub was : IsUp w i place
  pub list : (holder v place).list ≡ (holder w place).list

-- it takes a pointer
pub record Opens (x y : View) (i place : ℕ) (held : Option ℕ) : Type 0 where
  pub serial : ℕ
  pub packet : Sending
  pub sent : x.sent serial ≡ Some packet
  pub current : packet.generation ≡ x.target
  pub fresh : x.news serial ≡ 0
  pub got : 0 < y.news serial
  pub address : ℕ
  pub at : IsPointedBy packet i place address
  pub named : y.named serial address ≡ as_got (Some packet) held

-- what it tells leaves no agent out of RESET
pub record IsNews (x y : View) (v : WorldState) (i : ℕ) : Type 0 where
  pub resets : (r : IsServedReset y) → x.served r.underway.first ≡ 0 → NoneUp v i
  pub states : (n : ℕ) → y.present ≡ Some n → (r : IsToldReset y n) → x.count < r.reply → NoneUp v i
  pub cuts : (r : IsToldDone y i) → x.count < r.serial → NoneUp v i

-- but for what the management tells
pub record IsTelling (x y : View) (v : WorldState) (i : ℕ) : Type 0 where
  pub resets : (r : IsServedReset y) → x.served r.underway.first ≡ 0 → NoneUp v i
  pub states : (n : ℕ) → y.present ≡ Some n → (r : IsToldReset y n) → x.count < r.reply → NoneUp v i

pub record IsTurn (x y : View) (w v : WorldState) (i : ℕ) : Type 0 where
  pub own : y.own ≡ x.own
  pub present : y.present ≡ x.present
  pub begun : y.begun ≡ x.begun
  pub operation : (underway : Underway) → y.operation ≡ Some underway → IsSame x.operation underway
  pub rises : x.target < y.target → NoneUp v i
  pub opens : (place : ℕ) → place < 8 → IsUp v i place → WasUp w v i place ⊎ Opens x y i place (holder v place).list
  pub news : IsNews x y v i

module _ (x y : View) (w v : WorldState) (i : ℕ) (grown : Grown x y) (k : Known x w i) (o : AreOpenFor x w i) (t : IsTurn x y w v i) where
  -- the target is where it was, where an agent is up
  still : (place : ℕ) → place < 8 → IsUp v i place → y.target ≡ x.target
  still place b u = by (nat_lt x.target y.target) refl
    where
      by : (c : Bool) → nat_lt x.target y.target ≡ c → y.target ≡ x.target
      by true e = absurd (t.rises (grind (arith, nat_tests)) place b u)
      by false e = let g = grown.target in grind (arith, nat_tests)

  of_old : (place : ℕ) → place < 8 → IsUp v i place → WasUp w v i place → IsOpenFor y i place (holder v place).list
  of_old place b u s =
      let f = o.each place b s.was in
      let l = grown.below f.serial f.packet f.sent in
      record {
        list = f.list;
        serial = f.serial;
        packet = f.packet;
        sent = grown.sent f.serial l ∙ f.sent;
        got = (let n = grown.news f.serial in let g = f.got in omega (arith, n, g));
        pointed = grown.pointed f.serial l ∙ f.pointed;
        address = f.address;
        at = f.at;
        named = grown.named f.serial f.address f.got ∙ (f.named ∙ ap (as_got (Some f.packet)) (sym s.list));
        present = λ e. t.present ∙ f.present (sym (still place b u) ∙ e ∙ t.own);
        ahead = λ e. f.ahead (let a = still place b u in let c = t.own in omega (arith, a, c, e)) ∙ sym t.begun;
      }

  -- the write of a pointer that is taken now waited
  module _ (place : ℕ) (b : place < 8) (u : IsUp v i place) (n : Opens x y i place (holder v place).list) where
    for_list : IsFirst x n.serial
    for_list = k.first n.serial n.packet place n.address n.sent n.at

    waited : x.target ≡ x.own → IsWaiting x for_list.list
    waited same = k.waits for_list.list n.serial n.packet for_list.pointed n.sent (n.current ∙ same) n.fresh

    of_new : IsOpenFor y i place (holder v place).list
    of_new =
        let l = grown.below n.serial n.packet n.sent in
        record {
          list = for_list.list;
          serial = n.serial;
          packet = n.packet;
          sent = grown.sent n.serial l ∙ n.sent;
          got = n.got;
          pointed = grown.pointed n.serial l ∙ for_list.pointed;
          address = n.address;
          at = n.at;
          named = n.named;
          present = λ e. t.present ∙ (waited (sym (still place b u) ∙ e ∙ t.own)).present;
          ahead = λ e. k.begun n.serial for_list.list n.packet n.sent for_list.pointed n.current n.fresh ∙ sym t.begun;
        }

  each : (place : ℕ) → place < 8 → IsUp v i place → IsOpenFor y i place (holder v place).list
  each place b u = by (t.opens place b u)
    where
      by : WasUp w v i place ⊎ Opens x y i place (holder v place).list → IsOpenFor y i place (holder v place).list
      by (inl old) = of_old place b u old
      by (inr new) = of_new place b u new

  -- an operation that ends lists is under way, and so no write waits
  cut_not : (place : ℕ) (b : place < 8) (u : IsUp v i place) (n : Opens x y i place (holder v place).list) → y.target ≡ y.own → cuts_list (running_operation x.operation) ≡ true → ⊥
  cut_not place b u n same cut = false≢true (sym (waited place b u n (sym (still place b u) ∙ same ∙ t.own)).uncut ∙ cut)

  is_cutting : (was : Underway) (operation : Operation) → x.operation ≡ Some was → was.operation ≡ operation → cuts_list (Some operation) ≡ true → cuts_list (running_operation x.operation) ≡ true
  is_cutting was operation e f c = ap (λ (q : Option Underway). cuts_list (running_operation q)) e ∙ (ap (λ (q : Operation). cuts_list (Some q)) f ∙ c)

  -- ---- AGENT_RESET
  module _ (r : IsServedReset y) where
    was : IsSame x.operation r.underway
    was = t.operation r.underway r.is

    served_before : y.target ≡ x.target → 0 < x.served r.underway.first → IsServedReset x
    served_before e l =
        let first : r.underway.first ≤ x.count = by_count (nat_lt x.count r.underway.first) refl in
        record {
          same = sym e ∙ r.same ∙ t.own;
          underway = was.was;
          is = was.is;
          resets = was.operation ∙ r.resets;
          packet = r.packet;
          sent = ap x.sent was.first ∙ (sym (grown.sent r.underway.first first) ∙ r.sent);
          to_target = r.to_target;
          served = subst (λ s. 0 < x.served s) (sym was.first) l;
        }
      where
        by_count : (c : Bool) → nat_lt x.count r.underway.first ≡ c → r.underway.first ≤ x.count
        by_count true f = let z = grown.unserved r.underway.first (grind (arith, nat_tests)) in absurd (omega (arith, z, l))
        by_count false f = grind (arith, nat_tests)

    resets_none : NoneUp v i
    resets_none place b u = by (nat_lt 0 (x.served r.underway.first)) refl
      where
        old : WasUp w v i place ⊎ Opens x y i place (holder v place).list → 0 < x.served r.underway.first → ⊥
        old (inl up) l = o.resets (served_before (still place b u) l) place b up.was
        old (inr n) l = cut_not place b u n r.same (is_cutting was.was operations.AgentReset was.is (was.operation ∙ r.resets) refl)

        by : (c : Bool) → nat_lt 0 (x.served r.underway.first) ≡ c → ⊥
        by true e = old (t.opens place b u) (grind (arith, nat_tests))
        by false e = t.news.resets r (let z : x.served r.underway.first ≤ 0 = grind (arith, nat_tests) in omega (arith, z)) place b u

  -- ---- a read of AGENT_STATE
  module _ (n : ℕ) (is : y.present ≡ Some n) (r : IsToldReset y n) where
    list_before : r.reply ≤ x.count → x.told r.serial ≡ Some n
    list_before l = let b = grown.answered r.reply r.serial (sym (grown.answers r.reply l) ∙ r.answers) in sym (grown.told r.serial b) ∙ r.list

    told_before : y.target ≡ x.target → r.reply ≤ x.count → IsToldReset x n
    told_before e l = record {
      same = sym e ∙ r.same ∙ t.own;
      serial = r.serial;
      list = list_before l;
      reply = r.reply;
      packet = r.packet;
      sent = sym (grown.sent r.reply l) ∙ r.sent;
      from_target = r.from_target;
      answers = sym (grown.answers r.reply l) ∙ r.answers;
      p = r.p;
      spelled = r.spelled;
      reset = r.reset;
    }

    states_none : NoneUp v i
    states_none place b u = by (nat_lt x.count r.reply) refl
      where
        old : WasUp w v i place ⊎ Opens x y i place (holder v place).list → r.reply ≤ x.count → ⊥
        old (inl up) l = o.states n (sym t.present ∙ is) (told_before (still place b u) l) place b up.was
        old (inr new) l =
            let f = for_list place b u new in
            let q = waited place b u new (sym (still place b u) ∙ r.same ∙ t.own) in
            let same : f.list ≡ n = same_Some f.list n (sym q.present ∙ (sym t.present ∙ is)) in
            let j = k.judged r.serial n new.serial (list_before l) (f.pointed ∙ ap Some same) in
            let z = new.fresh in
            omega (arith, j, z)

        by : (c : Bool) → nat_lt x.count r.reply ≡ c → ⊥
        by true e = t.news.states n is r (grind (arith, nat_tests)) place b u
        by false e = old (t.opens place b u) (grind (arith, nat_tests))

  -- ---- a status block of the management
  module _ (r : IsToldDone y i) where
    of : IsSame x.operation r.underway
    of = t.operation r.underway r.is

    cut_is : cuts_list (Some of.was.operation) ≡ true
    cut_is = ap (λ (q : Operation). cuts_list (Some q)) of.operation ∙ r.cuts

    done_before : y.target ≡ x.target → r.serial ≤ x.count → IsToldDone x i
    done_before e l = record {
      same = sym e ∙ r.same ∙ t.own;
      underway = of.was;
      is = of.is;
      manages = ap is_management of.operation ∙ r.manages;
      cuts = cut_is;
      serial = r.serial;
      packet = r.packet;
      sent = sym (grown.sent r.serial l) ∙ r.sent;
      to_own = r.to_own;
      current = r.current ∙ t.own;
      fresh = (let n = grown.news r.serial in let z = r.fresh in omega (arith, n, z));
      done = subst (λ (m : ℕ). IsDoneBlock r.packet (start (windows.Management m))) (sym of.place) r.done;
    }

    cuts_none : NoneUp v i
    cuts_none place b u = by (nat_lt x.count r.serial) refl
      where
        old : WasUp w v i place ⊎ Opens x y i place (holder v place).list → r.serial ≤ x.count → ⊥
        old (inl up) l = o.cuts (done_before (still place b u) l) place b up.was
        old (inr new) l = cut_not place b u new r.same (is_cutting of.was of.was.operation of.is refl cut_is)

        by : (c : Bool) → nat_lt x.count r.serial ≡ c → ⊥
        by true e = t.news.cuts r (grind (arith, nat_tests)) place b u
        by false e = old (t.opens place b u) (grind (arith, nat_tests))

  pub turn_keeps : AreOpenFor y v i
  turn_keeps = record {
    each = each;
    resets = λ r place b u. resets_none r place b u;
    states = λ n is r place b u. states_none n is r place b u;
    cuts = λ r place b u. cuts_none r place b u;
  }

-- where no agent is out of RESET there is nothing to say
pub none_open : (x : View) (w : WorldState) (i : ℕ) → NoneUp w i → AreOpenFor x w i
none_open x w i none = record {
  each = λ place b u. absurd (none place b u);
  resets = λ r. none;
  states = λ n is r. none;
  cuts = λ r. none;
}
