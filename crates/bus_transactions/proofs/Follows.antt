-- The store and the history follow one list of the store's calls.
use Rattle.std.specs.Prelude.{◌≡◌, ℕ, ◌+◌, ◌-◌, nat_eq, nat_lt, Bool, true, false, cond, List, [], ◌∷◌, Option, Some, None, refl}
use Rattle.std.proofs.Common.{sym, ◌∙◌, ap, subst}
use Rattle.sbp_base.specs.Update.{upd}
use Rattle.packet_store.specs.declared.sent.Sent.{Sent}
use Rattle.packet_store.specs.declared.sent.Kept.{Kept}
use Rattle.packet_store.specs.Kept.{found, is_flying}
use Rattle.packet_store.specs.Stored.{Stored, empty, send_step, deliver_step, lose_step}
use Rattle.packet_store.specs.Calls.{Call, send, deliver, lose, after, MayAll, sends, sent_at, state_at, Unsent, InFlight, Delivered, Lost, Withdrawn, by_request, is_of}
use Rattle.packet_store.specs.Calls as calls
use Rattle.packet_store.specs.Laws.{shown}
use Rattle.packet_store.specs.Transactions as stored
use Rattle.packet_store.proofs.Calls.{serial_law, keeps_law, flight_is}
use Rattle.sbp_journal.specs.Transactions.{Transaction, Sending, begun_by, belongs}
use Rattle.sbp_journal.specs.Wire.{Flight, unsent, in_flight, delivered, lost, withdrawn, withdraw, belongs_to, by_bus_rule}
use Rattle.bus_transactions.specs.Wire.{as_sent}
use Rattle.bus_transactions.specs.Packets.{flight_as, sent_as}
use Rattle.bus_transactions.proofs.PacketParts.{key, key_in, store_begun, store_belongs}

pub record Follows (count : ℕ) (sent : ℕ → Option Sending) (flight : ℕ → Flight) (store : Stored) : Type 0 where
  pub calls : List Call
  pub may : MayAll calls
  pub store_is : store ≡ after calls
  pub count_is : count ≡ sends calls
  pub sent_is : (s : ℕ) → sent_at calls s ≡ sent_as (sent s)
  pub flight_is : (s : ℕ) → state_at calls s ≡ flight_as (flight s)

pub follows_none : Follows 0 (λ s. None) (λ s. unsent) empty
follows_none = record { calls = []; may = tt; store_is = refl; count_is = refl; sent_is = λ s. refl; flight_is = λ s. refl }

sent_by : (b : Bool) (x : Option Sent) (y : Option Sending) (q : Sending) → x ≡ sent_as y → cond b (Some (as_sent q)) x ≡ sent_as (cond b (Some q) y)
sent_by true x y q e = refl
sent_by false x y q e = e

flight_by : (b : Bool) (x : calls.Flight) (y new : Flight) → x ≡ flight_as y → cond b (flight_as new) x ≡ flight_as (cond b new y)
flight_by true x y new e = refl
flight_by false x y new e = e

by_true : (fl : Flight) → by_request true (flight_as fl) ≡ flight_as (withdraw fl)
by_true unsent = refl
by_true in_flight = refl
by_true delivered = refl
by_true lost = refl
by_true withdrawn = refl

by_false : (fl : Flight) → by_request false (flight_as fl) ≡ flight_as fl
by_false unsent = refl
by_false in_flight = refl
by_false delivered = refl
by_false lost = refl
by_false withdrawn = refl

by_test : (b : Bool) (fl : Flight) → by_request b (flight_as fl) ≡ flight_as (cond b (withdraw fl) fl)
by_test true fl = by_true fl
by_test false fl = by_false fl

rule_on : (t : Transaction) (so : Option Sending) (fl : Flight) → by_request (is_of (Some (key t)) (sent_as so)) (flight_as fl) ≡ flight_as (cond (belongs_to t so) (withdraw fl) fl)
rule_on t None fl = by_false fl
rule_on t (Some q) fl = ap (λ b. by_request b (flight_as fl)) (store_belongs t q) ∙ by_test (belongs q t) fl

rule_is : (begun : Option Transaction) (sent : ℕ → Option Sending) (flight : ℕ → Flight) (r : ℕ) → by_request (is_of (key_in begun) (sent_as (sent r))) (flight_as (flight r)) ≡ flight_as (by_bus_rule begun sent flight r)
rule_is None sent flight r = by_false (flight r)
rule_is (Some t) sent flight r = rule_on t (sent r) (flight r)

pub follows_sent : {count : ℕ} {sent : ℕ → Option Sending} {flight : ℕ → Flight} {store : Stored} → Follows count sent flight store → (q : Sending) (s : ℕ) → s ≡ count + 1 → Follows (count + 1) (upd sent s (Some q)) (upd (by_bus_rule (begun_by q) sent flight) s in_flight) (send_step store (as_sent q))
follows_sent {count} {sent} {flight} {store} f q s n =
    let at : s ≡ sends f.calls + 1 = n ∙ ap (λ c. c + 1) f.count_is in
    record {
      calls = send (as_sent q) ∷ f.calls;
      may = f.may;
      store_is = ap (λ st. send_step st (as_sent q)) f.store_is;
      count_is = ap (λ c. c + 1) f.count_is;
      sent_is = λ r.
          subst (λ m. cond (nat_eq r m) (Some (as_sent q)) (sent_at f.calls r) ≡ sent_as (cond (nat_eq r s) (Some q) (sent r))) at
          (sent_by (nat_eq r s) (sent_at f.calls r) (sent r) q (f.sent_is r));
      flight_is = λ r.
          let rule : by_request (is_of (stored.begun_by (as_sent q)) (sent_at f.calls r)) (state_at f.calls r) ≡ flight_as (by_bus_rule (begun_by q) sent flight r) =
          ap (λ b. by_request (is_of b (sent_at f.calls r)) (state_at f.calls r)) (store_begun q)
          ∙ ap (λ so. by_request (is_of (key_in (begun_by q)) so) (state_at f.calls r)) (f.sent_is r)
          ∙ ap (by_request (is_of (key_in (begun_by q)) (sent_as (sent r)))) (f.flight_is r)
          ∙ rule_is (begun_by q) sent flight r in
          subst (λ m. cond (nat_eq r m) InFlight (by_request (is_of (stored.begun_by (as_sent q)) (sent_at f.calls r)) (state_at f.calls r)) ≡ flight_as (cond (nat_eq r s) in_flight (by_bus_rule (begun_by q) sent flight r))) at
          (flight_by (nat_eq r s) _ (by_bus_rule (begun_by q) sent flight r) in_flight rule);
    }

pub follows_delivered : {count : ℕ} {sent : ℕ → Option Sending} {flight : ℕ → Flight} {store : Stored} → Follows count sent flight store → (s : ℕ) → is_flying s store.kept ≡ true → Follows count sent (upd flight s delivered) (deliver_step store s)
follows_delivered {flight = flight} {store = store} f s flies = record {
  calls = deliver s ∷ f.calls;
  may = (subst (λ (st : Stored). is_flying s st.kept ≡ true) f.store_is flies, f.may);
  store_is = ap (λ st. deliver_step st s) f.store_is;
  count_is = f.count_is;
  sent_is = f.sent_is;
  flight_is = λ r. flight_by (nat_eq r s) (state_at f.calls r) (flight r) delivered (f.flight_is r);
}

pub follows_lost : {count : ℕ} {sent : ℕ → Option Sending} {flight : ℕ → Flight} {store : Stored} → Follows count sent flight store → (s : ℕ) → is_flying s store.kept ≡ true → Follows count sent (upd flight s lost) (lose_step store s)
follows_lost {flight = flight} {store = store} f s flies = record {
  calls = lose s ∷ f.calls;
  may = (subst (λ (st : Stored). is_flying s st.kept ≡ true) f.store_is flies, f.may);
  store_is = ap (λ st. lose_step st s) f.store_is;
  count_is = f.count_is;
  sent_is = f.sent_is;
  flight_is = λ r. flight_by (nat_eq r s) (state_at f.calls r) (flight r) lost (f.flight_is r);
}

pub last_is : {count : ℕ} {sent : ℕ → Option Sending} {flight : ℕ → Flight} {store : Stored} → Follows count sent flight store → store.last ≡ count
last_is f = ap (λ (st : Stored). st.last) f.store_is ∙ serial_law f.calls ∙ sym f.count_is

pub kept_is : {count : ℕ} {sent : ℕ → Option Sending} {flight : ℕ → Flight} {store : Stored} → Follows count sent flight store → (s : ℕ) → found s store.kept ≡ shown (count - 1024) s (flight_as (flight s)) (sent_as (sent s))
kept_is {count} {sent} {flight} {store} f s =
    ap (λ (st : Stored). found s st.kept) f.store_is
    ∙ keeps_law f.calls s f.may
    ∙ ap (λ n. shown (n - 1024) s (state_at f.calls s) (sent_at f.calls s)) (sym f.count_is)
    ∙ ap (λ fl. shown (count - 1024) s fl (sent_at f.calls s)) (f.flight_is s)
    ∙ ap (shown (count - 1024) s (flight_as (flight s))) (f.sent_is s)

-- ---- a packet that the store has
abbrev pub is_live : Flight → Bool
is_live in_flight = true
is_live delivered = true
is_live unsent = false
is_live lost = false
is_live withdrawn = false

pub record IsKept (so : Option Sending) (state : Flight) (k : Kept) (s : ℕ) : Type 0 where
  pub packet : Sending
  pub sent : so ≡ Some packet
  pub is : k.sent ≡ as_sent packet
  pub serial : k.serial ≡ s
  pub live : is_live state ≡ true

recent : (a s : ℕ) (q : Sending) (k : Kept) (b : Bool) → cond b (Some (record { serial = s; in_flight = false; sent = as_sent q })) None ≡ Some k → IsKept (Some q) delivered k s
recent a s q k true e = record { packet = q; sent = refl; is = cc; serial = cc; live = refl }
recent a s q k false e = cc

shown_kept : (a s : ℕ) (so : Option Sending) (state : Flight) (k : Kept) → shown a s (flight_as state) (sent_as so) ≡ Some k → IsKept so state k s
shown_kept a s None unsent k e = cc
shown_kept a s None in_flight k e = cc
shown_kept a s None delivered k e = cc
shown_kept a s None lost k e = cc
shown_kept a s None withdrawn k e = cc
shown_kept a s (Some q) unsent k e = cc
shown_kept a s (Some q) in_flight k e = record { packet = q; sent = refl; is = cc; serial = cc; live = refl }
shown_kept a s (Some q) delivered k e = recent a s q k (nat_lt a s) e
shown_kept a s (Some q) lost k e = cc
shown_kept a s (Some q) withdrawn k e = cc

pub found_kept : {count : ℕ} {sent : ℕ → Option Sending} {flight : ℕ → Flight} {store : Stored} → Follows count sent flight store → (s : ℕ) (k : Kept) → found s store.kept ≡ Some k → IsKept (sent s) (flight s) k s
found_kept {count} {sent} {flight} f s k e = shown_kept (count - 1024) s (sent s) (flight s) k (sym (kept_is f s) ∙ e)
