-- How a world goes on by moves.
use Rattle.std.specs.Prelude.{◌≡◌, ℕ, [], ◌∷◌, Some, refl}
use Rattle.std.proofs.Common.{arith, sym, ap, subst}
use Rattle.packet_store.specs.declared.sent.Sent.{Sent}
use Rattle.packet_store.specs.Kept.{found, found_sent, is_flying}
use Rattle.packet_store.specs.Stored.{Stored}
use Rattle.packet_store.proofs.Calls.{whole_law}
use Rattle.sbp_journal.specs.Transactions.{Kind, Transaction, Sending}
use Rattle.sbp_journal.specs.Wire.{terms, waits}
use Rattle.bus_transactions.specs.Wire.{Wire}
use Rattle.bus_transactions.specs.Moves.{Move, moved}
use Rattle.bus_transactions.specs.May.{May, Always}
use Rattle.bus_transactions.specs.Reached.{Reached, IsAwaited, IsOf, GoesOn}
use Rattle.bus_transactions.proofs.Facts.{awaited}
use Rattle.bus_transactions.proofs.Stands.{Stands}
use Rattle.bus_transactions.proofs.MoveOthers.{settled}
use Rattle.bus_transactions.proofs.All.{all_stand}

-- a law of every list of moves holds of every wire that is reached
pub law_of : (Law : Wire → Type 0) → Always Law → (w : Wire) → Reached w → Law w
law_of Law always w r = subst Law (sym r.is) (always r.moves r.may)

stands : (w : Wire) → Reached w → Stands w
stands w r = subst Stands (sym r.is) (all_stand r.moves r.may)

goes_more : (w : Wire) (move : Move) → Reached w → May move w → Reached (moved move w)
goes_more w move r may = record {
  moves = move ∷ r.moves;
  may = (subst (May move) r.is may, r.may);
  is = ap (moved move) r.is;
}

goes_finds : (w : Wire) (s : ℕ) (q : Sent) → Reached w → found_sent s w.store.kept ≡ Some q → found s w.store.kept ≡ Some (record { serial = s; in_flight = is_flying s w.store.kept; sent = q })
goes_finds w s q r e =
    let f = (stands w r).follows in
    subst (λ (st : Stored). found s st.kept ≡ Some (record { serial = s; in_flight = is_flying s st.kept; sent = q })) (sym f.store_is)
    (whole_law f.calls s q (subst (λ (st : Stored). found_sent s st.kept ≡ Some q) f.store_is e))

goes_packets : (w : Wire) (s : ℕ) (q : Sending) → Reached w → (terms w.past).sent s ≡ Some q → IsOf (terms w.past) q
goes_packets w s q r e =
    let f = (stands w r).facts in
    let h = f.honest s q e in
    record {
      from = h.from_small;
      to = h.to_small;
      past = let p = h.past in let a = f.aged q.from in omega arith;
      source = h.source;
    }

goes_awaited : (w : Wire) (u : Transaction) (kind : Kind) (s : ℕ) → Reached w → (terms w.past).held u ≡ waits kind s → IsAwaited (terms w.past) u kind s
goes_awaited w u kind s r e = awaited (stands w r).facts u kind s e

pub goes_on : GoesOn
goes_on = record {
  begins = record { moves = []; may = tt; is = refl };
  more = goes_more;
  finds = goes_finds;
  apart = λ w g i j r. (stands w r).facts.apart g i j;
  packets = goes_packets;
  awaited = goes_awaited;
  settled = λ w r e. (settled w (stands w r) e).due_is;
}
