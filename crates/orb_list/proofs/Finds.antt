-- The ORB that is found by its number is the one that waits.
use Rattle.std.proofs.Common.{arith, ◌≡◌, refl, sym, ◌∙◌, ap, ℕ, zero, suc, Bool, true, false, cond, List, [], ◌∷◌, Option, Some, None}
use Rattle.std.proofs.lemmas.Bool.Decides.{nat_tests}
use Rattle.orb_list.specs.declared.list.PresentList.{PresentList}
use Rattle.orb_list.specs.declared.slot.Slot.{Slot}
use Rattle.orb_list.specs.Tickets.{TicketParts}
use Rattle.orb_list.specs.Table.{find_in, has_number, slot_in, waiting}
use Rattle.orb_list.specs.Runs.{Note, run, waits}
use Rattle.orb_list.specs.Finds.{FindLaw}
use Rattle.orb_list.proofs.Tied.{Tied, past_slots, tied_run}
use Rattle.orb_list.proofs.Numbered.{Numbered, numbered_run, within_present}

-- An ORB of this number waits in a slot.
record At (slots : List Slot) (number : ℕ) (t : TicketParts) : Type 0 where
  slot : ℕ
  waits : waiting (slot_in slots slot) ≡ Some t
  named : t.number ≡ number

named_here : (w : Option TicketParts) (number : ℕ) (t : TicketParts) → has_number number w ≡ true → w ≡ Some t → t.number ≡ number
named_here None number t h e = cc
named_here (Some u) number t h e =
    let n : u.number ≡ number = grind (arith, nat_tests) in
    let f : u ≡ t = cc in
    ap (λ (x : TicketParts). x.number) (sym f) ∙ n

found_at : (slot : Slot) (slots : List Slot) (number : ℕ) (t : TicketParts) (b : Bool) → has_number number (waiting slot) ≡ b → (find_in slots number ≡ Some t → At slots number t) → cond b (waiting slot) (find_in slots number) ≡ Some t → At (slot ∷ slots) number t
found_at slot slots number t true h f e = record { slot = 0; waits = e; named = named_here (waiting slot) number t h e }
found_at slot slots number t false h f e = let a = f e in record { slot = suc a.slot; waits = a.waits; named = a.named }

found : (slots : List Slot) (number : ℕ) (t : TicketParts) → find_in slots number ≡ Some t → At slots number t
unfolding find_in
found [] number t e = cc
found (slot ∷ slots) number t e = found_at slot slots number t (has_number number (waiting slot)) refl (found slots number t) e

-- Where an ORB of this number waits, one is found.
has_its_number : (w : Option TicketParts) (t : TicketParts) (number : ℕ) → w ≡ Some t → t.number ≡ number → has_number number w ≡ true
has_its_number None t number e n = cc
has_its_number (Some u) t number e n =
    let f : u ≡ t = cc in
    let k : u.number ≡ number = ap (λ (x : TicketParts). x.number) f ∙ n in
    grind (arith, nat_tests)

first_or : (w rest : Option TicketParts) (number : ℕ) (b : Bool) → has_number number w ≡ b → (u : TicketParts) × (rest ≡ Some u) → (u : TicketParts) × (cond b w rest ≡ Some u)
first_or None rest number true h r = cc
first_or (Some u) rest number true h r = (u, refl)
first_or w rest number false h r = r

some_found : (slots : List Slot) (k : ℕ) (t : TicketParts) (number : ℕ) → waiting (slot_in slots k) ≡ Some t → t.number ≡ number → (u : TicketParts) × (find_in slots number ≡ Some u)
unfolding find_in
some_found [] k t number e n = cc
some_found (slot ∷ slots) zero t number e n =
    (t, ap (λ (b : Bool). cond b (waiting slot) (find_in slots number)) (has_its_number (waiting slot) t number e n) ∙ e)
some_found (slot ∷ slots) (suc k) t number e n =
    first_or (waiting slot) (find_in slots number) number (has_number number (waiting slot)) refl (some_found slots k t number e n)

waits_found : (slots : List Slot) (ns : List Note) (number : ℕ) (t : TicketParts) → Tied slots ns → find_in slots number ≡ Some t → (waits ns t ≡ true) × (t.number ≡ number)
waits_found slots ns number t i e =
    let a = found slots number t e in
    (i.back a.slot t (past_slots slots a.slot t i.size a.waits) a.waits, a.named)

found_waits : (slots : List Slot) (ns : List Note) (present : Option PresentList) (number : ℕ) (t : TicketParts) → Tied slots ns → Numbered present ns → waits ns t ≡ true → t.number ≡ number → find_in slots number ≡ Some t
found_waits slots ns present number t i o w n =
    let f = some_found slots t.slot t number (i.keeps t w) n in
    let g = waits_found slots ns number f.0 i f.1 in
    f.1 ∙ ap (λ (x : TicketParts). Some x) (o.one f.0 t g.0 w (g.1 ∙ sym n))

pub find_law : FindLaw
find_law = record {
  finds = λ calls quads number t.
      let r = run calls quads in
      let i = tied_run calls quads in
      (waits_found r.table.slots r.notes number t i, λ both. found_waits r.table.slots r.notes r.table.present number t i (numbered_run calls quads) both.0 both.1);
  present = λ calls quads t w. within_present (run calls quads).table.present t ((numbered_run calls quads).within t w);
}
