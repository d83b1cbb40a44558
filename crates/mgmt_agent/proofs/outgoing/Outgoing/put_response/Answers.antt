use Rattle.std.proofs.Common.{◌≡◌, ◌∙◌, ap, sym, arith, ℕ, ◌≤◌, List, length, take, min}
use Rattle.std.proofs.lemmas.List.{take-take, take_min, length-take}
use Rattle.mgmt_agent.proofs.outgoing.Outgoing.put_response.Goals as goal

-- A front of a front is what the lesser of the two lengths gives.
cut_twice : (room bytes : List ℕ) (whole allowed : ℕ) → whole ≤ length room → take whole room ≡ bytes → take (min whole allowed) room ≡ take allowed bytes
cut_twice room bytes whole allowed h e =
    let size : min whole allowed ≡ min allowed (length (take whole room)) = omega (arith, length-take whole room) in
    sym (take-take (min whole allowed) whole room (omega arith))
    ∙ ap (λ (n : ℕ). take n (take whole room)) size
    ∙ take_min allowed (take whole room)
    ∙ ap (λ (l : List ℕ). take allowed l) e

pub returns : goal.returns
returns c =
    let least : c.min-self-inside.result ≡ min c.write_response-whole.result c.args.allowed = grind arith in
    ap (λ (n : ℕ). take n c.write_response-whole.new.room) least
    ∙ cut_twice c.write_response-whole.new.room _ c.write_response-whole.result c.args.allowed (omega arith) c.write_response-whole.ensures.written
