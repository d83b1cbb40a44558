use Rattle.std.proofs.Common.{arith, refl, ◌≡◌, ◌∙◌, ap, ◌-◌, ◌*◌, length, take, drop, get_or, List, ◌++◌, ℕ, length-drop, length-take}
use Rattle.orb_layout.specs.Pointers.{quad_bytes}
use Rattle.orb_layout.specs.QueryResponses.{entry_quads}
use Rattle.orb_layout.specs.declared.query.QueryEntry.{QueryEntry}
use Rattle.orb_layout.proofs.Writing.{rest_written, first_apart}
use Rattle.orb_layout.proofs.query.+put_entries.Goals as goal

pub returns-in-len1-up : goal.returns-in-len1-up
returns-in-len1-up t c =
    let size : length (take (length c.args.logins.now - 1) (drop 1 c.args.logins.now)) ≡ length c.args.logins.now - 1 = simp (length-take, length-drop) (omega arith) in
    rest_written c.args.out.now c.put_entry.new.out c.put_entries.new.out (quad_bytes (entry_quads (get_or c.args.logins.now 0 c.first-item.result))) _ 12 _ (12 * length c.args.logins.now)
    refl (c.put_entry.ensures ∙ ap (λ (entry : QueryEntry). quad_bytes (entry_quads entry) ++ drop 12 c.args.out.now) c.first-item.is) c.put_entries.ensures (omega arith) (omega arith)
    ∙ ap (λ (l : List ℕ). l ++ drop (12 * length c.args.logins.now) c.args.out.now) (first_apart (λ entry. quad_bytes (entry_quads entry)) c.args.logins.now c.first-item.result c.in-len1-up.len_at_least)
