use Rattle.std.proofs.Common.{◌≡◌, ◌∙◌, ℕ, ◌<◌, length, get_or, ap, arith, None}
use Rattle.std.proofs.lemmas.List.{get_or_default}
use Rattle.login_table.proofs.Kept.{numbered_at}
use Rattle.login_table.proofs.table.Logins.at.Goals as goal

pub returns-clause-numbered : goal.returns-clause-numbered
returns-clause-numbered c =
    let places = c.self.inside.places in
    let here : c.args.place ≡ c.from.result = omega arith in
    let within : c.args.place < length places = let z = c.self.invariant.sound.size in omega arith in
    numbered_at _ (record { last = c.self.inside.last; places = c.self.inside.places }) c.args.place c.self.invariant (get_or_default places c.args.place None c.index-self-from.result within ∙ ap (λ (i : ℕ). get_or places i c.index-self-from.result) here)
