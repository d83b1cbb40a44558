use Rattle.std.proofs.Common.{◌∙◌, List, sym, ap, Option, Some}
use Rattle.std.specs.Prelude.{is_none, position}
use Rattle.std.proofs.Common.{set}
use Rattle.login_table.specs.declared.login.Login.{Login}
use Rattle.login_table.specs.Requests.{LoginRequest}
use Rattle.login_table.specs.Table.{entered, fresh_id, next_id}
use Rattle.login_table.proofs.Kept.{entered_kept}
use Rattle.login_table.proofs.table.Logins.enter.Goals as goal

pub invariant_of-self-2 : goal.invariant_of-self-2
invariant_of-self-2 c =
    let asked : LoginRequest = record { unit = c.args.unit; node = c.args.node; eui = c.args.eui; fifo = c.args.fifo; hold = c.args.hold; exclusive = c.args.exclusive } in
    let removed = sym c.remove_old-replaced.ensures.places in
    entered_kept (record { last = c.self.inside.last; places = c.self.inside.places }) asked c.in-Some.free c.fresh_id-login.result _ c.self.invariant
    (sym c.is_denied.ensures ∙ c.if-is_denied.false)
    (ap (position is_none) removed ∙ sym c.empty_place.ensures.place ∙ c.in-Some.is)
    (ap (fresh_id 8 (next_id c.self.inside.last)) removed ∙ sym c.fresh_id-login.ensures)
    (ap (λ (p : List (Option Login)). set p c.in-Some.free (Some (entered asked c.in-Some.free c.fresh_id-login.result))) removed ∙ ap (λ (l : Login). set c.remove_old-replaced.new.places c.in-Some.free (Some l)) (sym c.entered.ensures))
