use Rattle.std.specs.Prelude.{IfOk, Result, Ok, Err}
use Rattle.std.proofs.Common.{sym, subst, ◌∙◌, ap}
use Rattle.async_packet.specs.Canon.{IsValid, canon}
use Rattle.label_table.specs.Requests.{IsRequest}
use Rattle.label_table.proofs.Layers.{request_asked}
use Rattle.label_table.proofs.packets.unlabelled.Goals as goal

if_ok : {A E : Type 0} (P Q : A → Type 0) (r : Result A E) → ((x : A) → P x → Q x) → IfOk r P → IfOk r Q
if_ok P Q (Ok x) f p = f x p
if_ok P Q (Err e) f p = tt

pub returns-clause-request : goal.returns-clause-request
returns-clause-request c =
    let asked = request_asked _ _ (subst IsValid c.packet.ensures.packet c.packet.ensures.valid) in
    let spelled = ap canon c.packet.ensures.packet in
    if_ok _ _ _ (λ bytes e. subst IsRequest (sym (e ∙ spelled)) asked) c.canonical.ensures
