-- A request that finds no label leaves the transaction layer as it was.
use Rattle.std.proofs.Common.{◌≡◌, refl, sym, ap, subst, ◌∙◌, ℕ, List, Option, Some, None, Result, Ok, Err}
use Rattle.std.specs.Option.{IfNone}
use Rattle.std.specs.Result.{IfOk}
use Rattle.sbp_base.specs.declared.outside.NoMemory.{NoMemory}
use Rattle.async_packet.specs.Labels.{LabelParts}
use Rattle.label_table.specs.declared.judgement.Asked.{Asked}
use Rattle.label_table.specs.declared.reply.NoLabel.{NoLabel}
use Rattle.label_table.specs.Bodies.{Body}
use Rattle.label_table.specs.Peers.{PeerPlace, ask_place}
use Rattle.label_table.specs.Layer.{Layer, peer_place, peer_at, unlabelled, asked_at, asking_in, asking_step}
use Rattle.sbp_initiator.specs.declared.purpose.Purpose.{Purpose}

placed : (k : ℕ) (layer : Layer Purpose) (r : Result LabelParts NoLabel × (PeerPlace Purpose × List ℕ)) → IfNone (asked_at k layer r).0 ((asked_at k layer r).1 ≡ layer)
placed k layer (Ok label, (place, bytes)) = tt
placed k layer (Err none, (place, bytes)) = refl

peered : (k : Option ℕ) (layer : Layer Purpose) (peer : ℕ) (bytes : List ℕ) (purpose : Purpose) → IfNone (asking_in k layer peer bytes purpose).0 ((asking_in k layer peer bytes purpose).1 ≡ layer)
peered None layer peer bytes purpose = refl
peered (Some k) layer peer bytes purpose = placed k layer (ask_place (peer_at layer k) peer bytes purpose)

pub asking : (layer : Layer Purpose) (peer : ℕ) (body : Body) (purpose : Purpose) → IfNone (asking_step layer peer body purpose).0 ((asking_step layer peer body purpose).1 ≡ layer)
unfolding asking_step
asking layer peer body purpose = peered (peer_place peer layer) layer peer (unlabelled layer peer body) purpose

of_pair : (layer : Layer Purpose) (r : Option Asked × Layer Purpose) → IfNone r.0 (r.1 ≡ layer) → (after : Layer Purpose) → (None, after) ≡ r → after ≡ layer
of_pair layer r h after e =
    let none : r.0 ≡ None = ap (λ (p : Option Asked × Layer Purpose). p.0) (sym e) in
    let left : after ≡ r.1 = ap (λ (p : Option Asked × Layer Purpose). p.1) e in
    left ∙ subst (λ (o : Option Asked). IfNone o (r.1 ≡ layer)) none h

pub none_asked : (layer after : Layer Purpose) (peer : ℕ) (body : Body) (purpose : Purpose) → (None, after) ≡ asking_step layer peer body purpose → after ≡ layer
none_asked layer after peer body purpose e = of_pair layer (asking_step layer peer body purpose) (asking layer peer body purpose) after e

-- the same as a clause of a call
pub refused_clause : (result : Result (Option Asked) NoMemory) (layer after : Layer Purpose) (peer : ℕ) (body : Body) (purpose : Purpose) → IfOk result (λ asked. (asked, after) ≡ asking_step layer peer body purpose) → IfOk result (λ asked. IfNone asked (after ≡ layer))
refused_clause (Ok None) layer after peer body purpose h = none_asked layer after peer body purpose h
refused_clause (Ok (Some asked)) layer after peer body purpose h = tt
refused_clause (Err memory) layer after peer body purpose h = tt
