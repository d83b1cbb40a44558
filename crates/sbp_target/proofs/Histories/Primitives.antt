-- What the steps of a transaction layer make of the lives of its transactions.
use Rattle.std.proofs.Common.{◌≡◌, refl, sym, ap, ◌∙◌, subst, ℕ, nat_lt, is_some, Bool, true, false, cond, List, [], ◌∷◌, Option, Some, None, Result, Ok, Err}
use Rattle.async_packet.specs.Labels.{LabelParts}
use Rattle.async_packet.specs.Packet.{Packet, header_in}
use Rattle.label_table.specs.declared.judgement.Asked.{Asked}
use Rattle.label_table.specs.declared.reply.ReplyKind.{ReplyKind}
use Rattle.label_table.specs.declared.reply.Stale.{Stale}
use Rattle.label_table.specs.Bodies.{Body}
use Rattle.label_table.specs.Requests.{reply_kind, kind_of}
use Rattle.label_table.specs.Layer.{Layer, Finding, of_response, asking_step, disowning_step, judging_step, expiring_step, seeing_step, unlabelled}
use Rattle.label_table.specs.History as wire
use Rattle.label_table.specs.History.{Life, not_begun, under_way, over, is_same, for_nobody, ended, lived, began, closed, expired, disowned, forgotten, told_by_asking, told_by_finding, told_by_expiring, told_closed, and_before, AreTold, IsTold}
use Rattle.label_table.proofs.Calls.{told_law}
use Rattle.sbp_target.specs.declared.purpose.Purpose.{Purpose}
use Rattle.sbp_target.proofs.Histories.Seats.{Lives, IsNot, OffOne, same_self}

-- The lives are what the layer's steps told.
pub record Known (layer : Layer Purpose) (lives : Lives) : Type 0 where
  pub steps : List (wire.Call Purpose)
  pub layer_is : wire.after 0xffc0 steps ≡ layer
  pub lives_are : (peer : ℕ) (label : LabelParts) → lives peer label ≡ wire.life peer label (wire.history 0xffc0 steps)

abbrev pub live_on : wire.Told Purpose → Lives → Lives
live_on note lives = λ peer label. lived note peer label (lives peer label)

-- one step more, of which this is told
told_more : (layer after : Layer Purpose) (lives : Lives) (k : Known layer lives) (step : wire.Call Purpose) (note : wire.Told Purpose) → wire.done step (wire.after 0xffc0 k.steps) ≡ after → wire.told step (wire.after 0xffc0 k.steps) ≡ Some note → Known after (live_on note lives)
told_more layer after lives k step note d t = record {
  steps = step ∷ k.steps;
  layer_is = d;
  lives_are = λ peer label.
      ap (λ (x : Life Purpose). lived note peer label x) (k.lives_are peer label)
      ∙ sym (ap (λ (n : Option (wire.Told Purpose)). wire.life peer label (and_before n (wire.history 0xffc0 k.steps))) t);
}

untold_more : (layer after : Layer Purpose) (lives : Lives) (k : Known layer lives) (step : wire.Call Purpose) → wire.done step (wire.after 0xffc0 k.steps) ≡ after → wire.told step (wire.after 0xffc0 k.steps) ≡ None → Known after lives
untold_more layer after lives k step d t = record {
  steps = step ∷ k.steps;
  layer_is = d;
  lives_are = λ peer label. k.lives_are peer label ∙ sym (ap (λ (n : Option (wire.Told Purpose)). wire.life peer label (and_before n (wire.history 0xffc0 k.steps))) t);
}

-- what is told is so
so : (layer : Layer Purpose) (lives : Lives) (k : Known layer lives) (step : wire.Call Purpose) (note : wire.Told Purpose) → wire.told step (wire.after 0xffc0 k.steps) ≡ Some note → IsTold note (wire.history 0xffc0 k.steps)
so layer lives k step note t =
    let all : AreTold (note ∷ wire.history 0xffc0 k.steps) = subst (λ (n : Option (wire.Told Purpose)). AreTold (and_before n (wire.history 0xffc0 k.steps))) t (told_law Purpose 0xffc0 (step ∷ k.steps)) in
    all.0

-- ---- what a note changes
pub began_off : (peer : ℕ) (label : LabelParts) (kind : ReplyKind) (purpose : Purpose) (lives : Lives) → OffOne peer label lives (live_on (began peer label kind purpose) lives)
began_off peer label kind purpose lives = record { off = λ p l e. ap (λ (b : Bool). cond b (under_way kind (Some purpose)) (lives p l)) e }

pub began_at : (peer : ℕ) (label : LabelParts) (kind : ReplyKind) (purpose : Purpose) (lives : Lives) → live_on (began peer label kind purpose) lives peer label ≡ under_way kind (Some purpose)
began_at peer label kind purpose lives = ap (λ (b : Bool). cond b (under_way kind (Some purpose)) (lives peer label)) (same_self peer label)

pub disowned_off : (peer : ℕ) (label : LabelParts) (lives : Lives) → OffOne peer label lives (live_on (disowned peer label) lives)
disowned_off peer label lives = record { off = λ p l e. ap (λ (b : Bool). cond b (for_nobody (lives p l)) (lives p l)) e }

pub nobody_is : (life : Life Purpose) (purpose : Purpose) → IsNot purpose (for_nobody life)
nobody_is not_begun purpose kind e = cc
nobody_is (under_way k q) purpose kind e = cc
nobody_is over purpose kind e = cc

ended_is : (life : Life Purpose) (purpose : Purpose) → IsNot purpose (ended life)
ended_is not_begun purpose kind e = cc
ended_is (under_way k q) purpose kind e = cc
ended_is over purpose kind e = cc

pub disowned_at : (peer : ℕ) (label : LabelParts) (lives : Lives) (purpose : Purpose) → IsNot purpose (live_on (disowned peer label) lives peer label)
disowned_at peer label lives purpose kind e =
    nobody_is (lives peer label) purpose kind (sym (ap (λ (b : Bool). cond b (for_nobody (lives peer label)) (lives peer label)) (same_self peer label)) ∙ e)

pub closed_off : (peer : ℕ) (label : LabelParts) (kind : ReplyKind) (purpose : Option Purpose) (lives : Lives) → OffOne peer label lives (live_on (closed peer label kind purpose) lives)
closed_off peer label kind purpose lives = record { off = λ p l e. ap (λ (b : Bool). cond b (ended (lives p l)) (lives p l)) e }

pub closed_at : (peer : ℕ) (label : LabelParts) (kind : ReplyKind) (purpose : Option Purpose) (lives : Lives) (q : Purpose) → IsNot q (live_on (closed peer label kind purpose) lives peer label)
closed_at peer label kind purpose lives q k e =
    ended_is (lives peer label) q k (sym (ap (λ (b : Bool). cond b (ended (lives peer label)) (lives peer label)) (same_self peer label)) ∙ e)

pub expired_off : (peer : ℕ) (label : LabelParts) (purpose : Option Purpose) (lives : Lives) → OffOne peer label lives (live_on (expired peer label purpose) lives)
expired_off peer label purpose lives = record { off = λ p l e. ap (λ (b : Bool). cond b (ended (lives p l)) (lives p l)) e }

pub expired_at : (peer : ℕ) (label : LabelParts) (purpose : Option Purpose) (lives : Lives) (q : Purpose) → IsNot q (live_on (expired peer label purpose) lives peer label)
expired_at peer label purpose lives q k e =
    ended_is (lives peer label) q k (sym (ap (λ (b : Bool). cond b (ended (lives peer label)) (lives peer label)) (same_self peer label)) ∙ e)

pub forgotten_at : (lives : Lives) (p : ℕ) (l : LabelParts) (q : Purpose) → IsNot q (live_on forgotten lives p l)
forgotten_at lives p l q k e = ended_is (lives p l) q k e

-- ---- asking
pub record Begun (layer after : Layer Purpose) (peer : ℕ) (asked : Asked) (purpose : Purpose) (lives : Lives) : Type 0 where
  pub kind : ReplyKind
  pub known : Known after (live_on (began peer asked.label kind purpose) lives)
  pub fresh : lives peer asked.label ≡ not_begun

pub asks_known : (layer after : Layer Purpose) (lives : Lives) (peer : ℕ) (body : Body) (purpose : Purpose) (asked : Asked) → Known layer lives → asking_step layer peer body purpose ≡ (Some asked, after) → Begun layer after peer asked purpose lives
asks_known layer after lives peer body purpose asked k e =
    let step = wire.asks peer body purpose in
    let now = wire.after 0xffc0 k.steps in
    let kind = kind_of (unlabelled now peer body) in
    let f : asking_step now peer body purpose ≡ (Some asked, after) = ap (λ (l : Layer Purpose). asking_step l peer body purpose) k.layer_is ∙ e in
    let t : wire.told step now ≡ Some (began peer asked.label kind purpose) = ap (λ (r : Option Asked × Layer Purpose). told_by_asking peer kind purpose r.0) f in
    record {
      kind = kind;
      known = told_more layer after lives k step (began peer asked.label kind purpose) (ap (λ (r : Option Asked × Layer Purpose). r.1) f) t;
      fresh = k.lives_are peer asked.label ∙ (so layer lives k step (began peer asked.label kind purpose) t).0;
    }

pub none_known : (layer after : Layer Purpose) (lives : Lives) (peer : ℕ) (body : Body) (purpose : Purpose) → Known layer lives → asking_step layer peer body purpose ≡ (None, after) → Known after lives
none_known layer after lives peer body purpose k e =
    let step = wire.asks peer body purpose in
    let now = wire.after 0xffc0 k.steps in
    let f : asking_step now peer body purpose ≡ (None, after) = ap (λ (l : Layer Purpose). asking_step l peer body purpose) k.layer_is ∙ e in
    untold_more layer after lives k step (ap (λ (r : Option Asked × Layer Purpose). r.1) f)
    (ap (λ (r : Option Asked × Layer Purpose). told_by_asking peer (kind_of (unlabelled now peer body)) purpose r.0) f)

-- ---- giving up
pub disowns_known : (layer : Layer Purpose) (lives : Lives) (peer : ℕ) (label : LabelParts) → Known layer lives → Known (disowning_step layer peer label) (live_on (disowned peer label) lives)
disowns_known layer lives peer label k =
    told_more layer (disowning_step layer peer label) lives k (wire.disowns peer label) (disowned peer label) (ap (λ (l : Layer Purpose). disowning_step l peer label) k.layer_is) refl

-- ---- closing
pub record Closing (layer after : Layer Purpose) (p : Packet) (label : LabelParts) (purpose : Option Purpose) (lives : Lives) : Type 0 where
  pub kind : ReplyKind
  pub known : Known after (live_on (closed (header_in p).source label kind purpose) lives)
  pub life : lives (header_in p).source label ≡ under_way kind purpose

closing_with : (layer after : Layer Purpose) (lives : Lives) (generation : ℕ) (bytes : List ℕ) (p : Packet) (label : LabelParts) (purpose : Option Purpose) (kind : Option ReplyKind) → (k : Known layer lives) → judging_step layer generation bytes ≡ (of_response p label purpose, after) → reply_kind p ≡ kind → is_some kind ≡ true → Closing layer after p label purpose lives
closing_with layer after lives generation bytes p label purpose None k e r s = absurd (untrue s)
  where
    untrue : false ≡ true → ⊥
    untrue x = cc
closing_with layer after lives generation bytes p label purpose (Some kind) k e r s =
    let step = wire.judges generation bytes in
    let now = wire.after 0xffc0 k.steps in
    let f : judging_step now generation bytes ≡ (of_response p label purpose, after) = ap (λ (l : Layer Purpose). judging_step l generation bytes) k.layer_is ∙ e in
    let t : wire.told step now ≡ Some (closed (header_in p).source label kind purpose) =
    ap (λ (x : Finding Purpose × Layer Purpose). told_by_finding x.0 bytes) f ∙ ap (λ (x : Option ReplyKind). told_closed p label purpose x) r in
    record {
      kind = kind;
      known = told_more layer after lives k step (closed (header_in p).source label kind purpose) (ap (λ (x : Finding Purpose × Layer Purpose). x.1) f) t;
      life = k.lives_are (header_in p).source label ∙ so layer lives k step (closed (header_in p).source label kind purpose) t;
    }

pub closing_known : (layer after : Layer Purpose) (lives : Lives) (generation : ℕ) (bytes : List ℕ) (p : Packet) (label : LabelParts) (purpose : Option Purpose) → (k : Known layer lives) → judging_step layer generation bytes ≡ (of_response p label purpose, after) → is_some (reply_kind p) ≡ true → Closing layer after p label purpose lives
closing_known layer after lives generation bytes p label purpose k e s = closing_with layer after lives generation bytes p label purpose (reply_kind p) k e refl s

-- ---- a time-out
pub record Expiring (after : Layer Purpose) (peer : ℕ) (label : LabelParts) (purpose : Option Purpose) (lives : Lives) : Type 0 where
  pub kind : ReplyKind
  pub known : Known after (live_on (expired peer label purpose) lives)
  pub life : lives peer label ≡ under_way kind purpose

is_for : (life : Life Purpose) (purpose : Option Purpose) → wire.IsFor purpose life → (kind : ReplyKind) × (life ≡ under_way kind purpose)
is_for not_begun purpose i = absurd i
is_for (under_way kind q) purpose i = (kind, ap (λ (x : Option Purpose). under_way kind x) i)
is_for over purpose i = absurd i

pub expiring_known : (layer after : Layer Purpose) (lives : Lives) (peer : ℕ) (label : LabelParts) (purpose : Option Purpose) → (k : Known layer lives) → expiring_step layer peer label ≡ (Ok purpose, after) → Expiring after peer label purpose lives
expiring_known layer after lives peer label purpose k e =
    let step = wire.lets_expire peer label in
    let now = wire.after 0xffc0 k.steps in
    let f : expiring_step now peer label ≡ (Ok purpose, after) = ap (λ (l : Layer Purpose). expiring_step l peer label) k.layer_is ∙ e in
    let t : wire.told step now ≡ Some (expired peer label purpose) = ap (λ (x : Result (Option Purpose) Stale × Layer Purpose). told_by_expiring peer label x.0) f in
    let i = is_for (wire.life peer label (wire.history 0xffc0 k.steps)) purpose (so layer lives k step (expired peer label purpose) t) in
    record {
      kind = i.0;
      known = told_more layer after lives k step (expired peer label purpose) (ap (λ (x : Result (Option Purpose) Stale × Layer Purpose). x.1) f) t;
      life = k.lives_are peer label ∙ i.1;
    }

-- one that is stale leaves the lives
pub stale_known : (layer after : Layer Purpose) (lives : Lives) (peer : ℕ) (label : LabelParts) (stale : Stale) → (k : Known layer lives) → expiring_step layer peer label ≡ (Err stale, after) → Known after lives
stale_known layer after lives peer label stale k e =
    let step = wire.lets_expire peer label in
    let now = wire.after 0xffc0 k.steps in
    let f : expiring_step now peer label ≡ (Err stale, after) = ap (λ (l : Layer Purpose). expiring_step l peer label) k.layer_is ∙ e in
    let t : wire.told step now ≡ Some (wire.was_stale peer label) = ap (λ (x : Result (Option Purpose) Stale × Layer Purpose). told_by_expiring peer label x.0) f in
    let m = told_more layer after lives k step (wire.was_stale peer label) (ap (λ (x : Result (Option Purpose) Stale × Layer Purpose). x.1) f) t in
    record { steps = m.steps; layer_is = m.layer_is; lives_are = m.lives_are }

-- ---- a sight of a later generation
pub seeing_known : (layer : Layer Purpose) (lives : Lives) (generation id : ℕ) → (k : Known layer lives) → nat_lt layer.generation generation ≡ true → Known (seeing_step layer generation id).1 (live_on forgotten lives)
seeing_known layer lives generation id k e =
    let step = wire.sees generation id in
    let now = wire.after 0xffc0 k.steps in
    told_more layer (seeing_step layer generation id).1 lives k step forgotten (ap (λ (l : Layer Purpose). (seeing_step l generation id).1) k.layer_is)
    (ap (λ (l : Layer Purpose). cond (nat_lt l.generation generation) (Some forgotten) None) k.layer_is ∙ ap (λ (b : Bool). cond b (Some forgotten) None) e)

pub new_known : Known (wire.after 0xffc0 []) (λ peer label. not_begun)
new_known = record { steps = []; layer_is = refl; lives_are = λ peer label. refl }
