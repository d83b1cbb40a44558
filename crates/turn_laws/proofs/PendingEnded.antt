-- A transaction of the target that ends: the rows of its unsolicited statuses are those from before but for its own, and its label is under way no more.
use Rattle.std.proofs.Common.{◌≡◌, ◌∙◌, refl, sym, ap, subst, ℕ, Bool, true, false, cond, List, Option, Some}
use Rattle.async_packet.specs.Labels.{LabelParts}
use Rattle.label_table.specs.History as wire
use Rattle.label_table.specs.History.{Life, ended, is_same, under_way}
use Rattle.label_table.specs.Layer.{Layer}
use Rattle.label_table.specs.Peers.{purpose_for, state_for}
use Rattle.label_table.specs.declared.place.LabelState.TheVariants as states
use Rattle.label_table.specs.declared.reply.ReplyKind.{ReplyKind}
use Rattle.label_table.proofs.Calls.{after_kept}
use Rattle.sbp_target.specs.Nodes.{NodeState}
use Rattle.sbp_target.specs.declared.purpose.Purpose.{Purpose}
use Rattle.sbp_target.specs.declared.purpose.Purpose.TheVariants as purposes
use Rattle.sbp_target.proofs.Histories.Primitives.{Known}
use Rattle.sbp_target.proofs.Histories.Seats.{Lives, same_self}
use Rattle.sbp_world.proofs.Common.{untrue}
use Rattle.turn_laws.proofs.PendingKept.{Rows}
use Rattle.turn_laws.proofs.StatusAnnounces.{Announced}
use Rattle.turn_laws.proofs.StatusCalls.{ended_if}
use Rattle.turn_laws.proofs.StatusRows.{LiveAt, Lived, Row, life_of, live_at, one_name, row_of, rows_fresh, rows_from, rows_last, rows_new, rows_one}

-- the rows behind a call
pub announced_rows : (old : Lives) (first : List ℕ) (layer : Layer Purpose) (known : Known layer old) (later : NodeState) → Announced old first later → Rows layer later.layer first later.pending
announced_rows old first layer known later a = record {
  stay = λ p number r. rows_last old first layer known later a p number r;
  new = λ p number r. rows_new old first layer known later a p number r;
  one = λ p x y r q. rows_one old first layer known later a p x y r q;
  grows = λ p e. a.grows p e;
  fresh = λ p number r. rows_fresh old first layer known later a p number r;
  from = λ p e. rows_from old first layer known later a p e;
  once = a.once;
}

-- what is under way has not ended
under_if : (b : Bool) (life : Life Purpose) (kind : ReplyKind) (q : Option Purpose) → cond b (ended life) life ≡ under_way kind q → (b ≡ false) × (life ≡ under_way kind q)
under_if false life kind q e = (refl, e)
under_if true life kind q e = absurd (over life e)
  where
    over : (life : Life Purpose) → ended life ≡ under_way kind q → ⊥
    over wire.not_begun f = cc
    over (wire.under_way k r) f = cc
    over wire.over f = cc

module _ (lives now : Lives) (peer : ℕ) (label : LabelParts) (now_is : (p : ℕ) (l : LabelParts) → now p l ≡ cond (is_same peer label p l) (ended (lives p l)) (lives p l)) (layer left : Layer Purpose) (known : Known layer lives) (behind : Known left now) where
  -- a transaction that is under way behind it
  abbrev Under : (p number : ℕ) → ReplyKind → (call : ℕ) → Type 0
  Under p number kind call = LiveAt left now p number kind call

  under : (p number : ℕ) (kind : ReplyKind) (call : ℕ) → state_for left.peers p number ≡ states.UnderWay kind call → Under p number kind call
  under p number kind call e = live_at left now p number kind call behind e

  abbrev Was : (p number : ℕ) (kind : ReplyKind) → LabelParts → Type 0
  Was p number kind l = (is_same peer label p l ≡ false) × (lives p l ≡ under_way kind (purpose_for left.peers p number))

  was : (p number : ℕ) (kind : ReplyKind) (call : ℕ) (u : Under p number kind call) → Was p number kind u.its
  was p number kind call u = under_if (is_same peer label p u.its) (lives p u.its) kind (purpose_for left.peers p number) (sym (now_is p u.its) ∙ u.life)

  pub row_back : (p number : ℕ) → Row left p number → Row layer p number
  row_back p number r =
      let l = life_of left now p number behind r in
      row_of layer lives p number known (record { label = l.label; kind = l.kind; numbered = l.numbered; life = ended_if (is_same peer label p l.label) l.kind (lives p l.label) (sym (now_is p l.label) ∙ l.life) })

  pub row_kept : (p number : ℕ) (kind : ReplyKind) (call : ℕ) → Row layer p number → state_for left.peers p number ≡ states.UnderWay kind call → Row left p number
  row_kept p number kind call r e =
      let u = under p number kind call e in
      let b = was p number kind call u in
      let a = (after_kept 0xffc0 known.steps).agree in
      let its_purpose : purpose_for layer.peers p u.its.number ≡ purpose_for left.peers p number =
      ap (λ (x : Layer Purpose). purpose_for x.peers p u.its.number) (sym known.layer_is) ∙ a.is_for p u.its kind (purpose_for left.peers p number) (sym (known.lives_are p u.its) ∙ b.1) in
      let own : purpose_for left.peers p number ≡ Some purposes.Unsolicited = sym its_purpose ∙ (ap (λ n. purpose_for layer.peers p n) u.numbered ∙ r.is_for) in
      record { kind = kind; serial = call; waits = e; is_for = own }

  -- a row that is not its own stays
  pub row_stays : (p number : ℕ) → ((l : LabelParts) → is_same peer label p l ≡ true → (k : ReplyKind) → lives p l ≡ under_way k (Some purposes.Unsolicited) → ⊥) → Row layer p number → Row left p number
  row_stays p number other r =
      let l = life_of layer lives p number known r in
      row_of left now p number behind (record { label = l.label; kind = l.kind; numbered = l.numbered; life = by l (is_same peer label p l.label) refl })
    where
      by : (l : Lived lives p number) (b : Bool) → is_same peer label p l.label ≡ b → now p l.label ≡ under_way l.kind (Some purposes.Unsolicited)
      by l true e = absurd (other l.label e l.kind l.life)
      by l false e = now_is p l.label ∙ (ap (λ b. cond b (ended (lives p l.label)) (lives p l.label)) e ∙ l.life)

  -- its own label
  pub gone : (kind : ReplyKind) (purpose : Option Purpose) → lives peer label ≡ under_way kind purpose → (k : ReplyKind) (call : ℕ) → state_for left.peers peer label.number ≡ states.UnderWay k call → ⊥
  gone kind purpose life k call e =
      let u = under peer label.number k call e in
      let b = was peer label.number k call u in
      let same : u.its ≡ label = one_name layer lives peer u.its label k kind (purpose_for left.peers peer label.number) purpose known b.1 life u.numbered in
      untrue (sym (subst (λ (l : LabelParts). is_same peer label peer l ≡ false) same b.0) ∙ same_self peer label)
