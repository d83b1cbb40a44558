-- The unsolicited statuses that are under way in a layer, by peer and label: in a call that brings no disc they are the same behind it; and where one came, each new one is to a node that
-- joined those that have one.
use Rattle.std.proofs.Common.{◌≡◌, ◌∙◌, refl, sym, ap, subst, inl, inr, ◌⊎◌, ℕ, true, List, Option, Some}
use Rattle.async_packet.specs.Labels.{LabelParts}
use Rattle.label_table.specs.History as wire
use Rattle.label_table.specs.History.{under_way}
use Rattle.label_table.specs.Layer.{Layer}
use Rattle.label_table.specs.Peers.{purpose_for, state_for}
use Rattle.label_table.specs.declared.place.LabelState.TheVariants as states
use Rattle.label_table.specs.declared.reply.ReplyKind.{ReplyKind}
use Rattle.label_table.specs.declared.reply.ReplyKind.TheVariants as kinds
use Rattle.label_table.proofs.Calls.{after_kept}
use Rattle.sbp_target.specs.Histories.Transactions.{IsUnderWay}
use Rattle.sbp_target.specs.Nodes.{NodeState}
use Rattle.sbp_target.specs.Units.{is_pending}
use Rattle.sbp_target.specs.declared.purpose.Purpose.{Purpose}
use Rattle.sbp_target.specs.declared.purpose.Purpose.TheVariants as purposes
use Rattle.sbp_target.proofs.Histories.Primitives.{Known}
use Rattle.sbp_target.proofs.Histories.Seats.{Lives}
use Rattle.sbp_world.proofs.Agents.Management.Awaiting.{under_for}
use Rattle.turn_laws.proofs.StatusAnnounces.{Announced, HasNew, Joined}
use Rattle.sbp_world.proofs.Agents.CrewSeats.{state_of}
use Rattle.sbp_world.proofs.Pointers.Finds.{same_serial}
use Rattle.sbp_world.proofs.Wire.Asks.{label_is}
use Rattle.turn_laws.proofs.StatusStays.{IsLive, IsStatus}

abbrev pub Row : Layer Purpose → ℕ → ℕ → Type 0
Row layer peer number = IsUnderWay layer (Some purposes.Unsolicited) peer number

-- the life of a row
pub record Lived (lives : Lives) (peer number : ℕ) : Type 0 where
  pub label : LabelParts
  pub kind : ReplyKind
  pub numbered : label.number ≡ number
  pub life : IsStatus lives peer label kind

pub life_of : (layer : Layer Purpose) (lives : Lives) (peer number : ℕ) → Known layer lives → Row layer peer number → Lived lives peer number
life_of layer lives peer number k u =
    let a = (after_kept 0xffc0 k.steps).agree in
    let label : LabelParts = record { number = number; generation = (wire.after 0xffc0 k.steps).generation; serial = u.serial } in
    let w = ap (λ (x : Layer Purpose). state_for x.peers peer number) k.layer_is ∙ u.waits in
    let f = ap (λ (x : Layer Purpose). purpose_for x.peers peer number) k.layer_is ∙ u.is_for in
    record {
      label = label;
      kind = u.kind;
      numbered = refl;
      life = k.lives_are peer label ∙ (a.waits peer label u.kind refl w ∙ ap (λ (q : Option Purpose). under_way u.kind q) f);
    }

-- the life of a label that is under way
pub record LiveAt (layer : Layer Purpose) (lives : Lives) (peer number : ℕ) (kind : ReplyKind) (call : ℕ) : Type 0 where
  pub its : LabelParts
  pub numbered : its.number ≡ number
  pub serial : its.serial ≡ call
  pub life : lives peer its ≡ under_way kind (purpose_for layer.peers peer number)

pub live_at : (layer : Layer Purpose) (lives : Lives) (peer number : ℕ) (kind : ReplyKind) (call : ℕ) → Known layer lives → state_for layer.peers peer number ≡ states.UnderWay kind call → LiveAt layer lives peer number kind call
live_at layer lives peer number kind call k e =
    let a = (after_kept 0xffc0 k.steps).agree in
    let its : LabelParts = record { number = number; generation = (wire.after 0xffc0 k.steps).generation; serial = call } in
    let w = ap (λ (x : Layer Purpose). state_for x.peers peer number) k.layer_is ∙ e in
    record {
      its = its;
      numbered = refl;
      serial = refl;
      life = k.lives_are peer its ∙ (a.waits peer its kind refl w ∙ ap (λ (x : Layer Purpose). under_way kind (purpose_for x.peers peer number)) k.layer_is);
    }

-- two names of what is under way under one label of a node are one
pub one_name : (layer : Layer Purpose) (lives : Lives) (peer : ℕ) (a b : LabelParts) (kind other : ReplyKind) (one two : Option Purpose) → Known layer lives → lives peer a ≡ under_way kind one → lives peer b ≡ under_way other two → a.number ≡ b.number → a ≡ b
one_name layer lives peer a b kind other one two k e f same =
    let n = (after_kept 0xffc0 k.steps).agree in
    let s = state_of layer lives peer a kind one k e in
    let t = state_of layer lives peer b other two k f in
    let serial_is : a.serial ≡ b.serial = same_serial kind other a.serial b.serial (sym s ∙ (ap (λ m. state_for layer.peers peer m) same ∙ t)) in
    let generation_is : a.generation ≡ b.generation = n.now peer a kind one (sym (k.lives_are peer a) ∙ e) ∙ sym (n.now peer b other two (sym (k.lives_are peer b) ∙ f)) in
    label_is b a.number a.generation a.serial same generation_is serial_is

-- a label is not under way
abbrev pub IsFresh : Layer Purpose → ℕ → ℕ → Type 0
IsFresh layer peer number = (kind : ReplyKind) (call : ℕ) → state_for layer.peers peer number ≡ states.UnderWay kind call → ⊥

pub row_of : (layer : Layer Purpose) (lives : Lives) (peer number : ℕ) → Known layer lives → Lived lives peer number → Row layer peer number
row_of layer lives peer number k l = subst (Row layer peer) l.numbered (under_for layer lives (Some purposes.Unsolicited) peer l.label l.kind k l.life)

module _ (old : Lives) (first : List ℕ) (layer : Layer Purpose) (known : Known layer old) (later : NodeState) where
  -- ---- a disc may have come
  module _ (a : Announced old first later) where
    was_row : (peer number : ℕ) (l : Lived a.lives peer number) → IsStatus old peer l.label l.kind → Row layer peer number
    was_row peer number l s = row_of layer old peer number known (record { label = l.label; kind = l.kind; numbered = l.numbered; life = s })

    pub rows_last : (peer number : ℕ) → Row layer peer number → Row later.layer peer number
    rows_last peer number u =
        let l = life_of layer old peer number known u in
        row_of later.layer a.lives peer number a.known (record { label = l.label; kind = l.kind; numbered = l.numbered; life = a.stays peer l.label l.kind l.life })

    pub rows_new : (peer number : ℕ) → Row later.layer peer number → Row layer peer number ⊎ Joined old first later.pending peer
    rows_new peer number u = by (a.new peer l.label l.kind l.life)
      where
        l : Lived a.lives peer number
        l = life_of later.layer a.lives peer number a.known u

        by : IsStatus old peer l.label l.kind ⊎ Joined old first later.pending peer → Row layer peer number ⊎ Joined old first later.pending peer
        by (inl s) = inl (was_row peer number l s)
        by (inr j) = inr j

    pub rows_one : (peer number other : ℕ) → Row later.layer peer number → Row later.layer peer other → Row layer peer number ⊎ (Row layer peer other ⊎ (number ≡ other))
    rows_one peer number other u v = by (a.one peer l.label m.label l.kind m.kind l.life m.life)
      where
        l : Lived a.lives peer number
        l = life_of later.layer a.lives peer number a.known u

        m : Lived a.lives peer other
        m = life_of later.layer a.lives peer other a.known v

        by : IsStatus old peer l.label l.kind ⊎ (IsStatus old peer m.label m.kind ⊎ (l.label ≡ m.label)) → Row layer peer number ⊎ (Row layer peer other ⊎ (number ≡ other))
        by (inl s) = inl (was_row peer number l s)
        by (inr (inl s)) = inr (inl (was_row peer other m s))
        by (inr (inr e)) = inr (inr (sym l.numbered ∙ (ap (λ (x : LabelParts). x.number) e ∙ m.numbered)))

    -- a row that is new has a label that was not under way
    pub rows_fresh : (peer number : ℕ) (u : Row later.layer peer number) → Row layer peer number ⊎ (IsFresh layer peer number × (u.kind ≡ kinds.Write))
    unfolding life_of
    rows_fresh peer number u = by (a.apart peer l.label l.kind l.life)
      where
        l : Lived a.lives peer number
        l = life_of later.layer a.lives peer number a.known u

        by : IsStatus old peer l.label l.kind ⊎ ((IsLive (old peer l.label) → ⊥) × (l.kind ≡ kinds.Write)) → Row layer peer number ⊎ (IsFresh layer peer number × (u.kind ≡ kinds.Write))
        by (inl s) = inl (was_row peer number l s)
        by (inr f) = inr (
          (λ kind call e.
              let v = live_at layer old peer number kind call known e in
              let live : IsLive (old peer v.its) = record { kind = kind; purpose = purpose_for layer.peers peer number; is = v.life } in
              let now = a.goes peer v.its live in
              let same : v.its ≡ l.label = one_name later.layer a.lives peer v.its l.label now.kind l.kind now.purpose (Some purposes.Unsolicited) a.known now.is l.life (v.numbered ∙ sym l.numbered) in
              f.0 (subst (λ (x : LabelParts). IsLive (old peer x)) same live)),
          f.1,
        )

    -- who stands among the nodes stood there, or has a row
    pub rows_from : (peer : ℕ) → is_pending peer later.pending ≡ true → (is_pending peer first ≡ true) ⊎ ((number : ℕ) × Row later.layer peer number)
    rows_from peer e = by (a.sent peer e)
      where
        by : (is_pending peer first ≡ true) ⊎ HasNew old first a.lives peer → (is_pending peer first ≡ true) ⊎ ((number : ℕ) × Row later.layer peer number)
        by (inl f) = inl f
        by (inr n) = inr (n.label.number, row_of later.layer a.lives peer n.label.number a.known (record { label = n.label; kind = n.kind; numbered = refl; life = n.is }))
