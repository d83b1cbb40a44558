-- The request of the operation stays the one that the terms have, and a new one becomes it.
use Rattle.sbp_world.proofs.Words.Std.{◌≡◌, ◌∙◌, refl, sym, ap, subst, ℕ, false, Option, Some, None}
use Rattle.sbp_world.proofs.Words.Wire.{LabelParts, transaction, ReplyKind, Asked, Body, Layer, asking_step, purpose_for, state_for, under_way, Kind, is_same_kind, locking, Terms, waits}
use Rattle.sbp_world.proofs.Words.Target.{source_in, Purpose, NodeState, IsUnderWay, TransactionLaw}
use Rattle.sbp_world.proofs.Words.World.{Awaits, HasRequest}
use Rattle.label_table.specs.History as wire
use Rattle.label_table.proofs.Calls.{after_kept}
use Rattle.mgmt_agent.specs.Machine as management
use Rattle.sbp_target.specs.declared.purpose.Purpose.TheVariants as purposes
use Rattle.sbp_target.proofs.Histories.Calling.{Good}
use Rattle.sbp_target.proofs.Histories.Primitives.{Known, asks_known, began_at}
use Rattle.sbp_target.proofs.Histories.Seats.{Lives}
use Rattle.sbp_world.proofs.Agents.Management.Calm.{ForManager, From}

-- ---- what the lives say of a label, and a label of a life

pub under_for : (layer : Layer Purpose) (lives : Lives) (purpose : Option Purpose) (peer : ℕ) (label : LabelParts) (kind : ReplyKind) → Known layer lives → lives peer label ≡ under_way kind purpose → IsUnderWay layer purpose peer label.number
under_for layer lives purpose peer label kind k e =
    let a = (after_kept 0xffc0 k.steps).agree in
    let l = sym (k.lives_are peer label) ∙ e in
    record {
      kind = kind;
      serial = label.serial;
      waits = ap (λ (x : Layer Purpose). state_for x.peers peer label.number) (sym k.layer_is) ∙ a.stands peer label kind purpose l;
      is_for = ap (λ (x : Layer Purpose). purpose_for x.peers peer label.number) (sym k.layer_is) ∙ a.is_for peer label kind purpose l;
    }

pub under_of : (layer : Layer Purpose) (lives : Lives) (peer : ℕ) (label : LabelParts) (kind : ReplyKind) → Known layer lives → ForManager lives peer label kind → IsUnderWay layer (Some purposes.Management) peer label.number
under_of layer lives peer label kind k e = under_for layer lives (Some purposes.Management) peer label kind k e

pub record Lived (lives : Lives) (peer number : ℕ) : Type 0 where
  pub label : LabelParts
  pub kind : ReplyKind
  pub numbered : label.number ≡ number
  pub life : ForManager lives peer label kind

pub life_of : (layer : Layer Purpose) (lives : Lives) (peer number : ℕ) → Known layer lives → IsUnderWay layer (Some purposes.Management) peer number → Lived lives peer number
life_of layer lives peer number k u =
    let a = (after_kept 0xffc0 k.steps).agree in
    let label : LabelParts = record { number = number; generation = (wire.after 0xffc0 k.steps).generation; serial = u.serial } in
    let w = ap (λ (x : Layer Purpose). state_for x.peers peer number) k.layer_is ∙ u.waits in
    let f = ap (λ (x : Layer Purpose). purpose_for x.peers peer number) k.layer_is ∙ u.is_for in
    record {
      label = label;
      kind = u.kind;
      numbered = refl;
      life = k.lives_are peer label ∙ a.waits peer label u.kind refl w ∙ ap (λ (q : Option Purpose). under_way u.kind q) f;
    }

-- ---- a turn that leaves the operation alone

module _ (node now : NodeState) (g : Good node) (law : TransactionLaw node) (law_now : TransactionLaw now) (from : From g.lives now.layer) (t u : Terms) (generation : u.generation 0 ≡ t.generation 0) (ids : (peer : ℕ) → u.ids (t.generation 0) peer ≡ t.ids (t.generation 0) peer) (manages : Option ℕ) where
  abbrev pub Keeps : Option ℕ → Type 0
  Keeps None = Unit {0}
  Keeps (Some source) = (h : HasRequest t node.layer source manages) → u.held (transaction (t.generation 0) 0 h.peer h.number) ≡ waits h.kind h.serial

  same_number : (source : ℕ) → source_in node.manager.operation ≡ Some source → source_in now.manager.operation ≡ Some source → (number : ℕ) → IsUnderWay node.layer (Some purposes.Management) source number → IsUnderWay now.layer (Some purposes.Management) source number
  same_number source e f number under =
      let one = law.operation_has source e in
      let later = law_now.operation_has source f in
      let lived = life_of now.layer from.lives source later.number from.known later.under_way in
      let old = under_of node.layer g.lives source lived.label lived.kind g.mid.known (from.before source lived.label lived.kind lived.life) in
      let same : later.number ≡ number = sym lived.numbered ∙ (one.only source lived.label.number old).1 ∙ sym (one.only source number under).1 in
      subst (IsUnderWay now.layer (Some purposes.Management) source) same later.under_way

  calm_by : (o : Option ℕ) → source_in node.manager.operation ≡ o → source_in now.manager.operation ≡ o → Keeps o → Awaits t node.layer o manages → Awaits u now.layer o manages
  calm_by None e f k h = h
  calm_by (Some source) e f k h = record {
    peer = h.peer;
    number = h.number;
    kind = h.kind;
    serial = h.serial;
    peer_is = ap (λ g. u.ids g h.peer) generation ∙ ids h.peer ∙ h.peer_is;
    under_way = same_number source e f h.number h.under_way;
    waits_for = ap (λ g. u.held (transaction g 0 h.peer h.number)) generation ∙ k h;
    no_lock = h.no_lock;
    manages_is = h.manages_is;
  }

  pub calm_awaits : now.manager ≡ node.manager → Keeps (source_in node.manager.operation) → Awaits t node.layer (source_in node.manager.operation) manages → Awaits u now.layer (source_in now.manager.operation) manages
  calm_awaits same k h =
      let e : source_in now.manager.operation ≡ source_in node.manager.operation = ap (λ (m : management.Machine). source_in m.operation) same in
      subst (λ o. Awaits u now.layer o manages) (sym e) (calm_by (source_in node.manager.operation) refl e k h)

-- ---- a turn of the operation

none_waits : (now : NodeState) (law : TransactionLaw now) (old : Lives) (from : From old now.layer) → ((p : ℕ) (l : LabelParts) (kind : ReplyKind) → ForManager old p l kind → ⊥) → (o : Option ℕ) → source_in now.manager.operation ≡ o → o ≡ None
none_waits now law old from none None e = refl
none_waits now law old from none (Some source) e =
    let one = law.operation_has source e in
    let lived = life_of now.layer from.lives source one.number from.known one.under_way in
    absurd (none source lived.label lived.kind (from.before source lived.label lived.kind lived.life))

-- no request left
pub silent_awaits : (now : NodeState) (law : TransactionLaw now) (old : Lives) (from : From old now.layer) → ((p : ℕ) (l : LabelParts) (kind : ReplyKind) → ForManager old p l kind → ⊥) → (u : Terms) (manages : Option ℕ) → manages ≡ None → Awaits u now.layer (source_in now.manager.operation) manages
silent_awaits now law old from none u manages idle =
    subst (λ o. Awaits u now.layer o manages) (sym (none_waits now law old from none (source_in now.manager.operation) refl)) idle

-- one left
pub record HasLeft (u : Terms) (source number : ℕ) (manages : Option ℕ) : Type 0 where
  pub peer : ℕ
  pub kind : Kind
  pub serial : ℕ
  pub peer_is : u.ids (u.generation 0) peer ≡ source
  pub waits_for : u.held (transaction (u.generation 0) 0 peer number) ≡ waits kind serial
  pub no_lock : is_same_kind kind locking ≡ false
  pub manages_is : manages ≡ Some serial

asked_under : (layer now : Layer Purpose) (old : Lives) (from : From old layer) (source : ℕ) (body : Body) (asked : Asked) → asking_step layer source body purposes.Management ≡ (Some asked, now) → IsUnderWay now (Some purposes.Management) source asked.label.number
asked_under layer now old from source body asked e =
    let b = asks_known layer now from.lives source body purposes.Management asked from.known e in
    under_of now _ source asked.label b.kind b.known (began_at source asked.label b.kind purposes.Management from.lives)

left_by : (now : NodeState) (law : TransactionLaw now) (source number : ℕ) → IsUnderWay now.layer (Some purposes.Management) source number → (u : Terms) (manages : Option ℕ) → HasLeft u source number manages → (o : Option ℕ) → source_in now.manager.operation ≡ o → Awaits u now.layer o manages
left_by now law source number under u manages h None e = absurd (law.none_has e source number under)
left_by now law source number under u manages h (Some other) e =
    let one = law.operation_has other e in
    let same : source ≡ other = (one.only source number under).0 in
    record {
      peer = h.peer;
      number = number;
      kind = h.kind;
      serial = h.serial;
      peer_is = h.peer_is ∙ same;
      under_way = subst (λ p. IsUnderWay now.layer (Some purposes.Management) p number) same under;
      waits_for = h.waits_for;
      no_lock = h.no_lock;
      manages_is = h.manages_is;
    }

pub left_awaits : (now : NodeState) (law : TransactionLaw now) (layer : Layer Purpose) (old : Lives) (from : From old layer) (source : ℕ) (body : Body) (asked : Asked) → asking_step layer source body purposes.Management ≡ (Some asked, now.layer) → (u : Terms) (manages : Option ℕ) → HasLeft u source asked.label.number manages → Awaits u now.layer (source_in now.manager.operation) manages
left_awaits now law layer old from source body asked e u manages h =
    left_by now law source asked.label.number (asked_under layer now.layer old from source body asked e) u manages h (source_in now.manager.operation) refl
