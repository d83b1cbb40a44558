-- What is under way in an initiator's layer, by the steps of the layer: what waits behind a packet that was judged, a time-out or a request
-- did so before, or is that request.
use Rattle.sbp_world.proofs.Words.Std.{◌≡◌, refl, sym, ◌∙◌, ap, subst, ℕ, Bool, true, false, cond, List, ◌∷◌, Option, Some, None, Result, Ok, Err}
use Rattle.sbp_world.proofs.Words.Wire.{PacketFault, LabelParts, Packet, header_in, reading, Asked, ReplyKind, Stale, Body, Finding, Layer, asking_step, expiring_step, judging_step, of_again, of_generation, of_grammar, of_label, of_request, of_response, unlabelled, Life, Told, and_before, began, ended, lets_expire, life, not_begun, over, told_by_asking, told_by_expiring, told_by_finding, told_by_reading, told_closed, told_unknown, under_way, purpose_for, state_for, kind_of, reply_kind}
use Rattle.sbp_world.proofs.Words.Initiator.{Purpose}
use Rattle.label_table.specs.declared.place.LabelState.TheVariants as states
use Rattle.label_table.specs.History.{asks, is_same, judges}
use Rattle.label_table.specs.History as wire
use Rattle.label_table.proofs.Calls.{after_kept, told_law}
use Rattle.sbp_initiator.proofs.Histories.Lives.{of_same, same_of}

abbrev Notes : Type 0
Notes = List (Told Purpose)

-- a transaction with a peer under a label is under way in a layer, for something or for nobody
pub record At (layer : Layer Purpose) (peer number : ℕ) (purpose : Option Purpose) : Type 0 where
  pub kind : ReplyKind
  pub serial : ℕ
  pub state : state_for layer.peers peer number ≡ states.UnderWay kind serial
  pub is_for : purpose_for layer.peers peer number ≡ purpose

-- the layer is what calls of it make of a new one
pub record Called (layer : Layer Purpose) : Type 0 where
  pub node : ℕ
  pub calls : List (wire.Call Purpose)
  pub is : wire.after node calls ≡ layer

-- a transaction that is under way
abbrev Runs : Life Purpose → ReplyKind → Option Purpose → Type 0
Runs x kind purpose = x ≡ under_way kind purpose

-- ---- the names of transactions

abbrev name_of : (layer : Layer Purpose) → ℕ → ℕ → LabelParts
name_of layer number serial = record { number = number; generation = layer.generation; serial = serial }

module _ (node : ℕ) (calls : List (wire.Call Purpose)) where
  pub at_life : (peer number : ℕ) (purpose : Option Purpose) → (a : At (wire.after node calls) peer number purpose) → Runs (life peer (name_of (wire.after node calls) number a.serial) (wire.history node calls)) a.kind purpose
  at_life peer number purpose a =
      let k = after_kept node calls in
      k.agree.waits peer (name_of (wire.after node calls) number a.serial) a.kind refl a.state ∙ ap (λ (q : Option Purpose). under_way a.kind q) a.is_for

  at_layer : (peer : ℕ) (label : LabelParts) (kind : ReplyKind) (purpose : Option Purpose) → Runs (life peer label (wire.history node calls)) kind purpose → At (wire.after node calls) peer label.number purpose
  at_layer peer label kind purpose w =
      let k = after_kept node calls in
      record { kind = kind; serial = label.serial; state = k.agree.stands peer label kind purpose w; is_for = k.agree.is_for peer label kind purpose w }

-- ---- what is told ends transactions, and begins none

ended_runs : (c : Bool) (x : Life Purpose) (kind : ReplyKind) (purpose : Option Purpose) → Runs (cond c (ended x) x) kind purpose → Runs x kind purpose
ended_runs true not_begun kind purpose e = cc
ended_runs true (under_way that q) kind purpose e = cc
ended_runs true over kind purpose e = cc
ended_runs false x kind purpose e = e

-- of what is told no transaction is under way that was not before
abbrev Before : Option (Told Purpose) → Notes → Type 0
Before told notes = (peer : ℕ) (label : LabelParts) (kind : ReplyKind) (purpose : Option Purpose) → Runs (life peer label (and_before told notes)) kind purpose → Runs (life peer label notes) kind purpose

unknown_before : (kind : Option ReplyKind) (p : Packet) (notes : Notes) → Before (told_unknown p kind) notes
unknown_before None p notes = λ peer label k q e. e
unknown_before (Some kind) p notes = λ peer label k q e. e

reading_before : (read : Result Packet PacketFault) (notes : Notes) → Before (told_by_reading read) notes
reading_before (Err fault) notes = λ peer label k q e. e
reading_before (Ok p) notes = unknown_before (reply_kind p) p notes

closed_before : (kind : Option ReplyKind) (p : Packet) (that : LabelParts) (purpose : Option Purpose) (notes : Notes) → Before (told_closed p that purpose kind) notes
closed_before None p that purpose notes = λ peer label k q e. e
closed_before (Some kind) p that purpose notes = λ peer label k q e. ended_runs (is_same (header_in p).source that peer label) (life peer label notes) k q e

found_before : (finding : Finding Purpose) (bytes : List ℕ) (notes : Notes) → Before (told_by_finding finding bytes) notes
found_before of_generation bytes notes = λ peer label k q e. e
found_before of_grammar bytes notes = λ peer label k q e. e
found_before of_label bytes notes = reading_before (reading bytes) notes
found_before (of_response p label purpose) bytes notes = closed_before (reply_kind p) p label purpose notes
found_before (of_again p rcode) bytes notes = λ peer label k q e. e
found_before (of_request p) bytes notes = λ peer label k q e. e

expired_before : (r : Result (Option Purpose) Stale) (to : ℕ) (that : LabelParts) (notes : Notes) → Before (told_by_expiring to that r) notes
expired_before (Ok purpose) to that notes = λ peer label k q e. ended_runs (is_same to that peer label) (life peer label notes) k q e
expired_before (Err stale) to that notes = λ peer label k q e. e

-- ---- the steps of a layer

pub judge_at : (layer : Layer Purpose) (generation : ℕ) (bytes : List ℕ) (peer number : ℕ) (purpose : Option Purpose) → Called layer → At (judging_step layer generation bytes).1 peer number purpose → At layer peer number purpose
judge_at layer generation bytes peer number purpose c a =
    let call = judges generation bytes in
    let old = wire.after c.node c.calls in
    let b : At (wire.after c.node (call ∷ c.calls)) peer number purpose = subst (λ (l : Layer Purpose). At (judging_step l generation bytes).1 peer number purpose) (sym c.is) a in
    let w = found_before (judging_step old generation bytes).0 bytes (wire.history c.node c.calls) peer (name_of (wire.after c.node (call ∷ c.calls)) number b.serial) b.kind purpose (at_life c.node (call ∷ c.calls) peer number purpose b) in
    subst (λ (l : Layer Purpose). At l peer number purpose) c.is
    (at_layer c.node c.calls peer (name_of (wire.after c.node (call ∷ c.calls)) number b.serial) b.kind purpose w)

pub expire_at : (layer : Layer Purpose) (to : ℕ) (label : LabelParts) (peer number : ℕ) (purpose : Option Purpose) → Called layer → At (expiring_step layer to label).1 peer number purpose → At layer peer number purpose
expire_at layer to label peer number purpose c a =
    let call = lets_expire to label in
    let old = wire.after c.node c.calls in
    let b : At (wire.after c.node (call ∷ c.calls)) peer number purpose = subst (λ (l : Layer Purpose). At (expiring_step l to label).1 peer number purpose) (sym c.is) a in
    let w = expired_before (expiring_step old to label).0 to label (wire.history c.node c.calls) peer (name_of (wire.after c.node (call ∷ c.calls)) number b.serial) b.kind purpose (at_life c.node (call ∷ c.calls) peer number purpose b) in
    subst (λ (l : Layer Purpose). At l peer number purpose) c.is
    (at_layer c.node c.calls peer (name_of (wire.after c.node (call ∷ c.calls)) number b.serial) b.kind purpose w)

-- behind a request: it is that, or was under way before
pub data AskedAt (layer : Layer Purpose) (to : ℕ) (asked : Asked) (for : Purpose) (peer number : ℕ) (purpose : Option Purpose) : Type 0 where
  asked_now : peer ≡ to → number ≡ asked.label.number → purpose ≡ Some for → AskedAt layer to asked for peer number purpose
  was_asked : At layer peer number purpose → AskedAt layer to asked for peer number purpose

purpose_is : (kd k : ReplyKind) (p q : Option Purpose) → under_way kd p ≡ under_way k q → p ≡ q
purpose_is kd k p q e = cc

module _ (node : ℕ) (calls : List (wire.Call Purpose)) (to : ℕ) (asked : Asked) (for : Purpose) (peer : ℕ) (label : LabelParts) (kind : ReplyKind) (purpose : Option Purpose) where
  began_at : (c : Bool) (kd : ReplyKind) → is_same to asked.label peer label ≡ c → Runs (cond c (under_way kd (Some for)) (life peer label (wire.history node calls))) kind purpose → AskedAt (wire.after node calls) to asked for peer label.number purpose
  began_at true kd e w =
      let s = same_of to asked.label peer label e in asked_now (sym s.peer) (sym s.number) (sym (purpose_is kd kind (Some for) purpose w))
  began_at false kd e w = was_asked (at_layer node calls peer label kind purpose w)

pub ask_at : (layer : Layer Purpose) (to : ℕ) (body : Body) (for : Purpose) (asked : Asked) (new : Layer Purpose) (peer number : ℕ) (purpose : Option Purpose) → Called layer → asking_step layer to body for ≡ (Some asked, new) → At new peer number purpose → AskedAt layer to asked for peer number purpose
ask_at layer to body for asked new peer number purpose c is a =
    let call = asks to body for in
    let old = wire.after c.node c.calls in
    let now = wire.after c.node (call ∷ c.calls) in
    let step : asking_step old to body for ≡ (Some asked, new) = ap (λ (l : Layer Purpose). asking_step l to body for) c.is ∙ is in
    let b : At now peer number purpose = subst (λ (l : Layer Purpose). At l peer number purpose) (sym (ap (λ (r : Option Asked × Layer Purpose). r.1) step)) a in
    let name = name_of now number b.serial in
    let kd = kind_of (unlabelled old to body) in
    let w : Runs (life peer name (began to asked.label kd for ∷ wire.history c.node c.calls)) b.kind purpose =
    subst (λ (x : Option Asked). Runs (life peer name (and_before (told_by_asking to kd for x) (wire.history c.node c.calls))) b.kind purpose) (ap (λ (r : Option Asked × Layer Purpose). r.0) step)
    (at_life c.node (call ∷ c.calls) peer number purpose b) in
    subst (λ (l : Layer Purpose). AskedAt l to asked for peer number purpose) c.is
    (began_at c.node c.calls to asked for peer name b.kind purpose (is_same to asked.label peer name) kd refl w)

-- a request begins under its label, and leaves what is under way
same_self : (peer : ℕ) (label : LabelParts) → is_same peer label peer label ≡ true
same_self peer label = of_same peer label peer label (record { peer = refl; number = refl; generation = refl; serial = refl })

label_same : (l m : LabelParts) → l.number ≡ m.number → l.generation ≡ m.generation → l.serial ≡ m.serial → l ≡ m
label_same l m a b c =
    ap (λ (n : ℕ). record l { number = n }) a ∙ ap (λ (n : ℕ). record l { number = m.number; generation = n }) b ∙ ap (λ (n : ℕ). record m { serial = n }) c

life_same : (p : ℕ) (l : LabelParts) (q : ℕ) (m : LabelParts) (notes : Notes) → is_same p l q m ≡ true → life p l notes ≡ life q m notes
life_same p l q m notes e =
    let s = same_of p l q m e in
    ap (λ (n : ℕ). life n l notes) s.peer ∙ ap (λ (x : LabelParts). life q x notes) (label_same l m s.number s.generation s.serial)

not_yet : {A : Type 0} (kind : ReplyKind) (purpose : Option Purpose) → not_begun ≡ under_way kind purpose → A
not_yet kind purpose e = absurd (differ kind purpose e)
  where
    differ : (kind : ReplyKind) (purpose : Option Purpose) → not_begun ≡ under_way kind purpose → ⊥
    differ kind purpose e = cc

began_here : (c : Bool) (kd : ReplyKind) (for : Purpose) (x : Life Purpose) → c ≡ true → Runs (cond c (under_way kd (Some for)) x) kd (Some for)
began_here true kd for x e = refl
began_here false kd for x e = cc

began_there : (c : Bool) (kd : ReplyKind) (for : Purpose) (x : Life Purpose) (kind : ReplyKind) (purpose : Option Purpose) → (c ≡ true → x ≡ not_begun) → Runs x kind purpose → Runs (cond c (under_way kd (Some for)) x) kind purpose
began_there true kd for x kind purpose f w = not_yet kind purpose (sym (f refl) ∙ w)
began_there false kd for x kind purpose f w = w

module _ (layer : Layer Purpose) (to : ℕ) (body : Body) (for : Purpose) (asked : Asked) (new : Layer Purpose) (c : Called layer) (is : asking_step layer to body for ≡ (Some asked, new)) where
  abbrev old : Layer Purpose
  old = wire.after c.node c.calls

  abbrev calls : List (wire.Call Purpose)
  calls = asks to body for ∷ c.calls

  abbrev kd : ReplyKind
  kd = kind_of (unlabelled old to body)

  step : asking_step old to body for ≡ (Some asked, new)
  step = ap (λ (l : Layer Purpose). asking_step l to body for) c.is ∙ is

  asked_is : (asking_step old to body for).0 ≡ Some asked
  asked_is = ap (λ (r : Option Asked × Layer Purpose). r.0) step

  new_is : wire.after c.node calls ≡ new
  new_is = ap (λ (r : Option Asked × Layer Purpose). r.1) step

  -- what holds behind its note
  behind_it : (peer : ℕ) (label : LabelParts) (kind : ReplyKind) (purpose : Option Purpose) → Runs (life peer label (began to asked.label kd for ∷ wire.history c.node c.calls)) kind purpose → At new peer label.number purpose
  behind_it peer label kind purpose w =
      subst (λ (l : Layer Purpose). At l peer label.number purpose) new_is
      (at_layer c.node calls peer label kind purpose (subst (λ (x : Option Asked). Runs (life peer label (and_before (told_by_asking to kd for x) (wire.history c.node c.calls))) kind purpose) (sym asked_is) w))

  pub ask_begins : At new to asked.label.number (Some for)
  ask_begins = behind_it to asked.label kd (Some for) (began_here (is_same to asked.label to asked.label) kd for (life to asked.label (wire.history c.node c.calls)) (same_self to asked.label))

  fresh : life to asked.label (wire.history c.node c.calls) ≡ not_begun
  fresh =
      let t = told_law Purpose c.node calls in
      (subst (λ (x : Option Asked). wire.AreTold (and_before (told_by_asking to kd for x) (wire.history c.node c.calls))) asked_is t).0.0

  pub ask_keeps : (peer number : ℕ) (purpose : Option Purpose) → At layer peer number purpose → At new peer number purpose
  ask_keeps peer number purpose a =
      let b : At old peer number purpose = subst (λ (l : Layer Purpose). At l peer number purpose) (sym c.is) a in
      let name = name_of old number b.serial in
      let w = at_life c.node c.calls peer number purpose b in
      behind_it peer name b.kind purpose
      (began_there (is_same to asked.label peer name) kd for (life peer name (wire.history c.node c.calls)) b.kind purpose
      (λ e. sym (life_same to asked.label peer name (wire.history c.node c.calls) e) ∙ fresh) w)
