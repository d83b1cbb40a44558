-- What is said of the packets of a call of the target on its way: no packet is a request yet; or each request has a transaction under way that belongs to somebody.
-- A transaction that belongs to nobody keeps the first; a request that is sent leads to the second, and keeps it, since it takes a label that has none under way.
use Rattle.sbp_world.proofs.Words.Std.{◌≡◌, ◌∙◌, refl, sym, ap, ℕ, List, [], ◌∷◌, ◌++◌, Option, Some, None}
use Rattle.sbp_world.proofs.Words.Wire.{LabelParts, Packet, Asked, ReplyKind, Body, began, not_begun, under_way, Layer, answering_step, asking_step, disowning_step, unlabelled, Access, Kind, part_of, request, Outgoing}
use Rattle.sbp_world.proofs.Words.Target.{block, Purpose, response, with_asked}
use Rattle.sbp_world.proofs.Words.Laws.{access_in_bytes}
use Rattle.label_table.specs.History as wire
use Rattle.label_table.specs.History.{is_same}
use Rattle.sbp_target.specs.declared.purpose.Purpose.TheVariants as purposes
use Rattle.sbp_target.proofs.Histories.Pass.{Leaves}
use Rattle.sbp_target.proofs.Histories.Primitives.{Begun, Known, asks_known, began_at, began_off, live_on, none_known}
use Rattle.sbp_target.proofs.Histories.Seats.{Lives, OffOne, same_is, split}
use Rattle.sbp_target.proofs.Histories.Served.{Answers}
use Rattle.sbp_world.proofs.Agents.Management.Requests.{IsLabelled, asked_labelled}
use Rattle.sbp_world.proofs.Lists.SentOwnedParts.{IsNoRequest, answer_none, asked_number}
use Rattle.sbp_world.proofs.Lists.StatusReads.{IsOfBody}

-- ---- no packet is a request
abbrev pub NoneAsks : List Outgoing → Type 0
NoneAsks [] = Unit {0}
NoneAsks (packet ∷ later) = IsNoRequest packet.bytes × NoneAsks later

none_more : (packets : List Outgoing) (packet : Outgoing) → NoneAsks packets → IsNoRequest packet.bytes → NoneAsks (packets ++ packet ∷ [])
none_more [] packet h p = (p, tt)
none_more (one ∷ later) packet h p = (h.0, none_more later packet h.1 p)

pub record Unasked (layer : Layer Purpose) (packets : List Outgoing) : Type 0 where
  pub steps : List (wire.Call Purpose)
  pub layer_is : wire.after 0xffc0 steps ≡ layer
  pub none : NoneAsks packets

-- a step of the layer that hands out nothing
pub unasked_step : (step : wire.Call Purpose) (layer now : Layer Purpose) (packets : List Outgoing) → wire.done step layer ≡ now → Unasked layer packets → Unasked now packets
unasked_step step layer now packets e u = record { steps = step ∷ u.steps; layer_is = ap (λ (l : Layer Purpose). wire.done step l) u.layer_is ∙ e; none = u.none }

pub unasked_leaves : Leaves Unasked
unasked_leaves = record { disowns = λ layer packets peer label u. unasked_step (wire.disowns peer label) layer (disowning_step layer peer label) packets refl u }

-- an answer is no request
pub unasked_answers : (p : Packet) (bytes : List ℕ) → Answers Unasked Unasked p bytes
unasked_answers p bytes = record {
  answers = λ layer packets rcode given u.
      let step = wire.answers p bytes rcode given in
      record {
        steps = step ∷ u.steps;
        layer_is = ap (λ (l : Layer Purpose). wire.done step l) u.layer_is;
        none = none_more packets (response p (answering_step layer p bytes rcode given).0) u.none (answer_none layer p bytes rcode given);
      };
}

-- ---- each request belongs to somebody
module _ (Fifo : ℕ → ℕ → Type 0) where
  -- an unsolicited status goes to a FIFO, and is the block
  abbrev pub IsTold : Purpose → (to : ℕ) → List ℕ → Type 0
  IsTold purpose to bytes = purpose ≡ purposes.Unsolicited → (access : Access) → access_in_bytes bytes ≡ Some access → Fifo to access.offset × (access.payload ≡ block)

  pub record HasLife (lives : Lives) (packet : Outgoing) (number : ℕ) : Type 0 where
    pub label : LabelParts
    pub numbered : label.number ≡ number
    pub kind : ReplyKind
    pub purpose : Purpose
    pub life : lives packet.to label ≡ under_way kind (Some purpose)
    pub told : IsTold purpose packet.to packet.bytes

  abbrev pub HasLives : Lives → Outgoing → Type 0
  HasLives lives packet = (number : ℕ) (kind : Kind) → part_of packet.bytes ≡ request number kind → HasLife lives packet number

  abbrev pub AllLive : Lives → List Outgoing → Type 0
  AllLive lives [] = Unit {0}
  AllLive lives (packet ∷ later) = HasLives lives packet × AllLive lives later

  pub record Owning (layer : Layer Purpose) (packets : List Outgoing) : Type 0 where
    pub lives : Lives
    pub known : Known layer lives
    pub all : AllLive lives packets

  none_live : (lives : Lives) (packets : List Outgoing) → NoneAsks packets → AllLive lives packets
  none_live lives [] h = tt
  none_live lives (packet ∷ later) h = ((λ number kind e. absurd (h.0 number kind e)), none_live lives later h.1)

  abbrev lives_of : (layer : Layer Purpose) (packets : List Outgoing) → Unasked layer packets → Lives
  lives_of layer packets u = λ peer label. wire.life peer label (wire.history 0xffc0 u.steps)

  known_of : (layer : Layer Purpose) (packets : List Outgoing) (u : Unasked layer packets) → Known layer (lives_of layer packets u)
  known_of layer packets u = record { steps = u.steps; layer_is = u.layer_is; lives_are = λ peer label. refl }

  pub owning_of : (layer : Layer Purpose) (packets : List Outgoing) → Unasked layer packets → Owning layer packets
  owning_of layer packets u = record {
    lives = lives_of layer packets u;
    known = known_of layer packets u;
    all = none_live (lives_of layer packets u) packets u.none;
  }

  -- ---- a request is sent
  not_under : {kind : ReplyKind} {purpose : Option Purpose} → not_begun ≡ under_way kind purpose → ⊥
  not_under e = cc

  -- what is under way stays so where another transaction begins
  life_stays : (old new : Lives) (peer : ℕ) (label : LabelParts) → OffOne peer label old new → old peer label ≡ not_begun → (p : ℕ) (l : LabelParts) (kind : ReplyKind) (purpose : Option Purpose) → old p l ≡ under_way kind purpose → new p l ≡ under_way kind purpose
  life_stays old new peer label off fresh p l kind purpose e =
      split (is_same peer label p l) (new p l ≡ under_way kind purpose)
      (λ same.
      let s = same_is peer label p l same in
      let here : old peer label ≡ old p l = ap (λ (x : ℕ). old x label) s.peer ∙ ap (λ (x : LabelParts). old p x) s.label in
      absurd (not_under (sym fresh ∙ (here ∙ e))))
      (λ other. off.off p l other ∙ e)

  life_kept : (old new : Lives) (peer : ℕ) (label : LabelParts) → OffOne peer label old new → old peer label ≡ not_begun → (packet : Outgoing) (number : ℕ) → HasLife old packet number → HasLife new packet number
  life_kept old new peer label off fresh packet number h = record {
    label = h.label;
    numbered = h.numbered;
    kind = h.kind;
    purpose = h.purpose;
    life = life_stays old new peer label off fresh packet.to h.label h.kind (Some h.purpose) h.life;
    told = h.told;
  }

  all_more : (old new : Lives) (peer : ℕ) (label : LabelParts) → OffOne peer label old new → old peer label ≡ not_begun → (packets : List Outgoing) (packet : Outgoing) → AllLive old packets → HasLives new packet → AllLive new (packets ++ packet ∷ [])
  all_more old new peer label off fresh [] packet h p = (p, tt)
  all_more old new peer label off fresh (one ∷ later) packet h p =
      ((λ number kind e. life_kept old new peer label off fresh one number (h.0 number kind e)), all_more old new peer label off fresh later packet h.1 p)

  module _ (layer : Layer Purpose) (peer : ℕ) (body : Body) (purpose : Purpose) where
    -- what a request with this body is told of
    abbrev pub IsTellable : Type 0
    IsTellable = (asked : Asked) → IsOfBody layer peer body (Some asked) → IsTold purpose peer asked.bytes

    abbrev Out : Asked → Outgoing
    Out asked = record { to = peer; label = Some asked.label; bytes = asked.bytes }

    sent_lives : (after : Layer Purpose) (lives : Lives) (known : Known layer lives) (asked : Asked) → asking_step layer peer body purpose ≡ (Some asked, after) → IsTellable → (kind : ReplyKind) → HasLives (live_on (began peer asked.label kind purpose) lives) (Out asked)
    sent_lives after lives known asked e tellable kind number part is =
        let l : IsLabelled (unlabelled layer peer body) asked = asked_labelled layer after lives peer body purpose asked known e in
        record {
          label = asked.label;
          numbered = asked_number asked.label.number layer.node peer body asked.bytes l.small l.bytes_are number part is;
          kind = kind;
          purpose = purpose;
          life = began_at peer asked.label kind purpose lives;
          told = tellable asked l.bytes_are;
        }

    pub sends : (packets : List Outgoing) (r : Option Asked × Layer Purpose) → asking_step layer peer body purpose ≡ r → IsTellable → Owning layer packets → Owning r.1 (with_asked peer r.0 packets)
    sends packets (None, after) e tellable o = record { lives = o.lives; known = none_known layer after o.lives peer body purpose o.known e; all = o.all }
    sends packets (Some asked, after) e tellable o =
        let b : Begun layer after peer asked purpose o.lives = asks_known layer after o.lives peer body purpose asked o.known e in
        record {
          lives = live_on (began peer asked.label b.kind purpose) o.lives;
          known = b.known;
          all = all_more o.lives (live_on (began peer asked.label b.kind purpose) o.lives) peer asked.label (began_off peer asked.label b.kind purpose o.lives) b.fresh packets (Out asked) o.all
              (sent_lives after o.lives o.known asked e tellable b.kind);
        }

    -- no label is found
    pub finds_none : (packets : List Outgoing) (after : Layer Purpose) → asking_step layer peer body purpose ≡ (None, after) → Unasked layer packets → Unasked after packets
    finds_none packets after e u = unasked_step (wire.asks peer body purpose) layer after packets (ap (λ (r : Option Asked × Layer Purpose). r.1) e) u

  -- ---- a request that is no unsolicited status
  pub agent_tells : (layer : Layer Purpose) (peer : ℕ) (body : Body) (place : ℕ) → IsTellable layer peer body (purposes.Agent place)
  agent_tells layer peer body place asked of e access is = absurd (let no : purposes.Agent place ≡ purposes.Unsolicited = e in cc)

  pub manager_tells : (layer : Layer Purpose) (peer : ℕ) (body : Body) → IsTellable layer peer body purposes.Management
  manager_tells layer peer body asked of e access is = absurd (let no : purposes.Management ≡ purposes.Unsolicited = e in cc)
