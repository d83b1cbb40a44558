-- What a node finds a delivery to be, and by which row; the rows hold on the history as they do on the node's own state.
use Rattle.std.specs.Prelude.{◌≡◌, ◌≢◌, ℕ, ◌&&◌, nat_eq, is_some, Bool, true, false, cond, List, Option, Some, None, Result, Ok, Err, refl}
use Rattle.std.proofs.Common.{sym, ◌∙◌, ap, subst}
use Rattle.async_packet.specs.declared.fault.PacketFault.{PacketFault}
use Rattle.async_packet.specs.Labels.{LabelParts}
use Rattle.async_packet.specs.Packet.{Packet, header_in}
use Rattle.async_packet.specs.Reading.{reading}
use Rattle.label_table.specs.declared.reply.ReplyKind.{ReplyKind}
use Rattle.label_table.specs.declared.reply.Verdict.TheVariants as verdicts
use Rattle.label_table.specs.declared.source.Remembered.{Remembered}
use Rattle.label_table.specs.declared.place.LabelState.{LabelState}
use Rattle.label_table.specs.declared.place.LabelState.TheVariants as states
use Rattle.label_table.specs.Requests.{reply_kind, label_of, is_write, is_last}
use Rattle.label_table.specs.Filter.{SourcePlace, place_for, seen_in, seen_at, judged, judge_at, judge_step}
use Rattle.label_table.specs.Judging.{Facts, Row, by_generation, by_grammar, by_label, by_response, by_again, by_request, row_of}
use Rattle.label_table.specs.Peers.{state_for}
use Rattle.label_table.specs.Layer.{Finding, of_generation, of_grammar, of_label, of_response, of_again, of_request, is_again, rcode_in, facts_in, closed_by, closing_step, responded, judged_by, judging_step}
use Rattle.label_table.specs.Layer as layers
use Rattle.sbp_journal.specs.Transactions.{Kind, writing, reading_quadlet, reading_block, locking, is_same_kind, request, response, part_in, part_of, is_to, Transaction, Sending}
use Rattle.sbp_journal.specs.Wire.{Terms, Held, free, waits, rests}
use Rattle.bus_transactions.specs.Wire.{Node, transaction}
use Rattle.bus_transactions.specs.Rows.{awaits, shape, shape_of, kind_as}
use Rattle.bus_transactions.specs.Judging.{is_response, waits_for, is_awaited, is_repeated, facts_of}
use Rattle.bus_transactions.proofs.PacketParts.{part_read, part_fault, to_read, to_fault, PartOf, asks, replies, part_case, asking_read, answering_read}
use Rattle.bus_transactions.proofs.Places.{Places}
use Rattle.bus_transactions.proofs.Steps.{Frees, ClosedAs}
use Rattle.bus_transactions.proofs.Steps as steps
use Rattle.bus_transactions.proofs.NodeRows.{IsNode}

-- ---- what each row says
pub record Reaches (f : Facts) : Type 0 where
  pub current : f.is_current ≡ true
  pub for_node : f.is_for_node ≡ true

abbrev pub Says : Row → Facts → Type 0
Says by_generation f = f.is_current ≡ false
Says by_grammar f = (f.is_current ≡ true) × (f.is_for_node ≡ false)
Says by_label f = Reaches f × (f.is_response ≡ true) × (f.is_awaited ≡ false)
Says by_response f = Reaches f × (f.is_response ≡ true) × (f.is_awaited ≡ true)
Says by_again f = Reaches f × (f.is_response ≡ false) × (f.is_repeated ≡ true)
Says by_request f = Reaches f × (f.is_response ≡ false) × (f.is_repeated ≡ false)

abbrev facts : Bool → Bool → Bool → Bool → Bool → Facts
facts a b c d e = record { is_current = a; is_for_node = b; is_response = c; is_awaited = d; is_repeated = e }

says : (a b c d e : Bool) → Says (row_of (facts a b c d e)) (facts a b c d e)
says false b c d e = refl
says true false c d e = (refl, refl)
says true true true false e = (record { current = refl; for_node = refl }, refl, refl)
says true true true true e = (record { current = refl; for_node = refl }, refl, refl)
says true true false d true = (record { current = refl; for_node = refl }, refl, refl)
says true true false d false = (record { current = refl; for_node = refl }, refl, refl)

pub row_says : (f : Facts) (row : Row) → row_of f ≡ row → Says row f
row_says f row e = subst (λ r. Says r f) e (says f.is_current f.is_for_node f.is_response f.is_awaited f.is_repeated)

-- ---- what is found, and by which row
pub record Responds (layer new : Node) (bytes : List ℕ) (f : Facts) (p : Packet) : Type 0 where
  pub row : row_of f ≡ by_response
  pub read : reading bytes ≡ Ok p
  pub kind : ReplyKind
  pub kind_is : reply_kind p ≡ Some kind
  pub frees : Frees layer new (header_in p).source (header_in p).label kind states.Free

pub record Requests (layer new : Node) (bytes : List ℕ) (f : Facts) (p : Packet) (row : Row) : Type 0 where
  pub same : new ≡ layer
  pub row_is : row_of f ≡ row
  pub read : reading bytes ≡ Ok p
  pub asks_is : reply_kind p ≡ None

abbrev pub JudgedAs : Node → List ℕ → Facts → Finding (Unit {0}) × Node → Type 0
JudgedAs layer bytes f (of_generation, new) = (new ≡ layer) × (row_of f ≡ by_generation)
JudgedAs layer bytes f (of_grammar, new) = (new ≡ layer) × (row_of f ≡ by_grammar)
JudgedAs layer bytes f (of_label, new) = (new ≡ layer) × (row_of f ≡ by_label)
JudgedAs layer bytes f (of_response p label purpose, new) = Responds layer new bytes f p
JudgedAs layer bytes f (of_again p rcode, new) = Requests layer new bytes f p by_again × (rcode ≡ rcode_in (judge_step layer.filter (header_in p).source bytes))
JudgedAs layer bytes f (of_request p, new) = Requests layer new bytes f p by_request

no_kind : (kind : Option ReplyKind) → is_some kind ≡ false → kind ≡ None
no_kind None e = refl
no_kind (Some k) e = cc

closing_found : (layer : Node) (bytes : List ℕ) (p : Packet) (kind : ReplyKind) (f : Facts) (c : Option (LabelParts × Option (Unit {0})) × Node) → reading bytes ≡ Ok p → reply_kind p ≡ Some kind → row_of f ≡ by_response → f.is_awaited ≡ is_some c.0 → ClosedAs layer (header_in p).source (header_in p).label kind c → JudgedAs layer bytes f (responded p c)
closing_found layer bytes p kind f (Some (label, purpose), new) e k row aw closed =
    record { row = row; read = e; kind = kind; kind_is = k; frees = closed }
closing_found layer bytes p kind f (None, new) e k row aw closed =
    let r = row_says f by_response row in absurd (differ (sym r.2 ∙ aw))
  where
    differ : true ≡ false → ⊥
    differ e = cc

response_found : (layer : Node) (g : ℕ) (bytes : List ℕ) (p : Packet) (kind : Option ReplyKind) → Places layer.generation layer.peers → reading bytes ≡ Ok p → reply_kind p ≡ kind → row_of (facts_in layer g bytes (Ok p)) ≡ by_response → JudgedAs layer bytes (facts_in layer g bytes (Ok p)) (responded p (closed_by (reply_kind p) layer p))
response_found layer g bytes p None places e k row =
    let r = row_says (facts_in layer g bytes (Ok p)) by_response row in absurd (differ (sym r.1 ∙ ap is_some k))
  where
    differ : true ≡ false → ⊥
    differ e = cc
response_found layer g bytes p (Some kind) places e k row =
    let closed : ClosedAs layer (header_in p).source (header_in p).label kind (closed_by (reply_kind p) layer p) =
    subst (λ o. ClosedAs layer (header_in p).source (header_in p).label kind (closed_by o layer p)) (sym k) (steps.closes layer (header_in p).source (header_in p).label kind places) in
    closing_found layer bytes p kind (facts_in layer g bytes (Ok p)) (closed_by (reply_kind p) layer p) e k row refl closed

fault_not : (layer : Node) (g : ℕ) (bytes : List ℕ) (fault : PacketFault) → (facts_in layer g bytes (Err fault)).is_for_node ≡ true → ⊥
fault_not layer g bytes fault e = cc

judged_row : (layer : Node) (g : ℕ) (bytes : List ℕ) (row : Row) (read : Result Packet PacketFault) → Places layer.generation layer.peers → reading bytes ≡ read → row_of (facts_in layer g bytes read) ≡ row → JudgedAs layer bytes (facts_in layer g bytes read) (judged_by row layer bytes read)
judged_row layer g bytes by_generation read places e r = (refl, r)
judged_row layer g bytes by_grammar read places e r = (refl, r)
judged_row layer g bytes by_label read places e r = (refl, r)
judged_row layer g bytes by_response (Ok p) places e r = response_found layer g bytes p _ places e refl r
judged_row layer g bytes by_again (Ok p) places e r =
    (record { same = refl; row_is = r; read = e; asks_is = no_kind (reply_kind p) (row_says (facts_in layer g bytes (Ok p)) by_again r).1 }, refl)
judged_row layer g bytes by_request (Ok p) places e r =
    record { same = refl; row_is = r; read = e; asks_is = no_kind (reply_kind p) (row_says (facts_in layer g bytes (Ok p)) by_request r).1 }
judged_row layer g bytes by_response (Err fault) places e r = absurd (fault_not layer g bytes fault (row_says (facts_in layer g bytes (Err fault)) by_response r).0.for_node)
judged_row layer g bytes by_again (Err fault) places e r = absurd (fault_not layer g bytes fault (row_says (facts_in layer g bytes (Err fault)) by_again r).0.for_node)
judged_row layer g bytes by_request (Err fault) places e r = absurd (fault_not layer g bytes fault (row_says (facts_in layer g bytes (Err fault)) by_request r).0.for_node)

pub judged_step : (layer : Node) (g : ℕ) (bytes : List ℕ) → Places layer.generation layer.peers → JudgedAs layer bytes (layers.facts_of layer g bytes) (judging_step layer g bytes)
unfolding judging_step
judged_step layer g bytes places = judged_row layer g bytes _ _ places refl refl

-- ---- the facts of the node are those of the history
again_by : (w : Bool) (l : Bool) (r : ℕ) → is_again (cond (w && l) (verdicts.Again r) verdicts.Fresh) ≡ (w && l)
again_by true true r = refl
again_by true false r = refl
again_by false l r = refl

never_last : (w : Bool) → false ≡ (w && false)
never_last true = refl
never_last false = refl

pub again_at : (filter : List SourcePlace) (bytes : List ℕ) (place : Option ℕ) → is_again (judge_at place filter bytes) ≡ (is_write bytes && is_last (seen_in place filter (label_of bytes)).last bytes)
unfolding judged
again_at filter bytes None = never_last (is_write bytes)
again_at filter bytes (Some n) = again_by (is_write bytes) _ _

-- a repeat has the rcode that it had
rcode_by : (w l : Bool) (r : ℕ) → (w && l) ≡ true → rcode_in (cond (w && l) (verdicts.Again r) verdicts.Fresh) ≡ r
rcode_by true true r e = refl
rcode_by true false r e = cc
rcode_by false l r e = cc

pub rcode_at : (filter : List SourcePlace) (bytes : List ℕ) (place : Option ℕ) → is_again (judge_at place filter bytes) ≡ true → rcode_in (judge_at place filter bytes) ≡ (seen_in place filter (label_of bytes)).rcode
unfolding judged
rcode_at filter bytes None e = cc
rcode_at filter bytes (Some n) e = rcode_by (is_write bytes) _ _ (sym (again_by (is_write bytes) _ _) ∙ e)

pub kind_is : (a b : Kind) → kind_as a ≡ kind_as b → is_same_kind a b ≡ true
kind_is writing writing e = refl
kind_is writing reading_quadlet e = cc
kind_is writing reading_block e = cc
kind_is writing locking e = cc
kind_is reading_quadlet writing e = cc
kind_is reading_quadlet reading_quadlet e = refl
kind_is reading_quadlet reading_block e = cc
kind_is reading_quadlet locking e = cc
kind_is reading_block writing e = cc
kind_is reading_block reading_quadlet e = cc
kind_is reading_block reading_block e = refl
kind_is reading_block locking e = cc
kind_is locking writing e = cc
kind_is locking reading_quadlet e = cc
kind_is locking reading_block e = cc
kind_is locking locking e = refl

kind_not : (a b : Kind) → is_same_kind a b ≡ true → kind_as a ≡ kind_as b
kind_not writing writing e = refl
kind_not writing reading_quadlet e = cc
kind_not writing reading_block e = cc
kind_not writing locking e = cc
kind_not reading_quadlet writing e = cc
kind_not reading_quadlet reading_quadlet e = refl
kind_not reading_quadlet reading_block e = cc
kind_not reading_quadlet locking e = cc
kind_not reading_block writing e = cc
kind_not reading_block reading_quadlet e = cc
kind_not reading_block reading_block e = refl
kind_not reading_block locking e = cc
kind_not locking writing e = cc
kind_not locking reading_quadlet e = cc
kind_not locking reading_block e = cc
kind_not locking locking e = refl

shape_waits : (held : Held) (kind : Kind) → awaits (kind_as kind) ≡ shape_of held → waits_for held kind ≡ true
shape_waits free kind e = cc
shape_waits rests kind e = cc
shape_waits (waits k s) kind e = kind_is k kind (awaited (kind_as k) (kind_as kind) (sym e))
  where
    awaited : (a b : ReplyKind) → awaits a ≡ awaits b → a ≡ b
    awaited a b e = cc

waiting_shape : (state : LabelState) (kind : ReplyKind) → shape state ≡ awaits kind → (r : ℕ) × (state ≡ states.UnderWay kind r)
waiting_shape states.Free kind e = cc
waiting_shape states.Resting kind e = cc
waiting_shape (states.UnderWay k r) kind e = let i : k ≡ kind = cc in (r, ap (λ x. states.UnderWay x r) i)

waits_not : (held : Held) (kind : Kind) (state : LabelState) → shape state ≡ shape_of held → ((r : ℕ) → state ≢ states.UnderWay (kind_as kind) r) → waits_for held kind ≡ false
waits_not free kind state e n = refl
waits_not rests kind state e n = refl
waits_not (waits k s) kind state e n = by_test (is_same_kind k kind) refl
  where
    by_test : (b : Bool) → is_same_kind k kind ≡ b → b ≡ false
    by_test false i = refl
    by_test true i = let w = waiting_shape state (kind_as kind) (e ∙ ap awaits (kind_not k kind i)) in absurd (n w.0 w.1)

awaited_by : (layer : Node) (peer l : ℕ) (kind : Kind) (held : Held) (c : Option (LabelParts × Option (Unit {0})) × Node) → shape (state_for layer.peers peer l) ≡ shape_of held → ClosedAs layer peer l (kind_as kind) c → is_some c.0 ≡ waits_for held kind
awaited_by layer peer l kind held (Some found, new) e closed = sym (shape_waits held kind (sym (ap shape closed.was) ∙ e))
awaited_by layer peer l kind held (None, new) e closed = sym (waits_not held kind (state_for layer.peers peer l) e closed.1)

record Agree (layer : Node) (t : Terms) (q : Sending) (read : Result Packet PacketFault) : Type 0 where
  awaited : (facts_in layer q.generation q.bytes read).is_awaited ≡ is_awaited t (part_of q.bytes) q
  repeated : (facts_in layer q.generation q.bytes read).is_repeated ≡ is_repeated t (part_of q.bytes) q
  response_is : (facts_in layer q.generation q.bytes read).is_response ≡ is_response (part_of q.bytes)

module _ {row : ℕ → ℕ} (t : Terms) (layer : Node) (q : Sending) (n : IsNode row q.generation q.to t.held t.last t.seen t.given None layer) (source : (p : Packet) → reading q.bytes ≡ Ok p → (header_in p).source ≡ row q.from) (label : (l : ℕ) (k : Kind) → part_of q.bytes ≡ request l k → label_of q.bytes ≡ l) where
  -- the last request that the node remembers
  pub remembered_is : (p : Packet) (l : ℕ) (k : Kind) → reading q.bytes ≡ Ok p → part_of q.bytes ≡ request l k → seen_at (header_in p).source layer.filter (label_of q.bytes) ≡ record { last = t.seen (transaction q.generation q.from q.to l); rcode = t.given (transaction q.generation q.from q.to l) }
  remembered_is p l k e part =
      ap (λ s. seen_at s layer.filter (label_of q.bytes)) (source p e)
      ∙ ap (λ m. seen_at (row q.from) layer.filter m) (label l k part)
      ∙ n.seen_are q.from l refl

  agree_asks : (p : Packet) (l : ℕ) (k : Kind) → reading q.bytes ≡ Ok p → part_in p ≡ request l k → Agree layer t q (Ok p)
  agree_asks p l k e i =
      let a = asking_read q.bytes p l k e i in
      let part : part_of q.bytes ≡ request l k = part_read q.bytes p e ∙ i in
      record {
        awaited = ap (λ o. is_some (closed_by o layer p).0) a.asks ∙ sym (ap (λ x. is_awaited t x q) part);
        repeated =
            again_at layer.filter q.bytes (place_for (header_in p).source layer.filter)
            ∙ ap (λ (r : Remembered). is_write q.bytes && is_last r.last q.bytes) (remembered_is p l k e part)
            ∙ sym (ap (λ x. is_repeated t x q) part);
        response_is = ap is_some a.asks ∙ sym (ap is_response part);
      }

  agree_replies : (p : Packet) (l : ℕ) (k : Kind) → reading q.bytes ≡ Ok p → part_in p ≡ response l k → Agree layer t q (Ok p)
  agree_replies p l k e i =
      let a = answering_read q.bytes p l k e i in
      let part : part_of q.bytes ≡ response l k = part_read q.bytes p e ∙ i in
      let u : Transaction = transaction q.generation q.to q.from l in
      let state : shape (state_for layer.peers (header_in p).source (header_in p).label) ≡ shape_of (t.held u) =
      ap (λ s. shape (state_for layer.peers s (header_in p).label)) (source p e) ∙ ap (λ m. shape (state_for layer.peers (row q.from) m)) a.label ∙ n.states_are q.from l in
      record {
        awaited =
            ap (λ o. is_some (closed_by o layer p).0) a.kind
            ∙ awaited_by layer (header_in p).source (header_in p).label k (t.held u) (closing_step layer (header_in p).source (header_in p).label (kind_as k)) state (steps.closes layer (header_in p).source (header_in p).label (kind_as k) n.places)
            ∙ sym (ap (λ x. is_awaited t x q) part);
        repeated =
            again_at layer.filter q.bytes (place_for (header_in p).source layer.filter)
            ∙ ap (λ w. w && is_last (seen_in (place_for (header_in p).source layer.filter) layer.filter (label_of q.bytes)).last q.bytes) a.no_write
            ∙ sym (ap (λ x. is_repeated t x q) part);
        response_is = ap is_some a.kind ∙ sym (ap is_response part);
      }

  agree_by : (p : Packet) → reading q.bytes ≡ Ok p → PartOf p → Agree layer t q (Ok p)
  agree_by p e (asks l k i none) = agree_asks p l k e i
  agree_by p e (replies l k i some) = agree_replies p l k e i

  agree_read : (read : Result Packet PacketFault) → reading q.bytes ≡ read → Agree layer t q read
  agree_read (Err fault) e = record {
    awaited = sym (ap (λ x. is_awaited t x q) (part_fault q.bytes fault e));
    repeated = sym (ap (λ x. is_repeated t x q) (part_fault q.bytes fault e));
    response_is = sym (ap is_response (part_fault q.bytes fault e));
  }
  agree_read (Ok p) e = agree_by p e (part_case p)

  pub current_read : (read : Result Packet PacketFault) → (facts_in layer q.generation q.bytes read).is_current ≡ nat_eq q.generation layer.generation
  current_read (Err fault) = refl
  current_read (Ok p) = refl

  for_read : (read : Result Packet PacketFault) → reading q.bytes ≡ read → (facts_in layer q.generation q.bytes read).is_for_node ≡ is_to q.bytes (row q.to)
  for_read (Err fault) e = sym (to_fault q.bytes fault (row q.to) e)
  for_read (Ok p) e = ap (nat_eq (header_in p).destination) n.id ∙ sym (to_read q.bytes p (row q.to) e)

  made_of : (f h : Facts) → f.is_current ≡ h.is_current → f.is_for_node ≡ h.is_for_node → f.is_response ≡ h.is_response → f.is_awaited ≡ h.is_awaited → f.is_repeated ≡ h.is_repeated → f ≡ h
  made_of f h a b c d e =
      ap (λ x. facts x f.is_for_node f.is_response f.is_awaited f.is_repeated) a
      ∙ ap (λ x. facts h.is_current x f.is_response f.is_awaited f.is_repeated) b
      ∙ ap (λ x. facts h.is_current h.is_for_node x f.is_awaited f.is_repeated) c
      ∙ ap (λ x. facts h.is_current h.is_for_node h.is_response x f.is_repeated) d
      ∙ ap (λ x. facts h.is_current h.is_for_node h.is_response h.is_awaited x) e

  -- where the packet has the node's generation
  pub facts_agree : t.generation q.to ≡ q.generation → t.ids q.generation ≡ row → layers.facts_of layer q.generation q.bytes ≡ facts_of t q
  facts_agree now ids =
      let a = agree_read (reading q.bytes) refl in
      made_of (layers.facts_of layer q.generation q.bytes) (facts_of t q)
      (current_read (reading q.bytes) ∙ ap (nat_eq q.generation) (n.generation ∙ sym now))
      (for_read (reading q.bytes) refl ∙ ap (λ (r : ℕ → ℕ). is_to q.bytes (r q.to)) (sym ids))
      a.response_is a.awaited a.repeated
