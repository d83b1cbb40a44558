-- A transaction that ends is for what one was asked for.
use Rattle.std.proofs.Common.{◌≡◌, refl, sym, ap, subst, ◌∙◌, ℕ, nat_lt, is_some, Bool, true, false, cond, List, [], ◌∷◌, Option, Some, None, Result, Ok, Err}
use Rattle.async_packet.specs.Labels.{LabelParts}
use Rattle.async_packet.specs.Packet.{Packet, header_in}
use Rattle.async_packet.specs.Reading.{reading}
use Rattle.async_packet.specs.declared.fault.PacketFault.{PacketFault}
use Rattle.label_table.specs.declared.judgement.Asked.{Asked}
use Rattle.label_table.specs.declared.reply.ReplyKind.{ReplyKind}
use Rattle.label_table.specs.declared.reply.Stale.{Stale}
use Rattle.label_table.specs.Judging.{Row, by_generation, by_grammar, by_label, by_response, by_again, by_request, row_of}
use Rattle.label_table.specs.Requests.{reply_kind, kind_of}
use Rattle.label_table.specs.Layer.{Layer, Finding, of_generation, of_grammar, of_label, of_response, of_again, of_request, asking_step, closed_by, expiring_step, closing_step, facts_of, judged_by, judging_step, responded, unlabelled}
use Rattle.label_table.specs.History.{Call, judges, answers, asks, lets_expire, disowns, sees, Told, began, closed, expired, was_stale, disowned, unknown, forgotten, Life, not_begun, under_way, over, is_same, after, told_by_asking, told_by_finding, told_by_expiring, told_by_reading, told_closed, told_unknown, and_before, history, for_nobody, ended, life, IsFor, AreTold}
use Rattle.label_table.proofs.Calls.{told_law}
use Rattle.sbp_initiator.specs.declared.purpose.Purpose.{Purpose}

abbrev Calls : Type 0
Calls = List (Call Purpose)

abbrev Notes : Type 0
Notes = List (Told Purpose)

-- each request was asked for something of this kind
abbrev pub AllAsk : (Purpose → Type 0) → Calls → Type 0
AllAsk P [] = Unit {0}
AllAsk P (asks peer body purpose ∷ calls) = P purpose × AllAsk P calls
AllAsk P (_ ∷ calls) = AllAsk P calls

-- each transaction that began is of this kind
abbrev pub AllBegan : (Purpose → Type 0) → Notes → Type 0
AllBegan P [] = Unit {0}
AllBegan P (began peer label kind purpose ∷ notes) = P purpose × AllBegan P notes
AllBegan P (_ ∷ notes) = AllBegan P notes

-- what is kept where each one is of another kind too
pub all_ask : (P Q : Purpose → Type 0) → ((p : Purpose) → P p → Q p) → (calls : Calls) → AllAsk P calls → AllAsk Q calls
all_ask P Q f [] a = tt
all_ask P Q f (asks peer body purpose ∷ calls) a = (f purpose a.0, all_ask P Q f calls a.1)
all_ask P Q f (judges generation bytes ∷ calls) a = all_ask P Q f calls a
all_ask P Q f (answers request bytes rcode given ∷ calls) a = all_ask P Q f calls a
all_ask P Q f (lets_expire peer label ∷ calls) a = all_ask P Q f calls a
all_ask P Q f (disowns peer label ∷ calls) a = all_ask P Q f calls a
all_ask P Q f (sees generation node ∷ calls) a = all_ask P Q f calls a

module _ (P : Purpose → Type 0) where
  asked_began : (asked : Option Asked) (peer : ℕ) (kind : ReplyKind) (purpose : Purpose) (notes : Notes) → P purpose → AllBegan P notes → AllBegan P (and_before (told_by_asking peer kind purpose asked) notes)
  asked_began None peer kind purpose notes p a = a
  asked_began (Some asked) peer kind purpose notes p a = (p, a)

  kind_began : (kind : Option ReplyKind) (p : Packet) (notes : Notes) → AllBegan P notes → AllBegan P (and_before (told_unknown p kind) notes)
  kind_began None p notes a = a
  kind_began (Some kind) p notes a = a

  unknown_began : (read : Result Packet PacketFault) (notes : Notes) → AllBegan P notes → AllBegan P (and_before (told_by_reading read) notes)
  unknown_began (Err fault) notes a = a
  unknown_began (Ok p) notes a = kind_began (reply_kind p) p notes a

  closed_began : (kind : Option ReplyKind) (p : Packet) (label : LabelParts) (purpose : Option Purpose) (notes : Notes) → AllBegan P notes → AllBegan P (and_before (told_closed p label purpose kind) notes)
  closed_began None p label purpose notes a = a
  closed_began (Some kind) p label purpose notes a = a

  found_began : (finding : Finding Purpose) (bytes : List ℕ) (notes : Notes) → AllBegan P notes → AllBegan P (and_before (told_by_finding finding bytes) notes)
  found_began of_generation bytes notes a = a
  found_began of_grammar bytes notes a = a
  found_began of_label bytes notes a = unknown_began (reading bytes) notes a
  found_began (of_response p label purpose) bytes notes a = closed_began (reply_kind p) p label purpose notes a
  found_began (of_again p rcode) bytes notes a = a
  found_began (of_request p) bytes notes a = a

  expired_began : (r : Result (Option Purpose) Stale) (peer : ℕ) (label : LabelParts) (notes : Notes) → AllBegan P notes → AllBegan P (and_before (told_by_expiring peer label r) notes)
  expired_began (Ok purpose) peer label notes a = a
  expired_began (Err stale) peer label notes a = a

  seen_began : (c : Bool) (notes : Notes) → AllBegan P notes → AllBegan P (and_before (cond c (Some forgotten) None) notes)
  seen_began true notes a = a
  seen_began false notes a = a

  pub all_began : (node : ℕ) (calls : Calls) → AllAsk P calls → AllBegan P (history node calls)
  all_began node [] a = tt
  all_began node (asks peer body purpose ∷ calls) a =
      asked_began (asking_step (after node calls) peer body purpose).0 peer (kind_of (unlabelled (after node calls) peer body)) purpose (history node calls) a.0 (all_began node calls a.1)
  all_began node (judges generation bytes ∷ calls) a =
      found_began (judging_step (after node calls) generation bytes).0 bytes (history node calls) (all_began node calls a)
  all_began node (answers request bytes rcode given ∷ calls) a = all_began node calls a
  all_began node (lets_expire peer label ∷ calls) a =
      expired_began (expiring_step (after node calls) peer label).0 peer label (history node calls) (all_began node calls a)
  all_began node (disowns peer label ∷ calls) a = all_began node calls a
  all_began node (sees generation id ∷ calls) a =
      seen_began (nat_lt (after node calls).generation generation) (history node calls) (all_began node calls a)

-- ---- what is under way is for what was asked for

-- a transaction under way is for something of this kind, or for nobody
abbrev pub IsOf : (Purpose → Type 0) → Life Purpose → Type 0
IsOf P (under_way kind (Some purpose)) = P purpose
IsOf P _ = Unit {0}

ended_of : (P : Purpose → Type 0) (x : Life Purpose) → IsOf P (ended x)
ended_of P not_begun = tt
ended_of P (under_way kind purpose) = tt
ended_of P over = tt

nobody_of : (P : Purpose → Type 0) (x : Life Purpose) → IsOf P (for_nobody x)
nobody_of P not_begun = tt
nobody_of P (under_way kind purpose) = tt
nobody_of P over = tt

either_of : (P : Purpose → Type 0) (c : Bool) (x y : Life Purpose) → IsOf P x → IsOf P y → IsOf P (cond c x y)
either_of P true x y a b = a
either_of P false x y a b = b

pub life_of : (P : Purpose → Type 0) (peer : ℕ) (label : LabelParts) (notes : Notes) → AllBegan P notes → IsOf P (life peer label notes)
life_of P peer label [] a = tt
life_of P peer label (began other that kind purpose ∷ notes) a =
    either_of P (is_same other that peer label) (under_way kind (Some purpose)) (life peer label notes) a.0 (life_of P peer label notes a.1)
life_of P peer label (closed other that kind purpose ∷ notes) a =
    either_of P (is_same other that peer label) (ended (life peer label notes)) (life peer label notes) (ended_of P (life peer label notes)) (life_of P peer label notes a)
life_of P peer label (expired other that purpose ∷ notes) a =
    either_of P (is_same other that peer label) (ended (life peer label notes)) (life peer label notes) (ended_of P (life peer label notes)) (life_of P peer label notes a)
life_of P peer label (disowned other that ∷ notes) a =
    either_of P (is_same other that peer label) (for_nobody (life peer label notes)) (life peer label notes) (nobody_of P (life peer label notes)) (life_of P peer label notes a)
life_of P peer label (was_stale other that ∷ notes) a = life_of P peer label notes a
life_of P peer label (unknown other number kind ∷ notes) a = life_of P peer label notes a
life_of P peer label (forgotten ∷ notes) a = ended_of P (life peer label notes)

-- ---- what is closed or expires

abbrev pub IfFor : (Purpose → Type 0) → Option Purpose → Type 0
IfFor P None = Unit {0}
IfFor P (Some purpose) = P purpose

none_is : (q : Purpose) → None ≡ Some q → ⊥
none_is q e = cc

is_for : (P : Purpose → Type 0) (x : Life Purpose) (purpose : Option Purpose) → IsFor purpose x → IsOf P x → IfFor P purpose
is_for P x None f a = tt
is_for P (under_way kind (Some q)) (Some purpose) f a = subst (λ (o : Option Purpose). IfFor P o) f a
is_for P (under_way kind None) (Some purpose) f a = absurd (none_is purpose f)
is_for P not_begun (Some purpose) f a = absurd f
is_for P over (Some purpose) f a = absurd f

way_for : (x : Life Purpose) (kind : ReplyKind) (purpose : Option Purpose) → x ≡ under_way kind purpose → IsFor purpose x
way_for x kind purpose e = subst (λ (y : Life Purpose). IsFor purpose y) (sym e) refl

-- a response that closes has a kind
responded_same : (p q : Packet) (label : LabelParts) (purpose : Option Purpose) (c : Option (LabelParts × Option Purpose) × Layer Purpose) → (responded q c).0 ≡ of_response p label purpose → q ≡ p
responded_same p q label purpose (None, layer) f = cc
responded_same p q label purpose (Some (that, what), layer) f = cc

closed_kind : (p q : Packet) (label : LabelParts) (purpose : Option Purpose) (kind : Option ReplyKind) (layer : Layer Purpose) → reply_kind q ≡ kind → (responded q (closed_by kind layer q)).0 ≡ of_response p label purpose → is_some (reply_kind p) ≡ true
closed_kind p q label purpose None layer e f = cc
closed_kind p q label purpose (Some kind) layer e f =
    ap (λ (x : Packet). is_some (reply_kind x)) (sym (responded_same p q label purpose (closing_step layer (header_in q).source (header_in q).label kind) f)) ∙ ap is_some e

judged_kind : (row : Row) (layer : Layer Purpose) (bytes : List ℕ) (read : Result Packet PacketFault) (p : Packet) (label : LabelParts) (purpose : Option Purpose) → (judged_by row layer bytes read).0 ≡ of_response p label purpose → is_some (reply_kind p) ≡ true
judged_kind by_generation layer bytes read p label purpose f = cc
judged_kind by_grammar layer bytes read p label purpose f = cc
judged_kind by_label layer bytes read p label purpose f = cc
judged_kind by_response layer bytes (Ok q) p label purpose f = closed_kind p q label purpose (reply_kind q) layer refl f
judged_kind by_again layer bytes (Ok q) p label purpose f = cc
judged_kind by_request layer bytes (Ok q) p label purpose f = cc
judged_kind by_response layer bytes (Err fault) p label purpose f = cc
judged_kind by_again layer bytes (Err fault) p label purpose f = cc
judged_kind by_request layer bytes (Err fault) p label purpose f = cc

pub kind_in : (layer : Layer Purpose) (generation : ℕ) (bytes : List ℕ) (p : Packet) (label : LabelParts) (purpose : Option Purpose) → (judging_step layer generation bytes).0 ≡ of_response p label purpose → is_some (reply_kind p) ≡ true
unfolding judging_step
kind_in layer generation bytes p label purpose f =
    judged_kind (row_of (facts_of layer generation bytes)) layer bytes (reading bytes) p label purpose f

untrue : false ≡ true → ⊥
untrue e = cc

told_kind : (kind : Option ReplyKind) (p : Packet) (label : LabelParts) (purpose : Option Purpose) (notes : Notes) → is_some kind ≡ true → AreTold (and_before (told_closed p label purpose kind) notes) → IsFor purpose (life (header_in p).source label notes)
told_kind None p label purpose notes e a = absurd (untrue e)
told_kind (Some kind) p label purpose notes e a = way_for (life (header_in p).source label notes) kind purpose a.0

-- The response that closes a transaction closes one that was asked for something of this kind.
pub closes_asked : (P : Purpose → Type 0) (node : ℕ) (calls : Calls) (generation : ℕ) (bytes : List ℕ) (p : Packet) (label : LabelParts) (purpose : Option Purpose) → AllAsk P calls → (judging_step (after node calls) generation bytes).0 ≡ of_response p label purpose → IfFor P purpose
closes_asked P node calls generation bytes p label purpose a f =
    let t = told_law Purpose node (judges generation bytes ∷ calls) in
    let u : AreTold (and_before (told_closed p label purpose (reply_kind p)) (history node calls)) = subst (λ (x : Finding Purpose). AreTold (and_before (told_by_finding x bytes) (history node calls))) f t in
    is_for P (life (header_in p).source label (history node calls)) purpose
    (told_kind (reply_kind p) p label purpose (history node calls) (kind_in (after node calls) generation bytes p label purpose f) u)
    (life_of P (header_in p).source label (history node calls) (all_began P node calls a))

-- And so does one that expires.
pub expires_asked : (P : Purpose → Type 0) (node : ℕ) (calls : Calls) (peer : ℕ) (label : LabelParts) (purpose : Option Purpose) → AllAsk P calls → (expiring_step (after node calls) peer label).0 ≡ Ok purpose → IfFor P purpose
expires_asked P node calls peer label purpose a f =
    let t = told_law Purpose node (lets_expire peer label ∷ calls) in
    let u : AreTold (expired peer label purpose ∷ history node calls) = subst (λ (x : Result (Option Purpose) Stale). AreTold (and_before (told_by_expiring peer label x) (history node calls))) f t in
    is_for P (life peer label (history node calls)) purpose u.0 (life_of P peer label (history node calls) (all_began P node calls a))
