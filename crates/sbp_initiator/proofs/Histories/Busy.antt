-- Which one of two kinds of transaction is under way: a write of ORB_POINTER or of AGENT_RESET. There is at most one of both kinds together.
use Rattle.std.proofs.Common.{◌≡◌, refl, sym, ap, subst, ◌∙◌, ℕ, nat_lt, is_some, Bool, true, false, cond, List, ◌∷◌, Option, Some, None, Result, Ok, Err}
use Rattle.async_packet.specs.Labels.{LabelParts}
use Rattle.async_packet.specs.Packet.{Packet, header_in}
use Rattle.async_packet.specs.Reading.{reading}
use Rattle.async_packet.specs.declared.fault.PacketFault.{PacketFault}
use Rattle.label_table.specs.declared.judgement.Asked.{Asked}
use Rattle.label_table.specs.declared.reply.ReplyKind.{ReplyKind}
use Rattle.label_table.specs.declared.reply.Stale.{Stale}
use Rattle.label_table.specs.Bodies.{Body}
use Rattle.label_table.specs.Requests.{reply_kind, kind_of}
use Rattle.label_table.specs.Layer.{Layer, Finding, of_generation, of_grammar, of_label, of_response, of_again, of_request, answering_step, asking_step, expiring_step, judging_step, seeing_step, unlabelled}
use Rattle.label_table.specs.History.{Call, judges, answers, asks, lets_expire, sees, Told, began, closed, expired, was_stale, unknown, forgotten, Life, not_begun, under_way, over, is_same, after, told_by_asking, told_by_finding, told_by_expiring, told_by_reading, told_closed, told_unknown, and_before, history, ended, life, IsFor, AreTold}
use Rattle.label_table.proofs.Calls.{told_law}
use Rattle.sbp_initiator.specs.declared.purpose.Purpose.{Purpose}
use Rattle.sbp_initiator.specs.declared.purpose.Purpose.TheVariants as purposes
use Rattle.sbp_initiator.proofs.Histories.Lives.{of_same, same_of}
use Rattle.sbp_initiator.proofs.Histories.Purposes.{kind_in}

abbrev Calls : Type 0
Calls = List (Call Purpose)

abbrev Notes : Type 0
Notes = List (Told Purpose)

-- neither is under way; a write of ORB_POINTER, for this list; or one of AGENT_RESET, of this action
pub data Busy : Type 0 where
  idle : Busy
  points_to : (list : ℕ) → Busy
  resets_for : (act : ℕ) → Busy

abbrev pub busy_of : Purpose → Busy
busy_of (purposes.Pointer list) = points_to list
busy_of (purposes.AgentReset act) = resets_for act
busy_of _ = idle

abbrev pub is_busy : Busy → Bool
is_busy idle = false
is_busy (points_to list) = true
is_busy (resets_for act) = true

-- behind a request, and behind the end of a transaction
abbrev pub busy_with : Purpose → Busy → Busy
busy_with purpose busy = cond (is_busy (busy_of purpose)) (busy_of purpose) busy

abbrev pub busy_past : Option Purpose → Busy → Busy
busy_past None busy = busy
busy_past (Some purpose) busy = cond (is_busy (busy_of purpose)) idle busy

abbrev pub busy_found : Finding Purpose → Busy → Busy
busy_found (of_response p label purpose) busy = busy_past purpose busy
busy_found _ busy = busy

abbrev pub busy_out : Result (Option Purpose) Stale → Busy → Busy
busy_out (Ok purpose) busy = busy_past purpose busy
busy_out (Err stale) busy = busy

-- ---- by what was told

-- one of these is under way somewhere
pub record Somewhere (busy : Busy) (notes : Notes) : Type 0 where
  pub peer : ℕ
  pub label : LabelParts
  pub kind : ReplyKind
  pub purpose : Purpose
  pub lives : life peer label notes ≡ under_way kind (Some purpose)
  pub same : busy_of purpose ≡ busy

-- and it is the only one
pub record One (busy : Busy) (notes : Notes) : Type 0 where
  pub has : (p : ℕ) (l : LabelParts) (k : ReplyKind) (q : Purpose) → life p l notes ≡ under_way k (Some q) → is_busy (busy_of q) ≡ true → busy ≡ busy_of q
  pub sole : (p : ℕ) (l : LabelParts) (k : ReplyKind) (q : Purpose) (p' : ℕ) (l' : LabelParts) (k' : ReplyKind) (q' : Purpose) → life p l notes ≡ under_way k (Some q) → life p' l' notes ≡ under_way k' (Some q') → is_busy (busy_of q) ≡ true → is_busy (busy_of q') ≡ true → is_same p l p' l' ≡ true
  pub is : is_busy busy ≡ true → Somewhere busy notes

untrue : {A : Type 0} → false ≡ true → A
untrue e = absurd (differ e)
  where
    differ : false ≡ true → ⊥
    differ e = cc

label_same : (l m : LabelParts) → l.number ≡ m.number → l.generation ≡ m.generation → l.serial ≡ m.serial → l ≡ m
label_same l m a b c =
    ap (λ (n : ℕ). record l { number = n }) a ∙ ap (λ (n : ℕ). record l { number = m.number; generation = n }) b ∙ ap (λ (n : ℕ). record m { serial = n }) c

life_same : (p : ℕ) (l : LabelParts) (q : ℕ) (m : LabelParts) (notes : Notes) → is_same p l q m ≡ true → life p l notes ≡ life q m notes
life_same p l q m notes e =
    let s = same_of p l q m e in
    ap (λ (n : ℕ). life n l notes) s.peer ∙ ap (λ (x : LabelParts). life q x notes) (label_same l m s.number s.generation s.serial)

same_self : (p : ℕ) (l : LabelParts) → is_same p l p l ≡ true
same_self p l = of_same p l p l (record { peer = refl; number = refl; generation = refl; serial = refl })

-- a transaction that is under way
abbrev Runs : Life Purpose → ReplyKind → Purpose → Type 0
Runs x kind purpose = x ≡ under_way kind (Some purpose)

ended_runs : (x : Life Purpose) (k : ReplyKind) (q : Purpose) → Runs (ended x) k q → ⊥
ended_runs not_begun k q e = cc
ended_runs (under_way kind purpose) k q e = cc
ended_runs over k q e = cc

still_runs : (c : Bool) (x : Life Purpose) (k : ReplyKind) (q : Purpose) → Runs (cond c (ended x) x) k q → (c ≡ false) × Runs x k q
still_runs true x k q e = absurd (ended_runs x k q e)
still_runs false x k q e = (refl, e)

purpose_is : (k k' : ReplyKind) (q q' : Purpose) → under_way k (Some q) ≡ under_way k' (Some q') → q ≡ q'
purpose_is k k' q q' e = cc

option_is : (k k' : ReplyKind) (q q' : Option Purpose) → under_way k q ≡ under_way k' q' → q ≡ q'
option_is k k' q q' e = cc

differ : (b c : Bool) → b ≡ false → b ≡ true → ⊥
differ b c e f = untrue (sym e ∙ f)

-- ---- a transaction ends

module _ (busy : Busy) (notes : Notes) (one : One busy notes) (p : ℕ) (l : LabelParts) (kd : ReplyKind) where
  -- another one is under way still
  has_as : (b : Bool) (purpose : Purpose) → life p l notes ≡ under_way kd (Some purpose) → is_busy (busy_of purpose) ≡ b → (p' : ℕ) (l' : LabelParts) (k : ReplyKind) (q : Purpose) → is_same p l p' l' ≡ false → Runs (life p' l' notes) k q → is_busy (busy_of q) ≡ true → cond b idle busy ≡ busy_of q
  has_as true purpose w f p' l' k q d e g =
      absurd (differ (is_same p l p' l') false d (one.sole p l kd purpose p' l' k q w e f g))
  has_as false purpose w f p' l' k q d e g = one.has p' l' k q e g

  has_past : (purpose : Option Purpose) → life p l notes ≡ under_way kd purpose → (p' : ℕ) (l' : LabelParts) (k : ReplyKind) (q : Purpose) → is_same p l p' l' ≡ false → Runs (life p' l' notes) k q → is_busy (busy_of q) ≡ true → busy_past purpose busy ≡ busy_of q
  has_past None w p' l' k q d e g = one.has p' l' k q e g
  has_past (Some purpose) w p' l' k q d e g = has_as (is_busy (busy_of purpose)) purpose w refl p' l' k q d e g

  -- the one that was busy is another
  elsewhere : (c : Bool) (purpose : Option Purpose) → life p l notes ≡ under_way kd purpose → (s : Somewhere busy notes) → is_same p l s.peer s.label ≡ c → (purpose ≡ Some s.purpose → ⊥) → cond c (ended (life s.peer s.label notes)) (life s.peer s.label notes) ≡ under_way s.kind (Some s.purpose)
  elsewhere true purpose w s e n =
      absurd (n (option_is kd s.kind purpose (Some s.purpose) (sym w ∙ life_same p l s.peer s.label notes e ∙ s.lives)))
  elsewhere false purpose w s e n = s.lives

  somewhere_past : (purpose : Option Purpose) → life p l notes ≡ under_way kd purpose → (s : Somewhere busy notes) → (purpose ≡ Some s.purpose → ⊥) → (note : Told Purpose) → ((q : ℕ) (m : LabelParts) → life q m (note ∷ notes) ≡ cond (is_same p l q m) (ended (life q m notes)) (life q m notes)) → Somewhere busy (note ∷ notes)
  somewhere_past purpose w s n note f = record {
    peer = s.peer;
    label = s.label;
    kind = s.kind;
    purpose = s.purpose;
    lives = f s.peer s.label ∙ elsewhere (is_same p l s.peer s.label) purpose w s refl n;
    same = s.same;
  }

  some_is : (a b : Purpose) → Some a ≡ Some b → a ≡ b
  some_is a b e = cc

  none_is : (b : Purpose) → None ≡ Some b → ⊥
  none_is b e = cc

  is_as : (b : Bool) (purpose : Purpose) → life p l notes ≡ under_way kd (Some purpose) → is_busy (busy_of purpose) ≡ b → (note : Told Purpose) → ((q : ℕ) (m : LabelParts) → life q m (note ∷ notes) ≡ cond (is_same p l q m) (ended (life q m notes)) (life q m notes)) → is_busy (cond b idle busy) ≡ true → Somewhere (cond b idle busy) (note ∷ notes)
  is_as true purpose w e note f h = untrue h
  is_as false purpose w e note f h =
      let s = one.is h in
      somewhere_past (Some purpose) w s
      (λ g. differ (is_busy (busy_of purpose)) false e (ap (λ (x : Purpose). is_busy (busy_of x)) (some_is purpose s.purpose g) ∙ ap is_busy s.same ∙ h)) note f

  is_past : (purpose : Option Purpose) → life p l notes ≡ under_way kd purpose → (note : Told Purpose) → ((q : ℕ) (m : LabelParts) → life q m (note ∷ notes) ≡ cond (is_same p l q m) (ended (life q m notes)) (life q m notes)) → is_busy (busy_past purpose busy) ≡ true → Somewhere (busy_past purpose busy) (note ∷ notes)
  is_past None w note f h = let s = one.is h in somewhere_past None w s (λ g. none_is s.purpose g) note f
  is_past (Some purpose) w note f h = is_as (is_busy (busy_of purpose)) purpose w refl note f h

  one_past : (purpose : Option Purpose) → life p l notes ≡ under_way kd purpose → (note : Told Purpose) → ((q : ℕ) (m : LabelParts) → life q m (note ∷ notes) ≡ cond (is_same p l q m) (ended (life q m notes)) (life q m notes)) → One (busy_past purpose busy) (note ∷ notes)
  one_past purpose w note f = record {
    has = λ p' l' k q e g.
        let r = still_runs (is_same p l p' l') (life p' l' notes) k q (sym (f p' l') ∙ e) in has_past purpose w p' l' k q r.0 r.1 g;
    sole = λ p1 l1 k1 q1 p2 l2 k2 q2 e g.
        one.sole p1 l1 k1 q1 p2 l2 k2 q2
        (still_runs (is_same p l p1 l1) (life p1 l1 notes) k1 q1 (sym (f p1 l1) ∙ e)).1
        (still_runs (is_same p l p2 l2) (life p2 l2 notes) k2 q2 (sym (f p2 l2) ∙ g)).1;
    is = λ h. is_past purpose w note f h;
  }

one_closed : (busy : Busy) (notes : Notes) → One busy notes → (purpose : Option Purpose) (p : ℕ) (l : LabelParts) (kd : ReplyKind) → life p l notes ≡ under_way kd purpose → One (busy_past purpose busy) (closed p l kd purpose ∷ notes)
one_closed busy notes one purpose p l kd w =
    one_past busy notes one p l kd purpose w (closed p l kd purpose) (λ q m. refl)

one_expired : (busy : Busy) (notes : Notes) → One busy notes → (purpose : Option Purpose) (p : ℕ) (l : LabelParts) (kd : ReplyKind) → life p l notes ≡ under_way kd purpose → One (busy_past purpose busy) (expired p l purpose ∷ notes)
one_expired busy notes one purpose p l kd w = one_past busy notes one p l kd purpose w (expired p l purpose) (λ q m. refl)

-- ---- a note that leaves every transaction as it was

one_same : (busy : Busy) (notes : Notes) (note : Told Purpose) → One busy notes → ((q : ℕ) (m : LabelParts) → life q m (note ∷ notes) ≡ life q m notes) → One busy (note ∷ notes)
one_same busy notes note one f = record {
  has = λ p l k q e g. one.has p l k q (sym (f p l) ∙ e) g;
  sole = λ p l k q p' l' k' q' e g. one.sole p l k q p' l' k' q' (sym (f p l) ∙ e) (sym (f p' l') ∙ g);
  is = λ h.
      let s = one.is h in
      record { peer = s.peer; label = s.label; kind = s.kind; purpose = s.purpose; lives = f s.peer s.label ∙ s.lives; same = s.same };
}

module _ (busy : Busy) (notes : Notes) (one : One busy notes) where
  one_unknown : (kind : Option ReplyKind) (p : Packet) → One busy (and_before (told_unknown p kind) notes)
  one_unknown None p = one
  one_unknown (Some kind) p = one_same busy notes (unknown (header_in p).source (header_in p).label kind) one (λ q m. refl)

  one_reading : (read : Result Packet PacketFault) → One busy (and_before (told_by_reading read) notes)
  one_reading (Err fault) = one
  one_reading (Ok p) = one_unknown (reply_kind p) p

  one_response : (kind : Option ReplyKind) (p : Packet) (label : LabelParts) (purpose : Option Purpose) → is_some kind ≡ true → AreTold (and_before (told_closed p label purpose kind) notes) → One (busy_past purpose busy) (and_before (told_closed p label purpose kind) notes)
  one_response None p label purpose s a = untrue s
  one_response (Some kind) p label purpose s a = one_closed busy notes one purpose (header_in p).source label kind a.0

  one_found : (finding : Finding Purpose) (bytes : List ℕ) → ((p : Packet) (label : LabelParts) (purpose : Option Purpose) → finding ≡ of_response p label purpose → is_some (reply_kind p) ≡ true) → AreTold (and_before (told_by_finding finding bytes) notes) → One (busy_found finding busy) (and_before (told_by_finding finding bytes) notes)
  one_found of_generation bytes s a = one
  one_found of_grammar bytes s a = one
  one_found of_label bytes s a = one_reading (reading bytes)
  one_found (of_response p label purpose) bytes s a = one_response (reply_kind p) p label purpose (s p label purpose refl) a
  one_found (of_again p rcode) bytes s a = one
  one_found (of_request p) bytes s a = one

  one_for : (x : Life Purpose) (purpose : Option Purpose) (q : ℕ) (m : LabelParts) → life q m notes ≡ x → IsFor purpose x → One (busy_past purpose busy) (expired q m purpose ∷ notes)
  one_for not_begun purpose q m w f = absurd f
  one_for (under_way kind that) purpose q m w f =
      one_expired busy notes one purpose q m kind (w ∙ ap (λ (o : Option Purpose). under_way kind o) f)
  one_for over purpose q m w f = absurd f

  one_out : (r : Result (Option Purpose) Stale) (peer : ℕ) (label : LabelParts) → AreTold (and_before (told_by_expiring peer label r) notes) → One (busy_out r busy) (and_before (told_by_expiring peer label r) notes)
  one_out (Ok purpose) peer label a = one_for (life peer label notes) purpose peer label refl a.0
  one_out (Err stale) peer label a = one_same busy notes (was_stale peer label) one (λ q m. refl)

  one_seen : (c : Bool) → One (cond c idle busy) (and_before (cond c (Some forgotten) None) notes)
  one_seen true = record {
    has = λ p l k q e g. absurd (ended_runs (life p l notes) k q e);
    sole = λ p l k q p' l' k' q' e. absurd (ended_runs (life p l notes) k q e);
    is = λ h. untrue h;
  }
  one_seen false = one

-- ---- a request

-- no other of these is under way as one is asked for
pub record IsFreeFor (purpose : Purpose) (busy : Busy) : Type 0 where
  pub free : is_busy (busy_of purpose) ≡ true → busy ≡ idle

module _ (busy : Busy) (notes : Notes) (one : One busy notes) (p : ℕ) (l : LabelParts) (kd : ReplyKind) (purpose : Purpose) (free : IsFreeFor purpose busy) (new : life p l notes ≡ not_begun) where
  -- another one that is busy is under way: then the new one is not
  not_both : (p' : ℕ) (l' : LabelParts) (k : ReplyKind) (q : Purpose) → Runs (life p' l' notes) k q → is_busy (busy_of q) ≡ true → is_busy (busy_of purpose) ≡ true → ⊥
  not_both p' l' k q e g h = untrue (ap is_busy (sym (free.free h) ∙ one.has p' l' k q e g) ∙ g)

  began_has_as : (b : Bool) → is_busy (busy_of purpose) ≡ b → (c : Bool) (p' : ℕ) (l' : LabelParts) (k : ReplyKind) (q : Purpose) → Runs (cond c (under_way kd (Some purpose)) (life p' l' notes)) k q → is_busy (busy_of q) ≡ true → cond b (busy_of purpose) busy ≡ busy_of q
  began_has_as true h true p' l' k q e g = ap busy_of (purpose_is kd k purpose q e)
  began_has_as true h false p' l' k q e g = absurd (not_both p' l' k q e g h)
  began_has_as false h true p' l' k q e g =
      absurd (differ (is_busy (busy_of purpose)) false h (ap (λ (x : Purpose). is_busy (busy_of x)) (purpose_is kd k purpose q e) ∙ g))
  began_has_as false h false p' l' k q e g = one.has p' l' k q e g

  its : (k : ReplyKind) (q : Purpose) → under_way kd (Some purpose) ≡ under_way k (Some q) → is_busy (busy_of q) ≡ true → is_busy (busy_of purpose) ≡ true
  its k q e g = ap (λ (x : Purpose). is_busy (busy_of x)) (purpose_is kd k purpose q e) ∙ g

  both_same : (p1 : ℕ) (l1 : LabelParts) (p2 : ℕ) (l2 : LabelParts) → is_same p l p1 l1 ≡ true → is_same p l p2 l2 ≡ true → is_same p1 l1 p2 l2 ≡ true
  both_same p1 l1 p2 l2 e f =
      let a = same_of p l p1 l1 e in
      let b = same_of p l p2 l2 f in
      of_same p1 l1 p2 l2 (record { peer = sym a.peer ∙ b.peer; number = sym a.number ∙ b.number; generation = sym a.generation ∙ b.generation; serial = sym a.serial ∙ b.serial })

  began_sole : (c d : Bool) (p1 : ℕ) (l1 : LabelParts) (k1 : ReplyKind) (q1 : Purpose) (p2 : ℕ) (l2 : LabelParts) (k2 : ReplyKind) (q2 : Purpose) → is_same p l p1 l1 ≡ c → is_same p l p2 l2 ≡ d → Runs (cond c (under_way kd (Some purpose)) (life p1 l1 notes)) k1 q1 → Runs (cond d (under_way kd (Some purpose)) (life p2 l2 notes)) k2 q2 → is_busy (busy_of q1) ≡ true → is_busy (busy_of q2) ≡ true → is_same p1 l1 p2 l2 ≡ true
  began_sole true true p1 l1 k1 q1 p2 l2 k2 q2 a b e f g h = both_same p1 l1 p2 l2 a b
  began_sole true false p1 l1 k1 q1 p2 l2 k2 q2 a b e f g h = absurd (not_both p2 l2 k2 q2 f h (its k1 q1 e g))
  began_sole false true p1 l1 k1 q1 p2 l2 k2 q2 a b e f g h = absurd (not_both p1 l1 k1 q1 e g (its k2 q2 f h))
  began_sole false false p1 l1 k1 q1 p2 l2 k2 q2 a b e f g h = one.sole p1 l1 k1 q1 p2 l2 k2 q2 e f g h

  begun_not : (k : ReplyKind) (q : Purpose) → not_begun ≡ under_way k (Some q) → ⊥
  begun_not k q e = cc

  began_else : (c : Bool) (s : Somewhere busy notes) → is_same p l s.peer s.label ≡ c → cond c (under_way kd (Some purpose)) (life s.peer s.label notes) ≡ under_way s.kind (Some s.purpose)
  began_else true s e = absurd (begun_not s.kind s.purpose (sym new ∙ life_same p l s.peer s.label notes e ∙ s.lives))
  began_else false s e = s.lives

  began_is_as : (b : Bool) → is_busy (busy_of purpose) ≡ b → is_busy (cond b (busy_of purpose) busy) ≡ true → Somewhere (cond b (busy_of purpose) busy) (began p l kd purpose ∷ notes)
  began_is_as true e h = record {
    peer = p;
    label = l;
    kind = kd;
    purpose = purpose;
    lives = ap (λ (c : Bool). cond c (under_way kd (Some purpose)) (life p l notes)) (same_self p l);
    same = refl;
  }
  began_is_as false e h =
      let s = one.is h in
      record { peer = s.peer; label = s.label; kind = s.kind; purpose = s.purpose; lives = began_else (is_same p l s.peer s.label) s refl; same = s.same }

  one_began : One (busy_with purpose busy) (began p l kd purpose ∷ notes)
  one_began = record {
    has = λ p' l' k q e g. began_has_as (is_busy (busy_of purpose)) refl (is_same p l p' l') p' l' k q e g;
    sole = λ p1 l1 k1 q1 p2 l2 k2 q2 e f g h.
        began_sole (is_same p l p1 l1) (is_same p l p2 l2) p1 l1 k1 q1 p2 l2 k2 q2 refl refl e f g h;
    is = λ h. began_is_as (is_busy (busy_of purpose)) refl h;
  }

-- ---- over the calls of a layer

-- a layer, by calls beside whose transactions one of these at most is under way
pub record Alone (node : ℕ) (busy : Busy) (layer : Layer Purpose) : Type 0 where
  pub calls : List (Call Purpose)
  pub layer_is : after node calls ≡ layer
  pub one : One busy (history node calls)

module _ {node : ℕ} {busy : Busy} {layer : Layer Purpose} where
  pub judge_alone : (generation : ℕ) (bytes : List ℕ) → Alone node busy layer → Alone node (busy_found (judging_step layer generation bytes).0 busy) (judging_step layer generation bytes).1
  judge_alone generation bytes w = record {
    calls = judges generation bytes ∷ w.calls;
    layer_is = ap (λ (l : Layer Purpose). (judging_step l generation bytes).1) w.layer_is;
    one = subst (λ (l : Layer Purpose). One (busy_found (judging_step l generation bytes).0 busy) (history node (judges generation bytes ∷ w.calls))) w.layer_is
        (one_found busy (history node w.calls) w.one (judging_step (after node w.calls) generation bytes).0 bytes
        (λ p label purpose e. kind_in (after node w.calls) generation bytes p label purpose e) (told_law Purpose node (judges generation bytes ∷ w.calls)));
  }

  pub expire_alone : (peer : ℕ) (label : LabelParts) → Alone node busy layer → Alone node (busy_out (expiring_step layer peer label).0 busy) (expiring_step layer peer label).1
  expire_alone peer label w = record {
    calls = lets_expire peer label ∷ w.calls;
    layer_is = ap (λ (l : Layer Purpose). (expiring_step l peer label).1) w.layer_is;
    one = subst (λ (l : Layer Purpose). One (busy_out (expiring_step l peer label).0 busy) (history node (lets_expire peer label ∷ w.calls))) w.layer_is
        (one_out busy (history node w.calls) w.one (expiring_step (after node w.calls) peer label).0 peer label (told_law Purpose node (lets_expire peer label ∷ w.calls)));
  }

  pub see_alone : (generation id : ℕ) → Alone node busy layer → Alone node (cond (nat_lt layer.generation generation) idle busy) (seeing_step layer generation id).1
  see_alone generation id w = record {
    calls = sees generation id ∷ w.calls;
    layer_is = ap (λ (l : Layer Purpose). (seeing_step l generation id).1) w.layer_is;
    one = subst (λ (l : Layer Purpose). One (cond (nat_lt l.generation generation) idle busy) (history node (sees generation id ∷ w.calls))) w.layer_is
        (one_seen busy (history node w.calls) w.one (nat_lt (after node w.calls).generation generation));
  }

  pub answer_alone : (p : Packet) (bytes : List ℕ) (rcode : ℕ) (given : List ℕ) → Alone node busy layer → Alone node busy (answering_step layer p bytes rcode given).1
  answer_alone p bytes rcode given w = record {
    calls = answers p bytes rcode given ∷ w.calls;
    layer_is = ap (λ (l : Layer Purpose). (answering_step l p bytes rcode given).1) w.layer_is;
    one = w.one;
  }

  pub ask_alone : (peer : ℕ) (body : Body) (purpose : Purpose) (asked : Asked) (new : Layer Purpose) → asking_step layer peer body purpose ≡ (Some asked, new) → IsFreeFor purpose busy → Alone node busy layer → Alone node (busy_with purpose busy) new
  ask_alone peer body purpose asked new e free w =
      let f = ap (λ (l : Layer Purpose). asking_step l peer body purpose) w.layer_is ∙ e in
      let kind = kind_of (unlabelled (after node w.calls) peer body) in
      let g : (asking_step (after node w.calls) peer body purpose).0 ≡ Some asked = ap (λ (q : Option Asked × Layer Purpose). q.0) f in
      let t : AreTold (began peer asked.label kind purpose ∷ history node w.calls) = subst (λ (x : Option Asked). AreTold (and_before (told_by_asking peer kind purpose x) (history node w.calls))) g (told_law Purpose node (asks peer body purpose ∷ w.calls)) in
      record {
        calls = asks peer body purpose ∷ w.calls;
        layer_is = ap (λ (q : Option Asked × Layer Purpose). q.1) f;
        one = subst (λ (x : Option Asked). One (busy_with purpose busy) (and_before (told_by_asking peer kind purpose x) (history node w.calls))) (sym g)
            (one_began busy (history node w.calls) w.one peer asked.label kind purpose free t.0.0);
      }

-- ---- what is closed, and what expires, where it is one of these

module _ {node : ℕ} {busy : Busy} {layer : Layer Purpose} (w : Alone node busy layer) where
  kinds_busy : (kind : Option ReplyKind) (p : Packet) (label : LabelParts) (purpose : Purpose) → is_some kind ≡ true → AreTold (and_before (told_closed p label (Some purpose) kind) (history node w.calls)) → is_busy (busy_of purpose) ≡ true → busy ≡ busy_of purpose
  kinds_busy None p label purpose s a g = untrue s
  kinds_busy (Some kind) p label purpose s a g = w.one.has (header_in p).source label kind purpose a.0 g

  pub closes_busy : (generation : ℕ) (bytes : List ℕ) (p : Packet) (label : LabelParts) (purpose : Purpose) → (judging_step layer generation bytes).0 ≡ of_response p label (Some purpose) → is_busy (busy_of purpose) ≡ true → busy ≡ busy_of purpose
  closes_busy generation bytes p label purpose e g =
      let f = ap (λ (l : Layer Purpose). (judging_step l generation bytes).0) w.layer_is ∙ e in
      let t = told_law Purpose node (judges generation bytes ∷ w.calls) in
      let u : AreTold (and_before (told_closed p label (Some purpose) (reply_kind p)) (history node w.calls)) = subst (λ (x : Finding Purpose). AreTold (and_before (told_by_finding x bytes) (history node w.calls))) f t in
      kinds_busy (reply_kind p) p label purpose (kind_in (after node w.calls) generation bytes p label (Some purpose) f) u g

  lives_busy : (x : Life Purpose) (peer : ℕ) (label : LabelParts) (purpose : Purpose) → life peer label (history node w.calls) ≡ x → IsFor (Some purpose) x → is_busy (busy_of purpose) ≡ true → busy ≡ busy_of purpose
  lives_busy not_begun peer label purpose e f g = absurd f
  lives_busy (under_way kind that) peer label purpose e f g =
      w.one.has peer label kind purpose (e ∙ ap (λ (o : Option Purpose). under_way kind o) f) g
  lives_busy over peer label purpose e f g = absurd f

  pub expires_busy : (peer : ℕ) (label : LabelParts) (purpose : Purpose) → (expiring_step layer peer label).0 ≡ Ok (Some purpose) → is_busy (busy_of purpose) ≡ true → busy ≡ busy_of purpose
  expires_busy peer label purpose e g =
      let f = ap (λ (l : Layer Purpose). (expiring_step l peer label).0) w.layer_is ∙ e in
      let t = told_law Purpose node (lets_expire peer label ∷ w.calls) in
      let u : AreTold (expired peer label (Some purpose) ∷ history node w.calls) = subst (λ (x : Result (Option Purpose) Stale). AreTold (and_before (told_by_expiring peer label x) (history node w.calls))) f t in
      lives_busy (life peer label (history node w.calls)) peer label purpose refl u.0 g
