-- What is known of a transaction of an initiator that a response closes, or that times out.
use Rattle.sbp_world.proofs.Words.Std.{◌≡◌, refl, sym, ◌∙◌, ap, subst, ℕ, is_some, Bool, true, false, cond, List, ◌∷◌, Option, Some, None, Result, Ok, Err}
use Rattle.sbp_world.proofs.Words.Wire.{LabelParts, Packet, header_in, ReplyKind, Stale, Finding, Layer, expiring_step, judging_step, of_again, of_generation, of_grammar, of_label, of_request, of_response, IsFor, Life, Told, and_before, ended, expired, lets_expire, life, not_begun, over, told_by_expiring, told_by_finding, told_closed, under_way, state_for, reply_kind, Operation}
use Rattle.sbp_world.proofs.Words.Initiator.{Pointing, Purpose, Running, InitiatorState, ends_list, is_answered, is_unwritten, operation_in, IsReset, PointingAfter, UnderWay}
use Rattle.label_table.specs.declared.place.LabelState.TheVariants as states
use Rattle.label_table.specs.History.{is_same, judges}
use Rattle.label_table.specs.History as wire
use Rattle.label_table.proofs.Calls.{after_kept, told_law}
use Rattle.sbp_initiator.specs.declared.purpose.Pointing.TheVariants as pointings
use Rattle.sbp_initiator.specs.declared.purpose.Purpose.TheVariants as purposes
use Rattle.sbp_initiator.proofs.Histories.Lives.{of_same}
use Rattle.sbp_initiator.proofs.Histories.Purposes.{kind_in}
use Rattle.sbp_world.proofs.Hosts.Lives.{At, Called, at_life}
use Rattle.sbp_world.proofs.Pointers.Pends.{IfEnding, Pend}
use Rattle.sbp_world.proofs.Pointers.PendHears.{Ending, IfClosed, IfExpired}
use Rattle.sbp_world.proofs.Common.{untrue}

-- ---- it was under way

abbrev Notes : Type 0
Notes = List (Told Purpose)

-- a transaction under way, by what was told
record RunsFor (x : Life Purpose) (purpose : Option Purpose) : Type 0 where
  kind : ReplyKind
  is : x ≡ under_way kind purpose

runs_for : (x : Life Purpose) (purpose : Option Purpose) → IsFor purpose x → RunsFor x purpose
runs_for (under_way kind other) purpose f = record { kind = kind; is = ap (λ (q : Option Purpose). under_way kind q) f }
runs_for not_begun purpose f = absurd f
runs_for over purpose f = absurd f

at_layer : (node : ℕ) (calls : List (wire.Call Purpose)) (peer : ℕ) (label : LabelParts) (purpose : Option Purpose) → RunsFor (life peer label (wire.history node calls)) purpose → At (wire.after node calls) peer label.number purpose
at_layer node calls peer label purpose r =
    let k = after_kept node calls in
    record { kind = r.kind; serial = label.serial; state = k.agree.stands peer label r.kind purpose r.is; is_for = k.agree.is_for peer label r.kind purpose r.is }

told_kind : (kind : Option ReplyKind) (p : Packet) (label : LabelParts) (purpose : Option Purpose) (notes : Notes) → is_some kind ≡ true → wire.AreTold (and_before (told_closed p label purpose kind) notes) → RunsFor (life (header_in p).source label notes) purpose
told_kind None p label purpose notes e a = untrue e
told_kind (Some kind) p label purpose notes e a = record { kind = kind; is = a.0 }

pub closes_at : (layer : Layer Purpose) (generation : ℕ) (bytes : List ℕ) (p : Packet) (label : LabelParts) (purpose : Option Purpose) → Called layer → (judging_step layer generation bytes).0 ≡ of_response p label purpose → At layer (header_in p).source label.number purpose
closes_at layer generation bytes p label purpose c f =
    let old = wire.after c.node c.calls in
    let g : (judging_step old generation bytes).0 ≡ of_response p label purpose = ap (λ (l : Layer Purpose). (judging_step l generation bytes).0) c.is ∙ f in
    let t = told_law Purpose c.node (judges generation bytes ∷ c.calls) in
    let u : wire.AreTold (and_before (told_closed p label purpose (reply_kind p)) (wire.history c.node c.calls)) = subst (λ (x : Finding Purpose). wire.AreTold (and_before (told_by_finding x bytes) (wire.history c.node c.calls))) g t in
    subst (λ (l : Layer Purpose). At l (header_in p).source label.number purpose) c.is
    (at_layer c.node c.calls (header_in p).source label purpose (told_kind (reply_kind p) p label purpose (wire.history c.node c.calls) (kind_in old generation bytes p label purpose g) u))

pub none_ended : (x : Life Purpose) (kind : ReplyKind) (purpose : Option Purpose) → ended x ≡ under_way kind purpose → ⊥
none_ended not_begun kind purpose e = cc
none_ended (under_way that q) kind purpose e = cc
none_ended over kind purpose e = cc

pub same_serial : (k l : ReplyKind) (m n : ℕ) → states.UnderWay k m ≡ states.UnderWay l n → m ≡ n
same_serial k l m n e = cc

-- and is over then
module _ (layer : Layer Purpose) (generation : ℕ) (bytes : List ℕ) (p : Packet) (label : LabelParts) (purpose : Option Purpose) (c : Called layer) (f : (judging_step layer generation bytes).0 ≡ of_response p label purpose) where
  abbrev old : Layer Purpose
  old = wire.after c.node c.calls

  abbrev notes : Notes
  notes = wire.history c.node c.calls

  abbrev source : ℕ
  source = (header_in p).source

  g : (judging_step old generation bytes).0 ≡ of_response p label purpose
  g = ap (λ (l : Layer Purpose). (judging_step l generation bytes).0) c.is ∙ f

  was : RunsFor (life source label notes) purpose
  was =
      let t = told_law Purpose c.node (judges generation bytes ∷ c.calls) in
      told_kind (reply_kind p) p label purpose notes (kind_in old generation bytes p label purpose g)
      (subst (λ (x : Finding Purpose). wire.AreTold (and_before (told_by_finding x bytes) notes)) g t)

  -- one transaction has a label
  same_name : (name : LabelParts) (kind : ReplyKind) (q : Option Purpose) → name.number ≡ label.number → life source name notes ≡ under_way kind q → is_same source label source name ≡ true
  same_name name kind q n w =
      let agree = (after_kept c.node c.calls).agree in
      let a = agree.stands source label was.kind purpose was.is in
      let b = agree.stands source name kind q w in
      of_same source label source name (record {
        peer = refl;
        number = sym n;
        generation = agree.now source label was.kind purpose was.is ∙ sym (agree.now source name kind q w);
        serial = same_serial was.kind kind label.serial name.serial (sym a ∙ ap (state_for old.peers source) (sym n) ∙ b);
      })

  over_by : (b : Bool) (name : LabelParts) (kind : ReplyKind) (q : Option Purpose) → is_same source label source name ≡ b → name.number ≡ label.number → cond b (ended (life source name notes)) (life source name notes) ≡ under_way kind q → ⊥
  over_by true name kind q e n w = none_ended (life source name notes) kind q w
  over_by false name kind q e n w = untrue (sym e ∙ same_name name kind q n w)

  over_kind : (reply : Option ReplyKind) → is_some reply ≡ true → (name : LabelParts) (kind : ReplyKind) (q : Option Purpose) → name.number ≡ label.number → life source name (and_before (told_closed p label purpose reply) notes) ≡ under_way kind q → ⊥
  over_kind None e name kind q n w = untrue e
  over_kind (Some reply) e name kind q n w = over_by (is_same source label source name) name kind q refl n w

  pub closed_over : (q : Option Purpose) → At (judging_step layer generation bytes).1 source label.number q → ⊥
  closed_over q a =
      let call = judges generation bytes in
      let now = wire.after c.node (call ∷ c.calls) in
      let b : At now source label.number q = subst (λ (l : Layer Purpose). At (judging_step l generation bytes).1 source label.number q) (sym c.is) a in
      let name : LabelParts = record { number = label.number; generation = now.generation; serial = b.serial } in
      over_kind (reply_kind p) (kind_in old generation bytes p label purpose g) name b.kind q refl
      (subst (λ (x : Finding Purpose). life source name (and_before (told_by_finding x bytes) notes) ≡ under_way b.kind q) g (at_life c.node (call ∷ c.calls) source label.number q b))

pub expires_at : (layer : Layer Purpose) (peer : ℕ) (label : LabelParts) (purpose : Option Purpose) → Called layer → (expiring_step layer peer label).0 ≡ Ok purpose → At layer peer label.number purpose
expires_at layer peer label purpose c f =
    let old = wire.after c.node c.calls in
    let g : (expiring_step old peer label).0 ≡ Ok purpose = ap (λ (l : Layer Purpose). (expiring_step l peer label).0) c.is ∙ f in
    let t = told_law Purpose c.node (lets_expire peer label ∷ c.calls) in
    let u : wire.AreTold (expired peer label purpose ∷ wire.history c.node c.calls) = subst (λ (x : Result (Option Purpose) Stale). wire.AreTold (and_before (told_by_expiring peer label x) (wire.history c.node c.calls))) g t in
    subst (λ (l : Layer Purpose). At l peer label.number purpose) c.is
    (at_layer c.node c.calls peer label purpose (runs_for (life peer label (wire.history c.node c.calls)) purpose u.0))

-- ---- so it ends beside no ORB_POINTER that was written and not answered, or is that

abbrev pub is_pended : Pointing → Bool
is_pended pointings.Written = true
is_pended _ = false

pended_written : (mark : Pointing) (b : Bool) → is_pended mark ≡ b → (b ≡ true → mark ≡ pointings.Written)
pended_written pointings.Written b e f = refl
pended_written pointings.Unwritten b e f = untrue (e ∙ f)
pended_written pointings.Answered b e f = untrue (e ∙ f)

answered_free : (mark : Pointing) → is_answered mark ≡ true → is_pended mark ≡ false
answered_free pointings.Answered e = refl
answered_free pointings.Unwritten e = untrue e
answered_free pointings.Written e = untrue e

none_pended : (b : Bool) → (b ≡ true → true ≡ false) → b ≡ false
none_pended true f = f refl
none_pended false f = refl

-- no operation that ends lists is under way beside it
pub alone : {place : ℕ → ℕ} (s : InitiatorState) → Pend false place s → Ending (is_pended s.marks.pointing) s.operation
alone s k e = none_pended (is_pended s.marks.pointing) (λ f. sym e ∙ k.beside (pended_written s.marks.pointing (is_pended s.marks.pointing) refl f))

pub reset_ends : (act : ℕ) (operation : Option Running) → IsReset act operation → ends_list (operation_in operation) ≡ true
reset_ends act None r = absurd r
reset_ends act (Some running) r = ap (λ (x : Operation). ends_list (Some x)) r.1

module _ (s : InitiatorState) (pointing : PointingAfter s) (m : Ending (is_pended s.marks.pointing) s.operation) where
  under : (peer number : ℕ) (purpose : Purpose) → At s.layer peer number (Some purpose) → UnderWay s.layer purpose
  under peer number purpose a = record { peer = peer; number = number; serial = a.serial; kind = a.kind; state = a.state; is_for = a.is_for }

  ending_at : (peer number : ℕ) (purpose : Option Purpose) → At s.layer peer number purpose → IfEnding (is_pended s.marks.pointing) purpose s.lists.slots.present
  ending_at peer number None a = tt
  ending_at peer number (Some (purposes.Pointer list)) a = pointing.present (record { list = list; write = under peer number (purposes.Pointer list) a })
  ending_at peer number (Some (purposes.AgentReset act)) a = m (reset_ends act s.operation (pointing.resets act (under peer number (purposes.AgentReset act) a)))
  ending_at peer number (Some (purposes.State act None)) a = λ e. untrue e
  ending_at peer number (Some (purposes.State act (Some list))) a = λ e. answered_free s.marks.pointing (pointing.reads act list (under peer number (purposes.State act (Some list)) a) e)
  ending_at peer number (Some purposes.Doorbell) a = tt
  ending_at peer number (Some (purposes.Enable act)) a = tt
  ending_at peer number (Some (purposes.Management act)) a = tt
  ending_at peer number (Some (purposes.Rom act)) a = tt

  closed_by : (c : Called s.layer) (generation : ℕ) (bytes : List ℕ) (finding : Finding Purpose) → (judging_step s.layer generation bytes).0 ≡ finding → IfClosed (is_pended s.marks.pointing) finding s.lists.slots.present
  closed_by c generation bytes (of_response p label purpose) e = ending_at (header_in p).source label.number purpose (closes_at s.layer generation bytes p label purpose c e)
  closed_by c generation bytes of_generation e = tt
  closed_by c generation bytes of_grammar e = tt
  closed_by c generation bytes of_label e = tt
  closed_by c generation bytes (of_again p rcode) e = tt
  closed_by c generation bytes (of_request p) e = tt

  pub if_closed : (c : Called s.layer) (generation : ℕ) (bytes : List ℕ) → IfClosed (is_pended s.marks.pointing) (judging_step s.layer generation bytes).0 s.lists.slots.present
  if_closed c generation bytes = closed_by c generation bytes (judging_step s.layer generation bytes).0 refl

  expired_by : (c : Called s.layer) (label : LabelParts) (r : Result (Option Purpose) Stale) → (expiring_step s.layer s.target label).0 ≡ r → IfExpired (is_pended s.marks.pointing) r s.lists.slots.present
  expired_by c label (Ok purpose) e = ending_at s.target label.number purpose (expires_at s.layer s.target label purpose c e)
  expired_by c label (Err stale) e = tt

  pub if_expired : (c : Called s.layer) (label : LabelParts) → IfExpired (is_pended s.marks.pointing) (expiring_step s.layer s.target label).0 s.lists.slots.present
  if_expired c label = expired_by c label (expiring_step s.layer s.target label).0 refl

-- ---- what stays of the marks

pub stayed : {place : ℕ → ℕ} (s : InitiatorState) → Pend false place s → Pend (is_pended s.marks.pointing) place s
stayed s k = record { first = k.first; counts = k.counts; beside = k.beside; stays = λ e. unwritten_of s.marks.pointing e }
  where
    unwritten_of : (mark : Pointing) → is_pended mark ≡ true → is_unwritten mark ≡ false
    unwritten_of pointings.Written e = refl
    unwritten_of pointings.Unwritten e = untrue e
    unwritten_of pointings.Answered e = refl

pub loosened : {pended : Bool} {place : ℕ → ℕ} (s : InitiatorState) → Pend pended place s → Pend false place s
loosened s k = record { first = k.first; counts = k.counts; beside = k.beside; stays = λ e. untrue e }
