-- What the calls of an initiator tell, over every list of them.
use Rattle.std.proofs.Common.{◌≡◌, refl, sym, ap, subst, ◌∙◌, ℕ, ◌<◌, ◌++◌, append-nil, Bool, true, false, List, [], ◌∷◌, length, Option, Some, None, Result, Ok, Err}
use Rattle.async_packet.specs.Labels.{LabelParts}
use Rattle.async_packet.specs.Packet.{Packet}
use Rattle.label_table.specs.declared.reply.Stale.{Stale}
use Rattle.label_table.specs.Layer.{Layer, Finding, of_generation, of_grammar, of_label, of_response, of_again, of_request, answering_step, expiring_step, judging_step}
use Rattle.orb_list.specs.declared.list.PresentList.{PresentList}
use Rattle.sbp_session.specs.declared.seat.Seat.{Seat}
use Rattle.sbp_journal.specs.declared.note.Note.{Note}
use Rattle.sbp_journal.specs.declared.operation.OpWord.{OpWord}
use Rattle.sbp_journal.specs.declared.outbox.Outgoing.{Outgoing}
use Rattle.sbp_journal.specs.Outgoings.{OutboxState}
use Rattle.sbp_initiator.specs.declared.purpose.Ending.{Ending}
use Rattle.sbp_initiator.specs.declared.purpose.Ending.TheVariants as endings
use Rattle.sbp_initiator.specs.declared.purpose.Purpose.{Purpose}
use Rattle.sbp_initiator.specs.declared.purpose.Purpose.TheVariants as purposes
use Rattle.sbp_initiator.specs.declared.purpose.Running.{Running}
use Rattle.sbp_initiator.specs.declared.state.Counts.{Counts}
use Rattle.sbp_initiator.specs.declared.state.InitiatorState.{InitiatorState}
use Rattle.sbp_initiator.specs.States.{ending_of}
use Rattle.sbp_initiator.specs.Effects.{Turn, ended_for, ended_step}
use Rattle.sbp_initiator.specs.Histories.Laws.{Call, receives, lets_expire, done}
use Rattle.sbp_initiator.specs.Histories.Laws as laws
use Rattle.sbp_initiator.specs.Histories.Moves.{outgoing, response}
use Rattle.label_table.specs.History as wire
use Rattle.sbp_initiator.specs.Receiving.{called, expire_step, expired_as, receive_step, received}
use Rattle.sbp_initiator.specs.Judged.{IsSame}
use Rattle.sbp_initiator.proofs.Layers.{judged_same}
use Rattle.sbp_initiator.specs.Histories.Drops.{IfGone, drop_if, ends_the_list}
use Rattle.sbp_initiator.specs.Histories.Ends.{own, OpEnd, notes_of, OpMove, read_ends, fails_write, sticks_by}
use Rattle.sbp_initiator.specs.Histories.Marks.{CountsFor, expired_reads, finding_reads, read_over}
use Rattle.sbp_initiator.specs.Histories.Numbers.{is_numbered, carried, RisesTo}
use Rattle.sbp_initiator.specs.Histories.Taking.{block_notes, call_drops, call_fails, call_note, call_read, expired_fails, expired_read, finding_drops, finding_fails, finding_note, finding_read, purpose_fails, purpose_read}
use Rattle.sbp_initiator.specs.Histories.Tells.{is_heard, Tells}
use Rattle.sbp_initiator.proofs.Histories.Effects.{Asking, Fits, Holds, Past, Wired, ended_does}
use Rattle.sbp_initiator.proofs.Histories.Brings.{request_left}
use Rattle.sbp_initiator.proofs.Histories.Leaves.{for_leaves}
use Rattle.sbp_initiator.proofs.Histories.Lives.{IsNew, LivesIn, read_act, reads_with}
use Rattle.sbp_initiator.proofs.Histories.Purposes.{IfFor, all_ask, closes_asked, expires_asked}
use Rattle.sbp_initiator.proofs.Histories.Requests.{Answers, HasOrb, ignored_again, request_answers}
use Rattle.sbp_initiator.proofs.Histories.Wires.{Wire, judge_wire, expire_wire, answer_wire, ask_wire}

-- ---- what holds after every list of calls

-- the action that a transaction is for
abbrev pub act_in : Purpose → Option ℕ
act_in (purposes.AgentReset act) = Some act
act_in (purposes.Enable act) = Some act
act_in (purposes.Rom act) = Some act
act_in (purposes.Management act) = Some act
act_in (purposes.State act list) = Some act
act_in (purposes.Pointer list) = None
act_in purposes.Doorbell = None

abbrev pub IsEarlier : Option ℕ → ℕ → Type 0
IsEarlier None acts = Unit {0}
IsEarlier (Some act) acts = act < acts

abbrev pub WasPointed : (ℕ → Bool) → Purpose → Type 0
WasPointed pointed (purposes.Pointer list) = pointed list ≡ true
WasPointed pointed _ = Unit {0}

-- a transaction fits the operation under way, is for an earlier action, a read of AGENT_STATE counts for its list, and an ORB_POINTER is that of
-- a list for which it was asked
pub record FitsNow (operation : Option Running) (acts : ℕ) (counted : ℕ → Option ℕ) (pointed : ℕ → Bool) (purpose : Purpose) : Type 0 where
  pub fits : Fits purpose operation
  pub earlier : IsEarlier (act_in purpose) acts
  pub counts : CountsFor counted (Some purpose)
  pub points : WasPointed pointed purpose

-- the operation under way is of an earlier action
pub record IsBegun (operation : Option Running) (acts : ℕ) : Type 0 where
  pub before : (running : Running) → operation ≡ Some running → running.act < acts

pub record Sound (node : ℕ) (held : Past) (counted : ℕ → Option ℕ) (t : Turn) : Type 0 where
  pub wires : Wire (FitsNow t.1.operation t.1.counts.acts counted held.pointed) t.1.states node t.1.counts.running t.1.layer t.0.packets
  pub marks : Holds held t.1.lists t.1.marks.pointing
  pub sized : (m : ℕ) → length (held.places m) ≡ 32
  pub orb : HasOrb t.1.operation
  pub begun : IsBegun t.1.operation t.1.counts.acts

-- ---- the operation under way stays or ends

pub none_some : {A : Type 0} {B : Type 0} {a : A} → None ≡ Some a → B
none_some e = absurd (differ e)
  where
    differ : {A : Type 0} {a : A} → None ≡ Some a → ⊥
    differ e = cc

-- none is under way
pub fits_none : (purpose : Purpose) → Fits purpose None
fits_none (purposes.AgentReset act) = record { same = λ r e f. none_some e }
fits_none (purposes.Enable act) = record { same = λ r e f. none_some e }
fits_none (purposes.Rom act) = record { same = λ r e f. none_some e }
fits_none (purposes.Management act) = record { managed = λ r e f. none_some e }
fits_none (purposes.Pointer list) = tt
fits_none purposes.Doorbell = tt
fits_none (purposes.State act list) = tt

fits_move : (before : Option Running) (op : Option OpEnd) (after : Option Running) (purpose : Purpose) → OpMove before op after → Fits purpose before → Fits purpose after
fits_move before None after purpose m f = subst (λ (r : Option Running). Fits purpose r) (sym m) f
fits_move before (Some end) after purpose m f = subst (λ (r : Option Running). Fits purpose r) (sym m.1) (fits_none purpose)

orb_move : (before : Option Running) (op : Option OpEnd) (after : Option Running) → OpMove before op after → HasOrb before → HasOrb after
orb_move before None after m h = subst (λ (r : Option Running). HasOrb r) (sym m) h
orb_move before (Some end) after m h = subst (λ (r : Option Running). HasOrb r) (sym m.1) (record { managed = λ r e f. none_some e })

begun_move : (before : Option Running) (op : Option OpEnd) (after : Option Running) (n : ℕ) → OpMove before op after → IsBegun before n → IsBegun after n
begun_move before None after n m h = subst (λ (r : Option Running). IsBegun r n) (sym m) h
begun_move before (Some end) after n m h = subst (λ (r : Option Running). IsBegun r n) (sym m.1) (record { before = λ r e. none_some e })

-- what is kept by a call that no action is
module _ (node : ℕ) (held : Past) (counted : ℕ → Option ℕ) (s : InitiatorState) (op : Option OpEnd) (t : Turn) where
  kept_wire : (reads : List ℕ) → t.1.states ≡ reads → OpMove s.operation op t.1.operation → t.1.counts.acts ≡ s.counts.acts → t.1.counts.running ≡ s.counts.running → Wire (FitsNow s.operation s.counts.acts counted held.pointed) reads node s.counts.running t.1.layer t.0.packets → Wire (FitsNow t.1.operation t.1.counts.acts counted held.pointed) t.1.states node t.1.counts.running t.1.layer t.0.packets
  kept_wire reads x m a r w = record {
    calls = w.calls;
    layer_is = w.layer_is;
    packets_are = w.packets_are;
    rises = subst (λ (n : ℕ). RisesTo n (carried node w.calls)) (sym r) w.rises;
    asks = all_ask (FitsNow s.operation s.counts.acts counted held.pointed) (FitsNow t.1.operation t.1.counts.acts counted held.pointed)
        (λ p f. record { fits = fits_move s.operation op t.1.operation p m f.fits; earlier = subst (λ (n : ℕ). IsEarlier (act_in p) n) (sym a) f.earlier; counts = f.counts; points = f.points })
        w.calls w.asks;
    new = w.new;
    lives = subst (λ (l : List ℕ). LivesIn l (wire.history node w.calls)) (sym x) w.lives;
  }

  kept_sound : (reads : List ℕ) → t.1.states ≡ reads → (old : Turn) → Sound node held counted old → old.1.operation ≡ s.operation → old.1.counts.acts ≡ s.counts.acts → OpMove s.operation op t.1.operation → t.1.counts.acts ≡ s.counts.acts → t.1.counts.running ≡ s.counts.running → Holds held t.1.lists t.1.marks.pointing → Wire (FitsNow s.operation s.counts.acts counted held.pointed) reads node s.counts.running t.1.layer t.0.packets → Sound node held counted t
  kept_sound reads x old k e f m a r h w = record {
    wires = kept_wire reads x m a r w;
    marks = h;
    sized = k.sized;
    orb = orb_move s.operation op t.1.operation m (subst (λ (x : Option Running). HasOrb x) e k.orb);
    begun = subst (λ (n : ℕ). IsBegun t.1.operation n) (sym a)
        (begun_move s.operation op t.1.operation s.counts.acts m (subst (λ (n : ℕ). IsBegun s.operation n) f (subst (λ (x : Option Running). IsBegun x old.1.counts.acts) e k.begun)));
  }

-- ---- a transaction ends

untrue : false ≡ true → ⊥
untrue e = cc

-- a time-out drops no list
expired_drops : (purpose : Purpose) (present : Option PresentList) → ends_the_list purpose endings.Expired present ≡ false
expired_drops (purposes.AgentReset act) present = refl
expired_drops (purposes.Enable act) present = refl
expired_drops (purposes.Rom act) present = refl
expired_drops (purposes.Management act) present = refl
expired_drops (purposes.State act list) present = refl
expired_drops (purposes.Pointer list) present = refl
expired_drops purposes.Doorbell present = refl

-- what is told, and what holds afterwards
pub record Heard (node : ℕ) (held : Past) (counted : ℕ → Option ℕ) (first : Option Note) (drop : Option ℕ) (read : Option OpWord) (fails : Bool) (old new : Turn) : Type 0 where
  pub op : Option OpEnd
  pub sides : new.0.sides ≡ old.0.sides ++ own (block_notes first ++ notes_of old.1.number drop op read (sticks_by fails old.1.seat))
  pub move : OpMove old.1.operation op new.1.operation
  pub gone : IfGone drop new.1.lists.slots.present
  pub sound : Sound node held counted new

wired_on : (node : ℕ) (P : Purpose → Type 0) (reads : List ℕ) (purpose : Purpose) (o : OutboxState) (s : InitiatorState) (t : Turn) (asking : Option Asking) → Wired asking s.layer o.packets s.target t.1.layer t.0.packets → ((a : Asking) → asking ≡ Some a → a.purpose ≡ purpose) → ((a : Asking) → asking ≡ Some a → is_numbered a.purpose ≡ false) → ((a : Asking) → asking ≡ Some a → read_act a.purpose ≡ None) → P purpose → Wire P reads node s.counts.running s.layer o.packets → Wire P reads node s.counts.running t.1.layer t.0.packets
wired_on node P reads purpose o s t None wired same plain unread p w =
    subst (λ (ps : List Outgoing). Wire P reads node s.counts.running t.1.layer ps) (sym wired.1) (subst (λ (l : Layer Purpose). Wire P reads node s.counts.running l o.packets) (sym wired.0) w)
wired_on node P reads purpose o s t (Some a) wired same plain unread p w =
    let f = unread a refl in
    subst (λ (ps : List Outgoing). Wire P reads node s.counts.running t.1.layer ps) (sym wired.1)
    (subst (λ (x : Option ℕ). Wire P (reads_with x reads) node s.counts.running t.1.layer (o.packets ++ outgoing s.target a.asked ∷ [])) f
    (ask_wire s.target a.body a.purpose a.asked t.1.layer wired.0 (plain a refl) (subst P (sym (same a refl)) p) w (subst (λ (x : Option ℕ). IsNew x w.calls) (sym f) tt)))

-- the list that the end of a transaction drops
abbrev drop_for_purpose : Option Purpose → Ending → InitiatorState → Option ℕ
drop_for_purpose None ending s = None
drop_for_purpose (Some purpose) ending s = drop_if (ends_the_list purpose ending s.lists.slots.present) s.lists.slots.present

-- the layer of a state is another, by a call that closed a transaction
ended_heard : (node : ℕ) (held : Past) (counted : ℕ → Option ℕ) (old : Turn) (u : InitiatorState) (purpose : Option Purpose) (ending : Ending) → Sound node held counted old → u.operation ≡ old.1.operation → u.number ≡ old.1.number → u.seat ≡ old.1.seat → u.counts.acts ≡ old.1.counts.acts → u.counts.running ≡ old.1.counts.running → Holds held u.lists u.marks.pointing → Wire (FitsNow u.operation u.counts.acts counted held.pointed) (read_over purpose u.states) node u.counts.running u.layer old.0.packets → IfFor (FitsNow u.operation u.counts.acts counted held.pointed) purpose → Heard node held counted None (drop_for_purpose purpose ending u) (purpose_read purpose ending) (purpose_fails purpose ending) old (ended_for purpose ending old.0 u)
ended_heard node held counted old u None ending k op number seat acts running marks w f = record {
  op = None;
  sides = sym (append-nil old.0.sides);
  move = op;
  gone = tt;
  sound = kept_sound node held counted u None (old.0, u) u.states refl old k (sym op) (sym acts) refl refl refl marks w;
}
ended_heard node held counted old u (Some purpose) ending k op number seat acts running marks w f =
    let d = ended_does purpose ending old.0 u f.fits in
    let t = ended_step purpose ending old.0 u in
    record {
      op = d.does.op;
      sides = subst (λ (x : Seat). t.0.sides ≡ old.0.sides ++ own (notes_of old.1.number (drop_if (ends_the_list purpose ending u.lists.slots.present) u.lists.slots.present) d.does.op (read_ends purpose ending) (sticks_by (fails_write purpose ending) x))) seat
          (subst (λ (n : ℕ). t.0.sides ≡ old.0.sides ++ own (notes_of n (drop_if (ends_the_list purpose ending u.lists.slots.present) u.lists.slots.present) d.does.op (read_ends purpose ending) (sticks_by (fails_write purpose ending) u.seat))) number d.does.sides);
      move = subst (λ (r : Option Running). OpMove r d.does.op t.1.operation) op d.does.move;
      gone = d.does.gone;
      sound = kept_sound node held counted u d.does.op t (read_over (Some purpose) u.states) (for_leaves (Some purpose) ending old.0 u).states old k (sym op) (sym acts) d.does.move (ap (λ (c : Counts). c.acts) d.does.counts) (ap (λ (c : Counts). c.running) d.does.counts) (d.does.marks held marks)
          (wired_on node (FitsNow u.operation u.counts.acts counted held.pointed) (read_over (Some purpose) u.states) purpose old.0 u t d.asking d.does.wire d.same d.plain d.unread f w);
    }

-- ---- a delivery

pub judged_for : (node : ℕ) (P : Purpose → Type 0) (reads : List ℕ) (running : ℕ) (layer : Layer Purpose) (packets : List Outgoing) (generation : ℕ) (bytes : List ℕ) (p : Packet) (label : LabelParts) (purpose : Option Purpose) → Wire P reads node running layer packets → (judging_step layer generation bytes).0 ≡ of_response p label purpose → IfFor P purpose
judged_for node P reads running layer packets generation bytes p label purpose w e =
    closes_asked P node w.calls generation bytes p label purpose w.asks (ap (λ (l : Layer Purpose). (judging_step l generation bytes).0) w.layer_is ∙ e)

pub expired_for : (node : ℕ) (P : Purpose → Type 0) (reads : List ℕ) (running : ℕ) (layer : Layer Purpose) (packets : List Outgoing) (peer : ℕ) (label : LabelParts) (purpose : Option Purpose) → Wire P reads node running layer packets → (expiring_step layer peer label).0 ≡ Ok purpose → IfFor P purpose
expired_for node P reads running layer packets peer label purpose w e =
    expires_asked P node w.calls peer label purpose w.asks (ap (λ (l : Layer Purpose). (expiring_step l peer label).0) w.layer_is ∙ e)

-- a request is answered
request_heard : (node : ℕ) (held : Past) (counted : ℕ → Option ℕ) (p : Packet) (bytes : List ℕ) (old : Turn) (u : InitiatorState) (first : Option Note) (drop : Option ℕ) (t : Turn) → Sound node held counted old → u.operation ≡ old.1.operation → u.number ≡ old.1.number → u.counts ≡ old.1.counts → Holds held u.lists u.marks.pointing → Wire (FitsNow u.operation u.counts.acts counted held.pointed) u.states node u.counts.running u.layer old.0.packets → t.1.states ≡ u.states → Answers p bytes old.0 u first drop t → Heard node held counted first drop None false old t
request_heard node held counted p bytes old u first drop t k op number counts marks w x a = record {
  op = a.op;
  sides = subst (λ (n : ℕ). t.0.sides ≡ old.0.sides ++ own (block_notes first ++ notes_of n drop a.op None false)) number a.sides;
  move = subst (λ (r : Option Running). OpMove r a.op t.1.operation) op a.move;
  gone = a.gone;
  sound = kept_sound node held counted u a.op t u.states x old k (sym op) (ap (λ (c : Counts). c.acts) (sym counts)) a.move a.acts a.running (a.marks held marks)
      (subst (λ (ps : List Outgoing). Wire (FitsNow u.operation u.counts.acts counted held.pointed) u.states node u.counts.running t.1.layer ps) (sym a.packets)
      (subst (λ (l : Layer Purpose). Wire (FitsNow u.operation u.counts.acts counted held.pointed) u.states node u.counts.running l (old.0.packets ++ response p (answering_step u.layer p bytes a.rcode a.given).0 ∷ [])) (sym a.layer)
      (answer_wire p bytes a.rcode a.given w)));
}

module _ (node : ℕ) (held : Past) (counted : ℕ → Option ℕ) (o : OutboxState) (s : InitiatorState) (k : Sound node held counted (o, s)) where
  -- nothing is told
  nothing_heard : (u : InitiatorState) → u.operation ≡ s.operation → u.counts.acts ≡ s.counts.acts → u.counts.running ≡ s.counts.running → Holds held u.lists u.marks.pointing → u.states ≡ s.states → Wire (FitsNow s.operation s.counts.acts counted held.pointed) s.states node s.counts.running u.layer o.packets → Heard node held counted None None None false (o, s) (o, u)
  nothing_heard u op acts running marks x w = record {
    op = None;
    sides = sym (append-nil o.sides);
    move = op;
    gone = tt;
    sound = kept_sound node held counted s None (o, u) s.states x (o, s) k refl refl op acts running marks w;
  }

  received_heard : (finding : Finding Purpose) (layer : Layer Purpose) (bytes : List ℕ) → IsSame finding s.layer layer → Wire (FitsNow s.operation s.counts.acts counted held.pointed) (finding_reads finding s.states) node s.counts.running layer o.packets → ((p : Packet) (label : LabelParts) (purpose : Option Purpose) → finding ≡ of_response p label purpose → IfFor (FitsNow s.operation s.counts.acts counted held.pointed) purpose) → Heard node held counted (finding_note finding s) (drop_if (finding_drops finding s) s.lists.slots.present) (finding_read finding) (finding_fails finding) (o, s) (received (finding, layer) bytes o s).1
  received_heard of_generation layer bytes same w f = nothing_heard (record s { layer = layer }) refl refl refl k.marks refl w
  received_heard of_grammar layer bytes same w f = nothing_heard (record s { layer = layer }) refl refl refl k.marks refl w
  received_heard of_label layer bytes same w f = nothing_heard (record s { layer = layer }) refl refl refl k.marks refl w
  received_heard (of_response p label None) layer bytes same w f =
      ended_heard node held counted (o, s) (called (record s { layer = layer })) None (ending_of p) k refl refl refl refl refl k.marks w tt
  received_heard (of_response p label (Some purpose)) layer bytes same w f =
      ended_heard node held counted (o, s) (called (record s { layer = layer })) (Some purpose) (ending_of p) k refl refl refl refl refl k.marks w (f p label (Some purpose) refl)
  received_heard (of_again p rcode) layer bytes same w f =
      request_heard node held counted p bytes (o, s) (record s { layer = layer }) None None _ k refl refl refl k.marks w refl (ignored_again p bytes o (record s { layer = layer }) rcode)
  received_heard (of_request p) layer bytes same w f =
      subst (λ (l : Layer Purpose). Heard node held counted (finding_note (of_request p) s) (drop_if (finding_drops (of_request p) s) s.lists.slots.present) None false (o, s) (received (of_request p, l) bytes o s).1) (sym same)
      (request_heard node held counted p bytes (o, s) s _ _ _ k refl refl refl k.marks k.wires (request_left bytes o s p).states (request_answers bytes o s k.orb p))

  receive_heard : (generation : ℕ) (bytes : List ℕ) → Heard node held counted (call_note (receives generation bytes) s) (drop_if (call_drops (receives generation bytes) s) s.lists.slots.present) (call_read (receives generation bytes) s) (call_fails (receives generation bytes) s) (o, s) (done (receives generation bytes) (o, s))
  unfolding receive_step
  receive_heard generation bytes =
      received_heard (judging_step s.layer generation bytes).0 (judging_step s.layer generation bytes).1 bytes (judged_same (judging_step s.layer generation bytes).0 s.layer (judging_step s.layer generation bytes).1 generation bytes refl) (judge_wire generation bytes k.wires)
      (λ p label purpose e. judged_for node (FitsNow s.operation s.counts.acts counted held.pointed) s.states s.counts.running s.layer o.packets generation bytes p label purpose k.wires e)

  -- ---- a time-out

  expired_heard : (r : Result (Option Purpose) Stale) (layer : Layer Purpose) → Wire (FitsNow s.operation s.counts.acts counted held.pointed) (expired_reads r s.states) node s.counts.running layer o.packets → ((purpose : Option Purpose) → r ≡ Ok purpose → IfFor (FitsNow s.operation s.counts.acts counted held.pointed) purpose) → Heard node held counted None None (expired_read r) (expired_fails r) (o, s) (expired_as (r, layer) o s).1
  expired_heard (Err stale) layer w f = nothing_heard (record s { layer = layer }) refl refl refl k.marks refl w
  expired_heard (Ok None) layer w f =
      ended_heard node held counted (o, s) (called (record s { layer = layer })) None endings.Expired k refl refl refl refl refl k.marks w tt
  expired_heard (Ok (Some purpose)) layer w f =
      subst (λ (c : Bool). Heard node held counted None (drop_if c s.lists.slots.present) (read_ends purpose endings.Expired) (fails_write purpose endings.Expired) (o, s) (expired_as (Ok (Some purpose), layer) o s).1) (expired_drops purpose s.lists.slots.present)
      (ended_heard node held counted (o, s) (called (record s { layer = layer })) (Some purpose) endings.Expired k refl refl refl refl refl k.marks w (f (Some purpose) refl))

  expire_heard : (label : LabelParts) → Heard node held counted None None (call_read (lets_expire label) s) (call_fails (lets_expire label) s) (o, s) (done (lets_expire label) (o, s))
  unfolding expire_step
  expire_heard label =
      expired_heard (expiring_step s.layer s.target label).0 (expiring_step s.layer s.target label).1 (expire_wire s.target label k.wires)
      (λ purpose e. expired_for node (FitsNow s.operation s.counts.acts counted held.pointed) s.states s.counts.running s.layer o.packets s.target label purpose k.wires e)

-- what is told, as the law says it
heard_tells : (node : ℕ) (held : Past) (counted : ℕ → Option ℕ) (call : Call) (old new : Turn) → Heard node held counted (call_note call old.1) (drop_if (call_drops call old.1) old.1.lists.slots.present) (call_read call old.1) (call_fails call old.1) old new → Tells call old new
heard_tells node held counted call old new h = record { op = h.op; sides = h.sides; move = h.move; gone = h.gone }

pub call_tells : (node : ℕ) (held : Past) (counted : ℕ → Option ℕ) (call : Call) (old : Turn) → Sound node held counted old → is_heard call ≡ true → Tells call old (done call old)
call_tells node held counted (receives generation bytes) old k e = heard_tells node held counted (receives generation bytes) old _ (receive_heard node held counted old.0 old.1 k generation bytes)
call_tells node held counted (lets_expire label) old k e = heard_tells node held counted (lets_expire label) old _ (expire_heard node held counted old.0 old.1 k label)
call_tells node held counted (laws.acts action) old k e = absurd (untrue e)
call_tells node held counted (laws.sees generation id target) old k e = absurd (untrue e)

pub call_soundly : (node : ℕ) (held : Past) (counted : ℕ → Option ℕ) (call : Call) (old : Turn) → Sound node held counted old → is_heard call ≡ true → Sound node held counted (done call old)
call_soundly node held counted (receives generation bytes) old k e = (receive_heard node held counted old.0 old.1 k generation bytes).sound
call_soundly node held counted (lets_expire label) old k e = (expire_heard node held counted old.0 old.1 k label).sound
call_soundly node held counted (laws.acts action) old k e = absurd (untrue e)
call_soundly node held counted (laws.sees generation id target) old k e = absurd (untrue e)
