-- Of each request of an initiator that is under way, but a read of a ROM, the bus awaits an answer of its kind: its action asked for a read of a quadlet, or for a write.
use Rattle.std.proofs.Common.{◌≡◌, refl, sym, ◌∙◌, ap, subst, ℕ, suc, Bool, true, false, List, [], ◌∷◌, Option, Some, None, Result, Ok, Err}
use Rattle.std.proofs.lemmas.Option.{same_Some}
use Rattle.async_packet.specs.Packet.{Packet, lock, lock_response, read_block, read_block_response, read_quadlet, read_quadlet_response, write_block, write_quadlet, write_response}
use Rattle.async_packet.specs.Reading.{reading}
use Rattle.async_packet.specs.declared.fault.PacketFault.{PacketFault}
use Rattle.bus_transactions.specs.Rows.{awaits, shape, shape_of}
use Rattle.bus_transactions.specs.Wire.{transaction}
use Rattle.bus_transactions.proofs.Facts.{asked_begun, request_asked}
use Rattle.bus_transactions.proofs.PacketParts.{part_fault, part_read}
use Rattle.label_table.specs.Bodies.{header_to, request_with}
use Rattle.label_table.specs.Layer.{Layer}
use Rattle.label_table.specs.Peers.{state_for}
use Rattle.label_table.specs.declared.reply.ReplyKind.{ReplyKind}
use Rattle.sbp_initiator.specs.Acting.{act_step, demand_of, ring_demand}
use Rattle.sbp_initiator.specs.Effects.{Turn}
use Rattle.sbp_initiator.specs.States.{is_unwritten, wanted_body}
use Rattle.sbp_initiator.specs.declared.purpose.Demand.{Demand}
use Rattle.sbp_initiator.specs.declared.purpose.Purpose.{Purpose}
use Rattle.sbp_initiator.specs.declared.purpose.Purpose.TheVariants as purposes
use Rattle.sbp_initiator.specs.declared.purpose.Wanted.{Wanted}
use Rattle.sbp_initiator.specs.declared.purpose.Wanted.TheVariants as wants
use Rattle.sbp_initiator.specs.declared.state.InitiatorState.{InitiatorState}
use Rattle.sbp_journal.specs.Addresses.{Access, access_of}
use Rattle.sbp_journal.specs.Outgoings.{empty_outbox}
use Rattle.sbp_journal.specs.Run.{Moment, said}
use Rattle.sbp_journal.specs.Transactions.{Kind, Sending, Transaction, between, locking, no_packet, part_in, part_of, reading_block, reading_quadlet, request, writing}
use Rattle.sbp_journal.specs.Wire.{Terms, kind_in, terms, waits}
use Rattle.sbp_journal.specs.declared.event.Action.{Action}
use Rattle.sbp_journal.specs.declared.event.Action.TheVariants as actions
use Rattle.sbp_journal.specs.declared.note.Note.{Note}
use Rattle.sbp_journal.specs.declared.note.Note.TheVariants as notes
use Rattle.sbp_journal.specs.declared.outbox.Outgoing.{Outgoing}
use Rattle.sbp_journal.specs.declared.side.Side.{Side}
use Rattle.sbp_laws.specs.Packets.{access_in, access_in_bytes, spelled_by}
use Rattle.sbp_world.proofs.Common.{untrue}
use Rattle.sbp_world.proofs.Hosts.ActLeft.{ActLeft, HasAsked}
use Rattle.sbp_world.proofs.Hosts.Asked.{IsRequest, number_in}
use Rattle.sbp_world.proofs.Hosts.Held.{sent_begun}
use Rattle.sbp_world.proofs.Hosts.Layered.{AreTame, LayerLeft, read, same}
use Rattle.sbp_world.proofs.Hosts.Lives.{At, AskedAt, Called, ask_at, asked_now, was_asked}
use Rattle.sbp_world.proofs.Hosts.PointerNotes.{Fit, Told, tame_told}
use Rattle.sbp_world.proofs.Hosts.Pointing.{asked_generation, at_same, sent_waits}
use Rattle.sbp_world.proofs.Hosts.Shown.{IsShown}
use Rattle.sbp_world.proofs.Lists.SentOwnedParts.{answers_none}
use Rattle.sbp_world.proofs.Lists.WriteAnswers.{request_kind}
use Rattle.sbp_world.proofs.Pointers.Asks.{act_bytes}
use Rattle.sbp_world.proofs.Pointers.GuardDoes.{Ready}
use Rattle.sbp_world.proofs.Pointers.Guarded.{left_generation}
use Rattle.sbp_world.proofs.Pointers.Waits.{Ends}
use Rattle.sbp_world.specs.Hosts.Calls.{behind}
use Rattle.turn_laws.proofs.RomEnds.{is_plain}

-- ---- what a request asks for
abbrev pub kind_for : Purpose → Kind
kind_for (purposes.State act list) = reading_quadlet
kind_for (purposes.Rom act) = reading_quadlet
kind_for (purposes.Pointer list) = writing
kind_for purposes.Doorbell = writing
kind_for (purposes.AgentReset act) = writing
kind_for (purposes.Enable act) = writing
kind_for (purposes.Management act) = writing

abbrev wanted_kind : Wanted → Kind
wanted_kind (wants.Read offset) = reading_quadlet
wanted_kind (wants.Write offset value) = writing
wanted_kind (wants.Point offset orb) = writing

-- what an action asks for is of the kind of what it is for

abbrev Fits : Option Demand → Type 0
Fits None = Unit {0}
Fits (Some demand) = wanted_kind demand.wanted ≡ kind_for demand.purpose

ring_fits : (s : InitiatorState) → Fits (Some (ring_demand s))
ring_fits s = by (is_unwritten s.marks.pointing) refl
  where
    by : (b : Bool) → is_unwritten s.marks.pointing ≡ b → Fits (Some (ring_demand s))
    by true e = rw e refl
    by false e = rw e refl

demand_fits : (action : Action) (s : InitiatorState) → Fits (demand_of action s)
demand_fits (actions.Append cmd) s = ring_fits s
demand_fits actions.Ring s = ring_fits s
demand_fits actions.State s = refl
demand_fits actions.Rom s = refl
demand_fits actions.AgentReset s = refl
demand_fits actions.Enable s = refl
demand_fits (actions.Login unit reconnect exclusive password) s = refl
demand_fits (actions.Query unit) s = refl
demand_fits actions.Reconnect s = refl
demand_fits actions.Logout s = refl
demand_fits (actions.Abort k) s = refl
demand_fits actions.AbortSet s = refl
demand_fits actions.UnitReset s = refl
demand_fits actions.TargetReset s = refl
demand_fits (actions.Dummy k) s = tt
demand_fits (actions.Put cmd) s = tt
demand_fits actions.Low s = tt
demand_fits actions.Link s = tt

-- ---- the kind of a request, by what it asks for
abbrev pub kind_if : (is_lock is_write is_block : Bool) → Kind
kind_if true w b = locking
kind_if false true b = writing
kind_if false false true = reading_block
kind_if false false false = reading_quadlet

abbrev pub kind_of : Option Access → Option Kind
kind_of None = None
kind_of (Some a) = Some (kind_if a.is_lock a.is_write a.is_block)

packet_kind : (p : Packet) (label : ℕ) (kind : Kind) → part_in p ≡ request label kind → kind_of (access_of p) ≡ Some kind
packet_kind (write_quadlet header offset value) label kind e = ap Some (request_kind _ label writing kind e)
packet_kind (write_block header offset payload) label kind e = ap Some (request_kind _ label writing kind e)
packet_kind (read_quadlet header offset) label kind e = ap Some (request_kind _ label reading_quadlet kind e)
packet_kind (read_block header offset asked) label kind e = ap Some (request_kind _ label reading_block kind e)
packet_kind (lock header offset extended payload) label kind e = ap Some (request_kind _ label locking kind e)
packet_kind (write_response header rcode) label kind e = answers_none _ label _ kind e
packet_kind (read_quadlet_response header rcode value) label kind e = answers_none _ label _ kind e
packet_kind (read_block_response header rcode payload) label kind e = answers_none _ label _ kind e
packet_kind (lock_response header rcode extended payload) label kind e = answers_none _ label _ kind e

body_kind : (wanted : Wanted) → kind_of (access_of (request_with (header_to 0 0 0) (wanted_body wanted))) ≡ Some (wanted_kind wanted)
body_kind (wants.Read offset) = refl
body_kind (wants.Write offset value) = refl
body_kind (wants.Point offset orb) = refl

pub bytes_kind : (bytes : List ℕ) (label : ℕ) (kind : Kind) → part_of bytes ≡ request label kind → kind_of (access_in_bytes bytes) ≡ Some kind
bytes_kind bytes label kind e = by (reading bytes) refl
  where
    by : (r : Result Packet PacketFault) → reading bytes ≡ r → kind_of (access_in (spelled_by r)) ≡ Some kind
    by (Ok p) f = packet_kind p label kind (sym (part_read bytes p f) ∙ e)
    by (Err fault) f = absurd (let no : no_packet ≡ request label kind = sym (part_fault bytes fault f) ∙ e in cc)

wanted_is : (bytes : List ℕ) (label : ℕ) (kind : Kind) (wanted : Wanted) → part_of bytes ≡ request label kind → access_in_bytes bytes ≡ access_of (request_with (header_to 0 0 0) (wanted_body wanted)) → kind ≡ wanted_kind wanted
wanted_is bytes label kind wanted e f = same_Some kind (wanted_kind wanted) (sym (bytes_kind bytes label kind e) ∙ ap kind_of f ∙ body_kind wanted)

-- ---- what is carried
pub record Awaits (past : List Moment) (i generation number : ℕ) (kind : Kind) : Type 0 where
  pub serial : ℕ
  pub held : (terms past).held (transaction generation (suc i) 0 number) ≡ waits kind serial

abbrev pub Kinds : List Moment → (i target : ℕ) → Layer Purpose → Type 0
Kinds past i target layer = (number : ℕ) (purpose : Purpose) → is_plain purpose ≡ true → At layer target number (Some purpose) → Awaits past i layer.generation number (kind_for purpose)

-- where what waits does so still
pub still_kinds : (past now : List Moment) (i target : ℕ) (layer : Layer Purpose) → ((m : ℕ) (k : Kind) (n : ℕ) → (terms past).held (transaction layer.generation (suc i) 0 m) ≡ waits k n → (terms now).held (transaction layer.generation (suc i) 0 m) ≡ waits k n)
    → Kinds past i target layer → Kinds now i target layer
still_kinds past now i target layer stays k m p c a = (let w = k m p c a in record { serial = w.serial; held = stays m (kind_for p) w.serial w.held })

not_rom : {A : Type 0} (purpose : Purpose) (act : ℕ) → is_plain purpose ≡ true → Some purpose ≡ Some (purposes.Rom act) → A
not_rom purpose act c e = untrue (let f : purpose ≡ purposes.Rom act = cc in sym (ap is_plain f) ∙ c)

-- ---- a transaction ends

-- what is under way behind what is told then was so before, but the next read of a ROM
pub from_left : (l new : Layer Purpose) (target : ℕ) → Called l → LayerLeft l target new → (m : ℕ) (purpose : Purpose) → is_plain purpose ≡ true → At new target m (Some purpose) → At l target m (Some purpose)
from_left l new target c (same g p) m purpose d a = at_same new l target m (Some purpose) (sym p) a
from_left l new target c (read body act quad step) m purpose d a = by_asked (ask_at l target body (purposes.Rom act) quad new target m (Some purpose) c step a)
  where
    by_asked : AskedAt l target quad (purposes.Rom act) target m (Some purpose) → At l target m (Some purpose)
    by_asked (asked_now p n f) = not_rom purpose act d f
    by_asked (was_asked b) = b

-- and it waits for what it waited for
pub ends_held : (past : List Moment) (note : Note) (i target : ℕ) (old l : Layer Purpose) → Ends past note → l.generation ≡ old.generation → IsShown (said note ∷ past) i target l → (m : ℕ) (kind : ReplyKind) → shape (state_for l.peers target m) ≡ awaits kind
    → (terms (said note ∷ past)).held (transaction old.generation (suc i) 0 m) ≡ (terms past).held (transaction old.generation (suc i) 0 m)
ends_held past note i target old l e generation_is shown m kind w =
    e (transaction old.generation (suc i) 0 m) kind (ap (λ g. shape_of ((terms (said note ∷ past)).held (transaction g (suc i) 0 m))) (sym generation_is) ∙ sym (shown.states m) ∙ w)

module _ (past : List Moment) (note : Note) (i target : ℕ) (old l : Layer Purpose) (e : Ends past note) (k : Kinds past i target old) (c : Called l) (generation_is : l.generation ≡ old.generation) (back : (number : ℕ) (purpose : Option Purpose) → At l target number purpose → At old target number purpose) (shown : IsShown (said note ∷ past) i target l) (told : List Side) (tame : AreTame told) where
  abbrev ended : List Moment
  ended = said note ∷ past

  pub ended_kinds : (new : Layer Purpose) → LayerLeft l target new → Kinds (behind told ended) i target new
  ended_kinds new left m p d a =
      let b = from_left l new target c left m p d a in
      let w = k m p d (back m (Some p) b) in
      record {
        serial = w.serial;
        held =
            ap (λ x. (terms (behind told ended)).held (transaction x (suc i) 0 m)) (left_generation l target new left ∙ generation_is)
            ∙ ap (λ (x : Terms). x.held (transaction old.generation (suc i) 0 m)) (tame_told told ended i tame).wire
            ∙ ends_held past note i target old l e generation_is shown m b.kind (ap shape b.state) ∙ w.held;
      }

-- an action asks for it
module _ (action : Action) (past : List Moment) (i : ℕ) (s : InitiatorState) (done : (act_step action empty_outbox s).0 ≡ None) (known : Ready past i s) (shown : IsShown past i s.target s.layer) (called : Called s.layer) (k : Kinds past i s.target s.layer) (left : ActLeft action s (act_step action empty_outbox s).1) (packet : Outgoing) (one : (act_step action empty_outbox s).1.0.packets ≡ packet ∷ []) where
  abbrev t : Turn
  t = (act_step action empty_outbox s).1

  abbrev ms : List Moment
  ms = behind t.0.sides past

  told : Told past t.0.sides i
  told = tame_told t.0.sides past i left.told

  x : HasAsked action s packet t.1.layer
  x = left.asking packet one

  stays : t.1.layer.generation ≡ s.layer.generation
  stays = asked_generation s.layer s.target (wanted_body x.demand.wanted) x.demand.purpose x.asked t.1.layer x.step

  asked_kind : (number : ℕ) (kind : Kind) → part_of packet.bytes ≡ request number kind → kind ≡ kind_for x.demand.purpose
  asked_kind number kind part =
      let has = act_bytes action s packet done one in
      let same : has.demand ≡ x.demand = same_Some has.demand x.demand (sym has.is ∙ x.is) in
      wanted_is packet.bytes number kind has.demand.wanted part (ap access_in_bytes has.bytes ∙ known.spelled action has.demand has.asked has.is has.found)
      ∙ ap (λ (d : Demand). wanted_kind d.wanted) same ∙ subst Fits x.is (demand_fits action s)

  module _ (serial generation : ℕ) (injected : (terms past).injected serial ≡ false) (q : IsRequest (number_in packet.label) packet.bytes) (fit : Fit (said (notes.Sent serial generation (suc i) 0 packet.bytes) ∷ ms)) where
    abbrev now : List Moment
    now = said (notes.Sent serial generation (suc i) 0 packet.bytes) ∷ ms

    abbrev T : Terms
    T = terms ms

    abbrev sending : Sending
    sending = record { generation = generation; from = suc i; to = 0; bytes = packet.bytes; injected = T.injected serial }

    abbrev own : ℕ → Transaction
    own m = transaction s.layer.generation (suc i) 0 m

    honest : T.injected serial ≡ false
    honest = ap (λ (y : Terms). y.injected serial) told.wire ∙ injected

    pub generation_is : generation ≡ s.layer.generation
    generation_is = (fit.sent.0 honest).now ∙ ap (λ (y : Terms). y.generation (suc i)) told.wire ∙ sym shown.generation

    begins : (m : ℕ) → m ≡ x.asked.label.number → (terms now).held (own m) ≡ waits q.kind serial
    begins m e =
        sent_begun serial sending T (own m)
        (asked_begun sending (between sending sending.from sending.to (number_in packet.label)) honest (request_asked sending (number_in packet.label) q.kind q.part)
        ∙ ap (λ g. Some (transaction g (suc i) 0 (number_in packet.label))) generation_is ∙ ap (λ n. Some (own n)) (ap number_in x.label ∙ sym e))
        ∙ ap (λ part. waits (kind_in part) serial) q.part

    by_asked : (m : ℕ) (p : Purpose) → is_plain p ≡ true → AskedAt s.layer s.target x.asked x.demand.purpose s.target m (Some p) → Awaits now i s.layer.generation m (kind_for p)
    by_asked m p c (asked_now peer n e) = record {
      serial = serial;
      held = begins m n ∙ ap (λ y. waits y serial) (asked_kind (number_in packet.label) q.kind q.part ∙ ap kind_for (same_Some x.demand.purpose p (sym e)));
    }
    by_asked m p c (was_asked b) =
        let w = k m p c b in
        record {
          serial = w.serial;
          held = sent_waits T serial sending fit.sent.0 (own m) (kind_for p) w.serial (ap (λ (y : Terms). y.held (own m)) told.wire ∙ w.held);
        }

    pub asking_kinds : Kinds now i s.target t.1.layer
    asking_kinds m p c a =
        subst (λ g. Awaits now i g m (kind_for p)) (sym stays)
        (by_asked m p c (ask_at s.layer s.target (wanted_body x.demand.wanted) x.demand.purpose x.asked t.1.layer s.target m (Some p) called x.step a))
