-- The request of an AGENT_RESET that is under way in an initiator's layer is the one by which its host's operation began.
use Rattle.sbp_world.proofs.Words.Std.{arith, ◌≡◌, refl, sym, ◌∙◌, ap, subst, ℕ, zero, suc, ◌&&◌, ◌==◌, nat_eq, nat_lt, is_some, not, ◌+◌, ◌%◌, Bool, true, false, cond, List, [], ◌∷◌, Option, Some, None, nat_tests, not-true}
use Rattle.sbp_world.proofs.Words.Wire.{transaction, not_begun_life, under_way, ReplyKind, Layer, seeing_step, judged_note, empty_outbox, Moment, said, Kind, Part, Sending, between, part_of, request, response, Terms, kind_in, terms, waits, Judged, Action, Event, Note, Operation, OpWord, Outgoing, Side}
use Rattle.sbp_world.proofs.Words.Initiator.{Purpose, Running, InitiatorState, Turn, new_state, own_operation, see_step, wanted_body, IsFree, IsReset}
use Rattle.sbp_world.proofs.Words.Laws.{Host, Underway, acted, goes_on, host_at, known_host, list_begins, op_ended, operation_of, sent_in, present_list, answer_in, answered_at, packet_at, receiver_in, sender_in, event_of}
use Rattle.sbp_world.proofs.Words.World.{behind, Core, work_in, work_of, IsResetting}
use Rattle.bus_transactions.proofs.Facts.{asked_begun, request_asked}
use Rattle.sbp_journal.specs.Transactions.{no_packet}
use Rattle.sbp_journal.specs.declared.cause.Judged.TheVariants as judgements
use Rattle.sbp_journal.specs.declared.event.Action.TheVariants as actions
use Rattle.sbp_journal.specs.declared.event.Event.TheVariants as events
use Rattle.sbp_journal.specs.declared.note.Note.TheVariants as notes
use Rattle.sbp_journal.specs.declared.operation.Operation.TheVariants as operations
use Rattle.sbp_journal.specs.declared.side.Side.TheVariants as sides
use Rattle.sbp_initiator.specs.declared.purpose.Purpose.TheVariants as purposes
use Rattle.sbp_laws.specs.Hosts.{got_by, is_serial, reset_seen, sent_as}
use Rattle.sbp_world.proofs.Hosts.ActLeft.{ActLeft, HasAsked}
use Rattle.sbp_world.proofs.Hosts.Aimed.{IsAimed}
use Rattle.sbp_world.proofs.Hosts.Asked.{IsRequest, number_in}
use Rattle.sbp_world.proofs.Hosts.Carries.{IsNoAct, is_apart}
use Rattle.sbp_world.proofs.Hosts.Cores.{wire_is}
use Rattle.sbp_world.proofs.Hosts.Held.{sent_begun}
use Rattle.sbp_world.proofs.Hosts.Hosted.{Cored}
use Rattle.sbp_world.proofs.Hosts.Layered.{AreTame, is_tame}
use Rattle.sbp_world.proofs.Hosts.Lives.{At, AskedAt, ask_at, asked_now, at_life, was_asked}
use Rattle.sbp_world.proofs.Hosts.PointerNotes.{Fit, Told, tame_told}
use Rattle.sbp_world.proofs.Hosts.Pointing.{asked_generation, called_of, pointing_of, sent_waits}
use Rattle.sbp_world.proofs.Hosts.Shown.{IsShown}
use Rattle.sbp_world.proofs.Pointers.WaitActs.{makes_for, none_seen, see_old}
use Rattle.sbp_world.proofs.Pointers.Waits.{Asks, is_cared, makes}
use Rattle.sbp_world.proofs.Lists.ManageFirsts.{pointer_operation, acted_none}
use Rattle.sbp_world.proofs.Common.{turned, untrue, itself}

pub record Resets (past : List Moment) (i target : ℕ) (layer : Layer Purpose) : Type 0 where
  pub first : (number act : ℕ) (kind : Kind) (serial : ℕ) → At layer target number (Some (purposes.AgentReset act)) → (terms past).held (transaction layer.generation (suc i) 0 number) ≡ waits kind serial → IsResetting past i serial

-- ---- an operation that is under way was so before

abbrev pub Fades : Host → Host → Type 0
Fades new old = (underway : Underway) → new.operation ≡ Some underway → old.operation ≡ Some underway

none_is : {A : Type 0} {underway : Underway} → None ≡ Some underway → A
none_is e = absurd (differ e)
  where
    differ : {underway : Underway} → None ≡ Some underway → ⊥
    differ e = cc

pick_fades : (b : Bool) (x y : Host) → Fades x y → Fades (cond b x y) y
pick_fades true x y f = f
pick_fades false x y f = λ u e. e

begins_fades : (k : ℕ) (host : Host) → Fades (list_begins k host) host
begins_fades zero host = λ u e. e
begins_fades (suc k) host = λ u e. e

ended_fades : (operation : Operation) (word : OpWord) (host : Host) → Fades (op_ended operation word host) host
ended_fades operations.Rom word host = λ u e. none_is e
ended_fades operations.Login word host = λ u e. none_is e
ended_fades operations.Query word host = λ u e. none_is e
ended_fades operations.Reconnect word host = λ u e. none_is e
ended_fades operations.Logout word host = λ u e. none_is e
ended_fades operations.Abort word host = λ u e. none_is e
ended_fades operations.AbortSet word host = λ u e. none_is e
ended_fades operations.UnitReset word host = λ u e. none_is e
ended_fades operations.TargetReset word host = λ u e. none_is e
ended_fades operations.AgentReset word host = λ u e. none_is e
ended_fades operations.State word host = λ u e. e
ended_fades operations.Enable word host = λ u e. none_is e

got_fades : (own : Option ℕ) (wire : Terms) (serial : ℕ) (present : Option ℕ) (host : Host) → Fades (got_by own wire serial present host) host
got_fades (Some own) wire serial present host = λ u e. sym (pointer_operation (answer_in (packet_at wire serial)) (is_serial host.pointer own) host) ∙ e
got_fades None wire serial present host = λ u e. e

reset_fades : (b : Bool) (host : Host) → Fades (reset_seen b host) host
reset_fades true host = λ u e. none_is e
reset_fades false host = λ u e. e

-- the notes that begin an operation, or go on with one
abbrev pub goes_with : Note → Bool
goes_with (notes.Begin initiators ready) = true
goes_with (notes.Sent serial generation from to bytes) = true
goes_with _ = false

pub note_fades : (note : Note) (past : List Moment) (i : ℕ) → goes_with note ≡ false → Fades (host_at (said note ∷ past) i) (host_at past i)
note_fades (notes.Begin initiators ready) past i e = untrue (sym e)
note_fades (notes.Sent serial generation from to bytes) past i e = untrue (sym e)
note_fades (notes.Append j n k cdb buffer) past i e = pick_fades (nat_eq j i) (list_begins k (host_at past i)) (host_at past i) (begins_fades k (host_at past i))
note_fades (notes.Drop j n) past i e = pick_fades (nat_eq j i) (list_begins zero (host_at past i)) (host_at past i) (begins_fades zero (host_at past i))
note_fades (notes.Got serial) past i e = pick_fades (is_serial (receiver_in ((known_host past i).wire.sent serial)) (suc i)) _ (host_at past i) (got_fades (answered_at (known_host past i).wire serial) (known_host past i).wire serial (present_list past i) (host_at past i))
note_fades (notes.TimedOut serial) past i e = pick_fades (is_serial (sender_in ((known_host past i).wire.sent serial)) (suc i)) _ (host_at past i) (λ u f. f)
note_fades (notes.Taken j n k status answer) past i e = pick_fades (nat_eq j i) _ (host_at past i) (λ u f. f)
note_fades (notes.Stuck j) past i e = pick_fades (nat_eq j i) _ (host_at past i) (λ u f. f)
note_fades (notes.Op j operation word) past i e = pick_fades (nat_eq j i) (op_ended operation word (host_at past i)) (host_at past i) (ended_fades operation word (host_at past i))
note_fades (notes.Seen node generation) past i e = pick_fades (nat_eq node (suc i)) _ (host_at past i) (reset_fades (not (nat_eq generation ((known_host past i).wire.generation node))) (host_at past i))
note_fades _ past i e = λ u f. f

tame_goes : (note : Note) → is_tame note ≡ true → goes_with note ≡ false
tame_goes (notes.Begin initiators ready) e = untrue e
tame_goes (notes.Sent serial generation from to bytes) e = untrue e
tame_goes _ e = refl

pub told_fades : (told : List Side) (past : List Moment) (i : ℕ) → AreTame told → Fades (host_at (behind told past) i) (host_at past i)
told_fades [] past i h = λ u e. e
told_fades (sides.Own note ∷ later) past i h = λ u e. note_fades note past i (tame_goes note h.0) u (told_fades later (said note ∷ past) i h.1 u e)
told_fades (_ ∷ later) past i h = absurd h.0

pub judged_fades : (serial : ℕ) (judged : Judged) (past : List Moment) (i : ℕ) → Fades (host_at (said (judged_note serial judged) ∷ past) i) (host_at past i)
judged_fades serial judgements.Got past i = note_fades (notes.Got serial) past i refl
judged_fades serial (judgements.Ignored cause) past i = note_fades (notes.Ignored serial cause) past i refl

off_fades : (b c : Bool) (x y : Host) → b ≡ false → Fades (cond (b && c) x y) y
off_fades true c x y e = untrue (sym e)
off_fades false c x y e = λ u f. f

pub apart_fades : (note : Note) (past : List Moment) (i : ℕ) → is_apart i note ≡ true → Fades (host_at (said note ∷ past) i) (host_at past i)
apart_fades (notes.Begin initiators ready) past i e = untrue e
apart_fades (notes.Sent serial generation from to bytes) past i e = off_fades (nat_eq from (suc i)) (not ((known_host past i).wire.injected serial)) _ (host_at past i) (not-true (nat_eq from (suc i)) e)
apart_fades note past i e = note_fades note past i refl

-- ---- it is the same one

some_same : (x y : Underway) → Some x ≡ Some y → y ≡ x
some_same x y e = cc

module _ (past now : List Moment) (i : ℕ) (fades : Fades (host_at now i) (host_at past i)) where
  resetting_by : (found : Option Underway) → (host_at now i).operation ≡ found → is_some found ≡ true → (serial : ℕ) → IsResetting past i serial → IsResetting now i serial
  resetting_by None f e serial r = untrue e
  resetting_by (Some underway) f e serial r =
      let same : underway ≡ r.underway = some_same r.underway underway (sym r.is ∙ fades underway f) in
      record { underway = r.underway; is = f ∙ ap Some same; resets = r.resets; first = r.first }

  pub resetting_on : is_some (host_at now i).operation ≡ true → (serial : ℕ) → IsResetting past i serial → IsResetting now i serial
  resetting_on e serial r = resetting_by (host_at now i).operation refl e serial r

-- what began then did so before
pub resetting_back : (past now : List Moment) (i : ℕ) → Fades (host_at now i) (host_at past i) → (serial : ℕ) → IsResetting now i serial → IsResetting past i serial
resetting_back past now i fades serial r = record { underway = r.underway; is = fades r.underway r.is; resets = r.resets; first = r.first }

-- an operation of the initiator is one of its host
work_some : (u : Option Underway) (r : Option Running) → work_of u ≡ work_in r → is_some r ≡ true → is_some u ≡ true
work_some (Some underway) r e f = refl
work_some None None e f = untrue f
work_some None (Some running) e f = absurd (let differ : None ≡ work_in (Some running) = e in cc)

reset_some : (act : ℕ) (operation : Option Running) → IsReset act operation → is_some operation ≡ true
reset_some act None r = absurd r
reset_some act (Some running) r = refl

-- where an AGENT_RESET is under way in the layer, the host has an operation
pub resets_some : {ready : Bool} {past : List Moment} {i : ℕ} {s : InitiatorState} → Cored ready past i s → (number act : ℕ) → At s.layer s.target number (Some (purposes.AgentReset act)) → is_some (host_at past i).operation ≡ true
resets_some {past = past} {i = i} {s = s} c number act a =
    work_some (host_at past i).operation s.operation (ap (λ (x : Core). x.work) c.core)
    (reset_some act s.operation ((pointing_of c).resets act (record { peer = s.target; number = number; serial = a.serial; kind = a.kind; state = a.state; is_for = a.is_for })))

-- ---- from one history to a later one

pub still_resets : {ready : Bool} (past now : List Moment) (i : ℕ) (s : InitiatorState) → Fades (host_at now i) (host_at past i) → ((g m : ℕ) → (terms now).held (transaction g (suc i) 0 m) ≡ (terms past).held (transaction g (suc i) 0 m)) → Cored ready now i s → Resets past i s.target s.layer → Resets now i s.target s.layer
still_resets past now i s fades held c k = record {
  first = λ number act kind serial a w. resetting_on past now i fades (resets_some c number act a) serial (k.first number act kind serial a (sym (held s.layer.generation number) ∙ w));
}

-- an action that sends nothing leaves the layer
pub quiet_resets : {ready : Bool} (past now : List Moment) (i : ℕ) (s : InitiatorState) (t : Turn) → t.1.layer ≡ s.layer → t.1.target ≡ s.target → Fades (host_at now i) (host_at past i) → ((g m : ℕ) → (terms now).held (transaction g (suc i) 0 m) ≡ (terms past).held (transaction g (suc i) 0 m)) → Cored ready now i t.1 → Resets past i s.target s.layer → Resets now i t.1.target t.1.layer
quiet_resets past now i s t layer target fades held c k = record {
  first = λ number act kind serial a w.
      let b = subst (λ (l : Layer Purpose). At l s.target number (Some (purposes.AgentReset act))) layer (subst (λ x. At t.1.layer x number (Some (purposes.AgentReset act))) target a) in
      resetting_on past now i fades (resets_some c number act a) serial (k.first number act kind serial b (sym (held s.layer.generation number) ∙ ap (λ (l : Layer Purpose). (terms now).held (transaction l.generation (suc i) 0 number)) (sym layer) ∙ w));
}

-- ---- a packet that leaves in a line that is no action of the initiator

-- the operation of a host began with this packet
record Begun (host : Host) (serial : ℕ) : Type 0 where
  underway : Underway
  is : host.operation ≡ Some underway
  resets : underway.operation ≡ operations.AgentReset
  first : underway.first ≡ serial

goes_begun : (u : Option Underway) (latest : ℕ) (host : Host) (serial : ℕ) → host.operation ≡ u → Begun host serial → Begun (goes_on u latest host) serial
goes_begun None latest host serial e b = none_is (sym e ∙ b.is)
goes_begun (Some underway) latest host serial e b =
    let same : underway ≡ b.underway = some_same b.underway underway (sym b.is ∙ e) in
    record { underway = record underway { latest = latest }; is = refl; resets = ap (λ (x : Underway). x.operation) same ∙ b.resets; first = ap (λ (x : Underway). x.first) same ∙ b.first }

pick_begun : (b : Bool) (x y : Host) (serial : ℕ) → Begun x serial → Begun y serial → Begun (cond b x y) serial
pick_begun true x y serial h k = h
pick_begun false x y serial h k = k

not_begun : (b : Bool) (x y : Host) (serial : ℕ) → b ≡ false → Begun y serial → Begun (cond b x y) serial
not_begun true x y serial e k = untrue (sym e)
not_begun false x y serial e k = k

other_begun : (event : Option Event) (i : ℕ) (list : Option ℕ) (latest : ℕ) (host : Host) (serial : ℕ) → IsNoAct i event → Begun host serial → Begun (sent_in event i list latest host) serial
other_begun None i list latest host serial n b = goes_begun host.operation latest host serial refl b
other_begun (Some (events.Act j action)) i list latest host serial n b =
    not_begun (nat_eq j i) (acted action (operation_of action) list latest host) (goes_on host.operation latest host) serial (turned i j n) (goes_begun host.operation latest host serial refl b)
other_begun (Some (events.Begin initiators ready)) i list latest host serial n b = goes_begun host.operation latest host serial refl b
other_begun (Some (events.Reset physical)) i list latest host serial n b = goes_begun host.operation latest host serial refl b
other_begun (Some (events.See node)) i list latest host serial n b = goes_begun host.operation latest host serial refl b
other_begun (Some (events.Deliver packet)) i list latest host serial n b = goes_begun host.operation latest host serial refl b
other_begun (Some (events.Repeat packet)) i list latest host serial n b = goes_begun host.operation latest host serial refl b
other_begun (Some (events.Lose packet)) i list latest host serial n b = goes_begun host.operation latest host serial refl b
other_begun (Some (events.Timeout packet)) i list latest host serial n b = goes_begun host.operation latest host serial refl b
other_begun (Some (events.Step count)) i list latest host serial n b = goes_begun host.operation latest host serial refl b
other_begun (Some events.Settle) i list latest host serial n b = goes_begun host.operation latest host serial refl b
other_begun (Some events.Tick) i list latest host serial n b = goes_begun host.operation latest host serial refl b
other_begun (Some (events.Inject initiator bytes)) i list latest host serial n b = goes_begun host.operation latest host serial refl b
other_begun (Some (events.Key unit key)) i list latest host serial n b = goes_begun host.operation latest host serial refl b

part_begun : (part : Part) (event : Option Event) (i : ℕ) (list : Option ℕ) (latest : ℕ) (host : Host) (serial : ℕ) → IsNoAct i event → Begun host serial → Begun (sent_as part event i list latest host) serial
part_begun (request label kind) event i list latest host serial n b = other_begun event i list latest host serial n b
part_begun (response label kind) event i list latest host serial n b = b
part_begun no_packet event i list latest host serial n b = b

-- and what began then did so before
goes_back : (u : Option Underway) (latest : ℕ) (host : Host) (serial : ℕ) → host.operation ≡ u → Begun (goes_on u latest host) serial → Begun host serial
goes_back None latest host serial e b = b
goes_back (Some underway) latest host serial e b =
    let same : b.underway ≡ record underway { latest = latest } = some_same (record underway { latest = latest }) b.underway b.is in
    record { underway = underway; is = e; resets = ap (λ (x : Underway). x.operation) (sym same) ∙ b.resets; first = ap (λ (x : Underway). x.first) (sym same) ∙ b.first }

pick_back : (b : Bool) (x y : Host) (serial : ℕ) → (Begun x serial → Begun y serial) → Begun (cond b x y) serial → Begun y serial
pick_back true x y serial f h = f h
pick_back false x y serial f h = h

not_back : (b : Bool) (x y : Host) (serial : ℕ) → b ≡ false → Begun (cond b x y) serial → Begun y serial
not_back true x y serial e h = untrue (sym e)
not_back false x y serial e h = h

other_back : (event : Option Event) (i : ℕ) (list : Option ℕ) (latest : ℕ) (host : Host) (serial : ℕ) → IsNoAct i event → Begun (sent_in event i list latest host) serial → Begun host serial
other_back None i list latest host serial n b = goes_back host.operation latest host serial refl b
other_back (Some (events.Act j action)) i list latest host serial n b =
    goes_back host.operation latest host serial refl (not_back (nat_eq j i) (acted action (operation_of action) list latest host) (goes_on host.operation latest host) serial (turned i j n) b)
other_back (Some (events.Begin initiators ready)) i list latest host serial n b = goes_back host.operation latest host serial refl b
other_back (Some (events.Reset physical)) i list latest host serial n b = goes_back host.operation latest host serial refl b
other_back (Some (events.See node)) i list latest host serial n b = goes_back host.operation latest host serial refl b
other_back (Some (events.Deliver packet)) i list latest host serial n b = goes_back host.operation latest host serial refl b
other_back (Some (events.Repeat packet)) i list latest host serial n b = goes_back host.operation latest host serial refl b
other_back (Some (events.Lose packet)) i list latest host serial n b = goes_back host.operation latest host serial refl b
other_back (Some (events.Timeout packet)) i list latest host serial n b = goes_back host.operation latest host serial refl b
other_back (Some (events.Step count)) i list latest host serial n b = goes_back host.operation latest host serial refl b
other_back (Some events.Settle) i list latest host serial n b = goes_back host.operation latest host serial refl b
other_back (Some events.Tick) i list latest host serial n b = goes_back host.operation latest host serial refl b
other_back (Some (events.Inject initiator bytes)) i list latest host serial n b = goes_back host.operation latest host serial refl b
other_back (Some (events.Key unit key)) i list latest host serial n b = goes_back host.operation latest host serial refl b

part_back : (part : Part) (event : Option Event) (i : ℕ) (list : Option ℕ) (latest : ℕ) (host : Host) (serial : ℕ) → IsNoAct i event → Begun (sent_as part event i list latest host) serial → Begun host serial
part_back (request label kind) event i list latest host serial n b = other_back event i list latest host serial n b
part_back (response label kind) event i list latest host serial n b = b
part_back no_packet event i list latest host serial n b = b

begun_of : (past : List Moment) (i serial : ℕ) → IsResetting past i serial → Begun (host_at past i) serial
begun_of past i serial r = record { underway = r.underway; is = r.is; resets = r.resets; first = r.first }

resetting_of : (past : List Moment) (i serial : ℕ) → Begun (host_at past i) serial → IsResetting past i serial
resetting_of past i serial b = record { underway = b.underway; is = b.is; resets = b.resets; first = b.first }

sent_resetting : (latest generation from to : ℕ) (bytes : List ℕ) (past : List Moment) (i serial : ℕ) → IsNoAct i (event_of past) → IsResetting past i serial → IsResetting (said (notes.Sent latest generation from to bytes) ∷ past) i serial
sent_resetting latest generation from to bytes past i serial n r =
    let host = host_at past i in
    let b = begun_of past i serial r in
    resetting_of (said (notes.Sent latest generation from to bytes) ∷ past) i serial
    (pick_begun ((nat_eq from (suc i)) && not ((known_host past i).wire.injected latest)) (sent_as (part_of bytes) (event_of past) i (present_list past i) latest host) host serial (part_begun (part_of bytes) (event_of past) i (present_list past i) latest host serial n b) b)

pub sent_back : (latest generation from to : ℕ) (bytes : List ℕ) (past : List Moment) (i serial : ℕ) → IsNoAct i (event_of past) → IsResetting (said (notes.Sent latest generation from to bytes) ∷ past) i serial → IsResetting past i serial
sent_back latest generation from to bytes past i serial n r =
    let host = host_at past i in
    resetting_of past i serial
    (pick_back ((nat_eq from (suc i)) && not ((known_host past i).wire.injected latest)) (sent_as (part_of bytes) (event_of past) i (present_list past i) latest host) host serial (part_back (part_of bytes) (event_of past) i (present_list past i) latest host serial n) (begun_of (said (notes.Sent latest generation from to bytes) ∷ past) i serial r))

pub sent_resets : (serial generation from to : ℕ) (bytes : List ℕ) (past : List Moment) (i target : ℕ) (layer : Layer Purpose) → IsNoAct i (event_of past) → Fit (said (notes.Sent serial generation from to bytes) ∷ past) → Asks past i target layer → Resets past i target layer → Resets (said (notes.Sent serial generation from to bytes) ∷ past) i target layer
sent_resets serial generation from to bytes past i target layer n fit asks k = record {
  first = λ number act kind first a w.
      let t = terms past in
      let packet : Sending = record { generation = generation; from = from; to = to; bytes = bytes; injected = t.injected serial } in
      let v = transaction layer.generation (suc i) 0 number in
      let x = asks.waits_for number (purposes.AgentReset act) refl a in
      sent_resetting serial generation from to bytes past i first n (k.first number act kind first a (x.held ∙ sym (sent_waits t serial packet fit.sent.0 v x.kind x.serial x.held) ∙ w));
}

-- ---- a request that leaves for an action of the initiator

so : (b : Bool) (x y : Host) → b ≡ true → cond b x y ≡ x
so true x y e = refl
so false x y e = untrue e

-- what it makes of the host
pub asked_host : {number : ℕ} (action : Action) (serial generation to : ℕ) (bytes : List ℕ) (past : List Moment) (i : ℕ) → event_of past ≡ Some (events.Act i action) → IsRequest number bytes → (terms past).injected serial ≡ false → host_at (said (notes.Sent serial generation (suc i) to bytes) ∷ past) i ≡ acted action (operation_of action) (present_list past i) serial (host_at past i)
asked_host {number} action serial generation to bytes past i e q f =
    let host = host_at past i in
    let own : (known_host past i).wire.injected serial ≡ false = ap (λ (t : Terms). t.injected serial) (wire_is past i) ∙ f in
    so ((nat_eq (suc i) (suc i)) && not ((known_host past i).wire.injected serial)) (sent_as (part_of bytes) (event_of past) i (present_list past i) serial host) host
    (ap (λ b. b && not ((known_host past i).wire.injected serial)) (itself (suc i)) ∙ ap not own)
    ∙ ap (λ x. sent_as x (event_of past) i (present_list past i) serial host) q.part
    ∙ ap (λ x. sent_in x i (present_list past i) serial host) e
    ∙ so (nat_eq i i) (acted action (operation_of action) (present_list past i) serial host) (goes_on host.operation serial host) (itself i)

busy : {A : Type 0} (s : InitiatorState) → s.operation ≡ None → is_some s.operation ≡ true → A
busy s e f = untrue (sym (ap is_some e) ∙ f)

-- beside an operation an action is none
pub beside_none : (action : Action) (s : InitiatorState) → IsFree (own_operation action) s → is_some s.operation ≡ true → operation_of action ≡ None
beside_none (actions.Append cmd) s a e = refl
beside_none actions.Ring s a e = refl
beside_none actions.State s a e = refl
beside_none (actions.Put cmd) s a e = refl
beside_none actions.Low s a e = refl
beside_none actions.Link s a e = refl
beside_none (actions.Dummy orb) s a e = refl
beside_none actions.Rom s a e = busy s a e
beside_none actions.AgentReset s a e = busy s a e
beside_none actions.Enable s a e = busy s a e
beside_none (actions.Login unit reconnect exclusive password) s a e = busy s a e
beside_none (actions.Query unit) s a e = busy s a e
beside_none actions.Reconnect s a e = busy s a e
beside_none actions.Logout s a e = busy s a e
beside_none (actions.Abort orb) s a e = busy s a e
beside_none actions.AbortSet s a e = busy s a e
beside_none actions.UnitReset s a e = busy s a e
beside_none actions.TargetReset s a e = busy s a e

pub made_reset : (action : Action) (act : ℕ) → makes action (purposes.AgentReset act) ≡ true → action ≡ actions.AgentReset
made_reset actions.AgentReset act m = refl
made_reset _ act m = untrue m

module _ {ready : Bool} (action : Action) (past : List Moment) (i : ℕ) (s : InitiatorState) (t : Turn) (under : event_of past ≡ Some (events.Act i action)) (shown : IsShown past i s.target s.layer) (cored : Cored ready past i s) (free : IsFree (own_operation action) s) (asks : Asks past i s.target s.layer) (resets : Resets past i s.target s.layer) (left : ActLeft action s t) (same : (host_at (behind t.0.sides past) i).operation ≡ (host_at past i).operation) (packet : Outgoing) (one : t.0.packets ≡ packet ∷ []) (serial generation : ℕ) (injected : (terms past).injected serial ≡ false) (q : IsRequest (number_in packet.label) packet.bytes) (fit : Fit (said (notes.Sent serial generation (suc i) 0 packet.bytes) ∷ behind t.0.sides past)) (new_asks : Asks (said (notes.Sent serial generation (suc i) 0 packet.bytes) ∷ behind t.0.sides past) i s.target t.1.layer) where
  abbrev ms : List Moment
  ms = behind t.0.sides past

  abbrev now : List Moment
  now = said (notes.Sent serial generation (suc i) 0 packet.bytes) ∷ ms

  abbrev told : Told past t.0.sides i
  told = tame_told t.0.sides past i left.told

  honest : (terms ms).injected serial ≡ false
  honest = ap (λ (y : Terms). y.injected serial) told.wire ∙ injected

  x : HasAsked action s packet t.1.layer
  x = left.asking packet one

  now_host : host_at now i ≡ acted action (operation_of action) (present_list ms i) serial (host_at ms i)
  now_host = asked_host action serial generation 0 packet.bytes ms i (told.line ∙ under) q honest

  -- it is this request, where the action is an AGENT_RESET
  this_resetting : action ≡ actions.AgentReset → IsResetting now i serial
  this_resetting e =
      let host = host_at ms i in
      let h : host_at now i ≡ acted actions.AgentReset (Some operations.AgentReset) (present_list ms i) serial host = now_host ∙ ap (λ a. acted a (operation_of a) (present_list ms i) serial host) e in
      record {
        underway = record { operation = operations.AgentReset; action = actions.AgentReset; first = serial; latest = serial; place = host.writes % 2 };
        is = ap (λ (y : Host). y.operation) h;
        resets = refl;
        first = refl;
      }

  -- or an older one
  old_resetting : (number act first : ℕ) → At s.layer s.target number (Some (purposes.AgentReset act)) → IsResetting past i first → IsResetting now i first
  old_resetting number act first a r =
      let some = reset_some act s.operation ((pointing_of cored).resets act (record { peer = s.target; number = number; serial = a.serial; kind = a.kind; state = a.state; is_for = a.is_for })) in
      let none = beside_none action s free some in
      let h : (host_at now i).operation ≡ (host_at past i).operation = ap (λ (y : Host). y.operation) now_host ∙ acted_none action (present_list ms i) serial (host_at ms i) none ∙ same in
      record { underway = r.underway; is = h ∙ r.is; resets = r.resets; first = r.first }

  new_serial : (number act : ℕ) → At t.1.layer s.target number (Some (purposes.AgentReset act)) → AskedAt s.layer s.target x.asked x.demand.purpose s.target number (Some (purposes.AgentReset act)) → (kind : Kind) (first : ℕ) → (terms now).held (transaction t.1.layer.generation (suc i) 0 number) ≡ waits kind first → IsResetting now i first
  new_serial number act a (asked_now peer n e) kind first w =
      let purpose : x.demand.purpose ≡ purposes.AgentReset act = cc in
      let made = made_reset action act (makes_for s x.demand (purposes.AgentReset act) purpose refl action x.is) in
      let is : serial ≡ first = same_serial (sym (begins_here n) ∙ w) in
      subst (IsResetting now i) is (this_resetting made)
    where
      same_serial : {a b : Kind} {m k : ℕ} → waits a m ≡ waits b k → m ≡ k
      same_serial e = cc

      sending : Sending
      sending = record { generation = generation; from = suc i; to = 0; bytes = packet.bytes; injected = (terms ms).injected serial }

      begins_here : number ≡ x.asked.label.number → (terms now).held (transaction t.1.layer.generation (suc i) 0 number) ≡ waits (kind_in (part_of packet.bytes)) serial
      begins_here n =
          let generation_is : generation ≡ t.1.layer.generation = (fit.sent.0 honest).now ∙ ap (λ (y : Terms). y.generation (suc i)) told.wire ∙ sym shown.generation ∙ sym (asked_generation s.layer s.target (wanted_body x.demand.wanted) x.demand.purpose x.asked t.1.layer x.step) in
          sent_begun serial sending (terms ms) (transaction t.1.layer.generation (suc i) 0 number)
          (asked_begun sending (between sending sending.from sending.to (number_in packet.label)) honest (request_asked sending (number_in packet.label) q.kind q.part)
          ∙ ap (λ g. Some (transaction g (suc i) 0 (number_in packet.label))) generation_is
          ∙ ap (λ m. Some (transaction t.1.layer.generation (suc i) 0 m)) (ap number_in x.label ∙ sym n))
  new_serial number act a (was_asked b) kind first w =
      let old = asks.waits_for number (purposes.AgentReset act) refl b in
      let new = new_asks.waits_for number (purposes.AgentReset act) refl a in
      let v = transaction s.layer.generation (suc i) 0 number in
      let stays = asked_generation s.layer s.target (wanted_body x.demand.wanted) x.demand.purpose x.asked t.1.layer x.step in
      let packet_is : Sending = record { generation = generation; from = suc i; to = 0; bytes = packet.bytes; injected = (terms ms).injected serial } in
      let here : (terms now).held v ≡ waits old.kind old.serial = sent_waits (terms ms) serial packet_is fit.sent.0 v old.kind old.serial (ap (λ (y : Terms). y.held v) told.wire ∙ old.held) in
      old_resetting number act first b
      (resets.first number act kind first b (old.held ∙ sym here ∙ sym (ap (λ g. (terms now).held (transaction g (suc i) 0 number)) stays) ∙ w))

  pub asking_resets : Resets now i s.target t.1.layer
  asking_resets = record {
    first = λ number act kind first a w. new_serial number act a (ask_at s.layer s.target (wanted_body x.demand.wanted) x.demand.purpose x.asked t.1.layer s.target number (Some (purposes.AgentReset act)) (called_of cored) x.step a) kind first w;
  }

-- ---- a delivery and a time-out

module _ {ready : Bool} (past later : List Moment) (i : ℕ) (s : InitiatorState) (t : Turn) (fades : Fades (host_at later i) (host_at past i)) (cored : Cored ready later i t.1) (target_is : t.1.target ≡ s.target) (k : Resets past i s.target s.layer) (held : (m : ℕ) (p : Purpose) → is_cared p ≡ true → At t.1.layer s.target m (Some p) → (kind : Kind) (serial : ℕ) → (terms later).held (transaction t.1.layer.generation (suc i) 0 m) ≡ waits kind serial → At s.layer s.target m (Some p) × ((terms past).held (transaction s.layer.generation (suc i) 0 m) ≡ waits kind serial)) where
  pub ended_resets : Resets later i t.1.target t.1.layer
  ended_resets = record {
    first = λ number act kind serial a w.
        let b = subst (λ x. At t.1.layer x number (Some (purposes.AgentReset act))) target_is a in
        let x = held number (purposes.AgentReset act) refl b kind serial w in
        resetting_on past later i fades (resets_some cored number act a) serial (k.first number act kind serial x.0 x.1);
  }

-- ---- a generation is seen, and the beginning

kept_begun : (b : Bool) (host : Host) (serial : ℕ) → b ≡ true → Begun host serial → Begun (reset_seen (not b) host) serial
kept_begun true host serial e h = h
kept_begun false host serial e h = untrue e

seen_resetting : (generation : ℕ) (past : List Moment) (i serial : ℕ) → generation ≡ (terms past).generation (suc i) → IsResetting past i serial → IsResetting (said (notes.Seen (suc i) generation) ∷ past) i serial
seen_resetting generation past i serial e r =
    let host = host_at past i in
    let w : (known_host past i).wire.generation (suc i) ≡ (terms past).generation (suc i) = ap (λ (t : Terms). t.generation (suc i)) (wire_is past i) in
    let b = begun_of past i serial r in
    resetting_of (said (notes.Seen (suc i) generation) ∷ past) i serial
    (pick_begun (nat_eq (suc i) (suc i)) (reset_seen (not (nat_eq generation ((known_host past i).wire.generation (suc i)))) host) host serial
    (kept_begun (nat_eq generation ((known_host past i).wire.generation (suc i))) host serial (let l : generation ≡ (known_host past i).wire.generation (suc i) = e ∙ sym w in (let f : nat_eq generation ((known_host past i).wire.generation (suc i)) ≡ true = grind (arith, nat_tests) in f)) b) b)

pub seen_resets : (ready : Bool) (generation id target : ℕ) (past : List Moment) (i : ℕ) (s : InitiatorState) → (seeing_step s.layer generation id).0 ≡ not (generation == (terms past).generation (suc i)) → IsAimed ready i s → (nat_lt s.layer.generation generation ≡ false → generation ≡ (terms past).generation (suc i)) → Resets past i s.target s.layer → (let t = see_step generation id target empty_outbox s in Resets (behind t.0.sides (said (notes.Seen (suc i) generation) ∷ past)) i t.1.target t.1.layer)
seen_resets ready generation id target past i s flag h old k = by (nat_lt s.layer.generation generation) refl
  where
    by : (b : Bool) → nat_lt s.layer.generation generation ≡ b → (let t = see_step generation id target empty_outbox s in Resets (behind t.0.sides (said (notes.Seen (suc i) generation) ∷ past)) i t.1.target t.1.layer)
    by true e = record { first = λ number act kind serial a w. absurd (none_seen ready generation id target past i s flag h e (see_step generation id target empty_outbox s).1.target number (Some (purposes.AgentReset act)) a) }
    by false e =
        subst (λ (t : Turn). Resets (behind t.0.sides (said (notes.Seen (suc i) generation) ∷ past)) i t.1.target t.1.layer) (sym (see_old generation id target s e))
        (record { first = λ number act kind serial a w. seen_resetting generation past i serial (old e) (k.first number act kind serial a w) })

pub first_resets : (past : List Moment) (i : ℕ) (ready : Bool) → Resets past i (new_state i ready).target (new_state i ready).layer
unfolding new_state
first_resets past i ready = record { first = λ number act kind serial a w. absurd (not_yet (at_life (0xffc1 + i) [] (new_state i ready).target number (Some (purposes.AgentReset act)) a)) }
  where
    not_yet : {kind : ReplyKind} {purpose : Option Purpose} → not_begun_life ≡ under_way kind purpose → ⊥
    not_yet e = cc
