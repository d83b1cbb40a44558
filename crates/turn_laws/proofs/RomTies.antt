-- The reads of a ROM by the terms: the request under the label of a ROM is the latest one of the operation. So it is behind each note that is no packet of the initiator, and behind what the
-- initiator hands out in a call that is no action.
use Rattle.std.proofs.Common.{◌≡◌, ◌∙◌, inl, inr, refl, sym, ap, subst, ℕ, suc, ◌+◌, ◌&&◌, nat_eq, not, Bool, false, true, cond, List, [], ◌∷◌, ◌++◌, map, Option, Some, None}
use Rattle.bus_transactions.specs.Wire.{transaction}
use Rattle.bus_transactions.proofs.Facts.{asked_begun, request_asked}
use Rattle.bus_transactions.proofs.PacketParts.{same_is}
use Rattle.sbp_bus.specs.Generations.{node_of, topology_at}
use Rattle.sbp_initiator.specs.Effects.{Turn}
use Rattle.sbp_initiator.specs.Histories.Moves.{outgoing}
use Rattle.sbp_initiator.specs.declared.purpose.Running.{Running}
use Rattle.sbp_initiator.specs.declared.state.InitiatorState.{InitiatorState}
use Rattle.sbp_journal.specs.Run.{Moment, said}
use Rattle.sbp_journal.specs.Transactions.{Kind, Sending, Transaction, begun_by, between, is_same, part_of, reading_quadlet, request}
use Rattle.sbp_journal.specs.Wire.{Terms, kind_in, terms, waits}
use Rattle.sbp_journal.specs.declared.event.Action.{Action}
use Rattle.sbp_journal.specs.declared.event.Action.TheVariants as actions
use Rattle.sbp_journal.specs.declared.event.Event.TheVariants as events
use Rattle.sbp_journal.specs.declared.operation.Operation.{Operation}
use Rattle.sbp_journal.specs.declared.operation.Operation.TheVariants as operations
use Rattle.sbp_journal.specs.declared.note.Note.{Note}
use Rattle.sbp_journal.specs.declared.note.Note.TheVariants as notes
use Rattle.sbp_journal.specs.declared.outbox.Outgoing.{Outgoing}
use Rattle.sbp_journal.specs.declared.side.Side.{Side}
use Rattle.sbp_journal.specs.declared.side.Side.TheVariants as sides
use Rattle.sbp_laws.specs.Hosts.{Host, Underway, acted, goes_on, host_at, known_host, operation_of, ring, sent_as, sent_in}
use Rattle.sbp_laws.specs.Lists.{present_list}
use Rattle.sbp_laws.specs.Turns.{event_of}
use Rattle.sbp_world.specs.Telling.{told, told_all}
use Rattle.sbp_world.specs.Worlds.{WorldState}
use Rattle.sbp_world.proofs.Common.{none_is, same_number}
use Rattle.sbp_world.proofs.Formed.{AreOwn, IsNoRun}
use Rattle.sbp_world.proofs.Hosts.Asked.{number_in}
use Rattle.sbp_world.proofs.Hosts.Carries.{IsNoAct}
use Rattle.sbp_world.proofs.Hosts.Cores.{wire_is}
use Rattle.sbp_world.proofs.Hosts.Held.{sent_apart, sent_begun}
use Rattle.sbp_world.proofs.Hosts.Requested.{AreRequests}
use Rattle.turn_laws.proofs.Handed.{handed, notes_sent, notes_told, onto, onto_both, packet_note}
use Rattle.turn_laws.proofs.RomCalls.{ActRom, After, LeavesRom, act_other, act_quiet, begun, went_on}
use Rattle.turn_laws.proofs.RomLabels.{CallRom, IsQuiet, OneRom, RomAt, reads, sends_none, sends_reply, stays}
use Rattle.turn_laws.proofs.RomTerms.{Keeps, NoneMine, Stays, asked_latest, begun_current, is_mine, keeps_reply, keeps_rest, keeps_then, sent_current}
use Rattle.sbp_world.proofs.Lists.ManageFirsts.{so_if}

-- an operation that is no ROM sends one request
abbrev pub IsFirst : Option Underway → Type 0
IsFirst None = Unit {0}
IsFirst (Some u) = u.latest ≡ u.first

abbrev OneSent : List Moment → ℕ → InitiatorState → Type 0
OneSent past i s = (r : Running) → s.operation ≡ Some r → (r.operation ≡ operations.Rom → ⊥) → IsFirst (host_at past i).operation

abbrev pub IsQuad : Terms → Transaction → Type 0
IsQuad t u = (kind : Kind) (serial : ℕ) → t.held u ≡ waits kind serial → kind ≡ reading_quadlet

pub record RomOf (past : List Moment) (i : ℕ) (s : InitiatorState) : Type 0 where
  pub one : OneRom s
  pub tie : (n a : ℕ) → RomAt s.layer s.target n a → (u : Underway) → (host_at past i).operation ≡ Some u → (terms past).current (transaction s.layer.generation (suc i) 0 n) ≡ u.latest
  -- it waits for a quadlet
  pub kind : (n a : ℕ) → RomAt s.layer s.target n a → IsQuad (terms past) (transaction s.layer.generation (suc i) 0 n)
  pub still : OneSent past i s

pub first_keeps : (old new : Host) → Stays old new → IsFirst old.operation → IsFirst new.operation
first_keeps old new (inl e) h = subst IsFirst (sym e) h
first_keeps old new (inr e) h = subst IsFirst (sym e) tt

pub rom_keeps : (past now : List Moment) (i : ℕ) (s : InitiatorState) → Keeps i past now → RomOf past i s → RomOf now i s
rom_keeps past now i s k h = record {
  one = h.one;
  tie = λ n a x u e. by n a x u e k.operation;
  kind = λ n a x kind serial w. h.kind n a x kind serial (k.waited s.layer.generation n kind serial w);
  still = λ r e other. first_keeps (host_at past i) (host_at now i) k.operation (h.still r e other);
}
  where
    by : (n a : ℕ) → RomAt s.layer s.target n a → (u : Underway) → (host_at now i).operation ≡ Some u → Stays (host_at past i) (host_at now i) → (terms now).current (transaction s.layer.generation (suc i) 0 n) ≡ u.latest
    by n a x u e (inl f) = k.current s.layer.generation n ∙ h.tie n a x u (sym f ∙ e)
    by n a x u e (inr f) = none_is u (sym f ∙ e)

-- the machine keeps its labels too
rom_stays : (past now : List Moment) (i : ℕ) (s u : InitiatorState) → Keeps i past now → ((n a : ℕ) → RomAt u.layer u.target n a → RomAt s.layer s.target n a) → u.layer.generation ≡ s.layer.generation → RomOf past i s
    → (n a : ℕ) → RomAt u.layer u.target n a → (v : Underway) → (host_at now i).operation ≡ Some v → (terms now).current (transaction u.layer.generation (suc i) 0 n) ≡ v.latest
rom_stays past now i s u k back g h n a x v e = ap (λ m. (terms now).current (transaction m (suc i) 0 n)) g ∙ (rom_keeps past now i s k h).tie n a (back n a x) v e

kind_stays : (past now : List Moment) (i : ℕ) (s u : InitiatorState) → Keeps i past now → ((n a : ℕ) → RomAt u.layer u.target n a → RomAt s.layer s.target n a) → u.layer.generation ≡ s.layer.generation → RomOf past i s
    → (n a : ℕ) → RomAt u.layer u.target n a → IsQuad (terms now) (transaction u.layer.generation (suc i) 0 n)
kind_stays past now i s u k back g h n a x kind serial w =
    h.kind n a (back n a x) kind serial (k.waited s.layer.generation n kind serial (ap (λ m. (terms now).held (transaction m (suc i) 0 n)) (sym g) ∙ w))

-- ---- what an initiator tells holds no packet
own_mine : (i : ℕ) (note : Note) → IsNoRun note → is_mine i note ≡ false
own_mine i (notes.Begin initiators ready) h = absurd h
own_mine i (notes.Sent serial generation from to bytes) h = absurd h
own_mine i note h = refl

pub told_none : (i weight : ℕ) (later : List Side) (w : WorldState) → AreOwn later → NoneMine i (notes_told weight later w)
told_none i weight [] w h = tt
told_none i weight (sides.Own note ∷ later) w h = (own_mine i note h.0.1, told_none i weight later (told weight (sides.Own note) w) h.1)
told_none i weight (side ∷ later) w h = absurd h.0

-- ---- what the request of an action makes of its operation
acted_keeps : (action : Action) (list : Option ℕ) (serial : ℕ) (host : Host) → (acted action None list serial host).operation ≡ host.operation
acted_keeps actions.State list serial host = refl
acted_keeps actions.Ring list serial host = by host.pointer
  where
    by : (pointer : Option ℕ) → (ring pointer serial host).operation ≡ host.operation
    by None = refl
    by (Some first) = refl
acted_keeps (actions.Append cmd) list serial host = by host.pointer
  where
    by : (pointer : Option ℕ) → (ring pointer serial host).operation ≡ host.operation
    by None = refl
    by (Some first) = refl
acted_keeps action list serial host = refl

acted_first : (action : Action) (list : Option ℕ) (serial : ℕ) (host : Host) → IsFirst host.operation → IsFirst (acted action (operation_of action) list serial host).operation
acted_first actions.Rom list serial host h = refl
acted_first (actions.Login unit reconnect exclusive password) list serial host h = refl
acted_first (actions.Query unit) list serial host h = refl
acted_first actions.Reconnect list serial host h = refl
acted_first actions.Logout list serial host h = refl
acted_first (actions.Abort k) list serial host h = refl
acted_first actions.AbortSet list serial host h = refl
acted_first actions.UnitReset list serial host h = refl
acted_first actions.TargetReset list serial host h = refl
acted_first actions.AgentReset list serial host h = refl
acted_first actions.Enable list serial host h = refl
acted_first action list serial host h = subst IsFirst (sym (acted_keeps action list serial host)) h

acted_begins : (action : Action) (operation : Operation) → operation_of action ≡ Some operation → (list : Option ℕ) (serial : ℕ) (host : Host) → IsFirst (acted action (operation_of action) list serial host).operation
acted_begins actions.Rom operation e list serial host = refl
acted_begins (actions.Login unit reconnect exclusive password) operation e list serial host = refl
acted_begins (actions.Query unit) operation e list serial host = refl
acted_begins actions.Reconnect operation e list serial host = refl
acted_begins actions.Logout operation e list serial host = refl
acted_begins (actions.Abort k) operation e list serial host = refl
acted_begins actions.AbortSet operation e list serial host = refl
acted_begins actions.UnitReset operation e list serial host = refl
acted_begins actions.TargetReset operation e list serial host = refl
acted_begins actions.AgentReset operation e list serial host = refl
acted_begins actions.Enable operation e list serial host = refl
acted_begins action operation e list serial host = none_is operation e

either : (b : Bool) (x y : Host) → x.operation ≡ y.operation → (cond b x y).operation ≡ y.operation
either true x y e = e
either false x y e = refl

latest_in : (serial : ℕ) → Option Underway → ℕ
latest_in serial None = serial
latest_in serial (Some u) = u.latest

module _ (action : Action) (mid : List Moment) (i serial generation to label : ℕ) (kind : Kind) (bytes : List ℕ) (part : part_of bytes ≡ request label kind) (line : event_of mid ≡ Some (events.Act i action)) where
  abbrev host : Host
  host = host_at mid i

  abbrev acts_as : Option Operation → Host
  acts_as operation = acted action operation (present_list mid i) serial host

  sent_is : sent_as (part_of bytes) (event_of mid) i (present_list mid i) serial host ≡ acts_as (operation_of action)
  sent_is =
      ap (λ p. sent_as p (event_of mid) i (present_list mid i) serial host) part
      ∙ ap (λ e. sent_in e i (present_list mid i) serial host) line
      ∙ so_if (nat_eq i i) (acts_as (operation_of action)) (goes_on host.operation serial host) (same_number i)

  act_stays : operation_of action ≡ None → (host_at (said (notes.Sent serial generation (suc i) to bytes) ∷ mid) i).operation ≡ host.operation
  act_stays none =
      either ((nat_eq (suc i) (suc i)) && not ((known_host mid i).wire.injected serial)) (sent_as (part_of bytes) (event_of mid) i (present_list mid i) serial host) host
      (ap (λ (h : Host). h.operation) sent_is ∙ ap (λ o. (acts_as o).operation) none ∙ acted_keeps action (present_list mid i) serial host)

  acts_now : (terms mid).injected serial ≡ false → host_at (said (notes.Sent serial generation (suc i) to bytes) ∷ mid) i ≡ acts_as (operation_of action)
  acts_now honest =
      let own : (known_host mid i).wire.injected serial ≡ false = ap (λ (t : Terms). t.injected serial) (wire_is mid i) ∙ honest in
      so_if ((nat_eq (suc i) (suc i)) && not ((known_host mid i).wire.injected serial)) (sent_as (part_of bytes) (event_of mid) i (present_list mid i) serial host) host
      (ap (λ b. b && not ((known_host mid i).wire.injected serial)) (same_number (suc i)) ∙ ap not own)
      ∙ sent_is

  act_latest : action ≡ actions.Rom → (terms mid).injected serial ≡ false → (u : Underway) → (host_at (said (notes.Sent serial generation (suc i) to bytes) ∷ mid) i).operation ≡ Some u → u.latest ≡ serial
  unfolding latest_in
  act_latest is honest u e = ap (latest_in serial) (sym e ∙ ap (λ (h : Host). h.operation) (acts_now honest)) ∙ ap (λ a. latest_in serial (acted a (operation_of a) (present_list mid i) serial host).operation) is

  act_first : (terms mid).injected serial ≡ false → IsFirst (acts_as (operation_of action)).operation → IsFirst (host_at (said (notes.Sent serial generation (suc i) to bytes) ∷ mid) i).operation
  act_first honest h = subst (λ (x : Host). IsFirst x.operation) (sym (acts_now honest)) h

-- ---- a call of it: `v` is the world behind its first note
module _ (past : List Moment) (i : ℕ) (s : InitiatorState) (t : Turn) (weight : ℕ) (v : WorldState) (own : AreOwn t.0.sides) where
  abbrev base : List Moment
  base = map said v.fresh ++ past

  abbrev V : WorldState
  V = told_all weight t.0.sides v

  abbrev told_notes : List Note
  told_notes = onto (notes_told weight t.0.sides v) v.fresh

  abbrev pub mid : List Moment
  mid = map said told_notes ++ past

  abbrev pub now : List Moment
  now = map said (onto (handed (suc i) weight t.0 v) v.fresh) ++ past

  keeps_mid : Keeps i base mid
  keeps_mid = keeps_rest i (notes_told weight t.0.sides v) v.fresh past (told_none i weight t.0.sides v own)

  now_is : (ps : List Outgoing) → t.0.packets ≡ ps → now ≡ map said (onto (notes_sent (suc i) ps V) told_notes) ++ past
  now_is ps e =
      ap (λ ns. map said ns ++ past) (onto_both (notes_told weight t.0.sides v) (notes_sent (suc i) t.0.packets V) v.fresh)
      ∙ ap (λ qs. map said (onto (notes_sent (suc i) qs V) told_notes) ++ past) e

  one_now : (p : Outgoing) → t.0.packets ≡ p ∷ [] → (to : Option ℕ) → node_of V.generations (suc i) p.to ≡ to → now ≡ map said (onto (packet_note to (suc i) p V ++ []) told_notes) ++ past
  one_now p e to f = now_is (p ∷ []) e ∙ ap (λ n. map said (onto (packet_note n (suc i) p V ++ []) told_notes) ++ past) f

  quiet_keeps : IsQuiet t → Keeps i base now
  quiet_keeps (sends_none e) = subst (λ ms. Keeps i base ms) (sym (now_is [] e)) keeps_mid
  quiet_keeps (sends_reply to bytes reply e) = by (node_of V.generations (suc i) to) refl
    where
      p : Outgoing
      p = record { to = to; label = None; bytes = bytes }

      by : (n : Option ℕ) → node_of V.generations (suc i) to ≡ n → Keeps i base now
      by None f = subst (λ ms. Keeps i base ms) (sym (one_now p e None f)) keeps_mid
      by (Some n) f =
          subst (λ ms. Keeps i base ms) (sym (one_now p e (Some n) f))
          (keeps_then i base mid _ keeps_mid (keeps_reply i (V.store.last + 1) (topology_at V.generations (suc i)).generation n bytes mid reply))

  -- a request that it sends at the end
  module _ (there : node_of V.generations (suc i) s.target ≡ Some 0) (honest : (terms mid).injected (V.store.last + 1) ≡ false) (generation_is : (topology_at V.generations (suc i)).generation ≡ t.1.layer.generation) (h : RomOf base i s) where
    abbrev serial : ℕ
    serial = V.store.last + 1

    abbrev generation : ℕ
    generation = (topology_at V.generations (suc i)).generation

    abbrev own_of : ℕ → Transaction
    own_of n = transaction t.1.layer.generation (suc i) 0 n

    module _ (p : Outgoing) (sent : t.0.packets ≡ p ∷ []) (to_is : p.to ≡ s.target) (kind : Kind) (part : part_of p.bytes ≡ request (number_in p.label) kind) where
      abbrev packet : Sending
      packet = record { generation = generation; from = suc i; to = 0; bytes = p.bytes; injected = (terms mid).injected serial }

      abbrev label : ℕ
      label = number_in p.label

      abbrev behind_it : List Moment
      behind_it = said (notes.Sent serial generation (suc i) 0 p.bytes) ∷ mid

      is : now ≡ behind_it
      is = one_now p sent (Some 0) (ap (node_of V.generations (suc i)) to_is ∙ there)

      begins : begun_by packet ≡ Some (own_of label)
      begins =
          asked_begun packet (between packet packet.from packet.to label) honest (request_asked packet label kind part)
          ∙ ap (λ g. Some (transaction g (suc i) 0 label)) generation_is

      apart_label : (n : ℕ) → (n ≡ label → ⊥) → (w : Transaction) → begun_by packet ≡ Some w → is_same (own_of n) w ≡ false
      apart_label n other w e = by (is_same (own_of n) w) refl
        where
          same_some : (x y : Transaction) → Some x ≡ Some y → x ≡ y
          same_some x y e = cc

          by : (b : Bool) → is_same (own_of n) w ≡ b → is_same (own_of n) w ≡ false
          by false f = f
          by true f = absurd (other (ap (λ (y : Transaction). y.label) (same_is (own_of n) w f ∙ same_some w (own_of label) (sym e ∙ begins))))

      -- it is the latest one of its operation
      latest_tie : ((u : Underway) → (host_at behind_it i).operation ≡ Some u → u.latest ≡ serial) → (n : ℕ) → n ≡ label → (u : Underway) → (host_at now i).operation ≡ Some u → (terms now).current (own_of n) ≡ u.latest
      latest_tie latest n e u f =
          ap (λ m. (terms now).current (own_of m)) e
          ∙ ap (λ ms. (terms ms).current (own_of label)) is
          ∙ begun_current serial packet (terms mid) (own_of label) begins
          ∙ sym (latest u (ap (λ ms. (host_at ms i).operation) (sym is) ∙ f))

      latest_kind : kind ≡ reading_quadlet → (n : ℕ) → n ≡ label → IsQuad (terms now) (own_of n)
      latest_kind quad n e other m w =
          kind_of_waits (sym w ∙ ap (λ l. (terms now).held (own_of l)) e ∙ ap (λ ms. (terms ms).held (own_of label)) is ∙ sent_begun serial packet (terms mid) (own_of label) begins ∙ ap (λ x. waits (kind_in x) serial) part) ∙ quad
        where
          kind_of_waits : waits other m ≡ waits kind serial → other ≡ kind
          kind_of_waits f = cc

      other_kind : LeavesRom s t → (n a : ℕ) → RomAt t.1.layer t.1.target n a → (n ≡ label → ⊥) → IsQuad (terms now) (own_of n)
      other_kind l n a x other kind m w =
          kind_stays base mid i s t.1 keeps_mid l.back l.generation h n a x kind m
          (sym (sent_apart serial packet (terms mid) (own_of n) (apart_label n other)) ∙ ap (λ ms. (terms ms).held (own_of n)) (sym is) ∙ w)

      -- it is under another label, and its action begins no operation
      other_tie : LeavesRom s t → (host_at behind_it i).operation ≡ (host_at mid i).operation → (n a : ℕ) → RomAt t.1.layer t.1.target n a → (n ≡ label → ⊥) → (u : Underway) → (host_at now i).operation ≡ Some u → (terms now).current (own_of n) ≡ u.latest
      other_tie l stay n a x other u f =
          ap (λ ms. (terms ms).current (own_of n)) is
          ∙ sent_current serial packet (terms mid) (own_of n) (apart_label n other)
          ∙ rom_stays base mid i s t.1 keeps_mid l.back l.generation h n a x u (sym stay ∙ ap (λ ms. (host_at ms i).operation) (sym is) ∙ f)

    -- in a call that is no action
    pub own_ties : IsNoAct i (event_of mid) → CallRom s t → RomOf now i t.1
    own_ties line (stays back g was quiet one) = record {
      one = one;
      tie = rom_stays base now i s t.1 (quiet_keeps quiet) back g h;
      kind = kind_stays base now i s t.1 (quiet_keeps quiet) back g h;
      still = λ r e other. first_keeps (host_at base i) (host_at now i) (quiet_keeps quiet).operation (h.still r (was r e) other);
    }
    own_ties line (reads asked a sent part at only rom one) =
        let p = outgoing s.target asked in
        record {
          one = one;
          tie = λ n b x u e. latest_tie p sent refl reading_quadlet part (asked_latest i serial generation 0 asked.label.number reading_quadlet asked.bytes mid part honest line) n (only n b x) u e;
          kind = λ n b x. latest_kind p sent refl reading_quadlet part refl n (only n b x);
          still = λ r e other. absurd (other (rom r e));
        }

    module _ (action : Action) (line : event_of mid ≡ Some (events.Act i action)) where
      first_before : (s.operation ≡ None → IsFirst (host_at base i).operation) → (r : Running) → (r.operation ≡ operations.Rom → ⊥) → After action s r → IsFirst (host_at base i).operation
      first_before bare r other (went_on e) = h.still r e other
      first_before bare r other (begun operation f e) = bare e

      first_acts : (r : Running) → (r.operation ≡ operations.Rom → ⊥) → After action s r → IsFirst (acted action (operation_of action) (present_list mid i) serial (host_at mid i)).operation
      first_acts r other (went_on e) = acted_first action (present_list mid i) serial (host_at mid i) (first_keeps (host_at base i) (host_at mid i) keeps_mid.operation (h.still r e other))
      first_acts r other (begun operation f e) = acted_begins action operation f (present_list mid i) serial (host_at mid i)

      -- in one that begins no ROM
      pub act_ties : ((r : Running) → s.operation ≡ Some r → operation_of action ≡ None) → AreRequests s.target t.0.packets → ((r : Running) → t.1.operation ≡ Some r → After action s r) → (s.operation ≡ None → IsFirst (host_at base i).operation) → ActRom s t → RomOf now i t.1
      act_ties free asks after bare (act_quiet l e) =
          let k = quiet_keeps (sends_none e) in
          record {
            one = l.one;
            tie = rom_stays base now i s t.1 k l.back l.generation h;
            kind = kind_stays base now i s t.1 k l.back l.generation h;
            still = λ r f other. first_keeps (host_at base i) (host_at now i) k.operation (first_before bare r other (after r f));
          }
      act_ties free asks after bare (act_other l asked p e label_is other) =
          let r : AreRequests s.target (p ∷ []) = subst (AreRequests s.target) e asks in
          let k = r.1 in
          record {
            one = l.one;
            tie = λ n a x u f. (let c = l.one.runs n a x in other_tie p e r.0 k.kind k.part l (act_stays action mid i serial generation 0 (number_in p.label) k.kind p.bytes k.part line (free c.running (l.was c.running c.is c.kind))) n a x (λ z. other n a x (z ∙ ap number_in label_is)) u f);
            kind = λ n a x. other_kind p e r.0 k.kind k.part l n a x (λ z. other n a x (z ∙ ap number_in label_is));
            still = λ x f no.
                subst (λ ms. IsFirst (host_at ms i).operation) (sym (is p e r.0 k.kind k.part))
                (act_first action mid i serial generation 0 (number_in p.label) k.kind p.bytes k.part line honest (first_acts x no (after x f)));
          }

      -- and in one that does
      pub rom_ties : action ≡ actions.Rom → CallRom s t → ((r : Running) → s.operation ≡ Some r → ⊥) → RomOf now i t.1
      rom_ties rom (stays back g was quiet one) none = record {
        one = one;
        tie = λ n a x u e. (let k = one.runs n a x in absurd (none k.running (was k.running k.is)));
        kind = λ n a x. (let k = one.runs n a x in absurd (none k.running (was k.running k.is)));
        still = λ r e other. absurd (none r (was r e));
      }
      rom_ties rom (reads asked a sent part at only runs one) none =
          let p = outgoing s.target asked in
          record {
            one = one;
            tie = λ n b x u e. latest_tie p sent refl reading_quadlet part (act_latest action mid i serial generation 0 asked.label.number reading_quadlet asked.bytes part line rom honest) n (only n b x) u e;
            kind = λ n b x. latest_kind p sent refl reading_quadlet part refl n (only n b x);
            still = λ r e other. absurd (other (runs r e));
          }
