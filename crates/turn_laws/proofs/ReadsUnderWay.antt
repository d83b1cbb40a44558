-- A read of AGENT_STATE that the terms have under way and one of its initiator are of one transaction. What a packet that is judged, or a time-out, leaves
-- of both: a transaction that ends takes its read out of both, and every other one leaves them.
use Rattle.std.proofs.Common.{arith, ◌≡◌, inl, inr, ◌⊎◌, refl, sym, ◌∙◌, ap, subst, ℕ, suc, ◌≤◌, ◌==◌, ◌&&◌, nat_eq, nat_lt, not, Bool, true, false, cond, List, ◌∷◌, Option, Some, None, Result, Ok, Err}
use Rattle.std.specs.List.{filter}
use Rattle.std.proofs.lemmas.Option.{same_Some}
use Rattle.async_packet.specs.Fields.{rcode_of}
use Rattle.bus_transactions.specs.Fitting.{AreBytes}
use Rattle.bus_transactions.specs.Packets.{SerialsCount}
use Rattle.bus_transactions.specs.Rows.{awaits, kind_as, shape, shape_of}
use Rattle.bus_transactions.specs.Wire.{transaction}
use Rattle.bus_transactions.proofs.PacketParts.{same_is}
use Rattle.label_table.specs.Layer.{Finding, Layer, of_again, of_generation, of_grammar, of_label, of_request, of_response}
use Rattle.label_table.specs.Peers.{purpose_for, state_for}
use Rattle.label_table.specs.declared.reply.ReplyKind.{ReplyKind}
use Rattle.label_table.specs.declared.reply.Stale.{Stale}
use Rattle.sbp_initiator.specs.Effects.{Turn}
use Rattle.sbp_initiator.specs.Histories.Marks.{expired_reads, finding_reads, has_read, read_over}
use Rattle.sbp_initiator.specs.declared.purpose.Purpose.{Purpose}
use Rattle.sbp_initiator.specs.declared.purpose.Purpose.TheVariants as purposes
use Rattle.sbp_initiator.specs.declared.purpose.Running.{Running}
use Rattle.sbp_initiator.specs.declared.state.InitiatorState.{InitiatorState}
use Rattle.sbp_initiator.proofs.Histories.Lives.{read_act}
use Rattle.sbp_journal.specs.Run.{Moment, said}
use Rattle.sbp_journal.specs.Transactions.{Kind, Part, Sending, Transaction, asked_by, begun_by, between, is_same, is_same_kind, no_packet, part_of, request, response}
use Rattle.sbp_journal.specs.Wire.{Held, Terms, arrives, begun_in, closes, closes_if, free, gets, gets_as, is_news, is_served, rests, terms, times_out, waits}
use Rattle.sbp_journal.specs.declared.note.Note.TheVariants as notes
use Rattle.sbp_laws.specs.Hosts.{StateRead, Underway, host_at, is_serial}
use Rattle.sbp_laws.specs.Packets.{answered_as, answered_at, answered_in, closed_by, is_under_way, is_waiting_for, sender_in, waits_for}
use Rattle.sbp_laws.specs.Packets as packets
use Rattle.sbp_laws.specs.Turns.{EachMoment}
use Rattle.sbp_world.proofs.Agents.Management.Still.{judges_held}
use Rattle.sbp_world.proofs.Common.{cond_off, cond_on, equal, none_is, same_number, untrue}
use Rattle.sbp_world.proofs.Hosts.Layered.{LayerLeft, Left, read, same}
use Rattle.sbp_world.proofs.Hosts.Lives.{At, Called, ask_keeps}
use Rattle.sbp_world.proofs.Hosts.PointerNotes.{tame_told}
use Rattle.sbp_world.proofs.Hosts.Pointing.{at_same, under_way_now}
use Rattle.sbp_world.proofs.Hosts.Shown.{IsShown}
use Rattle.sbp_world.proofs.Lists.BegunBy.{begun_of, held_by, transaction_of}
use Rattle.sbp_world.proofs.Lists.FedHeld.{got_frees, same_self}
use Rattle.sbp_world.proofs.Lists.ManageFirsts.{Goes, goes_then, told_first}
use Rattle.sbp_world.proofs.Pointers.Ages.{serial_is}
use Rattle.sbp_world.proofs.Pointers.Guarded.{left_generation}
use Rattle.sbp_world.specs.Hosts.Calls.{behind}
use Rattle.sbp_world.proofs.Hosts.HostReads.{Reads, all_kept, is_gone, over_if, told_reads}
use Rattle.turn_laws.proofs.ReadPairs.{AreZipped, Fate, was_kept, zipped_filter}
use Rattle.sbp_world.proofs.Hosts.Pointed.{free_not}

-- a transaction of an initiator with its target waits under a label; a read of AGENT_STATE of an action is under way there
abbrev pub WaitsAt : List Moment → (i : ℕ) → Layer Purpose → (number : ℕ) → Kind → (serial : ℕ) → Type 0
WaitsAt past i layer number kind serial = (terms past).held (transaction layer.generation (suc i) 0 number) ≡ waits kind serial

abbrev pub StateAt : Layer Purpose → (target number act : ℕ) → Option ℕ → Type 0
StateAt layer target number act list = At layer target number (Some (purposes.State act list))

-- Both are of one transaction that is under way, and both began behind the operation under way, or before it.
pub record IsPair (past : List Moment) (i : ℕ) (s : InitiatorState) (one : StateRead) (act : ℕ) : Type 0 where
  pub number : ℕ
  pub list : Option ℕ
  pub kind : Kind
  pub at : StateAt s.layer s.target number act list
  -- it says something of that list
  pub named : one.list ≡ list
  pub held : WaitsAt past i s.layer number kind one.serial
  pub order : (u : Underway) → (host_at past i).operation ≡ Some u → (r : Running) → s.operation ≡ Some r → nat_lt u.first one.serial ≡ nat_lt r.act act
  pub below : one.serial ≤ (terms past).count

-- each transaction that timed out was under way then, and each packet that was got has bytes
abbrev pub IsTimely : Moment → List Moment → Type 0
IsTimely (said (notes.TimedOut serial)) past = is_under_way (terms past) serial ≡ true
IsTimely (said (notes.Got serial)) past = (packet : Sending) → (terms past).sent serial ≡ Some packet → AreBytes packet.bytes
IsTimely moment past = Unit {0}

abbrev pub AreTimely : List Moment → Type 0
AreTimely past = EachMoment IsTimely past

-- ---- what a label waits for, by the history
never_rests : {A : Type 0} (k : Kind) (n : ℕ) → rests ≡ waits k n → A
never_rests k n e = absurd (let no : rests ≡ waits k n = e in cc)

-- a transaction closes no other one
closes_keeps : (h : Held) (u v : Transaction) (kind : Kind) (rcode : ℕ) (t : Terms) → ((own : ℕ) → closed_by h kind ≡ Some own → is_same v u ≡ false) → (closes h u kind rcode t).held v ≡ t.held v
closes_keeps free u v kind rcode t f = refl
closes_keeps rests u v kind rcode t f = refl
closes_keeps (waits k s) u v kind rcode t f = by (is_same_kind k kind) f
  where
    by : (b : Bool) → ((own : ℕ) → cond b (Some s) None ≡ Some own → is_same v u ≡ false) → (closes_if b s u rcode t).held v ≡ t.held v
    by true f = cond_off (is_same v u) free (t.held v) (f s refl)
    by false f = refl

-- a request that is under way
record Awaited (t : Terms) (serial : ℕ) : Type 0 where
  packet : Sending
  sent : t.sent serial ≡ Some packet
  u : Transaction
  begun : begun_by packet ≡ Some u
  kind : Kind
  held : t.held u ≡ waits kind serial

awaited_held : (t : Terms) (serial : ℕ) (packet : Sending) → t.sent serial ≡ Some packet → (u : Transaction) → begun_by packet ≡ Some u → (now : Bool) (held : Held) → t.held u ≡ held
    → (now && is_waiting_for held serial) ≡ true → Awaited t serial
awaited_held t serial packet e u b false held h f = untrue f
awaited_held t serial packet e u b true free h f = untrue f
awaited_held t serial packet e u b true rests h f = untrue f
awaited_held t serial packet e u b true (waits kind other) h f = record { packet = packet; sent = e; u = u; begun = b; kind = kind; held = h ∙ ap (waits kind) (equal other serial f) }

awaited_as : (t : Terms) (serial : ℕ) (packet : Sending) → t.sent serial ≡ Some packet → (begun : Option Transaction) → begun_by packet ≡ begun → waits_for t begun serial ≡ true → Awaited t serial
awaited_as t serial packet e None b f = untrue f
awaited_as t serial packet e (Some u) b f = awaited_held t serial packet e u b (packets.is_of_now t u) (t.held u) refl f

awaited_by : (t : Terms) (serial : ℕ) (sent : Option Sending) → t.sent serial ≡ sent → waits_for t (packets.begun_in sent) serial ≡ true → Awaited t serial
awaited_by t serial None e f = untrue f
awaited_by t serial (Some packet) e f = awaited_as t serial packet e (begun_by packet) refl f

module _ (past : List Moment) (serials : SerialsCount past) where
  abbrev T : Terms
  T = terms past

  -- a request is of one transaction
  pub one_transaction : (u v : Transaction) (k m : Kind) (serial : ℕ) → T.held u ≡ waits k serial → T.held v ≡ waits m serial → u ≡ v
  one_transaction u v k m serial e f =
      let a = begun_of past serials u k serial e in
      let b = begun_of past serials v m serial f in
      let packet_is : a.packet ≡ b.packet = same_Some a.packet b.packet (sym a.sent ∙ b.sent) in
      same_Some u v (sym a.begun ∙ ap (λ p. begun_by p) packet_is ∙ b.begun)

  -- ---- a packet is got
  module _ (serial : ℕ) (q : Sending) (sent : T.sent serial ≡ Some q) where
    abbrev own : Option ℕ
    own = answered_at T serial

    abbrev Got : Terms
    Got = terms (said (notes.Got serial) ∷ past)

    abbrev came : Terms
    came = is_served serial (is_news serial (arrives serial T))

    got_as : (part : Part) → part_of q.bytes ≡ part → (v : Transaction) → Got.held v ≡ (gets_as part serial q came).held v
    got_as part p v = ap (λ so. (gets so serial T).held v) sent ∙ ap (λ x. (gets_as x serial q came).held v) p

    own_as : (part : Part) → part_of q.bytes ≡ part → own ≡ answered_as part T q
    own_as part p = ap (λ so. answered_in T so) sent ∙ ap (λ x. answered_as x T q) p

    module _ (v : Transaction) (k : Kind) (n : ℕ) (h : T.held v ≡ waits k n) where
      -- it answers another request, or none
      module _ (e : is_gone own n ≡ false) where
        apart : (label : ℕ) (kind : Kind) → part_of q.bytes ≡ response label kind → (other : ℕ) → closed_by (T.held (between q q.to q.from label)) kind ≡ Some other
            → is_same v (between q q.to q.from label) ≡ false
        apart label kind p other f = by (is_same v (between q q.to q.from label)) refl
          where
            by : (b : Bool) → is_same v (between q q.to q.from label) ≡ b → is_same v (between q q.to q.from label) ≡ false
            by false g = g
            by true g =
                let u = between q q.to q.from label in
                let x = held_by (T.held u) kind other f in
                let number : other ≡ n = serial_is k x.kind n other (sym h ∙ ap (λ y. T.held y) (same_is v u g) ∙ x.is) in
                untrue (sym e ∙ ap (λ z. is_gone z n) (own_as (response label kind) p ∙ f) ∙ ap (λ z. n == z) number ∙ same_number n)

        pub got_on : Got.held v ≡ waits k n
        got_on = by (part_of q.bytes) refl
          where
            by : (part : Part) → part_of q.bytes ≡ part → Got.held v ≡ waits k n
            by (request label kind) p = got_as (request label kind) p v ∙ ap (λ (f : Transaction → Held). f v) (judges_held (asked_by q) None serial q came) ∙ h
            by no_packet p = got_as no_packet p v ∙ h
            by (response label kind) p =
                let u = between q q.to q.from label in
                got_as (response label kind) p v ∙ closes_keeps (T.held u) u v kind (rcode_of q.bytes) came (λ other f. apart label kind p other f) ∙ h

      -- it answers this one
      pub got_off : is_gone own n ≡ true → (m : Kind) (x : ℕ) → Got.held v ≡ waits m x → ⊥
      got_off e m x w = by (part_of q.bytes) refl
        where
          answers : (label : ℕ) (kind : Kind) → part_of q.bytes ≡ response label kind → (found : Option ℕ) → closed_by (T.held (between q q.to q.from label)) kind ≡ found → ⊥
          answers label kind p None f = untrue (sym (ap (λ z. is_gone z n) (own_as (response label kind) p ∙ f)) ∙ e)
          answers label kind p (Some other) f =
              let u = between q q.to q.from label in
              let number : n ≡ other = equal n other (sym (ap (λ z. is_gone z n) (own_as (response label kind) p ∙ f)) ∙ e) in
              let y = held_by (T.held u) kind other f in
              let is : v ≡ u = one_transaction v u k y.kind n h (y.is ∙ ap (waits y.kind) (sym number)) in
              free_not m x (sym (got_frees T serial other q label kind sent p f) ∙ ap (λ z. Got.held z) (sym is) ∙ w)

          by : (part : Part) → part_of q.bytes ≡ part → ⊥
          by (request label kind) p = untrue (sym (ap (λ z. is_gone z n) (own_as (request label kind) p)) ∙ e)
          by no_packet p = untrue (sym (ap (λ z. is_gone z n) (own_as no_packet p)) ∙ e)
          by (response label kind) p = answers label kind p (closed_by (T.held (between q q.to q.from label)) kind) refl

  -- ---- a request that is under way times out
  module _ (serial : ℕ) (timely : is_under_way T serial ≡ true) where
    a : Awaited T serial
    a = awaited_by T serial (T.sent serial) refl timely

    abbrev Late : Terms
    Late = terms (said (notes.TimedOut serial) ∷ past)

    late_as : (v : Transaction) → Late.held v ≡ cond (is_same v a.u) rests (T.held v)
    late_as v = ap (λ so. (times_out (begun_in so) T).held v) a.sent ∙ ap (λ o. (times_out o T).held v) a.begun

    -- of a transaction of an initiator
    module _ (g i m : ℕ) (k : Kind) (n : ℕ) (h : T.held (transaction g (suc i) 0 m) ≡ waits k n) where
      abbrev own_v : Transaction
      own_v = transaction g (suc i) 0 m

      abbrev over : Option ℕ
      over = over_if (is_serial (sender_in (T.sent serial)) (suc i)) serial

      -- where it is the one that ends, its initiator sent the request
      over_is : own_v ≡ a.u → over ≡ Some serial
      over_is is =
          let from : a.packet.from ≡ suc i = sym (transaction_of a.packet a.u a.begun).requester ∙ ap (λ (y : Transaction). y.requester) (sym is) in
          ap (λ so. over_if (is_serial (sender_in so) (suc i)) serial) a.sent
          ∙ ap (λ b. over_if b serial) (ap (λ y. nat_eq y (suc i)) from ∙ same_number (suc i))

      pub late_on : is_gone over n ≡ false → Late.held own_v ≡ waits k n
      late_on e = late_as own_v ∙ by (is_same own_v a.u) refl
        where
          by : (b : Bool) → is_same own_v a.u ≡ b → cond (is_same own_v a.u) rests (T.held own_v) ≡ waits k n
          by false f = cond_off (is_same own_v a.u) rests (T.held own_v) f ∙ h
          by true f =
              let is = same_is own_v a.u f in
              let number : serial ≡ n = serial_is k a.kind n serial (sym h ∙ ap (λ y. T.held y) is ∙ a.held) in
              untrue (sym e ∙ ap (λ z. is_gone z n) (over_is is) ∙ ap (λ z. n == z) number ∙ same_number n)

      gone_is : (b : Bool) → is_gone (over_if b serial) n ≡ true → n ≡ serial
      gone_is true e = equal n serial e
      gone_is false e = untrue e

      pub late_off : is_gone over n ≡ true → (m : Kind) (x : ℕ) → Late.held own_v ≡ waits m x → ⊥
      late_off e m x w =
          let number = gone_is (is_serial (sender_in (T.sent serial)) (suc i)) e in
          let is : own_v ≡ a.u = one_transaction own_v a.u k a.kind n h (a.held ∙ ap (waits a.kind) (sym number)) in
          never_rests m x (sym (late_as own_v ∙ cond_on (is_same own_v a.u) rests (T.held own_v) (ap (λ y. is_same own_v y) (sym is) ∙ same_self own_v)) ∙ w)

-- ---- the reads that a layer leaves under way
-- the action of the read that ends
abbrev pub ended_for : Option Purpose → Option ℕ
ended_for None = None
ended_for (Some purpose) = read_act purpose

abbrev pub ended_by : Finding Purpose → Option ℕ
ended_by (of_response p label purpose) = ended_for purpose
ended_by finding = None

abbrev pub ended_late : Result (Option Purpose) Stale → Option ℕ
ended_late (Ok purpose) = ended_for purpose
ended_late (Err stale) = None

abbrev left_of : Option ℕ → List ℕ → List ℕ
left_of over acts = filter (λ (act : ℕ). not (is_gone over act)) acts

over_reads : (purpose : Option Purpose) (acts : List ℕ) → read_over purpose acts ≡ left_of (ended_for purpose) acts
over_reads None acts = sym (all_kept acts)
over_reads (Some (purposes.State act list)) acts = refl
over_reads (Some (purposes.Pointer list)) acts = sym (all_kept acts)
over_reads (Some purposes.Doorbell) acts = sym (all_kept acts)
over_reads (Some (purposes.AgentReset act)) acts = sym (all_kept acts)
over_reads (Some (purposes.Enable act)) acts = sym (all_kept acts)
over_reads (Some (purposes.Management act)) acts = sym (all_kept acts)
over_reads (Some (purposes.Rom act)) acts = sym (all_kept acts)

pub finding_left : (finding : Finding Purpose) (acts : List ℕ) → finding_reads finding acts ≡ left_of (ended_by finding) acts
finding_left of_generation acts = sym (all_kept acts)
finding_left of_grammar acts = sym (all_kept acts)
finding_left of_label acts = sym (all_kept acts)
finding_left (of_response p label purpose) acts = over_reads purpose acts
finding_left (of_again p rcode) acts = sym (all_kept acts)
finding_left (of_request p) acts = sym (all_kept acts)

pub lapsed_left : (r : Result (Option Purpose) Stale) (acts : List ℕ) → expired_reads r acts ≡ left_of (ended_late r) acts
lapsed_left (Ok purpose) acts = over_reads purpose acts
lapsed_left (Err stale) acts = sym (all_kept acts)

-- ---- behind a packet that was judged, or a time-out, and what is told then
-- pairs are left, but the one of a transaction that ends
pub record ReadsThen (P Q : StateRead → ℕ → Type 0) (gone ended : Option ℕ) (reads later : List StateRead) (acts left : List ℕ) : Type 0 where
  pub zipped : AreZipped P reads acts → AreZipped Q later left
  pub gone_too : (read : StateRead) (act : ℕ) → P read act → ended ≡ Some act → is_gone gone read.serial ≡ true

forward : (l : Layer Purpose) (target : ℕ) (now : Layer Purpose) (number : ℕ) (purpose : Option Purpose) → Called l → LayerLeft l target now → At l target number purpose
    → At now target number purpose
forward l target now number purpose c (same g p) a = at_same l now target number purpose p a
forward l target now number purpose c (read body act asked step) a = ask_keeps l target body (purposes.Rom act) asked now c step target number purpose a

-- a request waits
pub record Waiting (h : Held) : Type 0 where
  pub kind : Kind
  pub serial : ℕ
  pub is : h ≡ waits kind serial

pub waits_now : (h : Held) (kind : ReplyKind) → shape_of h ≡ awaits kind → Waiting h
waits_now (waits kind serial) other e = record { kind = kind; serial = serial; is = refl }
waits_now free other e = absurd (let no : shape_of free ≡ awaits other = e in cc)
waits_now rests other e = absurd (let no : shape_of rests ≡ awaits other = e in cc)

module _ (past now : List Moment) (i : ℕ) (s : InitiatorState) (l : Layer Purpose) (t : Turn) (gone ended : Option ℕ) (shown : IsShown now i s.target l) (generation_is : l.generation ≡ s.layer.generation) (called : Called l) (left : Left l s.target t) (stays : (m : ℕ) (k : Kind) (n : ℕ) → WaitsAt past i s.layer m k n → is_gone gone n ≡ false → WaitsAt now i s.layer m k n) (ends : (m : ℕ) (k : Kind) (n : ℕ) → WaitsAt past i s.layer m k n → is_gone gone n ≡ true → (k' : Kind) (n' : ℕ) → WaitsAt now i s.layer m k' n' → ⊥) (back : (m : ℕ) (purpose : Option Purpose) → At l s.target m purpose → At s.layer s.target m purpose) (on : (m act : ℕ) (list : Option ℕ) → StateAt s.layer s.target m act list → StateAt l s.target m act list ⊎ (ended ≡ Some act)) (goes : Goes (host_at past i) (host_at now i)) (count : (terms past).count ≤ (terms now).count) (operation : (t.1.operation ≡ s.operation) ⊎ (t.1.operation ≡ None)) (lives : (m act : ℕ) (list : Option ℕ) → StateAt t.1.layer t.1.target m act list → has_read act t.1.states ≡ true) (states : t.1.states ≡ left_of ended s.states) (reads : Reads now i ≡ filter (λ (r : StateRead). not (is_gone gone r.serial)) (Reads past i)) where
  abbrev later : List Moment
  later = behind t.0.sides now

  abbrev P : StateRead → ℕ → Type 0
  P r act = IsPair past i s r act

  abbrev Q : StateRead → ℕ → Type 0
  Q r act = IsPair later i t.1 r act

  abbrev keep : StateRead → Bool
  keep r = not (is_gone gone r.serial)

  abbrev stay : ℕ → Bool
  stay act = not (is_gone ended act)

  wire_is : terms later ≡ terms now
  wire_is = (tame_told t.0.sides now i left.told).wire

  abbrev v : ℕ → Transaction
  v m = transaction s.layer.generation (suc i) 0 m

  goes_on : Goes (host_at past i) (host_at later i)
  goes_on = goes_then (host_at past i) (host_at now i) (host_at later i) goes (told_first t.0.sides now i left.told)

  -- the operation under way was so before
  was_running : (r : Running) → t.1.operation ≡ Some r → s.operation ≡ Some r
  was_running r e = by operation
    where
      by : (t.1.operation ≡ s.operation) ⊎ (t.1.operation ≡ None) → s.operation ≡ Some r
      by (inl f) = sym f ∙ e
      by (inr f) = none_is r (sym f ∙ e)

  module _ (r : StateRead) (act : ℕ) (p : P r act) where
    -- it is over: so it is for its initiator
    goes_out : is_gone gone r.serial ≡ true → ended ≡ Some act
    goes_out e = by (on p.number act p.list p.at)
      where
        by : StateAt l s.target p.number act p.list ⊎ (ended ≡ Some act) → ended ≡ Some act
        by (inr f) = f
        by (inl a) =
            let x = waits_now ((terms now).held (transaction l.generation (suc i) 0 p.number)) a.kind (sym (shown.states p.number) ∙ ap shape a.state) in
            absurd (ends p.number p.kind r.serial p.held e x.kind x.serial (ap (λ g. (terms now).held (transaction g (suc i) 0 p.number)) (sym generation_is) ∙ x.is))

    -- it goes on
    module _ (e : is_gone gone r.serial ≡ false) where
      held_now : WaitsAt now i s.layer p.number p.kind r.serial
      held_now = stays p.number p.kind r.serial p.held e

      at_now : StateAt l s.target p.number act p.list
      at_now =
          let u = under_way_now (state_for l.peers s.target p.number) (kind_as p.kind)
          (shown.states p.number ∙ ap (λ g. shape_of ((terms now).held (transaction g (suc i) 0 p.number))) generation_is ∙ ap shape_of held_now) in
          let x : At l s.target p.number (purpose_for l.peers s.target p.number) = record { kind = u.kind; serial = u.serial; state = u.is; is_for = refl } in
          let c = back p.number (purpose_for l.peers s.target p.number) x in
          record { kind = u.kind; serial = u.serial; state = u.is; is_for = sym c.is_for ∙ p.at.is_for }

      at_then : StateAt t.1.layer t.1.target p.number act p.list
      at_then = subst (λ n. StateAt t.1.layer n p.number act p.list) (sym left.target_is) (forward l s.target t.1.layer p.number (Some (purposes.State act p.list)) called left.layer at_now)

      stays_in : stay act ≡ true
      stays_in = ap not (was_kept (λ (other : ℕ). is_gone ended other) act s.states (ap (λ (acts : List ℕ). has_read act acts) (sym states) ∙ lives p.number act p.list at_then))

      pair : Q r act
      pair = record {
        number = p.number;
        list = p.list;
        kind = p.kind;
        at = at_then;
        named = p.named;
        held =
            ap (λ g. (terms later).held (transaction g (suc i) 0 p.number)) (left_generation l s.target t.1.layer left.layer ∙ generation_is)
            ∙ ap (λ (x : Terms). x.held (v p.number)) wire_is ∙ held_now;
        order = λ u f running g. (let x = goes_on.on u f in ap (λ n. nat_lt n r.serial) (sym x.first) ∙ p.order x.was x.is running (was_running running g));
        below = (let x = p.below in let y = ap (λ (z : Terms). z.count) wire_is in omega (arith, x, y, count));
      }

    fate : Fate P Q keep stay r act
    fate = by (is_gone gone r.serial) refl
      where
        by : (b : Bool) → is_gone gone r.serial ≡ b → Fate P Q keep stay r act
        by true e = inr (ap not e, ap (λ o. not (is_gone o act)) (goes_out e) ∙ ap not (same_number act))
        by false e = inl (ap not e, (stays_in e, pair e))

  zipped_then : AreZipped P (Reads past i) s.states → AreZipped Q (Reads later i) t.1.states
  zipped_then z =
      subst (λ acts. AreZipped Q (Reads later i) acts) (sym states)
      (subst (λ rs. AreZipped Q rs (left_of ended s.states)) (sym (told_reads t.0.sides now i left.told ∙ reads)) (zipped_filter P Q keep stay fate (Reads past i) s.states z))

  -- one that is over for its initiator is over
  gone_too : (r : StateRead) (act : ℕ) → P r act → ended ≡ Some act → is_gone gone r.serial ≡ true
  gone_too r act p e = by (is_gone gone r.serial) refl
    where
      by : (b : Bool) → is_gone gone r.serial ≡ b → is_gone gone r.serial ≡ true
      by true f = f
      by false f = untrue (sym (ap (λ o. not (is_gone o act)) e ∙ ap not (same_number act)) ∙ stays_in r act p f)

  pub reads_then : ReadsThen P Q gone ended (Reads past i) (Reads later i) s.states t.1.states
  reads_then = record { zipped = zipped_then; gone_too = gone_too }
