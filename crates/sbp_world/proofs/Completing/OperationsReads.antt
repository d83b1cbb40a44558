-- Each read of AGENT_STATE that an initiator of the latest generation has under way by its terms waits under a label, where nothing was lost since the latest reset: note by note.
use Rattle.sbp_world.proofs.Words.Std.{arith, ◌≡◌, inl, inr, ◌⊎◌, refl, sym, ◌∙◌, ap, subst, ℕ, suc, ◌&&◌, nat_eq, nat_lt, not, Bool, true, false, cond, List, [], ◌∷◌, ◌++◌, Option, Some, None}
use Rattle.sbp_world.proofs.Words.Wire.{Action, Cause, Event, Held, Kind, Moment, Note, Part, Sending, Terms, Transaction, arrives, asked, asked_by, asked_in, begins, begun_by, between, closes, closes_if, free, gets, gets_as, gives, ignores, ignores_that, is_news, is_same, is_same_kind, is_served, is_to, judges, judges_if, opened, Owed, part_of, pays, puts, rcode_of, request, response, rests, said, sends, terms, waits}
use Rattle.sbp_world.proofs.Words.Laws.{Host, acted, answered_at, answered_in, closed_by, event_of, host_at, known_host, operation_of, present_list, receiver_in, sent_in}
use Rattle.std.specs.List.{filter}
use Rattle.bus_transactions.specs.Carried.{AreKept}
use Rattle.bus_transactions.specs.Sent.{AreSent, IsOwn, is_free}
use Rattle.bus_transactions.proofs.Facts.{asked_begun, asked_is, begun_asked, request_asked}
use Rattle.bus_transactions.proofs.PacketParts.{same_is}
use Rattle.sbp_journal.specs.Transactions.{no_packet}
use Rattle.sbp_journal.specs.Wire.{kind_in}
use Rattle.sbp_journal.specs.declared.cause.Cause.TheVariants as causes
use Rattle.sbp_journal.specs.declared.event.Action.TheVariants as actions
use Rattle.sbp_journal.specs.declared.event.Event.TheVariants as events
use Rattle.sbp_journal.specs.declared.note.Note.TheVariants as notes
use Rattle.sbp_laws.specs.Hosts.{StateRead, got_by, is_serial, ready_host, reset_seen, sent_as, told_of}
use Rattle.sbp_laws.specs.Packets.{answered_as}
use Rattle.sbp_world.proofs.Common.{equal_numbers, itself, same_number, untrue}
use Rattle.sbp_world.proofs.Completing.OperationsResets.{AreRising, ResetsRise}
use Rattle.sbp_world.proofs.Agents.Management.Still.{judges_held}
use Rattle.sbp_world.proofs.Hosts.Cores.{wire_is}
use Rattle.sbp_world.proofs.Hosts.Held.{got_apart, ignored_quiet, sent_apart, sent_begun}
use Rattle.sbp_world.proofs.Hosts.HostReads.{Reads, acted_reads, goes_reads, got_by_reads, is_gone, told_one}
use Rattle.sbp_world.proofs.Lists.LastReads.{opened_held}
use Rattle.sbp_world.proofs.Pointers.Ages.{moment_generation, serial_is}

-- a request of an initiator waits under a label, in the generation that it is in
pub record WaitsFor (past : List Moment) (i serial : ℕ) : Type 0 where
  pub u : Transaction
  pub kind : Kind
  pub requester : u.requester ≡ suc i
  pub generation : u.generation ≡ (terms past).generation (suc i)
  pub held : (terms past).held u ≡ waits kind serial

abbrev pub AllWait : List Moment → (i : ℕ) → List StateRead → Type 0
AllWait past i [] = Unit {0}
AllWait past i (read ∷ reads) = WaitsFor past i read.serial × AllWait past i reads

abbrev pub ReadsWait : List Moment → (i : ℕ) → Type 0
ReadsWait past i = AllWait past i (Reads past i)

-- the initiator is in the latest generation
abbrev pub IsLatest : List Moment → (i : ℕ) → Type 0
IsLatest past i = (terms past).generation (suc i) ≡ (terms past).bus

-- ---- the generation of the bus is the same but for a reset
judges_bus : (u : Option Transaction) (cause : Option Cause) (s : ℕ) (q : Sending) (t : Terms) → (judges u cause s q t).bus ≡ t.bus
judges_bus None cause s q t = refl
judges_bus (Some u) cause s q t = refl

closes_if_bus : (b : Bool) (s : ℕ) (u : Transaction) (rcode : ℕ) (t : Terms) → (closes_if b s u rcode t).bus ≡ t.bus
closes_if_bus true s u rcode t = refl
closes_if_bus false s u rcode t = refl

closes_bus : (held : Held) (u : Transaction) (kind : Kind) (rcode : ℕ) (t : Terms) → (closes held u kind rcode t).bus ≡ t.bus
closes_bus free u kind rcode t = refl
closes_bus rests u kind rcode t = refl
closes_bus (waits own s) u kind rcode t = closes_if_bus (is_same_kind own kind) s u rcode t

part_bus : (part : Part) (s : ℕ) (q : Sending) (t : Terms) → (gets_as part s q t).bus ≡ t.bus
part_bus (request label kind) s q t = judges_bus (asked_by q) None s q t
part_bus (response label kind) s q t = closes_bus (t.held (between q q.to q.from label)) (between q q.to q.from label) kind (rcode_of q.bytes) t
part_bus no_packet s q t = refl

gets_bus : (so : Option Sending) (s : ℕ) (t : Terms) → (gets so s t).bus ≡ t.bus
gets_bus None s t = refl
gets_bus (Some q) s t = part_bus (part_of q.bytes) s q (is_served s (is_news s (arrives s t)))

judges_if_bus : (b : Bool) (u : Option Transaction) (s : ℕ) (q : Sending) (t : Terms) → (judges_if b u s q t).bus ≡ t.bus
judges_if_bus true u s q t = judges_bus u (Some causes.Grammar) s q t
judges_if_bus false u s q t = refl

ignores_bus : (cause : Cause) (s : ℕ) (q : Sending) (t : Terms) → (ignores cause s q t).bus ≡ t.bus
ignores_bus causes.Generation s q t = refl
ignores_bus causes.Grammar s q t = judges_if_bus (is_to q.bytes (t.ids q.generation q.to)) (asked_by q) s q (is_news s t)
ignores_bus causes.Label s q t = refl
ignores_bus causes.Again s q t = judges_bus (asked_by q) (Some causes.Again) s q t
ignores_bus causes.Source s q t = judges_bus (asked_by q) (Some causes.Source) s q (is_news s t)
ignores_bus causes.Login s q t = judges_bus (asked_by q) (Some causes.Login) s q (is_news s t)
ignores_bus causes.Slot s q t = judges_bus (asked_by q) (Some causes.Slot) s q (is_served s (is_news s t))

that_bus : (so : Option Sending) (cause : Cause) (s : ℕ) (t : Terms) → (ignores_that so cause s t).bus ≡ t.bus
that_bus None cause s t = refl
that_bus (Some q) cause s t = ignores_bus cause s q (arrives s t)

begins_bus : (u : Option Transaction) (s : ℕ) (q : Sending) (t : Terms) → (begins u s q t).bus ≡ t.bus
begins_bus None s q t = refl
begins_bus (Some u) s q t = refl

gives_bus : (u : Option Transaction) (rcode : ℕ) (t : Terms) → (gives u rcode t).bus ≡ t.bus
gives_bus None rcode t = refl
gives_bus (Some u) rcode t = refl

pays_bus : (owed : Option Owed) (sent : ℕ → Option Sending) (s : ℕ) (q : Sending) (t : Terms) → (pays owed sent s q t).bus ≡ t.bus
pays_bus None sent s q t = refl
pays_bus (Some owed) sent s q t = gives_bus (asked_in (sent owed.serial)) (rcode_of q.bytes) t

sends_bus : (s : ℕ) (q : Sending) (t : Terms) → (sends s q t).bus ≡ t.bus
sends_bus s q t = pays_bus t.owes t.sent s q (begins (begun_by q) s q (puts (begun_by q) s q t)) ∙ begins_bus (begun_by q) s q (puts (begun_by q) s q t)

opened_bus : (event : Event) (t : Terms) → (opened event t).bus ≡ t.bus
opened_bus (events.Reset physical) t = refl
opened_bus (events.Repeat s) t = refl
opened_bus _ t = refl

-- ---- what leaves the reads
-- every transaction of the initiator that waits still does so, and it is in the same generation
record Holds (past now : List Moment) (i : ℕ) : Type 0 where
  generation : (terms now).generation (suc i) ≡ (terms past).generation (suc i)
  held : (u : Transaction) (kind : Kind) (serial : ℕ) → u.requester ≡ suc i → (terms past).held u ≡ waits kind serial → (terms now).held u ≡ waits kind serial

one_on : (past now : List Moment) (i serial : ℕ) → Holds past now i → WaitsFor past i serial → WaitsFor now i serial
one_on past now i serial h w = record { u = w.u; kind = w.kind; requester = w.requester; generation = w.generation ∙ sym h.generation; held = h.held w.u w.kind serial w.requester w.held }

all_on : (past now : List Moment) (i : ℕ) → Holds past now i → (reads : List StateRead) → AllWait past i reads → AllWait now i reads
all_on past now i h [] w = tt
all_on past now i h (read ∷ reads) w = (one_on past now i read.serial h w.0, all_on past now i h reads w.1)

stay : (past now : List Moment) (i : ℕ) → Holds past now i → Reads now i ≡ Reads past i → ReadsWait past i → ReadsWait now i
stay past now i h same w = subst (AllWait now i) (sym same) (all_on past now i h (Reads past i) w)

-- a note that says nothing of the wire
plain : (note : Note) (past : List Moment) (i : ℕ) → (terms (said note ∷ past)).held ≡ (terms past).held → (terms (said note ∷ past)).generation ≡ (terms past).generation → Reads (said note ∷ past) i ≡ Reads past i → ReadsWait past i → ReadsWait (said note ∷ past) i
plain note past i h g same w =
    stay past (said note ∷ past) i (record {
      generation = ap (λ (f : ℕ → ℕ). f (suc i)) g;
      held = λ u kind serial r e. ap (λ (f : Transaction → Held). f u) h ∙ e;
    }) same w

-- ---- a packet is sent
module _ (serial generation from to : ℕ) (bytes : List ℕ) (past : List Moment) (i : ℕ) where
  abbrev T : Terms
  T = terms past

  abbrev q : Sending
  q = record { generation = generation; from = from; to = to; bytes = bytes; injected = T.injected serial }

  abbrev Now : List Moment
  Now = said (notes.Sent serial generation from to bytes) ∷ past

  module _ (own : T.injected serial ≡ false → IsOwn T generation from to bytes) where
    takes_free : (held : Held) (b : Bool) (kind : Kind) (s : ℕ) → held ≡ waits kind s → (is_free held && b) ≡ true → ⊥
    takes_free free b kind s e f = cc
    takes_free rests b kind s e f = cc
    takes_free (waits k n) b kind s e f = untrue f

    -- it begins a transaction whose label was free
    other : (u v : Transaction) (kind : Kind) (s : ℕ) → T.held u ≡ waits kind s → begun_by q ≡ Some v → is_same u v ≡ false
    other u v kind s h e = by (is_same u v) refl
      where
        by : (b : Bool) → is_same u v ≡ b → is_same u v ≡ false
        by false f = f
        by true f =
            let b = begun_asked q v e in
            let a = asked_is q v b.1 in
            let o = own b.0 in
            let low = o.lowest a.label a.kind a.part in
            let v_is : v ≡ record { generation = T.generation from; requester = from; responder = to; label = a.label } = a.is ∙ ap (λ g. record { generation = g; requester = from; responder = to; label = a.label }) o.now in
            absurd (takes_free _ _ kind s (ap T.held (sym (same_is u v f ∙ v_is)) ∙ h) low.takes)

    sent_holds : Holds past Now i
    sent_holds = record {
      generation = moment_generation (suc i) (said (notes.Sent serial generation from to bytes)) past refl;
      held = λ u kind s r h. sent_apart serial q T u (λ v e. other u v kind s h e) ∙ h;
    }

    -- a read of AGENT_STATE that begins
    record HasNew (old new : List StateRead) : Type 0 where
      list : Option ℕ
      is : new ≡ old ++ record { serial = serial; list = list } ∷ []

    abbrev SameOrNew : Host → Host → Type 0
    SameOrNew old new = (new.reads ≡ old.reads) ⊎ HasNew old.reads new.reads

    acted_or : (action : Action) (list : Option ℕ) (host : Host) → SameOrNew host (acted action (operation_of action) list serial host)
    acted_or actions.State list host = inr (record { list = told_of host.pointed list; is = refl })
    acted_or action list host = inl (acted_reads action list serial host (λ e. cc))

    event_or : (event : Option Event) (list : Option ℕ) (host : Host) → SameOrNew host (sent_in event i list serial host)
    event_or (Some (events.Act j action)) list host = by (nat_eq j i) (acted_or action list host)
      where
        by : (b : Bool) → SameOrNew host (acted action (operation_of action) list serial host) → SameOrNew host (cond b (acted action (operation_of action) list serial host) (sent_in None i list serial host))
        by true a = a
        by false a = inl (goes_reads host.operation serial host)
    event_or event list host = inl (goes_reads host.operation serial host)

    record IsNew : Type 0 where
      from_is : from ≡ suc i
      honest : T.injected serial ≡ false
      label : ℕ
      kind : Kind
      part : part_of bytes ≡ request label kind
      new : HasNew (Reads past i) (Reads Now i)

    abbrev IsRequest : Part → Type 0
    IsRequest part = (label : ℕ) × ((kind : Kind) × (part ≡ request label kind))

    -- a request may begin one
    abbrev SameOrAsked : Part → Host → Host → Type 0
    SameOrAsked part old new = (new.reads ≡ old.reads) ⊎ (IsRequest part × HasNew old.reads new.reads)

    part_or : (part : Part) → part_of bytes ≡ part → (list : Option ℕ) (host : Host) → SameOrAsked part host (sent_as part (event_of past) i list serial host)
    part_or (request label kind) e list host = by (event_or (event_of past) list host)
      where
        by : SameOrNew host (sent_in (event_of past) i list serial host) → SameOrAsked (request label kind) host (sent_in (event_of past) i list serial host)
        by (inl f) = inl f
        by (inr f) = inr ((label, (kind, refl)), f)
    part_or (response label kind) e list host = inl refl
    part_or no_packet e list host = inl refl

    abbrev after_it : Host
    after_it = sent_as (part_of bytes) (event_of past) i (present_list past i) serial (host_at past i)

    reads_by : (a b : Bool) → nat_eq from (suc i) ≡ a → T.injected serial ≡ b → (Reads Now i ≡ (cond (a && not b) after_it (host_at past i)).reads) → (Reads Now i ≡ Reads past i) ⊎ IsNew
    reads_by false b f g e = inl e
    reads_by true true f g e = inl e
    reads_by true false f g e = by (part_or (part_of bytes) refl (present_list past i) (host_at past i))
      where
        by : SameOrAsked (part_of bytes) (host_at past i) after_it → (Reads Now i ≡ Reads past i) ⊎ IsNew
        by (inl h) = inl (e ∙ h)
        by (inr h) = inr (record { from_is = equal_numbers from (suc i) f; honest = g; label = h.0.0; kind = h.0.1.0; part = h.0.1.1; new = record { list = h.1.list; is = e ∙ h.1.is } })

    reads_or : (Reads Now i ≡ Reads past i) ⊎ IsNew
    reads_or =
        reads_by (nat_eq from (suc i)) (T.injected serial) refl refl
        (ap (λ (t : Terms). (cond (nat_eq from (suc i) && not (t.injected serial)) after_it (host_at past i)).reads) (wire_is past i))

    all_more : (reads : List StateRead) (read : StateRead) → AllWait Now i reads → WaitsFor Now i read.serial → AllWait Now i (reads ++ read ∷ [])
    all_more [] read w one = (one, tt)
    all_more (first ∷ reads) read w one = (w.0, all_more reads read w.1 one)

    pub sent_wait : ReadsWait past i → ReadsWait Now i
    sent_wait w = by reads_or
      where
        by : (Reads Now i ≡ Reads past i) ⊎ IsNew → ReadsWait Now i
        by (inl same) = stay past Now i sent_holds same w
        by (inr n) =
            let u = between q from to n.label in
            subst (AllWait Now i) (sym n.new.is)
            (all_more (Reads past i) _ (all_on past Now i sent_holds (Reads past i) w)
            (record {
              u = u;
              kind = kind_in (part_of bytes);
              requester = n.from_is;
              generation = (own n.honest).now ∙ ap T.generation n.from_is ∙ sym sent_holds.generation;
              held = sent_begun serial q T u (asked_begun q u n.honest (request_asked q n.label n.kind n.part));
            }))

-- ---- a packet is got
module _ (serial : ℕ) (past : List Moment) (i : ℕ) where
  abbrev G : Terms
  G = terms past

  abbrev Got : List Moment
  Got = said (notes.Got serial) ∷ past

  module _ (u : Transaction) (kind : Kind) (n : ℕ) (h : G.held u ≡ waits kind n) where
    closes_or : (held : Held) (v : Transaction) (other : Kind) (rcode : ℕ) (t : Terms) → t.held v ≡ held → t.held u ≡ waits kind n → ((closes held v other rcode t).held u ≡ waits kind n) ⊎ (closed_by held other ≡ Some n)
    closes_or free v other rcode t e f = inl f
    closes_or rests v other rcode t e f = inl f
    closes_or (waits own s) v other rcode t e f = by (is_same_kind own other) (is_same u v) refl
      where
        by : (b c : Bool) → is_same u v ≡ c → ((closes_if b s v rcode t).held u ≡ waits kind n) ⊎ (cond b (Some s) None ≡ Some n)
        by false c g = inl f
        by true false g = inl (ap (λ x. cond x free (t.held u)) g ∙ f)
        by true true g = inr (ap Some (serial_is kind own n s (sym f ∙ ap t.held (same_is u v g) ∙ e)))

    closing_or : (q : Sending) (part : Part) → part_of q.bytes ≡ part → ((gets_as part serial q (is_served serial (is_news serial (arrives serial G)))).held u ≡ waits kind n) ⊎ (answered_as part G q ≡ Some n)
    closing_or q (request label other) e = inl (ap (λ (f : Transaction → Held). f u) (judges_held (asked_by q) None serial q (is_served serial (is_news serial (arrives serial G)))) ∙ h)
    closing_or q (response label other) e = let v = between q q.to q.from label in closes_or (G.held v) v other (rcode_of q.bytes) (is_served serial (is_news serial (arrives serial G))) refl h
    closing_or q no_packet e = inl h

    pub got_or : (so : Option Sending) → ((gets so serial G).held u ≡ waits kind n) ⊎ (answered_in G so ≡ Some n)
    got_or None = inl h
    got_or (Some q) = closing_or q (part_of q.bytes) refl

  none_to : (so : Option Sending) → is_serial (receiver_in so) (suc i) ≡ false → (packet : Sending) → so ≡ Some packet → nat_eq packet.to (suc i) ≡ false
  none_to so e packet f = ap (λ x. is_serial (receiver_in x) (suc i)) (sym f) ∙ e

  got_generation : (terms Got).generation (suc i) ≡ G.generation (suc i)
  got_generation = moment_generation (suc i) (said (notes.Got serial)) past refl

  -- one whose transaction is not the one that it closes
  kept : (read : ℕ) → is_gone (answered_at G serial) read ≡ false → WaitsFor past i read → WaitsFor Got i read
  kept read e w = by (got_or w.u w.kind read w.held (G.sent serial))
    where
      by : ((terms Got).held w.u ≡ waits w.kind read) ⊎ (answered_in G (G.sent serial) ≡ Some read) → WaitsFor Got i read
      by (inl f) = record { u = w.u; kind = w.kind; requester = w.requester; generation = w.generation ∙ sym got_generation; held = f }
      by (inr f) = untrue (sym e ∙ ap (λ own. is_gone own read) f ∙ same_number read)

  abbrev left_of : List StateRead → List StateRead
  left_of reads = filter (λ (read : StateRead). not (is_gone (answered_at G serial) read.serial)) reads

  all_kept_on : (reads : List StateRead) → AllWait past i reads → AllWait Got i (left_of reads)
  all_kept_on [] w = tt
  all_kept_on (read ∷ reads) w = by (is_gone (answered_at G serial) read.serial) refl (all_kept_on reads w.1)
    where
      by : (b : Bool) → is_gone (answered_at G serial) read.serial ≡ b → AllWait Got i (left_of reads) → AllWait Got i (cond (not b) (read ∷ left_of reads) (left_of reads))
      by true e rest = rest
      by false e rest = (kept read.serial e w.0, rest)

  pub got_wait : ReadsWait past i → ReadsWait Got i
  got_wait w = by (is_serial (receiver_in (G.sent serial)) (suc i)) refl (ap (λ (t : Terms). (cond (is_serial (receiver_in (t.sent serial)) (suc i)) (got_by (answered_at t serial) t serial (present_list past i) (host_at past i)) (host_at past i)).reads) (wire_is past i))
    where
      by : (b : Bool) → is_serial (receiver_in (G.sent serial)) (suc i) ≡ b → Reads Got i ≡ (cond b (got_by (answered_at G serial) G serial (present_list past i) (host_at past i)) (host_at past i)).reads → ReadsWait Got i
      by true e f = subst (AllWait Got i) (sym (f ∙ got_by_reads (answered_at G serial) G serial (present_list past i) (host_at past i))) (all_kept_on (Reads past i) w)
      by false e f =
          stay past Got i (record {
            generation = got_generation;
            held = λ u kind s r h. got_apart (G.sent serial) serial G u (λ packet x. ap (nat_eq packet.to) r ∙ none_to (G.sent serial) e packet x) ∙ h;
          }) f w

-- ---- a generation is seen
seen_wait : (node generation : ℕ) (past : List Moment) (i : ℕ) → IsLatest (said (notes.Seen node generation) ∷ past) i → (IsLatest past i → ReadsWait past i) → ReadsWait (said (notes.Seen node generation) ∷ past) i
seen_wait node generation past i latest w = by (nat_eq node (suc i)) refl
  where
    Now : List Moment
    Now = said (notes.Seen node generation) ∷ past

    same_in : (terms Now).generation (suc i) ≡ (terms past).generation (suc i) → Reads Now i ≡ Reads past i → ReadsWait Now i
    same_in g e = stay past Now i (record { generation = g; held = λ u kind serial r h. h }) e (w (sym g ∙ latest))

    own : (b : Bool) → nat_eq generation ((terms past).generation (suc i)) ≡ b → node ≡ suc i → Reads Now i ≡ (reset_seen (not b) (host_at past i)).reads → ReadsWait Now i
    own false f n e = subst (AllWait Now i) (sym e) tt
    own true f n e = same_in (ap (λ x. cond x generation ((terms past).generation (suc i))) (ap (nat_eq (suc i)) n ∙ itself (suc i)) ∙ equal_numbers generation ((terms past).generation (suc i)) f) e

    by : (b : Bool) → nat_eq node (suc i) ≡ b → ReadsWait Now i
    by false f = same_in (moment_generation (suc i) (said (notes.Seen node generation)) past f) (ap (λ x. (cond x (reset_seen (not (nat_eq generation ((known_host past i).wire.generation node))) (host_at past i)) (host_at past i)).reads) f)
    by true f =
        let n = equal_numbers node (suc i) f in
        own (nat_eq generation ((terms past).generation (suc i))) refl n
        (ap (λ x. (cond x (reset_seen (not (nat_eq generation ((known_host past i).wire.generation node))) (host_at past i)) (host_at past i)).reads) f
        ∙ ap (λ (t : Terms). (reset_seen (not (nat_eq generation (t.generation node))) (host_at past i)).reads) (wire_is past i)
        ∙ ap (λ m. (reset_seen (not (nat_eq generation ((terms past).generation m))) (host_at past i)).reads) n)

-- ---- a run begins
begin_wait : (initiators : ℕ) (ready : Bool) (past : List Moment) (i : ℕ) → ReadsWait past i → ReadsWait (said (notes.Begin initiators ready) ∷ past) i
begin_wait initiators ready past i w = by (ready && nat_lt i initiators) refl
  where
    Now : List Moment
    Now = said (notes.Begin initiators ready) ∷ past

    by : (b : Bool) → (ready && nat_lt i initiators) ≡ b → ReadsWait Now i
    by true e = subst (AllWait Now i) (sym (ap (λ b. (cond b (ready_host i) (host_at past i)).reads) e)) tt
    by false e = plain (notes.Begin initiators ready) past i refl refl (ap (λ b. (cond b (ready_host i) (host_at past i)).reads) e) w

-- ---- each moment
abbrev pub Waits : List Moment → (i : ℕ) → Type 0
Waits past i = AreKept past → IsLatest past i → ReadsWait past i

ignored_step : (s : ℕ) (cause : Cause) (past : List Moment) (i : ℕ) → (AreKept (said (notes.Ignored s cause) ∷ past) → AreKept past) → Waits past i → Waits (said (notes.Ignored s cause) ∷ past) i
ignored_step s cause past i before w k latest =
    let same = ignored_quiet ((terms past).sent s) cause s (terms past) in
    plain (notes.Ignored s cause) past i same.held same.generation refl
    (w (before k) (sym (moment_generation (suc i) (said (notes.Ignored s cause)) past refl) ∙ latest ∙ that_bus ((terms past).sent s) cause s (terms past)))

step : (m : Moment) (past : List Moment) (i : ℕ) → AreSent (m ∷ past) → ResetsRise m past → Waits past i → Waits (m ∷ past) i
step (asked line event) past i own rises w k latest =
    stay past (asked line event ∷ past) i (record {
      generation = moment_generation (suc i) (asked line event) past refl;
      held = λ u kind serial r h. ap (λ (f : Transaction → Held). f u) (opened_held event (terms past)) ∙ h;
    }) refl (w k (sym (moment_generation (suc i) (asked line event) past refl) ∙ latest ∙ opened_bus event (terms past)))
step (said (notes.Sent serial generation from to bytes)) past i own rises w k latest =
    sent_wait serial generation from to bytes past i own.0
    (w k (sym (moment_generation (suc i) (said (notes.Sent serial generation from to bytes)) past refl) ∙ latest ∙ sends_bus serial _ (terms past)))
step (said (notes.Got serial)) past i own rises w k latest =
    got_wait serial past i (w k (sym (moment_generation (suc i) (said (notes.Got serial)) past refl) ∙ latest ∙ gets_bus ((terms past).sent serial) serial (terms past)))
step (said (notes.Ignored s causes.Generation)) past i own rises w k latest = ignored_step s causes.Generation past i (λ k. k.1) w k latest
step (said (notes.Ignored s causes.Grammar)) past i own rises w k latest = ignored_step s causes.Grammar past i (λ k. k) w k latest
step (said (notes.Ignored s causes.Label)) past i own rises w k latest = ignored_step s causes.Label past i (λ k. k) w k latest
step (said (notes.Ignored s causes.Again)) past i own rises w k latest = ignored_step s causes.Again past i (λ k. k) w k latest
step (said (notes.Ignored s causes.Source)) past i own rises w k latest = ignored_step s causes.Source past i (λ k. k) w k latest
step (said (notes.Ignored s causes.Login)) past i own rises w k latest = ignored_step s causes.Login past i (λ k. k) w k latest
step (said (notes.Ignored s causes.Slot)) past i own rises w k latest = ignored_step s causes.Slot past i (λ k. k) w k latest
step (said (notes.Lost s)) past i own rises w k latest = absurd k
step (said (notes.TimedOut s)) past i own rises w k latest = absurd k
step (said (notes.Injected s)) past i own rises w k latest = absurd k
step (said (notes.Reset generation)) past i own rises w k latest = absurd (let l = rises (suc i) in omega (arith, l, latest))
step (said (notes.Seen node generation)) past i own rises w k latest = seen_wait node generation past i latest (w k)
step (said (notes.Begin initiators ready)) past i own rises w k latest = begin_wait initiators ready past i (w k latest)
step (said (notes.Append j n number cdb buffer)) past i own rises w k latest = plain (notes.Append j n number cdb buffer) past i refl refl (told_one (notes.Append j n number cdb buffer) past i refl) (w k latest)
step (said (notes.Taken j n number status answer)) past i own rises w k latest = plain (notes.Taken j n number status answer) past i refl refl (told_one (notes.Taken j n number status answer) past i refl) (w k latest)
step (said (notes.Drop j n)) past i own rises w k latest = plain (notes.Drop j n) past i refl refl (told_one (notes.Drop j n) past i refl) (w k latest)
step (said (notes.Op j operation word)) past i own rises w k latest = plain (notes.Op j operation word) past i refl refl (told_one (notes.Op j operation word) past i refl) (w k latest)
step (said (notes.Stuck j)) past i own rises w k latest = plain (notes.Stuck j) past i refl refl (told_one (notes.Stuck j) past i refl) (w k latest)
step (said note) past i own rises w k latest = plain note past i refl refl refl (w k latest)

sent_before : (m : Moment) (past : List Moment) → AreSent (m ∷ past) → AreSent past
sent_before (said (notes.Sent serial generation from to bytes)) past s = s.1
sent_before _ past s = s

pub reads_wait : (past : List Moment) (i : ℕ) → AreSent past → AreRising past → Waits past i
reads_wait [] i own rises = λ k latest. tt
reads_wait (m ∷ past) i own rises = step m past i own rises.0 (reads_wait past i (sent_before m past own) rises.1)
