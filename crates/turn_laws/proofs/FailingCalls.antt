-- In each turn that answers the request of the management operation the answer is one to what the phase of the operation asked for.
use Rattle.std.proofs.Common.{◌≡◌, ◌∙◌, refl, sym, ap, subst, ℕ, ◌<◌, Bool, true, false, cond, List, Option, Some, None}
use Rattle.bus_transactions.specs.Packets.{SerialsCount}
use Rattle.bus_transactions.proofs.Reaches.{goes_on}
use Rattle.mgmt_agent.specs.Machine.{Machine, read_size}
use Rattle.orb_layout.specs.Replies.{Answer, Expired}
use Rattle.rbc_disk.specs.Disk.{Disk}
use Rattle.sbp_bus.specs.Packets.{judged_note}
use Rattle.sbp_journal.specs.Addresses.{Access, Start, management_agent, no_start, register, rom_start, start_at, start_serves}
use Rattle.sbp_journal.specs.Run.{Moment, said}
use Rattle.sbp_journal.specs.Transactions.{Kind, Part, Sending, between, is_same_kind, no_packet, part_of, request, response}
use Rattle.sbp_journal.specs.Wire.{Held, Terms, free, rests, terms, waits}
use Rattle.sbp_journal.specs.declared.cause.Judged.{Judged}
use Rattle.sbp_journal.specs.declared.cause.Judged.TheVariants as judgements
use Rattle.sbp_journal.specs.declared.note.Note.{Note}
use Rattle.sbp_journal.specs.declared.note.Note.TheVariants as notes
use Rattle.sbp_laws.specs.Deaths.{access_by}
use Rattle.sbp_laws.specs.Management.{Call, answer_to, answers, call_by, got_call, no_call, start_in, start_of, starts}
use Rattle.sbp_laws.specs.Packets.{access_in, access_in_bytes, answer_in, answered_as, answered_at, answered_in, closed_by, packet_at, packet_in, receiver_in, sender_in}
use Rattle.sbp_laws.specs.Targets.{Purpose, Target, for_agent, for_manager, for_nobody, is_serial, over, purpose_among, purpose_of, target_at}
use Rattle.sbp_laws.specs.Turns.{turn}
use Rattle.sbp_world.specs.Agents.Management.Offices.{Office}
use Rattle.sbp_world.specs.Lists.Contents.{AreAsked, WasAsked}
use Rattle.sbp_world.specs.Worlds.{Scene}
use Rattle.sbp_world.proofs.Agents.Management.Holding.{past_terms}
use Rattle.sbp_world.proofs.Agents.Management.Offices.{over_keeps}
use Rattle.sbp_world.proofs.Agents.Management.Still.{hist}
use Rattle.sbp_world.proofs.Common.{serial_is}
use Rattle.sbp_world.proofs.Lists.ContentManages.{bound}
use Rattle.sbp_world.proofs.Lists.OrbsRead.{access_there}
use Rattle.sbp_world.proofs.Wire.Starts.{laws_of}
use Rattle.turn_laws.proofs.FailingKinds.{answer_by, bytes_kind, may, phase_asks}
use Rattle.turn_laws.proofs.FailingRows.{IsAnswered, MayAnswer}
use Rattle.turn_laws.proofs.Places.{Place}
use Rattle.sbp_world.proofs.Lists.ManagedGots.{among_not}

-- ---- no answer
abbrev pub No : Call → Type 0
No call = (answer : Answer) → call ≡ answers answer → ⊥

pub no_no : No no_call
no_no answer e = cc

starts_no : (source orb : ℕ) → No (starts source orb)
starts_no source orb answer e = cc

start_if : (b : Bool) (source orb : ℕ) → No (cond b (starts source orb) no_call)
start_if true source orb = starts_no source orb
start_if false source orb = no_no

at_start : (start : Start) (source : ℕ) (access : Access) → No (start_of start source access)
at_start management_agent source access = start_if (start_serves management_agent access) source _
at_start (register place name) source access = no_no
at_start rom_start source access = no_no
at_start no_start source access = no_no

pub start_no : (access : Option Access) (source : ℕ) → No (start_in access source)
start_no None source = no_no
start_no (Some access) source = at_start (start_at access.offset) source access

-- ---- an answer to a packet of the operation
pub record Answers (T : Target) (r : ℕ) (told answer : Answer) : Type 0 where
  pub manages : T.manages ≡ Some r
  pub is : told ≡ answer

of_manager : (T : Target) (r : ℕ) → purpose_of T r ≡ for_manager → T.manages ≡ Some r
of_manager T r e = serial_is T.manages r (by (is_serial T.manages r) e)
  where
    by : (b : Bool) → cond b for_manager (purpose_among 0 T.agents r) ≡ for_manager → b ≡ true
    by true f = refl
    by false f = absurd (among_not 0 T.agents r f)

pub answers_same : (told answer : Answer) → answers told ≡ answers answer → told ≡ answer
answers_same told answer e = cc

purpose_answers : (T : Target) (r : ℕ) (for : Purpose) → purpose_of T r ≡ for → (told answer : Answer) → answer_to for told ≡ answers answer → Answers T r told answer
purpose_answers T r for_manager f told answer e = record { manages = of_manager T r f; is = answers_same told answer e }
purpose_answers T r (for_agent place which) f told answer e = absurd (no_no answer e)
purpose_answers T r for_nobody f told answer e = absurd (no_no answer e)

pub record GotAnswer (T : Target) (wire : Terms) (serial : ℕ) (answer : Answer) : Type 0 where
  pub own : ℕ
  pub answered : answered_at wire serial ≡ Some own
  pub manages : T.manages ≡ Some own
  pub is : answer_in (packet_at wire serial) ≡ answer

got_answer : (T : Target) (wire : Terms) (serial : ℕ) (answer : Answer) → call_by (said (notes.Got serial)) T wire ≡ answers answer → GotAnswer T wire serial answer
got_answer T wire serial answer e = by_receiver (is_serial (receiver_in (wire.sent serial)) 0) e
  where
    by_own : (x : Option ℕ) → answered_at wire serial ≡ x → got_call x T wire serial ≡ answers answer → GotAnswer T wire serial answer
    by_own None f g = absurd (start_no _ _ answer g)
    by_own (Some own) f g =
        let a = purpose_answers T own (purpose_of T own) refl (answer_in (packet_at wire serial)) answer g in record { own = own; answered = f; manages = a.manages; is = a.is }

    by_receiver : (b : Bool) → cond b (got_call (answered_at wire serial) T wire serial) no_call ≡ answers answer → GotAnswer T wire serial answer
    by_receiver true f = by_own (answered_at wire serial) refl f
    by_receiver false f = absurd (no_no answer f)

late_answer : (T : Target) (wire : Terms) (serial : ℕ) (answer : Answer) → call_by (said (notes.TimedOut serial)) T wire ≡ answers answer → Expired ≡ answer
late_answer T wire serial answer e = by (is_serial (sender_in (wire.sent serial)) 0) e
  where
    by : (b : Bool) → cond b (answer_to (purpose_of T serial) Expired) no_call ≡ answers answer → Expired ≡ answer
    by true f = (purpose_answers T serial (purpose_of T serial) refl Expired answer f).is
    by false f = absurd (no_no answer f)

-- ---- the response and the request that it closes
pub record Closes (wire : Terms) (serial own : ℕ) : Type 0 where
  pub packet : Sending
  pub sent : wire.sent serial ≡ Some packet
  pub label : ℕ
  pub kind : Kind
  pub part : part_of packet.bytes ≡ response label kind
  pub waited : Kind
  pub held : wire.held (between packet packet.to packet.from label) ≡ waits waited own
  pub alike : is_same_kind waited kind ≡ true

module _ (wire : Terms) (serial own : ℕ) where
  module _ (q : Sending) (s : wire.sent serial ≡ Some q) (label : ℕ) (kind : Kind) (p : part_of q.bytes ≡ response label kind) where
    by_alike : (waited : Kind) (other : ℕ) → wire.held (between q q.to q.from label) ≡ waits waited other → (b : Bool) → is_same_kind waited kind ≡ b → cond b (Some other) None ≡ Some own → Closes wire serial own
    by_alike waited other h true f g =
        let same : other ≡ own = cc in record { packet = q; sent = s; label = label; kind = kind; part = p; waited = waited; held = h ∙ ap (waits waited) same; alike = f }
    by_alike waited other h false f g = absurd (let no : None ≡ Some own = g in cc)

    by_held : (x : Held) → wire.held (between q q.to q.from label) ≡ x → closed_by x kind ≡ Some own → Closes wire serial own
    by_held (waits waited other) h g = by_alike waited other h (is_same_kind waited kind) refl g
    by_held free h g = absurd (let no : None ≡ Some own = g in cc)
    by_held rests h g = absurd (let no : None ≡ Some own = g in cc)

  by_part : (q : Sending) → wire.sent serial ≡ Some q → (part : Part) → part_of q.bytes ≡ part → answered_as part wire q ≡ Some own → Closes wire serial own
  by_part q s (response label kind) p g = by_held q s label kind p (wire.held (between q q.to q.from label)) refl g
  by_part q s (request label kind) p g = absurd (let no : None ≡ Some own = g in cc)
  by_part q s no_packet p g = absurd (let no : None ≡ Some own = g in cc)

  by_sent : (so : Option Sending) → wire.sent serial ≡ so → answered_in wire so ≡ Some own → Closes wire serial own
  by_sent None s g = absurd (let no : None ≡ Some own = g in cc)
  by_sent (Some q) s g = by_part q s (part_of q.bytes) refl g

  pub closes_at : answered_at wire serial ≡ Some own → Closes wire serial own
  closes_at e = by_sent (wire.sent serial) refl e

-- ---- at a place
module _ (units ready : ℕ) (has : 0 < units) (start : List Disk) (past : List Moment) (s : Scene) (here : Place units ready start past s) (are : AreAsked start (hist past s.world)) where
  abbrev pub ms : List Moment
  ms = hist past s.world

  abbrev pub T : Target
  T = over (target_at start ms)

  abbrev wire : Terms
  wire = terms ms

  counts : SerialsCount ms
  counts = (laws_of past s.world here.holds.sound.stands).serials

  manages_is : T.manages ≡ (target_at start ms).manages
  manages_is = ap (λ (o : Office). o.manages) (over_keeps (target_at start ms))

  manager_is : T.manager ≡ (target_at start ms).manager
  manager_is = ap (λ (o : Office). o.manager) (over_keeps (target_at start ms))

  -- a response that is got
  got_fits : (serial : ℕ) (rest : List Note) → IsAnswered T (turn ms (said (notes.Got serial)) rest)
  got_fits serial rest answer e own f =
      let stands = here.holds.sound.stands in
      let g = got_answer T wire serial answer e in
      let c = closes_at wire serial g.own g.answered in
      let there : (target_at start ms).manages ≡ Some g.own = sym manages_is ∙ g.manages in
      let operation : (target_at start ms).manager.operation ≡ Some own = sym (ap (λ (m : Machine). m.operation) manager_is) ∙ f in
      let was : WasAsked start ms g.own own = are.each g.own own (((bound start ms counts).own g.own there).0 ∙ operation) in
      let access = access_there start ms counts g.own own was in
      let u = between c.packet c.packet.to c.packet.from c.label in
      let two = goes_on.awaited stands.wire u c.waited g.own stands.reached (ap (λ (x : Terms). x.held u) (past_terms s.world stands) ∙ c.held) in
      let sent : wire.sent g.own ≡ Some two.packet = ap (λ (x : Terms). x.sent g.own) (sym (past_terms s.world stands)) ∙ two.sent in
      let bytes : access_in_bytes two.packet.bytes ≡ Some was.access = ap (λ so. access_in (packet_in so)) (sym sent) ∙ access in
      let told : answer_in (packet_at wire serial) ≡ answer_in (packet_in (Some c.packet)) = ap (λ so. answer_in (packet_in so)) c.sent in
      let size = read_size own.phase in
      let fair : MayAnswer size (answer_in (packet_in (Some c.packet))) (Some was.access) =
      may size c.waited c.kind was.access (answer_in (packet_in (Some c.packet))) (phase_asks own.phase own was.access was.content) (bytes_kind two.packet.bytes u.label c.waited was.access two.part bytes) c.alike (answer_by c.packet.bytes c.label c.kind c.part) in
      subst (λ a. MayAnswer size answer a) (sym (ap (access_by wire) g.manages ∙ access)) (subst (λ a. MayAnswer size a (Some was.access)) (sym told ∙ g.is) fair)

  pub judged_fits : (serial : ℕ) (judged : Judged) (rest : List Note) → IsAnswered T (turn ms (said (judged_note serial judged)) rest)
  judged_fits serial judgements.Got rest = got_fits serial rest
  judged_fits serial (judgements.Ignored cause) rest = λ answer e own f. absurd (no_no answer e)

  -- a time-out
  expired_may : (size : Option ℕ) (access : Option Access) → MayAnswer size Expired access
  expired_may None access = tt
  expired_may (Some n) access = tt

  pub late_fits : (serial : ℕ) (rest : List Note) → IsAnswered T (turn ms (said (notes.TimedOut serial)) rest)
  late_fits serial rest answer e own f = subst (λ a. MayAnswer (read_size own.phase) a (access_by wire T.manages)) (late_answer T wire serial answer e) (expired_may (read_size own.phase) (access_by wire T.manages))
