-- What a turn of a drill tells: nothing of management, where what stood before it is calm.
use Rattle.std.proofs.Common.{◌≡◌, ◌∙◌, ◌⊎◌, inl, refl, sym, ap, subst, ℕ, zero, suc, ◌+◌, ◌*◌, ◌<◌, ◌≤◌, ◌==◌, ◌&&◌, not, nat_lt, Bool, true, false, cond, List, [], ◌∷◌, ◌++◌, length, drop, Option, Some, None, arith}
use Rattle.std.specs.List.{AllByRecursion}
use Rattle.std.proofs.lemmas.Bool.Decides.{nat_tests}
use Rattle.async_packet.specs.Packet.{Packet}
use Rattle.bus_memory.specs.Windows.{is_fifo}
use Rattle.label_table.specs.Bodies.{Body, block_read, block_write, quadlet_read, quadlet_write}
use Rattle.login_table.specs.declared.login.Login.{Login}
use Rattle.mgmt_agent.specs.Machine.{Machine}
use Rattle.mgmt_agent.specs.declared.decision.Effect.TheVariants as effects
use Rattle.mgmt_agent.specs.declared.decision.ManagerStep.{ManagerStep}
use Rattle.orb_layout.specs.Pointers.{offset_at}
use Rattle.orb_layout.specs.Replies.{Answer, Payload}
use Rattle.orb_layout.specs.StatusBlocks.{read_block}
use Rattle.rbc_disk.specs.Disk.{Disk}
use Rattle.sbp_journal.proofs.Each.{all_append}
use Rattle.sbp_journal.specs.Addresses.{Access, Register, Start, agent_reset, agent_state, base_of, doorbell, management_agent, no_start, orb_pointer, register, rom_base, rom_start, start_at, start_serves, unsolicited_enable}
use Rattle.sbp_journal.specs.Run.{Moment, asked, said}
use Rattle.sbp_journal.specs.Transactions.{Sending, part_of}
use Rattle.sbp_journal.specs.Wire.{Terms, terms}
use Rattle.sbp_journal.specs.declared.cause.Cause.{Cause}
use Rattle.sbp_journal.specs.declared.event.Event.TheVariants as events
use Rattle.sbp_journal.specs.declared.note.Note.{Note}
use Rattle.sbp_journal.specs.declared.note.Note.TheVariants as notes
use Rattle.sbp_laws.specs.Agents.{AgentTurn, Request, agent_event, agent_turn, got_in, nothing, reply_to, requests_of, requests_to, wire_after, write_in, write_of, writes}
use Rattle.sbp_laws.specs.CauseLaw.{HasCauses}
use Rattle.sbp_laws.specs.Hosts.{Host, host_at, is_latest, is_rom, response_of}
use Rattle.sbp_laws.specs.JudgementLaw.{Judges, answer_packet, ignored_rest, verdict_of}
use Rattle.sbp_laws.specs.Lists.{present_list}
use Rattle.sbp_laws.specs.LoginLaw.{HasLogins, is_decision_note, is_login_note}
use Rattle.sbp_laws.specs.Management.{Call, answer_to, call_of, cleared_by, cuts_by_effect, cuts_by_event, cuts_due, decided_in, effect_in, effect_of, failed_in, got_call, manager_requests, manager_turn, moved_logins, no_call, operator_for, operator_of, sent_in, start_in, start_of, starts}
use Rattle.sbp_laws.specs.MediaLaw.{logins_told, may_push, push_body, push_requests}
use Rattle.sbp_laws.specs.NoteKinds.{is_cleared_note, is_cut_note, is_failure_note, is_operation_note, of_kind}
use Rattle.sbp_laws.specs.Operations.{at_initiator, end_by_answer, end_by_write, end_notes, ends_by_block, gets_stuck, got_notes, next_read, operation_answered, operation_notes, or_end, read_ends, stuck_note}
use Rattle.sbp_laws.specs.Packets.{access_at, access_in, answer_in, answered_at, finds_label, id_of, packet_at, packet_in, receiver_in}
use Rattle.sbp_laws.specs.SentAnswers.{AnswersLaw, Begins, answer_due, answers_to, is_answered, reply_in, reply_packet}
use Rattle.sbp_laws.specs.SentRequests.{ArePackets, IsAsked, RequestsLaw, agent_requests, asks_at, asks_by, before_requests, behind_answer, host_requests}
use Rattle.sbp_laws.specs.Served.{Reply}
use Rattle.sbp_laws.specs.Targets.{Purpose, Target, for_agent, for_manager, for_nobody, initiator_with, is_serial, over, purpose_of, target_at}
use Rattle.sbp_laws.specs.Turns.{Turn, sends_of, turn}
use Rattle.drill_laws.specs.DrillCalm.{IsCalmNote}
use Rattle.drill_laws.proofs.DrillHosts.{IsIdle, IsNoStart, RestsIdle, never_managed, over_idle}
use Rattle.drill_laws.proofs.DrillRings.{AreHarmless, IsRing, bells, code_byte, points, responses_high}

-- ---- what is known of a history
-- a packet to the target is an initiator's, and writes ORB_POINTER or DOORBELL, if anything
abbrev pub IsGood : (from to : ℕ) → List ℕ → Type 0
IsGood from to bytes = to ≡ 0 → (from ≡ 0 → ⊥) × AreHarmless bytes

pub record IsCalm (start : List Disk) (past : List Moment) : Type 0 where
  pub agents : (i : ℕ) → i < 2 → (host_at past i).login.agent ≡ base_of i
  pub sent : (s : ℕ) (q : Sending) → (terms past).sent s ≡ Some q → IsGood q.from q.to q.bytes
  pub hosts : (i : ℕ) → IsIdle (host_at past i)
  pub target : RestsIdle (target_at start past)

-- ---- what is told of a packet that is sent
abbrev pub IsFine : (from to : ℕ) → List ℕ → Type 0
IsFine from to bytes = to ≡ 0 → (from ≡ 0 → ⊥) × ((32 ≤ code_byte bytes) ⊎ AreHarmless bytes)

abbrev pub IsFineSent : Note → Type 0
IsFineSent (notes.Sent serial generation from to bytes) = IsFine from to bytes
IsFineSent note = Unit {0}

-- such a packet that is no request: an answer to the target
abbrev pub IsBackSent : Note → Type 0
IsBackSent (notes.Sent serial generation from to bytes) = to ≡ 0 → (from ≡ 0 → ⊥) × (32 ≤ code_byte bytes)
IsBackSent note = Unit {0}

abbrev pub AreBack : List Note → Type 0
AreBack told = AllByRecursion IsBackSent told

-- a note that tells of no operation, and of no packet but such a one
pub record IsFineNote (note : Note) : Type 0 where
  pub calm : IsCalmNote note
  pub sent : IsFineSent note

abbrev pub AreFine : List Note → Type 0
AreFine rest = AllByRecursion IsFineNote rest

-- ---- by kinds
abbrev IsStuckNote : Note → Type 0
IsStuckNote (notes.Stuck i) = Unit {0}
IsStuckNote note = ⊥

pub none_of : (kind : Note → Bool) (rest : List Note) → of_kind kind rest ≡ [] → AllByRecursion (λ note. kind note ≡ false) rest
none_of kind [] e = tt
none_of kind (note ∷ rest) e = by (kind note) refl (none_of kind rest) e
  where
    by : (b : Bool) → kind note ≡ b → (of_kind kind rest ≡ [] → AllByRecursion (λ note. kind note ≡ false) rest) → cond b (note ∷ of_kind kind rest) (of_kind kind rest) ≡ [] → (kind note ≡ false) × AllByRecursion (λ note. kind note ≡ false) rest
    by true f later e = absurd (let no : note ∷ of_kind kind rest ≡ [] = e in cc no)
    by false f later e = (f, later e)

stuck_of : (rest : List Note) → AllByRecursion IsStuckNote (of_kind is_operation_note rest) → AllByRecursion (λ note. is_operation_note note ≡ true → IsStuckNote note) rest
stuck_of [] all = tt
stuck_of (note ∷ rest) all = by (is_operation_note note) refl (stuck_of rest) all
  where
    by : (b : Bool) → is_operation_note note ≡ b → (AllByRecursion IsStuckNote (of_kind is_operation_note rest) → AllByRecursion (λ note. is_operation_note note ≡ true → IsStuckNote note) rest) → AllByRecursion IsStuckNote (cond b (note ∷ of_kind is_operation_note rest) (of_kind is_operation_note rest)) → (is_operation_note note ≡ true → IsStuckNote note) × AllByRecursion (λ note. is_operation_note note ≡ true → IsStuckNote note) rest
    by true f later all = ((λ e. all.0), later all.1)
    by false f later all = ((λ e. absurd (let no : false ≡ true = sym f ∙ e in cc no)), later all)

sends_fine : (rest : List Note) → AllByRecursion IsFineSent (sends_of rest) → AllByRecursion IsFineSent rest
sends_fine [] all = tt
sends_fine (notes.Sent serial generation from to bytes ∷ rest) all = (all.0, sends_fine rest all.1)
sends_fine (_ ∷ rest) all = (tt, sends_fine rest all)

back_fine : (sent : List Note) → AreBack sent → AllByRecursion IsFineSent sent
back_fine [] all = tt
back_fine (notes.Sent serial generation from to bytes ∷ rest) all = ((λ e. let b = all.0 e in (b.0, inl b.1)), back_fine rest all.1)
back_fine (_ ∷ rest) all = (tt, back_fine rest all.1)

sends_back : (rest : List Note) → AreBack (sends_of rest) → AreBack rest
sends_back [] all = tt
sends_back (notes.Sent serial generation from to bytes ∷ rest) all = (all.0, sends_back rest all.1)
sends_back (_ ∷ rest) all = (tt, sends_back rest all)

-- a note of none of these kinds
calm_note : (note : Note) → is_cut_note note ≡ false → is_cleared_note note ≡ false → is_login_note note ≡ false → is_decision_note note ≡ false → is_failure_note note ≡ false → (is_operation_note note ≡ true → IsStuckNote note) → IsCalmNote note
calm_note (notes.Cut i list cause) a b c d e f = absurd (cc a)
calm_note (notes.Cleared unit) a b c d e f = absurd (cc b)
calm_note (notes.Held id) a b c d e f = absurd (cc c)
calm_note (notes.Expired id) a b c d e f = absurd (cc c)
calm_note (notes.Back id) a b c d e f = absurd (cc c)
calm_note (notes.Left id) a b c d e f = absurd (cc c)
calm_note (notes.Managed i function subject status login) a b c d e f = absurd (cc d)
calm_note (notes.ManageFailed i cause) a b c d e f = absurd (cc e)
calm_note (notes.Op i operation word) a b c d e f = absurd (f refl)
calm_note (notes.Drop i n) a b c d e f = absurd (f refl)
calm_note _ a b c d e f = tt

-- what a turn tells, by kinds
record TellsNone (rest : List Note) : Type 0 where
  cuts : of_kind is_cut_note rest ≡ []
  cleared : of_kind is_cleared_note rest ≡ []
  logins : of_kind is_login_note rest ≡ []
  decisions : of_kind is_decision_note rest ≡ []
  failures : of_kind is_failure_note rest ≡ []
  operations : AllByRecursion IsStuckNote (of_kind is_operation_note rest)
  sends : AllByRecursion IsFineSent (sends_of rest)

fine_all : (rest : List Note) → TellsNone rest → AreFine rest
fine_all rest h = over_all rest (none_of is_cut_note rest h.cuts) (none_of is_cleared_note rest h.cleared) (none_of is_login_note rest h.logins) (none_of is_decision_note rest h.decisions) (none_of is_failure_note rest h.failures) (stuck_of rest h.operations) (sends_fine rest h.sends)
  where
    over_all : (rest : List Note) → AllByRecursion (λ note. is_cut_note note ≡ false) rest → AllByRecursion (λ note. is_cleared_note note ≡ false) rest → AllByRecursion (λ note. is_login_note note ≡ false) rest → AllByRecursion (λ note. is_decision_note note ≡ false) rest
        → AllByRecursion (λ note. is_failure_note note ≡ false) rest → AllByRecursion (λ note. is_operation_note note ≡ true → IsStuckNote note) rest → AllByRecursion IsFineSent rest → AreFine rest
    over_all [] a b c d e f g = tt
    over_all (note ∷ rest) a b c d e f g = (record { calm = calm_note note a.0 b.0 c.0 d.0 e.0 f.0; sent = g.0 }, over_all rest a.1 b.1 c.1 d.1 e.1 f.1 g.1)

-- ---- requests at the target
zero_is : (n : ℕ) → is_serial (Some n) 0 ≡ true → n ≡ 0
zero_is n e = grind (arith, nat_tests)

not_managed : (offset : ℕ) → start_at offset ≡ management_agent → IsRing offset → ⊥
not_managed offset e (points place f) = let no : management_agent ≡ register place orb_pointer = sym e ∙ f in absurd (cc no)
not_managed offset e (bells place f) = let no : management_agent ≡ register place doorbell = sym e ∙ f in absurd (cc no)

not_reset : (offset place : ℕ) → start_at offset ≡ register place agent_reset → IsRing offset → ⊥
not_reset offset other e (points place f) = let no : register other agent_reset ≡ register place orb_pointer = sym e ∙ f in absurd (cc no)
not_reset offset other e (bells place f) = let no : register other agent_reset ≡ register place doorbell = sym e ∙ f in absurd (cc no)

serves_write : (access : Access) → start_serves management_agent access ≡ true → access.is_write ≡ true
serves_write access e = by access.is_lock access.is_write e
  where
    by : (l w : Bool) → (not l && w && access.is_block && access.count == 8) ≡ true → w ≡ true
    by l true e = refl
    by true false e = absurd (cc e)
    by false false e = absurd (cc e)

answers_none : (purpose : Purpose) (answer : Answer) → (purpose ≡ for_manager → ⊥) → answer_to purpose answer ≡ no_call
answers_none (for_agent place which) answer never = refl
answers_none for_manager answer never = absurd (never refl)
answers_none for_nobody answer never = refl

starts_by : (from : Start) (source : ℕ) (access : Access) → (from ≡ management_agent → start_serves management_agent access ≡ false) → start_of from source access ≡ no_call
starts_by management_agent source access never = ap (λ b. cond b (starts source (offset_at access.payload 0)) no_call) (never refl)
starts_by rom_start source access never = refl
starts_by (register place name) source access never = refl
starts_by no_start source access never = refl

starts_none : (found : Option Access) (source : ℕ) → ((access : Access) → found ≡ Some access → IsNoStart access) → start_in found source ≡ no_call
starts_none None source never = refl
starts_none (Some access) source never = starts_by (start_at access.offset) source access (never access refl)

replies_cut : (start : List Disk) (past : List Moment) (wire : Terms) (target : Target) (purpose : Purpose) (answer : Answer) → cuts_by_event start (reply_to purpose answer) past wire target ≡ []
replies_cut start past wire target (for_agent place which) answer = refl
replies_cut start past wire target for_manager answer = refl
replies_cut start past wire target for_nobody answer = refl

writes_by : (start : List Disk) (past : List Moment) (wire : Terms) (target : Target) (from : Start) (access : Access) → (access.is_write ≡ true → (place : ℕ) → from ≡ register place agent_reset → ⊥) → cuts_by_event start (write_of from access) past wire target ≡ []
writes_by start past wire target rom_start access never = refl
writes_by start past wire target management_agent access never = refl
writes_by start past wire target no_start access never = refl
writes_by start past wire target (register place name) access never = by access.is_write refl (start_serves (register place name) access)
  where
    written : (name other : Register) → name ≡ other → access.is_write ≡ true → (access.is_write ≡ true → (place : ℕ) → register place name ≡ register place agent_reset → ⊥) → cuts_by_event start (writes name place access) past wire target ≡ []
    written agent_reset other e w never = absurd (never w place refl)
    written agent_state other e w never = refl
    written orb_pointer other e w never = refl
    written doorbell other e w never = refl
    written unsolicited_enable other e w never = refl

    by : (w : Bool) → access.is_write ≡ w → (serves : Bool) → cuts_by_event start (cond (w && serves) (writes name place access) nothing) past wire target ≡ []
    by true e true = written name name refl e (λ w other f. never w place (ap (λ r. register place r) (same_name other f)))
      where
        same_name : (other : ℕ) → register other name ≡ register other agent_reset → name ≡ agent_reset
        same_name other f = cc f
    by true e false = refl
    by false e serves = refl

writes_cut : (start : List Disk) (past : List Moment) (wire : Terms) (target : Target) (found : Option Access) → ((access : Access) → found ≡ Some access → access.is_write ≡ true → IsRing access.offset) → cuts_by_event start (write_in found) past wire target ≡ []
writes_cut start past wire target None ring = refl
writes_cut start past wire target (Some access) ring = writes_by start past wire target (start_at access.offset) access (λ w place e. not_reset access.offset place e (ring access refl w))

-- ---- the requests of a turn
abbrev IsAway : Request → Type 0
IsAway want = want.to ≡ 0 → ⊥

abbrev AreAway : List Request → Type 0
AreAway wants = AllByRecursion IsAway wants

away : (node : ℕ) (is_untold : Bool) (body : Option Body) → AreAway (requests_of (suc node) is_untold body)
away node is_untold None = tt
away node is_untold (Some body) = ((λ e. absurd (let no : suc node ≡ 0 = e in omega (arith, no))), tt)

away_append : (xs ys : List Request) → AreAway xs → AreAway ys → AreAway (xs ++ ys)
away_append [] ys a b = b
away_append (x ∷ xs) ys a b = (a.0, away_append xs ys a.1 b)

agents_away : (target : Target) (t : Turn) (a : Option AgentTurn) → AreAway (agent_requests target t a)
agents_away target t None = tt
agents_away target t (Some a) = away_append (requests_of _ _ _) (requests_to _ _) (away _ _ _) (away _ _ _)

pushes_away : (target : Target) (wire : Terms) (logins : List Login) → AreAway (push_requests target wire logins)
pushes_away target wire [] = tt
pushes_away target wire (login ∷ logins) = by (may_push target wire login) (pushes_away target wire logins)
  where
    by : (b : Bool) → AreAway (push_requests target wire logins) → AreAway (cond b (requests_to (suc (initiator_with wire login.node)) (Some (push_body login)) ++ push_requests target wire logins) (push_requests target wire logins))
    by true rest = away_append (requests_to (suc (initiator_with wire login.node)) (Some (push_body login))) (push_requests target wire logins) (away (initiator_with wire login.node) false (Some (push_body login))) rest
    by false rest = rest

-- a packet that was asked for goes where it was asked
asked_to : (is_untold : Bool) (body : Body) (wire : Terms) (node : ℕ) (want : Request) (serial generation from to : ℕ) (bytes : List ℕ) → IsAsked is_untold body wire node want serial generation from to bytes → to ≡ want.to
asked_to true (block_write offset payload) wire node want serial generation from to bytes h = h.is.receiver
asked_to true (quadlet_write offset value) wire node want serial generation from to bytes h = h.receiver
asked_to true (quadlet_read offset) wire node want serial generation from to bytes h = h.receiver
asked_to true (block_read offset size) wire node want serial generation from to bytes h = h.receiver
asked_to false body wire node want serial generation from to bytes h = h.receiver

packets_away : (past : List Moment) (node : ℕ) (sent : List Note) (wants : List Request) → AreAway wants → ArePackets past node sent wants → AreBack sent
packets_away past node [] [] away h = tt
packets_away past node (notes.Sent serial generation from to bytes ∷ rest) (want ∷ wants) away h =
    ((λ e. absurd (away.0 (sym (asked_to want.is_untold want.body (terms past) node want serial generation from to bytes h.0) ∙ e))), packets_away _ node rest wants away.1 h.1)
packets_away past node [] (want ∷ wants) away h = absurd h
packets_away past node (notes.Sent serial generation from to bytes ∷ rest) [] away h = absurd h
packets_away past node (_ ∷ rest) [] away h = absurd h
packets_away past node (_ ∷ rest) (want ∷ wants) away h = absurd h

-- its first packets
pub begins_split : (due sent : List Note) → Begins due sent → sent ≡ due ++ drop (length due) sent
begins_split [] sent h = refl
begins_split (note ∷ due) [] h = absurd h
begins_split (note ∷ due) (first ∷ sent) h = ap (λ n. n ∷ sent) h.0 ∙ ap (λ ns. note ∷ ns) (begins_split due sent h.1)

-- ---- a packet that the target gets
module _ (start : List Disk) (past : List Moment) (serial : ℕ) (rest : List Note) (calm : IsCalm start past) where
  abbrev wire : Terms
  wire = terms past

  abbrev before : Target
  before = over (target_at start past)

  abbrev t : Turn
  t = turn past (said (notes.Got serial)) rest

  before_idle : RestsIdle before
  before_idle = over_idle (target_at start past) calm.target

  -- what a packet to the target asks for
  at_target : (access : Access) → is_serial (receiver_in (wire.sent serial)) 0 ≡ true → access_at wire serial ≡ Some access → access.is_write ≡ true → IsRing access.offset
  at_target access here found w = by (wire.sent serial) refl here found
    where
      by : (q : Option Sending) → wire.sent serial ≡ q → is_serial (receiver_in q) 0 ≡ true → access_in (packet_in q) ≡ Some access → IsRing access.offset
      by None e here found = absurd (let no : false ≡ true = here in cc no)
      by (Some q) e here found = (calm.sent serial q e (zero_is q.to here)).1 access found w

  -- it resets no agent, and starts nothing
  pub no_start_here : (access : Access) → is_serial (receiver_in (wire.sent serial)) 0 ≡ true → access_at wire serial ≡ Some access → IsNoStart access
  no_start_here access here found at = by (start_serves management_agent access) refl
    where
      by : (b : Bool) → start_serves management_agent access ≡ b → b ≡ false
      by false e = refl
      by true e = absurd (not_managed access.offset at (at_target access here found (serves_write access e)))

  call_none : call_of before t ≡ no_call
  call_none = by (is_serial (receiver_in (wire.sent serial)) 0) refl
    where
      by_own : (own : Option ℕ) → is_serial (receiver_in (wire.sent serial)) 0 ≡ true → got_call own before wire serial ≡ no_call
      by_own (Some own) here = answers_none (purpose_of before own) _ (never_managed before own before_idle)
      by_own None here = starts_none (access_at wire serial) _ (λ access found. no_start_here access here found)

      by : (b : Bool) → is_serial (receiver_in (wire.sent serial)) 0 ≡ b → cond b (got_call (answered_at wire serial) before wire serial) no_call ≡ no_call
      by true here = by_own (answered_at wire serial) here
      by false here = refl

  event_none : cuts_by_event start (agent_event start t) past wire before ≡ []
  event_none = by (is_serial (receiver_in (wire.sent serial)) 0) refl
    where
      by_own : (own : Option ℕ) → is_serial (receiver_in (wire.sent serial)) 0 ≡ true → cuts_by_event start (got_in own before wire serial) past wire before ≡ []
      by_own (Some own) here = replies_cut start past wire before (purpose_of before own) _
      by_own None here = writes_cut start past wire before (access_at wire serial) (λ access found w. at_target access here found w)

      by : (b : Bool) → is_serial (receiver_in (wire.sent serial)) 0 ≡ b → cuts_by_event start (cond b (got_in (answered_at wire serial) before wire serial) nothing) past wire before ≡ []
      by true here = by_own (answered_at wire serial) here
      by false here = refl

  -- what it tells
  effect_none : effect_of before t ≡ effects.Nothing
  effect_none = ap (λ (c : Call). effect_in (manager_turn c before)) call_none

  stuck_alone : (i : ℕ) (b : Bool) → AllByRecursion IsStuckNote (stuck_note i b)
  stuck_alone i true = (tt, tt)
  stuck_alone i false = tt

  pub answers_end : (host : Host) (own : ℕ) (answer : Answer) (present : Option ℕ) → IsIdle host → end_by_answer host own answer present ≡ None
  answers_end host own answer present h = ap (λ o. or_end (operation_answered o own answer host) (read_ends host.reads own answer present)) h.operation ∙ ap (λ r. read_ends r own answer present) h.reads

  pub writes_end : (host : Host) (found : Option Access) → IsIdle host → end_by_write host found ≡ None
  writes_end host None h = refl
  writes_end host (Some access) h = by (access.is_write && access.is_block && is_fifo access.offset)
    where
      by : (b : Bool) → cond b (ends_by_block host.operation (read_block true access.payload) (response_of host)) None ≡ None
      by true = ap (λ o. ends_by_block o (read_block true access.payload) (response_of host)) h.operation
      by false = refl

  got_stuck : (i : ℕ) (own : Option ℕ) → AllByRecursion IsStuckNote (got_notes i (host_at past i) (present_list past i) wire own serial)
  got_stuck i (Some own) =
      subst (λ e. AllByRecursion IsStuckNote (end_notes i e (present_list past i) ++ stuck_note i (gets_stuck (host_at past i) (access_at wire own) (answer_in (packet_at wire serial)))))
      (sym (answers_end (host_at past i) own (answer_in (packet_at wire serial)) (present_list past i) (calm.hosts i)))
      (stuck_alone i (gets_stuck (host_at past i) (access_at wire own) (answer_in (packet_at wire serial))))
  got_stuck i None = subst (λ e. AllByRecursion IsStuckNote (end_notes i e (present_list past i))) (sym (writes_end (host_at past i) (access_at wire serial) (calm.hosts i))) tt

  operations_stuck : AllByRecursion IsStuckNote (operation_notes t)
  operations_stuck = by (receiver_in (wire.sent serial))
    where
      by : (to : Option ℕ) → AllByRecursion IsStuckNote (at_initiator to (λ i. got_notes i (host_at past i) (present_list past i) wire (answered_at wire serial) serial))
      by None = tt
      by (Some zero) = tt
      by (Some (suc i)) = got_stuck i (answered_at wire serial)

  -- ---- what it sends
  answer_fine : (sending : Sending) (rcode : ℕ) (given : List ℕ) (packet : Option Packet) → wire.sent serial ≡ Some sending → AreBack (answer_packet wire sending rcode given packet)
  answer_fine sending rcode given None e = tt
  answer_fine sending rcode given (Some packet) e =
      ((λ back. ((λ own. absurd ((calm.sent serial sending e own).0 back)), responses_high (id_of wire sending.to) packet rcode given)), tt)

  answers_fine : AreBack (answer_due start t (said (notes.Got serial)))
  answers_fine = by (wire.sent serial) refl
    where
      by_reply : (sending : Sending) → wire.sent serial ≡ Some sending → (reply : Option Reply) → AreBack (reply_packet wire sending reply)
      by_reply sending e None = tt
      by_reply sending e (Some reply) = answer_fine sending reply.rcode reply.given (packet_in (Some sending)) e

      by_part : (sending : Sending) → wire.sent serial ≡ Some sending → (b : Bool) → AreBack (cond b (reply_packet wire sending (reply_in start t sending.to (access_in (packet_in (Some sending))))) [])
      by_part sending e true = by_reply sending e _
      by_part sending e false = tt

      by : (found : Option Sending) → wire.sent serial ≡ found → AreBack (answers_to start t found)
      by None e = tt
      by (Some sending) e = by_part sending e (is_answered (part_of sending.bytes))

  managers_away : AreAway (manager_requests before t)
  managers_away = by (manager_turn (call_of before t) before) (ap (λ (c : Call). manager_turn c before) call_none)
    where
      by : (s : Option (ManagerStep × Machine)) → s ≡ None → AreAway (sent_in (operator_of before t) (finds_label (wire_after t) 0 (suc (operator_of before t))) s)
      by None e = tt
      by (Some s) e = absurd (let no : Some s ≡ None = e in cc no)

  reads_none : (i own : ℕ) (answer : Answer) → AreAway (next_read (host_at past i) own answer)
  reads_none i own answer = by answer
    where
      by : (answer : Answer) → AreAway (next_read (host_at past i) own answer)
      by (Payload bytes) =
          subst (λ o. AreAway (cond (is_rom o && is_latest o own && nat_lt (length (host_at past i).quads) 255) (requests_to 0 (Some (quadlet_read (rom_base + 4 * (length (host_at past i).quads + 1))))) [])) (sym (calm.hosts i).operation) tt
      by _ = tt

  requests_away : AreAway (asks_by start t (said (notes.Got serial))).requests
  requests_away = by (receiver_in (wire.sent serial))
    where
      by_own : (i : ℕ) (own : Option ℕ) → AreAway (host_requests t i serial own)
      by_own i None = tt
      by_own i (Some own) = reads_none i own (answer_in (packet_at (terms t.past) serial))

      by : (to : Option ℕ) → AreAway (asks_at start t serial to).requests
      by None = tt
      by (Some zero) =
          away_append (agent_requests before t (agent_turn (agent_event start t) before wire rest)) _ (agents_away before t (agent_turn (agent_event start t) before wire rest))
          (away_append (manager_requests before t) _ managers_away (pushes_away before (wire_after t) (logins_told before t)))
      by (Some (suc i)) = by_own i (answered_at wire serial)

  got_sends : AnswersLaw start t → RequestsLaw start t → AreBack (sends_of rest)
  got_sends begins asks =
      subst (AreBack) (sym (begins_split (answer_due start t (said (notes.Got serial))) (sends_of rest) begins))
      (all_append IsBackSent (answer_due start t (said (notes.Got serial))) (behind_answer start t) answers_fine
      (packets_away (before_requests start t) (asks_by start t (said (notes.Got serial))).node (behind_answer start t) (asks_by start t (said (notes.Got serial))).requests requests_away (asks refl)))

  pub got_back : AnswersLaw start t → RequestsLaw start t → AreBack rest
  got_back begins asks = sends_back rest (got_sends begins asks)

  pub got_fine : HasCauses start t → HasLogins start t → AnswersLaw start t → RequestsLaw start t → AreFine rest
  got_fine causes logins begins asks = fine_all rest (record {
    cuts = causes.cuts ∙ cuts_none;
    cleared = causes.cleared ∙ ap (cleared_by before) effect_none;
    logins = logins.logins ∙ ap (moved_logins before) effect_none;
    decisions = logins.decisions ∙ ap (λ (c : Call). decided_in (operator_for c wire before) (manager_turn c before)) call_none;
    failures = causes.failures ∙ ap (λ (c : Call). failed_in (operator_for c wire before) (finds_label (wire_after t) 0 (suc (operator_for c wire before))) (manager_turn c before)) call_none;
    operations = subst (AllByRecursion IsStuckNote) (sym causes.operations) operations_stuck;
    sends = back_fine (sends_of rest) (got_sends begins asks);
  })
    where
      cuts_none : cuts_due start before t ≡ []
      cuts_none = ap (λ ns. ns ++ cuts_by_effect start past wire before (effect_of before t)) event_none ∙ ap (cuts_by_effect start past wire before) effect_none

  -- ---- a packet that is ignored
  pub ignored_fine : (cause : Cause) → Judges start (turn past (said (notes.Ignored serial cause)) rest) → AreFine rest
  ignored_fine cause judges = subst AreFine (sym judges.1) (by (wire.sent serial) refl (verdict_of start (turn past (said (notes.Ignored serial cause)) rest) serial).rcode)
    where
      fine_packet : (sending : Sending) (rcode : ℕ) (packet : Option Packet) → wire.sent serial ≡ Some sending → AreFine (answer_packet wire sending rcode [] packet)
      fine_packet sending rcode None e = tt
      fine_packet sending rcode (Some packet) e =
          (record { calm = tt; sent = λ back. ((λ own. absurd ((calm.sent serial sending e own).0 back)), inl (responses_high (id_of wire sending.to) packet rcode [])) }, tt)

      by : (found : Option Sending) → wire.sent serial ≡ found → (rcode : Option ℕ) → AreFine (ignored_rest wire found rcode)
      by None e rcode = tt
      by (Some sending) e None = tt
      by (Some sending) e (Some rcode) = fine_packet sending rcode (packet_in (Some sending)) e

  pub ignored_back : (cause : Cause) → Judges start (turn past (said (notes.Ignored serial cause)) rest) → AreBack rest
  ignored_back cause judges = subst AreBack (sym judges.1) (by (wire.sent serial) refl (verdict_of start (turn past (said (notes.Ignored serial cause)) rest) serial).rcode)
    where
      by : (found : Option Sending) → wire.sent serial ≡ found → (rcode : Option ℕ) → AreBack (ignored_rest wire found rcode)
      by None e rcode = tt
      by (Some sending) e None = tt
      by (Some sending) e (Some rcode) = answer_fine sending rcode [] (packet_in (Some sending)) e

-- ---- a turn in which nobody is to do anything
abbrev pub AsksNone : Moment → Type 0
AsksNone (said notes.Settled) = Unit {0}
AsksNone (said notes.Stopped) = Unit {0}
AsksNone (asked line events.Settle) = Unit {0}
AsksNone moment = ⊥

pub none_sent : (past : List Moment) (node : ℕ) (sent : List Note) → ArePackets past node sent [] → sent ≡ []
none_sent past node [] h = refl
none_sent past node (notes.Sent serial generation from to bytes ∷ rest) h = absurd h
none_sent past node (_ ∷ rest) h = absurd h

pub quiet_fine : (start : List Disk) (past : List Moment) (moment : Moment) (rest : List Note) → AsksNone moment → HasCauses start (turn past moment rest) → HasLogins start (turn past moment rest) → RequestsLaw start (turn past moment rest) → AreFine rest
quiet_fine start past (said notes.Settled) rest is causes logins asks =
    let none : drop 0 (sends_of rest) ≡ [] = none_sent _ 0 (drop 0 (sends_of rest)) (asks refl) in
    fine_all rest (record { cuts = causes.cuts; cleared = causes.cleared; logins = logins.logins; decisions = logins.decisions; failures = causes.failures; operations = subst (AllByRecursion IsStuckNote) (sym causes.operations) tt; sends = subst (AllByRecursion IsFineSent) (sym none) tt })
quiet_fine start past (said notes.Stopped) rest is causes logins asks =
    let none : drop 0 (sends_of rest) ≡ [] = none_sent _ 0 (drop 0 (sends_of rest)) (asks refl) in
    fine_all rest (record { cuts = causes.cuts; cleared = causes.cleared; logins = logins.logins; decisions = logins.decisions; failures = causes.failures; operations = subst (AllByRecursion IsStuckNote) (sym causes.operations) tt; sends = subst (AllByRecursion IsFineSent) (sym none) tt })
quiet_fine start past (asked line events.Settle) rest is causes logins asks =
    let none : drop 0 (sends_of rest) ≡ [] = none_sent _ 0 (drop 0 (sends_of rest)) (asks refl) in
    fine_all rest (record { cuts = causes.cuts; cleared = causes.cleared; logins = logins.logins; decisions = logins.decisions; failures = causes.failures; operations = subst (AllByRecursion IsStuckNote) (sym causes.operations) tt; sends = subst (AllByRecursion IsFineSent) (sym none) tt })
quiet_fine start past _ rest is causes logins asks = absurd is

pub quiet_back : (start : List Disk) (past : List Moment) (moment : Moment) (rest : List Note) → AsksNone moment → RequestsLaw start (turn past moment rest) → AreBack rest
quiet_back start past (said notes.Settled) rest is asks = sends_back rest (let none : drop 0 (sends_of rest) ≡ [] = none_sent _ 0 (drop 0 (sends_of rest)) (asks refl) in subst AreBack (sym none) tt)
quiet_back start past (said notes.Stopped) rest is asks = sends_back rest (let none : drop 0 (sends_of rest) ≡ [] = none_sent _ 0 (drop 0 (sends_of rest)) (asks refl) in subst AreBack (sym none) tt)
quiet_back start past (asked line events.Settle) rest is asks = sends_back rest (let none : drop 0 (sends_of rest) ≡ [] = none_sent _ 0 (drop 0 (sends_of rest)) (asks refl) in subst AreBack (sym none) tt)
quiet_back start past _ rest is asks = absurd is
