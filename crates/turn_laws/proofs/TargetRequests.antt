-- `requests` of the sent law in a turn of the target: the packets behind its response are the requests of an agent, of the management operation and of unsolicited statuses, in this order. A turn that is for an agent is none for the operation.
use Rattle.std.proofs.Common.{arith, drop, length, length-append, ◌≡◌, ◌∙◌, refl, sym, ap, subst, ℕ, suc, ◌&&◌, Bool, true, false, cond, List, [], ◌∷◌, ◌++◌, append-nil, Option, Some, None}
use Rattle.orb_layout.specs.Replies.{Answer, Expired}
use Rattle.rbc_disk.specs.Disk.{Disk}
use Rattle.sbp_journal.specs.Addresses.{Access, Start, management_agent, no_start, register, rom_start, start_at, start_serves}
use Rattle.sbp_journal.specs.Run.{Moment, said}
use Rattle.sbp_journal.specs.Wire.{Terms, terms}
use Rattle.sbp_journal.specs.declared.note.Note.{Note}
use Rattle.sbp_journal.specs.declared.note.Note.TheVariants as notes
use Rattle.sbp_laws.specs.Agents.{AgentTurn, Event, Request, requests_to, agent_event, agent_turn, event_by, got_in, nothing, replies, reply_to, target_before, wire_after, write_in, write_of, writes}
use Rattle.sbp_laws.specs.CarriedLaw.{EndEachBy, EndsAsRead}
use Rattle.sbp_laws.specs.Management.{Call, answer_to, answers, call_by, call_of, got_call, manager_requests, manager_turn, no_call, operator_of, sent_in, start_in, start_of, starts}
use Rattle.login_table.specs.declared.login.Login.{Login}
use Rattle.sbp_laws.specs.MediaLaw.{is_push_note, load_in, logins_for, logins_told, may_push, push_body, push_notes, push_requests}
use Rattle.sbp_laws.specs.NoteKinds.{of_kind}
use Rattle.sbp_laws.specs.Packets.{access_at, answer_in, answered_at, finds_label, packet_at, receiver_in, sender_in}
use Rattle.sbp_laws.specs.SentRequests.{ArePackets, Asks, RequestsLaw, agent_requests, asks, asks_at, asks_by, before_requests, behind_answer, expiring, target_requests}
use Rattle.sbp_laws.specs.Targets.{Purpose, Target, for_agent, for_manager, for_nobody, initiator_with, is_serial, purpose_of}
use Rattle.sbp_laws.specs.Turns.{EachTurn, Turn}
use Rattle.turn_laws.specs.Runs.{OfEveryRun}
use Rattle.turn_laws.specs.TargetRequests.{IsTargets, TargetAsks, TargetRequestsLaw, gets_it, times_out}
use Rattle.turn_laws.proofs.AgentDue.{HasTurn, TellsEnds, TellsFor, turn_in}
use Rattle.turn_laws.proofs.AgentSends.{AgentFirst, sends_for}
use Rattle.turn_laws.proofs.EachTurns.{joined_law}
use Rattle.turn_laws.proofs.Ends.{tells_law}
use Rattle.turn_laws.proofs.IdleSends.{IsIdle, idle_law}
use Rattle.turn_laws.proofs.ManagerRequests.{AsksFor, OperationAsks, operation_law, requests_for}
use Rattle.turn_laws.proofs.Pushes.{PushesAreSent, SendsLast, pushes_sent_law, requests_due, sends_none, sends_some}
use Rattle.turn_laws.proofs.RequestPackets.{Sound, got_exactly, late_exactly, sound_law}
use Rattle.turn_laws.proofs.RunEnds.{runs_end_law}
use Rattle.turn_laws.proofs.SentOwn.{AreFor, both_for, for_length}
use Rattle.turn_laws.proofs.TurnCounts.{pushed_in}

-- these are the packets of each
pub record SendsDue (start : List Disk) (t : Turn) : Type 0 where
  pub agent : List Note
  pub operation : List Note
  pub pushes : List Note
  pub is : behind_answer start t ≡ agent ++ (operation ++ pushes)
  pub of_agent : AreFor 0 agent (agent_requests (target_before start t) t (turn_in start t))
  pub of_operation : AreFor 0 operation (manager_requests (target_before start t) t)
  pub of_pushes : AreFor 0 pushes (push_requests (target_before start t) (wire_after t) (logins_told (target_before start t) t))

module _ (start : List Disk) (t : Turn) where
  its_exactly : Sound start t → IsTargets t → (wants : List Request) → AreFor 0 (behind_answer start t) wants → ArePackets (before_requests start t) 0 (behind_answer start t) wants
  its_exactly sound (gets_it serial e own) = got_exactly start t sound serial e
  its_exactly sound (times_out serial e own) = late_exactly start t sound serial e

  its_asks : IsTargets t → asks_by start t t.start ≡ asks 0 (target_requests start t)
  its_asks (gets_it serial e own) = ap (asks_by start t) e ∙ ap (asks_at start t serial) own
  its_asks (times_out serial e own) = ap (asks_by start t) e ∙ ap (expiring start t) own

  -- so the law holds of it
  pub requests_sent : Sound start t → IsTargets t → SendsDue start t → RequestsLaw start t
  requests_sent sound its s asks_some =
      let T = target_before start t in
      let first = agent_requests T t (turn_in start t) in
      let second = manager_requests T t in
      let third = push_requests T (wire_after t) (logins_told T t) in
      subst (λ (x : Asks). ArePackets (before_requests start t) x.node (behind_answer start t) x.requests) (sym (its_asks its))
      (its_exactly sound its (target_requests start t)
      (subst (λ ns. AreFor 0 ns (target_requests start t)) (sym s.is)
      (both_for 0 s.agent (s.operation ++ s.pushes) first (second ++ third) s.of_agent (both_for 0 s.operation s.pushes second third s.of_operation s.of_pushes))))

-- ---- what is for an agent is not for the operation
abbrev NotBoth : Event → Call → Type 0
NotBoth (replies reply) call = call ≡ no_call
NotBoth (writes name place access) call = call ≡ no_call
NotBoth nothing call = Unit {0}

purpose_calls : (for : Purpose) (answer : Answer) → NotBoth (reply_to for answer) (answer_to for answer)
purpose_calls (for_agent place which) answer = refl
purpose_calls for_manager answer = tt
purpose_calls for_nobody answer = tt

start_calls : (at : Start) (source : ℕ) (access : Access) → NotBoth (write_of at access) (start_of at source access)
start_calls rom_start source access = tt
start_calls management_agent source access = tt
start_calls no_start source access = tt
start_calls (register place name) source access = by (access.is_write) (start_serves (register place name) access)
  where
    by : (x y : Bool) → NotBoth (cond (x && y) (writes name place access) nothing) no_call
    by true true = refl
    by true false = tt
    by false y = tt

write_calls : (o : Option Access) (source : ℕ) → NotBoth (write_in o) (start_in o source)
write_calls None source = tt
write_calls (Some access) source = start_calls (start_at access.offset) source access

module _ (T : Target) (wire : Terms) where
  got_calls : (own : Option ℕ) (serial : ℕ) → NotBoth (got_in own T wire serial) (got_call own T wire serial)
  got_calls (Some own) serial = purpose_calls (purpose_of T own) (answer_in (packet_at wire serial))
  got_calls None serial = write_calls (access_at wire serial) _

  both_by : (x : Bool) (event : Event) (call : Call) → NotBoth event call → NotBoth (cond x event nothing) (cond x call no_call)
  both_by true event call n = n
  both_by false event call n = tt

  moment_calls : (m : Moment) → NotBoth (event_by m T wire) (call_by m T wire)
  moment_calls (said (notes.Got serial)) = both_by (is_serial (receiver_in (wire.sent serial)) 0) _ _ (got_calls (answered_at wire serial) serial)
  moment_calls (said (notes.TimedOut serial)) = both_by (is_serial (sender_in (wire.sent serial)) 0) _ _ (purpose_calls (purpose_of T serial) Expired)
  moment_calls m = tt

event_calls : (event : Event) (call : Call) (T : Target) (wire : Terms) (rest : List Note) (a : AgentTurn) → NotBoth event call → agent_turn event T wire rest ≡ Some a → call ≡ no_call
event_calls (replies reply) call T wire rest a n e = n
event_calls (writes name place access) call T wire rest a n e = n
event_calls nothing call T wire rest a n e = absurd (let no : None ≡ Some a = e in cc)

-- ---- a turn that is for an agent
module _ (start : List Disk) (t : Turn) (a : AgentTurn) (its : turn_in start t ≡ Some a) where
  abbrev T : Target
  T = target_before start t

  pub no_operation : manager_requests T t ≡ []
  no_operation =
      let none : call_of T t ≡ no_call = event_calls (agent_event start t) (call_of T t) T (terms t.past) t.rest a (moment_calls T (terms t.past) t.start) its in
      ap (λ c. sent_in (operator_of T t) (finds_label (wire_after t) 0 (suc (operator_of T t))) (manager_turn c T)) none

  -- of such a turn the law holds where what it sends behind the agent's requests are unsolicited statuses that are due
  pub agent_due : (h : HasTurn start T t a) → AreFor 0 (sends_for start t a h).more (push_requests T (wire_after t) (logins_told T t)) → SendsDue start t
  agent_due h pushes =
      let f = sends_for start t a h in
      record {
        agent = f.own;
        operation = [];
        pushes = f.more;
        is = f.is;
        of_agent = subst (λ x. AreFor 0 f.own (agent_requests T t x)) (sym its) f.asks;
        of_operation = subst (AreFor 0 []) (sym no_operation) tt;
        of_pushes = pushes;
      }

-- ---- where no command runs nobody is told of a disc
load_none : (of T : Target) (wire : Terms) (rest : List Note) → EndEachBy of None rest → load_in T wire rest ≡ None
load_none of T bus [] h = refl
load_none of T bus (notes.Ran i list number unit cdb bytes check ∷ rest) h = absurd h.0
load_none of T bus (note ∷ rest) h = load_none of T bus rest h

module _ (start : List Disk) (t : Turn) (silent : turn_in start t ≡ None) (runs : EndsAsRead start t) where
  abbrev its : Target
  its = target_before start t

  no_pushes : push_requests its (wire_after t) (logins_told its t) ≡ []
  no_pushes =
      ap (λ load. push_requests its (wire_after t) (logins_for its load))
      (load_none its its (terms t.past) t.rest (subst (λ a. EndEachBy its a t.rest) silent runs))

  none_asks : agent_requests its t (turn_in start t) ≡ []
  none_asks = ap (agent_requests its t) silent

  -- so in a turn that is for no agent nothing is sent but the request of the operation
  pub operation_due : AreFor 0 (behind_answer start t) (manager_requests its t) → SendsDue start t
  operation_due asks = record {
    agent = [];
    operation = behind_answer start t;
    pushes = [];
    is = sym (append-nil (behind_answer start t));
    of_agent = subst (AreFor 0 []) (sym none_asks) tt;
    of_operation = asks;
    of_pushes = subst (AreFor 0 []) (sym no_pushes) tt;
  }

  pub idle_due : IsTargets t → IsIdle start t → call_of its t ≡ no_call → SendsDue start t
  idle_due of idle none =
      let asks_none : manager_requests its t ≡ [] = ap (λ c. sent_in (operator_of its t) (finds_label (wire_after t) 0 (suc (operator_of its t))) (manager_turn c its)) none in
      operation_due (subst (AreFor 0 (behind_answer start t)) (sym asks_none) (subst (λ ns. AreFor 0 ns []) (sym (idle of silent none)) tt))

-- ---- as many are told as are due
push_count : (T : Target) (after : Terms) (logins : List Login) → pushed_in (push_notes T after logins) ≡ length (push_requests T after logins)
push_count T after [] = refl
push_count T after (login ∷ logins) = by (initiator_with after login.node) (may_push T after login) (push_count T after logins)
  where
    by : (j : ℕ) (b : Bool) → pushed_in (push_notes T after logins) ≡ length (push_requests T after logins)
        → pushed_in (cond b (notes.Unsolicited j) (notes.Unsent j) ∷ push_notes T after logins) ≡ length (cond b (requests_to (suc j) (Some (push_body login)) ++ push_requests T after logins) (push_requests T after logins))
    by j true h = ap suc h
    by j false h = h

kind_count : (rest : List Note) → pushed_in rest ≡ pushed_in (of_kind is_push_note rest)
kind_count [] = refl
kind_count (notes.Unsolicited i ∷ rest) = ap suc (kind_count rest)
kind_count (notes.Unsent i ∷ rest) = kind_count rest
kind_count (note ∷ rest) = kind_count rest

-- ---- two ends of a list, as long
same_last : {A : Type 0} (a b c d : List A) → a ++ b ≡ c ++ d → length b ≡ length d → b ≡ d
same_last [] b [] d e f = e
same_last [] b (x ∷ c) d e f = let n = ap (λ xs. length xs) e ∙ length-append (x ∷ c) d in absurd (omega (arith, n, f))
same_last (x ∷ a) b [] d e f = let n = sym (length-append (x ∷ a) b) ∙ ap (λ xs. length xs) e in absurd (omega (arith, n, f))
same_last (x ∷ a) b (y ∷ c) d e f = same_last a b c d (ap (drop 1) e) f

none_left : {A : Type 0} (xs : List A) → length xs ≡ 0 → xs ≡ []
none_left [] e = refl
none_left (x ∷ xs) e = absurd (omega (arith, e))

-- what stands behind an agent's requests are the unsolicited statuses that are due
module _ (start : List Disk) (t : Turn) (sent : PushesAreSent start t) (a : AgentTurn) (h : HasTurn start (target_before start t) t a) where
  abbrev due : List Request
  due = requests_due start t

  abbrev first : AgentFirst start t (agent_requests (target_before start t) t (Some a))
  first = sends_for start t a h

  told : length first.more ≡ length due
  told =
      let T = target_before start t in
      first.counted ∙ (kind_count t.rest ∙ (ap pushed_in sent.0 ∙ push_count T (wire_after t) (logins_told T t)))

  by_last : SendsLast start t → AreFor 0 first.more due
  by_last (sends_none e) = subst (AreFor 0 first.more) (sym e) (subst (λ ns. AreFor 0 ns []) (sym (none_left first.more (told ∙ ap (λ (ws : List Request). length ws) e))) tt)
  by_last (sends_some serial e none l) =
      subst (λ ns. AreFor 0 ns due) (sym (same_last first.own first.more l.first l.last (sym first.is ∙ l.is) (told ∙ sym (for_length 0 l.last due l.are)))) l.are

  pub pushes_behind : AreFor 0 first.more due
  pushes_behind = by_last sent.1

-- ---- every turn of the target: what an agent has, what the operation has, and what is told of a disc
pub record AsksAll (start : List Disk) (t : Turn) : Type 0 where
  pub tells : TellsEnds start t
  pub idle : IsIdle start t
  pub runs : EndsAsRead start t
  pub pushes : PushesAreSent start t
  pub operation : OperationAsks start t

pub asks_law : OfEveryRun (λ start past. EachTurn (AsksAll start) past)
asks_law =
    joined_law (λ start t. (TellsEnds start t × IsIdle start t) × EndsAsRead start t) (λ start t. PushesAreSent start t × OperationAsks start t) AsksAll
    (λ start t x y. record { tells = x.0.0; idle = x.0.1; runs = x.1; pushes = y.0; operation = y.1 })
    (joined_law (λ start t. TellsEnds start t × IsIdle start t) EndsAsRead (λ start t. (TellsEnds start t × IsIdle start t) × EndsAsRead start t) (λ start t x y. (x, y))
    (joined_law TellsEnds IsIdle (λ start t. TellsEnds start t × IsIdle start t) (λ start t x y. (x, y)) tells_law idle_law) runs_end_law)
    (joined_law PushesAreSent OperationAsks (λ start t. PushesAreSent start t × OperationAsks start t) (λ start t x y. (x, y)) pushes_sent_law operation_law)

module _ (start : List Disk) (t : Turn) (sound : Sound start t) (all : AsksAll start t) (of : IsTargets t) where
  abbrev mine : Target
  mine = target_before start t

  by_call : (c : Call) → call_of mine t ≡ c → AsksFor start t c → turn_in start t ≡ None → SendsDue start t
  by_call no_call e asks silent = idle_due start t silent all.runs of all.idle e
  by_call (answers answer) e asks silent = operation_due start t silent all.runs (subst (λ c. AreFor 0 (behind_answer start t) (requests_for (terms t.past) (wire_after t) mine c)) (sym e) asks)
  by_call (starts source orb) e asks silent = operation_due start t silent all.runs (subst (λ c. AreFor 0 (behind_answer start t) (requests_for (terms t.past) (wire_after t) mine c)) (sym e) asks)

  by_agent : (x : Option AgentTurn) → turn_in start t ≡ x → TellsFor start mine t x → SendsDue start t
  by_agent None e h = by_call (call_of mine t) refl all.operation e
  by_agent (Some a) e h = agent_due start t a e h (pushes_behind start t all.pushes a h)

  -- `requests` of the sent law
  target_asks : RequestsLaw start t
  target_asks = requests_sent start t sound of (by_agent (turn_in start t) refl all.tells)

pub target_requests_law : TargetRequestsLaw
target_requests_law = joined_law Sound AsksAll TargetAsks (λ start t sound all of. target_asks start t sound all of) sound_law asks_law
