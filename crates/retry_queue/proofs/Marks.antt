-- The present list of a queue is marked dead as long as one of its statuses was none of a submission.
use Rattle.std.proofs.Common.{◌≡◌, ◌∙◌, ℕ, zero, suc, Bool, true, false, cond, nat_eq, List, [], ◌∷◌, Option, Some, None, refl, sym, ap, arith}
use Rattle.std.specs.Prelude.{◌==◌, ◌||◌, not, if◌then◌else◌}
use Rattle.std.proofs.lemmas.Bool.Decides.{nat_tests}
use Rattle.orb_layout.specs.StatusBlocks as blocks
use Rattle.orb_layout.specs.declared.status.StatusKind.{StatusKind}
use Rattle.orb_layout.specs.declared.status.StatusKind.TheVariants as kinds
use Rattle.sbp_journal.specs.Run.{asked, said}
use Rattle.sbp_journal.specs.Transactions.{Part, no_packet, part_of, request, response}
use Rattle.sbp_journal.specs.Wire.{Terms}
use Rattle.sbp_journal.specs.declared.event.Event.{Event}
use Rattle.sbp_journal.specs.declared.event.Event.TheVariants as events
use Rattle.sbp_journal.specs.declared.event.Action.{Action}
use Rattle.sbp_journal.specs.declared.event.Action.TheVariants as actions
use Rattle.sbp_journal.specs.declared.operation.Operation.{Operation}
use Rattle.sbp_journal.specs.declared.operation.Operation.TheVariants as operations
use Rattle.sbp_journal.specs.declared.operation.OpWord.{OpWord}
use Rattle.sbp_journal.specs.declared.operation.OpWord.TheVariants as words
use Rattle.sbp_journal.specs.declared.note.Note.TheVariants as notes
use Rattle.sbp_laws.specs.Hosts.{Host, Underway, acted, goes_on, got_by, host_at, known_host, list_begins, op_ended, op_left, operation_of, reset_seen, ring, says_dead, sent_as, sent_in}
use Rattle.sbp_laws.specs.Lists.{present_list}
use Rattle.sbp_laws.specs.Packets.{answer_in, answered_at, packet_at}
use Rattle.sbp_laws.specs.Turns.{event_of}
use Rattle.sbp_world.specs.Lists.Faults.{is_fault}
use Rattle.sbp_world.specs.Lists.TakenTurns.{is_failed}
use Rattle.retry_queue.specs.Steps.{Step, of_world, world, write_at}
use Rattle.retry_queue.specs.Known.{is_final}
use Rattle.retry_queue.specs.Pump.{next}
use Rattle.retry_queue.specs.Taking.{IsPlain, is_unserved}
use Rattle.retry_queue.specs.Journals.{IsJournal}
use Rattle.retry_queue.specs.Law.{DeadListsWait}
use Rattle.retry_queue.proofs.Cases.{both_ways, not_first, not_own, some_is}
use Rattle.retry_queue.proofs.Order.{journal_before, none_taken, places_at, still_present, waits_so}
use Rattle.retry_queue.proofs.Pumps.{appends_next}

-- ---- what leaves the mark as it is
abbrev Same : Host → Host → Type 0
Same host now = now.marked_dead ≡ host.marked_dead

same_if : (b : Bool) (host x y : Host) → Same host x → Same host y → Same host (cond b x y)
same_if true host x y h i = h
same_if false host x y h i = i

rings : (pointer : Option ℕ) (serial : ℕ) (host : Host) → Same host (ring pointer serial host)
rings None serial host = refl
rings (Some first) serial host = refl

acts : (action : Action) (operation : Option Operation) (list : Option ℕ) (serial : ℕ) (host : Host) → Same host (acted action operation list serial host)
acts (actions.Login unit reconnect exclusive password) (Some operation) list serial host = refl
acts actions.Rom (Some operation) list serial host = refl
acts actions.AgentReset (Some operation) list serial host = refl
acts actions.State None list serial host = refl
acts actions.Ring None list serial host = rings host.pointer serial host
acts (actions.Append cmd) None list serial host = rings host.pointer serial host
acts _ (Some operation) list serial host = refl
acts _ None list serial host = refl

goes : (operation : Option Underway) (serial : ℕ) (host : Host) → Same host (goes_on operation serial host)
goes None serial host = refl
goes (Some underway) serial host = refl

sends_in : (event : Option Event) (list : Option ℕ) (serial : ℕ) (host : Host) → Same host (sent_in event 0 list serial host)
sends_in (Some (events.Act i action)) list serial host =
    same_if (i == 0) host (acted action (operation_of action) list serial host) (goes_on host.operation serial host) (acts action (operation_of action) list serial host) (goes host.operation serial host)
sends_in _ list serial host = goes host.operation serial host

sends : (part : Part) (event : Option Event) (list : Option ℕ) (serial : ℕ) (host : Host) → Same host (sent_as part event 0 list serial host)
sends (request label kind) event list serial host = sends_in event list serial host
sends (response label kind) event list serial host = refl
sends no_packet event list serial host = refl

leaves : (operation : Operation) (word : OpWord) (host : Host) → Same host (op_left operation word host)
leaves operations.Rom words.Done host = refl
leaves operations.Login words.Done host = refl
leaves _ _ host = refl

ends : (operation : Operation) (word : OpWord) (host : Host) → Same host (op_ended operation word host)
ends operations.State word host = refl
ends operation word host = by operation
  where
    by : (o : Operation) → Same host (op_ended o word host)
    by operations.State = refl
    by operations.Rom = leaves operations.Rom word host
    by operations.Login = leaves operations.Login word host
    by _ = refl

resets : (b : Bool) (host : Host) → Same host (reset_seen b host)
resets true host = refl
resets false host = refl

-- ---- what may mark it
got_marked : (own : Option ℕ) (wire : Terms) (serial : ℕ) (present : Option ℕ) (host : Host) → host.marked_dead ≡ true → (got_by own wire serial present host).marked_dead ≡ true
got_marked (Some own) wire serial present host e = ap (λ b. b || says_dead (answer_in (packet_at wire serial)) own present host.reads) e
got_marked None wire serial present host e = e

got_if : (b : Bool) (x host : Host) → x.marked_dead ≡ true → host.marked_dead ≡ true → (cond b x host).marked_dead ≡ true
got_if true x host h i = h
got_if false x host h i = i

-- a plain status is one of a submission, or leaves its agent dead
not_final : (status : StatusKind) → IsPlain status → not (is_final status) ≡ is_fault status
not_final kinds.Good p = refl
not_final (kinds.Check sense) p = refl
not_final (kinds.Illegal meaning) p = refl
not_final kinds.Failed p = refl
not_final kinds.Dummy p = absurd p
not_final kinds.Aborted p = absurd p
not_final (kinds.Management meaning) p = absurd p

tells_dead : (status : StatusKind) → is_fault status ≡ true → ((blocks.row_of status).dead == 1) ≡ true
tells_dead (kinds.Illegal meaning) e = refl
tells_dead kinds.Failed e = refl
tells_dead kinds.Good e = absurd (cc e)
tells_dead (kinds.Check sense) e = absurd (cc e)
tells_dead kinds.Dummy e = absurd (cc e)
tells_dead kinds.Aborted e = absurd (cc e)
tells_dead (kinds.Management meaning) e = absurd (cc e)

or_true : (a b : Bool) → b ≡ true → (a || b) ≡ true
or_true true b e = refl
or_true false b e = e

-- ---- what was none of a submission was failed or illegal
one_taken : (b u f v g : Bool) (status : StatusKind) → u ≡ f → v ≡ g → IsPlain status → cond b (v || not (is_final status)) u ≡ cond b (g || is_fault status) f
one_taken true u f v g status d e plain = ap (λ x. x || not (is_final status)) e ∙ ap (λ x. g || x) (not_final status plain)
one_taken false u f v g status d e plain = d

pub unserved_failed : (past : List Step) → IsJournal past → (n : ℕ) → is_unserved (world past) 0 n ≡ is_failed (world past) 0 n
unserved_failed [] j n = refl
unserved_failed (of_world (said (notes.Taken zero m k status answer)) ∷ past) j n =
    let before = journal_before _ past j in
    one_taken (nat_eq n m) (is_unserved (world past) 0 n) (is_failed (world past) 0 n) (is_unserved (world past) 0 m) (is_failed (world past) 0 m) status (unserved_failed past before n) (unserved_failed past before m) j.plain.0.plain
unserved_failed (of_world (said (notes.Taken (suc i) m k status answer)) ∷ past) j n = absurd (none_taken past (journal_before _ past j) i m k j.brought.0)
unserved_failed (_ ∷ past) j n = unserved_failed past (journal_before _ past j) n

-- ---- the mark
abbrev Marks : List Step → Type 0
Marks past = (n : ℕ) → present_list (world past) 0 ≡ Some n → is_failed (world past) 0 n ≡ true → (host_at (world past) 0).marked_dead ≡ true

-- a deadly status of the present list
module _ (past : List Step) (n : ℕ) (status : StatusKind) (present : present_list (world past) 0 ≡ Some n) (alive : is_failed (world past) 0 n ≡ false) where
  abbrev failed : Bool → ℕ → Bool
  failed here m = cond here (is_failed (world past) 0 n || is_fault status) (is_failed (world past) 0 m)

  deadly : (m : ℕ) → present_list (world past) 0 ≡ Some m → (here : Bool) → nat_eq m n ≡ here → failed here m ≡ true → is_fault status ≡ true
  deadly m same true e f = sym (ap (λ b. b || is_fault status) alive) ∙ f
  deadly m same false e f = absurd (let at : m ≡ n = some_is m n (sym same ∙ present) in grind (arith, nat_tests))

  marks_taken : (m : ℕ) → present_list (world past) 0 ≡ Some m → failed (nat_eq m n) m ≡ true → (marked : Bool) → (marked || ((blocks.row_of status).dead == 1)) ≡ true
  marks_taken m same f marked = or_true marked _ (tells_dead status (deadly m same (nat_eq m n) refl f))

-- another initiator drops its list
drops_other : (b c : Bool) → b ≡ false → (if c then true else false) ≡ false → (present : Option ℕ) (m : ℕ) → cond b None present ≡ Some m → (x host : Host) → (present ≡ Some m → host.marked_dead ≡ true) → (cond c x host).marked_dead ≡ true
drops_other true c e g present m p x host h = absurd (cc e)
drops_other false true e g present m p x host h = absurd (cc g)
drops_other false false e g present m p x host h = h p

marks : (past : List Step) → IsJournal past → Marks past
marks [] j n p f = absurd (cc p)
marks (of_world (said (notes.Begin initiators ready)) ∷ past) j n p f = absurd (let none = sym j.brought.0 ∙ p in cc none)
marks (of_world (said (notes.Append zero n zero cdb buffer)) ∷ past) j m p f =
    let at : n ≡ m = some_is n m p in
    let alive = ((places_at past (journal_before _ past j)).unbegun n (sym j.brought.0.next.number)).1 in
    absurd (both_ways (is_failed (world past) 0 m) f (ap (is_failed (world past) 0) (sym at) ∙ alive))
marks (of_world (said (notes.Append zero n (suc k) cdb buffer)) ∷ past) j m p f =
    let before = journal_before _ past j in
    marks past before m (still_present past n cdb buffer (places_at past before) k j.brought.0 ∙ p) f
marks (of_world (said (notes.Append (suc i) n k cdb buffer)) ∷ past) j m p f = absurd (not_own i j.brought.0.own)
marks (of_world (said (notes.Drop zero n)) ∷ past) j m p f = absurd (cc p)
marks (of_world (said (notes.Drop (suc i) n)) ∷ past) j m p f =
    drops_other (nat_eq 0 (suc i)) (suc i == 0) (grind (arith, nat_tests)) (not_first i true false) (present_list (world past) 0) m p (list_begins zero (host_at (world past) 0)) (host_at (world past) 0) (λ q. marks past (journal_before _ past j) m q f)
marks (of_world (said (notes.Taken zero n k status answer)) ∷ past) j m p f =
    let waits = waits_so (world past) n k j.brought.0 in
    marks_taken past n status waits.present j.plain.0.turn.alive m p f (host_at (world past) 0).marked_dead
marks (of_world (said (notes.Taken (suc i) n k status answer)) ∷ past) j m p f = absurd (none_taken past (journal_before _ past j) i n k j.brought.0)
marks (of_world (said (notes.Sent serial generation from to bytes)) ∷ past) j n p f =
    same_if _ (host_at (world past) 0) (sent_as (part_of bytes) (event_of (world past)) 0 (present_list (world past) 0) serial (host_at (world past) 0)) (host_at (world past) 0)
    (sends (part_of bytes) (event_of (world past)) (present_list (world past) 0) serial (host_at (world past) 0)) refl ∙ marks past (journal_before _ past j) n p f
marks (of_world (said (notes.Got serial)) ∷ past) j n p f =
    let wire = (known_host (world past) 0).wire in
    let e = marks past (journal_before _ past j) n p f in
    got_if _ (got_by (answered_at wire serial) wire serial (present_list (world past) 0) (host_at (world past) 0)) (host_at (world past) 0) (got_marked (answered_at wire serial) wire serial (present_list (world past) 0) (host_at (world past) 0) e) e
marks (of_world (said (notes.TimedOut serial)) ∷ past) j n p f = same_if _ (host_at (world past) 0) _ (host_at (world past) 0) refl refl ∙ marks past (journal_before _ past j) n p f
marks (of_world (said (notes.Op i operation word)) ∷ past) j n p f =
    same_if (i == 0) (host_at (world past) 0) (op_ended operation word (host_at (world past) 0)) (host_at (world past) 0) (ends operation word (host_at (world past) 0)) refl ∙ marks past (journal_before _ past j) n p f
marks (of_world (said (notes.Stuck i)) ∷ past) j n p f = same_if (i == 0) (host_at (world past) 0) _ (host_at (world past) 0) refl refl ∙ marks past (journal_before _ past j) n p f
marks (of_world (said (notes.Seen node generation)) ∷ past) j n p f =
    same_if (node == 1) (host_at (world past) 0) (reset_seen _ (host_at (world past) 0)) (host_at (world past) 0) (resets _ (host_at (world past) 0)) refl ∙ marks past (journal_before _ past j) n p f
marks (_ ∷ past) j n p f = marks past (journal_before _ past j) n p f

-- ---- the law
wait : (x : Bool) → (x ≡ true → ⊥) → x ≡ false
wait true never = absurd (never refl)
wait false never = refl

pub dead_lists_wait : DeadListsWait
dead_lists_wait [] j = tt
dead_lists_wait (of_world (asked line (events.Act i (actions.Append cmd))) ∷ past) j =
    let before = journal_before _ past j in
    let alive = (appends_next (host_at (world past) 0) (write_at past (next past)) cmd j.made.0.due).alive in
    ((λ n p. wait (is_unserved (world past) 0 n) (λ u. both_ways (host_at (world past) 0).marked_dead (marks past before n p (sym (unserved_failed past before n) ∙ u)) alive)), dead_lists_wait past before)
dead_lists_wait (_ ∷ past) j = (tt, dead_lists_wait past (journal_before _ past j))
