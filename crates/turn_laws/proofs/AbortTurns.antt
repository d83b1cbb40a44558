-- By the terms of a run an agent that waits for more of its ORB has it marked where an abort of it stands before, turn by turn: an abort with 00 is told directly behind the reply that decides it.
use Rattle.std.proofs.Common.{◌≡◌, ◌∙◌, ◌⊎◌, inl, inr, refl, sym, ap, subst, ℕ, ◌==◌, ◌&&◌, not, Bool, true, false, cond, List, [], ◌∷◌, Option, Some, None, Result, Ok, Err}
use Rattle.std.specs.Prelude.{is_none, position}
use Rattle.mgmt_agent.specs.Machine as manager
use Rattle.mgmt_agent.specs.Statuses.{function_of}
use Rattle.mgmt_agent.specs.declared.decision.Decision.{Decision}
use Rattle.mgmt_agent.specs.declared.decision.Effect.{Effect}
use Rattle.mgmt_agent.specs.declared.decision.ManagerStep.{ManagerStep}
use Rattle.orb_layout.specs.Replies.{Answer, Expired}
use Rattle.rbc_disk.specs.Disk.{Disk}
use Rattle.sbp_journal.specs.Run.{Moment, asked, said}
use Rattle.sbp_journal.specs.Transactions.{Transaction}
use Rattle.sbp_journal.specs.Wire.{Terms, begun_in, terms, times_out}
use Rattle.sbp_journal.specs.declared.note.Note.{Note}
use Rattle.sbp_journal.specs.declared.note.Note.TheVariants as notes
use Rattle.sbp_journal.specs.declared.operation.FunctionWord.{FunctionWord}
use Rattle.sbp_journal.specs.declared.operation.FunctionWord.TheVariants as words
use Rattle.mgmt_agent.specs.declared.operation.Busy.{Busy}
use Rattle.orb_layout.specs.declared.ask.Ask.{Ask}
use Rattle.orb_layout.specs.Pointers.{offset_at}
use Rattle.sbp_journal.specs.Addresses.{Access, Start, management_agent, no_start, register, rom_start, start_at, start_serves}
use Rattle.sbp_laws.specs.Agents.{event_by, got_in, nothing, reply_to}
use Rattle.sbp_laws.specs.Aborts.{is_aborted, is_unrun}
use Rattle.sbp_laws.specs.Deliveries.{once_told}
use Rattle.sbp_laws.specs.LoginLaw.{is_decision_note}
use Rattle.sbp_laws.specs.Management.{Call, answer_to, answers, call_by, decided_in, decided_note, got_call, logins_due, manager_turn, moved_logins, no_call, sees_reset, source_node, start_in, start_of, started, starts, word_by}
use Rattle.sbp_laws.specs.NoteKinds.{of_kind}
use Rattle.sbp_laws.specs.Packets.{access_at, answer_in, answered_at, id_for, packet_at, receiver_in, sender_in}
use Rattle.sbp_laws.specs.Targets.{Decided, Purpose, Target, agent_at, entered_by, enters_in, for_agent, for_manager, for_nobody, got_by, initiator_with, is_serial, known_at, managed_by, manager_step, over, purpose_of, replied, replied_to, reset_seen, target_at, target_by}
use Rattle.sbp_laws.proofs.Going.{initiators_same}
use Rattle.sbp_world.proofs.Agents.Management.Firsts.{wire_is}
use Rattle.sbp_world.proofs.Common.{none_is, untrue}
use Rattle.sbp_world.proofs.Lists.AgentFolds.{AreStill}
use Rattle.sbp_world.proofs.Lists.AgentNotes.{pick, sees_kept}
use Rattle.turn_laws.proofs.AbortHistory.{A, Kept, are_kept, AreMarked, IsAbort, NoManaged, All, asked_marked, got_keeps, keeps_over, late_keeps, note_marked, settled_keeps, steps}
use Rattle.turn_laws.proofs.Announcing.{got_initiator}
use Rattle.turn_laws.proofs.Handed.{AllInner, IsInner}
use Rattle.turn_laws.proofs.PresentOrbs.{note_rests, told_one}

-- ---- the notes of a turn
abbrev pub AllFit : List Note → Type 0
AllFit [] = Unit {0}
AllFit (note ∷ rest) = IsAbort note × AllFit rest

abbrev pub NoneManaged : List Note → Type 0
NoneManaged [] = Unit {0}
NoneManaged (note ∷ rest) = NoManaged note × NoneManaged rest

pub none_fit : (rest : List Note) → of_kind is_decision_note rest ≡ [] → AllFit rest × NoneManaged rest
none_fit [] e = (tt, tt)
none_fit (notes.Managed i word subject status login ∷ rest) e = absurd (let no : notes.Managed i word subject status login ∷ of_kind is_decision_note rest ≡ [] = e in cc)
none_fit (note ∷ rest) e = let f = none_fit rest e in ((tt, f.0), (tt, f.1))

-- a decision on an abort has another status than 00
abbrev pub IsNoAbort : Option Decision → Type 0
IsNoAbort None = Unit {0}
IsNoAbort (Some d) = word_by (function_of d.function) ≡ words.Abort → (d.status == 0) ≡ false

one_fit : (i subject status : ℕ) (word : FunctionWord) (login : Option ℕ) → (word ≡ words.Abort → (status == 0) ≡ false) → IsAbort (notes.Managed i word subject status login)
one_fit i subject status words.Abort login f = f refl
one_fit i subject status word login f = tt

same_words : (i j a b x y : ℕ) (v w : FunctionWord) (l m : Option ℕ) (p q : List Note) → notes.Managed i v a x l ∷ p ≡ notes.Managed j w b y m ∷ q → (v ≡ w) × ((x ≡ y) × (p ≡ q))
same_words i j a b x y v w l m p q e = (cc, (cc, cc))

pub all_fit : (rest : List Note) (i : ℕ) (x : Option Decision) → IsNoAbort x → of_kind is_decision_note rest ≡ decided_note i x → AllFit rest
all_fit rest i None n e = (none_fit rest e).0
all_fit [] i (Some d) n e = tt
all_fit (notes.Managed j word subject status login ∷ rest) i (Some d) n e =
    let same = same_words j i subject d.subject status d.status word (word_by (function_of d.function)) login _ (of_kind is_decision_note rest) [] e in
    (one_fit j subject status word login (λ f. ap (λ k. k == 0) same.1.0 ∙ n (sym same.0 ∙ f)), (none_fit rest same.1.1).0)
all_fit (note ∷ rest) i (Some d) n e = (tt, all_fit rest i (Some d) n e)

-- ---- behind the first moment of a turn
entered_reply : (place : Option ℕ) (decided : Option Decided) (id : ℕ) (t : Target) → (enters_in place decided id t).reply ≡ t.reply
entered_reply None decided id t = refl
entered_reply (Some place) None id t = refl
entered_reply (Some place) (Some decided) id t = refl

login_reply : (login : Option ℕ) (t : Target) → (entered_by login t).reply ≡ t.reply
login_reply None t = refl
login_reply (Some id) t = entered_reply (position is_none t.table.places) t.decided id t

none_on : (note : Note) (past : List Moment) (wire : Terms) (t : Target) → IsInner note → t.reply ≡ None → (target_by note past wire t).reply ≡ None
none_on (notes.Managed i words.Login subject status login) past wire t c e = login_reply login t ∙ e
none_on note past wire t c e = note_rests note past wire t c e

module _ (start : List Disk) where
  pub rest_marked : (rest : List Note) (past : List Moment) → AllInner rest → AllFit rest → ((target_at start past).reply ≡ None) ⊎ NoneManaged rest → AreMarked start past
      → AreMarked start (once_told past rest)
  rest_marked [] past c f r h = h
  rest_marked (note ∷ rest) past c f r h =
      subst (AreMarked start) (sym (told_one note rest past)) (rest_marked rest (said note ∷ past) c.1 f.1 (later r) (note_marked start note past c.0 f.0 (now r) h))
    where
      now : ((target_at start past).reply ≡ None) ⊎ NoneManaged (note ∷ rest) → ((target_at start past).reply ≡ None) ⊎ NoManaged note
      now (inl e) = inl e
      now (inr n) = inr n.0

      later : ((target_at start past).reply ≡ None) ⊎ NoneManaged (note ∷ rest) → ((target_at start (said note ∷ past)).reply ≡ None) ⊎ NoneManaged rest
      later (inl e) = inl (none_on note past (known_at start past).wire (target_at start past) c.0 e)
      later (inr n) = inr n.1

-- ---- the first moment of a turn
pub late_ids : (begun : Option Transaction) (t : Terms) (node : ℕ) → id_for (times_out begun t) 0 node ≡ id_for t 0 node
late_ids None t node = refl
late_ids (Some transaction) t node = refl

abbrev pub IsFirst : Moment → Type 0
IsFirst (asked line event) = Unit {0}
IsFirst (said (notes.Got serial)) = Unit {0}
IsFirst (said (notes.Ignored serial cause)) = Unit {0}
IsFirst (said (notes.TimedOut serial)) = Unit {0}
IsFirst (said (notes.Seen node generation)) = Unit {0}
IsFirst (said notes.Tick) = Unit {0}
IsFirst (said notes.Settled) = Unit {0}
IsFirst (said notes.Stopped) = Unit {0}
IsFirst (said note) = ⊥

module _ (start : List Disk) (past : List Moment) where
  abbrev pub T : Target
  T = over (target_at start past)

  abbrev pub wire : Terms
  wire = terms past

  -- what the management does then
  abbrev pub turns : Call → Option (ManagerStep × manager.Machine)
  turns call = manager_turn call T

  -- the target gets an answer for the management
  pub record Manages (moment : Moment) (answer : Answer) : Type 0 where
    pub note : Note
    pub is : moment ≡ said note
    pub call : call_by moment T wire ≡ answers answer
    pub event : event_by moment T wire ≡ nothing
    pub sees : sees_reset moment wire ≡ false
    pub moves : (effect : Effect) → logins_due moment wire T effect ≡ moved_logins T effect
    pub now : target_at start (moment ∷ past) ≡ managed_by (manager_step T answer) answer T
    pub ids : (id : ℕ) → initiator_with (terms (moment ∷ past)) id ≡ initiator_with wire id
    pub on : (q address : ℕ) → is_aborted start (moment ∷ past) q address ≡ (is_aborted start past q address && is_unrun (agent_at (target_at start (moment ∷ past)) q) address)

  -- or nothing is decided
  pub data First (moment : Moment) : Type 0 where
    manages : (answer : Answer) → Manages moment answer → First moment
    others : ((i : ℕ) → decided_in i (turns (call_by moment T wire)) ≡ []) → (AreMarked start past → AreMarked start (moment ∷ past)) → First moment

  start_quiet : (start_of_it : Start) (source : ℕ) (access : Access) (i : ℕ) → decided_in i (turns (start_of start_of_it source access)) ≡ []
  start_quiet management_agent source access i = by (start_serves management_agent access)
    where
      started_quiet : (r : Result Ask Busy × manager.Machine) → decided_in i (started r) ≡ []
      started_quiet (Err busy, m) = refl
      started_quiet (Ok ask, m) = refl

      by : (b : Bool) → decided_in i (turns (cond b (starts source (offset_at access.payload 0)) no_call)) ≡ []
      by true = started_quiet (manager.start_step T.manager source (offset_at access.payload 0))
      by false = refl
  start_quiet (register place name) source access i = refl
  start_quiet rom_start source access i = refl
  start_quiet no_start source access i = refl

  request_quiet : (access : Option Access) (source i : ℕ) → decided_in i (turns (start_in access source)) ≡ []
  request_quiet None source i = refl
  request_quiet (Some access) source i = start_quiet (start_at access.offset) source access i

  pub got_first : (serial : ℕ) (b : Bool) (own : Option ℕ) → is_serial (receiver_in (wire.sent serial)) 0 ≡ b → answered_at wire serial ≡ own → First (said (notes.Got serial))
  got_first serial b own e f = by b own e f
    where
      m : Moment
      m = said (notes.Got serial)

      answer : Answer
      answer = answer_in (packet_at wire serial)

      now_is : target_at start (said (notes.Got serial) ∷ past) ≡ cond (is_serial (receiver_in (wire.sent serial)) 0) (got_by (answered_at wire serial) wire serial T) T
      now_is = ap (λ (w : Terms). target_by (notes.Got serial) past w (target_at start past)) (wire_is start past)

      marks : ((o : ℕ) → is_serial (receiver_in (wire.sent serial)) 0 ≡ true → answered_at wire serial ≡ Some o → purpose_of T o ≡ for_manager → ⊥) → AreMarked start past
          → AreMarked start (said (notes.Got serial) ∷ past)
      marks n h =
          steps start past (target_at start (said (notes.Got serial) ∷ past)) h
          (subst (All (target_at start past)) (sym now_is) (got_keeps start past wire serial (is_serial (receiver_in (wire.sent serial)) 0) (answered_at wire serial) (λ o x y z place orb k. n o x y z)))

      as_now : (x : Bool) (y : Option ℕ) → is_serial (receiver_in (wire.sent serial)) 0 ≡ x → answered_at wire serial ≡ y
          → target_at start (said (notes.Got serial) ∷ past) ≡ cond x (got_by y wire serial T) T
      as_now x y g h = now_is ∙ (ap (λ z. cond z (got_by (answered_at wire serial) wire serial T) T) g ∙ ap (λ z. cond x (got_by z wire serial T) T) h)

      as_call : (x : Bool) (y : Option ℕ) → is_serial (receiver_in (wire.sent serial)) 0 ≡ x → answered_at wire serial ≡ y
          → call_by (said (notes.Got serial)) T wire ≡ cond x (got_call y T wire serial) no_call
      as_call x y g h = ap (λ z. cond z (got_call (answered_at wire serial) T wire serial) no_call) g ∙ ap (λ z. cond x (got_call z T wire serial) no_call) h

      by_purpose : (o : ℕ) (purpose : Purpose) → purpose_of T o ≡ purpose → is_serial (receiver_in (wire.sent serial)) 0 ≡ true → answered_at wire serial ≡ Some o → First (said (notes.Got serial))
      by_purpose o for_manager p g h = manages answer (record {
        note = notes.Got serial;
        is = refl;
        event = ap (λ z. cond z (got_in (answered_at wire serial) T wire serial) nothing) g ∙ (ap (λ z. got_in z T wire serial) h ∙ ap (λ x. reply_to x answer) p);
        sees = refl;
        moves = λ effect. refl;
        call = as_call true (Some o) g h ∙ ap (λ x. answer_to x answer) p;
        now = as_now true (Some o) g h ∙ ap (λ x. replied_to x answer T) p;
        ids = got_initiator serial past;
        on = λ q address. refl;
      })
      by_purpose o (for_agent place which) p g h =
          others (λ i. ap (λ c. decided_in i (manager_turn c T)) (as_call true (Some o) g h ∙ ap (λ x. answer_to x answer) p))
          (marks (λ k x y z. absurd (let no : for_agent place which ≡ for_manager = sym p ∙ (ap (purpose_of T) (let w : Some o ≡ Some k = sym h ∙ y in let v : o ≡ k = cc in v) ∙ z) in cc)))
      by_purpose o for_nobody p g h =
          others (λ i. ap (λ c. decided_in i (manager_turn c T)) (as_call true (Some o) g h ∙ ap (λ x. answer_to x answer) p))
          (marks (λ k x y z. absurd (let no : for_nobody ≡ for_manager = sym p ∙ (ap (purpose_of T) (let w : Some o ≡ Some k = sym h ∙ y in let v : o ≡ k = cc in v) ∙ z) in cc)))

      by : (x : Bool) (y : Option ℕ) → is_serial (receiver_in (wire.sent serial)) 0 ≡ x → answered_at wire serial ≡ y → First (said (notes.Got serial))
      by true (Some o) g h = by_purpose o (purpose_of T o) refl g h
      by true None g h =
          others
          (λ i. ap (λ c. decided_in i (manager_turn c T)) (as_call true None g h) ∙ request_quiet (access_at wire serial) (id_for wire 0 (source_node (sender_in (wire.sent serial)))) i)
          (marks (λ k x y z. none_is k (sym h ∙ y)))
      by false y g h = others (λ i. ap (λ c. decided_in i (manager_turn c T)) (as_call false y g h)) (marks (λ k x z w. untrue (sym g ∙ x)))

  pub late_first : (serial : ℕ) → First (said (notes.TimedOut serial))
  late_first serial = by (is_serial (sender_in (wire.sent serial)) 0) refl
    where
      now_is : target_at start (said (notes.TimedOut serial) ∷ past) ≡ cond (is_serial (sender_in (wire.sent serial)) 0) (replied serial Expired T) T
      now_is = ap (λ (w : Terms). target_by (notes.TimedOut serial) past w (target_at start past)) (wire_is start past)

      marks : (is_serial (sender_in (wire.sent serial)) 0 ≡ true → purpose_of T serial ≡ for_manager → ⊥) → AreMarked start past → AreMarked start (said (notes.TimedOut serial) ∷ past)
      marks n h =
          steps start past (target_at start (said (notes.TimedOut serial) ∷ past)) h
          (subst (All (target_at start past)) (sym now_is) (late_keeps start past serial (is_serial (sender_in (wire.sent serial)) 0) (λ x y place orb k. n x y)))

      as_now : (x : Bool) → is_serial (sender_in (wire.sent serial)) 0 ≡ x → target_at start (said (notes.TimedOut serial) ∷ past) ≡ cond x (replied serial Expired T) T
      as_now x g = now_is ∙ ap (λ z. cond z (replied serial Expired T) T) g

      as_call : (x : Bool) → is_serial (sender_in (wire.sent serial)) 0 ≡ x → call_by (said (notes.TimedOut serial)) T wire ≡ cond x (answer_to (purpose_of T serial) Expired) no_call
      as_call x g = ap (λ z. cond z (answer_to (purpose_of T serial) Expired) no_call) g

      by_purpose : (purpose : Purpose) → purpose_of T serial ≡ purpose → is_serial (sender_in (wire.sent serial)) 0 ≡ true → First (said (notes.TimedOut serial))
      by_purpose for_manager p g = manages Expired (record {
        note = notes.TimedOut serial;
        is = refl;
        event = ap (λ z. cond z (reply_to (purpose_of T serial) Expired) nothing) g ∙ ap (λ x. reply_to x Expired) p;
        sees = refl;
        moves = λ effect. refl;
        call = as_call true g ∙ ap (λ x. answer_to x Expired) p;
        now = as_now true g ∙ ap (λ x. replied_to x Expired T) p;
        ids = λ id. initiators_same wire (terms (said (notes.TimedOut serial) ∷ past)) id (late_ids (begun_in (wire.sent serial)) wire);
        on = λ q address. refl;
      })
      by_purpose (for_agent place which) p g =
          others (λ i. ap (λ c. decided_in i (manager_turn c T)) (as_call true g ∙ ap (λ x. answer_to x Expired) p))
          (marks (λ x z. absurd (let no : for_agent place which ≡ for_manager = sym p ∙ z in cc)))
      by_purpose for_nobody p g =
          others (λ i. ap (λ c. decided_in i (manager_turn c T)) (as_call true g ∙ ap (λ x. answer_to x Expired) p)) (marks (λ x z. absurd (let no : for_nobody ≡ for_manager = sym p ∙ z in cc)))

      by : (x : Bool) → is_serial (sender_in (wire.sent serial)) 0 ≡ x → First (said (notes.TimedOut serial))
      by true g = by_purpose (purpose_of T serial) refl g
      by false g = others (λ i. ap (λ c. decided_in i (manager_turn c T)) (as_call false g)) (marks (λ x z. untrue (sym g ∙ x)))

  seen_still : (node generation : ℕ) → AreStill (Kept (A (target_at start past))) (target_at start (said (notes.Seen node generation) ∷ past))
  seen_still node generation =
      let t = target_at start past in
      let new = not (generation == (known_at start past).wire.generation 0) in
      pick (Kept (A t)) (are_kept (A t)) (node == 0) (reset_seen new T) T (sees_kept (Kept (A t)) (are_kept (A t)) new T (keeps_over t)) (keeps_over t)

  pub first : (moment : Moment) → IsFirst moment → First moment
  first (asked line event) f = others (λ i. refl) (λ h. asked_marked start line event past h)
  first (said (notes.Got serial)) f = got_first serial (is_serial (receiver_in (wire.sent serial)) 0) (answered_at wire serial) refl refl
  first (said (notes.TimedOut serial)) f = late_first serial
  first (said (notes.Ignored serial cause)) f = others (λ i. refl) (λ h. steps start past (target_at start (said (notes.Ignored serial cause) ∷ past)) h (keeps_over (target_at start past)).agents)
  first (said notes.Tick) f = others (λ i. refl) (λ h. steps start past (target_at start (said notes.Tick ∷ past)) h (keeps_over (target_at start past)).agents)
  first (said (notes.Seen node generation)) f =
      others (λ i. refl) (λ h. steps start past (target_at start (said (notes.Seen node generation) ∷ past)) h (seen_still node generation).agents)
  first (said notes.Settled) f =
      others (λ i. refl) (λ h. steps start past (target_at start (said notes.Settled ∷ past)) h (settled_keeps notes.Settled (target_at start past) past (known_at start past).wire refl tt))
  first (said notes.Stopped) f =
      others (λ i. refl) (λ h. steps start past (target_at start (said notes.Stopped ∷ past)) h (settled_keeps notes.Stopped (target_at start past) past (known_at start past).wire refl tt))
  first (said note) f = absurd f
