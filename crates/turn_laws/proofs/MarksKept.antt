-- What an initiator knows of its present list is what the terms have of it: behind what it hears, waits for in vain and sees, and behind its actions.
use Rattle.std.proofs.Common.{append-nil, ◌≡◌, refl, sym, ◌∙◌, ap, subst, ℕ, ◌==◌, ◌&&◌, ◌||◌, is_some, Bool, true, false, List, ◌∷◌, Option, Some, None, inl, inr, ◌⊎◌, zero, suc, nat_eq, nat_lt, not, cond, [], ◌++◌}
use Rattle.bus_memory.specs.Windows.{slot_of}
use Rattle.bus_transactions.specs.Fitting.{AreBytes}
use Rattle.label_table.specs.Layer.{Finding, judging_step, of_again, of_generation, of_grammar, of_label, of_request, of_response, seeing_step, seen_in_generation}
use Rattle.orb_layout.specs.StatusBlocks.{row_of}
use Rattle.orb_layout.specs.declared.status.StatusBlock.{StatusBlock}
use Rattle.orb_layout.specs.declared.status.StatusKind.{StatusKind}
use Rattle.orb_layout.specs.declared.status.StatusKind.TheVariants as kinds
use Rattle.orb_list.specs.Lists.{ListState, take_lists}
use Rattle.orb_list.specs.Tickets.{TicketParts}
use Rattle.orb_list.specs.declared.list.PresentList.{PresentList}
use Rattle.sbp_bus.specs.Packets.{judged_note}
use Rattle.sbp_initiator.specs.Effects.{Turn, told as tells_note}
use Rattle.sbp_initiator.specs.Histories.Drops.{drop_if, present_list as present_number}
use Rattle.sbp_initiator.specs.Histories.Marks.{finding_answers, finding_dead, finds_dead, has_dead_bit, known_if, read_purpose, takes_dead}
use Rattle.sbp_initiator.specs.Histories.Taking.{Brought, block_note, block_notes, brought, finding_drops, finding_note, nothing, status, taken_by, taken_of, unsolicited, waiting_at}
use Rattle.sbp_initiator.specs.Receiving.{expire_step, receive_step}
use Rattle.sbp_initiator.specs.States.{counts_for, ending_of, is_answered, is_list as is_present_list, is_unwritten}
use Rattle.sbp_initiator.specs.declared.purpose.Purpose.{Purpose}
use Rattle.sbp_initiator.specs.declared.state.InitiatorState.{InitiatorState}
use Rattle.sbp_journal.specs.Outgoings.{OutboxState, empty_outbox}
use Rattle.sbp_journal.specs.Run.{Moment, said}
use Rattle.sbp_journal.specs.declared.cause.Cause.{Cause}
use Rattle.sbp_journal.specs.declared.cause.Judged.{Judged}
use Rattle.sbp_journal.specs.declared.cause.Judged.TheVariants as judgements
use Rattle.sbp_journal.specs.declared.note.Note.{Note}
use Rattle.sbp_laws.specs.Hosts.{StateRead, host_at}
use Rattle.sbp_world.proofs.Common.{itself, least, untrue, and_first}
use Rattle.sbp_world.proofs.Hosts.PointerNotes.{Fit}
use Rattle.sbp_world.proofs.Hosts.Shown.{IsHeard, IsShown}
use Rattle.sbp_world.proofs.Pointers.Guarded.{Guarded, receive_got}
use Rattle.sbp_world.proofs.Wire.Kept.{and_false}
use Rattle.sbp_world.specs.Hosts.Calls.{behind}
use Rattle.sbp_world.specs.Hosts.Worlds.{IsHost}
use Rattle.turn_laws.proofs.HostMarks.{AllOf, or_none, marks_in, others_host, IfOf, Marks, all_both, begun_with, behind_both, dead_at, dropped, got_marks, is_of, late_marks, marks, marks_at, marks_behind, note_marks, own_marks, own_marks_behind, seen_marks, taken, told_marks, told_of_it}
use Rattle.sbp_world.proofs.Hosts.HostReads.{Reads, gone_by, is_gone}
use Rattle.turn_laws.proofs.HostTold.{IsTold, expire_told, receive_told, resets_keep, told_notes}
use Rattle.turn_laws.proofs.MarkAnswers.{dead_same, points_same, response_dead}
use Rattle.turn_laws.proofs.OwnCalls.{acted_own_marks, expired_marks, learned, received_marks, seen_own_marks}
use Rattle.turn_laws.proofs.ReadPairs.{AreZipped}
use Rattle.turn_laws.proofs.ReadsUnderWay.{IsPair, ended_by}
use Rattle.turn_laws.proofs.RequestKinds.{Kinds}
use Rattle.sbp_initiator.proofs.Histories.Effects.{HasMarks, list_drops}
use Rattle.sbp_initiator.specs.Histories.Ends.{OpEnd, drops, ops, own, state_ops, sticks}
use Rattle.sbp_initiator.specs.Seeing.{interrupted, reset_told, resets_told, see_step, seen_as}
use Rattle.sbp_initiator.specs.declared.purpose.Pointing.{Pointing}
use Rattle.sbp_initiator.specs.declared.purpose.Pointing.TheVariants as pointings
use Rattle.sbp_journal.specs.declared.operation.Operation.{Operation}
use Rattle.sbp_journal.specs.declared.operation.OpWord.{OpWord}
use Rattle.sbp_journal.specs.declared.operation.OpWord.TheVariants as words
use Rattle.sbp_journal.specs.declared.side.Side.{Side}
use Rattle.sbp_journal.specs.declared.side.Side.TheVariants as sides
use Rattle.sbp_world.proofs.Pointers.Showing.{judged_present}
use Rattle.sbp_world.proofs.Pointers.Walks.{is_drop_note}
use Rattle.sbp_world.specs.Hosts.Calling.{IsCalled}
use Rattle.sbp_initiator.specs.Acting.{IsAction, act_step}
use Rattle.sbp_initiator.specs.Refusals.{prepares}
use Rattle.sbp_journal.specs.declared.event.Action.{Action}
use Rattle.sbp_journal.specs.declared.event.Action.TheVariants as actions
use Rattle.sbp_laws.specs.Actions.{action_notes, link_notes, list_for, new_list, new_number}
use Rattle.sbp_laws.specs.Terms.{appends, lists}
use Rattle.sbp_world.proofs.Hosts.Telling.{action_law}
use Rattle.sbp_world.specs.Hosts.Fits.{AreRows, IfList, terms_at}
use Rattle.async_packet.specs.Labels.{LabelParts}
use Rattle.orb_list.specs.Table.{slot_in, waiting}
use Rattle.orb_list.proofs.Tied.{past_slots}
use Rattle.sbp_initiator.specs.declared.purpose.Ending.{Ending}
use Rattle.sbp_initiator.specs.declared.purpose.Ending.TheVariants as endings
use Rattle.sbp_initiator.specs.declared.purpose.Purpose.TheVariants as purposes
use Rattle.sbp_journal.specs.declared.note.Note.TheVariants as notes
use Rattle.sbp_laws.specs.Lists.{is_list, present_list}
use Rattle.sbp_world.proofs.Hosts.Statuses.Waits.{waits_so}
use Rattle.sbp_world.specs.Hosts.Rows.{present_in}

-- ---- what a delivery tells
-- the status that it takes marks the list
abbrev taken_dead : Finding Purpose → InitiatorState → Bool
taken_dead (of_request p) s = takes_dead (brought p s) s
taken_dead finding s = false

dead_split : (f : Finding Purpose) (s : InitiatorState) → finding_dead f s ≡ (response_dead f s || taken_dead f s)
dead_split (of_response p label purpose) s = or_none (read_purpose purpose (λ x. finds_dead x (ending_of p) s.lists.slots.present))
dead_split (of_request p) s = refl
dead_split of_generation s = refl
dead_split of_grammar s = refl
dead_split of_label s = refl
dead_split (of_again p rcode) s = refl

none_taken : (m : Marks) → m ≡ marks m.pointed (m.dead || false)
none_taken m = ap (λ b. marks m.pointed b) (or_none m.dead)

module _ (s : InitiatorState) where
  one_taken : (found : Option TicketParts) (kind : StatusKind) (lists : ListState) (m : Marks) → ((row_of kind).dead == 1) ≡ has_dead_bit kind
      → taken (taken_of found kind lists s.number) m ≡ marks m.pointed (m.dead || (is_some found && has_dead_bit kind))
  one_taken None kind lists m e = none_taken m
  one_taken (Some t) kind lists m e = ap (λ b. marks m.pointed (m.dead || b)) e

  abbrev waits_there : StatusBlock → Option TicketParts
  waits_there block = waiting_at s.lists.slots.slots (slot_of block.orb)

  kind_taken : (kind : StatusKind) (block : StatusBlock) (m : Marks) → taken (taken_by kind block s) m ≡ marks m.pointed (m.dead || (is_some (waits_there block) && has_dead_bit kind))
  kind_taken kinds.Good block m = one_taken (waits_there block) kinds.Good (take_lists s.lists block).1 m refl
  kind_taken (kinds.Check sense) block m = one_taken (waits_there block) (kinds.Check sense) (take_lists s.lists block).1 m refl
  kind_taken kinds.Dummy block m = one_taken (waits_there block) kinds.Dummy (take_lists s.lists block).1 m refl
  kind_taken kinds.Aborted block m = one_taken (waits_there block) kinds.Aborted (take_lists s.lists block).1 m refl
  kind_taken (kinds.Illegal meaning) block m = one_taken (waits_there block) (kinds.Illegal meaning) (take_lists s.lists block).1 m refl
  kind_taken kinds.Failed block m = one_taken (waits_there block) kinds.Failed (take_lists s.lists block).1 m refl
  kind_taken (kinds.Management code) block m = none_taken m ∙ ap (λ b. marks m.pointed (m.dead || b)) (sym (and_false (is_some (waits_there block))))

  brought_taken : (b : Brought) (m : Marks) → taken (block_note b s) m ≡ marks m.pointed (m.dead || takes_dead b s)
  brought_taken nothing m = none_taken m
  brought_taken unsolicited m = none_taken m
  brought_taken (status block) m = kind_taken block.kind block m

  found_taken : (f : Finding Purpose) (m : Marks) → taken (finding_note f s) m ≡ marks m.pointed (m.dead || taken_dead f s)
  found_taken (of_request p) m = brought_taken (brought p s) m
  found_taken (of_response p label purpose) m = none_taken m
  found_taken of_generation m = none_taken m
  found_taken of_grammar m = none_taken m
  found_taken of_label m = none_taken m
  found_taken (of_again p rcode) m = none_taken m

  -- it is a note of its own
  mine_taken : (found : Option TicketParts) (kind : StatusKind) (lists : ListState) → IfOf s.number (taken_of found kind lists s.number)
  mine_taken None kind lists = tt
  mine_taken (Some t) kind lists = itself s.number

  mine_kind : (kind : StatusKind) (block : StatusBlock) → IfOf s.number (taken_by kind block s)
  mine_kind (kinds.Management code) block = tt
  mine_kind kinds.Good block = mine_taken (waits_there block) kinds.Good (take_lists s.lists block).1
  mine_kind (kinds.Check sense) block = mine_taken (waits_there block) (kinds.Check sense) (take_lists s.lists block).1
  mine_kind kinds.Dummy block = mine_taken (waits_there block) kinds.Dummy (take_lists s.lists block).1
  mine_kind kinds.Aborted block = mine_taken (waits_there block) kinds.Aborted (take_lists s.lists block).1
  mine_kind (kinds.Illegal meaning) block = mine_taken (waits_there block) (kinds.Illegal meaning) (take_lists s.lists block).1
  mine_kind kinds.Failed block = mine_taken (waits_there block) kinds.Failed (take_lists s.lists block).1

  mine_brought : (b : Brought) → IfOf s.number (block_note b s)
  mine_brought nothing = tt
  mine_brought unsolicited = itself s.number
  mine_brought (status block) = mine_kind block.kind block

  pub mine_found : (f : Finding Purpose) → IfOf s.number (finding_note f s)
  mine_found (of_request p) = mine_brought (brought p s)
  mine_found (of_response p label purpose) = tt
  mine_found of_generation = tt
  mine_found of_grammar = tt
  mine_found of_label = tt
  mine_found (of_again p rcode) = tt

-- ---- behind what is told
module _ (now : List Moment) (i : ℕ) (s : InitiatorState) (number : s.number ≡ i) (first : Option Note) (drop : Option ℕ) (t : Turn) (k : IsTold s first drop t) (mine : IfOf s.number first) where
  abbrev pub own_notes : List Note
  own_notes = told_notes s.number first drop k.op k.state k.stuck

  pub own_told : AllOf i own_notes
  own_told = subst (λ n. AllOf n own_notes) number (told_of_it s.number first drop k.op k.state k.stuck mine)

  pub told_own : marks_at (behind t.0.sides now) i ≡ dropped drop (taken first (marks_at now i))
  told_own =
      ap (λ sides. marks_at (behind sides now) i) k.sides ∙ own_marks_behind own_notes now i own_told ∙ told_marks s.number first drop k.op k.state k.stuck (marks_at now i)

  pub told_others : (j : ℕ) → (j == i) ≡ false → marks_at (behind t.0.sides now) j ≡ marks_at now j
  told_others j e = ap (λ sides. marks_at (behind sides now) j) k.sides ∙ ap marks_in (others_host own_notes now i j own_told e)

-- by what it knew, and what it learned
kept_point : (a p : Bool) → (a || p) ≡ known_if false a p
kept_point true p = refl
kept_point false p = refl

kept_dead : (x t q : Bool) → ((q || x) || t) ≡ known_if false (x || t) q
kept_dead true t true = refl
kept_dead true t false = refl
kept_dead false true true = refl
kept_dead false true false = refl
kept_dead false false true = refl
kept_dead false false false = refl

kept_same : (c : Bool) (present : Option PresentList) (a x t p q : Bool) → dropped (drop_if c present) (marks (a || p) ((q || x) || t)) ≡ marks (known_if (c && is_some present) a p) (known_if (c && is_some present) (x || t) q)
kept_same true (Some list) a x t p q = refl
kept_same true None a x t p q = ap (λ b. marks b ((q || x) || t)) (kept_point a p) ∙ ap (λ b. marks (known_if false a p) b) (kept_dead x t q)
kept_same false present a x t p q = ap (λ b. marks b ((q || x) || t)) (kept_point a p) ∙ ap (λ b. marks (known_if false a p) b) (kept_dead x t q)

-- ---- a delivery
got_ignored : {A : Type 0} (j : Judged) → j ≡ judgements.Got → (cause : Cause) → j ≡ judgements.Ignored cause → A
got_ignored j e cause f = absurd (let no : judgements.Got ≡ judgements.Ignored cause = sym e ∙ f in cc)

module _ (ready : Bool) (serial generation : ℕ) (bytes : List ℕ) (past : List Moment) (i : ℕ) (s : InitiatorState) (heard : IsHeard past i serial generation bytes) (shown : IsShown past i s.target s.layer) (after_it : IsShown (said (judged_note serial (receive_step generation bytes empty_outbox s).0) ∷ past) i s.target (judging_step s.layer generation bytes).1) (h : Guarded ready past i s) (host : IsHost past i s) where
  abbrev judged : Judged
  judged = (receive_step generation bytes empty_outbox s).0

  abbrev finding : Finding Purpose
  finding = (judging_step s.layer generation bytes).0

  abbrev t : Turn
  t = (receive_step generation bytes empty_outbox s).1

  abbrev now : List Moment
  now = said (judged_note serial judged) ∷ past

  abbrev P : StateRead → ℕ → Type 0
  P one a = IsPair past i s one a

  tells : IsTold s (finding_note finding s) (drop_if (finding_drops finding s) s.lists.slots.present) t
  tells = receive_told ready i s h.pointed.cored.own.called generation bytes

  none_said : (f : Finding Purpose) → finding ≡ f → (cause : Cause) → judged ≡ judgements.Ignored cause → (finding_answers f s ≡ false) × (response_dead f s ≡ false)
  none_said (of_response p label purpose) e cause j = got_ignored judged (receive_got generation bytes p label purpose s e) cause j
  none_said (of_request p) e cause j = (refl, refl)
  none_said of_generation e cause j = (refl, refl)
  none_said of_grammar e cause j = (refl, refl)
  none_said of_label e cause j = (refl, refl)
  none_said (of_again p rcode) e cause j = (refl, refl)

  pub heard_others : (j : ℕ) → (j == i) ≡ false → marks_at (behind t.0.sides now) j ≡ marks_at now j
  heard_others = told_others now i s host.number (finding_note finding s) (drop_if (finding_drops finding s) s.lists.slots.present) t tells (mine_found s finding)

  module _ (fit : Fit past) (kinds : Kinds past i s.target s.layer) (are : judged ≡ judgements.Got → AreBytes heard.packet.bytes) (gone : (one : StateRead) (a : ℕ) → P one a → ended_by finding ≡ Some a → is_gone (gone_by judged past serial) one.serial ≡ true) (pairs : AreZipped P (Reads past i) s.states) (marked : marks_at past i ≡ own_marks s) where
    abbrev says : Marks → Marks
    says m = marks (finding_answers finding s || m.pointed) (m.dead || response_dead finding s)

    judged_marks : (j : Judged) → judged ≡ j → marks_at (said (judged_note serial j) ∷ past) i ≡ says (marks_at past i)
    judged_marks judgements.Got e =
        got_marks serial heard.packet past i heard.sent heard.to_is
        ∙ ap (λ b. marks (b || (host_at past i).pointed) ((host_at past i).marked_dead || dead_at past serial i)) (points_same ready serial generation bytes past i s heard shown after_it h fit kinds (are e) host.rows.fits.present e)
        ∙ ap (λ b. marks (finding_answers finding s || (host_at past i).pointed) ((host_at past i).marked_dead || b))
        (dead_same ready serial generation bytes past i s heard shown after_it h fit kinds (are e) host.rows.fits.present e (λ one a p f. ap (λ j. is_gone (gone_by j past serial) one.serial) (sym e) ∙ gone one a p f) pairs)
    judged_marks (judgements.Ignored cause) e =
        let none = none_said finding refl cause e in
        none_taken (marks_at past i) ∙ ap (λ b. marks (b || (host_at past i).pointed) ((host_at past i).marked_dead || false)) (sym none.0)
        ∙ ap (λ b. marks (finding_answers finding s || (host_at past i).pointed) ((host_at past i).marked_dead || b)) (sym none.1)

    pub heard_marked : marks_at (behind t.0.sides now) i ≡ own_marks t.1
    heard_marked =
        let known = own_marks s in
        let d = drop_if (finding_drops finding s) s.lists.slots.present in
        told_own now i s host.number (finding_note finding s) d t tells (mine_found s finding)
        ∙ ap (λ m. dropped d (taken (finding_note finding s) m)) (judged_marks judged refl ∙ ap says marked)
        ∙ ap (dropped d) (found_taken s finding (says known))
        ∙ kept_same (finding_drops finding s) s.lists.slots.present (finding_answers finding s) (response_dead finding s) (taken_dead finding s) known.pointed known.dead
        ∙ ap (λ b. marks (known_if (finding_drops finding s && is_some s.lists.slots.present) (finding_answers finding s) known.pointed) (known_if (finding_drops finding s && is_some s.lists.slots.present) b known.dead)) (sym (dead_split finding s))
        ∙ sym (received_marks ready i s h.pointed.cored.own.called generation bytes)

-- ---- a list that is marked dead is there
learnt : (lost dead old : Bool) → known_if lost dead old ≡ true → (lost ≡ false) × ((dead ≡ true) ⊎ (old ≡ true))
learnt true dead old e = untrue e
learnt false true old e = (refl, inl refl)
learnt false false old e = (refl, inr e)

abbrev pub IsLive : InitiatorState → Type 0
IsLive s = s.marks.is_dead ≡ true → is_some s.lists.slots.present ≡ true

some_in : (present : Option PresentList) → is_some (present_in present) ≡ is_some present
some_in None = refl
some_in (Some list) = refl

-- a note that drops none leaves one
keeps_note : (note : Note) (past : List Moment) (i : ℕ) → is_drop_note note ≡ false → is_some (present_list past i) ≡ true → is_some (present_list (said note ∷ past) i) ≡ true
keeps_note (notes.Append j n k cdb buffer) past i d e = by (nat_eq i j)
  where
    by : (b : Bool) → is_some (cond b (Some n) (present_list past i)) ≡ true
    by true = refl
    by false = e
keeps_note (notes.Drop j n) past i d e = untrue (sym d)
keeps_note _ past i d e = e

abbrev pub NoneDrop : List Note → Type 0
NoneDrop [] = Unit {0}
NoneDrop (note ∷ later) = (is_drop_note note ≡ false) × NoneDrop later

keeps_list : (ns : List Note) (past : List Moment) (i : ℕ) → NoneDrop ns → is_some (present_list past i) ≡ true → is_some (present_list (behind (own ns) past) i) ≡ true
keeps_list [] past i d e = e
keeps_list (note ∷ later) past i d e = keeps_list later (said note ∷ past) i d.1 (keeps_note note past i d.0 e)

none_both : (a b : List Note) → NoneDrop a → NoneDrop b → NoneDrop (a ++ b)
none_both [] b p q = q
none_both (note ∷ a) b p q = (p.0, none_both a b p.1 q)

-- so it is there by the slots
module _ (past now : List Moment) (i : ℕ) (s : InitiatorState) (host : IsHost past i s) (same : present_list now i ≡ present_list past i) (t : Turn) (ns : List Note) (sides : t.0.sides ≡ own ns) (later : present_list (behind t.0.sides now) i ≡ present_in t.1.lists.slots.present) (none : NoneDrop ns) where
  pub still_there : is_some s.lists.slots.present ≡ true → is_some t.1.lists.slots.present ≡ true
  still_there e =
      sym (ap is_some later ∙ some_in t.1.lists.slots.present) ∙ ap (λ told. is_some (present_list (behind told now) i)) sides
      ∙ keeps_list ns now i none (ap is_some (same ∙ host.rows.fits.present) ∙ some_in s.lists.slots.present ∙ e)

-- of what a delivery or a time-out tells, where it drops none
ops_drop : (number : ℕ) (op : Option OpEnd) → NoneDrop (ops number op)
ops_drop number None = tt
ops_drop number (Some end) = (refl, tt)

states_drop : (number : ℕ) (word : Option OpWord) → NoneDrop (state_ops number word)
states_drop number None = tt
states_drop number (Some word) = (refl, tt)

sticks_drop : (number : ℕ) (b : Bool) → NoneDrop (sticks number b)
sticks_drop number true = (refl, tt)
sticks_drop number false = tt

abbrev pub DropsNot : Option Note → Type 0
DropsNot None = Unit {0}
DropsNot (Some note) = is_drop_note note ≡ false

block_drop : (first : Option Note) → DropsNot first → NoneDrop (block_notes first)
block_drop None d = tt
block_drop (Some note) d = (d, tt)

pub told_drop : (number : ℕ) (first : Option Note) (op : Option OpEnd) (state : Option OpWord) (stuck : Bool) → DropsNot first → NoneDrop (told_notes number first None op state stuck)
told_drop number first op state stuck d =
    none_both (block_notes first) _ (block_drop first d) (none_both (ops number op) _ (ops_drop number op) (none_both (state_ops number state) (sticks number stuck) (states_drop number state) (sticks_drop number stuck)))

module _ (s : InitiatorState) where
  taken_drop : (found : Option TicketParts) (kind : StatusKind) (lists : ListState) → DropsNot (taken_of found kind lists s.number)
  taken_drop None kind lists = tt
  taken_drop (Some t) kind lists = refl

  kind_drop : (kind : StatusKind) (block : StatusBlock) → DropsNot (taken_by kind block s)
  kind_drop (kinds.Management code) block = tt
  kind_drop kinds.Good block = taken_drop (waits_there s block) kinds.Good (take_lists s.lists block).1
  kind_drop (kinds.Check sense) block = taken_drop (waits_there s block) (kinds.Check sense) (take_lists s.lists block).1
  kind_drop kinds.Dummy block = taken_drop (waits_there s block) kinds.Dummy (take_lists s.lists block).1
  kind_drop kinds.Aborted block = taken_drop (waits_there s block) kinds.Aborted (take_lists s.lists block).1
  kind_drop (kinds.Illegal meaning) block = taken_drop (waits_there s block) (kinds.Illegal meaning) (take_lists s.lists block).1
  kind_drop kinds.Failed block = taken_drop (waits_there s block) kinds.Failed (take_lists s.lists block).1

  brought_drop : (b : Brought) → DropsNot (block_note b s)
  brought_drop nothing = tt
  brought_drop unsolicited = refl
  brought_drop (status block) = kind_drop block.kind block

  found_drop : (f : Finding Purpose) → DropsNot (finding_note f s)
  found_drop (of_request p) = brought_drop (brought p s)
  found_drop (of_response p label purpose) = tt
  found_drop of_generation = tt
  found_drop of_grammar = tt
  found_drop of_label = tt
  found_drop (of_again p rcode) = tt

-- what a delivery says of a list that it is dead is said of the present one
module _ (past : List Moment) (i : ℕ) (s : InitiatorState) (host : IsHost past i s) where
  abbrev present : Option PresentList
  present = s.lists.slots.present

  counts_some : (list : Option ℕ) → counts_for present list ≡ true → is_some present ≡ true
  counts_some None e = untrue e
  counts_some (Some n) e = by present e
    where
      by : (p : Option PresentList) → is_present_list p n ≡ true → is_some p ≡ true
      by None f = untrue f
      by (Some list) f = refl

  purpose_live : (purpose : Purpose) (ending : Ending) → finds_dead purpose ending present ≡ true → is_some present ≡ true
  purpose_live (purposes.State act list) (endings.Complete value) e = counts_some list (and_first (counts_for present list) (value == 3) e)
  purpose_live (purposes.State act list) (endings.Refused rcode) e = untrue e
  purpose_live (purposes.State act list) endings.Expired e = untrue e
  purpose_live (purposes.Pointer list) ending e = untrue e
  purpose_live purposes.Doorbell ending e = untrue e
  purpose_live (purposes.AgentReset act) ending e = untrue e
  purpose_live (purposes.Enable act) ending e = untrue e
  purpose_live (purposes.Management act) ending e = untrue e
  purpose_live (purposes.Rom act) ending e = untrue e

  listed_some : (list : Option ℕ) (n : ℕ) → is_list list n ≡ true → is_some list ≡ true
  listed_some None n e = e
  listed_some (Some other) n e = refl

  waiting_live : (slot : ℕ) (t : TicketParts) → waiting (slot_in s.lists.slots.slots slot) ≡ Some t → is_some present ≡ true
  waiting_live slot t w =
      let so = waits_so past i s.lists.slots host.rows slot (past_slots s.lists.slots.slots slot t host.rows.fits.size w) t w in
      sym (some_in present) ∙ ap is_some (sym host.rows.fits.present) ∙ listed_some (present_list past i) t.list (and_first _ _ (and_first _ _ so))

  found_live : (slot : Option ℕ) → is_some (waiting_at s.lists.slots.slots slot) ≡ true → is_some present ≡ true
  found_live None e = untrue e
  found_live (Some slot) e = by (waiting (slot_in s.lists.slots.slots slot)) refl e
    where
      by : (found : Option TicketParts) → waiting (slot_in s.lists.slots.slots slot) ≡ found → is_some found ≡ true → is_some present ≡ true
      by None f g = untrue g
      by (Some t) f g = waiting_live slot t f

  brought_live : (b : Brought) → takes_dead b s ≡ true → is_some present ≡ true
  brought_live nothing e = untrue e
  brought_live unsolicited e = untrue e
  brought_live (status block) e = found_live (slot_of block.orb) (and_first _ _ e)

  finding_live : (f : Finding Purpose) → finding_dead f s ≡ true → is_some present ≡ true
  finding_live (of_response p label None) e = untrue e
  finding_live (of_response p label (Some purpose)) e = purpose_live purpose (ending_of p) e
  finding_live (of_request p) e = brought_live (brought p s) e
  finding_live of_generation e = untrue e
  finding_live of_grammar e = untrue e
  finding_live of_label e = untrue e
  finding_live (of_again p rcode) e = untrue e

  module _ (ready : Bool) (called : IsCalled ready i s) (live : IsLive s) where
    -- of a delivery
    module _ (serial generation : ℕ) (bytes : List ℕ) (later : IsHost (behind (receive_step generation bytes empty_outbox s).1.0.sides (said (judged_note serial (receive_step generation bytes empty_outbox s).0) ∷ past)) i (receive_step generation bytes empty_outbox s).1.1) where
      abbrev f : Finding Purpose
      f = (judging_step s.layer generation bytes).0

      abbrev heard_turn : Turn
      heard_turn = (receive_step generation bytes empty_outbox s).1

      -- one that is there and not lost is not dropped
      kept : (drops : Bool) → (drops && is_some present) ≡ false → is_some present ≡ true → drops ≡ false
      kept true e g = untrue (sym e ∙ g)
      kept false e g = refl

      pub heard_live : IsLive heard_turn.1
      heard_live e =
          let k = learnt _ _ _ (sym (ap (λ (m : Marks). m.dead) (received_marks ready i s called generation bytes)) ∙ e) in
          let there : is_some present ≡ true = either_live k.1 in
          let told = receive_told ready i s called generation bytes in
          let none : drop_if (finding_drops f s) present ≡ None = ap (λ b. drop_if b present) (kept (finding_drops f s) k.0 there) in
          still_there past _ i s host (judged_present serial _ past i) heard_turn (told_notes s.number (finding_note f s) None told.op told.state told.stuck)
          (told.sides ∙ ap (λ d. own (told_notes s.number (finding_note f s) d told.op told.state told.stuck)) none) later.rows.fits.present (told_drop s.number (finding_note f s) told.op told.state told.stuck (found_drop s f)) there
        where
          either_live : (finding_dead f s ≡ true) ⊎ (s.marks.is_dead ≡ true) → is_some present ≡ true
          either_live (inl d) = finding_live f d
          either_live (inr d) = live d

    -- of a time-out
    pub late_live : (serial : ℕ) (label : LabelParts) → IsHost (behind (expire_step label empty_outbox s).1.0.sides (said (notes.TimedOut serial) ∷ past)) i (expire_step label empty_outbox s).1.1 → IsLive (expire_step label empty_outbox s).1.1
    late_live serial label later e =
        let told = expire_told ready i s called label in
        still_there past (said (notes.TimedOut serial) ∷ past) i s host refl (expire_step label empty_outbox s).1 (told_notes s.number None None told.op told.state told.stuck) told.sides later.rows.fits.present
        (told_drop s.number None told.op told.state told.stuck tt) (live (sym (ap (λ (m : Marks). m.dead) (expired_marks ready i s called label)) ∙ e))

-- ---- a time-out
pub late_marked : (ready : Bool) (serial : ℕ) (label : LabelParts) (past : List Moment) (i : ℕ) (s : InitiatorState) → IsCalled ready i s → s.number ≡ i → marks_at past i ≡ own_marks s
    → marks_at (behind (expire_step label empty_outbox s).1.0.sides (said (notes.TimedOut serial) ∷ past)) i ≡ own_marks (expire_step label empty_outbox s).1.1
late_marked ready serial label past i s called number marked =
    told_own (said (notes.TimedOut serial) ∷ past) i s number None None (expire_step label empty_outbox s).1 (expire_told ready i s called label) tt
    ∙ late_marks serial past i ∙ marked ∙ sym (expired_marks ready i s called label)

pub late_others : (ready : Bool) (serial : ℕ) (label : LabelParts) (past : List Moment) (i : ℕ) (s : InitiatorState) → IsCalled ready i s → s.number ≡ i → (j : ℕ) → (j == i) ≡ false
    → marks_at (behind (expire_step label empty_outbox s).1.0.sides (said (notes.TimedOut serial) ∷ past)) j ≡ marks_at (said (notes.TimedOut serial) ∷ past) j
late_others ready serial label past i s called number =
    told_others (said (notes.TimedOut serial) ∷ past) i s number None None (expire_step label empty_outbox s).1 (expire_told ready i s called label) tt

-- ---- a sight
-- what it tells: notes of its own, with the drop of its list
pub record IsSeen (number : ℕ) (drop : Option ℕ) (o : OutboxState) : Type 0 where
  pub ns : List Note
  pub sides : o.sides ≡ own ns
  pub mine : AllOf number ns
  pub means : (m : Marks) → marks_behind ns m ≡ dropped drop m

own_more : (ns : List Note) (note : Note) → own (ns ++ note ∷ []) ≡ own ns ++ sides.Own note ∷ []
own_more [] note = refl
own_more (first ∷ ns) note = ap (λ later. sides.Own first ∷ later) (own_more ns note)

seen_more : (number : ℕ) (note : Note) (drop : Option ℕ) (o : OutboxState) → is_of number note ≡ true → ((m : Marks) → note_marks note m ≡ dropped drop m) → IsSeen number None o → IsSeen number drop (tells_note o note)
seen_more number note drop o mine means k = record {
  ns = k.ns ++ note ∷ [];
  sides = ap (λ x. x ++ sides.Own note ∷ []) k.sides ∙ sym (own_more k.ns note);
  mine = all_both number k.ns (note ∷ []) k.mine (mine, tt);
  means = λ m. behind_both k.ns (note ∷ []) m ∙ ap (note_marks note) (k.means m) ∙ means m;
}

-- an operation ends
reset_seen : (number : ℕ) (operation : Operation) (o : OutboxState) → IsSeen number None o → IsSeen number None (reset_told number operation o)
reset_seen number operation o k = seen_more number (notes.Op number operation words.Reset) None o (itself number) (λ m. refl) k

module _ (generation id target : ℕ) (s : InitiatorState) where
  abbrev seen_by : Bool → Turn
  seen_by b = seen_as (cond b (true, seen_in_generation s.layer generation id) (false, s.layer)) target empty_outbox s

  none_yet : IsSeen s.number None empty_outbox
  none_yet = record { ns = []; sides = refl; mine = tt; means = λ m. refl }

  drop_seen : (present : Option PresentList) (o : OutboxState) (told : List Side) → IsSeen s.number None o → told ≡ o.sides ++ own (drops s.number (present_number present)) → IsSeen s.number (present_number present) (record o { sides = told })
  drop_seen None o told k e = record { ns = k.ns; sides = e ∙ append-nil o.sides ∙ k.sides; mine = k.mine; means = k.means }
  drop_seen (Some list) o told k e =
      let x = seen_more s.number (notes.Drop s.number list.tail.list) (Some list.tail.list) o (itself s.number) (λ m. refl) k in
      record { ns = x.ns; sides = e ∙ x.sides; mine = x.mine; means = x.means }

  later_seen : IsSeen s.number (present_number s.lists.slots.present) (seen_by true).0
  later_seen =
      let u = record s { layer = seen_in_generation s.layer generation id } in
      let o = resets_told u.number u.operation u.states empty_outbox in
      let k = drop_seen s.lists.slots.present o (seen_by true).0.sides (resets_keep s.number (IsSeen s.number None) (reset_seen s.number) u.operation u.states empty_outbox none_yet) (list_drops o (interrupted u target)).sides in
      record { ns = k.ns; sides = k.sides; mine = k.mine; means = k.means }

  abbrev turn : Turn
  turn = see_step generation id target empty_outbox s

  pub see_told : nat_lt s.layer.generation generation ≡ true → IsSeen s.number (present_number s.lists.slots.present) turn.0
  unfolding see_step seeing_step
  see_told e = subst (λ b. IsSeen s.number (present_number s.lists.slots.present) (seen_by b).0) (sym e) later_seen

  -- where none is known of no list
  none_known : (present : Option PresentList) (m : Marks) → (present ≡ None → m ≡ marks false false) → dropped (present_number present) m ≡ marks false false
  none_known None m f = f refl
  none_known (Some list) m f = refl

  module _ (ready : Bool) (past : List Moment) (i : ℕ) (called : IsCalled ready i s) (number : s.number ≡ i) (has : HasMarks s.lists.slots.present s.marks.pointing) (live : IsLive s) where
    abbrev sight : List Moment
    sight = said (notes.Seen (suc i) generation) ∷ past

    known_none : s.lists.slots.present ≡ None → own_marks s ≡ marks false false
    known_none e = ap (λ b. marks b s.marks.is_dead) (not_answered s.marks.pointing (subst (λ p. HasMarks p s.marks.pointing) e has)) ∙ ap (λ b. marks false b) (not_dead s.marks.is_dead refl)
      where
        not_answered : (mark : Pointing) → is_unwritten mark ≡ true → is_answered mark ≡ false
        not_answered pointings.Unwritten f = refl
        not_answered pointings.Written f = refl
        not_answered pointings.Answered f = untrue f

        not_dead : (b : Bool) → s.marks.is_dead ≡ b → s.marks.is_dead ≡ false
        not_dead false f = f
        not_dead true f = untrue (ap is_some (sym e) ∙ live f)

    pub seen_others : nat_lt s.layer.generation generation ≡ true → (j : ℕ) → (j == i) ≡ false → marks_at (behind turn.0.sides sight) j ≡ marks_at sight j
    seen_others e j f = (let k = see_told e in ap (λ told. marks_at (behind told sight) j) k.sides ∙ ap marks_in (others_host k.ns sight i j (subst (λ n. AllOf n k.ns) number k.mine) f))

    pub seen_marked : nat_lt s.layer.generation generation ≡ true → marks_at past i ≡ own_marks s → marks_at (behind turn.0.sides sight) i ≡ own_marks turn.1
    seen_marked e marked =
        let k = see_told e in
        ap (λ told. marks_at (behind told sight) i) k.sides
        ∙ own_marks_behind k.ns sight i (subst (λ n. AllOf n k.ns) number k.mine)
        ∙ k.means (marks_at sight i)
        ∙ ap (dropped (present_number s.lists.slots.present)) (seen_marks (suc i) generation past i ∙ marked)
        ∙ none_known s.lists.slots.present (own_marks s) known_none
        ∙ sym (seen_own_marks ready i s called generation id target ∙ ap (λ b. learned ready i s called b false false) e)

-- ---- an action
link_marks : (i n k : ℕ) (m : Marks) → marks_behind (link_notes i n k ++ notes.Rung i n k ∷ []) m ≡ m
link_marks i n zero m = refl
link_marks i n (suc k) m = refl

-- it begins a list where it prepares an ORB and there is none
begins_new : (present : Option PresentList) (k : ℕ) (m : Marks) → (present ≡ None → k ≡ 0) → ((list : PresentList) → present ≡ Some list → k ≡ suc list.tail.number) → begun_with k m ≡ cond (not (is_some present)) (marks false false) m
begins_new None k m f g = ap (λ n. begun_with n m) (f refl)
begins_new (Some list) k m f g = ap (λ n. begun_with n m) (g list refl)

link_of : (i n k : ℕ) → AllOf i (link_notes i n k ++ notes.Rung i n k ∷ [])
link_of i n zero = (itself i, tt)
link_of i n (suc k) = (itself i, (itself i, (itself i, tt)))

acted_of : (action : Action) (past : List Moment) (i : ℕ) → AllOf i (action_notes action past i)
acted_of (actions.Put cmd) past i = (itself i, tt)
acted_of (actions.Append cmd) past i = (itself i, link_of i (new_list past i) (new_number past i))
acted_of actions.Low past i = (itself i, tt)
acted_of actions.Link past i = (itself i, tt)
acted_of actions.Ring past i = (itself i, tt)
acted_of (actions.Dummy k) past i = (itself i, tt)
acted_of _ past i = tt

link_drop : (i n k : ℕ) → NoneDrop (link_notes i n k ++ notes.Rung i n k ∷ [])
link_drop i n zero = (refl, tt)
link_drop i n (suc k) = (refl, (refl, (refl, tt)))

acted_drop : (action : Action) (past : List Moment) (i : ℕ) → NoneDrop (action_notes action past i)
acted_drop (actions.Put cmd) past i = (refl, tt)
acted_drop (actions.Append cmd) past i = (refl, link_drop i (new_list past i) (new_number past i))
acted_drop actions.Low past i = (refl, tt)
acted_drop actions.Link past i = (refl, tt)
acted_drop actions.Ring past i = (refl, tt)
acted_drop (actions.Dummy k) past i = (refl, tt)
acted_drop _ past i = tt

module _ (ready : Bool) (action : Action) (past : List Moment) (i : ℕ) (s : InitiatorState) (fit : IsAction action) (done : (act_step action empty_outbox s).0 ≡ None) (host : IsHost past i s) (called : IsCalled ready i s) where
  abbrev acted_turn : Turn
  acted_turn = (act_step action empty_outbox s).1

  pub acted_sides : acted_turn.0.sides ≡ own (action_notes action past i)
  acted_sides =
      action_law.notes past s action empty_outbox (subst (λ j. AreRows past j s.lists.slots) (sym host.number) host.rows) done ∙ ap (λ j. own (action_notes action past j)) host.number

  abbrev begins_one : Bool
  begins_one = prepares action && not (is_some s.lists.slots.present)

  number_new : s.lists.slots.present ≡ None → new_number past i ≡ 0
  number_new e =
      ap (λ p. appends past i (list_for past i p)) (host.rows.fits.present ∙ ap present_in e)
      ∙ host.rows.fits.to_come.appended (lists past i) (least _ _ host.rows.fits.begun)

  number_next : (list : PresentList) → s.lists.slots.present ≡ Some list → new_number past i ≡ suc list.tail.number
  number_next list e =
      ap (λ p. appends past i (list_for past i p)) (host.rows.fits.present ∙ ap present_in e)
      ∙ (subst (IfList (terms_at past i) s.lists.slots.slots s.lists.slots.lists) e host.rows.fits.list).appended

  notes_mean : (m : Marks) → marks_behind (action_notes action past i) m ≡ cond begins_one (marks false false) m
  notes_mean m = by action
    where
      one : begun_with (new_number past i) m ≡ cond (not (is_some s.lists.slots.present)) (marks false false) m
      one = begins_new s.lists.slots.present (new_number past i) m number_new number_next

      by : (a : Action) → marks_behind (action_notes a past i) m ≡ cond (prepares a && not (is_some s.lists.slots.present)) (marks false false) m
      by (actions.Put cmd) = one
      by (actions.Append cmd) = link_marks i (new_list past i) (new_number past i) (begun_with (new_number past i) m) ∙ one
      by actions.Low = refl
      by actions.Link = refl
      by actions.Ring = refl
      by (actions.Dummy k) = refl
      by actions.Rom = refl
      by (actions.Login unit reconnect exclusive password) = refl
      by (actions.Query unit) = refl
      by actions.Reconnect = refl
      by actions.Logout = refl
      by (actions.Abort k) = refl
      by actions.AbortSet = refl
      by actions.UnitReset = refl
      by actions.TargetReset = refl
      by actions.AgentReset = refl
      by actions.State = refl
      by actions.Enable = refl

  learned_by : (b : Bool) → cond b (marks false false) (own_marks s) ≡ learned ready i s called b false false
  learned_by true = refl
  learned_by false = refl

  pub acted_marked : marks_at past i ≡ own_marks s → marks_at (behind acted_turn.0.sides past) i ≡ own_marks acted_turn.1
  acted_marked marked =
      ap (λ told. marks_at (behind told past) i) acted_sides ∙ own_marks_behind (action_notes action past i) past i (acted_of action past i) ∙ notes_mean (marks_at past i)
      ∙ ap (λ m. cond begins_one (marks false false) m) marked ∙ learned_by begins_one ∙ sym (acted_own_marks ready i s called action fit done)

  pub acted_others : (j : ℕ) → (j == i) ≡ false → marks_at (behind acted_turn.0.sides past) j ≡ marks_at past j
  acted_others j e = ap (λ told. marks_at (behind told past) j) acted_sides ∙ ap marks_in (others_host (action_notes action past i) past i j (acted_of action past i) e)

  -- where no ORB_POINTER was answered, none is then
  pub acted_unanswered : marks_at past i ≡ own_marks s → is_answered s.marks.pointing ≡ false → (host_at (behind acted_turn.0.sides past) i).pointed ≡ false
  acted_unanswered marked e =
      ap (λ (m : Marks). m.pointed) (acted_marked marked ∙ acted_own_marks ready i s called action fit done) ∙ ap (known_if begins_one false) e ∙ none begins_one
    where
      none : (b : Bool) → known_if b false false ≡ false
      none true = refl
      none false = refl

  pub acted_live : IsLive s → present_list (behind acted_turn.0.sides past) i ≡ present_in acted_turn.1.lists.slots.present → IsLive acted_turn.1
  acted_live live later e =
      let k = learnt _ _ _ (sym (ap (λ (m : Marks). m.dead) (acted_own_marks ready i s called action fit done)) ∙ e) in
      still_there past past i s host refl acted_turn (action_notes action past i) acted_sides later (acted_drop action past i) (live (old k.1))
    where
      old : (false ≡ true) ⊎ (s.marks.is_dead ≡ true) → s.marks.is_dead ≡ true
      old (inl f) = untrue f
      old (inr f) = f
