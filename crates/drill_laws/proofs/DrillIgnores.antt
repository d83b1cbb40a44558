-- What a packet that is ignored in a drill brings: the target ignores no ring but as a repeat, whose answer was complete.
use Rattle.std.proofs.Common.{◌≡◌, ◌∙◌, refl, sym, ap, subst, ℕ, zero, suc, ◌^◌, ◌<◌, ◌&&◌, ◌||◌, not, is_some, Bool, true, false, List, [], ◌∷◌, append-nil, Option, Some, None, Result, Ok, Err, arith}
use Rattle.std.specs.List.{AllByRecursion}
use Rattle.async_packet.specs.declared.fault.PacketFault.{PacketFault}
use Rattle.async_packet.specs.Packet.{Packet, lock, lock_response, read_block, read_block_response, read_quadlet, read_quadlet_response, write_block, write_quadlet, write_response}
use Rattle.async_packet.specs.Reading.{reading}
use Rattle.label_table.specs.Judging.{Row, by_again, by_generation, by_grammar, by_label, by_request, by_response, row_of}
use Rattle.rbc_disk.specs.Disk.{Disk}
use Rattle.sbp_journal.specs.Addresses.{Access}
use Rattle.sbp_journal.specs.Rows.{Judging, RequestFacts, first_or, ignored_as, judging_of, serving, telling}
use Rattle.sbp_journal.specs.Run.{Moment, said}
use Rattle.sbp_journal.specs.Transactions.{Kind, Part, Sending, Transaction, asked_as, asked_by, between, is_to, is_to_by, no_packet, part_by, part_of, request, response}
use Rattle.sbp_journal.specs.Wire.{Owed, Terms, arrives, ignores, ignores_that, is_news, judges, judges_if, terms}
use Rattle.sbp_journal.specs.declared.cause.Cause.{Cause}
use Rattle.sbp_journal.specs.declared.cause.Cause.TheVariants as causes
use Rattle.sbp_journal.specs.declared.note.Note.{Note}
use Rattle.sbp_journal.specs.declared.note.Note.TheVariants as notes
use Rattle.sbp_laws.specs.Hosts.{host_at}
use Rattle.sbp_laws.specs.JudgementLaw.{Judges, Verdict, answer_packet, by_facts, by_judging, by_row, facts_at, facts_of, given_by, ignored_rest, is_response, request_facts, verdict_of, verdict_on}
use Rattle.sbp_laws.specs.Packets.{access_in_bytes, id_for, id_of, packet_in}
use Rattle.sbp_laws.specs.Targets.{Target, over, target_at}
use Rattle.sbp_laws.specs.Turns.{Turn, sends_of, turn}
use Rattle.drill_laws.proofs.DrillPackets.{request_asks}
use Rattle.drill_laws.proofs.DrillRingReplies.{IsRingOf, ring_served}
use Rattle.drill_laws.proofs.DrillServes.{IsSentBy, Serves, asks_none, rung}
use Rattle.drill_laws.proofs.DrillArrives.{sender_of}
use Rattle.drill_laws.proofs.DrillServed.{AnswersDue, AnswersWell, IsFree, host_answer, id_small, none_due, packet_of, target_answer}
use Rattle.drill_laws.proofs.DrillTable.{over_table}
use Rattle.drill_laws.proofs.DrillWire.{Young}

-- ---- a packet is ignored
abbrev is_asking : Row → Bool
is_asking by_again = true
is_asking by_request = true
is_asking row = false

asking_row : (a b c d e : Bool) → is_asking (row_of (record { is_current = a; is_for_node = b; is_response = c; is_awaited = d; is_repeated = e })) ≡ true → (b ≡ true) × (c ≡ false)
asking_row false b c d e g = absurd (cc g)
asking_row true false c d e g = absurd (cc g)
asking_row true true true false e g = absurd (cc g)
asking_row true true true true e g = absurd (cc g)
asking_row true true false d e g = (refl, refl)

record AsksAs (bytes : List ℕ) : Type 0 where
  label : ℕ
  kind : Kind
  part : part_of bytes ≡ request label kind

no_part : (bytes : List ℕ) (id : ℕ) → part_of bytes ≡ no_packet → is_to bytes id ≡ false
unfolding part_of is_to
no_part bytes id e = by_reading (reading bytes) e
  where
    by_reading : (r : Result Packet PacketFault) → part_by r ≡ no_packet → is_to_by r id ≡ false
    by_reading (Err fault) e = refl
    by_reading (Ok (write_quadlet header offset value)) e = absurd (cc e)
    by_reading (Ok (write_block header offset payload)) e = absurd (cc e)
    by_reading (Ok (write_response header rcode)) e = absurd (cc e)
    by_reading (Ok (read_quadlet header offset)) e = absurd (cc e)
    by_reading (Ok (read_block header offset count)) e = absurd (cc e)
    by_reading (Ok (read_quadlet_response header rcode value)) e = absurd (cc e)
    by_reading (Ok (read_block_response header rcode payload)) e = absurd (cc e)
    by_reading (Ok (lock header offset extended payload)) e = absurd (cc e)
    by_reading (Ok (lock_response header rcode extended payload)) e = absurd (cc e)

part_asks : (bytes : List ℕ) (id : ℕ) → is_to bytes id ≡ true → is_response (part_of bytes) ≡ false → AsksAs bytes
part_asks bytes id to none = by (part_of bytes) refl none
  where
    by : (part : Part) → part_of bytes ≡ part → is_response part ≡ false → AsksAs bytes
    by (request label kind) e f = record { label = label; kind = kind; part = e }
    by (response label kind) e f = absurd (cc f)
    by no_packet e f = absurd (let no : true ≡ false = sym to ∙ no_part bytes id e in cc no)

-- causes for which a request is judged
abbrev IsJudged : Cause → Type 0
IsJudged causes.Generation = ⊥
IsJudged causes.Label = ⊥
IsJudged cause = Unit {0}

judged_cause : (facts : RequestFacts) (cause : Cause) (rcode : ℕ) → judging_of facts ≡ ignored_as cause rcode → IsJudged cause
judged_cause f cause rcode e = by (f.to_initiator && not f.reads_rom && not f.of_target) (f.of_other_login || f.to_closed_fifo) (f.is_status && f.is_unsolicited) (f.is_status && not f.is_read) (f.is_status && not f.is_awaited) e
  where
    by : (a b c d e : Bool) → first_or serving ((a, ignored_as causes.Source 7) ∷ (b, ignored_as causes.Login 7) ∷ (c, telling) ∷ (d, ignored_as causes.Grammar 5) ∷ (e, ignored_as causes.Slot 0) ∷ []) ≡ ignored_as cause rcode → IsJudged cause
    by true b c d e g = subst IsJudged (let is : causes.Source ≡ cause = cc g in is) tt
    by false true c d e g = subst IsJudged (let is : causes.Login ≡ cause = cc g in is) tt
    by false false true d e g = absurd (let no : telling ≡ ignored_as cause rcode = g in cc no)
    by false false false true e g = subst IsJudged (let is : causes.Grammar ≡ cause = cc g in is) tt
    by false false false false true g = subst IsJudged (let is : causes.Slot ≡ cause = cc g in is) tt
    by false false false false false g = absurd (let no : serving ≡ ignored_as cause rcode = g in cc no)

judges_some : (v : Option Transaction) (cause : Option Cause) (s : ℕ) (q : Sending) (t : Terms) → is_some v ≡ true → is_some (judges v cause s q t).owes ≡ true
judges_some None cause s q t e = absurd (cc e)
judges_some (Some v) cause s q t e = refl

ignores_some : (cause : Cause) (s : ℕ) (q : Sending) (t : Terms) → IsJudged cause → is_to q.bytes (t.ids q.generation q.to) ≡ true → is_some (asked_by q) ≡ true → is_some (ignores cause s q t).owes ≡ true
ignores_some causes.Generation s q t j to e = absurd j
ignores_some causes.Label s q t j to e = absurd j
ignores_some causes.Grammar s q t j to e = ap (λ b. is_some (judges_if b (asked_by q) s q (is_news s t)).owes) to ∙ judges_some (asked_by q) _ s q _ e
ignores_some causes.Again s q t j to e = judges_some (asked_by q) _ s q _ e
ignores_some causes.Source s q t j to e = judges_some (asked_by q) _ s q _ e
ignores_some causes.Login s q t j to e = judges_some (asked_by q) _ s q _ e
ignores_some causes.Slot s q t j to e = judges_some (asked_by q) _ s q _ e

well_due : (owes : Option Owed) (rest : List Note) → is_some owes ≡ true → AnswersWell rest → AnswersDue owes rest
well_due None rest e w = absurd (cc e)
well_due (Some owed) rest e w = w

pub asked_is : (q : Sending) (label : ℕ) (kind : Kind) → part_of q.bytes ≡ request label kind → asked_by q ≡ Some (between q q.from q.to label)
unfolding asked_by
asked_is q label kind e = ap (λ part. asked_as part q) e

free_answer : (t : Terms) (found : Option Sending) (rcode : Option ℕ) → AllByRecursion IsFree (ignored_rest t found rcode)
free_answer t None rcode = tt
free_answer t (Some q) None = tt
free_answer t (Some q) (Some rcode) = by (packet_in (Some q))
  where
    by : (packet : Option Packet) → AllByRecursion IsFree (answer_packet t q rcode [] packet)
    by None = tt
    by (Some packet) = (tt, tt)

module _ (start : List Disk) (past : List Moment) (s : ℕ) (cause : Cause) (rest : List Note) (q : Sending) (is : (terms past).sent s ≡ Some q) (h : Serves start past) (y : Young (terms past)) (laws : Judges start (turn past (said (notes.Ignored s cause)) rest)) where
  abbrev wire' : Terms
  wire' = terms past

  abbrev there : Turn
  there = turn past (said (notes.Ignored s cause)) rest

  abbrev target' : Target
  target' = over (target_at start past)

  abbrev now : Option Owed
  now = (terms (said (notes.Ignored s cause) ∷ past)).owes

  abbrev at_row : Row → Verdict
  at_row row = by_row row s wire' q (facts_at start past target' wire' q (access_in_bytes q.bytes))

  verdict_is : verdict_of start there s ≡ at_row (row_of (facts_of wire' q))
  verdict_is = ap (verdict_on start there s) is

  -- it asks for something
  asks_here : is_asking (row_of (facts_of wire' q)) ≡ true → AsksAs q.bytes
  asks_here e = let both = asking_row _ _ _ _ _ e in part_asks q.bytes (id_of wire' q.to) both.0 both.1

  owes_here : is_asking (row_of (facts_of wire' q)) ≡ true → IsJudged cause → is_some now ≡ true
  owes_here e j =
      let to : is_to q.bytes (id_of wire' q.to) ≡ true = (asking_row _ _ _ _ _ e).0 in
      let same : wire'.ids q.generation q.to ≡ id_of wire' q.to = y.ids q.generation q.to ∙ sym (y.ids (wire'.generation q.to) q.to) in
      let a = asks_here e in
      ap (λ f. is_some (ignores_that f cause s wire').owes) is ∙ ignores_some cause s q (arrives s wire') j (ap (is_to q.bytes) same ∙ to) (ap is_some (asked_is q a.label a.kind a.part))

  some_packet : AsksAs q.bytes → is_some (packet_in (Some q)) ≡ true
  some_packet a = by (access_in_bytes q.bytes) refl
    where
      by : (found : Option Access) → access_in_bytes q.bytes ≡ found → is_some (packet_in (Some q)) ≡ true
      by None e = absurd (request_asks q.bytes a.label a.kind a.part e)
      by (Some access) e = packet_of q.bytes access e

  -- what is answered, if it is complete at the target
  answers_so : (rcode : ℕ) → AsksAs q.bytes → (q.to ≡ 0 → rcode ≡ 0) → rest ≡ answer_packet wire' q rcode [] (packet_in (Some q)) → AnswersWell rest
  answers_so rcode a zeros e = subst AnswersWell (sym e) (by q.to refl)
    where
      by : (to : ℕ) → q.to ≡ to → AnswersWell (answer_packet wire' q rcode [] (packet_in (Some q)))
      by zero to =
          subst AnswersWell (append-nil (answer_packet wire' q rcode [] (packet_in (Some q))))
          (target_answer wire' q rcode [] (packet_in (Some q)) [] (zeros to) (some_packet a) (subst (λ n. id_of wire' n < 2 ^ 16) (sym to) (id_small wire' 0 y (omega arith))) tt)
      by (suc i) to = host_answer wire' q rcode [] (packet_in (Some q)) (λ z. (let no : suc i ≡ 0 = sym to ∙ z in omega (arith, no)))

  -- the target ignores no ring
  never_there : (access : Access) (c : Cause) (rcode : ℕ) → access_in_bytes q.bytes ≡ Some access → judging_of (request_facts start past target' wire' q.from q.to access) ≡ ignored_as c rcode → q.to ≡ 0 → rcode ≡ 0
  never_there access c rcode found e to = sender_of start s past q is h to (rcode ≡ 0) by
    where
      by : (i : ℕ) → q.from ≡ suc i → IsSentBy past i s q → rcode ≡ 0
      by i from (asks_none none) = absurd (let no : None ≡ Some access = sym none ∙ found in cc no)
      by i from (rung small back other there ring) =
          let one : Some other ≡ Some access = sym there ∙ found in
          let same : other ≡ access = cc one in
          let served : judging_of (request_facts start past target' wire' (suc i) 0 access) ≡ serving
          = ring_served i (id_for wire' 0 (suc i)) target' access small (over_table (target_at start past) ∙ h.table) (y.ids (wire'.generation 0) (suc i)) (subst (λ a. IsRingOf i a ((host_at past i).pointer ≡ Some s)) same ring) in
          let no : serving ≡ ignored_as c rcode = sym served ∙ ap (λ n. judging_of (request_facts start past target' wire' n 0 access)) (sym from) ∙ ap (λ n. judging_of (request_facts start past target' wire' q.from n access)) (sym to) ∙ e in
          absurd (cc no)

  -- it is due where this verdict was given
  abbrev IsDueBy : Verdict → Type 0
  IsDueBy v = v.note ≡ notes.Ignored s cause → rest ≡ ignored_rest wire' (Some q) v.rcode → AnswersDue now rest

  by_judged : (access : Access) (j : Judging) → is_asking (row_of (facts_of wire' q)) ≡ true → access_in_bytes q.bytes ≡ Some access → judging_of (request_facts start past target' wire' q.from q.to access) ≡ j → IsDueBy (by_judging s j)
  by_judged access (ignored_as c rcode) asking found e n r =
      let same : c ≡ cause = (let both : notes.Ignored s c ≡ notes.Ignored s cause = n in cc both) in
      well_due now rest (owes_here asking (subst IsJudged same (judged_cause (request_facts start past target' wire' q.from q.to access) c rcode e))) (answers_so rcode (asks_here asking) (never_there access c rcode found e) r)
  by_judged access telling asking found e n r = absurd (let no : notes.Got s ≡ notes.Ignored s cause = n in cc no)
  by_judged access serving asking found e n r = absurd (let no : notes.Got s ≡ notes.Ignored s cause = n in cc no)

  by_found : (found : Option Access) → is_asking (row_of (facts_of wire' q)) ≡ true → access_in_bytes q.bytes ≡ found → IsDueBy (by_facts s (facts_at start past target' wire' q found))
  by_found None asking e n r = absurd (let no : notes.Got s ≡ notes.Ignored s cause = n in cc no)
  by_found (Some access) asking e n r = by_judged access (judging_of (request_facts start past target' wire' q.from q.to access)) asking e refl n r

  by_rows : (row : Row) → row_of (facts_of wire' q) ≡ row → IsDueBy (at_row row)
  by_rows by_generation e n r = none_due now rest (ap sends_of r)
  by_rows by_grammar e n r = none_due now rest (ap sends_of r)
  by_rows by_label e n r = none_due now rest (ap sends_of r)
  by_rows by_response e n r = absurd (let no : notes.Got s ≡ notes.Ignored s cause = n in cc no)
  by_rows by_again e n r =
      let same : causes.Again ≡ cause = (let both : notes.Ignored s causes.Again ≡ notes.Ignored s cause = n in cc both) in
      let asking : is_asking (row_of (facts_of wire' q)) ≡ true = ap is_asking e in
      let a = asks_here asking in
      well_due now rest (owes_here asking (subst IsJudged same tt))
      (answers_so (given_by wire' (asked_by q)) a (λ to. ap (given_by wire') (asked_is q a.label a.kind a.part) ∙ h.wired.given (between q q.from q.to a.label) to) r)
  by_rows by_request e n r = by_found (access_in_bytes q.bytes) (ap is_asking e) refl n r

  pub ignored_answers : AnswersDue now rest
  ignored_answers =
      by_rows (row_of (facts_of wire' q)) refl (sym (ap (λ (v : Verdict). v.note) verdict_is) ∙ laws.0)
      (laws.1 ∙ ap (λ f. ignored_rest wire' f (verdict_of start there s).rcode) is ∙ ap (λ (v : Verdict). ignored_rest wire' (Some q) v.rcode) verdict_is)

  pub ignored_free : AllByRecursion IsFree rest
  ignored_free = subst (AllByRecursion IsFree) (sym laws.1) (free_answer wire' (wire'.sent s) (verdict_of start there s).rcode)
