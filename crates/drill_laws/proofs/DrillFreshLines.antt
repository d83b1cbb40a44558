-- A line of a drill that appends rings with a request that is new under each label (IEEE 1394-1995, transaction layer): what its initiator sent before is old, and the initiators that the line is not of stay.
use Rattle.std.proofs.Common.{◌≡◌, ◌∙◌, inl, refl, sym, ap, subst, ℕ, zero, suc, ◌+◌, ◌^◌, ◌<◌, ◌≤◌, ◌==◌, nat_eq, Bool, true, false, cond, List, [], ◌∷◌, ◌++◌, append-nil, append_assoc, drop, map, reverse, Option, Some, None, arith}
use Rattle.std.proofs.lemmas.Bool.Decides.{nat_tests}
use Rattle.std.proofs.lemmas.List.{reverse-append}
use Rattle.async_packet.specs.Canon.{canon}
use Rattle.async_packet.specs.declared.packet.Header.{Header}
use Rattle.bus_transactions.proofs.Facts.{nat_same}
use Rattle.label_table.specs.Bodies.{header_to, request_with}
use Rattle.label_table.specs.Requests.{label_of}
use Rattle.rbc_disk.specs.Disk.{Disk}
use Rattle.sbp_base.specs.Update.{upd2}
use Rattle.sbp_journal.specs.Run.{Moment, asked, said}
use Rattle.sbp_journal.specs.Wire.{terms}
use Rattle.sbp_journal.specs.declared.event.Cmd.{Cmd}
use Rattle.sbp_journal.specs.declared.event.Event.{Event}
use Rattle.sbp_journal.specs.declared.event.Event.TheVariants as events
use Rattle.sbp_journal.specs.declared.event.Action.TheVariants as actions
use Rattle.sbp_journal.specs.declared.note.Note.{Note}
use Rattle.sbp_journal.specs.declared.note.Note.TheVariants as notes
use Rattle.sbp_laws.specs.ActionLaw.{Acts}
use Rattle.sbp_laws.specs.Actions.{action_body, append_notes, list_for, new_list, new_number, pointer_for, refusal_at, ring_body}
use Rattle.sbp_laws.specs.Agents.{requests_to}
use Rattle.sbp_laws.specs.Hosts.{host_at, list_begins}
use Rattle.sbp_laws.specs.Lists.{present_list}
use Rattle.sbp_laws.specs.Packets.{id_for, id_of}
use Rattle.sbp_laws.specs.SentRequests.{ArePackets, RequestsLaw, before_requests, unless_refused}
use Rattle.sbp_laws.specs.Terms.{appends}
use Rattle.sbp_laws.specs.Turns.{effects_of, event_of, sends_of, turn}
use Rattle.drill_laws.proofs.DrillAir.{onto}
use Rattle.drill_laws.proofs.DrillLabels.{own}
use Rattle.drill_laws.proofs.DrillLast.{SameRing, Stays, older, plain_ring, ring_value, same_ring, stays_then, value}
use Rattle.drill_laws.proofs.DrillRung.{behind, behind-append, behind_latest}
use Rattle.drill_laws.proofs.DrillFresh.{Fresh, fresh_stays, other_sent, own_fresh, pointer_is, rings_on}

-- ---- the notes before it
module _ (past : List Moment) (line j : ℕ) (cmd : Cmd) (n : ℕ) where
  abbrev there : List Moment
  there = asked line (events.Act j (actions.Append cmd)) ∷ past

  record Mid (now : List Moment) : Type 0 where
    rings : SameRing (host_at past j) (host_at now j)
    last : (terms now).last ≡ (terms past).last
    present : present_list now j ≡ Some n
    some : 0 < appends now j n
    event : event_of now ≡ Some (events.Act j (actions.Append cmd))
    honest : (terms now).injected ≡ (terms past).injected

  here : (f : ℕ → ℕ → ℕ) (v : ℕ) → 0 < v → 0 < upd2 f j n v j n
  here f v some =
      let is : upd2 f j n v j n ≡ v = ap (λ b. cond b (cond (nat_eq n n) v (f j n)) (f j n)) (nat_same j) ∙ ap (λ b. cond b v (f j n)) (nat_same n) in
      omega (arith, is, some)

  begins_ring : (b : Bool) → (host_at past j).pointer ≡ None → SameRing (host_at past j) (cond b (list_begins zero (host_at past j)) (host_at past j))
  begins_ring true none = record { pointer = sym none; running = refl }
  begins_ring false none = same_ring (host_at past j)

  goes_ring : (b : Bool) (k : ℕ) → SameRing (host_at past j) (cond b (list_begins (suc k) (host_at past j)) (host_at past j))
  goes_ring true k = same_ring (host_at past j)
  goes_ring false k = same_ring (host_at past j)

  mid_is : (k : ℕ) → (k ≡ 0 → (host_at past j).pointer ≡ None) → Mid (behind there (append_notes j n k cmd))
  mid_is zero none = record {
    rings = begins_ring (j == j) (none refl);
    last = refl;
    present = ap (λ b. cond b (Some n) (present_list past j)) (nat_same j);
    some = here (appends past) (suc (appends past j n)) (omega arith);
    event = refl;
    honest = refl;
  }
  mid_is (suc k) none = record {
    rings = goes_ring (j == j) k;
    last = refl;
    present = ap (λ b. cond b (Some n) (present_list past j)) (nat_same j);
    some = here (appends past) (suc (appends past j n)) (omega arith);
    event = refl;
    honest = refl;
  }

  mid_fresh : (now : List Moment) → Mid now → Fresh past j → Fresh now j
  mid_fresh now m f = record {
    unset = λ e. absurd (let no : Some n ≡ None = sym m.present ∙ e in cc no);
    begun = λ k e. (let same : n ≡ k = (let is : Some n ≡ Some k = sym m.present ∙ e in cc is) in subst (λ x. 0 < appends now j x) same m.some);
    old = λ number bytes e. older (host_at past j).pointer (host_at now j).pointer (host_at past j).running (host_at now j).running (λ z. sym m.rings.pointer ∙ z) (let same = m.rings.running in omega (arith, same)) bytes (f.old number bytes (sym (ap (λ g. g (own j number)) m.last) ∙ e));
  }

  module _ (i : ℕ) (apart : i ≡ j → ⊥) where
    apart_here : (b : Bool) → nat_eq i j ≡ b → b ≡ false
    apart_here true e = absurd (apart (grind (arith, nat_tests)))
    apart_here false e = refl

    apart_there : (b : Bool) → nat_eq j i ≡ b → b ≡ false
    apart_there true e = absurd (apart (grind (arith, nat_tests)))
    apart_there false e = refl

    other_mid : (k : ℕ) → Stays past (behind there (append_notes j n k cmd)) i
    other_mid zero = record {
      present = ap (λ b. cond b (Some n) (present_list past i)) (apart_here (nat_eq i j) refl);
      appended = λ m. ap (λ b. cond b (cond (nat_eq m n) (suc (appends past j n)) (appends past i m)) (appends past i m)) (apart_here (nat_eq i j) refl);
      ring = subst (λ b. SameRing (host_at past i) (cond b (list_begins zero (host_at past i)) (host_at past i))) (sym (apart_there (nat_eq j i) refl)) (same_ring (host_at past i));
      last = λ number bytes e. inl e;
    }
    other_mid (suc k) = record {
      present = ap (λ b. cond b (Some n) (present_list past i)) (apart_here (nat_eq i j) refl);
      appended = λ m. ap (λ b. cond b (cond (nat_eq m n) (suc (appends past j n)) (appends past i m)) (appends past i m)) (apart_here (nat_eq i j) refl);
      ring = subst (λ b. SameRing (host_at past i) (cond b (list_begins (suc k) (host_at past i)) (host_at past i))) (sym (apart_there (nat_eq j i) refl)) (same_ring (host_at past i));
      last = λ number bytes e. inl e;
    }

-- ---- the packet of a line
record OneRing (past : List Moment) (j : ℕ) (pointer : Option ℕ) (sent : List Note) : Type 0 where
  serial : ℕ
  generation : ℕ
  from : ℕ
  to : ℕ
  bytes : List ℕ
  header : Header
  is : sent ≡ notes.Sent serial generation from to bytes ∷ []
  sender : from ≡ suc j
  spelled : bytes ≡ canon (request_with header (ring_body past j (host_at past j) pointer))

one_ring : (past : List Moment) (j : ℕ) (pointer : Option ℕ) (before : List Moment) (sent : List Note) → ArePackets before (suc j) sent (requests_to 0 (Some (ring_body past j (host_at past j) pointer))) → OneRing past j pointer sent
one_ring past j None before (notes.Sent serial generation from to bytes ∷ []) h = let r = h.0 in record { serial = serial; generation = generation; from = from; to = to; bytes = bytes; header = header_to (id_of (terms before) (suc j)) (id_for (terms before) (suc j) 0) (label_of bytes); is = refl; sender = r.sender; spelled = r.spelled }
one_ring past j (Some first) before (notes.Sent serial generation from to bytes ∷ []) h = let r = h.0 in record { serial = serial; generation = generation; from = from; to = to; bytes = bytes; header = header_to (id_of (terms before) (suc j)) (id_for (terms before) (suc j) 0) (label_of bytes); is = refl; sender = r.sender; spelled = r.spelled }
one_ring past j pointer before [] h = absurd h
one_ring past j pointer before (notes.Sent serial generation from to bytes ∷ notes.Sent a b c d e ∷ rest) h = absurd h.1
one_ring past j pointer before (notes.Sent serial generation from to bytes ∷ _ ∷ rest) h = absurd h.1
one_ring past j pointer before (_ ∷ rest) h = absurd h

onto_reverse : (told rest : List Note) → onto told rest ≡ reverse told ++ rest
onto_reverse [] rest = refl
onto_reverse (note ∷ told) rest = onto_reverse told (note ∷ rest) ∙ (sym (append_assoc (reverse told) (note ∷ []) rest) ∙ ap (λ xs. xs ++ rest) (sym (reverse-append (note ∷ []) told)))

-- ---- a line that was not refused
pub record LineFresh (past now : List Moment) (i : ℕ) : Type 0 where
  pub fresh : Fresh now i
  pub most : (host_at now i).running ≤ 1 + (host_at past i).running

pub stays_fresh : (past now : List Moment) (i : ℕ) → Stays past now i → Fresh past i → LineFresh past now i
stays_fresh past now i s f = record { fresh = fresh_stays past now i s f; most = (let same = s.ring.running in omega (arith, same)) }

module _ (disks : List Disk) (past : List Moment) (line j : ℕ) (cmd : Cmd) (own_is : Fresh past j) (honest : (s : ℕ) → (terms past).injected s ≡ false) (small : (host_at past j).running < 2 ^ 32) where
  abbrev event : Event
  event = events.Act j (actions.Append cmd)

  abbrev after : List Note → List Moment
  after told = map said told ++ asked line event ∷ past

  none_yet : new_number past j ≡ 0 → (host_at past j).pointer ≡ None
  none_yet z = by (present_list past j) refl z
    where
      by : (p : Option ℕ) → present_list past j ≡ p → appends past j (list_for past j p) ≡ 0 → (host_at past j).pointer ≡ None
      by None e z = own_is.unset e
      by (Some n) e z = absurd (let some = own_is.begun n e in omega (arith, some, z))

  abbrev middle : List Moment
  middle = behind (asked line event ∷ past) (append_notes j (new_list past j) (new_number past j) cmd)

  mid : Mid past line j cmd (new_list past j) middle
  mid = mid_is past line j cmd (new_list past j) (new_number past j) none_yet

  sent_fresh : (i : ℕ) → Fresh past i → (sent : List Note) (o : OneRing past j (pointer_for (present_list past j) (host_at past j)) sent) → LineFresh past (said (notes.Sent o.serial o.generation o.from o.to o.bytes) ∷ middle) i
  sent_fresh i f sent o = by (nat_eq i j) refl
    where
      told : value o.bytes ≡ ring_value (host_at middle j).pointer (host_at middle j).running
      told =
          ap value o.spelled
          ∙ (plain_ring past j (host_at past j) (pointer_for (present_list past j) (host_at past j)) o.header small
          ∙ (ap (λ p. ring_value p (host_at past j).running) (pointer_is past j own_is ∙ sym mid.rings.pointer)
          ∙ ap (λ r. ring_value (host_at middle j).pointer r) (sym mid.rings.running)))

      free : (terms middle).injected o.serial ≡ false
      free = ap (λ g. g o.serial) mid.honest ∙ honest o.serial

      by : (b : Bool) → nat_eq i j ≡ b → LineFresh past (said (notes.Sent o.serial o.generation o.from o.to o.bytes) ∷ middle) i
      by true e =
          let at : i ≡ j = grind (arith, nat_tests) in
          let now : List Moment = said (notes.Sent o.serial o.generation o.from o.to o.bytes) ∷ middle in
          let rung = rings_on middle j cmd o.serial o.generation o.from o.to o.bytes mid.event free o.sender in
          subst (LineFresh past now) (sym at) (record {
            fresh = own_fresh middle j cmd o.serial o.generation o.from o.to o.bytes mid.event free o.sender (new_list past j) mid.present told (mid_fresh past line j cmd (new_list past j) middle mid own_is);
            most = (let most = rung.most in let same = mid.rings.running in omega (arith, most, same));
          })
      by false e =
          let apart : i ≡ j → ⊥ = λ same. (grind (arith, nat_tests)) in
          stays_fresh past _ i (stays_then past middle _ i (other_mid past line j cmd (new_list past j) i apart (new_number past j)) (other_sent middle j cmd o.serial o.generation o.from o.to o.bytes mid.event free o.sender i apart)) f

  one_packet : (told : List Note) → Acts past j (actions.Append cmd) (reverse told) → OneRing past j (pointer_for (present_list past j) (host_at past j)) (sends_of (reverse told)) → (i : ℕ) → Fresh past i → LineFresh past (after told) i
  one_packet told acts o i f = subst (λ ms. LineFresh past ms i) (sym is) (sent_fresh i f (sends_of (reverse told)) o)
    where
      whole : after told ≡ behind middle (sends_of (reverse told))
      whole = sym (behind_latest (asked line event ∷ past) told) ∙ (ap (behind (asked line event ∷ past)) acts.first ∙ (behind-append (asked line event ∷ past) (effects_of (reverse told)) (sends_of (reverse told)) ∙ ap (λ ns. behind (behind (asked line event ∷ past) ns) (sends_of (reverse told))) acts.effects))

      is : after told ≡ said (notes.Sent o.serial o.generation o.from o.to o.bytes) ∷ middle
      is = whole ∙ ap (behind middle) o.is

  pub line_fresh : (told : List Note) → refusal_at past j (actions.Append cmd) ≡ None → Acts past j (actions.Append cmd) (reverse told) → RequestsLaw disks (turn past (asked line event) (onto told [])) → (i : ℕ) → Fresh past i → LineFresh past (after told) i
  line_fresh told none acts asks i f =
      let t = turn past (asked line event) (onto told []) in
      let wants = requests_to 0 (action_body (actions.Append cmd) past j (host_at past j)) in
      let order : onto told [] ≡ reverse told = onto_reverse told [] ∙ append-nil (reverse told) in
      let packets : ArePackets (before_requests disks t) (suc j) (drop 0 (sends_of (onto told []))) wants = subst (λ r. ArePackets (before_requests disks t) (suc j) (drop 0 (sends_of (onto told []))) (unless_refused r wants)) none (asks refl) in
      let sent : ArePackets (before_requests disks t) (suc j) (sends_of (reverse told)) wants = subst (λ ns. ArePackets (before_requests disks t) (suc j) (sends_of ns) wants) order packets in
      one_packet told acts (one_ring past j (pointer_for (present_list past j) (host_at past j)) (before_requests disks t) (sends_of (reverse told)) sent) i f

-- ---- a line that was refused
pub refused_stays : (past : List Moment) (line j : ℕ) (cmd : Cmd) (number cause i : ℕ) → Stays past (said (notes.Refused number cause) ∷ asked line (events.Act j (actions.Append cmd)) ∷ past) i
refused_stays past line j cmd number cause i = record { present = refl; appended = λ n. refl; ring = same_ring (host_at past i); last = λ n bytes e. inl e }
