-- A ring of an initiator of a drill (IEEE 1394-1995, transaction layer): what it sent before is old then, and the other initiators stay.
use Rattle.std.proofs.Common.{◌≡◌, ◌∙◌, ◌⊎◌, inl, inr, refl, sym, ap, subst, ℕ, suc, ◌+◌, ◌<◌, ◌≤◌, ◌==◌, ◌&&◌, not, Bool, true, false, cond, List, [], ◌∷◌, Option, Some, None, arith}
use Rattle.std.proofs.lemmas.Bool.Decides.{nat_tests}
use Rattle.bus_transactions.proofs.Facts.{asked_is, begun_asked, nat_same}
use Rattle.sbp_journal.specs.Run.{Moment, asked, said}
use Rattle.sbp_journal.specs.Transactions.{Kind, Part, Sending, no_packet, part_of, request, response}
use Rattle.sbp_journal.specs.Wire.{Terms, passed, terms}
use Rattle.sbp_journal.specs.declared.event.Cmd.{Cmd}
use Rattle.sbp_journal.specs.declared.event.Event.TheVariants as events
use Rattle.sbp_journal.specs.declared.event.Action.TheVariants as actions
use Rattle.sbp_journal.specs.declared.note.Note.TheVariants as notes
use Rattle.sbp_laws.specs.Actions.{pointer_for}
use Rattle.sbp_laws.specs.Hosts.{Host, goes_on, host_at, known_host, ring, sent_as}
use Rattle.sbp_laws.specs.Lists.{present_list}
use Rattle.sbp_laws.specs.Terms.{appends}
use Rattle.sbp_laws.specs.Turns.{event_of}
use Rattle.drill_laws.proofs.DrillLabels.{own}
use Rattle.drill_laws.proofs.DrillLast.{IsOld, SameRing, SentUnder, Stays, last_sent, older, ring_value, same_ring, sender_is, value}
use Rattle.drill_laws.proofs.DrillRings.{code_byte}

-- what was sent before is old; a list is present once one was begun, and ORB_POINTER is written no earlier
pub record Fresh (past : List Moment) (i : ℕ) : Type 0 where
  pub unset : present_list past i ≡ None → (host_at past i).pointer ≡ None
  pub begun : (n : ℕ) → present_list past i ≡ Some n → 0 < appends past i n
  pub old : (number : ℕ) (bytes : List ℕ) → (terms past).last (own i number) ≡ Some bytes → IsOld (host_at past i).pointer (host_at past i).running bytes

pub fresh_stays : (past now : List Moment) (i : ℕ) → Stays past now i → Fresh past i → Fresh now i
fresh_stays past now i s f = record {
  unset = λ e. s.ring.pointer ∙ f.unset (sym s.present ∙ e);
  begun = λ n e. (let some = f.begun n (sym s.present ∙ e) in let same = s.appended n in omega (arith, some, same));
  old = λ number bytes e. by number bytes (s.last number bytes e);
}
  where
    by : (number : ℕ) (bytes : List ℕ) → ((terms past).last (own i number) ≡ Some bytes) ⊎ (32 ≤ code_byte bytes) → IsOld (host_at now i).pointer (host_at now i).running bytes
    by number bytes (inl e) = older (host_at past i).pointer (host_at now i).pointer (host_at past i).running (host_at now i).running (λ z. sym s.ring.pointer ∙ z) (let same = s.ring.running in omega (arith, same)) bytes (f.old number bytes e)
    by number bytes (inr code) = inl code

-- so the pointer write counts for the present list
pub pointer_is : (past : List Moment) (j : ℕ) → Fresh past j → pointer_for (present_list past j) (host_at past j) ≡ (host_at past j).pointer
pointer_is past j f = by (present_list past j) refl
  where
    by : (p : Option ℕ) → present_list past j ≡ p → pointer_for p (host_at past j) ≡ (host_at past j).pointer
    by None e = sym (f.unset e)
    by (Some n) e = refl

-- ---- the terms of an initiator's fold are those of the wire
pub host_wire : (past : List Moment) (i : ℕ) → (known_host past i).wire ≡ terms past
host_wire [] i = refl
host_wire (asked line event ∷ past) i = ap (λ w. passed (asked line event) w) (host_wire past i)
host_wire (said note ∷ past) i = ap (λ w. passed (said note) w) (host_wire past i)

-- ---- a ring
pub record RingsOn (host : Host) (bytes : List ℕ) (now : Host) : Type 0 where
  pub pointer : now.pointer ≡ None → host.pointer ≡ None
  pub grows : host.running ≤ now.running
  pub most : now.running ≤ 1 + host.running
  pub old : (label : ℕ) (kind : Kind) → part_of bytes ≡ request label kind → value bytes ≡ ring_value host.pointer host.running → IsOld now.pointer now.running bytes

ring_on : (pointer : Option ℕ) (serial : ℕ) (host : Host) (bytes : List ℕ) → host.pointer ≡ pointer → RingsOn host bytes (ring pointer serial host)
ring_on None serial host bytes e = record {
  pointer = λ z. e;
  grows = omega arith;
  most = omega arith;
  old = λ label kind part v. inr (inl ((λ z. (let no : Some serial ≡ None = z in cc no)), v ∙ ap (λ p. ring_value p host.running) e));
}
ring_on (Some first) serial host bytes e = record {
  pointer = λ z. z;
  grows = omega arith;
  most = omega arith;
  old = λ label kind part v. inr (inr (let same : value bytes ≡ host.running = v ∙ ap (λ p. ring_value p host.running) e in omega (arith, same)));
}

module _ (mid : List Moment) (j : ℕ) (cmd : Cmd) (serial generation from to : ℕ) (bytes : List ℕ) (event : event_of mid ≡ Some (events.Act j (actions.Append cmd))) (honest : (terms mid).injected serial ≡ false) (sender : from ≡ suc j) where
  abbrev now : List Moment
  now = said (notes.Sent serial generation from to bytes) ∷ mid

  abbrev host : Host
  host = host_at mid j

  abbrev q : Sending
  q = record { generation = generation; from = from; to = to; bytes = bytes; injected = (terms mid).injected serial }

  active : ((from == suc j) && not ((known_host mid j).wire.injected serial)) ≡ true
  active =
      ap (λ x. (x == suc j) && not ((known_host mid j).wire.injected serial)) sender
      ∙ (ap (λ b. b && not ((known_host mid j).wire.injected serial)) (nat_same (suc j))
      ∙ ap not (ap (λ (t : Terms). t.injected serial) (host_wire mid j) ∙ honest))

  host_now : host_at now j ≡ sent_as (part_of bytes) (Some (events.Act j (actions.Append cmd))) j (present_list mid j) serial host
  host_now =
      ap (λ b. cond b (sent_as (part_of bytes) (event_of mid) j (present_list mid j) serial host) host) active
      ∙ ap (λ v. sent_as (part_of bytes) v j (present_list mid j) serial host) event

  by_part : (part : Part) → part_of bytes ≡ part → RingsOn host bytes (sent_as part (Some (events.Act j (actions.Append cmd))) j (present_list mid j) serial host)
  by_part (request label kind) e = subst (λ b. RingsOn host bytes (cond b (ring host.pointer serial host) (goes_on host.operation serial host))) (sym (nat_same j)) (ring_on host.pointer serial host bytes refl)
  by_part (response label kind) e = record { pointer = λ z. z; grows = omega arith; most = omega arith; old = λ l k f v. absurd (let no : response label kind ≡ request l k = sym e ∙ f in cc no) }
  by_part no_packet e = record { pointer = λ z. z; grows = omega arith; most = omega arith; old = λ l k f v. absurd (let no : no_packet ≡ request l k = sym e ∙ f in cc no) }

  pub rings_on : RingsOn host bytes (host_at now j)
  rings_on = subst (RingsOn host bytes) (sym host_now) (by_part (part_of bytes) refl)

  pub own_fresh : (n : ℕ) → present_list mid j ≡ Some n → value bytes ≡ ring_value host.pointer host.running → Fresh mid j → Fresh now j
  own_fresh n present v f = record {
    unset = λ e. absurd (let no : Some n ≡ None = sym present ∙ e in cc no);
    begun = f.begun;
    old = λ number bs e. by number bs (last_sent serial q (terms mid) (own j number) bs e);
  }
    where
      by : (number : ℕ) (bs : List ℕ) → ((terms mid).last (own j number) ≡ Some bs) ⊎ SentUnder q (own j number) bs → IsOld (host_at now j).pointer (host_at now j).running bs
      by number bs (inl e) = older host.pointer (host_at now j).pointer host.running (host_at now j).running rings_on.pointer rings_on.grows bs (f.old number bs e)
      by number bs (inr under) =
          let a = asked_is q (own j number) (begun_asked q (own j number) under.begun).1 in
          subst (IsOld (host_at now j).pointer (host_at now j).running) under.same (rings_on.old a.label a.kind a.part v)

  pub other_sent : (i : ℕ) → (i ≡ j → ⊥) → Stays mid now i
  other_sent i apart = record {
    present = refl;
    appended = λ n. refl;
    ring = subst (λ b. SameRing (host_at mid i) (cond b (sent_as (part_of bytes) (event_of mid) i (present_list mid i) serial (host_at mid i)) (host_at mid i))) (sym still) (same_ring (host_at mid i));
    last = λ number bs e. by number bs (last_sent serial q (terms mid) (own i number) bs e);
  }
    where
      elsewhere : (b : Bool) → (from == suc i) ≡ b → b ≡ false
      elsewhere true e = absurd (apart (let at : from ≡ suc i = grind (arith, nat_tests) in omega (arith, at, sender)))
      elsewhere false e = refl

      still : ((from == suc i) && not ((known_host mid i).wire.injected serial)) ≡ false
      still = ap (λ b. b && not ((known_host mid i).wire.injected serial)) (elsewhere (from == suc i) refl)

      by : (number : ℕ) (bs : List ℕ) → ((terms mid).last (own i number) ≡ Some bs) ⊎ SentUnder q (own i number) bs → ((terms mid).last (own i number) ≡ Some bs) ⊎ (32 ≤ code_byte bs)
      by number bs (inl e) = inl e
      by number bs (inr under) = absurd (apart (let at : suc i ≡ from = sender_is q (own i number) under.begun in omega (arith, at, sender)))
