-- What is known of the rings of a drill, over the turns of a settle.
use Rattle.std.proofs.Common.{◌≡◌, ◌∙◌, refl, sym, ap, subst, ℕ, suc, ◌+◌, ◌≤◌, ◌==◌, ◌&&◌, not, Bool, true, false, cond, is_some, List, [], ◌∷◌, ◌++◌, drop, length, map, Option, Some, None, arith}
use Rattle.std.specs.List.{AllByRecursion}
use Rattle.std.proofs.lemmas.Bool.Decides.{nat_tests}
use Rattle.bus_transactions.specs.Answers.{AreAnswered, IsSentFor}
use Rattle.bus_transactions.specs.Sent.{AreSent}
use Rattle.rbc_disk.specs.Disk.{Disk}
use Rattle.sbp_journal.specs.Run.{Moment, asked, said}
use Rattle.sbp_journal.specs.Transactions.{Sending, Transaction, begun_by, between, part_of}
use Rattle.sbp_journal.specs.Wire.{Owed, Terms, asked_in, begins, pays, puts, terms}
use Rattle.sbp_journal.specs.declared.event.Event.TheVariants as events
use Rattle.sbp_journal.specs.declared.note.Note.{Note}
use Rattle.sbp_journal.specs.declared.note.Note.TheVariants as notes
use Rattle.sbp_laws.specs.Hosts.{host_at, known_host, sent_as}
use Rattle.sbp_laws.specs.Lists.{present_list}
use Rattle.sbp_laws.specs.SentPackets.{SentAt}
use Rattle.sbp_laws.specs.Turns.{EachMoment, EachTurnBefore, event_of, sends_of, turn}
use Rattle.drill_laws.proofs.DrillCalm.{TurnLaws, later, note_calm}
use Rattle.drill_laws.proofs.DrillRefused.{AreOther}
use Rattle.drill_laws.proofs.DrillMoments.{DrillAt}
use Rattle.drill_laws.proofs.DrillPackets.{PaysWell, response_asks_none}
use Rattle.drill_laws.proofs.DrillServes.{IsReply, IsSentBy, IsWireless, Serves, asks_none, same_pointed, still_serves, terms_same}
use Rattle.drill_laws.proofs.DrillArrives.{got_serves, ignored_serves}
use Rattle.drill_laws.proofs.DrillSends.{asked_serves, packet, sent_serves}
use Rattle.drill_laws.proofs.DrillServed.{AnswersDue, AreFromTarget, IsFree, Tells, none_due, none_stuck}
use Rattle.drill_laws.proofs.DrillGots.{got_answers, got_free}
use Rattle.drill_laws.proofs.DrillIgnores.{asked_is, ignored_answers, ignored_free}
use Rattle.drill_laws.proofs.DrillTurns.{AsksNone, IsCalm, got_fine, ignored_fine, none_sent, quiet_fine}
use Rattle.drill_laws.proofs.DrillWire.{Parts, Young, sends_keeps, young}

-- ---- a packet that is sent in a settle
module _ (start : List Disk) (past : List Moment) (s generation from to : ℕ) (bytes : List ℕ) (rest : List Note) (h : Serves start past) (y : Young (terms past)) where
  abbrev sent : List Moment
  sent = said (notes.Sent s generation from to bytes) ∷ past

  abbrev q : Sending
  q = packet start past s generation from to bytes h

  -- a response leaves the pointers
  pointer_kept : IsSentFor (terms past).owes (terms past) q → AnswersDue (terms past).owes (notes.Sent s generation from to bytes ∷ rest) → (i : ℕ) → (host_at sent i).pointer ≡ (host_at past i).pointer
  pointer_kept due answers i = by (terms past).owes due answers
    where
      either : (b : Bool) → (cond b (host_at past i) (host_at past i)).pointer ≡ (host_at past i).pointer
      either true = refl
      either false = refl

      by : (o : Option Owed) → IsSentFor o (terms past) q → AnswersDue o (notes.Sent s generation from to bytes ∷ rest) → (host_at sent i).pointer ≡ (host_at past i).pointer
      by None due answers =
          ap (λ b. (cond (b && not ((known_host past i).wire.injected s)) (sent_as (part_of bytes) (event_of past) i (present_list past i) s (host_at past i)) (host_at past i)).pointer) (not_own (from == suc i) refl)
        where
          not_own : (b : Bool) → (from == suc i) ≡ b → b ≡ false
          not_own true e = absurd (let f = answers.0 in let same : from ≡ suc i = grind (arith, nat_tests) in omega (arith, same, f))
          not_own false e = refl
      by (Some owed) due answers =
          ap (λ part. (cond ((from == suc i) && not ((known_host past i).wire.injected s)) (sent_as part (event_of past) i (present_list past i) s (host_at past i)) (host_at past i)).pointer) due.responds.replies
          ∙ either ((from == suc i) && not ((known_host past i).wire.injected s))

  count_is : (terms sent).count ≡ (terms past).count + 1
  count_is = ap (λ (x : Parts). x.count) (sends_keeps s q (terms past))

  pub settle_sent : IsCalm start sent → s ≡ (terms past).count + 1 → IsSentFor (terms past).owes (terms past) q → AnswersDue (terms past).owes (notes.Sent s generation from to bytes ∷ rest) → Serves start sent
  settle_sent calm next due answers =
      let kept = pointer_kept due answers in
      sent_serves start past s generation from to bytes h calm next (paid (terms past).owes due answers) (λ i p e. kept i ∙ e) (λ i e. by_host (terms past).owes due answers i e) (λ e. by_target (terms past).owes due answers e)
      (λ i p small e. same_pointed past sent i p (record { present = refl; appended = refl }) (let c = count_is in omega (arith, c)) (h.hosts i p small (sym (kept i) ∙ e)))
    where
      paid : (o : Option Owed) → IsSentFor o (terms past) q → AnswersDue o (notes.Sent s generation from to bytes ∷ rest) → PaysWell o (terms past).sent q
      paid None due answers = tt
      paid (Some owed) due answers = λ u e r.
          let asks : Some (between due.asking due.asking.from due.asking.to due.responds.label) ≡ Some u = sym (asked_is due.asking due.responds.label due.responds.kind due.responds.asks) ∙ sym (ap asked_in due.sent) ∙ e in
          let same : between due.asking due.asking.from due.asking.to due.responds.label ≡ u = cc asks in
          answers.0 (due.responds.from ∙ ap (λ v. v.responder) same ∙ r)

      by_host : (o : Option Owed) → IsSentFor o (terms past) q → AnswersDue o (notes.Sent s generation from to bytes ∷ rest) → (i : ℕ) → from ≡ suc i → IsSentBy sent i s q
      by_host None due answers i e = absurd (let f = answers.0 in omega (arith, e, f))
      by_host (Some owed) due answers i e = asks_none (response_asks_none bytes due.responds.label due.responds.kind due.responds.replies)

      by_target : (o : Option Owed) → IsSentFor o (terms past) q → AnswersDue o (notes.Sent s generation from to bytes ∷ rest) → from ≡ 0 → IsReply bytes
      by_target None due answers e label kind f = absurd (let no : false ≡ true = sym (y.injected s) ∙ due label kind f in cc no)
      by_target (Some owed) due answers e label kind f = answers.0 e

  -- and nothing is owed behind it
  owes_none : (terms sent).owes ≡ None
  owes_none = by (terms past).owes refl
    where
      begun : (u : Option Transaction) → (begins u s q (puts u s q (terms past))).owes ≡ (terms past).owes
      begun None = refl
      begun (Some u) = refl

      by : (o : Option Owed) → (terms past).owes ≡ o → (pays o (terms past).sent s q (begins (begun_by q) s q (puts (begun_by q) s q (terms past)))).owes ≡ None
      by None e = begun (begun_by q) ∙ e
      by (Some owed) e = refl

  pub sent_tells : Tells past (notes.Sent s generation from to bytes ∷ rest) → Tells sent rest
  sent_tells t = record { free = t.free.1; answers = subst (λ o. AnswersDue o rest) (sym owes_none) (by (terms past).owes t.answers); fine = t.fine.1 }
    where
      by : (o : Option Owed) → AnswersDue o (notes.Sent s generation from to bytes ∷ rest) → AreFromTarget rest
      by None answers = answers.1
      by (Some owed) answers = answers.1

-- ---- a note that says nothing of the wire
wireless_due : (o : Option Owed) (note : Note) (rest : List Note) → IsWireless note → AnswersDue o (note ∷ rest) → AnswersDue o rest
wireless_due None note rest w answers = answers.1
wireless_due (Some owed) (notes.Sent s generation from to bytes) rest w answers = absurd w
wireless_due (Some owed) _ rest w answers = answers

wireless_tells : (note : Note) (past : List Moment) (rest : List Note) → DrillAt (said note) past → IsWireless note → Tells past (note ∷ rest) → Tells (said note ∷ past) rest
wireless_tells note past rest d w t = record {
  free = t.free.1;
  answers = wireless_due _ note rest w (subst (λ (x : Terms). AnswersDue x.owes (note ∷ rest)) (sym (terms_same note past d w)) t.answers);
  fine = t.fine.1;
}

-- ---- a turn in which nobody is to do anything
quiet_tells : (start : List Disk) (past : List Moment) (moment : Moment) (rest : List Note) → AsksNone moment → TurnLaws start (turn past moment rest) → Tells (moment ∷ past) rest
quiet_tells start past (said notes.Settled) rest is laws = record { free = none_stuck rest laws.causes.operations; answers = none_due _ rest (none_sent _ 0 (drop 0 (sends_of rest)) (laws.requests refl)); fine = quiet_fine start past (said notes.Settled) rest is laws.causes laws.logins laws.requests }
quiet_tells start past (said notes.Stopped) rest is laws = record { free = none_stuck rest laws.causes.operations; answers = none_due _ rest (none_sent _ 0 (drop 0 (sends_of rest)) (laws.requests refl)); fine = quiet_fine start past (said notes.Stopped) rest is laws.causes laws.logins laws.requests }
quiet_tells start past (asked line events.Settle) rest is laws = record { free = none_stuck rest laws.causes.operations; answers = none_due _ rest (none_sent _ 0 (drop 0 (sends_of rest)) (laws.requests refl)); fine = quiet_fine start past (asked line events.Settle) rest is laws.causes laws.logins laws.requests }
quiet_tells start past _ rest is laws = absurd is

-- ---- a settle
record HasSent (t : Terms) (s : ℕ) : Type 0 where
  sending : Sending
  is : t.sent s ≡ Some sending

has_sent : (t : Terms) (s : ℕ) → is_some (t.sent s) ≡ true → HasSent t s
has_sent t s e = by (t.sent s) refl e
  where
    by : (found : Option Sending) → t.sent s ≡ found → is_some found ≡ true → HasSent t s
    by None f e = absurd (cc e)
    by (Some q) f e = record { sending = q; is = f }

pub record Walked (start : List Disk) (past : List Moment) (told rest : List Note) : Type 0 where
  pub serves : Serves start past
  pub tells : Tells past rest
  pub each : AllByRecursion IsFree told

module _ (start : List Disk) (few : length start ≤ 4) (line : ℕ) (before : List Moment) (first : Serves start before) where
  abbrev there : List Note → List Moment
  there told = map said told ++ asked line events.Settle ∷ before

  pub settle_walk : (told rest : List Note) → AreOther told → EachMoment DrillAt (there told) → EachMoment SentAt (there told) → AreSent (there told) → AreAnswered (there told) → EachTurnBefore (TurnLaws start) (there told) rest → Walked start (there told) told rest
  settle_walk [] rest other d own sent answered each =
      record { serves = asked_serves start line events.Settle before tt first; tells = quiet_tells start before (asked line events.Settle) rest tt each.0; each = tt }
  settle_walk (notes.Got s ∷ told) rest other d own sent answered each =
      let c = settle_walk told [] other.1 d.1 own.1 sent answered.1 each.1 in
      let y = young (there told) d.1 own.1 in
      let q = has_sent (terms (there told)) s (y.flown s d.0) in
      record {
        serves = got_serves start s (there told) q.sending q.is c.serves d;
        tells = record {
          free = got_free start (there told) s rest q.sending q.is c.serves few y d.0 answered.0 each.0.causes;
          answers = got_answers start (there told) s rest q.sending q.is c.serves few y d.0 answered.0 each.0.answers each.0.requests;
          fine = got_fine start (there told) s rest c.serves.calm each.0.causes each.0.logins each.0.answers each.0.requests;
        };
        each = (tt, c.each);
      }
  settle_walk (notes.Ignored s cause ∷ told) rest other d own sent answered each =
      let c = settle_walk told [] other.1 d.1 own.1 sent answered.1 each.1 in
      let y = young (there told) d.1 own.1 in
      let q = has_sent (terms (there told)) s (y.flown s d.0) in
      record {
        serves = ignored_serves start s (there told) q.sending q.is c.serves cause d.0 (note_calm start (notes.Ignored s cause) (there told) refl (record { calm = tt; sent = tt }) d own sent c.serves.calm);
        tells = record {
          free = ignored_free start (there told) s cause rest q.sending q.is c.serves y each.0.judges;
          answers = ignored_answers start (there told) s cause rest q.sending q.is c.serves y each.0.judges;
          fine = ignored_fine start (there told) s rest c.serves.calm cause each.0.judges;
        };
        each = (tt, c.each);
      }
  settle_walk (notes.Settled ∷ told) rest other d own sent answered each =
      let c = settle_walk told [] other.1 d.1 own.1 sent answered each.1 in
      record {
        serves = still_serves start notes.Settled (there told) refl tt tt tt tt (note_calm start notes.Settled (there told) refl (record { calm = tt; sent = tt }) d own sent c.serves.calm) c.serves;
        tells = quiet_tells start (there told) (said notes.Settled) rest tt each.0;
        each = (tt, c.each);
      }
  settle_walk (notes.Stopped ∷ told) rest other d own sent answered each =
      let c = settle_walk told [] other.1 d.1 own.1 sent answered each.1 in
      record {
        serves = still_serves start notes.Stopped (there told) refl tt tt tt tt (note_calm start notes.Stopped (there told) refl (record { calm = tt; sent = tt }) d own sent c.serves.calm) c.serves;
        tells = quiet_tells start (there told) (said notes.Stopped) rest tt each.0;
        each = (tt, c.each);
      }
  settle_walk (notes.TimedOut s ∷ told) rest other d own sent answered each = absurd (let bad : false ≡ true = d.0 in cc bad)
  settle_walk (notes.Seen node generation ∷ told) rest other d own sent answered each = absurd (let bad : false ≡ true = d.0 in cc bad)
  settle_walk (notes.Tick ∷ told) rest other d own sent answered each = absurd (let bad : false ≡ true = d.0 in cc bad)
  settle_walk (notes.Injected s ∷ told) rest other d own sent answered each = absurd (let bad : false ≡ true = d.0 in cc bad)
  settle_walk (notes.Lost s ∷ told) rest other d own sent answered each = absurd (let bad : false ≡ true = d.0 in cc bad)
  settle_walk (notes.Reset generation ∷ told) rest other d own sent answered each = absurd (let bad : false ≡ true = d.0 in cc bad)
  settle_walk (notes.Append j n k cdb buffer ∷ told) rest other d own sent answered each = absurd (let bad : false ≡ true = other.0 in cc bad)
  settle_walk (notes.Sent s generation from to bytes ∷ told) rest other d own sent answered each =
      let c = settle_walk told (notes.Sent s generation from to bytes ∷ rest) other.1 d.1 own.1 sent.1 answered.1 each in
      let y = young (there told) d.1 own.1 in
      record {
        serves = settle_sent start (there told) s generation from to bytes rest c.serves y (note_calm start (notes.Sent s generation from to bytes) (there told) refl c.tells.fine.0 d own sent c.serves.calm) own.0.0 answered.0 c.tells.answers;
        tells = sent_tells start (there told) s generation from to bytes rest c.serves y c.tells;
        each = (tt, c.each);
      }
  settle_walk (note ∷ told) rest other d own sent answered each =
      let c = settle_walk told (note ∷ rest) other.1 d.1 own.1 sent answered each in
      let fine = c.tells.fine.0 in
      record {
        serves = still_serves start note (there told) d.0 tt (later start note (there told) c.serves.calm d.0) fine.calm tt (note_calm start note (there told) refl fine d own sent c.serves.calm) c.serves;
        tells = wireless_tells note (there told) rest d.0 tt c.tells;
        each = (c.tells.free.0, c.each);
      }
