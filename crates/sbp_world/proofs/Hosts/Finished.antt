-- The responses of a finished history carry what was read.
use Rattle.sbp_world.proofs.Words.Std.{◌≡◌, ◌<◌, refl, sym, ◌∙◌, ap, subst, ℕ, ◌+◌, true, List, [], ◌∷◌, ◌++◌, map, Some, AllByRecursion, false≢true}
use Rattle.sbp_world.proofs.Words.Wire.{Packet, is_plain, SerialsCount, Access, Moment, said, terms, Note}
use Rattle.sbp_world.proofs.Words.Laws.{Orb, prepared_in, host_reply}
use Rattle.sbp_world.proofs.Words.World.{history_of, Run, IsDelivered, FinishedLaw, GoesOnWith, IsRun}
use Rattle.sbp_journal.specs.declared.note.Note.TheVariants as notes
use Rattle.sbp_world.proofs.Hosts.Deliveries.{deliveries_law}
use Rattle.sbp_world.proofs.Hosts.GotServed.{IsAsked, responds, was_got}
use Rattle.sbp_world.proofs.Hosts.Remaining.{gets_same, remaining_law, serials}
use Rattle.sbp_world.proofs.Hosts.Replied.{IsReplied}
use Rattle.sbp_world.proofs.Hosts.SentMoments.{serials_from}
use Rattle.sbp_world.proofs.Hosts.SlotReads.{are_reads}

pub goes_on : (line : ℕ) (run : Run) → IsRun run → (past : List Moment) (serial : ℕ) → IsDelivered line run serial past → (i : ℕ) (packet : Packet) (access : Access) → IsAsked past i serial packet access → (slot : ℕ) (found : Orb) → slot < 32 → prepared_in past i slot ≡ Some found → (host_reply past i access).rcode ≡ 0 → GoesOnWith past (history_of line run) i serial slot found access
goes_on line run q past serial d i packet access a slot found small prepared complete =
    let k = (was_got IsReplied responds line run serial past d).goes i packet access a in
    record {
      now = k.now;
      rest = k.rest;
      is = k.is;
      reads = are_reads past i serial packet access a.asks k.now k.replies slot found small prepared complete;
      remains = remaining_law.remains line run q k.rest k.now k.is;
    }

-- ---- the packet behind a note

plain_count : (note : Note) (past : List Moment) → is_plain note ≡ true → (terms (said note ∷ past)).count ≡ (terms past).count
unfolding is_plain
plain_count (notes.Sent s generation from to bytes) past e = absurd (false≢true e)
plain_count (notes.Got s) past e = absurd (false≢true e)
plain_count (notes.Ignored s cause) past e = absurd (false≢true e)
plain_count (notes.TimedOut s) past e = absurd (false≢true e)
plain_count note past e = refl

effects_count : (effects : List Note) (past : List Moment) → AllByRecursion (λ note. is_plain note ≡ true) effects → (terms (map said effects ++ past)).count ≡ (terms past).count
effects_count [] past h = refl
effects_count (note ∷ effects) past h = plain_count note (map said effects ++ past) h.0 ∙ effects_count effects past h.1

pub next_serial : (past : List Moment) (request : ℕ) (effects : List Note) → AllByRecursion (λ note. is_plain note ≡ true) effects → (serial generation from to : ℕ) (bytes : List ℕ) → SerialsCount (said (notes.Sent serial generation from to bytes) ∷ (map said effects ++ said (notes.Got request) ∷ past)) → serial ≡ (terms past).count + 1
next_serial past request effects plain serial generation from to bytes h =
    h.0 ∙ ap (λ n. n + 1) (effects_count effects (said (notes.Got request) ∷ past) plain ∙ (gets_same ((terms past).sent request) request (terms past)).count)

pub finished_law : FinishedLaw
finished_law = record {
  reads = λ line run q later past serial e i to packet spelled access asks is_said slot found small prepared complete.
      goes_on line run q past serial (deliveries_law.deliveries line run q later past serial e) i packet access (record { to_it = to; spelled = spelled; asks = asks }) slot found small prepared complete;
  next = λ line run q later past request effects plain serial generation from to bytes e.
      next_serial past request effects plain serial generation from to bytes
      (serials_from later (said (notes.Sent serial generation from to bytes) ∷ (map said effects ++ said (notes.Got request) ∷ past)) (subst SerialsCount (sym e) (serials line run q)));
}
