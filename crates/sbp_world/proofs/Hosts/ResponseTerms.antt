-- What the terms of the wire say of a response behind the request that was got.
use Rattle.sbp_world.proofs.Words.Std.{◌≡◌, refl, ◌∙◌, ap, ℕ, true, false, cond, List, [], ◌∷◌, ◌++◌, map, Some, None, AllByRecursion}
use Rattle.sbp_world.proofs.Words.Wire.{is_plain, Moment, said, Kind, Part, Sending, part_of, request, response, Owed, Terms, arrives, gets, gets_as, is_news, is_served, judges, terms, Note}
use Rattle.sbp_world.proofs.Words.Laws.{before_sent, payload_at, answer_in, packet_in, is_answered}
use Rattle.sbp_world.proofs.Words.World.{payload_of}
use Rattle.bus_transactions.proofs.Facts.{request_asked}
use Rattle.bus_transactions.proofs.MoveOthers.{plain_terms}
use Rattle.sbp_journal.specs.Transactions.{no_packet}
use Rattle.sbp_journal.specs.declared.note.Note.TheVariants as notes
use Rattle.sbp_laws.specs.CarriedBytes.{bytes_in}
use Rattle.sbp_world.proofs.Hosts.SentMoments.{answers_now, sent_there}
use Rattle.sbp_world.proofs.Common.{itself}

pub plain_all : (ns : List Note) (past : List Moment) → AllByRecursion (λ note. is_plain note ≡ true) ns → terms (map said ns ++ past) ≡ terms past
plain_all [] past h = refl
plain_all (note ∷ ns) past h = plain_terms note (terms (map said ns ++ past)) h.0 ∙ plain_all ns past h.1

pub record IsRequestPart (part : Part) : Type 0 where
  pub label : ℕ
  pub kind : Kind
  pub is : part ≡ request label kind

pub request_part : (part : Part) → is_answered part ≡ true → IsRequestPart part
request_part (request label kind) e = record { label = label; kind = kind; is = refl }
request_part (response label kind) e = absurd (differ e)
  where
    differ : false ≡ true → ⊥
    differ e = cc
request_part no_packet e = absurd (differ e)
  where
    differ : false ≡ true → ⊥
    differ e = cc

module _ (past : List Moment) (serial : ℕ) (q : Sending) (was : (terms past).sent serial ≡ Some q) (asks : IsRequestPart (part_of q.bytes)) (effects : List Note) (plain : AllByRecursion (λ note. is_plain note ≡ true) effects) (r generation from to : ℕ) (bytes : List ℕ) where
  abbrev before : List Moment
  before = map said effects ++ said (notes.Got serial) ∷ past

  abbrev now : List Moment
  now = said (notes.Sent r generation from to bytes) ∷ before

  abbrev owed : Owed
  owed = record { serial = serial; cause = None }

  abbrev arrived : Terms
  arrived = is_served serial (is_news serial (arrives serial (terms past)))

  owes : (terms before).owes ≡ Some owed
  owes =
      ap (λ (x : Terms). x.owes) (plain_all effects (said (notes.Got serial) ∷ past) plain)
      ∙ (ap (λ x. (gets x serial (terms past)).owes) was
      ∙ (ap (λ x. (gets_as x serial q arrived).owes) asks.is
      ∙ ap (λ u. (judges u None serial q arrived).owes) (request_asked q asks.label asks.kind asks.is)))

  pub answers : (terms now).answers r ≡ Some serial
  answers = answers_now before r generation from to bytes owed owes

  pub payload_there : payload_at (terms now) r ≡ payload_of bytes
  payload_there = ap (λ x. bytes_in (answer_in (packet_in x))) (sent_there before r generation from to bytes)

  pub stood_before : before_sent now r ≡ before
  stood_before = ap (λ b. cond b before (before_sent before r)) (itself r)
