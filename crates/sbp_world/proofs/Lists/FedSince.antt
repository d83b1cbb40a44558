-- What the target got of an initiator since a response is what the agent of a place read, and others that begin elsewhere: where each packet that it got since brought the one or
-- the other, and the response was not got again.
use Rattle.sbp_world.proofs.Words.Std.{arith, ◌≡◌, ◌∙◌, sym, ap, subst, inl, inr, ◌==◌, ℕ, true, false, cond, List, [], ◌∷◌, ◌++◌, nat_tests}
use Rattle.sbp_world.proofs.Words.Wire.{Moment, asked, said, terms, Note}
use Rattle.sbp_world.proofs.Words.Target.{Disk}
use Rattle.sbp_world.proofs.Words.Laws.{Moved, read_by, reads_since, answered_at}
use Rattle.sbp_world.proofs.Words.World.{AllElsewhere, AreBeside, AreOwnOrOthers, BesideLaw, IsOwnOrOther, main_read, no_more, other_read, own_read, own_reads, NoneAgain}
use Rattle.std.proofs.Common.{append-nil}
use Rattle.sbp_journal.specs.declared.note.Note.TheVariants as notes
use Rattle.sbp_world.specs.Lists.FedRuns.{AreOthers}

-- ---- one behind the other
both : (slot : ℕ) (all own more : List Moved) → AreBeside slot all own → AreBeside slot (all ++ more) (own ++ more)
both slot _ _ more no_more = same more
  where
    same : (xs : List Moved) → AreBeside slot xs xs
    same [] = no_more
    same (x ∷ xs) = own_read x xs xs (same xs)
both slot _ _ more (own_read one all own b) = own_read one (all ++ more) (own ++ more) (both slot all own more b)
both slot _ _ more (other_read one all own e b) = other_read one (all ++ more) (own ++ more) e (both slot all own more b)

others : (slot : ℕ) (all own more : List Moved) → AllElsewhere slot more → AreBeside slot all own → AreBeside slot (all ++ more) own
others slot _ _ more e no_more = all_others more e
  where
    all_others : (xs : List Moved) → AllElsewhere slot xs → AreBeside slot xs []
    all_others [] e = no_more
    all_others (x ∷ xs) e = other_read x xs [] e.0 (all_others xs e.1)
others slot _ _ more e (own_read one all own b) = own_read one (all ++ more) own (others slot all own more e b)
others slot _ _ more e (other_read one all own f b) = other_read one (all ++ more) own f (others slot all own more e b)

-- ---- a packet is got
module _ (start : List Disk) (i place slot response : ℕ) where
  got_more : (past : List Moment) (serial : ℕ) → (serial == response) ≡ false → reads_since past i response ++ read_by (terms past) i serial (answered_at (terms past) serial) ≡ reads_since (said (notes.Got serial) ∷ past) i response
  got_more past serial e = ap (λ b. cond b [] (reads_since past i response ++ read_by (terms past) i serial (answered_at (terms past) serial))) (sym e)

  got_first : (earlier : List Moment) → reads_since (said (notes.Got response) ∷ earlier) i response ≡ []
  got_first earlier = ap (λ b. cond b [] (reads_since earlier i response ++ read_by (terms earlier) i response (answered_at (terms earlier) response))) (let z : (response == response) ≡ true = grind (arith, nat_tests) in z)

  other_got : (past : List Moment) (own : List Moved) (serial : ℕ) → (serial == response) ≡ false → AllElsewhere slot (read_by (terms past) i serial (answered_at (terms past) serial)) → AreBeside slot (reads_since past i response) own → AreBeside slot (reads_since (said (notes.Got serial) ∷ past) i response) own
  other_got past own serial e o b = subst (λ xs. AreBeside slot xs own) (got_more past serial e) (others slot (reads_since past i response) own _ o b)

  between_beside : (between earlier : List Moment) → NoneAgain response between → AreOthers i slot between (said (notes.Got response) ∷ earlier) → AreBeside slot (reads_since (between ++ said (notes.Got response) ∷ earlier) i response) []
  between_beside [] earlier n o = subst (λ xs. AreBeside slot xs []) (sym (got_first earlier)) no_more
  between_beside (asked line event ∷ between) earlier n o = between_beside between earlier n o
  between_beside (said note ∷ between) earlier n o = by note n o (λ m p. between_beside between earlier m p)
    where
      by : (note : Note) → NoneAgain response (said note ∷ between) → AreOthers i slot (said note ∷ between) (said (notes.Got response) ∷ earlier) → (NoneAgain response between → AreOthers i slot between (said (notes.Got response) ∷ earlier) → AreBeside slot (reads_since (between ++ said (notes.Got response) ∷ earlier) i response) []) → AreBeside slot (reads_since (said note ∷ (between ++ said (notes.Got response) ∷ earlier)) i response) []
      by (notes.Got serial) n o again = other_got (between ++ said (notes.Got response) ∷ earlier) [] serial n.0 o.0 (again n.1 o.1)
      by note n o again = again n o

  own_got : (past : List Moment) (own : List Moved) (serial : ℕ) → (serial == response) ≡ false → IsOwnOrOther start past i place slot serial → AreBeside slot (reads_since past i response) own → AreBeside slot (reads_since (said (notes.Got serial) ∷ past) i response) (own ++ main_read start past place serial)
  own_got past own serial n (inl e) b =
      subst (λ xs. AreBeside slot xs (own ++ main_read start past place serial)) (ap (λ xs. reads_since past i response ++ xs) (sym e) ∙ got_more past serial n)
      (both slot (reads_since past i response) own (main_read start past place serial) b)
  own_got past own serial n (inr e) b = subst (λ xs. AreBeside slot (reads_since (said (notes.Got serial) ∷ past) i response) xs) (sym (ap (λ xs. own ++ xs) e.0 ∙ append-nil own)) (other_got past own serial n e.1 b)

  later_beside : (later before : List Moment) → NoneAgain response later → AreBeside slot (reads_since before i response) [] → AreOwnOrOthers start i place slot later before → AreBeside slot (reads_since (later ++ before) i response) (own_reads start place later before)
  later_beside [] before n b o = b
  later_beside (asked line event ∷ later) before n b o = later_beside later before n b o
  later_beside (said note ∷ later) before n b o = by note n o (λ m p. later_beside later before m b p)
    where
      by : (note : Note) → NoneAgain response (said note ∷ later) → AreOwnOrOthers start i place slot (said note ∷ later) before → (NoneAgain response later → AreOwnOrOthers start i place slot later before → AreBeside slot (reads_since (later ++ before) i response) (own_reads start place later before)) → AreBeside slot (reads_since (said note ∷ (later ++ before)) i response) (own_reads start place (said note ∷ later) before)
      by (notes.Got serial) n o again = own_got (later ++ before) (own_reads start place later before) serial n.0 o.0 (again n.1 o.1)
      by note n o again = again n o

pub beside_law : BesideLaw
beside_law start i place slot response later between earlier n m o p =
    later_beside start i place slot response later (between ++ said (notes.Got response) ∷ earlier) n (between_beside start i place slot response between earlier m o) p
