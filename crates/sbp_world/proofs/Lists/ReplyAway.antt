-- Over the notes of a turn that is none of the target its operation, and what that waits for, are as they were, or it has none.
use Rattle.sbp_world.proofs.Words.Std.{arith, ◌≡◌, ◌∙◌, refl, sym, ap, ℕ, zero, suc, nat_eq, Bool, true, false, List, [], ◌∷◌, ◌++◌, map, Some, nat_tests}
use Rattle.sbp_world.proofs.Words.Wire.{SerialsCount, as_sending, Kept, Sent, found_sent, Moment, said, Sending, terms, Note}
use Rattle.sbp_world.proofs.Words.Target.{Disk}
use Rattle.sbp_world.proofs.Hosts.Remaining.{remains, serials_behind}
use Rattle.sbp_world.proofs.Hosts.SentMoments.{sent_below}
use Rattle.sbp_journal.specs.declared.note.Note.TheVariants as notes
use Rattle.sbp_world.proofs.Lists.LiveTold.{AllAway, IsAway}
use Rattle.sbp_world.proofs.Lists.ManageMoments.{Hands, MayHand}
use Rattle.sbp_world.proofs.Lists.ManageOffices.{office_at}
use Rattle.sbp_world.proofs.Lists.ManageTerms.{same_some}
use Rattle.sbp_world.proofs.Lists.ReplyOffices.{Stays, got_stays, ignored_stays, key_stays, late_stays, note_stays, other_sent, sight_stays, stays_self, stays_then, tick_stays}

pub serials_off : (ns : List Note) (base : List Moment) → SerialsCount (map said ns ++ base) → SerialsCount base
serials_off [] base c = c
serials_off (note ∷ ns) base c = serials_off ns base (serials_behind (said note) (map said ns ++ base) c)

module _ (start : List Disk) (i own : ℕ) (kept : List Kept) where
  -- the packets that there were are known
  abbrev pub WereSent : List Moment → Type 0
  WereSent past = (n : ℕ) (x : Sent) → found_sent n kept ≡ Some x → (terms past).sent n ≡ Some (as_sending x)

  away_note : (note : Note) (past : List Moment) → IsAway i own kept note → WereSent past → MayHand start i (said note) past → Stays (office_at start past) (office_at start (said note ∷ past))
  away_note (notes.Begin initiators ready) past a were h = absurd a
  away_note (notes.Sent serial generation zero to bytes) past a were h = absurd (a refl)
  away_note (notes.Sent serial generation (suc j) to bytes) past a were h = other_sent start serial generation j to bytes past
  away_note (notes.Got serial) past a were h =
      let same : h.packet ≡ as_sending a.sent = same_some h.packet (as_sending a.sent) (sym h.facts.sent ∙ were serial a.sent a.found) in
      let to : h.packet.to ≡ suc a.j = ap (λ (q : Sending). q.to) same ∙ a.to_is in
      got_stays start serial h.packet past h.facts.sent (let x : nat_eq h.packet.to 0 ≡ false = grind (arith, nat_tests) in x)
  away_note (notes.Ignored serial cause) past a were h = ignored_stays start serial cause past
  away_note (notes.TimedOut serial) past a were h = late_stays start serial h.packet past h.sent
  away_note (notes.Seen node generation) past a were h = by (nat_eq node 0) refl
    where
      by : (b : Bool) → nat_eq node 0 ≡ b → Stays (office_at start past) (office_at start (said (notes.Seen node generation) ∷ past))
      by true e = absurd (a.0 (let x : node ≡ 0 = grind (arith, nat_tests) in x))
      by false e = sight_stays start node generation past e
  away_note notes.Tick past a were h = tick_stays start past
  away_note (notes.Key unit) past a were h = key_stays start unit past
  away_note note past a were h = note_stays start note past refl

  pub away_stays : (ns : List Note) (base : List Moment) → SerialsCount (map said ns ++ base) → AllAway i own kept ns → WereSent base → Hands start i (map said ns ++ base) → Stays (office_at start base) (office_at start (map said ns ++ base))
  away_stays [] base c a were h = stays_self (office_at start base)
  away_stays (note ∷ ns) base c a were h =
      let past = map said ns ++ base in
      let c_past = serials_behind (said note) past c in
      let c_base = serials_off ns base c_past in
      let were_then : WereSent past = (λ n x e. (remains (map said ns) base c_past).sent n (sent_below base n (as_sending x) c_base (were n x e)) ∙ were n x e) in
      stays_then (away_stays ns base c_past a.1 were h.1) (away_note note past a.0 were_then h.0)
