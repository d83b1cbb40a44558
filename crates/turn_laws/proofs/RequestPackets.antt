-- The packets of a turn behind its response are these requests where they are of their bodies, as the effects and the response before them say nothing of injected packets and each packet is as its node sends it.
use Rattle.std.proofs.Common.{arith, ◌≡◌, ◌∙◌, refl, sym, ap, subst, ℕ, ◌<◌, Bool, true, false, cond, List, [], ◌∷◌, ◌++◌, append_assoc, drop, length, Option, Some, None}
use Rattle.std.specs.List.{AllByRecursion}
use Rattle.rbc_disk.specs.Disk.{Disk}
use Rattle.sbp_journal.specs.Run.{Moment, said}
use Rattle.sbp_journal.specs.Transactions.{Sending}
use Rattle.sbp_journal.specs.Wire.{Terms, begun_in, gets, noted, terms}
use Rattle.sbp_journal.specs.declared.note.Note.{Note}
use Rattle.sbp_journal.specs.declared.note.Note.TheVariants as notes
use Rattle.sbp_laws.specs.ActionLaw.{InOrder, Ordered, OrdersTurn}
use Rattle.sbp_laws.specs.Agents.{Request}
use Rattle.sbp_laws.specs.Deliveries.{once_told}
use Rattle.sbp_laws.specs.SentAnswers.{AnswersLaw, Begins, answer_due}
use Rattle.sbp_laws.specs.SentLaw.{end_of}
use Rattle.sbp_laws.specs.SentRequests.{ArePackets, before_requests, behind_answer}
use Rattle.sbp_laws.specs.Turns.{EachTurn, Turn, effects_of, is_sent, sends_of}
use Rattle.sbp_world.proofs.Common.{untrue}
use Rattle.sbp_world.proofs.Wire.Starts.{laws_of}
use Rattle.turn_laws.specs.Runs.{OfEveryRun}
use Rattle.turn_laws.proofs.AnswerRuns.{answered_law}
use Rattle.turn_laws.proofs.BehindTurns.{behind_every_turn}
use Rattle.turn_laws.proofs.Calls.{Cases}
use Rattle.turn_laws.proofs.EachTurns.{joined_law}
use Rattle.turn_laws.proofs.LaterTerms.{Clean}
use Rattle.turn_laws.proofs.OrderRuns.{ordered_law}
use Rattle.turn_laws.proofs.Pass.{of_every_run}
use Rattle.turn_laws.proofs.PendingFirsts.{got_injected, late_injected}
use Rattle.turn_laws.proofs.PendingTurns.{clean_here}
use Rattle.turn_laws.proofs.PushSerials.{note_count}
use Rattle.turn_laws.proofs.SentOwn.{AllOwn, AllStill, AreFor, asked_exactly, effects_still, sent_clean, still_terms, told_both}

-- ---- before a turn no serial that was not sent is of an injected packet
module _ (units ready : ℕ) (has : 0 < units) (start : List Disk) where
  clean_cases : Cases units ready start (λ t. Clean (terms t.past))
  clean_cases = record {
    heard = λ past s serial again run one found zero_to may others here behind judged. clean_here units ready has start past s here;
    heard_own = λ past s serial again one i found to_is inside own here behind judged. clean_here units ready has start past s here;
    late = λ past s serial request done t found node_is e others here behind judged. clean_here units ready has start past s here;
    late_own = λ past s serial request i outbox state found node_is inside e own here behind judged. clean_here units ready has start past s here;
    sees = λ past s others here behind judged. clean_here units ready has start past s here;
    sees_own = λ past s i inside own here behind judged. clean_here units ready has start past s here;
    ticks = λ past s others here behind judged. clean_here units ready has start past s here;
    ends = λ past s done here behind. clean_here units ready has start past s here;
    acts = λ past s line i action outbox state inside e own here behind. clean_here units ready has start past s here;
    lines = λ past s line event rest behind brings fresh here there. clean_here units ready has start past s here;
    begins = λ line initiators is_ready r l. refl;
  }

abbrev IsClean : List Disk → Turn → Type 0
IsClean start t = Clean (terms t.past)

clean_law : OfEveryRun (λ start past. EachTurn (IsClean start) past)
clean_law = of_every_run IsClean (λ units ready start has. clean_cases units ready has start)

abbrev IsOwned : List Disk → Turn → Type 0
IsOwned start t = AllOwn (end_of t)

owned_law : OfEveryRun (λ start past. EachTurn (IsOwned start) past)
owned_law =
    behind_every_turn (λ start past. AllOwn past)
    (λ units ready start has past s here. let laws = laws_of past s.world here.holds.sound.stands in (laws.sent, laws.serials))
    (λ start line initiators is_ready. (tt, tt))

-- ---- the first note of a turn injects nothing
got_clean : (s : ℕ) (t : Terms) (o : Option Sending) → t.sent s ≡ o → (noted (notes.Got s) t).injected ≡ t.injected
got_clean s t None e = ap (λ x. (gets x s t).injected) e
got_clean s t (Some q) e = got_injected s q t e

same_clean : (note : Note) (t : Terms) → (noted note t).injected ≡ t.injected → (noted note t).count ≡ t.count → Clean t → Clean (noted note t)
same_clean note t e f c r l = ap (λ x. x r) e ∙ c r (omega (arith, f, l))

-- ---- behind the effects and the response
abbrev AllSends : List Note → Type 0
AllSends ns = AllByRecursion (λ note. is_sent note ≡ true) ns

all_sends : (ns : List Note) → AllSends (sends_of ns)
all_sends [] = tt
all_sends (note ∷ ns) = by (all_sends ns) (is_sent note) refl
  where
    by : AllSends (sends_of ns) → (b : Bool) → is_sent note ≡ b → AllSends (cond b (note ∷ sends_of ns) (sends_of ns))
    by later true e = (e, later)
    by later false e = later

sends_first : (a b : List Note) → AllSends (a ++ b) → AllSends a
sends_first [] b h = tt
sends_first (note ∷ a) b h = (h.0, sends_first a b h.1)

sends_clean : (ns : List Note) (past : List Moment) → AllSends ns → Clean (terms past) → Clean (terms (once_told past ns))
sends_clean [] past h c = c
sends_clean (notes.Sent serial generation from to bytes ∷ ns) past h c =
    let t = terms past in
    let q : Sending = record { generation = generation; from = from; to = to; bytes = bytes; injected = t.injected serial } in
    let note = notes.Sent serial generation from to bytes in
    subst (λ ms. Clean (terms ms)) (sym (told_both (note ∷ []) ns past)) (sends_clean ns (said note ∷ past) h.1 (sent_clean serial q t c))
sends_clean (note ∷ ns) past h c = untrue h.0

pub begins_split : (due sent : List Note) → Begins due sent → sent ≡ due ++ drop (length due) sent
begins_split [] sent h = refl
begins_split (note ∷ due) [] h = absurd h
begins_split (note ∷ due) (first ∷ sent) h = ap (λ x. x ∷ sent) h.0 ∙ ap (λ ns. note ∷ ns) (begins_split due sent h.1)

-- what is known of each turn; and of one that a delivery or a time-out begins
pub record Sound (start : List Disk) (t : Turn) : Type 0 where
  pub ordered : Ordered t
  pub answers : AnswersLaw start t
  pub clean : Clean (terms t.past)
  pub own : AllOwn (end_of t)

pub record IsReady (t : Turn) : Type 0 where
  pub order : InOrder t
  pub clean : Clean (terms (t.start ∷ t.past))

pub sound_law : OfEveryRun (λ start past. EachTurn (Sound start) past)
sound_law =
    joined_law (λ start t. Ordered t × AnswersLaw start t) (λ start t. Clean (terms t.past) × AllOwn (end_of t)) Sound (λ start t a b. record { ordered = a.0; answers = a.1; clean = b.0; own = b.1 })
    (joined_law (λ start. Ordered) AnswersLaw (λ start t. Ordered t × AnswersLaw start t) (λ start t a b. (a, b)) ordered_law answered_law)
    (joined_law IsClean IsOwned (λ start t. Clean (terms t.past) × AllOwn (end_of t)) (λ start t a b. (a, b)) clean_law owned_law)

module _ (start : List Disk) (t : Turn) (sound : Sound start t) where
  note_ready : (note : Note) → t.start ≡ said note → (noted note (terms t.past)).injected ≡ (terms t.past).injected → (noted note (terms t.past)).count ≡ (terms t.past).count → IsReady t
  note_ready note e injected count = record {
    order = subst (λ x. OrdersTurn x t) e sound.ordered;
    clean = subst (λ x. Clean (terms (x ∷ t.past))) (sym e) (same_clean note (terms t.past) injected count sound.clean);
  }

  pub got_ready : (serial : ℕ) → t.start ≡ said (notes.Got serial) → IsReady t
  got_ready serial e = let wire = terms t.past in note_ready (notes.Got serial) e (got_clean serial wire (wire.sent serial) refl) (note_count (notes.Got serial) wire tt)

  pub late_ready : (serial : ℕ) → t.start ≡ said (notes.TimedOut serial) → IsReady t
  late_ready serial e = let wire = terms t.past in note_ready (notes.TimedOut serial) e (late_injected (begun_in (wire.sent serial)) wire) (note_count (notes.TimedOut serial) wire tt)

module _ (start : List Disk) (t : Turn) (sound : Sound start t) (ready : IsReady t) where
  abbrev first : List Moment
  first = t.start ∷ t.past

  abbrev effects : List Note
  effects = effects_of t.rest

  abbrev due : List Note
  due = answer_due start t t.start

  abbrev packets : List Note
  packets = behind_answer start t

  split : sends_of t.rest ≡ due ++ packets
  split = begins_split due (sends_of t.rest) sound.answers

  whole : once_told first t.rest ≡ once_told (before_requests start t) packets
  whole =
      ap (once_told first) (ready.order.first ∙ (ap (λ ns. effects ++ ns) split ∙ sym (append_assoc effects due packets))) ∙ told_both (effects ++ due) packets first

  clean_there : Clean (terms (before_requests start t))
  clean_there =
      let still : AllStill effects = subst AllStill (sym ready.order.effects) (effects_still effects) in
      subst (λ ms. Clean (terms ms)) (sym (told_both effects due first))
      (sends_clean due (once_told first effects) (sends_first due packets (subst AllSends split (all_sends t.rest))) (subst Clean (sym (still_terms effects first still)) ready.clean))

  module _ (node : ℕ) (wants : List Request) where
    pub turn_sends : AreFor node packets wants → ArePackets (before_requests start t) node packets wants
    turn_sends b = asked_exactly node packets wants (before_requests start t) clean_there (subst AllOwn whole sound.own) b

-- of a delivery and of a time-out
module _ (start : List Disk) (t : Turn) (sound : Sound start t) (serial : ℕ) where
  abbrev Exactly : List Request → Type 0
  Exactly wants = AreFor 0 (behind_answer start t) wants → ArePackets (before_requests start t) 0 (behind_answer start t) wants

  pub got_exactly : t.start ≡ said (notes.Got serial) → (wants : List Request) → Exactly wants
  got_exactly e = turn_sends start t sound (got_ready start t sound serial e) 0

  pub late_exactly : t.start ≡ said (notes.TimedOut serial) → (wants : List Request) → Exactly wants
  late_exactly e = turn_sends start t sound (late_ready start t sound serial e) 0
