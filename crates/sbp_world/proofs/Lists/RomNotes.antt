-- Which quadlets a target gave, by a history: each packet of it that gives one gives one that may stand in its ROM.
use Rattle.sbp_world.proofs.Words.Std.{arith, ◌≡◌, ◌∙◌, refl, sym, ap, subst, ℕ, nat_eq, Bool, true, false, List, [], ◌∷◌, Option, Some, nat_tests, same_Some}
use Rattle.sbp_world.proofs.Words.Wire.{judged_note, Moment, asked, said, Sending, terms, Judged, Note}
use Rattle.sbp_world.proofs.Hosts.Held.{sent_new, sent_old}
use Rattle.sbp_world.proofs.Hosts.Layered.{is_tame}
use Rattle.sbp_world.proofs.Pointers.Ages.{moment_sent}
use Rattle.sbp_journal.specs.declared.cause.Judged.TheVariants as judgements
use Rattle.sbp_journal.specs.declared.note.Note.TheVariants as notes
use Rattle.sbp_world.proofs.Lists.RomCodes.{IsFair}
use Rattle.sbp_world.proofs.Common.{none_is, untrue}

abbrev pub IsFairNote : Note → Type 0
IsFairNote (notes.Sent serial generation from to bytes) = from ≡ 0 → IsFair bytes
IsFairNote note = Unit {0}

abbrev pub SentFair : List Moment → Type 0
SentFair [] = Unit {0}
SentFair (said note ∷ past) = IsFairNote note × SentFair past
SentFair (asked line event ∷ past) = SentFair past

-- ---- a packet that was sent

pub fair_sent : (past : List Moment) → SentFair past → (serial : ℕ) (q : Sending) → (terms past).sent serial ≡ Some q → q.from ≡ 0 → IsFair q.bytes
fair_sent [] h serial q e f = none_is q e
fair_sent (asked line event ∷ past) h serial q e f = fair_sent past h serial q (sym (ap (λ (g : ℕ → Option Sending). g serial) (moment_sent (asked line event) past refl)) ∙ e) f
fair_sent (said (notes.Sent at generation from to bytes) ∷ past) h serial q e f = by (nat_eq serial at) refl (λ k. fair_sent past h.1 serial q k f)
  where
    packet : Sending
    packet = record { generation = generation; from = from; to = to; bytes = bytes; injected = (terms past).injected at }

    by : (b : Bool) → nat_eq serial at ≡ b → ((terms past).sent serial ≡ Some q → IsFair q.bytes) → IsFair q.bytes
    by true g old =
        let same : serial ≡ at = grind (arith, nat_tests) in
        let is : packet ≡ q = same_Some packet q (sym (sent_new at packet (terms past)) ∙ ap (terms (said (notes.Sent at generation from to bytes) ∷ past)).sent (sym same) ∙ e) in
        subst (λ (x : Sending). IsFair x.bytes) is (h.0 (ap (λ (x : Sending). x.from) is ∙ f))
    by false g old = old (sym (sent_old at serial packet (terms past) g) ∙ e)
fair_sent (said note ∷ past) h serial q e f = fair_sent past h.1 serial q (sym (ap (λ (g : ℕ → Option Sending). g serial) (moment_sent (said note) past refl)) ∙ e) f

-- ---- a moment more

abbrev pub is_plain : Note → Bool
is_plain (notes.Sent serial generation from to bytes) = false
is_plain note = true

pub tame_plain : (note : Note) → is_tame note ≡ true → is_plain note ≡ true
tame_plain (notes.Sent serial generation from to bytes) e = untrue e
tame_plain note e = refl

pub plain_on : (note : Note) (past : List Moment) → is_plain note ≡ true → SentFair past → SentFair (said note ∷ past)
plain_on (notes.Sent serial generation from to bytes) past e h = untrue e
plain_on note past e h = (tt, h)

pub judged_on : (serial : ℕ) (judged : Judged) (past : List Moment) → SentFair past → SentFair (said (judged_note serial judged) ∷ past)
judged_on serial judgements.Got past h = (tt, h)
judged_on serial (judgements.Ignored cause) past h = (tt, h)
