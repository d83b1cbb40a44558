-- A packet that was sent in a turn was sent behind its effects: behind it only packets were sent in the turn.
use Rattle.sbp_world.proofs.Words.Std.{inl, inr, ◌⊎◌, arith, ◌≡◌, ◌∙◌, refl, sym, ap, subst, ◌<◌, ℕ, nat_eq, Bool, true, false, cond, List, [], ◌∷◌, ◌++◌, map, append_assoc, Some, nat_tests}
use Rattle.sbp_world.proofs.Words.Wire.{SerialsCount, end_note, judged_note, Moment, asked, said, Sending, terms, Judged, Note}
use Rattle.sbp_world.proofs.Words.Target.{Disk}
use Rattle.sbp_world.proofs.Words.Laws.{before_sent, Agent, agent_at, over, target_at}
use Rattle.sbp_world.proofs.Words.World.{agent_in}
use Rattle.sbp_journal.specs.declared.cause.Judged.TheVariants as judgements
use Rattle.sbp_journal.specs.declared.note.Note.TheVariants as notes
use Rattle.sbp_world.proofs.Hosts.Remaining.{gets_same, ignores_that_same, opened_same, times_out_same}
use Rattle.sbp_world.proofs.Hosts.SentMoments.{sending, sent_below, sent_now}
use Rattle.sbp_world.proofs.Agents.CrewOthers.{settled_ends, stopped_ends}
use Rattle.sbp_world.proofs.Lists.Awaited.{Awaits, Starts, line_starts, since_over}
use Rattle.sbp_world.proofs.Lists.SendsLast.{AllEffects, AllSends, IsEffect, IsStart}
use Rattle.sbp_world.proofs.Lists.Turned.{starts_judged}
use Rattle.sbp_world.proofs.Lists.TurnShapes.{Behind, Shape, as_before, by_asked, by_ended, by_judged, by_noted}

-- only packets were sent since
pub record SentLast (now : List Moment) (serial : ℕ) : Type 0 where
  pub behind : List Note
  pub are_sends : AllSends behind
  pub is : map said behind ++ before_sent now serial ≡ now

module _ (base : List Moment) (serial : ℕ) (packet : Sending) (late : (terms base).count < serial) where
  one_more : (other generation from to : ℕ) (bytes : List ℕ) (past : List Moment) → (SerialsCount past → (terms past).sent serial ≡ Some packet → SentLast past serial) → SerialsCount (said (notes.Sent other generation from to bytes) ∷ past) → (terms (said (notes.Sent other generation from to bytes) ∷ past)).sent serial ≡ Some packet → (b : Bool) → nat_eq other serial ≡ b → SentLast (said (notes.Sent other generation from to bytes) ∷ past) serial
  one_more other generation from to bytes past h c e true f = record {
    behind = notes.Sent other generation from to bytes ∷ [];
    are_sends = (tt, tt);
    is = ap (λ x. said (notes.Sent other generation from to bytes) ∷ cond x past (before_sent past serial)) f;
  }
  one_more other generation from to bytes past h c e false f =
      let apart : nat_eq serial other ≡ false = grind (arith, nat_tests) in
      let r = h c.1 (sym (ap (λ b. cond b (Some (sending past other generation from to bytes)) ((terms past).sent serial)) apart) ∙ (sym (ap (λ g. g serial) (sent_now past other generation from to bytes)) ∙ e)) in
      record {
        behind = notes.Sent other generation from to bytes ∷ r.behind;
        are_sends = (tt, r.are_sends);
        is = ap (λ x. said (notes.Sent other generation from to bytes) ∷ (map said r.behind ++ cond x past (before_sent past serial))) f ∙ ap (λ ms. said (notes.Sent other generation from to bytes) ∷ ms) r.is;
      }

  sent_last : (ns : List Note) → AllSends ns → SerialsCount (map said ns ++ base) → (terms (map said ns ++ base)).sent serial ≡ Some packet → SentLast (map said ns ++ base) serial
  sent_last [] q c e = let below = sent_below base serial packet c e in absurd (omega (arith, below, late))
  sent_last (notes.Sent other generation from to bytes ∷ ns) q c e = one_more other generation from to bytes (map said ns ++ base) (sent_last ns q.1) c e (nat_eq other serial) refl
  sent_last (note ∷ ns) q c e = absurd q.0

-- ---- no other note sends a packet
effect_count : (note : Note) (past : List Moment) → IsEffect note → (terms (said note ∷ past)).count ≡ (terms past).count
effect_count (notes.Sent serial generation from to bytes) past q = absurd q
effect_count (notes.Got serial) past q = absurd q
effect_count (notes.Ignored serial cause) past q = absurd q
effect_count (notes.TimedOut serial) past q = absurd q
effect_count note past q = refl

effects_count : (ns : List Note) (past : List Moment) → AllEffects ns → (terms (map said ns ++ past)).count ≡ (terms past).count
effects_count [] past q = refl
effects_count (note ∷ ns) past q = effect_count note (map said ns ++ past) q.0 ∙ effects_count ns past q.1

start_count : (note : Note) (past : List Moment) → IsStart note → (terms (said note ∷ past)).count ≡ (terms past).count
start_count (notes.Got serial) past q = (gets_same ((terms past).sent serial) serial (terms past)).count
start_count (notes.Ignored serial cause) past q = (ignores_that_same ((terms past).sent serial) cause serial (terms past)).count
start_count (notes.TimedOut serial) past q = (times_out_same _ (terms past)).count
start_count (notes.Sent serial generation from to bytes) past q = absurd q
start_count note past q = refl

judged_count : (serial : ℕ) (judged : Judged) (past : List Moment) → (terms (said (judged_note serial judged) ∷ past)).count ≡ (terms past).count
judged_count serial judgements.Got past = (gets_same ((terms past).sent serial) serial (terms past)).count
judged_count serial (judgements.Ignored cause) past = (ignores_that_same ((terms past).sent serial) cause serial (terms past)).count

-- ---- what an agent waits for behind a turn it waited for before, or it was sent in the turn, last
module _ (start : List Disk) (before now : List Moment) (serials : SerialsCount now) (place serial : ℕ) (packet : Sending) (sent : (terms now).sent serial ≡ Some packet) where
  abbrev agent : List Moment → Agent
  agent ms = agent_at (over (target_at start ms)) place

  abbrev pub Since : Type 0
  Since = Awaits (agent before) serial ⊎ SentLast now serial

  behind_base : (m : Moment) (middle : List Note) → Starts m → (b : Behind (map said middle ++ m ∷ before) now) → (terms (map said middle ++ m ∷ before)).count ≡ (terms before).count → Awaits (agent now) serial → Since
  behind_base m middle starts b count waits = by (subst (λ ms. Awaits (agent ms) serial) (sym is) waits)
    where
      base : List Moment
      base = map said middle ++ m ∷ before

      rest : List Moment
      rest = map said b.sends ++ (map said b.effects ++ map said middle)

      is : rest ++ m ∷ before ≡ now
      is = append_assoc (map said b.sends) (map said b.effects ++ map said middle) (m ∷ before) ∙ (ap (λ ms. map said b.sends ++ ms) (append_assoc (map said b.effects) (map said middle) (m ∷ before)) ∙ b.is)

      late : (terms before).count < serial → Since
      late l =
          let low = map said b.effects ++ base in
          let same = effects_count b.effects base b.are_effects ∙ count in
          let x = sent_last low serial packet (omega (arith, l, same)) b.sends b.are_sends (subst SerialsCount (sym b.is) serials) (ap (λ ms. (terms ms).sent serial) b.is ∙ sent) in
          inr (subst (λ ms. SentLast ms serial) b.is x)

      each : Awaits (agent before) serial ⊎ ((terms before).count < serial) → Since
      each (inl x) = inl x
      each (inr l) = late l

      by : Awaits (agent (rest ++ m ∷ before)) serial → Since
      by w = each (since_over start rest m before starts (subst SerialsCount (sym is) serials) place serial w)

  ended_same : (done : Bool) → (over (target_at start (said (end_note done) ∷ before))).agents ≡ (over (target_at start before)).agents
  ended_same true = settled_ends (target_at start before)
  ended_same false = stopped_ends (target_at start before)

  pub since_turn : Shape before now → Awaits (agent now) serial → Since
  since_turn (as_before e) waits = inl (subst (λ ms. Awaits (agent ms) serial) e waits)
  since_turn (by_asked line event b) waits = behind_base (asked line event) [] (line_starts line event) b ((opened_same event (terms before)).count) waits
  since_turn (by_noted note q line event b) waits =
      behind_base (asked line event) (note ∷ []) (line_starts line event) b (start_count note (asked line event ∷ before) q ∙ (opened_same event (terms before)).count) waits
  since_turn (by_judged s judged b) waits = behind_base (said (judged_note s judged)) [] (starts_judged s judged) b (judged_count s judged before) waits
  since_turn (by_ended done e) waits =
      inl (subst (λ agents. Awaits (agent_in agents place) serial) (ended_same done) (subst (λ ms. Awaits (agent ms) serial) (sym e) waits))
