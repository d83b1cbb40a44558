-- Behind each turn of every run each write that the target sent in it is the main request of an agent or the request of the operation, or an unsolicited status.
use Rattle.std.proofs.Common.{arith, ◌≡◌, ◌∙◌, refl, sym, ap, subst, ◌⊎◌, ℕ, ◌<◌, ◌≤◌, nat_le, Bool, true, false, cond, List, [], ◌∷◌, ◌++◌, map, reverse, Some, None}
use Rattle.std.proofs.lemmas.Bool.Decides.{nat_tests}
use Rattle.std.proofs.lemmas.Option.{same_Some}
use Rattle.bus_transactions.specs.Packets.{SerialsCount}
use Rattle.rbc_disk.specs.Disk.{Disk}
use Rattle.sbp_journal.specs.Run.{Moment, said}
use Rattle.sbp_journal.specs.Transactions.{Sending}
use Rattle.sbp_journal.specs.Wire.{terms}
use Rattle.sbp_journal.specs.declared.note.Note.{Note}
use Rattle.sbp_journal.specs.declared.note.Note.TheVariants as notes
use Rattle.sbp_laws.specs.ActionLaw.{InOrder, OrdersTurn}
use Rattle.sbp_laws.specs.Deliveries.{once_told}
use Rattle.sbp_laws.specs.SentLaw.{end_of}
use Rattle.sbp_laws.specs.Targets.{target_at}
use Rattle.sbp_laws.specs.Turns.{EachTurn, Turn, effects_of, is_sent, sends_of}
use Rattle.sbp_world.proofs.Common.{untrue}
use Rattle.sbp_world.proofs.Hosts.Remaining.{remains}
use Rattle.sbp_world.proofs.Hosts.SentMoments.{count_now, sent_there, serials_from}
use Rattle.turn_laws.specs.Runs.{OfEveryRun}
use Rattle.turn_laws.proofs.EachTurns.{joined_law}
use Rattle.turn_laws.proofs.LaterTerms.{Pushes}
use Rattle.turn_laws.proofs.PresentOrbs.{told_one}
use Rattle.turn_laws.proofs.PushOwners.{IsOwned, IsWrite, before_packets, below_count, pushed_or_owned}
use Rattle.turn_laws.proofs.PushSerials.{Has, note_count}
use Rattle.turn_laws.proofs.RequestPackets.{Sound, sound_law}
use Rattle.turn_laws.proofs.SentOwn.{told_both}
use Rattle.turn_laws.proofs.TargetHails.{AreForeign, AsksCalled, IsCalling, IsForeign, called_law, calling, foreign, silent}

-- a write that the target sent in the turn, and whose it is
pub record IsNew (t : Turn) (s : ℕ) : Type 0 where
  pub young : (terms (t.start ∷ t.past)).count < s
  pub small : s ≤ (terms (end_of t)).count
  pub write : IsWrite ((terms (end_of t)).sent s)

abbrev pub AreAssigned : List Disk → Turn → Type 0
AreAssigned start t =
    (s : ℕ) → IsNew t s → Has (Pushes start (end_of t)) s ⊎ (((target_at start (end_of t)).reply ≡ None) × IsOwned (target_at start (end_of t)) s)

-- ---- notes among which the target sends nothing
same_sending : (a b : Sending) → Some a ≡ Some b → a ≡ b
same_sending a b e = same_Some a b e

one_sends : (note : Note) (past : List Moment) → IsForeign note → SerialsCount (said note ∷ past) → (s : ℕ) → (terms past).count < s → s ≤ (terms (said note ∷ past)).count
    → (q : Sending) → (terms (said note ∷ past)).sent s ≡ Some q → q.from ≡ 0 → ⊥
one_sends (notes.Sent serial generation from to bytes) past f c s l m q is z =
    let count = count_now past serial generation from to bytes in
    let next = c.0 in
    let same : serial ≡ s = omega (arith, count, next, l, m) in
    let new : Sending = record { generation = generation; from = from; to = to; bytes = bytes; injected = (terms past).injected serial } in
    let own : new ≡ q = same_sending new q (sym (sent_there past serial generation from to bytes) ∙ subst (λ n. (terms (said (notes.Sent serial generation from to bytes) ∷ past)).sent n ≡ Some q) (sym same) is) in
    f (ap (λ (x : Sending). x.from) own ∙ z)
one_sends note past f c s l m q is z = let k = note_count note (terms past) tt in absurd (omega (arith, k, l, m))

none_sends : (ns : List Note) (past : List Moment) → AreForeign ns → SerialsCount (once_told past ns) → (s : ℕ) → (terms past).count < s → s ≤ (terms (once_told past ns)).count
    → (q : Sending) → (terms (once_told past ns)).sent s ≡ Some q → q.from ≡ 0 → ⊥
none_sends [] past f c s l m q is z = absurd (omega (arith, l, m))
none_sends (note ∷ ns) past f c s l m q is z = by (λ counts high low there. none_sends ns (said note ∷ past) f.1 counts s high low q there z) (nat_le s (terms then).count) refl
  where
    then : List Moment
    then = said note ∷ past

    ends : once_told past (note ∷ ns) ≡ once_told then ns
    ends = told_one note ns past

    counts : SerialsCount (once_told then ns)
    counts = subst SerialsCount ends c

    there : (terms (once_told then ns)).sent s ≡ Some q
    there = subst (λ ms. (terms ms).sent s ≡ Some q) ends is

    More : Type 0
    More = SerialsCount (once_told then ns) → (terms then).count < s → s ≤ (terms (once_told then ns)).count → (terms (once_told then ns)).sent s ≡ Some q → ⊥

    by : More → (b : Bool) → nat_le s (terms then).count ≡ b → ⊥
    by more true e =
        let low : s ≤ (terms then).count = grind (arith, nat_tests) in
        let kept = (remains (map said (reverse ns)) then counts).sent s low in
        one_sends note past f.0 (serials_from (map said (reverse ns)) then counts) s l low q (sym kept ∙ there) z
    by more false e = more counts (grind (arith, nat_tests)) (subst (λ ms. s ≤ (terms ms).count) ends m) there

unsent_foreign : (note : Note) → is_sent note ≡ false → IsForeign note
unsent_foreign (notes.Sent serial generation from to bytes) e = untrue (sym e)
unsent_foreign note e = tt

silent_foreign : (ns : List Note) → sends_of ns ≡ [] → AreForeign ns
silent_foreign [] e = tt
silent_foreign (note ∷ ns) e = by (λ g. silent_foreign ns g) (is_sent note) refl e
  where
    by : (sends_of ns ≡ [] → AreForeign ns) → (b : Bool) → is_sent note ≡ b → cond b (note ∷ sends_of ns) (sends_of ns) ≡ [] → AreForeign (note ∷ ns)
    by later true f g = absurd (let no : note ∷ sends_of ns ≡ [] = g in cc)
    by later false f g = (unsent_foreign note f, later g)

-- ---- what the target tells stands before what it sends
module _ (past : List Moment) where
  one_effect : (note : Note) (ms : List Moment) → is_sent note ≡ false → (terms (said note ∷ ms)).count ≡ (terms ms).count
  one_effect (notes.Sent serial generation from to bytes) ms e = untrue (sym e)
  one_effect note ms e = note_count note (terms ms) tt

  effects_count : (ns : List Note) (ms : List Moment) → (terms (once_told ms (effects_of ns))).count ≡ (terms ms).count
  effects_count [] ms = refl
  effects_count (note ∷ ns) ms = by (effects_count ns ms) (effects_count ns (said note ∷ ms)) (is_sent note) refl
    where
      Same : List Moment → Type 0
      Same before = (terms (once_told before (effects_of ns))).count ≡ (terms before).count

      by : Same ms → Same (said note ∷ ms) → (b : Bool) → is_sent note ≡ b → (terms (once_told ms (cond b (effects_of ns) (note ∷ effects_of ns)))).count ≡ (terms ms).count
      by h k true e = h
      by h k false e = ap (λ xs. (terms xs).count) (told_one note (effects_of ns) ms) ∙ (k ∙ one_effect note ms e)

  one_packet : (note : Note) (ms : List Moment) → is_sent note ≡ true → before_packets (said note ∷ ms) ≡ before_packets ms
  one_packet (notes.Sent serial generation from to bytes) ms e = refl
  one_packet note ms e = untrue e

  packets_front : (ns : List Note) (ms : List Moment) → before_packets (once_told ms (sends_of ns)) ≡ before_packets ms
  packets_front [] ms = refl
  packets_front (note ∷ ns) ms = by (packets_front ns ms) (packets_front ns (said note ∷ ms)) (is_sent note) refl
    where
      Same : List Moment → Type 0
      Same before = before_packets (once_told before (sends_of ns)) ≡ before_packets before

      by : Same ms → Same (said note ∷ ms) → (b : Bool) → is_sent note ≡ b → before_packets (once_told ms (cond b (note ∷ sends_of ns) (sends_of ns))) ≡ before_packets ms
      by h k true e = ap before_packets (told_one note (sends_of ns) ms) ∙ (k ∙ one_packet note ms e)
      by h k false e = h

  front_low : (ns : List Note) → ns ≡ effects_of ns ++ sends_of ns → before_packets (once_told past ns) ≤ (terms past).count
  front_low ns e =
      let told = once_told past (effects_of ns) in
      let split : once_told past ns ≡ once_told told (sends_of ns) = ap (once_told past) e ∙ told_both (effects_of ns) (sends_of ns) past in
      let front : before_packets (once_told past ns) ≡ before_packets told = ap before_packets split ∙ packets_front ns told in
      let low = below_count told in
      let count = effects_count ns past in
      omega (arith, front, low, count)

-- ---- a turn
module _ (start : List Disk) (t : Turn) (sound : Sound start t) where
  abbrev first : List Moment
  first = t.start ∷ t.past

  of_foreign : AreForeign t.rest → AreAssigned start t
  of_foreign f s n = absurd (none_sends t.rest first f sound.own.1 s n.young n.small n.write.packet n.write.is n.write.from)

  of_calling : IsCalling start t → AreAssigned start t
  of_calling c s n =
      let order : InOrder t = subst (λ x. OrdersTurn x t) c.begins sound.ordered in
      let low : before_packets (end_of t) ≤ (terms first).count = front_low first t.rest order.first in
      let young = n.young in
      pushed_or_owned start (end_of t) sound.own.1 s (omega (arith, low, young)) n.small n.write

  assigned : AsksCalled start t → AreAssigned start t
  assigned (foreign f) = of_foreign f
  assigned (silent e) = of_foreign (silent_foreign t.rest e)
  assigned (calling c) = of_calling c

pub assigned_law : OfEveryRun (λ start past. EachTurn (AreAssigned start) past)
assigned_law = joined_law Sound AsksCalled AreAssigned (λ start t sound called. assigned start t sound called) sound_law called_law
