-- A delivery is one arrival at most: what a node tells and sends is none.
use Rattle.sbp_world.proofs.Words.Std.{arith, ◌≡◌, ◌∙◌, refl, sym, ap, ℕ, suc, ◌≤◌, false, List, [], ◌∷◌, ◌++◌, map, Option}
use Rattle.sbp_world.proofs.Words.Wire.{Judged, Moment, Note, judged_note, said}
use Rattle.sbp_world.proofs.Words.Target.{Told}
use Rattle.sbp_world.proofs.Words.World.{MayReceive, Scene, delivered}
use Rattle.sbp_journal.specs.declared.cause.Judged.TheVariants as judgements
use Rattle.sbp_journal.specs.declared.note.Note.TheVariants as notes
use Rattle.sbp_laws.specs.Completion.{arrivals}
use Rattle.sbp_world.proofs.Agents.Management.Still.{hist}
use Rattle.sbp_world.proofs.Common.{said_split as split}
use Rattle.sbp_world.proofs.Lists.SendsLast.{AllEffects, AllSends, Hands, Hears, IsEffect, IsSend, delivery_hears, hears, unheard}

effect_none : (note : Note) (past : List Moment) → IsEffect note → arrivals (said note ∷ past) ≡ arrivals past
effect_none (notes.Got serial) past e = absurd e
effect_none (notes.Ignored serial cause) past e = absurd e
effect_none note past e = refl

send_none : (note : Note) (past : List Moment) → IsSend note → arrivals (said note ∷ past) ≡ arrivals past
send_none (notes.Sent serial generation from to bytes) past e = refl
send_none note past e = absurd e

effects_none : (told : List Note) (past : List Moment) → AllEffects told → arrivals (map said told ++ past) ≡ arrivals past
effects_none [] past e = refl
effects_none (note ∷ told) past e = effect_none note (map said told ++ past) e.0 ∙ effects_none told past e.1

sends_none : (told : List Note) (past : List Moment) → AllSends told → arrivals (map said told ++ past) ≡ arrivals past
sends_none [] past e = refl
sends_none (note ∷ told) past e = send_none note (map said told ++ past) e.0 ∙ sends_none told past e.1

handed_none : (old new : List Note) (past : List Moment) → Hands old new → arrivals (map said new ++ past) ≡ arrivals (map said old ++ past)
handed_none old new past h =
    ap (λ ns. arrivals (map said ns ++ past)) (sym h.sent.is) ∙ ap arrivals (split h.sent.more h.middle past) ∙ sends_none h.sent.more (map said h.middle ++ past) h.sent.sends
    ∙ (ap (λ ns. arrivals (map said ns ++ past)) (sym h.told.is) ∙ ap arrivals (split h.told.more old past) ∙ effects_none h.told.more (map said old ++ past) h.told.effects)

judged_one : (serial : ℕ) (judged : Judged) (past : List Moment) → arrivals (said (judged_note serial judged) ∷ past) ≡ suc (arrivals past)
judged_one serial judgements.Got past = refl
judged_one serial (judgements.Ignored cause) past = refl

heard_one : (old new : List Note) (past : List Moment) → Hears old new → arrivals (map said new ++ past) ≤ suc (arrivals (map said old ++ past))
heard_one old new past (unheard e) = let same = ap (λ ns. arrivals (map said ns ++ past)) e in omega (arith, same)
heard_one old new past (hears serial judged h) =
    let same = handed_none (judged_note serial judged ∷ old) new past h in
    let one = judged_one serial judged (map said old ++ past) in
    omega (arith, same, one)

pub arrived : (past : List Moment) (s : Scene) (serial : ℕ) (run : Option Told) → MayReceive run serial s → arrivals (hist past (delivered serial false run s).world) ≤ suc (arrivals (hist past s.world))
arrived past s serial run m = heard_one s.world.fresh (delivered serial false run s).world.fresh past (delivery_hears s serial false run m)
