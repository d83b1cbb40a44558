-- How many initiators a run has is what its first line says: no later note tells of another.
use Rattle.sbp_world.proofs.Words.Std.{◌≡◌, refl, ◌∙◌, ℕ, Bool, true, false, List, [], ◌∷◌, ◌++◌, map, Some}
use Rattle.sbp_world.proofs.Words.Wire.{Moment, said, Note}
use Rattle.sbp_world.proofs.Words.Initiator.{is_step}
use Rattle.sbp_world.proofs.Words.Laws.{initiators, AreEffects, delivered_by, is_effect}
use Rattle.sbp_journal.specs.declared.note.Note.TheVariants as notes

-- it begins no run
abbrev pub is_begin : Note → Bool
is_begin (notes.Begin count ready) = true
is_begin note = false

abbrev pub NoneBegins : List Note → Type 0
NoneBegins [] = Unit {0}
NoneBegins (note ∷ ns) = (is_begin note ≡ false) × NoneBegins ns

pub none_append : (one two : List Note) → NoneBegins one → NoneBegins two → NoneBegins (one ++ two)
none_append [] two n m = m
none_append (note ∷ one) two n m = (n.0, none_append one two n.1 m)

one_same : (note : Note) (past : List Moment) → is_begin note ≡ false → initiators (said note ∷ past) ≡ initiators past
one_same (notes.Begin count ready) past e = cc
one_same note past e = refl

pub same_initiators : (ns : List Note) (past : List Moment) → NoneBegins ns → initiators (map said ns ++ past) ≡ initiators past
same_initiators [] past n = refl
same_initiators (note ∷ ns) past n = one_same note (map said ns ++ past) n.0 ∙ same_initiators ns past n.1

effect_none : (note : Note) → is_effect note ≡ true → is_begin note ≡ false
effect_none (notes.Begin count ready) e = cc
effect_none note e = refl

pub effects_none : (ns : List Note) → AreEffects ns → NoneBegins ns
effects_none [] e = tt
effects_none (note ∷ ns) e = (effect_none note e.0, effects_none ns e.1)

pub delivered_none : (note : Note) (serial : ℕ) → delivered_by note ≡ Some serial → is_begin note ≡ false
delivered_none (notes.Begin count ready) serial e = cc
delivered_none note serial e = refl

pub step_none : (note : Note) → is_step note ≡ true → is_begin note ≡ false
step_none (notes.Begin count ready) e = cc
step_none note e = refl
