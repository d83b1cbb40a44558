-- A run whose notes are inside the types of their fields has the part of the laws that is of the bus, with notes that their text determines.
use Rattle.sbp_world.proofs.Words.Std.{ℕ, ◌≤◌, ◌<◌, ◌^◌, List, [], ◌∷◌, ◌++◌, map, arith, AllByRecursion}
use Rattle.sbp_world.proofs.Words.Wire.{Moment, said, history, IsTyped, Note}
use Rattle.sbp_world.proofs.Words.Laws.{injectors, FormedOnTheBus, IsTypedAt, LawfulOnTheBus, EachMoment}
use Rattle.sbp_world.proofs.Words.World.{AreTyped, history_of, Entry, Run, journal_entries, journal_run}
use Rattle.sbp_laws.proofs.Parts.{part_of_lawful}

typed_notes : (notes : List Note) (past : List Moment) → AllByRecursion IsTyped notes → EachMoment IsTypedAt past → EachMoment IsTypedAt (map said notes ++ past)
typed_notes [] past t e = e
typed_notes (note ∷ notes) past t e = (t.0, typed_notes notes past t.1 e)

typed_entries : (line : ℕ) (run : Run) → run.initiators ≤ 4 → (entries : List Entry) → AllByRecursion AreTyped entries → EachMoment IsTypedAt (history (journal_entries line run entries))
typed_entries line run few [] t = let small : run.initiators < 2 ^ 64 = omega arith in ((small, (tt, tt)), (tt, tt))
typed_entries line run few (e ∷ before) t = typed_notes e.notes _ t.0 (tt, typed_entries line run few before t.1)

pub lawful_where_typed : (line : ℕ) (run : Run) → run.initiators ≤ 4 → FormedOnTheBus (injectors (history_of line run)) (journal_run line run) → AllByRecursion AreTyped run.entries → LawfulOnTheBus (injectors (history_of line run)) (journal_run line run)
lawful_where_typed line run few formed typed = part_of_lawful.typed _ (journal_run line run) formed (typed_entries line run few run.entries typed)
