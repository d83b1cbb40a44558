-- A turn of the target, by its moments: what it takes of the lists of an initiator, and what it answers.
use Rattle.sbp_world.proofs.Words.Std.{◌≡◌, ◌⊎◌, ◌∙◌, refl, ◌<◌, ℕ, suc, true, false, List, [], ◌∷◌, ◌++◌, map, Option, Some, None, false≢true}
use Rattle.sbp_world.proofs.Words.Wire.{Moment, said, Sending, Transaction, begun_by, Owed, Terms, begins, pays, puts, terms, Note}
use Rattle.sbp_world.proofs.Words.World.{holder, WorldState, AllOf, AreOpenFor, IsUp, of_rest, view}
use Rattle.sbp_journal.specs.declared.note.Note.TheVariants as notes
use Rattle.sbp_world.proofs.Lists.Generations.{is_sight}
use Rattle.sbp_world.proofs.Lists.OpenedFirst.{generation_same, is_first, lists_same, operation_same}
use Rattle.sbp_world.proofs.Lists.OpenedMoments.{of_target}
use Rattle.sbp_world.proofs.Lists.OpenedTurns.{Grown, IsNews, Known, NoneUp, Opens, WasUp, turn_keeps}

module _ (i : ℕ) (H : List Moment) (w v : WorldState) (m : Moment) (first : is_first m ≡ true) (still : is_sight (suc i) m ≡ false) (more : List Note) (all : AllOf of_target more) where
  abbrev now : List Moment
  now = map said more ++ m ∷ H

  pub target_turn : Grown (view H i) (view now i) → Known (view H i) w i → AreOpenFor (view H i) w i → ((view H i).target < (view now i).target → NoneUp v i) → ((place : ℕ) → place < 8 → IsUp v i place → WasUp w v i place ⊎ Opens (view H i) (view now i) i place (holder v place).list) → IsNews (view H i) (view now i) v i → AreOpenFor (view now i) v i
  target_turn grown known o rises opens news =
      let l = lists_same i more m H all first in
      turn_keeps (view H i) (view now i) w v i grown known o (record {
        own = generation_same i more m H all first (suc i) still;
        present = l.present;
        begun = l.begun;
        operation = λ u e. operation_same i more m H all first u e;
        rises = rises;
        opens = opens;
        news = news;
      })

-- ---- nothing is owed, and so nothing is answered
record Quiet (t u : Terms) : Type 0 where
  owes : u.owes ≡ None
  answers : u.answers ≡ t.answers

begins_quiet : (b : Option Transaction) (s : ℕ) (packet : Sending) (t : Terms) → t.owes ≡ None → Quiet t (begins b s packet t)
begins_quiet None s packet t e = record { owes = e; answers = refl }
begins_quiet (Some u) s packet t e = record { owes = e; answers = refl }

pays_quiet : (owed : Option Owed) (sent : ℕ → Option Sending) (s : ℕ) (packet : Sending) (t : Terms) → owed ≡ None → t.owes ≡ None → Quiet t (pays owed sent s packet t)
pays_quiet None sent s packet t e f = record { owes = f; answers = refl }
pays_quiet (Some owed) sent s packet t e f = absurd (differ e)
  where
    differ : Some owed ≡ None → ⊥
    differ g = cc

note_quiet : (note : Note) (past : List Moment) → of_rest note ≡ true → (terms past).owes ≡ None → Quiet (terms past) (terms (said note ∷ past))
note_quiet (notes.Begin initiators ready) past a e = absurd (false≢true a)
note_quiet (notes.Got serial) past a e = absurd (false≢true a)
note_quiet (notes.Ignored serial cause) past a e = absurd (false≢true a)
note_quiet (notes.TimedOut serial) past a e = absurd (false≢true a)
note_quiet (notes.Seen node generation) past a e = absurd (false≢true a)
note_quiet (notes.Sent serial generation from to bytes) past a e =
    let t = terms past in
    let packet : Sending = record { generation = generation; from = from; to = to; bytes = bytes; injected = t.injected serial } in
    let put = puts (begun_by packet) serial packet t in
    let b = begins_quiet (begun_by packet) serial packet put e in
    let p = pays_quiet t.owes t.sent serial packet (begins (begun_by packet) serial packet put) e b.owes in
    record { owes = p.owes; answers = p.answers ∙ b.answers }
note_quiet _ past a e = record { owes = e; answers = refl }

all_quiet : (more : List Note) (past : List Moment) → AllOf of_rest more → (terms past).owes ≡ None → Quiet (terms past) (terms (map said more ++ past))
all_quiet [] past a e = record { owes = e; answers = refl }
all_quiet (note ∷ more) past a e =
    let r = all_quiet more past a.1 e in
    let s = note_quiet note (map said more ++ past) a.0 r.owes in
    record { owes = s.owes; answers = s.answers ∙ r.answers }

pub none_answered : (more : List Note) (past : List Moment) → AllOf of_rest more → (terms past).owes ≡ None → (terms (map said more ++ past)).answers ≡ (terms past).answers
none_answered more past a e = (all_quiet more past a e).answers
