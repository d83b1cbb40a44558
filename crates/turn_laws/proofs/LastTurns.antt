-- The last turn of a history that went on from one place of a run to the next: it begins at the place before, or behind the line that begins there.
use Rattle.std.proofs.Common.{◌≡◌, ◌∙◌, sym, subst, ℕ, Bool, true, false, List, [], ◌∷◌, ◌++◌, map}
use Rattle.sbp_bus.specs.Packets.{end_note, judged_note}
use Rattle.sbp_journal.specs.Run.{Moment, asked, said}
use Rattle.sbp_journal.specs.declared.cause.Judged.{Judged}
use Rattle.sbp_journal.specs.declared.cause.Judged.TheVariants as judgements
use Rattle.sbp_journal.specs.declared.note.Note.{Note}
use Rattle.sbp_journal.specs.declared.note.Note.TheVariants as notes
use Rattle.sbp_laws.specs.Deliveries.{once_told}
use Rattle.sbp_laws.specs.Turns.{EachTurn, EachTurnBefore, Turn, turn}
use Rattle.sbp_world.specs.Worlds.{Scene}
use Rattle.sbp_world.proofs.Agents.Management.Still.{hist}
use Rattle.sbp_world.proofs.Lists.Courses.{Goes}
use Rattle.sbp_world.proofs.Lists.SendsLast.{AllEffects, AllSends, IsEffect, IsSend, IsStart}
use Rattle.sbp_world.proofs.Lists.TurnShapes.{Behind, Shape, as_before, by_asked, by_ended, by_judged, by_noted, goes_shape}
use Rattle.turn_laws.proofs.AbortTurns.{IsFirst}
use Rattle.turn_laws.proofs.Handed.{AllInner, IsInner}
use Rattle.turn_laws.proofs.PresentOrbs.{told_one}
use Rattle.turn_laws.proofs.TurnBegins.{BeginsAt, IsLast, at_place, behind_line}

pub record LastTurn (L : Turn → Type 0) (before now : List Moment) : Type 0 where
  pub t : Turn
  pub last : IsLast before now t
  pub law : L t

pub data Went (L : Turn → Type 0) (before now : List Moment) : Type 0 where
  stays : now ≡ before → Went L before now
  goes : LastTurn L before now → Went L before now

-- ---- the notes of the turn
effect_inner : (note : Note) → IsEffect note → IsInner note
effect_inner (notes.Got serial) e = absurd e
effect_inner (notes.Ignored serial cause) e = absurd e
effect_inner (notes.TimedOut serial) e = absurd e
effect_inner (notes.Seen node generation) e = absurd e
effect_inner notes.Tick e = absurd e
effect_inner notes.Settled e = absurd e
effect_inner notes.Stopped e = absurd e
effect_inner note e = tt

send_inner : (note : Note) → IsSend note → IsInner note
send_inner (notes.Sent serial generation from to bytes) e = tt
send_inner note e = absurd e

all_effects : (ns : List Note) → AllEffects ns → AllInner ns
all_effects [] e = tt
all_effects (note ∷ ns) e = (effect_inner note e.0, all_effects ns e.1)

all_sends : (ns : List Note) → AllSends ns → AllInner ns
all_sends [] e = tt
all_sends (note ∷ ns) e = (send_inner note e.0, all_sends ns e.1)

module _ (L : Turn → Type 0) where
  inner_back : (note : Note) → IsInner note → (past : List Moment) (rest : List Note) → EachTurnBefore L (said note ∷ past) rest → EachTurnBefore L past (note ∷ rest)
  inner_back (notes.Got serial) q past rest e = absurd q
  inner_back (notes.Ignored serial cause) q past rest e = absurd q
  inner_back (notes.TimedOut serial) q past rest e = absurd q
  inner_back (notes.Seen node generation) q past rest e = absurd q
  inner_back notes.Tick q past rest e = absurd q
  inner_back notes.Settled q past rest e = absurd q
  inner_back notes.Stopped q past rest e = absurd q
  inner_back note q past rest e = e

  -- with the notes behind some moments
  record Before (base now : List Moment) : Type 0 where
    rest : List Note
    is : once_told base rest ≡ now
    turns : EachTurnBefore L base rest

  back : (front : List Note) → AllInner front → (base : List Moment) (rest : List Note) (now : List Moment) → once_told (map said front ++ base) rest ≡ now → EachTurnBefore L (map said front ++ base) rest → Before base now
  back [] q base rest now is e = record { rest = rest; is = is; turns = e }
  back (note ∷ front) q base rest now is e =
      let past = map said front ++ base in back front q.1 base (note ∷ rest) now (told_one note rest past ∙ is) (inner_back note q.0 past rest e)

  before_all : (base now : List Moment) → Behind base now → EachTurn L now → Before base now
  before_all base now b e =
      let middle = map said b.effects ++ base in
      let sent : Before middle now = back b.sends (all_sends b.sends b.are_sends) middle [] now b.is (subst (EachTurn L) (sym b.is) e) in
      back b.effects (all_effects b.effects b.are_effects) base sent.rest now sent.is sent.turns

  -- ---- its first moment
  starts : (note : Note) → IsStart note → (past : List Moment) (rest : List Note) → EachTurnBefore L (said note ∷ past) rest → IsFirst (said note) × L (turn past (said note) rest)
  starts (notes.Got serial) q past rest e = (tt, e.0)
  starts (notes.Ignored serial cause) q past rest e = (tt, e.0)
  starts (notes.TimedOut serial) q past rest e = (tt, e.0)
  starts (notes.Seen node generation) q past rest e = (tt, e.0)
  starts notes.Tick q past rest e = (tt, e.0)
  starts notes.Settled q past rest e = (tt, e.0)
  starts notes.Stopped q past rest e = (tt, e.0)
  starts note q past rest e = absurd q

  judged : (serial : ℕ) (x : Judged) (past : List Moment) (rest : List Note) → (let m = said (judged_note serial x) in EachTurnBefore L (m ∷ past) rest → IsFirst m × L (turn past m rest))
  judged serial judgements.Got past rest e = (tt, e.0)
  judged serial (judgements.Ignored cause) past rest e = (tt, e.0)

  ended : (done : Bool) (past : List Moment) → (let m = said (end_note done) in EachTurn L (m ∷ past) → IsFirst m × L (turn past m []))
  ended true past e = (tt, e.0)
  ended false past e = (tt, e.0)

  module _ (before now : List Moment) (e : EachTurn L now) where
    by_note : (past : List Moment) → BeginsAt before past → (m : Moment) (b : Before (m ∷ past) now) → IsFirst m × L (turn past m b.rest) → Went L before now
    by_note past from m b x = goes (record { t = turn past m b.rest; last = record { begins = from; first = x.0; is = b.is }; law = x.1 })

    of_shape : Shape before now → Went L before now
    of_shape (as_before is) = stays is
    of_shape (by_asked line event b) = let x = before_all (asked line event ∷ before) now b e in by_note before at_place (asked line event) x (tt, x.turns.0)
    of_shape (by_noted note q line event b) =
        let past = asked line event ∷ before in
        let x = before_all (said note ∷ past) now b e in by_note past (behind_line line event) (said note) x (starts note q past x.rest x.turns)
    of_shape (by_judged serial y b) =
        let m = said (judged_note serial y) in
        let x = before_all (m ∷ before) now b e in by_note before at_place m x (judged serial y before x.rest x.turns)
    of_shape (by_ended done is) =
        let x = ended done before (subst (EachTurn L) (sym is) e) in goes (record { t = turn before (said (end_note done)) []; last = record { begins = at_place; first = x.0; is = is }; law = x.1 })

  pub last_turn : (past : List Moment) (s : Scene) (later : List Moment) (t : Scene) → Goes past s later t → EachTurn L (hist later t.world) → Went L (hist past s.world) (hist later t.world)
  last_turn past s later t g e = of_shape (hist past s.world) (hist later t.world) e (goes_shape past s later t g)
