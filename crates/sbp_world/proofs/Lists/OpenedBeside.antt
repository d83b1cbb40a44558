-- Where no initiator injected packets, or few logins were given, it was so before a line, and before a delivery of it.
use Rattle.sbp_world.proofs.Words.Std.{◌∙◌, sym, ap, subst, ℕ, false, List, [], ◌∷◌, ◌++◌, map, Option, Some, None}
use Rattle.sbp_world.proofs.Words.Wire.{Event, Note, Moment, asked, said}
use Rattle.sbp_world.proofs.Words.Target.{Told}
use Rattle.sbp_world.proofs.Words.World.{delivered_at, delivered_next, lowest, Scene, IsTameOrFew}
use Rattle.sbp_world.proofs.Lists.Beside.{tame_or_few_before}
use Rattle.sbp_world.proofs.Lists.Extends.{Extends, delivered_extends, extends_none}
use Rattle.sbp_world.proofs.Common.{said_split as split}

-- before a line and its notes
pub beside_line : (notes : List Note) (line : ℕ) (event : Event) (past : List Moment) → IsTameOrFew (map said notes ++ asked line event ∷ past) → IsTameOrFew past
beside_line notes line event past beside = tame_or_few_before (asked line event ∷ []) past (tame_or_few_before (map said notes) (asked line event ∷ past) beside)

-- before a delivery of a line
more_beside : (old new : List Note) (past : List Moment) → Extends old new → IsTameOrFew (map said new ++ past) → IsTameOrFew (map said old ++ past)
more_beside old new past e beside = tame_or_few_before (map said e.more) (map said old ++ past) (subst IsTameOrFew (ap (λ ns. map said ns ++ past) (sym e.is) ∙ split e.more old past) beside)

pub next_extends : (one : Option Told) (s : Scene) → Extends s.world.fresh (delivered_next one s).world.fresh
unfolding delivered_next
next_extends one s = by (lowest s.world)
  where
    by : (o : Option ℕ) → Extends s.world.fresh (delivered_at o one s).world.fresh
    by None = extends_none s.world.fresh
    by (Some serial) = delivered_extends serial false one s

pub beside_next : (past : List Moment) (one : Option Told) (s : Scene) → IsTameOrFew (map said (delivered_next one s).world.fresh ++ past) → IsTameOrFew (map said s.world.fresh ++ past)
beside_next past one s beside = more_beside s.world.fresh (delivered_next one s).world.fresh past (next_extends one s) beside
