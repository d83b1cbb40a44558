-- What is so where the notes that stand in front of others tell of no death: what the target told in a call tells of none.
use Rattle.sbp_world.proofs.Words.Std.{◌≡◌, ◌∙◌, refl, sym, ap, subst, ℕ, List, [], ◌∷◌, ◌++◌, false≢true}
use Rattle.sbp_world.proofs.Words.Wire.{OutboxState, Note, Side}
use Rattle.sbp_world.proofs.Words.Target.{NodeState}
use Rattle.sbp_world.proofs.Words.World.{AreOthers, IsOther, WorldState, handed_out, told, told_all}
use Rattle.sbp_journal.specs.declared.note.Note.TheVariants as notes
use Rattle.sbp_journal.specs.declared.side.Side.TheVariants as sides
use Rattle.sbp_world.specs.Completing.Deaths.{AreLiving, IsLiving}
use Rattle.sbp_world.proofs.Common.{notes_joined}
use Rattle.sbp_world.proofs.Formed.{AreOwn}
use Rattle.sbp_world.proofs.Completing.DeadKnownCalls.{AreAlive}
use Rattle.sbp_world.proofs.Completing.DeathsTurns.{Adds, AllMid, IsMid, adds_one, all_sent, any, both, deathless, handed_adds, own_said}
use Rattle.sbp_world.proofs.Wire.Nodes.{handed_alike}

pub record Says (old new : List Note) (Q : Type 0) : Type 0 where
  pub more : List Note
  pub is : more ++ old ≡ new
  pub mid : AllMid any more
  pub back : AllMid deathless more → Q

apart : (a b : List Note) → AllMid deathless (a ++ b) → AllMid deathless a × AllMid deathless b
apart [] b f = (tt, f)
apart (m ∷ a) b f = let x = apart a b f.1 in ((f.0, x.0), x.1)

pub says_adds : (old new : List Note) (Q : Type 0) → Adds any old new → Q → Says old new Q
says_adds old new Q a q = record { more = a.more; is = a.is; mid = a.mid; back = λ f. q }

says_map : (old new : List Note) (P Q : Type 0) → (P → Q) → Says old new P → Says old new Q
says_map old new P Q g s = record { more = s.more; is = s.is; mid = s.mid; back = λ f. g (s.back f) }

says_then : (one two three : List Note) (P Q : Type 0) → Says one two P → Says two three Q → Says one three (P × Q)
says_then one two three P Q a b = record {
  more = b.more ++ a.more;
  is = notes_joined b.more a.more one ∙ ap (λ ns. b.more ++ ns) a.is ∙ b.is;
  mid = both any b.more a.more b.mid a.mid;
  back = λ f. let x = apart b.more a.more f in (a.back x.1, b.back x.0);
}

-- behind a note that is of no death
pub says_behind : (note : Note) (old new : List Note) (Q : Type 0) → IsMid any note → Says (note ∷ old) new Q → Says old new Q
says_behind note old new Q m s =
    says_map old new (Unit {0} × Q) Q (λ x. x.1) (says_then old (note ∷ old) new (Unit {0}) Q (says_adds old (note ∷ old) (Unit {0}) (adds_one any note old m) tt) s)

-- ---- what is told
one_told : (weight : ℕ) (side : Side) (w : WorldState) → IsOther side → Says w.fresh (told weight side w).fresh (IsLiving side)
unfolding told
one_told weight (sides.Own note) w o = absurd o
one_told weight (sides.Opened place orb) w o = record { more = []; is = refl; mid = tt; back = λ f. tt }
one_told weight (sides.Ran place orb cdb payload outcome) w o = record { more = notes.Ran _ _ _ _ _ _ _ ∷ []; is = refl; mid = (tt, tt); back = λ f. tt }
one_told weight (sides.Ended place orb status) w o = record { more = notes.Ended _ _ _ _ ∷ []; is = refl; mid = (tt, tt); back = λ f. tt }
one_told weight (sides.Dead place cause) w o = record { more = notes.Dead _ _ _ ∷ []; is = refl; mid = (refl, tt); back = λ f. absurd (false≢true f.0) }
one_told weight (sides.Cut place cause) w o = record { more = notes.Cut _ _ _ ∷ []; is = refl; mid = (tt, tt); back = λ f. tt }
one_told weight (sides.Managed node function subject status login) w o = record { more = notes.Managed _ _ _ _ _ ∷ []; is = refl; mid = (tt, tt); back = λ f. tt }
one_told weight (sides.ManageFailed node cause) w o = record { more = notes.ManageFailed _ _ ∷ []; is = refl; mid = (refl, tt); back = λ f. tt }
one_told weight (sides.Held login) w o = record { more = notes.Held login ∷ []; is = refl; mid = (tt, tt); back = λ f. tt }
one_told weight (sides.Expired login) w o = record { more = notes.Expired login ∷ []; is = refl; mid = (tt, tt); back = λ f. tt }
one_told weight (sides.Back login) w o = record { more = notes.Back login ∷ []; is = refl; mid = (tt, tt); back = λ f. tt }
one_told weight (sides.Left login) w o = record { more = notes.Left login ∷ []; is = refl; mid = (tt, tt); back = λ f. tt }
one_told weight (sides.Cleared unit) w o = record { more = notes.Cleared unit ∷ []; is = refl; mid = (tt, tt); back = λ f. tt }
one_told weight (sides.Unsolicited place) w o = record { more = notes.Unsolicited _ ∷ []; is = refl; mid = (tt, tt); back = λ f. tt }
one_told weight (sides.Unsent place) w o = record { more = notes.Unsent _ ∷ []; is = refl; mid = (tt, tt); back = λ f. tt }

all_told : (weight : ℕ) (side : List Side) (w : WorldState) → AreOthers side → Says w.fresh (told_all weight side w).fresh (AreLiving side)
unfolding told_all
all_told weight [] w o = record { more = []; is = refl; mid = tt; back = λ f. tt }
all_told weight (side ∷ later) w o =
    let v = told weight side w in
    says_then w.fresh v.fresh (told_all weight later v).fresh (IsLiving side) (AreLiving later) (one_told weight side w o.0) (all_told weight later v o.1)

handed_says : (node weight : ℕ) (outbox : OutboxState) (w : WorldState) → AreOthers outbox.sides → Says w.fresh (handed_out node weight outbox w).fresh (AreLiving outbox.sides)
handed_says node weight outbox w o =
    let v = told_all weight outbox.sides w in
    let new = (handed_out node weight outbox w).fresh in
    says_map w.fresh new (AreLiving outbox.sides × Unit {0}) (AreLiving outbox.sides) (λ x. x.0)
    (says_then w.fresh v.fresh new (AreLiving outbox.sides) (Unit {0}) (all_told weight outbox.sides w o) (says_adds v.fresh new (Unit {0}) (all_sent any node outbox.packets v) tt))

-- ---- the agents of a target, then those of a world
abbrev pub Lives : NodeState → WorldState → Type 0
Lives x v = AreAlive x.desks → AreAlive v.target.desks

-- the target is as it was
pub same_says : (old : List Note) (x : NodeState) (v : WorldState) → v.target ≡ x → Adds any old v.fresh → Says old v.fresh (Lives x v)
same_says old x v e a = says_adds old v.fresh (Lives x v) a (λ k. subst (λ (n : NodeState). AreAlive n.desks) (sym e) k)

-- an initiator hands out
pub own_hands : (node weight : ℕ) (outbox : OutboxState) (x : NodeState) (u : WorldState) → u.target ≡ x → AreOwn outbox.sides → Says u.fresh (handed_out node weight outbox u).fresh (Lives x (handed_out node weight outbox u))
own_hands node weight outbox x u e h =
    same_says u.fresh x (handed_out node weight outbox u) ((handed_alike node weight outbox u).target ∙ e) (handed_adds any node weight outbox u (own_said any outbox.sides h))

-- the target does
pub target_hands : (node weight : ℕ) (outbox : OutboxState) (x : NodeState) (u : WorldState) → AreOthers outbox.sides → (AreLiving outbox.sides → AreAlive x.desks → AreAlive u.target.desks) → Says u.fresh (handed_out node weight outbox u).fresh (Lives x (handed_out node weight outbox u))
target_hands node weight outbox x u o f =
    let v = handed_out node weight outbox u in
    says_map u.fresh v.fresh (AreLiving outbox.sides) (Lives x v) (λ l a. subst (λ (n : NodeState). AreAlive n.desks) (sym (handed_alike node weight outbox u).target) (f l a)) (handed_says node weight outbox u o)
