-- From place to place of a run in which no initiator injected packets, or few logins were given, each ORB of an initiator that injected none ends as aborted only where an abort named it.
use Rattle.std.proofs.Common.{◌≡◌, sym, subst, ◌<◌, ℕ, Bool, true, false, List, [], ◌∷◌, Some}
use Rattle.orb_layout.specs.declared.status.StatusKind.TheVariants as kinds
use Rattle.rbc_disk.specs.Disk.{Disk}
use Rattle.sbp_journal.specs.Run.{Moment, asked, said}
use Rattle.sbp_journal.specs.declared.note.Note.{Note}
use Rattle.sbp_journal.specs.declared.note.Note.TheVariants as notes
use Rattle.sbp_laws.specs.Aborts.{AbortsStand, is_aborted}
use Rattle.sbp_laws.specs.Deliveries.{once_told}
use Rattle.sbp_laws.specs.Lawful.{injectors}
use Rattle.sbp_laws.specs.Turns.{EachMoment, EachTurn, Turn}
use Rattle.sbp_world.specs.Lists.FewLogins.{IsTameOrFew}
use Rattle.sbp_world.specs.Lists.Needs.{IsCalm}
use Rattle.sbp_world.specs.Worlds.{Scene, WorldState}
use Rattle.sbp_world.proofs.Agents.Management.Holding.{Holding}
use Rattle.sbp_world.proofs.Agents.Management.Still.{hist}
use Rattle.sbp_world.proofs.Lists.Calm.{calm_before}
use Rattle.sbp_world.proofs.Lists.Courses.{Goes}
use Rattle.sbp_world.proofs.Lists.Fair.{Told}
use Rattle.sbp_world.proofs.Lists.Judging.{Grown}
use Rattle.sbp_world.proofs.Lists.LiveRuns.{goes_tame_or_few}
use Rattle.sbp_world.proofs.Lists.ManagedGots.{Kit}
use Rattle.sbp_world.proofs.Lists.StillTurns.{Ground}
use Rattle.turn_laws.specs.Aborted.{AbortedIf}
use Rattle.turn_laws.specs.Ends.{EndsWhereDue}
use Rattle.turn_laws.proofs.AbortCarried.{AreKnown, carried}
use Rattle.turn_laws.proofs.AbortEnds.{AreMarkedEnds, ends_marked}
use Rattle.turn_laws.proofs.AbortHistory.{AreMarked}
use Rattle.turn_laws.proofs.AbortKept.{goes_on}
use Rattle.turn_laws.proofs.AbortOwned.{known_behind}
use Rattle.turn_laws.proofs.AbortPresent.{names_marked}
use Rattle.turn_laws.proofs.AbortRuns.{MarkedBefore, TurnFacts}
use Rattle.turn_laws.proofs.AbortTurns.{IsFirst}
use Rattle.turn_laws.proofs.AgentsUnrun.{AreOn}
use Rattle.turn_laws.proofs.LastTurns.{Went, goes, last_turn, stays}
use Rattle.turn_laws.proofs.PresentOrbs.{told_one}
use Rattle.turn_laws.proofs.TurnBegins.{BeginsAt, at_place, behind_line}

-- ---- what is known of each turn, and of each place
pub record AbortTurn (start : List Disk) (t : Turn) : Type 0 where
  pub facts : TurnFacts start t
  pub marked : MarkedBefore start t
  pub ends : EndsWhereDue start t
  pub stands : AbortsStand start t

pub record AbortPlace (start : List Disk) (ms : List Moment) (w : WorldState) : Type 0 where
  pub ground : Ground start ms w
  pub on : AreOn ms w
  pub marked : AreMarked start ms
  pub kit : Kit start ms w
  pub told : Told ms
  pub turns : EachTurn (AbortTurn start) ms

-- ---- moments
module _ (start : List Disk) where
  module _ (wild more : ℕ → Bool) (fewer : (i : ℕ) → more i ≡ false → wild i ≡ false) where
    one_fewer : (note : Note) (past : List Moment) → AbortedIf start wild (said note) past → AbortedIf start more (said note) past
    one_fewer (notes.Ended i (Some n) (Some k) kinds.Aborted) past h = λ own. h (fewer i own)
    one_fewer note past h = tt

    all_fewer : (past : List Moment) → EachMoment (AbortedIf start wild) past → EachMoment (AbortedIf start more) past
    all_fewer [] h = tt
    all_fewer (asked line event ∷ past) h = (tt, all_fewer past h.1)
    all_fewer (said note ∷ past) h = (one_fewer note past h.0, all_fewer past h.1)

  module _ (wild : ℕ → Bool) where
    abbrev All : List Moment → Type 0
    All past = EachMoment (AbortedIf start wild) past

    all_told : (rest : List Note) (past : List Moment) → AreMarkedEnds start wild past rest → All past → All (once_told past rest)
    all_told [] past m h = h
    all_told (note ∷ rest) past m h = subst All (sym (told_one note rest past)) (all_told rest (said note ∷ past) m.1 (m.0, h))

    first_so : (moment : Moment) (past : List Moment) → IsFirst moment → AbortedIf start wild moment past
    first_so (said (notes.Ended i list number kind)) past f = absurd f
    first_so moment past f = tt

    from_so : (before past : List Moment) → BeginsAt before past → All before → All past
    from_so before _ at_place h = h
    from_so before _ (behind_line line event) h = (tt, h)

    turn_so : (before : List Moment) (t : Turn) → BeginsAt before t.past → IsFirst t.start → AreMarkedEnds start wild (t.start ∷ t.past) t.rest → All before → All (once_told (t.start ∷ t.past) t.rest)
    turn_so before t from first m h = all_told t.rest (t.start ∷ t.past) m (first_so t.start t.past first, from_so before t.past from h)

module _ (units ready : ℕ) (has : 0 < units) (start : List Disk) where
  abbrev pub AbortedSo : List Moment → WorldState → Type 0
  AbortedSo ms w = IsTameOrFew ms → AreKnown units ready has start ms w × EachMoment (AbortedIf start (injectors ms)) ms

  module _ (past : List Moment) (s : Scene) (later : List Moment) (t : Scene) (g : Goes past s later t) {lines more : ℕ} (h : Holding units ready start past lines s.world) (h_now : Holding units ready start later more t.world) (q : AbortPlace start (hist past s.world) s.world) (q_now : AbortPlace start (hist later t.world) t.world) (beside_now : IsTameOrFew (hist later t.world)) where
    abbrev before : List Moment
    before = hist past s.world

    abbrev behind : List Moment
    behind = hist later t.world

    abbrev beside : IsTameOrFew before
    beside = goes_tame_or_few past s later t g beside_now

    went : Went (AbortTurn start) before behind
    went = last_turn (AbortTurn start) past s later t g q_now.turns

    abbrev on : Grown before behind
    on = goes_on units ready has start past s later t g h h_now q.ground q_now.ground beside beside_now

    calm_there : (i : ℕ) → IsCalm behind i → IsCalm before i
    calm_there i calm = calm_before on.new before i (subst (λ ms. IsCalm ms i) (sym on.is) calm)

    module _ (old : AreKnown units ready has start before s.world × EachMoment (AbortedIf start (injectors before)) before) where
      known : Went (AbortTurn start) before behind → AreKnown units ready has start behind t.world
      known (stays is) p address b e calm =
          carried units ready has start past s later t g h h_now q.ground q_now.ground beside beside_now q_now.marked old.0 p address b e (subst (λ ms. is_aborted start ms p address ≡ true) is e) calm
      known (goes x) p address b e calm =
          known_behind units ready has start past s later t g h h_now q.ground q_now.ground beside beside_now q.kit q_now.told x.t x.last q_now.marked old.0 p address b e calm x.law.facts x.law.marked

      abbrev wild : ℕ → Bool
      wild = injectors behind

      old_ends : EachMoment (AbortedIf start wild) before
      old_ends = all_fewer start (injectors before) wild calm_there before old.1

      ends : Went (AbortTurn start) before behind → EachMoment (AbortedIf start wild) behind
      ends (stays is) = subst (EachMoment (AbortedIf start wild)) (sym is) old_ends
      ends (goes x) =
          let names = names_marked units ready has start s.world h q.ground q.on beside old.0 x.t x.last.begins wild calm_there in
          subst (EachMoment (AbortedIf start wild)) x.last.is
          (turn_so start wild before x.t x.last.begins x.last.first (ends_marked start wild x.t x.law.ends x.law.stands names) old_ends)

      pub turn_aborted : AreKnown units ready has start behind t.world × EachMoment (AbortedIf start (injectors behind)) behind
      turn_aborted = (known went, ends went)
