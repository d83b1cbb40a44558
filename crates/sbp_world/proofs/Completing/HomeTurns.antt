-- A turn behind which an initiator has given up goes by moments in which it sends nothing for an action, and sees no other generation.
use Rattle.sbp_world.proofs.Words.Std.{arith, get_or-set_at, slice_index_or, ◌+◌, ◌≡◌, ◌∙◌, refl, sym, ap, subst, ◌<◌, nat_eq, nat_tests, ℕ, zero, suc, Bool, true, false, cond, List, [], ◌∷◌, ◌++◌, map, length, Option, Some, None}
use Rattle.sbp_world.proofs.Words.Wire.{Action, Event, Kept, Moment, Note, asked, empty_outbox, end_note, said, terms, topology_at}
use Rattle.sbp_world.proofs.Words.Target.{Disk, NodeState, Told}
use Rattle.sbp_world.proofs.Words.Initiator.{InitiatorState, Turn, act_step, is_stuck_seat, new_state}
use Rattle.sbp_world.proofs.Words.Laws.{event_of}
use Rattle.sbp_world.proofs.Words.World.{AllOf, Scene, WorldState, acted, acted_by, happens, initiator_at, more_deliveries, weight_in, with_initiator, without_notes}
use Rattle.sbp_journal.specs.declared.event.Event.TheVariants as events
use Rattle.sbp_journal.specs.declared.note.Note.TheVariants as notes
use Rattle.sbp_world.proofs.Agents.Management.Holding.{Holding}
use Rattle.sbp_world.proofs.Agents.Management.Still.{hist}
use Rattle.sbp_world.proofs.Completing.HomeActs.{act_unstuck, not_done}
use Rattle.sbp_world.proofs.Completing.HomeMoments.{Inertly, IsInert, goes, here}
use Rattle.sbp_world.proofs.Hosts.Carries.{IsNoAct}
use Rattle.sbp_world.proofs.Hosts.Outboxes.{line_stays}
use Rattle.sbp_world.proofs.Lists.Courses.{Goes, by_delivery, by_end, by_line, by_start}
use Rattle.sbp_world.proofs.Lists.Generations.{moment_generation}
use Rattle.sbp_world.proofs.Lists.LiveOurs.{away_is}
use Rattle.sbp_world.proofs.Lists.LiveOwn.{two_ways}
use Rattle.sbp_world.proofs.Lists.LiveRuns.{base_of}
use Rattle.sbp_world.proofs.Lists.LiveSteps.{GaveUpOf}
use Rattle.sbp_world.proofs.Lists.LiveTogether.{told_is}
use Rattle.sbp_world.proofs.Lists.LiveTold.{AllAway, AwayFrom, IsFirst, TargetTold, TellsAway, is_behind, is_own_packet}
use Rattle.sbp_world.proofs.Lists.LiveTurns.{TargetCall, TurnOf, delivers, still, by_clearing, by_own, by_sight, by_target}
use Rattle.sbp_world.proofs.Wire.Nodes.{handed_alike}
use Rattle.sbp_world.proofs.Sessions.Turns.{wire_generation}
use Rattle.sbp_world.proofs.Common.{untrue}

module _ (i : ℕ) (before : List Moment) where
  -- ---- what the target tells
  sends_go : (ns : List Note) (past : List Moment) → AllOf is_own_packet ns → Inertly i before past → Inertly i before (map said ns ++ past)
  sends_go [] past a r = r
  sends_go (notes.Sent serial generation zero to bytes ∷ ns) past a r = goes (said (notes.Sent serial generation zero to bytes)) (map said ns ++ past) (sends_go ns past a.1 r) (λ e. absurd (omega (arith, e)))
  sends_go (notes.Sent serial generation (suc j) to bytes ∷ ns) past a r = untrue a.0
  sends_go (note ∷ ns) past a r = untrue a.0

  behind_go : (ns : List Note) (past : List Moment) → AllOf is_behind ns → Inertly i before past → Inertly i before (map said ns ++ past)
  behind_go [] past a r = r
  behind_go (notes.Begin initiators ready ∷ ns) past a r = untrue a.0
  behind_go (notes.Sent serial generation from to bytes ∷ ns) past a r = untrue a.0
  behind_go (notes.Seen node generation ∷ ns) past a r = untrue a.0
  behind_go (note ∷ ns) past a r = goes (said note) (map said ns ++ past) (behind_go ns past a.1 r) tt

  first_go : (ns : List Note) (past : List Moment) → IsFirst ns → Inertly i before past → Inertly i before (map said ns ++ past)
  first_go [] past o r = absurd o
  first_go (note ∷ other ∷ ns) past o r = absurd o
  first_go (notes.Begin initiators ready ∷ []) past o r = untrue o
  first_go (notes.Sent serial generation from to bytes ∷ []) past o r = untrue o
  first_go (notes.Seen zero generation ∷ []) past o r = goes (said (notes.Seen zero generation)) past r (λ e. absurd (omega (arith, e)))
  first_go (notes.Seen (suc node) generation ∷ []) past o r = untrue o
  first_go (note ∷ []) past o r = goes (said note) past r tt

  pub told_go : (base fresh : List Note) (t : TargetTold base fresh) (later : List Moment) → Inertly i before (map said base ++ later) → Inertly i before (map said fresh ++ later)
  told_go base fresh t later r =
      subst (Inertly i before) (sym (told_is base fresh t later)) (sends_go t.sends _ t.are_sent (behind_go t.told _ t.are_told (first_go t.first _ t.one r)))

  -- ---- what another tells, or the initiator, in a line that is no action of it
  module _ (own : ℕ) (kept : List Kept) where
    record Went (past : List Moment) : Type 0 where
      so : Inertly i before past
      generation : (terms past).generation (suc i) ≡ own

    seen_same : (node generation : ℕ) (past : List Moment) → (node ≡ suc i → generation ≡ own) → (terms past).generation (suc i) ≡ own → (terms (said (notes.Seen node generation) ∷ past)).generation (suc i) ≡ own
    seen_same node generation past same is = by (nat_eq node (suc i)) refl
      where
        by : (b : Bool) → nat_eq node (suc i) ≡ b → (terms (said (notes.Seen node generation) ∷ past)).generation (suc i) ≡ own
        by false e = moment_generation (suc i) (said (notes.Seen node generation)) past e ∙ is
        by true e =
            let at : suc i ≡ node = grind (arith, nat_tests, e) in
            ap (λ b. cond b generation ((terms past).generation (suc i))) (let z : nat_eq (suc i) node ≡ true = grind (arith, nat_tests, at) in z) ∙ same (sym at)

    away_go : (ns : List Note) (past : List Moment) → AllAway i own kept ns → IsNoAct i (event_of past) → Went past → Went (map said ns ++ past)
    away_go [] past a n r = r
    away_go (notes.Begin initiators ready ∷ ns) past a n r = absurd a.0
    away_go (notes.Sent serial generation from to bytes ∷ ns) past a n r =
        let x = away_go ns past a.1 n r in
        record { so = goes (said (notes.Sent serial generation from to bytes)) (map said ns ++ past) x.so (λ e. subst (IsNoAct i) (sym (line_stays ns past)) n); generation = moment_generation (suc i) (said (notes.Sent serial generation from to bytes)) (map said ns ++ past) refl ∙ x.generation }
    away_go (notes.Seen node generation ∷ ns) past a n r =
        let x = away_go ns past a.1 n r in
        record { so = goes (said (notes.Seen node generation)) (map said ns ++ past) x.so (λ e. a.0.1 e ∙ sym x.generation); generation = seen_same node generation (map said ns ++ past) a.0.1 x.generation }
    away_go (note ∷ ns) past a n r =
        let x = away_go ns past a.1 n r in
        record { so = goes (said note) (map said ns ++ past) x.so tt; generation = moment_generation (suc i) (said note) (map said ns ++ past) refl ∙ x.generation }

    own_go : (base fresh : List Note) → AwayFrom i own kept base fresh → (later : List Moment) → IsNoAct i (event_of (map said base ++ later)) → Went (map said base ++ later) → Inertly i before (map said fresh ++ later)
    own_go base fresh a later n r = subst (Inertly i before) (sym (away_is a later)) (away_go a.more (map said base ++ later) a.away n r).so

opened : (i line : ℕ) (event : Event) (before : List Moment) → Inertly i before (asked line event ∷ before)
opened i line event before = goes (asked line event) before here tt

-- ---- a turn
acted_state : (w : WorldState) (line i : ℕ) (action : Action) (r : Option ℕ × Turn) → i < length w.initiators → initiator_at (acted_by r line i action w) i ≡ r.1.1
acted_state w line i action (Some number, turn) l = get_or-set_at w.initiators i i turn.1 (new_state 0 false) refl l
acted_state w line i action (None, turn) l =
    let a = handed_alike (i + 1) (weight_in action) turn.0 (with_initiator i turn.1 w) in
    ap (λ xs. slice_index_or xs i (new_state 0 false)) a.initiators ∙ get_or-set_at w.initiators i i turn.1 (new_state 0 false) refl l

module _ (i : ℕ) (past : List Moment) (s : Scene) (line : ℕ) (inside : i < length s.world.initiators) (own_is : (terms (hist past s.world)).generation (suc i) ≡ (topology_at s.world.generations (suc i)).generation) where
  abbrev from : List Moment
  from = hist past s.world

  abbrev own : ℕ
  own = (topology_at s.world.generations (suc i)).generation

  opens_went : (event : Event) (kept : List Kept) → Went i from own kept (asked line event ∷ from)
  opens_went event kept = record { so = opened i line event from; generation = moment_generation (suc i) (asked line event) from refl ∙ own_is }

  -- an action is refused
  acts_go : (action : Action) (r : Option ℕ × Turn) → act_step action empty_outbox (initiator_at s.world i) ≡ r → is_stuck_seat r.1.1.seat ≡ true → Inertly i from (map said (acted_by r line i action (without_notes s.world)).fresh ++ asked line (events.Act i action) ∷ from)
  acts_go action (Some number, turn) e stuck = goes (said (notes.Refused line number)) _ (opened i line (events.Act i action) from) tt
  acts_go action (None, turn) e stuck =
      not_done action (initiator_at s.world i) (act_unstuck action (initiator_at s.world i) (ap (λ (x : Option ℕ × Turn). is_stuck_seat x.1.1.seat) e ∙ stuck)) (ap (λ (x : Option ℕ × Turn). x.0) e)

  abbrev Acts : ℕ → Action → Type 0
  Acts j action = is_stuck_seat (initiator_at (acted line j action (without_notes s.world)) i).seat ≡ true → Inertly i from (map said (acted line j action (without_notes s.world)).fresh ++ asked line (events.Act j action) ∷ from)

  own_acts : (action : Action) → Acts i action
  unfolding acted
  own_acts action stuck =
      let r = act_step action empty_outbox (initiator_at s.world i) in
      acts_go action r refl (ap (λ (x : InitiatorState). is_stuck_seat x.seat) (sym (acted_state (without_notes s.world) line i action r inside)) ∙ stuck)

  line_go : (event : Event) (told : List (Option Told)) (kept : List Kept) → AwayFrom i own kept [] (happens line event told s).world.fresh → is_stuck_seat (initiator_at (happens line event told s).world i).seat ≡ true → Inertly i from (map said (happens line event told s).world.fresh ++ asked line event ∷ from)
  unfolding happens
  line_go (events.Act j action) told kept a stuck = by (nat_eq i j) refl
    where
      by : (b : Bool) → nat_eq i j ≡ b → Inertly i from (map said (acted line j action (without_notes s.world)).fresh ++ asked line (events.Act j action) ∷ from)
      by false e = own_go i from own kept [] (acted line j action (without_notes s.world)).fresh a (asked line (events.Act j action) ∷ from) e (opens_went (events.Act j action) kept)
      by true e = subst (λ k. Acts k action) (let same : i ≡ j = grind (arith, nat_tests, e) in same) (own_acts action) stuck
  line_go event told kept a stuck = own_go i from own kept [] (happens line event told s).world.fresh a (asked line event ∷ from) tt (opens_went event kept)

module _ (units ready : ℕ) (has : 0 < units) (start : List Disk) (i : ℕ) where
  base_go : (past : List Moment) (s : Scene) (later : List Moment) (t : Scene) (g : Goes past s later t) → Inertly i (hist past s.world) (map said (base_of g) ++ later)
  base_go past s later t (by_line past0 s0 line event told one fit may) = opened i line event (hist past s.world)
  base_go past s later t (by_start past0 s0 line most) = opened i line (more_deliveries most) (hist past s.world)
  base_go past s later t (by_delivery past0 s0 one may no_act) = here
  base_go past s later t (by_end past0 s0 done) = here

  own_turn_go : (past : List Moment) (s : Scene) (later : List Moment) (t : Scene) (g : Goes past s later t) → i < length s.world.initiators → (terms (hist past s.world)).generation (suc i) ≡ (topology_at s.world.generations (suc i)).generation → TellsAway i s.world (base_of g) t.world → is_stuck_seat (initiator_at t.world i).seat ≡ true → Inertly i (hist past s.world) (hist later t.world)
  own_turn_go past s later t (by_line past0 s0 line event told one fit may) l e a stuck = line_go i past s line l e event told s.world.store.kept a stuck
  own_turn_go past s later t (by_start past0 s0 line most) l e a stuck = opened i line (more_deliveries most) (hist past s.world)
  own_turn_go past s later t (by_delivery past0 s0 one may no_act) l e a stuck =
      own_go i (hist past s.world) (topology_at s.world.generations (suc i)).generation s.world.store.kept s.world.fresh t.world.fresh a past (subst (IsNoAct i) (sym (line_stays s.world.fresh past)) (no_act i)) (record { so = here; generation = e })
  own_turn_go past s later t (by_end past0 s0 done) l e a stuck = goes (said (end_note done)) (hist past s.world) here (ends done)
    where
      ends : (b : Bool) → IsInert i (said (end_note b)) (hist past s.world)
      ends true = tt
      ends false = tt

  pub call_told : {w : WorldState} {base fresh : List Note} {now : NodeState} → TargetCall w base fresh now → TargetTold base fresh
  call_told (delivers serial sent found to told disks is t first) = t
  call_told (still x t) = t

  pub turn_go : (past : List Moment) (s : Scene) (later : List Moment) (t : Scene) (g : Goes past s later t) (lines : ℕ) → Holding units ready start past lines s.world → i < length s.world.initiators → GaveUpOf t.world i → TurnOf i s.world (base_of g) t.world → Inertly i (hist past s.world) (hist later t.world)
  turn_go past s later t g lines h l up (by_target bus same call) = told_go i (hist past s.world) (base_of g) t.world.fresh (call_told call) later (base_go past s later t g)
  turn_go past s later t g lines h l up (by_clearing c same told) = told_go i (hist past s.world) (base_of g) t.world.fresh told later (base_go past s later t g)
  turn_go past s later t g lines h l up (by_own bus same call away) = own_turn_go past s later t g l (wire_generation s.world h.sound.stands (suc i) (omega (arith, l))) away up.stuck
  turn_go past s later t g lines h l up (by_sight x same away) = two_ways (is_stuck_seat (initiator_at t.world i).seat) up.stuck x.reset.free
