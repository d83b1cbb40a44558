-- Each line and each delivery keeps that what agents wait for to read in a slot was sent when the ORB that the slot has had been appended.
use Rattle.sbp_world.proofs.Words.Std.{◌≡◌, ◌∙◌, refl, sym, ap, subst, ◌<◌, ℕ, suc, Bool, true, false, List, [], ◌∷◌, ◌++◌, map, Option, Some, None}
use Rattle.sbp_world.proofs.Words.Wire.{Moment, asked, said, Event, end_note}
use Rattle.sbp_world.proofs.Words.Target.{Which, Disk, Told}
use Rattle.sbp_world.proofs.Words.Laws.{Agent, target_at}
use Rattle.sbp_world.proofs.Words.World.{delivered_at, delivered_next, lowest, Scene, WorldState, without_notes, serial_of, agent_in, initiator_in}
use Rattle.sbp_journal.specs.declared.event.Event.TheVariants as events
use Rattle.sbp_journal.specs.declared.note.Note.TheVariants as notes
use Rattle.sbp_world.proofs.Agents.Management.Still.{hist}
use Rattle.sbp_world.proofs.Agents.CrewOthers.{settled_ends, stopped_ends}
use Rattle.sbp_world.proofs.Hosts.LastingTerms.{AllLast}
use Rattle.sbp_world.proofs.Lists.Awaited.{Starts, line_starts}
use Rattle.sbp_world.proofs.Lists.Early.{Early, IsRead, stays_early, turn, whole as whole_of}
use Rattle.sbp_world.proofs.Lists.EarlyTurns.{Leaves, Stood, leaves_hosts, leaves_target, same_before}
use Rattle.sbp_world.proofs.Lists.Sites.{waiting}
use Rattle.sbp_world.proofs.Lists.Turned.{Delivers, Turned, by_other, by_target, delivers, nothing, turned}
use Rattle.sbp_world.proofs.Common.{said_split}

module _ (wild : ℕ → Bool) (units ready : ℕ) (has : 0 < units) (start : List Disk) where
  -- a turn keeps it, from a place between two turns to the next one
  pub turn_early : (past : List Moment) (lines : ℕ) (w : WorldState) (a : Stood wild units ready start past lines w) (later : List Moment) (more : ℕ) (v : WorldState) (b : Stood wild units ready start later more v) (rest : List Moment) (m : Moment) → rest ++ m ∷ hist past w ≡ hist later v → Starts m → Leaves (hist past w) (hist later v) w v → Early wild start (hist past w) → Early wild start (hist later v)
  turn_early past lines w a later more v b rest m is starts leaves early =
      stays_early wild start (hist past w) rest (hist later v) m is starts b.site.serials a.site.asked early
      (λ place c which serial i slot n k r. last_of place c which serial i slot n k r)
      (λ place c which serial i slot n k r. same_before wild units ready has start past lines w a later more v b (turn wild start (hist past w) rest (hist later v) m is starts b.site.serials) (whole_of wild start (hist past w) rest (hist later v) m is starts b.site.serials) place c which serial i slot n k r leaves)
    where
      same_number : (i j : ℕ) → Some (suc i) ≡ Some (suc j) → i ≡ j
      same_number i j e = cc

      last_of : (place : ℕ) (c : place < 8) (which : Which) (serial i slot n k : ℕ) → IsRead wild start (hist later v) place which serial i slot n k → AllLast (hist later v) i
      last_of place c which serial i slot n k r =
          let x = waiting units ready has start v b.holds b.site place c which serial r.waits in
          subst (AllLast (hist later v)) (sym (same_number i (initiator_in v place) (sym r.to ∙ x.to))) (b.site.last (initiator_in v place) x.inside)

  -- what a line leaves, as the line began behind this history
  leaves_line : (line : ℕ) (event : Event) (past : List Moment) (w v : WorldState) → Turned wild (asked line event ∷ hist past w) (without_notes w) v → Leaves (hist past w) (hist (asked line event ∷ hist past w) v) w v
  leaves_line line event past w v (by_target e) = leaves_hosts e
  leaves_line line event past w v (by_other s) = leaves_target s.target s.places s.count s.adds.ends_are

  leaves_turn : (past : List Moment) (w v : WorldState) → Turned wild past w v → Leaves (hist past w) (hist past v) w v
  leaves_turn past w v (by_target e) = leaves_hosts e
  leaves_turn past w v (by_other s) = leaves_target s.target s.places s.count s.adds.ends_are

  pub line_early : (line : ℕ) (event : Event) (past : List Moment) (lines : ℕ) (w : WorldState) → Stood wild units ready start past lines w → (more : ℕ) (v : WorldState) → Stood wild units ready start (asked line event ∷ hist past w) more v → Turned wild (asked line event ∷ hist past w) (without_notes w) v → Early wild start (hist past w) → Early wild start (hist (asked line event ∷ hist past w) v)
  line_early line event past lines w a more v b t early =
      turn_early past lines w a (asked line event ∷ hist past w) more v b (map said v.fresh) (asked line event) refl (line_starts line event) (leaves_line line event past w v t) early

  module _ (past : List Moment) (lines : ℕ) where
    abbrev S : WorldState → Type 0
    S w = Stood wild units ready start past lines w

    delivery_early : (w v : WorldState) → S w → S v → Delivers wild past w v → Early wild start (hist past w) → Early wild start (hist past v)
    delivery_early w v a b (nothing e) early = subst (λ (x : WorldState). Early wild start (hist past x)) (sym e) early
    delivery_early w v a b (delivers more note starts is t) early =
        turn_early past lines w a past lines v b (map said more) (said note) (sym (said_split more (note ∷ w.fresh) past) ∙ ap (λ ns. map said ns ++ past) is) starts (leaves_turn past w v t) early

    next_by : (one : Option Told) (s : Scene) (o : Option ℕ) → S s.world → S (delivered_at o one s).world → Early wild start (hist past s.world) → Early wild start (hist past (delivered_at o one s).world)
    next_by one s None a b early = early
    next_by one s (Some serial) a b early = delivery_early s.world (delivered_at (Some serial) one s).world a b (turned wild past s serial false one) early

    pub next_early : (one : Option Told) (s : Scene) → S s.world → S (delivered_next one s).world → Early wild start (hist past s.world) → Early wild start (hist past (delivered_next one s).world)
    unfolding delivered_next
    next_early one s a b early = next_by one s (lowest s.world) a b early

-- no agent waits as a run begins
pub first_early : (wild : ℕ → Bool) (start : List Disk) (line n : ℕ) (is_ready : Bool) → Early wild start (said (notes.Begin n is_ready) ∷ asked line (events.Begin n is_ready) ∷ [])
first_early wild start line n is_ready place b which serial i slot m k r = absurd (let no : None ≡ Some (suc i) = r.to in cc)

-- ---- the end of a line that settles
pub end_early : (wild : ℕ → Bool) (start : List Disk) (b : Bool) (ms : List Moment) → Early wild start ms → Early wild start (said (end_note b) ∷ ms)
end_early wild start true ms early place c which serial i slot n k r =
    early place c which serial i slot n k (record {
      waits = ap (λ (xs : List Agent). serial_of which (agent_in xs place)) (sym (settled_ends (target_at start ms))) ∙ r.waits;
      to = r.to;
      own = r.own;
      access = r.access;
      is = r.is;
      reads = r.reads;
      some = r.some;
      stands = r.stands;
      there = r.there;
    })
end_early wild start false ms early place c which serial i slot n k r =
    early place c which serial i slot n k (record {
      waits = ap (λ (xs : List Agent). serial_of which (agent_in xs place)) (sym (stopped_ends (target_at start ms))) ∙ r.waits;
      to = r.to;
      own = r.own;
      access = r.access;
      is = r.is;
      reads = r.reads;
      some = r.some;
      stands = r.stands;
      there = r.there;
    })
