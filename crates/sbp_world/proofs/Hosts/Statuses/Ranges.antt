-- In every run a status is taken for an initiator of the run alone.
use Rattle.sbp_world.proofs.Words.Std.{arith, ◌≡◌, refl, sym, ◌∙◌, ap, subst, ℕ, ◌+◌, ◌<◌, ◌≤◌, nat_lt, Bool, true, false, cond, List, [], ◌∷◌, ◌++◌, length, map, Option, Some, None}
use Rattle.sbp_world.proofs.Words.Wire.{Moment, asked, said, Event, Note, end_note}
use Rattle.sbp_world.proofs.Words.Target.{Told}
use Rattle.sbp_world.proofs.Words.World.{MayReceive, delivered, history_of, moments_behind, MayHappen, happens, keyed, reset_line, MayIf, delivered_if, inject_line, injected, injected_to, is_in_flight, lose_line, may_repeat, Entry, Run, after, beginning, posted, MayAll, MayNext, after_all, delivered_at, delivered_next, is_settled, lowest, Scene, WorldState, begun, initiator_at, AreLines, front_of, IsRun}
use Rattle.sbp_journal.specs.declared.event.Event.TheVariants as events
use Rattle.sbp_journal.specs.declared.note.Note.TheVariants as notes
use Rattle.sbp_world.specs.Settling as settling
use Rattle.sbp_world.proofs.Hosts.Calling.{IsOwn}
use Rattle.sbp_world.proofs.Hosts.Carried.{between_runs}
use Rattle.sbp_world.proofs.Hosts.Hosted.{Cored, cored_carried, first_cored}
use Rattle.sbp_world.proofs.Hosts.Runs.{count_after, count_between}
use Rattle.sbp_world.proofs.Hosts.Statuses.Insides.{Inside, acts_inside, delivers_inside, expires_inside, sees_inside, ticks_inside}

-- ---- a line

ends_inside : (most : ℕ) (b : Bool) (ns : List Note) → Inside most ns → Inside most (end_note b ∷ ns)
ends_inside most true ns h = h
ends_inside most false ns h = h

pick_inside : (most : ℕ) (b : Bool) (x y : WorldState) → Inside most x.fresh → Inside most y.fresh → Inside most (cond b x y).fresh
pick_inside most true x y h i = h
pick_inside most false x y h i = i

injects_inside : (most : ℕ) (to : Option ℕ) (line from : ℕ) (bytes : List ℕ) (w : WorldState) → Inside most w.fresh → Inside most (injected to line from bytes w).fresh
unfolding posted
injects_inside most None line from bytes w h = h
injects_inside most (Some to) line from bytes w h = h

-- behind some deliveries of a line there are so many initiators at most, each what its calls made of it
record AreOwn (most : ℕ) (ready : Bool) (w : WorldState) : Type 0 where
  few : length w.initiators ≤ most
  own : (i : ℕ) → i < length w.initiators → IsOwn ready i (initiator_at w i)

module _ (most : ℕ) (ready : Bool) (s : Scene) (owns : (told : List (Option Told)) → MayAll told (begun s) → AreOwn most ready (after_all told (begun s)).world) where
  next_inside : (told : List (Option Told)) → MayAll told (begun s) → (again : Bool) (one : Option Told) (serial : ℕ) → MayReceive one serial (after_all told (begun s)) → Inside most (after_all told (begun s)).world.fresh → Inside most (delivered serial again one (after_all told (begun s))).world.fresh
  next_inside told m again one serial may h = let o = owns told m in delivers_inside most ready serial again (after_all told (begun s)) o.few o.own h one may

  lowest_inside : (told : List (Option Told)) → MayAll told (begun s) → (one : Option Told) (o : Option ℕ) → settling.MayAt o one (after_all told (begun s)) → Inside most (after_all told (begun s)).world.fresh → Inside most (delivered_at o one (after_all told (begun s))).world.fresh
  lowest_inside told m one None may h = absurd may
  lowest_inside told m one (Some serial) may h = next_inside told m false one serial may h

  all_inside : (told : List (Option Told)) → MayAll told (begun s) → Inside most (after_all told (begun s)).world.fresh
  unfolding delivered_next MayNext
  all_inside [] m = tt
  all_inside (one ∷ before) m = lowest_inside before m.1 one (lowest (after_all before (begun s)).world) m.0 (all_inside before m.1)

  one_inside : (line serial : ℕ) (again b : Bool) (told : List (Option Told)) → MayIf b serial told (begun s) → Inside most (delivered_if b line serial again told (begun s)).world.fresh
  one_inside line serial again true [] m = absurd m
  one_inside line serial again true (one ∷ []) m = next_inside [] tt again one serial m tt
  one_inside line serial again true (one ∷ other ∷ more) m = absurd m
  one_inside line serial again false told m = tt

  line_inside : (line : ℕ) (event : Event) (told : List (Option Told)) → MayHappen event told s → Inside most (happens line event told s).world.fresh
  unfolding happens MayHappen reset_line lose_line inject_line keyed
  line_inside line (events.Begin initiators ready) told m = tt
  line_inside line (events.Act i action) told m = acts_inside most line i action (begun s).world tt
  line_inside line (events.Reset physical) told m = tt
  line_inside line (events.See node) told m = sees_inside most node (begun s).world tt
  line_inside line (events.Deliver serial) told m = one_inside line serial false (is_in_flight serial (begun s).world) told m
  line_inside line (events.Repeat serial) told m = one_inside line serial true (may_repeat serial (begun s).world) told m
  line_inside line (events.Lose serial) told m = pick_inside most (is_in_flight serial (begun s).world) _ _ tt tt
  line_inside line (events.Timeout serial) told m = expires_inside most ready line serial (begun s).world (owns [] tt).own tt
  line_inside line (events.Step count) told m = all_inside told m.may
  line_inside line events.Settle told m =
      let old = (after_all told (begun s)).world in ends_inside most (is_settled old) old.fresh (all_inside told m.may)
  line_inside line events.Tick told m = ticks_inside most (begun s).world tt
  line_inside line (events.Inject initiator bytes) told m = injects_inside most (injected_to (initiator + 1) bytes (begun s).world) line (initiator + 1) bytes (begun s).world tt
  line_inside line (events.Key unit key) told m = pick_inside most (nat_lt unit (length s.world.target.units)) _ _ tt tt

-- ---- moments

abbrev pub InsideIn : ℕ → List Moment → Type 0
InsideIn most [] = Unit {0}
InsideIn most (said (notes.Taken j n k status answer) ∷ past) = (j < most) × InsideIn most past
InsideIn most (_ ∷ past) = InsideIn most past

said_inside : (most : ℕ) (ns : List Note) (past : List Moment) → Inside most ns → InsideIn most past → InsideIn most (map said ns ++ past)
said_inside most [] past h k = k
said_inside most (notes.Taken j n k status answer ∷ ns) past h g = (h.0, said_inside most ns past h.1 g)
said_inside most (note ∷ ns) past h k = said_inside most ns past h k

-- ---- a run

pub lines_same : (run : Run) (x entries : List Entry) → AreLines run entries → AreLines (front_of run x) entries
lines_same run x [] h = tt
lines_same run x (e ∷ before) h = (h.0, lines_same run x before h.1)

pub moments_same : (line : ℕ) (run : Run) (x entries : List Entry) → moments_behind line (front_of run x) entries ≡ moments_behind line run entries
moments_same line run x [] = refl
moments_same line run x (e ∷ before) = ap (λ ms. map said e.notes ++ asked e.line e.event ∷ ms) (moments_same line run x before)

module _ (line : ℕ) (run : Run) where
  front_is : (e : Entry) (earlier : List Entry) → IsRun (front_of run (e ∷ earlier)) → IsRun (front_of run earlier)
  front_is e earlier q = let short = q.short in record { few = q.few; short = omega arith; entries = q.entries.1; lines = lines_same (front_of run (e ∷ earlier)) earlier earlier q.lines.1 }

  owns_at : (earlier : List Entry) → IsRun (front_of run earlier) → (told : List (Option Told)) → MayAll told (begun (after (beginning run) earlier)) → AreOwn run.initiators run.ready (after_all told (begun (after (beginning run) earlier))).world
  owns_at earlier q told m =
      let size = count_between told (after (beginning run) earlier) ∙ count_after run earlier in
      record {
        few = omega arith;
        own = λ i b. (between_runs (Cored run.ready) (cored_carried run.ready) line (front_of run earlier) (λ entries few short all fit j c. tt) (λ j c. first_cored line j run.initiators run.ready c) q line None told m i (omega arith)).own;
      }

  entries_inside : (entries : List Entry) → IsRun (front_of run entries) → InsideIn run.initiators (moments_behind line run entries)
  entries_inside [] q = tt
  entries_inside (e ∷ earlier) q =
      let front = front_is e earlier q in
      said_inside run.initiators e.notes (asked e.line e.event ∷ moments_behind line run earlier)
      (subst (Inside run.initiators) (sym q.entries.0.notes_are) (line_inside run.initiators run.ready (after (beginning run) earlier) (owns_at earlier front) e.line e.event e.told q.entries.0.may))
      (entries_inside earlier front)

pub run_inside : (line : ℕ) (run : Run) → IsRun run → InsideIn run.initiators (history_of line run)
run_inside line run q = entries_inside line run run.entries q
