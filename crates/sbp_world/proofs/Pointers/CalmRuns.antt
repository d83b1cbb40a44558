-- In every run, after each line and behind each delivery of a line that delivers one packet after the other, a packet that an initiator sent in a
-- line that was no action of it, and did not inject, asks for no write.
use Rattle.sbp_world.proofs.Words.Std.{arith, ◌≡◌, refl, sym, ◌∙◌, ap, subst, ℕ, ◌+◌, ◌^◌, ◌<◌, ◌≤◌, nat_eq, nat_lt, Bool, true, false, cond, List, [], ◌∷◌, ◌++◌, length, map, Option, Some, None, nat_tests}
use Rattle.sbp_world.proofs.Words.Wire.{is_reset, Moment, asked, said, terms, Event, end_note, no_packet}
use Rattle.sbp_world.proofs.Words.Target.{Told, with_key}
use Rattle.sbp_world.proofs.Words.World.{history_of, moments_behind, MayHappen, happens, keyed, no_unit, reset_line, MayIf, delivered_if, inject_line, injected, injected_to, is_in_flight, lose_line, lost, may_repeat, refused, AreEntries, Entry, Run, after, beginning, posted, MayAll, MayNext, after_all, delivered_at, delivered_next, is_settled, lowest, Scene, WorldState, begun, with_note, with_target, without_notes, BytesTold, AreLines, IsLine, history, IsRun, more_deliveries}
use Rattle.sbp_journal.specs.declared.event.Event.TheVariants as events
use Rattle.sbp_journal.specs.declared.note.Note.TheVariants as notes
use Rattle.sbp_world.specs.Settling as settling
use Rattle.sbp_world.proofs.FitInitiator.Law.{fitting_law as own_fitting_law}
use Rattle.sbp_world.proofs.FitTarget.Law.{fitting_law}
use Rattle.sbp_world.proofs.Wire.Holding.{Sound}
use Rattle.sbp_world.proofs.Wire.Runs.{sound_after}
use Rattle.sbp_world.proofs.Wire.Sound.{next_heard, opens}
use Rattle.sbp_world.proofs.Wire.ToldBytes.{happened_fits}
use Rattle.sbp_world.proofs.Wire.CommandBytes.{AreTold}
use Rattle.sbp_world.proofs.Hosts.Runs.{are_told}
use Rattle.sbp_world.proofs.Pointers.Calms.{AllCalm, IsCalm, acts_calm, delivers_calm, line_expires, line_sees, ticks}
use Rattle.sbp_world.proofs.Common.{untrue}

-- ---- deliveries

module _ (past : List Moment) (lines line : ℕ) (event : Event) where
  abbrev now : List Moment
  now = asked line event ∷ past

  one_calm : (serial : ℕ) (again : Bool) (b : Bool) (told : List (Option Told)) (s : Scene) → MayIf b serial told s → Sound now lines s.world → IsCalm now s.world → IsCalm now (delivered_if b line serial again told s).world
  one_calm serial again true [] s m sound h = absurd m
  one_calm serial again true (told ∷ []) s m sound h = delivers_calm now serial again lines s sound h told m
  one_calm serial again true (told ∷ other ∷ more) s m sound h = absurd m
  one_calm serial again false told s m sound h = (tt, h)

  -- a world behind some deliveries
  record Heard (w : WorldState) : Type 0 where
    sound : Sound now lines w
    calm : IsCalm now w

  next_calm : (told : Option Told) → BytesTold told → (s : Scene) → Heard s.world → (terms now).repeats ≡ false → (o : Option ℕ) → lowest s.world ≡ o → settling.MayAt o told s → Heard (delivered_at o told s).world
  next_calm told t s h r None e m = absurd m
  next_calm told t s h r (Some serial) e m = record {
    sound = next_heard fitting_law own_fitting_law told t s h.sound r (Some serial) e;
    calm = delivers_calm now serial false lines s h.sound h.calm told m;
  }

  all_calm : (told : List (Option Told)) → AreTold told → (s : Scene) → MayAll told s → Heard s.world → (terms now).repeats ≡ false → Heard (after_all told s).world
  unfolding delivered_next MayNext
  all_calm [] t s m h r = h
  all_calm (told ∷ before) t s m h r = next_calm told t.0 (after_all before s) (all_calm before t.1 s m.1 h r) r (lowest (after_all before s).world) refl m.0

-- ---- the other lines

end_calm : (past : List Moment) (w : WorldState) (b : Bool) → IsCalm past w → IsCalm past (with_note (end_note b) w)
end_calm past w true h = (tt, h)
end_calm past w false h = (tt, h)

loses : (past : List Moment) (line serial : ℕ) (w : WorldState) (b : Bool) → IsCalm past w → IsCalm past (cond b (lost serial w) (refused line no_packet w))
loses past line serial w true h = (tt, h)
loses past line serial w false h = (tt, h)

keys : (past : List Moment) (line unit : ℕ) (key : List ℕ) (w : WorldState) (b : Bool) → IsCalm past w → IsCalm past (cond b (with_note (notes.Key unit) (with_target (with_key unit key w.target) w)) (refused line no_unit w))
keys past line unit key w true h = (tt, h)
keys past line unit key w false h = (tt, h)

-- a packet that is injected is told as injected
injected_true : (serial : ℕ) (past : List Moment) → (terms (said (notes.Injected serial) ∷ past)).injected serial ≡ true
injected_true serial past =
    let same : nat_eq serial serial ≡ true = grind (arith, nat_tests) in ap (λ b. cond b true ((terms past).injected serial)) same

injects : (past : List Moment) (line from : ℕ) (bytes : List ℕ) (w : WorldState) (to : Option ℕ) → IsCalm past w → IsCalm past (injected to line from bytes w)
unfolding posted
injects past line from bytes w None h = (tt, h)
injects past line from bytes w (Some to) h = (
  (λ i e honest n. untrue (sym honest ∙ injected_true (w.store.last + 1) (history w past))),
  (tt, h),
)

-- ---- every line

line_calm : {past : List Moment} {lines : ℕ} (line : ℕ) (event : Event) (told : List (Option Told)) (s : Scene) → IsLine event (length s.world.initiators) → AreTold told → MayHappen event told s → Sound past lines s.world → IsCalm past s.world → IsCalm (asked line event ∷ history s.world past) (happens line event told s).world
unfolding happens MayHappen reset_line lose_line inject_line keyed
line_calm line (events.Begin initiators ready) told s q t m sound h = absurd q
line_calm {past} line (events.Act i action) told s q t m sound h =
    acts_calm (asked line (events.Act i action) ∷ history s.world past) line i action (without_notes s.world) (tt, h) refl
line_calm line (events.Reset physical) told s q t m sound h = (tt, (tt, h))
line_calm {past} line (events.See node) told s q t m sound h = line_sees (asked line (events.See node) ∷ history s.world past) node (without_notes s.world) (tt, h)
line_calm {past} {lines} line (events.Deliver serial) told s q t m sound h =
    one_calm (history s.world past) lines line (events.Deliver serial) serial false (is_in_flight serial (begun s).world) told (begun s) m (opens line (events.Deliver serial) s.world refl sound) (tt, h)
line_calm {past} {lines} line (events.Repeat serial) told s q t m sound h =
    one_calm (history s.world past) lines line (events.Repeat serial) serial true (may_repeat serial (begun s).world) told (begun s) m (opens line (events.Repeat serial) s.world refl sound) (tt, h)
line_calm {past} line (events.Lose serial) told s q t m sound h =
    loses (asked line (events.Lose serial) ∷ history s.world past) line serial (without_notes s.world) (is_in_flight serial (without_notes s.world)) (tt, h)
line_calm {past} line (events.Timeout serial) told s q t m sound h =
    line_expires (asked line (events.Timeout serial) ∷ history s.world past) line serial (without_notes s.world) (tt, h)
line_calm {past} {lines} line (events.Step count) told s q t m sound h =
    (all_calm (history s.world past) lines line (events.Step count) told t (begun s) m.may (record { sound = opens line (events.Step count) s.world refl sound; calm = (tt, h) }) refl).calm
line_calm {past} {lines} line events.Settle told s q t m sound h =
    let all = all_calm (history s.world past) lines line events.Settle told t (begun s) m.may (record { sound = opens line events.Settle s.world refl sound; calm = (tt, h) }) refl in
    let w = (after_all told (begun s)).world in
    end_calm (asked line events.Settle ∷ history s.world past) w (is_settled w) all.calm
line_calm {past} line events.Tick told s q t m sound h = ticks (asked line events.Tick ∷ history s.world past) (without_notes s.world) (tt, h)
line_calm {past} line (events.Inject initiator bytes) told s q t m sound h =
    injects (asked line (events.Inject initiator bytes) ∷ history s.world past) line (initiator + 1) bytes (without_notes s.world) (injected_to (initiator + 1) bytes (without_notes s.world)) (tt, h)
line_calm {past} line (events.Key unit key) told s q t m sound h =
    keys (asked line (events.Key unit key) ∷ history s.world past) line unit key (without_notes s.world) (nat_lt unit (length s.world.target.units)) (tt, h)

-- ---- a run

module _ (line : ℕ) (run : Run) where
  calm_after : (entries : List Entry) → run.initiators ≤ 4 → length entries + 2 < 2 ^ 32 → AreEntries (beginning run) entries → AreLines run entries → AllCalm (moments_behind line run entries)
  calm_after [] few short all fit = (tt, (tt, tt))
  calm_after (e ∷ before) few short all fit =
      let b = sound_after fitting_law own_fitting_law line run before few (omega arith) all.1 fit.1 in
      let s = after (beginning run) before in
      let so_far : IsCalm b.past s.world = subst AllCalm (sym b.is) (calm_after before few (omega arith) all.1 fit.1) in
      subst AllCalm
      (ap (λ ns. map said ns ++ asked e.line e.event ∷ (map said s.world.fresh ++ b.past)) (sym all.0.notes_are)
      ∙ ap (λ ms. map said e.notes ++ asked e.line e.event ∷ ms) b.is)
      (line_calm e.line e.event e.told s fit.0 (happened_fits e.event e.told s all.0.may) all.0.may b.sound so_far)

  pub calm_of_runs : IsRun run → AllCalm (history_of line run)
  calm_of_runs r = calm_after run.entries r.few r.short r.entries r.lines

  between_by : IsRun run → (next : ℕ) (event : Event) → is_reset event ≡ false → ((ms : List Moment) → (terms (asked next event ∷ ms)).repeats ≡ false) → (told : List (Option Told)) → MayAll told (begun (after (beginning run) run.entries)) → AllCalm (map said (after_all told (begun (after (beginning run) run.entries))).world.fresh ++ asked next event ∷ history_of line run)
  between_by r next event e repeats told m =
      let before = sound_after fitting_law own_fitting_law line run run.entries r.few r.short r.entries r.lines in
      let s = after (beginning run) run.entries in
      let so_far : IsCalm before.past s.world = subst AllCalm (sym before.is) (calm_of_runs r) in
      let all = all_calm (history s.world before.past) (length run.entries) next event told (are_told told s m) (begun s) m (record { sound = opens next event s.world e before.sound; calm = (tt, so_far) }) (repeats (history s.world before.past)) in
      subst (λ ms. AllCalm (map said (after_all told (begun s)).world.fresh ++ asked next event ∷ ms)) before.is all.calm

  pub calm_between : IsRun run → (next : ℕ) (most : Option ℕ) (told : List (Option Told)) → MayAll told (begun (after (beginning run) run.entries)) → AllCalm (map said (after_all told (begun (after (beginning run) run.entries))).world.fresh ++ asked next (more_deliveries most) ∷ history_of line run)
  calm_between r next (Some count) told m = between_by r next (events.Step count) refl (λ ms. refl) told m
  calm_between r next None told m = between_by r next events.Settle refl (λ ms. refl) told m
