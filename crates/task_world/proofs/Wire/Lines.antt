-- Each line of a task world is a list of moves of the wire, and leaves nodes that know whom they ask.
use Rattle.sbp_world.proofs.Words.Std.{◌≡◌, ◌∙◌, refl, ap, ℕ, ◌+◌, ◌^◌, ◌<◌, Bool, true, false, List, [], ◌∷◌, ◌++◌, length, map, Option, Some, None}
use Rattle.sbp_world.proofs.Words.Wire.{flying, is_flying, is_plain, is_reset, Moment, asked, said, terms, Event, no_packet}
use Rattle.rbc_disk.specs.Runs.{Told}
use Rattle.sbp_journal.specs.declared.event.Event.TheVariants as events
use Rattle.sbp_journal.specs.declared.note.Note.TheVariants as notes
use Rattle.sbp_world.proofs.Words.World.{first_told, is_in_flight, is_settled, lowest, may_repeat, settled_from, BytesTold, IsLine, OwnFittingLaw, WorldState, without_notes}
use Rattle.sbp_world.proofs.Wire.CommandBytes.{AreTold}
use Rattle.sbp_world.proofs.Wire.OwnHears.{own_refuses}
use Rattle.sbp_world.proofs.Wire.OwnLines.{own_acts, own_later, own_loses, own_opens}
use Rattle.sbp_world.proofs.Wire.Repeats.{said_same}
use Rattle.sbp_world.proofs.Wire.Sound.{first_fits, first_flies}
use Rattle.sbp_world.proofs.Wire.Tells.{tells}
use Rattle.task_target.specs.Nodes.{TaskNode}
use Rattle.task_world.specs.Fitting.{FittingLaw}
use Rattle.task_world.specs.Lines.{is_task_line, task_happens}
use Rattle.task_world.specs.Packets.{delivered_if}
use Rattle.task_world.specs.Settling.{after_all, delivered_at, delivered_next, settled}
use Rattle.task_world.specs.Worlds.{TaskScene, begun}
use Rattle.task_world.proofs.Wire.Delivered.{SoundScene, hears}
use Rattle.task_world.proofs.Wire.Expired.{times_out}
use Rattle.task_world.proofs.Wire.Holding.{TaskSound, own_node}

more : {past : List Moment} {lines : ℕ} (w : WorldState) (node : TaskNode) → TaskSound past lines w node → TaskSound past (lines + 1) w node
more w node s = record { own = own_later s.own; target_is = s.target_is; bus = s.bus; holds = s.holds }

-- ---- a line begins
pub opens : {past : List Moment} {lines : ℕ} (line : ℕ) (event : Event) (s : TaskScene) → is_reset event ≡ false → SoundScene past lines s → SoundScene (asked line event ∷ (map said s.scene.world.fresh ++ past)) lines (begun s)
opens line event s e h = record { own = own_opens line event s.scene.world e h.own; target_is = h.target_is; bus = h.bus; holds = h.holds }

module _ (nodes : FittingLaw) (initiators : OwnFittingLaw) where
  -- ---- one delivery, or one after the other
  delivers_line : {past : List Moment} {lines : ℕ} (line serial : ℕ) (again b : Bool) (told : List (Option Told)) (s : TaskScene) (sound : SoundScene past lines s) → AreTold told → (terms sound.own.stands.wire.past).repeats ≡ again → (again ≡ false → is_flying serial s.scene.world.store.kept ≡ b) → SoundScene past lines (delivered_if b line serial again told s)
  delivers_line line serial again true told s sound t r f = hears nodes initiators s sound serial again (first_told told) (first_fits told t) r f
  delivers_line line serial again false told s sound t r f = own_node s.scene.world _ s.node sound (own_refuses s.scene.world line no_packet sound.own)

  pub next_heard : {past : List Moment} {lines : ℕ} (told : Option Told) → BytesTold told → (s : TaskScene) → SoundScene past lines s → (terms past).repeats ≡ false → (o : Option ℕ) → lowest s.scene.world ≡ o → SoundScene past lines (delivered_at o told s)
  next_heard told t s sound r None e = sound
  next_heard {past} told t s sound r (Some serial) e =
      hears nodes initiators s sound serial false told t
      (ap (λ p. (terms p).repeats) sound.own.stands.is.past_is ∙ said_same s.scene.world.fresh past ∙ r)
      (λ x. first_flies (flying s.scene.world.store.kept) serial e)

  pub all_heard : {past : List Moment} {lines : ℕ} (told : List (Option Told)) → AreTold told → (s : TaskScene) → SoundScene past lines s → (terms past).repeats ≡ false → SoundScene past lines (after_all told s)
  unfolding delivered_next
  all_heard [] t s sound r = sound
  all_heard (told ∷ before) t s sound r =
      let b = all_heard before t.1 s sound r in
      next_heard told t.0 (after_all before s) b r (lowest (after_all before s).scene.world) refl

  ends : {past : List Moment} {lines : ℕ} (s : TaskScene) (b : Bool) → SoundScene past lines s → SoundScene past lines (record s { scene = settled_from b s.scene })
  unfolding is_plain
  ends {past} s true h = record { own = record { stands = tells past s.scene.world notes.Settled refl h.own.stands; own = h.own.own }; target_is = h.target_is; bus = h.bus; holds = h.holds }
  ends {past} s false h = record { own = record { stands = tells past s.scene.world notes.Stopped refl h.own.stands; own = h.own.own }; target_is = h.target_is; bus = h.bus; holds = h.holds }

  settles_line : {past : List Moment} {lines : ℕ} (told : List (Option Told)) → AreTold told → (s : TaskScene) → SoundScene past lines s → (terms past).repeats ≡ false → SoundScene past lines (settled told s)
  settles_line told t s sound r = ends (after_all told s) (is_settled (after_all told s).scene.world) (all_heard told t s sound r)

  -- ---- all lines of `tasks`
  pub line_goes : {past : List Moment} {lines : ℕ} (line : ℕ) (event : Event) (told : List (Option Told)) (s : TaskScene) → is_task_line event ≡ true → IsLine event (length s.scene.world.initiators) → AreTold told → lines + 1 < 2 ^ 32 → SoundScene past lines s → SoundScene (asked line event ∷ (map said s.scene.world.fresh ++ past)) (lines + 1) (task_happens line event told s)
  unfolding task_happens
  line_goes line (events.Begin initiators ready) told s a q t few h = cc
  line_goes line (events.Act initiator action) told s a q t few h =
      let o = opens line (events.Act initiator action) s refl h in
      own_node (without_notes s.scene.world) _ s.node o (own_acts initiators (without_notes s.scene.world) o.own line initiator action q.0 q.1 few)
  line_goes line (events.Reset physical) told s a q t few h = cc
  line_goes line (events.See node) told s a q t few h = cc
  line_goes line (events.Deliver serial) told s a q t few h =
      let o = opens line (events.Deliver serial) s refl h in
      more _ _ (delivers_line line serial false (is_in_flight serial s.scene.world) told (begun s) o t (ap (λ p. (terms p).repeats) o.own.stands.is.past_is) (λ e. refl))
  line_goes line (events.Repeat serial) told s a q t few h =
      let o = opens line (events.Repeat serial) s refl h in
      more _ _ (delivers_line line serial true (may_repeat serial (begun s).scene.world) told (begun s) o t (ap (λ p. (terms p).repeats) o.own.stands.is.past_is) (λ e. cc))
  line_goes line (events.Lose serial) told s a q t few h =
      let o = opens line (events.Lose serial) s refl h in
      more _ _ (own_node (without_notes s.scene.world) _ s.node o (own_loses (without_notes s.scene.world) line serial o.own))
  line_goes line (events.Timeout serial) told s a q t few h =
      let o = opens line (events.Timeout serial) s refl h in
      more _ _ (times_out nodes initiators (record { world = without_notes s.scene.world; node = s.node }) o line serial)
  line_goes line (events.Step count) told s a q t few h = more _ _ (all_heard told t (begun s) (opens line (events.Step count) s refl h) refl)
  line_goes line events.Settle told s a q t few h = more _ _ (settles_line told t (begun s) (opens line events.Settle s refl h) refl)
  line_goes line events.Tick told s a q t few h = cc
  line_goes line (events.Inject initiator bytes) told s a q t few h = cc
  line_goes line (events.Key unit key) told s a q t few h = cc
