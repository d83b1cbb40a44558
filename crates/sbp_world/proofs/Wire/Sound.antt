-- Each line of a world is a list of moves of the wire, and leaves nodes that know whom they ask.
use Rattle.sbp_world.proofs.Words.Std.{if◌then◌else◌, All, list_any, arith, ◌∙◌, ap}
use Rattle.sbp_world.proofs.Words.Wire.{first, flying, is_flying, is_plain, is_reset, Moment, asked, said, empty_outbox, terms, Action, Event, no_packet, end_note}
use Rattle.sbp_world.proofs.Words.Target.{Told, ticked, with_key}
use Rattle.sbp_world.proofs.Words.World.{handed_out, acted, happens, keyed, no_unit, reset_line, target_ticks, tick_line, delivered_if, first_told, injected, injected_to, inject_line, lose_line, may_repeat, refused, posted, after_all, delivered_at, delivered_next, lowest, settled, is_settled, WorldState, Scene, begun, with_note, with_target, without_notes, BytesAction, OwnFittingLaw, BytesTold, FittingLaw, IsLine}
use Rattle.std.specs.Prelude.{◌≡◌, ◌<◌, ℕ, ◌+◌, ◌^◌, ◌==◌, ◌||◌, nat_lt, Bool, true, false, List, [], ◌∷◌, ◌++◌, length, map, Option, Some, None, refl}
use Rattle.sbp_journal.specs.declared.event.Event.TheVariants as events
use Rattle.sbp_journal.specs.declared.note.Note.TheVariants as notes
use Rattle.sbp_target.specs.Nodes as target
use Rattle.sbp_world.proofs.Wire.CommandBytes.{AreTold}
use Rattle.sbp_world.proofs.Wire.Bus.{injects, refuses, resets}
use Rattle.sbp_world.proofs.Wire.Hears.{hears, times_out_line}
use Rattle.sbp_world.proofs.Wire.Holding.{own_sound, own_then, NodesOf, Sound, later, nodes_alike, target_has, with_target_holds}
use Rattle.sbp_world.proofs.Wire.Lines.{keys, ticks}
use Rattle.sbp_world.proofs.Wire.OwnLines.{own_acts, own_loses}
use Rattle.sbp_world.proofs.Wire.Nodes.{handed_alike}
use Rattle.sbp_world.proofs.Wire.Repeats.{said_same}
use Rattle.sbp_world.proofs.Wire.Sights.{sights}
use Rattle.sbp_world.proofs.Wire.Tells.{starts, tells}

-- ---- lines that change no node
pub refuses_line : {past : List Moment} {lines : ℕ} (w : WorldState) (line number : ℕ) → Sound past lines w → Sound past lines (refused line number w)
refuses_line {past} w line number s = record { stands = refuses past w line number s.stands; nodes = s.nodes }

pub loses_line : {past : List Moment} {lines : ℕ} (w : WorldState) (line serial : ℕ) → Sound past lines w → Sound past lines (lose_line line serial w)
loses_line w line serial s = own_then w _ s.nodes (own_loses w line serial (own_sound s))

injects_nodes : (w : WorldState) (line from lines : ℕ) (bytes : List ℕ) (to : Option ℕ) → NodesOf w lines → NodesOf (injected to line from bytes w) lines
unfolding posted
injects_nodes w line from lines bytes None n = n
injects_nodes w line from lines bytes (Some to) n = n

injects_line : {past : List Moment} {lines : ℕ} (w : WorldState) (line initiator : ℕ) (bytes : List ℕ) → initiator < length w.initiators → All (λ byte. byte < 256) bytes → Sound past lines w → Sound past lines (inject_line line initiator bytes w)
unfolding inject_line
injects_line {past} {lines} w line initiator bytes l fit s = record {
  stands = injects past w line initiator bytes l fit s.stands;
  nodes = injects_nodes w line (initiator + 1) lines bytes (injected_to (initiator + 1) bytes w) s.nodes;
}

-- ---- a line begins, or there is one more
pub opens : {past : List Moment} {lines : ℕ} (line : ℕ) (event : Event) (w : WorldState) → is_reset event ≡ false → Sound past lines w → Sound (asked line event ∷ (map said w.fresh ++ past)) lines (without_notes w)
opens {past} line event w e s = record { stands = starts past w line event e s.stands; nodes = s.nodes }

more_lines : {past : List Moment} {lines : ℕ} {w : WorldState} → Sound past lines w → Sound past (lines + 1) w
more_lines {lines = lines} {w = w} s = record { stands = s.stands; nodes = later w lines s.nodes }

reset_nodes : (physical : List ℕ) (w : WorldState) (lines : ℕ) → NodesOf w lines → NodesOf (reset_line physical (without_notes w)) (lines + 1)
unfolding reset_line
reset_nodes physical w lines n = later w lines n

-- ---- what a line told, and the lowest packet in flight
pub first_fits : (told : List (Option Told)) → AreTold told → BytesTold (first_told told)
first_fits [] t = tt
first_fits (told ∷ before) t = t.0

pub first_flies : (xs : List ℕ) (serial : ℕ) → first xs ≡ Some serial → list_any (λ s. serial == s) xs ≡ true
first_flies [] serial e = cc
first_flies (x ∷ xs) serial e = here x serial (let f : x ≡ serial = cc in f) (list_any (λ s. serial == s) xs)
  where
    here : (x serial : ℕ) → x ≡ serial → (b : Bool) → ((serial == x) || b) ≡ true
    here x serial e b = grind arith

module _ (targets : FittingLaw) (initiators : OwnFittingLaw) where
  -- ---- an initiator acts
  acts_line : {past : List Moment} {lines : ℕ} (w : WorldState) → Sound past lines w → (line i : ℕ) (action : Action) → i < length w.initiators → BytesAction action → lines + 1 < 2 ^ 32 → Sound past (lines + 1) (acted line i action w)
  acts_line w sound line i action inside are_bytes few = own_then w _ sound.nodes (own_acts initiators w (own_sound sound) line i action inside are_bytes few)

  -- ---- a second passes, a unit gets a key
  ticks_line : {past : List Moment} {lines : ℕ} (w : WorldState) → Sound past lines w → Sound past lines (tick_line w)
  unfolding tick_line target_ticks
  ticks_line {past} {lines} w s =
      let after = ticked (target.scene w.target empty_outbox) in
      let v = with_target after.node (with_note notes.Tick w) in
      record {
        stands = ticks past w s.stands;
        nodes = nodes_alike v (handed_out 0 0 after.outbox v) lines (handed_alike 0 0 after.outbox v)
            (with_target_holds (with_note notes.Tick w) lines after.node ((targets (target_has w.generations.seen) (target_has w.generations.seen)).seconds w.target s.nodes.target_holds) s.nodes);
      }

  keys_nodes : (w : WorldState) (line unit lines : ℕ) (key : List ℕ) (b : Bool) → NodesOf w lines → NodesOf (if b then with_note (notes.Key unit) (with_target (with_key unit key w.target) w) else refused line no_unit w) lines
  keys_nodes w line unit lines key true n =
      with_target_holds w lines (with_key unit key w.target) ((targets (target_has w.generations.seen) (target_has w.generations.seen)).keys unit key w.target n.target_holds) n
  keys_nodes w line unit lines key false n = n

  keys_line : {past : List Moment} {lines : ℕ} (w : WorldState) (line unit : ℕ) (key : List ℕ) → Sound past lines w → Sound past lines (keyed line unit key w)
  unfolding keyed
  keys_line {past} {lines} w line unit key s = record {
    stands = keys past w line unit key s.stands;
    nodes = keys_nodes w line unit lines key (nat_lt unit (length w.target.units)) s.nodes;
  }

  -- ---- one delivery, or one after the other
  delivers_line : {past : List Moment} {lines : ℕ} (line serial : ℕ) (again b : Bool) (told : List (Option Told)) (s : Scene) (sound : Sound past lines s.world) → AreTold told → (terms sound.stands.wire.past).repeats ≡ again → (again ≡ false → is_flying serial s.world.store.kept ≡ b) → Sound past lines (delivered_if b line serial again told s).world
  delivers_line line serial again true told s sound t r f = hears targets initiators s sound serial again (first_told told) (first_fits told t) r f
  delivers_line line serial again false told s sound t r f = refuses_line s.world line no_packet sound

  pub next_heard : {past : List Moment} {lines : ℕ} (told : Option Told) → BytesTold told → (s : Scene) → Sound past lines s.world → (terms past).repeats ≡ false → (o : Option ℕ) → lowest s.world ≡ o → Sound past lines (delivered_at o told s).world
  next_heard told t s sound r None e = sound
  next_heard {past} told t s sound r (Some serial) e =
      hears targets initiators s sound serial false told t
      (ap (λ p. (terms p).repeats) sound.stands.is.past_is ∙ said_same s.world.fresh past ∙ r)
      (λ x. first_flies (flying s.world.store.kept) serial e)

  all_heard : {past : List Moment} {lines : ℕ} (told : List (Option Told)) → AreTold told → (s : Scene) → Sound past lines s.world → (terms past).repeats ≡ false → Sound past lines (after_all told s).world
  unfolding delivered_next
  all_heard [] t s sound r = sound
  all_heard (told ∷ before) t s sound r =
      let b = all_heard before t.1 s sound r in
      next_heard told t.0 (after_all before s) b r (lowest (after_all before s).world) refl

  ends : {past : List Moment} {lines : ℕ} (w : WorldState) (b : Bool) → Sound past lines w → Sound past lines (with_note (end_note b) w)
  unfolding is_plain
  ends {past} w true s = record { stands = tells past w notes.Settled refl s.stands; nodes = s.nodes }
  ends {past} w false s = record { stands = tells past w notes.Stopped refl s.stands; nodes = s.nodes }

  settles_line : {past : List Moment} {lines : ℕ} (told : List (Option Told)) → AreTold told → (s : Scene) → Sound past lines s.world → (terms past).repeats ≡ false → Sound past lines (settled told s).world
  settles_line told t s sound r = ends (after_all told s).world (is_settled (after_all told s).world) (all_heard told t s sound r)

  -- ---- all lines
  pub line_goes : {past : List Moment} {lines : ℕ} (line : ℕ) (event : Event) (told : List (Option Told)) (s : Scene) → IsLine event (length s.world.initiators) → AreTold told → lines + 1 < 2 ^ 32 → Sound past lines s.world → Sound (asked line event ∷ (map said s.world.fresh ++ past)) (lines + 1) (happens line event told s).world
  unfolding happens
  line_goes line (events.Begin initiators ready) told s q t few h = absurd q
  line_goes {lines = lines} line (events.Act initiator action) told s q t few h =
      acts_line (without_notes s.world) (opens line (events.Act initiator action) s.world refl h) line initiator action q.0 q.1 few
  line_goes {past} {lines} line (events.Reset physical) told s q t few h =
      record { stands = resets past s.world line physical q h.stands; nodes = reset_nodes physical s.world lines h.nodes }
  line_goes line (events.See node) told s q t few h = more_lines (sights targets initiators (without_notes s.world) node q (opens line (events.See node) s.world refl h))
  line_goes line (events.Deliver serial) told s q t few h =
      let o = opens line (events.Deliver serial) s.world refl h in
      more_lines (delivers_line line serial false (is_flying serial s.world.store.kept) told (begun s) o t (ap (λ p. (terms p).repeats) o.stands.is.past_is) (λ e. refl))
  line_goes line (events.Repeat serial) told s q t few h =
      let o = opens line (events.Repeat serial) s.world refl h in
      more_lines (delivers_line line serial true (may_repeat serial (begun s).world) told (begun s) o t (ap (λ p. (terms p).repeats) o.stands.is.past_is) (λ e. cc))
  line_goes line (events.Lose serial) told s q t few h = more_lines (loses_line (without_notes s.world) line serial (opens line (events.Lose serial) s.world refl h))
  line_goes line (events.Timeout serial) told s q t few h = more_lines (times_out_line targets initiators (without_notes s.world) (opens line (events.Timeout serial) s.world refl h) line serial)
  line_goes line (events.Step count) told s q t few h = more_lines (all_heard told t (begun s) (opens line (events.Step count) s.world refl h) refl)
  line_goes line events.Settle told s q t few h = more_lines (settles_line told t (begun s) (opens line events.Settle s.world refl h) refl)
  line_goes line events.Tick told s q t few h = more_lines (ticks_line (without_notes s.world) (opens line events.Tick s.world refl h))
  line_goes line (events.Inject initiator bytes) told s q t few h = more_lines (injects_line (without_notes s.world) line initiator bytes q.0 q.1 (opens line (events.Inject initiator bytes) s.world refl h))
  line_goes line (events.Key unit key) told s q t few h = more_lines (keys_line (without_notes s.world) line unit key (opens line (events.Key unit key) s.world refl h))
