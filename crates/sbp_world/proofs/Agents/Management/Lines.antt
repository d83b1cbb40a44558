-- After each line of a world the terms of the target's management are its state.
use Rattle.sbp_world.proofs.Words.Std.{arith, ◌≡◌, ◌∙◌, refl, sym, ap, subst, ℕ, ◌+◌, ◌^◌, ◌<◌, ◌≤◌, nat_eq, Bool, true, false, cond, List, [], ◌∷◌, length, Option, Some, None, if◌then◌else◌, upd}
use Rattle.sbp_world.proofs.Words.Wire.{is_reset, flying, empty_outbox, Moment, asked, Sending, Transaction, Terms, sends, terms, Action, Event, topology_at, no_node, no_packet, end_note}
use Rattle.sbp_world.proofs.Words.Target.{Disk, Told}
use Rattle.sbp_world.proofs.Words.Initiator.{Nothing, act_step, Turn}
use Rattle.sbp_world.proofs.Words.World.{acted, acted_by, happens, weight_in, reset_line, delivered_if, first_told, injected, injected_to, inject_line, is_in_flight, lose_line, lost, may_repeat, refused, posted, after_all, delivered_at, delivered_next, is_settled, lowest, Scene, WorldState, begun, initiator_at, with_initiator, with_note, without_notes, BytesTold, IsLine, Office, at_rest}
use Rattle.bus_transactions.proofs.Facts.{injected_begun}
use Rattle.sbp_world.proofs.FitInitiator.Law.{fitting_law as own_fitting_law}
use Rattle.sbp_journal.specs.declared.event.Event.TheVariants as events
use Rattle.sbp_journal.specs.declared.note.Note.TheVariants as notes
use Rattle.sbp_world.proofs.FitTarget.Law.{fitting_law}
use Rattle.sbp_world.proofs.Wire.Bus.{holds}
use Rattle.sbp_world.proofs.Wire.Hears.{hears}
use Rattle.sbp_world.proofs.Wire.Holding.{Sound, later}
use Rattle.sbp_world.proofs.Wire.Repeats.{said_same}
use Rattle.sbp_world.proofs.Wire.Sound.{line_goes, first_flies}
use Rattle.sbp_world.proofs.Wire.Tells.{starts}
use Rattle.sbp_world.proofs.Wire.CommandBytes.{AreTold}
use Rattle.sbp_world.proofs.Agents.Management.Firsts.{opened_office}
use Rattle.sbp_world.proofs.Agents.Management.Hands.{carried, heard, own_turn}
use Rattle.sbp_world.proofs.Agents.Management.Holding.{Holding, past_terms}
use Rattle.sbp_world.proofs.InitiatorForms as own
use Rattle.sbp_world.proofs.Agents.Management.Lapsing.{refuses, times_out_line}
use Rattle.sbp_world.proofs.Agents.Management.Passing.{keeping, keeping_self, keeping_then, opened_kept, reset_kept, same_office, same_rest}
use Rattle.sbp_world.proofs.Agents.Management.Sights.{keys_line, sights, ticks_line}
use Rattle.sbp_world.proofs.Agents.Management.Still.{hist, sends_still}
use Rattle.sbp_world.proofs.Agents.Management.Told.{office_in, one_note, posts}

rest_same : (o : Office) → o.asks ≡ Nothing → o ≡ at_rest o
rest_same o e = ap (λ a. record o { asks = a }) e

module _ (units ready : ℕ) (has : 0 < units) (start : List Disk) where
  -- ---- lines that change no node, or only an initiator
  refuses_own : {past : List Moment} {lines : ℕ} (w : WorldState) (i : ℕ) (turn : Turn) (line number : ℕ) → Holding units ready start past lines w → Sound past lines (refused line number (with_initiator i turn.1 w)) → Holding units ready start past lines (refused line number (with_initiator i turn.1 w))
  refuses_own {past} w i turn line number h sound =
      carried units ready start w (refused line number (with_initiator i turn.1 w)) h sound refl
      (same_office (office_in start past w) (office_in start past (refused line number (with_initiator i turn.1 w))) (one_note start past (notes.Refused line number) (with_initiator i turn.1 w) tt))
      (keeping_self (terms (hist past w)))

  acts_by : {past : List Moment} {lines : ℕ} (w : WorldState) (line i : ℕ) (action : Action) (r : Option ℕ × Turn) → own.At r.1 → (office_in start past w).asks ≡ Nothing → Holding units ready start past lines w → Sound past lines (acted_by r line i action w) → Holding units ready start past lines (acted_by r line i action w)
  acts_by w line i action (Some number, turn) tells idle h sound = refuses_own w i turn line number h sound
  acts_by {past} w line i action (None, turn) tells idle h sound =
      own_turn units ready start w (with_initiator i turn.1 w) (i + 1) (weight_in action) turn.0 h tells (rest_same (office_in start past w) idle) (keeping_self (terms (hist past w))) refl sound

  acts_line : {past : List Moment} {lines : ℕ} (w : WorldState) (line i : ℕ) (action : Action) → (office_in start past w).asks ≡ Nothing → Holding units ready start past lines w → Sound past lines (acted line i action w) → Holding units ready start past lines (acted line i action w)
  unfolding acted
  acts_line w line i action idle h sound = acts_by w line i action (act_step action empty_outbox (initiator_at w i)) (own.acts action empty_outbox (initiator_at w i) tt) idle h sound

  loses_by : {past : List Moment} {lines : ℕ} (w : WorldState) (line serial : ℕ) (b : Bool) → Holding units ready start past lines w → (let v = (if b then lost serial w else refused line no_packet w) in Sound past lines v → Holding units ready start past lines v)
  loses_by {past} w line serial true h sound =
      carried units ready start w (lost serial w) h sound refl
      (same_office (office_in start past w) (office_in start past (lost serial w)) (one_note start past (notes.Lost serial) w tt))
      (record { generation = refl; ids = λ peer. refl; held = λ x kind s r e. e })
  loses_by w line serial false h sound = refuses units ready has start w line no_packet h sound

  loses_line : {past : List Moment} {lines : ℕ} (w : WorldState) (line serial : ℕ) → Holding units ready start past lines w → Sound past lines (lose_line line serial w) → Holding units ready start past lines (lose_line line serial w)
  unfolding lose_line
  loses_line w line serial h sound = loses_by w line serial (is_in_flight serial w) h sound

  -- an injected packet
  injects_to : {past : List Moment} {lines : ℕ} (w : WorldState) (line from : ℕ) (bytes : List ℕ) (to : Option ℕ) → (office_in start past w).asks ≡ Nothing → Holding units ready start past lines w → Sound past lines (injected to line from bytes w) → Holding units ready start past lines (injected to line from bytes w)
  unfolding posted
  injects_to w line from bytes None idle h sound = refuses units ready has start w line no_node h sound
  injects_to {past} w line from bytes (Some to) idle h sound =
      let n = w.store.last + 1 in
      let v = with_note (notes.Injected n) w in
      let told = one_note start past (notes.Injected n) w tt in
      let t : Terms = terms (hist past w) in
      let u : Terms = terms (hist past v) in
      let q : Sending = record { generation = (topology_at w.generations from).generation; from = from; to = to; bytes = bytes; injected = u.injected n } in
      let flagged : q.injected ≡ true = now_injected t n in
      carried units ready start w (posted from to true bytes w) h sound refl
      (same_office (office_in start past w) (office_in start past (posted from to true bytes w))
      (posts start past from to bytes v (ap (λ (o : Office). o.asks) told ∙ idle) ∙ told))
      (keeping_then t u (sends n q u) (record { generation = refl; ids = λ peer. refl; held = λ x kind s r e. e })
      (keeping u (sends n q u) (sends_still n q u (λ x e. absurd (none_some x (sym (injected_begun q flagged) ∙ e))))))
    where
      none_some : (x : Transaction) → None ≡ Some x → ⊥
      none_some x e = cc

      now_injected : (t : Terms) (n : ℕ) → upd t.injected n true n ≡ true
      now_injected t n = ap (λ b. cond b true (t.injected n)) (let z : nat_eq n n ≡ true = grind arith in z)

  injects_line : {past : List Moment} {lines : ℕ} (w : WorldState) (line i : ℕ) (bytes : List ℕ) → (office_in start past w).asks ≡ Nothing → Holding units ready start past lines w → Sound past lines (inject_line line i bytes w) → Holding units ready start past lines (inject_line line i bytes w)
  unfolding inject_line
  injects_line w line i bytes idle h sound = injects_to w line (i + 1) bytes (injected_to (i + 1) bytes w) idle h sound

  -- ---- a line begins
  module _ (line : ℕ) (event : Event) (w : WorldState) where
    pub opens : {past : List Moment} {lines : ℕ} → is_reset event ≡ false → Holding units ready start past lines w → Holding units ready start (asked line event ∷ hist past w) (lines + 1) (without_notes w)
    opens {past} {lines} e h =
        carried units ready start w (without_notes w) h
        (record { stands = starts past w line event e h.sound.stands; nodes = later w lines h.sound.nodes }) refl
        (same_rest (office_in start past w) (office_in start (asked line event ∷ hist past w) (without_notes w)) (opened_office start (hist past w) line event))
        (opened_kept event (terms (hist past w)) e)

    opened_idle : (past : List Moment) → (office_in start (asked line event ∷ hist past w) (without_notes w)).asks ≡ Nothing
    opened_idle past = ap (λ (o : Office). o.asks) (opened_office start (hist past w) line event)

  resets_line : {past : List Moment} {lines more : ℕ} (line : ℕ) (physical : List ℕ) (w : WorldState) → Holding units ready start past lines w → Sound (asked line (events.Reset physical) ∷ hist past w) more (reset_line physical (without_notes w)) → Holding units ready start (asked line (events.Reset physical) ∷ hist past w) more (reset_line physical (without_notes w))
  unfolding reset_line
  resets_line {past} line physical w h sound =
      let e = events.Reset physical in
      let g = w.generations.latest.generation + 1 in
      let facts = (holds h.sound.stands.wire h.sound.stands.reached).facts in
      let aged : (terms (hist past w)).generation 0 ≤ (terms (hist past w)).bus = subst (λ (t : Terms). t.generation 0 ≤ t.bus) (past_terms w h.sound.stands) (facts.aged 0) in
      carried units ready start w (reset_line physical (without_notes w)) h sound refl
      (same_rest (office_in start past w) (office_in start (asked line e ∷ hist past w) (reset_line physical (without_notes w)))
      (one_note start (asked line e ∷ hist past w) (notes.Reset g) (without_notes w) tt ∙ opened_office start (hist past w) line e))
      (reset_kept line physical g (hist past w) aged)

  -- ---- deliveries
  delivers_if : {past : List Moment} {lines : ℕ} (b : Bool) (line serial : ℕ) (again : Bool) (told : List (Option Told)) (s : Scene) → Holding units ready start past lines s.world → Sound past lines (delivered_if b line serial again told s).world → Holding units ready start past lines (delivered_if b line serial again told s).world
  delivers_if true line serial again told s h sound = heard units ready start has s h serial again (first_told told) sound
  delivers_if false line serial again told s h sound = refuses units ready has start s.world line no_packet h sound

  next_heard : {past : List Moment} {lines : ℕ} (told : Option Told) → BytesTold told → (s : Scene) → Holding units ready start past lines s.world → (terms past).repeats ≡ false → (o : Option ℕ) → lowest s.world ≡ o → Holding units ready start past lines (delivered_at o told s).world
  next_heard told t s h r None e = h
  next_heard {past} told t s h r (Some serial) e =
      heard units ready start has s h serial false told
      (hears fitting_law own_fitting_law s h.sound serial false told t
      (ap (λ p. (terms p).repeats) h.sound.stands.is.past_is ∙ said_same s.world.fresh past ∙ r)
      (λ x. first_flies (flying s.world.store.kept) serial e))

  pub all_heard : {past : List Moment} {lines : ℕ} (told : List (Option Told)) → AreTold told → (s : Scene) → Holding units ready start past lines s.world → (terms past).repeats ≡ false → Holding units ready start past lines (after_all told s).world
  unfolding delivered_next
  all_heard [] t s h r = h
  all_heard (told ∷ before) t s h r =
      let b = all_heard before t.1 s h r in
      next_heard told t.0 (after_all before s) b r (lowest (after_all before s).world) refl

  ends : {past : List Moment} {lines : ℕ} (w : WorldState) (b : Bool) → Holding units ready start past lines w → Sound past lines (with_note (end_note b) w) → Holding units ready start past lines (with_note (end_note b) w)
  ends {past} w true h sound =
      carried units ready start w (with_note notes.Settled w) h sound refl
      (same_office (office_in start past w) (office_in start past (with_note notes.Settled w)) (one_note start past notes.Settled w tt)) (keeping_self (terms (hist past w)))
  ends {past} w false h sound =
      carried units ready start w (with_note notes.Stopped w) h sound refl
      (same_office (office_in start past w) (office_in start past (with_note notes.Stopped w)) (one_note start past notes.Stopped w tt)) (keeping_self (terms (hist past w)))

  -- ---- all lines
  goes : {past : List Moment} {lines : ℕ} (line : ℕ) (event : Event) (told : List (Option Told)) (s : Scene) → IsLine event (length s.world.initiators) → AreTold told → Holding units ready start past lines s.world → Sound (asked line event ∷ hist past s.world) (lines + 1) (happens line event told s).world → Holding units ready start (asked line event ∷ hist past s.world) (lines + 1) (happens line event told s).world
  unfolding happens
  goes line (events.Begin initiators ready) told s q t h sound = absurd q
  goes {past} line (events.Act initiator action) told s q t h sound =
      let e = events.Act initiator action in
      acts_line (without_notes s.world) line initiator action (opened_idle line e s.world past) (opens line e s.world refl h) sound
  goes line (events.Reset physical) told s q t h sound = resets_line line physical s.world h sound
  goes line (events.See node) told s q t h sound = sights units ready has start (without_notes s.world) (opens line (events.See node) s.world refl h) node sound
  goes line (events.Deliver serial) told s q t h sound =
      delivers_if (is_in_flight serial (begun s).world) line serial false told (begun s) (opens line (events.Deliver serial) s.world refl h) sound
  goes line (events.Repeat serial) told s q t h sound =
      delivers_if (may_repeat serial (begun s).world) line serial true told (begun s) (opens line (events.Repeat serial) s.world refl h) sound
  goes line (events.Lose serial) told s q t h sound = loses_line (without_notes s.world) line serial (opens line (events.Lose serial) s.world refl h) sound
  goes line (events.Timeout serial) told s q t h sound =
      times_out_line units ready has start (without_notes s.world) (opens line (events.Timeout serial) s.world refl h) line serial sound
  goes line (events.Step count) told s q t h sound = all_heard told t (begun s) (opens line (events.Step count) s.world refl h) refl
  goes line events.Settle told s q t h sound =
      let a = all_heard told t (begun s) (opens line events.Settle s.world refl h) refl in
      ends (after_all told (begun s)).world (is_settled (after_all told (begun s)).world) a sound
  goes line events.Tick told s q t h sound = ticks_line units ready has start (without_notes s.world) (opens line events.Tick s.world refl h) sound
  goes {past} line (events.Inject initiator bytes) told s q t h sound =
      let e = events.Inject initiator bytes in
      injects_line (without_notes s.world) line initiator bytes (opened_idle line e s.world past) (opens line e s.world refl h) sound
  goes {past} line (events.Key unit key) told s q t h sound =
      keys_line units ready has start (without_notes s.world) (opens line (events.Key unit key) s.world refl h) (hist past s.world) line line unit key refl sound

  pub line_holds : {past : List Moment} {lines : ℕ} (line : ℕ) (event : Event) (told : List (Option Told)) (s : Scene) → IsLine event (length s.world.initiators) → AreTold told → lines + 1 < 2 ^ 32 → Holding units ready start past lines s.world → Holding units ready start (asked line event ∷ hist past s.world) (lines + 1) (happens line event told s).world
  line_holds line event told s q t few h = goes line event told s q t h (line_goes fitting_law own_fitting_law line event told s q t few h.sound)
