-- In every run there are nine lines for each eight logins that the target granted, but for the first few: eight are live at most, others went with a logout or with a reset, and each
-- decision takes a write of MANAGEMENT_AGENT, which an initiator sent in a line of its own.
use Rattle.sbp_world.proofs.Words.Std.{arith, ◌≡◌, ◌∙◌, refl, sym, ap, subst, ℕ, suc, ◌+◌, ◌*◌, ◌^◌, ◌<◌, ◌≤◌, Bool, true, false, List, [], ◌∷◌, ◌++◌, map, length, Option, Some, None}
use Rattle.sbp_world.proofs.Words.Wire.{Kept, Sent, found, found_sent, is_flying, Stored, is_reset, end_note, no_packet, Event, Note, Moment, asked, said, terms}
use Rattle.sbp_world.proofs.Words.Target.{Disk, Told}
use Rattle.sbp_world.proofs.Words.World.{marked, history_of, moments_behind, MayHappen, happens, new_world, ready_logins, MayIf, delivered_if, is_in_flight, may_repeat, AreEntries, Entry, Run, after, beginning, MayAll, MayNext, after_all, delivered_at, delivered_next, is_settled, lowest, AreLines, IsLine, Scene, WorldState, begun, without_notes, IsRun, entries, entries_of, FewLoginsLaw}
use Rattle.bus_transactions.proofs.Reaches.{goes_on}
use Rattle.sbp_journal.specs.declared.event.Event.TheVariants as events
use Rattle.sbp_world.specs.Settling as settling
use Rattle.sbp_world.proofs.Wire.Sound.{first_flies}
use Rattle.sbp_world.proofs.Wire.ToldBytes.{happened_fits}
use Rattle.sbp_world.proofs.Wire.CommandBytes.{AreTold}
use Rattle.sbp_world.proofs.Agents.Holders.{seats_after}
use Rattle.sbp_world.proofs.Agents.Management.Holding.{Holding}
use Rattle.sbp_world.proofs.Agents.Management.Lines.{all_heard, opens}
use Rattle.sbp_world.proofs.Agents.Management.Runs.{holds_after}
use Rattle.sbp_world.proofs.Agents.Management.Still.{hist}
use Rattle.sbp_world.proofs.Agents.Seating.{all_seats, opened}
use Rattle.sbp_world.proofs.Agents.Seats.{Seats}
use Rattle.sbp_world.proofs.Lists.CountedLogins.{live_few, live_in}
use Rattle.sbp_world.proofs.Lists.DecisionsDue.{undecided}
use Rattle.sbp_world.proofs.Lists.GrantLines as lines
use Rattle.sbp_world.proofs.Lists.GrantTurns.{Moves, delivery_moves, no_move}
use Rattle.sbp_world.proofs.Lists.LiveTurns.{good}
use Rattle.sbp_world.proofs.Lists.PendingWrites.{is_out, marked_less, marked_most, pending}

moves_then : (more : ℕ) (past : List Moment) (w u v : WorldState) → Moves more past w u → Moves 0 past u v → Moves more past w v
moves_then more past w u v a b = let one = a.few in let two = b.few in record { few = omega (arith, one, two) }

end_none : (b : Bool) → entries_of (end_note b) ≡ 0
end_none true = refl
end_none false = refl

module _ (units ready : ℕ) (has : 0 < units) (start : List Disk) where
  -- ---- deliveries
  module _ {past : List Moment} {count : ℕ} (s : Scene) (h : Holding units ready start past count s.world) (seats : Seats s.world) where
    abbrev w : WorldState
    w = s.world

    once_more : (serial : ℕ) (again : Bool) (sent : Sent) → found_sent serial w.store.kept ≡ Some sent → is_out sent.from sent.bytes ≡ true → (u : WorldState) → u.store ≡ w.store → 8 * pending (marked serial again u).store.kept + 8 ≤ 8 * pending w.store.kept + 8
    once_more serial again sent found out u e = let m = marked_most serial again u in let st = ap (λ (x : Stored). pending x.kept) e in omega (arith, m, st)

    if_moves : (b : Bool) (line serial : ℕ) (again : Bool) (told : List (Option Told)) → MayIf b serial told s → Moves 8 past w (delivered_if b line serial again told s).world
    if_moves true line serial again [] m = absurd m
    if_moves true line serial again (one ∷ []) m = delivery_moves units ready has start s h seats serial again one 8 (once_more serial again) m
    if_moves true line serial again (one ∷ two ∷ told) m = absurd m
    if_moves false line serial again told m = lines.refused_moves units ready has start w h line no_packet

    -- the packet is in flight no more
    lands : (serial : ℕ) → is_flying serial w.store.kept ≡ true → (sent : Sent) → found_sent serial w.store.kept ≡ Some sent → is_out sent.from sent.bytes ≡ true → (u : WorldState) → u.store ≡ w.store → 8 * pending (marked serial false u).store.kept + 8 ≤ 8 * pending w.store.kept + 0
    lands serial flies sent is out u e =
        let stands = h.sound.stands in
        let k : Kept = record { serial = serial; in_flight = is_flying serial w.store.kept; sent = sent } in
        let wire = goes_on.finds stands.wire serial sent stands.reached (ap (λ (x : Stored). found_sent serial x.kept) stands.is.store_is ∙ is) in
        let here : found serial w.store.kept ≡ Some k = subst (λ (x : Stored). found serial x.kept ≡ Some (record { serial = serial; in_flight = is_flying serial x.kept; sent = sent })) stands.is.store_is wire in
        let there : found serial u.store.kept ≡ Some k = ap (λ (x : Stored). found serial x.kept) e ∙ here in
        let m = marked_less serial u k there (record { flies = flies; out = out }) (ap (λ (x : Stored). is_flying serial x.kept) e ∙ flies) in
        let st = ap (λ (x : Stored). pending x.kept) e in
        omega (arith, m, st)

    next_at : (found : Option ℕ) → lowest w ≡ found → (one : Option Told) → settling.MayAt found one s → Moves 0 past w (delivered_at found one s).world
    next_at None e one m = absurd m
    next_at (Some serial) e one m = delivery_moves units ready has start s h seats serial false one 0 (lands serial (first_flies _ serial e)) m

    pub next_moves : (one : Option Told) → MayNext one s → Moves 0 past w (delivered_next one s).world
    unfolding MayNext delivered_next
    next_moves one m = next_at (lowest w) refl one m

  all_moves : {past : List Moment} {count : ℕ} (s : Scene) (told : List (Option Told)) → AreTold told → MayAll told s → Holding units ready start past count s.world → Seats s.world → (terms past).repeats ≡ false → Moves 0 past s.world (after_all told s).world
  all_moves {past} s [] t m h q r = no_move past s.world s.world refl
  all_moves {past} s (one ∷ told) t m h q r =
      let here = after_all told s in
      moves_then 0 past s.world here.world (delivered_next one here).world (all_moves s told t.1 m.1 h q r)
      (next_moves here (all_heard units ready has start told t.1 s h r) (all_seats units ready has start told t.1 s h q r) one m.0)

  -- ---- a line
  module _ {past : List Moment} {count : ℕ} (line : ℕ) (s : Scene) (h : Holding units ready start past count s.world) (seats : Seats s.world) where
    abbrev opened_world : WorldState
    opened_world = without_notes s.world

    abbrev now : Event → List Moment
    now event = asked line event ∷ hist past s.world

    opens_at : (event : Event) → is_reset event ≡ false → Holding units ready start (now event) (count + 1) opened_world
    opens_at event e = opens units ready has start line event s.world e h

    seats_at : Seats opened_world
    seats_at = opened units ready has start s.world seats

    line_moves : (event : Event) (told : List (Option Told)) → IsLine event (length s.world.initiators) → AreTold told → MayHappen event told s → Moves 8 (now event) opened_world (happens line event told s).world
    unfolding happens MayHappen
    line_moves (events.Begin initiators is_ready) told l t m = absurd l
    line_moves (events.Act i action) told l t m = lines.act_moves (now (events.Act i action)) opened_world line i action
    line_moves (events.Reset physical) told l t m = lines.reset_moves (now (events.Reset physical)) opened_world physical
    line_moves (events.See node) told l t m = lines.see_moves units ready has start opened_world (opens_at (events.See node) refl) node
    line_moves (events.Deliver serial) told l t m = if_moves (begun s) (opens_at (events.Deliver serial) refl) seats_at (is_in_flight serial opened_world) line serial false told m
    line_moves (events.Repeat serial) told l t m = if_moves (begun s) (opens_at (events.Repeat serial) refl) seats_at (may_repeat serial opened_world) line serial true told m
    line_moves (events.Lose serial) told l t m = lines.lose_moves (now (events.Lose serial)) opened_world line serial
    line_moves (events.Timeout serial) told l t m = lines.late_moves units ready has start opened_world (opens_at (events.Timeout serial) refl) line serial
    line_moves (events.Step most) told l t m =
        let few = (all_moves (begun s) told t m.may (opens_at (events.Step most) refl) seats_at refl).few in record { few = omega (arith, few) }
    line_moves events.Settle told l t m =
        let few = (all_moves (begun s) told t m.may (opens_at events.Settle refl) seats_at refl).few in
        let none = end_none (is_settled (after_all told (begun s)).world) in
        record { few = omega (arith, few, none) }
    line_moves events.Tick told l t m = lines.tick_moves units ready has start opened_world (opens_at events.Tick refl)
    line_moves (events.Inject i bytes) told l t m = lines.inject_moves (now (events.Inject i bytes)) opened_world line i bytes
    line_moves (events.Key unit key) told l t m = lines.key_moves units ready has start opened_world (opens_at (events.Key unit key) refl) line unit key

-- ---- after each line
abbrev lines_of : List Moment → ℕ
lines_of [] = 0
lines_of (asked line event ∷ past) = suc (lines_of past)
lines_of (said note ∷ past) = lines_of past

said_lines : (ns : List Note) (past : List Moment) → lines_of (map said ns ++ past) ≡ lines_of past
said_lines [] past = refl
said_lines (note ∷ ns) past = said_lines ns past

record AreFew (ms : List Moment) (w : WorldState) : Type 0 where
  few : 9 * entries ms + (8 * undecided w.target.manager.operation + 8 * pending w.store.kept) ≤ 8 * lines_of ms + (live_in w.target.logins.places + 32)

first_few : (line : ℕ) (run : Run) → run.initiators ≤ 4 → run.units ≤ 4 → length run.start.disks ≡ run.units → AreFew (moments_behind line run []) (beginning run).world
unfolding new_world
first_few line run few small size = by run.ready few
  where
    by : (ready : Bool) → run.initiators ≤ 4 → AreFew (moments_behind line (record run { ready = ready }) []) (new_world run.initiators ready run.units)
    by true l = record { few = omega (arith, l) }
    by false l = record { few = omega (arith, l) }

all_few : (line : ℕ) (run : Run) (entries : List Entry) → run.initiators ≤ 4 → 0 < run.units → run.units ≤ 4 → length run.start.disks ≡ run.units → length entries + 2 < 2 ^ 32 → AreEntries (beginning run) entries → AreLines run entries → AreFew (moments_behind line run entries) (after (beginning run) entries).world
all_few line run [] few has small size short all fit = first_few line run few small size
all_few line run (e ∷ before) few has small size short all fit =
    let s = after (beginning run) before in
    let b = holds_after line run before few has small size (omega arith) all.1 fit.1 in
    let was = subst (λ ms. AreFew ms s.world) (sym b.is) (all_few line run before few has small size (omega arith) all.1 fit.1) in
    let old = was.few in
    let seats = seats_after line run before few has small size (omega arith) all.1 fit.1 in
    let v = (happens e.line e.event e.told s).world in
    let past = asked e.line e.event ∷ hist b.past s.world in
    let m = (line_moves run.units (ready_logins run.initiators run.ready) has run.start.disks e.line s b.holds seats e.event e.told fit.0 (happened_fits e.event e.told s all.0.may) all.0.may).few in
    let count = said_lines v.fresh past in
    let is : hist past v ≡ moments_behind line run (e ∷ before) = ap (λ ns. map said ns ++ past) (sym all.0.notes_are) ∙ ap (λ ms. map said e.notes ++ asked e.line e.event ∷ ms) b.is in
    subst (λ ms. AreFew ms v) is (record { few = omega (arith, old, m, count) })

-- ---- as many as a script has
moments_count : (line : ℕ) (run : Run) (entries : List Entry) → lines_of (moments_behind line run entries) ≡ length entries + 1
moments_count line run [] = refl
moments_count line run (e ∷ before) = let rest = moments_count line run before in let same = said_lines e.notes (asked e.line e.event ∷ moments_behind line run before) in omega (arith, rest, same)

pub few_logins_law : FewLoginsLaw
few_logins_law = record { rate = rate; few = λ line run r has small size count. let most = rate line run r has small size in omega (arith, most, count) }
  where
    rate : (line : ℕ) (run : Run) → IsRun run → 0 < run.units → run.units ≤ 4 → length run.start.disks ≡ run.units → 9 * entries (history_of line run) ≤ 8 * length run.entries + 48
    rate line run r has small size =
        let w = (after (beginning run) run.entries).world in
        let f = (all_few line run run.entries r.few has small size r.short r.entries r.lines).few in
        let b = holds_after line run run.entries r.few has small size r.short r.entries r.lines in
        let few = live_few w.target.logins.places in
        let sized = (good run.units (ready_logins run.initiators run.ready) has run.start.disks w b.holds).table.sound.size in
        let count = moments_count line run run.entries in
        omega (arith, f, few, sized, count)
