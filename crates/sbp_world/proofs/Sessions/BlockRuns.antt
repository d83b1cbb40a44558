-- Each packet that is delivered: what an initiator gets that writes is a block of its target. And so after every line of every run.
use Rattle.sbp_world.proofs.Words.Std.{arith, ◌≡◌, ◌∙◌, refl, sym, ap, subst, ℕ, zero, suc, ◌+◌, ◌<◌, ◌≤◌, ◌^◌, ◌||◌, nat_lt, Bool, true, false, cond, List, [], ◌∷◌, ◌++◌, length, map, Option, Some, None, Result, Ok, not, slice_set, nat_tests}
use Rattle.sbp_world.proofs.Words.Wire.{PacketFault, Packet, header_in, lock, lock_response, read_block, read_block_response, read_quadlet, read_quadlet_response, write_block, write_quadlet, write_response, reading, is_reset, Node, as_sending, Finding, Layer, judging_step, of_again, of_generation, of_grammar, of_label, of_request, of_response, Sent, found_sent, is_flying, deliver_step, topology_at, end_note, judged_note, no_node, no_packet, OutboxState, empty_outbox, Moment, asked, said, Sending, Terms, terms, Judged, Event}
use Rattle.sbp_world.proofs.Words.Target.{Told, received}
use Rattle.sbp_world.proofs.Words.Initiator.{Purpose, InitiatorState, addressed, ignored_step, is_foreign, receive_step, own_received}
use Rattle.sbp_world.proofs.Words.Laws.{access_in, access_in_bytes, spelled_by}
use Rattle.sbp_world.proofs.Words.World.{history, IsRun, more_deliveries, Arrival, MayAt, MayReceive, MayTell, MayTold, arrived, at_target, delivered, delivered_by, initiator_received, initiators_received, marked, received_by, received_step, target_received, whole_of, with_initiators, BytesTold, handed_out, moments_behind, MayHappen, happens, keyed, no_unit, reset_line, MayIf, delivered_if, inject_line, injected, injected_to, is_in_flight, lose_line, lost, may_repeat, refused, AreEntries, Entry, Run, after, beginning, posted, MayAll, MayNext, after_all, delivered_at, delivered_next, is_settled, lowest, Scene, WorldState, begun, initiator_at, with_note, with_target, without_notes, AreLines, IsLine, AreBlocks, BlocksLaw, IsBlockWrite}
use Rattle.bus_transactions.proofs.FitJudged.{IsFoundAs, found_as}
use Rattle.bus_transactions.proofs.Reaches.{goes_on}
use Rattle.sbp_world.proofs.Hosts.Hands.{target_tells}
use Rattle.sbp_world.proofs.Hosts.Layered.{receive_left}
use Rattle.sbp_world.proofs.Hosts.Runs.{are_told}
use Rattle.sbp_journal.specs.declared.cause.Cause.TheVariants as ignored
use Rattle.sbp_journal.specs.declared.cause.Judged.TheVariants as judgements
use Rattle.sbp_journal.specs.declared.event.Event.TheVariants as events
use Rattle.sbp_journal.specs.declared.note.Note.TheVariants as notes
use Rattle.sbp_laws.specs.Hosts.{is_serial}
use Rattle.sbp_world.specs.Settling as settling
use Rattle.sbp_world.proofs.FitInitiator.Law.{fitting_law as own_fitting_law}
use Rattle.sbp_world.proofs.FitTarget.Law.{fitting_law}
use Rattle.sbp_world.proofs.Wire.Comes.{own_inside, own_outside, received_is, to_own, to_zero}
use Rattle.sbp_world.proofs.Wire.Holding.{Sound, to_target}
use Rattle.sbp_world.proofs.Wire.Runs.{sound_after}
use Rattle.sbp_world.proofs.Wire.Sound.{next_heard, opens}
use Rattle.sbp_world.proofs.Wire.ToldBytes.{happened_fits}
use Rattle.sbp_world.proofs.Wire.CommandBytes.{AreTold}
use Rattle.sbp_world.proofs.Agents.Management.Holding.{is_of, past_terms, was_sent}
use Rattle.sbp_world.proofs.Sessions.BlockCalls.{delivery_coded}
use Rattle.sbp_world.proofs.Sessions.BlockLines.{B, acts, notes_on, own_hands, seconds, sights, target_hands, times_out}
use Rattle.sbp_world.proofs.Sessions.BlockNotes.{IfGot, block_sent, judged_on, plain_on, sent_on}
use Rattle.sbp_world.proofs.Sessions.Holding.{response_access}
use Rattle.sbp_world.proofs.Sessions.Sessions.{own_write}

-- ---- what an initiator gets is a block, where the requests of its target are

abbrev IfBlock : Judged → List ℕ → Type 0
IfBlock judgements.Got bytes = IsBlockWrite (access_in_bytes bytes)
IfBlock (judgements.Ignored cause) bytes = Unit {0}

abbrev OfTarget : (bytes : List ℕ) (target : ℕ) → Finding Purpose → Type 0
OfTarget bytes target (of_request p) = (reading bytes ≡ Ok p) × ((header_in p).source ≡ target → IsBlockWrite (access_in_bytes bytes))
OfTarget bytes target _ = Unit {0}

module _ (s : InitiatorState) (generation : ℕ) (bytes : List ℕ) where
  any_judged : (judged : Judged) → IsBlockWrite (access_in_bytes bytes) → IfBlock judged bytes
  any_judged judgements.Got h = h
  any_judged (judgements.Ignored cause) h = tt

  -- it writes for its target alone
  own_block : (p : Packet) (u : InitiatorState) → is_foreign p u ≡ false → u.target ≡ s.target → OfTarget bytes s.target (of_request p) → IsBlockWrite (access_in_bytes bytes)
  own_block (write_quadlet header offset value) u e t h = h.1 (own_write header.source u.target e ∙ t)
  own_block (write_block header offset payload) u e t h = h.1 (own_write header.source u.target e ∙ t)
  own_block (read_quadlet header offset) u e t h = subst (λ (r : Result Packet PacketFault). IsBlockWrite (access_in (spelled_by r))) (sym h.0) (λ w. w)
  own_block (read_block header offset count) u e t h = subst (λ (r : Result Packet PacketFault). IsBlockWrite (access_in (spelled_by r))) (sym h.0) (λ w. refl)
  own_block (lock header offset extended payload) u e t h = subst (λ (r : Result Packet PacketFault). IsBlockWrite (access_in (spelled_by r))) (sym h.0) (λ w. refl)
  own_block (write_response header rcode) u e t h = subst (λ (r : Result Packet PacketFault). IsBlockWrite (access_in (spelled_by r))) (sym h.0) tt
  own_block (read_quadlet_response header rcode value) u e t h = subst (λ (r : Result Packet PacketFault). IsBlockWrite (access_in (spelled_by r))) (sym h.0) tt
  own_block (read_block_response header rcode payload) u e t h = subst (λ (r : Result Packet PacketFault). IsBlockWrite (access_in (spelled_by r))) (sym h.0) tt
  own_block (lock_response header rcode extended payload) u e t h = subst (λ (r : Result Packet PacketFault). IsBlockWrite (access_in (spelled_by r))) (sym h.0) tt

  addressed_block : (p : Packet) (u : InitiatorState) (b : Bool) → is_foreign p u ≡ b → u.target ≡ s.target → OfTarget bytes s.target (of_request p) → IfBlock (cond b (ignored_step ignored.Source 7 p bytes (empty_outbox, u)) (addressed p bytes empty_outbox u)).0 bytes
  addressed_block p u true e t h = tt
  addressed_block p u false e t h = any_judged (addressed p bytes empty_outbox u).0 (own_block p u e t h)

  found_block : (f : Finding Purpose) (layer : Layer Purpose) → (judging_step s.layer generation bytes).0 ≡ f → OfTarget bytes s.target f → IfBlock (own_received (f, layer) bytes empty_outbox s).0 bytes
  found_block of_generation layer e h = tt
  found_block of_grammar layer e h = tt
  found_block of_label layer e h = tt
  found_block (of_response p label purpose) layer e h = subst IsBlockWrite (sym (response_access s.layer bytes p label purpose generation e)) tt
  found_block (of_again p rcode) layer e h = tt
  found_block (of_request p) layer e h = let u = record s { layer = layer } in addressed_block p u (is_foreign p u) refl refl h

  got_block : OfTarget bytes s.target (judging_step s.layer generation bytes).0 → IfBlock (receive_step generation bytes empty_outbox s).0 bytes
  unfolding receive_step
  got_block h = found_block (judging_step s.layer generation bytes).0 (judging_step s.layer generation bytes).1 refl h

  for_all : (judged : Judged) (q : Sending) → IfBlock judged bytes → q.bytes ≡ bytes → IfGot judged q
  for_all judgements.Got q h e = λ i to. subst (λ xs. IsBlockWrite (access_in_bytes xs)) (sym e) h
  for_all (judgements.Ignored cause) q h e = tt

-- ---- a delivery

module _ {past : List Moment} {lines : ℕ} (s : Scene) (sound : Sound past lines s.world) (h : B past s.world) (serial : ℕ) (again : Bool) (run : Option Told) (may : MayReceive run serial s) where
  abbrev w : WorldState
  w = s.world

  -- the note of how it was judged
  judges : (judged : Judged) (v : WorldState) → AreBlocks (said (judged_note serial judged) ∷ history v past) → B past (with_note (judged_note serial judged) (marked serial again v))
  judges judged v k = by (again || not (is_flying serial v.store.kept))
    where
      by : (b : Bool) → B past (with_note (judged_note serial judged) (cond b v (record v { store = deliver_step v.store serial })))
      by true = k
      by false = k

  module _ (sent : Sent) (found : found_sent serial w.store.kept ≡ Some sent) where
    was : (terms (history w past)).sent serial ≡ Some (as_sending sent)
    was = was_sent w sound.stands serial sent found

    told_by : sent.to ≡ 0 → MayTell run sent w.target s.media
    unfolding MayReceive
    told_by zero_to =
        let at : MayAt run (Some sent) s = subst (λ o. MayAt run o s) found may in subst (λ b. MayTold b run sent s) (to_zero sent.to zero_to) at

    away : (judged : Judged) → sent.to ≡ 0 → IfGot judged (as_sending sent)
    away judgements.Got e = λ i to. absurd (let no : false ≡ true = sym (let f : is_serial (Some sent.to) (suc i) ≡ false = grind (arith, nat_tests) in f) ∙ to in cc)
    away (judgements.Ignored cause) e = tt

    heard_target : sent.to ≡ 0 → B past (delivered serial again run s).world
    unfolding delivered target_received arrived
    heard_target zero_to =
        let r = received run sent.generation sent.bytes (whole_of w.target s.media) in
        let v = with_note (judged_note serial r.0) (marked serial again (with_target r.1.node w)) in
        let last_is : (delivered serial again run s).world ≡ handed_out 0 0 r.1.outbox v =
        ap (λ (x : Option Arrival × (OutboxState × Scene)). (delivered_by serial again x).world)
        (received_is run serial s sent found ∙ ap (λ b. cond b (at_target sent.to (target_received run sent w.target s.media) s) (initiator_received sent s)) (to_zero sent.to zero_to))
        ∙ ap (λ n. handed_out n 0 r.1.outbox v) zero_to in
        subst (B past) (sym last_is)
        (target_hands past 0 r.1.outbox v (target_tells run sent w.target s.media (told_by zero_to)) (delivery_coded run sent.generation sent.bytes w.target s.media.disks)
        (judges r.0 (with_target r.1.node w) (judged_on serial (as_sending sent) (history w past) r.0 was (away r.0 zero_to) h)))

    -- a request with the ID of the target is of the target
    module _ (i : ℕ) (inside : i < length w.initiators) where
      abbrev own : InitiatorState
      own = initiator_at w i

      own_layer : own.layer.generation ≡ (topology_at w.generations (suc i)).generation
      own_layer = sym (ap (λ (l : Node). l.generation) (sound.stands.is.layers_are (suc i) (omega arith))) ∙ sound.stands.is.sights (suc i) (omega arith)

      of_target : sent.generation ≡ own.layer.generation → (p : Packet) → reading sent.bytes ≡ Ok p → (header_in p).source ≡ own.target → sent.from ≡ 0
      of_target current p read of =
          let here = sound.stands in
          let generation : sent.generation ≡ (topology_at w.generations (suc i)).generation = current ∙ own_layer in
          let from_target : (terms here.wire.past).ids (topology_at w.generations (suc i)).generation sent.from ≡ (terms here.wire.past).ids (topology_at w.generations (suc i)).generation 0 =
          ap (λ x. (terms here.wire.past).ids x sent.from) (sym generation)
          ∙ ap (λ (t : Terms). t.ids sent.generation sent.from) (past_terms w here)
          ∙ sym ((is_of w here serial sent found).source p read)
          ∙ of
          ∙ sym (to_target w.generations.seen i own.target (sound.nodes.own.holds i inside).fits.target_known)
          ∙ sym (here.is.known_ids (suc i) 0 (omega arith) (omega arith)) in
          goes_on.apart here.wire (topology_at w.generations (suc i)).generation sent.from 0 here.reached from_target

      given : (f : Finding Purpose) → IsFoundAs own.layer sent.generation sent.bytes f → OfTarget sent.bytes own.target f
      given of_generation k = tt
      given of_grammar k = tt
      given of_label k = tt
      given (of_response p label purpose) k = tt
      given (of_again p rcode) k = tt
      given (of_request p) k = (k.read, λ of. block_sent (history w past) h.sent serial (as_sending sent) was (of_target k.current p k.read of))

      own_got : IfGot (receive_step sent.generation sent.bytes empty_outbox own).0 (as_sending sent)
      own_got =
          for_all own sent.generation sent.bytes (receive_step sent.generation sent.bytes empty_outbox own).0 (as_sending sent)
          (got_block own sent.generation sent.bytes (given (judging_step own.layer sent.generation sent.bytes).0 (found_as own.layer sent.generation sent.bytes (sound.nodes.own.holds i inside).layer.filter)))
          refl

      heard_own : sent.to ≡ suc i → B past (delivered serial again run s).world
      unfolding delivered initiators_received arrived
      heard_own to_is =
          let r = receive_step sent.generation sent.bytes empty_outbox own in
          let x = with_initiators (slice_set w.initiators i r.1.1) w in
          let v = with_note (judged_note serial r.0) (marked serial again x) in
          let last_is : (delivered serial again run s).world ≡ handed_out sent.to 0 r.1.0 v =
          ap (λ (x : Option Arrival × (OutboxState × Scene)). (delivered_by serial again x).world) (to_own run serial i s sent found to_is ∙ own_inside sent i s inside) in
          subst (B past) (sym (last_is ∙ ap (λ n. handed_out n 0 r.1.0 v) to_is))
          (own_hands past i 0 r.1.0 v (receive_left sent.generation sent.bytes own).told (judges r.0 x (judged_on serial (as_sending sent) (history w past) r.0 was own_got h)))

    heard_none : (i : ℕ) → sent.to ≡ suc i → length w.initiators ≤ i → B past (delivered serial again run s).world
    unfolding delivered
    heard_none i to_is outside =
        subst (B past) (sym (ap (λ (x : Option Arrival × (OutboxState × Scene)). (delivered_by serial again x).world) (to_own run serial i s sent found to_is ∙ own_outside sent i s outside))) h

    heard_at : (to : ℕ) → sent.to ≡ to → B past (delivered serial again run s).world
    heard_at zero e = heard_target e
    heard_at (suc i) e = by (nat_lt i (length w.initiators)) refl
      where
        by : (b : Bool) → nat_lt i (length w.initiators) ≡ b → B past (delivered serial again run s).world
        by true f = heard_own i (grind arith) e
        by false f = heard_none i e (grind arith)

  heard_by : (so : Option Sent) → found_sent serial w.store.kept ≡ so → B past (delivered serial again run s).world
  unfolding delivered received_step
  heard_by None e = subst (B past) (sym (ap (λ o. (delivered_by serial again (received_by run o s)).world) e)) h
  heard_by (Some sent) e = heard_at sent e sent.to refl

  heard : B past (delivered serial again run s).world
  heard = heard_by (found_sent serial w.store.kept) refl

-- ---- deliveries of a line

pub one_heard : {past : List Moment} {lines : ℕ} (serial line : ℕ) (again b : Bool) (told : List (Option Told)) (s : Scene) → MayIf b serial told s → Sound past lines s.world → B past s.world → B past (delivered_if b line serial again told s).world
one_heard serial line again true [] s m sound h = absurd m
one_heard serial line again true (told ∷ []) s m sound h = heard s sound h serial again told m
one_heard serial line again true (told ∷ other ∷ more) s m sound h = absurd m
one_heard {past = past} serial line again false told s m sound h = notes_on past (notes.Refused line no_packet) s.world refl h

-- a world behind some deliveries
record Heard (past : List Moment) (lines : ℕ) (w : WorldState) : Type 0 where
  sound : Sound past lines w
  blocks : B past w

next_told : {past : List Moment} {lines : ℕ} (told : Option Told) → BytesTold told → (s : Scene) → Heard past lines s.world → (terms past).repeats ≡ false → (o : Option ℕ) → lowest s.world ≡ o → settling.MayAt o told s → Heard past lines (delivered_at o told s).world
next_told told t s h r None e m = absurd m
next_told told t s h r (Some serial) e m = record {
  sound = next_heard fitting_law own_fitting_law told t s h.sound r (Some serial) e;
  blocks = heard s h.sound h.blocks serial false told m;
}

all_told : {past : List Moment} {lines : ℕ} (told : List (Option Told)) → AreTold told → (s : Scene) → MayAll told s → Heard past lines s.world → (terms past).repeats ≡ false → Heard past lines (after_all told s).world
unfolding delivered_next MayNext
all_told [] t s m h r = h
all_told (told ∷ before) t s m h r = next_told told t.0 (after_all before s) (all_told before t.1 s m.1 h r) r (lowest (after_all before s).world) refl m.0

-- ---- a line

opened : (past : List Moment) (line : ℕ) (event : Event) (w : WorldState) → B past w → B (asked line event ∷ history w past) (without_notes w)
opened past line event w h = record { sent = h.sent; got = λ i. h.got i }

injects : (past : List Moment) (line i : ℕ) (bytes : List ℕ) (w : WorldState) (to : Option ℕ) → B past w → B past (injected to line (i + 1) bytes w)
unfolding posted
injects past line i bytes w None h = notes_on past (notes.Refused line no_node) w refl h
injects past line i bytes w (Some to) h =
    sent_on (w.store.last + 1) (topology_at w.generations (i + 1)).generation (i + 1) to bytes (said (notes.Injected (w.store.last + 1)) ∷ history w past) (λ e. absurd (omega (arith, e)))
    (plain_on (notes.Injected (w.store.last + 1)) (history w past) refl h)

loses : (past : List Moment) (line serial : ℕ) (w : WorldState) (b : Bool) → B past w → B past (cond b (lost serial w) (refused line no_packet w))
loses past line serial w true h = notes_on past (notes.Lost serial) w refl h
loses past line serial w false h = notes_on past (notes.Refused line no_packet) w refl h

keys : (past : List Moment) (line unit : ℕ) (w x : WorldState) (b : Bool) → x.fresh ≡ w.fresh → B past w → B past (cond b (with_note (notes.Key unit) x) (refused line no_unit w))
keys past line unit w x true e h = plain_on (notes.Key unit) (history x past) refl (subst (λ fresh. AreBlocks (map said fresh ++ past)) (sym e) h)
keys past line unit w x false e h = notes_on past (notes.Refused line no_unit) w refl h

ends : (past : List Moment) (w : WorldState) (b : Bool) → B past w → B past (with_note (end_note b) w)
ends past w true h = notes_on past notes.Settled w refl h
ends past w false h = notes_on past notes.Stopped w refl h

line_keeps : {past : List Moment} {lines : ℕ} (line : ℕ) (event : Event) (told : List (Option Told)) (s : Scene) → IsLine event (length s.world.initiators) → AreTold told → MayHappen event told s → Sound past lines s.world → B past s.world → B (asked line event ∷ history s.world past) (happens line event told s).world
unfolding happens MayHappen reset_line lose_line inject_line keyed
line_keeps line (events.Begin initiators ready) told s q t m sound h = absurd q
line_keeps {past = past} line (events.Act i action) told s q t m sound h = let e = events.Act i action in acts (asked line e ∷ history s.world past) (without_notes s.world) line i action (opened past line e s.world h)
line_keeps {past = past} line (events.Reset physical) told s q t m sound h = let e = events.Reset physical in plain_on _ (asked line e ∷ history s.world past) refl (opened past line e s.world h)
line_keeps {past = past} line (events.See node) told s q t m sound h = let e = events.See node in sights (asked line e ∷ history s.world past) (without_notes s.world) node (opened past line e s.world h)
line_keeps {past = past} line (events.Deliver serial) told s q t m sound h =
    let e = events.Deliver serial in one_heard serial line false (is_in_flight serial (begun s).world) told (begun s) m (opens line e s.world refl sound) (opened past line e s.world h)
line_keeps {past = past} line (events.Repeat serial) told s q t m sound h =
    let e = events.Repeat serial in one_heard serial line true (may_repeat serial (begun s).world) told (begun s) m (opens line e s.world refl sound) (opened past line e s.world h)
line_keeps {past = past} line (events.Lose serial) told s q t m sound h =
    let e = events.Lose serial in loses (asked line e ∷ history s.world past) line serial (without_notes s.world) (is_in_flight serial (without_notes s.world)) (opened past line e s.world h)
line_keeps {past = past} line (events.Timeout serial) told s q t m sound h = let e = events.Timeout serial in times_out (asked line e ∷ history s.world past) (without_notes s.world) line serial (opened past line e s.world h)
line_keeps {past = past} line (events.Step count) told s q t m sound h =
    let e = events.Step count in (all_told told t (begun s) m.may (record { sound = opens line e s.world refl sound; blocks = opened past line e s.world h }) refl).blocks
line_keeps {past = past} line events.Settle told s q t m sound h =
    let e = events.Settle in
    ends (asked line e ∷ history s.world past) (after_all told (begun s)).world (is_settled (after_all told (begun s)).world)
    (all_told told t (begun s) m.may (record { sound = opens line e s.world refl sound; blocks = opened past line e s.world h }) refl).blocks
line_keeps {past = past} line events.Tick told s q t m sound h = let e = events.Tick in seconds (asked line e ∷ history s.world past) (without_notes s.world) (opened past line e s.world h)
line_keeps {past = past} line (events.Inject initiator bytes) told s q t m sound h =
    let e = events.Inject initiator bytes in
    injects (asked line e ∷ history s.world past) line initiator bytes (without_notes s.world) (injected_to (initiator + 1) bytes (without_notes s.world)) (opened past line e s.world h)
line_keeps {past = past} line (events.Key unit key) told s q t m sound h =
    let e = events.Key unit key in keys (asked line e ∷ history s.world past) line unit (without_notes s.world) _ (nat_lt unit (length s.world.target.units)) refl (opened past line e s.world h)

-- ---- a run

module _ (line : ℕ) (run : Run) where
  first_blocks : AreBlocks (moments_behind line run [])
  first_blocks = record { sent = (tt, tt); got = λ i. tt }

  are_after : (entries : List Entry) → run.initiators ≤ 4 → length entries + 2 < 2 ^ 32 → AreEntries (beginning run) entries → AreLines run entries → AreBlocks (moments_behind line run entries)
  are_after [] few short all fit = first_blocks
  are_after (e ∷ before) few short all fit =
      let b = sound_after fitting_law own_fitting_law line run before few (omega arith) all.1 fit.1 in
      let s = after (beginning run) before in
      let so_far : B b.past s.world = subst AreBlocks (sym b.is) (are_after before few (omega arith) all.1 fit.1) in
      subst AreBlocks
      (ap (λ ns. map said ns ++ asked e.line e.event ∷ (map said s.world.fresh ++ b.past)) (sym all.0.notes_are)
      ∙ ap (λ ms. map said e.notes ++ asked e.line e.event ∷ ms) b.is)
      (line_keeps e.line e.event e.told s fit.0 (happened_fits e.event e.told s all.0.may) all.0.may b.sound so_far)

  between_by : IsRun run → (next : ℕ) (event : Event) → is_reset event ≡ false → ((ms : List Moment) → (terms (asked next event ∷ ms)).repeats ≡ false) → (told : List (Option Told)) → MayAll told (begun (after (beginning run) run.entries)) → (let w = (after_all told (begun (after (beginning run) run.entries))).world in AreBlocks (map said w.fresh ++ asked next event ∷ moments_behind line run run.entries))
  between_by r next event e repeats told m =
      let before = sound_after fitting_law own_fitting_law line run run.entries r.few r.short r.entries r.lines in
      let s = after (beginning run) run.entries in
      let so_far : B before.past s.world = subst AreBlocks (sym before.is) (are_after run.entries r.few r.short r.entries r.lines) in
      let all = all_told told (are_told told s m) (begun s) m (record { sound = opens next event s.world e before.sound; blocks = opened before.past next event s.world so_far }) (repeats (history s.world before.past)) in
      let w = (after_all told (begun s)).world in
      subst (λ ms. AreBlocks (map said w.fresh ++ asked next event ∷ ms)) before.is all.blocks

  between_runs : IsRun run → (next : ℕ) (most : Option ℕ) (told : List (Option Told)) → MayAll told (begun (after (beginning run) run.entries)) → (let w = (after_all told (begun (after (beginning run) run.entries))).world in AreBlocks (map said w.fresh ++ asked next (more_deliveries most) ∷ moments_behind line run run.entries))
  between_runs r next (Some count) told m = between_by r next (events.Step count) refl (λ ms. refl) told m
  between_runs r next None told m = between_by r next events.Settle refl (λ ms. refl) told m

pub blocks_law : BlocksLaw
blocks_law = record {
  after_lines = λ line run r. are_after line run run.entries r.few r.short r.entries r.lines;
  between = λ line run r next most told m. between_runs line run r next most told m;
}
