-- Each call of an initiator is what the wire takes a call of a node for.
use Rattle.sbp_world.proofs.Words.Std.{arith, ◌≡◌, refl, sym, subst, ℕ, ◌+◌, ◌^◌, ◌<◌, ◌≤◌, nat_lt, Bool, true, false, cond, List, [], ◌∷◌, Option, Some, None, Result, Ok, Err}
use Rattle.sbp_world.proofs.Words.Wire.{LabelParts, Packet, header_in, AreBytes, AreSmall, IsLayer, may_ignore, ArePlainSides, IsDelivery, IsExpiry, answer_to, judged_for, as_before, as_decided, Stale, Layer, Finding, of_generation, of_grammar, of_label, of_response, of_again, of_request, answering_step, expiring_step, judging_step, seeing_step, seen_in_generation, IsRequestOf, Judged, Action, OutboxState, empty_outbox}
use Rattle.sbp_world.proofs.Words.Initiator.{Purpose, InitiatorState, act_step, Turn, drop_list_step, dropped_as, first_management, new_state, own_rom, ListState, drop_lists, free_lists, called, expire_step, expired_as, receive_step, received, request_step, responded_as, interrupted, reset_step, resets_told, see_step, seen_as, ending_of}
use Rattle.sbp_world.proofs.Words.World.{Acts, AreIds, BytesAction, Expires, FitsState, InitiatorFits}
use Rattle.bus_transactions.proofs.FitCalls.{Answering, Asking, Calm, answering_answers, asking_asks, asking_tells, calm_tells, no_ask, no_leaving}
use Rattle.bus_transactions.proofs.FitJudged.{IsFoundAs, bytes_of, found_as, source_fits}
use Rattle.bus_transactions.proofs.FitSteps.{expires_same, goes, judges_same, new_goes, sees_goes}
use Rattle.label_table.specs.History as wire
use Rattle.sbp_initiator.specs.declared.purpose.Ending.TheVariants as endings
use Rattle.sbp_initiator.proofs.FirstRow.{refusal_law}
use Rattle.sbp_journal.specs.declared.cause.Judged.TheVariants as judgements
use Rattle.sbp_world.specs.FitInitiator.{FittingLaw, Holds, Receives}
use Rattle.sbp_world.proofs.FitInitiator.Acts.{acts_fit}
use Rattle.sbp_world.proofs.FitInitiator.Memory.{free_fits, new_memory_fits}
use Rattle.sbp_world.proofs.FitInitiator.Requests.{Answers, cause_of, requested}
use Rattle.sbp_world.proofs.FitInitiator.Turns.{Keeps, Said, Tells, drops, ends_for, fits_memory}
use Rattle.sbp_world.proofs.Common.{same_number}

-- what is known of an initiator with so many actions, by its own count
renews : (known : ℕ → Type 0) (acts : ℕ) (s : InitiatorState) → FitsState known acts (acts + 1) s → FitsState known s.counts.acts (s.counts.acts + 1) s
renews known acts s f = record {
  target_known = f.target_known;
  management_fits = f.management_fits;
  counted = refl;
  running_fits = subst (λ (n : ℕ). s.counts.running ≤ n + 1) (sym f.counted) f.running_fits;
  memory_fits = f.memory_fits;
}

-- ---- a delivery
module _ (known : ℕ → Type 0) (ids : AreIds known) (generation : ℕ) (bytes : List ℕ) (s : InitiatorState) (h : Holds known s) (small : AreBytes bytes) where
  abbrev before : Layer Purpose
  before = (judging_step s.layer generation bytes).1

  comes : IsLayer before
  comes = goes s.layer (wire.judges generation bytes) (judges_same s.layer generation bytes) h.layer

  record Done (f : Finding Purpose) (r : Judged × Turn) : Type 0 where
    delivers : IsDelivery known f r.0 bytes before r.1.1.layer r.1.0.packets
    small_all : AreSmall r.1.0.packets
    plain : ArePlainSides r.1.0.sides
    fits : FitsState known s.counts.acts (s.counts.acts + 1) r.1.1
    layer : IsLayer r.1.1.layer

  calm_tell : Tells (Calm known ids before)
  calm_tell = record { tells = λ layer packets told note p m. calm_tells known ids before layer packets told _ p m }

  asking_keep : Keeps known (Asking known ids before)
  asking_keep = record { tell = record { tells = λ layer packets told note p m. asking_tells known ids before layer packets told _ p m }; asks = asking_asks known ids before }

  -- how it is judged, beside
  abbrev Judging : Packet → Judged → Said
  Judging p judged layer packets told = (may_ignore (cause_of judged) ≡ true) × Answering known ids before (as_decided (cause_of judged)) p bytes layer packets told

  answers_all : (p : Packet) → (header_in p).source < 2 ^ 16 → IsRequestOf bytes p → Answers (Calm known ids before) (Judging p) p bytes
  answers_all p source r = record {
    answers = λ judged layer packets told rcode given i f m.
        (i.may, answering_answers known ids before (as_decided (cause_of judged)) p bytes source r layer packets told rcode given i.stated f m);
  }

  is_judged : (judged : Judged) → judged ≡ judged_for (cause_of judged)
  is_judged judgements.Got = refl
  is_judged (judgements.Ignored cause) = refl

  answered_by : (p : Packet) (rcode : ℕ) (r : List ℕ × Layer Purpose) → Answering known ids before (as_before rcode) p bytes r.1 (answer_to p r.0 ∷ []) [] → (let t = responded_as r (header_in p).source empty_outbox (record s { layer = before }) in Answering known ids before (as_before rcode) p bytes t.1.layer t.0.packets t.0.sides × FitsState known s.counts.acts (s.counts.acts + 1) t.1)
  answered_by p rcode (response, layer) m = (m, h.fits)

  done_as : (f : Finding Purpose) → IsFoundAs s.layer generation bytes f → Done f (received (f, before) bytes empty_outbox s)
  done_as of_generation r = record { delivers = record { judged_is = refl; layer_is = refl; packets_are = refl }; small_all = tt; plain = tt; fits = h.fits; layer = comes }
  done_as of_grammar r = record { delivers = record { judged_is = refl; layer_is = refl; packets_are = refl }; small_all = tt; plain = tt; fits = h.fits; layer = comes }
  done_as of_label r = record { delivers = record { judged_is = refl; layer_is = refl; packets_are = refl }; small_all = tt; plain = tt; fits = h.fits; layer = comes }
  done_as (of_response p label purpose) r =
      let g = ends_for known s.counts.acts (s.counts.acts + 1) (Asking known ids before) asking_keep purpose (ending_of p) empty_outbox (called (record s { layer = before })) (no_ask known ids before comes, h.fits) in
      record {
        delivers = record { judged_is = refl; asks = g.0.asks };
        small_all = g.0.beside.small;
        plain = g.0.beside.plain;
        fits = g.1;
        layer = g.0.beside.comes;
      }
  done_as (of_again p rcode) r =
      let source = source_fits bytes p r.0.read small in
      let m = answering_answers known ids before (as_before rcode) p bytes source r.0.request before [] [] rcode [] (same_number rcode) r.1 (no_leaving known ids before comes) in
      let g = answered_by p rcode (answering_step before p bytes rcode []) m in
      record {
        delivers = record { judged_is = refl; answers = g.0.answers };
        small_all = g.0.beside.small;
        plain = g.0.beside.plain;
        fits = g.1;
        layer = g.0.beside.comes;
      }
  done_as (of_request p) r =
      let source = source_fits bytes p r.read small in
      let x = request_step p bytes empty_outbox (record s { layer = before }) in
      let g = requested known s.counts.acts (s.counts.acts + 1) (Calm known ids before) (Judging p) bytes calm_tell p empty_outbox (record s { layer = before }) (answers_all p source r.request) (bytes_of p bytes r.request.spelled small) (no_leaving known ids before comes, h.fits) in
      record {
        delivers = record { cause = cause_of x.0; may = g.0.0; judged_is = is_judged x.0; answers = g.0.1.answers };
        small_all = g.0.1.beside.small;
        plain = g.0.1.beside.plain;
        fits = g.1;
        layer = g.0.1.beside.comes;
      }

  delivered : Receives known generation bytes s
  unfolding receive_step
  delivered =
      let d = done_as (judging_step s.layer generation bytes).0 (found_as s.layer generation bytes h.layer.filter) in
      record {
        delivers = d.delivers;
        small = d.small_all;
        plain = d.plain;
        acts = d.fits.counted;
        holds = record { fits = renews known s.counts.acts (received (judging_step s.layer generation bytes) bytes empty_outbox s).1.1 d.fits; layer = d.layer };
      }

-- ---- a time-out
module _ (known : ℕ → Type 0) (ids : AreIds known) (label : LabelParts) (s : InitiatorState) (h : Holds known s) where
  record Late (r : Result (Option Purpose) Stale × Layer Purpose) (t : Turn) : Type 0 where
    expires : IsExpiry known r.0 r.1 t.1.layer t.0.packets
    small : AreSmall t.0.packets
    plain : ArePlainSides t.0.sides
    fits : FitsState known s.counts.acts (s.counts.acts + 1) t.1
    layer : IsLayer t.1.layer

  late_by : (r : Result (Option Purpose) Stale × Layer Purpose) → IsLayer r.1 → Late r (expired_as r empty_outbox s).1
  late_by (Ok purpose, layer) c =
      let keep : Keeps known (Asking known ids layer) = record { tell = record { tells = λ l packets told note p m. asking_tells known ids layer l packets told _ p m }; asks = asking_asks known ids layer } in
      let g = ends_for known s.counts.acts (s.counts.acts + 1) (Asking known ids layer) keep purpose endings.Expired empty_outbox (called (record s { layer = layer })) (no_ask known ids layer c, h.fits) in
      record { expires = g.0.asks; small = g.0.beside.small; plain = g.0.beside.plain; fits = g.1; layer = g.0.beside.comes }
  late_by (Err stale, layer) c = record { expires = (refl, refl); small = tt; plain = tt; fits = h.fits; layer = c }

  late : Expires known label s
  unfolding expire_step
  late =
      let d = late_by (expiring_step s.layer s.target label) (goes s.layer (wire.lets_expire s.target label) (expires_same s.layer s.target label) h.layer) in
      let t = (expired_as (expiring_step s.layer s.target label) empty_outbox s).1 in
      record { expires = d.expires; small = d.small; plain = d.plain; acts = d.fits.counted; holds = record { fits = renews known s.counts.acts t.1 d.fits; layer = d.layer } }

-- ---- an action
acted : (known : ℕ → Type 0) (action : Action) (s : InitiatorState) → AreIds known → Holds known s → BytesAction action → s.counts.acts + 1 < 2 ^ 32 → (act_step action empty_outbox s).0 ≡ None → Acts known action s
acted known action s ids h b few e =
    let r = h.fits.running_fits in
    let d = acts_fit known ids action s h.layer h.fits b (omega arith) e in
    record {
      asks = d.asks;
      small = d.small;
      plain = d.plain;
      acts = d.fits.counted;
      holds = record { fits = renews known (s.counts.acts + 1) (act_step action empty_outbox s).1.1 d.fits; layer = d.layer };
    }

-- ---- a generation is seen
abbrev Comes : Said
Comes layer packets told = IsLayer layer

comes_tell : Tells Comes
comes_tell = record { tells = λ layer packets told note p m. m }

module _ (known other : ℕ → Type 0) (generation id target : ℕ) (s : InitiatorState) (small : id < 2 ^ 16) (there : other target) (later : nat_lt s.layer.generation generation ≡ true) (h : Holds known s) where
  seen_layer : IsLayer (seen_in_generation s.layer generation id)
  unfolding seeing_step
  seen_layer = subst (λ (b : Bool). IsLayer (cond {A = Bool × Layer Purpose} b (true, seen_in_generation s.layer generation id) (false, s.layer)).1) later (sees_goes s.layer generation id small h.layer)

  freed : Holds other (reset_step target empty_outbox (record s { layer = seen_in_generation s.layer generation id })).1
  freed =
      let o = resets_told s.number s.operation s.states empty_outbox in
      let f = h.fits in
      let u = interrupted (record s { layer = seen_in_generation s.layer generation id }) target in
      let g = drops other s.counts.acts (s.counts.acts + 1) Comes comes_tell o u
      (seen_layer, record { target_known = there; management_fits = f.management_fits; counted = refl; running_fits = f.running_fits; memory_fits = f.memory_fits }) in
      let t = (drop_list_step o u).1 in
      let n = renews other s.counts.acts t g.1 in
      record { fits = fits_memory other t.counts.acts (t.counts.acts + 1) t.target t.management t.counts.running t.counts.acts t.lists.memory (free_lists t.lists).memory (free_fits t.lists g.1.memory_fits) n; layer = g.0 }

  sight : Holds other (see_step generation id target empty_outbox s).1
  unfolding see_step seeing_step
  sight = subst (λ (b : Bool). Holds other (seen_as (cond {A = Bool × Layer Purpose} b (true, seen_in_generation s.layer generation id) (false, s.layer)) target empty_outbox s).1) (sym later) freed

old_sight : (known : ℕ → Type 0) (generation id target : ℕ) (s : InitiatorState) → nat_lt s.layer.generation generation ≡ false → Holds known s → Holds known (see_step generation id target empty_outbox s).1
unfolding see_step seeing_step
old_sight known generation id target s old h =
    subst (λ (b : Bool). Holds known (seen_as (cond {A = Bool × Layer Purpose} b (true, seen_in_generation s.layer generation id) (false, s.layer)) target empty_outbox s).1) (sym old)
    (record { fits = h.fits; layer = h.layer })

-- ---- a new initiator, and a refused action
first_offset : (ready : Bool) (offset : ℕ) → first_management ready ≡ Some offset → offset < 2 ^ 48
first_offset true offset e = subst (λ (n : ℕ). n < 2 ^ 48) (same e) (omega arith)
  where
    same : first_management true ≡ Some offset → 0xffff_f001_0000 ≡ offset
    same f = cc
first_offset false offset e = absurd (off e)
  where
    off : None ≡ Some offset → ⊥
    off f = cc

new_fit : (known : ℕ → Type 0) (number : ℕ) (ready : Bool) → number ≤ 4 → known 0xffc0 → Holds known (new_state number ready)
unfolding new_state
new_fit known number ready n k = record {
  fits = record { target_known = k; management_fits = first_offset ready; counted = refl; running_fits = omega arith; memory_fits = new_memory_fits (own_rom number) };
  layer = new_goes (0xffc1 + number) (omega arith);
}

refused : (known : ℕ → Type 0) (action : Action) (s : InitiatorState) (number : ℕ) → Holds known s → (act_step action empty_outbox s).0 ≡ Some number → Holds known (act_step action empty_outbox s).1.1
refused known action s number h e = subst (λ (t : Turn). Holds known t.1) (sym (refusal_law.unchanged action empty_outbox s number e)) h

-- ---- its count, and more nodes that are known
dropped_acts : (r : Option ℕ × ListState) (o : OutboxState) (s : InitiatorState) → (dropped_as r o s).1.counts.acts ≡ s.counts.acts
dropped_acts (None, lists) o s = refl
dropped_acts (Some n, lists) o s = refl

seen_by : (r : Bool × Layer Purpose) (target : ℕ) (s : InitiatorState) → (seen_as r target empty_outbox s).1.counts.acts ≡ s.counts.acts
seen_by (false, layer) target s = refl
seen_by (true, layer) target s =
    let u = interrupted (record s { layer = layer }) target in dropped_acts (drop_lists u.lists) (resets_told s.number s.operation s.states empty_outbox) u

seen_count : (generation id target : ℕ) (s : InitiatorState) → (see_step generation id target empty_outbox s).1.counts.acts ≡ s.counts.acts
unfolding see_step
seen_count generation id target s = seen_by (seeing_step s.layer generation id) target s

widened : (known other : ℕ → Type 0) (s : InitiatorState) → ((id : ℕ) → known id → other id) → Holds known s → Holds other s
widened known other s more h =
    let f = h.fits in
    record {
      fits = record { target_known = more s.target f.target_known; management_fits = f.management_fits; counted = f.counted; running_fits = f.running_fits; memory_fits = f.memory_fits };
      layer = h.layer;
    }

pub initiator_fits : (known other : ℕ → Type 0) → InitiatorFits known other
initiator_fits known other = record {
  begins = new_fit known;
  deliveries = λ generation bytes s ids h small. delivered known ids generation bytes s h small;
  expiries = λ label s ids h. late known ids label s h;
  actions_fit = acted known;
  sights = λ generation id target s small there later h. sight known other generation id target s small there later h;
  old_sights = old_sight known;
  refusals = refused known;
  seen_acts = seen_count;
  target_there = λ s h. h.fits.target_known;
  widens = widened known other;
}

pub fitting_law : FittingLaw
fitting_law known other = initiator_fits (λ id. known id ≡ true) (λ id. other id ≡ true)
