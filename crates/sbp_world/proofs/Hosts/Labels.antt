-- A request of an initiator finds a label exactly where the run says so.
use Rattle.sbp_world.proofs.Words.Std.{arith, ◌≡◌, refl, sym, ◌∙◌, ap, subst, ℕ, zero, suc, ◌+◌, ◌%◌, ◌^◌, ◌<◌, ◌≤◌, ◌&&◌, ◌||◌, nat_eq, nat_le, not, is_some, Bool, true, false, cond, List, Option, Some, None, length}
use Rattle.sbp_world.proofs.Words.Wire.{IsValid, canon, bare, bare_after, same, FitsRequest, MayAsk, LabelsLaw, bare_request, Node, Wire, id_for, transaction, Asked, Body, header_to, quadlet_read, request_with, Layer, asking_step, unlabelled, is_last, is_write, with_label, Moment, Held, Terms, free, rests, terms, waits, agent_state, OutboxState, Action}
use Rattle.sbp_world.proofs.Words.Initiator.{Purpose, InitiatorState, act_step, counted_list, register_of}
use Rattle.sbp_world.proofs.Words.Laws.{refusal_at, host_at, finds_label, label_for, lowest_from, request_bytes, serves, to_peer}
use Rattle.sbp_world.proofs.Words.World.{WorldState, initiator_at, history_of, Run, after, beginning, history, RunLabelLaw, label_in, sends_read, IsRun}
use Rattle.async_packet.proofs.RoundTrip.{canon_spells}
use Rattle.bus_transactions.specs.Sent as sent
use Rattle.bus_transactions.proofs.Bares.{takes_steps}
use Rattle.bus_transactions.proofs.Fits.{request_fits}
use Rattle.bus_transactions.proofs.MoveAsk.{asked_bytes}
use Rattle.bus_transactions.proofs.SentLaws.{asked_own, labels_always}
use Rattle.bus_transactions.proofs.Stands.{Stands as Holds}
use Rattle.bus_transactions.proofs.Steps.{AskedAs, asks}
use Rattle.label_table.proofs.Requests.{least_spelled}
use Rattle.label_table.proofs.Rewritten.{writes_labels}
use Rattle.label_table.proofs.Steps.{write_with}
use Rattle.sbp_journal.specs.declared.event.Action.TheVariants as actions
use Rattle.sbp_initiator.specs.declared.purpose.Purpose.TheVariants as purposes
use Rattle.sbp_laws.specs.Actions as run_actions
use Rattle.sbp_laws.specs.Packets as packets
use Rattle.sbp_world.proofs.Wire.Bus.{holds}
use Rattle.sbp_world.proofs.Wire.Holding.{Sound, target_small, to_target}
use Rattle.sbp_world.proofs.Wire.Runs.{SoundAfter, sound_after}
use Rattle.sbp_world.proofs.FitInitiator.Law.{fitting_law as own_fitting_law}
use Rattle.sbp_world.proofs.FitTarget.Law.{fitting_law}
use Rattle.sbp_world.specs.Hosts.Refusing.{initiator_of}
use Rattle.sbp_world.proofs.Hosts.Deciding.{run_refusal_law}
use Rattle.sbp_world.proofs.Hosts.Runs.{count_after}
use Rattle.sbp_world.proofs.Common.{untrue}
use Rattle.sbp_world.proofs.Wire.Kept.{and_true}

-- ---- the lowest label

pub none_found : (tries label : ℕ) (test : ℕ → Bool) → ((m : ℕ) → m < label + tries → test m ≡ false) → lowest_from tries test label ≡ None
unfolding lowest_from
none_found zero label test h = refl
none_found (suc tries) label test h =
    ap (λ b. cond b (Some label) (lowest_from tries test (label + 1))) (h label (omega arith)) ∙ none_found tries (label + 1) test (λ m l. h m (omega arith))

-- the first of some tests that hold
at_first : (label n : ℕ) (test : ℕ → Bool) (rest : Option ℕ) (b : Bool) → test label ≡ b → label ≤ n → test n ≡ true → ((m : ℕ) → m < n → test m ≡ false) → (label + 1 ≤ n → rest ≡ Some n) → cond b (Some label) rest ≡ Some n
at_first label n test rest true e l t lower h = ap Some (last (nat_eq label n) refl)
  where
    last : (c : Bool) → nat_eq label n ≡ c → label ≡ n
    last true f = grind arith
    last false f = untrue (sym (lower label (grind arith)) ∙ e)
at_first label n test rest false e l t lower h = h (above (nat_eq label n) refl)
  where
    above : (c : Bool) → nat_eq label n ≡ c → label + 1 ≤ n
    above true f = let i : label ≡ n = grind arith in untrue (sym e ∙ ap test i ∙ t)
    above false f = grind arith

pub first_found : (tries label n : ℕ) (test : ℕ → Bool) → label ≤ n → n < label + tries → test n ≡ true → ((m : ℕ) → m < n → test m ≡ false) → lowest_from tries test label ≡ Some n
unfolding lowest_from
first_found zero label n test l m t lower = absurd (omega arith)
first_found (suc tries) label n test l m t lower =
    at_first label n test (lowest_from tries test (label + 1)) (test label) refl l t lower (λ g. first_found tries (label + 1) n test g (omega arith) t lower)

same_found : (tries label : ℕ) (test other : ℕ → Bool) → ((m : ℕ) → test m ≡ other m) → lowest_from tries test label ≡ lowest_from tries other label
unfolding lowest_from
same_found zero label test other h = refl
same_found (suc tries) label test other h =
    ap (λ b. cond b (Some label) (lowest_from tries test (label + 1))) (h label) ∙ ap (λ x. cond (other label) (Some label) x) (same_found tries (label + 1) test other h)

pub found_by : (t : Terms) (node peer : ℕ) (body : Body) (o : Option ℕ) → label_for t node peer (request_bytes t node peer body) ≡ o → finds_label t node peer body ≡ is_some o
found_by t node peer body None e = rw e refl
found_by t node peer body (Some label) e = rw e refl

-- ---- a label that is free, in the words of both laws

free_same : (held : Held) → packets.is_free held ≡ sent.is_free held
free_same free = refl
free_same (waits kind serial) = refl
free_same rests = refl

pub serves_same : (t : Terms) (node peer : ℕ) (bytes : List ℕ) (m : ℕ) → 12 ≤ length bytes → serves t node peer bytes m ≡ sent.serves t (transaction (t.generation node) node peer m) (with_label m bytes)
serves_same t node peer bytes m least =
    let u = transaction (t.generation node) node peer m in
    ap (λ b. b && (not (is_write bytes) || not (is_last (t.last u) (with_label m bytes)))) (free_same (t.held u))
    ∙ ap (λ b. sent.is_free (t.held u) && (not b || not (is_last (t.last u) (with_label m bytes)))) (sym (write_with m bytes least))

-- ---- of a world

bare_first : (r : Option Asked × Layer Purpose) → (bare_after same r).0 ≡ r.0
bare_first (asked, layer) = refl

module _ {past : List Moment} {lines : ℕ} (w : WorldState) (sound : Sound past lines w) (i : ℕ) (inside : i < length w.initiators) (body : Body) (fit : FitsRequest body) where
  abbrev s : InitiatorState
  s = initiator_at w i

  abbrev wire : Wire
  wire = sound.stands.wire

  abbrev T : Terms
  T = terms wire.past

  abbrev own : Layer (Unit {0}) → ℕ → Option Asked
  own layer peer = (asking_step layer peer body tt).0

  known : suc i ≤ length w.initiators
  known = omega arith

  wire_holds : Holds wire
  wire_holds = holds wire sound.stands.reached

  target_is : id_for wire (suc i) 0 ≡ s.target
  target_is =
      ap (λ g. T.ids g 0) (sound.stands.is.sights (suc i) known)
      ∙ sound.stands.is.known_ids (suc i) 0 known (omega arith)
      ∙ to_target w.generations.seen i s.target (sound.nodes.own.holds i inside).fits.target_known

  layer_is : wire.layer (suc i) ≡ bare s.layer
  layer_is = sound.stands.is.layers_are (suc i) known

  asks_same : (purpose : Purpose) → (asking_step s.layer s.target body purpose).0 ≡ own (wire.layer (suc i)) (id_for wire (suc i) 0)
  asks_same purpose =
      sym (ap (λ l. own l (id_for wire (suc i) 0)) layer_is
      ∙ ap (own (bare s.layer)) target_is
      ∙ ap (λ r. r.0) ((takes_steps Purpose).asks s.layer s.target body purpose)
      ∙ bare_first (asking_step s.layer s.target body purpose))

  valid_by : (layer : Node) (peer : ℕ) → layer ≡ bare s.layer → peer ≡ s.target → IsValid (request_with (header_to layer.node peer 0) body)
  valid_by layer peer e f =
      let h = sound.nodes.own.holds i inside in
      subst (λ n. IsValid (request_with (header_to layer.node n 0) body)) (sym f)
      (subst (λ (l : Node). IsValid (request_with (header_to l.node s.target 0) body)) (sym e)
      (request_fits s.layer.node s.target body h.layer.small (target_small w.generations.seen i s.target h.fits.target_known) fit))

  may : MayAsk wire (suc i) 0 body
  may = record {
    free = sound.stands.is.due_is;
    node_small = let f = sound.stands.is.few in omega arith;
    peer_small = omega arith;
    valid = valid_by (wire.layer (suc i)) (id_for wire (suc i) 0) layer_is target_is;
  }

  -- the bytes of the request, as the history spells them
  abbrev bytes : List ℕ
  bytes = bare_request T (suc i) 0 body

  bytes_are : unlabelled (wire.layer (suc i)) (id_for wire (suc i) 0) body ≡ bytes
  bytes_are =
      let n = wire_holds.nodes (suc i) in
      ap (λ x. canon (request_with (header_to x (id_for wire (suc i) 0) 0) body)) n.id
      ∙ ap (λ g. canon (request_with (header_to (T.ids (T.generation (suc i)) (suc i)) (T.ids g 0) 0) body)) n.generation

  least : 12 ≤ length bytes
  least =
      let p = request_with (header_to (wire.layer (suc i)).node (id_for wire (suc i) 0) 0) body in
      subst (λ (bs : List ℕ). 12 ≤ length bs) bytes_are (least_spelled (canon p) p (canon_spells p may.valid))

  none_serves : own (wire.layer (suc i)) (id_for wire (suc i) 0) ≡ None → label_for T (suc i) 0 bytes ≡ None
  unfolding label_for
  none_serves e =
      let law : LabelsLaw wire = subst LabelsLaw (sym sound.stands.reached.is) (labels_always sound.stands.reached.moves sound.stands.reached.may) in
      none_found 64 0 (serves T (suc i) 0 bytes) (λ m l. serves_same T (suc i) 0 bytes m least ∙ law (suc i) 0 m body may e (omega arith))

  one_serves : (asked : Asked) (new : Node) → AskedAs (wire.layer (suc i)) (id_for wire (suc i) 0) (unlabelled (wire.layer (suc i)) (id_for wire (suc i) 0) body) (Some asked, new) → label_for T (suc i) 0 bytes ≡ Some asked.label.number
  unfolding label_for
  one_serves asked new a =
      let n = asked.label.number in
      let b = asked_bytes (wire.layer (suc i)).node (id_for wire (suc i) 0) n body asked.bytes may.valid a.small a.labelled in
      let lowest = (asked_own wire wire_holds (suc i) 0 body may asked new a).lowest n b.kind b.part in
      let spelled : asked.bytes ≡ with_label n bytes = a.labelled ∙ ap (with_label n) bytes_are in
      let small = a.small in
      first_found 64 0 n (serves T (suc i) 0 bytes) (omega arith) (omega arith)
      (serves_same T (suc i) 0 bytes n least ∙ sym (ap (sent.serves T (transaction (T.generation (suc i)) (suc i) 0 n)) spelled) ∙ lowest.takes)
      (λ m l. serves_same T (suc i) 0 bytes m least
      ∙ ap (sent.serves T (transaction (T.generation (suc i)) (suc i) 0 m)) (sym (ap (with_label m) spelled ∙ writes_labels.last bytes m n))
      ∙ lowest.lower m l)

  label_by : (r : Option Asked × Node) → AskedAs (wire.layer (suc i)) (id_for wire (suc i) 0) (unlabelled (wire.layer (suc i)) (id_for wire (suc i) 0) body) r → (r.0 ≡ None → label_for T (suc i) 0 bytes ≡ None) → label_in r.0 ≡ label_for T (suc i) 0 bytes
  label_by (None, new) a h = sym (h refl)
  label_by (Some asked, new) a h = sym (one_serves asked new a)

  pub own_label : (purpose : Purpose) → (let t = terms (history w past) in label_in (asking_step s.layer s.target body purpose).0 ≡ label_for t (suc i) 0 (request_bytes t (suc i) 0 body))
  own_label purpose =
      ap label_in (asks_same purpose)
      ∙ label_by (asking_step (wire.layer (suc i)) (id_for wire (suc i) 0) body tt) (asks (wire.layer (suc i)) (id_for wire (suc i) 0) body (wire_holds.nodes (suc i)).places) none_serves
      ∙ ap (λ ms. label_for (terms ms) (suc i) 0 (request_bytes (terms ms) (suc i) 0 body)) sound.stands.is.past_is

pub some_label : (o : Option Asked) → is_some (label_in o) ≡ is_some o
some_label None = refl
some_label (Some asked) = refl

-- ---- reads find a label whatever their address

read_plain : (node peer offset : ℕ) → IsValid (request_with (header_to node peer 0) (quadlet_read offset)) → is_write (canon (request_with (header_to node peer 0) (quadlet_read offset))) ≡ false
unfolding is_write
read_plain node peer offset v = ap (λ n. nat_le n 1) (canon_spells (request_with (header_to node peer 0) (quadlet_read offset)) v).0.kind

read_serves : (t : Terms) (node peer offset m : ℕ) → is_write (request_bytes t node peer (quadlet_read offset)) ≡ false → serves t node peer (request_bytes t node peer (quadlet_read offset)) m ≡ packets.is_free (t.held (to_peer t node peer m))
read_serves t node peer offset m e =
    let bytes = request_bytes t node peer (quadlet_read offset) in
    let u = to_peer t node peer m in
    ap (λ b. packets.is_free (t.held u) && (not b || not (is_last (t.last u) (with_label m bytes)))) e ∙ and_true (packets.is_free (t.held u))

label_same : (t : Terms) (node peer a b : ℕ) → is_write (request_bytes t node peer (quadlet_read a)) ≡ false → is_write (request_bytes t node peer (quadlet_read b)) ≡ false → label_for t node peer (request_bytes t node peer (quadlet_read a)) ≡ label_for t node peer (request_bytes t node peer (quadlet_read b))
unfolding label_for
label_same t node peer a b e f =
    same_found 64 0 _ _ (λ m. read_serves t node peer a m e ∙ sym (read_serves t node peer b m f))

pub reads_same : (t : Terms) (node peer a b : ℕ) → is_write (request_bytes t node peer (quadlet_read a)) ≡ false → is_write (request_bytes t node peer (quadlet_read b)) ≡ false → finds_label t node peer (quadlet_read a) ≡ finds_label t node peer (quadlet_read b)
reads_same t node peer a b e f =
    found_by t node peer (quadlet_read a) (label_for t node peer (request_bytes t node peer (quadlet_read b))) (label_same t node peer a b e f)
    ∙ sym (found_by t node peer (quadlet_read b) (label_for t node peer (request_bytes t node peer (quadlet_read b))) refl)

-- that of an initiator to its target is no write
pub read_bytes : {past : List Moment} {lines : ℕ} (w : WorldState) (sound : Sound past lines w) (i : ℕ) (inside : i < length w.initiators) (offset : ℕ) → offset < 2 ^ 48 → is_write (request_bytes (terms (history w past)) (suc i) 0 (quadlet_read offset)) ≡ false
read_bytes w sound i inside offset fit =
    let wire = sound.stands.wire in
    let body = quadlet_read offset in
    subst (λ ms. is_write (request_bytes (terms ms) (suc i) 0 body) ≡ false) sound.stands.is.past_is
    (subst (λ (bs : List ℕ). is_write bs ≡ false) (bytes_are w sound i inside body fit)
    (read_plain (wire.layer (suc i)).node (id_for wire (suc i) 0) offset (may w sound i inside body fit).valid))

-- ---- of a run

short : (n : ℕ) → n % 2 ^ 48 < 2 ^ 48
short n = omega arith

rom_short : 0xffff_f000_0400 < 2 ^ 48
rom_short = omega arith

module _ (line : ℕ) (run : Run) (r : IsRun run) (i : ℕ) (b : i < run.initiators) where
  abbrev after_run : SoundAfter line run run.entries (after (beginning run) run.entries).world
  after_run = sound_after fitting_law own_fitting_law line run run.entries r.few r.short r.entries r.lines

  abbrev last : WorldState
  last = (after (beginning run) run.entries).world

  there : i < length last.initiators
  there = subst (λ n. i < n) (sym (count_after run run.entries)) b

  run_label : (body : Body) (purpose : Purpose) → FitsRequest body → (let s = initiator_of run i in let t = terms (history_of line run) in label_in (asking_step s.layer s.target body purpose).0 ≡ label_for t (suc i) 0 (request_bytes t (suc i) 0 body))
  run_label body purpose fit =
      own_label last after_run.sound i there body fit purpose ∙ ap (λ ms. label_for (terms ms) (suc i) 0 (request_bytes (terms ms) (suc i) 0 body)) after_run.is

  run_finds : (body : Body) (purpose : Purpose) → FitsRequest body → (let s = initiator_of run i in is_some (asking_step s.layer s.target body purpose).0 ≡ finds_label (terms (history_of line run)) (suc i) 0 body)
  run_finds body purpose fit =
      let s = initiator_of run i in
      let t = terms (history_of line run) in
      sym (some_label (asking_step s.layer s.target body purpose).0) ∙ ap is_some (run_label body purpose fit) ∙ sym (found_by t (suc i) 0 body (label_for t (suc i) 0 (request_bytes t (suc i) 0 body)) refl)

  run_plain : (offset : ℕ) → offset < 2 ^ 48 → is_write (request_bytes (terms (history_of line run)) (suc i) 0 (quadlet_read offset)) ≡ false
  run_plain offset fit =
      subst (λ ms. is_write (request_bytes (terms ms) (suc i) 0 (quadlet_read offset)) ≡ false) after_run.is (read_bytes last after_run.sound i there offset fit)

  read_refused : (action : Action) (o : OutboxState) → sends_read action ≡ true → refusal_at (history_of line run) i action ≡ (act_step action o (initiator_of run i)).0
  read_refused actions.Rom o e =
      run_refusal_law.decided line run r i b actions.Rom o refl (ap not (sym (run_finds (quadlet_read 0xffff_f000_0400) (purposes.Rom (initiator_of run i).counts.acts) rom_short)))
  read_refused actions.State o e =
      let s = initiator_of run i in
      let host = host_at (history_of line run) i in
      let own = register_of s 0x00 in
      let told = run_actions.register_of host agent_state in
      run_refusal_law.decided line run r i b actions.State o refl
      (ap not (reads_same (terms (history_of line run)) (suc i) 0 told own (run_plain told (short _)) (run_plain own (short _))
      ∙ sym (run_finds (quadlet_read own) (purposes.State s.counts.acts (counted_list s.lists.slots.present s)) (short _))))
  read_refused (actions.Put cmd) o e = untrue e
  read_refused (actions.Append cmd) o e = untrue e
  read_refused actions.Low o e = untrue e
  read_refused actions.Link o e = untrue e
  read_refused actions.Ring o e = untrue e
  read_refused (actions.Dummy orb) o e = untrue e
  read_refused actions.AgentReset o e = untrue e
  read_refused actions.Enable o e = untrue e
  read_refused (actions.Login unit reconnect exclusive password) o e = untrue e
  read_refused (actions.Query unit) o e = untrue e
  read_refused actions.Reconnect o e = untrue e
  read_refused actions.Logout o e = untrue e
  read_refused (actions.Abort orb) o e = untrue e
  read_refused actions.AbortSet o e = untrue e
  read_refused actions.UnitReset o e = untrue e
  read_refused actions.TargetReset o e = untrue e

pub run_label_law : RunLabelLaw
run_label_law = record { label = run_label; finds = run_finds; reads = read_refused }
