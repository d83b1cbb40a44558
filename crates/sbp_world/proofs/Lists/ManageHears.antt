-- What a packet that an initiator hears leaves of its operation of management, and why it may be over then: conflict_error answers its own request, or a status block of
-- the target names its ORB.
use Rattle.sbp_world.proofs.Words.Std.{arith, ◌≡◌, ◌∙◌, refl, sym, ap, subst, ℕ, ◌==◌, ◌&&◌, not, Bool, true, false, cond, List, [], Option, Some, None, Result, Ok, Err, nat_tests, same_Some}
use Rattle.sbp_world.proofs.Words.Wire.{Header, LabelParts, Packet, lock, lock_response, read_block, read_block_response, read_quadlet, read_quadlet_response, write_block, write_quadlet, write_response, Stale, Finding, Layer, expiring_step, judging_step, of_again, of_generation, of_grammar, of_label, of_request, of_response, OutboxState, empty_outbox, Judged}
use Rattle.sbp_world.proofs.Words.Target.{is_block}
use Rattle.sbp_world.proofs.Words.Initiator.{Fifo, OrbFault, StatusBlock, StatusKind, take_lists, Purpose, Running, InitiatorState, Turn, is_conflict, managed_step, told, addressed, block_at, block_by, block_step, called, expire_step, expired_as, fifo_of, got_step, ignored_step, is_foreign, managed_for, present_for, quadlet_at, receive_step, received, request_step, serve_step, status_step, ending_of, is_orb_of, is_present_orb, status_in}
use Rattle.sbp_world.proofs.Words.World.{is_open}
use Rattle.sbp_world.proofs.Hosts.KnowHears.{IfExpires, IfFits}
use Rattle.initiator_base.specs.declared.fifos.Fifo.TheVariants as fifos
use Rattle.sbp_initiator.proofs.Histories.Effects.{Fits}
use Rattle.sbp_initiator.proofs.Histories.Purposes.{IfFor}
use Rattle.orb_layout.specs.declared.status.StatusKind.TheVariants as kinds
use Rattle.sbp_initiator.specs.declared.purpose.Ending.TheVariants as endings
use Rattle.sbp_initiator.specs.declared.purpose.Purpose.TheVariants as purposes
use Rattle.sbp_journal.specs.declared.cause.Cause.TheVariants as ignored
use Rattle.sbp_journal.specs.declared.note.Note.TheVariants as notes
use Rattle.sbp_world.proofs.Lists.ManageLeaves.{Left, ends_left, left_self, managed, responds, serves, still, takes}
use Rattle.sbp_world.proofs.Hosts.KnowActs.{not_not}
use Rattle.sbp_world.proofs.Hosts.PresentOrbs.{present_by}

-- a block that is delivered of the target, at an open FIFO, is the status block of a management ORB of the operation
pub record IsStatusFor (s : InitiatorState) (generation : ℕ) (bytes : List ℕ) (running : Running) : Type 0 where
  pub header : Header
  pub offset : ℕ
  pub payload : List ℕ
  pub found : (judging_step s.layer generation bytes).0 ≡ of_request (write_block header offset payload)
  pub source : header.source ≡ s.target
  pub is_open_fifo : is_open (fifo_of s offset) ≡ true
  pub block : StatusBlock
  pub read : status_in payload ≡ Ok block
  pub status : ℕ
  pub kind : block.kind ≡ kinds.Management status
  pub names : is_orb_of running.managed block.orb ≡ true

pub data IsEndedBy (s : InitiatorState) (generation : ℕ) (bytes : List ℕ) (running : Running) : Type 0 where
  by_conflict : (p : Packet) (label : LabelParts) (act rcode : ℕ) → (judging_step s.layer generation bytes).0 ≡ of_response p label (Some (purposes.Management act)) → running.act ≡ act → ending_of p ≡ endings.Refused rcode → is_conflict rcode ≡ true → IsEndedBy s generation bytes running
  by_status : IsStatusFor s generation bytes running → IsEndedBy s generation bytes running

module _ (s : InitiatorState) (generation : ℕ) (bytes : List ℕ) where
  abbrev Why : Running → Type 0
  Why running = IsEndedBy s generation bytes running

  abbrev L : InitiatorState → Type 0
  L u = Left s Why u

  abbrev At : Turn → Type 0
  At t = L t.1

  pick : (b : Bool) (x y : Judged × Turn) → At x.1 → At y.1 → At (cond b x y).1
  pick true x y h k = h
  pick false x y h k = k

  here : (layer : Layer Purpose) → L (record s { layer = layer })
  here layer = still s Why s (record s { layer = layer }) refl (λ e. e) (left_self s Why)

  module _ (layer : Layer Purpose) (o : OutboxState) where
    abbrev u : InitiatorState
    u = record s { layer = layer }

    started : L (called u)
    started = still s Why u (called u) refl (λ e. e) (here layer)

    module _ (header : Header) (offset : ℕ) (payload : List ℕ) (found : (judging_step s.layer generation bytes).0 ≡ of_request (write_block header offset payload)) (source : header.source ≡ s.target) (opens : is_open (fifo_of s offset) ≡ true) where
      abbrev p : Packet
      p = write_block header offset payload

      managed_by : (block : StatusBlock) (status : ℕ) → status_in payload ≡ Ok block → block.kind ≡ kinds.Management status → (x : Option Running) → present_for block.orb s.operation ≡ x → At (managed_for x status p bytes o u).1
      managed_by block status read kind None e = responds s Why p bytes 0 [] (o, u) (here layer)
      managed_by block status read kind (Some running) e =
          let i = present_by block.orb s.operation running (is_present_orb block.orb s.operation) refl e in
          responds s Why p bytes 0 [] (managed_step running status o (called u)) (managed s Why running status o (called u) (λ other is.
          let same : running ≡ other = same_Some running other (sym i.is ∙ is) in
          subst Why same
          (by_status (record { header = header; offset = offset; payload = payload; found = found; source = source; is_open_fifo = opens; block = block; read = read; status = status; kind = kind; names = i.named }))) started)

      kinds_by : (block : StatusBlock) → status_in payload ≡ Ok block → (kind : StatusKind) → block.kind ≡ kind → At (block_by kind block p bytes o u).1
      kinds_by block read (kinds.Management status) k = managed_by block status read k (present_for block.orb s.operation) refl
      kinds_by block read kinds.Good k = takes s Why (take_lists u.lists block) kinds.Good p bytes o u (here layer)
      kinds_by block read (kinds.Check sense) k = takes s Why (take_lists u.lists block) (kinds.Check sense) p bytes o u (here layer)
      kinds_by block read kinds.Dummy k = takes s Why (take_lists u.lists block) kinds.Dummy p bytes o u (here layer)
      kinds_by block read kinds.Aborted k = takes s Why (take_lists u.lists block) kinds.Aborted p bytes o u (here layer)
      kinds_by block read (kinds.Illegal meaning) k = takes s Why (take_lists u.lists block) (kinds.Illegal meaning) p bytes o u (here layer)
      kinds_by block read kinds.Failed k = takes s Why (take_lists u.lists block) kinds.Failed p bytes o u (here layer)

      blocks : (r : Result StatusBlock OrbFault) → status_in payload ≡ r → At (block_step r p bytes o u).1
      blocks (Err fault) read = responds s Why p bytes 5 [] (o, u) (here layer)
      blocks (Ok block) read = kinds_by block read block.kind refl

      statuses : (is_login : Bool) → At (status_step is_login payload p bytes o u).1
      statuses is_login =
          pick (is_login && is_block payload) (got_step p bytes (told o (notes.Told s.number), called u)) (block_step (status_in payload) p bytes o u)
          (responds s Why p bytes 0 [] (told o (notes.Told s.number), called u) started) (blocks (status_in payload) refl)

    serve : (p : Packet) → At (serve_step p bytes o u).1
    serve p = serves s Why p bytes o u (here layer)

    fifos_by : (header : Header) (offset : ℕ) (payload : List ℕ) → (judging_step s.layer generation bytes).0 ≡ of_request (write_block header offset payload) → header.source ≡ s.target → (fifo : Option Fifo) → fifo_of s offset ≡ fifo → At (block_at fifo payload (write_block header offset payload) bytes o u).1
    fifos_by header offset payload found source None e = serve (write_block header offset payload)
    fifos_by header offset payload found source (Some fifos.Closed) e = responds s Why (write_block header offset payload) bytes 7 [] (o, u) (here layer)
    fifos_by header offset payload found source (Some fifos.Login) e = statuses header offset payload found source (ap is_open e) true
    fifos_by header offset payload found source (Some fifos.Place) e = statuses header offset payload found source (ap is_open e) false

    quadlets_by : (fifo : Option Fifo) (p : Packet) → At (quadlet_at fifo p bytes o u).1
    quadlets_by (Some fifos.Closed) p = responds s Why p bytes 7 [] (o, u) (here layer)
    quadlets_by (Some fifos.Login) p = serve p
    quadlets_by (Some fifos.Place) p = serve p
    quadlets_by None p = serve p

    -- of the target
    own_write : (source : ℕ) → not (source == s.target) ≡ false → source ≡ s.target
    own_write source e = let x = not_not (source == s.target) e in grind (arith, nat_tests)

    reaches : (p : Packet) → (judging_step s.layer generation bytes).0 ≡ of_request p → is_foreign p u ≡ false → At (addressed p bytes o u).1
    reaches (read_quadlet header offset) found f = serve (read_quadlet header offset)
    reaches (read_block header offset asked) found f = serve (read_block header offset asked)
    reaches (write_quadlet header offset value) found f = quadlets_by (fifo_of u offset) (write_quadlet header offset value)
    reaches (write_block header offset payload) found f = fifos_by header offset payload found (own_write header.source f) (fifo_of s offset) refl
    reaches (write_response header rcode) found f = serve (write_response header rcode)
    reaches (read_quadlet_response header rcode value) found f = serve (read_quadlet_response header rcode value)
    reaches (read_block_response header rcode payload) found f = serve (read_block_response header rcode payload)
    reaches (lock header offset extended payload) found f = serve (lock header offset extended payload)
    reaches (lock_response header rcode extended payload) found f = serve (lock_response header rcode extended payload)

    requests : (p : Packet) → (judging_step s.layer generation bytes).0 ≡ of_request p → At (request_step p bytes o u).1
    requests p found = by (is_foreign p u) refl
      where
        by : (b : Bool) → is_foreign p u ≡ b → At (cond b (ignored_step ignored.Source 7 p bytes (o, u)) (addressed p bytes o u)).1
        by true e = responds s Why p bytes 7 [] (o, u) (here layer)
        by false e = reaches p found e

  fits_of : (p : Packet) (label : LabelParts) (purpose : Option Purpose) → IfFits (of_response p label purpose) s → IfFor (λ q. Fits q s.operation) purpose
  fits_of p label None f = tt
  fits_of p label (Some purpose) f = f.0

  received_as : (f : Finding Purpose) → (judging_step s.layer generation bytes).0 ≡ f → IfFits f s → (layer : Layer Purpose) → At (received (f, layer) bytes empty_outbox s).1
  received_as of_generation found g layer = here layer
  received_as of_grammar found g layer = here layer
  received_as of_label found g layer = here layer
  received_as (of_response p label purpose) found g layer =
      ends_left s Why purpose (ending_of p) empty_outbox (called (record s { layer = layer })) (fits_of p label purpose g)
      (λ act rcode e f c running is own. by_conflict p label act rcode (found ∙ ap (of_response p label) e) own f c)
      (still s Why (record s { layer = layer }) (called (record s { layer = layer })) refl (λ e. e) (here layer))
  received_as (of_again p rcode) found g layer = responds s Why p bytes rcode [] (empty_outbox, record s { layer = layer }) (here layer)
  received_as (of_request p) found g layer = requests layer empty_outbox p found

  pub hears_left : IfFits (judging_step s.layer generation bytes).0 s → Left s (IsEndedBy s generation bytes) (receive_step generation bytes empty_outbox s).1.1
  unfolding receive_step
  hears_left f = received_as (judging_step s.layer generation bytes).0 refl f (judging_step s.layer generation bytes).1

-- ---- a transaction that times out ends none but with the session stuck

abbrev pub Never : Running → Type 0
Never running = ⊥

module _ (s : InitiatorState) (label : LabelParts) where
  lapses_by : (r : Result (Option Purpose) Stale) (layer : Layer Purpose) → IfExpires r s → Left s Never (expired_as (r, layer) empty_outbox s).1.1
  lapses_by (Err stale) layer f = still s Never s (record s { layer = layer }) refl (λ e. e) (left_self s Never)
  lapses_by (Ok purpose) layer f =
      let v = called (record s { layer = layer }) in
      ends_left s Never purpose endings.Expired empty_outbox v (fits purpose f) (λ act rcode e g c running is own. expired_not rcode g) (still s Never s v refl (λ e. e) (left_self s Never))
    where
      fits : (purpose : Option Purpose) → IfExpires (Ok purpose) s → IfFor (λ q. Fits q s.operation) purpose
      fits None g = tt
      fits (Some purpose) g = g.0

      expired_not : {A : Type 0} (rcode : ℕ) → endings.Expired ≡ endings.Refused rcode → A
      expired_not rcode g = absurd (let no : endings.Expired ≡ endings.Refused rcode = g in cc)

  pub lapses_left : IfExpires (expiring_step s.layer s.target label).0 s → Left s Never (expire_step label empty_outbox s).1.1
  unfolding expire_step
  lapses_left f = lapses_by (expiring_step s.layer s.target label).0 (expiring_step s.layer s.target label).1 f
