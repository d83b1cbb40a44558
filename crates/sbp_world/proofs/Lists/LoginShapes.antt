-- In a call an initiator tells at most once that a login is done or a logout refused, and then nothing else: as it gets a status block for its management ORB.
use Rattle.sbp_world.proofs.Words.Std.{arith, ◌≡◌, ◌∙◌, refl, sym, ap, subst, ◌⊎◌, inl, inr, ℕ, ◌==◌, ◌&&◌, not, Bool, true, false, cond, List, [], ◌∷◌, Option, Some, None, nat_tests}
use Rattle.sbp_world.proofs.Words.Wire.{Packet, header_in, write_block, Layer, answering_step, judging_step, Judged, Operation, OpWord, Side, OutboxState, empty_outbox}
use Rattle.sbp_world.proofs.Words.Target.{is_block}
use Rattle.sbp_world.proofs.Words.Initiator.{Fifo, Purpose, Running, InitiatorState, Turn, drop_where, end_step, good_end, managed_step, moved, then_step, told, ends_list, bad, addressed, block_at, block_by, block_step, called, fifo_of, got_step, is_foreign, managed_for, present_for, receive_step, received, request_step, responded_as, status_step, status_in}
use Rattle.sbp_world.proofs.Words.World.{is_open}
use Rattle.sbp_world.proofs.Hosts.KnowHears.{IfFits}
use Rattle.initiator_base.specs.declared.fifos.Fifo.TheVariants as fifos
use Rattle.sbp_journal.specs.declared.note.Note.TheVariants as notes
use Rattle.sbp_journal.specs.declared.operation.Operation.TheVariants as operations
use Rattle.sbp_journal.specs.declared.operation.OpWord.TheVariants as words
use Rattle.sbp_journal.specs.declared.side.Side.TheVariants as sides
use Rattle.sbp_world.proofs.Lists.LiveDone.{AllDone, IfDone, IsLoggedIn, IsRefused, NoStatus, Nobody, done_told}
use Rattle.sbp_world.proofs.Lists.LiveHears.{IsAnswered}
use Rattle.sbp_world.proofs.Common.{untrue}

-- ---- whether such a thing is told
module _ (T : ℕ → Type 0) (R : ℕ → ℕ → Type 0) where
  abbrev Has : Type 0
  Has = ((j : ℕ) × T j) ⊎ ((j : ℕ) × ((status : ℕ) × R j status))

  found_word : (j : ℕ) (operation : Operation) (word : OpWord) → IfDone T R (sides.Own (notes.Op j operation word)) → IfDone Nobody NoStatus (sides.Own (notes.Op j operation word)) ⊎ Has
  found_word j operations.Login words.Done x = inr (inl (j, x))
  found_word j operations.Rom words.Done x = inl tt
  found_word j operations.Query words.Done x = inl tt
  found_word j operations.Reconnect words.Done x = inl tt
  found_word j operations.Logout words.Done x = inl tt
  found_word j operations.Abort words.Done x = inl tt
  found_word j operations.AbortSet words.Done x = inl tt
  found_word j operations.UnitReset words.Done x = inl tt
  found_word j operations.TargetReset words.Done x = inl tt
  found_word j operations.AgentReset words.Done x = inl tt
  found_word j operations.State words.Done x = inl tt
  found_word j operations.Enable words.Done x = inl tt
  found_word j operations.Login (words.Refused status) x = inl tt
  found_word j operations.Rom (words.Refused status) x = inl tt
  found_word j operations.Query (words.Refused status) x = inl tt
  found_word j operations.Reconnect (words.Refused status) x = inl tt
  found_word j operations.Logout (words.Refused status) x = inr (inr (j, (status, x)))
  found_word j operations.Abort (words.Refused status) x = inl tt
  found_word j operations.AbortSet (words.Refused status) x = inl tt
  found_word j operations.UnitReset (words.Refused status) x = inl tt
  found_word j operations.TargetReset (words.Refused status) x = inl tt
  found_word j operations.AgentReset (words.Refused status) x = inl tt
  found_word j operations.State (words.Refused status) x = inl tt
  found_word j operations.Enable (words.Refused status) x = inl tt
  found_word j operation words.Conflict x = inl tt
  found_word j operation words.Error x = inl tt
  found_word j operation words.Reset x = inl tt
  found_word j operation (words.Count count) x = inl tt
  found_word j operation (words.Bad fault) x = inl tt
  found_word j operation words.NoUnit x = inl tt
  found_word j operation (words.State value) x = inl tt

  found_side : (side : Side) → IfDone T R side → IfDone Nobody NoStatus side ⊎ Has
  found_side (sides.Own (notes.Op j operation word)) x = found_word j operation word x
  found_side side x = inl tt

  joins : (side : Side) (later : List Side) → IfDone Nobody NoStatus side ⊎ Has → AllDone Nobody NoStatus later ⊎ Has → AllDone Nobody NoStatus (side ∷ later) ⊎ Has
  joins side later (inl a) (inl b) = inl (a, b)
  joins side later (inr a) y = inr a
  joins side later (inl a) (inr b) = inr b

  found : (told : List Side) → AllDone T R told → AllDone Nobody NoStatus told ⊎ Has
  found [] x = inl tt
  found (side ∷ later) x = joins side later (found_side side x.0) (found later x.1)

-- ---- that is all which is told
responded_sides : (r : List ℕ × Layer Purpose) (source : ℕ) (o : OutboxState) (u : InitiatorState) → (responded_as r source o u).0.sides ≡ o.sides
responded_sides (response, layer) source o u = refl

module _ (s : InitiatorState) (generation : ℕ) (bytes : List ℕ) (running : Running) (status : ℕ) (a : IsAnswered s generation bytes running status) (one : List Side) (managed_one : (layer : Layer Purpose) → (managed_step running status empty_outbox (called (record s { layer = layer }))).0.sides ≡ one) where
  abbrev u : Layer Purpose → InitiatorState
  u layer = record s { layer = layer }

  abbrev w : Packet
  w = write_block a.header a.offset a.payload

  abbrev IsOnce : List Side → Type 0
  IsOnce told = AllDone Nobody NoStatus told ⊎ (told ≡ one)

  abbrev Is : Judged × Turn → Type 0
  Is x = IsOnce x.1.0.sides

  either : (b : Bool) (x y : Judged × Turn) → Is x → Is y → Is (cond b x y)
  either true x y h k = h
  either false x y h k = k

  other : (b : Bool) (x y : Judged × Turn) → b ≡ false → Is y → Is (cond b x y)
  other true x y e k = untrue (sym e)
  other false x y e k = k

  got_once : (t : Turn) → IsOnce t.0.sides → Is (got_step w bytes t)
  got_once t h = subst IsOnce (sym (responded_sides (answering_step t.1.layer w bytes 0 []) (header_in w).source t.0 t.1)) h

  present : present_for a.block.orb s.operation ≡ Some running
  present = ap (present_for a.block.orb) a.under_way ∙ ap (λ b. cond b (Some running) None) a.names

  block_is : (layer : Layer Purpose) → block_step (status_in a.payload) w bytes empty_outbox (u layer) ≡ managed_for (Some running) status w bytes empty_outbox (u layer)
  block_is layer =
      ap (λ r. block_step r w bytes empty_outbox (u layer)) a.read
      ∙ ap (λ k. block_by k a.block w bytes empty_outbox (u layer)) a.kind
      ∙ ap (λ x. managed_for x status w bytes empty_outbox (u layer)) present

  block_once : (layer : Layer Purpose) → Is (block_step (status_in a.payload) w bytes empty_outbox (u layer))
  block_once layer = subst Is (sym (block_is layer)) (got_once (managed_step running status empty_outbox (called (u layer))) (inr (managed_one layer)))

  status_once : (layer : Layer Purpose) (is_login : Bool) → Is (status_step is_login a.payload w bytes empty_outbox (u layer))
  status_once layer is_login =
      either (is_login && is_block a.payload) (got_step w bytes (told empty_outbox (notes.Told s.number), called (u layer))) (block_step (status_in a.payload) w bytes empty_outbox (u layer))
      (got_once (told empty_outbox (notes.Told s.number), called (u layer)) (inl (tt, tt))) (block_once layer)

  at_once : (layer : Layer Purpose) (fifo : Option Fifo) → is_open fifo ≡ true → Is (block_at fifo a.payload w bytes empty_outbox (u layer))
  at_once layer None e = untrue e
  at_once layer (Some fifos.Closed) e = untrue e
  at_once layer (Some fifos.Login) e = status_once layer true
  at_once layer (Some fifos.Place) e = status_once layer false

  own_source : is_foreign w s ≡ false
  own_source = let e = a.source in let x : (a.header.source == s.target) ≡ true = grind (arith, nat_tests) in ap not x

  requested : (layer : Layer Purpose) → Is (request_step w bytes empty_outbox (u layer))
  requested layer = other (is_foreign w (u layer)) _ (addressed w bytes empty_outbox (u layer)) own_source (at_once layer (fifo_of s a.offset) a.opens)

  pub told_once : IsOnce (receive_step generation bytes empty_outbox s).1.0.sides
  unfolding receive_step
  told_once = subst (λ f. Is (received (f, (judging_step s.layer generation bytes).1) bytes empty_outbox s)) (sym a.found) (requested (judging_step s.layer generation bytes).1)

-- ---- so a call tells none, or one alone
pub data IsEnd (s : InitiatorState) (generation : ℕ) (bytes : List ℕ) (told : List Side) : Type 0 where
  enters : (running : Running) → IsAnswered s generation bytes running 0 → running.operation ≡ operations.Login → told ≡ sides.Own (notes.Op s.number operations.Login words.Done) ∷ [] → IsEnd s generation bytes told
  stays : (running : Running) (status : ℕ) → IsAnswered s generation bytes running status → (status ≡ 0 → ⊥) → running.operation ≡ operations.Logout → told ≡ sides.Own (notes.Op s.number operations.Logout (words.Refused status)) ∷ [] → IsEnd s generation bytes told

module _ (s : InitiatorState) (generation : ℕ) (bytes : List ℕ) where
  abbrev sides_told : List Side
  sides_told = (receive_step generation bytes empty_outbox s).1.0.sides

  abbrev Ends : Type 0
  Ends = AllDone Nobody NoStatus sides_told ⊎ IsEnd s generation bytes sides_told

  good_one : (running : Running) → running.operation ≡ operations.Login → (layer : Layer Purpose) → (managed_step running 0 empty_outbox (called (record s { layer = layer }))).0.sides ≡ sides.Own (notes.Op s.number operations.Login words.Done) ∷ []
  good_one running login layer =
      subst (λ (operation : Operation). (managed_step (record running { operation = operation }) 0 empty_outbox (called (record s { layer = layer }))).0.sides ≡ sides.Own (notes.Op s.number operations.Login words.Done) ∷ []) (sym login) refl

  bad_by : (b : Bool) (running : Running) (status : ℕ) → b ≡ false → running.operation ≡ operations.Logout → (v : InitiatorState) → v.number ≡ s.number → (cond b (then_step (good_end running) (drop_where (ends_list (Some running.operation)) empty_outbox v)) (end_step running.operation (words.Refused status) empty_outbox (moved running.operation bad v))).0.sides ≡ sides.Own (notes.Op s.number operations.Logout (words.Refused status)) ∷ []
  bad_by true running status e logout v n = untrue (sym e)
  bad_by false running status e logout v n =
      subst (λ (operation : Operation). (end_step operation (words.Refused status) empty_outbox (moved operation bad v)).0.sides ≡ sides.Own (notes.Op s.number operations.Logout (words.Refused status)) ∷ []) (sym logout)
      (ap (λ (k : ℕ). sides.Own (notes.Op k operations.Logout (words.Refused status)) ∷ []) n)

  bad_one : (running : Running) (status : ℕ) → (status ≡ 0 → ⊥) → running.operation ≡ operations.Logout → (layer : Layer Purpose) → (managed_step running status empty_outbox (called (record s { layer = layer }))).0.sides ≡ sides.Own (notes.Op s.number operations.Logout (words.Refused status)) ∷ []
  bad_one running status n logout layer = bad_by (status == 0) running status (by (status == 0) refl) logout (called (record s { layer = layer })) refl
    where
      by : (b : Bool) → (status == 0) ≡ b → b ≡ false
      by false e = refl
      by true e = absurd (n (let z : status ≡ 0 = grind (arith, nat_tests) in z))

  ends_once : (one : List Side) → (sides_told ≡ one → IsEnd s generation bytes sides_told) → AllDone Nobody NoStatus sides_told ⊎ (sides_told ≡ one) → Ends
  ends_once one f (inl none) = inl none
  ends_once one f (inr is) = inr (f is)

  ends_by : AllDone Nobody NoStatus sides_told ⊎ (((j : ℕ) × IsLoggedIn s generation bytes j) ⊎ ((j : ℕ) × ((status : ℕ) × IsRefused s generation bytes j status))) → Ends
  ends_by (inl none) = inl none
  ends_by (inr (inl y)) =
      let x = y.1 in
      let one = sides.Own (notes.Op s.number operations.Login words.Done) ∷ [] in
      ends_once one (λ is. enters x.running x.answered x.login is) (told_once s generation bytes x.running 0 x.answered one (good_one x.running x.login))
  ends_by (inr (inr y)) =
      let x = y.1.1 in
      let status = y.1.0 in
      let one = sides.Own (notes.Op s.number operations.Logout (words.Refused status)) ∷ [] in
      ends_once one (λ is. stays x.running status x.answered x.bad x.logout is) (told_once s generation bytes x.running status x.answered one (bad_one x.running status x.bad x.logout))

  pub call_ends : IfFits (judging_step s.layer generation bytes).0 s → Ends
  call_ends fits = ends_by (found (IsLoggedIn s generation bytes) (IsRefused s generation bytes) sides_told (done_told s generation bytes fits))
