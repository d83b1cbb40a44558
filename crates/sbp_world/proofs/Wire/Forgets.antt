-- What a node does as it sees a generation: nothing leaves it, and its layer is that of the sight.
use Rattle.sbp_world.proofs.Words.Std.{if◌then◌else◌, slice_index_or, slice_set, sym, ◌∙◌, ap, subst, set-get_or}
use Rattle.sbp_world.proofs.Words.Wire.{LabelParts, Place, Layer, disowning_in, disowning_step, peer_at, peer_place, seen_in_generation, seeing_step, PeerPlace, clear_place, disown_place, no_peer, with_purpose, Table, has_serial, is_current, unused, Note, Operation, Side, OutboxState, empty_outbox, is_plain, ArePlainSides, IsPlainSide}
use Rattle.sbp_world.proofs.Words.Target.{with_side}
use Rattle.sbp_world.proofs.Words.Initiator.{OwnPurpose, Running, InitiatorState, Turn, dropped_as, told, ListState, drop_lists, all_end, interrupted, reset_told, resets_told, see_step, seen_as, states_end}
use Rattle.std.specs.Prelude.{◌≡◌, ℕ, zero, suc, ◌==◌, ◌&&◌, nat_lt, Bool, true, false, List, [], ◌∷◌, ◌++◌, map, replicate, Option, Some, None, refl}
use Rattle.label_table.proofs.Sources.{default_in}
use Rattle.sbp_journal.specs.declared.note.Note.TheVariants as notes
use Rattle.sbp_journal.specs.declared.operation.Operation.TheVariants as operations
use Rattle.sbp_journal.specs.declared.operation.OpWord.TheVariants as words
use Rattle.sbp_journal.specs.declared.side.Side.TheVariants as sides

-- ---- an outbox that holds no packet, and tells nothing that the wire reads
pub record IsSilent (outbox : OutboxState) : Type 0 where
  pub unsent : outbox.packets ≡ []
  pub plain : ArePlainSides outbox.sides

pub plain_more : (told_so : List Side) (side : Side) → ArePlainSides told_so → IsPlainSide side → ArePlainSides (told_so ++ side ∷ [])
plain_more [] side p q = (q, tt)
plain_more (first ∷ told_so) side p q = (p.0, plain_more told_so side p.1 q)

pub silent_more : (outbox : OutboxState) (side : Side) → IsPlainSide side → IsSilent outbox → IsSilent (with_side outbox side)
silent_more outbox side q s = record { unsent = s.unsent; plain = plain_more outbox.sides side s.plain q }

pub silent_empty : IsSilent empty_outbox
silent_empty = record { unsent = refl; plain = tt }

-- ---- a layer that has forgotten all transactions
and_false : (b : Bool) → b && false ≡ false
and_false true = refl
and_false false = refl

none_current : (table : Table) (label : LabelParts) → table.places ≡ replicate 64 unused → is_current table label ≡ false
unfolding is_current
none_current table label e =
    ap (λ (p : Place). (table.generation == label.generation) && has_serial p.state label.serial) (ap (λ (ps : List Place). slice_index_or ps label.number unused) e ∙ default_in 64 label.number unused)
    ∙ and_false (table.generation == label.generation)

module _ {P : Type 0} where
  abbrev pub Forgets : Layer P → Type 0
  Forgets layer = (peer : ℕ) (label : LabelParts) → disowning_step layer peer label ≡ layer

  cleared_places : (g : ℕ) (peers : List (PeerPlace P)) (k : ℕ) → (slice_index_or (map (clear_place g) peers) k no_peer).table.places ≡ replicate 64 unused
  cleared_places g [] k = refl
  cleared_places g (p ∷ ps) zero = refl
  cleared_places g (p ∷ ps) (suc k) = cleared_places g ps k

  same_place : (place : PeerPlace P) (label : LabelParts) → is_current place.table label ≡ false → disown_place place label ≡ place
  same_place place label e = ap (λ b. if b then with_purpose place place.table label.number None else place) e

  forgets_at : (layer : Layer P) (g id : ℕ) (label : LabelParts) (k : Option ℕ) → disowning_in k (seen_in_generation layer g id) label ≡ seen_in_generation layer g id
  forgets_at layer g id label None = refl
  forgets_at layer g id label (Some k) =
      let l = seen_in_generation layer g id in
      ap (λ ps. record l { peers = ps })
      (ap (λ p. slice_set l.peers k p) (same_place (peer_at l k) label (none_current (peer_at l k).table label (cleared_places g layer.peers k)))
      ∙ set-get_or l.peers k no_peer)

  forgets_seen : (layer : Layer P) (g id : ℕ) → Forgets (seen_in_generation layer g id)
  unfolding disowning_step
  forgets_seen layer g id peer label = forgets_at layer g id label (peer_place peer (seen_in_generation layer g id))

  forgets_as : (b : Bool) (layer : Layer P) (g id : ℕ) (made : Bool → Bool × Layer P) → made true ≡ (true, seen_in_generation layer g id) → (made false).0 ≡ false → (made b).0 ≡ true → Forgets (made b).1
  forgets_as true layer g id made t f e = subst (λ (p : Bool × Layer P). Forgets p.1) (sym t) (forgets_seen layer g id)
  forgets_as false layer g id made t f e = cc

  pub forgets_if : (layer : Layer P) (g id : ℕ) → (seeing_step layer g id).0 ≡ true → Forgets (seeing_step layer g id).1
  unfolding seeing_step
  forgets_if layer g id e =
      forgets_as (nat_lt layer.generation g) layer g id (λ b. if b then (true, seen_in_generation layer g id) else (false, layer)) refl refl e

-- ---- an initiator
pub record Rests (layer : Layer OwnPurpose) (turn : Turn) : Type 0 where
  pub layer_is : turn.1.layer ≡ layer
  pub silent : IsSilent turn.0

silent_note : (outbox : OutboxState) (note : Note) → is_plain note ≡ true → IsSilent outbox → IsSilent (told outbox note)
silent_note outbox note p s = record { unsent = s.unsent; plain = plain_more outbox.sides (sides.Own note) s.plain p }

either_silent : (b : Bool) (x y : OutboxState) → IsSilent x → IsSilent y → IsSilent (if b then x else y)
either_silent true x y s t = s
either_silent false x y s t = t

module _ (number : ℕ) where
  reset_silent : (operation : Operation) (o : OutboxState) → IsSilent o → IsSilent (reset_told number operation o)
  unfolding is_plain
  reset_silent operation o s = silent_note o (notes.Op number operation words.Reset) refl s

  states_silent : (acts : List ℕ) (o : OutboxState) → IsSilent o → IsSilent (states_end number acts o)
  states_silent [] o s = s
  states_silent (act ∷ acts) o s = states_silent acts (reset_told number operations.State o) (reset_silent operations.State o s)

  all_silent : (running : Running) (acts : List ℕ) (o : OutboxState) → IsSilent o → IsSilent (all_end number running acts o)
  all_silent running [] o s = reset_silent running.operation o s
  all_silent running (act ∷ acts) o s =
      either_silent (nat_lt running.act act) _ _ (states_silent (act ∷ acts) (reset_told number running.operation o) (reset_silent running.operation o s)) (all_silent running acts (reset_told number operations.State o) (reset_silent operations.State o s))

  resets_silent : (running : Option Running) (acts : List ℕ) (o : OutboxState) → IsSilent o → IsSilent (resets_told number running acts o)
  resets_silent None acts o s = states_silent acts o s
  resets_silent (Some running) acts o s = all_silent running acts o s

dropped_rests : (layer : Layer OwnPurpose) (list : Option ℕ) (lists : ListState) (o : OutboxState) (s : InitiatorState) → s.layer ≡ layer → IsSilent o → Rests layer (dropped_as (list, lists) o s)
unfolding is_plain
dropped_rests layer None lists o s e h = record { layer_is = e; silent = h }
dropped_rests layer (Some n) lists o s e h = record { layer_is = e; silent = silent_note o (notes.Drop s.number n) refl h }

seen_rests : (b : Bool) (layer : Layer OwnPurpose) (target : ℕ) (s : InitiatorState) → Rests layer (seen_as (b, layer) target empty_outbox s)
seen_rests false layer target s = record { layer_is = refl; silent = silent_empty }
seen_rests true layer target s =
    let o = resets_told s.number s.operation s.states empty_outbox in
    let t = interrupted (record s { layer = layer }) target in
    let d = dropped_rests layer (drop_lists t.lists).0 (drop_lists t.lists).1 o t refl (resets_silent s.number s.operation s.states empty_outbox silent_empty) in
    record { layer_is = d.layer_is; silent = d.silent }

pub sees_rests : (generation id target : ℕ) (s : InitiatorState) → Rests (seeing_step s.layer generation id).1 (see_step generation id target empty_outbox s)
unfolding see_step
sees_rests generation id target s = seen_rests (seeing_step s.layer generation id).0 (seeing_step s.layer generation id).1 target s
