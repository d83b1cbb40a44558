-- The notes of `told` among those that a call hands out: the target tells none, and an initiator one alone, for an unsolicited status block that it gets.
use Rattle.std.proofs.Common.{◌≡◌, ◌∙◌, refl, ap, ℕ, zero, suc, Bool, true, false, cond, List, [], ◌∷◌, ◌++◌, Option, Some, None}
use Rattle.std.proofs.lemmas.List.Elements.{filter-append}
use Rattle.bus_memory.specs.Windows.{slot_of}
use Rattle.label_table.specs.Layer.{Layer, seeing_step}
use Rattle.orb_layout.specs.declared.status.StatusBlock.{StatusBlock}
use Rattle.orb_layout.specs.declared.status.StatusKind.{StatusKind}
use Rattle.orb_layout.specs.declared.status.StatusKind.TheVariants as kinds
use Rattle.orb_list.specs.Lists.{ListState, drop_lists, take_lists}
use Rattle.orb_list.specs.Tickets.{TicketParts}
use Rattle.sbp_initiator.specs.Histories.Ends.{OpEnd, drops, notes_of, ops, own, state_ops, sticks}
use Rattle.sbp_initiator.specs.Histories.Taking.{Brought, block_note, block_notes, nothing, status, taken_by, taken_of, unsolicited, waiting_at}
use Rattle.sbp_initiator.specs.Effects.{dropped_as}
use Rattle.sbp_initiator.specs.Seeing.{interrupted, resets_told, see_step, seen_as}
use Rattle.sbp_initiator.specs.declared.purpose.Purpose.{Purpose}
use Rattle.sbp_initiator.specs.declared.state.InitiatorState.{InitiatorState}
use Rattle.sbp_journal.specs.Outgoings.{OutboxState, empty_outbox}
use Rattle.sbp_journal.specs.Run.{Moment}
use Rattle.sbp_journal.specs.declared.event.Action.{Action}
use Rattle.sbp_journal.specs.declared.event.Action.TheVariants as actions
use Rattle.sbp_journal.specs.declared.note.Note.{Note}
use Rattle.sbp_journal.specs.declared.note.Note.TheVariants as notes
use Rattle.sbp_journal.specs.declared.operation.OpWord.{OpWord}
use Rattle.sbp_journal.specs.declared.operation.OpWord.TheVariants as words
use Rattle.sbp_journal.specs.declared.side.Side.{Side}
use Rattle.sbp_journal.specs.declared.side.Side.TheVariants as sides
use Rattle.sbp_laws.specs.Actions.{action_notes, link_notes, new_list, new_number}
use Rattle.sbp_laws.specs.MediaLaw.{is_told_note}
use Rattle.sbp_laws.specs.NoteKinds.{of_kind}
use Rattle.sbp_world.specs.Hosts.Handing.{AreOthers, IsOther}
use Rattle.sbp_world.specs.Telling.{told as told_one}
use Rattle.sbp_world.specs.Worlds.{WorldState}
use Rattle.turn_laws.proofs.Handed.{handed, note_of, notes_told}
use Rattle.turn_laws.proofs.HostTold.{resets_keep, told_notes}
use Rattle.turn_laws.proofs.KindNotes.{IsToldKind, kind_handed, none_behind}
use Rattle.turn_laws.proofs.OwnNotes.{own_told}

is_told : IsToldKind is_told_note
is_told = record { no_packet = λ serial generation from to bytes. refl }

abbrev pub Told : List Note → List Note
Told ns = of_kind is_told_note ns

both : (a b : List Note) → Told (a ++ b) ≡ Told a ++ Told b
both a b = filter-append is_told_note a b

-- ---- the target tells none
one_none : (side : Side) (w : WorldState) → IsOther side → Told (note_of side w) ≡ []
one_none (sides.Own note) w o = absurd o
one_none (sides.Opened place orb) w o = refl
one_none (sides.Ran place orb cdb payload outcome) w o = refl
one_none (sides.Ended place orb kind) w o = refl
one_none (sides.Dead place cause) w o = refl
one_none (sides.Cut place cause) w o = refl
one_none (sides.Managed node function subject code login) w o = refl
one_none (sides.ManageFailed node cause) w o = refl
one_none (sides.Held login) w o = refl
one_none (sides.Expired login) w o = refl
one_none (sides.Back login) w o = refl
one_none (sides.Left login) w o = refl
one_none (sides.Cleared unit) w o = refl
one_none (sides.Unsolicited place) w o = refl
one_none (sides.Unsent place) w o = refl

others_none : (weight : ℕ) (later : List Side) (w : WorldState) → AreOthers later → Told (notes_told weight later w) ≡ []
others_none weight [] w o = refl
others_none weight (side ∷ later) w o =
    let v = told_one weight side w in
    both (note_of side w) (notes_told weight later v) ∙ ap (λ ns. ns ++ Told (notes_told weight later v)) (one_none side w o.0) ∙ others_none weight later v o.1

pub target_none : (weight : ℕ) (outbox : OutboxState) (w : WorldState) → AreOthers outbox.sides → Told (handed 0 weight outbox w) ≡ []
target_none weight outbox w o = kind_handed is_told_note is_told 0 weight outbox w ∙ others_none weight outbox.sides w o

-- ---- what an initiator tells
pub own_are : (node weight : ℕ) (outbox : OutboxState) (w : WorldState) (ns : List Note) → outbox.sides ≡ own ns → Told (handed node weight outbox w) ≡ Told ns
own_are node weight outbox w ns e =
    kind_handed is_told_note is_told node weight outbox w
    ∙ ap (λ s. Told (notes_told weight s w)) e ∙ ap Told (own_told weight ns w)

drops_none : (number : ℕ) (drop : Option ℕ) → Told (drops number drop) ≡ []
drops_none number None = refl
drops_none number (Some list) = refl

ops_none : (number : ℕ) (op : Option OpEnd) → Told (ops number op) ≡ []
ops_none number None = refl
ops_none number (Some end) = refl

states_none : (number : ℕ) (state : Option OpWord) → Told (state_ops number state) ≡ []
states_none number None = refl
states_none number (Some word) = refl

sticks_none : (number : ℕ) (stuck : Bool) → Told (sticks number stuck) ≡ []
sticks_none number false = refl
sticks_none number true = refl

none_both : (a b : List Note) → Told a ≡ [] → Told b ≡ [] → Told (a ++ b) ≡ []
none_both a b e f = both a b ∙ ap (λ ns. ns ++ Told b) e ∙ f

-- a block stands before what its lists, operations and session come to
pub block_first : (number : ℕ) (first : Option Note) (drop : Option ℕ) (op : Option OpEnd) (state : Option OpWord) (stuck : Bool) → Told (told_notes number first drop op state stuck) ≡ Told (block_notes first)
block_first number first drop op state stuck =
    let more = notes_of number drop op state stuck in
    let none : Told more ≡ [] =
    none_both (drops number drop) (ops number op ++ (state_ops number state ++ sticks number stuck)) (drops_none number drop)
    (none_both (ops number op) (state_ops number state ++ sticks number stuck) (ops_none number op)
    (none_both (state_ops number state) (sticks number stuck) (states_none number state) (sticks_none number stuck))) in
    both (block_notes first) more ∙ ap (λ ns. Told (block_notes first) ++ ns) none ∙ none_behind (Told (block_notes first))

-- ---- of a block that comes
abbrev pub is_push : Brought → Bool
is_push unsolicited = true
is_push brought = false

abbrev pub told_if : Bool → ℕ → List Note
told_if true number = notes.Told number ∷ []
told_if false number = []

module _ (s : InitiatorState) where
  taken_none : (found : Option TicketParts) (kind : StatusKind) (lists : ListState) → Told (block_notes (taken_of found kind lists s.number)) ≡ []
  taken_none None kind lists = refl
  taken_none (Some t) kind lists = refl

  kind_none : (kind : StatusKind) (block : StatusBlock) → Told (block_notes (taken_by kind block s)) ≡ []
  kind_none (kinds.Management code) block = refl
  kind_none kind block = taken_none (waiting_at s.lists.slots.slots (slot_of block.orb)) kind (take_lists s.lists block).1

  pub block_told : (brought : Brought) → Told (block_notes (block_note brought s)) ≡ told_if (is_push brought) s.number
  block_told nothing = refl
  block_told unsolicited = refl
  block_told (status block) = kind_none block.kind block

-- ---- an action tells none
abbrev AreUntold : List Note → Type 0
AreUntold [] = Unit {0}
AreUntold (note ∷ later) = (is_told_note note ≡ false) × AreUntold later

untold_none : (ns : List Note) → AreUntold ns → Told ns ≡ []
untold_none [] h = refl
untold_none (note ∷ later) h = ap (λ b. cond b (note ∷ Told later) (Told later)) h.0 ∙ untold_none later h.1

links_untold : (i n k : ℕ) (rest : List Note) → AreUntold rest → AreUntold (link_notes i n k ++ rest)
links_untold i n zero rest h = h
links_untold i n (suc k) rest h = (refl, (refl, h))

action_untold : (action : Action) (past : List Moment) (i : ℕ) → AreUntold (action_notes action past i)
action_untold (actions.Put cmd) past i = (refl, tt)
action_untold (actions.Append cmd) past i = (refl, links_untold i (new_list past i) (new_number past i) _ (refl, tt))
action_untold actions.Low past i = (refl, tt)
action_untold actions.Link past i = (refl, tt)
action_untold actions.Ring past i = (refl, tt)
action_untold (actions.Dummy k) past i = (refl, tt)
action_untold _ past i = tt

pub action_none : (action : Action) (past : List Moment) (i : ℕ) → Told (action_notes action past i) ≡ []
action_none action past i = untold_none (action_notes action past i) (action_untold action past i)

-- ---- nor does a sight
abbrev Silent : List Side → Type 0
Silent [] = Unit {0}
Silent (sides.Own note ∷ later) = (is_told_note note ≡ false) × Silent later
Silent (_ ∷ later) = ⊥

silent_none : (weight : ℕ) (later : List Side) (w : WorldState) → Silent later → Told (notes_told weight later w) ≡ []
silent_none weight [] w q = refl
silent_none weight (sides.Own note ∷ later) w q =
    let rest = Told (notes_told weight later (told_one weight (sides.Own note) w)) in
    ap (λ b. cond b (note ∷ rest) rest) q.0 ∙ silent_none weight later (told_one weight (sides.Own note) w) q.1
silent_none weight (_ ∷ later) w q = absurd q

one_more : (before : List Side) (note : Note) → Silent before → is_told_note note ≡ false → Silent (before ++ (sides.Own note ∷ []))
one_more [] note h f = (f, tt)
one_more (sides.Own first ∷ before) note h f = (h.0, one_more before note h.1 f)
one_more (_ ∷ before) note h f = absurd h

drop_silent : (r : Option ℕ × ListState) (o : OutboxState) (s : InitiatorState) → Silent o.sides → Silent (dropped_as r o s).0.sides
drop_silent (None, lists) o s h = h
drop_silent (Some n, lists) o s h = one_more o.sides (notes.Drop s.number n) h refl

sees_silent : (r : Bool × Layer Purpose) (target : ℕ) (s : InitiatorState) → Silent (seen_as r target empty_outbox s).0.sides
sees_silent (false, layer) target s = tt
sees_silent (true, layer) target s =
    let u = record s { layer = layer } in
    let o = resets_told u.number u.operation u.states empty_outbox in
    drop_silent (drop_lists (interrupted u target).lists) o (interrupted u target)
    (resets_keep u.number (λ (x : OutboxState). Silent x.sides) (λ operation x h. one_more x.sides (notes.Op u.number operation words.Reset) h refl) u.operation u.states empty_outbox tt)

pub sight_none : (node weight : ℕ) (w : WorldState) (generation id target : ℕ) (s : InitiatorState) → Told (handed node weight (see_step generation id target empty_outbox s).0 w) ≡ []
unfolding see_step
sight_none node weight w generation id target s =
    let o = (see_step generation id target empty_outbox s).0 in
    kind_handed is_told_note is_told node weight o w ∙ silent_none weight o.sides w (sees_silent (seeing_step s.layer generation id) target s)
