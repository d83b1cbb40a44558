-- What a call of a node hands out, as the notes of its turn in the order of time: those of what it told, then those of its packets. None of them begins a turn.
use Rattle.std.proofs.Common.{◌≡◌, ◌∙◌, refl, sym, ap, ℕ, ◌+◌, false, List, [], ◌∷◌, ◌++◌, Option, Some, None}
use Rattle.sbp_bus.specs.Generations.{node_of, topology_at}
use Rattle.sbp_bus.specs.Telling.{cut_note, dead_note, ended_note, managed_note, ran_note}
use Rattle.sbp_journal.specs.Outgoings.{OutboxState}
use Rattle.sbp_journal.specs.declared.note.Note.{Note}
use Rattle.sbp_journal.specs.declared.note.Note.TheVariants as notes
use Rattle.sbp_journal.specs.declared.outbox.Outgoing.{Outgoing}
use Rattle.sbp_journal.specs.declared.side.Side.{Side}
use Rattle.sbp_journal.specs.declared.side.Side.TheVariants as sides
use Rattle.sbp_world.specs.Handing.{handed_out}
use Rattle.sbp_world.specs.Hosts.Handing.{AreOthers, IsOther}
use Rattle.sbp_world.specs.Sending.{posted, sent, sent_all, sent_to}
use Rattle.sbp_world.specs.Telling.{holder, initiator_of, ticket_at, told, told_all}
use Rattle.sbp_world.specs.Worlds.{WorldState}
use Rattle.sbp_world.proofs.Formed.{AreOwn, IsNoRun}
use Rattle.sbp_world.proofs.Wire.Gains.{asked_fresh}

-- ---- notes in the order of time, put behind those that there are, of which the latest stands first
abbrev pub onto : List Note → List Note → List Note
onto [] old = old
onto (note ∷ rest) old = onto rest (note ∷ old)

pub onto_both : (a b old : List Note) → onto (a ++ b) old ≡ onto b (onto a old)
onto_both [] b old = refl
onto_both (note ∷ a) b old = onto_both a b (note ∷ old)

-- ---- the notes of what a node tells
abbrev pub note_of : Side → WorldState → List Note
note_of (sides.Own note) w = note ∷ []
note_of (sides.Opened place orb) w = []
note_of (sides.Ran place orb cdb payload outcome) w = ran_note (holder w place) (ticket_at w place orb) cdb payload outcome ∷ []
note_of (sides.Ended place orb status) w = ended_note (holder w place) (ticket_at w place orb) status ∷ []
note_of (sides.Dead place cause) w = dead_note (holder w place) cause ∷ []
note_of (sides.Cut place cause) w = cut_note (holder w place) cause ∷ []
note_of (sides.Managed node function subject status login) w = managed_note (initiator_of w node) function subject status login ∷ []
note_of (sides.ManageFailed node cause) w = notes.ManageFailed (initiator_of w node) cause ∷ []
note_of (sides.Held login) w = notes.Held login ∷ []
note_of (sides.Expired login) w = notes.Expired login ∷ []
note_of (sides.Back login) w = notes.Back login ∷ []
note_of (sides.Left login) w = notes.Left login ∷ []
note_of (sides.Cleared unit) w = notes.Cleared unit ∷ []
note_of (sides.Unsolicited place) w = notes.Unsolicited (holder w place).initiator ∷ []
note_of (sides.Unsent place) w = notes.Unsent (holder w place).initiator ∷ []

abbrev pub notes_told : (weight : ℕ) → List Side → WorldState → List Note
notes_told weight [] w = []
notes_told weight (side ∷ later) w = note_of side w ++ notes_told weight later (told weight side w)

one_fresh : (weight : ℕ) (side : Side) (w : WorldState) → (told weight side w).fresh ≡ onto (note_of side w) w.fresh
unfolding told
one_fresh weight (sides.Own note) w = refl
one_fresh weight (sides.Opened place orb) w = refl
one_fresh weight (sides.Ran place orb cdb payload outcome) w = refl
one_fresh weight (sides.Ended place orb status) w = refl
one_fresh weight (sides.Dead place cause) w = refl
one_fresh weight (sides.Cut place cause) w = refl
one_fresh weight (sides.Managed node function subject status login) w = refl
one_fresh weight (sides.ManageFailed node cause) w = refl
one_fresh weight (sides.Held login) w = refl
one_fresh weight (sides.Expired login) w = refl
one_fresh weight (sides.Back login) w = refl
one_fresh weight (sides.Left login) w = refl
one_fresh weight (sides.Cleared unit) w = refl
one_fresh weight (sides.Unsolicited place) w = refl
one_fresh weight (sides.Unsent place) w = refl

told_fresh : (weight : ℕ) (later : List Side) (w : WorldState) → (told_all weight later w).fresh ≡ onto (notes_told weight later w) w.fresh
unfolding told_all
told_fresh weight [] w = refl
told_fresh weight (side ∷ later) w =
    told_fresh weight later (told weight side w)
    ∙ ap (onto (notes_told weight later (told weight side w))) (one_fresh weight side w)
    ∙ sym (onto_both (note_of side w) (notes_told weight later (told weight side w)) w.fresh)

-- ---- the notes of its packets: one for each that goes to a node
abbrev pub packet_note : Option ℕ → (from : ℕ) → Outgoing → WorldState → List Note
packet_note None from packet w = []
packet_note (Some to) from packet w = notes.Sent (w.store.last + 1) (topology_at w.generations from).generation from to packet.bytes ∷ []

abbrev pub notes_sent : (from : ℕ) → List Outgoing → WorldState → List Note
notes_sent from [] w = []
notes_sent from (packet ∷ later) w = packet_note (node_of w.generations from packet.to) from packet w ++ notes_sent from later (sent from packet w)

posted_fresh : (from to : ℕ) (bytes : List ℕ) (w : WorldState) → (posted from to false bytes w).fresh ≡ notes.Sent (w.store.last + 1) (topology_at w.generations from).generation from to bytes ∷ w.fresh
unfolding posted
posted_fresh from to bytes w = refl

to_fresh : (to : Option ℕ) (from : ℕ) (packet : Outgoing) (w : WorldState) → (sent_to to from packet w).fresh ≡ onto (packet_note to from packet w) w.fresh
to_fresh None from packet w = refl
to_fresh (Some to) from packet w =
    asked_fresh (w.store.last + 1) to from packet.to packet.label (posted from to false packet.bytes w) ∙ posted_fresh from to packet.bytes w

one_sent : (from : ℕ) (packet : Outgoing) (w : WorldState) → (sent from packet w).fresh ≡ onto (packet_note (node_of w.generations from packet.to) from packet w) w.fresh
unfolding sent
one_sent from packet w = to_fresh (node_of w.generations from packet.to) from packet w

sent_fresh : (from : ℕ) (packets : List Outgoing) (w : WorldState) → (sent_all from packets w).fresh ≡ onto (notes_sent from packets w) w.fresh
unfolding sent_all
sent_fresh from [] w = refl
sent_fresh from (packet ∷ later) w =
    let v = sent from packet w in
    sent_fresh from later v ∙ ap (onto (notes_sent from later v)) (one_sent from packet w)
    ∙ sym (onto_both (packet_note (node_of w.generations from packet.to) from packet w) (notes_sent from later v) w.fresh)

-- ---- all of it
abbrev pub handed : (node weight : ℕ) → OutboxState → WorldState → List Note
handed node weight outbox w = notes_told weight outbox.sides w ++ notes_sent node outbox.packets (told_all weight outbox.sides w)

pub handed_fresh : (node weight : ℕ) (outbox : OutboxState) (w : WorldState) → (handed_out node weight outbox w).fresh ≡ onto (handed node weight outbox w) w.fresh
handed_fresh node weight outbox w =
    let v = told_all weight outbox.sides w in
    sent_fresh node outbox.packets v ∙ ap (onto (notes_sent node outbox.packets v)) (told_fresh weight outbox.sides w)
    ∙ sym (onto_both (notes_told weight outbox.sides w) (notes_sent node outbox.packets v) w.fresh)

-- ---- none of these notes begins a turn
abbrev pub IsInner : Note → Type 0
IsInner (notes.Got serial) = ⊥
IsInner (notes.Ignored serial cause) = ⊥
IsInner (notes.TimedOut serial) = ⊥
IsInner (notes.Seen node generation) = ⊥
IsInner notes.Tick = ⊥
IsInner notes.Settled = ⊥
IsInner notes.Stopped = ⊥
IsInner note = Unit {0}

abbrev pub AllInner : List Note → Type 0
AllInner [] = Unit {0}
AllInner (note ∷ rest) = IsInner note × AllInner rest

both_inner : (a b : List Note) → AllInner a → AllInner b → AllInner (a ++ b)
both_inner [] b p q = q
both_inner (note ∷ a) b p q = (p.0, both_inner a b p.1 q)

-- what a node tells: an initiator no such note
abbrev pub IsInnerSide : Side → Type 0
IsInnerSide (sides.Own note) = IsInner note
IsInnerSide side = Unit {0}

abbrev pub AreInner : List Side → Type 0
AreInner [] = Unit {0}
AreInner (side ∷ later) = IsInnerSide side × AreInner later

one_inner : (side : Side) (w : WorldState) → IsInnerSide side → AllInner (note_of side w)
one_inner (sides.Own note) w q = (q, tt)
one_inner (sides.Opened place orb) w q = tt
one_inner (sides.Ran place orb cdb payload outcome) w q = (tt, tt)
one_inner (sides.Ended place orb status) w q = (tt, tt)
one_inner (sides.Dead place cause) w q = (tt, tt)
one_inner (sides.Cut place cause) w q = (tt, tt)
one_inner (sides.Managed node function subject status login) w q = (tt, tt)
one_inner (sides.ManageFailed node cause) w q = (tt, tt)
one_inner (sides.Held login) w q = (tt, tt)
one_inner (sides.Expired login) w q = (tt, tt)
one_inner (sides.Back login) w q = (tt, tt)
one_inner (sides.Left login) w q = (tt, tt)
one_inner (sides.Cleared unit) w q = (tt, tt)
one_inner (sides.Unsolicited place) w q = (tt, tt)
one_inner (sides.Unsent place) w q = (tt, tt)

told_inner : (weight : ℕ) (later : List Side) (w : WorldState) → AreInner later → AllInner (notes_told weight later w)
told_inner weight [] w q = tt
told_inner weight (side ∷ later) w q =
    let v = told weight side w in both_inner (note_of side w) (notes_told weight later v) (one_inner side w q.0) (told_inner weight later v q.1)

packet_inner : (to : Option ℕ) (from : ℕ) (packet : Outgoing) (w : WorldState) → AllInner (packet_note to from packet w)
packet_inner None from packet w = tt
packet_inner (Some to) from packet w = (tt, tt)

sent_inner : (from : ℕ) (packets : List Outgoing) (w : WorldState) → AllInner (notes_sent from packets w)
sent_inner from [] w = tt
sent_inner from (packet ∷ later) w =
    let v = sent from packet w in
    let to = node_of w.generations from packet.to in both_inner (packet_note to from packet w) (notes_sent from later v) (packet_inner to from packet w) (sent_inner from later v)

pub handed_inner : (node weight : ℕ) (outbox : OutboxState) (w : WorldState) → AreInner outbox.sides → AllInner (handed node weight outbox w)
handed_inner node weight outbox w q =
    let v = told_all weight outbox.sides w in both_inner (notes_told weight outbox.sides w) (notes_sent node outbox.packets v) (told_inner weight outbox.sides w q) (sent_inner node outbox.packets v)

-- of the target, and of an initiator
other_inner : (side : Side) → IsOther side → IsInnerSide side
other_inner (sides.Own note) o = absurd o
other_inner (sides.Opened place orb) o = tt
other_inner (sides.Ran place orb cdb payload outcome) o = tt
other_inner (sides.Ended place orb status) o = tt
other_inner (sides.Dead place cause) o = tt
other_inner (sides.Cut place cause) o = tt
other_inner (sides.Managed node function subject status login) o = tt
other_inner (sides.ManageFailed node cause) o = tt
other_inner (sides.Held login) o = tt
other_inner (sides.Expired login) o = tt
other_inner (sides.Back login) o = tt
other_inner (sides.Left login) o = tt
other_inner (sides.Cleared unit) o = tt
other_inner (sides.Unsolicited place) o = tt
other_inner (sides.Unsent place) o = tt

pub others_inner : (told_sides : List Side) → AreOthers told_sides → AreInner told_sides
others_inner [] o = tt
others_inner (side ∷ later) o = (other_inner side o.0, others_inner later o.1)

own_note : (note : Note) → IsNoRun note → IsInner note
own_note (notes.Got serial) h = absurd h
own_note (notes.Ignored serial cause) h = absurd h
own_note (notes.TimedOut serial) h = absurd h
own_note (notes.Seen node generation) h = absurd h
own_note notes.Tick h = absurd h
own_note notes.Settled h = absurd h
own_note notes.Stopped h = absurd h
own_note note h = tt

pub own_inner : (told_sides : List Side) → AreOwn told_sides → AreInner told_sides
own_inner [] h = tt
own_inner (sides.Own note ∷ later) h = (own_note note h.0.1, own_inner later h.1)
own_inner (side ∷ later) h = absurd h.0
