-- What a turn tells that is none of the target: no packet of the target is sent, the target gets none, and the initiator sees no other generation.
use Rattle.sbp_world.proofs.Words.Std.{◌≡◌, ◌∙◌, refl, ap, subst, ℕ, zero, suc, ◌+◌, Bool, true, false, List, [], ◌∷◌, ◌++◌, Option, Some, None}
use Rattle.sbp_world.proofs.Words.Wire.{LabelParts, Kept, Sent, found_sent, node_of, topology_at, judged_note, OutboxState, Judged, Note, Outgoing, Side}
use Rattle.sbp_world.proofs.Words.World.{handed_out, asked_for, posted, sends, sent_all, sent_to, told, told_all, WorldState, with_note, AreOthers, IsOther, AllOf}
use Rattle.sbp_journal.specs.declared.cause.Judged.TheVariants as judgements
use Rattle.sbp_journal.specs.declared.note.Note.TheVariants as notes
use Rattle.sbp_journal.specs.declared.side.Side.TheVariants as sides
use Rattle.sbp_world.proofs.Hosts.Layered.{AreTame, is_tame}

-- a packet for an initiator
pub record IsOwnPacket (kept : List Kept) (serial : ℕ) : Type 0 where
  pub sent : Sent
  pub found : found_sent serial kept ≡ Some sent
  pub j : ℕ
  pub to_is : sent.to ≡ suc j

-- a note of such a turn, by the generation of the initiator and the packets that there were
abbrev pub IsAway : (i own : ℕ) → List Kept → Note → Type 0
IsAway i own kept (notes.Begin initiators ready) = ⊥
IsAway i own kept (notes.Sent serial generation from to bytes) = from ≡ 0 → ⊥
IsAway i own kept (notes.Got serial) = IsOwnPacket kept serial
IsAway i own kept (notes.Seen node generation) = (node ≡ 0 → ⊥) × (node ≡ suc i → generation ≡ own)
IsAway i own kept _ = Unit {0}

abbrev pub AllAway : (i own : ℕ) → List Kept → List Note → Type 0
AllAway i own kept [] = Unit {0}
AllAway i own kept (note ∷ ns) = IsAway i own kept note × AllAway i own kept ns

-- what was told behind the notes that there were
pub record AwayFrom (i own : ℕ) (kept : List Kept) (base fresh : List Note) : Type 0 where
  pub more : List Note
  pub is : fresh ≡ more ++ base
  pub away : AllAway i own kept more

-- in a turn of a world
abbrev pub TellsAway : ℕ → WorldState → List Note → WorldState → Type 0
TellsAway i w base v = AwayFrom i (topology_at w.generations (suc i)).generation w.store.kept base v.fresh

-- where an initiator got a packet: the first note says how it was judged
pub record HeardFirst (serial : ℕ) (judged : Judged) (base fresh : List Note) : Type 0 where
  pub more : List Note
  pub is : fresh ≡ more ++ judged_note serial judged ∷ base

tame_away : (i own : ℕ) (w : List Kept) (note : Note) → is_tame note ≡ true → IsAway i own w note
tame_away i own w (notes.Begin initiators ready) e = absurd (let no : false ≡ true = e in cc)
tame_away i own w (notes.Sent serial generation from to bytes) e = absurd (let no : false ≡ true = e in cc)
tame_away i own w (notes.Got serial) e = absurd (let no : false ≡ true = e in cc)
tame_away i own w (notes.Seen node generation) e = absurd (let no : false ≡ true = e in cc)
tame_away i own w note e = tt

module _ (i own : ℕ) (w : List Kept) (base : List Note) where
  abbrev B : WorldState → Type 0
  B u = AwayFrom i own w base u.fresh

  pub none_told : AwayFrom i own w base base
  none_told = record { more = []; is = refl; away = tt }

  pub one_told : (note : Note) (u : WorldState) → IsAway i own w note → B u → B (with_note note u)
  one_told note u a h = record { more = note ∷ h.more; is = ap (λ (ns : List Note). note ∷ ns) h.is; away = (a, h.away) }

  all_told : (weight : ℕ) (told : List Side) (u : WorldState) → AreTame told → B u → B (told_all weight told u)
  unfolding told_all told
  all_told weight [] u t h = h
  all_told weight (sides.Own note ∷ later) u t h = all_told weight later (told weight (sides.Own note) u) t.1 (record { more = note ∷ h.more; is = ap (λ (ns : List Note). note ∷ ns) h.is; away = (tame_away i own w note t.0, h.away) })
  all_told weight (_ ∷ later) u t h = absurd t.0

  waits_told : (serial to node peer : ℕ) (label : Option LabelParts) (u : WorldState) → B u → B (asked_for serial to node peer label u)
  waits_told serial to node peer None u h = h
  waits_told serial to node peer (Some label) u h = h

  pub posted_told : (from to : ℕ) (injected : Bool) (bytes : List ℕ) (u : WorldState) → (from ≡ 0 → ⊥) → B u → B (posted from to injected bytes u)
  unfolding posted
  posted_told from to true bytes u f h =
      let note = notes.Sent (u.store.last + 1) (topology_at u.generations from).generation from to bytes in
      let first = notes.Injected (u.store.last + 1) in
      record { more = note ∷ first ∷ h.more; is = ap (λ (ns : List Note). note ∷ first ∷ ns) h.is; away = (f, (tt, h.away)) }
  posted_told from to false bytes u f h =
      let note = notes.Sent (u.store.last + 1) (topology_at u.generations from).generation from to bytes in
      record { more = note ∷ h.more; is = ap (λ (ns : List Note). note ∷ ns) h.is; away = (f, h.away) }

  leaves_told : (to : Option ℕ) (from : ℕ) (packet : Outgoing) (u : WorldState) → (from ≡ 0 → ⊥) → B u → B (sent_to to from packet u)
  leaves_told None from packet u f h = h
  leaves_told (Some to) from packet u f h = waits_told (u.store.last + 1) to from packet.to packet.label (posted from to false packet.bytes u) (posted_told from to false packet.bytes u f h)

  all_leave : (from : ℕ) (packets : List Outgoing) (u : WorldState) → (from ≡ 0 → ⊥) → B u → B (sent_all from packets u)
  unfolding sent_all sends
  all_leave from [] u f h = h
  all_leave from (packet ∷ later) u f h = all_leave from later (sends from packet u) f (leaves_told (node_of u.generations from packet.to) from packet u f h)

  pub hands_told : (node weight : ℕ) (outbox : OutboxState) (u : WorldState) → (node ≡ 0 → ⊥) → AreTame outbox.sides → B u → B (handed_out node weight outbox u)
  hands_told node weight outbox u f t h = all_leave node outbox.packets (told_all weight outbox.sides u) f (all_told weight outbox.sides u t h)

-- ---- what is told behind the first note of a delivery
module _ (serial : ℕ) (judged : Judged) (base : List Note) where
  abbrev H : WorldState → Type 0
  H u = HeardFirst serial judged base u.fresh

  heard_told : (weight : ℕ) (told : List Side) (u : WorldState) → AreTame told → H u → H (told_all weight told u)
  unfolding told_all told
  heard_told weight [] u t h = h
  heard_told weight (sides.Own note ∷ later) u t h = heard_told weight later (told weight (sides.Own note) u) t.1 (record { more = note ∷ h.more; is = ap (λ (ns : List Note). note ∷ ns) h.is })
  heard_told weight (_ ∷ later) u t h = absurd t.0

  heard_waits : (number to node peer : ℕ) (label : Option LabelParts) (u : WorldState) → H u → H (asked_for number to node peer label u)
  heard_waits number to node peer None u h = h
  heard_waits number to node peer (Some label) u h = h

  heard_posted : (from to : ℕ) (bytes : List ℕ) (u : WorldState) → H u → H (posted from to false bytes u)
  unfolding posted
  heard_posted from to bytes u h =
      let note = notes.Sent (u.store.last + 1) (topology_at u.generations from).generation from to bytes in
      record { more = note ∷ h.more; is = ap (λ (ns : List Note). note ∷ ns) h.is }

  heard_leaves : (to : Option ℕ) (from : ℕ) (packet : Outgoing) (u : WorldState) → H u → H (sent_to to from packet u)
  heard_leaves None from packet u h = h
  heard_leaves (Some to) from packet u h = heard_waits (u.store.last + 1) to from packet.to packet.label (posted from to false packet.bytes u) (heard_posted from to packet.bytes u h)

  heard_all : (from : ℕ) (packets : List Outgoing) (u : WorldState) → H u → H (sent_all from packets u)
  unfolding sent_all sends
  heard_all from [] u h = h
  heard_all from (packet ∷ later) u h = heard_all from later (sends from packet u) (heard_leaves (node_of u.generations from packet.to) from packet u h)

  pub hands_heard : (node weight : ℕ) (outbox : OutboxState) (u : WorldState) → AreTame outbox.sides → H u → H (handed_out node weight outbox u)
  hands_heard node weight outbox u t h = heard_all node outbox.packets (told_all weight outbox.sides u) (heard_told weight outbox.sides u t h)

  pub first_heard : (u : WorldState) → u.fresh ≡ base → H (with_note (judged_note serial judged) u)
  first_heard u e = record { more = []; is = ap (λ (ns : List Note). judged_note serial judged ∷ ns) e }

-- the note of a judgement is away where the packet is for an initiator
pub judged_away : (i own : ℕ) (w : List Kept) (serial : ℕ) (judged : Judged) → IsOwnPacket w serial → IsAway i own w (judged_note serial judged)
judged_away i own w serial judgements.Got p = p
judged_away i own w serial (judgements.Ignored cause) p = tt

-- ---- a turn of the target: the first note, if there is one, what it tells, and the packets that it sends
abbrev pub is_first : Note → Bool
is_first (notes.Got serial) = true
is_first (notes.Ignored serial cause) = true
is_first (notes.TimedOut serial) = true
is_first (notes.Seen zero generation) = true
is_first notes.Tick = true
is_first (notes.Key unit) = true
is_first _ = false

abbrev pub is_behind : Note → Bool
is_behind (notes.Begin initiators ready) = false
is_behind (notes.Sent serial generation from to bytes) = false
is_behind (notes.Got serial) = false
is_behind (notes.Ignored serial cause) = false
is_behind (notes.TimedOut serial) = false
is_behind (notes.Seen node generation) = false
is_behind notes.Tick = false
is_behind _ = true

abbrev pub is_own_packet : Note → Bool
is_own_packet (notes.Sent serial generation zero to bytes) = true
is_own_packet _ = false

abbrev pub IsFirst : List Note → Type 0
IsFirst [] = ⊥
IsFirst (note ∷ []) = is_first note ≡ true
IsFirst (note ∷ other ∷ ns) = ⊥

-- the first note of a call but that by which a key is set
abbrev pub is_opening : Note → Bool
is_opening (notes.Got serial) = true
is_opening (notes.Ignored serial cause) = true
is_opening (notes.TimedOut serial) = true
is_opening (notes.Seen zero generation) = true
is_opening notes.Tick = true
is_opening _ = false

abbrev pub IsOpening : List Note → Type 0
IsOpening [] = ⊥
IsOpening (note ∷ []) = is_opening note ≡ true
IsOpening (note ∷ other ∷ ns) = ⊥

opening_one : (note : Note) → is_opening note ≡ true → is_first note ≡ true
opening_one (notes.Got serial) e = refl
opening_one (notes.Ignored serial cause) e = refl
opening_one (notes.TimedOut serial) e = refl
opening_one (notes.Seen zero generation) e = refl
opening_one (notes.Seen (suc node) generation) e = absurd (let no : false ≡ true = e in cc)
opening_one notes.Tick e = refl
opening_one _ e = absurd (let no : false ≡ true = e in cc)

pub opening_first : (ns : List Note) → IsOpening ns → IsFirst ns
opening_first [] o = absurd o
opening_first (note ∷ []) o = opening_one note o
opening_first (note ∷ other ∷ ns) o = absurd o

pub record TargetTold (base fresh : List Note) : Type 0 where
  pub sends : List Note
  pub told : List Note
  pub first : List Note
  pub is : fresh ≡ sends ++ (told ++ (first ++ base))
  pub are_sent : AllOf is_own_packet sends
  pub are_told : AllOf is_behind told
  pub one : IsFirst first
  -- a key is set alone
  pub keyed : (unit : ℕ) → first ≡ notes.Key unit ∷ [] → sends ≡ []

-- before its packets leave
pub record Tells (first base : List Note) (u : WorldState) : Type 0 where
  told : List Note
  is : u.fresh ≡ told ++ (first ++ base)
  are : AllOf is_behind told

-- and as they do
pub record Leaves (told first base : List Note) (u : WorldState) : Type 0 where
  sends : List Note
  is : u.fresh ≡ sends ++ (told ++ (first ++ base))
  are : AllOf is_own_packet sends

module _ (first base : List Note) where
  abbrev T : WorldState → Type 0
  T u = Tells first base u

  tells_one : (note : Note) (u : WorldState) → is_behind note ≡ true → T u → T (with_note note u)
  tells_one note u e h = record { told = note ∷ h.told; is = ap (λ (ns : List Note). note ∷ ns) h.is; are = (e, h.are) }

  -- the places and the loads are no matter
  as_it : (u v : WorldState) → v.fresh ≡ u.fresh → T u → T v
  as_it u v e h = record { told = h.told; is = e ∙ h.is; are = h.are }

  tells_side : (weight : ℕ) (side : Side) (u : WorldState) → IsOther side → T u → T (told weight side u)
  unfolding told
  tells_side weight (sides.Own note) u f h = absurd f
  tells_side weight (sides.Opened place orb) u f h = as_it u _ refl h
  tells_side weight (sides.Ran place orb cdb payload outcome) u f h = tells_one _ u refl h
  tells_side weight (sides.Ended place orb status) u f h = tells_one _ u refl h
  tells_side weight (sides.Dead place cause) u f h = tells_one _ u refl h
  tells_side weight (sides.Cut place cause) u f h = tells_one _ _ refl (as_it u _ refl h)
  tells_side weight (sides.Managed node function subject status login) u f h = tells_one _ _ refl (as_it u _ refl h)
  tells_side weight (sides.ManageFailed node cause) u f h = tells_one _ u refl h
  tells_side weight (sides.Held login) u f h = tells_one _ u refl h
  tells_side weight (sides.Expired login) u f h = tells_one _ _ refl (as_it u _ refl h)
  tells_side weight (sides.Back login) u f h = tells_one _ u refl h
  tells_side weight (sides.Left login) u f h = tells_one _ _ refl (as_it u _ refl h)
  tells_side weight (sides.Cleared unit) u f h = tells_one _ u refl h
  tells_side weight (sides.Unsolicited place) u f h = tells_one _ u refl h
  tells_side weight (sides.Unsent place) u f h = tells_one _ u refl h

  pub tells_all : (weight : ℕ) (told : List Side) (u : WorldState) → AreOthers told → T u → T (told_all weight told u)
  unfolding told_all
  tells_all weight [] u f h = h
  tells_all weight (side ∷ later) u f h = tells_all weight later (told weight side u) f.1 (tells_side weight side u f.0 h)

  module _ (told : List Note) where
    abbrev L : WorldState → Type 0
    L u = Leaves told first base u

    leaves_waits : (number to node peer : ℕ) (label : Option LabelParts) (u : WorldState) → L u → L (asked_for number to node peer label u)
    leaves_waits number to node peer None u h = h
    leaves_waits number to node peer (Some label) u h = record { sends = h.sends; is = h.is; are = h.are }

    leaves_posted : (to : ℕ) (bytes : List ℕ) (u : WorldState) → L u → L (posted 0 to false bytes u)
    unfolding posted
    leaves_posted to bytes u h =
        let note = notes.Sent (u.store.last + 1) (topology_at u.generations 0).generation 0 to bytes in
        record { sends = note ∷ h.sends; is = ap (λ (ns : List Note). note ∷ ns) h.is; are = (refl, h.are) }

    leaves_to : (to : Option ℕ) (packet : Outgoing) (u : WorldState) → L u → L (sent_to to 0 packet u)
    leaves_to None packet u h = h
    leaves_to (Some to) packet u h = leaves_waits (u.store.last + 1) to 0 packet.to packet.label (posted 0 to false packet.bytes u) (leaves_posted to packet.bytes u h)

    pub leaves_all : (packets : List Outgoing) (u : WorldState) → L u → L (sent_all 0 packets u)
    unfolding sent_all sends
    leaves_all [] u h = h
    leaves_all (packet ∷ later) u h = leaves_all later (sends 0 packet u) (leaves_to (node_of u.generations 0 packet.to) packet u h)

  -- what is handed out in a call of the target
  abbrev pub handed_told : (weight : ℕ) (outbox : OutboxState) (u : WorldState) → AreOthers outbox.sides → IsOpening first → u.fresh ≡ first ++ base → TargetTold base (handed_out 0 weight outbox u).fresh
  handed_told weight outbox u f one e =
      let t = tells_all weight outbox.sides u f (record { told = []; is = e; are = tt }) in
      let l = leaves_all t.told outbox.packets (told_all weight outbox.sides u) (record { sends = []; is = t.is; are = tt }) in
      record { sends = l.sends; told = t.told; first = first; is = l.is; are_sent = l.are; are_told = t.are; one = opening_first first one; keyed = λ unit e. absurd (let no : false ≡ true = subst IsOpening e one in cc) }

-- a first note alone, or none
pub told_first : (note : Note) (base : List Note) → is_first note ≡ true → TargetTold base (note ∷ base)
told_first note base e = record { sends = []; told = []; first = note ∷ []; is = refl; are_sent = tt; are_told = tt; one = e; keyed = λ unit f. refl }

pub judged_first : (serial : ℕ) (judged : Judged) → is_opening (judged_note serial judged) ≡ true
judged_first serial judgements.Got = refl
judged_first serial (judgements.Ignored cause) = refl
