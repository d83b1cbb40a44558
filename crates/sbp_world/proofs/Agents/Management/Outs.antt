-- What a node hands out behind the first note of a turn, in the terms of the management and of the wire.
use Rattle.sbp_world.proofs.Words.Std.{◌≡◌, ◌∙◌, refl, ap, subst, ℕ, ◌+◌, Bool, true, false, cond, List, [], ◌∷◌, Option, Some, None}
use Rattle.sbp_world.proofs.Words.Wire.{LabelParts, AreSent, Asked, Body, Moment, Kind, Part, part_of, request, response, terms, Outgoing, Side, OutboxState, node_of}
use Rattle.sbp_world.proofs.Words.Target.{Disk, request_packet}
use Rattle.sbp_world.proofs.Words.Initiator.{Nothing}
use Rattle.sbp_world.proofs.Words.Laws.{access_in_bytes, Target, is_write_access, known_at, sent_as, sent_for, taken_on, wants}
use Rattle.sbp_world.proofs.Words.World.{handed_out, asked, posted, sent, sent_all, sent_to, told, told_all, WorldState, Office, office_of}
use Rattle.sbp_journal.specs.declared.note.Note.TheVariants as notes
use Rattle.sbp_journal.specs.declared.side.Side.TheVariants as sides
use Rattle.sbp_world.proofs.Agents.Management.Calm.{AreQuiet}
use Rattle.sbp_world.proofs.Agents.Management.Idle.{IsIdle, note_idle, none_wants}
use Rattle.sbp_world.proofs.Agents.Management.Managing.{Says, quiet_says}
use Rattle.sbp_world.proofs.Formed.{AreOwn}
use Rattle.sbp_world.proofs.Agents.Management.Owned.{leaves_all}
use Rattle.sbp_world.proofs.Agents.Management.Requests.{IsRequestFor, kind_for, writes_body}
use Rattle.sbp_world.proofs.Agents.Management.Sides.{AllBehind, TellsBehind}
use Rattle.sbp_world.proofs.Agents.Management.Still.{Still, all_before, hist}
use Rattle.sbp_world.proofs.Agents.Management.Told.{all_sides, office_in, one_note, sends_all, term_in}

-- ---- what a target tells says nothing of the wire

one_terms : (past : List Moment) (weight : ℕ) (side : Side) (w : WorldState) → TellsBehind side → terms (hist past (told weight side w)) ≡ terms (hist past w)
unfolding told
one_terms past weight (sides.Own note) w h = absurd h
one_terms past weight (sides.Opened place orb) w h = refl
one_terms past weight (sides.Ran place orb cdb payload outcome) w h = refl
one_terms past weight (sides.Ended place orb status) w h = refl
one_terms past weight (sides.Dead place cause) w h = refl
one_terms past weight (sides.Cut place cause) w h = refl
one_terms past weight (sides.Managed node function subject status login) w h = refl
one_terms past weight (sides.ManageFailed node cause) w h = refl
one_terms past weight (sides.Held login) w h = refl
one_terms past weight (sides.Expired login) w h = refl
one_terms past weight (sides.Back login) w h = refl
one_terms past weight (sides.Left login) w h = refl
one_terms past weight (sides.Cleared unit) w h = refl
one_terms past weight (sides.Unsolicited place) w h = refl
one_terms past weight (sides.Unsent place) w h = refl

pub told_terms : (past : List Moment) (weight : ℕ) (later : List Side) (w : WorldState) → AllBehind later → terms (hist past (told_all weight later w)) ≡ terms (hist past w)
unfolding told_all
told_terms past weight [] w h = refl
told_terms past weight (side ∷ later) w h = told_terms past weight later (told weight side w) h.1 ∙ one_terms past weight side w h.0

-- ---- a turn in which the management asks for nothing

pub record Out (start : List Disk) (past : List Moment) (first last : WorldState) (now : Office) : Type 0 where
  pub office : office_in start past last ≡ now
  pub still : Still (terms (hist past first)) (terms (hist past last))

module _ (start : List Disk) (past : List Moment) where
  pub says_out : (node weight : ℕ) (outbox : OutboxState) (w : WorldState) (now : Office) → Says (office_in start past w) now outbox.sides → now.asks ≡ Nothing → AreSent (hist past (handed_out node weight outbox w)) → Out start past w (handed_out node weight outbox w) now
  says_out node weight outbox w now s e a =
      let v = told_all weight outbox.sides w in
      let told = all_sides start past weight outbox.sides w s.behind ∙ s.is in
      let same = told_terms past weight outbox.sides w s.behind in
      let b = all_before past node outbox.packets v a in
      record {
        office = sends_all start past node outbox.packets v (ap (λ (o : Office). o.asks) told ∙ e) ∙ told;
        still = subst (λ t. Still t (terms (hist past (sent_all node outbox.packets v)))) same b.1;
      }

  pub quiet_out : (node weight : ℕ) (outbox : OutboxState) (w : WorldState) → AreQuiet outbox.sides → (office_in start past w).asks ≡ Nothing → AreSent (hist past (handed_out node weight outbox w)) → Out start past w (handed_out node weight outbox w) (office_in start past w)
  quiet_out node weight outbox w q e a = says_out node weight outbox w (office_in start past w) (quiet_says outbox.sides (office_in start past w) q) e a

  -- an initiator
  own_tells : (later : List Side) (weight : ℕ) (w : WorldState) → AreOwn later → (office_in start past (told_all weight later w) ≡ office_in start past w) × (terms (hist past (told_all weight later w)) ≡ terms (hist past w))
  unfolding told_all told
  own_tells [] weight w h = (refl, refl)
  own_tells (sides.Own note ∷ later) weight w h =
      let l = leaves_all note h.0.1 in
      let v = told weight (sides.Own note) w in
      let rest = own_tells later weight v h.1 in
      (rest.0 ∙ one_note start past note w l.behind ∙ l.office (office_in start past w), rest.1 ∙ l.wire (terms (hist past w)))
  own_tells (sides.Opened place orb ∷ later) weight w h = absurd h.0
  own_tells (sides.Ran place orb cdb payload outcome ∷ later) weight w h = absurd h.0
  own_tells (sides.Ended place orb status ∷ later) weight w h = absurd h.0
  own_tells (sides.Dead place cause ∷ later) weight w h = absurd h.0
  own_tells (sides.Cut place cause ∷ later) weight w h = absurd h.0
  own_tells (sides.Managed node function subject status login ∷ later) weight w h = absurd h.0
  own_tells (sides.ManageFailed node cause ∷ later) weight w h = absurd h.0
  own_tells (sides.Held login ∷ later) weight w h = absurd h.0
  own_tells (sides.Expired login ∷ later) weight w h = absurd h.0
  own_tells (sides.Back login ∷ later) weight w h = absurd h.0
  own_tells (sides.Left login ∷ later) weight w h = absurd h.0
  own_tells (sides.Cleared unit ∷ later) weight w h = absurd h.0
  own_tells (sides.Unsolicited place ∷ later) weight w h = absurd h.0
  own_tells (sides.Unsent place ∷ later) weight w h = absurd h.0

  pub own_out : (node weight : ℕ) (outbox : OutboxState) (w : WorldState) → AreOwn outbox.sides → (office_in start past w).asks ≡ Nothing → AreSent (hist past (handed_out node weight outbox w)) → Out start past w (handed_out node weight outbox w) (office_in start past w)
  own_out node weight outbox w h e a =
      let v = told_all weight outbox.sides w in
      let t = own_tells outbox.sides weight w h in
      let b = all_before past node outbox.packets v a in
      record {
        office = sends_all start past node outbox.packets v (ap (λ (o : Office). o.asks) t.0 ∙ e) ∙ t.0;
        still = subst (λ x. Still x (terms (hist past (sent_all node outbox.packets v)))) t.1 b.1;
      }

-- ---- a turn of the management: its agents are idle, and its request is taken for it

side_idle : (start : List Disk) (past : List Moment) (weight : ℕ) (side : Side) (w : WorldState) → TellsBehind side → IsIdle (term_in start past w) → IsIdle (term_in start past (told weight side w))
unfolding told
side_idle start past weight (sides.Own note) w h i = absurd h
side_idle start past weight (sides.Opened place orb) w h i = i
side_idle start past weight (sides.Ran place orb cdb payload outcome) w h i = note_idle (notes.Ran _ _ _ _ cdb payload _) (hist past w) (known_at start (hist past w)).wire (term_in start past w) tt i
side_idle start past weight (sides.Ended place orb status) w h i = note_idle (notes.Ended _ _ _ status) (hist past w) (known_at start (hist past w)).wire (term_in start past w) tt i
side_idle start past weight (sides.Dead place cause) w h i = note_idle (notes.Dead _ _ cause) (hist past w) (known_at start (hist past w)).wire (term_in start past w) tt i
side_idle start past weight (sides.Cut place cause) w h i = note_idle (notes.Cut _ _ cause) (hist past w) (known_at start (hist past w)).wire (term_in start past w) tt i
side_idle start past weight (sides.Managed node function subject status login) w h i = note_idle (notes.Managed _ _ subject status _) (hist past w) (known_at start (hist past w)).wire (term_in start past w) tt i
side_idle start past weight (sides.ManageFailed node cause) w h i = record { agents = i.agents; reply = i.reply }
side_idle start past weight (sides.Held login) w h i = record { agents = i.agents; reply = i.reply }
side_idle start past weight (sides.Expired login) w h i = record { agents = i.agents; reply = i.reply }
side_idle start past weight (sides.Back login) w h i = record { agents = i.agents; reply = i.reply }
side_idle start past weight (sides.Left login) w h i = record { agents = i.agents; reply = i.reply }
side_idle start past weight (sides.Cleared unit) w h i = record { agents = i.agents; reply = i.reply }
side_idle start past weight (sides.Unsolicited place) w h i = record { agents = i.agents; reply = i.reply }
side_idle start past weight (sides.Unsent place) w h i = note_idle (notes.Unsent _) (hist past w) (known_at start (hist past w)).wire (term_in start past w) tt i

pub sides_idle : (start : List Disk) (past : List Moment) (weight : ℕ) (later : List Side) (w : WorldState) → AllBehind later → IsIdle (term_in start past w) → IsIdle (term_in start past (told_all weight later w))
unfolding told_all
sides_idle start past weight [] w h i = i
sides_idle start past weight (side ∷ later) w h i = sides_idle start past weight later (told weight side w) h.1 (side_idle start past weight side w h.0 i)

abbrev pub requested : ℕ → Office → Office
requested serial o = record o { manages = Some serial; asks = Nothing }

-- the request of the operation, as the terms take it
taken_if : (b wanted : Bool) (serial : ℕ) (t : Target) → wants t.manager_asks b ≡ wanted → wanted ≡ true → office_of (sent_for None b serial t) ≡ requested serial (office_of t)
taken_if b true serial t e f = ap (λ c. office_of (cond c (record t { manages = Some serial; manager_asks = Nothing }) (record t { pushes = serial ∷ t.pushes }))) e
taken_if b false serial t e f = absurd (let no : false ≡ true = f in cc)

taken_part : (part : Part) (number : ℕ) (kind : Kind) (b : Bool) (serial : ℕ) (t : Target) → part ≡ request number kind → IsIdle t → wants t.manager_asks b ≡ true → office_of (sent_as part b serial t) ≡ requested serial (office_of t)
taken_part part number kind b serial t e i w =
    ap (λ p. office_of (sent_as p b serial t)) e
    ∙ ap (λ place. office_of (sent_for place b serial t)) (none_wants b t.agents i.agents)
    ∙ taken_if b true serial t w refl

response_part : (part : Part) (number : ℕ) (kind : Kind) (b : Bool) (serial : ℕ) (t : Target) → part ≡ response number kind → sent_as part b serial t ≡ t
response_part part number kind b serial t e = ap (λ p. sent_as p b serial t) e

module _ (start : List Disk) (past : List Moment) (w : WorldState) (idle : IsIdle (term_in start past w)) where
  settled_same : taken_on None (term_in start past w).reply (term_in start past w) ≡ term_in start past w
  settled_same = ap (λ r. taken_on None r (term_in start past w)) idle.reply

  -- a packet that leaves the target
  abbrev After : List ℕ → Target
  After bytes = sent_as (part_of bytes) (is_write_access (access_in_bytes bytes)) (w.store.last + 1) (term_in start past w)

  posted_term : (to : ℕ) (bytes : List ℕ) → term_in start past (posted 0 to false bytes w) ≡ After bytes
  unfolding posted
  posted_term to bytes = ap (λ t. sent_as (part_of bytes) (is_write_access (access_in_bytes bytes)) (w.store.last + 1) t) settled_same

  asked_term : (serial to node peer : ℕ) (label : Option LabelParts) (v : WorldState) → term_in start past (asked serial to node peer label v) ≡ term_in start past v
  asked_term serial to node peer None v = refl
  asked_term serial to node peer (Some label) v = refl

  -- a response
  pub response_term : (packet : Outgoing) (number : ℕ) (kind : Kind) → part_of packet.bytes ≡ response number kind → term_in start past (sent 0 packet w) ≡ term_in start past w
  unfolding sent
  response_term packet number kind e = to_some (node_of w.generations 0 packet.to)
    where
      to_some : (to : Option ℕ) → term_in start past (sent_to to 0 packet w) ≡ term_in start past w
      to_some None = refl
      to_some (Some to) =
          asked_term (w.store.last + 1) to 0 packet.to packet.label (posted 0 to false packet.bytes w) ∙ posted_term to packet.bytes
          ∙ response_part (part_of packet.bytes) number kind _ (w.store.last + 1) (term_in start past w) e

  -- the request
  module _ (source to : ℕ) (body : Body) (asked_for : Asked) (there : node_of w.generations 0 source ≡ Some to) (is : IsRequestFor asked_for.label.number body asked_for.bytes) where
    sent_is : sent 0 (request_packet source asked_for) w ≡ asked (w.store.last + 1) to 0 source (Some asked_for.label) (posted 0 to false asked_for.bytes w)
    unfolding sent
    sent_is = ap (λ o. sent_to o 0 (request_packet source asked_for) w) there

    pub request_office : wants (office_in start past w).asks (writes_body body) ≡ true → office_in start past (sent 0 (request_packet source asked_for) w) ≡ requested (w.store.last + 1) (office_in start past w)
    request_office wanted =
        ap (λ v. office_in start past v) sent_is
        ∙ ap office_of (asked_term (w.store.last + 1) to 0 source (Some asked_for.label) (posted 0 to false asked_for.bytes w) ∙ posted_term to asked_for.bytes)
        ∙ taken_part (part_of asked_for.bytes) asked_for.label.number (kind_for body) (is_write_access (access_in_bytes asked_for.bytes)) (w.store.last + 1) (term_in start past w) is.part idle
        (ap (λ b. wants (office_in start past w).asks b) is.writes ∙ wanted)
