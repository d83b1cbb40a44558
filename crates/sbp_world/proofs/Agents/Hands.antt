-- What the target hands out, and the agents of the terms.
use Rattle.sbp_world.proofs.Words.Std.{◌≡◌, ◌∙◌, refl, sym, ap, subst, ℕ, ◌+◌, ◌<◌, Bool, false, List, [], ◌∷◌, ◌++◌, length, map, Option, Some, None, position}
use Rattle.sbp_world.proofs.Words.Wire.{LabelParts, is_write, Stored, GenerationsState, ran_note, function_word, login_if, Moment, said, Part, part_of, Terms, terms, Note, Outgoing, Side}
use Rattle.sbp_world.proofs.Words.Target.{Disk}
use Rattle.sbp_world.proofs.Words.Initiator.{FailCause}
use Rattle.sbp_world.proofs.Words.Laws.{access_in_bytes, Agent, Reply, Target, initiator_at, is_own_run, is_write_access, known_at, main_lost, over, plain_for, ran_on, sent_as, sent_for, taken_on, target_at, wants_it}
use Rattle.sbp_world.proofs.Words.World.{asked, posted, sent, sent_all, sent_to, holder, initiator_of, ticket_at, told, told_all, WorldState, with_note, Office, by_side, office_of, changed, answered, crew_over, crew_packet, crew_packets, crew_side, crew_sides, sent_among, AllLeave, AreTold, HandsLaw, IsOfStep, IsPart, IsRunOf, Leaves, MayResume, resumed, IsBehind}
use Rattle.orb_layout.specs.declared.ask.FailCause.TheVariants as causes
use Rattle.sbp_journal.specs.declared.note.Note.TheVariants as notes
use Rattle.sbp_journal.specs.declared.side.Side.TheVariants as sides
use Rattle.sbp_laws.proofs.Going.{going_rests, own_run, run_rests, taken_rests, taken_still}
use Rattle.sbp_world.proofs.Agents.Management.Firsts.{wire_is}
use Rattle.sbp_world.proofs.Agents.Management.Sides.{AllBehind, TellsBehind}
use Rattle.sbp_world.proofs.Agents.Management.Told.{one_side, term_in}
use Rattle.sbp_world.specs.Agents.Notes.{by_note}
use Rattle.sbp_world.proofs.Agents.Notes.{notes_law, sends_for}
use Rattle.sbp_world.proofs.Lists.MainAnswers.{sends_for as sends_reply}

-- what is told is told behind a first note
pub all_told : (told : List Side) → AreTold told → AllBehind told
all_told [] h = tt
all_told (sides.Own note ∷ later) h = absurd h
all_told (sides.Opened place orb ∷ later) h = (tt, all_told later h)
all_told (sides.Ran place orb cdb payload outcome ∷ later) h = (tt, all_told later h)
all_told (sides.Ended place orb status ∷ later) h = (tt, all_told later h)
all_told (sides.Dead place cause ∷ later) h = (tt, all_told later h)
all_told (sides.Cut place cause ∷ later) h = (tt, all_told later h)
all_told (sides.Managed node function subject status login ∷ later) h = (tt, all_told later h)
all_told (sides.ManageFailed node cause ∷ later) h = (tt, all_told later h)
all_told (sides.Held login ∷ later) h = (tt, all_told later h)
all_told (sides.Expired login ∷ later) h = (tt, all_told later h)
all_told (sides.Back login ∷ later) h = (tt, all_told later h)
all_told (sides.Left login ∷ later) h = (tt, all_told later h)
all_told (sides.Cleared unit ∷ later) h = (tt, all_told later h)
all_told (sides.Unsolicited place ∷ later) h = (tt, all_told later h)
all_told (sides.Unsent place ∷ later) h = (tt, all_told later h)

-- the agents are these, and no reply waits
pub record Crew (t : Target) (agents : List Agent) : Type 0 where
  pub are : t.agents ≡ agents
  pub none : t.reply ≡ None

-- with a reply that waits it is taken on
pub taken_agents : (t : Target) (reply : Reply) → t.reply ≡ Some reply → (taken_on None t.reply t).agents ≡ (let plain = plain_for t reply in changed reply.place (λ a. answered None a.untold reply.place plain reply.which reply.answer a) t.agents)
taken_agents t reply e = ap (λ (r : Option Reply). (taken_on None r t).agents) e

-- ---- a world that tells
told_same : (weight : ℕ) (side : Side) (w : WorldState) → TellsBehind side → ((told weight side w).generations ≡ w.generations) × ((told weight side w).store ≡ w.store)
unfolding told
told_same weight (sides.Own note) w h = absurd h
told_same weight (sides.Opened place orb) w h = (refl, refl)
told_same weight (sides.Ran place orb cdb payload outcome) w h = (refl, refl)
told_same weight (sides.Ended place orb status) w h = (refl, refl)
told_same weight (sides.Dead place cause) w h = (refl, refl)
told_same weight (sides.Cut place cause) w h = (refl, refl)
told_same weight (sides.Managed node function subject status login) w h = (refl, refl)
told_same weight (sides.ManageFailed node cause) w h = (refl, refl)
told_same weight (sides.Held login) w h = (refl, refl)
told_same weight (sides.Expired login) w h = (refl, refl)
told_same weight (sides.Back login) w h = (refl, refl)
told_same weight (sides.Left login) w h = (refl, refl)
told_same weight (sides.Cleared unit) w h = (refl, refl)
told_same weight (sides.Unsolicited place) w h = (refl, refl)
told_same weight (sides.Unsent place) w h = (refl, refl)

module _ (start : List Disk) (past : List Moment) where
  -- a note
  note_crew : (note : Note) (w : WorldState) → (term_in start past w).reply ≡ None → IsBehind note → Crew (term_in start past (with_note note w)) (by_note note (office_of (term_in start past w)) (term_in start past w).agents)
  note_crew note w e h =
      let ms = map said w.fresh ++ past in
      let b = notes_law.behind note ms (known_at start ms).wire (term_in start past w) e h in
      record { are = b.0; none = b.1 }

  dead_crew : (i : ℕ) (list : Option ℕ) (cause : FailCause) (place : ℕ) (o : Office) (agents : List Agent) → by_note (notes.Dead i list cause) o agents ≡ crew_side (sides.Dead place cause) o agents
  dead_crew i list causes.Timeout place o agents = refl
  dead_crew i list causes.Label place o agents = refl
  dead_crew i list causes.Refused place o agents = refl
  dead_crew i list causes.Grammar place o agents = refl

  side_crew : (weight : ℕ) (side : Side) (w : WorldState) → TellsBehind side → (term_in start past w).reply ≡ None → Crew (term_in start past (told weight side w)) (crew_side side (office_of (term_in start past w)) (term_in start past w).agents)
  unfolding told
  side_crew weight (sides.Own note) w h e = absurd h
  side_crew weight (sides.Opened place orb) w h e = record { are = refl; none = e }
  side_crew weight (sides.Ran place orb cdb payload outcome) w h e = let c = note_crew (notes.Ran _ _ _ _ cdb payload _) w e tt in record { are = c.are; none = c.none }
  side_crew weight (sides.Ended place orb status) w h e = let c = note_crew (notes.Ended _ _ _ status) w e tt in record { are = c.are; none = c.none }
  side_crew weight (sides.Dead place cause) w h e =
      let c = note_crew (notes.Dead (holder w place).initiator (holder w place).list cause) w e tt in
      record { are = c.are ∙ dead_crew (holder w place).initiator (holder w place).list cause place (office_of (term_in start past w)) (term_in start past w).agents; none = c.none }
  side_crew weight (sides.Cut place cause) w h e = let c = note_crew (notes.Cut _ _ cause) w e tt in record { are = c.are; none = c.none }
  side_crew weight (sides.Managed node function subject status login) w h e =
      let c = note_crew (notes.Managed _ (function_word function) subject status (login_if (function_word function) status login)) w e tt in record { are = c.are; none = c.none }
  side_crew weight (sides.ManageFailed node cause) w h e = let c = note_crew (notes.ManageFailed (initiator_of w node) cause) w e tt in record { are = c.are; none = c.none }
  side_crew weight (sides.Held login) w h e = let c = note_crew (notes.Held login) w e tt in record { are = c.are; none = c.none }
  side_crew weight (sides.Expired login) w h e = let c = note_crew (notes.Expired login) w e tt in record { are = c.are; none = c.none }
  side_crew weight (sides.Back login) w h e = let c = note_crew (notes.Back login) w e tt in record { are = c.are; none = c.none }
  side_crew weight (sides.Left login) w h e = let c = note_crew (notes.Left login) w e tt in record { are = c.are; none = c.none }
  side_crew weight (sides.Cleared unit) w h e = let c = note_crew (notes.Cleared unit) w e tt in record { are = c.are; none = c.none }
  side_crew weight (sides.Unsolicited place) w h e = let c = note_crew (notes.Unsolicited (holder w place).initiator) w e tt in record { are = c.are; none = c.none }
  side_crew weight (sides.Unsent place) w h e = let c = note_crew (notes.Unsent (holder w place).initiator) w e tt in record { are = c.are; none = c.none }

  sides_crew : (weight : ℕ) (later : List Side) (w : WorldState) → AllBehind later → (term_in start past w).reply ≡ None → Crew (term_in start past (told_all weight later w)) (crew_sides later (office_of (term_in start past w)) (term_in start past w).agents)
  unfolding told_all
  sides_crew weight [] w h e = record { are = refl; none = e }
  sides_crew weight (side ∷ later) w h e =
      let v = told weight side w in
      let one = side_crew weight side w h.0 e in
      let rest = sides_crew weight later v h.1 one.none in
      record {
        are =
            rest.are
            ∙ ap (λ o. crew_sides later o (term_in start past v).agents) (one_side start past weight side w h.0)
            ∙ ap (crew_sides later (by_side side (office_of (term_in start past w)))) one.are;
        none = rest.none;
      }

  -- ---- a packet leaves

  part_crew : (label : Option LabelParts) (bytes : List ℕ) (serial : ℕ) (t : Target) → IsPart label bytes → t.reply ≡ None → Crew (sent_as (part_of bytes) (is_write_access (access_in_bytes bytes)) serial t) (crew_packet label (is_write bytes) serial t.agents)
  part_crew None bytes serial t p e =
      let same : sent_as (part_of bytes) (is_write_access (access_in_bytes bytes)) serial t ≡ t = ap (λ (x : Part). sent_as x (is_write_access (access_in_bytes bytes)) serial t) p.is in
      subst (λ (x : Target). Crew x t.agents) (sym same) (record { are = refl; none = e })
  part_crew (Some label) bytes serial t p e =
      let same : sent_as (part_of bytes) (is_write_access (access_in_bytes bytes)) serial t ≡ sent_for (position (wants_it (is_write bytes)) t.agents) (is_write bytes) serial t =
      ap (λ (x : Part). sent_as x (is_write_access (access_in_bytes bytes)) serial t) p.is ∙ ap (λ (b : Bool). sent_for (position (wants_it b) t.agents) b serial t) p.writes in
      subst (λ (x : Target). Crew x (sent_among (position (wants_it (is_write bytes)) t.agents) (is_write bytes) serial t.agents)) (sym same) (record {
        are = sends_for (position (wants_it (is_write bytes)) t.agents) (is_write bytes) serial t;
        none = sends_reply (position (wants_it (is_write bytes)) t.agents) (is_write bytes) serial t ∙ e;
      })

  record Left (packet : Outgoing) (w v : WorldState) : Type 0 where
    generations : v.generations ≡ w.generations
    last : v.store.last ≡ w.store.last + 1
    crew : Crew (term_in start past v) (crew_packet packet.label (is_write packet.bytes) (w.store.last + 1) (taken_on None (term_in start past w).reply (term_in start past w)).agents)

  asked_left : (packet : Outgoing) (serial to peer : ℕ) (label : Option LabelParts) (w v : WorldState) → Left packet w v → Left packet w (asked serial to 0 peer label v)
  asked_left packet serial to peer None w v l = l
  asked_left packet serial to peer (Some label) w v l = record { generations = l.generations; last = l.last; crew = l.crew }

  posted_left : (packet : Outgoing) (to : ℕ) (w : WorldState) → IsPart packet.label packet.bytes → Left packet w (posted 0 to false packet.bytes w)
  unfolding posted
  posted_left packet to w p =
      let t = term_in start past w in
      record {
        generations = refl;
        last = refl;
        crew = part_crew packet.label packet.bytes (w.store.last + 1) (taken_on None t.reply t) p (taken_rests None t.reply t refl);
      }

  sent_left : (packet : Outgoing) (w : WorldState) → Leaves w.generations packet → Left packet w (sent 0 packet w)
  unfolding sent
  sent_left packet w l =
      subst (λ (o : Option ℕ). Left packet w (sent_to o 0 packet w)) (sym l.there)
      (asked_left packet (w.store.last + 1) l.to packet.to packet.label w (posted 0 l.to false packet.bytes w) (posted_left packet l.to w l.part))

  packets_crew : (packets : List Outgoing) (w : WorldState) (agents : List Agent) → AllLeave w.generations packets → Crew (term_in start past w) agents → Crew (term_in start past (sent_all 0 packets w)) (crew_packets w.store.last packets agents)
  unfolding sent_all
  packets_crew [] w agents h c = c
  packets_crew (packet ∷ later) w agents h c =
      let v = sent 0 packet w in
      let l = sent_left packet w h.0 in
      let now = crew_packet packet.label (is_write packet.bytes) (w.store.last + 1) agents in
      let crew : Crew (term_in start past v) now = subst (λ (xs : List Agent). Crew (term_in start past v) (crew_packet packet.label (is_write packet.bytes) (w.store.last + 1) xs))
      (ap (λ (x : Target). x.agents) (taken_still None (term_in start past w) c.none) ∙ c.are) l.crew in
      subst (λ n. Crew (term_in start past (sent_all 0 later v)) (crew_packets n later now)) l.last
      (packets_crew later v now (subst (λ (g : GenerationsState). AllLeave g later) (sym l.generations) h.1) crew)

  -- ---- a turn in which no reply waits
  leaves_on : (weight : ℕ) (later : List Side) (w : WorldState) → AllBehind later → ((told_all weight later w).generations ≡ w.generations) × ((told_all weight later w).store ≡ w.store)
  unfolding told_all
  leaves_on weight [] w h = (refl, refl)
  leaves_on weight (side ∷ later) w h =
      let one = told_same weight side w h.0 in
      let rest = leaves_on weight later (told weight side w) h.1 in
      (rest.0 ∙ one.0, rest.1 ∙ one.1)

  quiet_hands : (weight : ℕ) (later : List Side) (packets : List Outgoing) (w : WorldState) → AllBehind later → AllLeave w.generations packets → (term_in start past w).reply ≡ None → Crew (term_in start past (sent_all 0 packets (told_all weight later w))) (crew_packets w.store.last packets (crew_sides later (office_of (term_in start past w)) (term_in start past w).agents))
  quiet_hands weight later packets w h l e =
      let v = told_all weight later w in
      let same = leaves_on weight later w h in
      let agents = crew_sides later (office_of (term_in start past w)) (term_in start past w).agents in
      subst (λ n. Crew (term_in start past (sent_all 0 packets v)) (crew_packets n packets agents)) (ap (λ (s : Stored). s.last) same.1)
      (packets_crew packets v agents (subst (λ (g : GenerationsState). AllLeave g packets) (sym same.0) l) (sides_crew weight later w h e))

  -- ---- a reply takes its agent on with the first note
  first_crew : (weight : ℕ) (side : Side) (later : List Side) (w : WorldState) (reply : Reply) → (term_in start past w).reply ≡ Some reply → length (term_in start past w).agents ≡ 8 → reply.place < 8 → IsOfStep (side ∷ later) × IsRunOf (side ∷ later) w (initiator_at (term_in start past w) (terms (map said w.fresh ++ past)) reply.place) → Crew (term_in start past (told weight side w)) (crew_side side (office_of (term_in start past w)) (resumed (Some reply) (side ∷ later) (term_in start past w)))
  unfolding told
  first_crew weight (sides.Own note) later w reply e size b h = absurd h.0
  first_crew weight (sides.Opened place orb) later w reply e size b h = absurd h.0
  first_crew weight (sides.Ran place orb cdb payload outcome) later w reply e size b h =
      let ms = map said w.fresh ++ past in
      let t = term_in start past w in
      let note = ran_note (holder w place) (ticket_at w place orb) cdb payload outcome in
      let own = own_run reply (holder w place).initiator (known_at start ms).wire t e (h.1 ∙ ap (λ (x : Terms). initiator_at t x reply.place) (sym (wire_is start ms))) in
      record {
        are = ap (λ is_own. (ran_on is_own note t).agents) own ∙ notes_law.replies note t reply e size b;
        none = run_rests (is_own_run t.reply (holder w place).initiator (known_at start ms).wire t) note t;
      }
  first_crew weight (sides.Ended place orb status) later w reply e size b h =
      let t = term_in start past w in
      record { are = notes_law.replies (notes.Ended _ _ _ status) t reply e size b; none = going_rests (notes.Ended _ _ _ status) t }
  first_crew weight (sides.Dead place causes.Timeout) later w reply e size b h =
      let t = term_in start past w in
      record { are = notes_law.replies (notes.Dead _ _ causes.Timeout) t reply e size b; none = going_rests (notes.Dead _ _ causes.Timeout) t }
  first_crew weight (sides.Dead place causes.Label) later w reply e size b h =
      let t = term_in start past w in
      record { are = ap (map main_lost) (taken_agents t reply e); none = taken_rests None t.reply t refl }
  first_crew weight (sides.Dead place causes.Refused) later w reply e size b h =
      let t = term_in start past w in
      record { are = notes_law.replies (notes.Dead _ _ causes.Refused) t reply e size b; none = going_rests (notes.Dead _ _ causes.Refused) t }
  first_crew weight (sides.Dead place causes.Grammar) later w reply e size b h =
      let t = term_in start past w in
      record { are = notes_law.replies (notes.Dead _ _ causes.Grammar) t reply e size b; none = going_rests (notes.Dead _ _ causes.Grammar) t }
  first_crew weight (sides.Cut place cause) later w reply e size b h = absurd h.0
  first_crew weight (sides.Managed node function subject status login) later w reply e size b h = absurd h.0
  first_crew weight (sides.ManageFailed node cause) later w reply e size b h = absurd h.0
  first_crew weight (sides.Held login) later w reply e size b h = absurd h.0
  first_crew weight (sides.Expired login) later w reply e size b h = absurd h.0
  first_crew weight (sides.Back login) later w reply e size b h = absurd h.0
  first_crew weight (sides.Left login) later w reply e size b h = absurd h.0
  first_crew weight (sides.Cleared unit) later w reply e size b h = absurd h.0
  first_crew weight (sides.Unsolicited place) later w reply e size b h = absurd h.0
  first_crew weight (sides.Unsent place) later w reply e size b h = absurd h.0

  -- ---- the end of the turn
  abbrev Ends : (weight : ℕ) → List Side → List Outgoing → WorldState → List Agent → Type 0
  Ends weight told packets w agents =
      (over (term_in start past (sent_all 0 packets (told_all weight told w)))).agents ≡ crew_over (crew_packets w.store.last packets (crew_sides told (office_of (term_in start past w)) agents))

  crew_ends : (t : Target) (agents : List Agent) → Crew t agents → (over t).agents ≡ crew_over agents
  crew_ends t agents c = notes_law.ends t c.none ∙ ap crew_over c.are

  silent_ends : (packets : List Outgoing) (w : WorldState) (reply : Reply) → (term_in start past w).reply ≡ Some reply → AllLeave w.generations packets → (over (term_in start past (sent_all 0 packets w))).agents ≡ crew_over (crew_packets w.store.last packets (resumed (Some reply) [] (term_in start past w)))
  unfolding sent_all
  silent_ends [] w reply e l = ap crew_over (taken_agents (term_in start past w) reply e)
  silent_ends (packet ∷ later) w reply e l =
      let v = sent 0 packet w in
      let one = sent_left packet w l.0 in
      let agents = resumed (Some reply) [] (term_in start past w) in
      let now = crew_packet packet.label (is_write packet.bytes) (w.store.last + 1) agents in
      let crew : Crew (term_in start past v) now = subst (λ (xs : List Agent). Crew (term_in start past v) (crew_packet packet.label (is_write packet.bytes) (w.store.last + 1) xs)) (taken_agents (term_in start past w) reply e) one.crew in
      let rest = packets_crew later v now (subst (λ (g : GenerationsState). AllLeave g later) (sym one.generations) l.1) crew in
      crew_ends (term_in start past (sent_all 0 later v)) (crew_packets v.store.last later now) rest ∙ ap (λ n. crew_over (crew_packets n later now)) one.last

  replied_ends : (weight : ℕ) (told : List Side) (packets : List Outgoing) (w : WorldState) (reply : Reply) → (term_in start past w).reply ≡ Some reply → AllBehind told → AllLeave w.generations packets → length (term_in start past w).agents ≡ 8 → reply.place < 8 → IsOfStep told × IsRunOf told w (initiator_at (term_in start past w) (terms (map said w.fresh ++ past)) reply.place) → Ends weight told packets w (resumed (Some reply) told (term_in start past w))
  unfolding told_all
  replied_ends weight [] packets w reply e h l size b i = silent_ends packets w reply e l
  replied_ends weight (side ∷ later) packets w reply e h l size b i =
      let v = told weight side w in
      let same = told_same weight side w h.0 in
      let one = first_crew weight side later w reply e size b i in
      let now = crew_side side (office_of (term_in start past w)) (resumed (Some reply) (side ∷ later) (term_in start past w)) in
      let rest = quiet_hands weight later packets v h.1 (subst (λ (g : GenerationsState). AllLeave g packets) (sym same.0) l) one.none in
      crew_ends (term_in start past (sent_all 0 packets (told_all weight later v))) (crew_packets v.store.last packets (crew_sides later (office_of (term_in start past v)) (term_in start past v).agents)) rest
      ∙ ap (λ n. crew_over (crew_packets n packets (crew_sides later (office_of (term_in start past v)) (term_in start past v).agents))) (ap (λ (s : Stored). s.last) same.1)
      ∙ ap (λ o. crew_over (crew_packets w.store.last packets (crew_sides later o (term_in start past v).agents))) (one_side start past weight side w h.0)
      ∙ ap (λ xs. crew_over (crew_packets w.store.last packets (crew_sides later (by_side side (office_of (term_in start past w))) xs))) one.are

  ends_by : (reply : Option Reply) (weight : ℕ) (told : List Side) (packets : List Outgoing) (w : WorldState) → (term_in start past w).reply ≡ reply → AllBehind told → AllLeave w.generations packets → MayResume reply told w (terms (map said w.fresh ++ past)) (term_in start past w) → Ends weight told packets w (resumed reply told (term_in start past w))
  ends_by None weight told packets w e h l m =
      crew_ends (term_in start past (sent_all 0 packets (told_all weight told w))) (crew_packets w.store.last packets (crew_sides told (office_of (term_in start past w)) (term_in start past w).agents)) (quiet_hands weight told packets w h l e)
  ends_by (Some reply) weight told packets w e h l m = replied_ends weight told packets w reply e h l m.0 m.1 m.2

pub hands_law : HandsLaw
hands_law start past weight outbox w h l m =
    ends_by start past (target_at start (map said w.fresh ++ past)).reply weight outbox.sides outbox.packets w refl (all_told outbox.sides h) l m
