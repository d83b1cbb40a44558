-- The agents of all places in a turn: one may ask for something, and all others are at rest.
use Rattle.sbp_world.proofs.Words.Std.{arith, ◌≡◌, ◌≢◌, ◌∙◌, refl, sym, ap, ℕ, zero, suc, ◌+◌, ◌<◌, ◌||◌, not, nat_eq, nat_lt, Bool, true, false, cond, List, [], ◌∷◌, ◌++◌, length, map, Option, Some, None, position, slice_set, position_or_len, length-set, nat_tests, ext_get_or, length-map}
use Rattle.sbp_world.proofs.Words.Wire.{LabelParts, is_write, Outgoing, Side}
use Rattle.sbp_world.proofs.Words.Target.{Main, lost_step}
use Rattle.sbp_world.proofs.Words.Initiator.{Ask, Nothing}
use Rattle.sbp_world.proofs.Words.Laws.{Agent, agent_over, is_nothing, main_lost, moved, new_agent, sends_of, wants, wants_it}
use Rattle.sbp_world.proofs.Words.World.{Office, agent_in, by_packet, by_packets, crew_over, crew_packet, crew_packets, crew_side, crew_sides, sent_among}
use Rattle.std.proofs.lemmas.List.{get_or-map}
use Rattle.label_table.proofs.Owned.{set_at}
use Rattle.orb_layout.specs.declared.ask.FailCause.TheVariants as causes
use Rattle.sbp_journal.specs.declared.side.Side.TheVariants as sides
use Rattle.sbp_world.specs.Agents.Management.Offices as office
use Rattle.sbp_world.proofs.Agents.Management.Calm.{AreQuiet, IsQuiet}
use Rattle.sbp_world.specs.Agents.Crews.{by_side, by_sides}
use Rattle.sbp_world.proofs.Agents.Follows.{over_idle}
use Rattle.sbp_world.proofs.Agents.Management.Places.{other_id}
use Rattle.sbp_world.proofs.Common.{itself as same_id}

-- nothing is asked for
pub record Idle (a : Agent) : Type 0 where
  pub asks : a.asks ≡ Nothing
  pub asks_ahead : a.asks_ahead ≡ Nothing

pub record AreIdle (agents : List Agent) : Type 0 where
  pub size : length agents ≡ 8
  pub each : (p : ℕ) → p < 8 → Idle (agent_in agents p)

pub lost_idle : (a : Agent) → Idle a → main_lost a ≡ a
lost_idle a i = ap (λ (x : Ask). cond (is_nothing x) a (moved (lost_step a.machine Main causes.Label) a)) i.asks

pub wants_not : (w : Bool) (a : Agent) → Idle a → wants_it w a ≡ false
wants_not w a i = ap (λ (x : Ask). wants x w || wants a.asks_ahead w) i.asks ∙ ap (λ (x : Ask). wants x w) i.asks_ahead

-- ---- lists
pub at_set : (agents : List Agent) (q p : ℕ) (a : Agent) → length agents ≡ 8 → q < 8 → agent_in (slice_set agents q a) p ≡ cond (nat_eq p q) a (agent_in agents p)
at_set agents q p a e b = set_at agents q p a new_agent (omega arith)

pub at_own : (agents : List Agent) (q : ℕ) (a : Agent) → length agents ≡ 8 → q < 8 → agent_in (slice_set agents q a) q ≡ a
at_own agents q a e b = at_set agents q q a e b ∙ ap (λ (x : Bool). cond x a (agent_in agents q)) (same_id q)

pub at_other : (agents : List Agent) (q p : ℕ) (a : Agent) → length agents ≡ 8 → q < 8 → p ≢ q → agent_in (slice_set agents q a) p ≡ agent_in agents p
at_other agents q p a e b n = at_set agents q p a e b ∙ ap (λ (x : Bool). cond x a (agent_in agents p)) (other_id p q n)

map_set : (f : Agent → Agent) (agents : List Agent) (q : ℕ) (a : Agent) → map f (slice_set agents q a) ≡ slice_set (map f agents) q (f a)
map_set f [] q a = refl
map_set f (x ∷ agents) zero a = refl
map_set f (x ∷ agents) (suc q) a = ap (λ (xs : List Agent). f x ∷ xs) (map_set f agents q a)

pub map_same : (f : Agent → Agent) (agents : List Agent) → ((p : ℕ) → p < length agents → f (agent_in agents p) ≡ agent_in agents p) → map f agents ≡ agents
map_same f agents h =
    ext_get_or new_agent (map f agents) agents (length-map agents f) (λ p l. let s = length-map agents f in get_or-map f agents p new_agent new_agent (omega arith) ∙ h p (omega arith))

pub set_twice : (agents : List Agent) (q : ℕ) (a b : Agent) → slice_set (slice_set agents q a) q b ≡ slice_set agents q b
set_twice [] q a b = refl
set_twice (x ∷ agents) zero a b = refl
set_twice (x ∷ agents) (suc q) a b = ap (λ (xs : List Agent). x ∷ xs) (set_twice agents q a b)

-- the one that wants something is the first that does
length_none : (f : Agent → Bool) (agents : List Agent) → ((p : ℕ) → p < length agents → f (agent_in agents p) ≡ false) → position_or_len f agents ≡ length agents
length_none f [] h = refl
length_none f (x ∷ agents) h =
    let r = length_none f agents (λ p l. h (suc p) (omega arith)) in
    let one : 1 + position_or_len f agents ≡ suc (length agents) = omega arith in
    ap (λ (b : Bool). cond (not b) (1 + position_or_len f agents) 0) (h zero (omega arith)) ∙ one

place_first : (f : Agent → Bool) (agents : List Agent) (q : ℕ) (a : Agent) → ((p : ℕ) → p < length agents → f (agent_in agents p) ≡ false) → q < length agents → position_or_len f (slice_set agents q a) ≡ cond (f a) q (length agents)
place_first f [] q a h b = absurd (omega arith)
place_first f (x ∷ agents) zero a h b = by (f a) (length_none f agents (λ p l. h (suc p) (omega arith)))
  where
    by : (c : Bool) → position_or_len f agents ≡ length agents → cond (not c) (1 + position_or_len f agents) 0 ≡ cond c 0 (suc (length agents))
    by true r = refl
    by false r = omega arith
place_first f (x ∷ agents) (suc q) a h b =
    ap (λ (c : Bool). cond (not c) (1 + position_or_len f (slice_set agents q a)) 0) (h zero (omega arith))
    ∙ by (f a) (place_first f agents q a (λ p l. h (suc p) (omega arith)) (omega arith))
  where
    by : (c : Bool) → position_or_len f (slice_set agents q a) ≡ cond c q (length agents) → 1 + position_or_len f (slice_set agents q a) ≡ cond c (suc q) (suc (length agents))
    by true e = omega arith
    by false e = omega arith

in_place : (size n : ℕ) → n < size → cond (nat_lt n size) (Some n) None ≡ Some n
in_place size n l = by (nat_lt n size) (grind (arith, nat_tests))
  where
    by : (c : Bool) → c ≡ true → cond c (Some n) None ≡ Some n
    by true e = refl
    by false e = absurd (let no : false ≡ true = e in cc)

past_end : (size : ℕ) → cond {A = Option ℕ} (nat_lt size size) (Some size) None ≡ None
past_end size = by (nat_lt size size) (grind (arith, nat_tests))
  where
    by : (c : Bool) → c ≡ false → cond {A = Option ℕ} c (Some size) None ≡ None
    by true e = absurd (let no : true ≡ false = e in cc)
    by false e = refl

first_of : (f : Agent → Bool) (agents : List Agent) (q : ℕ) (a : Agent) → ((p : ℕ) → p < length agents → f (agent_in agents p) ≡ false) → q < length agents → position f (slice_set agents q a) ≡ cond (f a) (Some q) None
first_of f agents q a h b =
    ap (λ (n : ℕ). cond {A = Option ℕ} (nat_lt n (length (slice_set agents q a))) (Some n) None) (place_first f agents q a h b)
    ∙ ap (λ (n : ℕ). cond {A = Option ℕ} (nat_lt (cond (f a) q (length agents)) n) (Some (cond (f a) q (length agents))) None) (length-set agents q a)
    ∙ by (f a)
  where
    by : (c : Bool) → cond {A = Option ℕ} (nat_lt (cond c q (length agents)) (length agents)) (Some (cond c q (length agents))) None ≡ cond c (Some q) None
    by true = in_place (length agents) q b
    by false = past_end (length agents)

none_of : (f : Agent → Bool) (agents : List Agent) → ((p : ℕ) → p < length agents → f (agent_in agents p) ≡ false) → position f agents ≡ None
none_of f agents h =
    ap (λ (n : ℕ). cond {A = Option ℕ} (nat_lt n (length agents)) (Some n) None) (length_none f agents h) ∙ past_end (length agents)

-- ---- one of them in its turn
module _ (agents : List Agent) (idle : AreIdle agents) where
  below : (p : ℕ) → p < length agents → Idle (agent_in agents p)
  below p l = idle.each p (let s = idle.size in omega arith)

  pub all_lost : map main_lost agents ≡ agents
  all_lost = map_same main_lost agents (λ p l. lost_idle (agent_in agents p) (below p l))

  pub all_over : crew_over agents ≡ agents
  all_over = map_same agent_over agents (λ p l. let i = below p l in over_idle (agent_in agents p) i.asks i.asks_ahead)

  module _ (q : ℕ) (b : q < 8) where
    inside : q < length agents
    inside = let s = idle.size in omega arith

    one_side : (side : Side) (o : Office) (a : Agent) → IsQuiet side → crew_side side o (slice_set agents q a) ≡ slice_set agents q (by_side side a)
    one_side (sides.Own note) o a h = absurd h
    one_side (sides.Opened place orb) o a h = refl
    one_side (sides.Ran place orb cdb payload outcome) o a h = refl
    one_side (sides.Ended place orb status) o a h = refl
    one_side (sides.Dead place causes.Timeout) o a h = refl
    one_side (sides.Dead place causes.Label) o a h = map_set main_lost agents q a ∙ ap (λ (xs : List Agent). slice_set xs q (main_lost a)) all_lost
    one_side (sides.Dead place causes.Refused) o a h = refl
    one_side (sides.Dead place causes.Grammar) o a h = refl
    one_side (sides.Cut place cause) o a h = refl
    one_side (sides.Managed node function subject status login) o a h = absurd h
    one_side (sides.ManageFailed node cause) o a h = absurd h
    one_side (sides.Held login) o a h = absurd h
    one_side (sides.Expired login) o a h = absurd h
    one_side (sides.Back login) o a h = absurd h
    one_side (sides.Left login) o a h = absurd h
    one_side (sides.Cleared unit) o a h = refl
    one_side (sides.Unsolicited place) o a h = refl
    one_side (sides.Unsent place) o a h = refl

    pub turn_sides : (told : List Side) (o : Office) (a : Agent) → AreQuiet told → crew_sides told o (slice_set agents q a) ≡ slice_set agents q (by_sides told a)
    turn_sides [] o a h = refl
    turn_sides (side ∷ later) o a h =
        ap (crew_sides later (office.by_side side o)) (one_side side o a h.0) ∙ turn_sides later (office.by_side side o) (by_side side a) h.1

    unwanted : (a : Agent) (w : Bool) (serial : ℕ) → wants_it w a ≡ false → sends_of w serial a ≡ a
    unwanted a w serial e = by (wants a.asks w) (wants a.asks_ahead w) e
      where
        by : (x y : Bool) → (x || y) ≡ false → cond x (record a { main = Some serial; asks = Nothing }) (cond y (record a { ahead = Some serial; asks_ahead = Nothing }) a) ≡ a
        by true y f = absurd (let no : true ≡ false = f in cc)
        by false true f = absurd (let no : true ≡ false = f in cc)
        by false false f = refl

    sent_by : (x w : Bool) (serial : ℕ) (a : Agent) → wants_it w a ≡ x → sent_among (cond x (Some q) None) w serial (slice_set agents q a) ≡ slice_set agents q (sends_of w serial a)
    sent_by true w serial a e =
        ap (λ (c : Agent). slice_set (slice_set agents q a) q (sends_of w serial c)) (at_own agents q a idle.size b) ∙ set_twice agents q a (sends_of w serial a)
    sent_by false w serial a e = ap (slice_set agents q) (sym (unwanted a w serial e))

    one_packet : (label : Option LabelParts) (w : Bool) (serial : ℕ) (a : Agent) → crew_packet label w serial (slice_set agents q a) ≡ slice_set agents q (by_packet label w serial a)
    one_packet None w serial a = refl
    one_packet (Some label) w serial a =
        ap (λ (x : Option ℕ). sent_among x w serial (slice_set agents q a)) (first_of (wants_it w) agents q a (λ p l. wants_not w (agent_in agents p) (below p l)) inside)
        ∙ sent_by (wants_it w a) w serial a refl

    pub turn_packets : (last : ℕ) (packets : List Outgoing) (a : Agent) → crew_packets last packets (slice_set agents q a) ≡ slice_set agents q (by_packets last packets a)
    turn_packets last [] a = refl
    turn_packets last (packet ∷ later) a =
        ap (crew_packets (last + 1) later) (one_packet packet.label (is_write packet.bytes) (last + 1) a) ∙ turn_packets (last + 1) later (by_packet packet.label (is_write packet.bytes) (last + 1) a)

    pub turn_over : (a : Agent) → crew_over (slice_set agents q a) ≡ slice_set agents q (agent_over a)
    turn_over a = map_set agent_over agents q a ∙ ap (λ (xs : List Agent). slice_set xs q (agent_over a)) all_over

-- ---- none of them in a turn

-- no login is entered
abbrev pub IsNoEntry : Side → Type 0
IsNoEntry (sides.Managed node function subject status login) = ⊥
IsNoEntry side = Unit {0}

abbrev pub AreNoEntries : List Side → Type 0
AreNoEntries [] = Unit {0}
AreNoEntries (side ∷ later) = IsNoEntry side × AreNoEntries later

quiet_entry : (side : Side) → IsQuiet side → IsNoEntry side
quiet_entry (sides.Own note) h = tt
quiet_entry (sides.Opened place orb) h = tt
quiet_entry (sides.Ran place orb cdb payload outcome) h = tt
quiet_entry (sides.Ended place orb status) h = tt
quiet_entry (sides.Dead place cause) h = tt
quiet_entry (sides.Cut place cause) h = tt
quiet_entry (sides.Managed node function subject status login) h = absurd h
quiet_entry (sides.ManageFailed node cause) h = tt
quiet_entry (sides.Held login) h = tt
quiet_entry (sides.Expired login) h = tt
quiet_entry (sides.Back login) h = tt
quiet_entry (sides.Left login) h = tt
quiet_entry (sides.Cleared unit) h = tt
quiet_entry (sides.Unsolicited place) h = tt
quiet_entry (sides.Unsent place) h = tt

pub quiet_entries : (told : List Side) → AreQuiet told → AreNoEntries told
quiet_entries [] h = tt
quiet_entries (side ∷ later) h = (quiet_entry side h.0, quiet_entries later h.1)

pub entries_more : (told : List Side) (side : Side) → AreNoEntries told → IsNoEntry side → AreNoEntries (told ++ side ∷ [])
entries_more [] side h e = (e, tt)
entries_more (first ∷ told) side h e = (h.0, entries_more told side h.1 e)

pub idle_side : (agents : List Agent) → AreIdle agents → (side : Side) (o : Office) → IsNoEntry side → crew_side side o agents ≡ agents
idle_side agents idle (sides.Own note) o h = refl
idle_side agents idle (sides.Opened place orb) o h = refl
idle_side agents idle (sides.Ran place orb cdb payload outcome) o h = refl
idle_side agents idle (sides.Ended place orb status) o h = refl
idle_side agents idle (sides.Dead place causes.Timeout) o h = refl
idle_side agents idle (sides.Dead place causes.Label) o h = all_lost agents idle
idle_side agents idle (sides.Dead place causes.Refused) o h = refl
idle_side agents idle (sides.Dead place causes.Grammar) o h = refl
idle_side agents idle (sides.Cut place cause) o h = refl
idle_side agents idle (sides.Managed node function subject status login) o h = absurd h
idle_side agents idle (sides.ManageFailed node cause) o h = refl
idle_side agents idle (sides.Held login) o h = refl
idle_side agents idle (sides.Expired login) o h = refl
idle_side agents idle (sides.Back login) o h = refl
idle_side agents idle (sides.Left login) o h = refl
idle_side agents idle (sides.Cleared unit) o h = refl
idle_side agents idle (sides.Unsolicited place) o h = refl
idle_side agents idle (sides.Unsent place) o h = refl

pub idle_sides : (agents : List Agent) → AreIdle agents → (told : List Side) (o : Office) → AreNoEntries told → crew_sides told o agents ≡ agents
idle_sides agents idle [] o h = refl
idle_sides agents idle (side ∷ later) o h =
    ap (crew_sides later (office.by_side side o)) (idle_side agents idle side o h.0) ∙ idle_sides agents idle later (office.by_side side o) h.1

pub idle_packets : (agents : List Agent) → AreIdle agents → (last : ℕ) (packets : List Outgoing) → crew_packets last packets agents ≡ agents
idle_packets agents idle last [] = refl
idle_packets agents idle last (packet ∷ later) = ap (crew_packets (last + 1) later) (one packet.label) ∙ idle_packets agents idle (last + 1) later
  where
    one : (label : Option LabelParts) → crew_packet label (is_write packet.bytes) (last + 1) agents ≡ agents
    one None = refl
    one (Some label) =
        ap (λ (x : Option ℕ). sent_among x (is_write packet.bytes) (last + 1) agents) (none_of (wants_it (is_write packet.bytes)) agents (λ p l. wants_not (is_write packet.bytes) (agent_in agents p) (below agents idle p l)))

pub crew_more : (told : List Side) (side : Side) (o : Office) (agents : List Agent) → crew_sides (told ++ side ∷ []) o agents ≡ crew_side side (office.by_sides told o) (crew_sides told o agents)
crew_more [] side o agents = refl
crew_more (first ∷ told) side o agents = crew_more told side (office.by_side first o) (crew_side first o agents)
