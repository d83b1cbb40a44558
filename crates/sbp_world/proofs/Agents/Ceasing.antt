-- What a decision of the management agent makes of the registers: a login that leaves has its register disabled, and so has one that is entered, whose place no
-- live login had.
use Rattle.sbp_world.proofs.Words.Std.{arith, ◌≡◌, ◌∙◌, refl, sym, ap, subst, ℕ, zero, suc, ◌+◌, ◌<◌, ◌≤◌, nat_eq, nat_lt, Bool, true, false, cond, List, [], ◌∷◌, ◌++◌, append_assoc, length, map, Option, Some, None, Result, Ok, Err, is_none, position, slice_index_or, slice_set, get_or-map, nat_tests, set_past, position-Some, false≢true}
use Rattle.sbp_world.proofs.Words.Wire.{Packet, header_in, Asked, Body, Layer, asking_step, function_word, login_if, CutCause, FunctionWord, Side, OutboxState, empty_outbox}
use Rattle.sbp_world.proofs.Words.Target.{Login, Table, entered, is_live, place_at, Decision, Effect, ManagerStep, Busy, asked_by, state_in, abort_step, is_reset, Purpose, cut, told_cut, reset_desk, ask_manager, clear_one, cut_placed, decided_by, effect_by, failed_by, lose_operation, lost_in, manager_asked, manager_body, manager_lost, manager_sent, place_in, tell_failed, with_manager, NodeState, Scene, desk_at, scene, with_desk, expired_from, held_from, tell_held, asks_step, sent_by, with_side, answered, start, started_by, clear_from, clear_unit, cut_all}
use Rattle.sbp_world.proofs.Words.Initiator.{Ask, FailCause, NoLabel}
use Rattle.sbp_world.proofs.Words.Laws.{Decided, at_id, disabled_at, has_id}
use Rattle.sbp_world.proofs.Words.World.{Office, by_managed, by_side, by_sides, placed, placed_by, AreLive, HasLive}
use Rattle.std.proofs.lemmas.List.{length-set}
use Rattle.label_table.proofs.Owned.{position_none, set_at}
use Rattle.login_table.proofs.Searching.{within}
use Rattle.mgmt_agent.specs.declared.decision.Effect.TheVariants as effects
use Rattle.mgmt_agent.specs.Machine as management
use Rattle.sbp_journal.specs.declared.cause.CutCause.TheVariants as cuts
use Rattle.sbp_journal.specs.declared.operation.FunctionWord.TheVariants as functions
use Rattle.sbp_journal.specs.declared.side.Side.TheVariants as sides
use Rattle.sbp_target.specs.declared.purpose.Purpose.TheVariants as purposes
use Rattle.sbp_world.proofs.Agents.Management.Places.{AreApart}
use Rattle.sbp_world.proofs.Agents.Disabling.{AreDisabling, IsDisabling, all_disabled}
use Rattle.sbp_world.proofs.Agents.Enabling.{ask_logins}
use Rattle.sbp_world.proofs.Agents.Heeding.{desk_same, register_off, same_registers}
use Rattle.sbp_world.proofs.Agents.Serves.{ask_keeps}
use Rattle.sbp_world.proofs.Agents.Sparing.{Empties, IsOld, IsReplaced, Spares}
use Rattle.sbp_world.proofs.Agents.Using.{off_at}
use Rattle.sbp_world.proofs.Lists.Registers.{answered_sides}
use Rattle.sbp_target.proofs.Histories.Views.{cuts_keep, placed_keep}

-- ---- what is told of neither registers nor logins
abbrev pub IsMute : Side → Type 0
IsMute (sides.Cut place cause) = Unit {0}
IsMute (sides.Cleared unit) = Unit {0}
IsMute (sides.ManageFailed node cause) = Unit {0}
IsMute side = ⊥

abbrev pub AreMute : List Side → Type 0
AreMute [] = Unit {0}
AreMute (side ∷ later) = IsMute side × AreMute later

mute_more : (told : List Side) (side : Side) → AreMute told → IsMute side → AreMute (told ++ side ∷ [])
mute_more [] side h f = (f, tt)
mute_more (first ∷ told) side h f = (h.0, mute_more told side h.1 f)

-- ---- one list of sides behind another
disabled_append : (first later : List Side) (o : Office) (enabled : List Bool) → all_disabled (first ++ later) o enabled ≡ all_disabled later (by_sides first o) (all_disabled first o enabled)
disabled_append [] later o enabled = refl
disabled_append (side ∷ first) later o enabled = disabled_append first later (by_side side o) _

sides_append : (first later : List Side) (o : Office) → by_sides (first ++ later) o ≡ by_sides later (by_sides first o)
sides_append [] later o = refl
sides_append (side ∷ first) later o = sides_append first later (by_side side o)

disabling_append : (first later : List Side) → AreDisabling first → AreDisabling later → AreDisabling (first ++ later)
disabling_append [] later h i = i
disabling_append (side ∷ first) later h i = (h.0, disabling_append first later h.1 i)

pub record Muted (told : List Side) (o : Office) (enabled : List Bool) : Type 0 where
  pub registers : all_disabled told o enabled ≡ enabled
  pub table : (by_sides told o).table ≡ o.table
  pub disabling : AreDisabling told

pub muted : (told : List Side) (o : Office) (enabled : List Bool) → AreMute told → Muted told o enabled
muted [] o enabled h = record { registers = refl; table = refl; disabling = tt }
muted (sides.Cut place cause ∷ later) o enabled h = let m = muted later o enabled h.1 in record { registers = m.registers; table = m.table; disabling = (tt, m.disabling) }
muted (sides.Cleared unit ∷ later) o enabled h = let m = muted later o enabled h.1 in record { registers = m.registers; table = m.table; disabling = (tt, m.disabling) }
muted (sides.ManageFailed node cause ∷ later) o enabled h =
    let m = muted later (by_side (sides.ManageFailed node cause) o) enabled h.1 in record { registers = m.registers; table = m.table; disabling = (tt, m.disabling) }
muted (sides.Own note ∷ later) o enabled h = absurd h.0
muted (sides.Opened place orb ∷ later) o enabled h = absurd h.0
muted (sides.Ran place orb cdb payload outcome ∷ later) o enabled h = absurd h.0
muted (sides.Ended place orb status ∷ later) o enabled h = absurd h.0
muted (sides.Dead place cause ∷ later) o enabled h = absurd h.0
muted (sides.Managed node function subject status login ∷ later) o enabled h = absurd h.0
muted (sides.Held login ∷ later) o enabled h = absurd h.0
muted (sides.Expired login ∷ later) o enabled h = absurd h.0
muted (sides.Back login ∷ later) o enabled h = absurd h.0
muted (sides.Left login ∷ later) o enabled h = absurd h.0
muted (sides.Unsolicited place ∷ later) o enabled h = absurd h.0
muted (sides.Unsent place ∷ later) o enabled h = absurd h.0

-- ---- what is told of logins that are held changes no register
abbrev pub IsKeeping : Side → Type 0
IsKeeping (sides.Cut place cause) = Unit {0}
IsKeeping (sides.Cleared unit) = Unit {0}
IsKeeping (sides.ManageFailed node cause) = Unit {0}
IsKeeping (sides.Held login) = Unit {0}
IsKeeping side = ⊥

abbrev pub AreKeeping : List Side → Type 0
AreKeeping [] = Unit {0}
AreKeeping (side ∷ later) = IsKeeping side × AreKeeping later

keeping_more : (told : List Side) (side : Side) → AreKeeping told → IsKeeping side → AreKeeping (told ++ side ∷ [])
keeping_more [] side h f = (f, tt)
keeping_more (first ∷ told) side h f = (h.0, keeping_more told side h.1 f)

mute_one : (side : Side) → IsMute side → IsKeeping side
mute_one (sides.Cut place cause) h = tt
mute_one (sides.Cleared unit) h = tt
mute_one (sides.ManageFailed node cause) h = tt
mute_one (sides.Own note) h = absurd h
mute_one (sides.Opened place orb) h = absurd h
mute_one (sides.Ran place orb cdb payload outcome) h = absurd h
mute_one (sides.Ended place orb status) h = absurd h
mute_one (sides.Dead place cause) h = absurd h
mute_one (sides.Managed node function subject status login) h = absurd h
mute_one (sides.Held login) h = absurd h
mute_one (sides.Expired login) h = absurd h
mute_one (sides.Back login) h = absurd h
mute_one (sides.Left login) h = absurd h
mute_one (sides.Unsolicited place) h = absurd h
mute_one (sides.Unsent place) h = absurd h

pub mute_keeps : (told : List Side) → AreMute told → AreKeeping told
mute_keeps [] h = tt
mute_keeps (side ∷ later) h = (mute_one side h.0, mute_keeps later h.1)

pub record Kept (told : List Side) (o : Office) (enabled : List Bool) : Type 0 where
  pub registers : all_disabled told o enabled ≡ enabled
  pub disabling : AreDisabling told

pub keeping : (told : List Side) (o : Office) (enabled : List Bool) → AreKeeping told → Kept told o enabled
keeping [] o enabled h = record { registers = refl; disabling = tt }
keeping (sides.Cut place cause ∷ later) o enabled h = let m = keeping later o enabled h.1 in record { registers = m.registers; disabling = (tt, m.disabling) }
keeping (sides.Cleared unit ∷ later) o enabled h = let m = keeping later o enabled h.1 in record { registers = m.registers; disabling = (tt, m.disabling) }
keeping (sides.ManageFailed node cause ∷ later) o enabled h =
    let m = keeping later (by_side (sides.ManageFailed node cause) o) enabled h.1 in record { registers = m.registers; disabling = (tt, m.disabling) }
keeping (sides.Held login ∷ later) o enabled h =
    let m = keeping later (by_side (sides.Held login) o) enabled h.1 in record { registers = m.registers; disabling = (tt, m.disabling) }
keeping (sides.Own note ∷ later) o enabled h = absurd h.0
keeping (sides.Opened place orb ∷ later) o enabled h = absurd h.0
keeping (sides.Ran place orb cdb payload outcome ∷ later) o enabled h = absurd h.0
keeping (sides.Ended place orb status ∷ later) o enabled h = absurd h.0
keeping (sides.Dead place cause ∷ later) o enabled h = absurd h.0
keeping (sides.Managed node function subject status login ∷ later) o enabled h = absurd h.0
keeping (sides.Expired login ∷ later) o enabled h = absurd h.0
keeping (sides.Back login ∷ later) o enabled h = absurd h.0
keeping (sides.Left login ∷ later) o enabled h = absurd h.0
keeping (sides.Unsolicited place ∷ later) o enabled h = absurd h.0
keeping (sides.Unsent place ∷ later) o enabled h = absurd h.0

held_one : (x : Option Login) (outbox : OutboxState) → AreKeeping outbox.sides → AreKeeping (tell_held x outbox).sides
held_one None outbox h = h
held_one (Some login) outbox h = by (is_live login)
  where
    by : (b : Bool) → AreKeeping (cond b (with_side outbox (sides.Held login.login)) outbox).sides
    by true = keeping_more outbox.sides (sides.Held login.login) h tt
    by false = h

pub held_tell : (left place : ℕ) (places : List (Option Login)) (outbox : OutboxState) → AreKeeping outbox.sides → AreKeeping (held_from left place places outbox).sides
unfolding held_from
held_tell zero place places outbox h = h
held_tell (suc left) place places outbox h = held_tell left (place + 1) places (tell_held (place_at places place) outbox) (held_one (place_at places place) outbox h)

-- ---- cuts, and cleared units: no register changes
pub record Cuts (before : ℕ → Bool) (logins : Table) (s : Scene) : Type 0 where
  pub registers : (place : ℕ) → (desk_at s.node place).is_enabled ≡ before place
  pub mute : AreMute s.outbox.sides
  pub logins_are : s.node.logins ≡ logins

module _ (before : ℕ → Bool) (logins : Table) where
  abbrev Cut : Scene → Type 0
  Cut s = Cuts before logins s

  pick : (b : Bool) (x y : Scene) → Cut x → Cut y → Cut (cond b x y)
  pick true x y h i = h
  pick false x y h i = i

  told_mute : (b : Bool) (place : ℕ) (cause : CutCause) (o : OutboxState) → AreMute o.sides → AreMute (told_cut b place cause o).sides
  told_mute true place cause o h = h
  told_mute false place cause o h = mute_more o.sides (sides.Cut place cause) h tt

  one_cut : (cause : CutCause) (place : ℕ) (s : Scene) → Cut s → Cut (cut cause place s)
  unfolding cut
  one_cut cause place s h = record {
    registers = λ other. (desk_same s.node place (reset_desk (desk_at s.node place)) refl).each other ∙ h.registers other;
    mute = told_mute (is_reset (state_in (desk_at s.node place).agent.phase)) place cause s.outbox h.mute;
    logins_are = h.logins_are;
  }

  pub cuts_all : (cause : CutCause) (unit : Option ℕ) (s : Scene) → Cut s → Cut (cut_all cause unit s)
  cuts_all cause unit s c = cuts_keep Cut one_cut cause unit s c

  cuts_placed : (place : Option ℕ) (cause : CutCause) (s : Scene) → Cut s → Cut (cut_placed place cause s)
  cuts_placed place cause s c = placed_keep Cut one_cut place cause s c

  clears : (unit : ℕ) (s : Scene) → Cut s → Cut (clear_unit unit s)
  unfolding clear_unit
  clears unit s h = record { registers = h.registers; mute = mute_more s.outbox.sides (sides.Cleared unit) h.mute tt; logins_are = h.logins_are }

  clears_from : (left unit : ℕ) (s : Scene) → Cut s → Cut (clear_from left unit s)
  unfolding clear_from
  clears_from zero unit s h = h
  clears_from (suc left) unit s h = clears_from left (unit + 1) (clear_unit unit s) (clears unit s h)

  clears_one : (unit : ℕ) (s : Scene) → Cut s → Cut (clear_one unit s)
  clears_one unit s h = pick (nat_lt unit (length s.node.units)) (clear_unit unit s) s (clears unit s h) h

-- ---- what follows a decision tells mute sides alone
pub record More (base told : List Side) : Type 0 where
  pub later : List Side
  pub mute : AreMute later
  pub is : told ≡ base ++ later

module _ (base : List Side) where
  more_one : (told : List Side) (side : Side) → IsMute side → More base told → More base (told ++ side ∷ [])
  more_one told side f m = record {
    later = m.later ++ side ∷ [];
    mute = mute_more m.later side m.mute f;
    is = ap (λ (xs : List Side). xs ++ side ∷ []) m.is ∙ append_assoc base m.later (side ∷ []);
  }

  failed_more : (source : ℕ) (cause : Option FailCause) (o : OutboxState) → More base o.sides → More base (tell_failed source cause o).sides
  failed_more source None o m = m
  failed_more source (Some cause) o m = more_one o.sides (sides.ManageFailed source cause) tt m

  lost_more : (other : Option ℕ) (s : Scene) → More base s.outbox.sides → More base (lost_in other s).outbox.sides
  lost_more None s m = m
  lost_more (Some source) s m = by (management.reply_step s.node.manager s.node.logins s.node.keys NoLabel)
    where
      by : (r : ManagerStep × (management.Machine × Table)) → More base (manager_lost source s r).outbox.sides
      by (step, r) = failed_more source step.failed s.outbox m

  sent_more : (node : NodeState) (outbox : OutboxState) (peer : ℕ) (r : Option Asked × Layer Purpose) → More base outbox.sides → More base (manager_sent node (sent_by r outbox peer)).outbox.sides
  unfolding lose_operation
  sent_more node outbox peer (Some asked, layer) m = m
  sent_more node outbox peer (None, layer) m = lost_more (management.source_in node.manager.operation) (scene (record node { layer = layer }) outbox) m

  asked_more : (body : Option Body) (source : ℕ) (s : Scene) → More base s.outbox.sides → More base (manager_asked body source s).outbox.sides
  unfolding asks_step
  asked_more None source s m = m
  asked_more (Some body) source s m = sent_more s.node s.outbox source (asking_step s.node.layer source body purposes.Management) m

  pub asks_more : (source : ℕ) (ask : Ask) (s : Scene) → More base s.outbox.sides → More base (ask_manager source ask s).outbox.sides
  unfolding ask_manager
  asks_more source ask s m = asked_more (manager_body ask s.node.manager.outgoing) source s m

-- an operation that starts tells mute sides at most
starts_tell : (source : ℕ) (request : Packet) (bytes : List ℕ) (r : Result Ask Busy × management.Machine) (s : Scene) → s.outbox.sides ≡ [] → More [] (started_by source request bytes r s).outbox.sides
starts_tell source request bytes (Ok ask, m) s e =
    let t = scene (record s.node { manager = m }) s.outbox in
    asks_more [] source ask (answered request bytes 0 [] t) (record { later = []; mute = tt; is = answered_sides request bytes 0 [] t ∙ e })
starts_tell source request bytes (Err busy, m) s e = record { later = []; mute = tt; is = answered_sides request bytes 4 [] (scene (record s.node { manager = m }) s.outbox) ∙ e }

pub start_tells : (orb : ℕ) (request : Packet) (bytes : List ℕ) (s : Scene) → s.outbox.sides ≡ [] → More [] (start orb request bytes s).outbox.sides
unfolding start
start_tells orb request bytes s e = starts_tell (header_in request).source request bytes (management.start_step s.node.manager (header_in request).source orb) s e

-- ---- registers and logins by places
cond_off : (b x : Bool) → x ≡ false → cond b false x ≡ false
cond_off true x e = refl
cond_off false x e = e

record Own (id : ℕ) (x : Option Login) : Type 0 where
  login : Login
  is : x ≡ Some login
  id_is : login.login ≡ id

own_of : (id : ℕ) (x : Option Login) → has_id id x ≡ true → Own id x
own_of id None e = absurd (false≢true e)
own_of id (Some login) e = record { login = login; is = refl; id_is = grind (arith, nat_tests) }

has_own : (id : ℕ) (x : Option Login) (login : Login) → x ≡ Some login → login.login ≡ id → has_id id x ≡ true
has_own id x login e f = ap (has_id id) e ∙ (let z : nat_eq login.login id ≡ true = grind (arith, nat_tests) in z)

record Found (id : ℕ) (places : List (Option Login)) (k : ℕ) : Type 0 where
  own : Own id (place_at places k)

found_at : (id : ℕ) (places : List (Option Login)) (k : ℕ) → position (has_id id) places ≡ Some k → Found id places k
found_at id places k e = record { own = own_of id (place_at places k) (position-Some (has_id id) places k None e).1 }

-- the place of a login of this ID
one_place : (id : ℕ) (places : List (Option Login)) → AreApart places → (j k : ℕ) (a b : Login) → place_at places j ≡ Some a → place_at places k ≡ Some b → a.login ≡ id → b.login ≡ id → j ≡ k
one_place id places apart j k a b e f x y = by (nat_eq j k) refl
  where
    by : (c : Bool) → nat_eq j k ≡ c → j ≡ k
    by true q = grind (arith, nat_tests)
    by false q = absurd (apart.apart j k a b (λ same. false≢true (sym q ∙ (let yes : nat_eq j k ≡ true = grind (arith, nat_tests) in yes))) e f (x ∙ sym y))

-- ---- logins that expire
abbrev pub IsExpiring : Side → Type 0
IsExpiring (sides.Expired login) = Unit {0}
IsExpiring side = ⊥

abbrev pub AreExpiring : List Side → Type 0
AreExpiring [] = Unit {0}
AreExpiring (side ∷ later) = IsExpiring side × AreExpiring later

expiring_more : (told : List Side) (id : ℕ) → AreExpiring told → AreExpiring (told ++ sides.Expired id ∷ [])
expiring_more [] id h = (tt, tt)
expiring_more (first ∷ told) id h = (h.0, expiring_more told id h.1)

pub expired_tell : (left at : ℕ) (ids : List ℕ) (outbox : OutboxState) → AreExpiring outbox.sides → AreExpiring (expired_from left at ids outbox).sides
unfolding expired_from
expired_tell zero at ids outbox h = h
expired_tell (suc left) at ids outbox h =
    let id = slice_index_or ids at 0 in
    expired_tell left (at + 1) ids (with_side outbox (sides.Expired id)) (expiring_more outbox.sides id h)

record IsExpired (side : Side) : Type 0 where
  id : ℕ
  is : side ≡ sides.Expired id

is_expired : (side : Side) → IsExpiring side → IsExpired side
is_expired (sides.Expired id) h = record { id = id; is = refl }
is_expired (sides.Own note) h = absurd h
is_expired (sides.Opened place orb) h = absurd h
is_expired (sides.Ran place orb cdb payload outcome) h = absurd h
is_expired (sides.Ended place orb status) h = absurd h
is_expired (sides.Dead place cause) h = absurd h
is_expired (sides.Cut place cause) h = absurd h
is_expired (sides.Managed node function subject status login) h = absurd h
is_expired (sides.ManageFailed node cause) h = absurd h
is_expired (sides.Held login) h = absurd h
is_expired (sides.Back login) h = absurd h
is_expired (sides.Left login) h = absurd h
is_expired (sides.Cleared unit) h = absurd h
is_expired (sides.Unsolicited place) h = absurd h
is_expired (sides.Unsent place) h = absurd h

expired_disables : (side : Side) → IsExpired side → IsDisabling side
expired_disables side e = subst IsDisabling (sym e.is) tt

pub expiring_disable : (told : List Side) → AreExpiring told → AreDisabling told
expiring_disable [] h = tt
expiring_disable (side ∷ later) h = (expired_disables side (is_expired side h.0), expiring_disable later h.1)

-- a place that is empty stays so
expired_none : (told : List Side) → AreExpiring told → (o : Office) (place : ℕ) → place_at o.table.places place ≡ None → place_at (by_sides told o).table.places place ≡ None
expired_none [] h o place e = e
expired_none (side ∷ later) h o place e = expired_none later h.1 (by_side side o) place (one (is_expired side h.0))
  where
    one : IsExpired side → place_at (by_side side o).table.places place ≡ None
    one x =
        subst (λ y. place_at (by_side y o).table.places place ≡ None) (sym x.is)
        (get_or-map (at_id x.id (λ own. None)) o.table.places place None ∙ ap (at_id x.id (λ own. None)) e)

pub record There (x : Option Login) : Type 0 where
  pub login : Login
  pub is : x ≡ Some login

-- a register that is disabled was so, or its place is empty then
expired_off : (told : List Side) → AreExpiring told → (o : Office) (E : List Bool) (place : ℕ) → length E ≡ 8 → place < 8 → slice_index_or E place false ≡ false → slice_index_or (all_disabled told o E) place false ≡ false
expired_off [] h o E place size small e = e
expired_off (side ∷ later) h o E place size small e = one (is_expired side h.0) (λ now E' size' e'. expired_off later h.1 now E' place size' small e')
  where
    disabled_off : (found : Option ℕ) → slice_index_or (disabled_at found E) place false ≡ false
    disabled_off None = e
    disabled_off (Some k) = off_at E k place size small ∙ cond_off (nat_eq place k) (slice_index_or E place false) e

    disabled_size : (found : Option ℕ) → length (disabled_at found E) ≡ 8
    disabled_size None = size
    disabled_size (Some k) = length-set E k false ∙ size

    one : IsExpired side → ((now : Office) (E' : List Bool) → length E' ≡ 8 → slice_index_or E' place false ≡ false → slice_index_or (all_disabled later now E') place false ≡ false) → slice_index_or (all_disabled (side ∷ later) o E) place false ≡ false
    one x rest =
        let found = position (has_id x.id) o.table.places in
        subst (λ y. slice_index_or (all_disabled (y ∷ later) o E) place false ≡ false) (sym x.is)
        (rest (by_side (sides.Expired x.id) o) (disabled_at found E) (disabled_size found) (disabled_off found))

gone_at : (id : ℕ) (x : Option Login) → has_id id x ≡ true → at_id id (λ own. None) x ≡ None
gone_at id None e = refl
gone_at id (Some login) e = ap (λ b. cond b None (Some login)) e

-- the place of a login that expires is empty
expired_place : (later : List Side) → AreExpiring later → (o : Office) (id place k : ℕ) → (let now = by_side (sides.Expired id) o in There (place_at (by_sides later now).table.places place) → position (has_id id) o.table.places ≡ Some k → nat_eq place k ≡ false)
expired_place later h o id place k l e = by (nat_eq place k) refl
  where
    by : (b : Bool) → nat_eq place k ≡ b → b ≡ false
    by true q =
        let now = by_side (sides.Expired id) o in
        let same : place ≡ k = grind (arith, nat_tests) in
        let p = position-Some (has_id id) o.table.places k None e in
        let none : place_at now.table.places place ≡ None =
        get_or-map (at_id id (λ own. None)) o.table.places place None ∙ ap (λ n. at_id id (λ own. None) (place_at o.table.places n)) same ∙ gone_at id (place_at o.table.places k) p.1 in
        absurd (let z : None ≡ Some l.login = sym (expired_none later h now place none) ∙ l.is in cc)
    by false q = refl

abbrev StaysOn : (later : List Side) (place : ℕ) → Type 0
StaysOn later place = (now : Office) (E : List Bool) → length E ≡ 8 → There (place_at (by_sides later now).table.places place) → slice_index_or (all_disabled later now E) place false ≡ slice_index_or E place false

expired_on : (told : List Side) → AreExpiring told → (o : Office) (E : List Bool) (place : ℕ) → length E ≡ 8 → place < 8 → There (place_at (by_sides told o).table.places place) → slice_index_or (all_disabled told o E) place false ≡ slice_index_or E place false
expired_on [] h o E place size small l = refl
expired_on (side ∷ later) h o E place size small l = one (is_expired side h.0) (λ now E' size' l'. expired_on later h.1 now E' place size' small l')
  where
    by : (id : ℕ) → StaysOn later place → There (place_at (by_sides later (by_side (sides.Expired id) o)).table.places place) → (found : Option ℕ) → position (has_id id) o.table.places ≡ found → slice_index_or (all_disabled later (by_side (sides.Expired id) o) (disabled_at found E)) place false ≡ slice_index_or E place false
    by id rest here None e = rest (by_side (sides.Expired id) o) E size here
    by id rest here (Some k) e =
        rest (by_side (sides.Expired id) o) (slice_set E k false) (length-set E k false ∙ size) here
        ∙ off_at E k place size small
        ∙ ap (λ b. cond b false (slice_index_or E place false)) (expired_place later h.1 o id place k here e)

    one : IsExpired side → StaysOn later place → slice_index_or (all_disabled (side ∷ later) o E) place false ≡ slice_index_or E place false
    one x rest =
        let here : There (place_at (by_sides later (by_side (sides.Expired x.id) o)).table.places place) = subst (λ y. There (place_at (by_sides later (by_side y o)).table.places place)) x.is l in
        subst (λ y. slice_index_or (all_disabled (y ∷ later) o E) place false ≡ slice_index_or E place false) (sym x.is)
        (by x.id rest here (position (has_id x.id) o.table.places) refl)

pub expired_ends : (told : List Side) → AreExpiring told → (o : Office) (E : List Bool) (place : ℕ) → length E ≡ 8 → place < 8 → (b : Bool) → slice_index_or E place false ≡ b → (b ≡ true → There (place_at (by_sides told o).table.places place)) → slice_index_or (all_disabled told o E) place false ≡ b
expired_ends told h o E place size small false e f = expired_off told h o E place size small e
expired_ends told h o E place size small true e f = expired_on told h o E place size small (f refl) ∙ e

-- no live login has the place of one that is entered
abbrev pub IsFree : List (Option Login) → Effect → Type 0
IsFree places (effects.Entered place replaced) = (own : Login) → place_at places place ≡ Some own → is_live own ≡ false
IsFree places effect = Unit {0}

-- ---- a decision
module _ (node : NodeState) (live : AreLive node) (apart : AreApart node.logins.places) (o : Office) (same : o.table ≡ node.logins) (E : List Bool) (size : length E ≡ 8) (first : (place : ℕ) → place < 8 → slice_index_or E place false ≡ (desk_at node place).is_enabled) where
  abbrev before : ℕ → Bool
  before place = (desk_at node place).is_enabled

  abbrev Ends : List Side → NodeState → Type 0
  Ends told now = (place : ℕ) → place < 8 → slice_index_or (all_disabled told o E) place false ≡ (desk_at now place).is_enabled

  quietly : (s : Scene) (t : Table) → Cuts before t s → Ends s.outbox.sides s.node
  quietly s t c place small =
      ap (λ xs. slice_index_or xs place false) (muted s.outbox.sides o E c.mute).registers ∙ first place small ∙ sym (c.registers place)

  -- ---- a login is entered
  module _ (place : ℕ) (free : (own : Login) → place_at node.logins.places place ≡ Some own → is_live own ≡ false) where
    entered_off : (other : ℕ) → other < 8 → (E' : List Bool) → (before other ≡ false → slice_index_or E' other false ≡ false) → ((before other ≡ true) → HasLive node.logins.places other → slice_index_or E' other false ≡ true) → slice_index_or E' other false ≡ cond (nat_eq other place) false (before other)
    entered_off other small E' f g = by (before other) refl
      where
        not_here : HasLive node.logins.places other → (b : Bool) → nat_eq other place ≡ b → b ≡ false
        not_here l true q =
            let there : other ≡ place = grind (arith, nat_tests) in
            absurd (false≢true (sym (free l.login (ap (place_at node.logins.places) (sym there) ∙ l.is)) ∙ l.live))
        not_here l false q = refl

        by : (b : Bool) → before other ≡ b → slice_index_or E' other false ≡ cond (nat_eq other place) false (before other)
        by false e = f e ∙ sym (cond_off (nat_eq other place) (before other) e)
        by true e =
            let l = live other e in
            g e l ∙ sym (ap (λ b. cond b false (before other)) (not_here l (nat_eq other place) refl) ∙ e)

    replaced_keeps : (id : ℕ) → IsReplaced node.logins.places id → (other : ℕ) → HasLive node.logins.places other → (k : ℕ) → position (has_id id) node.logins.places ≡ Some k → nat_eq other k ≡ false
    replaced_keeps id r other l k e = by (nat_eq other k) refl
      where
        by : (b : Bool) → nat_eq other k ≡ b → b ≡ false
        by true q =
            let here : other ≡ k = grind (arith, nat_tests) in
            let own = (found_at id node.logins.places k e).own in
            let one : k ≡ r.place = one_place id node.logins.places apart k r.place own.login r.login own.is r.is own.id_is r.id_is in
            let both : Some l.login ≡ Some r.login = sym l.is ∙ ap (place_at node.logins.places) (here ∙ one) ∙ r.is in
            let same_login : l.login ≡ r.login = cc in
            absurd (false≢true (sym r.old ∙ sym (ap is_live same_login) ∙ l.live))
        by false q = refl

    disabled_by : (id : ℕ) → IsReplaced node.logins.places id → (other : ℕ) → other < 8 → (x : Option ℕ) → position (has_id id) node.logins.places ≡ x → slice_index_or (disabled_at x E) other false ≡ cond (nat_eq other place) false (before other)
    disabled_by id r other small None e = entered_off other small E (λ f. first other small ∙ f) (λ f l. first other small ∙ f)
    disabled_by id r other small (Some k) e =
        let off = off_at E k other size small in
        entered_off other small (slice_set E k false) (λ f. off ∙ cond_off (nat_eq other k) (slice_index_or E other false) (first other small ∙ f))
        (λ f l. off ∙ ap (λ b. cond b false (slice_index_or E other false)) (replaced_keeps id r other l k e) ∙ first other small ∙ f)

    entered_ends : (replaced : Option ℕ) (begun : NodeState) (subject : ℕ) → begun.desks ≡ node.desks → IsOld replaced node.logins.places → (let x = effect_by (effects.Entered place replaced) subject (scene begun empty_outbox) in Ends x.outbox.sides x.node)
    entered_ends None begun subject d i other small =
        entered_off other small E (λ f. first other small ∙ f) (λ f l. first other small ∙ f)
        ∙ sym (register_off begun place (record (desk_at begun place) { pointer = None; is_enabled = false }) refl other ∙ ap (λ b. cond (nat_eq other place) false b) ((same_registers node begun d).each other))
    entered_ends (Some id) begun subject d i other small =
        ap (λ (y : Table). slice_index_or (disabled_at (position (has_id id) y.places) E) other false) same
        ∙ disabled_by id i other small (position (has_id id) node.logins.places) refl
        ∙ sym (register_off begun place (record (desk_at begun place) { pointer = None; is_enabled = false }) refl other ∙ ap (λ b. cond (nat_eq other place) false b) ((same_registers node begun d).each other))

  -- ---- a login leaves
  module _ (place subject : ℕ) (own : Login) (was : place_at node.logins.places place ≡ Some own) (id_is : own.login ≡ subject) where
    left_off : (other : ℕ) → other < 8 → (x : Option ℕ) → position (has_id subject) node.logins.places ≡ x → slice_index_or (disabled_at x E) other false ≡ cond (nat_eq other place) false (before other)
    left_off other small None e =
        absurd (false≢true (sym (position_none (has_id subject) node.logins.places place None e (within node.logins.places place own was)) ∙ has_own subject (place_at node.logins.places place) own was id_is))
    left_off other small (Some k) e =
        let f = (found_at subject node.logins.places k e).own in
        let one : k ≡ place = one_place subject node.logins.places apart k place f.login own f.is was f.id_is id_is in
        off_at E k other size small ∙ ap (λ n. cond (nat_eq other n) false (slice_index_or E other false)) one ∙ ap (λ b. cond (nat_eq other place) false b) (first other small)

  -- where the place of the login that leaves is empty then
  placed_none : (found : Option ℕ) (decided : Option Decided) (id : ℕ) (x : Office) (place : ℕ) → place_at (placed found decided id x).table.places place ≡ None → place_at x.table.places place ≡ None
  placed_none None decided id x place e = e
  placed_none (Some k) None id x place e = e
  placed_none (Some k) (Some d) id x place e = by (nat_lt k (length x.table.places)) refl e
    where
      login : Login
      login = entered (asked_by d.orb d.source d.eui) k id

      by_place : (b : Bool) → cond b (Some login) (place_at x.table.places place) ≡ None → place_at x.table.places place ≡ None
      by_place true f = absurd (let z : Some login ≡ None = f in cc)
      by_place false f = f

      by : (b : Bool) → nat_lt k (length x.table.places) ≡ b → place_at (slice_set x.table.places k (Some login)) place ≡ None → place_at x.table.places place ≡ None
      by true q f =
          let below : k < length x.table.places = grind (arith, nat_tests) in
          by_place (nat_eq place k) (sym (set_at x.table.places k place (Some login) None below) ∙ f)
      by false q f =
          let past : length x.table.places ≤ k = grind (arith, nat_tests) in
          sym (ap (λ ps. place_at ps place) (set_past x.table.places k (Some login) past)) ∙ f

  login_none : (login : Option ℕ) (x : Office) (place : ℕ) → place_at (placed_by login x).table.places place ≡ None → place_at x.table.places place ≡ None
  login_none None x place e = e
  login_none (Some id) x place e = placed_none (position is_none x.table.places) x.decided id x place e

  managed_none : (word : FunctionWord) (login : Option ℕ) (x : Office) (place : ℕ) → place_at (by_managed word login x).table.places place ≡ None → place_at x.table.places place ≡ None
  managed_none functions.Login login x place e = login_none login x place e
  managed_none functions.Query login x place e = e
  managed_none functions.Reconnect login x place e = e
  managed_none functions.Logout login x place e = e
  managed_none functions.Abort login x place e = e
  managed_none functions.AbortSet login x place e = e
  managed_none functions.UnitReset login x place e = e
  managed_none functions.TargetReset login x place e = e
  managed_none functions.Other login x place e = e

  gone : (login : Login) (id : ℕ) → at_id id (λ own. None) (Some login) ≡ None → login.login ≡ id
  gone login id e = by (nat_eq login.login id) refl e
    where
      by : (b : Bool) → nat_eq login.login id ≡ b → cond b None (Some login) ≡ None → login.login ≡ id
      by true q f = grind (arith, nat_tests)
      by false q f = absurd (let z : Some login ≡ None = f in cc)

  -- ---- all effects
  module _ (d : Decision) (source : ℕ) (begun : NodeState) (t : Table) (desks : begun.desks ≡ node.desks) (logins : begun.logins ≡ t) where
    abbrev managed : Side
    managed = sides.Managed source d.function d.subject d.status d.login

    starts : Cuts before t (scene begun empty_outbox)
    starts = record { registers = λ place. (same_registers node begun desks).each place; mute = tt; logins_are = logins }

    leaves : (place : ℕ) (s : Scene) → Cuts before t s → Empties node.logins.places t.places place → (by_side managed (by_sides (s.outbox.sides ++ sides.Left d.subject ∷ []) o)).table ≡ t → Ends (s.outbox.sides ++ sides.Left d.subject ∷ []) (with_desk s.node place (record (desk_at s.node place) { is_enabled = false }))
    leaves place s c x final other small =
        let told = s.outbox.sides in
        let m = muted told o E c.mute in
        let left = by_side (sides.Left d.subject) (by_sides told o) in
        let table_is : left.table.places ≡ map (at_id d.subject (λ own. None)) node.logins.places = ap (λ (y : Table). map (at_id d.subject (λ own. None)) y.places) (m.table ∙ same) in
        let empty : place_at (by_side managed left).table.places place ≡ None =
        ap (λ (y : Office). place_at (by_side managed y).table.places place) (sym (sides_append told (sides.Left d.subject ∷ []) o)) ∙ ap (λ (y : Table). place_at y.places place) final ∙ x.empty in
        let none : place_at left.table.places place ≡ None = managed_none (function_word d.function) (login_if (function_word d.function) d.status d.login) left place empty in
        let id_is = gone x.login d.subject
        (ap (at_id d.subject (λ own. None)) (sym x.was) ∙ sym (get_or-map (at_id d.subject (λ own. None)) node.logins.places place None) ∙ sym (ap (λ ps. place_at ps place) table_is) ∙ none) in
        ap (λ xs. slice_index_or xs other false)
        (disabled_append told (sides.Left d.subject ∷ []) o E
        ∙ ap (λ (y : Table). disabled_at (position (has_id d.subject) y.places) (all_disabled told o E)) (m.table ∙ same)
        ∙ ap (disabled_at (position (has_id d.subject) node.logins.places)) m.registers)
        ∙ left_off place d.subject x.login x.was id_is other small (position (has_id d.subject) node.logins.places) refl
        ∙ sym (register_off s.node place (record (desk_at s.node place) { is_enabled = false }) refl other ∙ ap (λ b. cond (nat_eq other place) false b) (c.registers other))

    -- what it tells, and the logins
    record Tells (told : List Side) (now : NodeState) : Type 0 where
      disabling : AreDisabling told
      logins_are : now.logins ≡ t

    cuts_tell : (s : Scene) → Cuts before t s → Tells s.outbox.sides s.node
    cuts_tell s c = record { disabling = (muted s.outbox.sides o E c.mute).disabling; logins_are = c.logins_are }

    enters_tell : (place : ℕ) (replaced : Option ℕ) → (let x = effect_by (effects.Entered place replaced) d.subject (scene begun empty_outbox) in Tells x.outbox.sides x.node)
    enters_tell place None = record { disabling = tt; logins_are = logins }
    enters_tell place (Some id) = record { disabling = (tt, tt); logins_are = logins }

    effect_tells : (effect : Effect) → (let x = effect_by effect d.subject (scene begun empty_outbox) in Tells x.outbox.sides x.node)
    effect_tells effects.Nothing = cuts_tell (scene begun empty_outbox) starts
    effect_tells (effects.Entered place replaced) = enters_tell place replaced
    effect_tells (effects.Back place) = record { disabling = (tt, tt); logins_are = logins }
    effect_tells (effects.Left place) =
        let s = cut_placed (place_in place) cuts.Logout (scene begun empty_outbox) in
        let c = cuts_tell s (cuts_placed before t (place_in place) cuts.Logout (scene begun empty_outbox) starts) in
        record { disabling = disabling_append s.outbox.sides (sides.Left d.subject ∷ []) c.disabling (tt, tt); logins_are = c.logins_are }
    effect_tells (effects.Abort place orb) = record { disabling = tt; logins_are = logins }
    effect_tells (effects.AbortSet place) =
        let c = cuts_tell (cut_placed (place_in place) cuts.AbortSet (scene begun empty_outbox)) (cuts_placed before t (place_in place) cuts.AbortSet (scene begun empty_outbox) starts) in
        record { disabling = c.disabling; logins_are = c.logins_are }
    effect_tells (effects.UnitReset unit) =
        let s = cut_all cuts.UnitReset (Some unit) (scene begun empty_outbox) in
        let c = cuts_tell (clear_one unit s) (clears_one before t unit s (cuts_all before t cuts.UnitReset (Some unit) (scene begun empty_outbox) starts)) in
        record { disabling = c.disabling; logins_are = c.logins_are }
    effect_tells effects.TargetReset =
        let s = cut_all cuts.TargetReset None (scene begun empty_outbox) in
        let c = cuts_tell (clear_from (length s.node.units) 0 s) (clears_from before t (length s.node.units) 0 s (cuts_all before t cuts.TargetReset None (scene begun empty_outbox) starts)) in
        record { disabling = c.disabling; logins_are = c.logins_are }

    effect_ends : (effect : Effect) → Spares effect node.logins t → IsFree node.logins.places effect → (let x = effect_by effect d.subject (scene begun empty_outbox) in (by_side managed (by_sides x.outbox.sides o)).table ≡ t → Ends x.outbox.sides x.node)
    effect_ends effects.Nothing spares free final = quietly (scene begun empty_outbox) t starts
    effect_ends (effects.Entered place replaced) spares free final = entered_ends place free replaced begun d.subject desks spares.1
    effect_ends (effects.Back place) spares free final = λ other small. first other small ∙ sym (starts.registers other)
    effect_ends (effects.Left place) spares free final =
        leaves place (cut_placed (place_in place) cuts.Logout (scene begun empty_outbox)) (cuts_placed before t (place_in place) cuts.Logout (scene begun empty_outbox) starts) spares.1 final
    effect_ends (effects.Abort place orb) spares free final =
        quietly (scene (with_desk begun place (record (desk_at begun place) { agent = abort_step (desk_at begun place).agent orb })) empty_outbox) t
        (record { registers = λ other. (desk_same begun place (record (desk_at begun place) { agent = abort_step (desk_at begun place).agent orb }) refl).each other ∙ starts.registers other; mute = tt; logins_are = logins })
    effect_ends (effects.AbortSet place) spares free final =
        quietly (cut_placed (place_in place) cuts.AbortSet (scene begun empty_outbox)) t (cuts_placed before t (place_in place) cuts.AbortSet (scene begun empty_outbox) starts)
    effect_ends (effects.UnitReset unit) spares free final =
        let c = cut_all cuts.UnitReset (Some unit) (scene begun empty_outbox) in
        quietly (clear_one unit c) t (clears_one before t unit c (cuts_all before t cuts.UnitReset (Some unit) (scene begun empty_outbox) starts))
    effect_ends effects.TargetReset spares free final =
        let c = cut_all cuts.TargetReset None (scene begun empty_outbox) in
        quietly (clear_from (length c.node.units) 0 c) t (clears_from before t (length c.node.units) 0 c (cuts_all before t cuts.TargetReset None (scene begun empty_outbox) starts))

  -- ---- the decision, and what follows it
  module _ (layer : Layer Purpose) (source : ℕ) (step : ManagerStep) (m : management.Machine) (t : Table) (spares : Spares step.effect node.logins t) (free : (d : Decision) → step.decided ≡ Some d → IsFree node.logins.places step.effect) where
    abbrev begun : NodeState
    begun = with_manager (record node { layer = layer }) (m, t)

    abbrev decided : Scene
    decided = decided_by step.decided step.effect source (scene begun empty_outbox)

    abbrev last : Scene
    last = ask_manager source step.ask (failed_by source step.failed decided)

    none_more : (xs : List Side) → xs ++ [] ≡ xs
    none_more [] = refl
    none_more (x ∷ xs) = ap (λ ys. x ∷ ys) (none_more xs)

    follows : (base : List Side) → decided.outbox.sides ≡ base → More base last.outbox.sides
    follows base e =
        asks_more base source step.ask (failed_by source step.failed decided)
        (failed_more base source step.failed decided.outbox (record { later = []; mute = tt; is = e ∙ sym (none_more base) }))

    last_desks : last.node.desks ≡ decided.node.desks
    last_desks = (ask_keeps source step.ask (failed_by source step.failed decided)).desks

    last_logins : last.node.logins ≡ decided.node.logins
    last_logins = ask_logins source step.ask (failed_by source step.failed decided)

    -- what was told first, and mute sides behind
    record Base : Type 0 where
      base : List Side
      now : NodeState
      sides_are : decided.outbox.sides ≡ base
      desks_are : decided.node.desks ≡ now.desks
      logins_are : decided.node.logins ≡ t
      disabling : AreDisabling base
      ends : (by_sides base o).table ≡ t → Ends base now

    base_by : (decision : Option Decision) → step.decided ≡ decision → Base
    unfolding decided_by
    base_by None e =
        let same_scene : decided ≡ scene begun empty_outbox = ap (λ (x : Option Decision). decided_by x step.effect source (scene begun empty_outbox)) e in
        record {
          base = [];
          now = begun;
          sides_are = ap (λ (s : Scene). s.outbox.sides) same_scene;
          desks_are = ap (λ (s : Scene). s.node.desks) same_scene;
          logins_are = ap (λ (s : Scene). s.node.logins) same_scene;
          disabling = tt;
          ends = λ final place small. first place small;
        }
    base_by (Some d) e =
        let x = effect_by step.effect d.subject (scene begun empty_outbox) in
        let side = managed d source begun t refl refl in
        let whole : decided ≡ scene x.node (with_side x.outbox side) = ap (λ (y : Option Decision). decided_by y step.effect source (scene begun empty_outbox)) e in
        let told = effect_tells d source begun t refl refl step.effect in
        record {
          base = x.outbox.sides ++ side ∷ [];
          now = x.node;
          sides_are = ap (λ (s : Scene). s.outbox.sides) whole;
          desks_are = ap (λ (s : Scene). s.node.desks) whole;
          logins_are = ap (λ (s : Scene). s.node.logins) whole ∙ told.logins_are;
          disabling = disabling_append x.outbox.sides (side ∷ []) told.disabling (tt, tt);
          ends = λ final place small.
              let f = effect_ends d source begun t refl refl step.effect spares (free d e) (ap (λ (y : Office). y.table) (sym (sides_append x.outbox.sides (side ∷ []) o)) ∙ final) in
              ap (λ xs. slice_index_or xs place false) (disabled_append x.outbox.sides (side ∷ []) o E) ∙ f place small;
        }

    abbrev first_told : Base
    first_told = base_by step.decided refl

    pub manager_logins : last.node.logins ≡ t
    manager_logins = last_logins ∙ first_told.logins_are

    pub manager_tells : AreDisabling last.outbox.sides
    manager_tells =
        let b = first_told in
        let more = follows b.base b.sides_are in
        subst AreDisabling (sym more.is) (disabling_append b.base more.later b.disabling (muted more.later o E more.mute).disabling)

    pub manager_ends : (by_sides last.outbox.sides o).table ≡ t → Ends last.outbox.sides last.node
    manager_ends final place small =
        let b = first_told in
        let more = follows b.base b.sides_are in
        let behind = muted more.later (by_sides b.base o) (all_disabled b.base o E) more.mute in
        let table_is : (by_sides b.base o).table ≡ t = sym behind.table ∙ ap (λ (y : Office). y.table) (sym (sides_append b.base more.later o)) ∙ ap (λ told. (by_sides told o).table) (sym more.is) ∙ final in
        ap (λ told. slice_index_or (all_disabled told o E) place false) more.is
        ∙ ap (λ xs. slice_index_or xs place false) (disabled_append b.base more.later o E ∙ behind.registers)
        ∙ b.ends table_is place small
        ∙ sym ((same_registers b.now last.node (last_desks ∙ b.desks_are)).each place)
