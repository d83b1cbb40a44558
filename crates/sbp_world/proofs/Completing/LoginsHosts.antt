-- What a moment leaves of the logins that a host asked for, of its operation of management and of the ORBs in its places: all stays, but over the request by which such an operation begins. That one puts an ORB into
-- the next place, which names the FIFO of the login that is asked for then, or else that of the place.
use Rattle.sbp_world.proofs.Words.Std.{arith, ◌≡◌, ◌∙◌, refl, sym, ap, subst, ◌<◌, ◌+◌, ◌-◌, ◌*◌, ◌^◌, ◌%◌, ◌==◌, ◌&&◌, not, ℕ, zero, suc, nat_eq, Bool, true, false, cond, List, ◌∷◌, Option, Some, None, nat_tests, same_Some}
use Rattle.sbp_world.proofs.Words.Wire.{Action, Event, Moment, Note, Operation, Part, Sending, asked, part_of, request, response, said, terms}
use Rattle.sbp_world.proofs.Words.Initiator.{ManagementOrb, management_bytes, management_orb}
use Rattle.sbp_world.proofs.Words.Laws.{Host, Underway, acted, event_of, goes_on, host_at, is_management, is_own, known_host, management_orb_of, operation_of, place_bytes, place_held, place_written, present_list, ring, sent_in}
use Rattle.sbp_world.proofs.Words.World.{IsAsking, IsLoginFifo, manages, orb_in_place}
use Rattle.sbp_journal.specs.Transactions.{no_packet}
use Rattle.sbp_journal.specs.declared.event.Action.TheVariants as actions
use Rattle.sbp_journal.specs.declared.event.Event.TheVariants as events
use Rattle.sbp_journal.specs.declared.note.Note.TheVariants as notes
use Rattle.sbp_journal.specs.declared.operation.Operation.TheVariants as operations
use Rattle.sbp_laws.specs.Hosts.{sent_as}
use Rattle.sbp_laws.specs.Targets.{login_fifo}
use Rattle.sbp_world.proofs.Common.{itself, untrue}
use Rattle.sbp_world.proofs.Completing.LatestHosts.{is_other, other_same}
use Rattle.sbp_world.proofs.Lists.ManageFirsts.{Goes, is_begin, note_first, same_goes}
use Rattle.sbp_world.proofs.Lists.ManageGot.{IsWriting}
use Rattle.sbp_world.proofs.Lists.ManageMoments.{IsActing}
use Rattle.sbp_world.proofs.Lists.ManageSends.{sent_is, sent_terms}
use Rattle.sbp_world.proofs.Lists.OwnPlaces.{fifo_back}
use Rattle.sbp_world.proofs.Lists.UnderwayHosts.{asked_host}
use Rattle.sbp_world.proofs.Sessions.PlaceNotes.{is_packet, note_places, own_places}

-- ---- the login that was asked for last
-- its FIFO; and an operation of management that is under way is a login
pub record IsLast (host : Host) (fifo : ℕ) : Type 0 where
  pub some : 0 < host.logins
  pub is : fifo ≡ login_fifo (host.logins - 1)
  pub login : (now : Underway) → host.operation ≡ Some now → is_management now.operation ≡ true → now.operation ≡ operations.Login

-- so is a FIFO that is one of a login number
abbrev pub IfLogin : Host → ℕ → Type 0
IfLogin host fifo = IsLoginFifo fifo → IsLast host fifo

-- the ORB in a place names such a one
abbrev pub IsLastIn : List Moment → (i place : ℕ) → Type 0
IsLastIn past i place = IfLogin (host_at past i) (orb_in_place past i place).fifo

-- ---- a host that goes on
pub record Had (old : Host) (now : Underway) : Type 0 where
  pub was : Underway
  pub is : old.operation ≡ Some was
  pub operation : was.operation ≡ now.operation

pub record Keeps (old new : Host) : Type 0 where
  pub logins : new.logins ≡ old.logins
  pub had : (now : Underway) → new.operation ≡ Some now → is_management now.operation ≡ true → Had old now

pub last_on : (old new : Host) (fifo : ℕ) → Keeps old new → IfLogin old fifo → IfLogin new fifo
last_on old new fifo k h own =
    let l = h own in
    let same = k.logins in
    let some = l.some in
    record {
      some = omega (arith, same, some);
      is = l.is ∙ ap (λ n. login_fifo (n - 1)) (sym same);
      login = λ now e m. (let w = k.had now e m in sym w.operation ∙ l.login w.was w.is (ap is_management w.operation ∙ m));
    }

of_goes : (old new : Host) → new.logins ≡ old.logins → Goes old new → Keeps old new
of_goes old new l g = record { logins = l; had = λ now e m. (let w = g.on now e in record { was = w.was; is = w.is; operation = w.operation }) }

same : (old new : Host) → new.logins ≡ old.logins → new.operation ≡ old.operation → Keeps old new
same old new l o = of_goes old new l (same_goes old new o)

self : (host : Host) → Keeps host host
self host = same host host refl refl

pick : (b : Bool) (x old : Host) → Keeps old x → Keeps old (cond b x old)
pick true x old k = k
pick false x old k = self old

-- ---- a request
-- the line is no action of the initiator that begins an operation of management
abbrev pub IsMild : ℕ → Option Event → Type 0
IsMild i event = (action : Action) → event ≡ Some (events.Act i action) → manages (operation_of action) ≡ false

module _ (host : Host) where
  begins : (new : Host) (own : Underway) → new.logins ≡ host.logins → new.operation ≡ Some own → is_management own.operation ≡ false → Keeps host new
  begins new own l o f = record { logins = l; had = λ now e m. untrue (sym f ∙ (ap (λ (u : Underway). is_management u.operation) (same_Some own now (sym o ∙ e)) ∙ m)) }

  rings : (pointer : Option ℕ) (serial : ℕ) → Keeps host (ring pointer serial host)
  rings None serial = same host _ refl refl
  rings (Some first) serial = same host _ refl refl

  acts : (action : Action) → manages (operation_of action) ≡ false → (list : Option ℕ) (serial : ℕ) → Keeps host (acted action (operation_of action) list serial host)
  acts (actions.Login unit reconnect exclusive password) m list serial = untrue (sym m)
  acts (actions.Query unit) m list serial = untrue (sym m)
  acts actions.Reconnect m list serial = untrue (sym m)
  acts actions.Logout m list serial = untrue (sym m)
  acts (actions.Abort k) m list serial = untrue (sym m)
  acts actions.AbortSet m list serial = untrue (sym m)
  acts actions.UnitReset m list serial = untrue (sym m)
  acts actions.TargetReset m list serial = untrue (sym m)
  acts actions.Rom m list serial = begins _ _ refl refl refl
  acts actions.AgentReset m list serial = begins _ _ refl refl refl
  acts actions.Enable m list serial = begins _ _ refl refl refl
  acts actions.State m list serial = same host _ refl refl
  acts actions.Ring m list serial = rings host.pointer serial
  acts (actions.Append cmd) m list serial = rings host.pointer serial
  acts _ m list serial = self host

  goes : (found : Option Underway) (serial : ℕ) → host.operation ≡ found → Keeps host (goes_on found serial host)
  goes None serial e = self host
  goes (Some underway) serial e = record {
    logins = refl;
    had = λ now f m. (let is : record underway { latest = serial } ≡ now = same_Some _ now f in record { was = underway; is = e; operation = ap (λ (u : Underway). u.operation) is });
  }

  goes_now : (serial : ℕ) → Keeps host (goes_on host.operation serial host)
  goes_now serial = goes host.operation serial refl

  sends : (event : Option Event) (i : ℕ) → IsMild i event → (list : Option ℕ) (serial : ℕ) → Keeps host (sent_in event i list serial host)
  sends (Some (events.Act j action)) i mild list serial = by (nat_eq j i) refl
    where
      by : (b : Bool) → nat_eq j i ≡ b → Keeps host (cond b (acted action (operation_of action) list serial host) (goes_on host.operation serial host))
      by true e = let is : j ≡ i = grind (arith, nat_tests) in acts action (mild action (ap (λ n. Some (events.Act n action)) is)) list serial
      by false e = goes_now serial
  sends event i mild list serial = goes_now serial

  parts : (part : Part) (event : Option Event) (i : ℕ) → IsMild i event → (list : Option ℕ) (serial : ℕ) → Keeps host (sent_as part event i list serial host)
  parts (request label kind) event i mild list serial = sends event i mild list serial
  parts (response label kind) event i mild list serial = self host
  parts no_packet event i mild list serial = self host

-- ---- a moment that leaves all
pub record AsBefore (past now : List Moment) (i : ℕ) : Type 0 where
  pub host : Keeps (host_at past i) (host_at now i)
  pub places : (place : ℕ) → place_held now i place ≡ place_held past i place

pub line_before : (line : ℕ) (event : Event) (past : List Moment) (i : ℕ) → AsBefore past (asked line event ∷ past) i
line_before line event past i = record { host = same (host_at past i) (host_at (asked line event ∷ past) i) refl refl; places = λ place. refl }

other_one : (note : Note) → is_begin note ≡ false → is_other note ≡ true
other_one (notes.Begin initiators ready) e = untrue (sym e)
other_one (notes.Sent serial generation from to bytes) e = untrue (sym e)
other_one _ e = refl

other_packet : (note : Note) → is_begin note ≡ false → is_packet note ≡ false
other_packet (notes.Sent serial generation from to bytes) e = untrue (sym e)
other_packet _ e = refl

pub note_before : (note : Note) (past : List Moment) (i : ℕ) → is_begin note ≡ false → AsBefore past (said note ∷ past) i
note_before note past i e = record {
  host = of_goes (host_at past i) (host_at (said note ∷ past) i) (other_same note past (known_host past i).wire i (host_at past i) (other_one note e)).logins (note_first note past i e);
  places = λ place. note_places note past i place (other_packet note e);
}

module _ (serial generation from to : ℕ) (bytes : List ℕ) (past : List Moment) (i : ℕ) (mild : from ≡ suc i → IsMild i (event_of past)) where
  abbrev now : List Moment
  now = said (notes.Sent serial generation from to bytes) ∷ past

  abbrev sent : Host
  sent = sent_as (part_of bytes) (event_of past) i (present_list past i) serial (host_at past i)

  sent_host : (b : Bool) → nat_eq from (suc i) ≡ b → Keeps (host_at past i) (host_at now i)
  sent_host true e = pick ((nat_eq from (suc i)) && not ((known_host past i).wire.injected serial)) sent (host_at past i) (parts (host_at past i) (part_of bytes) (event_of past) i (mild (grind (arith, nat_tests))) (present_list past i) serial)
  sent_host false e = subst (Keeps (host_at past i)) (sym (ap (λ b. cond (b && not ((known_host past i).wire.injected serial)) sent (host_at past i)) e)) (self (host_at past i))

  module _ (place : ℕ) (before : Option ManagementOrb) where
    not_own : (j : ℕ) (found : Option Operation) → (j ≡ i → manages found ≡ false) → is_own i j found ≡ false
    not_own j None f = refl
    not_own j (Some operation) f = by (nat_eq i j) refl
      where
        by : (b : Bool) → nat_eq i j ≡ b → is_own i j (Some operation) ≡ false
        by false e = ap (λ b. b && is_management operation) e
        by true e = ap (λ b. b && is_management operation) e ∙ f (grind (arith, nat_tests))

    not_written : (event : Option Event) → IsMild i event → place_written event past i place before ≡ before
    not_written (Some (events.Act j action)) m =
        ap (λ b. cond (b && ((host_at past i).writes % 2 == place)) (Some (management_orb_of action past i (host_at past i) place)) before)
        (not_own j (operation_of action) (λ e. m action (ap (λ n. Some (events.Act n action)) e)))
    not_written event m = refl

  sent_held : (node place : ℕ) → from ≡ node → place_held (said (notes.Sent serial generation node to bytes) ∷ past) i place ≡ place_held past i place
  sent_held zero place f = refl
  sent_held (suc j) place f = by (nat_eq j i) refl
    where
      by : (b : Bool) → nat_eq j i ≡ b → cond b (place_written (event_of past) past i place (place_held past i place)) (place_held past i place) ≡ place_held past i place
      by false e = refl
      by true e = not_written place (place_held past i place) (event_of past) (mild (f ∙ ap suc (let is : j ≡ i = grind (arith, nat_tests) in is)))

  pub sent_before : AsBefore past now i
  sent_before = record { host = sent_host (nat_eq from (suc i)) refl; places = λ place. sent_held from place refl }

-- ---- the ORB of an action
-- one that names the FIFO of a place names none of a login number
of_place : {A : Type 0} (orb : ManagementOrb) (place : ℕ) → place < 2 → orb.fifo ≡ 0x12002000 + 0x20 * place → IsLoginFifo (management_orb (management_bytes orb)).fifo → A
of_place orb place small is own =
    let back = fifo_back orb (omega (arith, small, is)) in
    let named = own.is in
    absurd (omega (arith, small, is, back, named))

module _ (past : List Moment) (i : ℕ) (host : Host) (place : ℕ) (few : host.logins < 2 ^ 32) (small : place < 2) where
  abbrev Made : Action → Type 0
  Made action = (list : Option ℕ) (serial : ℕ) → IfLogin (acted action (operation_of action) list serial host) (management_orb (management_bytes (management_orb_of action past i host place))).fifo

  made : (action : Action) → manages (operation_of action) ≡ true → Made action
  made (actions.Login unit reconnect exclusive password) m list serial own =
      let last : login_fifo host.logins ≡ login_fifo (host.logins + 1 - 1) = omega arith in
      record {
        some = omega arith;
        is = fifo_back (management_orb_of (actions.Login unit reconnect exclusive password) past i host place) (omega (arith, few)) ∙ last;
        login = λ now e g. ap (λ (u : Underway). u.operation) (sym (same_Some _ now e));
      }
  made (actions.Query unit) m list serial own = of_place (management_orb_of (actions.Query unit) past i host place) place small refl own
  made actions.Reconnect m list serial own = of_place (management_orb_of actions.Reconnect past i host place) place small refl own
  made actions.Logout m list serial own = of_place (management_orb_of actions.Logout past i host place) place small refl own
  made (actions.Abort k) m list serial own = of_place (management_orb_of (actions.Abort k) past i host place) place small refl own
  made actions.AbortSet m list serial own = of_place (management_orb_of actions.AbortSet past i host place) place small refl own
  made actions.UnitReset m list serial own = of_place (management_orb_of actions.UnitReset past i host place) place small refl own
  made actions.TargetReset m list serial own = of_place (management_orb_of actions.TargetReset past i host place) place small refl own
  made _ m list serial own = untrue m

-- ---- the request by which an operation of management begins
-- it is one of its initiator, and was not injected
module _ (serial generation from to : ℕ) (bytes : List ℕ) (past : List Moment) (i place : ℕ) (a : IsAsking (said (notes.Sent serial generation from to bytes) ∷ past) i serial place) where
  packet_is : record { generation = generation; from = from; to = to; bytes = bytes; injected = (terms past).injected serial } ≡ a.packet
  packet_is =
      let q : Sending = record { generation = generation; from = from; to = to; bytes = bytes; injected = (terms past).injected serial } in
      sent_is serial q a.packet (terms past).sent (sym (ap (λ (g : ℕ → Option Sending). g serial) (sent_terms serial q (terms past)).sent) ∙ a.sent)

  pub asking_from : from ≡ suc i
  asking_from = ap (λ (x : Sending). x.from) packet_is ∙ a.from_is

  pub asking_honest : (terms past).injected serial ≡ false
  asking_honest = ap (λ (x : Sending). x.injected) packet_is ∙ a.honest

module _ (serial generation to : ℕ) (bytes : List ℕ) (past : List Moment) (i place : ℕ) (small : place < 2) (honest : (terms past).injected serial ≡ false) (acting : IsActing past i place) (writing : IsWriting bytes) (few : (host_at past i).logins < 2 ^ 32) where
  abbrev begun : List Moment
  begun = said (notes.Sent serial generation (suc i) to bytes) ∷ past

  host_is : host_at begun i ≡ acted acting.action (operation_of acting.action) (present_list past i) serial (host_at past i)
  host_is = asked_host acting.action writing.label _ serial generation to bytes past i acting.line writing.part honest

  own : (found : Option Operation) → manages found ≡ true → is_own i i found ≡ true
  own None m = untrue m
  own (Some operation) m = ap (λ b. b && is_management operation) (itself i) ∙ m

  held_is : place_held begun i place ≡ Some (management_orb_of acting.action past i (host_at past i) place)
  held_is =
      let orb = Some (management_orb_of acting.action past i (host_at past i) place) in
      let before = place_held past i place in
      let at = acting.place_is in
      own_places serial generation to bytes acting.action past i place acting.line
      ∙ (ap (λ b. cond (b && ((host_at past i).writes % 2 == place)) orb before) (own (operation_of acting.action) acting.manages_it)
      ∙ ap (λ b. cond b orb before) (let f : ((host_at past i).writes % 2 == place) ≡ true = grind (arith, nat_tests) in f))

  pub begun_last : IsLastIn begun i place
  begun_last =
      let orb = management_orb_of acting.action past i (host_at past i) place in
      subst (λ h. IfLogin h (orb_in_place begun i place).fifo) (sym host_is)
      (subst (λ (held : Option ManagementOrb). IfLogin (acted acting.action (operation_of acting.action) (present_list past i) serial (host_at past i)) (management_orb (place_bytes held)).fifo) (sym held_is)
      (made past i (host_at past i) place few small acting.action acting.manages_it (present_list past i) serial))

pub asking_last : (serial generation from to : ℕ) (bytes : List ℕ) (past : List Moment) (i place : ℕ) → (let now = said (notes.Sent serial generation from to bytes) ∷ past in IsAsking now i serial place → IsActing past i place → IsWriting bytes → (host_at past i).logins < 2 ^ 32 → IsLastIn now i place)
asking_last serial generation from to bytes past i place a acting writing few =
    subst (λ n. IsLastIn (said (notes.Sent serial generation n to bytes) ∷ past) i place) (sym (asking_from serial generation from to bytes past i place a))
    (begun_last serial generation to bytes past i place a.small (asking_honest serial generation from to bytes past i place a) acting writing few)
