-- What is carried over the turns of a run of the logins of an initiator's node, and that each turn keeps it where the two ends of the management go together.
use Rattle.sbp_world.proofs.Words.Std.{◌≡◌, ◌⊎◌, ℕ, suc, ◌≤◌, Bool, true, false, List, [], ◌∷◌, Option, Some, None}
use Rattle.sbp_world.proofs.Words.Wire.{LabelParts, Packet, judging_step, of_response, Sent, found_sent, id_of, topology_at, judged_note, empty_outbox, Note, Moment}
use Rattle.sbp_world.proofs.Words.Target.{Login, Table, is_live, Managed, Disk, Told, login_at, scene, answer_in, received, whole}
use Rattle.sbp_world.proofs.Words.Initiator.{LoginResponse, login_response, Running, response_of, receive_step, is_stuck_seat}
use Rattle.sbp_world.proofs.Words.Laws.{host_at, EachMoment}
use Rattle.sbp_world.proofs.Words.World.{WorldState, initiator_at, IsAsked, is_written, HasLogin, IsCalmBeside, GoodAt, NoBadAt, OursAt, OwnBy, OwnedAt, BasedAt, HasBase, IsActive, IsTaken, IsTold}
use Rattle.sbp_world.proofs.Hosts.Hosted.{Cored}
use Rattle.sbp_journal.specs.declared.operation.Operation.TheVariants as operations
use Rattle.sbp_session.specs.declared.seat.Seat.TheVariants as seats
use Rattle.sbp_target.specs.declared.purpose.Purpose.TheVariants as purposes
use Rattle.sbp_world.proofs.Sessions.Caught.{is_in}
use Rattle.sbp_world.proofs.Lists.LiveAims.{Aims}
use Rattle.sbp_world.proofs.Lists.LiveGrants.{Grants}
use Rattle.sbp_world.proofs.Lists.LiveHears.{IsAnswered, IsUndone}
use Rattle.sbp_world.proofs.Lists.LiveOwn.{Fit, GaveUp}
use Rattle.sbp_world.proofs.Lists.LiveOwnTurns.{Carried, Pending}
use Rattle.sbp_world.proofs.Lists.LiveReplies.{IsDecidedOn}
use Rattle.sbp_world.proofs.Lists.LiveStandings.{Claims, good_block, number_in, stand_of}
use Rattle.sbp_world.proofs.Lists.LiveTargets.{IsMine, IsWrittenNow}
use Rattle.sbp_world.proofs.Lists.LiveTold.{HeardFirst, TargetTold, TellsAway}
use Rattle.sbp_world.proofs.Lists.LiveTurns.{SameBus}

-- ---- of an initiator in a world
abbrev pub zero_of : WorldState → ℕ
zero_of w = (topology_at w.generations 0).generation

abbrev pub own_of : WorldState → ℕ → ℕ
own_of w i = (topology_at w.generations (suc i)).generation

-- the ID of its node, as the target knows it
abbrev pub id_in : WorldState → ℕ → ℕ
id_in w i = id_of (topology_at w.generations 0) (suc i)

abbrev pub ClaimsOf : List Disk → List Moment → WorldState → ℕ → Type 0
ClaimsOf start past w i = Claims (IsTaken start past i) (IsActive start past i) (IsTold start past i) (stand_of (initiator_at w i).seat) (id_in w i) w.target.manager w.target.logins.places

abbrev pub GaveUpOf : WorldState → ℕ → Type 0
GaveUpOf w i = GaveUp (initiator_at w i).operation (initiator_at w i).seat

pub record Lives (start : List Disk) (past : List Moment) (w : WorldState) (i : ℕ) : Type 0 where
  pub fit : Fit (initiator_at w i).operation (initiator_at w i).seat
  pub aims : Aims (initiator_at w i).operation (stand_of (initiator_at w i).seat)
  pub seen : (number : ℕ) → number_in (stand_of (initiator_at w i).seat) ≡ Some number → GaveUpOf w i ⊎ (own_of w i ≤ zero_of w)
  pub claims : IsCalmBeside past i → zero_of w ≡ own_of w i → GaveUpOf w i ⊎ ClaimsOf start past w i

-- what a status of 00 grants of the entry that it has under way
abbrev pub GrantsOf : List Disk → List Moment → WorldState → ℕ → Type 0
GrantsOf start past w i = Grants (IsActive start past i) (IsTold start past i) (id_in w i) (host_at past i).login.login w.target.manager w.target.logins.places (initiator_at w i)

pub record Grown (start : List Disk) (past : List Moment) (w : WorldState) (i : ℕ) : Type 0 where
  pub grants : IsCalmBeside past i → zero_of w ≡ own_of w i → GrantsOf start past w i
  -- where one waits, in whatever generation the target is, the response in the buffer has the base of the agent of a place; so it had where one was got, and each login
  -- that was done
  pub buffer : IsCalmBeside past i → (orb : ℕ) (bytes : List ℕ) → IsTold start past i orb bytes → bytes ≡ good_block orb → (running : Running) → (initiator_at w i).operation ≡ Some running → running.operation ≡ operations.Login → HasBase (login_response (response_of running (initiator_at w i)))
  pub good : IsCalmBeside past i → EachMoment (GoodAt i) past
  pub based : IsCalmBeside past i → EachMoment (BasedAt i) past
  -- that response names a login which the initiator's node had then; so did that of each login that was done
  pub named : IsCalmBeside past i → (orb : ℕ) (bytes : List ℕ) → IsTold start past i orb bytes → bytes ≡ good_block orb → (running : Running) → (initiator_at w i).operation ≡ Some running → running.operation ≡ operations.Login → OwnBy start past i (login_response (response_of running (initiator_at w i))).login
  pub ours : IsCalmBeside past i → EachMoment (OursAt start i) past
  pub owned : IsCalmBeside past i → EachMoment (OwnedAt start i) past
  -- and one that waits for a logout has status 00, as each had that was got
  pub logout : IsCalmBeside past i → (orb : ℕ) (bytes : List ℕ) → IsTold start past i orb bytes → (running : Running) → (initiator_at w i).operation ≡ Some running → running.operation ≡ operations.Logout → bytes ≡ good_block orb
  pub unbad : IsCalmBeside past i → EachMoment (NoBadAt i) past

-- both
pub record Alive (start : List Disk) (past : List Moment) (w : WorldState) (i : ℕ) : Type 0 where
  pub lives : Lives start past w i
  pub grown : Grown start past w i

-- what is known of an initiator at each place
pub record Knows (ready : Bool) (past : List Moment) (w : WorldState) (i : ℕ) : Type 0 where
  pub cored : Cored ready past i (initiator_at w i)
  pub joined : is_in (initiator_at w i).seat ≡ true → own_of w i ≤ zero_of w
  pub caught : (place : ℕ) (login : Login) → login_at w.target place ≡ Some login → is_live login ≡ true → login.node ≡ id_in w i → zero_of w ≤ own_of w i

-- ---- how the two ends go together, over a turn

-- a packet is delivered to the target
pub record Comes (w : WorldState) (base : List Note) (v : WorldState) (serial : ℕ) (sent : Sent) : Type 0 where
  pub found : found_sent serial w.store.kept ≡ Some sent
  pub to_is : sent.to ≡ 0
  pub told : Option Told
  pub disks : List Disk
  pub is : v.target ≡ (received told sent.generation sent.bytes (whole (scene w.target empty_outbox) disks)).1.node
  pub notes : TargetTold base v.fresh
  pub first : notes.first ≡ judged_note serial (received told sent.generation sent.bytes (whole (scene w.target empty_outbox) disks)).0 ∷ []

pub record HelpsDelivery (start : List Disk) (before : List Moment) (w v : WorldState) (i : ℕ) (generation : ℕ) (bytes : List ℕ) : Type 0 where
  pub begins : (op : Managed) → v.target.manager.operation ≡ Some op → IsAsked w.target generation bytes op → op.source ≡ id_in w i → IsTaken start before i → ⊥
  pub mine : (p : Packet) (label : LabelParts) → (judging_step w.target.layer generation bytes).0 ≡ of_response p label (Some purposes.Management) → (left : Table) (d : IsDecidedOn w.target.manager w.target.logins w.target.keys (answer_in p) left) → d.was.source ≡ id_in w i → IsTaken start before i × IsMine (stand_of (initiator_at w i).seat) d.on.orb
  pub silent : (op : Managed) → w.target.manager.operation ≡ Some op → op.source ≡ id_in w i → is_written op.phase ≡ false → (orb : ℕ) (outgoing : List ℕ) → IsTold start before i orb outgoing → ⊥

-- the target is called
pub record HelpsTarget (start : List Disk) (base : List Note) (before now : List Moment) (w v : WorldState) (i : ℕ) : Type 0 where
  pub on : IsTaken start before i → IsTaken start now i
  pub back : (op : Managed) → w.target.manager.operation ≡ Some op → op.source ≡ id_in w i → IsActive start now i → IsActive start before i
  pub waits : (orb : ℕ) (bytes : List ℕ) → IsTold start now i orb bytes → IsTold start before i orb bytes ⊎ IsWrittenNow (IsActive start now i) (id_in w i) v.target.manager orb bytes
  pub delivery : (serial : ℕ) (sent : Sent) → Comes w base v serial sent → HelpsDelivery start before w v i sent.generation sent.bytes

abbrev pub CarriedOf : List Disk → (before now : List Moment) → WorldState → ℕ → Type 0
CarriedOf start before now w i = Carried (id_in w i) w.target.manager w.target.logins.places (IsTaken start before i) (IsActive start before i) (IsTaken start now i) (IsActive start now i) (IsTold start before i) (IsTold start now i)

-- a packet is delivered to the initiator
pub record HelpsHearing (start : List Disk) (before : List Moment) (w : WorldState) (i : ℕ) (generation : ℕ) (bytes : List ℕ) : Type 0 where
  pub pend : (running : Running) (status : ℕ) → (initiator_at w i).operation ≡ Some running → IsAnswered (initiator_at w i) generation bytes running status → Pending (id_in w i) w.target.manager w.target.logins.places (IsTaken start before i) (IsActive start before i) (IsTaken start before i) (IsActive start before i) (IsTold start before i) (IsTold start before i) status
  pub grant_in : (running : Running) → (initiator_at w i).operation ≡ Some running → IsAnswered (initiator_at w i) generation bytes running 0 → running.operation ≡ operations.Login → HasLogin w.target.logins.places (id_in w i) (login_response (response_of running (initiator_at w i))).login
  pub grant_back : (running : Running) → (initiator_at w i).operation ≡ Some running → IsAnswered (initiator_at w i) generation bytes running 0 → running.operation ≡ operations.Reconnect → (own : LoginResponse) → (initiator_at w i).seat ≡ seats.Returning own → HasLogin w.target.logins.places (id_in w i) own.login
  pub refused : (running : Running) → (initiator_at w i).operation ≡ Some running → IsUndone (initiator_at w i) generation bytes running → IsTaken start before i → ⊥

-- the initiator is called, or another
pub record HelpsOwn (start : List Disk) (base : List Note) (before now : List Moment) (w v : WorldState) (i : ℕ) : Type 0 where
  pub carried : (initiator_at v i).operation ≡ (initiator_at w i).operation → CarriedOf start before now w i
  pub hearing : (serial : ℕ) (sent : Sent) → found_sent serial w.store.kept ≡ Some sent → sent.to ≡ suc i → HeardFirst serial (receive_step sent.generation sent.bytes empty_outbox (initiator_at w i)).0 base v.fresh → HelpsHearing start before w i sent.generation sent.bytes
  pub begun : (running : Running) → (initiator_at w i).operation ≡ None → (initiator_at v i).operation ≡ Some running → is_stuck_seat (initiator_at w i).seat ≡ false → is_stuck_seat (initiator_at v i).seat ≡ false → IsActive start now i → ⊥
  pub silent : (running : Running) → (initiator_at w i).operation ≡ None → (initiator_at v i).operation ≡ Some running → is_stuck_seat (initiator_at w i).seat ≡ false → is_stuck_seat (initiator_at v i).seat ≡ false → (orb : ℕ) (bytes : List ℕ) → IsTold start now i orb bytes → ⊥

-- of a calm initiator in the target's generation
pub record Helps (start : List Disk) (base : List Note) (before now : List Moment) (w v : WorldState) (i : ℕ) : Type 0 where
  pub target : SameBus i w v → (initiator_at v i ≡ initiator_at w i) → TargetTold base v.fresh → (GaveUpOf w i → ⊥) → HelpsTarget start base before now w v i
  pub own : SameBus i w v → v.target ≡ w.target → TellsAway i w base v → HelpsOwn start base before now w v i
