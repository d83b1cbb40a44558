-- What a call of the target hands out, as far as status blocks go: of its packets at most one writes a status block, the first one that writes; and it has the status
-- of the ORB whose end was told last.
use Rattle.sbp_world.proofs.Words.Std.{◌≡◌, ◌∙◌, refl, sym, ap, ℕ, true, false, List, [], ◌∷◌, ◌++◌, length, Option, Some, None, Ok, false≢true}
use Rattle.sbp_world.proofs.Words.Wire.{Access, Outgoing, Side, OutboxState}
use Rattle.sbp_world.proofs.Words.Target.{Login, Table, is_live, place_at, unsolicited_block, block_head, AgentStep, Machine, Outcome, orb_of, tell_dead, tell_ended, tell_ran, tell_step}
use Rattle.sbp_world.proofs.Words.Initiator.{start_of, window_at, StatusBlock, StatusKind, read_block, FailCause}
use Rattle.sbp_world.proofs.Words.Laws.{access_in_bytes, is_write_in}
use Rattle.sbp_world.proofs.Words.World.{IsPlaceWrite, IsBufferWrite, IsFifo, IsStatusWrite}
use Rattle.bus_memory.specs.declared.window.Window.TheVariants as windows
use Rattle.sbp_journal.specs.declared.side.Side.TheVariants as sides
use Rattle.sbp_world.specs.Lists.Statuses.{IsTold}
use Rattle.sbp_world.proofs.Lists.StatusBytes.{written_at}
use Rattle.sbp_world.proofs.Lists.StatusReads.{IsRead}
use Rattle.sbp_world.proofs.Lists.StatusSteps.{rests}

-- ---- the end that was told last

pub record EndSide : Type 0 where
  pub place : ℕ
  pub orb : ℕ
  pub kind : StatusKind

abbrev pub one_end : Side → Option EndSide
one_end (sides.Ended place orb status) = Some (record { place = place; orb = orb; kind = status })
one_end _ = None

abbrev pub or_before : Option EndSide → Option EndSide → Option EndSide
or_before None early = early
or_before (Some late) early = Some late

abbrev pub told_end : List Side → Option EndSide
told_end [] = None
told_end (side ∷ later) = or_before (told_end later) (one_end side)

or_none : (x : Option EndSide) → or_before None x ≡ or_before x None
or_none None = refl
or_none (Some x) = refl

or_then : (x y z : Option EndSide) → or_before (or_before x y) z ≡ or_before x (or_before y z)
or_then None y z = refl
or_then (Some x) y z = refl

pub told_more : (told : List Side) (side : Side) → told_end (told ++ side ∷ []) ≡ or_before (one_end side) (told_end told)
told_more [] side = or_none (one_end side)
told_more (one ∷ later) side = ap (λ x. or_before x (one_end one)) (told_more later side) ∙ or_then (one_end side) (told_end later) (one_end one)

-- ---- what is told of the agent of a place
abbrev pub IsOf : ℕ → Side → Type 0
IsOf q (sides.Opened place orb) = place ≡ q
IsOf q (sides.Ran place orb cdb payload outcome) = place ≡ q
IsOf q (sides.Ended place orb status) = place ≡ q
IsOf q (sides.Dead place cause) = place ≡ q
IsOf q (sides.Unsolicited place) = Unit {0}
IsOf q (sides.Unsent place) = Unit {0}
IsOf q _ = ⊥

abbrev pub AreOf : ℕ → List Side → Type 0
AreOf q [] = Unit {0}
AreOf q (side ∷ later) = IsOf q side × AreOf q later

pub of_more : (q : ℕ) (told : List Side) (side : Side) → AreOf q told → IsOf q side → AreOf q (told ++ side ∷ [])
of_more q [] side a h = (h, tt)
of_more q (one ∷ later) side a h = (a.0, of_more q later side a.1 h)

-- and the end that was told last
pub record ToldSo (q : ℕ) (told : List Side) (last : Option EndSide) : Type 0 where
  pub end : told_end told ≡ last
  pub of : AreOf q told

-- of a step
abbrev pub end_of : (q : ℕ) → Machine → Option StatusKind → Option EndSide
end_of q m None = None
end_of q m (Some kind) = Some (record { place = q; orb = orb_of m; kind = kind })

module _ (q : ℕ) (m : Machine) where
  ran_end : (x : Option Outcome) (o : OutboxState) → told_end (tell_ran q m x o).sides ≡ told_end o.sides
  ran_end None o = refl
  ran_end (Some outcome) o = told_more o.sides (sides.Ran q (orb_of m) m.orb.cdb m.payload outcome)

  dead_end : (x : Option FailCause) (o : OutboxState) → told_end (tell_dead q x o).sides ≡ told_end o.sides
  dead_end None o = refl
  dead_end (Some cause) o = told_more o.sides (sides.Dead q cause)

  ended_end : (x : Option StatusKind) (o : OutboxState) → told_end (tell_ended q m x o).sides ≡ or_before (end_of q m x) (told_end o.sides)
  ended_end None o = refl
  ended_end (Some status) o = told_more o.sides (sides.Ended q (orb_of m) status)

  pub step_end : (step : AgentStep) (o : OutboxState) → told_end (tell_step q m step o).sides ≡ or_before (end_of q m step.ended) (told_end o.sides)
  unfolding tell_step
  step_end step o =
      let ran = tell_ran q m step.ran o in
      let dead = tell_dead q step.dead ran in
      ended_end step.ended dead ∙ ap (λ x. or_before (end_of q m step.ended) x) (dead_end step.dead ran ∙ ran_end step.ran o)

  ran_of : (x : Option Outcome) (o : OutboxState) → AreOf q o.sides → AreOf q (tell_ran q m x o).sides
  ran_of None o a = a
  ran_of (Some outcome) o a = of_more q o.sides (sides.Ran q (orb_of m) m.orb.cdb m.payload outcome) a refl

  dead_of : (x : Option FailCause) (o : OutboxState) → AreOf q o.sides → AreOf q (tell_dead q x o).sides
  dead_of None o a = a
  dead_of (Some cause) o a = of_more q o.sides (sides.Dead q cause) a refl

  ended_of : (x : Option StatusKind) (o : OutboxState) → AreOf q o.sides → AreOf q (tell_ended q m x o).sides
  ended_of None o a = a
  ended_of (Some status) o a = of_more q o.sides (sides.Ended q (orb_of m) status) a refl

  pub step_of : (step : AgentStep) (o : OutboxState) → AreOf q o.sides → AreOf q (tell_step q m step o).sides
  unfolding tell_step
  step_of step o a =
      let ran = tell_ran q m step.ran o in
      ended_of step.ended (tell_dead q step.dead ran) (dead_of step.dead ran (ran_of step.ran o a))

  -- what it tells leaves the packets
  pub step_packets : (step : AgentStep) (o : OutboxState) → (tell_step q m step o).packets ≡ o.packets
  unfolding tell_step
  step_packets step o = ended_packets step.ended _ ∙ (dead_packets step.dead _ ∙ ran_packets step.ran o)
    where
      ran_packets : (x : Option Outcome) (o : OutboxState) → (tell_ran q m x o).packets ≡ o.packets
      ran_packets None o = refl
      ran_packets (Some outcome) o = refl

      dead_packets : (x : Option FailCause) (o : OutboxState) → (tell_dead q x o).packets ≡ o.packets
      dead_packets None o = refl
      dead_packets (Some cause) o = refl

      ended_packets : (x : Option StatusKind) (o : OutboxState) → (tell_ended q m x o).packets ≡ o.packets
      ended_packets None o = refl
      ended_packets (Some status) o = refl

-- ---- packets

-- a packet writes no status block
abbrev pub IsPlain : Outgoing → Type 0
IsPlain packet = (slot : ℕ) (block : StatusBlock) → IsStatusWrite packet.bytes slot block → ⊥

abbrev pub AllPlain : List Outgoing → Type 0
AllPlain [] = Unit {0}
AllPlain (packet ∷ later) = IsPlain packet × AllPlain later

abbrev pub AllRead : List Outgoing → Type 0
AllRead [] = Unit {0}
AllRead (packet ∷ later) = IsRead packet.bytes × AllRead later

pub read_plain : (packet : Outgoing) → IsRead packet.bytes → IsPlain packet
read_plain packet r slot block w = false≢true (sym r ∙ (ap is_write_in w.is ∙ w.writes))

pub plain_more : (packets : List Outgoing) (packet : Outgoing) → AllPlain packets → IsPlain packet → AllPlain (packets ++ packet ∷ [])
plain_more [] packet h p = (p, tt)
plain_more (one ∷ later) packet h p = (h.0, plain_more later packet h.1 p)

pub reads_more : (packets : List Outgoing) (packet : Outgoing) → AllRead packets → IsRead packet.bytes → AllRead (packets ++ packet ∷ [])
reads_more [] packet h p = (p, tt)
reads_more (one ∷ later) packet h p = (h.0, reads_more later packet h.1 p)

-- The block is of the end that was told last, at a place, of the ORB that it names; and its src is 1 where the agent is at the end of its list then.
pub record IsOfEnd (q : ℕ) (told : Option EndSide) (m : Machine) (block : StatusBlock) : Type 0 where
  pub one : EndSide
  pub is : told ≡ Some one
  pub place_is : one.place ≡ q
  pub orb_is : one.orb ≡ block.orb
  pub kind : IsTold one.kind → one.kind ≡ block.kind
  pub null : rests m ≡ true → block.src ≡ 1

module _ (q peer : ℕ) (Ours : Type 0) where
  pub record IsEnd (told : Option EndSide) (m : Machine) (packet : Outgoing) (block : StatusBlock) : Type 0 where
    pub to_is : packet.to ≡ peer
    pub of : Ours → IsOfEnd q told m block

  abbrev pub OfEnd : Option EndSide → Machine → Outgoing → Type 0
  OfEnd told m packet = (slot : ℕ) (block : StatusBlock) → IsStatusWrite packet.bytes slot block → IsEnd told m packet block

  -- the first one that writes may write a status block
  pub data Spelled (told : Option EndSide) (m : Machine) : List Outgoing → Type 0 where
    sends_none : Spelled told m []
    sends_read : (packet : Outgoing) (later : List Outgoing) → IsRead packet.bytes → Spelled told m later → Spelled told m (packet ∷ later)
    sends_write : (packet : Outgoing) (later : List Outgoing) → OfEnd told m packet → AllPlain later → Spelled told m (packet ∷ later)

  module _ (told : Option EndSide) (m : Machine) where
    pub all_reads : (packets : List Outgoing) → AllRead packets → Spelled told m packets
    all_reads [] h = sends_none
    all_reads (packet ∷ later) h = sends_read packet later h.0 (all_reads later h.1)

    pub one_plain : (packets : List Outgoing) (packet : Outgoing) → IsPlain packet → Spelled told m packets → Spelled told m (packets ++ packet ∷ [])
    one_plain _ packet p sends_none = sends_write packet [] (λ slot block w. absurd (p slot block w)) tt
    one_plain _ packet p (sends_read one later r s) = sends_read one (later ++ packet ∷ []) r (one_plain later packet p s)
    one_plain _ packet p (sends_write one later o a) = sends_write one (later ++ packet ∷ []) o (plain_more later packet a p)

    pub one_writes : (packets : List Outgoing) (packet : Outgoing) → OfEnd told m packet → AllRead packets → Spelled told m (packets ++ packet ∷ [])
    one_writes [] packet o h = sends_write packet [] o tt
    one_writes (one ∷ later) packet o h = sends_read one (later ++ packet ∷ []) h.0 (one_writes later packet o h.1)

  -- of a machine that is at the end of its list only where this one is
  pub spelled_as : (told : Option EndSide) (m now : Machine) → (rests now ≡ true → rests m ≡ true) → (packets : List Outgoing) → Spelled told m packets → Spelled told now packets
  spelled_as told m now f _ sends_none = sends_none
  spelled_as told m now f _ (sends_read packet later r s) = sends_read packet later r (spelled_as told m now f later s)
  spelled_as told m now f _ (sends_write packet later o a) =
      sends_write packet later (λ slot block w. let e = o slot block w in record {
        to_is = e.to_is;
        of = λ ours. let x = e.of ours in record { one = x.one; is = x.is; place_is = x.place_is; orb_is = x.orb_is; kind = x.kind; null = λ r. x.null (f r) };
      }) a

-- ---- a packet that writes a block with the address of a management ORB
abbrev pub IsApart : Outgoing → Type 0
IsApart packet = (place : ℕ) → IsPlaceWrite packet.bytes place → ⊥

pub read_apart : (packet : Outgoing) → IsRead packet.bytes → IsApart packet
read_apart packet r place w = false≢true (sym r ∙ (ap is_write_in w.is ∙ w.writes))

-- the end that was told last is of the ORB at an address
pub record IsEndOf (told : Option EndSide) (orb : ℕ) : Type 0 where
  pub one : EndSide
  pub is : told ≡ Some one
  pub orb_is : one.orb ≡ orb

-- it goes to the node of the login, and the ORB that ended is there
abbrev pub IsNamed : (peer : ℕ) (Ours : Type 0) → Option EndSide → Outgoing → Type 0
IsNamed peer Ours told packet = (place : ℕ) → IsPlaceWrite packet.bytes place → (packet.to ≡ peer) × (Ours → IsEndOf told (start_of (windows.Management place)))

abbrev pub AllNamed : (peer : ℕ) (Ours : Type 0) → Option EndSide → List Outgoing → Type 0
AllNamed peer Ours told [] = Unit {0}
AllNamed peer Ours told (packet ∷ later) = IsNamed peer Ours told packet × AllNamed peer Ours told later

module _ (peer : ℕ) (Ours : Type 0) (told : Option EndSide) where
  pub apart_named : (packet : Outgoing) → IsApart packet → IsNamed peer Ours told packet
  apart_named packet f place w = absurd (f place w)

  pub all_named : (packets : List Outgoing) → AllRead packets → AllNamed peer Ours told packets
  all_named [] h = tt
  all_named (packet ∷ later) h = (apart_named packet (read_apart packet h.0), all_named later h.1)

  pub named_more : (packets : List Outgoing) (packet : Outgoing) → AllNamed peer Ours told packets → IsNamed peer Ours told packet → AllNamed peer Ours told (packets ++ packet ∷ [])
  named_more [] packet h p = (p, tt)
  named_more (one ∷ later) packet h p = (h.0, named_more later packet h.1 p)

-- ---- a packet that writes a status block goes to the FIFO of the login
abbrev pub IsLogged : Login → Type 0 → Outgoing → Type 0
IsLogged login Ours packet = Ours → (slot : ℕ) (block : StatusBlock) → IsStatusWrite packet.bytes slot block → (access : Access) → access_in_bytes packet.bytes ≡ Some access → access.offset ≡ written_at login.fifo

abbrev pub AllLogged : Login → Type 0 → List Outgoing → Type 0
AllLogged login Ours [] = Unit {0}
AllLogged login Ours (packet ∷ later) = IsLogged login Ours packet × AllLogged login Ours later

module _ (login : Login) (Ours : Type 0) where
  pub plain_logged : (packet : Outgoing) → IsPlain packet → IsLogged login Ours packet
  plain_logged packet p ours slot block w access e = absurd (p slot block w)

  pub all_logged : (packets : List Outgoing) → AllRead packets → AllLogged login Ours packets
  all_logged [] h = tt
  all_logged (packet ∷ later) h = (plain_logged packet (read_plain packet h.0), all_logged later h.1)

  pub logged_more : (packets : List Outgoing) (packet : Outgoing) → AllLogged login Ours packets → IsLogged login Ours packet → AllLogged login Ours (packets ++ packet ∷ [])
  logged_more [] packet h p = (p, tt)
  logged_more (one ∷ later) packet h p = (h.0, logged_more later packet h.1 p)

-- ---- a packet that writes into a response buffer
abbrev pub IsUnboxed : Outgoing → Type 0
IsUnboxed packet = IsBufferWrite packet.bytes → ⊥

pub read_unboxed : (packet : Outgoing) → IsRead packet.bytes → IsUnboxed packet
read_unboxed packet r x = false≢true (sym r ∙ (ap is_write_in x.is ∙ x.writes))

-- a FIFO of an initiator, or a place in its response buffers
pub data IsInbox (offset : ℕ) : Type 0 where
  of_fifo : IsFifo offset → IsInbox offset
  of_buffer : (place : ℕ) → window_at offset ≡ Some (windows.Response place) → IsInbox offset

-- it goes to the FIFO of a login, to its node
pub data IsFedBy (table : Table) (login : Login) (Ours : Type 0) (to offset : ℕ) : Type 0 where
  at_own : to ≡ login.node → offset ≡ written_at login.fifo → IsFedBy table login Ours to offset
  at_other : (place : ℕ) (other : Login) → place_at table.places place ≡ Some other → is_live other ≡ true → to ≡ other.node → offset ≡ written_at other.fifo → IsFedBy table login Ours to offset
  of_another : to ≡ login.node → (Ours → ⊥) → IsFedBy table login Ours to offset

abbrev pub IsFed : Table → Login → Type 0 → Outgoing → Type 0
IsFed table login Ours packet = (x : IsBufferWrite packet.bytes) → IsFedBy table login Ours packet.to x.access.offset

abbrev pub AllFed : Table → Login → Type 0 → List Outgoing → Type 0
AllFed table login Ours [] = Unit {0}
AllFed table login Ours (packet ∷ later) = IsFed table login Ours packet × AllFed table login Ours later

module _ (table : Table) (login : Login) (Ours : Type 0) where
  pub read_fed : (packet : Outgoing) → IsRead packet.bytes → IsFed table login Ours packet
  read_fed packet r x = absurd (read_unboxed packet r x)

  pub all_fed : (packets : List Outgoing) → AllRead packets → AllFed table login Ours packets
  all_fed [] h = tt
  all_fed (packet ∷ later) h = (read_fed packet h.0, all_fed later h.1)

  pub fed_more : (packets : List Outgoing) (packet : Outgoing) → AllFed table login Ours packets → IsFed table login Ours packet → AllFed table login Ours (packets ++ packet ∷ [])
  fed_more [] packet h p = (p, tt)
  fed_more (one ∷ later) packet h p = (h.0, fed_more later packet h.1 p)

-- ---- an unsolicited status block is none of an ORB
pub unsolicited_apart : (block : StatusBlock) → read_block true unsolicited_block ≡ Ok block → ⊥
unfolding block_head
unsolicited_apart block e = cc

pub unsolicited_unread : (block : StatusBlock) → read_block false unsolicited_block ≡ Ok block → ⊥
unfolding block_head
unsolicited_unread block e = cc

pub unsolicited_small : length unsolicited_block ≡ 24
unfolding block_head
unsolicited_small = refl
