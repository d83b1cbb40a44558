-- The slot and the number of the ORB that a read of an agent along a list is about.
use Rattle.sbp_world.proofs.Words.Std.{arith, ◌≡◌, ◌∙◌, refl, sym, ap, subst, inl, inr, ◌⊎◌, ◌<◌, ◌≤◌, ℕ, suc, ◌-◌, Bool, true, false, List, length, Some}
use Rattle.sbp_world.proofs.Words.Wire.{Access, Moment, Cmd}
use Rattle.sbp_world.proofs.Words.Target.{Phase, ReadAhead, Which, Ahead, Main, Machine, aligned, is_ahead, Along, Knows, KnowsAhead, Progress, ReadsAhead, ahead_ask, ahead_under, main_ask, main_under, Brings, number_behind}
use Rattle.sbp_world.proofs.Words.Initiator.{window_at, Ask, OrbPointer, At, Null, Answer}
use Rattle.sbp_world.proofs.Words.Laws.{command_at, linked, slot_at}
use Rattle.sbp_world.proofs.Words.World.{IsAccessFor, read_access, slot_in}
use Rattle.command_agent.specs.declared.phase.Phase.TheVariants as phases
use Rattle.command_agent.specs.declared.phase.ReadAhead.TheVariants as aheads
use Rattle.sbp_world.proofs.Lists.Brought.{Comes, ahead_brought, follows, has_a_table, list, main_brought, main_number, number_of, read_at}
use Rattle.sbp_world.proofs.Lists.Slots.{IsFilled, data_window, orb_slot, table_slot}

writes_not : (access : Access) → access.is_write ≡ true → access.is_write ≡ false → ⊥
writes_not access e f = let no : true ≡ false = sym e ∙ f in cc

-- which request a transaction of an agent is of
abbrev pub under_as : Which → Machine → Ask
under_as Main m = main_under m
under_as Ahead m = ahead_under m

module _ (past : List Moment) (i n : ℕ) where
  abbrev Small : ℕ → Type 0
  Small k = slot_at past i n k < 32

  abbrev Filled : ℕ → Type 0
  Filled k = (cmd : Cmd) → command_at past i n k ≡ Some cmd → IsFilled (slot_at past i n k) cmd

  abbrev Stands : Access → ℕ → Type 0
  Stands access k = slot_in (window_at access.offset) ≡ Some (slot_at past i n k)

  -- ---- the slot
  main_stands : (phase : Phase) (p : Progress) (m : Machine) (is_status : Bool) (fifo : ℕ) (access : Access) → Knows (list past i n) p phase m → IsAccessFor (main_ask phase m) is_status fifo access → access.is_write ≡ false → 0 < access.count → Small (main_number phase p.ended) → Filled (main_number phase p.ended) → Stands access (main_number phase p.ended)
  main_stands phases.Fetching p m s f access k a r c small filled =
      orb_slot access (slot_at past i n p.ended) 32 small (read_at access m.present 32 ((list past i n).address p.ended) a k.turn.place)
  main_stands phases.ReadingTable p m s f access k a r c small filled =
      let t = has_a_table (command_at past i n p.ended) (slot_at past i n p.ended) m.orb k.awaits.good.own k.reads in
      table_slot access (slot_at past i n p.ended) small (ap (λ (x : Access). x.offset) a ∙ t.descriptor)
  main_stands (phases.ReadingData wanted) p m s f access k a r c small filled =
      let own = k.awaits.good.own in
      ap slot_in (data_window (slot_at past i n p.ended) small own.cmd (filled own.cmd own.command) access (length m.payload) c (follows past i n p m wanted k access a))
  main_stands phases.ReadingNext p m s f access k a r c small filled =
      let ended = k.over.ended in
      let same : k.over.last ≡ p.ended - 1 = omega arith in
      orb_slot access (slot_at past i n (p.ended - 1)) 8 small (read_at access m.present 8 ((list past i n).address (p.ended - 1)) a (k.over.place ∙ ap (λ j. (list past i n).address j) same))
  main_stands phases.Answering p m s f access k a r c small filled = absurd (writes_not access (ap (λ (x : Access). x.is_write) a.0) r)
  main_stands phases.WritingStatus p m s f access k a r c small filled = absurd (writes_not access (ap (λ (x : Access). x.is_write) a.0) r)
  main_stands phases.WritingLastStatus p m s f access k a r c small filled = absurd (writes_not access (ap (λ (x : Access). x.is_write) a.0) r)
  main_stands phases.Reset p m s f access k a r c small filled = absurd a
  main_stands phases.Suspended p m s f access k a r c small filled = absurd a
  main_stands phases.Dead p m s f access k a r c small filled = absurd a

  named_stands : (k : ℕ) (next : OrbPointer) (ahead : ReadAhead) (fifo : ℕ) (access : Access) → ReadsAhead (list past i n) k next ahead → is_ahead ahead ≡ true → IsAccessFor (ahead_ask ahead next) false fifo access → Small k → Stands access k
  named_stands k next (aheads.UnderWay rung) fifo access r u a small =
      let e : access ≡ read_access (aligned r.offset) 32 = subst (λ (x : OrbPointer). IsAccessFor (ahead_ask (aheads.UnderWay rung) x) false fifo access) r.named a in
      orb_slot access (slot_at past i n k) 32 small (read_at access (aligned r.offset) 32 ((list past i n).address k) e r.place)
  named_stands k next aheads.Idle fifo access r u a small = absurd (let no : false ≡ true = u in cc)
  named_stands k next (aheads.Kept orb) fifo access r u a small = absurd (let no : false ≡ true = u in cc)

  idle_not : (ahead : ReadAhead) → ahead ≡ aheads.Idle → is_ahead ahead ≡ true → ⊥
  idle_not ahead e u = let no : false ≡ true = sym (ap is_ahead e) ∙ u in cc

  ahead_stands : (phase : Phase) (p : Progress) (next : OrbPointer) (ahead : ReadAhead) (fifo : ℕ) (access : Access) → KnowsAhead (list past i n) p phase next ahead → is_ahead ahead ≡ true → IsAccessFor (ahead_ask ahead next) false fifo access → Small (number_behind phase p.ended) → Stands access (number_behind phase p.ended)
  ahead_stands phases.ReadingTable p next ahead fifo access k u a small = named_stands (suc p.ended) next ahead fifo access k u a small
  ahead_stands (phases.ReadingData wanted) p next ahead fifo access k u a small = named_stands (suc p.ended) next ahead fifo access k u a small
  ahead_stands phases.Answering p next ahead fifo access k u a small = named_stands (suc p.ended) next ahead fifo access k u a small
  ahead_stands phases.WritingStatus p next ahead fifo access k u a small = named_stands p.ended next ahead fifo access k u a small
  ahead_stands phases.Fetching p next ahead fifo access k u a small = absurd (idle_not ahead k u)
  ahead_stands phases.ReadingNext p next ahead fifo access k u a small = absurd (idle_not ahead k u)
  ahead_stands phases.Reset p next ahead fifo access k u a small = absurd (idle_not ahead k u)
  ahead_stands phases.WritingLastStatus p next ahead fifo access k u a small = absurd (idle_not ahead k u)
  ahead_stands phases.Suspended p next ahead fifo access k u a small = absurd (idle_not ahead k u)
  ahead_stands phases.Dead p next ahead fifo access k u a small = absurd (idle_not ahead k u)

  -- a read ahead is under way where it is asked for
  under_way : (ahead : ReadAhead) (next : OrbPointer) (s : Bool) (fifo : ℕ) (access : Access) → IsAccessFor (ahead_ask ahead next) s fifo access → is_ahead ahead ≡ true
  under_way (aheads.UnderWay rung) next s fifo access a = refl
  under_way aheads.Idle next s fifo access a = absurd a
  under_way (aheads.Kept orb) next s fifo access a = absurd a

  as_read : (ahead : ReadAhead) (next : OrbPointer) (s : Bool) (fifo : ℕ) (access : Access) → IsAccessFor (ahead_ask ahead next) s fifo access → IsAccessFor (ahead_ask ahead next) false fifo access
  as_read (aheads.UnderWay rung) (At at) s fifo access a = a
  as_read (aheads.UnderWay rung) Null s fifo access a = absurd a
  as_read aheads.Idle next s fifo access a = absurd a
  as_read (aheads.Kept orb) next s fifo access a = absurd a

  pub stands : (which : Which) (p : Progress) (m : Machine) (is_status : Bool) (fifo : ℕ) (access : Access) → Along (list past i n) p m → IsAccessFor (under_as which m) is_status fifo access → access.is_write ≡ false → 0 < access.count → Small (number_of which m.phase p.ended) → Filled (number_of which m.phase p.ended) → Stands access (number_of which m.phase p.ended)
  stands Main p m s f access k a r c small filled = main_stands m.phase p m s f access k.main a r c small filled
  stands Ahead p m s f access k a r c small filled =
      ahead_stands m.phase p m.orb.next m.ahead f access k.ahead (under_way m.ahead m.orb.next s f access a) (as_read m.ahead m.orb.next s f access a) small

  -- ---- the number: it is linked, and has not ended; or its next pointer is read again, and it was the last one
  abbrev pub IsIn : Phase → (ended k : ℕ) → Type 0
  IsIn phase ended k = ((ended ≤ k) × (k < linked past i n)) ⊎ ((phase ≡ phases.ReadingNext) × (ended ≡ suc k))

  main_in : (phase : Phase) (p : Progress) (m : Machine) (is_status : Bool) (fifo : ℕ) (access : Access) → Knows (list past i n) p phase m → IsAccessFor (main_ask phase m) is_status fifo access → access.is_write ≡ false → IsIn phase p.ended (main_number phase p.ended)
  main_in phases.Fetching p m s f access k a r = inl (omega arith, k.turn.linked)
  main_in phases.ReadingTable p m s f access k a r = inl (omega arith, k.awaits.turn.linked)
  main_in (phases.ReadingData wanted) p m s f access k a r = inl (omega arith, k.awaits.turn.linked)
  main_in phases.ReadingNext p m s f access k a r = inr (refl, (let ended = k.over.ended in omega arith))
  main_in phases.Answering p m s f access k a r = absurd (writes_not access (ap (λ (x : Access). x.is_write) a.0) r)
  main_in phases.WritingStatus p m s f access k a r = absurd (writes_not access (ap (λ (x : Access). x.is_write) a.0) r)
  main_in phases.WritingLastStatus p m s f access k a r = absurd (writes_not access (ap (λ (x : Access). x.is_write) a.0) r)
  main_in phases.Reset p m s f access k a r = absurd a
  main_in phases.Suspended p m s f access k a r = absurd a
  main_in phases.Dead p m s f access k a r = absurd a

  named_in : (k : ℕ) (next : OrbPointer) (ahead : ReadAhead) → ReadsAhead (list past i n) k next ahead → is_ahead ahead ≡ true → k < linked past i n
  named_in k next (aheads.UnderWay rung) r u = r.linked
  named_in k next aheads.Idle r u = absurd (let no : false ≡ true = u in cc)
  named_in k next (aheads.Kept orb) r u = absurd (let no : false ≡ true = u in cc)

  ahead_in : (phase : Phase) (p : Progress) (next : OrbPointer) (ahead : ReadAhead) → KnowsAhead (list past i n) p phase next ahead → is_ahead ahead ≡ true → IsIn phase p.ended (number_behind phase p.ended)
  ahead_in phases.ReadingTable p next ahead k u = inl (omega arith, named_in (suc p.ended) next ahead k u)
  ahead_in (phases.ReadingData wanted) p next ahead k u = inl (omega arith, named_in (suc p.ended) next ahead k u)
  ahead_in phases.Answering p next ahead k u = inl (omega arith, named_in (suc p.ended) next ahead k u)
  ahead_in phases.WritingStatus p next ahead k u = inl (omega arith, named_in p.ended next ahead k u)
  ahead_in phases.Fetching p next ahead k u = absurd (idle_not ahead k u)
  ahead_in phases.ReadingNext p next ahead k u = absurd (idle_not ahead k u)
  ahead_in phases.Reset p next ahead k u = absurd (idle_not ahead k u)
  ahead_in phases.WritingLastStatus p next ahead k u = absurd (idle_not ahead k u)
  ahead_in phases.Suspended p next ahead k u = absurd (idle_not ahead k u)
  ahead_in phases.Dead p next ahead k u = absurd (idle_not ahead k u)

  pub is_in : (which : Which) (p : Progress) (m : Machine) (is_status : Bool) (fifo : ℕ) (access : Access) → Along (list past i n) p m → IsAccessFor (under_as which m) is_status fifo access → access.is_write ≡ false → IsIn m.phase p.ended (number_of which m.phase p.ended)
  is_in Main p m s f access k a r = main_in m.phase p m s f access k.main a r
  is_in Ahead p m s f access k a r = ahead_in m.phase p m.orb.next m.ahead k.ahead (under_way m.ahead m.orb.next s f access a)

  -- ---- and what its answer brings
  pub brought : (which : Which) (p : Progress) (m : Machine) (is_status : Bool) (fifo : ℕ) (access : Access) (answer : Answer) → Along (list past i n) p m → IsAccessFor (under_as which m) is_status fifo access → (access.is_write ≡ false → 0 < access.count → Comes past i n (number_of which m.phase p.ended) access answer) → Brings (list past i n) p.ended m which answer
  brought Main p m s f access answer k a c = main_brought past i n m.phase p m s f access answer k.main a c
  brought Ahead p m s f access answer k a c =
      ahead_brought past i n m.phase p m.orb.next m.ahead f access answer k.ahead (under_way m.ahead m.orb.next s f access a) (as_read m.ahead m.orb.next s f access a) c
