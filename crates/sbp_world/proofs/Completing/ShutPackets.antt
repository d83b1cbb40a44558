-- The status block of the management operation is written to the FIFO of the ORB that the target read last.
use Rattle.sbp_world.proofs.Words.Std.{arith, ◌≡◌, ◌∙◌, sym, ap, subst, ◌≤◌, ◌++◌, nat_le, ℕ, zero, Bool, true, false, cond, List, ◌∷◌, length, Option, Some, None, none-some, same_Some}
use Rattle.sbp_world.proofs.Words.Wire.{Access, Body, Moment, SerialsCount, block_write, largest, said, terms}
use Rattle.sbp_world.proofs.Words.Target.{Disk, Operation, manager_body}
use Rattle.sbp_world.proofs.Words.Initiator.{Ask, ManagementOrb}
use Rattle.sbp_world.proofs.Words.Laws.{Decided, EachMoment, access_at, target_at}
use Rattle.sbp_world.proofs.Words.World.{AreAsked, HasIn, HasOrb, IsOn, WasAsked, access_for, last_read}
use Rattle.mgmt_agent.specs.declared.operation.Phase.{Phase}
use Rattle.mgmt_agent.specs.declared.operation.Phase.TheVariants as phases
use Rattle.orb_layout.specs.declared.ask.Ask.TheVariants as asks
use Rattle.sbp_journal.specs.declared.note.Note.TheVariants as notes
use Rattle.sbp_world.proofs.Completing.ShutFifos.{GoesTo, HeardAt, IsBlock, MayWrite, fifos}
use Rattle.sbp_world.proofs.Hosts.SentMoments.{count_now, serials_from}
use Rattle.sbp_world.proofs.Lists.ContentManages.{IsSoBefore, SameDecided, bound, sent_back, so_before}
use Rattle.sbp_world.proofs.Lists.OrbsCarried.{carried_orbs_law}
use Rattle.sbp_world.proofs.Lists.OrbsRead.{access_there}
use Rattle.sbp_world.proofs.Lists.StatusKnown.{each_from}
use Rattle.sbp_world.proofs.Lists.ResponsePackets.{some_ask}

pub written : (b : Bool) (offset : ℕ) (out : List ℕ) (body : Body) → cond b (Some (block_write offset out)) None ≡ Some body → (access_for body).offset ≡ offset
written true offset out body e =
    let is : block_write offset out ≡ body = cc in
    ap (λ x. (access_for x).offset) (sym is)
written false offset out body e = absurd (none-some body e)

block_goes : (ask : Ask) (at : ℕ) (out : List ℕ) (body : Body) → ask ≡ asks.Write at 8 → manager_body ask out ≡ Some body → (access_for body).offset ≡ at
block_goes ask at out body s e =
    let f : cond (nat_le (length out) largest) (Some (block_write at out)) None ≡ Some body = sym (ap (λ a. manager_body a out) s) ∙ e in
    written (nat_le (length out) largest) at out body f

to_fifo : (decided : Option Decided) (ask : Ask) (orb : ManagementOrb) → IsBlock decided ask → IsOn decided orb → ask ≡ asks.Write orb.fifo 8
to_fifo None ask orb s on = absurd s
to_fifo (Some own) ask orb s on = s ∙ ap (λ (o : ManagementOrb). asks.Write o.fifo 8) on

module _ (May : ℕ → Type 0) (start : List Disk) (past : List Moment) (counts : SerialsCount past) (are : AreAsked start past) (heard : EachMoment (HeardAt May start) past) (op : Operation) (r : ℕ) (operation : (target_at start past).manager.operation ≡ Some op) (phase : op.phase ≡ phases.Status) (manages : (target_at start past).manages ≡ Some r) where
  was : WasAsked start past r op
  was = are.each r op (((bound start past counts).own r manages).0 ∙ operation)

  abbrev here : List Moment
  here = said (notes.Sent r was.generation zero was.to was.bytes) ∷ was.before

  counts_here : SerialsCount (was.later ++ here)
  counts_here = subst SerialsCount (sym was.is) counts

  serials_here : SerialsCount here
  serials_here = serials_from was.later here counts_here

  below : r ≤ (terms here).count
  below =
      let c = serials_here.0 in
      let n = count_now was.before r was.generation zero was.to was.bytes in
      omega (arith, c, n)

  so : IsSoBefore start here (was.later ++ here) r
  so = so_before start was.later here r counts_here below (ap (λ ms. (target_at start ms).manages) was.is ∙ manages)

  back : SameDecided (target_at start was.before) (target_at start here)
  back = sent_back start (said (notes.Sent r was.generation zero was.to was.bytes)) was.before r serials_here so.manages

  decided_is : (target_at start was.before).decided ≡ (target_at start past).decided
  decided_is = back.1 ∙ (so.decided ∙ ap (λ ms. (target_at start ms).decided) was.is)

  abbrev ask : Ask
  ask = (target_at start was.before).manager_asks

  abbrev out : List ℕ
  out = (target_at start was.before).manager.outgoing

  heard_before : EachMoment (HeardAt May start) was.before
  heard_before = (each_from (HeardAt May start) was.later here (subst (EachMoment (HeardAt May start)) (sym was.is) heard)).1

  goes : IsBlock (target_at start was.before).decided ask × MayWrite May ask
  goes =
      let a : GoesTo May op.phase (target_at start was.before).decided ask = fifos May start was.before heard_before op was.operation in
      subst (λ (x : Phase). GoesTo May x (target_at start was.before).decided ask) phase a (some_ask ask out was.asked.body was.asked.asks)

  on_last : IsOn (target_at start past).decided (last_read start past)
  on_last =
      let a : HasOrb (Some op) (target_at start past).decided (last_read start past) = subst (λ (x : Option Operation). HasOrb x (target_at start past).decided (last_read start past)) operation (carried_orbs_law start past) in
      subst (λ (x : Phase). HasIn x (target_at start past).decided (last_read start past)) phase a

  asks_fifo : ask ≡ asks.Write (last_read start past).fifo 8
  asks_fifo = to_fifo (target_at start was.before).decided ask (last_read start past) goes.0 (subst (λ (d : Option Decided). IsOn d (last_read start past)) (sym decided_is) on_last)

  pub fifo_may : May (last_read start past).fifo
  fifo_may = subst (MayWrite May) asks_fifo goes.1

  same_access : was.access ≡ access_for was.asked.body
  same_access = same_Some was.access (access_for was.asked.body) (sym was.spelled ∙ was.asked.access)

  pub fifo_is : (access : Access) → access_at (terms past) r ≡ Some access → access.offset ≡ (last_read start past).fifo
  fifo_is access e =
      let same : access ≡ access_for was.asked.body = same_Some access (access_for was.asked.body) (sym e ∙ (access_there start past counts r op was ∙ ap (λ a. Some a) same_access)) in
      ap (λ (a : Access). a.offset) same ∙ block_goes ask (last_read start past).fifo out was.asked.body asks_fifo was.asked.asks
