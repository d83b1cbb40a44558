-- The response that the target's management waits to have written goes where the ORB in the place of its initiator's operation names, and is what the management has
-- to write; it has bytes, and no more than that ORB allows.
use Rattle.sbp_world.proofs.Words.Std.{arith, ◌≡◌, ◌∙◌, refl, sym, ap, subst, ℕ, zero, ◌<◌, ◌≤◌, nat_le, Bool, true, false, cond, List, ◌∷◌, ◌++◌, length, Option, Some, None, none-some, same_Some}
use Rattle.sbp_world.proofs.Words.Wire.{largest, SerialsCount, Body, block_write, Moment, said, terms}
use Rattle.sbp_world.proofs.Words.Target.{Operation, Disk, manager_body}
use Rattle.sbp_world.proofs.Words.Initiator.{Ask, ManagementOrb}
use Rattle.sbp_world.proofs.Words.Laws.{access_at, Decided, is_nothing, target_at}
use Rattle.sbp_world.proofs.Words.World.{write_access, HasIn, HasOrb, IsOn, last_read, AreAsked, WasAsked, access_for}
use Rattle.sbp_world.proofs.Hosts.SentMoments.{count_now, serials_from}
use Rattle.mgmt_agent.specs.declared.operation.Phase.{Phase}
use Rattle.mgmt_agent.specs.declared.operation.Phase.TheVariants as phases
use Rattle.mgmt_agent.specs.Machine.{Machine}
use Rattle.orb_layout.specs.declared.ask.Ask.TheVariants as asks
use Rattle.sbp_journal.specs.declared.note.Note.TheVariants as notes
use Rattle.sbp_world.proofs.Lists.ContentManages.{IsSoBefore, SameDecided, bound, sent_back, so_before}
use Rattle.sbp_world.proofs.Lists.OrbsCarried.{carried_orbs_law}
use Rattle.sbp_world.proofs.Lists.OrbsRead.{access_there}
use Rattle.sbp_world.proofs.Lists.OrbsSecond.{AskOf, IsSecond, seconds}

written : (b : Bool) (offset : ℕ) (out : List ℕ) (body : Body) → cond b (Some (block_write offset out)) None ≡ Some body → access_for body ≡ write_access offset out
written true offset out body e =
    let is : block_write offset out ≡ body = cc in
    ap access_for (sym is)
written false offset out body e = absurd (none-some body e)

pub some_ask : (ask : Ask) (out : List ℕ) (body : Body) → manager_body ask out ≡ Some body → is_nothing ask ≡ false
some_ask (asks.Read offset len) out body e = refl
some_ask (asks.Write offset len) out body e = refl
some_ask asks.Nothing out body e = absurd (none-some body e)

goes : (decided : Option Decided) (ask : Ask) (out : List ℕ) (body : Body) (orb : ManagementOrb) → IsSecond decided ask out → IsOn decided orb → manager_body ask out ≡ Some body → access_for body ≡ write_access orb.second out
goes None ask out body orb s on e = absurd s
goes (Some own) ask out body orb s on e =
    let f : cond (nat_le (length out) largest) (Some (block_write own.orb.second out)) None ≡ Some body = sym (ap (λ a. manager_body a out) s.0) ∙ e in
    written (nat_le (length out) largest) own.orb.second out body f ∙ ap (λ (o : ManagementOrb). write_access o.second out) on

long_by : (decided : Option Decided) (ask : Ask) (out : List ℕ) (orb : ManagementOrb) → IsSecond decided ask out → IsOn decided orb → (0 < length out) × (length out ≤ orb.response_length)
long_by None ask out orb s on = absurd s
long_by (Some own) ask out orb s on = (s.1.0, subst (λ (o : ManagementOrb). length out ≤ o.response_length) on s.1.1)

module _ (start : List Disk) (past : List Moment) (counts : SerialsCount past) (are : AreAsked start past) (op : Operation) (fifo r : ℕ) (operation : (target_at start past).manager.operation ≡ Some op) (phase : op.phase ≡ phases.Response fifo) (manages : (target_at start past).manages ≡ Some r) where
  was : WasAsked start past r op
  was = are.each r op (((bound start past counts).own r manages).0 ∙ operation)

  abbrev here : List Moment
  here = said (notes.Sent r was.generation zero was.to was.bytes) ∷ was.before

  counts_here : SerialsCount (was.later ++ here)
  counts_here = subst SerialsCount (sym was.is) counts

  serials_here : SerialsCount here
  serials_here = serials_from was.later here counts_here

  below : r ≤ (terms here).count
  below =
      let c = serials_here.0 in
      let n = count_now was.before r was.generation zero was.to was.bytes in
      omega (arith, c, n)

  so : IsSoBefore start here (was.later ++ here) r
  so = so_before start was.later here r counts_here below (ap (λ ms. (target_at start ms).manages) was.is ∙ manages)

  back : SameDecided (target_at start was.before) (target_at start here)
  back = sent_back start (said (notes.Sent r was.generation zero was.to was.bytes)) was.before r serials_here so.manages

  manager_is : (target_at start was.before).manager ≡ (target_at start past).manager
  manager_is = back.0 ∙ (so.manager ∙ ap (λ ms. (target_at start ms).manager) was.is)

  decided_is : (target_at start was.before).decided ≡ (target_at start past).decided
  decided_is = back.1 ∙ (so.decided ∙ ap (λ ms. (target_at start ms).decided) was.is)

  abbrev ask : Ask
  ask = (target_at start was.before).manager_asks

  abbrev out : List ℕ
  out = (target_at start was.before).manager.outgoing

  body_is : manager_body ask out ≡ Some was.asked.body
  body_is = was.asked.asks

  second : IsSecond (target_at start was.before).decided ask out
  second =
      let a = (seconds start was.before).0 op was.operation (some_ask ask out was.asked.body body_is) in
      subst (λ (x : Phase). AskOf x (target_at start was.before).decided ask out) phase a

  on_last : IsOn (target_at start past).decided (last_read start past)
  on_last =
      let a : HasOrb (Some op) (target_at start past).decided (last_read start past) = subst (λ (x : Option Operation). HasOrb x (target_at start past).decided (last_read start past)) operation (carried_orbs_law start past) in
      subst (λ (x : Phase). HasIn x (target_at start past).decided (last_read start past)) phase a

  same_access : was.access ≡ access_for was.asked.body
  same_access = same_Some was.access (access_for was.asked.body) (sym was.spelled ∙ was.asked.access)

  pub response_packet : (orb : ManagementOrb) → last_read start past ≡ orb → access_at (terms past) r ≡ Some (write_access orb.second (target_at start past).manager.outgoing)
  response_packet orb last =
      let on = subst (λ (d : Option Decided). IsOn d orb) (sym decided_is) (subst (IsOn (target_at start past).decided) last on_last) in
      access_there start past counts r op was
      ∙ ap (λ a. Some a) (same_access ∙ (goes (target_at start was.before).decided ask out was.asked.body orb second on body_is ∙ ap (λ (m : Machine). write_access orb.second m.outgoing) manager_is))

  -- it has bytes, and no more than its ORB allows
  pub response_long : (0 < length (target_at start past).manager.outgoing) × (length (target_at start past).manager.outgoing ≤ (last_read start past).response_length)
  response_long =
      let now : IsSecond (target_at start past).decided ask out = subst (λ (d : Option Decided). IsSecond d ask out) decided_is second in
      let long = long_by (target_at start past).decided ask out (last_read start past) now on_last in
      subst (λ (m : Machine). (0 < length m.outgoing) × (length m.outgoing ≤ (last_read start past).response_length)) manager_is long
