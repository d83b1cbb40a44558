-- What a reply makes of the management operation: a step that asks for something is of the same node, one that fails asks for nothing, and what it asks for is a request that the laws
-- read so (NCITS 325-1998, management agent).
use Rattle.std.proofs.Common.{arith, ◌≡◌, refl, sym, ap, subst, ℕ, ◌≤◌, ◌==◌, nat_le, is_some, Bool, true, false, cond, List, length, Option, Some, None}
use Rattle.std.proofs.lemmas.Bool.Decides.{nat_tests}
use Rattle.async_packet.specs.Fields.{largest}
use Rattle.label_table.specs.Bodies.{block_read, block_write, quadlet_read}
use Rattle.login_table.specs.Sound.{IsTable}
use Rattle.login_table.specs.Table.{Table}
use Rattle.mgmt_agent.specs.Decisions.{decide}
use Rattle.mgmt_agent.specs.declared.decision.ManagerStep.{ManagerStep}
use Rattle.mgmt_agent.specs.declared.operation.Operation.{Operation}
use Rattle.mgmt_agent.specs.Effects.{calls_on}
use Rattle.mgmt_agent.specs.Machine.{Asks, Machine, reply_step, source_in}
use Rattle.mgmt_agent.proofs.Asking.{asks_one_request}
use Rattle.mgmt_agent.proofs.Effects.{decisions_call}
use Rattle.orb_layout.specs.declared.ask.Ask.{Ask}
use Rattle.orb_layout.specs.declared.ask.Ask.TheVariants.{Nothing, Read, Write}
use Rattle.orb_layout.specs.declared.management.ManagementOrb.{ManagementOrb}
use Rattle.orb_layout.specs.Replies.{Answer}
use Rattle.sbp_laws.specs.Management.{body_for}
use Rattle.sbp_target.specs.Management.{manager_body}
use Rattle.sbp_target.proofs.Histories.Managing.{IsOf, Stays, reply_stays}
use Rattle.sbp_target.proofs.Histories.Stepped.{Carries}
use Rattle.sbp_world.proofs.Agents.Management.Managing.{fails_clean}
use Rattle.turn_laws.proofs.FailureSides.{StepFits}
use Rattle.mgmt_agent.proofs.Places.{calls_kept}

-- ---- the table stays small
eight : (table : Table) → IsTable table → length table.places ≤ 8
eight table t = let z = t.sound.size in omega (arith, z)

-- ---- a step
of_body : (ask : Ask) (operation : Option Operation) (out : List ℕ) (source : ℕ) → Asks ask operation (length out) → IsOf source operation → is_some (manager_body ask out) ≡ true → source_in operation ≡ Some source
of_body Nothing operation out source a i e = absurd (let no : false ≡ true = e in cc)
of_body (Read offset size) None out source a i e = absurd a
of_body (Read offset size) (Some own) out source a i e = ap Some i
of_body (Write offset size) None out source a i e = absurd a
of_body (Write offset size) (Some own) out source a i e = ap Some i

module _ (m : Machine) (table : Table) (t : IsTable table) (keys : List (List ℕ)) (source : ℕ) (answer : Answer) (under : source_in m.operation ≡ Some source) where
  abbrev r : ManagerStep × (Machine × Table)
  r = reply_step m table keys answer

  pub step_stays : Stays source (r.0, r.1.0)
  step_stays = by m.operation refl under
    where
      by : (operation : Option Operation) → m.operation ≡ operation → source_in operation ≡ Some source → Stays source (r.0, r.1.0)
      by None e f = absurd (let no : None ≡ Some source = f in cc)
      by (Some own) e f =
          let small = λ (orb : ManagementOrb) (eui : ℕ). eight (decide orb own.source eui table keys).1
          (subst (λ (x : Table). IsTable x) (sym (decisions_call orb own.source eui table keys)) (calls_kept (calls_on orb own.source eui keys) table t)) in
          subst (λ n. Stays n (r.0, r.1.0)) (let z : own.source ≡ source = cc in z) (reply_stays m table keys own small answer e)

  pub step_fits : StepFits source r
  step_fits = record {
    of = λ e. of_body r.0.ask r.1.0.operation r.1.0.outgoing source (asks_one_request.reply m table keys answer (ap is_some under)) step_stays.of e;
    quiet = λ f. ap (λ a. manager_body a r.1.0.outgoing) (fails_clean m table keys answer f).1;
  }

-- ---- the laws read a request of the operation as the target asks for it
pub body_same : (ask : Ask) (m : Machine) → Carries ask m.outgoing → body_for ask m ≡ manager_body ask m.outgoing
body_same Nothing m c = refl
body_same (Read offset size) m c = by (size == 4) (nat_le size largest) (grind (arith, nat_tests))
  where
    by : (four small : Bool) → small ≡ true → Some (cond four (quadlet_read offset) (block_read offset size)) ≡ cond four (Some (quadlet_read offset)) (cond small (Some (block_read offset size)) None)
    by true small f = refl
    by false true f = refl
    by false false f = absurd (let no : false ≡ true = f in cc)
body_same (Write offset size) m c = by (nat_le (length m.outgoing) largest) (grind (arith, nat_tests))
  where
    by : (small : Bool) → small ≡ true → Some (block_write offset m.outgoing) ≡ cond small (Some (block_write offset m.outgoing)) None
    by true f = refl
    by false f = absurd (let no : false ≡ true = f in cc)
