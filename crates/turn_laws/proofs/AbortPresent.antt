-- Where a reply ends an ORB as aborted, that ORB was marked: it is the one that its agent waited for more of at the place before the turn, which its address names there.
use Rattle.std.proofs.Common.{arith, ◌≡◌, ◌∙◌, refl, sym, ap, subst, ◌<◌, ◌≤◌, ℕ, zero, suc, ◌*◌, ◌==◌, ◌&&◌, nat_lt, Bool, true, false, cond, List, [], ◌∷◌, ◌++◌, length, Option, Some, None, Result, Ok, Err}
use Rattle.std.specs.List.{list_any}
use Rattle.std.proofs.lemmas.Bool.Decides.{nat_tests}
use Rattle.std.proofs.lemmas.Option.{same_Some}
use Rattle.bus_memory.specs.Windows.{slot_of}
use Rattle.command_agent.specs.Machine.{Machine, awaits_run, chunk_of}
use Rattle.command_agent.specs.Steps.{advanced, data_grown, data_read, data_step, elements_read, end_step, orb_read, reply_step, sent, table_read, told_or}
use Rattle.command_agent.specs.declared.phase.Phase.{Phase}
use Rattle.command_agent.specs.declared.phase.Phase.TheVariants as phases
use Rattle.command_agent.specs.declared.step.Move.{Move}
use Rattle.command_agent.specs.declared.step.Move.TheVariants as moves
use Rattle.command_agent.specs.declared.step.Which.{Which}
use Rattle.command_agent.specs.declared.step.Which.TheVariants.{Ahead, Main}
use Rattle.orb_layout.specs.Replies.{Answer, payload_of}
use Rattle.orb_layout.specs.declared.ask.FailCause.{FailCause}
use Rattle.orb_layout.specs.declared.status.StatusKind.TheVariants as kinds
use Rattle.page_table.specs.Elements.{elements_of, first_fault}
use Rattle.page_table.specs.declared.fault.PageFault.{PageFault}
use Rattle.rbc_disk.specs.Disk.{Disk}
use Rattle.rbc_disk.specs.Runs.{Told}
use Rattle.rbc_disk.specs.Units.{PlainDisk}
use Rattle.sbp_journal.specs.Run.{Moment, asked}
use Rattle.sbp_laws.specs.Aborts.{is_abort, is_aborted, is_for_unrun, is_main, is_whole}
use Rattle.sbp_laws.specs.Agents.{AgentTurn, target_before, told_among, wire_before}
use Rattle.sbp_laws.specs.CauseLaw.{is_marked}
use Rattle.sbp_laws.specs.Deaths.{access_by}
use Rattle.sbp_laws.specs.Lawful.{injectors}
use Rattle.sbp_laws.specs.Lists.{Orb, named, orb}
use Rattle.sbp_laws.specs.Targets.{Agent, Target, agent_at, initiator_at, new_agent, over, plain_for, target_at}
use Rattle.sbp_laws.specs.Terms.{ends, runs}
use Rattle.sbp_laws.specs.Turns.{Turn}
use Rattle.sbp_world.specs.Lists.FewLogins.{IsTameOrFew}
use Rattle.sbp_world.specs.Lists.Needs.{IsCalm, initiator_in, machine_at}
use Rattle.sbp_world.specs.Worlds.{WorldState}
use Rattle.sbp_world.proofs.Agents.Management.Holding.{Holding}
use Rattle.sbp_world.proofs.Agents.Management.Still.{hist}
use Rattle.sbp_world.proofs.Common.{and_first, and_second, same_number, untrue}
use Rattle.sbp_world.proofs.Lists.AgentFolds.{at_place as agent_in}
use Rattle.sbp_world.proofs.Lists.Sites.{Site}
use Rattle.sbp_world.proofs.Lists.StillTurns.{Ground, site_at}
use Rattle.turn_laws.proofs.AbortCarried.{AreKnown}
use Rattle.turn_laws.proofs.AbortEnds.{IsNamed, NamesMarked}
use Rattle.turn_laws.proofs.AbortKept.{name_by}
use Rattle.turn_laws.proofs.AbortNamed.{awaits_open, o, present_named}
use Rattle.turn_laws.proofs.AbortOwned.{begins_owner}
use Rattle.turn_laws.proofs.AbortSince.{marked_later, marked_since}
use Rattle.turn_laws.proofs.AbortUnended.{unended}
use Rattle.turn_laws.proofs.AgentsUnrun.{AreOn, awaited_unrun}
use Rattle.turn_laws.proofs.PresentOrbs.{served_present}
use Rattle.turn_laws.proofs.TurnBegins.{BeginsAt, aborted_there, at_place, behind_line, over_there, prepared_there}

-- ---- a reply to the main transaction of an agent that waits for more of its ORB leaves it with that ORB
either : (b : Bool) (x y : Move × Machine) (n : ℕ) → x.1.present ≡ n → y.1.present ≡ n → (cond b x y).1.present ≡ n
either true x y n e f = e
either false x y n e f = f

orb_present : (m : Machine) (r : Result (List ℕ) FailCause) → (orb_read m r).1.present ≡ m.present
orb_present m (Err cause) = refl
orb_present m (Ok bytes) = refl

elements_present : (m : Machine) (bytes : List ℕ) (fault : Option PageFault) → (elements_read m bytes fault).1.present ≡ m.present
elements_present m bytes (Some fault) = refl
elements_present m bytes None = refl

table_present : (m : Machine) (r : Result (List ℕ) FailCause) → (table_read m r).1.present ≡ m.present
table_present m (Err cause) = refl
table_present m (Ok bytes) =
    let fault = first_fault 0 (elements_of bytes) in either m.aborted (sent (end_step m kinds.Aborted None)) (elements_read m bytes fault) m.present refl (elements_present m bytes fault)

data_present : (m : Machine) (wanted : ℕ) (r : Result (List ℕ) FailCause) → (data_read m wanted r).1.present ≡ m.present
data_present m wanted (Err cause) = refl
data_present m wanted (Ok bytes) =
    let n = record m { payload = m.payload ++ bytes } in
    either m.aborted (sent (end_step m kinds.Aborted None)) (data_grown n wanted) m.present refl
    (either (length n.payload == wanted) (moves.Run, n) (sent (data_step n wanted)) m.present refl refl)

advanced_present : (phase : Phase) (m : Machine) (answer : Answer) → awaits_run phase ≡ true → (advanced phase m answer).1.present ≡ m.present
advanced_present phases.Fetching m answer e = orb_present m (payload_of answer 32)
advanced_present phases.ReadingTable m answer e = table_present m (payload_of answer (8 * m.orb.data_size))
advanced_present (phases.ReadingData wanted) m answer e = data_present m wanted (payload_of answer (chunk_of m (length m.payload) wanted).length)
advanced_present phase m answer e = untrue e

pub main_present : (m : Machine) (place : ℕ) (plain : PlainDisk) (told : Option Told) (answer : Answer) → awaits_run m.phase ≡ true → (reply_step m place plain told Main answer).1.present ≡ m.present
unfolding reply_step
main_present m place plain told answer e = served_present place plain (told_or told) (advanced m.phase m answer) ∙ advanced_present m.phase m answer e

-- ---- where a turn begins
module _ (before : List Moment) where
  named_there : (past : List Moment) → BeginsAt before past → (i address : ℕ) → named past i address ≡ named before i address
  named_there past from i address = name_by before past i (slot_of address) (λ at. prepared_there i at before past from)

  marked_there : (start : List Disk) (past : List Moment) → BeginsAt before past → (moment : Moment) (i n k : ℕ) → is_marked start before i n k ≡ true → is_marked start (moment ∷ past) i n k ≡ true
  marked_there start _ at_place moment i n k e = marked_later start i n k (moment ∷ []) before e
  marked_there start _ (behind_line line event) moment i n k e = marked_later start i n k (moment ∷ asked line event ∷ []) before e

-- ---- an agent that waits is one of the eight
none_there : (agents : List Agent) (p : ℕ) → length agents ≤ p → agent_in agents p ≡ new_agent
none_there [] p l = refl
none_there (a ∷ agents) zero l = absurd (omega (arith, l))
none_there (a ∷ agents) (suc p) l = none_there agents p (omega arith)

inside : (agents : List Agent) (p : ℕ) → length agents ≡ 8 → awaits_run (agent_in agents p).machine.phase ≡ true → p < 8
inside agents p size waits = by (nat_lt p 8) refl
  where
    by : (b : Bool) → nat_lt p 8 ≡ b → p < 8
    by true e = grind (arith, nat_tests)
    by false e =
        let far : 8 ≤ p = grind (arith, nat_tests) in
        untrue (ap (λ (a : Agent). awaits_run a.machine.phase) (sym (none_there agents p (omega (arith, far, size)))) ∙ waits)

same_orb : (n k m l : ℕ) → orb n k ≡ orb m l → (n ≡ m) × (k ≡ l)
same_orb n k m l e = (ap (λ (x : Orb). x.list) e, ap (λ (x : Orb). x.number) e)

module _ (units ready : ℕ) (has : 0 < units) (start : List Disk) {past : List Moment} {lines : ℕ} (w : WorldState) (h : Holding units ready start past lines w) (q : Ground start (hist past w) w) (on : AreOn (hist past w) w) (beside : IsTameOrFew (hist past w)) (known : AreKnown units ready has start (hist past w) w) where
  abbrev before : List Moment
  before = hist past w

  abbrev site : Site start past w
  site = site_at start past w q

  -- the ORB that an agent waits for more of is marked, where an abort of it stands
  place_marked : (p : ℕ) → p < 8 → awaits_run (machine_at w p).phase ≡ true → is_aborted start before p (machine_at w p).present ≡ true → IsCalm before (initiator_in w p)
      → (n k : ℕ) → named before (initiator_in w p) (machine_at w p).present ≡ Some (orb n k) → is_marked start before (initiator_in w p) n k ≡ true
  place_marked p b waits aborted calm n k name_is =
      let i = initiator_in w p in
      let open_there = o units ready has start w h site (q.lists beside) q.along p b waits calm in
      let l = open_there.n in
      let same = same_orb n k l (ends before i l) (same_Some (orb n k) (orb l (ends before i l)) (sym name_is ∙ present_named units ready has start w h site (q.lists beside) q.along p b waits calm)) in
      let first : runs before i l (ends before i l) ≡ 0 = awaited_unrun before w on p l b waits open_there.list calm in
      let unrun : runs before i n k ≡ 0 = ap (λ x. runs before i x k) same.0 ∙ (ap (runs before i l) same.1 ∙ first) in
      let last : ends before i n ≡ k = ap (ends before i) same.0 ∙ sym same.1 in
      marked_since start i n k p (machine_at w p).present before (known p (machine_at w p).present b aborted calm) name_is unrun (unended (injectors before) i n k calm before q.law (omega (arith, last)))

  -- ---- a turn
  module _ (t : Turn) (from : BeginsAt before t.past) (wild : ℕ → Bool) (calm_of : (i : ℕ) → wild i ≡ false → IsCalm before i) where
    abbrev B : Target
    B = target_before start t

    abbrev now : List Moment
    now = t.start ∷ t.past

    module _ (p : ℕ) (waits : awaits_run (agent_at B p).machine.phase ≡ true) (aborted : is_aborted start t.past p (agent_at B p).machine.present ≡ true) where
      abbrev i : ℕ
      i = initiator_at B (wire_before t) p

      abbrev j : ℕ
      j = initiator_in w p

      abbrev address : ℕ
      address = (agent_at B p).machine.present

      waits_there : awaits_run (agent_at (over (target_at start before)) p).machine.phase ≡ true
      waits_there = subst (λ (x : Target). awaits_run (agent_at x p).machine.phase ≡ true) (over_there start before t.past from) waits

      b : p < 8
      b = inside (over (target_at start before)).agents p site.agents.are.size waits_there

      waits_here : awaits_run (machine_at w p).phase ≡ true
      waits_here = ap awaits_run (sym (site.agents.are.each p b).machine.phase) ∙ waits_there

      present_is : (machine_at w p).present ≡ address
      present_is =
          sym ((site.agents.are.each p b).machine.present (awaits_open (machine_at w p).phase waits_here))
          ∙ ap (λ (x : Target). (agent_at x p).machine.present) (sym (over_there start before t.past from))

      owner : i ≡ j
      owner = begins_owner units ready has start w h site p address b t.past from (ap (λ x. x && awaits_run (agent_at B p).machine.phase) (same_number address) ∙ waits)

      turn_marked : IsNamed start wild now i (named t.past i address)
      turn_marked own n k name_is =
          let calm : IsCalm before j = calm_of j (sym (ap wild owner) ∙ own) in
          let aborted_there : is_aborted start before p (machine_at w p).present ≡ true =
          subst (λ a. is_aborted start before p a ≡ true) (sym present_is) (aborted_there start before t.past from p address aborted) in
          let name_there : named before j (machine_at w p).present ≡ Some (orb n k) =
          ap (named before j) present_is ∙ (ap (λ x. named before x address) (sym owner) ∙ (sym (named_there before t.past from i address) ∙ name_is)) in
          marked_there before start t.past from t.start i n k
          (subst (λ x. is_marked start before x n k ≡ true) (sym owner) (place_marked p b waits_here aborted_there calm n k name_there))

    is_main_so : (which : Which) → is_main which ≡ true → which ≡ Main
    is_main_so Main e = refl
    is_main_so Ahead e = untrue e

    pub names_marked : NamesMarked start wild t
    names_marked reply is e a f =
        let m = (agent_at B reply.place).machine in
        let aborted = is_aborted start t.past reply.place m.present in
        let whole = is_whole reply.answer (access_by (wire_before t) (agent_at B reply.place).main) in
        let main = is_main reply.which in
        let waits = awaits_run m.phase in
        let unrun = is_for_unrun B t reply in
        let both : (unrun && aborted) ≡ true = and_second (list_any is_abort t.past) (unrun && aborted) e in
        let comes : (main && waits) ≡ true = and_first (main && waits) whole (and_first ((main && waits) && whole) _ (and_first unrun aborted both)) in
        let which = is_main_so reply.which (and_first main waits comes) in
        let plain = plain_for B reply in
        let i = initiator_at B (wire_before t) reply.place in
        let told = told_among i t.rest plain in
        let stays : (reply_step m reply.place plain told reply.which reply.answer).1.present ≡ m.present =
        ap (λ x. (reply_step m reply.place plain told x reply.answer).1.present) which ∙ main_present m reply.place plain told reply.answer (and_second main waits comes) in
        subst (λ (x : AgentTurn). (let j = initiator_at B (wire_before t) x.place in IsNamed start wild now j (named t.past j x.machine.present))) (same_Some _ a f)
        (subst (λ n. IsNamed start wild now i (named t.past i n)) (sym stays) (turn_marked reply.place (and_second main waits comes) (and_second unrun aborted both)))
