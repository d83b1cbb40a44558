-- What a request of the target is for by the terms, at a place where its row in the label table belongs to somebody.
use Rattle.sbp_world.proofs.Words.Std.{◌≡◌, ◌∙◌, refl, sym, ap, ◌<◌, ℕ, Bool, true, false, List, Some}
use Rattle.sbp_world.proofs.Words.Wire.{transaction, Moment, Kind, Part, Sending, Transaction, asked_as, asked_by, begun_by, begun_if, between, part_of, request, response, Terms, terms, waits}
use Rattle.sbp_world.proofs.Words.Target.{Which, Disk, IsUnderWay, Purpose}
use Rattle.sbp_world.proofs.Words.Laws.{is_under_way, Target, for_agent, for_manager, over, purpose_of, target_at}
use Rattle.sbp_world.proofs.Words.World.{WorldState, AreAgentsAt, IsHanded}
use Rattle.sbp_journal.specs.Transactions.{no_packet}
use Rattle.sbp_target.specs.declared.purpose.Purpose.TheVariants as purposes
use Rattle.sbp_world.proofs.Agents.Handed.{are_handed}
use Rattle.sbp_world.proofs.Agents.Management.Holding.{Holding}
use Rattle.sbp_world.proofs.Agents.Management.Still.{hist}
use Rattle.sbp_world.proofs.Hosts.PointerRuns.{Awaits, awaits_of}
use Rattle.sbp_world.proofs.Lists.DataWaits.{under_way_now}
use Rattle.sbp_world.proofs.Common.{none_is}

-- ---- a request that is under way
-- its label, and its transaction
pub record IsAsking (q : Sending) (u : Transaction) : Type 0 where
  pub label : ℕ
  pub kind : Kind
  pub part : part_of q.bytes ≡ request label kind
  pub is : between q q.from q.to label ≡ u

same_there : (a b : Transaction) → Some a ≡ Some b → a ≡ b
same_there a b e = cc

asking_as : (q : Sending) (u : Transaction) (part : Part) → part_of q.bytes ≡ part → asked_as part q ≡ Some u → IsAsking q u
asking_as q u (request label kind) e f = record { label = label; kind = kind; part = e; is = same_there (between q q.from q.to label) u f }
asking_as q u (response label kind) e f = none_is u f
asking_as q u no_packet e f = none_is u f

asking_if : (b : Bool) (q : Sending) (u : Transaction) → begun_if b (asked_by q) ≡ Some u → IsAsking q u
unfolding asked_by
asking_if true q u e = none_is u e
asking_if false q u e = asking_as q u (part_of q.bytes) refl e

asking : (q : Sending) (u : Transaction) → begun_by q ≡ Some u → IsAsking q u
unfolding begun_by
asking q u e = asking_if q.injected q u e

-- ---- whose it is
pub data IsSomebodys (start : List Disk) (past : List Moment) (purpose : Purpose) (serial : ℕ) : Type 0 where
  of_agent : (place : ℕ) (which : Which) → purpose_of (over (target_at start past)) serial ≡ for_agent place which → IsSomebodys start past purpose serial
  of_manager : purpose_of (over (target_at start past)) serial ≡ for_manager → IsSomebodys start past purpose serial
  of_status : purpose ≡ purposes.Unsolicited → IsSomebodys start past purpose serial

module _ (units ready : ℕ) (has : 0 < units) (start : List Disk) {past : List Moment} {lines : ℕ} (v : WorldState) (h : Holding units ready start past lines v) (agents : AreAgentsAt start (hist past v) v) (serial : ℕ) (q : Sending) (sent : (terms (hist past v)).sent serial ≡ Some q) (from : q.from ≡ 0) (under : is_under_way (terms (hist past v)) serial ≡ true) where
  abbrev t : Terms
  t = terms (hist past v)

  abbrev T : Target
  T = over (target_at start (hist past v))

  abbrev ids : ℕ → ℕ
  ids = t.ids (t.generation 0)

  pub awaits : Awaits t q serial
  awaits = awaits_of t q serial sent under

  pub asks : IsAsking q awaits.u
  asks = asking q awaits.u awaits.begun

  transaction_is : awaits.u ≡ transaction (t.generation 0) 0 q.to asks.label
  transaction_is =
      let g : q.generation ≡ t.generation 0 = under_way_now t serial q sent under ∙ ap t.generation from in
      sym asks.is ∙ (ap (λ g. transaction g q.from q.to asks.label) g ∙ ap (λ n. transaction (t.generation 0) n q.to asks.label) from)

  waiting : t.held (transaction (t.generation 0) 0 q.to asks.label) ≡ waits awaits.kind serial
  waiting = ap t.held (sym transaction_is) ∙ awaits.held

  module _ (purpose : Purpose) (row : IsUnderWay v.target.layer (Some purpose) (ids q.to) asks.label) where
    handed : IsHanded T v.target (Some purpose) (ids q.to) asks.label serial
    handed = (are_handed units ready has start v h).all agents.requests q.to asks.label awaits.kind serial (Some purpose) agents.are agents.known waiting row

    pub whose : IsSomebodys start (hist past v) purpose serial
    whose = by purpose refl
      where
        by : (p : Purpose) → purpose ≡ p → IsSomebodys start (hist past v) purpose serial
        by (purposes.Agent place) e = let f = handed.agent place (ap Some e) in of_agent place f.which f.is
        by purposes.Management e = of_manager (handed.operation (ap Some e))
        by purposes.Unsolicited e = of_status e
