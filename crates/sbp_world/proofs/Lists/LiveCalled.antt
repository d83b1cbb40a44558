-- The target is called: what that leaves of the operation that an initiator of its generation has under way, and of the status blocks that wait for it.
use Rattle.sbp_world.proofs.Words.Std.{arith, ◌≡◌, ◌∙◌, refl, sym, ap, subst, ◌⊎◌, inl, inr, ℕ, ◌<◌, Bool, List, ◌++◌, map, Option, Some, None}
use Rattle.sbp_world.proofs.Words.Wire.{Moment, said, terms, Note}
use Rattle.sbp_world.proofs.Words.Target.{Managed, Disk}
use Rattle.sbp_world.proofs.Words.Initiator.{start_of, Running, InitiatorState}
use Rattle.sbp_world.proofs.Words.Laws.{Underway, host_at, is_management, target_at}
use Rattle.sbp_world.proofs.Words.World.{Core, work_in, work_of, IsAccepted, IsBusy, IsHandling, IsManaged, IsRest, IsTelling, AllOf, IsTaken, IsTold, outgoing_for}
use Rattle.bus_memory.specs.declared.window.Window.TheVariants as windows
use Rattle.sbp_world.proofs.Hosts.Hosted.{Cored}
use Rattle.sbp_world.proofs.Lists.LiveLeads.{Leads, NewTelling, OldTelling, Opening, WasAsked, first_host, first_opens, first_outgoing, hands_before, leads_then, opening_asked, opening_leads, opening_rest, opening_telling, opening_then, sends_handling, sends_host, sends_lead, sends_rest, sends_telling, told_calm, told_host, told_outgoing, was_asked, was_there}
use Rattle.sbp_world.proofs.Lists.LiveTold.{IsFirst, is_behind, is_own_packet}
use Rattle.sbp_world.proofs.Lists.ManageFirsts.{Goes, goes_then}
use Rattle.sbp_world.proofs.Lists.ManageMoments.{Hands}
use Rattle.sbp_world.proofs.Lists.ManageOwn.{AtHost, at_host}
use Rattle.sbp_world.proofs.Lists.ManageStays.{Calms}
use Rattle.sbp_world.proofs.Lists.ManageTerms.{none_is, same_some}

-- an operation that is under way at the host is so at the initiator
pub no_work : (u : Underway) (found : Option Underway) → found ≡ Some u → work_of found ≡ work_in None → ⊥
no_work u found e w = none_is _ (sym w ∙ ap (λ (o : Option Underway). work_of o) e)

-- a moment with which a turn may begin, before its first note: nothing, or the beginning of a line
pub record Begins (start : List Disk) (before base : List Moment) (i : ℕ) : Type 0 where
  pub calm : Calms start before base i
  pub manager : (target_at start base).manager ≡ (target_at start before).manager
  pub outgoing : outgoing_for start base ≡ outgoing_for start before
  pub host : Goes (host_at before i) (host_at base i)

module _ (start : List Disk) (before base : List Moment) (i : ℕ) (begins : Begins start before base i) (sends told first : List Note) (are_sent : AllOf is_own_packet sends) (are_told : AllOf is_behind told) (one : IsFirst first) where
  abbrev opened : List Moment
  opened = map said first ++ base

  abbrev mid : List Moment
  mid = map said told ++ opened

  abbrev now : List Moment
  now = map said sends ++ mid

  pub goes_on : Goes (host_at before i) (host_at now i)
  goes_on =
      goes_then (host_at before i) (host_at base i) (host_at now i) begins.host
      (goes_then (host_at base i) (host_at opened i) (host_at now i) (first_host first base i one)
      (goes_then (host_at opened i) (host_at mid i) (host_at now i) (told_host told opened i are_told) (sends_host sends mid i are_sent)))

  bytes_same : outgoing_for start mid ≡ outgoing_for start before
  bytes_same = told_outgoing start told opened are_told ∙ first_outgoing start first base one ∙ begins.outgoing

  module _ (hands : Hands start i now) where
    hands_mid : Hands start i mid
    hands_mid = hands_before start i sends mid hands

    opening : Opening start before mid i
    opening = opening_then (first_opens start i before base begins.calm begins.manager first one (hands_before start i told opened hands_mid)) (told_calm start i told opened are_told hands_mid)

    leads : Leads start before now i
    leads = leads_then (opening_leads opening) (sends_lead start i sends mid are_sent hands)

    -- ---- the write of the operation under way
    module _ (s : InitiatorState) (is_ready later_ready : Bool) (c : Cored is_ready before i s) (c_now : Cored later_ready now i s) (m : IsManaged start before i) where
      module _ (t : IsTaken start before i) where
        busy : IsBusy start before i t.underway.place t.underway.first
        busy = m.busy t.underway t.is t.manages

        taken_by : (r : Running) → AtHost now i r → IsTaken start now i
        taken_by r a =
            let k = goes_on.on a.u a.is in
            let same : k.was ≡ t.underway = same_some k.was t.underway (sym k.is ∙ t.is) in
            let first_is : t.underway.first ≡ a.u.first = sym (ap (λ (u : Underway). u.first) same) ∙ k.first in
            let b = busy in
            record {
              underway = a.u;
              is = a.is;
              manages = ap is_management (sym k.operation ∙ ap (λ (u : Underway). u.operation) same) ∙ t.manages;
              judged = subst (λ n. 0 < (terms now).news n) first_is (leads.more t.underway.first t.judged);
              accepted = subst (λ n. IsAccepted start now n) first_is (leads.accepted t.underway.first b.own t.judged t.accepted);
            }

        taken_for : (found : Option Running) → s.operation ≡ found → IsTaken start now i
        taken_for None e = absurd (no_work t.underway (host_at before i).operation t.is (ap (λ (x : Core). x.work) c.core ∙ ap work_in e))
        taken_for (Some r) e = taken_by r (at_host now i s r c_now.core e)

        pub taken_on : IsTaken start now i
        taken_on = taken_for s.operation refl

    -- ---- what is at rest
    pub rest_on : (op : Managed) → (target_at start before).manager.operation ≡ Some op → IsRest start before i → IsRest start now i
    rest_on op e rest = sends_rest start i sends mid are_sent hands (opening_rest op e opening rest)

    -- ---- a status block that waits
    pub data Waited (orb : ℕ) (bytes : List ℕ) : Type 0 where
      told_before : IsTold start before i orb bytes → Waited orb bytes
      told_now : (serial place : ℕ) → IsTelling start now i serial place → NewTelling start now i serial place → orb ≡ start_of (windows.Management place) → bytes ≡ outgoing_for start now serial → Waited orb bytes

    pub waited : (orb : ℕ) (bytes : List ℕ) → IsTold start now i orb bytes → Waited orb bytes
    waited orb bytes t = by (sends_telling start i sends mid are_sent hands t.serial t.place t.telling)
      where
        by : OldTelling start mid now i t.serial t.place ⊎ NewTelling start now i t.serial t.place → Waited orb bytes
        by (inl o) = told_before (record {
          serial = t.serial;
          place = t.place;
          telling = opening_telling opening t.serial t.place o.telling;
          orb_is = t.orb_is;
          bytes_are = t.bytes_are ∙ o.bytes ∙ ap (λ (f : ℕ → List ℕ). f t.serial) bytes_same;
        })
        by (inr n) = told_now t.serial t.place t.telling n t.orb_is t.bytes_are

    -- ---- an operation that begins
    pub not_begun : (m : IsManaged start before i) → (target_at start before).manager.operation ≡ None → (place : ℕ) (op : Managed) → IsHandling start now i place op → IsTaken start before i → ⊥
    not_begun m idle place op h t = by (opening_asked opening place op (sends_handling start i sends mid are_sent hands place op h))
      where
        by : WasAsked start before i → ⊥
        by (was_there other e) = none_is other (sym idle ∙ e)
        by (was_asked serial at a) =
            let only = (m.busy t.underway t.is t.manages).only serial at a in
            let zero = a.unjudged in
            let same = ap (terms before).news only.0 in
            let more = t.judged in
            absurd (omega (arith, zero, same, more))
