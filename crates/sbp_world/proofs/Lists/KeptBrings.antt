-- The management ORB that the target decides on is the one in the place of the operation that its initiator has under way.
use Rattle.sbp_world.proofs.Words.Std.{◌≡◌, ◌∙◌, refl, sym, ap, subst, ℕ, ◌<◌, true, List, length, Option, Some, None}
use Rattle.sbp_world.proofs.Words.Wire.{LabelParts, Packet, judging_step, of_response, Sent, found_sent, Moment}
use Rattle.sbp_world.proofs.Words.Target.{Table, Operation, Disk, answer_in}
use Rattle.sbp_world.proofs.Words.Initiator.{start_of, management_orb, Answer}
use Rattle.sbp_world.proofs.Words.Laws.{Underway, host_at, is_management, place_bytes, place_held, Decided, bytes_in, decided_by, decided_in}
use Rattle.sbp_world.proofs.Words.World.{NoneInjected, WorldState, IsInPlace, IsKept, KeepsIn, orb_in_place, IsCalm}
use Rattle.bus_memory.specs.declared.window.Window.TheVariants as windows
use Rattle.mgmt_agent.specs.declared.operation.Phase.{Phase}
use Rattle.mgmt_agent.specs.declared.operation.Phase.TheVariants as phases
use Rattle.sbp_target.specs.declared.purpose.Purpose.TheVariants as purposes
use Rattle.sbp_world.proofs.Agents.Management.Holding.{Holding}
use Rattle.sbp_world.proofs.Agents.Management.Still.{hist}
use Rattle.sbp_world.proofs.Lists.KeptTurns.{brings_place, id_is, operation_is, own_is, zero_is}
use Rattle.sbp_world.proofs.Lists.LiveReplies.{IsDecidedOn}
use Rattle.sbp_world.proofs.Lists.LiveSteps.{id_in, own_of, zero_of}

pub same_decided : (a b : Decided) → Some a ≡ Some b → a ≡ b
same_decided a b e = cc

pub none_decided : {A : Type 0} (b : Decided) → None ≡ Some b → A
none_decided b e = absurd (differ e)
  where
    differ : None ≡ Some b → ⊥
    differ e = cc

module _ (units ready : ℕ) (more_units : 0 < units) (start : List Disk) {past : List Moment} {lines : ℕ} (w : WorldState) (h : Holding units ready start past lines w) (i : ℕ) (inside : i < length w.initiators) (calm : IsCalm (hist past w) i) (none : NoneInjected (hist past w) i) (in_place : IsInPlace start (hist past w) i) (k : IsKept start (hist past w) i) (together : zero_of w ≡ own_of w i) where
  abbrev before : List Moment
  before = hist past w

  module _ (serial : ℕ) (sent : Sent) (found : found_sent serial w.store.kept ≡ Some sent) (zero_to : sent.to ≡ 0) (p : Packet) (label : LabelParts) (e : (judging_step w.target.layer sent.generation sent.bytes).0 ≡ of_response p label (Some purposes.Management)) (left : Table) (d : IsDecidedOn w.target.manager w.target.logins w.target.keys (answer_in p) left) (source : d.was.source ≡ id_in w i) (underway : Underway) (has : (host_at before i).operation ≡ Some underway) (manages : is_management underway.operation ≡ true) (orb : d.was.orb ≡ start_of (windows.Management underway.place)) where
    on_is : (phase : Phase) → d.was.phase ≡ phase → decided_in phase d.was.source (answer_in p) ≡ Some d.on
    on_is phase f = ap (λ (x : Phase). decided_in x d.was.source (answer_in p)) (sym f) ∙ (ap (λ (x : Option Operation). decided_by x (answer_in p)) (sym d.is) ∙ d.brought)

    kept_there : KeepsIn d.was.phase (orb_in_place before i underway.place)
    kept_there =
        k.keeps d.was underway (operation_is units ready more_units start w h i inside ∙ d.is) (source ∙ sym (id_is units ready more_units start w h i inside))
        (zero_is units ready more_units start w h i inside ∙ (together ∙ sym (own_is units ready more_units start w h i inside))) has manages orb

    by_phase : (phase : Phase) → d.was.phase ≡ phase → d.on.orb ≡ orb_in_place before i underway.place
    by_phase phases.Orb f =
        let on = same_decided _ d.on (on_is phases.Orb f) in
        ap (λ (x : Decided). x.orb) (sym on)
        ∙ (ap (λ (a : Answer). management_orb (bytes_in a)) d.pays
        ∙ brings_place units ready more_units start w h i inside calm none in_place together serial sent found zero_to p label e d.was d.is f source d.bytes d.pays underway has manages orb)
    by_phase (phases.HighEui own) f = none_decided d.on (on_is (phases.HighEui own) f)
    by_phase (phases.LowEui own high) f =
        let on = same_decided _ d.on (on_is (phases.LowEui own high) f) in
        ap (λ (x : Decided). x.orb) (sym on) ∙ subst (λ (x : Phase). KeepsIn x (orb_in_place before i underway.place)) f kept_there
    by_phase (phases.Response fifo) f = none_decided d.on (on_is (phases.Response fifo) f)
    by_phase phases.Status f = none_decided d.on (on_is phases.Status f)

    pub brings : d.on.orb ≡ management_orb (place_bytes (place_held before i underway.place))
    brings = by_phase d.was.phase refl
