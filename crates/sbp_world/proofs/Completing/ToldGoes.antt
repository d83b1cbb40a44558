-- At each moment at which a packet is got, what the operation of the target waits for was sent to the initiator whose operation it is.
use Rattle.sbp_world.proofs.Words.Std.{arith, ◌≡◌, ◌∙◌, refl, sym, ap, ◌<◌, ◌+◌, ◌≤◌, ℕ, suc, List, ◌∷◌, length, Option, Some}
use Rattle.sbp_world.proofs.Words.Wire.{Event, Moment, Sending, Terms, asked, terms}
use Rattle.sbp_world.proofs.Words.Target.{Disk, Operation, source_in}
use Rattle.sbp_world.proofs.Words.Laws.{EachMoment, id_for, receiver_in, target_at}
use Rattle.sbp_world.proofs.Words.World.{AtGot, Office, WorldState, ready_logins}
use Rattle.mgmt_agent.specs.Machine.{Machine}
use Rattle.sbp_world.specs.Agents.Holders.{IsOf}
use Rattle.sbp_world.proofs.Agents.Management.Holding.{Holding, same_id}
use Rattle.sbp_world.proofs.Agents.Management.Offices.{over_keeps}
use Rattle.sbp_world.proofs.Agents.Management.Still.{hist}
use Rattle.sbp_world.proofs.Hosts.Between.{of_world}
use Rattle.sbp_world.proofs.Lists.BufferClears.{Ground, ground_everywhere}
use Rattle.sbp_world.proofs.Lists.Courses.{EveryPlace, Keeps, at_between, at_lines}
use Rattle.sbp_world.proofs.Lists.GotTurns.{got_turn}
use Rattle.sbp_world.proofs.Lists.IdsOwned.{ids_same}
use Rattle.sbp_world.proofs.Lists.Judging.{goes_next}
use Rattle.sbp_world.proofs.Lists.KeptTurns.{id_is}
use Rattle.sbp_world.proofs.Lists.ManageSends.{opened_terms}
use Rattle.sbp_world.proofs.Lists.OfficeWrites.{goes_of}
use Rattle.sbp_world.proofs.Completing.EndsLevels.{opened_bus}

-- the request that the operation of the target waits for goes to its initiator
abbrev pub GoesTo : List Disk → List Moment → Type 0
GoesTo start past = (own i : ℕ) (op : Operation) → (target_at start past).manages ≡ Some own → (target_at start past).manager.operation ≡ Some op → op.source ≡ id_for (terms past) 0 (suc i) → receiver_in ((terms past).sent own) ≡ Some (suc i)

abbrev pub GoesSays : List Disk → List Moment → ℕ → Type 0
GoesSays start past serial = ((terms past).generation 0 ≤ (terms past).bus) × GoesTo start past

-- ---- at a place
module _ (units ready : ℕ) (has : 0 < units) (start : List Disk) {past : List Moment} {lines : ℕ} (w : WorldState) (h : Holding units ready start past lines w) (g : Ground start (hist past w) w) where
  abbrev ms : List Moment
  ms = hist past w

  abbrev t : Terms
  t = terms ms

  module _ (op : Operation) (operation : (target_at start ms).manager.operation ≡ Some op) where
    there : w.target.manager.operation ≡ Some op
    there = ap (λ (m : Machine). m.operation) (sym h.at.agrees.manager) ∙ operation

    of : (initiator : ℕ) × IsOf t (length w.initiators) initiator op.source
    of = g.known.held.operation op.source (ap source_in there)

    abbrev j : ℕ
    j = of.0

    within : j < length w.initiators
    within = of.1.small

    source_is : op.source ≡ id_for t 0 (suc j)
    source_is = sym of.1.node_is ∙ ap (λ n. id_for t 0 n) (let z : j + 1 ≡ suc j = omega arith in z)

    goes : (own i : ℕ) → (target_at start ms).manages ≡ Some own → op.source ≡ id_for t 0 (suc i) → receiver_in (t.sent own) ≡ Some (suc i)
    goes own i manages source =
        goes_of units ready has start w h g j within op operation (source_is ∙ id_is units ready has start w h j within) own manages
        ∙ ap (λ n. Some n) (same_id w h.sound.stands (suc j) (suc i) (sym source_is ∙ source))

  goes_here : (serial : ℕ) → GoesSays start ms serial
  goes_here serial = ((of_world w ms h.sound.stands refl).facts.aged 0, λ own i op manages operation source. goes op operation own i manages source)

-- ---- as a line begins
goes_asked : (start : List Disk) (line : ℕ) (event : Event) (past : List Moment) → ((serial : ℕ) → GoesSays start past serial) → (serial : ℕ) → GoesSays start (asked line event ∷ past) serial
goes_asked start line event past a serial =
    let o = opened_terms event (terms past) in
    let office = over_keeps (target_at start past) in
    let low = (a serial).0 in
    let generation = ap (λ (f : ℕ → ℕ). f 0) o.generation in
    let bus = opened_bus event (terms past) in (
      omega (arith, low, generation, bus),
      λ own i op manages operation source.
          ap (λ (f : ℕ → Option Sending). receiver_in (f own)) o.sent
          ∙ (a serial).1 own i op (sym (ap (λ (x : Office). x.manages) office) ∙ manages) (sym (ap (λ (x : Office). x.manager.operation) office) ∙ operation) (source ∙ ids_same event (terms past) low (suc i)),
    )

-- ---- at each place of a run
abbrev pub AllGo : List Disk → List Moment → WorldState → Type 0
AllGo start past w = EachMoment (AtGot (GoesSays start)) past

all_go : (units ready : ℕ) → 0 < units → (start : List Disk) → Keeps units ready start (Ground start) (AllGo start)
all_go units ready has start past s later t lines more g h h_now q q_now e =
    got_turn (GoesSays start) (goes_asked start) (hist past s.world) (hist later t.world) (goes_next past s later t g) (λ serial. goes_here units ready has start s.world h q serial) e

pub all_go_everywhere : EveryPlace AllGo
all_go_everywhere = record {
  after_lines = λ line run r has small size so_far.
      at_lines Ground (AllGo run.start.disks) ground_everywhere line run r.few has small size (all_go run.units (ready_logins run.initiators run.ready) has run.start.disks) (tt, (tt, tt)) r so_far;
  between = λ line run r has small size next most told m so_far.
      at_between Ground (AllGo run.start.disks) ground_everywhere line run r.few has small size (all_go run.units (ready_logins run.initiators run.ready) has run.start.disks) (tt, (tt, tt)) r next most told m so_far;
}
