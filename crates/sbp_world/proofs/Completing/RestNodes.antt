-- Where nothing is in flight, of a wire that lost nothing since the latest reset, which each node has seen: no request is under way, and the nodes are at rest.
use Rattle.sbp_world.proofs.Words.Std.{arith, ◌≡◌, ◌∙◌, refl, sym, ap, subst, ℕ, suc, ◌<◌, ◌≤◌, ◌==◌, ◌&&◌, Bool, true, false, List, [], ◌∷◌, length, is_some, list_any, Option, Some, None}
use Rattle.sbp_world.proofs.Words.Wire.{Held, Moment, Sending, Stored, Terms, Transaction, begun_by, flying, free, is_flying, purpose_for, rests, shape, state_for, terms, transaction, waits}
use Rattle.sbp_world.proofs.Words.Target.{Disk, Phase, Sent, desk_at, source_in, state_in}
use Rattle.sbp_world.proofs.Words.Laws.{EachMoment, agent_at, begun_in, flies, is_under_way, is_waiting_for, over, target_at, waits_for}
use Rattle.sbp_world.proofs.Words.World.{AreAgentsAt, Awaits, Stands, WorldState, initiator_at}
use Rattle.bus_transactions.specs.Carried.{AreKept, AreKeptNow, LatestLaw, NoRestLaw, NoneFlies, NoneRests, NoneWaits, QuietLaw}
use Rattle.bus_transactions.proofs.Carried.{no_rest_always, quiet_always}
use Rattle.bus_transactions.proofs.Latest.{latest_always}
use Rattle.bus_transactions.proofs.Reaches.{law_of as wire_law}
use Rattle.command_agent.specs.declared.phase.Phase.TheVariants as phases
use Rattle.command_agent.specs.declared.step.AgentState.TheVariants as agents
use Rattle.mgmt_agent.specs.Machine as manager
use Rattle.mgmt_agent.specs.declared.operation.Operation.{Operation}
use Rattle.sbp_laws.specs.Budget.{Lossless}
use Rattle.sbp_laws.specs.Completion.{in_the_air}
use Rattle.sbp_world.specs.Agents.Management.Terms.{HasRequest as HasOwnRequest}
use Rattle.sbp_world.specs.Agents.Purposes.{HasRequest}
use Rattle.sbp_world.specs.Completing.Rest.{AgentRests, DeskRests, InitiatorRests, TargetRests, TermsRest, is_resting}
use Rattle.sbp_world.proofs.Agents.Management.Holding.{Holding, past_terms}
use Rattle.sbp_world.proofs.Agents.Management.Still.{hist}
use Rattle.sbp_world.proofs.Agents.Purposes.{ahead_has, held_waits, law, main_has}
use Rattle.sbp_world.proofs.Common.{equal, none_is, untrue}
use Rattle.sbp_world.proofs.Completing.RestLosses.{BeginsFirst, are_kept}
use Rattle.sbp_world.proofs.Counting.StartPlaces.{are_flown}
use Rattle.sbp_world.proofs.Hosts.Aimed.{Aims}
use Rattle.sbp_world.proofs.Hosts.Held.{begun_from}
use Rattle.sbp_world.proofs.Hosts.Shows.{shown_now}
use Rattle.sbp_world.proofs.Wire.Bus.{holds}
use Rattle.sbp_world.proofs.Wire.Holding.{NodesOf}
use Rattle.sbp_world.proofs.Wire.Kept.{flies_is}

-- ---- nothing flies
empty : {A : Type 0} (xs : List A) → length xs ≡ 0 → xs ≡ []
empty [] e = refl
empty (x ∷ xs) e = absurd (omega (arith, e))

module _ {past : List Moment} (w : WorldState) (h : Stands past w) where
  abbrev t : Terms
  t = terms (hist past w)

  none_flies : in_the_air (hist past w) ≡ 0 → NoneFlies t
  none_flies calm serial e =
      let none : flying w.store.kept ≡ [] = empty (flying w.store.kept) (sym (are_flown w h) ∙ calm) in
      untrue (
      sym (ap (λ xs. list_any (λ x. serial == x) xs) none)
      ∙ (ap (λ (st : Stored). is_flying serial st.kept) (sym h.is.store_is)
      ∙ (flies_is (holds h.wire h.reached).follows serial
      ∙ (ap (λ (x : Terms). flies (x.flight serial)) (past_terms w h)
      ∙ ap flies e))))

  -- its wire lost nothing
  wire_kept : EachMoment BeginsFirst (hist past w) → Lossless (hist past w) → AreKept h.wire.past
  wire_kept first lossless = wire_law LatestLaw latest_always h.wire h.reached (subst AreKeptNow (sym h.is.past_is) (are_kept (hist past w) first lossless.none))

  pub none_waits : EachMoment BeginsFirst (hist past w) → Lossless (hist past w) → in_the_air (hist past w) ≡ 0 → NoneWaits t
  none_waits first lossless calm =
      let is = h.is.past_is in
      subst (λ ms. NoneWaits (terms ms)) is (wire_law QuietLaw quiet_always h.wire h.reached (wire_kept first lossless) h.is.due_is (subst (λ ms. NoneFlies (terms ms)) (sym is) (none_flies calm)))

  pub none_rests : EachMoment BeginsFirst (hist past w) → Lossless (hist past w) → NoneRests t
  none_rests first lossless = subst (λ ms. NoneRests (terms ms)) h.is.past_is (wire_law NoRestLaw no_rest_always h.wire h.reached (wire_kept first lossless))

-- ---- no request is under way
module _ {past : List Moment} (w : WorldState) (h : Stands past w) (none : NoneWaits (terms (hist past w))) (seen : (node : ℕ) → node ≤ length w.initiators → (terms (hist past w)).generation node ≡ (terms (hist past w)).bus) where
  abbrev now : Terms
  now = terms (hist past w)

  unheld : (b : Bool) (serial : ℕ) (u : Transaction) (held : Held) → (now.generation u.requester == u.generation) ≡ b → now.generation u.requester ≡ now.bus → now.held u ≡ held → (b && is_waiting_for held serial) ≡ false
  unheld false serial u held e same f = refl
  unheld true serial u free e same f = refl
  unheld true serial u rests e same f = refl
  unheld true serial u (waits kind s) e same f = absurd (none u kind s (sym (equal (now.generation u.requester) u.generation e) ∙ same) f)

  unbegun : (serial : ℕ) (packet : Sending) → now.sent serial ≡ Some packet → (o : Option Transaction) → begun_by packet ≡ o → waits_for now o serial ≡ false
  unbegun serial packet sent None e = refl
  unbegun serial packet sent (Some u) e =
      let from = (h.is.knows.ours serial packet (ap (λ (x : Terms). x.sent serial) (past_terms w h) ∙ sent)).from in
      unheld (now.generation u.requester == u.generation) serial u (now.held u) refl (ap now.generation (begun_from packet u e) ∙ seen packet.from from) refl

  unsent : (serial : ℕ) (so : Option Sending) → now.sent serial ≡ so → waits_for now (begun_in so) serial ≡ false
  unsent serial None e = refl
  unsent serial (Some packet) e = unbegun serial packet e (begun_by packet) refl

  pub no_request : (serial : ℕ) → is_under_way now serial ≡ false
  no_request serial = unsent serial (now.sent serial) refl

  -- ---- an initiator
  pub initiator_rests : {lines : ℕ} → NodesOf w lines → (i : ℕ) → i < length w.initiators → Aims (initiator_at w i).layer (initiator_at w i).target → InitiatorRests (initiator_at w i)
  initiator_rests nodes i inside aims peer number serial kind e =
      let s = initiator_at w i in
      let to : peer ≡ s.target = aims peer number (purpose_for s.layer.peers peer number) (record { kind = kind; serial = serial; state = e; is_for = refl }) in
      let shown = shown_now w h nodes i inside in
      let u = transaction s.layer.generation (suc i) 0 number in
      let x = held_waits (now.held u) kind (sym (ap (λ p. shape (state_for s.layer.peers p number)) (sym to) ∙ ap shape e) ∙ shown.states number) in
      none u x.kind x.serial (shown.generation ∙ seen (suc i) (omega (arith, inside))) x.is

-- ---- the target
-- a phase in which nothing is under way
rests_in : (phase : Phase) → (state_in phase ≡ agents.Active → ⊥) → (phase ≡ phases.WritingLastStatus → ⊥) → is_resting phase ≡ true
rests_in phases.Reset active last = refl
rests_in phases.Suspended active last = refl
rests_in phases.Dead active last = refl
rests_in phases.WritingLastStatus active last = absurd (last refl)
rests_in phases.Fetching active last = absurd (active refl)
rests_in phases.ReadingTable active last = absurd (active refl)
rests_in (phases.ReadingData wanted) active last = absurd (active refl)
rests_in phases.Answering active last = absurd (active refl)
rests_in phases.WritingStatus active last = absurd (active refl)
rests_in phases.ReadingNext active last = absurd (active refl)

unkept : (o : Option ℕ) → is_some o ≡ false → o ≡ None
unkept None e = refl
unkept (Some serial) e = untrue (sym e)

module _ (units ready : ℕ) (has : 0 < units) (start : List Disk) {past : List Moment} {lines : ℕ} (w : WorldState) (h : Holding units ready start past lines w) (none : NoneWaits (terms (hist past w))) (seen : (terms (hist past w)).generation 0 ≡ (terms (hist past w)).bus) where
  abbrev here : Terms
  here = terms (hist past w)

  none_sent : (sent : Sent) → HasRequest here w.requests sent → ⊥
  none_sent sent r = none (transaction (here.generation 0) 0 r.peer sent.label.number) r.kind r.serial seen r.waits_for

  no_main : (place : ℕ) → place < 8 → (o : Option Sent) → (desk_at w.target place).main ≡ o → (desk_at w.target place).main ≡ None
  no_main place b None e = e
  no_main place b (Some sent) e = absurd (none_sent sent (main_has units ready has start w h place b sent e))

  no_ahead : (place : ℕ) → place < 8 → (o : Option Sent) → (desk_at w.target place).ahead ≡ o → (desk_at w.target place).ahead ≡ None
  no_ahead place b None e = e
  no_ahead place b (Some sent) e = absurd (none_sent sent (ahead_has units ready has start w h place b sent e))

  desk_rests : (place : ℕ) → place < 8 → DeskRests (desk_at w.target place)
  desk_rests place b =
      let desk = desk_at w.target place in
      let a = (law units ready has start w h).agents_have place b in
      let main = no_main place b desk.main refl in
      let ahead = no_ahead place b desk.ahead refl in
      record {
        phase = rests_in desk.agent.phase (λ e. let m = a.active e in none_is m.sent (sym main ∙ m.kept)) (λ e. let m = a.last e in none_is m.sent (sym main ∙ m.kept));
        main = main;
        ahead = ahead;
      }

  no_operation : (o : Option Operation) → w.target.manager.operation ≡ o → w.target.manager.operation ≡ None
  no_operation None e = e
  no_operation (Some operation) e =
      let r : HasOwnRequest here w.target.layer operation.source (target_at start (hist past w)).manages = subst (λ x. Awaits here w.target.layer (source_in x) (target_at start (hist past w)).manages) e h.at.awaits in
      absurd (none (transaction (here.generation 0) 0 r.peer r.number) r.kind r.serial seen r.waits_for)

  pub target_rests : TargetRests w.target
  target_rests = record { desks = desk_rests; operation = no_operation w.target.manager.operation refl }

  agent_rests : AreAgentsAt start (hist past w) w → (place : ℕ) → place < 8 → AgentRests (agent_at (over (target_at start (hist past w))) place)
  agent_rests agents place b =
      let desk = desk_rests place b in
      let of = agents.are.each place b in
      record {
        phase = ap is_resting of.machine.phase ∙ desk.phase;
        main = unkept (agent_at (over (target_at start (hist past w))) place).main (of.main ∙ ap is_some desk.main);
        ahead = unkept (agent_at (over (target_at start (hist past w))) place).ahead (of.ahead ∙ ap is_some desk.ahead);
      }

  pub terms_rest : ((serial : ℕ) → is_under_way here serial ≡ false) → AreAgentsAt start (hist past w) w → TermsRest start (hist past w)
  terms_rest requests agents =
      let operation = no_operation w.target.manager.operation refl in
      record {
        requests = requests;
        agents = agent_rests agents;
        operation = ap (λ (m : manager.Machine). m.operation) h.at.agrees.manager ∙ operation;
        manages = subst (λ x. Awaits here w.target.layer (source_in x) (target_at start (hist past w)).manages) operation h.at.awaits;
      }
