-- What a serial is for, by the terms, is what its transaction is under way for at the target.
use Rattle.sbp_world.proofs.Common.{serial_is}
use Rattle.sbp_world.proofs.Words.Std.{arith, ◌≡◌, ◌∙◌, refl, sym, ap, subst, inl, inr, ℕ, zero, suc, ◌+◌, ◌<◌, ◌⊎◌, nat_eq, is_some, Bool, true, false, cond, List, [], ◌∷◌, length, Option, Some, None, nat_tests, false≢true}
use Rattle.sbp_world.proofs.Words.Wire.{transaction, Layer, find, serial_at, request_of, BusRequest, Moment, Kind, Transaction, begun_by, Terms, terms, waits}
use Rattle.sbp_world.proofs.Words.Target.{Which, Ahead, Main, source_in, Disk, Purpose, Sent, desk_at, IsThat, IsUnderWay, TransactionLaw}
use Rattle.sbp_world.proofs.Words.Laws.{Agent, TermPurpose, Target, for_agent, for_manager, for_nobody, is_serial, over, purpose_among, purpose_of, target_at}
use Rattle.sbp_world.proofs.Words.World.{WorldState, Stands, Office, Awaits, AreOf, AreOne, Request, agent_in, AreHandedAt, AreKnown, IsForAgent, IsHanded}
use Rattle.bus_transactions.proofs.Reaches.{goes_on}
use Rattle.sbp_target.specs.declared.purpose.Purpose.TheVariants as purposes
use Rattle.sbp_world.proofs.Wire.Holding.{KnownTo}
use Rattle.sbp_target.proofs.Histories.Calling.{Good}
use Rattle.sbp_target.proofs.Histories.Seats.{IsFor}
use Rattle.sbp_world.proofs.Agents.Management.Awaiting.{under_for}
use Rattle.sbp_world.proofs.Agents.Management.Holding.{Holding, past_terms, same_id}
use Rattle.sbp_world.proofs.Agents.Management.Offices.{over_keeps}
use Rattle.sbp_world.proofs.Agents.Management.Still.{hist}
use Rattle.sbp_world.specs.Agents.Purposes.{HasRequest}
use Rattle.sbp_world.proofs.Agents.Purposes.{g, has_request, label_generation, law, operation_by, state_is}

-- ---- which agent waits for a serial
record Neither (a : Agent) (serial : ℕ) : Type 0 where
  main : is_serial a.main serial ≡ false
  ahead : is_serial a.ahead serial ≡ false

abbrev Waits : Which → Agent → ℕ → Type 0
Waits Main a serial = is_serial a.main serial ≡ true
Waits Ahead a serial = (is_serial a.main serial ≡ false) × (is_serial a.ahead serial ≡ true)

abbrev Among : (k : ℕ) → Agent → (main ahead : Bool) → TermPurpose → TermPurpose
Among k a main ahead rest = cond main (for_agent k Main) (cond ahead (for_agent k Ahead) rest)

past_one : (k : ℕ) (a : Agent) (serial : ℕ) (rest : TermPurpose) → Neither a serial → Among k a (is_serial a.main serial) (is_serial a.ahead serial) rest ≡ rest
past_one k a serial rest n = ap (λ b. Among k a b (is_serial a.ahead serial) rest) n.main ∙ ap (λ b. Among k a false b rest) n.ahead

among_none : (k : ℕ) (agents : List Agent) (serial : ℕ) → ((i : ℕ) → i < length agents → Neither (agent_in agents i) serial) → purpose_among k agents serial ≡ for_nobody
among_none k [] serial n = refl
among_none k (a ∷ agents) serial n =
    past_one k a serial (purpose_among (k + 1) agents serial) (n zero (omega arith)) ∙ among_none (k + 1) agents serial (λ i l. n (suc i) (omega arith))

this_one : (which : Which) (k : ℕ) (a : Agent) (serial : ℕ) (rest : TermPurpose) → Waits which a serial → Among k a (is_serial a.main serial) (is_serial a.ahead serial) rest ≡ for_agent k which
this_one Main k a serial rest e = ap (λ b. Among k a b (is_serial a.ahead serial) rest) e
this_one Ahead k a serial rest e = ap (λ b. Among k a b (is_serial a.ahead serial) rest) e.0 ∙ ap (λ b. Among k a false b rest) e.1

among_at : (k : ℕ) (agents : List Agent) (i serial : ℕ) (which : Which) → i < length agents → ((j : ℕ) → j < i → Neither (agent_in agents j) serial) → Waits which (agent_in agents i) serial → purpose_among k agents serial ≡ for_agent (k + i) which
among_at k [] i serial which l n e = absurd (omega arith)
among_at k (a ∷ agents) zero serial which l n e =
    let same : k ≡ k + 0 = omega arith in this_one which k a serial (purpose_among (k + 1) agents serial) e ∙ ap (λ m. for_agent m which) same
among_at k (a ∷ agents) (suc i) serial which l n e =
    let same : k + 1 + i ≡ k + suc i = omega arith in
    past_one k a serial (purpose_among (k + 1) agents serial) (n zero (omega arith))
    ∙ among_at (k + 1) agents i serial which (omega arith) (λ j m. n (suc j) (omega arith)) e
    ∙ ap (λ m. for_agent m which) same

is_that_serial : (x : Option ℕ) (s serial : ℕ) → x ≡ Some s → s ≡ serial → is_serial x serial ≡ true
is_that_serial x s serial e f = ap (λ m. is_serial m serial) e ∙ (let z : nat_eq s serial ≡ true = grind (arith, nat_tests) in z)

pub record There (x : Option Sent) : Type 0 where
  pub sent : Sent
  pub is : x ≡ Some sent

pub there : (x : Option Sent) → is_some x ≡ true → There x
there None e = absurd (false≢true e)
there (Some sent) e = record { sent = sent; is = refl }

record Number (x : Option ℕ) : Type 0 where
  number : ℕ
  is : x ≡ Some number

number_there : (x : Option ℕ) → is_some x ≡ true → Number x
number_there None e = absurd (false≢true e)
number_there (Some number) e = record { number = number; is = refl }

module _ (units ready : ℕ) (has : 0 < units) (start : List Disk) {past : List Moment} {lines : ℕ} (w : WorldState) (h : Holding units ready start past lines w) where
  abbrev stands : Stands past w
  stands = h.sound.stands

  abbrev G : Good w.target
  G = g units ready has start w h

  abbrev L : TransactionLaw w.target
  L = law units ready has start w h

  abbrev t : Terms
  t = terms (hist past w)

  abbrev ids : ℕ → ℕ
  ids = t.ids (t.generation 0)

  abbrev layer : Layer Purpose
  layer = w.target.layer

  abbrev T : Target
  T = over (target_at start (hist past w))

  -- a serial is of one transaction
  record Same (peer number other another : ℕ) : Type 0 where
    peer_is : peer ≡ other
    number_is : number ≡ another

  same_transaction : (peer number : ℕ) (kind : Kind) (other another : ℕ) (its : Kind) (serial : ℕ) → t.held (transaction (t.generation 0) 0 peer number) ≡ waits kind serial → t.held (transaction (t.generation 0) 0 other another) ≡ waits its serial → Same peer number other another
  same_transaction peer number kind other another its serial e f =
      let u = transaction (t.generation 0) 0 peer number in
      let v = transaction (t.generation 0) 0 other another in
      let a = goes_on.awaited stands.wire u kind serial stands.reached (ap (λ (y : Terms). y.held u) (past_terms w stands) ∙ e) in
      let b = goes_on.awaited stands.wire v its serial stands.reached (ap (λ (y : Terms). y.held v) (past_terms w stands) ∙ f) in
      let packets : Some a.packet ≡ Some b.packet = sym a.sent ∙ b.sent in
      let packet_is : a.packet ≡ b.packet = cc in
      let begun : Some u ≡ Some v = sym a.begun ∙ ap begun_by packet_is ∙ b.begun in
      let both : u ≡ v = cc in
      record { peer_is = ap (λ (z : Transaction). z.responder) both; number_is = ap (λ (z : Transaction). z.label) both }

  -- a request that the bus has by two serials has one
  found_same : (one two : ℕ) (r : BusRequest) → find w.requests one ≡ Some r → find w.requests two ≡ Some r → one ≡ two
  found_same one two r e f =
      let a = stands.is.knows.latest one r e in
      let b = stands.is.knows.latest two r f in
      let to_is : a.to ≡ b.to = goes_on.apart stands.wire r.label.generation a.to b.to stands.reached (sym a.peer_is ∙ b.peer_is) in
      sym a.place_is ∙ ap (λ to. serial_at w.requests r.node to r.label.number) to_is ∙ b.place_is

  module _ (requests : List Request) (are : AreOf requests T.agents w.target) (known : AreKnown requests w.target w.requests) where
    -- what an agent waits for is the request of what its desk keeps
    pub record Own (p : ℕ) (sent : Sent) (s : ℕ) : Type 0 where
      pub request : HasRequest t w.requests sent
      pub serial_is : request.serial ≡ s
      pub under : IsUnderWay layer (Some (purposes.Agent p)) sent.peer sent.label.number

    own : (p : ℕ) (sent : Sent) (f : IsFor G.lives (purposes.Agent p) sent) (k : KnownTo w.generations.seen sent.peer) (s : ℕ) → AreOne requests (Some sent) (Some s) → Own p sent s
    own p sent f k s one =
        let r = has_request units ready has start w h p sent f k in
        record {
          request = r;
          serial_is = found_same r.serial s (request_of 0 sent.peer sent.label) r.found
              (known.known (record { to = sent.peer; label = sent.label; serial = s }) one f.kind (label_generation units ready has start w h p sent f k) (state_is units ready has start w h p sent f k));
          under = under_for layer G.lives (Some (purposes.Agent p)) sent.peer sent.label f.kind G.mid.known f.life;
        }

    pub own_main : (p : ℕ) → p < 8 → (sent : Sent) → (desk_at w.target p).main ≡ Some sent → (s : ℕ) → (agent_in T.agents p).main ≡ Some s → Own p sent s
    own_main p b sent e s f =
        own p sent ((G.mid.seats p b).main_for sent e).0 ((h.sound.nodes.target_holds.fits.seats p).main sent e).0 s
        (subst (λ (y : Option ℕ). AreOne requests (Some sent) y) f (subst (λ (y : Option Sent). AreOne requests y (agent_in T.agents p).main) e (are.each p b).main_is))

    pub own_ahead : (p : ℕ) → p < 8 → (sent : Sent) → (desk_at w.target p).ahead ≡ Some sent → (s : ℕ) → (agent_in T.agents p).ahead ≡ Some s → Own p sent s
    own_ahead p b sent e s f =
        own p sent ((G.mid.seats p b).ahead_for sent e).0 ((h.sound.nodes.target_holds.fits.seats p).ahead sent e).0 s
        (subst (λ (y : Option ℕ). AreOne requests (Some sent) y) f (subst (λ (y : Option Sent). AreOne requests y (agent_in T.agents p).ahead) e (are.each p b).ahead_is))

    -- ---- a request that waits
    module _ (peer number : ℕ) (kind : Kind) (serial : ℕ) (purpose : Option Purpose) (waiting : t.held (transaction (t.generation 0) 0 peer number) ≡ waits kind serial) (under : IsUnderWay layer purpose (ids peer) number) where
      record Fits (p : ℕ) (sent : Sent) : Type 0 where
        purpose_is : purpose ≡ Some (purposes.Agent p)
        peer_is : sent.peer ≡ ids peer
        number_is : sent.label.number ≡ number

      fits : (p : ℕ) (sent : Sent) (s : ℕ) → Own p sent s → s ≡ serial → Fits p sent
      fits p sent s o q =
          let same = same_transaction o.request.peer sent.label.number o.request.kind peer number kind serial (o.request.waits_for ∙ ap (waits o.request.kind) (o.serial_is ∙ q)) waiting in
          let peer_is : sent.peer ≡ ids peer = sym o.request.peer_is ∙ ap ids same.peer_is in
          let here : IsUnderWay layer (Some (purposes.Agent p)) (ids peer) number =
          subst (λ n. IsUnderWay layer (Some (purposes.Agent p)) (ids peer) n) same.number_is (subst (λ i. IsUnderWay layer (Some (purposes.Agent p)) i sent.label.number) peer_is o.under) in
          record { purpose_is = sym under.is_for ∙ here.is_for; peer_is = peer_is; number_is = same.number_is }

      -- and the other way round
      kept_serial : (p : ℕ) (sent : Sent) (s : ℕ) → Own p sent s → sent.peer ≡ ids peer → sent.label.number ≡ number → s ≡ serial
      kept_serial p sent s o e f =
          let peer_is : o.request.peer ≡ peer = same_id w stands o.request.peer peer (o.request.peer_is ∙ e) in
          let both : waits o.request.kind o.request.serial ≡ waits kind serial =
          sym o.request.waits_for ∙ ap (λ n. t.held (transaction (t.generation 0) 0 n sent.label.number)) peer_is ∙ ap (λ n. t.held (transaction (t.generation 0) 0 peer n)) f ∙ waiting in
          let serial_same : o.request.serial ≡ serial = cc in
          sym o.serial_is ∙ serial_same

      record Kept (p : ℕ) (x : Option Sent) : Type 0 where
        sent : Sent
        is : x ≡ Some sent
        fit : Fits p sent

      main_kept : (p : ℕ) → p < 8 → (agent_in T.agents p).main ≡ Some serial → Kept p (desk_at w.target p).main
      main_kept p b e =
          let d = there (desk_at w.target p).main (sym (are.each p b).main ∙ ap (λ (y : Option ℕ). is_some y) e) in
          record { sent = d.sent; is = d.is; fit = fits p d.sent serial (own_main p b d.sent d.is serial e) refl }

      ahead_kept : (p : ℕ) → p < 8 → (agent_in T.agents p).ahead ≡ Some serial → Kept p (desk_at w.target p).ahead
      ahead_kept p b e =
          let d = there (desk_at w.target p).ahead (sym (are.each p b).ahead ∙ ap (λ (y : Option ℕ). is_some y) e) in
          record { sent = d.sent; is = d.is; fit = fits p d.sent serial (own_ahead p b d.sent d.is serial e) refl }

      neither : (p : ℕ) → p < 8 → (purpose ≡ Some (purposes.Agent p) → ⊥) → Neither (agent_in T.agents p) serial
      neither p b n = record { main = main_by (is_serial (agent_in T.agents p).main serial) refl; ahead = ahead_by (is_serial (agent_in T.agents p).ahead serial) refl }
        where
          main_by : (x : Bool) → is_serial (agent_in T.agents p).main serial ≡ x → x ≡ false
          main_by false e = refl
          main_by true e = absurd (n (main_kept p b (serial_is (agent_in T.agents p).main serial e)).fit.purpose_is)

          ahead_by : (x : Bool) → is_serial (agent_in T.agents p).ahead serial ≡ x → x ≡ false
          ahead_by false e = refl
          ahead_by true e = absurd (n (ahead_kept p b (serial_is (agent_in T.agents p).ahead serial e)).fit.purpose_is)

      -- the operation
      abbrev manages : Option ℕ
      manages = (target_at start (hist past w)).manages

      manages_is : T.manages ≡ manages
      manages_is = ap (λ (o : Office). o.manages) (over_keeps (target_at start (hist past w)))

      not_by : (source : Option ℕ) → source_in w.target.manager.operation ≡ source → Awaits t layer source manages → (purpose ≡ Some purposes.Management → ⊥) → is_serial manages serial ≡ false
      not_by None f a n = ap (λ m. is_serial m serial) a
      not_by (Some source) f a n = ap (λ m. is_serial m serial) a.manages_is ∙ by_test (nat_eq a.serial serial) refl
        where
          by_test : (x : Bool) → nat_eq a.serial serial ≡ x → x ≡ false
          by_test false e = refl
          by_test true e =
              let q : a.serial ≡ serial = grind (arith, nat_tests) in
              let same = same_transaction a.peer a.number a.kind peer number kind serial (a.waits_for ∙ ap (waits a.kind) q) waiting in
              let here : IsUnderWay layer (Some purposes.Management) (ids peer) number =
              subst (λ n. IsUnderWay layer (Some purposes.Management) (ids peer) n) same.number_is (subst (λ i. IsUnderWay layer (Some purposes.Management) i a.number) (sym a.peer_is ∙ ap ids same.peer_is) a.under_way) in
              absurd (n (sym under.is_for ∙ here.is_for))

      among : (purpose ≡ Some purposes.Management → ⊥) → purpose_of T serial ≡ purpose_among 0 T.agents serial
      among n =
          ap (λ b. cond b for_manager (purpose_among 0 T.agents serial)) (ap (λ m. is_serial m serial) manages_is ∙ not_by (source_in w.target.manager.operation) refl h.at.awaits n)

      none_waits : (purpose ≡ Some purposes.Management → ⊥) → ((p : ℕ) → purpose ≡ Some (purposes.Agent p) → ⊥) → purpose_of T serial ≡ for_nobody
      none_waits n m = among n ∙ among_none 0 T.agents serial (λ i l. neither i (let s = are.size in omega arith) (m i))

      operation_is : purpose ≡ Some purposes.Management → purpose_of T serial ≡ for_manager
      operation_is e =
          let m = operation_by units ready has start w h peer number kind serial waiting (subst (λ p. IsUnderWay layer p (ids peer) number) e under) (source_in w.target.manager.operation) refl h.at.awaits in
          ap (λ b. cond b for_manager (purpose_among 0 T.agents serial)) (is_that_serial T.manages serial serial (manages_is ∙ m) refl)

      -- an agent
      module _ (place : ℕ) (mine : purpose ≡ Some (purposes.Agent place)) where
        here : IsUnderWay layer (Some (purposes.Agent place)) (ids peer) number
        here = subst (λ p. IsUnderWay layer p (ids peer) number) mine under

        b : place < 8
        b = L.places place (ids peer) number here

        not_manager : purpose ≡ Some purposes.Management → ⊥
        not_manager e = let z : Some (purposes.Agent place) ≡ Some purposes.Management = sym mine ∙ e in cc

        others : (j : ℕ) → j < place → Neither (agent_in T.agents j) serial
        others j l = neither j (let c = b in omega arith) (λ e. let z : Some (purposes.Agent place) ≡ Some (purposes.Agent j) = sym mine ∙ e in let q : place ≡ j = cc in absurd (omega arith))

        waits_as : (which : Which) → Waits which (agent_in T.agents place) serial → purpose_of T serial ≡ for_agent place which
        waits_as which e =
            let same : 0 + place ≡ place = omega arith in
            among not_manager ∙ among_at 0 T.agents place serial which (let s = are.size in let c = b in omega arith) others e ∙ ap (λ m. for_agent m which) same

        main_number : (sent : Sent) → (desk_at w.target place).main ≡ Some sent → Number (agent_in T.agents place).main
        main_number sent e = number_there (agent_in T.agents place).main ((are.each place b).main ∙ ap (λ (y : Option Sent). is_some y) e)

        ahead_number : (sent : Sent) → (desk_at w.target place).ahead ≡ Some sent → Number (agent_in T.agents place).ahead
        ahead_number sent e = number_there (agent_in T.agents place).ahead ((are.each place b).ahead ∙ ap (λ (y : Option Sent). is_some y) e)

        main_that : IsThat (desk_at w.target place).main (ids peer) number → is_serial (agent_in T.agents place).main serial ≡ true
        main_that m =
            let n = main_number m.sent m.is in
            is_that_serial (agent_in T.agents place).main n.number serial n.is (kept_serial place m.sent n.number (own_main place b m.sent m.is n.number n.is) m.peer_is m.number_is)

        ahead_that : IsThat (desk_at w.target place).ahead (ids peer) number → is_serial (agent_in T.agents place).ahead serial ≡ true
        ahead_that m =
            let n = ahead_number m.sent m.is in
            is_that_serial (agent_in T.agents place).ahead n.number serial n.is (kept_serial place m.sent n.number (own_ahead place b m.sent m.is n.number n.is) m.peer_is m.number_is)

        by_that : is_serial (agent_in T.agents place).main serial ≡ false → (IsThat (desk_at w.target place).main (ids peer) number ⊎ IsThat (desk_at w.target place).ahead (ids peer) number) → IsForAgent T w.target place (ids peer) number serial
        by_that e (inl m) = absurd (false≢true (sym e ∙ main_that m))
        by_that e (inr m) = record { which = Ahead; is = waits_as Ahead (e, ahead_that m); kept = m }

        by_test : (x : Bool) → is_serial (agent_in T.agents place).main serial ≡ x → IsForAgent T w.target place (ids peer) number serial
        by_test true e =
            let k = main_kept place b (serial_is (agent_in T.agents place).main serial e) in
            record { which = Main; is = waits_as Main e; kept = record { sent = k.sent; is = k.is; peer_is = k.fit.peer_is; number_is = k.fit.number_is } }
        by_test false e = by_that e ((L.agents_have place b).no_more (ids peer) number here)

        for_it : IsForAgent T w.target place (ids peer) number serial
        for_it = by_test (is_serial (agent_in T.agents place).main serial) refl

      handed : IsHanded T w.target purpose (ids peer) number serial
      handed = record {
        agent = for_it;
        operation = operation_is;
        unsolicited = λ e. none_waits (λ f. let z : Some purposes.Unsolicited ≡ Some purposes.Management = sym e ∙ f in cc) (λ p f. let z : Some purposes.Unsolicited ≡ Some (purposes.Agent p) = sym e ∙ f in cc);
        nobody = λ e. none_waits (λ f. let z : None ≡ Some purposes.Management = sym e ∙ f in cc) (λ p f. let z : None ≡ Some (purposes.Agent p) = sym e ∙ f in cc);
      }

  pub are_handed : AreHandedAt start (hist past w) w
  are_handed = record { all = λ requests peer number kind serial purpose are known waiting under. handed requests are known peer number kind serial purpose waiting under }
