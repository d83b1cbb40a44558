-- What is known of the response that brought an ORB which an agent has: it is the one prepared last in its slot still; so it is as a turn begins, and of what a packet brings in it.
use Rattle.sbp_world.proofs.Words.Std.{arith, ◌≡◌, ◌∙◌, refl, sym, ap, subst, ◌<◌, ◌≤◌, ℕ, suc, nat_lt, is_some, Bool, true, false, length, length-append, List, [], ◌∷◌, ◌++◌, Option, Some, None, nat_tests}
use Rattle.sbp_world.proofs.Words.Wire.{Moment, said, Sending, terms}
use Rattle.sbp_world.proofs.Words.Target.{Phase, Main, Machine, aligned, is_sent, Disk, desk_at}
use Rattle.sbp_world.proofs.Words.Initiator.{CommandOrb, At}
use Rattle.sbp_world.proofs.Words.Laws.{Moved, injectors, named_orb, prepared_in, receiver_in, Target, agent_at, over, target_at, EachMoment}
use Rattle.sbp_world.proofs.Words.World.{WorldState, has_list, moves_data, serial_of, IsOf, AllAhead, IsCalm, initiator_in, is_open_at, machine_at, IsJustBrought, IsStillBrought, IsAwaited, AskedAsGot, IsBrought}
use Rattle.command_agent.specs.declared.phase.Phase.TheVariants as phases
use Rattle.command_agent.specs.declared.phase.ReadAhead.TheVariants as aheads
use Rattle.sbp_journal.specs.declared.note.Note.TheVariants as notes
use Rattle.sbp_target.proofs.Histories.Calling.{not_eight}
use Rattle.sbp_target.proofs.Histories.Following.{Fits}
use Rattle.sbp_world.proofs.Agents.Purposes.{g}
use Rattle.sbp_world.proofs.Agents.Management.Holding.{Holding}
use Rattle.sbp_world.proofs.Agents.Management.Still.{hist}
use Rattle.sbp_world.proofs.Lists.FedFolds as folds
use Rattle.sbp_world.proofs.Lists.FedFolds.{over_still}
use Rattle.sbp_world.proofs.Lists.FedReads as reads
use Rattle.sbp_world.proofs.Lists.FedReads.{IsTurned, feeding}
use Rattle.sbp_world.proofs.Lists.FedSteps.{IsFed}
use Rattle.sbp_world.proofs.Lists.FedGoing.{fed_so}
use Rattle.sbp_world.proofs.Lists.FedStill.{Awaits, ReadBy, Spares, TurnedBy, closed_feeds, fed_alike, unlisted}
use Rattle.sbp_world.proofs.Lists.KeptPhases.{kept_idle}
use Rattle.sbp_world.proofs.Lists.OrbNotes.{GotBrings}
use Rattle.sbp_world.proofs.Lists.OrbSteps.{holds_read}
use Rattle.sbp_world.proofs.Lists.Sites.{Site, waiting}
use Rattle.sbp_world.proofs.Lists.StillReads.{IsHad, named_over, still_had}
use Rattle.sbp_world.proofs.Common.{untrue, same_node}

-- ---- what is known of the response that brought an ORB
-- it is the one prepared last in its slot still
pub record KnownStill (start : List Disk) (past : List Moment) (w : WorldState) (place at : ℕ) (orb : CommandOrb) (response : ℕ) (earlier : List Moment) : Type 0 where
  pub had : IsStillBrought start past w place at orb
  pub response_is : had.named.brought.response ≡ response
  pub earlier_is : had.named.brought.earlier ≡ earlier

-- over a turn: it is the one prepared last in its slot before it
pub record KnownHad (start : List Disk) (now before : List Moment) (w : WorldState) (place at : ℕ) (orb : CommandOrb) (response : ℕ) (earlier : List Moment) : Type 0 where
  pub had : IsHad start now before w place at orb
  pub response_is : had.named.brought.response ≡ response
  pub earlier_is : had.named.brought.earlier ≡ earlier

-- an initiator that injected no packets has a place
pub record IsOwner (past : List Moment) (w : WorldState) (place i : ℕ) : Type 0 where
  pub small : place < 8
  pub calm : IsCalm past i
  pub is : initiator_in w place ≡ i

-- of each agent that has a list open of an initiator that injected no packets
abbrev pub FedStill : List Disk → List Moment → WorldState → ℕ → Machine → Type 0
FedStill start past w place m = IsFed (ReadBy start (KnownStill start past w) (IsOwner past w) past place) (TurnedBy start (KnownStill start past w) (IsOwner past w) past place) m

abbrev pub AllFedStill : List Disk → List Moment → WorldState → Type 0
AllFedStill start past w = (place : ℕ) → place < 8 → is_open_at w place ≡ true → IsCalm past (initiator_in w place) → FedStill start past w place (machine_at w place)

-- a main transaction of one that has an ORB read ahead is under way
abbrev pub AreSentAhead : List Moment → WorldState → Type 0
AreSentAhead past w = (place : ℕ) → place < 8 → is_open_at w place ≡ true → IsCalm past (initiator_in w place) → (orb : CommandOrb) → (machine_at w place).ahead ≡ aheads.Kept orb → is_sent (machine_at w place).phase ≡ true

pub record AreFedStill (start : List Disk) (past : List Moment) (w : WorldState) : Type 0 where
  pub fed : AllFedStill start past w
  pub sent : AreSentAhead past w

-- what is known of it otherwise
module _ (start : List Disk) (past : List Moment) (place : ℕ) (J K : ℕ → ℕ → CommandOrb → ℕ → List Moment → Type 0) where
  pub read_known : (Owner OwnerNow : ℕ → ℕ → Type 0) → ((i : ℕ) → OwnerNow place i → Owner place i) → (at : ℕ) (orb : CommandOrb) → ((response : ℕ) (earlier : List Moment) → J place at orb response earlier → K place at orb response earlier) → ReadBy start J Owner past place at orb → ReadBy start K OwnerNow past place at orb
  read_known Owner OwnerNow owns at orb f r = record {
    response = r.response;
    earlier = r.earlier;
    later = r.later;
    is = r.is;
    known = f r.response r.earlier r.known;
    ahead = λ i own. r.ahead i (owns i own);
  }

  pub turned_known : (Owner OwnerNow : ℕ → ℕ → Type 0) → ((i : ℕ) → OwnerNow place i → Owner place i) → (at : ℕ) (orb : CommandOrb) (reads : List Moved) → ((response : ℕ) (earlier : List Moment) → J place at orb response earlier → K place at orb response earlier) → TurnedBy start J Owner past place at orb reads → TurnedBy start K OwnerNow past place at orb reads
  turned_known Owner OwnerNow owns at orb reads known t = record {
    response = t.response;
    earlier = t.earlier;
    later = t.later;
    between = t.between;
    is = t.is;
    reads_are = t.reads_are;
    known = known t.response t.earlier t.known;
    awaited = λ i own. t.awaited i (owns i own);
    ahead = λ i own. t.ahead i (owns i own);
  }

holds_sent : (phase : Phase) → holds_read phase ≡ true → is_sent phase ≡ true
holds_sent phases.ReadingTable e = refl
holds_sent (phases.ReadingData wanted) e = refl
holds_sent phases.Answering e = refl
holds_sent _ e = untrue e

none_since : (x y : Moment) (earlier past later : List Moment) → later ++ x ∷ earlier ≡ y ∷ past → earlier ≡ past → later ≡ []
none_since x y earlier past [] e same = refl
none_since x y earlier past (m ∷ later) e same =
    let tail : later ++ x ∷ earlier ≡ past = (let both : m ∷ (later ++ x ∷ earlier) ≡ y ∷ past = e in cc) in
    let size = ap (λ (xs : List Moment). length xs) (tail ∙ sym same) in
    let sum = length-append later (x ∷ earlier) in
    absurd (omega (arith, size, sum))

-- ---- as a turn begins, and what a packet brings in it
module _ (units ready : ℕ) (has : 0 < units) (start : List Disk) {past : List Moment} {lines : ℕ} (w : WorldState) (h : Holding units ready start past lines w) (site : Site start past w) (asked_so : EachMoment (AskedAsGot start) (hist past w)) (fed : AreFedStill start (hist past w) w) (now : List Moment) (back : List Moment) (behind : back ++ hist past w ≡ now) where
  abbrev before : List Moment
  before = hist past w

  abbrev T : Target
  T = over (target_at start before)

  abbrev pub K : ℕ → ℕ → CommandOrb → ℕ → List Moment → Type 0
  K p at orb response earlier = p < 8 → IsCalm before (initiator_in w p) → KnownHad start now before w p at orb response earlier

  abbrev pub R : List Moment → ℕ → ℕ → CommandOrb → Type 0
  R ms p at orb = ReadBy start K (IsOwner before w) ms p at orb

  abbrev pub U : List Moment → ℕ → ℕ → CommandOrb → List Moved → Type 0
  U ms p at orb reads = TurnedBy start K (IsOwner before w) ms p at orb reads

  abbrev pub Fed : List Moment → ℕ → Machine → Type 0
  Fed ms p m = IsFed (R ms p) (U ms p) m

  -- ---- before it
  had_before : (p : ℕ) (at : ℕ) (orb : CommandOrb) (response : ℕ) (earlier : List Moment) → KnownStill start before w p at orb response earlier → K p at orb response earlier
  had_before p at orb response earlier x small calm = record { had = still_had start before now back behind w p at orb x.had; response_is = x.response_is; earlier_is = x.earlier_is }

  all_before : folds.AreStill (λ p m. IsFed (IsBrought start before p) (IsTurned start before p) m) T
  all_before = over_still (λ p m. IsFed (IsBrought start before p) (IsTurned start before p) m) (reads.kept start before) (target_at start before) (feeding start before asked_so)

  -- of one that injected none
  by_calm : (p : ℕ) (b : p < 8) → is_open_at w p ≡ true → IsCalm before (initiator_in w p) → Fed before p (agent_at T p).machine
  by_calm p b e calm =
      let a = (agent_at T p).machine in
      let m = machine_at w p in
      let alike = (site.agents.are.each p b).machine in
      let here = fed_so (ReadBy start (KnownStill start before w) (IsOwner before w) before p) (R before p) (TurnedBy start (KnownStill start before w) (IsOwner before w) before p) (U before p) m
      (λ holds reads. turned_known start before p (KnownStill start before w) K (IsOwner before w) (IsOwner before w) (λ i own. own) m.present m.orb reads (had_before p m.present m.orb))
      (λ orb kept offset next. read_known start before p (KnownStill start before w) K (IsOwner before w) (IsOwner before w) (λ i own. own) (aligned offset) orb (had_before p (aligned offset) orb)) (fed.fed p b e calm) in
      fed_alike (R before p) (U before p) m a (sym alike.phase) (sym (alike.present e)) (sym (alike.orb e)) (sym (alike.payload e)) (λ f. sym (alike.segments (ap moves_data (sym alike.phase) ∙ f))) (sym (alike.ahead e)) here

  -- nothing is said of a place that there is not, or of an initiator that injected packets
  none_owns : (p : ℕ) → (p < 8 → IsCalm before (initiator_in w p) → ⊥) → (i : ℕ) → IsOwner before w p i → ⊥
  none_owns p none i own = none own.small (subst (IsCalm before) (sym own.is) own.calm)

  none_read : (p : ℕ) → (p < 8 → IsCalm before (initiator_in w p) → ⊥) → (at : ℕ) (orb : CommandOrb) → IsBrought start before p at orb → R before p at orb
  none_read p none at orb b = record { response = b.response; earlier = b.earlier; later = b.later; is = b.is; known = λ small calm. absurd (none small calm); ahead = λ i own. absurd (none_owns p none i own) }

  none_turned : (p : ℕ) → (p < 8 → IsCalm before (initiator_in w p) → ⊥) → (at : ℕ) (orb : CommandOrb) (reads : List Moved) → IsTurned start before p at orb reads → U before p at orb reads
  none_turned p none at orb reads t =
      record {
        response = t.brought.response;
        earlier = t.brought.earlier;
        later = t.later;
        between = t.between;
        is = t.is;
        reads_are = t.reads_are;
        known = λ small calm. absurd (none small calm);
        awaited = λ i own. absurd (none_owns p none i own);
        ahead = λ i own. absurd (none_owns p none i own);
      }

  none_said : (p : ℕ) → (p < 8 → IsCalm before (initiator_in w p) → ⊥) → Fed before p (agent_at T p).machine
  none_said p none =
      let m = (agent_at T p).machine in
      fed_so (IsBrought start before p) (R before p) (IsTurned start before p) (U before p) m
      (λ holds reads. none_turned p none m.present m.orb reads) (λ orb kept offset next. none_read p none (aligned offset) orb) (all_before.agents p)

  by_own : (p : ℕ) (b : p < 8) → is_open_at w p ≡ true → (x : Bool) → injectors before (initiator_in w p) ≡ x → Fed before p (agent_at T p).machine
  by_own p b e true f = none_said p (λ small calm. untrue (sym calm ∙ f))
  by_own p b e false f = by_calm p b e f

  by_list : (p : ℕ) (b : p < 8) (x : Bool) → has_list (machine_at w p).phase ≡ x → Fed before p (agent_at T p).machine
  by_list p b true e = by_own p b e (injectors before (initiator_in w p)) refl
  by_list p b false e =
      closed_feeds (IsBrought start before p) (R before p) (IsTurned start before p) (U before p) (agent_at T p).machine (ap has_list (site.agents.are.each p b).machine.phase ∙ e) (all_before.agents p)

  by_place : (p : ℕ) (x : Bool) → nat_lt p 8 ≡ x → Fed before p (agent_at T p).machine
  by_place p true e = by_list p (grind (arith, nat_tests)) (has_list (machine_at w p).phase) refl
  by_place p false e = let far : 8 ≤ p = grind (arith, nat_tests) in none_said p (λ small calm. omega (arith, far, small))

  pub fed_before : folds.AreStill (Fed before) T
  fed_before = record { agents = λ p. by_place p (nat_lt p 8) refl; none = all_before.none }

  -- ---- what its agents wait for
  by_main : (p : ℕ) → p < 8 → (main : Option ℕ) → (agent_at T p).main ≡ main → is_some main ≡ true → IsAwaited start before (initiator_in w p) p
  by_main p b None e f = untrue f
  by_main p b (Some mine) e f = record { side = Main; mine = mine; waits = e; to = (waiting units ready has start w h site p b Main mine e).to }

  awaits_before : (p : ℕ) → holds_read (agent_at T p).machine.phase ≡ true → Awaits start (IsOwner before w) before p
  awaits_before p holds i own =
      let b = own.small in
      let a = agent_at T p in
      let d = desk_at w.target p in
      let is : IsOf site.agents.requests a d = site.agents.are.each p b in
      let fits : Fits d = (g units ready has start w h).mid.fits p b (not_eight p b) in
      subst (λ j. IsAwaited start before j p) own.is (by_main p b a.main refl (is.main ∙ fits.main ∙ holds_sent d.agent.phase (ap holds_read (sym is.machine.phase) ∙ holds)))

  listed : (p : ℕ) → p < 8 → (orb : CommandOrb) → (agent_at T p).machine.ahead ≡ aheads.Kept orb → (x : Bool) → has_list (machine_at w p).phase ≡ x → x ≡ true
  listed p b orb kept true e = refl
  listed p b orb kept false e =
      kept_idle orb (sym kept ∙ (all_before.agents p).idle ((unlisted (agent_at T p).machine.phase (ap has_list (site.agents.are.each p b).machine.phase ∙ e)).1))

  spares_before : (p : ℕ) (orb : CommandOrb) → (agent_at T p).machine.ahead ≡ aheads.Kept orb → Awaits start (IsOwner before w) before p
  spares_before p orb kept i own =
      let b = own.small in
      let calm : IsCalm before (initiator_in w p) = subst (IsCalm before) (sym own.is) own.calm in
      let a = agent_at T p in
      let d = desk_at w.target p in
      let is : IsOf site.agents.requests a d = site.agents.are.each p b in
      let fits : Fits d = (g units ready has start w h).mid.fits p b (not_eight p b) in
      let open_there = listed p b orb kept (has_list (machine_at w p).phase) refl in
      subst (λ j. IsAwaited start before j p) own.is (by_main p b a.main refl (is.main ∙ fits.main ∙ fed.sent p b open_there calm orb (sym (is.machine.ahead open_there) ∙ kept)))

  -- and so they do as a line begins
  awaits_in : (ms : List Moment) → over (target_at start ms) ≡ T → (terms ms).sent ≡ (terms before).sent → (p : ℕ) → holds_read (agent_at (over (target_at start ms)) p).machine.phase ≡ true → Awaits start (IsOwner before w) ms p
  awaits_in ms same sent p holds i own =
      let x = awaits_before p (ap (λ (t : Target). holds_read (agent_at t p).machine.phase) (sym same) ∙ holds) i own in
      record {
        side = x.side;
        mine = x.mine;
        waits = ap (λ (t : Target). serial_of x.side (agent_at t p)) same ∙ x.waits;
        to = ap (λ (f : ℕ → Option Sending). receiver_in (f x.mine)) sent ∙ x.to;
      }

  spares_in : (ms : List Moment) → over (target_at start ms) ≡ T → (terms ms).sent ≡ (terms before).sent → (p : ℕ) (orb : CommandOrb) → (agent_at (over (target_at start ms)) p).machine.ahead ≡ aheads.Kept orb → (offset : ℕ) → (agent_at (over (target_at start ms)) p).machine.orb.next ≡ At offset → Spares start (IsOwner before w) ms p (aligned offset)
  spares_in ms same sent p orb kept offset next i own =
      let x = spares_before p orb (ap (λ (t : Target). (agent_at t p).machine.ahead) (sym same) ∙ kept) i own in
      record {
        awaited = record {
          side = x.side;
          mine = x.mine;
          waits = ap (λ (t : Target). serial_of x.side (agent_at t p)) same ∙ x.waits;
          to = ap (λ (f : ℕ → Option Sending). receiver_in (f x.mine)) sent ∙ x.to;
        };
        orb = orb;
        kept = kept;
        offset = offset;
        next = next;
        stands = refl;
      }

  -- ---- each is ready for an answer
  pub ready_in : (ms : List Moment) → over (target_at start ms) ≡ T → (terms ms).sent ≡ (terms before).sent → (p : ℕ) → (holds_read (agent_at (over (target_at start ms)) p).machine.phase ≡ true → Awaits start (IsOwner before w) ms p) × ((orb : CommandOrb) → (agent_at (over (target_at start ms)) p).machine.ahead ≡ aheads.Kept orb → (offset : ℕ) → (agent_at (over (target_at start ms)) p).machine.orb.next ≡ At offset → Spares start (IsOwner before w) ms p (aligned offset))
  ready_in ms same sent p = (awaits_in ms same sent p, spares_in ms same sent p)

  -- ---- what a packet brings
  module _ (ms : List Moment) (same : over (target_at start ms) ≡ T) (sent : (terms ms).sent ≡ (terms before).sent) (there : (i slot : ℕ) → prepared_in ms i slot ≡ prepared_in before i slot) (quiet : (i : ℕ) → IsCalm before i → IsCalm ms i) (serial : ℕ) (front : List Moment) (is : front ++ said (notes.Got serial) ∷ ms ≡ now) where
    just_known : (p : ℕ) → p < 8 → IsCalm before (initiator_in w p) → (at : ℕ) (orb : CommandOrb) (x : IsJustBrought start ms serial p at orb) → KnownHad start now before w p at orb x.from.brought.response x.from.brought.earlier
    just_known p b calm at orb x =
        let y = x.from in
        let e = x.now in
        let waits : serial_of y.brought.which (agent_at T p) ≡ Some y.brought.request =
        subst (λ (z : Target). serial_of y.brought.which (agent_at z p) ≡ Some y.brought.request) same (subst (λ ps. serial_of y.brought.which (agent_at (over (target_at start ps)) p) ≡ Some y.brought.request) e y.brought.waited) in
        let asked = waiting units ready has start w h site p b y.brought.which y.brought.request waits in
        let to : receiver_in ((terms before).sent y.brought.request) ≡ Some (suc y.i) =
        subst (λ (f : ℕ → Option Sending). receiver_in (f y.brought.request) ≡ Some (suc y.i)) sent (subst (λ ps. receiver_in ((terms ps).sent y.brought.request) ≡ Some (suc y.i)) e y.to) in
        let own : y.i ≡ initiator_in w p = same_node y.i (initiator_in w p) (sym to ∙ asked.to) in
        let led = y.led (subst (λ ps. IsCalm ps y.i) (sym e) (quiet y.i (subst (IsCalm before) (sym own) calm))) in
        record {
          had = record {
            named = named_over start (said (notes.Got serial) ∷ ms) now front is p at orb (record { brought = y.brought; i = y.i; to = y.to; led = led });
            initiator = own;
            there = sym (there y.i led.slot) ∙ subst (λ ps. prepared_in ps y.i led.slot ≡ Some (named_orb led.n led.k)) e led.there;
          };
          response_is = refl;
          earlier_is = refl;
        }

    just_read : (p : ℕ) (at : ℕ) (orb : CommandOrb) → IsJustBrought start ms serial p at orb → R (said (notes.Got serial) ∷ ms) p at orb
    just_read p at orb x =
        let y = x.from.brought in
        record {
          response = y.response;
          earlier = y.earlier;
          later = y.later;
          is = y.is;
          known = λ b calm. just_known p b calm at orb x;
          ahead = λ i own. subst (λ later. AllAhead start i p at later (said (notes.Got y.response) ∷ y.earlier)) (sym (none_since (said (notes.Got y.response)) (said (notes.Got serial)) y.earlier ms y.later y.is x.now)) tt;
        }

    pub got_read : GotBrings (IsJustBrought start ms serial) (terms ms) serial (over (target_at start ms)) → GotBrings (R (said (notes.Got serial) ∷ ms)) (terms ms) serial (over (target_at start ms))
    got_read just own closed place which purpose =
        let b = just own closed place which purpose in
        record { main = λ x p bytes e. just_read place _ _ (b.main x p bytes e); ahead = λ x a offset n bytes e. just_read place _ _ (b.ahead x a offset n bytes e) }
