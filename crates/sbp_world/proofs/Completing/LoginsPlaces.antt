-- The ORB in the place of an operation that the target has in hand for an initiator, and of a write that waits to begin one, names the FIFO of the login that was asked for last, if that of a login number; and no place
-- got another ORB since the target asked to read it.
use Rattle.sbp_world.proofs.Words.Std.{arith, ◌≡◌, ◌∙◌, ◌⊎◌, inl, inr, refl, sym, ap, subst, ◌≤◌, ℕ, suc, nat_eq, Bool, true, false, List, [], ◌∷◌, ◌++◌, Option, Some, nat_tests, same_Some}
use Rattle.sbp_world.proofs.Words.Wire.{Moment, SerialsCount, asked, said, terms}
use Rattle.sbp_world.proofs.Words.Target.{Disk, Operation}
use Rattle.sbp_world.proofs.Words.Initiator.{ManagementOrb, management_orb}
use Rattle.sbp_world.proofs.Words.Laws.{EachMoment, host_at, place_bytes, place_held, target_at}
use Rattle.sbp_world.proofs.Words.World.{IsAsking, IsFree, IsHandling, IsRest, orb_in_place}
use Rattle.mgmt_agent.specs.declared.operation.Phase.TheVariants as phases
use Rattle.sbp_journal.specs.declared.note.Note.TheVariants as notes
use Rattle.sbp_world.proofs.Common.{none_is}
use Rattle.sbp_world.proofs.Completing.LoginsBack.{Back, back, before_or_free, begun, freed, had}
use Rattle.sbp_world.proofs.Completing.LoginsFree.{AreFree, FreeAt}
use Rattle.sbp_world.proofs.Completing.LoginsHosts.{AsBefore, IfLogin, IsLastIn, asking_from, asking_honest, asking_last, last_on}
use Rattle.sbp_world.proofs.Hosts.Remaining.{remains, serials_behind}
use Rattle.sbp_world.proofs.Lists.ContentManages.{IsSoBefore, so_before}
use Rattle.sbp_world.proofs.Lists.FifoManages.{orb_status}
use Rattle.sbp_world.proofs.Lists.ManageMoments.{Hands, MayHand, SendFacts, line_calm, quiet_calm}
use Rattle.sbp_world.proofs.Lists.ManageSent.{sent_asking}
use Rattle.sbp_world.proofs.Lists.ManageSights.{again_calm, sight_calm}
use Rattle.sbp_world.proofs.Lists.ManageStays.{Calms, rests_asking}
use Rattle.sbp_world.proofs.Lists.ManageTerms.{got_rests, rests_on}
use Rattle.sbp_world.proofs.Lists.OwnCounts.{FewAt}

-- ---- what is so of each history
pub record HasLast (start : List Disk) (past : List Moment) (i : ℕ) : Type 0 where
  pub asking : (serial place : ℕ) → IsAsking past i serial place → IsLastIn past i place
  pub handling : (place : ℕ) (op : Operation) → IsHandling start past i place op → (IsRest start past i → ⊥) → IsLastIn past i place

on_place : (past now : List Moment) (i place : ℕ) → AsBefore past now i → IsLastIn past i place → IsLastIn now i place
on_place past now i place b h =
    let same : orb_in_place now i place ≡ orb_in_place past i place = ap (λ held. management_orb (place_bytes held)) (b.places place) in
    subst (λ (orb : ManagementOrb). IfLogin (host_at now i) orb.fifo) (sym same) (last_on (host_at past i) (host_at now i) (orb_in_place past i place).fifo b.host h)

module _ (start : List Disk) (i : ℕ) (m : Moment) (past : List Moment) (l : HasLast start past i) (kept : AsBefore past (m ∷ past) i ⊎ IsFree start past i) where
  abbrev now : List Moment
  now = m ∷ past

  old_asking : (serial place : ℕ) → IsAsking past i serial place → IsLastIn now i place
  old_asking serial place a = by kept
    where
      by : AsBefore past now i ⊎ IsFree start past i → IsLastIn now i place
      by (inl b) = on_place past now i place b (l.asking serial place a)
      by (inr f) = absurd (f.none serial place a)

  old_handling : (place : ℕ) (op : Operation) → IsHandling start now i place op → (IsRest start now i → ⊥) → Back start past now i place op → IsLastIn now i place
  old_handling place op h busy (had was before rest) = by kept
    where
      by : AsBefore past now i ⊎ IsFree start past i → IsLastIn now i place
      by (inl b) = on_place past now i place b (l.handling place was before (λ r. busy (rest r)))
      by (inr f) = absurd (busy (rest f.rest))
  old_handling place op h busy (freed f) = absurd (busy f.rest)
  old_handling place op h busy (begun serial a phase none) = old_asking serial place a

  has_calm : Calms start past now i → MayHand start i m past → FreeAt start i m past → HasLast start now i
  has_calm c f free = record {
    asking = λ serial place a. old_asking serial place (c.asking serial place a);
    handling = λ place op h busy. old_handling place op h busy (back start i m past place op f free h);
  }

-- a packet is sent
module _ (start : List Disk) (i serial generation from to : ℕ) (bytes : List ℕ) (past : List Moment) (f : SendFacts start past i serial generation from to bytes) (few : FewAt i (said (notes.Sent serial generation from to bytes)) past) where
  abbrev sent : List Moment
  sent = said (notes.Sent serial generation from to bytes) ∷ past

  new_asking : (place : ℕ) → IsAsking sent i serial place → IsLastIn sent i place
  new_asking place a =
      let acting = f.acts place a in
      let own = asking_from serial generation from to bytes past i place a in
      let honest = asking_honest serial generation from to bytes past i place a in
      asking_last serial generation from to bytes past i place a acting (f.written own honest acting.action acting.line acting.manages_it) (few own acting.action acting.line acting.manages_it)

-- a generation is seen
module _ (start : List Disk) (i node generation : ℕ) (past : List Moment) (l : HasLast start past i) (hands : MayHand start i (said (notes.Seen node generation)) past) (free : FreeAt start i (said (notes.Seen node generation)) past) where
  abbrev seen : List Moment
  seen = said (notes.Seen node generation) ∷ past

  calm : Calms start past seen i → HasLast start seen i
  calm c = has_calm start i (said (notes.Seen node generation)) past l (before_or_free start i (said (notes.Seen node generation)) past free) c hands free

  seen_last : (b c : Bool) → nat_eq node (suc i) ≡ b → nat_eq generation ((terms past).generation (suc i)) ≡ c → HasLast start seen i
  seen_last false c e g = calm (sight_calm start node generation past i e hands.none)
  seen_last true true e g =
      let is : suc i ≡ node = grind (arith, nat_tests) in
      calm (subst (λ n. Calms start past (said (notes.Seen n generation) ∷ past) i) is (again_calm start generation past i g hands.none))
  seen_last true false e g =
      let f : IsFree start seen i = hands.new (grind (arith, nat_tests)) g in
      record { asking = λ s place a. absurd (f.none s place a); handling = λ place op h busy. absurd (busy f.rest) }

pub has_last : (start : List Disk) (i : ℕ) (past : List Moment) → Hands start i past → AreFree start i past → EachMoment (FewAt i) past → HasLast start past i
has_last start i [] hands free few = record { asking = λ serial place a. none_is a.packet a.sent; handling = λ place op h busy. none_is op h.is }
has_last start i (asked line event ∷ past) hands free few =
    let l = has_last start i past hands.1 free.1 few.1 in
    has_calm start i (asked line event) past l (before_or_free start i (asked line event) past free.0) (line_calm start line event past i hands.0) hands.0 free.0
has_last start i (said (notes.Begin initiators ready) ∷ past) hands free few =
    let m = said (notes.Begin initiators ready) in
    let now = m ∷ past in
    record {
      asking = λ serial place a. absurd (free.0.1.none serial place (rests_asking start past now i 0 (rests_on 0 (terms past) (terms now) refl refl refl refl refl refl) (λ s. refl) serial place a));
      handling = λ place op h busy. none_is op (sym free.0.0 ∙ h.is);
    }
has_last start i (said (notes.Sent serial generation from to bytes) ∷ past) hands free few =
    let m = said (notes.Sent serial generation from to bytes) in
    let l = has_last start i past hands.1 free.1 few.1 in
    let kept = before_or_free start i m past free.0 in
    record {
      asking = λ s place a. by l kept s place a (sent_asking start past i serial generation from to bytes hands.0.facts s place a);
      handling = λ place op h busy. old_handling start i m past l kept place op h busy (back start i m past place op hands.0 free.0 h);
    }
  where
    now : List Moment
    now = said (notes.Sent serial generation from to bytes) ∷ past

    by : HasLast start past i → AsBefore past now i ⊎ IsFree start past i → (s place : ℕ) → IsAsking now i s place → IsAsking past i s place ⊎ (s ≡ serial) → IsLastIn now i place
    by l kept s place a (inl old) = old_asking start i (said (notes.Sent serial generation from to bytes)) past l kept s place old
    by l kept s place a (inr is) = new_asking start i serial generation from to bytes past hands.0 few.0 place (subst (λ n. IsAsking now i n place) is a)
has_last start i (said (notes.Got serial) ∷ past) hands free few =
    let m = said (notes.Got serial) in
    let l = has_last start i past hands.1 free.1 few.1 in
    let kept = before_or_free start i m past free.0 in
    record {
      asking = λ s place a. old_asking start i m past l kept s place (rests_asking start past (m ∷ past) i serial (got_rests serial past) (λ n. refl) s place a);
      handling = λ place op h busy. old_handling start i m past l kept place op h busy (back start i m past place op hands.0 free.0 h);
    }
has_last start i (said (notes.Seen node generation) ∷ past) hands free few =
    seen_last start i node generation past (has_last start i past hands.1 free.1 few.1) hands.0 free.0 (nat_eq node (suc i)) (nat_eq generation ((terms past).generation (suc i))) refl refl
has_last start i (said note ∷ past) hands free few =
    has_calm start i (said note) past (has_last start i past hands.1 free.1 few.1) (before_or_free start i (said note) past free.0) (quiet_calm start i note past refl hands.0) hands.0 free.0

-- ---- since the ORB was asked for
module _ (start : List Disk) (i : ℕ) (m : Moment) (past : List Moment) (read : ℕ) (counts : SerialsCount (m ∷ past)) (there : read ≤ (terms past).count) (hands : MayHand start i m past) (free : FreeAt start i m past) (place : ℕ) (op : Operation) (h : IsHandling start (m ∷ past) i place op) (phase : op.phase ≡ phases.Orb) (manages : (target_at start (m ∷ past)).manages ≡ Some read) (at : ℕ) (held : Option ManagementOrb) (before : (was : Operation) → IsHandling start past i place was → was.phase ≡ phases.Orb → (target_at start past).manages ≡ Some read → place_held past i at ≡ held) where
  so : IsSoBefore start past (m ∷ past) read
  so = so_before start (m ∷ []) past read counts there manages

  by_kept : (was : Operation) → IsHandling start past i place was → was.phase ≡ phases.Orb → AsBefore past (m ∷ past) i ⊎ IsFree start past i → place_held (m ∷ past) i at ≡ held
  by_kept was b reads (inl k) = k.places at ∙ before was b reads so.manages
  by_kept was b reads (inr f) = absurd (orb_status (sym reads ∙ (f.rest.over place was b).0))

  by_back : Back start past (m ∷ past) i place op → place_held (m ∷ past) i at ≡ held
  by_back (had was b rest) =
      let same : was ≡ op = same_Some was op (sym b.is ∙ (so.operation ∙ h.is)) in
      by_kept was b (ap (λ (x : Operation). x.phase) same ∙ phase) (before_or_free start i m past free)
  by_back (freed f) = absurd (orb_status (sym phase ∙ (f.rest.over place op h).0))
  by_back (begun serial a reads none) = none_is op (sym none ∙ (so.operation ∙ h.is))

  still_on : place_held (m ∷ past) i at ≡ held
  still_on = by_back (back start i m past place op hands free h)

-- in a history in which it waits for its ORB, the places are as they were
abbrev pub AreStill : List Disk → (i read : ℕ) → List Moment → List Moment → Type 0
AreStill start i read before past =
    SerialsCount past → Hands start i past → AreFree start i past → (place : ℕ) (op : Operation) → IsHandling start past i place op → op.phase ≡ phases.Orb → (target_at start past).manages ≡ Some read → (at : ℕ) → place_held past i at ≡ place_held before i at

module _ (start : List Disk) (i read : ℕ) (before : List Moment) (low : read ≤ (terms before).count) where
  still : (later : List Moment) → AreStill start i read before (later ++ before)
  still [] counts hands free place op h phase manages at = refl
  still (m ∷ later) counts hands free place op h phase manages at =
      let serials = serials_behind m (later ++ before) counts in
      let k = (remains later before serials).count in
      still_on start i m (later ++ before) read counts (omega (arith, low, k)) hands.0 free.0 place op h phase manages at (place_held before i at) (λ was b reads asked_for. still later serials hands.1 free.1 place was b reads asked_for at)

  pub still_there : (all later : List Moment) → later ++ before ≡ all → AreStill start i read before all
  still_there all later is = subst (AreStill start i read before) is (still later)
