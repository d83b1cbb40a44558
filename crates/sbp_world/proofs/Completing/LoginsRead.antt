-- As each packet is got in a run in which nobody injected packets, the management ORB that it brings to the target names the FIFO of the login that its initiator asked for last, if that of a login number: it is the
-- one that stands in the place, since no place got another one while it was read.
use Rattle.sbp_world.proofs.Words.Std.{◌≡◌, ◌∙◌, sym, ap, subst, inl, ◌<◌, ◌++◌, ℕ, List, [], ◌∷◌, length, Option, Some, Ok, append_assoc, same_Some}
use Rattle.sbp_world.proofs.Words.Wire.{Access, Event, Moment, SerialsCount, Sending, asked, said, terms}
use Rattle.sbp_world.proofs.Words.Target.{Disk, Operation}
use Rattle.sbp_world.proofs.Words.Initiator.{ManagementOrb, Payload, management_orb, payload_of}
use Rattle.sbp_world.proofs.Words.Laws.{EachMoment, answer_in, answered_at, host_at, packet_at, packet_in, place_bytes, target_at}
use Rattle.sbp_world.proofs.Words.World.{AnswersAt, AreShort, AtGot, BasedAt, IsCalm, IsHandling, IsTame, Office, WasAsked, WorldState, orb_in_place, read_access, ready_logins}
use Rattle.mgmt_agent.specs.declared.operation.Phase.TheVariants as phases
use Rattle.sbp_journal.specs.declared.note.Note.TheVariants as notes
use Rattle.sbp_world.specs.Lists.PlaceReads.{BringsPlace}
use Rattle.sbp_world.specs.Lists.ReadOrbs.{IsAnswered}
use Rattle.sbp_world.proofs.Agents.Management.Holding.{Holding}
use Rattle.sbp_world.proofs.Agents.Management.Offices.{over_keeps}
use Rattle.sbp_world.proofs.Agents.Management.Still.{hist}
use Rattle.sbp_world.proofs.Completing.LoginsFree.{AllFree, AreFree, free_everywhere}
use Rattle.sbp_world.proofs.Completing.LoginsHosts.{IfLogin}
use Rattle.sbp_world.proofs.Completing.LoginsPlaces.{HasLast, has_last, still_there}
use Rattle.sbp_world.proofs.Lists.ContentManages.{bound}
use Rattle.sbp_world.proofs.Lists.Courses.{EveryPlace, Keeps, at_between, at_lines}
use Rattle.sbp_world.proofs.Lists.Fair.{Told, told_everywhere}
use Rattle.sbp_world.proofs.Lists.FifoManages.{orb_status}
use Rattle.sbp_world.proofs.Lists.GotTurns.{got_turn}
use Rattle.sbp_world.proofs.Lists.Judging.{goes_next}
use Rattle.sbp_world.proofs.Lists.KeptTurns.{id_is}
use Rattle.sbp_world.proofs.Lists.LiveGiven.{LawsAt}
use Rattle.sbp_world.proofs.Lists.LiveLogins.{laws}
use Rattle.sbp_world.proofs.Lists.LiveRuns.{goes_calm, goes_size}
use Rattle.sbp_world.proofs.Lists.LiveSteps.{id_in}
use Rattle.sbp_world.proofs.Lists.ManagedGots as managed_gots
use Rattle.sbp_world.proofs.Lists.ManageMoments.{Hands, line_calm}
use Rattle.sbp_world.proofs.Lists.ManageSends.{opened_terms}
use Rattle.sbp_world.proofs.Lists.ManageStays.{Had}
use Rattle.sbp_world.proofs.Lists.OfficeWrites.{answered, answers_before}
use Rattle.sbp_world.proofs.Lists.OpenedReplied.{pays_as as payload_is}
use Rattle.sbp_world.proofs.Lists.OrbsRead.{access_there, in_phase}
use Rattle.sbp_world.proofs.Lists.OwnGots.{answered_same}
use Rattle.sbp_world.proofs.Lists.ShortLines.{short_law}

-- what answers the read of an ORB brings such a one
abbrev pub LatestSays : List Disk → ℕ → List Moment → ℕ → Type 0
LatestSays start i past serial =
    Hands start i past → AnswersAt (said (notes.Got serial)) past → (own : ℕ) → answered_at (terms past) serial ≡ Some own → (target_at start past).manages ≡ Some own → (place : ℕ) (op : Operation) → IsHandling start past i place op → op.phase ≡ phases.Orb → (bytes : List ℕ) → payload_of (answer_in (packet_at (terms past) serial)) 32 ≡ Ok bytes → IfLogin (host_at past i) (management_orb bytes).fifo

-- ---- at a place
module _ (units ready : ℕ) (has : 0 < units) (start : List Disk) {past : List Moment} {lines : ℕ} (w : WorldState) (h : Holding units ready start past lines w) (k : managed_gots.Kit start (hist past w) w) (told : Told (hist past w)) (i : ℕ) (inside : i < length w.initiators) (tame : IsTame (hist past w)) (hands : Hands start i (hist past w)) (free : AreFree start i (hist past w)) where
  abbrev ms : List Moment
  ms = hist past w

  calm : IsCalm ms i
  calm = tame i

  shorts : AreShort ms
  shorts = k.shorts

  based : EachMoment (BasedAt i) ms
  based = k.based (inl tame) i inside calm

  counts : SerialsCount ms
  counts = k.ground.known.counts

  pub lasts : HasLast start ms i
  lasts = has_last start i ms hands free (k.ground.known.logins i inside)

  module _ (serial own : ℕ) (answers : AnswersAt (said (notes.Got serial)) ms) (closed : answered_at (terms ms) serial ≡ Some own) (manages : (target_at start ms).manages ≡ Some own) (place : ℕ) (op : Operation) (of : IsHandling start ms i place op) (phase : op.phase ≡ phases.Orb) (bytes : List ℕ) (e : payload_of (answer_in (packet_at (terms ms) serial)) 32 ≡ Ok bytes) where
    source : op.source ≡ id_in w i
    source = of.source ∙ id_is units ready has start w h i inside

    pays : answer_in (packet_at (terms ms) serial) ≡ Payload bytes
    pays = payload_is (answer_in (packet_at (terms ms) serial)) 32 bytes e

    is_answered : IsAnswered ms i serial own bytes
    is_answered = answered units ready has start w h k.ground i inside op of.is source serial own closed manages calm shorts based told.fair answers bytes pays

    was : WasAsked start ms own op
    was = k.ground.known.are.each own op (((bound start ms counts).own own manages).0 ∙ of.is)

    reads : was.access ≡ read_access op.orb 32
    reads = in_phase op.phase phases.Orb op was.access phase was.content

    brings : BringsPlace ms i own place bytes
    brings =
        k.ground.known.places i inside serial own place was.access bytes of.small
        (record {
          read = ap (λ (a : Access). a.is_write) reads;
          block = ap (λ (a : Access). a.is_block) reads;
          from = ap (λ (a : Access). a.offset) reads ∙ of.orb;
          size = ap (λ (a : Access). a.count) reads;
        })
        (record {
          own = is_answered.own;
          answers = is_answered.answers;
          of_initiator = is_answered.of_initiator;
          asks = access_there start ms counts own op was;
          reads = ap (λ (a : Access). a.is_write) reads;
          block = ap (λ (a : Access). a.is_block) reads;
          tells = is_answered.tells;
        })

    in_place : management_orb bytes ≡ orb_in_place ms i place
    in_place =
        let at : (brings.later ++ said (notes.Got own) ∷ []) ++ brings.before ≡ ms = append_assoc brings.later (said (notes.Got own) ∷ []) brings.before ∙ brings.is in
        let same = still_there start i own brings.before brings.below ms (brings.later ++ said (notes.Got own) ∷ []) at counts hands free place op of phase manages place in
        ap management_orb (brings.held ∙ ap place_bytes (sym same))

    brings_last : IfLogin (host_at ms i) (management_orb bytes).fifo
    brings_last =
        subst (λ (orb : ManagementOrb). IfLogin (host_at ms i) orb.fifo) (sym in_place) (lasts.handling place op of (λ rest. orb_status (sym phase ∙ (rest.over place op of).0)))

  pub says_here : (serial : ℕ) → LatestSays start i ms serial
  says_here serial all answers own closed manages place op of phase bytes e = brings_last serial own answers closed manages place op of phase bytes e

-- ---- as a line begins
says_asked : (start : List Disk) (i line : ℕ) (event : Event) (past : List Moment) → ((serial : ℕ) → LatestSays start i past serial) → (serial : ℕ) → LatestSays start i (asked line event ∷ past) serial
says_asked start i line event past a serial hands answers own closed manages place op of phase bytes =
    let office = over_keeps (target_at start past) in
    let same : (terms (asked line event ∷ past)).sent ≡ (terms past).sent = (opened_terms event (terms past)).sent in
    let x : Had start past (asked line event ∷ past) i place op = (line_calm start line event past i hands.0).handling place op of in
    let there : (target_at start past).manager.operation ≡ Some op = sym (ap (λ (o : Office). o.manager.operation) office) ∙ of.is in
    let is : x.was ≡ op = same_Some x.was op (sym x.before.is ∙ there) in
    subst (λ (f : ℕ → Option Sending). payload_of (answer_in (packet_in (f serial))) 32 ≡ Ok bytes → IfLogin (host_at past i) (management_orb bytes).fifo) (sym same)
    (a serial hands.1 (answers_before start line event past serial answers) own (sym (answered_same start line event past serial) ∙ closed) (sym (ap (λ (o : Office). o.manages) office) ∙ manages) place op (subst (IsHandling start past i place) is x.before) phase bytes)

-- ---- at each place of a run
pub record Kit (start : List Disk) (past : List Moment) (w : WorldState) : Type 0 where
  pub managed : managed_gots.Kit start past w
  pub told : Told past
  pub laws : LawsAt start past w
  pub free : AllFree start past w

pub kits : EveryPlace Kit
kits =
    let managed = managed_gots.kit_everywhere short_law in
    record {
      after_lines = λ line run r has small size so_far. record {
        managed = managed.after_lines line run r has small size so_far;
        told = told_everywhere.after_lines line run r has small size so_far;
        laws = (laws short_law).after_lines line run r has small size so_far;
        free = free_everywhere.after_lines line run r has small size so_far;
      };
      between = λ line run r has small size next most told m so_far. record {
        managed = managed.between line run r has small size next most told m so_far;
        told = told_everywhere.between line run r has small size next most told m so_far;
        laws = (laws short_law).between line run r has small size next most told m so_far;
        free = free_everywhere.between line run r has small size next most told m so_far;
      };
    }

abbrev pub AllSay : List Disk → List Moment → WorldState → Type 0
AllSay start past w = IsTame past → (i : ℕ) → i < length w.initiators → EachMoment (AtGot (LatestSays start i)) past

all_say : (units ready : ℕ) → 0 < units → (start : List Disk) → Keeps units ready start (Kit start) (AllSay start)
all_say units ready has start past s later t lines more g h h_now q q_now e tame i within =
    let then : IsTame (hist past s.world) = λ j. goes_calm past s later t g j (tame j) in
    let inside : i < length s.world.initiators = subst (λ n. i < n) (goes_size past s later t g) within in
    got_turn (LatestSays start i) (says_asked start i) (hist past s.world) (hist later t.world) (goes_next past s later t g)
    (λ serial. says_here units ready has start s.world h q.managed q.told i inside then (q.laws.hands i inside (then i)) (q.free i inside (then i)) serial) (e then i inside)

pub say_everywhere : EveryPlace AllSay
say_everywhere = record {
  after_lines = λ line run r has small size so_far.
      at_lines Kit (AllSay run.start.disks) kits line run r.few has small size (all_say run.units (ready_logins run.initiators run.ready) has run.start.disks) (λ tame i within. (tt, (tt, tt))) r so_far;
  between = λ line run r has small size next most told m so_far.
      at_between Kit (AllSay run.start.disks) kits line run r.few has small size (all_say run.units (ready_logins run.initiators run.ready) has run.start.disks) (λ tame i within. (tt, (tt, tt))) r next most told m so_far;
}
