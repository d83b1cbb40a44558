-- At each place of every run in which nobody injected packets, the status block of a login goes to the FIFO of the login that its initiator asked for last, whenever the initiator ignores the block for a cause that is
-- answered with an error, and the session is not out then.
use Rattle.sbp_world.proofs.Words.Std.{arith, ◌≡◌, ◌∙◌, sym, ap, subst, inl, ◌<◌, ◌≤◌, ◌++◌, ℕ, suc, not, true, false, List, [], ◌∷◌, length, Option, Some, same_Some}
use Rattle.sbp_world.proofs.Words.Wire.{Access, Cause, Moment, Sending, SerialsCount, Transaction, between, said, terms}
use Rattle.sbp_world.proofs.Words.Target.{Disk, Operation}
use Rattle.sbp_world.proofs.Words.Laws.{EachMoment, access_at, access_in, access_in_bytes, host_at, id_for, packet_in, target_at}
use Rattle.sbp_world.proofs.Words.World.{AccessOf, AnswersAt, AtGot, IsHandling, IsInAPlace, IsLoginFifo, IsRest, IsTame, IsTelling, WorldState, last_read, more_deliveries}
use Rattle.bus_transactions.proofs.Facts.{Facts, asked_begun, request_asked}
use Rattle.mgmt_agent.specs.declared.operation.Phase.TheVariants as phases
use Rattle.sbp_journal.specs.declared.note.Note.TheVariants as notes
use Rattle.sbp_world.specs.Completing.ManagedRefusals.{is_hard}
use Rattle.sbp_world.specs.Completing.Shut.{AreLoginsLatest, AreToFifos, IsLatest, LoginsLatestLaw}
use Rattle.sbp_world.proofs.Agents.Management.Holding.{Holding}
use Rattle.sbp_world.proofs.Agents.Management.Still.{hist}
use Rattle.sbp_world.proofs.Common.{moment_joined}
use Rattle.sbp_world.proofs.Completing.AnswersRuns.{by_places}
use Rattle.sbp_world.proofs.Completing.LoginsFree.{AreFree, FreeAt}
use Rattle.sbp_world.proofs.Completing.LoginsHosts.{IsLast}
use Rattle.sbp_world.proofs.Completing.LoginsKept.{HasRead, has_read}
use Rattle.sbp_world.proofs.Completing.LoginsRead.{AllSay, Kit, LatestSays, say_everywhere}
use Rattle.sbp_world.proofs.Completing.LoginsRead as reads
use Rattle.sbp_world.proofs.Completing.LoginsTerms.{current_before, ids_kept, last_kept, new_before}
use Rattle.sbp_world.proofs.Completing.ManagedPlaces.{ignored_sent}
use Rattle.sbp_world.proofs.Completing.ManagedRuns as runs
use Rattle.sbp_world.proofs.Completing.ManagedRuns.{RunKit, kits}
use Rattle.sbp_world.proofs.Completing.ManagedWire.{IsIgnoring, KnownAt, KnownMoments}
use Rattle.sbp_world.proofs.Completing.ShutRuns.{to_fifos_law}
use Rattle.sbp_world.proofs.Hosts.Between.{OfWire}
use Rattle.sbp_world.proofs.Hosts.SentMoments.{sent_below, serials_from}
use Rattle.sbp_world.proofs.Lists.Clauses.{open_lists_law}
use Rattle.sbp_world.proofs.Lists.ContentManages.{IsSoBefore, bound, so_before}
use Rattle.sbp_world.proofs.Lists.Courses.{EveryPlace, more_than_one}
use Rattle.sbp_world.proofs.Lists.FifoManages.{orb_status}
use Rattle.sbp_world.proofs.Lists.KeptTurns.{id_is}
use Rattle.sbp_world.proofs.Lists.ListsProved.{closing}
use Rattle.sbp_world.proofs.Lists.ManageGot.{IsWriting, writing_in}
use Rattle.sbp_world.proofs.Lists.ManageKnown.{write_of}
use Rattle.sbp_world.proofs.Lists.ManageMoments.{Hands, MayHand}
use Rattle.sbp_world.proofs.Lists.OfficeWrites.{op_placed}
use Rattle.sbp_world.proofs.Lists.OrbsInPlace.{IsRequest, of_request}
use Rattle.sbp_world.proofs.Lists.OrbsRead.{in_phase}
use Rattle.sbp_world.proofs.Lists.Rises.{Rises, rises}
use Rattle.sbp_world.proofs.Lists.StatusKnown.{each_from, generation_grows}
use Rattle.sbp_world.proofs.Lists.StatusLogins.{each_there}

record LatestKit (start : List Disk) (past : List Moment) (w : WorldState) : Type 0 where
  run : RunKit start past w
  kit : Kit start past w
  say : AllSay start past w
  to : IsTame past → AreToFifos start past

-- ---- at a place
module _ (units ready : ℕ) (has : 0 < units) (start : List Disk) {past : List Moment} {lines : ℕ} (w : WorldState) (h : Holding units ready start past lines w) (k : LatestKit start (hist past w) w) (tame : IsTame (hist past w)) where
  abbrev ms : List Moment
  ms = hist past w

  known : KnownMoments ms
  known = runs.known units ready has start w h k.run tame

  rise : Rises ms
  rise = subst Rises h.sound.stands.is.past_is (rises h.sound.stands.wire h.sound.stands.reached)

  module _ (op : Operation) (i ask : ℕ) (access : Access) (operation : (target_at start ms).manager.operation ≡ Some op) (phase : op.phase ≡ phases.Status) (inside : i < length w.initiators) (source : op.source ≡ id_for (terms ms) 0 (suc i)) (manages : (target_at start ms).manages ≡ Some ask) (asks : access_at (terms ms) ask ≡ Some access) (own : IsLoginFifo access.offset) where
    wire : OfWire ms
    wire = (k.run.kit.stood i inside).wire

    counts : SerialsCount ms
    counts = wire.laws.serials

    abbrev q : Sending
    q = (runs.packet units ready has start w h k.run tame op i ask access operation inside source manages asks).packet

    sent : (terms ms).sent ask ≡ Some q
    sent = (runs.packet units ready has start w h k.run tame op i ask access operation inside source manages asks).is

    to : q.to ≡ suc i
    to = runs.to units ready has start w h k.run tame op i ask access operation inside source manages asks

    from : q.from ≡ 0
    from = runs.from units ready has start w h k.run tame op i ask access operation inside source manages asks

    honest : q.injected ≡ false
    honest = runs.unforged units ready has start w h k.run tame op i ask access operation inside source manages asks

    -- it is a write, and so was taken as new once at most
    content : AccessOf phases.Status op access
    content =
        subst (AccessOf phases.Status op) (runs.access_is units ready has start w h k.run tame op i ask access operation inside source manages asks)
        (in_phase op.phase phases.Status op _ phase (runs.was units ready has start w h k.run tame op i ask access operation inside source manages asks).content)

    spelled : access_in_bytes q.bytes ≡ Some access
    spelled = sym (ap (λ (found : Option Sending). access_in (packet_in found)) sent) ∙ asks

    writing : IsWriting q.bytes
    writing = writing_in q.bytes access spelled (ap (λ (x : Access). x.is_write) content.1.1)

    most : (terms ms).news ask ≤ 1
    most =
        let v : Transaction = between q q.from q.to writing.label in
        let b = asked_begun q v honest (request_asked q writing.label _ writing.part) in
        (wire.facts.counts ask q sent).most v b (write_of q.bytes writing.label writing.part) (ap not (ap (terms ms).injects from ∙ k.kit.told.fair))

    placed : IsInAPlace op
    placed =
        let m = k.kit.managed in
        op_placed units ready has start w h m.ground i inside op operation (source ∙ id_is units ready has start w h i inside) (tame i) m.shorts (m.based (inl tame) i inside (tame i))

    -- it is of the generation of the target
    of_target : q.generation ≡ (terms ms).generation 0
    of_target =
        let r : IsRequest ms ask op = of_request units ready start w h op ask operation manages in
        ap (λ (x : Sending). x.generation) (same_Some q r.packet (sym sent ∙ r.sent)) ∙ r.generation

    -- ---- as it is ignored
    module _ (later earlier : List Moment) (cause : Cause) (e : later ++ said (notes.Ignored ask cause) ∷ earlier ≡ ms) (hard : is_hard cause ≡ true) where
      abbrev m : Moment
      m = said (notes.Ignored ask cause)

      abbrev front : List Moment
      front = later ++ m ∷ []

      joined : front ++ earlier ≡ ms
      joined = moment_joined later m earlier ∙ e

      counts_then : SerialsCount (front ++ earlier)
      counts_then = subst SerialsCount (sym joined) counts

      hands : Hands start i (front ++ earlier)
      hands = subst (Hands start i) (sym joined) (k.kit.laws.hands i inside (tame i))

      there : (terms earlier).sent ask ≡ Some q
      there = ignored_sent ms known counts later earlier ask cause e q sent

      low : ask ≤ (terms earlier).count
      low = sent_below earlier ask q (serials_from front earlier counts_then) there

      manages_then : (target_at start (front ++ earlier)).manages ≡ Some ask
      manages_then = ap (λ x. (target_at start x).manages) joined ∙ manages

      operation_then : (target_at start (front ++ earlier)).manager.operation ≡ Some op
      operation_then = ap (λ x. (target_at start x).manager.operation) joined ∙ operation

      so : IsSoBefore start earlier (front ++ earlier) ask
      so = so_before start front earlier ask counts_then low manages_then

      operation_there : (target_at start earlier).manager.operation ≡ Some op
      operation_there = so.operation ∙ operation_then

      current : q.generation ≡ (terms earlier).generation (suc i)
      current = current_before ms later earlier ask cause e hard q there wire.laws.judged ∙ ap (terms earlier).generation to

      facts : Facts (terms earlier)
      facts = (let f : IsIgnoring earlier ask = each_there KnownAt later m earlier (subst KnownMoments (sym e) known) in f.facts)

      target_there : (terms earlier).generation 0 ≡ q.generation
      target_there =
          let a = (facts.honest ask q there).past in
          let b = ap (terms earlier).generation from in
          let c = generation_grows front earlier 0 (subst Rises (sym joined) rise) in
          let d = ap (λ x. (terms x).generation 0) joined in
          let f = of_target in
          omega (arith, a, b, c, d, f)

      source_there : op.source ≡ (terms earlier).ids q.generation (suc i)
      source_there =
          source
          ∙ (ap (λ n. (terms ms).ids n (suc i)) (sym of_target)
          ∙ (ap (λ x. (terms x).ids q.generation (suc i)) (sym joined) ∙ ids_kept start i ask q (suc i) front earlier counts_then hands there low))

      handled : IsHandling start earlier i placed.place op
      handled = record {
        same = target_there ∙ current;
        is = operation_there;
        source = source_there ∙ ap (λ n. (terms earlier).ids n (suc i)) (sym target_there);
        small = placed.small;
        orb = placed.orb;
      }

      telling : IsTelling start earlier i ask placed.place
      telling = record {
        packet = q;
        sent = there;
        current = current;
        op = op;
        is_for = ((bound start earlier (serials_from front earlier counts_then)).own ask so.manages).0 ∙ operation_there;
        status = phase;
        source = source_there;
        small = placed.small;
        orb = placed.orb;
        unjudged = new_before ms later earlier ask cause e hard q there most;
      }

      read : HasRead start i earlier
      read =
          let free = k.kit.free i inside (tame i) in
          has_read start i earlier (each_from (MayHand start i) front earlier hands) (each_from (FreeAt start i) front earlier (subst (AreFree start i) (sym joined) free))
          (each_from AnswersAt front earlier (subst (EachMoment AnswersAt) (sym joined) k.kit.told.answers)) (each_from (AtGot (LatestSays start i)) front earlier (subst (EachMoment (AtGot (LatestSays start i))) (sym joined) (k.say tame i inside)))

      goes : access.offset ≡ (last_read start earlier).fifo
      goes =
          let last = last_kept start ask op phase front earlier counts_then low manages_then operation_then in
          (k.to tame op ask access operation phase manages asks).its ∙ (ap (λ x. (last_read start x).fifo) (sym joined) ∙ ap (λ orb. orb.fifo) last)

      last : IsLast (host_at earlier i) (last_read start earlier).fifo
      last = read placed.place op handled (λ orb. orb_status (sym orb ∙ phase)) (λ (r : IsRest start earlier i). r.silent ask placed.place telling) (subst IsLoginFifo goes own)

      latest : IsLatest (host_at earlier i) access.offset
      latest = record {
        some = last.some;
        is = goes ∙ last.is;
        inside = each_there (FreeAt start i) later m earlier (subst (AreFree start i) (sym e) (k.kit.free i inside (tame i))) q there to placed.place telling last.login;
      }

  logins_latest : AreLoginsLatest start ms w
  logins_latest op i ask access operation phase inside source manages asks own later earlier cause e hard = latest op i ask access operation phase inside source manages asks own later earlier cause e hard

-- ---- at each place of a run
latest_kits : EveryPlace LatestKit
latest_kits = record {
  after_lines = λ line run r has small size so_far. record {
    run = kits.after_lines line run r has small size so_far;
    kit = reads.kits.after_lines line run r has small size so_far;
    say = say_everywhere.after_lines line run r has small size so_far;
    to = λ tame. to_fifos_law.after_lines line run r has small size tame;
  };
  between = λ line run r has small size next most told m so_far. record {
    run = kits.between line run r has small size next most told m so_far;
    kit = reads.kits.between line run r has small size next most told m so_far;
    say = say_everywhere.between line run r has small size next most told m so_far;
    to = λ tame. to_fifos_law.between line run r has small size next most told m tame;
  };
}

abbrev Latest : List Disk → List Moment → WorldState → Type 0
Latest start past w = IsTame past → AreLoginsLatest start past w

latest_places : EveryPlace Latest
latest_places = by_places LatestKit Latest (λ units ready has start past lines w h k tame. logins_latest units ready has start w h k tame) latest_kits

pub logins_latest_law : LoginsLatestLaw
logins_latest_law = record {
  after_lines = λ line run r has small size tame. latest_places.after_lines line run r has small size (closing.before open_lists_law line run r has small size (inl tame)) tame;
  between = λ line run r has small size next most told m tame.
      latest_places.between line run r has small size next most told m (closing.between open_lists_law line run r has small size next (more_deliveries most) (more_than_one most) told m (inl tame)) tame;
}
