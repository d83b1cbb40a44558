-- A write of an agent is answered with rcode 0 as it is judged first: the initiator gets it, and answers it complete, or ignores it for its slot.
use Rattle.sbp_world.proofs.Words.Std.{arith, ◌≡◌, ◌∙◌, refl, sym, ap, subst, ◌<◌, ◌≤◌, ◌+◌, ◌==◌, ℕ, suc, Bool, true, false, List, [], ◌∷◌, ◌++◌, map, Option, Some, None, append_assoc, nat_tests, false≢true, same_Some}
use Rattle.sbp_world.proofs.Words.Wire.{Access, AreAnswered, AreJudged, Cause, IsOwed, IsSentFor, Moment, Note, Owed, Sending, SerialsCount, Terms, between, is_stated, rcode_of, said, terms}
use Rattle.sbp_world.proofs.Words.Target.{Disk, Main}
use Rattle.sbp_world.proofs.Words.Laws.{EachMoment, access_in, agent_at, host_reply, injectors, is_serial, over, packet_in, receiver_in, spelled_by, target_at}
use Rattle.sbp_world.proofs.Words.World.{AskedAsGot, IsOwedThere, Remains, note_of}
use Rattle.bus_transactions.proofs.Facts.{Facts}
use Rattle.sbp_journal.specs.declared.cause.Cause.TheVariants as causes
use Rattle.sbp_journal.specs.declared.note.Note.TheVariants as notes
use Rattle.sbp_world.specs.Completing.Answers.{CompleteAsGot}
use Rattle.sbp_world.specs.Completing.Writes.{UnrefusedAt, is_refused}
use Rattle.sbp_world.proofs.Agents.CrewOthers.{got_out}
use Rattle.sbp_world.proofs.Common.{moment_joined}
use Rattle.sbp_world.proofs.Completing.AnswersGots.{sent_for}
use Rattle.sbp_world.proofs.Completing.WritesServed.{IsGotWrite}
use Rattle.sbp_world.proofs.Completing.WritesWaits.{Waited, waited_since}
use Rattle.sbp_world.proofs.Hosts.Deliveries.{GotsIn, find_got}
use Rattle.sbp_world.proofs.Hosts.Finished.{next_serial}
use Rattle.sbp_world.proofs.Hosts.Owing.{IsAsking, asking}
use Rattle.sbp_world.proofs.Hosts.Remaining.{gets_same, ignores_that_same, remains}
use Rattle.sbp_world.proofs.Hosts.ResponseTerms.{plain_all}
use Rattle.sbp_world.proofs.Hosts.SentMoments.{count_now, sent_below, sent_there, serials_from}
use Rattle.sbp_world.proofs.Hosts.Standing.{answered_from, stands_there}
use Rattle.sbp_world.proofs.Lists.BufferGets.{judged_from}
use Rattle.sbp_world.proofs.Lists.DataWaits.{under_way_now}
use Rattle.sbp_world.proofs.Lists.StatusKnown.{got_by}
use Rattle.sbp_world.proofs.Lists.StatusLogins.{each_there}

-- what is known of a history
pub record Heard (start : List Disk) (all : List Moment) : Type 0 where
  pub serials : SerialsCount all
  pub answered : AreAnswered all
  pub judged : AreJudged all
  pub facts : Facts (terms all)
  pub asked_so : EachMoment (AskedAsGot start) all
  pub complete : EachMoment (CompleteAsGot (injectors all) start) all
  pub gots : GotsIn (IsGotWrite all) all
  pub unrefused : EachMoment (UnrefusedAt start) all

judged_sent : (past : List Moment) (s : ℕ) (c : Option Cause) → (terms (said (note_of s c) ∷ past)).sent ≡ (terms past).sent
judged_sent past s None = (gets_same ((terms past).sent s) s (terms past)).sent
judged_sent past s (Some cause) = (ignores_that_same ((terms past).sent s) cause s (terms past)).sent

-- a write that an agent waits for
module _ (start : List Disk) (all : List Moment) (k : Heard start all) (place r i : ℕ) (small : place < 8) (main : (agent_at (over (target_at start all)) place).main ≡ Some r) (own : injectors all i ≡ false) (q : Sending) (sent_all : (terms all).sent r ≡ Some q) (from : q.from ≡ 0) (to : q.to ≡ suc i) (access : Access) (asks : access_in (packet_in (Some q)) ≡ Some access) where
  spelling : IsAsking q access
  spelling = asking q access asks

  each_in : (P : Moment → List Moment → Type 0) (front : List Moment) (m : Moment) (back : List Moment) → front ++ m ∷ back ≡ all → EachMoment P all → P m back
  each_in P front m back is h = each_there P front m back (subst (EachMoment P) (sym is) h)

  module _ (later : List Moment) (c : Option Cause) (before : List Moment) (is : later ++ said (note_of r c) ∷ before ≡ all) (there : (terms before).sent r ≡ Some q) where
    counts_here : SerialsCount (later ++ said (note_of r c) ∷ before)
    counts_here = subst SerialsCount (sym is) k.serials

    low : r ≤ (terms before).count
    low = sent_below before r q (serials_from (later ++ said (note_of r c) ∷ []) before (subst SerialsCount (sym (moment_joined later (said (note_of r c)) before)) counts_here)) there

    main_here : (agent_at (over (target_at start (later ++ said (note_of r c) ∷ before))) place).main ≡ Some r
    main_here = subst (λ ms. (agent_at (over (target_at start ms)) place).main ≡ Some r) (sym is) main

    waited : target_at start (said (note_of r c) ∷ before) ≡ over (target_at start before) → Waited start place before r
    waited out = waited_since start place before (said (note_of r c)) out later counts_here Main r low main_here

  -- it is got
  elsewhere : (before : List Moment) → (terms before).sent r ≡ Some q → is_serial (receiver_in ((terms before).sent r)) 0 ≡ false
  elsewhere before there = ap (λ o. is_serial (receiver_in o) 0) there ∙ (let y : (q.to == 0) ≡ false = grind (arith, nat_tests, to) in y)

  pub got_complete : (later before : List Moment) → later ++ said (notes.Got r) ∷ before ≡ all → (terms before).sent r ≡ Some q → (host_reply before i access).rcode ≡ 0
  got_complete later before is there =
      let w = waited later None before is there (got_out start before r (elsewhere before there)) in
      let asked_here = each_in (AskedAsGot start) later (said (notes.Got r)) before is k.asked_so in
      let for_it = sent_for start before place small w.0 r asked_here w.1 in
      let judged_here = judged_from later (said (notes.Got r) ∷ before) (subst AreJudged (sym is) k.judged) in
      let current = got_by r before q judged_here there in
      let level = under_way_now (terms before) r q there for_it.under_way in
      let complete = each_in (CompleteAsGot (injectors all) start) later (said (notes.Got r)) before is k.complete place i access own (record {
        small = small;
        which = w.0;
        waits = w.1;
        to = ap receiver_in there ∙ ap Some to;
        level = ap (terms before).generation (sym from) ∙ (sym level ∙ (current ∙ ap (terms before).generation to));
        asks = ap (λ o. access_in (packet_in o)) there ∙ asks;
      }) in
      complete.rcode

  -- ---- the response to a write
  module _ (writes : access.is_write ≡ true) (front : List Moment) (s generation source target : ℕ) (bytes : List ℕ) (past : List Moment) (o : Owed) (is : front ++ said (notes.Sent s generation source target bytes) ∷ past ≡ all) (owes : (terms past).owes ≡ Some o) (serial : o.serial ≡ r) where
    abbrev packet : Sending
    packet = record { generation = generation; from = source; to = target; bytes = bytes; injected = (terms past).injected s }

    abbrev here : List Moment
    here = said (notes.Sent s generation source target bytes) ∷ past

    counts_sent : SerialsCount here
    counts_sent = serials_from front here (subst SerialsCount (sym is) k.serials)

    answered_sent : AreAnswered here
    answered_sent = answered_from front here (subst AreAnswered (sym is) k.answered)

    owed : IsOwed (terms past) o packet
    owed = subst (λ x. IsSentFor x (terms past) packet) owes answered_sent.0

    remain_here : Remains here all
    remain_here = subst (Remains here) is (remains front here (subst SerialsCount (sym is) k.serials))

    below_here : s ≤ (terms here).count
    below_here = let n = count_now past s generation source target bytes in let e = counts_sent.0 in omega (arith, n, e)

    packet_all : (terms all).sent s ≡ Some packet
    packet_all = remain_here.sent s below_here ∙ sent_there past s generation source target bytes

    counts_past : SerialsCount past
    counts_past = counts_sent.1

    remain_past : Remains past all
    remain_past =
        let joined : (front ++ said (notes.Sent s generation source target bytes) ∷ []) ++ past ≡ all = moment_joined front (said (notes.Sent s generation source target bytes)) past ∙ is in
        subst (Remains past) joined (remains (front ++ said (notes.Sent s generation source target bytes) ∷ []) past (subst SerialsCount (sym joined) k.serials))

    asking_there : (terms past).sent r ≡ Some owed.asking
    asking_there = ap (terms past).sent (sym serial) ∙ owed.sent

    asking_is : owed.asking ≡ q
    asking_is = same_Some owed.asking q (sym asking_there ∙ (sym (remain_past.sent r (sent_below past r owed.asking counts_past asking_there)) ∙ sent_all))

    of_initiator : source ≡ suc i
    of_initiator = owed.responds.from ∙ (ap (λ (y : Sending). y.to) asking_is ∙ to)

    unforged : (b : Bool) → (terms past).injected s ≡ b → b ≡ false
    unforged true e = absurd (false≢true (sym own ∙ (ap (terms all).injects (sym of_initiator) ∙ (k.facts.honest s packet packet_all).bold e)))
    unforged false e = refl

    stands : IsOwedThere past
    stands = stands_there past s generation source target bytes answered_sent (unforged ((terms past).injected s) refl) owed.responds.label owed.responds.kind owed.responds.replies

    same_owed : stands.owed ≡ o
    same_owed = same_Some stands.owed o (sym stands.owes ∙ owes)

    abbrev before : List Moment
    before = stands.stands.past

    abbrev effects : List Note
    effects = stands.stands.effects

    -- as it was judged
    module _ (c : Option Cause) (cause : o.cause ≡ c) where
      past_is : past ≡ map said effects ++ said (note_of r c) ∷ before
      past_is =
          stands.stands.is
          ∙ (ap (λ (x : Owed). map said effects ++ said (note_of x.serial x.cause) ∷ before) same_owed
          ∙ (ap (λ n. map said effects ++ said (note_of n o.cause) ∷ before) serial
          ∙ ap (λ x. map said effects ++ said (note_of r x) ∷ before) cause))

      judged_is : (front ++ said (notes.Sent s generation source target bytes) ∷ map said effects) ++ said (note_of r c) ∷ before ≡ all
      judged_is =
          append_assoc front (said (notes.Sent s generation source target bytes) ∷ map said effects) (said (note_of r c) ∷ before)
          ∙ (ap (λ ms. front ++ said (notes.Sent s generation source target bytes) ∷ ms) (sym past_is) ∙ is)

      asked_before : (terms before).sent r ≡ Some q
      asked_before =
          ap (λ (f : ℕ → Option Sending). f r) (sym (judged_sent before r c))
          ∙ (ap (λ (y : Terms). y.sent r) (sym (ap terms past_is ∙ plain_all effects (said (note_of r c) ∷ before) stands.stands.plain))
          ∙ (asking_there ∙ ap (λ y. Some y) asking_is))

    stated_as : (c : Cause) (e : o.cause ≡ Some c) → is_stated (Some c) ((terms past).given (between owed.asking owed.asking.from owed.asking.to owed.responds.label)) (rcode_of bytes) ≡ true
    stated_as c e = subst (λ x. is_stated x ((terms past).given (between owed.asking owed.asking.from owed.asking.to owed.responds.label)) (rcode_of bytes) ≡ true) e owed.stated

    -- it was got
    served : o.cause ≡ None → rcode_of bytes ≡ 0
    served cause =
        let at = judged_is None cause in
        let there = asked_before None cause in
        let front_part = front ++ said (notes.Sent s generation source target bytes) ∷ map said effects in
        let got = find_got (IsGotWrite all) front_part before r (subst (GotsIn (IsGotWrite all)) (sym at) k.gots) in
        let g = got i spelling.spells access (record { to_it = ap receiver_in there ∙ ap Some to; spelled = ap packet_in there ∙ ap spelled_by spelling.read; asks = spelling.asks }) writes in
        let number : s ≡ (terms before).count + 1 = next_serial before r effects stands.stands.plain s generation source target bytes (subst (λ ms. SerialsCount (said (notes.Sent s generation source target bytes) ∷ ms)) (past_is None cause) counts_sent) in
        let w = g.written in
        let tail = map said w.effects ++ said (notes.Got r) ∷ before in
        let counts_now : SerialsCount g.now = serials_from g.rest g.now (subst SerialsCount (sym g.is) k.serials) in
        let shown = subst SerialsCount w.is counts_now in
        let kept : Remains g.now all = subst (Remains g.now) g.is (remains g.rest g.now (subst SerialsCount (sym g.is) k.serials)) in
        let counted : (terms g.now).count ≡ (terms tail).count + 1 = ap (λ ms. (terms ms).count) w.is ∙ count_now tail ((terms before).count + 1) ((terms before).generation (suc i)) (suc i) w.to w.bytes in
        let first = shown.0 in
        let reply : (terms all).sent s ≡ Some (record { generation = (terms before).generation (suc i); from = suc i; to = w.to; bytes = w.bytes; injected = (terms tail).injected ((terms before).count + 1) }) =
        ap (terms all).sent number ∙ (kept.sent ((terms before).count + 1) (omega (arith, counted, first)) ∙ (ap (λ ms. (terms ms).sent ((terms before).count + 1)) w.is ∙ sent_there tail ((terms before).count + 1) ((terms before).generation (suc i)) (suc i) w.to w.bytes)) in
        let same : bytes ≡ w.bytes = ap (λ (y : Sending). y.bytes) (same_Some packet _ (sym packet_all ∙ reply)) in
        ap rcode_of same ∙ w.complete (got_complete front_part before at there)

    -- it was refused
    refused : {A : Type 0} (c : Cause) → o.cause ≡ Some c → is_refused c ≡ true → A
    refused c cause e =
        let at = judged_is (Some c) cause in
        let w = waited (front ++ said (notes.Sent s generation source target bytes) ∷ map said effects) (Some c) before at (asked_before (Some c) cause) refl in
        absurd (each_in (UnrefusedAt start) (front ++ said (notes.Sent s generation source target bytes) ∷ map said effects) (said (notes.Ignored r c)) before at k.unrefused e place w.0 small w.1)

    by_cause : (c : Option Cause) → o.cause ≡ c → (o.cause ≡ Some causes.Again → ⊥) → rcode_of bytes ≡ 0
    by_cause None e n = served e
    by_cause (Some causes.Again) e n = absurd (n e)
    by_cause (Some causes.Slot) e n = let st = stated_as causes.Slot e in (let same : rcode_of bytes ≡ 0 = grind (arith, nat_tests) in same)
    by_cause (Some causes.Grammar) e n = refused causes.Grammar e refl
    by_cause (Some causes.Source) e n = refused causes.Source e refl
    by_cause (Some causes.Login) e n = refused causes.Login e refl
    by_cause (Some causes.Generation) e n = absurd (false≢true (stated_as causes.Generation e))
    by_cause (Some causes.Label) e n = absurd (false≢true (stated_as causes.Label e))

    pub first_complete : (o.cause ≡ Some causes.Again → ⊥) → rcode_of bytes ≡ 0
    first_complete n = by_cause o.cause refl n
