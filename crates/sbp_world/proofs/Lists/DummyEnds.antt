-- In every run in which no initiator injected packets, or few logins were given: no ORB of an initiator that injected none ends as dummy, where it made none a dummy. For what the target read of the ORB is what the
-- initiator's memory held.
use Rattle.sbp_world.proofs.Words.Std.{arith, ◌≡◌, ◌∙◌, refl, sym, ap, subst, ℕ, suc, ◌<◌, ◌≤◌, Bool, true, false, cond, List, [], ◌∷◌, ◌++◌, map, length, Option, Some, None, IsSomeAnd}
use Rattle.sbp_world.proofs.Words.Wire.{SerialsCount, Access, Note, Moment, asked, said, Sending, terms}
use Rattle.sbp_world.proofs.Words.Target.{Disk}
use Rattle.sbp_world.proofs.Words.Initiator.{CommandOrb}
use Rattle.sbp_world.proofs.Words.Laws.{address_of, MatchesStatus, injectors, is_dummy, access_in, answer_in, packet_at, packet_in, receiver_in, sender_in, is_serial, Request, request_at, EachMoment}
use Rattle.sbp_world.proofs.Words.World.{read_access, history_of, AllBring, Brings, HoldsOrb, IsResponse, format_of, Remains, more_deliveries, after, beginning, after_all, begun, IsCalm, EndIsNamed, AnswersAt, IsBrought}
use Rattle.orb_layout.specs.declared.status.StatusKind.TheVariants as kinds
use Rattle.sbp_journal.specs.declared.note.Note.TheVariants as notes
use Rattle.sbp_world.specs.Lists.PlainStatuses.{NoneDummied, NoneDummyLaw, NoneEndsDummy, NotDummyAt}
use Rattle.sbp_world.proofs.Common.{moment_joined, moments_split, untrue}
use Rattle.sbp_world.proofs.Hosts.Carrying.{carries_law}
use Rattle.sbp_world.proofs.Hosts.Remaining.{remains}
use Rattle.sbp_world.proofs.Hosts.Runs.{count_after, count_between}
use Rattle.sbp_world.proofs.Hosts.SentMoments.{sent_below}
use Rattle.sbp_world.proofs.Lists.Calm.{calm_before}
use Rattle.sbp_world.proofs.Lists.Clauses.{open_lists_law}
use Rattle.sbp_world.proofs.Lists.Courses.{more_than_one}
use Rattle.sbp_world.proofs.Lists.Executes.{NamedEnd, OpensBeside, ends_named, opens_before}
use Rattle.sbp_world.proofs.Lists.Fair.{Told, told_before, told_everywhere}
use Rattle.sbp_world.proofs.Lists.HonestGots.{HonestAt, honest_everywhere}
use Rattle.sbp_world.proofs.Lists.ListsProved.{closing}
use Rattle.sbp_world.proofs.Lists.ManageTerms.{same_some}
use Rattle.sbp_world.proofs.Lists.OpenedReplied.{pays_as}
use Rattle.sbp_world.proofs.Lists.StatusLogins.{each_there as each_at}
use Rattle.sbp_world.proofs.Lists.UnderwayRuns.{delivering}
use Rattle.sbp_world.proofs.Lists.WasReads.{sender_sent}

-- ---- the format of an ORB that was read
format_by : (b : Bool) → ◌≡◌ {A = ℕ} (cond b 3 0) 3 → b ≡ true
format_by true e = refl
format_by false e = absurd (omega (arith, e))

pub some_sent : (found : Option Sending) (node : ℕ) → is_serial (receiver_in found) node ≡ true → (packet : Sending) × (found ≡ Some packet)
some_sent None node e = untrue e
some_sent (Some packet) node e = (packet, refl)

three : (found : Option Request) (orb : CommandOrb) → IsSomeAnd found (λ request. MatchesStatus kinds.Dummy orb request) → orb.format ≡ 3
three None orb e = absurd e
three (Some request) orb e = e

pub told_from : (later past : List Moment) → Told (later ++ past) → Told past
told_from [] past t = t
told_from (m ∷ later) past t = told_from later past (told_before m (later ++ past) t)

module _ (start : List Disk) (final : List Moment) (i count : ℕ) (inside : i < count) (calm : IsCalm final i) (bring : AllBring final i) (told : Told final) (honest : EachMoment (HonestAt count) final) (none : NoneDummied final i) where
  module _ (front past : List Moment) (is : front ++ past ≡ final) (n k : ℕ) (e : EndIsNamed start past i n k kinds.Dummy) where
    abbrev address : ℕ
    address = address_of past i n k

    abbrev b : IsBrought start past e.place address e.orb
    b = e.named.brought

    abbrev got : Moment
    got = said (notes.Got b.response)

    -- from the response on
    at : (front ++ b.later) ++ got ∷ b.earlier ≡ final
    at = sym (moments_split front b.later (got ∷ b.earlier)) ∙ (ap (λ ms. front ++ ms) b.is ∙ is)

    at_earlier : ((front ++ b.later) ++ got ∷ []) ++ b.earlier ≡ final
    at_earlier = moment_joined (front ++ b.later) got b.earlier ∙ at

    told_then : Told b.earlier
    told_then = told_from ((front ++ b.later) ++ got ∷ []) b.earlier (subst Told (sym at_earlier) told)

    calm_then : IsCalm b.earlier i
    calm_then = calm_before ((front ++ b.later) ++ got ∷ []) b.earlier i (subst (λ ms. IsCalm ms i) (sym at_earlier) calm)

    stays : Remains b.earlier final
    stays = subst (Remains b.earlier) at_earlier (remains ((front ++ b.later) ++ got ∷ []) b.earlier (subst SerialsCount (sym at_earlier) told.counts))

    -- both packets were sent before
    abbrev reply : (packet : Sending) × ((terms b.earlier).sent b.response ≡ Some packet)
    reply = some_sent ((terms b.earlier).sent b.response) 0 b.by_target

    abbrev read : (packet : Sending) × ((terms b.earlier).sent b.request ≡ Some packet)
    read = sender_sent ((terms b.earlier).sent b.request) 0 b.asked.from

    reply_below : b.response ≤ (terms b.earlier).count
    reply_below = sent_below b.earlier b.response reply.0 told_then.counts reply.1

    read_below : b.request ≤ (terms b.earlier).count
    read_below = sent_below b.earlier b.request read.0 told_then.counts read.1

    to_it : receiver_in ((terms b.earlier).sent b.request) ≡ Some (suc i)
    to_it = e.named.to ∙ ap (λ j. Some (suc j)) e.initiator

    it_answers : (terms b.earlier).answers b.response ≡ Some b.request
    it_answers =
        let from : read.0.from ≡ 0 = same_some read.0.from 0 (sym (ap sender_in read.1) ∙ b.asked.from) in
        let to : read.0.to ≡ suc i = same_some read.0.to (suc i) (sym (ap receiver_in read.1) ∙ to_it) in
        each_at AnswersAt (front ++ b.later) got b.earlier (subst (EachMoment AnswersAt) (sym at) told.answers) b.request b.closed read.0 read.1 (ap (terms b.earlier).injects from ∙ told_then.fair) (ap (terms b.earlier).injects to ∙ calm_then)

    it_is_own : (packet : Sending) → (terms final).sent b.response ≡ Some packet → packet.injected ≡ false
    it_is_own packet sent =
        each_at (HonestAt count) (front ++ b.later) got b.earlier (subst (EachMoment (HonestAt count)) (sym at) honest) b.request b.closed i inside to_it calm_then packet (sym (stays.sent b.response reply_below) ∙ sent)

    responds : IsResponse final i b.response b.request (read_access address 32) b.bytes
    responds = record {
      own = it_is_own;
      answers = stays.answers b.response reply_below ∙ it_answers;
      of_initiator = ap receiver_in (stays.sent b.request read_below) ∙ to_it;
      asks = ap (λ (x : Option Sending). access_in (packet_in x)) (stays.sent b.request read_below) ∙ (b.asked.is ∙ ap (λ (a : Access). Some a) b.asked.asks);
      reads = refl;
      block = refl;
      tells = ap (λ (x : Option Sending). answer_in (packet_in x)) (stays.sent b.response reply_below) ∙ pays_as (answer_in (packet_at (terms b.earlier) b.response)) 32 b.bytes b.brings;
    }

    brings : Brings final i b.response b.request (read_access address 32) b.bytes
    brings = bring b.response b.request (read_access address 32) b.bytes responds

    holds : HoldsOrb brings.before i e.named.led.slot b.bytes
    holds = brings.served.orb e.named.led.slot e.named.led.small (record { read = refl; block = refl; from = e.named.led.stands; size = refl })

    format : e.orb.format ≡ format_of brings.before i holds.one.list holds.one.number
    format = ap (λ (o : CommandOrb). o.format) (sym b.spells ∙ holds.carries.orb)

    made_dummy : is_dummy brings.before i holds.one.list holds.one.number ≡ true
    made_dummy = format_by (is_dummy brings.before i holds.one.list holds.one.number) (sym format ∙ three (request_at past i n k) e.orb e.matches)

    pub no_dummy : ⊥
    no_dummy = untrue (sym (none holds.one.list holds.one.number) ∙ brings.lasts.dummy holds.one.list holds.one.number made_dummy)

  -- ---- at each moment
  module _ (wild : ℕ → Bool) (own : wild i ≡ false) where
    end_not : (front past : List Moment) → front ++ past ≡ final → OpensBeside past → (j n k : ℕ) → NamedEnd wild start (said (notes.Ended j (Some n) (Some k) kinds.Dummy)) past → j ≡ i → ⊥
    end_not front past is so j n k e same = no_dummy front past is n k (subst (λ x. EndIsNamed start past x n k kinds.Dummy) same (e so (ap wild same ∙ own)))

    note_not : (front past : List Moment) → front ++ past ≡ final → OpensBeside past → (note : Note) → NamedEnd wild start (said note) past → NotDummyAt i (said note) past
    note_not front past is so (notes.Ended j (Some n) (Some k) kinds.Dummy) e = end_not front past is so j n k e
    note_not front past is so note e = tt

    pub none_ends : (front past : List Moment) → front ++ past ≡ final → OpensBeside past → EachMoment (NamedEnd wild start) past → NoneEndsDummy past i
    none_ends front [] is so e = tt
    none_ends front (said note ∷ past) is so e =
        let there = moment_joined front (said note) past ∙ is in
        let before = opens_before (said note ∷ []) past so in
        (note_not (front ++ said note ∷ []) past there before note e.0, none_ends (front ++ said note ∷ []) past there before e.1)
    none_ends front (asked line event ∷ past) is so e =
        let there = moment_joined front (asked line event) past ∙ is in
        (tt, none_ends (front ++ asked line event ∷ []) past there (opens_before (asked line event ∷ []) past so) e.1)

pub none_dummy_law : NoneDummyLaw
none_dummy_law = record {
  after_lines = λ line run r has small size beside i inside calm none.
      let past = history_of line run in
      let so_far = closing.before open_lists_law line run r has small size beside in
      let within : i < length (after (beginning run) run.entries).world.initiators = subst (λ n. i < n) (sym (count_after run run.entries)) inside in
      none_ends run.start.disks past i (length (after (beginning run) run.entries).world.initiators) within calm (carries_law.carries line run r i inside) (told_everywhere.after_lines line run r has small size so_far) (honest_everywhere.after_lines line run r has small size so_far) none
      (injectors past) calm [] past refl (closing, open_lists_law, beside) (ends_named.after_lines line run r has small size so_far);
  between = λ line run r has small size next most told m beside i inside calm none.
      let w = (after_all told (begun (after (beginning run) run.entries))).world in
      let now = map said w.fresh ++ asked next (more_deliveries most) ∷ history_of line run in
      let so_far = closing.between open_lists_law line run r has small size next (more_deliveries most) (more_than_one most) told m beside in
      let within : i < length w.initiators = subst (λ n. i < n) (sym (count_between told (after (beginning run) run.entries) ∙ count_after run run.entries)) inside in
      none_ends run.start.disks now i (length w.initiators) within calm (carries_law.between line run r next (more_deliveries most) told (delivering told most) m i inside) (told_everywhere.between line run r has small size next most told m so_far) (honest_everywhere.between line run r has small size next most told m so_far) none
      (injectors now) calm [] now refl (closing, open_lists_law, beside) (ends_named.between line run r has small size next most told m so_far);
}
