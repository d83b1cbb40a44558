-- Of which ORB a null pointer is that the target gets: by what the initiator's memory held as the read was got.
use Rattle.sbp_world.proofs.Words.Std.{arith, ◌≡◌, ◌∙◌, ◌⊎◌, inl, inr, refl, sym, ap, subst, ℕ, suc, ◌<◌, ◌≤◌, nat_lt, Bool, true, false, cond, List, [], ◌∷◌, ◌++◌, map, length, Option, Some, Ok, nat_tests}
use Rattle.sbp_world.proofs.Words.Wire.{SerialsCount, Moment, asked, said, Sending, terms}
use Rattle.sbp_world.proofs.Words.Initiator.{At, CommandOrb, Null, payload_of, start}
use Rattle.sbp_world.proofs.Words.Laws.{EachMoment, IsRead, Orb, access_in, prepared_in, address_of, answer_in, linked, packet_at, packet_in, receiver_in, sender_in}
use Rattle.sbp_world.proofs.Words.World.{AllBring, AnswersAt, Brings, IsCalm, IsResponse, Remains, after, after_all, beginning, begun, history_of, more_deliveries, next_of}
use Rattle.bus_memory.specs.declared.window.Window.TheVariants as windows
use Rattle.sbp_journal.specs.declared.note.Note.TheVariants as notes
use Rattle.sbp_world.specs.Completing.Bells.{AllNullsThen, NullsThenLaw, WasLastThen}
use Rattle.sbp_world.specs.Completing.Nulls.{AllNullsLast, IsNull, IsNullGot, NullsLaw, of_orb, of_pointer}
use Rattle.sbp_world.proofs.Common.{moment_joined}
use Rattle.sbp_world.proofs.Hosts.Carrying.{carries_law}
use Rattle.sbp_world.proofs.Hosts.Remaining.{remains}
use Rattle.sbp_world.proofs.Hosts.Runs.{count_after, count_between}
use Rattle.sbp_world.proofs.Hosts.SentMoments.{sent_below, serials_from}
use Rattle.sbp_world.proofs.Lists.Calm.{calm_before}
use Rattle.sbp_world.proofs.Lists.Clauses.{open_lists_law}
use Rattle.sbp_world.proofs.Lists.Courses.{more_than_one}
use Rattle.sbp_world.proofs.Lists.DummyEnds.{some_sent, told_from}
use Rattle.sbp_world.proofs.Lists.Fair.{Told, told_everywhere}
use Rattle.sbp_world.proofs.Lists.HonestGots.{HonestAt, honest_everywhere}
use Rattle.sbp_world.proofs.Lists.ListsProved.{closing}
use Rattle.sbp_world.proofs.Lists.ManageTerms.{same_some}
use Rattle.sbp_world.proofs.Lists.OpenedReplied.{pays_as}
use Rattle.sbp_world.proofs.Lists.StatusLogins.{each_there as each_at}
use Rattle.sbp_world.proofs.Lists.UnderwayRuns.{delivering}
use Rattle.sbp_world.proofs.Lists.WasReads.{sender_sent}

-- ---- of two beginnings of a history one is that of the other
record IsBehind (x y : List Moment) : Type 0 where
  more : List Moment
  is : more ++ x ≡ y

either : (a b x y : List Moment) → a ++ x ≡ b ++ y → IsBehind x y ⊎ IsBehind y x
either [] b x y e = inr (record { more = b; is = sym e })
either (m ∷ a) [] x y e = inl (record { more = m ∷ a; is = e })
either (m ∷ a) (n ∷ b) x y e = either a b x y (let f : a ++ x ≡ b ++ y = cc in f)

-- ---- a null pointer is that of an ORB behind which none is linked
next_by : (b : Bool) (offset : ℕ) → cond b (At offset) Null ≡ Null → b ≡ false
next_by true offset e = absurd (let z : At offset ≡ Null = e in cc)
next_by false offset e = refl

last_one : (past : List Moment) (i n k : ℕ) → next_of past i n k ≡ Null → linked past i n ≤ suc k
last_one past i n k e =
    let f : nat_lt (suc k) (linked past i n) ≡ false = next_by (nat_lt (suc k) (linked past i n)) (address_of past i n (suc k)) e in
    grind (arith, nat_tests)

module _ (final : List Moment) (i count : ℕ) (inside : i < count) (calm : IsCalm final i) (bring : AllBring final i) (told : Told final) (honest : EachMoment (HonestAt count) final) where
  module _ (later past : List Moment) (slot serial request : ℕ) (small : slot < 32) (at : later ++ said (notes.Got serial) ∷ past ≡ final) (x : IsNullGot past i slot serial request) where
    abbrev got : Moment
    got = said (notes.Got serial)

    at_past : (later ++ got ∷ []) ++ past ≡ final
    at_past = moment_joined later got past ∙ at

    told_then : Told past
    told_then = told_from (later ++ got ∷ []) past (subst Told (sym at_past) told)

    calm_then : IsCalm past i
    calm_then = calm_before (later ++ got ∷ []) past i (subst (λ ms. IsCalm ms i) (sym at_past) calm)

    stays : Remains past final
    stays = subst (Remains past) at_past (remains (later ++ got ∷ []) past (subst SerialsCount (sym at_past) told.counts))

    -- both packets were sent before
    abbrev reply : (packet : Sending) × ((terms past).sent serial ≡ Some packet)
    reply = some_sent ((terms past).sent serial) 0 x.by_target

    abbrev read : (packet : Sending) × ((terms past).sent request ≡ Some packet)
    read = sender_sent ((terms past).sent request) 0 x.from

    reply_below : serial ≤ (terms past).count
    reply_below = sent_below past serial reply.0 told_then.counts reply.1

    read_below : request ≤ (terms past).count
    read_below = sent_below past request read.0 told_then.counts read.1

    it_answers : (terms past).answers serial ≡ Some request
    it_answers =
        let from : read.0.from ≡ 0 = same_some read.0.from 0 (sym (ap sender_in read.1) ∙ x.from) in
        let to : read.0.to ≡ suc i = same_some read.0.to (suc i) (sym (ap receiver_in read.1) ∙ x.to) in
        each_at AnswersAt later got past (subst (EachMoment AnswersAt) (sym at) told.answers) request x.closed read.0 read.1 (ap (terms past).injects from ∙ told_then.fair) (ap (terms past).injects to ∙ calm_then)

    it_is_own : (packet : Sending) → (terms final).sent serial ≡ Some packet → packet.injected ≡ false
    it_is_own packet sent =
        each_at (HonestAt count) later got past (subst (EachMoment (HonestAt count)) (sym at) honest) request x.closed i inside x.to calm_then packet (sym (stays.sent serial reply_below) ∙ sent)

    responds : (size : ℕ) → IsRead x.access (start (windows.Orb slot)) size → payload_of (answer_in (packet_at (terms past) serial)) size ≡ Ok x.bytes → IsResponse final i serial request x.access x.bytes
    responds size r e = record {
      own = it_is_own;
      answers = stays.answers serial reply_below ∙ it_answers;
      of_initiator = ap receiver_in (stays.sent request read_below) ∙ x.to;
      asks = ap (λ (o : Option Sending). access_in (packet_in o)) (stays.sent request read_below) ∙ x.is;
      reads = r.read;
      block = r.block;
      tells = ap (λ (o : Option Sending). answer_in (packet_in o)) (stays.sent serial reply_below) ∙ pays_as (answer_in (packet_at (terms past) serial)) size x.bytes e;
    }

    -- as the read was got
    record WasNull (before : List Moment) : Type 0 where
      one : Orb
      prepared : prepared_in before i slot ≡ Some one
      null : next_of before i one.list one.number ≡ Null

    abbrev Brought : Type 0
    Brought = Brings final i serial request x.access x.bytes

    module _ (front earlier : List Moment) (split : front ++ earlier ≡ final) (young : (terms earlier).count < request) where
      behind : (b : Brought) → WasNull b.before → WasLastThen earlier final i slot request
      behind b n = by (either (b.later ++ said (notes.Got request) ∷ []) front b.before earlier (moment_joined b.later (said (notes.Got request)) b.before ∙ (b.is ∙ sym split)))
        where
          counts : SerialsCount b.before
          counts = serials_from (b.later ++ said (notes.Got request) ∷ []) b.before (subst SerialsCount (sym (moment_joined b.later (said (notes.Got request)) b.before ∙ b.is)) told.counts)

          read_there : (terms b.before).sent request ≡ Some read.0
          read_there = b.asked ∙ (stays.sent request read_below ∙ read.1)

          sent_then : request ≤ (terms b.before).count
          sent_then = sent_below b.before request read.0 counts read_there

          by : IsBehind b.before earlier ⊎ IsBehind earlier b.before → WasLastThen earlier final i slot request
          by (inl y) =
              let more = (remains y.more b.before (subst SerialsCount (sym y.is) (serials_from front earlier (subst SerialsCount (sym split) told.counts)))).count in
              let same : (terms (y.more ++ b.before)).count ≡ (terms earlier).count = ap (λ ms. (terms ms).count) y.is in
              absurd (omega (arith, more, same, young, sent_then))
          by (inr y) = record {
            was = record {
              later = b.later ++ said (notes.Got request) ∷ [];
              since = y.more;
              is = ap (λ ms. (b.later ++ said (notes.Got request) ∷ []) ++ ms) y.is ∙ (moment_joined b.later (said (notes.Got request)) b.before ∙ b.is);
              one = n.one;
              prepared = ap (λ ms. prepared_in ms i slot) y.is ∙ n.prepared;
              last = subst (λ ms. linked ms i n.one.list ≤ suc n.one.number) (sym y.is) (last_one b.before i n.one.list n.one.number n.null);
            };
            sent = subst (λ ms. request ≤ (terms ms).count) (sym y.is) sent_then;
          }

      was_last : IsNull x.access slot (answer_in (packet_at (terms past) serial)) x.bytes → WasLastThen earlier final i slot request
      was_last (of_orb r e null) =
          let b : Brought = bring serial request x.access x.bytes (responds 32 r e) in
          let holds = b.served.orb slot small r in
          behind b (record { one = holds.one; prepared = holds.prepared; null = sym (ap (λ (o : CommandOrb). o.next) holds.carries.orb) ∙ null })
      was_last (of_pointer r e null) =
          let b : Brought = bring serial request x.access x.bytes (responds 8 r e) in
          let holds = b.served.pointer slot small r in
          behind b (record { one = holds.one; prepared = holds.prepared; null = sym holds.next ∙ null })

  pub nulls_then : AllNullsThen final i
  nulls_then later past slot serial request small at x front earlier split young = was_last later past slot serial request small at x front earlier split young x.brings

pub nulls_then_law : NullsThenLaw
nulls_then_law = record {
  after_lines = λ line run r has small size tame i inside calm.
      let past = history_of line run in
      let so_far = closing.before open_lists_law line run r has small size tame in
      let within : i < run.initiators = subst (λ n. i < n) (count_after run run.entries) inside in
      nulls_then past i (length (after (beginning run) run.entries).world.initiators) inside calm (carries_law.carries line run r i within) (told_everywhere.after_lines line run r has small size so_far) (honest_everywhere.after_lines line run r has small size so_far);
  between = λ line run r has small size next most told m tame i inside calm.
      let w = (after_all told (begun (after (beginning run) run.entries))).world in
      let now = map said w.fresh ++ asked next (more_deliveries most) ∷ history_of line run in
      let so_far = closing.between open_lists_law line run r has small size next (more_deliveries most) (more_than_one most) told m tame in
      let within : i < run.initiators = subst (λ n. i < n) (count_between told (after (beginning run) run.entries) ∙ count_after run run.entries) inside in
      nulls_then now i (length w.initiators) inside calm (carries_law.between line run r next (more_deliveries most) told (delivering told most) m i within) (told_everywhere.between line run r has small size next most told m so_far) (honest_everywhere.between line run r has small size next most told m so_far);
}

all_last : (now : List Moment) (i : ℕ) → AllNullsThen now i → AllNullsLast now i
all_last now i h later past slot serial request small at x front earlier split young = (h later past slot serial request small at x front earlier split young).was

pub nulls_law : NullsLaw
nulls_law = record {
  after_lines = λ line run r has small size tame i inside calm. all_last (history_of line run) i (nulls_then_law.after_lines line run r has small size tame i inside calm);
  between = λ line run r has small size next most told m tame i inside calm. all_last _ i (nulls_then_law.between line run r has small size next most told m tame i inside calm);
}
