-- What is known of a response that brought an ORB, at a later moment: the read that it answered, what it spells, and when the read was sent.
use Rattle.sbp_world.proofs.Words.Std.{arith, ◌≡◌, ◌∙◌, refl, sym, ap, subst, ◌<◌, ◌≤◌, ◌+◌, ◌==◌, ℕ, suc, Bool, true, false, cond, List, [], ◌∷◌, ◌++◌, length, Option, Some, None, Ok, Err, nat_tests}
use Rattle.sbp_world.proofs.Words.Wire.{SerialsCount, Access, Moment, asked, said, Sending, terms, Note}
use Rattle.sbp_world.proofs.Words.Target.{Disk}
use Rattle.sbp_world.proofs.Words.Initiator.{FailCause, CommandOrb, command_orb, Answer, Done, Expired, NoLabel, Payload, Refused, payload_of, start_of}
use Rattle.sbp_world.proofs.Words.Laws.{IsRead, WasRead, address_of, before_sent, open_list, orb_read, payload_at, was_got, access_at, access_in, answer_in, packet_at, packet_in, receiver_in, sender_in, initiator_at, is_serial, over, target_at, appends, named_orb, prepared_in, EachMoment}
use Rattle.sbp_world.proofs.Words.World.{read_access, Remains, IsCalm, AnswersAt, IsBrought, SentAsGot, AreSentBehind}
use Rattle.std.specs.Prelude.{IsSomeAnd}
use Rattle.sbp_world.proofs.Hosts.Remaining.{remains, remains_on}
use Rattle.sbp_world.proofs.Hosts.SentMoments.{sent_below, serials_from}
use Rattle.sbp_journal.specs.declared.note.Note.TheVariants as notes
use Rattle.sbp_laws.specs.CarriedBytes.{bytes_in}
use Rattle.bus_memory.specs.declared.window.Window.TheVariants as windows
use Rattle.sbp_world.proofs.Lists.Calm.{injects_before}
use Rattle.sbp_world.proofs.Lists.Slots.{orb_slot}
use Rattle.sbp_world.proofs.Lists.ManageTerms.{same_some}
use Rattle.sbp_world.proofs.Lists.BufferGets.{fair_back}
use Rattle.sbp_world.proofs.Lists.StatusLogins.{each_there}
use Rattle.sbp_world.proofs.Common.{untrue}

-- ---- a packet that was got was got
got_on : (note : Note) (past : List Moment) (r : ℕ) → was_got past r ≡ true → was_got (said note ∷ past) r ≡ true
got_on (notes.Got other) past r e = by (other == r)
  where
    by : (b : Bool) → cond b true (was_got past r) ≡ true
    by true = refl
    by false = e
got_on note past r e = e

pub got_later : (later past : List Moment) (r : ℕ) → was_got past r ≡ true → was_got (later ++ past) r ≡ true
got_later [] past r e = e
got_later (asked line event ∷ later) past r e = got_later later past r e
got_later (said note ∷ later) past r e = got_on note (later ++ past) r (got_later later past r e)

pub got_now : (past : List Moment) (r : ℕ) → was_got (said (notes.Got r) ∷ past) r ≡ true
got_now past r = ap (λ b. cond b true (was_got past r)) (let e : (r == r) ≡ true = grind (arith, nat_tests) in e)

-- ---- the bytes of a whole answer
record IsWhole (answer : Answer) (bytes : List ℕ) : Type 0 where
  is : bytes_in answer ≡ bytes
  whole : length bytes ≡ 32

whole_by : (b : Bool) (own bytes : List ℕ) (cause : FailCause) → (length own == 32) ≡ b → cond b (Ok own) (Err cause) ≡ Ok bytes → IsWhole (Payload own) bytes
whole_by true own bytes cause e f =
    let same : own ≡ bytes = cc in
    record { is = same; whole = ap length (sym same) ∙ (let z : length own ≡ 32 = grind (arith, nat_tests) in z) }
whole_by false own bytes cause e f = absurd (let differ : Err cause ≡ Ok bytes = f in cc)

no_bytes : {A : Type 0} (cause : FailCause) (bytes : List ℕ) → Err cause ≡ Ok bytes → A
no_bytes cause bytes e = absurd (let differ : Err cause ≡ Ok bytes = e in cc)

whole_of : (answer : Answer) (bytes : List ℕ) → payload_of answer 32 ≡ Ok bytes → IsWhole answer bytes
whole_of (Payload own) bytes e = whole_by (length own == 32) own bytes _ refl e
whole_of Done bytes e = no_bytes _ bytes e
whole_of (Refused rcode) bytes e = no_bytes _ bytes e
whole_of Expired bytes e = no_bytes _ bytes e
whole_of NoLabel bytes e = no_bytes _ bytes e

-- ---- a packet that was sent
receiver_sent : (found : Option Sending) (node : ℕ) → is_serial (receiver_in found) node ≡ true → (packet : Sending) × (found ≡ Some packet)
receiver_sent None node e = untrue e
receiver_sent (Some packet) node e = (packet, refl)

pub sender_sent : (found : Option Sending) (node : ℕ) → sender_in found ≡ Some node → (packet : Sending) × (found ≡ Some packet)
sender_sent None node e = absurd (let differ : None ≡ Some node = e in cc)
sender_sent (Some packet) node e = (packet, refl)

-- an ORB was read behind its append, and its response spells it
pub record SpellsOrb (start : List Disk) (past : List Moment) (i n k : ℕ) (orb : CommandOrb) : Type 0 where
  pub read : WasRead start past i n k
  pub spells : orb_read past read.response ≡ orb

module _ (start : List Disk) (past : List Moment) (place address : ℕ) (orb : CommandOrb) (b : IsBrought start past place address orb) (counts : SerialsCount past) where
  abbrev then : List Moment
  then = said (notes.Got b.response) ∷ b.earlier

  counts_later : SerialsCount (b.later ++ then)
  counts_later = subst SerialsCount (sym b.is) counts

  counts_then : SerialsCount then
  counts_then = serials_from b.later then counts_later

  stays : Remains b.earlier past
  stays = subst (Remains b.earlier) b.is (remains_on b.earlier then (b.later ++ then) (remains (said (notes.Got b.response) ∷ []) b.earlier counts_then) (remains b.later then counts_later))

  abbrev own : (packet : Sending) × ((terms b.earlier).sent b.response ≡ Some packet)
  own = receiver_sent ((terms b.earlier).sent b.response) 0 b.by_target

  response_below : b.response ≤ (terms b.earlier).count
  response_below = sent_below b.earlier b.response own.0 counts_then own.1

  abbrev read : (packet : Sending) × ((terms b.earlier).sent b.request ≡ Some packet)
  read = sender_sent ((terms b.earlier).sent b.request) 0 b.asked.from

  request_below : b.request ≤ (terms b.earlier).count
  request_below = sent_below b.earlier b.request read.0 counts_then read.1

  is_whole : IsWhole (answer_in (packet_at (terms b.earlier) b.response)) b.bytes
  is_whole = whole_of (answer_in (packet_at (terms b.earlier) b.response)) b.bytes b.brings

  payload_is : payload_at (terms past) b.response ≡ b.bytes
  payload_is = ap (λ (x : Option Sending). bytes_in (answer_in (packet_in x))) (stays.sent b.response response_below) ∙ is_whole.is

  -- what it spells
  pub orb_is : orb_read past b.response ≡ orb
  orb_is = ap command_orb payload_is ∙ b.spells

  access_is : access_at (terms past) b.request ≡ Some (read_access address 32)
  access_is = ap (λ (x : Option Sending). access_in (packet_in x)) (stays.sent b.request request_below) ∙ (b.asked.is ∙ ap (λ (a : Access). Some a) b.asked.asks)

  injects_then : (node : ℕ) → (terms past).injects node ≡ false → (terms b.earlier).injects node ≡ false
  injects_then node e =
      injects_before (said (notes.Got b.response)) b.earlier node
      (fair_back b.later then node (subst (λ ms. (terms ms).injects node ≡ false) (sym b.is) e))

  module _ (i : ℕ) (of_it : initiator_at (over (target_at start b.earlier)) (terms b.earlier) place ≡ i) (calm : IsCalm past i) where
    to_initiator : receiver_in ((terms b.earlier).sent b.request) ≡ Some (suc i)
    to_initiator = b.asked.to ∙ ap (λ j. Some (j + 1)) of_it ∙ (let e : i + 1 ≡ suc i = omega arith in ap (λ j. Some j) e)

    pub it_answers : EachMoment AnswersAt past → (terms past).injects 0 ≡ false → (terms b.earlier).answers b.response ≡ Some b.request
    it_answers answers fair =
        let from : read.0.from ≡ 0 = same_some read.0.from 0 (sym (ap sender_in read.1) ∙ b.asked.from) in
        let to : read.0.to ≡ suc i = same_some read.0.to (suc i) (sym (ap receiver_in read.1) ∙ to_initiator) in
        each_there AnswersAt b.later (said (notes.Got b.response)) b.earlier (subst (EachMoment AnswersAt) (sym b.is) answers) b.request b.closed read.0 read.1
        (ap (terms b.earlier).injects from ∙ injects_then 0 fair) (ap (terms b.earlier).injects to ∙ injects_then (suc i) calm)

    -- and the read was sent when the ORB that the slot had then had been appended
    pub was_appended : EachMoment (SentAsGot start) past → place < 8 → (slot n k : ℕ) → slot < 32 → address ≡ start_of (windows.Orb slot) → prepared_in b.earlier i slot ≡ Some (named_orb n k) → k < appends (before_sent b.earlier b.request) i n
    was_appended sent small slot n k inside stands there =
        let a : AreSentBehind start b.earlier = each_there (SentAsGot start) b.later (said (notes.Got b.response)) b.earlier (subst (EachMoment (SentAsGot start)) (sym b.is) sent) in
        a place small b.which b.request i slot n k (record {
          waits = b.waited;
          to = to_initiator;
          calm = injects_then (suc i) calm;
          access = read_access address 32;
          is = b.asked.is ∙ ap (λ (x : Access). Some x) b.asked.asks;
          reads = refl;
          some = omega arith;
          stands = orb_slot (read_access address 32) slot 32 inside (record { read = refl; block = refl; from = stands; size = refl });
          there = there;
        })

  module _ (i n k : ℕ) (of_it : initiator_at (over (target_at start b.earlier)) (terms b.earlier) place ≡ i) (stands : address ≡ address_of past i n k) (answers : (terms b.earlier).answers b.response ≡ Some b.request) (appended : k < appends (before_sent b.earlier b.request) i n) (opened : open_list start (before_sent b.earlier b.request) i ≡ Some n) where
    pub was_read : SpellsOrb start past i n k orb
    was_read = record {
      read = record {
        response = b.response;
        request = b.request;
        got = subst (λ ms. was_got ms b.response ≡ true) b.is (got_later b.later then b.response (got_now b.earlier b.response));
        whole = ap length payload_is ∙ is_whole.whole;
        answers = stays.answers b.response response_below ∙ answers;
        of_target = ap sender_in (stays.sent b.request request_below) ∙ b.asked.from;
        of_initiator = ap receiver_in (stays.sent b.request request_below) ∙ (b.asked.to ∙ ap (λ j. Some (j + 1)) of_it ∙ (let e : i + 1 ≡ suc i = omega arith in ap (λ j. Some j) e));
        asks = subst (λ x. IsSomeAnd x (λ access. IsRead access (address_of past i n k) 32)) (sym access_is) (record { read = refl; block = refl; from = stands; size = refl });
        appended = subst (λ ms. k < appends ms i n) (sym (stays.before_it b.request request_below)) appended;
        opened = subst (λ ms. open_list start ms i ≡ Some n) (sym (stays.before_it b.request request_below)) opened;
      };
      spells = orb_is;
    }

    pub was_read_by : was_read.read.response ≡ b.response
    unfolding was_read
    was_read_by = refl
