-- The responses of every run bring what the memory of their initiator held.
use Rattle.sbp_world.proofs.Common.{not_true}
use Rattle.sbp_world.proofs.Words.Std.{arith, ◌≡◌, refl, sym, ◌∙◌, ap, subst, ℕ, suc, ◌+◌, ◌*◌, ◌<◌, ◌≤◌, nat_lt, Bool, true, false, cond, List, [], ◌∷◌, ◌++◌, length, map, Option, Some, append_assoc, nat_tests}
use Rattle.sbp_world.proofs.Words.Wire.{Packet, reading, SerialsCount, Access, Moment, said, Sending, terms, Event}
use Rattle.sbp_world.proofs.Words.Target.{Told}
use Rattle.sbp_world.proofs.Words.Initiator.{start, CommandOrb, OrbPointer, Null, At, command_orb, pointer_at}
use Rattle.sbp_world.proofs.Words.Laws.{IsRead, address_of, before_sent, Orb, is_dummy, linked, orb, prepared_in, slot_at, answer_in, packet_at, packet_in, receiver_in, spelled_by, appends}
use Rattle.sbp_world.proofs.Words.World.{history_of, Run, after, beginning, MayAll, begun, IsDelivering, AllBring, Brings, CarriesLaw, Follows, HoldsTable, IsOfOrb, IsResponse, LeadsOn, NoneInjected, Lasts, format_of, next_of, orb_for, Remains, CarriesOrb, IsRun}
use Rattle.bus_memory.specs.declared.window.Window.TheVariants as windows
use Rattle.sbp_journal.specs.declared.note.Note.TheVariants as notes
use Rattle.sbp_world.specs.Hosts.Carrying.{IsOrbOf, IsServed}
use Rattle.sbp_world.proofs.Hosts.Carries.{by_more}
use Rattle.sbp_world.proofs.Hosts.Between.{OfWire, between, carried_there, of_wire, of_wire_there}
use Rattle.sbp_world.proofs.Hosts.Carried.{of_runs}
use Rattle.sbp_world.proofs.Hosts.Deliveries.{GotsIn, find_got}
use Rattle.sbp_world.proofs.Hosts.GotServed.{Goes, IsGot, gots_between, gots_of, responds}
use Rattle.sbp_world.proofs.Hosts.Lasting.{Lasting, first_lasting, from_moment, lasting_carried}
use Rattle.sbp_world.proofs.Hosts.LastingTerms.{AllLast}
use Rattle.sbp_world.proofs.Hosts.OrbRuns.{rows_known}
use Rattle.sbp_world.proofs.Hosts.Owing.{GotBehind, asks, block, got_behind, replied, to_it}
use Rattle.sbp_world.proofs.Hosts.PreparedLasts.{placed, prepared_then}
use Rattle.sbp_world.proofs.Hosts.Remaining.{remains}
use Rattle.sbp_world.proofs.Hosts.Replied.{IsReplied}
use Rattle.sbp_world.proofs.Hosts.SentMoments.{count_now, sent_begins, sent_there, serials_from}
use Rattle.sbp_world.proofs.Hosts.SlotIgnored.{AllWrites}
use Rattle.sbp_world.proofs.Hosts.Slotted.{writes_between, writes_of}

-- what a run's history has for this
pub record Stood (all : List Moment) (i : ℕ) : Type 0 where
  pub wire : OfWire all
  pub gots : GotsIn (IsGot IsReplied all) all
  pub writes : AllWrites all i
  pub last : AllLast all i

pub last_from : (later before : List Moment) (i : ℕ) → AllLast (later ++ before) i → AllLast before i
last_from [] before i h = h
last_from (m ∷ later) before i h = last_from later before i h.1

-- ---- as the list is

-- a next pointer that was read leads on for good
leads_by : (before all : List Moment) (i n k : ℕ) (b : Bool) → nat_lt (suc k) (linked before i n) ≡ b → Lasts before all i → LeadsOn all i n k (cond b (At (address_of before i n (suc k))) Null)
leads_by before all i n k false e lasts = tt
leads_by before all i n k true e lasts =
    let below : suc k < linked before i n = grind (arith, nat_tests) in
    let on = lasts.linked_on n in
    let within = lasts.linked_in n in
    (ap (λ s. start (windows.Orb s)) (sym (lasts.slot n (suc k) (omega arith))), omega arith)

leads : (before all : List Moment) (i n k : ℕ) (pointer : OrbPointer) → pointer ≡ next_of before i n k → Lasts before all i → LeadsOn all i n k pointer
leads before all i n k pointer e lasts = subst (LeadsOn all i n k) (sym e) (leads_by before all i n k (nat_lt (suc k) (linked before i n)) refl lasts)

-- the ORB that was read is that of its command for good
own_orb : (before all : List Moment) (i n k slot : ℕ) (bytes : List ℕ) → k < appends before i n → slot_at all i n k ≡ slot → Lasts before all i → CarriesOrb before i slot (orb n k) bytes → IsOrbOf all i n k bytes
own_orb before all i n k slot bytes below place lasts c =
    let own = command_orb bytes in
    let next : own.next ≡ next_of before i n k = ap (λ (x : CommandOrb). x.next) c.orb in
    record {
      size = c.size;
      own = record {
        cmd = c.cmd;
        fits = c.fits;
        command = lasts.command n k below ∙ c.command;
        request = lasts.request n k below ∙ c.request;
        node = c.node;
        dummy = is_dummy before i n k;
        dummied = λ e. lasts.dummy n k e;
        own_is = c.orb
            ∙ (ap (λ x. orb_for c.cmd c.node slot x (format_of before i n k)) (sym next)
            ∙ ap (λ s. orb_for c.cmd c.node s own.next (format_of before i n k)) (sym place));
        as_appended = c.as_appended;
      };
      leads = leads before all i n k own.next next lasts;
    }

-- ---- a response

-- the packet behind the note that its request was got
pub reply_packet : (all past now rest : List Moment) (i ask : ℕ) (access : Access) → SerialsCount all → rest ++ now ≡ all → (answer : IsReplied past i ask access now) → (reply : ℕ) → reply ≡ (terms past).count + 1 → packet_at (terms all) reply ≡ spelled_by (reading answer.bytes)
reply_packet all past now rest i ask access serials is answer reply next =
    let t = terms past in
    let before = map said answer.effects ++ said (notes.Got ask) ∷ past in
    let counts : SerialsCount (rest ++ now) = subst SerialsCount (sym is) serials in
    let kept : Remains now all = subst (Remains now) is (remains rest now counts) in
    let counted : (terms now).count ≡ (terms before).count + 1 = ap (λ ms. (terms ms).count) answer.is ∙ count_now before (t.count + 1) (t.generation (suc i)) (suc i) answer.to answer.bytes in
    let serial : t.count + 1 ≡ (terms before).count + 1 = (subst SerialsCount answer.is (serials_from rest now counts)).0 in
    ap (packet_at (terms all)) next
    ∙ (ap packet_in (kept.sent (t.count + 1) (omega arith))
    ∙ (ap (λ ms. packet_in ((terms ms).sent (t.count + 1))) answer.is
    ∙ ap packet_in (sent_there before (t.count + 1) (t.generation (suc i)) (suc i) answer.to answer.bytes)))

module _ (all : List Moment) (i : ℕ) (st : Stood all i) (reply ask : ℕ) (access : Access) (bytes : List ℕ) (r : IsResponse all i reply ask access bytes) where
  found : GotBehind all reply ask (replied all i st.wire st.writes reply ask access bytes r).asking
  found = got_behind all i st.wire st.writes reply ask access bytes r

  abbrev asking : Sending
  asking = (replied all i st.wire st.writes reply ask access bytes r).asking

  abbrev packet : Packet
  packet = (asks all i st.wire st.writes reply ask access bytes r).spells

  abbrev past : List Moment
  past = found.past

  -- the moment behind which the response stands
  behind : (found.later ++ said (notes.Got ask) ∷ []) ++ past ≡ all
  behind = append_assoc found.later (said (notes.Got ask) ∷ []) past ∙ found.is

  lasts : Lasts past all i
  lasts = from_moment (found.later ++ said (notes.Got ask) ∷ []) past all i behind st.last

  remain : (later before : List Moment) → later ++ before ≡ all → Remains before all
  remain later before e = subst (Remains before) e (remains later before (subst SerialsCount (sym e) st.wire.laws.serials))

  got : IsGot IsReplied all ask past
  got = find_got (IsGot IsReplied all) found.later past ask (subst (GotsIn (IsGot IsReplied all)) (sym found.is) st.gots)

  goes : Goes IsReplied all past i ask packet access
  goes = got.goes i packet access (record {
    to_it = ap receiver_in found.was ∙ ap (λ n. Some n) (to_it all i st.wire st.writes reply ask access bytes r);
    spelled = ap packet_in found.was ∙ ap spelled_by (asks all i st.wire st.writes reply ask access bytes r).read;
    asks = (asks all i st.wire st.writes reply ask access bytes r).asks;
  })

  answer : IsReplied past i ask access goes.now
  answer = goes.replies (block all i st.wire st.writes reply ask access bytes r)

  -- the packet there is the response
  sent_all : packet_at (terms all) reply ≡ spelled_by (reading answer.bytes)
  sent_all = reply_packet all past goes.now goes.rest i ask access st.wire.laws.serials goes.is answer reply found.next

  served : IsServed past i access bytes
  served = answer.served bytes (ap answer_in (sym sent_all) ∙ r.tells)

  -- ---- of an ORB that is in its slot now

  module _ (n k slot : ℕ) (b : slot < 32) (now_there : prepared_in all i slot ≡ Some (orb n k)) (appended : k < appends (before_sent all ask) i n) where
    place : slot_at all i n k ≡ slot
    place = (placed i slot n k all st.last now_there).place

    -- it was appended before the read was got
    below : k < appends past i n
    below =
        let front = before_sent past ask in
        let begins = sent_begins past ask in
        let last : AllLast past i = last_from (found.later ++ said (notes.Got ask) ∷ []) past i (subst (λ ms. AllLast ms i) (sym behind) st.last) in
        let more : appends front i n ≤ appends past i n = (from_moment begins.later front past i begins.is last).appended n in
        let same : before_sent all ask ≡ front = (remain (found.later ++ said (notes.Got ask) ∷ []) past behind).before_it ask found.below in
        let early : k < appends front i n = subst (λ ms. k < appends ms i n) same appended in
        omega arith

    prepared_there : prepared_in past i slot ≡ Some (orb n k)
    prepared_there =
        prepared_then i slot n k (found.later ++ said (notes.Got ask) ∷ []) past (subst (λ ms. AllLast ms i) (sym behind) st.last) below
        (subst (λ ms. prepared_in ms i slot ≡ Some (orb n k)) (sym behind) now_there)

    same_orb : (one : Orb) → prepared_in past i slot ≡ Some one → one ≡ orb n k
    same_orb one e = by_orb (sym e ∙ prepared_there)
      where
        by_orb : Some one ≡ Some (orb n k) → one ≡ orb n k
        by_orb e = cc

    -- its address is that of its slot
    read_there : (count : ℕ) → IsRead access (address_of all i n k) count → IsRead access (start (windows.Orb slot)) count
    read_there count reads = subst (λ s. IsRead access (start (windows.Orb s)) count) place reads

    of_orb : IsOfOrb all i n k access bytes
    of_orb = record {
      orb = λ reads.
          let h = served.orb slot b (read_there 32 reads) in
          own_orb past all i n k slot bytes below place lasts (subst (λ one. CarriesOrb past i slot one bytes) (same_orb h.one h.prepared) h.carries);
      pointer = λ reads.
          let h = served.pointer slot b (read_there 8 reads) in
          leads past all i n k (pointer_at bytes 0) (h.next ∙ ap (λ (one : Orb). next_of past i one.list one.number) (same_orb h.one h.prepared)) lasts;
      table = λ cmd command reads.
          subst (λ s. HoldsTable s cmd bytes) (sym place)
          (served.table slot (orb n k) cmd b prepared_there (sym (lasts.command n k below) ∙ command)
          (subst (λ s. IsRead access (start (windows.Table s)) (8 * length cmd.segments)) place reads));
      of_data = λ cmd at command out_of follows.
          served.of_data slot (orb n k) cmd at b prepared_there (sym (lasts.command n k below) ∙ command) out_of
          (subst (λ s. Follows access s cmd at) place follows);
    }

  brings : Brings all i reply ask access bytes
  brings = record {
    later = found.later;
    before = past;
    is = found.is;
    asked = sym ((remain (found.later ++ said (notes.Got ask) ∷ []) past behind).sent ask found.below);
    next = found.next;
    served = served;
    lasts = lasts;
    now = λ n k slot b now_there appended. (place n k slot b now_there appended, of_orb n k slot b now_there appended);
  }

all_bring : (all : List Moment) (i : ℕ) → Stood all i → AllBring all i
all_bring all i st = λ reply ask access bytes r. brings all i st reply ask access bytes r

-- ---- packets of an initiator that injected none

none_injected : (all : List Moment) (i : ℕ) → OfWire all → NoneInjected all i
none_injected all i wire none serial packet sent from =
    not_true packet.injected
    (λ e. absurd (differ (sym none ∙ (ap (terms all).injects (sym from) ∙ (wire.facts.honest serial packet sent).bold e))))
  where
    differ : false ≡ true → ⊥
    differ e = cc

-- ---- a run

pub stood : (line : ℕ) (run : Run) (q : IsRun run) (i : ℕ) → i < run.initiators → Stood (history_of line run) i
stood line run q i b = record {
  wire = of_wire line run q;
  gots = gots_of IsReplied responds line run q;
  writes = writes_of line run q i b;
  last = (of_runs (Lasting run.ready) (lasting_carried run.ready) line run (rows_known line run) (λ j c. first_lasting line j run.initiators run.ready) q i b).all;
}

pub stood_between : (line : ℕ) (run : Run) (q : IsRun run) (next : ℕ) (event : Event) (told : List (Option Told)) → IsDelivering event told → MayAll told (begun (after (beginning run) run.entries)) → (i : ℕ) → i < run.initiators → Stood (between line run q next event told) i
stood_between line run q next event told d m i b = record {
  wire = of_wire_there line run q next event told d m;
  gots = gots_between IsReplied responds line run q next event told d m;
  writes = writes_between line run q next event told d m i b;
  last = (carried_there line run q next (Lasting run.ready) (by_more (lasting_carried run.ready)) (rows_known line run) (λ j c. first_lasting line j run.initiators run.ready) i b event told d m).all;
}

pub carries_law : CarriesLaw
carries_law = record {
  carries = λ line run q i b. all_bring (history_of line run) i (stood line run q i b);
  between = λ line run q next event told d m i b. all_bring (between line run q next event told) i (stood_between line run q next event told d m i b);
  none_injected = λ line run q i b. none_injected (history_of line run) i (of_wire line run q);
  none_injected_between = λ line run q next event told d m i b. none_injected (between line run q next event told) i (of_wire_there line run q next event told d m);
}
