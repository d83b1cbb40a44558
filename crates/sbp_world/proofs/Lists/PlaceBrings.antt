-- The responses of every run to reads of management ORBs bring the ORBs that stood in their places.
use Rattle.sbp_world.proofs.Words.Std.{arith, ◌≡◌, sym, ◌∙◌, ap, subst, ℕ, suc, ◌+◌, ◌<◌, List, ◌∷◌, ◌++◌, map, Option, Some}
use Rattle.sbp_world.proofs.Words.Wire.{Packet, reading, SerialsCount, Access, Moment, said, terms, Event}
use Rattle.sbp_world.proofs.Words.Target.{Told}
use Rattle.sbp_world.proofs.Words.Initiator.{start}
use Rattle.sbp_world.proofs.Words.Laws.{IsRead, answer_in, packet_at, packet_in, receiver_in, spelled_by}
use Rattle.sbp_world.proofs.Words.World.{history_of, Run, after, beginning, MayAll, begun, IsDelivering, IsResponse, Remains, IsRun, BringPlaces, BringsPlace, PlaceReadsLaw}
use Rattle.bus_memory.specs.declared.window.Window.TheVariants as windows
use Rattle.sbp_journal.specs.declared.note.Note.TheVariants as notes
use Rattle.sbp_world.proofs.Hosts.Between.{OfWire, between, of_wire, of_wire_there}
use Rattle.sbp_world.proofs.Hosts.Deliveries.{GotsIn, find_got}
use Rattle.sbp_world.proofs.Hosts.GotServed.{Goes, IsGot, gots_between, gots_of}
use Rattle.sbp_world.proofs.Hosts.Owing.{GotBehind, asks, block, got_behind, replied, to_it}
use Rattle.sbp_world.proofs.Hosts.Remaining.{remains}
use Rattle.sbp_world.proofs.Hosts.SentMoments.{count_now, sent_there, serials_from}
use Rattle.sbp_world.proofs.Hosts.SlotIgnored.{AllWrites}
use Rattle.sbp_world.proofs.Hosts.Slotted.{writes_between, writes_of}
use Rattle.sbp_world.proofs.Lists.PlaceGots.{place_responds}
use Rattle.sbp_world.proofs.Lists.PlaceReplies.{IsPlaceReplied}

-- what a run's history has for this
record Stood (all : List Moment) (i : ℕ) : Type 0 where
  wire : OfWire all
  gots : GotsIn (IsGot IsPlaceReplied all) all
  writes : AllWrites all i

module _ (all : List Moment) (i : ℕ) (st : Stood all i) (reply ask place : ℕ) (access : Access) (bytes : List ℕ) (small : place < 2) (reads : IsRead access (start (windows.Management place)) 32) (r : IsResponse all i reply ask access bytes) where
  found : GotBehind all reply ask (replied all i st.wire st.writes reply ask access bytes r).asking
  found = got_behind all i st.wire st.writes reply ask access bytes r

  abbrev packet : Packet
  packet = (asks all i st.wire st.writes reply ask access bytes r).spells

  abbrev past : List Moment
  past = found.past

  remain : (later before : List Moment) → later ++ before ≡ all → Remains before all
  remain later before e = subst (Remains before) e (remains later before (subst SerialsCount (sym e) st.wire.laws.serials))

  got : IsGot IsPlaceReplied all ask past
  got = find_got (IsGot IsPlaceReplied all) found.later past ask (subst (GotsIn (IsGot IsPlaceReplied all)) (sym found.is) st.gots)

  goes : Goes IsPlaceReplied all past i ask packet access
  goes = got.goes i packet access (record {
    to_it = ap receiver_in found.was ∙ ap (λ n. Some n) (to_it all i st.wire st.writes reply ask access bytes r);
    spelled = ap packet_in found.was ∙ ap spelled_by (asks all i st.wire st.writes reply ask access bytes r).read;
    asks = (asks all i st.wire st.writes reply ask access bytes r).asks;
  })

  answer : IsPlaceReplied past i ask access goes.now
  answer = goes.replies (block all i st.wire st.writes reply ask access bytes r)

  -- the packet there is the response
  sent_all : packet_at (terms all) reply ≡ spelled_by (reading answer.bytes)
  sent_all =
      let t = terms past in
      let before = map said answer.effects ++ said (notes.Got ask) ∷ past in
      let kept = remain goes.rest goes.now goes.is in
      let counted : (terms goes.now).count ≡ (terms before).count + 1 = ap (λ ms. (terms ms).count) answer.is ∙ count_now before (t.count + 1) (t.generation (suc i)) (suc i) answer.to answer.bytes in
      let serial : t.count + 1 ≡ (terms before).count + 1 = (subst SerialsCount answer.is (serials_from goes.rest goes.now (subst SerialsCount (sym goes.is) st.wire.laws.serials))).0 in
      ap (packet_at (terms all)) found.next
      ∙ (ap packet_in (kept.sent (t.count + 1) (omega arith))
      ∙ (ap (λ ms. packet_in ((terms ms).sent (t.count + 1))) answer.is
      ∙ ap packet_in (sent_there before (t.count + 1) (t.generation (suc i)) (suc i) answer.to answer.bytes)))

  brings : BringsPlace all i ask place bytes
  brings = record {
    later = found.later;
    before = past;
    is = found.is;
    below = found.below;
    held = answer.brings bytes (ap answer_in (sym sent_all) ∙ r.tells) place small reads;
  }

all_bring : (all : List Moment) (i : ℕ) → Stood all i → BringPlaces all i
all_bring all i st = λ reply ask place access bytes small reads r. brings all i st reply ask place access bytes small reads r

stood : (line : ℕ) (run : Run) (q : IsRun run) (i : ℕ) → i < run.initiators → Stood (history_of line run) i
stood line run q i b = record { wire = of_wire line run q; gots = gots_of IsPlaceReplied place_responds line run q; writes = writes_of line run q i b }

stood_between : (line : ℕ) (run : Run) (q : IsRun run) (next : ℕ) (event : Event) (told : List (Option Told)) → IsDelivering event told → MayAll told (begun (after (beginning run) run.entries)) → (i : ℕ) → i < run.initiators → Stood (between line run q next event told) i
stood_between line run q next event told d m i b = record {
  wire = of_wire_there line run q next event told d m;
  gots = gots_between IsPlaceReplied place_responds line run q next event told d m;
  writes = writes_between line run q next event told d m i b;
}

pub place_reads_law : PlaceReadsLaw
place_reads_law = record {
  after_lines = λ line run q i b. all_bring (history_of line run) i (stood line run q i b);
  between = λ line run q next event told d m i b. all_bring (between line run q next event told) i (stood_between line run q next event told d m i b);
}
