-- Every list of acts keeps what ties the labels, the filter and the counts.
use Rattle.std.specs.Prelude.{◌≡◌, ◌≢◌, ℕ, ◌<◌, ◌&&◌, Bool, true, false, cond, List, [], ◌∷◌, length, Option, Some, None, IfSome, IsSome, refl}
use Rattle.std.proofs.Common.{arith, sym, ◌∙◌, ap}
use Rattle.std.proofs.Math.ListN.{length-set}
use Rattle.async_packet.specs.Labels.{LabelParts}
use Rattle.label_table.specs.declared.place.Place.{Place}
use Rattle.label_table.specs.declared.place.LabelState.{LabelState}
use Rattle.label_table.specs.declared.place.LabelState.TheVariants as states
use Rattle.label_table.specs.declared.reply.ReplyKind.{ReplyKind}
use Rattle.label_table.specs.declared.reply.Verdict.TheVariants as verdicts
use Rattle.label_table.specs.Requests.{IsRequest, label_of, with_label, is_write, is_last, kind_of, is_kind}
use Rattle.label_table.specs.Table.{new_table, unused, place_at, with_state, is_free, serves, lowest_from, begin_at, begin_step, close_in, close_step, has_serial, is_current, expire_in, expire_step}
use Rattle.label_table.specs.Filter.{SourcePlace, place_for, source_at, seen_in, seen_at, judged, judge_at, judge_step, remember_step}
use Rattle.label_table.specs.Once.{Act, begin, close, expire, deliver, other, Course, upd, start, after_begin, after_close, after_delivery, count_fresh, happens, run, May, MayAll, MayDeliver, IsJudgedOnce, OnceLaw}
use Rattle.label_table.proofs.Requests.{least_of_request}
use Rattle.label_table.proofs.Steps.{lowest_below, lowest_serves, place_set, under_way_below, label_with, write_with}
use Rattle.label_table.proofs.Sources.{default_in, IsFit, own_after, other_after, remembered_fit, new_fit, new_unseen}
use Rattle.label_table.proofs.Tied.{Tied, begin_tied, state_tied, deliver_tied, seen_tied}

record Kept (requester : ℕ) (c : Course) : Type 0 where
  size : length c.table.places ≡ 64
  fit : IsFit c.filter
  tied : Tied c.table.calls (λ l. (place_at c.table l).state) (λ l. (place_at c.table l).last) (λ l. (seen_at requester c.filter l).last) c.sent c.latest c.judgements c.fresh c.closed

new_place : (l : ℕ) → place_at new_table l ≡ unused
new_place l = default_in 64 l unused

start_kept : (requester : ℕ) → Kept requester start
start_kept requester = record {
  size = refl;
  fit = new_fit;
  tied = record {
    unsent = λ s h. refl;
    unjudged = λ s h. refl;
    unfresh = λ s h. refl;
    unclosed = λ s h. refl;
    begun = λ l s e. cc;
    labelled = λ l s b e. cc;
    sent_last = λ l s e. cc;
    unseen = λ l e. ap (λ q. q.last) (new_unseen requester l);
    is_seen = λ l s e. cc;
    is_new = λ l s b e. cc;
    freed = λ l s e. cc;
    waits = λ l s kind e. let n = ap (λ p. p.state) (new_place l) in cc;
    holds = λ s b e. cc;
    came = λ s e. cc;
    none = λ s b e. cc;
    once = λ s b e. cc;
  };
}

pub serves_free : (number : ℕ) (bytes : List ℕ) (place : Place) → serves number bytes place ≡ true → is_free place.state ≡ true
serves_free number bytes place s = grind arith

serves_differs : (number : ℕ) (bytes : List ℕ) (place : Place) → serves number bytes place ≡ true → is_write bytes ≡ true → is_last place.last (with_label number bytes) ≡ false
serves_differs number bytes place s w = grind arith

begin_kept : (requester : ℕ) (c : Course) (bytes : List ℕ) (found : Option ℕ) → Kept requester c → IsRequest bytes → lowest_from 0 bytes c.table.places ≡ found → Kept requester (after_begin (begin_at found c.table bytes) c)
begin_kept requester c bytes None k r e = k
begin_kept requester c bytes (Some n) k r e =
    let below = lowest_below n bytes c.table.places e in
    let fits = lowest_serves n bytes c.table.places e in
    let least = least_of_request bytes r in
    let small : n < 64 = let s = k.size in omega arith in
    record {
      size = length-set c.table.places n _ ∙ k.size;
      fit = k.fit;
      tied = begin_tied k.tied n (with_label n bytes) (kind_of bytes) (serves_free n bytes (place_at c.table n) fits) (label_with n bytes small least)
          (λ w. serves_differs n bytes (place_at c.table n) fits (sym (write_with n bytes least) ∙ w)) _ _
          (λ l. let p = place_set c.table n l (record { state = states.UnderWay (kind_of bytes) c.table.calls; last = Some (with_label n bytes) }) below in grind arith)
          (λ l. let p = place_set c.table n l (record { state = states.UnderWay (kind_of bytes) c.table.calls; last = Some (with_label n bytes) }) below in grind arith);
    }

begun_kept : (requester : ℕ) (c : Course) (bytes : List ℕ) → Kept requester c → IsRequest bytes → Kept requester (after_begin (begin_step c.table bytes) c)
unfolding begin_step
begun_kept requester c bytes k r = begin_kept requester c bytes _ k r refl

-- a label under way becomes free or rests
state_kept : (requester : ℕ) (c : Course) (n s : ℕ) (kind : ReplyKind) (new : LabelState) (done : Bool) → Kept requester c → (place_at c.table n).state ≡ states.UnderWay kind s → is_free new ≡ done → ((kind : ReplyKind) (s : ℕ) → new ≢ states.UnderWay kind s) → (done ≡ true → 0 < c.judgements s) → (closed' : ℕ → Bool) → ((r : ℕ) → closed' r ≡ cond done (upd c.closed s true r) (c.closed r)) → Kept requester (record c { table = with_state c.table n new; closed = closed' })
state_kept requester c n s kind new done k e is_done not_under came closed' closed_is =
    let below = under_way_below c.table n kind s e in
    record {
      size = length-set c.table.places n _ ∙ k.size;
      fit = k.fit;
      tied = state_tied k.tied n s (k.tied.waits n s kind e) new done is_done not_under came _ _
          (λ l. let p = place_set c.table n l (record (place_at c.table n) { state = new }) below in grind arith)
          (λ l. let p = place_set c.table n l (record (place_at c.table n) { state = new }) below in grind arith)
          closed' closed_is;
    }

close_by : (requester : ℕ) (c : Course) (n s : ℕ) (kind asked : ReplyKind) (same : Bool) → Kept requester c → (place_at c.table n).state ≡ states.UnderWay kind s → is_kind kind asked ≡ same → IfSome (close_in (states.UnderWay kind s) asked c.table n).0 (λ label. 0 < c.judgements label.serial) → Kept requester (after_close (close_in (states.UnderWay kind s) asked c.table n) c)
close_by requester c n s kind asked true k e same = rw same (λ came. state_kept requester c n s kind states.Free true k e refl (λ kind s. λ n. cc) (λ _. came) (upd c.closed s true) (λ r. refl))
close_by requester c n s kind asked false k e same = rw same (λ _. k)

close_kept : (requester : ℕ) (c : Course) (n : ℕ) (asked : ReplyKind) (state : LabelState) → Kept requester c → (place_at c.table n).state ≡ state → IfSome (close_in state asked c.table n).0 (λ label. 0 < c.judgements label.serial) → Kept requester (after_close (close_in state asked c.table n) c)
close_kept requester c n asked states.Free k e came = k
close_kept requester c n asked states.Resting k e came = k
close_kept requester c n asked (states.UnderWay kind s) k e came = close_by requester c n s kind asked _ k e refl came

closed_kept : (requester : ℕ) (c : Course) (n : ℕ) (asked : ReplyKind) → Kept requester c → May requester (close n asked) c → Kept requester (after_close (close_step c.table n asked) c)
unfolding close_step
closed_kept requester c n asked k came = close_kept requester c n asked _ k refl came

rests_kept : (requester : ℕ) (c : Course) (label : LabelParts) (state : LabelState) → Kept requester c → (place_at c.table label.number).state ≡ state → has_serial state label.serial ≡ true → Kept requester (record c { table = with_state c.table label.number states.Resting })
rests_kept requester c label states.Free k e h = cc
rests_kept requester c label states.Resting k e h = cc
rests_kept requester c label (states.UnderWay kind s) k e h =
    state_kept requester c label.number s kind states.Resting false k e refl (λ kind s. λ n. cc) (λ e. cc) c.closed (λ r. refl)

expire_kept : (requester : ℕ) (c : Course) (label : LabelParts) (now : Bool) → Kept requester c → is_current c.table label ≡ now → Kept requester (record c { table = (expire_in now c.table label).1 })
unfolding is_current
expire_kept requester c label false k e = k
expire_kept requester c label true k e = rests_kept requester c label _ k refl (grind arith)

expired_kept : (requester : ℕ) (c : Course) (label : LabelParts) → Kept requester c → Kept requester (record c { table = (expire_step c.table label).1 })
unfolding expire_step
expired_kept requester c label k = expire_kept requester c label _ k refl

count_judged : (f : List SourcePlace) (n : ℕ) (bytes : List ℕ) → count_fresh (judged (source_at f n) bytes) ≡ cond (is_write bytes && is_last (seen_in (Some n) f (label_of bytes)).last bytes) 0 1
unfolding judged
count_judged f n bytes = grind arith

-- a responder that judges a source has a place for it
pub place_of : (f : List SourcePlace) (bytes : List ℕ) (place : Option ℕ) → judge_at place f bytes ≢ verdicts.Crowded → IsSome place
place_of f bytes None room = absurd (room refl)
place_of f bytes (Some n) room = refl

deliver_at : (requester : ℕ) (c : Course) (serial rcode : ℕ) (bytes : List ℕ) (place : Option ℕ) → Kept requester c → c.sent serial ≡ Some bytes → c.latest (label_of bytes) ≡ Some serial → place_for requester c.filter ≡ place → IsSome place → Kept requester (after_delivery requester serial rcode (Some bytes) c)
deliver_at requester c serial rcode bytes None k sent current e some = cc
deliver_at requester c serial rcode bytes (Some n) k sent current e some =
    let count : count_fresh (judge_step c.filter requester bytes) ≡ cond (is_write bytes && is_last (seen_at requester c.filter (label_of bytes)).last bytes) 0 1 =
    rw e (count_judged c.filter n bytes) in
    record {
      size = k.size;
      fit = remembered_fit c.filter requester bytes rcode k.fit;
      tied = deliver_tied k.tied serial bytes sent current _
          (λ w a. grind arith)
          (λ w a. grind arith)
          _ (λ l. let o = own_after requester c.filter n bytes rcode l k.fit e in grind arith);
    }

-- A packet that may be delivered is that of its label's latest request.
latest_of : (requester : ℕ) (c : Course) (serial : ℕ) (bytes : List ℕ) (closed : Bool) → Kept requester c → c.sent serial ≡ Some bytes → (c.closed serial ≡ true → c.latest (label_of bytes) ≡ Some serial) → c.closed serial ≡ closed → c.latest (label_of bytes) ≡ Some serial
latest_of requester c serial bytes true k sent newest e = newest e
latest_of requester c serial bytes false k sent newest e = k.tied.holds serial bytes sent e

delivered_kept : (requester : ℕ) (c : Course) (serial rcode : ℕ) → Kept requester c → MayDeliver requester c serial → Kept requester (after_delivery requester serial rcode (c.sent serial) c)
delivered_kept requester c serial rcode k m =
    rw m.sent (deliver_at requester c serial rcode m.bytes _ k m.sent (latest_of requester c serial m.bytes _ k m.sent m.unused refl) refl (place_of c.filter m.bytes _ m.room))

other_kept : (requester : ℕ) (c : Course) (source : ℕ) (bytes : List ℕ) (rcode : ℕ) → Kept requester c → source ≢ requester → Kept requester (record c { filter = remember_step c.filter source bytes rcode })
other_kept requester c source bytes rcode k n = record {
  size = k.size;
  fit = remembered_fit c.filter source bytes rcode k.fit;
  tied = seen_tied k.tied _ (λ l. ap (λ q. q.last) (other_after requester source c.filter bytes rcode l k.fit (λ e. n (sym e))));
}

happens_kept : (requester : ℕ) (act : Act) (c : Course) → Kept requester c → May requester act c → Kept requester (happens requester act c)
happens_kept requester (begin bytes) c k m = begun_kept requester c bytes k m
happens_kept requester (close number kind) c k m = closed_kept requester c number kind k m
happens_kept requester (expire label) c k m = expired_kept requester c label k
happens_kept requester (deliver serial rcode) c k m = delivered_kept requester c serial rcode k m
happens_kept requester (other source bytes rcode) c k m = other_kept requester c source bytes rcode k m

run_kept : (requester : ℕ) (acts : List Act) (c : Course) → Kept requester c → MayAll requester acts c → Kept requester (run requester acts c)
run_kept requester [] c k m = k
run_kept requester (act ∷ acts) c k m = run_kept requester acts _ (happens_kept requester act c k m.0) m.1

kept_once : (requester : ℕ) (c : Course) (serial : ℕ) (bytes : List ℕ) → Kept requester c → c.sent serial ≡ Some bytes → is_write bytes ≡ true → IsJudgedOnce c serial
kept_once requester c serial bytes k sent write = record {
  most = let n = k.tied.none serial bytes sent write in let o = k.tied.once serial bytes sent write in grind arith;
  closed = λ e. k.tied.once serial bytes sent write (k.tied.came serial e);
}

pub once_always : OnceLaw
once_always requester acts may serial bytes sent write = kept_once requester _ serial bytes (run_kept requester acts start (start_kept requester) may) sent write
