-- The law on writes of one requester to one responder, over every list of what the two do. The
-- requester begins, closes and expires transactions; the responder judges and remembers deliveries,
-- each packet as often as it comes and in any order. Requests are named by their serials. The law does
-- not range over a reset, which clears the labels: packets of an earlier generation are refused by that.
use Rattle.std.specs.Prelude.{◌≡◌, ◌≢◌, ℕ, ◌+◌, ◌<◌, ◌≤◌, nat_eq, Bool, true, false, cond, List, [], ◌∷◌, Option, Some, None, IfSome, Result, Ok, Err}
use Rattle.async_packet.specs.Labels.{LabelParts}
use Rattle.label_table.specs.declared.reply.ReplyKind.{ReplyKind}
use Rattle.label_table.specs.declared.reply.NoLabel.{NoLabel}
use Rattle.label_table.specs.declared.reply.Verdict.{Verdict}
use Rattle.label_table.specs.declared.reply.Verdict.TheVariants as verdicts
use Rattle.label_table.specs.Requests.{IsRequest, label_of, is_write}
use Rattle.label_table.specs.Table.{Table, new_table, begin_step, close_step, expire_step}
use Rattle.label_table.specs.Filter.{SourcePlace, new_filter, judge_step, remember_step}

-- what the two do: a request is begun, closed by a response of a kind, or expires; the packet with a
-- serial is delivered and given an rcode; or the responder judges a request of another source
pub data Act : Type 0 where
  begin : (bytes : List ℕ) → Act
  close : (number : ℕ) → ReplyKind → Act
  expire : LabelParts → Act
  deliver : (serial rcode : ℕ) → Act
  other : (source : ℕ) → (bytes : List ℕ) → (rcode : ℕ) → Act

-- The requester's labels and the responder's filter; what was sent with each serial, which serial is
-- the latest of each label, how often each was judged and judged fresh, and which were closed.
pub record Course : Type 0 where
  pub table : Table
  pub filter : List SourcePlace
  pub sent : ℕ → Option (List ℕ)
  pub latest : ℕ → Option ℕ
  pub judgements : ℕ → ℕ
  pub fresh : ℕ → ℕ
  pub closed : ℕ → Bool

-- a function with another value at one number
abbrev pub upd : {A : Type 0} → (ℕ → A) → ℕ → A → ℕ → A
upd f number value = λ other. cond (nat_eq other number) value (f other)

abbrev pub start : Course
start = record {
  table = new_table;
  filter = new_filter;
  sent = λ _. None;
  latest = λ _. None;
  judgements = λ _. 0;
  fresh = λ _. 0;
  closed = λ _. false;
}

abbrev pub after_begin : Result LabelParts NoLabel × (Table × List ℕ) → Course → Course
after_begin (Ok label, (table, bytes)) course = record course {
  table = table;
  sent = upd course.sent label.serial (Some bytes);
  latest = upd course.latest label.number (Some label.serial);
}
after_begin (Err none, (table, bytes)) course = record course { table = table }

abbrev pub after_close : Option LabelParts × Table → Course → Course
after_close (Some label, table) course = record course { table = table; closed = upd course.closed label.serial true }
after_close (None, table) course = record course { table = table }

abbrev pub count_fresh : Verdict → ℕ
count_fresh verdicts.Fresh = 1
count_fresh (verdicts.Again rcode) = 0
count_fresh verdicts.Crowded = 0

abbrev pub after_delivery : ℕ → ℕ → ℕ → Option (List ℕ) → Course → Course
after_delivery requester serial rcode (Some bytes) course = record course {
  filter = remember_step course.filter requester bytes rcode;
  judgements = upd course.judgements serial (course.judgements serial + 1);
  fresh = upd course.fresh serial (course.fresh serial + count_fresh (judge_step course.filter requester bytes));
}
after_delivery requester serial rcode None course = course

-- one act of the requester with this node ID and its responder
abbrev pub happens : ℕ → Act → Course → Course
happens requester (begin bytes) course = after_begin (begin_step course.table bytes) course
happens requester (close number kind) course = after_close (close_step course.table number kind) course
happens requester (expire label) course = record course { table = (expire_step course.table label).1 }
happens requester (deliver serial rcode) course = after_delivery requester serial rcode (course.sent serial) course
happens requester (other source bytes rcode) course = record course { filter = remember_step course.filter source bytes rcode }

-- a list of acts
abbrev pub run : ℕ → List Act → Course → Course
run requester [] course = course
run requester (act ∷ acts) course = run requester acts (happens requester act course)

-- The premises on a delivery: the packet was sent, it is not delivered once its transaction is closed
-- and its label used again, and the responder has room for its source.
pub record MayDeliver (requester : ℕ) (course : Course) (serial : ℕ) : Type 0 where
  pub bytes : List ℕ
  pub sent : course.sent serial ≡ Some bytes
  pub unused : course.closed serial ≡ true → course.latest (label_of bytes) ≡ Some serial
  pub room : judge_step course.filter requester bytes ≢ verdicts.Crowded

-- The premises on each act: a request is begun, a transaction is closed after a delivery of its
-- request, and other sources are others.
abbrev pub May : ℕ → Act → Course → Type 0
May requester (begin bytes) course = IsRequest bytes
May requester (close number kind) course = IfSome (close_step course.table number kind).0 (λ label. 0 < course.judgements label.serial)
May requester (expire label) course = Unit {0}
May requester (deliver serial rcode) course = MayDeliver requester course serial
May requester (other source bytes rcode) course = source ≢ requester

abbrev pub MayAll : ℕ → List Act → Course → Type 0
MayAll requester [] course = Unit {0}
MayAll requester (act ∷ acts) course = May requester act course × MayAll requester acts (happens requester act course)

-- A write is judged fresh at most once, and exactly once where it was closed.
pub record IsJudgedOnce (course : Course) (serial : ℕ) : Type 0 where
  pub most : course.fresh serial ≤ 1
  pub closed : course.closed serial ≡ true → course.fresh serial ≡ 1

abbrev pub OnceLaw : Type 0
OnceLaw =
    (requester : ℕ) (acts : List Act) → MayAll requester acts start → (serial : ℕ) (bytes : List ℕ) → (run requester acts start).sent serial ≡ Some bytes → is_write bytes ≡ true → IsJudgedOnce (run requester acts start) serial
