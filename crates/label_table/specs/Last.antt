-- The filter over every list of what a responder judged and remembered: the last request of a source
-- and label decides (IEEE 1394-1995, transaction layer).
use Rattle.std.specs.Prelude.{◌≡◌, ◌≢◌, ℕ, ◌==◌, ◌&&◌, if◌then◌else◌, List, [], ◌∷◌, Option, Some, None}
use Rattle.std.specs.Str.{bytes_eq}
use Rattle.label_table.specs.declared.reply.Verdict.{Verdict}
use Rattle.label_table.specs.declared.reply.Verdict.TheVariants as verdicts
use Rattle.label_table.specs.Requests.{label_of, is_write}
use Rattle.label_table.specs.Filter.{SourcePlace, new_filter, judge_step, remember_step}

-- a request that was judged, and the rcode that it was given
pub record Answered : Type 0 where
  pub source : ℕ
  pub bytes : List ℕ
  pub rcode : ℕ

-- the filter that has judged these, the latest of them first
abbrev pub filter_after : List Answered → List SourcePlace
filter_after [] = new_filter
filter_after (j ∷ js) = remember_step (filter_after js) j.source j.bytes j.rcode

-- none of them was crowded
abbrev pub HadRoom : List Answered → Type 0
HadRoom [] = Unit {0}
HadRoom (j ∷ js) = (judge_step (filter_after js) j.source j.bytes ≢ verdicts.Crowded) × HadRoom js

-- the last request of a source and label
abbrev pub last_of : List Answered → ℕ → ℕ → Option Answered
last_of [] source label = None
last_of (j ∷ js) source label =
    if (source == j.source) && (label == label_of j.bytes) then Some j else last_of js source label

abbrev pub verdict_on : Option Answered → List ℕ → Verdict
verdict_on None bytes = verdicts.Fresh
verdict_on (Some j) bytes = if is_write bytes && bytes_eq j.bytes bytes then verdicts.Again j.rcode else verdicts.Fresh

-- A request that is not crowded comes again exactly where it is a write with the bytes of the last
-- request of its source and label, and has then the rcode of that.
abbrev pub LastLaw : Type 0
LastLaw =
    (js : List Answered) → HadRoom js → (source : ℕ) (bytes : List ℕ) → judge_step (filter_after js) source bytes ≢ verdicts.Crowded → judge_step (filter_after js) source bytes ≡ verdict_on (last_of js source (label_of bytes)) bytes
