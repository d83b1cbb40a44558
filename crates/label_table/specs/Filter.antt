-- The filter on repeated writes: the last request of each source and label that a node judged (IEEE
-- 1394-1995, transaction layer).
use Rattle.std.specs.Prelude.{ℕ, ◌&&◌, Bool, if◌then◌else◌, List, replicate, slice_set, slice_index_or, Option, Some, None}
use Rattle.label_table.specs.declared.reply.Verdict.{Verdict}
use Rattle.label_table.specs.declared.reply.Verdict.TheVariants as verdicts
use Rattle.label_table.specs.declared.source.Remembered.{Remembered}
use Rattle.label_table.specs.Requests.{label_of, is_write, is_last}
use Rattle.label_table.specs.Owned.{is_owned_by, owned_place, shown_in}

-- a source's place: the source that has it, and the last request under each of its 64 labels
pub record SourcePlace : Type 0 where
  pub source : Option ℕ
  pub requests : List Remembered

-- no last request
abbrev pub no_request : Remembered
no_request = record { last = None; rcode = 0 }

-- a place that no source has
abbrev pub no_source : SourcePlace
no_source = record { source = None; requests = replicate 64 no_request }

-- places for 5 sources
abbrev pub new_filter : List SourcePlace
new_filter = replicate 5 no_source

abbrev pub source_of : SourcePlace → Option ℕ
source_of place = place.source

abbrev pub is_of : Option ℕ → SourcePlace → Bool
is_of source place = is_owned_by source_of source place

-- the place that a source has, or else the first that none has
abbrev pub place_for : ℕ → List SourcePlace → Option ℕ
place_for source places = owned_place source_of source places

abbrev pub source_at : List SourcePlace → ℕ → SourcePlace
source_at places number = slice_index_or places number no_source

-- the last request of a source and label
abbrev pub request_at : ℕ → SourcePlace → Remembered
request_at label place = slice_index_or place.requests label no_request

abbrev pub seen_in : Option ℕ → List SourcePlace → ℕ → Remembered
seen_in place places label = shown_in (request_at label) no_source no_request place places

abbrev pub seen_at : ℕ → List SourcePlace → ℕ → Remembered
seen_at source places label = seen_in (place_for source places) places label

-- A write that equals the last request of its label comes again; anything else is fresh.
abbrev pub verdict_by : Remembered → List ℕ → Verdict
verdict_by remembered bytes =
    if is_write bytes && is_last remembered.last bytes then verdicts.Again remembered.rcode else verdicts.Fresh

unfoldable pub judged : SourcePlace → List ℕ → Verdict
judged place bytes = verdict_by (request_at (label_of bytes) place) bytes

abbrev pub judge_at : Option ℕ → List SourcePlace → List ℕ → Verdict
judge_at None places bytes = verdicts.Crowded
judge_at (Some number) places bytes = judged (source_at places number) bytes

abbrev pub judge_step : List SourcePlace → ℕ → List ℕ → Verdict
judge_step places source bytes = judge_at (place_for source places) places bytes

-- A request of any kind becomes the last one of its source and label.
unfoldable pub remembered : SourcePlace → ℕ → List ℕ → ℕ → SourcePlace
remembered place source bytes rcode = record {
  source = Some source;
  requests = slice_set place.requests (label_of bytes) (record { last = Some bytes; rcode = rcode });
}

abbrev pub remember_at : Option ℕ → List SourcePlace → ℕ → List ℕ → ℕ → List SourcePlace
remember_at None places source bytes rcode = places
remember_at (Some number) places source bytes rcode =
    slice_set places number (remembered (source_at places number) source bytes rcode)

abbrev pub remember_step : List SourcePlace → ℕ → List ℕ → ℕ → List SourcePlace
remember_step places source bytes rcode = remember_at (place_for source places) places source bytes rcode
