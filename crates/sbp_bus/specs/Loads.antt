-- What the budget of a `settle` counts: the ORBs without a status, of lists that were not cut.
use Rattle.std.specs.Prelude.{ℕ, ◌+◌, ◌-◌, ◌*◌, ◌/◌, ◌^◌, ◌==◌, min, nat_lt, not, true, false, if◌then◌else◌, List, [], ◌∷◌, ◌++◌, length, replicate, slice_set, slice_index_or}
use Rattle.std.specs.List.{filter}
use Rattle.std.specs.Option.{unwrap_or}
use Rattle.std.specs.Ordering.{nat_cmp}
use Rattle.std.specs.BTreeMap.{insert_entry, is_at}
use Rattle.std.specs.Map.{lookup, remove_entry}
use Rattle.sbp_journal.specs.declared.event.Cmd.{Cmd}
use Rattle.sbp_bus.specs.declared.loads.OrbLoad.{OrbLoad}
use Rattle.sbp_bus.specs.declared.loads.ListLoad.{ListLoad}

-- a number, up to the largest one of 64 bits
abbrev pub capped : ℕ → ℕ
capped n = min n (2 ^ 64 - 1)

-- ---- what an ORB counts

-- the transfers of a segment in pieces of at most a size
abbrev pub chunks_in : ℕ → ℕ → ℕ
chunks_in count size = (count + (size - 1)) / size

abbrev pub chunks_of : List ℕ → ℕ → ℕ
chunks_of [] size = 0
chunks_of (first ∷ others) size = chunks_in first size + chunks_of others size

-- the transfers of a buffer: one without a page table is one segment
abbrev pub transfers_by : ℕ → List ℕ → ℕ → ℕ
transfers_by count [] size = chunks_in count size
transfers_by count (first ∷ others) size = chunks_of (first ∷ others) size

abbrev pub pieces_of : Cmd → ℕ
pieces_of cmd = transfers_by cmd.length cmd.segments (2 ^ (cmd.max_payload + 2))

-- 16, and twice the elements of its page table and its transfers
unfoldable pub weight_of : Cmd → ℕ
weight_of cmd = 16 + 2 * (length cmd.segments + pieces_of cmd)

-- ---- what an initiator's lists count

-- what ORBs count together, beside a sum
abbrev pub weights : List OrbLoad → ℕ → ℕ
weights [] sum = sum
weights (load ∷ loads) sum = weights loads (capped (sum + load.weight))

abbrev pub without_orb : ℕ → List OrbLoad → List OrbLoad
without_orb orb loads = filter (λ load. not (load.orb == orb)) loads

abbrev pub with_left : ℕ → ℕ → List (ℕ × ℕ) → List (ℕ × ℕ)
with_left list weight left = insert_entry nat_cmp left list weight

-- what a dropped list counts, and the others
abbrev pub without_left : ℕ → List (ℕ × ℕ) → ℕ × List (ℕ × ℕ)
without_left list left = (unwrap_or (lookup (is_at (nat_cmp list)) left) 0, remove_entry (is_at (nat_cmp list)) left)

abbrev pub new_load : ListLoad
new_load = record { list = 0; is_cut = false; waiting = []; left = []; left_weight = 0 }

-- A list of a new number has no ORB yet, and was not cut.
abbrev pub begun_step : ℕ → ListLoad → ListLoad
begun_step list load =
    if load.list == list then load else record load { list = list; is_cut = false; waiting = [] }

abbrev pub orb_load : ℕ → ℕ → OrbLoad
orb_load orb weight = record { orb = orb; weight = weight }

abbrev pub appended_to : ℕ → ℕ → ListLoad → ListLoad
appended_to orb weight load =
    if load.is_cut then load else record load { waiting = load.waiting ++ orb_load orb weight ∷ [] }

-- An ORB is appended; one of a list that was cut counts nothing.
unfoldable pub append_step : ℕ → ℕ → ℕ → ListLoad → ListLoad
append_step list orb weight load = appended_to orb weight (begun_step list load)

-- The status of an ORB of the latest list is taken.
unfoldable pub take_step : ℕ → ListLoad → ListLoad
take_step orb load = record load { waiting = without_orb orb load.waiting }

-- A list is dropped: its ORBs without a status stay so until it is cut.
abbrev pub dropped_with : ℕ → ℕ → ListLoad → ListLoad
dropped_with list weight load =
    if weight == 0 then load
    else record load { waiting = []; left = with_left list weight load.left; left_weight = capped (load.left_weight + weight) }

unfoldable pub drop_step : ℕ → ListLoad → ListLoad
drop_step list load = dropped_with list (weights load.waiting 0) load

abbrev pub cut_latest : ℕ → ListLoad → ListLoad
cut_latest list load = if load.list == list then record load { is_cut = true; waiting = [] } else load

abbrev pub cut_left : ℕ × List (ℕ × ℕ) → ListLoad → ListLoad
cut_left (weight, left) load = record load { left = left; left_weight = load.left_weight - weight }

-- A list is cut: none of its ORBs counts any more.
unfoldable pub cut_step : ℕ → ListLoad → ListLoad
cut_step list load = cut_left (without_left list load.left) (cut_latest list load)

-- what an initiator's ORBs count together
abbrev pub load_weight : ListLoad → ℕ
load_weight load = capped (load.left_weight + weights load.waiting 0)

-- ---- all initiators

abbrev pub new_loads : ℕ → List ListLoad
new_loads initiators = replicate initiators new_load

-- a step of the load of an initiator, where there is one of this number
abbrev pub of_initiator : ℕ → (ListLoad → ListLoad) → List ListLoad → List ListLoad
of_initiator initiator step loads =
    if nat_lt initiator (length loads)
    then slice_set loads initiator (step (slice_index_or loads initiator new_load))
    else loads

unfoldable pub lists_weight : List ListLoad → ℕ
lists_weight [] = 0
lists_weight (load ∷ loads) = capped (load_weight load + lists_weight loads)
