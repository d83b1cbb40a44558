-- Tables of rows, of which the first that holds decides. The facts that a row asks for are told by a node from what it keeps, and by a
-- law from the history.
use Rattle.std.specs.Prelude.{ℕ, ◌&&◌, ◌||◌, not, Bool, if◌then◌else◌, List, [], ◌∷◌, Option, Some, None}
use Rattle.sbp_journal.specs.declared.cause.Cause.{Cause}
use Rattle.sbp_journal.specs.declared.cause.Cause.TheVariants as causes

-- what the first row that holds says
abbrev pub first_row : {A : Type 0} → List (Bool × A) → Option A
first_row [] = None
first_row (row ∷ rows) = if row.0 then Some row.1 else first_row rows

-- what it says, or this where none holds
abbrev pub first_or : {A : Type 0} → A → List (Bool × A) → A
first_or otherwise [] = otherwise
first_or otherwise (row ∷ rows) = if row.0 then row.1 else first_or otherwise rows

-- ---- the judging of a request that does not come again

-- What a request is judged by: whether it came to an initiator, reads inside that node's ROM, and is of the target; whether it writes or
-- reads an agent register of no live login of its source; and of a block written to a FIFO of an initiator whether the FIFO is that of a
-- login and closed, whether the block is an unsolicited status, whether a row reads it, and whether it names an ORB that waits for its
-- status.
pub record RequestFacts : Type 0 where
  pub to_initiator : Bool
  pub reads_rom : Bool
  pub of_target : Bool
  pub of_other_login : Bool
  pub to_closed_fifo : Bool
  pub is_status : Bool
  pub is_unsolicited : Bool
  pub is_read : Bool
  pub is_awaited : Bool

-- How it is judged: it is ignored with a cause, and answered with an rcode (5 data_error, 7 address_error, 0 complete); it tells of a
-- changed medium; or it is the node's to serve.
pub data Judging : Type 0 where
  ignored_as : Cause → (rcode : ℕ) → Judging
  telling : Judging
  serving : Judging

abbrev pub request_rows : RequestFacts → List (Bool × Judging)
request_rows facts =
    (facts.to_initiator && not facts.reads_rom && not facts.of_target, ignored_as causes.Source 7)
    ∷ (facts.of_other_login || facts.to_closed_fifo, ignored_as causes.Login 7)
    ∷ (facts.is_status && facts.is_unsolicited, telling)
    ∷ (facts.is_status && not facts.is_read, ignored_as causes.Grammar 5)
    ∷ (facts.is_status && not facts.is_awaited, ignored_as causes.Slot 0)
    ∷ []

abbrev pub judging_of : RequestFacts → Judging
judging_of facts = first_or serving (request_rows facts)

-- ---- the rcode of a request that the target got

-- whether it is a lock; has no bytes; is a write that starts inside the ROM; is a read inside the ROM; is served at a start other than
-- the ROM's, and the rcode that the state there gives; and whether its address is a start
pub record TargetFacts : Type 0 where
  pub is_lock : Bool
  pub is_empty : Bool
  pub writes_rom : Bool
  pub reads_rom : Bool
  pub is_served : Bool
  pub by_state : ℕ
  pub is_start : Bool

-- 0 complete, 6 type_error, 7 address_error (IEEE 1394-1995, response codes)
abbrev pub target_rcode : TargetFacts → ℕ
target_rcode facts = first_or 7 (
    (facts.is_lock, 6)
    ∷ (facts.is_empty, 6)
    ∷ (facts.writes_rom, 6)
    ∷ (facts.reads_rom, 0)
    ∷ (facts.is_served, facts.by_state)
    ∷ (facts.is_start, 6)
    ∷ [])

-- ---- the rcode of a request that an initiator got, other than a block write to a FIFO

-- whether it is a lock; has no bytes; its address is a FIFO's; its range lies inside one window that is open; and whether the window
-- serves its direction
pub record WindowFacts : Type 0 where
  pub is_lock : Bool
  pub is_empty : Bool
  pub is_fifo : Bool
  pub is_inside : Bool
  pub has_direction : Bool

abbrev pub window_rcode : WindowFacts → ℕ
window_rcode facts = first_or 0 (
    (facts.is_lock, 6)
    ∷ (facts.is_empty, 6)
    ∷ (facts.is_fifo, 6)
    ∷ (not facts.is_inside, 7)
    ∷ (not facts.has_direction, 6)
    ∷ [])

-- ---- the refusal of an initiator's action

-- what stands against an action, each by its row
pub record Refusals : Type 0 where
  pub stuck : Bool
  pub wrong_state : Bool
  pub no_rom : Bool
  pub waiting : Bool
  pub mid_link : Bool
  pub not_linking : Bool
  pub dead_seen : Bool
  pub no_orb : Bool
  pub no_slot : Bool
  pub no_label : Bool

-- the number of the refusal, the least that holds
abbrev pub refusal_of : Refusals → Option ℕ
refusal_of facts = first_row (
    (facts.stuck, 1)
    ∷ (facts.wrong_state, 2)
    ∷ (facts.no_rom, 3)
    ∷ (facts.waiting, 4)
    ∷ (facts.mid_link, 5)
    ∷ (facts.not_linking, 6)
    ∷ (facts.dead_seen, 7)
    ∷ (facts.no_orb, 8)
    ∷ (facts.no_slot, 9)
    ∷ (facts.no_label, 10)
    ∷ [])
