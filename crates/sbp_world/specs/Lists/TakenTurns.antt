-- In which order the statuses of a list are taken (NCITS 325-1998, status block), by an initiator that injected no packets: in the order of its ORBs, without a gap. An agent begins an ORB only where the
-- write of the status block of the one before it was closed with rcode 0; so that one was served, and as its slot had its ORB, it was got, and taken.
use Rattle.std.specs.Prelude.{◌≡◌, ◌<◌, ◌≤◌, ◌==◌, ◌||◌, ℕ, suc, Bool, true, false, List, [], ◌∷◌, ◌++◌, length, map, Option, Some}
use Rattle.orb_layout.specs.declared.status.StatusBlock.{StatusBlock}
use Rattle.rbc_disk.specs.Runs.{Told}
use Rattle.sbp_base.specs.Update.{upd2}
use Rattle.sbp_journal.specs.Run.{Moment, asked, said}
use Rattle.sbp_journal.specs.Transactions.{Sending}
use Rattle.sbp_journal.specs.Wire.{terms}
use Rattle.sbp_journal.specs.declared.cause.Cause.TheVariants as causes
use Rattle.sbp_journal.specs.declared.note.Note.TheVariants as notes
use Rattle.sbp_laws.specs.Lists.{Orb, prepared_in, present_list, waits_in}
use Rattle.sbp_laws.specs.StatusLaw.{status_packet}
use Rattle.sbp_laws.specs.Turns.{EachMoment}
use Rattle.sbp_world.specs.Histories.{history_of}
use Rattle.sbp_world.specs.Runs.{Run, after, beginning}
use Rattle.sbp_world.specs.Settling.{MayAll, after_all}
use Rattle.sbp_world.specs.Worlds.{WorldState, begun}
use Rattle.sbp_world.specs.Hosts.Runs.{IsRun, more_deliveries}
use Rattle.sbp_world.specs.Lists.Closes.{Always, Under, WhereTameOrFew}
use Rattle.sbp_world.specs.Lists.DataServes.{WasClosed}
use Rattle.sbp_world.specs.Lists.Faults.{is_fault}
use Rattle.sbp_world.specs.Lists.FewLogins.{IsTameOrFew}
use Rattle.sbp_world.specs.Lists.Needs.{IsCalm}
use Rattle.sbp_world.specs.Lists.Statuses.{IsStatusWrite, IsToHost}

-- how many statuses of a list were taken
abbrev pub takes_in : List Moment → ℕ → ℕ → ℕ
takes_in [] = λ i n. 0
takes_in (said (notes.Taken i n k status answer) ∷ past) = upd2 (takes_in past) i n (suc (takes_in past i n))
takes_in (_ ∷ past) = takes_in past

-- whether one of them was failed or illegal
abbrev pub is_failed : List Moment → ℕ → ℕ → Bool
is_failed [] = λ i n. false
is_failed (said (notes.Taken i n k status answer) ∷ past) = upd2 (is_failed past) i n (is_failed past i n || is_fault status)
is_failed (_ ∷ past) = is_failed past

-- ---- a status that was answered
-- The packet that the end of an ORB sent is a write of its status block, and its transaction was closed with rcode 0 and served once.
pub record WasAnswered (past : List Moment) (i n k : ℕ) : Type 0 where
  pub serial : ℕ
  pub packet : Sending
  pub slot : ℕ
  pub block : StatusBlock
  pub sent : IsToHost past i serial packet
  pub writes : IsStatusWrite packet.bytes slot block
  pub of : status_packet past i n k ≡ Some serial
  pub closed : WasClosed past serial

-- As an ORB of the present list ends, the status block of each one before it was answered.
abbrev pub EndsBehind : ℕ → Moment → List Moment → Type 0
EndsBehind i (said (notes.Ended j (Some n) (Some k) status)) past = (i == j) ≡ true → present_list past i ≡ Some n → (l : ℕ) → l < k → WasAnswered past i n l
EndsBehind i moment past = Unit {0}

abbrev pub AllEndBehind : List Moment → WorldState → Type 0
AllEndBehind past w = (i : ℕ) → i < length w.initiators → IsCalm past i → EachMoment (EndsBehind i) past

abbrev pub AnsweredLaw : Type 0
AnsweredLaw = Under (WhereTameOrFew AllEndBehind)

-- ---- a status that is ignored for its slot
-- The ORB that was prepared last in the slot that it names does not wait.
abbrev pub IgnoredSo : ℕ → Moment → List Moment → Type 0
IgnoredSo i (said (notes.Ignored serial causes.Slot)) past =
    (packet : Sending) → (terms past).sent serial ≡ Some packet → packet.to ≡ suc i → (slot : ℕ) (block : StatusBlock) → IsStatusWrite packet.bytes slot block → (one : Orb) → prepared_in past i slot ≡ Some one → waits_in past i one.list one.number ≡ false
IgnoredSo i moment past = Unit {0}

abbrev pub AllIgnoredSo : List Moment → WorldState → Type 0
AllIgnoredSo past w = (i : ℕ) → i < length w.initiators → EachMoment (IgnoredSo i) past

abbrev pub IgnoredLaw : Type 0
IgnoredLaw = Always AllIgnoredSo

-- ---- the law
-- a status that is taken is of the ORB behind those whose statuses were taken
abbrev pub TakesInOrder : ℕ → Moment → List Moment → Type 0
TakesInOrder i (said (notes.Taken j n k status answer)) past = (i == j) ≡ true → k ≡ takes_in past i n
TakesInOrder i moment past = Unit {0}

abbrev pub AllTakeInOrder : List Moment → ℕ → Type 0
AllTakeInOrder past initiators = (i : ℕ) → i < initiators → IsCalm past i → EachMoment (TakesInOrder i) past

-- After every line of every run, and behind each delivery of a line that delivers one packet after the other, where no initiator injected packets, or few logins were given.
pub record TakenTurnsLaw : Type 0 where
  pub after_lines : (line : ℕ) (run : Run) → IsRun run → 0 < run.units → run.units ≤ 4 → length run.start.disks ≡ run.units → IsTameOrFew (history_of line run) → AllTakeInOrder (history_of line run) run.initiators
  pub between : (line : ℕ) (run : Run) → IsRun run → 0 < run.units → run.units ≤ 4 → length run.start.disks ≡ run.units → (next : ℕ) (most : Option ℕ) (told : List (Option Told)) → MayAll told (begun (after (beginning run) run.entries)) → (let now = map said (after_all told (begun (after (beginning run) run.entries))).world.fresh ++ asked next (more_deliveries most) ∷ history_of line run in IsTameOrFew now → AllTakeInOrder now run.initiators)
