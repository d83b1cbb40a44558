-- The media law (NCITS 325-1998, unsolicited status). In the delivery of a good load into an empty tray of a unit each other live login of
-- that unit whose register is enabled has one note, by rising place: `unsent` where the write finds no label to its initiator, or an earlier
-- unsolicited write to it is under way or its label rests, and else `unsolicited`, with which the block is sent to the login's FIFO. These
-- notes stand nowhere else. `told` stands exactly where an initiator gets a write that an `unsolicited` for it sent. A register is enabled by
-- a write of it that the target got, until one unsolicited status was sent for its login, the login leaves, or the target sees a reset.
use Rattle.std.specs.Prelude.{◌≡◌, ℕ, suc, ◌==◌, ◌&&◌, ◌||◌, not, Bool, true, false, if◌then◌else◌, List, [], ◌∷◌, ◌++◌, slice_index_or, Option, Some, None}
use Rattle.std.specs.List.{list_any}
use Rattle.rbc_disk.specs.Disk.{Disk}
use Rattle.media_bay.specs.Unsolicited.{block}
use Rattle.login_table.specs.declared.login.Login.{Login}
use Rattle.login_table.specs.Table.{is_live}
use Rattle.label_table.specs.Bodies.{Body, block_write}
use Rattle.sbp_journal.specs.Run.{Moment, said}
use Rattle.sbp_journal.specs.Wire.{Terms, terms}
use Rattle.sbp_journal.specs.declared.note.Note.{Note}
use Rattle.sbp_journal.specs.declared.note.Note.TheVariants as notes
use Rattle.sbp_laws.specs.Turns.{Turn, EachTurn}
use Rattle.sbp_laws.specs.Packets.{id_for, finds_label, is_under_way, has_resting_label, receiver_in}
use Rattle.sbp_laws.specs.DiskFold.{moves_disc, unit_at}
use Rattle.sbp_laws.specs.Targets.{Target, place_on, is_serial, initiator_with}
use Rattle.sbp_laws.specs.Agents.{Request, requests_to, target_before, wire_before, wire_after}
use Rattle.sbp_laws.specs.NoteKinds.{of_kind}

-- ---- the logins that are to be told
-- a load: the unit, and the place of the login whose command it was
pub record Load : Type 0 where
  pub unit : ℕ
  pub place : ℕ

abbrev pub load_if : Bool → (unit place : ℕ) → Option Load
load_if true unit place = Some (record { unit = unit; place = place })
load_if false unit place = None

-- the load of a turn that moved a disc
abbrev pub load_in : Target → Terms → List Note → Option Load
load_in target wire [] = None
load_in target wire (notes.Ran i list number unit cdb bytes check ∷ rest) =
    load_if (moves_disc cdb check (unit_at target.units unit)) unit (place_on target unit (id_for wire 0 (suc i)))
load_in target wire (note ∷ rest) = load_in target wire rest

-- a login that is told, or not: its initiator and its FIFO
abbrev pub is_told : Load → List Bool → Login → Bool
is_told load enabled login =
    is_live login && (login.unit == load.unit) && not (login.place == load.place) && slice_index_or enabled login.place false

abbrev pub told_logins : Load → List Bool → List (Option Login) → List Login
told_logins load enabled [] = []
told_logins load enabled (None ∷ places) = told_logins load enabled places
told_logins load enabled (Some login ∷ places) = if is_told load enabled login then login ∷ told_logins load enabled places else told_logins load enabled places

-- an earlier unsolicited write to a node is under way, or its label rests
abbrev pub is_pending : Terms → (node serial : ℕ) → Bool
is_pending wire node serial = is_serial (receiver_in (wire.sent serial)) node && (is_under_way wire serial || has_resting_label wire serial)

abbrev pub push_body : Login → Body
push_body login = block_write login.fifo block

abbrev pub may_push : Target → Terms → Login → Bool
may_push target wire login =
    let node = suc (initiator_with wire login.node) in
    finds_label wire 0 node (push_body login) && not (list_any (is_pending wire node) target.pushes)

-- ---- the notes, and the packets that they send
abbrev pub push_notes : Target → Terms → List Login → List Note
push_notes target wire [] = []
push_notes target wire (login ∷ logins) =
    (if may_push target wire login then notes.Unsolicited (initiator_with wire login.node) else notes.Unsent (initiator_with wire login.node)) ∷ push_notes target wire logins

abbrev pub push_requests : Target → Terms → List Login → List Request
push_requests target wire [] = []
push_requests target wire (login ∷ logins) =
    if may_push target wire login then requests_to (suc (initiator_with wire login.node)) (Some (push_body login)) ++ push_requests target wire logins
    else push_requests target wire logins

abbrev pub logins_for : Target → Option Load → List Login
logins_for target None = []
logins_for target (Some load) = told_logins load target.enabled target.table.places

abbrev pub logins_told : Target → Turn → List Login
logins_told target t = logins_for target (load_in target (wire_before t) t.rest)

abbrev pub is_push_note : Note → Bool
is_push_note (notes.Unsolicited i) = true
is_push_note (notes.Unsent i) = true
is_push_note _ = false

abbrev pub is_told_note : Note → Bool
is_told_note (notes.Told i) = true
is_told_note _ = false

-- ---- what an initiator is told
abbrev pub told_at : Option ℕ → Bool → List Note
told_at (Some (suc i)) true = notes.Told i ∷ []
told_at receiver is_push = []

abbrev pub told_due : Target → Turn → Moment → List Note
told_due target t (said (notes.Got serial)) =
    told_at (receiver_in ((terms t.past).sent serial)) (list_any (λ push. push == serial) target.pushes)
told_due target t moment = []

pub record HasPushes (disks : List Disk) (t : Turn) : Type 0 where
  pub pushes : of_kind is_push_note t.rest ≡ push_notes (target_before disks t) (wire_after t) (logins_told (target_before disks t) t)
  pub told : of_kind is_told_note t.rest ≡ told_due (target_before disks t) t t.start

abbrev pub MediaLaw : List Disk → List Moment → Type 0
MediaLaw disks past = EachTurn (HasPushes disks) past
