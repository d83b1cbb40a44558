-- A call whose input has no fault, and where no call of the source or the sink failed, ends done, or memory was wanting.
use Rattle.std.proofs.Common.{◌≡◌, refl, subst, ℕ, inl, inr, true, false, List, Option, Some, None, IfSome, Err, IsOk}
use Rattle.line_session.specs.Outside.{Outside}
use Rattle.packet_listing.specs.Listing.{listing}
use Rattle.rom_listing.specs.RomListing.{rom_quads}
use Rattle.sbp_command.specs.Complete.{Completes, Holds, IsComplete, NoneRose, ReadsSound}
use Rattle.sbp_command.specs.Drill.{DrillEnds}
use Rattle.sbp_command.specs.Headline.{ListingEnds, RomEnds, run_command}
use Rattle.sbp_command.specs.QueueEnds.{QueueEnds}
use Rattle.sbp_command.specs.QueueLines.{queue_script}
use Rattle.sbp_command.specs.Scripts.{ScriptCommand, ScriptEnds}
use Rattle.sbp_command.specs.Served.{Rows, Serves}
use Rattle.sbp_command.specs.TaskEnds.{task_command}
use Rattle.sbp_command.specs.declared.status.Status.{Status}
use Rattle.sbp_command.specs.declared.status.Status.TheVariants as statuses

-- what was read is the input, so what has a fault is sound
same_input : (left : Option (List ℕ)) (input read : List ℕ) → left ≡ Some input → IfSome left (λ bytes. bytes ≡ read) → input ≡ read
same_input left input read e told = rw e at told

not_faulty : {F A : Type 0} (fault_of : List ℕ → Option F) (left : Option (List ℕ)) (read : List ℕ) (fault : F) → Holds (λ input. fault_of input ≡ None) left → IfSome left (λ bytes. bytes ≡ read) → fault_of read ≡ Some fault → A
not_faulty fault_of left read fault (input, e, sound) told f =
    let same : input ≡ read = same_input left input read e told in
    let never : Some fault ≡ None = cc in
    absurd (cc never)

of_script : (command : ScriptCommand) (status : Status) (before now : Outside) → ScriptEnds command status before now → Holds (λ input. (command.script input).fault ≡ None) before.left → NoneRose before now → IsComplete status
of_script command statuses.Done before now h sound quiet = inl refl
of_script command statuses.NoMemory before now h sound quiet = inr refl
of_script command statuses.Words before now h sound quiet = absurd h
of_script command statuses.Script before now (fault, ran) sound quiet = not_faulty (λ input. (command.script input).fault) before.left ran.input fault sound ran.told ran.fault_is
of_script command statuses.ReadFault before now (rose, ran) sound quiet = absurd (quiet.reads rose)
of_script command statuses.WriteFault before now (rose, ran) sound quiet = absurd (quiet.writes rose)

of_queue : (status : Status) (before now : Outside) → QueueEnds status before now → Holds (λ input. (queue_script input).fault ≡ None) before.left → NoneRose before now → IsComplete status
of_queue statuses.Done before now h sound quiet = inl refl
of_queue statuses.NoMemory before now h sound quiet = inr refl
of_queue statuses.Words before now h sound quiet = absurd h
of_queue statuses.Script before now (fault, ran) sound quiet = not_faulty (λ input. (queue_script input).fault) before.left ran.input fault sound ran.told ran.fault_is
of_queue statuses.ReadFault before now (rose, ran) sound quiet = absurd (quiet.reads rose)
of_queue statuses.WriteFault before now (rose, ran) sound quiet = absurd (quiet.writes rose)

of_listing : (status : Status) (before now : Outside) → ListingEnds status before now → Holds (λ input. (listing input).fault ≡ None) before.left → NoneRose before now → IsComplete status
of_listing statuses.Done before now h sound quiet = inl refl
of_listing statuses.NoMemory before now h sound quiet = inr refl
of_listing statuses.Words before now h sound quiet = absurd h
of_listing statuses.Script before now (fault, ran) sound quiet = not_faulty (λ input. (listing input).fault) before.left ran.input fault sound ran.told ran.fault_is
of_listing statuses.ReadFault before now (rose, ran) sound quiet = absurd (quiet.reads rose)
of_listing statuses.WriteFault before now (rose, ran) sound quiet = absurd (quiet.writes rose)

not_refused : {A : Type 0} (left : Option (List ℕ)) (read : List ℕ) (fault : ℕ × ℕ) → Holds (λ input. IsOk (rom_quads input)) left → IfSome left (λ bytes. bytes ≡ read) → rom_quads read ≡ Err fault → A
not_refused left read fault (input, e, sound) told f =
    let is_ok : IsOk (rom_quads read) = subst (λ bytes. IsOk (rom_quads bytes)) (same_input left input read e told) sound in
    let never : false ≡ true = rw f at is_ok in
    absurd (cc never)

of_rom : (status : Status) (before now : Outside) → RomEnds status before now → Holds (λ input. IsOk (rom_quads input)) before.left → NoneRose before now → IsComplete status
of_rom statuses.Done before now h sound quiet = inl refl
of_rom statuses.NoMemory before now h sound quiet = inr refl
of_rom statuses.Words before now h sound quiet = absurd h
of_rom statuses.Script before now (fault, ran) sound quiet = not_refused before.left ran.input fault sound ran.told ran.is_read
of_rom statuses.ReadFault before now (rose, ran) sound quiet = absurd (quiet.reads rose)
of_rom statuses.WriteFault before now (rose, ran) sound quiet = absurd (quiet.writes rose)

of_drill : (seed count : ℕ) (status : Status) (before now : Outside) → DrillEnds seed count status before now → NoneRose before now → IsComplete status
of_drill seed count statuses.Done before now h quiet = inl refl
of_drill seed count statuses.NoMemory before now h quiet = inr refl
of_drill seed count statuses.Words before now h quiet = absurd h.1
of_drill seed count statuses.Script before now h quiet = absurd h.1
of_drill seed count statuses.ReadFault before now h quiet = absurd h.1
of_drill seed count statuses.WriteFault before now (source, (rose, torn)) quiet = absurd (quiet.writes rose)

reads_to_the_end : (words : List (List ℕ)) (status : Status) (before now : Outside) → Rows words status before now → ReadsSound words before.left → NoneRose before now → IsComplete status
reads_to_the_end words status before now h (inl (is, sound)) quiet = of_script run_command status before now (h.run is) sound quiet
reads_to_the_end words status before now h (inr (inl (is, sound))) quiet = of_listing status before now (h.decode is) sound quiet
reads_to_the_end words status before now h (inr (inr (inl (is, sound)))) quiet = of_rom status before now (h.rom is) sound quiet
reads_to_the_end words status before now h (inr (inr (inr (inl (is, sound))))) quiet = of_script task_command status before now (h.tasks is) sound quiet
reads_to_the_end words status before now h (inr (inr (inr (inr (is, sound))))) quiet = of_queue status before now (h.queue is) sound quiet

completes : (words : List (List ℕ)) (status : Status) (before now : Outside) → Rows words status before now → Completes words status before now
completes words status before now h (inl reads) quiet = reads_to_the_end words status before now h reads quiet
completes words status before now h (inr (seed, count, asks)) quiet = of_drill seed count status before now (h.drill seed count asks) quiet

pub serves : {words : List (List ℕ)} {status : Status} {before now : Outside} → Rows words status before now → Serves words status before now
serves {words} {status} {before} {now} h = record { rows = h; complete = completes words status before now h }
