-- A drill is summed up and written, and ends as its status says.
use Rattle.std.specs.Fmt.{decimal}
use Rattle.std.specs.Str.{bytes_eq}
use Rattle.std.proofs.lemmas.Fmt.{decimal_injective}
use Rattle.std.proofs.lemmas.Slice.Eq.{bytes_eq-Decides}
use Rattle.drill_text.specs.Words.{IsDrill}
use Rattle.sbp_command.specs.declared.status.Status.{Status as CallStatus}
use Rattle.std.proofs.Common.{◌≡◌, ◌^◌, codes, ◌∙◌, refl, sym, ap, subst, ℕ, ◌<◌, ◌≤◌, inr, true, false, List, [], ◌∷◌, ◌++◌, Option, Some, None, Ok, Err, append-nil, arith}
use Rattle.std.specs.Io.KnownBytes.{Appends}
use Rattle.rbc_disk.specs.Held.{Held}
use Rattle.script_text.specs.Drill.{generated}
use Rattle.line_session.specs.Outside.{Outside}
use Rattle.line_session.specs.Session.{WritesFront}
use Rattle.line_session.specs.declared.status.Status.{Status}
use Rattle.line_session.specs.declared.status.Status.TheVariants as stream_statuses
use Rattle.drill_text.specs.Summary.{summary_text}
use Rattle.drill_text.specs.Tally.{TallyState}
use Rattle.sbp_command.specs.Drill.{DrillEnds, DrillWrites, RanDrill, SumsFirst}
use Rattle.sbp_command.specs.Headline.{ListingEnds, RomEnds, RunEnds, status_of}
use Rattle.sbp_command.specs.QueueEnds.{QueueEnds}
use Rattle.sbp_command.specs.Served.{Serves}
use Rattle.sbp_command.specs.TaskEnds.{TaskEnds}
use Rattle.script_runner.specs.Events.{events_of, journal, numbered_from}
use Rattle.script_runner.specs.Drilling.{Drilled}
use Rattle.script_runner.proofs.LegalScripts.{legal_scripts_law}
use Rattle.journal_text.proofs.Feeds.{trace_of_text}
use Rattle.sbp_command.proofs.Completing.{serves}
use Rattle.sbp_command.proofs.DrillEnds.{drill_ends, drill_good, drill_tallied}
use Rattle.sbp_command.proofs.Forms.{has_form}
use Rattle.sbp_command.proofs.LegalRuns.{run_legal}
use Rattle.sbp_command.proofs.Wires.{has_run}

-- ---- the summary

pub drill_summed : (seed count : ℕ) → 1 ≤ count → count ≤ 10000 → (start media now : Held) (tally : TallyState) (disk : Option ℕ) (old output : List ℕ) → Drilled start (generated seed count) tally media → SumsFirst disk media now → old ≡ []
    → output ≡ old ++ summary_text (record { seed = seed; count = count; tally = tally; disk = disk }) → RanDrill seed count start now output
drill_summed seed count asked commands start media now tally disk old output h s n e =
    let d = h.done in
    let lines = numbered_from 1 (generated seed count) in
    let events : events_of 1 d.run ≡ lines = sym (append-nil (events_of 1 d.run)) ∙ d.events_are in
    let ran = has_run 1 d.run start media h.world lines d.start_is d.units_are d.some d.most d.few (let entries = d.count in let few = h.few in omega (arith, entries, few)) events d.stands d.lines d.typed (run_legal 1 d.run lines events (legal_scripts_law.drills 1 seed count)) in
    let ends = drill_ends seed count asked commands ran in
    record {
      notes = journal d.run;
      media = media;
      disk = disk;
      ran = ran;
      ends = ends;
      counts = drill_tallied count ran.line ran.run (journal d.run) ran.notes_are ends;
      good = drill_good seed count now disk ran ends s;
      trace_is = trace_of_text (journal d.run) (has_form start media lines (journal d.run) ran);
      summed = s;
      output_is = e ∙ ap (λ lines. lines ++ summary_text (record { seed = seed; count = count; tally = tally; disk = disk })) n ∙ ap (λ t. summary_text (record { seed = seed; count = count; tally = t; disk = disk })) d.tally_is;
    }

-- ---- how it ends

pub drill_done : {A : Type 0} (seed count : ℕ) (a : A) (before now : Outside) (output : List ℕ) → RanDrill seed count before.media now.media output
    → WritesFront before.written now.written before.writes now.writes (Ok a) output → DrillWrites seed count (status_of stream_statuses.Done) before now
drill_done seed count a before now output h w = record {
  output = output;
  ran = h;
  written = subst (Appends before.written now.written) w.whole w.written;
  no_fault = w.ends;
}

pub drill_torn : {A : Type 0} (status : Status) (seed count : ℕ) (before now : Outside) (output : List ℕ) → RanDrill seed count before.media now.media output
    → WritesFront {A = A} before.written now.written before.writes now.writes (Err status) output → DrillWrites seed count (status_of status) before now
drill_torn stream_statuses.WriteFault seed count before now output h w = (w.ends, record { output = output; ran = h; len = w.len; written = w.written })
drill_torn stream_statuses.NoMemory seed count before now output h w = (w.ends, inr (record { output = output; ran = h; len = w.len; written = w.written }))
drill_torn stream_statuses.Done seed count before now output h w = absurd w.ends
drill_torn stream_statuses.Script seed count before now output h w = absurd w.ends
drill_torn stream_statuses.ReadFault seed count before now output h w = absurd w.ends

pub unwritten : (written : Option (List ℕ)) → Appends written written []
unwritten None = tt
unwritten (Some xs) = sym (append-nil xs)

-- ---- the words

pub other_words : {A : Type 0} (words : List (List ℕ)) (word : List ℕ) (seed count : ℕ) → words ≡ word ∷ [] → IsDrill words seed count → A
other_words words word seed count e h = let never : word ∷ [] ≡ codes "drill" ∷ decimal seed ∷ decimal count ∷ [] = sym e ∙ h.words_are in absurd (cc never)

-- the words give one seed and one number
pub same_drill : (words : List (List ℕ)) (seed count other more : ℕ) (status : CallStatus) (before now : Outside) → IsDrill words seed count → IsDrill words other more → DrillEnds seed count status before now → DrillEnds other more status before now
same_drill words seed count other more status before now h k d =
    let same : codes "drill" ∷ decimal seed ∷ decimal count ∷ [] ≡ codes "drill" ∷ decimal other ∷ decimal more ∷ [] = sym h.words_are ∙ k.words_are in
    let seeds : decimal seed ≡ decimal other = cc same in
    let counts : decimal count ≡ decimal more = cc same in
    let few : count < 2 ^ 64 = (let f = h.few in omega arith) in
    let more_few : more < 2 ^ 64 = (let f = k.few in omega arith) in
    subst (λ s. DrillEnds s more status before now) (decimal_injective seed other h.seed_fits k.seed_fits seeds)
    (subst (λ n. DrillEnds seed n status before now) (decimal_injective count more few more_few counts) d)

-- ---- what the words bring

-- words that are one word are no other one
apart : {A : Type 0} (words : List (List ℕ)) (a b : List ℕ) → bytes_eq a b ≡ false → words ≡ a ∷ [] → words ≡ b ∷ [] → A
apart words a b h e f =
    let same : a ∷ [] ≡ b ∷ [] = sym e ∙ f in
    let word : a ≡ b = cc same in
    let never : true ≡ false = sym ((bytes_eq-Decides a b).1 word) ∙ h in
    absurd (cc never)

pub serves_run : (words : List (List ℕ)) (status : CallStatus) (before now : Outside) → words ≡ codes "run" ∷ [] → RunEnds status before now → Serves words status before now
serves_run words status before now e r = serves (record {
  run = λ h. r;
  drill = λ seed count h. other_words words (codes "run") seed count e h;
  decode = λ h. apart words (codes "run") (codes "decode") refl e h;
  rom = λ h. apart words (codes "run") (codes "rom") refl e h;
  tasks = λ h. apart words (codes "run") (codes "tasks") refl e h;
  queue = λ h. apart words (codes "run") (codes "queue") refl e h;
  others = λ run drill decode rom tasks queue. absurd (run e);
})

pub serves_decode : (words : List (List ℕ)) (status : CallStatus) (before now : Outside) → words ≡ codes "decode" ∷ [] → ListingEnds status before now → Serves words status before now
serves_decode words status before now e r = serves (record {
  run = λ h. apart words (codes "decode") (codes "run") refl e h;
  drill = λ seed count h. other_words words (codes "decode") seed count e h;
  decode = λ h. r;
  rom = λ h. apart words (codes "decode") (codes "rom") refl e h;
  tasks = λ h. apart words (codes "decode") (codes "tasks") refl e h;
  queue = λ h. apart words (codes "decode") (codes "queue") refl e h;
  others = λ run drill decode rom tasks queue. absurd (decode e);
})

pub serves_rom : (words : List (List ℕ)) (status : CallStatus) (before now : Outside) → words ≡ codes "rom" ∷ [] → RomEnds status before now → Serves words status before now
serves_rom words status before now e r = serves (record {
  run = λ h. apart words (codes "rom") (codes "run") refl e h;
  drill = λ seed count h. other_words words (codes "rom") seed count e h;
  decode = λ h. apart words (codes "rom") (codes "decode") refl e h;
  rom = λ h. r;
  tasks = λ h. apart words (codes "rom") (codes "tasks") refl e h;
  queue = λ h. apart words (codes "rom") (codes "queue") refl e h;
  others = λ run drill decode rom tasks queue. absurd (rom e);
})

pub serves_tasks : (words : List (List ℕ)) (status : CallStatus) (before now : Outside) → words ≡ codes "tasks" ∷ [] → TaskEnds status before now → Serves words status before now
serves_tasks words status before now e r = serves (record {
  run = λ h. apart words (codes "tasks") (codes "run") refl e h;
  drill = λ seed count h. other_words words (codes "tasks") seed count e h;
  decode = λ h. apart words (codes "tasks") (codes "decode") refl e h;
  rom = λ h. apart words (codes "tasks") (codes "rom") refl e h;
  tasks = λ h. r;
  queue = λ h. apart words (codes "tasks") (codes "queue") refl e h;
  others = λ run drill decode rom tasks queue. absurd (tasks e);
})

pub serves_queue : (words : List (List ℕ)) (status : CallStatus) (before now : Outside) → words ≡ codes "queue" ∷ [] → QueueEnds status before now → Serves words status before now
serves_queue words status before now e r = serves (record {
  run = λ h. apart words (codes "queue") (codes "run") refl e h;
  drill = λ seed count h. other_words words (codes "queue") seed count e h;
  decode = λ h. apart words (codes "queue") (codes "decode") refl e h;
  rom = λ h. apart words (codes "queue") (codes "rom") refl e h;
  tasks = λ h. apart words (codes "queue") (codes "tasks") refl e h;
  queue = λ h. r;
  others = λ run drill decode rom tasks queue. absurd (queue e);
})

pub serves_drill : (words : List (List ℕ)) (seed count : ℕ) (status : CallStatus) (before now : Outside) → IsDrill words seed count → DrillEnds seed count status before now → Serves words status before now
serves_drill words seed count status before now d r = serves (record {
  run = λ h. other_words words (codes "run") seed count h d;
  drill = λ other more h. same_drill words seed count other more status before now d h r;
  decode = λ h. other_words words (codes "decode") seed count h d;
  rom = λ h. other_words words (codes "rom") seed count h d;
  tasks = λ h. other_words words (codes "tasks") seed count h d;
  queue = λ h. other_words words (codes "queue") seed count h d;
  others = λ run drill decode rom tasks queue. absurd (drill seed count d);
})
