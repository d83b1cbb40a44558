-- What a queue keeps is what the run terms of its world's history say.
use Rattle.std.proofs.Common.{◌≡◌, ◌∙◌, sym, ap, subst, refl, ℕ, zero, suc, ◌+◌, ◌==◌, ◌&&◌, nat_eq, nat_lt, Bool, true, false, cond, List, [], ◌∷◌, Option, Some, None, eqb-true}
use Rattle.sbp_base.specs.Update.{upd}
use Rattle.sbp_journal.specs.Run.{said, asked}
use Rattle.sbp_journal.specs.Wire.{noted}
use Rattle.sbp_journal.specs.declared.event.Action.TheVariants as actions
use Rattle.sbp_journal.specs.declared.event.Event.{Event}
use Rattle.sbp_journal.specs.declared.event.Event.TheVariants as events
use Rattle.sbp_journal.specs.declared.note.Note.{Note}
use Rattle.sbp_journal.specs.declared.note.Note.TheVariants as notes
use Rattle.sbp_journal.specs.declared.operation.Operation.{Operation}
use Rattle.sbp_journal.specs.declared.operation.Operation.TheVariants as operations
use Rattle.sbp_journal.specs.declared.operation.OpWord.{OpWord}
use Rattle.sbp_laws.specs.Actions.{list_for, new_list}
use Rattle.sbp_laws.specs.Hosts.{host_at, known_host, live, session_reset}
use Rattle.sbp_laws.specs.Lists.{present_list}
use Rattle.sbp_laws.specs.Terms.{appends, lists}
use Rattle.sbp_laws.specs.Turns.{event_of}
use Rattle.retry_queue.specs.Heard.{HeardAt, KeptLaw}
use Rattle.retry_queue.specs.Journals.{BroughtAt}
use Rattle.retry_queue.specs.Kept.{Kept, appended, asked_in, dropped, ended, kept, learned, seen, sent, stuck, taken}
use Rattle.retry_queue.specs.Known.{Known, known}
use Rattle.retry_queue.specs.Steps.{Step, of_world, submitted, idled, told, EachStep, world}
use Rattle.retry_queue.proofs.Cases.{not_first, not_own}
use Rattle.retry_queue.proofs.Counting.{Counts, grows_present, list_begins, list_drops, list_grows, status_taken}
use Rattle.retry_queue.proofs.Generations.{IsNoSight, noted_same, opened_same}
use Rattle.retry_queue.proofs.Order.{waits_so}
use Rattle.retry_queue.proofs.Hearing.{Fits, ReadsNoState, Sends, fits_note}

-- ---- notes that say nothing of submissions, or of generations

record Still (k now : Kept) : Type 0 where
  done : now.done ≡ k.done
  next : now.next ≡ k.next
  first : now.first ≡ k.first

still : (k : Kept) → Still k k
still k = record { done = refl; next = refl; first = refl }

still_if : (b : Bool) (k now : Kept) → Still k now → Still k (cond b now k)
still_if true k now s = s
still_if false k now s = still k

sent_still : (operation : Option Operation) (k : Kept) → Still k (sent operation k)
sent_still None k = still k
sent_still (Some operation) k = record { done = refl; next = refl; first = refl }

ended_still : (operation : Operation) (word : OpWord) (k : Kept) → Still k (ended operation word k)
ended_still operations.State word k = still k
ended_still _ word k = record { done = refl; next = refl; first = refl }

seen_still : (generation : ℕ) (k : Kept) → Still k (seen generation k)
seen_still generation k = by (generation == k.generation)
  where
    by : (t : Bool) → Still k (cond t k (record k { session = session_reset k.session; is_busy = false; generation = generation }))
    by true = still k
    by false = record { done = refl; next = refl; first = refl }

abbrev CountsNothing : Note → Type 0
CountsNothing (notes.Append i n k cdb buffer) = ⊥
CountsNothing (notes.Drop i n) = ⊥
CountsNothing (notes.Taken i n k status answer) = ⊥
CountsNothing _ = Unit {0}

learns_still : (operation : Option Operation) (note : Note) (k : Kept) → CountsNothing note → Still k (learned operation note k)
learns_still operation (notes.Begin initiators ready) k h =
    still_if (ready && nat_lt 0 initiators) k (record k { session = live; is_busy = false; is_dead = false }) (record { done = refl; next = refl; first = refl })
learns_still operation (notes.Sent serial generation from to bytes) k h = still_if (from == 1) k (sent operation k) (sent_still operation k)
learns_still operation (notes.Op i ending word) k h = still_if (i == 0) k (ended ending word k) (ended_still ending word k)
learns_still operation (notes.Stuck i) k h = still_if (i == 0) k (stuck k) (record { done = refl; next = refl; first = refl })
learns_still operation (notes.Append i n m cdb buffer) k h = absurd h
learns_still operation (notes.Drop i n) k h = absurd h
learns_still operation (notes.Taken i n m status answer) k h = absurd h
learns_still operation (notes.Seen node generation) k h = still_if (node == 1) k (seen generation k) (seen_still generation k)
learns_still operation _ k h = still k

counts_still : (k now : Kept) (facts : Known) (present : Option ℕ) (counted : ℕ → ℕ) → Still k now → Counts k facts present counted → Counts now facts present counted
counts_still k now facts present counted s c = record {
  done = s.done ∙ c.done;
  next = s.next ∙ c.next;
  first = λ n e. s.first ∙ c.first n e;
}

generation_if : (b : Bool) (k now : Kept) → now.generation ≡ k.generation → (cond b now k).generation ≡ k.generation
generation_if true k now e = e
generation_if false k now e = refl

sent_generation : (operation : Option Operation) (k : Kept) → (sent operation k).generation ≡ k.generation
sent_generation None k = refl
sent_generation (Some operation) k = refl

ended_generation : (operation : Operation) (word : OpWord) (k : Kept) → (ended operation word k).generation ≡ k.generation
ended_generation operations.State word k = refl
ended_generation _ word k = refl

appended_generation : (m : ℕ) (k : Kept) → (appended m k).generation ≡ k.generation
appended_generation m k = by (m == 0)
  where
    by : (t : Bool) → (cond t (record k { is_dead = false; first = k.done; next = k.done + 1 }) (record k { next = k.next + 1 })).generation ≡ k.generation
    by true = refl
    by false = refl

learns_generation : (operation : Option Operation) (note : Note) (k : Kept) → IsNoSight note → (learned operation note k).generation ≡ k.generation
learns_generation operation (notes.Begin initiators ready) k h =
    generation_if (ready && nat_lt 0 initiators) k (record k { session = live; is_busy = false; is_dead = false }) refl
learns_generation operation (notes.Sent serial generation from to bytes) k h = generation_if (from == 1) k (sent operation k) (sent_generation operation k)
learns_generation operation (notes.Op i ending word) k h = generation_if (i == 0) k (ended ending word k) (ended_generation ending word k)
learns_generation operation (notes.Stuck i) k h = generation_if (i == 0) k (stuck k) refl
learns_generation operation (notes.Append i n m cdb buffer) k h = generation_if (i == 0) k (appended m k) (appended_generation m k)
learns_generation operation (notes.Drop i n) k h = generation_if (i == 0) k (dropped k) refl
learns_generation operation (notes.Taken i n m status answer) k h = generation_if (i == 0) k (taken status k) refl
learns_generation operation (notes.Seen node generation) k h = absurd h
learns_generation operation _ k h = refl

-- a reset that a node sees
sees : (node generation : ℕ) (k : Kept) (own : ℕ → ℕ) → k.generation ≡ own 1 → (cond (node == 1) (seen generation k) k).generation ≡ upd own node generation 1
sees node generation k own e = by (node == 1) refl (nat_eq 1 node) refl
  where
    now : (t : Bool) → (generation == k.generation) ≡ t → (cond t k (record k { session = session_reset k.session; is_busy = false; generation = generation })).generation ≡ generation
    now true q = sym (eqb-true generation k.generation q)
    now false q = refl

    by : (t : Bool) → (node == 1) ≡ t → (u : Bool) → nat_eq 1 node ≡ u → (cond t (seen generation k) k).generation ≡ cond u generation (own 1)
    by true p true q = now (generation == k.generation) refl
    by true p false q = absurd (let one : node ≡ 1 = eqb-true node 1 p in let same : nat_eq 1 node ≡ true = ap (nat_eq 1) one in cc (sym q ∙ same))
    by false p true q = absurd (let one : 1 ≡ node = eqb-true 1 node q in let same : (node == 1) ≡ true = ap (λ n. n == 1) (sym one) in cc (sym p ∙ same))
    by false p false q = e

-- ---- the fold

record Whole (past : List Step) : Type 0 where
  fits : Fits (kept past) (host_at (world past) 0)
  generation : (kept past).generation ≡ (known_host (world past) 0).wire.generation 1
  counts : Counts (kept past) (known past) (present_list (world past) 0) (appends (world past) 0)
  quiet : ReadsNoState (event_of (world past))

quiet_line : (line : ℕ) (event : Event) (past : List Step) → HeardAt (of_world (asked line event)) past → ReadsNoState (Some event)
quiet_line line (events.Act i actions.State) past h = h
quiet_line line _ past h = tt

sends : (note : Note) (past : List Step) → HeardAt (of_world (said note)) past → Sends (world past) (known_host (world past) 0).wire note
sends (notes.Sent serial generation from to bytes) past h = h
sends _ past h = tt

generation_other : (note : Note) (past : List Step) → IsNoSight note → Whole past → (learned (asked_in (event_of (world past))) note (kept past)).generation ≡ (noted note (known_host (world past) 0).wire).generation 1
generation_other note past h a =
    learns_generation (asked_in (event_of (world past))) note (kept past) h
    ∙ a.generation
    ∙ sym (ap (λ own. own 1) (noted_same note (known_host (world past) 0).wire h))

generation_note : (note : Note) (past : List Step) → Whole past → (learned (asked_in (event_of (world past))) note (kept past)).generation ≡ (noted note (known_host (world past) 0).wire).generation 1
generation_note (notes.Seen node generation) past a = sees node generation (kept past) (known_host (world past) 0).wire.generation a.generation
generation_note (notes.Begin initiators ready) past a = generation_other (notes.Begin initiators ready) past tt a
generation_note (notes.Append initiator list orb cdb buffer) past a = generation_other (notes.Append initiator list orb cdb buffer) past tt a
generation_note (notes.Low initiator list orb) past a = generation_other (notes.Low initiator list orb) past tt a
generation_note (notes.Linked initiator list orb) past a = generation_other (notes.Linked initiator list orb) past tt a
generation_note (notes.Rung initiator list orb) past a = generation_other (notes.Rung initiator list orb) past tt a
generation_note (notes.Dummied initiator list orb) past a = generation_other (notes.Dummied initiator list orb) past tt a
generation_note (notes.Sent serial generation from to bytes) past a = generation_other (notes.Sent serial generation from to bytes) past tt a
generation_note (notes.Injected serial) past a = generation_other (notes.Injected serial) past tt a
generation_note (notes.Got serial) past a = generation_other (notes.Got serial) past tt a
generation_note (notes.Ignored serial cause) past a = generation_other (notes.Ignored serial cause) past tt a
generation_note (notes.Lost serial) past a = generation_other (notes.Lost serial) past tt a
generation_note (notes.TimedOut serial) past a = generation_other (notes.TimedOut serial) past tt a
generation_note (notes.Ran initiator list orb unit cdb bytes check) past a = generation_other (notes.Ran initiator list orb unit cdb bytes check) past tt a
generation_note (notes.Ended initiator list orb status) past a = generation_other (notes.Ended initiator list orb status) past tt a
generation_note (notes.Taken initiator list orb status answer) past a = generation_other (notes.Taken initiator list orb status answer) past tt a
generation_note (notes.Cut initiator list cause) past a = generation_other (notes.Cut initiator list cause) past tt a
generation_note (notes.Dead initiator list cause) past a = generation_other (notes.Dead initiator list cause) past tt a
generation_note (notes.Drop initiator list) past a = generation_other (notes.Drop initiator list) past tt a
generation_note (notes.Managed initiator function subject status login) past a = generation_other (notes.Managed initiator function subject status login) past tt a
generation_note (notes.ManageFailed initiator cause) past a = generation_other (notes.ManageFailed initiator cause) past tt a
generation_note (notes.Held login) past a = generation_other (notes.Held login) past tt a
generation_note (notes.Expired login) past a = generation_other (notes.Expired login) past tt a
generation_note (notes.Back login) past a = generation_other (notes.Back login) past tt a
generation_note (notes.Left login) past a = generation_other (notes.Left login) past tt a
generation_note (notes.Cleared unit) past a = generation_other (notes.Cleared unit) past tt a
generation_note (notes.Op initiator operation word) past a = generation_other (notes.Op initiator operation word) past tt a
generation_note (notes.Stuck initiator) past a = generation_other (notes.Stuck initiator) past tt a
generation_note (notes.Reset generation) past a = generation_other (notes.Reset generation) past tt a
generation_note notes.Tick past a = generation_other notes.Tick past tt a
generation_note (notes.Refused line number) past a = generation_other (notes.Refused line number) past tt a
generation_note notes.Settled past a = generation_other notes.Settled past tt a
generation_note notes.Stopped past a = generation_other notes.Stopped past tt a
generation_note (notes.Key unit) past a = generation_other (notes.Key unit) past tt a
generation_note (notes.Unsolicited initiator) past a = generation_other (notes.Unsolicited initiator) past tt a
generation_note (notes.Unsent initiator) past a = generation_other (notes.Unsent initiator) past tt a
generation_note (notes.Told initiator) past a = generation_other (notes.Told initiator) past tt a

counts_other : (note : Note) (past : List Step) → CountsNothing note → known (of_world (said note) ∷ past) ≡ known past → present_list (said note ∷ world past) ≡ present_list (world past) → appends (said note ∷ world past) ≡ appends (world past) → Whole past → Counts (learned (asked_in (event_of (world past))) note (kept past)) (known (of_world (said note) ∷ past)) (present_list (said note ∷ world past) 0) (appends (said note ∷ world past) 0)
counts_other note past h facts present counted a =
    let k = learned (asked_in (event_of (world past))) note (kept past) in
    subst (λ f. Counts k f (present_list (said note ∷ world past) 0) (appends (said note ∷ world past) 0)) (sym facts)
    (subst (λ p. Counts k (known past) (p 0) (appends (said note ∷ world past) 0)) (sym present)
    (subst (λ c. Counts k (known past) (present_list (world past) 0) (c 0)) (sym counted)
    (counts_still (kept past) k (known past) (present_list (world past) 0) (appends (world past) 0) (learns_still (asked_in (event_of (world past))) note (kept past) h) a.counts)))

-- a list is dropped, of this initiator or of another one
dropped_by : (i : ℕ) (k : Kept) (facts : Known) (present : Option ℕ) (counted : ℕ → ℕ) → Counts k facts present counted → (t : Bool) → (i == 0) ≡ t → (u : Bool) → nat_eq 0 i ≡ u → Counts (cond t (dropped k) k) facts (cond u None present) counted
dropped_by i k facts present counted c true p true q = list_drops k facts present counted c
dropped_by i k facts present counted c true p false q =
    absurd (let zero_is : i ≡ 0 = eqb-true i 0 p in let same : nat_eq 0 i ≡ true = ap (nat_eq 0) zero_is in cc (sym q ∙ same))
dropped_by i k facts present counted c false p true q =
    absurd (let zero_is : 0 ≡ i = eqb-true 0 i q in let same : (i == 0) ≡ true = ap (λ n. n == 0) (sym zero_is) in cc (sym p ∙ same))
dropped_by i k facts present counted c false p false q = c

counts_note : (note : Note) (past : List Step) → BroughtAt (of_world (said note)) past → Whole past → Counts (learned (asked_in (event_of (world past))) note (kept past)) (known (of_world (said note) ∷ past)) (present_list (said note ∷ world past) 0) (appends (said note ∷ world past) 0)
counts_note (notes.Append zero n zero cdb buffer) past b a =
    list_begins n (kept past) (known past) (present_list (world past) 0) (appends (world past) 0) b.next.number a.counts
counts_note (notes.Append zero n (suc j) cdb buffer) past b a =
    let is = grows_present j n (lists (world past) 0) (present_list (world past) 0) (new_list (world past) 0) (λ e. ap (list_for (world past) 0) e) (λ m e. ap (list_for (world past) 0) e) b.list b.next.list in
    list_grows j n (kept past) (known past) (present_list (world past) 0) (appends (world past) 0) is a.counts
counts_note (notes.Append (suc i) n k cdb buffer) past b a = absurd (not_own i b.own)
counts_note (notes.Drop i n) past b a =
    dropped_by i (kept past) (known past) (present_list (world past) 0) (appends (world past) 0) a.counts (i == 0) refl (nat_eq 0 i) refl
counts_note (notes.Taken zero n k status answer) past b a =
    status_taken n k status (kept past) (known past) (present_list (world past) 0) (appends (world past) 0) (waits_so (world past) n k b).present a.counts
counts_note (notes.Taken (suc i) n k status answer) past b a =
    subst (λ now. Counts now (known past) (present_list (world past) 0) (appends (world past) 0)) (sym (not_first i (taken status (kept past)) (kept past))) a.counts
counts_note (notes.Begin initiators ready) past b a = counts_other (notes.Begin initiators ready) past tt refl refl refl a
counts_note (notes.Low initiator list orb) past b a = counts_other (notes.Low initiator list orb) past tt refl refl refl a
counts_note (notes.Linked initiator list orb) past b a = counts_other (notes.Linked initiator list orb) past tt refl refl refl a
counts_note (notes.Rung initiator list orb) past b a = counts_other (notes.Rung initiator list orb) past tt refl refl refl a
counts_note (notes.Dummied initiator list orb) past b a = counts_other (notes.Dummied initiator list orb) past tt refl refl refl a
counts_note (notes.Sent serial generation from to bytes) past b a = counts_other (notes.Sent serial generation from to bytes) past tt refl refl refl a
counts_note (notes.Injected serial) past b a = counts_other (notes.Injected serial) past tt refl refl refl a
counts_note (notes.Got serial) past b a = counts_other (notes.Got serial) past tt refl refl refl a
counts_note (notes.Ignored serial cause) past b a = counts_other (notes.Ignored serial cause) past tt refl refl refl a
counts_note (notes.Lost serial) past b a = counts_other (notes.Lost serial) past tt refl refl refl a
counts_note (notes.TimedOut serial) past b a = counts_other (notes.TimedOut serial) past tt refl refl refl a
counts_note (notes.Ran initiator list orb unit cdb bytes check) past b a = counts_other (notes.Ran initiator list orb unit cdb bytes check) past tt refl refl refl a
counts_note (notes.Ended initiator list orb status) past b a = counts_other (notes.Ended initiator list orb status) past tt refl refl refl a
counts_note (notes.Cut initiator list cause) past b a = counts_other (notes.Cut initiator list cause) past tt refl refl refl a
counts_note (notes.Dead initiator list cause) past b a = counts_other (notes.Dead initiator list cause) past tt refl refl refl a
counts_note (notes.Managed initiator function subject status login) past b a = counts_other (notes.Managed initiator function subject status login) past tt refl refl refl a
counts_note (notes.ManageFailed initiator cause) past b a = counts_other (notes.ManageFailed initiator cause) past tt refl refl refl a
counts_note (notes.Held login) past b a = counts_other (notes.Held login) past tt refl refl refl a
counts_note (notes.Expired login) past b a = counts_other (notes.Expired login) past tt refl refl refl a
counts_note (notes.Back login) past b a = counts_other (notes.Back login) past tt refl refl refl a
counts_note (notes.Left login) past b a = counts_other (notes.Left login) past tt refl refl refl a
counts_note (notes.Cleared unit) past b a = counts_other (notes.Cleared unit) past tt refl refl refl a
counts_note (notes.Op initiator operation word) past b a = counts_other (notes.Op initiator operation word) past tt refl refl refl a
counts_note (notes.Stuck initiator) past b a = counts_other (notes.Stuck initiator) past tt refl refl refl a
counts_note (notes.Reset generation) past b a = counts_other (notes.Reset generation) past tt refl refl refl a
counts_note (notes.Seen node generation) past b a = counts_other (notes.Seen node generation) past tt refl refl refl a
counts_note notes.Tick past b a = counts_other notes.Tick past tt refl refl refl a
counts_note (notes.Refused line number) past b a = counts_other (notes.Refused line number) past tt refl refl refl a
counts_note notes.Settled past b a = counts_other notes.Settled past tt refl refl refl a
counts_note notes.Stopped past b a = counts_other notes.Stopped past tt refl refl refl a
counts_note (notes.Key unit) past b a = counts_other (notes.Key unit) past tt refl refl refl a
counts_note (notes.Unsolicited initiator) past b a = counts_other (notes.Unsolicited initiator) past tt refl refl refl a
counts_note (notes.Unsent initiator) past b a = counts_other (notes.Unsent initiator) past tt refl refl refl a
counts_note (notes.Told initiator) past b a = counts_other (notes.Told initiator) past tt refl refl refl a

whole : (past : List Step) → EachStep BroughtAt past → EachStep HeardAt past → Whole past
whole [] b h = record {
  fits = record { session = refl; busy = refl; dead = refl; reads = refl };
  generation = refl;
  counts = record { done = refl; next = refl; first = λ n e. absurd (cc e) };
  quiet = tt;
}
whole (submitted lba bytes ∷ past) b h =
    let a = whole past b.1 h.1 in record { fits = a.fits; generation = a.generation; counts = a.counts; quiet = a.quiet }
whole (idled ∷ past) b h =
    let a = whole past b.1 h.1 in record { fits = a.fits; generation = a.generation; counts = a.counts; quiet = a.quiet }
whole (told number status ∷ past) b h =
    let a = whole past b.1 h.1 in record { fits = a.fits; generation = a.generation; counts = a.counts; quiet = a.quiet }
whole (of_world (asked line event) ∷ past) b h =
    let a = whole past b.1 h.1 in
    record {
      fits = a.fits;
      generation = a.generation ∙ sym (ap (λ own. own 1) (opened_same event (known_host (world past) 0).wire));
      counts = a.counts;
      quiet = quiet_line line event past h.0;
    }
whole (of_world (said note) ∷ past) b h =
    let a = whole past b.1 h.1 in
    record {
      fits = fits_note (world past) (known_host (world past) 0).wire (kept past) (host_at (world past) 0) a.fits note a.generation a.quiet (sends note past h.0);
      generation = generation_note note past a;
      counts = counts_note note past b.0 a;
      quiet = a.quiet;
    }

pub kept_law : KeptLaw
kept_law past b h =
    let a = whole past b h in
    record {
      session = a.fits.session;
      busy = a.fits.busy;
      dead = a.fits.dead;
      done = a.counts.done;
      next = a.counts.next;
      first = a.counts.first;
    }
