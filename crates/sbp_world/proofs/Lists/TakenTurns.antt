-- Statuses are taken in the order of their ORBs, without a gap: where an ORB ended, the status block of each one before it was answered, so it was got, and taken.
use Rattle.sbp_world.proofs.Words.Std.{arith, ◌≡◌, ◌∙◌, refl, sym, ap, subst, ◌<◌, ℕ, nat_lt, Bool, true, false, List, [], ◌∷◌, ◌++◌, Option, Some, None, nat_tests, none-some}
use Rattle.sbp_world.proofs.Words.Wire.{SerialsCount, Moment, asked, said}
use Rattle.sbp_world.proofs.Words.Initiator.{is_fifo, StatusKind}
use Rattle.sbp_world.proofs.Words.Laws.{injectors, TakenStatus, last_got, present_list, taken_at, waits_in, ended_status, lists, EachMoment, EachTurn}
use Rattle.sbp_world.proofs.Words.World.{after, beginning, IsOfWire, more_deliveries, AllOfTarget, AllSentSo, AreStatuses, IsCalm, IsTakenBy, IsTakenSo, MayStand, SentSo, TakenOf, TakenSo, TakesDue, Under, WhereTameOrFew}
use Rattle.sbp_journal.specs.declared.note.Note.TheVariants as notes
use Rattle.sbp_world.specs.Lists.TakenTurns.{AnsweredLaw, EndsBehind, IgnoredSo, TakenTurnsLaw, TakesInOrder, WasAnswered, takes_in}
use Rattle.sbp_world.proofs.Hosts.Runs.{count_after, count_between}
use Rattle.sbp_world.proofs.Hosts.SentMoments.{WasSent, sent_moment}
use Rattle.sbp_world.proofs.Hosts.Statuses.Runs.{taking_law}
use Rattle.sbp_world.proofs.Lists.Clauses.{open_lists_law}
use Rattle.sbp_world.proofs.Lists.IgnoredSlots.{ignored_law}
use Rattle.sbp_world.proofs.Lists.ListsProved.{closing, sent_so}
use Rattle.sbp_world.proofs.Lists.LiveShort.{here_beside, placed_beside}
use Rattle.sbp_world.proofs.Lists.OverTies.{answered_on}
use Rattle.sbp_world.proofs.Lists.Passing.{PassLaw}
use Rattle.sbp_world.proofs.Lists.Rises.{Rises}
use Rattle.sbp_world.proofs.Lists.ShortLines.{short_law}
use Rattle.sbp_world.proofs.Lists.StatusKept.{statuses_of}
use Rattle.sbp_world.proofs.Lists.StatusKnown.{each_from, waits_so}
use Rattle.sbp_world.proofs.Lists.StatusLogins.{each_there}
use Rattle.sbp_world.proofs.Lists.StatusRuns.{Once, after_by, between_by}
use Rattle.sbp_world.proofs.Lists.TakenGots.{IsTold, not_served, told_from, turns_before}
use Rattle.sbp_world.proofs.Lists.TakenHistory.{WasEnded, counted, ended_moment, present_before}
use Rattle.sbp_world.proofs.Pointers.Proved.{moments_law}
use Rattle.sbp_world.proofs.Common.{delivers, itself, moments_split}

-- ---- a status that is taken is the next one of its list
module _ (wild : ℕ → Bool) (i : ℕ) (own : wild i ≡ false) where
  -- a status of the present list that was answered was taken
  module _ (past : List Moment) (told : IsTold wild past i) (turns : EachTurn (TakesDue i) past) (n k : ℕ) (a : WasAnswered past i n k) where
    -- as it was sent
    fifo : is_fifo a.writes.access.offset ≡ true
    fifo =
        let s : WasSent past a.serial a.packet = sent_moment past a.serial a.packet a.sent.is in
        let so = each_there (SentSo i) s.later _ s.before (subst (λ h. EachMoment (SentSo i) h) (sym s.is) told.sent) in
        (so a.sent.from_target a.sent.to_host a.slot a.block a.writes).fifo a.writes.access a.writes.is

    pub answered_taken : present_list past i ≡ Some n → taken_at past i n k ≡ None → ⊥
    answered_taken present untaken = not_served wild i own past told n k a.serial a.slot a.packet a.block a.sent a.writes a.of present untaken fifo turns a.closed

  -- where an ORB of the present list ended, no status before its own is untaken
  module _ (past : List Moment) (told : IsTold wild past i) (turns : EachTurn (TakesDue i) past) (behind : EachMoment (EndsBehind i) past) (n k : ℕ) (status : StatusKind) (present : present_list past i ≡ Some n) (ended : ended_status past i n k ≡ Some status) where
    abbrev w : WasEnded i past n k status
    w = ended_moment i past n k status ended

    abbrev end : Moment
    end = said (notes.Ended i (Some n) (Some k) status)

    abbrev front : List Moment
    front = w.later ++ end ∷ []

    whole : front ++ w.before ≡ past
    whole = sym (moments_split w.later (end ∷ []) w.before) ∙ w.is

    -- the list was present then
    had_begun : n < lists w.before i
    had_begun =
        let law : PassLaw wild (end ∷ w.before) = each_from _ w.later (end ∷ w.before) (subst (PassLaw wild) (sym w.is) told.known.passes) in
        let latest = (law.0 own).turn.still.latest in
        omega (arith, latest)

    present_then : present_list w.before i ≡ Some n
    present_then = present_before i n front w.before (subst (λ h. EachMoment (MayStand i) h) (sym whole) told.moments) had_begun (ap (λ h. present_list h i) whole ∙ present)

    none_untaken : (l : ℕ) → l < k → taken_at past i n l ≡ None → ⊥
    none_untaken l less untaken =
        let a : WasAnswered w.before i n l = each_there (EndsBehind i) w.later end w.before (subst (λ h. EachMoment (EndsBehind i) h) (sym w.is) behind) (itself i) present_then l less in
        let now : WasAnswered past i n l = subst (λ h. WasAnswered h i n l) whole (answered_on front w.before i n l (subst SerialsCount (sym whole) told.known.serials) a) in
        answered_taken past told turns n l now present untaken

  untaken : (past : List Moment) (n k : ℕ) → ((t : TakenStatus) → taken_at past i n k ≡ Some t → ⊥) → taken_at past i n k ≡ None
  untaken past n k none = by (taken_at past i n k) refl
    where
      by : (o : Option TakenStatus) → taken_at past i n k ≡ o → o ≡ None
      by None e = refl
      by (Some t) e = absurd (none t e)

  next_one : (past : List Moment) → IsTold wild past i → EachTurn (TakesDue i) past → EachMoment (EndsBehind i) past → EachMoment (TakesInOrder i) past → (n k : ℕ) (status : StatusKind) → waits_in past i n k ≡ true → ended_status past i n k ≡ Some status → k ≡ takes_in past i n
  next_one past told turns behind order n k status waits ended = by (nat_lt k (takes_in past i n)) (nat_lt (takes_in past i n) k) refl refl
    where
      by : (x y : Bool) → nat_lt k (takes_in past i n) ≡ x → nat_lt (takes_in past i n) k ≡ y → k ≡ takes_in past i n
      by true y e f =
          let low : k < takes_in past i n = grind (arith, nat_tests) in
          let t = (counted i past order n k).there low in
          absurd (none-some t.0 (sym (waits_so past i n k waits).none ∙ t.1))
      by false true e f =
          let low : takes_in past i n < k = grind (arith, nat_tests) in
          let none : (t : TakenStatus) → taken_at past i n (takes_in past i n) ≡ Some t → ⊥ = λ t h. let b = (counted i past order n (takes_in past i n)).below t h in omega (arith, b) in
          absurd (none_untaken past told turns behind n k status (waits_so past i n k waits).present ended (takes_in past i n) low (untaken past n (takes_in past i n) none))
      by false false e f = grind (arith, nat_tests)

  -- ---- a history
  module _ (all : List Moment) (told : IsTold wild all i) (turns : EachTurn (TakesDue i) all) (behind : EachMoment (EndsBehind i) all) where
    statuses : AreStatuses all i
    statuses = statuses_of wild i own all told.known.serials told.once told.known told.sent

    -- it is taken right behind the note that its packet was got
    got_next : (s : ℕ) (q later : List Moment) → later ++ said (notes.Got s) ∷ q ≡ all → EachMoment (TakesInOrder i) q → (n k : ℕ) (status : StatusKind) → waits_in (said (notes.Got s) ∷ q) i n k ≡ true → ended_status (said (notes.Got s) ∷ q) i n k ≡ Some status → k ≡ takes_in q i n
    got_next s q later is order n k status waits ended =
        let at : (later ++ said (notes.Got s) ∷ []) ++ q ≡ all = sym (moments_split later (said (notes.Got s) ∷ []) q) ∙ is in
        next_one q (told_from wild i (later ++ said (notes.Got s) ∷ []) q (subst (λ h. IsTold wild h i) (sym at) told)) (turns_before (TakesDue i) later s q [] (subst (λ h. EachTurn (TakesDue i) h) (sym is) turns))
        (each_from (EndsBehind i) (later ++ said (notes.Got s) ∷ []) q (subst (λ h. EachMoment (EndsBehind i) h) (sym at) behind)) order n k status waits ended

    taken_next : (past later : List Moment) → later ++ past ≡ all → EachMoment (TakesInOrder i) past → (n k : ℕ) (status : StatusKind) → IsTakenBy past i n k status → IsTakenSo past i n k status → k ≡ takes_in past i n
    taken_next past later is order n k status t so =
        subst (λ h. k ≡ takes_in h i n) (sym t.behind)
        (got_next (last_got past) t.before later (ap (λ h. later ++ h) (sym t.behind) ∙ is) (subst (λ h. EachMoment (TakesInOrder i) h) t.behind order).1 n k so.ended.status
        (subst (λ h. waits_in h i n k ≡ true) t.behind t.waits) (subst (λ h. ended_status h i n k ≡ Some so.ended.status) t.behind so.ended.is))

    one_next : (m : Moment) (past later : List Moment) → later ++ m ∷ past ≡ all → TakenOf i m past → TakenSo i m past → EachMoment (TakesInOrder i) past → TakesInOrder i m past
    one_next (said (notes.Taken j n k status answer)) past later is t so order =
        λ e. taken_next past (later ++ said (notes.Taken j n k status answer) ∷ []) (sym (moments_split later (said (notes.Taken j n k status answer) ∷ []) past) ∙ is) order n k status (t e) (so e)
    one_next (asked line event) past later is t so order = tt
    one_next (said note) past later is t so order = tt

    in_order : (past later : List Moment) → later ++ past ≡ all → EachMoment (TakenOf i) past → EachMoment (TakenSo i) past → EachMoment (TakesInOrder i) past
    in_order [] later is t so = tt
    in_order (m ∷ past) later is t so =
        let rest = in_order past (later ++ m ∷ []) (sym (moments_split later (m ∷ []) past) ∙ is) t.1 so.1 in
        (one_next m past later is t.0 so.0 rest, rest)

    pub takes_in_order : EachMoment (TakesInOrder i) all
    takes_in_order = in_order all [] refl told.known.takings statuses.taken

-- ---- of a run
-- what is left to be known of its history
record IsLeft (ms : List Moment) (i : ℕ) : Type 0 where
  turns : EachTurn (TakesDue i) ms
  moments : EachMoment (MayStand i) ms
  ignored : EachMoment (IgnoredSo i) ms
  behind : EachMoment (EndsBehind i) ms

abbrev TakesWhere : List Moment → ℕ → Type 0
TakesWhere ms i = IsLeft ms i → EachMoment (TakesInOrder i) ms

takes_where : (ms : List Moment) (i : ℕ) → IsCalm ms i → PassLaw (injectors ms) ms → IsOfWire ms → Once ms → Rises ms → EachMoment (TakenOf i) ms → AllOfTarget ms i → EachMoment (SentSo i) ms → TakesWhere ms i
takes_where ms i calm passes wire once rise takings sources sent l =
    takes_in_order (injectors ms) i calm ms
    (record {
      known = record { passes = passes; takings = takings; sources = sources; rises = rise; judged = wire.judged; serials = wire.serials };
      once = once;
      sent = sent;
      moments = l.moments;
      ignored = l.ignored;
    }) l.turns l.behind

pub all_sent : Under (WhereTameOrFew AllSentSo)
all_sent = sent_so (here_beside short_law) (placed_beside short_law)

-- where the status blocks of the ORBs before one that ends were answered
pub taken_turns_by : AnsweredLaw → TakenTurnsLaw
taken_turns_by answered = record {
  after_lines = λ line run r has small size tame i b calm.
      let so_far = closing.before open_lists_law line run r has small size tame in
      let here = subst (λ n. i < n) (sym (count_after run run.entries)) b in
      after_by line run r has small size TakesWhere takes_where so_far (all_sent.after_lines line run r has small size so_far tame) i here calm
      (record {
        turns = (taking_law.takings line run r i b).each;
        moments = moments_law.after_lines line run r i b;
        ignored = ignored_law.after_lines line run r has small size i here;
        behind = answered.after_lines line run r has small size so_far tame i here calm;
      });
  between = λ line run r has small size next most told m tame i b calm.
      let so_far = closing.between open_lists_law line run r has small size next (more_deliveries most) (delivers most) told m tame in
      let here = subst (λ n. i < n) (sym (count_between told (after (beginning run) run.entries) ∙ count_after run run.entries)) b in
      between_by line run r has small size next most told m TakesWhere takes_where so_far (all_sent.between line run r has small size next most told m so_far tame) i here calm
      (record {
        turns = (taking_law.between line run r next most told m i b).each;
        moments = moments_law.between line run r next most told m i b;
        ignored = ignored_law.between line run r has small size next most told m i here;
        behind = answered.between line run r has small size next most told m so_far tame i here calm;
      });
}
