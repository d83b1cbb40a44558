-- The buffer and the data of each command that runs, of an initiator that injected no packets, are those by all that the target got of the initiator since the response that brought its ORB, where the
-- others begin elsewhere than in the page table and the buffer of its slot.
use Rattle.sbp_world.proofs.Words.Std.{arith, ◌≡◌, ◌∙◌, refl, sym, ap, subst, ℕ, suc, Bool, false, append_assoc, List, [], ◌∷◌, ◌++◌, map, Option, Some, None, cond}
use Rattle.sbp_world.proofs.Words.Wire.{AreJudged, Moment, asked, said, Sending, terms, Note}
use Rattle.sbp_world.proofs.Words.Target.{limit_of, Disk}
use Rattle.sbp_world.proofs.Words.Initiator.{CommandOrb, Segment, bytes_of, chunks, single, elements_of}
use Rattle.sbp_world.proofs.Words.Laws.{Moved, address_of, buffer_in, joined, orb_read, read_at, reads_since, slot_at, answered_at, receiver_in, sender_in, plan_of, request_at, EachMoment, injectors}
use Rattle.sbp_world.proofs.Words.World.{history_of, after, beginning, after_all, begun, more_deliveries, OpenListsLaw, RunIsNamedFed, IsCalm, AreBeside, AreOwnOrOthers, RunIsFed, RunIsSince, RunsSinceLaw, SinceAt, own_reads, NoneAgain}
use Rattle.std.specs.Prelude.{IsSomeAnd}
use Rattle.sbp_journal.specs.declared.note.Note.TheVariants as notes
use Rattle.sbp_world.specs.Lists.FedRuns.{AreOthers}
use Rattle.sbp_world.proofs.Lists.Fair.{Told, told_before, told_everywhere}
use Rattle.sbp_world.proofs.Lists.Calm.{calm_before}
use Rattle.sbp_world.proofs.Lists.Executes.{NamedRun, OpensBeside, opens_before, runs_named}
use Rattle.sbp_world.proofs.Lists.FedOnce.{got_once, judged_everywhere}
use Rattle.sbp_world.proofs.Lists.FedSince.{beside_law}
use Rattle.sbp_world.proofs.Lists.ListsProved.{closing}
use Rattle.sbp_world.proofs.Lists.ManageTerms.{same_some}
use Rattle.sbp_world.proofs.Lists.WasReads.{orb_is}
use Rattle.sbp_world.proofs.Lists.StatusKnown.{judged_less as judged_before}

-- ---- moments in two parts
none_front : (r : ℕ) (a b : List Moment) → NoneAgain r (a ++ b) → NoneAgain r a
none_front r [] b n = tt
none_front r (asked line event ∷ a) b n = none_front r a b n
none_front r (said note ∷ a) b n = by note n (λ m. none_front r a b m)
  where
    by : (note : Note) → NoneAgain r (said note ∷ (a ++ b)) → (NoneAgain r (a ++ b) → NoneAgain r a) → NoneAgain r (said note ∷ a)
    by (notes.Got serial) n again = (n.0, again n.1)
    by note n again = again n

none_behind : (r : ℕ) (a b : List Moment) → NoneAgain r (a ++ b) → NoneAgain r b
none_behind r [] b n = n
none_behind r (asked line event ∷ a) b n = none_behind r a b n
none_behind r (said note ∷ a) b n = by note n (λ m. none_behind r a b m)
  where
    by : (note : Note) → NoneAgain r (said note ∷ (a ++ b)) → (NoneAgain r (a ++ b) → NoneAgain r b) → NoneAgain r b
    by (notes.Got serial) n again = again n.1
    by note n again = again n

record IsAsking (found : Option Sending) (i : ℕ) : Type 0 where
  asking : Sending
  is : found ≡ Some asking
  from : asking.from ≡ 0
  to : asking.to ≡ suc i

asking_by : (found : Option Sending) (i : ℕ) → sender_in found ≡ Some 0 → receiver_in found ≡ Some (suc i) → IsAsking found i
asking_by None i e f = absurd (let x : None ≡ Some 0 = e in cc)
asking_by (Some asking) i e f = record { asking = asking; is = refl; from = same_some asking.from 0 e; to = same_some asking.to (suc i) f }

-- of no pieces nothing is joined
no_pieces : (all : List Moved) → joined [] all ≡ []
no_pieces [] = refl
no_pieces (one ∷ all) = no_pieces all

-- ---- at a run
-- the read that brought its ORB went to its initiator
abbrev pub HasAskedIt : (start : List Disk) (past : List Moment) (i n k : ℕ) (bytes : List ℕ) → RunIsFed start past i n k bytes → Type 0
HasAskedIt start past i n k bytes fed = receiver_in ((terms fed.brought.earlier).sent fed.brought.request) ≡ Some (suc i)

pub fed_asked : (start : List Disk) (past : List Moment) (i n k : ℕ) (bytes : List ℕ) (e : RunIsNamedFed start past i n k bytes) → HasAskedIt start past i n k bytes e.fed
fed_asked start past i n k bytes e =
    let a = e.fed.brought in
    let b = e.named.named.brought in
    let same : a.request ≡ b.request =
    same_some a.request b.request (sym a.closed ∙ (ap (λ ms. answered_at (terms ms) a.response) e.earlier ∙ (ap (λ serial. answered_at (terms b.earlier) serial) e.response ∙ b.closed))) in
    ap (λ ms. receiver_in ((terms ms).sent a.request)) e.earlier
    ∙ (ap (λ serial. receiver_in ((terms b.earlier).sent serial)) same ∙ (e.named.named.to ∙ ap (λ x. Some (suc x)) e.named.initiator))

module _ (start : List Disk) (past : List Moment) (f : Told past) (j : AreJudged past) (i n k : ℕ) (bytes : List ℕ) (calm : IsCalm past i) (fed : RunIsFed start past i n k bytes) (asked_it : HasAskedIt start past i n k bytes fed) where
  abbrev r : ℕ
  r = fed.brought.response

  abbrev behind : List Moment
  behind = said (notes.Got r) ∷ fed.brought.earlier

  abbrev slot : ℕ
  slot = slot_at past i n k

  once : NoneAgain r (fed.later ++ fed.between)
  once =
      let own = asking_by ((terms fed.brought.earlier).sent fed.brought.request) i fed.brought.asked.from asked_it in
      got_once past f j (fed.later ++ fed.between) fed.brought.earlier r fed.brought.request own.asking (append_assoc fed.later fed.between behind ∙ fed.is) fed.brought.closed own.is
      (λ a e. absurd (let x = own.from in omega (arith, x, e))) (λ a e. subst (IsCalm past) (let x = own.to in omega (arith, x, e)) calm)

  beside : AreOthers i slot fed.between behind → AreOwnOrOthers start i fed.place slot fed.later (fed.between ++ behind) → AreBeside slot (reads_since past i r) fed.reads
  beside o p =
      subst (λ xs. AreBeside slot (reads_since past i r) xs) (sym fed.reads_are)
      (subst (λ ms. AreBeside slot (reads_since ms i r) (own_reads start fed.place fed.later (fed.between ++ behind))) fed.is
      (beside_law start i fed.place slot r fed.later fed.between fed.brought.earlier (none_front r fed.later fed.between once) (none_behind r fed.later fed.between once) o p))

  abbrev Whole : CommandOrb → Type 0
  Whole orb = IsSomeAnd (request_at past i n k) (λ request. bytes_of (buffer_in orb (reads_since past i r)) ≡ (plan_of request.buffer).bytes) × (bytes ≡ joined (chunks (limit_of orb) (buffer_in orb (reads_since past i r))) (reads_since past i r))

  -- an ORB without a page table
  plain_buffer : (all : List Moved) → fed.orb.has_table ≡ false → buffer_in fed.orb all ≡ single fed.orb.descriptor fed.orb.data_size
  plain_buffer all e = ap (λ b. cond b (elements_of (read_at fed.orb.descriptor all)) (single fed.orb.descriptor fed.orb.data_size)) e

  plain_size : fed.orb.has_table ≡ false → IsSomeAnd (request_at past i n k) (λ request. bytes_of (buffer_in fed.orb (reads_since past i r)) ≡ (plan_of request.buffer).bytes)
  plain_size e =
      subst (λ (xs : List Segment). IsSomeAnd (request_at past i n k) (λ request. bytes_of xs ≡ (plan_of request.buffer).bytes)) (plain_buffer fed.reads e ∙ sym (plain_buffer (reads_since past i r) e)) fed.size

  -- and without a buffer
  nothing_joined : (all : List Moved) → fed.orb.has_table ≡ false → fed.orb.data_size ≡ 0 → joined (chunks (limit_of fed.orb) (buffer_in fed.orb all)) all ≡ []
  nothing_joined all e z = ap (λ (xs : List Segment). joined (chunks (limit_of fed.orb) xs) all) (plain_buffer all e ∙ ap (λ size. single fed.orb.descriptor size) z) ∙ no_pieces all

  no_data : fed.orb.has_table ≡ false → fed.orb.data_size ≡ 0 → bytes ≡ joined (chunks (limit_of fed.orb) (buffer_in fed.orb (reads_since past i r))) (reads_since past i r)
  no_data e z = fed.payloads ∙ nothing_joined fed.reads e z ∙ sym (nothing_joined (reads_since past i r) e z)

  abbrev read_is : orb_read past r ≡ fed.orb
  read_is = orb_is start past fed.place (address_of past i n k) fed.orb fed.brought f.counts

  pub run_since : RunIsSince start past i n k bytes
  run_since = record {
    fed = fed;
    whole = λ o p. let b = beside o p in subst Whole (sym read_is) (fed.size_beside (reads_since past i r) b, fed.payloads_beside (reads_since past i r) b);
    plain = subst (λ (orb : CommandOrb). orb.has_table ≡ false → IsSomeAnd (request_at past i n k) (λ request. bytes_of (buffer_in orb (reads_since past i r)) ≡ (plan_of request.buffer).bytes)) (sym read_is) plain_size;
    empty = subst (λ (orb : CommandOrb). orb.has_table ≡ false → orb.data_size ≡ 0 → bytes ≡ joined (chunks (limit_of orb) (buffer_in orb (reads_since past i r))) (reads_since past i r)) (sym read_is) no_data;
  }

  pub since_fed : run_since.fed ≡ fed
  unfolding run_since
  since_fed = refl

-- ---- at each moment
module _ (wild : ℕ → Bool) (start : List Disk) where
  moment_since : (m : Moment) (past : List Moment) → OpensBeside past → ((i : ℕ) → wild i ≡ false → IsCalm past i) → Told past → AreJudged past → NamedRun wild start m past → SinceAt wild start m past
  moment_since (said (notes.Ran i (Some n) (Some k) unit cdb bytes check)) past so calm f j e = λ own.
      let x = e so own in
      run_since start past f j i n k bytes (calm i own) x.fed (fed_asked start past i n k bytes x)
  moment_since m past so calm f j e = tt

  all_since : (past : List Moment) → OpensBeside past → ((i : ℕ) → wild i ≡ false → IsCalm past i) → Told past → AreJudged past → EachMoment (NamedRun wild start) past → EachMoment (SinceAt wild start) past
  all_since [] so calm f j e = tt
  all_since (m ∷ past) so calm f j e =
      let g = told_before m past f in
      let q = judged_before m past j in
      let before = opens_before (m ∷ []) past so in
      let quiet : (i : ℕ) → wild i ≡ false → IsCalm past i = λ i own. calm_before (m ∷ []) past i (calm i own) in
      (moment_since m past before quiet g q e.0, all_since past before quiet g q e.1)

pub runs_since_law : OpenListsLaw → RunsSinceLaw
runs_since_law lists = record {
  after_lines = λ line run r has small size so_far beside.
      let past = history_of line run in
      all_since (injectors past) run.start.disks past (closing, lists, beside) (λ i own. own) (told_everywhere.after_lines line run r has small size so_far) (judged_everywhere.after_lines line run r has small size so_far)
      (runs_named.after_lines line run r has small size so_far);
  between = λ line run r has small size next most told m so_far beside.
      let now = map said (after_all told (begun (after (beginning run) run.entries))).world.fresh ++ asked next (more_deliveries most) ∷ history_of line run in
      all_since (injectors now) run.start.disks now (closing, lists, beside) (λ i own. own) (told_everywhere.between line run r has small size next most told m so_far)
      (judged_everywhere.between line run r has small size next most told m so_far) (runs_named.between line run r has small size next most told m so_far);
}
