-- What unit 0 holds, by the submissions: the fourth and the fifth part of the queue law.
use Rattle.std.proofs.Common.{arith, ◌≡◌, ◌∙◌, refl, sym, ap, subst, ℕ, zero, suc, ◌+◌, ◌-◌, ◌*◌, ◌<◌, ◌≤◌, nat_lt, Bool, true, false, cond, List, length, Option, Some, None, ◌⊎◌, inl, inr}
use Rattle.std.specs.Prelude.{◌&&◌, not}
use Rattle.std.proofs.lemmas.Bool.Decides.{nat_tests}
use Rattle.rbc_disk.specs.Disk.{Disk, blocks_at, disk_at}
use Rattle.retry_queue.specs.Steps.{Step, Submission, count_of, submissions, world, write_at}
use Rattle.retry_queue.specs.Known.{known}
use Rattle.retry_queue.specs.Taking.{all_good}
use Rattle.retry_queue.specs.Journals.{IsDiskJournal}
use Rattle.retry_queue.specs.Parts.{BlocksHold, HoldsWrite, IsAllWritten, IsFrom, behind_all, covers, put_over}
use Rattle.retry_queue.specs.Law.{QueuesAreLawful}
use Rattle.retry_queue.proofs.Asks.{sized}
use Rattle.retry_queue.proofs.Blocks.{equal_blocks}
use Rattle.retry_queue.proofs.Cases.{both_ways, none_is, some_is}
use Rattle.retry_queue.proofs.Held.{HeldBy, HoldsAt, OwnerHolds, held, held_new, new_size}
use Rattle.retry_queue.proofs.Marks.{dead_lists_wait}
use Rattle.retry_queue.proofs.Order.{PlacesAt, keeps_order, places_at}
use Rattle.retry_queue.proofs.Owners.{IsLawfulJournal, IsOwned, OwnedAt, owned, owner}
use Rattle.retry_queue.proofs.Puts.{blocks_of}

lawful_journal : (wild : ℕ → Bool) (start : List Disk) (bytes : List ℕ) (past : List Step) → IsDiskJournal wild start bytes past → IsLawfulJournal wild start past
lawful_journal wild start bytes past j = record { journal = j.journal; order = j.lawful.order; execution = j.lawful.execution; taken = j.lawful.status.taken }

-- ---- the fourth part
module _ (W : ℕ → Option Submission) (count : ℕ) (bytes now : List ℕ) (block : ℕ) where
  -- what the owner wrote
  pub owner_holds : (o : Option ℕ) (q : ℕ) → HeldBy W count o block bytes now → o ≡ Some q → OwnerHolds W count q block now
  owner_holds o q h e = subst (λ o. HeldBy W count o block bytes now) e h

  from_owner : (o : Option ℕ) (p : ℕ) → HeldBy W count o block bytes now → IsOwned W count o p block → IsFrom W count p block now
  from_owner o p h i = let own = owner_holds o i.number h i.is in record { number = i.number; late = i.late; made = own.made; writes = own.writes; holds = own.holds }

  start_or_owner : (o : Option ℕ) → HeldBy W count o block bytes now → (blocks_at block 1 now ≡ blocks_at block 1 bytes) ⊎ IsFrom W count 0 block now
  start_or_owner None h = inl h
  start_or_owner (Some q) h = inr (record { number = q; late = omega arith; made = h.made; writes = h.writes; holds = h.holds })

below_done : (past : List Step) → PlacesAt past → (q : ℕ) → (known past).has q ≡ true → q < (known past).done
below_done past places q e = let f : nat_lt q (known past).done ≡ true = sym (places.front q) ∙ e in grind (arith, nat_tests)

blocks_are_due : (wild : ℕ → Bool) (start : List Disk) (bytes : List ℕ) (past : List Step) → IsDiskJournal wild start bytes past → all_good (world past) ≡ true → BlocksHold past (disk_at start 0) bytes
blocks_are_due wild start bytes past j good =
    let lawful = lawful_journal wild start bytes past j in
    let h : HoldsAt start bytes past = held wild start j.tame bytes j.tells j.whole j.some past lawful in
    let o : OwnedAt past = owned wild start j.tame past lawful in
    let places = places_at past j.journal in
    record {
      now = h.now;
      tells = h.tells;
      each = λ block less. record {
        own = λ q e c. from_owner (write_at past) (submissions past) bytes h.now block (owner past block) q (h.each block less) (o.own q block good (below_done past places q e) c);
        other = start_or_owner (write_at past) (submissions past) bytes h.now block (owner past block) (h.each block less);
      };
    }

-- ---- the last submission that writes a block
abbrev last_cover : (ℕ → Option Submission) → ℕ → ℕ → Option ℕ
last_cover W zero block = None
last_cover W (suc q) block = cond (covers (W q) block) (Some q) (last_cover W q block)

module _ (W : ℕ → Option Submission) (block : ℕ) where
  last_none : (count : ℕ) → ((p : ℕ) → p < count → covers (W p) block ≡ true → ⊥) → last_cover W count block ≡ None
  last_none zero none = refl
  last_none (suc c) none = by (covers (W c) block) refl (last_none c (λ p less. none p (omega (arith, less))))
    where
      by : (b : Bool) → covers (W c) block ≡ b → last_cover W c block ≡ None → cond b (Some c) (last_cover W c block) ≡ None
      by true e before = absurd (none c (omega arith) e)
      by false e before = before

  last_some : (count q : ℕ) → q < count → covers (W q) block ≡ true → ((p : ℕ) → p < count → covers (W p) block ≡ true → p ≤ q) → last_cover W count block ≡ Some q
  last_some zero q less e most = absurd (omega (arith, less))
  last_some (suc c) q less e most = by (covers (W c) block) refl (λ few. last_some c q few e (λ p l. most p (omega (arith, l))))
    where
      by : (b : Bool) → covers (W c) block ≡ b → (q < c → last_cover W c block ≡ Some q) → cond b (Some c) (last_cover W c block) ≡ Some q
      by true f before = let m = most c (omega arith) f in ap Some (omega (arith, m, less))
      by false f before = before (other (λ same. both_ways (covers (W c) block) (ap (λ p. covers (W p) block) (sym same) ∙ e) f))
        where
          other : (q ≡ c → ⊥) → q < c
          other differ = grind (arith, less, differ)

  -- an owner behind whom no submission writes the block is the last one
  last_is_owner : (count : ℕ) (o : Option ℕ) → ((p : ℕ) → p < count → covers (W p) block ≡ true → IsOwned W count o p block) → ((q : ℕ) → o ≡ Some q → (q < count) × (covers (W q) block ≡ true)) → last_cover W count block ≡ o
  last_is_owner count None owns writes = last_none count (λ p less e. let i = owns p less e in none_is i.number i.is)
  last_is_owner count (Some q) owns writes = last_some count q (writes q refl).0 (writes q refl).1 (λ p less e. let i = owns p less e in let late = i.late in let same = some_is q i.number i.is in omega (arith, late, same))

-- ---- each submission written once, in order
pub record Fits (w : Submission) (blocks : ℕ) : Type 0 where
  pub size : length w.bytes ≡ 512 * count_of w
  pub inside : w.lba + count_of w ≤ blocks

record Behind (W : ℕ → Option Submission) (total count blocks : ℕ) (bytes : List ℕ) : Type 0 where
  whole : length (behind_all W count bytes) ≡ 512 * blocks
  each : (block : ℕ) → block < blocks → HeldBy W total (last_cover W count block) block bytes (behind_all W count bytes)

module _ (W : ℕ → Option Submission) (total blocks : ℕ) (bytes : List ℕ) (size : length bytes ≡ 512 * blocks) (fits : (q : ℕ) (w : Submission) → q < total → W q ≡ Some w → Fits w blocks) where
  behind_one : (q : ℕ) → q < total → Behind W total q blocks bytes → (o : Option Submission) → W q ≡ o → Behind W total (suc q) blocks bytes
  behind_one q less h None e = record {
    whole = ap (λ o. length (put_over o (behind_all W q bytes))) e ∙ h.whole;
    each = λ block few. subst (λ o. HeldBy W total (cond (covers o block) (Some q) (last_cover W q block)) block bytes (put_over o (behind_all W q bytes))) (sym e) (h.each block few);
  }
  behind_one q less h (Some w) e =
      let f : Fits w blocks = fits q w less e in
      record {
        whole = ap (λ o. length (put_over o (behind_all W q bytes))) e ∙ new_size w (behind_all W q bytes) blocks f.size h.whole f.inside;
        each = λ block few. subst (λ o. HeldBy W total (cond (covers (W q) block) (Some q) (last_cover W q block)) block bytes (put_over o (behind_all W q bytes))) (sym e)
            (held_new w (behind_all W q bytes) blocks f.size h.whole f.inside W total q (last_cover W q block) bytes e less block (h.each block few));
      }

  behind : (count : ℕ) → count ≤ total → Behind W total count blocks bytes
  behind zero few = record { whole = size; each = λ block less. refl }
  behind (suc q) few = behind_one q (omega (arith, few)) (behind q (omega (arith, few))) (W q) refl

-- two media whose blocks are of the same owners
writes_same : (write : Option Submission) (block : ℕ) (now later : List ℕ) → HoldsWrite write block now → HoldsWrite write block later → blocks_at block 1 now ≡ blocks_at block 1 later
writes_same None block now later h i = absurd h
writes_same (Some w) block now later h i = h ∙ sym i

holds_same : (W : ℕ → Option Submission) (count : ℕ) (o : Option ℕ) (block : ℕ) (bytes now later : List ℕ) → HeldBy W count o block bytes now → HeldBy W count o block bytes later → blocks_at block 1 now ≡ blocks_at block 1 later
holds_same W count None block bytes now later h i = h ∙ sym i
holds_same W count (Some q) block bytes now later h i = writes_same (W q) block now later h.holds i.holds

-- the last block of a submission is one of its blocks
last_block : (w : Submission) → 0 < count_of w → covers (Some w) (w.lba + (count_of w - 1)) ≡ true
last_block w some = by (nat_lt (w.lba + (count_of w - 1)) w.lba) (nat_lt (w.lba + (count_of w - 1)) (w.lba + count_of w)) refl refl
  where
    by : (b c : Bool) → nat_lt (w.lba + (count_of w - 1)) w.lba ≡ b → nat_lt (w.lba + (count_of w - 1)) (w.lba + count_of w) ≡ c → (not b && c) ≡ true
    by true c e f = absurd (grind (arith, nat_tests))
    by false true e f = refl
    by false false e f = absurd (grind (arith, nat_tests))

module _ (wild : ℕ → Bool) (start : List Disk) (bytes : List ℕ) (past : List Step) (j : IsDiskJournal wild start bytes past) (all : (known past).done ≡ submissions past) (good : all_good (world past) ≡ true) where
  holds : HoldsAt start bytes past
  holds = held wild start j.tame bytes j.tells j.whole j.some past (lawful_journal wild start bytes past j)

  owns : (p block : ℕ) → p < submissions past → covers (write_at past p) block ≡ true → IsOwned (write_at past) (submissions past) (owner past block) p block
  owns p block less c = (owned wild start j.tame past (lawful_journal wild start bytes past j)).own p block good (omega (arith, less, all)) c

  fits_in : (q : ℕ) (w : Submission) → q < submissions past → write_at past q ≡ Some w → Fits w (disk_at start 0).blocks
  fits_in q w less e =
      let b = blocks_of w (sized past j.journal.made q w e) in
      let some = b.some in
      let own = owns q (w.lba + (count_of w - 1)) less (ap (λ o. covers o (w.lba + (count_of w - 1))) e ∙ last_block w some) in
      let within = holds.within (w.lba + (count_of w - 1)) own.number own.is in
      record { size = b.whole; inside = omega (arith, within, some) }

  last : Behind (write_at past) (submissions past) (submissions past) (disk_at start 0).blocks bytes
  last = behind (write_at past) (submissions past) (disk_at start 0).blocks bytes j.whole fits_in (submissions past) (omega arith)

  owner_writes : (block : ℕ) → block < (disk_at start 0).blocks → (q : ℕ) → owner past block ≡ Some q → (q < submissions past) × (covers (write_at past q) block ≡ true)
  owner_writes block less q e = let o = owner_holds (write_at past) (submissions past) bytes holds.now block (owner past block) q (holds.each block less) e in (o.made, o.writes)

  same_block : (block : ℕ) → block < (disk_at start 0).blocks → blocks_at block 1 holds.now ≡ blocks_at block 1 (behind_all (write_at past) (submissions past) bytes)
  same_block block less =
      holds_same (write_at past) (submissions past) (owner past block) block bytes holds.now (behind_all (write_at past) (submissions past) bytes) (holds.each block less)
      (subst (λ o. HeldBy (write_at past) (submissions past) o block bytes (behind_all (write_at past) (submissions past) bytes))
      (last_is_owner (write_at past) block (submissions past) (owner past block) (λ p l c. owns p block l c) (owner_writes block less)) (last.each block less))

  all_written : IsAllWritten past (disk_at start 0) bytes
  all_written = holds.tells ∙ ap Some (equal_blocks (disk_at start 0).blocks holds.now (behind_all (write_at past) (submissions past) bytes) holds.whole last.whole same_block)

pub queues_are_lawful : QueuesAreLawful
queues_are_lawful wild start bytes past j =
    let order = keeps_order past j.journal in
    record {
      consecutive = order.consecutive;
      waits = dead_lists_wait past j.journal;
      front = order.front;
      blocks = blocks_are_due wild start bytes past j;
      all = all_written wild start bytes past j;
    }
