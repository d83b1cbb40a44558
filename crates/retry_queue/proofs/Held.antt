-- What unit 0 holds: each block what its owner wrote there, or, without one, what it held at the start.
use Rattle.std.proofs.Common.{arith, ◌≡◌, ◌∙◌, refl, sym, ap, subst, ℕ, zero, suc, ◌+◌, ◌*◌, ◌<◌, ◌≤◌, nat_lt, Bool, true, false, cond, List, [], ◌∷◌, length, Option, Some, None}
use Rattle.std.specs.Prelude.{◌&&◌, not, IsSomeAnd}
use Rattle.std.specs.Option.{option_map}
use Rattle.std.proofs.lemmas.Bool.Decides.{nat_tests}
use Rattle.sbp_base.specs.Update.{upd}
use Rattle.rbc_disk.specs.Disk.{Disk, blocks_at, disk_at, overwrite, written}
use Rattle.rbc_disk.specs.Runs.{medium_after}
use Rattle.rbc_disk.proofs.BlockLemmas.{block_before, block_behind, block_within}
use Rattle.rbc_disk.proofs.ReadLemmas.{overwrite_size}
use Rattle.sbp_journal.specs.Run.{said}
use Rattle.sbp_journal.specs.declared.note.Note.TheVariants as notes
use Rattle.sbp_laws.specs.ExecutionLaw.{RunsOn}
use Rattle.sbp_laws.specs.Packets.{id_for}
use Rattle.sbp_laws.specs.Targets.{place_on, plain_of, target_at}
use Rattle.sbp_laws.specs.Terms.{Request, lists, request_at}
use Rattle.sbp_journal.specs.Wire.{terms}
use Rattle.retry_queue.specs.Steps.{Step, Submission, count_of, of_world, submissions, submitted, world, write_at}
use Rattle.retry_queue.specs.Known.{known}
use Rattle.retry_queue.specs.Journals.{medium}
use Rattle.retry_queue.specs.Parts.{HoldsWrite, covers}
use Rattle.retry_queue.proofs.Asks.{Found, asks, found, sized}
use Rattle.retry_queue.proofs.Cases.{both_ways, not_own, older}
use Rattle.retry_queue.proofs.Media.{fold_is}
use Rattle.retry_queue.proofs.Order.{journal_before}
use Rattle.retry_queue.proofs.Owners.{IsLawfulJournal, lawful_before, none_runs, owner}
use Rattle.retry_queue.proofs.Pumps.{is_made}
use Rattle.retry_queue.proofs.Puts.{Puts, blocks_of, puts, puts_nothing}

-- a block holds what its owner wrote there
pub record OwnerHolds (W : ℕ → Option Submission) (count q block : ℕ) (now : List ℕ) : Type 0 where
  pub made : q < count
  pub writes : covers (W q) block ≡ true
  pub holds : HoldsWrite (W q) block now

abbrev pub HeldBy : (ℕ → Option Submission) → ℕ → Option ℕ → ℕ → List ℕ → List ℕ → Type 0
HeldBy W count None block bytes now = blocks_at block 1 now ≡ blocks_at block 1 bytes
HeldBy W count (Some q) block bytes now = OwnerHolds W count q block now

-- a medium that had these bytes at the start
pub record Holds (W : ℕ → Option Submission) (count : ℕ) (owner : ℕ → Option ℕ) (blocks : ℕ) (bytes : List ℕ) (medium : Disk) : Type 0 where
  pub now : List ℕ
  pub tells : medium.bytes ≡ Some now
  pub size : medium.blocks ≡ blocks
  pub whole : length now ≡ 512 * blocks
  pub each : (block : ℕ) → block < blocks → HeldBy W count (owner block) block bytes now
  pub within : (block q : ℕ) → owner block ≡ Some q → block < blocks

-- ---- a submission is made: those before it stay
module _ (W : ℕ → Option Submission) (count : ℕ) (w : Submission) where
  pub held_still : (o : Option ℕ) (block : ℕ) (bytes now : List ℕ) → HeldBy W count o block bytes now → HeldBy (upd W count (Some w)) (suc count) o block bytes now
  held_still None block bytes now h = h
  held_still (Some q) block bytes now h = record {
    made = (let less = h.made in omega (arith, less));
    writes = ap (λ x. covers x block) (older W count (Some w) q h.made) ∙ h.writes;
    holds = subst (λ x. HoldsWrite x block now) (sym (older W count (Some w) q h.made)) h.holds;
  }

-- ---- a block that is not written over
writes_as_before : (write : Option Submission) (block : ℕ) (now later : List ℕ) → blocks_at block 1 later ≡ blocks_at block 1 now → HoldsWrite write block now → HoldsWrite write block later
writes_as_before None block now later e h = h
writes_as_before (Some w) block now later e h = e ∙ h

held_as_before : (W : ℕ → Option Submission) (count : ℕ) (o : Option ℕ) (block : ℕ) (bytes now later : List ℕ) → blocks_at block 1 later ≡ blocks_at block 1 now → HeldBy W count o block bytes now → HeldBy W count o block bytes later
held_as_before W count None block bytes now later e h = e ∙ h
held_as_before W count (Some q) block bytes now later e h = record { made = h.made; writes = h.writes; holds = writes_as_before (W q) block now later e h.holds }

-- ---- a submission's blocks are written
pub record Among (lba count block : ℕ) : Type 0 where
  pub from : lba ≤ block
  pub below : block < lba + count

pub among : (w : Submission) (block : ℕ) → covers (Some w) block ≡ true → Among w.lba (count_of w) block
among w block e = by (nat_lt block w.lba) (nat_lt block (w.lba + count_of w)) refl refl e
  where
    by : (b c : Bool) → nat_lt block w.lba ≡ b → nat_lt block (w.lba + count_of w) ≡ c → (not b && c) ≡ true → Among w.lba (count_of w) block
    by false true f g h = record { from = grind (arith, nat_tests); below = grind (arith, nat_tests) }
    by false false f g h = absurd (cc h)
    by true c f g h = absurd (cc h)

module _ (w : Submission) (now : List ℕ) (blocks : ℕ) (size : length w.bytes ≡ 512 * count_of w) (whole : length now ≡ 512 * blocks) (inside : w.lba + count_of w ≤ blocks) where
  within_bytes : 512 * (w.lba + count_of w) ≤ length now
  within_bytes = omega (arith, whole, inside)

  outside : (block : ℕ) → covers (Some w) block ≡ false → blocks_at block 1 (overwrite now (512 * w.lba) w.bytes) ≡ blocks_at block 1 now
  outside block e = by (nat_lt block w.lba) (nat_lt block (w.lba + count_of w)) refl refl e
    where
      by : (b c : Bool) → nat_lt block w.lba ≡ b → nat_lt block (w.lba + count_of w) ≡ c → (not b && c) ≡ false → blocks_at block 1 (overwrite now (512 * w.lba) w.bytes) ≡ blocks_at block 1 now
      by true c f g h = block_before w.lba (count_of w) block now w.bytes size within_bytes (grind (arith, nat_tests))
      by false false f g h = block_behind w.lba (count_of w) block now w.bytes size within_bytes (grind (arith, nat_tests))
      by false true f g h = absurd (cc h)

  pub holds_new : (block : ℕ) → covers (Some w) block ≡ true → HoldsWrite (Some w) block (overwrite now (512 * w.lba) w.bytes)
  holds_new block e = let a = among w block e in block_within w.lba (count_of w) block now w.bytes size within_bytes a.from a.below

  -- and it is this one's
  pub held_new : (W : ℕ → Option Submission) (count p : ℕ) (o : Option ℕ) (bytes : List ℕ) → W p ≡ Some w → p < count → (block : ℕ) → HeldBy W count o block bytes now
      → HeldBy W count (cond (covers (W p) block) (Some p) o) block bytes (overwrite now (512 * w.lba) w.bytes)
  held_new W count p o bytes is made block h = by (covers (W p) block) refl
    where
      by : (b : Bool) → covers (W p) block ≡ b → HeldBy W count (cond b (Some p) o) block bytes (overwrite now (512 * w.lba) w.bytes)
      by true e = record { made = made; writes = e; holds = subst (λ x. HoldsWrite x block (overwrite now (512 * w.lba) w.bytes)) (sym is) (holds_new block (sym (ap (λ x. covers x block) is) ∙ e)) }
      by false e = held_as_before W count o block bytes now (overwrite now (512 * w.lba) w.bytes) (outside block (sym (ap (λ x. covers x block) is) ∙ e)) h

  pub new_size : length (overwrite now (512 * w.lba) w.bytes) ≡ 512 * blocks
  new_size = overwrite_size (512 * w.lba) now w.bytes (omega (arith, whole, inside, size)) ∙ whole

-- a good run of a submission
module _ (W : ℕ → Option Submission) (count : ℕ) (owner : ℕ → Option ℕ) (blocks : ℕ) (bytes : List ℕ) (medium : Disk) (h : Holds W count owner blocks bytes medium) where
  pub runs_held : (p : ℕ) (w : Submission) (cdb sent : List ℕ) → W p ≡ Some w → p < count → length w.bytes ≡ 512 * count_of w → Puts w medium cdb sent
      → Holds W count (λ block. cond (covers (W p) block) (Some p) (owner block)) blocks bytes (medium_after cdb sent None medium)
  runs_held p w cdb sent is made size put = subst (Holds W count (λ block. cond (covers (W p) block) (Some p) (owner block)) blocks bytes) (sym put.after) over
    where
      inside : w.lba + count_of w ≤ blocks
      inside = let i = put.inside in let s = h.size in omega (arith, i, s)

      own : (block q : ℕ) (b : Bool) → covers (W p) block ≡ b → cond b (Some p) (owner block) ≡ Some q → block < blocks
      own block q true e f = let a = among w block (sym (ap (λ x. covers x block) is) ∙ e) in let below = a.below in let i = inside in omega (arith, below, i)
      own block q false e f = h.within block q f

      over : Holds W count (λ block. cond (covers (W p) block) (Some p) (owner block)) blocks bytes (written medium w.lba w.bytes)
      over = record {
        now = overwrite h.now (512 * w.lba) w.bytes;
        tells = ap (option_map (λ now. overwrite now (512 * w.lba) w.bytes)) h.tells;
        size = h.size;
        whole = new_size w h.now blocks size h.whole inside;
        each = λ block less. held_new w h.now blocks size h.whole inside W count p (owner block) bytes is made block (h.each block less);
        within = λ block q e. own block q (covers (W p) block) refl e;
      }

-- ---- in every journal
abbrev pub HoldsAt : List Disk → List ℕ → List Step → Type 0
HoldsAt start bytes past = Holds (write_at past) (submissions past) (owner past) (disk_at start 0).blocks bytes (medium (disk_at start 0) past)

-- a request that is there
requested_some : (o : Option Request) (P : Request → Type 0) → IsSomeAnd o P → (Y : Type 0) → ((request : Request) → o ≡ Some request → P request → Y) → Y
requested_some None P h Y f = absurd h
requested_some (Some request) P h Y f = f request refl h

module _ (wild : ℕ → Bool) (start : List Disk) (tame : (i : ℕ) → wild i ≡ false) (bytes : List ℕ) (tells : (disk_at start 0).bytes ≡ Some bytes) (whole : length bytes ≡ 512 * (disk_at start 0).blocks) (some : 0 < length start) where
  -- an ORB of the latest list runs good
  module _ (past : List Step) (j : IsLawfulJournal wild start past) (h : HoldsAt start bytes past) (n k place : ℕ) (cdb sent : List ℕ) (last : suc n ≡ lists (world past) 0) (request : Request) where
    good_run : request_at (world past) 0 n k ≡ Some request → RunsOn request (plain_of start (world past) 0) place cdb sent None → HoldsAt start bytes (of_world (said (notes.Ran 0 (Some n) (Some k) 0 cdb sent None)) ∷ past)
    good_run is run =
        let p = (known past).first n + k in
        let w : Found (write_at past p) request = found (write_at past p) request (asks wild start tame past j n k request last is) in
        let size = sized past j.journal.made p w.of w.is in
        let put = puts w.of size request (plain_of start (world past) 0) place cdb sent w.asks run in
        runs_held (write_at past) (submissions past) (owner past) (disk_at start 0).blocks bytes (medium (disk_at start 0) past) h p w.of cdb sent w.is (is_made past p w.of w.is) (blocks_of w.of size).whole
        (subst (λ m. Puts w.of m cdb sent) (fold_is start some past j.journal) put)

  pub held : (past : List Step) → IsLawfulJournal wild start past → HoldsAt start bytes past
  held [] j = record { now = bytes; tells = tells; size = refl; whole = whole; each = λ block less. refl; within = λ block q e. absurd (cc e) }
  held (submitted lba content ∷ past) j =
      let h = held past (lawful_before wild start _ past j) in
      record {
        now = h.now;
        tells = h.tells;
        size = h.size;
        whole = h.whole;
        each = λ block less. held_still (write_at past) (submissions past) (record { lba = lba; bytes = content }) (owner past block) block bytes h.now (h.each block less);
        within = h.within;
      }
  held (of_world (said (notes.Ran zero (Some n) (Some k) zero cdb sent None)) ∷ past) j =
      let before = lawful_before wild start _ past j in
      let h = held past before in
      let law = j.execution.0 (tame 0) in
      requested_some (request_at (world past) 0 n k) _ law.1 (HoldsAt start bytes (of_world (said (notes.Ran 0 (Some n) (Some k) 0 cdb sent None)) ∷ past))
      (λ request is run. good_run past before h n k (place_on (target_at start (world past)) 0 (id_for (terms (world past)) 0 1)) cdb sent (j.order.0 (tame 0)).latest request is run)
  held (of_world (said (notes.Ran zero (Some n) (Some k) zero cdb sent (Some sense))) ∷ past) j =
      subst (Holds (write_at past) (submissions past) (owner past) (disk_at start 0).blocks bytes) (sym (puts_nothing cdb sent sense (medium (disk_at start 0) past))) (held past (lawful_before wild start _ past j))
  held (of_world (said (notes.Ran (suc i) (Some n) (Some k) zero cdb sent check)) ∷ past) j = absurd (none_runs past (journal_before _ past j.journal) i n (j.order.0 (tame (suc i))).latest)
  held (of_world (said (notes.Ran i None k zero cdb sent check)) ∷ past) j = absurd (both_ways (wild i) j.order.0 (tame i))
  held (of_world (said (notes.Ran i (Some n) None zero cdb sent check)) ∷ past) j = absurd (both_ways (wild i) j.order.0 (tame i))
  held (of_world (said (notes.Ran i n k (suc u) cdb sent check)) ∷ past) j = absurd (not_own u j.journal.plain.0)
  held (_ ∷ past) j = held past (lawful_before wild start _ past j)
