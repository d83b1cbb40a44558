-- Of two agents that differ in nothing that their phase reads any more one request is under way; its address has 48 bits.
use Rattle.sbp_world.proofs.Words.Std.{◌≡◌, ◌∙◌, refl, sym, ap, ℕ, ◌-◌, ◌*◌, ◌^◌, ◌<◌, ◌&&◌, nat_lt, Bool, true, false, List, [], ◌∷◌, length, arith, AllByRecursion}
use Rattle.sbp_world.proofs.Words.Target.{Phase, ReadAhead, Machine, cut_to, is_ahead, limit_of, state_in, is_reset, writes_status, ahead_ask, ahead_under, main_ask, main_under}
use Rattle.sbp_world.proofs.Words.Initiator.{Ask, Nothing, Read, Write, CommandOrb, OrbPointer, At, Null, IsPointer, Segment, chunk_from}
use Rattle.sbp_world.proofs.Words.Laws.{is_nothing}
use Rattle.sbp_world.proofs.Words.World.{FitsAgent, FitsSegment, Alike, answers, has_list, moves_data}
use Rattle.command_agent.specs.declared.phase.Phase.TheVariants as phases
use Rattle.command_agent.specs.declared.phase.ReadAhead.TheVariants as aheads
use Rattle.sbp_world.proofs.FitTarget.Agents.{FitsAsk, aligned_fits, chunk_by}
use Rattle.sbp_target.proofs.Histories.Stepped.{Fit, is_bare}
use Rattle.sbp_world.proofs.Lists.Slots.{not_both}

-- ---- while something is read ahead, a list is open
pub record ReadsOn (p : Phase) : Type 0 where
  pub list : has_list p ≡ true
  pub reset : is_reset (state_in p) ≡ false

open_by : (p : Phase) → is_bare p ≡ false → ReadsOn p
open_by phases.ReadingTable e = record { list = refl; reset = refl }
open_by (phases.ReadingData wanted) e = record { list = refl; reset = refl }
open_by phases.Answering e = record { list = refl; reset = refl }
open_by phases.WritingStatus e = record { list = refl; reset = refl }
open_by phases.Reset e = absurd (let no : true ≡ false = e in cc)
open_by phases.Fetching e = absurd (let no : true ≡ false = e in cc)
open_by phases.Suspended e = absurd (let no : true ≡ false = e in cc)
open_by phases.ReadingNext e = absurd (let no : true ≡ false = e in cc)
open_by phases.WritingLastStatus e = absurd (let no : true ≡ false = e in cc)
open_by phases.Dead e = absurd (let no : true ≡ false = e in cc)

unbare : (m : Machine) (b : Bool) → is_bare m.phase ≡ b → Fit m → is_ahead m.ahead ≡ true → b ≡ false
unbare m false e f i = refl
unbare m true e f i = absurd (let no : true ≡ false = sym i ∙ f.bare e in cc)

pub reads_on : (m : Machine) → Fit m → is_ahead m.ahead ≡ true → ReadsOn m.phase
reads_on m f i = open_by m.phase (unbare m (is_bare m.phase) refl f i)

-- ---- the main transaction
-- a read of data, by what it is read with
abbrev data_read : (wanted : ℕ) → CommandOrb → List Segment → List ℕ → Ask
data_read wanted orb segments payload =
    let c = cut_to (wanted - length payload) (chunk_from segments (length payload) (limit_of orb)) in Read c.offset c.length

abbrev chunk_write : CommandOrb → List Segment → (written size : ℕ) → Ask
chunk_write orb segments written size = let c = cut_to (size - written) (chunk_from segments written (limit_of orb)) in Write c.offset c.length

module _ (untold : Bool) (a m : Machine) (is : Alike untold a m) where
  main_by : (p : Phase) → m.phase ≡ p → main_ask p a ≡ main_ask p m
  main_by phases.Fetching e = ap (λ (x : ℕ). Read x 32) (is.present (ap has_list e))
  main_by phases.ReadingTable e = ap (λ (o : CommandOrb). Read o.descriptor (8 * o.data_size)) (is.orb (ap has_list e))
  main_by (phases.ReadingData wanted) e =
      ap (λ (o : CommandOrb). data_read wanted o a.segments a.payload) (is.orb (ap has_list e))
      ∙ ap (λ (xs : List Segment). data_read wanted m.orb xs a.payload) (is.segments (ap moves_data e))
      ∙ ap (data_read wanted m.orb m.segments) (is.payload (ap has_list e))
  main_by phases.Answering e =
      ap (λ (o : CommandOrb). chunk_write o a.segments a.written (length a.answer)) (is.orb (ap has_list e))
      ∙ ap (λ (xs : List Segment). chunk_write m.orb xs a.written (length a.answer)) (is.segments (ap moves_data e))
      ∙ ap (λ (n : ℕ). chunk_write m.orb m.segments n (length a.answer)) (is.written (ap answers e))
      ∙ ap (chunk_write m.orb m.segments m.written) (is.size (ap answers e))
  main_by phases.WritingStatus e = ap (λ (o : List ℕ). Write 0 (length o)) (is.status (ap writes_status e))
  main_by phases.WritingLastStatus e = ap (λ (o : List ℕ). Write 0 (length o)) (is.status (ap writes_status e))
  main_by phases.ReadingNext e = ap (λ (x : ℕ). Read x 8) (is.present (ap has_list e))
  main_by phases.Reset e = refl
  main_by phases.Suspended e = refl
  main_by phases.Dead e = refl

  pub main_alike : main_under a ≡ main_under m
  main_alike = ap (λ (p : Phase). main_ask p a) is.phase ∙ main_by m.phase refl

  pub status_alike : writes_status a.phase ≡ writes_status m.phase
  status_alike = ap writes_status is.phase

  -- ---- the read ahead
  pub ahead_alike : Fit m → is_ahead m.ahead ≡ true → ahead_under a ≡ ahead_under m
  ahead_alike f i =
      let l = (reads_on m f i).list in
      ap (λ (x : ReadAhead). ahead_ask x a.orb.next) (is.ahead l) ∙ ap (λ (o : CommandOrb). ahead_ask m.ahead o.next) (is.orb l)

  -- ---- the bytes of a write, where they are told
  no_write : (x : Ask) → is_nothing x ≡ true → (offset size : ℕ) → x ≡ Write offset size → ⊥
  no_write Nothing n offset size e = cc
  no_write (Read at count) n offset size e = absurd (let no : false ≡ true = n in cc)
  no_write (Write at count) n offset size e = absurd (let no : false ≡ true = n in cc)

  bytes_by : (p : Phase) → m.phase ≡ p → (untold && answers p) ≡ false → (offset size : ℕ) → main_ask p m ≡ Write offset size → a.outgoing ≡ m.outgoing
  bytes_by phases.Answering e t offset size w = is.chunk (ap answers e) (not_both untold t)
  bytes_by phases.WritingStatus e t offset size w = is.status (ap writes_status e)
  bytes_by phases.WritingLastStatus e t offset size w = is.status (ap writes_status e)
  bytes_by phases.Fetching e t offset size w = absurd (let no : Read m.present 32 ≡ Write offset size = w in cc)
  bytes_by phases.ReadingTable e t offset size w = absurd (let no : Read m.orb.descriptor (8 * m.orb.data_size) ≡ Write offset size = w in cc)
  bytes_by (phases.ReadingData wanted) e t offset size w = absurd (let no : data_read wanted m.orb m.segments m.payload ≡ Write offset size = w in cc)
  bytes_by phases.ReadingNext e t offset size w = absurd (let no : Read m.present 8 ≡ Write offset size = w in cc)
  bytes_by phases.Reset e t offset size w = absurd (no_write Nothing refl offset size w)
  bytes_by phases.Suspended e t offset size w = absurd (no_write Nothing refl offset size w)
  bytes_by phases.Dead e t offset size w = absurd (no_write Nothing refl offset size w)

  pub bytes_alike : (untold && answers a.phase) ≡ false → (offset size : ℕ) → main_under m ≡ Write offset size → a.outgoing ≡ m.outgoing
  bytes_alike t offset size w = bytes_by m.phase refl (ap (λ (p : Phase). untold && answers p) (sym is.phase) ∙ t) offset size w

-- ---- addresses

chunk_fits : (segments : List Segment) (done limit left : ℕ) → AllByRecursion FitsSegment segments → (cut_to left (chunk_from segments done limit)).offset < 2 ^ 48
chunk_fits [] done limit left a = omega arith
chunk_fits (segment ∷ rest) done limit left a =
    chunk_by (nat_lt done segment.length) segment done limit left (chunk_from rest (done - segment.length) limit) refl a.0 (chunk_fits rest (done - segment.length) limit left a.1)

main_at : (p : Phase) (m : Machine) → FitsAgent m → FitsAsk (main_ask p m)
main_at phases.Fetching m f = f.present
main_at phases.ReadingTable m f = f.orb.descriptor
main_at (phases.ReadingData wanted) m f = chunk_fits m.segments (length m.payload) (limit_of m.orb) (wanted - length m.payload) f.segments
main_at phases.Answering m f = chunk_fits m.segments m.written (limit_of m.orb) (length m.answer - m.written) f.segments
main_at phases.WritingStatus m f = (let x : 0 < 2 ^ 48 = omega arith in x)
main_at phases.WritingLastStatus m f = (let x : 0 < 2 ^ 48 = omega arith in x)
main_at phases.ReadingNext m f = f.present
main_at phases.Reset m f = tt
main_at phases.Suspended m f = tt
main_at phases.Dead m f = tt

pub main_fits : (m : Machine) → FitsAgent m → FitsAsk (main_under m)
main_fits m f = main_at m.phase m f

ahead_at : (a : ReadAhead) (next : OrbPointer) → IsPointer next → FitsAsk (ahead_ask a next)
ahead_at (aheads.UnderWay rung) (At next) f = aligned_fits next f
ahead_at (aheads.UnderWay rung) Null f = tt
ahead_at aheads.Idle next f = tt
ahead_at (aheads.Kept orb) next f = tt

pub ahead_fits : (m : Machine) → FitsAgent m → FitsAsk (ahead_under m)
ahead_fits m f = ahead_at m.ahead m.orb.next f.orb.next
