-- A write that an agent has under way has as many bytes as it was asked for.
use Rattle.sbp_world.proofs.Words.Std.{◌≡◌, ◌∙◌, refl, sym, ap, subst, ℕ, ◌-◌, ◌≤◌, true, false, List, length, take, drop, Option, Some, None, length-take-le, arith}
use Rattle.sbp_world.proofs.Words.Target.{Phase, Machine, cut_to, is_sent, limit_of, answer_chunk, main_ask, main_under}
use Rattle.sbp_world.proofs.Words.Initiator.{Nothing, Read, Write, Chunk, chunk_from}
use Rattle.sbp_world.proofs.Words.World.{IsSized, IsStill}
use Rattle.std.proofs.Common.{length-drop}
use Rattle.command_agent.specs.declared.phase.Phase.TheVariants as phases
use Rattle.command_agent.specs.Steps.{answer_step}

no_write : (offset size : ℕ) → Nothing ≡ Write offset size → ⊥
no_write offset size e = cc

no_read : (at count offset size : ℕ) → Read at count ≡ Write offset size → ⊥
no_read at count offset size e = cc

same_size : (at count offset size : ℕ) → Write at count ≡ Write offset size → count ≡ size
same_size at count offset size e = cc

-- nothing is under way, a read, or a write of the bytes that are there
pub nothing_sized : (m : Machine) → main_under m ≡ Nothing → IsSized m
nothing_sized m e = record { bytes = λ offset size f. absurd (no_write offset size (sym e ∙ f)) }

pub read_sized : (m : Machine) (at count : ℕ) → main_under m ≡ Read at count → IsSized m
read_sized m at count e = record { bytes = λ offset size f. absurd (no_read at count offset size (sym e ∙ f)) }

pub write_sized : (m : Machine) (at count : ℕ) → main_under m ≡ Write at count → length m.outgoing ≡ count → IsSized m
write_sized m at count e l = record { bytes = λ offset size f. l ∙ same_size at count offset size (sym e ∙ f) }

-- what stays as it was
pub still_sized : (before now : Machine) → IsStill before now → IsSized before → IsSized now
still_sized before now s z = record { bytes = λ offset size f. ap (λ (o : List ℕ). length o) s.outgoing ∙ z.bytes offset size (sym s.main ∙ f) }

-- an agent that waits for nothing
idle_under : (p : Phase) (m : Machine) → is_sent p ≡ false → main_ask p m ≡ Nothing
idle_under phases.Reset m e = refl
idle_under phases.Suspended m e = refl
idle_under phases.Dead m e = refl
idle_under phases.Fetching m e = absurd (let no : true ≡ false = e in cc)
idle_under phases.ReadingTable m e = absurd (let no : true ≡ false = e in cc)
idle_under (phases.ReadingData wanted) m e = absurd (let no : true ≡ false = e in cc)
idle_under phases.Answering m e = absurd (let no : true ≡ false = e in cc)
idle_under phases.WritingStatus m e = absurd (let no : true ≡ false = e in cc)
idle_under phases.WritingLastStatus m e = absurd (let no : true ≡ false = e in cc)
idle_under phases.ReadingNext m e = absurd (let no : true ≡ false = e in cc)

pub idle_sized : (m : Machine) → is_sent m.phase ≡ false → IsSized m
idle_sized m e = nothing_sized m (idle_under m.phase m e)

-- a chunk of an answer
pub chunk_few : (left : ℕ) (c : Option Chunk) → (cut_to left c).length ≤ left
chunk_few left None = omega arith
chunk_few left (Some c) = omega arith

pub taken_size : (n written : ℕ) (answer : List ℕ) → n ≤ length answer - written → length (take n (drop written answer)) ≡ n
taken_size n written answer h = length-take-le n (drop written answer) (subst (λ k. n ≤ k) (sym (length-drop written answer)) h)

pub answer_sized : (m : Machine) → IsSized (answer_step m).1
answer_sized m =
    write_sized (answer_step m).1 _ (answer_chunk m) refl
    (taken_size (answer_chunk m) m.written m.answer (chunk_few (length m.answer - m.written) (chunk_from m.segments m.written (limit_of m.orb))))
