-- No transaction of a target is a lock: so a response says to the laws what it says to the target.
use Rattle.sbp_world.proofs.Words.Std.{◌≡◌, ◌∙◌, refl, sym, ap, ℕ, ◌+◌, ◌*◌, ◌/◌, ◌%◌, ◌^◌, ◌<◌, nat_lt, Bool, true, false, cond, List, [], ◌∷◌, ◌++◌, Option, Some, None, Result, Ok, Err, arith, big_bytes, big_number, big_from-bytes}
use Rattle.sbp_world.proofs.Words.Wire.{PacketFault, canon, four, three, tcode_of, LabelParts, Packet, reading, kind_as, Asked, ReplyKind, Stale, Body, block_read, block_write, header_to, quadlet_read, quadlet_write, request_with, Life, not_begun, over, under_way, Finding, Layer, asking_step, expiring_step, judging_step, of_again, of_generation, of_grammar, of_label, of_request, of_response, unlabelled, kind_by_tcode, kind_of, reply_kind, Kind, is_same_kind, locking, reading_block, reading_quadlet, writing}
use Rattle.sbp_world.proofs.Words.Target.{Purpose}
use Rattle.label_table.specs.declared.reply.ReplyKind.TheVariants as kinds
use Rattle.label_table.specs.History as wire
use Rattle.sbp_target.proofs.Histories.Primitives.{Known}
use Rattle.sbp_target.proofs.Histories.Seats.{Lives}

abbrev pub is_lock : ReplyKind → Bool
is_lock kinds.Lock = true
is_lock kind = false

pub lockless : (kind : Kind) → is_lock (kind_as kind) ≡ false → is_same_kind kind locking ≡ false
lockless writing e = refl
lockless reading_quadlet e = refl
lockless reading_block e = refl
lockless locking e = absurd (let no : true ≡ false = e in cc)

-- ---- what a target asks for reads or writes
pub first_tcode : (peer tcode : ℕ) → tcode < 16 → (peer * 2 ^ 16 + 0 * 2 ^ 10 + 1 * 2 ^ 8 + tcode * 2 ^ 4 + 0) % 256 ^ 4 / 2 ^ 4 % 2 ^ 4 ≡ tcode
first_tcode peer tcode small = omega arith

pub quad_tcode : (peer tcode : ℕ) (bytes rest : List ℕ) → tcode < 16 → bytes ≡ big_bytes 4 (peer * 2 ^ 16 + 0 * 2 ^ 10 + 1 * 2 ^ 8 + tcode * 2 ^ 4 + 0) ++ rest → tcode_of bytes ≡ tcode
unfolding tcode_of
quad_tcode peer tcode bytes rest small e =
    ap (λ xs. big_number 4 xs / 2 ^ 4 % 2 ^ 4) e
    ∙ ap (λ n. n / 2 ^ 4 % 2 ^ 4) (big_from-bytes 4 (peer * 2 ^ 16 + 0 * 2 ^ 10 + 1 * 2 ^ 8 + tcode * 2 ^ 4 + 0) rest)
    ∙ first_tcode peer tcode small

body_unlocked : (node peer : ℕ) (body : Body) → is_lock (kind_of (canon (request_with (header_to node peer 0) body))) ≡ false
unfolding kind_of three four
body_unlocked node peer (quadlet_write offset value) =
    ap (λ n. is_lock (kind_by_tcode n)) (quad_tcode peer 0 (canon (request_with (header_to node peer 0) (quadlet_write offset value))) _ (omega arith) refl)
body_unlocked node peer (block_write offset payload) =
    ap (λ n. is_lock (kind_by_tcode n)) (quad_tcode peer 1 (canon (request_with (header_to node peer 0) (block_write offset payload))) _ (omega arith) refl)
body_unlocked node peer (quadlet_read offset) = ap (λ n. is_lock (kind_by_tcode n)) (quad_tcode peer 4 (canon (request_with (header_to node peer 0) (quadlet_read offset))) _ (omega arith) refl)
body_unlocked node peer (block_read offset asked) =
    ap (λ n. is_lock (kind_by_tcode n)) (quad_tcode peer 5 (canon (request_with (header_to node peer 0) (block_read offset asked))) _ (omega arith) refl)

-- ---- no lock begins
abbrev BeginsNone : wire.Told Purpose → Type 0
BeginsNone (wire.began peer label kind purpose) = is_lock kind ≡ false
BeginsNone note = Unit {0}

abbrev MayBegin : Option (wire.Told Purpose) → Type 0
MayBegin None = Unit {0}
MayBegin (Some note) = BeginsNone note

abbrev AllBegin : List (wire.Told Purpose) → Type 0
AllBegin [] = Unit {0}
AllBegin (note ∷ notes) = BeginsNone note × AllBegin notes

and_begins : (note : Option (wire.Told Purpose)) (notes : List (wire.Told Purpose)) → MayBegin note → AllBegin notes → AllBegin (wire.and_before note notes)
and_begins None notes m h = h
and_begins (Some note) notes m h = (m, h)

closed_begins : (p : Packet) (label : LabelParts) (purpose : Option Purpose) (kind : Option ReplyKind) → MayBegin (wire.told_closed p label purpose kind)
closed_begins p label purpose None = tt
closed_begins p label purpose (Some kind) = tt

unknown_begins : (p : Packet) (kind : Option ReplyKind) → MayBegin (wire.told_unknown p kind)
unknown_begins p None = tt
unknown_begins p (Some kind) = tt

reading_begins : (r : Result Packet PacketFault) → MayBegin (wire.told_by_reading r)
reading_begins (Ok p) = unknown_begins p (reply_kind p)
reading_begins (Err fault) = tt

finding_begins : (f : Finding Purpose) (bytes : List ℕ) → MayBegin (wire.told_by_finding f bytes)
finding_begins of_generation bytes = tt
finding_begins of_grammar bytes = tt
finding_begins of_label bytes = reading_begins (reading bytes)
finding_begins (of_response p label purpose) bytes = closed_begins p label purpose (reply_kind p)
finding_begins (of_again p rcode) bytes = tt
finding_begins (of_request p) bytes = tt

asked_begins : (peer : ℕ) (kind : ReplyKind) (purpose : Purpose) (r : Option Asked) → is_lock kind ≡ false → MayBegin (wire.told_by_asking peer kind purpose r)
asked_begins peer kind purpose None e = tt
asked_begins peer kind purpose (Some asked) e = e

lapse_begins : (peer : ℕ) (label : LabelParts) (r : Result (Option Purpose) Stale) → MayBegin (wire.told_by_expiring peer label r)
lapse_begins peer label (Ok purpose) = tt
lapse_begins peer label (Err stale) = tt

sight_begins : (b : Bool) → MayBegin (cond {A = Option (wire.Told Purpose)} b (Some wire.forgotten) None)
sight_begins true = tt
sight_begins false = tt

call_begins : (call : wire.Call Purpose) (layer : Layer Purpose) → MayBegin (wire.told call layer)
call_begins (wire.judges generation bytes) layer = finding_begins (judging_step layer generation bytes).0 bytes
call_begins (wire.answers request bytes rcode given) layer = tt
call_begins (wire.asks peer body purpose) layer = asked_begins peer (kind_of (unlabelled layer peer body)) purpose (asking_step layer peer body purpose).0 (body_unlocked layer.node peer body)
call_begins (wire.lets_expire peer label) layer = lapse_begins peer label (expiring_step layer peer label).0
call_begins (wire.disowns peer label) layer = tt
call_begins (wire.sees generation node) layer = sight_begins (nat_lt layer.generation generation)

all_begin : (calls : List (wire.Call Purpose)) → AllBegin (wire.history 0xffc0 calls)
all_begin [] = tt
all_begin (call ∷ calls) =
    and_begins (wire.told call (wire.after 0xffc0 calls)) (wire.history 0xffc0 calls) (call_begins call (wire.after 0xffc0 calls)) (all_begin calls)

-- ---- so none is under way
abbrev locks : Life Purpose → Bool
locks (under_way kind purpose) = is_lock kind
locks life = false

ended_unlocked : (life : Life Purpose) → locks (wire.ended life) ≡ false
ended_unlocked not_begun = refl
ended_unlocked (under_way kind purpose) = refl
ended_unlocked over = refl

nobody_same : (life : Life Purpose) → locks (wire.for_nobody life) ≡ locks life
nobody_same not_begun = refl
nobody_same (under_way kind purpose) = refl
nobody_same over = refl

pick_unlocked : (b : Bool) (x y : Life Purpose) → locks x ≡ false → locks y ≡ false → locks (cond b x y) ≡ false
pick_unlocked true x y h i = h
pick_unlocked false x y h i = i

note_unlocked : (note : wire.Told Purpose) (peer : ℕ) (label : LabelParts) (life : Life Purpose) → BeginsNone note → locks life ≡ false → locks (wire.lived note peer label life) ≡ false
note_unlocked (wire.began p l kind purpose) peer label life b h = pick_unlocked (wire.is_same p l peer label) (under_way kind (Some purpose)) life b h
note_unlocked (wire.closed p l kind purpose) peer label life b h = pick_unlocked (wire.is_same p l peer label) (wire.ended life) life (ended_unlocked life) h
note_unlocked (wire.expired p l purpose) peer label life b h = pick_unlocked (wire.is_same p l peer label) (wire.ended life) life (ended_unlocked life) h
note_unlocked (wire.was_stale p l) peer label life b h = h
note_unlocked (wire.disowned p l) peer label life b h = pick_unlocked (wire.is_same p l peer label) (wire.for_nobody life) life (nobody_same life ∙ h) h
note_unlocked (wire.unknown p number kind) peer label life b h = h
note_unlocked wire.forgotten peer label life b h = ended_unlocked life

life_unlocked : (notes : List (wire.Told Purpose)) (peer : ℕ) (label : LabelParts) → AllBegin notes → locks (wire.life peer label notes) ≡ false
life_unlocked [] peer label h = refl
life_unlocked (note ∷ notes) peer label h = note_unlocked note peer label (wire.life peer label notes) h.0 (life_unlocked notes peer label h.1)

pub none_locks : (layer : Layer Purpose) (lives : Lives) → Known layer lives → (peer : ℕ) (label : LabelParts) (kind : ReplyKind) (purpose : Option Purpose) → lives peer label ≡ under_way kind purpose → is_lock kind ≡ false
none_locks layer lives k peer label kind purpose e =
    ap locks (sym e ∙ k.lives_are peer label) ∙ life_unlocked (wire.history 0xffc0 k.steps) peer label (all_begin k.steps)
