-- What a response with rcode 0 tells, by the kind of its request.
use Rattle.sbp_world.proofs.Words.Std.{arith, ◌≡◌, ◌∙◌, refl, sym, ap, subst, ℕ, ◌==◌, Bool, true, false, cond, List, Some, Result, Ok, Err, nat_tests, none-some, same_Some, true≢false, big_bytes}
use Rattle.sbp_world.proofs.Words.Wire.{Access, Kind, Packet, PacketFault, lock, lock_response, locking, part_by, part_in, part_of, rcode_of, read_block, read_block_response, read_quadlet, read_quadlet_response, reading, reading_block, reading_quadlet, request, response, write_block, write_quadlet, write_response, writing}
use Rattle.sbp_world.proofs.Words.Target.{answer_in}
use Rattle.sbp_world.proofs.Words.Initiator.{Answer, Done, Payload, Refused}
use Rattle.sbp_world.proofs.Words.Laws.{access_in, spelled_by}
use Rattle.sbp_world.specs.Completing.OperationsReplies.{Brings}
use Rattle.async_packet.specs.Spells as spelled_packets

-- ---- the kind of a request
abbrev pub read_kind : (is_block : Bool) → Kind
read_kind true = reading_block
read_kind false = reading_quadlet

-- no lock
abbrev pub kind_for : Access → Kind
kind_for access = cond access.is_write writing (read_kind access.is_block)

kind_in : (r : Result Packet PacketFault) (label : ℕ) (kind : Kind) (access : Access) → part_by r ≡ request label kind → access_in (spelled_by r) ≡ Some access → access.is_lock ≡ false → kind ≡ kind_for access
kind_in (Err fault) label kind access e f l = absurd (none-some access f)
kind_in (Ok (write_quadlet header offset value)) label kind access e f l = let k : writing ≡ kind = cc in sym k ∙ ap kind_for (same_Some _ access f)
kind_in (Ok (write_block header offset payload)) label kind access e f l = let k : writing ≡ kind = cc in sym k ∙ ap kind_for (same_Some _ access f)
kind_in (Ok (read_quadlet header offset)) label kind access e f l = let k : reading_quadlet ≡ kind = cc in sym k ∙ ap kind_for (same_Some _ access f)
kind_in (Ok (read_block header offset count)) label kind access e f l = let k : reading_block ≡ kind = cc in sym k ∙ ap kind_for (same_Some _ access f)
kind_in (Ok (lock header offset extended payload)) label kind access e f l = absurd (true≢false (ap (λ (x : Access). x.is_lock) (same_Some _ access f) ∙ l))
kind_in (Ok _) label kind access e f l = absurd (none-some access f)

pub kind_is : (bytes : List ℕ) (label : ℕ) (kind : Kind) (access : Access) → part_of bytes ≡ request label kind → access_in (spelled_by (reading bytes)) ≡ Some access → access.is_lock ≡ false → kind ≡ kind_for access
unfolding part_of
kind_is bytes label kind access e f l = kind_in (reading bytes) label kind access e f l

-- ---- what is told
pub record TellsBytes (answer : Answer) : Type 0 where
  pub bytes : List ℕ
  pub is : answer ≡ Payload bytes

abbrev pub Tells : Kind → Answer → Type 0
Tells writing answer = answer ≡ Done
Tells reading_quadlet answer = Brings 4 answer
Tells reading_block answer = TellsBytes answer
Tells locking answer = Unit {0}

zero_test : (rcode : ℕ) → rcode ≡ 0 → (rcode == 0) ≡ true
zero_test rcode e = grind (arith, nat_tests)

answered : (answer : Answer) (rcode : ℕ) → rcode ≡ 0 → cond (rcode == 0) answer (Refused rcode) ≡ answer
answered answer rcode e = ap (λ b. cond b answer (Refused rcode)) (zero_test rcode e)

other : {A : Type 0} (l m : ℕ) (kind : Kind) (own : Kind) → response m own ≡ response l kind → (own ≡ kind → A) → A
other l m kind own e f = f (let same : own ≡ kind = cc in same)

asks_none : {A : Type 0} (l m : ℕ) (own kind : Kind) → request m own ≡ response l kind → A
asks_none l m own kind e = absurd (let no : request m own ≡ response l kind = e in cc)

pub tells : (bytes : List ℕ) (p : Packet) (l : ℕ) (kind : Kind) → spelled_packets.Spells bytes p → part_in p ≡ response l kind → rcode_of bytes ≡ 0 → Tells kind (answer_in p)
tells bytes (write_response header rcode) l kind s e z =
    let zero : rcode ≡ 0 = s.1 ∙ z in
    other l header.label kind writing e (λ k. subst (λ x. Tells x (answer_in (write_response header rcode))) k (answered Done rcode zero))
tells bytes (read_quadlet_response header rcode value) l kind s e z =
    let zero : rcode ≡ 0 = s.1 ∙ z in
    other l header.label kind reading_quadlet e (λ k. subst (λ x. Tells x (answer_in (read_quadlet_response header rcode value))) k (record { bytes = big_bytes 4 value; is = answered (Payload (big_bytes 4 value)) rcode zero; size_is = refl }))
tells bytes (read_block_response header rcode payload) l kind s e z =
    let zero : rcode ≡ 0 = s.1 ∙ z in
    other l header.label kind reading_block e (λ k. subst (λ x. Tells x (answer_in (read_block_response header rcode payload))) k (record { bytes = payload; is = answered (Payload payload) rcode zero }))
tells bytes (lock_response header rcode extended payload) l kind s e z = other l header.label kind locking e (λ k. subst (λ x. Tells x (answer_in (lock_response header rcode extended payload))) k tt)
tells bytes (write_quadlet header offset value) l kind s e z = asks_none l header.label writing kind e
tells bytes (write_block header offset payload) l kind s e z = asks_none l header.label writing kind e
tells bytes (read_quadlet header offset) l kind s e z = asks_none l header.label reading_quadlet kind e
tells bytes (read_block header offset count) l kind s e z = asks_none l header.label reading_block kind e
tells bytes (lock header offset extended payload) l kind s e z = asks_none l header.label locking kind e
