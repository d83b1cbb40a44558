-- A request that was made of a body writes where its body does.
use Rattle.sbp_world.proofs.Words.Std.{◌≡◌, ◌∙◌, refl, ap, subst, ℕ, nat_le, Bool, true, false, cond, List, length, Option, Some, None, arith, nat_tests}
use Rattle.sbp_world.proofs.Words.Wire.{canon, four, three, largest, tcode_of, Asked, Body, block_read, block_write, header_to, quadlet_read, quadlet_write, request_with, Layer, asked_at, asking_in, asking_step, peer_at, peer_place, unlabelled, begun_for, is_write, with_label, begin_at, begin_step, lowest_from}
use Rattle.sbp_world.proofs.Words.Target.{Purpose, agent_body}
use Rattle.sbp_world.proofs.Words.Initiator.{Ask}
use Rattle.sbp_world.proofs.Words.Laws.{wants}
use Rattle.orb_layout.specs.declared.ask.Ask.TheVariants as ask
use Rattle.sbp_target.proofs.Histories.Stepped.{Carries, is_asked}
use Rattle.sbp_world.proofs.Agents.Management.Requests.{writes_body}
use Rattle.sbp_world.proofs.Hosts.Mild.{tcode_same}
use Rattle.sbp_world.proofs.Agents.CrewLocks.{quad_tcode}

-- ---- the bytes of a request are its body's with its label in them

abbrev Has : List ℕ → Option Asked → Type 0
Has plain None = Unit {0}
Has plain (Some asked) = asked.bytes ≡ with_label asked.label.number plain

found_has : (layer : Layer Purpose) (k peer : ℕ) (plain : List ℕ) (purpose : Purpose) (number : Option ℕ) → Has plain (asked_at k layer (begun_for (peer_at layer k) peer purpose (begin_at number (peer_at layer k).table plain))).0
found_has layer k peer plain purpose None = tt
found_has layer k peer plain purpose (Some number) = refl

in_has : (found : Option ℕ) (layer : Layer Purpose) (peer : ℕ) (plain : List ℕ) (purpose : Purpose) → Has plain (asking_in found layer peer plain purpose).0
unfolding begin_step
in_has None layer peer plain purpose = tt
in_has (Some k) layer peer plain purpose = found_has layer k peer plain purpose (lowest_from 0 plain (peer_at layer k).table.places)

step_has : (layer : Layer Purpose) (peer : ℕ) (body : Body) (purpose : Purpose) → Has (unlabelled layer peer body) (asking_step layer peer body purpose).0
unfolding asking_step
step_has layer peer body purpose = in_has (peer_place peer layer) layer peer (unlabelled layer peer body) purpose

-- ---- they begin with a tcode of 0 or 1 where the body writes

abbrev tcode_for : Body → ℕ
tcode_for (quadlet_write offset value) = 0
tcode_for (block_write offset payload) = 1
tcode_for (quadlet_read offset) = 4
tcode_for (block_read offset asked) = 5

body_tcode : (node peer : ℕ) (body : Body) → tcode_of (canon (request_with (header_to node peer 0) body)) ≡ tcode_for body
unfolding three four
body_tcode node peer (quadlet_write offset value) = quad_tcode peer 0 (canon (request_with (header_to node peer 0) (quadlet_write offset value))) _ (omega arith) refl
body_tcode node peer (block_write offset payload) = quad_tcode peer 1 (canon (request_with (header_to node peer 0) (block_write offset payload))) _ (omega arith) refl
body_tcode node peer (quadlet_read offset) = quad_tcode peer 4 (canon (request_with (header_to node peer 0) (quadlet_read offset))) _ (omega arith) refl
body_tcode node peer (block_read offset asked) = quad_tcode peer 5 (canon (request_with (header_to node peer 0) (block_read offset asked))) _ (omega arith) refl

for_writes : (body : Body) → nat_le (tcode_for body) 1 ≡ writes_body body
for_writes (quadlet_write offset value) = refl
for_writes (block_write offset payload) = refl
for_writes (quadlet_read offset) = refl
for_writes (block_read offset asked) = refl

pub asked_writes : (layer now : Layer Purpose) (peer : ℕ) (body : Body) (purpose : Purpose) (asked : Asked) → asking_step layer peer body purpose ≡ (Some asked, now) → is_write asked.bytes ≡ writes_body body
unfolding is_write
asked_writes layer now peer body purpose asked e =
    let h : asked.bytes ≡ with_label asked.label.number (unlabelled layer peer body)
    = subst (λ (r : Option Asked × Layer Purpose). Has (unlabelled layer peer body) r.0) e (step_has layer peer body purpose) in
    ap (λ bytes. nat_le (tcode_of bytes) 1) h
    ∙ ap (λ t. nat_le t 1) (tcode_same asked.label.number (unlabelled layer peer body) ∙ body_tcode layer.node peer body)
    ∙ for_writes body

-- ---- what an agent asks for has a body that does what it wants

pub record HasBody (a : Ask) (b : Option Body) : Type 0 where
  pub body : Body
  pub is : b ≡ Some body
  pub wanted : wants a (writes_body body) ≡ true

read_body : (b : Bool) (offset len : ℕ) → b ≡ true → HasBody (ask.Read offset len) (cond b (Some (block_read offset len)) None)
read_body true offset len e = record { body = block_read offset len; is = refl; wanted = refl }
read_body false offset len e = absurd (let no : false ≡ true = e in cc)

write_body : (b : Bool) (offset len at : ℕ) (outgoing : List ℕ) → b ≡ true → HasBody (ask.Write offset len) (cond b (Some (block_write at outgoing)) None)
write_body true offset len at outgoing e = record { body = block_write at outgoing; is = refl; wanted = refl }
write_body false offset len at outgoing e = absurd (let no : false ≡ true = e in cc)

pub has_body : (a : Ask) (fin : Bool) (fifo : ℕ) (outgoing : List ℕ) → Carries a outgoing → is_asked a ≡ true → HasBody a (agent_body a fin fifo outgoing)
has_body ask.Nothing fin fifo outgoing c e = absurd (let no : false ≡ true = e in cc)
has_body (ask.Read offset len) fin fifo outgoing c e = read_body (nat_le len largest) offset len (grind (arith, nat_tests))
has_body (ask.Write offset len) fin fifo outgoing c e = write_body (nat_le (length outgoing) largest) offset len (cond fin fifo offset) outgoing (grind (arith, nat_tests))

pub no_body : (a : Ask) (fin : Bool) (fifo : ℕ) (outgoing : List ℕ) → is_asked a ≡ false → agent_body a fin fifo outgoing ≡ None
no_body ask.Nothing fin fifo outgoing e = refl
no_body (ask.Read offset len) fin fifo outgoing e = absurd (let no : true ≡ false = e in cc)
no_body (ask.Write offset len) fin fifo outgoing e = absurd (let no : true ≡ false = e in cc)
