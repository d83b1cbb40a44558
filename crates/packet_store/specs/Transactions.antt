-- Which transaction a packet belongs to, and which it begins (IEEE 1394-1995, transaction layer): a
-- transaction is told apart by its generation, its requester, its responder and its label.
use Rattle.std.specs.Prelude.{◌≡◌, ℕ, ◌+◌, ◌*◌, ◌==◌, ◌&&◌, Bool, true, false, if◌then◌else◌, Option, Some, None}
use Rattle.std.specs.Hash as fed
use Rattle.std.proofs.lemmas.Bool.{and_parts, eqb-true}
use Rattle.packet_store.specs.declared.sent.Sent.{Sent}
use Rattle.packet_store.specs.declared.transaction.Transaction.{Transaction}
use Rattle.packet_store.specs.declared.role.Role.{Role}
use Rattle.packet_store.specs.declared.role.Role.TheVariants.{Request, Response, NoPacket}
use Rattle.packet_store.specs.Roles.{role_of}

-- of a packet with this role: a request is its sender's, and an injected one is of no transaction; a
-- response is of the node that it goes to
abbrev pub transaction_by : Role → Sent → Option Transaction
transaction_by (Request label) sent =
    if sent.injected
    then None
    else Some (record { generation = sent.generation; requester = sent.from; responder = sent.to; label = label })
transaction_by (Response label) sent =
    Some (record { generation = sent.generation; requester = sent.to; responder = sent.from; label = label })
transaction_by NoPacket sent = None

unfoldable pub transaction_of : Sent → Option Transaction
transaction_of sent = transaction_by (role_of sent.bytes) sent

-- the transaction that a packet with this role begins, by the one that it belongs to
abbrev pub begun_as : Role → Option Transaction → Option Transaction
begun_as (Request label) transaction = transaction
begun_as role transaction = None

unfoldable pub begun_by : Sent → Option Transaction
begun_by sent = begun_as (role_of sent.bytes) (transaction_by (role_of sent.bytes) sent)

-- a transaction as one number, by the bytes of its fields
abbrev pub number_of : Transaction → ℕ
number_of t = t.generation * 16777216 + (t.requester * 65536 + t.responder * 256) + t.label

-- two transactions are the same
abbrev pub is_same : Transaction → Transaction → Bool
is_same t u =
    (t.generation == u.generation) && ((t.requester == u.requester) && ((t.responder == u.responder) && (t.label == u.label)))

-- the same transactions are hashed alike
pub hashed_alike : (t u : Transaction) → is_same t u ≡ true → fed.u64 (number_of t) ≡ fed.u64 (number_of u)
hashed_alike t u e =
    let a = and_parts (t.generation == u.generation) _ e in
    let b = and_parts (t.requester == u.requester) _ a.1 in
    let c = and_parts (t.responder == u.responder) (t.label == u.label) b.1 in
    let generation = eqb-true t.generation u.generation a.0 in
    let requester = eqb-true t.requester u.requester b.0 in
    let responder = eqb-true t.responder u.responder c.0 in
    let label = eqb-true t.label u.label c.1 in
    λ i. fed.u64 (generation i * 16777216 + (requester i * 65536 + responder i * 256) + label i)

-- a transaction is the one of a packet
abbrev pub is_that : Transaction → Option Transaction → Bool
is_that t None = false
is_that t (Some u) = is_same u t

-- a packet belongs to a transaction
unfoldable pub belongs : Transaction → Sent → Bool
belongs t sent = is_that t (transaction_of sent)
