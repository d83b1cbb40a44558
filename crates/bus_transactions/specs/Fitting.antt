-- What fits a packet, whatever node sends it: bytes, the body of a request, and the answer to one; and a layer that its own calls led to.
use Rattle.std.specs.Prelude.{◌≡◌, ◌<◌, ◌≤◌, ℕ, ◌^◌, List, [], ◌∷◌, length, slice_index_or}
use Rattle.async_packet.specs.Fields.{largest}
use Rattle.async_packet.specs.Packet.{Packet}
use Rattle.label_table.specs.Bodies.{Body, Gives, quadlet_write, block_write, quadlet_read, block_read}
use Rattle.label_table.specs.Filter.{SourcePlace, request_at, source_at}
use Rattle.label_table.specs.Layer.{Layer}
use Rattle.label_table.specs.History as wire
use Rattle.sbp_journal.specs.declared.outbox.Outgoing.{Outgoing}

-- numbers below 256
abbrev pub AreBytes : List ℕ → Type 0
AreBytes bytes = (k : ℕ) → slice_index_or bytes k 0 < 256

-- packets whose bytes are such
abbrev pub AreSmall : List Outgoing → Type 0
AreSmall [] = Unit {0}
AreSmall (packet ∷ packets) = AreBytes packet.bytes × AreSmall packets

-- a body whose address has 48 bits and whose value has 32, with a payload of bytes that is not too long, or that asks for no more
abbrev pub FitsRequest : Body → Type 0
FitsRequest (quadlet_write offset value) = (offset < 2 ^ 48) × (value < 2 ^ 32)
FitsRequest (block_write offset payload) = (offset < 2 ^ 48) × (length payload ≤ largest) × AreBytes payload
FitsRequest (quadlet_read offset) = offset < 2 ^ 48
FitsRequest (block_read offset asked) = (offset < 2 ^ 48) × (asked ≤ largest)

-- an rcode of 4 bits, and bytes, as many as were asked for where the rcode is 0
pub record FitsAnswer (asked : Packet) (rcode : ℕ) (given : List ℕ) : Type 0 where
  pub small : rcode < 2 ^ 4
  pub bytes : AreBytes given
  pub gives : Gives asked rcode given

-- each request that is remembered has an rcode of 4 bits
abbrev pub FitsFilter : List SourcePlace → Type 0
FitsFilter filter = (k label : ℕ) → (request_at label (source_at filter k)).rcode < 2 ^ 4

-- a layer that calls led to, from a new one on, with such a filter and an ID of 16 bits
pub record IsLayer {P : Type 0} (layer : Layer P) : Type 0 where
  pub first : ℕ
  pub calls : List (wire.Call P)
  pub layer_is : wire.after first calls ≡ layer
  pub filter : FitsFilter layer.filter
  pub small : layer.node < 2 ^ 16
