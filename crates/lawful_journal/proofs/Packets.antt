-- The packets of a turn: where what is asked and what stands before is the same, they are the same.
use Rattle.std.proofs.Common.{◌≡◌, ◌∙◌, ℕ, ◌+◌, Bool, true, false, List, [], ◌∷◌, ◌++◌, length, drop, unwrap_or, refl, sym, ap, ap₂}
use Rattle.async_packet.specs.Canon.{canon}
use Rattle.label_table.specs.Bodies.{Body, header_to, request_with}
use Rattle.label_table.specs.Requests.{label_of}
use Rattle.sbp_journal.specs.Run.{Moment, said}
use Rattle.sbp_journal.specs.Wire.{Terms, terms}
use Rattle.sbp_journal.specs.declared.note.Note.{Note}
use Rattle.sbp_journal.specs.declared.note.Note.TheVariants as notes
use Rattle.sbp_laws.specs.Agents.{Request}
use Rattle.sbp_laws.specs.Packets.{id_for, id_of, label_for, request_bytes}
use Rattle.sbp_laws.specs.SentAnswers.{Begins}
use Rattle.sbp_laws.specs.SentRequests.{ArePackets, IsAsked, IsRequest}
use Rattle.lawful_journal.specs.Telling.{ChunksAsTold, IsAsTold, Telling, told_body}

-- the packets begin with these, and go on behind them
pub begins_with : (due sent : List Note) → Begins due sent → sent ≡ due ++ drop (length due) sent
begins_with [] sent begins = refl
begins_with (note ∷ due) [] begins = elim begins [ ]
begins_with (note ∷ due) (first ∷ sent) begins = ap₂ (λ n l. n ∷ l) begins.0 (begins_with due sent begins.1)

-- the packet of a request by the terms where it stands
abbrev pub packet_under : ℕ → Terms → (node to : ℕ) → Body → Note
packet_under label wire node to body =
    notes.Sent (wire.count + 1) (wire.generation node) node to (canon (request_with (header_to (id_of wire node) (id_for wire node to) label) body))

abbrev pub packet_of : Terms → (node to : ℕ) → Body → Note
packet_of wire node to body = packet_under (unwrap_or (label_for wire node to (request_bytes wire node to body)) 0) wire node to body

five : (a b c d a' b' c' d' : ℕ) (e e' : List ℕ) → a ≡ a' → b ≡ b' → c ≡ c' → d ≡ d' → e ≡ e' → notes.Sent a b c d e ≡ notes.Sent a' b' c' d' e'
five a b c d a' b' c' d' e e' p q r s u =
    ap (λ x. notes.Sent x b c d e) p ∙ ap (λ x. notes.Sent a' x c d e) q ∙ ap (λ x. notes.Sent a' b' x d e) r ∙ ap (λ x. notes.Sent a' b' c' x e) s ∙ ap (notes.Sent a' b' c' d') u

is_packet : (wire : Terms) (node : ℕ) (want : Request) (body : Body) (serial generation from to : ℕ) (bytes : List ℕ)
    → IsRequest wire node want body serial generation from to bytes → notes.Sent serial generation from to bytes ≡ packet_of wire node want.to body
is_packet wire node want body serial generation from to bytes is =
    five serial generation from to (wire.count + 1) (wire.generation node) node want.to bytes (canon (request_with (header_to (id_of wire node) (id_for wire node want.to) (label_of bytes)) body)) is.number is.in_generation is.sender is.receiver is.spelled
    ∙ ap (λ label. packet_under (unwrap_or label 0) wire node want.to body) (sym is.label)

module _ (telling : Telling) where
  abbrev pub body_told : Bool → Body → Terms → Body
  body_told true body wire = told_body (telling.chunks (wire.count + 1)) body
  body_told false body wire = body

  module _ (wire : Terms) (node : ℕ) (want : Request) (serial generation from to : ℕ) (bytes : List ℕ) where
    one_packet : (is_untold : Bool) (body : Body) → IsAsked is_untold body wire node want serial generation from to bytes → IsAsTold is_untold body telling wire node want serial generation from to bytes
        → notes.Sent serial generation from to bytes ≡ packet_of wire node want.to (body_told is_untold body wire)
    one_packet true body asked told = is_packet wire node want (body_told true body wire) serial generation from to bytes told
    one_packet false body asked told = is_packet wire node want body serial generation from to bytes asked

  abbrev pub packets_of : List Moment → (node : ℕ) → List Request → List Note
  packets_of past node [] = []
  packets_of past node (want ∷ requests) =
      let note = packet_of (terms past) node want.to (body_told want.is_untold want.body (terms past)) in note ∷ packets_of (said note ∷ past) node requests

  -- the packets of a turn are those of its requests
  pub packets_are : (past : List Moment) (node : ℕ) (rest : List Note) (requests : List Request) → ArePackets past node rest requests → ChunksAsTold telling past node rest requests
      → rest ≡ packets_of past node requests
  packets_are past node [] [] are told = refl
  packets_are past node (notes.Sent serial generation from to bytes ∷ rest) (want ∷ requests) are told =
      ap (λ l. notes.Sent serial generation from to bytes ∷ l) (packets_are (said (notes.Sent serial generation from to bytes) ∷ past) node rest requests are.1 told.1)
      ∙ ap (λ note. note ∷ packets_of (said note ∷ past) node requests)
      (one_packet (terms past) node want serial generation from to bytes want.is_untold want.body are.0 told.0)
  packets_are past node [] (want ∷ requests) are told = elim are [ ]
  packets_are past node (notes.Sent serial generation from to bytes ∷ rest) [] are told = elim are [ ]
  packets_are past node (note ∷ rest) [] are told = elim are [ ]
  packets_are past node (note ∷ rest) (want ∷ requests) are told = elim are [ ]
