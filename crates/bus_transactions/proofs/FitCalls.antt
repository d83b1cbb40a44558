-- A call of a node, step by step: what is said of it so far is kept by telling, giving up, asking and answering.
use Rattle.std.proofs.Common.{arith, ◌≡◌, ◌≢◌, refl, sym, ap, ◌∙◌, subst, ℕ, zero, suc, ◌+◌, ◌^◌, ◌<◌, ◌≤◌, ◌==◌, nat_eq, nat_lt, Bool, true, false, cond, List, [], ◌∷◌, ◌++◌, append-nil, append_assoc, length, map, replicate, Option, Some, None, Result, Ok, Err}
use Rattle.std.proofs.lemmas.Bool.Decides.{nat_tests}
use Rattle.async_packet.specs.declared.fault.PacketFault.{PacketFault}
use Rattle.async_packet.specs.Canon.{canon}
use Rattle.async_packet.specs.Labels.{LabelParts}
use Rattle.async_packet.specs.Packet.{Packet, header_in}
use Rattle.async_packet.specs.Reading.{reading}
use Rattle.bus_transactions.specs.Fitting.{AreBytes, AreSmall, FitsAnswer, FitsRequest, IsLayer}
use Rattle.bus_transactions.specs.May.{may_ignore}
use Rattle.bus_transactions.specs.Steps.{AreAsks, AreGivenUp, ArePlainSides, GivesUp, of_known, IsAnswering, IsAsking, IsDelivery, IsExpiry, IsPlainSide, answer_to, layer_after, request_to, requests_of, with_asked}
use Rattle.bus_transactions.specs.Wire.{Reply, as_before, as_decided, is_reply}
use Rattle.bus_transactions.proofs.Fits.{answer_bytes, answer_fits, request_fits}
use Rattle.bus_transactions.proofs.FitSteps.{IfAsked, answers_go, asked_bytes, asks_same, disowns_same, goes}
use Rattle.label_table.specs.declared.judgement.Asked.{Asked}
use Rattle.label_table.specs.Bodies.{Body, header_to, response_to}
use Rattle.label_table.specs.Layer.{Layer, answering_step, asking_step, disowning_step}
use Rattle.label_table.specs.Requests.{IsRequestOf}
use Rattle.label_table.specs.History as wire
use Rattle.sbp_journal.specs.declared.outbox.Outgoing.{Outgoing}
use Rattle.sbp_journal.specs.declared.side.Side.{Side}

-- ---- lists of packets and of what is told
pub small_append : (one two : List Outgoing) → AreSmall one → AreSmall two → AreSmall (one ++ two)
small_append [] two a b = b
small_append (packet ∷ one) two a b = (a.0, small_append one two a.1 b)

pub plain_append : (one two : List Side) → ArePlainSides one → ArePlainSides two → ArePlainSides (one ++ two)
plain_append [] two a b = b
plain_append (side ∷ one) two a b = (a.0, plain_append one two a.1 b)

asked_small : (peer : ℕ) (asked : Option Asked) (packets : List Outgoing) → IfAsked asked → AreSmall packets → AreSmall (with_asked peer asked packets)
asked_small peer None packets a s = s
asked_small peer (Some asked) packets a s = small_append packets (request_to peer asked ∷ []) s (a, tt)

-- what stands of the packets and the telling of a call
pub record Beside {P : Type 0} (layer : Layer P) (packets : List Outgoing) (told : List Side) : Type 0 where
  pub comes : IsLayer layer
  pub small : AreSmall packets
  pub plain : ArePlainSides told

module _ {P : Type 0} where
  pub beside_told : (layer : Layer P) (packets : List Outgoing) (told : List Side) (side : Side) → IsPlainSide side → Beside layer packets told → Beside layer packets (told ++ side ∷ [])
  beside_told layer packets told side p b = record { comes = b.comes; small = b.small; plain = plain_append told (side ∷ []) b.plain (p, tt) }

  beside_disowned : (layer : Layer P) (packets : List Outgoing) (told : List Side) (peer : ℕ) (label : LabelParts) → Beside layer packets told → Beside (disowning_step layer peer label) packets told
  beside_disowned layer packets told peer label b =
      record { comes = goes layer (wire.disowns peer label) (disowns_same layer peer label) b.comes; small = b.small; plain = b.plain }

  beside_asked : (layer : Layer P) (packets : List Outgoing) (told : List Side) (peer : ℕ) (body : Body) (purpose : P) → FitsRequest body → Beside layer packets told → Beside (asking_step layer peer body purpose).1 (with_asked peer (asking_step layer peer body purpose).0 packets) told
  beside_asked layer packets told peer body purpose f b = record {
    comes = goes layer (wire.asks peer body purpose) (asks_same layer peer body purpose) b.comes;
    small = asked_small peer (asking_step layer peer body purpose).0 packets (asked_bytes layer peer body purpose b.comes f) b.small;
    plain = b.plain;
  }

module _ {P : Type 0} (known : ℕ → Type 0) (ids : (id : ℕ) → known id → id < 2 ^ 16) (before : Layer P) where
  -- ---- asks
  pub record Asking (layer : Layer P) (packets : List Outgoing) (told : List Side) : Type 0 where
    pub beside : Beside layer packets told
    pub asks : IsAsking known before layer packets

  asks_on : (first layer : Layer P) (packets : List Outgoing) (peer : ℕ) (body : Body) (purpose : P) → layer.node < 2 ^ 16 → known peer → FitsRequest body → IsAsking known first layer packets → IsAsking known first (asking_step layer peer body purpose).1 (with_asked peer (asking_step layer peer body purpose).0 packets)
  asks_on first layer packets peer body purpose s n f i =
      let e : asking_step (layer_after first i.steps) peer body purpose ≡ asking_step layer peer body purpose = ap (λ (l : Layer P). asking_step l peer body purpose) i.layer_is in
      record {
        steps = wire.asks peer body purpose ∷ i.steps;
        may = (record { there = n; valid = request_fits (layer_after first i.steps).node peer body (subst (λ (m : ℕ). m < 2 ^ 16) (sym (ap (λ (l : Layer P). l.node) i.layer_is)) s) (ids peer n) f }, i.may);
        layer_is = ap (λ (p : Option Asked × Layer P). p.1) e;
        packets_are = ap (λ (p : Option Asked × Layer P). with_asked peer p.0 (requests_of first i.steps)) e
            ∙ ap (λ (ps : List Outgoing). with_asked peer (asking_step layer peer body purpose).0 ps) i.packets_are;
      }

  disowns_on : (first layer : Layer P) (packets : List Outgoing) (peer : ℕ) (label : LabelParts) → known peer → IsAsking known first layer packets → IsAsking known first (disowning_step layer peer label) packets
  disowns_on first layer packets peer label n i = record {
    steps = wire.disowns peer label ∷ i.steps;
    may = (of_known n, i.may);
    layer_is = ap (λ (l : Layer P). disowning_step l peer label) i.layer_is;
    packets_are = i.packets_are;
  }

  pub asking_tells : (layer : Layer P) (packets : List Outgoing) (told : List Side) (side : Side) → IsPlainSide side → Asking layer packets told → Asking layer packets (told ++ side ∷ [])
  asking_tells layer packets told side p m = record { beside = beside_told layer packets told side p m.beside; asks = m.asks }

  pub asking_disowns : (layer : Layer P) (packets : List Outgoing) (told : List Side) (peer : ℕ) (label : LabelParts) → known peer → Asking layer packets told → Asking (disowning_step layer peer label) packets told
  asking_disowns layer packets told peer label n m =
      record { beside = beside_disowned layer packets told peer label m.beside; asks = disowns_on before layer packets peer label n m.asks }

  pub asking_asks : (layer : Layer P) (packets : List Outgoing) (told : List Side) (peer : ℕ) (body : Body) (purpose : P) → known peer → FitsRequest body → Asking layer packets told → Asking (asking_step layer peer body purpose).1 (with_asked peer (asking_step layer peer body purpose).0 packets) told
  asking_asks layer packets told peer body purpose n f m = record {
    beside = beside_asked layer packets told peer body purpose f m.beside;
    asks = asks_on before layer packets peer body purpose m.beside.comes.small n f m.asks;
  }

  pub no_ask : IsLayer before → Asking before [] []
  no_ask c = record { beside = record { comes = c; small = tt; plain = tt }; asks = record { steps = []; may = tt; layer_is = refl; packets_are = refl } }

  -- ---- transactions given up, before an answer
  pub record Calm (layer : Layer P) (packets : List Outgoing) (told : List Side) : Type 0 where
    pub beside : Beside layer packets told
    pub left : List (wire.Call P)
    pub may : AreGivenUp known before left
    pub layer_is : layer_after before left ≡ layer
    pub none : packets ≡ []

  pub calm_tells : (layer : Layer P) (packets : List Outgoing) (told : List Side) (side : Side) → IsPlainSide side → Calm layer packets told → Calm layer packets (told ++ side ∷ [])
  calm_tells layer packets told side p m = record { beside = beside_told layer packets told side p m.beside; left = m.left; may = m.may; layer_is = m.layer_is; none = m.none }

  pub calm_disowns : (layer : Layer P) (packets : List Outgoing) (told : List Side) (peer : ℕ) (label : LabelParts) → known peer → Calm layer packets told → Calm (disowning_step layer peer label) packets told
  calm_disowns layer packets told peer label n m = record {
    beside = beside_disowned layer packets told peer label m.beside;
    left = wire.disowns peer label ∷ m.left;
    may = (of_known n, m.may);
    layer_is = ap (λ (l : Layer P). disowning_step l peer label) m.layer_is;
    none = m.none;
  }

  pub no_leaving : IsLayer before → Calm before [] []
  no_leaving c = record { beside = record { comes = c; small = tt; plain = tt }; left = []; may = tt; layer_is = refl; none = refl }

  -- ---- the answer, and asks behind it
  module _ (reply : Reply) (p : Packet) (bytes : List ℕ) where
    pub record Answering (layer : Layer P) (packets : List Outgoing) (told : List Side) : Type 0 where
      pub beside : Beside layer packets told
      pub answers : IsAnswering known reply p bytes before layer packets

    behind_answer : (answer : Outgoing) (peer : ℕ) (asked : Option Asked) (more packets : List Outgoing) → answer ∷ more ≡ packets → answer ∷ with_asked peer asked more ≡ with_asked peer asked packets
    behind_answer answer peer None more packets e = e
    behind_answer answer peer (Some asked) more packets e = ap (λ (ps : List Outgoing). ps ++ request_to peer asked ∷ []) e

    pub answering_tells : (layer : Layer P) (packets : List Outgoing) (told : List Side) (side : Side) → IsPlainSide side → Answering layer packets told → Answering layer packets (told ++ side ∷ [])
    answering_tells layer packets told side q m = record { beside = beside_told layer packets told side q m.beside; answers = m.answers }

    pub answering_disowns : (layer : Layer P) (packets : List Outgoing) (told : List Side) (peer : ℕ) (label : LabelParts) → known peer → Answering layer packets told → Answering (disowning_step layer peer label) packets told
    answering_disowns layer packets told peer label n m =
        let i = m.answers in
        record {
          beside = beside_disowned layer packets told peer label m.beside;
          answers = record {
            left = i.left;
            rcode = i.rcode;
            given = i.given;
            more = i.more;
            may_leave = i.may_leave;
            stated = i.stated;
            gives = i.gives;
            valid = i.valid;
            asks = disowns_on (answering_step (layer_after before i.left) p bytes i.rcode i.given).1 layer i.more peer label n i.asks;
            packets_are = i.packets_are;
          };
        }

    pub answering_asks : (layer : Layer P) (packets : List Outgoing) (told : List Side) (peer : ℕ) (body : Body) (purpose : P) → known peer → FitsRequest body → Answering layer packets told → Answering (asking_step layer peer body purpose).1 (with_asked peer (asking_step layer peer body purpose).0 packets) told
    answering_asks layer packets told peer body purpose n f m =
        let i = m.answers in
        record {
          beside = beside_asked layer packets told peer body purpose f m.beside;
          answers = record {
            left = i.left;
            rcode = i.rcode;
            given = i.given;
            more = with_asked peer (asking_step layer peer body purpose).0 i.more;
            may_leave = i.may_leave;
            stated = i.stated;
            gives = i.gives;
            valid = i.valid;
            asks = asks_on (answering_step (layer_after before i.left) p bytes i.rcode i.given).1 layer i.more peer body purpose m.beside.comes.small n f i.asks;
            packets_are = behind_answer (answer_to p (answering_step (layer_after before i.left) p bytes i.rcode i.given).0) peer (asking_step layer peer body purpose).0 i.more packets i.packets_are;
          };
        }

    answered_small : (layer : Layer P) (rcode : ℕ) (given : List ℕ) → AreBytes given → AreBytes (answering_step layer p bytes rcode given).0
    unfolding answering_step
    answered_small layer rcode given a = answer_bytes _ p rcode given a

    pub answering_answers : (header_in p).source < 2 ^ 16 → IsRequestOf bytes p → (layer : Layer P) (packets : List Outgoing) (told : List Side) (rcode : ℕ) (given : List ℕ) → is_reply reply rcode ≡ true → FitsAnswer p rcode given → Calm layer packets told → Answering (answering_step layer p bytes rcode given).1 (packets ++ answer_to p (answering_step layer p bytes rcode given).0 ∷ []) told
    answering_answers s r layer packets told rcode given t f m =
        let e : answering_step (layer_after before m.left) p bytes rcode given ≡ answering_step layer p bytes rcode given = ap (λ (l : Layer P). answering_step l p bytes rcode given) m.layer_is in
        record {
          beside = record {
            comes = answers_go layer p bytes rcode given f.small m.beside.comes;
            small = small_append packets (answer_to p (answering_step layer p bytes rcode given).0 ∷ []) m.beside.small (answered_small layer rcode given f.bytes, tt);
            plain = m.beside.plain;
          };
          answers = record {
            left = m.left;
            rcode = rcode;
            given = given;
            more = [];
            may_leave = m.may;
            stated = t;
            gives = f.gives;
            valid = answer_fits (layer_after before m.left).node p bytes rcode given (subst (λ (l : Layer P). l.node < 2 ^ 16) (sym m.layer_is) m.beside.comes.small) s r f;
            asks = record { steps = []; may = tt; layer_is = ap (λ (x : List ℕ × Layer P). x.1) e; packets_are = refl };
            packets_are = ap (λ (x : List ℕ × Layer P). answer_to p x.0 ∷ []) e
                ∙ ap (λ (ps : List Outgoing). ps ++ answer_to p (answering_step layer p bytes rcode given).0 ∷ []) (sym m.none);
          };
        }
