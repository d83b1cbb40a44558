-- A write that a layer is asked for waits for the answer to a write.
use Rattle.std.proofs.Common.{arith, ◌≡◌, ◌∙◌, refl, sym, ap, subst, ℕ, ◌≤◌, nat_eq, nat_le, true, false, cond, List, Option, Some, None}
use Rattle.std.proofs.lemmas.Bool.Decides.{nat_tests}
use Rattle.async_packet.specs.Fields.{tcode_of}
use Rattle.label_table.specs.Bodies.{Body, block_write}
use Rattle.label_table.specs.Layer.{Layer, asked_at, asking_in, asking_step, peer_at, peer_place, unlabelled}
use Rattle.label_table.specs.Owned.{owned_place}
use Rattle.label_table.specs.Peers.{begun_for, no_peer, peer_of, state_for}
use Rattle.label_table.specs.Requests.{is_write, kind_by_tcode, kind_of, with_label}
use Rattle.label_table.specs.Table.{begin_at, begin_step, lowest_from, place_at}
use Rattle.label_table.specs.declared.judgement.Asked.{Asked}
use Rattle.label_table.specs.declared.place.LabelState.TheVariants as states
use Rattle.label_table.specs.declared.place.Place.{Place}
use Rattle.label_table.specs.declared.reply.ReplyKind.TheVariants as kinds
use Rattle.label_table.proofs.Owned.{own_shown}
use Rattle.label_table.proofs.Steps.{lowest_below, state_placed}
use Rattle.sbp_target.specs.declared.purpose.Purpose.{Purpose}
use Rattle.sbp_world.proofs.Agents.Writes.{asked_writes}
use Rattle.sbp_world.proofs.Hosts.Mild.{tcode_same}

-- the label of a request that was asked for waits for an answer of its kind
record WaitsBy (layer : Layer Purpose) (peer : ℕ) (bytes : List ℕ) (asked : Asked) : Type 0 where
  call : ℕ
  state : state_for layer.peers peer asked.label.number ≡ states.UnderWay (kind_of bytes) call
  spelled : asked.bytes ≡ with_label asked.label.number bytes

abbrev IfAsked : ℕ → List ℕ → Option Asked × Layer Purpose → Type 0
IfAsked peer bytes (None, new) = Unit {0}
IfAsked peer bytes (Some asked, new) = WaitsBy new peer bytes asked

abbrev Begins : Layer Purpose → (k peer : ℕ) → List ℕ → Purpose → Option ℕ → Option Asked × Layer Purpose
Begins layer k peer bytes purpose number = asked_at k layer (begun_for (peer_at layer k) peer purpose (begin_at number (peer_at layer k).table bytes))

at_label : (layer : Layer Purpose) (k peer : ℕ) (bytes : List ℕ) (purpose : Purpose) → owned_place peer_of peer layer.peers ≡ Some k → (number : Option ℕ) → lowest_from 0 bytes (peer_at layer k).table.places ≡ number → IfAsked peer bytes (Begins layer k peer bytes purpose number)
at_label layer k peer bytes purpose e None f = tt
at_label layer k peer bytes purpose e (Some n) f =
    let table = (peer_at layer k).table in
    let place : Place = record { state = states.UnderWay (kind_of bytes) table.calls; last = Some (with_label n bytes) } in
    let new = (begun_for (peer_at layer k) peer purpose (begin_at (Some n) table bytes)).1.0 in
    let same : nat_eq n n ≡ true = grind (arith, nat_tests) in
    record {
      call = table.calls;
      state = own_shown peer_of (λ p. (place_at p.table n).state) no_peer states.Free peer layer.peers k new e refl
          ∙ (state_placed table n n place (lowest_below n bytes table.places f) ∙ ap (λ b. cond b place.state (place_at table n).state) same);
      spelled = refl;
    }

in_place : (place : Option ℕ) (layer : Layer Purpose) (peer : ℕ) (bytes : List ℕ) (purpose : Purpose) → owned_place peer_of peer layer.peers ≡ place → IfAsked peer bytes (asking_in place layer peer bytes purpose)
unfolding begin_step
in_place None layer peer bytes purpose e = tt
in_place (Some k) layer peer bytes purpose e = at_label layer k peer bytes purpose e (lowest_from 0 bytes (peer_at layer k).table.places) refl

by_step : (layer : Layer Purpose) (peer : ℕ) (body : Body) (purpose : Purpose) → IfAsked peer (unlabelled layer peer body) (asking_step layer peer body purpose)
unfolding asking_step
by_step layer peer body purpose = in_place (peer_place peer layer) layer peer (unlabelled layer peer body) purpose refl

write_kind : (t : ℕ) → nat_le t 1 ≡ true → kind_by_tcode t ≡ kinds.Write
write_kind t e =
    let low : t ≤ 1 = grind (arith, nat_tests) in
    let four : nat_eq t 4 ≡ false = grind (arith, nat_tests) in
    let five : nat_eq t 5 ≡ false = grind (arith, nat_tests) in
    let nine : nat_eq t 9 ≡ false = grind (arith, nat_tests) in
    ap (λ b. cond b kinds.ReadQuadlet (cond (nat_eq t 5) kinds.ReadBlock (cond (nat_eq t 9) kinds.Lock kinds.Write))) four
    ∙ (ap (λ b. cond b kinds.ReadBlock (cond (nat_eq t 9) kinds.Lock kinds.Write)) five ∙ ap (λ b. cond b kinds.Lock kinds.Write) nine)

pub record WaitsToWrite (layer : Layer Purpose) (peer number : ℕ) : Type 0 where
  pub call : ℕ
  pub state : state_for layer.peers peer number ≡ states.UnderWay kinds.Write call

pub write_waits : (layer new : Layer Purpose) (peer fifo : ℕ) (payload : List ℕ) (purpose : Purpose) (asked : Asked) → asking_step layer peer (block_write fifo payload) purpose ≡ (Some asked, new) → WaitsToWrite new peer asked.label.number
unfolding kind_of is_write
write_waits layer new peer fifo payload purpose asked e =
    let body = block_write fifo payload in
    let bytes = unlabelled layer peer body in
    let w : WaitsBy new peer bytes asked = subst (IfAsked peer bytes) e (by_step layer peer body purpose) in
    let writes : nat_le (tcode_of asked.bytes) 1 ≡ true = asked_writes layer new peer body purpose asked e in
    let same : tcode_of asked.bytes ≡ tcode_of bytes = ap tcode_of w.spelled ∙ tcode_same asked.label.number bytes in
    let kind_is : kind_of bytes ≡ kinds.Write = write_kind (tcode_of bytes) (ap (λ t. nat_le t 1) (sym same) ∙ writes) in
    record { call = w.call; state = w.state ∙ ap (λ k. states.UnderWay k w.call) kind_is }
