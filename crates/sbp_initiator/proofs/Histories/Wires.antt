-- The calls of the transaction layer behind the calls of an initiator: what they were asked for, and which values they carry.
use Rattle.std.proofs.Common.{arith, ◌≡◌, refl, sym, ap, subst, ◌∙◌, ℕ, ◌+◌, ◌<◌, ◌≤◌, ◌++◌, nat_lt, Bool, true, false, cond, List, [], ◌∷◌, Option, Some, None}
use Rattle.async_packet.specs.Labels.{LabelParts}
use Rattle.async_packet.specs.Packet.{Packet}
use Rattle.label_table.specs.declared.judgement.Asked.{Asked}
use Rattle.label_table.specs.Bodies.{Body}
use Rattle.label_table.specs.Layer.{Layer, answering_step, asking_step, expiring_step, judging_step, seeing_step}
use Rattle.label_table.specs.History as wire
use Rattle.sbp_journal.specs.declared.outbox.Outgoing.{Outgoing}
use Rattle.sbp_initiator.specs.declared.purpose.Purpose.{Purpose}
use Rattle.sbp_initiator.specs.declared.purpose.Purpose.TheVariants as purposes
use Rattle.sbp_initiator.specs.Histories.Moves.{outgoing, response}
use Rattle.sbp_initiator.specs.Histories.Laws.{packets_of, with_asked}
use Rattle.sbp_initiator.specs.Histories.Numbers.{is_numbered, value_of, numbered_by, carried, RisesTo}
use Rattle.sbp_initiator.specs.Histories.Marks.{expired_reads, finding_reads}
use Rattle.sbp_initiator.proofs.Histories.Lives.{AllNew, IsNew, LivesIn, ask_lives, expire_lives, judge_lives, read_act, reads_with, see_lives}
use Rattle.sbp_initiator.proofs.Histories.Purposes.{AllAsk}

-- a layer and the packets that were handed out, by calls that were all asked for something of a kind, and whose reads of AGENT_STATE
-- under way are among these
pub record Wire (P : Purpose → Type 0) (reads : List ℕ) (node running : ℕ) (layer : Layer Purpose) (packets : List Outgoing) : Type 0 where
  pub calls : List (wire.Call Purpose)
  pub layer_is : wire.after node calls ≡ layer
  pub packets_are : packets_of node calls ≡ packets
  pub rises : RisesTo running (carried node calls)
  pub asks : AllAsk P calls
  pub new : AllNew calls
  pub lives : LivesIn reads (wire.history node calls)

pub rises_on : (a b : ℕ) (values : List (Option ℕ)) → a ≤ b → RisesTo a values → RisesTo b values
rises_on a b [] h r = tt
rises_on a b (None ∷ values) h r = r
rises_on a b (Some value ∷ values) h r = let v : value < a = r.0 in (omega arith, r.1)

-- a write of a register is no read
pub numbered_none : (purpose : Purpose) → is_numbered purpose ≡ true → read_act purpose ≡ None
numbered_none (purposes.AgentReset act) n = refl
numbered_none purposes.Doorbell n = refl
numbered_none (purposes.Enable act) n = refl
numbered_none (purposes.Management act) n = refl
numbered_none (purposes.Rom act) n = refl
numbered_none (purposes.Pointer list) n = refl
numbered_none (purposes.State act list) n = cc

numbered_new : (purpose : Purpose) (calls : List (wire.Call Purpose)) → is_numbered purpose ≡ true → IsNew (read_act purpose) calls
numbered_new purpose calls n = subst (λ (a : Option ℕ). IsNew a calls) (sym (numbered_none purpose n)) tt

module _ {P : Purpose → Type 0} {reads : List ℕ} {node running : ℕ} {layer : Layer Purpose} {packets : List Outgoing} where
  pub judge_wire : (generation : ℕ) (bytes : List ℕ) → Wire P reads node running layer packets → Wire P (finding_reads (judging_step layer generation bytes).0 reads) node running (judging_step layer generation bytes).1 packets
  judge_wire generation bytes w = record {
    calls = wire.judges generation bytes ∷ w.calls;
    layer_is = ap (λ (l : Layer Purpose). (judging_step l generation bytes).1) w.layer_is;
    packets_are = w.packets_are;
    rises = w.rises;
    asks = w.asks;
    new = w.new;
    lives = subst (λ (l : Layer Purpose). LivesIn (finding_reads (judging_step l generation bytes).0 reads) (wire.history node (wire.judges generation bytes ∷ w.calls))) w.layer_is (judge_lives node w.calls reads w.new w.lives generation bytes);
  }

  pub expire_wire : (peer : ℕ) (label : LabelParts) → Wire P reads node running layer packets → Wire P (expired_reads (expiring_step layer peer label).0 reads) node running (expiring_step layer peer label).1 packets
  expire_wire peer label w = record {
    calls = wire.lets_expire peer label ∷ w.calls;
    layer_is = ap (λ (l : Layer Purpose). (expiring_step l peer label).1) w.layer_is;
    packets_are = w.packets_are;
    rises = w.rises;
    asks = w.asks;
    new = w.new;
    lives = subst (λ (l : Layer Purpose). LivesIn (expired_reads (expiring_step l peer label).0 reads) (wire.history node (wire.lets_expire peer label ∷ w.calls))) w.layer_is (expire_lives node w.calls reads w.new w.lives peer label);
  }

  pub see_wire : (generation id : ℕ) → Wire P reads node running layer packets → Wire P (cond (nat_lt layer.generation generation) [] reads) node running (seeing_step layer generation id).1 packets
  see_wire generation id w = record {
    calls = wire.sees generation id ∷ w.calls;
    layer_is = ap (λ (l : Layer Purpose). (seeing_step l generation id).1) w.layer_is;
    packets_are = w.packets_are;
    rises = w.rises;
    asks = w.asks;
    new = w.new;
    lives = subst (λ (l : Layer Purpose). LivesIn (cond (nat_lt l.generation generation) [] reads) (wire.history node (wire.sees generation id ∷ w.calls))) w.layer_is (see_lives node w.calls reads w.new w.lives generation id);
  }

  pub answer_wire : (p : Packet) (bytes : List ℕ) (rcode : ℕ) (given : List ℕ) → Wire P reads node running layer packets → Wire P reads node running (answering_step layer p bytes rcode given).1 (packets ++ response p (answering_step layer p bytes rcode given).0 ∷ [])
  answer_wire p bytes rcode given w =
      let f = ap (λ (l : Layer Purpose). answering_step l p bytes rcode given) w.layer_is in
      record {
        calls = wire.answers p bytes rcode given ∷ w.calls;
        layer_is = ap (λ (q : List ℕ × Layer Purpose). q.1) f;
        packets_are = ap (λ (q : List ℕ × Layer Purpose). packets_of node w.calls ++ response p q.0 ∷ []) f
            ∙ ap (λ (ps : List Outgoing). ps ++ response p (answering_step layer p bytes rcode given).0 ∷ []) w.packets_are;
        rises = w.rises;
        asks = w.asks;
        new = w.new;
        lives = w.lives;
      }

  -- a request that carries no running number
  pub ask_wire : (peer : ℕ) (body : Body) (purpose : Purpose) (asked : Asked) (after : Layer Purpose) → asking_step layer peer body purpose ≡ (Some asked, after) → is_numbered purpose ≡ false → P purpose → (w : Wire P reads node running layer packets) → IsNew (read_act purpose) w.calls → Wire P (reads_with (read_act purpose) reads) node running after (packets ++ outgoing peer asked ∷ [])
  ask_wire peer body purpose asked after e n p w f' =
      let f = ap (λ (l : Layer Purpose). asking_step l peer body purpose) w.layer_is ∙ e in
      record {
        calls = wire.asks peer body purpose ∷ w.calls;
        layer_is = ap (λ (q : Option Asked × Layer Purpose). q.1) f;
        packets_are = ap (λ (q : Option Asked × Layer Purpose). with_asked peer q.0 (packets_of node w.calls)) f
            ∙ ap (λ (ps : List Outgoing). ps ++ outgoing peer asked ∷ []) w.packets_are;
        rises = subst (λ (b : Bool). RisesTo running (numbered_by b (asking_step (wire.after node w.calls) peer body purpose).0 body (carried node w.calls))) (sym n) w.rises;
        asks = (p, w.asks);
        new = (f', w.new);
        lives = ask_lives node w.calls reads w.new w.lives peer body purpose asked (ap (λ (q : Option Asked × Layer Purpose). q.0) f);
      }

  -- one that carries it
  pub number_wire : (peer : ℕ) (body : Body) (purpose : Purpose) (asked : Asked) (after : Layer Purpose) → asking_step layer peer body purpose ≡ (Some asked, after) → is_numbered purpose ≡ true → value_of body ≡ Some running → P purpose → Wire P reads node running layer packets → Wire P reads node (running + 1) after (packets ++ outgoing peer asked ∷ [])
  number_wire peer body purpose asked after e n v p w =
      let f = ap (λ (l : Layer Purpose). asking_step l peer body purpose) w.layer_is ∙ e in
      let g : RisesTo (running + 1) (Some running ∷ carried node w.calls) = (omega arith, w.rises) in
      record {
        calls = wire.asks peer body purpose ∷ w.calls;
        layer_is = ap (λ (q : Option Asked × Layer Purpose). q.1) f;
        packets_are = ap (λ (q : Option Asked × Layer Purpose). with_asked peer q.0 (packets_of node w.calls)) f
            ∙ ap (λ (ps : List Outgoing). ps ++ outgoing peer asked ∷ []) w.packets_are;
        rises = subst (λ (b : Bool). RisesTo (running + 1) (numbered_by b (asking_step (wire.after node w.calls) peer body purpose).0 body (carried node w.calls))) (sym n)
            (subst (λ (q : Option Asked). RisesTo (running + 1) (numbered_by true q body (carried node w.calls))) (sym (ap (λ (q : Option Asked × Layer Purpose). q.0) f))
            (subst (λ (x : Option ℕ). RisesTo (running + 1) (x ∷ carried node w.calls)) (sym v) g));
        asks = (p, w.asks);
        new = (numbered_new purpose w.calls n, w.new);
        lives = subst (λ (a : Option ℕ). LivesIn (reads_with a reads) (wire.history node (wire.asks peer body purpose ∷ w.calls))) (numbered_none purpose n)
            (ask_lives node w.calls reads w.new w.lives peer body purpose asked (ap (λ (q : Option Asked × Layer Purpose). q.0) f));
      }
