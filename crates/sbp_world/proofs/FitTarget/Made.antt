-- What is said of a call of a target so far is kept by its steps.
use Rattle.sbp_world.proofs.Words.Std.{ℕ, ◌^◌, ◌<◌, List}
use Rattle.sbp_world.proofs.Words.Wire.{Packet, header_in, Reply, is_reply, Layer, IsRequestOf}
use Rattle.sbp_world.proofs.Words.Target.{Purpose}
use Rattle.bus_transactions.proofs.FitCalls.{Answering, Asking, Calm, answering_answers, answering_asks, answering_disowns, answering_tells, asking_asks, asking_disowns, asking_tells, calm_disowns, calm_tells}
use Rattle.sbp_world.proofs.FitTarget.Pass.{Keeps, Leaves}
use Rattle.sbp_world.proofs.FitTarget.Served.{Answers}

module _ (known : ℕ → Type 0) (ids : (id : ℕ) → known id → id < 2 ^ 16) (before : Layer Purpose) where
  pub asking_keeps : Keeps known (Asking known ids before)
  asking_keeps = record { leaves = record { tells = asking_tells known ids before; disowns = asking_disowns known ids before }; asks = asking_asks known ids before }

  pub calm_leaves : Leaves known (Calm known ids before)
  calm_leaves = record { tells = calm_tells known ids before; disowns = calm_disowns known ids before }

  module _ (reply : Reply) (p : Packet) (bytes : List ℕ) where
    pub answering_keeps : Keeps known (Answering known ids before reply p bytes)
    answering_keeps = record {
      leaves = record { tells = answering_tells known ids before reply p bytes; disowns = answering_disowns known ids before reply p bytes };
      asks = answering_asks known ids before reply p bytes;
    }

    pub answers_all : (header_in p).source < 2 ^ 16 → IsRequestOf bytes p → Answers (Calm known ids before) (Answering known ids before reply p bytes) p bytes (is_reply reply)
    answers_all s r = record { answers = answering_answers known ids before reply p bytes s r }
