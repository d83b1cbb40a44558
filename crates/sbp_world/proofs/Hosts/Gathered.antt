-- In every run the answer of a good status is the bytes of the writes to the pieces of its buffer, where these came in turn.
use Rattle.sbp_world.proofs.Words.Std.{◌≡◌, refl, sym, ◌∙◌, ap, subst, ℕ, ◌+◌, ◌^◌, Bool, true, false, cond, List, [], map, Some, append-nil}
use Rattle.sbp_world.proofs.Words.Wire.{Moment, Cmd}
use Rattle.sbp_world.proofs.Words.Initiator.{start, buffer_addresses, chunk_addresses}
use Rattle.sbp_world.proofs.Words.Laws.{joined, laid_out, pieces_of, writes_since, command_at, slot_at}
use Rattle.sbp_world.proofs.Words.World.{answer_held, byte_held, AreInTurn, AreOfTarget, GatheredLaw, IsGathered, bytes_of, written_of}
use Rattle.std.specs.Prelude.{IsSomeAnd}
use Rattle.bus_memory.specs.declared.window.Window.TheVariants as windows
use Rattle.page_table.proofs.Chunks.{chunks_join}
use Rattle.sbp_world.specs.Hosts.Answers.{IsAnswerOf}
use Rattle.sbp_world.proofs.Hosts.AnswerRuns.{taken_law}
use Rattle.sbp_world.proofs.Hosts.GatherPlaces.{rising_laid}
use Rattle.sbp_world.proofs.Hosts.Gathers.{spread, spread_pieces, written_stand}
use Rattle.sbp_world.proofs.Lists.AnswersCarriedWrites.{power}

module _ (past : List Moment) (i n k : ℕ) (answer : List ℕ) (h : IsAnswerOf past i n k answer) where
  abbrev slot : ℕ
  slot = slot_at past i n k

  -- the answer, by its command
  answer_of : (cmd : Cmd) → command_at past i n k ≡ Some cmd → answer ≡ answer_held past i slot cmd
  answer_of cmd e =
      let same : Some h.cmd ≡ Some cmd = sym h.command ∙ e in
      let is : h.cmd ≡ cmd = cc in
      subst (λ x. answer ≡ answer_held past i slot x) is h.is

  module _ (cmd : Cmd) (is : command_at past i n k ≡ Some cmd) where
    abbrev places : List ℕ
    places = buffer_addresses (laid_out slot cmd cmd.segments)

    joins : AreInTurn past i slot cmd → map (byte_held past i slot) places ≡ bytes_of (written_of past i slot cmd)
    joins turn =
        let moved = written_of past i slot cmd in
        let whole : spread moved ≡ places = sym (spread_pieces moved) ∙ (ap chunk_addresses turn ∙ chunks_join (2 ^ (cmd.max_payload + 2)) (laid_out slot cmd cmd.segments) (power (cmd.max_payload + 2))) in
        ap (map (byte_held past i slot)) (sym whole)
        ∙ written_stand (start (windows.Buffer slot)) places (rising_laid slot cmd cmd.segments) i slot past [] (append-nil (spread moved) ∙ whole)

    by_direction : (b : Bool) → (b ≡ true → AreInTurn past i slot cmd) → cond b (map (byte_held past i slot) places) [] ≡ bytes_of (cond b (written_of past i slot cmd) [])
    by_direction true turn = joins (turn refl)
    by_direction false turn = refl

    carried : (cmd.to_initiator ≡ true → AreInTurn past i slot cmd) → AreOfTarget past i n k cmd → answer ≡ joined (pieces_of slot cmd) (writes_since past i n k)
    carried turn own = answer_of cmd is ∙ (by_direction cmd.to_initiator turn ∙ ap bytes_of (sym own))

    to_initiator : cmd.to_initiator ≡ true → AreInTurn past i slot cmd → answer ≡ bytes_of (written_of past i slot cmd)
    to_initiator d turn = answer_of cmd is ∙ (ap (λ b. cond b (map (byte_held past i slot) places) []) d ∙ joins turn)

  pub is_gathered : IsGathered past i n k answer
  is_gathered = record {
    joins = λ cmd is d turn. to_initiator cmd is d turn;
    carried = λ cmd is turn own. subst (λ found. IsSomeAnd found (λ x. answer ≡ joined (pieces_of slot x) (writes_since past i n k))) (sym is) (carried cmd is turn own);
  }

pub gathered_law : GatheredLaw
gathered_law = record {
  answers = λ line r q i b later past n k answer e. is_gathered past i n k answer (taken_law.answers line r q i b later past n k answer e);
  between = λ line r q next most told m i b later past n k answer e. is_gathered past i n k answer (taken_law.between line r q next most told m i b later past n k answer e);
}
