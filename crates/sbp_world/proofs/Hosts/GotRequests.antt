-- A request that an initiator got is found to be one.
use Rattle.sbp_world.proofs.Words.Std.{◌≡◌, refl, ◌∙◌, ap, subst, ℕ, List, Some, None, Ok}
use Rattle.sbp_world.proofs.Words.Wire.{Packet, lock, read_block, read_block_response, read_quadlet, read_quadlet_response, lock_response, write_block, write_quadlet, write_response, reading, Row, by_again, by_generation, by_grammar, by_label, by_request, by_response, row_of, closed_by, facts_of, judged_by, judging_step, of_request, responded, reply_kind, Access, access_of, empty_outbox}
use Rattle.sbp_world.proofs.Words.Initiator.{InitiatorState, receive_step, received}
use Rattle.sbp_journal.specs.declared.cause.Judged.TheVariants as judgements
use Rattle.sbp_world.proofs.Hosts.Answering.{none_is}
use Rattle.sbp_world.proofs.Hosts.AnsweringBlocks.{not_got}

-- what asks for an access is no response
no_reply : (p : Packet) (access : Access) → access_of p ≡ Some access → reply_kind p ≡ None
no_reply (write_quadlet header offset value) access e = refl
no_reply (write_block header offset payload) access e = refl
no_reply (read_quadlet header offset) access e = refl
no_reply (read_block header offset count) access e = refl
no_reply (lock header offset extended payload) access e = refl
no_reply (write_response header rcode) access e = absurd (none_is e)
no_reply (read_quadlet_response header rcode value) access e = absurd (none_is e)
no_reply (read_block_response header rcode payload) access e = absurd (none_is e)
no_reply (lock_response header rcode extended payload) access e = absurd (none_is e)

module _ (s : InitiatorState) (bytes : List ℕ) (p : Packet) (none : reply_kind p ≡ None) where
  -- a response that none waits for is ignored
  closed_got : (received (responded p (closed_by (reply_kind p) s.layer p)) bytes empty_outbox s).0 ≡ judgements.Got → ⊥
  closed_got e = not_got _ (subst (λ k. (received (responded p (closed_by k s.layer p)) bytes empty_outbox s).0 ≡ judgements.Got) none e)

  by_row : (row : Row) → (received (judged_by row s.layer bytes (Ok p)) bytes empty_outbox s).0 ≡ judgements.Got → (judged_by row s.layer bytes (Ok p)).0 ≡ of_request p
  by_row by_generation e = absurd (not_got _ e)
  by_row by_grammar e = absurd (not_got _ e)
  by_row by_label e = absurd (not_got _ e)
  by_row by_response e = absurd (closed_got e)
  by_row by_again e = absurd (not_got _ e)
  by_row by_request e = refl

  pub got_request : (generation : ℕ) → reading bytes ≡ Ok p → (receive_step generation bytes empty_outbox s).0 ≡ judgements.Got → (judging_step s.layer generation bytes).0 ≡ of_request p
  unfolding receive_step judging_step
  got_request generation read e =
      let row = row_of (facts_of s.layer generation bytes) in
      ap (λ x. (judged_by row s.layer bytes x).0) read
      ∙ by_row row (subst (λ x. (received (judged_by row s.layer bytes x) bytes empty_outbox s).0 ≡ judgements.Got) read e)

pub request_got : (s : InitiatorState) (generation : ℕ) (bytes : List ℕ) (p : Packet) (access : Access) → access_of p ≡ Some access → reading bytes ≡ Ok p → (receive_step generation bytes empty_outbox s).0 ≡ judgements.Got → (judging_step s.layer generation bytes).0 ≡ of_request p
request_got s generation bytes p access asks read e = got_request s bytes p (no_reply p access asks) generation read e
