-- What a layer leaves under way as it judges a packet, and as a transaction times out: every transaction but the one that ends.
use Rattle.sbp_world.proofs.Words.Std.{◌≡◌, inl, inr, ◌⊎◌, refl, sym, ◌∙◌, ap, subst, ℕ, Bool, true, false, cond, List, ◌∷◌, Option, Some, None, Result, Ok, Err}
use Rattle.sbp_world.proofs.Words.Wire.{Finding, LabelParts, Layer, Life, Packet, PacketFault, ReplyKind, Stale, Told, and_before, ended, expiring_step, header_in, judging_step, life, of_again, of_generation, of_grammar, of_label, of_request, of_response, purpose_for, reading, reply_kind, told_by_expiring, told_by_finding, told_by_reading, told_closed, told_unknown, under_way}
use Rattle.sbp_world.proofs.Words.Initiator.{Purpose}
use Rattle.label_table.specs.History.{is_same as is_same_name, judges, lets_expire}
use Rattle.label_table.specs.History as wire
use Rattle.label_table.proofs.Calls.{after_kept}
use Rattle.sbp_initiator.proofs.Histories.Lives.{same_of}
use Rattle.sbp_world.proofs.Hosts.Lives.{At, Called, at_life}
use Rattle.sbp_world.proofs.Pointers.Finds.{closes_at, expires_at}

abbrev pub ClosedFor : Finding Purpose → Option Purpose → Type 0
ClosedFor (of_response p label other) purpose = other ≡ purpose
ClosedFor finding purpose = ⊥

abbrev pub LapsedFor : Result (Option Purpose) Stale → Option Purpose → Type 0
LapsedFor (Ok other) purpose = other ≡ purpose
LapsedFor (Err stale) purpose = ⊥

module _ (layer : Layer Purpose) (peer number : ℕ) (purpose : Option Purpose) (c : Called layer) (here : At layer peer number purpose) where
  abbrev old : Layer Purpose
  old = wire.after c.node c.calls

  abbrev lived : List (Told Purpose)
  lived = wire.history c.node c.calls

  b : At old peer number purpose
  b = subst (λ (l : Layer Purpose). At l peer number purpose) (sym c.is) here

  abbrev name : LabelParts
  name = record { number = number; generation = old.generation; serial = b.serial }

  abbrev Runs : Life Purpose → Type 0
  Runs x = x ≡ under_way b.kind purpose

  w : Runs (life peer name lived)
  w = at_life c.node c.calls peer number purpose b

  -- so it is under way behind more calls
  at_behind : (calls : List (wire.Call Purpose)) → Runs (life peer name (wire.history c.node calls)) → At (wire.after c.node calls) peer number purpose
  at_behind calls r =
      let k = after_kept c.node calls in
      record { kind = b.kind; serial = name.serial; state = k.agree.stands peer name b.kind purpose r; is_for = k.agree.is_for peer name b.kind purpose r }

  -- under this label it is for this
  for_this : (source : ℕ) (label : LabelParts) (other : Option Purpose) → At layer source label.number other → is_same_name source label peer name ≡ true → other ≡ purpose
  for_this source label other a e =
      let s = same_of source label peer name e in
      sym a.is_for ∙ ap (λ n. purpose_for layer.peers n label.number) s.peer ∙ ap (λ n. purpose_for layer.peers peer n) s.number ∙ here.is_for

  unknown_runs : (kind : Option ReplyKind) (p : Packet) → Runs (life peer name (and_before (told_unknown p kind) lived))
  unknown_runs None p = w
  unknown_runs (Some kind) p = w

  reading_runs : (result : Result Packet PacketFault) → Runs (life peer name (and_before (told_by_reading result) lived))
  reading_runs (Err fault) = w
  reading_runs (Ok p) = unknown_runs (reply_kind p) p

  closed_runs : (kind : Option ReplyKind) (p : Packet) (label : LabelParts) (other : Option Purpose) → At layer (header_in p).source label.number other
      → Runs (life peer name (and_before (told_closed p label other kind) lived)) ⊎ (other ≡ purpose)
  closed_runs None p label other a = inl w
  closed_runs (Some kind) p label other a = by (is_same_name (header_in p).source label peer name) refl
    where
      by : (x : Bool) → is_same_name (header_in p).source label peer name ≡ x → Runs (cond x (ended (life peer name lived)) (life peer name lived)) ⊎ (other ≡ purpose)
      by true e = inr (for_this (header_in p).source label other a e)
      by false e = inl w

  -- what a packet closes was under way under its label
  abbrev ClosesHere : Finding Purpose → Type 0
  ClosesHere finding = (p : Packet) (label : LabelParts) (other : Option Purpose) → finding ≡ of_response p label other → At layer (header_in p).source label.number other

  found_runs : (finding : Finding Purpose) (bytes : List ℕ) → ClosesHere finding → Runs (life peer name (and_before (told_by_finding finding bytes) lived)) ⊎ ClosedFor finding purpose
  found_runs of_generation bytes f = inl w
  found_runs of_grammar bytes f = inl w
  found_runs of_label bytes f = inl (reading_runs (reading bytes))
  found_runs (of_response p label other) bytes f = closed_runs (reply_kind p) p label other (f p label other refl)
  found_runs (of_again p rcode) bytes f = inl w
  found_runs (of_request p) bytes f = inl w

  pub judge_goes : (generation : ℕ) (bytes : List ℕ) → At (judging_step layer generation bytes).1 peer number purpose ⊎ ClosedFor (judging_step layer generation bytes).0 purpose
  judge_goes generation bytes =
      by (found_runs (judging_step old generation bytes).0 bytes
      (λ p label other e. closes_at layer generation bytes p label other c (ap (λ (l : Layer Purpose). (judging_step l generation bytes).0) (sym c.is) ∙ e)))
    where
      by : Runs (life peer name (and_before (told_by_finding (judging_step old generation bytes).0 bytes) lived)) ⊎ ClosedFor (judging_step old generation bytes).0 purpose
          → At (judging_step layer generation bytes).1 peer number purpose ⊎ ClosedFor (judging_step layer generation bytes).0 purpose
      by (inl r) = inl (subst (λ (l : Layer Purpose). At (judging_step l generation bytes).1 peer number purpose) c.is (at_behind (judges generation bytes ∷ c.calls) r))
      by (inr x) = inr (subst (λ (l : Layer Purpose). ClosedFor (judging_step l generation bytes).0 purpose) c.is x)

  lapsed_runs : (r : Result (Option Purpose) Stale) (to : ℕ) (label : LabelParts) → ((other : Option Purpose) → r ≡ Ok other → At layer to label.number other)
      → Runs (life peer name (and_before (told_by_expiring to label r) lived)) ⊎ LapsedFor r purpose
  lapsed_runs (Err stale) to label f = inl w
  lapsed_runs (Ok other) to label f = by (is_same_name to label peer name) refl
    where
      by : (x : Bool) → is_same_name to label peer name ≡ x → Runs (cond x (ended (life peer name lived)) (life peer name lived)) ⊎ (other ≡ purpose)
      by true e = inr (for_this to label other (f other refl) e)
      by false e = inl w

  pub expire_goes : (to : ℕ) (label : LabelParts) → At (expiring_step layer to label).1 peer number purpose ⊎ LapsedFor (expiring_step layer to label).0 purpose
  expire_goes to label =
      by (lapsed_runs (expiring_step old to label).0 to label (λ other e. expires_at layer to label other c (ap (λ (l : Layer Purpose). (expiring_step l to label).0) (sym c.is) ∙ e)))
    where
      by : Runs (life peer name (and_before (told_by_expiring to label (expiring_step old to label).0) lived)) ⊎ LapsedFor (expiring_step old to label).0 purpose
          → At (expiring_step layer to label).1 peer number purpose ⊎ LapsedFor (expiring_step layer to label).0 purpose
      by (inl r) = inl (subst (λ (l : Layer Purpose). At (expiring_step l to label).1 peer number purpose) c.is (at_behind (lets_expire to label ∷ c.calls) r))
      by (inr x) = inr (subst (λ (l : Layer Purpose). LapsedFor (expiring_step l to label).0 purpose) c.is x)
