-- What the steps of the target's layer in a call leave of its labels to a peer: a packet that is judged, an answer and what is given up take none, and a request to the peer one at most.
use Rattle.sbp_world.proofs.Words.Std.{arith, ◌≡◌, ◌∙◌, refl, sym, ap, subst, ℕ, suc, ◌<◌, ◌≤◌, ◌&&◌, nat_eq, is_some, Bool, true, false, cond, List}
use Rattle.sbp_world.proofs.Words.Wire.{Body, Finding, LabelParts, LabelState, Layer, Node, Packet, ReplyKind, RowFacts, answering_step, asking_step, bare, bare_after, bare_finding, disowning_step, free_labels, header_in, judging_step, layer_facts, of_again, of_generation, of_grammar, of_label, of_request, of_response, state_for}
use Rattle.sbp_world.proofs.Words.Target.{Purpose}
use Rattle.bus_transactions.proofs.Bares.{takes_steps}
use Rattle.bus_transactions.proofs.JudgedStep.{JudgedAs, judged_step}
use Rattle.bus_transactions.proofs.Rooms.{frees, unknown}
use Rattle.bus_transactions.proofs.Steps.{Frees}
use Rattle.label_table.specs.declared.place.LabelState.TheVariants as states
use Rattle.label_table.specs.Table.{is_free}
use Rattle.sbp_world.proofs.Agents.FreeLabels.{asked_frees, dropped_frees, frees_are, peers_free, shown}
use Rattle.sbp_world.proofs.Agents.OtherLabels.{Roomy, room_asked, room_disowned}
use Rattle.sbp_world.proofs.Completing.LabelsCounts.{count_more}
use Rattle.sbp_world.proofs.Counting.WireWeights.{one_most}

module _ (row : ℕ → ℕ) (m : ℕ) (few : m < 5) where
  abbrev here : ℕ
  here = row m

  abbrev Rooms : Layer Purpose → Type 0
  Rooms layer = Roomy row (bare layer)

  -- ---- a packet is judged, whatever the transactions are for
  pub record Left (before now : Node) : Type 0 where
    pub roomy : Roomy row now
    pub free : shown row m few before ≤ shown row m few now

  left_same : (before now : Node) → Roomy row before → now ≡ before → Left before now
  left_same before now r e = subst (Left before) (sym e) (record { roomy = r; free = omega arith })

  stays_free : (b : Bool) (state : LabelState) → is_free state ≡ true → is_free (cond b states.Free state) ≡ true
  stays_free true state e = refl
  stays_free false state e = e

  left_closed : (before now : Node) (peer number : ℕ) (kind : ReplyKind) → Roomy row before → Frees before now peer number kind states.Free → Left before now
  left_closed before now peer number kind r f = record {
    roomy = record { places = f.shows.places; room = subst (λ os. unknown row 5 os ≤ frees os) (sym f.owners_are) r.room };
    free = count_more 64 (λ n. is_free (state_for before.peers here n)) (λ n. is_free (state_for now.peers here n))
        (λ n b e. ap is_free (f.shows.states_are here n) ∙ stays_free (nat_eq here peer && nat_eq n number) (state_for before.peers here n) e);
  }

  left_judged : (l : Node) (bytes : List ℕ) (f : RowFacts) (r : Finding (Unit {0}) × Node) → Roomy row l → JudgedAs l bytes f r → Left l r.1
  left_judged l bytes f (of_generation, now) r j = left_same l now r j.0
  left_judged l bytes f (of_grammar, now) r j = left_same l now r j.0
  left_judged l bytes f (of_label, now) r j = left_same l now r j.0
  left_judged l bytes f (of_response p label purpose, now) r j = left_closed l now (header_in p).source (header_in p).label j.kind r j.frees
  left_judged l bytes f (of_again p rcode, now) r j = left_same l now r j.0.same
  left_judged l bytes f (of_request p, now) r j = left_same l now r j.same

  finding_bare : (r : Finding Purpose × Layer Purpose) → (bare_after bare_finding r).1 ≡ bare r.1
  finding_bare (finding, layer) = refl

  pub judged_left : (layer : Layer Purpose) (generation : ℕ) (bytes : List ℕ) → Rooms layer → Left (bare layer) (bare (judging_step layer generation bytes).1)
  judged_left layer generation bytes r =
      subst (Left (bare layer)) (ap (λ (x : Finding (Unit {0}) × Node). x.1) ((takes_steps Purpose).judges layer generation bytes) ∙ finding_bare (judging_step layer generation bytes))
      (left_judged (bare layer) bytes (layer_facts (bare layer) generation bytes) (judging_step (bare layer) generation bytes) r (judged_step (bare layer) generation bytes r.places))

  -- ---- at least so many are free
  pub record HasFree (least : ℕ) (layer : Layer Purpose) : Type 0 where
    pub roomy : Rooms layer
    pub free : least ≤ free_labels layer here

  pub judged_free : (least : ℕ) (layer : Layer Purpose) (generation : ℕ) (bytes : List ℕ) → HasFree least layer → HasFree least (judging_step layer generation bytes).1
  judged_free least layer generation bytes h =
      let left = judged_left layer generation bytes h.roomy in
      let old = frees_are row m few layer h.roomy in
      let new = frees_are row m few (judging_step layer generation bytes).1 left.roomy in
      let most = left.free in
      let all = h.free in
      record { roomy = left.roomy; free = omega (arith, old, new, most, all) }

  pub answered_roomy : (layer : Layer Purpose) (p : Packet) (bytes : List ℕ) (rcode : ℕ) (given : List ℕ) → Rooms layer → Rooms (answering_step layer p bytes rcode given).1
  unfolding answering_step
  answered_roomy layer p bytes rcode given r = record { places = r.places; room = r.room }

  pub answered_free : (least : ℕ) (layer : Layer Purpose) (p : Packet) (bytes : List ℕ) (rcode : ℕ) (given : List ℕ) → HasFree least layer → HasFree least (answering_step layer p bytes rcode given).1
  unfolding answering_step
  answered_free least layer p bytes rcode given h = record {
    roomy = answered_roomy layer p bytes rcode given h.roomy;
    free = subst (λ n. least ≤ n) (sym (peers_free layer (answering_step layer p bytes rcode given).1 refl here)) h.free;
  }

  pub dropped_free : (least : ℕ) (layer : Layer Purpose) (peer : ℕ) (label : LabelParts) → HasFree least layer → HasFree least (disowning_step layer peer label)
  dropped_free least layer peer label h = record {
    roomy = room_disowned row layer peer label h.roomy;
    free = subst (λ n. least ≤ n) (sym (dropped_frees row m few layer h.roomy peer label)) h.free;
  }

  pub asked_free : (least : ℕ) (layer : Layer Purpose) (body : Body) (purpose : Purpose) → HasFree (suc least) layer → HasFree least (asking_step layer here body purpose).1
  asked_free least layer body purpose h =
      let count = asked_frees row m few layer h.roomy body purpose in
      let most = one_most (is_some (asking_step layer here body purpose).0) in
      let all = h.free in
      record { roomy = room_asked row m few layer body purpose h.roomy; free = omega (arith, count, most, all) }
