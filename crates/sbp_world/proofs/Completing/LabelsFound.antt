-- What the target asks for in a call finds a label, where 20 are free as the call begins; and the label that a response closes is free, and its last request is the one that was answered.
use Rattle.sbp_world.proofs.Words.Std.{arith, ◌≡◌, ◌∙◌, refl, sym, ap, subst, ℕ, suc, ◌+◌, ◌-◌, ◌<◌, ◌≤◌, ◌&&◌, ◌||◌, not, nat_le, nat_lt, is_some, Bool, true, false, List, ◌∷◌, ◌++◌, map, Option, Some, None, nat_tests}
use Rattle.sbp_world.proofs.Words.Wire.{Asked, Body, LabelState, Layer, Node, Terms, asked, asking_step, bare, block_read, canon, four, free_labels, header_to, is_last, is_write, last_for, quadlet_read, request_with, said, state_for, terms, three, unlabelled, with_label}
use Rattle.sbp_world.proofs.Words.Target.{Purpose}
use Rattle.sbp_world.proofs.Words.Laws.{id_for}
use Rattle.sbp_world.proofs.Words.World.{after, after_all, beginning, begun, history_of, more_deliveries}
use Rattle.bus_transactions.proofs.Bares.{takes_steps}
use Rattle.bus_transactions.proofs.Rooms.{has_room}
use Rattle.bus_transactions.proofs.Steps.{AskedAs, asks, may_take}
use Rattle.label_table.specs.declared.place.LabelState.TheVariants as states
use Rattle.label_table.specs.Peers.{peer_of}
use Rattle.label_table.specs.Table.{is_free}
use Rattle.target_base.specs.Logins.{is_below_reserve}
use Rattle.sbp_world.specs.Completing.LabelsFound.{Behind, Finds, FindsLabels, FoundLaw, Serves, answers, begins, gives_up, judges}
use Rattle.sbp_world.specs.Completing.LabelsFound as found
use Rattle.sbp_world.proofs.Agents.FreeLabels.{KnowsLabels, free_finds, read_plain}
use Rattle.sbp_world.proofs.Agents.OtherLabels.{Roomy, bare_first, room_asked, room_disowned}
use Rattle.sbp_world.proofs.Agents.Purposes.{last_bare, state_bare}
use Rattle.sbp_world.proofs.Common.{untrue}
use Rattle.sbp_world.proofs.Completing.LabelsKnown.{labels_known}
use Rattle.sbp_world.proofs.Completing.LabelsPlaces.{holding_everywhere}
use Rattle.sbp_world.proofs.Completing.LabelsRuns.{labels_left_law}
use Rattle.sbp_world.proofs.Completing.LabelsSteps.{HasFree, answered_free, answered_roomy, asked_free, dropped_free, judged_free, judged_left}
use Rattle.sbp_world.proofs.Hosts.Mild.{quad_tcode}

-- a read of a quadlet is no write
quadlet_plain : (node peer offset : ℕ) → is_write (canon (request_with (header_to node peer 0) (quadlet_read offset))) ≡ false
unfolding is_write three four
quadlet_plain node peer offset = ap (λ n. nat_le n 1) (quad_tcode peer 0 4 (canon (request_with (header_to node peer 0) (quadlet_read offset))) _ (omega arith) refl)

module _ (row : ℕ → ℕ) (m : ℕ) (few : m < 5) where
  abbrev here : ℕ
  here = row m

  abbrev Free : ℕ → Layer Purpose → Type 0
  Free least layer = HasFree row m few least layer

  -- ---- a write finds a label under which the last request was another
  may : (n : ℕ) (bytes : List ℕ) (state : LabelState) (last : Option (List ℕ)) → state ≡ states.Free → is_last last (with_label n bytes) ≡ false → (is_free state && (not (is_write bytes) || not (is_last last (with_label n bytes)))) ≡ true
  may n bytes state last e f = ap (λ s. is_free s && (not (is_write bytes) || not (is_last last (with_label n bytes)))) e ∙ (ap (λ b. not (is_write bytes) || not b) f ∙ either (is_write bytes))
    where
      either : (b : Bool) → (not b || true) ≡ true
      either true = refl
      either false = refl

  serves_by : (l : Node) (bytes : List ℕ) (number : ℕ) → number < 64 → may_take l here bytes number ≡ true → Roomy row l → (r : Option Asked × Node) → AskedAs l here bytes r → is_some r.0 ≡ true
  serves_by l bytes number small takes r (Some one, new) a = refl
  serves_by l bytes number small takes r (None, new) a = let k = has_room peer_of row m l.peers few r.room in untrue (sym (a.1 k.0 number k.1 small) ∙ takes)

  serves_finds : (layer : Layer Purpose) → Roomy row (bare layer) → (body : Body) → Serves layer here body → Finds layer here body
  serves_finds layer r body s purpose =
      let bytes = unlabelled layer here body in
      let state = state_bare layer here s.number ∙ s.free in
      let last = ap (λ o. is_last o (with_label s.number bytes)) (last_bare layer here s.number) ∙ s.other in
      ap (λ o. is_some o) (sym (ap (λ (y : Option Asked × Node). y.0) ((takes_steps Purpose).asks layer here body purpose) ∙ bare_first row (asking_step layer here body purpose)))
      ∙ serves_by (bare layer) bytes s.number s.small (may s.number bytes (state_for (bare layer).peers here s.number) (last_for (bare layer).peers here s.number) state last) r (asking_step (bare layer) here body tt) (asks (bare layer) here body r.places)

  -- ---- behind so many requests
  module _ (first : Layer Purpose) (start : Free 20 first) where
    behind_free : (made : ℕ) (layer : Layer Purpose) → Behind first here made layer → (least : ℕ) → least + made ≤ 20 → Free least layer
    behind_free _ _ begins least b = record { roomy = start.roomy; free = let f = start.free in omega (arith, b, f) }
    behind_free _ _ (judges made old generation bytes h) least b = judged_free row m few least old generation bytes (behind_free made old h least b)
    behind_free _ _ (answers made old p bytes rcode given h) least b = answered_free row m few least old p bytes rcode given (behind_free made old h least b)
    behind_free _ _ (gives_up made old other label h) least b = dropped_free row m few least old other label (behind_free made old h least b)
    behind_free _ _ (found.asks before old body purpose h) least b = asked_free row m few least old body purpose (behind_free before old h (suc least) (omega (arith, b)))

    behind_roomy : (made : ℕ) (layer : Layer Purpose) → Behind first here made layer → Roomy row (bare layer)
    behind_roomy _ _ begins = start.roomy
    behind_roomy _ _ (judges made old generation bytes h) = (judged_left row m few old generation bytes (behind_roomy made old h)).roomy
    behind_roomy _ _ (answers made old p bytes rcode given h) = answered_roomy row m few old p bytes rcode given (behind_roomy made old h)
    behind_roomy _ _ (gives_up made old other label h) = room_disowned row old other label (behind_roomy made old h)
    behind_roomy _ _ (found.asks before old body purpose h) = room_asked row m few old body purpose (behind_roomy before old h)

    behind_left : (made : ℕ) (layer : Layer Purpose) → Behind first here made layer → 20 ≤ free_labels layer here + made
    behind_left made layer h = by (nat_lt 20 made) refl
      where
        by : (b : Bool) → nat_lt 20 made ≡ b → 20 ≤ free_labels layer here + made
        by true e = let more : 20 < made = grind (arith, nat_tests) in omega (arith, more)
        by false e =
            let most : made ≤ 20 = grind (arith, nat_tests) in
            let f = (behind_free made layer h (20 - made) (omega (arith, most))).free in
            omega (arith, most, f)

    finds_labels : FindsLabels first here
    finds_labels = record {
      left = behind_left;
      reads = λ made layer h b offset len purpose. let f = behind_free made layer h 1 (omega (arith, b)) in free_finds row m few layer f.roomy f.free (block_read offset len) (λ node. read_plain node here offset len) purpose;
      quadlets = λ made layer h b offset purpose. let f = behind_free made layer h 1 (omega (arith, b)) in free_finds row m few layer f.roomy f.free (quadlet_read offset) (λ node. quadlet_plain node here offset) purpose;
      ahead = λ made layer h b. reserve (free_labels layer here) (behind_free made layer h 16 (omega (arith, b))).free;
      others = λ made layer h body s. serves_finds layer (behind_roomy made layer h) body s;
    }
      where
        reserve : (n : ℕ) → 16 ≤ n → is_below_reserve n ≡ false
        reserve n b = grind (arith, nat_tests)

-- ---- at a place
finds_at : (t : Terms) (peer id : ℕ) (layer : Layer Purpose) → KnowsLabels t 0 peer id layer → 20 ≤ free_labels layer id → FindsLabels layer id
finds_at t peer id layer k b =
    subst (FindsLabels layer) k.id_is
    (finds_labels k.row peer k.few layer (record { roomy = k.roomy; free = subst (λ n. 20 ≤ free_labels layer n) (sym k.id_is) b }))

pub found_law : FoundLaw
found_law = record {
  after_lines = λ line run r has small size tame l i inside cut.
      let now = history_of line run in
      let w = (after (beginning run) run.entries).world in
      finds_at (terms now) (suc i) (id_for (terms now) 0 (suc i)) w.target.layer (labels_known w (holding_everywhere.after_lines line run r has small size) (suc i) (omega (arith, inside)))
      (labels_left_law.after_lines line run r has small size tame l i inside cut);
  between = λ line run r has small size next most told m tame l i inside cut.
      let w = (after_all told (begun (after (beginning run) run.entries))).world in
      let now = map said w.fresh ++ asked next (more_deliveries most) ∷ history_of line run in
      finds_at (terms now) (suc i) (id_for (terms now) 0 (suc i)) w.target.layer (labels_known w (holding_everywhere.between line run r has small size next most told m) (suc i) (omega (arith, inside)))
      (labels_left_law.between line run r has small size next most told m tame l i inside cut);
}
