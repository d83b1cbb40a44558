-- The packets of a turn are requests where their bytes are of the requests' bodies: they stand behind its effects, which say nothing of the wire, and each one is as a node sends it.
use Rattle.std.proofs.Common.{suc, arith, ◌≡◌, ◌∙◌, refl, sym, ap, subst, ℕ, ◌+◌, Bool, true, false, cond, List, [], ◌∷◌, ◌++◌, length, Option, Some, None}
use Rattle.std.specs.List.{AllByRecursion}
use Rattle.bus_transactions.specs.Packets.{SerialsCount}
use Rattle.bus_transactions.specs.Sent.{AreSent}
use Rattle.bus_transactions.specs.Sent as bus
use Rattle.label_table.specs.Bodies.{Body, block_read, block_write, quadlet_read, quadlet_write}
use Rattle.sbp_journal.specs.Run.{Moment, said}
use Rattle.sbp_journal.specs.Transactions.{Sending, Transaction, begun_by}
use Rattle.sbp_journal.specs.Wire.{Terms, begins, noted, puts, sends, terms}
use Rattle.sbp_journal.specs.declared.note.Note.{Note}
use Rattle.sbp_journal.specs.declared.note.Note.TheVariants as notes
use Rattle.sbp_laws.specs.ActionLaw.{in_order}
use Rattle.sbp_laws.specs.Agents.{Request}
use Rattle.sbp_laws.specs.Deliveries.{is_run_note, is_taken_note, once_told}
use Rattle.sbp_laws.specs.LoginLaw.{is_decision_note, is_login_note}
use Rattle.sbp_laws.specs.MediaLaw.{is_push_note, is_told_note}
use Rattle.sbp_laws.specs.NoteKinds.{is_cleared_note, is_cut_note, is_end_note, is_failure_note, is_operation_note, of_kind}
use Rattle.sbp_laws.specs.SentRequests.{ArePackets, IsAsked}
use Rattle.sbp_world.proofs.Common.{untrue}
use Rattle.turn_laws.proofs.LaterTerms.{Clean}
use Rattle.turn_laws.proofs.PresentOrbs.{told_one}
use Rattle.turn_laws.proofs.RequestLabels.{AreOf}
use Rattle.turn_laws.proofs.SentBodies.{is_request}
use Rattle.sbp_world.proofs.Agents.Management.Still.{pays_injected}

-- ---- a note that says nothing of the wire
abbrev pub IsStill : Note → Type 0
IsStill note = (t : Terms) → noted note t ≡ t

abbrev pub AllStill : List Note → Type 0
AllStill ns = AllByRecursion IsStill ns

still_cut : (note : Note) → is_cut_note note ≡ true → IsStill note
still_cut (notes.Cut i list cause) e t = refl
still_cut note e t = untrue e

still_cleared : (note : Note) → is_cleared_note note ≡ true → IsStill note
still_cleared (notes.Cleared unit) e t = refl
still_cleared note e t = untrue e

still_login : (note : Note) → is_login_note note ≡ true → IsStill note
still_login (notes.Held login) e t = refl
still_login (notes.Expired login) e t = refl
still_login (notes.Back login) e t = refl
still_login (notes.Left login) e t = refl
still_login note e t = untrue e

still_decision : (note : Note) → is_decision_note note ≡ true → IsStill note
still_decision (notes.Managed i function subject status login) e t = refl
still_decision note e t = untrue e

still_failure : (note : Note) → is_failure_note note ≡ true → IsStill note
still_failure (notes.ManageFailed i cause) e t = refl
still_failure note e t = untrue e

still_run : (note : Note) → is_run_note note ≡ true → IsStill note
still_run (notes.Ran i list number unit cdb bytes check) e t = refl
still_run note e t = untrue e

still_end : (note : Note) → is_end_note note ≡ true → IsStill note
still_end (notes.Dead i list cause) e t = refl
still_end (notes.Ended i list number status) e t = refl
still_end note e t = untrue e

still_push : (note : Note) → is_push_note note ≡ true → IsStill note
still_push (notes.Unsolicited i) e t = refl
still_push (notes.Unsent i) e t = refl
still_push note e t = untrue e

still_told : (note : Note) → is_told_note note ≡ true → IsStill note
still_told (notes.Told i) e t = refl
still_told note e t = untrue e

still_taken : (note : Note) → is_taken_note note ≡ true → IsStill note
still_taken (notes.Taken i n k status answer) e t = refl
still_taken note e t = untrue e

still_operation : (note : Note) → is_operation_note note ≡ true → IsStill note
still_operation (notes.Op i operation word) e t = refl
still_operation (notes.Drop i n) e t = refl
still_operation (notes.Stuck i) e t = refl
still_operation note e t = untrue e

of_still : (kind : Note → Bool) → ((note : Note) → kind note ≡ true → IsStill note) → (ns : List Note) → AllStill (of_kind kind ns)
of_still kind f [] = tt
of_still kind f (note ∷ ns) = by (of_still kind f ns) (kind note) refl
  where
    by : AllStill (of_kind kind ns) → (b : Bool) → kind note ≡ b → AllStill (cond b (note ∷ of_kind kind ns) (of_kind kind ns))
    by later true e = (f note e, later)
    by later false e = later

both_still : (a b : List Note) → AllStill a → AllStill b → AllStill (a ++ b)
both_still [] b h k = k
both_still (note ∷ a) b h k = (h.0, both_still a b h.1 k)

module _ (ns : List Note) where
  abbrev kind : (Note → Bool) → List Note
  kind k = of_kind k ns

  lower : AllStill (kind is_cut_note ++ kind is_cleared_note ++ kind is_login_note ++ kind is_decision_note ++ kind is_failure_note ++ kind is_run_note)
  lower =
      both_still (kind is_cut_note ++ kind is_cleared_note ++ kind is_login_note ++ kind is_decision_note ++ kind is_failure_note) (kind is_run_note) (both_still (kind is_cut_note ++ kind is_cleared_note ++ kind is_login_note ++ kind is_decision_note) (kind is_failure_note) (both_still (kind is_cut_note ++ kind is_cleared_note ++ kind is_login_note) (kind is_decision_note) (both_still (kind is_cut_note ++ kind is_cleared_note) (kind is_login_note) (both_still (kind is_cut_note) (kind is_cleared_note) (of_still is_cut_note still_cut ns)
      (of_still is_cleared_note still_cleared ns))
      (of_still is_login_note still_login ns))
      (of_still is_decision_note still_decision ns))
      (of_still is_failure_note still_failure ns))
      (of_still is_run_note still_run ns)

  pub effects_still : AllStill (in_order ns)
  effects_still =
      both_still (kind is_cut_note ++ kind is_cleared_note ++ kind is_login_note ++ kind is_decision_note ++ kind is_failure_note ++ kind is_run_note ++ kind is_end_note ++ kind is_push_note ++ kind is_told_note ++ kind is_taken_note) (kind is_operation_note) (both_still (kind is_cut_note ++ kind is_cleared_note ++ kind is_login_note ++ kind is_decision_note ++ kind is_failure_note ++ kind is_run_note ++ kind is_end_note ++ kind is_push_note ++ kind is_told_note) (kind is_taken_note) (both_still (kind is_cut_note ++ kind is_cleared_note ++ kind is_login_note ++ kind is_decision_note ++ kind is_failure_note ++ kind is_run_note ++ kind is_end_note ++ kind is_push_note) (kind is_told_note) (both_still (kind is_cut_note ++ kind is_cleared_note ++ kind is_login_note ++ kind is_decision_note ++ kind is_failure_note ++ kind is_run_note ++ kind is_end_note) (kind is_push_note) (both_still (kind is_cut_note ++ kind is_cleared_note ++ kind is_login_note ++ kind is_decision_note ++ kind is_failure_note ++ kind is_run_note) (kind is_end_note) (lower)
      (of_still is_end_note still_end ns))
      (of_still is_push_note still_push ns))
      (of_still is_told_note still_told ns))
      (of_still is_taken_note still_taken ns))
      (of_still is_operation_note still_operation ns)

pub still_terms : (ns : List Note) (past : List Moment) → AllStill ns → terms (once_told past ns) ≡ terms past
still_terms [] past h = refl
still_terms (note ∷ ns) past h = ap terms (told_one note ns past) ∙ (still_terms ns (said note ∷ past) h.1 ∙ h.0 (terms past))

pub told_both : (a b : List Note) (past : List Moment) → once_told past (a ++ b) ≡ once_told (once_told past a) b
told_both [] b past = refl
told_both (note ∷ a) b past = told_one note (a ++ b) past ∙ (told_both a b (said note ∷ past) ∙ ap (λ ms. once_told ms b) (sym (told_one note a past)))

-- ---- each packet of a history is as a node sends it, under the next serial
abbrev pub AllOwn : List Moment → Type 0
AllOwn ms = AreSent ms × SerialsCount ms

own_before : (note : Note) (past : List Moment) → AllOwn (said note ∷ past) → AllOwn past
own_before (notes.Sent serial generation from to bytes) past h = (h.0.1, h.1.1)
own_before note past h = h

pub own_begun : (ns : List Note) (past : List Moment) → AllOwn (once_told past ns) → AllOwn past
own_begun [] past h = h
own_begun (note ∷ ns) past h = own_before note past (own_begun ns (said note ∷ past) (subst AllOwn (told_one note ns past) h))

-- ---- a packet that is sent injects nothing
module _ (s : ℕ) (q : Sending) where
  begun_sent : (u : Option Transaction) (t : Terms) → ((begins u s q t).injected ≡ t.injected) × ((begins u s q t).count ≡ t.count)
  begun_sent None t = (refl, refl)
  begun_sent (Some u) t = (refl, refl)

  pub sent_clean : (t : Terms) → Clean t → Clean (sends s q t)
  sent_clean t c r l =
      let put = puts (begun_by q) s q t in
      let begun = begun_sent (begun_by q) put in
      let paid = pays_injected t.owes t.sent s q (begins (begun_by q) s q put) in
      let count : (sends s q t).count ≡ t.count + 1 = paid.1 ∙ begun.1 in
      ap (λ f. f r) (paid.0 ∙ begun.0) ∙ c r (omega (arith, count, l))

-- ---- bytes that ask for a body, or for a write of as many bytes
pub record AreChunk (offset count : ℕ) (bytes : List ℕ) : Type 0 where
  pub payload : List ℕ
  pub size : length payload ≡ count
  pub of : AreOf (block_write offset payload) bytes

abbrev pub AskFor : Bool → Body → List ℕ → Type 0
AskFor true (block_write offset payload) bytes = AreChunk offset (length payload) bytes
AskFor is_untold body bytes = AreOf body bytes

-- the packets are those of these requests, one by one
abbrev pub AreFor : (node : ℕ) → List Note → List Request → Type 0
AreFor node [] [] = Unit {0}
AreFor node (notes.Sent serial generation from to bytes ∷ rest) (want ∷ requests) =
    ((from ≡ node) × ((to ≡ want.to) × AskFor want.is_untold want.body bytes)) × AreFor node rest requests
AreFor node packets requests = ⊥

pub both_for : (node : ℕ) (a b : List Note) (x y : List Request) → AreFor node a x → AreFor node b y → AreFor node (a ++ b) (x ++ y)
both_for node [] b [] y h k = k
both_for node [] b (want ∷ x) y h k = absurd h
both_for node (notes.Sent serial generation from to bytes ∷ a) b [] y h k = absurd h
both_for node (notes.Sent serial generation from to bytes ∷ a) b (want ∷ x) y h k = (h.0, both_for node a b x y h.1 k)
both_for node (note ∷ a) b x y h k = absurd h

-- as many
pub for_length : (node : ℕ) (packets : List Note) (wants : List Request) → AreFor node packets wants → length packets ≡ length wants
for_length node [] [] h = refl
for_length node [] (want ∷ wants) h = absurd h
for_length node (notes.Sent serial generation from to bytes ∷ packets) [] h = absurd h
for_length node (notes.Sent serial generation from to bytes ∷ packets) (want ∷ wants) h = ap suc (for_length node packets wants h.1)
for_length node (note ∷ packets) wants h = absurd h

module _ (t : Terms) (node : ℕ) (want : Request) (serial generation from to : ℕ) (bytes : List ℕ) (number : serial ≡ t.count + 1) (sender : from ≡ node) (receiver : to ≡ want.to) (own : bus.IsOwn t generation node want.to bytes) where
  asked_as : (is_untold : Bool) (body : Body) → AskFor is_untold body bytes → IsAsked is_untold body t node want serial generation from to bytes
  asked_as true (block_write offset payload) a =
      record { payload = a.payload; size = a.size; is = is_request t generation node want bytes own (block_write offset a.payload) a.of serial from to number sender receiver }
  asked_as true (quadlet_write offset value) a = is_request t generation node want bytes own (quadlet_write offset value) a serial from to number sender receiver
  asked_as true (quadlet_read offset) a = is_request t generation node want bytes own (quadlet_read offset) a serial from to number sender receiver
  asked_as true (block_read offset len) a = is_request t generation node want bytes own (block_read offset len) a serial from to number sender receiver
  asked_as false body a = is_request t generation node want bytes own body a serial from to number sender receiver

pub asked_exactly : (node : ℕ) (packets : List Note) (requests : List Request) (past : List Moment) → Clean (terms past) → AllOwn (once_told past packets) → AreFor node packets requests → ArePackets past node packets requests
asked_exactly node [] [] past clean own b = tt
asked_exactly node [] (want ∷ requests) past clean own b = absurd b
asked_exactly node (notes.Sent serial generation from to bytes ∷ rest) [] past clean own b = absurd b
asked_exactly node (notes.Sent serial generation from to bytes ∷ rest) (want ∷ requests) past clean own b =
    let t = terms past in
    let note = notes.Sent serial generation from to bytes in
    let behind = subst AllOwn (told_one note rest past) own in
    let here = own_begun rest (said note ∷ past) behind in
    let number : serial ≡ t.count + 1 = here.1.0 in
    let honest : t.injected serial ≡ false = clean serial (omega (arith, number)) in
    let its = subst (λ x. bus.IsOwn t generation node x bytes) b.0.1.0 (subst (λ x. bus.IsOwn t generation x to bytes) b.0.0 (here.0.0 honest)) in
    let q : Sending = record { generation = generation; from = from; to = to; bytes = bytes; injected = t.injected serial } in (
      asked_as t node want serial generation from to bytes number b.0.0 b.0.1.0 its want.is_untold want.body b.0.1.1,
      asked_exactly node rest requests (said note ∷ past) (sent_clean serial q t clean) behind b.1,
    )
asked_exactly node (note ∷ rest) requests past clean own b = absurd b
