-- A delivery to an initiator: it ignores the packet and tells nothing, or gets it and takes no status where none is due, or the one that is.
use Rattle.sbp_world.proofs.Words.Std.{◌≡◌, refl, sym, ◌∙◌, ap, subst, ℕ, ◌^◌, ◌≤◌, nat_eq, not, Bool, true, false, List, [], ◌∷◌, ◌++◌, Option, Some, None, Result, Ok, Err, AllByRecursion}
use Rattle.sbp_world.proofs.Words.Wire.{Packet, header_in, reading, PacketFault, LabelParts, Row, by_again, by_generation, by_grammar, by_label, by_request, by_response, row_of, Finding, Layer, answering_step, closed_by, facts_of, judged_by, judging_step, of_again, of_generation, of_grammar, of_label, of_request, of_response, responded, reply_kind, Access, access_of, OutboxState, empty_outbox, Judging, ignored_as, serving, telling, Moment, Cause, Judged, Note, Side}
use Rattle.sbp_world.proofs.Words.Initiator.{slot_of, StatusBlock, StatusKind, ListState, take_lists, TicketParts, Purpose, InitiatorState, Turn, called, receive_step, received, request_step, responded_as, ending_of, drop_if, notes_of, own, LeftBy, judging_for, note_by, note_of, Brought, block_drops, block_note, block_notes, brought, nothing, status, taken_of, unsolicited, waiting_at}
use Rattle.sbp_world.proofs.Words.Laws.{access_in, spelled_by, taking_by}
use Rattle.sbp_world.proofs.Words.World.{IsCalled, AreRows}
use Rattle.orb_layout.specs.declared.status.StatusKind.TheVariants as kinds
use Rattle.sbp_journal.specs.declared.cause.Cause.TheVariants as causes
use Rattle.sbp_journal.specs.declared.cause.Judged.TheVariants as judgements
use Rattle.sbp_journal.specs.declared.side.Side.TheVariants as sides
use Rattle.sbp_initiator.specs.Histories.Taking.{taken_by}
use Rattle.sbp_initiator.proofs.Histories.Judging.{judging_law}
use Rattle.sbp_initiator.proofs.Histories.Over.{sound}
use Rattle.sbp_initiator.proofs.Histories.Requests.{HasOrb, request_answers}
use Rattle.sbp_world.proofs.Hosts.Answering.{IsRequestFound, request_of}
use Rattle.sbp_world.proofs.Hosts.GotRequests.{request_got}
use Rattle.sbp_world.proofs.Hosts.Hosted.{hears_fit}
use Rattle.sbp_world.proofs.Hosts.KnowHears.{IfFits}
use Rattle.sbp_world.proofs.Hosts.Statuses.Brings.{AreCalm, Brings, Took, none_due, one_due, outcome_of}
use Rattle.sbp_world.proofs.Hosts.Statuses.Folds.{AreSilent, calm_silent, is_silent}
use Rattle.sbp_world.proofs.Hosts.Statuses.Quiet.{AreCalmSides, all_silent, both_calm, ended_calm, notes_calm, own_calm}

-- ---- a request and its note

pub answer_silent : (r : List ℕ × Layer Purpose) (source : ℕ) (o : OutboxState) (s : InitiatorState) → (responded_as r source o s).0.sides ≡ o.sides
answer_silent (bytes, layer) source o s = refl

got_ignored : {A : Type 0} (cause : Cause) → judgements.Got ≡ judgements.Ignored cause → A
got_ignored cause e = absurd (differ e)
  where
    differ : judgements.Got ≡ judgements.Ignored cause → ⊥
    differ e = cc

not_responded : (q p : Packet) (r : Option (LabelParts × Option Purpose) × Layer Purpose) → (responded q r).0 ≡ of_request p → ⊥
not_responded q p (Some (label, purpose), layer) e = cc
not_responded q p (None, layer) e = cc

noted_row : (row : Row) (layer : Layer Purpose) (bytes : List ℕ) (p : Packet) (s : InitiatorState) → (judged_by row layer bytes (Ok p)).0 ≡ of_request p → note_by row (Ok p) s ≡ note_of (judging_for p s)
noted_row by_generation layer bytes p s e = cc
noted_row by_grammar layer bytes p s e = cc
noted_row by_label layer bytes p s e = cc
noted_row by_response layer bytes p s e = absurd (not_responded p p (closed_by (reply_kind p) layer p) e)
noted_row by_again layer bytes p s e = cc
noted_row by_request layer bytes p s e = refl

by_facts : (layer : Layer Purpose) (generation : ℕ) (bytes : List ℕ) → judging_step layer generation bytes ≡ judged_by (row_of (facts_of layer generation bytes)) layer bytes (reading bytes)
unfolding judging_step
by_facts layer generation bytes = refl

module _ (s : InitiatorState) (generation : ℕ) (bytes : List ℕ) where
  abbrev pub heard : Judged × Turn
  heard = receive_step generation bytes empty_outbox s

  module _ (p : Packet) (request : (judging_step s.layer generation bytes).0 ≡ of_request p) where
    found : IsRequestFound s.layer generation bytes p
    found = request_of s.layer generation bytes p request

    pub noted : heard.0 ≡ note_of (judging_for p s)
    noted =
        let row = row_of (facts_of s.layer generation bytes) in
        judging_law.noted generation bytes empty_outbox s
        ∙ (ap (λ (read : Result Packet PacketFault). note_by row read s) found.read
        ∙ noted_row row s.layer bytes p s (ap (λ (read : Result Packet PacketFault). (judged_by row s.layer bytes read).0) (sym found.read) ∙ (ap (λ (x : Finding Purpose × Layer Purpose). x.0) (sym (by_facts s.layer generation bytes)) ∙ request)))

    pub served : heard ≡ request_step p bytes empty_outbox s
    unfolding receive_step
    served = ap (λ (x : Finding Purpose × Layer Purpose). received x bytes empty_outbox s) found.same

    ignored_request : (cause : Cause) (j : Judging) → note_of j ≡ judgements.Ignored cause → LeftBy j p bytes empty_outbox s heard.1 → heard.1.0.sides ≡ []
    ignored_request cause (ignored_as other rcode) e left =
        ap (λ (t : Turn). t.0.sides) left ∙ answer_silent (answering_step s.layer p bytes rcode []) (header_in p).source empty_outbox s
    ignored_request cause telling e left = got_ignored cause e
    ignored_request cause serving e left = got_ignored cause e

  -- ---- a packet that is ignored

  ignored_by : (x : Finding Purpose × Layer Purpose) (cause : Cause) → ((p : Packet) → x.0 ≡ of_request p → (received x bytes empty_outbox s).1.0.sides ≡ []) → (received x bytes empty_outbox s).0 ≡ judgements.Ignored cause → (received x bytes empty_outbox s).1.0.sides ≡ []
  ignored_by (of_generation, layer) cause asks e = refl
  ignored_by (of_grammar, layer) cause asks e = refl
  ignored_by (of_label, layer) cause asks e = refl
  ignored_by (of_response p label purpose, layer) cause asks e = got_ignored cause e
  ignored_by (of_again p rcode, layer) cause asks e = answer_silent (answering_step layer p bytes rcode []) (header_in p).source empty_outbox (record s { layer = layer })
  ignored_by (of_request p, layer) cause asks e = asks p refl

  pub ignored_silent : (cause : Cause) → heard.0 ≡ judgements.Ignored cause → heard.1.0.sides ≡ []
  unfolding receive_step
  ignored_silent cause e =
      ignored_by (judging_step s.layer generation bytes) cause
      (λ p f. ignored_request p f cause (judging_for p s) (sym (noted p f) ∙ e) (judging_law.left generation bytes empty_outbox s p f)) e

-- ---- each delivery

pub data Hears (past : List Moment) (i : ℕ) (s : InitiatorState) (found : Option Access) (r : Judged × Turn) : Type 0 where
  ignores : (cause : Cause) → r.0 ≡ judgements.Ignored cause → Hears past i s found r
  takes_none : r.0 ≡ judgements.Got → AreCalmSides r.1.0.sides → taking_by past i found ≡ [] → Hears past i s found r
  takes_one : r.0 ≡ judgements.Got → (access : Access) → found ≡ Some access → (first : Note) (later : List Note) → r.1.0.sides ≡ sides.Own first ∷ own later → AreCalm later → Took past i s access first → Hears past i s found r

module _ (past : List Moment) (ready : Bool) (i : ℕ) (s : InitiatorState) (rows : AreRows past i s.lists.slots) (few : s.counts.logins ≤ 2 ^ 32) (h : IsCalled ready i s) (generation : ℕ) (bytes : List ℕ) where
  abbrev r : Judged × Turn
  r = heard s generation bytes

  abbrev asks : Result Packet PacketFault → Option Access
  asks read = access_in (spelled_by read)

  abbrev Here : Option Access → Type 0
  Here found = Hears past i s found r

  has : HasOrb s.operation
  has = subst (λ (x : InitiatorState). HasOrb x.operation) h.is (sound i ready h.calls).orb

  -- ---- a response asks for nothing

  no_request : (q p : Packet) (label : LabelParts) (purpose : Option Purpose) → ◌≡◌ {A = Finding Purpose} (of_request q) (of_response p label purpose) → ⊥
  no_request q p label purpose e = cc

  none_asked : (p : Packet) (label : LabelParts) (purpose : Option Purpose) → (judging_step s.layer generation bytes).0 ≡ of_response p label purpose → r.0 ≡ judgements.Got → (read : Result Packet PacketFault) → reading bytes ≡ read → asks read ≡ None
  none_asked p label purpose f got (Err fault) e = refl
  none_asked p label purpose f got (Ok q) e = by_access (access_of q) refl
    where
      by_access : (found : Option Access) → access_of q ≡ found → found ≡ None
      by_access None a = refl
      by_access (Some access) a = absurd (no_request q p label purpose (sym (request_got s generation bytes q access a e got) ∙ f))

  -- ---- a request

  module _ (p : Packet) (f : (judging_step s.layer generation bytes).0 ≡ of_request p) where
    abbrev note : Option Note
    note = block_note (brought p s) s

    by_outcome : (rest : List Note) → r.0 ≡ judgements.Got → r.1.0.sides ≡ own (block_notes note ++ rest) → AreCalm rest → (found : Option Access) → Brings past i s rows few p found → Here found
    by_outcome rest got told calm None b = takes_none got (subst AreCalmSides (sym told) (own_calm (block_notes note ++ rest) (both_calm (block_notes note) rest b calm))) refl
    by_outcome rest got told calm (Some access) (none_due quiet due) =
        takes_none got (subst AreCalmSides (sym told) (own_calm (block_notes note ++ rest) (both_calm (block_notes note) rest quiet calm))) due
    by_outcome rest got told calm (Some access) (one_due first is took) =
        takes_one got access refl first rest (told ∙ ap (λ (x : Option Note). own (block_notes x ++ rest)) is) calm took

    got_one : note_of (judging_for p s) ≡ judgements.Got → Here (access_of p)
    got_one e =
        let a = request_answers bytes empty_outbox s has p in
        let drop = drop_if (block_drops (brought p s) s) s.lists.slots.present in
        by_outcome (notes_of s.number drop a.op None false) (noted s generation bytes p f ∙ e)
        (ap (λ (x : Judged × Turn). x.1.0.sides) (served s generation bytes p f) ∙ a.sides)
        (notes_calm s.number drop a.op None false) (access_of p) (outcome_of past i s rows few p e)

    by_judging : (j : Judging) → judging_for p s ≡ j → Here (access_of p)
    by_judging (ignored_as cause rcode) e = ignores cause (noted s generation bytes p f ∙ ap note_of e)
    by_judging telling e = got_one (ap note_of e)
    by_judging serving e = got_one (ap note_of e)

  by_finding : (x : Finding Purpose × Layer Purpose) → judging_step s.layer generation bytes ≡ x → r ≡ received x bytes empty_outbox s → Here (asks (reading bytes))
  by_finding (of_generation, layer) e is = ignores causes.Generation (ap (λ (y : Judged × Turn). y.0) is)
  by_finding (of_grammar, layer) e is = ignores causes.Grammar (ap (λ (y : Judged × Turn). y.0) is)
  by_finding (of_label, layer) e is = ignores causes.Label (ap (λ (y : Judged × Turn). y.0) is)
  by_finding (of_response p label purpose, layer) e is =
      let f = ap (λ (x : Finding Purpose × Layer Purpose). x.0) e in
      let got = ap (λ (y : Judged × Turn). y.0) is in
      takes_none got
      (subst (λ (y : Judged × Turn). AreCalmSides y.1.0.sides) (sym is)
      (ended_calm purpose (ending_of p) (called (record s { layer = layer })) (subst (λ (g : Finding Purpose). IfFits g s) f (hears_fit ready i s h generation bytes))))
      (ap (taking_by past i) (none_asked p label purpose f got (reading bytes) refl))
  by_finding (of_again p rcode, layer) e is = ignores causes.Again (ap (λ (y : Judged × Turn). y.0) is)
  by_finding (of_request p, layer) e is =
      let f = ap (λ (x : Finding Purpose × Layer Purpose). x.0) e in
      subst Here (ap asks (sym (found s generation bytes p f).read)) (by_judging p f (judging_for p s) refl)

  pub hears_so : Here (asks (reading bytes))
  unfolding receive_step
  hears_so = by_finding (judging_step s.layer generation bytes) refl refl

-- ---- what another initiator takes of it: nothing

silent_own : (j : ℕ) (ns : List Note) → AllByRecursion (λ note. is_silent j note ≡ true) ns → AreSilent j (own ns)
silent_own j [] h = tt
silent_own j (first ∷ ns) h = (h.0, silent_own j ns h.1)

calm_notes : (j : ℕ) (ns : List Note) → AreCalm ns → AllByRecursion (λ note. is_silent j note ≡ true) ns
calm_notes j [] h = tt
calm_notes j (first ∷ ns) h = (calm_silent j first h.0, calm_notes j ns h.1)

both_silent : (j : ℕ) (xs ys : List Note) → AllByRecursion (λ note. is_silent j note ≡ true) xs → AllByRecursion (λ note. is_silent j note ≡ true) ys → AllByRecursion (λ note. is_silent j note ≡ true) (xs ++ ys)
both_silent j [] ys h k = k
both_silent j (first ∷ xs) ys h k = (h.0, both_silent j xs ys h.1 k)

module _ (ready : Bool) (i : ℕ) (s : InitiatorState) (h : IsCalled ready i s) (generation : ℕ) (bytes : List ℕ) (j : ℕ) (other : nat_eq j s.number ≡ false) where
  abbrev Silent : List Note → Type 0
  Silent ns = AllByRecursion (λ note. is_silent j note ≡ true) ns

  taken_silent : (found : Option TicketParts) (kind : StatusKind) (lists : ListState) → Silent (block_notes (taken_of found kind lists s.number))
  taken_silent None kind lists = tt
  taken_silent (Some t) kind lists = (ap not other, tt)

  kind_silent : (kind : StatusKind) (block : StatusBlock) → Silent (block_notes (taken_by kind block s))
  kind_silent (kinds.Management code) block = tt
  kind_silent kinds.Good block = taken_silent (waiting_at s.lists.slots.slots (slot_of block.orb)) kinds.Good (take_lists s.lists block).1
  kind_silent (kinds.Check sense) block = taken_silent (waiting_at s.lists.slots.slots (slot_of block.orb)) (kinds.Check sense) (take_lists s.lists block).1
  kind_silent kinds.Dummy block = taken_silent (waiting_at s.lists.slots.slots (slot_of block.orb)) kinds.Dummy (take_lists s.lists block).1
  kind_silent kinds.Aborted block = taken_silent (waiting_at s.lists.slots.slots (slot_of block.orb)) kinds.Aborted (take_lists s.lists block).1
  kind_silent (kinds.Illegal meaning) block = taken_silent (waiting_at s.lists.slots.slots (slot_of block.orb)) (kinds.Illegal meaning) (take_lists s.lists block).1
  kind_silent kinds.Failed block = taken_silent (waiting_at s.lists.slots.slots (slot_of block.orb)) kinds.Failed (take_lists s.lists block).1

  brought_silent : (b : Brought) → Silent (block_notes (block_note b s))
  brought_silent nothing = tt
  brought_silent unsolicited = (refl, tt)
  brought_silent (status block) = kind_silent block.kind block

  abbrev told : List Side
  told = (heard s generation bytes).1.0.sides

  silent_by : (x : Finding Purpose × Layer Purpose) → judging_step s.layer generation bytes ≡ x → heard s generation bytes ≡ received x bytes empty_outbox s → AreSilent j told
  silent_by (of_generation, layer) e is = subst (λ (y : Judged × Turn). AreSilent j y.1.0.sides) (sym is) tt
  silent_by (of_grammar, layer) e is = subst (λ (y : Judged × Turn). AreSilent j y.1.0.sides) (sym is) tt
  silent_by (of_label, layer) e is = subst (λ (y : Judged × Turn). AreSilent j y.1.0.sides) (sym is) tt
  silent_by (of_response p label purpose, layer) e is =
      let f = ap (λ (x : Finding Purpose × Layer Purpose). x.0) e in
      subst (λ (y : Judged × Turn). AreSilent j y.1.0.sides) (sym is)
      (all_silent j _ (ended_calm purpose (ending_of p) (called (record s { layer = layer })) (subst (λ (g : Finding Purpose). IfFits g s) f (hears_fit ready i s h generation bytes))))
  silent_by (of_again p rcode, layer) e is =
      subst (AreSilent j) (sym (ap (λ (y : Judged × Turn). y.1.0.sides) is ∙ answer_silent (answering_step layer p bytes rcode []) (header_in p).source empty_outbox (record s { layer = layer }))) tt
  silent_by (of_request p, layer) e is =
      let f = ap (λ (x : Finding Purpose × Layer Purpose). x.0) e in
      let a = request_answers bytes empty_outbox s (subst (λ (x : InitiatorState). HasOrb x.operation) h.is (sound i ready h.calls).orb) p in
      let ns = block_notes (block_note (brought p s) s) in
      let drop = drop_if (block_drops (brought p s) s) s.lists.slots.present in
      let more = notes_of s.number drop a.op None false in
      subst (AreSilent j) (sym (ap (λ (x : Judged × Turn). x.1.0.sides) (served s generation bytes p f) ∙ a.sides))
      (silent_own j (ns ++ more) (both_silent j ns more (brought_silent (brought p s)) (calm_notes j more (notes_calm s.number drop a.op None false))))

  pub others_silent : AreSilent j told
  unfolding receive_step
  others_silent = silent_by (judging_step s.layer generation bytes) refl refl
