-- How many logins the notes of a call say that the target granted: those of the decisions that the target tells; an initiator tells none, and no packet does.
use Rattle.sbp_world.proofs.Words.Std.{arith, ◌≡◌, ◌∙◌, refl, ap, ℕ, ◌+◌, Bool, true, false, List, [], ◌∷◌, Option, Some, None}
use Rattle.sbp_world.proofs.Words.Wire.{LabelParts, node_of, function_word, login_if, Note, FunctionWord, Outgoing, Side, OutboxState, Moment}
use Rattle.sbp_world.proofs.Words.World.{handed_out, asked, posted, sent, sent_all, sent_to, initiator_of, told, told_all, WorldState, AreOthers, IsOther, entries, entries_of}
use Rattle.sbp_journal.specs.declared.note.Note.TheVariants as notes
use Rattle.sbp_journal.specs.declared.operation.FunctionWord.TheVariants as words
use Rattle.sbp_journal.specs.declared.side.Side.TheVariants as sides
use Rattle.sbp_world.proofs.Hosts.Layered.{AreTame, is_tame}
use Rattle.sbp_world.proofs.Agents.Management.Still.{hist}
use Rattle.sbp_world.proofs.Lists.GrantSides.{grant_of, grants, word_grants}

managed_is : (i subject status : ℕ) (word : FunctionWord) (login : Option ℕ) → entries_of (notes.Managed i word subject status login) ≡ word_grants word login
managed_is i subject status words.Login None = refl
managed_is i subject status words.Login (Some login) = refl
managed_is i subject status word login = refl

tame_none : (note : Note) → is_tame note ≡ true → entries_of note ≡ 0
tame_none (notes.Begin initiators ready) e = absurd (let no : false ≡ true = e in cc)
tame_none (notes.Managed i word subject status login) e = absurd (let no : false ≡ true = e in cc)
tame_none note e = refl

module _ (past : List Moment) where
  abbrev pub granted : WorldState → ℕ
  granted w = entries (hist past w)

  -- ---- what the target tells
  other_told : (weight : ℕ) (side : Side) (w : WorldState) → IsOther side → granted (told weight side w) ≡ grant_of side + granted w
  unfolding told
  other_told weight (sides.Own note) w f = absurd f
  other_told weight (sides.Opened place orb) w f = omega arith
  other_told weight (sides.Managed node function subject status login) w f = ap (λ n. n + granted w) (managed_is (initiator_of w node) subject status (function_word function) (login_if (function_word function) status login))
  other_told weight side w f = refl

  others_told : (weight : ℕ) (later : List Side) (w : WorldState) → AreOthers later → granted (told_all weight later w) ≡ grants later + granted w
  unfolding told_all
  others_told weight [] w f = omega arith
  others_told weight (side ∷ later) w f =
      let one = other_told weight side w f.0 in
      let rest = others_told weight later (told weight side w) f.1 in
      omega (arith, one, rest)

  -- ---- and an initiator
  own_told : (weight : ℕ) (later : List Side) (w : WorldState) → AreTame later → granted (told_all weight later w) ≡ granted w
  unfolding told_all told
  own_told weight [] w t = refl
  own_told weight (sides.Own note ∷ later) w t =
      let one = tame_none note t.0 in
      let rest = own_told weight later (told weight (sides.Own note) w) t.1 in
      omega (arith, one, rest)
  own_told weight (_ ∷ later) w t = absurd t.0

  -- ---- packets
  pub posted_granted : (from to : ℕ) (injected : Bool) (bytes : List ℕ) (w : WorldState) → granted (posted from to injected bytes w) ≡ granted w
  unfolding posted
  posted_granted from to true bytes w = omega arith
  posted_granted from to false bytes w = omega arith

  asked_granted : (serial to node peer : ℕ) (label : Option LabelParts) (w : WorldState) → granted (asked serial to node peer label w) ≡ granted w
  asked_granted serial to node peer None w = refl
  asked_granted serial to node peer (Some label) w = refl

  to_granted : (to : Option ℕ) (from : ℕ) (packet : Outgoing) (w : WorldState) → granted (sent_to to from packet w) ≡ granted w
  to_granted None from packet w = refl
  to_granted (Some to) from packet w =
      let v = posted from to false packet.bytes w in
      asked_granted (w.store.last + 1) to from packet.to packet.label v ∙ posted_granted from to false packet.bytes w

  all_granted : (from : ℕ) (packets : List Outgoing) (w : WorldState) → granted (sent_all from packets w) ≡ granted w
  unfolding sent_all sent
  all_granted from [] w = refl
  all_granted from (packet ∷ later) w = all_granted from later (sent from packet w) ∙ to_granted (node_of w.generations from packet.to) from packet w

  -- ---- what is handed out
  pub target_granted : (node weight : ℕ) (outbox : OutboxState) (w : WorldState) → AreOthers outbox.sides → granted (handed_out node weight outbox w) ≡ grants outbox.sides + granted w
  target_granted node weight outbox w f = all_granted node outbox.packets (told_all weight outbox.sides w) ∙ others_told weight outbox.sides w f

  pub own_granted : (node weight : ℕ) (outbox : OutboxState) (w : WorldState) → AreTame outbox.sides → granted (handed_out node weight outbox w) ≡ granted w
  own_granted node weight outbox w t = all_granted node outbox.packets (told_all weight outbox.sides w) ∙ own_told weight outbox.sides w t
