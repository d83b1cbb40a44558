-- A list that an initiator began since it first saw the latest reset began in the generation that it is in, where every node has seen that reset; and its write of ORB_POINTER was sent in it.
use Rattle.sbp_world.proofs.Words.Std.{arith, ◌≡◌, ◌∙◌, refl, sym, ap, subst, ◌<◌, ◌≤◌, ◌==◌, ◌||◌, nat_eq, nat_tests, ℕ, zero, suc, Bool, true, false, cond, List, [], ◌∷◌, ◌++◌, Option, Some, false≢true, none-some}
use Rattle.sbp_world.proofs.Words.Wire.{Moment, Note, Sending, SerialsCount, asked, said, terms}
use Rattle.sbp_world.proofs.Words.Laws.{EachMoment, host_at, lists, present_list}
use Rattle.sbp_world.proofs.Words.World.{MayStand, begun_in, list_if, pointed_list}
use Rattle.sbp_base.specs.Update.{upd2}
use Rattle.sbp_journal.specs.declared.note.Note.TheVariants as notes
use Rattle.sbp_journal.specs.declared.note.NoteBuffer.{NoteBuffer}
use Rattle.sbp_laws.specs.Budget.{since_reset}
use Rattle.sbp_laws.specs.Hosts.{is_serial}
use Rattle.sbp_world.specs.Completing.Sights.{behind_sight, has_begun, has_seen, since_sight}
use Rattle.sbp_world.proofs.Common.{untrue, itself}
use Rattle.sbp_world.proofs.Completing.PresentSights.{AreSights, latest_in}
use Rattle.sbp_world.proofs.Hosts.SentMoments.{WasSent, count_now, sent_moment, serials_from}
use Rattle.sbp_world.proofs.Lists.Generations.{is_sight, moment_generation, not_lower}
use Rattle.sbp_world.proofs.Lists.ManageWire.{WireAt, WireMoments}
use Rattle.sbp_world.proofs.Lists.OpenLists.{latest}
use Rattle.sbp_world.proofs.Lists.OpenedMoments.{pointed_remains}
use Rattle.sbp_world.proofs.Lists.Rises.{Rises, RisesAt}
use Rattle.sbp_world.proofs.Lists.StatusKnown.{each_from}
use Rattle.sbp_world.proofs.Lists.UnrunTerms.{lists_grow}

module _ (i : ℕ) where
  abbrev own : List Moment → ℕ
  own past = (terms past).generation (suc i)

  -- ---- an initiator that saw the latest reset is in its generation
  abbrev Sighted : List Moment → Type 0
  Sighted past = has_seen (suc i) (since_reset past) ≡ true → own past ≡ latest_in past

  still_sighted : (m : Moment) (past : List Moment) → is_sight (suc i) m ≡ false → latest_in (m ∷ past) ≡ latest_in past → own past ≡ latest_in past → own (m ∷ past) ≡ latest_in (m ∷ past)
  still_sighted m past e f g = moment_generation (suc i) m past e ∙ (g ∙ sym f)

  sees_it : (other generation : ℕ) (past : List Moment) → generation ≡ latest_in past → (b : Bool) → (other == suc i) ≡ b → (b || has_seen (suc i) (since_reset past)) ≡ true → Sighted past → own (said (notes.Seen other generation) ∷ past) ≡ latest_in past
  sees_it other generation past sight true e s f =
      let same : suc i ≡ other = grind (arith, nat_tests, e) in
      ap (λ b. cond b generation (own past)) (let z : nat_eq (suc i) other ≡ true = grind (arith, nat_tests, same) in z) ∙ sight
  sees_it other generation past sight false e s f = still_sighted (said (notes.Seen other generation)) past e refl (f s)

  sighted : (past : List Moment) → AreSights past → Sighted past
  sighted [] a e = untrue e
  sighted (asked line event ∷ past) a e = still_sighted (asked line event) past refl refl (sighted past a.1 e)
  sighted (said (notes.Seen other generation) ∷ past) a e = sees_it other generation past a.0 (other == suc i) refl e (sighted past a.1)
  sighted (said (notes.Reset generation) ∷ past) a e = untrue e
  sighted (said (notes.Begin initiators ready) ∷ past) a e = untrue e
  sighted (said note ∷ past) a e = still_sighted (said note) past refl refl (sighted past a.1 e)

  -- ---- and what it began since then it began in it
  abbrev Since : List Moment → ℕ → Bool
  Since past n = has_begun (behind_sight (suc i) (since_reset past)) i n

  -- a moment that begins no list
  skips : (m : Moment) (ms : List Moment) (n : ℕ) → ((xs : List Moment) → has_begun (m ∷ xs) i n ≡ has_begun xs i n) → (b : Bool) → has_seen (suc i) ms ≡ b → has_begun (cond b (m ∷ behind_sight (suc i) ms) []) i n ≡ true → has_begun (behind_sight (suc i) ms) i n ≡ true
  skips m ms n f true s e = sym (f (behind_sight (suc i) ms)) ∙ e
  skips m ms n f false s e = absurd (false≢true e)

  began_it : (j m n : ℕ) (past : List Moment) (old : Bool) → (x : Bool) → nat_eq i j ≡ x → (y : Bool) → nat_eq n m ≡ y → cond x (cond y true old) old ≡ true → own past ≡ latest_in past → (old ≡ true → begun_in past i n ≡ latest_in past) → cond x (cond y ((terms past).generation (suc j)) (begun_in past i n)) (begun_in past i n) ≡ latest_in past
  began_it j m n past old true e true f g seen since = let same : j ≡ i = grind (arith, nat_tests, e) in ap (λ k. (terms past).generation (suc k)) same ∙ seen
  began_it j m n past old true e false f g seen since = since g
  began_it j m n past old false e y f g seen since = since g

  abbrev SinceIf : Bool → List Moment → Moment → ℕ → Bool
  SinceIf b past m n = has_begun (cond b (m ∷ behind_sight (suc i) (since_reset past)) []) i n

  abbrev begun_by : List Moment → (j m n : ℕ) → ℕ
  begun_by past j m n = cond (nat_eq i j) (cond (nat_eq n m) ((terms past).generation (suc j)) (begun_in past i n)) (begun_in past i n)

  begins : (j m n : ℕ) (cdb : List ℕ) (buffer : NoteBuffer) (past : List Moment) (b : Bool) → has_seen (suc i) (since_reset past) ≡ b → SinceIf b past (said (notes.Append j m zero cdb buffer)) n ≡ true → Sighted past → (Since past n ≡ true → begun_in past i n ≡ latest_in past) → begun_by past j m n ≡ latest_in past
  begins j m n cdb buffer past false s f seen since = absurd (false≢true f)
  begins j m n cdb buffer past true s f seen since = began_it j m n past (Since past n) (nat_eq i j) refl (nat_eq n m) refl f (seen s) since

  began : (past : List Moment) → AreSights past → (n : ℕ) → Since past n ≡ true → begun_in past i n ≡ latest_in past
  began [] a n e = untrue e
  began (asked line event ∷ past) a n e = began past a.1 n (skips (asked line event) (since_reset past) n (λ xs. refl) (has_seen (suc i) (since_reset past)) refl e)
  began (said (notes.Reset generation) ∷ past) a n e = untrue e
  began (said (notes.Begin initiators ready) ∷ past) a n e = untrue e
  began (said (notes.Append j m zero cdb buffer) ∷ past) a n e = begins j m n cdb buffer past (has_seen (suc i) (since_reset past)) refl e (sighted past a.1) (λ g. began past a.1 n g)
  began (said (notes.Append j m (suc k) cdb buffer) ∷ past) a n e =
      let later : nat_eq (suc k) 0 ≡ false = grind (arith, nat_tests) in
      ap (λ b. (cond {A = ℕ → ℕ → ℕ} b (upd2 (begun_in past) j m ((terms past).generation (suc j))) (begun_in past)) i n) later
      ∙ began past a.1 n (skips (said (notes.Append j m (suc k) cdb buffer)) (since_reset past) n (λ xs. refl) (has_seen (suc i) (since_reset past)) refl e)
  began (said note ∷ past) a n e = began past a.1 n (skips (said note) (since_reset past) n (λ xs. refl) (has_seen (suc i) (since_reset past)) refl e)

  -- where the latest generation is that of the initiator
  pub began_now : (past : List Moment) → AreSights past → own past ≡ (terms past).bus → own past ≡ latest_in past → (n : ℕ) → has_begun (since_sight (suc i) past) i n ≡ true → own past ≤ begun_in past i n
  began_now past a level latest n = by ((terms past).bus == 0) refl
    where
      by : (b : Bool) → ((terms past).bus == 0) ≡ b → has_begun (cond b (since_reset past) (behind_sight (suc i) (since_reset past))) i n ≡ true → own past ≤ begun_in past i n
      by true z e = let none : (terms past).bus ≡ 0 = grind (arith, nat_tests, z) in omega (arith, none, level)
      by false z e = let is = began past a n e in omega (arith, is, latest)

  -- ---- its write of ORB_POINTER
  -- what a list that begins makes of the generations in which lists began
  begins_in : (b : Bool) (f : ℕ → ℕ → ℕ) (j m n value : ℕ) → (cond {A = ℕ → ℕ → ℕ} b (upd2 f j m value) f) i n ≡ cond b (cond (nat_eq i j) (cond (nat_eq n m) value (f i n)) (f i n)) (f i n)
  begins_in true f j m n value = refl
  begins_in false f j m n value = refl

  -- no list began in a later generation than that of its initiator
  low_by : (past : List Moment) (j n : ℕ) (b x y : Bool) → nat_eq i j ≡ x → begun_in past i n ≤ own past → cond b (cond x (cond y ((terms past).generation (suc j)) (begun_in past i n)) (begun_in past i n)) (begun_in past i n) ≤ own past
  low_by past j n true true true e l = let same : j ≡ i = grind (arith, nat_tests, e) in subst (λ k. (terms past).generation (suc k) ≤ own past) (sym same) (omega arith)
  low_by past j n true true false e l = l
  low_by past j n true false y e l = l
  low_by past j n false x y e l = l

  pub low : (past : List Moment) → Rises past → (n : ℕ) → begun_in past i n ≤ own past
  low [] r n = omega arith
  low (asked line event ∷ past) r n =
      let l = low past r.1 n in
      let g = not_lower (suc i) (asked line event) past r.0 in
      omega (arith, l, g)
  low (said (notes.Append j m k cdb buffer) ∷ past) r n =
      subst (λ x. x ≤ own past) (sym (begins_in (nat_eq k 0) (begun_in past) j m n ((terms past).generation (suc j))))
      (low_by past j n (nat_eq k 0) (nat_eq i j) (nat_eq n m) refl (low past r.1 n))
  low (said note ∷ past) r n =
      let l = low past r.1 n in
      let g = not_lower (suc i) (said note) past r.0 in
      omega (arith, l, g)

  -- a list that began stays one of the generation in which it did
  age_by : (past : List Moment) (j m n value : ℕ) (b x y : Bool) → nat_eq i j ≡ x → nat_eq n m ≡ y → n < lists past i → (b ≡ true → i ≡ j → m ≡ lists past i) → cond b (cond x (cond y value (begun_in past i n)) (begun_in past i n)) (begun_in past i n) ≡ begun_in past i n
  age_by past j m n value true true true e f l first =
      let at = first refl (grind (arith, nat_tests, e)) in
      let same : n ≡ m = grind (arith, nat_tests, f) in
      absurd (omega (arith, l, at, same))
  age_by past j m n value true true false e f l first = refl
  age_by past j m n value true false y e f l first = refl
  age_by past j m n value false x y e f l first = refl

  pub ages : (later before : List Moment) (n : ℕ) → n < lists before i → EachMoment (MayStand i) (later ++ before) → begun_in (later ++ before) i n ≡ begun_in before i n
  ages [] before n l a = refl
  ages (asked line event ∷ later) before n l a = ages later before n l a.1
  ages (said (notes.Append j m k cdb buffer) ∷ later) before n l a =
      let past = later ++ before in
      let grown = lists_grow i later before in
      begins_in (nat_eq k 0) (begun_in past) j m n ((terms past).generation (suc j))
      ∙ (age_by past j m n ((terms past).generation (suc j)) (nat_eq k 0) (nat_eq i j) (nat_eq n m) refl refl (omega (arith, l, grown))
      (λ z same. ((a.0 (let y : nat_eq j i ≡ true = grind (arith, nat_tests, same) in y)).first (grind (arith, nat_tests, z))).1)
      ∙ ages later before n l a.1)
  ages (said note ∷ later) before n l a = ages later before n l a.1

  -- so its write is of no earlier one
  module _ (past : List Moment) (rises : Rises past) (stands : EachMoment (MayStand i) past) (wire : WireMoments past) (counts : SerialsCount past) (n serial : ℕ) (packet : Sending) (sent : (terms past).sent serial ≡ Some packet) (from_is : packet.from ≡ suc i) (pointed : pointed_list past serial i ≡ Some n) where
    w : WasSent past serial packet
    w = sent_moment past serial packet sent

    abbrev note : Note
    note = notes.Sent serial packet.generation packet.from packet.to packet.bytes

    back : (F : List Moment → Type 0) → F past → F (w.later ++ said note ∷ w.before)
    back F h = subst F (sym w.is) h

    here : EachMoment WireAt (said note ∷ w.before)
    here = each_from WireAt w.later (said note ∷ w.before) (back (EachMoment WireAt) wire)

    current : packet.generation ≡ own w.before
    current = here.0.now ∙ ap (terms w.before).generation from_is

    stands_there : EachMoment (MayStand i) (said note ∷ w.before)
    stands_there = each_from (MayStand i) w.later (said note ∷ w.before) (back (EachMoment (MayStand i)) stands)

    rises_there : EachMoment RisesAt (said note ∷ w.before)
    rises_there = each_from RisesAt w.later (said note ∷ w.before) (back Rises rises)

    present_by : (from : ℕ) → from ≡ suc i → pointed_list (said (notes.Sent serial packet.generation from packet.to packet.bytes) ∷ w.before) serial i ≡ Some n → present_list w.before i ≡ Some n
    present_by zero e f = absurd (omega (arith, e))
    present_by (suc j) e f =
        let same : j ≡ i = omega (arith, e) in
        let list = list_if (is_serial (host_at (said (notes.Sent serial packet.generation (suc j) packet.to packet.bytes) ∷ w.before) j).pointer serial) (present_list w.before j) in
        let own_one : nat_eq i j ≡ true = grind (arith, nat_tests, same) in
        subst (λ k. present_list w.before k ≡ Some n) same
        (of_list (is_serial (host_at (said (notes.Sent serial packet.generation (suc j) packet.to packet.bytes) ∷ w.before) j).pointer serial) (present_list w.before j)
        (sym (ap (λ b. cond b (cond (nat_eq i j) list (pointed_list w.before serial i)) (pointed_list w.before serial i)) (itself serial) ∙ ap (λ b. cond b list (pointed_list w.before serial i)) own_one) ∙ f))
      where
        of_list : (b : Bool) (list : Option ℕ) → list_if b list ≡ Some n → list ≡ Some n
        of_list true list g = g
        of_list false list g = absurd (none-some n g)

    present : present_list w.before i ≡ Some n
    present =
        let counts_there = back SerialsCount counts in
        let least : serial ≤ (terms (said note ∷ w.before)).count = (let c = (serials_from w.later (said note ∷ w.before) counts_there).0 in let d = count_now w.before serial packet.generation packet.from packet.to packet.bytes in omega (arith, c, d)) in
        present_by packet.from from_is (sym (pointed_remains w.later (said note ∷ w.before) serial i counts_there least) ∙ back (λ ms. pointed_list ms serial i ≡ Some n) pointed)

    pub no_older : begun_in past i n ≤ packet.generation
    no_older =
        let latest : suc n ≡ lists w.before i = latest i n w.before stands_there.1 present in
        let same : begun_in (w.later ++ said note ∷ w.before) i n ≡ begun_in w.before i n = ages w.later (said note ∷ w.before) n (let l : n < lists w.before i = omega (arith, latest) in l) (back (EachMoment (MayStand i)) stands) in
        let l = low w.before rises_there.1 n in
        let c = current in
        let at : begun_in past i n ≡ begun_in (w.later ++ said note ∷ w.before) i n = ap (λ ms. begun_in ms i n) (sym w.is) in
        omega (arith, same, l, c, at)
