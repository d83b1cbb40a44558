-- What an initiator tells in a call, and what that leaves of its lists, keep what the world counts.
use Rattle.sbp_world.proofs.Words.Std.{◌≡◌, arith, refl, sym, ◌∙◌, ap, subst, nat_eq, upd}
use Rattle.sbp_world.proofs.Words.Wire.{Moment, said, Cmd, Note, NoteBuffer, Side, ListLoad, OrbLoad, append_step, of_initiator, orb_load, weight_of, counted}
use Rattle.sbp_world.proofs.Words.Initiator.{StatusKind, PresentList, TicketParts, SlotTable}
use Rattle.sbp_world.proofs.Words.Laws.{share_of, cmd_of, taken_at, is_cut, event_of}
use Rattle.sbp_world.proofs.Words.World.{told, told_all, WorldState}
use Rattle.std.specs.Prelude.{ℕ, suc, ◌+◌, ◌^◌, ◌<◌, ◌≤◌, Bool, true, false, cond, List, [], ◌∷◌, ◌++◌, map, Option, Some, None}
use Rattle.sbp_journal.specs.declared.note.Note.TheVariants as notes
use Rattle.sbp_journal.specs.declared.side.Side.TheVariants as sides
use Rattle.sbp_world.proofs.Wire.Counted.{CountedAt, PaidIn, counted_more, counted_same, most_share, own_here, own_sum, own_there, own_words, row_at, says_append, says_drop, says_taken}
use Rattle.sbp_world.proofs.Wire.Loaded.{loads_in, sum_of}
use Rattle.sbp_world.proofs.Wire.Paid.{IsNew, Paid, append_first, append_next}
use Rattle.sbp_world.proofs.Wire.Pieces.{weight_is}
use Rattle.sbp_world.proofs.Wire.Shares.{is_appended, ledger_of}
use Rattle.sbp_world.proofs.Wire.Slotted.{Drops, IsLatest, IsOfKey, Same, SlottedIn, present_key}
use Rattle.sbp_world.proofs.Common.{itself}

-- what stands before and in the notes of a world
abbrev pub history : WorldState → List Moment → List Moment
history w past = map said w.fresh ++ past

pub told_more : (weight : ℕ) (sides : List Side) (side : Side) (w : WorldState) → told_all weight (sides ++ side ∷ []) w ≡ told weight side (told_all weight sides w)
unfolding told_all
told_more weight [] side w = refl
told_more weight (first ∷ later) side w = told_more weight later side (told weight first w)

-- a note that the world counts
abbrev pub is_counted : Note → Bool
is_counted (notes.Append i n k cdb buffer) = true
is_counted (notes.Taken i n k status answer) = true
is_counted (notes.Drop i n) = true
is_counted (notes.Cut i n cause) = true
is_counted _ = false

-- a function with one value over another
pub upd_over : {A : Type 0} (f : ℕ → A) (i : ℕ) (x y z : A) → z ≡ x → (j : ℕ) → upd f i z j ≡ upd (upd f i y) i x j
upd_over f i x y z e j = by (nat_eq j i)
  where
    by : (b : Bool) → cond b z (f j) ≡ cond b x (cond b y (f j))
    by true = e
    by false = refl

upd_now : {A : Type 0} (f : ℕ → A) (i : ℕ) (x y : A) → y ≡ x → (j : ℕ) → upd f i y j ≡ upd f i x j
upd_now f i x y e j = ap (λ z. upd f i z j) e

-- a note that is not counted leaves all as it was
pub plain_says : (n : ℕ) (begun : ℕ → ℕ) (keys : ℕ → Option (ℕ × ℕ)) (most weight : ℕ) (note : Note) (past : List Moment) (w : WorldState) → is_counted note ≡ false → CountedAt n begun keys most (history w past) w.places w.loads → CountedAt n begun keys most (said note ∷ history w past) w.places (counted weight note w.loads)
plain_says n begun keys most weight (notes.Append i m k cdb buffer) past w e c = cc
plain_says n begun keys most weight (notes.Taken i m k status answer) past w e c = cc
plain_says n begun keys most weight (notes.Drop i m) past w e c = cc
plain_says n begun keys most weight (notes.Cut i m cause) past w e c = cc
plain_says n begun keys most weight note past w e c = c

module _ (past : List Moment) (weight : ℕ) (w : WorldState) (i n : ℕ) (inside : i < n) (begun : ℕ → ℕ) (keys : ℕ → Option (ℕ × ℕ)) where
  -- behind what was told
  abbrev pub now : List Side → WorldState
  now told_now = told_all weight told_now w

  abbrev pub CountedNow : ℕ → WorldState → ℕ → Option (ℕ × ℕ) → Type 0
  CountedNow most x lists key = CountedAt n (upd begun i lists) (upd keys i key) most (history x past) x.places x.loads

  pub record Own (most : ℕ) (told_now : List Side) (number : ℕ) (s : SlotTable) : Type 0 where
    pub number_is : number ≡ i
    pub counted : CountedNow most (now told_now) s.lists (present_key s.present)
    pub slotted : SlottedIn s
    pub line : event_of (history (now told_now) past) ≡ event_of (history w past)

  -- ---- slots
  pub keeps : (most : ℕ) (told_now : List Side) (number : ℕ) (s t : SlotTable) → Same s t → Own most told_now number s → Own most told_now number t
  keeps most told_now number s t same own =
      let x = now told_now in
      record {
        number_is = own.number_is;
        counted = counted_same n (upd begun i s.lists) (upd begun i t.lists) (upd keys i (present_key s.present)) (upd keys i (present_key t.present)) most (history x past) x.places x.loads
            (upd_now begun i s.lists t.lists same.lists) (upd_now keys i (present_key s.present) (present_key t.present) same.key) own.counted;
        slotted = same.slots own.slotted;
        line = own.line;
      }

  pub widens : (most more : ℕ) (told_now : List Side) (number : ℕ) (s : SlotTable) → most ≤ more → more < 2 ^ 64 → Own most told_now number s → Own more told_now number s
  widens most more told_now number s l small own =
      let x = now told_now in
      record {
        number_is = own.number_is;
        counted = counted_more n (upd begun i s.lists) (upd keys i (present_key s.present)) most more (history x past) x.places x.loads l small own.counted;
        slotted = own.slotted;
        line = own.line;
      }

  -- ---- notes
  -- a note with what it leaves
  says : (most : ℕ) (told_now : List Side) (number : ℕ) (t : SlotTable) (note : Note) → number ≡ i → CountedAt n (upd begun i t.lists) (upd keys i (present_key t.present)) most (said note ∷ history (now told_now) past) (now told_now).places (counted weight note (now told_now).loads) → SlottedIn t → event_of (history (now told_now) past) ≡ event_of (history w past) → Own most (told_now ++ sides.Own note ∷ []) number t
  unfolding told
  says most told_now number t note e c slotted line =
      let same = sym (told_more weight told_now (sides.Own note) w) in
      record {
        number_is = e;
        counted = subst (λ x. CountedNow most x t.lists (present_key t.present)) same c;
        slotted = slotted;
        line = subst (λ (x : WorldState). event_of (history x past) ≡ event_of (history w past)) same line;
      }

  pub tells_plain : (most : ℕ) (told_now : List Side) (number : ℕ) (s : SlotTable) (note : Note) → is_counted note ≡ false → Own most told_now number s → Own most (told_now ++ sides.Own note ∷ []) number s
  tells_plain most told_now number s note e own =
      says most told_now number s note own.number_is (plain_says n (upd begun i s.lists) (upd keys i (present_key s.present)) most weight note past (now told_now) e own.counted) own.slotted own.line

  key_here : (key : Option (ℕ × ℕ)) → upd keys i key i ≡ key
  key_here key = ap (λ b. cond b key (keys i)) (itself i)

  begun_here : (lists : ℕ) → upd begun i lists i ≡ lists
  begun_here lists = ap (λ b. cond b lists (begun i)) (itself i)

  -- ---- a list is dropped
  pub tells_drop : (most : ℕ) (told_now : List Side) (number m k : ℕ) (s t : SlotTable) → present_key s.present ≡ Some (m, k) → Drops s t → Own most told_now number s → Own most (told_now ++ sides.Own (notes.Drop number m) ∷ []) number t
  tells_drop most told_now number m k s t present d own =
      let x = now told_now in
      let b = upd begun i s.lists in
      let ks = upd keys i (present_key s.present) in
      let c = says_drop n b ks most (history x past) x.places x.loads own.counted i inside m k (key_here (present_key s.present) ∙ present) in
      says most told_now number t (notes.Drop number m) own.number_is
      (subst (λ j. CountedAt n (upd begun i t.lists) (upd keys i (present_key t.present)) most (said (notes.Drop j m) ∷ history x past) x.places (counted weight (notes.Drop j m) x.loads)) (sym own.number_is)
      (counted_same n (upd b i (b i)) (upd begun i t.lists) (upd ks i None) (upd keys i (present_key t.present)) most (said (notes.Drop i m) ∷ history x past) x.places (counted weight (notes.Drop i m) x.loads)
      (upd_over begun i (b i) s.lists t.lists (d.lists ∙ sym (begun_here s.lists)))
      (upd_over keys i None (present_key s.present) (present_key t.present) (ap present_key d.key)) c))
      (d.slots own.slotted) own.line

  -- ---- a status is taken
  taken_by : (most : ℕ) (told_now : List Side) (number : ℕ) (s t : SlotTable) (list orb : ℕ) (status : StatusKind) (answer : List ℕ) (m k : ℕ) → present_key s.present ≡ Some (m, k) → list ≡ m → orb ≤ k → Same s t → Own most told_now number s → Own most (told_now ++ sides.Own (notes.Taken number list orb status answer) ∷ []) number t
  taken_by most told_now number s t list orb status answer m k present is below same own =
      let x = now told_now in
      let b = upd begun i s.lists in
      let ks = upd keys i (present_key s.present) in
      let c = says_taken n b ks most (history x past) x.places x.loads own.counted i inside m k orb status answer (key_here (present_key s.present) ∙ present) below in
      let note = notes.Taken number list orb status answer in
      says most told_now number t note own.number_is
      (subst (λ j. CountedAt n (upd begun i t.lists) (upd keys i (present_key t.present)) most (said (notes.Taken j list orb status answer) ∷ history x past) x.places (counted weight (notes.Taken j list orb status answer) x.loads)) (sym own.number_is)
      (subst (λ l. CountedAt n (upd begun i t.lists) (upd keys i (present_key t.present)) most (said (notes.Taken i l orb status answer) ∷ history x past) x.places (counted weight (notes.Taken i l orb status answer) x.loads)) (sym is)
      (counted_same n (upd b i (b i)) (upd begun i t.lists) (upd ks i (Some (m, k))) (upd keys i (present_key t.present)) most (said (notes.Taken i m orb status answer) ∷ history x past) x.places (counted weight (notes.Taken i m orb status answer) x.loads)
      (upd_over begun i (b i) s.lists t.lists (same.lists ∙ sym (begun_here s.lists)))
      (upd_over keys i (Some (m, k)) (present_key s.present) (present_key t.present) (same.key ∙ present)) c)))
      (same.slots own.slotted) own.line

  pub tells_taken : (most : ℕ) (told_now : List Side) (number : ℕ) (s t : SlotTable) (u : TicketParts) (status : StatusKind) (answer : List ℕ) → IsOfKey (present_key s.present) u → Same s t → Own most told_now number s → Own most (told_now ++ sides.Own (notes.Taken number u.list u.number status answer) ∷ []) number t
  tells_taken most told_now number s t u status answer of same own = by (present_key s.present) refl of
    where
      by : (key : Option (ℕ × ℕ)) → present_key s.present ≡ key → IsOfKey key u → Own most (told_now ++ sides.Own (notes.Taken number u.list u.number status answer) ∷ []) number t
      by None e o = absurd o
      by (Some (m, k)) e o = taken_by most told_now number s t u.list u.number status answer m k e o.0 o.1 same own

  -- ---- an ORB is appended
  module _ (most : ℕ) (told_now : List Side) (s t : SlotTable) (cmd : Cmd) (cdb : List ℕ) (buffer : NoteBuffer) (asks : cmd_of (event_of (history w past)) ≡ Some cmd) (weighs : weight ≡ weight_of cmd) (light : weight ≤ most_share) (small : most + most_share < 2 ^ 64) (own : Own most told_now i s) where
    abbrev x : WorldState
    x = now told_now

    abbrev h : List Moment
    h = history x past

    costs : share_of (cmd_of (event_of h)) ≡ weight
    costs = ap (λ e. share_of (cmd_of e)) own.line ∙ (ap share_of asks ∙ (weight_is cmd ∙ sym weighs))

    abbrev born : ℕ → ℕ → Bool
    born = is_appended h i

    abbrev row : ListLoad
    row = row_at x.loads i

    abbrev loads_of : ℕ → List OrbLoad
    loads_of o = loads_in i o (ledger_of h)

    -- the row of the initiator
    own_row : Paid (is_cut h i) born (taken_at h i) loads_of (sum_of i (ledger_of h)) s.lists (present_key s.present) row
    own_row =
        subst (λ z. Paid (is_cut h i) born (taken_at h i) loads_of (sum_of i (ledger_of h)) z (present_key s.present) row) (begun_here s.lists)
        (subst (λ z. Paid (is_cut h i) born (taken_at h i) loads_of (sum_of i (ledger_of h)) (upd begun i s.lists i) z row) (key_here (present_key s.present)) (own.counted.rows i inside))

    module _ (m k : ℕ) (new : IsNew (born m k) (taken_at h i m k)) where
      abbrev after : List Moment
      after = said (notes.Append i m k cdb buffer) ∷ h

      -- all together, where the row goes on
      appends_by : (lists : ℕ) (key : Option (ℕ × ℕ)) → s.lists ≤ lists → t.lists ≡ lists → present_key t.present ≡ key → (SlottedIn s → SlottedIn t) → PaidIn (is_cut after) (is_appended after) (taken_at after) (ledger_of after) i lists key (append_step m k weight row) → Own (most + most_share) (told_now ++ sides.Own (notes.Append i m k cdb buffer) ∷ []) i t
      appends_by lists key more e f slots p =
          let b = upd begun i s.lists in
          let ks = upd keys i (present_key s.present) in
          let c = says_append n b ks most h x.places x.loads own.counted i inside m k weight cdb buffer new costs light lists key (let g = begun_here s.lists in omega (arith, g, more)) small p in
          says (most + most_share) told_now i t (notes.Append i m k cdb buffer) refl
          (counted_same n (upd b i lists) (upd begun i t.lists) (upd ks i key) (upd keys i (present_key t.present)) (most + most_share) after x.places (of_initiator i (append_step m k weight) x.loads)
          (upd_over begun i lists s.lists t.lists e) (upd_over keys i key (present_key s.present) (present_key t.present) f) c)
          (slots own.slotted) own.line

    -- the first one of a list
    pub appends_first : s.present ≡ None → present_key t.present ≡ Some (s.lists, 0) → t.lists ≡ s.lists + 1 → (SlottedIn s → SlottedIn t) → Own (most + most_share) (told_now ++ sides.Own (notes.Append i s.lists 0 cdb buffer) ∷ []) i t
    appends_first none key lists slots =
        let l = s.lists in
        let p = subst (λ z. Paid (is_cut h i) born (taken_at h i) loads_of (sum_of i (ledger_of h)) l z row) (ap present_key none) own_row in
        let new = p.new_lists l 0 (omega arith) in
        let uncut = p.uncut l (omega arith) in
        let b = upd begun i l in
        let ks = upd keys i (present_key s.present) in
        let here = own_here n b ks most h x.places x.loads own.counted i inside l 0 weight cdb buffer new costs light in
        let there = own_there n b ks most h x.places x.loads own.counted i inside l 0 weight cdb buffer new costs light in
        let sum = own_sum n b ks most h x.places x.loads own.counted i inside l 0 weight cdb buffer new costs light in
        let now_ledger = ledger_of (after l 0 new) in
        appends_by l 0 new (suc l) (Some (l, 0)) (omega arith) (lists ∙ omega arith) key slots
        (own_words n b ks most h x.places x.loads own.counted i inside l 0 weight cdb buffer new costs light (suc l) (Some (l, 0)) (append_step l 0 weight row)
        (append_first (is_cut h i) born (taken_at h i) loads_of (sum_of i (ledger_of h)) l row weight (λ o. loads_in i o now_ledger) (sum_of i now_ledger)
        (here ∙ ap (λ c. cond c (loads_of l) (loads_of l ++ orb_load 0 weight ∷ [])) uncut) there (sum ∙ ap (λ c. sum_of i (ledger_of h) + cond c 0 weight) uncut) p))

    pub appends_next : (list : PresentList) → s.present ≡ Some list → present_key t.present ≡ Some (list.tail.list, suc list.tail.number) → t.lists ≡ s.lists → (SlottedIn s → SlottedIn t) → Own (most + most_share) (told_now ++ sides.Own (notes.Append i list.tail.list (suc list.tail.number) cdb buffer) ∷ []) i t
    appends_next list is key lists slots =
        let m = list.tail.list in
        let k = list.tail.number in
        let p = subst (λ z. Paid (is_cut h i) born (taken_at h i) loads_of (sum_of i (ledger_of h)) s.lists z row) (ap present_key is) own_row in
        let new = p.now.next (suc k) (omega arith) in
        let b = upd begun i s.lists in
        let ks = upd keys i (present_key s.present) in
        let here = own_here n b ks most h x.places x.loads own.counted i inside m (suc k) weight cdb buffer new costs light in
        let there = own_there n b ks most h x.places x.loads own.counted i inside m (suc k) weight cdb buffer new costs light in
        let sum = own_sum n b ks most h x.places x.loads own.counted i inside m (suc k) weight cdb buffer new costs light in
        let now_ledger = ledger_of (after m (suc k) new) in
        appends_by m (suc k) new s.lists (Some (m, suc k)) (omega arith) lists key slots
        (own_words n b ks most h x.places x.loads own.counted i inside m (suc k) weight cdb buffer new costs light s.lists (Some (m, suc k)) (append_step m (suc k) weight row)
        (append_next (is_cut h i) born (taken_at h i) loads_of (sum_of i (ledger_of h)) s.lists row m k p weight (λ o. loads_in i o now_ledger) (sum_of i now_ledger) there here sum))

  -- the present list is the latest one
  abbrev pub before : List Side → List Moment
  before told_now = history (now told_now) past

  latest_by : (told_now : List Side) (s : SlotTable) (key : Option (ℕ × ℕ)) → PaidIn (is_cut (before told_now)) (is_appended (before told_now)) (taken_at (before told_now)) (ledger_of (before told_now)) i s.lists key (row_at (now told_now).loads i) → IsLatest key s.lists
  latest_by told_now s None p = tt
  latest_by told_now s (Some (m, k)) p = p.now.latest

  pub latest : (most : ℕ) (told_now : List Side) (number : ℕ) (s : SlotTable) → Own most told_now number s → IsLatest (present_key s.present) s.lists
  latest most told_now number s own =
      let h = before told_now in
      latest_by told_now s (present_key s.present)
      (subst (λ z. PaidIn (is_cut h) (is_appended h) (taken_at h) (ledger_of h) i s.lists z (row_at (now told_now).loads i)) (key_here (present_key s.present))
      (subst (λ z. PaidIn (is_cut h) (is_appended h) (taken_at h) (ledger_of h) i z (upd keys i (present_key s.present) i) (row_at (now told_now).loads i)) (begun_here s.lists) (own.counted.rows i inside)))
