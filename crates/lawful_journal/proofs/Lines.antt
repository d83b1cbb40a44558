-- A line is determined: by its event, by what stood before it, and by what is told.
use Rattle.std.proofs.Common.{◌≡◌, ◌∙◌, ℕ, zero, suc, ◌+◌, ◌-◌, ◌⊎◌, Bool, true, false, List, [], ◌∷◌, ◌++◌, Option, Some, None, refl, sym, ap, ap₂, subst, inl, inr, arith}
use Rattle.rbc_disk.specs.Disk.{Disk}
use Rattle.sbp_journal.specs.Run.{Moment, asked, said}
use Rattle.sbp_journal.specs.Wire.{terms}
use Rattle.sbp_journal.specs.declared.event.Action.{Action}
use Rattle.sbp_journal.specs.declared.event.Action.TheVariants as actions
use Rattle.sbp_journal.specs.declared.event.Event.{Event}
use Rattle.sbp_journal.specs.declared.event.Event.TheVariants as events
use Rattle.sbp_journal.specs.declared.note.Note.{Note}
use Rattle.sbp_journal.specs.declared.note.Note.TheVariants as notes
use Rattle.sbp_laws.specs.ActionLaw.{Acts, ActsOr, Brings}
use Rattle.sbp_laws.specs.Actions.{action_notes, buffer_of, link_notes, new_list, new_number, refusal_at}
use Rattle.sbp_laws.specs.Budget.{flies, settle_deliveries}
use Rattle.sbp_laws.specs.Deliveries.{AreDeliveries, AreEffects, BeginsDelivery, EndsSettle, IsDelivery, IsTurnOf, NoneFlies, SettlesWithin, delivered_by, deliveries, once_told}
use Rattle.sbp_laws.specs.LineLaw.{Either, may_repeat, refused}
use Rattle.sbp_laws.specs.Lists.{linked}
use Rattle.sbp_laws.specs.Packets.{is_under_way}
use Rattle.sbp_laws.specs.Turns.{EachMoment, EachTurn, effects_of, sends_of, Turn, turn}
use Rattle.lawful_journal.specs.Telling.{Telling}
use Rattle.lawful_journal.proofs.Histories.{effects_front, front, moments_before, put, put_append, told_once, turns_before}
use Rattle.lawful_journal.proofs.Settling.{Begins, Goes, Stands, first_note, is_first, same_deliveries, same_front}
use Rattle.lawful_journal.proofs.Takings.{HoldsAt}
use Rattle.lawful_journal.proofs.Turned.{Holds, same_sends}

-- ---- notes without a turn of their own
abbrev IsWhole : List Note → Type 0
IsWhole rest = front rest ≡ rest

whole_sends : (rest : List Note) → front (sends_of rest) ≡ sends_of rest
whole_sends [] = refl
whole_sends (notes.Sent serial generation from to bytes ∷ rest) = ap (λ l. notes.Sent serial generation from to bytes ∷ l) (whole_sends rest)
whole_sends (note ∷ rest) = whole_sends rest

-- the notes of an action and what follows them
whole_link : (i n k m : ℕ) (sends : List Note) → IsWhole sends → IsWhole ((link_notes i n k ++ notes.Rung i n m ∷ []) ++ sends)
whole_link i n zero m sends whole = ap (λ l. notes.Rung i n m ∷ l) whole
whole_link i n (suc k) m sends whole = ap (λ l. notes.Low i n (suc k) ∷ notes.Linked i n (suc k) ∷ notes.Rung i n m ∷ l) whole

whole_action : (action : Action) (past : List Moment) (i : ℕ) (sends : List Note) → IsWhole sends → IsWhole (action_notes action past i ++ sends)
whole_action (actions.Put cmd) past i sends whole = ap (λ l. notes.Append i (new_list past i) (new_number past i) cmd.cdb (buffer_of cmd) ∷ l) whole
whole_action (actions.Append cmd) past i sends whole =
    ap (λ l. notes.Append i (new_list past i) (new_number past i) cmd.cdb (buffer_of cmd) ∷ l) (whole_link i (new_list past i) (new_number past i) (new_number past i) sends whole)
whole_action actions.Low past i sends whole = ap (λ l. notes.Low i (new_list past i) (new_number past i - 1) ∷ l) whole
whole_action actions.Link past i sends whole = ap (λ l. notes.Linked i (new_list past i) (new_number past i - 1) ∷ l) whole
whole_action actions.Ring past i sends whole = ap (λ l. notes.Rung i (new_list past i) (linked past i (new_list past i) - 1) ∷ l) whole
whole_action (actions.Dummy k) past i sends whole = ap (λ l. notes.Dummied i (new_list past i) k ∷ l) whole
whole_action action past i sends whole = whole

either : (A A' B B' C : Type 0) (b : Bool) → (A → A' → C) → (B → B' → C) → Either b A B → Either b A' B' → C
either A A' B B' C true a b one more = a one more
either A A' B B' C false a b one more = b one more

same_notes : (told other given : List Note) → told ≡ given → other ≡ given → told ≡ other
same_notes told other given is also = is ∙ sym also

begins_settle : (told : List Note) → BeginsDelivery told → front told ≡ []
begins_settle [] begins = refl
begins_settle (notes.Got serial ∷ rest) begins = refl
begins_settle (notes.Ignored serial cause ∷ rest) begins = refl
begins_settle (note ∷ rest) begins = elim begins [ ]

module _ (wild : ℕ → Bool) (telling : Telling) (disks : List Disk) where
  abbrev At : Moment → List Moment → Type 0
  At = HoldsAt wild telling disks

  abbrev Law : Turn → Type 0
  Law = Holds telling disks

  -- ---- a line with one turn
  same_one : (past : List Moment) (first : Note) (rest other : List Note) → Begins telling disks past first
      → AreEffects rest → AreEffects other → Stands wild telling disks (said first ∷ past) rest → Stands wild telling disks (said first ∷ past) other → rest ≡ other
  same_one past first rest other begins are also stands standing =
      sym (effects_front rest are) ∙ same_front wild telling disks past first rest other begins stands standing ∙ effects_front other also

  same_turn : (past : List Moment) (first : Note) (told other : List Note) → Begins telling disks past first → IsTurnOf first told → IsTurnOf first other
      → Stands wild telling disks past told → Stands wild telling disks past other → told ≡ other
  same_turn past first [] other begins is also stands standing = elim is [ ]
  same_turn past first (note ∷ rest) [] begins is also stands standing = elim also [ ]
  same_turn past first (note ∷ rest) (another ∷ others) begins is also stands standing =
      ap₂ (λ n l. n ∷ l) (is.0 ∙ sym also.0)
      (same_one past first rest others begins is.1 also.1
      (subst (λ n. Stands wild telling disks (said n ∷ past) rest) is.0 stands) (subst (λ n. Stands wild telling disks (said n ∷ past) others) also.0 standing))

  begins_delivery : (past : List Moment) (note : Note) (serial : ℕ) → delivered_by note ≡ Some serial → Begins telling disks past note
  begins_delivery past (notes.Got other) serial e = λ l each. each.0
  begins_delivery past (notes.Ignored other cause) serial e = λ l each. each.0
  begins_delivery past note serial e = absurd (let no : None ≡ Some serial = e in cc)

  first_of : (past : List Moment) (note : Note) (rest : List Note) (serial : ℕ) → delivered_by note ≡ Some serial → Stands wild telling disks (said note ∷ past) rest → note ≡ first_note disks past serial
  first_of past note rest serial by stands =
      is_first telling disks past note (front rest) serial by (begins_delivery past note serial by (front rest) (turns_before Law rest (said note ∷ past) stands.0))

  same_delivery : (past : List Moment) (serial : ℕ) (told other : List Note) → IsDelivery serial told → IsDelivery serial other
      → Stands wild telling disks past told → Stands wild telling disks past other → told ≡ other
  same_delivery past serial [] other is also stands standing = elim is [ ]
  same_delivery past serial (note ∷ rest) [] is also stands standing = elim also [ ]
  same_delivery past serial (note ∷ rest) (another ∷ others) is also stands standing =
      same_turn past note (note ∷ rest) (another ∷ others) (begins_delivery past note serial is.0) (refl, is.1)
      (first_of past another others serial also.0 standing ∙ sym (first_of past note rest serial is.0 stands), also.1) stands standing

  -- ---- `step` and `settle`
  goes_of : (past : List Moment) (most : ℕ) (told : List Note) → AreDeliveries past most told → Goes wild telling disks most 0 past told
  goes_of past most told are = record { lowest = are.lowest; few = (let few = are.few in omega (arith, few)); all = by_end are.all }
    where
      by_end : (deliveries told ≡ most) ⊎ NoneFlies (once_told past told) → (deliveries told + 0 ≡ most) ⊎ NoneFlies (put past told)
      by_end (inl all) = inl (omega (arith, all))
      by_end (inr none) = inr (subst NoneFlies (told_once past told) none)

  same_steps : (past : List Moment) (most : ℕ) (told other : List Note) → AreDeliveries past most told → AreDeliveries past most other
      → Stands wild telling disks past told → Stands wild telling disks past other → told ≡ other
  same_steps past most told other are also stands standing =
      same_deliveries wild telling disks most told other 0 past (begins_settle told are.begins ∙ sym (begins_settle other also.begins)) stands standing (goes_of past most told are) (goes_of past most other also)

  without_last : (past : List Moment) (most : ℕ) (told : List Note) (last : Note) (now : List Moment) → EndsSettle past most told last → EachTurn Law (said last ∷ now) → EachTurn Law now
  without_last past most told notes.Settled now ends each = each.1
  without_last past most told notes.Stopped now ends each = each.1
  without_last past most told last now ends each = elim ends [ ]

  before_last : (past : List Moment) (most : ℕ) (told before : List Note) (last : Note) → told ≡ before ++ last ∷ [] → EndsSettle past most before last → Stands wild telling disks past told → Stands wild telling disks past before
  before_last past most told before last is ends stands =
      let both : Stands wild telling disks past (before ++ last ∷ []) = subst (Stands wild telling disks past) is stands in (
        without_last past most before last (put past before) ends (subst (EachTurn Law) (put_append past before (last ∷ [])) both.0),
        moments_before At (last ∷ []) (put past before) (subst (EachMoment At) (put_append past before (last ∷ [])) both.1),
      )

  same_last : (past : List Moment) (most : ℕ) (told : List Note) (last other : Note) → EndsSettle past most told last → EndsSettle past most told other → last ≡ other
  same_last past most told notes.Settled notes.Settled ends also = refl
  same_last past most told notes.Settled notes.Stopped ends also = absurd (also.1 ends)
  same_last past most told notes.Stopped notes.Settled ends also = absurd (ends.1 also)
  same_last past most told notes.Stopped notes.Stopped ends also = refl
  same_last past most told notes.Settled other ends also = elim also [ ]
  same_last past most told notes.Stopped other ends also = elim also [ ]
  same_last past most told last other ends also = elim ends [ ]

  same_settle : (past : List Moment) (most : ℕ) (told other : List Note) → SettlesWithin most past told → SettlesWithin most past other
      → Stands wild telling disks past told → Stands wild telling disks past other → told ≡ other
  same_settle past most told other settles also stands standing =
      settles.is ∙ ap₂ (λ l n. l ++ n ∷ []) before (same_last past most also.before settles.last also.last (subst (λ l. EndsSettle past most l settles.last) before settles.ends) also.ends) ∙ sym also.is
    where
      before : settles.before ≡ also.before
      before = same_steps past most settles.before also.before settles.delivers also.delivers
          (before_last past most told settles.before settles.last settles.is settles.ends stands) (before_last past most other also.before also.last also.is also.ends standing)

  -- ---- an action
  abbrev StandsOn : List Moment → (line i : ℕ) → Action → List Note → Type 0
  StandsOn past line i action told = Stands wild telling disks (asked line (events.Act i action) ∷ past) told

  acts_whole : (past : List Moment) (i : ℕ) (action : Action) (told : List Note) → Acts past i action told → front told ≡ told
  acts_whole past i action told acts =
      subst IsWhole (sym (acts.first ∙ ap (λ l. l ++ sends_of told) acts.effects)) (whole_action action past i (sends_of told) (whole_sends told))

  acts_hold : (past : List Moment) (line i : ℕ) (action : Action) (told : List Note) → Acts past i action told → StandsOn past line i action told
      → Law (turn past (asked line (events.Act i action)) told)
  acts_hold past line i action told acts stands =
      subst (λ l. Law (turn past (asked line (events.Act i action)) l)) (acts_whole past i action told acts) (turns_before Law told (asked line (events.Act i action) ∷ past) stands.0).0

  same_acts : (past : List Moment) (line i : ℕ) (action : Action) (told other : List Note) → Acts past i action told → Acts past i action other
      → StandsOn past line i action told → StandsOn past line i action other → told ≡ other
  same_acts past line i action told other acts also stands standing =
      acts.first
      ∙ ap₂ (λ x y. x ++ y) effects
      (same_sends telling disks past (asked line (events.Act i action)) told other (acts_hold past line i action told acts stands) (acts_hold past line i action other also standing) refl effects)
      ∙ sym also.first
    where
      effects : effects_of told ≡ effects_of other
      effects = acts.effects ∙ sym also.effects

  same_action : (past : List Moment) (line i : ℕ) (action : Action) (told other : List Note) (refusal : Option ℕ) → ActsOr refusal past line i action told → ActsOr refusal past line i action other
      → StandsOn past line i action told → StandsOn past line i action other → told ≡ other
  same_action past line i action told other (Some number) acts also stands standing = acts ∙ sym also
  same_action past line i action told other None acts also stands standing = same_acts past line i action told other acts also stands standing

  -- The notes of a line.
  pub same_line : (past : List Moment) (line : ℕ) (event : Event) (told other : List Note) → Brings disks past line event told → Brings disks past line event other
      → Stands wild telling disks (asked line event ∷ past) told → Stands wild telling disks (asked line event ∷ past) other → told ≡ other
  same_line past line (events.Begin count ready) told other brings also stands standing = brings ∙ sym also
  same_line past line (events.Act i action) told other brings also stands standing = same_action past line i action told other (refusal_at past i action) brings also stands standing
  same_line past line (events.Deliver serial) told other brings also stands standing =
      either (IsDelivery serial told) (IsDelivery serial other) (told ≡ refused line 11) (other ≡ refused line 11) (told ≡ other) (flies ((terms past).flight serial))
      (λ one more. same_delivery (asked line (events.Deliver serial) ∷ past) serial told other one more stands standing) (same_notes told other (refused line 11)) brings also
  same_line past line (events.Repeat serial) told other brings also stands standing =
      either (IsDelivery serial told) (IsDelivery serial other) (told ≡ refused line 11) (other ≡ refused line 11) (told ≡ other) (may_repeat (terms past) serial)
      (λ one more. same_delivery (asked line (events.Repeat serial) ∷ past) serial told other one more stands standing) (same_notes told other (refused line 11)) brings also
  same_line past line (events.Lose serial) told other brings also stands standing = brings ∙ sym also
  same_line past line (events.Timeout serial) told other brings also stands standing =
      either (IsTurnOf (notes.TimedOut serial) told) (IsTurnOf (notes.TimedOut serial) other) (told ≡ refused line 11) (other ≡ refused line 11) (told ≡ other) (is_under_way (terms past) serial)
      (λ one more. same_turn (asked line (events.Timeout serial) ∷ past) (notes.TimedOut serial) told other (λ l each. each.0) one more stands standing) (same_notes told other (refused line 11)) brings also
  same_line past line (events.Step count) told other brings also stands standing = same_steps (asked line (events.Step count) ∷ past) count told other brings also stands standing
  same_line past line events.Settle told other brings also stands standing =
      same_settle (asked line events.Settle ∷ past) (settle_deliveries (asked line events.Settle ∷ past)) told other brings also stands standing
  same_line past line (events.Reset physical) told other brings also stands standing = brings ∙ sym also
  same_line past line (events.See node) told other brings also stands standing =
      same_turn (asked line (events.See node) ∷ past) (notes.Seen node (terms past).bus) told other (λ l each. each.0) brings also stands standing
  same_line past line events.Tick told other brings also stands standing = same_turn (asked line events.Tick ∷ past) notes.Tick told other (λ l each. each.0) brings also stands standing
  same_line past line (events.Inject i bytes) told other brings also stands standing = brings ∙ sym also
  same_line past line (events.Key unit key) told other brings also stands standing = brings ∙ sym also
