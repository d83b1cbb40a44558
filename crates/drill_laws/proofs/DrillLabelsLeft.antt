-- A label is free for each line of a drill that appends, where each settle leaves no request under way: 16 of the 64 at most are not free, and under each other one the last request was another one.
use Rattle.std.proofs.Common.{◌≡◌, ◌∙◌, inl, refl, sym, ap, subst, ℕ, zero, suc, ◌+◌, ◌*◌, ◌^◌, ◌<◌, ◌≤◌, ◌&&◌, ◌||◌, not, nat_eq, is_some, Bool, true, false, cond, List, [], ◌∷◌, ◌++◌, map, reverse, Option, Some, None, arith}
use Rattle.std.specs.Str.{bytes_eq}
use Rattle.std.proofs.lemmas.Bool.Decides.{nat_tests}
use Rattle.std.proofs.lemmas.List.{reverse-reverse}
use Rattle.std.proofs.lemmas.Slice.Eq.{bytes_eq-Decides}
use Rattle.label_table.specs.Bodies.{Body}
use Rattle.label_table.specs.Requests.{is_last, is_write, with_label}
use Rattle.rbc_disk.specs.Disk.{Disk}
use Rattle.sbp_journal.specs.Run.{Entry, Moment, asked, history, said}
use Rattle.sbp_journal.specs.Wire.{Terms, terms}
use Rattle.sbp_journal.specs.declared.event.Cmd.{Cmd}
use Rattle.sbp_journal.specs.declared.event.Event.{Event}
use Rattle.sbp_journal.specs.declared.event.Event.TheVariants as events
use Rattle.sbp_journal.specs.declared.event.Action.TheVariants as actions
use Rattle.sbp_journal.specs.declared.note.Note.TheVariants as notes
use Rattle.sbp_laws.specs.ActionLaw.{ActsOr, Brings}
use Rattle.sbp_laws.specs.Actions.{action_body, lacks_label, refusal_at, ring_body}
use Rattle.sbp_laws.specs.Hosts.{Host, host_at}
use Rattle.sbp_laws.specs.Packets.{finds_label, free_from, id_for, id_of, is_free, label_for, lowest_from, request_bytes, serves}
use Rattle.sbp_laws.specs.SentRequests.{RequestsLaw}
use Rattle.sbp_laws.specs.Turns.{EachMoment, EachTurnBefore, turn}
use Rattle.sbp_world.proofs.Hosts.Labels.{found_by}
use Rattle.drill_laws.specs.DrillCalm.{IsLawfulDrill}
use Rattle.drill_laws.specs.DrillLines.{IsDrillLine, append_lines, is_append_line}
use Rattle.drill_laws.specs.DrillRefused.{HasRoomFor, HaveRoom, IsAliveAt, refused_for}
use Rattle.drill_laws.specs.DrillRoom.{DrillsHaveRoom, HasSlotFor, HaveSlots}
use Rattle.drill_laws.specs.DrillSettles.{events_said}
use Rattle.drill_laws.proofs.DrillAir.{acting_latest, all_reverse, line_turn, onto}
use Rattle.drill_laws.proofs.DrillCalm.{drills_are_calm, lawful_before, settle_back}
use Rattle.drill_laws.proofs.DrillFresh.{Fresh, pointer_is}
use Rattle.drill_laws.proofs.DrillFreshLines.{LineFresh, line_fresh, refused_stays, stays_fresh}
use Rattle.drill_laws.proofs.DrillHolds.{rest_at_settles}
use Rattle.drill_laws.proofs.DrillLabels.{RestsAtSettles, busy, few_busy, is_busy, own}
use Rattle.drill_laws.proofs.DrillLast.{Stays, differs, labelled_ring, same_ring, stays_then, told_stays}
use Rattle.drill_laws.proofs.DrillMoments.{drill_moments}
use Rattle.drill_laws.proofs.DrillPending.{StayFew, few_before, few_now, generated_few}
use Rattle.drill_laws.proofs.DrillReady.{Stands, all_stand, behind_each, more}
use Rattle.drill_laws.proofs.DrillRefused.{AreOther, is_other, settle_other}
use Rattle.drill_laws.proofs.DrillSettles.{line_acting, lines_split}
use Rattle.drill_laws.proofs.DrillSlotsLeft.{drills_have_slots}
use Rattle.drill_laws.proofs.DrillWire.{young}

-- ---- what each line leaves
record FreshUp (entries : List Entry) (i : ℕ) : Type 0 where
  fresh : Fresh (history entries) i
  low : (host_at (history entries) i).running ≤ 1 + append_lines (events_said entries)

lawful_alive : (entry next : Entry) (before : List Entry) → EachMoment IsAliveAt (history (entry ∷ next ∷ before)) → EachMoment IsAliveAt (history (next ∷ before))
lawful_alive entry next before alive = (behind_each IsAliveAt entry.notes (asked entry.line entry.event ∷ history (next ∷ before)) alive).1

module _ (disks : List Disk) (entry next : Entry) (before : List Entry) (l : IsLawfulDrill disks (entry ∷ next ∷ before)) (alive : EachMoment IsAliveAt (history (entry ∷ next ∷ before))) (was : (i : ℕ) → i < 2 → FreshUp (next ∷ before) i) where
  abbrev so_far : List Moment
  so_far = history (next ∷ before)

  abbrev then : IsLawfulDrill disks (next ∷ before)
  then = lawful_before disks entry next before l

  abbrev behind_line : ℕ → Cmd → List Moment
  behind_line j cmd = map said entry.notes ++ asked entry.line (events.Act j (actions.Append cmd)) ∷ so_far

  append_fresh : (j : ℕ) (cmd : Cmd) → entry.event ≡ events.Act j (actions.Append cmd) → j < 2 → (i : ℕ) → i < 2 → LineFresh so_far (behind_line j cmd) i
  append_fresh j cmd e small i inside =
      let brings = subst (λ v. Brings disks so_far entry.line v (reverse entry.notes)) e l.run.brings.0 in
      let each = subst (λ v. EachTurnBefore (RequestsLaw disks) (map said entry.notes ++ asked entry.line v ∷ so_far) []) e l.run.requests in
      let acting = acting_latest entry.notes (line_acting disks so_far entry.line j cmd (reverse entry.notes) brings) in
      by (refusal_at so_far j (actions.Append cmd)) refl (line_turn (RequestsLaw disks) entry.notes [] so_far entry.line (events.Act j (actions.Append cmd)) acting each) brings
    where
      number_small : (host_at so_far j).running < 2 ^ 32
      number_small = (let low = (was j small).low in let few = then.run.few in omega (arith, low, few))

      honest : (s : ℕ) → (terms so_far).injected s ≡ false
      honest = (young so_far (drill_moments disks (next ∷ before) then.run.brings then.run.lines) then.run.packets).injected

      by : (refusal : Option ℕ) → refusal_at so_far j (actions.Append cmd) ≡ refusal → RequestsLaw disks (turn so_far (asked entry.line (events.Act j (actions.Append cmd))) (onto entry.notes [])) → ActsOr refusal so_far entry.line j (actions.Append cmd) (reverse entry.notes)
          → LineFresh so_far (behind_line j cmd) i
      by (Some number) f asks told =
          let is : entry.notes ≡ notes.Refused entry.line number ∷ [] = sym (reverse-reverse entry.notes) ∙ ap reverse told in
          subst (λ ns. LineFresh so_far (map said ns ++ asked entry.line (events.Act j (actions.Append cmd)) ∷ so_far) i) (sym is) (stays_fresh so_far _ i (refused_stays so_far entry.line j cmd entry.line number i) (was i inside).fresh)
      by None f asks acts = line_fresh disks so_far entry.line j cmd (was j small).fresh honest number_small entry.notes f acts asks i (was i inside).fresh

  settle_fresh : entry.event ≡ events.Settle → (i : ℕ) → i < 2 → Stays so_far (history (entry ∷ next ∷ before)) i
  settle_fresh e i inside =
      let there : List Moment = asked entry.line entry.event ∷ so_far in
      let calm = (drills_are_calm disks (entry ∷ next ∷ before) l).calm in
      let stood = all_stand disks (next ∷ before) then.run.brings then.run.lines (drill_moments disks (next ∷ before) then.run.brings then.run.lines) (drills_are_calm disks (next ∷ before) then).calm (lawful_alive entry next before alive) in
      let stands : Stands there = record { some = more (asked entry.line entry.event) so_far stood.some; idle = stood.idle; lives = stood.lives } in
      let brings = subst (λ v. Brings disks so_far entry.line v (reverse entry.notes)) e l.run.brings.0 in
      let other : AreOther entry.notes = subst AreOther (reverse-reverse entry.notes) (all_reverse (λ note. is_other note ≡ true) (reverse entry.notes) (settle_other disks so_far entry.line (reverse entry.notes) brings)) in
      let opened : Stays so_far there i = subst (λ v. Stays so_far (asked entry.line v ∷ so_far) i) (sym e) (record { present = refl; appended = λ n. refl; ring = same_ring (host_at so_far i); last = λ n bytes h. inl h }) in
      let told = told_stays there stands (ap Some e) i inside entry.notes (record { drill = drill_moments disks (entry ∷ next ∷ before) l.run.brings l.run.lines; calm = calm; alive = alive }) other (settle_back disks entry next before e l) in
      stays_then so_far there (history (entry ∷ next ∷ before)) i opened told

  one_up : (event : Event) → entry.event ≡ event → IsDrillLine event → (i : ℕ) → i < 2 → FreshUp (entry ∷ next ∷ before) i
  one_up (events.Act j (actions.Append cmd)) e is i inside =
      let now : LineFresh so_far (history (entry ∷ next ∷ before)) i = subst (λ v. LineFresh so_far (map said entry.notes ++ asked entry.line v ∷ so_far) i) (sym e) (append_fresh j cmd e is.0 i inside) in
      let split = lines_split entry (next ∷ before) in
      let one : cond {A = ℕ} (is_append_line entry.event) 1 0 ≡ 1 = ap {B = ℕ} (λ v. cond (is_append_line v) 1 0) e in
      record { fresh = now.fresh; low = (let most = now.most in let low = (was i inside).low in omega (arith, most, low, split, one)) }
  one_up events.Settle e is i inside =
      let stays = settle_fresh e i inside in
      let split = lines_split entry (next ∷ before) in
      record { fresh = (stays_fresh so_far (history (entry ∷ next ∷ before)) i stays (was i inside).fresh).fresh; low = (let same = stays.ring.running in let low = (was i inside).low in omega (arith, same, low, split)) }
  one_up _ e is i inside = absurd is

all_up : (disks : List Disk) (entries : List Entry) → IsLawfulDrill disks entries → EachMoment IsAliveAt (history entries) → (i : ℕ) → i < 2 → FreshUp entries i
all_up disks [] l alive i inside = absurd l.run.lines
all_up disks (entry ∷ []) l alive i inside =
    let told : reverse entry.notes ≡ notes.Begin 2 true ∷ [] = subst (λ v. Brings disks [] entry.line v (reverse entry.notes)) l.run.lines l.run.brings.0 in
    let is : entry.notes ≡ notes.Begin 2 true ∷ [] = sym (reverse-reverse entry.notes) ∙ ap reverse told in
    let up = first_up entry.line i inside in
    let at : history (entry ∷ []) ≡ said (notes.Begin 2 true) ∷ asked entry.line (events.Begin 2 true) ∷ [] = ap (λ ns. map said ns ++ asked entry.line entry.event ∷ []) is ∙ ap (λ v. said (notes.Begin 2 true) ∷ asked entry.line v ∷ []) l.run.lines in
    record { fresh = subst (λ ms. Fresh ms i) (sym at) up.0; low = (let one : (host_at (history (entry ∷ [])) i).running ≡ 1 = ap (λ ms. (host_at ms i).running) at ∙ up.1 in omega (arith, one)) }
  where
    first_fresh : (line i : ℕ) → (host_at (said (notes.Begin 2 true) ∷ asked line (events.Begin 2 true) ∷ []) i).pointer ≡ None → Fresh (said (notes.Begin 2 true) ∷ asked line (events.Begin 2 true) ∷ []) i
    first_fresh line i none = record { unset = λ e. none; begun = λ n e. absurd (let no : None ≡ Some n = e in cc no); old = λ number bytes e. absurd (let no : None ≡ Some bytes = e in cc no) }

    first_up : (line i : ℕ) → i < 2 → Fresh (said (notes.Begin 2 true) ∷ asked line (events.Begin 2 true) ∷ []) i × ((host_at (said (notes.Begin 2 true) ∷ asked line (events.Begin 2 true) ∷ []) i).running ≡ 1)
    first_up line zero small = (first_fresh line 0 refl, refl)
    first_up line (suc zero) small = (first_fresh line 1 refl, refl)
    first_up line (suc (suc i)) small = absurd (omega (arith, small))
all_up disks (entry ∷ next ∷ before) l alive i inside =
    one_up disks entry next before l alive (λ j small. all_up disks (next ∷ before) (lawful_before disks entry next before l) (lawful_alive entry next before alive) j small) entry.event refl l.run.lines.0 i inside

-- ---- a label that serves
none_lower : (test : ℕ → Bool) (tries from : ℕ) → lowest_from tries test from ≡ None → (l : ℕ) → from ≤ l → l < from + tries → test l ≡ false
unfolding lowest_from
none_lower test zero from e l low high = absurd (omega (arith, low, high))
none_lower test (suc tries) from e l low high = by (test from) refl (nat_eq l from) refl (none_lower test tries (from + 1)) e
  where
    by : (b : Bool) → test from ≡ b → (c : Bool) → nat_eq l from ≡ c → (lowest_from tries test (from + 1) ≡ None → (l : ℕ) → from + 1 ≤ l → l < from + 1 + tries → test l ≡ false) → cond b (Some from) (lowest_from tries test (from + 1)) ≡ None → test l ≡ false
    by true h c same later e = absurd (let no : Some from ≡ None = e in cc no)
    by false h true same later e = let is : l ≡ from = grind (arith, nat_tests) in ap test is ∙ h
    by false h false apart later e = later e l (grind (arith, nat_tests)) (omega (arith, high))

none_serves : (wire : Terms) (node peer : ℕ) (bytes : List ℕ) → label_for wire node peer bytes ≡ None → (l : ℕ) → l < 64 → serves wire node peer bytes l ≡ false
unfolding label_for
none_serves wire node peer bytes e l low = none_lower (serves wire node peer bytes) 64 0 e l (omega arith) (omega (arith, low))

all_count : (test : ℕ → Bool) (n : ℕ) → ((m : ℕ) → m < n → test m ≡ true) → free_from n test ≡ n
unfolding free_from
all_count test zero all = refl
all_count test (suc n) all =
    let one : cond {A = ℕ} (test n) 1 0 ≡ 1 = ap {B = ℕ} (λ b. cond b 1 0) (all n (omega arith)) in
    let rest = all_count test n (λ m low. all m (omega (arith, low))) in
    omega (arith, one, rest)

taken_so : (a b c : Bool) → c ≡ false → (a && (b || not c)) ≡ false → not a ≡ true
taken_so false b c e f = refl
taken_so true b true e f = absurd (let no : true ≡ false = e in cc no)
taken_so true true false e f = absurd (let no : true ≡ false = f in cc no)
taken_so true false false e f = absurd (let no : true ≡ false = f in cc no)

module _ (past : List Moment) (i : ℕ) (f : Fresh past i) (generation : (terms past).generation (suc i) ≡ 0) (few : busy (terms past) i ≤ 16) (small : (host_at past i).running < 8 * 2 ^ 16) where
  abbrev wire : Terms
  wire = terms past

  abbrev host : Host
  host = host_at past i

  abbrev body : Body
  body = ring_body past i host host.pointer

  abbrev bytes : List ℕ
  bytes = request_bytes wire (suc i) 0 body

  not_last : (l : ℕ) → is_last (wire.last (own i l)) (with_label l bytes) ≡ false
  not_last l = by (wire.last (own i l)) refl
    where
      by_test : (last : List ℕ) → wire.last (own i l) ≡ Some last → (b : Bool) → bytes_eq last (with_label l bytes) ≡ b → b ≡ false
      by_test last e true h = absurd (differs host.pointer host.running last (with_label l bytes) small (f.old l last e) (labelled_ring past i host host.pointer (id_of wire (suc i)) (id_for wire (suc i) 0) l (omega (arith, small))) ((bytes_eq-Decides last (with_label l bytes)).0 h))
      by_test last e false h = refl

      by : (o : Option (List ℕ)) → wire.last (own i l) ≡ o → is_last o (with_label l bytes) ≡ false
      by None e = refl
      by (Some last) e = by_test last e (bytes_eq last (with_label l bytes)) refl

  busy_so : (l : ℕ) → serves wire (suc i) 0 bytes l ≡ false → is_busy wire i l ≡ true
  busy_so l e =
      taken_so (is_free (wire.held (own i l))) (not (is_write bytes)) (is_last (wire.last (own i l)) (with_label l bytes)) (not_last l)
      (subst (λ g. (is_free (wire.held (record { generation = g; requester = suc i; responder = 0; label = l })) && (not (is_write bytes) || not (is_last (wire.last (record { generation = g; requester = suc i; responder = 0; label = l })) (with_label l bytes)))) ≡ false) generation e)

  some_label : (o : Option ℕ) → label_for wire (suc i) 0 bytes ≡ o → is_some o ≡ true
  some_label (Some l) e = refl
  some_label None e = absurd (let all = all_count (λ l. is_busy wire i l) 64 (λ l low. busy_so l (none_serves wire (suc i) 0 bytes e l low)) in omega (arith, all, few))

  has_label : (cmd : Cmd) → lacks_label wire i (action_body (actions.Append cmd) past i host) ≡ false
  has_label cmd =
      ap (λ p. not (finds_label wire (suc i) 0 (ring_body past i host p))) (pointer_is past i f)
      ∙ ap not (found_by wire (suc i) 0 body (label_for wire (suc i) 0 bytes) refl ∙ some_label (label_for wire (suc i) 0 bytes) refl)

-- ---- both
room_for : (past : List Moment) (event : Event) → IsDrillLine event → HasSlotFor past event → ((i : ℕ) (cmd : Cmd) → i < 2 → lacks_label (terms past) i (action_body (actions.Append cmd) past i (host_at past i)) ≡ false) → HasRoomFor past event
room_for past (events.Act i (actions.Append cmd)) is slot label =
    ap (λ b. refused_for b (lacks_label (terms past) i (action_body (actions.Append cmd) past i (host_at past i)))) slot ∙ ap (refused_for false) (label i cmd is.0)
room_for past events.Settle is slot label = tt
room_for past _ is slot label = absurd is

have_room : (disks : List Disk) (entries : List Entry) → IsLawfulDrill disks entries → EachMoment IsAliveAt (history entries) → RestsAtSettles entries → StayFew 0 (events_said entries) → HaveSlots entries → HaveRoom entries
have_room disks [] l alive still few free = tt
have_room disks (entry ∷ []) l alive still few free = (subst (HasRoomFor []) (sym l.run.lines) tt, tt)
have_room disks (entry ∷ next ∷ before) l alive still few free =
    let then = lawful_before disks entry next before l in
    let alive_then = lawful_alive entry next before alive in
    let few_then = few_before entry (next ∷ before) few in
    let past : List Moment = history (next ∷ before) in
    let y = young past (drill_moments disks (next ∷ before) then.run.brings then.run.lines) then.run.packets in (
      room_for past entry.event l.run.lines.0 free.0 (λ i cmd inside.
          let up = all_up disks (next ∷ before) then alive_then i inside in
          let held = few_busy disks (next ∷ before) then.run still.1 i in
          let most = few_now 0 (events_said (next ∷ before)) few_then in
          has_label past i up.fresh (y.generations (suc i)) (omega (arith, held, most)) (let low = up.low in let lines = then.run.few in omega (arith, low, lines)) cmd),
      have_room disks (next ∷ before) then alive_then still.1 few_then free.1,
    )

pub drills_have_room : DrillsHaveRoom
drills_have_room = record {
  room = λ disks entries t. have_room disks entries t.lawful t.alive (rest_at_settles disks entries t.lawful.run t.rests) (subst (StayFew 0) (sym t.script) (generated_few t.seed t.count)) (drills_have_slots.free disks entries t);
}
