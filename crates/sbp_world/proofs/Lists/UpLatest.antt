-- At each place of a run in which no initiator injected packets, or few logins were given, the list of an agent that is out of RESET, be it DEAD, of an initiator that injected none is the latest one of
-- this initiator.
use Rattle.std.proofs.Common.{arith, ◌≡◌, ◌∙◌, refl, sym, ap, subst, ◌<◌, ◌≤◌, ◌&&◌, ℕ, suc, nat_eq, Bool, true, false, cond, List, [], ◌∷◌, ◌++◌, map, length, Option, Some, None}
use Rattle.std.proofs.lemmas.Bool.Decides.{nat_tests}
use Rattle.std.proofs.lemmas.Option.{same_Some}
use Rattle.bus_memory.specs.Windows.{slot_of}
use Rattle.rbc_disk.specs.Disk.{Disk}
use Rattle.sbp_journal.specs.Run.{Moment, asked, said}
use Rattle.sbp_journal.specs.Transactions.{Sending}
use Rattle.sbp_journal.specs.Wire.{terms}
use Rattle.sbp_journal.specs.declared.note.Note.{Note}
use Rattle.sbp_journal.specs.declared.note.Note.TheVariants as notes
use Rattle.sbp_laws.specs.Lists.{list_in, named_in, present_list}
use Rattle.sbp_laws.specs.Terms.{lists}
use Rattle.sbp_world.specs.Histories.{history_of}
use Rattle.sbp_world.specs.Runs.{after, beginning}
use Rattle.sbp_world.specs.Settling.{after_all}
use Rattle.sbp_world.specs.Telling.{holder}
use Rattle.sbp_world.specs.Worlds.{WorldState, begun}
use Rattle.sbp_world.specs.Agents.Holders.{AreHeldAt}
use Rattle.sbp_world.proofs.Agents.Holders.{holders_between_law, holders_law}
use Rattle.sbp_world.specs.Hosts.Runs.{more_deliveries}
use Rattle.sbp_world.proofs.Hosts.Runs.{count_after, count_between}
use Rattle.sbp_world.specs.Pointers.Pointers.{pointed_list}
use Rattle.sbp_world.proofs.Pointers.Proved.{pointers_law}
use Rattle.sbp_world.specs.Sessions.Caught.{HaveCaught}
use Rattle.sbp_world.proofs.Sessions.Runs.{caught_between_law, caught_law}
use Rattle.sbp_world.specs.Lists.Closes.{Under, WhereTameOrFew}
use Rattle.sbp_world.specs.Lists.Needs.{IsCalm}
use Rattle.sbp_world.specs.Lists.Opened.{AreAllOpenFor, AreOpenFor, AsGot, IsOpenFor, IsUp, as_got, got_as, view}
use Rattle.sbp_world.specs.Lists.Opens.{AreOpened}
use Rattle.sbp_world.specs.Lists.Places.{AreNamedFor}
use Rattle.sbp_world.specs.Lists.Presents.{PresentLaw}
use Rattle.sbp_world.proofs.Lists.Courses.{more_than_one}
use Rattle.sbp_world.proofs.Lists.DataLaws.{names_by}
use Rattle.sbp_world.proofs.Lists.LiveGiven.{ShortLaw}
use Rattle.sbp_world.proofs.Lists.OneUp.{inside, not_behind, open_for_law}
use Rattle.sbp_world.proofs.Lists.OpenedKnown.{laws}
use Rattle.sbp_world.proofs.Lists.OpenPresents.{present_law}
use Rattle.sbp_world.proofs.Lists.OpenProved.{opens_law}

-- ---- when a packet was got first
record WasGot (past : List Moment) (serial i address : ℕ) (packet : Option Sending) (list : Option ℕ) : Type 0 where
  later : List Moment
  earlier : List Moment
  is : later ++ said (notes.Got serial) ∷ earlier ≡ past
  sent : (terms earlier).sent serial ≡ packet
  list_is : list ≡ list_in (named_in earlier i (slot_of address))

none_got : {A : Type 0} (packet : Option Sending) (list : Option ℕ) → None ≡ as_got packet list → A
none_got packet list e = absurd (let no : None ≡ as_got packet list = e in cc)

one_more : (m : Moment) (past : List Moment) (serial i address : ℕ) (packet : Option Sending) (list : Option ℕ) → WasGot past serial i address packet list → WasGot (m ∷ past) serial i address packet list
one_more m past serial i address packet list g = record { later = m ∷ g.later; earlier = g.earlier; is = ap (λ ms. m ∷ ms) g.is; sent = g.sent; list_is = g.list_is }

packet_same : (a b : Option Sending) (x y : Option ℕ) → as_got a x ≡ as_got b y → a ≡ b
packet_same a b x y e = ap (λ (g : AsGot). g.packet) (same_Some _ _ e)

list_same : (a b : Option Sending) (x y : Option ℕ) → as_got a x ≡ as_got b y → x ≡ y
list_same a b x y e = ap (λ (g : AsGot). g.list) (same_Some _ _ e)

got_here : (serial s i address : ℕ) (past : List Moment) (packet : Option Sending) (list : Option ℕ) (a b : Bool) → nat_eq s serial ≡ a → cond (a && b) (as_got ((terms past).sent serial) (list_in (named_in past i (slot_of address)))) (got_as past s i address) ≡ as_got packet list → (got_as past s i address ≡ as_got packet list → WasGot past s i address packet list) → WasGot (said (notes.Got serial) ∷ past) s i address packet list
got_here serial s i address past packet list true true f e rest =
    let own : serial ≡ s = grind (arith, nat_tests) in
    record {
      later = [];
      earlier = past;
      is = ap (λ n. said (notes.Got n) ∷ past) (sym own);
      sent = ap (terms past).sent (sym own) ∙ packet_same ((terms past).sent serial) packet _ list e;
      list_is = sym (list_same ((terms past).sent serial) packet (list_in (named_in past i (slot_of address))) list e);
    }
got_here serial s i address past packet list true false f e rest = one_more (said (notes.Got serial)) past s i address packet list (rest e)
got_here serial s i address past packet list false b f e rest = one_more (said (notes.Got serial)) past s i address packet list (rest e)

got_note : (note : Note) (past : List Moment) (s i address : ℕ) (packet : Option Sending) (list : Option ℕ) → got_as (said note ∷ past) s i address ≡ as_got packet list → (got_as past s i address ≡ as_got packet list → WasGot past s i address packet list) → WasGot (said note ∷ past) s i address packet list
got_note (notes.Got serial) past s i address packet list e rest = got_here serial s i address past packet list (nat_eq s serial) (nat_eq ((terms past).news serial) 0) refl e rest
got_note note past s i address packet list e rest = one_more (said note) past s i address packet list (rest e)

got_found : (past : List Moment) (s i address : ℕ) (packet : Option Sending) (list : Option ℕ) → got_as past s i address ≡ as_got packet list → WasGot past s i address packet list
got_found [] s i address packet list e = none_got packet list e
got_found (asked line event ∷ past) s i address packet list e = one_more (asked line event) past s i address packet list (got_found past s i address packet list e)
got_found (said note ∷ past) s i address packet list e = got_note note past s i address packet list e (λ f. got_found past s i address packet list f)

-- ---- at a place
-- an agent that is out of RESET has the latest list of its initiator
abbrev pub AreUpLatest : List Moment → WorldState → Type 0
AreUpLatest past w = (i place n : ℕ) → IsCalm past i → place < 8 → IsUp w i place → suc n ≡ lists past i → (holder w place).list ≡ Some n

module _ (past : List Moment) (w : WorldState) (i : ℕ) (o : AreOpenFor (view past i) w i) (names : AreNamedFor past i) (latest : (n : ℕ) → present_list past i ≡ Some n → suc n ≡ lists past i) (place : ℕ) (b : place < 8) (up : IsUp w i place) (low : (terms past).generation 0 ≤ (terms past).generation (suc i)) where
  abbrev f : IsOpenFor (view past i) i place (holder w place).list
  f = o.each place b up

  has_list : (holder w place).list ≡ Some f.list
  has_list =
      let g = got_found past f.serial i f.address (Some f.packet) (holder w place).list f.named in
      let n = names g.later g.earlier f.serial f.packet place f.address g.is g.sent f.at in
      g.list_is ∙ ap list_in n.there ∙ (sym n.pointed ∙ f.pointed)

  list_latest : suc f.list ≡ lists past i
  list_latest = by (nat_eq ((terms past).generation 0) ((terms past).generation (suc i))) refl
    where
      by : (x : Bool) → nat_eq ((terms past).generation 0) ((terms past).generation (suc i)) ≡ x → suc f.list ≡ lists past i
      by true e = latest f.list (f.present (let same : (terms past).generation 0 ≡ (terms past).generation (suc i) = grind (arith, nat_tests) in same))
      by false e = f.ahead (let l = low in let ahead : (terms past).generation 0 < (terms past).generation (suc i) = grind (arith, nat_tests) in ahead)

  up_latest : (n : ℕ) → suc n ≡ lists past i → (holder w place).list ≡ Some n
  up_latest n e = has_list ∙ ap (λ k. Some k) (let l = list_latest in let same : f.list ≡ n = omega (arith, l, e) in same)

module _ (start : List Disk) (past : List Moment) (w : WorldState) (opened : AreOpened past w) (held : AreHeldAt start past w) (caught : HaveCaught start past w) (once : (i : ℕ) → i < length w.initiators → (n serial other : ℕ) → pointed_list past serial i ≡ Some n → pointed_list past other i ≡ Some n → serial ≡ other) (open_for : AreAllOpenFor past w) (names : (i : ℕ) → i < length w.initiators → IsCalm past i → AreNamedFor past i) (latest : (i : ℕ) → i < length w.initiators → (n : ℕ) → present_list past i ≡ Some n → suc n ≡ lists past i) where
  are_latest : AreUpLatest past w
  are_latest i place n calm b up e =
      let within = inside start past w opened held caught once open_for i place place calm b b up up in
      up_latest past w i (open_for i within calm) (names i within calm) (latest i within) place b up (not_behind start past w opened held caught once open_for i place place calm b b up up) n e

presents : PresentLaw
presents = present_law laws.moments

module _ (short : ShortLaw) where
  pub up_latest_law : Under (WhereTameOrFew AreUpLatest)
  up_latest_law = record {
    after_lines = λ line run r has small size so_far beside.
        let w = (after (beginning run) run.entries).world in
        are_latest run.start.disks (history_of line run) w (opens_law.after_lines line run r has small size) (holders_law line run r.few has small size r.short r.entries r.lines) (caught_law line run r.few has small size r.short r.entries r.lines)
        (λ i b. (pointers_law.after_lines line run r i (subst (λ n. i < n) (count_after run run.entries) b)).once)
        ((open_for_law short).after_lines line run r has small size so_far beside)
        ((names_by short).after_lines line run r has small size so_far beside)
        (λ i b. (presents.after_lines line run r i (subst (λ n. i < n) (count_after run run.entries) b)).latest);
    between = λ line run r has small size next most told m so_far beside.
        let w = (after_all told (begun (after (beginning run) run.entries))).world in
        let d = more_than_one most in
        are_latest run.start.disks (map said w.fresh ++ asked next (more_deliveries most) ∷ history_of line run) w (opens_law.between line run r has small size next (more_deliveries most) d told m)
        (holders_between_law line run r.few has small size r.short r.entries r.lines next (more_deliveries most) d told m)
        (caught_between_law line run r.few has small size r.short r.entries r.lines next (more_deliveries most) d told m)
        (λ i b. (pointers_law.between line run r next most told m i (subst (λ n. i < n) (count_between told (after (beginning run) run.entries) ∙ count_after run run.entries) b)).once)
        ((open_for_law short).between line run r has small size next most told m so_far beside)
        ((names_by short).between line run r has small size next most told m so_far beside)
        (λ i b. (presents.between line run r next most told m i (subst (λ n. i < n) (count_between told (after (beginning run) run.entries) ∙ count_after run run.entries) b)).latest);
  }
