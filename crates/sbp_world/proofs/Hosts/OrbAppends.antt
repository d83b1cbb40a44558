-- An ORB is prepared, and its append is told.
use Rattle.sbp_world.proofs.Words.Std.{arith, ◌≡◌, refl, sym, ap, subst, ◌∙◌, ℕ, zero, suc, ◌+◌, ◌-◌, ◌<◌, ◌≤◌, ◌==◌, ◌&&◌, nat_eq, nat_le, nat_lt, Bool, true, false, cond, List, ◌∷◌, Option, Some, None, Ok, nat_tests}
use Rattle.sbp_world.proofs.Words.Wire.{buffer_of, Moment, said, terms, Cmd}
use Rattle.sbp_world.proofs.Words.Initiator.{start, OrbPointer, Null, At, Link, PresentList, Kept, kept_in, new_kept, Asked, Prepare, Note, Prepared, if_ok, run, SlotTable, added, list_number, may_prepare, next_ticket, orb_number, slot_in, TicketParts, asked_by}
use Rattle.sbp_world.proofs.Words.Laws.{cmd_of, lowest_vacant, slots, id_of, Request, appends, event_of}
use Rattle.sbp_world.proofs.Words.World.{AreRows, IfLast, IfList, LastFits, LoweredFits, linked_by, terms_at, request_of}
use Rattle.bus_memory.specs.declared.window.Window.TheVariants as windows
use Rattle.orb_list.specs.declared.list.Link.TheVariants as links
use Rattle.orb_list.specs.Runs.{Call}
use Rattle.orb_list.specs.Table as table
use Rattle.sbp_journal.specs.declared.note.Note.TheVariants as notes
use Rattle.sbp_world.proofs.Hosts.Chains.{Same, chained_run}
use Rattle.sbp_world.proofs.Hosts.OrbFits.{AllFit, IfFits, IsFull, NoneYet, OrbFits, low_to}
use Rattle.sbp_world.proofs.Hosts.OrbTerms.{OrbTerms, append_first, append_next, first_linked, orb_terms, with_append}
use Rattle.sbp_world.proofs.Hosts.LastingTerms.{other_name}
use Rattle.sbp_world.proofs.Common.{itself}

-- ---- an ORB with another name

this_name : {A : Type 0} (a b : Bool) (x y z : A) → a ≡ true → b ≡ true → cond a (cond b x y) z ≡ x
this_name true true x y z e f = refl
this_name true false x y z e f = cc
this_name false b x y z e f = cc

abbrev pointer_to : ℕ → OrbPointer
pointer_to slot = At (start (windows.Orb slot))

-- the ORB behind it is another one too, or is not linked
other_next : (a d b : Bool) (x y : ℕ) → (a ≡ true → d ≡ true → b ≡ false) → cond b (pointer_to (cond a (cond d x y) y)) Null ≡ cond b (pointer_to y) Null
other_next true true true x y h = absurd (differ (h refl refl))
  where
    differ : true ≡ false → ⊥
    differ e = cc
other_next true true false x y h = refl
other_next true false b x y h = refl
other_next false d b x y h = refl

-- another name, as the node IDs are found
other_id : {A : Type 0} (a b : Bool) (x y : A) → (a ≡ true → b ≡ true → ⊥) → cond (true && a && b) x y ≡ y
other_id true true x y h = absurd (h refl refl)
other_id true false x y h = refl
other_id false b x y h = refl

this_id : {A : Type 0} (a b : Bool) (x y : A) → a ≡ true → b ≡ true → cond (true && a && b) x y ≡ x
this_id true true x y e f = refl
this_id true false x y e f = cc
this_id false b x y e f = cc

-- its low quadlet is that of another one too, or was not written
other_low : (a d b : Bool) (x y : ℕ) → (a ≡ true → d ≡ true → b ≡ false) → cond b (low_to (cond a (cond d x y) y)) 0 ≡ cond b (low_to y) 0
other_low true true true x y h = absurd (differ (h refl refl))
  where
    differ : true ≡ false → ⊥
    differ e = cc
other_low true true false x y h = refl
other_low true false b x y h = refl
other_low false d b x y h = refl

not_lowered : (k l : ℕ) → l ≤ k → nat_le (suc k) l ≡ false
not_lowered k l h = grind (arith, nat_tests)

not_linked : (k l : ℕ) → l ≤ suc k → nat_lt (suc k) l ≡ false
not_linked k l h = grind (arith, nat_tests)

module _ (t : OrbTerms) (n k : ℕ) (request : Option Request) (command : Option Cmd) (more slot id : ℕ) where
  abbrev first : OrbTerms
  first = with_append true true n k request command more slot id (first_linked true n t) t

  abbrev next : OrbTerms
  next = with_append true true n k request command more slot id t.linked t

  -- of a list before
  old_first : (o : Kept) → nat_eq o.ticket.list n ≡ false → OrbFits t o → OrbFits first o
  old_first o e f = record {
    cmd = f.cmd;
    node = f.node;
    login = f.login;
    at = f.at ∙ sym (other_id (nat_eq n o.ticket.list) (nat_eq k o.ticket.number) id (t.id o.ticket.list o.ticket.number) (λ a b. let same : o.ticket.list ≡ n = grind (arith, nat_tests) in absurd (grind (arith, nat_tests))));
    fits = f.fits;
    fills = f.fills;
    asked = f.asked;
    command = ap (λ a. cond a (cond (nat_eq o.ticket.number k) command (t.command o.ticket.list o.ticket.number)) (t.command o.ticket.list o.ticket.number)) e ∙ f.command;
    request = ap (λ a. cond a (cond (nat_eq o.ticket.number k) request (t.request o.ticket.list o.ticket.number)) (t.request o.ticket.list o.ticket.number)) e ∙ f.request;
    next = f.next
        ∙ sym (ap (λ a. cond (nat_lt (suc o.ticket.number) (cond a 1 (t.linked o.ticket.list))) (pointer_to (cond a (cond (nat_eq (suc o.ticket.number) k) slot (t.place o.ticket.list (suc o.ticket.number))) (t.place o.ticket.list (suc o.ticket.number)))) Null) e);
    low = f.low
        ∙ sym (ap (λ a. cond (nat_le (suc o.ticket.number) (t.lowered o.ticket.list)) (low_to (cond a (cond (nat_eq (suc o.ticket.number) k) slot (t.place o.ticket.list (suc o.ticket.number))) (t.place o.ticket.list (suc o.ticket.number)))) 0) e);
    format = f.format;
  }

  -- of this list too, before the new one
  old_next : (o : Kept) → (o.ticket.list ≡ n → o.ticket.number < k) → t.linked n ≤ k → t.lowered n < k → OrbFits t o → OrbFits next o
  old_next o before few low f = record {
    cmd = f.cmd;
    node = f.node;
    login = f.login;
    at = f.at ∙ sym (other_id (nat_eq n o.ticket.list) (nat_eq k o.ticket.number) id (t.id o.ticket.list o.ticket.number) (λ a b. other (grind (arith, nat_tests)) (grind (arith, nat_tests))));
    fits = f.fits;
    fills = f.fills;
    asked = f.asked;
    command = other_name (nat_eq o.ticket.list n) (nat_eq o.ticket.number k) command (t.command o.ticket.list o.ticket.number) other ∙ f.command;
    request = other_name (nat_eq o.ticket.list n) (nat_eq o.ticket.number k) request (t.request o.ticket.list o.ticket.number) other ∙ f.request;
    next = f.next
        ∙ sym (other_next (nat_eq o.ticket.list n) (nat_eq (suc o.ticket.number) k) (nat_lt (suc o.ticket.number) (t.linked o.ticket.list)) slot (t.place o.ticket.list (suc o.ticket.number)) unlinked);
    low = f.low
        ∙ sym (other_low (nat_eq o.ticket.list n) (nat_eq (suc o.ticket.number) k) (nat_le (suc o.ticket.number) (t.lowered o.ticket.list)) slot (t.place o.ticket.list (suc o.ticket.number)) unlowered);
    format = f.format;
  }
    where
      other : nat_eq o.ticket.list n ≡ true → nat_eq o.ticket.number k ≡ true → ⊥
      other e g =
          let a : o.ticket.list ≡ n = grind (arith, nat_tests) in
          let b = before a in
          absurd (grind (arith, nat_tests))

      unlinked : nat_eq o.ticket.list n ≡ true → nat_eq (suc o.ticket.number) k ≡ true → nat_lt (suc o.ticket.number) (t.linked o.ticket.list) ≡ false
      unlinked e g =
          let a : o.ticket.list ≡ n = grind (arith, nat_tests) in
          let l : t.linked o.ticket.list ≡ t.linked n = ap t.linked a in
          grind (arith, nat_tests)

      unlowered : nat_eq o.ticket.list n ≡ true → nat_eq (suc o.ticket.number) k ≡ true → nat_le (suc o.ticket.number) (t.lowered o.ticket.list) ≡ false
      unlowered e g =
          let a : o.ticket.list ≡ n = grind (arith, nat_tests) in
          let l : t.lowered o.ticket.list ≡ t.lowered n = ap t.lowered a in
          grind (arith, nat_tests)

  -- the new one
  module _ (u : TicketParts) (cmd : Cmd) (node login : ℕ) (fit : IsFull cmd) (is_id : node ≡ id) (lows : t.lowered n ≤ k) (of : u.list ≡ n) (numbered : u.number ≡ k) (c : command ≡ Some cmd) (r : request ≡ Some (request_of cmd)) (none : t.dummy n k ≡ false) where
    abbrev asked : Asked
    asked = asked_by cmd node login

    same_list : nat_eq u.list n ≡ true
    same_list = ap (λ x. nat_eq x n) of ∙ itself n

    same_number : nat_eq u.number k ≡ true
    same_number = ap (λ x. nat_eq x k) numbered ∙ itself k

    list_same : nat_eq n u.list ≡ true
    list_same = grind (arith, nat_tests)

    number_same : nat_eq k u.number ≡ true
    number_same = grind (arith, nat_tests)

    at_now : node ≡ first.id u.list u.number
    at_now = is_id ∙ sym (this_id (nat_eq n u.list) (nat_eq k u.number) id (t.id u.list u.number) list_same number_same)

    low_now : (place : ℕ) → ◌≡◌ {A = ℕ} 0 (cond (nat_le (suc u.number) (t.lowered u.list)) (low_to place) 0)
    low_now place =
        sym (ap (λ b. cond b (low_to place) 0) (not_lowered u.number (t.lowered u.list) (let l : t.lowered u.list ≡ t.lowered n = ap t.lowered of in omega arith)))

    no_dummy : ◌≡◌ {A = ℕ} 0 (cond (t.dummy u.list u.number) 3 0)
    no_dummy = sym (ap (λ b. cond b 3 0) (ap (λ x. t.dummy x u.number) of ∙ (ap (t.dummy n) numbered ∙ none)))

    new_first : OrbFits first (new_kept u asked)
    new_first = record {
      cmd = cmd;
      node = node;
      login = login;
      at = at_now;
      fits = fit.0;
      fills = fit.1;
      asked = refl;
      command = this_name (nat_eq u.list n) (nat_eq u.number k) command (t.command u.list u.number) (t.command u.list u.number) same_list same_number ∙ c;
      request = this_name (nat_eq u.list n) (nat_eq u.number k) request (t.request u.list u.number) (t.request u.list u.number) same_list same_number ∙ r;
      next = sym (ap (λ b. cond b (pointer_to (first.place u.list (suc u.number))) Null)
          (ap (λ a. nat_lt (suc u.number) (cond a 1 (t.linked u.list))) same_list ∙ not_linked u.number 1 (omega arith)));
      low = low_now (first.place u.list (suc u.number));
      format = no_dummy;
    }

    new_next : t.linked n ≤ k → OrbFits next (new_kept u asked)
    new_next few = record {
      cmd = cmd;
      node = node;
      login = login;
      at = at_now;
      fits = fit.0;
      fills = fit.1;
      asked = refl;
      command = this_name (nat_eq u.list n) (nat_eq u.number k) command (t.command u.list u.number) (t.command u.list u.number) same_list same_number ∙ c;
      request = this_name (nat_eq u.list n) (nat_eq u.number k) request (t.request u.list u.number) (t.request u.list u.number) same_list same_number ∙ r;
      next = sym (ap (λ b. cond b (pointer_to (next.place u.list (suc u.number))) Null)
          (not_linked u.number (t.linked u.list) (let l : t.linked u.list ≡ t.linked n = ap t.linked of in omega arith)));
      low = low_now (next.place u.list (suc u.number));
      format = no_dummy;
    }

  -- none of those to come was made a dummy
  none_appended : (linked : ℕ → ℕ) → more ≡ suc (t.appended n) → NoneYet t → NoneYet (with_append true true n k request command more slot id linked t)
  none_appended linked e h m l b = by_list (nat_eq m n) refl b
    where
      by_list : (a : Bool) → nat_eq m n ≡ a → cond a more (t.appended m) ≤ l → t.dummy m l ≡ false
      by_list false g b = h m l b
      by_list true g b =
          let same : m ≡ n = grind (arith, nat_tests) in
          let a : t.appended m ≡ t.appended n = ap t.appended same in
          h m l (omega arith)

-- ---- by the rows of the slots

-- the ORB of a slot is the one that was prepared last there
pub last_fits : (begun : ℕ) (appended : ℕ → ℕ) (place : ℕ → ℕ → ℕ) (k : ℕ) (last : Option TicketParts) (found : Option Kept) (o : Kept) → Same last found → found ≡ Some o → IfLast begun appended place k last → LastFits begun appended place k o.ticket
last_fits begun appended place k None None o h e f = absurd (differ e)
  where
    differ : None ≡ Some o → ⊥
    differ e = cc
last_fits begun appended place k None (Some p) o h e f = absurd h
last_fits begun appended place k (Some u) None o h e f = absurd h
last_fits begun appended place k (Some u) (Some p) o h e f =
    let g : p ≡ o = cc in
    subst (LastFits begun appended place k) (sym h ∙ ap (λ (x : Kept). x.ticket) g) f

module _ (past : List Moment) (i : ℕ) (calls : List Call) (quads : List ℕ) (rows : AreRows past i (run calls quads).table) where
  abbrev t : OrbTerms
  t = orb_terms past i

  abbrev s : SlotTable
  s = (run calls quads).table

  pub kept_last : (k : ℕ) (o : Kept) → k < 32 → kept_in (run calls quads).notes k ≡ Some o → LastFits s.lists t.appended t.place k o.ticket
  kept_last k o b e =
      last_fits s.lists t.appended t.place k (slot_in s.slots k).last (kept_in (run calls quads).notes k) o ((chained_run calls quads).same k b) e (rows.fits.last k b)

  -- the name of the next ORB is none of those that were appended, and no ORB from it on is linked
  record NewName (n k : ℕ) : Type 0 where
    count : t.appended n ≡ k
    few : t.linked n ≤ k
    lows : t.lowered n ≤ k - 1

  linked_below : (link : Link) (number : ℕ) → linked_by link number ≤ number + 1
  linked_below links.Done number = omega arith
  linked_below (links.Low before) number = omega arith
  linked_below (links.High before) number = omega arith

  lowered_below : (link : Link) (number low : ℕ) → LoweredFits link number low → low ≤ number
  lowered_below links.Done number low h = omega arith
  lowered_below (links.Low before) number low h = omega arith
  lowered_below (links.High before) number low h = omega arith

  new_name : (present : Option PresentList) → IfList (terms_at past i) s.slots s.lists present → NewName (list_number present s.lists) (orb_number present)
  new_name None f = record {
    count = rows.fits.to_come.appended s.lists (omega arith);
    few = let a : t.linked s.lists ≡ 0 = rows.fits.to_come.linked s.lists (omega arith) in omega arith;
    lows = let a : t.lowered s.lists ≡ 0 = rows.fits.to_come.lowered s.lists (omega arith) in omega arith;
  }
  new_name (Some list) f = record {
    count = let a : t.appended list.tail.list ≡ suc list.tail.number = f.appended in omega arith;
    few = let a : t.linked list.tail.list ≡ linked_by list.link list.tail.number = f.linked in let b = linked_below list.link list.tail.number in omega arith;
    lows = let a = lowered_below list.link list.tail.number (t.lowered list.tail.list) f.lowered in omega arith;
  }

  module _ (cmd : Cmd) (node login slot : ℕ) (fit : IsFull cmd) (is_id : node ≡ id_of (terms past) (suc i)) (line : cmd_of (event_of past) ≡ Some cmd) (e : may_prepare s ≡ Ok slot) where
    abbrev u : TicketParts
    u = next_ticket s slot login

    abbrev prepares : Asked
    prepares = asked_by cmd node login

    named : NewName u.list u.number
    named = new_name s.present rows.fits.list

    -- one of the same list is before it
    before : (k : ℕ) (o : Kept) → k < 32 → kept_in (run calls quads).notes k ≡ Some o → o.ticket.list ≡ u.list → o.ticket.number < u.number
    before k o b f same =
        let l = (kept_last k o b f).below in
        let a : t.appended o.ticket.list ≡ t.appended u.list = ap t.appended same in
        let c = named.count in
        omega arith

    pick_fits : (now : OrbTerms) (k : ℕ) (b : Bool) (found : Option Kept) → OrbFits now (new_kept u prepares) → IfFits now found → IfFits now (cond b (Some (new_kept u prepares)) found)
    pick_fits now k true found f g = f
    pick_fits now k false found f g = g

    abbrev appended_as : ℕ → OrbTerms
    appended_as number = orb_terms (said (notes.Append i u.list number cmd.cdb (buffer_of cmd)) ∷ past) i

    abbrev with_first : OrbTerms
    with_first = with_append true true u.list 0 (Some (request_of cmd)) (cmd_of (event_of past)) (suc (appends past i u.list)) (lowest_vacant (slots past i)) (id_of (terms past) (suc i)) (first_linked true u.list t) t

    abbrev with_next : ℕ → OrbTerms
    with_next m = with_append true true u.list (suc m) (Some (request_of cmd)) (cmd_of (event_of past)) (suc (appends past i u.list)) (lowest_vacant (slots past i)) (id_of (terms past) (suc i)) t.linked t

    old_if_first : u.number ≡ 0 → (k : ℕ) (found : Option Kept) → k < 32 → kept_in (run calls quads).notes k ≡ found → IfFits t found → IfFits with_first found
    old_if_first z k None b f h = tt
    old_if_first z k (Some o) b f h =
        old_first t u.list 0 (Some (request_of cmd)) (cmd_of (event_of past)) (suc (appends past i u.list)) (lowest_vacant (slots past i)) (id_of (terms past) (suc i)) o (other (nat_eq o.ticket.list u.list) refl) h
      where
        other : (c : Bool) → nat_eq o.ticket.list u.list ≡ c → c ≡ false
        other false g = refl
        other true g =
            let same : o.ticket.list ≡ u.list = grind (arith, nat_tests) in
            let l = before k o b f same in
            absurd (omega arith)

    old_if_next : (m : ℕ) → u.number ≡ suc m → (k : ℕ) (found : Option Kept) → k < 32 → kept_in (run calls quads).notes k ≡ found → IfFits t found → IfFits (with_next m) found
    old_if_next m z k None b f h = tt
    old_if_next m z k (Some o) b f h =
        old_next t u.list (suc m) (Some (request_of cmd)) (cmd_of (event_of past)) (suc (appends past i u.list)) (lowest_vacant (slots past i)) (id_of (terms past) (suc i)) o
        (λ same. let l = before k o b f same in omega arith) (let l = named.few in omega arith) (let l = named.lows in omega arith) h

    module _ (h : AllFit t (run calls quads).notes) (none : NoneYet t) where
      abbrev prepared : List Note
      prepared = Prepared u prepares ∷ (run calls quads).notes

      new_number : (m : ℕ) → u.number ≡ m → t.dummy u.list m ≡ false
      new_number m z = none u.list m (let c = named.count in omega arith)

      fits_as : (m : ℕ) → u.number ≡ m → AllFit (appended_as m) prepared
      fits_as zero z =
          subst (λ x. AllFit x prepared) (sym (append_first past i u.list cmd.cdb (buffer_of cmd)))
          (λ k b. pick_fits with_first k (k == u.slot) (kept_in (run calls quads).notes k)
          (new_first t u.list 0 (Some (request_of cmd)) (cmd_of (event_of past)) (suc (appends past i u.list)) (lowest_vacant (slots past i)) (id_of (terms past) (suc i)) u cmd node login fit is_id (let l = named.lows in omega arith) refl z line refl (new_number 0 z))
          (old_if_first z k (kept_in (run calls quads).notes k) b refl (h k b)))
      fits_as (suc m) z =
          subst (λ x. AllFit x prepared) (sym (append_next past i u.list m cmd.cdb (buffer_of cmd)))
          (λ k b. pick_fits (with_next m) k (k == u.slot) (kept_in (run calls quads).notes k)
          (new_next t u.list (suc m) (Some (request_of cmd)) (cmd_of (event_of past)) (suc (appends past i u.list)) (lowest_vacant (slots past i)) (id_of (terms past) (suc i)) u cmd node login fit is_id (let l = named.lows in omega arith) refl z line refl (new_number (suc m) z) (let l = named.few in omega arith))
          (old_if_next m z k (kept_in (run calls quads).notes k) b refl (h k b)))

      none_as : (m : ℕ) → NoneYet (appended_as m)
      none_as zero =
          subst NoneYet (sym (append_first past i u.list cmd.cdb (buffer_of cmd)))
          (none_appended t u.list 0 (Some (request_of cmd)) (cmd_of (event_of past)) (suc (appends past i u.list)) (lowest_vacant (slots past i)) (id_of (terms past) (suc i)) (first_linked true u.list t) refl none)
      none_as (suc m) =
          subst NoneYet (sym (append_next past i u.list m cmd.cdb (buffer_of cmd)))
          (none_appended t u.list (suc m) (Some (request_of cmd)) (cmd_of (event_of past)) (suc (appends past i u.list)) (lowest_vacant (slots past i)) (id_of (terms past) (suc i)) t.linked refl none)

      -- what the call of the slots notes
      noted : (run (Prepare prepares ∷ calls) quads).notes ≡ prepared
      unfolding table.prepare_step
      noted = ap (λ x. if_ok (λ v. Prepared v prepares) (table.prepare_at x s (run calls quads).memory prepares).0 (run calls quads).notes) e

      pub prepared_table : (run (Prepare prepares ∷ calls) quads).table ≡ added s u
      unfolding table.prepare_step
      prepared_table = ap (λ x. (table.prepare_at x s (run calls quads).memory prepares).1.0) e

      pub append_fits : AllFit (appended_as u.number) (run (Prepare prepares ∷ calls) quads).notes
      append_fits = subst (AllFit (appended_as u.number)) (sym noted) (fits_as u.number refl)

      pub append_none : NoneYet (appended_as u.number)
      append_none = none_as u.number
