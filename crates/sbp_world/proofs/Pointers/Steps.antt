-- What an action tells: the steps of its initiator's list, of which an append stands first.
use Rattle.sbp_world.proofs.Words.Std.{arith, ◌≡◌, refl, sym, ◌∙◌, ap, subst, ℕ, zero, suc, ◌==◌, nat_eq, not, Bool, true, false, cond, List, [], ◌∷◌, ◌++◌, Some, nat_tests, AllByRecursion}
use Rattle.sbp_world.proofs.Words.Wire.{Moment, said, terms, Action, Note, NoteBuffer}
use Rattle.sbp_world.proofs.Words.Initiator.{is_list_step, prepares, rings, own}
use Rattle.sbp_world.proofs.Words.Laws.{action_notes, buffer_of, cuts_list, link_notes, new_list, new_number, running_operation, Host, host_at, list_begins, lowest_vacant, present_list, slot_at, slots, event_of}
use Rattle.sbp_world.proofs.Words.World.{behind, is_cutting}
use Rattle.sbp_journal.specs.declared.event.Action.TheVariants as actions
use Rattle.sbp_journal.specs.declared.note.Note.TheVariants as notes
use Rattle.sbp_world.proofs.Hosts.OrbTerms.{AreLeft}
use Rattle.sbp_world.proofs.Pointers.Passing.{AreApart, Stand}
use Rattle.sbp_world.proofs.Common.{same_number, untrue}

-- the steps of this initiator's list but appends
abbrev pub is_link : ℕ → Note → Bool
is_link i (notes.Low j n k) = j == i
is_link i (notes.Linked j n k) = j == i
is_link i (notes.Rung j n k) = j == i
is_link i (notes.Dummied j n k) = j == i
is_link i _ = false

abbrev pub AreLinks : ℕ → List Note → Type 0
AreLinks i ns = AllByRecursion (λ note. is_link i note ≡ true) ns

-- ---- what they leave

pub record Still (past later : List Moment) (i : ℕ) : Type 0 where
  pub host : host_at later i ≡ host_at past i
  pub present : present_list later ≡ present_list past
  pub places : slot_at later ≡ slot_at past
  pub line : event_of later ≡ event_of past
  pub wire : terms later ≡ terms past

one_still : (note : Note) (past : List Moment) (i : ℕ) → is_link i note ≡ true → Still past (said note ∷ past) i
one_still (notes.Low j n k) past i e = record { host = refl; present = refl; places = refl; line = refl; wire = refl }
one_still (notes.Linked j n k) past i e = record { host = refl; present = refl; places = refl; line = refl; wire = refl }
one_still (notes.Rung j n k) past i e = record { host = refl; present = refl; places = refl; line = refl; wire = refl }
one_still (notes.Dummied j n k) past i e = record { host = refl; present = refl; places = refl; line = refl; wire = refl }
one_still _ past i e = untrue e

pub links_still : (ns : List Note) (past : List Moment) (i : ℕ) → AreLinks i ns → Still past (behind (own ns) past) i
links_still [] past i h = record { host = refl; present = refl; places = refl; line = refl; wire = refl }
links_still (note ∷ ns) past i h =
    let a = one_still note past i h.0 in
    let b = links_still ns (said note ∷ past) i h.1 in
    record { host = b.host ∙ a.host; present = b.present ∙ a.present; places = b.places ∙ a.places; line = b.line ∙ a.line; wire = b.wire ∙ a.wire }

cutting_same : (past later : List Moment) (i : ℕ) → host_at later i ≡ host_at past i → is_cutting later i ≡ is_cutting past i
cutting_same past later i e = ap (λ (h : Host). cuts_list (running_operation h.operation)) e

-- they may stand while no operation that ends lists is under way
one_stands : (note : Note) (past : List Moment) (i : ℕ) → is_link i note ≡ true → is_cutting past i ≡ false → Stand i past → Stand i (said note ∷ past)
one_stands (notes.Low j n k) past i e c h = ((λ same. c), h)
one_stands (notes.Linked j n k) past i e c h = ((λ same. c), h)
one_stands (notes.Rung j n k) past i e c h = (tt, h)
one_stands (notes.Dummied j n k) past i e c h = ((λ same. c), h)
one_stands _ past i e c h = untrue e

pub links_stand : (ns : List Note) (past : List Moment) (i : ℕ) → AreLinks i ns → is_cutting past i ≡ false → Stand i past → Stand i (behind (own ns) past)
links_stand [] past i h c k = k
links_stand (note ∷ ns) past i h c k =
    links_stand ns (said note ∷ past) i h.1 (cutting_same past (said note ∷ past) i (one_still note past i h.0).host ∙ c) (one_stands note past i h.0 c k)

-- ---- and of others

other_way : (i j k : ℕ) → (j == i) ≡ false → (k == i) ≡ true → not (j == k) ≡ true
other_way i j k e f = let g : (j == k) ≡ false = grind (arith, nat_tests) in ap not g

pub links_apart : (ns : List Note) (i j : ℕ) → (j == i) ≡ false → AreLinks i ns → AreApart j (own ns)
links_apart [] i j d h = tt
links_apart (notes.Low k n l ∷ ns) i j d h = (other_way i j k d h.0, links_apart ns i j d h.1)
links_apart (notes.Linked k n l ∷ ns) i j d h = (other_way i j k d h.0, links_apart ns i j d h.1)
links_apart (notes.Rung k n l ∷ ns) i j d h = (other_way i j k d h.0, links_apart ns i j d h.1)
links_apart (notes.Dummied k n l ∷ ns) i j d h = (other_way i j k d h.0, links_apart ns i j d h.1)
links_apart (_ ∷ ns) i j d h = untrue h.0

pub links_left : (ns : List Note) (i j : ℕ) → (j == i) ≡ false → AreLinks i ns → AreLeft j ns
links_left [] i j d h = tt
links_left (notes.Low k n l ∷ ns) i j d h = (other_way i j k d h.0, links_left ns i j d h.1)
links_left (notes.Linked k n l ∷ ns) i j d h = (other_way i j k d h.0, links_left ns i j d h.1)
links_left (notes.Rung k n l ∷ ns) i j d h = (refl, links_left ns i j d h.1)
links_left (notes.Dummied k n l ∷ ns) i j d h = (other_way i j k d h.0, links_left ns i j d h.1)
links_left (_ ∷ ns) i j d h = untrue h.0

-- ---- an append

pick_host : (b : Bool) (x y : Host) (P : Host → Type 0) → P x → P y → P (cond b x y)
pick_host true x y P h k = h
pick_host false x y P h k = k

begins_same : (k : ℕ) (host : Host) → ((list_begins k host).session ≡ host.session) × ((list_begins k host).operation ≡ host.operation)
begins_same zero host = (refl, refl)
begins_same (suc k) host = (refl, refl)

module _ (past : List Moment) (i n k : ℕ) (cdb : List ℕ) (buffer : NoteBuffer) where
  abbrev appended : List Moment
  appended = said (notes.Append i n k cdb buffer) ∷ past

  pub append_session : (host_at appended i).session ≡ (host_at past i).session
  append_session = pick_host (nat_eq i i) (list_begins k (host_at past i)) (host_at past i) (λ h. h.session ≡ (host_at past i).session) (begins_same k (host_at past i)).0 refl

  pub append_operation : (host_at appended i).operation ≡ (host_at past i).operation
  append_operation = pick_host (nat_eq i i) (list_begins k (host_at past i)) (host_at past i) (λ h. h.operation ≡ (host_at past i).operation) (begins_same k (host_at past i)).1 refl

  pub append_present : present_list appended i ≡ Some n
  append_present = ap (λ b. cond b (Some n) (present_list past i)) (same_number i)

  -- the slot of the first ORB of a list
  pub append_slot : (m : ℕ) → slot_at appended i m 0 ≡ cond (nat_eq m n) (cond (nat_eq 0 k) (lowest_vacant (slots past i)) (slot_at past i m 0)) (slot_at past i m 0)
  append_slot m = ap (λ b. cond b (cond (nat_eq m n) (cond (nat_eq 0 k) (lowest_vacant (slots past i)) (slot_at past i m 0)) (slot_at past i m 0)) (slot_at past i m 0)) (same_number i)

-- ---- what is told

pub data ToldAs (past : List Moment) (i : ℕ) (action : Action) (ns : List Note) : Type 0 where
  silent : ns ≡ [] → prepares action ≡ false → rings action ≡ false → ToldAs past i action ns
  links : AreLinks i ns → prepares action ≡ false → is_list_step action ≡ true → ToldAs past i action ns
  append : (cdb : List ℕ) (buffer : NoteBuffer) (rest : List Note) → ns ≡ notes.Append i (new_list past i) (new_number past i) cdb buffer ∷ rest → AreLinks i rest → prepares action ≡ true → is_list_step action ≡ true → ToldAs past i action ns

behind_links : (i n k : ℕ) → AreLinks i (link_notes i n k ++ notes.Rung i n k ∷ [])
behind_links i n zero = (same_number i, tt)
behind_links i n (suc k) = (same_number i, (same_number i, (same_number i, tt)))

pub told_as : (past : List Moment) (i : ℕ) (action : Action) → ToldAs past i action (action_notes action past i)
told_as past i (actions.Put cmd) = append cmd.cdb (buffer_of cmd) [] refl tt refl refl
told_as past i (actions.Append cmd) =
    append cmd.cdb (buffer_of cmd) (link_notes i (new_list past i) (new_number past i) ++ notes.Rung i (new_list past i) (new_number past i) ∷ []) refl (behind_links i (new_list past i) (new_number past i)) refl refl
told_as past i actions.Low = links (same_number i, tt) refl refl
told_as past i actions.Link = links (same_number i, tt) refl refl
told_as past i actions.Ring = links (same_number i, tt) refl refl
told_as past i (actions.Dummy orb) = links (same_number i, tt) refl refl
told_as past i actions.Rom = silent refl refl refl
told_as past i actions.AgentReset = silent refl refl refl
told_as past i actions.State = silent refl refl refl
told_as past i actions.Enable = silent refl refl refl
told_as past i (actions.Login unit reconnect exclusive password) = silent refl refl refl
told_as past i (actions.Query unit) = silent refl refl refl
told_as past i actions.Reconnect = silent refl refl refl
told_as past i actions.Logout = silent refl refl refl
told_as past i (actions.Abort orb) = silent refl refl refl
told_as past i actions.AbortSet = silent refl refl refl
told_as past i actions.UnitReset = silent refl refl refl
told_as past i actions.TargetReset = silent refl refl refl

-- of others it says nothing
pub told_apart : (past : List Moment) (i j : ℕ) (action : Action) (ns : List Note) → (j == i) ≡ false → ToldAs past i action ns → AreApart j (own ns)
told_apart past i j action ns d (silent e p r) = subst (λ x. AreApart j (own x)) (sym e) tt
told_apart past i j action ns d (links h p step) = links_apart ns i j d h
told_apart past i j action ns d (append cdb buffer rest e h p step) = subst (λ x. AreApart j (own x)) (sym e) (ap not d, links_apart rest i j d h)

pub told_left : (past : List Moment) (i j : ℕ) (action : Action) (ns : List Note) → (j == i) ≡ false → ToldAs past i action ns → AreLeft j ns
told_left past i j action ns d (silent e p r) = subst (AreLeft j) (sym e) tt
told_left past i j action ns d (links h p step) = links_left ns i j d h
told_left past i j action ns d (append cdb buffer rest e h p step) = subst (AreLeft j) (sym e) (ap not d, links_left rest i j d h)
