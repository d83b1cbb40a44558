-- What is added to a history without an end of an ORB: the counts of ends are the same, and the order law is kept.
use Rattle.sbp_world.proofs.Words.Std.{◌≡◌, ◌∙◌, refl, sym, ap, not, ◌==◌, ◌+◌, ℕ, Bool, true, false, List, [], ◌∷◌, ◌++◌, length, Option, Some, None}
use Rattle.sbp_world.proofs.Words.Wire.{LabelParts, node_of, Note, Outgoing, Side, Moment, said}
use Rattle.sbp_world.proofs.Words.Initiator.{own}
use Rattle.sbp_world.proofs.Words.Laws.{ends, ran_status, runs, OrderLaw, is_cut}
use Rattle.sbp_world.proofs.Words.World.{under_way, posted, sent, sent_all, sent_to, told, told_all, WorldState, with_note, IsAppend}
use Rattle.sbp_journal.specs.declared.note.Note.TheVariants as notes
use Rattle.sbp_journal.specs.declared.side.Side.TheVariants as sides
use Rattle.sbp_world.proofs.Formed.{AreOwn, IsNoRun}
use Rattle.sbp_world.proofs.Agents.Management.Still.{hist}
use Rattle.sbp_world.proofs.Hosts.OrbTerms.{AreStill, is_left}
use Rattle.sbp_world.proofs.Lists.Passing.{PassLaw}
use Rattle.sbp_world.proofs.Common.{moments_joined, itself}
use Rattle.sbp_world.proofs.Lists.Stands.{no}

-- a note is no run, no end and no cut, and an append is the next one
abbrev pub IsGood : List Moment → Note → Type 0
IsGood ms (notes.Append i n k cdb buffer) = IsAppend ms i n k
IsGood ms (notes.Ran i n k unit cdb bytes check) = ⊥
IsGood ms (notes.Ended i n k status) = ⊥
IsGood ms (notes.Cut i n cause) = ⊥
IsGood ms note = Unit {0}

-- notes of an initiator, each as it stands behind those before it
abbrev pub AllGood : List Note → List Moment → Type 0
AllGood [] ms = Unit {0}
AllGood (note ∷ ns) ms = IsGood ms note × AllGood ns (said note ∷ ms)

module _ (wild : ℕ → Bool) where
  pub record Adds (ms now : List Moment) : Type 0 where
    pub later : List Moment
    pub is : later ++ ms ≡ now
    pub ends_are : (i n : ℕ) → ends now i n ≡ ends ms i n
    pub cuts_are : (i n : ℕ) → is_cut now i n ≡ is_cut ms i n
    pub runs_are : (i n k : ℕ) → runs now i n k ≡ runs ms i n k
    pub ran_are : (i n k : ℕ) → ran_status now i n k ≡ ran_status ms i n k
    pub law : OrderLaw wild ms → OrderLaw wild now
    pub passes : PassLaw wild ms → PassLaw wild now

  pub adds_none : (ms : List Moment) → Adds ms ms
  adds_none ms = record { later = []; is = refl; ends_are = λ i n. refl; cuts_are = λ i n. refl; runs_are = λ i n k. refl; ran_are = λ i n k. refl; law = λ l. l; passes = λ l. l }

  pub adds_then : (one two three : List Moment) → Adds one two → Adds two three → Adds one three
  adds_then one two three a b = record {
    later = b.later ++ a.later;
    is = moments_joined b.later a.later one ∙ ap (λ ms. b.later ++ ms) a.is ∙ b.is;
    ends_are = λ i n. b.ends_are i n ∙ a.ends_are i n;
    cuts_are = λ i n. b.cuts_are i n ∙ a.cuts_are i n;
    runs_are = λ i n k. b.runs_are i n k ∙ a.runs_are i n k;
    ran_are = λ i n k. b.ran_are i n k ∙ a.ran_are i n k;
    law = λ l. b.law (a.law l);
    passes = λ l. b.passes (a.passes l);
  }

  pub adds_note : (note : Note) (ms : List Moment) → IsGood ms note → Adds ms (said note ∷ ms)
  adds_note (notes.Begin a b) ms g = record { later = said (notes.Begin a b) ∷ []; is = refl; ends_are = λ j m. refl; cuts_are = λ j m. refl; runs_are = λ j m k. refl; ran_are = λ j m k. refl; law = λ l. (tt, l); passes = λ l. (tt, l) }
  adds_note (notes.Sent a b c d e) ms g = record { later = said (notes.Sent a b c d e) ∷ []; is = refl; ends_are = λ j m. refl; cuts_are = λ j m. refl; runs_are = λ j m k. refl; ran_are = λ j m k. refl; law = λ l. (tt, l); passes = λ l. (tt, l) }
  adds_note (notes.Injected a) ms g = record { later = said (notes.Injected a) ∷ []; is = refl; ends_are = λ j m. refl; cuts_are = λ j m. refl; runs_are = λ j m k. refl; ran_are = λ j m k. refl; law = λ l. (tt, l); passes = λ l. (tt, l) }
  adds_note (notes.Got a) ms g = record { later = said (notes.Got a) ∷ []; is = refl; ends_are = λ j m. refl; cuts_are = λ j m. refl; runs_are = λ j m k. refl; ran_are = λ j m k. refl; law = λ l. (tt, l); passes = λ l. (tt, l) }
  adds_note (notes.Ignored a b) ms g = record { later = said (notes.Ignored a b) ∷ []; is = refl; ends_are = λ j m. refl; cuts_are = λ j m. refl; runs_are = λ j m k. refl; ran_are = λ j m k. refl; law = λ l. (tt, l); passes = λ l. (tt, l) }
  adds_note (notes.Lost a) ms g = record { later = said (notes.Lost a) ∷ []; is = refl; ends_are = λ j m. refl; cuts_are = λ j m. refl; runs_are = λ j m k. refl; ran_are = λ j m k. refl; law = λ l. (tt, l); passes = λ l. (tt, l) }
  adds_note (notes.TimedOut a) ms g = record { later = said (notes.TimedOut a) ∷ []; is = refl; ends_are = λ j m. refl; cuts_are = λ j m. refl; runs_are = λ j m k. refl; ran_are = λ j m k. refl; law = λ l. (tt, l); passes = λ l. (tt, l) }
  adds_note (notes.Append i n k cdb buffer) ms g = record { later = said (notes.Append i n k cdb buffer) ∷ []; is = refl; ends_are = λ j m. refl; cuts_are = λ j m. refl; runs_are = λ j m k. refl; ran_are = λ j m k. refl; law = λ l. (g.next, l); passes = λ l. (g, l) }
  adds_note (notes.Low a b c) ms g = record { later = said (notes.Low a b c) ∷ []; is = refl; ends_are = λ j m. refl; cuts_are = λ j m. refl; runs_are = λ j m k. refl; ran_are = λ j m k. refl; law = λ l. (tt, l); passes = λ l. (tt, l) }
  adds_note (notes.Linked a b c) ms g = record { later = said (notes.Linked a b c) ∷ []; is = refl; ends_are = λ j m. refl; cuts_are = λ j m. refl; runs_are = λ j m k. refl; ran_are = λ j m k. refl; law = λ l. (tt, l); passes = λ l. (tt, l) }
  adds_note (notes.Rung a b c) ms g = record { later = said (notes.Rung a b c) ∷ []; is = refl; ends_are = λ j m. refl; cuts_are = λ j m. refl; runs_are = λ j m k. refl; ran_are = λ j m k. refl; law = λ l. (tt, l); passes = λ l. (tt, l) }
  adds_note (notes.Dummied a b c) ms g = record { later = said (notes.Dummied a b c) ∷ []; is = refl; ends_are = λ j m. refl; cuts_are = λ j m. refl; runs_are = λ j m k. refl; ran_are = λ j m k. refl; law = λ l. (tt, l); passes = λ l. (tt, l) }
  adds_note (notes.Ran a b c d e f x) ms g = absurd g
  adds_note (notes.Ended a b c d) ms g = absurd g
  adds_note (notes.Cut a b c) ms g = absurd g
  adds_note (notes.Dead a b c) ms g = record { later = said (notes.Dead a b c) ∷ []; is = refl; ends_are = λ j m. refl; cuts_are = λ j m. refl; runs_are = λ j m k. refl; ran_are = λ j m k. refl; law = λ l. (tt, l); passes = λ l. (tt, l) }
  adds_note (notes.Taken a b c d e) ms g = record { later = said (notes.Taken a b c d e) ∷ []; is = refl; ends_are = λ j m. refl; cuts_are = λ j m. refl; runs_are = λ j m k. refl; ran_are = λ j m k. refl; law = λ l. (tt, l); passes = λ l. (tt, l) }
  adds_note (notes.Drop a b) ms g = record { later = said (notes.Drop a b) ∷ []; is = refl; ends_are = λ j m. refl; cuts_are = λ j m. refl; runs_are = λ j m k. refl; ran_are = λ j m k. refl; law = λ l. (tt, l); passes = λ l. (tt, l) }
  adds_note (notes.Managed a b c d e) ms g = record { later = said (notes.Managed a b c d e) ∷ []; is = refl; ends_are = λ j m. refl; cuts_are = λ j m. refl; runs_are = λ j m k. refl; ran_are = λ j m k. refl; law = λ l. (tt, l); passes = λ l. (tt, l) }
  adds_note (notes.ManageFailed a b) ms g = record { later = said (notes.ManageFailed a b) ∷ []; is = refl; ends_are = λ j m. refl; cuts_are = λ j m. refl; runs_are = λ j m k. refl; ran_are = λ j m k. refl; law = λ l. (tt, l); passes = λ l. (tt, l) }
  adds_note (notes.Held a) ms g = record { later = said (notes.Held a) ∷ []; is = refl; ends_are = λ j m. refl; cuts_are = λ j m. refl; runs_are = λ j m k. refl; ran_are = λ j m k. refl; law = λ l. (tt, l); passes = λ l. (tt, l) }
  adds_note (notes.Expired a) ms g = record { later = said (notes.Expired a) ∷ []; is = refl; ends_are = λ j m. refl; cuts_are = λ j m. refl; runs_are = λ j m k. refl; ran_are = λ j m k. refl; law = λ l. (tt, l); passes = λ l. (tt, l) }
  adds_note (notes.Back a) ms g = record { later = said (notes.Back a) ∷ []; is = refl; ends_are = λ j m. refl; cuts_are = λ j m. refl; runs_are = λ j m k. refl; ran_are = λ j m k. refl; law = λ l. (tt, l); passes = λ l. (tt, l) }
  adds_note (notes.Left a) ms g = record { later = said (notes.Left a) ∷ []; is = refl; ends_are = λ j m. refl; cuts_are = λ j m. refl; runs_are = λ j m k. refl; ran_are = λ j m k. refl; law = λ l. (tt, l); passes = λ l. (tt, l) }
  adds_note (notes.Cleared a) ms g = record { later = said (notes.Cleared a) ∷ []; is = refl; ends_are = λ j m. refl; cuts_are = λ j m. refl; runs_are = λ j m k. refl; ran_are = λ j m k. refl; law = λ l. (tt, l); passes = λ l. (tt, l) }
  adds_note (notes.Op a b c) ms g = record { later = said (notes.Op a b c) ∷ []; is = refl; ends_are = λ j m. refl; cuts_are = λ j m. refl; runs_are = λ j m k. refl; ran_are = λ j m k. refl; law = λ l. (tt, l); passes = λ l. (tt, l) }
  adds_note (notes.Stuck a) ms g = record { later = said (notes.Stuck a) ∷ []; is = refl; ends_are = λ j m. refl; cuts_are = λ j m. refl; runs_are = λ j m k. refl; ran_are = λ j m k. refl; law = λ l. (tt, l); passes = λ l. (tt, l) }
  adds_note (notes.Reset a) ms g = record { later = said (notes.Reset a) ∷ []; is = refl; ends_are = λ j m. refl; cuts_are = λ j m. refl; runs_are = λ j m k. refl; ran_are = λ j m k. refl; law = λ l. (tt, l); passes = λ l. (tt, l) }
  adds_note (notes.Seen a b) ms g = record { later = said (notes.Seen a b) ∷ []; is = refl; ends_are = λ j m. refl; cuts_are = λ j m. refl; runs_are = λ j m k. refl; ran_are = λ j m k. refl; law = λ l. (tt, l); passes = λ l. (tt, l) }
  adds_note notes.Tick ms g = record { later = said notes.Tick ∷ []; is = refl; ends_are = λ j m. refl; cuts_are = λ j m. refl; runs_are = λ j m k. refl; ran_are = λ j m k. refl; law = λ l. (tt, l); passes = λ l. (tt, l) }
  adds_note (notes.Refused a b) ms g = record { later = said (notes.Refused a b) ∷ []; is = refl; ends_are = λ j m. refl; cuts_are = λ j m. refl; runs_are = λ j m k. refl; ran_are = λ j m k. refl; law = λ l. (tt, l); passes = λ l. (tt, l) }
  adds_note notes.Settled ms g = record { later = said notes.Settled ∷ []; is = refl; ends_are = λ j m. refl; cuts_are = λ j m. refl; runs_are = λ j m k. refl; ran_are = λ j m k. refl; law = λ l. (tt, l); passes = λ l. (tt, l) }
  adds_note notes.Stopped ms g = record { later = said notes.Stopped ∷ []; is = refl; ends_are = λ j m. refl; cuts_are = λ j m. refl; runs_are = λ j m k. refl; ran_are = λ j m k. refl; law = λ l. (tt, l); passes = λ l. (tt, l) }
  adds_note (notes.Key a) ms g = record { later = said (notes.Key a) ∷ []; is = refl; ends_are = λ j m. refl; cuts_are = λ j m. refl; runs_are = λ j m k. refl; ran_are = λ j m k. refl; law = λ l. (tt, l); passes = λ l. (tt, l) }
  adds_note (notes.Unsolicited a) ms g = record { later = said (notes.Unsolicited a) ∷ []; is = refl; ends_are = λ j m. refl; cuts_are = λ j m. refl; runs_are = λ j m k. refl; ran_are = λ j m k. refl; law = λ l. (tt, l); passes = λ l. (tt, l) }
  adds_note (notes.Unsent a) ms g = record { later = said (notes.Unsent a) ∷ []; is = refl; ends_are = λ j m. refl; cuts_are = λ j m. refl; runs_are = λ j m k. refl; ran_are = λ j m k. refl; law = λ l. (tt, l); passes = λ l. (tt, l) }
  adds_note (notes.Told a) ms g = record { later = said (notes.Told a) ∷ []; is = refl; ends_are = λ j m. refl; cuts_are = λ j m. refl; runs_are = λ j m k. refl; ran_are = λ j m k. refl; law = λ l. (tt, l); passes = λ l. (tt, l) }

  -- ---- a world that goes on so: its target and who has the places stay
  module _ (past : List Moment) where
    pub record Stays (w v : WorldState) : Type 0 where
      pub adds : Adds (hist past w) (hist past v)
      pub target : v.target ≡ w.target
      pub places : v.places ≡ w.places
      pub count : length v.initiators ≡ length w.initiators

    pub stays_same : (w : WorldState) → Stays w w
    stays_same w = record { adds = adds_none (hist past w); target = refl; places = refl; count = refl }

    pub stays_then : (one two three : WorldState) → Stays one two → Stays two three → Stays one three
    stays_then one two three a b = record {
      adds = adds_then (hist past one) (hist past two) (hist past three) a.adds b.adds;
      target = b.target ∙ a.target;
      places = b.places ∙ a.places;
      count = b.count ∙ a.count;
    }

    pub stays_note : (note : Note) (w : WorldState) → IsGood (hist past w) note → Stays w (with_note note w)
    stays_note note w g = record { adds = adds_note note (hist past w) g; target = refl; places = refl; count = refl }

    pub stays_own : (weight : ℕ) (ns : List Note) (w : WorldState) → AllGood ns (hist past w) → Stays w (told_all weight (own ns) w)
    unfolding told_all told
    stays_own weight [] w g = stays_same w
    stays_own weight (note ∷ ns) w g =
        let v = told weight (sides.Own note) w in
        let one : Stays w v = record { adds = adds_note note (hist past w) g.0; target = refl; places = refl; count = refl } in
        stays_then w v (told_all weight (own ns) v) one (stays_own weight ns v g.1)

    -- ---- packets
    asked_stays : (serial to node peer : ℕ) (label : Option LabelParts) (w v : WorldState) → Stays w v → Stays w (under_way serial to node peer label v)
    asked_stays serial to node peer None w v s = s
    asked_stays serial to node peer (Some label) w v s = record { adds = s.adds; target = s.target; places = s.places; count = s.count }

    pub posted_stays : (from to : ℕ) (injected : Bool) (bytes : List ℕ) (w : WorldState) → Stays w (posted from to injected bytes w)
    unfolding posted
    posted_stays from to false bytes w = record { adds = adds_note (notes.Sent _ _ from to bytes) (hist past w) tt; target = refl; places = refl; count = refl }
    posted_stays from to true bytes w =
        let first = notes.Injected (w.store.last + 1) in
        record {
          adds = adds_then (hist past w) (said first ∷ hist past w) _ (adds_note first (hist past w) tt) (adds_note (notes.Sent _ _ from to bytes) (said first ∷ hist past w) tt);
          target = refl;
          places = refl;
          count = refl;
        }

    to_stays : (to : Option ℕ) (from : ℕ) (packet : Outgoing) (w : WorldState) → Stays w (sent_to to from packet w)
    to_stays None from packet w = stays_same w
    to_stays (Some to) from packet w = asked_stays (w.store.last + 1) to from packet.to packet.label w (posted from to false packet.bytes w) (posted_stays from to false packet.bytes w)

    sent_stays : (from : ℕ) (packet : Outgoing) (w : WorldState) → Stays w (sent from packet w)
    unfolding sent
    sent_stays from packet w = to_stays (node_of w.generations from packet.to) from packet w

    pub all_stay : (from : ℕ) (packets : List Outgoing) (w : WorldState) → Stays w (sent_all from packets w)
    unfolding sent_all
    all_stay from [] w = stays_same w
    all_stay from (packet ∷ later) w = let v = sent from packet w in stays_then w v (sent_all from later v) (sent_stays from packet w) (all_stay from later v)

    -- ---- what an initiator tells in a delivery, in a time-out and at a sight
    left_not : (i : ℕ) → not (i == i) ≡ true → ⊥
    left_not i e = let same : (i == i) ≡ true = itself i in no (sym (ap not same) ∙ e)

    quiet : (note : Note) (ms : List Moment) → IsNoRun note → ((i : ℕ) → is_left i note ≡ true) → IsGood ms note
    quiet (notes.Begin a b) ms h l = absurd h
    quiet (notes.Sent a b c d e) ms h l = absurd h
    quiet (notes.Injected a) ms h l = absurd h
    quiet (notes.Got a) ms h l = absurd h
    quiet (notes.Ignored a b) ms h l = absurd h
    quiet (notes.Lost a) ms h l = absurd h
    quiet (notes.TimedOut a) ms h l = absurd h
    quiet (notes.Append i n k cdb buffer) ms h l = absurd (left_not i (l i))
    quiet (notes.Low a b c) ms h l = tt
    quiet (notes.Linked a b c) ms h l = tt
    quiet (notes.Rung a b c) ms h l = tt
    quiet (notes.Dummied a b c) ms h l = tt
    quiet (notes.Ran a b c d e f g) ms h l = absurd h
    quiet (notes.Ended a b c d) ms h l = absurd h
    quiet (notes.Cut a b c) ms h l = absurd h
    quiet (notes.Dead a b c) ms h l = absurd h
    quiet (notes.Taken a b c d e) ms h l = tt
    quiet (notes.Drop a b) ms h l = tt
    quiet (notes.Managed a b c d e) ms h l = absurd h
    quiet (notes.ManageFailed a b) ms h l = absurd h
    quiet (notes.Held a) ms h l = absurd h
    quiet (notes.Expired a) ms h l = absurd h
    quiet (notes.Back a) ms h l = absurd h
    quiet (notes.Left a) ms h l = absurd h
    quiet (notes.Cleared a) ms h l = absurd h
    quiet (notes.Op a b c) ms h l = tt
    quiet (notes.Stuck a) ms h l = tt
    quiet (notes.Reset a) ms h l = absurd h
    quiet (notes.Seen a b) ms h l = absurd h
    quiet notes.Tick ms h l = absurd h
    quiet (notes.Refused a b) ms h l = absurd h
    quiet notes.Settled ms h l = absurd h
    quiet notes.Stopped ms h l = absurd h
    quiet (notes.Key a) ms h l = absurd h
    quiet (notes.Unsolicited a) ms h l = absurd h
    quiet (notes.Unsent a) ms h l = absurd h
    quiet (notes.Told a) ms h l = tt

    pub stays_told : (weight : ℕ) (side : List Side) (w : WorldState) → AreOwn side → AreStill side → Stays w (told_all weight side w)
    unfolding told_all told
    stays_told weight [] w h l = stays_same w
    stays_told weight (sides.Own note ∷ later) w h l =
        let v = told weight (sides.Own note) w in
        let one : Stays w v = record { adds = adds_note note (hist past w) (quiet note (hist past w) h.0.1 l.0); target = refl; places = refl; count = refl } in
        stays_then w v (told_all weight later v) one (stays_told weight later v h.1 l.1)
    stays_told weight (sides.Opened a b ∷ later) w h l = absurd h.0
    stays_told weight (sides.Ran a b c d e ∷ later) w h l = absurd h.0
    stays_told weight (sides.Ended a b c ∷ later) w h l = absurd h.0
    stays_told weight (sides.Dead a b ∷ later) w h l = absurd h.0
    stays_told weight (sides.Cut a b ∷ later) w h l = absurd h.0
    stays_told weight (sides.Managed a b c d e ∷ later) w h l = absurd h.0
    stays_told weight (sides.ManageFailed a b ∷ later) w h l = absurd h.0
    stays_told weight (sides.Held a ∷ later) w h l = absurd h.0
    stays_told weight (sides.Expired a ∷ later) w h l = absurd h.0
    stays_told weight (sides.Back a ∷ later) w h l = absurd h.0
    stays_told weight (sides.Left a ∷ later) w h l = absurd h.0
    stays_told weight (sides.Cleared a ∷ later) w h l = absurd h.0
    stays_told weight (sides.Unsolicited a ∷ later) w h l = absurd h.0
    stays_told weight (sides.Unsent a ∷ later) w h l = absurd h.0
