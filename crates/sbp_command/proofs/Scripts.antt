-- A command that reads a script ends as its status says.
use Rattle.std.proofs.Common.{◌≡◌, ◌∙◌, sym, ap, subst, ℕ, ◌+◌, inl, inr, List, [], ◌∷◌, ◌++◌, take, length, reverse, Some, None, append-nil}
use Rattle.std.specs.Prelude.{IfSome}
use Rattle.std.specs.Io.KnownBytes.{Appends}
use Rattle.std.specs.Str.Lines.{lines}
use Rattle.std.proofs.Math.Seq.{take-append_seam}
use Rattle.rbc_disk.specs.Held.{Held}
use Rattle.sbp_journal.specs.Text.{text_of}
use Rattle.sbp_journal.specs.declared.event.Event.{Event}
use Rattle.sbp_journal.specs.declared.note.Note.{Note}
use Rattle.sbp_target.specs.Faults.{NoneFell}
use Rattle.media_laws.specs.Media.{media_after}
use Rattle.line_session.specs.Outside.{Outside}
use Rattle.line_session.specs.Meaning.{Meaning, Refused, fault_text}
use Rattle.line_session.specs.Ends.{Ends, Brings}
use Rattle.line_session.specs.Ends as stream
use Rattle.line_session.specs.Ends.Brings.{lines_alone, with_fault, with_end}
use Rattle.line_session.specs.declared.status.Status.{Status}
use Rattle.line_session.specs.declared.status.Status.TheVariants as stream_statuses
use Rattle.script_text.specs.Script.{Script}
use Rattle.script_runner.specs.Events.{MayLeave}
use Rattle.sbp_command.specs.Headline.{status_of}
use Rattle.sbp_command.specs.Scripts.{ScriptCommand, ScriptEnds, Torn, ending}

-- a front of a list is its first elements
pub front_events : {A : Type 0} (front more all : List A) → all ≡ front ++ more → front ≡ take (length front) all
front_events front more all e = sym (ap (take (length front)) e ∙ take-append_seam front more)

-- a script that goes on behind its first events
pub record GoesOn (front all : Script) : Type 0 where
  pub more : List (ℕ × Event)
  pub events : all.events ≡ front.events ++ more

-- the script that ends with a fault behind some events
abbrev pub faulty : Script → ℕ → ℕ → Script
faulty front number fault = record { events = front.events; fault = Some (number, fault) }

-- what a command told over some events, and its text
pub record Tells (command : ScriptCommand) (start : Held) (happened : List (ℕ × Event)) (text : List ℕ) (media : Held) : Type 0 where
  pub notes : List Note
  pub ran : command.does start happened notes media
  pub text_is : text ≡ text_of notes

-- A server whose lines are those of a script, and come to what a command does over their events, from what the media held at first.
pub record IsCommand {S : Type 0} (meaning : Meaning S) (command : ScriptCommand) (start : Held) : Type 0 where
  pub of_lines : List (List ℕ) → Script
  pub script_is : (input : List ℕ) → command.script input ≡ of_lines (lines input)
  pub clean : (served : List (List ℕ)) (text : List ℕ) (state : S) (media : Held) → meaning.ran start served text state media → (of_lines served).fault ≡ None
  pub tells : (served : List (List ℕ)) (text : List ℕ) (state : S) (media : Held) → meaning.ran start served text state media → Tells command start (of_lines served).events text media
  pub next : (served : List (List ℕ)) (line : List ℕ) (others : List (List ℕ)) → (of_lines served).fault ≡ None → GoesOn (of_lines served) (of_lines (served ++ line ∷ others))
  pub fault : (served : List (List ℕ)) (line : List ℕ) (others : List (List ℕ)) (fault : ℕ) → (of_lines served).fault ≡ None → Refused meaning served line fault
      → of_lines (served ++ line ∷ others) ≡ faulty (of_lines served) (1 + length served) fault
  pub closed : (served : List (List ℕ)) (text : List ℕ) (media : Held) → meaning.closed served text start media → (state : S) × meaning.ran start served text state media
  pub stays : (old new : Held) → meaning.stays old new → MayLeave old new
  pub fits : (happened : List (ℕ × Event)) (notes : List Note) (now : Held) → command.does start happened notes now → now ≡ media_after (reverse notes) start

module _ {S : Type 0} (meaning : Meaning S) (command : ScriptCommand) (before now : Outside) (is : IsCommand meaning command before.media) where
  -- the first events of the input
  first_events : (served others : List (List ℕ)) (input : List ℕ) → (is.of_lines served).fault ≡ None → lines input ≡ served ++ others → (is.of_lines served).events ≡ take (length (is.of_lines served).events) (command.script input).events
  first_events served [] input clean e =
      front_events (is.of_lines served).events [] (command.script input).events (ap (λ s. s.events) (is.script_is input ∙ ap is.of_lines (e ∙ append-nil served)) ∙ sym (append-nil _))
  first_events served (line ∷ others) input clean e =
      let on = is.next served line others clean in
      front_events (is.of_lines served).events on.more (command.script input).events (ap (λ s. s.events) (is.script_is input ∙ ap is.of_lines e) ∙ on.events)

  -- its first fault
  found : (served : List (List ℕ)) (line : List ℕ) (others : List (List ℕ)) (fault : ℕ) (input : List ℕ) → (is.of_lines served).fault ≡ None → lines input ≡ served ++ line ∷ others → Refused meaning served line fault
      → command.script input ≡ faulty (is.of_lines served) (1 + length served) fault
  found served line others fault input clean e refused = is.script_is input ∙ ap is.of_lines e ∙ is.fault served line others fault clean refused

  torn_by : (served others : List (List ℕ)) (input output : List ℕ) (len : ℕ) (media : Held) → IfSome before.left (λ bytes. bytes ≡ input) → lines input ≡ served ++ others
      → Brings meaning before.media served others media output → Appends before.written now.written (take len output) → Torn command before now media
  torn_by served others input output len media told e (lines_alone text (state, h)) w =
      let t = is.tells served text state media h in
      record {
        input = input;
        happened = (is.of_lines served).events;
        notes = t.notes;
        count = length (is.of_lines served).events;
        output = text;
        len = len;
        told = told;
        first = first_events served others input (is.clean served text state media h) e;
        ran = t.ran;
        may_write = inl t.text_is;
        written = w;
      }
  torn_by served others input output len media told e (with_fault text line behind fault (state, h) f refused) w =
      let t = is.tells served text state media h in
      let clean = is.clean served text state media h in
      let s = found served line behind fault input clean (e ∙ ap (λ ls. served ++ ls) f) refused in
      record {
        input = input;
        happened = (is.of_lines served).events;
        notes = t.notes;
        count = length (is.of_lines served).events;
        output = output;
        len = len;
        told = told;
        first = first_events served others input clean e;
        ran = t.ran;
        may_write = inr (sym (ap (λ s. s.events) s), ap (λ x. x ++ fault_text (1 + length served) fault) t.text_is ∙ ap (λ s. text_of t.notes ++ ending s.fault) (sym s));
        written = w;
      }
  torn_by served others input output len media told e (with_end text f closed) w =
      let (state, h) = is.closed served text media closed in
      let t = is.tells served text state media h in
      record {
        input = input;
        happened = (is.of_lines served).events;
        notes = t.notes;
        count = length (is.of_lines served).events;
        output = text;
        len = len;
        told = told;
        first = first_events served others input (is.clean served text state media h) e;
        ran = t.ran;
        may_write = inl t.text_is;
        written = w;
      }

  torn : (t : stream.Torn meaning before now) → Torn command before now t.media
  torn t = torn_by t.served t.others t.input t.output t.len t.media t.told t.input_is t.brings t.written

  pub script_ends : (status : Status) → Ends meaning status before now → ScriptEnds command (status_of status) before now
  script_ends stream_statuses.Done (end, s) =
      let (state, h) = is.closed (lines s.input) s.text now.media s.closed in
      let t = is.tells (lines s.input) s.text state now.media h in (
        end,
        record {
          input = s.input;
          notes = t.notes;
          told = s.told;
          fault_is = ap (λ x. x.fault) (is.script_is s.input) ∙ is.clean (lines s.input) s.text state now.media h;
          ran = subst (λ x. command.does before.media x.events t.notes now.media) (sym (is.script_is s.input)) t.ran;
          written = subst (Appends before.written now.written) (t.text_is ∙ sym (append-nil (text_of t.notes))) s.written;
          no_fault = s.no_fault;
        },
      )
  script_ends stream_statuses.Script s =
      let (state, h) = s.ran in
      let t = is.tells s.served s.text state now.media h in
      let same = found s.served s.line s.others s.fault s.input (is.clean s.served s.text state now.media h) s.input_is s.refused in (
        (1 + length s.served, s.fault),
        record {
          input = s.input;
          notes = t.notes;
          told = s.told;
          fault_is = ap (λ x. x.fault) same;
          ran = subst (λ x. command.does before.media x.events t.notes now.media) (sym same) t.ran;
          written = subst (λ x. Appends before.written now.written (x ++ fault_text (1 + length s.served) s.fault)) t.text_is s.written;
          no_fault = s.no_fault;
        },
      )
  script_ends stream_statuses.ReadFault (rose, s) =
      let (state, h) = s.ran in
      let t = is.tells (lines s.whole) s.text state now.media h in (
        rose,
        record {
          whole = s.whole;
          rest = s.rest;
          notes = t.notes;
          consumed = s.consumed;
          is_whole = s.is_whole;
          no_feed = s.no_feed;
          short = s.short;
          fault_is = ap (λ x. x.fault) (is.script_is s.whole) ∙ is.clean (lines s.whole) s.text state now.media h;
          ran = subst (λ x. command.does before.media x.events t.notes now.media) (sym (is.script_is s.whole)) t.ran;
          written = subst (Appends before.written now.written) t.text_is s.written;
        },
      )
  script_ends stream_statuses.WriteFault (rose, (t, same)) = (rose, subst (λ media. Torn command before now media) same (torn t))
  script_ends stream_statuses.NoMemory (no_fault, t) =
      let u = torn t in
      let stays = is.stays t.media now.media t.stays in
      (no_fault, record { media = t.media; torn = u; left = stays; within = subst (λ media. NoneFell media.faults now.media.faults) (is.fits u.happened u.notes t.media u.ran) stays.fell })
