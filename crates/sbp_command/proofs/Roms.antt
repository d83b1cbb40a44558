-- The listing of a configuration ROM ends as its status says.
use Rattle.std.proofs.Common.{◌≡◌, ◌∙◌, refl, sym, ap, subst, ℕ, suc, ◌+◌, List, [], ◌∷◌, ◌++◌, take, length, Some, None, Result, Ok, Err, append-nil}
use Rattle.std.specs.Prelude.{IfSome, nat_lt, if◌then◌else◌, Bool, true, false}
use Rattle.std.specs.Io.KnownBytes.{Appends}
use Rattle.std.specs.Str.Lines.{lines}
use Rattle.std.proofs.Math.Seq.{take-nil}
use Rattle.rbc_disk.specs.Held.{Held}
use Rattle.line_session.specs.Lines.{limit_fault, too_many, too_long}
use Rattle.line_session.specs.Outside.{Outside}
use Rattle.line_session.specs.Meaning.{RefusedFor, fault_text}
use Rattle.line_session.specs.Ends.{Ends, Brings}
use Rattle.line_session.specs.Ends as stream
use Rattle.line_session.specs.Ends.Brings.{lines_alone, with_fault, with_end}
use Rattle.line_session.specs.declared.status.Status.{Status}
use Rattle.line_session.specs.declared.status.Status.TheVariants as stream_statuses
use Rattle.line_session.proofs.Sessions.{begins, stops}
use Rattle.line_text.specs.Digits.{spelled}
use Rattle.rom_listing.specs.RomListing.{onto_rom, rom_from, with_line, with_spelled, rom_quads}
use Rattle.rom_listing.specs.Meaning.{RefusedSo, rom_meaning}
use Rattle.rom_listing.proofs.Roms.{rom_from-append}
use Rattle.sbp_command.specs.Headline.{status_of, rom_output, TornRom, RomEnds}

refused_cases : (many long : Bool) (read : Result (List ℕ) ℕ) (fault : ℕ) (own : Type 0) → (own → (if many then Err too_many else if long then Err too_long else read) ≡ Err fault)
    → RefusedFor (if many then Some too_many else if long then Some too_long else None) own fault
    → (if many then Err too_many else if long then Err too_long else read) ≡ Err fault
refused_cases true long read fault own h r = ap Err (sym r)
refused_cases false true read fault own h r = ap Err (sym r)
refused_cases false false read fault own h r = h r

-- the reading of lines before a faulty one
faulty : (served : List (List ℕ)) (line : List ℕ) (others : List (List ℕ)) (quads : List ℕ) (fault : ℕ) → rom_from 1 served [] ≡ Ok quads → RefusedFor (limit_fault (1 + length served) line) (RefusedSo served line fault) fault
    → rom_from 1 (served ++ line ∷ others) [] ≡ Err (1 + length served, fault)
faulty served line others quads fault h refused =
    let read : with_line (1 + length served) quads line ≡ Err fault
    = refused_cases (nat_lt 65536 (1 + length served)) (nat_lt 8192 (length line)) (with_spelled quads (spelled line)) fault (RefusedSo served line fault) (λ own. own quads h) refused in
    rom_from-append 1 served (line ∷ others) [] quads h ∙ ap (λ r. onto_rom (1 + length served) r (rom_from (suc (1 + length served)) others)) read

torn_by : (before now : Outside) (served others : List (List ℕ)) (input output : List ℕ) (len : ℕ) (media : Held) → IfSome before.left (λ bytes. bytes ≡ input) → lines input ≡ served ++ others
    → Brings rom_meaning before.media served others media output → now.media ≡ media → Appends before.written now.written (take len output) → TornRom before now
torn_by before now served others input output len media told e (lines_alone text (quads, h)) stays w = record {
  input = input;
  len = 0;
  told = told;
  written = subst (Appends before.written now.written) (ap (take len) h.silent ∙ take-nil len) w;
  media = stays ∙ h.kept;
}
torn_by before now served others input output len media told e (with_fault text line behind fault (quads, h) f refused) stays w =
    let found : rom_quads input ≡ Err (1 + length served, fault) = ap (λ ls. rom_from 1 ls []) (e ∙ ap (λ ls. served ++ ls) f) ∙ faulty served line behind quads fault h.read refused in
    record {
      input = input;
      len = len;
      told = told;
      written = subst (λ x. Appends before.written now.written (take len x)) (ap (λ t. t ++ fault_text (1 + length served) fault) h.silent ∙ ap rom_output (sym found)) w;
      media = stays ∙ h.kept;
    }
torn_by before now served others input output len media told e (with_end text f h) stays w =
    let found : rom_quads input ≡ Ok h.quads = ap (λ ls. rom_from 1 ls []) (e ∙ ap (λ ls. served ++ ls) f ∙ append-nil served) ∙ h.read in
    record {
      input = input;
      len = len;
      told = told;
      written = subst (λ x. Appends before.written now.written (take len x)) (h.text_is ∙ ap rom_output (sym found)) w;
      media = stays ∙ h.kept;
    }

torn : (before now : Outside) → stream.Torn rom_meaning before now → TornRom before now
torn before now t = torn_by before now t.served t.others t.input t.output t.len t.media t.told t.input_is t.brings t.stays t.written

pub rom_ends : (status : Status) (before now : Outside) → Ends rom_meaning status before now → RomEnds (status_of status) before now
rom_ends stream_statuses.Done before now (end, t) = (
  end,
  (
    t.closed.quads,
    record {
      input = t.input;
      told = t.told;
      is_read = t.closed.read;
      written = subst (Appends before.written now.written) t.closed.text_is t.written;
      media = t.closed.kept;
      no_fault = t.no_fault;
    },
  ),
)
rom_ends stream_statuses.Script before now t =
    let quads = t.ran.0 in let h = t.ran.1 in (
      (1 + length t.served, t.fault),
      record {
        input = t.input;
        told = t.told;
        is_read = ap (λ ls. rom_from 1 ls []) t.input_is ∙ faulty t.served t.line t.others quads t.fault h.read t.refused;
        written = subst (λ x. Appends before.written now.written (x ++ fault_text (1 + length t.served) t.fault)) h.silent t.written;
        media = h.kept;
        no_fault = t.no_fault;
      },
    )
rom_ends stream_statuses.ReadFault before now (rose, t) = (
  rose,
  let quads = t.ran.0 in let h = t.ran.1 in
      record {
        whole = t.whole;
        rest = t.rest;
        quads = quads;
        consumed = t.consumed;
        is_whole = t.is_whole;
        no_feed = t.no_feed;
        short = t.short;
        is_read = h.read;
        written = subst (Appends before.written now.written) h.silent t.written;
        media = h.kept;
      },
)
rom_ends stream_statuses.WriteFault before now (rose, t) = (rose, torn before now t.0)
rom_ends stream_statuses.NoMemory before now (no_fault, t) = (no_fault, torn before now t)

-- no line was read
pub not_begun : (before : Outside) → RomEnds (status_of stream_statuses.NoMemory) before before
not_begun before = rom_ends stream_statuses.NoMemory before before (stops rom_meaning before before before.media [] _ [] (begins rom_meaning before [] (record { read = refl; silent = refl; kept = refl })) refl)
