-- What a node does with a packet that it found to be so, and with a request by its judging, is what the judgement law asks of the turn.
use Rattle.std.proofs.Common.{◌≡◌, ◌∙◌, sym, ap, subst, ℕ, List, [], Some, None, Ok}
use Rattle.async_packet.specs.Packet.{Packet}
use Rattle.async_packet.specs.Reading.{reading}
use Rattle.label_table.specs.Judging.{Row, by_again, by_generation, by_grammar, by_label, by_request, by_response, row_of}
use Rattle.label_table.specs.Layer.{Finding, Layer, of_again, of_generation, of_grammar, of_label, of_request, of_response}
use Rattle.rbc_disk.specs.Disk.{Disk}
use Rattle.sbp_bus.specs.Packets.{judged_note}
use Rattle.sbp_journal.specs.Addresses.{Access, access_of}
use Rattle.sbp_journal.specs.Rows.{Judging, ignored_as, judging_of, serving, telling}
use Rattle.sbp_journal.specs.Run.{Moment, said}
use Rattle.sbp_journal.specs.Transactions.{Sending}
use Rattle.sbp_journal.specs.Wire.{Terms, terms}
use Rattle.sbp_journal.specs.declared.cause.Cause.{Cause}
use Rattle.sbp_journal.specs.declared.cause.Cause.TheVariants as causes
use Rattle.sbp_journal.specs.declared.cause.Judged.{Judged}
use Rattle.sbp_journal.specs.declared.cause.Judged.TheVariants as judgements
use Rattle.sbp_journal.specs.declared.note.Note.{Note}
use Rattle.sbp_journal.specs.declared.note.Note.TheVariants as notes
use Rattle.sbp_laws.specs.JudgementLaw.{Judges, Verdict, answer_packet, by_facts, by_judging, by_row, facts_at, facts_of, ignored_rest, request_facts, verdict, verdict_of, verdict_on}
use Rattle.sbp_laws.specs.Packets.{access_in, packet_in, spelled_by}
use Rattle.sbp_laws.specs.Targets.{Target, over, target_at}
use Rattle.sbp_laws.specs.Turns.{turn}
use Rattle.sbp_world.proofs.Agents.CrewFirsts.{AccessIs}
use Rattle.turn_laws.proofs.FoundRows.{RowFor}

module _ (start : List Disk) (ms : List Moment) (serial : ℕ) (q : Sending) where
  abbrev t : Terms
  t = terms ms

  abbrev target : Target
  target = over (target_at start ms)

  -- ---- what a node does with a request that is judged so, and with a packet that is found so: the notes behind the first one count where it is ignored
  -- the judging of a request that asks for this
  abbrev pub judging_for : Access → Judging
  judging_for access = judging_of (request_facts start ms target t q.from q.to access)

  abbrev pub ActsBy : Judging → Packet → Judged → List Note → Type 0
  ActsBy (ignored_as cause rcode) p judged rest = (judged ≡ judgements.Ignored cause) × (rest ≡ answer_packet t q rcode [] (Some p))
  ActsBy telling p judged rest = judged ≡ judgements.Got
  ActsBy serving p judged rest = judged ≡ judgements.Got

  pub record Serves (p : Packet) (judged : Judged) (rest : List Note) : Type 0 where
    pub asks : AccessIs p
    pub acts : ActsBy (judging_for asks.access) p judged rest

  abbrev pub Acts : {P : Type 0} → Finding P → Judged → List Note → Type 0
  Acts of_generation judged rest = (judged ≡ judgements.Ignored causes.Generation) × (rest ≡ [])
  Acts of_grammar judged rest = (judged ≡ judgements.Ignored causes.Grammar) × (rest ≡ [])
  Acts of_label judged rest = (judged ≡ judgements.Ignored causes.Label) × (rest ≡ [])
  Acts (of_response p label purpose) judged rest = judged ≡ judgements.Got
  Acts (of_again p rcode) judged rest = (judged ≡ judgements.Ignored causes.Again) × (rest ≡ answer_packet t q rcode [] (Some p))
  Acts (of_request p) judged rest = Serves p judged rest

  -- ---- what the law asks of the turn that begins so
  abbrev pub Follows : Judged → List Note → Type 0
  Follows judged rest = Judges start (turn ms (said (judged_note serial judged)) rest)

  module _ (was : t.sent serial ≡ Some q) where
    -- the verdict of the law
    abbrev V : Verdict
    V = by_row (row_of (facts_of t q)) serial t q (facts_at start ms target t q (access_in (packet_in (Some q))))

    verdict_is : (moment : Moment) (rest : List Note) → verdict_of start (turn ms moment rest) serial ≡ V
    verdict_is moment rest = ap (verdict_on start (turn ms moment rest) serial) was

    got : (rest : List Note) → V.note ≡ notes.Got serial → Follows judgements.Got rest
    got rest e = ap (λ (v : Verdict). v.note) (verdict_is (said (notes.Got serial)) rest) ∙ e

    silent : (cause : Cause) (rest : List Note) → V ≡ verdict (notes.Ignored serial cause) None → rest ≡ [] → Follows (judgements.Ignored cause) rest
    silent cause rest e none =
        let v = verdict_is (said (notes.Ignored serial cause)) rest ∙ e in (
          ap (λ (x : Verdict). x.note) v,
          none
              ∙ sym (ap (λ so. ignored_rest t so (verdict_of start (turn ms (said (notes.Ignored serial cause)) rest) serial).rcode) was ∙ ap (λ (x : Verdict). ignored_rest t (Some q) x.rcode) v),
        )

    answers : (cause : Cause) (rcode : ℕ) (p : Packet) (rest : List Note) → V ≡ verdict (notes.Ignored serial cause) (Some rcode) → reading q.bytes ≡ Ok p → rest ≡ answer_packet t q rcode [] (Some p) → Follows (judgements.Ignored cause) rest
    answers cause rcode p rest e read one =
        let v = verdict_is (said (notes.Ignored serial cause)) rest ∙ e in (
          ap (λ (x : Verdict). x.note) v,
          one
              ∙ sym (ap (λ so. ignored_rest t so (verdict_of start (turn ms (said (notes.Ignored serial cause)) rest) serial).rcode) was
              ∙ (ap (λ (x : Verdict). ignored_rest t (Some q) x.rcode) v ∙ ap (λ r. answer_packet t q rcode [] (spelled_by r)) read)),
        )

    by_the_row : (row : Row) → row_of (facts_of t q) ≡ row → V ≡ by_row row serial t q (facts_at start ms target t q (access_in (packet_in (Some q))))
    by_the_row row e = ap (λ r. by_row r serial t q (facts_at start ms target t q (access_in (packet_in (Some q))))) e

    request_verdict : (p : Packet) (access : Access) → row_of (facts_of t q) ≡ by_request → reading q.bytes ≡ Ok p → access_of p ≡ Some access → V ≡ by_judging serial (judging_for access)
    request_verdict p access row read e =
        by_the_row by_request row
        ∙ (ap (λ r. by_facts serial (facts_at start ms target t q (access_in (spelled_by r)))) read
        ∙ ap (λ a. by_facts serial (facts_at start ms target t q a)) e)

    got_so : (judged : Judged) (rest : List Note) → judged ≡ judgements.Got → V.note ≡ notes.Got serial → Follows judged rest
    got_so judged rest is e = subst (λ x. Follows x rest) (sym is) (got rest e)

    request_so : (j : Judging) (p : Packet) (judged : Judged) (rest : List Note) → V ≡ by_judging serial j → reading q.bytes ≡ Ok p → ActsBy j p judged rest → Follows judged rest
    request_so (ignored_as cause rcode) p judged rest e read a = subst (λ x. Follows x rest) (sym a.0) (answers cause rcode p rest e read a.1)
    request_so telling p judged rest e read a = got_so judged rest a (ap (λ (x : Verdict). x.note) e)
    request_so serving p judged rest e read a = got_so judged rest a (ap (λ (x : Verdict). x.note) e)

    silent_so : (cause : Cause) (judged : Judged) (rest : List Note) → V ≡ verdict (notes.Ignored serial cause) None → (judged ≡ judgements.Ignored cause) × (rest ≡ []) → Follows judged rest
    silent_so cause judged rest e a = subst (λ x. Follows x rest) (sym a.0) (silent cause rest e a.1)

    pub follows : {P : Type 0} (own : ℕ) (x : Finding P × Layer P) (judged : Judged) (rest : List Note) → RowFor t q own x → Acts x.0 judged rest → Follows judged rest
    follows own (of_generation, layer) judged rest row a = silent_so causes.Generation judged rest (by_the_row by_generation row) a
    follows own (of_grammar, layer) judged rest row a = silent_so causes.Grammar judged rest (by_the_row by_grammar row) a
    follows own (of_label, layer) judged rest row a = silent_so causes.Label judged rest (by_the_row by_label row) a
    follows own (of_response p label purpose, layer) judged rest row a = got_so judged rest a (ap (λ (v : Verdict). v.note) (by_the_row by_response row))
    follows own (of_again p rcode, layer) judged rest row a =
        subst (λ x. Follows x rest) (sym a.0)
        (answers causes.Again rcode p rest (by_the_row by_again row.asks.row_is ∙ ap (λ n. verdict (notes.Ignored serial causes.Again) (Some n)) (sym row.rcode_is)) row.asks.read a.1)
    follows own (of_request p, layer) judged rest row a =
        request_so (judging_for a.asks.access) p judged rest (request_verdict p a.asks.access row.row_is row.read a.asks.is) row.read a.acts
