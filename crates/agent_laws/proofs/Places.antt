-- What an agent may read, and where the bytes of a buffer are moved.
use Rattle.std.proofs.Common.{◌≡◌, refl, ap, sym, ◌∙◌, ℕ, ◌*◌, Bool, true, false, cond, List, [], length, Option, Some, None}
use Rattle.std.specs.Option.{option_map}
use Rattle.orb_layout.specs.declared.command.CommandOrb.{CommandOrb}
use Rattle.orb_layout.specs.declared.status.StatusKind.{StatusKind}
use Rattle.orb_layout.specs.declared.status.StatusKind.TheVariants as kinds
use Rattle.page_table.specs.declared.segment.Segment.{Segment}
use Rattle.page_table.specs.Buffer.{single}
use Rattle.page_table.specs.Elements.{elements_of}
use Rattle.rbc_disk.specs.declared.command.Outcome.{Outcome}
use Rattle.command_agent.specs.Checks.{reads_table}
use Rattle.command_agent.specs.Steps.{unread_buffer}
use Rattle.agent_laws.specs.Calls.{Note, present_in, fetched_in}
use Rattle.agent_laws.specs.Buffers.{table_in, data_in, own_buffer, buffer_by, buffer_in, wanted_in, piece, piece_by}
use Rattle.agent_laws.specs.Answers.{to_write, EndsWhole}
use Rattle.agent_laws.specs.Transactions.{main_in}
use Rattle.agent_laws.specs.Wire.{last_in, MainReads}

-- the buffer of an ORB: its own, that of its page table, and none while this was not read
own_is : (b : Bool) (at size : ℕ) → single at (cond b 0 size) ≡ cond b [] (single at size)
own_is true at size = refl
own_is false at size = refl

pub own_known : (bytes : Option CommandOrb) (table : Option (List ℕ)) (orb : CommandOrb) → bytes ≡ Some orb → reads_table orb ≡ false → buffer_by bytes table ≡ Some (unread_buffer orb)
own_known bytes table orb got unread =
    ap (λ (b : Option CommandOrb). buffer_by b table) got
    ∙ ap (λ (b : Bool). cond b (option_map elements_of table) (Some (own_buffer orb))) unread
    ∙ ap (λ (s : List Segment). Some s) (sym (own_is orb.has_table orb.descriptor orb.data_size))

pub table_known : (bytes : Option CommandOrb) (table : Option (List ℕ)) (orb : CommandOrb) (read : List ℕ) → bytes ≡ Some orb → reads_table orb ≡ true → table ≡ Some read → buffer_by bytes table ≡ Some (elements_of read)
table_known bytes table orb read got reads is =
    ap (λ (b : Option CommandOrb). buffer_by b table) got
    ∙ ap (λ (b : Bool). cond b (option_map elements_of table) (Some (own_buffer orb))) reads
    ∙ ap (λ (t : Option (List ℕ)). option_map elements_of t) is

pub table_unknown : (bytes : Option CommandOrb) (table : Option (List ℕ)) (orb : CommandOrb) → bytes ≡ Some orb → reads_table orb ≡ true → table ≡ None → buffer_by bytes table ≡ None
table_unknown bytes table orb got reads is =
    ap (λ (b : Option CommandOrb). buffer_by b table) got
    ∙ ap (λ (b : Bool). cond b (option_map elements_of table) (Some (own_buffer orb))) reads
    ∙ ap (λ (t : Option (List ℕ)). option_map elements_of t) is

-- the next chunk of a buffer that is known
pub piece_is : (bytes : Option CommandOrb) (buffer : Option (List Segment)) (orb : CommandOrb) (segments : List Segment) (done moved total all : ℕ)
    → bytes ≡ Some orb → buffer ≡ Some segments → done ≡ moved → total ≡ all → piece_by bytes buffer done total ≡ Some (piece orb segments moved all)
piece_is bytes buffer orb segments done moved total all got over d t =
    ap (λ (b : Option CommandOrb). piece_by b buffer done total) got
    ∙ ap (λ (b : Option (List Segment)). piece_by (Some orb) b done total) over
    ∙ ap (λ (n : ℕ). Some (piece orb segments n total)) d
    ∙ ap (λ (n : ℕ). Some (piece orb segments moved n)) t

-- main reads of the right place
pub fetch_reads : (ns : List Note) (at : ℕ) → main_in ns ≡ false → present_in ns ≡ Some at → fetched_in ns ≡ None → MainReads ns at 32
fetch_reads ns at free here none = record {
  free = free;
  again = λ gone. cc;
  orb = λ own present bytes. let same : at ≡ own = cc in (same, refl);
  table = λ own orb present got reads unread. cc;
  chunks = λ own segments present known. let e : buffer_by (fetched_in ns) (table_in ns) ≡ None = ap (λ (b : Option CommandOrb). buffer_by b (table_in ns)) none in cc;
}

pub again_reads : (ns : List Note) (at : ℕ) → main_in ns ≡ false → present_in ns ≡ None → last_in ns ≡ at → MainReads ns at 8
again_reads ns at free gone last = record {
  free = free;
  again = λ _. (sym last, refl);
  orb = λ own present bytes. cc;
  table = λ own orb present got reads unread. cc;
  chunks = λ own segments present known. cc;
}

pub table_reads : (ns : List Note) (at : ℕ) (orb : CommandOrb) → main_in ns ≡ false → present_in ns ≡ Some at → fetched_in ns ≡ Some orb → reads_table orb ≡ true → table_in ns ≡ None → MainReads ns orb.descriptor (8 * orb.data_size)
table_reads ns at orb free here got reads untabled = record {
  free = free;
  again = λ gone. cc;
  orb = λ own present bytes. cc;
  table = λ own other present bytes _ unread. let same : orb ≡ other = cc in (ap (λ (o : CommandOrb). o.descriptor) same, ap (λ (o : CommandOrb). 8 * o.data_size) same);
  chunks = λ own segments present known. let e : buffer_by (fetched_in ns) (table_in ns) ≡ None = table_unknown (fetched_in ns) (table_in ns) orb got reads untabled in cc;
}

pub data_reads : (ns : List Note) (at : ℕ) (orb : CommandOrb) (segments : List Segment) (moved all : ℕ) → main_in ns ≡ false → present_in ns ≡ Some at → fetched_in ns ≡ Some orb → buffer_in ns ≡ Some segments
    → length (data_in ns) ≡ moved → wanted_in ns ≡ all → MainReads ns (piece orb segments moved all).offset (piece orb segments moved all).length
data_reads ns at orb segments moved all free here got over d t = record {
  free = free;
  again = λ gone. cc;
  orb = λ own present bytes. cc;
  table = λ own other present bytes reads unread.
      let e : buffer_by (fetched_in ns) (table_in ns) ≡ None = table_unknown (fetched_in ns) (table_in ns) other bytes reads unread in cc;
  chunks = λ own others present known. piece_is (fetched_in ns) (buffer_in ns) orb segments (length (data_in ns)) moved (wanted_in ns) all got over d t;
}

-- an ORB that has not run has nothing to be written
pub ends_whole : (kind : StatusKind) (written : List ℕ) (outcome : Option Outcome) (answer : List ℕ) → written ≡ [] → outcome ≡ None → EndsWhole kind written outcome answer
ends_whole kinds.Failed written outcome answer w o = tt
ends_whole _ written outcome answer w o = w ∙ sym (ap (λ (told : Option Outcome). to_write told answer) o)
