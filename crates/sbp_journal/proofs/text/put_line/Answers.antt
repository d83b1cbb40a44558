-- The line stands behind the bytes and the room.
use Rattle.sbp_journal.proofs.LineWords.{line_behind}
use Rattle.sbp_journal.proofs.text.put_line.Goals as goal

pub returns : goal.returns
returns c =
    line_behind c.args.out.now c.args.room.now c.make_room.new.bytes c.make_room.new.room c.push_words.new.out c.push_words.new.room c.make_room-2.new.bytes c.make_room-2.new.room c.push_byte.new.self c.args.note.now
    c.in_ok-make_room.ensures.text c.in_ok-push_words.ensures c.in_ok-make_room-2.ensures.text c.push_byte.ensures.text
