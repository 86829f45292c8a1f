use Rattle.std.proofs.Common.{rules}
use Rattle.model.specs.Lines.{forms}
use Rattle.writing.proofs.Words.{word_room, word_then}
use Rattle.writing.proofs.put_line.Goals as goal

pub offset_bounds-call_names-form : goal.offset_bounds-call_names-form
unfolding forms
offset_bounds-call_names-form c = search rules

pub bounds-call_names-form : goal.bounds-call_names-form
unfolding forms
bounds-call_names-form c = search rules

pub put_fields-requires-clause-room : goal.put_fields-requires-clause-room
put_fields-requires-clause-room c =
    rw c.call_kinds.ensures.kinds (word_room _ _ c.call_names.ensures c.requires.known c.put_word.ensures c.requires.room)

pub returns : goal.returns
returns c = word_then _ _ c.call_names.ensures c.requires.known c.put_word.ensures (rw c.call_kinds.ensures.kinds at c.put_fields.ensures)
