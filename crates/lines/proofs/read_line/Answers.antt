use Rattle.std.proofs.Common.{◌∙◌, arith}
use Rattle.lines.proofs.Stored.{data_fits, data_digits, data_room, data_is}
use Rattle.lines.proofs.read_line.Goals as goal

pub overflow_mul-start : goal.overflow_mul-start
overflow_mul-start c = record { fits = omega (arith, data_fits _ _ _ (c.unwrap_or-request.ensures ∙ c.read.ensures) c.data_length.ensures) }

pub overflow_sub-start : goal.overflow_sub-start
overflow_sub-start c = data_fits _ _ _ (c.unwrap_or-request.ensures ∙ c.read.ensures) c.data_length.ensures

pub decode-requires : goal.decode-requires
decode-requires c =
    let is = c.unwrap_or-request.ensures ∙ c.read.ensures in
    (data_digits _ _ _ is c.data_length.ensures, data_room _ _ _ is c.data_length.ensures _ (omega arith))

pub returns-clause-bytes_after : goal.returns-clause-bytes_after
returns-clause-bytes_after c = data_is _ _ _ (c.unwrap_or-request.ensures ∙ c.read.ensures) c.data_length.ensures _ _ c.decode.ensures
