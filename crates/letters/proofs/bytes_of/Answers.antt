use Rattle.std.proofs.Common.{◌≡◌, ◌%◌, ◌/◌, arith}
use Rattle.model.specs.Names.{name_bytes}
use Rattle.letters.proofs.bytes_of.Goals as goal

-- the highest byte of a number of 64 bits is below 256
pub returns : goal.returns
unfolding name_bytes
returns c =
    let e : c.args.n / 72057594037927936 % 256 ≡ c.args.n / 72057594037927936 = omega arith in
    rw e at c.to_be_bytes.ensures
