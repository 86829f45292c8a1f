use Rattle.std.proofs.Common.{refl, arith}
use Rattle.rewriting.proofs.Lent.{filled_long}
use Rattle.rewriting.proofs.Answers.{line_few, line_written, line_counted, line_uncounted, line_refused}
use Rattle.rewriting.proofs.RewriterLineWork.take.Goals as goal

pub slice_bounds-write-end : goal.slice_bounds-write-end
slice_bounds-write-end c = search filled_long

pub returns-in_default : goal.returns-in_default
returns-in_default c =
    let r = c.read_line-request.ensures in
    let w = c.write.ensures in
    let none = c.in_default.not-Done in
    record {
      ready = tt;
      session = refl;
      number = line_uncounted _ _ _ _ c.args.at _ _ r.value r.bytes_after c.requires.room w.value w.out_after _ none;
      said = line_refused _ _ _ _ _ _ _ r.value r.bytes_after c.requires.room w.value w.out_after none;
    }

pub bounds-out-end : goal.bounds-out-end
bounds-out-end c =
    let r = c.read_line-request.ensures in
    let w = c.in-Done.ensures in
    let few = line_few _ _ c.args.out.now _ c.args.at _ _ r.value r.bytes_after c.requires.room w.value w.out_after _ refl in
    omega (arith, few)

pub returns : goal.returns
returns c =
    let r = c.read_line-request.ensures in
    let w = c.in-Done.ensures in
    record {
      ready = tt;
      session = refl;
      number = line_counted _ _ _ _ c.args.at _ _ r.value r.bytes_after c.requires.room w.value w.out_after _ _ _ refl refl;
      said = line_written _ _ _ _ _ _ _ r.value r.bytes_after c.requires.room w.value w.out_after _ refl;
    }
