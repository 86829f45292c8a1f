use Rattle.std.proofs.Common.{sym, ◌≡◌, take, arith}
use Rattle.std.proofs.lemmas.Grind.{common_steps}
use Rattle.lists.specs.Bytes.{over}
use Rattle.writing.proofs.Verdicts.{no_form_written, not_written, no_room, done}
use Rattle.writing.proofs.write.Goals as goal

pub returns-in_default : goal.returns-in_default
returns-in_default c = let told = no_form_written _ _ _ c.in_default.ensures in record { value = told.0; out_after = told.1 }

pub returns-then-not-takes_fields : goal.returns-then-not-takes_fields
returns-then-not-takes_fields c =
    let t = rw c.call_kinds.ensures.kinds at c.takes_fields.ensures in
    let told = not_written _ _ _ _ c.in-Some.ensures _ t c.if-not-takes_fields.true in
    record { value = told.0; out_after = told.1 }

pub returns-then-out-n : goal.returns-then-out-n
returns-then-out-n c =
    let t = rw c.call_kinds.ensures.kinds at c.takes_fields.ensures in
    let told = no_room _ _ _ _ c.in-Some.ensures _ t c.if-not-takes_fields.false c.put_line.ensures.wrote c.if-out-n.true in
    record { value = told.0; out_after = told.1 }

pub returns : goal.returns
returns c =
    let t = rw c.call_kinds.ensures.kinds at c.takes_fields.ensures in
    let same = sym c.put_line.ensures.same_room in
    let u : c.put.new.dst ≡ over c.args.out.now 0 (take c.put_line.new.text.at c.put_line.new.text.out.now) = grind (arith, common_steps, c.put.ensures, same) in
    let told = done _ _ _ _ c.in-Some.ensures _ t c.if-not-takes_fields.false c.put_line.ensures.wrote _ c.if-out-n.false u in
    record { value = told.0; out_after = told.1 }
