use Rattle.std.proofs.lemmas.List.{length-take-le}
use Rattle.std.proofs.lemmas.Result.{err_from_is_err_and}
use Rattle.plantlog.proofs.TableRead.{refused_count, refused_weight, refused_whole, refused_more, accepted}
use Rattle.plantlog.proofs.weights.table.Goals as goal

pub returns-in_err-classes : goal.returns-in_err-classes
returns-in_err-classes g c =
    let p = err_from_is_err_and c.from_residual.result c.from_residual.ensures.1 in
    rw (p.1, p.2) (refused_count _ c.args.bytes.now _ c.in_err-classes.ensures.value)

pub returns-in_err-weights : goal.returns-in_err-weights
returns-in_err-weights g c =
    let p = err_from_is_err_and c.from_residual-in_err-weights.result c.from_residual-in_err-weights.ensures.1 in
    let k = c.in_ok-classes in
    rw (p.1, p.2) (refused_weight _ c.args.bytes.now k.field-0 _ k.ensures.value _ _ (length-take-le k.field-0 _ k.ensures.limits.1) c.in_err-weights.ensures)

pub returns-in_err-table : goal.returns-in_err-table
returns-in_err-table g c =
    let p = err_from_is_err_and c.from_residual-in_err-table.result c.from_residual-in_err-table.ensures.1 in
    let k = c.in_ok-classes in
    rw (p.1, p.2) (refused_whole _ c.args.bytes.now k.field-0 _ k.ensures.value _ _ _ (length-take-le k.field-0 _ k.ensures.limits.1) c.in_ok-weights.ensures _ c.in_err-table.ensures)

pub returns-in_err-end : goal.returns-in_err-end
returns-in_err-end g c =
    let p = err_from_is_err_and c.from_residual-in_err-end.result c.from_residual-in_err-end.ensures.1 in
    let k = c.in_ok-classes in
    rw (p.1, p.2) (refused_more _ c.args.bytes.now k.field-0 _ k.ensures.value _ _ _ (length-take-le k.field-0 _ k.ensures.limits.1) c.in_ok-weights.ensures _ c.in_ok-table.ensures _ c.in_err-end.ensures)

pub returns : goal.returns
returns g c =
    let k = c.in_ok-classes in
    accepted _ c.args.bytes.now k.field-0 _ k.ensures.value _ _ _ (length-take-le k.field-0 _ k.ensures.limits.1) c.in_ok-weights.ensures _ c.in_ok-table.ensures c.in_ok-end.ensures
