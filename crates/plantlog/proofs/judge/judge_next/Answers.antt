use Rattle.std.proofs.Common.{◌≤◌, length, Ok, Err, arith, rules}
use Rattle.std.proofs.lemmas.Result.{err_from_is_err_and}
use Rattle.std.proofs.lemmas.Slice.{overwrites}
use Rattle.plantlog.specs.Views.{parsed_said}
use Rattle.plantlog.proofs.Judged.{refused_front, judged}
use Rattle.plantlog.proofs.judge.judge_next.Goals as goal

pub returns-in_err-body : goal.returns-in_err-body
returns-in_err-body c =
    let p = err_from_is_err_and c.from_residual-in_err-body.result c.from_residual-in_err-body.ensures.1 in
    let wide : 63 ≤ length c.args.buf.now = omega arith in
    record {
      zero = search rules;
      value = rw (p.1, p.2) (refused_front (length c.args.buf.now) c.args.left.now wide _ c.in_err-body.ensures.value);
      room = rw p.1 tt;
    }

pub returns-in_err-parsed : goal.returns-in_err-parsed
returns-in_err-parsed c =
    let p = err_from_is_err_and c.from_residual-in_err-parsed.result c.from_residual-in_err-parsed.ensures.1 in
    let wide : 63 ≤ length c.args.buf.now = omega arith in
    let front = c.in_ok-body.ensures.value in
    record {
      zero = search rules;
      value = rw (p.1, p.2) (judged (length c.args.buf.now) c.args.left.now wide c.in_ok-body.body.now _ front (Err _) (search (rules, overwrites)));
      room = rw p.1 tt;
    }

pub returns : goal.returns
returns c =
    let wide : 63 ≤ length c.args.buf.now = omega arith in
    let front = c.in_ok-body.ensures.value in
    let room = c.in_ok-body.ensures.room in
    record {
      zero = search rules;
      value = judged (length c.args.buf.now) c.args.left.now wide c.in_ok-body.body.now _ front (Ok (parsed_said c.in_ok-parsed.parsed)) (search (rules, overwrites));
      room = (room.0, room.1, omega arith);
    }
