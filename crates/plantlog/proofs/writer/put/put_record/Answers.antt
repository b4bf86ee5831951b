use Rattle.std.proofs.Common.{◌+◌, ◌∷◌, ◌++◌, drop, ap, ◌∙◌, arith, rules}
use Rattle.plantlog.specs.Format.{numbers_bytes, framed}
use Rattle.plantlog.proofs.WriteFacts.{sayable}
use Rattle.plantlog.proofs.NumbersBytes.{size_few}
use Rattle.plantlog.proofs.PutRecord.{put_answer, put_after}
use Rattle.plantlog.proofs.writer.put.put_record.Goals as goal

pub overflow_add-size : goal.overflow_add-size
overflow_add-size c = omega (arith, size_few c.args.numbers.now)

pub overflow_add-size-2 : goal.overflow_add-size-2
overflow_add-size-2 c = omega (arith, size_few c.args.numbers.now)

pub overflow_cast-out : goal.overflow_cast-out
overflow_cast-out c = omega (arith, size_few c.args.numbers.now)

pub returns : goal.returns
returns c =
    let bytes = numbers_bytes c.args.numbers.now in
    record {
      value = put_answer c.from.result bytes c.args.out.now _ (omega arith) c.if-out-size.false;
      small = sayable c.args.numbers.now (λ i. omega (arith, c.type_inv.numbers i));
      after = put_after _ bytes c.args.out.now _ (omega arith) c.if-out-size.false _ c.put_numbers.ensures ∙ ap (λ k. framed (k ∷ bytes) ++ drop (c.numbers_size-size.result + 1 + 1) c.args.out.now) c.from.ensures;
    }

pub returns-then-out-size : goal.returns-then-out-size
returns-then-out-size c =
    record { value = search rules; small = sayable c.args.numbers.now (λ i. omega (arith, c.type_inv.numbers i)); after = search rules }
