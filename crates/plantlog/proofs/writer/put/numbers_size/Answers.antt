use Rattle.std.proofs.Common.{◌≡◌, length, sum_by, ◌∙◌, rules}
use Rattle.plantlog.specs.Numbers.{number_bytes}
use Rattle.plantlog.proofs.NumbersBytes.{size_sum}
use Rattle.plantlog.proofs.writer.put.numbers_size.Goals as goal

pub returns : goal.returns
returns c =
    let sum : c.sum.result ≡ sum_by (λ n. length (number_bytes n)) c.args.numbers.now = search rules in sum ∙ size_sum c.args.numbers.now
