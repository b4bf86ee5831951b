use Rattle.std.proofs.Common.{◌≡◌, ◌++◌, take, IfSome, string_bytes}
use Rattle.daybook.specs.Lines.{printed_lines}
use Rattle.daybook.proofs.line.block.put_lines.Given as goal

abbrev pub invariant-loop-line : goal.invariant-loop-line
invariant-loop-line g l = IfSome (printed_lines g.L.Display.output (take l.line-index l.lines)) (λ bs. string_bytes l.out ≡ string_bytes l.initial.out ++ bs)
