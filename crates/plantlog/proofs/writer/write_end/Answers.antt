use Rattle.std.proofs.Common.{[], ◌∷◌, refl}
use Rattle.plantlog.specs.Format.{End}
use Rattle.plantlog.proofs.WriteBack.{wrote}
use Rattle.plantlog.proofs.writer.write_end.Goals as goal

pub returns : goal.returns
returns c =
    let put = c.put_record.ensures in
    wrote (End c.args.counts) _ (c.args.counts ∷ []) c.put_record.result c.put_record.new.out c.args.out.now refl refl refl put.small put.value put.after
